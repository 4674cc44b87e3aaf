-- The words agree with the set-up, as each of them changes.
use Rattle.std.proofs.Common.{◌≡◌, ℕ, ◌<◌, List, Bool, sym, ap, subst, ◌∙◌, Option}
use Rattle.std.specs.Prelude.{IfSome}
use Rattle.scsw_irb.specs.declared.scsw.Scsw.{Scsw}
use Rattle.schib_block.specs.declared.pmcw.Pmcw.{Pmcw}
use Rattle.chan_model.specs.PathSets.{mask_of_path, mask_of_paths, paths_of_mask}
use Rattle.channel_config.specs.declared.parts.SubchannelSetup.{SubchannelSetup}
use Rattle.chan_model.specs.Masks.{mask-is}
use Rattle.subchannel_model.specs.declared.state.PmcwState.{PmcwState}
use Rattle.subchannel_model.specs.Store.{pmcw_of}
use Rattle.functions.specs.declared.rest.Rest.{Rest}
use Rattle.functions.proofs.Tied.{mask-lt, path-is}
use Rattle.functions.specs.Unwired.{Unwired, bare, unwired_of, with_pmcw}

pub parameter-tied : (setup : SubchannelSetup) (p : Pmcw) (scsw : Scsw) (up : List Bool) (rest : Rest) (n : ℕ)
    → p ≡ pmcw_of (bare setup p scsw up rest)
    → record p { parameter = n } ≡ pmcw_of (bare setup (record p { parameter = n }) scsw up rest)
parameter-tied setup p scsw up rest n tied = ap (λ (x : Pmcw). record x { parameter = n }) tied

-- a mask is set, whichever it is: `put` does it to the word, and `shows` says where the tables have it
pub mask-tied : (put : Pmcw → ℕ → Pmcw) (setup : SubchannelSetup) (p q : Pmcw) (scsw : Scsw) (up : List Bool) (rest : Rest) (mask : ℕ) (set : List Bool)
    → p ≡ pmcw_of (bare setup p scsw up rest) → q ≡ put p mask → mask ≡ mask_of_paths set
    → ((m : ℕ) → put (pmcw_of (bare setup p scsw up rest)) (mask_of_paths (paths_of_mask m)) ≡ pmcw_of (bare setup (put p m) scsw up rest))
    → q ≡ pmcw_of (bare setup q scsw up rest)
mask-tied put setup p q scsw up rest mask set tied is of shows =
    let small : mask < 256 = subst (λ (m : ℕ). m < 256) (sym of) (mask-lt set) in
    let same : put p mask ≡ pmcw_of (bare setup (put p mask) scsw up rest) =
    ap (λ (x : Pmcw). put x mask) tied ∙ ap (put (pmcw_of (bare setup p scsw up rest))) (sym (mask-is mask small)) ∙ shows mask in
    subst (λ (x : Pmcw). x ≡ pmcw_of (bare setup x scsw up rest)) (sym is) same

-- and the subchannel shows the set of the mask, as `index` has it of its state
pub mask-shown : (put : Pmcw → ℕ → Pmcw) (index : PmcwState → List Bool → PmcwState) (setup : SubchannelSetup) (p q : Pmcw) (scsw : Scsw) (up : List Bool) (rest : Rest) (mask : ℕ) (set : List Bool) (now : Unwired)
    → q ≡ put p mask → paths_of_mask mask ≡ set → unwired_of setup p scsw up rest ≡ now
    → (let before = unwired_of setup p scsw up rest in unwired_of setup (put p mask) scsw up rest ≡ with_pmcw before (index before.state.pmcw (paths_of_mask mask)))
    → unwired_of setup q scsw up rest ≡ with_pmcw now (index now.state.pmcw set)
mask-shown put index setup p q scsw up rest mask set now is of before shows =
    ap (λ (x : Pmcw). unwired_of setup x scsw up rest) is ∙ shows
    ∙ ap (λ (paths : List Bool). with_pmcw (unwired_of setup p scsw up rest) (index (unwired_of setup p scsw up rest).state.pmcw paths)) of
    ∙ ap (λ (x : Unwired). with_pmcw x (index x.state.pmcw set)) before

pub path-tied : (setup : SubchannelSetup) (p : Pmcw) (scsw : Scsw) (up : List Bool) (rest : Rest) (path : Option ℕ)
    → p ≡ pmcw_of (bare setup p scsw up rest) → IfSome path (λ n. n < 8)
    → record p { last_used = mask_of_path path } ≡ pmcw_of (bare setup (record p { last_used = mask_of_path path }) scsw up rest)
path-tied setup p scsw up rest path tied small =
    ap (λ (x : Pmcw). record x { last_used = mask_of_path path }) tied
    ∙ ap (λ (o : Option ℕ). record (pmcw_of (bare setup p scsw up rest)) { last_used = mask_of_path o }) (sym (path-is path small))
