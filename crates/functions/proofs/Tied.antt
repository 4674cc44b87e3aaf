-- The words agree with the set-up: the block that they are is that of the subchannel.
use Rattle.std.proofs.Common.{◌≡◌, ℕ, zero, suc, ◌<◌, ◌==◌, Bool, true, false, List, [], ◌∷◌, length, refl, sym, ap, ◌∙◌, arith, Option, Some, None}
use Rattle.std.specs.Prelude.{IfSome}
use Rattle.zbits.specs.Bits.{bit_of}
use Rattle.zbits.specs.Layout.{bit_number}
use Rattle.zbits.proofs.LayoutLemmas.{bit_number-lt}
use Rattle.scsw_irb.specs.declared.scsw.Scsw.{Scsw}
use Rattle.schib_block.specs.declared.pmcw.Pmcw.{Pmcw}
use Rattle.schib_block.specs.Modify.{modified}
use Rattle.chan_model.specs.PathSets.{in_both, is_member, mask_of_path, mask_of_paths, paths_of_mask}
use Rattle.chan_model.specs.Masks.{mask-is}
use Rattle.channel_config.specs.declared.parts.SubchannelSetup.{SubchannelSetup}
use Rattle.subchannel_model.specs.declared.state.PmcwState.{PmcwState}
use Rattle.subchannel_model.specs.Store.{installed_paths, pmcw_of}
use Rattle.functions.specs.declared.rest.Rest.{Rest}
use Rattle.functions.specs.Unwired.{Unwired, bare, path_of_mask, rest_in, state_of, unwired_of, unwired_sub, with_pmcw}

-- MODIFY SUBCHANNEL keeps them so
pub modified-tied : (setup : SubchannelSetup) (p : Pmcw) (scsw : Scsw) (up : List Bool) (rest : Rest) (takes_sense : Bool) (g : Pmcw)
    → p ≡ pmcw_of (bare setup p scsw up rest) → g.logical < 256 → g.operational < 256
    → modified takes_sense p g ≡ pmcw_of (bare setup (modified takes_sense p g) scsw up rest)
modified-tied setup p scsw up rest takes_sense g tied logical operational =
    let q = pmcw_of (bare setup p scsw up rest) in
    ap (λ (x : Pmcw). modified takes_sense x g) tied
    ∙ ap (λ (m : ℕ). record (modified takes_sense q g) { logical = m }) (sym (mask-is g.logical logical))
    ∙ ap (λ (m : ℕ). record (modified takes_sense q g) { logical = mask_of_paths (paths_of_mask g.logical); operational = m }) (sym (mask-is g.operational operational))

-- sets and paths, by their masks
bit-flag : (b : Bool) → (bit_number b == 1) ≡ b
bit-flag true = refl
bit-flag false = refl

pub set-is : (set : List Bool) → length set ≡ 8 → paths_of_mask (mask_of_paths set) ≡ set
set-is (a ∷ b ∷ c ∷ d ∷ e ∷ f ∷ g ∷ h ∷ []) long =
    let m = mask_of_paths (a ∷ b ∷ c ∷ d ∷ e ∷ f ∷ g ∷ h ∷ []) in
    let sa : bit_number a < 2 = bit_number-lt a in
    let sb : bit_number b < 2 = bit_number-lt b in
    let sc : bit_number c < 2 = bit_number-lt c in
    let sd : bit_number d < 2 = bit_number-lt d in
    let se : bit_number e < 2 = bit_number-lt e in
    let sf : bit_number f < 2 = bit_number-lt f in
    let sg : bit_number g < 2 = bit_number-lt g in
    let sh : bit_number h < 2 = bit_number-lt h in
    let n0 : bit_of m 24 ≡ bit_number a = omega (arith, sa, sb, sc, sd, se, sf, sg, sh) in
    let n1 : bit_of m 25 ≡ bit_number b = omega (arith, sa, sb, sc, sd, se, sf, sg, sh) in
    let n2 : bit_of m 26 ≡ bit_number c = omega (arith, sa, sb, sc, sd, se, sf, sg, sh) in
    let n3 : bit_of m 27 ≡ bit_number d = omega (arith, sa, sb, sc, sd, se, sf, sg, sh) in
    let n4 : bit_of m 28 ≡ bit_number e = omega (arith, sa, sb, sc, sd, se, sf, sg, sh) in
    let n5 : bit_of m 29 ≡ bit_number f = omega (arith, sa, sb, sc, sd, se, sf, sg, sh) in
    let n6 : bit_of m 30 ≡ bit_number g = omega (arith, sa, sb, sc, sd, se, sf, sg, sh) in
    let n7 : bit_of m 31 ≡ bit_number h = omega (arith, sa, sb, sc, sd, se, sf, sg, sh) in
    let f0 : (bit_of m 24 == 1) ≡ a = ap (λ (n : ℕ). n == 1) n0 ∙ bit-flag a in
    let f1 : (bit_of m 25 == 1) ≡ b = ap (λ (n : ℕ). n == 1) n1 ∙ bit-flag b in
    let f2 : (bit_of m 26 == 1) ≡ c = ap (λ (n : ℕ). n == 1) n2 ∙ bit-flag c in
    let f3 : (bit_of m 27 == 1) ≡ d = ap (λ (n : ℕ). n == 1) n3 ∙ bit-flag d in
    let f4 : (bit_of m 28 == 1) ≡ e = ap (λ (n : ℕ). n == 1) n4 ∙ bit-flag e in
    let f5 : (bit_of m 29 == 1) ≡ f = ap (λ (n : ℕ). n == 1) n5 ∙ bit-flag f in
    let f6 : (bit_of m 30 == 1) ≡ g = ap (λ (n : ℕ). n == 1) n6 ∙ bit-flag g in
    let f7 : (bit_of m 31 == 1) ≡ h = ap (λ (n : ℕ). n == 1) n7 ∙ bit-flag h in
    cc
set-is (a ∷ b ∷ c ∷ d ∷ e ∷ f ∷ g ∷ h ∷ x ∷ xs) n = absurd (omega (arith, n))
set-is [] n = absurd (omega (arith, n))
set-is (a ∷ []) n = absurd (omega (arith, n))
set-is (a ∷ b ∷ []) n = absurd (omega (arith, n))
set-is (a ∷ b ∷ c ∷ []) n = absurd (omega (arith, n))
set-is (a ∷ b ∷ c ∷ d ∷ []) n = absurd (omega (arith, n))
set-is (a ∷ b ∷ c ∷ d ∷ e ∷ []) n = absurd (omega (arith, n))
set-is (a ∷ b ∷ c ∷ d ∷ e ∷ f ∷ []) n = absurd (omega (arith, n))
set-is (a ∷ b ∷ c ∷ d ∷ e ∷ f ∷ g ∷ []) n = absurd (omega (arith, n))

own-path : (p : ℕ) → p < 8 → path_of_mask (mask_of_path (Some p)) ≡ Some p
own-path zero h = refl
own-path (suc zero) h = refl
own-path (suc (suc zero)) h = refl
own-path (suc (suc (suc zero))) h = refl
own-path (suc (suc (suc (suc zero)))) h = refl
own-path (suc (suc (suc (suc (suc zero))))) h = refl
own-path (suc (suc (suc (suc (suc (suc zero)))))) h = refl
own-path (suc (suc (suc (suc (suc (suc (suc zero))))))) h = refl
own-path (suc (suc (suc (suc (suc (suc (suc (suc p)))))))) h = absurd (omega (arith, h))

pub path-is : (path : Option ℕ) → IfSome path (λ p. p < 8) → path_of_mask (mask_of_path path) ≡ path
path-is None h = refl
path-is (Some p) h = own-path p h

-- what is packed is what was there
pub packed-is : (s : Unwired) → length s.state.pmcw.logical ≡ 8 → length s.state.pmcw.not_operational ≡ 8 → length s.state.pmcw.operational ≡ 8
    → IfSome s.state.pmcw.last_used (λ p. p < 8) → state_of (pmcw_of (unwired_sub s)) s.state.pmcw.available ≡ s.state.pmcw
packed-is s logical not_operational operational path =
    let q = s.state.pmcw in
    let first = state_of (pmcw_of (unwired_sub s)) q.available in
    ap (λ (x : List Bool). record first { logical = x }) (set-is q.logical logical)
    ∙ ap (λ (x : List Bool). record first { logical = q.logical; not_operational = x }) (set-is q.not_operational not_operational)
    ∙ ap (λ (x : Option ℕ). record first { logical = q.logical; not_operational = q.not_operational; last_used = x }) (path-is q.last_used path)
    ∙ ap (λ (x : List Bool). record first { logical = q.logical; not_operational = q.not_operational; last_used = q.last_used; operational = x }) (set-is q.operational operational)

pub whole-is : (s : Unwired) (p : Pmcw) (scsw : Scsw) → p ≡ pmcw_of (unwired_sub s) → scsw ≡ s.state.scsw
    → length s.state.pmcw.logical ≡ 8 → length s.state.pmcw.not_operational ≡ 8 → length s.state.pmcw.operational ≡ 8 → IfSome s.state.pmcw.last_used (λ n. n < 8)
    → unwired_of s.setup p scsw s.state.pmcw.available (rest_in s.state) ≡ s
whole-is s p scsw ep es logical not_operational operational path =
    ap (λ (x : Pmcw). unwired_of s.setup x scsw s.state.pmcw.available (rest_in s.state)) ep
    ∙ ap (λ (x : Scsw). unwired_of s.setup (pmcw_of (unwired_sub s)) x s.state.pmcw.available (rest_in s.state)) es
    ∙ ap (λ (x : PmcwState). with_pmcw s x) (packed-is s logical not_operational operational path)

pub whole-tied : (s : Unwired) (p : Pmcw) (scsw : Scsw) → p ≡ pmcw_of (unwired_sub s) → scsw ≡ s.state.scsw
    → length s.state.pmcw.logical ≡ 8 → length s.state.pmcw.not_operational ≡ 8 → length s.state.pmcw.operational ≡ 8 → IfSome s.state.pmcw.last_used (λ n. n < 8)
    → p ≡ pmcw_of (bare s.setup p scsw s.state.pmcw.available (rest_in s.state))
whole-tied s p scsw ep es logical not_operational operational path =
    ep ∙ ap (λ (x : Unwired). pmcw_of (unwired_sub x)) (sym (whole-is s p scsw ep es logical not_operational operational path))

-- so do LPUM, and PAM
pub used-is : (n : ℕ) → n < 8 → path_of_mask (mask_of_path (Some n)) ≡ Some n
used-is n small = own-path n small

-- the masks of the words are the sets of the subchannel
pub installed-is : (s : Unwired) (p : Pmcw) → p ≡ pmcw_of (unwired_sub s) → paths_of_mask p.installed ≡ installed_paths (unwired_sub s)
installed-is s p tied = ap (λ (x : Pmcw). paths_of_mask x.installed) tied ∙ set-is (installed_paths (unwired_sub s)) refl

pub available-is : (s : Unwired) (p : Pmcw) → p ≡ pmcw_of (unwired_sub s) → paths_of_mask p.available ≡ in_both (installed_paths (unwired_sub s)) s.state.pmcw.available
available-is s p tied = ap (λ (x : Pmcw). paths_of_mask x.available) tied ∙ set-is (in_both (installed_paths (unwired_sub s)) s.state.pmcw.available) refl

pub shown-tied : (setup : SubchannelSetup) (p : Pmcw) (scsw : Scsw) (up now : List Bool) (rest : Rest)
    → p ≡ pmcw_of (bare setup p scsw up rest)
    → record p { available = mask_of_paths (in_both (paths_of_mask p.installed) now) }
    ≡ pmcw_of (bare setup (record p { available = mask_of_paths (in_both (paths_of_mask p.installed) now) }) scsw now rest)
shown-tied setup p scsw up now rest tied =
    let q = pmcw_of (bare setup p scsw up rest) in
    let installed = installed-is (unwired_of setup p scsw up rest) p tied in
    ap (λ (x : Pmcw). record x { available = mask_of_paths (in_both (paths_of_mask p.installed) now) }) tied
    ∙ ap (λ (set : List Bool). record q { available = mask_of_paths (in_both set now) }) installed

-- a mask is a byte
pub mask-lt : (set : List Bool) → mask_of_paths set < 256
mask-lt set =
    let bit : (k : ℕ) → bit_number (is_member set k) < 2 = λ k. bit_number-lt (is_member set k) in
    omega (arith, bit 0, bit 1, bit 2, bit 3, bit 4, bit 5, bit 6, bit 7)
