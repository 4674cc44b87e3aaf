-- What is seen of a subchannel is what it keeps, after each event but a choice.
use Rattle.std.proofs.Common.{◌≡◌, refl, sym, ◌∙◌, ap, subst, ℕ, ◌+◌, ◌&&◌, Bool, true, false, Option, None, Some, List, length, slice_get, if◌then◌else◌}
use Rattle.std.proofs.lemmas.List.{length-set}
use Rattle.chan_model.specs.declared.answer.ConditionCode.{ConditionCode}
use Rattle.chan_model.specs.declared.answer.ConditionCode.TheVariants as code
use Rattle.chan_model.specs.declared.hold_state.HoldState.{HoldState}
use Rattle.chan_model.specs.ResetCauses.{is_path, rests_on}
use Rattle.channel_config.specs.declared.parts.SubchannelSetup.{SubchannelSetup}
use Rattle.channel_config.specs.Setup.{are_distinct}
use Rattle.orb_block.specs.declared.Orb.{Orb}
use Rattle.schib_block.specs.declared.pmcw.Pmcw as block
use Rattle.subchannel_model.specs.declared.state.PmcwState.{PmcwState}
use Rattle.subchannel_model.specs.declared.state.Subchannel.{Subchannel}
use Rattle.subchannel_model.specs.declared.state.SubchannelState.{SubchannelState}
use Rattle.subchannel_model.specs.Cancel.{cancelled}
use Rattle.subchannel_model.specs.Clear.{cleared}
use Rattle.subchannel_model.specs.Conditions.{found_operational}
use Rattle.subchannel_model.specs.Halt.{halted}
use Rattle.subchannel_model.specs.Losing.{is_offered_or_held, reset_with, reset_for, path_lost, path_index, loses_at, loses, shows_at, goes_down}
use Rattle.subchannel_model.specs.Modify.{modified_state}
use Rattle.subchannel_model.specs.Programs.{has_any}
use Rattle.subchannel_model.specs.Resume.{resumed}
use Rattle.subchannel_model.specs.Start.{started}
use Rattle.subchannel_model.specs.SystemReset.{reset_by_system}
use Rattle.subchannel_model.specs.Test.{tested_wholly}
use Rattle.machine_model.specs.InstructionSteps.{function_sub, test_with}
use Rattle.machine_model.specs.Results.{with_state}
use Rattle.step_laws.specs.Walks as walked
use Rattle.step_laws.specs.Walks.{Function, Resumes, Clears, Cancels, effect_of}
use Rattle.run_laws.proofs.Machine.SameState.{IsSame, is-same, tested-same, halted-same}
use Rattle.run_laws.proofs.Machine.WaitingSignals.{EachSignal, lost-each}
use Rattle.run_laws.proofs.Machine.SweptPaths.{down-at}
use Rattle.run_laws.specs.Links.{SubSeen, is_on, used_by, with_up, sub_reset, sub_lost}
use Rattle.run_laws.proofs.Signals.LinkHolds.{IsHeldAs}
use Rattle.run_laws.proofs.Signals.LinkLosses.{reset-held, lost_at, lost-held, off-held}
use Rattle.run_laws.proofs.Signals.LinkMeets.{IsSeenUp}
use Rattle.run_laws.proofs.Signals.LinkPaths.{ArePaths, IsShownBy, on-path, on-none, index-is, shown-set, shown-none}
use Rattle.run_laws.proofs.Signals.LinkUnits.{IsSeenDown}

-- of one subchannel
pub record IsTied (is_up : ℕ → Bool) (k : SubSeen) (sub : Subchannel) : Type 0 where
  pub setup : k.setup ≡ sub.setup
  pub paths : ArePaths sub.setup.paths
  pub long : length sub.state.pmcw.available ≡ 8
  pub shown : IsShownBy is_up sub.setup.paths sub.state.pmcw.available
  pub held : IsHeldAs k sub.state.hold sub.state.drawn
  pub downs : EachSignal (λ p d. IsSeenDown k.drawn d) sub.wires.down
  pub ups : EachSignal (λ p x. IsSeenUp k.drawn x) sub.wires.up

-- its state alone, in what is not seen
held-as : (k : SubSeen) (h x : HoldState) (n m : ℕ) → x ≡ h → m ≡ n → IsHeldAs k h n → IsHeldAs k x m
held-as k h x n m e f tie = subst (λ (y : HoldState). IsHeldAs k y m) (sym e) (subst (λ (j : ℕ). IsHeldAs k h j) (sym f) tie)

pub same-tied : (is_up : ℕ → Bool) (k : SubSeen) (sub : Subchannel) (x : SubchannelState) → IsSame sub.state x → IsTied is_up k sub → IsTied is_up k (with_state sub x)
same-tied is_up k sub x same tie = record {
  setup = tie.setup;
  paths = tie.paths;
  long = ap length same.available ∙ tie.long;
  shown = subst (λ (available : List Bool). IsShownBy is_up sub.setup.paths available) (sym same.available) tie.shown;
  held = held-as k sub.state.hold x.hold sub.state.drawn x.drawn same.hold same.drawn tie.held;
  downs = tie.downs;
  ups = tie.ups;
}

-- with another hold
pub held-tied : (is_up : ℕ → Bool) (k next : SubSeen) (sub : Subchannel) (x : SubchannelState) → next.setup ≡ k.setup → next.drawn ≡ k.drawn → x.pmcw.available ≡ sub.state.pmcw.available →
    IsHeldAs next x.hold x.drawn → IsTied is_up k sub → IsTied is_up next (with_state sub x)
held-tied is_up k next sub x e n a held tie = record {
  setup = e ∙ tie.setup;
  paths = tie.paths;
  long = ap length a ∙ tie.long;
  shown = subst (λ (available : List Bool). IsShownBy is_up sub.setup.paths available) (sym a) tie.shown;
  held = held;
  downs = subst (λ (m : ℕ). EachSignal (λ p d. IsSeenDown m d) sub.wires.down) (sym n) tie.downs;
  ups = subst (λ (m : ℕ). EachSignal (λ p x. IsSeenUp m x) sub.wires.up) (sym n) tie.ups;
}

-- the instructions
pub start-tied : (is_up : ℕ → Bool) (k : SubSeen) (sub : Subchannel) (orb : Orb) (c : ConditionCode) → IsTied is_up k sub → IsTied is_up k (function_sub sub c (started sub.state orb)).sub
start-tied is_up k sub orb code.Zero tie = same-tied is_up k sub (started sub.state orb) (is-same sub.state (started sub.state orb) refl refl refl) tie
start-tied is_up k sub orb c tie = tie

pub test-tied : (is_up : ℕ → Bool) (k : SubSeen) (sub : Subchannel) (c : ConditionCode) → IsTied is_up k sub → IsTied is_up k (test_with sub c).sub
test-tied is_up k sub code.Zero tie = same-tied is_up k sub (tested_wholly sub.state) (tested-same sub.state) tie
test-tied is_up k sub c tie = tie

pub modify-tied : (is_up : ℕ → Bool) (k : SubSeen) (sub : Subchannel) (given : block.Pmcw) (c : ConditionCode) → IsTied is_up k sub →
    IsTied is_up k (function_sub sub c (modified_state sub given)).sub
modify-tied is_up k sub given code.Zero tie = same-tied is_up k sub (modified_state sub given) (is-same sub.state (modified_state sub given) refl refl refl) tie
modify-tied is_up k sub given c tie = tie

-- the function is not that of CLEAR
abbrev pub IsNotClear : Function → Type 0
IsNotClear Clears = ⊥
IsNotClear f = Unit {0}

operational-available : (pmcw : PmcwState) (b : Bool) → (if b then found_operational pmcw else pmcw).available ≡ pmcw.available
operational-available pmcw true = refl
operational-available pmcw false = refl

effect-tied : (is_up : ℕ → Bool) (k : SubSeen) (sub : Subchannel) (f : Function) → IsNotClear f → IsTied is_up k sub → IsTied is_up k (with_state sub (effect_of f sub.state))
effect-tied is_up k sub Resumes n tie =
    same-tied is_up k sub (resumed sub.state) (is-same sub.state (resumed sub.state) refl refl (operational-available sub.state.pmcw sub.state.scsw.activity.suspended)) tie
effect-tied is_up k sub walked.Halts n tie = same-tied is_up k sub (halted sub.state) (halted-same sub.state) tie
effect-tied is_up k sub Clears n tie = absurd n
effect-tied is_up k sub Cancels n tie = same-tied is_up k sub (cancelled sub.state) (is-same sub.state (cancelled sub.state) refl refl refl) tie

pub function-tied : (is_up : ℕ → Bool) (k : SubSeen) (sub : Subchannel) (f : Function) (c : ConditionCode) → IsNotClear f → IsTied is_up k sub →
    IsTied is_up k (function_sub sub c (effect_of f sub.state)).sub
function-tied is_up k sub f code.Zero n tie = effect-tied is_up k sub f n tie
function-tied is_up k sub f c n tie = tie

pub clear-tied : (is_up : ℕ → Bool) (k : SubSeen) (sub : Subchannel) → IsTied is_up k sub → IsTied is_up (sub_reset k) (with_state sub (cleared sub.state))
clear-tied is_up k sub tie = held-tied is_up k (sub_reset k) sub (cleared sub.state) refl refl refl (reset-held k sub.state.hold sub.state.drawn tie.held) tie

pub system-tied : (is_up : ℕ → Bool) (k : SubSeen) (sub : Subchannel) → IsTied is_up k sub → IsTied is_up (sub_reset k) (reset_by_system sub)
system-tied is_up k sub tie = held-tied is_up k (sub_reset k) sub (reset_by_system sub).state refl refl refl (reset-held k sub.state.hold sub.state.drawn tie.held) tie

-- a path is lost
lost-seen : (k : SubSeen) (used first : Bool) → ((lost_at k used first).setup ≡ k.setup) × ((lost_at k used first).drawn ≡ k.drawn)
lost-seen k true first = (refl, refl)
lost-seen k false first = (refl, refl)

-- a reset that makes a status or not
record IsDrawnAgain (s x : SubchannelState) : Type 0 where
  hold : x.hold ≡ (reset_with s false).hold
  drawn : x.drawn ≡ s.drawn + 1
  available : x.pmcw.available ≡ s.pmcw.available

reset-drawn : (s : SubchannelState) (shows : Bool) → IsDrawnAgain s (reset_with s shows)
reset-drawn s true = record { hold = refl; drawn = refl; available = refl }
reset-drawn s false = record { hold = refl; drawn = refl; available = refl }

rests-tied : (is_up : ℕ → Bool) (k next : SubSeen) (sub : Subchannel) (rests : Bool) → next.setup ≡ k.setup → next.drawn ≡ k.drawn →
    IsHeldAs next (if rests then (reset_with sub.state false).hold else sub.state.hold) (if rests then sub.state.drawn + 1 else sub.state.drawn) → IsTied is_up k sub →
    IsTied is_up next (with_state sub (if rests then reset_for sub.state else sub.state))
rests-tied is_up k next sub true e n held tie =
    let x : SubchannelState = reset_for sub.state in
    let r : IsDrawnAgain sub.state x = reset-drawn sub.state (is_offered_or_held sub.state.hold.phase && has_any sub.state.waiting sub.state.begun sub.state.suspended) in
    held-tied is_up k next sub x e n r.available (held-as next (reset_with sub.state false).hold x.hold (sub.state.drawn + 1) x.drawn r.hold r.drawn held) tie
rests-tied is_up k next sub false e n held tie = held-tied is_up k next sub sub.state e n refl held tie

-- the wires of the path are emptied
emptied-tied : (is_up : ℕ → Bool) (k : SubSeen) (sub : Subchannel) (x : SubchannelState) (p : ℕ) → IsTied is_up k (with_state sub x) → IsTied is_up k (record (loses_at (Some p) sub) { state = x })
emptied-tied is_up k sub x p tie = record {
  setup = tie.setup;
  paths = tie.paths;
  long = tie.long;
  shown = tie.shown;
  held = tie.held;
  downs = lost-each (λ p d. IsSeenDown k.drawn d) sub.wires.down p tie.downs;
  ups = lost-each (λ p x. IsSeenUp k.drawn x) sub.wires.up p tie.ups;
}

pub same-setup : (k : SubSeen) (sub : Subchannel) (o : Option ℕ) (chpid p : ℕ) → k.setup ≡ sub.setup → are_distinct sub.setup.paths ≡ true → slice_get sub.setup.paths p ≡ Some chpid → is_on k.setup o chpid ≡ is_path o p
same-setup k sub o chpid p e d at = ap (λ (s : SubchannelSetup). is_on s o chpid) e ∙ on-path sub.setup o p chpid d at

loses-tied : (is_up : ℕ → Bool) (k : SubSeen) (sub : Subchannel) (chpid : ℕ) (o : Option ℕ) → path_index chpid sub.setup.paths ≡ o → IsTied is_up k sub → IsTied is_up (sub_lost chpid k) (loses_at o sub)
loses-tied is_up k sub chpid None e tie =
    let used : is_on k.setup (used_by k.link) chpid ≡ false = ap (λ (s : SubchannelSetup). is_on s (used_by k.link) chpid) tie.setup ∙ on-none sub.setup (used_by k.link) chpid e in
    let same = lost-seen k (is_on k.setup (used_by k.link) chpid) (is_on k.setup k.first chpid) in
    held-tied is_up k (sub_lost chpid k) sub sub.state same.0 same.1 refl
    (off-held k sub.state.hold sub.state.drawn (is_on k.setup (used_by k.link) chpid) (is_on k.setup k.first chpid) used tie.held) tie
loses-tied is_up k sub chpid (Some p) e tie =
    let at : slice_get sub.setup.paths p ≡ Some chpid = index-is chpid sub.setup.paths p e in
    let used : is_on k.setup (used_by k.link) chpid ≡ is_path (used_by k.link) p = same-setup k sub (used_by k.link) chpid p tie.setup tie.paths.distinct at in
    let first : is_on k.setup k.first chpid ≡ is_path k.first p = same-setup k sub k.first chpid p tie.setup tie.paths.distinct at in
    let next : SubSeen = lost_at k (is_path (used_by k.link) p) (is_path k.first p) in
    let same = lost-seen k (is_path (used_by k.link) p) (is_path k.first p) in
    subst (λ (b : Bool). IsTied is_up (lost_at k b (is_on k.setup k.first chpid)) (loses_at (Some p) sub)) (sym used)
    (subst (λ (b : Bool). IsTied is_up (lost_at k (is_path (used_by k.link) p) b) (loses_at (Some p) sub)) (sym first)
    (emptied-tied is_up next sub (path_lost sub.state p) p
    (rests-tied is_up k next sub (rests_on sub.state.hold p) same.0 same.1 (lost-held k sub.state.hold sub.state.drawn p tie.held).held tie)))

-- the mask shows it
shows-tied : (is_up : ℕ → Bool) (b : Bool) (k : SubSeen) (sub : Subchannel) (chpid : ℕ) (o : Option ℕ) → path_index chpid sub.setup.paths ≡ o → IsTied is_up k sub →
    IsTied (with_up chpid b is_up) k (shows_at o b sub)
shows-tied is_up b k sub chpid None e tie = record {
  setup = tie.setup;
  paths = tie.paths;
  long = tie.long;
  shown = shown-none is_up b chpid sub.setup.paths sub.state.pmcw.available e tie.shown;
  held = tie.held;
  downs = tie.downs;
  ups = tie.ups;
}
shows-tied is_up b k sub chpid (Some p) e tie = record {
  setup = tie.setup;
  paths = tie.paths;
  long = length-set sub.state.pmcw.available p b ∙ tie.long;
  shown = shown-set is_up b chpid p sub.setup.paths sub.state.pmcw.available tie.paths tie.long e tie.shown;
  held = tie.held;
  downs = tie.downs;
  ups = tie.ups;
}

loses-same : (sub : Subchannel) (o : Option ℕ) → (loses_at o sub).setup ≡ sub.setup
loses-same sub None = refl
loses-same sub (Some p) = refl

pub down-tied : (is_up : ℕ → Bool) (k : SubSeen) (sub : Subchannel) (chpid : ℕ) → IsTied is_up k sub → IsTied (with_up chpid false is_up) (sub_lost chpid k) (goes_down chpid sub)
down-tied is_up k sub chpid tie =
    let o : Option ℕ = path_index chpid sub.setup.paths in
    subst (λ (y : Subchannel). IsTied (with_up chpid false is_up) (sub_lost chpid k) y) (sym (down-at chpid sub))
    (shows-tied is_up false (sub_lost chpid k) (loses_at o sub) chpid o (ap (λ (s : SubchannelSetup). path_index chpid s.paths) (loses-same sub o)) (loses-tied is_up k sub chpid o refl tie))

pub up-tied : (is_up : ℕ → Bool) (k : SubSeen) (sub : Subchannel) (chpid : ℕ) → IsTied is_up k sub → IsTied (with_up chpid true is_up) k (shows_at (path_index chpid sub.setup.paths) true sub)
up-tied is_up k sub chpid tie = shows-tied is_up true k sub chpid (path_index chpid sub.setup.paths) refl tie

pub reset-tied : (is_up : ℕ → Bool) (k : SubSeen) (sub : Subchannel) (chpid : ℕ) → IsTied is_up k sub → IsTied is_up (sub_lost chpid k) (loses chpid sub)
reset-tied is_up k sub chpid tie = loses-tied is_up k sub chpid (path_index chpid sub.setup.paths) refl tie
