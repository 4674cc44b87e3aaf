-- A relation that holds between the state of a subchannel and what each event leaves of it holds, subchannel by
-- subchannel, between the states before and after a step.
use Rattle.std.proofs.Common.{◌≡◌, refl, sym, ◌∙◌, ap, map, subst, ℕ, ◌+◌, zero, suc, Bool, true, false, nat_lt, Option, None, Some, Result, List, [], ◌∷◌, length}
use Rattle.std.specs.Prelude.{slice_get, slice_set, if◌then◌else◌, IfOk}
use Rattle.std.specs.List.{AllZip}
use Rattle.std.proofs.lemmas.List.{length-set}
use Rattle.orb_block.specs.declared.Orb.{Orb}
use Rattle.schib_block.specs.declared.pmcw.Pmcw as block
use Rattle.channel_config.specs.Setup.{Setup}
use Rattle.channel_config.specs.declared.parts.SubchannelSetup.{SubchannelSetup}
use Rattle.storage_keys.specs.Storage.{Contents}
use Rattle.chan_model.specs.declared.fault.Fault.{Fault}
use Rattle.chan_events.specs.Events.{Event}
use Rattle.chan_events.specs.declared.event.UnitAct.{UnitAct}
use Rattle.chan_events.specs.Replies.{Reply}
use Rattle.chan_model.specs.declared.answer.ConditionCode.{ConditionCode}
use Rattle.chan_model.specs.declared.answer.ConditionCode.TheVariants as code
use Rattle.chan_model.specs.Signals.{Down, Up}
use Rattle.chan_model.specs.declared.signal.Down.TheVariants as down
use Rattle.chan_model.specs.declared.unit_state.UnitState.{UnitState}
use Rattle.chan_model.specs.UnitTable as unit_table
use Rattle.chan_model.specs.UnitTable.{UnitStep, unit_takes}
use Rattle.chan_model.specs.UnitReports.{unit_reports}
use Rattle.machine_model.specs.Setups.{group_of, IsSetUp}
use Rattle.wires.specs.Queues.{queue}
use Rattle.allegiance.specs.declared.path_use.PathUse.{PathUse}
use Rattle.subchannel_model.specs.declared.state.Chosen.{Chosen}
use Rattle.subchannel_model.specs.declared.state.Chosen.TheVariants as chosen_is
use Rattle.subchannel_model.specs.declared.state.PmcwState.{PmcwState}
use Rattle.subchannel_model.specs.declared.state.Program.{Program}
use Rattle.subchannel_model.specs.declared.state.Subchannel.{Subchannel}
use Rattle.subchannel_model.specs.declared.state.SubchannelState.{SubchannelState}
use Rattle.machine_model.specs.State.{State}
use Rattle.subchannel_model.specs.declared.cause.StatusCause.TheVariants as cause
use Rattle.subchannel_model.specs.Causes.{with_cause}
use Rattle.subchannel_model.specs.Choosing.{path_use, chosen, looks_for_path, marked_state, marked_sub, reset_sent, halt_sent, offered}
use Rattle.subchannel_model.specs.Losing.{path_lost, path_index, loses_at, loses, shows_at, available_pmcw}
use Rattle.subchannel_model.specs.SystemReset.{state_reset}
use Rattle.subchannel_model.specs.Test.{tested_wholly}
use Rattle.subchannel_model.specs.Start.{started}
use Rattle.subchannel_model.specs.Taking.{takes_up}
use Rattle.machine_model.specs.Results.{SubResult, UpResult, DownResult}
use Rattle.subchannel_model.specs.Modify.{modified_state}
use Rattle.machine_model.specs.InstructionSteps.{test_with, function_sub}
use Rattle.machine_model.specs.ChooseSteps.{choose_sub}
use Rattle.subchannel_model.specs.Sending.{carried_by, finds_full}
use Rattle.machine_model.specs.UpSteps.{up_front, up_sub}
use Rattle.machine_model.specs.DownSteps.{down_front, down_sub}
use Rattle.machine_model.specs.ReportSteps.{report_taken}
use Rattle.machine_model.specs.ActSteps.{has_path_of_act, acts, act_sub}
use Rattle.machine_model.specs.declared.state.Sweep.{Sweep}
use Rattle.machine_model.specs.declared.state.Sweep.TheVariants as sweep
use Rattle.machine_model.specs.PathSteps.{swept}
use Rattle.step_laws.specs.Walks as walked
use Rattle.step_laws.specs.Walks.{Walked, Function, effect_of, OneSub, OneUnit}

-- what each event leaves of the state of a subchannel
pub record IsKept (R : SubchannelState → SubchannelState → Type 0) : Type 0 where
  pub same : (s : SubchannelState) → R s s
  pub starts : (s : SubchannelState) (orb : Orb) → R s (started s orb)
  pub tests : (s : SubchannelState) → R s (tested_wholly s)
  pub modifies : (s : SubchannelState) (pmcw : PmcwState) → R s (record s { pmcw = pmcw })
  pub functions : (s : SubchannelState) (f : Function) → R s (effect_of f s)
  pub resets : (s : SubchannelState) (path : ℕ) → R s (reset_sent s path)
  pub clears : (s : SubchannelState) → R s (with_cause s cause.ClearDone)
  pub halts : (s : SubchannelState) → R s (halt_sent s)
  pub ends : (s : SubchannelState) → R s (with_cause s cause.HaltDone)
  pub over : (s : SubchannelState) → R s (with_cause s cause.NoPath)
  pub offers : (s : SubchannelState) (program : Program) (path : ℕ) → R s (offered s program path)
  pub takes : (returns : Bool) (storage : Contents) (s : SubchannelState) (path : ℕ) (signal : Up) → R s (takes_up returns storage s path signal).step.state
  pub marks : (s new : SubchannelState) (used : PathUse) (looks : Bool) → R (marked_state s used looks) new → R s new
  pub loses : (s : SubchannelState) (path : ℕ) → R s (path_lost s path)
  pub shows : (s new : SubchannelState) (path : ℕ) (up : Bool) → R s new → R s (record new { pmcw = available_pmcw new.pmcw path up })
  pub system : (s : SubchannelState) → R s (state_reset s)

-- no event changes how a subchannel is set up
pub record Changed (R : SubchannelState → SubchannelState → Type 0) (old new : Subchannel) : Type 0 where
  pub setup : new.setup ≡ old.setup
  pub state : R old.state new.state

-- nor how many sets there are
pub record Moved (R : SubchannelState → SubchannelState → Type 0) (old new : State) : Type 0 where
  pub sets : new.sets ≡ old.sets
  pub subs : AllZip (Changed R) old.subs new.subs

pub if-ok : {A : Type 0} (P : A → Type 0) (b : Bool) (x y : Result A Fault) → IfOk x P → IfOk y P → IfOk (if b then x else y) P
if-ok P true x y e f = e
if-ok P false x y e f = f

pub zip-same : {A : Type 0} (R : A → A → Type 0) → ((x : A) → R x x) → (xs : List A) → AllZip R xs xs
zip-same R same [] = tt
zip-same R same (x ∷ xs) = (same x, zip-same R same xs)

pub zip-map : {A : Type 0} (R : A → A → Type 0) (f : A → A) → ((x : A) → R x (f x)) → (xs : List A) → AllZip R xs (map f xs)
zip-map R f each [] = tt
zip-map R f each (x ∷ xs) = (each x, zip-map R f each xs)

pub zip-set : {A : Type 0} (R : A → A → Type 0) → ((x : A) → R x x) → (xs : List A) (index : ℕ) (x y : A) → slice_get xs index ≡ Some x → R x y →
    AllZip R xs (slice_set xs index y)
zip-set R same [] index x y e r = absurd (cc e)
zip-set {A} R same (z ∷ xs) zero x y e r = let w : x ≡ z = cc e in (subst (λ (v : A). R v y) w r, zip-same R same xs)
zip-set R same (z ∷ xs) (suc index) x y e r = (same z, zip-set R same xs index x y e r)

module _ (R : SubchannelState → SubchannelState → Type 0) (k : IsKept R) where
  abbrev OkSub : Subchannel → Result SubResult Fault → Type 0
  OkSub sub r = IfOk r (λ t. Changed R sub t.sub)

  abbrev OkUp : Subchannel → Result UpResult Fault → Type 0
  OkUp sub r = IfOk r (λ t. Changed R sub t.sub)

  abbrev OkBoth : Subchannel → Result DownResult Fault → Type 0
  OkBoth sub r = IfOk r (λ t. Changed R sub t.sub)

  unchanged : (sub : Subchannel) → Changed R sub sub
  unchanged sub = record { setup = refl; state = k.same sub.state }

  -- at one subchannel
  start-kept : (sub : Subchannel) (orb : Orb) (c : ConditionCode) → Changed R sub (function_sub sub c (started sub.state orb)).sub
  start-kept sub orb code.Zero = record { setup = refl; state = k.starts sub.state orb }
  start-kept sub orb c = unchanged sub

  test-kept : (sub : Subchannel) (c : ConditionCode) → Changed R sub (test_with sub c).sub
  test-kept sub code.Zero = record { setup = refl; state = k.tests sub.state }
  test-kept sub c = unchanged sub

  modify-kept : (sub : Subchannel) (given : block.Pmcw) (c : ConditionCode) → Changed R sub (function_sub sub c (modified_state sub given)).sub
  modify-kept sub given code.Zero = record { setup = refl; state = k.modifies sub.state _ }
  modify-kept sub given c = unchanged sub

  function-kept : (sub : Subchannel) (f : Function) (c : ConditionCode) → Changed R sub (function_sub sub c (effect_of f sub.state)).sub
  function-kept sub f code.Zero = record { setup = refl; state = k.functions sub.state f }
  function-kept sub f c = unchanged sub

  choose-kept : (sub : Subchannel) (c : Chosen) → OkSub sub (choose_sub sub c)
  choose-kept sub chosen_is.Idle = unchanged sub
  choose-kept sub (chosen_is.Resets r path) =
      if-ok (λ t. Changed R sub t.sub) (finds_full sub.wires.down (carried_by sub (Some (record { path = path; signal = down.Reset r sub.state.hold.known_restarts })))) _ _ tt (record { setup = refl; state = k.resets sub.state path })
  choose-kept sub chosen_is.PerformsClear = record { setup = refl; state = k.clears sub.state }
  choose-kept sub (chosen_is.Halts t path) =
      if-ok (λ t. Changed R sub t.sub) (finds_full sub.wires.down (carried_by sub (Some (record { path = path; signal = down.Halt t })))) _ _ tt (record { setup = refl; state = k.halts sub.state })
  choose-kept sub chosen_is.PerformsHalt = record { setup = refl; state = k.ends sub.state }
  choose-kept sub chosen_is.FindsNoPath = record { setup = refl; state = k.over sub.state }
  choose-kept sub (chosen_is.Offers c path) =
      if-ok (λ t. Changed R sub t.sub) (finds_full sub.wires.down (carried_by sub (Some (record { path = path; signal = down.Select (sub.state.drawn + 1) })))) _ _ tt (record { setup = refl; state = k.offers sub.state c.program path })

  marked-kept : (sub new : Subchannel) (choice : Option ℕ) → Changed R (marked_sub sub choice) new → Changed R sub new
  marked-kept sub new choice c =
      record { setup = c.setup; state = k.marks sub.state new.state (path_use sub) (looks_for_path sub.state choice) c.state }

  shows_at-kept : (sub new : Subchannel) (path : Option ℕ) (up : Bool) → Changed R sub new → Changed R sub (shows_at path up new)
  shows_at-kept sub new None up c = c
  shows_at-kept sub new (Some path) up c = record { setup = c.setup; state = k.shows sub.state new.state path up c.state }

  loses_at-kept : (sub : Subchannel) (path : Option ℕ) → Changed R sub (loses_at path sub)
  loses_at-kept sub None = unchanged sub
  loses_at-kept sub (Some path) = record { setup = refl; state = k.loses sub.state path }

  swept-kept : (what : Sweep) (sub : Subchannel) → Changed R sub (swept what sub)
  swept-kept (sweep.GoesDown chpid) sub =
      shows_at-kept sub (loses chpid sub) (path_index chpid (loses chpid sub).setup.paths) false (loses_at-kept sub (path_index chpid sub.setup.paths))
  swept-kept (sweep.ComesUp chpid) sub = shows_at-kept sub sub (path_index chpid sub.setup.paths) true (unchanged sub)
  swept-kept (sweep.PathReset chpid) sub = loses_at-kept sub (path_index chpid sub.setup.paths)
  swept-kept sweep.SystemReset sub = record { setup = refl; state = k.system sub.state }

  up_front-kept : (returns : Bool) → (storage : Contents) (sub : Subchannel) (path : ℕ) (front : Option Up) → OkUp sub (up_front returns storage sub path front)
  up_front-kept returns storage sub path None = tt
  up_front-kept returns storage sub path (Some signal) =
      if-ok (λ t. Changed R sub t.sub) (finds_full sub.wires.down (carried_by sub (takes_up returns storage sub.state path signal).step.outcome.sent)) _ _ tt
      (record { setup = refl; state = k.takes returns storage sub.state path signal })

  up-kept : (returns : Bool) → (storage : Contents) (sub : Subchannel) (path : ℕ) → OkUp sub (up_sub returns storage sub path)
  up-kept returns storage sub path =
      if-ok (λ t. Changed R sub t.sub) (nat_lt path (length sub.setup.paths)) (up_front returns storage sub path (slice_get (queue sub.wires.up path) 0)) _
      (up_front-kept returns storage sub path (slice_get (queue sub.wires.up path) 0)) tt

  down_front-kept : (may : Bool) → (sub : Subchannel) (path : ℕ) (u : UnitState) (front : Option Down) → OkBoth sub (down_front may sub path u front)
  down_front-kept may sub path u None = tt
  down_front-kept may sub path u (Some signal) =
      if-ok (λ t. Changed R sub t.sub) (finds_full sub.wires.up (carried_by sub (unit_table.outcome_of (unit_takes u sub.setup.side path signal may)).sent)) _ _ tt
      (record { setup = refl; state = k.same sub.state })

  down-kept : (may : Bool) → (sub : Subchannel) (path : ℕ) (u : UnitState) → OkBoth sub (down_sub may sub path u)
  down-kept may sub path u =
      if-ok (λ t. Changed R sub t.sub) (nat_lt path (length sub.setup.paths)) (down_front may sub path u (slice_get (queue sub.wires.down path) 0)) _
      (down_front-kept may sub path u (slice_get (queue sub.wires.down path) 0)) tt

  report-kept : (sub : Subchannel) (step : Option UnitStep) → OkBoth sub (report_taken sub step)
  report-kept sub None = tt
  report-kept sub (Some step) =
      if-ok (λ t. Changed R sub t.sub) (finds_full sub.wires.up (carried_by sub step.sent)) _ _ tt (record { setup = refl; state = k.same sub.state })

  act-kept : (sub : Subchannel) (u : UnitState) (what : UnitAct) → OkBoth sub (act_sub sub u what)
  act-kept sub u what =
      if-ok (λ t. Changed R sub t.sub) (has_path_of_act sub what) (report_taken sub (acts u sub.setup.side what)) _
      (report-kept sub (acts u sub.setup.side what)) tt

  -- at all of them
  unmoved : (s : State) → AllZip (Changed R) s.subs s.subs
  unmoved s = zip-same (Changed R) unchanged s.subs

  set-moved : (s : State) (index : ℕ) (sub new : Subchannel) → slice_get s.subs index ≡ Some sub → Changed R sub new → AllZip (Changed R) s.subs (slice_set s.subs index new)
  set-moved s index sub new e c = zip-set (Changed R) unchanged s.subs index sub new e c

  one-moved : (s new : State) (index : ℕ) (sub after : Subchannel) → new.sets ≡ s.sets → slice_get s.subs index ≡ Some sub → new.subs ≡ slice_set s.subs index after →
      Changed R sub after → Moved R s new
  one-moved s new index sub after sets there subs c =
      record { sets = sets; subs = subst (λ (xs : List Subchannel). AllZip (Changed R) s.subs xs) (sym subs) (set-moved s index sub after there c) }

  sub-moved : (s new : State) (index : ℕ) (sub after : Subchannel) → OneSub s new index sub after → Changed R sub after → Moved R s new
  sub-moved s new index sub after one c = one-moved s new index sub after one.sets one.there one.subs c

  unit-moved : (s new : State) (index : ℕ) (sub after : Subchannel) (at : ℕ) (u v : UnitState) → OneUnit s new index sub after at u v → Changed R sub after → Moved R s new
  unit-moved s new index sub after at u v one c = one-moved s new index sub after one.sets one.there one.subs c

  pub step-moves : (s : State) (e : Event) (r : Reply) (new : State) → Walked s e r new → Moved R s new
  step-moves s _ _ _ (walked.Stays e r new q sets subs units up) =
      record { sets = sets; subs = subst (λ (xs : List Subchannel). AllZip (Changed R) s.subs xs) (sym subs) (unmoved s) }
  step-moves s _ _ _ (walked.Started cpu word address index sub orb c new n one) = sub-moved s new index sub _ one (start-kept sub orb c)
  step-moves s _ _ _ (walked.Tested e r index sub c new q one address by answers) = sub-moved s new index sub _ one (test-kept sub c)
  step-moves s _ _ _ (walked.Modified e r index sub given c new q one) = sub-moved s new index sub _ one (modify-kept sub given c)
  step-moves s _ _ _ (walked.Performed e r index sub f c new q one by answers) = sub-moved s new index sub _ one (function-kept sub f c)
  step-moves s _ _ _ (walked.Chosen word index sub choice t new n x w h one) = sub-moved s new index sub t.sub one
      (marked-kept sub t.sub choice (subst (OkSub (marked_sub sub choice)) h (choose-kept (marked_sub sub choice) (chosen sub choice))))
  step-moves s _ _ _ (walked.Met word path returns index sub t new n h one may) = sub-moved s new index sub t.sub one (subst (OkUp sub) h (up-kept returns s.storage sub path))
  step-moves s _ _ _ (walked.Sunk word path may owed index sub u t new n h one) = unit-moved s new index sub t.sub _ u _ one (subst (OkBoth sub) h (down-kept may sub path u))
  step-moves s _ _ _ (walked.Reported at index sub u report t new n k h one) =
      unit-moved s new index sub t.sub at u t.«unit» one (subst (OkBoth sub) h (report-kept sub (unit_reports u report)))
  step-moves s _ _ _ (walked.Acted at index sub u what t new side its h one) =
      unit-moved s new index sub t.sub at u t.«unit» one (subst (OkBoth sub) h (act-kept sub u what))
  step-moves s _ _ _ (walked.Restarted at owed u r new found sets subs units up) =
      record { sets = sets; subs = subst (λ (xs : List Subchannel). AllZip (Changed R) s.subs xs) (sym subs) (unmoved s) }
  step-moves s _ _ _ (walked.Swept e r what new q sets subs units by) =
      record {
        sets = sets;
        subs = subst (λ (xs : List Subchannel). AllZip (Changed R) s.subs xs) (sym subs) (zip-map (Changed R) (swept what) (swept-kept what) s.subs);
      }

any-state : IsKept (λ s new. Unit {0})
any-state = record {
  same = λ s. tt;
  starts = λ s orb. tt;
  tests = λ s. tt;
  modifies = λ s pmcw. tt;
  functions = λ s f. tt;
  resets = λ s path. tt;
  clears = λ s. tt;
  halts = λ s. tt;
  ends = λ s. tt;
  over = λ s. tt;
  offers = λ s program path. tt;
  takes = λ returns storage s path signal. tt;
  marks = λ s new used looks f. tt;
  loses = λ s path. tt;
  shows = λ s new path up f. tt;
  system = λ s. tt;
}

-- no step changes how many sets there are
pub sets-stay : (s : State) (e : Event) (r : Reply) (new : State) → Walked s e r new → new.sets ≡ s.sets
sets-stay s e r new w = (step-moves (λ s new. Unit {0}) any-state s e r new w).sets

-- nor how a subchannel is set up
same-setups : (R : SubchannelState → SubchannelState → Type 0) (old new : List Subchannel) → AllZip (Changed R) old new →
    map (λ (x : Subchannel). x.setup) new ≡ map (λ (x : Subchannel). x.setup) old
same-setups R [] [] z = refl
same-setups R [] (y ∷ ys) z = absurd z
same-setups R (x ∷ xs) [] z = absurd z
same-setups R (x ∷ xs) (y ∷ ys) z =
    ap (λ (s : SubchannelSetup). s ∷ map (λ (x : Subchannel). x.setup) ys) z.0.setup
    ∙ ap (λ (ss : List SubchannelSetup). x.setup ∷ ss) (same-setups R xs ys z.1)

pub setups-stay : (s : State) (e : Event) (r : Reply) (new : State) → Walked s e r new →
    map (λ (x : Subchannel). x.setup) new.subs ≡ map (λ (x : Subchannel). x.setup) s.subs
setups-stay s e r new w = same-setups (λ s new. Unit {0}) s.subs new.subs (step-moves (λ s new. Unit {0}) any-state s e r new w).subs

-- nor how many units there are
one_sub-units : (s new : State) (index : ℕ) (sub after : Subchannel) → OneSub s new index sub after → length new.units ≡ length s.units
one_sub-units s new index sub after one = ap (λ (us : List UnitState). length us) one.units

one_unit-units : (s new : State) (index : ℕ) (sub after : Subchannel) (at : ℕ) (u v : UnitState) → OneUnit s new index sub after at u v →
    length new.units ≡ length s.units
one_unit-units s new index sub after at u v one = ap (λ (us : List UnitState). length us) one.units ∙ length-set s.units at v

units-stay : (s : State) (e : Event) (r : Reply) (new : State) → Walked s e r new → length new.units ≡ length s.units
units-stay s _ _ _ (walked.Stays e r new q sets subs units up) = ap (λ (us : List UnitState). length us) units
units-stay s _ _ _ (walked.Started cpu word address index sub orb c new n one) = one_sub-units s new index sub _ one
units-stay s _ _ _ (walked.Tested e r index sub c new q one address by answers) = one_sub-units s new index sub _ one
units-stay s _ _ _ (walked.Modified e r index sub given c new q one) = one_sub-units s new index sub _ one
units-stay s _ _ _ (walked.Performed e r index sub f c new q one by answers) = one_sub-units s new index sub _ one
units-stay s _ _ _ (walked.Chosen word index sub choice t new n x w h one) = one_sub-units s new index sub t.sub one
units-stay s _ _ _ (walked.Met word path returns index sub t new n h one may) = one_sub-units s new index sub t.sub one
units-stay s _ _ _ (walked.Sunk word path may owed index sub u t new n h one) = one_unit-units s new index sub t.sub _ u _ one
units-stay s _ _ _ (walked.Reported at index sub u report t new n k h one) = one_unit-units s new index sub t.sub at u t.«unit» one
units-stay s _ _ _ (walked.Acted at index sub u what t new side its h one) = one_unit-units s new index sub t.sub at u t.«unit» one
units-stay s _ _ _ (walked.Restarted at owed u r new found sets subs units up) = ap (λ (us : List UnitState). length us) units ∙ length-set s.units at _
units-stay s _ _ _ (walked.Swept e r what new q sets subs units by) = ap (λ (us : List UnitState). length us) units

-- so the machine stays as it was set up
pub set_up-stays : (setup : Setup) (s : State) (e : Event) (r : Reply) (new : State) → Walked s e r new → length new.storage.keys ≡ length s.storage.keys →
    new.chpids ≡ s.chpids → map group_of new.members ≡ map group_of s.members → new.requests.numbers ≡ s.requests.numbers → new.path_return ≡ s.path_return →
    IsSetUp setup s → IsSetUp setup new
set_up-stays setup s e r new w blocks chpids groups requests path_return k = record {
  lawful = k.lawful;
  blocks = blocks ∙ k.blocks;
  sets = sets-stay s e r new w ∙ k.sets;
  subs = setups-stay s e r new w ∙ k.subs;
  units = units-stay s e r new w ∙ k.units;
  chpids = chpids ∙ k.chpids;
  groups = groups ∙ k.groups;
  requests = requests ∙ k.requests;
  path_return = path_return ∙ k.path_return;
}
