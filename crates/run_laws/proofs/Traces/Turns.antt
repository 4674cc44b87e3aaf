-- What a step does at one index: to the subchannel, to its unit, and to the trace.
use Rattle.std.proofs.Common.{◌≡◌, ◌≢◌, refl, sym, ◌∙◌, ap, subst, ℕ, ◌+◌, ◌==◌, Bool, true, false, Option, None, Some, Result, Ok, Err, List, length, inl, inr}
use Rattle.std.specs.Prelude.{map, slice_get, slice_set, if◌then◌else◌, nat_lt, IfOk, IfSome}
use Rattle.std.proofs.lemmas.Bool.{eqb-true, and_parts}
use Rattle.orb_block.specs.declared.Orb.{Orb}
use Rattle.schib_block.specs.declared.pmcw.Pmcw as block
use Rattle.storage_keys.specs.Storage.{Contents}
use Rattle.chan_model.specs.declared.fault.Fault.{Fault}
use Rattle.chan_model.specs.declared.fault.Fault.TheVariants as fault
use Rattle.chan_events.specs.Events.{Event}
use Rattle.chan_events.specs.declared.event.Event.TheVariants as event
use Rattle.chan_events.specs.declared.event.Instruction.TheVariants as instruction
use Rattle.chan_events.specs.Replies.{Reply}
use Rattle.chan_events.specs.declared.reply.Reply.TheVariants as reply
use Rattle.chan_model.specs.declared.answer.ConditionCode.{ConditionCode}
use Rattle.chan_model.specs.declared.answer.ConditionCode.TheVariants as code
use Rattle.chan_model.specs.Reports.{Report}
use Rattle.chan_model.specs.Signals.{Down, Up}
use Rattle.chan_model.specs.declared.signal.Down.TheVariants as down
use Rattle.chan_model.specs.declared.signal.OnPath.{OnPath}
use Rattle.chan_model.specs.declared.unit_state.UnitState.{UnitState}
use Rattle.chan_model.specs.declared.names.Side.{Side}
use Rattle.chan_model.specs.Sides.{same_side}
use Rattle.chan_model.specs.UnitTable as unit_table
use Rattle.chan_model.specs.UnitTable.{UnitStep, unit_takes, restarted}
use Rattle.chan_model.specs.UnitReports.{unit_reports}
use Rattle.wires.specs.Queues.{queue}
use Rattle.subchannel_model.specs.declared.state.Chosen.{Chosen}
use Rattle.subchannel_model.specs.declared.state.Chosen.TheVariants.{Resets, Halts, Offers}
use Rattle.subchannel_model.specs.declared.state.PmcwState.{PmcwState}
use Rattle.subchannel_model.specs.declared.state.Subchannel.{Subchannel}
use Rattle.subchannel_model.specs.declared.state.SubchannelState.{SubchannelState}
use Rattle.machine_model.specs.State.{State, index_of}
use Rattle.machine_model.specs.Sharing.{owing}
use Rattle.subchannel_model.specs.Indices.{reached_in}
use Rattle.subchannel_model.specs.Start.{started}
use Rattle.subchannel_model.specs.Resume.{resumed}
use Rattle.subchannel_model.specs.Halt.{halted}
use Rattle.subchannel_model.specs.Clear.{cleared}
use Rattle.subchannel_model.specs.Cancel.{cancelled}
use Rattle.subchannel_model.specs.Test.{tested_wholly}
use Rattle.subchannel_model.specs.Choosing.{chosen, marked_sub}
use Rattle.subchannel_model.specs.Taking.{takes_up}
use Rattle.machine_model.specs.Results.{SubResult, UpResult, DownResult, with_state}
use Rattle.subchannel_model.specs.Modify.{modified_state}
use Rattle.machine_model.specs.InstructionSteps.{test_with, function_sub}
use Rattle.machine_model.specs.ChooseSteps.{send_sub, choose_sub}
use Rattle.subchannel_model.specs.Sending.{carried_by, finds_full}
use Rattle.machine_model.specs.UpSteps.{up_front, up_sub}
use Rattle.machine_model.specs.DownSteps.{down_front, down_sub}
use Rattle.machine_model.specs.ReportSteps.{with_any_up, report_taken, report_sub}
use Rattle.machine_model.specs.declared.state.Sweep.{Sweep}
use Rattle.machine_model.specs.PathSteps.{swept}
use Rattle.step_laws.specs.Walks as walked
use Rattle.step_laws.specs.Walks.{Walked, IsQuiet, Suits, OneSub, OneUnit, Function, effect_of}
use Rattle.run_laws.specs.Traces.{ProgramTrace, chosen_at, taken_at, reported_at}
use Rattle.chan_model.specs.ResetCauses.{is_path}
use Rattle.run_laws.proofs.Traces.MachineTraces.{met_at, trace_after}
use Rattle.step_laws.proofs.Indices.{same-or-not, get-set, get-other, map-get}
use Rattle.run_laws.proofs.Units.UnitCurrents as hands
use Rattle.run_laws.proofs.Units.UnitActs.{IsGentle, IsActed, if-ok, act-acted, restart-gentle}
use Rattle.run_laws.proofs.Links.Vanishing.{send-ok}
use Rattle.step_laws.proofs.Marks.{marked-suits}
use Rattle.run_laws.proofs.Offers.Marks.{marked-told}
use Rattle.run_laws.proofs.Traces.Sweeps.{swept-setup}

-- no two subchannels reach the same side of a unit
abbrev pub IsOneSided : State → Type 0
IsOneSided s = (i j : ℕ) (x y : Subchannel) → slice_get s.subs i ≡ Some x → slice_get s.subs j ≡ Some y → x.setup.«unit» ≡ y.setup.«unit» →
    same_side x.setup.side y.setup.side ≡ true → i ≡ j

-- what becomes of a subchannel, of its unit and of the trace of its program
pub data IndexStep (storage : Contents) (old new : Subchannel) (u v : Option UnitState) (f : Option ProgramTrace → Option ProgramTrace) : Type 0 where
  Stays : new ≡ old → v ≡ u → ((k : Option ProgramTrace) → f k ≡ k) → IndexStep storage old new u v f
  -- instructions
  Starts_with_orb : (orb : Orb) → new ≡ with_state old (started old.state orb) → v ≡ u → ((k : Option ProgramTrace) → f k ≡ k) → IndexStep storage old new u v f
  Is_tested : new ≡ with_state old (tested_wholly old.state) → v ≡ u → ((k : Option ProgramTrace) → f k ≡ k) → IndexStep storage old new u v f
  Is_resumed : new ≡ with_state old (resumed old.state) → v ≡ u → ((k : Option ProgramTrace) → f k ≡ k) → IndexStep storage old new u v f
  Is_halted : new ≡ with_state old (halted old.state) → v ≡ u → ((k : Option ProgramTrace) → f k ≡ k) → IndexStep storage old new u v f
  Is_cleared : new ≡ with_state old (cleared old.state) → v ≡ u → ((k : Option ProgramTrace) → f k ≡ k) → IndexStep storage old new u v f
  Is_cancelled : new ≡ with_state old (cancelled old.state) → v ≡ u → ((k : Option ProgramTrace) → f k ≡ k) → IndexStep storage old new u v f
  Is_modified : (pmcw : PmcwState) → new ≡ with_state old (record old.state { pmcw = pmcw }) → v ≡ u → ((k : Option ProgramTrace) → f k ≡ k) → IndexStep storage old new u v f
  -- the subsystem chooses a path, and marks paths
  Is_chosen : (choice : Option ℕ) (t : SubResult) → Suits (chosen old choice) (marked_sub old choice).state →
      choose_sub (marked_sub old choice) (chosen old choice) ≡ Ok t → new ≡ t.sub → v ≡ u → ((k : Option ProgramTrace) → f k ≡ chosen_at (Some (marked_sub old choice)) t.reply k) → IndexStep storage old new u v f
  -- a signal comes up
  Meets : (path : ℕ) (returns : Bool) (t : UpResult) → up_sub returns storage old path ≡ Ok t → new ≡ t.sub → v ≡ u →
      ((k : Option ProgramTrace) → f k ≡ met_at storage (Some old) path k) → IndexStep storage old new u v f
  -- a signal goes down
  Sinks : (path : ℕ) (may owed : Bool) (x : UnitState) (t : DownResult) → u ≡ Some x → down_sub may old path x ≡ Ok t → new ≡ t.sub → v ≡ Some (owing owed t.«unit») →
      ((k : Option ProgramTrace) → f k ≡ taken_at t.reply k) → IndexStep storage old new u v f
  -- the unit takes its device's answer
  Is_reported : (report : Report) (x : UnitState) (t : DownResult) → u ≡ Some x → same_side old.setup.side report.side ≡ true → report_sub old x report ≡ Ok t →
      new ≡ t.sub → v ≡ Some t.«unit» → ((k : Option ProgramTrace) → f k ≡ reported_at (Some x) report k) → IndexStep storage old new u v f
  -- the unit does the same for the subchannel on its other side
  Other_sinks : (other : Subchannel) (path : ℕ) (may owed : Bool) (x : UnitState) (t : DownResult) → same_side other.setup.side old.setup.side ≡ false → u ≡ Some x →
      down_sub may other path x ≡ Ok t → new ≡ old → v ≡ Some (owing owed t.«unit») → ((k : Option ProgramTrace) → f k ≡ k) → IndexStep storage old new u v f
  Other_reported : (other : Subchannel) (report : Report) (x : UnitState) (t : DownResult) → same_side other.setup.side old.setup.side ≡ false → u ≡ Some x →
      same_side other.setup.side report.side ≡ true → report_sub other x report ≡ Ok t → new ≡ old → v ≡ Some t.«unit» → ((k : Option ProgramTrace) → f k ≡ k) →
      IndexStep storage old new u v f
  -- the unit acts of itself, or is restarted, and the subchannel may be told of it
  Unit_acts : (x y : UnitState) (sends : Option (OnPath Up)) → u ≡ Some x → ((side : Side) → IsGentle side x y) → IfSome sends (λ z. hands.IsQuiet z.signal) →
      new ≡ with_any_up old sends → v ≡ Some y → ((k : Option ProgramTrace) → f k ≡ k) → IndexStep storage old new u v f
  -- a channel path goes down, comes up or is reset, or all is reset
  Is_swept : (what : Sweep) → new ≡ swept what old → v ≡ u → ((k : Option ProgramTrace) → f k ≡ k) → IndexStep storage old new u v f

-- no event changes how a subchannel is set up
send-setup : (sub : Subchannel) (state : SubchannelState) (path : ℕ) (signal : Down) (r : Reply) → IfOk (send_sub sub state path signal r) (λ t. t.sub.setup ≡ sub.setup)
send-setup sub state path signal r = send-ok (λ t. t.sub.setup ≡ sub.setup) sub state path signal r refl

choose-setup : (sub : Subchannel) (c : Chosen) → IfOk (choose_sub sub c) (λ t. t.sub.setup ≡ sub.setup)
choose-setup sub (Resets r path) = send-setup sub _ path (down.Reset r sub.state.hold.known_restarts) (reply.ResetSent r path)
choose-setup sub (Halts t path) = send-setup sub _ path (down.Halt t) (reply.HaltSent t path)
choose-setup sub (Offers c path) = send-setup sub _ path (down.Select (sub.state.drawn + 1)) (reply.Offered (sub.state.drawn + 1) path c.resumes)
choose-setup sub other = refl

up_front-setup : (returns : Bool) → (storage : Contents) (sub : Subchannel) (path : ℕ) (front : Option Up) → IfOk (up_front returns storage sub path front) (λ t. t.sub.setup ≡ sub.setup)
up_front-setup returns storage sub path None = tt
up_front-setup returns storage sub path (Some signal) =
    if-ok (λ t. t.sub.setup ≡ sub.setup) (finds_full sub.wires.down (carried_by sub (takes_up returns storage sub.state path signal).step.outcome.sent)) _ _ tt refl

up-setup : (returns : Bool) → (storage : Contents) (sub : Subchannel) (path : ℕ) → IfOk (up_sub returns storage sub path) (λ t. t.sub.setup ≡ sub.setup)
up-setup returns storage sub path = if-ok (λ t. t.sub.setup ≡ sub.setup) (nat_lt path (length sub.setup.paths)) (up_front returns storage sub path (slice_get (queue sub.wires.up path) 0)) (Err fault.NoSuchPath) (up_front-setup returns storage sub path (slice_get (queue sub.wires.up path) 0)) tt

-- nor what a subchannel is, but for its wires
abbrev pub IsSameSub : Subchannel → Subchannel → Type 0
IsSameSub sub x = (x.setup ≡ sub.setup) × (x.state ≡ sub.state)

down_front-same : (may : Bool) → (sub : Subchannel) (path : ℕ) (u : UnitState) (front : Option Down) → IfOk (down_front may sub path u front) (λ t. IsSameSub sub t.sub)
down_front-same may sub path u None = tt
down_front-same may sub path u (Some signal) =
    if-ok (λ t. IsSameSub sub t.sub) (finds_full sub.wires.up (carried_by sub (unit_table.outcome_of (unit_takes u sub.setup.side path signal may)).sent)) _ _ tt (refl, refl)

pub down-same : (may : Bool) → (sub : Subchannel) (path : ℕ) (u : UnitState) → IfOk (down_sub may sub path u) (λ t. IsSameSub sub t.sub)
down-same may sub path u = if-ok (λ t. IsSameSub sub t.sub) (nat_lt path (length sub.setup.paths)) (down_front may sub path u (slice_get (queue sub.wires.down path) 0)) (Err fault.NoSuchPath) (down_front-same may sub path u (slice_get (queue sub.wires.down path) 0)) tt

report_taken-same : (sub : Subchannel) (step : Option UnitStep) → IfOk (report_taken sub step) (λ t. IsSameSub sub t.sub)
report_taken-same sub None = tt
report_taken-same sub (Some step) = if-ok (λ t. IsSameSub sub t.sub) (finds_full sub.wires.up (carried_by sub step.sent)) _ _ tt (refl, refl)

pub report-same : (sub : Subchannel) (u : UnitState) (report : Report) → IfOk (report_sub sub u report) (λ t. IsSameSub sub t.sub)
report-same sub u report = report_taken-same sub (unit_reports u report)

-- an event that tells nothing
quiet-trace : (index : ℕ) (s : State) (e : Event) (r : Reply) → IsQuiet e r → (k : Option ProgramTrace) → trace_after index s e r k ≡ k
quiet-trace index s (event.Choose word) r q k = absurd q
quiet-trace index s (event.Up word path) r q k = absurd q
quiet-trace index s (event.Down word path) r q k = absurd q
quiet-trace index s (event.Report at report) r q k = absurd q
quiet-trace index s e r q k = refl

module _ (s : State) (one : IsOneSided s) (index : ℕ) where
  -- what there is at the index after a step, and what was before
  abbrev At : State → (Option ProgramTrace → Option ProgramTrace) → Type 0
  At new f = (x : Subchannel) → slice_get new.subs index ≡ Some x →
      (sub : Subchannel) × (slice_get s.subs index ≡ Some sub) × (x.setup ≡ sub.setup)
      × IndexStep s.storage sub x (slice_get s.units sub.setup.«unit») (slice_get new.units sub.setup.«unit») f

  -- the event at an index, and at another
  here : (p : Option ℕ) (at : ℕ) (f : Option ProgramTrace → Option ProgramTrace) → p ≡ Some at → (at == index) ≡ true → (k : Option ProgramTrace) → (if is_path p index then f k else k) ≡ f k
  here p at f n e k = ap (λ (b : Bool). if b then f k else k) (ap (λ (q : Option ℕ). is_path q index) n ∙ e)

  elsewhere : (p : Option ℕ) (at : ℕ) (f : Option ProgramTrace → Option ProgramTrace) → p ≡ Some at → (at == index) ≡ false → (k : Option ProgramTrace) → (if is_path p index then f k else k) ≡ k
  elsewhere p at f n e k = ap (λ (b : Bool). if b then f k else k) (ap (λ (q : Option ℕ). is_path q index) n ∙ e)

  -- the subchannels stay
  stays : (new : State) (f : Option ProgramTrace → Option ProgramTrace) → new.subs ≡ s.subs → new.units ≡ s.units → ((k : Option ProgramTrace) → f k ≡ k) → At new f
  stays new f subs units same x e =
      (x, ap (λ (xs : List Subchannel). slice_get xs index) (sym subs) ∙ e, refl, Stays refl (ap (λ (us : List UnitState). slice_get us x.setup.«unit») units) same)

  -- one subchannel
  sub-turns : (new : State) (at : ℕ) (sub after : Subchannel) (f : Option ProgramTrace → Option ProgramTrace) → OneSub s new at sub after → after.setup ≡ sub.setup →
      (slice_get s.subs index ≡ Some sub → (at == index) ≡ true → IndexStep s.storage sub after (slice_get s.units sub.setup.«unit») (slice_get s.units sub.setup.«unit») f) →
      ((at == index) ≡ false → (k : Option ProgramTrace) → f k ≡ k) → At new f
  sub-turns new at sub after f o kept mine other x h =
      let g : slice_get (slice_set s.subs at after) index ≡ Some x = subst (λ (xs : List Subchannel). slice_get xs index ≡ Some x) o.subs h in
      elim (same-or-not at index) [
        | inl w ↦
            let there : slice_get s.subs index ≡ Some sub = ap (λ (i : ℕ). slice_get s.subs i) (sym w.0) ∙ o.there in
            let is : slice_get (slice_set s.subs at after) index ≡ Some after = ap (λ (i : ℕ). slice_get (slice_set s.subs at after) i) (sym w.0) ∙ get-set s.subs at sub after o.there in
            let same : x ≡ after = cc (sym g ∙ is) in (
              sub,
              there,
              ap (λ (z : Subchannel). z.setup) same ∙ kept,
              subst (λ (z : Subchannel). IndexStep s.storage sub z (slice_get s.units sub.setup.«unit») (slice_get new.units sub.setup.«unit») f) (sym same)
                  (subst (λ (us : List UnitState). IndexStep s.storage sub after (slice_get s.units sub.setup.«unit») (slice_get us sub.setup.«unit») f) (sym o.units) (mine there w.1)),
            )
        | inr w ↦
            (x, sym (get-other s.subs at after index (λ n. w.0 (sym n))) ∙ g, refl, Stays refl (ap (λ (us : List UnitState). slice_get us x.setup.«unit») o.units) (other w.1))
      ]

  quiet-turns : (new : State) (e : Event) (r : Reply) (at : ℕ) (sub after : Subchannel) → OneSub s new at sub after → after.setup ≡ sub.setup → IsQuiet e r →
      IndexStep s.storage sub after (slice_get s.units sub.setup.«unit») (slice_get s.units sub.setup.«unit») (trace_after index s e r) → At new (trace_after index s e r)
  quiet-turns new e r at sub after o kept q mine = sub-turns new at sub after (trace_after index s e r) o kept (λ there w. mine) (λ w. quiet-trace index s e r q)

  -- another subchannel of the same unit is on its other side
  other-side : (at : ℕ) (sub x : Subchannel) → slice_get s.subs at ≡ Some sub → slice_get s.subs index ≡ Some x → at ≢ index → sub.setup.«unit» ≡ x.setup.«unit» →
      same_side sub.setup.side x.setup.side ≡ false
  other-side at sub x e f n same = by (same_side sub.setup.side x.setup.side) refl
    where
      by : (b : Bool) → same_side sub.setup.side x.setup.side ≡ b → same_side sub.setup.side x.setup.side ≡ false
      by true w = absurd (n (one at index sub x e f same w))
      by false w = w

  -- one subchannel and its unit
  unit-turns : (new : State) (at i : ℕ) (sub after : Subchannel) (u v : UnitState) (f : Option ProgramTrace → Option ProgramTrace) → OneUnit s new at sub after i u v → i ≡ sub.setup.«unit» →
      after.setup ≡ sub.setup → ((at == index) ≡ true → IndexStep s.storage sub after (Some u) (Some v) f) →
      ((x : Subchannel) → same_side sub.setup.side x.setup.side ≡ false → (at == index) ≡ false → IndexStep s.storage x x (Some u) (Some v) f) →
      ((at == index) ≡ false → (k : Option ProgramTrace) → f k ≡ k) → At new f
  unit-turns new at i sub after u v f o its kept mine theirs other x h =
      let g : slice_get (slice_set s.subs at after) index ≡ Some x = subst (λ (xs : List Subchannel). slice_get xs index ≡ Some x) o.subs h in
      let now : slice_get new.units i ≡ Some v = subst (λ (us : List UnitState). slice_get us i ≡ Some v) (sym o.units) (get-set s.units i u v o.found) in
      elim (same-or-not at index) [
        | inl w ↦
            let there : slice_get s.subs index ≡ Some sub = ap (λ (j : ℕ). slice_get s.subs j) (sym w.0) ∙ o.there in
            let is : slice_get (slice_set s.subs at after) index ≡ Some after = ap (λ (j : ℕ). slice_get (slice_set s.subs at after) j) (sym w.0) ∙ get-set s.subs at sub after o.there in
            let same : x ≡ after = cc (sym g ∙ is) in (
              sub,
              there,
              ap (λ (z : Subchannel). z.setup) same ∙ kept,
              subst (λ (z : Subchannel). IndexStep s.storage sub z (slice_get s.units sub.setup.«unit») (slice_get new.units sub.setup.«unit») f) (sym same)
                  (subst (λ (j : ℕ). IndexStep s.storage sub after (slice_get s.units j) (slice_get new.units j) f) its
                  (subst (λ (q : Option UnitState). IndexStep s.storage sub after q (slice_get new.units i) f) (sym o.found)
                  (subst (λ (q : Option UnitState). IndexStep s.storage sub after (Some u) q f) (sym now) (mine w.1)))),
            )
        | inr w ↦
            let was : slice_get s.subs index ≡ Some x = sym (get-other s.subs at after index (λ n. w.0 (sym n))) ∙ g in
            elim (same-or-not i x.setup.«unit») [
              | inl same ↦ (
                x,
                was,
                refl,
                subst (λ (j : ℕ). IndexStep s.storage x x (slice_get s.units j) (slice_get new.units j) f) same.0
                    (subst (λ (q : Option UnitState). IndexStep s.storage x x q (slice_get new.units i) f) (sym o.found)
                    (subst (λ (q : Option UnitState). IndexStep s.storage x x (Some u) q f) (sym now) (theirs x (other-side at sub x o.there was w.0 (sym its ∙ same.0)) w.1))),
              )
              | inr l ↦ (
                x,
                was,
                refl,
                Stays refl (ap (λ (us : List UnitState). slice_get us x.setup.«unit») o.units ∙ get-other s.units i v x.setup.«unit» (λ n. l.0 (sym n))) (other w.1),
              )
            ]
      ]

  -- a unit alone
  alone-turns : (new : State) (i : ℕ) (u v : UnitState) (f : Option ProgramTrace → Option ProgramTrace) → slice_get s.units i ≡ Some u → new.subs ≡ s.subs → new.units ≡ slice_set s.units i v →
      ((side : Side) → IsGentle side u v) → ((k : Option ProgramTrace) → f k ≡ k) → At new f
  alone-turns new i u v f found subs units gentle same x h =
      let was : slice_get s.subs index ≡ Some x = subst (λ (xs : List Subchannel). slice_get xs index ≡ Some x) subs h in
      let now : slice_get new.units i ≡ Some v = subst (λ (us : List UnitState). slice_get us i ≡ Some v) (sym units) (get-set s.units i u v found) in (
        x,
        was,
        refl,
        elim (same-or-not i x.setup.«unit») [
          | inl its ↦
              Unit_acts u v None (ap (λ (j : ℕ). slice_get s.units j) (sym its.0) ∙ found) gentle tt refl (ap (λ (j : ℕ). slice_get new.units j) (sym its.0) ∙ now) same
          | inr l ↦ Stays refl (ap (λ (us : List UnitState). slice_get us x.setup.«unit») units ∙ get-other s.units i v x.setup.«unit» (λ n. l.0 (sym n))) same
        ],
      )

  -- every subchannel
  sweep-turns : (new : State) (what : Sweep) (f : Option ProgramTrace → Option ProgramTrace) → new.subs ≡ map (swept what) s.subs →
      new.units ≡ s.units → ((k : Option ProgramTrace) → f k ≡ k) → At new f
  sweep-turns new what f subs units same x h =
      let a : (sub : Subchannel) × (slice_get s.subs index ≡ Some sub) × (swept what sub ≡ x) =
      map-get (swept what) s.subs index x (subst (λ (xs : List Subchannel). slice_get xs index ≡ Some x) subs h) in (
        a.0,
        a.1,
        ap (λ (z : Subchannel). z.setup) (sym a.2) ∙ swept-setup what a.0,
        Is_swept what (sym a.2) (ap (λ (us : List UnitState). slice_get us a.0.setup.«unit») units) same,
      )

  start-turns : (e : Event) (r : Reply) (new : State) (at : ℕ) (sub : Subchannel) (orb : Orb) (c : ConditionCode) → ((k : Option ProgramTrace) → trace_after index s e r k ≡ k) →
      OneSub s new at sub (function_sub sub c (started sub.state orb)).sub → At new (trace_after index s e r)
  start-turns e r new at sub orb code.Zero q o = sub-turns new at sub _ _ o refl (λ there w. Starts_with_orb orb refl refl q) (λ w. q)
  start-turns e r new at sub orb c q o = sub-turns new at sub _ _ o refl (λ there w. Stays refl refl q) (λ w. q)

  test-turns : (e : Event) (r : Reply) (new : State) (at : ℕ) (sub : Subchannel) (c : ConditionCode) → IsQuiet e r → OneSub s new at sub (test_with sub c).sub → At new (trace_after index s e r)
  test-turns e r new at sub code.Zero q o = quiet-turns new e r at sub _ o refl q (Is_tested refl refl (quiet-trace index s e r q))
  test-turns e r new at sub c q o = quiet-turns new e r at sub _ o refl q (Stays refl refl (quiet-trace index s e r q))

  modify-turns : (e : Event) (r : Reply) (new : State) (at : ℕ) (sub : Subchannel) (given : block.Pmcw) (c : ConditionCode) → IsQuiet e r → OneSub s new at sub (function_sub sub c (modified_state sub given)).sub →
      At new (trace_after index s e r)
  modify-turns e r new at sub given code.Zero q o = quiet-turns new e r at sub _ o refl q (Is_modified _ refl refl (quiet-trace index s e r q))
  modify-turns e r new at sub given c q o = quiet-turns new e r at sub _ o refl q (Stays refl refl (quiet-trace index s e r q))

  effect : (f : Function) (sub : Subchannel) (g : Option ProgramTrace → Option ProgramTrace) → ((k : Option ProgramTrace) → g k ≡ k) →
      IndexStep s.storage sub (with_state sub (effect_of f sub.state)) (slice_get s.units sub.setup.«unit») (slice_get s.units sub.setup.«unit») g
  effect walked.Resumes sub g q = Is_resumed refl refl q
  effect walked.Halts sub g q = Is_halted refl refl q
  effect walked.Clears sub g q = Is_cleared refl refl q
  effect walked.Cancels sub g q = Is_cancelled refl refl q

  perform-turns : (e : Event) (r : Reply) (new : State) (at : ℕ) (sub : Subchannel) (f : Function) (c : ConditionCode) → IsQuiet e r →
      OneSub s new at sub (function_sub sub c (effect_of f sub.state)).sub → At new (trace_after index s e r)
  perform-turns e r new at sub f code.Zero q o = quiet-turns new e r at sub _ o refl q (effect f sub (trace_after index s e r) (quiet-trace index s e r q))
  perform-turns e r new at sub f c q o = quiet-turns new e r at sub _ o refl q (Stays refl refl (quiet-trace index s e r q))

  step-turns : (e : Event) (r : Reply) (new : State) → Walked s e r new → At new (trace_after index s e r)
  step-turns _ _ _ (walked.Stays e r new q sets subs units up) = stays new (trace_after index s e r) subs units (quiet-trace index s e r q)
  step-turns _ _ _ (walked.Started cpu word address at sub orb c new n o) = start-turns (event.Execute cpu (instruction.Ssch word address)) (function_sub sub c (started sub.state orb)).reply new at sub orb c (λ k. refl) o
  step-turns _ _ _ (walked.Tested e r at sub c new q o address by answers) = test-turns e r new at sub c q o
  step-turns _ _ _ (walked.Modified e r at sub given c new q o) = modify-turns e r new at sub given c q o
  step-turns _ _ _ (walked.Performed e r at sub f c new q o by answers) = perform-turns e r new at sub f c q o
  step-turns _ _ _ (walked.Chosen word at sub choice t new n x f h o) =
      let m : Subchannel = marked_sub sub choice in
      sub-turns new at sub t.sub _ o (subst (λ (o : Result SubResult Fault). IfOk o (λ t. t.sub.setup ≡ sub.setup)) h (choose-setup m (chosen sub choice)))
      (λ there w. Is_chosen choice t (marked-suits (chosen sub choice) sub.state m.state.pmcw m.state.scsw f) h refl refl
      (λ k. here (index_of s word) at (chosen_at (slice_get s.subs index) t.reply) n w k ∙ ap (λ q. chosen_at q t.reply k) there
      ∙ marked-told sub m.state.pmcw m.state.scsw t.reply k))
      (λ w. elsewhere (index_of s word) at (chosen_at (slice_get s.subs index) t.reply) n w)
  step-turns _ _ _ (walked.Met word path returns at sub t new n h o may) =
      sub-turns new at sub t.sub _ o (subst (λ (o : Result UpResult Fault). IfOk o (λ t. t.sub.setup ≡ sub.setup)) h (up-setup returns s.storage sub path))
      (λ there w. Meets path returns t h refl refl
      (λ k. here (index_of s word) at (met_at s.storage (slice_get s.subs index) path) n w k ∙ ap (λ q. met_at s.storage q path k) there))
      (λ w. elsewhere (index_of s word) at (met_at s.storage (slice_get s.subs index) path) n w)
  step-turns _ _ _ (walked.Sunk word path may owed at sub u t new n h o) =
      unit-turns new at sub.setup.«unit» sub t.sub u (owing owed t.«unit») _ o refl (subst (λ (o : Result DownResult Fault). IfOk o (λ t. IsSameSub sub t.sub)) h (down-same may sub path u)).0
      (λ w. Sinks path may owed u t refl h refl refl (here (index_of s word) at (taken_at t.reply) n w))
      (λ x side w. Other_sinks sub path may owed u t side refl h refl refl (elsewhere (index_of s word) at (taken_at t.reply) n w))
      (λ w. elsewhere (index_of s word) at (taken_at t.reply) n w)
  step-turns _ _ _ (walked.Reported i at sub u report t new n reached h o) =
      let both : ((sub.setup.«unit» == i) ≡ true) × (same_side sub.setup.side report.side ≡ true) = and_parts (sub.setup.«unit» == i) (same_side sub.setup.side report.side) reached in
      let g = reported_at (slice_get s.units i) report in
      unit-turns new at i sub t.sub u t.«unit» _ o (sym (eqb-true sub.setup.«unit» i both.0))
      (subst (λ (o : Result DownResult Fault). IfOk o (λ t. IsSameSub sub t.sub)) h (report-same sub u report)).0
      (λ w. Is_reported report u t refl both.1 h refl refl
      (λ k. here (reached_in i report.side s.subs) at g n w k ∙ ap (λ q. reported_at q report k) o.found))
      (λ x side w. Other_reported sub report u t side refl both.1 h refl refl (elsewhere (reached_in i report.side s.subs) at g n w))
      (λ w. elsewhere (reached_in i report.side s.subs) at g n w)
  step-turns _ _ _ (walked.Acted i at sub u what t new side its h o) =
      let acted : IsActed sub u t = subst (λ (o : Result DownResult Fault). IfOk o (IsActed sub u)) h (act-acted sub u what) in
      unit-turns new at i sub t.sub u t.«unit» _ o (sym its) (ap (λ (x : Subchannel). x.setup) acted.sub_is)
      (λ w. Unit_acts u t.«unit» acted.sends refl acted.gentle acted.quiet acted.sub_is refl (λ k. refl))
      (λ x apart w. Unit_acts u t.«unit» None refl acted.gentle tt refl refl (λ k. refl))
      (λ w k. refl)
  step-turns _ _ _ (walked.Restarted i owed u r new found sets subs units up) =
      alone-turns new i u (owing owed (restarted u)) _ found subs units (λ side. restart-gentle side owed u) (λ k. refl)
  step-turns _ _ _ (walked.Swept e r what new q sets subs units by) = sweep-turns new what _ subs units (quiet-trace index s e r q)

  pub step-happens : (e : Event) (r : Reply) (new : State) → Walked s e r new → (x : Subchannel) → slice_get new.subs index ≡ Some x →
      (sub : Subchannel) × (slice_get s.subs index ≡ Some sub) × (x.setup ≡ sub.setup)
      × IndexStep s.storage sub x (slice_get s.units sub.setup.«unit») (slice_get new.units sub.setup.«unit») (trace_after index s e r)
  step-happens e r new w = step-turns e r new w
