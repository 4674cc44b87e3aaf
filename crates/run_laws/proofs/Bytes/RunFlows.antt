-- After each run of a lawful set-up what a device absorbed for its command are the first bytes of chunks that were copied
-- for it, side by side from the first index on.
use Rattle.std.proofs.Common.{◌≡◌, refl, sym, ap, subst, ℕ, ◌+◌, Bool, true, false, ◌==◌, ◌&&◌, Option, None, Some, Result, Ok, List, inl, inr, arith, ◌∙◌}
use Rattle.std.specs.Prelude.{if◌then◌else◌, slice_get, IfOk}
use Rattle.std.proofs.lemmas.Bool.{eq-eqb, eqb-true}
use Rattle.storage_keys.specs.Storage.{Contents}
use Rattle.channel_config.specs.Lawful.{IsLawful}
use Rattle.channel_config.specs.Setup.{Setup}
use Rattle.channel_config.specs.declared.parts.SubchannelSetup.{SubchannelSetup}
use Rattle.chan_model.specs.declared.fault.Fault.{Fault}
use Rattle.chan_model.specs.declared.names.Side.{Side}
use Rattle.chan_events.specs.declared.reply.Entry.{Entry}
use Rattle.chan_model.specs.Signals.{Down, Up}
use Rattle.chan_model.specs.declared.unit_state.UnitState.{UnitState}
use Rattle.chan_model.specs.UnitTable.{idle_unit}
use Rattle.chan_model.specs.UnitReports.{unit_reports}
use Rattle.wires.specs.Queues.{lost, no_queues}
use Rattle.subchannel_model.specs.declared.state.ActiveProgram.{ActiveProgram}
use Rattle.subchannel_model.specs.declared.state.Chosen.{Chosen}
use Rattle.subchannel_model.specs.declared.state.Subchannel.{Subchannel}
use Rattle.subchannel_model.specs.declared.state.SubchannelState.{SubchannelState}
use Rattle.subchannel_model.specs.Choosing.{chosen, marked_sub}
use Rattle.subchannel_model.specs.Resume.{resumed}
use Rattle.subchannel_model.specs.Halt.{halted}
use Rattle.subchannel_model.specs.Clear.{cleared}
use Rattle.subchannel_model.specs.Cancel.{cancelled}
use Rattle.subchannel_model.specs.Test.{tested_wholly}
use Rattle.subchannel_model.specs.Start.{started}
use Rattle.subchannel_model.specs.Losing.{is_offered_or_held, reset_with}
use Rattle.subchannel_model.specs.Programs.{has_any}
use Rattle.subchannel_model.specs.SystemReset.{state_reset}
use Rattle.machine_model.specs.declared.state.Sweep.{Sweep}
use Rattle.machine_model.specs.PathSteps.{swept}
use Rattle.machine_model.specs.State.{State, opening_of}
use Rattle.subchannel_model.specs.Opening.{opened}
use Rattle.machine_model.specs.Results.{with_state, SubResult, UpResult, DownResult}
use Rattle.machine_model.specs.ChooseSteps.{choose_sub}
use Rattle.machine_model.specs.UpSteps.{up_sub}
use Rattle.machine_model.specs.Steps.{Run, Opened, Stepped}
use Rattle.machine_model.specs.Sharing.{owing}
use Rattle.machine_model.specs.ReportSteps.{with_any_up}
use Rattle.step_laws.specs.Walks.{Suits}
use Rattle.run_laws.specs.Traces.{ProgramTrace, chosen_at, taken_at, reported_at}
use Rattle.run_laws.proofs.Traces.MachineTraces.{met_at, trace, trace_after}
use Rattle.run_laws.specs.ProgramClaims.{AbsorbsInOrder, part_of}
use Rattle.run_laws.proofs.Traces.Turns.{IndexStep, Stays, Starts_with_orb, Is_tested, Is_resumed, Is_halted, Is_cleared, Is_cancelled, Is_modified, Is_chosen, Meets, Sinks, Is_reported, Other_sinks, Other_reported, Unit_acts, Is_swept, step-happens}
use Rattle.run_laws.proofs.Traces.Ties.{AreLaws}
use Rattle.run_laws.proofs.Bytes.Accesses.{AreAccesses}
use Rattle.run_laws.proofs.Traces.Holds.{HasWork, HeldBy, marked-held}
use Rattle.run_laws.proofs.Links.Vanishing.{Fewer, lost-fewer}
use Rattle.run_laws.proofs.Traces.Sweeps.{swept-kept}
use Rattle.run_laws.proofs.Units.UnitCurrents.{IsCalm}
use Rattle.run_laws.proofs.Links.LinkNeeds.{held-needs}
use Rattle.run_laws.proofs.Commands.LinkOrders.{AtUnit, IsLinked}
use Rattle.run_laws.proofs.Traces.Caused.{tested-begun, halted-begun}
use Rattle.run_laws.proofs.Links.LinkWires.{CurrentClosed, IsGiving, IsTelling, IsClosed, IsWired}
use Rattle.run_laws.proofs.Bytes.LinkModes.{AnyGive, AnyData, Mode, Waits, Over, Reads, Writes, absorbs-none}
use Rattle.run_laws.proofs.Bytes.LinkCourses.{Course, CourseOf, Follows, Cut, over-course, fewer-course, flow-absorbs}
use Rattle.run_laws.proofs.Bytes.LinkFlows.{AtSub, choose-flows, up-flows, down-flows, report-flows, calm-flows, gentle-flows, other-down, other-told}
use Rattle.run_laws.proofs.Units.RunSides.{run-one-sided}
use Rattle.run_laws.proofs.Commands.RunOrders.{AllNeeds, on-none, unit-there, idle-there, run-linked}
use Rattle.step_laws.proofs.Indices.{map-get}
use Rattle.ccw_walk.specs.Sequences.{count}
use Rattle.run_laws.proofs.Traces.Sequences.{length-backward}

-- at one index
abbrev Flows : Side → Subchannel → Option ProgramTrace → Option UnitState → Type 0
Flows side sub k u = AtUnit (AtSub side sub k) u

flows-as : (side : Side) (new x : Subchannel) (k m : Option ProgramTrace) (u v : Option UnitState) → new.setup.side ≡ side → new ≡ x → m ≡ k → v ≡ u → Flows side x k u → Flows new.setup.side new m v
flows-as side new x k m u v a b c d l =
    subst (λ (y : Side). Flows y new m v) (sym a)
    (subst (λ (y : Subchannel). Flows side y m v) (sym b)
    (subst (λ (y : Option ProgramTrace). Flows side x y v) (sym c)
    (subst (λ (y : Option UnitState). Flows side x k y) (sym d) l)))

chosen-flows : (sub : Subchannel) (c : Chosen) (k : Option ProgramTrace) (u : Option UnitState) (t : SubResult) → Suits c sub.state → choose_sub sub c ≡ Ok t → HeldBy sub.state k →
    HeldBy t.sub.state (chosen_at (Some sub) t.reply k) → AtUnit (IsLinked sub.setup.side sub.state.drawn sub.wires.down k) u → Flows sub.setup.side sub k u →
    Flows sub.setup.side t.sub (chosen_at (Some sub) t.reply k) u
chosen-flows sub c k None t f e h i l a = absurd l
chosen-flows sub c k (Some u) t f e h i l a =
    (subst (λ (r : Result SubResult Fault). IfOk r (λ t. HeldBy t.sub.state (chosen_at (Some sub) t.reply k) → AtSub sub.setup.side t.sub (chosen_at (Some sub) t.reply k) u)) e
    (choose-flows sub c k u f h l a)) i

-- a state with the same program at work
state-flows : (sub : Subchannel) (x : SubchannelState) (k : Option ProgramTrace) (u : Option UnitState) → x.begun ≡ sub.state.begun → Flows sub.setup.side sub k u →
    Flows sub.setup.side (with_state sub x) k u
state-flows sub x k u e a =
    subst (λ (b : Option ActiveProgram). AtUnit (λ v. CourseOf sub.setup.side b k sub.wires.down sub.wires.up v) u) (sym e) a

over-flows : (sub : Subchannel) (x : SubchannelState) (k : Option ProgramTrace) (u : Option UnitState) → HeldBy sub.state k → x.begun ≡ None → Flows sub.setup.side sub k u →
    Flows sub.setup.side (with_state sub x) k u
over-flows sub x k None h e a = absurd a
over-flows sub x k (Some u) h e a =
    subst (λ (b : Option ActiveProgram). CourseOf sub.setup.side b k sub.wires.down sub.wires.up u) (sym e) (over-course sub.setup.side sub.state k sub.wires.down sub.wires.up u h a)

tested-flows : (sub : Subchannel) (k : Option ProgramTrace) (u : Option UnitState) → HeldBy sub.state k → Flows sub.setup.side sub k u → Flows sub.setup.side (with_state sub (tested_wholly sub.state)) k u
tested-flows sub k u h a =
    elim (tested-begun sub.state) [
      | inl e ↦ state-flows sub (tested_wholly sub.state) k u e a
      | inr e ↦ over-flows sub (tested_wholly sub.state) k u h e a
    ]

-- a path is lost, or all is reset
fewer-flows : (side : Side) (begun : Option ActiveProgram) (k : Option ProgramTrace) (downs after : List (List Down)) (ups later : List (List Up))
    (u : Option UnitState) → Fewer downs after → Fewer ups later →
    AtUnit (CourseOf side begun k downs ups) u → AtUnit (CourseOf side begun k after later) u
fewer-flows side begun k downs after ups later None f g a = absurd a
fewer-flows side begun k downs after ups later (Some u) f g a = fewer-course side begun k downs after ups later u f g a

reset-flows : (sub : Subchannel) (k : Option ProgramTrace) (u : Option UnitState) (shows : Bool) → HeldBy sub.state k → Flows sub.setup.side sub k u →
    Flows sub.setup.side (with_state sub (reset_with sub.state shows)) k u
reset-flows sub k u true h a = over-flows sub (reset_with sub.state true) k u h refl a
reset-flows sub k u false h a = state-flows sub (reset_with sub.state false) k u refl a

swept-flows : (what : Sweep) (x : Subchannel) (k : Option ProgramTrace) (u : Option UnitState) → HeldBy x.state k → Flows x.setup.side x k u →
    Flows (swept what x).setup.side (swept what x) k u
swept-flows what x k u h a =
    swept-kept x (λ y. Flows y.setup.side y k u) (λ y path up f. f)
    (λ path f. fewer-flows x.setup.side x.state.begun k x.wires.down (lost x.wires.down path) x.wires.up (lost x.wires.up path) u
    (lost-fewer x.wires.down path) (lost-fewer x.wires.up path) f)
    (λ wires f. reset-flows (record x { wires = wires }) k u
    (is_offered_or_held x.state.hold.phase && has_any x.state.waiting x.state.begun x.state.suspended) h f)
    (λ f. over-flows x (state_reset x.state) k u h refl f) what a

module _ (laws : AreLaws) (accesses : AreAccesses) where
  met-flows : (returns : Bool) → (storage : Contents) (sub : Subchannel) (path : ℕ) (k : Option ProgramTrace) (u : Option UnitState) (t : UpResult) → up_sub returns storage sub path ≡ Ok t → HeldBy sub.state k →
      Flows sub.setup.side sub k u → Flows sub.setup.side t.sub (met_at storage (Some sub) path k) u
  met-flows returns storage sub path k None t e h a = absurd a
  met-flows returns storage sub path k (Some u) t e h a =
      subst (λ (r : Result UpResult Fault). IfOk r (λ t. AtSub sub.setup.side t.sub (met_at storage (Some sub) path k) u)) e (up-flows laws accesses returns storage sub path k u h a)

  happens-flows : (storage : Contents) (old new : Subchannel) (u v : Option UnitState) (f : Option ProgramTrace → Option ProgramTrace) → IndexStep storage old new u v f → new.setup ≡ old.setup →
      (k : Option ProgramTrace) → HeldBy old.state k → HeldBy new.state (f k) → AtUnit (IsLinked old.setup.side old.state.drawn old.wires.down k) u → Flows old.setup.side old k u →
      Flows new.setup.side new (f k) v
  happens-flows storage old new u v f (Stays e w s) i k n m l a = flows-as old.setup.side new old k (f k) u v (ap (λ (x : SubchannelSetup). x.side) i) e (s k) w a
  happens-flows storage old new u v f (Starts_with_orb orb e w s) i k n m l a =
      flows-as old.setup.side new (with_state old (started old.state orb)) k (f k) u v (ap (λ (x : SubchannelSetup). x.side) i) e (s k) w
      (state-flows old (started old.state orb) k u refl a)
  happens-flows storage old new u v f (Is_tested e w s) i k n m l a =
      flows-as old.setup.side new (with_state old (tested_wholly old.state)) k (f k) u v (ap (λ (x : SubchannelSetup). x.side) i) e (s k) w (tested-flows old k u n a)
  happens-flows storage old new u v f (Is_resumed e w s) i k n m l a =
      flows-as old.setup.side new (with_state old (resumed old.state)) k (f k) u v (ap (λ (x : SubchannelSetup). x.side) i) e (s k) w (state-flows old (resumed old.state) k u refl a)
  happens-flows storage old new u v f (Is_halted e w s) i k n m l a =
      flows-as old.setup.side new (with_state old (halted old.state)) k (f k) u v (ap (λ (x : SubchannelSetup). x.side) i) e (s k) w (state-flows old (halted old.state) k u (halted-begun old.state) a)
  happens-flows storage old new u v f (Is_cleared e w s) i k n m l a =
      flows-as old.setup.side new (with_state old (cleared old.state)) k (f k) u v (ap (λ (x : SubchannelSetup). x.side) i) e (s k) w (over-flows old (cleared old.state) k u n refl a)
  happens-flows storage old new u v f (Is_cancelled e w s) i k n m l a =
      flows-as old.setup.side new (with_state old (cancelled old.state)) k (f k) u v (ap (λ (x : SubchannelSetup). x.side) i) e (s k) w (state-flows old (cancelled old.state) k u refl a)
  happens-flows storage old new u v f (Is_modified pmcw e w s) i k n m l a =
      flows-as old.setup.side new (with_state old (record old.state { pmcw = pmcw })) k (f k) u v (ap (λ (x : SubchannelSetup). x.side) i) e (s k) w
      (state-flows old (record old.state { pmcw = pmcw }) k u refl a)
  happens-flows storage old new u v f (Is_chosen choice t x c e w s) i k n m l a =
      let z : Subchannel = marked_sub old choice in
      flows-as old.setup.side new t.sub (chosen_at (Some z) t.reply k) (f k) u v (ap (λ (x : SubchannelSetup). x.side) i) e (s k) w
      (chosen-flows z (chosen old choice) k u t x c (marked-held old.state z.state.pmcw z.state.scsw k n)
      (subst (λ (x : Subchannel). HeldBy x.state (chosen_at (Some z) t.reply k)) e (subst (λ (x : Option ProgramTrace). HeldBy new.state x) (s k) m)) l a)
  happens-flows storage old new u v f (Meets path returns t c e w s) i k n m l a =
      flows-as old.setup.side new t.sub (met_at storage (Some old) path k) (f k) u v (ap (λ (x : SubchannelSetup). x.side) i) e (s k) w (met-flows returns storage old path k u t c n a)
  happens-flows storage old new u v f (Sinks path may owed x t is c e w s) i k n m l a =
      flows-as old.setup.side new t.sub (taken_at t.reply k) (f k) (Some (owing owed t.«unit»)) v (ap (λ (x : SubchannelSetup). x.side) i) e (s k) w
      (calm-flows old.setup.side t.sub (taken_at t.reply k) t.«unit» (owing owed t.«unit») (λ n o. (o, refl))
      (subst (λ (r : Result DownResult Fault). IfOk r (λ t. AtSub old.setup.side t.sub (taken_at t.reply k) t.«unit»)) c
      (down-flows may old path x k n (subst (AtUnit (IsLinked old.setup.side old.state.drawn old.wires.down k)) is l) (subst (Flows old.setup.side old k) is a))))
  happens-flows storage old new u v f (Is_reported report x t is same c e w s) i k n m l a =
      flows-as old.setup.side new t.sub (reported_at (Some x) report k) (f k) (Some t.«unit») v (ap (λ (x : SubchannelSetup). x.side) i) e (s k) w
      (subst (λ (r : Result DownResult Fault). IfOk r (λ t. AtSub old.setup.side t.sub (reported_at (Some x) report k) t.«unit»)) c
      (report-flows old x report k (unit_reports x report) refl same (subst (AtUnit (IsLinked old.setup.side old.state.drawn old.wires.down k)) is l) (subst (Flows old.setup.side old k) is a)))
  happens-flows storage old new u v f (Other_sinks other path may owed x t apart is c e w s) i k n m l a =
      flows-as old.setup.side new old k (f k) (Some (owing owed t.«unit»)) v (ap (λ (x : SubchannelSetup). x.side) i) e (s k) w
      (calm-flows old.setup.side old k t.«unit» (owing owed t.«unit») (λ n o. (o, refl))
      (calm-flows old.setup.side old k x t.«unit»
      (subst (λ (r : Result DownResult Fault). IfOk r (λ t. IsCalm old.setup.side x t.«unit»)) c (other-down may other old.setup.side path x apart)) (subst (Flows old.setup.side old k) is a)))
  happens-flows storage old new u v f (Other_reported other report x t apart is same c e w s) i k n m l a =
      flows-as old.setup.side new old k (f k) (Some t.«unit») v (ap (λ (x : SubchannelSetup). x.side) i) e (s k) w
      (calm-flows old.setup.side old k x t.«unit»
      (subst (λ (r : Result DownResult Fault). IfOk r (λ t. IsCalm old.setup.side x t.«unit»)) c (other-told other old.setup.side x report (unit_reports x report) refl apart same))
      (subst (Flows old.setup.side old k) is a))
  happens-flows storage old new u v f (Unit_acts x y sends is gentle quiet e w s) i k n m l a =
      flows-as old.setup.side new (with_any_up old sends) k (f k) (Some y) v (ap (λ (x : SubchannelSetup). x.side) i) e (s k) w
      (gentle-flows old.setup.side old k x y sends (gentle old.setup.side) quiet (subst (Flows old.setup.side old k) is a))
  happens-flows storage old new u v f (Is_swept what e w s) i k n m l a =
      flows-as (swept what old).setup.side new (swept what old) k (f k) u v (ap (λ (x : Subchannel). x.setup.side) e) e (s k) w (swept-flows what old k u n a)

  -- at the opening
  opens-wired : (side : Side) → IsWired side 0 0 CurrentClosed AnyGive AnyData no_queues.down no_queues.up idle_unit
  opens-wired side = record {
    hand = λ o. tt;
    gives = on-none (IsGiving 0 0 AnyGive) 8;
    tells = on-none (IsTelling 0 0 AnyData (IsClosed side 0 idle_unit)) 8;
  }

  opens-flows : (setup : Setup) → IsLawful setup → (index : ℕ) (sub : Subchannel) → slice_get (opening_of setup).subs index ≡ Some sub →
      Flows sub.setup.side sub None (slice_get (opening_of setup).units sub.setup.«unit»)
  opens-flows setup lawful index sub e =
      let a : (s : SubchannelSetup) × (slice_get setup.subchannels index ≡ Some s) × (opened s ≡ sub) = map-get opened setup.subchannels index sub e in
      let kind = unit-there setup lawful index a.0 a.1 in
      subst (λ (x : Subchannel). Flows x.setup.side x None (slice_get (opening_of setup).units x.setup.«unit»)) a.2
      (subst (Flows a.0.side (opened a.0) None) (sym (idle-there setup.units a.0.«unit» kind.0 kind.1)) (opens-wired a.0.side))

  -- after a run, given what is kept of the programs
  abbrev pub AllHeld : Setup → Type 0
  AllHeld setup = (h : List Entry) (s : State) (run : Run (opening_of setup) h s) (index : ℕ) (sub : Subchannel) → slice_get s.subs index ≡ Some sub →
      HeldBy sub.state (trace index (opening_of setup) h s run)

  held-all : (setup : Setup) → AllHeld setup → AllNeeds setup
  held-all setup held h s run index sub e = held-needs (trace index (opening_of setup) h s run) sub.state (held h s run index sub e)

  run-flows : (setup : Setup) → IsLawful setup → AllHeld setup → (h : List Entry) (s : State) (run : Run (opening_of setup) h s) (index : ℕ) (sub : Subchannel) → slice_get s.subs index ≡ Some sub →
      Flows sub.setup.side sub (trace index (opening_of setup) h s run) (slice_get s.units sub.setup.«unit»)
  run-flows setup lawful held _ _ Opened index sub e = opens-flows setup lawful index sub e
  run-flows setup lawful held _ _ (Stepped h old e r new run step) index sub at =
      let a = step-happens old (run-one-sided laws.walks setup lawful h old run) index e r new (laws.walks old e r new step) sub at in
      subst (λ (x : SubchannelSetup). Flows sub.setup.side sub (trace_after index old e r (trace index (opening_of setup) h old run)) (slice_get new.units x.«unit»)) (sym a.2)
      (happens-flows old.storage a.0 sub (slice_get old.units a.0.setup.«unit») (slice_get new.units a.0.setup.«unit») (trace_after index old e r) a.3 a.2
      (trace index (opening_of setup) h old run) (held h old run index a.0 a.1) (held _ new (Stepped h old e r new run step) index sub at)
      (run-linked laws.walks setup lawful (λ h s run. laws.above setup h s lawful run) (held-all setup held) h old run index a.0 a.1) (run-flows setup lawful held h old run index a.0 a.1))

  -- what it means
  part-now : (k : ProgramTrace) (b : Bool) → b ≡ true → AbsorbsInOrder k.orb k.now k.absorbed → AbsorbsInOrder k.orb (if b then k.now else k.before) k.absorbed
  part-now k true e a = a
  part-now k false e a = absurd (cc e)

  part-before : (k : ProgramTrace) (b : Bool) → b ≡ false → AbsorbsInOrder k.orb k.before k.absorbed → AbsorbsInOrder k.orb (if b then k.now else k.before) k.absorbed
  part-before k true e a = absurd (cc e)
  part-before k false e a = a

  not-same : (n m : ℕ) → n + 1 ≡ m → (n == m) ≡ false
  not-same n m e = by (n == m) refl
    where
      by : (b : Bool) → (n == m) ≡ b → b ≡ false
      by true f = absurd (let g : n ≡ m = eqb-true n m f in omega (arith, e, g))
      by false f = refl

  mode-absorbs : (side : Side) (begun : Option ActiveProgram) (k : ProgramTrace) (downs : List (List Down)) (ups : List (List Up)) (u : UnitState) → HasWork begun k → Mode side begun k downs ups u →
      AbsorbsInOrder k.orb (part_of k) k.absorbed
  mode-absorbs side begun k downs ups u h (Waits b e n q y a w) = part-before k (count k.taken == k.sent) (not-same (count k.taken) k.sent (ap (λ (i : ℕ). i + 1) (sym (length-backward k.taken)) ∙ n)) a
  mode-absorbs side begun k downs ups u h (Over e n z a w) = part-now k (count k.taken == k.sent) (eq-eqb (count k.taken) k.sent (sym (length-backward k.taken) ∙ n)) a
  mode-absorbs side begun k downs ups u h (Reads b e n o z w) =
      part-now k (count k.taken == k.sent) (eq-eqb (count k.taken) k.sent (sym (length-backward k.taken) ∙ n)) (absorbs-none k.orb k.now k.absorbed z)
  mode-absorbs side begun k downs ups u h (Writes b e n o lead f w) =
      let work : HasWork (Some b) k = subst (λ (x : Option ActiveProgram). HasWork x k) e h in
      part-now k (count k.taken == k.sent) (eq-eqb (count k.taken) k.sent (sym (length-backward k.taken) ∙ n)) (flow-absorbs laws k b.transfer lead work.0.tied f)

  course-absorbs : (side : Side) (begun : Option ActiveProgram) (k : ProgramTrace) (downs : List (List Down)) (ups : List (List Up)) (u : UnitState) → HasWork begun k → Course side begun k downs ups u →
      AbsorbsInOrder k.orb (part_of k) k.absorbed
  course-absorbs side begun k downs ups u h (Follows m) = mode-absorbs side begun k downs ups u h m
  course-absorbs side begun k downs ups u h (Cut e b w m) = mode-absorbs side (Some b) k downs ups u w m

  unit-absorbs : (sub : Subchannel) (k : ProgramTrace) (u : Option UnitState) → HeldBy sub.state (Some k) → Flows sub.setup.side sub (Some k) u → AbsorbsInOrder k.orb (part_of k) k.absorbed
  unit-absorbs sub k None h a = absurd a
  unit-absorbs sub k (Some u) h a = course-absorbs sub.setup.side sub.state.begun k sub.wires.down sub.wires.up u h.work a

  pub run-absorbs : (setup : Setup) → IsLawful setup → AllHeld setup → (h : List Entry) (s : State) (run : Run (opening_of setup) h s) (index : ℕ) (sub : Subchannel) (k : ProgramTrace) →
      slice_get s.subs index ≡ Some sub → trace index (opening_of setup) h s run ≡ Some k → AbsorbsInOrder k.orb (part_of k) k.absorbed
  run-absorbs setup lawful held h s run index sub k at e =
      unit-absorbs sub k (slice_get s.units sub.setup.«unit») (subst (λ (x : Option ProgramTrace). HeldBy sub.state x) e (held h s run index sub at))
      (subst (λ (x : Option ProgramTrace). Flows sub.setup.side sub x (slice_get s.units sub.setup.«unit»)) e (run-flows setup lawful held h s run index sub at))
