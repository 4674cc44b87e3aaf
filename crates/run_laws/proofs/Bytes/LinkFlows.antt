-- The bytes that a device absorbs for its command: what a step at one place keeps of what holds of them.
use Rattle.std.proofs.Common.{◌≡◌, refl, sym, ◌∙◌, ap, subst, ℕ, ◌+◌, ◌≤◌, Bool, true, false, nat_lt, length, Option, None, Some, Err, List, [], arith, ◌&&◌}
use Rattle.std.specs.Prelude.{slice_get, IfOk, IfSome, if◌then◌else◌}
use Rattle.storage_keys.specs.Storage.{Contents}
use Rattle.chan_model.specs.declared.fault.Fault.TheVariants as fault
use Rattle.chan_model.specs.declared.hold_state.HoldPhase.{HoldPhase}
use Rattle.chan_model.specs.declared.hold_state.HoldPhase.TheVariants as hold
use Rattle.chan_model.specs.declared.names.Side.{Side}
use Rattle.chan_model.specs.Reports.{DeviceAnswer, Report}
use Rattle.chan_events.specs.declared.reply.Reply.TheVariants as reply
use Rattle.chan_model.specs.declared.signal.Up.TheVariants as up
use Rattle.chan_model.specs.Signals.{Down, Up}
use Rattle.chan_model.specs.declared.signal.Down.TheVariants as down
use Rattle.chan_model.specs.declared.signal.OnPath.{OnPath}
use Rattle.chan_model.specs.declared.unit_state.CurrentCommand.{CurrentCommand}
use Rattle.chan_model.specs.declared.unit_state.Own.{Own}
use Rattle.chan_model.specs.declared.unit_state.Connection.TheVariants.{On}
use Rattle.chan_model.specs.declared.unit_state.UnitState.{UnitState}
use Rattle.chan_model.specs.Sides.{same_side}
use Rattle.chan_model.specs.UnitTable.{UnitStep, outcome_of, is_owner, unit_takes, unit_after}
use Rattle.chan_model.specs.UnitReports.{unit_reports}
use Rattle.wires.specs.Queues.{queue, taken}
use Rattle.subchannel_model.specs.Notice as on_notice
use Rattle.subchannel_model.specs.declared.state.ActiveProgram.{ActiveProgram}
use Rattle.subchannel_model.specs.declared.state.Chosen.{Chosen}
use Rattle.subchannel_model.specs.declared.state.Chosen.TheVariants.{Idle, Resets, PerformsClear, Halts, PerformsHalt, FindsNoPath, Offers}
use Rattle.subchannel_model.specs.declared.state.Program.{Program}
use Rattle.subchannel_model.specs.declared.state.Subchannel.{Subchannel}
use Rattle.subchannel_model.specs.declared.state.SubchannelState.{SubchannelState}
use Rattle.subchannel_model.specs.declared.state.UpStep.{UpStep}
use Rattle.subchannel_model.specs.Choosing as choosing
use Rattle.subchannel_model.specs.Taking.{takes_up}
use Rattle.subchannel_model.specs.Sending.{carried, carried_by, with_any_sent, finds_full}
use Rattle.machine_model.specs.ChooseSteps.{choose_sub}
use Rattle.machine_model.specs.UpSteps.{up_front, up_sub}
use Rattle.machine_model.specs.DownSteps.{down_front, down_sub}
use Rattle.machine_model.specs.ReportSteps.{with_any_up, report_taken}
use Rattle.subchannel_model.specs.Losing.{is_offered_or_held, reset_with, reset_for}
use Rattle.subchannel_model.specs.Programs.{has_any}
use Rattle.subchannel_model.specs.Outcomes as outcomes
use Rattle.step_laws.specs.Walks.{IsFound, Suits}
use Rattle.run_laws.specs.Traces.{ProgramTrace, trace_offered, trace_resumed, chosen_at, taken_at, reported_at, offered_for}
use Rattle.run_laws.proofs.Traces.MachineTraces.{trace_meets, met_with, met_at}
use Rattle.run_laws.proofs.Traces.Ties.{AreLaws}
use Rattle.run_laws.proofs.Bytes.Accesses.{AreAccesses}
use Rattle.run_laws.proofs.Traces.Caused.{path-begun}
use Rattle.run_laws.proofs.Traces.Holds.{IsPhase, IsHeld, IsUnheld, HasWork, HeldBy}
use Rattle.run_laws.proofs.Units.UnitSides.{other-owner}
use Rattle.run_laws.proofs.Commands.UnitOrders.{IsDown, IsNumbered, on-first}
use Rattle.run_laws.proofs.Units.UnitCurrents.{IsCalm, IsQuiet, other-calm}
use Rattle.run_laws.proofs.Units.UnitTold.{IsTold, Begins_in, Tells_again, Ends, IsReportTaken, report-taken}
use Rattle.run_laws.proofs.Links.LinkNeeds.{held-needs}
use Rattle.run_laws.proofs.Commands.LinkOrders.{IsLinked, number_of, took_of, number-drawn}
use Rattle.run_laws.proofs.Links.LinkIdle.{IsIdle, IsNoOffer, idle-meets}
use Rattle.run_laws.proofs.Bytes.LinkCourses.{Course, Follows, Cut, CourseOf, over-course, course-carried, carried-course, answered-course, course-down, course-reports}
use Rattle.run_laws.proofs.Links.LinkWires.{CurrentClosed, IsClosed, IsOfCommand, IsGiving, IsTelling, IsWired, IsAnswered, wired-holds, wired-sends, sent-hold, wired-offers, wired-calm, wired-gentle, wired-takes, wired-tells, first-tells}
use Rattle.run_laws.proofs.Links.LinkViews.{view_of}
use Rattle.run_laws.proofs.Bytes.LinkModes as modes
use Rattle.run_laws.proofs.Bytes.LinkModes.{AnyGive, NoGive, AnyData, CurrentPlain, CurrentFlow, Mode, Waits, Reads, Writes, fit-closed, mode-carried, absorbs-none}
use Rattle.run_laws.proofs.Bytes.UnitFlows.{IsGive, IsData}
use Rattle.run_laws.proofs.Units.UnitActs.{IsGentle, if-ok}
use Rattle.run_laws.proofs.Links.Vanishing.{send-ok}
use Rattle.chan_model.proofs.OneSide.{one-side}
use Rattle.run_laws.proofs.Links.LinkReports.{report-owner, told-closed, told-own}
use Rattle.run_laws.proofs.Links.LinkMeets.{quiet, mode-meets}
use Rattle.ccw_walk.specs.Sequences.{Sequence, Nothing}
use Rattle.run_laws.proofs.Traces.Sequences.{backward}

abbrev pub AtSub : Side → Subchannel → Option ProgramTrace → UnitState → Type 0
AtSub side sub k u = CourseOf side sub.state.begun k sub.wires.down sub.wires.up u

-- Choose: a greater number is drawn
mode-offer : (side : Side) (drawn : ℕ) (begun : Option ActiveProgram) (k : ProgramTrace) (took : List ℕ) (downs : List (List Down)) (ups : List (List Up)) (u : UnitState) (path : ℕ) → k.number ≤ drawn →
    IsNumbered side drawn k.number took u → Mode side begun k downs ups u →
    IsWired side (drawn + 1) 0 CurrentClosed AnyGive AnyData (with_any_sent downs (Some (record { path = path; signal = down.Select (drawn + 1) }))) ups u
mode-offer side drawn begun k took downs ups u path l n (Waits b h g q y a w) =
    wired-offers side drawn k.number (drawn + 1) (length (backward k.taken)) took CurrentClosed CurrentClosed AnyGive AnyGive AnyData AnyData downs ups u path l (omega arith) n w
mode-offer side drawn begun k took downs ups u path l n (modes.Over h g q a w) =
    wired-offers side drawn k.number (drawn + 1) (length (backward k.taken)) took CurrentClosed CurrentClosed AnyGive AnyGive AnyData AnyData downs ups u path l (omega arith) n w
mode-offer side drawn begun k took downs ups u path l n (Reads b h g o q w) =
    wired-offers side drawn k.number (drawn + 1) (length (backward k.taken)) took CurrentPlain CurrentClosed NoGive AnyGive AnyData AnyData downs ups u path l (omega arith) n w
mode-offer side drawn begun k took downs ups u path l n (Writes b h g o lead f w) =
    wired-offers side drawn k.number (drawn + 1) (length (backward k.taken)) took (CurrentFlow b.transfer.code (view_of b.transfer k.now) lead) CurrentClosed (IsGive (view_of b.transfer k.now)) AnyGive
    (IsData (view_of b.transfer k.now) lead) AnyData downs ups u path l (omega arith) n w

offer-wires : (side : Side) (drawn : ℕ) (begun : Option ActiveProgram) (k : Option ProgramTrace) (took : List ℕ) (downs : List (List Down)) (ups : List (List Up)) (u : UnitState) (path : ℕ) → number_of k ≤ drawn →
    IsNumbered side drawn (number_of k) took u → CourseOf side begun k downs ups u →
    IsWired side (drawn + 1) 0 CurrentClosed AnyGive AnyData (with_any_sent downs (Some (record { path = path; signal = down.Select (drawn + 1) }))) ups u
offer-wires side drawn begun None took downs ups u path l n w =
    wired-offers side drawn 0 (drawn + 1) 0 took CurrentClosed CurrentClosed AnyGive AnyGive AnyData AnyData downs ups u path l (omega arith) n w
offer-wires side drawn begun (Some k) took downs ups u path l n (Follows m) = mode-offer side drawn begun k took downs ups u path l n m
offer-wires side drawn begun (Some k) took downs ups u path l n (Cut e b w m) = mode-offer side drawn (Some b) k took downs ups u path l n m

-- the program is offered: nothing was sent of it under this number
offers-over : (sub : Subchannel) (path : ℕ) (t : Subchannel) (k : Option ProgramTrace) (new : ProgramTrace) (u : UnitState) → HeldBy sub.state k → IsLinked sub.setup.side sub.state.drawn sub.wires.down k u →
    AtSub sub.setup.side sub k u → t.wires.down ≡ with_any_sent sub.wires.down (Some (record { path = path; signal = down.Select (sub.state.drawn + 1) })) → t.wires.up ≡ sub.wires.up →
    t.state.begun ≡ None → new.number ≡ sub.state.drawn + 1 → new.sent ≡ 0 → new.taken ≡ Nothing → new.absorbed ≡ [] → AtSub sub.setup.side t (Some new) u
offers-over sub path t k new u h l a d x b i n g z =
    let w : IsWired sub.setup.side (sub.state.drawn + 1) 0 CurrentClosed AnyGive AnyData (with_any_sent sub.wires.down (Some (record { path = path; signal = down.Select (sub.state.drawn + 1) }))) sub.wires.up u =
    offer-wires sub.setup.side sub.state.drawn sub.state.begun k _ sub.wires.down sub.wires.up u path (number-drawn k sub.state (held-needs k sub.state h)) l.kept a in
    let P : ℕ → ℕ → List (List Down) → List (List Up) → Type 0 = λ i m downs ups. IsWired sub.setup.side i m CurrentClosed AnyGive AnyData downs ups u in
    let v : P new.number (length (backward new.taken)) t.wires.down t.wires.up =
    subst (λ (y : ℕ). P y (length (backward new.taken)) t.wires.down t.wires.up) (sym i)
    (subst (λ (y : Sequence ℕ). P (sub.state.drawn + 1) (length (backward y)) t.wires.down t.wires.up) (sym g)
    (subst (λ (y : List (List Down)). P (sub.state.drawn + 1) 0 y t.wires.up) (sym d) (subst (λ (y : List (List Up)). P (sub.state.drawn + 1) 0 (with_any_sent sub.wires.down (Some (record { path = path; signal = down.Select (sub.state.drawn + 1) }))) y) (sym x) w))) in
    Follows (modes.Over b (ap (λ (xs : Sequence ℕ). length (backward xs)) g ∙ sym n) (λ y. z) (absorbs-none new.orb new.now new.absorbed z) v)

offered-begun : (s : SubchannelState) (n path : ℕ) (k : ProgramTrace) → s.hold.phase ≡ hold.Offer n path → IsHeld s k → s.begun ≡ None
offered-begun s n path k e h = (subst (λ (x : HoldPhase). IsPhase x k.number s.begun k.sent) e h.phase).1

offers-flows : (sub : Subchannel) (program : Program) (path : ℕ) (resumes : Bool) (t : Subchannel) (k : Option ProgramTrace) (u : UnitState) →
    IsFound sub.state.waiting sub.state.suspended resumes program → HeldBy sub.state k → IsLinked sub.setup.side sub.state.drawn sub.wires.down k u → AtSub sub.setup.side sub k u →
    t.wires.down ≡ with_any_sent sub.wires.down (Some (record { path = path; signal = down.Select (sub.state.drawn + 1) })) → t.wires.up ≡ sub.wires.up →
    t.state.hold.phase ≡ hold.Offer (sub.state.drawn + 1) path →
    HeldBy t.state (chosen_at (Some sub) (reply.Offered (sub.state.drawn + 1) path resumes) k) →
    AtSub sub.setup.side t (chosen_at (Some sub) (reply.Offered (sub.state.drawn + 1) path resumes) k) u
offers-flows sub program path false t k u w h l a d x f =
    let n : ℕ = sub.state.drawn + 1 in
    let P : Option ProgramTrace → Type 0 = λ y. HeldBy t.state y → AtSub sub.setup.side t y u in
    let made : P (Some (trace_offered n program.orb)) = λ y. offers-over sub path t k (trace_offered n program.orb) u h l a d x (offered-begun t.state n path (trace_offered n program.orb) f y) refl refl refl refl in
    subst (λ (y : Option Program). P (offered_for y n k)) (sym w) made
offers-flows sub program path true t None u w h l a d x f = absurd (cc (sym h.suspended ∙ w.1))
offers-flows sub program path true t (Some k) u w h l a d x f =
    let n : ℕ = sub.state.drawn + 1 in
    λ y. offers-over sub path t (Some k) (trace_resumed n k) u h l a d x (offered-begun t.state n path (trace_resumed n k) f y) refl refl refl refl

-- a signal that gives nothing
sends-flows : (side : Side) (begun : Option ActiveProgram) (k : Option ProgramTrace) (downs : List (List Down)) (ups : List (List Up)) (u : UnitState)
    (available : List Bool) (path : ℕ) (d : Down) →
    ((number m : ℕ) (Q : ℕ → List ℕ → Type 0) → IsGiving number m Q d) → CourseOf side begun k downs ups u →
    CourseOf side begun k (with_any_sent downs (carried available (Some (record { path = path; signal = d })))) ups u
sends-flows side begun k downs ups u available path d g a =
    let one : Option (OnPath Down) = Some (record { path = path; signal = d }) in
    carried-course side begun k downs ups u available one
    (course-carried side begun k downs (with_any_sent downs one) ups ups u u
    (λ P Q R f w. wired-sends side (number_of k) (length (took_of k)) P Q R downs ups u one (g (number_of k) (length (took_of k)) Q) w) a)

pub choose-flows : (sub : Subchannel) (c : Chosen) (k : Option ProgramTrace) (u : UnitState) → Suits c sub.state → HeldBy sub.state k → IsLinked sub.setup.side sub.state.drawn sub.wires.down k u →
    AtSub sub.setup.side sub k u → IfOk (choose_sub sub c) (λ t. HeldBy t.sub.state (chosen_at (Some sub) t.reply k) → AtSub sub.setup.side t.sub (chosen_at (Some sub) t.reply k) u)
choose-flows sub Idle k u w h l a = λ x. a
choose-flows sub (Resets r path) k u w h l a =
    send-ok (λ t. HeldBy t.sub.state (chosen_at (Some sub) t.reply k) → AtSub sub.setup.side t.sub (chosen_at (Some sub) t.reply k) u) sub
    (choosing.reset_sent sub.state path) path (down.Reset r sub.state.hold.known_restarts) (reply.ResetSent r path)
    (λ x. sends-flows sub.setup.side sub.state.begun k sub.wires.down sub.wires.up u sub.state.pmcw.available path (down.Reset r sub.state.hold.known_restarts) (λ n m Q. tt) a)
choose-flows sub PerformsClear k u w h l a = λ x. a
choose-flows sub (Halts t path) k u w h l a =
    send-ok (λ t. HeldBy t.sub.state (chosen_at (Some sub) t.reply k) → AtSub sub.setup.side t.sub (chosen_at (Some sub) t.reply k) u) sub
    (choosing.halt_sent sub.state) path (down.Halt t) (reply.HaltSent t path)
    (λ x. sends-flows sub.setup.side sub.state.begun k sub.wires.down sub.wires.up u sub.state.pmcw.available path (down.Halt t) (λ n m Q. tt) a)
choose-flows sub PerformsHalt k u w h l a = λ x. over-course sub.setup.side sub.state k sub.wires.down sub.wires.up u h a
choose-flows sub FindsNoPath k u w h l a =
    λ x. subst (λ (b : Option ActiveProgram). CourseOf sub.setup.side b k sub.wires.down sub.wires.up u) (sym (path-begun sub.state sub.state.waiting)) a
choose-flows sub (Offers c path) k u w h l a =
    let n : ℕ = sub.state.drawn + 1 in
    let one : Option (OnPath Down) = Some (record { path = path; signal = down.Select n }) in
    let t : Subchannel = record sub { state = choosing.offered sub.state c.program path; wires = record sub.wires { down = with_any_sent sub.wires.down one } } in
    send-ok (λ t. HeldBy t.sub.state (chosen_at (Some sub) t.reply k) → AtSub sub.setup.side t.sub (chosen_at (Some sub) t.reply k) u) sub
    (choosing.offered sub.state c.program path) path (down.Select n) (reply.Offered n path c.resumes)
    (λ x. carried-course sub.setup.side t.state.begun (chosen_at (Some sub) (reply.Offered n path c.resumes) k) sub.wires.down sub.wires.up u
    sub.state.pmcw.available one
    (offers-flows sub c.program path c.resumes t k u w.found h l a refl refl refl x))

-- Up: where nothing was offered, and where the program was over before the device was done
untold-no-offer : (phase : HoldPhase) (drawn : ℕ) → IsUnheld phase drawn → IsNoOffer phase
untold-no-offer phase drawn h t p e = absurd (subst (λ (x : HoldPhase). IsUnheld x drawn) e h)

sent-no-offer : (s : SubchannelState) (k : ProgramTrace) (b : ActiveProgram) → IsHeld s k → HasWork (Some b) k → IsNoOffer s.hold.phase
sent-no-offer s k b h w t p e =
    let none : k.sent ≡ 0 = (subst (λ (x : HoldPhase). IsPhase x k.number s.begun k.sent) e h.phase).2 in
    absurd (omega (arith, none, w.2))

module _ (laws : AreLaws) (accesses : AreAccesses) where
  cut-meets : (returns : Bool) → (storage : Contents) (side : Side) (s : SubchannelState) (k : ProgramTrace) (downs : List (List Down)) (ups : List (List Up)) (u : UnitState) (path : ℕ) (x : Up) (b : ActiveProgram) → IsHeld s k →
      s.begun ≡ None → HasWork (Some b) k → Mode side (Some b) k downs ups u →
      Course side (takes_up returns storage s path x).step.state.begun (trace_meets storage s path x k) (with_any_sent downs (takes_up returns storage s path x).step.outcome.sent) (taken ups path) u
  cut-meets returns storage side s k downs ups u path x b h e w m =
      let i : IsIdle s (takes_up returns storage s path x).step (trace_meets storage s path x) = idle-meets storage s e returns (sent-no-offer s k b h w) path x in
      let one : Option (OnPath Down) = (takes_up returns storage s path x).step.outcome.sent in
      subst (λ (y : ProgramTrace). Course side (takes_up returns storage s path x).step.state.begun y (with_any_sent downs one) (taken ups path) u) (sym (i.same k))
      (Cut (i.begun ∙ e) b w
      (mode-carried side (Some b) k downs (with_any_sent downs one) ups (taken ups path) u u
      (λ P Q R f v. wired-holds side k.number (length (backward k.taken)) P P Q Q R R downs ups u one path (λ z y. y) (λ j bytes y. y) (λ j l y. y) (sent-hold k.number (length (backward k.taken)) Q one i.sends) v) m))

  reset-course : (s : SubchannelState) (shows : Bool) (side : Side) (k : ProgramTrace) (downs : List (List Down)) (ups : List (List Up)) (u : UnitState) → IsHeld s k → Course side s.begun k downs ups u →
      Course side (reset_with s shows).begun k downs ups u
  reset-course s true side k downs ups u h c = over-course side s (Some k) downs ups u h c
  reset-course s false side k downs ups u h c = c

  notice-course : (s : SubchannelState) (b : ℕ) (more : Bool) (side : Side) (k : ProgramTrace) (downs : List (List Down)) (ups : List (List Up)) (u : UnitState) → IsHeld s k →
      Course side s.begun k downs ups u → Course side (if more then outcomes.signal_taken (reset_for (on_notice.with_known s b)) else outcomes.signal_ignored s).state.begun k (with_any_sent downs (if more then outcomes.signal_taken (reset_for (on_notice.with_known s b)) else outcomes.signal_ignored s).outcome.sent) ups u
  notice-course s b true side k downs ups u h c =
      reset-course (on_notice.with_known s b) (is_offered_or_held s.hold.phase && has_any s.waiting s.begun s.suspended) side k downs ups u
      (record { number = h.number; phase = h.phase; drawn = h.drawn; work = h.work; standing = h.standing }) c
  notice-course s b false side k downs ups u h c = c

  course-meets : (returns : Bool) → (storage : Contents) (side : Side) (s : SubchannelState) (k : ProgramTrace) (downs : List (List Down)) (ups : List (List Up)) (u : UnitState) (path : ℕ) (x : Up) →
      slice_get (queue ups path) 0 ≡ Some x → IsHeld s k → Course side s.begun k downs ups u →
      Course side (takes_up returns storage s path x).step.state.begun (trace_meets storage s path x k) (with_any_sent downs (takes_up returns storage s path x).step.outcome.sent) (taken ups path) u
  course-meets returns storage side s k downs ups u path (up.Notice b) e h (Follows m) =
      notice-course s b (nat_lt s.hold.known_restarts b) side k downs (taken ups path) u h (Follows (quiet laws accesses storage side s k downs ups u path h m s.begun None refl tt))
  course-meets returns storage side s k downs ups u path x e h (Cut z b w m) = cut-meets returns storage side s k downs ups u path x b h z w m
  course-meets returns storage side s k downs ups u path x e h (Follows m) =
      Follows (mode-meets laws accesses storage side s k downs ups u path h m returns x (λ P Q R w. first-tells side k.number (length (backward k.taken)) P Q R downs ups u path x e w) tt)

  met-flows : (returns : Bool) → (storage : Contents) (sub : Subchannel) (path : ℕ) (x : Up) (k : Option ProgramTrace) (u : UnitState) → slice_get (queue sub.wires.up path) 0 ≡ Some x → HeldBy sub.state k →
      AtSub sub.setup.side sub k u →
      CourseOf sub.setup.side (takes_up returns storage sub.state path x).step.state.begun (met_with storage sub.state path (Some x) k)
      (with_any_sent sub.wires.down (takes_up returns storage sub.state path x).step.outcome.sent) (taken sub.wires.up path) u
  met-flows returns storage sub path x None u e h a =
      let one : Option (OnPath Down) = (takes_up returns storage sub.state path x).step.outcome.sent in
      let i : IsIdle sub.state (takes_up returns storage sub.state path x).step (trace_meets storage sub.state path x) =
      idle-meets storage sub.state h.begun returns (untold-no-offer sub.state.hold.phase sub.state.drawn h.phase) path x in
      wired-holds sub.setup.side 0 0 CurrentClosed CurrentClosed AnyGive AnyGive AnyData AnyData sub.wires.down sub.wires.up u one path (λ i y. y) (λ i bytes y. y) (λ i l y. y)
      (sent-hold 0 0 AnyGive one i.sends) a
  met-flows returns storage sub path x (Some k) u e h a = course-meets returns storage sub.setup.side sub.state k sub.wires.down sub.wires.up u path x e h a

  up_front-flows : (returns : Bool) → (storage : Contents) (sub : Subchannel) (path : ℕ) (front : Option Up) (k : Option ProgramTrace) (u : UnitState) → slice_get (queue sub.wires.up path) 0 ≡ front → HeldBy sub.state k →
      AtSub sub.setup.side sub k u → IfOk (up_front returns storage sub path front) (λ t. AtSub sub.setup.side t.sub (met_with storage sub.state path front k) u)
  up_front-flows returns storage sub path None k u e h a = tt
  up_front-flows returns storage sub path (Some x) k u e h a =
      let step : UpStep = (takes_up returns storage sub.state path x).step in
      if-ok (λ t. AtSub sub.setup.side t.sub (met_with storage sub.state path (Some x) k) u) (finds_full sub.wires.down (carried_by sub step.outcome.sent)) (Err fault.WireFull) _ tt
      (carried-course sub.setup.side step.state.begun (met_with storage sub.state path (Some x) k) sub.wires.down (taken sub.wires.up path) u
      sub.state.pmcw.available step.outcome.sent (met-flows returns storage sub path x k u e h a))

  pub up-flows : (returns : Bool) → (storage : Contents) (sub : Subchannel) (path : ℕ) (k : Option ProgramTrace) (u : UnitState) → HeldBy sub.state k → AtSub sub.setup.side sub k u →
      IfOk (up_sub returns storage sub path) (λ t. AtSub sub.setup.side t.sub (met_at storage (Some sub) path k) u)
  up-flows returns storage sub path k u h a =
      if-ok (λ t. AtSub sub.setup.side t.sub (met_at storage (Some sub) path k) u) (nat_lt path (length sub.setup.paths)) (up_front returns storage sub path (slice_get (queue sub.wires.up path) 0))
      (Err fault.NoSuchPath) (up_front-flows returns storage sub path (slice_get (queue sub.wires.up path) 0) k u refl h a) tt

-- Down
none-answered : (may : Bool) → (side : Side) (drawn : ℕ) (u : UnitState) (path : ℕ) (d : Down) → IsDown drawn 0 0 [] d → IsAnswered may side 0 u path d
none-answered may side drawn u path (down.Command t n code room) i = λ e. absurd (let k = i.1 e in omega (arith, k.0, k.1.count))
none-answered may side drawn u path d i = tt

none-taken : (d : Down) (outcome : Bool) (sent : Option (OnPath Up)) → taken_at (reply.Down d outcome sent) None ≡ None
none-taken d true None = refl
none-taken d true (Some x) = refl
none-taken d false sent = refl

sunk-flows : (may : Bool) → (sub : Subchannel) (path : ℕ) (d : Down) (k : Option ProgramTrace) (u : UnitState) → slice_get (queue sub.wires.down path) 0 ≡ Some d → HeldBy sub.state k →
    IsLinked sub.setup.side sub.state.drawn sub.wires.down k u → AtSub sub.setup.side sub k u →
    CourseOf sub.setup.side sub.state.begun
    (taken_at (reply.Down d (outcome_of (unit_takes u sub.setup.side path d may)).taken (outcome_of (unit_takes u sub.setup.side path d may)).sent) k) (taken sub.wires.down path)
    (with_any_sent sub.wires.up (outcome_of (unit_takes u sub.setup.side path d may)).sent) (unit_after u (unit_takes u sub.setup.side path d may))
sunk-flows may sub path d None u e h l a =
    let i : IsDown sub.state.drawn 0 0 [] d = on-first (IsDown sub.state.drawn 0 0 []) sub.wires.down path d l.downs e in
    subst (λ (x : Option ProgramTrace). CourseOf sub.setup.side sub.state.begun x (taken sub.wires.down path)
    (with_any_sent sub.wires.up (outcome_of (unit_takes u sub.setup.side path d may)).sent) (unit_after u (unit_takes u sub.setup.side path d may)))
    (sym (none-taken d (outcome_of (unit_takes u sub.setup.side path d may)).taken (outcome_of (unit_takes u sub.setup.side path d may)).sent))
    (wired-takes may sub.setup.side sub.state.drawn 0 0 0 [] CurrentClosed AnyGive AnyData sub.wires.down sub.wires.up u path d e i fit-closed.none fit-closed.answered fit-closed.gives l.kept.last
    (none-answered may sub.setup.side sub.state.drawn u path d i) a)
sunk-flows may sub path d (Some k) u e h l a =
    let i : IsDown sub.state.drawn k.number k.sent _ d = on-first (IsDown sub.state.drawn k.number k.sent _) sub.wires.down path d l.downs e in
    course-down may sub.setup.side sub.state.drawn k sub.wires.down sub.wires.up u path l sub.state.begun d (held-needs (Some k) sub.state h).begun e i a

down_front-flows : (may : Bool) → (sub : Subchannel) (path : ℕ) (u : UnitState) (front : Option Down) (k : Option ProgramTrace) → slice_get (queue sub.wires.down path) 0 ≡ front → HeldBy sub.state k →
    IsLinked sub.setup.side sub.state.drawn sub.wires.down k u → AtSub sub.setup.side sub k u →
    IfOk (down_front may sub path u front) (λ t. AtSub sub.setup.side t.sub (taken_at t.reply k) t.«unit»)
down_front-flows may sub path u None k e h l a = tt
down_front-flows may sub path u (Some d) k e h l a =
    let step : Option UnitStep = unit_takes u sub.setup.side path d may in
    if-ok (λ t. AtSub sub.setup.side t.sub (taken_at t.reply k) t.«unit») (finds_full sub.wires.up (carried_by sub (outcome_of step).sent)) (Err fault.WireFull) _ tt
    (answered-course sub.setup.side sub.state.begun (taken_at (reply.Down d (outcome_of step).taken (outcome_of step).sent) k) (taken sub.wires.down path)
    sub.wires.up (unit_after u step) sub.state.pmcw.available (outcome_of step).sent (sunk-flows may sub path d k u e h l a))

pub down-flows : (may : Bool) → (sub : Subchannel) (path : ℕ) (u : UnitState) (k : Option ProgramTrace) → HeldBy sub.state k → IsLinked sub.setup.side sub.state.drawn sub.wires.down k u → AtSub sub.setup.side sub k u →
    IfOk (down_sub may sub path u) (λ t. AtSub sub.setup.side t.sub (taken_at t.reply k) t.«unit»)
down-flows may sub path u k h l a =
    if-ok (λ t. AtSub sub.setup.side t.sub (taken_at t.reply k) t.«unit») (nat_lt path (length sub.setup.paths)) (down_front may sub path u (slice_get (queue sub.wires.down path) 0))
    (Err fault.NoSuchPath) (down_front-flows may sub path u (slice_get (queue sub.wires.down path) 0) k refl h l a) tt

-- Report
none-told : (u : UnitState) (p t c : ℕ) (x : CurrentCommand) (a : DeviceAnswer) (y : UnitStep) (number m : ℕ) (E : Type 0) → IsTold u p t c x a y → IsOfCommand number m t u.last_command E →
    IfSome y.sent (λ z. IsTelling number m AnyData E z.signal)
none-told u p t c x _ _ number m E (Begins_in o n) f = tt
none-told u p t c x _ _ number m E (Tells_again l e w) f = (f.0, λ e. ((f.1 e).0, λ i. tt))
none-told u p t c x _ _ number m E (Ends given shown more) f = f
none-told u p t c x _ _ number m E other f = (f.0, λ e. ((f.1 e).0, λ i. tt))

reported-none : (side : Side) (drawn : ℕ) (downs : List (List Down)) (ups : List (List Up)) (u : UnitState) (report : Report) (y : UnitStep) → same_side side report.side ≡ true → IsNumbered side drawn 0 [] u →
    IsReportTaken u report y → IsWired side 0 0 CurrentClosed AnyGive AnyData downs ups u → IsWired side 0 0 CurrentClosed AnyGive AnyData downs (with_any_sent ups y.sent) y.state
reported-none side drawn downs ups u report y s n t w =
    let owner : is_owner u.own side report.number ≡ true = report-owner side u report y s t in
    let zero : report.number ≡ 0 = omega (arith, n.named report.number owner) in
    let mine : is_owner u.own side 0 ≡ true = subst (λ (i : ℕ). is_owner u.own side i ≡ true) zero owner in
    let last : u.last_command ≡ 0 = n.last mine in
    let closed : CurrentClosed y.state.current =
    told-closed u t.path report.number t.connection t.hand report.answer y t.told (subst CurrentClosed t.current (w.hand mine)) in
    wired-tells side 0 0 CurrentClosed CurrentClosed AnyGive AnyData AnyData downs ups u y.state y.sent (λ o. closed) (λ i l r. r) (λ z o. closed)
    (none-told u t.path report.number t.connection t.hand report.answer y 0 0 (IsClosed side 0 y.state) t.told (omega (arith, zero), λ e. (omega (arith, last), λ i o. closed))) w

pub report-flows : (sub : Subchannel) (u : UnitState) (report : Report) (k : Option ProgramTrace) (step : Option UnitStep) → unit_reports u report ≡ step → same_side sub.setup.side report.side ≡ true →
    IsLinked sub.setup.side sub.state.drawn sub.wires.down k u → AtSub sub.setup.side sub k u →
    IfOk (report_taken sub step) (λ t. AtSub sub.setup.side t.sub (reported_at (Some u) report k) t.«unit»)
report-flows sub u report k None e s l a = tt
report-flows sub u report None (Some y) e s l a =
    if-ok (λ t. AtSub sub.setup.side t.sub (reported_at (Some u) report None) t.«unit») (finds_full sub.wires.up (carried_by sub y.sent)) (Err fault.WireFull) _ tt
    (answered-course sub.setup.side sub.state.begun None sub.wires.down sub.wires.up y.state sub.state.pmcw.available y.sent
    (reported-none sub.setup.side sub.state.drawn sub.wires.down sub.wires.up u report y s l.kept (report-taken u report y e) a))
report-flows sub u report (Some k) (Some y) e s l a =
    if-ok (λ t. AtSub sub.setup.side t.sub (reported_at (Some u) report (Some k)) t.«unit») (finds_full sub.wires.up (carried_by sub y.sent)) (Err fault.WireFull) _ tt
    (answered-course sub.setup.side sub.state.begun (reported_at (Some u) report (Some k)) sub.wires.down sub.wires.up y.state
    sub.state.pmcw.available y.sent (course-reports sub.setup.side sub.state.drawn sub.state.begun k sub.wires.down sub.wires.up u report y s l.kept (report-taken u report y e) a))

-- the other side
pub calm-flows : (side : Side) (sub : Subchannel) (k : Option ProgramTrace) (u v : UnitState) → IsCalm side u v → AtSub side sub k u → AtSub side sub k v
calm-flows side sub k u v c a =
    course-carried side sub.state.begun k sub.wires.down sub.wires.down sub.wires.up sub.wires.up u v
    (λ P Q R f w. wired-calm side (number_of k) (length (took_of k)) P Q R sub.wires.down sub.wires.up u v c w) a

-- what the unit does of itself
pub gentle-flows : (side : Side) (sub : Subchannel) (k : Option ProgramTrace) (u v : UnitState) (sends : Option (OnPath Up)) → IsGentle side u v → IfSome sends (λ x. IsQuiet x.signal) →
    AtSub side sub k u → AtSub side (with_any_up sub sends) k v
gentle-flows side sub k u v sends g q a =
    answered-course side sub.state.begun k sub.wires.down sub.wires.up v sub.state.pmcw.available sends
    (course-carried side sub.state.begun k sub.wires.down sub.wires.down sub.wires.up (with_any_sent sub.wires.up sends) u v
    (λ P Q R f w. wired-gentle side (number_of k) (length (took_of k)) P Q R sub.wires.down sub.wires.up u v sends g f.again q w) a)

other-down_front : (may : Bool) → (other : Subchannel) (side : Side) (path : ℕ) (u : UnitState) (front : Option Down) → same_side other.setup.side side ≡ false →
    IfOk (down_front may other path u front) (λ t. IsCalm side u t.«unit»)
other-down_front may other side path u None e = tt
other-down_front may other side path u (Some d) e =
    if-ok (λ t. IsCalm side u t.«unit») (finds_full other.wires.up (carried_by other (outcome_of (unit_takes u other.setup.side path d may)).sent)) (Err fault.WireFull) _ tt (other-calm may side u other.setup.side path d e)

pub other-down : (may : Bool) → (other : Subchannel) (side : Side) (path : ℕ) (u : UnitState) → same_side other.setup.side side ≡ false → IfOk (down_sub may other path u) (λ t. IsCalm side u t.«unit»)
other-down may other side path u e =
    if-ok (λ t. IsCalm side u t.«unit») (nat_lt path (length other.setup.paths)) (down_front may other path u (slice_get (queue other.wires.down path) 0)) (Err fault.NoSuchPath)
    (other-down_front may other side path u (slice_get (queue other.wires.down path) 0) e) tt

pub other-told : (other : Subchannel) (side : Side) (u : UnitState) (report : Report) (step : Option UnitStep) → unit_reports u report ≡ step → same_side other.setup.side side ≡ false →
    same_side other.setup.side report.side ≡ true → IfOk (report_taken other step) (λ t. IsCalm side u t.«unit»)
other-told other side u report None e s z = tt
other-told other side u report (Some y) e s z =
    let t : IsReportTaken u report y = report-taken u report y e in
    let at : t.side ≡ other.setup.side = one-side t.side report.side t.same ∙ sym (one-side other.setup.side report.side z) in
    let apart : same_side t.side side ≡ false = ap (λ (x : Side). same_side x side) at ∙ s in
    if-ok (λ t. IsCalm side u t.«unit») (finds_full other.wires.up (carried_by other y.sent)) (Err fault.WireFull) _ tt
    (λ n o. absurd (other-owner side t.side report.number n (On t.path t.connection) apart
    (ap (λ (x : Own). is_owner x side n) (sym t.own ∙ sym (told-own u t.path report.number t.connection t.hand report.answer y t.told)) ∙ o)))
