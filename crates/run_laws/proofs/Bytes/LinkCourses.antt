-- The bytes that a device absorbs for its command, also where its program is over before the command is.
use Rattle.std.proofs.Common.{◌≡◌, refl, sym, ◌∙◌, ap, subst, ℕ, ◌≤◌, Bool, true, false, ◌==◌, length, Option, None, Some, List, [], ◌++◌, arith}
use Rattle.std.specs.Prelude.{if◌then◌else◌, slice_get, All}
use Rattle.std.specs.List.{flat_map}
use Rattle.std.proofs.Math.Nat.{min-le_left}
use Rattle.chan_model.specs.declared.names.Side.{Side}
use Rattle.chan_model.specs.Reports.{DeviceAnswer, Report}
use Rattle.chan_model.specs.declared.report.DeviceAnswer.TheVariants as answer
use Rattle.chan_events.specs.declared.reply.Reply.TheVariants as reply
use Rattle.chan_model.specs.Signals.{Down, Load, Up}
use Rattle.chan_model.specs.declared.signal.Down.TheVariants as down
use Rattle.chan_model.specs.declared.signal.OnPath.{OnPath}
use Rattle.chan_model.specs.declared.unit_state.CurrentCommand.{CurrentCommand}
use Rattle.chan_model.specs.declared.unit_state.UnitState.{UnitState}
use Rattle.chan_model.specs.Sides.{same_side}
use Rattle.chan_model.specs.UnitTable.{UnitStep, outcome_of, unit_takes, unit_after}
use Rattle.chan_model.specs.UnitReports.{is_outward}
use Rattle.ccw_walk.specs.Sequences.{Sequence, ◌▸◌}
use Rattle.ccw_walk.specs.Acts.{PlacedBytes}
use Rattle.idaw.specs.Lists.{kind_of, block}
use Rattle.idaw.specs.Places.{Reach, each_below}
use Rattle.run_laws.specs.DataAreas.{places_of_bytes, data_areas}
use Rattle.data_move.specs.Moving.{Moving, room, next_place}
use Rattle.data_move.specs.declared.transfer.Transfer.{Transfer}
use Rattle.data_move.specs.DataChaining.{with_bytes_moved}
use Rattle.wires.specs.Queues.{queue, taken}
use Rattle.scsw_irb.specs.declared.status.DeviceStatus.{DeviceStatus}
use Rattle.subchannel_model.specs.declared.state.ActiveProgram.{ActiveProgram}
use Rattle.subchannel_model.specs.declared.state.SubchannelState.{SubchannelState}
use Rattle.subchannel_model.specs.Sending.{carried, with_any_sent}
use Rattle.run_laws.specs.Traces.{CommandTrace, ProgramTrace, taken_at, absorbs, takes, reported}
use Rattle.run_laws.proofs.Traces.MachineTraces.{ends_alone, with_ended}
use Rattle.run_laws.specs.ProgramClaims.{AbsorbsInOrder, IsBeginning, IsFirstOf, places_of}
use Rattle.run_laws.proofs.Traces.Ties.{AreLaws, Tied, spot-begins, with_bytes_moved-tied}
use Rattle.run_laws.proofs.Traces.Holds.{HasWork, HeldBy}
use Rattle.run_laws.proofs.Traces.Caused.{IsUninterrupted, IsInterrupted, interrupted-work}
use Rattle.subchannel_model.specs.Pci.{with_pci}
use Rattle.run_laws.proofs.Commands.UnitOrders.{IsDown, IsNumbered, IsOrdered}
use Rattle.run_laws.proofs.Bytes.UnitFlows.{View, Flow, IsGive, IsData, IsLead, lead_places}
use Rattle.run_laws.proofs.Commands.UnitGrowth.{codes_of}
use Rattle.run_laws.proofs.Units.UnitTold.{IsReportTaken}
use Rattle.run_laws.proofs.Links.Vanishing.{Fewer, carried-fewer}
use Rattle.run_laws.proofs.Links.LinkNeeds.{IsLast, work-last}
use Rattle.run_laws.proofs.Commands.LinkOrders.{number_of, took_of}
use Rattle.run_laws.proofs.Links.LinkReports.{mode-reports}
use Rattle.run_laws.proofs.Links.LinkViews.{view_of}
use Rattle.run_laws.proofs.Links.LinkWires.{CurrentClosed, IsGiving, IsTelling, IsClosed, IsWired}
use Rattle.run_laws.proofs.Bytes.LinkModes.{AnyGive, AnyData, CurrentFlow, Mode, Waits, Over, Reads, Writes, ModeOf, IsFit, fit-closed, mode-carried, mode-down}
use Rattle.run_laws.proofs.Traces.Sequences.{backward}

-- the command of the program that is at work or over; or one of a program that was over before the device was done with it
pub data Course (side : Side) (begun : Option ActiveProgram) (k : ProgramTrace) (downs : List (List Down)) (ups : List (List Up)) (u : UnitState) : Type 0 where
  Follows : Mode side begun k downs ups u → Course side begun k downs ups u
  Cut : begun ≡ None → (b : ActiveProgram) → HasWork (Some b) k → Mode side (Some b) k downs ups u → Course side begun k downs ups u

abbrev pub CourseOf : Side → Option ActiveProgram → Option ProgramTrace → List (List Down) → List (List Up) → UnitState → Type 0
CourseOf side begun None downs ups u = IsWired side 0 0 CurrentClosed AnyGive AnyData downs ups u
CourseOf side begun (Some k) downs ups u = Course side begun k downs ups u

-- the program is over
pub course-over : (side : Side) (begun : Option ActiveProgram) (k : ProgramTrace) (downs : List (List Down)) (ups : List (List Up)) (u : UnitState) → HasWork begun k → Course side begun k downs ups u →
    Course side None k downs ups u
course-over side None k downs ups u w c = c
course-over side (Some b) k downs ups u w (Follows m) = Cut refl b w m
course-over side (Some b) k downs ups u w (Cut e c v m) = absurd (cc e)

pub over-course : (side : Side) (s : SubchannelState) (k : Option ProgramTrace) (downs : List (List Down)) (ups : List (List Up)) (u : UnitState) → HeldBy s k → CourseOf side s.begun k downs ups u →
    CourseOf side None k downs ups u
over-course side s None downs ups u h c = c
over-course side s (Some k) downs ups u h c = course-over side s.begun k downs ups u h.work c

-- wires and a unit that carry it
pub course-carried : (side : Side) (begun : Option ActiveProgram) (k : Option ProgramTrace) (downs downs' : List (List Down)) (ups ups' : List (List Up)) (u v : UnitState) →
    ((P : Option CurrentCommand → Type 0) (Q : ℕ → List ℕ → Type 0) (R : ℕ → Load → Type 0) → IsFit P Q → IsWired side (number_of k) (length (took_of k)) P Q R downs ups u →
    IsWired side (number_of k) (length (took_of k)) P Q R downs' ups' v) →
    CourseOf side begun k downs ups u → CourseOf side begun k downs' ups' v
course-carried side begun None downs downs' ups ups' u v f c = f CurrentClosed AnyGive AnyData fit-closed c
course-carried side begun (Some k) downs downs' ups ups' u v f (Follows m) = Follows (mode-carried side begun k downs downs' ups ups' u v f m)
course-carried side begun (Some k) downs downs' ups ups' u v f (Cut e b w m) = Cut e b w (mode-carried side (Some b) k downs downs' ups ups' u v f m)

-- signals that vanish
pub fewer-course : (side : Side) (begun : Option ActiveProgram) (k : Option ProgramTrace) (downs downs' : List (List Down)) (ups ups' : List (List Up))
    (u : UnitState) → Fewer downs downs' → Fewer ups ups' → CourseOf side begun k downs ups u → CourseOf side begun k downs' ups' u
fewer-course side begun k downs downs' ups ups' u f g c =
    course-carried side begun k downs downs' ups ups' u u
    (λ P Q R fit w. record {
      hand = w.hand;
      gives = f (IsGiving (number_of k) (length (took_of k)) Q) w.gives;
      tells = g (IsTelling (number_of k) (length (took_of k)) R (IsClosed side (number_of k) u)) w.tells;
    }) c

pub carried-course : (side : Side) (begun : Option ActiveProgram) (k : Option ProgramTrace) (downs : List (List Down)) (ups : List (List Up)) (u : UnitState)
    (available : List Bool) (one : Option (OnPath Down)) →
    CourseOf side begun k (with_any_sent downs one) ups u → CourseOf side begun k (with_any_sent downs (carried available one)) ups u
carried-course side begun k downs ups u available one c =
    fewer-course side begun k (with_any_sent downs one) (with_any_sent downs (carried available one)) ups ups u (carried-fewer downs available one) (λ P a. a) c

pub answered-course : (side : Side) (begun : Option ActiveProgram) (k : Option ProgramTrace) (downs : List (List Down)) (ups : List (List Up)) (u : UnitState)
    (available : List Bool) (one : Option (OnPath Up)) →
    CourseOf side begun k downs (with_any_sent ups one) u → CourseOf side begun k downs (with_any_sent ups (carried available one)) u
answered-course side begun k downs ups u available one c =
    fewer-course side begun k downs downs (with_any_sent ups one) (with_any_sent ups (carried available one)) u (λ P a. a) (carried-fewer ups available one) c

-- what the unit does leaves the command that is at work for the trace
abbrev pub WorkOf : ActiveProgram → Option ProgramTrace → Type 0
WorkOf b None = Unit {0}
WorkOf b (Some k) = HasWork (Some b) k

takes-if : (b : ActiveProgram) (k : ProgramTrace) (code : ℕ) (c : Bool) → HasWork (Some b) k → HasWork (Some b) (if c then record k { taken = k.taken ▸ code; absorbed = [] } else k)
takes-if b k code true w = w
takes-if b k code false w = w

takes-work : (b : ActiveProgram) (k : ProgramTrace) (d : Down) → HasWork (Some b) k → HasWork (Some b) (takes d k)
takes-work b k (down.Command t n code room) w = takes-if b k code (t == k.number) w
takes-work b k d w = w

taken-work : (b : ActiveProgram) (k : ProgramTrace) (d : Down) (outcome : Bool) (sent : Option (OnPath Up)) → HasWork (Some b) k → WorkOf b (taken_at (reply.Down d outcome sent) (Some k))
taken-work b k d true None w = takes-work b k d w
taken-work b k d true (Some x) w = w
taken-work b k d false sent w = w

follows-of : (side : Side) (begun : Option ActiveProgram) (k : Option ProgramTrace) (downs : List (List Down)) (ups : List (List Up)) (u : UnitState) → ModeOf side begun k downs ups u → CourseOf side begun k downs ups u
follows-of side begun None downs ups u m = m
follows-of side begun (Some k) downs ups u m = Follows m

cut-of : (side : Side) (begun : Option ActiveProgram) (b : ActiveProgram) (k : Option ProgramTrace) (downs : List (List Down)) (ups : List (List Up)) (u : UnitState) → begun ≡ None → WorkOf b k →
    ModeOf side (Some b) k downs ups u → CourseOf side begun k downs ups u
cut-of side begun b None downs ups u e w m = m
cut-of side begun b (Some k) downs ups u e w m = Cut e b w m

same-last : (k : ProgramTrace) (b c : ActiveProgram) → HasWork (Some b) k → Some b ≡ Some c → IsLast (codes_of k) k.sent c.transfer
same-last k b c w e = let same : b ≡ c = cc e in subst (λ (x : ActiveProgram). IsLast (codes_of k) k.sent x.transfer) same (work-last b k w)

-- Down
pub course-down : (may : Bool) → (side : Side) (drawn : ℕ) (k : ProgramTrace) (downs : List (List Down)) (ups : List (List Up)) (u : UnitState) (path : ℕ) → IsOrdered side drawn k.number k.sent (codes_of k) (backward k.taken) downs u →
    (begun : Option ActiveProgram) (d : Down) → ((b : ActiveProgram) → begun ≡ Some b → IsLast (codes_of k) k.sent b.transfer) → slice_get (queue downs path) 0 ≡ Some d →
    IsDown drawn k.number k.sent (codes_of k) d → Course side begun k downs ups u →
    CourseOf side begun (taken_at (reply.Down d (outcome_of (unit_takes u side path d may)).taken (outcome_of (unit_takes u side path d may)).sent) (Some k)) (taken downs path)
    (with_any_sent ups (outcome_of (unit_takes u side path d may)).sent) (unit_after u (unit_takes u side path d may))
course-down may side drawn k downs ups u path o begun d last q i (Follows m) = follows-of side begun _ _ _ _ (mode-down side drawn k downs ups u path o may begun d last q i m)
course-down may side drawn k downs ups u path o begun d last q i (Cut e b w m) =
    cut-of side begun b _ _ _ _ e (taken-work b k d (outcome_of (unit_takes u side path d may)).taken (outcome_of (unit_takes u side path d may)).sent w)
    (mode-down side drawn k downs ups u path o may (Some b) d (λ c f. same-last k b c w f) q i m)

-- Report
absorbs-work : (b : ActiveProgram) (k : ProgramTrace) (count : ℕ) (x : Option CurrentCommand) → HasWork (Some b) k → HasWork (Some b) (absorbs count x k)
absorbs-work b k count None w = w
absorbs-work b k count (Some x) w = by x.unabsorbed
  where
    by : (g : Option (List ℕ)) → HasWork (Some b) (absorbs count (Some (record x { unabsorbed = g })) k)
    by None = w
    by (Some bytes) = w

report-if : (b : ActiveProgram) (k : ProgramTrace) (count : ℕ) (x : Option CurrentCommand) (c : Bool) → HasWork (Some b) k → HasWork (Some b) (if c then absorbs count x k else k)
report-if b k count x true w = absorbs-work b k count x w
report-if b k count x false w = w

reported-work : (b : ActiveProgram) (k : ProgramTrace) (u : UnitState) (report : Report) (a : DeviceAnswer) → HasWork (Some b) k → HasWork (Some b) (reported u report a k)
reported-work b k u report (answer.Absorbed count) w = report-if b k count u.current (report.number == k.number) w
reported-work b k u report other w = w

pub course-reports : (side : Side) (drawn : ℕ) (begun : Option ActiveProgram) (k : ProgramTrace) (downs : List (List Down)) (ups : List (List Up)) (u : UnitState) (report : Report) (y : UnitStep) →
    same_side side report.side ≡ true → IsNumbered side drawn k.number (backward k.taken) u → IsReportTaken u report y → Course side begun k downs ups u →
    Course side begun (reported u report report.answer k) downs (with_any_sent ups y.sent) y.state
course-reports side drawn begun k downs ups u report y s n t (Follows m) = Follows (mode-reports side drawn begun k downs ups u report y s n t m)
course-reports side drawn begun k downs ups u report y s n t (Cut e b w m) =
    Cut e b (reported-work b k u report report.answer w) (mode-reports side drawn (Some b) k downs ups u report y s n t m)

-- the transfer is marked, or its block's interruption was made
pub mode-marked : (side : Side) (b c : ActiveProgram) (k : ProgramTrace) (downs : List (List Down)) (ups : List (List Up)) (u : UnitState) → IsUninterrupted b c → Mode side (Some b) k downs ups u →
    Mode side (Some c) k downs ups u
mode-marked side b c k downs ups u i (Waits d e g r y a w) =
    let same : b ≡ d = cc e in Waits c refl g (i.sequence ∙ (ap (λ (x : ActiveProgram). x.transfer.sequence) same ∙ r)) y a w
mode-marked side b c k downs ups u i (Over e g r a w) = absurd (cc e)
mode-marked side b c k downs ups u i (Reads d e g o r w) =
    let same : b ≡ d = cc e in Reads c refl g (ap is_outward i.code ∙ (ap (λ (x : ActiveProgram). is_outward x.transfer.code) same ∙ o)) r w
mode-marked side b c k downs ups u i (Writes d e g o lead f w) =
    let same : b ≡ d = cc e in
    let V : ℕ → Moving → View = λ q m. record { seq = q; next = next_place m; room = room m; moved = k.now.moved; copied = k.now.copied } in
    let views : view_of d.transfer k.now ≡ view_of c.transfer k.now =
    ap (λ (x : ActiveProgram). view_of x.transfer k.now) (sym same) ∙ sym (ap (λ (q : ℕ). V q c.transfer.moving) i.sequence ∙ ap (V b.transfer.sequence) i.moving) in
    let codes : d.transfer.code ≡ c.transfer.code = ap (λ (x : ActiveProgram). x.transfer.code) (sym same) ∙ sym i.code in
    let P : View → ℕ → Type 0 = λ x y. IsWired side k.number (length (backward k.taken)) (CurrentFlow y x lead) (IsGive x) (IsData x lead) downs ups u in
    Writes c refl g (ap is_outward (sym codes) ∙ o) lead (subst (λ (x : View). Flow x k.absorbed lead) views f)
    (subst (λ (x : View). P x c.transfer.code) views (subst (λ (y : ℕ). P (view_of d.transfer k.now) y) codes w))

pub interrupted-mode : (side : Side) (x : SubchannelState) (b : ActiveProgram) (k : ProgramTrace) (downs : List (List Down)) (ups : List (List Up)) (u : UnitState) → x.begun ≡ Some b →
    Mode side (Some b) k downs ups u → Mode side (with_pci x (Some b)).begun k downs ups u
interrupted-mode side x b k downs ups u e m =
    let i : IsInterrupted x (with_pci x (Some b)) b = interrupted-work x b e in
    subst (λ (c : Option ActiveProgram). Mode side c k downs ups u) (sym i.is) (mode-marked side b i.begun k downs ups u i.same m)

-- a command ends, and none is chained to it
pub mode-ended : (status : DeviceStatus) (side : Side) (begun : Option ActiveProgram) (k : ProgramTrace) (downs : List (List Down)) (ups : List (List Up)) (u : UnitState) →
    Mode side begun k downs ups u → Mode side begun (ends_alone status k) downs ups u
mode-ended status side begun k downs ups u (Waits b e n s m a w) = Waits b e n s m a w
mode-ended status side begun k downs ups u (Over e n z a w) = Over e n z a w
mode-ended status side begun k downs ups u (Reads b e n o z w) = Reads b e n o z w
mode-ended status side begun k downs ups u (Writes b e n o lead f w) = Writes b e n o lead f w

pub mode-with : (side : Side) (begun : Option ActiveProgram) (k : ProgramTrace) (downs : List (List Down)) (ups : List (List Up)) (u : UnitState) →
    Mode side begun k downs ups u → Mode side begun (with_ended k) downs ups u
mode-with side begun k downs ups u (Waits b e n s m a w) = Waits b e n s m a w
mode-with side begun k downs ups u (Over e n z a w) = Over e n z a w
mode-with side begun k downs ups u (Reads b e n o z w) = Reads b e n o z w
mode-with side begun k downs ups u (Writes b e n o lead f w) = Writes b e n o lead f w

-- what was absorbed is of the command that the trace has last
module _ (laws : AreLaws) (k : ProgramTrace) where
  flow-begins : (t : Transfer) (lead : Option ℕ) → Tied k.earlier k.orb k.now.acts k.now.moved t → IsLead (view_of t k.now) lead → IsBeginning (lead_places (view_of t k.now) lead) (places_of k.orb k.now.acts)
  flow-begins t None i l = spot-begins k.orb (data_areas k.orb k.now.acts) t k.now.moved i.spot
  flow-begins t (Some j) i l =
      let within : room t.moving ≤ t.moving.left = min-le_left t.moving.left 256 in
      spot-begins k.orb (data_areas k.orb k.now.acts) (with_bytes_moved t j) (k.now.moved ++ each_below (next_place t.moving) j)
      (with_bytes_moved-tied k.earlier laws k.orb k.now.acts k.now.moved t j (let h : j ≤ room t.moving = l in omega (arith, h, within)) i).spot

  pub flow-absorbs : (t : Transfer) (lead : Option ℕ) → Tied k.earlier k.orb k.now.acts k.now.moved t → Flow (view_of t k.now) k.absorbed lead → AbsorbsInOrder k.orb k.now k.absorbed
  flow-absorbs t lead i f =
      (f.chunks, f.firsts, f.bytes, subst (λ (xs : List (Option ℕ)). IsBeginning xs (places_of k.orb k.now.acts)) (sym f.places) (flow-begins t lead i f.within))

  -- the same places
  pub absorbs-on : (after : CommandTrace) → after.copied ≡ k.now.copied → data_areas k.orb after.acts ≡ data_areas k.orb k.now.acts → AbsorbsInOrder k.orb k.now k.absorbed → AbsorbsInOrder k.orb after k.absorbed
  absorbs-on after c r a = (
    a.0,
    subst (λ (xs : List PlacedBytes). All (IsFirstOf xs) a.0) (sym c) a.1,
    a.2,
    subst (λ (xs : Sequence Reach). IsBeginning (flat_map (λ (x : PlacedBytes). x.places) a.0) (places_of_bytes (block (kind_of k.orb)) xs)) (sym r) a.3,
  )
