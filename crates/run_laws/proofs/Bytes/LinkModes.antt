-- The bytes that a device absorbs for its command: what holds of them between a subchannel, the trace of its program and a
-- unit, and what a unit keeps of it.
use Rattle.std.proofs.Common.{◌≡◌, refl, sym, ◌∙◌, ap, subst, ℕ, ◌+◌, ◌≤◌, Bool, true, false, ◌==◌, ◌&&◌, length, Option, None, Some, List, [], ◌∷◌, ◌++◌, arith}
use Rattle.std.specs.Prelude.{if◌then◌else◌, ◌||◌, is_some, slice_get}
use Rattle.std.proofs.lemmas.Bool.{eqb-true, eq-eqb}
use Rattle.std.proofs.lemmas.List.Elements.{All-nil}
use Rattle.orb_block.specs.declared.Orb.{Orb}
use Rattle.chan_model.specs.declared.names.Side.{Side}
use Rattle.chan_events.specs.declared.reply.Reply.TheVariants as reply
use Rattle.chan_model.specs.Signals.{Down, Load, Up}
use Rattle.chan_model.specs.declared.signal.Down.TheVariants as down
use Rattle.chan_model.specs.declared.signal.OnPath.{OnPath}
use Rattle.chan_model.specs.declared.unit_state.CurrentCommand.{CurrentCommand}
use Rattle.chan_model.specs.declared.unit_state.UnitState.{UnitState}
use Rattle.chan_model.specs.UnitTable.{UnitStep, outcome_of, changes, new_command, side_of, is_owner, unit_takes, unit_after, telling}
use Rattle.chan_model.specs.UnitReports.{is_outward}
use Rattle.data_move.specs.Moving.{room}
use Rattle.data_move.specs.declared.transfer.Transfer.{Transfer}
use Rattle.wires.specs.Queues.{queue, taken}
use Rattle.subchannel_model.specs.declared.state.ActiveProgram.{ActiveProgram}
use Rattle.subchannel_model.specs.Sending.{with_any_sent}
use Rattle.run_laws.specs.Traces.{CommandTrace, ProgramTrace, taken_at}
use Rattle.run_laws.proofs.Traces.MachineTraces.{silent, silent_by}
use Rattle.run_laws.specs.ProgramClaims.{AbsorbsInOrder, IsFirstOf}
use Rattle.run_laws.proofs.Commands.UnitOrders.{IsNth, IsDown, IsOrdered, ends-same}
use Rattle.run_laws.proofs.Commands.UnitGrowth.{codes_of}
use Rattle.run_laws.proofs.Bytes.UnitFlows.{View, Hand, Flow, IsGive, IsData, begins-flow, begins-hand, give-hand, answer-hand, again-hand}
use Rattle.run_laws.proofs.Links.LinkViews.{view_of}
use Rattle.run_laws.proofs.Units.UnitCurrents.{StaysAnswered, TakesGive}
use Rattle.run_laws.proofs.Units.UnitActs.{StaysMarked}
use Rattle.run_laws.proofs.Links.LinkWires.{CurrentClosed, IsWired, closed-marked, IsNoNext, IsAnswered, wired-takes, wired-next}
use Rattle.run_laws.proofs.Links.LinkNeeds.{IsLast}
use Rattle.ccw_walk.specs.Sequences.{◌▸◌}
use Rattle.run_laws.proofs.Traces.Sequences.{backward}

abbrev pub AnyGive : ℕ → List ℕ → Type 0
AnyGive s bytes = Unit {0}

abbrev pub NoGive : ℕ → List ℕ → Type 0
NoGive s bytes = ⊥

abbrev pub AnyData : ℕ → Load → Type 0
AnyData s l = Unit {0}

-- a command that brings bytes in is given none
abbrev pub CurrentPlain : Option CurrentCommand → Type 0
CurrentPlain None = Unit {0}
CurrentPlain (Some x) = x.unabsorbed ≡ None

-- a command that takes bytes to the device is moved so far
abbrev pub CurrentFlow : ℕ → View → Option ℕ → Option CurrentCommand → Type 0
CurrentFlow code v lead None = Unit {0}
CurrentFlow code v lead (Some x) = (x.code ≡ code) × Hand v lead x

-- the device is to take the last command that was sent; or it took it, and the program is over, reads or writes
pub data Mode (side : Side) (begun : Option ActiveProgram) (k : ProgramTrace) (downs : List (List Down)) (ups : List (List Up)) (u : UnitState) : Type 0 where
  Waits : (b : ActiveProgram) → begun ≡ Some b → length (backward k.taken) + 1 ≡ k.sent → b.transfer.sequence ≡ 0 → k.now.moved ≡ [] → AbsorbsInOrder k.orb k.before k.absorbed →
      IsWired side k.number (length (backward k.taken)) CurrentClosed AnyGive AnyData downs ups u → Mode side begun k downs ups u
  Over : begun ≡ None → length (backward k.taken) ≡ k.sent → (k.sent ≡ 0 → k.absorbed ≡ []) → AbsorbsInOrder k.orb k.now k.absorbed →
      IsWired side k.number (length (backward k.taken)) CurrentClosed AnyGive AnyData downs ups u → Mode side begun k downs ups u
  Reads : (b : ActiveProgram) → begun ≡ Some b → length (backward k.taken) ≡ k.sent → is_outward b.transfer.code ≡ false → k.absorbed ≡ [] →
      IsWired side k.number (length (backward k.taken)) CurrentPlain NoGive AnyData downs ups u → Mode side begun k downs ups u
  Writes : (b : ActiveProgram) → begun ≡ Some b → length (backward k.taken) ≡ k.sent → is_outward b.transfer.code ≡ true → (lead : Option ℕ) → Flow (view_of b.transfer k.now) k.absorbed lead →
      IsWired side k.number (length (backward k.taken)) (CurrentFlow b.transfer.code (view_of b.transfer k.now) lead) (IsGive (view_of b.transfer k.now)) (IsData (view_of b.transfer k.now) lead) downs ups u →
      Mode side begun k downs ups u

abbrev pub ModeOf : Side → Option ActiveProgram → Option ProgramTrace → List (List Down) → List (List Up) → UnitState → Type 0
ModeOf side begun None downs ups u = IsWired side 0 0 CurrentClosed AnyGive AnyData downs ups u
ModeOf side begun (Some k) downs ups u = Mode side begun k downs ups u

-- what is claimed of the command at hand fits what a signal does to it, and what is done as its program leaves its path
pub record IsFit (P : Option CurrentCommand → Type 0) (Q : ℕ → List ℕ → Type 0) : Type 0 where
  pub none : P None
  pub answered : StaysAnswered P
  pub gives : (s : ℕ) (bytes : List ℕ) → Q s bytes → TakesGive P s bytes
  pub again : StaysMarked P

pub fit-closed : IsFit CurrentClosed AnyGive
fit-closed = record { none = tt; answered = λ x l room h. h; gives = λ s bytes q x e h. h; again = closed-marked }

plain-marked : StaysMarked CurrentPlain
plain-marked None h = h
plain-marked (Some x) h = h

fit-plain : IsFit CurrentPlain NoGive
fit-plain = record { none = tt; answered = λ x l room h. h; gives = λ s bytes q x e h. absurd q; again = plain-marked }

flow-marked : (code : ℕ) (v : View) (lead : Option ℕ) → StaysMarked (CurrentFlow code v lead)
flow-marked code v lead None h = h
flow-marked code v lead (Some x) h = (h.0, again-hand v lead x (x.again || is_some x.unanswered) h.1)

fit-flow : (code : ℕ) (v : View) (lead : Option ℕ) → IsFit (CurrentFlow code v lead) (IsGive v)
fit-flow code v lead = record {
  none = tt;
  answered = λ x l room h. (h.0, answer-hand v lead x l room h.1);
  gives = λ s bytes q x e h. (h.0, give-hand v lead x s bytes h.1 q e);
  again = flow-marked code v lead;
}

pub mode-carried : (side : Side) (begun : Option ActiveProgram) (k : ProgramTrace) (downs downs' : List (List Down)) (ups ups' : List (List Up)) (u v : UnitState) →
    ((P : Option CurrentCommand → Type 0) (Q : ℕ → List ℕ → Type 0) (R : ℕ → Load → Type 0) → IsFit P Q → IsWired side k.number (length (backward k.taken)) P Q R downs ups u →
    IsWired side k.number (length (backward k.taken)) P Q R downs' ups' v) →
    Mode side begun k downs ups u → Mode side begun k downs' ups' v
mode-carried side begun k downs downs' ups ups' u v f (Waits b e n s m a w) = Waits b e n s m a (f CurrentClosed AnyGive AnyData fit-closed w)
mode-carried side begun k downs downs' ups ups' u v f (Over e n z a w) = Over e n z a (f CurrentClosed AnyGive AnyData fit-closed w)
mode-carried side begun k downs downs' ups ups' u v f (Reads b e n o z w) = Reads b e n o z (f CurrentPlain NoGive AnyData fit-plain w)
mode-carried side begun k downs downs' ups ups' u v f (Writes b e n o lead q w) =
    Writes b e n o lead q (f (CurrentFlow b.transfer.code (view_of b.transfer k.now) lead) (IsGive (view_of b.transfer k.now)) (IsData (view_of b.transfer k.now) lead) (fit-flow b.transfer.code (view_of b.transfer k.now) lead) w)

-- nothing is absorbed
pub absorbs-none : (orb : Orb) (p : CommandTrace) (absorbed : List ℕ) → absorbed ≡ [] → AbsorbsInOrder orb p absorbed
absorbs-none orb p absorbed e = ([], All-nil (IsFirstOf p.copied), sym e, (_, refl))

-- Down: where the device took all that was sent, it takes no Command
trace-same : (d : Down) (outcome : Bool) (sent : Option (OnPath Up)) (k : ProgramTrace) → IsNoNext k.number d (silent_by outcome sent) → taken_at (reply.Down d outcome sent) (Some k) ≡ Some k
trace-same d true (Some x) k n = refl
trace-same d false (Some x) k n = refl
trace-same d false None k n = refl
trace-same (down.Select t) true None k n = refl
trace-same (down.Command t c code room) true None k n = by (t == k.number) refl
  where
    by : (b : Bool) → (t == k.number) ≡ b → Some (if b then record k { taken = k.taken ▸ code; absorbed = [] } else k) ≡ Some k
    by true e = absurd (cc (n (eqb-true t k.number e)))
    by false e = refl
trace-same (down.Grant t c) true None k n = refl
trace-same (down.Refuse t c) true None k n = refl
trace-same (down.Took t c s room) true None k n = refl
trace-same (down.Give bytes t c e s) true None k n = refl
trace-same (down.Halt t) true None k n = refl
trace-same (down.Release t) true None k n = refl
trace-same (down.Reset r b) true None k n = refl
trace-same (down.Got a) true None k n = refl

abbrev command_step : UnitState → ℕ → ℕ → ℕ → ℕ → Bool → Bool → Bool → Option UnitStep
command_step u p n code room fresh owner next =
    if fresh then telling u p else (if owner && next then changes (record u { last_command = n; current = Some (new_command p code room) }) else None)

-- the last of the codes
last-code : (codes : List ℕ) (sent n code : ℕ) (t : Transfer) → IsLast codes sent t → IsNth codes n code → n ≡ sent → code ≡ t.code
last-code codes sent n code t l k e =
    let list : [] ++ (t.code ∷ l.before) ≡ k.later ++ (code ∷ k.mid) = sym l.list ∙ k.list in
    let long : length (t.code ∷ l.before) ≡ length (code ∷ k.mid) = omega (arith, l.count, k.count, l.at, e) in
    let same : (t.code ∷ l.before) ≡ (code ∷ k.mid) = ends-same [] k.later (t.code ∷ l.before) (code ∷ k.mid) list long in
    sym (cc same)

module _ (side : Side) (drawn : ℕ) (k : ProgramTrace) (downs : List (List Down)) (ups : List (List Up)) (u : UnitState) (path : ℕ) (o : IsOrdered side drawn k.number k.sent (codes_of k) (backward k.taken) downs u) where
  abbrev After : (may : Bool) → Option ActiveProgram → Down → Type 0
  After may begun d =
      ModeOf side begun (taken_at (reply.Down d (outcome_of (unit_takes u side path d may)).taken (outcome_of (unit_takes u side path d may)).sent) (Some k)) (taken downs path)
      (with_any_sent ups (outcome_of (unit_takes u side path d may)).sent) (unit_after u (unit_takes u side path d may))

  carried-down : (may : Bool) → (begun : Option ActiveProgram) (d : Down) → slice_get (queue downs path) 0 ≡ Some d → IsDown drawn k.number k.sent (codes_of k) d → IsAnswered may side k.number u path d →
      Mode side begun k downs ups u → After may begun d
  carried-down may begun d e i n m =
      subst
      (λ (x : Option ProgramTrace). ModeOf side begun x (taken downs path) (with_any_sent ups (outcome_of (unit_takes u side path d may)).sent) (unit_after u (unit_takes u side path d may)))
      (sym (trace-same d (outcome_of (unit_takes u side path d may)).taken (outcome_of (unit_takes u side path d may)).sent k n))
      (mode-carried side begun k downs (taken downs path) ups (with_any_sent ups (outcome_of (unit_takes u side path d may)).sent) u (unit_after u (unit_takes u side path d may))
      (λ P Q R f w. wired-takes may side drawn k.number (length (backward k.taken)) k.sent (codes_of k) P Q R downs ups u path d e i f.none f.answered f.gives o.kept.last n w) m)

  full-answered : (t n code room : ℕ) → IsDown drawn k.number k.sent (codes_of k) (down.Command t n code room) → length (backward k.taken) ≡ k.sent → (fresh owner next : Bool) →
      is_owner u.own side t ≡ owner → (n == u.last_command + 1) ≡ next → t ≡ k.number → silent (outcome_of (command_step u path n code room fresh owner next)) ≡ false
  full-answered t n code room i f true owner next a b e = refl
  full-answered t n code room i f false true true a b e =
      let last : u.last_command ≡ length (backward k.taken) = o.kept.last (subst (λ (x : ℕ). is_owner u.own side x ≡ true) e a) in
      let is : n ≡ u.last_command + 1 = eqb-true n (u.last_command + 1) b in
      let le : n ≤ k.sent = (i.1 e).0 in
      absurd (omega (arith, last, is, le, f))
  full-answered t n code room i f false true false a b e = refl
  full-answered t n code room i f false false next a b e = refl

  all-answered : (may : Bool) → (d : Down) → IsDown drawn k.number k.sent (codes_of k) d → length (backward k.taken) ≡ k.sent → IsAnswered may side k.number u path d
  all-answered may (down.Command t n code room) i f = full-answered t n code room i f (side_of u side).fresh (is_owner u.own side t) (n == u.last_command + 1) refl refl
  all-answered may d i f = tt

  -- the Command that it waits for
  abbrev next_trace : ℕ → ProgramTrace
  next_trace code = record k { taken = k.taken ▸ code; absorbed = [] }

  taken-wires : (P : Option CurrentCommand → Type 0) (Q : ℕ → List ℕ → Type 0) (R : ℕ → Load → Type 0) (code n room : ℕ) → P (Some (new_command path code room)) →
      IsWired side k.number (length (backward k.taken)) CurrentClosed AnyGive AnyData downs ups u →
      IsWired side k.number (length (code ∷ backward k.taken)) P Q R (taken downs path) ups (record u { last_command = n; current = Some (new_command path code room) })
  taken-wires P Q R code n room p w =
      let long : length (backward k.taken) + 1 ≡ length (code ∷ backward k.taken) = omega arith in
      subst (λ (i : ℕ). IsWired side k.number i P Q R (taken downs path) ups (record u { last_command = n; current = Some (new_command path code room) })) long
      (wired-next side k.number (length (backward k.taken)) CurrentClosed P AnyGive Q AnyData R downs ups u (record u { last_command = n; current = Some (new_command path code room) }) path p w)

  takes-next : (begun : Option ActiveProgram) (b : ActiveProgram) (code n room : ℕ) (out : Bool) → is_outward b.transfer.code ≡ out → begun ≡ Some b → length (backward k.taken) + 1 ≡ k.sent → b.transfer.sequence ≡ 0 →
      k.now.moved ≡ [] → code ≡ b.transfer.code → IsWired side k.number (length (backward k.taken)) CurrentClosed AnyGive AnyData downs ups u →
      Mode side begun (next_trace code) (taken downs path) ups (record u { last_command = n; current = Some (new_command path code room) })
  takes-next begun b code n room false z e l s m c w = Reads b e (omega (arith, l)) z refl (taken-wires CurrentPlain NoGive AnyData code n room refl w)
  takes-next begun b code n room true z e l s m c w =
      let v : View = view_of b.transfer k.now in
      Writes b e (omega (arith, l)) z None (begins-flow v m) (taken-wires (CurrentFlow b.transfer.code v None) (IsGive v) (IsData v None) code n room (c, begins-hand v path code room s) w)

  module _ (begun : Option ActiveProgram) (t n code room : ℕ) where
    abbrev Then : Bool → Bool → Bool → Type 0
    Then fresh owner next =
        let step : Option UnitStep = command_step u path n code room fresh owner next in
        ModeOf side begun (taken_at (reply.Down (down.Command t n code room) (outcome_of step).taken (outcome_of step).sent) (Some k)) (taken downs path)
        (with_any_sent ups (outcome_of step).sent) (unit_after u step)

    then-taken : t ≡ k.number → Mode side begun (next_trace code) (taken downs path) ups (record u { last_command = n; current = Some (new_command path code room) }) → Then false true true
    then-taken e m =
        subst (λ (b : Bool). Mode side begun (if b then next_trace code else k) (taken downs path) ups (record u { last_command = n; current = Some (new_command path code room) }))
        (sym (eq-eqb t k.number e)) m

    waits-by : (may : Bool) → (b : ActiveProgram) → begun ≡ Some b → IsLast (codes_of k) k.sent b.transfer → length (backward k.taken) + 1 ≡ k.sent → b.transfer.sequence ≡ 0 → k.now.moved ≡ [] →
        slice_get (queue downs path) 0 ≡ Some (down.Command t n code room) → IsDown drawn k.number k.sent (codes_of k) (down.Command t n code room) →
        IsWired side k.number (length (backward k.taken)) CurrentClosed AnyGive AnyData downs ups u → Mode side begun k downs ups u → After may begun (down.Command t n code room)
    waits-by may b e last l s m q i w mode =
        by (side_of u side).fresh (is_owner u.own side t) (n == u.last_command + 1) (t == k.number) refl refl refl refl
      where
        other : ((fresh owner next : Bool) → (side_of u side).fresh ≡ fresh → is_owner u.own side t ≡ owner → (n == u.last_command + 1) ≡ next → t ≡ k.number →
            silent (outcome_of (command_step u path n code room fresh owner next)) ≡ false) → After may begun (down.Command t n code room)
        other a = carried-down may begun (down.Command t n code room) q i (a (side_of u side).fresh (is_owner u.own side t) (n == u.last_command + 1) refl refl refl) mode

        untaken : (x : Bool) → (is_owner u.own side t ≡ x) → x ≡ false → (fresh owner next : Bool) → (side_of u side).fresh ≡ fresh → is_owner u.own side t ≡ owner →
            silent (outcome_of (command_step u path n code room fresh owner next)) ≡ false
        untaken x p z true owner next f g = refl
        untaken x p z false true next f g = absurd (cc (sym g ∙ (p ∙ z)))
        untaken x p z false false next f g = refl

        answers : (fresh owner next : Bool) → fresh ≡ true → silent (outcome_of (command_step u path n code room fresh owner next)) ≡ false
        answers true owner next e = refl
        answers false owner next e = absurd (cc e)

        unfit : (n == u.last_command + 1) ≡ false → (fresh owner next : Bool) → (side_of u side).fresh ≡ fresh → (n == u.last_command + 1) ≡ next →
            silent (outcome_of (command_step u path n code room fresh owner next)) ≡ false
        unfit z true owner next f h = refl
        unfit z false true true f h = absurd (cc (sym h ∙ z))
        unfit z false true false f h = refl
        unfit z false false next f h = refl

        by : (fresh owner next same : Bool) → (side_of u side).fresh ≡ fresh → is_owner u.own side t ≡ owner → (n == u.last_command + 1) ≡ next → (t == k.number) ≡ same →
            After may begun (down.Command t n code room)
        by true owner next same f g h j = other (λ fresh owner next a c d z. answers fresh owner next (sym a ∙ f))
        by false true true true f g h j =
            let here : t ≡ k.number = eqb-true t k.number j in
            let took : u.last_command ≡ length (backward k.taken) = o.kept.last (subst (λ (x : ℕ). is_owner u.own side x ≡ true) here g) in
            let is : n ≡ u.last_command + 1 = eqb-true n (u.last_command + 1) h in
            let at : n ≡ k.sent = is ∙ ap (λ (x : ℕ). x + 1) took ∙ l in
            let made : Then false true true =
            then-taken here (takes-next begun b code n room (is_outward b.transfer.code) refl e l s m (last-code (codes_of k) k.sent n code b.transfer last ((i.1 here).1) at) w) in
            subst (λ (x : Bool). Then x (is_owner u.own side t) (n == u.last_command + 1)) (sym f)
            (subst (λ (x : Bool). Then false x (n == u.last_command + 1)) (sym g) (subst (λ (x : Bool). Then false true x) (sym h) made))
        by false true true false f g h j =
            other (λ fresh owner next a c d z. absurd (cc (sym (eq-eqb t k.number z) ∙ j)))
        by false true false same f g h j = other (λ fresh owner next a c d z. unfit h fresh owner next a d)
        by false false next same f g h j = other (λ fresh owner next a c d z. untaken false g refl fresh owner next a c)

  -- any signal
  mode-next : (may : Bool) → (begun : Option ActiveProgram) (d : Down) → ((b : ActiveProgram) → begun ≡ Some b → IsLast (codes_of k) k.sent b.transfer) → slice_get (queue downs path) 0 ≡ Some d →
      IsDown drawn k.number k.sent (codes_of k) d → Mode side begun k downs ups u → (b : ActiveProgram) → begun ≡ Some b → length (backward k.taken) + 1 ≡ k.sent → b.transfer.sequence ≡ 0 → k.now.moved ≡ [] →
      IsWired side k.number (length (backward k.taken)) CurrentClosed AnyGive AnyData downs ups u → After may begun d
  mode-next may begun (down.Command t n code room) last q i m b e l s z w = waits-by begun t n code room may b e (last b e) l s z q i w m
  mode-next may begun d last q i m b e l s z w = carried-down may begun d q i tt m

  pub mode-down : (may : Bool) → (begun : Option ActiveProgram) (d : Down) → ((b : ActiveProgram) → begun ≡ Some b → IsLast (codes_of k) k.sent b.transfer) → slice_get (queue downs path) 0 ≡ Some d →
      IsDown drawn k.number k.sent (codes_of k) d → Mode side begun k downs ups u → After may begun d
  mode-down may begun d last q i (Waits b e n s m a w) = mode-next may begun d last q i (Waits b e n s m a w) b e n s m w
  mode-down may begun d last q i (Over e n z a w) = carried-down may begun d q i (all-answered may d i n) (Over e n z a w)
  mode-down may begun d last q i (Reads b e n y z w) = carried-down may begun d q i (all-answered may d i n) (Reads b e n y z w)
  mode-down may begun d last q i (Writes b e n y lead f w) = carried-down may begun d q i (all-answered may d i n) (Writes b e n y lead f w)
