-- The commands that a device takes are those of the program, in order: what each kind of step keeps of this.
use Rattle.std.proofs.Common.{◌<◌, ◌≡◌, refl, sym, ◌∙◌, ap, subst, ℕ, ◌+◌, ◌≤◌, Bool, true, false, ◌==◌, nat_lt, Option, None, Some, Err, List, [], ◌∷◌, length, inl, inr, arith}
use Rattle.std.specs.Prelude.{if◌then◌else◌, slice_get, IfOk, IfSome}
use Rattle.storage_keys.specs.Storage.{Contents}
use Rattle.chan_model.specs.declared.fault.Fault.TheVariants as fault
use Rattle.chan_model.specs.declared.hold_state.HoldPhase.{HoldPhase}
use Rattle.chan_model.specs.declared.hold_state.HoldPhase.TheVariants as hold
use Rattle.chan_model.specs.declared.names.Side.{Side}
use Rattle.chan_model.specs.Reports.{DeviceAnswer, Report}
use Rattle.chan_model.specs.declared.report.DeviceAnswer.TheVariants as answer
use Rattle.chan_events.specs.declared.reply.Reply.TheVariants as reply
use Rattle.chan_model.specs.Signals.{Down, Up}
use Rattle.chan_model.specs.declared.signal.Down.TheVariants as down
use Rattle.chan_model.specs.declared.signal.OnPath.{OnPath}
use Rattle.chan_model.specs.declared.unit_state.CurrentCommand.{CurrentCommand}
use Rattle.chan_model.specs.declared.unit_state.UnitState.{UnitState}
use Rattle.chan_model.specs.HoldTable.{is_on}
use Rattle.chan_model.specs.Sides.{same_side}
use Rattle.chan_model.specs.UnitTable as unit_table
use Rattle.chan_model.specs.UnitTable.{UnitStep, side_of, resets, unit_takes, unit_after}
use Rattle.chan_model.specs.UnitReports.{unit_reports}
use Rattle.wires.specs.Queues.{queue, first_of, taken}
use Rattle.subchannel_model.specs.declared.state.Chosen.{Chosen}
use Rattle.subchannel_model.specs.declared.state.Chosen.TheVariants.{Resets, Halts, FindsNoPath, Offers}
use Rattle.subchannel_model.specs.declared.cause.StatusCause.TheVariants as cause
use Rattle.subchannel_model.specs.declared.state.Program.{Program}
use Rattle.subchannel_model.specs.declared.state.Subchannel.{Subchannel}
use Rattle.subchannel_model.specs.declared.state.SubchannelState.{SubchannelState}
use Rattle.subchannel_model.specs.Choosing.{reset_sent, halt_sent, offered}
use Rattle.subchannel_model.specs.Taking.{takes_up}
use Rattle.machine_model.specs.Results.{UpResult}
use Rattle.subchannel_model.specs.Sending.{carried, carried_by, with_any_sent, finds_full}
use Rattle.machine_model.specs.ChooseSteps.{choose_sub}
use Rattle.machine_model.specs.UpSteps.{up_front, up_sub}
use Rattle.machine_model.specs.DownSteps.{down_front, down_sub}
use Rattle.machine_model.specs.ReportSteps.{report_taken}
use Rattle.step_laws.specs.Walks.{IsFound, Suits}
use Rattle.run_laws.proofs.Traces.MachineTraces.{silent_by, trace_meets, met_with, met_at}
use Rattle.run_laws.specs.Traces.{ProgramTrace, trace_offered, chosen_at, taken_at, absorbs, reported_at, offered_for, reported}
use Rattle.ccw_walk.specs.Sequences.{Sequence, ◌▸◌, count, each}
use Rattle.ccw_walk.specs.Programs.{Command, commands, code}
use Rattle.run_laws.proofs.Traces.Caused.{cause-kept}
use Rattle.run_laws.proofs.Traces.Holds.{IsUnheld, IsUntold}
use Rattle.run_laws.proofs.Units.UnitSides.{IsStillStep, other-still, report-still}
use Rattle.run_laws.proofs.Commands.UnitOrders.{IsAbove, IsDown, AreOn, IsOrdered, on-taken, on-first, hold-sends, hold-begins, hold-offers, hold-draws, ordered-still, took_after, unit-takes}
use Rattle.run_laws.proofs.Links.LinkNeeds.{IsLast, IsNeeded, Needs, reset-needs}
use Rattle.run_laws.proofs.Links.LinkDrawn.{up-drawn}
use Rattle.run_laws.proofs.Commands.UnitGrowth.{later_codes, later-none, codes_of, IsGrown, meets-grown}
use Rattle.run_laws.proofs.Units.UnitActs.{IsGentle, if-ok, ordered-gentle}
use Rattle.run_laws.proofs.Commands.LinkSent.{IsOf, IsAtWork, up-sends}
use Rattle.run_laws.proofs.Links.Vanishing.{Fewer, carried-fewer, send-ok}
use Rattle.subchannel_model.specs.declared.state.UpStep.{UpStep}
use Rattle.run_laws.proofs.Traces.Sequences.{count-each, backward, length-backward}

-- the orders between the trace and a unit
abbrev pub number_of : Option ProgramTrace → ℕ
number_of None = 0
number_of (Some k) = k.number

abbrev pub sent_of : Option ProgramTrace → ℕ
sent_of None = 0
sent_of (Some k) = k.sent

abbrev pub all_codes : Option ProgramTrace → List ℕ
all_codes None = []
all_codes (Some k) = codes_of k

abbrev pub took_of : Option ProgramTrace → List ℕ
took_of None = []
took_of (Some k) = backward k.taken

abbrev pub IsLinked : Side → ℕ → List (List Down) → Option ProgramTrace → UnitState → Type 0
IsLinked side drawn wires k u = IsOrdered side drawn (number_of k) (sent_of k) (all_codes k) (took_of k) wires u

abbrev pub AtUnit : (UnitState → Type 0) → Option UnitState → Type 0
AtUnit P None = ⊥
AtUnit P (Some u) = P u

with-wires : (side : Side) (drawn number sent : ℕ) (codes took : List ℕ) (wires after : List (List Down)) (u : UnitState) → AreOn (IsDown drawn number sent codes) after →
    IsOrdered side drawn number sent codes took wires u → IsOrdered side drawn number sent codes took after u
with-wires side drawn number sent codes took wires after u a k = record { later = k.later; order = k.order; most = k.most; downs = a; kept = k.kept }

-- signals that vanish
pub fewer-linked : (side : Side) (drawn : ℕ) (wires after : List (List Down)) (k : Option ProgramTrace) (u : UnitState) → Fewer wires after →
    IsLinked side drawn wires k u → IsLinked side drawn after k u
fewer-linked side drawn wires after k u f l =
    with-wires side drawn (number_of k) (sent_of k) (all_codes k) (took_of k) wires after u
    (f (IsDown drawn (number_of k) (sent_of k) (all_codes k)) l.downs) l

carried-linked : (side : Side) (drawn : ℕ) (wires : List (List Down)) (available : List Bool) (one : Option (OnPath Down)) (k : Option ProgramTrace)
    (u : UnitState) → IsLinked side drawn (with_any_sent wires one) k u → IsLinked side drawn (with_any_sent wires (carried available one)) k u
carried-linked side drawn wires available one k u l =
    fewer-linked side drawn (with_any_sent wires one) (with_any_sent wires (carried available one)) k u (carried-fewer wires available one) l

-- what is sent as a signal is met is of the codes then
down-of : (k : ProgramTrace) (s : SubchannelState) (d : Down) → IsNeeded k s → IsOf s d → IsDown s.drawn k.number k.sent (codes_of k) d
down-of k s (down.Select t) n h = absurd h
down-of k s (down.Command t m code room) n h =
    let w : IsAtWork s t m code = h in
    let last : IsLast (codes_of k) k.sent w.begun.transfer = n.begun w.begun w.is in
    let here : t ≡ k.number = n.on t w.on in (
      omega (arith, here),
      λ e. (
        omega (arith, w.command, last.at),
        record { later = []; mid = last.before; list = last.list ∙ ap (λ (c : ℕ). c ∷ last.before) (sym w.same_code); count = last.count ∙ sym w.command },
      ),
    )
down-of k s (down.Reset r b) n h = absurd h
down-of k s d n h = tt

-- where nothing was offered no program is connected, and no Command is sent
unheld-on : (phase : HoldPhase) (drawn t : ℕ) → IsUnheld phase drawn → is_on phase t ≡ true → ⊥
unheld-on hold.Free drawn t u e = absurd (cc e)
unheld-on (hold.Reset r) drawn t u e = absurd (cc e)
unheld-on other drawn t u e = absurd u

down-untold : (s : SubchannelState) (d : Down) → IsUntold s → IsOf s d → IsDown s.drawn 0 0 [] d
down-untold s (down.Select t) f h = absurd h
down-untold s (down.Command t m code room) f h =
    let w : IsAtWork s t m code = h in absurd (unheld-on s.hold.phase s.drawn t f.phase w.on)
down-untold s (down.Reset r b) f h = absurd h
down-untold s d f h = tt

if-some : (P Q : OnPath Down → Type 0) (one : Option (OnPath Down)) → ((x : OnPath Down) → P x → Q x) → IfSome one P → IfSome one Q
if-some P Q None f h = tt
if-some P Q (Some x) f h = f x h

-- Choose
pub number-drawn : (k : Option ProgramTrace) (s : SubchannelState) → Needs k s → number_of k ≤ s.drawn
number-drawn None s n = omega arith
number-drawn (Some k) s n = n.number

-- something is sent that isn't of a program's commands
same-linked : (side : Side) (drawn path : ℕ) (d : Down) (wires : List (List Down)) (k : Option ProgramTrace) (u : UnitState) → IsDown drawn (number_of k) (sent_of k) (all_codes k) d →
    IsLinked side drawn wires k u → IsLinked side drawn (with_any_sent wires (Some (record { path = path; signal = d }))) k u
same-linked side drawn path d wires k u h l =
    hold-sends side drawn (number_of k) (sent_of k) (sent_of k) (all_codes k) [] (took_of k) wires u (Some (record { path = path; signal = d })) l (omega arith) h

offer-linked : (side : Side) (drawn path : ℕ) (wires : List (List Down)) (k : Option ProgramTrace) (u : UnitState) → number_of k ≤ drawn → IsLinked side drawn wires k u →
    IsOrdered side (drawn + 1) (drawn + 1) 0 [] [] (with_any_sent wires (Some (record { path = path; signal = down.Select (drawn + 1) }))) u
offer-linked side drawn path wires k u le l =
    hold-offers side drawn (number_of k) (sent_of k) (drawn + 1) (all_codes k) (took_of k) wires u path le (omega arith) l

offered-linked : (sub : Subchannel) (path : ℕ) (program : Program) (resumes : Bool) (k : Option ProgramTrace) (u : UnitState) → IsFound sub.state.waiting sub.state.suspended resumes program →
    Needs k sub.state → IsLinked sub.setup.side sub.state.drawn sub.wires.down k u →
    IsLinked sub.setup.side (sub.state.drawn + 1) (with_any_sent sub.wires.down (Some (record { path = path; signal = down.Select (sub.state.drawn + 1) })))
    (chosen_at (Some sub) (reply.Offered (sub.state.drawn + 1) path resumes) k) u
offered-linked sub path program false k u w n l =
    let t : ℕ = sub.state.drawn + 1 in
    let P : Option ProgramTrace → Type 0 = λ x. IsLinked sub.setup.side t (with_any_sent sub.wires.down (Some (record { path = path; signal = down.Select t }))) x u in
    let made : P (Some (trace_offered t program.orb)) = offer-linked sub.setup.side sub.state.drawn path sub.wires.down k u (number-drawn k sub.state n) l in
    subst (λ (x : Option Program). P (offered_for x t k)) (sym w) made
offered-linked sub path program true None u w n l = absurd (cc (sym n.suspended ∙ w.1))
offered-linked sub path program true (Some k) u w n l =
    let t : ℕ = sub.state.drawn + 1 in
    let wires : List (List Down) = with_any_sent sub.wires.down (Some (record { path = path; signal = down.Select t })) in
    let cs : Sequence Command = commands k.orb k.now.acts in
    let none : later_codes (count cs) (backward (each code cs)) ≡ [] =
    ap (λ (i : ℕ). later_codes i (backward (each code cs))) (sym (length-backward (each code cs) ∙ count-each code cs)) ∙ later-none (backward (each code cs)) in
    subst (λ (xs : List ℕ). IsOrdered sub.setup.side t t 0 xs [] wires u) (sym none) (offer-linked sub.setup.side sub.state.drawn path sub.wires.down (Some k) u n.number l)

-- whatever is chosen
pub choose-linked : (sub : Subchannel) (c : Chosen) (k : Option ProgramTrace) (u : UnitState) → Suits c sub.state → Needs k sub.state →
    IsLinked sub.setup.side sub.state.drawn sub.wires.down k u →
    IfOk (choose_sub sub c) (λ t. IsLinked sub.setup.side t.sub.state.drawn t.sub.wires.down (chosen_at (Some sub) t.reply k) u)
choose-linked sub (Resets r path) k u w n l =
    send-ok (λ t. IsLinked sub.setup.side t.sub.state.drawn t.sub.wires.down (chosen_at (Some sub) t.reply k) u) sub (reset_sent sub.state path) path
    (down.Reset r sub.state.hold.known_restarts) (reply.ResetSent r path)
    (carried-linked sub.setup.side sub.state.drawn sub.wires.down sub.state.pmcw.available
    (Some (record { path = path; signal = down.Reset r sub.state.hold.known_restarts })) k u
    (same-linked sub.setup.side sub.state.drawn path (down.Reset r sub.state.hold.known_restarts) sub.wires.down k u (reset-needs k sub.state r w.fits n) l))
choose-linked sub (Halts t path) k u w n l =
    send-ok (λ t. IsLinked sub.setup.side t.sub.state.drawn t.sub.wires.down (chosen_at (Some sub) t.reply k) u) sub (halt_sent sub.state) path
    (down.Halt t) (reply.HaltSent t path)
    (carried-linked sub.setup.side sub.state.drawn sub.wires.down sub.state.pmcw.available (Some (record { path = path; signal = down.Halt t }))
    k u
    (same-linked sub.setup.side sub.state.drawn path (down.Halt t) sub.wires.down k u tt l))
choose-linked sub FindsNoPath k u w n l =
    subst (λ (i : ℕ). IsLinked sub.setup.side i sub.wires.down k u) (sym (cause-kept sub.state cause.NoPath).drawn) l
choose-linked sub (Offers c path) k u w n l =
    let t : ℕ = sub.state.drawn + 1 in
    send-ok (λ t. IsLinked sub.setup.side t.sub.state.drawn t.sub.wires.down (chosen_at (Some sub) t.reply k) u) sub
    (offered sub.state c.program path) path (down.Select t) (reply.Offered t path c.resumes)
    (carried-linked sub.setup.side t sub.wires.down sub.state.pmcw.available (Some (record { path = path; signal = down.Select t }))
    (chosen_at (Some sub) (reply.Offered t path c.resumes) k) u
    (offered-linked sub path c.program c.resumes k u w.found n l))
choose-linked sub other k u w n l = l

-- Up
met-linked : (returns : Bool) → (storage : Contents) (sub : Subchannel) (path : ℕ) (x : Up) (k : Option ProgramTrace) (u : UnitState) (drawn : ℕ) →
    drawn ≡ (takes_up returns storage sub.state path x).step.state.drawn → Needs k sub.state →
    Needs (met_with storage sub.state path (Some x) k) (takes_up returns storage sub.state path x).step.state → IsLinked sub.setup.side drawn sub.wires.down k u →
    IsLinked sub.setup.side drawn (with_any_sent sub.wires.down (takes_up returns storage sub.state path x).step.outcome.sent) (met_with storage sub.state path (Some x) k) u
met-linked returns storage sub path x None u drawn same n m l =
    hold-sends sub.setup.side drawn 0 0 0 [] [] [] sub.wires.down u (takes_up returns storage sub.state path x).step.outcome.sent l (omega arith)
    (if-some (λ d. IsOf (takes_up returns storage sub.state path x).step.state d.signal) (λ d. IsDown drawn 0 0 [] d.signal) (takes_up returns storage sub.state path x).step.outcome.sent
    (λ d h. subst (λ (i : ℕ). IsDown i 0 0 [] d.signal) (sym same) (down-untold (takes_up returns storage sub.state path x).step.state d.signal m h)) (up-sends returns storage sub.state path x))
met-linked returns storage sub path x (Some k) u drawn same n m l =
    let new : ProgramTrace = trace_meets storage sub.state path x k in
    let s : SubchannelState = (takes_up returns storage sub.state path x).step.state in
    let one : Option (OnPath Down) = (takes_up returns storage sub.state path x).step.outcome.sent in
    let g : IsGrown k new = meets-grown storage sub.state path x k n.unbegun in
    let sends : IfSome one (λ d. IsDown drawn new.number new.sent (codes_of new) d.signal) =
    if-some (λ d. IsOf s d.signal) (λ d. IsDown drawn new.number new.sent (codes_of new) d.signal) one
    (λ d h. subst (λ (i : ℕ). IsDown i new.number new.sent (codes_of new) d.signal) (sym same) (down-of new s d.signal m h)) (up-sends returns storage sub.state path x) in
    let P : ℕ → List ℕ → Type 0 = λ i c. IfSome one (λ d. IsDown drawn i new.sent c d.signal) in
    let Q : ℕ → List ℕ → List ℕ → Type 0 = λ i c t. IsOrdered sub.setup.side drawn i new.sent c t (with_any_sent sub.wires.down one) u in
    let sends' : P k.number (codes_of new) = subst (λ (i : ℕ). P i (codes_of new)) g.number sends in
    let made : Q k.number (codes_of new) (backward k.taken) = elim g.codes [
      | inl a ↦
          subst (λ (c : List ℕ). Q k.number c (backward k.taken)) (sym a.1)
          (hold-sends sub.setup.side drawn k.number k.sent new.sent (codes_of k) a.0 (backward k.taken) sub.wires.down u one l g.sent (subst (λ (c : List ℕ). P k.number c) a.1 sends'))
      | inr z ↦
          hold-begins sub.setup.side drawn k.number new.sent (codes_of k) (codes_of new) (backward k.taken) sub.wires.down u one
          (subst (λ (i : ℕ). IsOrdered sub.setup.side drawn k.number i (codes_of k) (backward k.taken) sub.wires.down u) z l) sends'
    ] in
    subst (λ (t : Sequence ℕ). Q new.number (codes_of new) (backward t)) (sym g.taken) (subst (λ (i : ℕ). Q i (codes_of new) (backward k.taken)) (sym g.number) made)

abbrev pub IsMet : Subchannel → Option ProgramTrace → UnitState → UpResult → Type 0
IsMet sub k u t = Needs k t.sub.state → IsLinked sub.setup.side t.sub.state.drawn t.sub.wires.down k u

signal-linked : (returns : Bool) → (storage : Contents) (sub : Subchannel) (path : ℕ) (x : Up) (k : Option ProgramTrace) (u : UnitState) → Needs k sub.state →
    Needs (met_with storage sub.state path (Some x) k) (takes_up returns storage sub.state path x).step.state → IsLinked sub.setup.side sub.state.drawn sub.wires.down k u →
    IsLinked sub.setup.side (takes_up returns storage sub.state path x).step.state.drawn (with_any_sent sub.wires.down (takes_up returns storage sub.state path x).step.outcome.sent)
    (met_with storage sub.state path (Some x) k) u
signal-linked returns storage sub path x k u n m l =
    met-linked returns storage sub path x k u (takes_up returns storage sub.state path x).step.state.drawn refl n m
    (hold-draws sub.setup.side sub.state.drawn (takes_up returns storage sub.state path x).step.state.drawn (number_of k) (sent_of k) (all_codes k) (took_of k) sub.wires.down u (up-drawn storage returns sub.state path x) l)

up_front-linked : (returns : Bool) → (storage : Contents) (sub : Subchannel) (path : ℕ) (front : Option Up) (k : Option ProgramTrace) (u : UnitState) → Needs k sub.state →
    IsLinked sub.setup.side sub.state.drawn sub.wires.down k u → IfOk (up_front returns storage sub path front) (IsMet sub (met_with storage sub.state path front k) u)
up_front-linked returns storage sub path None k u n l = tt
up_front-linked returns storage sub path (Some x) k u n l =
    let step : UpStep = (takes_up returns storage sub.state path x).step in
    if-ok (IsMet sub (met_with storage sub.state path (Some x) k) u) (finds_full sub.wires.down (carried_by sub step.outcome.sent)) (Err fault.WireFull) _ tt
    (λ m. carried-linked sub.setup.side step.state.drawn sub.wires.down sub.state.pmcw.available step.outcome.sent
    (met_with storage sub.state path (Some x) k) u (signal-linked returns storage sub path x k u n m l))

pub up-linked : (returns : Bool) → (storage : Contents) (sub : Subchannel) (path : ℕ) (k : Option ProgramTrace) (u : UnitState) → Needs k sub.state →
    IsLinked sub.setup.side sub.state.drawn sub.wires.down k u → IfOk (up_sub returns storage sub path) (IsMet sub (met_at storage (Some sub) path k) u)
up-linked returns storage sub path k u n l =
    if-ok (IsMet sub (met_at storage (Some sub) path k) u) (nat_lt path (length sub.setup.paths)) (up_front returns storage sub path (slice_get (queue sub.wires.up path) 0)) (Err fault.NoSuchPath)
    (up_front-linked returns storage sub path (slice_get (queue sub.wires.up path) 0) k u n l) tt

-- Down
took-trace : (side : Side) (drawn : ℕ) (wires : List (List Down)) (v : UnitState) (d : Down) (outcome : Bool) (sent : Option (OnPath Up)) (k : Option ProgramTrace) →
    IsOrdered side drawn (number_of k) (sent_of k) (all_codes k) (took_after (number_of k) (silent_by outcome sent) d (took_of k)) wires v → IsLinked side drawn wires (taken_at (reply.Down d outcome sent) k) v
took-trace side drawn wires v d true (Some x) k o = o
took-trace side drawn wires v d false (Some x) k o = o
took-trace side drawn wires v d false None k o = o
took-trace side drawn wires v (down.Select t) true None None o = o
took-trace side drawn wires v (down.Command t n code room) true None None o = none (t == 0) o
  where
    none : (b : Bool) → IsOrdered side drawn 0 0 [] (if b then code ∷ [] else []) wires v → IsOrdered side drawn 0 0 [] [] wires v
    none true o = absurd (let z : length (code ∷ []) ≤ 0 = o.most in omega (arith, z))
    none false o = o
took-trace side drawn wires v (down.Grant t c) true None None o = o
took-trace side drawn wires v (down.Refuse t c) true None None o = o
took-trace side drawn wires v (down.Took t n s room) true None None o = o
took-trace side drawn wires v (down.Give bytes t c n s) true None None o = o
took-trace side drawn wires v (down.Halt t) true None None o = o
took-trace side drawn wires v (down.Release t) true None None o = o
took-trace side drawn wires v (down.Reset r b) true None None o = o
took-trace side drawn wires v (down.Got a) true None None o = o
took-trace side drawn wires v (down.Select t) true None (Some k) o = o
took-trace side drawn wires v (down.Command t n code room) true None (Some k) o = some (t == k.number) o
  where
    some : (b : Bool) → IsOrdered side drawn k.number k.sent (codes_of k) (if b then code ∷ backward k.taken else backward k.taken) wires v →
        IsLinked side drawn wires (Some (if b then record k { taken = k.taken ▸ code; absorbed = [] } else k)) v
    some true o = o
    some false o = o
took-trace side drawn wires v (down.Grant t c) true None (Some k) o = o
took-trace side drawn wires v (down.Refuse t c) true None (Some k) o = o
took-trace side drawn wires v (down.Took t n s room) true None (Some k) o = o
took-trace side drawn wires v (down.Give bytes t c n s) true None (Some k) o = o
took-trace side drawn wires v (down.Halt t) true None (Some k) o = o
took-trace side drawn wires v (down.Release t) true None (Some k) o = o
took-trace side drawn wires v (down.Reset r b) true None (Some k) o = o
took-trace side drawn wires v (down.Got a) true None (Some k) o = o

-- each first Reset that waits for the unit, where it is taken, is above the floor
abbrev pub AreAbove : Subchannel → UnitState → Type 0
AreAbove sub u = (p r b : ℕ) → first_of sub.wires.down p ≡ Some (down.Reset r b) → resets u sub.setup.side r b ≡ true → (side_of u sub.setup.side).floor < r

above-of : (u : UnitState) (side : Side) (d : Down) → ((r b : ℕ) → d ≡ down.Reset r b → resets u side r b ≡ true → (side_of u side).floor < r) → IsAbove u side d
above-of u side (down.Reset r b) f = f r b refl
above-of u side d f = tt

down_front-linked : (may : Bool) → (sub : Subchannel) (path : ℕ) (u : UnitState) (front : Option Down) (k : Option ProgramTrace) → slice_get (queue sub.wires.down path) 0 ≡ front → AreAbove sub u → Needs k sub.state →
    IsLinked sub.setup.side sub.state.drawn sub.wires.down k u → IfOk (down_front may sub path u front) (λ t. IsLinked sub.setup.side t.sub.state.drawn t.sub.wires.down (taken_at t.reply k) t.«unit»)
down_front-linked may sub path u None k e a n l = tt
down_front-linked may sub path u (Some d) k e a n l =
    let step : Option UnitStep = unit_takes u sub.setup.side path d may in
    if-ok (λ t. IsLinked sub.setup.side t.sub.state.drawn t.sub.wires.down (taken_at t.reply k) t.«unit») (finds_full sub.wires.up (carried_by sub (unit_table.outcome_of step).sent)) (Err fault.WireFull) _ tt
    (took-trace sub.setup.side sub.state.drawn (taken sub.wires.down path) (unit_after u step) d (unit_table.outcome_of step).taken (unit_table.outcome_of step).sent k
    (with-wires sub.setup.side sub.state.drawn (number_of k) (sent_of k) (all_codes k) _ sub.wires.down (taken sub.wires.down path) (unit_after u step)
    (on-taken (IsDown sub.state.drawn (number_of k) (sent_of k) (all_codes k)) sub.wires.down path l.downs)
    (unit-takes may sub.setup.side sub.state.drawn (number_of k) (sent_of k) (all_codes k) (took_of k) sub.wires.down u path d (number-drawn k sub.state n)
    (on-first (IsDown sub.state.drawn (number_of k) (sent_of k) (all_codes k)) sub.wires.down path d l.downs e) (above-of u sub.setup.side d (λ r b f. a path r b (e ∙ ap Some f))) l)))

pub down-linked : (may : Bool) → (sub : Subchannel) (path : ℕ) (u : UnitState) (k : Option ProgramTrace) → AreAbove sub u → Needs k sub.state → IsLinked sub.setup.side sub.state.drawn sub.wires.down k u →
    IfOk (down_sub may sub path u) (λ t. IsLinked sub.setup.side t.sub.state.drawn t.sub.wires.down (taken_at t.reply k) t.«unit»)
down-linked may sub path u k a n l =
    if-ok (λ t. IsLinked sub.setup.side t.sub.state.drawn t.sub.wires.down (taken_at t.reply k) t.«unit») (nat_lt path (length sub.setup.paths))
    (down_front may sub path u (slice_get (queue sub.wires.down path) 0)) (Err fault.NoSuchPath)
    (down_front-linked may sub path u (slice_get (queue sub.wires.down path) 0) k refl a n l) tt

-- what leaves the side still
still-linked : (side : Side) (drawn : ℕ) (wires : List (List Down)) (k : Option ProgramTrace) (u : UnitState) (step : Option UnitStep) → IsStillStep side u step → IsLinked side drawn wires k u →
    IsLinked side drawn wires k (unit_after u step)
still-linked side drawn wires k u step s l = ordered-still side drawn (number_of k) (sent_of k) (all_codes k) (took_of k) wires u (unit_after u step) s l

-- what the unit does of itself
pub gentle-linked : (side : Side) (drawn : ℕ) (wires : List (List Down)) (k : Option ProgramTrace) (u v : UnitState) → IsGentle side u v → IsLinked side drawn wires k u → IsLinked side drawn wires k v
gentle-linked side drawn wires k u v g l = ordered-gentle side drawn (number_of k) (sent_of k) (all_codes k) (took_of k) wires u v g l

-- Report
absorbs-same : (side : Side) (drawn : ℕ) (wires : List (List Down)) (v : UnitState) (k : ProgramTrace) (count : ℕ) (x : Option CurrentCommand) → IsLinked side drawn wires (Some k) v →
    IsLinked side drawn wires (Some (absorbs count x k)) v
absorbs-same side drawn wires v k count None l = l
absorbs-same side drawn wires v k count (Some x) l = by x.unabsorbed
  where
    by : (g : Option (List ℕ)) → IsLinked side drawn wires (Some (absorbs count (Some (record x { unabsorbed = g })) k)) v
    by None = l
    by (Some bytes) = l

reported-if : (side : Side) (drawn : ℕ) (wires : List (List Down)) (v : UnitState) (k new : ProgramTrace) (b : Bool) → IsLinked side drawn wires (Some k) v → IsLinked side drawn wires (Some new) v →
    IsLinked side drawn wires (Some (if b then new else k)) v
reported-if side drawn wires v k new true l m = m
reported-if side drawn wires v k new false l m = l

reported-same : (side : Side) (drawn : ℕ) (wires : List (List Down)) (v u : UnitState) (report : Report) (a : DeviceAnswer) (k : ProgramTrace) → IsLinked side drawn wires (Some k) v →
    IsLinked side drawn wires (Some (reported u report a k)) v
reported-same side drawn wires v u report (answer.Absorbed count) k l =
    reported-if side drawn wires v k (absorbs count u.current k) (report.number == k.number) l (absorbs-same side drawn wires v k count u.current l)
reported-same side drawn wires v u report other k l = l

reported-linked : (side : Side) (drawn : ℕ) (wires : List (List Down)) (v u : UnitState) (report : Report) (k : Option ProgramTrace) → IsLinked side drawn wires k v →
    IsLinked side drawn wires (reported_at (Some u) report k) v
reported-linked side drawn wires v u report None l = l
reported-linked side drawn wires v u report (Some k) l = reported-same side drawn wires v u report report.answer k l

pub report-linked : (sub : Subchannel) (u : UnitState) (report : Report) (k : Option ProgramTrace) (step : Option UnitStep) → unit_reports u report ≡ step →
    IsLinked sub.setup.side sub.state.drawn sub.wires.down k u →
    IfOk (report_taken sub step) (λ t. IsLinked sub.setup.side t.sub.state.drawn t.sub.wires.down (reported_at (Some u) report k) t.«unit»)
report-linked sub u report k None e l = tt
report-linked sub u report k (Some step) e l =
    if-ok (λ t. IsLinked sub.setup.side t.sub.state.drawn t.sub.wires.down (reported_at (Some u) report k) t.«unit») (finds_full sub.wires.up (carried_by sub step.sent)) (Err fault.WireFull) _ tt
    (reported-linked sub.setup.side sub.state.drawn sub.wires.down step.state u report k
    (still-linked sub.setup.side sub.state.drawn sub.wires.down k u (Some step) (subst (IsStillStep sub.setup.side u) e (report-still sub.setup.side u report)) l))

-- the other side of the unit
other-down_front : (may : Bool) → (sub other : Subchannel) (path : ℕ) (u : UnitState) (front : Option Down) (k : Option ProgramTrace) → same_side other.setup.side sub.setup.side ≡ false →
    IsLinked sub.setup.side sub.state.drawn sub.wires.down k u → IfOk (down_front may other path u front) (λ t. IsLinked sub.setup.side sub.state.drawn sub.wires.down k t.«unit»)
other-down_front may sub other path u None k e l = tt
other-down_front may sub other path u (Some d) k e l =
    let step : Option UnitStep = unit_takes u other.setup.side path d may in
    if-ok (λ t. IsLinked sub.setup.side sub.state.drawn sub.wires.down k t.«unit») (finds_full other.wires.up (carried_by other (unit_table.outcome_of step).sent)) (Err fault.WireFull) _ tt
    (still-linked sub.setup.side sub.state.drawn sub.wires.down k u step (other-still sub.setup.side u other.setup.side path d may e) l)

pub other-down : (may : Bool) → (sub other : Subchannel) (path : ℕ) (u : UnitState) (k : Option ProgramTrace) → same_side other.setup.side sub.setup.side ≡ false →
    IsLinked sub.setup.side sub.state.drawn sub.wires.down k u → IfOk (down_sub may other path u) (λ t. IsLinked sub.setup.side sub.state.drawn sub.wires.down k t.«unit»)
other-down may sub other path u k e l =
    if-ok (λ t. IsLinked sub.setup.side sub.state.drawn sub.wires.down k t.«unit») (nat_lt path (length other.setup.paths))
    (down_front may other path u (slice_get (queue other.wires.down path) 0)) (Err fault.NoSuchPath)
    (other-down_front may sub other path u (slice_get (queue other.wires.down path) 0) k e l) tt

pub other-report : (sub other : Subchannel) (u : UnitState) (report : Report) (k : Option ProgramTrace) (step : Option UnitStep) → unit_reports u report ≡ step →
    IsLinked sub.setup.side sub.state.drawn sub.wires.down k u → IfOk (report_taken other step) (λ t. IsLinked sub.setup.side sub.state.drawn sub.wires.down k t.«unit»)
other-report sub other u report k None e l = tt
other-report sub other u report k (Some step) e l =
    if-ok (λ t. IsLinked sub.setup.side sub.state.drawn sub.wires.down k t.«unit») (finds_full other.wires.up (carried_by other step.sent)) (Err fault.WireFull) _ tt
    (still-linked sub.setup.side sub.state.drawn sub.wires.down k u (Some step) (subst (IsStillStep sub.setup.side u) e (report-still sub.setup.side u report)) l)
