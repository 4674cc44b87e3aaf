-- After each run of a lawful set-up the commands that a device took are those of the program, in order.
use Rattle.std.proofs.Common.{◌≡◌, refl, sym, ◌∙◌, ap, subst, ℕ, ◌<◌, zero, suc, Option, None, Some, List, [], ◌∷◌, length, map, arith, ◌++◌}
use Rattle.std.specs.Prelude.{slice_get, option_map, replicate, reverse, drop, All}
use Rattle.std.proofs.lemmas.List.{reverse-append, reverse-reverse}
use Rattle.std.proofs.lemmas.List.Elements.{All-nil}
use Rattle.std.proofs.lemmas.Option.{slice_get-map, slice_get_within, get_or_from_slice_get}
use Rattle.chan_model.specs.declared.names.Side.{Side}
use Rattle.chan_model.specs.declared.names.Side.TheVariants.{First, Second}
use Rattle.chan_events.specs.declared.reply.Entry.{Entry}
use Rattle.chan_model.specs.Signals.{Down}
use Rattle.chan_model.specs.declared.unit_state.UnitState.{UnitState}
use Rattle.chan_model.specs.UnitTable.{idle_unit}
use Rattle.channel_config.specs.declared.parts.SubchannelSetup.{SubchannelSetup}
use Rattle.channel_config.specs.declared.parts.UnitKind.{UnitKind}
use Rattle.channel_config.specs.Lawful.{IsPlaced, IsLawful}
use Rattle.channel_config.specs.Setup.{Setup, set_count}
use Rattle.wires.specs.Queues.{queue, no_queues}
use Rattle.subchannel_model.specs.declared.state.Subchannel.{Subchannel}
use Rattle.machine_model.specs.State.{State, opening_of, idle_of}
use Rattle.subchannel_model.specs.Opening.{opened}
use Rattle.machine_model.specs.Steps.{Run, Opened, Stepped}
use Rattle.run_laws.specs.Traces.{ProgramTrace}
use Rattle.run_laws.proofs.Traces.MachineTraces.{trace, trace_after}
use Rattle.ccw_walk.specs.Programs.{commands, code}
use Rattle.run_laws.specs.ProgramClaims.{TakesInOrder}
use Rattle.step_laws.specs.Walks.{AreWalks}
use Rattle.run_laws.specs.Agreeing.{AreAbove}
use Rattle.run_laws.proofs.Traces.Turns.{step-happens}
use Rattle.run_laws.proofs.Commands.UnitOrders.{IsDown, AreOn, IsOrdered}
use Rattle.run_laws.proofs.Links.LinkNeeds.{Needs}
use Rattle.run_laws.proofs.Commands.LinkOrders.{IsLinked, AtUnit}
use Rattle.run_laws.proofs.Commands.IndexOrders.{happens-linked}
use Rattle.run_laws.proofs.Units.RunSides.{run-one-sided}
use Rattle.step_laws.proofs.Indices.{map-get}
use Rattle.ccw_walk.specs.Sequences.{Sequence, each}
use Rattle.run_laws.proofs.Traces.Sequences.{backward, in_order-backward}

-- what is to be known of each subchannel after each run
-- what agreement says of the Resets that wait
abbrev pub AllAbove : Setup → Type 0
AllAbove setup = (h : List Entry) (s : State) → Run (opening_of setup) h s → AreAbove s

abbrev pub AllNeeds : Setup → Type 0
AllNeeds setup = (h : List Entry) (s : State) (run : Run (opening_of setup) h s) (index : ℕ) (sub : Subchannel) → slice_get s.subs index ≡ Some sub →
    Needs (trace index (opening_of setup) h s run) sub.state

-- at the opening
pub no-signal : {A : Type 0} (n p : ℕ) → queue {A = A} (replicate n []) p ≡ []
no-signal zero p = refl
no-signal (suc n) zero = refl
no-signal (suc n) (suc p) = no-signal n p

pub on-none : {A : Type 0} (P : A → Type 0) (n : ℕ) → AreOn P (replicate n [])
on-none {A} P n p = subst (λ (xs : List A). All P xs) (sym (no-signal n p)) (All-nil P)

opens-ordered : (side : Side) → IsOrdered side 0 0 0 [] [] no_queues.down idle_unit
opens-ordered First = record {
  later = [];
  order = refl;
  most = omega arith;
  downs = on-none (IsDown 0 0 0 []) 8;
  kept = record { fresh = λ f t e. cc e; floor = omega arith; new = λ l. refl; owned = λ t e. absurd (cc e); named = λ t e. absurd (cc e); last = λ e. absurd (cc e) };
}
opens-ordered Second = record {
  later = [];
  order = refl;
  most = omega arith;
  downs = on-none (IsDown 0 0 0 []) 8;
  kept = record { fresh = λ f t e. cc e; floor = omega arith; new = λ l. refl; owned = λ t e. absurd (cc e); named = λ t e. absurd (cc e); last = λ e. absurd (cc e) };
}

has-element : {A : Type 0} (xs : List A) (i : ℕ) → i < length xs → (x : A) × (slice_get xs i ≡ Some x)
has-element [] i l = absurd (omega (arith, l))
has-element (x ∷ xs) zero l = (x, refl)
has-element (x ∷ xs) (suc i) l = has-element xs i (omega (arith, l))

pub unit-there : (setup : Setup) → IsLawful setup → (i : ℕ) (sub : SubchannelSetup) → slice_get setup.subchannels i ≡ Some sub →
    (kind : UnitKind) × (slice_get setup.units sub.«unit» ≡ Some kind)
unit-there setup lawful i sub e =
    let p : IsPlaced (set_count setup) (length setup.units) setup.paths sub =
    subst (IsPlaced (set_count setup) (length setup.units) setup.paths) (get_or_from_slice_get setup.subchannels i sub sub e)
    (lawful.subchannels i sub (slice_get_within setup.subchannels i sub e)) in
    has-element setup.units sub.«unit» p.«unit»

pub idle-there : (kinds : List UnitKind) (i : ℕ) (kind : UnitKind) → slice_get kinds i ≡ Some kind → slice_get (map idle_of kinds) i ≡ Some idle_unit
idle-there kinds i kind e = slice_get-map idle_of kinds i ∙ ap (λ (o : Option UnitKind). option_map idle_of o) e

opens-linked : (setup : Setup) → IsLawful setup → (index : ℕ) (sub : Subchannel) → slice_get (map opened setup.subchannels) index ≡ Some sub →
    AtUnit (IsLinked sub.setup.side sub.state.drawn sub.wires.down None) (slice_get (map idle_of setup.units) sub.setup.«unit»)
opens-linked setup lawful index sub e =
    let a : (s : SubchannelSetup) × (slice_get setup.subchannels index ≡ Some s) × (opened s ≡ sub) = map-get opened setup.subchannels index sub e in
    let kind : (kind : UnitKind) × (slice_get setup.units a.0.«unit» ≡ Some kind) = unit-there setup lawful index a.0 a.1 in
    subst (λ (x : Subchannel). AtUnit (IsLinked x.setup.side x.state.drawn x.wires.down None) (slice_get (map idle_of setup.units) x.setup.«unit»)) a.2
    (subst (AtUnit (IsLinked a.0.side 0 no_queues.down None)) (sym (idle-there setup.units a.0.«unit» kind.0 kind.1)) (opens-ordered a.0.side))

-- after a run
pub run-linked : AreWalks → (setup : Setup) → IsLawful setup → AllAbove setup → AllNeeds setup → (h : List Entry) (s : State) (run : Run (opening_of setup) h s) (index : ℕ) (sub : Subchannel) →
    slice_get s.subs index ≡ Some sub → AtUnit (IsLinked sub.setup.side sub.state.drawn sub.wires.down (trace index (opening_of setup) h s run)) (slice_get s.units sub.setup.«unit»)
run-linked walks setup lawful above needs _ _ Opened index sub e = opens-linked setup lawful index sub e
run-linked walks setup lawful above needs _ _ (Stepped h old e r new run step) index sub at =
    let a = step-happens old (run-one-sided walks setup lawful h old run) index e r new (walks old e r new step) sub at in
    subst (λ (x : SubchannelSetup). AtUnit (IsLinked sub.setup.side sub.state.drawn sub.wires.down (trace_after index old e r (trace index (opening_of setup) h old run))) (slice_get new.units x.«unit»)) (sym a.2)
    (happens-linked old.storage a.0 sub (slice_get old.units a.0.setup.«unit») (slice_get new.units a.0.setup.«unit») (trace_after index old e r) a.3 a.2
    (λ x g p r b front takes. above h old run index a.0 x p r b a.1 g front takes) (trace index (opening_of setup) h old run) (needs h old run index a.0 a.1) (needs _ new (Stepped h old e r new run step) index sub at)
    (run-linked walks setup lawful above needs h old run index a.0 a.1))

linked-takes : (side : Side) (drawn : ℕ) (wires : List (List Down)) (k : ProgramTrace) (u : Option UnitState) → AtUnit (IsLinked side drawn wires (Some k)) u → TakesInOrder k
linked-takes side drawn wires k None l = absurd l
linked-takes side drawn wires k (Some u) l =
    let codes : Sequence ℕ = each code (commands k.orb k.now.acts) in
    (reverse l.later, ap (λ (xs : List ℕ). xs ++ reverse l.later) (in_order-backward k.taken) ∙ sym (reverse-append l.later (backward k.taken)) ∙ ap reverse (sym l.order) ∙ reverse-reverse (drop k.earlier (reverse (backward codes))) ∙ ap (drop k.earlier) (sym (in_order-backward codes)))

pub run-takes : AreWalks → (setup : Setup) → IsLawful setup → AllAbove setup → AllNeeds setup → (h : List Entry) (s : State) (run : Run (opening_of setup) h s) (index : ℕ) (sub : Subchannel) (k : ProgramTrace) →
    slice_get s.subs index ≡ Some sub → trace index (opening_of setup) h s run ≡ Some k → TakesInOrder k
run-takes walks setup lawful above needs h s run index sub k at e =
    linked-takes sub.setup.side sub.state.drawn sub.wires.down k (slice_get s.units sub.setup.«unit»)
    (subst (λ (x : Option ProgramTrace). AtUnit (IsLinked sub.setup.side sub.state.drawn sub.wires.down x) (slice_get s.units sub.setup.«unit»)) e (run-linked walks setup lawful above needs h s run index sub at))
