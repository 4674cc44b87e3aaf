-- What actions name, and what is there of it.
use Rattle.std.proofs.Common.{◌≡◌, ◌<◌, ◌==◌, ◌∙◌, ℕ, List, [], ◌∷◌, length, ap, sym, subst}
use Rattle.std.proofs.lemmas.List.Quantifiers.{position-Some}
use Rattle.std.proofs.lemmas.Option.{same_Some}
use Rattle.std.specs.Prelude.{Some}
use Rattle.machine_model.specs.State.{State, sub_of}
use Rattle.refusal_reasons.specs.Naming.{IsBusy}
use Rattle.refusal_reasons.specs.Standing.{HasWires, NoneWaits}
use Rattle.step_records.specs.declared.record.Wire.{Wire}
use Rattle.subchannel_model.specs.declared.state.Subchannel.{Subchannel}
use Rattle.wires.specs.Queues.{Queues}
use Rattle.channel_config.specs.declared.parts.SubchannelSetup.{SubchannelSetup}
use Rattle.step_records.specs.Named.{index_of, word_of}

-- a subchannel that is found is there
pub is_there : (setups : List SubchannelSetup) (word index : ℕ) → index_of setups word ≡ Some index → index < length setups
is_there [] word index found = absurd (cc found)
is_there (first ∷ rest) word index found = (position-Some (λ (s : SubchannelSetup). word_of s.id == word) (first ∷ rest) index first found).0

-- a subchannel has one list of wires
pub same_wires : (state : State) (setups : List SubchannelSetup) (index : ℕ) (one other : Queues) → HasWires state setups index one → HasWires state setups index other → one ≡ other
same_wires state setups index one other a b =
    let setup : a.setup ≡ b.setup = same_Some _ _ (sym a.named ∙ b.named) in
    let sub : a.sub ≡ b.sub = same_Some _ _ (sym a.there ∙ (ap (λ (s : SubchannelSetup). sub_of state (word_of s.id)) setup ∙ b.there)) in
    a.are ∙ (ap (λ (s : Subchannel). s.wires) sub ∙ sym b.are)

-- where a signal waits on the wire of a subchannel, it waits there whichever wires are said to be its wires
pub busy_wire : (state : State) (setups : List SubchannelSetup) (wire : Wire) (wires : Queues) →
    HasWires state setups wire.subchannel wires → (NoneWaits wires wire.way wire.path → ⊥) → IsBusy state setups wire
busy_wire state setups wire wires has waits others same none = waits (subst (λ (w : Queues). NoneWaits w wire.way wire.path) (same_wires state setups wire.subchannel others wires same has) none)
