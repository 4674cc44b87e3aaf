-- After each run of a lawful set-up no two subchannels reach the same side of a unit, and each reaches a unit that there is.
use Rattle.std.proofs.Common.{◌≡◌, sym, ◌∙◌, ap, Some, List}
use Rattle.std.specs.Prelude.{slice_get}
use Rattle.chan_events.specs.declared.reply.Entry.{Entry}
use Rattle.chan_model.specs.Sides.{same_side}
use Rattle.channel_config.specs.declared.parts.SubchannelSetup.{SubchannelSetup}
use Rattle.channel_config.specs.Lawful.{IsLawful}
use Rattle.channel_config.specs.Setup.{Setup}
use Rattle.subchannel_model.specs.declared.state.Subchannel.{Subchannel}
use Rattle.machine_model.specs.State.{State, opening_of}
use Rattle.subchannel_model.specs.Opening.{opened}
use Rattle.machine_model.specs.Steps.{Run, Opened, Stepped}
use Rattle.step_laws.specs.Walks.{AreWalks}
use Rattle.run_laws.proofs.Traces.Turns.{IsOneSided, step-happens}
use Rattle.step_laws.proofs.Indices.{map-get, one-index}

-- at the opening, and after each step
opens-one-sided : (setup : Setup) → IsLawful setup → IsOneSided (opening_of setup)
opens-one-sided setup lawful i j x y e f u side =
    let a : (s : SubchannelSetup) × (slice_get setup.subchannels i ≡ Some s) × (opened s ≡ x) = map-get opened setup.subchannels i x e in
    let b : (s : SubchannelSetup) × (slice_get setup.subchannels j ≡ Some s) × (opened s ≡ y) = map-get opened setup.subchannels j y f in
    one-index setup.subchannels i j a.0 b.0 lawful.shared a.1 b.1
    (ap (λ (z : Subchannel). z.setup.«unit») a.2 ∙ (u ∙ ap (λ (z : Subchannel). z.setup.«unit») (sym b.2)))
    (ap (λ (z : Subchannel). same_side z.setup.side b.0.side) a.2 ∙ (ap (λ (z : Subchannel). same_side x.setup.side z.setup.side) b.2 ∙ side))

pub run-one-sided : AreWalks → (setup : Setup) → IsLawful setup → (h : List Entry) (s : State) → Run (opening_of setup) h s → IsOneSided s
run-one-sided walks setup lawful _ _ Opened = opens-one-sided setup lawful
run-one-sided walks setup lawful _ _ (Stepped h old e r new run step) =
    let one : IsOneSided old = run-one-sided walks setup lawful h old run in
    λ i j x y at there u side.
    let a = step-happens old one i e r new (walks old e r new step) x at in
    let b = step-happens old one j e r new (walks old e r new step) y there in
    one i j a.0 b.0 a.1 b.1
    (ap (λ (z : SubchannelSetup). z.«unit») (sym a.2) ∙ (u ∙ ap (λ (z : SubchannelSetup). z.«unit») b.2))
    (ap (λ (z : SubchannelSetup). same_side z.side b.0.setup.side) (sym a.2) ∙ (ap (λ (z : SubchannelSetup). same_side x.setup.side z.side) (sym b.2) ∙ side))
