-- Subsystem and device agree on the program that holds the device: what a subchannel takes of a program that it has connected, and what it
-- sends to it, is of the program that holds the device, and it offers one only where none of it does; but where the unit was restarted,
-- and did not send it Cleared since (own).
use Rattle.std.specs.Prelude.{◌≡◌, ◌⊎◌, ℕ, ◌==◌, true, false, Option, IfSome, List}
use Rattle.chan_events.specs.Events.{Event}
use Rattle.chan_events.specs.declared.event.Event.TheVariants as event
use Rattle.chan_events.specs.declared.reply.Entry.{Entry}
use Rattle.chan_events.specs.Replies.{Reply}
use Rattle.chan_events.specs.declared.reply.Reply.TheVariants as reply
use Rattle.agreement_laws.specs.Holders.{IsRestarted, ComesOfHolder}
use Rattle.chan_model.specs.declared.names.Side.{Side}
use Rattle.chan_model.specs.Signals.{Down}
use Rattle.chan_model.specs.declared.signal.Down.TheVariants as down
use Rattle.channel_config.specs.declared.parts.SubchannelSetup.{SubchannelSetup}
use Rattle.channel_config.specs.Setup.{Setup, set_count}
use Rattle.channel_config.specs.SubchannelWords.{subchannel_named}
use Rattle.run_laws.specs.Entries.{Throughout}
use Rattle.run_laws.specs.Devices.{Holding, side_seen, is_held_by, is_holder, setup_named, holding_after, nothing_held}

-- the program of this side and number holds the device
abbrev pub IsHolder : Holding → Side → ℕ → Type 0
IsHolder k side t = is_holder k.holder side t ≡ true

-- so it is, or none of this side does, but where the unit was restarted
abbrev pub IsHolderOr : Holding → Side → ℕ → Type 0
IsHolderOr k side t = IsHolder k side t ⊎ IsRestarted (side_seen k side)

abbrev pub IsUnheldOr : Holding → Side → Type 0
IsUnheldOr k side = (is_held_by k.holder side ≡ false) ⊎ IsRestarted (side_seen k side)

-- what is sent in answer
abbrev pub GoesToHolder : Holding → Side → Down → Type 0
GoesToHolder k side (down.Command t n code room) = IsHolderOr k side t
GoesToHolder k side (down.Grant t c) = IsHolderOr k side t
GoesToHolder k side (down.Took t n s room) = IsHolderOr k side t
GoesToHolder k side (down.Give bytes t c n s) = IsHolderOr k side t
GoesToHolder k side signal = Unit {0}

-- what is taken and what answers it; and what is chosen: an offer, a Halt
abbrev pub AgreesIn : Side → Reply → Holding → Type 0
AgreesIn side (reply.Up signal true sent) k = ComesOfHolder (IsHolderOr k side) signal × IfSome sent (λ x. GoesToHolder k side x.signal)
AgreesIn side (reply.Offered t p resumes) k = IsUnheldOr k side
AgreesIn side (reply.HaltSent t p) k = IsHolderOr k side t
AgreesIn side r k = Unit {0}

abbrev pub AgreesSet : ℕ → Option SubchannelSetup → Reply → Holding → Type 0
AgreesSet at setup r k = IfSome setup (λ x. (x.«unit» == at) ≡ true → AgreesIn x.side r k)

abbrev pub IsEntryAgreed : ℕ → List SubchannelSetup → ℕ → Event → Reply → Holding → Type 0
IsEntryAgreed sets subs at (event.Up word path) r k = AgreesSet at (setup_named subs (subchannel_named sets word)) r k
IsEntryAgreed sets subs at (event.Choose word) r k = AgreesSet at (setup_named subs (subchannel_named sets word)) r k
IsEntryAgreed sets subs at e r k = Unit {0}

-- on each unit
abbrev pub DoBothAgree : Setup → List Entry → Type 0
DoBothAgree setup h = (at : ℕ) →
    Throughout (holding_after (set_count setup) setup.subchannels at) (IsEntryAgreed (set_count setup) setup.subchannels at) nothing_held h
