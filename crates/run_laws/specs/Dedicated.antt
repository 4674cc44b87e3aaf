-- By which path a program is offered after unit check: by that of its End, until the device moves data or ends a command without it, or
-- the subchannel is cleared or reset (SA22-7832, chapter 15, the dedicated allegiance; how long it stands is this project's own choice).
use Rattle.std.specs.Prelude.{◌≡◌, ℕ, true, if◌then◌else◌, Option, None, Some, List}
use Rattle.chan_events.specs.Events.{Event}
use Rattle.chan_events.specs.declared.event.Event.TheVariants as event
use Rattle.chan_events.specs.declared.event.Instruction.TheVariants as instruction
use Rattle.chan_events.specs.declared.reply.Entry.{Entry}
use Rattle.chan_events.specs.Replies.{Reply}
use Rattle.chan_events.specs.declared.reply.Reply.TheVariants as reply
use Rattle.chan_model.specs.declared.signal.Up.TheVariants as up
use Rattle.chan_model.specs.UnitReports.{has_unit_check}
use Rattle.channel_config.specs.declared.names.SubchannelId.{SubchannelId}
use Rattle.channel_config.specs.SubchannelWords.{subchannel_named}
use Rattle.run_laws.specs.Entries.{Throughout}
use Rattle.run_laws.specs.StateClaims.{is_id}
use Rattle.run_laws.specs.BeginsItsOwn.{is_code_zero}

-- the path to which an allegiance is dedicated, after a signal that came by a path
abbrev pub dedicated_met : ℕ → Reply → Option ℕ → Option ℕ
dedicated_met path (reply.Up (up.End t n status more) true sent) d = if has_unit_check status then Some path else None
dedicated_met path (reply.Up (up.Data load t c n s) true sent) d = None
dedicated_met path r d = d

-- after CLEAR SUBCHANNEL
abbrev pub dedicated_cleared : Reply → Option ℕ → Option ℕ
dedicated_cleared r d = if is_code_zero r then None else d

abbrev pub dedicated_after : ℕ → SubchannelId → Event → Reply → Option ℕ → Option ℕ
dedicated_after sets id (event.Up word path) r d = if is_id (subchannel_named sets word) id then dedicated_met path r d else d
dedicated_after sets id (event.Execute cpu (instruction.Csch word)) r d = if is_id (subchannel_named sets word) id then dedicated_cleared r d else d
dedicated_after sets id event.SystemReset r d = None
dedicated_after sets id e r d = d

-- where an allegiance is dedicated, an offer is by its path
abbrev pub IsOfferOn : Option ℕ → Reply → Type 0
IsOfferOn (Some dedicated) (reply.Offered t path resumes) = path ≡ dedicated
IsOfferOn d r = Unit {0}

abbrev pub IsEntryRight : ℕ → SubchannelId → Event → Reply → Option ℕ → Type 0
IsEntryRight sets id (event.Choose word) r d = is_id (subchannel_named sets word) id ≡ true → IsOfferOn d r
IsEntryRight sets id e r d = Unit {0}

-- of each subchannel
abbrev pub OffersOnDedicated : ℕ → List Entry → Type 0
OffersOnDedicated sets h = (id : SubchannelId) → Throughout (dedicated_after sets id) (IsEntryRight sets id) None h
