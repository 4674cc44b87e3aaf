-- What answers an Accept: the first command of its program, or Release; Release alone where since the offer its start was cancelled or
-- halted, or a later one accepted (SA22-7832, chapters 14 and 15; that an offer stays until it is answered is this project's own choice).
use Rattle.std.specs.Prelude.{◌≡◌, ◌⊎◌, ℕ, Bool, true, false, if◌then◌else◌, Option, None, Some, List}
use Rattle.chan_events.specs.Events.{Event}
use Rattle.chan_events.specs.declared.event.Event.TheVariants as event
use Rattle.chan_events.specs.declared.event.Instruction.TheVariants as instruction
use Rattle.chan_events.specs.declared.reply.Entry.{Entry}
use Rattle.chan_events.specs.Replies.{Reply}
use Rattle.chan_events.specs.declared.reply.Reply.TheVariants as reply
use Rattle.chan_model.specs.declared.answer.Answer.TheVariants as answer
use Rattle.chan_model.specs.Signals.{Down}
use Rattle.chan_model.specs.declared.signal.Down.TheVariants as down
use Rattle.chan_model.specs.declared.signal.OnPath.{OnPath}
use Rattle.chan_model.specs.declared.signal.Up.TheVariants as up
use Rattle.channel_config.specs.declared.names.SubchannelId.{SubchannelId}
use Rattle.channel_config.specs.SubchannelWords.{subchannel_named}
use Rattle.run_laws.specs.Entries.{Throughout}
use Rattle.run_laws.specs.StateClaims.{is_id}

-- condition code 0
abbrev pub is_code_zero : Reply → Bool
is_code_zero (reply.Code (answer.Zero serials)) = true
is_code_zero r = false

-- whether what was offered last is over: it is after a START, HALT or CANCEL with code 0, and is not right after the offer
abbrev pub over_by : Reply → Bool → Bool
over_by r over = if is_code_zero r then true else over

abbrev pub over_chosen : Reply → Bool → Bool
over_chosen (reply.Offered t p resumed) over = false
over_chosen r over = over

abbrev pub over_after : ℕ → SubchannelId → Event → Reply → Bool → Bool
over_after sets id (event.Execute cpu (instruction.Ssch word address)) r over = if is_id (subchannel_named sets word) id then over_by r over else over
over_after sets id (event.Execute cpu (instruction.Hsch word)) r over = if is_id (subchannel_named sets word) id then over_by r over else over
over_after sets id (event.Execute cpu (instruction.Xsch word)) r over = if is_id (subchannel_named sets word) id then over_by r over else over
over_after sets id (event.Choose word) r over = if is_id (subchannel_named sets word) id then over_chosen r over else over
over_after sets id e r over = over

-- the device is let go, by the program of this number or by any; the first command of a program is sent
abbrev pub IsLetGo : ℕ → Down → Type 0
IsLetGo t signal = signal ≡ down.Release t

abbrev pub is_release : Down → Bool
is_release (down.Release t) = true
is_release signal = false

abbrev pub IsFirstCommand : ℕ → Down → Type 0
IsFirstCommand t signal = (code room : ℕ) × (signal ≡ down.Command t 1 code room)

-- what answers an Accept of this number, where what was offered last is over or not
abbrev pub IsAnswered : Bool → ℕ → Option (OnPath Down) → Type 0
IsAnswered over t None = ⊥
IsAnswered true t (Some sent) = IsLetGo t sent.signal
IsAnswered false t (Some sent) = IsLetGo t sent.signal ⊎ IsFirstCommand t sent.signal

abbrev pub IsAcceptRight : Reply → Bool → Type 0
IsAcceptRight (reply.Up (up.Accept t) true sent) over = IsAnswered over t sent
IsAcceptRight r over = Unit {0}

abbrev pub IsEntryRight : ℕ → SubchannelId → Event → Reply → Bool → Type 0
IsEntryRight sets id (event.Up word path) r over = is_id (subchannel_named sets word) id ≡ true → IsAcceptRight r over
IsEntryRight sets id e r over = Unit {0}

-- of each subchannel
abbrev pub BeginsItsOwn : ℕ → List Entry → Type 0
BeginsItsOwn sets h = (id : SubchannelId) → Throughout (over_after sets id) (IsEntryRight sets id) false h
