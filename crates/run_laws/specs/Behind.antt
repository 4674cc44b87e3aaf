-- Whether a start waits behind the program at work, by the entries: of the START and CANCEL SUBCHANNEL instructions that were answered with
-- condition code 0 since the Accept that began this program the last is a START (SA22-7832, chapter 14).
use Rattle.std.specs.Prelude.{Bool, true, false, if◌then◌else◌}
use Rattle.chan_events.specs.Events.{Event}
use Rattle.chan_events.specs.declared.event.Event.TheVariants as event
use Rattle.chan_events.specs.declared.event.Instruction.TheVariants as instruction
use Rattle.chan_events.specs.Replies.{Reply}
use Rattle.chan_events.specs.declared.reply.Reply.TheVariants as reply
use Rattle.chan_model.specs.declared.signal.Up.TheVariants as up
use Rattle.run_laws.specs.Shown.{is_accepted}

abbrev pub behind_met : Reply → Bool → Bool
behind_met (reply.Up (up.Accept t) true sent) behind = false
behind_met r behind = behind

-- by an entry whose word names the subchannel, or another
abbrev pub behind_after : Bool → Event → Reply → Bool → Bool
behind_after true (event.Execute cpu (instruction.Ssch word address)) r behind = if is_accepted r then true else behind
behind_after true (event.Execute cpu (instruction.Xsch word)) r behind = if is_accepted r then false else behind
behind_after true (event.Up word path) r behind = behind_met r behind
behind_after mine e r behind = behind
