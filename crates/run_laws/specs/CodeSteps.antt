-- Condition codes are the table's (SA22-7832, chapter 14).
use Rattle.std.specs.Prelude.{◌≡◌, Option, None, Some, option_map}
use Rattle.zbits.specs.Bits.{field_of}
use Rattle.channel_reports.specs.Queue as reports
use Rattle.interruptions.specs.Requests as requests
use Rattle.scsw_irb.specs.declared.serials.Serials.{Serials}
use Rattle.chan_model.specs.declared.answer.Answer.{Answer}
use Rattle.chan_model.specs.ConditionCodes.{answer_of_code, rchp_code}
use Rattle.chan_events.specs.Events.{Event}
use Rattle.chan_events.specs.declared.event.Event.TheVariants as event
use Rattle.chan_events.specs.declared.event.OtherInstruction.TheVariants as other
use Rattle.chan_events.specs.Replies.{Reply}
use Rattle.chan_events.specs.declared.reply.Reply.TheVariants as reply
use Rattle.subchannel_model.specs.declared.state.Subchannel.{Subchannel}
use Rattle.subchannel_model.specs.declared.state.SubchannelState.{SubchannelState}
use Rattle.subchannel_model.specs.Conditions.{condition_of}
use Rattle.chan_events.specs.Instructions.{subchannel_word}
use Rattle.machine_model.specs.OtherSteps.{is_up}
use Rattle.machine_model.specs.State.{State, sub_of}
use Rattle.step_laws.specs.Codes.{code_by}

abbrev pub serials_of : Option Subchannel → Serials
serials_of None = record { made = 0; cleared = 0 }
serials_of (Some sub) = sub.state.serials

abbrev pub state_of : Option Subchannel → Option SubchannelState
state_of found = option_map (λ sub. sub.state) found

-- the answer in a reply
abbrev pub answer_in : Reply → Option Answer
answer_in (reply.Code answer) = Some answer
answer_in (reply.Status answer scsw) = Some answer
answer_in r = None

-- an instruction on a subchannel answers the code of its column for what it finds before the step, with the serials after it
-- the others: TEST PENDING INTERRUPTION and STORE CHANNEL REPORT WORD answer 1 and 0 where their lists have what they ask for, with
-- it, and RESET CHANNEL PATH by the state of its path and the resets that are asked for
abbrev pub IsByTable : State → Event → Reply → State → Type 0
IsByTable s (event.Execute cpu i) r new =
    let found = condition_of (state_of (sub_of s (subchannel_word i))) in
    answer_in r ≡ Some (answer_of_code (code_by i found) (serials_of (sub_of new (subchannel_word i))))
IsByTable s (event.ExecuteOther cpu (other.Tpi mask address)) r new = r ≡ reply.Interruption (requests.answer s.requests mask)
IsByTable s (event.ExecuteOther cpu (other.Rchp path)) r new =
    r ≡ reply.PathReset (rchp_code (is_up s.up (field_of path 24 31)) (reports.is_asked s.reports (field_of path 24 31)))
IsByTable s (event.ExecuteOther cpu (other.Stcrw address)) r new = r ≡ reply.ChannelReport (reports.oldest s.reports)
IsByTable s e r new = Unit {0}
