-- The requests for I/O interruptions that a step leaves (SA22-7832, chapter 16).
use Rattle.std.proofs.Common.{lit<}
use Rattle.std.proofs.lemmas.Nat.{mod_below}
use Rattle.std.specs.Prelude.{◌%◌, Bool, true, false, nat_lt, if◌then◌else◌, Option, None, Some, List, [], ◌∷◌, Ok, Err}
use Rattle.scsw_irb.specs.declared.code.IntCode.{IntCode}
use Rattle.chan_model.specs.declared.answer.ConditionCode.{ConditionCode}
use Rattle.chan_model.specs.declared.answer.ConditionCode.TheVariants.{Zero, One}
use Rattle.chan_events.specs.Events.{Event}
use Rattle.chan_events.specs.declared.event.Event.TheVariants as event
use Rattle.chan_events.specs.declared.event.Instruction.{Instruction}
use Rattle.chan_events.specs.declared.event.Instruction.TheVariants as instruction
use Rattle.chan_events.specs.Replies.{Reply}
use Rattle.chan_events.specs.Replies.{reply_code}
use Rattle.interruptions.specs.Requests as requests
use Rattle.subchannel_model.specs.declared.state.Subchannel.{Subchannel}
use Rattle.machine_model.specs.State.{State, sub_of}
use Rattle.machine_model.specs.Results.{StepResult, Outcome}
use Rattle.chan_events.specs.Instructions.{subchannel_word}

-- TEST with code 0 and 1, and CLEAR with code 0, drop the request of their subchannel (chapter 16)
abbrev pub drops : Instruction → Option ConditionCode → Bool
drops (instruction.Tsch word address) (Some Zero) = true
drops (instruction.Tsch word address) (Some One) = true
drops (instruction.Csch word) (Some Zero) = true
drops i code = false

abbrev pub requests_after : requests.WaitingRequests → Option Subchannel → Instruction → Reply → requests.WaitingRequests
requests_after waiting None i r = waiting
requests_after waiting (Some sub) i r =
    if drops i (reply_code r) then requests.request_dropped waiting sub.setup.id.set sub.setup.id.number else waiting

abbrev pub requests_dropped : State → Event → Reply → requests.WaitingRequests → requests.WaitingRequests
requests_dropped s (event.Execute cpu i) r waiting = requests_after waiting (sub_of s (subchannel_word i)) i r
requests_dropped s other r waiting = waiting

-- where status is made, a request of the subchannel is posted, unless one stands; with the interruption parameter and the
-- subclass that the subchannel has; the number of a set has two bits
abbrev pub request_of : Subchannel → IntCode
request_of sub = record {
  set = sub.setup.id.set % 4;
  subchannel = sub.setup.id.number;
  parameter = sub.state.pmcw.parameter;
  subclass = sub.state.pmcw.subclass;
  set_fits = mod_below sub.setup.id.set 4 (lit< tt);
  subclass_fits = sub.state.pmcw.subclass_fits;
}

abbrev pub makes_status : Subchannel → Subchannel → Bool
makes_status old new = nat_lt old.state.serials.made new.state.serials.made

abbrev pub posted_for : Subchannel → Subchannel → requests.WaitingRequests → requests.WaitingRequests
posted_for old new waiting = if makes_status old new then requests.posted waiting (request_of new) else waiting

-- in the order of the subchannels' configuration (own)
abbrev pub posted_all : List Subchannel → List Subchannel → requests.WaitingRequests → requests.WaitingRequests
posted_all [] news waiting = waiting
posted_all (old ∷ olds) [] waiting = waiting
posted_all (old ∷ olds) (new ∷ news) waiting = posted_all olds news (posted_for old new waiting)

-- what an event came to, with the requests that are left of it: one may be dropped, and others are posted
abbrev pub requests_settled : State → Event → StepResult → requests.WaitingRequests
requests_settled s e t = posted_all s.subs t.state.subs (requests_dropped s e t.reply t.state.requests)

abbrev pub settled : State → Event → Outcome → Outcome
settled s e (Ok t) = Ok (record t { state = record t.state { requests = requests_settled s e t } })
settled s e (Err f) = Err f
