-- What the records of a script tell of its lines.
use Rattle.std.specs.Prelude.{◌≡◌, ◌-◌, ◌<◌, ⊤, ℕ, true, false, List, [], ◌∷◌, ◌++◌, length, map, slice_get, Ok, Err, Option, None, Some}
use Rattle.std.specs.List.{flat_map}
use Rattle.chan_events.specs.Instructions.{subchannel_word}
use Rattle.chan_events.specs.Events.{Event}
use Rattle.chan_events.specs.Replies.{Reply}
use Rattle.chan_events.specs.declared.event.Event.TheVariants as event
use Rattle.chan_events.specs.declared.reply.Entry.{Entry}
use Rattle.chan_model.specs.declared.fault.Fault.{Fault}
use Rattle.channel_config.specs.Setup.{Setup}
use Rattle.channel_config.specs.declared.parts.SubchannelSetup.{SubchannelSetup}
use Rattle.machine_model.specs.State.{State}
use Rattle.machine_sight.specs.Balance.{IsBalanced}
use Rattle.event_log.specs.Logs.{last_reply}
use Rattle.machine_sight.specs.Finding.{found_of}
use Rattle.machine_sight.specs.Shown.{Shows, TellsWaiting}
use Rattle.machine_sight.specs.Waiting.{WaitingQueues}
use Rattle.machine_sight.specs.declared.sight.Sight.{Sight}
use Rattle.refusal_reasons.specs.Naming.{IsNamed}
use Rattle.refusal_reasons.specs.Standing.{IsSo}
use Rattle.script.specs.Pieces.{lines_of}
use Rattle.script.specs.Scripts.{IsScript, ScriptContents}
use Rattle.script.specs.declared.Line.{Line}
use Rattle.script_rows.specs.declared.Action.{Action}
use Rattle.script_rows.specs.declared.Action.TheVariants as action
use Rattle.script_runner.specs.Acting.{ActionOutcome, Installed, IsAudited, IsOpening, PerformsAction, Runs}
use Rattle.script_runner.specs.Performing.{output_of}
use Rattle.script_text.specs.Text.{event_line}
use Rattle.script_text.specs.declared.ActionResult.TheVariants as came
use Rattle.step_facts.specs.Holds.{all_hold_changes}
use Rattle.step_facts.specs.Moves.{is_told_by_reply, met_of, sent_of}
use Rattle.step_records.specs.Named.{index_of, named_by}
use Rattle.step_records.specs.Refusing.{fault_of}
use Rattle.step_facts.specs.Told.{AnsweredLine, AreOfLine, answers_of, facts_where, is_hold, is_move, line_record}
use Rattle.step_records.specs.declared.parties.Parties.{Parties}
use Rattle.step_records.specs.declared.record.Fact.{Fact}
use Rattle.step_records.specs.declared.record.Fact.TheVariants as fact
use Rattle.step_records.specs.declared.record.Record.{Record}
use Rattle.step_records.specs.declared.refusal.Refusal.{Refusal}

-- a machine, who there is, what a look showed of it last, and what waits on its wires as it is told
pub record Traced : Type 0 where
  pub machine : Installed
  pub parties : Parties
  pub sight : Sight
  pub waiting : List WaitingQueues

-- the machine is as the last look shows it, and what waits at it is told
pub record IsSeen (traced : Traced) : Type 0 where
  pub shown : Shows traced.machine.past.state traced.parties traced.sight
  pub told : TellsWaiting traced.machine.past.state traced.parties.subchannels.items traced.waiting

-- what is told to wait does not wait there, or there are subchannels of whose wires nothing is told
abbrev pub DoesNotTell : State → List SubchannelSetup → List WaitingQueues → Type 0
DoesNotTell state subchannels waiting = TellsWaiting state subchannels waiting → length waiting < length subchannels

-- a line, and what it came to
abbrev pub answered_line : ℕ → ActionOutcome → AnsweredLine
answered_line number outcome = record { line = number; outcome = outcome }

-- the lines, and what each came to
abbrev pub answered : List Line → List ActionOutcome → List AnsweredLine
answered [] rs = []
answered (l ∷ ls) [] = []
answered (l ∷ ls) (r ∷ rs) = answered_line l.number r ∷ answered ls rs

-- the last entry of a history
abbrev pub IsLast : List Entry → Entry → Type 0
IsLast entries entry = slice_get entries (length entries - 1) ≡ Some entry

-- this event was accepted last
abbrev pub IsLastEvent : List Entry → Event → Type 0
IsLastEvent entries e = (entry : Entry) → IsLast entries entry → entry.event ≡ e

-- the event of an action was accepted last; a turn of a device has none of its own
abbrev pub IsLastOf : Action → List Entry → Type 0
IsLastOf (action.Event e) entries = IsLastEvent entries e
IsLastOf other entries = ⊤

-- the signals are told that the reply of this entry says were met and sent
abbrev pub IsMovedBy : Parties → Sight → Entry → List Record → Type 0
IsMovedBy parties before entry facts = (sub : ℕ) → named_by parties entry.event ≡ Some sub → is_told_by_reply entry.event ≡ true →
    facts_where is_move facts ≡ met_of sub entry.event entry.reply ++ sent_of before sub entry.reply

-- the holds are told that differ
abbrev pub AreHeldBy : Sight → Sight → List Record → Type 0
AreHeldBy before after facts = facts_where is_hold facts ≡ all_hold_changes before.subchannels.items after.subchannels.items

-- the subchannel that the instruction of an action names
abbrev pub instructed : Parties → Action → Option ℕ
instructed parties (action.Event (event.Execute cpu i)) = index_of parties.subchannels.items (subchannel_word i)
instructed parties other = None

-- what an instruction finds of the subchannel that it names
abbrev pub found_where : Sight → Option ℕ → Option Fact
found_where sight None = None
found_where sight (Some sub) = found_of sight sub

abbrev pub found_records : ℕ → Option Fact → List Record
found_records line None = []
found_records line (Some found) = line_record line found ∷ []

-- the first facts of a line: the line itself, what its instruction found, and what it came to
abbrev pub beginning : ℕ → Option Fact → List Record
beginning line found = line_record line fact.Event ∷ found_records line found

abbrev pub answer_record : ℕ → ActionOutcome → Record
answer_record line outcome = line_record line (fact.Answer outcome)

-- what an event that was accepted came to
abbrev pub replied : ℕ → Reply → Record
replied line reply = answer_record line (Ok (came.Reply reply))

abbrev pub first_facts : ℕ → Option Fact → ActionOutcome → List Record
first_facts line found outcome = beginning line found ++ answer_record line outcome ∷ []

-- behind the reply of the last event, the facts of that event were told of a machine that stays
pub record HasTold (old : Traced) (line : ℕ) (before after : List Record) (new : Traced) : Type 0 where
  pub facts : List Record
  pub added : after ≡ (before ++ answer_record line (Ok (came.Reply (last_reply old.machine.past.history))) ∷ []) ++ facts
  pub of_line : AreOfLine line facts
  pub none_answered : answers_of facts ≡ []
  pub moves : (entry : Entry) → IsLast old.machine.past.history entry → IsMovedBy old.parties old.sight entry facts
  pub holds : AreHeldBy old.sight new.sight facts
  pub balanced : IsBalanced old.waiting facts new.waiting
  pub machine_stays : new.machine ≡ old.machine
  pub parties_stay : new.parties ≡ old.parties
  pub seen : IsSeen new

-- why a line was refused: by a reason of this fault, which says of the wires of the machine what is so, and names what the action names
pub record IsReason (parties : Parties) (machine : Installed) (line : ℕ) (action : Action) (refused : Fault) (records : List Record) : Type 0 where
  pub refusal : Refusal
  pub are : records ≡ line_record line (fact.Refused refusal) ∷ []
  pub of_fault : fault_of refusal ≡ refused
  pub so : IsSo machine.past.state parties.subchannels.items refusal
  pub named : IsNamed machine.past.state machine.past.state.storage parties action refusal

-- why a line was refused is told behind what it came to
pub record HasReason (parties : Parties) (machine : Installed) (line : ℕ) (action : Action) (refused : Fault) (before after : List Record) : Type 0 where
  pub rest : List Record
  pub added : after ≡ before ++ rest
  pub reason : IsReason parties machine line action refused rest

-- the facts of a line, each under its number: first the line, what its instruction found of the subchannel that it names, and what its
-- action came to, as `chsim run` performs it; then what differs between two looks, of which one shows the machine before it and the other
-- after it. They account for all that waits on the wires, at the machine before it and after it; where an event was accepted, they tell the
-- signals that its reply says were met and sent, and the holds that changed; where the line was refused, they tell why.
pub record IsToldOf (parties : Parties) (old : Installed) (number : ℕ) (action : Action) (facts : List Record) (new : Installed) : Type 0 where
  pub outcome : ActionOutcome
  pub acts : PerformsAction old action outcome new
  pub before : Sight
  pub after : Sight
  pub shown_before : Shows old.past.state parties before
  pub shown_after : Shows new.past.state parties after
  pub rest : List Record
  pub begins : facts ≡ first_facts number (found_where before (instructed parties action)) outcome ++ rest
  pub of_line : AreOfLine number facts
  pub reason : (refused : Fault) → outcome ≡ Err refused → IsReason parties new number action refused rest
  pub answers : answers_of facts ≡ answered_line number outcome ∷ []
  pub waited : List WaitingQueues
  pub waits : List WaitingQueues
  pub told_before : TellsWaiting old.past.state parties.subchannels.items waited
  pub told_after : TellsWaiting new.past.state parties.subchannels.items waits
  pub balanced : IsBalanced waited facts waits
  pub moves : (entry : Entry) → new.past.history ≡ old.past.history ++ entry ∷ [] → IsMovedBy parties before entry facts
  pub holds : (entry : Entry) → new.past.history ≡ old.past.history ++ entry ∷ [] → AreHeldBy before after facts

-- one line was performed, and its facts are told behind those before; what was looked at last shows the machine then too
pub record HasStepped (old : Traced) (line : ℕ) (action : Action) (before after : List Record) (new : Traced) : Type 0 where
  pub facts : List Record
  pub added : after ≡ before ++ facts
  pub told : IsToldOf old.parties old.machine line action facts new.machine
  pub parties_stay : new.parties ≡ old.parties
  pub seen : IsSeen new

-- the lines were performed in order, and the records are the facts of each
abbrev pub AreTold : Parties → Installed → List Line → List Record → Installed → Type 0
AreTold parties old [] records new = (records ≡ []) × (new ≡ old)
AreTold parties old (l ∷ ls) records new =
    (middle : Installed) × (facts : List Record) × (rest : List Record) × (records ≡ facts ++ rest)
    × IsToldOf parties old l.number l.action facts middle × AreTold parties middle ls rest new

-- the actions of these lines were performed, and the records have what each came to, and the facts of each
pub record HasTraced (parties : Parties) (old : Installed) (lines : List Line) (records : List Record) (new : Installed) : Type 0 where
  pub outcomes : List ActionOutcome
  pub runs : Runs old (map (λ l. l.action) lines) outcomes new
  pub answers : answers_of records ≡ answered lines outcomes
  pub told : AreTold parties old lines records new

-- what answers print, a line each
abbrev pub printed : List AnsweredLine → List ℕ
printed answers = flat_map (λ (a : AnsweredLine). event_line a.line a.outcome) answers

-- the subchannels, the units and the channel paths of a set-up
pub record AreOf (setup : Setup) (parties : Parties) : Type 0 where
  pub subchannels : parties.subchannels.items ≡ setup.subchannels
  pub units : parties.units.items ≡ setup.units
  pub paths : parties.paths.items ≡ setup.paths

-- the text is a script, which was performed from the opening of its set-up; what the records answer prints as `chsim run` does, and they
-- are the facts of its lines
pub record IsTraced (text : List ℕ) (records : List Record) : Type 0 where
  pub script : ScriptContents
  pub is_script : IsScript false (lines_of text) script
  pub opening : Installed
  pub is_opening : IsOpening script.setup opening
  pub last : Installed
  pub outcomes : List ActionOutcome
  pub runs : Runs opening (map (λ l. l.action) script.lines) outcomes last
  pub prints : printed (answers_of records) ≡ output_of script.lines outcomes
  pub parties : Parties
  pub is_among : AreOf script.setup parties
  pub told : AreTold parties opening script.lines records last
  pub audited : IsAudited last

-- a machine of this set-up performed lines from its opening, and its books were audited
pub record HasPerformedAt (setup : Setup) (lines : List Line) (records : List Record) : Type 0 where
  pub opening : Installed
  pub is_opening : IsOpening setup opening
  pub last : Installed
  pub parties : Parties
  pub is_among : AreOf setup parties
  pub traced : HasTraced parties opening lines records last
  pub audited : IsAudited last
