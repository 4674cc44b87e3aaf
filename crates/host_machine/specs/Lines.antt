-- A line of a script, for a host: the event that it asks for, and what is printed of its answer (own).
use Rattle.std.specs.Prelude.{◌≡◌, ◌⊎◌, ℕ, ℤ, List, codes, length, take, Result, Ok, Err}
use Rattle.chan_events.specs.Events.{Event}
use Rattle.chan_events.specs.Replies.{Reply}
use Rattle.channel_subsystem.specs.declared.host_fault.HostFault.{HostFault}
use Rattle.channel_subsystem.specs.declared.host_fault.HostFault.TheVariants as host_fault
use Rattle.event_lines.specs.ReadLines.{event_of_words, words_of}
use Rattle.script_rows.specs.declared.words.LineRule.{LineRule}
use Rattle.script_rows.specs.declared.words.LineRule.TheVariants as rule
use Rattle.script_text.specs.Text.{refusal_text, reply_text}
use Rattle.host_machine.specs.Answers.{answer_number, below, no_memory}
use Rattle.host_machine.specs.Given.{written}
use Rattle.host_machine.specs.Hosts.{Answers, Stays, WhereItRuns}
use Rattle.host_machine.specs.declared.host_machine.HostMachine.{HostMachine}
use Rattle.host_machine.specs.Machines.{Running}

-- 768 and the number of the rule that a line breaks
abbrev pub line_size : LineRule → ℕ
line_size rule.UnknownWord = 0x301
line_size rule.WrongCount = 0x302
line_size rule.BadWord = 0x303
line_size rule.SettingAfterAction = 0x304
line_size rule.BreaksConfiguration = 0x305
line_size rule.StorageNotFirst = 0x306
line_size rule.MisplacedRace = 0x307

-- what is printed of an answer
abbrev pub answer_text : Result Reply HostFault → List ℕ
answer_text (Ok r) = reply_text r
answer_text (Err (host_fault.Refused f)) = refusal_text f
answer_text (Err host_fault.OtherSize) = codes "other size"
answer_text (Err host_fault.NumbersUsedUp) = codes "no number"
answer_text (Err host_fault.NoMemory) = codes "no memory"

-- the text, of which 1,024 bytes are told at most, stands first in the host's room, as far as it fits, and this many bytes of it
abbrev pub told_of : List ℕ → List ℕ
told_of text = take 1024 text

abbrev pub Tells : List ℕ → (room left : List ℕ) → ℕ → Type 0
Tells text room left count = (left ≡ written (told_of text) room) × (count ≡ length (take (length room) (told_of text)))

-- an event is entered, and its answer is told by its number and its text
abbrev pub PerformsEvent : Result Event LineRule → Running → (bytes keys : List ℕ) → (room : List ℕ) → ℤ → ℕ → Running → (after left : List ℕ) → (told : List ℕ) → Type 0
PerformsEvent (Ok e) old bytes keys room number count new after left told =
    (answer : Result Reply HostFault) × (number ≡ answer_number answer) × (Answers old bytes keys e answer new after left × Tells (answer_text answer) room told count)
PerformsEvent (Err broken) old bytes keys room number count new after left told =
    Stays old new number (below (line_size broken)) × (((after ≡ bytes) × (left ≡ keys)) × ((told ≡ room) × (count ≡ 0)))

-- a line is performed; or there was no memory for its words, and nothing is done
abbrev pub PerformsLine : List ℕ → Running → (bytes keys : List ℕ) → (room : List ℕ) → ℤ → ℕ → Running → (after left : List ℕ) → (told : List ℕ) → Type 0
PerformsLine line old bytes keys room number count new after left told =
    PerformsEvent (event_of_words (words_of line)) old bytes keys room number count new after left told
    ⊎ (Stays old new number (below no_memory) × (((after ≡ bytes) × (left ≡ keys)) × ((told ≡ room) × (count ≡ 0))))

abbrev pub Performs : List ℕ → HostMachine → (bytes keys : List ℕ) → (room : List ℕ) → ℤ → ℕ → HostMachine → (after left : List ℕ) → (told : List ℕ) → Type 0
Performs line old bytes keys room number count new after left told =
    WhereItRuns (λ before answered now. PerformsLine line before bytes keys room answered count now after left told)
    (((after ≡ bytes) × (left ≡ keys)) × ((told ≡ room) × (count ≡ 0))) old number new
