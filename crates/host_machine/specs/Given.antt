-- Instructions with their operand by value, for a host that has numbers and bytes alone: the block that an instruction leaves is
-- written where the host has room for it (own).
use Rattle.std.specs.Prelude.{◌≡◌, ℕ, ℤ, List, [], ◌∷◌, ◌++◌, drop, take, length, map, Some, Result, Ok, Err}
use Rattle.zbits.specs.Layout.{word_of}
use Rattle.scsw_irb.specs.CodeTable.{code_tables}
use Rattle.chan_events.specs.Replies.{PlainReply}
use Rattle.chan_events.specs.ReportWords.{report_word}
use Rattle.chan_events.specs.declared.reply.Reply as declared_reply
use Rattle.chan_events.specs.declared.reply.Reply.TheVariants as reply
use Rattle.channel_subsystem.specs.GivenSteps.{IsGivenStep, IsOtherGivenStep, given_reply}
use Rattle.channel_subsystem.specs.declared.host_fault.HostFault.{HostFault}
use Rattle.io_step.specs.GivenOperands.{block_bytes}
use Rattle.io_step.specs.declared.by_value.Answered.{Answered}
use Rattle.io_step.specs.declared.by_value.ByValue.{ByValue}
use Rattle.io_step.specs.declared.by_value.OtherByValue.{OtherByValue}
use Rattle.path_select.specs.Choice.{TakesNext}
use Rattle.host_machine.specs.Answers.{answer_number}
use Rattle.host_machine.specs.Hosts.{WhereItRuns}
use Rattle.host_machine.specs.Machines.{Running}
use Rattle.host_machine.specs.declared.host_machine.HostMachine.{HostMachine}

-- as many of the items as fit stand first in the host's room, and behind them what stood there
abbrev pub written : {A : Type 0} → List A → List A → List A
written items room = take (length room) items ++ drop (length items) room

-- the block that is left, where there is one
abbrev pub block_left : Result Answered HostFault → List ℕ
block_left (Ok answered) = block_bytes answered.block
block_left (Err f) = []

-- a machine that runs performs it: the step that it is on each storage that has the operand
pub record IsGiven (old : Running) (cpu word : ℕ) (i : ByValue) (number : ℤ) (new : Running) (room left : List ℕ) : Type 0 where
  pub answer : Result Answered HostFault
  pub numbered : number ≡ answer_number (given_reply answer)
  pub stepped : IsGivenStep TakesNext old.subsystem cpu word i answer new.subsystem
  pub keys : new.keys ≡ old.keys
  pub prefixes : new.prefixes ≡ old.prefixes
  pub block : left ≡ written (block_left answer) room

abbrev pub Gives : HostMachine → (cpu word : ℕ) → ByValue → ℤ → HostMachine → (room left : List ℕ) → Type 0
Gives old cpu word i number new room left = WhereItRuns (λ before answered now. IsGiven before cpu word i answered now room left) (left ≡ room) old number new

-- the words that a reply tells which are to be stored: the three of an interruption code, where a request was found; a report, which
-- is zero where none waits (SA22-7832, chapters 14 and 17)
abbrev pub words_told : {B U D : Type 0} → declared_reply.Reply B U D → List ℕ
words_told (reply.Interruption (Some code)) = map word_of (code_tables code)
words_told (reply.ChannelReport report) = report_word report ∷ []
words_told other = []

-- the bytes that a reply tells which are to be stored: a bit for each channel path
abbrev pub bytes_told : {B U D : Type 0} → declared_reply.Reply B U D → List ℕ
bytes_told (reply.Paths engaged) = engaged
bytes_told other = []

abbrev pub told_by : {A B : Type 0} → (A → List B) → Result A HostFault → List B
told_by told (Ok plain) = told plain
told_by told (Err f) = []

-- the same of an instruction that names no subchannel
pub record IsOtherGiven {A : Type 0} (told : PlainReply → List A) (old : Running) (cpu : ℕ) (i : OtherByValue) (number : ℤ) (new : Running) (room left : List A) : Type 0 where
  pub answer : Result PlainReply HostFault
  pub numbered : number ≡ answer_number answer
  pub stepped : IsOtherGivenStep TakesNext old.subsystem cpu i answer new.subsystem
  pub keys : new.keys ≡ old.keys
  pub prefixes : new.prefixes ≡ old.prefixes
  pub told_items : left ≡ written (told_by told answer) room

abbrev pub GivesOther : {A : Type 0} → (PlainReply → List A) → HostMachine → (cpu : ℕ) → OtherByValue → ℤ → HostMachine → (room left : List A) → Type 0
GivesOther told old cpu i number new room left = WhereItRuns (λ before answered now. IsOtherGiven told before cpu i answered now room left) (left ≡ room) old number new
