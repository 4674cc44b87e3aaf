-- What a line of a script is about (own).
use Rattle.std.specs.Prelude.{ℕ, List, [], ◌∷◌, take, Option, None, Some, Result, Ok, Err}
use Rattle.chan_events.specs.declared.event.Event.{Event}
use Rattle.chan_events.specs.declared.event.Event.TheVariants as event
use Rattle.chan_events.specs.declared.event.OtherInstruction.{OtherInstruction}
use Rattle.chan_events.specs.declared.event.OtherInstruction.TheVariants.{Tpi, Rchp, Stcrw, Stcps}
use Rattle.chan_events.specs.Instructions.{subchannel_word}
use Rattle.script.specs.Pieces.{words_between_blanks}
use Rattle.script_rows.specs.Actions.{action_row}
use Rattle.script_rows.specs.declared.Action.{Action}
use Rattle.script_rows.specs.declared.Action.TheVariants as action
use Rattle.script_rows.specs.declared.words.LineRule.{LineRule}
use Rattle.trace_selection.specs.declared.subject.Subject.{Subject}
use Rattle.trace_selection.specs.declared.subject.Subject.TheVariants.{All, Subchannel, Unit, ChannelPath}

-- an instruction that names no subchannel
abbrev pub subject_of_other : OtherInstruction → Subject
subject_of_other (Rchp path) = ChannelPath path
subject_of_other (Tpi mask address) = All
subject_of_other (Stcrw address) = All
subject_of_other (Stcps address) = All

-- an event, whatever stands for its bytes
abbrev pub subject_of_event : {B R : Type 0} → Event B R → Subject
subject_of_event (event.Execute cpu instruction) = Subchannel (subchannel_word instruction)
subject_of_event (event.ExecuteOther cpu instruction) = subject_of_other instruction
subject_of_event (event.Choose subchannel) = Subchannel subchannel
subject_of_event (event.Up subchannel path) = Subchannel subchannel
subject_of_event (event.Down subchannel path) = Subchannel subchannel
subject_of_event (event.Report unit report) = Unit unit
subject_of_event (event.Act unit act) = Unit unit
subject_of_event (event.Restart unit) = Unit unit
subject_of_event (event.PathDown chpid) = ChannelPath chpid
subject_of_event (event.PathUp chpid) = ChannelPath chpid
subject_of_event (event.PathReset chpid) = ChannelPath chpid
subject_of_event (event.Put address bytes) = All
subject_of_event (event.SetKey address key) = All
subject_of_event (event.SetPrefix cpu address) = All
subject_of_event (event.Show address length) = All
subject_of_event event.SystemReset = All

abbrev pub subject_of_action : Action → Subject
subject_of_action (action.Event asked) = subject_of_event asked
subject_of_action (action.Dev unit) = Unit unit
subject_of_action (action.Glance subchannel) = Subchannel subchannel

-- what the rows of actions say of a line, which is no line of an action or a bad one
abbrev pub subject_of_row : Option (Result Action LineRule) → Subject
subject_of_row None = All
subject_of_row (Some (Err rule)) = All
subject_of_row (Some (Ok asked)) = subject_of_action asked

abbrev pub subject_of_words : List (List ℕ) → Subject
subject_of_words [] = All
subject_of_words (word ∷ words) = subject_of_row (action_row word words)

-- a line by its first eight words: no line of an action has more
unfoldable pub subject_of_line : List ℕ → Subject
subject_of_line line = subject_of_words (take 8 (words_between_blanks line))
