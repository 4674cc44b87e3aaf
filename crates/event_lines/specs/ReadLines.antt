-- The event that a line of a script asks for (own).
use Rattle.std.specs.Prelude.{ℕ, List, [], ◌∷◌, codes, Option, Some, None, Result, Ok, Err, if◌then◌else◌}
use Rattle.std.specs.Str.{bytes_eq}
use Rattle.chan_events.specs.Events.{Event}
use Rattle.script.specs.Pieces.{lines_of, words_between_blanks}
use Rattle.script_rows.specs.Actions.{action_row}
use Rattle.script_rows.specs.declared.Action.{Action}
use Rattle.script_rows.specs.declared.Action.TheVariants as action
use Rattle.script_rows.specs.declared.words.LineRule.{LineRule}
use Rattle.script_rows.specs.declared.words.LineRule.TheVariants as rule
use Rattle.event_lines.specs.ReportLines.{report_row}

-- the words of the first line of a text
abbrev pub first_of : List (List ℕ) → List ℕ
first_of [] = []
first_of (line ∷ lines) = line

abbrev pub words_of : List ℕ → List (List ℕ)
words_of text = words_between_blanks (first_of (lines_of text))

-- the event that words ask for: a line that hands in what a device answered, or one of a script; a line of a device or of a glance
-- asks for none
abbrev pub event_of_action : Action → Result Event LineRule
event_of_action (action.Event e) = Ok e
event_of_action other = Err rule.UnknownWord

abbrev pub event_of_row : Option (Result Action LineRule) → Result Event LineRule
event_of_row None = Err rule.UnknownWord
event_of_row (Some (Err broken)) = Err broken
event_of_row (Some (Ok asked)) = event_of_action asked

abbrev pub event_of_words : List (List ℕ) → Result Event LineRule
event_of_words [] = Err rule.UnknownWord
event_of_words (word ∷ words) = if bytes_eq word (codes "report") then report_row words else event_of_row (action_row word words)
