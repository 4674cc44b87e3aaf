-- What the facts of a step tell, by kind: what its line came to, the signals that moved, and the holds that changed.
use Rattle.std.specs.Prelude.{◌≡◌, ℕ, Bool, true, false, ◌||◌, not, List, [], ◌∷◌, ◌++◌, drop, map, take, Result, Option, None, Some}
use Rattle.std.specs.List.{All, filter, filter_map}
use Rattle.chan_model.specs.declared.fault.Fault.{Fault}
use Rattle.script_text.specs.declared.ActionResult.{ActionResult}
use Rattle.step_records.specs.declared.record.Fact.{Fact}
use Rattle.step_records.specs.declared.record.Fact.TheVariants as fact
use Rattle.step_records.specs.declared.record.Record.{Record}

abbrev pub is_move : Fact → Bool
is_move (fact.Signal wire moved signal) = true
is_move other = false

abbrev pub is_hold : Fact → Bool
is_hold (fact.Hold subchannel before after) = true
is_hold other = false

abbrev pub is_answer : Fact → Bool
is_answer (fact.Answer outcome) = true
is_answer other = false

-- none of these
abbrev pub is_other : Fact → Bool
is_other f = not (is_answer f || (is_move f || is_hold f))

-- the facts of a kind, in order
abbrev pub facts_where : (Fact → Bool) → List Record → List Fact
facts_where is records = filter is (map (λ r. r.fact) records)

-- a line, and what it came to
pub record AnsweredLine : Type 0 where
  pub line : ℕ
  pub outcome : Result ActionResult Fault

abbrev pub answered_by : ℕ → Fact → Option AnsweredLine
answered_by line (fact.Answer outcome) = Some (record { line = line; outcome = outcome })
answered_by line other = None

-- the lines that were answered, in order, and what each came to
abbrev pub answers_of : List Record → List AnsweredLine
answers_of records = filter_map (λ r. answered_by r.line r.fact) records

pub record Told : Type 0 where
  pub line : ℕ
  pub before : List Record
  pub answers : List AnsweredLine
  pub moves : List Fact
  pub holds : List Fact

-- what facts tell that stand behind other records
abbrev pub told_behind : ℕ → List Record → List Record → Told
told_behind line before facts = record {
  line = line;
  before = before;
  answers = answers_of facts;
  moves = facts_where is_move facts;
  holds = facts_where is_hold facts;
}

-- the same where all stand in one list, the facts from this index on
abbrev pub told_of : ℕ → ℕ → List Record → Told
told_of line first records = told_behind line (take first records) (drop first records)

abbrev pub nothing_told : ℕ → List Record → Told
nothing_told line before = record { line = line; before = before; answers = []; moves = []; holds = [] }

-- each stands under the number of this line
abbrev pub IsOfLine : ℕ → Record → Type 0
IsOfLine line r = r.line ≡ line

abbrev pub AreOfLine : ℕ → List Record → Type 0
AreOfLine line records = All (IsOfLine line) records

-- these are the records that stood there before, and behind them facts of the line that tell this
pub record AreToldBy (told : Told) (records : List Record) : Type 0 where
  pub facts : List Record
  pub added : records ≡ told.before ++ facts
  pub of_line : AreOfLine told.line facts
  pub tell : told ≡ told_behind told.line told.before facts

-- one fact more
abbrev pub only : (Fact → Bool) → Fact → List Fact
only is f = filter is (f ∷ [])

abbrev pub line_record : ℕ → Fact → Record
line_record line f = record { line = line; fact = f }

abbrev pub told_with : Told → Fact → Told
told_with told f = record told {
  answers = told.answers ++ answers_of (line_record told.line f ∷ []);
  moves = told.moves ++ only is_move f;
  holds = told.holds ++ only is_hold f;
}

abbrev pub with_moves : Told → List Fact → Told
with_moves told facts = record told { moves = told.moves ++ facts }

abbrev pub with_holds : Told → List Fact → Told
with_holds told facts = record told { holds = told.holds ++ facts }

-- only signals that moved were told, or only holds that changed
abbrev pub OnlyMoved : Told → Told → Type 0
OnlyMoved old new = (new.line ≡ old.line) × (new.before ≡ old.before) × (new.answers ≡ old.answers) × (new.holds ≡ old.holds)

abbrev pub OnlyHeld : Told → Told → Type 0
OnlyHeld old new = (new.line ≡ old.line) × (new.before ≡ old.before) × (new.answers ≡ old.answers) × (new.moves ≡ old.moves)
