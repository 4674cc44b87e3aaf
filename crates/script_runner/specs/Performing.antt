-- What performing the actions of a script does and writes.
use Rattle.std.specs.Prelude.{◌≡◌, ◌⊎◌, ℕ, Bool, true, false, ◌||◌, List, [], ◌∷◌, ◌++◌, take, map, slice_get, Some, is_err}
use Rattle.std.specs.List.{list_any}
use Rattle.streams.specs.Sinks.{Seen, TakesText, Puts}
use Rattle.script_text.specs.Text.{event_line}
use Rattle.script.specs.declared.Line.{Line}
use Rattle.script_runner.specs.declared.performing.Written.{Written}
use Rattle.script_runner.specs.declared.performing.PerformedLines.{PerformedLines}
use Rattle.script_runner.specs.Acting.{Installed, ActionOutcome, IsUsedUp, PerformsAction, Runs, is_starved}

-- what the lines print: one line each, under its number
abbrev pub output_of : List Line → List ActionOutcome → List ℕ
output_of [] rs = []
output_of (line ∷ lines) [] = []
output_of (line ∷ lines) (r ∷ rs) = event_line line.number r ++ output_of lines rs

-- one line: its action, and what it prints. A supply had refused a growth before it (was), or by its end (short): it refuses none but
-- where the action is refused for want of memory, and then it did, or no number is left
pub record IsDone (was short : Bool) (old : Installed) (line : Line) (held now : Seen) (written : Written) (new : Installed) : Type 0 where
  pub outcome : ActionOutcome
  pub acts : PerformsAction old line.action outcome new
  pub refused : written.refused ≡ is_err outcome
  pub prints : Puts held (event_line line.number outcome) now written.whole
  pub unrefused : is_starved outcome ≡ false → short ≡ was
  pub memory : is_starved outcome ≡ true → (short ≡ true) ⊎ IsUsedUp old.past

-- the actions of these lines came to these outcomes, and all that they print is written. Where one was refused for want of memory, the
-- supply refused a growth by their end (short), or no number is left
pub record HasPerformed (short : Bool) (old : Installed) (lines : List Line) (held now : Seen) (some_refused : Bool) (new : Installed) : Type 0 where
  pub outcomes : List ActionOutcome
  pub runs : Runs old (map (λ l. l.action) lines) outcomes new
  pub refused : some_refused ≡ list_any is_err outcomes
  pub written : TakesText held (output_of lines outcomes) now
  pub memory : list_any is_starved outcomes ≡ true → (short ≡ true) ⊎ IsUsedUp new.past

-- the lines before one were performed and all that they print is written; that one was performed, and the sink failed
-- within its print
pub record HasStopped (short : Bool) (old : Installed) (lines : List Line) (held now : Seen) (some_refused : Bool) (new : Installed) : Type 0 where
  pub done : ℕ
  pub last : Line
  pub there : slice_get lines done ≡ Some last
  pub middle : Installed
  pub between : Seen
  pub earlier : Bool
  pub was : Bool
  pub written : Written
  pub performed : HasPerformed short old (take done lines) held between earlier middle
  pub stopped : IsDone was short middle last between now written new
  pub printed : written.whole ≡ false
  pub refused : some_refused ≡ (earlier || written.refused)

abbrev pub PerformsTo : Bool → Bool → Installed → List Line → Seen → Seen → Bool → Installed → Type 0
PerformsTo short true old lines held now refused new = HasPerformed short old lines held now refused new
PerformsTo short false old lines held now refused new = HasStopped short old lines held now refused new

abbrev pub PerformsLines : Bool → Installed → List Line → Seen → Seen → PerformedLines → Installed → Type 0
PerformsLines short old lines held now r new = PerformsTo short r.whole old lines held now r.refused new
