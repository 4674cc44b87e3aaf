-- How faults of a script are told, and which faults a line has.
use Rattle.std.specs.Prelude.{◌≡◌, ◌⊎◌, ⊤, ℕ, Bool, true, false, List, slice_get, Some}
use Rattle.machine_sight.specs.declared.looking.SightFault.{SightFault}
use Rattle.machine_sight.specs.declared.looking.SightFault.TheVariants as sight
use Rattle.script.specs.Pieces.{lines_of}
use Rattle.script.specs.Scripts.{IsScript, ScriptContents}
use Rattle.script.specs.declared.Line.{Line}
use Rattle.script.specs.declared.ScriptBad.{ScriptBad}
use Rattle.script.specs.declared.ScriptBad.TheVariants as bad
use Rattle.trace_runs.specs.declared.TraceFault.{TraceFault}
use Rattle.trace_runs.specs.declared.TraceFault.TheVariants as fault

abbrev pub told_as : ScriptBad → TraceFault
told_as bad.NoMemory = fault.NoMemory
told_as (bad.Bad line rule) = fault.Bad line rule

abbrev pub IsToldAs : ScriptBad → TraceFault → Type 0
IsToldAs was now = now ≡ told_as was

-- a fault of a look at a machine, or of the facts of a line
abbrev pub fault_told : SightFault → ℕ → TraceFault
fault_told sight.NoMemory line = fault.NoMemory
fault_told sight.NotThere line = fault.Unbalanced line

-- there is no memory only where a growth was refused, and the facts that account for nothing are those of this line
abbrev pub IsFaultAt : ℕ → Bool → TraceFault → Type 0
IsFaultAt line refused fault.NoMemory = refused ≡ true
IsFaultAt line refused (fault.Unbalanced at) = at ≡ line
IsFaultAt line refused other = ⊥

-- the same of one of these lines
abbrev pub IsNumberedIn : ℕ → List Line → Type 0
IsNumberedIn number lines = (index : ℕ) × (line : Line) × (slice_get lines index ≡ Some line) × (line.number ≡ number)

-- so it is where lines are performed
abbrev pub IsFaultIn : List Line → Bool → TraceFault → Type 0
IsFaultIn lines refused fault.NoMemory = refused ≡ true
IsFaultIn lines refused (fault.Unbalanced at) = IsNumberedIn at lines
IsFaultIn lines refused other = ⊥

-- and where a machine is made before, line 0, and audited behind
abbrev pub IsFaultOf : List Line → Bool → TraceFault → Type 0
IsFaultOf lines refused fault.NoMemory = refused ≡ true
IsFaultOf lines refused (fault.Unbalanced at) = (at ≡ 0) ⊎ IsNumberedIn at lines
IsFaultOf lines refused fault.AuditFailed = ⊤
IsFaultOf lines refused (fault.Bad line rule) = ⊥

-- the lines of a text that is a script
abbrev pub IsUnbalancedIn : List ℕ → ℕ → Type 0
IsUnbalancedIn text at = (s : ScriptContents) × (IsScript false (lines_of text) s) × ((at ≡ 0) ⊎ IsNumberedIn at s.lines)

-- there is no memory only where a growth was refused, and what is unbalanced is the opening or a line of the script
pub record IsScriptFault (text : List ℕ) (refused : Bool) (fault_is : TraceFault) : Type 0 where
  pub memory : fault_is ≡ fault.NoMemory → refused ≡ true
  pub line : (at : ℕ) → fault_is ≡ fault.Unbalanced at → IsUnbalancedIn text at
