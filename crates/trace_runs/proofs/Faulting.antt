-- Which faults lines have, and a script.
use Rattle.std.proofs.Common.{◌≡◌, ◌⊎◌, ℕ, Bool, true, false, refl, sym, subst, List, inl, inr}
use Rattle.std.specs.Prelude.{slice_get, Some}
use Rattle.machine_sight.specs.declared.looking.SightFault.{SightFault}
use Rattle.machine_sight.specs.declared.looking.SightFault.TheVariants as sight
use Rattle.script.specs.Pieces.{lines_of}
use Rattle.script.specs.Scripts.{IsScript, ScriptContents}
use Rattle.script.specs.declared.Line.{Line}
use Rattle.script.specs.declared.ScriptBad.{ScriptBad}
use Rattle.script.specs.declared.ScriptBad.TheVariants as bad
use Rattle.trace_runs.specs.Faults.{IsFaultAt, IsFaultIn, IsFaultOf, IsNumberedIn, IsScriptFault, IsUnbalancedIn, fault_told, told_as}
use Rattle.trace_runs.specs.declared.TraceFault.{TraceFault}
use Rattle.trace_runs.specs.declared.TraceFault.TheVariants as fault

pub fault_in : (lines : List Line) (i : ℕ) (l : Line) (refused : Bool) (f : TraceFault) → slice_get lines i ≡ Some l → IsFaultAt l.number refused f →
    IsFaultIn lines refused f
fault_in lines i l refused fault.NoMemory there h = h
fault_in lines i l refused (fault.Unbalanced at) there h = (i, l, there, sym h)
fault_in lines i l refused (fault.Bad line rule) there h = absurd h
fault_in lines i l refused fault.AuditFailed there h = absurd h

pub fault_among : (lines : List Line) (refused : Bool) (f : TraceFault) → IsFaultIn lines refused f → IsFaultOf lines refused f
fault_among lines refused fault.NoMemory h = h
fault_among lines refused (fault.Unbalanced at) h = inr h
fault_among lines refused (fault.Bad line rule) h = absurd h
fault_among lines refused fault.AuditFailed h = absurd h

pub fault_before : (lines : List Line) (refused : Bool) (f : TraceFault) → IsFaultAt 0 refused f → IsFaultOf lines refused f
fault_before lines refused fault.NoMemory h = h
fault_before lines refused (fault.Unbalanced at) h = inl h
fault_before lines refused (fault.Bad line rule) h = absurd h
fault_before lines refused fault.AuditFailed h = absurd h

pub want_is_fault : (text : List ℕ) (refused : Bool) → refused ≡ true → IsScriptFault text refused fault.NoMemory
want_is_fault text refused h = record { memory = λ e. h; line = λ at e. absurd (cc e) }

pub bad_is_fault : (text : List ℕ) (refused : Bool) (b : ScriptBad) → (b ≡ bad.NoMemory → refused ≡ true) → IsScriptFault text refused (told_as b)
bad_is_fault text refused bad.NoMemory h = want_is_fault text refused (h refl)
bad_is_fault text refused (bad.Bad line rule) h = record { memory = λ e. absurd (cc e); line = λ at e. absurd (cc e) }

pub is_script_fault : (text : List ℕ) (refused : Bool) (f : TraceFault) (s : ScriptContents) (lines : List Line) → IsScript false (lines_of text) s →
    lines ≡ s.lines → IsFaultOf lines refused f → IsScriptFault text refused f
is_script_fault text refused fault.NoMemory s lines is same h = want_is_fault text refused h
is_script_fault text refused (fault.Unbalanced at) s lines is same h = record {
  memory = λ e. absurd (cc e);
  line = λ n e.
      let alike : at ≡ n = cc e in
      subst (λ m. IsUnbalancedIn text m) alike (s, is, subst (λ (ls : List Line). (at ≡ 0) ⊎ IsNumberedIn at ls) same h);
}
is_script_fault text refused (fault.Bad line rule) s lines is same h = absurd h
is_script_fault text refused fault.AuditFailed s lines is same h = record { memory = λ e. absurd (cc e); line = λ at e. absurd (cc e) }

-- want of memory, and a look or the facts of a line that fail
pub want_at : (line : ℕ) (refused : Bool) (f : TraceFault) → f ≡ fault.NoMemory → refused ≡ true → IsFaultAt line refused f
want_at line refused f is h = subst (λ (t : TraceFault). IsFaultAt line refused t) (sym is) h

told-at : (line : ℕ) (refused : Bool) (s : SightFault) → (s ≡ sight.NoMemory → refused ≡ true) → IsFaultAt line refused (fault_told s line)
told-at line refused sight.NoMemory h = h refl
told-at line refused sight.NotThere h = refl

pub sight_at : (line : ℕ) (refused : Bool) (s : SightFault) (f : TraceFault) → f ≡ fault_told s line → (s ≡ sight.NoMemory → refused ≡ true) →
    IsFaultAt line refused f
sight_at line refused s f is h = subst (λ (t : TraceFault). IsFaultAt line refused t) (sym is) (told-at line refused s h)
