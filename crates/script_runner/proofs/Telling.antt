-- A bad text is told by its first bad line.
use Rattle.std.proofs.Common.{◌≡◌, ℕ, Bool, List, Option, None, Some, subst}
use Rattle.std.specs.Prelude.{IfSome}
use Rattle.script.specs.Pieces.{lines_of}
use Rattle.script.specs.Scripts.{IsBad}
use Rattle.script_rows.specs.declared.words.LineRule.{LineRule}
use Rattle.script_runner.specs.Serving.{HasNoScript, IsBadLineOutput}
use Rattle.script_runner.specs.declared.Ending.{Ending}
use Rattle.script_runner.specs.declared.Ending.TheVariants.{NotRead, Bad, NoMemory, Done, Stopped, AuditFailed}
use Rattle.streams.specs.Sinks.{Seen}

pub told_bad : (races : Bool) (input : Option (List ℕ)) (text : List ℕ) (line : ℕ) (rule : LineRule) (held now : Seen) (e : Ending)
    → IfSome input (λ bytes. text ≡ bytes) → IsBad races (lines_of text) line rule → IsBadLineOutput line rule held now e → HasNoScript races input held now e
told_bad races input text line rule held now NotRead same is told = absurd told
told_bad races None text line rule held now (Bad whole) same is told = tt
told_bad races (Some bytes) text line rule held now (Bad whole) same is told =
    (line, rule, subst (λ (xs : List ℕ). IsBad races (lines_of xs) line rule) same is, told)
told_bad races input text line rule held now (NoMemory whole) same is told = absurd told
told_bad races input text line rule held now (Done refused) same is told = absurd told
told_bad races input text line rule held now (Stopped refused) same is told = absurd told
told_bad races input text line rule held now (AuditFailed whole) same is told = absurd told
