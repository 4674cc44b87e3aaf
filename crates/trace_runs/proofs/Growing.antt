-- One more line performed and answered.
use Rattle.std.proofs.Common.{◌≡◌, ◌∙◌, ◌+◌, ℕ, refl, sym, ap, subst, arith, List, [], ◌∷◌, ◌++◌, append-nil, append_assoc, length, map, take}
use Rattle.std.specs.Prelude.{slice_get, Some, false}
use Rattle.std.proofs.lemmas.List.Elements.{filter_map-append}
use Rattle.channel_config.specs.Setup.{Setup}
use Rattle.script.specs.Pieces.{lines_of}
use Rattle.script.specs.Scripts.{IsScript, ScriptContents}
use Rattle.script.specs.declared.Line.{Line}
use Rattle.script_rows.specs.declared.Action.{Action}
use Rattle.script_runner.proofs.Growing.{actions-more, grown, runs-length, runs-more}
use Rattle.script_runner.specs.Acting.{ActionOutcome, Installed, IsOpening, Runs}
use Rattle.script_runner.specs.Performing.{output_of}
use Rattle.script_text.specs.Text.{event_line}
use Rattle.step_facts.specs.Told.{AnsweredLine, answered_by, answers_of}
use Rattle.step_records.specs.declared.record.Record.{Record}
use Rattle.step_records.specs.declared.parties.Parties.{Parties}
use Rattle.trace_runs.specs.Tracing.{AreOf, AreTold, HasPerformedAt, HasStepped, HasTraced, IsToldOf, IsTraced, Traced, answered, answered_line, printed}

answers-append : (one two : List Record) → answers_of (one ++ two) ≡ answers_of one ++ answers_of two
answers-append one two = filter_map-append (λ (r : Record). answered_by r.line r.fact) one two

answered-more : (ls : List Line) (os : List ActionOutcome) (l : Line) (o : ActionOutcome) → length ls ≡ length os →
    answered (ls ++ l ∷ []) (os ++ o ∷ []) ≡ answered ls os ++ answered_line l.number o ∷ []
answered-more [] [] l o e = refl
answered-more [] (p ∷ os) l o e = absurd (omega arith)
answered-more (m ∷ ls) [] l o e = absurd (omega arith)
answered-more (m ∷ ls) (p ∷ os) l o e =
    let shorter : length ls ≡ length os = omega arith in
    ap (λ (t : List AnsweredLine). answered_line m.number p ∷ t) (answered-more ls os l o shorter)

-- one line more is told behind the others
told-then : (parties : Parties) (old middle new : Installed) (ls : List Line) (l : Line) (told facts all : List Record) →
    AreTold parties old ls told middle → all ≡ told ++ facts → IsToldOf parties middle l.number l.action facts new →
    AreTold parties old (ls ++ l ∷ []) all new
told-then parties old middle new [] l told facts all are is one = (
  new,
  facts,
  [],
  is ∙ ap (λ (t : List Record). t ++ facts) are.0 ∙ sym (append-nil facts),
  subst (λ (m : Installed). IsToldOf parties m l.number l.action facts new) are.1 one,
  (refl, refl),
)
told-then parties old middle new (k ∷ ls) l told facts all are is one = (
  are.0,
  are.1,
  are.2 ++ facts,
  is ∙ ap (λ (t : List Record). t ++ facts) are.3 ∙ append_assoc are.1 are.2 facts,
  are.4,
  told-then parties are.0 middle new ls l are.2 facts (are.2 ++ facts) are.5 refl one,
)

-- before the first line
pub traced_none : (parties : Parties) (old : Installed) (records : List Record) → records ≡ [] → HasTraced parties old [] records old
traced_none parties old records none = record { outcomes = []; runs = refl; answers = ap answers_of none; told = (none, refl) }

traced-more : (parties : Parties) (old : Installed) (middle new : Traced) (ls : List Line) (l : Line) (before after : List Record) →
    middle.parties ≡ parties → HasTraced parties old ls before middle.machine → HasStepped middle l.number l.action before after new →
    HasTraced parties old (ls ++ l ∷ []) after new.machine
traced-more parties old middle new ls l before after same h s = record {
  outcomes = h.outcomes ++ s.told.outcome ∷ [];
  runs = subst (λ (es : List Action). Runs old es (h.outcomes ++ s.told.outcome ∷ []) new.machine) (sym (actions-more ls l))
      (runs-more old (map (λ k. k.action) ls) h.outcomes middle.machine l.action s.told.outcome new.machine h.runs s.told.acts);
  answers = ap answers_of s.added ∙ (answers-append before s.facts
      ∙ (ap (λ (t : List AnsweredLine). t ++ answers_of s.facts) h.answers ∙ (ap (λ (t : List AnsweredLine). answered ls h.outcomes ++ t) s.told.answers
      ∙ sym (answered-more ls h.outcomes l s.told.outcome (runs-length old ls h.outcomes middle.machine h.runs)))));
  told = told-then parties old middle.machine new.machine ls l before s.facts after h.told s.added
      (subst (λ (p : Parties). IsToldOf p middle.machine l.number l.action s.facts new.machine) same s.told);
}

pub traced_to : (parties : Parties) (old : Installed) (middle new : Traced) (ls : List Line) (i : ℕ) (l : Line) (before after : List Record) →
    slice_get ls i ≡ Some l → middle.parties ≡ parties → HasTraced parties old (take i ls) before middle.machine →
    HasStepped middle l.number l.action before after new → HasTraced parties old (take (i + 1) ls) after new.machine
traced_to parties old middle new ls i l before after there same h s =
    subst (λ (ks : List Line). HasTraced parties old ks after new.machine) (sym (grown ls i l there))
    (traced-more parties old middle new (take i ls) l before after same h s)

-- what the answers print is what `chsim run` prints
pub printed-output : (ls : List Line) (os : List ActionOutcome) → printed (answered ls os) ≡ output_of ls os
printed-output [] os = refl
printed-output (l ∷ ls) [] = refl
printed-output (l ∷ ls) (o ∷ os) = ap (λ (t : List ℕ). event_line l.number o ++ t) (printed-output ls os)

pub is_traced : (text : List ℕ) (records : List Record) (s : ScriptContents) (setup : Setup) (lines : List Line) → IsScript false (lines_of text) s →
    setup ≡ s.setup → lines ≡ s.lines → HasPerformedAt setup lines records → IsTraced text records
is_traced text records s setup lines is same alike h = record {
  script = s;
  is_script = is;
  opening = h.opening;
  is_opening = subst (λ (c : Setup). IsOpening c h.opening) same h.is_opening;
  last = h.last;
  outcomes = h.traced.outcomes;
  runs = subst (λ (ls : List Line). Runs h.opening (map (λ (l : Line). l.action) ls) h.traced.outcomes h.last) alike h.traced.runs;
  prints = ap printed h.traced.answers ∙ (printed-output lines h.traced.outcomes ∙ ap (λ (ls : List Line). output_of ls h.traced.outcomes) alike);
  audited = h.audited;
  parties = h.parties;
  is_among = subst (λ (c : Setup). AreOf c h.parties) same h.is_among;
  told = subst (λ (ls : List Line). AreTold h.parties h.opening ls records h.last) alike h.traced.told;
}
