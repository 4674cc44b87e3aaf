use Rattle.std.proofs.Common.{◌∙◌, arith, refl, sym, ap}
use Rattle.script.specs.Pieces.{lines_of}
use Rattle.script.proofs.Following.{next-of}
use Rattle.script.proofs.Parting.{few-pieces}
use Rattle.line_reasons.specs.Telling.{first_told}
use Rattle.line_reasons.proofs.First.{bad-told, script-told}
use Rattle.line_reasons.proofs.Walking.{checked-next, told-next, told-all, unchecked-at}
use Rattle.line_reasons.proofs.whole.bad_lines.Goals as goal

pub overflow_add-number : goal.overflow_add-number
overflow_add-number g c =
    let next = next-of _ c.lines.number _ _ (c.lines.invariant.rest ∙ c.first-line.ensures) in
    omega (arith, next.within, few-pieces 10 c.args.text.now)

pub returns-in-None-clause-told : goal.returns-in-None-clause-told
returns-in-None-clause-told g c =
    let next = next-of (lines_of c.args.text.now) c.lines.number _ _ (c.lines.invariant.rest ∙ c.first-line.ensures) in
    told-all (lines_of c.args.text.now) c.lines.number _ c.lines.walk.some_words c.lines.walk.checker _ _ _ refl c.lines.invariant.words
    (c.bytes.ensures ∙ next.here) c.lines.invariant.checked c.lines.invariant.told c.in_ok-step.ensures.told next.within (sym c.in-None.ensures ∙ next.after)

pub returns-in-None-clause-first : goal.returns-in-None-clause-first
returns-in-None-clause-first g c = λ line rule bad.
    let next = next-of (lines_of c.args.text.now) c.lines.number _ _ (c.lines.invariant.rest ∙ c.first-line.ensures) in
    ap first_told (told-all (lines_of c.args.text.now) c.lines.number _ c.lines.walk.some_words c.lines.walk.checker _ _ _ refl c.lines.invariant.words
    (c.bytes.ensures ∙ next.here) c.lines.invariant.checked c.lines.invariant.told c.in_ok-step.ensures.told next.within (sym c.in-None.ensures ∙ next.after))
    ∙ bad-told (lines_of c.args.text.now) line rule (omega (arith, next.within)) bad

pub returns-in-None-clause-none : goal.returns-in-None-clause-none
returns-in-None-clause-none g c = λ s is.
    let next = next-of (lines_of c.args.text.now) c.lines.number _ _ (c.lines.invariant.rest ∙ c.first-line.ensures) in
    told-all (lines_of c.args.text.now) c.lines.number _ c.lines.walk.some_words c.lines.walk.checker _ _ _ refl c.lines.invariant.words
    (c.bytes.ensures ∙ next.here) c.lines.invariant.checked c.lines.invariant.told c.in_ok-step.ensures.told next.within (sym c.in-None.ensures ∙ next.after)
    ∙ script-told (lines_of c.args.text.now) s is

pub lines-preserved : goal.lines-preserved
lines-preserved g c =
    let lines = lines_of c.args.text.now in
    let next = next-of lines c.lines.number _ _ (c.lines.invariant.rest ∙ c.first-line.ensures) in
    let done = c.in_ok-step.ensures in
    let here = c.bytes.ensures ∙ next.here in
    record {
      checked = checked-next lines c.lines.number _ c.lines.walk.checker _ _ next.within here c.lines.invariant.checked done.next;
      told = told-next lines c.lines.number _ c.lines.walk.some_words c.lines.walk.checker _ _ _ refl c.lines.invariant.words here c.lines.invariant.checked
          c.lines.invariant.told done.told;
      words = done.words ∙ c.lines.invariant.words;
      rest = sym next.after ∙ c.in-Some.ensures;
    }
