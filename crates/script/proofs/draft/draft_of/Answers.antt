use Rattle.std.proofs.Common.{◌∙◌, arith, refl, sym, subst, ap}
use Rattle.std.proofs.lemmas.List.Sums.{AllPass-from_list_all}
use Rattle.std.specs.Prelude.{nat_lt}
use Rattle.script.specs.declared.ScriptBad.{ScriptBad}
use Rattle.script.specs.Pieces.{lines_of}
use Rattle.script.specs.Reading.{BadIn}
use Rattle.script.specs.Parsing.{is_ascii}
use Rattle.script.proofs.Drafting.{all-drafted, drafted, first-bad}
use Rattle.script.proofs.Following.{next-of}
use Rattle.script.proofs.Parting.{all_in, few-pieces}
use Rattle.script.proofs.draft.draft_of.Goals as goal

pub lines-init : goal.lines-init
lines-init g c = record {
  draft = c.in-Ok.ensures.made c.args.races (lines_of c.args.text.now);
  rest = refl;
  unrefused = c.in-Ok.ensures.unrefused;
}

pub overflow_add-number : goal.overflow_add-number
overflow_add-number g c =
    let next = next-of _ c.lines.number _ _ (c.lines.invariant.rest ∙ c.first-line.ensures) in
    omega (arith, next.within, few-pieces 10 c.args.text.now)

pub take_line-requires : goal.take_line-requires
take_line-requires g c plain =
    let text = c.args.text.now in
    let next = next-of (lines_of text) c.lines.number _ _ (c.lines.invariant.rest ∙ c.first-line.ensures) in
    ap is_ascii next.here
    ∙ AllPass-from_list_all is_ascii (lines_of text) (all_in (λ b. nat_lt b 128) 10 text (c.requires plain)) c.lines.number _ next.within

pub returns-in-Err-clause-bad : goal.returns-in-Err-clause-bad
returns-in-Err-clause-bad g c =
    let next = next-of (lines_of c.args.text.now) c.lines.number _ _ (c.lines.invariant.rest ∙ c.first-line.ensures) in
    subst (λ (b : ScriptBad). BadIn b c.args.races (lines_of c.args.text.now)) (sym c.bad_line.ensures.bad)
    (first-bad c.args.races (lines_of c.args.text.now) c.lines.number _ c.in-Err.fault c.lines.draft _ _ next.within refl next.here next.after
    c.lines.invariant.draft c.in-Err.ensures.err)

pub returns-in-None-clause-good : goal.returns-in-None-clause-good
returns-in-None-clause-good g c =
    let lines = lines_of c.args.text.now in
    let next = next-of lines c.lines.number _ _ (c.lines.invariant.rest ∙ c.first-line.ensures) in
    let done = c.in-Ok-take_line.ensures.ok in
    all-drafted c.args.races lines c.lines.number _ next.within (sym c.in-None.ensures ∙ next.after)
    (drafted c.args.races lines c.lines.number _ c.lines.draft _ _ _ next.within refl next.here next.after c.lines.invariant.draft done.0 done.1)

pub lines-preserved : goal.lines-preserved
lines-preserved g c =
    let lines = lines_of c.args.text.now in
    let next = next-of lines c.lines.number _ _ (c.lines.invariant.rest ∙ c.first-line.ensures) in
    let done = c.in-Ok-take_line.ensures.ok in
    record {
      draft = drafted c.args.races lines c.lines.number _ c.lines.draft _ _ _ next.within refl next.here next.after c.lines.invariant.draft done.0 done.1;
      rest = sym next.after ∙ c.in-Some.ensures;
      unrefused = c.in-Ok-take_line.ensures.unrefused ∙ c.lines.invariant.unrefused;
    }
