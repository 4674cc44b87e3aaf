use Rattle.std.proofs.Common.{◌&&◌, map, not, rules, false, ◌≡◌}
use Rattle.script.specs.Parsing.{first_is_storage}
use Rattle.script.specs.Pieces.{words_between_blanks}
use Rattle.script.proofs.Drafting.{taken-clean, taken-next, IsWorded}
use Rattle.script.proofs.draft.take_words.Goals as goal

pub returns-clause-ok : goal.returns-clause-ok
returns-clause-ok g c =
    let line = c.args.next.now.line.line in
    let old = c.args.draft.now in
    let begun : (not old.begun && not (first_is_storage (words_between_blanks line))) ≡ false = search rules in
    let words = map (λ w. w.now) c.as_slice.result.now in
    let is : IsWorded old line words = record { worded = c.requires.worded; begun = begun; readable = search rules; words = search rules } in
    (taken-clean old line words _ is c.in_ok-parse.ensures.ok.0, taken-next old _ c.args.next.now.number line words is c.in_ok-parse.ensures.ok.1)
