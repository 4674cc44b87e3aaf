-- The three words have the numbers of the table, so they are the words of the table.
use Rattle.std.proofs.Common.{refl, ℕ, List, subst, sym}
use Rattle.zbits.specs.Layout.{AllShow}
use Rattle.zbits.proofs.LayoutLemmas.{map-word_of-shown, three_items}
use Rattle.scsw_irb.specs.ScswTable.{scsw_tables}
use Rattle.scsw_irb.proofs.scsw.Scsw.of_words.Goals as goal

pub returns-clause-found : goal.returns-clause-found
returns-clause-found c =
    let items = three_items c.args.words.now c.told-words in
    map-word_of-shown c.args.words.now (scsw_tables c.of_fields.result) c.fits-words refl
    (subst (λ (ws : List ℕ). AllShow ws (scsw_tables c.of_fields.result)) (sym items) c.of_fields.ensures)
