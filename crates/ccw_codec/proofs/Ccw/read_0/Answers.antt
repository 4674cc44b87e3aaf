-- The two words of the effective block have the numbers of the table, so they are the words of the table.
use Rattle.std.proofs.Common.{◌≡◌, refl, ℕ, List, length, ◌∙◌, ap, rules, subst, sym}
use Rattle.zbits.specs.Words.{bytes_of_words}
use Rattle.zbits.specs.Layout.{AllShow}
use Rattle.zbits.proofs.LayoutLemmas.{map-word_of-shown}
use Rattle.ccw_codec.specs.CcwTable.{ccw_tables_0}
use Rattle.ccw_codec.proofs.CcwLemmas.{two_items}
use Rattle.ccw_codec.proofs.Ccw.read_0.Goals as goal

pub returns-in-None-clause-found : goal.returns-in-None-clause-found
returns-in-None-clause-found c =
    let two : length c.be_words.result ≡ 2 = search rules in
    let items = two_items c.be_words.result two in
    let tables = ccw_tables_0 c.of_words_0.result in
    sym c.effective.ensures.block
    ∙ c.be_words.ensures.image
    ∙ ap bytes_of_words (map-word_of-shown c.be_words.result tables c.be_words.ensures.fit refl (subst (λ (ws : List ℕ). AllShow ws tables) (sym items) c.of_words_0.ensures.shown))
