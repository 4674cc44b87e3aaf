-- The status word is made of three words of the image.
use Rattle.std.proofs.Common.{◌≡◌, ◌↔◌, ◌∙◌, ℕ, List, IsSome, subst, sym, true, false}
use Rattle.std.specs.Prelude.{Option}
use Rattle.scsw_irb.specs.ScswTable.{IsScsw}
use Rattle.schib_block.specs.declared.schib.Schib.{Schib}
use Rattle.schib_block.specs.SchibTable.{IsSchib}
use Rattle.schib_block.proofs.SchibLemmas.{status_three}
use Rattle.schib_block.proofs.schib.Schib.read.Goals as goal

pub returns-in_err-scsw-clause-allowed : goal.returns-in_err-scsw-clause-allowed
returns-in_err-scsw-clause-allowed c =
    let image = c.args.image.now in
    let three = status_three image c.be_words-words.result c.be_words-words.ensures.words in
    subst (λ (r : Option Schib). IsSome r ↔ IsSchib image) (sym c.from_residual.ensures) (subst (λ (words : List ℕ). (false ≡ true) ↔ IsScsw words) three c.in_err-scsw.ensures.allowed)

pub returns-clause-allowed : goal.returns-clause-allowed
returns-clause-allowed c =
    let three = status_three c.args.image.now c.be_words-words.result c.be_words-words.ensures.words in
    subst (λ (words : List ℕ). (true ≡ true) ↔ IsScsw words) three c.in_ok-scsw.ensures.allowed

pub returns-clause-found : goal.returns-clause-found
returns-clause-found c =
    let three = status_three c.args.image.now c.be_words-words.result c.be_words-words.ensures.words in
    record { pmcw = c.of_schib.ensures.shown; scsw = sym three ∙ c.in_ok-scsw.ensures.found }
