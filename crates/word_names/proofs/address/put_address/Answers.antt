use Rattle.std.proofs.Common.{ap, sym, ◌∙◌, ◌++◌, ℕ}
use Rattle.std.specs.Prelude.{codes}
use Rattle.word_parts.specs.Numbers.{hex_text}
use Rattle.word_names.specs.Addresses as spec
use Rattle.word_names.specs.declared.address.AddressMeaning.{AddressMeaning}
use Rattle.word_parts.proofs.Growing.{text_as}
use Rattle.word_names.proofs.address.put_address.Goals as goal

pub returns-in-Nothing : goal.returns-in-Nothing
returns-in-Nothing g c = text_as _ _ _ _ _ (ap (λ (m : AddressMeaning). spec.meaning_text m c.args.address) (sym c.in-Nothing.is)) c.put.ensures

pub returns-in-Begins : goal.returns-in-Begins
returns-in-Begins g c = text_as _ _ _ _ _ (ap (λ (m : AddressMeaning). spec.meaning_text m c.args.address) (sym c.in-Begins.is)) c.put-in-Begins.ensures

pub returns-in-Past : goal.returns-in-Past
returns-in-Past g c =
    text_as _ _ _ _ _
    (ap (λ (n : ℕ). codes "CCW address: 8 past the last CCW, at " ++ hex_text 1 n) c.last_ccw.ensures
    ∙ ap (λ (m : AddressMeaning). spec.meaning_text m c.args.address) (sym c.in-Past.is))
    c.put_hex_after.ensures

pub returns-in-Unfetched : goal.returns-in-Unfetched
returns-in-Unfetched g c = text_as _ _ _ _ _ (ap (λ (m : AddressMeaning). spec.meaning_text m c.args.address) (sym c.in-Unfetched.is)) c.put-in-Unfetched.ensures
