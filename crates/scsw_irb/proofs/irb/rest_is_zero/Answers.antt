-- The last twelve of sixteen words are all after the first four.
use Rattle.std.proofs.Common.{◌≡◌, ◌-◌, ℕ, List, take, drop, ap, sym, ◌∙◌, subst}
use Rattle.std.specs.Prelude.{replicate}
use Rattle.std.specs.Bool.{Decides}
use Rattle.std.proofs.lemmas.Bool.Decides.{Decides-eqb}
use Rattle.std.proofs.lemmas.List.{take_rest}
use Rattle.std.proofs.lemmas.Slice.Eq.{slice_eq-Decides}
use Rattle.scsw_irb.proofs.irb.rest_is_zero.Goals as goal

pub returns : goal.returns
returns c =
    let rest = drop 4 c.args.words.now in
    let whole : take 12 rest ≡ rest = ap (λ (n : ℕ). take (n - 4) rest) (sym c.told-words) ∙ take_rest c.args.words.now 4 in
    subst (λ (xs : List ℕ). Decides c.eq.result (xs ≡ replicate 12 0)) whole (slice_eq-Decides Decides-eqb _ _ _ c.eq.ensures)
