use Rattle.std.proofs.Common.{◌≡◌, refl, sym, ◌∙◌, ap, map, ◌++◌, ◌∷◌, [], List, ℕ, ◌+◌, arith, length, length-append}
use Rattle.std.specs.Prelude.{if◌then◌else◌}
use Rattle.std.specs.Result.{is_ok}
use Rattle.std.specs.List.{range_with_len}
use Rattle.std.proofs.lemmas.List.FromFn.{map-range_with_len_more}
use Rattle.interruptions.proofs.links.numbers_below.Goals as goal

the-same : (xs : List ℕ) → map (λ (x : ℕ). x) xs ≡ xs
the-same [] = refl
the-same (x ∷ xs) = ap (λ (ys : List ℕ). x ∷ ys) (the-same xs)

more : (n : ℕ) → range_with_len 0 (n + 1) ≡ range_with_len 0 n ++ n ∷ []
more n =
    let e : 0 + n ≡ n = omega arith in
    sym (the-same (range_with_len 0 (n + 1))) ∙ map-range_with_len_more (λ (x : ℕ). x) 0 n n e ∙ ap (λ (xs : List ℕ). xs ++ n ∷ []) (the-same (range_with_len 0 n))

pub loop-number-preserved : goal.loop-number-preserved
loop-number-preserved g c =
    let old = c.loop-number.numbers.items in
    let n = c.loop-number.number in
    let items : c.push.new.self.items ≡ old ++ n ∷ [] = c.push.ensures.items ∙ ap (λ r. if is_ok r then old ++ n ∷ [] else old) c.unwrap.ensures in
    record {
      items = items ∙ ap (λ (xs : List ℕ). xs ++ n ∷ []) c.loop-number.invariant.items ∙ sym (more n);
      room = omega (arith, c.loop-number-test.true, ap length items ∙ length-append old (n ∷ []), c.loop-number.invariant.room, c.push.ensures.capacity, c.push.new.self.ok.0, c.loop-number.numbers.ok.0);
      unrefused = c.loop-number.invariant.unrefused;
    }
