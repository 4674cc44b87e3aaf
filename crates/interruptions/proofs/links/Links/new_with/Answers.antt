use Rattle.std.proofs.Common.{◌≡◌, ◌<◌, ◌∙◌, sym, ap, ℕ, List, length, ◌+◌, slice_index, arith}
use Rattle.std.specs.List.{range_with_len}
use Rattle.std.proofs.lemmas.List.FromFn.{get_or-range_with_len, length-range_with_len}
use Rattle.interruptions.proofs.links.Links.new_with.Goals as goal

own : (xs : List ℕ) (n k : ℕ) → xs ≡ range_with_len 0 n → k < n → slice_index xs k ≡ k
own xs n k e below =
    let zero_more : 0 + k ≡ k = omega arith in
    ap (λ (ys : List ℕ). slice_index ys k) e ∙ get_or-range_with_len 0 n k 0 below ∙ zero_more

long : (xs : List ℕ) (n : ℕ) → xs ≡ range_with_len 0 n → length xs ≡ n
long xs n e = ap length e ∙ length-range_with_len 0 n

within : (xs : List ℕ) (n m k : ℕ) → xs ≡ range_with_len 0 n → m ≡ n → k < m → slice_index xs k < m
within xs n m k e same below = omega (arith, own xs n k e (omega (arith, same, below)), below)

pub invariant_of-result : goal.invariant_of-result
invariant_of-result g c =
    let n = c.args.count in
    let a = c.in_ok-next.ensures.numbers in
    let b = c.in_ok-former.ensures.numbers in
    let e = long c.in_ok-next.next.items n a in
    record {
      same = long c.in_ok-former.former.items n b ∙ sym e;
      next = λ k below. within c.in_ok-next.next.items n (length c.in_ok-next.next.items) k a e below;
      former = λ k below. within c.in_ok-former.former.items n (length c.in_ok-next.next.items) k b e below;
    }

pub returns-clause-alone : goal.returns-clause-alone
returns-clause-alone g c =
    let n = c.args.count in
    let a = c.in_ok-next.ensures.numbers in
    record { long = long c.in_ok-next.next.items n a; next = λ k below. own c.in_ok-next.next.items n k a below; former = λ k below. own c.in_ok-former.former.items n k c.in_ok-former.ensures.numbers below }
