-- Numbers linked in circles: each has one that is next, and one that was before.
use Rattle.std.specs.Prelude.{ℕ, ◌<◌, ◌≡◌, List, length, slice_index, slice_set}

pub record Circles : Type 0 where
  pub next : List ℕ
  pub former : List ℕ

abbrev pub next_of : Circles → ℕ → ℕ
next_of c number = slice_index c.next number

abbrev pub former_of : Circles → ℕ → ℕ
former_of c number = slice_index c.former number

-- as many of the one as of the other, and each is linked to one of them
pub record AreLinked (ns fs : List ℕ) : Type 0 where
  pub same : length fs ≡ length ns
  pub next : (k : ℕ) → k < length ns → slice_index ns k < length ns
  pub former : (k : ℕ) → k < length ns → slice_index fs k < length ns

-- a number is put into a circle, before another one
abbrev pub pushed : Circles → ℕ → ℕ → Circles
pushed c at number = record {
  next = slice_set (slice_set c.next (former_of c at) number) number at;
  former = slice_set (slice_set c.former number (former_of c at)) at number;
}

-- a number is taken out of its circle, and is linked to itself
abbrev pub taken : Circles → ℕ → Circles
taken c number = record {
  next = slice_set (slice_set c.next (former_of c number) (next_of c number)) number number;
  former = slice_set (slice_set c.former (next_of c number) (former_of c number)) number number;
}

-- so many numbers, and each is linked to itself
pub record AreAlone (count : ℕ) (c : Circles) : Type 0 where
  pub long : length c.next ≡ count
  pub next : (k : ℕ) → k < count → next_of c k ≡ k
  pub former : (k : ℕ) → k < count → former_of c k ≡ k
