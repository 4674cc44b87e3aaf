-- What is kept of a command word's data is where the formula says, after each word and each chunk.
use Rattle.std.proofs.Common.{◌≡◌, ℕ, ◌+◌, ◌-◌, ◌%◌, ◌<◌, ◌≤◌, ◌⊎◌, ◌==◌, ◌&&◌, not, min, Bool, true, false, [], ◌∷◌, ◌++◌, length, refl, sym, ap, subst, ◌∙◌, arith, length-append}
use Rattle.std.specs.Prelude.{nat_lt, if◌then◌else◌, Option, Some, None}
use Rattle.std.proofs.lemmas.Bool.Decides.{nat_tests}
use Rattle.ccw_codec.specs.declared.Ccw.{Ccw}
use Rattle.idaw.specs.declared.ListKind.{ListKind}
use Rattle.idaw.specs.declared.ListKind.TheVariants.{Short, LongByFourK, LongByTwoK}
use Rattle.idaw.specs.Lists.{block}
use Rattle.idaw.specs.Places.{Reach, place_of_byte, place_of_word, each_below, covered, reach_with_word}
use Rattle.idaw.proofs.WordLemmas.{picks_true, picks_false, word_stays, word_next, word_reaches}
use Rattle.data_move.specs.Moving.{Moving, uses_list, moving_begun, with_piece, moved, next_place, IsAt, MayFetch}
use Rattle.data_move.proofs.ListLemmas.{each_below_add, each_below_same}

block_positive : (kind : ListKind) → 0 < block kind
block_positive Short = omega arith
block_positive LongByFourK = omega arith
block_positive LongByTwoK = omega arith

-- a place, unless the byte is skipped
abbrev unless : Bool → ℕ → Option ℕ
unless s p = if s then None else Some p

unless_same : (s : Bool) (p q : ℕ) → (s ≡ false → p ≡ q) → (if s then None else Some p) ≡ (if s then None else Some q)
unless_same true p q e = refl
unless_same false p q e = ap Some (e refl)

pub not_skipped : (s : Bool) (p : ℕ) → s ≡ false → (if s then None else Some p) ≡ Some p
not_skipped true p e = absurd (cc)
not_skipped false p e = refl

same_first : (t : Bool) (p p' q : ℕ) → p ≡ p' → (if t then p else q) ≡ (if t then p' else q)
same_first true p p' q e = e
same_first false p p' q e = refl

listed_indirect : (i s : Bool) → (i && not s) ≡ true → i ≡ true
listed_indirect true s e = refl
listed_indirect false s e = e

listed_stored : (i s : Bool) → (i && not s) ≡ true → s ≡ false
listed_stored true true e = absurd (cc)
listed_stored true false e = refl
listed_stored false s e = absurd (cc)

direct : (i s : Bool) → (i && not s) ≡ false → s ≡ false → i ≡ false
direct true true e f = absurd (cc)
direct true false e f = absurd (cc)
direct false s e f = refl

pub needed_left : (left done count : ℕ) → (left == 0 && nat_lt done count) ≡ true → left ≡ 0
needed_left left done count e = grind (arith, nat_tests)

pub needed_more : (left done count : ℕ) → (left == 0 && nat_lt done count) ≡ true → done < count
needed_more left done count e = grind (arith, nat_tests)

-- a command word that took control is at its beginning
begun_if : (kind : ListKind) (ccw : Ccw) (skipped t : Bool) → (ccw.indirect && not skipped) ≡ t → IsAt (record { ccw = ccw; skipped = skipped; words = [] }) (moving_begun kind ccw skipped)
begun_if kind ccw skipped true e =
    let none : (moving_begun kind ccw skipped).left ≡ 0 = ap (λ x. if x then 0 else ccw.count) e in
    record {
      ccw = refl;
      skipped = refl;
      words = refl;
      listed = λ t. omega arith;
      whole = λ no. absurd (cc);
      next = λ i l. absurd (omega arith);
    }
begun_if kind ccw skipped false e =
    let all : (moving_begun kind ccw skipped).left ≡ ccw.count = ap (λ x. if x then 0 else ccw.count) e in
    record {
      ccw = refl;
      skipped = refl;
      words = refl;
      listed = λ t. absurd (cc);
      whole = λ no. omega arith;
      next = λ i l.
          let z : i ≡ 0 + i = omega arith in
          unless_same skipped _ _
          (λ no. ap (λ x. ccw.address + x) z ∙ sym (picks_false ccw.indirect (place_of_word (block kind) [] (0 + i)) _ (direct ccw.indirect skipped e no)));
    }

pub begun_at : (kind : ListKind) (ccw : Ccw) (skipped : Bool) → IsAt (record { ccw = ccw; skipped = skipped; words = [] }) (moving_begun kind ccw skipped)
begun_at kind ccw skipped = begun_if kind ccw skipped (ccw.indirect && not skipped) refl

-- a word that is added moves no byte before
pub word_keeps : (r : Reach) (m : Moving) (w : ℕ) → IsAt r m → uses_list m ≡ true → (j : ℕ) → j < m.done → place_of_byte (block m.kind) (reach_with_word r w) j ≡ place_of_byte (block m.kind) r j
word_keeps r m w a list j l =
    let listed : m.done + m.left ≡ min (covered (block m.kind) r.words) m.ccw.count = a.listed list in
    let c : j < covered (block m.kind) r.words = omega arith in
    unless_same r.skipped _ _ (λ no. same_first r.ccw.indirect _ _ (r.ccw.address + j) (word_stays (block m.kind) r.words w j (block_positive m.kind) c))

-- and gives the next piece
pub word_at : (r : Reach) (m : Moving) (w : ℕ) → IsAt r m → MayFetch m w → IsAt (reach_with_word r w) (with_piece m w)
word_at r m w a f =
    let pos : 0 < block m.kind = block_positive m.kind in
    let listed : m.done + m.left ≡ min (covered (block m.kind) r.words) m.ccw.count = a.listed f.list in
    let none : m.left ≡ 0 = needed_left m.left m.done m.ccw.count f.needed in
    let more : m.done < m.ccw.count = needed_more m.left m.done m.ccw.count f.needed in
    let here : m.done ≡ covered (block m.kind) r.words = omega arith in
    let len : length (r.words ++ w ∷ []) ≡ length r.words + 1 = length-append r.words (w ∷ []) in
    let first : (length r.words ≡ 0) ⊎ (w % block m.kind ≡ 0) = subst (λ n. (n ≡ 0) ⊎ (w % block m.kind ≡ 0)) a.words f.begins in
    let cover : covered (block m.kind) (r.words ++ w ∷ []) ≡ covered (block m.kind) r.words + (block m.kind - w % block m.kind) = word_reaches (block m.kind) r.words w first in
    let indirect : m.ccw.indirect ≡ true = listed_indirect m.ccw.indirect m.skipped f.list in
    let stores : m.skipped ≡ false = listed_stored m.ccw.indirect m.skipped f.list in
    record {
      ccw = a.ccw;
      skipped = a.skipped;
      words = ap (λ n. n + 1) a.words ∙ sym len;
      listed = λ t. omega arith;
      whole = λ no. absurd (cc);
      next = λ k l.
          let short : k < block m.kind - w % block m.kind = omega arith in
          not_skipped m.skipped (w + k) stores
          ∙ ap Some (
          sym (word_next (block m.kind) r.words w k pos short)
          ∙ ap (λ n. place_of_word (block m.kind) (r.words ++ w ∷ []) (n + k)) (sym here)
          ∙ sym (picks_true r.ccw.indirect _ _ (ap (λ x. x.indirect) (sym a.ccw) ∙ indirect))
          )
          ∙ sym (not_skipped r.skipped _ (sym a.skipped ∙ stores));
    }

-- bytes that are moved are the next ones
pub moved_at : (r : Reach) (m : Moving) (n : ℕ) → IsAt r m → n ≤ m.left → IsAt r (moved m n)
moved_at r m n a l =
    record {
      ccw = a.ccw;
      skipped = a.skipped;
      words = a.words;
      listed = λ t. let e = a.listed t in omega arith;
      whole = λ t. let e = a.whole t in omega arith;
      next = λ i k.
          let less : n + i < m.left = omega arith in
          let e : (m.piece + n) + i ≡ m.piece + (n + i) = omega arith in
          let f : m.done + (n + i) ≡ (m.done + n) + i = omega arith in
          ap (unless m.skipped) e ∙ a.next (n + i) less ∙ ap (place_of_byte (block m.kind) r) f;
    }

-- the same for a number that is found to be this one
pub moved_found : (r : Reach) (m : Moving) (n found : ℕ) → found ≡ n → IsAt r m → n ≤ m.left → IsAt r (record m { done = m.done + n; piece = m.piece + found; left = m.left - n })
moved_found r m n found e a l = subst (λ x. IsAt r (record m { done = m.done + n; piece = m.piece + x; left = m.left - n })) (sym e) (moved_at r m n a l)

-- so the places so far go on by them
pub moved_places : (r : Reach) (m : Moving) (n : ℕ) → IsAt r m → n ≤ m.left → each_below (place_of_byte (block m.kind) r) m.done ++ each_below (next_place m) n ≡ each_below (place_of_byte (block m.kind) r) (m.done + n)
moved_places r m n a l =
    ap (λ xs. each_below (place_of_byte (block m.kind) r) m.done ++ xs) (each_below_same (next_place m) (λ i. place_of_byte (block m.kind) r (m.done + i)) n (λ i k. a.next i (omega arith)))
    ∙ sym (each_below_add (place_of_byte (block m.kind) r) m.done n)
