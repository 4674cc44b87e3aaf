-- The lines that follow the first line of a text.
use Rattle.std.proofs.Common.{◌≡◌, ℕ, ◌+◌, ◌-◌, ◌<◌, ◌≤◌, List, [], ◌∷◌, length, take, drop, get_or, ap, ◌∙◌, inl, inr, sym}
use Rattle.std.proofs.lemmas.Bool.Decides.{leb_tells}
use Rattle.std.proofs.lemmas.List.{drop_all, drop_more}
use Rattle.script.specs.Pieces.{lines_of}
use Rattle.script.specs.Following.{later_lines, IsFirst}
use Rattle.script.proofs.Parting.{behind, cut, left, nothing, whole}

pub none-later : (text : List ℕ) (count : ℕ) → IsFirst text count → length (take (length text - count) (drop count text)) < 1 → later_lines text ≡ []
none-later text count is short =
    ap (drop 1) (whole 10 text count is.before (sym (left text count) ∙ nothing _ short))

pub some-later : (text : List ℕ) (count : ℕ) → IsFirst text count → 1 ≤ length (take (length text - count) (drop count text)) →
    later_lines text ≡ lines_of (take (length (take (length text - count) (drop count text)) - 1) (drop 1 (take (length text - count) (drop count text))))
some-later text count is long =
    ap (drop 1) (cut 10 text count _ _ is.before is.ended (sym (left text count) ∙ behind _ long))

-- what is left of some lines, the next of which is this
pub record IsNextOf (lines : List (List ℕ)) (i : ℕ) (line : List ℕ) (later : List (List ℕ)) : Type 0 where
  pub within : i < length lines
  pub here : line ≡ get_or lines i []
  pub after : later ≡ drop (i + 1) lines

pub next-of : (lines : List (List ℕ)) (i : ℕ) (line : List ℕ) (later : List (List ℕ)) → drop i lines ≡ line ∷ later → IsNextOf lines i line later
next-of lines i line later e = elim (leb_tells (length lines) i) [
  | inl h ↦ absurd (cc (sym (drop_all i lines h.1) ∙ e))
  | inr h ↦
      let less : i < length lines = h.1 in
      let same = sym e ∙ drop_more lines i [] less in
      record { within = less; here = ap (λ (ls : List (List ℕ)). get_or ls 0 []) same; after = ap (drop 1) same }
]
