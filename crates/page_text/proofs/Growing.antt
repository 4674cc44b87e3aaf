-- A page that grows by a piece.
use Rattle.std.proofs.Common.{◌≡◌, ℕ, Bool, List, [], ◌∷◌, ◌++◌, sym, ap, subst, ◌∙◌, append-nil}
use Rattle.std.proofs.Math.Logic.{∥∥₁_map}
use Rattle.std.specs.List.{flat_map}
use Rattle.std.proofs.lemmas.Grind.{flat_map-append}
use Rattle.streams.specs.Sinks.{Seen, Puts}
use Rattle.page_text.specs.declared.marks.Mark.{Mark}
use Rattle.page_text.specs.Marks.{mark_text}
use Rattle.page_text.specs.Escapes.{escaped}
use Rattle.page_text.specs.Pages.{Piece, Markup, Shown, piece_text, IsPage, PutsText, PutsPage}

piece-more : (pieces : List Piece) (piece : Piece) → flat_map piece_text (pieces ++ piece ∷ []) ≡ flat_map piece_text pieces ++ piece_text piece
piece-more pieces piece = flat_map-append piece_text pieces (piece ∷ []) ∙ ap (λ (t : List ℕ). flat_map piece_text pieces ++ t) (append-nil (piece_text piece))

grown : (old new : List ℕ) (piece : Piece) → new ≡ old ++ piece_text piece → IsPage old → IsPage new
grown old new piece e (pieces, is) = (pieces ++ piece ∷ [], e ∙ ap (λ (t : List ℕ). t ++ piece_text piece) is ∙ sym (piece-more pieces piece))

pub marked : (old new : List ℕ) (mark : Mark) → new ≡ old ++ mark_text mark → ∥ IsPage old ∥₁ → ∥ IsPage new ∥₁
marked old new mark e page = ∥∥₁_map page (grown old new (Markup mark) e)

pub shown : (old new text : List ℕ) → new ≡ old ++ escaped text → ∥ IsPage old ∥₁ → ∥ IsPage new ∥₁
shown old new text e page = ∥∥₁_map page (grown old new (Shown text) e)

empty : (text : List ℕ) → text ≡ [] → IsPage text
empty text e = ([], e)

pub nothing_yet : (text : List ℕ) → text ≡ [] → ∥ IsPage text ∥₁
nothing_yet text e = ∣ empty text e ∣₁

went : (old new : Seen) (text : List ℕ) (whole : Bool) → Puts old text new whole → IsPage text → PutsText old new whole
went old new text whole put page = record { text = text; page = page; put = put }

pub put_whole : (old new : Seen) (held text : List ℕ) (whole : Bool) → text ≡ held → ∥ IsPage held ∥₁ → Puts old text new whole → PutsPage old new whole
put_whole old new held text whole same page put =
    let is : ∥ IsPage text ∥₁ = subst (λ (t : List ℕ). ∥ IsPage t ∥₁) (sym same) page in
    ∥∥₁_map is (went old new text whole put)
