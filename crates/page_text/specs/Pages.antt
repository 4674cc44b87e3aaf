-- What a page is made of.
use Rattle.std.specs.Prelude.{◌≡◌, ℕ, Bool, false, List, ◌++◌}
use Rattle.std.specs.List.{flat_map}
use Rattle.page_text.specs.declared.marks.Mark.{Mark}
use Rattle.page_text.specs.Marks.{mark_text}
use Rattle.page_text.specs.Escapes.{escaped}
use Rattle.streams.specs.Sinks.{Seen, Puts}

-- markup, or a text that it shows
pub data Piece : Type 0 where
  Markup : Mark → Piece
  Shown : List ℕ → Piece

abbrev pub piece_text : Piece → List ℕ
piece_text (Markup mark) = mark_text mark
piece_text (Shown text) = escaped text

-- a text made of such pieces
abbrev pub IsPage : List ℕ → Type 0
IsPage text = (pieces : List Piece) × (text ≡ flat_map piece_text pieces)

-- a page that had memory for all of it has grown by a text; it says for each of two moments whether memory was refused, and what it has
abbrev pub Grows : Bool → List ℕ → Bool → List ℕ → List ℕ → Type 0
Grows lacked old lacks new text = lacks ≡ false → (lacked ≡ false) × (new ≡ old ++ text)

-- a text that is a page went into a sink: the whole of it, or a beginning
pub record PutsText (old new : Seen) (whole : Bool) : Type 0 where
  pub text : List ℕ
  pub page : IsPage text
  pub put : Puts old text new whole

abbrev pub PutsPage : Seen → Seen → Bool → Type 0
PutsPage old new whole = ∥ PutsText old new whole ∥₁
