-- Words that are parted by one space each are found again.
use Rattle.std.proofs.Common.{◌≡◌, ℕ, ◌==◌, List, [], ◌∷◌, ◌++◌, refl, ap, ◌∙◌, append-nil}
use Rattle.std.specs.Prelude.{Bool, false, if◌then◌else◌}
use Rattle.script.specs.Pieces.{lines_of, onto_first, pieces, words_between_blanks}
use Rattle.event_lines.specs.EventLines.{joined, spaced}
use Rattle.event_lines.specs.ReadLines.{first_of, words_of}

-- a byte that parts neither words nor lines
pub record IsPlain (b : ℕ) : Type 0 where
  pub space : (b == 32) ≡ false
  pub feed : (b == 10) ≡ false

abbrev pub Whole : List ℕ → Type 0
Whole [] = Unit {0}
Whole (b ∷ bs) = IsPlain b × Whole bs

abbrev pub AllWhole : List (List ℕ) → Type 0
AllWhole [] = Unit {0}
AllWhole (w ∷ ws) = Whole w × AllWhole ws

-- a word before a space, and a word at the end
found : (w t : List ℕ) → Whole w → pieces 32 (w ++ 32 ∷ t) ≡ w ∷ pieces 32 t
found [] t whole = refl
found (b ∷ bs) t whole =
    ap (λ (is : Bool). if is then [] ∷ pieces 32 (bs ++ 32 ∷ t) else onto_first b (pieces 32 (bs ++ 32 ∷ t))) whole.0.space
    ∙ ap (onto_first b) (found bs t whole.1)

last : (w : List ℕ) → Whole w → pieces 32 w ≡ w ∷ []
last [] whole = refl
last (b ∷ bs) whole = ap (λ (is : Bool). if is then [] ∷ pieces 32 bs else onto_first b (pieces 32 bs)) whole.0.space ∙ ap (onto_first b) (last bs whole.1)

parted : (w : List ℕ) (ws : List (List ℕ)) → Whole w → AllWhole ws → words_between_blanks (joined (w ∷ ws)) ≡ w ∷ ws
parted w [] whole all = ap (pieces 32) (append-nil w) ∙ last w whole
parted w (v ∷ ws) whole all = found w (v ++ spaced ws) whole ∙ ap (λ (vs : List (List ℕ)). w ∷ vs) (parted v ws all.0 all.1)

-- they stand in one line
abbrev HasNoFeed : List ℕ → Type 0
HasNoFeed [] = Unit {0}
HasNoFeed (b ∷ bs) = ((b == 10) ≡ false) × HasNoFeed bs

after_word : (w text : List ℕ) → Whole w → HasNoFeed text → HasNoFeed (w ++ text)
after_word [] text whole none = none
after_word (b ∷ bs) text whole none = (whole.0.feed, after_word bs text whole.1 none)

all_spaced : (ws : List (List ℕ)) → AllWhole ws → HasNoFeed (spaced ws)
all_spaced [] all = tt
all_spaced (w ∷ ws) all = (refl, after_word w (spaced ws) all.0 (all_spaced ws all.1))

one_line : (text : List ℕ) → HasNoFeed text → lines_of text ≡ text ∷ []
one_line [] none = refl
one_line (b ∷ bs) none = ap (λ (is : Bool). if is then [] ∷ lines_of bs else onto_first b (lines_of bs)) none.0 ∙ ap (onto_first b) (one_line bs none.1)

pub words_back : (w : List ℕ) (ws : List (List ℕ)) → Whole w → AllWhole ws → words_of (joined (w ∷ ws)) ≡ w ∷ ws
words_back w ws whole all =
    ap (λ (lines : List (List ℕ)). words_between_blanks (first_of lines)) (one_line (joined (w ∷ ws)) (after_word w (spaced ws) whole (all_spaced ws all)))
    ∙ parted w ws whole all
