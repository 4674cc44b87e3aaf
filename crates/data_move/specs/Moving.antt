-- How far the data of a command word is moved, and what of the formula of places is kept for it.
use Rattle.std.specs.Prelude.{◌≡◌, ℕ, ◌+◌, ◌-◌, ◌%◌, ◌==◌, ◌<◌, ◌⊎◌, ◌&&◌, ◌||◌, not, nat_lt, min, Bool, true, false, if◌then◌else◌, length, Option, Some, None}
use Rattle.ccw_codec.specs.declared.Ccw.{Ccw}
use Rattle.idaw.specs.declared.ListKind.{ListKind}
use Rattle.idaw.specs.Lists.{block}
use Rattle.idaw.specs.Places.{Reach, place_of_byte, covered}

-- the bytes that are moved, the words of the list that were fetched, and the bytes that come next: from
-- which address on they lie side by side, and how many there are
pub record Moving : Type 0 where
  pub kind : ListKind
  pub ccw : Ccw
  pub skipped : Bool
  pub done : ℕ
  pub words : ℕ
  pub piece : ℕ
  pub left : ℕ

-- skipped bytes need no list
abbrev pub uses_list : Moving → Bool
uses_list m = m.ccw.indirect && not m.skipped

-- the bytes that need no word
abbrev pub at_once : Ccw → Bool → ℕ
at_once ccw skipped = if ccw.indirect && not skipped then 0 else ccw.count

-- as the command word takes control
abbrev pub moving_begun : ListKind → Ccw → Bool → Moving
moving_begun kind ccw skipped = record { kind = kind; ccw = ccw; skipped = skipped; done = 0; words = 0; piece = ccw.address; left = at_once ccw skipped }

-- a word is fetched: its piece ends with its block, or with the count
abbrev pub with_piece : Moving → ℕ → Moving
with_piece m word = record m { words = m.words + 1; piece = word; left = min (block m.kind - word % block m.kind) (m.ccw.count - m.done) }

-- some of the next bytes are moved
abbrev pub moved : Moving → ℕ → Moving
moved m n = record m { done = m.done + n; piece = m.piece + n; left = m.left - n }

abbrev pub residual : Moving → ℕ
residual m = m.ccw.count - m.done

abbrev pub is_incorrect : Moving → Bool → Bool
is_incorrect m more = not (residual m == 0) || more

-- bytes of the count are left, and none in the piece
abbrev pub needs_word : Moving → Bool
needs_word m = m.left == 0 && nat_lt m.done m.ccw.count

-- a chunk has at most 256 bytes, and ends with its piece
abbrev pub room : Moving → ℕ
room m = min m.left 256

-- the place of the i-th of the next bytes
abbrev pub next_place : Moving → ℕ → Option ℕ
next_place m i = if m.skipped then None else Some (m.piece + i)

-- the place of the next byte, where there is one
abbrev pub byte_place : Moving → Option ℕ
byte_place m = if m.skipped || m.left == 0 then None else Some m.piece

-- what is kept is at this point of the command word: the next bytes are at the places of the formula
pub record IsAt (r : Reach) (m : Moving) : Type 0 where
  pub ccw : m.ccw ≡ r.ccw
  pub skipped : m.skipped ≡ r.skipped
  pub words : m.words ≡ length r.words
  pub listed : uses_list m ≡ true → m.done + m.left ≡ min (covered (block m.kind) r.words) m.ccw.count
  pub whole : uses_list m ≡ false → m.done + m.left ≡ m.ccw.count
  pub next : (i : ℕ) → i < m.left → next_place m i ≡ place_of_byte (block m.kind) r (m.done + i)

-- a word is fetched where it is needed; but for the first it begins a block
pub record MayFetch (m : Moving) (word : ℕ) : Type 0 where
  pub list : uses_list m ≡ true
  pub needed : needs_word m ≡ true
  pub begins : (m.words ≡ 0) ⊎ (word % block m.kind ≡ 0)
