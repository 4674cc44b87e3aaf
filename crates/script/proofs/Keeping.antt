-- Packed lines over an arena that grows.
use Rattle.std.proofs.Common.{◌≡◌, ◌≤◌, ◌<◌, ℕ, ◌+◌, ◌∙◌, sym, ap, ap₂, List, [], ◌∷◌, ◌++◌, arith, length, take, drop, get_or, length-drop}
use Rattle.std.proofs.Math.Seq.{drop-append_seam, take-length}
use Rattle.std.proofs.lemmas.List.{same_lists, take-append-le, drop-append-le, get_or-map, length-map, map_push}
use Rattle.script.specs.declared.Line.{Line}
use Rattle.script_rows.specs.Slots.{action_length}
use Rattle.script_rows.specs.declared.slots.KeptAction.TheVariants as kept_action
use Rattle.script.specs.declared.kept.KeptLine.{KeptLine}
use Rattle.script.specs.Keeping.{line_in, line_at, lines_at, Fits, AllFit}

-- a piece that lies in an arena is the same in a longer one
cut-append : (arena more : List ℕ) (start count : ℕ) → start + count ≤ length arena →
    take count (drop start (arena ++ more)) ≡ take count (drop start arena)
cut-append arena more start count within =
    ap (take count) (drop-append-le start arena more (omega (arith, within)))
    ∙ take-append-le count (drop start arena) more (omega (arith, within, length-drop start arena))

line-append : (arena more : List ℕ) (k : KeptLine) → Fits (length arena) k → line_at (arena ++ more) k ≡ line_at arena k
line-append arena more k fits = ap (line_in k) (cut-append arena more k.start (action_length k.action) fits)

-- any line, for an index that a list does not have
blank : KeptLine
blank = record { number = 0; start = 0; action = kept_action.Dev 0 }

lines-append : (arena more : List ℕ) (ks : List KeptLine) → AllFit arena ks → lines_at (arena ++ more) ks ≡ lines_at arena ks
lines-append arena more ks fit =
    same_lists _ _ (length-map ks (line_at (arena ++ more)) ∙ sym (length-map ks (line_at arena))) (λ i d below.
    let within : i < length ks = omega (arith, below, length-map ks (line_at (arena ++ more))) in
    get_or-map (line_at (arena ++ more)) ks i blank d within
    ∙ line-append arena more (get_or ks i blank) (fit i blank within)
    ∙ sym (get_or-map (line_at arena) ks i blank d within))

-- what is known of a line that is kept with its bytes at the end
pub record IsAdded (arena bytes : List ℕ) (k : KeptLine) : Type 0 where
  pub start : k.start ≡ length arena
  pub long : action_length k.action ≡ length bytes

line-added : (arena bytes : List ℕ) (k : KeptLine) → IsAdded arena bytes k → line_at (arena ++ bytes) k ≡ line_in k bytes
line-added arena bytes k is =
    let after = ap (λ s. drop s (arena ++ bytes)) is.start ∙ drop-append_seam arena bytes in
    ap (line_in k) (ap₂ take is.long after ∙ take-length bytes)

pub lines-added : (arena bytes : List ℕ) (ks : List KeptLine) (k : KeptLine) → AllFit arena ks → IsAdded arena bytes k →
    lines_at (arena ++ bytes) (ks ++ k ∷ []) ≡ lines_at arena ks ++ line_in k bytes ∷ []
lines-added arena bytes ks k fit is =
    map_push (line_at (arena ++ bytes)) ks k
    ∙ ap₂ (λ (h : List Line) (x : Line). h ++ x ∷ []) (lines-append arena bytes ks fit) (line-added arena bytes k is)
