-- What stays of a room whose front was passed on.
use Rattle.std.proofs.Common.{◌≡◌, ℕ, ◌+◌, ◌-◌, ◌≤◌, List, [], ◌++◌, take, drop, length, sym, ap, ◌∙◌, arith, length-drop, take-append-drop}
use Rattle.std.proofs.lemmas.List.{drop-take}
use Rattle.std.proofs.lemmas.List.Edits.{take-paste}
use Rattle.std.specs.List.{copy_within}
use Rattle.std.specs.Prelude.{Option}
use Rattle.std.specs.Io.KnownBytes.{Appends, Keeps}
use Rattle.std.proofs.KnownBytes.{append_known-moved}
use Rattle.streams.specs.Gathering.{held}
use lib.Seq.{paste}

stays : (room new : List ℕ) (taken count : ℕ) → taken ≤ count → count ≤ length room → new ≡ copy_within room taken count 0
    → drop taken (take count room) ≡ take (count - taken) new
stays room new taken count le fits is =
    let left = count - taken in
    let whole : count ≡ taken + left = omega (arith, le) in
    let zero : left ≡ 0 + left = omega arith in
    ap (λ (k : ℕ). drop taken (take k room)) whole ∙ drop-take taken left room
    ∙ sym (ap (take left) is ∙ ap (λ (k : ℕ). take k (paste room 0 (drop taken room) left)) zero
    ∙ take-paste room 0 (drop taken room) left (omega arith) (omega (arith, le, fits, length-drop taken room)))

pub passed_on : (a b : Option (List ℕ)) (room new : List ℕ) (taken count : ℕ) → taken ≤ count → count ≤ length room
    → Appends a b (take taken (take count room)) → new ≡ copy_within room taken count 0 → Keeps (held a count room) (held b (count - taken) new)
passed_on a b room new taken count le fits went is =
    append_known-moved a b (take taken (take count room)) (take (count - taken) new) (take count room) went
    (sym (take-append-drop taken (take count room)) ∙ ap (λ (t : List ℕ). take taken (take count room) ++ t) (stays room new taken count le fits is))
