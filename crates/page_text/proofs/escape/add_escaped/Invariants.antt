use Rattle.std.proofs.Common.{◌≡◌, ◌++◌, take}
use Rattle.std.specs.List.{flat_map}
use Rattle.page_text.specs.Escapes.{escaped_byte}
use Rattle.page_text.proofs.escape.add_escaped.Given as goal

abbrev pub invariant-loop-byte : goal.invariant-loop-byte
invariant-loop-byte g l =
    (l.page.items ≡ l.initial.page.items ++ flat_map (escaped_byte l.utf8) (take l.byte-index l.text))
    × (g.M.Supply.refused l.supply ≡ g.M.Supply.refused l.initial.supply)
