use Rattle.std.proofs.Common.{◌≡◌, ◌≤◌, ◌∷◌, [], ◌++◌, List, ℕ, length, ap, sym, append-nil, arith}
use Rattle.std.specs.List.{flat_map}
use Rattle.script_text.specs.Text.{byte_text}
use Rattle.script_text.proofs.Printing.{same_text}
use Rattle.streams.proofs.Sinking.{takes_then}
use Rattle.event_lines.specs.EventLines as spec
use Rattle.event_lines.proofs.putting.put_spaced_bytes.Goals as goal

some_bytes : (bytes : List ℕ) → 1 ≤ length bytes → (32 ∷ []) ++ flat_map byte_text bytes ≡ spec.spaced (spec.bytes_word bytes ∷ [])
some_bytes [] some = absurd (omega arith)
some_bytes (byte ∷ bytes) some = ap (λ (text : List ℕ). 32 ∷ text) (sym (append-nil (flat_map byte_text (byte ∷ bytes))))

pub returns-then-put : goal.returns-then-put
returns-then-put g c =
    same_text _ _ _ _ _ (some_bytes c.args.bytes.now c.in_default.len_at_least)
    (takes_then _ _ _ (32 ∷ []) (flat_map byte_text c.args.bytes.now) _ c.if-put.ensures c.put_bytes.ensures)
