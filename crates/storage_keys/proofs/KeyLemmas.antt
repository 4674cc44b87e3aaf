-- Two keys of the same bits are the same key, and storage whose keys are zero is cleared storage.
use Rattle.std.proofs.Common.{◌≡◌, ◌∙◌, ◌*◌, ◌<◌, ℕ, List, false, ap, replicate}
use Rattle.std.proofs.Math.Bridge.{le_prop}
use Rattle.storage_keys.specs.declared.key.Key.{Key}
use Rattle.storage_keys.specs.Storage.{Contents, cleared_storage, zero_key}

pub all_zero : (fits : 0 < 16) → record { access = 0; fetch_protected = false; referenced = false; changed = false; access_fits = fits } ≡ zero_key
all_zero fits = ap (λ (h : 0 < 16). let k : Key = record { access = 0; fetch_protected = false; referenced = false; changed = false; access_fits = h } in k) (le_prop fits zero_key.access_fits)

pub cleared_from : (blocks : ℕ) (bytes : List ℕ) (keys : List Key) (fits : 0 < 16) → bytes ≡ replicate (4096 * blocks) 0 →
    keys ≡ replicate blocks (record { access = 0; fetch_protected = false; referenced = false; changed = false; access_fits = fits }) →
    record { bytes = bytes; keys = keys; prefixes = replicate 16 0 } ≡ cleared_storage blocks
cleared_from blocks bytes keys fits zeros copies =
    ap (λ (b : List ℕ). let s : Contents = record { bytes = b; keys = keys; prefixes = replicate 16 0 } in s) zeros
    ∙ ap (λ (k : List Key). let s : Contents = record { bytes = replicate (4096 * blocks) 0; keys = k; prefixes = replicate 16 0 } in s) copies
    ∙ ap (λ (k : Key). let s : Contents = record { bytes = replicate (4096 * blocks) 0; keys = replicate blocks k; prefixes = replicate 16 0 } in s) (all_zero fits)
