-- Two signals are the same exactly where they are kept with the same numbers and have the same bytes.
use Rattle.std.proofs.Common.{◌≡◌, ◌≤◌, ℕ, ◌∙◌, sym, ap, ap₂, arith, List, [], ◌++◌, length}
use Rattle.std.proofs.lemmas.List.{length-append}
use Rattle.chan_model.proofs.KeptSignals.{down-kept, kept_of_down, kept_of_up, up-kept}
use Rattle.chan_model.specs.Signals.{Down, KeptDown, KeptUp, Up, down_bytes, down_in, down_length, up_bytes, up_in, up_length}

-- a signal down is this, with these numbers
abbrev pub DownKeeps : KeptDown → Down → Type 0
DownKeeps k s = (rest : List ℕ) → down_in k (down_bytes s ++ rest) ≡ s

down-kept-is : (k : KeptDown) (s : Down) → DownKeeps k s → down_length k ≡ length (down_bytes s) → k ≡ kept_of_down s
down-kept-is k s whole long =
    let fits : down_length k ≤ length (down_bytes s ++ []) = omega (arith, long, length-append (down_bytes s) []) in
    sym ((down-kept k).same (down_bytes s ++ []) fits) ∙ ap kept_of_down (whole [])

pub downs_same : (j k : KeptDown) (s t : Down) → DownKeeps j s → DownKeeps k t → j ≡ k → down_bytes s ≡ down_bytes t → s ≡ t
downs_same j k s t one two alike bytes =
    sym (one []) ∙ (ap₂ (λ (n : KeptDown) (b : List ℕ). down_in n (b ++ [])) alike bytes ∙ two [])

pub downs_kept : (j k : KeptDown) (s t : Down) → DownKeeps j s → down_length j ≡ length (down_bytes s) → DownKeeps k t → down_length k ≡ length (down_bytes t) → s ≡ t → j ≡ k
downs_kept j k s t one long two also same = down-kept-is j s one long ∙ (ap kept_of_down same ∙ sym (down-kept-is k t two also))

-- a signal up is this, with these numbers
abbrev pub UpKeeps : KeptUp → Up → Type 0
UpKeeps k s = (rest : List ℕ) → up_in k (up_bytes s ++ rest) ≡ s

up-kept-is : (k : KeptUp) (s : Up) → UpKeeps k s → up_length k ≡ length (up_bytes s) → k ≡ kept_of_up s
up-kept-is k s whole long =
    let fits : up_length k ≤ length (up_bytes s ++ []) = omega (arith, long, length-append (up_bytes s) []) in
    sym ((up-kept k).same (up_bytes s ++ []) fits) ∙ ap kept_of_up (whole [])

pub ups_same : (j k : KeptUp) (s t : Up) → UpKeeps j s → UpKeeps k t → j ≡ k → up_bytes s ≡ up_bytes t → s ≡ t
ups_same j k s t one two alike bytes =
    sym (one []) ∙ (ap₂ (λ (n : KeptUp) (b : List ℕ). up_in n (b ++ [])) alike bytes ∙ two [])

pub ups_kept : (j k : KeptUp) (s t : Up) → UpKeeps j s → up_length j ≡ length (up_bytes s) → UpKeeps k t → up_length k ≡ length (up_bytes t) → s ≡ t → j ≡ k
ups_kept j k s t one long two also same = up-kept-is j s one long ∙ (ap kept_of_up same ∙ sym (up-kept-is k t two also))
