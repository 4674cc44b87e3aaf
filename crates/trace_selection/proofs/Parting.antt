-- The words of a line, one by one, and what its action is about.
use Rattle.std.proofs.Common.{◌≡◌, ℕ, ◌+◌, ◌-◌, ◌<◌, ◌≤◌, List, [], ◌∷◌, ◌++◌, take, drop, get_or, length, map, refl, sym, ap, ◌∙◌, arith}
use Rattle.std.proofs.lemmas.List.{drop_all, drop_more, length-map, take_all}
use lib.Seq.{take-append_seam}
use Rattle.script.proofs.Parting.{cut, ended, left, parted, whole}
use Rattle.script.specs.Pieces.{words_between_blanks}
use Rattle.chan_events.specs.declared.event.Event.{Event}
use Rattle.chan_events.specs.declared.event.Event.TheVariants as event
use Rattle.chan_events.specs.Events.{map_event}
use Rattle.trace_selection.specs.Subjects.{subject_of_event}

-- what an event is about is told without its bytes
pub same_subject : {A B R S : Type 0} → (f : A → B) (g : R → S) (asked : Event A R) → subject_of_event (map_event f g asked) ≡ subject_of_event asked
same_subject f g (event.Put address bytes) = refl
same_subject f g (event.SetKey address key) = refl
same_subject f g (event.SetPrefix cpu address) = refl
same_subject f g (event.Show address length) = refl
same_subject f g (event.Execute cpu instruction) = refl
same_subject f g (event.ExecuteOther cpu instruction) = refl
same_subject f g (event.Choose subchannel) = refl
same_subject f g (event.Up subchannel path) = refl
same_subject f g (event.Down subchannel path) = refl
same_subject f g (event.Report unit report) = refl
same_subject f g (event.Act unit act) = refl
same_subject f g (event.Restart unit) = refl
same_subject f g (event.PathDown chpid) = refl
same_subject f g (event.PathUp chpid) = refl
same_subject f g (event.PathReset chpid) = refl
same_subject f g event.SystemReset = refl

-- the last word of a line
pub last_word : {A : Type 0} (f : A → List ℕ) (items new : List A) (x : A) (k : ℕ) (rest line : List ℕ) → new ≡ items ++ x ∷ [] → f x ≡ take k rest
    → map f items ++ words_between_blanks rest ≡ words_between_blanks line → length rest ≤ k → ((j : ℕ) → j < k → get_or rest j 0 ≡ 32 → ⊥) → length new ≤ 8
    → map f new ≡ take 8 (words_between_blanks line)
last_word f items new x k rest line grown is parts all before few =
    sym (take_all 8 (map f new) (omega (arith, length-map new f, few)))
    ∙ ap (take 8) (ended f items new x 32 k rest line grown is parts (whole 32 rest k before (drop_all k rest all)))

-- a word more, and what stands behind its blank
pub next_word : {A : Type 0} (f : A → List ℕ) (items new : List A) (x : A) (k : ℕ) (rest line : List ℕ) → new ≡ items ++ x ∷ [] → f x ≡ take k rest
    → map f items ++ words_between_blanks rest ≡ words_between_blanks line → k < length rest → ((j : ℕ) → j < k → get_or rest j 0 ≡ 32 → ⊥)
    → (k < length rest → get_or rest k 0 ≡ 32)
    → map f new ++ words_between_blanks (take (length rest - (k + 1)) (drop (k + 1) rest)) ≡ words_between_blanks line
next_word f items new x k rest line grown is parts within before found =
    ap (λ (t : List ℕ). map f new ++ words_between_blanks t) (left rest (k + 1))
    ∙ parted f items new x 32 k rest (drop (k + 1) rest) line grown is parts
    (cut 32 rest k (get_or rest k 0) (drop (k + 1) rest) before found (drop_more rest k 0 within))

-- eight words, and more behind them
pub eight_words : {A : Type 0} (f : A → List ℕ) (items : List A) (rest line : List ℕ) → map f items ++ words_between_blanks rest ≡ words_between_blanks line
    → length items ≡ 8 → map f items ≡ take 8 (words_between_blanks line)
eight_words f items rest line parts full =
    let long : length (map f items) ≡ 8 = length-map items f ∙ full in
    sym (ap (take 8) (sym parts) ∙ ap (λ (n : ℕ). take n (map f items ++ words_between_blanks rest)) (sym long) ∙ take-append_seam (map f items) (words_between_blanks rest))
