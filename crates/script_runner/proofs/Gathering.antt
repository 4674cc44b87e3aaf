-- CPUs that race, one after another.
use Rattle.std.proofs.Common.{◌≡◌, ◌≤◌, ◌<◌, ℕ, ◌+◌, ◌*◌, List, [], ◌∷◌, ◌++◌, length, refl, sym, ap, subst, ◌∙◌, append_assoc, arith}
use Rattle.core_lock.specs.Seats.{HeldSeat, Locked}
use Rattle.script_runner.specs.declared.tally.Tally.{Tally}
use Rattle.script_runner.specs.Race.{plus, IsBelow, Runner, AreReady, total_after, seats_of}

ready_more : (n : ℕ) (rs : List Runner) (r : Runner) → AreReady n rs → r.cpu ≡ n + length rs → r.seat.value.log ≡ [] → AreReady n (rs ++ r ∷ [])
ready_more n [] r h is none =
    let sum : n + 0 ≡ n = omega arith in
    (is ∙ sum, none, tt)
ready_more n (x ∷ rs) r h is none =
    let sum : n + length (x ∷ rs) ≡ n + 1 + length rs = omega arith in
    (h.0, h.1, ready_more (n + 1) rs r h.2 (is ∙ sum) none)

total-last : (t : Tally) (rs : List Runner) (r : Runner) → total_after t (rs ++ r ∷ []) ≡ total_after (plus t r.tally) rs
total-last t [] r = refl
total-last t (x ∷ rs) r = ap (λ (s : Tally). plus s x.tally) (total-last t rs r)

seats-last : (rs : List Runner) (r : Runner) → seats_of (rs ++ r ∷ []) ≡ r.seat ∷ seats_of rs
seats-last [] r = refl
seats-last (x ∷ rs) r = ap (λ (l : List HeldSeat). l ++ x.seat ∷ []) (seats-last rs r)

-- one CPU more is taken from the end
pub total_taken : (t next all : Tally) (rs old : List Runner) (r : Runner) → old ≡ rs ++ r ∷ [] → next ≡ plus t r.tally → total_after t old ≡ all → total_after next rs ≡ all
total_taken t next all rs old r is sum h =
    ap (λ (s : Tally). total_after s rs) sum ∙ sym (total-last t rs r) ∙ ap (λ (l : List Runner). total_after t l) (sym is) ∙ h

pub seats_taken : (seats after all : List HeldSeat) (rs old : List Runner) (r : Runner) → old ≡ rs ++ r ∷ [] → after ≡ seats ++ r.seat ∷ [] → seats ++ seats_of old ≡ all → after ++ seats_of rs ≡ all
seats_taken seats after all rs old r is grown h =
    ap (λ (l : List HeldSeat). l ++ seats_of rs) grown
    ∙ append_assoc seats (r.seat ∷ []) (seats_of rs)
    ∙ ap (λ (l : List HeldSeat). seats ++ l) (sym (seats-last rs r))
    ∙ ap (λ (l : List Runner). seats ++ seats_of l) (sym is)
    ∙ h

-- what a CPU counted is added
pub codes_added : (t u v : Tally) (limit : ℕ) → v ≡ plus t u → t.zero + t.one + t.two + t.three ≤ t.entries → IsBelow limit u → v.zero + v.one + v.two + v.three ≤ v.entries
codes_added t u v limit is h below = subst (λ (x : Tally). x.zero + x.one + x.two + x.three ≤ x.entries) (sym is) (omega arith)

pub entries_added : (t u v : Tally) (n m : ℕ) → v ≡ plus t u → t.entries + 4294967296 * n ≤ 68719476736 → n ≡ m + 1 → IsBelow 4294967296 u → v.entries + 4294967296 * m ≤ 68719476736
entries_added t u v n m is h one below =
    subst (λ (x : Tally). x.entries + 4294967296 * m ≤ 68719476736) (sym is) (fits t.entries u.entries m n h one below.1)
  where
    fits : (e f m n : ℕ) → e + 4294967296 * n ≤ 68719476736 → n ≡ m + 1 → f < 4294967296 → e + f + 4294967296 * m ≤ 68719476736
    fits e f m n x y z = omega arith

pub seated_more : (old middle new : Locked) (n : ℕ) → middle ≡ record old { seats = old.seats + n } → new ≡ record middle { seats = middle.seats + 1 } → new ≡ record old { seats = old.seats + (n + 1) }
seated_more old middle new n is more =
    more ∙ ap (λ (l : Locked). record l { seats = l.seats + 1 }) is ∙ ap (λ (k : ℕ). record old { seats = k }) (sum old.seats n)
  where
    sum : (a b : ℕ) → a + b + 1 ≡ a + (b + 1)
    sum a b = omega arith

pub ready_next : (rs all : List Runner) (r : Runner) (n : ℕ) → AreReady 0 rs → length rs ≡ n → r.cpu ≡ n → r.seat.value.log ≡ [] → all ≡ rs ++ r ∷ [] → AreReady 0 all
ready_next rs all r n h len is none grown =
    let zero : n ≡ 0 + n = omega arith in
    subst (AreReady 0) (sym grown) (ready_more 0 rs r h (is ∙ zero ∙ ap (λ (k : ℕ). 0 + k) (sym len)) none)
