-- Signals that come onto wires and go off them.
use Rattle.std.proofs.Common.{◌≡◌, ◌≢◌, ◌∙◌, ◌<◌, ◌==◌, ◌&&◌, ℕ, zero, suc, true, false, refl, sym, ap, subst, ⊎_elim, eq-eqb, ne_eqb, List, [], ◌∷◌, ◌++◌, append-nil, drop, length, Option, Some}
use Rattle.std.proofs.lemmas.Bool.{cases_eq}
use Rattle.std.proofs.lemmas.List.{get_or-set_other, get_or-set_same}
use Rattle.std.proofs.lemmas.Option.{same_Some}
use Rattle.std.specs.Prelude.{Bool, Result, Ok, Err, IfOk, IsTrue, slice_get, slice_set}
use Rattle.std.specs.declared.alloc.AllocError.{AllocError}
use Rattle.wires.specs.Queues.{first_of, queue, sent, taken}
use Rattle.machine_sight.specs.Waiting.{IsPut, IsPutIn, IsTaken, IsTakenIn, WaitingQueues, same_way, same_wire, signal_where, waits_at, waits_in}
use Rattle.step_records.specs.declared.record.Signal.{Signal}
use Rattle.step_records.specs.declared.record.Way.{Way}
use Rattle.step_records.specs.declared.record.Way.TheVariants.{Down, Up}
use Rattle.step_records.specs.declared.record.Wire.{Wire}

-- at the same index, and at another
eq-same : (i : ℕ) → (i == i) ≡ true
eq-same i = eq-eqb i i refl

eq-other : (i p : ℕ) → p ≢ i → (i == p) ≡ false
eq-other i p n = ne_eqb i p (λ e. n (sym e))

-- a signal is sent on one path
put-at : (qs : List (List Signal)) (i : ℕ) (s : Signal) → i < length qs → (p : ℕ) → queue (sent qs i s) p ≡ queue qs p ++ signal_where (i == p) s
put-at qs i s b p =
    let old = queue qs i in
    let same : queue (sent qs i s) i ≡ queue qs i ++ signal_where (i == i) s =
    get_or-set_same qs i (old ++ s ∷ []) [] b ∙ ap (λ c. old ++ signal_where c s) (sym (eq-same i)) in
    ⊎_elim
    (λ (e : p ≡ i). subst (λ k. queue (sent qs i s) k ≡ queue qs k ++ signal_where (i == k) s) (sym e) same)
    (λ (n : p ≢ i). get_or-set_other qs i p (old ++ s ∷ []) [] n ∙ (sym (append-nil (queue qs p)) ∙ ap (λ c. queue qs p ++ signal_where c s) (sym (eq-other i p n))))
    (cases_eq p i)

-- the first signal, and then the others
first-then : (q : List Signal) (s : Signal) → slice_get q 0 ≡ Some s → q ≡ s ∷ drop 1 q
first-then [] s e = absurd (cc e)
first-then (x ∷ xs) s e = ap (λ y. y ∷ xs) (same_Some x s e)

-- the first signal on one path is taken
take-at : (qs : List (List Signal)) (i : ℕ) (s : Signal) → i < length qs → first_of qs i ≡ Some s → (p : ℕ) →
    queue qs p ≡ signal_where (i == p) s ++ queue (taken qs i) p
take-at qs i s b e p =
    let old = queue qs i in
    let same : queue qs i ≡ signal_where (i == i) s ++ queue (taken qs i) i =
    first-then old s e ∙ (ap (λ q. s ∷ q) (sym (get_or-set_same qs i (drop 1 old) [] b))
    ∙ ap (λ c. signal_where c s ++ queue (taken qs i) i) (sym (eq-same i))) in
    ⊎_elim
    (λ (e : p ≡ i). subst (λ k. queue qs k ≡ signal_where (i == k) s ++ queue (taken qs i) k) (sym e) same)
    (λ (n : p ≢ i). sym (get_or-set_other qs i p (drop 1 old) [] n) ∙ ap (λ c. signal_where c s ++ queue (taken qs i) p) (sym (eq-other i p n)))
    (cases_eq p i)

pub puts_down : (old new : WaitingQueues) (path : ℕ) (s : Signal) → path < length old.down → new.down ≡ sent old.down path s → new.up ≡ old.up →
    (w : Way) (p : ℕ) → waits_in new w p ≡ waits_in old w p ++ signal_where (same_way Down w && (path == p)) s
puts_down old new path s b is same Down p = ap (λ qs. queue qs p) is ∙ put-at old.down path s b p
puts_down old new path s b is same Up p = ap (λ qs. queue qs p) same ∙ sym (append-nil (queue old.up p))

pub puts_up : (old new : WaitingQueues) (path : ℕ) (s : Signal) → path < length old.up → new.up ≡ sent old.up path s → new.down ≡ old.down →
    (w : Way) (p : ℕ) → waits_in new w p ≡ waits_in old w p ++ signal_where (same_way Up w && (path == p)) s
puts_up old new path s b is same Down p = ap (λ qs. queue qs p) same ∙ sym (append-nil (queue old.down p))
puts_up old new path s b is same Up p = ap (λ qs. queue qs p) is ∙ put-at old.up path s b p

pub takes_down : (old new : WaitingQueues) (path : ℕ) (s : Signal) → path < length old.down → first_of old.down path ≡ Some s → new.down ≡ taken old.down path → new.up ≡ old.up →
    (w : Way) (p : ℕ) → waits_in old w p ≡ signal_where (same_way Down w && (path == p)) s ++ waits_in new w p
takes_down old new path s b e is same Down p =
    take-at old.down path s b e p ∙ ap (λ qs. signal_where (path == p) s ++ queue qs p) (sym is)
takes_down old new path s b e is same Up p = ap (λ qs. queue qs p) (sym same)

pub takes_up : (old new : WaitingQueues) (path : ℕ) (s : Signal) → path < length old.up → first_of old.up path ≡ Some s → new.up ≡ taken old.up path → new.down ≡ old.down →
    (w : Way) (p : ℕ) → waits_in old w p ≡ signal_where (same_way Up w && (path == p)) s ++ waits_in new w p
takes_up old new path s b e is same Down p = ap (λ qs. queue qs p) (sym same)
takes_up old new path s b e is same Up p =
    take-at old.up path s b e p ∙ ap (λ qs. signal_where (path == p) s ++ queue qs p) (sym is)

-- an element is set at its index, and no other is
set-at : (ws : List WaitingQueues) (i : ℕ) (w v : WaitingQueues) → slice_get ws i ≡ Some w → slice_get (slice_set ws i v) i ≡ Some v
set-at [] i w v e = absurd (cc e)
set-at (u ∷ ws) zero w v e = refl
set-at (u ∷ ws) (suc i) w v e = set-at ws i w v e

set-other : (ws : List WaitingQueues) (i : ℕ) (v : WaitingQueues) (n : ℕ) → n ≢ i → slice_get (slice_set ws i v) n ≡ slice_get ws n
set-other [] i v n h = refl
set-other (u ∷ ws) zero v zero h = absurd (h refl)
set-other (u ∷ ws) zero v (suc n) h = refl
set-other (u ∷ ws) (suc i) v zero h = refl
set-other (u ∷ ws) (suc i) v (suc n) h = set-other ws i v n (λ e. h (ap suc e))

-- one subchannel's signal is one of all
put-on : (ws : List WaitingQueues) (i : ℕ) (w v : WaitingQueues) (way : Way) (path : ℕ) (s : Signal) → slice_get ws i ≡ Some w → IsPutIn w way path s v →
    (n : ℕ) (x : Way) (p : ℕ) →
    waits_at (slice_get (slice_set ws i v) n) x p ≡ waits_at (slice_get ws n) x p ++ signal_where ((i == n) && (same_way way x && (path == p))) s
put-on ws i w v way path s e h n x p =
    let new = slice_set ws i v in
    let same : waits_at (slice_get new i) x p ≡ waits_at (slice_get ws i) x p ++ signal_where ((i == i) && (same_way way x && (path == p))) s =
    ap (λ (o : Option WaitingQueues). waits_at o x p) (set-at ws i w v e)
    ∙ (h x p
    ∙ (ap (λ (o : Option WaitingQueues). waits_at o x p ++ signal_where (same_way way x && (path == p)) s) (sym e)
    ∙ ap (λ c. waits_at (slice_get ws i) x p ++ signal_where (c && (same_way way x && (path == p))) s) (sym (eq-same i)))) in
    ⊎_elim
    (λ (k : n ≡ i). subst (λ m. waits_at (slice_get new m) x p ≡ waits_at (slice_get ws m) x p ++ signal_where ((i == m) && (same_way way x && (path == p))) s) (sym k) same)
    (λ (k : n ≢ i). ap (λ (o : Option WaitingQueues). waits_at o x p) (set-other ws i v n k)
    ∙ (sym (append-nil (waits_at (slice_get ws n) x p))
    ∙ ap (λ c. waits_at (slice_get ws n) x p ++ signal_where (c && (same_way way x && (path == p))) s) (sym (eq-other i n k))))
    (cases_eq n i)

take-on : (ws : List WaitingQueues) (i : ℕ) (w v : WaitingQueues) (way : Way) (path : ℕ) (s : Signal) → slice_get ws i ≡ Some w → IsTakenIn w way path s v →
    (n : ℕ) (x : Way) (p : ℕ) →
    waits_at (slice_get ws n) x p ≡ signal_where ((i == n) && (same_way way x && (path == p))) s ++ waits_at (slice_get (slice_set ws i v) n) x p
take-on ws i w v way path s e h n x p =
    let new = slice_set ws i v in
    let same : waits_at (slice_get ws i) x p ≡ signal_where ((i == i) && (same_way way x && (path == p))) s ++ waits_at (slice_get new i) x p =
    ap (λ (o : Option WaitingQueues). waits_at o x p) e
    ∙ (h x p
    ∙ (ap (λ (o : Option WaitingQueues). signal_where (same_way way x && (path == p)) s ++ waits_at o x p) (sym (set-at ws i w v e))
    ∙ ap (λ c. signal_where (c && (same_way way x && (path == p))) s ++ waits_at (slice_get new i) x p) (sym (eq-same i)))) in
    ⊎_elim
    (λ (k : n ≡ i). subst (λ m. waits_at (slice_get ws m) x p ≡ signal_where ((i == m) && (same_way way x && (path == p))) s ++ waits_at (slice_get new m) x p) (sym k) same)
    (λ (k : n ≢ i). ap (λ (o : Option WaitingQueues). waits_at o x p) (sym (set-other ws i v n k))
    ∙ ap (λ c. signal_where (c && (same_way way x && (path == p))) s ++ waits_at (slice_get new n) x p) (sym (eq-other i n k)))
    (cases_eq n i)

pub is_put : (old new : List WaitingQueues) (wire : Wire) (w v : WaitingQueues) (s : Signal) → slice_get old wire.subchannel ≡ Some w →
    IsPutIn w wire.way wire.path s v → new ≡ slice_set old wire.subchannel v → IsPut old wire s new
is_put old new wire w v s e h is = λ on.
    ap (λ ws. waits_at (slice_get ws on.subchannel) on.way on.path) is
    ∙ put-on old wire.subchannel w v wire.way wire.path s e h on.subchannel on.way on.path

pub is_taken : (old new : List WaitingQueues) (wire : Wire) (w v : WaitingQueues) (s : Signal) → slice_get old wire.subchannel ≡ Some w →
    IsTakenIn w wire.way wire.path s v → new ≡ slice_set old wire.subchannel v → IsTaken old wire s new
is_taken old new wire w v s e h is = λ on.
    take-on old wire.subchannel w v wire.way wire.path s e h on.subchannel on.way on.path
    ∙ ap (λ ws. signal_where (same_wire wire on) s ++ waits_at (slice_get ws on.subchannel) on.way on.path) (sym is)

-- an answer that a signal was put in one subchannel is one that it was put
pub put_then : (r : Result Bool AllocError) (old new : List WaitingQueues) (wire : Wire) (w v : WaitingQueues) (s : Signal) →
    IfOk r (λ put. IsTrue put → IsPutIn w wire.way wire.path s v) → slice_get old wire.subchannel ≡ Some w → new ≡ slice_set old wire.subchannel v →
    IfOk r (λ put. IsTrue put → IsPut old wire s new)
put_then (Ok b) old new wire w v s h e is = λ t. is_put old new wire w v s e (h t) is
put_then (Err x) old new wire w v s h e is = h
