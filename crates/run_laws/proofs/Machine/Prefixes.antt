-- The first entries of a run are a run.
use Rattle.std.proofs.Common.{◌≡◌, refl, sym, subst, ℕ, ◌+◌, ◌<◌, Bool, true, false, nat_lt, List, [], ◌∷◌, ◌++◌, length, take, arith, length-append, take_all}
use Rattle.std.proofs.lemmas.Bool.{ltb-true, ltb-false}
use Rattle.std.proofs.lemmas.List.{take-append-le, take_at}
use Rattle.chan_events.specs.declared.reply.Entry.{Entry}
use Rattle.machine_model.specs.State.{State}
use Rattle.machine_model.specs.Steps.{Run, Opened, Stepped}

-- these entries lead to some state
abbrev LeadsOn : State → List Entry → Type 0
LeadsOn opening h = (s : State) × Run opening h s

-- so many entries, of an entry more
more-first : (opening : State) (h : List Entry) (x : Entry) (n : ℕ) (all : Bool) → nat_lt (length h) n ≡ all → LeadsOn opening (h ++ x ∷ []) → LeadsOn opening (take n h) →
    LeadsOn opening (take n (h ++ x ∷ []))
more-first opening h x n true e whole first =
    let lt : length h < n = ltb-true (length h) n e in
    let long : length (h ++ x ∷ []) ≡ length h + length (x ∷ []) = length-append h (x ∷ []) in
    subst (LeadsOn opening) (sym (take_all n (h ++ x ∷ []) (omega (arith, lt, long)))) whole
more-first opening h x n false e whole first = subst (LeadsOn opening) (sym (take-append-le n h (x ∷ []) (ltb-false (length h) n e))) first

first-of : (opening : State) (n : ℕ) (h : List Entry) (s : State) → Run opening h s → LeadsOn opening (take n h)
first-of opening n _ _ Opened = subst (LeadsOn opening) (sym (take_all n [] (omega arith))) (opening, Opened)
first-of opening n _ _ (Stepped h old e r new run step) =
    more-first opening h (record { event = e; reply = r }) n (nat_lt (length h) n) refl (new, Stepped h old e r new run step) (first-of opening n h old run)

pub run-first : (opening : State) (a b : List Entry) (s : State) → Run opening (a ++ b) s → (mid : State) × Run opening a mid
run-first opening a b s run = subst (LeadsOn opening) (take_at a b (length a) refl) (first-of opening (length a) (a ++ b) s run)
