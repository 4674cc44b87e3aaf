-- Events that are counted, where the others change no subchannel and no unit.
use Rattle.std.proofs.Common.{◌≡◌, refl, ◌∙◌, ap, ℕ, ◌+◌, Bool, true, false, not, cond, List, [], ◌∷◌, ◌++◌, length, arith}
use Rattle.std.specs.Prelude.{count_by}
use Rattle.std.proofs.lemmas.List.Sums.{sum_by-cons, sum_by_push}
use Rattle.chan_events.specs.Events.{Event}
use Rattle.chan_events.specs.declared.reply.Entry.{Entry}
use Rattle.chan_events.specs.Replies.{Reply}
use Rattle.machine_model.specs.State.{State}
use Rattle.machine_model.specs.Steps.{Step}
use Rattle.run_laws.specs.Stores.{is_store}
use Rattle.step_laws.proofs.Results as turn
use Rattle.step_laws.proofs.Results.{ResultOf, HasResult, step-turn}

abbrev pub Spares : (Event → Bool) → Type 0
Spares counted = (s : State) (e : Event) (r : Reply) (new : State) → Step s e r new → counted e ≡ false → (new.subs ≡ s.subs) × (new.units ≡ s.units)

-- how many of these entries are of events that are counted
abbrev pub counted-in : (Event → Bool) → List Entry → ℕ
counted-in counted h = count_by (λ entry. counted entry.event) h

pub one-more : (counted : Event → Bool) (h : List Entry) (e : Event) (r : Reply) →
    counted-in counted (h ++ record { event = e; reply = r } ∷ []) ≡ counted-in counted h + cond (counted e) 1 0
one-more counted h e r = sum_by_push (λ (x : Entry). cond (counted x.event) 1 0) h (record { event = e; reply = r })

-- each event
abbrev pub every : Event → Bool
every e = true

pub every-spares : Spares every
every-spares s e r new step is = absurd (cc is)

pub every-counted : (h : List Entry) → counted-in every h ≡ length h
every-counted [] = refl
every-counted (x ∷ h) =
    let rest = every-counted h in
    sum_by-cons (λ (y : Entry). cond (every y.event) 1 0) x h ∙ omega arith

-- each that is no store
abbrev pub other : Event → Bool
other e = not (is_store e)

turn-spares : (s : State) (e : Event) (r : Reply) (left : State) → ResultOf s e r left → other e ≡ false → (left.subs ≡ s.subs) × (left.units ≡ s.units)
turn-spares s _ _ _ (turn.Puts address bytes storage k) is = (refl, refl)
turn-spares s _ _ _ (turn.SetsKey address key storage k) is = (refl, refl)
turn-spares s _ _ _ (turn.SetsPrefix cpu address storage k) is = (refl, refl)
turn-spares s _ _ _ (turn.Shows address count bytes k) is = absurd (cc is)
turn-spares s _ _ _ (turn.Executes cpu i id q r storage subs n e k left d) is = absurd (cc is)
turn-spares s _ _ _ (turn.Interrupts cpu mask address) is = absurd (cc is)
turn-spares s _ _ _ (turn.AsksReset cpu path) is = absurd (cc is)
turn-spares s _ _ _ (turn.StoresReport cpu address) is = absurd (cc is)
turn-spares s _ _ _ (turn.StoresPaths cpu address) is = absurd (cc is)
turn-spares s _ _ _ (turn.Chosen word index sub choice t n k c h) is = absurd (cc is)
turn-spares s _ _ _ (turn.Meets word path index sub t n k h) is = absurd (cc is)
turn-spares s _ _ _ (turn.Takes word path index sub u t n k f h) is = absurd (cc is)
turn-spares s _ _ _ (turn.Reports at index sub u report t f n k h) is = absurd (cc is)
turn-spares s _ _ _ (turn.Acts at index sub u what side t f its n k h) is = absurd (cc is)
turn-spares s _ _ _ (turn.Restarts at u f) is = absurd (cc is)
turn-spares s _ _ _ (turn.GoesDown chpid) is = absurd (cc is)
turn-spares s _ _ _ (turn.ComesUp chpid) is = absurd (cc is)
turn-spares s _ _ _ (turn.IsReset chpid asked) is = absurd (cc is)
turn-spares s _ _ _ turn.ResetsAll is = absurd (cc is)

pub other-spares : Spares other
other-spares s e r new step is =
    let done : HasResult s e r new = step-turn s e r new step in
    let same = turn-spares s e r done.left done.turn is in
    (ap (λ (x : State). x.subs) done.settles ∙ same.0, ap (λ (x : State). x.units) done.settles ∙ same.1)
