-- The events of a run and their answers, as they grow at their end.
use Rattle.std.proofs.Common.{◌≡◌, refl, sym, ◌∙◌, ap, subst, ℕ, ◌+◌, ◌<◌, Result, Ok, Err, List, [], ◌∷◌, ◌++◌, length, take, slice_index_or, append_assoc, inl, inr}
use Rattle.std.proofs.lemmas.List.{take_more, append-nil}
use Rattle.std.specs.Prelude.{IfOk, IfErr, OnErr, ◌⊎◌}
use Rattle.path_select.specs.Choice.{Rule}
use Rattle.chan_events.specs.Events.{Event}
use Rattle.chan_model.specs.declared.fault.Fault.{Fault}
use Rattle.chan_model.specs.declared.fault.Fault.TheVariants.{NoMemory}
use Rattle.chan_events.specs.declared.reply.Entry.{Entry}
use Rattle.chan_events.specs.Replies.{Reply}
use Rattle.machine_model.specs.Ruled.{GoesByRule}
use Rattle.machine_model.specs.State.{State, Past, IsAsBefore}
use Rattle.machine_model.specs.Steps.{Step, IsRefused, Performs}
use Rattle.machine_model.specs.Answering.{Answered, HasAnswered, accepted_entries}

answered-more : (picks : Rule) (old middle new : State) (events : List Event) (answers : List (Result Reply Fault)) (e : Event) (a : Result Reply Fault) →
    Answered picks old events answers middle → Performs middle e a new → GoesByRule picks middle e a new →
    Answered picks old (events ++ e ∷ []) (answers ++ a ∷ []) new
answered-more picks old middle new [] [] e a done p q =
    (new, subst (λ (s : State). Performs s e a new) done p, subst (λ (s : State). GoesByRule picks s e a new) done q, refl)
answered-more picks old middle new [] (b ∷ answers) e a done p q = absurd done
answered-more picks old middle new (f ∷ events) [] e a done p q = absurd done
answered-more picks old middle new (f ∷ events) (b ∷ answers) e a done p q =
    (done.0, done.1, done.2, answered-more picks done.0 middle new events answers e a done.3 p q)

accepted-more : (picks : Rule) (old middle : State) (events : List Event) (answers : List (Result Reply Fault)) (e : Event) (a : Result Reply Fault) →
    Answered picks old events answers middle → accepted_entries (events ++ e ∷ []) (answers ++ a ∷ []) ≡ accepted_entries events answers ++ accepted_entries (e ∷ []) (a ∷ [])
accepted-more picks old middle [] [] e a done = refl
accepted-more picks old middle [] (b ∷ answers) e a done = absurd done
accepted-more picks old middle (f ∷ events) [] e a done = absurd done
accepted-more picks old middle (f ∷ events) (Ok r ∷ answers) e a done =
    ap (λ (es : List Entry). record { event = f; reply = r } ∷ es) (accepted-more picks done.0 middle events answers e a done.3)
accepted-more picks old middle (f ∷ events) (Err x ∷ answers) e a done = accepted-more picks done.0 middle events answers e a done.3

-- one call that was no want of memory
performs-one : (old new : Past) (e : Event) (a : Result Reply Fault) → IfOk a (λ r. Step old.state e r new.state) →
    OnErr a (IsAsBefore old new) → IfErr a (λ f. (f ≡ NoMemory) ⊎ IsRefused old.state e f) → ¬ (a ≡ Err NoMemory) → Performs old.state e a new.state
performs-one old new e (Ok r) step same refusal other = step
performs-one old new e (Err f) step same refusal other =
    elim refusal [
      | inl x ↦ absurd (other (ap (λ (g : Fault). Err g) x))
      | inr x ↦ (x, same.state)
    ]

history-one : (old new : Past) (e : Event) (a : Result Reply Fault) → IfOk a (λ r. new.history ≡ old.history ++ record { event = e; reply = r } ∷ []) →
    OnErr a (IsAsBefore old new) → new.history ≡ old.history ++ accepted_entries (e ∷ []) (a ∷ [])
history-one old new e (Ok r) more same = more
history-one old new e (Err f) more same = same.history ∙ sym (append-nil old.history)

pub has-more : (picks : Rule) (first old new : Past) (events : List Event) (i : ℕ) (e d : Event) (answers more : List (Result Reply Fault)) (a : Result Reply Fault) → i < length events →
    e ≡ slice_index_or events i d → HasAnswered picks first (take i events) answers old → IfOk a (λ r. Step old.state e r new.state) →
    IfOk a (λ r. new.history ≡ old.history ++ record { event = e; reply = r } ∷ []) → (¬ (a ≡ Err NoMemory) → GoesByRule picks old.state e a new.state) →
    OnErr a (IsAsBefore old new) → IfErr a (λ f. (f ≡ NoMemory) ⊎ IsRefused old.state e f) → ¬ (a ≡ Err NoMemory) → more ≡ answers ++ a ∷ [] →
    HasAnswered picks first (take (i + 1) events) more new
has-more picks first old new events i e d answers more a within there done step grew ruled same refusal other pushed =
    let longer : take i events ++ e ∷ [] ≡ take (i + 1) events =
    ap (λ (x : Event). take i events ++ x ∷ []) there ∙ sym (take_more events i d within) in
    let answered : Answered picks first.state (take (i + 1) events) more new.state =
    subst (λ (xs : List (Result Reply Fault)). Answered picks first.state (take (i + 1) events) xs new.state) (sym pushed)
    (subst (λ (es : List Event). Answered picks first.state es (answers ++ a ∷ []) new.state) longer
    (answered-more picks first.state old.state new.state (take i events) answers e a done.answered (performs-one old new e a step same refusal other)
    (ruled other))) in
    record {
      answered = answered;
      history =
          history-one old new e a grew same
          ∙ (ap (λ (h : List Entry). h ++ accepted_entries (e ∷ []) (a ∷ [])) done.history
          ∙ (append_assoc first.history (accepted_entries (take i events) answers) (accepted_entries (e ∷ []) (a ∷ []))
          ∙ ap (λ (h : List Entry). first.history ++ h)
          (sym (accepted-more picks first.state old.state (take i events) answers e a done.answered)
          ∙ (ap (λ (es : List Event). accepted_entries es (answers ++ a ∷ [])) longer ∙ ap (λ (xs : List (Result Reply Fault)). accepted_entries (take (i + 1) events) xs) (sym pushed)))));
    }
