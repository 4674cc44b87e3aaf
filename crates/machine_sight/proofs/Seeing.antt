-- Lists that grow by one in each turn of a look.
use Rattle.std.proofs.Common.{◌≡◌, ◌≢◌, ◌∙◌, ◌<◌, ◌≤◌, ◌+◌, ◌↔◌, ℕ, zero, suc, refl, sym, ap, subst, ⊎_elim, arith, Option, List, [], ◌∷◌, ◌++◌, length, map, take}
use Rattle.std.proofs.lemmas.Bool.{cases_eq}
use Rattle.std.proofs.lemmas.List.{length-append, map_push, take_all, take_more}
use Rattle.std.proofs.lemmas.Option.{get_or_from_slice_get, same_Some, slice_get_within}
use Rattle.std.specs.Prelude.{slice_get, slice_set, None, Some}
use Rattle.chan_model.specs.Signals.{Down, Up}
use Rattle.channel_config.specs.declared.parts.SubchannelSetup.{SubchannelSetup}
use Rattle.functions.specs.Unwired.{Unwired}
use Rattle.subchannel_model.specs.declared.state.Subchannel.{Subchannel}
use Rattle.machine_model.specs.State.{State, sub_of}
use Rattle.machine_sight.specs.Shown.{ShowsEach, ShowsNamed, TellsWaiting, TellsWires, TellsWord, told_on}
use Rattle.machine_sight.specs.Waiting.{WaitingQueues, waits_at}
use Rattle.step_records.specs.Named.{word_of}
use Rattle.step_records.specs.declared.record.Signal.TheVariants as signal

-- the first elements with one more
pub taken-more : {A : Type 0} (xs : List A) (i : ℕ) (x : A) → slice_get xs i ≡ Some x → take (i + 1) xs ≡ take i xs ++ x ∷ []
taken-more xs i x there =
    take_more xs i x (slice_get_within xs i x there)
    ∙ ap (λ y. take i xs ++ y ∷ []) (get_or_from_slice_get xs i x x there)

-- the same where each is told by another
pub told-more : {A B : Type 0} (f : A → B) (xs : List A) (i : ℕ) (x : A) (old new : List B) (y : B) → old ≡ map f (take i xs) →
    slice_get xs i ≡ Some x → y ≡ f x → new ≡ old ++ y ∷ [] → new ≡ map f (take (i + 1) xs)
told-more f xs i x old new y was there is pushed =
    pushed
    ∙ ap (λ ys. ys ++ y ∷ []) was
    ∙ ap (λ z. map f (take i xs) ++ z ∷ []) is
    ∙ sym (map_push f (take i xs) x)
    ∙ ap (map f) (sym (taken-more xs i x there))

-- the same list again, so far as it was compared
pub told-same : {A : Type 0} (xs ys : List A) (i : ℕ) (x : A) → take i xs ≡ take i ys → slice_get xs i ≡ Some x → slice_get ys i ≡ Some x →
    take (i + 1) xs ≡ take (i + 1) ys
told-same xs ys i x so one two = taken-more xs i x one ∙ (ap (λ zs. zs ++ x ∷ []) so ∙ sym (taken-more ys i x two))

-- the same where each is copied
pub units-more : {A : Type 0} (xs : List A) (i : ℕ) (old new : List A) (x : A) → old ≡ take i xs → (y : A) → slice_get xs i ≡ Some y → x ≡ y →
    new ≡ old ++ x ∷ [] → new ≡ take (i + 1) xs
units-more xs i old new x was y there same pushed =
    pushed
    ∙ ap (λ ys. ys ++ x ∷ []) was
    ∙ ap (λ z. take i xs ++ z ∷ []) same
    ∙ sym (taken-more xs i y there)

-- past the last element all are taken
pub past-all : {A : Type 0} (xs : List A) (i : ℕ) → slice_get xs i ≡ None → take i xs ≡ xs
past-all [] i e = take_all i [] (omega arith)
past-all (x ∷ xs) zero e = cc
past-all (x ∷ xs) (suc i) e = ap (λ ys. x ∷ ys) (past-all xs i e)

-- all were compared, and there is no other
pub all-told : {A : Type 0} (xs ys : List A) (n : ℕ) → n ≡ length xs → take n xs ≡ take n ys → slice_get ys (length xs) ≡ None → xs ≡ ys
all-told xs ys n e so none = sym (take_all n xs (omega (arith, e))) ∙ (so ∙ (ap (λ m. take m ys) e ∙ past-all ys (length xs) none))

-- one subchannel more
shown-then : (state : State) (setups : List SubchannelSetup) (sights : List Unwired) (setup : SubchannelSetup) (seen : Unwired) →
    ShowsEach state setups sights → ShowsNamed state setup seen → ShowsEach state (setups ++ setup ∷ []) (sights ++ seen ∷ [])
shown-then state [] [] setup seen each one = (one, _)
shown-then state [] (n ∷ ns) setup seen each one = absurd each
shown-then state (s ∷ ss) [] setup seen each one = absurd each
shown-then state (s ∷ ss) (n ∷ ns) setup seen each one = (each.0, shown-then state ss ns setup seen each.1 one)

pub shown-more : (state : State) (setups : List SubchannelSetup) (i : ℕ) (setup : SubchannelSetup) (old new : List Unwired) (seen : Unwired) →
    ShowsEach state (take i setups) old → slice_get setups i ≡ Some setup → ShowsNamed state setup seen → new ≡ old ++ seen ∷ [] →
    ShowsEach state (take (i + 1) setups) new
shown-more state setups i setup old new seen each there one pushed =
    subst (λ ns. ShowsEach state (take (i + 1) setups) ns) (sym pushed)
    (subst (λ ss. ShowsEach state ss (old ++ seen ∷ [])) (sym (taken-more setups i setup there))
    (shown-then state (take i setups) old setup seen each one))

-- one subchannel more is told
tells-one : (state : State) (setups : List SubchannelSetup) (waiting : List WaitingQueues) (n : ℕ) (setup : SubchannelSetup) (sub : Subchannel) (own : WaitingQueues) →
    slice_get setups n ≡ Some setup → sub_of state (word_of setup.id) ≡ Some sub → slice_get waiting n ≡ Some own → TellsWires sub.wires own →
    (other : SubchannelSetup) → slice_get setups n ≡ Some other → TellsWord state (word_of other.id) waiting n
tells-one state setups waiting n setup sub own here there at tells other is = record {
  sub = sub;
  there = ap (λ (s : SubchannelSetup). sub_of state (word_of s.id)) (same_Some other setup (sym is ∙ here)) ∙ there;
  tells = λ way path small. ap (λ (o : Option WaitingQueues). waits_at o way path) at ∙ tells way path small;
}

pub tells-more : (state : State) (setups : List SubchannelSetup) (waiting : List WaitingQueues) (n : ℕ) (setup : SubchannelSetup) (sub : Subchannel) (own : WaitingQueues) →
    ((i : ℕ) (s : SubchannelSetup) → i < n → slice_get setups i ≡ Some s → TellsWord state (word_of s.id) waiting i) →
    slice_get setups n ≡ Some setup → sub_of state (word_of setup.id) ≡ Some sub → slice_get waiting n ≡ Some own → TellsWires sub.wires own →
    (i : ℕ) (s : SubchannelSetup) → i < n + 1 → slice_get setups i ≡ Some s → TellsWord state (word_of s.id) waiting i
tells-more state setups waiting n setup sub own so here there at tells i s within is =
    ⊎_elim
    (λ (e : i ≡ n). subst (λ m. TellsWord state (word_of s.id) waiting m) (sym e)
    (tells-one state setups waiting n setup sub own here there at tells s (ap (slice_get setups) (sym e) ∙ is)))
    (λ (k : i ≢ n). so i s (omega (arith, within, k)) is)
    (cases_eq i n)

-- signals as they are told, at their indices
pub down_at : (q : List Down) (i : ℕ) (s : Down) → (slice_get q i ≡ Some s) ↔ (slice_get (map (λ t. signal.Down t) q) i ≡ Some (signal.Down s))
down_at [] i s = (λ e. absurd (cc e), λ e. absurd (cc e))
down_at (x ∷ q) zero s = (λ e. ap (λ t. Some (signal.Down t)) (same_Some x s e), λ e. cc e)
down_at (x ∷ q) (suc i) s = down_at q i s

pub up_at : (q : List Up) (i : ℕ) (s : Up) → (slice_get q i ≡ Some s) ↔ (slice_get (map (λ t. signal.Up t) q) i ≡ Some (signal.Up s))
up_at [] i s = (λ e. absurd (cc e), λ e. absurd (cc e))
up_at (x ∷ q) zero s = (λ e. ap (λ t. Some (signal.Up t)) (same_Some x s e), λ e. cc e)
up_at (x ∷ q) (suc i) s = up_at q i s

pub no_up_at : (q : List Down) (i : ℕ) (s : Up) → slice_get (map (λ t. signal.Down t) q) i ≡ Some (signal.Up s) → ⊥
no_up_at [] i s e = absurd (cc e)
no_up_at (x ∷ q) zero s e = absurd (cc e)
no_up_at (x ∷ q) (suc i) s e = no_up_at q i s e

pub no_down_at : (q : List Up) (i : ℕ) (s : Down) → slice_get (map (λ t. signal.Up t) q) i ≡ Some (signal.Down s) → ⊥
no_down_at [] i s e = absurd (cc e)
no_down_at (x ∷ q) zero s e = absurd (cc e)
no_down_at (x ∷ q) (suc i) s e = no_down_at q i s e

-- behind the last element there is none
pub none-past : {A : Type 0} (xs : List A) → slice_get xs (length xs) ≡ None
none-past [] = refl
none-past (x ∷ xs) = none-past xs

-- what was shown is written over or behind
pub shown-at : (state : State) (setups : List SubchannelSetup) (i : ℕ) (setup : SubchannelSetup) (old new : List Unwired) (seen : Unwired) →
    ShowsEach state (take i setups) (take i old) → slice_get setups i ≡ Some setup → ShowsNamed state setup seen → take (i + 1) new ≡ take i old ++ seen ∷ [] →
    ShowsEach state (take (i + 1) setups) (take (i + 1) new)
shown-at state setups i setup old new seen each there one put = shown-more state setups i setup (take i old) (take (i + 1) new) seen each there one put

-- all that were asked for are shown, and no more
pub shown-all : (state : State) (setups : List SubchannelSetup) (n : ℕ) (list : List Unwired) → n ≡ length setups → length list ≤ n →
    ShowsEach state (take n setups) (take n list) → ShowsEach state setups list
shown-all state setups n list e short each =
    subst (λ ss. ShowsEach state ss list) (take_all n setups (omega (arith, e)))
    (subst (λ ls. ShowsEach state (take n setups) ls) (take_all n list short) each)

-- one that is written at an index stands behind those before it
set-taken-suc : {A : Type 0} (xs : List A) (i : ℕ) (x : A) → i < length xs → take (suc i) (slice_set xs i x) ≡ take i xs ++ x ∷ []
set-taken-suc [] i x h = absurd (omega (arith, h))
set-taken-suc (y ∷ xs) zero x h = refl
set-taken-suc (y ∷ xs) (suc i) x h = ap (λ ys. y ∷ ys) (set-taken-suc xs i x (omega (arith, h)))

pub set-taken : {A : Type 0} (xs : List A) (i : ℕ) (x : A) → i < length xs → take (i + 1) (slice_set xs i x) ≡ take i xs ++ x ∷ []
set-taken xs i x h =
    let one : i + 1 ≡ suc i = omega arith in
    ap (λ n. take n (slice_set xs i x)) one ∙ set-taken-suc xs i x h

pub pushed-taken : {A : Type 0} (xs : List A) (i : ℕ) (x : A) (new : List A) → i ≡ length xs → new ≡ xs ++ x ∷ [] → take (i + 1) new ≡ take i xs ++ x ∷ []
pushed-taken xs i x new e is =
    ap (take (i + 1)) is
    ∙ (take_all (i + 1) (xs ++ x ∷ []) (omega (arith, e, length-append xs (x ∷ [])))
    ∙ ap (λ ys. ys ++ x ∷ []) (sym (take_all i xs (omega (arith, e)))))

-- what waits at a machine is told only where its subchannels are there, and what waits on the wires of each
pub told-there : (state : State) (setups : List SubchannelSetup) (waiting : List WaitingQueues) (n : ℕ) (setup : SubchannelSetup) →
    slice_get setups n ≡ Some setup → sub_of state (word_of setup.id) ≡ None → TellsWaiting state setups waiting → ⊥
told-there state setups waiting n setup here none all = let at = all n setup here in absurd (cc (sym none ∙ at.there))

pub told-wires : (state : State) (setups : List SubchannelSetup) (waiting : List WaitingQueues) (n : ℕ) (setup : SubchannelSetup) (sub : Subchannel) (own : WaitingQueues) →
    slice_get setups n ≡ Some setup → sub_of state (word_of setup.id) ≡ Some sub → slice_get waiting n ≡ Some own →
    TellsWaiting state setups waiting → TellsWires sub.wires own
told-wires state setups waiting n setup sub own here there at all =
    let one = all n setup here in
    λ way path small.
    ap (λ (o : Option WaitingQueues). waits_at o way path) (sym at)
    ∙ (one.tells way path small
    ∙ ap (λ (s : Subchannel). told_on s.wires way path) (same_Some one.sub sub (sym one.there ∙ there)))
