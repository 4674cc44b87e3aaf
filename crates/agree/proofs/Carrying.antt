-- The signals that may arrive after a step might have arrived before it, or are sent by it.
use Rattle.std.proofs.Common.{◌≡◌, ℕ, ◌⊎◌, inl, inr, Bool, true, false, not, Option, None, Some, List, [], ◌∷◌, ◌++◌, refl, take, drop, suc}
use Rattle.std.specs.Prelude.{All, Contains, remove, slice_get, if◌then◌else◌, ◌==◌}
use Rattle.std.proofs.lemmas.List.Elements.{All-weaker, All-filter, All-contains_itself, All-append, All-take, All-drop, All-cons, All-nil}
use Rattle.std.proofs.lemmas.Option.{slice_get_within, get_or_from_slice_get}
use Rattle.chan_model.specs.declared.signal.OnPath.{OnPath}
use Rattle.agreement_laws.specs.Links.{Carries}
use Rattle.agree.specs.State.{is_up}
use Rattle.agree.specs.Lines.{queue_with_sent, left_after, without_path}

-- all of the new signals are among the old ones
abbrev pub AreAmong : {S : Type 0} → List (OnPath S) → List (OnPath S) → Type 0
AreAmong old new = All (λ x. Contains old x) new

pub among-same : {S : Type 0} (xs : List (OnPath S)) → AreAmong xs xs
among-same xs = All-contains_itself xs

pub among-without : {S : Type 0} (xs : List (OnPath S)) (p : ℕ) → AreAmong xs (without_path xs p)
among-without {S} xs p =
    let P : OnPath S → Type 0 = λ x. Contains xs x in
    All-filter (λ x. not (x.path == p)) P xs (All-contains_itself xs)

pub among-removed : {S : Type 0} (xs : List (OnPath S)) (i : ℕ) → AreAmong xs (remove xs i)
among-removed {S} xs i =
    let P : OnPath S → Type 0 = λ x. Contains xs x in
    All-append P (take i xs) (drop (suc i) xs) (All-take P i xs (All-contains_itself xs)) (All-drop P (suc i) xs (All-contains_itself xs))

pub among-left : {S : Type 0} (xs : List (OnPath S)) (i : ℕ) (keep : Bool) → AreAmong xs (left_after xs i keep)
among-left xs i true = among-same xs
among-left xs i false = among-removed xs i

pub contains-got : {S : Type 0} (xs : List (OnPath S)) (i : ℕ) (x : OnPath S) → slice_get xs i ≡ Some x → Contains xs x
contains-got xs i x e = (i, slice_get_within xs i x e, get_or_from_slice_get xs i x x e)

pub carried : {S : Type 0} (old new : List (OnPath S)) (sent : Option (OnPath S)) → AreAmong old new → Carries old sent new
carried {S} old new sent among =
    let P : OnPath S → Type 0 = λ x. Contains old x in
    let Q : OnPath S → Type 0 = λ x. Contains old x ⊎ (sent ≡ Some x) in
    All-weaker P Q (λ x h. inl h) new among

if-carried : {S : Type 0} (old new : List (OnPath S)) (x : OnPath S) (b : Bool) → AreAmong old new → Carries old (Some x) (if b then new ++ x ∷ [] else new)
if-carried {S} old new x true among =
    let Q : OnPath S → Type 0 = λ y. Contains old y ⊎ (Some x ≡ Some y) in
    All-append Q new (x ∷ []) (carried old new (Some x) among) (All-cons Q x [] (inr refl) (All-nil Q))
if-carried old new x false among = carried old new (Some x) among

pub sent-carried : {S : Type 0} (up : List Bool) (old new : List (OnPath S)) (sent : Option (OnPath S)) → AreAmong old new → Carries old sent (queue_with_sent up new sent)
sent-carried up old new None among = carried old new None among
sent-carried up old new (Some x) among = if-carried old new x (is_up up x.path) among
