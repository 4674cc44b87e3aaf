-- What an event does to every subchannel, one after the other.
use Rattle.std.proofs.Common.{◌≡◌, refl, sym, ◌∙◌, ap, subst, ℕ, ◌+◌, ◌<◌, zero, suc, Bool, true, false, Option, None, Some, List, [], ◌∷◌, ◌++◌, length, map, take, drop, slice_index_or, if◌then◌else◌, arith}
use Rattle.std.specs.Prelude.{All}
use Rattle.std.proofs.lemmas.List.Elements.{All-get_or}
use Rattle.control_units.proofs.MapInPlace.{not_yet}
use Rattle.interruptions.specs.Requests.{WaitingRequests, posted, stands}
use Rattle.scsw_irb.specs.declared.code.IntCode.{IntCode}
use Rattle.subchannel_model.specs.declared.state.Subchannel.{Subchannel}
use Rattle.subchannel_model.specs.Losing.{loses, loses_at, path_index, shows_at}
use Rattle.machine_model.specs.declared.state.Sweep.{Sweep}
use Rattle.machine_model.specs.declared.state.Sweep.TheVariants as sweep
use Rattle.machine_model.specs.PathSteps.{swept}
use Rattle.machine_model.specs.Requests.{posted_all, posted_for, request_of, makes_status}

-- a sweep leaves each subchannel set up as it was
loses-setup : (path : Option ℕ) (sub : Subchannel) → (loses_at path sub).setup ≡ sub.setup
loses-setup None sub = refl
loses-setup (Some p) sub = refl

shows-setup : (path : Option ℕ) (up : Bool) (sub : Subchannel) → (shows_at path up sub).setup ≡ sub.setup
shows-setup None up sub = refl
shows-setup (Some p) up sub = refl

pub swept-setup : (what : Sweep) (sub : Subchannel) → (swept what sub).setup ≡ sub.setup
swept-setup (sweep.GoesDown chpid) sub =
    shows-setup (path_index chpid (loses chpid sub).setup.paths) _ (loses chpid sub) ∙ loses-setup (path_index chpid sub.setup.paths) sub
swept-setup (sweep.ComesUp chpid) sub = shows-setup (path_index chpid sub.setup.paths) _ sub
swept-setup (sweep.PathReset chpid) sub = loses-setup (path_index chpid sub.setup.paths) sub
swept-setup sweep.SystemReset sub = refl

-- a subchannel that was not swept yet is as it was
unswept : (f : Subchannel → Subchannel) (subs now : List Subchannel) (i : ℕ) (d : Subchannel) → i < length subs →
    now ≡ map f (take i subs) ++ drop i subs → slice_index_or now i d ≡ slice_index_or subs i d
unswept f subs now i d within so = ap (λ (ys : List Subchannel). slice_index_or ys i d) so ∙ not_yet f subs i d within

pub unswept-all : (P : Subchannel → Type 0) (f : Subchannel → Subchannel) (subs now : List Subchannel) (i : ℕ) (d : Subchannel) → i < length subs →
    now ≡ map f (take i subs) ++ drop i subs → All P subs → P (slice_index_or now i d)
unswept-all P f subs now i d within so all = subst P (sym (unswept f subs now i d within so)) (All-get_or P subs i d within all)

-- the requests that are posted so far, and for one subchannel more
posted-suc : (f : Subchannel → Subchannel) (subs : List Subchannel) (i : ℕ) (d : Subchannel) (w : WaitingRequests) → i < length subs →
    posted_all (take (suc i) subs) (map f (take (suc i) subs)) w
    ≡ posted_for (slice_index_or subs i d) (f (slice_index_or subs i d)) (posted_all (take i subs) (map f (take i subs)) w)
posted-suc f [] i d w within = absurd (omega (arith, within))
posted-suc f (x ∷ xs) zero d w within = refl
posted-suc f (x ∷ xs) (suc i) d w within = posted-suc f xs i d (posted_for x (f x) w) (omega (arith, within))

pub posted-more : (f : Subchannel → Subchannel) (subs now : List Subchannel) (i : ℕ) (d new : Subchannel) (w before after : WaitingRequests) → i < length subs →
    now ≡ map f (take i subs) ++ drop i subs → new ≡ f (slice_index_or now i d) →
    before ≡ posted_all (take i subs) (map f (take i subs)) w → after ≡ posted_for (slice_index_or now i d) new before →
    after ≡ posted_all (take (i + 1) subs) (map f (take (i + 1) subs)) w
posted-more f subs now i d new w before after within so is done posted =
    let x = slice_index_or now i d in
    let one : suc i ≡ i + 1 = omega arith in
    posted
    ∙ (ap (λ (y : Subchannel). posted_for x y before) is
    ∙ (ap (posted_for x (f x)) done
    ∙ (ap (λ (y : Subchannel). posted_for y (f y) (posted_all (take i subs) (map f (take i subs)) w)) (unswept f subs now i d within so)
    ∙ (sym (posted-suc f subs i d w within)
    ∙ ap (λ (n : ℕ). posted_all (take n subs) (map f (take n subs)) w) one))))

-- the numbers for whose requests there is room stay
numbers-posted : (b : Bool) (w : WaitingRequests) (requests : List IntCode) → (if b then w else record w { requests = requests }).numbers ≡ w.numbers
numbers-posted true w requests = refl
numbers-posted false w requests = refl

numbers-if : (b : Bool) (w : WaitingRequests) (request : IntCode) → (if b then posted w request else w).numbers ≡ w.numbers
numbers-if true w request = numbers-posted (stands w.requests request.set request.subchannel) w (w.requests ++ request ∷ [])
numbers-if false w request = refl

pub numbers-stay : (old new : Subchannel) (w : WaitingRequests) → (posted_for old new w).numbers ≡ w.numbers
numbers-stay old new w = numbers-if (makes_status old new) w (request_of new)
