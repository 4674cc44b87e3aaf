-- The requests that an event posts, where it changed one subchannel and where it changed none.
use Rattle.std.proofs.Common.{◌≡◌, refl, ◌∙◌, ap, ℕ, zero, suc, Bool, false, nat_lt, Some, List, [], ◌∷◌, if◌then◌else◌, arith}
use Rattle.std.specs.Prelude.{slice_get, slice_set}
use Rattle.std.proofs.lemmas.Bool.{le-ltb}
use Rattle.std.proofs.lemmas.Option.{same_Some}
use Rattle.interruptions.specs.Requests.{WaitingRequests, posted}
use Rattle.subchannel_model.specs.declared.state.Subchannel.{Subchannel}
use Rattle.machine_model.specs.Requests.{posted_all, posted_for, request_of}
use Rattle.signal_step.specs.Giving.{posted_since}

not-below : (n : ℕ) → nat_lt n n ≡ false
not-below n = le-ltb n n (omega arith)

-- nothing is posted where no status was made
pub none-made : (made : ℕ) (sub : Subchannel) (w : WaitingRequests) → made ≡ sub.state.serials.made → posted_since made sub w ≡ w
none-made made sub w e =
    ap (λ (b : Bool). if b then posted w (request_of sub) else w) (ap (λ (n : ℕ). nat_lt n sub.state.serials.made) e ∙ not-below sub.state.serials.made)

pub posted-still : (subs : List Subchannel) (w : WaitingRequests) → posted_all subs subs w ≡ w
posted-still [] w = refl
posted-still (x ∷ xs) w = ap (posted_all xs xs) (none-made x.state.serials.made x w refl) ∙ posted-still xs w

-- by the subchannel that changed, alone
pub posted-at : (subs : List Subchannel) (index : ℕ) (sub new : Subchannel) (w : WaitingRequests) → slice_get subs index ≡ Some sub →
    posted_all subs (slice_set subs index new) w ≡ posted_since sub.state.serials.made new w
posted-at [] index sub new w e = absurd (cc e)
posted-at (x ∷ xs) zero sub new w e =
    posted-still xs (posted_for x new w) ∙ ap (λ (y : Subchannel). posted_for y new w) (same_Some x sub e)
posted-at (x ∷ xs) (suc i) sub new w e =
    ap (posted_all xs (slice_set xs i new)) (none-made x.state.serials.made x w refl) ∙ posted-at xs i sub new w e
