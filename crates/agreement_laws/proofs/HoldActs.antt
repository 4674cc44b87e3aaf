-- What a hold does by its table is a move.
use Rattle.std.proofs.Common.{◌≡◌, ℕ, ◌<◌, ◌≤◌, ◌==◌, ◌&&◌, Bool, true, false, nat_lt, None, Some, List, refl, subst, arith}
use Rattle.std.specs.Prelude.{if◌then◌else◌}
use Rattle.std.proofs.lemmas.Bool.{eqb-true, ltb-true, and_parts}
use Rattle.chan_model.specs.declared.hold_state.HoldPhase.{HoldPhase}
use Rattle.chan_model.specs.declared.hold_state.HoldPhase.TheVariants as hold
use Rattle.chan_model.specs.declared.hold_state.HoldState.{HoldState}
use Rattle.chan_model.specs.Signals.{Down}
use Rattle.chan_model.specs.declared.signal.Down.TheVariants as down
use Rattle.chan_model.specs.Signals.{Up}
use Rattle.chan_model.specs.declared.signal.Up.TheVariants as up
use Rattle.chan_model.specs.HoldTable.{program_begun, hold_quietly, refusing, granting, letting_go, sending_reset, hold_takes}
use Rattle.chan_model.specs.ResetCauses.{rests_on}
use Rattle.agreement_laws.specs.Moving.{HoldAct, Nothing, Offers, Sends_reset, Lets_go, Is_reset, Loses, Takes, Sends, HoldActed, still, hold_stepped, hold_offered, reset_again, hold_taken, hold_acts, IsOfProgram}
use Rattle.agreement_laws.specs.Invariant.{SideSeen, Ends, ends_seen, IsAcceptGood, IsNotOwned, IsBackGood, IsUpGood}
use Rattle.agreement_laws.proofs.Frames.{IsPlainDown}
use Rattle.agreement_laws.proofs.HoldKeeps.{HoldMoves, Stays, Offered, Resets, Goes_on, Is_over, Is_busy, Is_left, Grants, Refuses_on, Refuses_away, Is_released, Is_cleared}
use Rattle.agreement_laws.proofs.HoldKeeps as keeps

-- the hold in this phase
abbrev at : HoldState → HoldPhase → HoldState
at h phase = record h { phase = phase }

abbrev pub of : ℕ → HoldState → ℕ → ℕ → SideSeen → Ends
of n h b f o = ends_seen n h.phase h.seen h.known_restarts b f o

abbrev pub IsMoved : ℕ → HoldState → ℕ → ℕ → SideSeen → HoldActed → Type 0
IsMoved n h b f o acted = HoldMoves (of n h b f o) (of acted.drawn acted.hold b f o) acted.sent

still-moves : (n : ℕ) (h : HoldState) (b f : ℕ) (o : SideSeen) → IsMoved n h b f o (still n h)
still-moves n h b f o = Stays _ None tt

offered-moves : (n : ℕ) (h : HoldState) (b f : ℕ) (o : SideSeen) (phase : HoldPhase) (p : ℕ) (single : Bool) → IsMoved n (at h phase) b f o (hold_offered n (at h phase) phase p single)
offered-moves n h b f o hold.Free p single = Offered n h.seen h.known_restarts b f o p
offered-moves n h b f o (hold.Offer t q) p single = still-moves n (at h (hold.Offer t q)) b f o
offered-moves n h b f o (hold.On t q c) p single = still-moves n (at h (hold.On t q c)) b f o
offered-moves n h b f o (hold.Away t) p single = still-moves n (at h (hold.Away t)) b f o
offered-moves n h b f o (hold.Letting t q) p single = still-moves n (at h (hold.Letting t q)) b f o
offered-moves n h b f o (hold.Reset r) p single = still-moves n (at h (hold.Reset r)) b f o

reset_sent-moves : (n : ℕ) (h : HoldState) (b f : ℕ) (o : SideSeen) (phase : HoldPhase) (p : ℕ) → IsMoved n (at h phase) b f o (hold_stepped n (at h phase) (sending_reset (at h phase) phase p))
reset_sent-moves n h b f o hold.Free p = still-moves n (at h hold.Free) b f o
reset_sent-moves n h b f o (hold.Offer t q) p = still-moves n (at h (hold.Offer t q)) b f o
reset_sent-moves n h b f o (hold.On t q c) p = still-moves n (at h (hold.On t q c)) b f o
reset_sent-moves n h b f o (hold.Away t) p = still-moves n (at h (hold.Away t)) b f o
reset_sent-moves n h b f o (hold.Letting t q) p = still-moves n (at h (hold.Letting t q)) b f o
reset_sent-moves n h b f o (hold.Reset r) p = keeps.Sends_reset n r h.seen h.known_restarts b f o p

device_released-moves : (n : ℕ) (h : HoldState) (b f : ℕ) (o : SideSeen) (phase : HoldPhase) → IsMoved n (at h phase) b f o (hold_stepped n (at h phase) (letting_go (at h phase) phase))
device_released-moves n h b f o hold.Free = still-moves n (at h hold.Free) b f o
device_released-moves n h b f o (hold.Offer t q) = still-moves n (at h (hold.Offer t q)) b f o
device_released-moves n h b f o (hold.On t q c) = keeps.Lets_go n t q c h.seen h.known_restarts b f o
device_released-moves n h b f o (hold.Away t) = still-moves n (at h (hold.Away t)) b f o
device_released-moves n h b f o (hold.Letting t q) = still-moves n (at h (hold.Letting t q)) b f o
device_released-moves n h b f o (hold.Reset r) = still-moves n (at h (hold.Reset r)) b f o

reset-moves : (n : ℕ) (h : HoldState) (b f : ℕ) (o : SideSeen) → h.known_restarts ≤ b → IsMoved n h b f o (reset_again n h)
reset-moves n h b f o kb = Resets n h.phase h.seen h.known_restarts h.known_restarts b f o (omega arith) kb

lost-moves : (n : ℕ) (h : HoldState) (b f : ℕ) (o : SideSeen) (rests : Bool) → h.known_restarts ≤ b → IsMoved n h b f o (if rests then reset_again n h else still n h)
lost-moves n h b f o true kb = reset-moves n h b f o kb
lost-moves n h b f o false kb = still-moves n h b f o

-- Accept and Busy, at the offer of their number
accept-moves : (n : ℕ) (h : HoldState) (b f : ℕ) (o : SideSeen) (t q u : ℕ) (may same : Bool) → (u == t) ≡ same → u ≤ f → IsAcceptGood (hold.Offer t q) o u →
    IsMoved n (at h (hold.Offer t q)) b f o (hold_stepped n (at h (hold.Offer t q)) (if same then Some (program_begun (at h (hold.Offer t q)) t q may) else None))
accept-moves n h b f o t q u true true e le a =
    let v : u ≡ t = eqb-true u t e in
    Goes_on n t q h.seen h.known_restarts b f o (omega arith) (subst (λ (x : ℕ). IsAcceptGood (hold.Offer t q) o x) v a)
accept-moves n h b f o t q u false true e le a = let v : u ≡ t = eqb-true u t e in Is_over n t q h.seen h.known_restarts b f o (omega arith)
accept-moves n h b f o t q u may false e le a = still-moves n (at h (hold.Offer t q)) b f o

takes_accept : (n : ℕ) (h : HoldState) (b f : ℕ) (o : SideSeen) (phase : HoldPhase) (p u : ℕ) (may : Bool) → u ≤ f → IsAcceptGood phase o u →
    IsMoved n (at h phase) b f o (hold_taken n (at h phase) p (up.Accept u) may)
takes_accept n h b f o hold.Free p u may le a = still-moves n (at h hold.Free) b f o
takes_accept n h b f o (hold.Offer t q) p u may le a = accept-moves n h b f o t q u may (u == t) refl le a
takes_accept n h b f o (hold.On t q c) p u may le a = still-moves n (at h (hold.On t q c)) b f o
takes_accept n h b f o (hold.Away t) p u may le a = still-moves n (at h (hold.Away t)) b f o
takes_accept n h b f o (hold.Letting t q) p u may le a = still-moves n (at h (hold.Letting t q)) b f o
takes_accept n h b f o (hold.Reset r) p u may le a = still-moves n (at h (hold.Reset r)) b f o

busy-moves : (n : ℕ) (h : HoldState) (b f : ℕ) (o : SideSeen) (t q u : ℕ) (same : Bool) → (u == t) ≡ same → u ≤ f → IsNotOwned o u →
    IsMoved n (at h (hold.Offer t q)) b f o (hold_stepped n (at h (hold.Offer t q)) (if same then Some (hold_quietly (at h hold.Free)) else None))
busy-moves n h b f o t q u true e le a =
    let v : u ≡ t = eqb-true u t e in Is_busy n t q h.seen h.known_restarts b f o (omega arith) (subst (λ (x : ℕ). IsNotOwned o x) v a)
busy-moves n h b f o t q u false e le a = still-moves n (at h (hold.Offer t q)) b f o

takes_busy : (n : ℕ) (h : HoldState) (b f : ℕ) (o : SideSeen) (phase : HoldPhase) (p u : ℕ) (may : Bool) → u ≤ f → IsNotOwned o u →
    IsMoved n (at h phase) b f o (hold_taken n (at h phase) p (up.Busy u) may)
takes_busy n h b f o hold.Free p u may le a = still-moves n (at h hold.Free) b f o
takes_busy n h b f o (hold.Offer t q) p u may le a = busy-moves n h b f o t q u (u == t) refl le a
takes_busy n h b f o (hold.On t q c) p u may le a = still-moves n (at h (hold.On t q c)) b f o
takes_busy n h b f o (hold.Away t) p u may le a = still-moves n (at h (hold.Away t)) b f o
takes_busy n h b f o (hold.Letting t q) p u may le a = still-moves n (at h (hold.Letting t q)) b f o
takes_busy n h b f o (hold.Reset r) p u may le a = still-moves n (at h (hold.Reset r)) b f o

-- Leave, of the connection at hand
leave-moves : (n : ℕ) (h : HoldState) (b f : ℕ) (o : SideSeen) (t q c : ℕ) (same : Bool) →
    IsMoved n (at h (hold.On t q c)) b f o (hold_stepped n (at h (hold.On t q c)) (if same then Some (hold_quietly (at h (hold.Away t))) else None))
leave-moves n h b f o t q c true = Is_left n t q c h.seen h.known_restarts b f o
leave-moves n h b f o t q c false = still-moves n (at h (hold.On t q c)) b f o

takes_leave : (n : ℕ) (h : HoldState) (b f : ℕ) (o : SideSeen) (phase : HoldPhase) (p u d : ℕ) (may : Bool) →
    IsMoved n (at h phase) b f o (hold_taken n (at h phase) p (up.Leave u d) may)
takes_leave n h b f o hold.Free p u d may = still-moves n (at h hold.Free) b f o
takes_leave n h b f o (hold.Offer t q) p u d may = still-moves n (at h (hold.Offer t q)) b f o
takes_leave n h b f o (hold.On t q c) p u d may = leave-moves n h b f o t q c ((u == t) && (d == c))
takes_leave n h b f o (hold.Away t) p u d may = still-moves n (at h (hold.Away t)) b f o
takes_leave n h b f o (hold.Letting t q) p u d may = still-moves n (at h (hold.Letting t q)) b f o
takes_leave n h b f o (hold.Reset r) p u d may = still-moves n (at h (hold.Reset r)) b f o

-- Back, under a number above the last seen
back_on-moves : (n : ℕ) (h : HoldState) (b f : ℕ) (o : SideSeen) (t q d p u c : ℕ) (same : Bool) → ((u == t) && nat_lt h.seen c) ≡ same → IsBackGood o p u c →
    IsMoved n (at h (hold.On t q d)) b f o (hold_stepped n (at h (hold.On t q d)) (if same then Some (refusing (at h (hold.On t q d)) p t c) else None))
back_on-moves n h b f o t q d p u c true e a =
    let both : ((u == t) ≡ true) × (nat_lt h.seen c ≡ true) = and_parts (u == t) (nat_lt h.seen c) e in
    let v : u ≡ t = eqb-true u t both.0 in
    Refuses_on n t q d p c h.seen h.known_restarts b f o (ltb-true h.seen c both.1) (subst (λ (x : ℕ). IsBackGood o p x c) v a)
back_on-moves n h b f o t q d p u c false e a = still-moves n (at h (hold.On t q d)) b f o

back_away-moves : (n : ℕ) (h : HoldState) (b f : ℕ) (o : SideSeen) (t p u c : ℕ) (may same : Bool) → ((u == t) && nat_lt h.seen c) ≡ same → IsBackGood o p u c →
    IsMoved n (at h (hold.Away t)) b f o
    (hold_stepped n (at h (hold.Away t)) (if same then (if may then Some (granting (at h (hold.Away t)) p t c) else Some (refusing (at h (hold.Away t)) p t c)) else None))
back_away-moves n h b f o t p u c true true e a =
    let both : ((u == t) ≡ true) × (nat_lt h.seen c ≡ true) = and_parts (u == t) (nat_lt h.seen c) e in
    let v : u ≡ t = eqb-true u t both.0 in
    Grants n t p c h.seen h.known_restarts b f o (ltb-true h.seen c both.1) (subst (λ (x : ℕ). IsBackGood o p x c) v a)
back_away-moves n h b f o t p u c false true e a =
    let both : ((u == t) ≡ true) × (nat_lt h.seen c ≡ true) = and_parts (u == t) (nat_lt h.seen c) e in
    let v : u ≡ t = eqb-true u t both.0 in
    Refuses_away n t p c h.seen h.known_restarts b f o (ltb-true h.seen c both.1) (subst (λ (x : ℕ). IsBackGood o p x c) v a)
back_away-moves n h b f o t p u c may false e a = still-moves n (at h (hold.Away t)) b f o

takes_back : (n : ℕ) (h : HoldState) (b f : ℕ) (o : SideSeen) (phase : HoldPhase) (p u c : ℕ) (may : Bool) → IsBackGood o p u c →
    IsMoved n (at h phase) b f o (hold_taken n (at h phase) p (up.Back u c) may)
takes_back n h b f o hold.Free p u c may a = still-moves n (at h hold.Free) b f o
takes_back n h b f o (hold.Offer t q) p u c may a = still-moves n (at h (hold.Offer t q)) b f o
takes_back n h b f o (hold.On t q d) p u c may a = back_on-moves n h b f o t q d p u c ((u == t) && nat_lt h.seen c) refl a
takes_back n h b f o (hold.Away t) p u c may a = back_away-moves n h b f o t p u c may ((u == t) && nat_lt h.seen c) refl a
takes_back n h b f o (hold.Letting t q) p u c may a = still-moves n (at h (hold.Letting t q)) b f o
takes_back n h b f o (hold.Reset r) p u c may a = still-moves n (at h (hold.Reset r)) b f o

-- Released, Cleared and Attn
released-moves : (n : ℕ) (h : HoldState) (b f : ℕ) (o : SideSeen) (t q u : ℕ) (same : Bool) → (u == t) ≡ same → IsNotOwned o u →
    IsMoved n (at h (hold.Letting t q)) b f o (hold_stepped n (at h (hold.Letting t q)) (if same then Some (hold_quietly (at h hold.Free)) else None))
released-moves n h b f o t q u true e a =
    let v : u ≡ t = eqb-true u t e in Is_released n t q h.seen h.known_restarts b f o (subst (λ (x : ℕ). IsNotOwned o x) v a)
released-moves n h b f o t q u false e a = still-moves n (at h (hold.Letting t q)) b f o

takes_released : (n : ℕ) (h : HoldState) (b f : ℕ) (o : SideSeen) (phase : HoldPhase) (p u : ℕ) (may : Bool) → IsNotOwned o u →
    IsMoved n (at h phase) b f o (hold_taken n (at h phase) p (up.Released u) may)
takes_released n h b f o hold.Free p u may a = still-moves n (at h hold.Free) b f o
takes_released n h b f o (hold.Offer t q) p u may a = still-moves n (at h (hold.Offer t q)) b f o
takes_released n h b f o (hold.On t q c) p u may a = still-moves n (at h (hold.On t q c)) b f o
takes_released n h b f o (hold.Away t) p u may a = still-moves n (at h (hold.Away t)) b f o
takes_released n h b f o (hold.Letting t q) p u may a = released-moves n h b f o t q u (u == t) refl a
takes_released n h b f o (hold.Reset r) p u may a = still-moves n (at h (hold.Reset r)) b f o

cleared-moves : (n : ℕ) (h : HoldState) (b f : ℕ) (o : SideSeen) (r u : ℕ) (same : Bool) → (u == r) ≡ same → u ≤ f →
    IsMoved n (at h (hold.Reset r)) b f o (hold_stepped n (at h (hold.Reset r)) (if same then Some (hold_quietly (record h { phase = hold.Free; reset_path = None })) else None))
cleared-moves n h b f o r u true e le = let v : u ≡ r = eqb-true u r e in Is_cleared n r h.seen h.known_restarts b f o (omega arith)
cleared-moves n h b f o r u false e le = still-moves n (at h (hold.Reset r)) b f o

takes_cleared : (n : ℕ) (h : HoldState) (b f : ℕ) (o : SideSeen) (phase : HoldPhase) (p u : ℕ) (may : Bool) → u ≤ f →
    IsMoved n (at h phase) b f o (hold_taken n (at h phase) p (up.Cleared u) may)
takes_cleared n h b f o hold.Free p u may le = still-moves n (at h hold.Free) b f o
takes_cleared n h b f o (hold.Offer t q) p u may le = still-moves n (at h (hold.Offer t q)) b f o
takes_cleared n h b f o (hold.On t q c) p u may le = still-moves n (at h (hold.On t q c)) b f o
takes_cleared n h b f o (hold.Away t) p u may le = still-moves n (at h (hold.Away t)) b f o
takes_cleared n h b f o (hold.Letting t q) p u may le = still-moves n (at h (hold.Letting t q)) b f o
takes_cleared n h b f o (hold.Reset r) p u may le = cleared-moves n h b f o r u (u == r) refl le

takes_attention : (n : ℕ) (h : HoldState) (b f : ℕ) (o : SideSeen) (phase : HoldPhase) (p a : ℕ) (may : Bool) →
    IsMoved n (at h phase) b f o (hold_stepped n (at h phase) (hold_takes (at h phase) p (up.Attn a (record { 0 = 0 })) may))
takes_attention n h b f o hold.Free p a true = Stays _ _ tt
takes_attention n h b f o hold.Free p a false = still-moves n (at h hold.Free) b f o
takes_attention n h b f o (hold.Offer t q) p a may = still-moves n (at h (hold.Offer t q)) b f o
takes_attention n h b f o (hold.On t q c) p a may = still-moves n (at h (hold.On t q c)) b f o
takes_attention n h b f o (hold.Away t) p a may = still-moves n (at h (hold.Away t)) b f o
takes_attention n h b f o (hold.Letting t q) p a may = still-moves n (at h (hold.Letting t q)) b f o
takes_attention n h b f o (hold.Reset r) p a may = still-moves n (at h (hold.Reset r)) b f o

notice-moves : (n : ℕ) (h : HoldState) (b f : ℕ) (o : SideSeen) (c : ℕ) (more : Bool) → nat_lt h.known_restarts c ≡ more → c ≤ b →
    IsMoved n h b f o (if more then reset_again n (record h { known_restarts = c }) else still n h)
notice-moves n h b f o c true e le = let lt : h.known_restarts < c = ltb-true h.known_restarts c e in Resets n h.phase h.seen h.known_restarts c b f o (omega arith) le
notice-moves n h b f o c false e le = still-moves n h b f o

taken-moves : (n : ℕ) (h : HoldState) (b f : ℕ) (o : SideSeen) (ts : List ℕ) (p : ℕ) (u : Up) (may : Bool) → IsUpGood (of n h b f o) ts p u →
    IsMoved n h b f o (hold_taken n h p u may)
taken-moves n h b f o ts p (up.Accept t) may g = takes_accept n h b f o h.phase p t may g.0 g.1
taken-moves n h b f o ts p (up.Busy t) may g = takes_busy n h b f o h.phase p t may g.0 g.1
taken-moves n h b f o ts p (up.Leave t c) may g = takes_leave n h b f o h.phase p t c may
taken-moves n h b f o ts p (up.Back t c) may g = takes_back n h b f o h.phase p t c may g.1
taken-moves n h b f o ts p (up.Data load t c m s) may g = still-moves n h b f o
taken-moves n h b f o ts p (up.End t m status more) may g = still-moves n h b f o
taken-moves n h b f o ts p (up.Released t) may g = takes_released n h b f o h.phase p t may g.1
taken-moves n h b f o ts p (up.Cleared r) may g = takes_cleared n h b f o h.phase p r may g
taken-moves n h b f o ts p (up.Notice c) may g = notice-moves n h b f o c (nat_lt h.known_restarts c) refl g
taken-moves n h b f o ts p (up.Attn a status) may g = takes_attention n h b f o h.phase p a may

program-plain : (d : Down) → IsOfProgram d → IsPlainDown d
program-plain (down.Select t) g = absurd g
program-plain (down.Command t n code room) g = tt
program-plain (down.Grant t c) g = absurd g
program-plain (down.Refuse t c) g = absurd g
program-plain (down.Took t n s room) g = tt
program-plain (down.Give bytes t c n s) g = tt
program-plain (down.Halt t) g = tt
program-plain (down.Release t) g = absurd g
program-plain (down.Reset r b) g = absurd g
program-plain (down.Got a) g = absurd g

-- the signal that is taken is good, and that of a program is a program's
abbrev pub IsActGood : Ends → List ℕ → HoldAct → Type 0
IsActGood e ts (Takes x may) = IsUpGood e ts x.path x.signal
IsActGood e ts (Sends x) = IsOfProgram x.signal
IsActGood e ts act = Unit {0}

pub act-moves : (n : ℕ) (h : HoldState) (b f : ℕ) (o : SideSeen) (ts : List ℕ) (act : HoldAct) → h.known_restarts ≤ b → IsActGood (of n h b f o) ts act →
    IsMoved n h b f o (hold_acts n h act)
act-moves n h b f o ts Nothing kb g = still-moves n h b f o
act-moves n h b f o ts (Offers p single) kb g = offered-moves n h b f o h.phase p single
act-moves n h b f o ts (Sends_reset p) kb g = reset_sent-moves n h b f o h.phase p
act-moves n h b f o ts Lets_go kb g = device_released-moves n h b f o h.phase
act-moves n h b f o ts Is_reset kb g = reset-moves n h b f o kb
act-moves n h b f o ts (Loses p) kb g = lost-moves n h b f o (rests_on h p) kb
act-moves n h b f o ts (Takes x may) kb g = taken-moves n h b f o ts x.path x.signal may g
act-moves n h b f o ts (Sends x) kb g = Stays _ (Some x) (program-plain x.signal g)
