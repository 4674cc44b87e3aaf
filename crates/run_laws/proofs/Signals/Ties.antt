-- What is said of numbers, paths and connections by each signal; and that a signal which came up and suits the hold is right, where
-- what was seen of connections before it fits the hold.
use Rattle.std.proofs.Common.{◌≡◌, refl, sym, ◌∙◌, ap, subst, ℕ, Bool, Option, None, Some, inl, inr}
use Rattle.chan_events.specs.declared.reply.Reply.TheVariants as reply
use Rattle.chan_model.specs.declared.hold_state.HoldPhase.{HoldPhase}
use Rattle.chan_model.specs.declared.hold_state.HoldPhase.TheVariants as hold
use Rattle.chan_model.specs.Signals.{Down, Up}
use Rattle.chan_model.specs.declared.signal.OnPath.{OnPath}
use Rattle.chan_model.specs.declared.signal.Up.TheVariants as up
use Rattle.agreement_laws.specs.PathsSeen.{Offered, Connected, connected_on, IsConnected}
use Rattle.run_laws.specs.ByItsPath.{SeenPaths, connected_by, connected_with, connected_in, ComesRight, GoesRight, IsAnswerRight, IsReplyRight}
use Rattle.run_laws.proofs.Signals.Meets.{Meets, Ignored, Turns, Begins, Declines, Moves, Ends, Ends_last, Leaves, Grants, IsGone, Stays, IsPlainUp, IsPlainDown, ArePlainDown, AreCommandsOn, AreDataAnswers, Offers, Refuses, Halts, Resets, Answers, Sends_command, Sends_room, Sends_bytes}

abbrev pub linked : ℕ → ℕ → ℕ → Connected
linked t p c = record { number = t; path = p; connection = c }

abbrev pub offer_of : ℕ → ℕ → Offered
offer_of t p = record { number = t; path = p }

-- a signal of the program t comes by q, and under the connection c
abbrev pub IsAt : ℕ → ℕ → ℕ → ℕ → Up → Type 0
IsAt t q c p (up.Accept u) = u ≡ t → p ≡ q
IsAt t q c p (up.Data load u d n s) = u ≡ t → (p ≡ q) × (d ≡ c)
IsAt t q c p (up.End u n status more) = u ≡ t → p ≡ q
IsAt t q c p (up.Leave u d) = u ≡ t → (p ≡ q) × (d ≡ c)
IsAt t q c p x = Unit {0}

-- where a program is offered, or connected
abbrev pub SuitsPhase : HoldPhase → ℕ → Up → Type 0
SuitsPhase (hold.Offer t q) p x = IsAt t q 0 p x
SuitsPhase (hold.On t q c) p x = IsAt t q c p x
SuitsPhase phase p x = Unit {0}

-- what was seen fits the hold
abbrev pub Ties : HoldPhase → SeenPaths → Type 0
Ties (hold.Offer t q) k = k.offered ≡ Some (record { number = t; path = q })
Ties (hold.On t q c) k = k.connected ≡ Some (linked t q c)
Ties (hold.Away t) k = k.connected ≡ None
Ties phase k = Unit {0}

gone-ties : (phase : HoldPhase) (k : SeenPaths) → IsGone phase → Ties phase k
gone-ties (hold.Offer t q) k g = absurd g
gone-ties (hold.On t q c) k g = absurd g
gone-ties (hold.Away t) k g = absurd g
gone-ties other k g = tt

pub stays-ties : (phase next : HoldPhase) (k : SeenPaths) → Stays phase next → Ties phase k → Ties next k
stays-ties phase next k (inl e) t = subst (λ (y : HoldPhase). Ties y k) (sym e) t
stays-ties phase next k (inr g) t = gone-ties next k g

abbrev pub connects : SeenPaths → Option Connected → SeenPaths
connects k y = record k { connected = y }

-- signals that say nothing of a connection
plain-comes : (k : SeenPaths) (p : ℕ) (x : Up) → IsPlainUp x → ComesRight k p x
plain-comes k p (up.Accept t) a = absurd a
plain-comes k p (up.Busy t) a = tt
plain-comes k p (up.Leave t c) a = absurd a
plain-comes k p (up.Back t c) a = tt
plain-comes k p (up.Data load t c n s) a = absurd a
plain-comes k p (up.End t n status more) a = absurd a
plain-comes k p (up.Released t) a = tt
plain-comes k p (up.Cleared r) a = tt
plain-comes k p (up.Notice b) a = tt
plain-comes k p (up.Attn b status) a = tt

plain-by : (k : Option Connected) (p : ℕ) (x : Up) → IsPlainUp x → connected_by p x k ≡ k
plain-by k p (up.Accept t) a = absurd a
plain-by k p (up.Busy t) a = refl
plain-by k p (up.Leave t c) a = absurd a
plain-by k p (up.Back t c) a = refl
plain-by k p (up.Data load t c n s) a = absurd a
plain-by k p (up.End t n status more) a = absurd a
plain-by k p (up.Released t) a = refl
plain-by k p (up.Cleared r) a = refl
plain-by k p (up.Notice b) a = refl
plain-by k p (up.Attn b status) a = refl

plain-goes : (k : Option Connected) (p : ℕ) (d : Down) → IsPlainDown d → GoesRight k p d × (connected_on p d k ≡ k)
plain-goes k p _ (Offers t) = (tt, refl)
plain-goes k p _ (Refuses t c) = (tt, refl)
plain-goes k p _ (Halts t) = (tt, refl)
plain-goes k p _ (Resets r b) = (tt, refl)
plain-goes k p _ (Answers b) = (tt, refl)

plain-answers : (k : Option Connected) (one : Option (OnPath Down)) → ArePlainDown one → IsAnswerRight k one × (connected_with one k ≡ k)
plain-answers k None a = (tt, refl)
plain-answers k (Some s) a = plain-goes k s.path s.signal a

-- commands, and answers to Data
command-goes : (t p c q : ℕ) (d : Down) (k : Option Connected) → k ≡ Some (linked t p c) → AreCommandsOn t p (Some (record { path = q; signal = d })) →
    GoesRight k q d × (connected_on q d k ≡ k)
command-goes t p c q _ k e (Sends_command u n code room number path) = (subst (λ (y : Option Connected). IsConnected y u q) (sym e) (number, path), refl)

commands-go : (t p c : ℕ) (one : Option (OnPath Down)) (k : Option Connected) → k ≡ Some (linked t p c) → AreCommandsOn t p one → IsAnswerRight k one × (connected_with one k ≡ k)
commands-go t p c None k e a = (tt, refl)
commands-go t p c (Some s) k e a = command-goes t p c s.path s.signal k e a

data-goes : (t p c q : ℕ) (d : Down) (k : Option Connected) → k ≡ Some (linked t p c) → AreDataAnswers t p c (Some (record { path = q; signal = d })) →
    GoesRight k q d × (connected_on q d k ≡ k)
data-goes t p c q _ k e (Sends_room u n s room number path) = (subst (λ (y : Option Connected). IsConnected y u q) (sym e) (number, path), refl)
data-goes t p c q _ k e (Sends_bytes bytes u d n s number path connection) =
    (e ∙ ap (λ (n : ℕ). Some (linked n p c)) number ∙ ap (λ (n : ℕ). Some (linked u n c)) path ∙ ap (λ (n : ℕ). Some (linked u q n)) connection, refl)

data-go : (t p c : ℕ) (one : Option (OnPath Down)) (k : Option Connected) → k ≡ Some (linked t p c) → AreDataAnswers t p c one → IsAnswerRight k one × (connected_with one k ≡ k)
data-go t p c None k e a = (tt, refl)
data-go t p c (Some s) k e a = data-goes t p c s.path s.signal k e a

on-path : (t p q c : ℕ) → p ≡ q → Some (linked t p c) ≡ Some (linked t q c)
on-path t p q c e = ap (λ (n : ℕ). Some (linked t n c)) e

offer-path : (t p q : ℕ) → p ≡ q → Some (offer_of t p) ≡ Some (offer_of t q)
offer-path t p q e = ap (λ (n : ℕ). Some (offer_of t n)) e

-- a signal that came up
pub meets-right : (p : ℕ) (x : Up) (phase : HoldPhase) (taken : Bool) (sent : Option (OnPath Down)) (next : HoldPhase) (k : SeenPaths) → Meets p x phase taken sent next →
    SuitsPhase phase p x → Ties phase k → IsReplyRight p (reply.Up x taken sent) k × Ties next (connects k (connected_in p (reply.Up x taken sent) k.connected))
meets-right p _ _ _ _ _ k (Ignored x phase) at tied = (refl, tied)
meets-right p _ _ _ _ _ k (Turns x phase next sent plain stays quiet) at tied =
    let same : connected_by p x k.connected ≡ k.connected = plain-by k.connected p x plain in
    let answer = plain-answers (connected_by p x k.connected) sent quiet in
    ((plain-comes k p x plain, answer.0), subst (λ (y : Option Connected). Ties next (connects k y)) (sym (answer.1 ∙ same)) (stays-ties phase next k stays tied))
meets-right p _ _ _ _ _ k (Begins t q sent commands) at tied =
    let path : p ≡ q = at refl in
    let now : Some (linked t p 0) ≡ Some (linked t q 0) = on-path t p q 0 path in
    let answer = commands-go t q 0 sent (Some (linked t p 0)) now commands in
    ((tied ∙ sym (offer-path t p q path), answer.0), answer.1 ∙ now)
meets-right p _ _ _ _ _ k (Declines t q) at tied = let path : p ≡ q = at refl in ((tied ∙ sym (offer-path t p q path), (refl, path)), tt)
meets-right p _ _ _ _ _ k (Moves t c n s load sent answers) at tied =
    let answer = data-go t p c sent k.connected tied answers in ((tied, answer.0), answer.1 ∙ tied)
meets-right p _ _ _ _ _ k (Ends x t q c sent commands) at tied =
    let path : p ≡ q = at refl in
    let now : k.connected ≡ Some (linked t p c) = tied ∙ sym (on-path t p q c path) in
    let answer = commands-go t p c sent k.connected now commands in
    ((subst (λ (y : Option Connected). IsConnected y t p) (sym now) (refl, refl), answer.0), answer.1 ∙ tied)
meets-right p _ _ _ _ _ k (Ends_last x t q c) at tied =
    let path : p ≡ q = at refl in
    let now : k.connected ≡ Some (linked t p c) = tied ∙ sym (on-path t p q c path) in
    ((subst (λ (y : Option Connected). IsConnected y t p) (sym now) (refl, refl), subst (λ (y : Option Connected). IsConnected y t q) (sym tied) (refl, refl)), tt)
meets-right p _ _ _ _ _ k (Leaves t q c) at tied = let path : p ≡ q = (at refl).0 in ((tied ∙ sym (on-path t p q c path), tt), refl)
meets-right p _ _ _ _ _ k (Grants t c) at tied = ((tt, tt), refl)
