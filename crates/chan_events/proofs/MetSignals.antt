-- The reply to a signal that was met is told by what is kept of it: its signals are those that it has with its bytes.
use Rattle.std.proofs.Common.{◌≡◌, ℕ, List, ◌++◌, length, drop, Bool, Option, None, Some, sym, ap, ap₂, ◌∙◌, subst}
use Rattle.std.proofs.lemmas.List.{append_assoc, drop_at}
use Rattle.chan_model.specs.declared.signal.OnPath.{OnPath}
use Rattle.chan_model.specs.Signals.{Down, KeptDown, KeptUp, Up, down_in, down_bytes, down_length, up_in, up_bytes, up_length}
use Rattle.chan_events.specs.declared.reply.Reply.TheVariants as reply
use Rattle.chan_events.specs.Replies.{Reply, down_met, reply_bytes, up_met}

-- two signals with the bytes of both, one after the other
two-kept : {A B K L : Type 0} (one-in : K → List ℕ → A) (two-in : L → List ℕ → B) (k : K) (l : L) (x : A) (y : B) (a b rest : List ℕ) (n : ℕ) →
    ((r : List ℕ) → one-in k (a ++ r) ≡ x) → ((r : List ℕ) → two-in l (b ++ r) ≡ y) → n ≡ length a → {C : Type 0} (made : A → B → C) →
    made (one-in k (a ++ b ++ rest)) (two-in l (drop n (a ++ b ++ rest))) ≡ made x y
two-kept one-in two-in k l x y a b rest n first second counts made =
    ap₂ made
    (ap (one-in k) (append_assoc a b rest) ∙ first (b ++ rest))
    (ap (two-in l) (ap (drop n) (append_assoc a b rest) ∙ drop_at a (b ++ rest) n (sym counts)) ∙ second rest)

pub up-alone : (signal : Up) (taken : Bool) (sent : Option (OnPath Down)) (k : KeptUp) (rest : List ℕ) → sent ≡ None →
    ((r : List ℕ) → up_in k (up_bytes signal ++ r) ≡ signal) →
    ◌≡◌ {A = Reply} (reply.Up (up_in k (reply_bytes (reply.Up signal taken sent) ++ rest)) taken None) (reply.Up signal taken sent)
up-alone signal taken sent k rest is kept =
    subst (λ (x : Option (OnPath Down)). ◌≡◌ {A = Reply} (reply.Up (up_in k (reply_bytes (reply.Up signal taken x) ++ rest)) taken None) (reply.Up signal taken x)) (sym is)
    (ap (λ (s : Up). reply.Up s taken None) (kept rest))

pub up-answered : (signal : Up) (taken : Bool) (sent : Option (OnPath Down)) (s : OnPath Down) (k : KeptUp) (l : KeptDown) (rest : List ℕ) → sent ≡ Some s →
    ((r : List ℕ) → up_in k (up_bytes signal ++ r) ≡ signal) → up_length k ≡ length (up_bytes signal) →
    ((r : List ℕ) → down_in l (down_bytes s.signal ++ r) ≡ s.signal) →
    up_met taken s.path (up_in k (reply_bytes (reply.Up signal taken sent) ++ rest)) (down_in l (drop (up_length k) (reply_bytes (reply.Up signal taken sent) ++ rest)))
    ≡ reply.Up signal taken sent
up-answered signal taken sent s k l rest is first counts second =
    subst (λ (x : Option (OnPath Down)). up_met taken s.path (up_in k (reply_bytes (reply.Up signal taken x) ++ rest)) (down_in l (drop (up_length k) (reply_bytes (reply.Up signal taken x) ++ rest))) ≡ reply.Up signal taken x) (sym is)
    (two-kept up_in down_in k l signal s.signal (up_bytes signal) (down_bytes s.signal) rest (up_length k) first second counts (up_met taken s.path))

pub down-alone : (signal : Down) (taken : Bool) (sent : Option (OnPath Up)) (k : KeptDown) (rest : List ℕ) → sent ≡ None →
    ((r : List ℕ) → down_in k (down_bytes signal ++ r) ≡ signal) →
    ◌≡◌ {A = Reply} (reply.Down (down_in k (reply_bytes (reply.Down signal taken sent) ++ rest)) taken None) (reply.Down signal taken sent)
down-alone signal taken sent k rest is kept =
    subst (λ (x : Option (OnPath Up)). ◌≡◌ {A = Reply} (reply.Down (down_in k (reply_bytes (reply.Down signal taken x) ++ rest)) taken None) (reply.Down signal taken x)) (sym is)
    (ap (λ (s : Down). reply.Down s taken None) (kept rest))

pub down-answered : (signal : Down) (taken : Bool) (sent : Option (OnPath Up)) (s : OnPath Up) (k : KeptDown) (l : KeptUp) (rest : List ℕ) → sent ≡ Some s →
    ((r : List ℕ) → down_in k (down_bytes signal ++ r) ≡ signal) → down_length k ≡ length (down_bytes signal) →
    ((r : List ℕ) → up_in l (up_bytes s.signal ++ r) ≡ s.signal) →
    down_met taken s.path (down_in k (reply_bytes (reply.Down signal taken sent) ++ rest)) (up_in l (drop (down_length k) (reply_bytes (reply.Down signal taken sent) ++ rest)))
    ≡ reply.Down signal taken sent
down-answered signal taken sent s k l rest is first counts second =
    subst (λ (x : Option (OnPath Up)). down_met taken s.path (down_in k (reply_bytes (reply.Down signal taken x) ++ rest)) (up_in l (drop (down_length k) (reply_bytes (reply.Down signal taken x) ++ rest))) ≡ reply.Down signal taken x) (sym is)
    (two-kept down_in up_in k l signal s.signal (down_bytes signal) (up_bytes s.signal) rest (down_length k) first second counts (down_met taken s.path))
