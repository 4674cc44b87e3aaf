-- By which path the signals of a side's programs go, over wires that lose, repeat and mix them: what is taken of a program and what is
-- sent to it goes by the path of the last Accept that was taken or Grant that was sent (SA22-7832, chapter 15, the working allegiance),
-- and at the device by that of the last Accept that was sent or Grant that was taken.
use Rattle.std.specs.Prelude.{◌≡◌, ◌==◌, ℕ, Bool, true, false, if◌then◌else◌, Option, None, Some, IfSome, List, []}
use Rattle.chan_model.specs.declared.names.Side.{Side}
use Rattle.chan_model.specs.Sides.{same_side}
use Rattle.agreement_laws.specs.PathsSeen.{Connected, Offered, SeenPaths, answered_down, sent_down, sent_up, taken_down, taken_up, IsAnswerRight, ArrivesRight, ComesRight, GoesRight, SendsRight, TakesRight}
use Rattle.agree.specs.declared.event.WorldEvent.{WorldEvent}
use Rattle.agree.specs.declared.event.WorldEvent.TheVariants as event
use Rattle.agree.specs.declared.reply.WorldReply.{WorldReply}
use Rattle.agree.specs.declared.reply.WorldReply.TheVariants as reply
use Rattle.agree.specs.Histories.{WorldEntry, Throughout}

-- at this side
abbrev pub seen_here : WorldReply → SeenPaths → SeenPaths
seen_here reply.Done k = k
seen_here (reply.Down s x true sent) k = taken_down x sent k
seen_here (reply.Down s x false sent) k = k
seen_here (reply.Up s x true sent) k = answered_down sent (taken_up x k)
seen_here (reply.Up s x false sent) k = k
seen_here (reply.SentDown s x) k = sent_down x k
seen_here (reply.SentUp s x) k = sent_up x k

abbrev pub is_at : WorldReply → Side → Bool
is_at reply.Done side = false
is_at (reply.Down s x taken sent) side = same_side s side
is_at (reply.Up s x taken sent) side = same_side s side
is_at (reply.SentDown s x) side = same_side s side
is_at (reply.SentUp s x) side = same_side s side

abbrev pub seen_in : Side → WorldReply → SeenPaths → SeenPaths
seen_in side r k = if is_at r side then seen_here r k else k

-- nothing is offered and nothing connected
abbrev pub cleared : SeenPaths → SeenPaths
cleared k = record k { offered = None; connected = None }

-- nothing is, on this path
abbrev pub cut_offer : ℕ → Option Offered → Option Offered
cut_offer p None = None
cut_offer p (Some o) = if o.path == p then None else Some o

abbrev pub cut_connected : ℕ → Option Connected → Option Connected
cut_connected p None = None
cut_connected p (Some k) = if k.path == p then None else Some k

abbrev pub cut_at : ℕ → SeenPaths → SeenPaths
cut_at p k = record k { offered = cut_offer p k.offered; connected = cut_connected p k.connected }

-- a clear, a reset of the subsystem, and the loss of its path end what is offered and connected; a restart leaves nothing moving
abbrev pub seen_after : Side → WorldEvent → WorldReply → SeenPaths → SeenPaths
seen_after side (event.Clear s) r k = if same_side s side then cleared k else k
seen_after side event.SubsystemReset r k = cleared k
seen_after side (event.PathDown s p) r k = if same_side s side then cut_at p k else k
seen_after side (event.PathReset s p) r k = if same_side s side then cut_at p k else k
seen_after side event.Restart r k = record k { moving = None }
seen_after side e r k = seen_in side r k

abbrev pub IsHereRight : WorldReply → SeenPaths → Type 0
IsHereRight reply.Done k = Unit {0}
IsHereRight (reply.Down s x true None) k = TakesRight k.moving x.path x.signal
IsHereRight (reply.Down s x true (Some sent)) k = sent.path ≡ x.path
IsHereRight (reply.Down s x false sent) k = sent ≡ None
IsHereRight (reply.Up s x true sent) k = ArrivesRight k x.path x.signal × ComesRight k x.path x.signal × IfSome sent (λ y. IsAnswerRight k.connected x y.path y.signal)
IsHereRight (reply.Up s x false sent) k = ArrivesRight k x.path x.signal × (sent ≡ None)
IsHereRight (reply.SentDown s x) k = GoesRight k.connected x.path x.signal
IsHereRight (reply.SentUp s x) k = SendsRight k.moving x.path x.signal

-- of an entry of this side
abbrev pub IsRight : Side → WorldReply → SeenPaths → Type 0
IsRight side r k = is_at r side ≡ true → IsHereRight r k

abbrev pub nothing_seen : SeenPaths
nothing_seen = record { offered = None; connected = None; answered = 0; moving = None; ways = [] }

-- of each side
abbrev pub IsByItsPath : List WorldEntry → Type 0
IsByItsPath h = (side : Side) → Throughout (seen_after side) (IsRight side) nothing_seen h
