-- The program that holds a device: what is seen of a unit by each signal that it takes or sends, and which are right, at the unit and at
-- a subchannel, by what was seen before (own).
use Rattle.std.specs.Prelude.{◌≡◌, ◌⊎◌, ◌<◌, ℕ, ◌+◌, Bool, true, false, if◌then◌else◌, Option, None, Some, List, ◌∷◌}
use Rattle.chan_model.specs.declared.names.Side.{Side}
use Rattle.chan_model.specs.declared.names.Side.TheVariants.{First, Second}
use Rattle.chan_model.specs.Signals.{Down}
use Rattle.chan_model.specs.declared.signal.Down.TheVariants as down
use Rattle.chan_model.specs.declared.signal.OnPath.{OnPath}
use Rattle.chan_model.specs.Signals.{Up}
use Rattle.chan_model.specs.declared.signal.Up.TheVariants as up
use Rattle.chan_model.specs.Sides.{same_side}
use Rattle.agreement_laws.specs.Holders.{SideAnswered, IsRestarted}

-- a program holds the device: of this side, under this number
pub record Holder : Type 0 where
  pub side : Side
  pub number : ℕ

abbrev pub holder : Side → ℕ → Option Holder
holder side t = Some (record { side = side; number = t })

-- how often the unit was restarted, the program that holds its device, the number of the command that it took last of it, and its sides
pub record Holding : Type 0 where
  pub restarts : ℕ
  pub holder : Option Holder
  pub command : ℕ
  pub first : SideAnswered
  pub second : SideAnswered

abbrev pub side_seen : Holding → Side → SideAnswered
side_seen k First = k.first
side_seen k Second = k.second

abbrev pub with_seen : Holding → Side → SideAnswered → Holding
with_seen k First x = record k { first = x }
with_seen k Second x = record k { second = x }

abbrev pub with_answered : Holding → Side → ℕ → Holding
with_answered k side t = with_seen k side (record (side_seen k side) { number = t })

abbrev pub let_go : Holding → Holding
let_go k = record k { holder = None; command = 0 }

abbrev pub is_held_by : Option Holder → Side → Bool
is_held_by None side = false
is_held_by (Some h) side = same_side h.side side

-- the unit is restarted
abbrev pub with_restart : Holding → Holding
with_restart k = record {
  restarts = k.restarts + 1;
  holder = None;
  command = 0;
  first = record k.first { restarted = true };
  second = record k.second { restarted = true };
}

-- the unit answered this side: by Accept its program holds the device, by Released it holds it no more, nor by Cleared where it was of
-- this side
abbrev pub held_after : Side → Up → Holding → Holding
held_after side (up.Accept t) k = record (with_answered k side t) { holder = holder side t; command = 0 }
held_after side (up.Busy t) k = with_answered k side t
held_after side (up.Released t) k = let_go k
held_after side (up.Cleared r) k = with_seen (if is_held_by k.holder side then let_go k else k) side (record { number = r; restarted = false })
held_after side signal k = k

-- the unit took a signal without an answer
abbrev pub taken_after : Down → Holding → Holding
taken_after (down.Command t n code room) k = record k { command = n }
taken_after signal k = k

abbrev pub held_met : Side → Down → Bool → Option (OnPath Up) → Holding → Holding
held_met side signal true (Some sent) k = held_after side sent.signal k
held_met side signal true None k = taken_after signal k
held_met side signal false sent k = k

-- the program of this side and number holds the device; no program holds it; the number is above all that this side answered
abbrev pub IsHolder : Holding → Side → ℕ → Type 0
IsHolder k side t = k.holder ≡ holder side t

abbrev pub IsUnheld : Holding → Type 0
IsUnheld k = k.holder ≡ None

abbrev pub IsHigher : Holding → Side → ℕ → Type 0
IsHigher k side t = (side_seen k side).number < t

-- What is taken without an answer is of the program that holds the device: its commands one by one, and chunks of the last. Got is of no
-- program.
abbrev pub IsTakenRight : Holding → Side → Down → Type 0
IsTakenRight k side (down.Select t) = ⊥
IsTakenRight k side (down.Command t n code room) = IsHolder k side t × (n ≡ k.command + 1)
IsTakenRight k side (down.Grant t c) = IsHolder k side t
IsTakenRight k side (down.Refuse t c) = IsHolder k side t
IsTakenRight k side (down.Took t n s room) = IsHolder k side t × (n ≡ k.command)
IsTakenRight k side (down.Give bytes t c n s) = IsHolder k side t × (n ≡ k.command)
IsTakenRight k side (down.Halt t) = IsHolder k side t
IsTakenRight k side (down.Release t) = ⊥
IsTakenRight k side (down.Reset r b) = ⊥
IsTakenRight k side (down.Got a) = Unit {0}

-- Accept and Busy answer a Select of their number, and Cleared a Reset of its that knows of all restarts, each above all before; Accept
-- where no program holds the device. Released answers a Release, and Leave a Grant, of the program that holds it. Notice tells how often
-- the unit was restarted, where it was since Cleared. Nothing else is sent.
abbrev pub IsAnswerOf : Holding → Side → Down → Up → Type 0
IsAnswerOf k side signal (up.Accept t) = (signal ≡ down.Select t) × IsUnheld k × IsHigher k side t
IsAnswerOf k side signal (up.Busy t) = (signal ≡ down.Select t) × IsHigher k side t
IsAnswerOf k side signal (up.Released t) = (signal ≡ down.Release t) × IsHolder k side t
IsAnswerOf k side signal (up.Leave t c) = (signal ≡ down.Grant t c) × IsHolder k side t
IsAnswerOf k side signal (up.Cleared r) = (signal ≡ down.Reset r k.restarts) × IsHigher k side r
IsAnswerOf k side signal (up.Notice b) = (b ≡ k.restarts) × ((side_seen k side).restarted ≡ true)
IsAnswerOf k side signal sent = ⊥

-- what is not taken is not answered
abbrev pub IsMetRight : Side → Down → Bool → Option (OnPath Up) → Holding → Type 0
IsMetRight side signal true (Some sent) k = IsAnswerOf k side signal sent.signal
IsMetRight side signal true None k = IsTakenRight k side signal
IsMetRight side signal false sent k = sent ≡ None

-- after a restart a side answers each signal by Notice, until it sends Cleared
abbrev pub IsRestartWord : Up → Type 0
IsRestartWord (up.Notice b) = Unit {0}
IsRestartWord (up.Cleared r) = Unit {0}
IsRestartWord sent = ⊥

abbrev pub IsTold : Bool → Option (OnPath Up) → Type 0
IsTold true (Some sent) = IsRestartWord sent.signal
IsTold true None = ⊥
IsTold false sent = ⊥

-- what the unit sends of itself, or for its device, is of the program that holds it; an Attn where none does, and not after a restart
abbrev pub IsSaidRight : Holding → Side → Up → Type 0
IsSaidRight k side (up.Data load t c n s) = IsHolder k side t
IsSaidRight k side (up.End t n status more) = IsHolder k side t
IsSaidRight k side (up.Leave t c) = IsHolder k side t
IsSaidRight k side (up.Back t c) = IsHolder k side t
IsSaidRight k side (up.Notice b) = (b ≡ k.restarts) × ((side_seen k side).restarted ≡ true)
IsSaidRight k side (up.Attn a status) = IsUnheld k × ((side_seen k side).restarted ≡ false)
IsSaidRight k side x = ⊥

-- the numbers of the Accepts that are sent to this side
abbrev pub with_accept : Side → Side → Up → List ℕ → List ℕ
with_accept side s (up.Accept t) ts = if same_side s side then t ∷ ts else ts
with_accept side s x ts = ts

-- At a subchannel the program of this side and number holds the device, or none of this side does; but where the unit was restarted, and
-- did not send it Cleared since.
abbrev pub IsHolderOr : Holding → Side → ℕ → Type 0
IsHolderOr k side t = IsHolder k side t ⊎ IsRestarted (side_seen k side)

abbrev pub IsUnheldOr : Holding → Side → Type 0
IsUnheldOr k side = (is_held_by k.holder side ≡ false) ⊎ IsRestarted (side_seen k side)

-- what is sent in answer
abbrev pub IsGrantToHolder : Holding → Side → Down → Type 0
IsGrantToHolder k side (down.Grant t c) = IsHolderOr k side t
IsGrantToHolder k side signal = Unit {0}

-- and of itself or for its program
abbrev pub GoesToHolder : Holding → Side → Down → Type 0
GoesToHolder k side (down.Select t) = IsUnheldOr k side
GoesToHolder k side (down.Command t n code room) = IsHolderOr k side t
GoesToHolder k side (down.Took t n s room) = IsHolderOr k side t
GoesToHolder k side (down.Give bytes t c n s) = IsHolderOr k side t
GoesToHolder k side (down.Halt t) = IsHolderOr k side t
GoesToHolder k side (down.Release t) = IsHolderOr k side t
GoesToHolder k side signal = Unit {0}
