-- When each subchannel and its unit agree on the program that holds the device (own).
use Rattle.std.specs.Prelude.{◌≡◌, ◌⊎◌, ◌<◌, ℕ, true, Some, List, slice_get}
use Rattle.chan_model.specs.declared.hold_state.HoldPhase.{HoldPhase}
use Rattle.chan_model.specs.declared.names.Side.{Side}
use Rattle.chan_model.specs.declared.hold_state.HoldPhase.TheVariants as hold
use Rattle.chan_events.specs.Events.{Event}
use Rattle.chan_events.specs.declared.event.Event.TheVariants as event
use Rattle.chan_events.specs.declared.reply.Entry.{Entry}
use Rattle.chan_events.specs.Replies.{Reply}
use Rattle.chan_events.specs.declared.reply.Reply.TheVariants as reply
use Rattle.chan_model.specs.declared.unit_state.UnitState.{UnitState}
use Rattle.chan_model.specs.Agreement.{Agrees, IsOutstanding, owner_of, moving_path, device_path}
use Rattle.chan_model.specs.UnitTable.{side_of, resets}
use Rattle.chan_model.specs.declared.signal.Down.TheVariants as down
use Rattle.wires.specs.Queues.{first_of}
use Rattle.subchannel_model.specs.declared.state.Subchannel.{Subchannel}
use Rattle.machine_model.specs.State.{State, index_of}
use Rattle.machine_model.specs.Steps.{Run}

pub record IsAgreed (phase : HoldPhase) (u : UnitState) (side : Side) : Type 0 where
  -- they agree, except while a reset isn't yet taken
  pub agree : Agrees phase (owner_of u.own side) ⊎ IsOutstanding phase (side_of u side)
  -- where the subsystem moves data on p and the device on q, p is q
  pub one_path : (p q : ℕ) → moving_path phase ≡ Some p → device_path u.own side ≡ Some q → p ≡ q

-- each subchannel and its unit do
abbrev pub AllAgree : State → Type 0
AllAgree s = (index : ℕ) (sub : Subchannel) (u : UnitState) → slice_get s.subs index ≡ Some sub → slice_get s.units sub.setup.«unit» ≡ Some u →
    IsAgreed sub.state.hold.phase u sub.setup.side

-- these entries lead to a state in which they do
abbrev pub LeadsToAgreed : State → List Entry → Type 0
LeadsToAgreed opening h = (s : State) × Run opening h s × AllAgree s

-- the signal that came down is the Reset of the hold, and the unit took it
abbrev pub IsEnd : Subchannel → UnitState → Reply → Type 0
IsEnd sub u (reply.Down (down.Reset r b) taken sent) = (taken ≡ true) × (sub.state.hold.phase ≡ hold.Reset r) × (resets u sub.setup.side r b ≡ true)
IsEnd sub u r = ⊥

abbrev pub IsDownTo : State → Event → ℕ → Type 0
IsDownTo s (event.Down word path) index = index_of s word ≡ Some index
IsDownTo s e index = ⊥

-- a reset that isn't yet taken stays so in a step, but where in that step the unit takes it, and they agree right after
abbrev pub HoldEndsByReset : State → Event → Reply → State → Type 0
HoldEndsByReset s e r new = (index : ℕ) (sub after : Subchannel) (u v : UnitState) → slice_get s.subs index ≡ Some sub → slice_get new.subs index ≡ Some after →
    slice_get s.units sub.setup.«unit» ≡ Some u → slice_get new.units sub.setup.«unit» ≡ Some v → IsOutstanding sub.state.hold.phase (side_of u sub.setup.side) →
    IsOutstanding after.state.hold.phase (side_of v sub.setup.side)
    ⊎ (IsDownTo s e index × IsEnd sub u r × Agrees after.state.hold.phase (owner_of v.own sub.setup.side))

-- where the signal that waits longest on a wire down is a Reset that the unit would take, its number is above the floor
abbrev pub AreAbove : State → Type 0
AreAbove s = (index : ℕ) (sub : Subchannel) (u : UnitState) (p r b : ℕ) → slice_get s.subs index ≡ Some sub → slice_get s.units sub.setup.«unit» ≡ Some u →
    first_of sub.wires.down p ≡ Some (down.Reset r b) → resets u sub.setup.side r b ≡ true → (side_of u sub.setup.side).floor < r
