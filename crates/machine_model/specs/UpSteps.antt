-- The steps in which a subchannel takes the signal that waits longest on a wire up; the bytes of a read are stored (own).
use Rattle.std.specs.Prelude.{ℕ, Bool, false, not, ◌&&◌, nat_lt, List, if◌then◌else◌, Option, None, Some, length, slice_get, Result, Ok, Err}
use Rattle.storage_keys.specs.Storage.{Contents}
use Rattle.chan_model.specs.declared.fault.Fault.{Fault}
use Rattle.chan_model.specs.declared.fault.Fault.TheVariants as fault
use Rattle.chan_model.specs.Signals.{Up}
use Rattle.chan_model.specs.declared.signal.Up.TheVariants as up
use Rattle.chan_model.specs.PathSets.{is_member}
use Rattle.subchannel_model.specs.Choosing.{return_paths, engaged_paths}
use Rattle.chan_events.specs.declared.reply.Reply.TheVariants as reply
use Rattle.wires.specs.Queues.{queue, taken}
use Rattle.subchannel_model.specs.declared.state.Subchannel.{Subchannel}
use Rattle.machine_model.specs.State.{State}
use Rattle.subchannel_model.specs.declared.state.UpStep.{UpStep}
use Rattle.subchannel_model.specs.Taking.{takes_up}
use Rattle.machine_model.specs.Results.{Outcome, UpResult, at_storage}
use Rattle.subchannel_model.specs.Indices.{Found}
use Rattle.subchannel_model.specs.Sending.{carried_by, finds_full, with_any_sent}

abbrev pub with_met : Subchannel → ℕ → UpStep → Subchannel
with_met sub path step =
    record sub { state = step.state; wires = record { down = with_any_sent sub.wires.down (carried_by sub step.outcome.sent); up = taken sub.wires.up path } }

abbrev pub up_front : Bool → Contents → Subchannel → ℕ → Option Up → Result UpResult Fault
up_front returns storage sub path None = Err fault.NotSent
up_front returns storage sub path (Some signal) =
    let m = takes_up returns storage sub.state path signal in
    if finds_full sub.wires.down (carried_by sub m.step.outcome.sent) then Err fault.WireFull
    else Ok (record { reply = reply.Up signal m.step.outcome.taken m.step.outcome.sent; sub = with_met sub path m.step; storage = m.storage })

abbrev pub up_sub : Bool → Contents → Subchannel → ℕ → Result UpResult Fault
up_sub returns storage sub path =
    if nat_lt path (length sub.setup.paths) then up_front returns storage sub path (slice_get (queue sub.wires.up path) 0)
    else Err fault.NoSuchPath

-- a Back asks for its path: one by which the program may come back, whose engine serves no subchannel
abbrev pub may_return : List Subchannel → Subchannel → ℕ → Bool
may_return subs sub path = is_member (return_paths sub) path && not (is_member (engaged_paths subs sub) path)

abbrev pub returns_by : List Subchannel → Subchannel → ℕ → Option Up → Bool
returns_by subs sub path front = elim front [ Some (up.Back t c) ↦ may_return subs sub path | other ↦ false ]

abbrev pub returns_at : List Subchannel → Subchannel → ℕ → Bool
returns_at subs sub path = returns_by subs sub path (slice_get (queue sub.wires.up path) 0)

abbrev pub up_at : State → Option Found → ℕ → Outcome
up_at s None path = Err fault.NoSuchSubchannel
up_at s (Some f) path = at_storage s f.index (up_sub (returns_at s.subs f.sub path) s.storage f.sub path)
