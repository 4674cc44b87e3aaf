-- The steps in which the subsystem does what it must for a subchannel (own).
use Rattle.std.specs.Prelude.{◌≡◌, ℕ, ◌+◌, if◌then◌else◌, Option, None, Some, Result, Ok, Err}
use Rattle.chan_model.specs.declared.fault.Fault.{Fault}
use Rattle.chan_model.specs.declared.fault.Fault.TheVariants as fault
use Rattle.chan_model.specs.Signals.{Down}
use Rattle.chan_model.specs.declared.signal.Down.TheVariants as down
use Rattle.chan_events.specs.Replies.{Reply}
use Rattle.chan_events.specs.declared.reply.Reply.TheVariants as reply
use Rattle.path_select.specs.Choice.{IsChoice}
use Rattle.subchannel_model.specs.declared.state.SubchannelState.{SubchannelState}
use Rattle.subchannel_model.specs.declared.state.Subchannel.{Subchannel}
use Rattle.subchannel_model.specs.declared.cause.StatusCause.{StatusCause}
use Rattle.subchannel_model.specs.declared.cause.StatusCause.TheVariants as cause
use Rattle.machine_model.specs.State.{State}
use Rattle.subchannel_model.specs.declared.state.Chosen.{Chosen}
use Rattle.subchannel_model.specs.declared.state.Chosen.TheVariants.{Idle, Resets, PerformsClear, Halts, PerformsHalt, FindsNoPath, Offers}
use Rattle.subchannel_model.specs.Causes.{with_cause}
use Rattle.subchannel_model.specs.Choosing.{chosen, marked_sub, paths_to_choose, reset_sent, halt_sent, offered}
use Rattle.machine_model.specs.Results.{Outcome, SubResult, leaves, with_state, at_sub}
use Rattle.subchannel_model.specs.Indices.{Found}
use Rattle.subchannel_model.specs.Sending.{carried_by, finds_full, with_any_sent}

-- a signal is sent
abbrev pub send_sub : Subchannel → SubchannelState → ℕ → Down → Reply → Result SubResult Fault
send_sub sub state path signal r =
    let sent = carried_by sub (Some (record { path = path; signal = signal })) in
    if finds_full sub.wires.down sent then Err fault.WireFull
    else Ok (leaves r (record sub { state = state; wires = record sub.wires { down = with_any_sent sub.wires.down sent } }))

-- a status is made pending
abbrev pub pend_sub : Subchannel → StatusCause → Result SubResult Fault
pend_sub sub cause = Ok (leaves reply.Pending (with_state sub (with_cause sub.state cause)))

abbrev pub choose_sub : Subchannel → Chosen → Result SubResult Fault
choose_sub sub Idle = Ok (leaves reply.Idle sub)
choose_sub sub (Resets r path) = send_sub sub (reset_sent sub.state path) path (down.Reset r sub.state.hold.known_restarts) (reply.ResetSent r path)
choose_sub sub PerformsClear = pend_sub sub cause.ClearDone
choose_sub sub (Halts t path) = send_sub sub (halt_sent sub.state) path (down.Halt t) (reply.HaltSent t path)
choose_sub sub PerformsHalt = pend_sub sub cause.HaltDone
choose_sub sub FindsNoPath = pend_sub sub cause.NoPath
choose_sub sub (Offers c path) =
    send_sub sub (offered sub.state c.program path) path (down.Select (sub.state.drawn + 1)) (reply.Offered (sub.state.drawn + 1) path c.resumes)

abbrev pub Chooses : State → Option Found → Outcome → Type 0
Chooses s None r = r ≡ Err fault.NoSuchSubchannel
Chooses s (Some f) r =
    (choice : Option ℕ) × IsChoice (paths_to_choose s.subs f.sub) choice × (r ≡ at_sub s f.index (choose_sub (marked_sub f.sub choice) (chosen f.sub choice)))
