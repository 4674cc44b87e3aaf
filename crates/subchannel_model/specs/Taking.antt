-- What a subchannel does with a signal that came up by a path (own): each signal has its file.
use Rattle.std.specs.Prelude.{ℕ, Bool, false}
use Rattle.storage_keys.specs.Storage.{Contents}
use Rattle.chan_model.specs.Signals.{Up}
use Rattle.chan_model.specs.declared.signal.Up.TheVariants as up
use Rattle.chan_model.specs.HoldTable.{hold_takes}
use Rattle.subchannel_model.specs.declared.state.SubchannelState.{SubchannelState}
use Rattle.subchannel_model.specs.Outcomes.{SignalOutcome, with_storage, hold_outcome}
use Rattle.subchannel_model.specs.Accept.{takes_device, takes_accept}
use Rattle.subchannel_model.specs.Data.{takes_data}
use Rattle.subchannel_model.specs.End.{takes_end}
use Rattle.subchannel_model.specs.Cleared.{takes_cleared}
use Rattle.subchannel_model.specs.Back.{takes_back}
use Rattle.subchannel_model.specs.Notice.{takes_notice}
use Rattle.subchannel_model.specs.Attention.{may_take_attention, takes_attention}

-- returns: a program that is away may come back by the path. Busy, Leave and Released are taken by the hold alone
abbrev pub takes_up : Bool → Contents → SubchannelState → ℕ → Up → SignalOutcome
takes_up returns storage s path (up.Accept t) =
    with_storage storage (takes_accept storage s (hold_takes s.hold path (up.Accept t) (takes_device s)))
takes_up returns storage s path (up.Data load t c n sequence) =
    takes_data storage s (record { path = path; number = t; connection = c; command = n; sequence = sequence }) load
takes_up returns storage s path (up.End t n status more) =
    with_storage storage (takes_end storage s (record { path = path; number = t; command = n; status = status; more = more }))
takes_up returns storage s path (up.Cleared r) = with_storage storage (takes_cleared s (hold_takes s.hold path (up.Cleared r) false))
takes_up returns storage s path (up.Back t c) = with_storage storage (takes_back s path (hold_takes s.hold path (up.Back t c) returns))
takes_up returns storage s path (up.Notice restarts) = with_storage storage (takes_notice s restarts)
takes_up returns storage s path (up.Attn a status) =
    with_storage storage (takes_attention s status (hold_takes s.hold path (up.Attn a status) (may_take_attention s)))
takes_up returns storage s path signal = with_storage storage (hold_outcome s (hold_takes s.hold path signal false))
