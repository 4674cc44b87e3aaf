-- Which statuses are pending, by their counts (SA22-7832, chapter 16).
use Rattle.std.specs.Prelude.{◌≡◌, ◌≤◌}
use Rattle.subchannel_model.specs.Status.{is_uncleared}
use Rattle.subchannel_model.specs.declared.state.SubchannelState.{SubchannelState}

-- status is pending exactly where some status that was made is not cleared
abbrev pub IsCounted : SubchannelState → Type 0
IsCounted s = (s.serials.cleared ≤ s.serials.made) × (s.scsw.status.pending ≡ is_uncleared s.serials)
