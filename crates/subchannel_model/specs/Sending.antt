-- Signals that are sent on the wires of a subchannel's paths (own).
use Rattle.std.specs.Prelude.{ℕ, Bool, false, ◌==◌, if◌then◌else◌, Option, None, Some, List, length}
use Rattle.chan_model.specs.PathSets.{is_member}
use Rattle.chan_model.specs.declared.signal.OnPath.{OnPath}
use Rattle.wires.specs.Queues.{queue, sent}
use Rattle.subchannel_model.specs.declared.state.Subchannel.{Subchannel}

-- a signal that is sent on a path that is down vanishes
abbrev pub carried_where : {A : Type 0} → Bool → OnPath A → Option (OnPath A)
carried_where available s = if available then Some s else None

abbrev pub carried : {A : Type 0} → List Bool → Option (OnPath A) → Option (OnPath A)
carried available None = None
carried available (Some s) = carried_where (is_member available s.path) s

abbrev pub carried_by : {A : Type 0} → Subchannel → Option (OnPath A) → Option (OnPath A)
carried_by sub one = carried sub.state.pmcw.available one

-- a wire has room for 8 signals
abbrev pub is_full : {A : Type 0} → List (List A) → ℕ → Bool
is_full queues path = length (queue queues path) == 8

-- a signal that must be sent finds its wire full
abbrev pub finds_full : {A : Type 0} → List (List A) → Option (OnPath A) → Bool
finds_full queues None = false
finds_full queues (Some s) = is_full queues s.path

abbrev pub with_any_sent : {A : Type 0} → List (List A) → Option (OnPath A) → List (List A)
with_any_sent queues None = queues
with_any_sent queues (Some s) = sent queues s.path s.signal
