-- The states of channel paths have one source: each subchannel shows them, and nothing waits on a path that is down (SA22-7832,
-- chapter 15, the path-available mask).
use Rattle.std.specs.Prelude.{◌≡◌, ℕ, Bool, false, Some, List, [], slice_get}
use Rattle.chan_model.specs.PathSets.{is_member}
use Rattle.wires.specs.Queues.{queue}
use Rattle.subchannel_model.specs.declared.state.Subchannel.{Subchannel}
use Rattle.machine_model.specs.State.{State}

-- the path-available mask shows whether a path of the subchannel is up; where it is not, no signal waits on it
pub record IsShown (up : List Bool) (sub : Subchannel) : Type 0 where
  pub available : (p chpid : ℕ) (is_up : Bool) → slice_get sub.setup.paths p ≡ Some chpid → slice_get up chpid ≡ Some is_up →
      is_member sub.state.pmcw.available p ≡ is_up
  pub silent : (p chpid : ℕ) → slice_get sub.setup.paths p ≡ Some chpid → slice_get up chpid ≡ Some false →
      (queue sub.wires.down p ≡ []) × (queue sub.wires.up p ≡ [])

abbrev pub AreShown : State → Type 0
AreShown s = (index : ℕ) (sub : Subchannel) → slice_get s.subs index ≡ Some sub → IsShown s.up sub
