-- What befalls every subchannel at once: a claim of one is kept where each part of it keeps the claim.
use Rattle.std.proofs.Common.{◌≡◌, refl, ℕ, Bool, true, false, Option, None, Some}
use Rattle.std.specs.Prelude.{if◌then◌else◌}
use Rattle.chan_model.specs.ResetCauses.{rests_on}
use Rattle.wires.specs.Queues.{Queues, lost}
use Rattle.subchannel_model.specs.declared.state.Subchannel.{Subchannel}
use Rattle.subchannel_model.specs.Losing.{reset_for, path_index, loses_at, loses, shows_at}
use Rattle.subchannel_model.specs.SystemReset.{reset_by_system}
use Rattle.machine_model.specs.declared.state.Sweep.{Sweep}
use Rattle.machine_model.specs.declared.state.Sweep.TheVariants as sweep
use Rattle.machine_model.specs.PathSteps.{swept}

-- the path-available mask shows a path; the signals of a path are lost, then the hold, or not; all is reset
module _ (x : Subchannel) (Q : Subchannel → Type 0)
    (shows : (y : Subchannel) (path : ℕ) (up : Bool) → Q y → Q (shows_at (Some path) up y))
    (drops : (path : ℕ) → Q x → Q (record x { wires = record { down = lost x.wires.down path; up = lost x.wires.up path } }))
    (resets : (wires : Queues) → Q (record x { wires = wires }) → Q (record x { state = reset_for x.state; wires = wires }))
    (all : Q x → Q (reset_by_system x)) where
  shows-kept : (path : Option ℕ) (up : Bool) (y : Subchannel) → Q y → Q (shows_at path up y)
  shows-kept None up y q = q
  shows-kept (Some path) up y q = shows y path up q

  lost-kept : (wires : Queues) (rests : Bool) → Q (record x { wires = wires }) →
      Q (record x { state = if rests then reset_for x.state else x.state; wires = wires })
  lost-kept wires true q = resets wires q
  lost-kept wires false q = q

  loses-kept : (path : Option ℕ) → Q x → Q (loses_at path x)
  loses-kept None q = q
  loses-kept (Some path) q = lost-kept (record { down = lost x.wires.down path; up = lost x.wires.up path }) (rests_on x.state.hold path) (drops path q)

  pub swept-kept : (what : Sweep) → Q x → Q (swept what x)
  swept-kept (sweep.GoesDown chpid) q =
      shows-kept (path_index chpid (loses chpid x).setup.paths) false (loses chpid x) (loses-kept (path_index chpid x.setup.paths) q)
  swept-kept (sweep.ComesUp chpid) q = shows-kept (path_index chpid x.setup.paths) true x q
  swept-kept (sweep.PathReset chpid) q = loses-kept (path_index chpid x.setup.paths) q
  swept-kept sweep.SystemReset q = all q

-- no subchannel is set up otherwise
pub swept-setup : (what : Sweep) (x : Subchannel) → (swept what x).setup ≡ x.setup
swept-setup what x = swept-kept x (λ y. y.setup ≡ x.setup) (λ y path up e. e) (λ path e. e) (λ wires e. e) (λ e. e) what refl
