use Rattle.std.proofs.Common.{◌≡◌, ℕ, not}
use Rattle.allegiance.specs.PathUse.{usable_paths}
use Rattle.chan_model.specs.PathSets.{is_member}
use Rattle.chan_model.proofs.PathFilling.{set_each}
use Rattle.subchannel_model.specs.Choosing.{engaged_paths, path_use}
use Rattle.subchannel.proofs.paths.usable_paths.Given as goal

-- what is left once the paths to come are asked
abbrev pub invariant-loop-path : goal.invariant-loop-path
invariant-loop-path l =
    set_each (λ (p : ℕ). not (is_member (engaged_paths l.subs l.sub) p)) l.usable l.path-iterator ≡ usable_paths (path_use l.sub) (engaged_paths l.subs l.sub)
