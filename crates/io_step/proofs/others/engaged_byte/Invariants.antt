use Rattle.std.proofs.Common.{◌≡◌, ◌+◌, ◌*◌, ℕ, false}
use Rattle.std.specs.Prelude.{slice_index_or}
use Rattle.chan_model.specs.PathSets.{each_path}
use Rattle.chan_model.proofs.PathFilling.{set_each}
use Rattle.io_step.proofs.others.engaged_byte.Given as goal

-- what is in the set once the paths to come are set
abbrev pub invariant-loop-path : goal.invariant-loop-path
invariant-loop-path l =
    let is_engaged = λ (p : ℕ). slice_index_or l.engaged (8 * l.index + p) false in
    set_each is_engaged l.set l.path-iterator ≡ each_path is_engaged
