use Rattle.std.proofs.Common.{arith, refl}
use Rattle.io_step.proofs.Somewhere.{has-block, has-room}
use Rattle.io_step.proofs.by_value.ByValue.is_somewhere.Goals as goal

pub returns-in-Ssch : goal.returns-in-Ssch
returns-in-Ssch c = rw c.in-Ssch.is (λ blocks cpu least. has-block blocks cpu 12 c.in-Ssch.orb c.is_whole.ensures (omega arith))

pub returns-in-Msch : goal.returns-in-Msch
returns-in-Msch c = rw c.in-Msch.is (λ blocks cpu least. has-block blocks cpu 52 c.in-Msch.schib c.is_whole-in-Msch.ensures (omega arith))

pub returns-in-Stsch : goal.returns-in-Stsch
returns-in-Stsch c = rw c.in-Stsch.is (λ blocks cpu least. has-room blocks cpu 0 52 4 least refl (omega arith))

pub returns-in-Tsch : goal.returns-in-Tsch
returns-in-Tsch c = rw c.in-Tsch.is (λ blocks cpu least. has-room blocks cpu 0 64 4 least refl (omega arith))
