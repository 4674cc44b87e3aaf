-- A store keeps how many bytes there are.
use Rattle.std.proofs.Common.{◌≡◌, ◌≤◌, ◌+◌, length, arith, ◌∙◌}
use Rattle.std.specs.Prelude.{slice_index}
use Rattle.storage_keys.specs.Storage.{operand_stored}
use Rattle.storage_keys.proofs.OperandLemmas.{length-operand_stored}
use Rattle.storage_keys.proofs.law.soundness.Goals as goal

pub returns-clause-operand : goal.returns-clause-operand
returns-clause-operand c = λ storage cpu address bytes sound.
    let size : length (operand_stored storage cpu address bytes).bytes ≡ length storage.bytes = length-operand_stored storage cpu address bytes in
    record {
      blocks = size ∙ sound.blocks;
      least = omega (arith, sound.least);
      greatest = omega (arith, sound.greatest);
      cpus = sound.cpus;
      prefixes = λ other. ((sound.prefixes other).0, (let named : slice_index storage.prefixes other + 8192 ≤ length storage.bytes = (sound.prefixes other).1 in omega arith));
    }
