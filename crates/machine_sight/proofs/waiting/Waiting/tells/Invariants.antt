use Rattle.std.proofs.Common.{◌≡◌, ◌<◌, ℕ, Some}
use Rattle.std.specs.Prelude.{slice_get}
use Rattle.channel_config.specs.declared.parts.SubchannelSetup.{SubchannelSetup}
use Rattle.machine_sight.specs.Shown.{TellsWord}
use Rattle.step_records.specs.Named.{word_of}
use Rattle.machine_sight.proofs.waiting.Waiting.tells.Given as goal

-- the subchannels so far are told
abbrev pub invariant-loop-index : goal.invariant-loop-index
invariant-loop-index g l = (index : ℕ) (setup : SubchannelSetup) → index < l.index → slice_get l.parties.subchannels.items index ≡ Some setup →
    TellsWord (g.L.Looks.state l.looks) (word_of setup.id) l.self index
