use Rattle.lookup.specs.Tables.{HasSize}
use Rattle.lookup.proofs.Filling.{FitsFrom}
use Rattle.lookup.proofs.tables.SubchannelIndex.of.Given as goal

-- the subchannels from here on are entered
abbrev pub invariant-loop-index : goal.invariant-loop-index
invariant-loop-index g l = record {
  fits : FitsFrom l.index l.indices l.subs;
  size : HasSize l.indices l.sets l.units;
}
