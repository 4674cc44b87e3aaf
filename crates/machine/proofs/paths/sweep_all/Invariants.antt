use Rattle.std.proofs.Common.{◌≡◌, ◌++◌, map, take, drop}
use Rattle.lookup.specs.Tables.{Serves}
use Rattle.machine_model.specs.PathSteps.{swept}
use Rattle.machine_model.specs.Requests.{posted_all}
use Rattle.machine.proofs.paths.sweep_all.Given as goal

-- the first subchannels are swept, with what is posted for them, and the rest are as before
abbrev pub invariant-loop-index : goal.invariant-loop-index
invariant-loop-index l = record {
  subs : l.sub-items ≡ map (swept l.what) (take l.index l.initial.sub-items) ++ drop l.index l.initial.sub-items;
  posted : l.pending ≡ posted_all (take l.index l.initial.sub-items) (map (swept l.what) (take l.index l.initial.sub-items)) l.fn.pending;
  numbers : l.pending.numbers ≡ 0x100;
  served : Serves l.engines l.sub-items;
}
