use Rattle.std.proofs.Common.{◌≡◌, take}
use Rattle.machine.proofs.opening.copied.Given as goal

-- the identifiers so far are copied
abbrev pub invariant-loop-chpid : goal.invariant-loop-chpid
invariant-loop-chpid g l = record {
  made : l.copy.items ≡ take l.chpid-index l.chpids;
  unrefused : g.S.Supply.refused l.supply ≡ g.S.Supply.refused l.fn.supply;
}
