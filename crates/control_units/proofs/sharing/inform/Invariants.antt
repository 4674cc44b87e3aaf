use Rattle.std.proofs.Common.{◌≡◌, ◌++◌, map, take, drop}
use Rattle.control_units.specs.Units.{member_informed}
use Rattle.control_units.proofs.sharing.inform.Given as goal

-- the first units are informed, the rest are as before
abbrev pub invariant-loop-member : goal.invariant-loop-member
invariant-loop-member l = l.members ≡ map (member_informed l.group) (take l.member-index l.fn.members) ++ drop l.member-index l.fn.members
