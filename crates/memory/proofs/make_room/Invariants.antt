use Rattle.std.proofs.Common.{◌≡◌, ◌-◌, ◌+◌, ◌≤◌, vec_len, vec_capacity}
use Rattle.memory.proofs.make_room.Given as goal

-- there is the room that was asked for so far
abbrev pub invariant-loop-room : goal.invariant-loop-room
invariant-loop-room g l = record {
  items : l.list.items ≡ l.fn.list.items;
  len : vec_len l.list ≡ vec_len l.fn.list;
  kept : vec_capacity l.fn.list ≤ vec_capacity l.list;
  wanted : l.room ≤ l.count;
  made : vec_len l.list + l.room ≤ vec_capacity l.list;
  unrefused : g.S.Supply.refused l.supply ≡ g.S.Supply.refused l.fn.supply;
}

abbrev pub decreases-loop-room : goal.decreases-loop-room
decreases-loop-room g l = l.count - l.room
