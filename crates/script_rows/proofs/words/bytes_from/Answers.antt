use Rattle.std.proofs.Common.{sym}
use Rattle.script_rows.proofs.Digits.{onward, room_more}
use Rattle.script_rows.proofs.words.bytes_from.Goals as goal

pub pairs-preserved : goal.pairs-preserved
pairs-preserved c = record {
  value = onward c.args.word.now c.pairs.rest.now c.pairs.chunk _ c.in-Some.byte c.push.ensures c.in-len2-up.len_at_least (sym c.in-Some.ensures) c.pairs.invariant.value;
  room = room_more c.pairs.rest.now c.pairs.chunk _ c.in-Some.byte c.push.ensures c.in-len2-up.len_at_least c.pairs.invariant.room;
}
