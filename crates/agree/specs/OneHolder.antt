-- One holder of a device, over wires that lose, repeat and mix signals: a unit accepts a program where none holds it, and what it takes
-- of a program, and sends for one, is of the one that holds it; the numbers that it answers to a side rise (own).
use Rattle.std.specs.Prelude.{◌≡◌, ◌<◌, ℕ, true, false, None, Some, List, [], ◌∷◌}
use Rattle.chan_model.specs.declared.names.Side.{Side}
use Rattle.agreement_laws.specs.HolderSeen.{Holding, held_met, side_seen, with_accept, with_restart, IsMetRight, IsSaidRight, IsTold}
use Rattle.agree.specs.declared.event.WorldEvent.{WorldEvent}
use Rattle.agree.specs.declared.event.WorldEvent.TheVariants as event
use Rattle.agree.specs.declared.reply.WorldReply.{WorldReply}
use Rattle.agree.specs.declared.reply.WorldReply.TheVariants as reply
use Rattle.agree.specs.Histories.{WorldEntry, Throughout}

abbrev pub held_in : WorldReply → Holding → Holding
held_in (reply.Down side x taken sent) k = held_met side x.signal taken sent k
held_in r k = k

abbrev pub restarted_by : WorldEvent → Holding → Holding
restarted_by event.Restart k = with_restart k
restarted_by e k = k

abbrev pub holding_after : WorldEvent → WorldReply → Holding → Holding
holding_after e r k = restarted_by e (held_in r k)

abbrev pub IsReplyRight : WorldReply → Holding → Type 0
IsReplyRight (reply.Down side x taken sent) k = IsMetRight side x.signal taken sent k × ((side_seen k side).restarted ≡ true → IsTold taken sent)
IsReplyRight (reply.SentUp side x) k = IsSaidRight k side x.signal
IsReplyRight r k = Unit {0}

-- before all
abbrev pub nothing_held : Holding
nothing_held = record {
  restarts = 0;
  holder = None;
  command = 0;
  first = record { number = 0; restarted = false };
  second = record { number = 0; restarted = false };
}

abbrev pub HasOneHolder : List WorldEntry → Type 0
HasOneHolder h = Throughout holding_after IsReplyRight nothing_held h

-- Begun once: the numbers of the Accepts that are sent to a side rise, so that of one number at most one is ever sent.
abbrev pub accepts_in : Side → WorldReply → List ℕ → List ℕ
accepts_in side (reply.Down s x taken (Some sent)) ts = with_accept side s sent.signal ts
accepts_in side (reply.SentUp s x) ts = with_accept side s x.signal ts
accepts_in side r ts = ts

abbrev pub accepts_of : Side → List WorldEntry → List ℕ
accepts_of side [] = []
accepts_of side (entry ∷ entries) = accepts_in side entry.reply (accepts_of side entries)

abbrev pub AreAbove : ℕ → List ℕ → Type 0
AreAbove n [] = Unit {0}
AreAbove n (t ∷ ts) = (n < t) × AreAbove t ts

abbrev pub IsBegunOnce : List WorldEntry → Type 0
IsBegunOnce h = (side : Side) → AreAbove 0 (accepts_of side h)
