-- Entries whose events are performed once more, one after another, on storage that nobody stores to meanwhile (own).
use Rattle.std.specs.Prelude.{◌≡◌, List, [], ◌∷◌, take, slice_get, Some, Ok, Err}
use Rattle.storage_keys.specs.Storage.{Contents}
use Rattle.chan_events.specs.declared.reply.Entry.{Entry}
use Rattle.event_log.specs.Logs.{last_reply}
use Rattle.path_select.specs.Choice.{Rule}
use Rattle.channel_subsystem.specs.Hosting.{Hosted, IsHostStep}
use Rattle.channel_subsystem.specs.declared.not_replayed.Difference.{Difference}
use Rattle.channel_subsystem.specs.declared.not_replayed.Difference.TheVariants.{Refused, OtherReply}
use Rattle.channel_subsystem.specs.declared.not_replayed.NotReplayed.{NotReplayed}

-- each of these events has its reply again
abbrev pub AreRepeated : Rule → Hosted → Contents → List Entry → Hosted → Contents → Type 0
AreRepeated picks old before [] new after = (new ≡ old) × (after ≡ before)
AreRepeated picks old before (entry ∷ entries) new after =
    (next : Hosted) × (storage : Contents) × IsHostStep picks old before entry.event (Ok entry.reply) next storage × AreRepeated picks next storage entries new after

-- an event went otherwise than its entry says: it was refused, or has another reply, which is that of the entry that is kept last
abbrev pub GoesOtherwise : Rule → Hosted → Contents → Entry → Difference → Hosted → Contents → Type 0
GoesOtherwise picks old before entry (Refused f) new after = IsHostStep picks old before entry.event (Err f) new after
GoesOtherwise picks old before entry OtherReply new after =
    IsHostStep picks old before entry.event (Ok (last_reply new.kept)) new after × ¬ (last_reply new.kept ≡ entry.reply)

-- the events before an index had their replies again, and the one there went otherwise
pub record EndsAt (picks : Rule) (old : Hosted) (before : Contents) (entries : List Entry) (n : NotReplayed) (new : Hosted) (after : Contents) : Type 0 where
  pub next : Hosted
  pub storage : Contents
  pub repeated : AreRepeated picks old before (take n.index entries) next storage
  pub entry : Entry
  pub there : slice_get entries n.index ≡ Some entry
  pub otherwise : GoesOtherwise picks next storage entry n.difference new after
