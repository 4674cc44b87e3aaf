-- What is claimed of every run.
use Rattle.std.specs.Prelude.{◌≡◌, ◌<◌, ◌≤◌, AllPairs, ℕ, Bool, false, ◌==◌, ◌&&◌, if◌then◌else◌, Option, None, Some, List, [], ◌∷◌}
use Rattle.std.specs.List.{flat_map}
use Rattle.chan_events.specs.Events.{Event}
use Rattle.chan_events.specs.declared.event.Event.TheVariants as event
use Rattle.chan_events.specs.declared.event.Instruction.TheVariants as instruction
use Rattle.chan_model.specs.declared.answer.Answer.TheVariants as answer
use Rattle.chan_events.specs.Replies.{Reply}
use Rattle.chan_events.specs.declared.reply.Reply.TheVariants as reply
use Rattle.chan_events.specs.declared.reply.Entry.{Entry}
use Rattle.subchannel_model.specs.Status.{is_uncleared}
use Rattle.channel_config.specs.declared.names.SubchannelId.{SubchannelId}
use Rattle.channel_config.specs.SubchannelWords.{subchannel_named}
use Rattle.subchannel_model.specs.declared.state.Subchannel.{Subchannel}

-- status is pending exactly where cleared is less than made
pub record IsPendingUncleared (sub : Subchannel) : Type 0 where
  pub order : sub.state.serials.cleared ≤ sub.state.serials.made
  pub pending : sub.state.scsw.status.pending ≡ is_uncleared sub.state.serials

-- a subchannel, and the same some steps later: set up as it was, with no fewer statuses made or cleared
pub record IsLaterSubchannel (old new : Subchannel) : Type 0 where
  pub setup : new.setup ≡ old.setup
  pub cleared : old.state.serials.cleared ≤ new.state.serials.cleared
  pub made : old.state.serials.made ≤ new.state.serials.made

-- the names are of one subchannel
abbrev pub is_same_id : SubchannelId → SubchannelId → Bool
is_same_id a b = (a.set == b.set) && (a.number == b.number)

-- a subsystem-identification word names this subchannel
abbrev pub is_id : Option SubchannelId → SubchannelId → Bool
is_id None id = false
is_id (Some named) id = is_same_id named id

-- TEST SUBCHANNEL clears status where it answers 0 (SA22-7832, chapter 14): how many statuses were made by then
abbrev pub serial_shown : Reply → List ℕ
serial_shown r = elim r [ reply.Status (answer.Zero serials) scsw ↦ serials.made ∷ [] | other ↦ [] ]

-- the serial that an event so cleared of a subchannel, where there are so many sets
abbrev pub serial_of : ℕ → SubchannelId → Event → Reply → List ℕ
serial_of sets id (event.Execute cpu (instruction.Tsch word address)) r =
    if is_id (subchannel_named sets word) id then serial_shown r else []
serial_of sets id e r = []

abbrev pub serial_at : ℕ → SubchannelId → Entry → List ℕ
serial_at sets id entry = serial_of sets id entry.event entry.reply

-- the serials that were cleared of a subchannel, in their order
abbrev pub serials : ℕ → SubchannelId → List Entry → List ℕ
serials sets id h = flat_map (serial_at sets id) h

-- each status is cleared by at most one TEST SUBCHANNEL: what they cleared of a subchannel rises
abbrev pub IsClearedOnce : ℕ → List Entry → Type 0
IsClearedOnce sets h = (id : SubchannelId) → AllPairs (λ x y. x < y) (serials sets id h)
