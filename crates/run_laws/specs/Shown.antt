-- What STORE SUBCHANNEL shows of the status of a subchannel (SA22-7832, chapters 14 and 16). It changes nothing of the subchannel, so what
-- it shows just before an entry is what the entry finds, and what it shows just after is what the entry left: what is claimed of three
-- entries of which the first and the last are STORE SUBCHANNEL is claimed of the one between them.
use Rattle.std.specs.Prelude.{◌≡◌, ℕ, Bool, true, false, if◌then◌else◌, Option, None, Some, List, [], ◌∷◌, ◌++◌}
use Rattle.scsw_irb.specs.declared.scsw.Scsw.{Scsw}
use Rattle.scsw_irb.specs.declared.serials.Serials.{Serials}
use Rattle.chan_events.specs.Events.{Event}
use Rattle.chan_events.specs.declared.event.Event.TheVariants as event
use Rattle.chan_events.specs.declared.event.Instruction.TheVariants as instruction
use Rattle.chan_events.specs.declared.reply.Entry.{Entry}
use Rattle.chan_events.specs.Replies.{Reply}
use Rattle.chan_events.specs.declared.reply.Reply.TheVariants as reply
use Rattle.chan_model.specs.declared.answer.Answer.TheVariants as answer
use Rattle.channel_config.specs.declared.names.SubchannelId.{SubchannelId}
use Rattle.channel_config.specs.SubchannelWords.{subchannel_named}
use Rattle.run_laws.specs.StateClaims.{is_id}
use Rattle.chan_events.specs.Instructions.{subchannel_word}

-- the subchannel-status word; how many statuses were made of the subchannel, and how many of them are cleared
pub record StoredStatus : Type 0 where
  pub scsw : Scsw
  pub serials : Serials

-- a subsystem-identification word names this subchannel, where there are so many sets
abbrev pub names : ℕ → SubchannelId → ℕ → Bool
names sets id word = is_id (subchannel_named sets word) id

-- what STORE SUBCHANNEL of this subchannel shows, with condition code 0
abbrev pub stored_in : Reply → Option StoredStatus
stored_in (reply.Status (answer.Zero serials) scsw) = Some (record { scsw = scsw; serials = serials })
stored_in r = None

abbrev pub stored_by : ℕ → SubchannelId → Event → Reply → Option StoredStatus
stored_by sets id (event.Execute cpu (instruction.Stsch word address)) r = if names sets id word then stored_in r else None
stored_by sets id e r = None

-- wherever STORE SUBCHANNEL shows the status of the subchannel, an entry follows, and STORE SUBCHANNEL shows the status again, this is so of
-- the entries before it, the status before, the entry and the status after
abbrev pub Between : ℕ → SubchannelId → List Entry → (List Entry → StoredStatus → Event → Reply → StoredStatus → Type 0) → Type 0
Between sets id h Claim = (before after : List Entry) (a b c : Entry) (old new : StoredStatus) → h ≡ before ++ (a ∷ (b ∷ (c ∷ after))) →
    stored_by sets id a.event a.reply ≡ Some old → stored_by sets id c.event c.reply ≡ Some new → Claim (before ++ (a ∷ [])) old b.event b.reply new

-- what an event is about: an instruction, a choice and a signal that comes up are about one subchannel; a path that is lost, and a reset
-- of the subsystem, are about each
abbrev pub is_about : ℕ → SubchannelId → Event → Bool
is_about sets id (event.Execute cpu i) = names sets id (subchannel_word i)
is_about sets id (event.Choose word) = names sets id word
is_about sets id (event.Up word path) = names sets id word
is_about sets id (event.PathDown chpid) = true
is_about sets id (event.PathReset chpid) = true
is_about sets id event.SystemReset = true
is_about sets id e = false

-- condition code 0 of an instruction
abbrev pub is_accepted : Reply → Bool
is_accepted (reply.Code (answer.Zero serials)) = true
is_accepted (reply.Status (answer.Zero serials) scsw) = true
is_accepted r = false
