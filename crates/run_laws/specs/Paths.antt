-- The path masks of a subchannel as STORE SUBCHANNEL shows them: by which paths a program is offered, and which path was used last
-- (SA22-7832, chapter 15, the path-management-control word). They stand in word 2 of the block that it stores at real addresses; where the
-- prefix of its CPU is zero these are absolute, and what stands there is shown. None of this changes anything of the subchannel, so what is
-- claimed of an entry right after it, and of the entries before it, is claimed of what the subchannel has then.
use Rattle.std.specs.Prelude.{◌≡◌, ℕ, ◌+◌, ◌&&◌, true, if◌then◌else◌, Option, None, Some, List, ◌∷◌, ◌++◌}
use Rattle.byteorder.specs.Endian.{big_number}
use Rattle.zbits.specs.Bits.{field_of}
use Rattle.chan_events.specs.Events.{Event}
use Rattle.chan_events.specs.declared.event.Event.TheVariants as event
use Rattle.chan_events.specs.declared.event.Instruction.TheVariants as instruction
use Rattle.chan_events.specs.declared.reply.Entry.{Entry}
use Rattle.chan_events.specs.Replies.{Reply}
use Rattle.chan_events.specs.declared.reply.Reply.TheVariants as reply
use Rattle.chan_model.specs.declared.signal.Up.TheVariants as up
use Rattle.chan_model.specs.PathSets.{has_path, mask_of_path}
use Rattle.channel_config.specs.declared.names.SubchannelId.{SubchannelId}
use Rattle.subchannel_model.specs.Back.{is_grant}
use Rattle.run_laws.specs.Entries.{seen_through}
use Rattle.run_laws.specs.Shown.{names, is_accepted}

-- a CPU's prefix is set to zero, it executes STORE SUBCHANNEL of this subchannel with condition code 0, and the four bytes of word 2 of the
-- block are shown: they are this word
pub record IsWordShown (sets : ℕ) (id : SubchannelId) (first second third : Entry) (word : ℕ) : Type 0 where
  pub cpu : ℕ
  pub named : ℕ
  pub address : ℕ
  pub bytes : List ℕ
  pub prefix : first.event ≡ event.SetPrefix cpu 0
  pub stores : second.event ≡ event.Execute cpu (instruction.Stsch named address)
  pub names : names sets id named ≡ true
  pub accepted : is_accepted second.reply ≡ true
  pub shows : third.event ≡ event.Show (address + 8) 4
  pub shown : third.reply ≡ reply.Shown bytes
  pub is : word ≡ big_number 4 bytes

-- bits 0 to 7 are the logical-path mask, bits 16 to 23 the last-path-used mask
abbrev pub logical_mask : ℕ → ℕ
logical_mask word = field_of word 0 7

abbrev pub last_used_mask : ℕ → ℕ
last_used_mask word = field_of word 16 23

-- a program is offered by a path of the logical-path mask
abbrev pub IsOfferLogical : ℕ → Reply → Type 0
IsOfferLogical word (reply.Offered t path resumed) = has_path (logical_mask word) path ≡ true
IsOfferLogical word r = Unit {0}

abbrev pub IsEntryLogical : ℕ → SubchannelId → ℕ → Event → Reply → Type 0
IsEntryLogical sets id word (event.Choose named) r = names sets id named ≡ true → IsOfferLogical word r
IsEntryLogical sets id word e r = Unit {0}

-- of each subchannel, right after the mask is shown
abbrev pub AreOffersLogical : ℕ → List Entry → Type 0
AreOffersLogical sets h = (id : SubchannelId) (before after : List Entry) (a b c d : Entry) (word : ℕ) → h ≡ before ++ (a ∷ (b ∷ (c ∷ (d ∷ after)))) →
    IsWordShown sets id a b c word → IsEntryLogical sets id word d.event d.reply

-- the path used last is the one by which an Accept was answered, or a reconnection granted
abbrev pub used_met : Reply → Option ℕ → Option ℕ
used_met (reply.Up (up.Accept t) true (Some sent)) used = Some sent.path
used_met (reply.Up (up.Back t c) true (Some sent)) used = if is_grant sent.signal then Some sent.path else used
used_met r used = used

-- after CLEAR SUBCHANNEL with code 0, and after a reset of the subsystem, there is none
abbrev pub used_after : ℕ → SubchannelId → Event → Reply → Option ℕ → Option ℕ
used_after sets id (event.Up named path) r used = if names sets id named then used_met r used else used
used_after sets id (event.Execute cpu (instruction.Csch named)) r used = if names sets id named && is_accepted r then None else used
used_after sets id event.SystemReset r used = None
used_after sets id e r used = used

-- at the opening there is none
abbrev pub used_in : ℕ → SubchannelId → List Entry → Option ℕ
used_in sets id h = seen_through (used_after sets id) None h

-- of each subchannel, the last-path-used mask that is shown is of that path alone, or zero
abbrev pub ShowsLastUsed : ℕ → List Entry → Type 0
ShowsLastUsed sets h = (id : SubchannelId) (before after : List Entry) (a b c : Entry) (word : ℕ) → h ≡ before ++ (a ∷ (b ∷ (c ∷ after))) →
    IsWordShown sets id a b c word → last_used_mask word ≡ mask_of_path (used_in sets id before)
