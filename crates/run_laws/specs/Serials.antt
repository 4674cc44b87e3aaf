-- How many statuses an entry makes, and how many it clears, by what STORE SUBCHANNEL shows (SA22-7832, chapters 14 and 16): each cause makes
-- one, and what is shown beside changes as one is made.
use Rattle.std.specs.Prelude.{◌≡◌, ◌≤◌, ℕ, ◌+◌, ◌==◌, ◌&&◌, ◌||◌, Bool, true, false, nat_lt, if◌then◌else◌, Option, None, Some, List, ◌∷◌, ◌++◌}
use Rattle.scsw_irb.specs.declared.scsw.Scsw.{Scsw}
use Rattle.scsw_irb.specs.declared.status.DeviceStatus.{DeviceStatus}
use Rattle.scsw_irb.specs.declared.status.SubchannelStatus.{SubchannelStatus}
use Rattle.scsw_irb.specs.Empty.{no_activity}
use Rattle.chan_events.specs.Events.{Event}
use Rattle.chan_events.specs.declared.event.Event.TheVariants as event
use Rattle.chan_events.specs.declared.event.Instruction.{Instruction}
use Rattle.chan_events.specs.declared.event.Instruction.TheVariants as instruction
use Rattle.chan_events.specs.declared.reply.Entry.{Entry}
use Rattle.chan_events.specs.Replies.{Reply}
use Rattle.chan_events.specs.declared.reply.Reply.TheVariants as reply
use Rattle.chan_model.specs.Signals.{Down}
use Rattle.chan_model.specs.declared.signal.OnPath.{OnPath}
use Rattle.chan_model.specs.Signals.{Up}
use Rattle.chan_model.specs.declared.signal.Up.TheVariants as up
use Rattle.channel_config.specs.declared.names.SubchannelId.{SubchannelId}
use Rattle.chan_events.specs.Instructions.{subchannel_word}
use Rattle.run_laws.specs.Codes.{MayBe, enabled_in}
use Rattle.run_laws.specs.Shown.{StoredStatus, names, stored_by, is_about, is_accepted, Between}
use Rattle.run_laws.specs.BeginsItsOwn.{is_release}

-- status is pending exactly where fewer were cleared than made
pub record IsPendingShown (shown : StoredStatus) : Type 0 where
  pub order : shown.serials.cleared ≤ shown.serials.made
  pub pending : shown.scsw.status.pending ≡ nat_lt shown.serials.cleared shown.serials.made

-- all status is cleared by TEST and CLEAR with code 0, by HALT with code 0 where status is pending of a subchannel that is active, and by
-- a reset of the subsystem
abbrev pub clears_by : Instruction → Scsw → Bool
clears_by (instruction.Tsch word address) scsw = true
clears_by (instruction.Csch word) scsw = true
clears_by (instruction.Hsch word) scsw = scsw.status.pending && scsw.activity.subchannel_active
clears_by i scsw = false

abbrev pub clears_all : ℕ → SubchannelId → Scsw → Event → Reply → Bool
clears_all sets id scsw (event.Execute cpu i) r = names sets id (subchannel_word i) && (is_accepted r && clears_by i scsw)
clears_all sets id scsw event.SystemReset r = true
clears_all sets id scsw e r = false

-- how many statuses are due where the subchannel is enabled: by a signal that it takes, with what it sends in answer
abbrev pub is_released : Option (OnPath Down) → Bool
is_released None = false
is_released (Some sent) = is_release sent.signal

-- a program is there: one that waits, holds the device or is suspended
abbrev pub IsAtWork : Scsw → Type 0
IsAtWork scsw = (scsw.activity.start_pending || (scsw.activity.device_active || scsw.activity.suspended)) ≡ true

-- attention: one, but for control-unit end (hexadecimal 20) alone. Cleared: one where a clear is pending. Accept: at most one, and one
-- where a halt is pending and the device is let go. End: at most one, and one where the device is let go and the program is not suspended.
-- Data: at most one. Notice: at most one, and only where a program is there
abbrev pub IsDueUp : StoredStatus → Up → Option (OnPath Down) → StoredStatus → ℕ → Type 0
IsDueUp old (up.Attn a status) sent new n = n ≡ (if status.0 == 0x20 then 0 else 1)
IsDueUp old (up.Cleared r) sent new n = n ≡ (if old.scsw.activity.clear_pending then 1 else 0)
IsDueUp old (up.Accept t) sent new n = (n ≤ 1) × (is_released sent ≡ true → old.scsw.activity.halt_pending ≡ true → n ≡ 1)
IsDueUp old (up.End t m status more) sent new n = (n ≤ 1) × (is_released sent ≡ true → new.scsw.activity.suspended ≡ false → n ≡ 1)
IsDueUp old (up.Data load t c m s) sent new n = n ≤ 1
IsDueUp old (up.Notice b) sent new n = (n ≤ 1) × (n ≡ 1 → IsAtWork old.scsw)
IsDueUp old signal sent new n = n ≡ 0

-- one by a choice that made status pending; at most one as a path is lost, and only where a program is there; none by any other
abbrev pub IsDue : StoredStatus → Event → Reply → StoredStatus → ℕ → Type 0
IsDue old (event.Choose word) reply.Pending new n = n ≡ 1
IsDue old (event.Up word path) (reply.Up signal true sent) new n = IsDueUp old signal sent new n
IsDue old (event.PathDown chpid) r new n = (n ≤ 1) × (n ≡ 1 → IsAtWork old.scsw)
IsDue old (event.PathReset chpid) r new n = (n ≤ 1) × (n ≡ 1 → IsAtWork old.scsw)
IsDue old e r new n = n ≡ 0

-- attention is taken only where nothing is pending, and nothing but a start waits or goes on
abbrev pub IsOpen : Scsw → Type 0
IsOpen scsw = (scsw.status.pending ≡ false) × (scsw.activity ≡ record no_activity { start_pending = scsw.activity.start_pending })

abbrev pub IsAttended : StoredStatus → Event → Reply → Type 0
IsAttended old (event.Up word path) (reply.Up (up.Attn a status) true sent) = IsOpen old.scsw
IsAttended old e r = Unit {0}

-- what is shown beside: words 1 and 2 of the status word. START and CLEAR with code 0 set it
pub record Beside : Type 0 where
  pub command_address : ℕ
  pub device : DeviceStatus
  pub subchannel : SubchannelStatus
  pub count : ℕ

abbrev pub beside : Scsw → Beside
beside scsw = record { command_address = scsw.command_address; device = scsw.device_status; subchannel = scsw.subchannel_status; count = scsw.count }

abbrev pub sets_by : Instruction → Bool
sets_by (instruction.Ssch word address) = true
sets_by (instruction.Csch word) = true
sets_by i = false

abbrev pub sets_beside : ℕ → SubchannelId → Event → Reply → Bool
sets_beside sets id (event.Execute cpu i) r = names sets id (subchannel_word i) && (is_accepted r && sets_by i)
sets_beside sets id e r = false

-- of a subchannel that is enabled so many statuses are made as are due, of another none
pub record IsMade (sets : ℕ) (id : SubchannelId) (known : Option Bool) (old : StoredStatus) (e : Event) (r : Reply) (new : StoredStatus) : Type 0 where
  pub enabled : Bool
  pub may : MayBe known enabled
  pub n : ℕ
  pub due : is_about sets id e ≡ true → IsDue old e r new n
  pub other : is_about sets id e ≡ false → n ≡ 0
  pub made : new.serials.made ≡ (if enabled then old.serials.made + n else old.serials.made)
  pub cleared : new.serials.cleared ≡ (if clears_all sets id old.scsw e r then old.serials.made else old.serials.cleared)
  pub attended : is_about sets id e ≡ true → IsAttended old e r
  pub stays : new.serials.made ≡ old.serials.made → sets_beside sets id e r ≡ false → beside new.scsw ≡ beside old.scsw

-- of each subchannel
abbrev pub AreMade : ℕ → List Entry → Type 0
AreMade sets h = (id : SubchannelId) → Between sets id h (λ before old e r new. IsMade sets id (enabled_in sets id before) old e r new)

abbrev pub ArePendingShown : ℕ → List Entry → Type 0
ArePendingShown sets h = (id : SubchannelId) (before after : List Entry) (a : Entry) (shown : StoredStatus) → h ≡ before ++ (a ∷ after) →
    stored_by sets id a.event a.reply ≡ Some shown → IsPendingShown shown
