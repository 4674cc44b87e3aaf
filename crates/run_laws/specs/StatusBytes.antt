-- The device status and the subchannel status that STORE SUBCHANNEL shows after an entry that makes a status (SA22-7832, chapter 16): what the
-- entry brings joins what was pending (own).
use Rattle.std.specs.Prelude.{◌≡◌, ◌⊎◌, ◌<◌, ℕ, Bool, true, false, if◌then◌else◌, Option, None, Some, List, bit_or}
use Rattle.chan_events.specs.Events.{Event}
use Rattle.chan_events.specs.declared.event.Event.TheVariants as event
use Rattle.chan_events.specs.declared.reply.Entry.{Entry}
use Rattle.chan_events.specs.Replies.{Reply}
use Rattle.chan_events.specs.declared.reply.Reply.TheVariants as reply
use Rattle.chan_model.specs.Signals.{Down}
use Rattle.chan_model.specs.declared.signal.Down.TheVariants as down
use Rattle.chan_model.specs.declared.signal.OnPath.{OnPath}
use Rattle.chan_model.specs.Signals.{Up}
use Rattle.chan_model.specs.declared.signal.Up.TheVariants as up
use Rattle.channel_config.specs.declared.names.SubchannelId.{SubchannelId}
use Rattle.scsw_irb.specs.declared.scsw.ActivityControl.{ActivityControl}
use Rattle.scsw_irb.specs.declared.scsw.Scsw.{Scsw}
use Rattle.run_laws.specs.Shown.{Between}

-- bits of the device status and of the subchannel status that join those that are pending, or stand alone
abbrev pub joined_byte : Bool → ℕ → ℕ → ℕ
joined_byte pending old brought = bit_or (if pending then old else 0) brought

-- the device status and the subchannel status that are brought
abbrev pub Brings : Scsw → Scsw → ℕ → ℕ → Type 0
Brings old new device subchannel =
    (new.device_status.0 ≡ joined_byte old.status.pending old.device_status.0 device)
    × (new.subchannel_status.0 ≡ joined_byte old.status.pending old.subchannel_status.0 subchannel)

-- a command was sent in answer
abbrev pub is_command : Option (OnPath Down) → Bool
is_command None = false
is_command (Some sent) = elim sent.signal [ down.Command t n code room ↦ true | other ↦ false ]

-- program-controlled interruption is hexadecimal 80, incorrect length 40, program check 20, protection check 10, interface-control check 02.
-- A program that can't go on shows a check, or nothing as it is suspended or as its halt is performed
abbrev pub BringsStop : Scsw → Scsw → Type 0
BringsStop old new = Brings old new 0 0 ⊎ (Brings old new 0 0x20 ⊎ Brings old new 0 0x10)

-- an End after which nothing is chained shows the device status that it brought, an incorrect length, and the check that was kept
abbrev pub BringsEnd : Scsw → ℕ → Scsw → Type 0
BringsEnd old status new = (length : Bool) × (check : ℕ) × ((check ≡ 0) ⊎ ((check ≡ 0x20) ⊎ (check ≡ 0x10))) × Brings old new status (bit_or (if length then 0x40 else 0) check)

-- one after which a command is chained to, where the program is suspended before it, or it can't be fetched
abbrev pub BringsChain : Scsw → Scsw → Type 0
BringsChain old new = (Brings old new 0 0 × (new.activity.suspended ≡ true)) ⊎ (Brings old new 0 0x20 ⊎ Brings old new 0 0x10)

abbrev pub BringsAnswered : Bool → Scsw → Scsw → Type 0 → Type 0
BringsAnswered true old new P = Brings old new 0 0x80
BringsAnswered false old new P = P

-- attention is hexadecimal 80 of the device status; of a clear both are zero
abbrev pub IsSignalBrought : Up → Option (OnPath Down) → Scsw → Scsw → Type 0
IsSignalBrought (up.Attn a status) sent old new = Brings old new 0x80 0
IsSignalBrought (up.Accept t) sent old new = BringsAnswered (is_command sent) old new (BringsStop old new)
IsSignalBrought (up.Data load t c n s) sent old new = Brings old new 0 0x80
IsSignalBrought (up.End t n status more) sent old new = BringsAnswered (is_command sent) old new (BringsEnd old status.0 new ⊎ BringsChain old new)
IsSignalBrought (up.Cleared r) sent old new = (new.device_status.0 ≡ 0) × (new.subchannel_status.0 ≡ 0)
IsSignalBrought (up.Notice b) sent old new = Brings old new 0 0x02
IsSignalBrought signal sent old new = Unit {0}

-- a choice: of a clear that is performed both are zero, and a halt that is performed or a path that is not found brings neither
pub record IsChoiceBrought (activity : ActivityControl) (old new : Scsw) : Type 0 where
  pub clear : activity.clear_pending ≡ true → activity.halt_pending ≡ false → (new.device_status.0 ≡ 0) × (new.subchannel_status.0 ≡ 0)
  pub other : activity.clear_pending ≡ false → Brings old new 0 0

abbrev pub IsBrought : Event → Reply → Scsw → Scsw → Type 0
IsBrought (event.Choose word) r old new = IsChoiceBrought old.activity old new
IsBrought (event.Up word path) (reply.Up signal taken sent) old new = IsSignalBrought signal sent old new
IsBrought (event.PathDown chpid) r old new = Brings old new 0 0x02
IsBrought (event.PathReset chpid) r old new = Brings old new 0 0x02
IsBrought e r old new = Unit {0}

-- of each subchannel, where a status is made
abbrev pub AreBytesRight : ℕ → List Entry → Type 0
AreBytesRight sets h = (id : SubchannelId) → Between sets id h (λ before old e r new. old.serials.made < new.serials.made → IsBrought e r old.scsw new.scsw)
