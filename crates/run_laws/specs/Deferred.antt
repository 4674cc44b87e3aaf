-- The deferred condition code that STORE SUBCHANNEL shows (SA22-7832, chapter 16): 1 where a start that was pending is ended by attention or by
-- the last status of the program before it, 3 where no path was found for a program; and zero after START, CLEAR and TEST SUBCHANNEL. Beside
-- these it stays.
use Rattle.std.specs.Prelude.{◌≡◌, ◌<◌, ◌⊎◌, ℕ, ◌&&◌, not, Bool, true, false, if◌then◌else◌, List}
use Rattle.scsw_irb.specs.declared.scsw.ActivityControl.{ActivityControl}
use Rattle.scsw_irb.specs.declared.scsw.DeferredCode.{DeferredCode}
use Rattle.scsw_irb.specs.declared.scsw.DeferredCode.TheVariants as deferred
use Rattle.scsw_irb.specs.declared.scsw.Scsw.{Scsw}
use Rattle.chan_events.specs.Events.{Event}
use Rattle.chan_events.specs.declared.event.Event.TheVariants as event
use Rattle.chan_events.specs.declared.event.Instruction.{Instruction}
use Rattle.chan_events.specs.declared.event.Instruction.TheVariants as instruction
use Rattle.chan_events.specs.declared.reply.Entry.{Entry}
use Rattle.chan_events.specs.Replies.{Reply}
use Rattle.chan_events.specs.declared.reply.Reply.TheVariants as reply
use Rattle.chan_model.specs.Signals.{Up}
use Rattle.chan_model.specs.declared.signal.Up.TheVariants as up
use Rattle.chan_model.specs.UnitReports.{is_last_end}
use Rattle.channel_config.specs.declared.names.SubchannelId.{SubchannelId}
use Rattle.chan_events.specs.Instructions.{subchannel_word}
use Rattle.subchannel_model.specs.Status.{intermediate_alone}
use Rattle.run_laws.specs.Shown.{StoredStatus, names, is_accepted, Between}

-- an instruction that is accepted; TEST of intermediate status alone leaves the code, but of a suspended program
abbrev pub deferred_by : Instruction → Scsw → DeferredCode
deferred_by (instruction.Ssch word address) scsw = deferred.Zero
deferred_by (instruction.Csch word) scsw = deferred.Zero
deferred_by (instruction.Tsch word address) scsw = if intermediate_alone scsw.status && not scsw.activity.suspended then scsw.deferred else deferred.Zero
deferred_by i scsw = scsw.deferred

-- where no status is made
abbrev pub deferred_after : ℕ → SubchannelId → Event → Reply → Scsw → DeferredCode
deferred_after sets id (event.Execute cpu i) r scsw = if names sets id (subchannel_word i) && is_accepted r then deferred_by i scsw else scsw.deferred
deferred_after sets id e r scsw = scsw.deferred

-- where the last End of a program makes it: with a start pending the code is 1. Where none is shown pending it stays, but that it may be 1 for
-- a start that an earlier End of this program left waiting
abbrev pub IsLastEndCode : Bool → DeferredCode → DeferredCode → Type 0
IsLastEndCode true old code = code ≡ deferred.One
IsLastEndCode false old code = (code ≡ old) ⊎ (code ≡ deferred.One)

abbrev pub IsEndCode : Bool → Scsw → DeferredCode → Type 0
IsEndCode true old code = IsLastEndCode old.activity.start_pending old.deferred code
IsEndCode false old code = code ≡ old.deferred

-- where a signal that is taken makes it: attention, an End, Cleared
abbrev pub IsSignalCode : Scsw → Up → DeferredCode → Type 0
IsSignalCode old (up.Attn a status) code = code ≡ (if old.activity.start_pending then deferred.One else old.deferred)
IsSignalCode old (up.End t n status more) code = IsEndCode (is_last_end status) old code
IsSignalCode old (up.Cleared r) code = code ≡ deferred.Zero
IsSignalCode old signal code = code ≡ old.deferred

-- where a choice makes it: a clear is performed, a halt is, or no path was found
pub record IsChoiceCode (activity : ActivityControl) (old code : DeferredCode) : Type 0 where
  pub clear : activity.clear_pending ≡ true → activity.halt_pending ≡ false → code ≡ deferred.Zero
  pub halt : activity.clear_pending ≡ false → activity.halt_pending ≡ true → code ≡ old
  pub no_path : activity.clear_pending ≡ false → activity.halt_pending ≡ false → code ≡ deferred.Three

-- the code of a status that an entry makes; a path that is lost leaves it
abbrev pub IsCodeDue : Scsw → Event → Reply → DeferredCode → Type 0
IsCodeDue old (event.Up word path) (reply.Up signal taken sent) code = IsSignalCode old signal code
IsCodeDue old (event.Choose word) r code = IsChoiceCode old.activity old.deferred code
IsCodeDue old e r code = code ≡ old.deferred

pub record IsDeferredRight (sets : ℕ) (id : SubchannelId) (old : StoredStatus) (e : Event) (r : Reply) (new : StoredStatus) : Type 0 where
  pub stays : new.serials.made ≡ old.serials.made → new.scsw.deferred ≡ deferred_after sets id e r old.scsw
  pub due : old.serials.made < new.serials.made → IsCodeDue old.scsw e r new.scsw.deferred

-- of each subchannel
abbrev pub AreDeferredRight : ℕ → List Entry → Type 0
AreDeferredRight sets h = (id : SubchannelId) → Between sets id h (λ before old e r new. IsDeferredRight sets id old e r new)
