-- The functions and the activity that STORE SUBCHANNEL shows (SA22-7832, chapters 14 and 16): functions are those of the instructions that
-- were accepted and not tested.
use Rattle.std.specs.Prelude.{◌≡◌, ℕ, ◌&&◌, not, Bool, true, false, if◌then◌else◌, List}
use Rattle.scsw_irb.specs.declared.scsw.ActivityControl.{ActivityControl}
use Rattle.scsw_irb.specs.declared.scsw.FunctionControl.{FunctionControl}
use Rattle.scsw_irb.specs.declared.scsw.Scsw.{Scsw}
use Rattle.scsw_irb.specs.Empty.{no_functions, no_activity}
use Rattle.chan_events.specs.Events.{Event}
use Rattle.chan_events.specs.declared.event.Event.TheVariants as event
use Rattle.chan_events.specs.declared.event.Instruction.{Instruction}
use Rattle.chan_events.specs.declared.event.Instruction.TheVariants as instruction
use Rattle.chan_events.specs.declared.reply.Entry.{Entry}
use Rattle.chan_events.specs.Replies.{Reply}
use Rattle.chan_events.specs.declared.reply.Reply.TheVariants as reply
use Rattle.channel_config.specs.declared.names.SubchannelId.{SubchannelId}
use Rattle.chan_events.specs.Instructions.{subchannel_word}
use Rattle.subchannel_model.specs.Status.{intermediate_alone}
use Rattle.run_laws.specs.Shown.{StoredStatus, names, is_accepted, Between}

-- TEST of intermediate status alone clears no function, but where a halt is specified for a suspended program
abbrev pub keeps_functions : Scsw → Bool
keeps_functions scsw = intermediate_alone scsw.status && not (scsw.activity.suspended && scsw.functions.halt)

-- what an instruction that is accepted leaves
abbrev pub functions_by : Instruction → Scsw → FunctionControl
functions_by (instruction.Ssch word address) scsw = record no_functions { start = true }
functions_by (instruction.Hsch word) scsw = record scsw.functions { halt = true }
functions_by (instruction.Csch word) scsw = record no_functions { clear = true }
functions_by (instruction.Xsch word) scsw = no_functions
functions_by (instruction.Tsch word address) scsw = if keeps_functions scsw then scsw.functions else no_functions
functions_by i scsw = scsw.functions

abbrev pub active_alone : ActivityControl → ActivityControl
active_alone a = record no_activity { subchannel_active = a.subchannel_active; device_active = a.device_active }

abbrev pub activity_by : Instruction → Scsw → ActivityControl
activity_by (instruction.Ssch word address) scsw = record no_activity { start_pending = true; device_active = scsw.activity.device_active }
activity_by (instruction.Rsch word) scsw = record scsw.activity { resume_pending = true }
activity_by (instruction.Hsch word) scsw = record scsw.activity { halt_pending = true }
activity_by (instruction.Csch word) scsw = record no_activity { clear_pending = true }
activity_by (instruction.Xsch word) scsw = record scsw.activity { resume_pending = false; start_pending = false; suspended = false }
activity_by (instruction.Tsch word address) scsw =
    if keeps_functions scsw then (if scsw.activity.suspended then record scsw.activity { resume_pending = false } else scsw.activity) else active_alone scsw.activity
activity_by i scsw = scsw.activity

-- signals, choices and lost paths leave the functions
abbrev pub functions_after : ℕ → SubchannelId → Event → Reply → Scsw → FunctionControl
functions_after sets id (event.Execute cpu i) r scsw = if names sets id (subchannel_word i) && is_accepted r then functions_by i scsw else scsw.functions
functions_after sets id event.SystemReset r scsw = no_functions
functions_after sets id e r scsw = scsw.functions

-- nothing becomes pending that was not
pub record IsNoNew (old new : ActivityControl) : Type 0 where
  pub start : new.start_pending ≡ true → old.start_pending ≡ true
  pub resume : new.resume_pending ≡ true → old.resume_pending ≡ true
  pub halt : new.halt_pending ≡ true → old.halt_pending ≡ true
  pub clear : new.clear_pending ≡ true → old.clear_pending ≡ true

-- the activity after an instruction, a reset of the subsystem, and a choice; a signal or a lost path makes nothing pending
abbrev pub activity_chosen : Reply → ActivityControl → ActivityControl
activity_chosen reply.Pending a = no_activity
activity_chosen (reply.HaltSent t path) a = record a { halt_pending = false }
activity_chosen r a = a

abbrev pub IsActivityRight : ℕ → SubchannelId → Scsw → Event → Reply → Scsw → Type 0
IsActivityRight sets id old (event.Execute cpu i) r new =
    new.activity ≡ (if names sets id (subchannel_word i) && is_accepted r then activity_by i old else old.activity)
IsActivityRight sets id old event.SystemReset r new = new.activity ≡ no_activity
IsActivityRight sets id old (event.Choose word) r new = new.activity ≡ (if names sets id word then activity_chosen r old.activity else old.activity)
IsActivityRight sets id old e r new = IsNoNew old.activity new.activity

-- what may change the status of the subchannel: an instruction on it that is accepted, but for STORE and MODIFY; a choice; a signal that
-- it takes; a path that is lost; a reset of the subsystem
abbrev pub changes_status : Instruction → Bool
changes_status (instruction.Stsch word address) = false
changes_status (instruction.Msch word address) = false
changes_status (instruction.Enable word subclass multipath) = false
changes_status i = true

abbrev pub is_taken : Reply → Bool
is_taken (reply.Up signal taken sent) = taken
is_taken r = false

abbrev pub may_change : ℕ → SubchannelId → Event → Reply → Bool
may_change sets id (event.Execute cpu i) r = names sets id (subchannel_word i) && (is_accepted r && changes_status i)
may_change sets id (event.Choose word) r = names sets id word
may_change sets id (event.Up word path) r = names sets id word && is_taken r
may_change sets id (event.PathDown chpid) r = true
may_change sets id (event.PathReset chpid) r = true
may_change sets id event.SystemReset r = true
may_change sets id e r = false

pub record Follows (sets : ℕ) (id : SubchannelId) (old : StoredStatus) (e : Event) (r : Reply) (new : StoredStatus) : Type 0 where
  pub functions : new.scsw.functions ≡ functions_after sets id e r old.scsw
  pub activity : IsActivityRight sets id old.scsw e r new.scsw
  -- the whole status stays, but by these
  pub stays : may_change sets id e r ≡ false → new ≡ old

-- of each subchannel
abbrev pub DoFunctionsFollow : ℕ → List Entry → Type 0
DoFunctionsFollow sets h = (id : SubchannelId) → Between sets id h (λ before old e r new. Follows sets id old e r new)
