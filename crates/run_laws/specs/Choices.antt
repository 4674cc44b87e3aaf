-- Why the subsystem chooses what it does, by what STORE SUBCHANNEL shows just before, and what a choice leaves (SA22-7832, chapters 14 to 16;
-- what it chooses first is this project's own choice).
use Rattle.std.specs.Prelude.{◌≡◌, ℕ, ◌&&◌, ◌||◌, not, Bool, true, false, List}
use Rattle.scsw_irb.specs.declared.scsw.Scsw.{Scsw}
use Rattle.chan_events.specs.Events.{Event}
use Rattle.chan_events.specs.declared.event.Event.TheVariants as event
use Rattle.chan_events.specs.declared.reply.Entry.{Entry}
use Rattle.chan_events.specs.Replies.{Reply}
use Rattle.chan_events.specs.declared.reply.Reply.TheVariants as reply
use Rattle.channel_config.specs.declared.names.SubchannelId.{SubchannelId}
use Rattle.run_laws.specs.Functions.{activity_chosen}
use Rattle.run_laws.specs.Shown.{StoredStatus, names, Between}

-- a start waits, or a resume of a suspended program
abbrev pub waits : Scsw → Bool
waits scsw = scsw.activity.start_pending || (scsw.activity.resume_pending && scsw.activity.suspended)

-- an offer is made where a program waits, and no halt, of a suspended one exactly where no start waits; a Halt is sent where one waits; status
-- is made pending where a halt, a clear or a program waits
abbrev pub IsReason : Scsw → Reply → Type 0
IsReason scsw (reply.Offered t path resumed) =
    (scsw.activity.halt_pending ≡ false)
    × (waits scsw ≡ true)
    × (resumed ≡ not scsw.activity.start_pending)
IsReason scsw (reply.HaltSent t path) = scsw.activity.halt_pending ≡ true
IsReason scsw reply.Pending =
    (scsw.activity.halt_pending || (scsw.activity.clear_pending || waits scsw)) ≡ true
IsReason scsw r = Unit {0}

-- but where status is made pending, no more of the status changes than the activity, and N: that a path was not operational
abbrev pub LeavesChosen : StoredStatus → Reply → StoredStatus → Type 0
LeavesChosen old reply.Pending new = Unit {0}
LeavesChosen old r new =
    (new.serials ≡ old.serials)
    × (new.scsw ≡ record old.scsw { path_not_operational = new.scsw.path_not_operational; activity = activity_chosen r old.scsw.activity })

abbrev pub IsChoiceRight : ℕ → SubchannelId → StoredStatus → Event → Reply → StoredStatus → Type 0
IsChoiceRight sets id old (event.Choose word) r new = names sets id word ≡ true → IsReason old.scsw r × LeavesChosen old r new
IsChoiceRight sets id old e r new = Unit {0}

-- of each subchannel
abbrev pub AreChoicesRight : ℕ → List Entry → Type 0
AreChoicesRight sets h = (id : SubchannelId) → Between sets id h (λ before old e r new. IsChoiceRight sets id old e r new)
