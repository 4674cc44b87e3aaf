-- Nothing is lost in silence: a path that is lost, or a Notice of restarts, that makes no status of a subchannel that is known to be enabled
-- leaves what STORE SUBCHANNEL shows of it (SA22-7832, chapter 16, interface-control check).
use Rattle.std.specs.Prelude.{◌≡◌, ℕ, Bool, true, Option, Some, List}
use Rattle.chan_events.specs.Events.{Event}
use Rattle.chan_events.specs.declared.event.Event.TheVariants as event
use Rattle.chan_events.specs.declared.reply.Entry.{Entry}
use Rattle.chan_events.specs.Replies.{Reply}
use Rattle.chan_events.specs.declared.reply.Reply.TheVariants as reply
use Rattle.chan_model.specs.declared.signal.Up.TheVariants as up
use Rattle.channel_config.specs.declared.names.SubchannelId.{SubchannelId}
use Rattle.run_laws.specs.Codes.{enabled_in}
use Rattle.run_laws.specs.Shown.{StoredStatus, Between}

abbrev pub StaysUnmade : Option Bool → StoredStatus → StoredStatus → Type 0
StaysUnmade known old new = known ≡ Some true → new.serials ≡ old.serials → new.scsw ≡ old.scsw

abbrev pub IsLossShown : Option Bool → StoredStatus → Event → Reply → StoredStatus → Type 0
IsLossShown known old (event.PathDown chpid) r new = StaysUnmade known old new
IsLossShown known old (event.PathReset chpid) r new = StaysUnmade known old new
IsLossShown known old (event.Up word path) (reply.Up (up.Notice b) taken sent) new = StaysUnmade known old new
IsLossShown known old e r new = Unit {0}

-- of each subchannel
abbrev pub AreLossesShown : ℕ → List Entry → Type 0
AreLossesShown sets h = (id : SubchannelId) → Between sets id h (λ before old e r new. IsLossShown (enabled_in sets id before) old e r new)
