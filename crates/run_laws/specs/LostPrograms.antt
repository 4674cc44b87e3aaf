-- Where the loss of a path, or a Notice of restarts, makes a status, an interface-control check (SA22-7832, chapter 16): where a program that
-- STORE SUBCHANNEL shows just before is offered or holds the device, as the entries before tell, and is lost with it; and nowhere else. A start
-- that waits while its device is let go is not lost (own).
use Rattle.std.specs.Prelude.{◌≡◌, ◌<◌, ◌&&◌, ◌||◌, not, ℕ, Bool, true, false, Option, Some, IsSomeAnd, List}
use Rattle.chan_events.specs.Events.{Event}
use Rattle.chan_events.specs.declared.event.Event.TheVariants as event
use Rattle.chan_events.specs.declared.reply.Entry.{Entry}
use Rattle.chan_events.specs.Replies.{Reply}
use Rattle.chan_events.specs.declared.reply.Reply.TheVariants as reply
use Rattle.chan_model.specs.declared.signal.Up.TheVariants as up
use Rattle.channel_config.specs.declared.names.SubchannelId.{SubchannelId}
use Rattle.channel_config.specs.Setup.{Setup, set_count}
use Rattle.run_laws.specs.Links.{Link, Offered, Connected, Apart, SubSeen, used_by, is_apart, is_on, first_seen, links_in}
use Rattle.run_laws.specs.Codes.{enabled_in}
use Rattle.run_laws.specs.Serials.{IsAtWork}
use Rattle.run_laws.specs.Shown.{StoredStatus, names, Between}

-- a program is offered, or holds the device
abbrev pub is_program : Link → Bool
is_program (Offered t path) = true
is_program (Connected t path c) = true
is_program (Apart t) = true
is_program link = false

-- it is lost with this path: with the one by which it is offered or connected; and it may be, where it is apart, with that of its Accept
abbrev pub is_lost_with : SubSeen → ℕ → Bool
is_lost_with k chpid = is_on k.setup (used_by k.link) chpid

abbrev pub may_be_lost_with : SubSeen → ℕ → Bool
may_be_lost_with k chpid = is_lost_with k chpid || (is_apart k.link && is_on k.setup k.first chpid)

pub record IsLoss (k : SubSeen) (lost may_be_lost : Bool) (known : Option Bool) (old new : StoredStatus) : Type 0 where
  -- a status that is made is of a program that may be lost
  pub made : old.serials.made < new.serials.made → (is_program k.link && may_be_lost) ≡ true
  -- one is made of a program that is lost and is shown, where the subchannel is known to be enabled
  pub due : (is_program k.link && lost) ≡ true → known ≡ Some true → IsAtWork old.scsw → old.serials.made < new.serials.made

-- a path that goes down or is reset; a Notice that is taken, unless a reset was due before that no entry tells
abbrev pub IsLossBy : Option Bool → StoredStatus → Event → Reply → StoredStatus → SubSeen → Type 0
IsLossBy known old (event.PathDown chpid) r new k = IsLoss k (is_lost_with k chpid) (may_be_lost_with k chpid) known old new
IsLossBy known old (event.PathReset chpid) r new k = IsLoss k (is_lost_with k chpid) (may_be_lost_with k chpid) known old new
IsLossBy known old (event.Up word path) (reply.Up (up.Notice b) taken sent) new k = IsLoss k (taken && not k.doubt) taken known old new
IsLossBy known old e r new k = Unit {0}

abbrev pub is_of_sub : ℕ → SubchannelId → Event → Bool
is_of_sub sets id (event.Up word path) = names sets id word
is_of_sub sets id e = true

-- of each subchannel
abbrev pub IsLossRight : Setup → SubchannelId → List Entry → StoredStatus → Event → Reply → StoredStatus → Type 0
IsLossRight setup id before old e r new =
    is_of_sub (set_count setup) id e ≡ true →
    IsSomeAnd (first_seen id (links_in setup before).subs) (IsLossBy (enabled_in (set_count setup) id before) old e r new)

abbrev pub AreLossesRight : Setup → List Entry → Type 0
AreLossesRight setup h = (id : SubchannelId) → Between (set_count setup) id h (IsLossRight setup id)
