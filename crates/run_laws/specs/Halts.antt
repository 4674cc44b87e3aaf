-- What the subsystem chooses where STORE SUBCHANNEL shows a halt pending just before, by where the subchannel's program is, as the entries before
-- tell (SA22-7832, chapter 14, HALT SUBCHANNEL; when it is done is this project's own choice).
use Rattle.std.specs.Prelude.{◌≡◌, ◌⊎◌, ℕ, Bool, true, Some, IsSomeAnd, List}
use Rattle.chan_events.specs.Events.{Event}
use Rattle.chan_events.specs.declared.event.Event.TheVariants as event
use Rattle.chan_events.specs.declared.reply.Entry.{Entry}
use Rattle.chan_events.specs.Replies.{Reply}
use Rattle.chan_events.specs.declared.reply.Reply.TheVariants as reply
use Rattle.channel_config.specs.declared.names.SubchannelId.{SubchannelId}
use Rattle.channel_config.specs.Setup.{Setup, set_count}
use Rattle.run_laws.specs.Links.{Link, Nowhere, Offered, Connected, Apart, Leaving, Resetting, Reset_sent, SubSeen, Seen, IsReset, IsUp, first_seen, links_in}
use Rattle.run_laws.specs.Shown.{StoredStatus, names, Between}

-- the path by which the program was accepted is not up
abbrev pub IsFirstDown : (ℕ → Bool) → SubSeen → Type 0
IsFirstDown is_up k = (path : ℕ) → k.first ≡ Some path → IsUp is_up k path → ⊥

-- a Halt goes to the program that is connected, by its path, and to one that is apart, by that of its Accept or another; it waits only while
-- that of its Accept is down. The answer to an offer is waited for. Otherwise the halt is performed and status made; before that a Reset that
-- is due is sent, if a path is up
abbrev pub IsHaltDone : (ℕ → Bool) → SubSeen → Link → Reply → Type 0
IsHaltDone is_up k Nowhere r = r ≡ reply.Pending
IsHaltDone is_up k (Offered t path) r = r ≡ reply.Idle
IsHaltDone is_up k (Connected t path c) r = r ≡ reply.HaltSent t path
IsHaltDone is_up k (Apart t) r = ((path : ℕ) × (r ≡ reply.HaltSent t path)) ⊎ ((r ≡ reply.Idle) × IsFirstDown is_up k)
IsHaltDone is_up k (Leaving t path) r = r ≡ reply.Pending
IsHaltDone is_up k Resetting r = IsReset r ⊎ (r ≡ reply.Pending)
IsHaltDone is_up k (Reset_sent n path) r = r ≡ reply.Pending

-- or of a program that is apart a reset is due that no entry tells
abbrev pub IsHaltDoneFor : (ℕ → Bool) → Reply → SubSeen → Type 0
IsHaltDoneFor is_up r k = IsHaltDone is_up k k.link r ⊎ ((k.doubt ≡ true) × IsHaltDone is_up k Resetting r)

abbrev pub IsHaltDoneBy : SubchannelId → Reply → Seen → Type 0
IsHaltDoneBy id r k = IsSomeAnd (first_seen id k.subs) (IsHaltDoneFor k.up r)

abbrev pub IsHaltRight : Setup → SubchannelId → List Entry → StoredStatus → Event → Reply → Type 0
IsHaltRight setup id before old (event.Choose word) r =
    names (set_count setup) id word ≡ true → old.scsw.activity.halt_pending ≡ true →
    IsHaltDoneBy id r (links_in setup before)
IsHaltRight setup id before old e r = Unit {0}

-- of each subchannel
abbrev pub AreHaltsDone : Setup → List Entry → Type 0
AreHaltsDone setup h = (id : SubchannelId) → Between (set_count setup) id h (λ before old e r new. IsHaltRight setup id before old e r)
