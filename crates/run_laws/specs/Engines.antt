-- The engine of a channel path serves one subchannel at most: the one whose program is offered, connected or let go by it (SA22-7832,
-- chapter 15, the active allegiance); and STORE CHANNEL PATH STATUS shows just these engines (chapter 14).
use Rattle.std.specs.Prelude.{◌≡◌, ℕ, ◌+◌, ◌*◌, Bool, true, false, Some, IsSomeAnd, List, map, slice_get}
use Rattle.std.specs.List.{list_any, range_with_len}
use Rattle.chan_events.specs.Events.{Event}
use Rattle.chan_events.specs.declared.event.Event.TheVariants as event
use Rattle.chan_events.specs.declared.event.OtherInstruction.TheVariants as other
use Rattle.chan_events.specs.declared.reply.Entry.{Entry}
use Rattle.chan_events.specs.Replies.{Reply}
use Rattle.chan_events.specs.declared.reply.Reply.TheVariants as reply
use Rattle.chan_model.specs.PathSets.{mask_of_paths, each_path}
use Rattle.chan_model.specs.declared.signal.Down.TheVariants as down
use Rattle.chan_model.specs.declared.signal.Up.TheVariants as up
use Rattle.channel_config.specs.Setup.{Setup, set_count}
use Rattle.channel_config.specs.SubchannelWords.{subchannel_named}
use Rattle.run_laws.specs.Entries.{Throughout}
use Rattle.run_laws.specs.Returns.{granted_path}
use Rattle.run_laws.specs.Links.{Apart, SubSeen, Seen, engaged_by, is_on, IsUp, seen_named, seen_after, nothing_seen}

-- the engine of a channel path serves this subchannel; it serves one
abbrev pub is_served : ℕ → SubSeen → Bool
is_served chpid k = is_on k.setup (engaged_by k.link) chpid

abbrev pub serves : Seen → ℕ → Bool
serves k chpid = list_any (is_served chpid) k.subs

-- a path of a subchannel whose engine serves none: it is idle
abbrev pub IsIdle : Seen → SubSeen → ℕ → Type 0
IsIdle k sub path = (chpid : ℕ) → slice_get sub.setup.paths path ≡ Some chpid → serves k chpid ≡ false

-- an offer goes by such a path
abbrev pub IsOfferRight : Seen → Reply → SubSeen → Type 0
IsOfferRight k (reply.Offered t path resumes) sub = IsIdle k sub path
IsOfferRight k r sub = Unit {0}

-- and so does a Grant
abbrev pub IsGrantRight : Seen → Reply → SubSeen → Type 0
IsGrantRight k r sub = (path : ℕ) → granted_path r ≡ Some path → IsIdle k sub path

-- a Back that is taken while its program is apart is granted where it came by the path of the Accept, which is up and whose engine is
-- idle (in multipath mode by others too)
abbrev pub IsGrantDue : Seen → ℕ → Reply → SubSeen → Type 0
IsGrantDue k path (reply.Up (up.Back t c) true sent) sub =
    sub.link ≡ Apart t → sub.first ≡ Some path → IsUp k.up sub path → IsIdle k sub path → sent ≡ Some (record { path = path; signal = down.Grant t c })
IsGrantDue k path r sub = Unit {0}

abbrev pub GoesByIdle : ℕ → Seen → Event → Reply → Type 0
GoesByIdle sets k (event.Choose word) r = IsSomeAnd (seen_named (subchannel_named sets word) k.subs) (IsOfferRight k r)
GoesByIdle sets k (event.Up word path) r = IsSomeAnd (seen_named (subchannel_named sets word) k.subs) (λ sub. IsGrantRight k r sub × IsGrantDue k path r sub)
GoesByIdle sets k e r = Unit {0}

-- STORE CHANNEL PATH STATUS: bit n of 32 bytes is one where the engine of channel path n serves a subchannel
abbrev pub status_byte : (ℕ → Bool) → ℕ → ℕ
status_byte is_active index = mask_of_paths (each_path (λ p. is_active (8 * index + p)))

unfoldable pub status_bytes : (ℕ → Bool) → List ℕ
status_bytes is_active = map (status_byte is_active) (range_with_len 0 32)

abbrev pub ShowsServed : Seen → Event → Reply → Type 0
ShowsServed k (event.ExecuteOther cpu (other.Stcps address)) r = r ≡ reply.Paths (status_bytes (serves k))
ShowsServed k e r = Unit {0}

-- each engine serves one subchannel at most, and none where its path is down
pub record ServesOne (k : Seen) : Type 0 where
  pub alone : (chpid i j : ℕ) (x y : SubSeen) → slice_get k.subs i ≡ Some x → slice_get k.subs j ≡ Some y → is_served chpid x ≡ true → is_served chpid y ≡ true → i ≡ j
  pub up : (chpid i : ℕ) (x : SubSeen) → slice_get k.subs i ≡ Some x → is_served chpid x ≡ true → k.up chpid ≡ true

abbrev pub IsEntryRight : ℕ → Event → Reply → Seen → Type 0
IsEntryRight sets e r k = GoesByIdle sets k e r × ShowsServed k e r × ServesOne (seen_after sets e r k)

abbrev pub HasOneEngine : Setup → List Entry → Type 0
HasOneEngine setup h = Throughout (seen_after (set_count setup)) (IsEntryRight (set_count setup)) (nothing_seen setup) h
