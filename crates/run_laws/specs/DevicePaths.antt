-- By which path the signals of a device's connections go: each number and connection has one path, that of its Accept or of the Ask for it,
-- and what comes up or down under them comes by it, whether it is taken or not; a Give is taken where the device is connected by it (own).
use Rattle.std.specs.Prelude.{◌≡◌, ℕ, ◌+◌, ◌==◌, ◌&&◌, Bool, true, false, if◌then◌else◌, Option, None, Some, List, [], ◌∷◌}
use Rattle.chan_events.specs.Events.{Event}
use Rattle.chan_events.specs.declared.event.Event.TheVariants as event
use Rattle.chan_events.specs.declared.event.UnitAct.TheVariants as act
use Rattle.chan_events.specs.declared.reply.Entry.{Entry}
use Rattle.chan_events.specs.Replies.{Reply}
use Rattle.chan_events.specs.declared.reply.Reply.TheVariants as reply
use Rattle.chan_model.specs.declared.names.Side.{Side}
use Rattle.chan_model.specs.Signals.{Down}
use Rattle.chan_model.specs.declared.signal.Down.TheVariants as down
use Rattle.chan_model.specs.declared.signal.OnPath.{OnPath}
use Rattle.chan_model.specs.Signals.{Up}
use Rattle.chan_model.specs.declared.signal.Up.TheVariants as up
use Rattle.chan_model.specs.Sides.{same_side}
use Rattle.channel_config.specs.declared.parts.SubchannelSetup.{SubchannelSetup}
use Rattle.channel_config.specs.Setup.{Setup, set_count}
use Rattle.channel_config.specs.SubchannelWords.{subchannel_named}
use Rattle.run_laws.specs.Devices.{Connected, Held, Holding, setup_named, holding_after, nothing_held}
use Rattle.run_laws.specs.OneHolder.{connection_of}

-- the path of a number and a connection, where one was drawn
abbrev pub Ways : Type 0
Ways = ℕ → ℕ → Option ℕ

abbrev pub with_way : ℕ → ℕ → ℕ → Ways → Ways
with_way t c path ways = λ u d. if (u == t) && (d == c) then Some path else ways u d

-- an Accept is sent by the path of its connection 0
abbrev pub way_answered : ℕ → Up → Ways → Ways
way_answered path (up.Accept t) ways = with_way t 0 path ways
way_answered path signal ways = ways

abbrev pub way_met : ℕ → Reply → Ways → Ways
way_met path (reply.Down signal true (Some sent)) ways = way_answered path sent.signal ways
way_met path r ways = ways

-- the program of this side that holds the device asks for a path, under its next connection
abbrev pub way_asked : Side → ℕ → Option Held → Ways → Ways
way_asked side path None ways = ways
way_asked side path (Some h) ways = if same_side h.side side then with_way h.number (connection_of h.connection + 1) path ways else ways

-- the subchannel reaches this side of this unit
abbrev pub is_at : ℕ → Side → Option SubchannelSetup → Bool
is_at at side None = false
is_at at side (Some x) = (x.«unit» == at) && same_side x.side side

abbrev pub ways_after : ℕ → List SubchannelSetup → ℕ → Side → Event → Reply → Holding → Ways → Ways
ways_after sets subs at side (event.Down word path) r k ways = if is_at at side (setup_named subs (subchannel_named sets word)) then way_met path r ways else ways
ways_after sets subs at side (event.Act index (act.Ask path)) r k ways = if index == at then way_asked side path k.holder ways else ways
ways_after sets subs at side e r k ways = ways

-- a signal that came up, or down, by this path
abbrev pub IsUpBy : Ways → ℕ → Up → Type 0
IsUpBy ways path (up.Accept t) = ways t 0 ≡ Some path
IsUpBy ways path (up.Data load t c n s) = ways t c ≡ Some path
IsUpBy ways path (up.Leave t c) = ways t c ≡ Some path
IsUpBy ways path (up.Back t c) = ways t c ≡ Some path
IsUpBy ways path signal = Unit {0}

abbrev pub IsDownBy : Ways → ℕ → Down → Type 0
IsDownBy ways path (down.Grant t c) = ways t c ≡ Some path
IsDownBy ways path (down.Give bytes t c n s) = ways t c ≡ Some path
IsDownBy ways path signal = Unit {0}

-- a Give was taken where the device is connected by its path and connection
abbrev pub IsGivenTo : Holding → ℕ → ℕ → Type 0
IsGivenTo k path c = (h : Held) × (k.holder ≡ Some h) × (h.connection ≡ Connected path c)

abbrev pub IsTakenBy : Holding → ℕ → Down → Bool → Option (OnPath Up) → Type 0
IsTakenBy k path (down.Give bytes t c n s) true None = IsGivenTo k path c
IsTakenBy k path signal taken sent = Unit {0}

abbrev pub IsReplyBy : Holding → Ways → ℕ → Reply → Type 0
IsReplyBy k ways path (reply.Up signal taken sent) = IsUpBy ways path signal
IsReplyBy k ways path (reply.Down signal taken sent) = IsDownBy ways path signal × IsTakenBy k path signal taken sent
IsReplyBy k ways path r = Unit {0}

abbrev pub IsEntryBy : ℕ → List SubchannelSetup → ℕ → Side → Event → Reply → Holding → Ways → Type 0
IsEntryBy sets subs at side (event.Up word path) r k ways = is_at at side (setup_named subs (subchannel_named sets word)) ≡ true → IsReplyBy k ways path r
IsEntryBy sets subs at side (event.Down word path) r k ways = is_at at side (setup_named subs (subchannel_named sets word)) ≡ true → IsReplyBy k ways path r
IsEntryBy sets subs at side e r k ways = Unit {0}

-- each of these entries is so, where this was seen of the unit before them and these are the paths of the side's connections
abbrev pub AreBy : ℕ → List SubchannelSetup → ℕ → Side → Holding → Ways → List Entry → Type 0
AreBy sets subs at side k ways [] = Unit {0}
AreBy sets subs at side k ways (entry ∷ entries) =
    IsEntryBy sets subs at side entry.event entry.reply k ways
    × AreBy sets subs at side (holding_after sets subs at entry.event entry.reply k) (ways_after sets subs at side entry.event entry.reply k ways) entries

-- of each side of each unit
abbrev pub HasOneWayEach : Setup → List Entry → Type 0
HasOneWayEach setup h = (at : ℕ) (side : Side) → AreBy (set_count setup) setup.subchannels at side nothing_held (λ t c. None) h
