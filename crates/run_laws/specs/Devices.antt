-- What is seen of a unit: the program that holds its device, where this program is, and what each side of the unit answered (own).
use Rattle.std.specs.Prelude.{ℕ, ◌+◌, ◌%◌, ◌==◌, ◌&&◌, ◌||◌, Bool, true, false, if◌then◌else◌, Option, None, Some, option_map, option_and_then, List}
use Rattle.std.specs.List.{find}
use Rattle.agreement_laws.specs.Holders.{SideAnswered}
use Rattle.chan_events.specs.Events.{Event}
use Rattle.chan_events.specs.declared.event.Event.TheVariants as event
use Rattle.chan_events.specs.declared.event.UnitAct.{UnitAct}
use Rattle.chan_events.specs.declared.event.UnitAct.TheVariants as act
use Rattle.chan_events.specs.Replies.{Reply}
use Rattle.chan_events.specs.declared.reply.Reply.TheVariants as reply
use Rattle.chan_model.specs.declared.names.Side.{Side}
use Rattle.chan_model.specs.declared.names.Side.TheVariants.{First, Second}
use Rattle.chan_model.specs.Reports.{DeviceAnswer}
use Rattle.chan_model.specs.declared.report.DeviceAnswer.TheVariants as answer
use Rattle.chan_model.specs.Signals.{Down}
use Rattle.chan_model.specs.declared.signal.Down.TheVariants as down
use Rattle.chan_model.specs.Signals.{Up}
use Rattle.chan_model.specs.declared.signal.Up.TheVariants as up
use Rattle.chan_model.specs.Sides.{same_side}
use Rattle.channel_config.specs.declared.names.SubchannelId.{SubchannelId}
use Rattle.channel_config.specs.declared.parts.SubchannelSetup.{SubchannelSetup}
use Rattle.channel_config.specs.SubchannelWords.{subchannel_named}
use Rattle.run_laws.specs.StateClaims.{is_same_id}

-- the subchannel that a word names, as it was set up
abbrev pub setup_named : List SubchannelSetup → Option SubchannelId → Option SubchannelSetup
setup_named subs named = option_and_then (λ id. find (λ x. is_same_id x.id id) subs) named

-- where a program is at its device: connected by a path, under a connection; asking for a path, under the next one; or on none
pub data Connection : Type 0 where
  Connected : (path connection : ℕ) → Connection
  Asking : (path connection : ℕ) → Connection
  Apart : (connection : ℕ) → Connection

-- the bytes of a command: the number of its last chunk, whether a Data of it is not answered, and whether they go to the device
pub record Transfer : Type 0 where
  pub sequence : ℕ
  pub unanswered : Bool
  pub outward : Bool

-- the program that holds the device: its side, its number, where it is, the number of the last Command that was taken, the bytes of this
-- command, and whether a Halt was taken
pub record Held : Type 0 where
  pub side : Side
  pub number : ℕ
  pub connection : Connection
  pub command : ℕ
  pub transfer : Option Transfer
  pub halted : Bool

-- the side that the unit asked for attention last, under which number, where Got did not answer it
pub record Asked : Type 0 where
  pub side : Side
  pub number : ℕ

-- the unit: how often it was restarted, the program that holds its device, its sides, and how often it asked for attention
pub record Holding : Type 0 where
  pub restarts : ℕ
  pub holder : Option Held
  pub first : SideAnswered
  pub second : SideAnswered
  pub attentions : ℕ
  pub attention : Option Asked

abbrev pub side_seen : Holding → Side → SideAnswered
side_seen k First = k.first
side_seen k Second = k.second

abbrev pub with_seen : Holding → Side → SideAnswered → Holding
with_seen k First x = record k { first = x }
with_seen k Second x = record k { second = x }

abbrev pub with_answered : Holding → Side → ℕ → Holding
with_answered k side t = with_seen k side (record (side_seen k side) { number = t })

abbrev pub let_go : Holding → Holding
let_go k = record k { holder = None }

abbrev pub is_held_by : Option Held → Side → Bool
is_held_by None side = false
is_held_by (Some h) side = same_side h.side side

-- the program of this side and number holds the device
abbrev pub is_holder : Option Held → Side → ℕ → Bool
is_holder None side t = false
is_holder (Some h) side t = same_side h.side side && (t == h.number)

abbrev pub with_holder : (Held → Held) → Holding → Holding
with_holder change k = record k { holder = option_map change k.holder }

-- a program is granted the path that it asks for; it leaves its path, or is refused one; it asks for one
abbrev pub granted : Connection → Connection
granted (Connected path c) = Connected path c
granted (Asking path c) = Connected path c
granted (Apart c) = Apart c

abbrev pub parted : Connection → Connection
parted (Connected path c) = Apart c
parted (Asking path c) = Apart c
parted (Apart c) = Apart c

abbrev pub asking : ℕ → Connection → Connection
asking path (Connected p c) = Asking path (c + 1)
asking path (Asking p c) = Asking path (c + 1)
asking path (Apart c) = Asking path (c + 1)

abbrev pub moved : (Connection → Connection) → Held → Held
moved to h = record h { connection = to h.connection }

-- a command begins: its code is odd where its bytes go to the device
abbrev pub commanded : ℕ → ℕ → Held → Held
commanded n code h = record h { command = n; transfer = Some (record { sequence = 0; unanswered = false; outward = code % 2 == 1 }) }

-- the last Data is answered; the next chunk of bytes is given; the device gives an answer
abbrev pub with_transfer : (Transfer → Transfer) → Held → Held
with_transfer change h = record h { transfer = option_map change h.transfer }

abbrev pub answered : Transfer → Transfer
answered x = record x { unanswered = false }

abbrev pub given : ℕ → Transfer → Transfer
given s x = record x { sequence = s; unanswered = false }

abbrev pub reported : DeviceAnswer → Transfer → Transfer
reported answer.Begins x = record x { unanswered = x.outward || x.unanswered }
reported (answer.Absorbed count) x = record x { unanswered = true }
reported (answer.Supplied bytes) x = record x { sequence = x.sequence + 1; unanswered = true }
reported answer.Again x = x
reported (answer.Ended status more) x = x

-- the unit is restarted
abbrev pub with_restart : Holding → Holding
with_restart k = record {
  restarts = k.restarts + 1;
  holder = None;
  first = record k.first { restarted = true };
  second = record k.second { restarted = true };
  attentions = k.attentions;
  attention = None;
}

-- the unit answered the subchannel of this side, by this path: by Accept its program holds the device; by Released it holds it no
-- more, nor by Cleared where it was of this side
abbrev pub held_after : Side → ℕ → Up → Holding → Holding
held_after side path (up.Accept t) k =
    record (with_answered k side t) { holder = Some (record { side = side; number = t; connection = Connected path 0; command = 0; transfer = None; halted = false }) }
held_after side path (up.Busy t) k = with_answered k side t
held_after side path (up.Released t) k = let_go k
held_after side path (up.Cleared r) k = with_seen (if is_held_by k.holder side then let_go k else k) side (record { number = r; restarted = false })
held_after side path signal k = k

-- it took a signal in silence
abbrev pub quiet_after : Down → Holding → Holding
quiet_after (down.Command t n code room) k = with_holder (commanded n code) k
quiet_after (down.Grant t c) k = with_holder (moved granted) k
quiet_after (down.Refuse t c) k = with_holder (moved parted) k
quiet_after (down.Took t n s room) k = with_holder (with_transfer answered) k
quiet_after (down.Give bytes t c n s) k = with_holder (with_transfer (given s)) k
quiet_after (down.Got a) k = record k { attention = None }
quiet_after (down.Halt t) k = with_holder (λ h. record h { halted = true }) k
quiet_after signal k = k

-- it acted of itself
abbrev pub acted_after : UnitAct → Holding → Holding
acted_after act.Leave k = with_holder (moved parted) k
acted_after (act.Ask path) k = with_holder (moved (asking path)) k
acted_after (act.Attention path side) k = record k { attentions = k.attentions + 1; attention = Some (record { side = side; number = k.attentions + 1 }) }
acted_after (act.Notice path side) k = k

abbrev pub held_met : Side → ℕ → Reply → Holding → Holding
held_met side path (reply.Down signal true (Some sent)) k = held_after side path sent.signal k
held_met side path (reply.Down signal true None) k = quiet_after signal k
held_met side path r k = k

-- the entry is of this unit where its subchannel is set up so
abbrev pub holding_met : ℕ → Option SubchannelSetup → ℕ → Reply → Holding → Holding
holding_met at None path r k = k
holding_met at (Some x) path r k = if x.«unit» == at then held_met x.side path r k else k

abbrev pub holding_after : ℕ → List SubchannelSetup → ℕ → Event → Reply → Holding → Holding
holding_after sets subs at (event.Down word path) r k = holding_met at (setup_named subs (subchannel_named sets word)) path r k
holding_after sets subs at (event.Report index report) r k = if index == at then with_holder (with_transfer (reported report.answer)) k else k
holding_after sets subs at (event.Act index what) r k = if index == at then acted_after what k else k
holding_after sets subs at (event.Restart index) r k = if index == at then with_restart k else k
holding_after sets subs at e r k = k

-- before all
abbrev pub nothing_held : Holding
nothing_held = record {
  restarts = 0;
  holder = None;
  first = record { number = 0; restarted = false };
  second = record { number = 0; restarted = false };
  attentions = 0;
  attention = None;
}
