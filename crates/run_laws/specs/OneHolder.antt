-- One holder of a device: what a unit does with a signal is what is due by the entries before it, of this unit and of those that share its
-- control unit (own). A signal of one side changes, of what is seen (Devices), that side and not the other, and the program that holds the
-- device where it is of that side, or none is. As what is seen tells each reply, the two sides leave each other alone: a unit in which
-- a signal of one side raised the number of the other, marked it as restarted or let its program go would answer a later signal
-- of the other otherwise than is due.
use Rattle.std.specs.Prelude.{◌≡◌, ◌<◌, ℕ, ◌+◌, ◌==◌, ◌&&◌, nat_lt, Bool, true, false, not, if◌then◌else◌, Option, None, Some, is_some, IfSome, List, slice_get}
use Rattle.chan_events.specs.Events.{Event}
use Rattle.chan_events.specs.declared.event.Event.TheVariants as event
use Rattle.chan_events.specs.declared.event.UnitAct.{UnitAct}
use Rattle.chan_events.specs.declared.event.UnitAct.TheVariants as act
use Rattle.chan_events.specs.declared.reply.Entry.{Entry}
use Rattle.chan_events.specs.Replies.{Reply}
use Rattle.chan_events.specs.declared.reply.Reply.TheVariants as reply
use Rattle.chan_model.specs.declared.names.Side.{Side}
use Rattle.chan_model.specs.Reports.{Report}
use Rattle.chan_model.specs.Signals.{Down}
use Rattle.chan_model.specs.declared.signal.Down.TheVariants as down
use Rattle.chan_model.specs.declared.signal.OnPath.{OnPath}
use Rattle.chan_model.specs.Signals.{Up}
use Rattle.chan_model.specs.declared.signal.Up.TheVariants as up
use Rattle.chan_model.specs.Sides.{same_side}
use Rattle.channel_config.specs.declared.parts.SubchannelSetup.{SubchannelSetup}
use Rattle.channel_config.specs.Setup.{Setup, set_count, groups_of}
use Rattle.channel_config.specs.SubchannelWords.{subchannel_named}
use Rattle.run_laws.specs.Entries.{Throughout}
use Rattle.run_laws.specs.Devices.{Connection, Connected, Asking, Apart, Transfer, Held, Asked, Holding, side_seen, is_holder, setup_named, holding_after, nothing_held}

-- a signal is ignored; it is taken in silence where a test is passed; it is answered, by the path by which it came
abbrev pub ignores : Down → Reply
ignores signal = reply.Down signal false None

abbrev pub takes_if : Bool → Down → Reply
takes_if test signal = reply.Down signal test None

abbrev pub answers : ℕ → Down → Up → Reply
answers path signal sent = reply.Down signal true (Some (record { path = path; signal = sent }))

abbrev pub answers_if : Bool → ℕ → Down → Up → Reply
answers_if test path signal sent = if test then answers path signal sent else ignores signal

-- the program of this side and number holds the device, and passes a test
abbrev pub holds_and : (Held → Bool) → Option Held → Side → ℕ → Bool
holds_and test None side t = false
holds_and test (Some h) side t = is_holder (Some h) side t && test h

abbrev pub is_connected : Connection → Bool
is_connected (Connected path c) = true
is_connected (Asking path c) = false
is_connected (Apart c) = false

abbrev pub is_connected_by : Connection → ℕ → Bool
is_connected_by (Connected path c) d = d == c
is_connected_by (Asking path c) d = false
is_connected_by (Apart c) d = false

abbrev pub is_asking : Connection → ℕ → Bool
is_asking (Connected path c) d = false
is_asking (Asking path c) d = d == c
is_asking (Apart c) d = false

abbrev pub connection_of : Connection → ℕ
connection_of (Connected path c) = c
connection_of (Asking path c) = c
connection_of (Apart c) = c

-- the bytes of a command wait for the Took that answers this chunk; for the Give that brings it; a side waits for this Got
abbrev pub is_unanswered : Option Transfer → ℕ → Bool
is_unanswered None s = false
is_unanswered (Some x) s = (s == x.sequence) && x.unanswered

abbrev pub is_next : Option Transfer → ℕ → Bool
is_next None s = false
is_next (Some x) s = s == x.sequence + 1

abbrev pub is_asked : Option Asked → Side → ℕ → Bool
is_asked None side a = false
is_asked (Some x) side a = same_side x.side side && (a == x.number)

-- a Grant of the connection that is asked for is taken, and an older one answered by Leave
abbrev pub grant_due : Option Held → Side → ℕ → ℕ → ℕ → Reply
grant_due holder side path t c =
    if holds_and (λ h. is_asking h.connection c) holder side t then takes_if true (down.Grant t c)
    else answers_if (holds_and (λ h. nat_lt c (connection_of h.connection)) holder side t) path (down.Grant t c) (up.Leave t c)

-- A signal to a side that was not restarted since its Cleared. A Select is ignored where its number is not above the one that the side
-- answered last; else Accept answers it where the control unit is free, and Busy where it is not. Of the program that holds the device
-- are taken: the next Command; the Refuse of the connection that it asks for; for its last command the Took of the Data that is not
-- answered, and, by the connection at hand, the Give of the next chunk; the first Halt. Released answers its Release. Cleared answers a
-- Reset that knows of all restarts, above the number that the side answered last. All else is ignored.
abbrev pub works_due : Holding → Side → ℕ → Bool → Down → Reply
works_due k side path free (down.Select t) =
    answers_if (nat_lt (side_seen k side).number t) path (down.Select t) (if free then up.Accept t else up.Busy t)
works_due k side path free (down.Command t n code room) = takes_if (holds_and (λ h. n == h.command + 1) k.holder side t) (down.Command t n code room)
works_due k side path free (down.Grant t c) = grant_due k.holder side path t c
works_due k side path free (down.Refuse t c) = takes_if (holds_and (λ h. is_asking h.connection c) k.holder side t) (down.Refuse t c)
works_due k side path free (down.Took t n s room) =
    takes_if (holds_and (λ h. (n == h.command) && is_unanswered h.transfer s) k.holder side t) (down.Took t n s room)
works_due k side path free (down.Give bytes t c n s) =
    takes_if (holds_and (λ h. is_connected_by h.connection c && ((n == h.command) && is_next h.transfer s)) k.holder side t) (down.Give bytes t c n s)
works_due k side path free (down.Halt t) = takes_if (holds_and (λ h. not h.halted) k.holder side t) (down.Halt t)
works_due k side path free (down.Release t) = answers_if (is_holder k.holder side t) path (down.Release t) (up.Released t)
works_due k side path free (down.Reset r b) =
    answers_if ((b == k.restarts) && nat_lt (side_seen k side).number r) path (down.Reset r b) (up.Cleared r)
works_due k side path free (down.Got a) = takes_if (is_asked k.attention side a) (down.Got a)

-- after a restart, until Cleared: Cleared answers a Reset that knows of all restarts, and Notice of them all else
abbrev pub restarted_due : Holding → ℕ → Down → Reply
restarted_due k path (down.Reset r b) = answers path (down.Reset r b) (if b == k.restarts then up.Cleared r else up.Notice k.restarts)
restarted_due k path signal = answers path signal (up.Notice k.restarts)

abbrev pub reply_due : Holding → Side → ℕ → Bool → Down → Reply
reply_due k side path free signal = if (side_seen k side).restarted then restarted_due k path signal else works_due k side path free signal

-- the numbers that a side answers rise
abbrev pub IsHigher : Holding → Side → ℕ → Type 0
IsHigher k side t = (side_seen k side).number < t

abbrev pub IsNumbered : Holding → Side → Up → Type 0
IsNumbered k side (up.Accept t) = IsHigher k side t
IsNumbered k side (up.Busy t) = IsHigher k side t
IsNumbered k side (up.Cleared r) = IsHigher k side r
IsNumbered k side signal = Unit {0}

abbrev pub IsAnswerNumbered : Holding → Side → Option (OnPath Up) → Type 0
IsAnswerNumbered k side sent = IfSome sent (λ x. IsNumbered k side x.signal)

-- what was seen of each unit
abbrev pub Seen : Type 0
Seen = ℕ → Holding

-- of the units that share a control unit with this one, itself among them, none is held by a program; or one is
abbrev pub IsFree : List ℕ → Seen → ℕ → Bool → Type 0
IsFree groups seen at true = (other : ℕ) → slice_get groups other ≡ slice_get groups at → (seen other).holder ≡ None
IsFree groups seen at false = (other : ℕ) × (slice_get groups other ≡ slice_get groups at) × (is_some (seen other).holder ≡ true)

abbrev pub IsDownRight : List ℕ → Seen → ℕ → Side → ℕ → Reply → Type 0
IsDownRight groups seen at side path (reply.Down signal taken sent) =
    ((free : Bool) × IsFree groups seen at free × (reply.Down signal taken sent ≡ reply_due (seen at) side path free signal))
    × IsAnswerNumbered (seen at) side sent
IsDownRight groups seen at side path r = Unit {0}

abbrev pub IsSetRight : List ℕ → Seen → Option SubchannelSetup → ℕ → Reply → Type 0
IsSetRight groups seen setup path r = IfSome setup (λ x. IsDownRight groups seen x.«unit» x.side path r)

-- what a device reports is of the program that holds it, connected, for its last command
abbrev pub IsReportRight : Holding → Report → Type 0
IsReportRight k report = holds_and (λ h. is_connected h.connection && (report.command == h.command)) k.holder report.side report.number ≡ true

-- a program that is connected leaves its path, one that is not asks for one; a unit that none holds asks a side for attention, and a
-- side is told of a restart, where it is due
abbrev pub is_held_and : (Held → Bool) → Option Held → Bool
is_held_and test None = false
is_held_and test (Some h) = test h

abbrev pub IsActRight : Holding → UnitAct → Type 0
IsActRight k act.Leave = is_held_and (λ h. is_connected h.connection) k.holder ≡ true
IsActRight k (act.Ask path) = is_held_and (λ h. not (is_connected h.connection)) k.holder ≡ true
IsActRight k (act.Attention path side) = (k.holder ≡ None) × ((side_seen k side).restarted ≡ false)
IsActRight k (act.Notice path side) = (side_seen k side).restarted ≡ true

abbrev pub IsEntryRight : List ℕ → ℕ → List SubchannelSetup → Event → Reply → Seen → Type 0
IsEntryRight groups sets subs (event.Down word path) r seen = IsSetRight groups seen (setup_named subs (subchannel_named sets word)) path r
IsEntryRight groups sets subs (event.Report at report) r seen = IsReportRight (seen at) report
IsEntryRight groups sets subs (event.Act at what) r seen = IsActRight (seen at) what
IsEntryRight groups sets subs e r seen = Unit {0}

-- what is seen of each unit after an entry
abbrev pub seen_after : ℕ → List SubchannelSetup → Event → Reply → Seen → Seen
seen_after sets subs e r seen = λ at. holding_after sets subs at e r (seen at)

abbrev pub HasOneHolder : Setup → List Entry → Type 0
HasOneHolder setup h =
    Throughout (seen_after (set_count setup) setup.subchannels) (IsEntryRight (groups_of setup) (set_count setup) setup.subchannels) (λ at. nothing_held) h
