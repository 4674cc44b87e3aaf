-- What is seen of each event that is accepted: which signal arrived, whether it was taken, and what was sent (own).
use Rattle.std.specs.Prelude.{ℕ, Bool, ◌&&◌, Option, None, Some, slice_get}
use Rattle.chan_model.specs.declared.hold_state.HoldPhase.{HoldPhase}
use Rattle.chan_model.specs.declared.hold_state.HoldPhase.TheVariants.{Free, Reset}
use Rattle.chan_model.specs.declared.hold_state.HoldState.{HoldState}
use Rattle.chan_model.specs.declared.names.Side.{Side}
use Rattle.chan_model.specs.declared.signal.OnPath.{OnPath}
use Rattle.chan_model.specs.declared.signal.Taken.{Taken}
use Rattle.chan_model.specs.Signals.{Down}
use Rattle.chan_model.specs.Signals.{Up}
use Rattle.chan_model.specs.declared.signal.Up.TheVariants as up
use Rattle.chan_model.specs.declared.unit_state.Own.{Own}
use Rattle.chan_model.specs.declared.unit_state.Own.TheVariants as own
use Rattle.chan_model.specs.declared.unit_state.UnitState.{UnitState}
use Rattle.chan_model.specs.HoldTable as hold_table
use Rattle.chan_model.specs.UnitTable as unit_table
use Rattle.agreement_laws.specs.Moving.{HoldAct, Nothing, Offers, Sends_reset, Lets_go, Takes, hold_acts, UnitAct, Takes_down, Leaves, Asks, Attends, Notices, Reports, unit_steps}
use Rattle.agree.specs.declared.event.WorldEvent.{WorldEvent}
use Rattle.agree.specs.declared.event.WorldEvent.TheVariants as event
use Rattle.agree.specs.declared.reply.WorldReply.{WorldReply}
use Rattle.agree.specs.declared.reply.WorldReply.TheVariants as reply
use Rattle.agree.specs.State.{LineState, WorldState, line_of}

abbrev pub sent_down_reply : Side → Option (OnPath Down) → WorldReply
sent_down_reply side None = reply.Done
sent_down_reply side (Some x) = reply.SentDown side x

abbrev pub sent_up_reply : Side → Option (OnPath Up) → WorldReply
sent_up_reply side None = reply.Done
sent_up_reply side (Some x) = reply.SentUp side x

-- Whether a signal that came by a path is taken. A Data is taken where its program is connected on that path by that connection, an
-- End where its program is connected, by whatever path it came; and where the program waits for it, as `may` says. All else is
-- taken as the table of the hold says.
abbrev pub is_taken : HoldState → ℕ → Up → Bool → Bool
is_taken h p (up.Data load t c n s) may = hold_table.is_connected h.phase p t c && may
is_taken h p (up.End t n status more) may = hold_table.is_on h.phase t && may
is_taken h p signal may = (hold_table.outcome_of (hold_table.hold_takes h p signal may)).taken

-- what a side sends as it is chosen
abbrev pub chosen_act : HoldPhase → ℕ → Bool → HoldAct
chosen_act Free p single = Offers p single
chosen_act (Reset r) p single = Sends_reset p
chosen_act phase p single = Nothing

abbrev pub hold_sends : LineState → HoldAct → Option (OnPath Down)
hold_sends l act = (hold_acts l.link.drawn l.link.hold act).sent

abbrev pub hold_reply : Side → LineState → HoldAct → WorldReply
hold_reply side l act = sent_down_reply side (hold_sends l act)

abbrev pub line_took_up_reply : Side → LineState → Option (OnPath Up) → Bool → WorldReply
line_took_up_reply side l None may = reply.Done
line_took_up_reply side l (Some x) may = reply.Up side x (is_taken l.link.hold x.path x.signal may) (hold_sends l (Takes x may))

abbrev pub unit_reply : Side → UnitState → UnitAct → WorldReply
unit_reply side u act = sent_up_reply side (unit_table.outcome_of (unit_steps u act)).sent

abbrev pub arrived_reply : Side → OnPath Down → Taken Up → WorldReply
arrived_reply side x outcome = reply.Down side x outcome.taken outcome.sent

abbrev pub line_took_down_reply : Side → UnitState → Option (OnPath Down) → Bool → WorldReply
line_took_down_reply side u None may = reply.Done
line_took_down_reply side u (Some x) may = arrived_reply side x (unit_table.outcome_of (unit_steps u (Takes_down side x may)))

abbrev pub owner_reply : Own → UnitState → UnitAct → WorldReply
owner_reply own.Idle u act = reply.Done
owner_reply (own.Owned side t connection) u act = unit_reply side u act

-- of each event
abbrev pub reply_of : WorldState → WorldEvent → WorldReply
reply_of w (event.Choose side p single) = hold_reply side (line_of w side) (chosen_act (line_of w side).link.hold.phase p single)
reply_of w (event.Down side index keep may) = line_took_down_reply side w.«unit» (slice_get (line_of w side).link.downs index) may
reply_of w (event.Up side index keep may) = line_took_up_reply side (line_of w side) (slice_get (line_of w side).link.ups index) may
reply_of w (event.LetGo side) = hold_reply side (line_of w side) Lets_go
reply_of w (event.Send side p signal) = reply.SentDown side (record { path = p; signal = signal })
reply_of w event.Leave = owner_reply w.«unit».own w.«unit» Leaves
reply_of w (event.Ask p) = owner_reply w.«unit».own w.«unit» (Asks p)
reply_of w (event.Attention side p) = unit_reply side w.«unit» (Attends side p)
reply_of w (event.Notice side p) = unit_reply side w.«unit» (Notices side p)
reply_of w (event.Report report) = owner_reply w.«unit».own w.«unit» (Reports report)
reply_of w e = reply.Done
