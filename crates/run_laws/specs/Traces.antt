-- What was done for the program that a subchannel offered last, and what offers, devices and their reports tell of it
-- (SA22-7832, chapter 15).
use Rattle.std.specs.Prelude.{ℕ, ◌==◌, Bool, true, false, if◌then◌else◌, Option, None, Some, option_map, List, [], ◌++◌, take, slice_get}
use Rattle.orb_block.specs.declared.Orb.{Orb}
use Rattle.chan_model.specs.declared.signal.Down.TheVariants as down
use Rattle.chan_model.specs.declared.report.DeviceAnswer.TheVariants.{Absorbed}
use Rattle.chan_model.specs.Signals.{Down}
use Rattle.chan_model.specs.Reports.{Report, DeviceAnswer}
use Rattle.chan_model.specs.declared.unit_state.CurrentCommand.{CurrentCommand}
use Rattle.chan_model.specs.declared.unit_state.UnitState.{UnitState}
use Rattle.chan_model.specs.ResetCauses.{is_path}
use Rattle.chan_events.specs.Events.{Event}
use Rattle.chan_events.specs.declared.event.Event.TheVariants as event
use Rattle.chan_events.specs.Replies.{Reply}
use Rattle.chan_events.specs.declared.reply.Reply.TheVariants as reply
use Rattle.ccw_walk.specs.Sequences.{Sequence, Nothing, ◌▸◌, count}
use Rattle.ccw_walk.specs.Acts.{Act, PlacedBytes}
use Rattle.ccw_walk.specs.Programs.{commands}
use Rattle.subchannel_model.specs.declared.state.Program.{Program}
use Rattle.subchannel_model.specs.declared.state.Subchannel.{Subchannel}
use Rattle.subchannel_model.specs.Indices.{reached_in}
use Rattle.machine_model.specs.State.{State, index_of}

-- bytes that were stored, and storage as it stood before
pub record Arrival : Type 0 where
  pub former : List ℕ
  pub chunk : PlacedBytes

-- what was done for the program as far as one of its commands, and for this command: the chunks that were copied for the
-- device, the bytes of a read that were stored, and the places of the bytes that were moved, all in order
pub record CommandTrace : Type 0 where
  pub acts : Sequence Act
  pub copied : List PlacedBytes
  pub arrived : List Arrival
  pub moved : List (Option ℕ)
  -- the number of the chunk that came last, how many bytes were given last, and whether the device ever absorbed fewer than given
  pub sequence : ℕ
  pub given : ℕ
  pub stopped : Bool
  -- whether a check stops its data, which its End shows; whether an End of it came; and whether nothing is chained to it any more
  pub stopped_by_check : Bool
  pub ended : Bool
  pub unchained : Bool

abbrev pub no_trace : CommandTrace
no_trace = record {
  acts = Nothing;
  copied = [];
  arrived = [];
  moved = [];
  sequence = 0;
  given = 0;
  stopped = false;
  stopped_by_check = false;
  ended = false;
  unchained = false;
}

-- what was done for the program that was offered under this number
pub record ProgramTrace : Type 0 where
  pub number : ℕ
  pub orb : Orb
  -- how many of its commands were sent under earlier numbers, before it was suspended
  pub earlier : ℕ
  -- how many commands were sent under this number, and what was done as far as the last of them, and as far as the one
  -- before
  pub sent : ℕ
  pub now : CommandTrace
  pub before : CommandTrace
  -- the codes of the commands that the device took under this number, in order
  pub taken : Sequence ℕ
  -- the bytes that it absorbed for the last one, in order
  pub absorbed : List ℕ

-- Choose: a program is offered from its beginning, or from where it was suspended
abbrev pub trace_offered : ℕ → Orb → ProgramTrace
trace_offered t orb = record { number = t; orb = orb; earlier = 0; sent = 0; now = no_trace; before = no_trace; taken = Nothing; absorbed = [] }

-- what was done before: the acts, and the indices of the bytes that the last command moved
abbrev pub past_part : CommandTrace → CommandTrace
past_part p = record no_trace { acts = p.acts; moved = p.moved }

abbrev pub trace_resumed : ℕ → ProgramTrace → ProgramTrace
trace_resumed t k = record (trace_offered t k.orb) { earlier = count (commands k.orb k.now.acts); now = past_part k.now }

abbrev pub offered_for : Option Program → ℕ → Option ProgramTrace → Option ProgramTrace
offered_for waiting t k = elim waiting [ None ↦ k | Some program ↦ Some (trace_offered t program.orb) ]

abbrev pub resumed_for : ℕ → Option ProgramTrace → Option ProgramTrace
resumed_for t k = option_map (trace_resumed t) k

abbrev pub chosen_at : Option Subchannel → Reply → Option ProgramTrace → Option ProgramTrace
chosen_at (Some sub) (reply.Offered t p false) k = offered_for sub.state.waiting t k
chosen_at (Some sub) (reply.Offered t p true) k = resumed_for t k
chosen_at sub r k = k

-- the device takes a command of the program: one that is answered, as where its side is fresh, was not taken
abbrev pub takes : Down → ProgramTrace → ProgramTrace
takes signal k =
    elim signal [ down.Command t n code room ↦ if t == k.number then record k { taken = k.taken ▸ code; absorbed = [] } else k | other ↦ k ]

abbrev pub taken_at : Reply → Option ProgramTrace → Option ProgramTrace
taken_at (reply.Down signal true None) (Some k) = Some (takes signal k)
taken_at r k = k

-- the device absorbs bytes that it was given
abbrev pub absorbs : ℕ → Option CurrentCommand → ProgramTrace → ProgramTrace
absorbs count None k = k
absorbs count (Some x) k = elim x.unabsorbed [ None ↦ k | Some bytes ↦ record k { absorbed = k.absorbed ++ take count bytes } ]

abbrev pub reported : UnitState → Report → DeviceAnswer → ProgramTrace → ProgramTrace
reported u report told k =
    elim told [ Absorbed count ↦ if report.number == k.number then absorbs count u.current k else k | answer ↦ k ]

abbrev pub reported_at : Option UnitState → Report → Option ProgramTrace → Option ProgramTrace
reported_at (Some u) report (Some k) = Some (reported u report report.answer k)
reported_at u report k = k

-- what an offer, a command that the device takes, and a report tell, where the subchannel is that of the index
abbrev pub traced_after : ℕ → State → Event → Reply → Option ProgramTrace → Option ProgramTrace
traced_after index s (event.Choose word) r k = if is_path (index_of s word) index then chosen_at (slice_get s.subs index) r k else k
traced_after index s (event.Down word path) r k = if is_path (index_of s word) index then taken_at r k else k
traced_after index s (event.Report at report) r k =
    if is_path (reached_in at report.side s.subs) index then reported_at (slice_get s.units at) report k else k
traced_after index s e r k = k
