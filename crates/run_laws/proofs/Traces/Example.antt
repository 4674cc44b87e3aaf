-- Short stories, so that the definitions are seen to tell them: a write of two bytes at 16, by a program at 8; and one that
-- is suspended and resumed.
use Rattle.std.proofs.Common.{◌≡◌, ℕ, false, true, [], ◌∷◌, map, Some, refl, lit<}
use Rattle.std.specs.Prelude.{is_some}
use Rattle.orb_block.specs.declared.Orb.{Orb}
use Rattle.scsw_irb.specs.declared.status.DeviceStatus.{DeviceStatus}
use Rattle.storage_keys.specs.Storage.{Contents}
use Rattle.chan_model.specs.declared.hold_state.HoldPhase.TheVariants as hold
use Rattle.chan_model.specs.declared.signal.Load.TheVariants as load
use Rattle.chan_model.specs.declared.signal.Up.TheVariants as up
use Rattle.chan_model.specs.HoldTable.{free_hold}
use Rattle.subchannel_model.specs.declared.state.Program.{Program}
use Rattle.subchannel_model.specs.declared.state.SubchannelState.{SubchannelState}
use Rattle.subchannel_model.specs.Opening.{opening_subchannel}
use Rattle.subchannel_model.specs.Taking.{takes_up}
use Rattle.run_laws.specs.Traces.{ProgramTrace, trace_offered, trace_resumed}
use Rattle.run_laws.proofs.Traces.MachineTraces.{trace_meets}
use Rattle.run_laws.specs.ProgramClaims.{codes_after}

-- at 8 a block of format 1: code 1, count 2, address 16
storage : Contents
storage = record {
  bytes = 0 ∷ 0 ∷ 0 ∷ 0 ∷ 0 ∷ 0 ∷ 0 ∷ 0 ∷ 1 ∷ 0 ∷ 0 ∷ 2 ∷ 0 ∷ 0 ∷ 0 ∷ 16 ∷ 193 ∷ 194 ∷ [];
  keys = [];
  prefixes = [];
}

abbrev orb : Orb
orb = record {
  parameter = 0;
  key = 0;
  suspend = false;
  streaming = false;
  modification = false;
  synchronization = false;
  format_one = true;
  prefetch = false;
  initial_status = false;
  address_limit = false;
  suppress_suspended = false;
  long_addresses = false;
  small_blocks = false;
  paths = 0;
  suppress_length = false;
  modified_words = false;
  program = 8;
  key_fits = lit< tt;
  program_fits = lit< tt;
}

abbrev program : Program
program = record { start = 1; orb = orb; single_path = true }

-- it is offered under 1, and accepted
abbrev offered_state : SubchannelState
offered_state = record opening_subchannel { drawn = 1; starts = 1; offered = 1; waiting = Some program; hold = record free_hold { phase = hold.Offer 1 0 } }

abbrev sent_state : SubchannelState
sent_state = (takes_up false storage offered_state 0 (up.Accept 1)).step.state

abbrev sent_trace : ProgramTrace
sent_trace = trace_meets storage offered_state 0 (up.Accept 1) (trace_offered 1 orb)

-- the device asks for bytes, and absorbs them
abbrev given_state : SubchannelState
given_state = (takes_up false storage sent_state 0 (up.Data (load.Absorbed 0) 1 0 1 0)).step.state

abbrev given_trace : ProgramTrace
given_trace = trace_meets storage sent_state 0 (up.Data (load.Absorbed 0) 1 0 1 0) sent_trace

abbrev moved_trace : ProgramTrace
moved_trace = trace_meets storage given_state 0 (up.Data (load.Absorbed 2) 1 0 1 1) given_trace

example_sent : sent_trace.sent ≡ 1
unfolding storage
example_sent = refl

example_codes : codes_after moved_trace.earlier moved_trace.orb moved_trace.now.acts ≡ 1 ∷ []
unfolding storage
example_codes = refl

example_copied : map (λ c. c.bytes) given_trace.now.copied ≡ (193 ∷ 194 ∷ []) ∷ []
unfolding storage
example_copied = refl

example_moved : moved_trace.now.moved ≡ Some 16 ∷ Some 17 ∷ []
unfolding storage
example_moved = refl

-- a program of two commands that is suspended before its second, at 16, and resumed where this one is no longer marked: the
-- second is the first that is sent under the new number
stored : ℕ → Contents
stored flags = record {
  bytes = 0 ∷ 0 ∷ 0 ∷ 0 ∷ 0 ∷ 0 ∷ 0 ∷ 0 ∷ 1 ∷ 96 ∷ 0 ∷ 2 ∷ 0 ∷ 0 ∷ 0 ∷ 24 ∷ 5 ∷ flags ∷ 0 ∷ 1 ∷ 0 ∷ 0 ∷ 0 ∷ 24 ∷ 193 ∷ 194 ∷ [];
  keys = [];
  prefixes = [];
}

abbrev marked : Contents
marked = stored 2

abbrev unmarked : Contents
unmarked = stored 0

abbrev suspendable : Orb
suspendable = record orb { suspend = true }

abbrev waiting_state : SubchannelState
waiting_state = record offered_state { waiting = Some (record program { orb = suspendable }) }

abbrev working_state : SubchannelState
working_state = (takes_up false marked waiting_state 0 (up.Accept 1)).step.state

abbrev working_trace : ProgramTrace
working_trace = trace_meets marked waiting_state 0 (up.Accept 1) (trace_offered 1 suspendable)

abbrev ended : DeviceStatus
ended = record { 0 = 0x0C }

abbrev suspended_state : SubchannelState
suspended_state = (takes_up false marked working_state 0 (up.End 1 1 ended false)).step.state

abbrev suspended_trace : ProgramTrace
suspended_trace = trace_meets marked working_state 0 (up.End 1 1 ended false) working_trace

abbrev resumed_state : SubchannelState
resumed_state = record suspended_state { drawn = 2; hold = record free_hold { phase = hold.Offer 2 0 } }

abbrev resumed_trace : ProgramTrace
resumed_trace = trace_meets unmarked resumed_state 0 (up.Accept 2) (trace_resumed 2 suspended_trace)

example_suspended : is_some suspended_state.suspended ≡ true
unfolding stored
example_suspended = refl

example_suspended_codes : codes_after 0 suspended_trace.orb suspended_trace.now.acts ≡ 1 ∷ []
unfolding stored
example_suspended_codes = refl

example_resumed_codes : codes_after resumed_trace.earlier resumed_trace.orb resumed_trace.now.acts ≡ 5 ∷ []
unfolding stored
example_resumed_codes = refl
