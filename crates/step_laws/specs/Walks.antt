-- The kinds of steps of a channel subsystem.
use Rattle.std.specs.Prelude.{◌≡◌, ℕ, Bool, true, false, Option, Some, List, map, slice_get, slice_set, Ok}
use Rattle.orb_block.specs.declared.Orb.{Orb}
use Rattle.schib_block.specs.declared.pmcw.Pmcw as block
use Rattle.chan_events.specs.Events.{Event}
use Rattle.chan_events.specs.declared.event.Event.TheVariants as event
use Rattle.chan_events.specs.declared.event.Instruction.{Instruction}
use Rattle.chan_events.specs.declared.event.Instruction.TheVariants as instruction
use Rattle.chan_model.specs.declared.answer.Answer.TheVariants as answer
use Rattle.chan_model.specs.declared.answer.ConditionCode.{ConditionCode}
use Rattle.chan_events.specs.Replies.{Reply}
use Rattle.chan_events.specs.declared.reply.Reply.TheVariants as reply
use Rattle.chan_model.specs.Reports.{Report}
use Rattle.chan_model.specs.declared.unit_state.UnitState.{UnitState}
use Rattle.path_select.specs.Choice.{IsChoice}
use Rattle.subchannel_model.specs.declared.state.Chosen as choosing
use Rattle.subchannel_model.specs.declared.state.Chosen.TheVariants.{Offers}
use Rattle.subchannel_model.specs.declared.state.Program.{Program}
use Rattle.subchannel_model.specs.declared.state.ProgramPosition.{ProgramPosition}
use Rattle.subchannel_model.specs.declared.state.Subchannel.{Subchannel}
use Rattle.subchannel_model.specs.declared.state.SubchannelState.{SubchannelState}
use Rattle.machine_model.specs.State.{State, index_of}
use Rattle.subchannel_model.specs.Indices.{reaches, reached_in}
use Rattle.subchannel_model.specs.Resume.{resumed}
use Rattle.subchannel_model.specs.Halt.{halted}
use Rattle.subchannel_model.specs.Clear.{cleared}
use Rattle.subchannel_model.specs.Cancel.{cancelled}
use Rattle.subchannel_model.specs.Choosing.{IsFitFor, chosen, marked_sub, paths_to_choose}
use Rattle.machine_model.specs.Results.{SubResult, UpResult, DownResult}
use Rattle.subchannel_model.specs.Start.{started}
use Rattle.subchannel_model.specs.Modify.{modified_state}
use Rattle.machine_model.specs.InstructionSteps.{test_with, function_sub}
use Rattle.machine_model.specs.ChooseSteps.{choose_sub}
use Rattle.machine_model.specs.UpSteps.{returns_at, up_sub}
use Rattle.machine_model.specs.DownSteps.{down_sub}
use Rattle.machine_model.specs.ReportSteps.{report_sub}
use Rattle.machine_model.specs.Sharing.{owing}
use Rattle.machine_model.specs.ActSteps.{side_of_act, act_sub}
use Rattle.machine_model.specs.declared.state.Sweep.{Sweep}
use Rattle.machine_model.specs.declared.state.Sweep.TheVariants as sweep
use Rattle.machine_model.specs.PathSteps.{swept}
use Rattle.chan_model.specs.UnitTable.{restarted}
use Rattle.chan_model.specs.declared.names.Side.{Side}
use Rattle.chan_events.specs.declared.event.UnitAct.{UnitAct}
use Rattle.machine_model.specs.Steps.{Step}

-- an event by which no start is accepted, nothing is offered and no signal comes
abbrev pub is_start : Reply → Bool
is_start (reply.Code (answer.Zero serials)) = true
is_start r = false

abbrev pub IsQuiet : Event → Reply → Type 0
IsQuiet (event.Execute cpu (instruction.Ssch word address)) r = is_start r ≡ false
IsQuiet (event.Choose word) r = ⊥
IsQuiet (event.Up word path) r = ⊥
IsQuiet (event.Down word path) r = ⊥
IsQuiet (event.Report at report) r = ⊥
IsQuiet e r = Unit {0}

-- the instructions that with code 0 leave an effect on the state of a subchannel alone
pub data Function : Type 0 where
  Resumes : Function
  Halts : Function
  Clears : Function
  Cancels : Function

abbrev pub instruction_of : Function → ℕ → Instruction
instruction_of Resumes word = instruction.Rsch word
instruction_of Halts word = instruction.Hsch word
instruction_of Clears word = instruction.Csch word
instruction_of Cancels word = instruction.Xsch word

-- the event is this instruction, on the subchannel of an index
pub record IsExecuted (s : State) (e : Event) (index : ℕ) (i : ℕ → Instruction) : Type 0 where
  pub cpu : ℕ
  pub word : ℕ
  pub event : e ≡ event.Execute cpu (i word)
  pub at : index_of s word ≡ Some index

abbrev pub effect_of : Function → SubchannelState → SubchannelState
effect_of Resumes s = resumed s
effect_of Halts s = halted s
effect_of Clears s = cleared s
effect_of Cancels s = cancelled s

-- the subchannel of an index was changed, and nothing else of subchannels, units and the states of paths
pub record OneSub (s new : State) (index : ℕ) (sub after : Subchannel) : Type 0 where
  pub there : slice_get s.subs index ≡ Some sub
  pub sets : new.sets ≡ s.sets
  pub up : new.up ≡ s.up
  pub subs : new.subs ≡ slice_set s.subs index after
  pub units : new.units ≡ s.units

-- the subchannel of an index and the unit of an index were
pub record OneUnit (s new : State) (index : ℕ) (sub after : Subchannel) (at : ℕ) (u v : UnitState) : Type 0 where
  pub there : slice_get s.subs index ≡ Some sub
  pub found : slice_get s.units at ≡ Some u
  pub sets : new.sets ≡ s.sets
  pub up : new.up ≡ s.up
  pub subs : new.subs ≡ slice_set s.subs index after
  pub units : new.units ≡ slice_set s.units at v

-- a program is there that waits, or one that is suspended
abbrev pub IsFound : Option Program → Option ProgramPosition → Bool → Program → Type 0
IsFound waiting suspended false program = waiting ≡ Some program
IsFound waiting suspended true program = (st : ProgramPosition) × (suspended ≡ Some st)

abbrev pub IsForProgram : choosing.Chosen → SubchannelState → Type 0
IsForProgram (Offers c path) s = IsFound s.waiting s.suspended c.resumes c.program
IsForProgram c s = Unit {0}

-- what is chosen suits the subchannel: it fits the hold, and what is offered is a program that is there
pub record Suits (c : choosing.Chosen) (s : SubchannelState) : Type 0 where
  pub fits : IsFitFor c s.hold
  pub found : IsForProgram c s

-- an act is of the side that it is told to: a program of that side holds the device where it leaves its path or asks for one
abbrev pub IsOfSide : UnitState → Side → UnitAct → Type 0
IsOfSide u side what = side_of_act u what ≡ Some side

-- the event of a channel path by which each subchannel is swept so, or the reset of the subsystem; what it leaves of the states of
-- paths
abbrev pub sweep_event : Sweep → Event
sweep_event (sweep.GoesDown chpid) = event.PathDown chpid
sweep_event (sweep.ComesUp chpid) = event.PathUp chpid
sweep_event (sweep.PathReset chpid) = event.PathReset chpid
sweep_event sweep.SystemReset = event.SystemReset

abbrev pub up_after : Sweep → List Bool → List Bool
up_after (sweep.GoesDown chpid) up = slice_set up chpid false
up_after (sweep.ComesUp chpid) up = slice_set up chpid true
up_after (sweep.PathReset chpid) up = up
up_after sweep.SystemReset up = up

pub record IsSweep (s : State) (e : Event) (what : Sweep) (new : State) : Type 0 where
  pub event : e ≡ sweep_event what
  pub up : new.up ≡ up_after what s.up

pub data Walked (s : State) : Event → Reply → State → Type 0 where
  Stays : (e : Event) (r : Reply) (new : State) → IsQuiet e r → new.sets ≡ s.sets → new.subs ≡ s.subs → new.units ≡ s.units → new.up ≡ s.up →
      Walked s e r new
  Started : (cpu word address index : ℕ) (sub : Subchannel) (orb : Orb) (c : ConditionCode) (new : State) → index_of s word ≡ Some index →
      OneSub s new index sub (function_sub sub c (started sub.state orb)).sub → Walked s (event.Execute cpu (instruction.Ssch word address)) (function_sub sub c (started sub.state orb)).reply new
  Tested : (e : Event) (r : Reply) (index : ℕ) (sub : Subchannel) (c : ConditionCode) (new : State) → IsQuiet e r →
      OneSub s new index sub (test_with sub c).sub → (address : ℕ) → IsExecuted s e index (λ word. instruction.Tsch word address) →
      r ≡ (test_with sub c).reply → Walked s e r new
  Modified : (e : Event) (r : Reply) (index : ℕ) (sub : Subchannel) (given : block.Pmcw) (c : ConditionCode) (new : State) → IsQuiet e r →
      OneSub s new index sub (function_sub sub c (modified_state sub given)).sub → Walked s e r new
  Performed : (e : Event) (r : Reply) (index : ℕ) (sub : Subchannel) (f : Function) (c : ConditionCode) (new : State) → IsQuiet e r →
      OneSub s new index sub (function_sub sub c (effect_of f sub.state)).sub → IsExecuted s e index (instruction_of f) →
      r ≡ (function_sub sub c (effect_of f sub.state)).reply → Walked s e r new
  Chosen : (word index : ℕ) (sub : Subchannel) (choice : Option ℕ) (t : SubResult) (new : State) → index_of s word ≡ Some index →
      IsChoice (paths_to_choose s.subs sub) choice → Suits (chosen sub choice) sub.state → choose_sub (marked_sub sub choice) (chosen sub choice) ≡ Ok t →
      OneSub s new index sub t.sub →
      Walked s (event.Choose word) t.reply new
  Met : (word path : ℕ) (returns : Bool) (index : ℕ) (sub : Subchannel) (t : UpResult) (new : State) → index_of s word ≡ Some index →
      up_sub returns s.storage sub path ≡ Ok t → OneSub s new index sub t.sub → returns ≡ returns_at s.subs sub path →
      Walked s (event.Up word path) t.reply new
  Sunk : (word path : ℕ) (may owed : Bool) (index : ℕ) (sub : Subchannel) (u : UnitState) (t : DownResult) (new : State) → index_of s word ≡ Some index →
      down_sub may sub path u ≡ Ok t → OneUnit s new index sub t.sub sub.setup.«unit» u (owing owed t.«unit») → Walked s (event.Down word path) t.reply new
  Reported : (at index : ℕ) (sub : Subchannel) (u : UnitState) (report : Report) (t : DownResult) (new : State) → reached_in at report.side s.subs ≡ Some index →
      reaches at report.side sub ≡ true → report_sub sub u report ≡ Ok t → OneUnit s new index sub t.sub at u t.«unit» →
      Walked s (event.Report at report) t.reply new
  Acted : (at index : ℕ) (sub : Subchannel) (u : UnitState) (what : UnitAct) (t : DownResult) (new : State) → IsOfSide u sub.setup.side what →
      sub.setup.«unit» ≡ at → act_sub sub u what ≡ Ok t → OneUnit s new index sub t.sub at u t.«unit» → Walked s (event.Act at what) t.reply new
  Restarted : (at : ℕ) (owed : Bool) (u : UnitState) (r : Reply) (new : State) → slice_get s.units at ≡ Some u → new.sets ≡ s.sets → new.subs ≡ s.subs →
      new.units ≡ slice_set s.units at (owing owed (restarted u)) → new.up ≡ s.up → Walked s (event.Restart at) r new
  Swept : (e : Event) (r : Reply) (what : Sweep) (new : State) → IsQuiet e r → new.sets ≡ s.sets → new.subs ≡ map (swept what) s.subs →
      new.units ≡ s.units → IsSweep s e what new → Walked s e r new

-- each step is of one of these kinds
abbrev pub AreWalks : Type 0
AreWalks = (s : State) (e : Event) (r : Reply) (new : State) → Step s e r new → Walked s e r new
