-- The steps in which a unit acts of itself, and what comes of it is sent to the subchannel of a side (own).
use Rattle.std.specs.Prelude.{ℕ, Bool, true, false, ◌||◌, nat_lt, if◌then◌else◌, Option, None, Some, List, length, Result, Err}
use Rattle.chan_model.specs.declared.fault.Fault.{Fault}
use Rattle.chan_model.specs.declared.fault.Fault.TheVariants as fault
use Rattle.chan_model.specs.declared.names.Side.{Side}
use Rattle.chan_model.specs.declared.names.Side.TheVariants.{First, Second}
use Rattle.chan_model.specs.declared.unit_state.Own.{Own}
use Rattle.chan_model.specs.declared.unit_state.Own.TheVariants.{Idle, Owned}
use Rattle.chan_model.specs.declared.unit_state.UnitState.{UnitState}
use Rattle.chan_events.specs.declared.event.UnitAct.{UnitAct}
use Rattle.chan_events.specs.declared.event.UnitAct.TheVariants as act
use Rattle.chan_model.specs.UnitTable.{UnitStep, leaving, asking, attending, noticing}
use Rattle.subchannel_model.specs.declared.state.Subchannel.{Subchannel}
use Rattle.subchannel_model.specs.Indices.{Found, found_at, reached_in, reached_sub}
use Rattle.machine_model.specs.State.{State}
use Rattle.machine_model.specs.Results.{Outcome, DownResult, at_unit}
use Rattle.machine_model.specs.ReportSteps.{report_taken}

-- the program that holds the device leaves its path or asks for one; the unit asks a side for attention, or tells it of a restart
abbrev pub owner_side : Own → Option Side
owner_side own = elim own [ Idle ↦ None | Owned side t connection ↦ Some side ]

abbrev pub side_of_act : UnitState → UnitAct → Option Side
side_of_act u (act.Attention path side) = Some side
side_of_act u (act.Notice path side) = Some side
side_of_act u act = owner_side u.own

-- the path that an act names is one of the subchannel
abbrev pub has_path : Subchannel → ℕ → Bool
has_path sub path = nat_lt path (length sub.setup.paths)

abbrev pub has_path_of_act : Subchannel → UnitAct → Bool
has_path_of_act sub act.Leave = true
has_path_of_act sub (act.Ask path) = has_path sub path
has_path_of_act sub (act.Attention path side) = has_path sub path
has_path_of_act sub (act.Notice path side) = has_path sub path

-- what the unit does, the subchannel being of this side
abbrev pub acts : UnitState → Side → UnitAct → Option UnitStep
acts u side act.Leave = leaving u u.own
acts u side (act.Ask path) = asking u u.own path
acts u side (act.Attention path named) = attending u side path
acts u side (act.Notice path named) = noticing u side path

abbrev pub act_sub : Subchannel → UnitState → UnitAct → Result DownResult Fault
act_sub sub u act = if has_path_of_act sub act then report_taken sub (acts u sub.setup.side act) else Err fault.NoSuchPath

-- where no program holds the device there is nothing to do; a path to ask for must be one of some side
abbrev pub has_path_at : Option Subchannel → ℕ → Bool
has_path_at None path = false
has_path_at (Some sub) path = has_path sub path

abbrev pub is_path_of : List Subchannel → ℕ → ℕ → Bool
is_path_of subs index path = has_path_at (reached_sub index First subs) path || has_path_at (reached_sub index Second subs) path

abbrev pub not_held : List Subchannel → ℕ → UnitAct → Fault
not_held subs index (act.Ask path) = if is_path_of subs index path then fault.NotNow else fault.NoSuchPath
not_held subs index other = fault.NotNow

-- nor where no subchannel reaches that side, whatever path is named
abbrev pub act_to : State → ℕ → UnitState → UnitAct → Option Found → Outcome
act_to s index u act found = elim found [ None ↦ Err fault.NotNow | Some f ↦ at_unit s f.index index (act_sub f.sub u act) ]

abbrev pub act_on : State → ℕ → UnitState → UnitAct → Option Side → Outcome
act_on s index u act None = Err (not_held s.subs index act)
act_on s index u act (Some side) = act_to s index u act (found_at s.subs (reached_in index side s.subs))

abbrev pub act_at : State → ℕ → Option UnitState → UnitAct → Outcome
act_at s index None act = Err fault.NoSuchUnit
act_at s index (Some u) act = act_on s index u act (side_of_act u act)
