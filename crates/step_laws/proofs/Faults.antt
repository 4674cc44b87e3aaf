-- No step at one subchannel, or at one and its unit, is refused for want of memory.
use Rattle.std.proofs.Common.{◌≡◌, sym, ◌∙◌, ℕ, Bool, true, false, nat_lt, Option, None, Some, Result, Ok, Err, List, length}
use Rattle.std.specs.Prelude.{◌≢◌, IfErr, MatchResult, if◌then◌else◌, slice_get}
use Rattle.storage_keys.specs.Storage.{Contents}
use Rattle.chan_model.specs.declared.fault.Fault.{Fault}
use Rattle.chan_model.specs.declared.fault.Fault.TheVariants.{NoMemory, NoSuchPath, NotNow, WireFull}
use Rattle.chan_model.specs.Reports.{Report}
use Rattle.chan_model.specs.Signals.{Down, Up}
use Rattle.chan_model.specs.declared.unit_state.UnitState.{UnitState}
use Rattle.chan_model.specs.UnitReports.{unit_reports}
use Rattle.chan_model.specs.UnitTable.{UnitStep}
use Rattle.chan_events.specs.declared.event.UnitAct.{UnitAct}
use Rattle.chan_events.specs.declared.event.UnitAct.TheVariants as act
use Rattle.wires.specs.Queues.{queue}
use Rattle.subchannel_model.specs.declared.state.Chosen.{Chosen}
use Rattle.subchannel_model.specs.declared.state.Subchannel.{Subchannel}
use Rattle.machine_model.specs.ActSteps.{act_sub, acts, has_path_of_act, is_path_of, not_held}
use Rattle.machine_model.specs.ChooseSteps.{choose_sub}
use Rattle.machine_model.specs.DownSteps.{down_front, down_sub}
use Rattle.machine_model.specs.ReportSteps.{report_sub, report_taken}
use Rattle.machine_model.specs.UpSteps.{up_front, up_sub}
use Rattle.step_laws.proofs.Choices.{IsToldBy, choice-told}

-- it is not want of memory
abbrev pub IsOther : Fault → Type 0
IsOther f = f ≢ NoMemory

-- a full wire, or a path that is not there, is not want of memory
full-other : {A : Type 0} (P : A → Type 0) (r : Result A Fault) → MatchResult r P (λ f. f ≡ WireFull) → IfErr r IsOther
full-other P (Ok t) k = tt
full-other P (Err f) k = λ g. cc (sym k ∙ g)

unless-full : {A : Type 0} (full : Bool) (t : A) → IfErr (if full then Err WireFull else Ok t) IsOther
unless-full true t = λ g. cc g
unless-full false t = tt

where-there : {A : Type 0} (there : Bool) (r : Result A Fault) → IfErr r IsOther → IfErr (if there then r else Err NoSuchPath) IsOther
where-there true r other = other
where-there false r other = λ g. cc g

pub choice-other : (sub : Subchannel) (what : Chosen) → IfErr (choose_sub sub what) IsOther
choice-other sub what = full-other (λ t. IsToldBy what t.reply) (choose_sub sub what) (choice-told sub what)

front-up : (returns : Bool) (storage : Contents) (sub : Subchannel) (path : ℕ) (signal : Option Up) → IfErr (up_front returns storage sub path signal) IsOther
front-up returns storage sub path None = λ g. cc g
front-up returns storage sub path (Some signal) = unless-full _ _

pub up-other : (returns : Bool) (storage : Contents) (sub : Subchannel) (path : ℕ) → IfErr (up_sub returns storage sub path) IsOther
up-other returns storage sub path =
    where-there (nat_lt path (length sub.setup.paths)) _ (front-up returns storage sub path (slice_get (queue sub.wires.up path) 0))

front-down : (may : Bool) (sub : Subchannel) (path : ℕ) (u : UnitState) (signal : Option Down) → IfErr (down_front may sub path u signal) IsOther
front-down may sub path u None = λ g. cc g
front-down may sub path u (Some signal) = unless-full _ _

pub down-other : (may : Bool) (sub : Subchannel) (path : ℕ) (u : UnitState) → IfErr (down_sub may sub path u) IsOther
down-other may sub path u =
    where-there (nat_lt path (length sub.setup.paths)) _ (front-down may sub path u (slice_get (queue sub.wires.down path) 0))

taken-other : (sub : Subchannel) (step : Option UnitStep) → IfErr (report_taken sub step) IsOther
taken-other sub None = λ g. cc g
taken-other sub (Some step) = unless-full _ _

pub report-other : (sub : Subchannel) (u : UnitState) (report : Report) → IfErr (report_sub sub u report) IsOther
report-other sub u report = taken-other sub (unit_reports u report)

pub act-other : (sub : Subchannel) (u : UnitState) (what : UnitAct) → IfErr (act_sub sub u what) IsOther
act-other sub u what = where-there (has_path_of_act sub what) _ (taken-other sub (acts u sub.setup.side what))

pub not_held-other : (subs : List Subchannel) (index : ℕ) (what : UnitAct) → IsOther (not_held subs index what)
not_held-other subs index (act.Ask path) = by (is_path_of subs index path)
  where
    by : (there : Bool) → IsOther (if there then NotNow else NoSuchPath)
    by true = λ g. cc g
    by false = λ g. cc g
not_held-other subs index what = λ g. cc g
