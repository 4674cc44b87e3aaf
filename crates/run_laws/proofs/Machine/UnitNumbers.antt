-- The numbers of each unit are at most the number of events.
use Rattle.std.proofs.Common.{◌≡◌, refl, sym, subst, ℕ, ◌+◌, ◌<◌, Bool, true, false, cond, nat_lt, Option, None, Some, Result, List, length, map, arith}
use Rattle.std.specs.Prelude.{slice_get, slice_set, All, IfOk}
use Rattle.std.specs.List.{AllZip}
use Rattle.std.proofs.lemmas.List.Elements.{All-map, AllZip-get_or, length_all_zip}
use Rattle.chan_model.specs.declared.fault.Fault.{Fault}
use Rattle.chan_model.specs.Reports.{Report}
use Rattle.chan_events.specs.Events.{Event}
use Rattle.chan_events.specs.declared.event.UnitAct.{UnitAct}
use Rattle.chan_events.specs.declared.reply.Entry.{Entry}
use Rattle.chan_events.specs.Replies.{Reply}
use Rattle.chan_model.specs.Signals.{Down}
use Rattle.chan_model.specs.declared.unit_state.UnitState.{UnitState}
use Rattle.chan_model.specs.UnitTable as unit_table
use Rattle.chan_model.specs.UnitTable.{UnitStep, unit_takes, restarted}
use Rattle.chan_model.specs.UnitReports.{unit_reports}
use Rattle.channel_config.specs.Setup.{Setup}
use Rattle.channel_config.specs.declared.parts.UnitKind.{UnitKind}
use Rattle.wires.specs.Queues.{queue}
use Rattle.subchannel_model.specs.declared.state.Subchannel.{Subchannel}
use Rattle.machine_model.specs.Bounds.{IsUnitWithin}
use Rattle.machine_model.specs.State.{State, opening_of, idle_of}
use Rattle.machine_model.specs.Results.{DownResult}
use Rattle.subchannel_model.specs.Sending.{carried_by, finds_full}
use Rattle.machine_model.specs.DownSteps.{down_front, down_sub}
use Rattle.machine_model.specs.ReportSteps.{report_taken, report_sub}
use Rattle.machine_model.specs.Steps.{Run, Opened, Step, Stepped}
use Rattle.machine_model.specs.Sharing.{owing}
use Rattle.machine_model.specs.ActSteps.{has_path_of_act, acts, act_sub}
use Rattle.run_laws.proofs.Machine.CountedEvents.{Spares, counted-in, every, every-counted, every-spares, one-more}
use Rattle.run_laws.proofs.Machine.Moves.{if-ok, zip-same, zip-set}
use Rattle.run_laws.proofs.Machine.UnitPlain.{IsPlain, IsPlainStep, stays, takes-plain, report-plain, act-plain, owing-plain, restart-plain}
use Rattle.step_laws.specs.Walks as walked
use Rattle.step_laws.specs.Walks.{Walked, AreWalks}

abbrev AreUnits : UnitState → Result DownResult Fault → Type 0
AreUnits u r = IfOk r (λ t. IsPlain u t.«unit»)

front-plain : (may : Bool) → (sub : Subchannel) (path : ℕ) (u : UnitState) (front : Option Down) → AreUnits u (down_front may sub path u front)
front-plain may sub path u None = tt
front-plain may sub path u (Some x) =
    if-ok (λ t. IsPlain u t.«unit») (finds_full sub.wires.up (carried_by sub (unit_table.outcome_of (unit_takes u sub.setup.side path x may)).sent)) _ _ tt
    (takes-plain u sub.setup.side path x may)

down-plain : (may : Bool) → (sub : Subchannel) (path : ℕ) (u : UnitState) → AreUnits u (down_sub may sub path u)
down-plain may sub path u =
    if-ok (λ t. IsPlain u t.«unit») (nat_lt path (length sub.setup.paths)) (down_front may sub path u (slice_get (queue sub.wires.down path) 0)) _
    (front-plain may sub path u (slice_get (queue sub.wires.down path) 0)) tt

taken-plain : (sub : Subchannel) (u : UnitState) (step : Option UnitStep) → IsPlainStep u step → AreUnits u (report_taken sub step)
taken-plain sub u None k = tt
taken-plain sub u (Some step) k = if-ok (λ t. IsPlain u t.«unit») (finds_full sub.wires.up (carried_by sub step.sent)) _ _ tt k

report_sub-plain : (sub : Subchannel) (u : UnitState) (r : Report) → AreUnits u (report_sub sub u r)
report_sub-plain sub u r = taken-plain sub u (unit_reports u r) (report-plain u r)

act_sub-plain : (sub : Subchannel) (u : UnitState) (what : UnitAct) → AreUnits u (act_sub sub u what)
act_sub-plain sub u what =
    if-ok (λ t. IsPlain u t.«unit») (has_path_of_act sub what) (report_taken sub (acts u sub.setup.side what)) _
    (taken-plain sub u (acts u sub.setup.side what) (act-plain u sub.setup.side what)) tt

abbrev ArePlain : State → State → Type 0
ArePlain s new = AllZip IsPlain s.units new.units

same-units : (s : State) → AllZip IsPlain s.units s.units
same-units s = zip-same IsPlain stays s.units

one-plain : (s new : State) (at : ℕ) (u v : UnitState) → slice_get s.units at ≡ Some u → new.units ≡ slice_set s.units at v → IsPlain u v → ArePlain s new
one-plain s new at u v found e k = subst (λ (xs : List UnitState). AllZip IsPlain s.units xs) (sym e) (zip-set IsPlain stays s.units at u v found k)

none-plain : (s new : State) → new.units ≡ s.units → ArePlain s new
none-plain s new e = subst (λ (xs : List UnitState). AllZip IsPlain s.units xs) (sym e) (same-units s)

units-walk : (s : State) (e : Event) (r : Reply) (new : State) → Walked s e r new → ArePlain s new
units-walk s _ _ _ (walked.Stays e r new q sets subs units up) = none-plain s new units
units-walk s _ _ _ (walked.Started cpu word address index sub orb c new n one) = none-plain s new one.units
units-walk s _ _ _ (walked.Tested e r index sub c new q one address by answers) = none-plain s new one.units
units-walk s _ _ _ (walked.Modified e r index sub given c new q one) = none-plain s new one.units
units-walk s _ _ _ (walked.Performed e r index sub f c new q one by answers) = none-plain s new one.units
units-walk s _ _ _ (walked.Chosen word index sub choice t new n x w h one) = none-plain s new one.units
units-walk s _ _ _ (walked.Met word path returns index sub t new n h one may) = none-plain s new one.units
units-walk s _ _ _ (walked.Sunk word path may owed index sub u t new n h one) =
    one-plain s new sub.setup.«unit» u (owing owed t.«unit») one.found one.units (owing-plain owed u t.«unit» (subst (AreUnits u) h (down-plain may sub path u)))
units-walk s _ _ _ (walked.Reported at index sub u report t new n k h one) = one-plain s new at u t.«unit» one.found one.units (subst (AreUnits u) h (report_sub-plain sub u report))
units-walk s _ _ _ (walked.Acted at index sub u what t new side its h one) = one-plain s new at u t.«unit» one.found one.units (subst (AreUnits u) h (act_sub-plain sub u what))
units-walk s _ _ _ (walked.Restarted at owed u r new found sets subs units up) =
    one-plain s new at u (owing owed (restarted u)) found units (owing-plain owed u (restarted u) (restart-plain u))
units-walk s _ _ _ (walked.Swept e r what new q sets subs units by) = none-plain s new units

unit-later : (n : ℕ) (u v : UnitState) → IsPlain u v → IsUnitWithin n u → IsUnitWithin (n + 1) v
unit-later n u v k w =
    record {
      current = k.within n w.current;
      connection = k.connection n w.connection;
      attentions = omega (arith, k.attentions, w.attentions);
      restarts = omega (arith, k.restarts, w.restarts);
    }

units-after : (n : ℕ) (xs ys : List UnitState) → AllZip IsPlain xs ys → All (IsUnitWithin n) xs → All (IsUnitWithin (n + 1)) ys
units-after n xs ys z a =
    λ i d h.
    let long : length xs ≡ length ys = length_all_zip IsPlain xs ys z in
    let within : i < length xs = omega (arith, h, long) in
    unit-later n _ _ (AllZip-get_or IsPlain xs ys i d d z within) (a i d within)

opened-units : (kinds : List UnitKind) → All (IsUnitWithin 0) (map idle_of kinds)
opened-units kinds = All-map (IsUnitWithin 0) idle_of kinds (λ k d h. record { current = tt; connection = tt; attentions = omega arith; restarts = omega arith })

-- after one step more, by whether its event is counted
units-by : AreWalks → (counted : Event → Bool) → Spares counted → (n : ℕ) (old : State) (e : Event) (r : Reply) (new : State) → Step old e r new →
    All (IsUnitWithin n) old.units → (counts : Bool) → counted e ≡ counts → All (IsUnitWithin (n + cond counts 1 0)) new.units
units-by walks counted spares n old e r new step k true is = units-after n old.units new.units (units-walk old e r new (walks old e r new step)) k
units-by walks counted spares n old e r new step k false is =
    subst (λ (m : ℕ). All (IsUnitWithin m) new.units) (let same : n ≡ n + 0 = omega arith in same)
    (subst (λ (xs : List UnitState). All (IsUnitWithin n) xs) (sym (spares old e r new step is).1) k)

pub run-units-by : AreWalks → (counted : Event → Bool) → Spares counted → (setup : Setup) (h : List Entry) (s : State) → Run (opening_of setup) h s →
    All (IsUnitWithin (counted-in counted h)) s.units
run-units-by walks counted spares setup _ _ Opened = opened-units setup.units
run-units-by walks counted spares setup _ _ (Stepped h old e r new run step) =
    subst (λ (m : ℕ). All (IsUnitWithin m) new.units) (sym (one-more counted h e r))
    (units-by walks counted spares (counted-in counted h) old e r new step (run-units-by walks counted spares setup h old run) (counted e) refl)

pub run-units : AreWalks → (setup : Setup) (h : List Entry) (s : State) → Run (opening_of setup) h s → All (IsUnitWithin (length h)) s.units
run-units walks setup h s run =
    subst (λ (m : ℕ). All (IsUnitWithin m) s.units) (every-counted h) (run-units-by walks every every-spares setup h s run)
