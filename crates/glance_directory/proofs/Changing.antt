-- No event changes serials but those of the subchannels that it touches.
use Rattle.std.proofs.Common.{◌≡◌, ℕ, zero, suc, Bool, true, false, List, [], ◌∷◌, map, get_or, set, Option, None, Some, Result, Ok, Err, refl, sym, ap, ◌∙◌, subst}
use Rattle.std.specs.Prelude.{slice_get, if◌then◌else◌, nat_lt, length}
use Rattle.std.proofs.lemmas.List.{map-set}
use Rattle.std.proofs.Math.Seq.{map-set_same}
use Rattle.std.proofs.lemmas.Option.{get_or_from_slice_get}
use Rattle.schib_block.specs.declared.pmcw.Pmcw as block
use Rattle.scsw_irb.specs.declared.serials.Serials.{Serials}
use Rattle.chan_model.specs.declared.answer.ConditionCode.{ConditionCode}
use Rattle.chan_model.specs.declared.answer.ConditionCode.TheVariants as code
use Rattle.chan_model.specs.declared.fault.Fault.{Fault}
use Rattle.chan_model.specs.declared.fault.Fault.TheVariants as fault
use Rattle.chan_model.specs.Signals.{Down}
use Rattle.chan_model.specs.declared.unit_state.UnitState.{UnitState}
use Rattle.chan_model.specs.UnitTable as unit_table
use Rattle.chan_model.specs.UnitTable.{UnitStep}
use Rattle.chan_events.specs.Events.{Event}
use Rattle.chan_events.specs.declared.event.Event.TheVariants as event
use Rattle.chan_events.specs.declared.event.Instruction.TheVariants as instruction
use Rattle.chan_events.specs.declared.event.UnitAct.{UnitAct}
use Rattle.chan_events.specs.Replies.{Reply}
use Rattle.subchannel_model.specs.declared.state.Subchannel.{Subchannel}
use Rattle.subchannel_model.specs.Modify.{modified_state}
use Rattle.chan_events.specs.Instructions.{subchannel_word}
use Rattle.machine_model.specs.InstructionSteps.{function_sub}
use Rattle.machine_model.specs.State.{State, index_of}
use Rattle.machine_model.specs.Steps.{Step}
use Rattle.machine_model.specs.Results.{DownResult}
use Rattle.machine_model.specs.DownSteps.{down_front, down_sub, down_with, with_answer}
use Rattle.machine_model.specs.ReportSteps.{report_sub, report_taken, with_any_up}
use Rattle.chan_model.specs.UnitReports.{unit_reports}
use Rattle.subchannel_model.specs.Sending.{carried_by, finds_full}
use Rattle.wires.specs.Queues.{queue}
use Rattle.chan_events.specs.declared.reply.Reply.TheVariants as reply
use Rattle.machine_model.specs.ActSteps.{act_sub, has_path_of_act, acts}
use Rattle.machine_model.specs.declared.state.Sweep.{Sweep}
use Rattle.machine_model.specs.declared.state.Sweep.TheVariants as sweep
use Rattle.step_laws.specs.Walks.{Function, Resumes, OneSub, Walked, Stays, Started, Tested, Modified, Performed, Chosen, Met, Sunk, Reported, Acted, Restarted, Swept, instruction_of, sweep_event}
use Rattle.subsystem.specs.Keeping.{all_serials}
use Rattle.glance_directory.specs.declared.touching.ChangedSerials.{ChangedSerials}
use Rattle.glance_directory.specs.declared.touching.ChangedSerials.TheVariants.{Nothing, Place, All}
use Rattle.glance_directory.specs.Touching.{Changes, touched, touched_at, touched_word}

abbrev serials_at : Subchannel → Serials
serials_at sub = sub.state.serials

set_own : (xs : List Serials) (i : ℕ) (d : Serials) → set xs i (get_or xs i d) ≡ xs
set_own [] i d = refl
set_own (x ∷ xs) zero d = refl
set_own (x ∷ xs) (suc i) d = ap (λ l. x ∷ l) (set_own xs i d)

none : Serials
none = record { made = 0; cleared = 0 }

-- where none was changed, none but some were
stay : (t : ChangedSerials) (old new : List Serials) → new ≡ old → Changes t old new
stay Nothing old new e = e
stay (Place index) old new e = (get_or old index none, e ∙ sym (set_own old index none))
stay All old new e = tt

-- one subchannel was changed
one_changed : (s new : State) (index : ℕ) (sub after : Subchannel) → OneSub s new index sub after → (x : Serials) × (all_serials new ≡ set (all_serials s) index x)
one_changed s new index sub after one = (serials_at after, ap (map serials_at) one.subs ∙ map-set serials_at s.subs index after)

named_changed : (s new : State) (word index : ℕ) (sub after : Subchannel) → index_of s word ≡ Some index → OneSub s new index sub after → Changes (touched_word s word) (all_serials s) (all_serials new)
named_changed s new word index sub after at one =
    subst (λ (o : Option ℕ). Changes (touched_at o) (all_serials s) (all_serials new)) (sym at) (one_changed s new index sub after one)

-- one subchannel was changed, and its serials were not
set_stays : (subs news : List Subchannel) (index : ℕ) (sub after : Subchannel) → slice_get subs index ≡ Some sub → news ≡ set subs index after → serials_at after ≡ serials_at sub → map serials_at news ≡ map serials_at subs
set_stays subs news index sub after there is same =
    ap (map serials_at) is ∙ map-set_same serials_at subs index after sub (same ∙ ap serials_at (sym (get_or_from_slice_get subs index sub sub there)))

-- a modification, and what passes between a unit and its subchannel, leave its serials
modified_same : (sub : Subchannel) (c : ConditionCode) (given : block.Pmcw) → serials_at (function_sub sub c (modified_state sub given)).sub ≡ serials_at sub
modified_same sub code.Zero given = refl
modified_same sub code.One given = refl
modified_same sub code.Two given = refl
modified_same sub code.Three given = refl

abbrev SameSub : Subchannel → Result DownResult Fault → Type 0
SameSub sub (Ok t) = serials_at t.sub ≡ serials_at sub
SameSub sub (Err f) = Unit {0}

same_of : (sub : Subchannel) (o : Result DownResult Fault) (t : DownResult) → SameSub sub o → o ≡ Ok t → serials_at t.sub ≡ serials_at sub
same_of sub o t same is = subst (SameSub sub) is same

if_same : (sub : Subchannel) (b : Bool) (o p : Result DownResult Fault) → SameSub sub o → SameSub sub p → SameSub sub (if b then o else p)
if_same sub true o p x y = x
if_same sub false o p x y = y

full_same : (sub : Subchannel) (b : Bool) (t : DownResult) → serials_at t.sub ≡ serials_at sub → SameSub sub (if b then Err fault.WireFull else Ok t)
full_same sub true t e = tt
full_same sub false t e = e

with_same : (sub : Subchannel) (path : ℕ) (signal : Down) (u : UnitState) (step : Option UnitStep) → SameSub sub (down_with sub path signal u step)
with_same sub path signal u step =
    full_same sub (finds_full sub.wires.up (carried_by sub (unit_table.outcome_of step).sent))
    (record {
      reply = reply.Down signal (unit_table.outcome_of step).taken (unit_table.outcome_of step).sent;
      sub = with_answer sub path (unit_table.outcome_of step).sent;
      «unit» = unit_table.unit_after u step;
    }) refl

front_same : (may : Bool) (sub : Subchannel) (path : ℕ) (u : UnitState) (o : Option Down) → SameSub sub (down_front may sub path u o)
front_same may sub path u None = tt
front_same may sub path u (Some signal) = with_same sub path signal u (unit_table.unit_takes u sub.setup.side path signal may)

down_same : (may : Bool) (sub : Subchannel) (path : ℕ) (u : UnitState) → SameSub sub (down_sub may sub path u)
down_same may sub path u =
    if_same sub (nat_lt path (length sub.setup.paths)) (down_front may sub path u (slice_get (queue sub.wires.down path) 0)) (Err fault.NoSuchPath)
    (front_same may sub path u (slice_get (queue sub.wires.down path) 0)) tt

taken_same : (sub : Subchannel) (o : Option UnitStep) → SameSub sub (report_taken sub o)
taken_same sub None = tt
taken_same sub (Some step) =
    full_same sub (finds_full sub.wires.up (carried_by sub step.sent)) (record { reply = reply.Done; sub = with_any_up sub step.sent; «unit» = step.state }) refl

act_same : (sub : Subchannel) (u : UnitState) (what : UnitAct) → SameSub sub (act_sub sub u what)
act_same sub u what =
    if_same sub (has_path_of_act sub what) (report_taken sub (acts u sub.setup.side what)) (Err fault.NoSuchPath) (taken_same sub (acts u sub.setup.side what)) tt

-- the event of a kind of step
function_word : (f : Function) (word : ℕ) → subchannel_word (instruction_of f word) ≡ word
function_word Resumes word = refl
function_word f word = refl

swept : (s : State) (what : Sweep) (old new : List Serials) → Changes (touched s (sweep_event what)) old new
swept s (sweep.GoesDown chpid) old new = tt
swept s (sweep.ComesUp chpid) old new = tt
swept s (sweep.PathReset chpid) old new = tt
swept s sweep.SystemReset old new = tt

of_event : (s new : State) (e x : Event) → e ≡ x → Changes (touched s x) (all_serials s) (all_serials new) → Changes (touched s e) (all_serials s) (all_serials new)
of_event s new e x is c = subst (λ (y : Event). Changes (touched s y) (all_serials s) (all_serials new)) (sym is) c

changes_by : (s : State) (e : Event) (r : Reply) (new : State) → Walked s e r new → Changes (touched s e) (all_serials s) (all_serials new)
changes_by s _ _ _ (Stays e r new quiet sets subs units up) = stay (touched s e) (all_serials s) (all_serials new) (ap (map serials_at) subs)
changes_by s _ _ _ (Started cpu word address index sub orb c new at one) = named_changed s new word index sub _ at one
changes_by s _ _ _ (Tested e r index sub c new quiet one address ex is) =
    of_event s new e (event.Execute ex.cpu (instruction.Tsch ex.word address)) ex.event (named_changed s new ex.word index sub _ ex.at one)
changes_by s _ _ _ (Modified e r index sub given c new quiet one) =
    stay (touched s e) (all_serials s) (all_serials new) (set_stays s.subs new.subs index sub _ one.there one.subs (modified_same sub c given))
changes_by s _ _ _ (Performed e r index sub f c new quiet one ex is) =
    of_event s new e (event.Execute ex.cpu (instruction_of f ex.word)) ex.event
    (subst (λ (w : ℕ). Changes (touched_word s w) (all_serials s) (all_serials new)) (sym (function_word f ex.word)) (named_changed s new ex.word index sub _ ex.at one))
changes_by s _ _ _ (Chosen word index sub choice t new at is suits does one) = named_changed s new word index sub _ at one
changes_by s _ _ _ (Met word path returns index sub t new at does one is) = named_changed s new word index sub _ at one
changes_by s _ _ _ (Sunk word path may owed index sub u t new at does one) =
    set_stays s.subs new.subs index sub t.sub one.there one.subs (same_of sub (down_sub may sub path u) t (down_same may sub path u) does)
changes_by s _ _ _ (Reported at index sub u report t new reached reaches does one) =
    set_stays s.subs new.subs index sub t.sub one.there one.subs (same_of sub (report_sub sub u report) t (taken_same sub (unit_reports u report)) does)
changes_by s _ _ _ (Acted at index sub u what t new side is does one) =
    set_stays s.subs new.subs index sub t.sub one.there one.subs (same_of sub (act_sub sub u what) t (act_same sub u what) does)
changes_by s _ _ _ (Restarted at owed u r new there sets subs units up) = ap (map serials_at) subs
changes_by s _ _ _ (Swept e r what new quiet sets subs units is) = of_event s new e (sweep_event what) is.event (swept s what (all_serials s) (all_serials new))

pub changes : ((s : State) (e : Event) (r : Reply) (new : State) → Step s e r new → Walked s e r new) → (s : State) (e : Event) (r : Reply) (new : State) → Step s e r new → Changes (touched s e) (all_serials s) (all_serials new)
changes walks s e r new step = changes_by s e r new (walks s e r new step)
