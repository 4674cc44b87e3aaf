-- The commands that a device takes are those of the program, in order: a step at one index keeps this.
use Rattle.std.proofs.Common.{◌≡◌, refl, sym, ◌∙◌, ap, subst, ℕ, ◌+◌, Bool, true, false, ◌&&◌, Option, None, Some, Result, Ok, List, arith}
use Rattle.std.specs.Prelude.{IfOk}
use Rattle.storage_keys.specs.Storage.{Contents}
use Rattle.chan_model.specs.declared.fault.Fault.{Fault}
use Rattle.chan_model.specs.declared.names.Side.{Side}
use Rattle.chan_model.specs.Signals.{Down}
use Rattle.chan_model.specs.declared.unit_state.UnitState.{UnitState}
use Rattle.chan_model.specs.UnitReports.{unit_reports}
use Rattle.wires.specs.Queues.{lost}
use Rattle.subchannel_model.specs.declared.state.Chosen.{Chosen}
use Rattle.subchannel_model.specs.declared.state.Subchannel.{Subchannel}
use Rattle.subchannel_model.specs.declared.state.SubchannelState.{SubchannelState}
use Rattle.channel_config.specs.declared.parts.SubchannelSetup.{SubchannelSetup}
use Rattle.subchannel_model.specs.Start.{started}
use Rattle.subchannel_model.specs.Resume.{resumed}
use Rattle.subchannel_model.specs.Halt.{halted}
use Rattle.subchannel_model.specs.Clear.{cleared}
use Rattle.subchannel_model.specs.Cancel.{cancelled}
use Rattle.subchannel_model.specs.Test.{tested_wholly}
use Rattle.subchannel_model.specs.Choosing.{chosen, marked_sub}
use Rattle.machine_model.specs.Results.{with_state, SubResult, UpResult, DownResult}
use Rattle.machine_model.specs.ChooseSteps.{choose_sub}
use Rattle.machine_model.specs.UpSteps.{up_sub}
use Rattle.machine_model.specs.ReportSteps.{with_any_up}
use Rattle.machine_model.specs.Sharing.{owing}
use Rattle.step_laws.specs.Walks.{Suits}
use Rattle.run_laws.specs.Traces.{ProgramTrace, chosen_at, taken_at, reported_at}
use Rattle.run_laws.proofs.Traces.MachineTraces.{met_at}
use Rattle.run_laws.proofs.Traces.Turns.{IndexStep, Stays, Starts_with_orb, Is_tested, Is_resumed, Is_halted, Is_cleared, Is_cancelled, Is_modified, Is_chosen, Meets, Sinks, Is_reported, Other_sinks, Other_reported, Unit_acts, Is_swept}
use Rattle.run_laws.proofs.Traces.Caused.{tested-kept, halted-kept}
use Rattle.run_laws.proofs.Commands.UnitOrders.{hold-draws}
use Rattle.run_laws.proofs.Links.LinkNeeds.{Needs, marked-needs}
use Rattle.run_laws.proofs.Units.UnitActs.{owing-gentle}
use Rattle.run_laws.proofs.Links.Vanishing.{Fewer, lost-fewer}
use Rattle.run_laws.proofs.Traces.Sweeps.{swept-kept}
use Rattle.subchannel_model.specs.Losing.{is_offered_or_held, reset_with}
use Rattle.subchannel_model.specs.Programs.{has_any}
use Rattle.machine_model.specs.declared.state.Sweep.{Sweep}
use Rattle.machine_model.specs.PathSteps.{swept}
use Rattle.run_laws.proofs.Commands.LinkOrders.{number_of, sent_of, all_codes, took_of, IsLinked, AtUnit, AreAbove, fewer-linked, choose-linked, IsMet, up-linked, down-linked, gentle-linked, report-linked, other-down, other-report}

at-same : (side j : Side) (drawn later : ℕ) (wires after : List (List Down)) (k m : Option ProgramTrace) (u v : Option UnitState) → j ≡ side → later ≡ drawn → after ≡ wires → m ≡ k → v ≡ u →
    AtUnit (IsLinked side drawn wires k) u → AtUnit (IsLinked j later after m) v
at-same side j drawn later wires after k m u v a z b c d l =
    subst (λ (x : Side). AtUnit (IsLinked x later after m) v) (sym a)
    (subst (λ (x : ℕ). AtUnit (IsLinked side x after m) v) (sym z)
    (subst (λ (x : List (List Down)). AtUnit (IsLinked side drawn x m) v) (sym b)
    (subst (λ (x : Option ProgramTrace). AtUnit (IsLinked side drawn wires x) v) (sym c)
    (subst (λ (x : Option UnitState). AtUnit (IsLinked side drawn wires k) x) (sym d) l))))

side-of : (new old : Subchannel) → new.setup ≡ old.setup → new.setup.side ≡ old.setup.side
side-of new old e = ap (λ (x : SubchannelSetup). x.side) e

drawn-of : (x y : Subchannel) → x ≡ y → x.state.drawn ≡ y.state.drawn
drawn-of x y e = ap (λ (z : Subchannel). z.state.drawn) e

down-of-sub : (x y : Subchannel) → x ≡ y → x.wires.down ≡ y.wires.down
down-of-sub x y e = ap (λ (z : Subchannel). z.wires.down) e

chosen-at : (sub : Subchannel) (c : Chosen) (k : Option ProgramTrace) (u : Option UnitState) (t : SubResult) → Suits c sub.state → choose_sub sub c ≡ Ok t → Needs k sub.state →
    AtUnit (IsLinked sub.setup.side sub.state.drawn sub.wires.down k) u → AtUnit (IsLinked sub.setup.side t.sub.state.drawn t.sub.wires.down (chosen_at (Some sub) t.reply k)) u
chosen-at sub c k None t f e n l = absurd l
chosen-at sub c k (Some u) t f e n l =
    subst (λ (r : Result SubResult Fault). IfOk r (λ t. IsLinked sub.setup.side t.sub.state.drawn t.sub.wires.down (chosen_at (Some sub) t.reply k) u)) e
    (choose-linked sub c k u f n l)

met-at : (returns : Bool) → (storage : Contents) (sub : Subchannel) (path : ℕ) (k : Option ProgramTrace) (u : Option UnitState) (t : UpResult) → up_sub returns storage sub path ≡ Ok t → Needs k sub.state →
    Needs (met_at storage (Some sub) path k) t.sub.state → AtUnit (IsLinked sub.setup.side sub.state.drawn sub.wires.down k) u →
    AtUnit (IsLinked sub.setup.side t.sub.state.drawn t.sub.wires.down (met_at storage (Some sub) path k)) u
met-at returns storage sub path k None t e n m l = absurd l
met-at returns storage sub path k (Some u) t e n m l =
    (subst (λ (r : Result UpResult Fault). IfOk r (IsMet sub (met_at storage (Some sub) path k) u)) e (up-linked returns storage sub path k u n l)) m

draws-linked : (side : Side) (drawn : ℕ) (wires : List (List Down)) (k : Option ProgramTrace) (u : Option UnitState) → AtUnit (IsLinked side drawn wires k) u → AtUnit (IsLinked side (drawn + 1) wires k) u
draws-linked side drawn wires k None l = absurd l
draws-linked side drawn wires k (Some u) l = hold-draws side drawn (drawn + 1) (number_of k) (sent_of k) (all_codes k) (took_of k) wires u (omega arith) l

-- a path is lost, or all is reset
fewer-at : (side : Side) (drawn : ℕ) (wires after : List (List Down)) (k : Option ProgramTrace) (u : Option UnitState) → Fewer wires after →
    AtUnit (IsLinked side drawn wires k) u → AtUnit (IsLinked side drawn after k) u
fewer-at side drawn wires after k None f l = absurd l
fewer-at side drawn wires after k (Some u) f l = fewer-linked side drawn wires after k u f l

reset-draws : (s : SubchannelState) (shows : Bool) → (reset_with s shows).drawn ≡ s.drawn + 1
reset-draws s true = refl
reset-draws s false = refl

swept-linked : (what : Sweep) (x : Subchannel) (k : Option ProgramTrace) (u : Option UnitState) →
    AtUnit (IsLinked x.setup.side x.state.drawn x.wires.down k) u →
    AtUnit (IsLinked (swept what x).setup.side (swept what x).state.drawn (swept what x).wires.down k) u
swept-linked what x k u l =
    swept-kept x (λ y. AtUnit (IsLinked y.setup.side y.state.drawn y.wires.down k) u) (λ y path up g. g)
    (λ path g. fewer-at x.setup.side x.state.drawn x.wires.down (lost x.wires.down path) k u (lost-fewer x.wires.down path) g)
    (λ wires g. subst (λ (i : ℕ). AtUnit (IsLinked x.setup.side i wires.down k) u)
    (sym (reset-draws x.state (is_offered_or_held x.state.hold.phase && has_any x.state.waiting x.state.begun x.state.suspended)))
    (draws-linked x.setup.side x.state.drawn wires.down k u g))
    (λ g. draws-linked x.setup.side x.state.drawn x.wires.down k u g) what l

pub happens-linked : (storage : Contents) (old new : Subchannel) (u v : Option UnitState) (f : Option ProgramTrace → Option ProgramTrace) → IndexStep storage old new u v f → new.setup ≡ old.setup → ((x : UnitState) → u ≡ Some x → AreAbove old x) →
    (k : Option ProgramTrace) → Needs k old.state → Needs (f k) new.state →
    AtUnit (IsLinked old.setup.side old.state.drawn old.wires.down k) u → AtUnit (IsLinked new.setup.side new.state.drawn new.wires.down (f k)) v
happens-linked storage old new u v f (Stays e w s) i a k n m l =
    at-same old.setup.side new.setup.side old.state.drawn new.state.drawn old.wires.down new.wires.down k (f k) u v (side-of new old i) (drawn-of new old e) (down-of-sub new old e) (s k) w l
happens-linked storage old new u v f (Starts_with_orb orb e w s) i a k n m l =
    at-same old.setup.side new.setup.side old.state.drawn new.state.drawn old.wires.down new.wires.down k (f k) u v (side-of new old i) (drawn-of new (with_state old (started old.state orb)) e) (down-of-sub new (with_state old (started old.state orb)) e) (s k) w l
happens-linked storage old new u v f (Is_tested e w s) i a k n m l =
    at-same old.setup.side new.setup.side old.state.drawn new.state.drawn old.wires.down new.wires.down k (f k) u v (side-of new old i)
    (drawn-of new (with_state old (tested_wholly old.state)) e ∙ (tested-kept old.state).drawn) (down-of-sub new (with_state old (tested_wholly old.state)) e) (s k) w l
happens-linked storage old new u v f (Is_resumed e w s) i a k n m l =
    at-same old.setup.side new.setup.side old.state.drawn new.state.drawn old.wires.down new.wires.down k (f k) u v (side-of new old i)
    (drawn-of new (with_state old (resumed old.state)) e) (down-of-sub new (with_state old (resumed old.state)) e) (s k) w l
happens-linked storage old new u v f (Is_halted e w s) i a k n m l =
    at-same old.setup.side new.setup.side old.state.drawn new.state.drawn old.wires.down new.wires.down k (f k) u v (side-of new old i)
    (drawn-of new (with_state old (halted old.state)) e ∙ (halted-kept old.state).drawn) (down-of-sub new (with_state old (halted old.state)) e) (s k) w l
happens-linked storage old new u v f (Is_cleared e w s) i a k n m l =
    at-same old.setup.side new.setup.side (old.state.drawn + 1) new.state.drawn old.wires.down new.wires.down k (f k) u v (side-of new old i)
    (drawn-of new (with_state old (cleared old.state)) e) (down-of-sub new (with_state old (cleared old.state)) e) (s k) w
    (draws-linked old.setup.side old.state.drawn old.wires.down k u l)
happens-linked storage old new u v f (Is_cancelled e w s) i a k n m l =
    at-same old.setup.side new.setup.side old.state.drawn new.state.drawn old.wires.down new.wires.down k (f k) u v (side-of new old i)
    (drawn-of new (with_state old (cancelled old.state)) e) (down-of-sub new (with_state old (cancelled old.state)) e) (s k) w l
happens-linked storage old new u v f (Is_modified pmcw e w s) i a k n m l =
    at-same old.setup.side new.setup.side old.state.drawn new.state.drawn old.wires.down new.wires.down k (f k) u v (side-of new old i) (drawn-of new (with_state old (record old.state { pmcw = pmcw })) e)
    (down-of-sub new (with_state old (record old.state { pmcw = pmcw })) e) (s k) w l
happens-linked storage old new u v f (Is_chosen choice t x c e w s) i a k n m l =
    let z : Subchannel = marked_sub old choice in
    at-same old.setup.side new.setup.side t.sub.state.drawn new.state.drawn t.sub.wires.down new.wires.down (chosen_at (Some z) t.reply k) (f k) u v (side-of new old i) (drawn-of new t.sub e) (down-of-sub new t.sub e) (s k) w
    (chosen-at z (chosen old choice) k u t x c (marked-needs k old.state z.state.pmcw z.state.scsw n) l)
happens-linked storage old new u v f (Meets path returns t c e w s) i a k n m l =
    at-same old.setup.side new.setup.side t.sub.state.drawn new.state.drawn t.sub.wires.down new.wires.down (met_at storage (Some old) path k) (f k) u v (side-of new old i) (drawn-of new t.sub e) (down-of-sub new t.sub e) (s k) w
    (met-at returns storage old path k u t c n
    (subst (λ (x : Subchannel). Needs (met_at storage (Some old) path k) x.state) e (subst (λ (x : Option ProgramTrace). Needs x new.state) (s k) m)) l)
happens-linked storage old new u v f (Sinks path may owed x t is c e w s) i a k n m l =
    at-same old.setup.side new.setup.side t.sub.state.drawn new.state.drawn t.sub.wires.down new.wires.down (taken_at t.reply k) (f k) (Some (owing owed t.«unit»)) v (side-of new old i) (drawn-of new t.sub e) (down-of-sub new t.sub e) (s k) w
    (gentle-linked old.setup.side t.sub.state.drawn t.sub.wires.down (taken_at t.reply k) t.«unit» (owing owed t.«unit») (owing-gentle old.setup.side owed t.«unit»)
    (subst (λ (r : Result DownResult Fault). IfOk r (λ t. IsLinked old.setup.side t.sub.state.drawn t.sub.wires.down (taken_at t.reply k) t.«unit»)) c
    (down-linked may old path x k (a x is) n (subst (AtUnit (IsLinked old.setup.side old.state.drawn old.wires.down k)) is l))))
happens-linked storage old new u v f (Is_reported report x t is same c e w s) i a k n m l =
    at-same old.setup.side new.setup.side t.sub.state.drawn new.state.drawn t.sub.wires.down new.wires.down (reported_at (Some x) report k) (f k) (Some t.«unit») v (side-of new old i) (drawn-of new t.sub e) (down-of-sub new t.sub e) (s k) w
    (subst (λ (r : Result DownResult Fault). IfOk r (λ t. IsLinked old.setup.side t.sub.state.drawn t.sub.wires.down (reported_at (Some x) report k) t.«unit»)) c
    (report-linked old x report k (unit_reports x report) refl (subst (AtUnit (IsLinked old.setup.side old.state.drawn old.wires.down k)) is l)))
happens-linked storage old new u v f (Other_sinks other path may owed x t apart is c e w s) i a k n m l =
    at-same old.setup.side new.setup.side old.state.drawn new.state.drawn old.wires.down new.wires.down k (f k) (Some (owing owed t.«unit»)) v (side-of new old i) (drawn-of new old e) (down-of-sub new old e) (s k) w
    (gentle-linked old.setup.side old.state.drawn old.wires.down k t.«unit» (owing owed t.«unit») (owing-gentle old.setup.side owed t.«unit»)
    (subst (λ (r : Result DownResult Fault). IfOk r (λ t. IsLinked old.setup.side old.state.drawn old.wires.down k t.«unit»)) c
    (other-down may old other path x k apart (subst (AtUnit (IsLinked old.setup.side old.state.drawn old.wires.down k)) is l))))
happens-linked storage old new u v f (Other_reported other report x t apart is same c e w s) i a k n m l =
    at-same old.setup.side new.setup.side old.state.drawn new.state.drawn old.wires.down new.wires.down k (f k) (Some t.«unit») v (side-of new old i) (drawn-of new old e) (down-of-sub new old e) (s k) w
    (subst (λ (r : Result DownResult Fault). IfOk r (λ t. IsLinked old.setup.side old.state.drawn old.wires.down k t.«unit»)) c
    (other-report old other x report k (unit_reports x report) refl (subst (AtUnit (IsLinked old.setup.side old.state.drawn old.wires.down k)) is l)))
happens-linked storage old new u v f (Unit_acts x y sends is gentle quiet e w s) i a k n m l =
    at-same old.setup.side new.setup.side old.state.drawn new.state.drawn old.wires.down new.wires.down k (f k) (Some y) v (side-of new old i)
    (drawn-of new (with_any_up old sends) e) (down-of-sub new (with_any_up old sends) e) (s k) w
    (gentle-linked old.setup.side old.state.drawn old.wires.down k x y (gentle old.setup.side) (subst (AtUnit (IsLinked old.setup.side old.state.drawn old.wires.down k)) is l))
happens-linked storage old new u v f (Is_swept what e w s) i a k n m l =
    let x : Subchannel = swept what old in
    at-same x.setup.side new.setup.side x.state.drawn new.state.drawn x.wires.down new.wires.down k (f k) u v (side-of new x (ap (λ (y : Subchannel). y.setup) e))
    (drawn-of new x e) (down-of-sub new x e) (s k) w (swept-linked what old k u l)
