-- After each run a program that is offered stands where it begins, or where it was suspended.
use Rattle.std.proofs.Common.{◌≡◌, refl, ap, sym, ◌∙◌, subst, arith, ℕ, ◌+◌, ◌==◌, Bool, true, false, List, [], ◌++◌, length, Option, Some, None, Result, Ok, Err, ◌⊎◌, inl, inr}
use Rattle.std.specs.Prelude.{if◌then◌else◌, ◌&&◌, nat_lt, slice_get, take, IfOk}
use Rattle.storage_keys.specs.Storage.{Contents}
use Rattle.orb_block.specs.declared.Orb.{Orb}
use Rattle.chan_model.specs.declared.fault.Fault.{Fault}
use Rattle.chan_model.specs.declared.fault.Fault.TheVariants as fault
use Rattle.chan_model.specs.declared.hold_state.HoldPhase.{HoldPhase}
use Rattle.chan_model.specs.declared.hold_state.HoldPhase.TheVariants as hold
use Rattle.chan_model.specs.declared.hold_state.HoldState.{HoldState}
use Rattle.chan_model.specs.Signals.{Up, Down}
use Rattle.chan_model.specs.declared.signal.Up.TheVariants as up
use Rattle.chan_model.specs.declared.signal.Down.TheVariants as down
use Rattle.chan_model.specs.declared.signal.OnPath.{OnPath}
use Rattle.chan_model.specs.Reports.{DeviceAnswer, Report}
use Rattle.chan_model.specs.declared.report.DeviceAnswer.TheVariants as answer
use Rattle.chan_model.specs.declared.unit_state.CurrentCommand.{CurrentCommand}
use Rattle.chan_model.specs.declared.unit_state.UnitState.{UnitState}
use Rattle.chan_model.specs.UnitTable as unit_table
use Rattle.chan_model.specs.UnitTable.{UnitStep, unit_takes}
use Rattle.chan_model.specs.UnitReports.{unit_reports}
use Rattle.chan_events.specs.declared.reply.Entry.{Entry}
use Rattle.chan_events.specs.declared.reply.Reply.TheVariants as reply
use Rattle.channel_config.specs.declared.parts.SubchannelSetup.{SubchannelSetup}
use Rattle.channel_config.specs.Lawful.{IsLawful}
use Rattle.channel_config.specs.Setup.{Setup}
use Rattle.wires.specs.Queues.{queue}
use Rattle.subchannel_model.specs.declared.cause.StatusCause.TheVariants as cause
use Rattle.subchannel_model.specs.declared.state.Chosen.{Chosen}
use Rattle.subchannel_model.specs.declared.state.Chosen.TheVariants.{Idle, Resets, PerformsClear, Halts, PerformsHalt, FindsNoPath, Offers}
use Rattle.subchannel_model.specs.declared.state.Program.{Program}
use Rattle.subchannel_model.specs.declared.state.ProgramPosition.{ProgramPosition}
use Rattle.subchannel_model.specs.declared.state.Subchannel.{Subchannel}
use Rattle.subchannel_model.specs.declared.state.SubchannelState.{SubchannelState}
use Rattle.subchannel_model.specs.Cancel.{cancelled}
use Rattle.subchannel_model.specs.Causes.{without_waiting, with_cause}
use Rattle.subchannel_model.specs.Choosing.{chosen, marked_sub, reset_sent, halt_sent, offered}
use Rattle.subchannel_model.specs.Clear.{cleared}
use Rattle.subchannel_model.specs.Halt.{halt_begun, drops_status, status_dropped, halted}
use Rattle.subchannel_model.specs.Losing.{is_offered_or_held, reset_with, shows_at}
use Rattle.subchannel_model.specs.Opening.{opened}
use Rattle.subchannel_model.specs.Programs.{without_programs, has_any}
use Rattle.subchannel_model.specs.Resume.{resumed}
use Rattle.subchannel_model.specs.Sending.{carried_by, finds_full}
use Rattle.subchannel_model.specs.Start.{started}
use Rattle.subchannel_model.specs.SystemReset.{state_reset}
use Rattle.subchannel_model.specs.Accept.{takes_device, with_path_used, offered_position, takes_accept}
use Rattle.subchannel_model.specs.Taking.{takes_up}
use Rattle.subchannel_model.specs.Test.{ends_suspended, tested_wholly, tested}
use Rattle.machine_model.specs.State.{State, opening_of}
use Rattle.machine_model.specs.Results.{SubResult, UpResult, DownResult}
use Rattle.machine_model.specs.ChooseSteps.{choose_sub}
use Rattle.machine_model.specs.UpSteps.{up_front, up_sub}
use Rattle.machine_model.specs.DownSteps.{down_front, down_sub}
use Rattle.machine_model.specs.ReportSteps.{report_taken, report_sub}
use Rattle.machine_model.specs.Steps.{Run, Opened, Stepped}
use Rattle.machine_model.specs.declared.state.Sweep.{Sweep}
use Rattle.machine_model.specs.PathSteps.{swept}
use Rattle.step_laws.specs.Walks.{IsFound, Suits}
use Rattle.step_laws.proofs.Indices.{map-get}
use Rattle.run_laws.proofs.Machine.TraceEvents.{reset-phase}
use Rattle.run_laws.proofs.Signals.Meets as phases
use Rattle.run_laws.proofs.Signals.Meets.{takes-meets}
use Rattle.run_laws.proofs.Signals.Overs.{with_hold, offer_begun, meets-offer, meets-accept, begin-taken, same-in}
use Rattle.run_laws.proofs.Signals.Starts.{Within, IsChosenBy, cause-within, takes-within, start-within, test-within, halt-within, reset-within, chosen-by}
use Rattle.run_laws.specs.Traces as traced
use Rattle.run_laws.specs.Traces.{ProgramTrace, chosen_at, taken_at, absorbs, reported_at, offered_for, takes, reported}
use Rattle.run_laws.proofs.Traces.MachineTraces.{trace_meets, trace_accepted, met_with, met_at, trace, trace_after}
use Rattle.run_laws.proofs.Traces.Turns.{IndexStep, Stays, Starts_with_orb, Is_tested, Is_resumed, Is_halted, Is_cleared, Is_cancelled, Is_modified, Is_chosen, Meets, Sinks, Is_reported, Other_sinks, Other_reported, Unit_acts, Is_swept, step-happens}
use Rattle.run_laws.proofs.Bytes.Accesses.{AreAccesses}
use Rattle.run_laws.proofs.Traces.Ties.{AreLaws}
use Rattle.run_laws.proofs.Traces.Holds.{IsStanding}
use Rattle.run_laws.proofs.Traces.Choices.{KeptBy, alone-kept, same-kept, run-held}
use Rattle.run_laws.proofs.Units.RunSides.{run-one-sided}
use Rattle.run_laws.proofs.Units.UnitActs.{if-ok}
use Rattle.run_laws.proofs.Links.Vanishing.{send-ok}
use Rattle.run_laws.proofs.Traces.Sweeps.{swept-kept}
use Rattle.run_laws.proofs.Offers.Offers.{IsOfferedStart, IsOfferedPosition, IsOfferedAt, IsOffered}
use Rattle.ccw_walk.specs.Sequences.{Sequence, ◌▸◌}

abbrev pub OfferedBy : SubchannelState → Option ProgramTrace → Type 0
OfferedBy s None = Unit {0}
OfferedBy s (Some k) = IsOffered s k

-- no start is there beyond those that were accepted
abbrev pub OffersBy : SubchannelState → Option ProgramTrace → Type 0
OffersBy s k = Within s × OfferedBy s k

-- the programs that stay, or are gone
abbrev IsLess : {A : Type 0} → Option A → Option A → Type 0
IsLess {A} x y = (y ≡ x) ⊎ (y ≡ None)

start-less : (w v : Option Program) (start : ℕ) (k : ProgramTrace) → IsLess w v → IsOfferedStart w start k → IsOfferedStart v start k
start-less w v start k (inl e) o = subst (λ (x : Option Program). IsOfferedStart x start k) (sym e) o
start-less w v start k (inr e) o = subst (λ (x : Option Program). IsOfferedStart x start k) (sym e) tt

position-less : (st qs : Option ProgramPosition) (start : ℕ) (k : ProgramTrace) → IsLess st qs → IsOfferedPosition st start k → IsOfferedPosition qs start k
position-less st qs start k (inl e) o = subst (λ (x : Option ProgramPosition). IsOfferedPosition x start k) (sym e) o
position-less st qs start k (inr e) o = subst (λ (x : Option ProgramPosition). IsOfferedPosition x start k) (sym e) tt

at-less : (phase : HoldPhase) (w v : Option Program) (st qs : Option ProgramPosition) (start : ℕ) (k : ProgramTrace) → IsLess w v → IsLess st qs → IsOfferedAt phase w st start k →
    IsOfferedAt phase v qs start k
at-less (hold.Offer t p) w v st qs start k e f o = (start-less w v start k e o.0, position-less st qs start k f o.1)
at-less other w v st qs start k e f o = tt

less-offered : (s x : SubchannelState) (k : Option ProgramTrace) → x.hold.phase ≡ s.hold.phase → x.offered ≡ s.offered → IsLess s.waiting x.waiting → IsLess s.suspended x.suspended →
    OfferedBy s k → OfferedBy x k
less-offered s x None e n f g o = tt
less-offered s x (Some k) e n f g o =
    subst (λ (y : HoldPhase). IsOfferedAt y x.waiting x.suspended x.offered k) (sym e)
    (subst (λ (y : ℕ). IsOfferedAt s.hold.phase x.waiting x.suspended y k) (sym n) (at-less s.hold.phase s.waiting x.waiting s.suspended x.suspended s.offered k f g o))

-- where none is offered nothing is asked
if-offer : (x : SubchannelState) (k : ProgramTrace) → ((t q : ℕ) → x.hold.phase ≡ hold.Offer t q → IsOffered x k) → IsOffered x k
if-offer x k f = by x.hold.phase refl
  where
    none : (phase : HoldPhase) → x.hold.phase ≡ phase → IsOfferedAt phase x.waiting x.suspended x.offered k → IsOffered x k
    none phase e o = subst (λ (y : HoldPhase). IsOfferedAt y x.waiting x.suspended x.offered k) (sym e) o

    by : (phase : HoldPhase) → x.hold.phase ≡ phase → IsOffered x k
    by (hold.Offer t p) e = f t p e
    by other e = none other e tt

-- the hold is to be reset
reset-offers : (s : SubchannelState) (k : Option ProgramTrace) (shows : Bool) → OffersBy s k → OffersBy (reset_with s shows) k
reset-offers s None shows o = (reset-within s shows o.0, tt)
reset-offers s (Some k) true o = (reset-within s true o.0, tt)
reset-offers s (Some k) false o = (reset-within s false o.0, tt)

gone-offers : (s : SubchannelState) (r : ℕ) (k : Option ProgramTrace) → s.hold.phase ≡ hold.Reset r → Within s → OffersBy s k
gone-offers s r None e w = (w, tt)
gone-offers s r (Some k) e w = (w, subst (λ (y : HoldPhase). IsOfferedAt y s.waiting s.suspended s.offered k) (sym e) tt)

-- a signal that comes up: an offer stays only where nothing changed
accept-traced : (storage : Contents) (s : SubchannelState) (h : HoldState) (p t q u v w : ℕ) (k : ProgramTrace) (may same : Bool) →
    phases.Meets p (up.Accept u) (hold.Offer t q) (takes_accept storage (with_hold s h (hold.Offer t q)) (offer_begun h t q may same)).outcome.taken
    (takes_accept storage (with_hold s h (hold.Offer t q)) (offer_begun h t q may same)).outcome.sent
    (takes_accept storage (with_hold s h (hold.Offer t q)) (offer_begun h t q may same)).state.hold.phase →
    (takes_accept storage (with_hold s h (hold.Offer t q)) (offer_begun h t q may same)).state.hold.phase ≡ hold.Offer v w →
    trace_accepted storage (with_hold s h (hold.Offer t q)) (offer_begun h t q may same) k ≡ k
accept-traced storage s h p t q u v w k true true m e = absurd (meets-accept p u (up.Accept u) _ _ _ _ v w refl (begin-taken storage (record s { hold = record h { phase = hold.On t q 0; seen = 0; first_path = Some q }; pmcw = with_path_used s.pmcw q }) q t (offered_position s)) m e)
accept-traced storage s h p t q u v w k false true m e = absurd (meets-accept p u (up.Accept u) _ _ _ _ v w refl refl m e)
accept-traced storage s h p t q u v w k may false m e = refl

offer-traced : (returns : Bool) (storage : Contents) (s : SubchannelState) (h : HoldState) (t q p : ℕ) (x : Up) (k : ProgramTrace) (v w : ℕ) →
    (takes_up returns storage (with_hold s h (hold.Offer t q)) p x).step.state.hold.phase ≡ hold.Offer v w → trace_meets storage (with_hold s h (hold.Offer t q)) p x k ≡ k
offer-traced returns storage s h t q p (up.Accept u) k v w e =
    accept-traced storage s h p t q u v w k (takes_device s) (u == t) (takes-meets returns storage (with_hold s h (hold.Offer t q)) p (up.Accept u)) e
offer-traced returns storage s h t q p x k v w e = refl

traced-same : (returns : Bool) (storage : Contents) (s : SubchannelState) (t q p : ℕ) (x : Up) (k : ProgramTrace) (v w : ℕ) → s.hold.phase ≡ hold.Offer t q →
    (takes_up returns storage s p x).step.state.hold.phase ≡ hold.Offer v w → trace_meets storage s p x k ≡ k
traced-same returns storage s t q p x k v w e =
    subst (λ (y : HoldPhase). (takes_up returns storage (with_hold s s.hold y) p x).step.state.hold.phase ≡ hold.Offer v w → trace_meets storage (with_hold s s.hold y) p x k ≡ k) (sym e)
    (offer-traced returns storage s s.hold t q p x k v w)

met-offered : (returns : Bool) (storage : Contents) (s : SubchannelState) (p : ℕ) (x : Up) (k : ProgramTrace) → IsOffered s k →
    IsOffered (takes_up returns storage s p x).step.state (trace_meets storage s p x k)
met-offered returns storage s p x k o =
    let step = (takes_up returns storage s p x).step in
    if-offer step.state (trace_meets storage s p x k)
    (λ t q e.
    let old : s.hold.phase ≡ hold.Offer t q = meets-offer p x s.hold.phase step.outcome.taken step.outcome.sent step.state.hold.phase t q (takes-meets returns storage s p x) e in
    subst (λ (y : ProgramTrace). IsOffered step.state y) (sym (traced-same returns storage s t q p x k t q old e))
    (elim (same-in returns storage s t q p x old) [
      | inl same ↦ subst (λ (y : SubchannelState). IsOffered y k) (sym same) o
      | inr n ↦ absurd (n t q e)
    ]))

met-offers : (returns : Bool) (storage : Contents) (s : SubchannelState) (p : ℕ) (x : Up) (k : Option ProgramTrace) → OffersBy s k →
    OffersBy (takes_up returns storage s p x).step.state (met_with storage s p (Some x) k)
met-offers returns storage s p x None o = (takes-within returns storage s p x o.0, tt)
met-offers returns storage s p x (Some k) o = (takes-within returns storage s p x o.0, met-offered returns storage s p x k o.1)

up_front-offers : (returns : Bool) (storage : Contents) (sub : Subchannel) (path : ℕ) (front : Option Up) (k : Option ProgramTrace) → OffersBy sub.state k →
    IfOk (up_front returns storage sub path front) (λ t. OffersBy t.sub.state (met_with storage sub.state path front k))
up_front-offers returns storage sub path None k o = tt
up_front-offers returns storage sub path (Some x) k o =
    if-ok (λ t. OffersBy t.sub.state (met_with storage sub.state path (Some x) k)) (finds_full sub.wires.down (carried_by sub (takes_up returns storage sub.state path x).step.outcome.sent))
    (Err fault.WireFull) _ tt (met-offers returns storage sub.state path x k o)

up-offers : (returns : Bool) (storage : Contents) (sub : Subchannel) (path : ℕ) (t : UpResult) (k : Option ProgramTrace) → up_sub returns storage sub path ≡ Ok t → OffersBy sub.state k →
    OffersBy t.sub.state (met_at storage (Some sub) path k)
up-offers returns storage sub path t k e o =
    subst (λ (r : Result UpResult Fault). IfOk r (λ t. OffersBy t.sub.state (met_at storage (Some sub) path k))) e
    (if-ok (λ t. OffersBy t.sub.state (met_at storage (Some sub) path k)) (nat_lt path (length sub.setup.paths))
    (up_front returns storage sub path (slice_get (queue sub.wires.up path) 0)) (Err fault.NoSuchPath)
    (up_front-offers returns storage sub path (slice_get (queue sub.wires.up path) 0) k o) tt)

-- an offer
waits-offered : (w : Option Program) (program : Program) (start t : ℕ) → w ≡ Some program → IsOfferedStart w start (traced.trace_offered t program.orb)
waits-offered None program start t e = tt
waits-offered (Some x) program start t e = λ n. (let same : x ≡ program = cc e in ap (λ (y : Program). y.orb) same, refl, refl)

none-offered : (st : Option ProgramPosition) (start : ℕ) (k : ProgramTrace) → st ≡ None → IsOfferedPosition st start k
none-offered st start k e = subst (λ (x : Option ProgramPosition). IsOfferedPosition x start k) (sym e) tt

none-waits : (w : Option Program) (start : ℕ) (k : ProgramTrace) → w ≡ None → IsOfferedStart w start k
none-waits w start k e = subst (λ (x : Option Program). IsOfferedStart x start k) (sym e) tt

past-offered : (st : Option ProgramPosition) (start t : ℕ) (k : ProgramTrace) → IsOfferedPosition st start (traced.trace_resumed t k)
past-offered None start t k = tt
past-offered (Some st) start t k = λ e. (refl, refl)

found-offered : (s : SubchannelState) (program : Program) (path : ℕ) (resumes : Bool) (k : Option ProgramTrace) (sub : Subchannel) → sub.state ≡ s → IsFound s.waiting s.suspended resumes program →
    KeptBy s k → OfferedBy (offered s program path) (chosen_at (Some sub) (reply.Offered (s.drawn + 1) path resumes) k)
found-offered s program path false k sub e f h =
    subst (λ (y : SubchannelState). OfferedBy (offered s program path) (offered_for y.waiting (s.drawn + 1) k)) (sym e)
    (subst (λ (w : Option Program). OfferedBy (offered s program path) (offered_for w (s.drawn + 1) k)) (sym f)
    (waits-offered s.waiting program program.start (s.drawn + 1) f, none-offered s.suspended program.start (traced.trace_offered (s.drawn + 1) program.orb) (alone-kept s program k f h)))
found-offered s program path true None sub e f h = absurd (cc (sym h.suspended ∙ f.1))
found-offered s program path true (Some k) sub e f h =
    let x : IsStanding s.waiting s.begun (Some f.0) k = subst (λ (y : Option ProgramPosition). IsStanding s.waiting s.begun y k) f.1 h.0.standing in
    (none-waits s.waiting program.start (traced.trace_resumed (s.drawn + 1) k) x.0, past-offered s.suspended program.start (s.drawn + 1) k)

choose-offers : (sub : Subchannel) (k : Option ProgramTrace) (c : Chosen) → Suits c sub.state → IsChosenBy sub.state.starts c → KeptBy sub.state k → OffersBy sub.state k →
    IfOk (choose_sub sub c) (λ t. OffersBy t.sub.state (chosen_at (Some sub) t.reply k))
choose-offers sub k Idle f n h o = o
choose-offers sub k (Resets r path) f n h o =
    send-ok (λ t. OffersBy t.sub.state (chosen_at (Some sub) t.reply k)) sub (reset_sent sub.state path) path (down.Reset r sub.state.hold.known_restarts) (reply.ResetSent r path)
    (o.0, less-offered sub.state (reset_sent sub.state path) k (reset-phase sub.state.hold sub.state.hold.phase path) refl (inl refl) (inl refl) o.1)
choose-offers sub k PerformsClear f n h o =
    (cause-within sub.state cause.ClearDone tt o.0, less-offered sub.state (with_cause sub.state cause.ClearDone) k refl refl (inl refl) (inl refl) o.1)
choose-offers sub k (Halts t path) f n h o =
    send-ok (λ t. OffersBy t.sub.state (chosen_at (Some sub) t.reply k)) sub (halt_sent sub.state) path (down.Halt t) (reply.HaltSent t path)
    (o.0, less-offered sub.state (halt_sent sub.state) k refl refl (inl refl) (inl refl) o.1)
choose-offers sub k PerformsHalt f n h o =
    (cause-within sub.state cause.HaltDone tt o.0, less-offered sub.state (with_cause sub.state cause.HaltDone) k refl refl (inr refl) (inr refl) o.1)
choose-offers sub k FindsNoPath f n h o =
    (cause-within sub.state cause.NoPath tt o.0, by sub.state.waiting refl)
  where
    x : SubchannelState
    x = with_cause sub.state cause.NoPath

    by : (w : Option Program) → sub.state.waiting ≡ w → OfferedBy x k
    by None e =
        let same : without_waiting sub.state.waiting sub.state ≡ without_waiting None sub.state = ap (λ (w : Option Program). without_waiting w sub.state) e in
        less-offered sub.state x k (ap (λ (y : SubchannelState). y.hold.phase) same) (ap (λ (y : SubchannelState). y.offered) same)
        (inl (ap (λ (y : SubchannelState). y.waiting) same)) (inr (ap (λ (y : SubchannelState). y.suspended) same)) o.1
    by (Some program) e =
        let same : without_waiting sub.state.waiting sub.state ≡ without_waiting (Some program) sub.state = ap (λ (w : Option Program). without_waiting w sub.state) e in
        less-offered sub.state x k (ap (λ (y : SubchannelState). y.hold.phase) same) (ap (λ (y : SubchannelState). y.offered) same)
        (inr (ap (λ (y : SubchannelState). y.waiting) same)) (inl (ap (λ (y : SubchannelState). y.suspended) same)) o.1
choose-offers sub k (Offers c path) f n h o =
    send-ok (λ t. OffersBy t.sub.state (chosen_at (Some sub) t.reply k)) sub (offered sub.state c.program path) path
    (down.Select (sub.state.drawn + 1)) (reply.Offered (sub.state.drawn + 1) path c.resumes)
    ((n, o.0.1, o.0.2, o.0.3), found-offered sub.state c.program path c.resumes k sub refl f.found h)

-- the unit's doings leave it
untaken-offers : (s : SubchannelState) (k : ProgramTrace) (taken : Sequence ℕ) (absorbed : List ℕ) → OffersBy s (Some k) → OffersBy s (Some (record k { taken = taken; absorbed = absorbed }))
untaken-offers s k taken absorbed o = (o.0, at s.hold.phase s.waiting s.suspended o.1)
  where
    next : ProgramTrace
    next = record k { taken = taken; absorbed = absorbed }

    waits : (w : Option Program) → IsOfferedStart w s.offered k → IsOfferedStart w s.offered next
    waits None x = tt
    waits (Some program) x = x

    stands : (st : Option ProgramPosition) → IsOfferedPosition st s.offered k → IsOfferedPosition st s.offered next
    stands None x = tt
    stands (Some st) x = x

    at : (phase : HoldPhase) (w : Option Program) (st : Option ProgramPosition) → IsOfferedAt phase w st s.offered k → IsOfferedAt phase w st s.offered next
    at (hold.Offer t p) w st x = (waits w x.0, stands st x.1)
    at other w st x = tt

takes-if : (s : SubchannelState) (k : ProgramTrace) (code : ℕ) (b : Bool) → OffersBy s (Some k) → OffersBy s (Some (if b then record k { taken = k.taken ▸ code; absorbed = [] } else k))
takes-if s k code true o = untaken-offers s k (k.taken ▸ code) [] o
takes-if s k code false o = o

takes-offers : (s : SubchannelState) (d : Down) (k : ProgramTrace) → OffersBy s (Some k) → OffersBy s (Some (takes d k))
takes-offers s (down.Command t n code room) k o = takes-if s k code (t == k.number) o
takes-offers s d k o = o

taken-offers : (s : SubchannelState) (d : Down) (outcome : Bool) (sent : Option (OnPath Up)) (k : Option ProgramTrace) → OffersBy s k → OffersBy s (taken_at (reply.Down d outcome sent) k)
taken-offers s d false sent k o = o
taken-offers s d true (Some x) k o = o
taken-offers s d true None None o = o
taken-offers s d true None (Some k) o = takes-offers s d k o

down_front-offers : (may : Bool) (sub : Subchannel) (path : ℕ) (u : UnitState) (front : Option Down) (k : Option ProgramTrace) → OffersBy sub.state k →
    IfOk (down_front may sub path u front) (λ t. OffersBy t.sub.state (taken_at t.reply k))
down_front-offers may sub path u None k o = tt
down_front-offers may sub path u (Some d) k o =
    let step : Option UnitStep = unit_takes u sub.setup.side path d may in
    if-ok (λ t. OffersBy t.sub.state (taken_at t.reply k)) (finds_full sub.wires.up (carried_by sub (unit_table.outcome_of step).sent)) (Err fault.WireFull) _ tt
    (taken-offers sub.state d (unit_table.outcome_of step).taken (unit_table.outcome_of step).sent k o)

sunk-offers : (may : Bool) (sub : Subchannel) (path : ℕ) (u : UnitState) (t : DownResult) (k : Option ProgramTrace) → down_sub may sub path u ≡ Ok t → OffersBy sub.state k →
    OffersBy t.sub.state (taken_at t.reply k)
sunk-offers may sub path u t k e o =
    subst (λ (r : Result DownResult Fault). IfOk r (λ t. OffersBy t.sub.state (taken_at t.reply k))) e
    (if-ok (λ t. OffersBy t.sub.state (taken_at t.reply k)) (nat_lt path (length sub.setup.paths)) (down_front may sub path u (slice_get (queue sub.wires.down path) 0)) (Err fault.NoSuchPath)
    (down_front-offers may sub path u (slice_get (queue sub.wires.down path) 0) k o) tt)

absorbs-offers : (s : SubchannelState) (count : ℕ) (x : Option CurrentCommand) (k : ProgramTrace) → OffersBy s (Some k) → OffersBy s (Some (absorbs count x k))
absorbs-offers s count None k o = o
absorbs-offers s count (Some x) k o = by x.unabsorbed
  where
    by : (bytes : Option (List ℕ)) → OffersBy s (Some (absorbs count (Some (record x { unabsorbed = bytes })) k))
    by None = o
    by (Some bytes) = untaken-offers s k k.taken (k.absorbed ++ take count bytes) o

report-if : (s : SubchannelState) (count : ℕ) (x : Option CurrentCommand) (k : ProgramTrace) (b : Bool) → OffersBy s (Some k) → OffersBy s (Some (if b then absorbs count x k else k))
report-if s count x k true o = absorbs-offers s count x k o
report-if s count x k false o = o

reported-offers : (s : SubchannelState) (u : UnitState) (report : Report) (a : DeviceAnswer) (k : ProgramTrace) → OffersBy s (Some k) → OffersBy s (Some (reported u report a k))
reported-offers s u report (answer.Absorbed count) k o = report-if s count u.current k (report.number == k.number) o
reported-offers s u report other k o = o

reported_at-offers : (s : SubchannelState) (u : UnitState) (report : Report) (k : Option ProgramTrace) → OffersBy s k → OffersBy s (reported_at (Some u) report k)
reported_at-offers s u report None o = o
reported_at-offers s u report (Some k) o = reported-offers s u report report.answer k o

report_taken-offers : (sub : Subchannel) (u : UnitState) (report : Report) (step : Option UnitStep) (k : Option ProgramTrace) → OffersBy sub.state k →
    IfOk (report_taken sub step) (λ t. OffersBy t.sub.state (reported_at (Some u) report k))
report_taken-offers sub u report None k o = tt
report_taken-offers sub u report (Some step) k o =
    if-ok (λ t. OffersBy t.sub.state (reported_at (Some u) report k)) (finds_full sub.wires.up (carried_by sub step.sent)) (Err fault.WireFull) _ tt (reported_at-offers sub.state u report k o)

told-offers : (sub : Subchannel) (u : UnitState) (report : Report) (t : DownResult) (k : Option ProgramTrace) → report_sub sub u report ≡ Ok t → OffersBy sub.state k →
    OffersBy t.sub.state (reported_at (Some u) report k)
told-offers sub u report t k e o =
    subst (λ (r : Result DownResult Fault). IfOk r (λ t. OffersBy t.sub.state (reported_at (Some u) report k))) e (report_taken-offers sub u report (unit_reports u report) k o)

-- an instruction
started-waits : (s : SubchannelState) (orb : Orb) (k : ProgramTrace) → Within s → IsOfferedStart (started s orb).waiting (started s orb).offered k
started-waits s orb k w = λ e. absurd (omega (arith, e, w.0))

started-at : (phase : HoldPhase) (s : SubchannelState) (orb : Orb) (k : ProgramTrace) → Within s → IsOfferedAt phase (started s orb).waiting (started s orb).suspended (started s orb).offered k
started-at (hold.Offer t p) s orb k w = (started-waits s orb k w, tt)
started-at other s orb k w = tt

started-offers : (s : SubchannelState) (orb : Orb) (k : Option ProgramTrace) → OffersBy s k → OffersBy (started s orb) k
started-offers s orb None o = (start-within s orb o.0, tt)
started-offers s orb (Some k) o = (start-within s orb o.0, started-at s.hold.phase s orb k o.0)

tested-offers : (s : SubchannelState) (k : Option ProgramTrace) → OffersBy s k → OffersBy (tested_wholly s) k
tested-offers s k o = (test-within s o.0, by (ends_suspended s.scsw))
  where
    by : (b : Bool) → OfferedBy (if b then without_programs (tested s) else tested s) k
    by true = less-offered s (without_programs (tested s)) k refl refl (inr refl) (inr refl) o.1
    by false = less-offered s (tested s) k refl refl (inl refl) (inl refl) o.1

halted-offers : (s : SubchannelState) (k : Option ProgramTrace) → OffersBy s k → OffersBy (halted s) k
halted-offers s k o = (halt-within s o.0, by (drops_status s.scsw))
  where
    by : (b : Bool) → OfferedBy (if b then status_dropped (halt_begun s) else halt_begun s) k
    by true = less-offered s (status_dropped (halt_begun s)) k refl refl (inl refl) (inl refl) o.1
    by false = less-offered s (halt_begun s) k refl refl (inl refl) (inl refl) o.1

-- a path is lost, or all is reset
swept-offers : (what : Sweep) (x : Subchannel) (k : Option ProgramTrace) → OffersBy x.state k → OffersBy (swept what x).state k
swept-offers what x k o =
    swept-kept x (λ y. OffersBy y.state k) (λ y path up g. (g.0, less-offered y.state (shows_at (Some path) up y).state k refl refl (inl refl) (inl refl) g.1)) (λ path g. g)
    (λ wires g. reset-offers x.state k (is_offered_or_held x.state.hold.phase && has_any x.state.waiting x.state.begun x.state.suspended) g)
    (λ g. gone-offers (state_reset x.state) _ k refl (g.0.0, tt, tt, tt)) what o

-- whatever happens
same-offers : (old new : Subchannel) (f : Option ProgramTrace → Option ProgramTrace) (k : Option ProgramTrace) → new ≡ old → f k ≡ k → OffersBy old.state k → OffersBy new.state (f k)
same-offers old new f k e g o = subst (λ (x : Option ProgramTrace). OffersBy new.state x) (sym g) (subst (λ (x : Subchannel). OffersBy x.state k) (sym e) o)

told : (new : Subchannel) (s : SubchannelState) (f : Option ProgramTrace → Option ProgramTrace) (k next : Option ProgramTrace) → new.state ≡ s → f k ≡ next → OffersBy s next → OffersBy new.state (f k)
told new s f k next e g o = subst (λ (x : Option ProgramTrace). OffersBy new.state x) (sym g) (subst (λ (x : SubchannelState). OffersBy x next) (sym e) o)

abbrev state-of : Subchannel → SubchannelState
state-of x = x.state

happens-offers : (storage : Contents) (old new : Subchannel) (u v : Option UnitState) (f : Option ProgramTrace → Option ProgramTrace) → IndexStep storage old new u v f → (k : Option ProgramTrace) →
    KeptBy old.state k → OffersBy old.state k → OffersBy new.state (f k)
happens-offers storage old new u v f (Stays e w g) k h o = same-offers old new f k e (g k) o
happens-offers storage old new u v f (Starts_with_orb orb e w g) k h o = told new (started old.state orb) f k k (ap state-of e) (g k) (started-offers old.state orb k o)
happens-offers storage old new u v f (Is_tested e w g) k h o = told new (tested_wholly old.state) f k k (ap state-of e) (g k) (tested-offers old.state k o)
happens-offers storage old new u v f (Is_resumed e w g) k h o =
    told new (resumed old.state) f k k (ap state-of e) (g k) (o.0, less-offered old.state (resumed old.state) k refl refl (inl refl) (inl refl) o.1)
happens-offers storage old new u v f (Is_halted e w g) k h o = told new (halted old.state) f k k (ap state-of e) (g k) (halted-offers old.state k o)
happens-offers storage old new u v f (Is_cleared e w g) k h o = told new (cleared old.state) f k k (ap state-of e) (g k) (gone-offers (cleared old.state) _ k refl (o.0.0, tt, tt, tt))
happens-offers storage old new u v f (Is_cancelled e w g) k h o =
    told new (cancelled old.state) f k k (ap state-of e) (g k)
    ((o.0.0, tt, o.0.2, tt), less-offered old.state (cancelled old.state) k refl refl (inr refl) (inr refl) o.1)
happens-offers storage old new u v f (Is_modified pmcw e w g) k h o =
    told new (record old.state { pmcw = pmcw }) f k k (ap state-of e) (g k) (o.0, less-offered old.state (record old.state { pmcw = pmcw }) k refl refl (inl refl) (inl refl) o.1)
happens-offers storage old new u v f (Is_chosen choice t x c e w g) k h o =
    let m : Subchannel = marked_sub old choice in
    told new t.sub.state f k (chosen_at (Some m) t.reply k) (ap state-of e) (g k)
    (subst (λ (r : Result SubResult Fault). IfOk r (λ t. OffersBy t.sub.state (chosen_at (Some m) t.reply k))) c
    (choose-offers m k (chosen old choice) x (chosen-by old choice o.0) (same-kept old.state m.state k refl refl refl refl refl h)
    (o.0, less-offered old.state m.state k refl refl (inl refl) (inl refl) o.1)))
happens-offers storage old new u v f (Meets path returns t c e w g) k h o =
    told new t.sub.state f k (met_at storage (Some old) path k) (ap state-of e) (g k) (up-offers returns storage old path t k c o)
happens-offers storage old new u v f (Sinks path may owed x t a c e w g) k h o =
    told new t.sub.state f k (taken_at t.reply k) (ap state-of e) (g k) (sunk-offers may old path x t k c o)
happens-offers storage old new u v f (Is_reported report x t a b c e w g) k h o =
    told new t.sub.state f k (reported_at (Some x) report k) (ap state-of e) (g k) (told-offers old x report t k c o)
happens-offers storage old new u v f (Other_sinks other path may owed x t a b c e w g) k h o = same-offers old new f k e (g k) o
happens-offers storage old new u v f (Other_reported other report x t a b c d e w g) k h o = same-offers old new f k e (g k) o
happens-offers storage old new u v f (Unit_acts x y sends is gentle quiet e w g) k h o = told new old.state f k k (ap state-of e) (g k) o
happens-offers storage old new u v f (Is_swept what e w g) k h o = told new (swept what old).state f k k (ap state-of e) (g k) (swept-offers what old k o)

-- after a run
opened-offers : (sub : Subchannel) (setup : SubchannelSetup) → opened setup ≡ sub → OffersBy sub.state None
opened-offers sub setup e = subst (λ (x : Subchannel). OffersBy x.state None) e ((omega arith, tt, tt, tt), tt)

pub run-offers : (laws : AreLaws) (accesses : AreAccesses) (setup : Setup) → IsLawful setup → (h : List Entry) (s : State) (run : Run (opening_of setup) h s) (index : ℕ) (sub : Subchannel) →
    slice_get s.subs index ≡ Some sub → OffersBy sub.state (trace index (opening_of setup) h s run)
run-offers laws accesses setup lawful _ _ Opened index sub e =
    let a : (s : SubchannelSetup) × (slice_get setup.subchannels index ≡ Some s) × (opened s ≡ sub) = map-get opened setup.subchannels index sub e in
    opened-offers sub a.0 a.2
run-offers laws accesses setup lawful _ _ (Stepped h old e r new run step) index sub at =
    let a = step-happens old (run-one-sided laws.walks setup lawful h old run) index e r new (laws.walks old e r new step) sub at in
    happens-offers old.storage a.0 sub (slice_get old.units a.0.setup.«unit») (slice_get new.units a.0.setup.«unit») (trace_after index old e r) a.3
    (trace index (opening_of setup) h old run) (run-held laws accesses setup lawful h old run index a.0 a.1) (run-offers laws accesses setup lawful h old run index a.0 a.1)
