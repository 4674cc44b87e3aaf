-- What the choosing of a path, and the taking of a signal, do to a subchannel.
use Rattle.std.proofs.Common.{◌≡◌, refl, ap, sym, ◌∙◌, subst, arith, ℕ, ◌+◌, ◌≤◌, Bool, true, false, List, [], ◌++◌, length, Option, Some, None, Result, Ok, Err, ◌&&◌}
use Rattle.std.specs.Prelude.{if◌then◌else◌, ◌==◌, not, nat_lt, slice_get, take, IfOk}
use Rattle.std.proofs.lemmas.List.Elements.{All-nil}
use Rattle.storage_keys.specs.Storage.{Contents}
use Rattle.chan_model.specs.declared.fault.Fault.{Fault}
use Rattle.chan_model.specs.declared.fault.Fault.TheVariants as fault
use Rattle.chan_model.specs.declared.hold_state.HoldPhase.{HoldPhase}
use Rattle.chan_model.specs.declared.hold_state.HoldPhase.TheVariants as hold
use Rattle.chan_model.specs.Signals.{Up, Down}
use Rattle.chan_model.specs.declared.signal.Up.TheVariants as up
use Rattle.chan_model.specs.declared.signal.Down.TheVariants as down
use Rattle.chan_model.specs.declared.signal.OnPath.{OnPath}
use Rattle.chan_events.specs.declared.reply.Entry.{Entry}
use Rattle.chan_events.specs.declared.reply.Reply.TheVariants as reply
use Rattle.chan_model.specs.Reports.{DeviceAnswer, Report}
use Rattle.chan_model.specs.declared.report.DeviceAnswer.TheVariants as answer
use Rattle.chan_model.specs.declared.unit_state.CurrentCommand.{CurrentCommand}
use Rattle.chan_model.specs.declared.unit_state.UnitState.{UnitState}
use Rattle.chan_model.specs.UnitTable as unit_table
use Rattle.chan_model.specs.UnitTable.{UnitStep, unit_takes}
use Rattle.chan_model.specs.UnitReports.{unit_reports}
use Rattle.channel_config.specs.declared.parts.SubchannelSetup.{SubchannelSetup}
use Rattle.channel_config.specs.Lawful.{IsLawful}
use Rattle.channel_config.specs.Setup.{Setup}
use Rattle.orb_block.specs.declared.Orb.{Orb}
use Rattle.ccw_walk.specs.Sequences.{Sequence, ◌▸◌}
use Rattle.ccw_walk.specs.Programs.{code}
use Rattle.chan_model.specs.HoldTable as hold_table
use Rattle.scsw_irb.specs.declared.status.DeviceStatus.{DeviceStatus}
use Rattle.chan_model.specs.HoldTable.{is_connected, is_on}
use Rattle.wires.specs.Queues.{queue}
use Rattle.subchannel_model.specs.Notice as on_notice
use Rattle.subchannel_model.specs.declared.state.ActiveProgram.{ActiveProgram}
use Rattle.subchannel_model.specs.declared.state.Chosen.{Chosen}
use Rattle.subchannel_model.specs.declared.state.Chosen.TheVariants.{Idle, Resets, PerformsClear, Halts, PerformsHalt, FindsNoPath, Offers}
use Rattle.subchannel_model.specs.declared.cause.StatusCause.TheVariants as cause
use Rattle.subchannel_model.specs.declared.state.ProgramPosition.{ProgramPosition}
use Rattle.subchannel_model.specs.declared.state.Program.{Program}
use Rattle.subchannel_model.specs.declared.state.Subchannel.{Subchannel}
use Rattle.subchannel_model.specs.declared.state.SubchannelState.{SubchannelState}
use Rattle.subchannel_model.specs.Choosing.{chosen, marked_sub, reset_sent, halt_sent, offered}
use Rattle.subchannel_model.specs.Causes.{without_waiting, with_cause}
use Rattle.subchannel_model.specs.Resume.{resumed}
use Rattle.subchannel_model.specs.Halt.{halt_begun, drops_status, status_dropped, halted}
use Rattle.subchannel_model.specs.Clear.{cleared}
use Rattle.subchannel_model.specs.Cancel.{cancelled}
use Rattle.subchannel_model.specs.Test.{ends_suspended, tested_wholly, tested}
use Rattle.subchannel_model.specs.Programs.{without_programs, has_any}
use Rattle.subchannel_model.specs.Start.{started}
use Rattle.machine_model.specs.State.{State, opening_of}
use Rattle.subchannel_model.specs.Opening.{opened}
use Rattle.subchannel_model.specs.Taking.{takes_up}
use Rattle.subchannel_model.specs.Outcomes.{hold_outcome}
use Rattle.subchannel_model.specs.Outcomes as outcomes
use Rattle.subchannel_model.specs.Attention as on_attention
use Rattle.subchannel_model.specs.Accept.{takes_device}
use Rattle.subchannel_model.specs.Accept as on_accept
use Rattle.subchannel_model.specs.Back as on_back
use Rattle.subchannel_model.specs.Data as on_data
use Rattle.subchannel_model.specs.End as on_end
use Rattle.subchannel_model.specs.Cleared.{takes_cleared}
use Rattle.machine_model.specs.Results.{SubResult, UpResult, DownResult}
use Rattle.subchannel_model.specs.Sending.{carried_by, finds_full}
use Rattle.machine_model.specs.ChooseSteps.{choose_sub}
use Rattle.machine_model.specs.UpSteps.{up_front, up_sub}
use Rattle.machine_model.specs.DownSteps.{down_front, down_sub}
use Rattle.machine_model.specs.ReportSteps.{report_taken, report_sub}
use Rattle.machine_model.specs.Steps.{Run, Opened, Stepped}
use Rattle.subchannel_model.specs.Losing.{is_offered_or_held, reset_with, reset_for}
use Rattle.subchannel_model.specs.SystemReset.{state_reset}
use Rattle.machine_model.specs.declared.state.Sweep.{Sweep}
use Rattle.machine_model.specs.PathSteps.{swept}
use Rattle.step_laws.specs.Walks.{IsFound, Suits}
use Rattle.run_laws.proofs.Machine.TraceEvents.{reset-phase}
use Rattle.run_laws.specs.Traces as traced
use Rattle.run_laws.specs.ProgramClaims.{IsCopied}
use Rattle.run_laws.specs.Traces.{ProgramTrace, chosen_at, taken_at, absorbs, reported_at, offered_for, resumed_for, takes, reported}
use Rattle.run_laws.proofs.Traces.MachineTraces.{met_with, met_at, trace, trace_after}
use Rattle.run_laws.proofs.Traces.Turns.{IndexStep, Stays, Starts_with_orb, Is_tested, Is_resumed, Is_halted, Is_cleared, Is_cancelled, Is_modified, Is_chosen, Meets, Sinks, Is_reported, Other_sinks, Other_reported, Unit_acts, Is_swept, step-happens}
use Rattle.run_laws.proofs.Bytes.Accesses.{AreAccesses}
use Rattle.run_laws.proofs.Traces.Ties.{AreLaws}
use Rattle.run_laws.proofs.Traces.Holds.{IsPhase, IsDrawn, HasWork, IsStanding, IsHeld, IsUnheld, IsUntold, HeldBy, done-held, none-begun, none-stands, without-held, nothing-done, past-done}
use Rattle.run_laws.proofs.Traces.HoldMeets.{reset-held, signal-held}
use Rattle.run_laws.proofs.Bytes.Copies.{AreCopied, meets-copied}
use Rattle.run_laws.proofs.Units.RunSides.{run-one-sided}
use Rattle.run_laws.proofs.Units.UnitActs.{if-ok}
use Rattle.run_laws.proofs.Links.Vanishing.{send-ok}
use Rattle.run_laws.proofs.Traces.Sweeps.{swept-kept}
use Rattle.step_laws.proofs.Indices.{map-get}

-- what is kept of its program, and what was copied for it
abbrev pub IsKept : SubchannelState → ProgramTrace → Type 0
IsKept s k = IsHeld s k × AreCopied k

abbrev pub KeptBy : SubchannelState → Option ProgramTrace → Type 0
KeptBy s None = IsUntold s
KeptBy s (Some k) = IsKept s k

pub kept-held : (s : SubchannelState) (k : Option ProgramTrace) → KeptBy s k → HeldBy s k
kept-held s None h = h
kept-held s (Some k) h = h.0

-- none is suspended beside one that waits, as an offer is made of it
waiting-alone : (w : Option Program) (b : Option ActiveProgram) (st : Option ProgramPosition) (program : Program) (k : ProgramTrace) → w ≡ Some program → IsStanding w b st k → st ≡ None
waiting-alone w b None program k e x = refl
waiting-alone w b (Some st) program k e x = absurd (cc (sym e ∙ x.0))

pub alone-kept : (s : SubchannelState) (program : Program) (k : Option ProgramTrace) → s.waiting ≡ Some program → KeptBy s k → s.suspended ≡ None
alone-kept s program None e h = h.suspended
alone-kept s program (Some k) e h = waiting-alone s.waiting s.begun s.suspended program k e h.0.standing

offered-held : (s : SubchannelState) (program : Program) (path : ℕ) → s.begun ≡ None → s.suspended ≡ None →
    IsKept (offered s program path) (traced.trace_offered (s.drawn + 1) program.orb)
offered-held s program path z e = (
  record {
    number = omega arith;
    phase = (refl, z, refl);
    drawn = tt;
    work = subst (λ (b : Option ActiveProgram). HasWork b (traced.trace_offered (s.drawn + 1) program.orb)) (sym z) (nothing-done program.orb);
    standing = none-stands s.waiting s.begun s.suspended (traced.trace_offered (s.drawn + 1) program.orb) e;
  },
  (All-nil IsCopied, All-nil IsCopied),
)

resumed-stands : (w : Option Program) (b : Option ActiveProgram) (st : Option ProgramPosition) (t : ℕ) (k : ProgramTrace) → IsStanding w b st k → IsStanding w b st (traced.trace_resumed t k)
resumed-stands w b None t k x = tt
resumed-stands w b (Some st) t k x = x

resumed-held : (s : SubchannelState) (program : Program) (path : ℕ) (st : ProgramPosition) (k : Option ProgramTrace) → s.begun ≡ None → s.suspended ≡ Some st → KeptBy s k →
    KeptBy (offered s program path) (resumed_for (s.drawn + 1) k)
resumed-held s program path st None z e h = absurd (cc (sym h.suspended ∙ e))
resumed-held s program path st (Some k) z e h = (
  record {
    number = omega arith;
    phase = (refl, z, refl);
    drawn = tt;
    work = subst (λ (b : Option ActiveProgram). HasWork b (traced.trace_resumed (s.drawn + 1) k)) (sym z) (past-done k.orb k.now (done-held s k h.0));
    standing = resumed-stands s.waiting s.begun s.suspended (s.drawn + 1) k h.0.standing;
  },
  (All-nil IsCopied, All-nil IsCopied),
)

found-held : (sub : Subchannel) (program : Program) (path : ℕ) (resumes : Bool) (k : Option ProgramTrace) → sub.state.begun ≡ None →
    IsFound sub.state.waiting sub.state.suspended resumes program → KeptBy sub.state k →
    KeptBy (offered sub.state program path) (chosen_at (Some sub) (reply.Offered (sub.state.drawn + 1) path resumes) k)
found-held sub program path false k z f h =
    subst (λ (w : Option Program). KeptBy (offered sub.state program path) (offered_for w (sub.state.drawn + 1) k)) (sym f)
    (offered-held sub.state program path z (alone-kept sub.state program k f h))
found-held sub program path true k z f h = resumed-held sub.state program path f.0 k z f.1 h

-- a change of nothing that is told of
pub same-kept : (s u : SubchannelState) (k : Option ProgramTrace) → u.hold.phase ≡ s.hold.phase → u.drawn ≡ s.drawn → u.begun ≡ s.begun → u.waiting ≡ s.waiting →
    u.suspended ≡ s.suspended → KeptBy s k → KeptBy u k
same-kept s u None e d b w q h = record {
  phase = subst (λ (x : HoldPhase). IsUnheld x u.drawn) (sym e) (subst (λ (n : ℕ). IsUnheld s.hold.phase n) (sym d) h.phase);
  begun = b ∙ h.begun;
  suspended = q ∙ h.suspended;
}
same-kept s u (Some k) e d b w q h = (
  record {
    number = subst (λ (n : ℕ). k.number ≤ n) (sym d) h.0.number;
    phase =
        subst (λ (x : HoldPhase). IsPhase x k.number u.begun k.sent) (sym e)
        (subst (λ (x : Option ActiveProgram). IsPhase s.hold.phase k.number x k.sent) (sym b) h.0.phase);
    drawn = subst (λ (x : HoldPhase). IsDrawn x u.drawn) (sym e) (subst (λ (n : ℕ). IsDrawn s.hold.phase n) (sym d) h.0.drawn);
    work = subst (λ (x : Option ActiveProgram). HasWork x k) (sym b) h.0.work;
    standing =
        subst (λ (x : Option Program). IsStanding x u.begun u.suspended k) (sym w)
        (subst (λ (x : Option ActiveProgram). IsStanding s.waiting x u.suspended k) (sym b)
        (subst (λ (x : Option ProgramPosition). IsStanding s.waiting s.begun x k) (sym q) h.0.standing));
  },
  h.1,
)

-- all programs are over
without-kept : (s : SubchannelState) (k : Option ProgramTrace) → KeptBy s k → KeptBy (without_programs s) k
without-kept s None h = record { phase = h.phase; begun = refl; suspended = refl }
without-kept s (Some k) h = (without-held s k h.0, h.1)

-- the one that waits is, or where none does the one that is suspended
over-kept : (s : SubchannelState) (w : Option Program) (k : Option ProgramTrace) → s.waiting ≡ w → KeptBy s k → KeptBy (without_waiting w s) k
over-kept s None None e h = record { phase = h.phase; begun = h.begun; suspended = refl }
over-kept s None (Some k) e h = (record { number = h.0.number; phase = h.0.phase; drawn = h.0.drawn; work = h.0.work; standing = tt }, h.1)
over-kept s (Some program) None e h = record { phase = h.phase; begun = h.begun; suspended = h.suspended }
over-kept s (Some program) (Some k) e h = (
  record {
    number = h.0.number;
    phase = h.0.phase;
    drawn = h.0.drawn;
    work = h.0.work;
    standing = none-stands None s.begun s.suspended k (waiting-alone s.waiting s.begun s.suspended program k e h.0.standing);
  },
  h.1,
)

choose-held : (sub : Subchannel) (k : Option ProgramTrace) (c : Chosen) → Suits c sub.state → KeptBy sub.state k →
    IfOk (choose_sub sub c) (λ t. KeptBy t.sub.state (chosen_at (Some sub) t.reply k))
choose-held sub k Idle o h = h
choose-held sub k (Resets r path) o h =
    send-ok (λ t. KeptBy t.sub.state (chosen_at (Some sub) t.reply k)) sub (reset_sent sub.state path) path
    (down.Reset r sub.state.hold.known_restarts) (reply.ResetSent r path)
    (same-kept sub.state (reset_sent sub.state path) k (reset-phase sub.state.hold sub.state.hold.phase path) refl refl refl refl h)
choose-held sub k PerformsClear o h = same-kept sub.state (with_cause sub.state cause.ClearDone) k refl refl refl refl refl h
choose-held sub k (Halts t path) o h =
    send-ok (λ t. KeptBy t.sub.state (chosen_at (Some sub) t.reply k)) sub (halt_sent sub.state) path (down.Halt t) (reply.HaltSent t path)
    (same-kept sub.state (halt_sent sub.state) k refl refl refl refl refl h)
choose-held sub k PerformsHalt o h =
    same-kept (without_programs sub.state) (with_cause sub.state cause.HaltDone) k refl refl refl refl refl (without-kept sub.state k h)
choose-held sub k FindsNoPath o h =
    same-kept (without_waiting sub.state.waiting sub.state) (with_cause sub.state cause.NoPath) k refl refl refl refl refl (over-kept sub.state sub.state.waiting k refl h)
choose-held sub k (Offers c path) o h =
    send-ok (λ t. KeptBy t.sub.state (chosen_at (Some sub) t.reply k)) sub (offered sub.state c.program path) path
    (down.Select (sub.state.drawn + 1)) (reply.Offered (sub.state.drawn + 1) path c.resumes)
    (found-held sub c.program path c.resumes k (none-begun sub.state k (kept-held sub.state k h) o.fits) o.found h)

pub chosen-held : (sub : Subchannel) (k : Option ProgramTrace) (c : Chosen) (t : SubResult) → Suits c sub.state → choose_sub sub c ≡ Ok t →
    KeptBy sub.state k → KeptBy t.sub.state (chosen_at (Some sub) t.reply k)
chosen-held sub k c t f e h =
    subst (λ (r : Result SubResult Fault). IfOk r (λ t. KeptBy t.sub.state (chosen_at (Some sub) t.reply k))) e (choose-held sub k c f h)

-- the unit's doings leave it
untaken-held : (s : SubchannelState) (k : ProgramTrace) (taken : Sequence ℕ) (absorbed : List ℕ) → IsKept s k → IsKept s (record k { taken = taken; absorbed = absorbed })
untaken-held s k taken absorbed h = (
  record { number = h.0.number; phase = h.0.phase; drawn = h.0.drawn; work = work s.begun h.0.work; standing = stands s.waiting s.begun s.suspended h.0.standing },
  h.1,
)
  where
    stands : (w : Option Program) (b : Option ActiveProgram) (st : Option ProgramPosition) → IsStanding w b st k → IsStanding w b st (record k { taken = taken; absorbed = absorbed })
    stands w b None x = tt
    stands w b (Some st) x = x

    work : (b : Option ActiveProgram) → HasWork b k → HasWork b (record k { taken = taken; absorbed = absorbed })
    work None w = w
    work (Some b) w = w

takes-if : (s : SubchannelState) (k : ProgramTrace) (code : ℕ) (b : Bool) → IsKept s k → IsKept s (if b then record k { taken = k.taken ▸ code; absorbed = [] } else k)
takes-if s k code true h = untaken-held s k (k.taken ▸ code) [] h
takes-if s k code false h = h

takes-held : (s : SubchannelState) (d : Down) (k : ProgramTrace) → IsKept s k → IsKept s (takes d k)
takes-held s (down.Command t n code room) k h = takes-if s k code (t == k.number) h
takes-held s d k h = h

taken-held : (s : SubchannelState) (d : Down) (outcome : Bool) (sent : Option (OnPath Up)) (k : Option ProgramTrace) → KeptBy s k → KeptBy s (taken_at (reply.Down d outcome sent) k)
taken-held s d false sent k h = h
taken-held s d true (Some x) k h = h
taken-held s d true None None h = h
taken-held s d true None (Some k) h = takes-held s d k h

down_front-held : (may : Bool) → (sub : Subchannel) (path : ℕ) (u : UnitState) (front : Option Down) (k : Option ProgramTrace) → KeptBy sub.state k →
    IfOk (down_front may sub path u front) (λ t. KeptBy t.sub.state (taken_at t.reply k))
down_front-held may sub path u None k h = tt
down_front-held may sub path u (Some d) k h =
    let step : Option UnitStep = unit_takes u sub.setup.side path d may in
    if-ok (λ t. KeptBy t.sub.state (taken_at t.reply k)) (finds_full sub.wires.up (carried_by sub (unit_table.outcome_of step).sent)) (Err fault.WireFull) _ tt
    (taken-held sub.state d (unit_table.outcome_of step).taken (unit_table.outcome_of step).sent k h)

pub sunk-held : (may : Bool) → (sub : Subchannel) (path : ℕ) (u : UnitState) (t : DownResult) (k : Option ProgramTrace) → down_sub may sub path u ≡ Ok t → KeptBy sub.state k → KeptBy t.sub.state (taken_at t.reply k)
sunk-held may sub path u t k e h =
    subst (λ (r : Result DownResult Fault). IfOk r (λ t. KeptBy t.sub.state (taken_at t.reply k))) e
    (if-ok (λ t. KeptBy t.sub.state (taken_at t.reply k)) (nat_lt path (length sub.setup.paths)) (down_front may sub path u (slice_get (queue sub.wires.down path) 0)) (Err fault.NoSuchPath)
    (down_front-held may sub path u (slice_get (queue sub.wires.down path) 0) k h) tt)

absorbs-held : (s : SubchannelState) (count : ℕ) (x : Option CurrentCommand) (k : ProgramTrace) → IsKept s k → IsKept s (absorbs count x k)
absorbs-held s count None k h = h
absorbs-held s count (Some x) k h = by x.unabsorbed
  where
    by : (bytes : Option (List ℕ)) → IsKept s (absorbs count (Some (record x { unabsorbed = bytes })) k)
    by None = h
    by (Some bytes) = untaken-held s k k.taken (k.absorbed ++ take count bytes) h

report-if : (s : SubchannelState) (count : ℕ) (x : Option CurrentCommand) (k : ProgramTrace) (b : Bool) → IsKept s k → IsKept s (if b then absorbs count x k else k)
report-if s count x k true h = absorbs-held s count x k h
report-if s count x k false h = h

reported-held : (s : SubchannelState) (u : UnitState) (report : Report) (a : DeviceAnswer) (k : ProgramTrace) → IsKept s k → IsKept s (reported u report a k)
reported-held s u report (answer.Absorbed count) k h = report-if s count u.current k (report.number == k.number) h
reported-held s u report other k h = h

reported_at-held : (s : SubchannelState) (u : UnitState) (report : Report) (k : Option ProgramTrace) → KeptBy s k → KeptBy s (reported_at (Some u) report k)
reported_at-held s u report None h = h
reported_at-held s u report (Some k) h = reported-held s u report report.answer k h

report_taken-held : (sub : Subchannel) (u : UnitState) (report : Report) (step : Option UnitStep) (k : Option ProgramTrace) → KeptBy sub.state k →
    IfOk (report_taken sub step) (λ t. KeptBy t.sub.state (reported_at (Some u) report k))
report_taken-held sub u report None k h = tt
report_taken-held sub u report (Some step) k h =
    if-ok (λ t. KeptBy t.sub.state (reported_at (Some u) report k)) (finds_full sub.wires.up (carried_by sub step.sent)) (Err fault.WireFull) _ tt (reported_at-held sub.state u report k h)

pub told-held : (sub : Subchannel) (u : UnitState) (report : Report) (t : DownResult) (k : Option ProgramTrace) → report_sub sub u report ≡ Ok t → KeptBy sub.state k →
    KeptBy t.sub.state (reported_at (Some u) report k)
told-held sub u report t k e h =
    subst (λ (r : Result DownResult Fault). IfOk r (λ t. KeptBy t.sub.state (reported_at (Some u) report k))) e (report_taken-held sub u report (unit_reports u report) k h)

-- no signal tells of a program where none was offered
reset-untold : (s : SubchannelState) (shows : Bool) → IsUntold s → IsUntold (reset_with s shows)
reset-untold s true u = record { phase = omega arith; begun = refl; suspended = refl }
reset-untold s false u = record { phase = omega arith; begun = u.begun; suspended = u.suspended }

noticed-untold : (s : SubchannelState) (c : ℕ) (b : Bool) → IsUntold s → IsUntold (if b then outcomes.signal_taken (reset_for (on_notice.with_known s c)) else outcomes.signal_ignored s).state
noticed-untold s c true u =
    reset-untold (on_notice.with_known s c) (is_offered_or_held s.hold.phase && has_any s.waiting s.begun s.suspended) (record { phase = u.phase; begun = u.begun; suspended = u.suspended })
noticed-untold s c false u = u

pub unheld-by : (P : HoldPhase → Type 0) (phase : HoldPhase) (drawn : ℕ) → IsUnheld phase drawn → P hold.Free → ((r : ℕ) → P (hold.Reset r)) → P phase
unheld-by P hold.Free drawn u x y = x
unheld-by P (hold.Reset r) drawn u x y = y r
unheld-by P other drawn u x y = absurd u

freed-if : (s : SubchannelState) (b : Bool) → IsUntold s → IsUntold (if b then with_cause s cause.ClearDone else s)
freed-if s true u = record { phase = u.phase; begun = u.begun; suspended = u.suspended }
freed-if s false u = u

cleared-if : (s : SubchannelState) (b : Bool) → IsUntold s →
    IsUntold (takes_cleared s (if b then Some (hold_table.hold_quietly (record s.hold { phase = hold.Free; reset_path = None })) else None)).state
cleared-if s true u =
    freed-if (record s { hold = record s.hold { phase = hold.Free; reset_path = None } }) s.scsw.activity.clear_pending
    (record { phase = tt; begun = u.begun; suspended = u.suspended })
cleared-if s false u = u

attention-untold : (s : SubchannelState) (shows : Bool) → IsUntold s → IsUntold (on_attention.with_attention s shows)
attention-untold s true u = record { phase = u.phase; begun = u.begun; suspended = u.suspended }
attention-untold s false u = u

attended-untold : (s : SubchannelState) (p a : ℕ) (status : DeviceStatus) (may : Bool) → IsUntold s →
    IsUntold (on_attention.takes_attention s status (hold_table.attended s.hold hold.Free p a may)).state
attended-untold s p a status true u = attention-untold s (not (status.0 == 0x20)) u
attended-untold s p a status false u = u

module _ (laws : AreLaws) (accesses : AreAccesses) where
  -- nothing changes, where the hold is free or to be reset
  abbrev unmet : (s : SubchannelState) (f : HoldPhase → SubchannelState) → IsUntold s → IsUntold (f hold.Free) → ((r : ℕ) → IsUntold (f (hold.Reset r))) → IsUntold (f s.hold.phase)
  unmet s f u x y = unheld-by (λ phase. IsUntold (f phase)) s.hold.phase s.drawn u.phase x y

  pub untold-met : (returns : Bool) → (storage : Contents) (s : SubchannelState) (p : ℕ) (signal : Up) → IsUntold s → IsUntold (takes_up returns storage s p signal).step.state
  untold-met returns storage s p (up.Accept t) u = unmet s (λ x. (on_accept.takes_accept storage s (hold_table.offer_accepted s.hold x t (takes_device s))).state) u u (λ r. u)
  untold-met returns storage s p (up.Busy t) u = unmet s (λ x. (hold_outcome s (hold_table.found_busy s.hold x t)).state) u u (λ r. u)
  untold-met returns storage s p (up.Leave t c) u = unmet s (λ x. (hold_outcome s (hold_table.left s.hold x t c)).state) u u (λ r. u)
  untold-met returns storage s p (up.Back t c) u = unmet s (λ x. (on_back.takes_back s p (hold_table.asked_back s.hold x p t c returns)).state) u u (λ r. u)
  untold-met returns storage s p (up.Data load t c n seq) u =
      unmet s (λ x. (if is_connected x p t c then on_data.moves_data storage s s.begun (record { path = p; number = t; connection = c; command = n; sequence = seq }) load else outcomes.with_storage storage (outcomes.signal_ignored s)).step.state) u u (λ r. u)
  untold-met returns storage s p (up.End t n status more) u =
      unmet s (λ x. (if is_on x t then on_end.ends_at_work storage s s.begun (record { path = p; number = t; command = n; status = status; more = more }) else outcomes.signal_ignored s).state) u u (λ r. u)
  untold-met returns storage s p (up.Released t) u = unmet s (λ x. (hold_outcome s (hold_table.released s.hold x t)).state) u u (λ r. u)
  untold-met returns storage s p (up.Cleared r) u = unmet s (λ x. (takes_cleared s (hold_table.reset_cleared s.hold x r)).state) u u (λ q. cleared-if s (r == q) u)
  untold-met returns storage s p (up.Notice b) u = noticed-untold s b (nat_lt s.hold.known_restarts b) u
  untold-met returns storage s p (up.Attn a status) u =
      unmet s (λ x. (on_attention.takes_attention s status (hold_table.attended s.hold x p a (on_attention.may_take_attention s))).state) u
      (attended-untold s p a status (on_attention.may_take_attention s) u) (λ r. u)

  any-met : (returns : Bool) → (storage : Contents) (s : SubchannelState) (p : ℕ) (signal : Up) (k : Option ProgramTrace) → KeptBy s k → KeptBy (takes_up returns storage s p signal).step.state (met_with storage s p (Some signal) k)
  any-met returns storage s p signal None h = untold-met returns storage s p signal h
  any-met returns storage s p signal (Some k) h = (signal-held laws accesses returns storage s p signal k h.0, meets-copied accesses storage s p signal k h.1)

  up_front-held : (returns : Bool) → (storage : Contents) (sub : Subchannel) (path : ℕ) (front : Option Up) (k : Option ProgramTrace) → KeptBy sub.state k →
      IfOk (up_front returns storage sub path front) (λ t. KeptBy t.sub.state (met_with storage sub.state path front k))
  up_front-held returns storage sub path None k h = tt
  up_front-held returns storage sub path (Some signal) k h =
      if-ok (λ t. KeptBy t.sub.state (met_with storage sub.state path (Some signal) k)) (finds_full sub.wires.down (carried_by sub (takes_up returns storage sub.state path signal).step.outcome.sent)) (Err fault.WireFull) _ tt
      (any-met returns storage sub.state path signal k h)

  pub met-held : (returns : Bool) → (storage : Contents) (sub : Subchannel) (path : ℕ) (t : UpResult) (k : Option ProgramTrace) → up_sub returns storage sub path ≡ Ok t → KeptBy sub.state k →
      KeptBy t.sub.state (met_at storage (Some sub) path k)
  met-held returns storage sub path t k e h =
      subst (λ (r : Result UpResult Fault). IfOk r (λ t. KeptBy t.sub.state (met_at storage (Some sub) path k))) e
      (if-ok (λ t. KeptBy t.sub.state (met_at storage (Some sub) path k)) (nat_lt path (length sub.setup.paths)) (up_front returns storage sub path (slice_get (queue sub.wires.up path) 0)) (Err fault.NoSuchPath)
      (up_front-held returns storage sub path (slice_get (queue sub.wires.up path) 0) k h) tt)

  -- whatever happens
  same-held : (old new : Subchannel) (f : Option ProgramTrace → Option ProgramTrace) (k : Option ProgramTrace) → new ≡ old → f k ≡ k → KeptBy old.state k → KeptBy new.state (f k)
  same-held old new f k e g h = subst (λ (x : Option ProgramTrace). KeptBy new.state x) (sym g) (subst (λ (x : Subchannel). KeptBy x.state k) (sym e) h)

  -- an instruction
  started-held : (s : SubchannelState) (orb : Orb) (k : Option ProgramTrace) → KeptBy s k → KeptBy (started s orb) k
  started-held s orb None h = record { phase = h.phase; begun = h.begun; suspended = refl }
  started-held s orb (Some k) h = (record { number = h.0.number; phase = h.0.phase; drawn = h.0.drawn; work = h.0.work; standing = tt }, h.1)

  tested-held : (s : SubchannelState) (k : Option ProgramTrace) → KeptBy s k → KeptBy (tested_wholly s) k
  tested-held s k h = by (ends_suspended s.scsw)
    where
      by : (b : Bool) → KeptBy (if b then without_programs (tested s) else tested s) k
      by true = same-kept (without_programs s) (without_programs (tested s)) k refl refl refl refl refl (without-kept s k h)
      by false = same-kept s (tested s) k refl refl refl refl refl h

  halted-kept : (s : SubchannelState) (k : Option ProgramTrace) → KeptBy s k → KeptBy (halted s) k
  halted-kept s k h = by (drops_status s.scsw)
    where
      by : (b : Bool) → KeptBy (if b then status_dropped (halt_begun s) else halt_begun s) k
      by true = same-kept s (status_dropped (halt_begun s)) k refl refl refl refl refl h
      by false = same-kept s (halt_begun s) k refl refl refl refl refl h

  cleared-kept : (s : SubchannelState) (k : Option ProgramTrace) → KeptBy s k → KeptBy (cleared s) k
  cleared-kept s None h = record { phase = omega arith; begun = refl; suspended = refl }
  cleared-kept s (Some k) h =
      let n : k.number ≤ s.drawn = h.0.number in (
        record { number = omega (arith, n); phase = (refl, omega (arith, n)); drawn = omega arith; work = done-held s k h.0; standing = tt },
        h.1,
      )

  cancelled-held : (s : SubchannelState) (k : Option ProgramTrace) → KeptBy s k → KeptBy (cancelled s) k
  cancelled-held s None h = record { phase = h.phase; begun = h.begun; suspended = refl }
  cancelled-held s (Some k) h = (record { number = h.0.number; phase = h.0.phase; drawn = h.0.drawn; work = h.0.work; standing = tt }, h.1)

  -- a path is lost, or all is reset
  reset-kept : (s : SubchannelState) (k : Option ProgramTrace) → KeptBy s k → KeptBy (reset_for s) k
  reset-kept s None h = reset-untold s (is_offered_or_held s.hold.phase && has_any s.waiting s.begun s.suspended) h
  reset-kept s (Some k) h = (reset-held laws accesses s k (is_offered_or_held s.hold.phase && has_any s.waiting s.begun s.suspended) refl h.0, h.1)

  swept-held : (what : Sweep) (x : Subchannel) (k : Option ProgramTrace) → KeptBy x.state k → KeptBy (swept what x).state k
  swept-held what x k h =
      swept-kept x (λ y. KeptBy y.state k) (λ y path up g. same-kept y.state _ k refl refl refl refl refl g) (λ path g. g)
      (λ wires g. reset-kept x.state k g)
      (λ g. same-kept (cleared x.state) (state_reset x.state) k refl refl refl refl refl (cleared-kept x.state k g)) what h

  told : (new : Subchannel) (s : SubchannelState) (f : Option ProgramTrace → Option ProgramTrace) (k next : Option ProgramTrace) → new.state ≡ s → f k ≡ next → KeptBy s next → KeptBy new.state (f k)
  told new s f k next e g h = subst (λ (x : Option ProgramTrace). KeptBy new.state x) (sym g) (subst (λ (x : SubchannelState). KeptBy x next) (sym e) h)

  abbrev state-of : Subchannel → SubchannelState
  state-of x = x.state

  pub happens-held : (storage : Contents) (old new : Subchannel) (u v : Option UnitState) (f : Option ProgramTrace → Option ProgramTrace) → IndexStep storage old new u v f → (k : Option ProgramTrace) →
      KeptBy old.state k → KeptBy new.state (f k)
  happens-held storage old new u v f (Stays e w g) k h = same-held old new f k e (g k) h
  happens-held storage old new u v f (Starts_with_orb orb e w g) k h = told new (started old.state orb) f k k (ap state-of e) (g k) (started-held old.state orb k h)
  happens-held storage old new u v f (Is_tested e w g) k h = told new (tested_wholly old.state) f k k (ap state-of e) (g k) (tested-held old.state k h)
  happens-held storage old new u v f (Is_resumed e w g) k h =
      told new (resumed old.state) f k k (ap state-of e) (g k) (same-kept old.state (resumed old.state) k refl refl refl refl refl h)
  happens-held storage old new u v f (Is_halted e w g) k h = told new (halted old.state) f k k (ap state-of e) (g k) (halted-kept old.state k h)
  happens-held storage old new u v f (Is_cleared e w g) k h = told new (cleared old.state) f k k (ap state-of e) (g k) (cleared-kept old.state k h)
  happens-held storage old new u v f (Is_cancelled e w g) k h = told new (cancelled old.state) f k k (ap state-of e) (g k) (cancelled-held old.state k h)
  happens-held storage old new u v f (Is_modified pmcw e w g) k h = told new (record old.state { pmcw = pmcw }) f k k (ap state-of e) (g k)
      (same-kept old.state (record old.state { pmcw = pmcw }) k refl refl refl refl refl h)
  happens-held storage old new u v f (Is_chosen choice t x c e w g) k h =
      let m : Subchannel = marked_sub old choice in
      told new t.sub.state f k (chosen_at (Some m) t.reply k) (ap state-of e) (g k)
      (chosen-held m k (chosen old choice) t x c (same-kept old.state m.state k refl refl refl refl refl h))
  happens-held storage old new u v f (Meets path returns t c e w g) k h =
      told new t.sub.state f k (met_at storage (Some old) path k) (ap state-of e) (g k) (met-held returns storage old path t k c h)
  happens-held storage old new u v f (Sinks path may owed x t a c e w g) k h =
      told new t.sub.state f k (taken_at t.reply k) (ap state-of e) (g k) (sunk-held may old path x t k c h)
  happens-held storage old new u v f (Is_reported report x t a b c e w g) k h =
      told new t.sub.state f k (reported_at (Some x) report k) (ap state-of e) (g k) (told-held old x report t k c h)
  happens-held storage old new u v f (Other_sinks other path may owed x t a b c e w g) k h = same-held old new f k e (g k) h
  happens-held storage old new u v f (Other_reported other report x t a b c d e w g) k h = same-held old new f k e (g k) h
  happens-held storage old new u v f (Unit_acts x y sends is gentle quiet e w g) k h = told new old.state f k k (ap state-of e) (g k) h
  happens-held storage old new u v f (Is_swept what e w g) k h = told new (swept what old).state f k k (ap state-of e) (g k) (swept-held what old k h)

  -- after a run
  free-untold : (sub : Subchannel) (setup : SubchannelSetup) → opened setup ≡ sub → IsUntold sub.state
  free-untold sub setup e = subst (λ (x : Subchannel). IsUntold x.state) e (record { phase = tt; begun = refl; suspended = refl })

  pub run-held : (setup : Setup) → IsLawful setup → (h : List Entry) (s : State) (run : Run (opening_of setup) h s) (index : ℕ) (sub : Subchannel) → slice_get s.subs index ≡ Some sub →
      KeptBy sub.state (trace index (opening_of setup) h s run)
  run-held setup lawful _ _ Opened index sub e =
      let a : (s : SubchannelSetup) × (slice_get setup.subchannels index ≡ Some s) × (opened s ≡ sub) = map-get opened setup.subchannels index sub e in
      free-untold sub a.0 a.2
  run-held setup lawful _ _ (Stepped h old e r new run step) index sub at =
      let a = step-happens old (run-one-sided laws.walks setup lawful h old run) index e r new (laws.walks old e r new step) sub at in
      happens-held old.storage a.0 sub (slice_get old.units a.0.setup.«unit») (slice_get new.units a.0.setup.«unit») (trace_after index old e r) a.3
      (trace index (opening_of setup) h old run) (run-held setup lawful h old run index a.0 a.1)
