-- The addresses and counts of status that the program's device does not bring: of a halt and a clear that are performed, of attention, of an
-- interface-control check, and of a program that finds no path.
use Rattle.std.proofs.Common.{◌≡◌, refl, ap, subst, arith, ℕ, ◌+◌, ◌<◌, Bool, true, false, List, ◌∷◌, Option, None, Some, Result, Ok}
use Rattle.std.specs.Prelude.{if◌then◌else◌, ◌&&◌, ◌||◌, ◌==◌, not, is_none, is_some, unwrap_or, IfOk, IfSome}
use Rattle.allegiance.specs.PathUse.{reachable_paths}
use Rattle.chan_model.specs.PathSets.{is_any}
use Rattle.chan_model.specs.declared.fault.Fault.{Fault}
use Rattle.chan_model.specs.declared.hold_state.HoldPhase.{HoldPhase}
use Rattle.chan_model.specs.declared.hold_state.HoldPhase.TheVariants as hold
use Rattle.chan_model.specs.declared.signal.Down.TheVariants as down
use Rattle.chan_model.specs.HoldTable as hold_table
use Rattle.chan_model.specs.HoldTable.{HoldStep}
use Rattle.chan_events.specs.declared.reply.Reply.TheVariants as reply
use Rattle.ccw_walk.specs.Positions.{WalkPosition}
use Rattle.data_move.specs.Moving.{residual}
use Rattle.scsw_irb.specs.declared.scsw.Scsw.{Scsw}
use Rattle.scsw_irb.specs.declared.status.DeviceStatus.{DeviceStatus}
use Rattle.subchannel_model.specs.declared.cause.StatusCause.TheVariants as cause
use Rattle.subchannel_model.specs.declared.state.ActiveProgram.{ActiveProgram}
use Rattle.subchannel_model.specs.declared.state.Candidate.{Candidate}
use Rattle.subchannel_model.specs.declared.state.Chosen.{Chosen}
use Rattle.subchannel_model.specs.declared.state.Chosen.TheVariants.{Idle, Resets, PerformsClear, Halts, PerformsHalt, FindsNoPath, Offers}
use Rattle.subchannel_model.specs.declared.state.Program.{Program}
use Rattle.subchannel_model.specs.declared.state.ProgramPosition.{ProgramPosition}
use Rattle.subchannel_model.specs.declared.state.Subchannel.{Subchannel}
use Rattle.subchannel_model.specs.declared.state.SubchannelState.{SubchannelState}
use Rattle.subchannel_model.specs.Causes.{attention_shown, address_shown, count_shown, of_program, interface_shown, no_path_shown, plain_shown, program_shown, with_cause, without_waiting, clear_function_alone, scsw_joined, without_intermediate, program_count, with_row}
use Rattle.subchannel_model.specs.Programs.{has_any}
use Rattle.subchannel_model.specs.Choosing.{candidate, chosen, clear_chosen, first_some, halt_sent, marked_sub, offered, over_unless, path_use, reset_chosen, reset_sent, unsent_reset, halt_chosen, offer_chosen}
use Rattle.subchannel_model.specs.Losing.{is_offered_or_held, reset_drawn, reset_with, reset_for}
use Rattle.subchannel_model.specs.Attention.{with_attention}
use Rattle.subchannel_model.specs.Notice.{with_known}
use Rattle.subchannel_model.specs.Attention as on_attention
use Rattle.subchannel_model.specs.Outcomes as outcomes
use Rattle.subchannel_model.specs.Accept.{halt_performed}
use Rattle.subchannel_model.specs.Cleared.{takes_cleared}
use Rattle.subchannel_model.specs.SystemReset.{state_reset}
use Rattle.machine_model.specs.ChooseSteps.{choose_sub}
use Rattle.machine_model.specs.Results.{SubResult}
use Rattle.machine_model.specs.declared.state.Sweep.{Sweep}
use Rattle.machine_model.specs.PathSteps.{swept}
use Rattle.run_laws.specs.Shows.{IsStandingShown, IsZeroShown, IsShownBy, IsShownOf, is_of_program}
use Rattle.run_laws.specs.Traces.{ProgramTrace}
use Rattle.run_laws.proofs.Traces.Holds.{HasWork, IsStanding, HeldBy}
use Rattle.run_laws.proofs.Statuses.Shows.{HasPosition, status-count, counted, rest-of}
use Rattle.run_laws.proofs.Traces.Sweeps.{swept-kept}
use Rattle.run_laws.proofs.Links.Vanishing.{send-ok}

-- no status is made
pub none-left : (s next : SubchannelState) → next.serials.made ≡ s.serials.made → IsStandingShown s next
none-left s next e = λ l. absurd (omega (arith, e, l))

none-by : (x : Bool) (s next : SubchannelState) (k : ProgramTrace) → next.serials.made ≡ s.serials.made → IsShownBy x s next k
none-by true s next k e = λ l. absurd (omega (arith, e, l))
none-by false s next k e = none-left s next e

pub none-counted : (s next : SubchannelState) (k : ProgramTrace) → next.serials.made ≡ s.serials.made → IsShownOf s next (Some k)
none-counted s next k e = none-by (is_of_program s) s next k e

-- where a status was made, its address and its count are those of the program of which it speaks
abbrev pub ShowsItsProgram : SubchannelState → SubchannelState → Type 0
ShowsItsProgram s next = s.serials.made < next.serials.made → HasPosition next.scsw (address_shown s) (count_shown s)

-- by its programs
abbrev address_by : ℕ → Option Program → Option ActiveProgram → Option ProgramPosition → ℕ
address_by stands waiting begun suspended = of_program stands (λ b. b.transfer.walk.tried) (λ st. st.walk.tried) waiting begun suspended

abbrev HasPositionBy : Scsw → Scsw → Option Program → Option ActiveProgram → Option ProgramPosition → Type 0
HasPositionBy next scsw waiting begun suspended =
    HasPosition next (address_by scsw.command_address waiting begun suspended) (program_count scsw.count waiting begun suspended)

pub none-made : (s next : SubchannelState) → next.serials.made ≡ s.serials.made → ShowsItsProgram s next
none-made s next e = λ l. absurd (omega (arith, e, l))

-- so they are of the program at work, or of the suspended one; or they stand
count-of : (s next : SubchannelState) (w : Option Program) (b : Option ActiveProgram) (st : Option ProgramPosition) (k : ProgramTrace) → HasWork b k → IsStanding w b st k →
    (s.serials.made < next.serials.made → HasPositionBy next.scsw s.scsw w b st) → IsShownBy (is_none w && (is_some b || is_some st)) s next k
count-of s next (Some program) b st k h x f = f
count-of s next None (Some b) st k h x f = λ l. counted next.scsw b.transfer.walk.tried (residual b.transfer.moving) k (f l) (rest-of b k h)
count-of s next None None (Some st) k h x f = λ l. counted next.scsw st.walk.tried st.count k (f l) (ap (λ (y : WalkPosition). y.tried) x.2, x.4)
count-of s next None None None k h x f = f

index-stands : (next scsw : Scsw) (w : Option Program) (b : Option ActiveProgram) (st : Option ProgramPosition) → b ≡ None → st ≡ None →
    HasPositionBy next scsw w b st → HasPosition next scsw.command_address scsw.count
index-stands next scsw (Some program) b st e f g = g
index-stands next scsw None None None e f g = g
index-stands next scsw None None (Some st) e f g = absurd (cc f)
index-stands next scsw None (Some b) st e f g = absurd (cc e)

pub of-program : (s next : SubchannelState) (k : Option ProgramTrace) → HeldBy s k → ShowsItsProgram s next → IsShownOf s next k
of-program s next None h f = λ l. index-stands next.scsw s.scsw s.waiting s.begun s.suspended h.begun h.suspended (f l)
of-program s next (Some k) h f = count-of s next s.waiting s.begun s.suspended k h.work h.standing f

-- a halt that is performed
halt-count : (s : SubchannelState) → ShowsItsProgram s (with_cause s cause.HaltDone)
halt-count s l = status-count s.pmcw.enabled (scsw_joined s.pmcw.enabled s.scsw (without_intermediate s.scsw)) s.serials (program_shown s) l

pub halt-shows : (s : SubchannelState) → ShowsItsProgram s (halt_performed s)
halt-shows s = by s.scsw.activity.halt_pending
  where
    by : (b : Bool) → ShowsItsProgram s (if b then with_cause s cause.HaltDone else s)
    by true = halt-count s
    by false = none-made s s refl

-- a clear that is performed
clear-count : (s : SubchannelState) → IsZeroShown s (with_cause s cause.ClearDone)
clear-count s l = status-count s.pmcw.enabled (scsw_joined s.pmcw.enabled s.scsw clear_function_alone) s.serials (plain_shown 0 0) l

clear-zero : (s : SubchannelState) (b : Bool) → IsZeroShown s (if b then with_cause s cause.ClearDone else s)
clear-zero s true = clear-count s
clear-zero s false = λ l. absurd (omega (arith, l))

pub cleared-zero : (s : SubchannelState) (phase : HoldPhase) (u : ℕ) → IsZeroShown s (takes_cleared s (hold_table.reset_cleared s.hold phase u)).state
cleared-zero s hold.Free u = λ l. absurd (omega (arith, l))
cleared-zero s (hold.Offer t p) u = λ l. absurd (omega (arith, l))
cleared-zero s (hold.On t p c) u = λ l. absurd (omega (arith, l))
cleared-zero s (hold.Away t) u = λ l. absurd (omega (arith, l))
cleared-zero s (hold.Letting t p) u = λ l. absurd (omega (arith, l))
cleared-zero s (hold.Reset r) u = by (u == r)
  where
    by : (x : Bool) → IsZeroShown s (takes_cleared s (if x then Some (hold_table.hold_quietly (record s.hold { phase = hold.Free; reset_path = None })) else None)).state
    by true = clear-zero (record s { hold = record s.hold { phase = hold.Free; reset_path = None } }) s.scsw.activity.clear_pending
    by false = λ l. absurd (omega (arith, l))

-- attention
attention-left : (s : SubchannelState) (shows : Bool) → IsStandingShown s (with_attention s shows)
attention-left s true = λ l. status-count s.pmcw.enabled (scsw_joined s.pmcw.enabled s.scsw s.scsw) s.serials (attention_shown s) l
attention-left s false = none-left s s refl

pub attended-left : (s : SubchannelState) (p a : ℕ) (status : DeviceStatus) →
    IsStandingShown s (on_attention.takes_attention s status (hold_table.attended s.hold s.hold.phase p a (on_attention.may_take_attention s))).state
attended-left s p a status =
    let step : Option HoldStep = hold_table.attended s.hold s.hold.phase p a (on_attention.may_take_attention s) in
    attention-left (record s { hold = hold_table.hold_after s.hold step }) ((hold_table.outcome_of step).taken && not (status.0 == 0x20))

-- the hold is to be reset as a path is lost, or as the unit was restarted
reset-shows : (s : SubchannelState) (shows : Bool) → ShowsItsProgram s (reset_with s shows)
reset-shows s true = λ l. status-count s.pmcw.enabled (scsw_joined s.pmcw.enabled s.scsw s.scsw) s.serials (interface_shown (reset_drawn s)) l
reset-shows s false = none-made s (reset_with s false) refl

lost-shows : (s : SubchannelState) → ShowsItsProgram s (reset_for s)
lost-shows s = reset-shows s (is_offered_or_held s.hold.phase && has_any s.waiting s.begun s.suspended)

pub noticed-shows : (s : SubchannelState) (b : ℕ) (more : Bool) → ShowsItsProgram s (if more then outcomes.signal_taken (reset_for (with_known s b)) else outcomes.signal_ignored s).state
noticed-shows s b true = lost-shows (with_known s b)
noticed-shows s b false = none-made s s refl

pub swept-shows : (what : Sweep) (x : Subchannel) → ShowsItsProgram x.state (swept what x).state
swept-shows what x =
    swept-kept x (λ y. ShowsItsProgram x.state y.state) (λ y path up f. f) (λ path f. f) (λ wires f. lost-shows x.state)
    (λ f. none-made x.state (state_reset x.state) refl) what (none-made x.state x.state refl)

-- what is chosen: a clear is performed where one is pending and a Reset is due, and then nothing else makes status
abbrev IfClear : Option Chosen → Chosen → Type 0
IfClear clear PerformsClear = is_some clear ≡ true
IfClear clear PerformsHalt = clear ≡ None
IfClear clear FindsNoPath = clear ≡ None
IfClear clear c = Unit {0}

first-clear : (clear a : Option Chosen) (later : List (Option Chosen)) → IfSome a (IfClear clear) → IfSome (first_some later) (IfClear clear) →
    IfSome (first_some (a ∷ later)) (IfClear clear)
first-clear clear None later here after = after
first-clear clear (Some c) later here after = here

chosen-by : (clear o : Option Chosen) → IfSome o (IfClear clear) → IfClear clear (unwrap_or o Idle)
chosen-by clear None h = tt
chosen-by clear (Some c) h = h

reset-clear : (clear : Option Chosen) (unsent choice : Option ℕ) → IfSome (reset_chosen unsent choice) (IfClear clear)
reset-clear clear None choice = tt
reset-clear clear (Some r) None = tt
reset-clear clear (Some r) (Some path) = tt

clear-clear : (unsent : Option ℕ) (pending : Bool) (later : List (Option Chosen)) → IfSome (first_some later) (IfClear None) →
    IfSome (first_some (clear_chosen unsent pending ∷ later)) (IfClear (clear_chosen unsent pending))
clear-clear None pending later h = h
clear-clear (Some r) true later h = refl
clear-clear (Some r) false later h = h

halt-clear : (pending : Bool) (phase : HoldPhase) (choice : Option ℕ) → IfSome (halt_chosen pending phase choice) (IfClear None)
halt-clear false phase choice = tt
halt-clear true (hold.Offer t p) choice = tt
halt-clear true (hold.On t p c) choice = tt
halt-clear true (hold.Away t) None = tt
halt-clear true (hold.Away t) (Some path) = tt
halt-clear true phase choice = refl

over-clear : (reachable : Bool) → IfSome (over_unless reachable) (IfClear None)
over-clear true = tt
over-clear false = refl

offer-clear : (phase : HoldPhase) (c : Option Candidate) (reachable : Bool) (choice : Option ℕ) → IfSome (offer_chosen phase c reachable choice) (IfClear None)
offer-clear phase None reachable choice = tt
offer-clear hold.Free (Some c) reachable None = over-clear reachable
offer-clear hold.Free (Some c) reachable (Some path) = tt
offer-clear (hold.Reset r) (Some c) reachable choice = over-clear reachable
offer-clear phase (Some c) reachable choice = tt

abbrev pub clear_of : SubchannelState → Option Chosen
clear_of s = clear_chosen (unsent_reset s.hold) s.scsw.activity.clear_pending

chosen-clear : (sub : Subchannel) (choice : Option ℕ) → IfClear (clear_of sub.state) (chosen sub choice)
chosen-clear sub choice =
    let s : SubchannelState = sub.state in
    let reachable : Bool = is_any (reachable_paths (path_use sub)) in
    chosen-by (clear_of s) _
    (first-clear (clear_of s) (reset_chosen (unsent_reset s.hold) choice) _ (reset-clear (clear_of s) (unsent_reset s.hold) choice)
    (clear-clear (unsent_reset s.hold) s.scsw.activity.clear_pending _
    (first-clear None (halt_chosen s.scsw.activity.halt_pending s.hold.phase choice) _ (halt-clear s.scsw.activity.halt_pending s.hold.phase choice)
    (first-clear None (offer_chosen s.hold.phase (candidate s) reachable choice) _ (offer-clear s.hold.phase (candidate s) reachable choice) tt))))

-- and its count is zero; otherwise the status speaks of the program
abbrev pub ChooseShows : Option Chosen → SubchannelState → SubchannelState → Type 0
ChooseShows None s next = ShowsItsProgram s next
ChooseShows (Some c) s next = IsZeroShown s next

quiet-shows : (clear : Option Chosen) (s next : SubchannelState) → next.serials.made ≡ s.serials.made → ChooseShows clear s next
quiet-shows None s next e = none-made s next e
quiet-shows (Some c) s next e = λ l. absurd (omega (arith, e, l))

zero-shows : (clear : Option Chosen) (s next : SubchannelState) → is_some clear ≡ true → IsZeroShown s next → ChooseShows clear s next
zero-shows None s next e z = absurd (cc e)
zero-shows (Some c) s next e z = z

other-shows : (clear : Option Chosen) (s next : SubchannelState) → clear ≡ None → ShowsItsProgram s next → ChooseShows clear s next
other-shows None s next e f = f
other-shows (Some c) s next e f = absurd (cc e)

path-shows : (s : SubchannelState) (w : Option Program) → ShowsItsProgram s (with_row s (record { shown = no_path_shown s; left = without_waiting w s }) s.scsw)
path-shows s None = λ l. status-count s.pmcw.enabled (scsw_joined s.pmcw.enabled s.scsw s.scsw) s.serials (no_path_shown s) l
path-shows s (Some program) = λ l. status-count s.pmcw.enabled (scsw_joined s.pmcw.enabled s.scsw s.scsw) s.serials (no_path_shown s) l

choose-shows : (clear : Option Chosen) (sub : Subchannel) (c : Chosen) → IfClear clear c → IfOk (choose_sub sub c) (λ t. ChooseShows clear sub.state t.sub.state)
choose-shows clear sub Idle i = quiet-shows clear sub.state sub.state refl
choose-shows clear sub (Resets r path) i =
    send-ok (λ t. ChooseShows clear sub.state t.sub.state) sub (reset_sent sub.state path) path (down.Reset r sub.state.hold.known_restarts) (reply.ResetSent r path)
    (quiet-shows clear sub.state (reset_sent sub.state path) refl)
choose-shows clear sub PerformsClear i = zero-shows clear sub.state (with_cause sub.state cause.ClearDone) i (clear-count sub.state)
choose-shows clear sub (Halts t path) i =
    send-ok (λ t. ChooseShows clear sub.state t.sub.state) sub (halt_sent sub.state) path (down.Halt t) (reply.HaltSent t path)
    (quiet-shows clear sub.state (halt_sent sub.state) refl)
choose-shows clear sub PerformsHalt i = other-shows clear sub.state (with_cause sub.state cause.HaltDone) i (halt-count sub.state)
choose-shows clear sub FindsNoPath i = other-shows clear sub.state (with_cause sub.state cause.NoPath) i (path-shows sub.state sub.state.waiting)
choose-shows clear sub (Offers c path) i =
    send-ok (λ t. ChooseShows clear sub.state t.sub.state) sub (offered sub.state c.program path) path (down.Select (sub.state.drawn + 1))
    (reply.Offered (sub.state.drawn + 1) path c.resumes) (quiet-shows clear sub.state (offered sub.state c.program path) refl)

marked-shows : (sub : Subchannel) (choice : Option ℕ) (clear : Option Chosen) (next : SubchannelState) → ChooseShows clear (marked_sub sub choice).state next →
    ChooseShows clear sub.state next
marked-shows sub choice None next f = f
marked-shows sub choice (Some c) next f = f

pub chosen-shows : (sub : Subchannel) (choice : Option ℕ) (t : SubResult) → choose_sub (marked_sub sub choice) (chosen sub choice) ≡ Ok t →
    ChooseShows (clear_of sub.state) sub.state t.sub.state
chosen-shows sub choice t e =
    let clear : Option Chosen = clear_of sub.state in
    let marked : Subchannel = marked_sub sub choice in
    marked-shows sub choice clear t.sub.state
    (subst (λ (r : Result SubResult Fault). IfOk r (λ t. ChooseShows clear marked.state t.sub.state)) e
    (choose-shows clear marked (chosen sub choice) (chosen-clear sub choice)))
