-- Each choice has its reason, and leaves what it may.
use Rattle.std.proofs.Common.{◌&&◌, ◌≡◌, refl, sym, ◌∙◌, ap, ℕ, ◌||◌, not, Bool, true, false, Option, None, Some, List, inl, inr}
use Rattle.std.specs.Prelude.{is_some}
use Rattle.chan_events.specs.Events.{Event}
use Rattle.chan_events.specs.declared.event.Event.TheVariants as event
use Rattle.chan_events.specs.declared.reply.Entry.{Entry}
use Rattle.chan_events.specs.Replies.{Reply}
use Rattle.channel_config.specs.declared.names.SubchannelId.{SubchannelId}
use Rattle.channel_config.specs.Setup.{Setup, set_count}
use Rattle.machine_model.specs.declared.state.Sweep.TheVariants as sweep
use Rattle.machine_model.specs.State.{State, opening_of}
use Rattle.machine_model.specs.Steps.{Run}
use Rattle.subchannel_model.specs.declared.state.Candidate.{Candidate}
use Rattle.subchannel_model.specs.declared.state.Chosen.{Chosen}
use Rattle.subchannel_model.specs.declared.state.Chosen.TheVariants.{Idle, Resets, PerformsClear, Halts, PerformsHalt, FindsNoPath, Offers}
use Rattle.subchannel_model.specs.declared.state.Program.{Program}
use Rattle.subchannel_model.specs.declared.state.ProgramPosition.{ProgramPosition}
use Rattle.subchannel_model.specs.declared.state.Subchannel.{Subchannel}
use Rattle.subchannel_model.specs.declared.state.SubchannelState.{SubchannelState}
use Rattle.subchannel_model.specs.Choosing.{chosen, marked_sub, starting, resuming}
use Rattle.run_laws.specs.Choices.{waits, IsReason, LeavesChosen, IsChoiceRight, AreChoicesRight}
use Rattle.run_laws.specs.Shown.{StoredStatus, is_about}
use Rattle.run_laws.proofs.Shown.Chosen.{IsCandidate, IsWhy, why-chosen}
use Rattle.run_laws.proofs.Shown.Effects.{seen}
use Rattle.run_laws.proofs.Shown.Fitting.{Fits, run-fits}
use Rattle.run_laws.proofs.Shown.Standing.{Stands}
use Rattle.run_laws.proofs.Shown.StandingRuns.{run-stands}
use Rattle.step_laws.proofs.Indices.{both-true}
use Rattle.run_laws.proofs.Shown.Runs.{AreLaws, status_of, run-between}
use Rattle.run_laws.proofs.Shown.Turned.{Turned, Chooses, Sweeps, Rests, reply_chosen, state_chosen}

start-candidate : (pending : Bool) (w : Option Program) (c : Candidate) → starting pending w ≡ Some c → (pending ≡ true) × (c.resumes ≡ false)
start-candidate false w c e = absurd (cc e)
start-candidate true None c e = absurd (cc e)
start-candidate true (Some p) c e =
    let same : record { program = p; resumes = false } ≡ c = cc e in (refl, ap (λ (x : Candidate). x.resumes) (sym same))

resume-candidate : (pending : Bool) (st : Option ProgramPosition) (c : Candidate) → resuming pending st ≡ Some c → (pending ≡ true) × (c.resumes ≡ true) × (is_some st ≡ true)
resume-candidate false st c e = absurd (cc e)
resume-candidate true None c e = absurd (cc e)
resume-candidate true (Some st) c e =
    let same : record { program = st.program; resumes = true } ≡ c = cc e in (refl, ap (λ (x : Candidate). x.resumes) (sym same), refl)

not-started : (pending : Bool) (w : Option Program) → (pending ≡ true → is_some w ≡ true) → starting pending w ≡ None → pending ≡ false
not-started false w f e = refl
not-started true None f e = absurd (cc (f refl))
not-started true (Some p) f e = absurd (cc e)

or-first : (a b : Bool) → a ≡ true → (a || b) ≡ true
or-first true b e = refl
or-first false b e = absurd (cc e)

or-second : (a b : Bool) → b ≡ true → (a || b) ≡ true
or-second true b e = refl
or-second false b e = e

candidate-waits : (s : SubchannelState) (c : Candidate) → Fits (seen s) → Stands (seen s) → IsCandidate s c →
    (waits s.scsw ≡ true) × (c.resumes ≡ not s.scsw.activity.start_pending)
candidate-waits s c fits stands k =
    let start : Bool = s.scsw.activity.start_pending in
    let resume : Bool = s.scsw.activity.resume_pending in
    elim k [
      | inl e ↦ let is = start-candidate start s.waiting c e in (or-first start (resume && s.scsw.activity.suspended) is.0, is.1 ∙ ap not (sym is.0))
      | inr p ↦
          let is = resume-candidate resume s.suspended c p.1 in
          (or-second start _ (both-true resume s.scsw.activity.suspended is.0 (stands.suspended is.2).0), is.1 ∙ ap not (sym (not-started start s.waiting fits.starts p.0)))
    ]

reason : (s m : SubchannelState) (c : Chosen) → Fits (seen s) → Stands (seen s) → IsWhy s c → IsReason s.scsw (reply_chosen m c)
reason s m Idle fits stands why = tt
reason s m (Resets r path) fits stands why = tt
reason s m PerformsClear fits stands why = or-second s.scsw.activity.halt_pending _ (or-first s.scsw.activity.clear_pending _ why)
reason s m (Halts t path) fits stands why = why
reason s m PerformsHalt fits stands why = or-first s.scsw.activity.halt_pending _ why
reason s m FindsNoPath fits stands why =
    or-second s.scsw.activity.halt_pending _ (or-second s.scsw.activity.clear_pending _ (candidate-waits s why.0 fits stands why.1).0)
reason s m (Offers c path) fits stands why = let w = candidate-waits s c fits stands why.0 in (why.1, w.0, w.1)

leaves : (sub : Subchannel) (choice : Option ℕ) (c : Chosen) →
    LeavesChosen (status_of sub.state) (reply_chosen (marked_sub sub choice).state c) (status_of (state_chosen (marked_sub sub choice).state c))
leaves sub choice PerformsClear = tt
leaves sub choice PerformsHalt = tt
leaves sub choice FindsNoPath = tt
leaves sub choice other = (refl, refl)

module _ (sets : ℕ) (id : SubchannelId) where
  rests-right : (e : Event) (r : Reply) (k : StoredStatus) → is_about sets id e ≡ false → IsChoiceRight sets id k e r k
  rests-right (event.Choose word) r k about = λ mine. absurd (cc (sym mine ∙ about))
  rests-right e r k about = tt

  turned-right : (e : Event) (r : Reply) (sub : Subchannel) (after : SubchannelState) → Fits (seen sub.state) → Stands (seen sub.state) → Turned sets id e r sub after →
      IsChoiceRight sets id (status_of sub.state) e r (status_of after)
  turned-right _ _ _ _ fits stands (Chooses word sub choice named away) = λ mine.
      (reason sub.state (marked_sub sub choice).state (chosen sub choice) fits stands (why-chosen sub choice), leaves sub choice (chosen sub choice))
  turned-right _ _ _ _ fits stands (Sweeps (sweep.GoesDown chpid) r sub) = tt
  turned-right _ _ _ _ fits stands (Rests e r sub about) = rests-right e r (status_of sub.state) about
  turned-right _ _ _ _ fits stands other = tt

pub run-choices : AreLaws → (setup : Setup) (h : List Entry) (s : State) → Run (opening_of setup) h s → AreChoicesRight (set_count setup) h
run-choices laws setup h s run id =
    run-between laws setup id (λ before old e r new. IsChoiceRight (set_count setup) id old e r new)
    (λ before old e r index sub after before-run named there turned.
    turned-right (set_count setup) id e r sub after (run-fits laws setup id before old before-run index sub named there)
    (run-stands laws setup id before old before-run index sub named there) turned) h s run
