-- After each run a status that an entry makes shows the device status and the subchannel status that are due.
use Rattle.std.proofs.Common.{◌≡◌, refl, sym, ◌∙◌, arith, ℕ, ◌<◌, true, false, Option, None, Some, List, inl, inr}
use Rattle.chan_events.specs.Events.{Event}
use Rattle.chan_events.specs.declared.event.Event.TheVariants as event
use Rattle.chan_events.specs.declared.reply.Entry.{Entry}
use Rattle.chan_events.specs.Replies.{Reply}
use Rattle.channel_config.specs.declared.names.SubchannelId.{SubchannelId}
use Rattle.channel_config.specs.Setup.{Setup, set_count}
use Rattle.scsw_irb.specs.declared.scsw.Scsw.{Scsw}
use Rattle.machine_model.specs.declared.state.Sweep.{Sweep}
use Rattle.machine_model.specs.declared.state.Sweep.TheVariants as sweep
use Rattle.machine_model.specs.PathSteps.{swept}
use Rattle.machine_model.specs.State.{State, opening_of}
use Rattle.machine_model.specs.Steps.{Run}
use Rattle.step_laws.specs.Walks.{sweep_event}
use Rattle.subchannel_model.specs.declared.cause.StatusCause.TheVariants as cause
use Rattle.subchannel_model.specs.declared.state.Chosen.{Chosen}
use Rattle.subchannel_model.specs.declared.state.Chosen.TheVariants.{PerformsClear, PerformsHalt, FindsNoPath}
use Rattle.subchannel_model.specs.declared.state.Subchannel.{Subchannel}
use Rattle.subchannel_model.specs.declared.state.SubchannelState.{SubchannelState}
use Rattle.subchannel_model.specs.Causes.{with_cause}
use Rattle.subchannel_model.specs.Choosing.{chosen, marked_sub}
use Rattle.subchannel_model.specs.Losing.{loses, path_index, shows_at}
use Rattle.run_laws.specs.StatusBytes.{Brings, IsChoiceBrought, IsBrought, AreBytesRight}
use Rattle.run_laws.proofs.Shown.Bytes.{Brought, brought-if, cause-brought, IsZero, clear-brought, loses-brought, takes-brought}
use Rattle.run_laws.proofs.Shown.Chosen.{IsWhy, why-chosen}
use Rattle.run_laws.proofs.Shown.Deferring.{pair-left, effect-made, no-clear}
use Rattle.run_laws.proofs.Shown.Effects.{seen}
use Rattle.step_laws.proofs.Executed.{reply_of, code_for, state_left}
use Rattle.run_laws.proofs.Shown.Fitting.{Fits, run-fits}
use Rattle.run_laws.proofs.Shown.Runs.{AreLaws, run-between}
use Rattle.run_laws.proofs.Shown.Standing.{Stands}
use Rattle.run_laws.proofs.Shown.StandingRuns.{run-stands}
use Rattle.run_laws.proofs.Shown.Turned.{Turned, Executes, Chooses, Meets, Sweeps, Rests, met, reply_met, reply_chosen, state_chosen}

-- a choice
choice-brought : (sub : Subchannel) (choice : Option ℕ) (c : Chosen) → IsWhy sub.state c → (c ≡ FindsNoPath → sub.state.scsw.activity.clear_pending ≡ false) →
    Brought (IsChoiceBrought sub.state.scsw.activity sub.state.scsw) sub.state (state_chosen (marked_sub sub choice).state c)
choice-brought sub choice PerformsClear why f =
    let m : SubchannelState = (marked_sub sub choice).state in
    brought-if IsZero (IsChoiceBrought sub.state.scsw.activity sub.state.scsw) sub.state (with_cause m cause.ClearDone)
    (λ x k. record { clear = λ a b. k; other = λ a. absurd (cc (sym a ∙ why)) }) (clear-brought m)
choice-brought sub choice PerformsHalt why f =
    let m : SubchannelState = (marked_sub sub choice).state in
    brought-if (λ x. Brings sub.state.scsw x 0 0) (IsChoiceBrought sub.state.scsw.activity sub.state.scsw) sub.state (with_cause m cause.HaltDone)
    (λ x k. record { clear = λ a b. absurd (cc (sym b ∙ why)); other = λ a. k }) (cause-brought m cause.HaltDone)
choice-brought sub choice FindsNoPath why f =
    let m : SubchannelState = (marked_sub sub choice).state in
    brought-if (λ x. Brings sub.state.scsw x 0 0) (IsChoiceBrought sub.state.scsw.activity sub.state.scsw) sub.state (with_cause m cause.NoPath)
    (λ x k. record { clear = λ a b. absurd (cc (sym a ∙ f refl)); other = λ a. k }) (cause-brought m cause.NoPath)
choice-brought sub choice other why f = inl refl

module _ (sets : ℕ) (id : SubchannelId) where
  abbrev IsRight : Event → Reply → SubchannelState → SubchannelState → Type 0
  IsRight e r s after = s.serials.made < after.serials.made → IsBrought e r s.scsw after.scsw

  none-right : (e : Event) (r : Reply) (s after : SubchannelState) → after.serials.made ≡ s.serials.made → IsRight e r s after
  none-right e r s after made = λ more. absurd (omega (arith, more, made))

  brought-right : (e : Event) (r : Reply) (s after : SubchannelState) → Brought (IsBrought e r s.scsw) s after → IsRight e r s after
  brought-right e r s after c = λ more. elim c [ inl k ↦ absurd (omega (arith, more, k)) | inr k ↦ k ]

  shown-brought : (o : Option ℕ) (sub : Subchannel) (s : SubchannelState) (P : Scsw → Type 0) → Brought P s sub.state → Brought P s (shows_at o false sub).state
  shown-brought None sub s P c = c
  shown-brought (Some p) sub s P c = c

  up-same : (o : Option ℕ) (sub : Subchannel) → (shows_at o true sub).state.serials.made ≡ sub.state.serials.made
  up-same None sub = refl
  up-same (Some p) sub = refl

  swept-right : (what : Sweep) (r : Reply) (sub : Subchannel) → IsRight (sweep_event what) r sub.state (swept what sub).state
  swept-right (sweep.GoesDown chpid) r sub =
      let y : Subchannel = loses chpid sub in
      brought-right (event.PathDown chpid) r sub.state (swept (sweep.GoesDown chpid) sub).state
      (shown-brought (path_index chpid y.setup.paths) y sub.state (λ x. Brings sub.state.scsw x 0 0x02) (loses-brought (path_index chpid sub.setup.paths) sub))
  swept-right (sweep.ComesUp chpid) r sub = none-right (event.PathUp chpid) r sub.state (swept (sweep.ComesUp chpid) sub).state (up-same (path_index chpid sub.setup.paths) sub)
  swept-right (sweep.PathReset chpid) r sub = brought-right (event.PathReset chpid) r sub.state (swept (sweep.PathReset chpid) sub).state (loses-brought (path_index chpid sub.setup.paths) sub)
  swept-right sweep.SystemReset r sub = none-right event.SystemReset r sub.state (swept sweep.SystemReset sub).state refl

  turned-right : (e : Event) (r : Reply) (sub : Subchannel) (after : SubchannelState) → Fits (seen sub.state) → Stands (seen sub.state) → Turned sets id e r sub after → IsRight e r sub.state after
  turned-right _ _ _ _ fits stands (Executes cpu i sub effect named is) =
      none-right (event.Execute cpu i) (reply_of i (code_for i sub) sub.state (state_left i sub effect)) sub.state (state_left i sub effect) (pair-left (code_for i sub) sub.state effect (effect-made i sub effect is))
  turned-right _ _ _ _ fits stands (Chooses word sub choice named away) =
      brought-right (event.Choose word) (reply_chosen (marked_sub sub choice).state (chosen sub choice)) sub.state (state_chosen (marked_sub sub choice).state (chosen sub choice))
      (choice-brought sub choice (chosen sub choice) (why-chosen sub choice) (no-clear sets id sub (chosen sub choice) fits stands (why-chosen sub choice)))
  turned-right _ _ _ _ fits stands (Meets word path returns storage sub x named) =
      brought-right (event.Up word path) (reply_met x (met returns storage sub path x)) sub.state (met returns storage sub path x).step.state (takes-brought returns storage sub.state path x)
  turned-right _ _ _ _ fits stands (Sweeps what r sub) = swept-right what r sub
  turned-right _ _ _ _ fits stands (Rests e r sub about) = none-right e r sub.state sub.state refl

pub run-bytes : AreLaws → (setup : Setup) (h : List Entry) (s : State) → Run (opening_of setup) h s → AreBytesRight (set_count setup) h
run-bytes laws setup h s run id =
    run-between laws setup id (λ before old e r new. old.serials.made < new.serials.made → IsBrought e r old.scsw new.scsw)
    (λ before old e r index sub after before-run named there turned.
    turned-right (set_count setup) id e r sub after (run-fits laws setup id before old before-run index sub named there)
    (run-stands laws setup id before old before-run index sub named there) turned) h s run
