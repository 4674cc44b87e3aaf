-- After each run what is chosen where a halt is shown pending is what is due by where the program is.
use Rattle.std.proofs.Common.{◌≡◌, refl, sym, ◌∙◌, subst, ℕ, Bool, true, false, Option, None, Some, List, [], ◌∷◌, inl, inr}
use Rattle.std.specs.Prelude.{unwrap_or, IsSomeAnd}
use Rattle.allegiance.specs.PathUse.{reachable_paths}
use Rattle.chan_model.specs.PathSets.{is_any}
use Rattle.chan_events.specs.Events.{Event}
use Rattle.chan_events.specs.declared.event.Event.TheVariants as event
use Rattle.chan_events.specs.declared.reply.Entry.{Entry}
use Rattle.chan_events.specs.Replies.{Reply}
use Rattle.chan_model.specs.declared.hold_state.HoldPhase.{HoldPhase}
use Rattle.chan_model.specs.declared.hold_state.HoldPhase.TheVariants as hold
use Rattle.channel_config.specs.declared.names.SubchannelId.{SubchannelId}
use Rattle.channel_config.specs.Lawful.{IsLawful}
use Rattle.channel_config.specs.Setup.{Setup, set_count}
use Rattle.machine_model.specs.declared.state.Sweep.TheVariants as sweep
use Rattle.machine_model.specs.State.{State, opening_of}
use Rattle.machine_model.specs.Steps.{Run}
use Rattle.subchannel_model.specs.declared.state.Candidate.{Candidate}
use Rattle.subchannel_model.specs.declared.state.Chosen.{Chosen}
use Rattle.subchannel_model.specs.declared.state.Chosen.TheVariants.{Idle}
use Rattle.subchannel_model.specs.declared.state.Subchannel.{Subchannel}
use Rattle.subchannel_model.specs.declared.state.SubchannelState.{SubchannelState}
use Rattle.path_select.specs.Choice.{IsChoice}
use Rattle.subchannel_model.specs.Choosing.{return_paths, is_away, unsent_at, unsent_reset, first_some, candidate, path_use, reset_chosen, clear_chosen, chosen, marked_sub, halt_chosen, offer_chosen}
use Rattle.run_laws.specs.Links.{Link, Apart, Offered, Resetting, SubSeen, Seen, first_seen, links_in}
use Rattle.run_laws.proofs.Signals.LinkHolds.{link_at, Stands}
use Rattle.run_laws.proofs.Signals.LinkLists.{of-first}
use Rattle.run_laws.proofs.Signals.LinkRuns.{AreOnePath, IsRunSeen, run-seen}
use Rattle.run_laws.proofs.Signals.LinkPaths.{member-usable}
use Rattle.run_laws.proofs.Signals.LinkSubs.{IsTied}
use Rattle.run_laws.proofs.Signals.Returning.{IsAvailable, up-available, first-returns}
use Rattle.run_laws.specs.Halts.{IsFirstDown, IsHaltDone, IsHaltDoneFor, IsHaltRight, AreHaltsDone}
use Rattle.run_laws.specs.Shown.{StoredStatus, is_about}
use Rattle.run_laws.proofs.Shown.Runs.{AreLaws, status_of, run-between}
use Rattle.run_laws.proofs.Shown.Turned.{Turned, IsAwayChoice, Chooses, Sweeps, Rests, reply_chosen}

-- what is chosen where a halt is pending
abbrev chosen_at : HoldPhase → Option ℕ → Bool → Option Candidate → Bool → Option ℕ → Chosen
chosen_at phase unsent clear found reachable choice =
    unwrap_or (first_some (
    reset_chosen unsent choice
    ∷ clear_chosen unsent clear
    ∷ halt_chosen true phase choice
    ∷ offer_chosen phase found reachable choice
    ∷ [])) Idle

module _ (is_up : ℕ → Bool) (k : SubSeen) (m : SubchannelState) (clear : Bool) (found : Option Candidate) (reachable : Bool) (choice : Option ℕ) where
  -- where no path is chosen for a program that is away, that of its Accept is down
  abbrev IsDown : HoldPhase → Type 0
  IsDown phase = is_away phase ≡ true → choice ≡ None → IsFirstDown is_up k

  abbrev Done : Link → HoldPhase → Option ℕ → Type 0
  Done link phase sent = IsHaltDone is_up k link (reply_chosen m (chosen_at phase (unsent_at phase sent) clear found reachable choice))

  away-done : (t : ℕ) (sent : Option ℕ) → IsDown (hold.Away t) → Done (Apart t) (hold.Away t) sent
  away-done t sent down = by choice (down refl) found
    where
      by : (choice : Option ℕ) → (choice ≡ None → IsFirstDown is_up k) → (found : Option Candidate) →
          IsHaltDone is_up k (Apart t) (reply_chosen m (chosen_at (hold.Away t) None clear found reachable choice))
      by None f None = inr (refl, f refl)
      by None f (Some c) = inr (refl, f refl)
      by (Some path) f found = inl (path, refl)

  offer-done : (t p : ℕ) (sent : Option ℕ) → Done (Offered t p) (hold.Offer t p) sent
  offer-done t p sent = by found
    where
      by : (found : Option Candidate) → IsHaltDone is_up k (Offered t p) (reply_chosen m (chosen_at (hold.Offer t p) None clear found reachable choice))
      by None = refl
      by (Some c) = refl

  reset-done : (r : ℕ) → Done Resetting (hold.Reset r) None
  reset-done r = by choice clear
    where
      by : (choice : Option ℕ) (clear : Bool) → IsHaltDone is_up k Resetting (reply_chosen m (chosen_at (hold.Reset r) (Some r) clear found reachable choice))
      by (Some path) clear = inl tt
      by None true = inr refl
      by None false = inr refl

  done-at : (phase : HoldPhase) (sent : Option ℕ) → IsDown phase → Done (link_at phase sent) phase sent
  done-at (hold.Offer t p) sent down = offer-done t p sent
  done-at (hold.Away t) sent down = away-done t sent down
  done-at (hold.Reset r) None down = reset-done r
  done-at (hold.Reset r) (Some path) down = refl
  done-at other sent down = refl

  done-for : (phase : HoldPhase) (sent : Option ℕ) → Stands k phase sent → IsDown phase →
      IsHaltDoneFor is_up (reply_chosen m (chosen_at phase (unsent_at phase sent) clear found reachable choice)) k
  done-for phase sent (inl e) down = inl (subst (λ (l : Link). Done l phase sent) (sym e) (done-at phase sent down))
  done-for phase sent (inr d) down =
      inr (
        d.doubt,
        subst (λ (y : HoldPhase). IsHaltDone is_up k Resetting (reply_chosen m (chosen_at y (unsent_at y sent) clear found reachable choice))) (sym d.is_reset)
            (subst (λ (o : Option ℕ). IsHaltDone is_up k Resetting (reply_chosen m (chosen_at (hold.Reset d.reset) (unsent_at (hold.Reset d.reset) o) clear found reachable choice))) (sym d.unsent)
            (reset-done d.reset)),
      )

first-down : (is_up : ℕ → Bool) (k : SubSeen) (sub : Subchannel) (choice : Option ℕ) → IsTied is_up k sub → IsChoice (return_paths sub) choice → choice ≡ None → IsFirstDown is_up k
first-down is_up k sub choice tie is none path first up =
    let free : IsAvailable sub path = up-available is_up k sub path tie up in
    subst (λ (o : Option ℕ). IsChoice (return_paths sub) o) none is path
    (free.low, member-usable (return_paths sub) path (first-returns sub path (sym tie.held.first ∙ first) free))

halt-done : (is_up : ℕ → Bool) (k : SubSeen) (sub : Subchannel) (choice : Option ℕ) → IsTied is_up k sub → IsAwayChoice sub choice → sub.state.scsw.activity.halt_pending ≡ true →
    IsHaltDoneFor is_up (reply_chosen (marked_sub sub choice).state (chosen sub choice)) k
halt-done is_up k sub choice tie away pending =
    let s : SubchannelState = sub.state in
    let m : SubchannelState = (marked_sub sub choice).state in
    let found : Option Candidate = candidate s in
    let reachable : Bool = is_any (reachable_paths (path_use sub)) in
    subst (λ (b : Bool). IsHaltDoneFor is_up (reply_chosen m (unwrap_or (first_some (
    reset_chosen (unsent_reset s.hold) choice
    ∷ clear_chosen (unsent_reset s.hold) s.scsw.activity.clear_pending
    ∷ halt_chosen b s.hold.phase choice
    ∷ offer_chosen s.hold.phase found reachable choice
    ∷ [])) Idle)) k) (sym pending)
    (done-for is_up k m s.scsw.activity.clear_pending found reachable choice s.hold.phase s.hold.reset_path tie.held.stands
    (λ e none. first-down is_up k sub choice tie (away pending e) none))

module _ (setup : Setup) (id : SubchannelId) (before : List Entry) where
  abbrev was : Seen
  was = links_in setup before

  rests-right : (e : Event) (r : Reply) (old : StoredStatus) → is_about (set_count setup) id e ≡ false → IsHaltRight setup id before old e r
  rests-right (event.Choose word) r old about = λ mine. absurd (cc (sym mine ∙ about))
  rests-right e r old about = tt

  turned-right : (e : Event) (r : Reply) (sub : Subchannel) (after : SubchannelState) →
      ((P : SubSeen → Type 0) → ((k : SubSeen) → IsTied was.up k sub → P k) → IsSomeAnd (first_seen id was.subs) P) →
      Turned (set_count setup) id e r sub after → IsHaltRight setup id before (status_of sub.state) e r
  turned-right _ _ _ _ seen (Chooses word sub choice named away) = λ mine pending.
      seen (λ k. IsHaltDoneFor was.up (reply_chosen (marked_sub sub choice).state (chosen sub choice)) k) (λ k tie. halt-done was.up k sub choice tie away pending)
  turned-right _ _ _ _ seen (Sweeps (sweep.GoesDown chpid) r sub) = tt
  turned-right _ _ _ _ seen (Rests e r sub about) = rests-right e r (status_of sub.state) about
  turned-right _ _ _ _ seen other = tt

pub run-halts : AreLaws → AreOnePath → (setup : Setup) (h : List Entry) (s : State) → IsLawful setup → Run (opening_of setup) h s → AreHaltsDone setup h
run-halts laws paths setup h s lawful run id =
    run-between laws setup id (λ before old e r new. IsHaltRight setup id before old e r)
    (λ before old e r index sub after before-run named there turned.
    let all : IsRunSeen setup before old = run-seen laws.walks paths setup before old lawful before-run in
    turned-right setup id before e r sub after (λ P f. of-first _ P id _ old.subs index sub named there f all.tied) turned) h s run
