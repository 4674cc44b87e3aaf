-- After each run a path that is lost, and a Notice, make a status where a program is lost that is shown, and nowhere else.
use Rattle.std.proofs.Common.{◌≡◌, refl, sym, ◌∙◌, subst, ℕ, ◌&&◌, nat_lt, not, Bool, true, false, Option, List}
use Rattle.std.specs.Prelude.{if◌then◌else◌, IsSomeAnd}
use Rattle.storage_keys.specs.Storage.{Contents}
use Rattle.chan_events.specs.Events.{Event}
use Rattle.chan_events.specs.declared.event.Event.TheVariants as event
use Rattle.chan_events.specs.declared.reply.Entry.{Entry}
use Rattle.chan_events.specs.Replies.{Reply}
use Rattle.chan_events.specs.declared.reply.Reply.TheVariants as reply
use Rattle.chan_model.specs.Signals.{Up}
use Rattle.chan_model.specs.declared.signal.Up.TheVariants as up
use Rattle.channel_config.specs.declared.names.SubchannelId.{SubchannelId}
use Rattle.channel_config.specs.Lawful.{IsLawful}
use Rattle.channel_config.specs.Setup.{Setup, set_count}
use Rattle.machine_model.specs.declared.state.Sweep.TheVariants as sweep
use Rattle.machine_model.specs.State.{State, opening_of}
use Rattle.machine_model.specs.Steps.{Run}
use Rattle.subchannel_model.specs.declared.state.Subchannel.{Subchannel}
use Rattle.subchannel_model.specs.declared.state.SubchannelState.{SubchannelState}
use Rattle.subchannel_model.specs.declared.state.UpStep.{UpStep}
use Rattle.subchannel_model.specs.Losing.{reset_for, loses, path_index}
use Rattle.subchannel_model.specs.Notice.{with_known}
use Rattle.subchannel_model.specs.Outcomes.{signal_taken, signal_ignored}
use Rattle.run_laws.specs.Links.{SubSeen, first_seen, links_in}
use Rattle.run_laws.proofs.Signals.LinkLists.{of-first}
use Rattle.run_laws.proofs.Signals.LinkRuns.{AreOnePath, IsRunSeen, run-seen}
use Rattle.run_laws.proofs.Signals.LinkSubs.{IsTied}
use Rattle.run_laws.specs.Codes.{enabled_in, MayBe}
use Rattle.run_laws.specs.Serials.{IsAtWork}
use Rattle.run_laws.specs.Shown.{StoredStatus}
use Rattle.run_laws.proofs.Shown.Enabling.{run-enabled}
use Rattle.run_laws.proofs.Shown.Fitting.{run-fits}
use Rattle.run_laws.proofs.Shown.LossRuns.{known-is, shown-status}
use Rattle.run_laws.proofs.Shown.Runs.{AreLaws, status_of, run-between}
use Rattle.run_laws.proofs.Shown.Turned.{Turned, Executes, Chooses, Meets, Sweeps, Rests, met, reply_met}
use Rattle.run_laws.proofs.Shown.Showing.{whole, whole-tells}
use Rattle.run_laws.specs.LostPrograms.{IsLoss, IsLossBy, IsLossRight, AreLossesRight}
use Rattle.run_laws.proofs.Shown.Losing.{has_program, there-where-shown, loses-made, loses-due, noticed, notice-made, notice-due}

-- what is known of the subchannel: whether it is enabled, and that where its activity shows a program one is there
record IsKnown (known : Option Bool) (s : SubchannelState) : Type 0 where
  enabled : MayBe known s.pmcw.enabled
  there : IsAtWork s.scsw → has_program s ≡ true

module _ (is_up : ℕ → Bool) (known : Option Bool) (sub : Subchannel) (is : IsKnown known sub.state) (k : SubSeen) (tie : IsTied is_up k sub) where
  lost-right : (chpid : ℕ) → IsLossBy known (status_of sub.state) (event.PathReset chpid) reply.Done (status_of (loses chpid sub).state) k
  lost-right chpid =
      let o : Option ℕ = path_index chpid sub.setup.paths in
      record {
        made = loses-made k sub chpid tie.setup tie.paths.distinct tie.held o refl;
        due = λ lost e work. loses-due k sub chpid tie.setup tie.paths.distinct tie.held o refl lost (is.there work) (known-is known sub.state.pmcw.enabled e is.enabled);
      }

  notice-right : (word path b : ℕ) (returns : Bool) (storage : Contents) →
      IsLossBy known (status_of sub.state) (event.Up word path) (reply_met (up.Notice b) (met returns storage sub path (up.Notice b))) (status_of (met returns storage sub path (up.Notice b)).step.state) k
  notice-right word path b returns storage = by (nat_lt sub.state.hold.known_restarts b)
    where
      loss : (more : Bool) → IsLoss k (more && not k.doubt) more known (status_of sub.state) (status_of (noticed sub.state b more))
      loss more = record {
        made = notice-made k sub.state tie.held b more;
        due = λ lost e work. notice-due k sub.state tie.held b more lost (is.there work) (known-is known sub.state.pmcw.enabled e is.enabled);
      }

      step : Bool → UpStep
      step more = if more then signal_taken (reset_for (with_known sub.state b)) else signal_ignored sub.state

      by : (more : Bool) → IsLoss k ((step more).outcome.taken && not k.doubt) (step more).outcome.taken known (status_of sub.state) (status_of (step more).state)
      by true = loss true
      by false = loss false

module _ (setup : Setup) (id : SubchannelId) (before : List Entry) where
  abbrev known : Option Bool
  known = enabled_in (set_count setup) id before

  abbrev Seen : (SubSeen → Type 0) → Type 0
  Seen P = IsSomeAnd (first_seen id (links_in setup before).subs) P

  turned-right : (is_up : ℕ → Bool) (e : Event) (r : Reply) (sub : Subchannel) (after : SubchannelState) → IsKnown known sub.state →
      ((P : SubSeen → Type 0) → ((k : SubSeen) → IsTied is_up k sub → P k) → Seen P) →
      Turned (set_count setup) id e r sub after → IsLossRight setup id before (status_of sub.state) e r (status_of after)
  turned-right is_up _ _ _ _ is found (Executes cpu i sub effect named left) = λ mine. found _ (λ k tie. tt)
  turned-right is_up _ _ _ _ is found (Chooses word sub choice named away) = λ mine. found _ (λ k tie. tt)
  turned-right is_up _ _ _ _ is found (Meets word path returns storage sub x named) = λ mine. found _ (λ k tie. met-right x k tie)
    where
      met-right : (x : Up) (k : SubSeen) → IsTied is_up k sub →
          IsLossBy known (status_of sub.state) (event.Up word path) (reply_met x (met returns storage sub path x)) (status_of (met returns storage sub path x).step.state) k
      met-right (up.Accept t) k tie = tt
      met-right (up.Busy t) k tie = tt
      met-right (up.Leave t c) k tie = tt
      met-right (up.Back t c) k tie = tt
      met-right (up.Data load t c n q) k tie = tt
      met-right (up.End t n status more) k tie = tt
      met-right (up.Released t) k tie = tt
      met-right (up.Cleared r) k tie = tt
      met-right (up.Notice b) k tie = notice-right is_up known sub is k tie word path b returns storage
      met-right (up.Attn a status) k tie = tt
  turned-right is_up _ _ _ _ is found (Sweeps (sweep.GoesDown chpid) r sub) = λ mine. found _ (λ k tie.
      let y : Subchannel = loses chpid sub in
      subst (λ (x : StoredStatus). IsLossBy known (status_of sub.state) (event.PathDown chpid) r x k) (sym (shown-status (path_index chpid y.setup.paths) y))
      (lost-right is_up known sub is k tie chpid))
  turned-right is_up _ _ _ _ is found (Sweeps (sweep.ComesUp chpid) r sub) = λ mine. found _ (λ k tie. tt)
  turned-right is_up _ _ _ _ is found (Sweeps (sweep.PathReset chpid) r sub) = λ mine. found _ (λ k tie. lost-right is_up known sub is k tie chpid)
  turned-right is_up _ _ _ _ is found (Sweeps sweep.SystemReset r sub) = λ mine. found _ (λ k tie. tt)
  turned-right is_up _ _ _ _ is found (Rests (event.Put address bytes) r sub about) = λ mine. found _ (λ k tie. tt)
  turned-right is_up _ _ _ _ is found (Rests (event.SetKey address key) r sub about) = λ mine. found _ (λ k tie. tt)
  turned-right is_up _ _ _ _ is found (Rests (event.SetPrefix cpu address) r sub about) = λ mine. found _ (λ k tie. tt)
  turned-right is_up _ _ _ _ is found (Rests (event.Show address count) r sub about) = λ mine. found _ (λ k tie. tt)
  turned-right is_up _ _ _ _ is found (Rests (event.Execute cpu i) r sub about) = λ mine. found _ (λ k tie. tt)
  turned-right is_up _ _ _ _ is found (Rests (event.ExecuteOther cpu i) r sub about) = λ mine. found _ (λ k tie. tt)
  turned-right is_up _ _ _ _ is found (Rests (event.Choose word) r sub about) = λ mine. found _ (λ k tie. tt)
  turned-right is_up _ _ _ _ is found (Rests (event.Up word path) r sub about) = λ mine. absurd (cc (sym mine ∙ about))
  turned-right is_up _ _ _ _ is found (Rests (event.Down word path) r sub about) = λ mine. found _ (λ k tie. tt)
  turned-right is_up _ _ _ _ is found (Rests (event.Report at report) r sub about) = λ mine. found _ (λ k tie. tt)
  turned-right is_up _ _ _ _ is found (Rests (event.Act at what) r sub about) = λ mine. found _ (λ k tie. tt)
  turned-right is_up _ _ _ _ is found (Rests (event.Restart at) r sub about) = λ mine. found _ (λ k tie. tt)
  turned-right is_up _ _ _ _ is found (Rests (event.PathDown chpid) r sub about) = λ mine. absurd (cc about)
  turned-right is_up _ _ _ _ is found (Rests (event.PathUp chpid) r sub about) = λ mine. found _ (λ k tie. tt)
  turned-right is_up _ _ _ _ is found (Rests (event.PathReset chpid) r sub about) = λ mine. absurd (cc about)
  turned-right is_up _ _ _ _ is found (Rests event.SystemReset r sub about) = λ mine. absurd (cc about)

pub run-losses : AreLaws → AreOnePath → (setup : Setup) (h : List Entry) (s : State) → IsLawful setup → Run (opening_of setup) h s → AreLossesRight setup h
run-losses laws paths setup h s lawful run id =
    run-between laws setup id (IsLossRight setup id)
    (λ before old e r index sub after before-run named there turned.
    let all : IsRunSeen setup before old = run-seen laws.walks paths setup before old lawful before-run in
    turned-right setup id before _ e r sub after
    (record {
      enabled = run-enabled laws setup id before old before-run index sub named there;
      there = there-where-shown sub.state (run-fits laws setup id before old before-run index sub named there) (whole-tells sub.state (whole laws setup id before old before-run index sub named there));
    })
    (λ P f. of-first _ P id _ old.subs index sub named there f all.tied) turned) h s run
