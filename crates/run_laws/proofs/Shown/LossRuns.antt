-- A path that is lost, and a Notice, that make no status of a subchannel that is enabled leave its status word.
use Rattle.std.proofs.Common.{◌≡◌, refl, sym, ap, subst, arith, ℕ, ◌+◌, ◌&&◌, nat_lt, Bool, true, false, Option, None, Some, List}
use Rattle.std.specs.Prelude.{if◌then◌else◌}
use Rattle.scsw_irb.specs.declared.serials.Serials.{Serials}
use Rattle.storage_keys.specs.Storage.{Contents}
use Rattle.chan_events.specs.Events.{Event}
use Rattle.chan_events.specs.declared.event.Event.TheVariants as event
use Rattle.chan_events.specs.declared.reply.Entry.{Entry}
use Rattle.chan_events.specs.Replies.{Reply}
use Rattle.chan_events.specs.declared.reply.Reply.TheVariants as reply
use Rattle.chan_model.specs.Signals.{Up}
use Rattle.chan_model.specs.declared.signal.Up.TheVariants as up
use Rattle.chan_model.specs.ResetCauses.{rests_on}
use Rattle.channel_config.specs.declared.names.SubchannelId.{SubchannelId}
use Rattle.channel_config.specs.Setup.{Setup, set_count}
use Rattle.machine_model.specs.declared.state.Sweep.{Sweep}
use Rattle.machine_model.specs.declared.state.Sweep.TheVariants as sweep
use Rattle.machine_model.specs.PathSteps.{swept}
use Rattle.machine_model.specs.State.{State, opening_of}
use Rattle.machine_model.specs.Steps.{Run}
use Rattle.step_laws.specs.Walks.{sweep_event}
use Rattle.subchannel_model.specs.declared.state.Subchannel.{Subchannel}
use Rattle.subchannel_model.specs.declared.state.SubchannelState.{SubchannelState}
use Rattle.subchannel_model.specs.Losing.{is_offered_or_held, reset_with, reset_for, loses, path_index, loses_at, shows_at}
use Rattle.subchannel_model.specs.Programs.{has_any}
use Rattle.subchannel_model.specs.Status.{serials_made}
use Rattle.subchannel_model.specs.Notice.{with_known}
use Rattle.subchannel_model.specs.Outcomes.{signal_taken, signal_ignored}
use Rattle.run_laws.specs.Codes.{enabled_in, MayBe}
use Rattle.run_laws.specs.Losses.{StaysUnmade, IsLossShown, AreLossesShown}
use Rattle.run_laws.specs.Shown.{StoredStatus}
use Rattle.run_laws.proofs.Shown.Enabling.{run-enabled}
use Rattle.run_laws.proofs.Shown.Runs.{AreLaws, status_of, run-between}
use Rattle.run_laws.proofs.Shown.Turned.{Turned, Executes, Chooses, Meets, Sweeps, Rests, met, reply_met}

abbrev IsSilent : SubchannelState → SubchannelState → Type 0
IsSilent s x = s.pmcw.enabled ≡ true → x.serials ≡ s.serials → x.scsw ≡ s.scsw

reset-silent : (s : SubchannelState) (shows : Bool) → IsSilent s (reset_with s shows)
reset-silent s true e same =
    let counts : (reset_with s true).serials.made ≡ s.serials.made + 1 = ap (λ (b : Bool). (serials_made b s.serials).made) e in
    let stays : (reset_with s true).serials.made ≡ s.serials.made = ap (λ (x : Serials). x.made) same in
    absurd (omega (arith, counts, stays))
reset-silent s false e same = refl

lost-silent : (s : SubchannelState) (b : Bool) → IsSilent s (if b then reset_for s else s)
lost-silent s true = reset-silent s (is_offered_or_held s.hold.phase && has_any s.waiting s.begun s.suspended)
lost-silent s false = λ e same. refl

loses-silent : (o : Option ℕ) (sub : Subchannel) → IsSilent sub.state (loses_at o sub).state
loses-silent None sub = λ e same. refl
loses-silent (Some p) sub = lost-silent sub.state (rests_on sub.state.hold p)

notice-silent : (s : SubchannelState) (b : ℕ) (more : Bool) → IsSilent s (if more then signal_taken (reset_for (with_known s b)) else signal_ignored s).state
notice-silent s b true = lost-silent (with_known s b) true
notice-silent s b false = λ e same. refl

-- of what is known of a subchannel
pub known-is : (known : Option Bool) (enabled : Bool) → known ≡ Some true → MayBe known enabled → enabled ≡ true
known-is known enabled e may = subst (λ (o : Option Bool). MayBe o enabled) e may

silent-shown : (known : Option Bool) (s x : SubchannelState) → MayBe known s.pmcw.enabled → IsSilent s x → StaysUnmade known (status_of s) (status_of x)
silent-shown known s x may silent e same = silent (known-is known s.pmcw.enabled e may) same

pub shown-status : (o : Option ℕ) (y : Subchannel) → status_of (shows_at o false y).state ≡ status_of y.state
shown-status None y = refl
shown-status (Some p) y = refl

met-shown : (word path : ℕ) (returns : Bool) (storage : Contents) (sub : Subchannel) (x : Up) (known : Option Bool) → MayBe known sub.state.pmcw.enabled →
    IsLossShown known (status_of sub.state) (event.Up word path) (reply_met x (met returns storage sub path x)) (status_of (met returns storage sub path x).step.state)
met-shown word path returns storage sub (up.Accept t) known may = tt
met-shown word path returns storage sub (up.Busy t) known may = tt
met-shown word path returns storage sub (up.Leave t c) known may = tt
met-shown word path returns storage sub (up.Back t c) known may = tt
met-shown word path returns storage sub (up.Data load t c n q) known may = tt
met-shown word path returns storage sub (up.End t n status more) known may = tt
met-shown word path returns storage sub (up.Released t) known may = tt
met-shown word path returns storage sub (up.Cleared r) known may = tt
met-shown word path returns storage sub (up.Notice b) known may =
    silent-shown known sub.state (met returns storage sub path (up.Notice b)).step.state may (notice-silent sub.state b (nat_lt sub.state.hold.known_restarts b))
met-shown word path returns storage sub (up.Attn a status) known may = tt

swept-shown : (what : Sweep) (r : Reply) (sub : Subchannel) (known : Option Bool) → MayBe known sub.state.pmcw.enabled →
    IsLossShown known (status_of sub.state) (sweep_event what) r (status_of (swept what sub).state)
swept-shown (sweep.GoesDown chpid) r sub known may =
    let y : Subchannel = loses chpid sub in
    subst (λ (k : StoredStatus). StaysUnmade known (status_of sub.state) k) (sym (shown-status (path_index chpid y.setup.paths) y))
    (silent-shown known sub.state y.state may (loses-silent (path_index chpid sub.setup.paths) sub))
swept-shown (sweep.ComesUp chpid) r sub known may = tt
swept-shown (sweep.PathReset chpid) r sub known may = silent-shown known sub.state (loses chpid sub).state may (loses-silent (path_index chpid sub.setup.paths) sub)
swept-shown sweep.SystemReset r sub known may = tt

-- what leaves the subchannel as it was
up-rests : (r : Reply) (word path : ℕ) (k : StoredStatus) (known : Option Bool) → IsLossShown known k (event.Up word path) r k
up-rests reply.Done word path k known = tt
up-rests (reply.Shown bytes) word path k known = tt
up-rests (reply.Code a) word path k known = tt
up-rests (reply.Status a scsw) word path k known = tt
up-rests (reply.Interruption found) word path k known = tt
up-rests (reply.PathReset c) word path k known = tt
up-rests (reply.ChannelReport report) word path k known = tt
up-rests (reply.Paths engaged) word path k known = tt
up-rests (reply.Offered t p z) word path k known = tt
up-rests (reply.ResetSent n p) word path k known = tt
up-rests (reply.HaltSent t p) word path k known = tt
up-rests reply.Pending word path k known = tt
up-rests reply.Idle word path k known = tt
up-rests (reply.Up (up.Accept t) taken sent) word path k known = tt
up-rests (reply.Up (up.Busy t) taken sent) word path k known = tt
up-rests (reply.Up (up.Leave t c) taken sent) word path k known = tt
up-rests (reply.Up (up.Back t c) taken sent) word path k known = tt
up-rests (reply.Up (up.Data load t c n q) taken sent) word path k known = tt
up-rests (reply.Up (up.End t n status more) taken sent) word path k known = tt
up-rests (reply.Up (up.Released t) taken sent) word path k known = tt
up-rests (reply.Up (up.Cleared r) taken sent) word path k known = tt
up-rests (reply.Up (up.Notice b) taken sent) word path k known = λ e same. refl
up-rests (reply.Up (up.Attn a status) taken sent) word path k known = tt
up-rests (reply.Down x taken sent) word path k known = tt

rests-shown : (e : Event) (r : Reply) (k : StoredStatus) (known : Option Bool) → IsLossShown known k e r k
rests-shown (event.Up word path) r k known = up-rests r word path k known
rests-shown (event.PathDown chpid) r k known = λ e same. refl
rests-shown (event.PathReset chpid) r k known = λ e same. refl
rests-shown e r k known = tt

turned-shown : (sets : ℕ) (id : SubchannelId) (e : Event) (r : Reply) (sub : Subchannel) (after : SubchannelState) (known : Option Bool) → MayBe known sub.state.pmcw.enabled → Turned sets id e r sub after →
    IsLossShown known (status_of sub.state) e r (status_of after)
turned-shown sets id _ _ _ _ known may (Executes cpu i sub effect named is) = tt
turned-shown sets id _ _ _ _ known may (Chooses word sub choice named away) = tt
turned-shown sets id _ _ _ _ known may (Meets word path returns storage sub x named) = met-shown word path returns storage sub x known may
turned-shown sets id _ _ _ _ known may (Sweeps what r sub) = swept-shown what r sub known may
turned-shown sets id _ _ _ _ known may (Rests e r sub about) = rests-shown e r (status_of sub.state) known

pub run-losses-shown : AreLaws → (setup : Setup) (h : List Entry) (s : State) → Run (opening_of setup) h s → AreLossesShown (set_count setup) h
run-losses-shown laws setup h s run id =
    run-between laws setup id (λ before old e r new. IsLossShown (enabled_in (set_count setup) id before) old e r new)
    (λ before old e r index sub after before-run named there turned.
    turned-shown (set_count setup) id e r sub after (enabled_in (set_count setup) id before) (run-enabled laws setup id before old before-run index sub named there) turned) h s run
