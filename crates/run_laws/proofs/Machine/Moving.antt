-- What a step leaves of one subchannel: which engine serves it, what waits on its wires, and what its hold remembers.
use Rattle.std.proofs.Common.{◌≡◌, refl, sym, ◌∙◌, ap, subst, ℕ, ◌+◌, ◌≤◌, Bool, true, false, not, ◌&&◌, Option, None, Some, Result, Ok, Err, List, slice_get, IfOk, inl, inr, arith}
use Rattle.std.specs.Prelude.{◌⊎◌}
use Rattle.std.proofs.lemmas.Bool.{and_parts}
use Rattle.allegiance.specs.Allegiances.{may_reconnect}
use Rattle.allegiance.specs.PathUse.{reachable_paths, allowed_paths}
use Rattle.chan_model.specs.PathSets.{is_member, in_both}
use Rattle.chan_model.specs.declared.fault.Fault.{Fault}
use Rattle.chan_model.specs.declared.hold_state.HoldPhase.{HoldPhase}
use Rattle.chan_model.specs.declared.hold_state.HoldPhase.TheVariants as hold
use Rattle.chan_model.specs.declared.hold_state.HoldState.{HoldState}
use Rattle.chan_model.specs.Signals.{Down}
use Rattle.chan_model.specs.declared.signal.Down.TheVariants as down
use Rattle.chan_model.specs.declared.signal.OnPath.{OnPath}
use Rattle.chan_model.specs.HoldTable.{hold_after, sending_reset}
use Rattle.chan_model.specs.ResetCauses.{engaged_path}
use Rattle.subchannel_model.specs.declared.cause.StatusCause.{StatusCause}
use Rattle.subchannel_model.specs.declared.cause.StatusCause.TheVariants as cause
use Rattle.subchannel_model.specs.declared.state.Chosen.{Chosen}
use Rattle.subchannel_model.specs.declared.state.Chosen.TheVariants.{Idle, Resets, PerformsClear, Halts, PerformsHalt, FindsNoPath, Offers}
use Rattle.subchannel_model.specs.declared.state.Subchannel.{Subchannel}
use Rattle.subchannel_model.specs.declared.state.SubchannelState.{SubchannelState}
use Rattle.subchannel_model.specs.Causes.{with_cause}
use Rattle.subchannel_model.specs.Choosing.{is_engaged, engaged_paths, path_use, return_paths, marked_sub, reset_sent, halt_sent, offered}
use Rattle.subchannel_model.specs.Sending.{carried_by, finds_full, with_any_sent}
use Rattle.subchannel_model.specs.Store.{available_paths}
use Rattle.machine_model.specs.ChooseSteps.{choose_sub}
use Rattle.machine_model.specs.Results.{SubResult, with_state}
use Rattle.machine_model.specs.UpSteps.{may_return}
use Rattle.run_laws.specs.Returns.{accepted_by}
use Rattle.run_laws.proofs.Machine.Moves.{if-ok}
use Rattle.run_laws.proofs.Machine.PathSets.{each-true, each-within, each-not, both-parts}
use Rattle.run_laws.proofs.Machine.SameState.{IsSame, is-same, cause-same}
use Rattle.run_laws.proofs.Machine.WaitingSignals.{EachSignal, OnSent, carried-each}
use Rattle.run_laws.proofs.Machine.Told.{Remembers, IsTiedDown, IsTold, IsLater, downs-later, ups-later}
use Rattle.run_laws.proofs.Machine.CalmPaths.{IsCalmHold, still-hold, with_phase}

-- each signal waits on a path that is available
abbrev pub IsOnAvailable : {A : Type 0} → List Bool → ℕ → A → Type 0
IsOnAvailable available q x = is_member available q ≡ true

pub record IsCarried (sub : Subchannel) : Type 0 where
  pub downs : EachSignal (IsOnAvailable sub.state.pmcw.available) sub.wires.down
  pub ups : EachSignal (IsOnAvailable sub.state.pmcw.available) sub.wires.up

-- a path that is available, whose engine serves no subchannel
abbrev pub IsFree : List Subchannel → Subchannel → ℕ → Type 0
IsFree subs sub q = (is_member (available_paths sub) q ≡ true) × (is_engaged subs (slice_get sub.setup.paths q) ≡ false)

pub record IsMoved (subs : List Subchannel) (accepts : Option ℕ → Option ℕ) (sub after : Subchannel) : Type 0 where
  pub setup : after.setup ≡ sub.setup
  pub available : after.state.pmcw.available ≡ sub.state.pmcw.available
  pub engaged : (q : ℕ) → engaged_path after.state.hold.phase ≡ Some q → (engaged_path sub.state.hold.phase ≡ Some q) ⊎ IsFree subs sub q
  pub carried : IsCarried sub → IsCarried after
  pub told : (accepted : Option ℕ) → IsTold accepted sub → IsTold (accepts accepted) after

abbrev pub Same : Option ℕ → Option ℕ
Same accepted = accepted

pub moved-as : (subs : List Subchannel) (f g : Option ℕ → Option ℕ) (sub after : Subchannel) → ((accepted : Option ℕ) → g accepted ≡ f accepted) →
    IsMoved subs f sub after → IsMoved subs g sub after
moved-as subs f g sub after e m = record {
  setup = m.setup;
  available = m.available;
  engaged = m.engaged;
  carried = m.carried;
  told = λ accepted t. subst (λ (o : Option ℕ). IsTold o after) (sym (e accepted)) (m.told accepted t);
}

-- its state alone
pub same-available : {A : Type 0} (old new : List Bool) (queues : List (List A)) → new ≡ old → EachSignal (IsOnAvailable old) queues → EachSignal (IsOnAvailable new) queues
same-available old new queues e all = subst (λ (available : List Bool). EachSignal (IsOnAvailable available) queues) (sym e) all

pub calm-later : (s x : SubchannelState) → s.drawn ≤ x.drawn → IsCalmHold s.hold x.hold → IsLater s.drawn x.drawn s.hold.phase x.hold.phase
calm-later s x rises k = record { rises = rises; offered = λ t p le e. k.offered t p e }

pub state-moved : (subs : List Subchannel) (sub : Subchannel) (x : SubchannelState) → sub.state.drawn ≤ x.drawn →
    x.pmcw.available ≡ sub.state.pmcw.available → IsCalmHold sub.state.hold x.hold → IsMoved subs Same sub (with_state sub x)
state-moved subs sub x rises available k =
    let later : IsLater sub.state.drawn x.drawn sub.state.hold.phase x.hold.phase = calm-later sub.state x rises k in
    record {
      setup = refl;
      available = available;
      engaged = λ q e. inl (k.engaged q e);
      carried = λ c. record {
        downs = same-available sub.state.pmcw.available x.pmcw.available sub.wires.down available c.downs;
        ups = same-available sub.state.pmcw.available x.pmcw.available sub.wires.up available c.ups;
      };
      told = λ accepted t. record {
        remembers = k.remembers accepted t.remembers;
        downs = downs-later sub.state.drawn x.drawn sub.state.hold.phase x.hold.phase sub.wires.down later t.downs;
        ups = ups-later sub.state.drawn x.drawn sub.state.hold.phase x.hold.phase sub.wires.up later t.ups;
      };
    }

pub same-moved : (subs : List Subchannel) (sub : Subchannel) (x : SubchannelState) → IsSame sub.state x → IsMoved subs Same sub (with_state sub x)
same-moved subs sub x same =
    state-moved subs sub x (let n : x.drawn ≡ sub.state.drawn = same.drawn in omega (arith, n)) same.available
    (subst (λ (h : HoldState). IsCalmHold sub.state.hold h) (sym same.hold) (still-hold sub.state.hold))

pub unmoved : (subs : List Subchannel) (sub : Subchannel) → IsMoved subs Same sub sub
unmoved subs sub = same-moved subs sub sub.state (is-same sub.state sub.state refl refl refl)

-- a signal is sent, which is carried where its path is available
pub on-available : {A : Type 0} (available : List Bool) (one : Option (OnPath A)) → OnSent (IsOnAvailable available) available one
on-available available None = tt
on-available available (Some s) = λ e. e

abbrev sent_down : Subchannel → SubchannelState → ℕ → Down → Subchannel
sent_down sub x path signal =
    record sub { state = x; wires = record sub.wires { down = with_any_sent sub.wires.down (carried_by sub (Some (record { path = path; signal = signal }))) } }

sent-carried : (sub : Subchannel) (x : SubchannelState) (path : ℕ) (signal : Down) → x.pmcw.available ≡ sub.state.pmcw.available → IsCarried sub →
    IsCarried (sent_down sub x path signal)
sent-carried sub x path signal e c =
    let one : Option (OnPath Down) = Some (record { path = path; signal = signal }) in
    record {
      downs = same-available sub.state.pmcw.available x.pmcw.available (with_any_sent sub.wires.down (carried_by sub one)) e
          (carried-each (IsOnAvailable sub.state.pmcw.available) sub.wires.down sub.state.pmcw.available one (on-available sub.state.pmcw.available one) c.downs);
      ups = same-available sub.state.pmcw.available x.pmcw.available sub.wires.up e c.ups;
    }

sent-told : (accepted now : Option ℕ) (sub : Subchannel) (x : SubchannelState) (path : ℕ) (signal : Down) → IsLater sub.state.drawn x.drawn sub.state.hold.phase x.hold.phase →
    IsTiedDown x.drawn x.hold.phase path signal → Remembers x.hold.phase x.hold.first_path now → IsTold accepted sub → IsTold now (sent_down sub x path signal)
sent-told accepted now sub x path signal later tied m t = record {
  remembers = m;
  downs = carried-each (IsTiedDown x.drawn x.hold.phase) sub.wires.down sub.state.pmcw.available (Some (record { path = path; signal = signal })) (λ e. tied)
      (downs-later sub.state.drawn x.drawn sub.state.hold.phase x.hold.phase sub.wires.down later t.downs);
  ups = ups-later sub.state.drawn x.drawn sub.state.hold.phase x.hold.phase sub.wires.up later t.ups;
}

sent-moved : (subs : List Subchannel) (sub : Subchannel) (x : SubchannelState) (path : ℕ) (signal : Down) → sub.state.drawn ≤ x.drawn →
    x.pmcw.available ≡ sub.state.pmcw.available → IsCalmHold sub.state.hold x.hold → IsTiedDown x.drawn x.hold.phase path signal →
    IsMoved subs Same sub (sent_down sub x path signal)
sent-moved subs sub x path signal rises available k tied = record {
  setup = refl;
  available = available;
  engaged = λ q e. inl (k.engaged q e);
  carried = sent-carried sub x path signal available;
  told = λ accepted t.
      sent-told accepted accepted sub x path signal (calm-later sub.state x rises k) tied (k.remembers accepted t.remembers) t;
}

-- choosing
abbrev pub IsOpen : List Subchannel → Subchannel → Chosen → Type 0
IsOpen subs sub (Offers c path) = IsFree subs sub path
IsOpen subs sub c = Unit {0}

abbrev IsChooseMoved : List Subchannel → Subchannel → SubResult → Type 0
IsChooseMoved subs sub t = IsMoved subs (λ accepted. accepted_by t.reply 0 accepted) sub t.sub

reset-sent-hold : (h : HoldState) (phase : HoldPhase) (path : ℕ) → IsCalmHold (with_phase h phase) (hold_after (with_phase h phase) (sending_reset (with_phase h phase) phase path))
reset-sent-hold h (hold.Reset r) path = record { engaged = λ q e. e; offered = λ t q e. e; remembers = λ accepted m. tt }
reset-sent-hold h other path = still-hold (with_phase h other)

cause-moved : (subs : List Subchannel) (sub : Subchannel) (c : StatusCause) → IsMoved subs Same sub (with_state sub (with_cause sub.state c))
cause-moved subs sub c = same-moved subs sub (with_cause sub.state c) (cause-same sub.state c)

offered-number : (t u p q : ℕ) → hold.Offer t p ≡ hold.Offer u q → (t ≡ u) × (p ≡ q)
offered-number t u p q e = (cc e, cc e)

offer-moved : (subs : List Subchannel) (sub : Subchannel) (s : SubchannelState) (path : ℕ) → IsFree subs sub path → s.drawn ≡ sub.state.drawn + 1 →
    s.pmcw.available ≡ sub.state.pmcw.available → s.hold.phase ≡ hold.Offer (sub.state.drawn + 1) path →
    IsMoved subs (λ accepted. None) sub (sent_down sub s path (down.Select (sub.state.drawn + 1)))
offer-moved subs sub s path free n available e = record {
  setup = refl;
  available = available;
  engaged = λ q h. let same : path ≡ q = cc (sym (ap engaged_path e) ∙ h) in inr (subst (λ (r : ℕ). IsFree subs sub r) same free);
  carried = sent-carried sub s path (down.Select (sub.state.drawn + 1)) available;
  told = λ accepted t.
      sent-told accepted None sub s path (down.Select (sub.state.drawn + 1))
      (record {
        rises = omega (arith, n);
        offered = λ u q le h. let same : sub.state.drawn + 1 ≡ u = (offered-number (sub.state.drawn + 1) u path q (sym e ∙ h)).0 in absurd (omega (arith, le, same));
      })
      (omega (arith, n), λ q h. (offered-number (sub.state.drawn + 1) (sub.state.drawn + 1) path q (sym e ∙ h)).1)
      (subst (λ (phase : HoldPhase). Remembers phase s.hold.first_path None) (sym e) refl) t;
}

choose-moved : (subs : List Subchannel) (sub : Subchannel) (c : Chosen) → IsOpen subs sub c → IfOk (choose_sub sub c) (IsChooseMoved subs sub)
choose-moved subs sub Idle free = unmoved subs sub
choose-moved subs sub (Resets r path) free =
    if-ok (IsChooseMoved subs sub) (finds_full sub.wires.down (carried_by sub (Some (record { path = path; signal = down.Reset r sub.state.hold.known_restarts })))) _ _ tt
    (sent-moved subs sub (reset_sent sub.state path) path (down.Reset r sub.state.hold.known_restarts) (omega arith) refl
    (reset-sent-hold sub.state.hold sub.state.hold.phase path) tt)
choose-moved subs sub PerformsClear free = cause-moved subs sub cause.ClearDone
choose-moved subs sub (Halts t path) free =
    if-ok (IsChooseMoved subs sub) (finds_full sub.wires.down (carried_by sub (Some (record { path = path; signal = down.Halt t })))) _ _ tt
    (sent-moved subs sub (halt_sent sub.state) path (down.Halt t) (omega arith) refl (still-hold sub.state.hold) tt)
choose-moved subs sub PerformsHalt free = cause-moved subs sub cause.HaltDone
choose-moved subs sub FindsNoPath free = cause-moved subs sub cause.NoPath
choose-moved subs sub (Offers c path) free =
    if-ok (IsChooseMoved subs sub) (finds_full sub.wires.down (carried_by sub (Some (record { path = path; signal = down.Select (sub.state.drawn + 1) })))) _ _ tt
    (offer-moved subs sub (offered sub.state c.program path) path free refl refl refl)

-- the paths that are marked are nothing to it
marked-moved : (subs : List Subchannel) (f : Option ℕ → Option ℕ) (sub after : Subchannel) (choice : Option ℕ) → IsMoved subs f (marked_sub sub choice) after →
    IsMoved subs f sub after
marked-moved subs f sub after choice m = record {
  setup = m.setup;
  available = m.available;
  engaged = m.engaged;
  carried = λ c. m.carried (record { downs = c.downs; ups = c.ups });
  told = λ accepted t. m.told accepted (record { remembers = t.remembers; downs = t.downs; ups = t.ups });
}

marked-free : (subs : List Subchannel) (sub : Subchannel) (choice : Option ℕ) (c : Chosen) → IsOpen subs sub c → IsOpen subs (marked_sub sub choice) c
marked-free subs sub choice (Offers c path) free = free
marked-free subs sub choice other free = tt

abbrev pub OkChoose : List Subchannel → Subchannel → Result SubResult Fault → Type 0
OkChoose subs sub r = IfOk r (IsChooseMoved subs sub)

ok-marked : (subs : List Subchannel) (sub : Subchannel) (choice : Option ℕ) (r : Result SubResult Fault) → OkChoose subs (marked_sub sub choice) r → OkChoose subs sub r
ok-marked subs sub choice (Ok t) m = marked-moved subs (λ accepted. accepted_by t.reply 0 accepted) sub t.sub choice m
ok-marked subs sub choice (Err f) m = tt

pub marked-choose : (subs : List Subchannel) (sub : Subchannel) (choice : Option ℕ) (c : Chosen) → IsOpen subs sub c → OkChoose subs sub (choose_sub (marked_sub sub choice) c)
marked-choose subs sub choice c free =
    ok-marked subs sub choice (choose_sub (marked_sub sub choice) c) (choose-moved subs (marked_sub sub choice) c (marked-free subs sub choice c free))

-- what is usable is free, and so is a path by which a program may come back
pub usable-free : (subs : List Subchannel) (sub : Subchannel) (path : ℕ) → is_member (reachable_paths (path_use sub)) path ≡ true →
    not (is_member (engaged_paths subs sub) path) ≡ true → IsFree subs sub path
usable-free subs sub path within engaged =
    let masks = path_use sub in (
      (both-parts (in_both (allowed_paths masks) masks.installed) masks.available path within).1,
      each-not (λ p. is_engaged subs (slice_get sub.setup.paths p)) path
          (each-within (λ p. is_member (in_both (allowed_paths masks) masks.installed) p && is_member masks.available p) path within) engaged,
    )

pub return-parts : (subs : List Subchannel) (sub : Subchannel) (path : ℕ) → may_return subs sub path ≡ true →
    IsFree subs sub path × (may_reconnect sub.state.hold (available_paths sub) path ≡ true)
return-parts subs sub path e =
    let f : ℕ → Bool = λ p. is_member (available_paths sub) p && may_reconnect sub.state.hold (available_paths sub) p in
    let both = and_parts (is_member (return_paths sub) path) (not (is_member (engaged_paths subs sub) path)) e in
    let parts = and_parts (is_member (available_paths sub) path) (may_reconnect sub.state.hold (available_paths sub) path) (each-true f path both.0) in
    ((parts.0, each-not (λ p. is_engaged subs (slice_get sub.setup.paths p)) path (each-within f path both.0) both.1), parts.1)
