-- What a path that goes down, comes up or is reset, and a reset of the subsystem, leave of one subchannel.
use Rattle.std.proofs.Common.{◌≡◌, ◌≢◌, refl, sym, ◌∙◌, ap, subst, ℕ, zero, suc, ◌+◌, ◌<◌, ◌||◌, ◌&&◌, Bool, true, false, Option, None, Some, List, [], ◌∷◌, length, slice_index_or, slice_set, if◌then◌else◌, arith}
use Rattle.std.proofs.lemmas.Bool.{or_parts, eq-eqb}
use Rattle.chan_model.specs.PathSets.{is_member}
use Rattle.channel_config.specs.declared.parts.SubchannelSetup.{SubchannelSetup}
use Rattle.chan_model.specs.ResetCauses.{is_path, engaged_path, is_held, is_reset, rests_on}
use Rattle.subchannel_model.specs.declared.state.Subchannel.{Subchannel}
use Rattle.subchannel_model.specs.declared.state.SubchannelState.{SubchannelState}
use Rattle.subchannel_model.specs.Losing.{path_lost, path_index, loses_at, loses, shows_at, goes_down, reset_for}
use Rattle.subchannel_model.specs.SystemReset.{reset_by_system, state_reset}
use Rattle.machine_model.specs.declared.state.Sweep.{Sweep}
use Rattle.machine_model.specs.declared.state.Sweep.TheVariants as sweep
use Rattle.machine_model.specs.PathSteps.{swept}
use Rattle.run_laws.proofs.Machine.WaitingSignals.{lost-each}
use Rattle.run_laws.proofs.Machine.Told.{IsTiedDown, IsTiedUp, IsTold, IsLater, downs-later, ups-later}
use Rattle.run_laws.proofs.Machine.CalmPaths.{IsCalmHold, still-hold, IsReset, reset-hold, reset-is}
use Rattle.run_laws.proofs.Machine.Moving.{calm-later}

-- an element of a list that was set
pub set-here : {A : Type 0} (xs : List A) (k : ℕ) (y d : A) → k < length xs → slice_index_or (slice_set xs k y) k d ≡ y
set-here [] k y d l = absurd (omega (arith, l))
set-here (x ∷ xs) zero y d l = refl
set-here (x ∷ xs) (suc k) y d l = set-here xs k y d (omega (arith, l))

pub set-other : {A : Type 0} (xs : List A) (k : ℕ) (y : A) (i : ℕ) (d : A) → i ≢ k → slice_index_or (slice_set xs k y) i d ≡ slice_index_or xs i d
set-other [] k y i d n = refl
set-other (x ∷ xs) zero y zero d n = absurd (n refl)
set-other (x ∷ xs) zero y (suc i) d n = refl
set-other (x ∷ xs) (suc k) y zero d n = refl
set-other (x ∷ xs) (suc k) y (suc i) d n = set-other xs k y i d (λ e. n (ap suc e))

pub set-default : {A : Type 0} (xs : List A) (k : ℕ) (d : A) → slice_index_or (slice_set xs k d) k d ≡ d
set-default [] k d = refl
set-default (x ∷ xs) zero d = refl
set-default (x ∷ xs) (suc k) d = set-default xs k d

pub member-more : (available : List Bool) (k q : ℕ) → is_member available q ≡ true → is_member (slice_set available k true) q ≡ true
member-more [] k q e = e
member-more (x ∷ xs) zero zero e = refl
member-more (x ∷ xs) zero (suc q) e = e
member-more (x ∷ xs) (suc k) zero e = e
member-more (x ∷ xs) (suc k) (suc q) e = member-more xs k q e

-- no engine serves it anew, that of a path that is lost serves it no more, and what its hold remembers stays
pub record IsSwept (sub after : Subchannel) : Type 0 where
  pub setup : after.setup ≡ sub.setup
  pub engaged : (q : ℕ) → engaged_path after.state.hold.phase ≡ Some q → engaged_path sub.state.hold.phase ≡ Some q
  pub available : (q : ℕ) → engaged_path after.state.hold.phase ≡ Some q → is_member sub.state.pmcw.available q ≡ true → is_member after.state.pmcw.available q ≡ true
  pub told : (accepted : Option ℕ) → IsTold accepted sub → IsTold accepted after

same-swept : (sub : Subchannel) → IsSwept sub sub
same-swept sub = record { setup = refl; engaged = λ q e. e; available = λ q e h. h; told = λ accepted t. t }

-- the hold loses a path
pub record IsLost (s : SubchannelState) (p : ℕ) (x : SubchannelState) : Type 0 where
  pub later : IsLater s.drawn x.drawn s.hold.phase x.hold.phase
  pub available : x.pmcw.available ≡ s.pmcw.available
  pub hold : IsCalmHold s.hold x.hold
  pub without : (q : ℕ) → engaged_path x.hold.phase ≡ Some q → q ≢ p

not-path : (o : Option ℕ) (p q : ℕ) → is_path o p ≡ false → o ≡ Some q → q ≢ p
not-path None p q n e = absurd (cc e)
not-path (Some r) p q n e = λ h. let same : r ≡ q = cc e in absurd (cc (sym (eq-eqb r p (same ∙ h)) ∙ n))

lost-by : (s : SubchannelState) (p : ℕ) (rests : Bool) → rests_on s.hold p ≡ rests → IsLost s p (if rests then reset_for s else s)
lost-by s p true e =
    let r : IsReset s (reset_for s) = reset-is s in
    record { later = calm-later s (reset_for s) r.drawn r.hold; available = r.available; hold = r.hold; without = λ q h. absurd (r.disengaged q h) }
lost-by s p false e =
    record {
      later = calm-later s s (omega arith) (still-hold s.hold);
      available = refl;
      hold = still-hold s.hold;
      without = λ q h.
          not-path (engaged_path s.hold.phase) p q
          (or_parts (is_path (engaged_path s.hold.phase) p)
          ((is_held s.hold.phase && (s.hold.single_path && is_path s.hold.first_path p)) || (is_reset s.hold.phase && is_path s.hold.reset_path p)) e).0 h;
    }

pub is-lost : (s : SubchannelState) (p : ℕ) → IsLost s p (path_lost s p)
is-lost s p = lost-by s p (rests_on s.hold p) refl

loses-told : (sub : Subchannel) (p : ℕ) (accepted : Option ℕ) → IsTold accepted sub → IsTold accepted (loses_at (Some p) sub)
loses-told sub p accepted t =
    let l : IsLost sub.state p (path_lost sub.state p) = is-lost sub.state p in
    let x : SubchannelState = path_lost sub.state p in
    record {
      remembers = l.hold.remembers accepted t.remembers;
      downs = lost-each (IsTiedDown x.drawn x.hold.phase) sub.wires.down p
          (downs-later sub.state.drawn x.drawn sub.state.hold.phase x.hold.phase sub.wires.down l.later t.downs);
      ups = lost-each (IsTiedUp x.drawn x.hold.phase) sub.wires.up p
          (ups-later sub.state.drawn x.drawn sub.state.hold.phase x.hold.phase sub.wires.up l.later t.ups);
    }

loses-swept : (sub : Subchannel) (o : Option ℕ) → IsSwept sub (loses_at o sub)
loses-swept sub None = same-swept sub
loses-swept sub (Some p) =
    let l : IsLost sub.state p (path_lost sub.state p) = is-lost sub.state p in
    record {
      setup = refl;
      engaged = l.hold.engaged;
      available = λ q e h. subst (λ (set : List Bool). is_member set q ≡ true) (sym l.available) h;
      told = loses-told sub p;
    }

down-swept : (sub : Subchannel) (o : Option ℕ) → IsSwept sub (shows_at o false (loses_at o sub))
down-swept sub None = same-swept sub
down-swept sub (Some p) =
    let l : IsLost sub.state p (path_lost sub.state p) = is-lost sub.state p in
    record {
      setup = refl;
      engaged = l.hold.engaged;
      available = λ q e h.
          set-other (path_lost sub.state p).pmcw.available p false q false (l.without q e)
          ∙ subst (λ (set : List Bool). is_member set q ≡ true) (sym l.available) h;
      told = λ accepted t. let k = loses-told sub p accepted t in record { remembers = k.remembers; downs = k.downs; ups = k.ups };
    }

up-swept : (sub : Subchannel) (o : Option ℕ) → IsSwept sub (shows_at o true sub)
up-swept sub None = same-swept sub
up-swept sub (Some p) = record {
  setup = refl;
  engaged = λ q e. e;
  available = λ q e h. member-more sub.state.pmcw.available p q h;
  told = λ accepted t. record { remembers = t.remembers; downs = t.downs; ups = t.ups };
}

system-swept : (sub : Subchannel) → IsSwept sub (reset_by_system sub)
system-swept sub =
    let s : SubchannelState = sub.state in
    let k : IsCalmHold s.hold (state_reset s).hold = reset-hold s.hold (s.drawn + 1) s.hold.known_restarts in
    let later : IsLater s.drawn (s.drawn + 1) s.hold.phase (state_reset s).hold.phase = calm-later s (state_reset s) (omega arith) k in
    record {
      setup = refl;
      engaged = λ q e. absurd (cc e);
      available = λ q e h. h;
      told = λ accepted t. record {
        remembers = k.remembers accepted t.remembers;
        downs = downs-later s.drawn (s.drawn + 1) s.hold.phase (state_reset s).hold.phase sub.wires.down later t.downs;
        ups = ups-later s.drawn (s.drawn + 1) s.hold.phase (state_reset s).hold.phase sub.wires.up later t.ups;
      };
    }

-- a path that goes down is looked for once
loses-setup : (sub : Subchannel) (o : Option ℕ) → (loses_at o sub).setup ≡ sub.setup
loses-setup sub None = refl
loses-setup sub (Some p) = refl

pub down-at : (chpid : ℕ) (sub : Subchannel) →
    goes_down chpid sub ≡ shows_at (path_index chpid sub.setup.paths) false (loses_at (path_index chpid sub.setup.paths) sub)
down-at chpid sub =
    ap (λ (paths : List ℕ). shows_at (path_index chpid paths) false (loses chpid sub))
    (ap (λ (setup : SubchannelSetup). setup.paths) (loses-setup sub (path_index chpid sub.setup.paths)))

pub is-swept : (what : Sweep) (sub : Subchannel) → IsSwept sub (swept what sub)
is-swept (sweep.GoesDown chpid) sub =
    subst (λ (after : Subchannel). IsSwept sub after) (sym (down-at chpid sub)) (down-swept sub (path_index chpid sub.setup.paths))
is-swept (sweep.ComesUp chpid) sub = up-swept sub (path_index chpid sub.setup.paths)
is-swept (sweep.PathReset chpid) sub = loses-swept sub (path_index chpid sub.setup.paths)
is-swept sweep.SystemReset sub = system-swept sub
