-- A claim that each change of one subchannel keeps is kept where all are changed so: as a path goes down, comes up or is reset, and
-- as the subsystem is reset.
use Rattle.std.proofs.Common.{◌≡◌, refl, sym, ◌∙◌, subst, ℕ, zero, suc, ◌&&◌, Bool, true, false, Option, None, Some, List, [], ◌∷◌, map, arith}
use Rattle.std.specs.Prelude.{slice_get, slice_set, if◌then◌else◌, Contains}
use Rattle.std.proofs.lemmas.List.Elements.{All-nil}
use Rattle.chan_model.specs.declared.names.Side.{Side}
use Rattle.chan_model.specs.declared.signal.OnPath.{OnPath}
use Rattle.chan_model.specs.declared.unit_state.UnitState.{UnitState}
use Rattle.chan_model.specs.ResetCauses.{rests_on}
use Rattle.wires.specs.Queues.{lost}
use Rattle.agreement_laws.specs.Links.{Link, Links}
use Rattle.agreement_laws.specs.Moving.{Loses, still, reset_again}
use Rattle.channel_config.specs.declared.names.SubchannelId.{SubchannelId}
use Rattle.subchannel_model.specs.declared.state.Subchannel.{Subchannel}
use Rattle.subchannel_model.specs.declared.state.SubchannelState.{SubchannelState}
use Rattle.subchannel_model.specs.Losing.{is_offered_or_held, reset_with, path_lost, path_index, loses_at, loses, shows_at, available_pmcw}
use Rattle.subchannel_model.specs.Programs.{has_any}
use Rattle.subchannel_model.specs.SystemReset.{state_reset}
use Rattle.machine_model.specs.declared.state.Sweep.{Sweep}
use Rattle.machine_model.specs.declared.state.Sweep.TheVariants as sweep
use Rattle.machine_model.specs.PathSteps.{swept}
use Rattle.subchannel_model.specs.Indices.{index_in}
use Rattle.run_laws.specs.Beginnings.{StartCounts}
use Rattle.run_laws.proofs.Machine.Growth.{Covers, queue-set, IsLink, Keeps, Reaches, acts, IsReached, reached-by, AreLaws}
use Rattle.run_laws.proofs.Machine.HoldEvents.{IsOfHold, system-turns}
use Rattle.run_laws.proofs.Machine.Linked.{AreLinked, hold-linked, IsStateTold, index-set}
use Rattle.run_laws.proofs.Machine.TraceEvents.{Tells, told-masks}
use Rattle.run_laws.proofs.Machine.Tales.{AreSpent, AreSpentBut, IsTold, told-same}
use Rattle.run_laws.proofs.Machine.Resetting.{reset-waits}

pub map-by-indices : {A : Type 0} (Q : List A → Type 0) (f : A → A) → ((xs : List A) (i : ℕ) (x : A) → slice_get xs i ≡ Some x → Q xs → Q (slice_set xs i (f x))) →
    (xs : List A) → Q xs → Q (map f xs)
map-by-indices Q f step [] q = q
map-by-indices {A} Q f step (x ∷ xs) q =
    map-by-indices (λ (ys : List A). Q (f x ∷ ys)) f (λ ys i y e h. step (f x ∷ ys) (suc i) y e h) xs (step (x ∷ xs) zero x refl q)

-- the wires of a path that is lost
covers-lost : {A : Type 0} (l : List (OnPath A)) (queues : List (List A)) (k : ℕ) → Covers l queues → Covers l (lost queues k)
covers-lost l queues k c = queue-set (λ p x. Contains l (record { path = p; signal = x })) queues k [] c (All-nil (λ x. Contains l (record { path = k; signal = x })))

lost-reached : (sub : Subchannel) (l : Link) (s : SubchannelState) (p : ℕ) → IsLink sub l → Reaches l (record { drawn = s.drawn; hold = s.hold; sent = None }) →
    IsReached l (record sub { state = s; wires = record { down = lost sub.wires.down p; up = lost sub.wires.up p } })
lost-reached sub l s p k r =
    reached-by sub l s None (lost sub.wires.down p) (lost sub.wires.up p) k r (covers-lost r.link.downs sub.wires.down p)
    (λ m c. covers-lost m sub.wires.up p c)

-- the hold loses its path
lost-acted : (s : SubchannelState) (rests shows : Bool) → (if rests then reset_again s.drawn s.hold else still s.drawn s.hold)
    ≡ record { drawn = (if rests then reset_with s shows else s).drawn; hold = (if rests then reset_with s shows else s).hold; sent = None }
lost-acted s true true = refl
lost-acted s true false = refl
lost-acted s false shows = refl

loses_at-hold : Keeps → (sub : Subchannel) (q : Option ℕ) → IsOfHold sub (loses_at q sub)
loses_at-hold keeps sub None = record { setup = refl; reaches = λ l k. record { link = l; leads = λ side u other g. record { good = g; due = λ j d. d }; is = k; accepted = refl } }
loses_at-hold keeps sub (Some p) =
    record {
      setup = refl;
      reaches = λ l k.
          lost-reached sub l (path_lost sub.state p) p k
          (acts keeps l sub.state.drawn sub.state.hold (Loses p) _ tt (record { drawn = k.drawn; hold = k.hold })
          (lost-acted sub.state (rests_on sub.state.hold p) (is_offered_or_held sub.state.hold.phase && has_any sub.state.waiting sub.state.begun sub.state.suspended)));
    }

reset-told : (s : SubchannelState) (k : StartCounts) (w : Links) (side : Side) (shows : Bool) → (is_offered_or_held s.hold.phase && has_any s.waiting s.begun s.suspended) ≡ shows →
    IsTold k s w side → IsTold k (reset_with s shows) w side
reset-told s k w side true e t = told-same k s (reset_with s true) w side refl (omega arith) (reset-waits (AreSpent w side k) (AreSpentBut w side k) s true e t.waits) t
reset-told s k w side false e t = told-same k s (reset_with s false) w side refl (omega arith) (reset-waits (AreSpent w side k) (AreSpentBut w side k) s false e t.waits) t

lost-told : (s : SubchannelState) (k : StartCounts) (w : Links) (side : Side) (rests : Bool) → IsTold k s w side →
    IsTold k (if rests then reset_with s (is_offered_or_held s.hold.phase && has_any s.waiting s.begun s.suspended) else s) w side
lost-told s k w side true t = reset-told s k w side (is_offered_or_held s.hold.phase && has_any s.waiting s.begun s.suspended) refl t
lost-told s k w side false t = t

loses_at-tells : (sub : Subchannel) (q : Option ℕ) (k : StartCounts) → Tells sub (loses_at q sub).state k k
loses_at-tells sub None k w side b t = t
loses_at-tells sub (Some p) k w side b t = lost-told sub.state k w side (rests_on sub.state.hold p) t

-- the path-available mask is nothing to the hold
shows_at-hold : (sub new : Subchannel) (q : Option ℕ) (up : Bool) → IsOfHold sub new → IsOfHold sub (shows_at q up new)
shows_at-hold sub new None up h = h
shows_at-hold sub new (Some p) up h =
    record {
      setup = h.setup;
      reaches = λ l k.
          let r : IsReached l new = h.reaches l k in
          record { link = r.link; leads = r.leads; is = record { drawn = r.is.drawn; hold = r.is.hold; downs = r.is.downs; ups = r.is.ups }; accepted = r.accepted };
    }

shows_at-tells : (sub new : Subchannel) (q : Option ℕ) (up : Bool) (k : StartCounts) → Tells sub new.state k k → Tells sub (shows_at q up new).state k k
shows_at-tells sub new None up k f w side b t = f w side b t
shows_at-tells sub new (Some p) up k f w side b t = told-masks k new.state (available_pmcw new.state.pmcw p up) new.state.scsw w side (f w side b t)

pub swept-hold : Keeps → (what : Sweep) (sub : Subchannel) → IsOfHold sub (swept what sub)
swept-hold keeps (sweep.GoesDown chpid) sub =
    shows_at-hold sub (loses chpid sub) (path_index chpid (loses chpid sub).setup.paths) false (loses_at-hold keeps sub (path_index chpid sub.setup.paths))
swept-hold keeps (sweep.ComesUp chpid) sub = shows_at-hold sub sub (path_index chpid sub.setup.paths) true (loses_at-hold keeps sub None)
swept-hold keeps (sweep.PathReset chpid) sub = loses_at-hold keeps sub (path_index chpid sub.setup.paths)
swept-hold keeps sweep.SystemReset sub = system-turns keeps sub

pub swept-tells : (what : Sweep) (sub : Subchannel) (k : StartCounts) → Tells sub (swept what sub).state k k
swept-tells (sweep.GoesDown chpid) sub k w side b t =
    shows_at-tells sub (loses chpid sub) (path_index chpid (loses chpid sub).setup.paths) false k (loses_at-tells sub (path_index chpid sub.setup.paths) k) w side b t
swept-tells (sweep.ComesUp chpid) sub k w side b t = shows_at-tells sub sub (path_index chpid sub.setup.paths) true k (loses_at-tells sub None k) w side b t
swept-tells (sweep.PathReset chpid) sub k w side b t = loses_at-tells sub (path_index chpid sub.setup.paths) k w side b t
swept-tells sweep.SystemReset sub k w side b t =
    told-same k sub.state (state_reset sub.state) w side refl (omega arith) (record { waiting = tt; begun = tt }) t

module _ (laws : AreLaws) (what : Sweep) where
  swept-linked : (subs : List Subchannel) (units : List UnitState) (which : Option ℕ) (k : StartCounts) → AreLinked subs units which k → AreLinked (map (swept what) subs) units which k
  swept-linked subs units which k l =
      map-by-indices (λ (xs : List Subchannel). AreLinked xs units which k) (swept what)
      (λ xs i x e h. hold-linked laws xs units i x (swept what x) which k k k e (swept-hold laws.keeps what x) (swept-tells what x k) (record { here = λ h. refl; there = λ h. refl }) h)
      subs l

  -- the indices of subchannels stay
  index-swept : (id : SubchannelId) (subs : List Subchannel) → index_in id (map (swept what) subs) ≡ index_in id subs
  index-swept id subs =
      map-by-indices (λ (xs : List Subchannel). index_in id xs ≡ index_in id subs) (swept what)
      (λ xs i x e h. index-set id xs i x (swept what x) e (swept-hold laws.keeps what x).setup ∙ h) subs refl

  pub swept-told : (id : SubchannelId) (k : StartCounts) (subs : List Subchannel) (units : List UnitState) → IsStateTold id k subs units → IsStateTold id k (map (swept what) subs) units
  swept-told id k subs units l =
      record {
        linked = subst (λ (which : Option ℕ). AreLinked (map (swept what) subs) units which k) (sym (index-swept id subs)) (swept-linked subs units (index_in id subs) k l.linked);
        rises = l.rises;
      }
