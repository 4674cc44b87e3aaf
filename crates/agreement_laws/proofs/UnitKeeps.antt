-- What a unit does keeps what holds of each of its links.
use Rattle.std.proofs.Common.{◌≡◌, ◌≢◌, ℕ, ◌+◌, ◌<◌, ◌≤◌, inl, inr, Option, None, Some, List, refl, sym, subst, arith}
use Rattle.std.specs.Prelude.{All, IfSome}
use Rattle.std.proofs.lemmas.Bool.{cases_lt}
use Rattle.std.proofs.lemmas.List.Elements.{All-weaker}
use Rattle.chan_model.specs.declared.hold_state.HoldPhase.{HoldPhase}
use Rattle.chan_model.specs.declared.hold_state.HoldPhase.TheVariants as hold
use Rattle.chan_model.specs.declared.signal.OnPath.{OnPath}
use Rattle.chan_model.specs.Signals.{Down}
use Rattle.chan_model.specs.Signals.{Up}
use Rattle.chan_model.specs.declared.signal.Up.TheVariants as up
use Rattle.chan_model.specs.declared.unit_state.Connection.{Connection}
use Rattle.chan_model.specs.declared.unit_state.Connection.TheVariants.{On, Ask, Away}
use Rattle.agreement_laws.specs.Links.{with_accepted}
use Rattle.agreement_laws.specs.Invariant.{SideSeen, Idle, Fresh, Owns, Ends, ends_seen, IsJoined, IsParted, IsPaired, IsNotHeld, AreEndsGood, IsSelectGood, IsReleaseGood, IsNotDue, IsResetTo, IsResetGood, IsAskedOn, IsGrantGood, IsDownGood, IsAcceptGood, IsNotOwned, IsBackGood, IsUpGood}
use Rattle.agreement_laws.proofs.Frames.{downs-by, ups-by, IsNew, IsPlainUp, plain-up, plain-new}

abbrev pub IsPlainSent : Option (OnPath Up) → Type 0
IsPlainSent None = Unit {0}
IsPlainSent (Some x) = IsPlainUp x.signal

abbrev pub by_path : ℕ → Up → Option (OnPath Up)
by_path p u = Some (record { path = p; signal = u })

abbrev pub IsNotFresh : SideSeen → Type 0
IsNotFresh Fresh = ⊥
IsNotFresh o = Unit {0}

-- the last connection of a connection that is not connected
abbrev pub IsOff : Connection → ℕ → Type 0
IsOff (On q d) c = ⊥
IsOff (Ask q d) c = d ≡ c
IsOff (Away d) c = d ≡ c

-- both ends, and both after an act of the unit with what it sends
pub data UnitMoves : Ends → Ends → Option (OnPath Up) → Type 0 where
  Stays : (e x : Ends) (sent : Option (OnPath Up)) → x ≡ e → IsPlainSent sent → UnitMoves e x sent
  Accepts : (n : ℕ) (h : HoldPhase) (s k b f p t : ℕ) → f < t → t ≤ n → IsSelectGood h f p t → UnitMoves (ends_seen n h s k b f Idle) (ends_seen n h s k b t (Owns t (On p 0))) (by_path p (up.Accept t))
  Is_busy : (n : ℕ) (h : HoldPhase) (s k b f p t : ℕ) (o : SideSeen) → IsNotFresh o → f < t → t ≤ n → IsSelectGood h f p t → UnitMoves (ends_seen n h s k b f o) (ends_seen n h s k b t o) (by_path p (up.Busy t))
  Is_granted : (n : ℕ) (h : HoldPhase) (s k b f t q c : ℕ) → IsGrantGood h s (Owns t (Ask q c)) t c → UnitMoves (ends_seen n h s k b f (Owns t (Ask q c))) (ends_seen n h s k b f (Owns t (On q c))) None
  Is_refused : (n : ℕ) (h : HoldPhase) (s k b f t q c : ℕ) → UnitMoves (ends_seen n h s k b f (Owns t (Ask q c))) (ends_seen n h s k b f (Owns t (Away c))) None
  Releases : (n : ℕ) (h : HoldPhase) (s k b f p t : ℕ) (connection : Connection) → IsReleaseGood h t → UnitMoves (ends_seen n h s k b f (Owns t connection)) (ends_seen n h s k b f Idle) (by_path p (up.Released t))
  Clears : (n : ℕ) (h : HoldPhase) (s k b f p r : ℕ) (o : SideSeen) → f < r → r ≤ n → IsResetTo h r → UnitMoves (ends_seen n h s k b f o) (ends_seen n h s k b r Idle) (by_path p (up.Cleared r))
  Leaves : (n : ℕ) (h : HoldPhase) (s k b f t q c p d : ℕ) → UnitMoves (ends_seen n h s k b f (Owns t (On q c))) (ends_seen n h s k b f (Owns t (Away c))) (by_path p (up.Leave t d))
  Asks : (n : ℕ) (h : HoldPhase) (s k b f t p c : ℕ) (connection : Connection) → IsOff connection c → UnitMoves (ends_seen n h s k b f (Owns t connection)) (ends_seen n h s k b f (Owns t (Ask p (c + 1)))) (by_path p (up.Back t (c + 1)))
  Restarts : (n : ℕ) (h : HoldPhase) (s k b f : ℕ) (o : SideSeen) → UnitMoves (ends_seen n h s k b f o) (ends_seen n h s k (b + 1) f Fresh) None
  Tells : (n : ℕ) (h : HoldPhase) (s k b f p : ℕ) (o : SideSeen) → UnitMoves (ends_seen n h s k b f o) (ends_seen n h s k b f o) (by_path p (up.Notice b))

pub record IsUnitKept (e x : Ends) (u : Option (OnPath Up)) : Type 0 where
  pub ends : AreEndsGood x
  pub downs : (p : ℕ) (d : Down) → IsDownGood e p d → IsDownGood x p d
  pub floor : e.floor ≤ x.floor
  pub new : IsNew e.floor x.floor u
  pub ups : (ts : List ℕ) (p : ℕ) (s : Up) → IsUpGood e ts p s → IsUpGood x (with_accepted ts u) p s
  pub sent : (ts : List ℕ) → All (λ a. a ≤ e.floor) ts → IfSome u (λ y. IsUpGood x (with_accepted ts u) y.path y.signal)

-- a higher floor
select-rises : (h : HoldPhase) (f g q u : ℕ) → f ≤ g → IsSelectGood h f q u → IsSelectGood h g q u
select-rises hold.Free f g q u le y = omega (arith, le, y)
select-rises (hold.Offer t p) f g q u le y = elim y [ inl z ↦ inl (omega arith) | inr z ↦ inr z ]
select-rises (hold.On t p c) f g q u le y = omega (arith, le, y)
select-rises (hold.Away t) f g q u le y = omega (arith, le, y)
select-rises (hold.Letting t p) f g q u le y = omega (arith, le, y)
select-rises (hold.Reset r) f g q u le y = elim y [ inl z ↦ inl (omega arith) | inr z ↦ inr z ]

reset-rises : (n : ℕ) (h : HoldPhase) (s k b f g : ℕ) (o v : SideSeen) → f ≤ g → ((c : ℕ) → IsNotDue v c b) → (r c : ℕ) →
    IsResetGood (ends_seen n h s k b f o) r c → IsResetGood (ends_seen n h s k b g v) r c
reset-rises n h s k b f g o v le due r c y = elim y [
  | inl z ↦ inl (omega (arith, z.0), due c)
  | inr z ↦ elim (cases_lt g r) [ inl w ↦ inr (w, z.1) | inr w ↦ inl (w, due c) ]
]

-- a Busy of a unit that is not fresh does not make a Reset due
busy-resets : (n : ℕ) (h : HoldPhase) (s k b f g : ℕ) (o : SideSeen) → IsNotFresh o → f ≤ g → (r c : ℕ) →
    IsResetGood (ends_seen n h s k b f o) r c → IsResetGood (ends_seen n h s k b g o) r c
busy-resets n h s k b f g Idle i le r c y = reset-rises n h s k b f g Idle Idle le (λ d. tt) r c y
busy-resets n h s k b f g Fresh i le r c y = absurd i
busy-resets n h s k b f g (Owns t connection) i le r c y = reset-rises n h s k b f g (Owns t connection) (Owns t connection) le (λ d. tt) r c y

-- another unit under a Grant
grant-seen : (h : HoldPhase) (s t c : ℕ) (o v : SideSeen) → ((p d : ℕ) → IsAskedOn v p d t c) → IsGrantGood h s o t c → IsGrantGood h s v t c
grant-seen hold.Free s t c o v k g = tt
grant-seen (hold.Offer u p) s t c o v k g = g
grant-seen (hold.On u p d) s t c o v k g = elim g [ inl y ↦ inl y | inr y ↦ inr (y.0, y.1, k p d) ]
grant-seen (hold.Away u) s t c o v k g = g
grant-seen (hold.Letting u p) s t c o v k g = tt
grant-seen (hold.Reset r) s t c o v k g = tt

accept-owned : (h : HoldPhase) (v : ℕ) (connection : Connection) (t : ℕ) → IsAcceptGood h (Owns v connection) t
accept-owned hold.Free v connection t = tt
accept-owned (hold.Offer u p) v connection t = tt
accept-owned (hold.On u p c) v connection t = tt
accept-owned (hold.Away u) v connection t = tt
accept-owned (hold.Letting u p) v connection t = tt
accept-owned (hold.Reset r) v connection t = tt

accept-fresh : (h : HoldPhase) (t : ℕ) → IsAcceptGood h Fresh t
accept-fresh hold.Free t = tt
accept-fresh (hold.Offer u p) t = tt
accept-fresh (hold.On u p c) t = tt
accept-fresh (hold.Away u) t = tt
accept-fresh (hold.Letting u p) t = tt
accept-fresh (hold.Reset r) t = tt

-- a Select is accepted
accepted-paired : (h : HoldPhase) (s f p t : ℕ) → f < t → IsSelectGood h f p t → IsPaired h s t t (On p 0)
accepted-paired hold.Free s f p t lt y = absurd (omega (arith, lt, y))
accepted-paired (hold.Offer u q) s f p t lt y = elim y [ inl z ↦ absurd (omega arith) | inr z ↦ (z.0, (refl, z.1, refl)) ]
accepted-paired (hold.On u q c) s f p t lt y = absurd (omega (arith, lt, y))
accepted-paired (hold.Away u) s f p t lt y = absurd (omega (arith, lt, y))
accepted-paired (hold.Letting u q) s f p t lt y = absurd (omega (arith, lt, y))
accepted-paired (hold.Reset r) s f p t lt y = elim y [ inl z ↦ absurd (omega arith) | inr z ↦ z ]

accepts-kept : (n : ℕ) (h : HoldPhase) (s k b f p t : ℕ) → f < t → t ≤ n → IsSelectGood h f p t → AreEndsGood (ends_seen n h s k b f Idle) →
    IsUnitKept (ends_seen n h s k b f Idle) (ends_seen n h s k b t (Owns t (On p 0))) (by_path p (up.Accept t))
accepts-kept n h s k b f p t lt tn y g =
    record {
      ends = record { floor = tn; number = g.number; known_restarts = g.known_restarts; owned = omega arith; matched = accepted-paired h s f p t lt y };
      downs = downs-by (ends_seen n h s k b f Idle) (ends_seen n h s k b t (Owns t (On p 0))) (omega arith) (omega arith)
          (λ q u le z. select-rises h f t q u (omega arith) z) (λ u le z. z)
          (λ r c le lb z. reset-rises n h s k b f t Idle (Owns t (On p 0)) (omega arith) (λ d. tt) r c z)
          (λ u c le z. grant-seen h s u c Idle (Owns t (On p 0)) (λ q d. tt) z);
      floor = omega arith;
      new = (lt, omega arith);
      ups = ups-by (ends_seen n h s k b f Idle) (ends_seen n h s k b t (Owns t (On p 0))) (by_path p (up.Accept t)) (omega arith) (omega arith) (lt, omega arith)
          (λ u le z. accept-owned h t (On p 0) u) (λ u le z. λ e. omega arith) (λ q u c le z. λ e. absurd (omega arith));
      sent = λ ts all. (omega arith, accept-owned h t (On p 0) t);
    }

-- a Select is answered Busy
busy-paired : (h : HoldPhase) (s f p t v : ℕ) (connection : Connection) → f < t → IsSelectGood h f p t → IsPaired h s f v connection → IsPaired h s t v connection
busy-paired hold.Free s f p t v connection lt y m = m
busy-paired (hold.Offer u q) s f p t v connection lt y m = m
busy-paired (hold.On u q c) s f p t v connection lt y m = m
busy-paired (hold.Away u) s f p t v connection lt y m = m
busy-paired (hold.Letting u q) s f p t v connection lt y m = m
busy-paired (hold.Reset r) s f p t v connection lt y m = elim y [ inl z ↦ absurd (omega arith) | inr z ↦ z ]

busy-not_owned : (o : SideSeen) (f t : ℕ) (n : ℕ) (h : HoldPhase) (s k b : ℕ) → f < t → AreEndsGood (ends_seen n h s k b f o) → IsNotOwned o t
busy-not_owned Idle f t n h s k b lt g = tt
busy-not_owned Fresh f t n h s k b lt g = tt
busy-not_owned (Owns v connection) f t n h s k b lt g = λ e. omega (arith, g.owned)

owned-below : (n : ℕ) (h : HoldPhase) (s k b f t : ℕ) (o : SideSeen) (p : ℕ) → IsNotFresh o → f < t → t ≤ n → IsSelectGood h f p t →
    AreEndsGood (ends_seen n h s k b f o) → AreEndsGood (ends_seen n h s k b t o)
owned-below n h s k b f t Idle p i lt tn y g =
    record { floor = tn; number = g.number; known_restarts = g.known_restarts; owned = tt; matched = g.matched }
owned-below n h s k b f t Fresh p i lt tn y g = absurd i
owned-below n h s k b f t (Owns v connection) p i lt tn y g =
    record { floor = tn; number = g.number; known_restarts = g.known_restarts; owned = omega (arith, g.owned); matched = busy-paired h s f p t v connection lt y g.matched }

is_busy-kept : (n : ℕ) (h : HoldPhase) (s k b f p t : ℕ) (o : SideSeen) → IsNotFresh o → f < t → t ≤ n → IsSelectGood h f p t → AreEndsGood (ends_seen n h s k b f o) →
    IsUnitKept (ends_seen n h s k b f o) (ends_seen n h s k b t o) (by_path p (up.Busy t))
is_busy-kept n h s k b f p t o i lt tn y g =
    record {
      ends = owned-below n h s k b f t o p i lt tn y g;
      downs = downs-by (ends_seen n h s k b f o) (ends_seen n h s k b t o) (omega arith) (omega arith)
          (λ q u le z. select-rises h f t q u (omega arith) z) (λ u le z. z)
          (λ r c le lb z. busy-resets n h s k b f t o i (omega arith) r c z) (λ u c le z. z);
      floor = omega arith;
      new = tt;
      ups = ups-by (ends_seen n h s k b f o) (ends_seen n h s k b t o) (by_path p (up.Busy t)) (omega arith) (omega arith) tt
          (λ u le z. z) (λ u le z. z) (λ q u c le z. z);
      sent = λ ts all. (omega arith, busy-not_owned o f t n h s k b lt g, All-weaker (λ a. a ≤ f) (λ a. a ≢ t) (λ a le e. omega arith) ts all);
    }

-- a Grant is taken
granted-joined : (p d s q c t : ℕ) → IsJoined p d s (Ask q c) → c ≤ s → IsAskedOn (Owns t (Ask q c)) p d t c → IsJoined p d s (On q c)
granted-joined p d s q c t j le a = (omega arith, (a refl refl).0, (a refl refl).1)

granted-paired : (h : HoldPhase) (s f t q c : ℕ) → IsGrantGood h s (Owns t (Ask q c)) t c → IsPaired h s f t (Ask q c) → IsPaired h s f t (On q c)
granted-paired hold.Free s f t q c g m = m
granted-paired (hold.Offer u p) s f t q c g m = absurd (omega (arith, g, m.0))
granted-paired (hold.On u p d) s f t q c g m = elim g [
  | inl y ↦ absurd (omega (arith, y, m.0))
  | inr y ↦ (m.0, granted-joined p d s q c t m.1 y.1 y.2)
]
granted-paired (hold.Away u) s f t q c g m = elim g [ inl y ↦ absurd (omega (arith, y, m.0)) | inr y ↦ (m.0, omega (arith, m.1, y.1)) ]
granted-paired (hold.Letting u p) s f t q c g m = m
granted-paired (hold.Reset r) s f t q c g m = m

is_granted-kept : (n : ℕ) (h : HoldPhase) (s k b f t q c : ℕ) → IsGrantGood h s (Owns t (Ask q c)) t c → AreEndsGood (ends_seen n h s k b f (Owns t (Ask q c))) →
    IsUnitKept (ends_seen n h s k b f (Owns t (Ask q c))) (ends_seen n h s k b f (Owns t (On q c))) None
is_granted-kept n h s k b f t q c y g =
    record {
      ends = record { floor = g.floor; number = g.number; known_restarts = g.known_restarts; owned = g.owned; matched = granted-paired h s f t q c y g.matched };
      downs = downs-by (ends_seen n h s k b f (Owns t (Ask q c))) (ends_seen n h s k b f (Owns t (On q c))) (omega arith) (omega arith)
          (λ p u le z. z) (λ u le z. z) (λ r d le lb z. z)
          (λ u d le z. grant-seen h s u d (Owns t (Ask q c)) (Owns t (On q c)) (λ p e. tt) z);
      floor = omega arith;
      new = tt;
      ups = ups-by (ends_seen n h s k b f (Owns t (Ask q c))) (ends_seen n h s k b f (Owns t (On q c))) None (omega arith) (omega arith) tt
          (λ u le z. accept-owned h t (On q c) u) (λ u le z. z) (λ p u d le z. λ e. (z e).0);
      sent = λ ts all. tt;
    }

-- a Refuse is taken, or the path is left
refused-paired : (h : HoldPhase) (s f t q c : ℕ) → IsPaired h s f t (Ask q c) → IsPaired h s f t (Away c)
refused-paired hold.Free s f t q c m = m
refused-paired (hold.Offer u p) s f t q c m = m
refused-paired (hold.On u p d) s f t q c m = m
refused-paired (hold.Away u) s f t q c m = m
refused-paired (hold.Letting u p) s f t q c m = m
refused-paired (hold.Reset r) s f t q c m = m

is_refused-kept : (n : ℕ) (h : HoldPhase) (s k b f t q c : ℕ) → AreEndsGood (ends_seen n h s k b f (Owns t (Ask q c))) →
    IsUnitKept (ends_seen n h s k b f (Owns t (Ask q c))) (ends_seen n h s k b f (Owns t (Away c))) None
is_refused-kept n h s k b f t q c g =
    record {
      ends = record { floor = g.floor; number = g.number; known_restarts = g.known_restarts; owned = g.owned; matched = refused-paired h s f t q c g.matched };
      downs = downs-by (ends_seen n h s k b f (Owns t (Ask q c))) (ends_seen n h s k b f (Owns t (Away c))) (omega arith) (omega arith)
          (λ p u le z. z) (λ u le z. z) (λ r d le lb z. z)
          (λ u d le z. grant-seen h s u d (Owns t (Ask q c)) (Owns t (Away c)) (λ p e. tt) z);
      floor = omega arith;
      new = tt;
      ups = ups-by (ends_seen n h s k b f (Owns t (Ask q c))) (ends_seen n h s k b f (Owns t (Away c))) None (omega arith) (omega arith) tt
          (λ u le z. accept-owned h t (Away c) u) (λ u le z. z) (λ p u d le z. λ e. (z e).0);
      sent = λ ts all. tt;
    }

left-paired : (h : HoldPhase) (s f t q c : ℕ) → IsPaired h s f t (On q c) → IsPaired h s f t (Away c)
left-paired hold.Free s f t q c m = m
left-paired (hold.Offer u p) s f t q c m = (m.0, omega arith)
left-paired (hold.On u p d) s f t q c m = (m.0, omega (arith, m.1.0))
left-paired (hold.Away u) s f t q c m = (m.0, omega (arith, m.1))
left-paired (hold.Letting u p) s f t q c m = m
left-paired (hold.Reset r) s f t q c m = m

leaves-kept : (n : ℕ) (h : HoldPhase) (s k b f t q c p d : ℕ) → AreEndsGood (ends_seen n h s k b f (Owns t (On q c))) →
    IsUnitKept (ends_seen n h s k b f (Owns t (On q c))) (ends_seen n h s k b f (Owns t (Away c))) (by_path p (up.Leave t d))
leaves-kept n h s k b f t q c p d g =
    record {
      ends = record { floor = g.floor; number = g.number; known_restarts = g.known_restarts; owned = g.owned; matched = left-paired h s f t q c g.matched };
      downs = downs-by (ends_seen n h s k b f (Owns t (On q c))) (ends_seen n h s k b f (Owns t (Away c))) (omega arith) (omega arith)
          (λ x u le z. z) (λ u le z. z) (λ r y le lb z. z)
          (λ u y le z. grant-seen h s u y (Owns t (On q c)) (Owns t (Away c)) (λ x e. tt) z);
      floor = omega arith;
      new = tt;
      ups = ups-by (ends_seen n h s k b f (Owns t (On q c))) (ends_seen n h s k b f (Owns t (Away c))) (by_path p (up.Leave t d)) (omega arith) (omega arith) tt
          (λ u le z. accept-owned h t (Away c) u) (λ u le z. z) (λ x u y le z. z);
      sent = λ ts all. tt;
    }

-- a Release is taken
released-held : (h : HoldPhase) (s f t : ℕ) (connection : Connection) → IsReleaseGood h t → IsPaired h s f t connection → IsNotHeld h
released-held hold.Free s f t connection y m = tt
released-held (hold.Offer u p) s f t connection y m = tt
released-held (hold.On u p c) s f t connection y m = omega (arith, y, m.0)
released-held (hold.Away u) s f t connection y m = omega (arith, y, m.0)
released-held (hold.Letting u p) s f t connection y m = tt
released-held (hold.Reset r) s f t connection y m = tt

released-accept : (h : HoldPhase) (s f t u : ℕ) (connection : Connection) → IsReleaseGood h t → IsPaired h s f t connection → IsAcceptGood h Idle u
released-accept hold.Free s f t u connection y m = tt
released-accept (hold.Offer v p) s f t u connection y m = absurd (omega (arith, y, m.0))
released-accept (hold.On v p c) s f t u connection y m = tt
released-accept (hold.Away v) s f t u connection y m = tt
released-accept (hold.Letting v p) s f t u connection y m = tt
released-accept (hold.Reset r) s f t u connection y m = tt

releases-kept : (n : ℕ) (h : HoldPhase) (s k b f p t : ℕ) (connection : Connection) → IsReleaseGood h t → AreEndsGood (ends_seen n h s k b f (Owns t connection)) →
    IsUnitKept (ends_seen n h s k b f (Owns t connection)) (ends_seen n h s k b f Idle) (by_path p (up.Released t))
releases-kept n h s k b f p t connection y g =
    record {
      ends = record { floor = g.floor; number = g.number; known_restarts = g.known_restarts; owned = tt; matched = released-held h s f t connection y g.matched };
      downs = downs-by (ends_seen n h s k b f (Owns t connection)) (ends_seen n h s k b f Idle) (omega arith) (omega arith)
          (λ q u le z. z) (λ u le z. z) (λ r d le lb z. z)
          (λ u d le z. grant-seen h s u d (Owns t connection) Idle (λ q e. tt) z);
      floor = omega arith;
      new = tt;
      ups = ups-by (ends_seen n h s k b f (Owns t connection)) (ends_seen n h s k b f Idle) (by_path p (up.Released t)) (omega arith) (omega arith) tt
          (λ u le z. released-accept h s f t u connection y g.matched) (λ u le z. tt) (λ q u d le z. tt);
      sent = λ ts all. (g.owned, tt);
    }

-- a Reset is taken
cleared-held : (h : HoldPhase) (r : ℕ) → IsResetTo h r → IsNotHeld h
cleared-held hold.Free r y = tt
cleared-held (hold.Offer u p) r y = tt
cleared-held (hold.On u p c) r y = y
cleared-held (hold.Away u) r y = y
cleared-held (hold.Letting u p) r y = tt
cleared-held (hold.Reset v) r y = tt

cleared-accept : (h : HoldPhase) (r u : ℕ) → IsResetTo h r → IsAcceptGood h Idle u
cleared-accept hold.Free r u y = tt
cleared-accept (hold.Offer v p) r u y = absurd y
cleared-accept (hold.On v p c) r u y = tt
cleared-accept (hold.Away v) r u y = tt
cleared-accept (hold.Letting v p) r u y = tt
cleared-accept (hold.Reset v) r u y = tt

clears-kept : (n : ℕ) (h : HoldPhase) (s k b f p r : ℕ) (o : SideSeen) → f < r → r ≤ n → IsResetTo h r → AreEndsGood (ends_seen n h s k b f o) →
    IsUnitKept (ends_seen n h s k b f o) (ends_seen n h s k b r Idle) (by_path p (up.Cleared r))
clears-kept n h s k b f p r o lt rn y g =
    record {
      ends = record { floor = rn; number = g.number; known_restarts = g.known_restarts; owned = tt; matched = cleared-held h r y };
      downs = downs-by (ends_seen n h s k b f o) (ends_seen n h s k b r Idle) (omega arith) (omega arith)
          (λ q u le z. select-rises h f r q u (omega arith) z) (λ u le z. z)
          (λ v c le lb z. reset-rises n h s k b f r o Idle (omega arith) (λ d. tt) v c z)
          (λ u c le z. grant-seen h s u c o Idle (λ q d. tt) z);
      floor = omega arith;
      new = tt;
      ups = ups-by (ends_seen n h s k b f o) (ends_seen n h s k b r Idle) (by_path p (up.Cleared r)) (omega arith) (omega arith) tt
          (λ u le z. cleared-accept h r u y) (λ u le z. tt) (λ q u c le z. tt);
      sent = λ ts all. omega arith;
    }

-- a path is asked for
asked-joined : (p d s c : ℕ) (q : ℕ) (connection : Connection) → IsOff connection c → IsJoined p d s connection → IsJoined p d s (Ask q (c + 1))
asked-joined p d s c q (On x y) i j = absurd i
asked-joined p d s c q (Ask x y) i j = omega (arith, i, j)
asked-joined p d s c q (Away y) i j = omega (arith, i, j)

asked-parted : (s c q : ℕ) (connection : Connection) → IsOff connection c → IsParted s connection → IsParted s (Ask q (c + 1))
asked-parted s c q (On x y) i j = absurd i
asked-parted s c q (Ask x y) i j = omega (arith, i, j)
asked-parted s c q (Away y) i j = omega (arith, i, j)

asked-paired : (h : HoldPhase) (s f t q c : ℕ) (connection : Connection) → IsOff connection c → IsPaired h s f t connection → IsPaired h s f t (Ask q (c + 1))
asked-paired hold.Free s f t q c connection i m = m
asked-paired (hold.Offer u p) s f t q c connection i m = (m.0, asked-joined p 0 0 c q connection i m.1)
asked-paired (hold.On u p d) s f t q c connection i m = (m.0, asked-joined p d s c q connection i m.1)
asked-paired (hold.Away u) s f t q c connection i m = (m.0, asked-parted s c q connection i m.1)
asked-paired (hold.Letting u p) s f t q c connection i m = m
asked-paired (hold.Reset r) s f t q c connection i m = m

seen-below : (p d s c : ℕ) (connection : Connection) → IsOff connection c → IsJoined p d s connection → s ≤ c
seen-below p d s c (On x y) i j = absurd i
seen-below p d s c (Ask x y) i j = omega (arith, i, j)
seen-below p d s c (Away y) i j = omega (arith, i, j)

asked-grant : (h : HoldPhase) (s f t q c u x : ℕ) (connection : Connection) → IsOff connection c → IsPaired h s f t connection →
    IsGrantGood h s (Owns t connection) u x → IsGrantGood h s (Owns t (Ask q (c + 1))) u x
asked-grant hold.Free s f t q c u x connection i m g = tt
asked-grant (hold.Offer v p) s f t q c u x connection i m g = g
asked-grant (hold.On v p d) s f t q c u x connection i m g = elim g [
  | inl y ↦ inl y
  | inr y ↦ let below : s ≤ c = seen-below p d s c connection i m.1 in inr (y.0, y.1, λ e j. absurd (omega (arith, y.1)))
]
asked-grant (hold.Away v) s f t q c u x connection i m g = g
asked-grant (hold.Letting v p) s f t q c u x connection i m g = tt
asked-grant (hold.Reset r) s f t q c u x connection i m g = tt

asked-back : (t q c a x u : ℕ) (connection : Connection) → IsOff connection c → IsBackGood (Owns t connection) a u x → IsBackGood (Owns t (Ask q (c + 1))) a u x
asked-back t q c a x u (On y d) i g = absurd i
asked-back t q c a x u (Ask y d) i g = λ e. let le : x ≤ d = (g e).0 in (omega arith, λ j. absurd (omega arith))
asked-back t q c a x u (Away d) i g = λ e. let le : x ≤ d = g e in (omega arith, λ j. absurd (omega arith))

asks-kept : (n : ℕ) (h : HoldPhase) (s k b f t p c : ℕ) (connection : Connection) → IsOff connection c → AreEndsGood (ends_seen n h s k b f (Owns t connection)) →
    IsUnitKept (ends_seen n h s k b f (Owns t connection)) (ends_seen n h s k b f (Owns t (Ask p (c + 1)))) (by_path p (up.Back t (c + 1)))
asks-kept n h s k b f t p c connection i g =
    record {
      ends = record { floor = g.floor; number = g.number; known_restarts = g.known_restarts; owned = g.owned; matched = asked-paired h s f t p c connection i g.matched };
      downs = downs-by (ends_seen n h s k b f (Owns t connection)) (ends_seen n h s k b f (Owns t (Ask p (c + 1)))) (omega arith) (omega arith)
          (λ q u le z. z) (λ u le z. z) (λ r d le lb z. z)
          (λ u d le z. asked-grant h s f t p c u d connection i g.matched z);
      floor = omega arith;
      new = tt;
      ups = ups-by (ends_seen n h s k b f (Owns t connection)) (ends_seen n h s k b f (Owns t (Ask p (c + 1)))) (by_path p (up.Back t (c + 1))) (omega arith) (omega arith) tt
          (λ u le z. accept-owned h t (Ask p (c + 1)) u) (λ u le z. z) (λ q u d le z. asked-back t p c q d u connection i z);
      sent = λ ts all. (g.owned, λ e. (omega arith, λ j. refl));
    }

-- the device is restarted
restarted-resets : (n : ℕ) (h : HoldPhase) (s k b f : ℕ) (o : SideSeen) (r c : ℕ) → c ≤ b →
    IsResetGood (ends_seen n h s k b f o) r c → IsResetGood (ends_seen n h s k (b + 1) f Fresh) r c
restarted-resets n h s k b f o r c le y = elim y [ inl z ↦ inl (z.0, omega arith) | inr z ↦ inr z ]

restarts-kept : (n : ℕ) (h : HoldPhase) (s k b f : ℕ) (o : SideSeen) → AreEndsGood (ends_seen n h s k b f o) →
    IsUnitKept (ends_seen n h s k b f o) (ends_seen n h s k (b + 1) f Fresh) None
restarts-kept n h s k b f o g =
    record {
      ends = record { floor = g.floor; number = g.number; known_restarts = omega (arith, g.known_restarts); owned = tt; matched = λ e. absurd (omega (arith, g.known_restarts)) };
      downs = downs-by (ends_seen n h s k b f o) (ends_seen n h s k (b + 1) f Fresh) (omega arith) (omega arith)
          (λ q u le z. z) (λ u le z. z) (λ r c le lb z. restarted-resets n h s k b f o r c lb z)
          (λ u c le z. grant-seen h s u c o Fresh (λ q d. tt) z);
      floor = omega arith;
      new = tt;
      ups = ups-by (ends_seen n h s k b f o) (ends_seen n h s k (b + 1) f Fresh) None (omega arith) (omega arith) tt
          (λ u le z. accept-fresh h u) (λ u le z. tt) (λ q u c le z. tt);
      sent = λ ts all. tt;
    }

-- nothing changes
plain-kept-new : (f : ℕ) (sent : Option (OnPath Up)) → IsPlainSent sent → IsNew f f sent
plain-kept-new f None y = tt
plain-kept-new f (Some x) y = plain-new f f x.signal y

plain-kept-sent : (e : Ends) (sent : Option (OnPath Up)) (ts : List ℕ) → IsPlainSent sent → IfSome sent (λ y. IsUpGood e (with_accepted ts sent) y.path y.signal)
plain-kept-sent e None ts y = tt
plain-kept-sent e (Some x) ts y = plain-up e (with_accepted ts (Some x)) x.path x.signal y

stays-kept : (e : Ends) (sent : Option (OnPath Up)) → IsNew e.floor e.floor sent
    → ((ts : List ℕ) → IfSome sent (λ y. IsUpGood e (with_accepted ts sent) y.path y.signal)) → AreEndsGood e → IsUnitKept e e sent
stays-kept e sent new y g =
    record {
      ends = g;
      downs = λ p d z. z;
      floor = omega arith;
      new = new;
      ups = ups-by e e sent (omega arith) (omega arith) new (λ t le z. z) (λ t le z. z) (λ p t c le z. z);
      sent = λ ts all. y ts;
    }

pub unit-kept : (e x : Ends) (sent : Option (OnPath Up)) → AreEndsGood e → UnitMoves e x sent → IsUnitKept e x sent
unit-kept _ _ _ g (Stays e x sent same plain) =
    subst (λ (y : Ends). IsUnitKept e y sent) (sym same) (stays-kept e sent (plain-kept-new e.floor sent plain) (λ ts. plain-kept-sent e sent ts plain) g)
unit-kept _ _ _ g (Accepts n h s k b f p t lt tn y) = accepts-kept n h s k b f p t lt tn y g
unit-kept _ _ _ g (Is_busy n h s k b f p t o i lt tn y) = is_busy-kept n h s k b f p t o i lt tn y g
unit-kept _ _ _ g (Is_granted n h s k b f t q c y) = is_granted-kept n h s k b f t q c y g
unit-kept _ _ _ g (Is_refused n h s k b f t q c) = is_refused-kept n h s k b f t q c g
unit-kept _ _ _ g (Releases n h s k b f p t connection y) = releases-kept n h s k b f p t connection y g
unit-kept _ _ _ g (Clears n h s k b f p r o lt rn y) = clears-kept n h s k b f p r o lt rn y g
unit-kept _ _ _ g (Leaves n h s k b f t q c p d) = leaves-kept n h s k b f t q c p d g
unit-kept _ _ _ g (Asks n h s k b f t p c connection i) = asks-kept n h s k b f t p c connection i g
unit-kept _ _ _ g (Restarts n h s k b f o) = restarts-kept n h s k b f o g
unit-kept _ _ _ g (Tells n h s k b f p o) = stays-kept (ends_seen n h s k b f o) (by_path p (up.Notice b)) tt (λ ts. omega arith) g
