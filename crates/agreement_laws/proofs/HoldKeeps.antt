-- What a hold does keeps what holds of a link.
use Rattle.std.proofs.Common.{◌≡◌, ℕ, ◌+◌, ◌<◌, ◌≤◌, inl, inr, Option, None, Some, List, refl, sym, arith}
use Rattle.std.specs.Prelude.{IfSome}
use Rattle.std.proofs.lemmas.Bool.{cases_lt}
use Rattle.chan_model.specs.declared.hold_state.HoldPhase.{HoldPhase}
use Rattle.chan_model.specs.declared.hold_state.HoldPhase.TheVariants as hold
use Rattle.chan_model.specs.declared.signal.OnPath.{OnPath}
use Rattle.chan_model.specs.Signals.{Down}
use Rattle.chan_model.specs.declared.signal.Down.TheVariants as down
use Rattle.chan_model.specs.Signals.{Up}
use Rattle.chan_model.specs.declared.unit_state.Connection.{Connection}
use Rattle.chan_model.specs.declared.unit_state.Connection.TheVariants.{On, Ask, Away}
use Rattle.agreement_laws.specs.Invariant.{SideSeen, Idle, Fresh, Owns, Ends, ends_seen, IsJoined, IsParted, IsMatched, AreEndsGood, IsNotDue, IsResetGood, IsAskedOn, IsDownGood, IsAcceptGood, IsNotOwned, IsBackAt, IsBackGood, IsUpGood}
use Rattle.agreement_laws.proofs.Frames.{downs-by, ups-by, IsPlainDown, plain-down}

abbrev pub IsPlainSent : Option (OnPath Down) → Type 0
IsPlainSent None = Unit {0}
IsPlainSent (Some x) = IsPlainDown x.signal

abbrev pub on_path : ℕ → Down → Option (OnPath Down)
on_path p d = Some (record { path = p; signal = d })

-- both ends, and both after an act of the hold with what it sends
pub data HoldMoves : Ends → Ends → Option (OnPath Down) → Type 0 where
  Stays : (e : Ends) (sent : Option (OnPath Down)) → IsPlainSent sent → HoldMoves e e sent
  Offered : (n s k b f : ℕ) (o : SideSeen) (p : ℕ) → HoldMoves (ends_seen n hold.Free s k b f o) (ends_seen (n + 1) (hold.Offer (n + 1) p) s k b f o) (on_path p (down.Select (n + 1)))
  Resets : (n : ℕ) (h : HoldPhase) (s k j b f : ℕ) (o : SideSeen) → k ≤ j → j ≤ b → HoldMoves (ends_seen n h s k b f o) (ends_seen (n + 1) (hold.Reset (n + 1)) s j b f o) None
  Sends_reset : (n r s k b f : ℕ) (o : SideSeen) (p : ℕ) → HoldMoves (ends_seen n (hold.Reset r) s k b f o) (ends_seen n (hold.Reset r) s k b f o) (on_path p (down.Reset r k))
  Lets_go : (n t p c s k b f : ℕ) (o : SideSeen) → HoldMoves (ends_seen n (hold.On t p c) s k b f o) (ends_seen n (hold.Letting t p) s k b f o) (on_path p (down.Release t))
  Goes_on : (n t p s k b f : ℕ) (o : SideSeen) → t ≤ f → IsAcceptGood (hold.Offer t p) o t → HoldMoves (ends_seen n (hold.Offer t p) s k b f o) (ends_seen n (hold.On t p 0) 0 k b f o) None
  Is_over : (n t p s k b f : ℕ) (o : SideSeen) → t ≤ f → HoldMoves (ends_seen n (hold.Offer t p) s k b f o) (ends_seen n (hold.Letting t p) 0 k b f o) (on_path p (down.Release t))
  Is_busy : (n t p s k b f : ℕ) (o : SideSeen) → t ≤ f → IsNotOwned o t → HoldMoves (ends_seen n (hold.Offer t p) s k b f o) (ends_seen n hold.Free s k b f o) None
  Is_left : (n t p c s k b f : ℕ) (o : SideSeen) → HoldMoves (ends_seen n (hold.On t p c) s k b f o) (ends_seen n (hold.Away t) s k b f o) None
  Grants : (n t p c s k b f : ℕ) (o : SideSeen) → s < c → IsBackGood o p t c → HoldMoves (ends_seen n (hold.Away t) s k b f o) (ends_seen n (hold.On t p c) c k b f o) (on_path p (down.Grant t c))
  Refuses_on : (n t q d p c s k b f : ℕ) (o : SideSeen) → s < c → IsBackGood o p t c → HoldMoves (ends_seen n (hold.On t q d) s k b f o) (ends_seen n (hold.On t q d) c k b f o) (on_path p (down.Refuse t c))
  Refuses_away : (n t p c s k b f : ℕ) (o : SideSeen) → s < c → IsBackGood o p t c → HoldMoves (ends_seen n (hold.Away t) s k b f o) (ends_seen n (hold.Away t) c k b f o) (on_path p (down.Refuse t c))
  Is_released : (n t p s k b f : ℕ) (o : SideSeen) → IsNotOwned o t → HoldMoves (ends_seen n (hold.Letting t p) s k b f o) (ends_seen n hold.Free s k b f o) None
  Is_cleared : (n r s k b f : ℕ) (o : SideSeen) → r ≤ f → HoldMoves (ends_seen n (hold.Reset r) s k b f o) (ends_seen n hold.Free s k b f o) None

pub record IsHoldKept (e x : Ends) (d : Option (OnPath Down)) : Type 0 where
  pub ends : AreEndsGood x
  pub downs : (p : ℕ) (s : Down) → IsDownGood e p s → IsDownGood x p s
  pub ups : (ts : List ℕ) (p : ℕ) (u : Up) → IsUpGood e ts p u → IsUpGood x ts p u
  pub sent : IfSome d (λ y. IsDownGood x y.path y.signal)

-- a hold that is offered a program
offered-matched : (n s k b f p : ℕ) (o : SideSeen) → IsMatched (ends_seen n hold.Free s k b f o) o → IsMatched (ends_seen (n + 1) (hold.Offer (n + 1) p) s k b f o) o
offered-matched n s k b f p Idle m = tt
offered-matched n s k b f p Fresh m = λ e. tt
offered-matched n s k b f p (Owns t connection) m = absurd m

offered-accept : (n f p t : ℕ) (o : SideSeen) → f ≤ n → t ≤ f → IsAcceptGood (hold.Offer (n + 1) p) o t
offered-accept n f p t Idle g h = λ e. omega arith
offered-accept n f p t Fresh g h = tt
offered-accept n f p t (Owns v connection) g h = tt

offered-kept : (n s k b f p : ℕ) (o : SideSeen) → AreEndsGood (ends_seen n hold.Free s k b f o) →
    IsHoldKept (ends_seen n hold.Free s k b f o) (ends_seen (n + 1) (hold.Offer (n + 1) p) s k b f o) (on_path p (down.Select (n + 1)))
offered-kept n s k b f p o g =
    record {
      ends = record { floor = omega (arith, g.floor); number = omega arith; known_restarts = g.known_restarts; owned = g.owned; matched = offered-matched n s k b f p o g.matched };
      downs = downs-by (ends_seen n hold.Free s k b f o) (ends_seen (n + 1) (hold.Offer (n + 1) p) s k b f o) (omega arith) (omega arith)
          (λ q t le h. inl h) (λ t le h. omega arith) (λ r c le lb h. elim h [ inl y ↦ inl y | inr y ↦ absurd y.1 ]) (λ t c le h. omega arith);
      ups = ups-by (ends_seen n hold.Free s k b f o) (ends_seen (n + 1) (hold.Offer (n + 1) p) s k b f o) None (omega arith) (omega arith) tt
          (λ t le h. offered-accept n f p t o g.floor le) (λ t le h. h) (λ q t c le h. h);
      sent = (omega arith, inr (refl, refl));
    }

-- a hold that is to be reset
reset-matched : (n s j b f : ℕ) (o : SideSeen) → f ≤ n → IsMatched (ends_seen (n + 1) (hold.Reset (n + 1)) s j b f o) o
reset-matched n s j b f Idle le = tt
reset-matched n s j b f Fresh le = λ e. omega arith
reset-matched n s j b f (Owns t connection) le = omega arith

resets-kept : (n : ℕ) (h : HoldPhase) (s k j b f : ℕ) (o : SideSeen) → k ≤ j → j ≤ b → AreEndsGood (ends_seen n h s k b f o) →
    IsHoldKept (ends_seen n h s k b f o) (ends_seen (n + 1) (hold.Reset (n + 1)) s j b f o) None
resets-kept n h s k j b f o kj jb g =
    record {
      ends = record { floor = omega (arith, g.floor); number = omega arith; known_restarts = jb; owned = g.owned; matched = reset-matched n s j b f o g.floor };
      downs = downs-by (ends_seen n h s k b f o) (ends_seen (n + 1) (hold.Reset (n + 1)) s j b f o) (omega arith) (omega arith)
          (λ q t le y. inr (omega arith)) (λ t le y. tt) (λ r c le lb y. elim y [ inl z ↦ inl z | inr z ↦ inr (z.0, omega arith) ]) (λ t c le y. tt);
      ups = ups-by (ends_seen n h s k b f o) (ends_seen (n + 1) (hold.Reset (n + 1)) s j b f o) None (omega arith) (omega arith) tt
          (λ t le y. tt) (λ t le y. y) (λ q t c le y. y);
      sent = tt;
    }

-- the Reset of a hold
not-due : (n r s k b f : ℕ) (o : SideSeen) → AreEndsGood (ends_seen n (hold.Reset r) s k b f o) → r ≤ f → IsNotDue o k b
not-due n r s k b f Idle g le = tt
not-due n r s k b f Fresh g le = elim (cases_lt k b) [
  | inl y ↦ y
  | inr y ↦ let less : f < r = g.matched (omega (arith, g.known_restarts)) in absurd (omega arith)
]
not-due n r s k b f (Owns t connection) g le = tt

sent-reset : (n r s k b f : ℕ) (o : SideSeen) → AreEndsGood (ends_seen n (hold.Reset r) s k b f o) → IsResetGood (ends_seen n (hold.Reset r) s k b f o) r k
sent-reset n r s k b f o g = elim (cases_lt f r) [
  | inl y ↦ inr (y, omega arith)
  | inr y ↦ inl (y, not-due n r s k b f o g y)
]

stays-kept : (e : Ends) (sent : Option (OnPath Down)) → AreEndsGood e → IfSome sent (λ y. IsDownGood e y.path y.signal) → IsHoldKept e e sent
stays-kept e sent g h = record { ends = g; downs = λ p d y. y; ups = λ ts p u y. y; sent = h }

-- a hold that lets the device go
letting-matched : (n t p c s k b f : ℕ) (o : SideSeen) → IsMatched (ends_seen n (hold.On t p c) s k b f o) o → IsMatched (ends_seen n (hold.Letting t p) s k b f o) o
letting-matched n t p c s k b f Idle m = tt
letting-matched n t p c s k b f Fresh m = λ e. tt
letting-matched n t p c s k b f (Owns v connection) m = m.0

lets_go-kept : (n t p c s k b f : ℕ) (o : SideSeen) → AreEndsGood (ends_seen n (hold.On t p c) s k b f o) →
    IsHoldKept (ends_seen n (hold.On t p c) s k b f o) (ends_seen n (hold.Letting t p) s k b f o) (on_path p (down.Release t))
lets_go-kept n t p c s k b f o g =
    record {
      ends = record { floor = g.floor; number = g.number; known_restarts = g.known_restarts; owned = g.owned; matched = letting-matched n t p c s k b f o g.matched };
      downs = downs-by (ends_seen n (hold.On t p c) s k b f o) (ends_seen n (hold.Letting t p) s k b f o) (omega arith) (omega arith)
          (λ q u le h. h) (λ u le h. tt) (λ r d le lb h. h) (λ u d le h. tt);
      ups = ups-by (ends_seen n (hold.On t p c) s k b f o) (ends_seen n (hold.Letting t p) s k b f o) None (omega arith) (omega arith) tt
          (λ u le h. tt) (λ u le h. h) (λ q u d le h. h);
      sent = (g.number, tt);
    }

-- an Accept
on-matched : (n t p s k b f : ℕ) (o : SideSeen) → IsAcceptGood (hold.Offer t p) o t → IsMatched (ends_seen n (hold.Offer t p) s k b f o) o → IsMatched (ends_seen n (hold.On t p 0) 0 k b f o) o
on-matched n t p s k b f Idle a m = a refl
on-matched n t p s k b f Fresh a m = λ e. tt
on-matched n t p s k b f (Owns v connection) a m = m

chains_at_device_end-kept : (n t p s k b f : ℕ) (o : SideSeen) → t ≤ f → IsAcceptGood (hold.Offer t p) o t → AreEndsGood (ends_seen n (hold.Offer t p) s k b f o) →
    IsHoldKept (ends_seen n (hold.Offer t p) s k b f o) (ends_seen n (hold.On t p 0) 0 k b f o) None
chains_at_device_end-kept n t p s k b f o tf a g =
    record {
      ends = record { floor = g.floor; number = g.number; known_restarts = g.known_restarts; owned = g.owned; matched = on-matched n t p s k b f o a g.matched };
      downs = downs-by (ends_seen n (hold.Offer t p) s k b f o) (ends_seen n (hold.On t p 0) 0 k b f o) (omega arith) (omega arith)
          (λ q u le h. elim h [ inl y ↦ y | inr y ↦ omega (arith, y.0) ]) (λ u le h. h) (λ r d le lb h. h) (λ u d le h. inl h);
      ups = ups-by (ends_seen n (hold.Offer t p) s k b f o) (ends_seen n (hold.On t p 0) 0 k b f o) None (omega arith) (omega arith) tt
          (λ u le h. tt) (λ u le h. h) (λ q u d le h. h);
      sent = tt;
    }

over-matched : (n t p s k b f : ℕ) (o : SideSeen) → IsMatched (ends_seen n (hold.Offer t p) s k b f o) o → IsMatched (ends_seen n (hold.Letting t p) 0 k b f o) o
over-matched n t p s k b f Idle m = tt
over-matched n t p s k b f Fresh m = λ e. tt
over-matched n t p s k b f (Owns v connection) m = m.0

is_over-kept : (n t p s k b f : ℕ) (o : SideSeen) → t ≤ f → AreEndsGood (ends_seen n (hold.Offer t p) s k b f o) →
    IsHoldKept (ends_seen n (hold.Offer t p) s k b f o) (ends_seen n (hold.Letting t p) 0 k b f o) (on_path p (down.Release t))
is_over-kept n t p s k b f o tf g =
    record {
      ends = record { floor = g.floor; number = g.number; known_restarts = g.known_restarts; owned = g.owned; matched = over-matched n t p s k b f o g.matched };
      downs = downs-by (ends_seen n (hold.Offer t p) s k b f o) (ends_seen n (hold.Letting t p) 0 k b f o) (omega arith) (omega arith)
          (λ q u le h. elim h [ inl y ↦ y | inr y ↦ omega (arith, y.0) ]) (λ u le h. tt) (λ r d le lb h. h) (λ u d le h. tt);
      ups = ups-by (ends_seen n (hold.Offer t p) s k b f o) (ends_seen n (hold.Letting t p) 0 k b f o) None (omega arith) (omega arith) tt
          (λ u le h. tt) (λ u le h. h) (λ q u d le h. h);
      sent = (g.number, tt);
    }

-- a hold that becomes free
busy-matched : (n t p s k b f : ℕ) (o : SideSeen) → IsNotOwned o t → IsMatched (ends_seen n (hold.Offer t p) s k b f o) o → IsMatched (ends_seen n hold.Free s k b f o) o
busy-matched n t p s k b f Idle a m = tt
busy-matched n t p s k b f Fresh a m = λ e. tt
busy-matched n t p s k b f (Owns v connection) a m = a (sym m.0)

is_busy-kept : (n t p s k b f : ℕ) (o : SideSeen) → t ≤ f → IsNotOwned o t → AreEndsGood (ends_seen n (hold.Offer t p) s k b f o) →
    IsHoldKept (ends_seen n (hold.Offer t p) s k b f o) (ends_seen n hold.Free s k b f o) None
is_busy-kept n t p s k b f o tf a g =
    record {
      ends = record { floor = g.floor; number = tt; known_restarts = g.known_restarts; owned = g.owned; matched = busy-matched n t p s k b f o a g.matched };
      downs = downs-by (ends_seen n (hold.Offer t p) s k b f o) (ends_seen n hold.Free s k b f o) (omega arith) (omega arith)
          (λ q u le h. elim h [ inl y ↦ y | inr y ↦ omega (arith, y.0) ]) (λ u le h. tt) (λ r d le lb h. h) (λ u d le h. tt);
      ups = ups-by (ends_seen n (hold.Offer t p) s k b f o) (ends_seen n hold.Free s k b f o) None (omega arith) (omega arith) tt
          (λ u le h. tt) (λ u le h. h) (λ q u d le h. h);
      sent = tt;
    }

released-matched : (n t p s k b f : ℕ) (o : SideSeen) → IsNotOwned o t → IsMatched (ends_seen n (hold.Letting t p) s k b f o) o → IsMatched (ends_seen n hold.Free s k b f o) o
released-matched n t p s k b f Idle a m = tt
released-matched n t p s k b f Fresh a m = λ e. tt
released-matched n t p s k b f (Owns v connection) a m = a (sym m)

is_released-kept : (n t p s k b f : ℕ) (o : SideSeen) → IsNotOwned o t → AreEndsGood (ends_seen n (hold.Letting t p) s k b f o) →
    IsHoldKept (ends_seen n (hold.Letting t p) s k b f o) (ends_seen n hold.Free s k b f o) None
is_released-kept n t p s k b f o a g =
    record {
      ends = record { floor = g.floor; number = tt; known_restarts = g.known_restarts; owned = g.owned; matched = released-matched n t p s k b f o a g.matched };
      downs = downs-by (ends_seen n (hold.Letting t p) s k b f o) (ends_seen n hold.Free s k b f o) (omega arith) (omega arith)
          (λ q u le h. h) (λ u le h. tt) (λ r d le lb h. h) (λ u d le h. tt);
      ups = ups-by (ends_seen n (hold.Letting t p) s k b f o) (ends_seen n hold.Free s k b f o) None (omega arith) (omega arith) tt
          (λ u le h. tt) (λ u le h. h) (λ q u d le h. h);
      sent = tt;
    }

cleared-matched : (n r s k b f : ℕ) (o : SideSeen) → r ≤ f → IsMatched (ends_seen n (hold.Reset r) s k b f o) o → IsMatched (ends_seen n hold.Free s k b f o) o
cleared-matched n r s k b f Idle le m = tt
cleared-matched n r s k b f Fresh le m = λ e. tt
cleared-matched n r s k b f (Owns v connection) le m = omega (arith, m)

is_cleared-kept : (n r s k b f : ℕ) (o : SideSeen) → r ≤ f → AreEndsGood (ends_seen n (hold.Reset r) s k b f o) →
    IsHoldKept (ends_seen n (hold.Reset r) s k b f o) (ends_seen n hold.Free s k b f o) None
is_cleared-kept n r s k b f o rf g =
    record {
      ends = record { floor = g.floor; number = tt; known_restarts = g.known_restarts; owned = g.owned; matched = cleared-matched n r s k b f o rf g.matched };
      downs = downs-by (ends_seen n (hold.Reset r) s k b f o) (ends_seen n hold.Free s k b f o) (omega arith) (omega arith)
          (λ q u le h. elim h [ inl y ↦ y | inr y ↦ omega arith ]) (λ u le h. tt)
          (λ v d le lb h. elim h [ inl y ↦ inl y | inr y ↦ absurd (omega (arith, y.0, y.1)) ]) (λ u d le h. tt);
      ups = ups-by (ends_seen n (hold.Reset r) s k b f o) (ends_seen n hold.Free s k b f o) None (omega arith) (omega arith) tt
          (λ u le h. tt) (λ u le h. h) (λ q u d le h. h);
      sent = tt;
    }

-- a program that leaves its path
joined-parted : (p c s : ℕ) (connection : Connection) → IsJoined p c s connection → IsParted s connection
joined-parted p c s (On q d) j = j.0
joined-parted p c s (Ask q d) j = j
joined-parted p c s (Away d) j = j

away-matched : (n t p c s k b f : ℕ) (o : SideSeen) → IsMatched (ends_seen n (hold.On t p c) s k b f o) o → IsMatched (ends_seen n (hold.Away t) s k b f o) o
away-matched n t p c s k b f Idle m = m
away-matched n t p c s k b f Fresh m = λ e. tt
away-matched n t p c s k b f (Owns v connection) m = (m.0, joined-parted p c s connection m.1)

is_left-kept : (n t p c s k b f : ℕ) (o : SideSeen) → AreEndsGood (ends_seen n (hold.On t p c) s k b f o) →
    IsHoldKept (ends_seen n (hold.On t p c) s k b f o) (ends_seen n (hold.Away t) s k b f o) None
is_left-kept n t p c s k b f o g =
    record {
      ends = record { floor = g.floor; number = g.number; known_restarts = g.known_restarts; owned = g.owned; matched = away-matched n t p c s k b f o g.matched };
      downs = downs-by (ends_seen n (hold.On t p c) s k b f o) (ends_seen n (hold.Away t) s k b f o) (omega arith) (omega arith)
          (λ q u le h. h) (λ u le h. h) (λ r d le lb h. h) (λ u d le h. elim h [ inl y ↦ inl y | inr y ↦ inr (y.0, y.1) ]);
      ups = ups-by (ends_seen n (hold.On t p c) s k b f o) (ends_seen n (hold.Away t) s k b f o) None (omega arith) (omega arith) tt
          (λ u le h. tt) (λ u le h. h) (λ q u d le h. h);
      sent = tt;
    }

-- a program that comes back
back-joined : (p t q d c s : ℕ) (connection : Connection) → s < c → IsBackAt connection p c → IsParted s connection → IsJoined q d c connection
back-joined p t q d c s (On x y) lt b j = absurd (omega (arith, b, j))
back-joined p t q d c s (Ask x y) lt b j = b.0
back-joined p t q d c s (Away y) lt b j = b

back-parted : (p c s : ℕ) (connection : Connection) → s < c → IsBackAt connection p c → IsParted s connection → IsParted c connection
back-parted p c s (On x y) lt b j = absurd (omega (arith, b, j))
back-parted p c s (Ask x y) lt b j = b.0
back-parted p c s (Away y) lt b j = b

granted-matched : (n t p c s k b f : ℕ) (o : SideSeen) → s < c → IsBackGood o p t c → IsMatched (ends_seen n (hold.Away t) s k b f o) o → IsMatched (ends_seen n (hold.On t p c) c k b f o) o
granted-matched n t p c s k b f Idle lt a m = m
granted-matched n t p c s k b f Fresh lt a m = λ e. tt
granted-matched n t p c s k b f (Owns v connection) lt a m = (m.0, back-joined p t p c c s connection lt (a (sym m.0)) m.1)

asked-later : (o : SideSeen) (p q c s t u d : ℕ) → s < c → IsBackGood o p t c → t ≡ u → d ≤ s → IsAskedOn o q c u d
asked-later Idle p q c s t u d lt a e le = tt
asked-later Fresh p q c s t u d lt a e le = tt
asked-later (Owns v (On x y)) p q c s t u d lt a e le = tt
asked-later (Owns v (Ask x y)) p q c s t u d lt a e le = λ i j. let b : (c ≤ y) × (y ≡ c → p ≡ x) = a (omega arith) in absurd (omega (arith, b.0))
asked-later (Owns v (Away y)) p q c s t u d lt a e le = tt

asked-now : (o : SideSeen) (p t c : ℕ) → IsBackGood o p t c → IsAskedOn o p c t c
asked-now Idle p t c a = tt
asked-now Fresh p t c a = tt
asked-now (Owns v (On x y)) p t c a = tt
asked-now (Owns v (Ask x y)) p t c a = λ i j. ((a i).1 j, refl)
asked-now (Owns v (Away y)) p t c a = tt

grants-kept : (n t p c s k b f : ℕ) (o : SideSeen) → s < c → IsBackGood o p t c → AreEndsGood (ends_seen n (hold.Away t) s k b f o) →
    IsHoldKept (ends_seen n (hold.Away t) s k b f o) (ends_seen n (hold.On t p c) c k b f o) (on_path p (down.Grant t c))
grants-kept n t p c s k b f o lt a g =
    record {
      ends = record { floor = g.floor; number = g.number; known_restarts = g.known_restarts; owned = g.owned; matched = granted-matched n t p c s k b f o lt a g.matched };
      downs = downs-by (ends_seen n (hold.Away t) s k b f o) (ends_seen n (hold.On t p c) c k b f o) (omega arith) (omega arith)
          (λ q u le h. h) (λ u le h. h) (λ r d le lb h. h)
          (λ u d le h. elim h [ inl y ↦ inl y | inr y ↦ inr (y.0, omega (arith, y.1), asked-later o p p c s t u d lt a y.0 y.1) ]);
      ups = ups-by (ends_seen n (hold.Away t) s k b f o) (ends_seen n (hold.On t p c) c k b f o) None (omega arith) (omega arith) tt
          (λ u le h. tt) (λ u le h. h) (λ q u d le h. h);
      sent = (g.number, inr (refl, omega arith, asked-now o p t c a));
    }

-- a program that does not
still_on-matched : (n t q d p c s k b f : ℕ) (o : SideSeen) → s < c → IsBackGood o p t c → IsMatched (ends_seen n (hold.On t q d) s k b f o) o → IsMatched (ends_seen n (hold.On t q d) c k b f o) o
still_on-matched n t q d p c s k b f Idle lt a m = m
still_on-matched n t q d p c s k b f Fresh lt a m = λ e. tt
still_on-matched n t q d p c s k b f (Owns v connection) lt a m = (m.0, back-joined p t q d c s connection lt (a (sym m.0)) (joined-parted q d s connection m.1))

refuses_on-kept : (n t q d p c s k b f : ℕ) (o : SideSeen) → s < c → IsBackGood o p t c → AreEndsGood (ends_seen n (hold.On t q d) s k b f o) →
    IsHoldKept (ends_seen n (hold.On t q d) s k b f o) (ends_seen n (hold.On t q d) c k b f o) (on_path p (down.Refuse t c))
refuses_on-kept n t q d p c s k b f o lt a g =
    record {
      ends = record { floor = g.floor; number = g.number; known_restarts = g.known_restarts; owned = g.owned; matched = still_on-matched n t q d p c s k b f o lt a g.matched };
      downs = downs-by (ends_seen n (hold.On t q d) s k b f o) (ends_seen n (hold.On t q d) c k b f o) (omega arith) (omega arith)
          (λ x u le h. h) (λ u le h. h) (λ r y le lb h. h)
          (λ u x le h. elim h [ inl y ↦ inl y | inr y ↦ inr (y.0, omega (arith, y.1), y.2) ]);
      ups = ups-by (ends_seen n (hold.On t q d) s k b f o) (ends_seen n (hold.On t q d) c k b f o) None (omega arith) (omega arith) tt
          (λ u le h. tt) (λ u le h. h) (λ x u y le h. h);
      sent = tt;
    }

still_away-matched : (n t p c s k b f : ℕ) (o : SideSeen) → s < c → IsBackGood o p t c → IsMatched (ends_seen n (hold.Away t) s k b f o) o → IsMatched (ends_seen n (hold.Away t) c k b f o) o
still_away-matched n t p c s k b f Idle lt a m = m
still_away-matched n t p c s k b f Fresh lt a m = λ e. tt
still_away-matched n t p c s k b f (Owns v connection) lt a m = (m.0, back-parted p c s connection lt (a (sym m.0)) m.1)

refuses_away-kept : (n t p c s k b f : ℕ) (o : SideSeen) → s < c → IsBackGood o p t c → AreEndsGood (ends_seen n (hold.Away t) s k b f o) →
    IsHoldKept (ends_seen n (hold.Away t) s k b f o) (ends_seen n (hold.Away t) c k b f o) (on_path p (down.Refuse t c))
refuses_away-kept n t p c s k b f o lt a g =
    record {
      ends = record { floor = g.floor; number = g.number; known_restarts = g.known_restarts; owned = g.owned; matched = still_away-matched n t p c s k b f o lt a g.matched };
      downs = downs-by (ends_seen n (hold.Away t) s k b f o) (ends_seen n (hold.Away t) c k b f o) (omega arith) (omega arith)
          (λ x u le h. h) (λ u le h. h) (λ r y le lb h. h)
          (λ u x le h. elim h [ inl y ↦ inl y | inr y ↦ inr (y.0, omega (arith, y.1)) ]);
      ups = ups-by (ends_seen n (hold.Away t) s k b f o) (ends_seen n (hold.Away t) c k b f o) None (omega arith) (omega arith) tt
          (λ u le h. tt) (λ u le h. h) (λ x u y le h. h);
      sent = tt;
    }

plain-sent : (e : Ends) (sent : Option (OnPath Down)) → IsPlainSent sent → IfSome sent (λ y. IsDownGood e y.path y.signal)
plain-sent e None g = tt
plain-sent e (Some x) g = plain-down e x.path x.signal g

pub hold-kept : (e x : Ends) (sent : Option (OnPath Down)) → AreEndsGood e → HoldMoves e x sent → IsHoldKept e x sent
hold-kept _ _ _ g (Stays e sent plain) = stays-kept e sent g (plain-sent e sent plain)
hold-kept _ _ _ g (Offered n s k b f o p) = offered-kept n s k b f p o g
hold-kept _ _ _ g (Resets n h s k j b f o kj jb) = resets-kept n h s k j b f o kj jb g
hold-kept _ _ _ g (Sends_reset n r s k b f o p) = stays-kept _ _ g (g.number, g.known_restarts, sent-reset n r s k b f o g)
hold-kept _ _ _ g (Lets_go n t p c s k b f o) = lets_go-kept n t p c s k b f o g
hold-kept _ _ _ g (Goes_on n t p s k b f o tf a) = chains_at_device_end-kept n t p s k b f o tf a g
hold-kept _ _ _ g (Is_over n t p s k b f o tf) = is_over-kept n t p s k b f o tf g
hold-kept _ _ _ g (Is_busy n t p s k b f o tf a) = is_busy-kept n t p s k b f o tf a g
hold-kept _ _ _ g (Is_left n t p c s k b f o) = is_left-kept n t p c s k b f o g
hold-kept _ _ _ g (Grants n t p c s k b f o lt a) = grants-kept n t p c s k b f o lt a g
hold-kept _ _ _ g (Refuses_on n t q d p c s k b f o lt a) = refuses_on-kept n t q d p c s k b f o lt a g
hold-kept _ _ _ g (Refuses_away n t p c s k b f o lt a) = refuses_away-kept n t p c s k b f o lt a g
hold-kept _ _ _ g (Is_released n t p s k b f o a) = is_released-kept n t p s k b f o a g
hold-kept _ _ _ g (Is_cleared n r s k b f o le) = is_cleared-kept n r s k b f o le g
