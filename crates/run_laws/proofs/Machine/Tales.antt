-- What the starts of a subchannel that were told of say of it, and of the numbers that its unit accepted.
use Rattle.std.proofs.Common.{◌≡◌, refl, sym, ◌∙◌, ap, subst, ℕ, ◌+◌, ◌<◌, ◌≤◌, Bool, true, false, ◌==◌, Option, None, Some, List, [], ◌∷◌, ◌++◌, arith, inl, inr}
use Rattle.std.specs.Prelude.{◌⊎◌, ◌≢◌, All, AllPairs, Contains, if◌then◌else◌}
use Rattle.std.proofs.lemmas.Bool.{eqb-true}
use Rattle.std.proofs.lemmas.List.Elements.{All-nil, All-cons, All-push, All-weaker, All-contains}
use Rattle.std.proofs.lemmas.List.Kept.{AllPairs-cons}
use Rattle.std.proofs.lemmas.List.Quantifiers.{all_pairs_push}
use Rattle.orb_block.specs.declared.Orb.{Orb}
use Rattle.chan_model.specs.declared.hold_state.HoldPhase.{HoldPhase}
use Rattle.chan_model.specs.declared.hold_state.HoldPhase.TheVariants as hold
use Rattle.chan_model.specs.declared.names.Side.{Side}
use Rattle.agreement_laws.specs.Claims.{IsPassed}
use Rattle.agreement_laws.specs.Links.{Links, link_of}
use Rattle.subchannel_model.specs.declared.state.Program.{Program}
use Rattle.subchannel_model.specs.declared.state.SubchannelState.{SubchannelState}
use Rattle.subchannel_model.specs.Opening.{opening_subchannel}
use Rattle.subchannel_model.specs.Choosing.{offered}
use Rattle.subchannel_model.specs.Start.{started}
use Rattle.run_laws.specs.Beginnings.{Offer, StartCounts, with_begun, no_starts}
use Rattle.run_laws.proofs.Machine.Pairs.{contains-more, all-rest, pairs-weaker, pair-of, before-last}
use Rattle.run_laws.proofs.Machine.Waits.{IsWaiting, WaitsAs, IsBegunHeld, Waits, Turned, not-begun, none-held, waits-wider}
use Rattle.ccw_walk.specs.Sequences.{Sequence, Nothing, ◌▸◌}
use Rattle.run_laws.proofs.Traces.Sequences.{backward}

abbrev pub IsAccepted : Links → Side → ℕ → Type 0
IsAccepted w side t = Contains (link_of w side).accepted t

-- an offer of an earlier start than this one, or one that is never accepted
abbrev pub IsSpent : Links → Side → ℕ → Offer → Type 0
IsSpent w side start o = (o.start < start) ⊎ IsPassed w side o.number

-- all offers are, or all but that of this number
abbrev pub AreSpent : Links → Side → StartCounts → Type 0
AreSpent w side k = All (IsSpent w side k.accepted) (backward k.offers)

abbrev pub AreSpentBut : Links → Side → StartCounts → ℕ → Type 0
AreSpentBut w side k t = All (λ o. IsSpent w side k.accepted o ⊎ (o.number ≡ t)) (backward k.offers)

-- numbers rise, and so do the starts of those that may be accepted
abbrev AreApart : Links → Side → Offer → Offer → Type 0
AreApart w side later earlier = (earlier.number < later.number) × IsSpent w side later.start earlier

-- an offer of this start was accepted
abbrev IsBegunBy : Links → Side → List Offer → ℕ → Type 0
IsBegunBy w side offers y = (o : Offer) × Contains offers o × (o.start ≡ y) × IsAccepted w side o.number

pub record IsTold (k : StartCounts) (s : SubchannelState) (w : Links) (side : Side) : Type 0 where
  pub accepted : k.accepted ≡ s.starts
  pub drawn : All (λ o. o.number ≤ s.drawn) (backward k.offers)
  pub bound : All (λ o. o.start ≤ k.accepted) (backward k.offers)
  pub pairs : AllPairs (AreApart w side) (backward k.offers)
  pub begun : All (IsBegunBy w side (backward k.offers)) k.begun
  pub rises : AllPairs (λ x y. x < y) k.begun
  pub waits : Waits (AreSpent w side k) (AreSpentBut w side k) s

pub told-opened : (w : Links) (side : Side) → IsTold no_starts opening_subchannel w side
told-opened w side =
    record {
      accepted = refl;
      drawn = All-nil (λ o. o.number ≤ 0);
      bound = All-nil (λ o. o.start ≤ 0);
      pairs = λ i j d less within. absurd (omega (arith, within));
      begun = All-nil (IsBegunBy w side []);
      rises = λ i j d less within. absurd (omega (arith, within));
      waits = record { waiting = tt; begun = tt };
    }

-- with other links: what was accepted, or passed, stays so
spent-wider : (v w : Links) (side : Side) (start : ℕ) (o : Offer) → ((t : ℕ) → IsPassed v side t → IsPassed w side t) → IsSpent v side start o → IsSpent w side start o
spent-wider v w side start o f k =
    elim k [
      | inl l ↦ inl l
      | inr p ↦ inr (f o.number p)
    ]

but-wider : (v w : Links) (side : Side) (start t : ℕ) (o : Offer) → ((t : ℕ) → IsPassed v side t → IsPassed w side t) → IsSpent v side start o ⊎ (o.number ≡ t) →
    IsSpent w side start o ⊎ (o.number ≡ t)
but-wider v w side start t o f k =
    elim k [
      | inl l ↦ inl (spent-wider v w side start o f l)
      | inr e ↦ inr e
    ]

pub told-wider : (k : StartCounts) (s : SubchannelState) (v w : Links) (side : Side) → ((t : ℕ) → IsPassed v side t → IsPassed w side t) →
    ((t : ℕ) → IsAccepted v side t → IsAccepted w side t) → IsTold k s v side → IsTold k s w side
told-wider k s v w side f g t =
    record {
      accepted = t.accepted;
      drawn = t.drawn;
      bound = t.bound;
      pairs = pairs-weaker (AreApart v side) (AreApart w side) (backward k.offers) (λ later earlier r. (r.0, spent-wider v w side later.start earlier f r.1)) t.pairs;
      begun = All-weaker (IsBegunBy v side (backward k.offers)) (IsBegunBy w side (backward k.offers)) (λ y b. (b.0, b.1, b.2, g b.0.number b.3)) k.begun t.begun;
      rises = t.rises;
      waits = waits-wider (AreSpent v side k) (AreSpent w side k) (AreSpentBut v side k) (AreSpentBut w side k) s
          (All-weaker (IsSpent v side k.accepted) (IsSpent w side k.accepted) (λ o b. spent-wider v w side k.accepted o f b) (backward k.offers))
          (λ n. All-weaker (λ o. IsSpent v side k.accepted o ⊎ (o.number ≡ n)) (λ o. IsSpent w side k.accepted o ⊎ (o.number ≡ n))
          (λ o b. but-wider v w side k.accepted n o f b) (backward k.offers))
          t.waits;
    }

-- a subchannel that neither started nor offered
pub told-same : (k : StartCounts) (s x : SubchannelState) (w : Links) (side : Side) → x.starts ≡ s.starts → s.drawn ≤ x.drawn → Waits (AreSpent w side k) (AreSpentBut w side k) x →
    IsTold k s w side → IsTold k x w side
told-same k s x w side a d h t =
    record {
      accepted = t.accepted ∙ sym a;
      drawn = All-weaker (λ o. o.number ≤ s.drawn) (λ o. o.number ≤ x.drawn) (λ o b. omega (arith, b, d)) (backward k.offers) t.drawn;
      bound = t.bound;
      pairs = t.pairs;
      begun = t.begun;
      rises = t.rises;
      waits = h;
    }

pub told-turned : (k : StartCounts) (s x : SubchannelState) (w : Links) (side : Side) → Turned (AreSpent w side k) (AreSpentBut w side k) s x → IsTold k s w side → IsTold k x w side
told-turned k s x w side h t = told-same k s x w side h.starts (omega (arith, h.drawn)) h.waits t

-- a start: every offer is of an earlier one
pub told-start : (k : StartCounts) (s : SubchannelState) (orb : Orb) (w : Links) (side : Side) → IsTold k s w side → IsTold (record k { accepted = k.accepted + 1 }) (started s orb) w side
told-start k s orb w side t =
    record {
      accepted = ap (λ (n : ℕ). n + 1) t.accepted;
      drawn = t.drawn;
      bound = All-weaker (λ o. o.start ≤ k.accepted) (λ o. o.start ≤ k.accepted + 1) (λ o b. omega (arith, b)) (backward k.offers) t.bound;
      pairs = t.pairs;
      begun = t.begun;
      rises = t.rises;
      waits = record {
        waiting = record {
          start = refl;
          spent = inl (All-weaker (λ o. o.start ≤ k.accepted) (IsSpent w side (k.accepted + 1)) (λ o b. inl (omega (arith, b))) (backward k.offers) t.bound);
        };
        begun = t.waits.begun;
      };
    }

-- nothing is offered where the hold is free
all-spent : (k : StartCounts) (s : SubchannelState) (w : Links) (side : Side) (program : Program) → s.hold.phase ≡ hold.Free →
    IsWaiting (AreSpent w side k) (AreSpentBut w side k) s program → AreSpent w side k
all-spent k s w side program e h =
    elim h.spent [
      | inl a ↦ a
      | inr o ↦ let no : hold.Free ≡ hold.Offer o.number o.path = sym e ∙ o.phase in absurd (cc no)
    ]

-- an offer of the program that waits
pub told-offer : (k : StartCounts) (s : SubchannelState) (program : Program) (path : ℕ) (w : Links) (side : Side) → s.waiting ≡ Some program → s.hold.phase ≡ hold.Free → IsTold k s w side →
    IsTold (record k { offers = k.offers ▸ record { number = s.drawn + 1; start = k.accepted } }) (offered s program path) w side
told-offer k s program path w side e f t =
    let x : Offer = record { number = s.drawn + 1; start = k.accepted } in
    let h : IsWaiting (AreSpent w side k) (AreSpentBut w side k) s program =
    subst (λ (p : Option Program). WaitsAs (AreSpent w side k) (AreSpentBut w side k) s p) e t.waits.waiting in
    let a : AreSpent w side k = all-spent k s w side program f h in
    let next : StartCounts = record k { offers = k.offers ▸ x } in
    record {
      accepted = t.accepted;
      drawn = All-cons (λ o. o.number ≤ s.drawn + 1) x (backward k.offers) (omega arith)
          (All-weaker (λ o. o.number ≤ s.drawn) (λ o. o.number ≤ s.drawn + 1) (λ o b. omega (arith, b)) (backward k.offers) t.drawn);
      bound = All-cons (λ o. o.start ≤ k.accepted) x (backward k.offers) (omega arith) t.bound;
      pairs = AllPairs-cons (AreApart w side) x (backward k.offers) (λ i d within. let b = t.drawn i d within in (omega (arith, b), a i d within)) t.pairs;
      begun = All-weaker (IsBegunBy w side (backward k.offers)) (IsBegunBy w side (x ∷ backward k.offers)) (λ y b. (b.0, contains-more x (backward k.offers) b.0 b.1, b.2, b.3)) k.begun t.begun;
      rises = t.rises;
      waits = record {
        waiting = subst (λ (p : Option Program). WaitsAs (AreSpent w side next) (AreSpentBut w side next) (offered s program path) p) (sym e)
            (record {
              start = h.start;
              spent = inr (record {
                number = s.drawn + 1;
                path = path;
                phase = refl;
                offered = h.start;
                but = All-cons (λ o. IsSpent w side k.accepted o ⊎ (o.number ≡ s.drawn + 1)) x (backward k.offers) (inr refl)
                    (All-weaker (IsSpent w side k.accepted) (λ o. IsSpent w side k.accepted o ⊎ (o.number ≡ s.drawn + 1)) (λ o b. inl b) (backward k.offers) a);
              });
            });
        begun = none-held s.begun _ (not-begun s.begun hold.Free refl (subst (λ (p : HoldPhase). IsBegunHeld s.begun p) f t.waits.begun));
      };
    }

-- an offer of a program that was suspended
resumed-as : (k : StartCounts) (s : SubchannelState) (program : Program) (path : ℕ) (w : Links) (side : Side) (p : Option Program) → s.hold.phase ≡ hold.Free →
    WaitsAs (AreSpent w side k) (AreSpentBut w side k) s p → WaitsAs (AreSpent w side k) (AreSpentBut w side k) (offered s program path) p
resumed-as k s program path w side None e h = tt
resumed-as k s program path w side (Some x) e h = record { start = h.start; spent = inl (all-spent k s w side x e h) }

pub told-resume : (k : StartCounts) (s : SubchannelState) (program : Program) (path : ℕ) (w : Links) (side : Side) → s.hold.phase ≡ hold.Free → IsTold k s w side →
    IsTold k (offered s program path) w side
told-resume k s program path w side f t =
    told-same k s (offered s program path) w side refl (omega arith)
    (record {
      waiting = resumed-as k s program path w side s.waiting f t.waits.waiting;
      begun = none-held s.begun _ (not-begun s.begun hold.Free refl (subst (λ (p : HoldPhase). IsBegunHeld s.begun p) f t.waits.begun));
    })
    t

-- an offer of a number that is passed
busy-one : (w : Links) (side : Side) (start t : ℕ) (o : Offer) → IsPassed w side t → IsSpent w side start o ⊎ (o.number ≡ t) → IsSpent w side start o
busy-one w side start t o p k =
    elim k [
      | inl l ↦ l
      | inr e ↦ inr (subst (IsPassed w side) (sym e) p)
    ]

pub busy-spent : (k : StartCounts) (w : Links) (side : Side) (t : ℕ) → IsPassed w side t → AreSpentBut w side k t → AreSpent w side k
busy-spent k w side t p a =
    All-weaker (λ o. IsSpent w side k.accepted o ⊎ (o.number ≡ t)) (IsSpent w side k.accepted) (λ o b. busy-one w side k.accepted t o p b) (backward k.offers) a

-- an offer is accepted: those that were accepted before are of earlier starts
accepted-after : (k : StartCounts) (s : SubchannelState) (v w : Links) (side : Side) (t : ℕ) (x : Offer) (y : ℕ) → IsTold k s v side → Contains (backward k.offers) x → x.number ≡ t →
    AllPairs (λ a b. a < b) ((link_of v side).accepted ++ t ∷ []) → IsBegunBy v side (backward k.offers) y → y < x.start
accepted-after k s v w side t x y told c e once b =
    let less : b.0.number < t = before-last (λ a b. a < b) (link_of v side).accepted t b.0.number once b.3 in
    let start : b.0.start ≡ y = b.2 in
    elim (pair-of (AreApart v side) (backward k.offers) x b.0 told.pairs c b.1) [
      | inl r ↦ elim r.1 [
        | inl l ↦ omega (arith, l, start)
        | inr p ↦ absurd (All-contains (λ a. a ≢ b.0.number) (link_of v side).accepted b.0.number p.never b.3 refl)
      ]
      | inr r ↦ elim r [
        | inl q ↦ let more : x.number < b.0.number = q.0 in absurd (omega (arith, less, more, e))
        | inr q ↦ let same : x.number ≡ b.0.number = ap (λ (o : Offer). o.number) q in absurd (omega (arith, less, same, e))
      ]
    ]

begun-more : (k : StartCounts) (s : SubchannelState) (v w : Links) (side : Side) (t : ℕ) (x : Offer) → ((t : ℕ) → IsPassed v side t → IsPassed w side t) →
    ((t : ℕ) → IsAccepted v side t → IsAccepted w side t) → AllPairs (λ a b. a < b) ((link_of v side).accepted ++ t ∷ []) → IsAccepted w side t → Contains (backward k.offers) x → x.number ≡ t →
    IsTold k s v side → IsTold (record k { begun = k.begun ++ x.start ∷ [] }) s w side
begun-more k s v w side t x f g once a c e told =
    let wide : IsTold k s w side = told-wider k s v w side f g told in
    record {
      accepted = wide.accepted;
      drawn = wide.drawn;
      bound = wide.bound;
      pairs = wide.pairs;
      begun = All-push (IsBegunBy w side (backward k.offers)) k.begun x.start wide.begun (x, c, refl, subst (IsAccepted w side) (sym e) a);
      rises = all_pairs_push (λ y z. y < z) k.begun x.start told.rises (λ i d within. accepted-after k s v w side t x _ told c e once (told.begun i d within));
      waits = wide.waits;
    }

pub begun-of : (k : StartCounts) (s : SubchannelState) (v w : Links) (side : Side) (t : ℕ) (xs : Sequence Offer) → ((t : ℕ) → IsPassed v side t → IsPassed w side t) →
    ((t : ℕ) → IsAccepted v side t → IsAccepted w side t) → AllPairs (λ a b. a < b) ((link_of v side).accepted ++ t ∷ []) → IsAccepted w side t → All (Contains (backward k.offers)) (backward xs) →
    IsTold k s v side → IsTold (with_begun t xs k) s w side
begun-of k s v w side t Nothing f g once a c told = told-wider k s v w side f g told
begun-of k s v w side t (xs ▸ x) f g once a c told =
    let r : Contains (backward k.offers) x × All (Contains (backward k.offers)) (backward xs) = all-rest (Contains (backward k.offers)) x (backward xs) c in
    begun-if k s v w side t x xs (x.number == t) refl f g once a r.0 told (begun-of k s v w side t xs f g once a r.1 told)
  where
    begun-if : (k : StartCounts) (s : SubchannelState) (v w : Links) (side : Side) (t : ℕ) (x : Offer) (xs : Sequence Offer) (same : Bool) → (x.number == t) ≡ same →
        ((t : ℕ) → IsPassed v side t → IsPassed w side t) → ((t : ℕ) → IsAccepted v side t → IsAccepted w side t) →
        AllPairs (λ a b. a < b) ((link_of v side).accepted ++ t ∷ []) → IsAccepted w side t → Contains (backward k.offers) x → IsTold k s v side → IsTold (with_begun t xs k) s w side →
        IsTold (if same then record k { begun = k.begun ++ x.start ∷ [] } else with_begun t xs k) s w side
    begun-if k s v w side t x xs true e f g once a c told rest = begun-more k s v w side t x f g once a c (eqb-true x.number t e) told
    begun-if k s v w side t x xs false e f g once a c told rest = rest
