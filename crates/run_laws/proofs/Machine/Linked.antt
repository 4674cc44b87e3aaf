-- Each unit has links that stand for its subchannels, and what is told of the starts of one subchannel holds with them: at
-- the opening of a lawful set-up, and after an event where it did before.
use Rattle.std.proofs.Common.{◌≡◌, ◌≢◌, refl, sym, ◌∙◌, ap, subst, ℕ, ◌<◌, ◌==◌, zero, suc, Bool, true, false, Option, Some, List, [], ◌∷◌, inl, inr}
use Rattle.std.specs.Prelude.{◌⊎◌, ◌&&◌, if◌then◌else◌, slice_get, slice_set, replicate, All, AllPairs, Contains}
use Rattle.std.proofs.lemmas.Bool.{eqb-true, eqb-false}
use Rattle.std.proofs.lemmas.List.Elements.{All-nil}
use Rattle.chan_model.specs.declared.names.Side.{Side}
use Rattle.chan_model.specs.declared.names.Side.TheVariants.{First, Second}
use Rattle.chan_model.specs.declared.signal.OnPath.{OnPath}
use Rattle.chan_model.specs.declared.unit_state.UnitState.{UnitState}
use Rattle.chan_model.specs.Sides.{same_side}
use Rattle.chan_model.specs.UnitTable.{restarted}
use Rattle.channel_config.specs.declared.names.SubchannelId.{SubchannelId}
use Rattle.channel_config.specs.declared.parts.SubchannelSetup.{SubchannelSetup}
use Rattle.channel_config.specs.declared.parts.UnitKind.{UnitKind}
use Rattle.channel_config.specs.Lawful.{IsLawful}
use Rattle.channel_config.specs.Setup.{Setup}
use Rattle.wires.specs.Queues.{queue}
use Rattle.agreement_laws.specs.Links.{Links, link_of, opening_links, Link}
use Rattle.agreement_laws.specs.Invariant.{IsGood}
use Rattle.subchannel_model.specs.declared.state.Subchannel.{Subchannel}
use Rattle.machine_model.specs.State.{opening_of, idle_of}
use Rattle.machine_model.specs.Sharing.{owing}
use Rattle.subchannel_model.specs.Opening.{opened}
use Rattle.subchannel_model.specs.Indices.{is_named, index_in, one_later}
use Rattle.run_laws.specs.Beginnings.{StartCounts, no_starts}
use Rattle.run_laws.proofs.Machine.Growth.{Covers, IsLink, link-wider, AreLaws}
use Rattle.run_laws.proofs.Machine.HoldEvents.{IsOfHold}
use Rattle.run_laws.proofs.Machine.TraceEvents.{Tells}
use Rattle.run_laws.proofs.Machine.Tales.{IsTold, told-opened, told-wider}
use Rattle.run_laws.proofs.Machine.UnitEvents.{Follows, IsKept, hold-kept, acted_links, links-wider, told-accepted, restart-good, restart-passed, with_owed, owed-link, owed-good, owed-passed, owed-accepted}
use Rattle.agreement_laws.specs.Moving.{Restarts}
use Rattle.step_laws.proofs.Indices.{set-get, map-get, one-index}

-- the links of the unit at an index, and what is told of one subchannel
pub record IsLinked (subs : List Subchannel) (at : ℕ) (u : UnitState) (which : Option ℕ) (k : StartCounts) : Type 0 where
  pub links : Links
  pub good : IsGood links
  pub «unit» : links.«unit» ≡ u
  pub stand : (index : ℕ) (sub : Subchannel) → slice_get subs index ≡ Some sub → sub.setup.«unit» ≡ at → IsLink sub (link_of links sub.setup.side)
  pub told : (index : ℕ) (sub : Subchannel) → slice_get subs index ≡ Some sub → sub.setup.«unit» ≡ at → which ≡ Some index → IsTold k sub.state links sub.setup.side

-- what is told after an event at an index: of the subchannel of that index, and of another
pub record IsAbout (which : Option ℕ) (index : ℕ) (k mine next : StartCounts) : Type 0 where
  pub here : which ≡ Some index → mine ≡ next
  pub there : (which ≡ Some index → ⊥) → k ≡ next

abbrev pub AreApart : List Subchannel → Type 0
AreApart subs = (i j : ℕ) (x y : Subchannel) → slice_get subs i ≡ Some x → slice_get subs j ≡ Some y → x.setup.«unit» ≡ y.setup.«unit» → same_side x.setup.side y.setup.side ≡ true → i ≡ j

pub record AreLinked (subs : List Subchannel) (units : List UnitState) (which : Option ℕ) (k : StartCounts) : Type 0 where
  pub apart : AreApart subs
  pub linked : (at : ℕ) (u : UnitState) → slice_get units at ≡ Some u → IsLinked subs at u which k

-- one subchannel was changed, but not how it is set up
before : (subs : List Subchannel) (index : ℕ) (sub new : Subchannel) (i : ℕ) (x : Subchannel) → slice_get subs index ≡ Some sub → new.setup ≡ sub.setup →
    slice_get (slice_set subs index new) i ≡ Some x → (y : Subchannel) × (slice_get subs i ≡ Some y) × (x.setup ≡ y.setup)
before subs index sub new i x at s e =
    elim (set-get subs index new i x e) [
      | inl p ↦ (sub, subst (λ (k : ℕ). slice_get subs k ≡ Some sub) (sym p.0) at, ap (λ (y : Subchannel). y.setup) p.1 ∙ s)
      | inr p ↦ (x, p.1, refl)
    ]

apart-kept : (subs : List Subchannel) (index : ℕ) (sub new : Subchannel) → slice_get subs index ≡ Some sub → new.setup ≡ sub.setup → AreApart subs → AreApart (slice_set subs index new)
apart-kept subs index sub new at s apart i j x y e f u side =
    let a : (z : Subchannel) × (slice_get subs i ≡ Some z) × (x.setup ≡ z.setup) = before subs index sub new i x at s e in
    let b : (z : Subchannel) × (slice_get subs j ≡ Some z) × (y.setup ≡ z.setup) = before subs index sub new j y at s f in
    apart i j a.0 b.0 a.1 b.1
    (ap (λ (z : SubchannelSetup). z.«unit») (sym a.2) ∙ (u ∙ ap (λ (z : SubchannelSetup). z.«unit») b.2))
    (ap (λ (z : SubchannelSetup). same_side z.side b.0.setup.side) (sym a.2) ∙ (ap (λ (z : SubchannelSetup). same_side x.setup.side z.side) (sym b.2) ∙ side))

-- a unit of other subchannels
other-linked : (subs : List Subchannel) (index : ℕ) (sub new : Subchannel) (at : ℕ) (u : UnitState) (which : Option ℕ) (k mine next : StartCounts) →
    slice_get subs index ≡ Some sub → new.setup ≡ sub.setup → at ≢ sub.setup.«unit» → IsAbout which index k mine next → IsLinked subs at u which k →
    IsLinked (slice_set subs index new) at u which next
other-linked subs index sub new at u which k mine next there s n about l =
    record {
      links = l.links;
      good = l.good;
      «unit» = l.«unit»;
      stand = λ i x e h.
          elim (set-get subs index new i x e) [
            | inl p ↦ absurd (n (sym h ∙ (ap (λ (y : Subchannel). y.setup.«unit») p.1 ∙ ap (λ (z : SubchannelSetup). z.«unit») s)))
            | inr p ↦ l.stand i x p.1 h
          ];
      told = λ i x e h q.
          elim (set-get subs index new i x e) [
            | inl p ↦ absurd (n (sym h ∙ (ap (λ (y : Subchannel). y.setup.«unit») p.1 ∙ ap (λ (z : SubchannelSetup). z.«unit») s)))
            | inr p ↦ subst (λ (y : StartCounts). IsTold y x.state l.links x.setup.side) (about.there (λ r. p.0 (cc (sym q ∙ r)))) (l.told i x p.1 h q)
          ];
    }

-- the unit of this one
not-true : (b : Bool) → (b ≡ true → ⊥) → b ≡ false
not-true true n = absurd (n refl)
not-true false n = refl

here-linked : (T : Type 0) (subs : List Subchannel) (index : ℕ) (sub new : Subchannel) (at : ℕ) (u v : UnitState) (which : Option ℕ) (k mine next : StartCounts) →
    slice_get subs index ≡ Some sub → AreApart subs → at ≡ sub.setup.«unit» → IsKept T sub new u v k mine → IsAbout which index k mine next → IsLinked subs at u which k →
    IsLinked (slice_set subs index new) at v which next
here-linked T subs index sub new at u v which k mine next there apart e kept about l =
    let f : Follows T l.links sub.setup.side sub new v k mine = kept.follows l.links l.good l.«unit» (l.stand index sub there (sym e)) in
    record {
      links = f.links;
      good = f.good;
      «unit» = f.«unit»;
      stand = λ i x h g.
          elim (set-get subs index new i x h) [
            | inl p ↦ subst (λ (y : Subchannel). IsLink y (link_of f.links y.setup.side)) (sym p.1)
                (subst (λ (z : SubchannelSetup). IsLink new (link_of f.links z.side)) (sym kept.setup) f.here)
            | inr p ↦ link-wider x (link_of l.links x.setup.side) (link_of f.links x.setup.side)
                (f.there x.setup.side (not-true (same_side sub.setup.side x.setup.side) (λ q. p.0 (sym (apart index i sub x there p.1 (sym e ∙ sym g) q)))))
                (l.stand i x p.1 g)
          ];
      told = λ i x h g q.
          elim (set-get subs index new i x h) [
            | inl p ↦
                let r : which ≡ Some index = q ∙ ap Some p.0 in
                subst (λ (y : Subchannel). IsTold next y.state f.links y.setup.side) (sym p.1)
                (subst (λ (z : SubchannelSetup). IsTold next new.state f.links z.side) (sym kept.setup)
                (subst (λ (y : StartCounts). IsTold y new.state f.links sub.setup.side) (about.here r) (f.told (l.told index sub there (sym e) r))))
            | inr p ↦ subst (λ (y : StartCounts). IsTold y x.state f.links x.setup.side) (about.there (λ r. p.0 (cc (sym q ∙ r))))
                (told-wider k x.state l.links f.links x.setup.side (f.passed x.setup.side) (f.accepted x.setup.side) (l.told i x p.1 g q))
          ];
    }

-- the units, of which that of this subchannel was changed, or none
abbrev AreAfter : Type 0 → List UnitState → List UnitState → Subchannel → Subchannel → StartCounts → StartCounts → Type 0
AreAfter T old units sub new k mine = (at : ℕ) (v : UnitState) → slice_get units at ≡ Some v →
    (u : UnitState) × (slice_get old at ≡ Some u) × (((at ≢ sub.setup.«unit») × (v ≡ u)) ⊎ ((at ≡ sub.setup.«unit») × IsKept T sub new u v k mine))

same-or-not : (a b : ℕ) (same : Bool) → (a == b) ≡ same → (a ≡ b) ⊎ (a ≢ b)
same-or-not a b true e = inl (eqb-true a b e)
same-or-not a b false e = inr (eqb-false a b e)

same-after : (T : Type 0) (units : List UnitState) (sub new : Subchannel) (k mine : StartCounts) → ((u : UnitState) → IsKept T sub new u u k mine) → AreAfter T units units sub new k mine
same-after T units sub new k mine f at v e = (
  v,
  e,
  elim (same-or-not at sub.setup.«unit» (at == sub.setup.«unit») refl) [
    | inl h ↦ inr (h, f v)
    | inr n ↦ inl (n, refl)
  ],
)

set-after : (T : Type 0) (units : List UnitState) (sub new : Subchannel) (index : ℕ) (u v : UnitState) (k mine : StartCounts) → slice_get units index ≡ Some u → index ≡ sub.setup.«unit» →
    IsKept T sub new u v k mine → AreAfter T units (slice_set units index v) sub new k mine
set-after T units sub new index u v k mine there e f at w h =
    elim (set-get units index v at w h) [
      | inl p ↦ (u, subst (λ (i : ℕ). slice_get units i ≡ Some u) (sym p.0) there, inr (p.0 ∙ e, subst (λ (y : UnitState). IsKept T sub new u y k mine) (sym p.1) f))
      | inr p ↦ (w, p.1, inl (λ q. p.0 (q ∙ sym e), refl))
    ]

all-linked : (T : Type 0) (subs : List Subchannel) (units after : List UnitState) (index : ℕ) (sub new : Subchannel) (which : Option ℕ) (k mine next : StartCounts) → slice_get subs index ≡ Some sub →
    new.setup ≡ sub.setup → IsAbout which index k mine next → AreAfter T units after sub new k mine → AreLinked subs units which k → AreLinked (slice_set subs index new) after which next
all-linked T subs units after index sub new which k mine next there s about a l =
    record {
      apart = apart-kept subs index sub new there s l.apart;
      linked = λ at v e.
          let b : (u : UnitState) × (slice_get units at ≡ Some u) × (((at ≢ sub.setup.«unit») × (v ≡ u)) ⊎ ((at ≡ sub.setup.«unit») × IsKept T sub new u v k mine)) = a at v e in
          elim b.2 [
            | inl p ↦ subst (λ (u : UnitState). IsLinked (slice_set subs index new) at u which next) (sym p.1)
                (other-linked subs index sub new at b.0 which k mine next there s p.0 about (l.linked at b.0 b.1))
            | inr p ↦ here-linked T subs index sub new at b.0 v which k mine next there l.apart p.0 p.1 about (l.linked at b.0 b.1)
          ];
    }

pub hold-linked : AreLaws → (subs : List Subchannel) (units : List UnitState) (index : ℕ) (sub new : Subchannel) (which : Option ℕ) (k mine next : StartCounts) → slice_get subs index ≡ Some sub → IsOfHold sub new →
    Tells sub new.state k mine → IsAbout which index k mine next → AreLinked subs units which k → AreLinked (slice_set subs index new) units which next
hold-linked laws subs units index sub new which k mine next there h f about l =
    all-linked ⊥ subs units units index sub new which k mine next there h.setup about
    (same-after ⊥ units sub new k mine (λ u. hold-kept laws sub new u k mine h f)) l

pub unit-linked : (T : Type 0) (subs : List Subchannel) (units : List UnitState) (index at : ℕ) (sub new : Subchannel) (u v : UnitState) (which : Option ℕ) (k mine next : StartCounts) → slice_get subs index ≡ Some sub →
    slice_get units at ≡ Some u → at ≡ sub.setup.«unit» → IsKept T sub new u v k mine → IsAbout which index k mine next → AreLinked subs units which k →
    AreLinked (slice_set subs index new) (slice_set units at v) which next
unit-linked T subs units index at sub new u v which k mine next there found e f about l =
    all-linked T subs units (slice_set units at v) index sub new which k mine next there f.setup about (set-after T units sub new at u v k mine found e f) l

-- what a unit owes changes none of it
owed-linked : (owed : Bool) (subs : List Subchannel) (at : ℕ) (u : UnitState) (which : Option ℕ) (k : StartCounts) → IsLinked subs at u which k → IsLinked subs at (owing owed u) which k
owed-linked owed subs at u which k l =
    record {
      links = with_owed owed l.links;
      good = owed-good owed l.links l.good;
      «unit» = ap (owing owed) l.«unit»;
      stand = λ i x e h. subst (λ (m : Link). IsLink x m) (sym (owed-link owed l.links x.setup.side)) (l.stand i x e h);
      told = λ i x e h q.
          told-wider k x.state l.links (with_owed owed l.links) x.setup.side (owed-passed owed l.links x.setup.side) (owed-accepted owed l.links x.setup.side) (l.told i x e h q);
    }

-- a unit restarts
restarted-linked : AreLaws → (subs : List Subchannel) (at : ℕ) (u : UnitState) (which : Option ℕ) (k : StartCounts) → IsLinked subs at u which k → IsLinked subs at (restarted u) which k
restarted-linked laws subs at u which k l =
    record {
      links = acted_links l.links Restarts;
      good = (restart-good laws l.links l.good).0;
      «unit» = ap restarted l.«unit»;
      stand = λ i x e h. link-wider x (link_of l.links x.setup.side) (link_of (acted_links l.links Restarts) x.setup.side) (links-wider l.links Restarts x.setup.side) (l.stand i x e h);
      told = λ i x e h q.
          told-wider k x.state l.links (acted_links l.links Restarts) x.setup.side (λ t p. restart-passed laws l.links x.setup.side t l.good p)
          (told-accepted l.links Restarts x.setup.side) (l.told i x e h q);
    }

pub restart-linked : AreLaws → (owed : Bool) (subs : List Subchannel) (units : List UnitState) (at : ℕ) (u : UnitState) (which : Option ℕ) (k : StartCounts) →
    slice_get units at ≡ Some u → AreLinked subs units which k → AreLinked subs (slice_set units at (owing owed (restarted u))) which k
restart-linked laws owed subs units at u which k found l =
    record {
      apart = l.apart;
      linked = λ i v e.
          elim (set-get units at (owing owed (restarted u)) i v e) [
            | inl p ↦ subst (λ (j : ℕ). IsLinked subs j v which k) (sym p.0)
                (subst (λ (w : UnitState). IsLinked subs at w which k) (sym p.1) (owed-linked owed subs at (restarted u) which k (restarted-linked laws subs at u which k (l.linked at u found))))
            | inr p ↦ l.linked i v p.1
          ];
    }

-- at the opening no signal waits
no-signal : {A : Type 0} (n p : ℕ) → queue {A = A} (replicate n []) p ≡ []
no-signal zero p = refl
no-signal (suc n) zero = refl
no-signal (suc n) (suc p) = no-signal n p

covers-none : {A : Type 0} (l : List (OnPath A)) (n : ℕ) → Covers l (replicate n [])
covers-none {A} l n p = let P : A → Type 0 = λ x. Contains l (record { path = p; signal = x }) in subst (λ (xs : List A). All P xs) (sym (no-signal n p)) (All-nil P)

opened-link : (setup : SubchannelSetup) (side : Side) → IsLink (opened setup) (link_of opening_links side)
opened-link setup First = record { drawn = refl; hold = refl; downs = covers-none [] 8; ups = covers-none [] 8 }
opened-link setup Second = record { drawn = refl; hold = refl; downs = covers-none [] 8; ups = covers-none [] 8 }

pub opens-linked : (setup : Setup) (which : Option ℕ) → IsLawful setup → IsGood opening_links → AreLinked (opening_of setup).subs (opening_of setup).units which no_starts
opens-linked setup which lawful good =
    record {
      apart = λ i j x y e f u side.
          let a : (s : SubchannelSetup) × (slice_get setup.subchannels i ≡ Some s) × (opened s ≡ x) = map-get opened setup.subchannels i x e in
          let b : (s : SubchannelSetup) × (slice_get setup.subchannels j ≡ Some s) × (opened s ≡ y) = map-get opened setup.subchannels j y f in
          one-index setup.subchannels i j a.0 b.0 lawful.shared a.1 b.1
          (ap (λ (z : Subchannel). z.setup.«unit») a.2 ∙ (u ∙ ap (λ (z : Subchannel). z.setup.«unit») (sym b.2)))
          (ap (λ (z : Subchannel). same_side z.setup.side b.0.side) a.2 ∙ (ap (λ (z : Subchannel). same_side x.setup.side z.setup.side) b.2 ∙ side));
      linked = λ at u e.
          let a : (kind : UnitKind) × (slice_get setup.units at ≡ Some kind) × (idle_of kind ≡ u) = map-get idle_of setup.units at u e in
          record {
            links = opening_links;
            good = good;
            «unit» = a.2;
            stand = λ index sub h g.
                let b : (s : SubchannelSetup) × (slice_get setup.subchannels index ≡ Some s) × (opened s ≡ sub) = map-get opened setup.subchannels index sub h in
                subst (λ (y : Subchannel). IsLink y (link_of opening_links y.setup.side)) b.2 (opened-link b.0 b.0.side);
            told = λ index sub h g q.
                let b : (s : SubchannelSetup) × (slice_get setup.subchannels index ≡ Some s) × (opened s ≡ sub) = map-get opened setup.subchannels index sub h in
                subst (λ (y : Subchannel). IsTold no_starts y.state opening_links y.setup.side) b.2 (told-opened opening_links b.0.side);
          };
    }

-- the indices of subchannels stay
pub index-set : (id : SubchannelId) (subs : List Subchannel) (index : ℕ) (sub new : Subchannel) → slice_get subs index ≡ Some sub → new.setup ≡ sub.setup →
    index_in id (slice_set subs index new) ≡ index_in id subs
index-set id [] index sub new e s = absurd (cc e)
index-set id (x ∷ xs) zero sub new e s =
    let same : x ≡ sub = cc e in
    ap (λ (setup : SubchannelSetup). if (setup.id.set == id.set) && (setup.id.number == id.number) then Some 0 else one_later (index_in id xs))
    (s ∙ ap (λ (y : Subchannel). y.setup) (sym same))
index-set id (x ∷ xs) (suc index) sub new e s = ap (λ (p : Option ℕ). if is_named id x then Some 0 else one_later p) (index-set id xs index sub new e s)

-- a state after entries that tell this of the subchannel of an id
pub record IsStateTold (id : SubchannelId) (k : StartCounts) (subs : List Subchannel) (units : List UnitState) : Type 0 where
  pub linked : AreLinked subs units (index_in id subs) k
  pub rises : AllPairs (λ x y. x < y) k.begun
