-- What is seen of each subchannel is what it keeps: of all subchannels, as one of them or all are changed.
use Rattle.std.proofs.Common.{◌≡◌, refl, sym, ◌∙◌, ap, subst, ℕ, zero, suc, ◌≤◌, ◌<◌, ◌==◌, ◌&&◌, Bool, true, false, Option, None, Some, List, [], ◌∷◌, length, map, slice_get, slice_set, if◌then◌else◌, inl, inr, arith}
use Rattle.std.specs.Prelude.{nat_le, nat_lt, IsSomeAnd}
use Rattle.std.specs.List.{list_all}
use Rattle.std.proofs.lemmas.Bool.{and_parts, leb-true}
use Rattle.std.proofs.lemmas.List.{get_or-replicate}
use Rattle.std.proofs.lemmas.Option.{slice_get_within}
use Rattle.channel_config.specs.declared.names.SubchannelId.{SubchannelId}
use Rattle.channel_config.specs.declared.parts.SubchannelSetup.{SubchannelSetup}
use Rattle.channel_config.specs.Lawful.{IsPlaced}
use Rattle.channel_config.specs.Setup.{has_number, are_distinct}
use Rattle.subchannel_model.specs.declared.state.Subchannel.{Subchannel}
use Rattle.subchannel_model.specs.Opening.{opened}
use Rattle.subchannel_model.specs.Indices.{is_named, index_in, index_of_id}
use Rattle.run_laws.proofs.Machine.WaitingSignals.{none-wait}
use Rattle.run_laws.specs.Links.{SubSeen, first_seen, seen_named, change_first, change_named, nothing_offered}
use Rattle.run_laws.proofs.Signals.UnitTurns.{first-cases}
use Rattle.run_laws.proofs.Signals.LinkMeets.{IsSeenUp}
use Rattle.run_laws.proofs.Signals.LinkSubs.{IsTied}
use Rattle.run_laws.proofs.Signals.LinkUnits.{IsSeenDown}

abbrev pub AreTied : (ℕ → Bool) → List SubSeen → List Subchannel → Type 0
AreTied is_up [] [] = Unit {0}
AreTied is_up [] (sub ∷ subs) = ⊥
AreTied is_up (k ∷ ks) [] = ⊥
AreTied is_up (k ∷ ks) (sub ∷ subs) = IsTied is_up k sub × AreTied is_up ks subs

-- one is changed, in what is not seen
pub tied-set : (is_up : ℕ → Bool) (ks : List SubSeen) (subs : List Subchannel) (index : ℕ) (sub after : Subchannel) → slice_get subs index ≡ Some sub →
    ((k : SubSeen) → IsTied is_up k sub → IsTied is_up k after) → AreTied is_up ks subs → AreTied is_up ks (slice_set subs index after)
tied-set is_up [] [] index sub after e f all = absurd (cc e)
tied-set is_up [] (x ∷ xs) index sub after e f all = absurd all
tied-set is_up (k ∷ ks) [] index sub after e f all = absurd all
tied-set is_up (k ∷ ks) (x ∷ xs) zero sub after e f all = let same : x ≡ sub = cc e in (f k (subst (λ (y : Subchannel). IsTied is_up k y) same all.0), all.1)
tied-set is_up (k ∷ ks) (x ∷ xs) (suc index) sub after e f all = (all.0, tied-set is_up ks xs index sub after e f all.1)

-- all are
pub tied-map : (old new : ℕ → Bool) (f : SubSeen → SubSeen) (g : Subchannel → Subchannel) (ks : List SubSeen) (subs : List Subchannel) →
    ((k : SubSeen) (sub : Subchannel) → IsTied old k sub → IsTied new (f k) (g sub)) → AreTied old ks subs → AreTied new (map f ks) (map g subs)
tied-map old new f g [] [] h all = tt
tied-map old new f g [] (x ∷ xs) h all = absurd all
tied-map old new f g (k ∷ ks) [] h all = absurd all
tied-map old new f g (k ∷ ks) (x ∷ xs) h all = (h k x all.0, tied-map old new f g ks xs h all.1)

pub tied-subs : (old new : ℕ → Bool) (g : Subchannel → Subchannel) (ks : List SubSeen) (subs : List Subchannel) →
    ((k : SubSeen) (sub : Subchannel) → IsTied old k sub → IsTied new k (g sub)) → AreTied old ks subs → AreTied new ks (map g subs)
tied-subs old new g [] [] h all = tt
tied-subs old new g [] (x ∷ xs) h all = absurd all
tied-subs old new g (k ∷ ks) [] h all = absurd all
tied-subs old new g (k ∷ ks) (x ∷ xs) h all = (h k x all.0, tied-subs old new g ks xs h all.1)

-- the first of a name
named-same : (is_up : ℕ → Bool) (id : SubchannelId) (k : SubSeen) (sub : Subchannel) (b : Bool) → IsTied is_up k sub → is_named id sub ≡ b → ((k.setup.id.set == id.set) && (k.setup.id.number == id.number)) ≡ b
named-same is_up id k sub b tie e = ap (λ (s : SubchannelSetup). (s.id.set == id.set) && (s.id.number == id.number)) tie.setup ∙ e

pub of-first : (is_up : ℕ → Bool) (P : SubSeen → Type 0) (id : SubchannelId) (ks : List SubSeen) (subs : List Subchannel) (index : ℕ) (sub : Subchannel) → index_in id subs ≡ Some index →
    slice_get subs index ≡ Some sub → ((k : SubSeen) → IsTied is_up k sub → P k) → AreTied is_up ks subs → IsSomeAnd (first_seen id ks) P
of-first is_up P id [] [] index sub e there f all = absurd (cc there)
of-first is_up P id [] (x ∷ xs) index sub e there f all = absurd all
of-first is_up P id (k ∷ ks) [] index sub e there f all = absurd all
of-first is_up P id (k ∷ ks) (x ∷ xs) index sub e there f all =
    elim (first-cases (is_named id x) (index_in id xs) index e) [
      | inl h ↦
          let same : x ≡ sub = cc (subst (λ (i : ℕ). slice_get (x ∷ xs) i ≡ Some sub) h.1 there) in
          subst (λ (o : Option SubSeen). IsSomeAnd o P) (sym (ap (λ (b : Bool). if b then Some k else first_seen id ks) (named-same is_up id k x true all.0 h.0)))
          (f k (subst (λ (y : Subchannel). IsTied is_up k y) same all.0))
      | inr h ↦
          subst (λ (o : Option SubSeen). IsSomeAnd o P) (sym (ap (λ (b : Bool). if b then Some k else first_seen id ks) (named-same is_up id k x false all.0 h.0)))
          (of-first is_up P id ks xs h.1.0 sub h.1.1 (subst (λ (i : ℕ). slice_get (x ∷ xs) i ≡ Some sub) h.1.2 there) f all.1)
    ]

change-tied : (is_up : ℕ → Bool) (id : SubchannelId) (f : SubSeen → SubSeen) (ks : List SubSeen) (subs : List Subchannel) (index : ℕ) (sub after : Subchannel) → index_in id subs ≡ Some index →
    slice_get subs index ≡ Some sub → ((k : SubSeen) → IsTied is_up k sub → IsTied is_up (f k) after) → AreTied is_up ks subs → AreTied is_up (change_first id f ks) (slice_set subs index after)
change-tied is_up id f [] [] index sub after e there h all = absurd (cc there)
change-tied is_up id f [] (x ∷ xs) index sub after e there h all = absurd all
change-tied is_up id f (k ∷ ks) [] index sub after e there h all = absurd all
change-tied is_up id f (k ∷ ks) (x ∷ xs) index sub after e there h all =
    elim (first-cases (is_named id x) (index_in id xs) index e) [
      | inl z ↦
          let same : x ≡ sub = cc (subst (λ (i : ℕ). slice_get (x ∷ xs) i ≡ Some sub) z.1 there) in
          subst (λ (i : ℕ). AreTied is_up (change_first id f (k ∷ ks)) (slice_set (x ∷ xs) i after)) (sym z.1)
          (subst (λ (ys : List SubSeen). AreTied is_up ys (after ∷ xs)) (sym (ap (λ (b : Bool). if b then f k ∷ ks else k ∷ change_first id f ks) (named-same is_up id k x true all.0 z.0)))
          (h k (subst (λ (y : Subchannel). IsTied is_up k y) same all.0), all.1))
      | inr z ↦
          subst (λ (i : ℕ). AreTied is_up (change_first id f (k ∷ ks)) (slice_set (x ∷ xs) i after)) (sym z.1.2)
          (subst (λ (ys : List SubSeen). AreTied is_up ys (x ∷ slice_set xs z.1.0 after)) (sym (ap (λ (b : Bool). if b then f k ∷ ks else k ∷ change_first id f ks) (named-same is_up id k x false all.0 z.0)))
          (all.0, change-tied is_up id f ks xs z.1.0 sub after z.1.1 (subst (λ (i : ℕ). slice_get (x ∷ xs) i ≡ Some sub) z.1.2 there) h all.1))
    ]

-- the subchannel that a word names
pub of-named : (is_up : ℕ → Bool) (P : SubSeen → Type 0) (x : Option SubchannelId) (ks : List SubSeen) (subs : List Subchannel) (index : ℕ) (sub : Subchannel) → index_of_id subs x ≡ Some index →
    slice_get subs index ≡ Some sub → ((k : SubSeen) → IsTied is_up k sub → P k) → AreTied is_up ks subs → IsSomeAnd (seen_named x ks) P
of-named is_up P None ks subs index sub e there f all = absurd (cc e)
of-named is_up P (Some id) ks subs index sub e there f all = of-first is_up P id ks subs index sub e there f all

pub named-tied : (is_up : ℕ → Bool) (x : Option SubchannelId) (f : SubSeen → SubSeen) (ks : List SubSeen) (subs : List Subchannel) (index : ℕ) (sub after : Subchannel) → index_of_id subs x ≡ Some index →
    slice_get subs index ≡ Some sub → ((k : SubSeen) → IsTied is_up k sub → IsTied is_up (f k) after) → AreTied is_up ks subs → AreTied is_up (change_named x f ks) (slice_set subs index after)
named-tied is_up None f ks subs index sub after e there h all = absurd (cc e)
named-tied is_up (Some id) f ks subs index sub after e there h all = change-tied is_up id f ks subs index sub after e there h all

-- nothing is changed
if-same : (b : Bool) (x : SubSeen) (y z : SubSeen) (ys zs : List SubSeen) → y ≡ x → z ≡ x → ys ≡ zs → (if b then y ∷ zs else z ∷ ys) ≡ x ∷ zs
if-same true x y z ys zs e f g = ap (λ (w : SubSeen). w ∷ zs) e
if-same false x y z ys zs e f g = ap (λ (w : SubSeen). w ∷ ys) f ∙ ap (λ (ws : List SubSeen). x ∷ ws) g

change-none : (id : SubchannelId) (f : SubSeen → SubSeen) (ks : List SubSeen) → ((k : SubSeen) → f k ≡ k) → change_first id f ks ≡ ks
change-none id f [] h = refl
change-none id f (k ∷ ks) h = if-same ((k.setup.id.set == id.set) && (k.setup.id.number == id.number)) k (f k) k (change_first id f ks) ks (h k) refl (change-none id f ks h)

pub named-none : (x : Option SubchannelId) (f : SubSeen → SubSeen) (ks : List SubSeen) → ((k : SubSeen) → f k ≡ k) → change_named x f ks ≡ ks
named-none None f ks h = refl
named-none (Some id) f ks h = change-none id f ks h

-- at the opening
all-at : (test : ℕ → Bool) (xs : List ℕ) (i x : ℕ) → list_all test xs ≡ true → slice_get xs i ≡ Some x → test x ≡ true
all-at test [] i x a e = absurd (cc e)
all-at test (y ∷ ys) zero x a e = let same : y ≡ x = cc e in sym (ap test same) ∙ (and_parts (test y) (list_all test ys) a).0
all-at test (y ∷ ys) (suc i) x a e = all-at test ys i x (and_parts (test y) (list_all test ys) a).1 e

opened-tied : (sets units : ℕ) (known : List ℕ) (setup : SubchannelSetup) → IsPlaced sets units known setup → IsTied (has_number known) (nothing_offered setup) (opened setup)
opened-tied sets units known setup placed =
    let paths : List ℕ = setup.paths in
    let some = and_parts (nat_lt 0 (length paths)) (nat_le (length paths) 8 && (list_all (has_number known) paths && are_distinct paths)) placed.paths in
    let few = and_parts (nat_le (length paths) 8) (list_all (has_number known) paths && are_distinct paths) some.1 in
    let all = and_parts (list_all (has_number known) paths) (are_distinct paths) few.1 in
    let most : length paths ≤ 8 = leb-true (length paths) 8 few.0 in
    record {
      setup = refl;
      paths = record { few = most; distinct = all.1 };
      long = refl;
      shown = λ p chpid at.
          let within : p < length paths = slice_get_within paths p chpid at in
          get_or-replicate 8 p true false (omega (arith, within, most)) ∙ sym (all-at (has_number known) paths p chpid all.0 at);
      held = record { stands = inl refl; asked = refl; first = refl; known_restarts = refl; drawn = omega arith; due = tt; single = tt };
      downs = none-wait (λ p d. IsSeenDown 0 d) 8;
      ups = none-wait (λ p x. IsSeenUp 0 x) 8;
    }

pub opening-tied : (sets units : ℕ) (known : List ℕ) (setups : List SubchannelSetup) → ((i : ℕ) (x : SubchannelSetup) → slice_get setups i ≡ Some x → IsPlaced sets units known x) →
    AreTied (has_number known) (map nothing_offered setups) (map opened setups)
opening-tied sets units known [] f = tt
opening-tied sets units known (x ∷ xs) f = (opened-tied sets units known x (f zero x refl), opening-tied sets units known xs (λ i y e. f (suc i) y e))
