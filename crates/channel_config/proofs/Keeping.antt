-- What the rules keep stays as a machine is configured further.
use Rattle.std.proofs.Common.{◌≡◌, ℕ, ◌+◌, ◌<◌, ◌≤◌, ◌==◌, nat_lt, nat_le, Bool, true, false, ◌&&◌, ◌||◌, cond, List, [], ◌∷◌, ◌++◌, length, get_or, slice_index, refl, sym, ap, ◌∙◌, subst, arith, inl, inr, ◌⊎◌, suc, zero}
use Rattle.std.specs.Prelude.{if◌then◌else◌, Option, Some, None, All, count_by}
use Rattle.std.specs.List.{list_any, list_all}
use Rattle.std.proofs.lemmas.Bool.{and_parts, and_from, le-leb}
use Rattle.std.proofs.lemmas.Bool.Decides.{eqb_tells}
use Rattle.std.proofs.lemmas.List.Elements.{All-append}
use Rattle.std.proofs.lemmas.List.Folds.{list_any-append}
use Rattle.std.proofs.lemmas.List.Sums.{sum_by_push, sum_by-cons}
use Rattle.chan_model.specs.declared.names.Side.{Side}
use Rattle.chan_model.specs.declared.names.Side.TheVariants.{First, Second}
use Rattle.chan_model.specs.Sides.{same_side}
use Rattle.channel_config.specs.declared.parts.SubchannelSetup.{SubchannelSetup}
use Rattle.channel_config.specs.Setup.{Setup, has_number, are_distinct, are_paths, set_count, count_in_set, uses_of, side_left}
use Rattle.channel_config.specs.Numbers.{AreSmall}
use Rattle.channel_config.specs.Lawful.{IsPlaced, IsShared, IsLawful, MayOwn, hosted, uses_by}

has_number-push : (ns : List ℕ) (n m : ℕ) → has_number ns m ≡ true → has_number (ns ++ n ∷ []) m ≡ true
has_number-push ns n m h = list_any-append (λ k. k == m) ns (n ∷ []) ∙ ap (λ (b : Bool). b || list_any (λ k. k == m) (n ∷ [])) h

all_known-push : (ns : List ℕ) (n : ℕ) (paths : List ℕ) → list_all (has_number ns) paths ≡ true → list_all (has_number (ns ++ n ∷ [])) paths ≡ true
all_known-push ns n [] h = refl
all_known-push ns n (p ∷ ps) h =
    let parts = and_parts (has_number ns p) (list_all (has_number ns) ps) h in
    and_from _ _ (has_number-push ns n p parts.0) (all_known-push ns n ps parts.1)

are_paths-push : (ns : List ℕ) (n : ℕ) (paths : List ℕ) → are_paths ns paths ≡ true → are_paths (ns ++ n ∷ []) paths ≡ true
are_paths-push ns n paths h =
    let a = and_parts (nat_lt 0 (length paths)) (nat_le (length paths) 8 && (list_all (has_number ns) paths && are_distinct paths)) h in
    let b = and_parts (nat_le (length paths) 8) (list_all (has_number ns) paths && are_distinct paths) a.1 in
    let c = and_parts (list_all (has_number ns) paths) (are_distinct paths) b.1 in
    and_from _ _ a.0 (and_from _ _ b.0 (and_from _ _ (all_known-push ns n paths c.0) c.1))

-- a refused growth leaves the list
pub lawful-paths : (s : Setup) (items : List ℕ) → items ≡ s.paths → IsLawful s → IsLawful (record s { paths = items })
lawful-paths s items e h = subst (λ (xs : List ℕ). IsLawful (record s { paths = xs })) (sym e) h

-- as many units share, in whatever groups
pub lawful-shared : (s : Setup) (items : List (Option ℕ)) → length items ≡ length s.shared → IsLawful s → IsLawful (record s { shared = items })
lawful-shared s items e h = record {
  blocks = h.blocks;
  sets = h.sets;
  units = h.units;
  shared_units = e ∙ h.shared_units;
  subchannels = h.subchannels;
  per_set = h.per_set;
  shared = h.shared;
}

pub lawful-subchannels : (s : Setup) (items : List SubchannelSetup) → items ≡ s.subchannels → IsLawful s → IsLawful (record s { subchannels = items })
lawful-subchannels s items e h = subst (λ (xs : List SubchannelSetup). IsLawful (record s { subchannels = xs })) (sym e) h

All-one : {X : Type 0} (P : X → Type 0) (x : X) → P x → All P (x ∷ [])
All-one P x h zero d lt = h
All-one P x h (suc k) d lt = absurd (omega arith)

pub lawful-storage : (s : Setup) (n : ℕ) → 0x10 ≤ n → IsLawful s → IsLawful (hosted s n)
lawful-storage s n low h = record {
  blocks = λ m e. let same : n ≡ m = cc in omega arith;
  sets = h.sets;
  units = h.units;
  shared_units = h.shared_units;
  subchannels = h.subchannels;
  per_set = h.per_set;
  shared = h.shared;
}

pub may-own : (s : Setup) (n : ℕ) → n ≤ 0x1000 → MayOwn (hosted s n)
may-own s n high = λ m e. let same : n ≡ m = cc in omega arith

pub lawful-path-more : (s : Setup) (c : ℕ) (items : List ℕ) → items ≡ s.paths ++ c ∷ [] → IsLawful s → IsLawful (record s { paths = items })
lawful-path-more s c items e h = lawful-paths (record s { paths = s.paths ++ c ∷ [] }) items e (record {
  blocks = h.blocks;
  sets = h.sets;
  units = h.units;
  shared_units = h.shared_units;
  subchannels = λ k d lt. let placed = h.subchannels k d lt in
      record { set = placed.set; number = placed.number; unit = placed.unit; paths = are_paths-push s.paths c (get_or s.subchannels k d).paths placed.paths };
  per_set = h.per_set;
  shared = h.shared;
})

abbrev bit : Bool → ℕ
bit b = cond b 1 0

one_side : (here : Bool) (side : Side) → bit here ≡ bit (here && same_side side First) + bit (here && same_side side Second)
one_side false side = refl
one_side true First = refl
one_side true Second = refl

-- each use of a unit is one of a side
uses_of-sides : (subs : List SubchannelSetup) (unit : ℕ) → uses_of subs unit ≡ uses_by subs unit First + uses_by subs unit Second
uses_of-sides [] unit = refl
uses_of-sides (sub ∷ subs) unit =
    let here = one_side (sub.unit == unit) sub.side in
    let rest = uses_of-sides subs unit in
    let all : uses_of (sub ∷ subs) unit ≡ bit (sub.unit == unit) + uses_of subs unit = sum_by-cons (λ x. bit (x.unit == unit)) sub subs in
    let first : uses_by (sub ∷ subs) unit First ≡ bit (sub.unit == unit && same_side sub.side First) + uses_by subs unit First =
    sum_by-cons (λ x. bit (x.unit == unit && same_side x.side First)) sub subs in
    let second : uses_by (sub ∷ subs) unit Second ≡ bit (sub.unit == unit && same_side sub.side Second) + uses_by subs unit Second =
    sum_by-cons (λ x. bit (x.unit == unit && same_side x.side Second)) sub subs in
    all ∙ omega arith ∙ sym (ap (λ (n : ℕ). n + uses_by (sub ∷ subs) unit Second) first ∙ ap (λ (n : ℕ). bit (sub.unit == unit && same_side sub.side First) + uses_by subs unit First + n) second)

count_by-push : (p : SubchannelSetup → Bool) (subs items : List SubchannelSetup) (sub : SubchannelSetup) → items ≡ subs ++ sub ∷ [] → count_by p items ≡ count_by p subs + bit (p sub)
count_by-push p subs items sub e = ap (count_by p) e ∙ sum_by_push (λ x. bit (p x)) subs sub

-- the side that is given is the one that is left
side_of_uses : (unknown : Bool) (uses : ℕ) (side : Side) → (if unknown || nat_le 2 uses then None else Some (if uses == 0 then First else Second)) ≡ Some side
    → ((side ≡ First) × (uses ≡ 0)) ⊎ ((side ≡ Second) × (uses ≡ 1))
side_of_uses true uses side h = absurd (cc)
side_of_uses false zero side h = inl (cc, refl)
side_of_uses false (suc zero) side h = inr (cc, refl)
side_of_uses false (suc (suc n)) side h =
    let two : nat_le 2 (suc (suc n)) ≡ true = le-leb 2 (suc (suc n)) (omega arith) in
    let none : None ≡ Some side = sym (ap (λ (b : Bool). if b then None else Some (if suc (suc n) == 0 then First else Second)) two) ∙ h in
    absurd (cc)

shared-push : (subs items : List SubchannelSetup) (sub : SubchannelSetup) → items ≡ subs ++ sub ∷ []
    → ((sub.side ≡ First) × (uses_of subs sub.unit ≡ 0)) ⊎ ((sub.side ≡ Second) × (uses_of subs sub.unit ≡ 1))
    → (unit : ℕ) → IsShared subs unit → IsShared items unit
shared-push subs items sub e left unit h =
    let first = count_by-push (λ x. x.unit == unit && same_side x.side First) subs items sub e in
    let second = count_by-push (λ x. x.unit == unit && same_side x.side Second) subs items sub e in
    let both = uses_of-sides subs unit in
    elim (eqb_tells sub.unit unit) [
      | inl here ↦ elim left [
        | inl free ↦
            let none : uses_of subs unit ≡ 0 = ap (uses_of subs) (sym here.1) ∙ free.1 in
            let a : bit (sub.unit == unit && same_side sub.side First) ≡ 1 = ap (λ (b : Bool). bit (b && same_side sub.side First)) here.0 ∙ ap (λ (k : Side). bit (same_side k First)) free.0 in
            let b : bit (sub.unit == unit && same_side sub.side Second) ≡ 0 = ap (λ (b : Bool). bit (b && same_side sub.side Second)) here.0 ∙ ap (λ (k : Side). bit (same_side k Second)) free.0 in
            record { first = omega arith; second = omega arith }
        | inr used ↦
            let one : uses_of subs unit ≡ 1 = ap (uses_of subs) (sym here.1) ∙ used.1 in
            let a : bit (sub.unit == unit && same_side sub.side First) ≡ 0 = ap (λ (b : Bool). bit (b && same_side sub.side First)) here.0 ∙ ap (λ (k : Side). bit (same_side k First)) used.0 in
            let b : bit (sub.unit == unit && same_side sub.side Second) ≡ 1 = ap (λ (b : Bool). bit (b && same_side sub.side Second)) here.0 ∙ ap (λ (k : Side). bit (same_side k Second)) used.0 in
            record { first = omega arith; second = omega arith }
      ]
      | inr other ↦
          let a : bit (sub.unit == unit && same_side sub.side First) ≡ 0 = ap (λ (b : Bool). bit (b && same_side sub.side First)) other.0 in
          let b : bit (sub.unit == unit && same_side sub.side Second) ≡ 0 = ap (λ (b : Bool). bit (b && same_side sub.side Second)) other.0 in
          record { first = omega arith; second = omega arith }
    ]

in_set-push : (subs items : List SubchannelSetup) (sub : SubchannelSetup) → items ≡ subs ++ sub ∷ [] → count_in_set subs sub.id.set < 0x100
    → (set : ℕ) → count_in_set subs set ≤ 0x100 → count_in_set items set ≤ 0x100
in_set-push subs items sub e room set h =
    let more = count_by-push (λ x. x.id.set == set) subs items sub e in
    elim (eqb_tells sub.id.set set) [
      | inl here ↦
          let below : count_in_set subs set < 0x100 = subst (λ (n : ℕ). count_in_set subs n < 0x100) here.1 room in
          let one : bit (sub.id.set == set) ≡ 1 = ap (λ (b : Bool). bit b) here.0 in
          omega arith
      | inr other ↦
          let none : bit (sub.id.set == set) ≡ 0 = ap (λ (b : Bool). bit b) other.0 in
          omega arith
    ]

-- one subchannel more, as it was found to fit the set-up t, which is s
pub lawful-subchannel-more : (s t : Setup) (sub : SubchannelSetup) (items : List SubchannelSetup) → s ≡ t → items ≡ s.subchannels ++ sub ∷ []
    → IsPlaced (set_count t) (length t.units) t.paths sub → count_in_set t.subchannels sub.id.set < 0x100 → side_left t sub.unit ≡ Some sub.side
    → IsLawful s → IsLawful (record s { subchannels = items })
lawful-subchannel-more s t sub items same e fits there left h =
    let P : SubchannelSetup → Type 0 = IsPlaced (set_count s) (length s.units) s.paths in
    let placed : P sub = subst (λ (u : Setup). IsPlaced (set_count u) (length u.units) u.paths sub) (sym same) fits in
    let room : count_in_set s.subchannels sub.id.set < 0x100 = subst (λ (u : Setup). count_in_set u.subchannels sub.id.set < 0x100) (sym same) there in
    let side : side_left s sub.unit ≡ Some sub.side = ap (λ (u : Setup). side_left u sub.unit) same ∙ left in
    let sided = side_of_uses (nat_le (length s.units) sub.unit) (uses_of s.subchannels sub.unit) sub.side side in
    let last : All P (sub ∷ []) = All-one P sub placed in
    record {
      blocks = h.blocks;
      sets = h.sets;
      units = h.units;
      shared_units = h.shared_units;
      subchannels = subst (All P) (sym e) (All-append P s.subchannels (sub ∷ []) h.subchannels last);
      per_set = λ set. in_set-push s.subchannels items sub e room set (h.per_set set);
      shared = λ unit. shared-push s.subchannels items sub e sided unit (h.shared unit);
    }

has_number-small : (known : List ℕ) (n : ℕ) → AreSmall known → has_number known n ≡ true → n < 0x100
has_number-small [] n small h = absurd (cc)
has_number-small (m ∷ ms) n small h = elim (eqb_tells m n) [
  | inl same ↦ subst (λ (k : ℕ). k < 0x100) same.1 (small 0)
  | inr other ↦ has_number-small ms n (λ k. small (suc k)) (sym (ap (λ (b : Bool). b || has_number ms n) other.0) ∙ h)
]

-- paths that are known are bytes as those are
pub known_small : (known paths : List ℕ) → AreSmall known → list_all (has_number known) paths ≡ true → (k : ℕ) → slice_index paths k < 0x100
known_small known [] small h k = omega arith
known_small known (p ∷ ps) small h zero = has_number-small known p small (and_parts (has_number known p) (list_all (has_number known) ps) h).0
known_small known (p ∷ ps) small h (suc k) = known_small known ps small (and_parts (has_number known p) (list_all (has_number known) ps) h).1 k
