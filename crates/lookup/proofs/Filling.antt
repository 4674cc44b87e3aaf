-- Tables that are filled from the last subchannel to the first.
use Rattle.std.proofs.Common.{◌≡◌, ◌≢◌, refl, sym, ◌∙◌, ap, subst, ℕ, ◌+◌, ◌-◌, ◌*◌, ◌/◌, ◌%◌, ◌<◌, ◌≤◌, ◌==◌, ◌&&◌, nat_lt, zero, suc, Bool, true, false, Option, None, Some, List, [], ◌∷◌, ◌++◌, length, drop, replicate, slice_index_or, if◌then◌else◌, arith}
use Rattle.std.specs.Prelude.{slice_set}
use Rattle.std.proofs.lemmas.List.{append_assoc, drop_more, drop_all, length-set, length-replicate, replicate-append-replicate}
use Rattle.std.proofs.lemmas.Bool.{and_parts, and_from, and_right, ltb-true, ltb-false, eqb-true, eq-eqb, ne_eqb}
use Rattle.std.proofs.Math.Bool.{and-true}
use Rattle.std.proofs.lemmas.Option.{same_Some}
use Rattle.std.specs.Cmp.{both_ways}
use Rattle.chan_model.specs.declared.names.Side.{Side}
use Rattle.chan_model.specs.declared.names.Side.TheVariants.{First, Second}
use Rattle.chan_model.specs.Sides.{same_side}
use Rattle.subchannel_model.specs.declared.state.Subchannel.{Subchannel}
use Rattle.subchannel_model.specs.Indices.{first_index, is_named, reaches, one_later}
use Rattle.lookup.specs.Tables.{IsTable, Tables, Fits, HasSize, id_at, of_side, name_index, unit_index, with_entry, entered}

-- an index in the rest of a list, counted from the beginning of the list
abbrev further : ℕ → Option ℕ → Option ℕ
further n None = None
further n (Some index) = Some (index + n)

-- the first index from n on of a subchannel that passes the test of an entry
abbrev index_from : (ℕ → Subchannel → Bool) → ℕ → List Subchannel → ℕ → Option ℕ
index_from test n subs k = further n (first_index (test k) (drop n subs))

-- the tables are those of the subchannels from n on
pub record FitsFrom (n : ℕ) (t : Tables) (subs : List Subchannel) : Type 0 where
  pub named : IsTable (index_from (λ k. is_named (id_at k)) n subs) t.named
  pub sides : (side : Side) → IsTable (index_from (λ u. reaches u side) n subs) (of_side side t)

-- an entry is written
table-set : (f g : ℕ → Option ℕ) (table : List (Option ℕ)) (i : ℕ) (v : Option ℕ) → IsTable f table → v ≡ g i → ((k : ℕ) → k ≢ i → f k ≡ g k) → IsTable g (slice_set table i v)
table-set f g [] i v t here other k p h = absurd (cc h)
table-set f g (x ∷ xs) zero v t here other zero p h = sym (same_Some v p h) ∙ here
table-set f g (x ∷ xs) zero v t here other (suc k) p h = t (suc k) p h ∙ other (suc k) (λ e. absurd (omega (arith, e)))
table-set f g (x ∷ xs) (suc i) v t here other zero p h = t zero p h ∙ other zero (λ e. absurd (omega (arith, e)))
table-set f g (x ∷ xs) (suc i) v t here other (suc k) p h =
    table-set (λ n. f (suc n)) (λ n. g (suc n)) xs i v (λ n. t (suc n)) here (λ n apart. other (suc n) (λ e. apart (omega (arith, e)))) k p h

-- the head passes, or the index is one of the rest
further-here : (b : Bool) (o : Option ℕ) (n : ℕ) → b ≡ true → Some n ≡ further n (if b then Some 0 else o)
further-here true o n e = let z : n ≡ 0 + n = omega arith in ap (λ (m : ℕ). Some m) z
further-here false o n e = absurd (cc e)

further-rest : (b : Bool) (o : Option ℕ) (n : ℕ) → b ≡ false → further (n + 1) o ≡ further n (if b then Some 0 else one_later o)
further-rest true o n e = absurd (cc e)
further-rest false None n e = refl
further-rest false (Some p) n e = let z : p + (n + 1) ≡ p + 1 + n = omega arith in ap (λ (m : ℕ). Some m) z

-- whether an entry is at an key
abbrev is_at : Option ℕ → ℕ → Bool
is_at None k = false
is_at (Some i) k = i == k

-- the entry of one more subchannel is written, where it has one
table-entered : (test : ℕ → Subchannel → Bool) (key : Option ℕ) (n : ℕ) (subs : List Subchannel) (sub : Subchannel) (table : List (Option ℕ)) →
    drop n subs ≡ sub ∷ drop (n + 1) subs → ((k : ℕ) → test k sub ≡ is_at key k) → IsTable (index_from test (n + 1) subs) table → IsTable (index_from test n subs) (with_entry table key n)
table-entered test None n subs sub table split is t =
    λ k p h. t k p h ∙ (further-rest (test k sub) (first_index (test k) (drop (n + 1) subs)) n (is k) ∙ ap (λ (xs : List Subchannel). further n (first_index (test k) xs)) (sym split))
table-entered test (Some i) n subs sub table split is t =
    table-set (index_from test (n + 1) subs) (index_from test n subs) table i (Some n) t
    (further-here (test i sub) (one_later (first_index (test i) (drop (n + 1) subs))) n (is i ∙ eq-eqb i i refl) ∙ ap (λ (xs : List Subchannel). further n (first_index (test i) xs)) (sym split))
    (λ k apart. further-rest (test k sub) (first_index (test k) (drop (n + 1) subs)) n (is k ∙ ne_eqb i k (λ e. apart (sym e)))
    ∙ ap (λ (xs : List Subchannel). further n (first_index (test k) xs)) (sym split))

-- the entry of a name is the one that stands for it
name-case : (set number k : ℕ) (small : Bool) → nat_lt number 0x100 ≡ small →
    ((set == k / 0x100) && (number == k % 0x100)) ≡ is_at (if small then Some (set * 0x100 + number) else None) k
name-case set number k true e =
    let within : number < 0x100 = ltb-true number 0x100 e in
    both_ways ((set == k / 0x100) && (number == k % 0x100)) (set * 0x100 + number == k)
    (λ h. let parts = and_parts (set == k / 0x100) (number == k % 0x100) h in
    let s = eqb-true set (k / 0x100) parts.0 in
    let n = eqb-true number (k % 0x100) parts.1 in
    eq-eqb (set * 0x100 + number) k (omega (arith, s, n)))
    (λ h. let i = eqb-true (set * 0x100 + number) k h in
    and_from (set == k / 0x100) (number == k % 0x100) (eq-eqb set (k / 0x100) (omega (arith, i, within))) (eq-eqb number (k % 0x100) (omega (arith, i, within))))
name-case set number k false e =
    let beyond : 0x100 ≤ number = ltb-false number 0x100 e in
    and_right (set == k / 0x100) (number == k % 0x100) (ne_eqb number (k % 0x100) (λ h. absurd (omega (arith, h, beyond))))

name-at : (sub : Subchannel) (k : ℕ) → is_named (id_at k) sub ≡ is_at (name_index sub.setup.id) k
name-at sub k = name-case sub.setup.id.set sub.setup.id.number k (nat_lt sub.setup.id.number 0x100) refl

unit-at : (unit : ℕ) (same : Bool) (k : ℕ) → ((unit == k) && same) ≡ is_at (if same then Some unit else None) k
unit-at unit true k = and-true (unit == k)
unit-at unit false k = and_right (unit == k) false refl

-- the tables of the sides, of which one has an entry more
side-entered : (side : Side) (n : ℕ) (t : Tables) (subs : List Subchannel) (sub : Subchannel) →
    drop n subs ≡ sub ∷ drop (n + 1) subs →
    IsTable (index_from (λ u. reaches u side) (n + 1) subs) (of_side side t) →
    IsTable (index_from (λ u. reaches u side) n subs) (of_side side (entered n sub t))
side-entered First n t subs sub split fits =
    table-entered (λ u. reaches u First) (unit_index First sub) n subs sub t.firsts split
    (unit-at sub.setup.«unit» (same_side sub.setup.side First)) fits
side-entered Second n t subs sub split fits =
    table-entered (λ u. reaches u Second) (unit_index Second sub) n subs sub t.seconds split
    (unit-at sub.setup.«unit» (same_side sub.setup.side Second)) fits

pub fits-entered : (n : ℕ) (t : Tables) (subs : List Subchannel) (sub : Subchannel) → n < length subs →
    sub ≡ slice_index_or subs n sub → FitsFrom (n + 1) t subs → FitsFrom n (entered n sub t) subs
fits-entered n t subs sub within there f =
    let split : drop n subs ≡ sub ∷ drop (n + 1) subs =
    drop_more subs n sub within ∙ ap (λ (x : Subchannel). x ∷ drop (n + 1) subs) (sym there) in
    record {
      named = table-entered (λ k. is_named (id_at k)) (name_index sub.setup.id) n subs sub t.named split (name-at sub) f.named;
      sides = λ side. side-entered side n t subs sub split (f.sides side);
    }

-- at the end no subchannel is left, and the entries are empty
table-empty : (f : ℕ → Option ℕ) (entries : ℕ) → ((k : ℕ) → None ≡ f k) → IsTable f (replicate entries None)
table-empty f zero none k p h = absurd (cc h)
table-empty f (suc n) none zero p h = sym (same_Some None p h) ∙ none zero
table-empty f (suc n) none (suc k) p h = table-empty (λ j. f (suc j)) n (λ j. none (suc j)) k p h

none-left : (test : Subchannel → Bool) (subs : List Subchannel) →
    None ≡ further (length subs) (first_index test (drop (length subs) subs))
none-left test subs =
    ap (λ (xs : List Subchannel). further (length subs) (first_index test xs)) (sym (drop_all (length subs) subs (omega arith)))

pub fits-none : (entries : ℕ) (units : ℕ) (t : Tables) (subs : List Subchannel) → t.named ≡ replicate entries None →
    ((side : Side) → of_side side t ≡ replicate units None) → FitsFrom (length subs) t subs
fits-none entries units t subs named sides = record {
  named = subst (IsTable _) (sym named) (table-empty _ entries (λ k. none-left (is_named (id_at k)) subs));
  sides = λ side. subst (IsTable _) (sym (sides side)) (table-empty _ units (λ u. none-left (reaches u side) subs));
}

-- at the beginning all are entered
further-none : (o : Option ℕ) → further 0 o ≡ o
further-none None = refl
further-none (Some p) = let z : p + 0 ≡ p = omega arith in ap (λ (m : ℕ). Some m) z

pub fits-all : (t : Tables) (subs : List Subchannel) → FitsFrom 0 t subs → Fits t subs
fits-all t subs f = record {
  named = λ k p h. f.named k p h ∙ further-none (first_index (is_named (id_at k)) subs);
  sides = λ side k p h. f.sides side k p h ∙ further-none (first_index (reaches k side) subs);
}

-- an entry that is written leaves a table as long as it was
entry-long : (table : List (Option ℕ)) (key : Option ℕ) (index : ℕ) → length (with_entry table key index) ≡ length table
entry-long table None index = refl
entry-long table (Some i) index = length-set table i (Some index)

side-long : (side : Side) (n : ℕ) (t : Tables) (sub : Subchannel) → length (of_side side (entered n sub t)) ≡ length (of_side side t)
side-long First n t sub = entry-long t.firsts (unit_index First sub) n
side-long Second n t sub = entry-long t.seconds (unit_index Second sub) n

pub size-entered : (n sets units : ℕ) (t : Tables) (sub : Subchannel) → HasSize t sets units → HasSize (entered n sub t) sets units
size-entered n sets units t sub s = record {
  named = entry-long t.named (name_index sub.setup.id) n ∙ s.named;
  sides = λ side. side-long side n t sub ∙ s.sides side;
}

-- the tables that are made at first
pub size-none : (sets units : ℕ) (t : Tables) → t.named ≡ replicate (sets * 0x100) None →
    ((side : Side) → of_side side t ≡ replicate units None) → HasSize t sets units
size-none sets units t named sides = record {
  named = ap length named ∙ length-replicate _ _;
  sides = λ side. ap length (sides side) ∙ length-replicate _ _;
}

pub both-sides : (t : Tables) (units : ℕ) → t.firsts ≡ replicate units None → t.seconds ≡ replicate units None →
    (side : Side) → of_side side t ≡ replicate units None
both-sides t units e f First = e
both-sides t units e f Second = f

-- a portion of the empty entries that are left is added
pub portion-added : (n left more : ℕ) (table new : List (Option ℕ)) → more ≤ left → new ≡ table ++ replicate more None →
    table ++ replicate left None ≡ replicate n None → new ++ replicate (left - more) None ≡ replicate n None
portion-added n left more table new within added all =
    let sum : more + (left - more) ≡ left = omega (arith, within) in
    ap (λ (xs : List (Option ℕ)). xs ++ replicate (left - more) None) added
    ∙ (append_assoc table (replicate more None) (replicate (left - more) None)
    ∙ (ap (λ (xs : List (Option ℕ)). table ++ xs) (replicate-append-replicate more (left - more) None ∙ ap (λ (k : ℕ). replicate k None) sum) ∙ all))
