-- Masks act on the words as on the status word.
use Rattle.std.proofs.Common.{◌≡◌, ℕ, zero, suc, ◌^◌, ◌<◌, ◌==◌, ◌⊎◌, inl, inr, Bool, true, false, ◌||◌, List, [], ◌∷◌, length, slice_index, refl, sym, ap, ◌∙◌, arith, subst, lit<, eqb-true}
use Rattle.std.specs.Prelude.{if◌then◌else◌, slice_set}
use mathlib.Core.Path.{fun_ext}
use Rattle.std.proofs.Math.Bridge.{le_prop}
use Rattle.std.proofs.lemmas.Bool.{and_parts, or_cases}
use Rattle.std.proofs.lemmas.Nat.{and_le_l, or_lt}
use Rattle.std.specs.Int.{w32, bit_not}
use Rattle.std.specs.Int.RustNames.{bit_and, bit_or}
use Rattle.zbits.specs.Bits.{field_of}
use Rattle.scsw_irb.specs.declared.scsw.Scsw.{Scsw}
use Rattle.scsw_irb.specs.declared.scsw.DeferredCode.{DeferredCode}
use Rattle.scsw_irb.specs.declared.scsw.DeferredCode.TheVariants.{Zero}
use Rattle.zbits.specs.Flags.{flag_of}
use Rattle.zbits.proofs.Flags.{field-kept, field-none, field-set, field-stays, field-taken, field-zero, flag-changed, flag-chosen}
use Rattle.scsw_irb.specs.ScswWords.{AreScswWords, code_of_number, key-lt, scsw_of, scsw_of_words}
use Rattle.scsw_irb.specs.ScswChanges.{changed_code, changed_scsw, chosen_key, chosen_scsw, flags_by, is_change, is_keep}

-- a status word by its flags, each at its bit, and its other parts
abbrev scsw_by : (ℕ → Bool) → (key : ℕ) → key < 16 → DeferredCode → ℕ → ℕ → Scsw
scsw_by flag key fits code address statuses = record {
  key = key;
  suspend = flag 4;
  deferred = code;
  format_one = flag 8;
  prefetch = flag 9;
  initial_status = flag 10;
  address_limit = flag 11;
  suppress_suspended = flag 12;
  path_not_operational = flag 15;
  functions = record { start = flag 17; halt = flag 18; clear = flag 19 };
  activity = record {
    resume_pending = flag 20;
    start_pending = flag 21;
    halt_pending = flag 22;
    clear_pending = flag 23;
    subchannel_active = flag 24;
    device_active = flag 25;
    suspended = flag 26;
  };
  status = record { alert = flag 27; intermediate = flag 28; primary = flag 29; secondary = flag 30; pending = flag 31 };
  command_address = address;
  device_status = record { 0 = field_of statuses 0 7 };
  subchannel_status = record { 0 = field_of statuses 8 15 };
  count = field_of statuses 16 31;
  key_fits = fits;
}

pub keyed : (F : (k : ℕ) → k < 16 → Scsw) (a b : ℕ) (p : a < 16) (q : b < 16) → a ≡ b → F a p ≡ F b q
keyed F a b p q e = subst (λ (x : ℕ). (h : x < 16) → F a p ≡ F x h) e (λ h. ap (F a) (le_prop p h)) q

-- what is_change says
record Changes (clear set : ℕ) : Type 0 where
  key : field_of clear 0 3 ≡ 0
  code : (field_of clear 6 7 ≡ 0) ⊎ (field_of clear 6 7 ≡ 3)
  set_key : field_of set 0 3 ≡ 0
  set_5 : field_of set 5 5 ≡ 0
  set_code : field_of set 6 7 ≡ 0
  set_13 : field_of set 13 14 ≡ 0
  set_16 : field_of set 16 16 ≡ 0

code-parts : (n : ℕ) → (n == 0 || n == 3) ≡ true → (n ≡ 0) ⊎ (n ≡ 3)
code-parts n h = elim (or_cases (n == 0) (n == 3) h) [ inl a ↦ inl (eqb-true n 0 a) | inr b ↦ inr (eqb-true n 3 b) ]

changes : (clear set : ℕ) → is_change clear set ≡ true → Changes clear set
changes clear set h =
    let a = and_parts (field_of clear 0 3 == 0) _ h in
    let b = and_parts (field_of clear 6 7 == 0 || field_of clear 6 7 == 3) _ a.1 in
    let c = and_parts (field_of set 0 3 == 0) _ b.1 in
    let d = and_parts (field_of set 5 5 == 0) _ c.1 in
    let e = and_parts (field_of set 6 7 == 0) _ d.1 in
    let f = and_parts (field_of set 13 14 == 0) (field_of set 16 16 == 0) e.1 in
    record {
      key = eqb-true (field_of clear 0 3) 0 a.0;
      code = code-parts (field_of clear 6 7) b.0;
      set_key = eqb-true (field_of set 0 3) 0 c.0;
      set_5 = eqb-true (field_of set 5 5) 0 d.0;
      set_code = eqb-true (field_of set 6 7) 0 e.0;
      set_13 = eqb-true (field_of set 13 14) 0 f.0;
      set_16 = eqb-true (field_of set 16 16) 0 f.1;
    }

-- the word that is left
abbrev pub left : ℕ → ℕ → ℕ → ℕ
left word clear set = bit_or (bit_and word (bit_not w32 clear)) set

left-code : (word clear set : ℕ) → clear < 2 ^ 32 → Changes clear set → code_of_number (field_of (left word clear set) 6 7) ≡ changed_code clear (code_of_number (field_of word 6 7))
left-code word clear set fits c =
    elim c.code [
      | inl none ↦
          let keep : field_of (bit_not w32 clear) 6 7 ≡ 3 = omega (arith, none, fits) in
          ap code_of_number (field-stays word (bit_not w32 clear) set 6 7 keep c.set_code)
          ∙ ap (λ (n : ℕ). if n == 3 then Zero else code_of_number (field_of word 6 7)) (sym none)
      | inr all ↦
          let keep : field_of (bit_not w32 clear) 6 7 ≡ 0 = omega (arith, all, fits) in
          ap code_of_number (field-set word (bit_not w32 clear) set 6 7 keep ∙ c.set_code)
          ∙ ap (λ (n : ℕ). if n == 3 then Zero else code_of_number (field_of word 6 7)) (sym all)
    ]

pub change-is : (word clear set address statuses : ℕ) → clear < 2 ^ 32 → is_change clear set ≡ true
    → scsw_of (left word clear set) address statuses ≡ changed_scsw clear set (scsw_of word address statuses)
change-is word clear set address statuses fits h =
    let c = changes clear set h in
    let w = left word clear set in
    let keep : field_of (bit_not w32 clear) 0 3 ≡ 15 = omega (arith, c.key, fits) in
    keyed (λ k f. scsw_by (flag_of w) k f (code_of_number (field_of w 6 7)) address statuses) (field_of w 0 3) (field_of word 0 3) (key-lt w) (key-lt word)
    (field-stays word (bit_not w32 clear) set 0 3 keep c.set_key)
    ∙ ap (λ (d : DeferredCode). scsw_by (flag_of w) (field_of word 0 3) (key-lt word) d address statuses) (left-code word clear set fits c)
    ∙ ap (λ (g : ℕ → Bool). scsw_by g (field_of word 0 3) (key-lt word) (changed_code clear (code_of_number (field_of word 6 7))) address statuses)
    (fun_ext (λ bit. flag-changed word clear set bit fits))

pub change-reserved : (word clear set : ℕ) → is_change clear set ≡ true → field_of word 5 5 ≡ 0 → field_of word 13 14 ≡ 0 → field_of word 16 16 ≡ 0
    → (field_of (left word clear set) 5 5 ≡ 0) × (field_of (left word clear set) 13 14 ≡ 0) × (field_of (left word clear set) 16 16 ≡ 0)
change-reserved word clear set h x y z =
    let c = changes clear set h in
    let keep = bit_not w32 clear in
    (field-zero word keep set 5 5 x c.set_5, field-zero word keep set 13 14 y c.set_13, field-zero word keep set 16 16 z c.set_16)

pub left-lt : (word clear set : ℕ) → word < 2 ^ 32 → set < 2 ^ 32 → left word clear set < 2 ^ 32
left-lt word clear set a b = or_lt 32 (bit_and word (bit_not w32 clear)) set (omega (arith, a, and_le_l word (bit_not w32 clear))) b

-- the first of three words is replaced
pub first-is : (words : List ℕ) (v : ℕ) → length words ≡ 3 → scsw_of_words (slice_set words 0 v) ≡ scsw_of v (slice_index words 1) (slice_index words 2)
first-is [] v h = absurd (omega (arith, h))
first-is (a ∷ ws) v h = refl

first-fits : (a v : ℕ) (ws : List ℕ) → ((index : ℕ) → slice_index (a ∷ ws) index < 2 ^ 32) → v < 2 ^ 32 → (index : ℕ) → slice_index (v ∷ ws) index < 2 ^ 32
first-fits a v ws fit small zero = small
first-fits a v ws fit small (suc k) = fit (suc k)

pub first-are : (words : List ℕ) (v : ℕ) → AreScswWords words → v < 2 ^ 32 → (field_of v 5 5 ≡ 0) × (field_of v 13 14 ≡ 0) × (field_of v 16 16 ≡ 0)
    → AreScswWords (slice_set words 0 v)
first-are [] v w small r = absurd (omega (arith, w.three))
first-are (a ∷ ws) v w small r = record { three = w.three; fit = first-fits a v ws w.fit small; reserved = r }

-- a word of which a mask is kept, and the rest is given
abbrev pub chosen : ℕ → ℕ → ℕ → ℕ
chosen keep old given = bit_or (bit_and old keep) (bit_and given (bit_not w32 keep))

key-parts : (n : ℕ) → (n == 0 || n == 15) ≡ true → (n ≡ 0) ⊎ (n ≡ 15)
key-parts n h = elim (or_cases (n == 0) (n == 15) h) [ inl a ↦ inl (eqb-true n 0 a) | inr b ↦ inr (eqb-true n 15 b) ]

chosen-code : (keep old given : ℕ) → keep < 2 ^ 32 → (field_of keep 6 7 ≡ 0) ⊎ (field_of keep 6 7 ≡ 3)
    → code_of_number (field_of (chosen keep old given) 6 7) ≡ (if field_of keep 6 7 == 3 then code_of_number (field_of old 6 7) else code_of_number (field_of given 6 7))
chosen-code keep old given fits k =
    let f = λ (n : ℕ). if n == 3 then code_of_number (field_of old 6 7) else code_of_number (field_of given 6 7) in
    elim k [
      | inl none ↦
          let take : field_of (bit_not w32 keep) 6 7 ≡ 3 = omega (arith, none, fits) in
          ap code_of_number (field-taken old given keep (bit_not w32 keep) 6 7 none take) ∙ ap f (sym none)
      | inr all ↦
          let take : field_of (bit_not w32 keep) 6 7 ≡ 0 = omega (arith, all, fits) in
          ap code_of_number (field-kept old given keep (bit_not w32 keep) 6 7 all take) ∙ ap f (sym all)
    ]

-- a status word by its flags, with the key of one of two others
abbrev keyed_by : (ℕ → Bool) → DeferredCode → Scsw → Scsw → Bool → Scsw
keyed_by flag code old given kept = chosen_key kept old (record (flags_by (λ bit x y. flag bit) old given) { deferred = code })

chosen-key : (keep old given b c y z : ℕ) (flag : ℕ → Bool) (code : DeferredCode) → keep < 2 ^ 32 → (field_of keep 0 3 ≡ 0) ⊎ (field_of keep 0 3 ≡ 15)
    → scsw_by flag (field_of (chosen keep old given) 0 3) (key-lt (chosen keep old given)) code y z
    ≡ keyed_by flag code (scsw_of old b c) (scsw_of given y z) (field_of keep 0 3 == 15)
chosen-key keep old given b c y z flag code fits k =
    let w = chosen keep old given in
    let by = keyed_by flag code (scsw_of old b c) (scsw_of given y z) in
    elim k [
      | inl none ↦
          let take : field_of (bit_not w32 keep) 0 3 ≡ 15 = omega (arith, none, fits) in
          keyed (λ k f. scsw_by flag k f code y z) (field_of w 0 3) (field_of given 0 3) (key-lt w) (key-lt given) (field-taken old given keep (bit_not w32 keep) 0 3 none take)
          ∙ ap by (let e : false ≡ (field_of keep 0 3 == 15) = sym (ap (λ (n : ℕ). n == 15) none) in e)
      | inr all ↦
          let take : field_of (bit_not w32 keep) 0 3 ≡ 0 = omega (arith, all, fits) in
          keyed (λ k f. scsw_by flag k f code y z) (field_of w 0 3) (field_of old 0 3) (key-lt w) (key-lt old) (field-kept old given keep (bit_not w32 keep) 0 3 all take)
          ∙ ap by (let e : true ≡ (field_of keep 0 3 == 15) = sym (ap (λ (n : ℕ). n == 15) all) in e)
    ]

pub chosen-is : (keep old given b c y z : ℕ) → keep < 2 ^ 32 → is_keep keep ≡ true
    → scsw_of (chosen keep old given) y z ≡ chosen_scsw keep (scsw_of old b c) (scsw_of given y z)
chosen-is keep old given b c y z fits h =
    let parts = and_parts (field_of keep 0 3 == 0 || field_of keep 0 3 == 15) (field_of keep 6 7 == 0 || field_of keep 6 7 == 3) h in
    let w = chosen keep old given in
    let flag = λ (bit : ℕ). if flag_of keep bit then flag_of old bit else flag_of given bit in
    let code : DeferredCode = if field_of keep 6 7 == 3 then code_of_number (field_of old 6 7) else code_of_number (field_of given 6 7) in
    ap (λ (g : ℕ → Bool). scsw_by g (field_of w 0 3) (key-lt w) (code_of_number (field_of w 6 7)) y z) (fun_ext (λ bit. flag-chosen old given keep bit fits))
    ∙ ap (λ (d : DeferredCode). scsw_by flag (field_of w 0 3) (key-lt w) d y z) (chosen-code keep old given fits (code-parts (field_of keep 6 7) parts.1))
    ∙ chosen-key keep old given b c y z flag code fits (key-parts (field_of keep 0 3) parts.0)

pub three-fit : (a b c : ℕ) → a < 2 ^ 32 → b < 2 ^ 32 → c < 2 ^ 32 → (index : ℕ) → slice_index (a ∷ b ∷ c ∷ []) index < 2 ^ 32
three-fit a b c x y z zero = x
three-fit a b c x y z (suc zero) = y
three-fit a b c x y z (suc (suc zero)) = z
three-fit a b c x y z (suc (suc (suc k))) = lit< tt

pub chosen-lt : (keep old given : ℕ) → old < 2 ^ 32 → given < 2 ^ 32 → chosen keep old given < 2 ^ 32
chosen-lt keep old given a b =
    or_lt 32 (bit_and old keep) (bit_and given (bit_not w32 keep)) (omega (arith, a, and_le_l old keep)) (omega (arith, b, and_le_l given (bit_not w32 keep)))

pub chosen-are : (keep old given y z : ℕ) → old < 2 ^ 32 → given < 2 ^ 32 → y < 2 ^ 32 → z < 2 ^ 32
    → field_of old 5 5 ≡ 0 → field_of old 13 14 ≡ 0 → field_of old 16 16 ≡ 0 → field_of given 5 5 ≡ 0 → field_of given 13 14 ≡ 0 → field_of given 16 16 ≡ 0
    → AreScswWords (chosen keep old given ∷ y ∷ z ∷ [])
chosen-are keep old given y z a b c d p q r u v w =
    let take = bit_not w32 keep in
    record {
      three = refl;
      fit = three-fit (chosen keep old given) y z (chosen-lt keep old given a b) c d;
      reserved = (field-none old given keep take 5 5 p u, field-none old given keep take 13 14 q v, field-none old given keep take 16 16 r w);
    }
