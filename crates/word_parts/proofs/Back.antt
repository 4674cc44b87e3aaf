-- What is told by a whole table gives the word back.
use Rattle.std.proofs.Common.{◌≡◌, refl, sym, ap, ◌∙◌, subst, arith, ℕ, zero, suc, ◌+◌, ◌-◌, ◌*◌, ◌/◌, ◌^◌, ◌<◌, ◌==◌, ◌&&◌, Bool, true, false, not, List, [], ◌∷◌, if◌then◌else◌}
use Rattle.std.specs.Prelude.{nat_le, nat_lt}
use Rattle.std.specs.List.{list_all}
use Rattle.std.proofs.lemmas.Bool.{and_parts, eqb-true}
use Rattle.std.proofs.lemmas.Nat.{mod_below, pow_pos}
use Rattle.zbits.specs.Bits.{weight}
use Rattle.zbits.specs.Layout.{ShowsFields, covers_from, word_of}
use Rattle.zbits.proofs.LayoutLemmas.{word_of-shown}
use Rattle.word_parts.specs.Parts.{Named, is_shown, number_of, shows}
use Rattle.word_parts.specs.Whole.{GivesBack, Told, fields_of, is_named, is_one_bit, is_whole, last_of, number_told, told, told_of, word_back}
use Rattle.word_parts.specs.declared.part.Shown.{Shown}
use Rattle.word_parts.specs.declared.part.Shown.TheVariants.{Flag, Format, NotZero, Always, Paths, Source, Recovery}

one_bit : (first last n : ℕ) → (first == last) ≡ true → n < 2 ^ (last + 1 - first) → n < 2
one_bit first last n same fit =
    let e : first ≡ last = eqb-true first last same in
    let k : last + 1 - first ≡ 1 = omega arith in
    subst (λ (k : ℕ). n < 2 ^ k) k fit

is_one : (n : ℕ) → n < 2 → not (n == 0) ≡ true → 1 ≡ n
is_one zero lt h = absurd (cc h)
is_one (suc zero) lt h = refl
is_one (suc (suc n)) lt h = absurd (omega (arith, lt))

is_bit : (n : ℕ) → n < 2 → (if n == 0 then 0 else 1) ≡ n
is_bit zero lt = refl
is_bit (suc zero) lt = refl
is_bit (suc (suc n)) lt = absurd (omega (arith, lt))

not_false : (b : Bool) → not b ≡ false → b ≡ true
not_false true h = refl
not_false false h = absurd (cc h)

is_zero : (n : ℕ) → not (n == 0) ≡ false → n ≡ 0
is_zero n h = eqb-true n 0 (not_false (n == 0) h)

-- what is shown is told
told_right : (s : Shown) (first last n : ℕ) → is_one_bit s first last ≡ true → n < 2 ^ (last + 1 - first) → shows s n ≡ true → number_told s n ≡ n
told_right Flag first last n bit fit h = is_one n (one_bit first last n bit fit) h
told_right Format first last n bit fit h = is_bit n (one_bit first last n bit fit)
told_right (NotZero digits) first last n bit fit h = refl
told_right (Always digits) first last n bit fit h = refl
told_right Paths first last n bit fit h = refl
told_right Source first last n bit fit h = refl
told_right Recovery first last n bit fit h = refl

-- what is not shown is zero
left_out : (s : Shown) (n : ℕ) → shows s n ≡ false → n ≡ 0
left_out Flag n h = is_zero n h
left_out (NotZero digits) n h = is_zero n h
left_out Format n h = absurd (cc h)
left_out (Always digits) n h = absurd (cc h)
left_out Paths n h = absurd (cc h)
left_out Source n h = absurd (cc h)
left_out Recovery n h = absurd (cc h)

one_part : (table : List Named) (p : Named) (word : ℕ) (rest : List Told) (b : Bool) → is_named table p ≡ true → is_shown p word ≡ b
    → word_back table (if b then told_of p word ∷ rest else rest) ≡ number_of p word * weight p.last + word_back table rest
one_part table p word rest true named h =
    let parts = and_parts (last_of table p.name == p.last) (is_one_bit p.shown p.first p.last) named in
    let place : last_of table p.name ≡ p.last = eqb-true (last_of table p.name) p.last parts.0 in
    let number : number_told p.shown (number_of p word) ≡ number_of p word =
    told_right p.shown p.first p.last (number_of p word) parts.1 (mod_below (word / weight p.last) (2 ^ (p.last + 1 - p.first)) (pow_pos (p.last + 1 - p.first))) h in
    ap (λ (n : ℕ). n * weight (last_of table p.name) + word_back table rest) number
    ∙ ap (λ (k : ℕ). number_of p word * weight k + word_back table rest) place
one_part table p word rest false named h =
    let none : number_of p word ≡ 0 = left_out p.shown (number_of p word) h in
    let empty : word_back table rest ≡ 0 * weight p.last + word_back table rest = omega arith in
    empty ∙ sym (ap (λ (n : ℕ). n * weight p.last + word_back table rest) none)

back_from : (table ps : List Named) (word : ℕ) → list_all (is_named table) ps ≡ true → word_back table (told ps word) ≡ word_of (fields_of ps word)
back_from table [] word h = refl
back_from table (p ∷ ps) word h =
    let parts = and_parts (is_named table p) (list_all (is_named table) ps) h in
    one_part table p word (told ps word) (is_shown p word) parts.0 refl
    ∙ ap (λ (rest : ℕ). number_of p word * weight p.last + rest) (back_from table ps word parts.1)

shows_itself : (ps : List Named) (word : ℕ) → ShowsFields word (fields_of ps word)
shows_itself [] word = tt
shows_itself (p ∷ ps) word = (refl, shows_itself ps word)

same_cover : (bit : ℕ) (ps : List Named) (word : ℕ) → covers_from bit (fields_of ps word) ≡ covers_from bit (fields_of ps 0)
same_cover bit [] word = refl
same_cover bit (p ∷ ps) word =
    ap (λ (b : Bool). (p.first == bit) && (nat_le bit p.last && (nat_lt p.last 32 && b))) (same_cover (p.last + 1) ps word)

pub gives_back : (table : List Named) → is_whole table ≡ true → GivesBack table
gives_back table whole word small =
    let parts = and_parts (covers_from 0 (fields_of table 0)) (list_all (is_named table) table) whole in
    back_from table table word parts.1 ∙ sym (word_of-shown word (fields_of table word) small (same_cover 0 table word ∙ parts.0) (shows_itself table word))
