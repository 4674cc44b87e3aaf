-- The three words and the subchannel-status word (SA22-7832, chapter 16): each is made of the other.
use Rattle.std.proofs.Common.{◌≡◌, ℕ, zero, suc, ◌/◌, ◌^◌, ◌<◌, ◌==◌, Bool, true, false, List, [], ◌∷◌, slice_index, map, refl, sym, arith, subst, lit<}
use Rattle.std.proofs.lemmas.Nat.{mod_below}
use Rattle.zbits.specs.Bits.{bit_of, field_of, weight}
use Rattle.zbits.specs.Layout.{AllShow, bit_number, word_of}
use Rattle.zbits.proofs.LayoutLemmas.{map-word_of-shown, three_items}
use Rattle.scsw_irb.specs.declared.scsw.DeferredCode.{DeferredCode}
use Rattle.scsw_irb.specs.declared.scsw.DeferredCode.TheVariants.{Zero, One, Two, Three}
use Rattle.scsw_irb.specs.ScswTable.{code_number, scsw_tables}
use Rattle.zbits.specs.Flags.{flag_of}
use Rattle.scsw_irb.specs.ScswWords.{AreScswWords, code_of_number, scsw_of, scsw_of_words}

-- one bit, as a flag and as a number
one-bit : (n : ℕ) → n < 2 → n ≡ bit_number (n == 1)
one-bit zero h = refl
one-bit (suc zero) h = refl
one-bit (suc (suc n)) h = absurd (omega (arith, h))

flag-shown : (word bit : ℕ) → bit_of word bit ≡ bit_number (flag_of word bit)
flag-shown word bit = one-bit (bit_of word bit) (mod_below (word / weight bit) 2 (lit< tt))

pub bit-flag : (b : Bool) → (bit_number b == 1) ≡ b
bit-flag true = refl
bit-flag false = refl

-- the deferred code and its number
two-bits : (n : ℕ) → n < 4 → n ≡ code_number (code_of_number n)
two-bits zero h = refl
two-bits (suc zero) h = refl
two-bits (suc (suc zero)) h = refl
two-bits (suc (suc (suc zero))) h = refl
two-bits (suc (suc (suc (suc n)))) h = absurd (omega (arith, h))

pub code-back : (code : DeferredCode) → code_of_number (code_number code) ≡ code
code-back Zero = refl
code-back One = refl
code-back Two = refl
code-back Three = refl

code-shown : (word : ℕ) → field_of word 6 7 ≡ code_number (code_of_number (field_of word 6 7))
code-shown word = two-bits (field_of word 6 7) (mod_below (word / weight 7) 4 (lit< tt))

-- words show the table of the status word that they are
shown : (a b c : ℕ) → field_of a 5 5 ≡ 0 → field_of a 13 14 ≡ 0 → field_of a 16 16 ≡ 0 → b < 2 ^ 32 → AllShow (a ∷ b ∷ c ∷ []) (scsw_tables (scsw_of a b c))
shown a b c x y z fits =
    let f : (bit : ℕ) → bit_of a bit ≡ bit_number (flag_of a bit) = λ bit. flag-shown a bit in
    let address : field_of b 0 31 ≡ b = omega (arith, fits) in (
      (
        refl,
        (
          f 4,
          (
            x,
            (
              code-shown a,
              (
                f 8,
                (
                  f 9,
                  (
                    f 10,
                    (
                      f 11,
                      (
                        f 12,
                        (
                          y,
                          (
                            f 15,
                            (
                              z,
                              (f 17, (f 18, (f 19, (f 20, (f 21, (f 22, (f 23, (f 24, (f 25, (f 26, (f 27, (f 28, (f 29, (f 30, (f 31, tt))))))))))))))),
                            ),
                          ),
                        ),
                      ),
                    ),
                  ),
                ),
              ),
            ),
          ),
        ),
      ),
      ((address, tt), ((refl, (refl, (refl, tt))), tt)),
    )

-- so they are its image
pub words-are : (words : List ℕ) → AreScswWords words → words ≡ map word_of (scsw_tables (scsw_of_words words))
words-are words w =
    let a = slice_index words 0 in
    let b = slice_index words 1 in
    let c = slice_index words 2 in
    map-word_of-shown words (scsw_tables (scsw_of a b c)) w.fit refl
    (subst (λ (ws : List ℕ). AllShow ws (scsw_tables (scsw_of a b c))) (sym (three_items words w.three))
    (shown a b c w.reserved.0 w.reserved.1 w.reserved.2 (w.fit 1)))
