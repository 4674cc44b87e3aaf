-- The status word whose table words show, and its flags.
use Rattle.std.proofs.Common.{◌≡◌, ℕ, ◌^◌, ◌<◌, ◌==◌, Bool, true, false, not, List, [], ◌∷◌, slice_index, map, refl, sym, ap, ◌∙◌, arith, subst, lit<}
use Rattle.std.specs.Prelude.{slice_index_or}
use Rattle.std.specs.Int.RustNames.{bit_and}
use Rattle.zbits.specs.Bits.{field_of}
use Rattle.zbits.specs.Layout.{AllShow, at, bit_number, word_of}
use Rattle.zbits.proofs.LayoutLemmas.{shows_word_of, word_of-lt}
use Rattle.scsw_irb.specs.declared.scsw.Scsw.{Scsw}
use Rattle.scsw_irb.specs.declared.scsw.DeferredCode.{DeferredCode}
use Rattle.scsw_irb.specs.Empty.{zero_scsw}
use Rattle.scsw_irb.specs.Ranges.{IsScswInRange}
use Rattle.scsw_irb.specs.ScswTable.{scsw_tables, word_0, word_2}
use Rattle.scsw_irb.proofs.Fits.{scsw-fit}
use Rattle.zbits.specs.Flags.{all_of, flag_of, flags_of, matched, picked, some_of}
use Rattle.zbits.proofs.Flags.{none, shows}
use Rattle.scsw_irb.specs.ScswWords.{AreScswWords, code_of_number, key-lt, scsw_of, scsw_of_words}
use Rattle.scsw_irb.specs.ScswChanges.{flags_from_8}
use Rattle.scsw_irb.specs.ScswPacking.{bit-flag, code-back}
use Rattle.scsw_irb.proofs.ScswChanging.{keyed, three-fit}

shown-flag : (word bit : ℕ) (b : Bool) → field_of word bit bit ≡ bit_number b → (field_of word bit bit == 1) ≡ b
shown-flag word bit b h = ap (λ (x : ℕ). x == 1) h ∙ bit-flag b

-- a status word by its flags from bit 8 on
abbrev scsw_listed : Bool → List Bool → (key : ℕ) → key < 16 → DeferredCode → ℕ → ℕ → ℕ → ℕ → Scsw
scsw_listed suspend flags key fits code address device subchannel count = record {
  key = key;
  suspend = suspend;
  deferred = code;
  format_one = slice_index_or flags 0 false;
  prefetch = slice_index_or flags 1 false;
  initial_status = slice_index_or flags 2 false;
  address_limit = slice_index_or flags 3 false;
  suppress_suspended = slice_index_or flags 4 false;
  path_not_operational = slice_index_or flags 7 false;
  functions = record { start = slice_index_or flags 9 false; halt = slice_index_or flags 10 false; clear = slice_index_or flags 11 false };
  activity = record {
    resume_pending = slice_index_or flags 12 false;
    start_pending = slice_index_or flags 13 false;
    halt_pending = slice_index_or flags 14 false;
    clear_pending = slice_index_or flags 15 false;
    subchannel_active = slice_index_or flags 16 false;
    device_active = slice_index_or flags 17 false;
    suspended = slice_index_or flags 18 false;
  };
  status = record {
    alert = slice_index_or flags 19 false;
    intermediate = slice_index_or flags 20 false;
    primary = slice_index_or flags 21 false;
    secondary = slice_index_or flags 22 false;
    pending = slice_index_or flags 23 false;
  };
  command_address = address;
  device_status = record { 0 = device };
  subchannel_status = record { 0 = subchannel };
  count = count;
  key_fits = fits;
}

first-flags : (a b c : ℕ) (s : Scsw) → AllShow (a ∷ b ∷ c ∷ []) (scsw_tables s) → flags_from_8 (scsw_of a b c) ≡ flags_from_8 s
first-flags a b c s h =
    let h8 = h.0.1.1.1.1 in
    let format_one : flag_of a 8 ≡ s.format_one = shown-flag a 8 s.format_one h8.0 in
    let prefetch : flag_of a 9 ≡ s.prefetch = shown-flag a 9 s.prefetch h8.1.0 in
    let initial : flag_of a 10 ≡ s.initial_status = shown-flag a 10 s.initial_status h8.1.1.0 in
    let limit : flag_of a 11 ≡ s.address_limit = shown-flag a 11 s.address_limit h8.1.1.1.0 in
    let suppress : flag_of a 12 ≡ s.suppress_suspended = shown-flag a 12 s.suppress_suspended h8.1.1.1.1.0 in
    let h15 = h8.1.1.1.1.1.1 in
    let n : flag_of a 15 ≡ s.path_not_operational = shown-flag a 15 s.path_not_operational h15.0 in
    let h17 = h15.1.1 in
    let start : flag_of a 17 ≡ s.functions.start = shown-flag a 17 s.functions.start h17.0 in
    let halt : flag_of a 18 ≡ s.functions.halt = shown-flag a 18 s.functions.halt h17.1.0 in
    let clear : flag_of a 19 ≡ s.functions.clear = shown-flag a 19 s.functions.clear h17.1.1.0 in
    let h20 = h17.1.1.1 in
    let f20 : flag_of a 20 ≡ s.activity.resume_pending = shown-flag a 20 s.activity.resume_pending h20.0 in
    let f21 : flag_of a 21 ≡ s.activity.start_pending = shown-flag a 21 s.activity.start_pending h20.1.0 in
    let f22 : flag_of a 22 ≡ s.activity.halt_pending = shown-flag a 22 s.activity.halt_pending h20.1.1.0 in
    let f23 : flag_of a 23 ≡ s.activity.clear_pending = shown-flag a 23 s.activity.clear_pending h20.1.1.1.0 in
    let h24 = h20.1.1.1.1 in
    let f24 : flag_of a 24 ≡ s.activity.subchannel_active = shown-flag a 24 s.activity.subchannel_active h24.0 in
    let f25 : flag_of a 25 ≡ s.activity.device_active = shown-flag a 25 s.activity.device_active h24.1.0 in
    let f26 : flag_of a 26 ≡ s.activity.suspended = shown-flag a 26 s.activity.suspended h24.1.1.0 in
    let h27 = h24.1.1.1 in
    let f27 : flag_of a 27 ≡ s.status.alert = shown-flag a 27 s.status.alert h27.0 in
    let f28 : flag_of a 28 ≡ s.status.intermediate = shown-flag a 28 s.status.intermediate h27.1.0 in
    let f29 : flag_of a 29 ≡ s.status.primary = shown-flag a 29 s.status.primary h27.1.1.0 in
    let f30 : flag_of a 30 ≡ s.status.secondary = shown-flag a 30 s.status.secondary h27.1.1.1.0 in
    let f31 : flag_of a 31 ≡ s.status.pending = shown-flag a 31 s.status.pending h27.1.1.1.1.0 in
    cc

-- words that show the table of a status word are read as that status word
pub read-is : (a b c : ℕ) (s : Scsw) → AllShow (a ∷ b ∷ c ∷ []) (scsw_tables s) → b < 2 ^ 32 → scsw_of a b c ≡ s
read-is a b c s h fits =
    let key : field_of a 0 3 ≡ s.key = h.0.0 in
    let suspend : flag_of a 4 ≡ s.suspend = shown-flag a 4 s.suspend h.0.1.0 in
    let code : code_of_number (field_of a 6 7) ≡ s.deferred = ap code_of_number h.0.1.1.1.0 ∙ code-back s.deferred in
    let address : b ≡ s.command_address = let e : field_of b 0 31 ≡ s.command_address = h.1.0.0 in omega (arith, e, fits) in
    let flags = flags_from_8 (scsw_of a b c) in
    keyed (λ k f. scsw_listed (flag_of a 4) flags k f (code_of_number (field_of a 6 7)) b (field_of c 0 7) (field_of c 8 15) (field_of c 16 31))
    (field_of a 0 3) s.key (key-lt a) s.key_fits key
    ∙ ap (λ (x : Bool). scsw_listed x flags s.key s.key_fits (code_of_number (field_of a 6 7)) b (field_of c 0 7) (field_of c 8 15) (field_of c 16 31)) suspend
    ∙ ap (λ (x : List Bool). scsw_listed s.suspend x s.key s.key_fits (code_of_number (field_of a 6 7)) b (field_of c 0 7) (field_of c 8 15) (field_of c 16 31)) (first-flags a b c s h)
    ∙ ap (λ (x : DeferredCode). scsw_listed s.suspend (flags_from_8 s) s.key s.key_fits x b (field_of c 0 7) (field_of c 8 15) (field_of c 16 31)) code
    ∙ ap (λ (x : ℕ). scsw_listed s.suspend (flags_from_8 s) s.key s.key_fits s.deferred x (field_of c 0 7) (field_of c 8 15) (field_of c 16 31)) address
    ∙ ap (λ (x : ℕ). scsw_listed s.suspend (flags_from_8 s) s.key s.key_fits s.deferred s.command_address x (field_of c 8 15) (field_of c 16 31)) h.1.1.0.0
    ∙ ap (λ (x : ℕ). scsw_listed s.suspend (flags_from_8 s) s.key s.key_fits s.deferred s.command_address s.device_status.0 x (field_of c 16 31)) h.1.1.0.1.0
    ∙ ap (λ (x : ℕ). scsw_listed s.suspend (flags_from_8 s) s.key s.key_fits s.deferred s.command_address s.device_status.0 s.subchannel_status.0 x) h.1.1.0.1.1.0

-- so is the image of a status word
pub image-is : (s : Scsw) → IsScswInRange s → scsw_of (word_of (word_0 s)) s.command_address (word_of (word_2 s)) ≡ s
image-is s range =
    let fit = scsw-fit s range in
    let address : field_of s.command_address 0 31 ≡ s.command_address = omega (arith, range.address) in
    read-is (word_of (word_0 s)) s.command_address (word_of (word_2 s)) s
    (shows_word_of (word_0 s) refl fit.0, ((address, tt), (shows_word_of (word_2 s) refl fit.1.1.0, tt))) range.address

-- words all of which are zero
pub zeros-are : scsw_of 0 0 0 ≡ zero_scsw
zeros-are = keyed (λ k f. record zero_scsw { key = k; key_fits = f }) 0 0 (key-lt 0) (lit< tt) refl

-- the flags of the first word
flags-are : (a b c : ℕ) → field_of a 13 14 ≡ 0 → field_of a 16 16 ≡ 0 → flags_of a 8 24 ≡ flags_from_8 (scsw_of a b c)
flags-are a b c x y =
    let f13 : flag_of a 13 ≡ false = let e : field_of a 13 13 ≡ 0 = omega (arith, x) in ap (λ (n : ℕ). n == 1) e in
    let f14 : flag_of a 14 ≡ false = let e : field_of a 14 14 ≡ 0 = omega (arith, x) in ap (λ (n : ℕ). n == 1) e in
    let f16 : flag_of a 16 ≡ false = ap (λ (n : ℕ). n == 1) y in
    cc

not-not : (b : Bool) → not (not b) ≡ b
not-not true = refl
not-not false = refl

pub any-is : (words : List ℕ) (mask : ℕ) → AreScswWords words → mask < 2 ^ 24
    → not (bit_and (slice_index words 0) mask == 0) ≡ some_of (picked mask 8 (flags_from_8 (scsw_of_words words)))
any-is words mask w fits =
    let a = slice_index words 0 in
    ap not (none a mask 8 24 refl fits)
    ∙ not-not (some_of (picked mask 8 (flags_of a 8 24)))
    ∙ ap (λ (flags : List Bool). some_of (picked mask 8 flags)) (flags-are a (slice_index words 1) (slice_index words 2) w.reserved.1 w.reserved.2)

pub shows-is : (words : List ℕ) (mask pattern : ℕ) → AreScswWords words → mask < 2 ^ 24 → bit_and mask pattern ≡ pattern
    → (bit_and (slice_index words 0) mask == pattern) ≡ all_of (matched mask pattern 8 (flags_from_8 (scsw_of_words words)))
shows-is words mask pattern w fits within =
    let a = slice_index words 0 in
    shows a mask pattern 8 24 refl fits within
    ∙ ap (λ (flags : List Bool). all_of (matched mask pattern 8 flags)) (flags-are a (slice_index words 1) (slice_index words 2) w.reserved.1 w.reserved.2)

pub suspend-is : (a : ℕ) → not (bit_and a 134217728 == 0) ≡ flag_of a 4
suspend-is a = ap not (none a 134217728 4 28 refl (lit< tt)) ∙ not-not (flag_of a 4)

-- the words of a status word
three : (words : List ℕ) (a b c : ℕ) → words ≡ a ∷ b ∷ c ∷ [] → slice_index words 0 ∷ slice_index words 1 ∷ slice_index words 2 ∷ [] ≡ a ∷ b ∷ c ∷ []
three words a b c h = ap (λ (ws : List ℕ). slice_index ws 0 ∷ slice_index ws 1 ∷ slice_index ws 2 ∷ []) h

image-are : (s : Scsw) → IsScswInRange s → AreScswWords (map word_of (scsw_tables s))
image-are s range =
    let fit = scsw-fit s range in
    let shown = shows_word_of (word_0 s) refl fit.0 in
    record {
      three = refl;
      fit = three-fit (word_of (word_0 s)) (word_of (at 0 31 s.command_address ∷ [])) (word_of (word_2 s))
          (word_of-lt 0 (word_0 s) refl fit.0) (word_of-lt 0 (at 0 31 s.command_address ∷ []) refl fit.1.0) (word_of-lt 0 (word_2 s) refl fit.1.1.0);
      reserved = (shown.1.1.0, shown.1.1.1.1.1.1.1.1.1.0, shown.1.1.1.1.1.1.1.1.1.1.1.0);
    }

pub packed-are : (words : List ℕ) (s : Scsw) → IsScswInRange s → words ≡ map word_of (scsw_tables s)
    → AreScswWords (slice_index words 0 ∷ slice_index words 1 ∷ slice_index words 2 ∷ [])
packed-are words s range h =
    subst AreScswWords (sym (three words (word_of (word_0 s)) (word_of (at 0 31 s.command_address ∷ [])) (word_of (word_2 s)) h)) (image-are s range)

pub packed-is : (words : List ℕ) (s : Scsw) → IsScswInRange s → words ≡ map word_of (scsw_tables s)
    → scsw_of_words (slice_index words 0 ∷ slice_index words 1 ∷ slice_index words 2 ∷ []) ≡ s
packed-is words s range h =
    let address : word_of (at 0 31 s.command_address ∷ []) ≡ s.command_address = omega arith in
    ap scsw_of_words (three words (word_of (word_0 s)) (word_of (at 0 31 s.command_address ∷ [])) (word_of (word_2 s)) h)
    ∙ ap (λ (x : ℕ). scsw_of (word_of (word_0 s)) x (word_of (word_2 s))) address
    ∙ image-is s range
