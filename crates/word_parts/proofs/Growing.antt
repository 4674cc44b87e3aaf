-- Lists of texts that grow at their end.
use Rattle.std.proofs.Common.{◌≡◌, refl, ℕ, ◌+◌, ◌<◌, Bool, true, false, List, [], ◌∷◌, ◌++◌, take, drop, length, get_or, ◌||◌, sym, ap, ◌∙◌, subst, append-nil, append_assoc}
use Rattle.std.specs.Prelude.{codes, map, if◌then◌else◌}
use Rattle.std.specs.List.{list_any}
use Rattle.std.proofs.lemmas.List.{take_more, take-append-drop, map-append}
use Rattle.std.proofs.lemmas.Grind.{flat_map-append}
use Rattle.streams.specs.Sinks.{Seen, TakesText, FailsIn, Puts}
use Rattle.streams.proofs.Sinking.{takes_then, fails_then}
use Rattle.word_parts.specs.Parts.{Named, after, begun_after, is_shown, listed, names_text, part_of, part_texts, texts_of}
use Rattle.word_parts.specs.declared.part.Part.{Part}

-- a test of the images of a list
pub any_map : (f : Named → Bool) (xs : List Part) → list_any f (map part_of xs) ≡ list_any (λ x. f (part_of x)) xs
any_map f [] = refl
any_map f (x ∷ xs) = ap (λ (b : Bool). f (part_of x) || b) (any_map f xs)

begun-true : (xs : List (List ℕ)) → begun_after true xs ≡ true
begun-true [] = refl
begun-true (x ∷ xs) = refl

-- a list of texts is one list and then another
listed-append : (begun : Bool) (separator : List ℕ) (xs ys : List (List ℕ)) → listed begun separator (xs ++ ys) ≡ listed begun separator xs ++ listed (begun_after begun xs) separator ys
listed-append begun separator [] ys = refl
listed-append begun separator (x ∷ xs) ys =
    ap (λ (t : List ℕ). after begun separator x ++ t)
    (listed-append true separator xs ys ∙ ap (λ (b : Bool). listed true separator xs ++ listed b separator ys) (begun-true xs))
    ∙ sym (append_assoc (after begun separator x) (listed true separator xs) (listed true separator ys))

begun-append : (begun : Bool) (xs ys : List (List ℕ)) → begun_after begun (xs ++ ys) ≡ begun_after (begun_after begun xs) ys
begun-append begun [] ys = refl
begun-append begun (x ∷ xs) [] = refl
begun-append begun (x ∷ xs) (y ∷ ys) = refl

one-more : (parts : List Part) (i word : ℕ) (d x : Part) → i < length parts → x ≡ get_or parts i d
    → texts_of (map part_of (take (i + 1) parts)) word ≡ texts_of (map part_of (take i parts)) word ++ part_texts (part_of x) word
one-more parts i word d x lt at =
    ap (λ (ps : List Part). texts_of (map part_of ps) word) (take_more parts i d lt ∙ ap (λ (y : Part). take i parts ++ y ∷ []) (sym at))
    ∙ ap (λ (ps : List Named). texts_of ps word) (map-append part_of (take i parts) (x ∷ []))
    ∙ flat_map-append (λ p. part_texts p word) (map part_of (take i parts)) (part_of x ∷ [])
    ∙ ap (λ (t : List (List ℕ)). texts_of (map part_of (take i parts)) word ++ t) (append-nil (part_texts (part_of x) word))

-- what a part does to the list
pub goes_on : (o m n : Seen) (begun now : Bool) (separator : List ℕ) (parts : List Part) (i word : ℕ) (d x : Part) → i < length parts → x ≡ get_or parts i d
    → TakesText o (listed begun separator (texts_of (map part_of (take i parts)) word)) m
    → now ≡ begun_after begun (texts_of (map part_of (take i parts)) word)
    → TakesText m (listed now separator (part_texts (part_of x) word)) n
    → TakesText o (listed begun separator (texts_of (map part_of (take (i + 1) parts)) word)) n
goes_on o m n begun now separator parts i word d x lt at t is p =
    let xs = texts_of (map part_of (take i parts)) word in
    let ys = part_texts (part_of x) word in
    let joint : listed begun separator (texts_of (map part_of (take (i + 1) parts)) word) ≡ listed begun separator xs ++ listed now separator ys =
    ap (listed begun separator) (one-more parts i word d x lt at) ∙ listed-append begun separator xs ys ∙ ap (λ (b : Bool). listed begun separator xs ++ listed b separator ys) (sym is) in
    subst (λ (text : List ℕ). TakesText o text n) (sym joint) (takes_then o m n _ _ true t p)

pub begun_on : (begun now next : Bool) (parts : List Part) (i word : ℕ) (d x : Part) → i < length parts → x ≡ get_or parts i d
    → now ≡ begun_after begun (texts_of (map part_of (take i parts)) word)
    → next ≡ begun_after now (part_texts (part_of x) word)
    → next ≡ begun_after begun (texts_of (map part_of (take (i + 1) parts)) word)
begun_on begun now next parts i word d x lt at is p =
    let xs = texts_of (map part_of (take i parts)) word in
    let ys = part_texts (part_of x) word in
    p ∙ ap (λ (b : Bool). begun_after b ys) is ∙ sym (begun-append begun xs ys) ∙ ap (begun_after begun) (sym (one-more parts i word d x lt at))

-- a sink that fails at one of the parts fails in the text of all
pub fails_within : (o m n : Seen) (begun now : Bool) (separator : List ℕ) (parts : List Part) (i word : ℕ) (d x : Part) → i < length parts → x ≡ get_or parts i d
    → TakesText o (listed begun separator (texts_of (map part_of (take i parts)) word)) m
    → now ≡ begun_after begun (texts_of (map part_of (take i parts)) word)
    → FailsIn m (listed now separator (part_texts (part_of x) word)) n
    → Puts o (listed begun separator (texts_of (map part_of parts) word)) n false
fails_within o m n begun now separator parts i word d x lt at t is p =
    let xs = texts_of (map part_of (take i parts)) word in
    let ys = part_texts (part_of x) word in
    let zs = texts_of (map part_of (drop (i + 1) parts)) word in
    let all : texts_of (map part_of parts) word ≡ (xs ++ ys) ++ zs =
    ap (λ (ps : List Part). texts_of (map part_of ps) word) (sym (take-append-drop (i + 1) parts))
    ∙ ap (λ (ps : List Named). texts_of ps word) (map-append part_of (take (i + 1) parts) (drop (i + 1) parts))
    ∙ flat_map-append (λ q. part_texts q word) (map part_of (take (i + 1) parts)) (map part_of (drop (i + 1) parts))
    ∙ ap (λ (t : List (List ℕ)). t ++ zs) (one-more parts i word d x lt at) in
    let joint : listed begun separator (texts_of (map part_of parts) word) ≡ (listed begun separator xs ++ listed now separator ys) ++ listed (begun_after begun (xs ++ ys)) separator zs =
    ap (listed begun separator) all ∙ listed-append begun separator (xs ++ ys) zs
    ∙ ap (λ (text : List ℕ). text ++ listed (begun_after begun (xs ++ ys)) separator zs)
    (listed-append begun separator xs ys ∙ ap (λ (b : Bool). listed begun separator xs ++ listed b separator ys) (sym is)) in
    subst (λ (text : List ℕ). Puts o text n false) (sym joint) (fails_then o n _ _ (takes_then o m n _ _ false t p))

-- the same text
pub text_as : (o n : Seen) (a b : List ℕ) (whole : Bool) → a ≡ b → Puts o a n whole → Puts o b n whole
text_as o n a b whole e p = subst (λ (text : List ℕ). Puts o text n whole) e p

pub failed_so : (o m : Seen) (a b : List ℕ) (whole : Bool) → whole ≡ false → FailsIn o a m → Puts o (a ++ b) m whole
failed_so o m a b whole e f = subst (λ (r : Bool). Puts o (a ++ b) m r) (sym e) (fails_then o m a b f)

-- one text or another
pub chosen : (o n : Seen) (a b : List ℕ) (test : Bool) (whole : Bool) → test ≡ true → Puts o a n whole → Puts o (if test then a else b) n whole
chosen o n a b true whole e p = p
chosen o n a b false whole e p = absurd (cc e)

pub left : (o n : Seen) (a b : List ℕ) (test : Bool) (whole : Bool) → test ≡ false → Puts o b n whole → Puts o (if test then a else b) n whole
left o n a b false whole e p = p
left o n a b true whole e p = absurd (cc e)

pub some_named : (o n : Seen) (separator : List ℕ) (parts : List Part) (word : ℕ) (shown whole : Bool) → shown ≡ list_any (λ p. is_shown (part_of p) word) parts → shown ≡ true
    → Puts o (listed false separator (texts_of (map part_of parts) word)) n whole → Puts o (names_text separator (map part_of parts) word) n whole
some_named o n separator parts word shown whole is h p =
    chosen o n _ (codes "none") (list_any (λ q. is_shown q word) (map part_of parts)) whole (any_map (λ q. is_shown q word) parts ∙ sym is ∙ h) p

pub none_named : (o n : Seen) (separator : List ℕ) (parts : List Part) (word : ℕ) (shown whole : Bool) → shown ≡ list_any (λ p. is_shown (part_of p) word) parts → shown ≡ false
    → Puts o (codes "none") n whole → Puts o (names_text separator (map part_of parts) word) n whole
none_named o n separator parts word shown whole is h p =
    left o n (listed false separator (texts_of (map part_of parts) word)) _ (list_any (λ q. is_shown q word) (map part_of parts)) whole
    (any_map (λ q. is_shown q word) parts ∙ sym is ∙ h) p

-- tables row by row
pub row : {x y : Named} {xs ys : List Named} → x ≡ y → xs ≡ ys → x ∷ xs ≡ y ∷ ys
row {x} {y} {xs} {ys} e es = ap (λ (z : Named). z ∷ xs) e ∙ ap (λ (zs : List Named). y ∷ zs) es
