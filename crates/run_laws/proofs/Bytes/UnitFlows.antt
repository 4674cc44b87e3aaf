-- The bytes of a write: the device is level with the subsystem, or one chunk ahead.
use Rattle.std.proofs.Common.{◌≡◌, refl, sym, ◌∙◌, ap, subst, ℕ, ◌+◌, ◌-◌, ◌≤◌, Bool, length, Option, None, Some, List, [], ◌∷◌, ◌++◌, take, inl, inr, arith}
use Rattle.std.specs.Prelude.{◌⊎◌, All, Contains}
use Rattle.std.specs.List.{flat_map}
use Rattle.std.proofs.lemmas.List.{append-nil, take-append-le}
use Rattle.std.proofs.lemmas.List.Elements.{All-nil, All-push, All-weaker}
use Rattle.std.proofs.lemmas.Grind.{flat_map-append}
use Rattle.std.proofs.Math.Seq.{take-length}
use Rattle.chan_model.specs.Signals.{Load}
use Rattle.chan_model.specs.declared.unit_state.CurrentCommand.{CurrentCommand}
use Rattle.chan_model.specs.declared.unit_state.Progress.{Progress}
use Rattle.chan_model.specs.declared.unit_state.Progress.TheVariants as progress
use Rattle.chan_model.specs.Loads.{load_length}
use Rattle.chan_model.specs.UnitTable.{with_given, current_answered, new_command, kept_bytes}
use Rattle.ccw_walk.specs.Acts.{PlacedBytes}
use Rattle.idaw.specs.Places.{each_below}
use Rattle.run_laws.specs.ProgramClaims.{IsFirstOf, first_bytes}
use Rattle.data_move.proofs.ListLemmas.{each_below_add}
use Rattle.run_laws.proofs.Bytes.Lists.{length-each_below}

-- how far the subsystem moved: the number of the last chunk, the places of the next bytes and how many may come at once,
-- the places that were moved, and the chunks that were copied
pub record View : Type 0 where
  pub seq : ℕ
  pub next : ℕ → Option ℕ
  pub room : ℕ
  pub moved : List (Option ℕ)
  pub copied : List PlacedBytes

-- by how many bytes the device is ahead, where it is
abbrev pub lead_places : View → Option ℕ → List (Option ℕ)
lead_places v None = v.moved
lead_places v (Some j) = v.moved ++ each_below v.next j

abbrev pub IsLead : View → Option ℕ → Type 0
IsLead v None = Unit {0}
IsLead v (Some j) = j ≤ v.room

-- bytes of a chunk that was copied from the next places
pub record IsGood (v : View) (bytes : List ℕ) : Type 0 where
  pub chunk : PlacedBytes
  pub there : Contains v.copied chunk
  pub same : chunk.bytes ≡ bytes
  pub places : chunk.places ≡ each_below v.next (length bytes)
  pub within : length bytes ≤ v.room

abbrev pub IsGive : View → ℕ → List ℕ → Type 0
IsGive v s bytes = (s ≤ v.seq + 1) × (s ≡ v.seq + 1 → (bytes ≡ []) ⊎ IsGood v bytes)

abbrev pub IsData : View → Option ℕ → ℕ → Load → Type 0
IsData v lead s x = (s ≤ v.seq + 1) × (s ≡ v.seq + 1 → lead ≡ Some (load_length x))

abbrev pub IsStarted : Progress → Type 0
IsStarted progress.New = ⊥
IsStarted other = Unit {0}

-- the command at hand
pub data Hand (v : View) (lead : Option ℕ) (x : CurrentCommand) : Type 0 where
  Level : x.sequence ≡ v.seq → x.unabsorbed ≡ None → lead ≡ None → Hand v lead x
  Pending : x.sequence ≡ v.seq + 1 → x.unanswered ≡ None → lead ≡ None → ((bytes : List ℕ) → x.unabsorbed ≡ Some bytes → IsGood v bytes) → Hand v lead x
  Ahead : x.sequence ≡ v.seq + 1 → x.unabsorbed ≡ None → (j : ℕ) → lead ≡ Some j → ((l : Load) → x.unanswered ≡ Some l → load_length l ≡ j) → IsStarted x.progress → Hand v lead x

-- what was absorbed is the first bytes of chunks that were copied, from the places that were moved, and those ahead
pub record Flow (v : View) (absorbed : List ℕ) (lead : Option ℕ) : Type 0 where
  pub chunks : List PlacedBytes
  pub firsts : All (IsFirstOf v.copied) chunks
  pub bytes : flat_map (λ c. c.bytes) chunks ≡ absorbed
  pub places : flat_map (λ c. c.places) chunks ≡ lead_places v lead
  pub within : IsLead v lead

-- a command begins
pub begins-flow : (v : View) → v.moved ≡ [] → Flow v [] None
begins-flow v e = record { chunks = []; firsts = All-nil (IsFirstOf v.copied); bytes = refl; places = sym e; within = tt }

pub begins-hand : (v : View) (p code room : ℕ) → v.seq ≡ 0 → Hand v None (new_command p code room)
begins-hand v p code room e = Level (sym e) refl refl

-- Give
kept-good : (v : View) (bs bytes : List ℕ) → (bs ≡ []) ⊎ IsGood v bs → kept_bytes bs ≡ Some bytes → IsGood v bytes
kept-good v [] bytes g e = absurd (cc e)
kept-good v (b ∷ bs) bytes (inl z) e = absurd (cc z)
kept-good v (b ∷ bs) bytes (inr g) e = let same : (b ∷ bs) ≡ bytes = cc e in subst (IsGood v) same g

pub give-hand : (v : View) (lead : Option ℕ) (x : CurrentCommand) (s : ℕ) (bytes : List ℕ) → Hand v lead x → IsGive v s bytes → s ≡ x.sequence + 1 → Hand v lead (with_given x s bytes)
give-hand v lead x s bytes (Level q g l) k e =
    let at : s ≡ v.seq + 1 = e ∙ ap (λ (n : ℕ). n + 1) q in
    Pending at refl l (λ bs h. kept-good v bytes bs (k.1 at) h)
give-hand v lead x s bytes (Pending q a l p) k e = absurd (omega (arith, k.0, e, q))
give-hand v lead x s bytes (Ahead q g j l a b) k e = absurd (omega (arith, k.0, e, q))

-- Took
pub answer-hand : (v : View) (lead : Option ℕ) (x : CurrentCommand) (l : Load) (room : ℕ) → Hand v lead x → Hand v lead (current_answered x l room)
answer-hand v lead x l room (Level q g m) = Level q g m
answer-hand v lead x l room (Pending q a m p) = Pending q refl m p
answer-hand v lead x l room (Ahead q g j m a b) = Ahead q g j m (λ y e. absurd (cc e)) b

-- Leave: what is not answered is to be sent again
pub again-hand : (v : View) (lead : Option ℕ) (x : CurrentCommand) (again : Bool) → Hand v lead x → Hand v lead (record x { again = again })
again-hand v lead x again (Level q g m) = Level q g m
again-hand v lead x again (Pending q a m p) = Pending q a m p
again-hand v lead x again (Ahead q g j m a b) = Ahead q g j m a b

-- the first bytes of a chunk
take-all : {A : Type 0} (n : ℕ) (xs : List A) → length xs ≡ n → take n xs ≡ xs
take-all {A} n xs e = ap (λ (m : ℕ). take m xs) (sym e) ∙ take-length xs

take-below : {A : Type 0} (f : ℕ → A) (k n : ℕ) → k ≤ n → take k (each_below f n) ≡ each_below f k
take-below f k n l =
    let e : k + (n - k) ≡ n = omega (arith, l) in
    let long : length (each_below f k) ≡ k = length-each_below f k in
    let len : k ≤ length (each_below f k) = omega (arith, long) in
    ap (λ x. take k (each_below f x)) (sym e) ∙ ap (take k) (each_below_add f k (n - k))
    ∙ take-append-le k (each_below f k) (each_below (λ i. f (k + i)) (n - k)) len
    ∙ take-all k (each_below f k) long

more-of : {B : Type 0} (f : PlacedBytes → List B) (cs : List PlacedBytes) (c : PlacedBytes) → flat_map f (cs ++ c ∷ []) ≡ flat_map f cs ++ f c
more-of f cs c = flat_map-append f cs (c ∷ []) ∙ ap (λ xs. flat_map f cs ++ xs) (append-nil (f c))

-- Absorbed
pub absorbs-flow : (v : View) (absorbed bytes : List ℕ) (count : ℕ) → IsGood v bytes → count ≤ length bytes → Flow v absorbed None → Flow v (absorbed ++ take count bytes) (Some count)
absorbs-flow v absorbed bytes count g l k =
    let c : PlacedBytes = first_bytes g.chunk count in
    let firsts : take count g.chunk.places ≡ each_below v.next count = ap (take count) g.places ∙ take-below v.next count (length bytes) l in
    record {
      chunks = k.chunks ++ c ∷ [];
      firsts = All-push (IsFirstOf v.copied) k.chunks c k.firsts (g.chunk, count, g.there, refl);
      bytes = more-of (λ x. x.bytes) k.chunks c ∙ ap (λ xs. xs ++ take count g.chunk.bytes) k.bytes ∙ ap (λ xs. absorbed ++ take count xs) g.same;
      places = more-of (λ x. x.places) k.chunks c ∙ ap (λ xs. xs ++ take count g.chunk.places) k.places ∙ ap (λ xs. v.moved ++ xs) firsts;
      within = let w : length bytes ≤ v.room = g.within in omega (arith, w, l);
    }

-- nothing is absorbed
pub none-flow : (v : View) (absorbed : List ℕ) → Flow v absorbed None → Flow v absorbed (Some 0)
none-flow v absorbed k =
    record { chunks = k.chunks; firsts = k.firsts; bytes = k.bytes; places = k.places ∙ sym (append-nil v.moved); within = omega arith }

-- signals of before, where the device was level
pub none-data : (v : View) (lead : Option ℕ) (j : ℕ) (s : ℕ) (x : Load) → lead ≡ None → IsData v lead s x → IsData v (Some j) s x
none-data v lead j s x e k = (k.0, λ h. absurd (cc (sym e ∙ k.1 h)))

-- the subsystem is answered
pub answered-hand : (v w : View) (j : ℕ) (x : CurrentCommand) → w.seq ≡ v.seq + 1 → Hand v (Some j) x → Hand w None x
answered-hand v w j x e (Level q g l) = absurd (cc l)
answered-hand v w j x e (Pending q a l p) = absurd (cc l)
answered-hand v w j x e (Ahead q g i l a b) = Level (q ∙ sym e) g refl

abbrev pub AreCopied : View → View → Type 0
AreCopied v w = (c : PlacedBytes) → Contains v.copied c → Contains w.copied c

firsts-wider : (v w : View) (chunks : List PlacedBytes) → AreCopied v w → All (IsFirstOf v.copied) chunks → All (IsFirstOf w.copied) chunks
firsts-wider v w chunks f a = All-weaker (IsFirstOf v.copied) (IsFirstOf w.copied) (λ c k. (k.0, k.1, f k.0 k.2, k.3)) chunks a

pub answered-flow : (v w : View) (absorbed : List ℕ) (j : ℕ) → AreCopied v w → w.moved ≡ v.moved ++ each_below v.next j → Flow v absorbed (Some j) → Flow w absorbed None
answered-flow v w absorbed j f e k =
    record { chunks = k.chunks; firsts = firsts-wider v w k.chunks f k.firsts; bytes = k.bytes; places = k.places ∙ sym e; within = tt }

pub answered-give : (v w : View) (s : ℕ) (bytes : List ℕ) → w.seq ≡ v.seq + 1 → IsGive v s bytes → IsGive w s bytes
answered-give v w s bytes e k = (omega (arith, e, k.0), λ h. absurd (omega (arith, e, h, k.0)))

pub answered-data : (v w : View) (lead : Option ℕ) (s : ℕ) (x : Load) → w.seq ≡ v.seq + 1 → IsData v lead s x → IsData w None s x
answered-data v w lead s x e k = (omega (arith, e, k.0), λ h. absurd (omega (arith, e, h, k.0)))

-- the next bytes are located
pub record IsLocated (v w : View) : Type 0 where
  pub seq : w.seq ≡ v.seq
  pub moved : w.moved ≡ v.moved
  pub copied : AreCopied v w
  pub next : (n : ℕ) → n ≤ v.room → (n ≤ w.room) × (each_below w.next n ≡ each_below v.next n)

located-good : (v w : View) (bytes : List ℕ) → IsLocated v w → IsGood v bytes → IsGood w bytes
located-good v w bytes l g =
    let n = l.next (length bytes) g.within in
    record { chunk = g.chunk; there = l.copied g.chunk g.there; same = g.same; places = g.places ∙ sym n.1; within = n.0 }

pub located-give : (v w : View) (s : ℕ) (bytes : List ℕ) → IsLocated v w → IsGive v s bytes → IsGive w s bytes
located-give v w s bytes l k = (
  subst (λ (n : ℕ). s ≤ n + 1) (sym l.seq) k.0,
  λ e. elim (k.1 (e ∙ ap (λ (n : ℕ). n + 1) l.seq)) [
    | inl z ↦ inl z
    | inr g ↦ inr (located-good v w bytes l g)
  ],
)

pub located-data : (v w : View) (lead : Option ℕ) (s : ℕ) (x : Load) → IsLocated v w → IsData v lead s x → IsData w lead s x
located-data v w lead s x l k = (subst (λ (n : ℕ). s ≤ n + 1) (sym l.seq) k.0, λ e. k.1 (e ∙ ap (λ (n : ℕ). n + 1) l.seq))

pub located-hand : (v w : View) (lead : Option ℕ) (x : CurrentCommand) → IsLocated v w → Hand v lead x → Hand w lead x
located-hand v w lead x l (Level q g m) = Level (q ∙ sym l.seq) g m
located-hand v w lead x l (Pending q a m p) = Pending (q ∙ ap (λ (n : ℕ). n + 1) (sym l.seq)) a m (λ bytes e. located-good v w bytes l (p bytes e))
located-hand v w lead x l (Ahead q g j m a b) = Ahead (q ∙ ap (λ (n : ℕ). n + 1) (sym l.seq)) g j m a b

lead-same : (v w : View) (lead : Option ℕ) → IsLocated v w → IsLead v lead → (IsLead w lead) × (lead_places v lead ≡ lead_places w lead)
lead-same v w None l k = (tt, sym l.moved)
lead-same v w (Some j) l k =
    let n = l.next j k in
    (n.0, ap (λ xs. xs ++ each_below v.next j) (sym l.moved) ∙ ap (λ xs. w.moved ++ xs) (sym n.1))

pub located-flow : (v w : View) (absorbed : List ℕ) (lead : Option ℕ) → IsLocated v w → Flow v absorbed lead → Flow w absorbed lead
located-flow v w absorbed lead l k =
    let same = lead-same v w lead l k.within in
    record { chunks = k.chunks; firsts = firsts-wider v w k.chunks l.copied k.firsts; bytes = k.bytes; places = k.places ∙ same.1; within = same.0 }
