-- The words of all cells, rewritten one after another.
use Rattle.std.proofs.Common.{◌≡◌, ℕ, zero, suc, ◌+◌, ◌<◌, ◌≤◌, List, [], ◌∷◌, length, get_or, set, add-one, Some, refl, sym, ap, ◌∙◌, arith}
use Rattle.std.specs.Prelude.{slice_get}
use Rattle.std.proofs.lemmas.List.{length-map}
use Rattle.scsw_irb.specs.declared.serials.Serials.{Serials}
use Rattle.subsystem.specs.Keeping.{Rises}
use Rattle.glance_cell.specs.Shown.{Words}
use Rattle.glance_directory.specs.Cells.{cell_of, cells_of, counts_of, shown}

module _ {A : Type 0} where
  -- the first i of new, and then old
  abbrev pub mix : ℕ → List A → List A → List A
  mix zero new old = old
  mix (suc i) [] old = []
  mix (suc i) (n ∷ new) [] = []
  mix (suc i) (n ∷ new) (o ∷ old) = n ∷ mix i new old

  pub mix_set : (i : ℕ) (new old : List A) (x : A) → slice_get new i ≡ Some x → length new ≡ length old → set (mix i new old) i x ≡ mix (suc i) new old
  mix_set zero [] old x g e = absurd (cc)
  mix_set zero (n ∷ new) [] x g e = absurd (omega arith)
  mix_set zero (n ∷ new) (o ∷ old) x g e = let h : x ≡ n = cc in ap (λ y. y ∷ old) h
  mix_set (suc i) [] old x g e = absurd (cc)
  mix_set (suc i) (n ∷ new) [] x g e = absurd (omega arith)
  mix_set (suc i) (n ∷ new) (o ∷ old) x g e = ap (λ l. n ∷ l) (mix_set i new old x g (omega arith))

  pub mix_get : (i : ℕ) (new old : List A) → length new ≡ length old → slice_get (mix i new old) i ≡ slice_get old i
  mix_get zero new old e = refl
  mix_get (suc i) [] [] e = refl
  mix_get (suc i) [] (o ∷ old) e = absurd (omega arith)
  mix_get (suc i) (n ∷ new) [] e = absurd (omega arith)
  mix_get (suc i) (n ∷ new) (o ∷ old) e = mix_get i new old (omega arith)

  pub mix_end : (i : ℕ) (new old : List A) → length new ≡ length old → length old ≤ i → mix i new old ≡ new
  mix_end zero [] [] e le = refl
  mix_end zero [] (o ∷ old) e le = absurd (omega arith)
  mix_end zero (n ∷ new) old e le = absurd (omega arith)
  mix_end (suc i) [] old e le = refl
  mix_end (suc i) (n ∷ new) [] e le = absurd (omega arith)
  mix_end (suc i) (n ∷ new) (o ∷ old) e le = ap (λ l. n ∷ l) (mix_end i new old (omega arith) (omega arith))

pub shown_at : (ws : List Words) (k : ℕ) (w : Words) → k < length ws → w ≡ get_or ws k w → slice_get (shown ws) k ≡ Some (counts_of w)
shown_at [] k w lt e = absurd (omega arith)
shown_at (x ∷ ws) zero w lt e = ap (λ (u : Words). Some (counts_of u)) (sym e)
shown_at (x ∷ ws) (suc k) w lt e = shown_at ws k w (omega arith) e

-- a place's new numbers are no less than what its words show while the first ones are rewritten
pub rises_at : (ws olds : List Words) (new : List Serials) (k : ℕ) (now : Serials) → shown ws ≡ mix k new (shown olds) → Rises (shown olds) new → slice_get new k ≡ Some now → (s : Serials) → slice_get (shown ws) k ≡ Some s → (s.made ≤ now.made) × (s.cleared ≤ now.cleared)
rises_at ws olds new k now is r g s h =
    let at = sym (mix_get k new (shown olds) r.count) ∙ sym (ap (λ l. slice_get l k) is) ∙ h in
    (r.made k s now at g, r.cleared k s now at g)

pub mixes_on : (ws olds after : List Words) (new : List Serials) (k : ℕ) (now : Serials) → shown ws ≡ mix k new (shown olds) → Rises (shown olds) new → slice_get new k ≡ Some now → shown after ≡ set (shown ws) k now → shown after ≡ mix (k + 1) new (shown olds)
mixes_on ws olds after new k now is r g e =
    e ∙ ap (λ l. set l k now) is ∙ mix_set k new (shown olds) now g r.count ∙ ap (λ n. mix n new (shown olds)) (sym (add-one k))

pub same_cells : (xs ys : List Words) → cells_of xs ≡ cells_of ys → length xs ≡ length ys
same_cells xs ys e = sym (length-map xs cell_of) ∙ ap length e ∙ length-map ys cell_of

pub shown_length : (ws : List Words) → length (shown ws) ≡ length ws
shown_length ws = length-map ws counts_of
