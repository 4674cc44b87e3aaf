-- What the walks share: a struct of one pointer, and the heap beside another type at a call.
use Rattle.std.proofs.Common.{◌≡◌, true, ◌&&◌, T, List, [], ◌∷◌, Option, Some, None, is_some, refl, sym, true≢false, lit<}
use mir.Raw.{raw as bare}
use mir.Syntax.{ty_ptr, tcons, tnil, dnil, impl, Dict}
use mir.Val.{Val, vstruct, vcons, vnil, has_ty, WT}
use base.Fml.{Fml, Lft, Share, fsep, flft}
use base.Logic.{ent, sep, emp}
use base.Share
use types.Logic.{Logic}
use types.Kit.{Item, Goal, Step, step, ‵, raw, ◌⊛◌, ◌$◌, ◌∵◌, !, qed, done, move, use0, use1, split, join, fjoin}
use contract.BorrowLft.{◌⊑◌}
use contract.Monad.{fact, fact_i}
use denote.Builtin.{RawPtr}
use denote.Exit.{no}
use denote.Laws.{Is}
use denote.Param.{layout, arg}
use denote.Param.Laws.{Laws, arg_laws}
use denote.RattleType.{RattleType}
use denote.RawPtr.{Ptr, block_ptr, null_ptr, ptr_val}
use denote.Steps.{owned, nothing}
use denote.Struct.Laws.{RawPtr-plain}
use denote.Struct.Struct.{Shape, Struct, Struct-Makes}
use Rattle.core.proofs.cell.Inside.{Good}
use Rattle.std_heap.specs.contracts.Global.{the_row as Heap}
use Rattle.std_heap.proofs.Global.TheLaws as heap
use seplogic.Ra.Ura.{Ura}

abbrev pub word : Ptr → Val
word p = vstruct (vcons (ptr_val p) vnil)

abbrev One : Shape
One = record { name = []; args = []; types = []; fields = RawPtr ∷ [] }

-- a pointer is of its type, wherever it leads
pub fits : (p : Ptr) → Good ty_ptr (ptr_val p)
fits (block_ptr b o) = (tt, tt)
fits null_ptr = (tt, record { fits = lit< tt })

pub word_fits : (p : Ptr) → T (has_ty ty_ptr (ptr_val p) && true) × WT (word p)
word_fits (block_ptr b o) = (tt, (tt, tt))
word_fits null_ptr = (tt, (record { fits = lit< tt }, tt))

-- the heap's handle as a call's argument
abbrev pub Z : RattleType
Z = arg (bare (layout Heap)) no Heap

abbrev pub LZ : Laws Z
LZ = arg_laws (bare (layout Heap)) no Heap heap.the_row_laws refl

abbrev pub drops : Dict
drops = impl ("filuvamoth::Destruct++none::drop" ∷ []) (tcons (layout Z) tnil) dnil

-- what is there, where something is
pub present : {X : Type 0} (o : Option X) → is_some o ≡ true → (x : X) × (o ≡ Some x)
present (Some x) e = (x, refl)
present None e = absurd (true≢false (sym e))

module _ {M : Type 1} {𝓤 : Ura M} (𝓛 : Logic 𝓤) where
  -- what a struct of one pointer owns beside its field, and then the struct
  pub wraps : {K : Type 0} {Γ : List (Item 𝓤)} {G : Goal 𝓤 𝓛.H} → K → (p : Ptr) (F : Fml) → Step K 𝓛 (‵ (fsep ((Struct One).own_val (p, tt) (word p ∷ [])) F) ∷ Γ) G (‵ F ∷ Γ) G
  wraps t p F = step (λ s. owned t (Struct One) (Is (Struct One)) (Struct-Makes 𝓛 One (RawPtr-plain, tt)) (p, tt) (word p ∷ []) ((ptr_val p ∷ [], tt), (refl, (refl, tt))) $ fjoin t $ s)

  module _ (κ : Lft) (q : Share) where
    -- A box's functions ask for two lifetimes, its value's and its heap's. One serves for both.
    pub halves : ent 𝓤 (𝓛.A.lft κ q) (sep 𝓤 (𝓛.A.lft κ (Share.left q)) (sep 𝓤 (𝓛.A.lft κ (Share.right q)) (emp 𝓤)))
    halves = qed 𝓛 (‵ (flft κ q) ∷ []) ∵ use1 𝓛 (‵ (flft κ (Share.left q)) ⊛ ‵ (flft κ (Share.right q))) (𝓛.lfts.lft_split κ q) $ split ! $
        nothing ! $ move ! (2 ∷ 0 ∷ []) $ join ! $ move ! (1 ∷ 0 ∷ []) $ join ! $ done !

    pub lives : (ρ : Lft) (P : base.Logic.SProp 𝓤) → ent 𝓤 (sep 𝓤 (fact 𝓤 (κ ⊑ ρ)) P) (sep 𝓤 (fact 𝓤 (κ ⊑ ρ)) (sep 𝓤 (fact 𝓤 (κ ⊑ Heap.lives)) P))
    lives ρ P = qed 𝓛 (raw (fact 𝓤 (κ ⊑ ρ)) ∷ raw P ∷ []) ∵ use0 𝓛 (raw (fact 𝓤 (κ ⊑ Heap.lives))) (fact_i 𝓤 (κ ⊑ Heap.lives) (emp 𝓤) (heap.the_within κ)) $
        move ! (0 ∷ 2 ∷ []) $ join ! $ move ! (1 ∷ 0 ∷ []) $ join ! $ done !
