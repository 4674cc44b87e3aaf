-- `into_box` hands the pointer, and what it leads to, to `from_raw`.
use Rattle.std.proofs.Common.{◌≡◌, List, [], ◌∷◌, refl}
use mir.Syntax.{a_type}
use mir.MapTy.{inst_fn}
use mir.Val.{Val}
use base.Share
use base.Logic.{id⊢}
use base.Fml.{ftrue, fsep, flft}
use types.Logic.{sem}
use types.Kit.{‵, raw, ◌⊛◌, some, later, at_ret, ◌$◌, ◌∵◌, !, qed, done, move, drop, keep, use1, use2, split, split3, join, fsplit, fjoin, feq_i, pick, await, suffices}
use types.Run.{enter, of_opd, stop, fld, no_more, and_then, first, blocks, exec, returns}
use types.Part.{whole, sub}
use types.ByLocal.{alloc_all, pass_all, free_all, look_at, get, get_in, sets, lands_last, env}
use contract.BorrowLft.{◌⊑◌}
use contract.Monad.{fact}
use contract.Running.{tables}
use denote.Exit.{yes, no}
use denote.Laws.{Is, shows}
use denote.Param.{layouts, param}
use denote.Param.Laws.{param_laws}
use denote.Param.NoDrop.{glues}
use denote.RattleType.{RattleType}
use denote.RawPtr.{ptr_val}
use denote.Signature.{plain}
use denote.Steps.{nothing, heard, peeks}
use denote.Triple.Call.{calls_at_last}
use denote.Triple.Clauses.{Lasts, lasts}
use denote.Triple.Spec.{triple_of}
use denote.Triple.Walked.{Stays, stay_dropped, Goes-dropped, walk_of, says, ends_at}
use Rattle.core.proofs.alloc.Calls.{Goes-blank}
use Rattle.core.proofs.alloc.Shapes.{after}
use Rattle.core.proofs.atomic.Steps.{fm}
use Rattle.std.proofs.raw_atomic.Walks.{proved}
use Rattle.std_heap.specs.contracts.Global.{the_row as Heap}
use Rattle.std_heap.specs.contracts.GlobalAllocator.TheImpl.{ghosts, dict}
use Rattle.std_heap.proofs.Global.TheLaws as heap
use Rattle.std_heap.proofs.GlobalAllocator.TheImpl.Met as allocator
use Rattle.std_heap.proofs.Handle.{heap_val, heap_Tells}
use Rattle.std_alloc.specs.contracts.boxed.Box as Box
use Rattle.std_alloc.proofs.boxed.Box.TheLaws as box
use Rattle.std_alloc.specs.contracts.boxed.Box.from_raw as G
use Rattle.std_alloc.proofs.boxed.Box.from_raw.Met.{met}
use Rattle.filuvamoth.specs.Held.{heap_owns}
use Rattle.filuvamoth.proofs.Word.{word, fits, word_fits, halves, lives, Z, LZ, drops}
use Rattle.filuvamoth.specs.contracts.parts.Parts as Parts
use Rattle.filuvamoth.proofs.parts.Parts.TheLaws as parts
use Rattle.filuvamoth.specs.contracts.parts.Parts.into_box as F
use Rattle.filuvamoth.proofs.parts.Parts.into_box.Statement.{statement}
use Rattle.filuvamoth.proofs.parts.Parts.into_box.Code as code
use Rattle.filuvamoth.proofs.Destruct++none.drop.Code as nothing_to_drop

pub into_box_spec : {M : Type 1} → statement M
unfolding nothing_to_drop.code
into_box_spec {M} 𝓤 𝓛 𝓜 𝓡 wired T L =
    let H = 𝓛.H in let 𝓣 = tables 𝓤 H 𝓜 𝓡 𝓡.env in
    let B : RattleType = Box.the_row (param 0 T) Heap ghosts in let From : RattleType = Parts.the_row (param 0 T) in
    let En = F.ended T in let c = F.clauses T 𝓛 𝓜.mem 𝓡.returns in
    let inst = layouts (a_type ∷ []) (T, tt) in let fn = inst_fn inst code.function in
    let stayed : Stays En.signature.params En.kept = (stay_dropped (plain (λ _. From)) no, (stay_dropped (plain (λ _. Heap)) yes, tt)) in
    proved 𝓛 En stayed c 𝓜 𝓡 (Goes-blank 𝓛 1 (plain (λ _. From)) no (λ κs x f. tt), (Goes-dropped 𝓛 1 (plain (λ _. Heap)) yes (λ κs x f. refl), tt)) (F.Key.name inst) fn (code.unfolded 𝓤 H 𝓜 𝓡 wired (T, tt))
    (λ κs. ((λ d. word d.at ∷ []), ((λ _. heap_val ∷ []), tt))) (λ κs. ((parts.lowers (param 0 T) (param_laws 0 T L)).val_is, (heap_Tells, tt))) (λ κs qs bounds a g are.
    let κ = κs.0 in let q = qs.0 in let v = a.0 in let p = v.at in
    let z : (walk_of 𝓛 En stayed c).Ghost = ((κs, qs, bounds, a, (word p ∷ [], (heap_val ∷ [], tt))), g) in
    let Ended = G.ended T Z ghosts dict drops in
    let k = triple_of 𝓛 (G.signature T Z ghosts dict drops) (G.spec T Z ghosts dict drops 𝓛 𝓜.mem 𝓡.returns) in
    let y : k.Ghost = (((κ, (κ, tt)), (Share.left q, (Share.right q, tt)), tt, (a.1.0, (p, tt)), (heap_val ∷ [], (ptr_val p ∷ [], tt))), v.value) in
    let owned = heap_owns (param 0 T) p v.value in
    qed 𝓛 (((‵ (flft κ q) ⊛ ‵ ftrue) ⊛ ‵ (fsep (From.own_val v (word p ∷ [])) (fsep (Heap.own_val a.1.0 (heap_val ∷ [])) ftrue))) ∷ (raw (fact 𝓤 (κ ⊑ T.lives)) ⊛ ‵ ftrue) ∷ []) ∵
    split ! $ split ! $ move ! (2 ∷ []) $ fsplit ! $ fsplit ! $ move ! (2 ∷ []) $ fsplit ! $
    -- [the handle; nothing; the field; what the pointer leads to; the token; nothing; what holds of the lifetime]
    feq_i ! (List Val) (ptr_val p ∷ []) (ptr_val p ∷ []) refl $ move ! (0 ∷ 2 ∷ []) $ fjoin ! $ move ! (1 ∷ 0 ∷ []) $ fjoin ! $
    move ! (3 ∷ []) $ use1 𝓛 (‵ (flft κ (Share.left q)) ⊛ ‵ (flft κ (Share.right q)) ⊛ ‵ ftrue) (halves 𝓛 κ q) $ join ! $
    move ! (4 ∷ []) $ split ! $ keep ! (0 ∷ 4 ∷ 2 ∷ []) $ join ! $ use1 𝓛 (raw (fact 𝓤 (κ ⊑ T.lives)) ⊛ raw (fact 𝓤 (κ ⊑ Z.lives)) ⊛ ‵ owned) (lives 𝓛 κ q T.lives (sem 𝓛 owned)) $
    move ! (1 ∷ 0 ∷ []) $ join ! $ use1 𝓛 (raw (k.pre y)) (id⊢ 𝓤 _) $
    enter ! _ _ _ _ _ $ alloc_all ! (λ l. pass_all ! refl (word_fits p, ((tt, ((tt, tt), tt)), tt)) $ let Ev = env fn.locals l in
    sets ! (of_opd ! (get_in ! (fld ! refl (stop !)) (sub ! 0 refl (whole !)))) refl (fits p) $ first ! $ blocks ! $
    calls_at_last ! (fm 𝓛 𝓜 𝓡) k (met 𝓤 𝓛 𝓜 𝓡 (code.calls-std_alloc::boxed::Box::from_raw 𝓡.env wired) T Z L LZ ghosts dict drops
    (allocator.passed 𝓡.env (code.calls-std_heap::GlobalAllocator::allocate 𝓡.env wired) (code.calls-std_heap::GlobalAllocator::deallocate 𝓡.env wired) (code.calls-std_heap::GlobalAllocator::grow 𝓡.env wired) (code.calls-std_heap::GlobalAllocator::shrink 𝓡.env wired) M 𝓤 𝓛 𝓜 𝓡)
    (glues "filuvamoth::Destruct++none::drop" 𝓡.env (code.calls-filuvamoth::Destruct++none::drop 𝓡.env wired) Z LZ M 𝓤 𝓛 𝓜 𝓡)) y (and_then ! (get ! refl) (and_then ! (get ! refl) (no_more !))) (λ u.
    use1 𝓛 (later (some (λ (r : B.Denot). ((‵ (flft κ (Share.left q)) ⊛ ‵ (flft κ (Share.right q)) ⊛ ‵ ftrue) ⊛ ‵ (B.own_val r (u ∷ []))) ⊛ some (λ (ws : Lasts Ended y.0.0 y.0.3). ‵ (lasts Ended y.0.0 y.0.3 ws) ⊛ (raw (fact 𝓤 (r.value ≡ v.value)) ⊛ raw (fact 𝓤 (r.alloc ≡ a.1.0))))))) (id⊢ 𝓤 (k.post y u)) $
    await ! tt $ pick ! (λ r. split ! $ move ! (1 ∷ []) $ pick ! (λ ws. split3 ! $ drop ! $ heard ! _ (λ same. drop ! $ split ! $ move ! (1 ∷ []) $
    peeks ! B (Is B) (shows 𝓛 B) r (u ∷ []) (λ is. let typed = ((box.the_field_loose (param 0 T) Heap ghosts (param_laws 0 T L) heap.the_row_laws).lawful 𝓛).typed r (u ∷ []) is in
    -- [the box; the token, in halves]
    lands_last ! refl typed.0 $ exec ! 𝓣.C 𝓣.Λ Ev (after 2 fn.body) (at_ret Ev ((walk_of 𝓛 En stayed c).post z)) $ sets ! (of_opd ! (get ! refl)) refl typed.0 $ returns ! (look_at ! 0 refl) $ free_all ! refl $ keep ! (0 ∷ 1 ∷ []) $
    suffices ! _ (ends_at 𝓛 En stayed c z u r (tt, (tt, tt)) (tt, (tt, tt))) $ says ! same $
    nothing ! $ nothing ! $ fjoin ! $ nothing ! $ fjoin ! $ join ! $
    move ! (1 ∷ []) $ split3 ! $ use2 𝓛 (‵ (flft κ q)) (𝓛.lfts.lft_join κ q) $ join ! $ join ! $ done !)))))))
