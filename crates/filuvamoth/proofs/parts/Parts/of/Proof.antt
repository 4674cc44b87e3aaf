-- `of` has the box's pointer from `into_raw`, with what the box owned.
use Rattle.std.proofs.Common.{List, [], ◌++◌, ◌∷◌, refl, ap}
use mir.Syntax.{a_type, dcons, dnil}
use mir.MapTy.{inst_fn}
use mir.Val.{Val}
use base.Share
use base.Logic.{id⊢, emp}
use base.Fml.{ftrue, fsep, flft}
use prog.Wp.{WpFn}
use types.Kit.{‵, raw, ◌⊛◌, some, later, ◌$◌, ◌∵◌, !, qed, done, move, drop, keep, use1, use2, split, split3, join, fjoin, feq_l, pick, await, suffices, prop, regoal, rewrite}
use types.Run.{enter, of_opd, no_more, and_then, returns}
use types.Part.{agg}
use types.ByLocal.{alloc_all, pass_all, free_all, look_at, get, sets, lands_as}
use contract.BorrowLft.{◌⊑◌}
use contract.Monad.{fact}
use contract.Running.{tables}
use denote.Exit.{no}
use denote.Param.{layout, param, bounded}
use denote.Builtin.{RawPtr}
use denote.RawPtr.{Ptr}
use denote.Signature.{plain}
use denote.Steps.{nothing, only}
use denote.Triple.Call.{calls_at}
use denote.Triple.Spec.{triple_of}
use denote.Triple.Walked.{Stays, stay_dropped, says, ends_at, walk_of}
use denote.Param.NoDrop.{glues}
use denote.Param.Laws.{param_laws}
use denote.RattleType.{RattleType}
use denote.Triple.Clauses.{Lasts, lasts}
use Rattle.core.proofs.alloc.Calls.{Goes-blank}
use Rattle.core.proofs.atomic.Steps.{fm}
use Rattle.core.proofs.cell.Inside.{one}
use Rattle.std.proofs.raw_atomic.Walks.{proved_at}
use Rattle.std_heap.specs.contracts.Global.{the_row as Heap}
use Rattle.std_heap.specs.contracts.GlobalAllocator.TheImpl.{ghosts, dict}
use Rattle.std_heap.proofs.Global.TheLaws as heap
use Rattle.std_heap.proofs.GlobalAllocator.TheImpl.Met as allocator
use Rattle.std_alloc.specs.contracts.boxed.Box as Box
use Rattle.std_alloc.proofs.boxed.Box.TheLaws as box
use Rattle.std_alloc.specs.contracts.boxed.Box.into_raw as G
use Rattle.std_alloc.proofs.boxed.Box.into_raw.Met.{met}
use Rattle.filuvamoth.specs.Held.{heap_owns}
use Rattle.filuvamoth.proofs.Word.{word, fits, word_fits, wraps, halves, lives, Z, LZ, drops}
use Rattle.filuvamoth.specs.contracts.parts.Parts.of as F
use Rattle.filuvamoth.proofs.parts.Parts.of.Statement.{statement}
use Rattle.filuvamoth.proofs.parts.Parts.of.Code as code
use Rattle.filuvamoth.proofs.Destruct++none.drop.Code as nothing_to_drop

pub of_spec : {M : Type 1} → statement M
unfolding nothing_to_drop.code
of_spec {M} 𝓤 𝓛 𝓜 𝓡 wired T L dx glue =
    let H = 𝓛.H in let 𝓣 = tables 𝓤 H 𝓜 𝓡 𝓡.env in
    let B : RattleType = Box.the_row (param 0 T) Heap ghosts in
    let En = F.ended T dx in let c = F.clauses T dx 𝓛 𝓜.mem 𝓡.returns in
    let inst = bounded (a_type ∷ []) (T, tt) (dcons dx dnil) in let fn = inst_fn inst code.function in
    let stayed : Stays En.signature.params En.kept = (stay_dropped (plain (λ _. B)) no, tt) in
    proved_at 𝓛 En stayed c 𝓜 𝓡 (Goes-blank 𝓛 1 (plain (λ _. B)) no (λ κs x f. tt), tt) (F.Key.name inst) fn (code.unfolded 𝓤 H 𝓜 𝓡 wired (T, tt) dx) (λ z are.
    let κ = z.0.0.0 in let q = z.0.1.0 in let v = z.0.3.0 in
    let Ended = G.ended T Z ghosts dict drops dx in
    let k = triple_of 𝓛 (G.signature T Z ghosts dict drops dx) (G.spec T Z ghosts dict drops dx 𝓛 𝓜.mem 𝓡.returns) in
    let o = one (layout B) z.0.4.0 (((box.the_field_loose (param 0 T) Heap ghosts (param_laws 0 T L) heap.the_row_laws).lawful 𝓛).typed v z.0.4.0 are.0) in
    let y : k.Ghost = (((κ, (κ, tt)), (Share.left q, (Share.right q, tt)), tt, (v, tt), (o.0 ∷ [], tt)), tt) in
    qed 𝓛 (((‵ (flft κ q) ⊛ ‵ ftrue) ⊛ ‵ (fsep (B.own_val v z.0.4.0) ftrue)) ∷ (raw (fact 𝓤 (κ ⊑ T.lives)) ⊛ ‵ ftrue) ∷ []) ∵
    regoal ! (λ (us : List Val). prop (WpFn 𝓤 H 𝓣.C 𝓣.Λ fn us ((walk_of 𝓛 En stayed c).post z))) (λ i. o.1 i ++ []) refl $
    -- [the box; the token; what holds of the lifetime]
    split ! $ split ! $ move ! (2 ∷ []) $ rewrite ! 0 (λ (us : List Val). ‵ (fsep (B.own_val v us) ftrue)) o.1 refl $
    move ! (1 ∷ []) $ use1 𝓛 (‵ (flft κ (Share.left q)) ⊛ ‵ (flft κ (Share.right q)) ⊛ ‵ ftrue) (halves 𝓛 κ q) $ move ! (0 ∷ 1 ∷ []) $ join ! $
    move ! (2 ∷ []) $ use1 𝓛 (raw (fact 𝓤 (κ ⊑ T.lives)) ⊛ raw (fact 𝓤 (κ ⊑ Z.lives)) ⊛ ‵ ftrue) (lives 𝓛 κ q T.lives (emp 𝓤)) $
    keep ! (1 ∷ 0 ∷ []) $ join ! $ use1 𝓛 (raw (k.pre y)) (id⊢ 𝓤 _) $
    enter ! _ _ _ _ _ $ alloc_all ! (λ l. pass_all ! refl (o.2, tt) $
    sets ! (of_opd ! (get ! refl)) refl o.2 $
    calls_at ! (fm 𝓛 𝓜 𝓡) k (met 𝓤 𝓛 𝓜 𝓡 (code.calls-std_alloc::boxed::Box::into_raw 𝓡.env wired) T Z L LZ ghosts dict drops dx
    (allocator.passed 𝓡.env (code.calls-std_heap::GlobalAllocator::allocate 𝓡.env wired) (code.calls-std_heap::GlobalAllocator::deallocate 𝓡.env wired) (code.calls-std_heap::GlobalAllocator::grow 𝓡.env wired) (code.calls-std_heap::GlobalAllocator::shrink 𝓡.env wired) M 𝓤 𝓛 𝓜 𝓡)
    (glues "filuvamoth::Destruct++none::drop" 𝓡.env (code.calls-filuvamoth::Destruct++none::drop 𝓡.env wired) Z LZ M 𝓤 𝓛 𝓜 𝓡) glue) y (and_then ! (get ! refl) (no_more !)) (λ u.
    use1 𝓛 (later (some (λ (p : Ptr). ((‵ (flft κ (Share.left q)) ⊛ ‵ (flft κ (Share.right q)) ⊛ ‵ ftrue) ⊛ ‵ (RawPtr.own_val p (u ∷ []))) ⊛ some (λ (ws : Lasts Ended y.0.0 y.0.3). ‵ (lasts Ended y.0.0 y.0.3 ws) ⊛ ‵ (heap_owns (param 0 T) p v.value))))) (id⊢ 𝓤 (k.post y u)) $
    await ! tt $ pick ! (λ p. split ! $ split ! $ move ! (2 ∷ []) $ pick ! (λ ws. split ! $ drop ! $ move ! (2 ∷ []) $ feq_l ! (λ at.
    -- [what the pointer leads to; the token, in halves]
    lands_as ! (ap only at) refl (fits p) $
    sets ! (agg ! (and_then ! (get ! refl) (no_more !))) refl (word_fits p) $ returns ! (look_at ! 0 refl) $ free_all ! refl $ keep ! (0 ∷ 1 ∷ []) $
    suffices ! _ (ends_at 𝓛 En stayed c z (word p) (record { at = p; value = v.value }) (tt, tt) (tt, tt)) $ says ! refl $
    wraps 𝓛 ! p (heap_owns (param 0 T) p v.value) $ nothing ! $ nothing ! $ fjoin ! $ join ! $
    move ! (1 ∷ []) $ split3 ! $ use2 𝓛 (‵ (flft κ q)) (𝓛.lfts.lft_join κ q) $ join ! $ join ! $ done !))))))
