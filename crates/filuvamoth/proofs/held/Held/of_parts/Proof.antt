-- `of_parts` moves the pointer, and what it leads to goes with it.
use Rattle.std.proofs.Common.{[], ◌∷◌, refl, Some}
use base.Logic.{emp}
use base.Fml.{ftrue, fsep}
use types.Kit.{‵, raw, ◌⊛◌, ◌$◌, ◌∵◌, !, qed, done, drop, keep, split, join, fsplit, fjoin, suffices}
use types.Run.{enter, of_opd, stop, fld, no_more, and_then, returns}
use types.Part.{whole, sub, agg}
use types.ByLocal.{alloc_all, pass_all, free_all, look_at, get, get_in, sets}
use denote.Exit.{yes}
use denote.Signature.{plain}
use denote.Steps.{nothing}
use denote.Triple.Walked.{Stays, stay_dropped, Goes-dropped, says, ends_at}
use Rattle.std.proofs.raw_atomic.Walks.{proved}
use Rattle.host_machine.specs.contracts.host_machine.HostMachine.{the_row as R}
use Rattle.host_machine.proofs.host_machine.HostMachine.TheLaws.{the_row_laws as L}
use Rattle.filuvamoth.specs.Held.{heap_owns}
use Rattle.filuvamoth.proofs.Word.{word, fits, word_fits, wraps}
use Rattle.filuvamoth.specs.contracts.parts.Parts as Parts
use Rattle.filuvamoth.proofs.parts.Parts.TheLaws as parts
use Rattle.filuvamoth.specs.contracts.held.Held.of_parts as F
use Rattle.filuvamoth.proofs.held.Held.of_parts.Statement.{statement}
use Rattle.filuvamoth.proofs.held.Held.of_parts.Code as code

abbrev stayed : Stays F.ended.signature.params F.ended.kept
stayed = (stay_dropped _ yes, tt)

pub of_parts_spec : {M : Type 1} → statement M
of_parts_spec 𝓤 𝓛 𝓜 𝓡 wired =
    let c = F.clauses 𝓛 𝓜.mem 𝓡.returns in
    proved 𝓛 F.ended stayed c 𝓜 𝓡 (Goes-dropped 𝓛 0 (plain (λ _. Parts.the_row R)) yes (λ κs x f. refl), tt) F.Key.name code.function (code.unfolded 𝓤 𝓛.H 𝓜 𝓡 wired)
    (λ κs. ((λ d. word d.at ∷ []), tt)) (λ κs. ((parts.lowers R L).val_is, tt)) (λ κs qs bounds a g are.
    let p = a.0.at in
    qed 𝓛 ((‵ ftrue ⊛ ‵ (fsep ((Parts.the_row R).own_val a.0 (word p ∷ [])) ftrue)) ∷ raw (emp 𝓤) ∷ []) ∵ split ! $ drop ! $ fsplit ! $ fsplit ! $ keep ! (1 ∷ []) $
    enter ! _ _ _ _ _ $ alloc_all ! (λ l. pass_all ! refl (word_fits p, tt) $
    sets ! (of_opd ! (get_in ! (fld ! refl (stop !)) (sub ! 0 refl (whole !)))) refl (fits p) $
    sets ! (of_opd ! (get ! refl)) refl (fits p) $
    sets ! (agg ! (and_then ! (get ! refl) (no_more !))) refl (word_fits p) $
    returns ! (look_at ! 0 refl) $ free_all ! refl $ keep ! (0 ∷ []) $
    suffices ! _ (ends_at 𝓛 F.ended stayed c ((κs, qs, bounds, a, (word p ∷ [], tt)), g) (word p) (record { at = p; inside = Some a.0.value }) (tt, tt) (tt, tt)) $ says ! refl $
    wraps 𝓛 ! p (heap_owns R p a.0.value) $ nothing ! $ nothing ! $ fjoin ! $ join ! $ nothing ! $ join ! $ done !))
