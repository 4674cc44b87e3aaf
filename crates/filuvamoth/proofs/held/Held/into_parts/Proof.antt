-- `into_parts` moves the pointer, and what it leads to goes with it: there is something, as it requires.
use Rattle.std.proofs.Common.{◌≡◌, true, [], ◌∷◌, refl, is_some}
use contract.Monad.{fact}
use base.Fml.{ftrue, fsep}
use types.Kit.{‵, raw, ◌⊛◌, ◌$◌, ◌∵◌, !, qed, done, move, drop, keep, rewrite, split, join, fsplit, fjoin, suffices}
use types.Run.{enter, of_opd, stop, fld, no_more, and_then, returns}
use types.Part.{whole, sub, agg}
use types.ByLocal.{alloc_all, pass_all, free_all, look_at, get, get_in, sets}
use denote.Exit.{yes}
use denote.Signature.{plain}
use denote.Steps.{nothing, heard}
use denote.Triple.Walked.{Stays, stay_dropped, Goes-dropped, says, ends_at}
use Rattle.std.proofs.raw_atomic.Walks.{proved}
use Rattle.host_machine.specs.contracts.host_machine.HostMachine.{the_row as R}
use Rattle.filuvamoth.specs.Held.{heap_owns, held_owns}
use Rattle.filuvamoth.proofs.Word.{word, fits, word_fits, wraps, present}
use Rattle.filuvamoth.specs.contracts.held.Held as Held
use Rattle.filuvamoth.proofs.held.Held.TheLaws as held
use Rattle.filuvamoth.specs.contracts.held.Held.into_parts as F
use Rattle.filuvamoth.proofs.held.Held.into_parts.Statement.{statement}
use Rattle.filuvamoth.proofs.held.Held.into_parts.Code as code

abbrev stayed : Stays F.ended.signature.params F.ended.kept
stayed = (stay_dropped _ yes, tt)

pub into_parts_spec : {M : Type 1} → statement M
into_parts_spec 𝓤 𝓛 𝓜 𝓡 wired =
    let c = F.clauses 𝓛 𝓜.mem 𝓡.returns in
    proved 𝓛 F.ended stayed c 𝓜 𝓡 (Goes-dropped 𝓛 0 (plain (λ _. Held.the_row)) yes (λ κs x f. refl), tt) F.Key.name code.function (code.unfolded 𝓤 𝓛.H 𝓜 𝓡 wired)
    (λ κs. ((λ d. word d.at ∷ []), tt)) (λ κs. (held.lowers.val_is, tt)) (λ κs qs bounds a g are.
    let p = a.0.at in
    qed 𝓛 ((‵ ftrue ⊛ ‵ (fsep ((Held.the_row).own_val a.0 (word p ∷ [])) ftrue)) ∷ raw (fact 𝓤 (is_some a.0.inside ≡ true)) ∷ []) ∵ move ! (1 ∷ []) $ heard ! _ (λ some. let got = present a.0.inside some in
    split ! $ drop ! $ fsplit ! $ fsplit ! $ keep ! (1 ∷ []) $ rewrite ! 0 (λ i. ‵ (held_owns p i)) got.1 refl $
    enter ! _ _ _ _ _ $ alloc_all ! (λ l. pass_all ! refl (word_fits p, tt) $
    sets ! (of_opd ! (get_in ! (fld ! refl (stop !)) (sub ! 0 refl (whole !)))) refl (fits p) $
    sets ! (of_opd ! (get ! refl)) refl (fits p) $
    sets ! (agg ! (and_then ! (get ! refl) (no_more !))) refl (word_fits p) $
    returns ! (look_at ! 0 refl) $ free_all ! refl $ keep ! (0 ∷ []) $
    suffices ! _ (ends_at 𝓛 F.ended stayed c ((κs, qs, bounds, a, (word p ∷ [], tt)), g) (word p) (record { at = p; value = got.0 }) (tt, tt) (tt, tt)) $ says ! got.1 $
    wraps 𝓛 ! p (heap_owns R p got.0) $ nothing ! $ nothing ! $ fjoin ! $ join ! $ nothing ! $ join ! $ done !)))
