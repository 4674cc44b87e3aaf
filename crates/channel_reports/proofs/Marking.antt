-- The sixteenth report, in whatever the reports are kept.
use Rattle.std.proofs.Common.{◌≡◌, sym, ◌∙◌, ap, true, Some, List, [], ◌∷◌, ◌++◌}
use Rattle.std.specs.Prelude.{map, take, slice_get, option_map}
use Rattle.std.proofs.lemmas.List.{map-append, take-map}
use Rattle.std.proofs.lemmas.Option.{slice_get-map}
use Rattle.scsw_irb.specs.declared.crw.Crw.{Crw}
use Rattle.channel_reports.specs.Queue.{sixteenth_marked}

pub marked-last : {A : Type 0} (f : A → Crw) (xs front : List A) (last y : A) → front ≡ take 15 xs → slice_get xs 15 ≡ Some last → f y ≡ record (f last) { overflow = true } →
    map f (front ++ y ∷ []) ≡ sixteenth_marked (map f xs) (slice_get (map f xs) 15)
marked-last f xs front last y e g m =
    map-append f front (y ∷ [])
    ∙ (ap (λ (zs : List Crw). zs ++ f y ∷ []) (ap (map f) e ∙ sym (take-map f 15 xs))
    ∙ (ap (λ (c : Crw). take 15 (map f xs) ++ c ∷ []) m
    ∙ ap (sixteenth_marked (map f xs)) (sym (slice_get-map f xs 15 ∙ ap (option_map f) g))))
