use Rattle.std.proofs.Common.{◌≡◌, refl, sym, ◌∙◌, ap, ℕ, ◌-◌, List, length}
use Rattle.std.specs.Prelude.{map, take, slice_get}
use Rattle.std.proofs.lemmas.List.{length-map}
use Rattle.scsw_irb.specs.declared.crw.Crw.{Crw}
use Rattle.channel_reports.specs.declared.Queued.{Queued}
use Rattle.channel_reports.specs.Queue.{WaitingReports, sixteenth_marked}
use Rattle.channel_reports.proofs.Marking.{marked-last}
use Rattle.channel_reports.proofs.Reports.mark_last.Goals as goal

pub returns-in-Some : goal.returns-in-Some
returns-in-Some c =
    let f : Queued → Crw = λ q. q.crw in
    let xs : List Queued = c.self.inside.queue.items in
    let sixteen : length xs ≡ 16 = sym (length-map xs f) ∙ (ap (λ (w : WaitingReports). length w.reports) c.self.view_is ∙ c.requires) in
    let rest : c.pop.new.self.items ≡ take 15 xs = c.pop.ensures.rest ∙ ap (λ (n : ℕ). take (n - 1) xs) sixteen in
    let found : slice_get xs 15 ≡ _ = ap (λ (n : ℕ). slice_get xs (n - 1)) (sym sixteen) ∙ (sym c.pop.ensures.value ∙ c.in-Some.is) in
    ap (λ (rs : List Crw). record { reports = rs; asked = c.self.inside.asked })
    (ap (map f) c.push.ensures.items ∙ marked-last f xs c.pop.new.self.items c.in-Some.last _ rest found refl)
    ∙ ap (λ (w : WaitingReports). record { reports = sixteenth_marked w.reports (slice_get w.reports 15); asked = w.asked }) c.self.view_is
