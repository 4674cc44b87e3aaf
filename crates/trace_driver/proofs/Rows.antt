-- The rows of records, one more each time.
use Rattle.std.proofs.Common.{◌≡◌, ℕ, ◌+◌, ◌<◌, ◌≤◌, Bool, true, false, List, ◌++◌, drop, length, get_or, ap, sym, subst, ◌∙◌, arith}
use Rattle.std.proofs.lemmas.List.{at_drop_more, at_drop_all}
use Rattle.streams.specs.Sinks.{Seen, TakesText, FailsIn, Puts}
use Rattle.step_records.specs.declared.record.Record.{Record}
use Rattle.step_records.specs.declared.style.Drawing.{Drawing}
use Rattle.step_records.specs.declared.trace.Trace.{Trace}
use Rattle.trace_driver.specs.declared.driver.Unseen.{Unseen}
use Rattle.trace_driver.specs.Visible.{is_visible}
use Rattle.trace_driver.specs.Driver.{rows_text, row_text, after, is_event, gap_text, count}
use Rattle.trace_driver.proofs.Going.{Goes, goes_on, goes_as, fails_in, ends}

-- what is due of the records from the one of an index on
rows_more : (trace : Trace) (drawing : Drawing) (unseen : Unseen) (all : List Record) (i : ℕ) (d : Record) → i < length all → d ≡ get_or all i d
    → rows_text trace drawing unseen (drop i all)
    ≡ row_text trace drawing d unseen ++ rows_text trace drawing (after unseen (is_event d.fact) (is_visible trace.text d)) (drop (i + 1) all)
unfolding rows_text
rows_more trace drawing unseen all i d lt is =
    at_drop_more (rows_text trace drawing unseen) all i d lt
    ∙ ap (λ (r : Record). row_text trace drawing r unseen ++ rows_text trace drawing (after unseen (is_event r.fact) (is_visible trace.text r)) (drop (i + 1) all)) (sym is)

rows_end : (trace : Trace) (drawing : Drawing) (unseen : Unseen) (all : List Record) (i : ℕ) → length all ≤ i
    → rows_text trace drawing unseen (drop i all) ≡ gap_text drawing (count unseen)
unfolding rows_text
rows_end trace drawing unseen all i le = at_drop_all (rows_text trace drawing unseen) all i le

pub row_took : (o m n : Seen) (trace : Trace) (drawing : Drawing) (unseen next : Unseen) (all : List Record) (i : ℕ) (d : Record) (whole : List ℕ)
    → i < length all → d ≡ get_or all i d → next ≡ after unseen (is_event d.fact) (is_visible trace.text d)
    → Goes o m (rows_text trace drawing unseen (drop i all)) whole → TakesText m (row_text trace drawing d unseen) n
    → Goes o n (rows_text trace drawing next (drop (i + 1) all)) whole
row_took o m n trace drawing unseen next all i d whole lt is e g t =
    goes_as o n _ _ whole (ap (λ (u : Unseen). rows_text trace drawing u (drop (i + 1) all)) (sym e))
    (goes_on o m n _ _ whole (goes_as o m _ _ whole (rows_more trace drawing unseen all i d lt is) g) t)

pub row_failed : (o m n : Seen) (trace : Trace) (drawing : Drawing) (unseen : Unseen) (all : List Record) (i : ℕ) (d : Record) (whole : List ℕ)
    → i < length all → d ≡ get_or all i d
    → Goes o m (rows_text trace drawing unseen (drop i all)) whole → FailsIn m (row_text trace drawing d unseen) n → Puts o whole n false
row_failed o m n trace drawing unseen all i d whole lt is g f =
    fails_in o m n _ _ whole (goes_as o m _ _ whole (rows_more trace drawing unseen all i d lt is) g) f

pub rows_ended : (o m n : Seen) (trace : Trace) (drawing : Drawing) (unseen : Unseen) (all : List Record) (i : ℕ) (whole : List ℕ) (r : Bool) → length all ≤ i
    → Goes o m (rows_text trace drawing unseen (drop i all)) whole → Puts m (gap_text drawing (count unseen)) n r → Puts o whole n r
rows_ended o m n trace drawing unseen all i whole r le g p =
    ends o m n _ whole r (goes_as o m _ _ whole (rows_end trace drawing unseen all i le) g) p

-- no more events are counted than records were met
few_after : (unseen : Unseen) (event seen : Bool) (i : ℕ) → count unseen ≤ i → count (after unseen event seen) ≤ i + 1
few_after unseen event true i le = omega arith
few_after unseen true false i le = omega (arith, le)
few_after unseen false false i le = omega (arith, le)

pub few_more : (unseen next : Unseen) (event seen : Bool) (i : ℕ) → next ≡ after unseen event seen → count unseen ≤ i → count next ≤ i + 1
few_more unseen next event seen i e le = subst (λ (u : Unseen). count u ≤ i + 1) (sym e) (few_after unseen event seen i le)
