-- A seat's log against the history, one entry after another.
use Rattle.std.proofs.Common.{◌≡◌, ◌≢◌, ℕ, zero, suc, ◌+◌, ◌<◌, ◌≤◌, Bool, true, false, List, [], ◌∷◌, length, get_or, drop, add-one, Some, refl, sym, ap, ◌∙◌, subst, eqb, eq-eqb, ne_eqb, arith, ◌-◌, length-drop, true≢false}
use Rattle.std.proofs.lemmas.Bool.{eqb-true}
use Rattle.std.proofs.lemmas.Option.{slice_get-get_or, same_Some}
use Rattle.std.specs.Prelude.{if◌then◌else◌, ◌==◌, ◌&&◌, ◌↔◌}
use Rattle.std.specs.List.{list_all}
use Rattle.std.specs.Bool.{IsTrue}
use Rattle.chan_events.specs.declared.event.Event.TheVariants.{SystemReset}
use Rattle.chan_events.specs.declared.reply.Reply.TheVariants.{Done}
use Rattle.chan_events.specs.declared.reply.Entry.{Entry}
use Rattle.event_log.specs.Logs.{HasSame}
use Rattle.event_log.proofs.Growing.{same_heads, same_rests}
use Rattle.core_lock.specs.Seats.{entries_by, entry}

-- an entry, where any will do
abbrev pub any_entry : Entry
any_entry = entry SystemReset Done

-- so far the log is what the history has: what is left of one is what is left of the other exactly where the whole is the whole
pub record Fits (number : ℕ) (by : List ℕ) (history log : List Entry) (index next : ℕ) : Type 0 where
  pub within : next ≤ length log
  pub there : entries_by number by history ≡ log → entries_by number (drop index by) (drop index history) ≡ drop next log
  pub back : entries_by number (drop index by) (drop index history) ≡ drop next log → entries_by number by history ≡ log

pub begins : (number : ℕ) (by : List ℕ) (history log : List Entry) → Fits number by history log 0 0
begins number by history log = record { within = omega arith; there = λ e. e; back = λ e. e }

-- the entries of what is left, with the next one in front
more_suc : (number : ℕ) (by : List ℕ) (history : List Entry) (index : ℕ) (d : Entry) → length by ≡ length history → index < length by
    → entries_by number (drop index by) (drop index history) ≡ (if get_or by index 0 == number then get_or history index d ∷ entries_by number (drop (suc index) by) (drop (suc index) history) else entries_by number (drop (suc index) by) (drop (suc index) history))
more_suc number [] history index d e lt = absurd (omega arith)
more_suc number (n ∷ by) [] index d e lt = absurd (omega arith)
more_suc number (n ∷ by) (h ∷ history) zero d e lt = refl
more_suc number (n ∷ by) (h ∷ history) (suc index) d e lt = more_suc number by history index d (omega arith) (omega arith)

more : (number : ℕ) (by : List ℕ) (history : List Entry) (index : ℕ) (d : Entry) → length by ≡ length history → index < length by
    → entries_by number (drop index by) (drop index history) ≡ (if get_or by index 0 == number then get_or history index d ∷ entries_by number (drop (index + 1) by) (drop (index + 1) history) else entries_by number (drop (index + 1) by) (drop (index + 1) history))
more number by history index d e lt = subst (λ k. entries_by number (drop index by) (drop index history) ≡ (if get_or by index 0 == number then get_or history index d ∷ entries_by number (drop k by) (drop k history) else entries_by number (drop k by) (drop k history))) (sym (add-one index)) (more_suc number by history index d e lt)

skipped : (number : ℕ) (by : List ℕ) (history : List Entry) (index : ℕ) (d : Entry) → length by ≡ length history → index < length by → get_or by index 0 ≢ number
    → entries_by number (drop index by) (drop index history) ≡ entries_by number (drop (index + 1) by) (drop (index + 1) history)
skipped number by history index d e lt ne =
    more number by history index d e lt ∙ ap (λ (b : Bool). if b then get_or history index d ∷ entries_by number (drop (index + 1) by) (drop (index + 1) history) else entries_by number (drop (index + 1) by) (drop (index + 1) history)) (ne_eqb _ _ ne)

found : (number : ℕ) (by : List ℕ) (history : List Entry) (index : ℕ) (d : Entry) → length by ≡ length history → index < length by → get_or by index 0 ≡ number
    → entries_by number (drop index by) (drop index history) ≡ get_or history index d ∷ entries_by number (drop (index + 1) by) (drop (index + 1) history)
found number by history index d e lt is =
    more number by history index d e lt ∙ ap (λ (b : Bool). if b then get_or history index d ∷ entries_by number (drop (index + 1) by) (drop (index + 1) history) else entries_by number (drop (index + 1) by) (drop (index + 1) history)) (eq-eqb _ _ is)

-- an entry of another seat
pub skips : (number : ℕ) (by : List ℕ) (history log : List Entry) (index next : ℕ) (d : Entry) → length by ≡ length history → index < length by → get_or by index 0 ≢ number → Fits number by history log index next → Fits number by history log (index + 1) next
skips number by history log index next d e lt ne f =
    let s = skipped number by history index d e lt ne in
    record { within = f.within; there = λ h. sym s ∙ f.there h; back = λ h. f.back (s ∙ h) }

at_drop_suc : (log : List Entry) (next : ℕ) (d : Entry) → next < length log → drop next log ≡ get_or log next d ∷ drop (suc next) log
at_drop_suc [] next d lt = absurd (omega arith)
at_drop_suc (x ∷ log) zero d lt = refl
at_drop_suc (x ∷ log) (suc next) d lt = at_drop_suc log next d (omega arith)

at_drop : (log : List Entry) (next : ℕ) (d : Entry) → next < length log → drop next log ≡ get_or log next d ∷ drop (next + 1) log
at_drop log next d lt = at_drop_suc log next d lt ∙ ap (λ k. get_or log next d ∷ drop k log) (sym (add-one next))

-- an entry of this seat, which the log has next
goes_on : (number : ℕ) (by : List ℕ) (history log : List Entry) (index next : ℕ) (d : Entry) → length by ≡ length history → index < length by → get_or by index 0 ≡ number → next < length log → get_or log next d ≡ get_or history index d → Fits number by history log index next → Fits number by history log (index + 1) (next + 1)
goes_on number by history log index next d e lt is here same f =
    let a = found number by history index d e lt is in
    let b = at_drop log next d here in
    let c : drop next log ≡ get_or history index d ∷ drop (next + 1) log = b ∙ ap (λ x. x ∷ drop (next + 1) log) same in
    record {
      within = omega arith;
      there = λ h. same_rests (get_or history index d) (get_or history index d) _ _ (sym a ∙ f.there h ∙ c);
      back = λ h. f.back (a ∙ ap (λ l. get_or history index d ∷ l) h ∙ sym c);
    }

-- an entry of this seat, where the whole log is what the history has
pub has_next : (number : ℕ) (by : List ℕ) (history log : List Entry) (index next : ℕ) (d : Entry) → length by ≡ length history → index < length by → get_or by index 0 ≡ number → Fits number by history log index next → entries_by number by history ≡ log → HasSame log next history index
has_next number by history log index next d e lt is f h =
    let left = sym (f.there h) ∙ found number by history index d e lt is in
    let n : length (drop next log) ≡ length log - next = length-drop next log in
    let l = ap length left in
    let here : next < length log = omega (arith, l, n) in
    let same = same_heads _ _ _ _ (sym (at_drop log next d here) ∙ left) in
    (here, slice_get-get_or log next d here ∙ ap Some same ∙ sym (slice_get-get_or history index d (omega (arith, e, lt))))

entries_nil : (number : ℕ) (by : List ℕ) → entries_by number by [] ≡ []
entries_nil number [] = refl
entries_nil number (n ∷ by) = refl

drop_all : (log : List Entry) (next : ℕ) → next ≡ length log → drop next log ≡ []
drop_all [] zero e = refl
drop_all [] (suc next) e = refl
drop_all (x ∷ log) zero e = absurd (omega arith)
drop_all (x ∷ log) (suc next) e = drop_all log next (omega arith)

nothing_left : (number : ℕ) (by : List ℕ) (history : List Entry) (index : ℕ) → length by ≤ index → entries_by number (drop index by) (drop index history) ≡ []
nothing_left number [] history zero le = refl
nothing_left number [] history (suc index) le = refl
nothing_left number (n ∷ by) history zero le = absurd (omega arith)
nothing_left number (n ∷ by) [] (suc index) le = entries_nil number (drop index by)
nothing_left number (n ∷ by) (h ∷ history) (suc index) le = nothing_left number by history index (omega arith)

-- at the end
pub ends_well : (number : ℕ) (by : List ℕ) (history log : List Entry) (index next : ℕ) → length by ≤ index → Fits number by history log index next → next ≡ length log → entries_by number by history ≡ log
ends_well number by history log index next le f e = f.back (nothing_left number by history index le ∙ sym (drop_all log next e))

pub ends_short : (number : ℕ) (by : List ℕ) (history log : List Entry) (index next : ℕ) → length by ≤ index → Fits number by history log index next → entries_by number by history ≡ log → next ≡ length log
ends_short number by history log index next le f h =
    let l = ap length (sym (nothing_left number by history index le) ∙ f.there h) in
    let n : length (drop next log) ≡ length log - next = length-drop next log in
    let w = f.within in
    omega (arith, l, n)

pub no_true : IsTrue false → ⊥
no_true t = true≢false (sym t)

whole : (number : ℕ) (by : List ℕ) (history log : List Entry) (index next : ℕ) → length by ≤ index → Fits number by history log index next → IsTrue (eqb next (length log)) → entries_by number by history ≡ log
whole number by history log index next le f t = ends_well number by history log index next le f (eqb-true next (length log) t)

short : (number : ℕ) (by : List ℕ) (history log : List Entry) (index next : ℕ) → length by ≤ index → Fits number by history log index next → entries_by number by history ≡ log → IsTrue (eqb next (length log))
short number by history log index next le f h = eq-eqb next (length log) (ends_short number by history log index next le f h)

pub goes_on_at : (number : ℕ) (by : List ℕ) (history log : List Entry) (index next : ℕ) (d : Entry) → length by ≡ length history → index < length by → get_or by index 0 ≡ number → HasSame log next history index → Fits number by history log index next → Fits number by history log (index + 1) (next + 1)
goes_on_at number by history log index next d e lt is (here, same) f =
    let there : index < length history = omega (arith, e, lt) in
    goes_on number by history log index next d e lt is here (same_Some _ _ (sym (slice_get-get_or log next d here) ∙ same ∙ slice_get-get_or history index d there)) f

-- at the end the log is whole exactly where all of it was passed
pub whole_where : (number : ℕ) (by : List ℕ) (history log : List Entry) (index next all : ℕ) → all ≡ length log → length by ≤ index → Fits number by history log index next → IsTrue (eqb next all) ↔ (entries_by number by history ≡ log)
whole_where number by history log index next all is le f =
    subst (λ (n : ℕ). IsTrue (eqb next n) ↔ (entries_by number by history ≡ log)) (sym is)
    (whole number by history log index next le f, short number by history log index next le f)

both_true : (a b : Bool) → (a && b) ≡ true → (a ≡ true) × (b ≡ true)
both_true true b e = (refl, e)
both_true false b e = absurd (true≢false (sym e))

-- all entries are of one seat
pub of_one_seat : (number : ℕ) (by : List ℕ) (history : List Entry) → length by ≡ length history → list_all (λ n. n == number) by ≡ true → entries_by number by history ≡ history
of_one_seat number [] [] e all = refl
of_one_seat number [] (h ∷ history) e all = absurd (omega arith)
of_one_seat number (n ∷ by) [] e all = absurd (omega arith)
of_one_seat number (n ∷ by) (h ∷ history) e all =
    let both = both_true (n == number) (list_all (λ m. m == number) by) all in
    ap (λ (b : Bool). if b then h ∷ entries_by number by history else entries_by number by history) both.0
    ∙ ap (λ (l : List Entry). h ∷ l) (of_one_seat number by history (omega arith) both.1)
