-- What is counted of the instructions of one CPU.
use Rattle.std.proofs.Common.{◌≡◌, ◌≤◌, ◌<◌, ℕ, ◌+◌, Bool, true, List, [], ◌∷◌, ◌++◌, length, Option, None, Some, Ok, Err, Result, refl, sym, ap, subst, ◌∙◌, append_assoc, length-append, arith}
use Rattle.std.specs.Prelude.{IsTrue, ◌↔◌, MatchResult}
use Rattle.chan_events.specs.declared.reply.Entry.{Entry}
use Rattle.chan_events.specs.Replies.{Reply}
use Rattle.chan_model.specs.declared.answer.ConditionCode.{ConditionCode}
use Rattle.chan_model.specs.declared.answer.ConditionCode.TheVariants.{Zero, One, Two, Three}
use Rattle.chan_model.specs.declared.fault.Fault.{Fault}
use Rattle.core_lock.specs.Entering.{entered}
use Rattle.core_lock.specs.Seats.{Seated, entry}
use Rattle.script_rows.specs.declared.race.Race.{Race}
use Rattle.script_runner.specs.declared.tally.Tally.{Tally}
use Rattle.script_runner.specs.Race.{tested, code_in, no_tally, counted, tally_after, tally_of, AreTests, IsBelow, HasTested}

-- one entry more
tally-more : (t : Tally) (log : List Entry) (e : Entry) → tally_of t (log ++ e ∷ []) ≡ counted (tally_of t log) (code_in e.reply)
tally-more t [] e = refl
tally-more t (x ∷ log) e = tally-more (counted t (code_in x.reply)) log e

tests-more : (race : Race) (cpu : ℕ) (log : List Entry) (e : Entry) → AreTests race cpu log → e.event ≡ tested race cpu → AreTests race cpu (log ++ e ∷ [])
tests-more race cpu [] e h is = (is, tt)
tests-more race cpu (x ∷ log) e h is = (h.0, tests-more race cpu log e h.1 is)

length-more : (log : List Entry) (e : Entry) → length (log ++ e ∷ []) ≡ length log + 1
length-more log e = length-append log (e ∷ [])

-- what is counted does not depend on whether an instruction was refused
counted-apart : (t : Tally) (b : Bool) (c : Option ConditionCode) → counted (record t { refused = b }) c ≡ record (counted t c) { refused = b }
counted-apart t b None = refl
counted-apart t b (Some Zero) = refl
counted-apart t b (Some One) = refl
counted-apart t b (Some Two) = refl
counted-apart t b (Some Three) = refl

counted-refused : (t : Tally) (c : Option ConditionCode) → (counted t c).refused ≡ t.refused
counted-refused t None = refl
counted-refused t (Some Zero) = refl
counted-refused t (Some One) = refl
counted-refused t (Some Two) = refl
counted-refused t (Some Three) = refl

-- bounds
counted-below : (t : Tally) (c : Option ConditionCode) (n : ℕ) → IsBelow n t → IsBelow (n + 1) (counted t c)
counted-below t None n h = (omega arith, omega arith)
counted-below t (Some Zero) n h = (omega arith, omega arith)
counted-below t (Some One) n h = (omega arith, omega arith)
counted-below t (Some Two) n h = (omega arith, omega arith)
counted-below t (Some Three) n h = (omega arith, omega arith)

tally-below : (t : Tally) (log : List Entry) (n : ℕ) → IsBelow n t → IsBelow (n + length log) (tally_of t log)
tally-below t [] n h = (h.0, omega arith)
tally-below t (e ∷ log) n h =
    let rest = tally-below (counted t (code_in e.reply)) log (n + 1) (counted-below t (code_in e.reply) n h) in
    (rest.0, omega arith)

pub tested_below : (race : Race) (cpu n : ℕ) (old new : List Entry) (t : Tally) → HasTested race cpu n old new t → IsBelow (n + 1) t
tested_below race cpu n old new t h =
    let b = tally-below no_tally h.more 1 (omega arith, omega arith) in
    subst (IsBelow (n + 1)) (sym h.counts) (b.0, within (tally_of no_tally h.more).entries (length h.more) n b.1 h.most)
  where
    within : (a l n : ℕ) → a < 1 + l → l ≤ n → a < n + 1
    within a l n x y = omega arith

rises : (b : Bool) (l m n : ℕ) → IsTrue b ↔ (l < n) → m ≡ l + 1 → IsTrue b ↔ (m < n + 1)
rises b l m n h is = ((λ e. less m l n (h.0 e) is), (λ lt. h.1 (back m l n lt is)))
  where
    less : (m l n : ℕ) → l < n → m ≡ l + 1 → m < n + 1
    less m l n a b = omega arith

    back : (m l n : ℕ) → m < n + 1 → m ≡ l + 1 → l < n
    back m l n a b = omega arith

tested_more : (race : Race) (cpu n : ℕ) (old new after : List Entry) (t : Tally) (e : Entry) → HasTested race cpu n old new t → e.event ≡ tested race cpu
    → after ≡ new ++ e ∷ [] → HasTested race cpu (n + 1) old after (counted t (code_in e.reply))
tested_more race cpu n old new after t e h is grown =
    let c = code_in e.reply in
    let all = tally_of no_tally h.more in
    record {
      more = h.more ++ e ∷ [];
      log = grown ∙ ap (λ (l : List Entry). l ++ e ∷ []) h.log ∙ append_assoc old h.more (e ∷ []);
      tests = tests-more race cpu h.more e h.tests is;
      most = reach (length (h.more ++ e ∷ [])) (length h.more) n (length-more h.more e) h.most;
      counts =
          ap (λ (x : Tally). counted x c) h.counts
          ∙ counted-apart all t.refused c
          ∙ ap (λ (x : Tally). record x { refused = t.refused }) (sym (tally-more no_tally h.more e))
          ∙ ap (λ (b : Bool). record (tally_of no_tally (h.more ++ e ∷ [])) { refused = b }) (sym (counted-refused t c));
      refused = subst (λ (b : Bool). IsTrue b ↔ (length (h.more ++ e ∷ []) < n + 1)) (sym (counted-refused t c))
          (rises t.refused (length h.more) (length (h.more ++ e ∷ [])) n h.refused (length-more h.more e));
    }
  where
    reach : (m l n : ℕ) → m ≡ l + 1 → l ≤ n → m ≤ n + 1
    reach m l n a b = omega arith

tested_refused : (race : Race) (cpu n : ℕ) (old new after : List Entry) (t : Tally) → HasTested race cpu n old new t → after ≡ new
    → HasTested race cpu (n + 1) old after (record t { refused = true })
tested_refused race cpu n old new after t h same = record {
  more = h.more;
  log = same ∙ h.log;
  tests = h.tests;
  most = later (length h.more) n h.most;
  counts = ap (λ (x : Tally). record x { refused = true }) h.counts;
  refused = ((λ e. least (length h.more) n h.most), (λ lt. refl));
}
  where
    later : (l n : ℕ) → l ≤ n → l ≤ n + 1
    later l n a = omega arith

    least : (l n : ℕ) → l ≤ n → l < n + 1
    least l n a = omega arith

-- one instruction, whatever it came to
pub tested_once : (race : Race) (cpu n : ℕ) (old : List Entry) (seat after : Seated) (t : Tally) (r : Result Reply Fault)
    → HasTested race cpu n old seat.log t
    → MatchResult r (λ reply. after ≡ entered seat (tested race cpu) reply) (λ f. after ≡ seat)
    → HasTested race cpu (n + 1) old after.log (tally_after t r)
tested_once race cpu n old seat after t (Ok reply) h is =
    tested_more race cpu n old seat.log after.log t (entry (tested race cpu) reply) h refl (ap (λ (s : Seated). s.log) is)
tested_once race cpu n old seat after t (Err f) h is = tested_refused race cpu n old seat.log after.log t h (ap (λ (s : Seated). s.log) is)

-- few instructions are counted
pub few : (n m : ℕ) (t : Tally) → IsBelow (n + 1) t → n < m → IsBelow m t
few n m t h lt = (h.0, below t.entries n m h.1 lt)
  where
    below : (a n m : ℕ) → a < n + 1 → n < m → a < m
    below a n m x y = omega arith
