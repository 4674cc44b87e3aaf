-- What waits follows the facts one by one.
use Rattle.std.proofs.Common.{◌≡◌, ◌∙◌, ◌+◌, ◌&&◌, ℕ, sym, ap, subst, List, [], ◌∷◌, ◌++◌, append-nil, append_assoc, take, Some}
use Rattle.std.specs.List.{flat_map}
use Rattle.std.specs.Prelude.{slice_get}
use Rattle.machine_sight.proofs.Seeing.{taken-more}
use Rattle.machine_sight.specs.Balance.{IsBalanced, IsFollowed, course_of, same_course, signal_of, signals_on}
use Rattle.machine_sight.specs.Waiting.{IsPut, IsTaken, WaitingQueues, same_wire, signal_where, waits_on}
use Rattle.machine_sight.specs.declared.balance.Course.{Course}
use Rattle.machine_sight.specs.declared.balance.Course.TheVariants.{Onto, Off, Aside}
use Rattle.step_records.specs.declared.record.Fact.TheVariants as fact
use Rattle.step_records.specs.declared.record.Moved.{Moved}
use Rattle.step_records.specs.declared.record.Record.{Record}
use Rattle.step_records.specs.declared.record.Signal.{Signal}
use Rattle.step_records.specs.declared.record.Wire.{Wire}

flat-push : (f : Record → List Signal) (rs : List Record) (r : Record) → flat_map f (rs ++ r ∷ []) ≡ flat_map f rs ++ f r
flat-push f [] r = append-nil (f r)
flat-push f (x ∷ rs) r = ap (λ (ss : List Signal). f x ++ ss) (flat-push f rs r) ∙ sym (append_assoc (f x) (flat_map f rs) (f r))

signals-push : (course : Course) (on : Wire) (rs : List Record) (r : Record) →
    signals_on course on (rs ++ r ∷ []) ≡ signals_on course on rs ++ signal_of course on r.fact
signals-push course on rs r = flat-push (λ (x : Record). signal_of course on x.fact) rs r

balanced-then : (a b c : List WaitingQueues) (rs : List Record) (r : Record) → IsBalanced a rs b → IsFollowed b r.fact c → IsBalanced a (rs ++ r ∷ []) c
balanced-then a b c rs r so is = λ on.
    let came = signals_on Onto on rs in let went = signals_on Off on rs in
    let onto = signal_of Onto on r.fact in let off = signal_of Off on r.fact in
    ap (λ (ss : List Signal). waits_on a on ++ ss) (signals-push Onto on rs r)
    ∙ (sym (append_assoc (waits_on a on) came onto)
    ∙ (ap (λ (ss : List Signal). ss ++ onto) (so on)
    ∙ (append_assoc went (waits_on b on) onto
    ∙ (ap (λ (ss : List Signal). went ++ ss) (is on)
    ∙ (sym (append_assoc went off (waits_on c on))
    ∙ ap (λ (ss : List Signal). ss ++ waits_on c on) (sym (signals-push Off on rs r)))))))

pub balanced_none : (a : List WaitingQueues) → IsBalanced a [] a
balanced_none a = λ on. append-nil (waits_on a on)

pub balanced_more : (a b c : List WaitingQueues) (records : List Record) (i : ℕ) (r : Record) → slice_get records i ≡ Some r →
    IsBalanced a (take i records) b → IsFollowed b r.fact c → IsBalanced a (take (i + 1) records) c
balanced_more a b c records i r there so is =
    subst (λ (rs : List Record). IsBalanced a rs c) (sym (taken-more records i r there)) (balanced-then a b c (take i records) r so is)

pub followed_put : (old new : List WaitingQueues) (wire : Wire) (moved : Moved) (s : Signal) → course_of moved ≡ Onto → IsPut old wire s new →
    IsFollowed old (fact.Signal wire moved s) new
followed_put old new wire moved s e h = λ on.
    ap (λ (c : Course). waits_on old on ++ signal_where (same_course c Onto && same_wire wire on) s) e
    ∙ (sym (h on)
    ∙ sym (ap (λ (c : Course). signal_where (same_course c Off && same_wire wire on) s ++ waits_on new on) e))

pub followed_taken : (old new : List WaitingQueues) (wire : Wire) (moved : Moved) (s : Signal) → course_of moved ≡ Off → IsTaken old wire s new →
    IsFollowed old (fact.Signal wire moved s) new
followed_taken old new wire moved s e h = λ on.
    ap (λ (c : Course). waits_on old on ++ signal_where (same_course c Onto && same_wire wire on) s) e
    ∙ (append-nil (waits_on old on)
    ∙ (h on
    ∙ sym (ap (λ (c : Course). signal_where (same_course c Off && same_wire wire on) s ++ waits_on new on) e)))

pub followed_aside : (old new : List WaitingQueues) (wire : Wire) (moved : Moved) (s : Signal) → course_of moved ≡ Aside → new ≡ old →
    IsFollowed old (fact.Signal wire moved s) new
followed_aside old new wire moved s e same = λ on.
    ap (λ (c : Course). waits_on old on ++ signal_where (same_course c Onto && same_wire wire on) s) e
    ∙ (append-nil (waits_on old on)
    ∙ (ap (λ (ws : List WaitingQueues). waits_on ws on) (sym same)
    ∙ sym (ap (λ (c : Course). signal_where (same_course c Off && same_wire wire on) s ++ waits_on new on) e)))
