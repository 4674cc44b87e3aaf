-- Whether a Choose is answered Idle depends on whether there is a path to choose, and not on which is chosen.
use Rattle.std.proofs.Common.{◌≡◌, refl, sym, ◌∙◌, ap, subst, ℕ, zero, suc, ◌+◌, ◌<◌, ◌%◌, Bool, true, false, not, arith, Option, None, Some, is_some, Result, Ok, Err, List, [], ◌∷◌, if◌then◌else◌}
use Rattle.std.specs.Prelude.{◌≢◌, IfOk, MatchResult, slice_get}
use Rattle.std.proofs.Math.Nat.{mod-eq_of_lt}
use Rattle.std.proofs.lemmas.Option.{get_or_from_slice_get, same_Some}
use Rattle.chan_model.specs.PathSets.{is_member}
use Rattle.path_select.specs.Choice.{IsChoice, IsUsable}
use Rattle.chan_model.specs.declared.fault.Fault.{Fault}
use Rattle.chan_model.specs.declared.fault.Fault.TheVariants.{WireFull}
use Rattle.chan_events.specs.declared.event.Event.TheVariants as event
use Rattle.chan_events.specs.Replies.{Reply}
use Rattle.chan_events.specs.declared.reply.Reply.TheVariants as reply
use Rattle.subchannel_model.specs.declared.state.Chosen.{Chosen}
use Rattle.subchannel_model.specs.declared.state.Chosen.TheVariants.{Idle}
use Rattle.subchannel_model.specs.declared.state.Subchannel.{Subchannel}
use Rattle.subchannel_model.specs.Choosing.{chosen, marked_sub, paths_to_choose}
use Rattle.subchannel_model.specs.Indices.{sub_at}
use Rattle.subchannel_model.specs.Losing.{path_index}
use Rattle.machine_model.specs.ChooseSteps.{choose_sub}
use Rattle.chan_model.specs.PathSets.{cyclic_path}
use Rattle.machine_model.specs.State.{State, sub_of}
use Rattle.machine_model.specs.Steps.{Step}
use Rattle.machine_model.specs.Results.{SubResult}
use Rattle.step_laws.proofs.Choices.{IsToldBy, choice-told, idle-whichever}
use Rattle.step_laws.proofs.Results as turn
use Rattle.step_laws.proofs.Results.{HasResult, ResultOf, step-turn}
use Rattle.signal_step.specs.PathTurns.{has_to_choose, is_idle, lowest_path, path_turn_of, turn_at, turn_by, turn_on, waits_up}

-- the first path of a set, in cyclic order, is a path of it, and there is one where the set has any
found-by : (paths : List Bool) (n from q : ℕ) (here : Bool) → is_member paths (from % 8) ≡ here → cyclic_path paths (suc n) from ≡ Some q →
    (cyclic_path paths n (from + 1) ≡ Some q → (is_member paths q ≡ true) × (q < 8)) → (is_member paths q ≡ true) × (q < 8)
found-by paths n from q true h e later =
    let same : from % 8 ≡ q = same_Some (from % 8) q (sym (ap (λ (b : Bool). if b then Some (from % 8) else cyclic_path paths n (from + 1)) h) ∙ e) in
    (subst (λ (k : ℕ). is_member paths k ≡ true) same h, omega (arith, same))
found-by paths n from q false h e later = later (sym (ap (λ (b : Bool). if b then Some (from % 8) else cyclic_path paths n (from + 1)) h) ∙ e)

pub found-member : (paths : List Bool) (n from q : ℕ) → cyclic_path paths n from ≡ Some q → (is_member paths q ≡ true) × (q < 8)
found-member paths zero from q e = absurd (cc e)
found-member paths (suc n) from q e = found-by paths n from q (is_member paths (from % 8)) refl e (λ f. found-member paths n (from + 1) q f)

member-by : (paths : List Bool) (n from k : ℕ) (here : Bool) → is_member paths (from % 8) ≡ here → is_member paths ((from + k) % 8) ≡ true →
    ((j : ℕ) → k ≡ suc j → is_some (cyclic_path paths n (from + 1)) ≡ true) → is_some (cyclic_path paths (suc n) from) ≡ true
member-by paths n from k true h e later = ap (λ (b : Bool). is_some (if b then Some (from % 8) else cyclic_path paths n (from + 1))) h
member-by paths n from zero false h e later =
    let same : (from + 0) % 8 ≡ from % 8 = ap (λ (k : ℕ). k % 8) (omega arith) in
    absurd (cc (sym h ∙ (sym (ap (is_member paths) same) ∙ e)))
member-by paths n from (suc j) false h e later =
    ap (λ (b : Bool). is_some (if b then Some (from % 8) else cyclic_path paths n (from + 1))) h ∙ later j refl

member-found : (paths : List Bool) (n from k : ℕ) → k < n → is_member paths ((from + k) % 8) ≡ true → is_some (cyclic_path paths n from) ≡ true
member-found paths zero from k less e = absurd (omega (arith, less))
member-found paths (suc n) from k less e =
    member-by paths n from k (is_member paths (from % 8)) refl e
    (λ j is. member-found paths n (from + 1) j (omega (arith, less, is)) (ap (λ (m : ℕ). is_member paths (m % 8)) (omega (arith, is)) ∙ e))

member-get : (set : List Bool) (q : ℕ) → is_member set q ≡ true → slice_get set q ≡ Some true
member-get [] q e = absurd (cc e)
member-get (x ∷ xs) zero e = ap Some e
member-get (x ∷ xs) (suc q) e = member-get xs q e

usable-found : (paths : List Bool) (p : ℕ) → IsUsable paths p → is_some (lowest_path paths) ≡ true
usable-found paths p u =
    let same : (0 + p) % 8 ≡ p = ap (λ (k : ℕ). k % 8) (omega arith) ∙ mod-eq_of_lt u.0 in
    member-found paths 8 0 p u.0 (ap (is_member paths) same ∙ get_or_from_slice_get paths p true false u.1)

-- the lowest path may be chosen, where there is one; and whichever is, it is found whether there is anything to do
lowest-choice : (paths : List Bool) (low : Option ℕ) → lowest_path paths ≡ low → IsChoice paths low
lowest-choice paths None e = λ p usable. absurd (cc (sym (usable-found paths p usable) ∙ ap is_some e))
lowest-choice paths (Some q) e = let found = found-member paths 8 0 q e in (found.1, member-get paths q found.0)

idle-is : (what : Chosen) → is_idle what ≡ true → what ≡ Idle
idle-is Idle e = refl
idle-is what e = absurd (cc e)

told-in : (what : Chosen) (Q : Reply → Type 0) (x : Result SubResult Fault) → MatchResult x (λ t. IsToldBy what t.reply) (λ f. f ≡ WireFull) →
    ((r : Reply) → IsToldBy what r → Q r) → IfOk x (λ t. Q t.reply)
told-in what Q (Ok t) told q = q t.reply told
told-in what Q (Err f) told q = tt

-- what holds of the reply to each lawful choice holds of the reply of the step
abbrev HoldsOfEach : (Reply → Type 0) → State → Subchannel → Type 0
HoldsOfEach Q s sub = (choice : Option ℕ) → IsChoice (paths_to_choose s.subs sub) choice → IfOk (choose_sub (marked_sub sub choice) (chosen sub choice)) (λ t. Q t.reply)

on-turn : (Q : Reply → Type 0) (s : State) (word : ℕ) (sub : Subchannel) (r : Reply) (left : State) → sub_of s word ≡ Some sub → HoldsOfEach Q s sub →
    ResultOf s (event.Choose word) r left → Q r
on-turn Q s word sub _ _ here each (turn.Chosen _ index found choice t named there is ok) =
    let same : sub ≡ found = same_Some sub found (sym here ∙ (ap (sub_at s.subs) named ∙ there)) in
    subst (λ (x : Result SubResult Fault). IfOk x (λ t. Q t.reply)) ok (subst (λ (x : Subchannel). HoldsOfEach Q s x) same each choice is)

on-step : (Q : Reply → Type 0) (s : State) (word : ℕ) (sub : Subchannel) (r : Reply) (new : State) → sub_of s word ≡ Some sub → HoldsOfEach Q s sub →
    Step s (event.Choose word) r new → Q r
on-step Q s word sub r new here each step =
    let is : HasResult s (event.Choose word) r new = step-turn s (event.Choose word) r new step in
    on-turn Q s word sub r is.left here each is.turn

not-true : (b : Bool) → not b ≡ true → b ≡ false
not-true true e = absurd (cc e)
not-true false e = refl

not-false : (b : Bool) → not b ≡ false → b ≡ true
not-false true e = refl
not-false false e = absurd (cc e)

busy-step : (s : State) (word : ℕ) (sub : Subchannel) (r : Reply) (new : State) → sub_of s word ≡ Some sub → has_to_choose s.subs sub ≡ true →
    Step s (event.Choose word) r new → r ≢ reply.Idle
busy-step s word sub r new here owed =
    let paths : List Bool = paths_to_choose s.subs sub in
    on-step (λ x. x ≢ reply.Idle) s word sub r new here
    (λ choice x. told-in (chosen sub choice) (λ y. y ≢ reply.Idle) (choose_sub (marked_sub sub choice) (chosen sub choice))
    (choice-told (marked_sub sub choice) (chosen sub choice))
    (λ y told g.
    let idle : is_idle (chosen sub (lowest_path paths)) ≡ true =
    ap is_idle (idle-whichever sub paths choice (lowest_path paths) x (lowest-choice paths (lowest_path paths) refl) (told.0 g)) in
    cc (sym idle ∙ not-true (is_idle (chosen sub (lowest_path paths))) owed)))

idle-step : (s : State) (word : ℕ) (sub : Subchannel) (r : Reply) (new : State) → sub_of s word ≡ Some sub → has_to_choose s.subs sub ≡ false →
    Step s (event.Choose word) r new → r ≡ reply.Idle
idle-step s word sub r new here owed =
    let paths : List Bool = paths_to_choose s.subs sub in
    on-step (λ x. x ≡ reply.Idle) s word sub r new here
    (λ choice x. told-in (chosen sub choice) (λ y. y ≡ reply.Idle) (choose_sub (marked_sub sub choice) (chosen sub choice))
    (choice-told (marked_sub sub choice) (chosen sub choice))
    (λ y told. told.1 (idle-whichever sub paths (lowest_path paths) choice (lowest-choice paths (lowest_path paths) refl) x
    (idle-is (chosen sub (lowest_path paths)) (not-false (is_idle (chosen sub (lowest_path paths))) owed)))))

-- what a turn gives, and when it gives nothing
record Gives (subs : List Subchannel) (o : Option Subchannel) (word asked : ℕ) : Type 0 where
  sub : Subchannel
  here : o ≡ Some sub
  owed : has_to_choose subs sub ≡ true
  same : word ≡ asked

by-chooses : (waits owed : Bool) (word path asked : ℕ) → turn_by waits owed word path ≡ Some (event.Choose asked) → (owed ≡ true) × (word ≡ asked)
by-chooses true owed word path asked e = absurd (cc e)
by-chooses false true word path asked e = (refl, cc e)
by-chooses false false word path asked e = absurd (cc e)

on-chooses : (subs : List Subchannel) (sub : Subchannel) (word asked : ℕ) (p : Option ℕ) → turn_on subs sub word p ≡ Some (event.Choose asked) →
    (has_to_choose subs sub ≡ true) × (word ≡ asked)
on-chooses subs sub word asked None e = absurd (cc e)
on-chooses subs sub word asked (Some path) e = by-chooses (waits_up sub path) (has_to_choose subs sub) word path asked e

at-chooses : (subs : List Subchannel) (o : Option Subchannel) (word chpid asked : ℕ) → turn_at subs o word chpid ≡ Some (event.Choose asked) → Gives subs o word asked
at-chooses subs None word chpid asked e = absurd (cc e)
at-chooses subs (Some sub) word chpid asked e =
    let gives = on-chooses subs sub word asked (path_index chpid sub.setup.paths) e in
    record { sub = sub; here = refl; owed = gives.0; same = gives.1 }

pub turn-chooses : (s : State) (word chpid asked : ℕ) (r : Reply) (new : State) → path_turn_of s word chpid ≡ Some (event.Choose asked) →
    Step s (event.Choose asked) r new → r ≢ reply.Idle
turn-chooses s word chpid asked r new e step =
    let gives = at-chooses s.subs (sub_of s word) word chpid asked e in
    busy-step s word gives.sub r new gives.here gives.owed (subst (λ (n : ℕ). Step s (event.Choose n) r new) (sym gives.same) step)

by-rests : (waits owed : Bool) (word path : ℕ) → turn_by waits owed word path ≡ None → owed ≡ false
by-rests true owed word path e = absurd (cc e)
by-rests false true word path e = absurd (cc e)
by-rests false false word path e = refl

pub turn-rests : (s : State) (word chpid path : ℕ) (sub : Subchannel) (r : Reply) (new : State) → sub_of s word ≡ Some sub →
    path_index chpid sub.setup.paths ≡ Some path → path_turn_of s word chpid ≡ None → Step s (event.Choose word) r new → r ≡ reply.Idle
turn-rests s word chpid path sub r new here there e step =
    let on : turn_on s.subs sub word (Some path) ≡ None =
    sym (ap (turn_on s.subs sub word) there) ∙ (sym (ap (λ (o : Option Subchannel). turn_at s.subs o word chpid) here) ∙ e) in
    idle-step s word sub r new here (by-rests (waits_up sub path) (has_to_choose s.subs sub) word path on) step
