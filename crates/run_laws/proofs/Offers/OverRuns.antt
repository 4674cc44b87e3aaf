-- After each step an offer that is over by what was seen is over, and each other goes ahead.
use Rattle.std.proofs.Common.{◌≡◌, refl, sym, ◌∙◌, ap, subst, ℕ, ◌||◌, Bool, true, false, Option, None, Some, Result, List, inl, inr}
use Rattle.std.specs.Prelude.{if◌then◌else◌, slice_get, slice_set, IfOk}
use Rattle.std.proofs.lemmas.Bool.{eq-eqb}
use Rattle.schib_block.specs.declared.pmcw.Pmcw as block
use Rattle.chan_model.specs.declared.answer.Answer.TheVariants as answer
use Rattle.chan_model.specs.declared.answer.ConditionCode.{ConditionCode}
use Rattle.chan_model.specs.declared.answer.ConditionCode.TheVariants as code
use Rattle.chan_model.specs.declared.fault.Fault.{Fault}
use Rattle.chan_model.specs.declared.unit_state.UnitState.{UnitState}
use Rattle.chan_model.specs.ResetCauses.{is_path}
use Rattle.chan_model.specs.UnitReports.{unit_reports}
use Rattle.chan_events.specs.Events.{Event}
use Rattle.chan_events.specs.declared.event.Event.TheVariants as event
use Rattle.chan_events.specs.declared.event.Instruction.TheVariants as instruction
use Rattle.chan_events.specs.Replies.{Reply}
use Rattle.chan_events.specs.declared.reply.Reply.TheVariants as reply
use Rattle.subchannel_model.specs.declared.state.Subchannel.{Subchannel}
use Rattle.subchannel_model.specs.declared.state.SubchannelState.{SubchannelState}
use Rattle.subchannel_model.specs.declared.status.Condition.{Condition}
use Rattle.subchannel_model.specs.Cancel.{cancelled, xsch_code}
use Rattle.subchannel_model.specs.Clear.{cleared}
use Rattle.subchannel_model.specs.Conditions.{condition_of, left_by}
use Rattle.subchannel_model.specs.Halt.{halted, hsch_code}
use Rattle.subchannel_model.specs.Modify.{modified_state}
use Rattle.subchannel_model.specs.Indices.{Found, index_in, index_of_id, found_at}
use Rattle.subchannel_model.specs.Resume.{resumed}
use Rattle.subchannel_model.specs.Start.{started}
use Rattle.subchannel_model.specs.Test.{ends_suspended, tested_wholly, tsch_code}
use Rattle.chan_events.specs.Instructions.{subchannel_word}
use Rattle.machine_model.specs.InstructionSteps.{function_sub, test_with, code_at}
use Rattle.machine_model.specs.PathSteps.{swept}
use Rattle.machine_model.specs.State.{State, index_of}
use Rattle.machine_model.specs.Steps.{Step}
use Rattle.machine_model.specs.Results.{SubResult, UpResult, DownResult, with_state}
use Rattle.step_laws.specs.Walks as walked
use Rattle.step_laws.specs.Walks.{Walked, Function, Resumes, Clears, Cancels, effect_of, instruction_of, OneSub, OneUnit}
use Rattle.step_laws.proofs.Indices.{set-get, map-get, found-there}
use Rattle.run_laws.specs.BeginsItsOwn.{is_code_zero, over_by, over_chosen}
use Rattle.run_laws.proofs.Signals.OwnSteps.{IsApart, down-apart, step-apart, act-apart}
use Rattle.run_laws.proofs.Signals.OwnRuns.{Answered, Unfound, There, halt-answered, cancel-answered}
use Rattle.run_laws.specs.ProgramTold.{over_tested, over_after}
use Rattle.run_laws.proofs.Offers.Starting as starting_step
use Rattle.run_laws.proofs.Offers.Overs.{Owned, same-tied, reset-tied, halt-owned, cancel-owned, start-owned, test-owned, resume-just, IsTurn, chosen-owned, up-owned, same-just, swept-owned, not-eqb}
use Rattle.step_laws.proofs.Executed.{IsDone, reply_of}
use Rattle.step_laws.proofs.Results as turn
use Rattle.step_laws.proofs.Results.{ResultOf, HasResult, step-turn}

-- at an index
abbrev pub OwnedAt : Bool → List Subchannel → ℕ → Type 0
OwnedAt over subs index = (sub : Subchannel) → slice_get subs index ≡ Some sub → Owned over sub.state

set-owned : (over next : Bool) (subs : List Subchannel) (at index : ℕ) (x after : Subchannel) → slice_get subs at ≡ Some x → (at ≡ index → Owned over x.state → Owned next after.state) →
    ((at ≡ index → ⊥) → next ≡ over) → OwnedAt over subs index → OwnedAt next (slice_set subs at after) index
set-owned over next subs at index x after there here other owned = λ sub got.
    elim (set-get subs at after index sub got) [
      | inl p ↦
          subst (λ (y : Subchannel). Owned next y.state) (sym p.1)
          (here (sym p.0) (owned x (subst (λ (i : ℕ). slice_get subs i ≡ Some x) (sym p.0) there)))
      | inr p ↦ subst (λ (b : Bool). Owned b sub.state) (sym (other (λ e. p.0 (sym e)))) (owned sub p.1)
    ]

one-owned : (over : Bool) (s new : State) (at index : ℕ) (x after : Subchannel) → OneSub s new at x after → (Owned over x.state → Owned over after.state) → OwnedAt over s.subs index → OwnedAt over new.subs index
one-owned over s new at index x after one f owned =
    subst (λ (xs : List Subchannel). OwnedAt over xs index) (sym one.subs) (set-owned over over s.subs at index x after one.there (λ e k. f k) (λ e. refl) owned)

unit-owned : (over : Bool) (s new : State) (at index i : ℕ) (x : Subchannel) (t : DownResult) (u v : UnitState) → OneUnit s new at x t.sub i u v → IsApart x t → OwnedAt over s.subs index → OwnedAt over new.subs index
unit-owned over s new at index i x t u v one m owned =
    subst (λ (xs : List Subchannel). OwnedAt over xs index) (sym one.subs)
    (set-owned over over s.subs at index x t.sub one.there (λ e k. subst (λ (y : SubchannelState). Owned over y) (sym m.state) k) (λ e. refl) owned)

-- other events than those that end an offer or make one
abbrev pub IsOther : Event → Type 0
IsOther (event.Execute cpu (instruction.Ssch word address)) = ⊥
IsOther (event.Execute cpu (instruction.Hsch word)) = ⊥
IsOther (event.Execute cpu (instruction.Xsch word)) = ⊥
IsOther (event.Execute cpu (instruction.Tsch word address)) = ⊥
IsOther (event.Choose word) = ⊥
IsOther e = Unit {0}

modify-owned : (over : Bool) (sub : Subchannel) (given : block.Pmcw) (c : ConditionCode) → Owned over sub.state → Owned over (function_sub sub c (modified_state sub given)).sub.state
modify-owned over sub given code.Zero k = (k.0, same-tied over over sub.state (modified_state sub given) refl (same-just over sub.state (modified_state sub given) refl refl refl refl) k.1)
modify-owned over sub given c k = k

function-owned : (over : Bool) (sub : Subchannel) (effect : SubchannelState) (c : ConditionCode) → (Owned over sub.state → Owned over effect) → Owned over sub.state → Owned over (function_sub sub c effect).sub.state
function-owned over sub effect code.Zero f k = f k
function-owned over sub effect c f k = k

performed-owned : (over : Bool) (sub : Subchannel) (f : Function) (c : ConditionCode) (s : State) (e : Event) (index : ℕ) → IsOther e → walked.IsExecuted s e index (instruction_of f) → Owned over sub.state →
    Owned over (function_sub sub c (effect_of f sub.state)).sub.state
performed-owned over sub Resumes c s e index o i k =
    function-owned over sub (resumed sub.state) c (λ g. (g.0, same-tied over over sub.state (resumed sub.state) refl (resume-just over sub.state) g.1)) k
performed-owned over sub walked.Halts c s e index o i k = absurd (subst (λ (x : Event). IsOther x) i.event o)
performed-owned over sub Clears c s e index o i k =
    function-owned over sub (cleared sub.state) c (λ g. ((g.0.0, tt, tt, tt), reset-tied over (cleared sub.state) _ refl)) k
performed-owned over sub Cancels c s e index o i k = absurd (subst (λ (x : Event). IsOther x) i.event o)

other-owned : (over : Bool) (s : State) (e : Event) (r : Reply) (new : State) → Walked s e r new → IsOther e → (index : ℕ) → OwnedAt over s.subs index → OwnedAt over new.subs index
other-owned over s _ _ _ (walked.Stays e r new q sets subs units up) o index owned = subst (λ (xs : List Subchannel). OwnedAt over xs index) (sym subs) owned
other-owned over s _ _ _ (walked.Started cpu word address at x orb c new n one) o index owned = absurd o
other-owned over s _ _ _ (walked.Tested e r at x c new q one address by answers) o index owned = absurd (subst (λ (y : Event). IsOther y) by.event o)
other-owned over s _ _ _ (walked.Modified e r at x given c new q one) o index owned = one-owned over s new at index x _ one (modify-owned over x given c) owned
other-owned over s _ _ _ (walked.Performed e r at x f c new q one by answers) o index owned = one-owned over s new at index x _ one (performed-owned over x f c s e at o by) owned
other-owned over s _ _ _ (walked.Chosen word at x choice t new n y w ok one) o index owned = absurd o
other-owned over s _ _ _ (walked.Met word path returns at x t new n ok one may) o index owned =
    one-owned over s new at index x t.sub one (λ k. subst (λ (r : Result UpResult Fault). IfOk r (λ t. Owned over t.sub.state)) ok (up-owned over returns s.storage x path k)) owned
other-owned over s _ _ _ (walked.Sunk word path may owed at x u t new n ok one) o index owned =
    unit-owned over s new at index _ x t u _ one (subst (λ (r : Result DownResult Fault). IfOk r (IsApart x)) ok (down-apart may x path u)) owned
other-owned over s _ _ _ (walked.Reported i at x u report t new n reached ok one) o index owned =
    unit-owned over s new at index i x t u _ one (subst (λ (r : Result DownResult Fault). IfOk r (IsApart x)) ok (step-apart x (unit_reports u report))) owned
other-owned over s _ _ _ (walked.Acted i at x u what t new side its ok one) o index owned =
    unit-owned over s new at index i x t u _ one (subst (λ (r : Result DownResult Fault). IfOk r (IsApart x)) ok (act-apart x u what)) owned
other-owned over s _ _ _ (walked.Restarted at owed u r new found sets subs units up) o index owned = subst (λ (xs : List Subchannel). OwnedAt over xs index) (sym subs) owned
other-owned over s _ _ _ (walked.Swept e r what new q sets subs units by) o index owned = λ sub here.
    let p = map-get (swept what) s.subs index sub (subst (λ (xs : List Subchannel). slice_get xs index ≡ Some sub) subs here) in
    subst (λ (y : Subchannel). Owned over y.state) p.2 (swept-owned over what p.0 (owned p.0 p.1))

-- Choose
quiet-choose : (e : Event) (r : Reply) (word : ℕ) → walked.IsQuiet e r → e ≡ event.Choose word → ⊥
quiet-choose e r word q h = subst (λ (x : Event). walked.IsQuiet x r) h q

choose-at : (over : Bool) (s : State) (e : Event) (r : Reply) (new : State) (word index : ℕ) → e ≡ event.Choose word → Walked s e r new → OwnedAt over s.subs index →
    OwnedAt (if is_path (index_of s word) index then over_chosen r over else over) new.subs index
choose-at over s _ _ _ word index h (walked.Stays e r new q sets subs units up) owned = absurd (quiet-choose e r word q h)
choose-at over s _ _ _ word index h (walked.Tested e r at x c new q one address by answers) owned = absurd (quiet-choose e r word q h)
choose-at over s _ _ _ word index h (walked.Modified e r at x given c new q one) owned = absurd (quiet-choose e r word q h)
choose-at over s _ _ _ word index h (walked.Performed e r at x f c new q one by answers) owned = absurd (quiet-choose e r word q h)
choose-at over s _ _ _ word index h (walked.Chosen w at x choice t new m y suits ok one) owned =
    let same : w ≡ word = cc h in
    let named : index_of s word ≡ Some at = ap (index_of s) (sym same) ∙ m in
    subst (λ (xs : List Subchannel). OwnedAt (if is_path (index_of s word) index then over_chosen t.reply over else over) xs index) (sym one.subs)
    (set-owned over (if is_path (index_of s word) index then over_chosen t.reply over else over) s.subs at index x t.sub one.there
    (λ e k. subst (λ (b : Bool). Owned (if b then over_chosen t.reply over else over) t.sub.state) (sym (ap (λ (o : Option ℕ). is_path o index) named ∙ eq-eqb at index e))
    (subst (λ (r : Result SubResult Fault). IfOk r (IsTurn over)) ok (chosen-owned over x choice k)))
    (λ n. ap (λ (b : Bool). if b then over_chosen t.reply over else over) (ap (λ (o : Option ℕ). is_path o index) named ∙ not-eqb at index n)) owned)
choose-at over s _ _ _ word index h (walked.Swept e r what new q sets subs units by) owned = absurd (quiet-choose e r word q h)
choose-at over s _ _ _ word index h w owned = absurd (cc h)

-- an instruction that ends an offer with code 0
by-zero : (b z over : Bool) → z ≡ false → (if b then (if z then true else over) else over) ≡ over
by-zero true true over e = absurd (cc e)
by-zero true false over e = refl
by-zero false z over e = refl

zero-owned : (over : Bool) (s : State) (word at index : ℕ) (x after : Subchannel) (r : Reply) → index_of s word ≡ Some at → slice_get s.subs at ≡ Some x → is_code_zero r ≡ true →
    (Owned over x.state → Owned true after.state) → OwnedAt over s.subs index → OwnedAt (if is_path (index_of s word) index then over_by r over else over) (slice_set s.subs at after) index
zero-owned over s word at index x after r n there z f owned =
    set-owned over (if is_path (index_of s word) index then over_by r over else over) s.subs at index x after there
    (λ e k. subst (λ (b : Bool). Owned (if b then over_by r over else over) after.state) (sym (ap (λ (o : Option ℕ). is_path o index) n ∙ eq-eqb at index e))
    (subst (λ (b : Bool). Owned (if b then true else over) after.state) (sym z) (f k)))
    (λ e. ap (λ (b : Bool). if b then over_by r over else over) (ap (λ (o : Option ℕ). is_path o index) n ∙ not-eqb at index e)) owned

kept-owned : (over : Bool) (s : State) (word at index : ℕ) (x after : Subchannel) (r : Reply) → slice_get s.subs at ≡ Some x → after.state ≡ x.state → is_code_zero r ≡ false → OwnedAt over s.subs index →
    OwnedAt (if is_path (index_of s word) index then over_by r over else over) (slice_set s.subs at after) index
kept-owned over s word at index x after r there same z owned =
    subst (λ (b : Bool). OwnedAt b (slice_set s.subs at after) index) (sym (by-zero (is_path (index_of s word) index) (is_code_zero r) over z))
    (set-owned over over s.subs at index x after there (λ e k. subst (λ (y : SubchannelState). Owned over y) (sym same) k) (λ e. refl) owned)

unfound-owned : (over : Bool) (s : State) (word index : ℕ) (r : Reply) → is_code_zero r ≡ false → OwnedAt over s.subs index → OwnedAt (if is_path (index_of s word) index then over_by r over else over) s.subs index
unfound-owned over s word index r z owned = subst (λ (b : Bool). OwnedAt b s.subs index) (sym (by-zero (is_path (index_of s word) index) (is_code_zero r) over z)) owned

coded-owned : (over : Bool) (s : State) (word at index : ℕ) (x : Subchannel) (effect : SubchannelState) (c : ConditionCode) → index_of s word ≡ Some at → slice_get s.subs at ≡ Some x →
    (c ≡ code.Zero → Owned over x.state → Owned true effect) → OwnedAt over s.subs index →
    OwnedAt (if is_path (index_of s word) index then over_by (function_sub x c effect).reply over else over) (slice_set s.subs at (function_sub x c effect).sub) index
coded-owned over s word at index x effect code.Zero n there f owned = zero-owned over s word at index x (with_state x effect) (function_sub x code.Zero effect).reply n there refl (f refl) owned
coded-owned over s word at index x effect c n there f owned = kept-owned over s word at index x (with_state x x.state) (function_sub x c effect).reply there refl refl owned

answered-owned : (over : Bool) (s : State) (word index : ℕ) (table : Condition → ConditionCode) (effect : SubchannelState → SubchannelState) (r : Reply) (subs : List Subchannel) →
    ((x : SubchannelState) → table (condition_of (Some x)) ≡ code.Zero → Owned over x → Owned true (effect x)) → Answered s word table effect r subs → OwnedAt over s.subs index →
    OwnedAt (if is_path (index_of s word) index then over_by r over else over) subs index
answered-owned over s word index table effect _ _ f (Unfound r z) owned = unfound-owned over s word index r z owned
answered-owned over s word index table effect _ _ f (There at x n there) owned = coded-owned over s word at index x (effect x.state) (code_at table x) n there (f x.state) owned

started-owned : (over : Bool) (s : State) (cpu word address index : ℕ) (r : Reply) (subs : List Subchannel) → starting_step.Started s cpu word address r subs → OwnedAt over s.subs index →
    OwnedAt (if is_path (index_of s word) index then over_by r over else over) subs index
started-owned over s cpu word address index _ _ (starting_step.Unfound r z) owned = unfound-owned over s word index r z owned
started-owned over s cpu word address index _ _ (starting_step.Refused at x y r there same z) owned = kept-owned over s word at index x y r there same z owned
started-owned over s cpu word address index _ _ (starting_step.Starts at x orb serials n there here) owned =
    zero-owned over s word at index x (with_state x (started x.state orb)) (reply.Code (answer.Zero serials)) n there refl (start-owned over x.state orb) owned

-- TEST SUBCHANNEL
data Tested (s : State) (word : ℕ) : Reply → List Subchannel → Type 0 where
  Untested : (r : Reply) → ((over : Bool) → over_tested r over ≡ over) → Tested s word r s.subs
  Untouched : (at : ℕ) (x after : Subchannel) (r : Reply) → slice_get s.subs at ≡ Some x → after.state ≡ x.state → ((over : Bool) → over_tested r over ≡ over) → Tested s word r (slice_set s.subs at after)
  Tests : (at : ℕ) (x after : Subchannel) (r : Reply) → index_of s word ≡ Some at → slice_get s.subs at ≡ Some x → after.state ≡ tested_wholly x.state →
      ((over : Bool) → over_tested r over ≡ (over || ends_suspended x.state.scsw)) → Tested s word r (slice_set s.subs at after)

tested-by : (s : State) (word at : ℕ) (x : Subchannel) (c : ConditionCode) → index_of s word ≡ Some at → slice_get s.subs at ≡ Some x →
    Tested s word (test_with x c).reply (slice_set s.subs at (test_with x c).sub)
tested-by s word at x code.Zero n there = Tests at x (with_state x (tested_wholly x.state)) _ n there refl (λ over. refl)
tested-by s word at x c n there = Untouched at x (with_state x x.state) _ there refl (λ over. refl)

done-tested : (s : State) (word address : ℕ) (p : Option ℕ) (q : Option Found) (r : Reply) (new : State) → index_of s word ≡ p → found_at s.subs p ≡ q →
    IsDone s (instruction.Tsch word address) q r new → Tested s word r new.subs
done-tested s word address p None r new n e k =
    subst (λ (xs : List Subchannel). Tested s word r xs) (sym k.subs) (subst (λ (x : Reply). Tested s word x s.subs) (sym k.replies) (Untested _ (λ over. refl)))
done-tested s word address p (Some f) r new n e k =
    let there : (p ≡ Some f.index) × (slice_get s.subs f.index ≡ Some f.sub) = found-there s.subs p f e in
    let c : ConditionCode = code_at tsch_code f.sub in
    subst (λ (xs : List Subchannel). Tested s word r xs)
    (sym (k.subs ∙ ap (λ (x : SubchannelState). slice_set s.subs f.index (with_state f.sub (left_by c f.sub.state x))) k.is))
    (subst (λ (x : Reply). Tested s word x (slice_set s.subs f.index (test_with f.sub c).sub))
    (sym (k.replies ∙ ap (λ (x : SubchannelState). reply_of (instruction.Tsch word address) c f.sub.state (left_by c f.sub.state x)) k.is))
    (tested-by s word f.index f.sub c (n ∙ there.0) there.1))

turn-tested : (s : State) (cpu word address : ℕ) (r : Reply) (new : State) → ResultOf s (event.Execute cpu (instruction.Tsch word address)) r new → Tested s word r new.subs
turn-tested s cpu word address _ _ (turn.Executes _ _ id q r storage subs n e blocks left done) =
    done-tested s word address (index_in id s.subs) q r (record s { storage = storage; subs = subs }) (ap (index_of_id s.subs) n) e done

step-tested : (s : State) (cpu word address : ℕ) (r : Reply) (new : State) → Step s (event.Execute cpu (instruction.Tsch word address)) r new → Tested s word r new.subs
step-tested s cpu word address r new step =
    let is : HasResult s (event.Execute cpu (instruction.Tsch word address)) r new = step-turn s (event.Execute cpu (instruction.Tsch word address)) r new step in
    subst (λ (x : State). Tested s word r x.subs) (sym is.settles) (turn-tested s cpu word address r is.left is.turn)

if-same : (b x y : Bool) → y ≡ x → (if b then y else x) ≡ x
if-same true x y e = e
if-same false x y e = refl

tested-owned : (over : Bool) (s : State) (word index : ℕ) (r : Reply) (subs : List Subchannel) → Tested s word r subs → OwnedAt over s.subs index →
    OwnedAt (if is_path (index_of s word) index then over_tested r over else over) subs index
tested-owned over s word index _ _ (Untested r z) owned =
    subst (λ (b : Bool). OwnedAt b s.subs index) (sym (if-same (is_path (index_of s word) index) over (over_tested r over) (z over))) owned
tested-owned over s word index _ _ (Untouched at x after r there same z) owned =
    subst (λ (b : Bool). OwnedAt b (slice_set s.subs at after) index) (sym (if-same (is_path (index_of s word) index) over (over_tested r over) (z over)))
    (set-owned over over s.subs at index x after there (λ e k. subst (λ (y : SubchannelState). Owned over y) (sym same) k) (λ e. refl) owned)
tested-owned over s word index _ _ (Tests at x after r n there same z) owned =
    set-owned over (if is_path (index_of s word) index then over_tested r over else over) s.subs at index x after there
    (λ e k. subst (λ (b : Bool). Owned (if b then over_tested r over else over) after.state) (sym (ap (λ (o : Option ℕ). is_path o index) n ∙ eq-eqb at index e))
    (subst (λ (b : Bool). Owned b after.state) (sym (z over)) (subst (λ (y : SubchannelState). Owned (over || ends_suspended x.state.scsw) y) (sym same) (test-owned over x.state k))))
    (λ e. ap (λ (b : Bool). if b then over_tested r over else over) (ap (λ (o : Option ℕ). is_path o index) n ∙ not-eqb at index e)) owned

-- each step
abbrev pub about : State → ℕ → Event → Bool
about s index (event.Execute cpu i) = is_path (index_of s (subchannel_word i)) index
about s index (event.Choose word) = is_path (index_of s word) index
about s index (event.Up word path) = is_path (index_of s word) index
about s index (event.Down word path) = is_path (index_of s word) index
about s index e = false

same-over : (b : Bool) (e : Event) (r : Reply) (over : Bool) → IsOther e → over_after b e r over ≡ over
same-over false e r over o = refl
same-over true (event.Execute cpu (instruction.Ssch word address)) r over o = absurd o
same-over true (event.Execute cpu (instruction.Tsch word address)) r over o = absurd o
same-over true (event.Execute cpu (instruction.Hsch word)) r over o = absurd o
same-over true (event.Execute cpu (instruction.Xsch word)) r over o = absurd o
same-over true (event.Choose word) r over o = absurd o
same-over true e r over o = refl

others : (over : Bool) (s : State) (e : Event) (r : Reply) (new : State) (index : ℕ) → Walked s e r new → IsOther e → OwnedAt over s.subs index →
    OwnedAt (over_after (about s index e) e r over) new.subs index
others over s e r new index walk o owned =
    subst (λ (b : Bool). OwnedAt b new.subs index) (sym (same-over (about s index e) e r over o)) (other-owned over s e r new walk o index owned)

as-if : (b : Bool) (subs : List Subchannel) (index : ℕ) (x y : Bool) (f : Bool → Bool) → f true ≡ x → f false ≡ y → OwnedAt (if b then x else y) subs index → OwnedAt (f b) subs index
as-if true subs index x y f e g k = subst (λ (z : Bool). OwnedAt z subs index) (sym e) k
as-if false subs index x y f e g k = subst (λ (z : Bool). OwnedAt z subs index) (sym g) k

pub step-owned : (over : Bool) (s : State) (e : Event) (r : Reply) (new : State) (index : ℕ) → Step s e r new → Walked s e r new → OwnedAt over s.subs index →
    OwnedAt (over_after (about s index e) e r over) new.subs index
step-owned over s (event.Execute cpu (instruction.Ssch word address)) r new index step walk owned =
    as-if (is_path (index_of s word) index) new.subs index (over_by r over) over (λ b. over_after b (event.Execute cpu (instruction.Ssch word address)) r over) refl refl
    (started-owned over s cpu word address index r new.subs (starting_step.step-started s cpu word address r new step) owned)
step-owned over s (event.Execute cpu (instruction.Tsch word address)) r new index step walk owned =
    as-if (is_path (index_of s word) index) new.subs index (over_tested r over) over (λ b. over_after b (event.Execute cpu (instruction.Tsch word address)) r over) refl refl
    (tested-owned over s word index r new.subs (step-tested s cpu word address r new step) owned)
step-owned over s (event.Execute cpu (instruction.Hsch word)) r new index step walk owned =
    as-if (is_path (index_of s word) index) new.subs index (over_by r over) over (λ b. over_after b (event.Execute cpu (instruction.Hsch word)) r over) refl refl
    (answered-owned over s word index hsch_code halted r new.subs (halt-owned over) (halt-answered s cpu word r new step) owned)
step-owned over s (event.Execute cpu (instruction.Xsch word)) r new index step walk owned =
    as-if (is_path (index_of s word) index) new.subs index (over_by r over) over (λ b. over_after b (event.Execute cpu (instruction.Xsch word)) r over) refl refl
    (answered-owned over s word index xsch_code cancelled r new.subs (cancel-owned over) (cancel-answered s cpu word r new step) owned)
step-owned over s (event.Execute cpu (instruction.Enable word subclass multipath)) r new index step walk owned =
    others over s (event.Execute cpu (instruction.Enable word subclass multipath)) r new index walk tt owned
step-owned over s (event.Choose word) r new index step walk owned =
    as-if (is_path (index_of s word) index) new.subs index (over_chosen r over) over (λ b. over_after b (event.Choose word) r over) refl refl
    (choose-at over s (event.Choose word) r new word index refl walk owned)
step-owned over s e r new index step walk owned = others over s e r new index walk tt owned
