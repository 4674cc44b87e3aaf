-- TEST PENDING INTERRUPTION gives a request of the lowest subclass that is enabled.
use Rattle.std.proofs.Common.{◌≡◌, refl, sym, ◌∙◌, ap, subst, ℕ, ◌≤◌, ◌==◌, ◌&&◌, ◌||◌, not, nat_lt, Bool, true, false, Some, List, [], ◌∷◌, ◌++◌, inl, inr, arith}
use Rattle.std.specs.Prelude.{slice_get, cond, if◌then◌else◌}
use Rattle.std.specs.List.{filter, list_any}
use Rattle.std.proofs.lemmas.Bool.{eqb-true, eq-eqb, and_parts, le-ltb}
use Rattle.scsw_irb.specs.declared.code.IntCode.{IntCode}
use Rattle.chan_events.specs.Events.{Event}
use Rattle.chan_events.specs.declared.event.Event.TheVariants as event
use Rattle.chan_events.specs.declared.event.OtherInstruction.TheVariants as other
use Rattle.chan_events.specs.declared.reply.Entry.{Entry}
use Rattle.chan_events.specs.Replies.{Reply}
use Rattle.chan_events.specs.declared.reply.Reply.TheVariants as reply
use Rattle.channel_config.specs.Setup.{Setup}
use Rattle.interruptions.specs.Requests.{WaitingRequests, is_of, is_enabled, lowest, answer, posted, request_dropped}
use Rattle.machine_model.specs.Requests.{request_of, posted_all}
use Rattle.machine_model.specs.State.{State, opening_of}
use Rattle.machine_model.specs.Steps.{Run, Step}
use Rattle.step_laws.proofs.Indices.{both-true}
use Rattle.subchannel_model.specs.declared.state.Subchannel.{Subchannel}
use Rattle.run_laws.specs.Interruptions.{IsTested, IsLowestFirst}
use Rattle.run_laws.proofs.Shown.Asking.{step-asked}
use Rattle.run_laws.proofs.Shown.RequestRuns.{AreTables, tested-answer}
use Rattle.run_laws.proofs.Shown.Runs.{IsPassed, passed, passed-next}
use Rattle.run_laws.proofs.Shown.Waiting.{or-left, or-right, or-parts, given-asked, filter-less}
use Rattle.step_laws.proofs.Results as turn
use Rattle.step_laws.proofs.Results.{ResultOf, HasResult, step-turn}

pub head-passes : (test : IntCode → Bool) (xs : List IntCode) (code : IntCode) → slice_get (filter test xs) 0 ≡ Some code → test code ≡ true
head-passes test [] code e = absurd (cc e)
head-passes test (x ∷ xs) code e = by (test x) refl e (λ h. head-passes test xs code h)
  where
    by : (b : Bool) → test x ≡ b → slice_get (cond b (x ∷ filter test xs) (filter test xs)) 0 ≡ Some code → (slice_get (filter test xs) 0 ≡ Some code → test code ≡ true) → test code ≡ true
    by true f h rest = let same : x ≡ code = cc h in sym (ap test same) ∙ f
    by false f h rest = rest h

pub any-filtered : (p test : IntCode → Bool) (xs : List IntCode) → list_any p (filter test xs) ≡ true → list_any (λ x. p x && test x) xs ≡ true
any-filtered p test [] e = e
any-filtered p test (x ∷ xs) e = by (test x) refl e (any-filtered p test xs)
  where
    by : (b : Bool) → test x ≡ b → list_any p (cond b (x ∷ filter test xs) (filter test xs)) ≡ true →
        (list_any p (filter test xs) ≡ true → list_any (λ x. p x && test x) xs ≡ true) → ((p x && test x) || list_any (λ x. p x && test x) xs) ≡ true
    by true f h rest =
        elim (or-parts (p x) _ h) [
          | inl a ↦ or-left (p x && test x) _ (both-true (p x) (test x) a f)
          | inr b ↦ or-right (p x && test x) _ (rest b)
        ]
    by false f h rest = or-right (p x && test x) _ (rest h)

pub any-kept : (p test : IntCode → Bool) (xs : List IntCode) → list_any (λ x. p x && test x) xs ≡ true → list_any p (filter test xs) ≡ true
any-kept p test [] e = e
any-kept p test (x ∷ xs) e =
    elim (or-parts (p x && test x) _ e) [
      | inl a ↦ let q = and_parts (p x) (test x) a in here (test x) q.1 q.0
      | inr b ↦ later (test x) (any-kept p test xs b)
    ]
  where
    here : (b : Bool) → b ≡ true → p x ≡ true → list_any p (cond b (x ∷ filter test xs) (filter test xs)) ≡ true
    here true f h = or-left (p x) _ h
    here false f h = absurd (cc f)

    later : (b : Bool) → list_any p (filter test xs) ≡ true → list_any p (cond b (x ∷ filter test xs) (filter test xs)) ≡ true
    later true h = or-right (p x) _ h
    later false h = h

least : (n : ℕ) (xs : List IntCode) → list_any (λ y. y.subclass == n) xs ≡ true → lowest xs ≤ n
least n [] e = absurd (cc e)
least n (x ∷ xs) e =
    elim (or-parts (x.subclass == n) _ e) [
      | inl a ↦ let same : x.subclass ≡ n = eqb-true x.subclass n a in omega (arith, same)
      | inr b ↦ let below : lowest xs ≤ n = least n xs b in omega (arith, below)
    ]

pub next-above : (w : WaitingRequests) (mask set number : ℕ) (first second : IntCode) → answer w mask ≡ Some first → answer (request_dropped w set number) mask ≡ Some second →
    first.subclass ≤ second.subclass
next-above w mask set number first second e f =
    let kept : List IntCode = filter (is_enabled mask) w.requests in
    let left : List IntCode = filter (λ code. not (is_of set number code)) w.requests in
    let later : List IntCode = filter (is_enabled mask) left in
    let p : IntCode → Bool = λ y. y.subclass == second.subclass in
    let is : first.subclass ≡ lowest kept = eqb-true first.subclass (lowest kept) (head-passes (λ y. y.subclass == lowest kept) kept first e) in
    let there : list_any p later ≡ true = given-asked (λ y. y.subclass == lowest later) later second f p (eq-eqb second.subclass second.subclass refl) in
    let was : list_any p kept ≡ true =
    any-kept p (is_enabled mask) w.requests
    (filter-less (λ y. p y && is_enabled mask y) (λ code. not (is_of set number code)) w.requests (any-filtered p (is_enabled mask) left there)) in
    let below : lowest kept ≤ second.subclass = least second.subclass kept was in
    omega (arith, is, below)

-- TEST PENDING INTERRUPTION changes no subchannel, and posts nothing
not-below : (n : ℕ) → nat_lt n n ≡ false
not-below n = le-ltb n n (omega arith)

posted-still : (subs : List Subchannel) (w : WaitingRequests) → posted_all subs subs w ≡ w
posted-still [] w = refl
posted-still (x ∷ xs) w =
    ap (posted_all xs xs) (ap (λ (b : Bool). if b then posted w (request_of x) else w) (not-below x.state.serials.made)) ∙ posted-still xs w

module _ (s : State) where
  turn-subs : (cpu mask address : ℕ) (r : Reply) (new : State) → ResultOf s (event.ExecuteOther cpu (other.Tpi mask address)) r new → new.subs ≡ s.subs
  turn-subs _ _ _ _ _ (turn.Interrupts cpu mask address) = refl

  tpi-subs : (cpu mask address : ℕ) (r : Reply) (new : State) → Step s (event.ExecuteOther cpu (other.Tpi mask address)) r new → new.subs ≡ s.subs
  tpi-subs cpu mask address r new step =
      let is : HasResult s (event.ExecuteOther cpu (other.Tpi mask address)) r new = step-turn s (event.ExecuteOther cpu (other.Tpi mask address)) r new step in
      ap (λ (x : State). x.subs) is.settles ∙ turn-subs cpu mask address r is.left is.turn

  tpi-left : (cpu mask address : ℕ) (code : IntCode) (new : State) → Step s (event.ExecuteOther cpu (other.Tpi mask address)) (reply.Interruption (Some code)) new →
      new.requests ≡ request_dropped s.requests code.set code.subchannel
  tpi-left cpu mask address code new step =
      step-asked s (event.ExecuteOther cpu (other.Tpi mask address)) (reply.Interruption (Some code)) new step
      ∙ ap (λ (xs : List Subchannel). posted_all s.subs xs (request_dropped s.requests code.set code.subchannel)) (tpi-subs cpu mask address (reply.Interruption (Some code)) new step)
      ∙ posted-still s.subs (request_dropped s.requests code.set code.subchannel)

-- what TEST PENDING INTERRUPTION that gives a request leaves
pub tested-left : (s new : State) (entry : Entry) (mask : ℕ) (code : IntCode) → Step s entry.event entry.reply new → IsTested mask entry (Some code) →
    new.requests ≡ request_dropped s.requests code.set code.subchannel
tested-left s new entry mask code step t =
    tpi-left s t.0 mask t.1 code new
    (subst (λ (x : Event). Step s x (reply.Interruption (Some code)) new) t.2 (subst (λ (x : Reply). Step s entry.event x new) t.3 step))

pub run-lowest-first : AreTables → (setup : Setup) (h : List Entry) (s : State) → Run (opening_of setup) h s → IsLowestFirst h
run-lowest-first tables setup h s run mask before after a b first second eq is-a is-b =
    let o : State = opening_of setup in
    let one : IsPassed o before a (b ∷ after) s = passed o s before (b ∷ after) a (subst (λ (x : List Entry). Run o x s) eq run) in
    let two : IsPassed o (before ++ a ∷ []) b after s = passed-next o s before after a b one in
    next-above one.was.requests mask first.set first.subchannel first second (tested-answer tables one.was one.is a mask (Some first) one.step is-a)
    (sym (ap (λ (w : WaitingRequests). answer w mask) (tested-left one.was one.is a mask first one.step is-a))
    ∙ tested-answer tables two.was two.is b mask (Some second) two.step is-b)
