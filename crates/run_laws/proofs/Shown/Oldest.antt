-- Of two requests of one subclass the one that stood first is given first.
use Rattle.std.proofs.Common.{◌≡◌, refl, sym, ◌∙◌, ap, subst, ℕ, ◌<◌, ◌≤◌, ◌==◌, ◌&&◌, ◌||◌, not, nat_lt, Bool, true, false, Some, List, [], ◌∷◌, ◌++◌, inl, inr, arith}
use Rattle.std.specs.List.{filter, list_any}
use Rattle.std.proofs.lemmas.Bool.{eqb-true, eq-eqb, and_parts, ltb-true, ltb-false}
use Rattle.scsw_irb.specs.declared.code.IntCode.{IntCode}
use Rattle.chan_events.specs.Events.{Event}
use Rattle.chan_events.specs.declared.reply.Entry.{Entry}
use Rattle.chan_events.specs.Replies.{Reply}
use Rattle.channel_config.specs.declared.names.SubchannelId.{SubchannelId}
use Rattle.channel_config.specs.Setup.{Setup, set_count}
use Rattle.interruptions.specs.Requests.{WaitingRequests, is_of, is_enabled, lowest, answer, request_dropped}
use Rattle.machine_model.specs.State.{State, opening_of}
use Rattle.machine_model.specs.Steps.{Run, Opened, Stepped, Step}
use Rattle.step_laws.proofs.Indices.{both-true}
use Rattle.run_laws.specs.Interruptions.{takes_away, are_taken, IsOldestFirst}
use Rattle.run_laws.proofs.Shown.Asking.{step-asked}
use Rattle.run_laws.proofs.Shown.Given.{left-kept, left-any, left}
use Rattle.run_laws.proofs.Shown.Lowest.{head-passes, any-filtered, any-kept, next-above, tested-left}
use Rattle.run_laws.proofs.Shown.Order.{lone, ahead, lone-ahead, ahead-there, left-ahead, left-lone, all-ahead, all-lone, names-apart, first-ahead}
use Rattle.run_laws.proofs.Shown.RequestRuns.{AreTables, tested-answer, standing-asks, not-standing}
use Rattle.run_laws.proofs.Shown.Runs.{AreLaws, Leads, Here, Then, uncons, leads-split, onward, run-leads, sets-stay}
use Rattle.run_laws.proofs.Shown.Waiting.{is_for, asks, for-parts, or-left, or-right, or-parts, given-asked, filter-less}

any-weaker : (p q : IntCode → Bool) → ((z : IntCode) → p z ≡ true → q z ≡ true) → (xs : List IntCode) → list_any p xs ≡ true → list_any q xs ≡ true
any-weaker p q f [] e = e
any-weaker p q f (x ∷ xs) e =
    elim (or-parts (p x) _ e) [
      | inl a ↦ or-left (q x) _ (f x a)
      | inr b ↦ or-right (q x) _ (any-weaker p q f xs b)
    ]

-- each name has at most one request
lone-run : AreTables → (setup : Setup) (x : SubchannelId) (h : List Entry) (s : State) → Run (opening_of setup) h s → lone x s.requests.requests ≡ true
lone-run tables setup x _ _ Opened = refl
lone-run tables setup x _ _ (Stepped h old e r new run step) =
    ap (λ (w : WaitingRequests). lone x w.requests) (step-asked old e r new step)
    ∙ all-lone x old.subs new.subs (left old x e r)
    (left-any old x (λ w. lone x w.requests ≡ true) (λ w set number k. left-lone x (λ code. not (is_of set number code)) w.requests k) refl e r new (tables old e r new step)
    (lone-run tables setup x h old run))

-- what is ahead stays so until it is taken away
dropped-ahead : (x y : SubchannelId) (w : WaitingRequests) (set number : ℕ) → ((set ≡ x.set) × (number ≡ x.number) → ⊥) → ahead x y w.requests ≡ true →
    ahead x y (request_dropped w set number).requests ≡ true
dropped-ahead x y w set number other e =
    left-ahead x y (λ code. not (is_of set number code)) w.requests e
    (any-weaker (is_for x) (λ z. is_for x z && not (is_of set number z)) (λ z a. both-true (is_for x z) (not (is_of set number z)) a (by z a (is_of set number z) refl)) w.requests
    (ahead-there x y w.requests e))
  where
    by : (z : IntCode) → is_for x z ≡ true → (b : Bool) → is_of set number z ≡ b → not b ≡ true
    by z a false f = refl
    by z a true f =
        let p = for-parts x z a in
        let q = and_parts (z.set == set) (z.subchannel == number) f in
        absurd (other (sym (eqb-true z.set set q.0) ∙ p.0, sym (eqb-true z.subchannel number q.1) ∙ p.1))

ahead-step : AreLaws → AreTables → (setup : Setup) (x y : SubchannelId) (h : List Entry) (s : State) (e : Event) (r : Reply) (new : State) → Run (opening_of setup) h s → Step s e r new →
    takes_away (set_count setup) x e r ≡ false → ahead x y s.requests.requests ≡ true → ahead x y new.requests.requests ≡ true
ahead-step laws tables setup x y h s e r new run step not k =
    ap (λ (w : WaitingRequests). ahead x y w.requests) (step-asked s e r new step)
    ∙ all-ahead x y s.subs new.subs (left s x e r)
    (left-kept s x (λ w. ahead x y w.requests ≡ true) (dropped-ahead x y) e r new step (tables s e r new step)
    (subst (λ (n : ℕ). takes_away n x e r ≡ false) (sym (sets-stay laws setup h s run)) not) k)

or-false : (a b : Bool) → (a || b) ≡ false → (a ≡ false) × (b ≡ false)
or-false true b e = absurd (cc e)
or-false false b e = (refl, e)

ahead-along : AreLaws → AreTables → (setup : Setup) (x y : SubchannelId) (h later : List Entry) (s t : State) → Run (opening_of setup) h s → Leads s later t →
    are_taken (set_count setup) x later ≡ false → ahead x y s.requests.requests ≡ true → ahead x y t.requests.requests ≡ true
ahead-along laws tables setup x y h _ _ _ run (Here s) not k = k
ahead-along laws tables setup x y h _ _ _ run (Then s mid new z later step rest) not k =
    let both = or-false (takes_away (set_count setup) x z.event z.reply) (are_taken (set_count setup) x later) not in
    ahead-along laws tables setup x y (h ++ z ∷ []) later mid new (Stepped h s z.event z.reply mid run step) rest both.1
    (ahead-step laws tables setup x y h s z.event z.reply mid run step both.0 k)

-- the one ahead is given first, where it is of no higher subclass
given-ahead : (x y : SubchannelId) (w : WaitingRequests) (mask set number : ℕ) (first second : IntCode) → ahead x y w.requests ≡ true →
    ((z : IntCode) → is_for x z ≡ true → is_for y z ≡ true → ⊥) → answer w mask ≡ Some first → is_for y first ≡ true →
    answer (request_dropped w set number) mask ≡ Some second → is_for x second ≡ true → first.subclass < second.subclass
given-ahead x y w mask set number first second k apart e f g h = by (nat_lt first.subclass second.subclass) refl
  where
    kept : List IntCode
    kept = filter (is_enabled mask) w.requests

    left-over : List IntCode
    left-over = filter (λ code. not (is_of set number code)) w.requests

    least : IntCode → Bool
    least z = z.subclass == lowest kept

    p : IntCode → Bool
    p z = is_for x z && least z

    is : first.subclass ≡ lowest kept
    is = eqb-true first.subclass (lowest kept) (head-passes least kept first e)

    never : second.subclass ≤ first.subclass → ⊥
    never le =
        let above : first.subclass ≤ second.subclass = next-above w mask set number first second e g in
        let same : second.subclass ≡ lowest kept = omega (arith, above, le, is) in
        let later : List IntCode = filter (is_enabled mask) left-over in
        let one : list_any p later ≡ true =
        given-asked (λ z. z.subclass == lowest later) later second g p (both-true (is_for x second) (least second) h (eq-eqb second.subclass (lowest kept) same)) in
        let all : list_any (λ z. p z && is_enabled mask z) w.requests ≡ true =
        filter-less (λ z. p z && is_enabled mask z) (λ code. not (is_of set number code)) w.requests (any-filtered p (is_enabled mask) left-over one) in
        let enabled : ahead x y kept ≡ true =
        left-ahead x y (is_enabled mask) w.requests k
        (any-weaker (λ z. p z && is_enabled mask z) (λ z. is_for x z && is_enabled mask z)
        (λ z a. let q = and_parts (p z) (is_enabled mask z) a in both-true (is_for x z) (is_enabled mask z) (and_parts (is_for x z) (least z) q.0).0 q.1) w.requests all) in
        let front : ahead x y (filter least kept) ≡ true = left-ahead x y least kept enabled (any-kept p (is_enabled mask) w.requests all) in
        first-ahead x y (filter least kept) first front e (λ a. apart first a f) f

    by : (b : Bool) → nat_lt first.subclass second.subclass ≡ b → first.subclass < second.subclass
    by true a = ltb-true first.subclass second.subclass a
    by false a = absurd (never (ltb-false first.subclass second.subclass a))

pub run-oldest-first : AreLaws → AreTables → (setup : Setup) (h : List Entry) (s : State) → Run (opening_of setup) h s → IsOldestFirst setup h
run-oldest-first laws tables setup h s run x y mask before middle after a b first second one eq stands none not is-a of-y is-b of-x =
    let o : State = opening_of setup in
    let start = leads-split o s before (middle ++ (a ∷ (b ∷ after))) (run-leads o (before ++ (middle ++ (a ∷ (b ∷ after)))) s (subst (λ (z : List Entry). Run o z s) eq run)) in
    let begun : Run o before start.0 = onward o o start.0 [] before Opened start.1 in
    let split = leads-split start.0 s middle (a ∷ (b ∷ after)) start.2 in
    let next = uncons split.0 s a (b ∷ after) split.2 in
    let last = uncons next.0 s b after next.2 in
    let asked : asks x start.0.requests ≡ true = standing-asks laws tables setup x before start.0 begun stands in
    let free : asks y start.0.requests ≡ false = by (asks y start.0.requests) (not-standing laws tables setup y before start.0 begun one none) in
    let front : ahead x y split.0.requests.requests ≡ true =
    ahead-along laws tables setup x y before middle start.0 split.0 begun split.1 not
    (lone-ahead x y start.0.requests.requests (lone-run tables setup x before start.0 begun) asked free) in
    given-ahead x y split.0.requests mask first.set first.subchannel first second front (names-apart x y start.0.requests.requests asked free)
    (tested-answer tables split.0 next.0 a mask (Some first) next.1 is-a) of-y
    (sym (ap (λ (w : WaitingRequests). answer w mask) (tested-left split.0 next.0 a mask first next.1 is-a)) ∙ tested-answer tables next.0 last.0 b mask (Some second) last.1 is-b) of-x
  where
    by : (c : Bool) → (c ≡ true → ⊥) → c ≡ false
    by false f = refl
    by true f = absurd (f refl)
