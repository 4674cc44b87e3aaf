-- What was told of one action.
use Rattle.std.proofs.Common.{◌≡◌, ◌∙◌, ◌+◌, ◌-◌, ℕ, suc, Bool, true, false, refl, sym, ap, subst, arith, List, [], ◌∷◌, ◌++◌, append-nil, append_assoc, drop, length}
use Rattle.std.proofs.Math.Seq.{drop-append_seam}
use Rattle.std.proofs.lemmas.List.{length-append}
use Rattle.std.proofs.lemmas.List.Elements.{All-cons, All-nil}
use Rattle.std.proofs.lemmas.Option.{same_Some}
use Rattle.std.specs.Prelude.{Result, Ok, Err, Option, None, Some, slice_get}
use Rattle.chan_events.specs.Events.{Event}
use Rattle.chan_events.specs.declared.event.Event.TheVariants as event
use Rattle.chan_events.specs.Replies.{Reply}
use Rattle.chan_events.specs.declared.reply.Entry.{Entry}
use Rattle.chan_model.specs.Reports.{Report}
use Rattle.chan_model.specs.declared.fault.Fault.{Fault}
use Rattle.chan_model.specs.declared.fault.Fault.TheVariants as fault
use Rattle.event_log.specs.Logs.{last_reply}
use Rattle.functions.specs.Unwired.{Unwired}
use Rattle.machine_model.specs.State.{Past}
use Rattle.machine_sight.specs.Balance.{IsBalanced, signals_on}
use Rattle.machine_sight.specs.Finding.{found_at}
use Rattle.machine_sight.specs.Shown.{Shows, TellsWaiting}
use Rattle.machine_sight.specs.Waiting.{WaitingQueues, waits_on}
use Rattle.machine_sight.specs.declared.balance.Course.{Course}
use Rattle.machine_sight.specs.declared.balance.Course.TheVariants.{Onto, Off}
use Rattle.machine_sight.specs.declared.sight.Sight.{Sight}
use Rattle.scsw_irb.specs.declared.serials.Serials.{Serials}
use Rattle.script_rows.specs.declared.Action.{Action}
use Rattle.script_rows.specs.declared.Action.TheVariants as action
use Rattle.script_runner.specs.Acting.{ActionOutcome, Enters, Follows, Installed, PerformsAction, device_turn_of}
use Rattle.script_text.specs.Text.{told_of as outcome_told}
use Rattle.script_text.specs.declared.ActionResult.TheVariants as outcome
use Rattle.step_facts.specs.Holds.{all_hold_changes}
use Rattle.step_facts.specs.Moves.{is_told_by_reply, met_of, sent_of}
use Rattle.step_facts.specs.Told.{AnsweredLine, AreOfLine, AreToldBy, IsOfLine, Told, answers_of, facts_where, is_hold, is_move, line_record, nothing_told}
use Rattle.step_records.specs.Named.{named_by}
use Rattle.step_records.specs.declared.parties.Parties.{Parties}
use Rattle.step_records.specs.declared.record.Fact.{Fact}
use Rattle.step_records.specs.declared.record.Fact.TheVariants as fact_spec
use Rattle.step_records.specs.declared.record.Record.{Record}
use Rattle.step_records.specs.declared.record.Signal.{Signal}
use Rattle.step_records.specs.declared.record.Wire.{Wire}
use Rattle.step_records.specs.declared.refusal.Refusal.{Refusal}
use Rattle.trace_runs.specs.Tracing.{HasReason, HasStepped, HasTold, IsLast, IsLastEvent, IsLastOf, IsMovedBy, IsReason, IsSeen, Traced, answer_record, answered_line, beginning, first_facts, found_where, instructed}

-- a refusal, or a look
abbrev pub is_quiet : ActionOutcome → Bool
is_quiet (Ok (outcome.Reply r)) = false
is_quiet other = true

-- nothing but the room changes
abbrev pub IsStill : Past → Past → Type 0
IsStill old new = (new.state ≡ old.state) × (new.history ≡ old.history)

entered_quiet : (old : Past) (e : Event) (came : Result Reply Fault) (new : Past) → is_quiet (outcome_told came) ≡ true → Enters old e came new → IsStill old new
entered_quiet old e (Ok r) new q h = absurd (cc q)
entered_quiet old e (Err fault.NoMemory) new q h = (h.0.state, h.0.history)
entered_quiet old e (Err f) new q h = (h.2.state, h.2.history)

follows_quiet : (old : Installed) (index : ℕ) (report : Result Report Fault) (came : Result Reply Fault) (new : Installed) →
    is_quiet (outcome_told came) ≡ true → Follows old index report came new → IsStill old.past new.past
follows_quiet old index (Ok report) came new q h = entered_quiet old.past (event.Report index report) came new.past q h.0
follows_quiet old index (Err f) came new q h = (ap (λ (i : Installed). i.past.state) h.1, ap (λ (i : Installed). i.past.history) h.1)

pub quiet_past : (old new : Installed) (a : Action) (r : ActionOutcome) → is_quiet r ≡ true → PerformsAction old a r new → IsStill old.past new.past
quiet_past old new (action.Event e) r q p = entered_quiet old.past e p.0 new.past (subst (λ (o : ActionOutcome). is_quiet o ≡ true) p.1 q) p.2.0
quiet_past old new (action.Dev index) r q p =
    follows_quiet (record old { devices = (device_turn_of old index).devices }) index (device_turn_of old index).report p.0 new
    (subst (λ (o : ActionOutcome). is_quiet o ≡ true) p.1 q) p.2
quiet_past old new (action.Glance word) r q p = (ap (λ (i : Installed). i.past.state) p.2, ap (λ (i : Installed). i.past.history) p.2)

-- no history is longer than itself
not_longer : (old new : List Entry) (e : Entry) → new ≡ old → new ≡ old ++ e ∷ [] → ⊥
not_longer old new e same grown =
    let long : length (old ++ e ∷ []) ≡ length old + 1 = length-append old (e ∷ []) in
    let one : length new ≡ length old = ap (λ (h : List Entry). length h) same in
    let two : length new ≡ length (old ++ e ∷ []) = ap (λ (h : List Entry). length h) grown in
    omega (arith, long, one, two)

-- what was added is last
at_end : (h : List Entry) (e : Entry) → slice_get (h ++ e ∷ []) (length h) ≡ Some e
at_end [] e = refl
at_end (x ∷ h) e = at_end h e

last_grown : (old new : List Entry) (e : Entry) → new ≡ old ++ e ∷ [] → IsLast new e
last_grown old new e grown =
    let long : length (old ++ e ∷ []) ≡ length old + 1 = length-append old (e ∷ []) in
    let less : length (old ++ e ∷ []) - 1 ≡ length old = omega (arith, long) in
    subst (λ (h : List Entry). IsLast h e) (sym grown) (ap (λ n. slice_get (old ++ e ∷ []) n) less ∙ at_end old e)

-- what is seen of a machine is seen of one in the same state
seen_same : (old new : Traced) → new.machine.past.state ≡ old.machine.past.state → new.parties ≡ old.parties → new.sight ≡ old.sight → new.waiting ≡ old.waiting →
    IsSeen old → IsSeen new
seen_same old new state alike same still seen = record {
  shown = subst (λ (s : Sight). Shows new.machine.past.state new.parties s) (sym same)
      (subst (λ (p : Parties). Shows new.machine.past.state p old.sight) (sym alike)
      (subst (λ s. Shows s old.parties old.sight) (sym state) seen.shown));
  told = subst (λ (ws : List WaitingQueues). TellsWaiting new.machine.past.state new.parties.subchannels.items ws) (sym still)
      (subst (λ (p : Parties). TellsWaiting new.machine.past.state p.subchannels.items old.waiting) (sym alike)
      (subst (λ s. TellsWaiting s old.parties.subchannels.items old.waiting) (sym state) seen.told));
}

-- the first facts of a line move no signal and change no hold, and answer once
moves-found : (line n : ℕ) (o : Option Unwired) (outcome : ActionOutcome) (rest : List Record) →
    facts_where is_move (first_facts line (found_at n o) outcome ++ rest) ≡ facts_where is_move rest
moves-found line n None outcome rest = refl
moves-found line n (Some s) outcome rest = refl

moves-first : (line : ℕ) (sight : Sight) (sub : Option ℕ) (outcome : ActionOutcome) (rest : List Record) →
    facts_where is_move (first_facts line (found_where sight sub) outcome ++ rest) ≡ facts_where is_move rest
moves-first line sight None outcome rest = refl
moves-first line sight (Some n) outcome rest = moves-found line n (slice_get sight.subchannels.items n) outcome rest

holds-found : (line n : ℕ) (o : Option Unwired) (outcome : ActionOutcome) (rest : List Record) →
    facts_where is_hold (first_facts line (found_at n o) outcome ++ rest) ≡ facts_where is_hold rest
holds-found line n None outcome rest = refl
holds-found line n (Some s) outcome rest = refl

holds-first : (line : ℕ) (sight : Sight) (sub : Option ℕ) (outcome : ActionOutcome) (rest : List Record) →
    facts_where is_hold (first_facts line (found_where sight sub) outcome ++ rest) ≡ facts_where is_hold rest
holds-first line sight None outcome rest = refl
holds-first line sight (Some n) outcome rest = holds-found line n (slice_get sight.subchannels.items n) outcome rest

answers-found : (line n : ℕ) (o : Option Unwired) (outcome : ActionOutcome) (rest : List Record) →
    answers_of (first_facts line (found_at n o) outcome ++ rest) ≡ answered_line line outcome ∷ answers_of rest
answers-found line n None outcome rest = refl
answers-found line n (Some s) outcome rest = refl

answers-first : (line : ℕ) (sight : Sight) (sub : Option ℕ) (outcome : ActionOutcome) (rest : List Record) →
    answers_of (first_facts line (found_where sight sub) outcome ++ rest) ≡ answered_line line outcome ∷ answers_of rest
answers-first line sight None outcome rest = refl
answers-first line sight (Some n) outcome rest = answers-found line n (slice_get sight.subchannels.items n) outcome rest

signals-found : (course : Course) (on : Wire) (line n : ℕ) (o : Option Unwired) (outcome : ActionOutcome) (rest : List Record) →
    signals_on course on (first_facts line (found_at n o) outcome ++ rest) ≡ signals_on course on rest
signals-found course on line n None outcome rest = refl
signals-found course on line n (Some s) outcome rest = refl

signals-first : (course : Course) (on : Wire) (line : ℕ) (sight : Sight) (sub : Option ℕ) (outcome : ActionOutcome) (rest : List Record) →
    signals_on course on (first_facts line (found_where sight sub) outcome ++ rest) ≡ signals_on course on rest
signals-first course on line sight None outcome rest = refl
signals-first course on line sight (Some n) outcome rest = signals-found course on line n (slice_get sight.subchannels.items n) outcome rest

-- what balances the facts behind them balances all
balanced-first : (waited waits : List WaitingQueues) (line : ℕ) (sight : Sight) (sub : Option ℕ) (outcome : ActionOutcome) (rest : List Record) →
    IsBalanced waited rest waits → IsBalanced waited (first_facts line (found_where sight sub) outcome ++ rest) waits
balanced-first waited waits line sight sub outcome rest b = λ on.
    ap (λ (t : List Signal). waits_on waited on ++ t) (signals-first Onto on line sight sub outcome rest)
    ∙ (b on
    ∙ sym (ap (λ (t : List Signal). t ++ waits_on waits on) (signals-first Off on line sight sub outcome rest)))

-- the facts of a line are told piece by piece
told-behind : (before middle after : List Record) (line : ℕ) (found : Option Fact) (outcome : ActionOutcome) (rest : List Record) →
    middle ≡ before ++ beginning line found → after ≡ (middle ++ answer_record line outcome ∷ []) ++ rest →
    after ≡ before ++ (first_facts line found outcome ++ rest)
told-behind before middle after line found outcome rest first then =
    let answer : List Record = answer_record line outcome ∷ [] in
    then
    ∙ (ap (λ (t : List Record). (t ++ answer) ++ rest) first
    ∙ (ap (λ (t : List Record). t ++ rest) (append_assoc before (beginning line found) answer)
    ∙ append_assoc before (first_facts line found outcome) rest))

-- the first facts of a line are of it
of_line-more : (line : ℕ) (f : Fact) (rest : List Record) → AreOfLine line rest → AreOfLine line (line_record line f ∷ rest)
of_line-more line f rest are = All-cons (IsOfLine line) (line_record line f) rest refl are

of_line-first : (line : ℕ) (found : Option Fact) (outcome : ActionOutcome) (rest : List Record) → AreOfLine line rest →
    AreOfLine line (first_facts line found outcome ++ rest)
of_line-first line None outcome rest are =
    of_line-more line fact_spec.Event (answer_record line outcome ∷ rest) (of_line-more line (fact_spec.Answer outcome) rest are)
of_line-first line (Some f) outcome rest are =
    let then : List Record = answer_record line outcome ∷ rest in
    of_line-more line fact_spec.Event (line_record line f ∷ then)
    (of_line-more line f then (of_line-more line (fact_spec.Answer outcome) rest are))

-- what is of a line, answers nothing and moves no signal
record IsAside (line : ℕ) (rest : List Record) : Type 0 where
  of_line : AreOfLine line rest
  unanswered : answers_of rest ≡ []
  unmoved : (course : Course) (on : Wire) → signals_on course on rest ≡ []

balanced-aside : (line : ℕ) (waiting : List WaitingQueues) (rest : List Record) → IsAside line rest → IsBalanced waiting rest waiting
balanced-aside line waiting rest aside = λ on.
    ap (λ (t : List Signal). waits_on waiting on ++ t) (aside.unmoved Onto on)
    ∙ (append-nil (waits_on waiting on)
    ∙ sym (ap (λ (t : List Signal). t ++ waits_on waiting on) (aside.unmoved Off on)))

none-aside : (line : ℕ) → IsAside line []
none-aside line = record { of_line = All-nil (IsOfLine line); unanswered = refl; unmoved = λ course on. refl }

one-aside : (line : ℕ) (refusal : Refusal) → IsAside line (line_record line (fact_spec.Refused refusal) ∷ [])
one-aside line refusal = record { of_line = of_line-more line (fact_spec.Refused refusal) [] (All-nil (IsOfLine line)); unanswered = refl; unmoved = λ course on. refl }

reason-aside : (parties : Parties) (machine : Installed) (line : ℕ) (action : Action) (f : Fault) (rest : List Record) → IsReason parties machine line action f rest → IsAside line rest
reason-aside parties machine line action f rest r = subst (IsAside line) (sym r.are) (one-aside line r.refusal)

-- an action that changes nothing that is seen
quiet_step : (old new : Traced) (line : ℕ) (action : Action) (outcome : ActionOutcome) (before middle after rest : List Record) →
    PerformsAction old.machine action outcome new.machine → is_quiet outcome ≡ true → new.parties ≡ old.parties → new.sight ≡ old.sight →
    new.waiting ≡ old.waiting → middle ≡ before ++ beginning line (found_where old.sight (instructed old.parties action)) →
    after ≡ (middle ++ answer_record line outcome ∷ []) ++ rest → IsAside line rest →
    ((f : Fault) → outcome ≡ Err f → IsReason old.parties new.machine line action f rest) → IsSeen old → HasStepped old line action before after new
quiet_step old new line action outcome before middle after rest acts quiet stay same still first then aside reason seen =
    let past = quiet_past old.machine new.machine action outcome quiet acts in
    let named = instructed old.parties action in
    let found = found_where old.sight named in
    record {
      facts = first_facts line found outcome ++ rest;
      added = told-behind before middle after line found outcome rest first then;
      told = record {
        outcome = outcome;
        acts = acts;
        before = old.sight;
        after = old.sight;
        shown_before = seen.shown;
        shown_after = subst (λ s. Shows s old.parties old.sight) (sym past.0) seen.shown;
        rest = rest;
        begins = refl;
        of_line = of_line-first line found outcome rest aside.of_line;
        reason = reason;
        answers = answers-first line old.sight named outcome rest ∙ ap (λ (t : List AnsweredLine). answered_line line outcome ∷ t) aside.unanswered;
        waited = old.waiting;
        waits = old.waiting;
        told_before = seen.told;
        told_after = subst (λ s. TellsWaiting s old.parties.subchannels.items old.waiting) (sym past.0) seen.told;
        balanced = balanced-first old.waiting old.waiting line old.sight named outcome rest (balanced-aside line old.waiting rest aside);
        moves = λ entry grown. absurd (not_longer old.machine.past.history new.machine.past.history entry past.1 grown);
        holds = λ entry grown. absurd (not_longer old.machine.past.history new.machine.past.history entry past.1 grown);
      };
      parties_stay = stay;
      seen = seen_same old new past.0 stay same still seen;
    }

stepped_aside : (old new : Traced) (m : Installed) (line : ℕ) (action : Action) (came outcome : ActionOutcome) (named : Option ℕ) (before middle after rest : List Record) →
    PerformsAction old.machine action came m → came ≡ outcome → is_quiet outcome ≡ true → new ≡ record old { machine = m } →
    named ≡ instructed old.parties action → middle ≡ before ++ beginning line (found_where old.sight named) →
    after ≡ (middle ++ answer_record line outcome ∷ []) ++ rest → IsAside line rest →
    ((f : Fault) → outcome ≡ Err f → IsReason old.parties m line action f rest) → IsSeen old → HasStepped old line action before after new
stepped_aside old new m line action came outcome named before middle after rest acts is quiet kept names first then aside reason seen =
    subst (λ (t : Traced). HasStepped old line action before after t) (sym kept)
    (quiet_step old (record old { machine = m }) line action outcome before middle after rest
    (subst (λ (o : ActionOutcome). PerformsAction old.machine action o m) is acts) quiet refl refl refl
    (first ∙ ap (λ (n : Option ℕ). before ++ beginning line (found_where old.sight n)) names) then aside reason seen)

-- a look, of which what it found and came to is told
pub stepped_quiet : (old new : Traced) (m : Installed) (line : ℕ) (action : Action) (came : ActionOutcome) (found : Serials) (named : Option ℕ) (before middle after : List Record) →
    PerformsAction old.machine action came m → came ≡ Ok (outcome.Serials found) → new ≡ record old { machine = m } →
    named ≡ instructed old.parties action → middle ≡ before ++ beginning line (found_where old.sight named) →
    after ≡ middle ++ answer_record line (Ok (outcome.Serials found)) ∷ [] → IsSeen old → HasStepped old line action before after new
stepped_quiet old new m line action came found named before middle after acts is kept names first then seen =
    let looked : ActionOutcome = Ok (outcome.Serials found) in
    stepped_aside old new m line action came looked named before middle after [] acts is refl kept names first
    (then ∙ sym (append-nil (middle ++ answer_record line looked ∷ []))) (none-aside line) (λ f e. absurd (cc e)) seen

-- the fault of a refusal is one
abbrev fault-of : Fault → ActionOutcome → Fault
fault-of default (Err f) = f
fault-of default other = default

same-fault : (one other : Fault) (came : ActionOutcome) → came ≡ Err one → came ≡ Err other → one ≡ other
same-fault one other came e f = ap (fault-of one) (sym e ∙ f)

-- a refusal, behind which stands why
pub stepped_refused : (old new : Traced) (m : Installed) (line : ℕ) (action : Action) (came : ActionOutcome) (refused : Fault) (named : Option ℕ) (before middle answered after : List Record) →
    PerformsAction old.machine action came m → came ≡ Err refused → new ≡ record old { machine = m } →
    named ≡ instructed old.parties action → middle ≡ before ++ beginning line (found_where old.sight named) →
    answered ≡ middle ++ answer_record line (Err refused) ∷ [] → HasReason old.parties m line action refused answered after →
    IsSeen old → HasStepped old line action before after new
stepped_refused old new m line action came refused named before middle answered after acts is kept names first then why seen =
    stepped_aside old new m line action came (Err refused) named before middle after why.rest acts is refl kept names first
    (why.added ∙ ap (λ (t : List Record). t ++ why.rest) then) (reason-aside old.parties m line action refused why.rest why.reason)
    (λ f e. subst (λ (x : Fault). IsReason old.parties m line action x why.rest) (same-fault refused f (Err refused) refl e) why.reason) seen

-- an event of which the facts are told behind what it came to
pub stepped_told : (old middle new : Traced) (m : Installed) (line : ℕ) (action : Action) (came : ActionOutcome) (named : Option ℕ) (before between after : List Record) →
    PerformsAction old.machine action came m → came ≡ Ok (outcome.Reply (last_reply m.past.history)) → middle ≡ record old { machine = m } →
    named ≡ instructed old.parties action → between ≡ before ++ beginning line (found_where old.sight named) →
    HasTold middle line between after new → IsSeen old → HasStepped old line action before after new
stepped_told old middle new m line action came named before between after acts is kept names first h seen =
    let here : Traced = record old { machine = m } in
    let k : HasTold here line between after new = subst (λ (t : Traced). HasTold t line between after new) kept h in
    let asked = instructed old.parties action in
    let came_to : ActionOutcome = Ok (outcome.Reply (last_reply m.past.history)) in
    record {
      facts = first_facts line (found_where old.sight asked) came_to ++ k.facts;
      added = told-behind before between after line (found_where old.sight asked) came_to k.facts
          (first ∙ ap (λ (n : Option ℕ). before ++ beginning line (found_where old.sight n)) names) k.added;
      told = record {
        outcome = came_to;
        acts = subst (λ (i : Installed). PerformsAction old.machine action came_to i) (sym k.machine_stays)
            (subst (λ (o : ActionOutcome). PerformsAction old.machine action o m) is acts);
        before = old.sight;
        after = new.sight;
        shown_before = seen.shown;
        shown_after = subst (λ (p : Parties). Shows new.machine.past.state p new.sight) k.parties_stay k.seen.shown;
        rest = k.facts;
        begins = refl;
        of_line = of_line-first line (found_where old.sight asked) came_to k.facts k.of_line;
        reason = λ f e. absurd (cc e);
        answers = answers-first line old.sight asked came_to k.facts ∙ ap (λ (t : List AnsweredLine). answered_line line came_to ∷ t) k.none_answered;
        waited = old.waiting;
        waits = new.waiting;
        told_before = seen.told;
        told_after = subst (λ (p : Parties). TellsWaiting new.machine.past.state p.subchannels.items new.waiting) k.parties_stay k.seen.told;
        balanced = balanced-first old.waiting new.waiting line old.sight asked came_to k.facts k.balanced;
        moves = λ entry grown sub names told.
            moves-first line old.sight asked came_to k.facts
            ∙ k.moves entry (last_grown old.machine.past.history m.past.history entry (ap (λ (i : Installed). i.past.history) (sym k.machine_stays) ∙ grown)) sub names told;
        holds = λ entry grown. holds-first line old.sight asked came_to k.facts ∙ k.holds;
      };
      parties_stay = k.parties_stay;
      seen = k.seen;
    }

-- the reply of the last entry
reply-at : (h : List Entry) (e : Entry) → IsLast h e → e.reply ≡ last_reply h
reply-at [] e is = absurd (cc is)
reply-at (x ∷ []) e is =
    let none : length (x ∷ []) - 1 ≡ 0 = omega arith in
    ap (λ (y : Entry). y.reply) (same_Some e x (sym is ∙ ap (λ n. slice_get (x ∷ []) n) none))
reply-at (x ∷ y ∷ h) e is =
    let less : length (x ∷ y ∷ h) - 1 ≡ suc (length h) = omega arith in
    let more : length (y ∷ h) - 1 ≡ length h = omega arith in
    reply-at (y ∷ h) e (ap (λ n. slice_get (y ∷ h) n) more ∙ (ap (λ n. slice_get (x ∷ y ∷ h) n) (sym less) ∙ is))

-- two last entries of a history are the same
same-last : (h : List Entry) (e f : Entry) → IsLast h e → IsLast h f → e ≡ f
same-last h e f one two = same_Some e f (sym one ∙ two)

-- the entry of this event and this reply
abbrev entry-of : Event → Reply → Entry
entry-of e r = record { event = e; reply = r }

entry-is : (entry : Entry) (e : Event) (r : Reply) → entry.event ≡ e → entry.reply ≡ r → entry-of e r ≡ entry
entry-is entry e r p q = λ i. record { event = sym p i; reply = sym q i }

-- an event that is that of the last entry
pub last_lent : (h : List Entry) (entry : Entry) (lent : Event) → IsLast h entry → lent ≡ entry.event → IsLastEvent h lent
last_lent h entry lent last is = λ other also. ap (λ (y : Entry). y.event) (same-last h other entry also last) ∙ sym is

-- the facts of the last event tell what it moved
moved_last : (h : List Entry) (e : Event) (r : Reply) (parties : Parties) (before : Sight) (facts : List Record) → IsLastEvent h e → r ≡ last_reply h →
    IsMovedBy parties before (entry-of e r) facts → (entry : Entry) → IsLast h entry → IsMovedBy parties before entry facts
moved_last h e r parties before facts own is moved = λ entry last.
    subst (λ (x : Entry). IsMovedBy parties before x facts) (entry-is entry e r (own entry last) (reply-at h entry last ∙ sym is)) moved

-- what stands behind the first records
behind-first : (before facts all rest : List Record) (first : ℕ) → all ≡ before ++ facts → first ≡ length before → rest ≡ drop first all → rest ≡ facts
behind-first before facts all rest first added at is =
    is ∙ (ap (λ (t : List Record). drop first t) added ∙ (ap (λ n. drop n (before ++ facts)) at ∙ drop-append_seam before facts))

-- what is seen next of a machine that stays
pub seen_next : (machine : Installed) (parties : Parties) (waits : List WaitingQueues) (one other : Sight) → one ≡ other →
    (let now : Traced = record { machine = machine; parties = parties; sight = one; waiting = waits } in
    let then : Traced = record { machine = machine; parties = parties; sight = other; waiting = waits } in now ≡ then)
seen_next machine parties waits one other is = λ i. record { machine = machine; parties = parties; sight = is i; waiting = waits }

-- the facts were followed on the wires of a machine that stays, and what is seen next is kept
pub has_told : (old new : Traced) (line : ℕ) (before between after list : List Record) (first : ℕ) (next : Sight) (waits : List WaitingQueues) (e : Event) (r : Reply) (sub : Option ℕ) (start told : Told) →
    IsLastEvent old.machine.past.history e → r ≡ last_reply old.machine.past.history → between ≡ before ++ answer_record line (Ok (outcome.Reply r)) ∷ [] →
    first ≡ length between → start ≡ nothing_told line between → AreToldBy told after → told.line ≡ start.line → told.before ≡ start.before → told.answers ≡ start.answers →
    sub ≡ named_by old.parties e →
    ((n : ℕ) → sub ≡ Some n → is_told_by_reply e ≡ true → told.moves ≡ start.moves ++ (met_of n e r ++ sent_of old.sight n r)) →
    told.holds ≡ start.holds ++ all_hold_changes old.sight.subchannels.items next.subchannels.items →
    IsBalanced old.waiting list waits → list ≡ drop first after → Shows old.machine.past.state old.parties next →
    TellsWaiting old.machine.past.state old.parties.subchannels.items waits → new ≡ record old { sight = next; waiting = waits } → HasTold old line before after new
has_told old new line before between after list first next waits e r sub start told own last answered at none are lined stood answers names moves holds balanced rest shown tells is =
    let facts : List Record = are.facts in
    let behind : after ≡ between ++ facts = are.added ∙ ap (λ (t : List Record). t ++ facts) (stood ∙ ap (λ (t : Told). t.before) none) in
    subst (λ (t : Traced). HasTold old line before after t) (sym is) (record {
      facts = facts;
      added = behind ∙ ap (λ (t : List Record). t ++ facts) (answered ∙ ap (λ (x : Reply). before ++ answer_record line (Ok (outcome.Reply x)) ∷ []) last);
      of_line = subst (λ (n : ℕ). AreOfLine n facts) (lined ∙ ap (λ (t : Told). t.line) none) are.of_line;
      none_answered = sym (ap (λ (t : Told). t.answers) are.tell) ∙ (answers ∙ ap (λ (t : Told). t.answers) none);
      moves = moved_last old.machine.past.history e r old.parties old.sight facts own last
          (λ n named replied. sym (ap (λ (t : Told). t.moves) are.tell) ∙ (moves n (names ∙ named) replied
          ∙ ap (λ (t : Told). t.moves ++ (met_of n e r ++ sent_of old.sight n r)) none));
      holds = sym (ap (λ (t : Told). t.holds) are.tell) ∙ (holds
          ∙ ap (λ (t : Told). t.holds ++ all_hold_changes old.sight.subchannels.items next.subchannels.items) none);
      balanced = subst (λ (fs : List Record). IsBalanced old.waiting fs waits) (behind-first between facts after list first behind at rest) balanced;
      machine_stays = refl;
      parties_stay = refl;
      seen = record { shown = shown; told = tells };
    })

-- an event that was entered is the last
entered-last : (old : Past) (e : Event) (came : Result Reply Fault) (new : Past) (r : Reply) → outcome_told came ≡ Ok (outcome.Reply r) → Enters old e came new → IsLastEvent new.history e
entered-last old e (Ok x) new r is h =
    λ entry last. ap (λ (y : Entry). y.event) (same-last new.history entry (entry-of e x) last (last_grown old.history new.history (entry-of e x) h.2))
entered-last old e (Err f) new r is h = absurd (cc is)

pub last_of : (old : Installed) (a : Action) (came : ActionOutcome) (r : Reply) (new : Installed) → came ≡ Ok (outcome.Reply r) → PerformsAction old a came new → IsLastOf a new.past.history
last_of old (action.Event e) came r new is p = entered-last old.past e p.0 new.past r (sym p.1 ∙ is) p.2.0
last_of old (action.Dev index) came r new is p = tt
last_of old (action.Glance word) came r new is p = tt

-- the same where the machine is shown as a value
pub at_value : (value old new : Traced) (line : ℕ) (before after : List Record) → value ≡ old → HasTold value line before after new → HasTold old line before after new
at_value value old new line before after is h = subst (λ (t : Traced). HasTold t line before after new) is h

pub from_value : (value old new : Traced) (line : ℕ) (action : Action) (before after : List Record) → value ≡ old →
    (IsSeen value → HasStepped value line action before after new) → IsSeen old → HasStepped old line action before after new
from_value value old new line action before after is h = subst (λ (t : Traced). IsSeen t → HasStepped t line action before after new) is h
