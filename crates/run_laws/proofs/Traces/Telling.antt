-- What is told of a subchannel's program goes on with each entry.
use Rattle.std.proofs.Common.{◌≡◌, refl, sym, ◌∙◌, ap, subst, ℕ, ◌+◌, ◌==◌, Bool, true, false, Option, None, Some, Result, Ok, List, length, inl, inr}
use Rattle.std.specs.Prelude.{if◌then◌else◌, nat_lt, slice_get, IfOk}
use Rattle.std.proofs.lemmas.Option.{same_Some}
use Rattle.orb_block.specs.declared.Orb.{Orb}
use Rattle.scsw_irb.specs.declared.status.DeviceStatus.{DeviceStatus}
use Rattle.storage_keys.specs.Storage.{Contents}
use Rattle.chan_model.specs.declared.fault.Fault.{Fault}
use Rattle.chan_model.specs.Reports.{DeviceAnswer, Report}
use Rattle.chan_model.specs.declared.report.DeviceAnswer.TheVariants as device
use Rattle.chan_model.specs.Signals.{Down, Up}
use Rattle.chan_model.specs.declared.signal.Down.TheVariants as down
use Rattle.chan_model.specs.declared.signal.OnPath.{OnPath}
use Rattle.chan_model.specs.declared.signal.Up.TheVariants as up
use Rattle.chan_model.specs.declared.unit_state.CurrentCommand.{CurrentCommand}
use Rattle.chan_model.specs.declared.unit_state.UnitState.{UnitState}
use Rattle.chan_model.specs.PathSets.{has_path}
use Rattle.chan_events.specs.Events.{Event}
use Rattle.chan_events.specs.declared.event.Event.TheVariants as event
use Rattle.chan_events.specs.Replies.{Reply}
use Rattle.chan_events.specs.declared.reply.Reply.TheVariants as reply
use Rattle.data_move.specs.Moving.{room}
use Rattle.path_select.specs.Choice.{IsChoice}
use Rattle.wires.specs.Queues.{queue}
use Rattle.subchannel_model.specs.declared.state.Chosen.{Chosen}
use Rattle.subchannel_model.specs.declared.state.Chosen.TheVariants.{Resets, Halts, Offers}
use Rattle.subchannel_model.specs.declared.state.Program.{Program}
use Rattle.subchannel_model.specs.declared.state.Subchannel.{Subchannel}
use Rattle.subchannel_model.specs.declared.state.SubchannelState.{SubchannelState}
use Rattle.subchannel_model.specs.Choosing.{paths_to_choose, chosen, marked_sub}
use Rattle.subchannel_model.specs.Sending.{carried_by, finds_full}
use Rattle.subchannel_model.specs.Accept.{takes_device}
use Rattle.subchannel_model.specs.Taking.{takes_up}
use Rattle.chan_model.specs.declared.hold_state.HoldPhase.{HoldPhase}
use Rattle.chan_model.specs.declared.hold_state.HoldPhase.TheVariants as hold
use Rattle.machine_model.specs.ChooseSteps.{choose_sub}
use Rattle.machine_model.specs.State.{State, index_of}
use Rattle.machine_model.specs.Results.{SubResult, UpResult}
use Rattle.machine_model.specs.UpSteps.{up_front, up_sub}
use Rattle.step_laws.specs.Walks as walked
use Rattle.step_laws.specs.Walks.{Walked, IsFound, IsForProgram, Suits}
use Rattle.run_laws.specs.BeginsItsOwn.{IsAnswered, IsAcceptRight}
use Rattle.run_laws.proofs.Signals.Meets as phases
use Rattle.run_laws.proofs.Signals.Meets.{takes-meets}
use Rattle.run_laws.proofs.Signals.Overs.{IsOver, over-stops, takes-right}
use Rattle.run_laws.proofs.Traces.Accepts.{over as over-stands}
use Rattle.run_laws.proofs.Offers.Offers.{ahead-over}
use Rattle.run_laws.specs.Tells as tells
use Rattle.run_laws.specs.Tells.{SentCommand, command_sent, Accepted, Meets, MeetsNone, OfBoth}
use Rattle.run_laws.specs.Traces.{ProgramTrace, chosen_at, absorbs, reported_at, offered_for, reported}
use Rattle.run_laws.proofs.Units.UnitActs.{if-ok}
use Rattle.run_laws.proofs.Links.Vanishing.{send-ok}
use Rattle.run_laws.specs.ProgramTold.{Standing, Told, OffersBy, Accepts, Ends, MeetsBy, UpBy, HasAbsorbed}

abbrev pub told : Option Orb → Option ProgramTrace → Told
told started program = record { started = started; program = program }

abbrev pub IsStarted : Option Orb → Option Program → Type 0
IsStarted started None = Unit {0}
IsStarted started (Some program) = started ≡ Some program.orb

-- Accept
abbrev command_in : Down → Option SentCommand
command_in signal = elim signal [ down.Command t n code room ↦ Some (record { number = t; command = n; sent_code = code; room = room }) | other ↦ None ]

lets-go : (t : ℕ) (sent : Option (OnPath Down)) → IsAnswered false t sent → command_sent sent ≡ None → IsAnswered true t sent
lets-go t None a e = absurd a
lets-go t (Some sent) (inl a) e = a
lets-go t (Some sent) (inr a) e = absurd (cc (sym (ap command_in a.2) ∙ e))

-- the start is over by what was seen, or it goes ahead
abbrev pub IsJust : Bool → SubchannelState → Type 0
IsJust true s = IsOver s
IsJust false s = takes_device s ≡ true

accepts : (over : Bool) (storage : Contents) (s next : SubchannelState) (t : ℕ) (sent : Option (OnPath Down)) (k after : ProgramTrace) → IsJust over s → IsAnswered false t sent →
    Accepted storage s next sent k after → Accepts over storage t sent k after
accepts true storage s next t sent k after o a (inl x) = (lets-go t sent a x.1, x.2)
accepts true storage s next t sent k after o a (inr x) = absurd (x.0 (over-stands s (over-stops s o)))
accepts false storage s next t sent k after o a (inl x) = absurd (ahead-over s o x.0)
accepts false storage s next t sent k after o a (inr x) = (a, x.1)

-- End
ends : (storage : Contents) (s next : SubchannelState) (status : DeviceStatus) (more : Bool) (sent : Option (OnPath Down)) (k after : ProgramTrace) →
    tells.Ends storage s next status more sent k after → Ends s.scsw.functions.halt storage status more sent k after
ends storage s next status more sent k after (inl x) = inr (x.0, x.2, x.1)
ends storage s next status more sent k after (inr x) = inl (x.0, x.1)

-- a signal
meets-by : (st : Standing) (former storage : Contents) (s next : SubchannelState) (signal : Up) (sent : Option (OnPath Down)) (k after : ProgramTrace) → IsAcceptRight (reply.Up signal true sent) false →
    ((t : ℕ) → signal ≡ up.Accept t → IsJust st.over s) → s.scsw.functions.halt ≡ st.halted → Meets former storage s next signal true sent k after → MeetsBy st former storage signal sent k after
meets-by st former storage s next (up.Accept t) sent k after a j h m = (m.0, m.1, accepts st.over storage s next t sent k after (j t refl) a m.2)
meets-by st former storage s next (up.Data load t c n q) sent k after a j h m =
    (m.0, m.1, m.2, m.3)
meets-by st former storage s next (up.End t n status more) sent k after a j h m =
    (m.0, m.1, m.2, subst (λ (b : Bool). Ends b storage status more sent k after) h (ends storage s next status more sent k after m.3))
meets-by st former storage s next x sent k after a j h m = (m.0, m.1)

untaken : (former storage : Contents) (s next : SubchannelState) (signal : Up) (sent : Option (OnPath Down)) (k after : ProgramTrace) →
    Meets former storage s next signal false sent k after → (_ : after ≡ k) × (storage ≡ former)
untaken former storage s next (up.Accept t) sent k after m = (m.0, m.1)
untaken former storage s next x sent k after m = (m.0, m.1)

none-stores : (former storage : Contents) (s next : SubchannelState) (signal : Up) → MeetsNone former storage s next signal → storage ≡ former
none-stores former storage s next (up.Accept t) m = m.0
none-stores former storage s next x m = m.0

abbrev Both : Contents → Contents → SubchannelState → SubchannelState → Up → Bool → Option (OnPath Down) → Option ProgramTrace → Option ProgramTrace → Type 0
Both former storage s next signal taken sent k after = OfBoth (MeetsNone former storage s next signal) (Meets former storage s next signal taken sent) k after

pub up-by : (st : Standing) (former storage : Contents) (s next : SubchannelState) (signal : Up) (taken : Bool) (sent : Option (OnPath Down)) (a : Option Orb) (k after : Option ProgramTrace) →
    IsAcceptRight (reply.Up signal taken sent) false → ((t : ℕ) → signal ≡ up.Accept t → taken ≡ true → IsJust st.over s) → s.scsw.functions.halt ≡ st.halted → Both former storage s next signal taken sent k after →
    UpBy st former storage (reply.Up signal taken sent) (told a k) (told a after)
up-by st former storage s next signal true sent a None None r j h m = (refl, none-stores former storage s next signal m)
up-by st former storage s next signal true sent a (Some k) (Some after) r j h m = (refl, meets-by st former storage s next signal sent k after r (λ t e. j t e refl) h m)
up-by st former storage s next signal true sent a None (Some after) r j h m = absurd m
up-by st former storage s next signal true sent a (Some k) None r j h m = absurd m
up-by st former storage s next signal false sent a None None r j h m = (refl, none-stores former storage s next signal m)
up-by st former storage s next signal false sent a (Some k) (Some after) r j h m =
    let same = untaken former storage s next signal sent k after m in (ap (λ (x : ProgramTrace). told a (Some x)) same.0, same.1)
up-by st former storage s next signal false sent a None (Some after) r j h m = absurd m
up-by st former storage s next signal false sent a (Some k) None r j h m = absurd m

-- an Accept that is taken answers an offer
abbrev pub AnswersOffer : SubchannelState → Reply → Type 0
AnswersOffer s r = (t : ℕ) (sent : Option (OnPath Down)) → r ≡ reply.Up (up.Accept t) true sent → (u : ℕ) × (q : ℕ) × (s.hold.phase ≡ hold.Offer u q)

meets-phase : (p t : ℕ) (x : Up) (phase : HoldPhase) (taken : Bool) (sent : Option (OnPath Down)) (next : HoldPhase) → x ≡ up.Accept t → taken ≡ true → phases.Meets p x phase taken sent next →
    (u : ℕ) × (q : ℕ) × (phase ≡ hold.Offer u q)
meets-phase p t _ _ _ _ _ e f (phases.Ignored x phase) = absurd (cc f)
meets-phase p t _ _ _ _ _ e f (phases.Turns x phase next sent plain stays quiet) = absurd (subst (λ (y : Up). phases.IsPlainUp y) e plain)
meets-phase p t _ _ _ _ _ e f (phases.Begins u q sent commands) = (u, q, refl)
meets-phase p t _ _ _ _ _ e f (phases.Declines u q) = (u, q, refl)
meets-phase p t _ _ _ _ _ e f other = absurd (cc e)

front-offers : (returns : Bool) (storage : Contents) (sub : Subchannel) (path : ℕ) (front : Option Up) → IfOk (up_front returns storage sub path front) (λ t. AnswersOffer sub.state t.reply)
front-offers returns storage sub path None = tt
front-offers returns storage sub path (Some x) =
    let step = (takes_up returns storage sub.state path x).step in
    if-ok (λ (t : UpResult). AnswersOffer sub.state t.reply) (finds_full sub.wires.down (carried_by sub step.outcome.sent)) _ _ tt
    (λ t sent e.
    let same : x ≡ up.Accept t = cc e in
    let taken : step.outcome.taken ≡ true = cc e in
    meets-phase path t x sub.state.hold.phase step.outcome.taken step.outcome.sent step.state.hold.phase same taken (takes-meets returns storage sub.state path x))

up-offers : (returns : Bool) (storage : Contents) (sub : Subchannel) (path : ℕ) → IfOk (up_sub returns storage sub path) (λ t. AnswersOffer sub.state t.reply)
up-offers returns storage sub path =
    if-ok (λ (t : UpResult). AnswersOffer sub.state t.reply) (nat_lt path (length sub.setup.paths)) (up_front returns storage sub path (slice_get (queue sub.wires.up path) 0)) _
    (front-offers returns storage sub path (slice_get (queue sub.wires.up path) 0)) tt

-- the reply to a signal that comes up
abbrev IsMetReply : Reply → Type 0
IsMetReply r = (signal : Up) × (taken : Bool) × (sent : Option (OnPath Down)) × (r ≡ reply.Up signal taken sent) × IsAcceptRight r false

front-replies : (returns : Bool) (storage : Contents) (sub : Subchannel) (path : ℕ) (front : Option Up) → IfOk (up_front returns storage sub path front) (λ t. IsMetReply t.reply)
front-replies returns storage sub path None = tt
front-replies returns storage sub path (Some x) =
    let outcome = (takes_up returns storage sub.state path x).step.outcome in
    if-ok (λ (t : UpResult). IsMetReply t.reply) (finds_full sub.wires.down (carried_by sub outcome.sent)) _ _ tt
    (x, outcome.taken, outcome.sent, refl, takes-right returns storage sub.state path x false (λ t q e o. absurd (cc o)))

up-replies : (returns : Bool) (storage : Contents) (sub : Subchannel) (path : ℕ) → IfOk (up_sub returns storage sub path) (λ t. IsMetReply t.reply)
up-replies returns storage sub path =
    if-ok (λ (t : UpResult). IsMetReply t.reply) (nat_lt path (length sub.setup.paths)) (up_front returns storage sub path (slice_get (queue sub.wires.up path) 0)) _
    (front-replies returns storage sub path (slice_get (queue sub.wires.up path) 0)) tt

quiet-not : (e : Event) (r : Reply) (word path : ℕ) → walked.IsQuiet e r → e ≡ event.Up word path → ⊥
quiet-not e r word path q h = subst (λ (x : Event). walked.IsQuiet x r) h q

pub walk-answers : (s : State) (e : Event) (r : Reply) (new : State) → Walked s e r new → (word path index : ℕ) (sub : Subchannel) → e ≡ event.Up word path → index_of s word ≡ Some index →
    slice_get s.subs index ≡ Some sub → AnswersOffer sub.state r
walk-answers s _ _ _ (walked.Stays e r new q sets subs units up) word path index sub h n there = absurd (quiet-not e r word path q h)
walk-answers s _ _ _ (walked.Tested e r at x c new q one address by answers) word path index sub h n there = absurd (quiet-not e r word path q h)
walk-answers s _ _ _ (walked.Modified e r at x given c new q one) word path index sub h n there = absurd (quiet-not e r word path q h)
walk-answers s _ _ _ (walked.Performed e r at x f c new q one by answers) word path index sub h n there = absurd (quiet-not e r word path q h)
walk-answers s _ _ _ (walked.Met w p returns at x t new m ok one may) word path index sub h n there =
    let same : w ≡ word = cc h in
    let here : at ≡ index = cc (sym m ∙ ap (index_of s) same ∙ n) in
    let mine : x ≡ sub = cc (sym one.there ∙ ap (slice_get s.subs) here ∙ there) in
    subst (λ (z : Subchannel). AnswersOffer z.state t.reply) mine
    (subst (λ (o : Result UpResult Fault). IfOk o (λ t. AnswersOffer x.state t.reply)) ok (up-offers returns s.storage x p))
walk-answers s _ _ _ (walked.Swept e r what new q sets subs units by) word path index sub h n there = absurd (quiet-not e r word path q h)
walk-answers s _ _ _ w word path index sub h n there = absurd (cc h)

pub walk-replies : (s : State) (e : Event) (r : Reply) (new : State) → Walked s e r new → (word path : ℕ) → e ≡ event.Up word path → IsMetReply r
walk-replies s _ _ _ (walked.Stays e r new q sets subs units up) word path h = absurd (quiet-not e r word path q h)
walk-replies s _ _ _ (walked.Tested e r at x c new q one address by answers) word path h = absurd (quiet-not e r word path q h)
walk-replies s _ _ _ (walked.Modified e r at x given c new q one) word path h = absurd (quiet-not e r word path q h)
walk-replies s _ _ _ (walked.Performed e r at x f c new q one by answers) word path h = absurd (quiet-not e r word path q h)
walk-replies s _ _ _ (walked.Met w p returns at x t new n ok one may) word path h =
    subst (λ (o : Result UpResult Fault). IfOk o (λ t. IsMetReply t.reply)) ok (up-replies returns s.storage x p)
walk-replies s _ _ _ (walked.Swept e r what new q sets subs units by) word path h = absurd (quiet-not e r word path q h)
walk-replies s _ _ _ w word path h = absurd (cc h)

-- a start that is offered waits
abbrev OffersWaiting : Subchannel → Reply → Type 0
OffersWaiting sub r = (t p : ℕ) → r ≡ reply.Offered t p false → (program : Program) × (sub.state.waiting ≡ Some program)

choose-offers : (sub : Subchannel) (c : Chosen) → Suits c sub.state → IfOk (choose_sub sub c) (λ t. OffersWaiting sub t.reply)
choose-offers sub (Resets r path) f = send-ok (λ t. OffersWaiting sub t.reply) sub _ path (down.Reset r sub.state.hold.known_restarts) (reply.ResetSent r path) (λ t p e. absurd (cc e))
choose-offers sub (Halts u path) f = send-ok (λ t. OffersWaiting sub t.reply) sub _ path (down.Halt u) (reply.HaltSent u path) (λ t p e. absurd (cc e))
choose-offers sub (Offers c path) f =
    send-ok (λ t. OffersWaiting sub t.reply) sub _ path (down.Select (sub.state.drawn + 1)) (reply.Offered (sub.state.drawn + 1) path c.resumes)
    (λ t p e.
    let fresh : c.resumes ≡ false = cc e in
    (c.program, subst (λ (b : Bool). IsFound sub.state.waiting sub.state.suspended b c.program) fresh f.found))
choose-offers sub other f = λ t p e. absurd (cc e)

quiet-choose : (e : Event) (r : Reply) (word : ℕ) → walked.IsQuiet e r → e ≡ event.Choose word → ⊥
quiet-choose e r word q h = subst (λ (x : Event). walked.IsQuiet x r) h q

-- a choice for the subchannel of an index
pub record IsChosen (s : State) (sub : Subchannel) (r : Reply) : Type 0 where
  pub choice : Option ℕ
  pub turn : SubResult
  pub right : IsChoice (paths_to_choose s.subs sub) choice
  pub suits : Suits (chosen sub choice) sub.state
  pub ok : choose_sub (marked_sub sub choice) (chosen sub choice) ≡ Ok turn
  pub replies : r ≡ turn.reply

pub walk-chosen : (s : State) (e : Event) (r : Reply) (new : State) → Walked s e r new → (word index : ℕ) (sub : Subchannel) → e ≡ event.Choose word → index_of s word ≡ Some index →
    slice_get s.subs index ≡ Some sub → IsChosen s sub r
walk-chosen s _ _ _ (walked.Stays e r new q sets subs units up) word index sub h n there = absurd (quiet-choose e r word q h)
walk-chosen s _ _ _ (walked.Tested e r at x c new q one address by answers) word index sub h n there = absurd (quiet-choose e r word q h)
walk-chosen s _ _ _ (walked.Modified e r at x given c new q one) word index sub h n there = absurd (quiet-choose e r word q h)
walk-chosen s _ _ _ (walked.Performed e r at x f c new q one by answers) word index sub h n there = absurd (quiet-choose e r word q h)
walk-chosen s _ _ _ (walked.Chosen w at x choice t new m y suits ok one) word index sub h n there =
    let same : w ≡ word = cc h in
    let here : at ≡ index = cc (sym m ∙ ap (index_of s) same ∙ n) in
    let mine : x ≡ sub = cc (sym one.there ∙ ap (slice_get s.subs) here ∙ there) in
    subst (λ (z : Subchannel). IsChosen s z t.reply) mine (record { choice = choice; turn = t; right = y; suits = suits; ok = ok; replies = refl })
walk-chosen s _ _ _ (walked.Swept e r what new q sets subs units by) word index sub h n there = absurd (quiet-choose e r word q h)
walk-chosen s _ _ _ w word index sub h n there = absurd (cc h)

marked-found : (sub : Subchannel) (choice : Option ℕ) (c : Chosen) → IsForProgram c sub.state → IsForProgram c (marked_sub sub choice).state
marked-found sub choice (Offers c path) f = f
marked-found sub choice other f = tt

pub offers-waiting : (s : State) (sub : Subchannel) (r : Reply) → IsChosen s sub r → OffersWaiting sub r
offers-waiting s sub r k =
    let marked : Subchannel = marked_sub sub k.choice in
    let c : Chosen = chosen sub k.choice in
    subst (λ (y : Reply). OffersWaiting sub y) (sym k.replies)
    (subst (λ (o : Result SubResult Fault). IfOk o (λ t. OffersWaiting marked t.reply)) k.ok
    (choose-offers marked c (record { fits = k.suits.fits; found = marked-found sub k.choice c k.suits.found })))

-- it is offered by a path of the operation-request block of the start that was accepted last
abbrev pub IsByPath : Option Orb → Reply → Type 0
IsByPath started r = (t path : ℕ) (resumes : Bool) → r ≡ reply.Offered t path resumes → (orb : Orb) × (started ≡ Some orb) × (has_path orb.paths path ≡ true)

pub offers-by : (old : Subchannel) (r : Reply) (a : Option Orb) (k after : Option ProgramTrace) → after ≡ chosen_at (Some old) r k → IsStarted a old.state.waiting → OffersWaiting old r →
    IsByPath a r → OffersBy r (told a k) (told a after)
offers-by old (reply.Offered t p false) a k after e i o by =
    let w = o t p refl in
    let started : a ≡ Some w.0.orb = subst (λ (x : Option Program). IsStarted a x) w.1 i in
    let on = by t p false refl in
    let same : on.0 ≡ w.0.orb = same_Some on.0 w.0.orb (sym on.1 ∙ started) in
    (w.0.orb, started, subst (λ (x : Orb). has_path x.paths p ≡ true) same on.2, ap (told a) (e ∙ ap (λ (x : Option Program). offered_for x t k) w.1))
offers-by old (reply.Offered t p true) a k after e i o by = let on = by t p true refl in (on.0, on.1, on.2, ap (told a) e)
offers-by old r a k after e i o by = ap (told a) e

-- a report
absorbed-by : (count : ℕ) (x : Option CurrentCommand) (k : ProgramTrace) → (absorbed : List ℕ) × (absorbs count x k ≡ record k { absorbed = absorbed })
absorbed-by count None k = (k.absorbed, refl)
absorbed-by count (Some x) k = by x.unabsorbed
  where
    by : (bytes : Option (List ℕ)) → (absorbed : List ℕ) × (absorbs count (Some (record x { unabsorbed = bytes })) k ≡ record k { absorbed = absorbed })
    by None = (k.absorbed, refl)
    by (Some bytes) = (_, refl)

absorbed-if : (b : Bool) (count : ℕ) (x : Option CurrentCommand) (k : ProgramTrace) → (absorbed : List ℕ) × ((if b then absorbs count x k else k) ≡ record k { absorbed = absorbed })
absorbed-if true count x k = absorbed-by count x k
absorbed-if false count x k = (k.absorbed, refl)

reported-absorbed : (u : UnitState) (report : Report) (a : DeviceAnswer) (k : ProgramTrace) → (absorbed : List ℕ) × (reported u report a k ≡ record k { absorbed = absorbed })
reported-absorbed u report (device.Absorbed count) k = absorbed-if (report.number == k.number) count u.current k
reported-absorbed u report other k = (k.absorbed, refl)

pub report-absorbed : (b : Bool) (u : Option UnitState) (report : Report) (k : Option ProgramTrace) → HasAbsorbed k (if b then reported_at u report k else k)
report-absorbed true None report None = tt
report-absorbed true (Some u) report None = tt
report-absorbed true None report (Some k) = (k.absorbed, refl)
report-absorbed true (Some u) report (Some k) = reported-absorbed u report report.answer k
report-absorbed false u report None = tt
report-absorbed false u report (Some k) = (k.absorbed, refl)
