-- After each run what was seen of a unit is what the unit keeps, and with it the subchannels agree: in each entry they do.
use Rattle.std.proofs.Common.{◌≡◌, refl, sym, ◌∙◌, ap, subst, ℕ, zero, suc, ◌+◌, ◌<◌, ◌==◌, ◌&&◌, nat_lt, Bool, true, false, Option, None, Some, Result, List, [], ◌∷◌, length, map, slice_get, IfOk, if◌then◌else◌, inl, inr}
use Rattle.std.specs.Prelude.{◌⊎◌, IfSome}
use Rattle.std.proofs.lemmas.Bool.{eqb-true, eq-eqb}
use Rattle.std.proofs.lemmas.Option.{slice_get_within, get_or_from_slice_get}
use Rattle.chan_events.specs.Events.{Event}
use Rattle.chan_events.specs.declared.event.Event.TheVariants as event
use Rattle.chan_events.specs.declared.reply.Entry.{Entry}
use Rattle.chan_events.specs.Replies.{Reply}
use Rattle.chan_events.specs.declared.reply.Reply.TheVariants as reply
use Rattle.chan_model.specs.Agreement.{Agrees, IsOutstanding, owner_of}
use Rattle.chan_model.specs.declared.fault.Fault.{Fault}
use Rattle.chan_model.specs.declared.hold_state.HoldPhase.{HoldPhase}
use Rattle.chan_model.specs.declared.hold_state.HoldPhase.TheVariants as hold
use Rattle.chan_model.specs.declared.names.Side.{Side}
use Rattle.chan_model.specs.declared.names.Side.TheVariants.{First, Second}
use Rattle.chan_model.specs.Signals.{Down, Up}
use Rattle.chan_model.specs.declared.signal.Down.TheVariants as down
use Rattle.chan_model.specs.declared.signal.OnPath.{OnPath}
use Rattle.chan_model.specs.declared.signal.Up.TheVariants as up
use Rattle.chan_model.specs.declared.unit_state.Own.{Own}
use Rattle.chan_model.specs.declared.unit_state.Own.TheVariants as own
use Rattle.chan_model.specs.declared.unit_state.UnitState.{UnitState}
use Rattle.chan_model.specs.Sides.{same_side}
use Rattle.chan_model.specs.UnitTable.{side_of}
use Rattle.channel_config.specs.declared.parts.SubchannelSetup.{SubchannelSetup}
use Rattle.channel_config.specs.Lawful.{IsLawful, IsPlaced}
use Rattle.channel_config.specs.Setup.{Setup, set_count}
use Rattle.channel_config.specs.SubchannelWords.{subchannel_named}
use Rattle.storage_keys.specs.Storage.{Contents}
use Rattle.wires.specs.Queues.{queue}
use Rattle.subchannel_model.specs.declared.state.Chosen.{Chosen}
use Rattle.subchannel_model.specs.declared.state.Chosen.TheVariants.{Resets, Halts, Offers}
use Rattle.subchannel_model.specs.declared.state.Subchannel.{Subchannel}
use Rattle.subchannel_model.specs.declared.state.UpStep.{UpStep}
use Rattle.subchannel_model.specs.Choosing.{IsFitFor, chosen, marked_sub}
use Rattle.subchannel_model.specs.Sending.{carried_by, finds_full}
use Rattle.subchannel_model.specs.Taking.{takes_up}
use Rattle.machine_model.specs.ChooseSteps.{choose_sub}
use Rattle.machine_model.specs.Setups.{IsSetUp}
use Rattle.machine_model.specs.State.{State, opening_of}
use Rattle.machine_model.specs.Steps.{Run, Opened, Stepped}
use Rattle.machine_model.specs.Results.{SubResult, UpResult}
use Rattle.machine_model.specs.UpSteps.{up_front, up_sub}
use Rattle.step_laws.proofs.Indices.{get-set, both-true}
use Rattle.step_laws.specs.Walks as walked
use Rattle.step_laws.specs.Walks.{AreWalks, Walked, IsQuiet}
use Rattle.run_laws.specs.Agreeing.{IsAgreed, AllAgree}
use Rattle.run_laws.specs.Devices.{Holding, side_seen, nothing_held, is_held_by, is_holder, setup_named, holding_after}
use Rattle.agreement_laws.specs.Holders.{IsRestarted, ComesOfHolder}
use Rattle.run_laws.specs.BothAgree.{IsHolderOr, IsUnheldOr, GoesToHolder, AgreesIn, AgreesSet, IsEntryAgreed, DoBothAgree}
use Rattle.run_laws.specs.Entries.{Throughout}
use Rattle.run_laws.proofs.Machine.Appending.{claim-more}
use Rattle.run_laws.proofs.Signals.Holdings.{holder_in, holding_of}
use Rattle.run_laws.proofs.Signals.UnitTurns.{setups, setup-is, if-ok}
use Rattle.run_laws.proofs.Signals.HolderRuns.{IsSeen, AreKnown, IsRunRight, run-right, run_seen, there-is}
use Rattle.run_laws.proofs.Signals.Meets.{IsPlainUp, ArePlainDown, AreCommandsOn, AreDataAnswers, Meets, takes-meets}
use Rattle.run_laws.proofs.Signals.Meets as meets

-- what a hold and its unit agree on, as it is seen
abbrev AgreeAt : HoldPhase → UnitState → Side → Type 0
AgreeAt phase u side = Agrees phase (owner_of u.own side) ⊎ IsOutstanding phase (side_of u side)

fresh-seen : (u : UnitState) (side : Side) → (side_of u side).fresh ≡ true → IsRestarted (side_seen (holding_of u) side)
fresh-seen u First e = e
fresh-seen u Second e = e

owner-holds : (k side : Side) (t v : ℕ) (b : Bool) → same_side k side ≡ b → (if b then Some v else None) ≡ Some t → (same_side k side && (t == v)) ≡ true
owner-holds k side t v true e f = both-true (same_side k side) (t == v) e (eq-eqb t v (sym (cc f)))
owner-holds k side t v false e f = absurd (cc f)

owner-is : (u : UnitState) (o : Own) (side : Side) (t : ℕ) → owner_of o side ≡ Some t → is_holder (holder_in u o) side t ≡ true
owner-is u own.Idle side t e = absurd (cc e)
owner-is u (own.Owned k v at) side t e = owner-holds k side t v (same_side k side) refl e

none-held : (b : Bool) (v : ℕ) → (if b then Some v else None) ≡ None → b ≡ false
none-held true v e = absurd (cc e)
none-held false v e = refl

owner-none : (u : UnitState) (o : Own) (side : Side) → owner_of o side ≡ None → is_held_by (holder_in u o) side ≡ false
owner-none u own.Idle side e = refl
owner-none u (own.Owned k v at) side e = none-held (same_side k side) v e

on-holder : (t p c : ℕ) (u : UnitState) (side : Side) → AgreeAt (hold.On t p c) u side → IsHolderOr (holding_of u) side t
on-holder t p c u side (inl e) = inl (owner-is u u.own side t e)
on-holder t p c u side (inr (inl f)) = inr (fresh-seen u side f)
on-holder t p c u side (inr (inr f)) = absurd f

away-holder : (t : ℕ) (u : UnitState) (side : Side) → AgreeAt (hold.Away t) u side → IsHolderOr (holding_of u) side t
away-holder t u side (inl e) = inl (owner-is u u.own side t e)
away-holder t u side (inr (inl f)) = inr (fresh-seen u side f)
away-holder t u side (inr (inr f)) = absurd f

free-unheld : (u : UnitState) (side : Side) → AgreeAt hold.Free u side → IsUnheldOr (holding_of u) side
free-unheld u side (inl e) = inl (owner-none u u.own side e)
free-unheld u side (inr (inl f)) = inr (fresh-seen u side f)
free-unheld u side (inr (inr f)) = absurd f

-- what is sent
plain-up : (k : Holding) (side : Side) (x : Up) → IsPlainUp x → ComesOfHolder (IsHolderOr k side) x
plain-up k side (up.Accept t) n = tt
plain-up k side (up.Busy t) n = tt
plain-up k side (up.Leave t c) n = absurd n
plain-up k side (up.Back t c) n = tt
plain-up k side (up.Data load t c m s) n = absurd n
plain-up k side (up.End t m status more) n = absurd n
plain-up k side (up.Released t) n = tt
plain-up k side (up.Cleared r) n = tt
plain-up k side (up.Notice b) n = tt
plain-up k side (up.Attn a status) n = tt

plain-down : (k : Holding) (side : Side) (d : Down) → meets.IsPlainDown d → GoesToHolder k side d
plain-down k side _ (meets.Offers t) = tt
plain-down k side _ (meets.Refuses t c) = tt
plain-down k side _ (meets.Halts t) = tt
plain-down k side _ (meets.Resets r b) = tt
plain-down k side _ (meets.Answers a) = tt

plain-answer : (k : Holding) (side : Side) (sent : Option (OnPath Down)) → ArePlainDown sent → IfSome sent (λ x. GoesToHolder k side x.signal)
plain-answer k side None n = tt
plain-answer k side (Some s) n = plain-down k side s.signal n

command-goes : (k : Holding) (side : Side) (t p q : ℕ) (d : Down) → meets.IsCommandOn t p q d → IsHolderOr k side t → GoesToHolder k side d
command-goes k side t p q _ (meets.Sends_command v m code room number path) h = subst (λ (w : ℕ). IsHolderOr k side w) number h

command-answer : (k : Holding) (side : Side) (t p : ℕ) (sent : Option (OnPath Down)) → AreCommandsOn t p sent → IsHolderOr k side t → IfSome sent (λ x. GoesToHolder k side x.signal)
command-answer k side t p None n h = tt
command-answer k side t p (Some s) n h = command-goes k side t p s.path s.signal n h

data-goes : (k : Holding) (side : Side) (t p c q : ℕ) (d : Down) → meets.IsDataAnswer t p c q d → IsHolderOr k side t → GoesToHolder k side d
data-goes k side t p c q _ (meets.Sends_room v m s room number path) h = subst (λ (w : ℕ). IsHolderOr k side w) number h
data-goes k side t p c q _ (meets.Sends_bytes bytes v d m s number path connection) h = subst (λ (w : ℕ). IsHolderOr k side w) number h

data-answer : (k : Holding) (side : Side) (t p c : ℕ) (sent : Option (OnPath Down)) → AreDataAnswers t p c sent → IsHolderOr k side t → IfSome sent (λ x. GoesToHolder k side x.signal)
data-answer k side t p c None n h = tt
data-answer k side t p c (Some s) n h = data-goes k side t p c s.path s.signal n h

-- a signal came up: they agreed before it, and agree after it
abbrev AgreesUp : UnitState → Side → Up → Bool → Option (OnPath Down) → Type 0
AgreesUp u side x taken sent = AgreesIn side (reply.Up x taken sent) (holding_of u)

meets-agree : (u : UnitState) (side : Side) (p : ℕ) (x : Up) (phase : HoldPhase) (taken : Bool) (sent : Option (OnPath Down)) (next : HoldPhase) → Meets p x phase taken sent next →
    AgreeAt phase u side → AgreeAt next u side → AgreesUp u side x taken sent
meets-agree u side p _ _ _ _ _ (meets.Ignored x phase) old new = tt
meets-agree u side p _ _ _ _ _ (meets.Turns x phase next sent plain stays sends) old new = (plain-up (holding_of u) side x plain, plain-answer (holding_of u) side sent sends)
meets-agree u side p _ _ _ _ _ (meets.Begins t q sent sends) old new = (tt, command-answer (holding_of u) side t q sent sends (on-holder t q 0 u side new))
meets-agree u side p _ _ _ _ _ (meets.Declines t q) old new = (tt, tt)
meets-agree u side p _ _ _ _ _ (meets.Moves t c n s load sent sends) old new =
    let h : IsHolderOr (holding_of u) side t = on-holder t p c u side old in (h, data-answer (holding_of u) side t p c sent sends h)
meets-agree u side p _ _ _ _ _ (meets.Ends x t q c sent sends) old new =
    let h : IsHolderOr (holding_of u) side t = on-holder t q c u side old in (h, command-answer (holding_of u) side t p sent sends h)
meets-agree u side p _ _ _ _ _ (meets.Ends_last x t q c) old new = (on-holder t q c u side old, tt)
meets-agree u side p _ _ _ _ _ (meets.Leaves t q c) old new = (on-holder t q c u side old, tt)
meets-agree u side p _ _ _ _ _ (meets.Grants t c) old new = (tt, on-holder t p c u side new)

abbrev IsUpAgreed : UnitState → Subchannel → UpResult → Type 0
IsUpAgreed u sub t = AgreeAt sub.state.hold.phase u sub.setup.side → AgreeAt t.sub.state.hold.phase u sub.setup.side → AgreesIn sub.setup.side t.reply (holding_of u)

abbrev IsUpGood : UnitState → Subchannel → UpResult → Type 0
IsUpGood u sub t = (t.sub.setup ≡ sub.setup) × IsUpAgreed u sub t

front-agrees : (u : UnitState) (returns : Bool) (storage : Contents) (sub : Subchannel) (path : ℕ) (front : Option Up) → IfOk (up_front returns storage sub path front) (IsUpGood u sub)
front-agrees u returns storage sub path None = tt
front-agrees u returns storage sub path (Some x) =
    let step : UpStep = (takes_up returns storage sub.state path x).step in
    if-ok (IsUpGood u sub) (finds_full sub.wires.down (carried_by sub step.outcome.sent)) _ _ tt (
      refl,
      λ old new.
          meets-agree u sub.setup.side path x sub.state.hold.phase step.outcome.taken step.outcome.sent step.state.hold.phase (takes-meets returns storage sub.state path x) old new,
    )

up-agrees : (u : UnitState) (returns : Bool) (storage : Contents) (sub : Subchannel) (path : ℕ) → IfOk (up_sub returns storage sub path) (IsUpGood u sub)
up-agrees u returns storage sub path =
    if-ok (IsUpGood u sub) (nat_lt path (length sub.setup.paths)) (up_front returns storage sub path (slice_get (queue sub.wires.up path) 0)) _
    (front-agrees u returns storage sub path (slice_get (queue sub.wires.up path) 0)) tt

-- what is chosen
held-agrees : (phase : HoldPhase) (t : ℕ) (u : UnitState) (side : Side) → IsFitFor (Halts t 0) (record { phase = phase; seen = 0; known_restarts = 0; reset_path = None; first_path = None; single_path = false }) →
    AgreeAt phase u side → IsHolderOr (holding_of u) side t
held-agrees (hold.On v q c) t u side fit a = subst (λ (n : ℕ). IsHolderOr (holding_of u) side n) (sym fit) (on-holder v q c u side a)
held-agrees (hold.Away v) t u side fit a = subst (λ (n : ℕ). IsHolderOr (holding_of u) side n) (sym fit) (away-holder v u side a)
held-agrees other t u side fit a = absurd fit

abbrev IsChosenAgreed : UnitState → Side → SubResult → Type 0
IsChosenAgreed u side t = AgreesIn side t.reply (holding_of u)

choose-agrees : (u : UnitState) (sub : Subchannel) (c : Chosen) → IsFitFor c sub.state.hold → AgreeAt sub.state.hold.phase u sub.setup.side → IfOk (choose_sub sub c) (IsChosenAgreed u sub.setup.side)
choose-agrees u sub (Resets r path) fit a =
    if-ok (IsChosenAgreed u sub.setup.side) (finds_full sub.wires.down (carried_by sub (Some (record { path = path; signal = down.Reset r sub.state.hold.known_restarts })))) _ _ tt tt
choose-agrees u sub (Halts t path) fit a =
    if-ok (IsChosenAgreed u sub.setup.side) (finds_full sub.wires.down (carried_by sub (Some (record { path = path; signal = down.Halt t })))) _ _ tt
    (held-agrees sub.state.hold.phase t u sub.setup.side fit a)
choose-agrees u sub (Offers c path) fit a =
    if-ok (IsChosenAgreed u sub.setup.side) (finds_full sub.wires.down (carried_by sub (Some (record { path = path; signal = down.Select (sub.state.drawn + 1) })))) _ _ tt
    (free-unheld u sub.setup.side (subst (λ (y : HoldPhase). AgreeAt y u sub.setup.side) fit a))
choose-agrees u sub other fit a = tt

-- each subchannel has its unit
get-map : {A B : Type 0} (f : A → B) (xs : List A) (n : ℕ) (x : A) → slice_get xs n ≡ Some x → slice_get (map f xs) n ≡ Some (f x)
get-map f [] n x e = absurd (cc e)
get-map f (y ∷ ys) zero x e = let same : y ≡ x = cc e in ap (λ z. Some (f z)) same
get-map f (y ∷ ys) (suc n) x e = get-map f ys n x e

has-unit : (setup : Setup) (s : State) (index : ℕ) (sub : Subchannel) → IsSetUp setup s → slice_get s.subs index ≡ Some sub → (u : UnitState) × (slice_get s.units sub.setup.«unit» ≡ Some u)
has-unit setup s index sub k there =
    let at : slice_get setup.subchannels index ≡ Some sub.setup =
    subst (λ (xs : List SubchannelSetup). slice_get xs index ≡ Some sub.setup) k.subs (get-map (λ (y : Subchannel). y.setup) s.subs index sub there) in
    let placed : IsPlaced (set_count setup) (length setup.units) setup.paths sub.setup =
    subst (λ (y : SubchannelSetup). IsPlaced (set_count setup) (length setup.units) setup.paths y) (get_or_from_slice_get setup.subchannels index sub.setup sub.setup at)
    (k.lawful.subchannels index sub.setup (slice_get_within setup.subchannels index sub.setup at)) in
    there-is s.units sub.setup.«unit» (subst (λ (n : ℕ). sub.setup.«unit» < n) (sym k.units) placed.«unit»)

-- quiet events
quiet-agreed : (sets : ℕ) (subs : List SubchannelSetup) (at : ℕ) (e : Event) (r : Reply) (k : Holding) → IsQuiet e r → IsEntryAgreed sets subs at e r k
quiet-agreed sets subs at (event.Choose word) r k q = absurd q
quiet-agreed sets subs at (event.Up word path) r k q = absurd q
quiet-agreed sets subs at e r k q = tt

-- an entry of a subchannel, where what it and its unit agree on makes it right
set-agreed : (setup : Setup) (at : ℕ) (s : State) (word index : ℕ) (sub : Subchannel) (r : Reply) (k : Holding) → IsSetUp setup s → IsSeen at s.units k →
    setup_named (setups s.subs) (subchannel_named s.sets word) ≡ Some sub.setup → slice_get s.subs index ≡ Some sub →
    ((u : UnitState) → slice_get s.units sub.setup.«unit» ≡ Some u → AgreesIn sub.setup.side r (holding_of u)) →
    AgreesSet at (setup_named (setups s.subs) (subchannel_named s.sets word)) r k
set-agreed setup at s word index sub r k set seen is there f =
    let unit = has-unit setup s index sub set there in
    subst (λ (o : Option SubchannelSetup). AgreesSet at o r k) (sym is)
    (λ h.
    subst (λ (x : Holding). AgreesIn sub.setup.side r x) (sym (seen unit.0 (subst (λ (n : ℕ). slice_get s.units n ≡ Some unit.0) (eqb-true sub.setup.«unit» at h) unit.1)))
    (f unit.0 unit.1))

walked-agreed : (setup : Setup) (at : ℕ) (s : State) (e : Event) (r : Reply) (new : State) (k : Holding) → Walked s e r new → IsSetUp setup s → AllAgree s → AllAgree new → IsSeen at s.units k →
    IsEntryAgreed s.sets (setups s.subs) at e r k
walked-agreed setup at s _ _ _ k (walked.Stays e r new q sets subs units up) set old now seen = quiet-agreed s.sets (setups s.subs) at e r k q
walked-agreed setup at s _ _ _ k (walked.Tested e r index sub c new q one address by answers) set old now seen = quiet-agreed s.sets (setups s.subs) at e r k q
walked-agreed setup at s _ _ _ k (walked.Modified e r index sub given c new q one) set old now seen = quiet-agreed s.sets (setups s.subs) at e r k q
walked-agreed setup at s _ _ _ k (walked.Performed e r index sub f c new q one by answers) set old now seen = quiet-agreed s.sets (setups s.subs) at e r k q
walked-agreed setup at s _ _ _ k (walked.Chosen word index sub choice t new n x w ok one) set old now seen =
    set-agreed setup at s word index sub t.reply k set seen (setup-is s.subs (subchannel_named s.sets word) index sub n one.there) one.there
    (λ u found.
    let a : IsAgreed sub.state.hold.phase u sub.setup.side = old index sub u one.there found in
    subst (λ (r : Result SubResult Fault). IfOk r (IsChosenAgreed u sub.setup.side)) ok (choose-agrees u (marked_sub sub choice) (chosen sub choice) w.fits a.agree))
walked-agreed setup at s _ _ _ k (walked.Met word path returns index sub t new n ok one may) set old now seen =
    set-agreed setup at s word index sub t.reply k set seen (setup-is s.subs (subchannel_named s.sets word) index sub n one.there) one.there
    (λ u found.
    let got : IsUpGood u sub t = subst (λ (r : Result UpResult Fault). IfOk r (IsUpGood u sub)) ok (up-agrees u returns s.storage sub path) in
    let a : IsAgreed sub.state.hold.phase u sub.setup.side = old index sub u one.there found in
    let there : slice_get new.subs index ≡ Some t.sub = ap (λ (xs : List Subchannel). slice_get xs index) one.subs ∙ get-set s.subs index sub t.sub one.there in
    let b : IsAgreed t.sub.state.hold.phase u t.sub.setup.side =
    now index t.sub u there (ap (λ (y : SubchannelSetup). slice_get new.units y.«unit») got.0 ∙ (ap (λ (us : List UnitState). slice_get us sub.setup.«unit») one.units ∙ found)) in
    got.1 a.agree (subst (λ (y : SubchannelSetup). AgreeAt t.sub.state.hold.phase u y.side) got.0 b.agree))
walked-agreed setup at s _ _ _ k (walked.Swept e r what new q sets subs units by) set old now seen = quiet-agreed s.sets (setups s.subs) at e r k q
walked-agreed setup at s _ _ _ k w set old now seen = tt

abbrev DoRunsAgree : Type 0
DoRunsAgree = (setup : Setup) (h : List Entry) (s : State) → IsLawful setup → Run (opening_of setup) h s → AllAgree s

run-agreed : AreWalks → AreKnown → DoRunsAgree → (setup : Setup) (at : ℕ) (h : List Entry) (s : State) → IsLawful setup → Run (opening_of setup) h s →
    Throughout (holding_after (set_count setup) setup.subchannels at) (IsEntryAgreed (set_count setup) setup.subchannels at) nothing_held h
run-agreed walks known agree setup at _ _ lawful Opened = tt
run-agreed walks known agree setup at _ _ lawful (Stepped h old e r new run step) =
    let before : IsRunRight setup h old = run-right known setup h old lawful run in
    let k : Holding = run_seen setup h at in
    let now : IsEntryAgreed old.sets (setups old.subs) at e r k =
    walked-agreed setup at old e r new k (walks old e r new step) before.set_up (agree setup h old lawful run) (agree setup _ new lawful (Stepped h old e r new run step)) (before.seen at) in
    claim-more (holding_after (set_count setup) setup.subchannels at) (IsEntryAgreed (set_count setup) setup.subchannels at) nothing_held h e r
    (run-agreed walks known agree setup at h old lawful run)
    (subst (λ (n : ℕ). IsEntryAgreed n setup.subchannels at e r k) before.set_up.sets
    (subst (λ (xs : List SubchannelSetup). IsEntryAgreed old.sets xs at e r k) before.set_up.subs now))

pub run-both-agree : AreWalks → AreKnown → DoRunsAgree → (setup : Setup) (h : List Entry) (s : State) → IsLawful setup → Run (opening_of setup) h s → DoBothAgree setup h
run-both-agree walks known agree setup h s lawful run = λ at. run-agreed walks known agree setup at h s lawful run
