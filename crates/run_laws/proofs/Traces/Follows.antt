-- What is told of the program of an index goes on in each step by what is seen.
use Rattle.std.proofs.Common.{◌≡◌, refl, sym, ◌∙◌, ap, subst, ℕ, Bool, false, length, Option, Some, None, Result, Err}
use Rattle.std.specs.Prelude.{if◌then◌else◌, nat_lt, slice_get, slice_set, IfOk}
use Rattle.std.proofs.lemmas.Bool.{eqb-true, eqb-false}
use Rattle.storage_keys.specs.Storage.{Contents}
use Rattle.chan_model.specs.declared.fault.Fault.{Fault}
use Rattle.chan_model.specs.declared.fault.Fault.TheVariants as fault
use Rattle.chan_model.specs.Signals.{Down, Up}
use Rattle.chan_model.specs.declared.signal.OnPath.{OnPath}
use Rattle.chan_model.specs.declared.signal.Up.TheVariants as up
use Rattle.chan_model.specs.HoldTable.{offer_accepted, is_connected, is_on}
use Rattle.chan_events.specs.Events.{Event}
use Rattle.chan_events.specs.declared.event.Event.TheVariants as event
use Rattle.chan_events.specs.Replies.{Reply}
use Rattle.chan_events.specs.declared.reply.Reply.TheVariants as reply
use Rattle.wires.specs.Queues.{queue}
use Rattle.subchannel_model.specs.declared.state.Subchannel.{Subchannel}
use Rattle.subchannel_model.specs.declared.state.SubchannelState.{SubchannelState}
use Rattle.subchannel_model.specs.Sending.{carried_by, finds_full}
use Rattle.subchannel_model.specs.Outcomes.{SignalOutcome, with_storage, signal_ignored}
use Rattle.subchannel_model.specs.Accept.{takes_device, takes_accept}
use Rattle.subchannel_model.specs.Data.{moves_data}
use Rattle.subchannel_model.specs.End.{ends_at_work}
use Rattle.subchannel_model.specs.Taking.{takes_up}
use Rattle.machine_model.specs.State.{State, index_of, with_sub}
use Rattle.machine_model.specs.Steps.{Step}
use Rattle.machine_model.specs.Results.{StepResult, UpResult}
use Rattle.machine_model.specs.UpSteps.{returns_at, up_front, up_sub}
use Rattle.step_laws.proofs.Indices.{get-set, get-other}
use Rattle.run_laws.specs.Traces.{ProgramTrace}
use Rattle.chan_model.specs.ResetCauses.{is_path}
use Rattle.run_laws.specs.Shows.{IsStandingShown}
use Rattle.run_laws.specs.Tells.{Meets, MeetsNone, OfBoth, ShowsBy, AtIndex, GoesBy}
use Rattle.run_laws.proofs.Traces.MachineTraces.{met_with, met_at, trace_meets, trace_after}
use Rattle.run_laws.proofs.Bytes.Accesses.{AreAccesses}
use Rattle.run_laws.proofs.Traces.Ties.{AreLaws}
use Rattle.run_laws.proofs.Traces.Holds.{IsHeld, IsUntold, HeldBy}
use Rattle.run_laws.proofs.Traces.HoldMeets.{signal-held}
use Rattle.run_laws.proofs.Traces.Accepts.{accept-meets}
use Rattle.run_laws.proofs.Traces.Unasked.{IsUnasked}
use Rattle.run_laws.proofs.Traces.DataMeets.{data-meets}
use Rattle.run_laws.proofs.Traces.Chains.{end-meets}
use Rattle.run_laws.proofs.Traces.Choices.{unheld-by}
use Rattle.run_laws.proofs.Offers.Offers.{IsOffered}
use Rattle.run_laws.proofs.Offers.OfferRuns.{OfferedBy}
use Rattle.run_laws.proofs.Statuses.StatusCounts.{none-counted, none-left, of-program, cleared-zero, noticed-shows, attended-left}
use Rattle.run_laws.proofs.Statuses.StepCounts.{walk-shows}
use Rattle.run_laws.proofs.Units.UnitActs.{if-ok}
use Rattle.interruptions.specs.Requests.{WaitingRequests}
use Rattle.step_laws.proofs.Results as turn
use Rattle.step_laws.proofs.Results.{ResultOf, HasResult, step-turn}

module _ (laws : AreLaws) (accesses : AreAccesses) where
  -- a signal
  abbrev MeetsBy : Contents → SubchannelState → Up → SignalOutcome → ProgramTrace → ProgramTrace → Type 0
  MeetsBy storage s signal x k after = Meets storage x.storage s x.step.state signal x.step.outcome.taken x.step.outcome.sent k after

  signal-meets : (returns : Bool) (storage : Contents) (s : SubchannelState) (p : ℕ) (signal : Up) (k : ProgramTrace) → IsHeld s k → IsOffered s k × IsUnasked s.begun →
      MeetsBy storage s signal (takes_up returns storage s p signal) k (trace_meets storage s p signal k)
  signal-meets returns storage s p (up.Accept t) k h o =
      accept-meets laws storage s k t s.hold.phase refl h o.0 (signal-held laws accesses returns storage s p (up.Accept t) k h)
  signal-meets returns storage s p (up.Data load t c n seq) k h o =
      data-meets laws accesses storage s k (record { path = p; number = t; connection = c; command = n; sequence = seq }) load (is_connected s.hold.phase p t c) refl h o.1
      (signal-held laws accesses returns storage s p (up.Data load t c n seq) k h)
  signal-meets returns storage s p (up.End t n status more) k h o =
      end-meets laws accesses storage s k (record { path = p; number = t; command = n; status = status; more = more }) (is_on s.hold.phase t) refl h
      (signal-held laws accesses returns storage s p (up.End t n status more) k h)
  signal-meets returns storage s p (up.Cleared r) k h o = (refl, refl, cleared-zero s s.hold.phase r)
  signal-meets returns storage s p (up.Notice b) k h o =
      (refl, refl, of-program s (takes_up returns storage s p (up.Notice b)).step.state (Some k) h (noticed-shows s b (nat_lt s.hold.known_restarts b)))
  signal-meets returns storage s p (up.Attn a status) k h o = (refl, refl, attended-left s p a status)
  signal-meets returns storage s p x k h o = (refl, refl, none-counted s (takes_up returns storage s p x).step.state k refl)

  -- where nothing was offered
  unoffered : (returns : Bool) (storage : Contents) (s : SubchannelState) (p : ℕ) (signal : Up) → IsUntold s → MeetsNone storage (takes_up returns storage s p signal).storage s (takes_up returns storage s p signal).step.state signal
  unoffered returns storage s p (up.Accept t) u = (
    refl,
    unheld-by (λ x. IsStandingShown s (takes_accept storage s (offer_accepted s.hold x t (takes_device s))).state) s.hold.phase s.drawn u.phase (none-left s s refl) (λ r. none-left s s refl),
  )
  unoffered returns storage s p (up.Data load t c n seq) u = (
    unheld-by
        (λ x. (if is_connected x p t c then moves_data storage s s.begun (record { path = p; number = t; connection = c; command = n; sequence = seq }) load
        else with_storage storage (signal_ignored s)).storage ≡ storage) s.hold.phase s.drawn u.phase refl (λ r. refl),
    unheld-by
        (λ x. IsStandingShown s (if is_connected x p t c then moves_data storage s s.begun (record { path = p; number = t; connection = c; command = n; sequence = seq }) load
        else with_storage storage (signal_ignored s)).step.state) s.hold.phase s.drawn u.phase (none-left s s refl) (λ r. none-left s s refl),
  )
  unoffered returns storage s p (up.End t n status more) u = (
    refl,
    unheld-by
        (λ x. IsStandingShown s (if is_on x t then ends_at_work storage s s.begun (record { path = p; number = t; command = n; status = status; more = more }) else signal_ignored s).state)
        s.hold.phase s.drawn u.phase (none-left s s refl) (λ r. none-left s s refl),
  )
  unoffered returns storage s p (up.Cleared r) u = (
    refl,
    cleared-zero s s.hold.phase r,
  )
  unoffered returns storage s p (up.Notice b) u = (
    refl,
    of-program s (takes_up returns storage s p (up.Notice b)).step.state None u (noticed-shows s b (nat_lt s.hold.known_restarts b)),
  )
  unoffered returns storage s p (up.Attn a status) u = (
    refl,
    attended-left s p a status,
  )
  unoffered returns storage s p x u = (
    refl,
    none-left s (takes_up returns storage s p x).step.state refl,
  )

  -- of a program that there is, where its subchannel agrees with it
  abbrev TurnMeets : Contents → Subchannel → UpResult → Option ProgramTrace → Option ProgramTrace → Type 0
  TurnMeets storage sub t k after =
      (signal : Up) × (taken : Bool) × (sent : Option (OnPath Down)) × (t.reply ≡ reply.Up signal taken sent)
      × (HeldBy sub.state k → OfferedBy sub.state k × IsUnasked sub.state.begun → OfBoth (MeetsNone storage t.storage sub.state t.sub.state signal) (Meets storage t.storage sub.state t.sub.state signal taken sent) k after)

  any-meets : (returns : Bool) (storage : Contents) (s : SubchannelState) (p : ℕ) (signal : Up) (k : Option ProgramTrace) → HeldBy s k → OfferedBy s k × IsUnasked s.begun →
      let x : SignalOutcome = takes_up returns storage s p signal in
      OfBoth (MeetsNone storage x.storage s x.step.state signal) (Meets storage x.storage s x.step.state signal x.step.outcome.taken x.step.outcome.sent) k (met_with storage s p (Some signal) k)
  any-meets returns storage s p signal None h o = unoffered returns storage s p signal h
  any-meets returns storage s p signal (Some k) h o = signal-meets returns storage s p signal k h o

  front-meets : (returns : Bool) (storage : Contents) (sub : Subchannel) (path : ℕ) (front : Option Up) (k : Option ProgramTrace) →
      IfOk (up_front returns storage sub path front) (λ t. TurnMeets storage sub t k (met_with storage sub.state path front k))
  front-meets returns storage sub path None k = tt
  front-meets returns storage sub path (Some signal) k =
      let x : SignalOutcome = takes_up returns storage sub.state path signal in
      if-ok (λ t. TurnMeets storage sub t k (met_with storage sub.state path (Some signal) k)) (finds_full sub.wires.down (carried_by sub x.step.outcome.sent)) (Err fault.WireFull) _ tt
      (signal, x.step.outcome.taken, x.step.outcome.sent, refl, any-meets returns storage sub.state path signal k)

  up-meets : (returns : Bool) (storage : Contents) (sub : Subchannel) (path : ℕ) (k : Option ProgramTrace) →
      IfOk (up_sub returns storage sub path) (λ t. TurnMeets storage sub t k (met_at storage (Some sub) path k))
  up-meets returns storage sub path k =
      if-ok (λ t. TurnMeets storage sub t k (met_at storage (Some sub) path k)) (nat_lt path (length sub.setup.paths))
      (up_front returns storage sub path (slice_get (queue sub.wires.up path) 0)) (Err fault.NoSuchPath)
      (front-meets returns storage sub path (slice_get (queue sub.wires.up path) 0) k) tt

  module _ (s : State) (index : ℕ) (k : Option ProgramTrace) (held : (sub : Subchannel) → slice_get s.subs index ≡ Some sub → HeldBy sub.state k)
      (offers : (sub : Subchannel) → slice_get s.subs index ≡ Some sub → OfferedBy sub.state k × IsUnasked sub.state.begun) where
    abbrev Goes : Event → Reply → State → Type 0
    Goes e r new = GoesBy index s e r new k (trace_after index s e r k)

    -- at another index no status is made
    elsewhere-made : (word at : ℕ) (sub after : Subchannel) → index_of s word ≡ Some at → is_path (index_of s word) index ≡ false → (x next : Subchannel) →
        slice_get s.subs index ≡ Some x → slice_get (slice_set s.subs at after) index ≡ Some next → next.state.serials.made ≡ x.state.serials.made
    elsewhere-made word at sub after named e x next f g =
        let apart : index ≡ at → ⊥ = λ i. eqb-false at index (sym (ap (λ (o : Option ℕ). is_path o index) named) ∙ e) (sym i) in
        let same : x ≡ next = cc (sym f ∙ sym (get-other s.subs at after index apart) ∙ g) in
        ap (λ (y : Subchannel). y.state.serials.made) (sym same)

    -- where a signal comes up
    abbrev UpGoes : ℕ → ℕ → StepResult → Type 0
    UpGoes word path t =
        (signal : Up) × (taken : Bool) × (sent : Option (OnPath Down)) × (t.reply ≡ reply.Up signal taken sent) × Goes (event.Up word path) (reply.Up signal taken sent) t.state

    turn-goes : (word path at : ℕ) (sub : Subchannel) (t : UpResult) → index_of s word ≡ Some at → slice_get s.subs at ≡ Some sub →
        TurnMeets s.storage sub t k (met_at s.storage (Some sub) path k) →
        UpGoes word path (record { reply = t.reply; state = with_sub (record s { storage = t.storage }) at t.sub })
    turn-goes word path at sub t named there m =
        let P : Subchannel → Subchannel → Option ProgramTrace → Type 0 = λ x y z. OfBoth (MeetsNone s.storage t.storage x.state y.state m.0) (Meets s.storage t.storage x.state y.state m.0 m.1 m.2) k z in (
          m.0,
          m.1,
          m.2,
          m.3,
          (
            (λ e. (
              ap (λ (b : Bool). if b then met_at s.storage (slice_get s.subs index) path k else k) e,
              elsewhere-made word at sub t.sub named e,
            )),
            (λ e x next f g.
                let here : at ≡ index = eqb-true at index (sym (ap (λ (o : Option ℕ). is_path o index) named) ∙ e) in
                let found : slice_get s.subs index ≡ Some sub = subst (λ (i : ℕ). slice_get s.subs i ≡ Some sub) here there in
                let old : sub ≡ x = cc (sym found ∙ f) in
                let left : slice_get (slice_set s.subs at t.sub) index ≡ Some t.sub =
                subst (λ (i : ℕ). slice_get (slice_set s.subs at t.sub) i ≡ Some t.sub) here (get-set s.subs at sub t.sub there) in
                let new : t.sub ≡ next = cc (sym left ∙ g) in
                let told : trace_after index s (event.Up word path) (reply.Up m.0 m.1 m.2) k ≡ met_at s.storage (Some sub) path k =
                ap (λ (b : Bool). if b then met_at s.storage (slice_get s.subs index) path k else k) e ∙ ap (λ (o : Option Subchannel). met_at s.storage o path k) found in
                subst (λ (z : Option ProgramTrace). P x next z) (sym told)
                (subst (λ (y : Subchannel). P y next (met_at s.storage (Some sub) path k)) old
                (subst (λ (y : Subchannel). P sub y (met_at s.storage (Some sub) path k)) new (m.4 (held sub found) (offers sub found))))),
          ),
        )

    up-goes : (word path : ℕ) (r : Reply) (new : State) (waiting : WaitingRequests) → ResultOf s (event.Up word path) r new → Goes (event.Up word path) r (record new { requests = waiting })
    up-goes _ _ _ _ waiting (turn.Meets word path at sub t named there ok) =
        let g : UpGoes word path (record { reply = t.reply; state = with_sub (record s { storage = t.storage }) at t.sub }) =
        turn-goes word path at sub t named there
        (subst (λ (x : Result UpResult Fault). IfOk x (λ t. TurnMeets s.storage sub t k (met_at s.storage (Some sub) path k))) ok (up-meets (returns_at s.subs sub path) s.storage sub path k)) in
        subst (λ (x : Reply). Goes (event.Up word path) x (record (with_sub (record s { storage = t.storage }) at t.sub) { requests = waiting })) (sym g.3) g.4

    other-goes : (e : Event) (r : Reply) (new : State) → Step s e r new → ((word path : ℕ) → e ≡ event.Up word path → ⊥) → AtIndex index s new (λ x y. ShowsBy e x y k)
    other-goes e r new step n = walk-shows s index k held e r new (laws.walks s e r new step) n

    pub step-goes : (e : Event) (r : Reply) (new : State) → Step s e r new → Goes e r new
    step-goes (event.Up word path) r new step =
        let is : HasResult s (event.Up word path) r new = step-turn s (event.Up word path) r new step in
        subst (Goes (event.Up word path) r) (sym is.settles) (up-goes word path r is.left _ is.turn)
    step-goes v r new step = (refl, other-goes v r new step (λ w p e. cc e))
