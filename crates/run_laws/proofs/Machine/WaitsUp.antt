-- What waits at a subchannel, after it took a signal that came up.
use Rattle.std.proofs.Common.{◌≡◌, refl, sym, ◌∙◌, ap, subst, ℕ, Bool, true, false, not, ◌==◌, Option, None, Some, is_some, arith, inl, inr}
use Rattle.std.specs.Prelude.{◌&&◌, nat_lt, if◌then◌else◌}
use Rattle.std.proofs.lemmas.Bool.{eqb-true, eq-eqb, and_parts}
use Rattle.storage_keys.specs.Storage.{Contents}
use Rattle.chan_model.specs.declared.hold_state.HoldPhase.{HoldPhase}
use Rattle.chan_model.specs.declared.hold_state.HoldPhase.TheVariants as hold
use Rattle.chan_model.specs.declared.hold_state.HoldState.{HoldState}
use Rattle.chan_model.specs.Signals.{Load, Up, load_bytes}
use Rattle.chan_model.specs.declared.signal.Up.TheVariants as up
use Rattle.chan_model.specs.HoldTable.{outcome_of, HoldStep, program_begun, found_busy, left, asked_back, released, reset_cleared, attended, hold_takes, hold_after, is_connected, is_on}
use Rattle.chan_model.specs.Loads.{load_length}
use Rattle.chan_model.specs.ResetCauses.{is_held}
use Rattle.chan_model.specs.UnitReports.{is_last_end, is_outward, has_device_end}
use Rattle.ccw_walk.specs.Positions.{WalkPosition}
use Rattle.data_move.specs.Moving.{residual}
use Rattle.data_move.specs.declared.transfer.CommandStart.{CommandStart}
use Rattle.data_move.specs.declared.transfer.CommandStart.TheVariants as outcome
use Rattle.data_move.specs.declared.transfer.Transfer.{Transfer}
use Rattle.data_move.specs.Commands.{first_command, next_command, begun_with_room, with_room}
use Rattle.data_move.specs.ToDevice.{chunk_absorbed, next_chunk}
use Rattle.data_move.specs.FromDevice.{chunk_stored}
use Rattle.data_move.specs.ChunkNumbers.{is_answered}
use Rattle.subchannel_model.specs.declared.cause.StatusCause.TheVariants as cause
use Rattle.subchannel_model.specs.declared.signals.DataSignal.{DataSignal}
use Rattle.subchannel_model.specs.declared.signals.EndSignal.{EndSignal}
use Rattle.subchannel_model.specs.declared.state.ActiveProgram.{ActiveProgram}
use Rattle.subchannel_model.specs.declared.state.Program.{Program}
use Rattle.subchannel_model.specs.declared.state.ProgramPosition.{ProgramPosition}
use Rattle.subchannel_model.specs.declared.state.SubchannelState.{SubchannelState}
use Rattle.subchannel_model.specs.declared.state.UpStep.{UpStep}
use Rattle.scsw_irb.specs.declared.scsw.Scsw.{Scsw}
use Rattle.subchannel_model.specs.Causes.{with_cause}
use Rattle.subchannel_model.specs.Ends.{has_status_modifier, chains_command}
use Rattle.subchannel_model.specs.Taking.{takes_up}
use Rattle.subchannel_model.specs.Attention.{with_attention, may_take_attention}
use Rattle.subchannel_model.specs.Pci.{with_pci_of, without_pci}
use Rattle.subchannel_model.specs.Data.{gives_next_chunk, after_chunk, tells_room_after, moves_bytes, moves_data}
use Rattle.subchannel_model.specs.Back.{takes_back}
use Rattle.subchannel_model.specs.Outcomes.{SignalOutcome, with_storage, signal_ignored, signal_taken, device_released, hold_outcome}
use Rattle.subchannel_model.specs.Accept.{position_at_start, suspended_position, position_of_start, offered_position, takes_device, with_path_used, with_program_at_work, first_ccw_outcome, begins_at, halt_performed, takes_accept}
use Rattle.subchannel_model.specs.Suspension.{program_suspended, suspended_alone, with_suspended_program}
use Rattle.subchannel_model.specs.Command.{with_transfer}
use Rattle.subchannel_model.specs.End.{with_first_end, with_allegiance_after_end, next_ccw_outcome, chains_at_device_end, concludes, ends_command, ends_at_work, chains_with, with_end_status}
use Rattle.subchannel_model.specs.Cleared.{takes_cleared}
use Rattle.run_laws.proofs.Machine.Resetting.{notice-turned}
use Rattle.run_laws.proofs.Machine.Waits.{no-less, WaitsAs, IsBegunHeld, Waits, Turned, IsCalm, kept, cause-calm, fault-begun, fault-waiting, end-held, end-begun, not-begun, none-held, held-by, held-on, let-offer, moved-as, calm-as, calm-turned, same-turned, if-turned}

-- an offer stays, and so does what is held
record IsStill (h : HoldState) (step : Option HoldStep) : Type 0 where
  pub offer : (t p : ℕ) → h.phase ≡ hold.Offer t p → (hold_after h step).phase ≡ hold.Offer t p
  pub held : is_held h.phase ≡ true → is_held (hold_after h step).phase ≡ true

no-step : (h : HoldState) → IsStill h None
no-step h = record { offer = λ t p e. e; held = λ e. e }

same-phase : (h : HoldState) (step : HoldStep) → step.state.phase ≡ h.phase → IsStill h (Some step)
same-phase h step s = record { offer = λ t p e. s ∙ e; held = λ e. ap is_held s ∙ e }

-- from a phase that is no offer
other-phase : (h : HoldState) (phase : HoldPhase) (step : HoldStep) → h.phase ≡ phase → ((t p : ℕ) → phase ≡ hold.Offer t p → ⊥) →
    (is_held phase ≡ true → is_held step.state.phase ≡ true) → IsStill h (Some step)
other-phase h phase step e n f = record { offer = λ t p g. absurd (n t p (sym e ∙ g)); held = λ g. f (ap is_held (sym e) ∙ g) }

if-still : (h : HoldState) (b : Bool) (x y : Option HoldStep) → IsStill h x → IsStill h y → IsStill h (if b then x else y)
if-still h true x y e f = e
if-still h false x y e f = f

left-still : (h : HoldState) (phase : HoldPhase) (u d : ℕ) → h.phase ≡ phase → IsStill h (left h phase u d)
left-still h (hold.On t p c) u d e = if-still h ((u == t) && (d == c)) _ None (other-phase h (hold.On t p c) _ e (λ v q g. absurd (cc g)) (λ g. refl)) (no-step h)
left-still h other u d e = no-step h

back-still : (h : HoldState) (phase : HoldPhase) (p u c : ℕ) (may : Bool) → h.phase ≡ phase → IsStill h (asked_back h phase p u c may)
back-still h (hold.On t q d) p u c may e = if-still h ((u == t) && nat_lt h.seen c) _ None (same-phase h _ refl) (no-step h)
back-still h (hold.Away t) p u c may e =
    if-still h ((u == t) && nat_lt h.seen c) (if may then Some _ else Some _) None
    (if-still h may (Some _) (Some _) (other-phase h (hold.Away t) _ e (λ v q g. absurd (cc g)) (λ g. refl)) (same-phase h _ refl)) (no-step h)
back-still h other p u c may e = no-step h

released-still : (h : HoldState) (phase : HoldPhase) (u : ℕ) → h.phase ≡ phase → IsStill h (released h phase u)
released-still h (hold.Letting t p) u e = if-still h (u == t) _ None (other-phase h (hold.Letting t p) _ e (λ v q g. absurd (cc g)) (λ g. absurd (cc g))) (no-step h)
released-still h other u e = no-step h

cleared-still : (h : HoldState) (phase : HoldPhase) (u : ℕ) → h.phase ≡ phase → IsStill h (reset_cleared h phase u)
cleared-still h (hold.Reset r) u e = if-still h (u == r) _ None (other-phase h (hold.Reset r) _ e (λ v q g. absurd (cc g)) (λ g. absurd (cc g))) (no-step h)
cleared-still h other u e = no-step h

attended-still : (h : HoldState) (phase : HoldPhase) (p a : ℕ) (may : Bool) → h.phase ≡ phase → IsStill h (attended h phase p a may)
attended-still h hold.Free p a may e = if-still h may _ None (same-phase h _ refl) (no-step h)
attended-still h other p a may e = no-step h

-- a program that was suspended is neither begun nor waits
abbrev IsBare : SubchannelState → Type 0
IsBare s = (s.waiting ≡ None) × (s.begun ≡ None)

if-bare : (b : Bool) (x y : SubchannelState) → IsBare x → IsBare y → IsBare (if b then x else y)
if-bare true x y e f = e
if-bare false x y e f = f

suspending-bare : (s : SubchannelState) (program : Program) (walk : WalkPosition) (count : ℕ) → IsBare (program_suspended s program walk count)
suspending-bare s program walk count =
    if-bare program.orb.suppress_suspended
    (record (with_suspended_program s program walk count) { scsw = suspended_alone s.scsw }) (with_cause (with_suspended_program s program walk count) (cause.Suspension walk.tried count))
    (refl, refl) (refl, refl)

-- numbers that stay
record IsNumbered (s x : SubchannelState) : Type 0 where
  pub starts : x.starts ≡ s.starts
  pub drawn : x.drawn ≡ s.drawn

if-numbered : (s : SubchannelState) (b : Bool) (x y : SubchannelState) → IsNumbered s x → IsNumbered s y → IsNumbered s (if b then x else y)
if-numbered s true x y e f = e
if-numbered s false x y e f = f

suspending-numbered : (s : SubchannelState) (program : Program) (walk : WalkPosition) (count : ℕ) → IsNumbered s (program_suspended s program walk count)
suspending-numbered s program walk count =
    if-numbered s program.orb.suppress_suspended
    (record (with_suspended_program s program walk count) { scsw = suspended_alone s.scsw }) (with_cause (with_suspended_program s program walk count) (cause.Suspension walk.tried count))
    (record { starts = refl; drawn = refl }) (record { starts = refl; drawn = refl })

-- the program that was offered goes ahead where no halt is pending
goes-on : (program : Program) (suspended : Option ProgramPosition) (start : ℕ) (halt : Bool) → program.start ≡ start → halt ≡ false →
    (is_some (position_of_start (Some program) suspended start) && not halt) ≡ true
goes-on program suspended start halt e f =
    ap (λ (h : Bool). is_some (position_of_start (Some program) suspended start) && not h) f
    ∙ ap (λ (same : Bool). is_some (if same then Some (position_at_start program) else suspended_position suspended start) && not false) (eq-eqb program.start start e)

module _ (A : Type 0) (B : ℕ → Type 0) where
  -- neither begun nor waiting, whatever the hold is
  bare-turned : (s x y : SubchannelState) → IsBare x → IsNumbered s x → y.waiting ≡ x.waiting → y.begun ≡ x.begun → y.starts ≡ x.starts → y.drawn ≡ x.drawn → Turned A B s y
  bare-turned s x y b n w g a d =
      record {
        starts = a ∙ n.starts;
        drawn = no-less s.drawn y.drawn (d ∙ n.drawn);
        waits = record {
          waiting = subst (λ (p : Option Program). WaitsAs A B y p) (sym (w ∙ b.0)) tt;
          begun = none-held y.begun y.hold.phase (g ∙ b.1);
        };
      }

  let-bare : (s x : SubchannelState) → IsBare x → IsNumbered s x → Turned A B s (device_released x).state
  let-bare s x b n = bare-turned s x (device_released x).state b n refl refl refl refl

  let-turned : (s x : SubchannelState) → IsCalm s x → x.begun ≡ None → WaitsAs A B s s.waiting → Turned A B s (device_released x).state
  let-turned s x c n k =
      record {
        starts = c.starts;
        drawn = no-less s.drawn (device_released x).state.drawn c.drawn;
        waits = record {
          waiting = moved-as A B x (device_released x).state refl refl (λ t p e. let-offer x.hold x.hold.phase t p refl e) x.waiting (calm-as A B s x c k);
          begun = none-held x.begun (device_released x).state.hold.phase n;
        };
      }

  if-step : (s : SubchannelState) (b : Bool) (x y : UpStep) → (b ≡ true → Turned A B s x.state) → (b ≡ false → Turned A B s y.state) →
      Turned A B s (if b then x else y).state
  if-step s true x y e f = e refl
  if-step s false x y e f = f refl

  if-met : (s : SubchannelState) (b : Bool) (x y : SignalOutcome) → Turned A B s x.step.state → Turned A B s y.step.state → Turned A B s (if b then x else y).step.state
  if-met s true x y e f = e
  if-met s false x y e f = f

  -- the hold alone takes it
  still-turned : (s : SubchannelState) (step : Option HoldStep) → IsStill s.hold step → Waits A B s → Turned A B s (hold_outcome s step).state
  still-turned s step h k =
      record {
        starts = refl;
        drawn = omega arith;
        waits = record {
          waiting = moved-as A B s (hold_outcome s step).state refl refl h.offer s.waiting k.waiting;
          begun = held-on s.begun s.hold.phase (hold_after s.hold step).phase h.held k.begun;
        };
      }

  -- and a status that is made
  calm-then : (s y x : SubchannelState) → IsCalm y x → IsBegunHeld x.begun x.hold.phase → Turned A B s y → Turned A B s x
  calm-then s y x c h k =
      let t : Turned A B y x = calm-turned A B y x c k.waits.waiting h in
      record { starts = t.starts ∙ k.starts; drawn = omega (arith, t.drawn, k.drawn); waits = t.waits }

  attention-turned : (s y : SubchannelState) (shows : Bool) → Turned A B s y → Turned A B s (with_attention y shows)
  attention-turned s y true k = calm-then s y (with_cause y cause.Attention) (cause-calm y cause.Attention) k.waits.begun k
  attention-turned s y false k = k

  reset-turned : (s : SubchannelState) (step : Option HoldStep) → Turned A B s (hold_outcome s step).state → Turned A B s (takes_cleared s step).state
  reset-turned s None k = k
  reset-turned s (Some step) k =
      if-turned A B s s.scsw.activity.clear_pending (with_cause (record s { hold = step.state }) cause.ClearDone) (record s { hold = step.state })
      (λ e.
      let t : Turned A B (record s { hold = step.state }) (with_cause (record s { hold = step.state }) cause.ClearDone) =
      calm-turned A B (record s { hold = step.state }) (with_cause (record s { hold = step.state }) cause.ClearDone)
      (cause-calm (record s { hold = step.state }) cause.ClearDone) k.waits.waiting k.waits.begun in
      record { starts = t.starts; drawn = t.drawn; waits = t.waits })
      (λ e. k)

  -- a command takes control
  interrupted-turned : (s t : SubchannelState) (b : ActiveProgram) → IsCalm s t → WaitsAs A B s s.waiting → is_held t.hold.phase ≡ true → t.begun ≡ Some b → Turned A B s (with_pci_of t b)
  interrupted-turned s t b c k h e =
      if-turned A B s b.transfer.pci_pending
      (with_cause (record t { begun = Some (without_pci b) }) (cause.Pci b.transfer.walk.tried (residual b.transfer.moving))) t
      (λ i. calm-turned A B s _ (record { starts = c.starts; drawn = c.drawn; offered = c.offered; waiting = c.waiting; hold = c.hold }) k h)
      (λ i. calm-turned A B s t c k (subst (λ (x : Option ActiveProgram). IsBegunHeld x t.hold.phase) (sym e) h))

  moving-turned : (s : SubchannelState) (b : ActiveProgram) (t : Transfer) → WaitsAs A B s s.waiting → is_held s.hold.phase ≡ true → Turned A B s (after_chunk s b t)
  moving-turned s b t k h =
      interrupted-turned s (with_transfer s b t) (record b { transfer = t }) (kept s (with_transfer s b t) refl refl refl refl refl) k h refl

  -- Accept
  begins-turned : (storage : Contents) (s : SubchannelState) (p t : ℕ) (st : ProgramPosition) (walk : WalkPosition) (r : CommandStart) → s.begun ≡ None → is_held s.hold.phase ≡ true →
      Turned A B s (first_ccw_outcome storage s p t st walk r).state
  begins-turned storage s p t st walk (outcome.Begins transfer) n h =
      let next = with_program_at_work s st.program (begun_with_room storage transfer).transfer in
      let over : Turned A B next (with_pci_of next _) =
      interrupted-turned next next (record { program = st.program; primary_shown = false; transfer = (begun_with_room storage transfer).transfer })
      (kept next next refl refl refl refl refl) tt h refl in
      record { starts = over.starts; drawn = over.drawn; waits = over.waits }
  begins-turned storage s p t st walk outcome.Suspends n h =
      let-bare s (program_suspended s st.program walk st.count) (suspending-bare s st.program walk st.count) (suspending-numbered s st.program walk st.count)
  begins-turned storage s p t st walk (outcome.Stops check) n h =
      let x = with_cause s (cause.FetchFault walk.tried check st.count) in
      let c : IsCalm s x = cause-calm s (cause.FetchFault walk.tried check st.count) in
      let-bare s x (fault-waiting s s.begun n, fault-begun s s.begun refl) (record { starts = c.starts; drawn = c.drawn })

  standing-turned : (storage : Contents) (s : SubchannelState) (p t : ℕ) (st : Option ProgramPosition) → is_some st ≡ true → s.begun ≡ None → is_held s.hold.phase ≡ true →
      Turned A B s (begins_at storage s p t st).state
  standing-turned storage s p t None e n h = absurd (cc e)
  standing-turned storage s p t (Some st) e n h = begins-turned storage s p t st (first_command storage st.walk).walk (first_command storage st.walk).outcome n h

  -- the program is let go as it is accepted: it is not that of the latest start, or a halt is pending
  refused-as : (s x : SubchannelState) (w : Option Program) → x.starts ≡ s.starts → s.waiting ≡ w → s.scsw.activity.halt_pending ≡ false → takes_device s ≡ false →
      WaitsAs A B s w → WaitsAs A B x w
  refused-as s x None a e f g k = tt
  refused-as s x (Some program) a e f g k =
      record {
        start = k.start ∙ sym a;
        spent = elim k.spent [
          | inl b ↦ inl b
          | inr b ↦
              let ahead : takes_device s ≡ true =
              ap (λ (q : Option Program). is_some (position_of_start q s.suspended s.offered) && not s.scsw.activity.halt_pending) e
              ∙ goes-on program s.suspended s.offered s.scsw.activity.halt_pending (k.start ∙ sym b.offered) f in
              absurd (cc (sym ahead ∙ g))
        ];
      }

  letting-turned : (s x : SubchannelState) → x.starts ≡ s.starts → x.drawn ≡ s.drawn → x.waiting ≡ s.waiting → x.begun ≡ None → x.scsw ≡ s.scsw → takes_device s ≡ false → WaitsAs A B s s.waiting →
      Turned A B s (halt_performed x)
  letting-turned s x a d w n same g k =
      if-turned A B s x.scsw.activity.halt_pending (with_cause x cause.HaltDone) x
      (λ e. record { starts = a; drawn = no-less s.drawn x.drawn d; waits = record { waiting = tt; begun = tt } })
      (λ e. record {
        starts = a;
        drawn = no-less s.drawn x.drawn d;
        waits = record {
          waiting = subst (λ (q : Option Program). WaitsAs A B x q) (sym w)
              (refused-as s x s.waiting a refl (ap (λ (c : Scsw). c.activity.halt_pending) (sym same) ∙ e) g k);
          begun = none-held x.begun x.hold.phase n;
        };
      })

  offered-turned : (storage : Contents) (s : SubchannelState) (h : HoldState) (t q u : ℕ) (may same : Bool) → takes_device s ≡ may →
      Waits A B (record s { hold = record h { phase = hold.Offer t q } }) →
      Turned A B (record s { hold = record h { phase = hold.Offer t q } })
      (takes_accept storage (record s { hold = record h { phase = hold.Offer t q } }) (if same then Some (program_begun (record h { phase = hold.Offer t q }) t q may) else None)).state
  offered-turned storage s h t q u may false g k = same-turned A B _ k
  offered-turned storage s h t q u true true g k =
      let both : (is_some (offered_position s) ≡ true) × (not s.scsw.activity.halt_pending ≡ true) = and_parts (is_some (offered_position s)) (not s.scsw.activity.halt_pending) g in
      let x : Turned A B _ _ =
      standing-turned storage (record s { hold = record h { phase = hold.On t q 0; seen = 0; first_path = Some q }; pmcw = with_path_used s.pmcw q }) q t (offered_position s) both.0
      (not-begun s.begun (hold.Offer t q) refl k.begun) refl in
      record { starts = x.starts; drawn = x.drawn; waits = x.waits }
  offered-turned storage s h t q u false true g k =
      letting-turned (record s { hold = record h { phase = hold.Offer t q } })
      (record s { hold = record h { phase = hold.Letting t q; seen = 0; first_path = Some q }; pmcw = with_path_used s.pmcw q })
      refl refl refl (not-begun s.begun (hold.Offer t q) refl k.begun) refl g k.waiting

  accept-turned : (storage : Contents) (s : SubchannelState) (h : HoldState) (phase : HoldPhase) (p u : ℕ) (may : Bool) → takes_device s ≡ may →
      Waits A B (record s { hold = record h { phase = phase } }) →
      Turned A B (record s { hold = record h { phase = phase } })
      (takes_accept storage (record s { hold = record h { phase = phase } }) (hold_takes (record h { phase = phase }) p (up.Accept u) may)).state
  accept-turned storage s h (hold.Offer t q) p u may g k = offered-turned storage s h t q u may (u == t) g k
  accept-turned storage s h other p u may g k = same-turned A B _ k

  -- Busy: the program waits again, and will not begin under that number
  freed-as : (s x : SubchannelState) (h : HoldState) (t q : ℕ) (w : Option Program) → x.starts ≡ s.starts → s.hold ≡ record h { phase = hold.Offer t q } → (B t → A) →
      WaitsAs A B s w → WaitsAs A B x w
  freed-as s x h t q None a e f k = tt
  freed-as s x h t q (Some program) a e f k =
      record {
        start = k.start ∙ sym a;
        spent = elim k.spent [
          | inl b ↦ inl b
          | inr b ↦
              let at : hold.Offer t q ≡ hold.Offer b.number b.path = ap (λ (g : HoldState). g.phase) (sym e) ∙ b.phase in
              let same : b.number ≡ t = cc at in
              inl (f (subst B same b.but))
        ];
      }

  busy-if : (s : SubchannelState) (h : HoldState) (t q u : ℕ) (same : Bool) → (u == t) ≡ same → (B u → A) → Waits A B (record s { hold = record h { phase = hold.Offer t q } }) →
      Turned A B (record s { hold = record h { phase = hold.Offer t q } })
      (hold_outcome (record s { hold = record h { phase = hold.Offer t q } }) (if same then Some (record { state = record h { phase = hold.Free }; sent = None }) else None)).state
  busy-if s h t q u false e f k = same-turned A B _ k
  busy-if s h t q u true e f k =
      record {
        starts = refl;
        drawn = omega arith;
        waits = record {
          waiting = freed-as (record s { hold = record h { phase = hold.Offer t q } }) (record s { hold = record h { phase = hold.Free } }) h t q s.waiting refl refl
              (λ b. f (subst B (sym (eqb-true u t e)) b)) k.waiting;
          begun = none-held s.begun hold.Free (not-begun s.begun (hold.Offer t q) refl k.begun);
        };
      }

  busy-turned : (s : SubchannelState) (h : HoldState) (phase : HoldPhase) (u : ℕ) → (B u → A) → Waits A B (record s { hold = record h { phase = phase } }) →
      Turned A B (record s { hold = record h { phase = phase } })
      (hold_outcome (record s { hold = record h { phase = phase } }) (found_busy (record h { phase = phase }) phase u)).state
  busy-turned s h (hold.Offer t q) u f k = busy-if s h t q u (u == t) refl f k
  busy-turned s h other u f k = same-turned A B _ k

  -- Data
  move-turned : (storage : Contents) (s : SubchannelState) (b : Option ActiveProgram) (signal : DataSignal) (load : Load) → s.begun ≡ b → Waits A B s →
      Turned A B s (moves_data storage s b signal load).step.state
  move-turned storage s None signal load e k = same-turned A B s k
  move-turned storage s (Some b) signal load e k =
      let held : is_held s.hold.phase ≡ true = held-by s.begun b s.hold.phase e k.begun in
      if-met s (is_answered b.transfer signal.command signal.sequence) (moves_bytes storage s b signal load) (with_storage storage (signal_ignored s))
      (if-met s (is_outward b.transfer.code) (with_storage storage (gives_next_chunk storage s b signal (load_length load))) (tells_room_after s b signal (chunk_stored storage b.transfer signal.sequence (load_bytes load)))
      (moving-turned s b (next_chunk storage (chunk_absorbed storage b.transfer signal.sequence (load_length load))).transfer k.waiting held)
      (moving-turned s b (with_room (chunk_stored storage b.transfer signal.sequence (load_bytes load)).storage (chunk_stored storage b.transfer signal.sequence (load_bytes load)).transfer).transfer k.waiting held))
      (same-turned A B s k)

  -- End
  chaining-turned : (storage : Contents) (s : SubchannelState) (b : ActiveProgram) (signal : EndSignal) (walk : WalkPosition) (r : CommandStart) → is_held s.hold.phase ≡ true →
      WaitsAs A B s s.waiting → Turned A B s (next_ccw_outcome storage s b signal walk r).state
  chaining-turned storage s b signal walk (outcome.Begins transfer) h k = moving-turned s b (begun_with_room storage transfer).transfer k h
  chaining-turned storage s b signal walk outcome.Suspends h k =
      let x = program_suspended (with_allegiance_after_end s signal) b.program walk (residual b.transfer.moving) in
      let n : IsNumbered (with_allegiance_after_end s signal) x = suspending-numbered (with_allegiance_after_end s signal) b.program walk (residual b.transfer.moving) in
      let-bare s x (suspending-bare (with_allegiance_after_end s signal) b.program walk (residual b.transfer.moving)) (record { starts = n.starts; drawn = n.drawn })
  chaining-turned storage s b signal walk (outcome.Stops check) h k =
      let x = with_cause (with_allegiance_after_end s signal) (cause.FetchFault walk.tried check (residual b.transfer.moving)) in
      let c : IsCalm (with_allegiance_after_end s signal) x = cause-calm (with_allegiance_after_end s signal) (cause.FetchFault walk.tried check (residual b.transfer.moving)) in
      let-turned s x (record { starts = c.starts; drawn = c.drawn; offered = c.offered; waiting = c.waiting; hold = c.hold })
      (fault-begun (with_allegiance_after_end s signal) s.begun refl) k

  stops-turned : (s : SubchannelState) (b : ActiveProgram) (signal : EndSignal) → is_held s.hold.phase ≡ true → WaitsAs A B s s.waiting →
      Turned A B s (concludes s b signal).state
  stops-turned s b signal h k =
      let x = with_end_status s b signal in
      let c : IsCalm s (with_cause s (cause.End b signal.status signal.more)) = cause-calm s (cause.End b signal.status signal.more) in
      let calm : IsCalm s x = record { starts = c.starts; drawn = c.drawn; offered = c.offered; waiting = c.waiting; hold = c.hold } in
      if-step s (is_last_end signal.status) (device_released x) (signal_taken x)
      (λ e. let-turned s x calm (end-begun s b (is_last_end signal.status) e) k)
      (λ e. calm-turned A B s x calm k
      (subst (λ (g : HoldState). IsBegunHeld x.begun g.phase) (sym c.hold) (end-held s b (is_last_end signal.status) s.hold.phase h)))

  ends_at_work-turned : (storage : Contents) (s : SubchannelState) (b : Option ActiveProgram) (signal : EndSignal) → s.begun ≡ b → Waits A B s →
      Turned A B s (ends_at_work storage s b signal).state
  ends_at_work-turned storage s None signal e k = same-turned A B s k
  ends_at_work-turned storage s (Some b) signal e k =
      let held : is_held s.hold.phase ≡ true = held-by s.begun b s.hold.phase e k.begun in
      if-step s (signal.command == b.transfer.command) (ends_command storage s b signal) (signal_ignored s)
      (λ c. if-step s (chains_command s.scsw b signal.status signal.more) (chains_at_device_end storage s (with_first_end b) signal) (concludes s b signal)
      (λ d. if-step s (has_device_end signal.status) (chains_with storage s (with_first_end b) signal (next_command storage (with_first_end b).transfer (has_status_modifier signal.status)))
      (signal_taken (record (with_allegiance_after_end s signal) { begun = Some (with_first_end b) }))
      (λ f. chaining-turned storage s (with_first_end b) signal (next_command storage (with_first_end b).transfer (has_status_modifier signal.status)).walk
      (next_command storage (with_first_end b).transfer (has_status_modifier signal.status)).outcome held k.waiting)
      (λ f. calm-turned A B s _ (kept s _ refl refl refl refl refl) k.waiting held))
      (λ d. stops-turned s b signal held k.waiting))
      (λ c. same-turned A B s k)

  pub takes-turned : (returns : Bool) → (storage : Contents) (s : SubchannelState) (p : ℕ) (x : Up) → ((u : ℕ) → x ≡ up.Busy u → B u → A) → Waits A B s → Turned A B s (takes_up returns storage s p x).step.state
  takes-turned returns storage s p (up.Accept t) f k = accept-turned storage s s.hold s.hold.phase p t (takes_device s) refl k
  takes-turned returns storage s p (up.Busy t) f k = busy-turned s s.hold s.hold.phase t (f t refl) k
  takes-turned returns storage s p (up.Leave t c) f k = still-turned s (left s.hold s.hold.phase t c) (left-still s.hold s.hold.phase t c refl) k
  takes-turned returns storage s p (up.Back t c) f k =
      let step : Option HoldStep = asked_back s.hold s.hold.phase p t c returns in
      let turned : Turned A B s (hold_outcome s step).state = still-turned s step (back-still s.hold s.hold.phase p t c returns refl) k in
      calm-then s (hold_outcome s step).state (takes_back s p step).state (kept (hold_outcome s step).state (takes_back s p step).state refl refl refl refl refl)
      turned.waits.begun turned
  takes-turned returns storage s p (up.Data load t c n seq) f k =
      if-met s (is_connected s.hold.phase p t c) (moves_data storage s s.begun (record { path = p; number = t; connection = c; command = n; sequence = seq }) load) (with_storage storage (signal_ignored s))
      (move-turned storage s s.begun (record { path = p; number = t; connection = c; command = n; sequence = seq }) load refl k) (same-turned A B s k)
  takes-turned returns storage s p (up.End t n status more) f k =
      if-step s (is_on s.hold.phase t) (ends_at_work storage s s.begun (record { path = p; number = t; command = n; status = status; more = more })) (signal_ignored s)
      (λ e. ends_at_work-turned storage s s.begun (record { path = p; number = t; command = n; status = status; more = more }) refl k) (λ e. same-turned A B s k)
  takes-turned returns storage s p (up.Released t) f k = still-turned s (released s.hold s.hold.phase t) (released-still s.hold s.hold.phase t refl) k
  takes-turned returns storage s p (up.Cleared r) f k =
      reset-turned s (reset_cleared s.hold s.hold.phase r) (still-turned s (reset_cleared s.hold s.hold.phase r) (cleared-still s.hold s.hold.phase r refl) k)
  takes-turned returns storage s p (up.Notice b) f k = notice-turned A B s b (nat_lt s.hold.known_restarts b) k
  takes-turned returns storage s p (up.Attn a status) f k =
      let step : Option HoldStep = attended s.hold s.hold.phase p a (may_take_attention s) in
      attention-turned s (hold_outcome s step).state ((outcome_of step).taken && not (status.0 == 0x20))
      (still-turned s step (attended-still s.hold s.hold.phase p a (may_take_attention s) refl) k)
