-- The bytes that a device absorbs for its command: a report keeps what holds of them.
use Rattle.std.proofs.Common.{◌≡◌, refl, sym, ◌∙◌, ap, subst, ℕ, ◌≤◌, Bool, true, false, ◌==◌, length, Option, None, Some, List, ◌++◌, take, arith}
use Rattle.std.specs.Prelude.{if◌then◌else◌, IfSome}
use Rattle.std.proofs.lemmas.Bool.{eqb-true, eq-eqb}
use Rattle.scsw_irb.specs.declared.status.DeviceStatus.{DeviceStatus}
use Rattle.chan_model.proofs.OneSide.{one-side}
use Rattle.chan_model.specs.declared.names.Side.{Side}
use Rattle.chan_model.specs.declared.names.Side.TheVariants.{First, Second}
use Rattle.chan_model.specs.Reports.{DeviceAnswer, Report}
use Rattle.chan_model.specs.declared.report.DeviceAnswer.TheVariants as answer
use Rattle.chan_model.specs.Signals.{Down, Load, Up}
use Rattle.chan_model.specs.declared.signal.Load.TheVariants as load
use Rattle.chan_model.specs.declared.signal.Up.TheVariants as up
use Rattle.chan_model.specs.declared.unit_state.CurrentCommand.{CurrentCommand}
use Rattle.chan_model.specs.declared.unit_state.Own.{Own}
use Rattle.chan_model.specs.declared.unit_state.Own.TheVariants as own
use Rattle.chan_model.specs.declared.unit_state.Connection.TheVariants.{On}
use Rattle.chan_model.specs.declared.unit_state.Progress.{Progress}
use Rattle.chan_model.specs.declared.unit_state.Progress.TheVariants as progress
use Rattle.chan_model.specs.declared.unit_state.UnitState.{UnitState}
use Rattle.chan_model.specs.Loads.{load_length}
use Rattle.chan_model.specs.Sides.{same_side}
use Rattle.chan_model.specs.UnitTable.{UnitStep, is_owner}
use Rattle.chan_model.specs.UnitReports.{is_outward, is_last_end, progress_after_end, with_absorbed}
use Rattle.subchannel_model.specs.declared.state.ActiveProgram.{ActiveProgram}
use Rattle.subchannel_model.specs.Sending.{with_any_sent}
use Rattle.run_laws.specs.Traces.{ProgramTrace, absorbs, reported}
use Rattle.run_laws.proofs.Commands.UnitOrders.{IsNumbered, one-number}
use Rattle.run_laws.proofs.Bytes.UnitFlows.{View, Hand, Level, Pending, Ahead, Flow, IsGive, IsData, IsStarted, absorbs-flow, none-flow, none-data}
use Rattle.run_laws.proofs.Links.LinkViews.{view_of}
use Rattle.run_laws.proofs.Units.UnitCurrents.{IsHeld}
use Rattle.run_laws.proofs.Units.UnitTold.{IsTold, Begins_out, Begins_in, Absorbs, Supplies, Tells_again, Ends, with_current, telling_data, IsReportTaken}
use Rattle.run_laws.proofs.Links.LinkWires.{IsEnded, CurrentClosed, IsClosed, IsOfCommand, IsTelling, IsWired, wired-tells}
use Rattle.run_laws.proofs.Bytes.LinkModes.{AnyGive, NoGive, AnyData, CurrentPlain, CurrentFlow, Mode, Waits, Over, Reads, Writes, mode-carried}
use Rattle.run_laws.proofs.Traces.Sequences.{backward}

-- what is ended stays so
ended-after : (status : DeviceStatus) → IsEnded (progress_after_end status)
ended-after status = by (is_last_end status)
  where
    by : (b : Bool) → IsEnded (if b then progress.Ended else progress.ChannelEnded)
    by true = tt
    by false = tt

started-after : (status : DeviceStatus) → IsStarted (progress_after_end status)
started-after status = by (is_last_end status)
  where
    by : (b : Bool) → IsStarted (if b then progress.Ended else progress.ChannelEnded)
    by true = tt
    by false = tt

not-new : (p : Progress) → p ≡ progress.New → IsEnded p → ⊥
not-new p e h = subst IsEnded e h

not-working : (p : Progress) → p ≡ progress.Working → IsEnded p → ⊥
not-working p e h = subst IsEnded e h

pub told-closed : (u : UnitState) (p t c : ℕ) (x : CurrentCommand) (a : DeviceAnswer) (y : UnitStep) → IsTold u p t c x a y → IsEnded x.progress → CurrentClosed y.state.current
told-closed u p t c x _ _ (Begins_out n) h = absurd (not-new x.progress n h)
told-closed u p t c x _ _ (Begins_in o n) h = absurd (not-new x.progress n h)
told-closed u p t c x _ _ (Absorbs bytes count w g l) h = absurd (not-working x.progress w h)
told-closed u p t c x _ _ (Supplies bytes o w) h = absurd (not-working x.progress w h)
told-closed u p t c x _ _ (Tells_again l e w) h = absurd (not-working x.progress w h)
told-closed u p t c x _ _ (Ends given shown more) h = ended-after shown

-- the report is of another number
module _ (u : UnitState) (p t c : ℕ) (x : CurrentCommand) (number m : ℕ) (R : ℕ → Load → Type 0) (E : Type 0) (le : t ≤ number) (other : t ≡ number → ⊥) where
  told-other : (a : DeviceAnswer) (y : UnitStep) → IsTold u p t c x a y → IfSome y.sent (λ z. IsTelling number m R E z.signal)
  told-other _ _ (Begins_in o n) = tt
  told-other _ _ (Tells_again l e w) = (le, λ e. absurd (other e))
  told-other _ _ x = (le, λ e. absurd (other e))

pub told-own : (u : UnitState) (p t c : ℕ) (x : CurrentCommand) (a : DeviceAnswer) (y : UnitStep) → IsTold u p t c x a y → y.state.own ≡ u.own
told-own u p t c x _ _ (Begins_out n) = refl
told-own u p t c x _ _ other = refl

-- the trace, at a report of its number and of another
reported-other : (u : UnitState) (report : Report) (a : DeviceAnswer) (k : ProgramTrace) → (report.number == k.number) ≡ false → reported u report a k ≡ k
reported-other u report (answer.Absorbed count) k e = ap (λ (b : Bool). if b then absorbs count u.current k else k) e
reported-other u report other k e = refl

absorbed-here : (u : UnitState) (report : Report) (count : ℕ) (k : ProgramTrace) (x : CurrentCommand) (bytes : List ℕ) → (report.number == k.number) ≡ true → u.current ≡ Some x → x.unabsorbed ≡ Some bytes →
    reported u report (answer.Absorbed count) k ≡ record k { absorbed = k.absorbed ++ take count bytes }
absorbed-here u report count k x bytes e h g =
    ap (λ (b : Bool). if b then absorbs count u.current k else k) e ∙ ap (λ (z : Option CurrentCommand). absorbs count z k) h
    ∙ ap (λ (z : Option (List ℕ)). absorbs count (Some (record x { unabsorbed = z })) k) g

some-none : (o : Option (List ℕ)) (bytes : List ℕ) → o ≡ Some bytes → o ≡ None → ⊥
some-none o bytes e f = absurd (cc (sym e ∙ f))

-- at the unit, of the side's program
module _ (side : Side) (begun : Option ActiveProgram) (k : ProgramTrace) (downs : List (List Down)) (ups : List (List Up)) (u : UnitState) (p c : ℕ) (x : CurrentCommand)
    (report : Report) (same : (report.number == k.number) ≡ true) (owner : is_owner u.own side k.number ≡ true) (hand : u.current ≡ Some x) (last : u.last_command ≡ length (backward k.taken)) where
  abbrev m : ℕ
  m = length (backward k.taken)

  here : report.number ≡ k.number
  here = eqb-true report.number k.number same

  closes : (a : DeviceAnswer) (y : UnitStep) → IsTold u p report.number c x a y → IsClosed side k.number u → IsClosed side k.number y.state
  closes a y t h = λ o. told-closed u p report.number c x a y t (subst CurrentClosed hand (h owner))

  of-it : (A : Type 0) → A → IsOfCommand k.number m report.number u.last_command A
  of-it A z = (omega (arith, here), λ e. (omega (arith, last), λ i. z))

  -- its command is over
  closed-told : (a : DeviceAnswer) (y : UnitStep) (E : Type 0) → IsTold u p report.number c x a y → IsEnded x.progress → E →
      IfSome y.sent (λ z. IsTelling k.number m AnyData E z.signal) × (reported u report a k ≡ k)
  closed-told _ _ E (Begins_out n) h z = absurd (not-new x.progress n h)
  closed-told _ _ E (Begins_in o n) h z = absurd (not-new x.progress n h)
  closed-told _ _ E (Absorbs bytes count w g l) h z = absurd (not-working x.progress w h)
  closed-told _ _ E (Supplies bytes o w) h z = absurd (not-working x.progress w h)
  closed-told _ _ E (Tells_again l e w) h z = absurd (not-working x.progress w h)
  closed-told _ _ E (Ends given shown more) h z = (of-it E z, refl)

  closed-wired : (a : DeviceAnswer) (y : UnitStep) → IsTold u p report.number c x a y → IsWired side k.number m CurrentClosed AnyGive AnyData downs ups u →
      IsWired side k.number m CurrentClosed AnyGive AnyData downs (with_any_sent ups y.sent) y.state
  closed-wired a y t w =
      let ended : IsEnded x.progress = subst CurrentClosed hand (w.hand owner) in
      wired-tells side k.number m CurrentClosed CurrentClosed AnyGive AnyData AnyData downs ups u y.state y.sent (λ o. told-closed u p report.number c x a y t ended) (λ s l r. r) (closes a y t)
      (closed-told a y (IsClosed side k.number y.state) t ended (λ o. told-closed u p report.number c x a y t ended)).0 w

  -- it reads
  plain-told : (a : DeviceAnswer) (y : UnitStep) → IsTold u p report.number c x a y → x.unabsorbed ≡ None →
      CurrentPlain y.state.current × IfSome y.sent (λ z. IsTelling k.number m AnyData (IsClosed side k.number y.state) z.signal) × (reported u report a k ≡ k)
  plain-told _ _ (Begins_out n) g = (refl, of-it (Unit {0}) tt, refl)
  plain-told _ _ (Begins_in o n) g = (g, tt, refl)
  plain-told _ _ (Absorbs bytes count w h l) g = absurd (some-none x.unabsorbed bytes h g)
  plain-told _ _ (Supplies bytes o w) g = (g, of-it (Unit {0}) tt, refl)
  plain-told _ _ (Tells_again l e w) g = (g, of-it (Unit {0}) tt, refl)
  plain-told _ y (Ends given shown more) g = (g, of-it (IsClosed side k.number y.state) (λ o. ended-after shown), refl)

  -- it writes
  module _ (b : ActiveProgram) (e : begun ≡ Some b) (n : length (backward k.taken) ≡ k.sent) (out : is_outward b.transfer.code ≡ true) where
    abbrev v : View
    v = view_of b.transfer k.now

    abbrev IsWrite : ProgramTrace → UnitStep → Type 0
    IsWrite new y = Mode side begun new downs (with_any_sent ups y.sent) y.state

    not-inward : x.code ≡ b.transfer.code → is_outward x.code ≡ false → ⊥
    not-inward z f = absurd (cc (sym f ∙ (ap is_outward z ∙ out)))

    -- nothing more is absorbed
    stays-writing : (y : UnitStep) (lead after : Option ℕ) → Flow v k.absorbed after → IsHeld side k.number (CurrentFlow b.transfer.code v after) y.state →
        ((s : ℕ) (l : Load) → IsData v lead s l → IsData v after s l) → (IsClosed side k.number u → IsClosed side k.number y.state) →
        IfSome y.sent (λ z. IsTelling k.number m (IsData v after) (IsClosed side k.number y.state) z.signal) →
        IsWired side k.number m (CurrentFlow b.transfer.code v lead) (IsGive v) (IsData v lead) downs ups u → IsWrite k y
    stays-writing y lead after f h d z s w =
        Writes b e n out after f
        (wired-tells side k.number m (CurrentFlow b.transfer.code v lead) (CurrentFlow b.transfer.code v after) (IsGive v) (IsData v lead) (IsData v after) downs ups u y.state y.sent h d z s w)

    begins-told : (lead : Option ℕ) → x.code ≡ b.transfer.code → Hand v lead x → x.progress ≡ progress.New → Flow v k.absorbed lead →
        IsWired side k.number m (CurrentFlow b.transfer.code v lead) (IsGive v) (IsData v lead) downs ups u →
        IsWrite k (record { state = with_current u (with_absorbed x 0); sent = Some (record { path = p; signal = up.Data (load.Absorbed 0) report.number c u.last_command x.sequence }) })
    begins-told lead z (Level q g l) new f w =
        stays-writing (telling_data u p report.number c (with_absorbed x 0) (load.Absorbed 0)) lead lead f (λ o. (z, Level q refl l)) (λ s y d. d) (closes answer.Begins (telling_data u p report.number c (with_absorbed x 0) (load.Absorbed 0)) (Begins_out new))
        (of-it (IsData v lead x.sequence (load.Absorbed 0)) (omega (arith, q), λ i. absurd (omega (arith, q, i)))) w
    begins-told lead z (Pending q a l g) new f w =
        stays-writing (telling_data u p report.number c (with_absorbed x 0) (load.Absorbed 0)) lead (Some 0) (none-flow v k.absorbed (subst (Flow v k.absorbed) l f))
        (λ o. (z, Ahead q refl 0 refl (λ i h. let s : load.Absorbed 0 ≡ i = cc h in ap load_length (sym s)) tt)) (λ s y d. none-data v lead 0 s y l d) (closes answer.Begins (telling_data u p report.number c (with_absorbed x 0) (load.Absorbed 0)) (Begins_out new))
        (of-it (IsData v (Some 0) x.sequence (load.Absorbed 0)) (omega (arith, q), λ i. refl)) w
    begins-told lead z (Ahead q g j l a s) new f w = absurd (subst IsStarted new s)

    absorbs-told : (lead : Option ℕ) (bytes : List ℕ) (count : ℕ) → x.code ≡ b.transfer.code → Hand v lead x → x.progress ≡ progress.Working → x.unabsorbed ≡ Some bytes → count ≤ length bytes →
        Flow v k.absorbed lead → IsWired side k.number m (CurrentFlow b.transfer.code v lead) (IsGive v) (IsData v lead) downs ups u →
        IsWrite (record k { absorbed = k.absorbed ++ take count bytes })
        (record { state = with_current u (with_absorbed x count); sent = Some (record { path = p; signal = up.Data (load.Absorbed count) report.number c u.last_command x.sequence }) })
    absorbs-told lead bytes count z (Level q g l) w h i f s = absurd (some-none x.unabsorbed bytes h g)
    absorbs-told lead bytes count z (Ahead q g j l a y) w h i f s = absurd (some-none x.unabsorbed bytes h g)
    absorbs-told lead bytes count z (Pending q a l g) w h i f s =
        let y : UnitStep = record { state = with_current u (with_absorbed x count); sent = Some (record { path = p; signal = up.Data (load.Absorbed count) report.number c u.last_command x.sequence }) } in
        Writes b e n out (Some count) (absorbs-flow v k.absorbed bytes count (g bytes h) i (subst (Flow v k.absorbed) l f))
        (wired-tells side k.number m (CurrentFlow b.transfer.code v lead) (CurrentFlow b.transfer.code v (Some count)) (IsGive v) (IsData v lead) (IsData v (Some count)) downs ups u y.state y.sent
        (λ o. (z, Ahead q refl count refl (λ j d. let t : load.Absorbed count ≡ j = cc d in ap load_length (sym t)) tt)) (λ r t d. none-data v lead count r t l d)
        (closes (answer.Absorbed count) y (Absorbs bytes count w h i))
        (of-it (IsData v (Some count) x.sequence (load.Absorbed count)) (omega (arith, q), λ j. refl)) s)

    again-told : (lead : Option ℕ) (l : Load) → x.code ≡ b.transfer.code → Hand v lead x → x.unanswered ≡ Some l → x.progress ≡ progress.Working → Flow v k.absorbed lead →
        IsWired side k.number m (CurrentFlow b.transfer.code v lead) (IsGive v) (IsData v lead) downs ups u →
        IsWrite k (record { state = with_current u (record x { again = false }); sent = Some (record { path = p; signal = up.Data l report.number c u.last_command x.sequence }) })
    again-told lead l z (Level q g i) h w f s =
        stays-writing (telling_data u p report.number c (record x { again = false }) l) lead lead f (λ o. (z, Level q g i)) (λ r t d. d) (closes answer.Again (telling_data u p report.number c (record x { again = false }) l) (Tells_again l h w))
        (of-it (IsData v lead x.sequence l) (omega (arith, q), λ j. absurd (omega (arith, q, j)))) s
    again-told lead l z (Pending q a i g) h w f s = absurd (cc (sym h ∙ a))
    again-told lead l z (Ahead q g j i a y) h w f s =
        stays-writing (telling_data u p report.number c (record x { again = false }) l) lead lead f (λ o. (z, Ahead q g j i a y)) (λ r t d. d) (closes answer.Again (telling_data u p report.number c (record x { again = false }) l) (Tells_again l h w))
        (of-it (IsData v lead x.sequence l) (omega (arith, q), λ d. i ∙ ap (λ (r : ℕ). Some r) (sym (a l h)))) s

    ended-hand : (lead : Option ℕ) (status : DeviceStatus) → Hand v lead x → Hand v lead (record x { progress = progress_after_end status })
    ended-hand lead status (Level q g i) = Level q g i
    ended-hand lead status (Pending q a i g) = Pending q a i g
    ended-hand lead status (Ahead q g j i a y) = Ahead q g j i a (started-after status)

    writes-told : (a : DeviceAnswer) (y : UnitStep) (lead : Option ℕ) → IsTold u p report.number c x a y → x.code ≡ b.transfer.code → Hand v lead x → Flow v k.absorbed lead →
        IsWired side k.number m (CurrentFlow b.transfer.code v lead) (IsGive v) (IsData v lead) downs ups u → IsWrite (reported u report a k) y
    writes-told _ _ lead (Begins_out new) z h f w = begins-told lead z h new f w
    writes-told _ _ lead (Begins_in o new) z h f w = absurd (not-inward z o)
    writes-told _ y lead (Absorbs bytes count g i l) z h f w =
        subst (λ (s : ProgramTrace). IsWrite s y) (sym (absorbed-here u report count k x bytes same hand i)) (absorbs-told lead bytes count z h g i l f w)
    writes-told _ _ lead (Supplies bytes o g) z h f w = absurd (not-inward z o)
    writes-told _ _ lead (Tells_again l i g) z h f w = again-told lead l z h i g f w
    writes-told _ y lead (Ends given shown more) z h f w =
        stays-writing y lead lead f (λ o. (z, ended-hand lead shown h)) (λ r t d. d) (closes (answer.Ended given more) y (Ends given shown more))
        (of-it (IsClosed side k.number y.state) (λ o. ended-after shown)) w

  mode-told : (a : DeviceAnswer) (y : UnitStep) → IsTold u p report.number c x a y → Mode side begun k downs ups u → Mode side begun (reported u report a k) downs (with_any_sent ups y.sent) y.state
  mode-told a y t (Waits b e n s z i w) =
      let ended : IsEnded x.progress = subst CurrentClosed hand (w.hand owner) in
      subst (λ (r : ProgramTrace). Mode side begun r downs (with_any_sent ups y.sent) y.state) (sym (closed-told a y (Unit {0}) t ended tt).1) (Waits b e n s z i (closed-wired a y t w))
  mode-told a y t (Over e n z i w) =
      let ended : IsEnded x.progress = subst CurrentClosed hand (w.hand owner) in
      subst (λ (r : ProgramTrace). Mode side begun r downs (with_any_sent ups y.sent) y.state) (sym (closed-told a y (Unit {0}) t ended tt).1) (Over e n z i (closed-wired a y t w))
  mode-told a y t (Reads b e n o z w) =
      let got = plain-told a y t (subst CurrentPlain hand (w.hand owner)) in
      subst (λ (r : ProgramTrace). Mode side begun r downs (with_any_sent ups y.sent) y.state) (sym got.2)
      (Reads b e n o z (wired-tells side k.number m CurrentPlain CurrentPlain NoGive AnyData AnyData downs ups u y.state y.sent (λ q. got.0) (λ s l r. r) (closes a y t) got.1 w))
  mode-told a y t (Writes b e n o lead f w) =
      let h : (x.code ≡ b.transfer.code) × Hand (view_of b.transfer k.now) lead x = subst (CurrentFlow b.transfer.code (view_of b.transfer k.now) lead) hand (w.hand owner) in
      writes-told b e n o a y lead t h.0 h.1 f w

-- a report that is taken
is-owner-self : (side : Side) (t p c : ℕ) → is_owner (own.Owned side t (On p c)) side t ≡ true
is-owner-self First t p c = eq-eqb t t refl
is-owner-self Second t p c = eq-eqb t t refl

pub report-owner : (side : Side) (u : UnitState) (report : Report) (y : UnitStep) → same_side side report.side ≡ true → IsReportTaken u report y → is_owner u.own side report.number ≡ true
report-owner side u report y s t =
    let at : t.side ≡ side = one-side t.side report.side t.same ∙ sym (one-side side report.side s) in
    ap (λ (o : Own). is_owner o side report.number) t.own
    ∙ subst (λ (z : Side). is_owner (own.Owned z report.number (On t.path t.connection)) side report.number ≡ true) (sym at) (is-owner-self side report.number t.path t.connection)

pub mode-reports : (side : Side) (drawn : ℕ) (begun : Option ActiveProgram) (k : ProgramTrace) (downs : List (List Down)) (ups : List (List Up)) (u : UnitState) (report : Report) (y : UnitStep) →
    same_side side report.side ≡ true → IsNumbered side drawn k.number (backward k.taken) u → IsReportTaken u report y → Mode side begun k downs ups u →
    Mode side begun (reported u report report.answer k) downs (with_any_sent ups y.sent) y.state
mode-reports side drawn begun k downs ups u report y s n t mode = by (report.number == k.number) refl
  where
    owns : is_owner u.own side report.number ≡ true
    owns = report-owner side u report y s t

    by : (b : Bool) → (report.number == k.number) ≡ b → Mode side begun (reported u report report.answer k) downs (with_any_sent ups y.sent) y.state
    by true e =
        let mine : is_owner u.own side k.number ≡ true = subst (λ (i : ℕ). is_owner u.own side i ≡ true) (eqb-true report.number k.number e) owns in
        mode-told side begun k downs ups u t.path t.connection t.hand report e mine t.current (n.last mine) report.answer y t.told mode
    by false e =
        let other : report.number ≡ k.number → ⊥ = λ z. absurd (cc (sym (eq-eqb report.number k.number z) ∙ e)) in
        let none : is_owner y.state.own side k.number ≡ true → ⊥ =
        λ z. other (one-number u.own side report.number k.number owns (ap (λ (o : Own). is_owner o side k.number) (sym (told-own u t.path report.number t.connection t.hand report.answer y t.told)) ∙ z)) in
        let le : report.number ≤ k.number = n.named report.number owns in
        subst (λ (r : ProgramTrace). Mode side begun r downs (with_any_sent ups y.sent) y.state) (sym (reported-other u report report.answer k e))
        (mode-carried side begun k downs downs ups (with_any_sent ups y.sent) u y.state
        (λ P Q R f w. wired-tells side k.number (length (backward k.taken)) P P Q R R downs ups u y.state y.sent (λ z. absurd (none z)) (λ i l r. r) (λ z o. absurd (none o))
        (told-other u t.path report.number t.connection t.hand k.number (length (backward k.taken)) R (IsClosed side k.number y.state) le other report.answer y t.told) w) mode)
