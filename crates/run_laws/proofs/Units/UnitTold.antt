-- What a unit does with a report that it takes, and what the trace of the program is told.
use Rattle.std.proofs.Common.{◌≡◌, refl, sym, ◌∙◌, ap, subst, ℕ, ◌≤◌, Bool, true, false, ◌==◌, ◌&&◌, ◌||◌, not, nat_le, length, Option, None, Some, List}
use Rattle.std.specs.Prelude.{if◌then◌else◌}
use Rattle.std.proofs.lemmas.Bool.{eqb-true, leb-true, and_parts}
use Rattle.scsw_irb.specs.declared.status.DeviceStatus.{DeviceStatus}
use Rattle.chan_model.specs.declared.names.Side.{Side}
use Rattle.chan_model.specs.Reports.{DeviceAnswer, Report}
use Rattle.chan_model.specs.declared.report.DeviceAnswer.TheVariants as answer
use Rattle.chan_model.specs.Signals.{Load}
use Rattle.chan_model.specs.declared.signal.Load.TheVariants as load
use Rattle.chan_model.specs.declared.signal.Up.TheVariants as up
use Rattle.chan_model.specs.declared.unit_state.CurrentCommand.{CurrentCommand}
use Rattle.chan_model.specs.declared.unit_state.Own.{Own}
use Rattle.chan_model.specs.declared.unit_state.Own.TheVariants as own
use Rattle.chan_model.specs.declared.unit_state.Connection.{Connection}
use Rattle.chan_model.specs.declared.unit_state.Connection.TheVariants.{On, Ask, Away}
use Rattle.chan_model.specs.declared.unit_state.Progress.{Progress}
use Rattle.chan_model.specs.declared.unit_state.Progress.TheVariants as progress
use Rattle.chan_model.specs.declared.unit_state.UnitState.{UnitState}
use Rattle.chan_model.specs.Sides.{same_side}
use Rattle.chan_model.specs.UnitTable.{UnitStep}
use Rattle.chan_model.specs.UnitReports.{is_outward, is_over, is_settled, is_to_supply, most_of, may_end, shown_end, end_sent, with_absorbed, with_supplied, answer_taken, progress_after_end, report_on, report_of, unit_reports, report_absorbed, sent_again}

-- with another command at hand, and a signal sent
abbrev pub with_current : UnitState → CurrentCommand → UnitState
with_current u x = record u { current = Some x }

abbrev pub telling_data : UnitState → ℕ → ℕ → ℕ → CurrentCommand → Load → UnitStep
telling_data u p t c x l = record { state = with_current u x; sent = Some (record { path = p; signal = up.Data l t c u.last_command x.sequence }) }

pub data IsTold (u : UnitState) (p t c : ℕ) (x : CurrentCommand) : DeviceAnswer → UnitStep → Type 0 where
  Begins_out : x.progress ≡ progress.New → IsTold u p t c x answer.Begins (telling_data u p t c (with_absorbed x 0) (load.Absorbed 0))
  Begins_in : is_outward x.code ≡ false → x.progress ≡ progress.New → IsTold u p t c x answer.Begins (record { state = with_current u (record x { progress = progress.Working }); sent = None })
  Absorbs : (bytes : List ℕ) (count : ℕ) → x.progress ≡ progress.Working → x.unabsorbed ≡ Some bytes → count ≤ length bytes →
      IsTold u p t c x (answer.Absorbed count) (telling_data u p t c (with_absorbed x count) (load.Absorbed count))
  Supplies : (bytes : List ℕ) → is_outward x.code ≡ false → x.progress ≡ progress.Working →
      IsTold u p t c x (answer.Supplied bytes) (telling_data u p t c (with_supplied x bytes) (load.Bytes bytes))
  Tells_again : (l : Load) → x.unanswered ≡ Some l → x.progress ≡ progress.Working → IsTold u p t c x answer.Again (telling_data u p t c (record x { again = false }) l)
  Ends : (given shown : DeviceStatus) (more : Bool) →
      IsTold u p t c x (answer.Ended given more)
      (record { state = with_current u (record x { progress = progress_after_end shown }); sent = Some (record { path = p; signal = up.End t u.last_command shown more }) })

abbrev AreTold : UnitState → ℕ → ℕ → ℕ → CurrentCommand → DeviceAnswer → Option UnitStep → Type 0
AreTold u p t c x a step = (y : UnitStep) → step ≡ Some y → IsTold u p t c x a y

none-told : (u : UnitState) (p t c : ℕ) (x : CurrentCommand) (a : DeviceAnswer) → AreTold u p t c x a None
none-told u p t c x a y e = absurd (cc e)

one-told : (u : UnitState) (p t c : ℕ) (x : CurrentCommand) (a : DeviceAnswer) (z : UnitStep) → IsTold u p t c x a z → AreTold u p t c x a (Some z)
one-told u p t c x a z k y e = let same : z ≡ y = cc e in subst (IsTold u p t c x a) same k

ended-told : (u : UnitState) (p t c : ℕ) (x : CurrentCommand) (given shown : DeviceStatus) (more may : Bool) →
    AreTold u p t c x (answer.Ended given more) (if may then end_sent u p t x shown more else None)
ended-told u p t c x given shown more true = one-told u p t c x (answer.Ended given more) _ (Ends given shown more)
ended-told u p t c x given shown more false = none-told u p t c x (answer.Ended given more)

begun-told : (u : UnitState) (p t c : ℕ) (x : CurrentCommand) (out : Bool) → is_outward x.code ≡ out → x.progress ≡ progress.New →
    AreTold u p t c x answer.Begins
    (if out then Some (telling_data u p t c (with_absorbed x 0) (load.Absorbed 0)) else Some (record { state = with_current u (record x { progress = progress.Working }); sent = None }))
begun-told u p t c x true o e = one-told u p t c x answer.Begins _ (Begins_out e)
begun-told u p t c x false o e = one-told u p t c x answer.Begins _ (Begins_in o e)

absorbed-told : (u : UnitState) (p t c : ℕ) (x : CurrentCommand) (given : Option (List ℕ)) (count : ℕ) → x.unabsorbed ≡ given → x.progress ≡ progress.Working →
    AreTold u p t c x (answer.Absorbed count) (report_absorbed u p t c x given count)
absorbed-told u p t c x None count g e = none-told u p t c x (answer.Absorbed count)
absorbed-told u p t c x (Some bytes) count g e = by (nat_le count (length bytes)) refl
  where
    by : (b : Bool) → nat_le count (length bytes) ≡ b →
        AreTold u p t c x (answer.Absorbed count) (if b then Some (telling_data u p t c (with_absorbed x count) (load.Absorbed count)) else None)
    by true l = one-told u p t c x (answer.Absorbed count) _ (Absorbs bytes count e g (leb-true count (length bytes) l))
    by false l = none-told u p t c x (answer.Absorbed count)

not-outward : (out over settled : Bool) → (not (out || over) && settled) ≡ true → out ≡ false
not-outward true over settled e = absurd (cc e)
not-outward false over settled e = refl

supplied-told : (u : UnitState) (p t c : ℕ) (x : CurrentCommand) (bytes : List ℕ) (b : Bool) → (is_to_supply x && nat_le (length bytes) (most_of x)) ≡ b → x.progress ≡ progress.Working →
    AreTold u p t c x (answer.Supplied bytes) (if b then Some (telling_data u p t c (with_supplied x bytes) (load.Bytes bytes)) else None)
supplied-told u p t c x bytes true h e =
    let is : is_to_supply x ≡ true = (and_parts (is_to_supply x) (nat_le (length bytes) (most_of x)) h).0 in
    one-told u p t c x (answer.Supplied bytes) _ (Supplies bytes (not-outward (is_outward x.code) (is_over x) (is_settled x) is) e)
supplied-told u p t c x bytes false h e = none-told u p t c x (answer.Supplied bytes)

again-told : (u : UnitState) (p t c : ℕ) (x : CurrentCommand) (l : Option Load) → x.unanswered ≡ l → x.progress ≡ progress.Working → AreTold u p t c x answer.Again (sent_again u p t c x l)
again-told u p t c x None h e = none-told u p t c x answer.Again
again-told u p t c x (Some l) h e = by x.again
  where
    by : (b : Bool) → AreTold u p t c x answer.Again (if b then Some (telling_data u p t c (record x { again = false }) l) else None)
    by true = one-told u p t c x answer.Again _ (Tells_again l h e)
    by false = none-told u p t c x answer.Again

answer-told : (u : UnitState) (p t c : ℕ) (x : CurrentCommand) (at : Progress) (a : DeviceAnswer) → x.progress ≡ at → AreTold u p t c x a (answer_taken u p t c x at a)
answer-told u p t c x progress.New answer.Begins e = begun-told u p t c x (is_outward x.code) refl e
answer-told u p t c x progress.Working answer.Begins e = none-told u p t c x answer.Begins
answer-told u p t c x progress.ChannelEnded answer.Begins e = none-told u p t c x answer.Begins
answer-told u p t c x progress.Ended answer.Begins e = none-told u p t c x answer.Begins
answer-told u p t c x progress.New (answer.Absorbed count) e = none-told u p t c x (answer.Absorbed count)
answer-told u p t c x progress.Working (answer.Absorbed count) e = absorbed-told u p t c x x.unabsorbed count refl e
answer-told u p t c x progress.ChannelEnded (answer.Absorbed count) e = none-told u p t c x (answer.Absorbed count)
answer-told u p t c x progress.Ended (answer.Absorbed count) e = none-told u p t c x (answer.Absorbed count)
answer-told u p t c x progress.New (answer.Supplied bytes) e = none-told u p t c x (answer.Supplied bytes)
answer-told u p t c x progress.Working (answer.Supplied bytes) e = supplied-told u p t c x bytes (is_to_supply x && nat_le (length bytes) (most_of x)) refl e
answer-told u p t c x progress.ChannelEnded (answer.Supplied bytes) e = none-told u p t c x (answer.Supplied bytes)
answer-told u p t c x progress.Ended (answer.Supplied bytes) e = none-told u p t c x (answer.Supplied bytes)
answer-told u p t c x progress.New answer.Again e = none-told u p t c x answer.Again
answer-told u p t c x progress.Working answer.Again e = again-told u p t c x x.unanswered refl e
answer-told u p t c x progress.ChannelEnded answer.Again e = none-told u p t c x answer.Again
answer-told u p t c x progress.Ended answer.Again e = none-told u p t c x answer.Again
answer-told u p t c x other (answer.Ended status more) e = ended-told u p t c x status (shown_end other status) more (may_end u.halted x other status more)

-- a report that is taken is of the program that holds the device, of its command at hand
pub record IsReportTaken (u : UnitState) (r : Report) (y : UnitStep) : Type 0 where
  pub side : Side
  pub path : ℕ
  pub connection : ℕ
  pub hand : CurrentCommand
  pub own : u.own ≡ own.Owned side r.number (On path connection)
  pub same : same_side side r.side ≡ true
  pub current : u.current ≡ Some hand
  pub told : IsTold u path r.number connection hand r.answer y

on-taken : (u : UnitState) (k : Side) (t : ℕ) (own_connection : Connection) (x : Option CurrentCommand) (r : Report) (y : UnitStep) → u.own ≡ own.Owned k t own_connection → same_side k r.side ≡ true → r.number ≡ t →
    u.current ≡ x → report_on u t own_connection x r ≡ Some y → IsReportTaken u r y
on-taken u k t (On p c) (Some x) r y o s n h e = by (r.sequence == x.sequence) e
  where
    by : (b : Bool) → (if b then answer_taken u p t c x x.progress r.answer else None) ≡ Some y → IsReportTaken u r y
    by true f = record {
      side = k;
      path = p;
      connection = c;
      hand = x;
      own = o ∙ ap (λ (i : ℕ). own.Owned k i (On p c)) (sym n);
      same = s;
      current = h;
      told = subst (λ (i : ℕ). IsTold u p i c x r.answer y) (sym n) (answer-told u p t c x x.progress r.answer refl y f);
    }
    by false f = absurd (cc f)
on-taken u k t (On p c) None r y o s n h e = absurd (cc e)
on-taken u k t (Ask p c) x r y o s n h e = absurd (cc e)
on-taken u k t (Away c) x r y o s n h e = absurd (cc e)

of-taken : (u : UnitState) (o : Own) (r : Report) (y : UnitStep) → u.own ≡ o → report_of u o r ≡ Some y → IsReportTaken u r y
of-taken u own.Idle r y o e = absurd (cc e)
of-taken u (own.Owned k t connection) r y o e = by (same_side k r.side) (r.number == t) (r.command == u.last_command) refl refl e
  where
    by : (a b c : Bool) → same_side k r.side ≡ a → (r.number == t) ≡ b → (if a && (b && c) then report_on u t connection u.current r else None) ≡ Some y → IsReportTaken u r y
    by true true true s n f = on-taken u k t connection u.current r y o s (eqb-true r.number t n) refl f
    by true true false s n f = absurd (cc f)
    by true false c s n f = absurd (cc f)
    by false b c s n f = absurd (cc f)

pub report-taken : (u : UnitState) (r : Report) (y : UnitStep) → unit_reports u r ≡ Some y → IsReportTaken u r y
report-taken u r y e = of-taken u u.own r y refl e
