-- A unit answers Cleared only where it takes a Reset, with its number.
use Rattle.std.proofs.Common.{◌≡◌, ℕ, ◌==◌, ◌&&◌, not, Bool, true, false, nat_le, length, Option, None, Some, List, refl, subst}
use Rattle.std.specs.Prelude.{if◌then◌else◌}
use Rattle.chan_model.specs.declared.names.Side.{Side}
use Rattle.chan_model.specs.declared.hold_state.HoldPhase.{HoldPhase}
use Rattle.chan_model.specs.declared.hold_state.HoldPhase.TheVariants as hold
use Rattle.chan_model.specs.Reports.{Report}
use Rattle.chan_model.specs.Reports.{DeviceAnswer}
use Rattle.chan_model.specs.declared.report.DeviceAnswer.TheVariants as answer
use Rattle.chan_model.specs.Signals.{Load}
use Rattle.chan_model.specs.declared.signal.OnPath.{OnPath}
use Rattle.chan_model.specs.Signals.{Down}
use Rattle.chan_model.specs.Signals.{Up}
use Rattle.chan_model.specs.declared.signal.Up.TheVariants as up
use Rattle.chan_model.specs.declared.unit_state.CurrentCommand.{CurrentCommand}
use Rattle.chan_model.specs.declared.unit_state.Own.{Own}
use Rattle.chan_model.specs.declared.unit_state.Own.TheVariants as own
use Rattle.chan_model.specs.declared.unit_state.Connection.{Connection}
use Rattle.chan_model.specs.declared.unit_state.Connection.TheVariants.{On, Ask, Away}
use Rattle.chan_model.specs.declared.unit_state.Progress.{Progress}
use Rattle.chan_model.specs.declared.unit_state.Progress.TheVariants as progress
use Rattle.chan_model.specs.declared.unit_state.UnitState.{UnitState}
use Rattle.chan_model.specs.Sides.{same_side}
use Rattle.chan_model.specs.UnitTable.{UnitStep, side_of, is_idle, telling, unit_takes, leaving, asking, attending, noticing}
use Rattle.chan_model.specs.UnitReports.{is_to_supply, most_of, answer_taken, report_on, report_of, is_outward, may_end, report_absorbed, sent_again}
use Rattle.chan_model.proofs.OneSide.{one-side}
use Rattle.chan_model.proofs.TakenSignals.{Takes, Ignores, Accepts, Denies, Begins, Joins, Parts, Answers, Gives, Halts, Frees, Resets, Forgets, takes-by}
use Rattle.chan_model.proofs.TakenSignals as taken
use Rattle.agreement_laws.specs.Moving.{UnitAct, Takes_down, Leaves, Asks, Attends, Restarts, Notices, Reports, is_owner_side, sent_by, sent_to, up_sent}
use Rattle.agreement_laws.specs.Claims.{IsReset, IsTakenBy}

-- what is sent is no Cleared
abbrev IsOther : Up → Type 0
IsOther (up.Cleared r) = ⊥
IsOther signal = Unit {0}

abbrev IsOtherSent : Option (OnPath Up) → Type 0
IsOtherSent None = Unit {0}
IsOtherSent (Some x) = IsOther x.signal

abbrev IsOtherStep : Option UnitStep → Type 0
IsOtherStep step = IsOtherSent (sent_by step)

other-if : (b : Bool) (s t : Option UnitStep) → IsOtherStep s → IsOtherStep t → IsOtherStep (if b then s else t)
other-if true s t f g = f
other-if false s t f g = g

-- the acts of the unit itself
leaving-other : (u : UnitState) (o : Own) → IsOtherStep (leaving u o)
leaving-other u own.Idle = tt
leaving-other u (own.Owned k t (On p c)) = tt
leaving-other u (own.Owned k t (Ask p c)) = tt
leaving-other u (own.Owned k t (Away c)) = tt

asking-other : (u : UnitState) (o : Own) (p : ℕ) → IsOtherStep (asking u o p)
asking-other u own.Idle p = tt
asking-other u (own.Owned k t (On q c)) p = tt
asking-other u (own.Owned k t (Ask q c)) p = tt
asking-other u (own.Owned k t (Away c)) p = tt

absorbed-other : (u : UnitState) (p t c : ℕ) (x : CurrentCommand) (given : Option (List ℕ)) (count : ℕ) → IsOtherStep (report_absorbed u p t c x given count)
absorbed-other u p t c x None count = tt
absorbed-other u p t c x (Some bytes) count = other-if (nat_le count (length bytes)) (Some _) None tt tt

again-other : (u : UnitState) (p t c : ℕ) (x : CurrentCommand) (load : Option Load) → IsOtherStep (sent_again u p t c x load)
again-other u p t c x None = tt
again-other u p t c x (Some load) = other-if x.again (Some _) None tt tt

taken-other : (u : UnitState) (p t c : ℕ) (x : CurrentCommand) (at : Progress) (a : DeviceAnswer) → IsOtherStep (answer_taken u p t c x at a)
taken-other u p t c x progress.New answer.Begins = other-if (is_outward x.code) (Some _) (Some _) tt tt
taken-other u p t c x progress.New (answer.Absorbed count) = tt
taken-other u p t c x progress.New (answer.Supplied bytes) = tt
taken-other u p t c x progress.New answer.Again = tt
taken-other u p t c x progress.New (answer.Ended status more) = other-if (may_end u.halted x progress.New status more) (Some _) None tt tt
taken-other u p t c x progress.Working answer.Begins = tt
taken-other u p t c x progress.Working (answer.Absorbed count) = absorbed-other u p t c x x.unabsorbed count
taken-other u p t c x progress.Working (answer.Supplied bytes) = other-if (is_to_supply x && nat_le (length bytes) (most_of x)) (Some _) None tt tt
taken-other u p t c x progress.Working answer.Again = again-other u p t c x x.unanswered
taken-other u p t c x progress.Working (answer.Ended status more) = other-if (may_end u.halted x progress.Working status more) (Some _) None tt tt
taken-other u p t c x progress.ChannelEnded answer.Begins = tt
taken-other u p t c x progress.ChannelEnded (answer.Absorbed count) = tt
taken-other u p t c x progress.ChannelEnded (answer.Supplied bytes) = tt
taken-other u p t c x progress.ChannelEnded answer.Again = tt
taken-other u p t c x progress.ChannelEnded (answer.Ended status more) = other-if (may_end u.halted x progress.ChannelEnded status more) (Some _) None tt tt
taken-other u p t c x progress.Ended answer.Begins = tt
taken-other u p t c x progress.Ended (answer.Absorbed count) = tt
taken-other u p t c x progress.Ended (answer.Supplied bytes) = tt
taken-other u p t c x progress.Ended answer.Again = tt
taken-other u p t c x progress.Ended (answer.Ended status more) = tt

reported-other : (u : UnitState) (t : ℕ) (connection : Connection) (x : Option CurrentCommand) (r : Report) → IsOtherStep (report_on u t connection x r)
reported-other u t (On p c) None r = tt
reported-other u t (On p c) (Some x) r = other-if (r.sequence == x.sequence) _ None (taken-other u p t c x x.progress r.answer) tt
reported-other u t (Ask p c) x r = tt
reported-other u t (Away c) x r = tt

report-other : (u : UnitState) (o : Own) (r : Report) → IsOtherStep (report_of u o r)
report-other u own.Idle r = tt
report-other u (own.Owned k t connection) r =
    other-if (same_side k r.side && ((r.number == t) && (r.command == u.last_command))) _ None (reported-other u t connection u.current r) tt

-- the unit answers Cleared with the hold's number
abbrev pub IsAnswered : HoldPhase → Option (OnPath Up) → Type 0
IsAnswered (hold.Reset r) (Some x) = x.signal ≡ up.Cleared r
IsAnswered phase sent = ⊥

no-answer : (h : HoldPhase) (sent : Option (OnPath Up)) → IsOtherSent sent → IsAnswered h sent → ⊥
no-answer hold.Free sent o a = a
no-answer (hold.Offer u q) sent o a = a
no-answer (hold.On u q d) sent o a = a
no-answer (hold.Away u) sent o a = a
no-answer (hold.Letting u q) sent o a = a
no-answer (hold.Reset r) None o a = a
no-answer (hold.Reset r) (Some x) o a = subst IsOther a o

answered-to : (b : Bool) (h : HoldPhase) (sent : Option (OnPath Up)) → IsAnswered h (sent_to b sent) → (b ≡ true) × IsAnswered h sent
answered-to true h sent a = (refl, a)
answered-to false h sent a = absurd (no-answer h None tt a)

-- of a Reset that came
same-reset : (h : HoldPhase) (p r : ℕ) → IsAnswered h (Some (record { path = p; signal = up.Cleared r })) → h ≡ hold.Reset r
same-reset hold.Free p r a = absurd a
same-reset (hold.Offer u q) p r a = absurd a
same-reset (hold.On u q d) p r a = absurd a
same-reset (hold.Away u) p r a = absurd a
same-reset (hold.Letting u q) p r a = absurd a
same-reset (hold.Reset v) p r a = cc

signal-taken : (u : UnitState) (h : HoldPhase) (side : Side) (p : ℕ) (d : Down) (step : Option UnitStep) → Takes u side p d step → IsAnswered h (sent_by step) → IsReset u h side d
signal-taken u h side p _ _ (Ignores d) a = absurd (no-answer h None tt a)
signal-taken u h side p _ _ (taken.Notices d fresh) a = absurd (no-answer h (Some _) tt a)
signal-taken u h side p _ _ (Accepts t above idle) a = absurd (no-answer h (Some _) tt a)
signal-taken u h side p _ _ (Denies t above) a = absurd (no-answer h (Some _) tt a)
signal-taken u h side p _ _ (Begins t n code room connection is next) a = absurd (no-answer h None tt a)
signal-taken u h side p _ _ (Joins t c q is) a = absurd (no-answer h None tt a)
signal-taken u h side p _ _ (taken.Leaves t c connection is) a = absurd (no-answer h (Some _) tt a)
signal-taken u h side p _ _ (Parts t c q is) a = absurd (no-answer h None tt a)
signal-taken u h side p _ _ (Answers t s room connection x load is hand last loaded) a = absurd (no-answer h None tt a)
signal-taken u h side p _ _ (Gives bytes t c s q x is hand next) a = absurd (no-answer h None tt a)
signal-taken u h side p _ _ (Halts t connection is first) a = absurd (no-answer h None tt a)
signal-taken u h side p _ _ (Frees t connection is) a = absurd (no-answer h (Some _) tt a)
signal-taken u h side p _ _ (Resets r b is) a = (same-reset h p r a, is)
signal-taken u h side p _ _ (Forgets x) a = absurd (no-answer h None tt a)

not-answered : (b : Bool) (h : HoldPhase) (step : Option UnitStep) → IsOtherStep step → IsAnswered h (sent_to b (sent_by step)) → ⊥
not-answered b h step o a = no-answer h (sent_by step) o (answered-to b h (sent_by step) a).1

pub answer-taken : (u : UnitState) (h : HoldPhase) (act : UnitAct) (side : Side) → IsAnswered h (up_sent u act side) → IsTakenBy u h act side
answer-taken u h (Takes_down k x may) side a =
    let both : (same_side k side ≡ true) × IsAnswered h (sent_by (unit_takes u k x.path x.signal may)) = answered-to (same_side k side) h (sent_by (unit_takes u k x.path x.signal may)) a in
    (both.0, subst (λ (j : Side). IsReset u h j x.signal) (one-side k side both.0) (signal-taken u h k x.path x.signal _ (takes-by u k x.path x.signal may) both.1))
answer-taken u h Leaves side a = not-answered (is_owner_side u.own side) h (leaving u u.own) (leaving-other u u.own) a
answer-taken u h (Asks p) side a = not-answered (is_owner_side u.own side) h (asking u u.own p) (asking-other u u.own p) a
answer-taken u h (Attends k p) side a =
    not-answered (same_side k side) h (attending u k p) (other-if (is_idle u.own && not (side_of u k).fresh) _ None tt tt) a
answer-taken u h Restarts side a = not-answered false h None tt a
answer-taken u h (Notices k p) side a = not-answered (same_side k side) h (noticing u k p) (other-if (side_of u k).fresh (telling u p) None tt tt) a
answer-taken u h (Reports r) side a = not-answered (is_owner_side u.own side) h (report_of u u.own r) (report-other u u.own r) a
