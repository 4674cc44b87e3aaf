-- What a unit does of itself or for its device, told by where the program of a side is at it.
use Rattle.std.proofs.Common.{◌≡◌, refl, sym, ◌∙◌, ap, subst, ℕ, ◌≤◌, ◌+◌, ◌==◌, ◌&&◌, nat_le, Bool, true, false, not, Option, None, Some, List, length, arith}
use Rattle.std.specs.Prelude.{if◌then◌else◌}
use Rattle.std.proofs.lemmas.Bool.{and_parts}
use Rattle.scsw_irb.specs.declared.status.DeviceStatus.{DeviceStatus}
use Rattle.chan_model.specs.declared.names.Side.{Side}
use Rattle.chan_model.specs.declared.names.Side.TheVariants.{First, Second}
use Rattle.chan_model.specs.Reports.{DeviceAnswer}
use Rattle.chan_model.specs.declared.report.DeviceAnswer.TheVariants as answer
use Rattle.chan_model.specs.Reports.{Report}
use Rattle.chan_model.specs.Signals.{Load}
use Rattle.chan_model.specs.Signals.{Up}
use Rattle.chan_model.specs.declared.signal.Up.TheVariants as up
use Rattle.chan_model.specs.declared.unit_state.CurrentCommand.{CurrentCommand}
use Rattle.chan_model.specs.declared.unit_state.Own.{Own}
use Rattle.chan_model.specs.declared.unit_state.Own.TheVariants as own
use Rattle.chan_model.specs.declared.unit_state.Connection.{Connection}
use Rattle.chan_model.specs.declared.unit_state.Connection.TheVariants as connection
use Rattle.chan_model.specs.declared.unit_state.Progress.{Progress}
use Rattle.chan_model.specs.declared.unit_state.Progress.TheVariants as progress
use Rattle.chan_model.specs.declared.unit_state.SideState.{SideState}
use Rattle.chan_model.specs.declared.unit_state.UnitState.{UnitState}
use Rattle.chan_model.specs.Sides.{same_side}
use Rattle.chan_model.specs.UnitReports.{is_outward, may_end, most_of, is_to_supply, answer_taken, report_on, report_of, unit_reports, report_absorbed, sent_again}
use Rattle.chan_model.specs.UnitTable.{UnitStep, side_of, owns, telling, noticing, leaving, asking, attending, is_idle, marked_again, changes, sends}
use Rattle.unit.specs.UnitWords.{connection_of, LeavesOther, other_of}
use Rattle.agreement_laws.specs.Moving.{is_owner_side}
use Rattle.agreement_laws.specs.HolderSeen.{IsSaidRight}
use Rattle.agree.proofs.Holdings.{holding_of, idle-unheld, side-restarted}
use Rattle.agree.proofs.UnitPaths.{held, held_at, holds, floor_of, IsQuiet, IsStill, still, still-as, own-floor, not-owned}

-- of this program, and of this connection
abbrev pub IsOfConnection : ℕ → ℕ → Up → Type 0
IsOfConnection t c (up.Data load u d n s) = (u ≡ t) × (d ≡ c)
IsOfConnection t c (up.End u n status more) = u ≡ t
IsOfConnection t c x = ⊥

abbrev pub IsOffPath : Connection → Type 0
IsOffPath (connection.On p c) = ⊥
IsOffPath at = Unit {0}

pub data Acts (side : Side) (u : UnitState) : Option UnitStep → Type 0 where
  Idles : Acts side u None
  Says : (v : UnitState) (p : ℕ) (x : Up) → IsQuiet x → IsSaidRight (holding_of u) side x → IsStill u v side → Acts side u (sends v p x)
  Begins : (v : UnitState) → IsStill u v side → Acts side u (changes v)
  Leaves : (t p c : ℕ) (v : UnitState) → holds u side ≡ Some (held t (connection.On p c)) → holds v side ≡ Some (held t (connection.Away c)) → floor_of u side ≤ floor_of v side →
      Acts side u (sends v p (up.Leave t c))
  Asks : (t p : ℕ) (at : Connection) (v : UnitState) → IsOffPath at → holds u side ≡ Some (held t at) → holds v side ≡ Some (held t (connection.Ask p (connection_of at + 1))) → floor_of u side ≤ floor_of v side →
      Acts side u (sends v p (up.Back t (connection_of at + 1)))
  Sends : (t p c : ℕ) (x : Up) (v : UnitState) → IsOfConnection t c x → holds u side ≡ Some (held t (connection.On p c)) → IsStill u v side → Acts side u (sends v p x)

if-acts : (side : Side) (u : UnitState) (b : Bool) (x y : Option UnitStep) → (b ≡ true → Acts side u x) → Acts side u y → Acts side u (if b then x else y)
if-acts side u true x y e f = e refl
if-acts side u false x y e f = f

-- reports, where the program t of this side is on p by the connection c
abbrev IsOn : UnitState → Side → ℕ → ℕ → ℕ → Type 0
IsOn u side t p c = holds u side ≡ Some (held t (connection.On p c))

hand-still : (u : UnitState) (x : CurrentCommand) (side : Side) → IsStill u (record u { current = Some x }) side
hand-still u x side = still-as u (record u { current = Some x }) side refl refl refl

data-acts : (side : Side) (u : UnitState) (p t c n s : ℕ) (x : CurrentCommand) (load : Load) → IsOn u side t p c → Acts side u (sends (record u { current = Some x }) p (up.Data load t c n s))
data-acts side u p t c n s x load on = Sends t p c (up.Data load t c n s) _ (refl, refl) on (hand-still u x side)

absorbed-acts : (side : Side) (u : UnitState) (p t c : ℕ) (x : CurrentCommand) (given : Option (List ℕ)) (count : ℕ) → IsOn u side t p c → Acts side u (report_absorbed u p t c x given count)
absorbed-acts side u p t c x None count on = Idles
absorbed-acts side u p t c x (Some bytes) count on = if-acts side u (nat_le count (length bytes)) _ None (λ e. data-acts side u p t c _ _ _ _ on) Idles

again-acts : (side : Side) (u : UnitState) (p t c : ℕ) (x : CurrentCommand) (load : Option Load) → IsOn u side t p c → Acts side u (sent_again u p t c x load)
again-acts side u p t c x None on = Idles
again-acts side u p t c x (Some load) on = if-acts side u x.again _ None (λ e. data-acts side u p t c _ _ _ _ on) Idles

end-acts : (side : Side) (u : UnitState) (p t c : ℕ) (x : CurrentCommand) (n : ℕ) (status : DeviceStatus) (more : Bool) → IsOn u side t p c →
    Acts side u (sends (record u { current = Some x }) p (up.End t n status more))
end-acts side u p t c x n status more on = Sends t p c (up.End t n status more) _ refl on (hand-still u x side)

answer-acts : (side : Side) (u : UnitState) (p t c : ℕ) (x : CurrentCommand) (at : Progress) (a : DeviceAnswer) → IsOn u side t p c → Acts side u (answer_taken u p t c x at a)
answer-acts side u p t c x at (answer.Ended status more) on = if-acts side u (may_end u.halted x at status more) _ None (λ e. end-acts side u p t c _ _ _ _ on) Idles
answer-acts side u p t c x progress.New answer.Begins on = if-acts side u (is_outward x.code) _ _ (λ e. data-acts side u p t c _ _ _ _ on) (Begins _ (hand-still u _ side))
answer-acts side u p t c x progress.New (answer.Absorbed count) on = Idles
answer-acts side u p t c x progress.New (answer.Supplied bytes) on = Idles
answer-acts side u p t c x progress.New answer.Again on = Idles
answer-acts side u p t c x progress.Working answer.Begins on = Idles
answer-acts side u p t c x progress.Working (answer.Absorbed count) on = absorbed-acts side u p t c x x.unabsorbed count on
answer-acts side u p t c x progress.Working (answer.Supplied bytes) on =
    if-acts side u (is_to_supply x && nat_le (length bytes) (most_of x)) _ None (λ e. data-acts side u p t c _ _ _ _ on) Idles
answer-acts side u p t c x progress.Working answer.Again on = again-acts side u p t c x x.unanswered on
answer-acts side u p t c x progress.ChannelEnded answer.Begins on = Idles
answer-acts side u p t c x progress.ChannelEnded (answer.Absorbed count) on = Idles
answer-acts side u p t c x progress.ChannelEnded (answer.Supplied bytes) on = Idles
answer-acts side u p t c x progress.ChannelEnded answer.Again on = Idles
answer-acts side u p t c x progress.Ended answer.Begins on = Idles
answer-acts side u p t c x progress.Ended (answer.Absorbed count) on = Idles
answer-acts side u p t c x progress.Ended (answer.Supplied bytes) on = Idles
answer-acts side u p t c x progress.Ended answer.Again on = Idles

owned-at : (u : UnitState) (side k : Side) (t : ℕ) (at : Connection) → u.own ≡ own.Owned k t at → same_side k side ≡ true → holds u side ≡ Some (held t at)
owned-at u side k t at e s = ap (λ (o : Own). held_at o side) e ∙ ap (λ (b : Bool). if b then Some (held t at) else None) s

report_on-acts : (side : Side) (u : UnitState) (t : ℕ) (at : Connection) (x : Option CurrentCommand) (r : Report) → holds u side ≡ Some (held t at) → Acts side u (report_on u t at x r)
report_on-acts side u t (connection.On p c) None r on = Idles
report_on-acts side u t (connection.On p c) (Some x) r on =
    if-acts side u (r.sequence == x.sequence) (answer_taken u p t c x x.progress r.answer) None (λ e. answer-acts side u p t c x x.progress r.answer on) Idles
report_on-acts side u t (connection.Ask p c) None r on = Idles
report_on-acts side u t (connection.Ask p c) (Some x) r on = Idles
report_on-acts side u t (connection.Away c) None r on = Idles
report_on-acts side u t (connection.Away c) (Some x) r on = Idles

-- of the side whose program holds the device
report_of-acts : (side : Side) (u : UnitState) (o : Own) (r : Report) → u.own ≡ o → is_owner_side o side ≡ true → Acts side u (report_of u o r)
report_of-acts side u own.Idle r e s = Idles
report_of-acts side u (own.Owned k t at) r e s =
    if-acts side u (same_side k r.side && ((r.number == t) && (r.command == u.last_command))) (report_on u t at u.current r) None
    (λ h. report_on-acts side u t at u.current r (owned-at u side k t at e s)) Idles

pub reports-acts : (side : Side) (u : UnitState) (r : Report) → is_owner_side u.own side ≡ true → Acts side u (unit_reports u r)
reports-acts side u r s = report_of-acts side u u.own r refl s

own-le : (u : UnitState) (o : Own) (x : Option CurrentCommand) (side : Side) → floor_of u side ≤ floor_of (record u { own = o; current = x }) side
own-le u o x First = omega arith
own-le u o x Second = omega arith

asked-le : (u : UnitState) (o : Own) (side : Side) → floor_of u side ≤ floor_of (record u { own = o }) side
asked-le u o side = let e : floor_of (record u { own = o }) side ≡ floor_of u side = own-floor u o side in omega (arith, e)

own-here : (k side : Side) (t : ℕ) (at : Connection) → same_side k side ≡ true → held_at (own.Owned k t at) side ≡ Some (held t at)
own-here k side t at s = ap (λ (b : Bool). if b then Some (held t at) else None) s

leaving-of : (side : Side) (u : UnitState) (o : Own) → u.own ≡ o → is_owner_side o side ≡ true → Acts side u (leaving u o)
leaving-of side u own.Idle e s = Idles
leaving-of side u (own.Owned k t (connection.On p c)) e s =
    Leaves t p c _ (owned-at u side k t (connection.On p c) e s) (own-here k side t (connection.Away c) s) (own-le u (own.Owned k t (connection.Away c)) (marked_again u.current) side)
leaving-of side u (own.Owned k t (connection.Ask p c)) e s = Idles
leaving-of side u (own.Owned k t (connection.Away c)) e s = Idles

pub leaving-acts : (side : Side) (u : UnitState) → is_owner_side u.own side ≡ true → Acts side u (leaving u u.own)
leaving-acts side u s = leaving-of side u u.own refl s

asking-of : (side : Side) (u : UnitState) (o : Own) (p : ℕ) → u.own ≡ o → is_owner_side o side ≡ true → Acts side u (asking u o p)
asking-of side u own.Idle p e s = Idles
asking-of side u (own.Owned k t (connection.On q c)) p e s = Idles
asking-of side u (own.Owned k t (connection.Ask q c)) p e s =
    Asks t p (connection.Ask q c) _ tt (owned-at u side k t (connection.Ask q c) e s) (own-here k side t (connection.Ask p (c + 1)) s) (asked-le u (own.Owned k t (connection.Ask p (c + 1))) side)
asking-of side u (own.Owned k t (connection.Away c)) p e s =
    Asks t p (connection.Away c) _ tt (owned-at u side k t (connection.Away c) e s) (own-here k side t (connection.Ask p (c + 1)) s) (asked-le u (own.Owned k t (connection.Ask p (c + 1))) side)

pub asking-acts : (side : Side) (u : UnitState) (p : ℕ) → is_owner_side u.own side ≡ true → Acts side u (asking u u.own p)
asking-acts side u p s = asking-of side u u.own p refl s

not-true : (b : Bool) → not b ≡ true → b ≡ false
not-true true e = absurd (cc e)
not-true false e = refl

pub attending-acts : (side : Side) (u : UnitState) (p : ℕ) → Acts side u (attending u side p)
attending-acts side u p =
    if-acts side u (is_idle u.own && not (side_of u side).fresh) _ None
    (λ e.
    let both = and_parts (is_idle u.own) (not (side_of u side).fresh) e in
    Says _ p _ tt (idle-unheld u.own both.0, side-restarted u side ∙ not-true (side_of u side).fresh both.1) (still-as u (record u { attentions = u.attentions + 1; attention = Some (record { number = u.attentions + 1; side = side }); end_owed = false }) side refl refl refl)) Idles

pub noticing-acts : (side : Side) (u : UnitState) (p : ℕ) → Acts side u (noticing u side p)
noticing-acts side u p = if-acts side u (side_of u side).fresh (telling u p) None (λ e. Says u p (up.Notice u.restarts) tt (refl, side-restarted u side ∙ e) (still u side)) Idles

-- what the unit does at one side leaves it where it was for the other
held-owned : (u v : UnitState) (side : Side) (b : Bool) → owns u.own side ≡ b → owns v.own side ≡ owns u.own side → (owns u.own side ≡ true → v.own ≡ u.own) → holds v side ≡ holds u side
held-owned u v side true e same kept = ap (λ (o : Own). held_at o side) (kept e)
held-owned u v side false e same kept = not-owned v.own side (same ∙ e) ∙ sym (not-owned u.own side e)

other-side : (k side : Side) → same_side k side ≡ false → other_of k ≡ side
other-side First First e = absurd (cc e)
other-side First Second e = refl
other-side Second First e = refl
other-side Second Second e = absurd (cc e)

other-still : (u v : UnitState) (k : Side) → LeavesOther k u v → IsStill u v (other_of k)
other-still u v k h = record {
  held = held-owned u v (other_of k) (owns u.own (other_of k)) refl h.owner (λ e. (h.program e).own);
  floor = let e : floor_of v (other_of k) ≡ floor_of u (other_of k) = ap (λ (s : SideState). s.floor) h.kept in omega (arith, e);
}

pub apart-still : (u v : UnitState) (k side : Side) → same_side k side ≡ false → LeavesOther k u v → IsStill u v side
apart-still u v k side n h = subst (λ (j : Side). IsStill u v j) (other-side k side n) (other-still u v k h)
