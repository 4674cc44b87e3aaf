-- Every signal that a unit takes, and every act of its own, is a move at each of its sides.
use Rattle.std.proofs.Common.{◌≡◌, ℕ, ◌+◌, ◌<◌, ◌≤◌, ◌==◌, ◌&&◌, ◌||◌, inl, inr, not, Bool, true, false, nat_lt, nat_le, length, Option, None, Some, List, refl, sym, subst, arith}
use Rattle.std.specs.Prelude.{if◌then◌else◌}
use Rattle.std.proofs.lemmas.Bool.{eqb-true, ltb-true, and_parts}
use Rattle.chan_model.specs.declared.names.Side.{Side}
use Rattle.chan_model.specs.declared.names.Side.TheVariants.{First, Second}
use Rattle.chan_model.specs.declared.hold_state.HoldState.{HoldState}
use Rattle.chan_model.specs.Reports.{Report}
use Rattle.chan_model.specs.Reports.{DeviceAnswer}
use Rattle.chan_model.specs.declared.report.DeviceAnswer.TheVariants as answer
use Rattle.chan_model.specs.Signals.{Load}
use Rattle.chan_model.specs.Signals.{Down}
use Rattle.chan_model.specs.declared.signal.Down.TheVariants as down
use Rattle.chan_model.specs.declared.signal.Up.TheVariants as up
use Rattle.chan_model.specs.declared.unit_state.CurrentCommand.{CurrentCommand}
use Rattle.chan_model.specs.declared.unit_state.Own.{Own}
use Rattle.chan_model.specs.declared.unit_state.Own.TheVariants as own
use Rattle.chan_model.specs.declared.unit_state.Connection.{Connection}
use Rattle.chan_model.specs.declared.unit_state.Connection.TheVariants.{On, Ask, Away}
use Rattle.chan_model.specs.declared.unit_state.Progress.{Progress}
use Rattle.chan_model.specs.declared.unit_state.Progress.TheVariants as progress
use Rattle.chan_model.specs.declared.unit_state.SideState.{SideState}
use Rattle.chan_model.specs.declared.unit_state.UnitState.{UnitState}
use Rattle.chan_model.specs.Sides.{same_side}
use Rattle.chan_model.specs.UnitTable.{UnitStep, sends, side_of, is_owner, is_owner_on, is_idle, telling, unit_works, unit_takes, unit_after, leaving, leaving_from, asking, asking_from, attending, restarted, noticing, reset_side}
use Rattle.chan_model.specs.UnitReports.{is_to_supply, most_of, may_end, is_outward, answer_taken, report_on, report_of, report_absorbed, sent_again}
use Rattle.agreement_laws.specs.Moving.{UnitAct, Takes_down, Leaves, Asks, Attends, Restarts, Notices, Reports, unit_steps, is_owner_side, sent_by, up_sent}
use Rattle.agreement_laws.specs.Invariant.{SideSeen, Idle, Fresh, Owns, Ends, ends_seen, ends_of, seen_by, IsResetTo, IsResetGood, IsDownGood, IsFreshFree}
use Rattle.agreement_laws.proofs.UnitKeeps.{UnitMoves, Stays, Clears, by_path}
use Rattle.agreement_laws.proofs.UnitKeeps as keeps
use Rattle.agreement_laws.proofs.UnitActs.{IsStep, IsGiven, at, working, marked, nothing, unseen, unseen-if, step-if, select-steps, given-steps, answered-steps, forgetting-steps, granted-steps, refused-steps, releasing-steps, telling-steps}

-- a side in this state
abbrev side_at : ℕ → Bool → SideState
side_at f fresh = record { floor = f; fresh = fresh }

-- Reset, with the unit's own restart count
above-floor : (f r : ℕ) (fresh : Bool) (b : ℕ) (o : SideSeen) (k n s : ℕ) (h : HoldState) → (fresh || nat_lt f r) ≡ true →
    IsResetGood (record { drawn = n; phase = h.phase; last = s; known_restarts = k; restarts = b; floor = f; seen = (if fresh then Fresh else o) }) r b → (f < r) × IsResetTo h.phase r
above-floor f r true b o k n s h e g = elim g [ inl y ↦ absurd (omega (arith, y.1)) | inr y ↦ y ]
above-floor f r false b o k n s h e g = elim g [ inl y ↦ absurd (omega (arith, y.0, ltb-true f r e)) | inr y ↦ y ]

resets-here : (n : ℕ) (h : HoldState) (b f : ℕ) (fresh : Bool) (o : SideSeen) (p r : ℕ) → (fresh || nat_lt f r) ≡ true → r ≤ n →
    IsResetGood (ends_seen n h.phase h.seen h.known_restarts b f (if fresh then Fresh else o)) r b →
    UnitMoves (ends_seen n h.phase h.seen h.known_restarts b f (if fresh then Fresh else o)) (ends_seen n h.phase h.seen h.known_restarts b r Idle) (by_path p (up.Cleared r))
resets-here n h b f fresh o p r e le g =
    let to : (f < r) × IsResetTo h.phase r = above-floor f r fresh b o h.known_restarts n h.seen h e g in
    Clears n h.phase h.seen h.known_restarts b f p r (if fresh then Fresh else o) to.0 le to.1

reset-idle : (side : Side) (u : UnitState) (f : ℕ) (fresh : Bool) (y : SideState) (p r : ℕ) → (fresh || nat_lt f r) ≡ true →
    IsStep side (at side u own.Idle (side_at f fresh) y) (sends (reset_side (at side u own.Idle (side_at f fresh) y) side r) p (up.Cleared r)) (IsGiven p (down.Reset r u.restarts))
reset-idle First u f fresh y p r e =
    record {
      here = λ n h g. resets-here n h u.restarts f fresh Idle p r e g.0 g.2;
      there = λ n h. refl;
      free_here = λ m w. cc;
      free_there = λ m. m;
    }
reset-idle Second u f fresh y p r e =
    record {
      here = λ n h g. resets-here n h u.restarts f fresh Idle p r e g.0 g.2;
      there = λ n h. refl;
      free_here = λ m w. cc;
      free_there = λ m. m;
    }

reset-owned : (side k : Side) (u : UnitState) (v : ℕ) (connection : Connection) (f : ℕ) (fresh : Bool) (y : SideState) (p r : ℕ) → (fresh || nat_lt f r) ≡ true →
    IsStep side (at side u (own.Owned k v connection) (side_at f fresh) y) (sends (reset_side (at side u (own.Owned k v connection) (side_at f fresh) y) side r) p (up.Cleared r)) (IsGiven p (down.Reset r u.restarts))
reset-owned First First u v connection f fresh y p r e =
    record {
      here = λ n h g. resets-here n h u.restarts f fresh (Owns v connection) p r e g.0 g.2;
      there = λ n h. refl;
      free_here = λ m w. cc;
      free_there = λ m w. refl;
    }
reset-owned First Second u v connection f fresh y p r e =
    record {
      here = λ n h g. resets-here n h u.restarts f fresh Idle p r e g.0 g.2;
      there = λ n h. refl;
      free_here = λ m w. cc;
      free_there = λ m. m;
    }
reset-owned Second First u v connection f fresh y p r e =
    record {
      here = λ n h g. resets-here n h u.restarts f fresh Idle p r e g.0 g.2;
      there = λ n h. refl;
      free_here = λ m w. cc;
      free_there = λ m. m;
    }
reset-owned Second Second u v connection f fresh y p r e =
    record {
      here = λ n h g. resets-here n h u.restarts f fresh (Owns v connection) p r e g.0 g.2;
      there = λ n h. refl;
      free_here = λ m w. cc;
      free_there = λ m w. refl;
    }

reset-own : (side : Side) (u : UnitState) (o : Own) (f : ℕ) (fresh : Bool) (y : SideState) (p r : ℕ) → (fresh || nat_lt f r) ≡ true →
    IsStep side (at side u o (side_at f fresh) y) (sends (reset_side (at side u o (side_at f fresh) y) side r) p (up.Cleared r)) (IsGiven p (down.Reset r u.restarts))
reset-own side u own.Idle f fresh y p r e = reset-idle side u f fresh y p r e
reset-own side u (own.Owned k v connection) f fresh y p r e = reset-owned side k u v connection f fresh y p r e

reset-steps : (side : Side) (u : UnitState) (o : Own) (f : ℕ) (fresh : Bool) (y : SideState) (p r b : ℕ) (taken : Bool) → ((b == u.restarts) && (fresh || nat_lt f r)) ≡ taken →
    IsStep side (at side u o (side_at f fresh) y)
    (if taken then sends (reset_side (at side u o (side_at f fresh) y) side r) p (up.Cleared r) else (if fresh then telling (at side u o (side_at f fresh) y) p else None))
    (IsGiven p (down.Reset r b))
reset-steps side u o f fresh y p r b true e =
    let both : ((b == u.restarts) ≡ true) × ((fresh || nat_lt f r) ≡ true) = and_parts (b == u.restarts) (fresh || nat_lt f r) e in
    subst (λ (x : ℕ). IsStep side (at side u o (side_at f fresh) y) (sends (reset_side (at side u o (side_at f fresh) y) side r) p (up.Cleared r)) (IsGiven p (down.Reset r x)))
    (sym (eqb-true b u.restarts both.0)) (reset-own side u o f fresh y p r both.1)
reset-steps side u o f fresh y p r b false e =
    step-if side (at side u o (side_at f fresh) y) fresh _ (IsGiven p (down.Reset r b)) (telling-steps side (at side u o (side_at f fresh) y) p (IsGiven p (down.Reset r b)))

-- a signal of a side that is not fresh
works-steps : (side : Side) (u : UnitState) (o : Own) (f : ℕ) (y : SideState) (p : ℕ) (d : Down) (may : Bool) →
    IsStep side (at side u o (working f) y) (unit_works (at side u o (working f) y) side p d may) (IsGiven p d)
works-steps First u o f y p (down.Select t) may = select-steps First u o f y p t may (nat_lt f t) refl
works-steps Second u o f y p (down.Select t) may = select-steps Second u o f y p t may (nat_lt f t) refl
works-steps First u o f y p (down.Command t n code room) may = unseen-if First _ _ (is_owner o First t && (n == u.last_command + 1)) _ refl refl refl refl
works-steps Second u o f y p (down.Command t n code room) may = unseen-if Second _ _ (is_owner o Second t && (n == u.last_command + 1)) _ refl refl refl refl
works-steps First u o f y p (down.Grant t c) may = granted-steps First u o f y p t c
works-steps Second u o f y p (down.Grant t c) may = granted-steps Second u o f y p t c
works-steps First u o f y p (down.Refuse t c) may = refused-steps First u o f y p t c
works-steps Second u o f y p (down.Refuse t c) may = refused-steps Second u o f y p t c
works-steps First u o f y p (down.Took t n s room) may =
    step-if First _ (is_owner o First t && (n == u.last_command)) _ _ (answered-steps First _ u.current s room _)
works-steps Second u o f y p (down.Took t n s room) may =
    step-if Second _ (is_owner o Second t && (n == u.last_command)) _ _ (answered-steps Second _ u.current s room _)
works-steps First u o f y p (down.Give bytes t c n s) may =
    step-if First _ (is_owner_on o First t c && (n == u.last_command)) _ _ (given-steps First _ u.current s bytes _)
works-steps Second u o f y p (down.Give bytes t c n s) may =
    step-if Second _ (is_owner_on o Second t c && (n == u.last_command)) _ _ (given-steps Second _ u.current s bytes _)
works-steps First u o f y p (down.Halt t) may = unseen-if First _ _ (is_owner o First t && not u.halted) _ refl refl refl refl
works-steps Second u o f y p (down.Halt t) may = unseen-if Second _ _ (is_owner o Second t && not u.halted) _ refl refl refl refl
works-steps First u o f y p (down.Release t) may = releasing-steps First u o f y p t
works-steps Second u o f y p (down.Release t) may = releasing-steps Second u o f y p t
works-steps First u o f y p (down.Reset r b) may = nothing First _ _
works-steps Second u o f y p (down.Reset r b) may = nothing Second _ _
works-steps First u o f y p (down.Got a) may = forgetting-steps First _ u.attention a _
works-steps Second u o f y p (down.Got a) may = forgetting-steps Second _ u.attention a _

fresh-or-works : (side : Side) (u : UnitState) (o : Own) (f : ℕ) (fresh : Bool) (y : SideState) (p : ℕ) (d : Down) (may : Bool) →
    IsStep side (at side u o (side_at f fresh) y)
    (if fresh then telling (at side u o (side_at f fresh) y) p else unit_works (at side u o (side_at f fresh) y) side p d may) (IsGiven p d)
fresh-or-works side u o f true y p d may = telling-steps side (at side u o (marked f) y) p (IsGiven p d)
fresh-or-works side u o f false y p d may = works-steps side u o f y p d may

signal-steps : (side : Side) (u : UnitState) (o : Own) (f : ℕ) (fresh : Bool) (y : SideState) (p : ℕ) (d : Down) (may : Bool) →
    IsStep side (at side u o (side_at f fresh) y) (unit_takes (at side u o (side_at f fresh) y) side p d may) (IsGiven p d)
signal-steps First u o f fresh y p (down.Reset r b) may = reset-steps First u o f fresh y p r b ((b == u.restarts) && (fresh || nat_lt f r)) refl
signal-steps Second u o f fresh y p (down.Reset r b) may = reset-steps Second u o f fresh y p r b ((b == u.restarts) && (fresh || nat_lt f r)) refl
signal-steps First u o f fresh y p (down.Select t) may = fresh-or-works First u o f fresh y p (down.Select t) may
signal-steps Second u o f fresh y p (down.Select t) may = fresh-or-works Second u o f fresh y p (down.Select t) may
signal-steps First u o f fresh y p (down.Command t n code room) may = fresh-or-works First u o f fresh y p (down.Command t n code room) may
signal-steps Second u o f fresh y p (down.Command t n code room) may = fresh-or-works Second u o f fresh y p (down.Command t n code room) may
signal-steps First u o f fresh y p (down.Grant t c) may = fresh-or-works First u o f fresh y p (down.Grant t c) may
signal-steps Second u o f fresh y p (down.Grant t c) may = fresh-or-works Second u o f fresh y p (down.Grant t c) may
signal-steps First u o f fresh y p (down.Refuse t c) may = fresh-or-works First u o f fresh y p (down.Refuse t c) may
signal-steps Second u o f fresh y p (down.Refuse t c) may = fresh-or-works Second u o f fresh y p (down.Refuse t c) may
signal-steps First u o f fresh y p (down.Took t n s room) may = fresh-or-works First u o f fresh y p (down.Took t n s room) may
signal-steps Second u o f fresh y p (down.Took t n s room) may = fresh-or-works Second u o f fresh y p (down.Took t n s room) may
signal-steps First u o f fresh y p (down.Give bytes t c n s) may = fresh-or-works First u o f fresh y p (down.Give bytes t c n s) may
signal-steps Second u o f fresh y p (down.Give bytes t c n s) may = fresh-or-works Second u o f fresh y p (down.Give bytes t c n s) may
signal-steps First u o f fresh y p (down.Halt t) may = fresh-or-works First u o f fresh y p (down.Halt t) may
signal-steps Second u o f fresh y p (down.Halt t) may = fresh-or-works Second u o f fresh y p (down.Halt t) may
signal-steps First u o f fresh y p (down.Release t) may = fresh-or-works First u o f fresh y p (down.Release t) may
signal-steps Second u o f fresh y p (down.Release t) may = fresh-or-works Second u o f fresh y p (down.Release t) may
signal-steps First u o f fresh y p (down.Got a) may = fresh-or-works First u o f fresh y p (down.Got a) may
signal-steps Second u o f fresh y p (down.Got a) may = fresh-or-works Second u o f fresh y p (down.Got a) may

takes-steps : (side : Side) (u : UnitState) (p : ℕ) (d : Down) (may : Bool) → IsStep side u (unit_takes u side p d may) (IsGiven p d)
takes-steps First u p d may = signal-steps First u u.own u.first.floor u.first.fresh u.second p d may
takes-steps Second u p d may = signal-steps Second u u.own u.second.floor u.second.fresh u.first p d may

-- nothing is wanted of what is at hand
abbrev pub Always : Ends → Type 0
Always e = Unit {0}

not-both : true ≡ false → ⊥
not-both e = cc

-- Leave, and Ask, of the program that holds the device, whose side is not fresh
leaving-steps : (k : Side) (u : UnitState) (t : ℕ) (connection : Connection) (f : ℕ) (fresh : Bool) (y : SideState) →
    IsStep k (at k u (own.Owned k t connection) (side_at f fresh) y) (leaving_from (at k u (own.Owned k t connection) (side_at f fresh) y) k t connection) Always
leaving-steps First u t (On p c) f true y =
    record { here = λ n h g. Stays _ _ _ refl tt; there = λ n h. refl; free_here = λ m. m; free_there = λ m. m }
leaving-steps First u t (On p c) f false y =
    record { here = λ n h g. keeps.Leaves n h.phase h.seen h.known_restarts u.restarts f t p c p c; there = λ n h. refl; free_here = λ m. m; free_there = λ m. m }
leaving-steps Second u t (On p c) f true y =
    record { here = λ n h g. Stays _ _ _ refl tt; there = λ n h. refl; free_here = λ m. m; free_there = λ m. m }
leaving-steps Second u t (On p c) f false y =
    record { here = λ n h g. keeps.Leaves n h.phase h.seen h.known_restarts u.restarts f t p c p c; there = λ n h. refl; free_here = λ m. m; free_there = λ m. m }
leaving-steps k u t (Ask p c) f fresh y = nothing k _ Always
leaving-steps k u t (Away c) f fresh y = nothing k _ Always

asking-steps : (k : Side) (u : UnitState) (t : ℕ) (connection : Connection) (f : ℕ) (fresh : Bool) (y : SideState) (p : ℕ) → (fresh ≡ true → true ≡ false) →
    IsStep k (at k u (own.Owned k t connection) (side_at f fresh) y) (asking_from (at k u (own.Owned k t connection) (side_at f fresh) y) k t connection p) Always
asking-steps k u t (On q c) f fresh y p x = nothing k _ Always
asking-steps k u t (Ask q c) f true y p x = absurd (not-both (x refl))
asking-steps First u t (Ask q c) f false y p x =
    record { here = λ n h g. keeps.Asks n h.phase h.seen h.known_restarts u.restarts f t p c (Ask q c) refl; there = λ n h. refl; free_here = λ m. m; free_there = λ m. m }
asking-steps Second u t (Ask q c) f false y p x =
    record { here = λ n h g. keeps.Asks n h.phase h.seen h.known_restarts u.restarts f t p c (Ask q c) refl; there = λ n h. refl; free_here = λ m. m; free_there = λ m. m }
asking-steps k u t (Away c) f true y p x = absurd (not-both (x refl))
asking-steps First u t (Away c) f false y p x =
    record { here = λ n h g. keeps.Asks n h.phase h.seen h.known_restarts u.restarts f t p c (Away c) refl; there = λ n h. refl; free_here = λ m. m; free_there = λ m. m }
asking-steps Second u t (Away c) f false y p x =
    record { here = λ n h g. keeps.Asks n h.phase h.seen h.known_restarts u.restarts f t p c (Away c) refl; there = λ n h. refl; free_here = λ m. m; free_there = λ m. m }

-- a report changes only the command at hand
absorbed-steps : (k : Side) (u : UnitState) (p t c : ℕ) (x : CurrentCommand) (given : Option (List ℕ)) (count : ℕ) → IsStep k u (report_absorbed u p t c x given count) Always
absorbed-steps k u p t c x None count = nothing k u Always
absorbed-steps k u p t c x (Some bytes) count = step-if k u (nat_le count (length bytes)) _ Always (unseen k u _ _ Always refl refl refl refl tt)

begun-steps : (k : Side) (u : UnitState) (b : Bool) (step other : Option UnitStep) → IsStep k u step Always → IsStep k u other Always → IsStep k u (if b then step else other) Always
begun-steps k u true step other s o = s
begun-steps k u false step other s o = o

again-steps : (k : Side) (u : UnitState) (p t c : ℕ) (x : CurrentCommand) (load : Option Load) → IsStep k u (sent_again u p t c x load) Always
again-steps k u p t c x None = nothing k u Always
again-steps k u p t c x (Some load) = step-if k u x.again _ Always (unseen k u _ _ Always refl refl refl refl tt)

end-steps : (k : Side) (u : UnitState) (p t c : ℕ) (x : CurrentCommand) (progress : Progress) (a : DeviceAnswer) → IsStep k u (answer_taken u p t c x progress a) Always
end-steps k u p t c x progress.New answer.Begins = begun-steps k u (is_outward x.code) _ _ (unseen k u _ _ Always refl refl refl refl tt) (unseen k u _ None Always refl refl refl refl tt)
end-steps k u p t c x progress.New (answer.Absorbed count) = nothing k u Always
end-steps k u p t c x progress.New (answer.Supplied bytes) = nothing k u Always
end-steps k u p t c x progress.New answer.Again = nothing k u Always
end-steps k u p t c x progress.New (answer.Ended status more) = step-if k u (may_end u.halted x progress.New status more) _ Always (unseen k u _ _ Always refl refl refl refl tt)
end-steps k u p t c x progress.Working answer.Begins = nothing k u Always
end-steps k u p t c x progress.Working (answer.Absorbed count) = absorbed-steps k u p t c x x.unabsorbed count
end-steps k u p t c x progress.Working (answer.Supplied bytes) = step-if k u (is_to_supply x && nat_le (length bytes) (most_of x)) _ Always (unseen k u _ _ Always refl refl refl refl tt)
end-steps k u p t c x progress.Working answer.Again = again-steps k u p t c x x.unanswered
end-steps k u p t c x progress.Working (answer.Ended status more) = step-if k u (may_end u.halted x progress.Working status more) _ Always (unseen k u _ _ Always refl refl refl refl tt)
end-steps k u p t c x progress.ChannelEnded answer.Begins = nothing k u Always
end-steps k u p t c x progress.ChannelEnded (answer.Absorbed count) = nothing k u Always
end-steps k u p t c x progress.ChannelEnded (answer.Supplied bytes) = nothing k u Always
end-steps k u p t c x progress.ChannelEnded answer.Again = nothing k u Always
end-steps k u p t c x progress.ChannelEnded (answer.Ended status more) = step-if k u (may_end u.halted x progress.ChannelEnded status more) _ Always (unseen k u _ _ Always refl refl refl refl tt)
end-steps k u p t c x progress.Ended answer.Begins = nothing k u Always
end-steps k u p t c x progress.Ended (answer.Absorbed count) = nothing k u Always
end-steps k u p t c x progress.Ended (answer.Supplied bytes) = nothing k u Always
end-steps k u p t c x progress.Ended answer.Again = nothing k u Always
end-steps k u p t c x progress.Ended (answer.Ended status more) = nothing k u Always

report-steps : (k : Side) (u : UnitState) (t : ℕ) (connection : Connection) (x : Option CurrentCommand) (r : Report) → IsStep k u (report_on u t connection x r) Always
report-steps k u t (On p c) None r = nothing k u Always
report-steps k u t (On p c) (Some x) r = step-if k u (r.sequence == x.sequence) _ Always (end-steps k u p t c x x.progress r.answer)
report-steps k u t (Ask p c) x r = nothing k u Always
report-steps k u t (Away c) x r = nothing k u Always

-- from the side of a step to each side
from-step : (k side : Side) (u : UnitState) (step : Option UnitStep) (P : Ends → Type 0) (n : ℕ) (h : HoldState) → IsStep k u step P → (same_side k side ≡ true → P (ends_of n h u side)) →
    UnitMoves (ends_of n h u side) (ends_of n h (unit_after u step) side) (if same_side k side then sent_by step else None)
from-step First First u step P n h s g = s.here n h (g refl)
from-step First Second u step P n h s g = Stays _ _ None (s.there n h) tt
from-step Second First u step P n h s g = Stays _ _ None (s.there n h) tt
from-step Second Second u step P n h s g = s.here n h (g refl)

from-free : (k side : Side) (u : UnitState) (step : Option UnitStep) (P : Ends → Type 0) → IsStep k u step P → IsFreshFree u side → IsFreshFree (unit_after u step) side
from-free First First u step P s m = s.free_here m
from-free First Second u step P s m = s.free_there m
from-free Second First u step P s m = s.free_there m
from-free Second Second u step P s m = s.free_here m

-- the signal that a unit takes is good where it came
abbrev pub IsActGood : UnitState → UnitAct → Side → ℕ → HoldState → Type 0
IsActGood u (Takes_down k x may) side n h = same_side k side ≡ true → IsDownGood (ends_of n h u side) x.path x.signal
IsActGood u act side n h = Unit {0}

-- the acts of the program that holds the device
leaves-moves : (side : Side) (u : UnitState) (o : Own) (n : ℕ) (h : HoldState) →
    UnitMoves (ends_of n h (record u { own = o }) side) (ends_of n h (unit_after (record u { own = o }) (leaving (record u { own = o }) o)) side)
    (if is_owner_side o side then sent_by (leaving (record u { own = o }) o) else None)
leaves-moves side u own.Idle n h = Stays _ _ None refl tt
leaves-moves side u (own.Owned First t connection) n h =
    from-step First side _ (leaving_from (record u { own = own.Owned First t connection }) First t connection) Always n h (leaving-steps First u t connection u.first.floor u.first.fresh u.second) (λ e. tt)
leaves-moves side u (own.Owned Second t connection) n h =
    from-step Second side _ (leaving_from (record u { own = own.Owned Second t connection }) Second t connection) Always n h (leaving-steps Second u t connection u.second.floor u.second.fresh u.first) (λ e. tt)

leaves-free : (side : Side) (u : UnitState) (o : Own) → IsFreshFree (record u { own = o }) side →
    IsFreshFree (unit_after (record u { own = o }) (leaving (record u { own = o }) o)) side
leaves-free side u own.Idle m = m
leaves-free side u (own.Owned First t connection) m = from-free First side _ (leaving_from (record u { own = own.Owned First t connection }) First t connection) Always (leaving-steps First u t connection u.first.floor u.first.fresh u.second) m
leaves-free side u (own.Owned Second t connection) m = from-free Second side _ (leaving_from (record u { own = own.Owned Second t connection }) Second t connection) Always (leaving-steps Second u t connection u.second.floor u.second.fresh u.first) m

asks-moves : (side : Side) (u : UnitState) (o : Own) (p n : ℕ) (h : HoldState) → IsFreshFree (record u { own = o }) First → IsFreshFree (record u { own = o }) Second →
    UnitMoves (ends_of n h (record u { own = o }) side) (ends_of n h (unit_after (record u { own = o }) (asking (record u { own = o }) o p)) side)
    (if is_owner_side o side then sent_by (asking (record u { own = o }) o p) else None)
asks-moves side u own.Idle p n h f g = Stays _ _ None refl tt
asks-moves side u (own.Owned First t connection) p n h f g =
    from-step First side _ (asking_from (record u { own = own.Owned First t connection }) First t connection p) Always n h (asking-steps First u t connection u.first.floor u.first.fresh u.second p f) (λ e. tt)
asks-moves side u (own.Owned Second t connection) p n h f g =
    from-step Second side _ (asking_from (record u { own = own.Owned Second t connection }) Second t connection p) Always n h (asking-steps Second u t connection u.second.floor u.second.fresh u.first p g) (λ e. tt)

asks-free : (side : Side) (u : UnitState) (o : Own) (p : ℕ) → IsFreshFree (record u { own = o }) First → IsFreshFree (record u { own = o }) Second →
    IsFreshFree (record u { own = o }) side → IsFreshFree (unit_after (record u { own = o }) (asking (record u { own = o }) o p)) side
asks-free side u own.Idle p f g m = m
asks-free side u (own.Owned First t connection) p f g m = from-free First side _ (asking_from (record u { own = own.Owned First t connection }) First t connection p) Always (asking-steps First u t connection u.first.floor u.first.fresh u.second p f) m
asks-free side u (own.Owned Second t connection) p f g m = from-free Second side _ (asking_from (record u { own = own.Owned Second t connection }) Second t connection p) Always (asking-steps Second u t connection u.second.floor u.second.fresh u.first p g) m

reported-steps : (k : Side) (u : UnitState) (t : ℕ) (connection : Connection) (r : Report) → IsStep k u (report_of u (own.Owned k t connection) r) Always
reported-steps k u t connection r = step-if k u (same_side k r.side && ((r.number == t) && (r.command == u.last_command))) _ Always (report-steps k u t connection u.current r)

reports-moves : (side : Side) (u : UnitState) (o : Own) (r : Report) (n : ℕ) (h : HoldState) →
    UnitMoves (ends_of n h u side) (ends_of n h (unit_after u (report_of u o r)) side) (if is_owner_side o side then sent_by (report_of u o r) else None)
reports-moves side u own.Idle r n h = Stays _ _ None refl tt
reports-moves side u (own.Owned k t connection) r n h = from-step k side u (report_of u (own.Owned k t connection) r) Always n h (reported-steps k u t connection r) (λ e. tt)

reports-free : (side : Side) (u : UnitState) (o : Own) (r : Report) → IsFreshFree u side → IsFreshFree (unit_after u (report_of u o r)) side
reports-free side u own.Idle r m = m
reports-free side u (own.Owned k t connection) r m = from-free k side u (report_of u (own.Owned k t connection) r) Always (reported-steps k u t connection r) m

attends-steps : (k : Side) (u : UnitState) (p : ℕ) → IsStep k u (attending u k p) Always
attends-steps k u p = step-if k u (is_idle u.own && not (side_of u k).fresh) _ Always (unseen k u _ _ Always refl refl refl refl tt)

notices-steps : (k : Side) (u : UnitState) (p : ℕ) → IsStep k u (noticing u k p) Always
notices-steps k u p = step-if k u (side_of u k).fresh _ Always (telling-steps k u p Always)

restarts-moves : (side : Side) (u : UnitState) (n : ℕ) (h : HoldState) → UnitMoves (ends_of n h u side) (ends_of n h (restarted u) side) None
restarts-moves First u n h = keeps.Restarts n h.phase h.seen h.known_restarts u.restarts u.first.floor (seen_by u.first.fresh u.own First)
restarts-moves Second u n h = keeps.Restarts n h.phase h.seen h.known_restarts u.restarts u.second.floor (seen_by u.second.fresh u.own Second)

pub unit-moves : (side : Side) (u : UnitState) (act : UnitAct) (n : ℕ) (h : HoldState) → IsFreshFree u First → IsFreshFree u Second → IsActGood u act side n h →
    UnitMoves (ends_of n h u side) (ends_of n h (unit_after u (unit_steps u act)) side) (up_sent u act side)
unit-moves side u (Takes_down k x may) n h f g good = from-step k side u (unit_takes u k x.path x.signal may) (IsGiven x.path x.signal) n h (takes-steps k u x.path x.signal may) good
unit-moves side u Leaves n h f g good = leaves-moves side u u.own n h
unit-moves side u (Asks p) n h f g good = asks-moves side u u.own p n h f g
unit-moves side u (Attends k p) n h f g good = from-step k side u (attending u k p) Always n h (attends-steps k u p) (λ e. tt)
unit-moves side u Restarts n h f g good = restarts-moves side u n h
unit-moves side u (Notices k p) n h f g good = from-step k side u (noticing u k p) Always n h (notices-steps k u p) (λ e. tt)
unit-moves side u (Reports r) n h f g good = reports-moves side u u.own r n h

pub unit-free : (side : Side) (u : UnitState) (act : UnitAct) → IsFreshFree u First → IsFreshFree u Second → IsFreshFree u side → IsFreshFree (unit_after u (unit_steps u act)) side
unit-free side u (Takes_down k x may) f g m = from-free k side u (unit_takes u k x.path x.signal may) (IsGiven x.path x.signal) (takes-steps k u x.path x.signal may) m
unit-free side u Leaves f g m = leaves-free side u u.own m
unit-free side u (Asks p) f g m = asks-free side u u.own p f g m
unit-free side u (Attends k p) f g m = from-free k side u (attending u k p) Always (attends-steps k u p) m
unit-free side u Restarts f g m = λ e. refl
unit-free side u (Notices k p) f g m = from-free k side u (noticing u k p) Always (notices-steps k u p) m
unit-free side u (Reports r) f g m = reports-free side u u.own r m
