use Rattle.std.proofs.Common.{◌≡◌, ◌∙◌, ap, ap₂, Bool, not, ◌&&◌, List}
use Rattle.control_units.specs.declared.Member.{Member}
use Rattle.control_units.specs.Units.{is_owed}
use Rattle.chan_model.specs.Lent.{lent_down}
use Rattle.chan_model.specs.UnitTable.{outcome_of, is_idle, unit_after, unit_takes}
use Rattle.chan_model.specs.declared.unit_state.UnitState.{UnitState}
use Rattle.machine_model.specs.Sharing.{is_asked_for, members_after, members_over, owing, owing_after}
use Rattle.signal_step.specs.Giving.{shared_step}
use Rattle.signal_step.proofs.Owing.{over-after, owed-after}
use Rattle.signal_step.proofs.sharing.take.Goals as goal

pub returns : goal.returns
returns c =
    let members = c.args.sharing.now in
    let k = c.args.number in
    let u = c.args.unit.now in
    let mid = c.take-outcome.new.self in
    let asks = is_asked_for u c.args.side (lent_down c.args.signal.now) in
    let steps = unit_takes u c.args.side c.args.path (lent_down c.args.signal.now) in
    let may = c.may_take-may.ensures.may in
    let same : mid ≡ unit_after u (shared_step members k u c.args.side c.args.path (lent_down c.args.signal.now)) =
    c.take-outcome.ensures.state ∙ ap (λ (b : Bool). unit_after u (steps b)) may in
    record {
      state = c.end.ensures.owes
          ∙ (ap₂ (λ (b : Bool) (m : List Member). owing ((not b && is_idle mid.own) && is_owed m k) mid) c.is_idle-was_idle.ensures c.may_take-may.ensures.members
          ∙ (owed-after members k asks u mid c.may_take-may.ensures.idle ∙ ap (λ (x : UnitState). owing_after members k u x) same));
      members = c.end.ensures.members
          ∙ (ap₂ (λ (b : Bool) (m : List Member). members_over m k (not b && is_idle mid.own)) c.is_idle-was_idle.ensures c.may_take-may.ensures.members
          ∙ (over-after members k asks u mid c.may_take-may.ensures.idle ∙ ap (λ (x : UnitState). members_after members k asks u x) same));
      outcome = c.take-outcome.ensures.outcome ∙ ap (λ (b : Bool). outcome_of (steps b)) may;
    }
