-- A command to which none is chained ends: what is kept of its program agrees with the longer trace.
use Rattle.std.proofs.Common.{◌≡◌, refl, ap, sym, ◌∙◌, ℕ, Bool, true, false, List, Option, Some, None}
use Rattle.orb_block.specs.declared.Orb.{Orb}
use Rattle.scsw_irb.specs.declared.status.DeviceStatus.{DeviceStatus}
use Rattle.ccw_walk.specs.declared.program.Latest.{Latest}
use Rattle.ccw_walk.specs.Sequences.{Sequence, ◌▸◌}
use Rattle.ccw_walk.specs.Acts.{Act, End}
use Rattle.ccw_walk.specs.Programs.{role_of, latest, next_ended, tried}
use Rattle.ccw_walk.specs.Positions.{WalkPosition}
use Rattle.data_move.specs.declared.transfer.Transfer.{Transfer}
use Rattle.subchannel_model.specs.Ends.{has_status_modifier}
use Rattle.run_laws.specs.Traces.{ProgramTrace}
use Rattle.run_laws.proofs.Traces.MachineTraces.{ends_alone, with_ended}
use Rattle.run_laws.proofs.Traces.Ties.{Tied}
use Rattle.run_laws.proofs.Traces.Parts.{IsAtWork, HasArrived}

-- no block is next then
ended-next : (last : Option Latest) (modifier : Bool) → next_ended last (record { goes_on = false; modifier = modifier }) ≡ None
ended-next None modifier = refl
ended-next (Some last) modifier = refl

ended-tied : (earlier : ℕ) (orb : Orb) (acts : Sequence Act) (ps : List (Option ℕ)) (t : Transfer) (modifier : Bool) → Tied earlier orb acts ps t →
    Tied earlier orb (acts ▸ End (record { goes_on = false; modifier = modifier })) ps t
ended-tied earlier orb acts ps t modifier k = record {
  walk =
      k.walk
      ∙ ap (λ (x : Option ℕ). (let p : WalkPosition = record { orb = orb; role = role_of orb acts; latest = latest orb acts; next = x; tried = tried orb acts } in p))
      (k.stands ∙ sym (ended-next (latest orb acts) modifier));
  program = (k.stands, k.program);
  stands = ended-next (latest orb acts) modifier;
  chained = k.chained;
  coded = k.coded;
  kind = k.kind;
  spot = k.spot;
  number = k.number;
  ends = k.ends;
  checked = k.checked;
}

arrived-ended : (k : ProgramTrace) (status : DeviceStatus) (t : Transfer) (d : Bool) → HasArrived k.now t.fault t.sequence d →
    HasArrived (ends_alone status k).now t.fault t.sequence d
arrived-ended k status t true a = a
arrived-ended k status t false a = a

pub ended-work : (k : ProgramTrace) (status : DeviceStatus) (t : Transfer) (d : Bool) → IsAtWork k.earlier k.orb k.now t d →
    IsAtWork k.earlier k.orb (ends_alone status k).now t d
ended-work k status t d w = record {
  tied = ended-tied k.earlier k.orb k.now.acts k.now.moved t (has_status_modifier status) w.tied;
  arrived = arrived-ended k status t d w.arrived;
}

-- an End came, and the command goes on
arrived-with : (k : ProgramTrace) (t : Transfer) (d : Bool) → HasArrived k.now t.fault t.sequence d → HasArrived (with_ended k).now t.fault t.sequence d
arrived-with k t true a = a
arrived-with k t false a = a

pub with_ended-work : (k : ProgramTrace) (t : Transfer) (d : Bool) → IsAtWork k.earlier k.orb k.now t d → IsAtWork k.earlier k.orb (with_ended k).now t d
with_ended-work k t d w = record { tied = w.tied; arrived = arrived-with k t d w.arrived }
