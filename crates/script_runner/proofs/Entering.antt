-- What an event comes to that is entered from the one seat of a machine.
use Rattle.std.proofs.Common.{◌≡◌, ◌≢◌, ◌≤◌, List, Result, Ok, Err, refl, sym, arith, ap, inl, inr}
use Rattle.chan_events.specs.Events.{Event}
use Rattle.chan_events.specs.Replies.{Reply}
use Rattle.chan_model.specs.declared.fault.Fault.{Fault}
use Rattle.chan_model.specs.declared.fault.Fault.TheVariants as fault
use Rattle.core_lock.specs.Entering.{IsEntered, MayRefuse, guarded_in}
use Rattle.core_lock.specs.Seats.{Guarded, HeldSeat, LockedCore}
use Rattle.machine_model.specs.Ruled.{GoesByRule}
use Rattle.machine_model.specs.State.{IsAsBefore, State}
use Rattle.machine_model.specs.Steps.{IsRefused}
use Rattle.path_select.specs.Choice.{TakesNext}
use Rattle.device_models.specs.declared.any_device.AnyDevice.{AnyDevice}
use Rattle.script_runner.specs.Acting.{Enters, devices_left, devices_restarted, past_of}

as_before : (c n : LockedCore) (s t : HeldSeat) → (guarded_in n).value ≡ (guarded_in c).value → (c.room ≤ n.room) × (s.room ≤ t.room) → IsAsBefore (past_of c s) (past_of n t)
as_before c n s t same room = record {
  state = ap (λ (l : Guarded). l.state) same;
  history = ap (λ (l : Guarded). l.history) same;
  room = omega (arith, room.0, room.1);
}

refused : (s : State) (e : Event) (f : Fault) → f ≢ fault.NoMemory → MayRefuse s e f → IsRefused s e f
refused s e f other (inl is) = absurd (other is)
refused s e f other (inr refuses) = refuses

abbrev refusal_of : Fault → Result Reply Fault
refusal_of f = Err f

told : (c n : LockedCore) (s t : HeldSeat) (e : Event) (f : Fault) → f ≢ fault.NoMemory → refusal_of f ≢ refusal_of fault.NoMemory → IsEntered TakesNext (guarded_in c) s e (Err f) (guarded_in n) t
    → IsRefused c.value.state e f × GoesByRule TakesNext c.value.state e (Err f) n.value.state × IsAsBefore (past_of c s) (past_of n t)
told c n s t e f other way came = (refused c.value.state e f other came.refusal, came.ruled way, as_before c n s t came.core came.kept)

pub enters : (c n : LockedCore) (s t : HeldSeat) (e : Event) (r : Result Reply Fault) → IsEntered TakesNext (guarded_in c) s e r (guarded_in n) t → Enters (past_of c s) e r (past_of n t)
enters c n s t e (Ok x) came = (came.step, came.ruled (λ x. absurd (cc)), came.history, omega (arith, came.room, came.seat_room))
enters c n s t e (Err fault.NoMemory) came = (as_before c n s t came.core came.kept, came.exhausted refl)
enters c n s t e (Err fault.WireFull) came = told c n s t e fault.WireFull (λ x. absurd (cc)) (λ x. absurd (cc)) came
enters c n s t e (Err fault.NotSent) came = told c n s t e fault.NotSent (λ x. absurd (cc)) (λ x. absurd (cc)) came
enters c n s t e (Err fault.NoSuchSubchannel) came = told c n s t e fault.NoSuchSubchannel (λ x. absurd (cc)) (λ x. absurd (cc)) came
enters c n s t e (Err fault.NoSuchPath) came = told c n s t e fault.NoSuchPath (λ x. absurd (cc)) (λ x. absurd (cc)) came
enters c n s t e (Err fault.NoSuchUnit) came = told c n s t e fault.NoSuchUnit (λ x. absurd (cc)) (λ x. absurd (cc)) came
enters c n s t e (Err fault.NotNow) came = told c n s t e fault.NotNow (λ x. absurd (cc)) (λ x. absurd (cc)) came
enters c n s t e (Err (fault.ConfigBad rule)) came = told c n s t e (fault.ConfigBad rule) (λ x. absurd (cc)) (λ x. absurd (cc)) came
enters c n s t e (Err (fault.ScriptBad line rule)) came = told c n s t e (fault.ScriptBad line rule) (λ x. absurd (cc)) (λ x. absurd (cc)) came
enters c n s t e (Err (fault.Storage kind)) came = told c n s t e (fault.Storage kind) (λ x. absurd (cc)) (λ x. absurd (cc)) came
enters c n s t e (Err fault.Operand) came = told c n s t e fault.Operand (λ x. absurd (cc)) (λ x. absurd (cc)) came

-- the devices after an event that restarts none of them
pub left_alone : (devices : List AnyDevice) (e : Event) (r : Result Reply Fault) → devices_restarted devices e ≡ devices → devices ≡ devices_left devices e r
left_alone devices e (Ok x) same = sym same
left_alone devices e (Err f) same = refl
