-- What comes of an event that is tried, from what each clause of entering says of it.
use Rattle.std.proofs.Common.{◌≡◌, ◌≢◌, true, Result, Ok, Err, refl, subst, inl, inr}
use Rattle.chan_model.specs.declared.fault.Fault.{Fault}
use Rattle.chan_model.specs.declared.fault.Fault.TheVariants as fault
use Rattle.chan_events.specs.Events.{Event}
use Rattle.chan_events.specs.Replies.{Reply}
use Rattle.machine_model.specs.Ruled.{GoesByRule}
use Rattle.machine_model.specs.Steps.{IsRefused}
use Rattle.path_select.specs.Choice.{Rule}
use Rattle.core_lock.specs.Seats.{Guarded, GuardedCore, HeldSeat}
use Rattle.core_lock.specs.Entering.{IsEntered, IsExhausted, MayRefuse}
use Rattle.core_lock.specs.Turns.{Executes, IsRefusedBy, Tries}

abbrev failed : Fault → Result Reply Fault
failed f = Err f

abbrev replied : Reply → Result Reply Fault
replied r = Ok r

not_failed : (r : Reply) → replied r ≢ failed fault.NoMemory
not_failed r is = absurd (cc)

module _ (picks : Rule) (core : GuardedCore) (seat : HeldSeat) (e : Event) where
  -- the rule holds of what was refused, but for want of memory
  refused : (f : Fault) → IsRefused core.value.state e f → (failed f ≡ failed fault.NoMemory → IsExhausted core seat) → (failed f ≢ failed fault.NoMemory → GoesByRule picks core.value.state e (Err f) core.value.state) → IsRefusedBy picks core seat e f
  refused fault.NoMemory is spent ruled = inl (refl, spent refl)
  refused fault.WireFull is spent ruled = inr (is, ruled (λ x. absurd (cc)))
  refused fault.NotSent is spent ruled = inr (is, ruled (λ x. absurd (cc)))
  refused fault.NoSuchSubchannel is spent ruled = inr (is, ruled (λ x. absurd (cc)))
  refused fault.NoSuchPath is spent ruled = inr (is, ruled (λ x. absurd (cc)))
  refused fault.NoSuchUnit is spent ruled = inr (is, ruled (λ x. absurd (cc)))
  refused fault.NotNow is spent ruled = inr (is, ruled (λ x. absurd (cc)))
  refused (fault.ConfigBad rule) is spent ruled = inr (is, ruled (λ x. absurd (cc)))
  refused (fault.ScriptBad line rule) is spent ruled = inr (is, ruled (λ x. absurd (cc)))
  refused (fault.Storage kind) is spent ruled = inr (is, ruled (λ x. absurd (cc)))
  refused fault.Operand is spent ruled = inr (is, ruled (λ x. absurd (cc)))

  pub refused_so : (f : Fault) → MayRefuse core.value.state e f → (failed f ≡ failed fault.NoMemory → IsExhausted core seat) → (failed f ≢ failed fault.NoMemory → GoesByRule picks core.value.state e (Err f) core.value.state) → IsRefusedBy picks core seat e f
  refused_so f (inl is) spent ruled = inl (is, spent (λ j. failed (is j)))
  refused_so f (inr is) spent ruled = refused f is spent ruled

pub executes : (picks : Rule) (core new : GuardedCore) (seat after : HeldSeat) (e : Event) (r : Result Reply Fault) → IsEntered picks core seat e r new after → Executes picks core seat e r new.value after.value
executes picks core new seat after e (Ok r) c = ((c.step, c.history, c.by, c.logged), c.ruled (not_failed r))
executes picks core new seat after e (Err f) c =
    (refused_so picks core seat e f c.refusal c.exhausted (λ other. subst (λ (l : Guarded). GoesByRule picks core.value.state e (Err f) l.state) c.core (c.ruled other)), c.core, c.seat)

pub tries_ok : (picks : Rule) (core new : GuardedCore) (seat after : HeldSeat) (e : Event) (r : Reply) → IsEntered picks core seat e (Ok r) new after → Tries picks core seat seat.value e (Ok true) new.value after.value
tries_ok picks core new seat after e r c = (r, executes picks core new seat after e (Ok r) c)

pub tries_err : (picks : Rule) (core new : GuardedCore) (seat after : HeldSeat) (e : Event) (f : Fault) → IsEntered picks core seat e (Err f) new after → Tries picks core seat seat.value e (Err f) new.value after.value
tries_err picks core new seat after e f c = executes picks core new seat after e (Err f) c
