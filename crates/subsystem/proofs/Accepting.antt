-- One event and its answer, by what the machine did and what the log has.
use Rattle.std.proofs.Common.{◌≡◌, ◌≤◌, refl, sym, ◌∙◌, ap, subst, ◌+◌, arith, [], ◌∷◌, ◌++◌, Ok, Err, inl, inr}
use Rattle.chan_events.specs.Events.{Event}
use Rattle.chan_events.specs.Replies.{Reply}
use Rattle.chan_model.specs.declared.fault.Fault.{Fault}
use Rattle.chan_model.specs.declared.fault.Fault.TheVariants.{NoMemory}
use Rattle.event_log.specs.Logs.{last_reply}
use Rattle.event_log.proofs.Growing.{last-pushed}
use Rattle.machine_model.specs.Ruled.{GoesByRule}
use Rattle.machine_model.specs.State.{IsSpent, Past}
use Rattle.machine_model.specs.Steps.{Performs}
use Rattle.path_select.specs.Choice.{Rule}
use Rattle.subsystem.specs.Keeping.{BringsOrdered, IsStep, Rises, StaysSetUp, all_serials}
use Rattle.subsystem.proofs.Rising.{same-rises}

-- the event was accepted, and its entry is the last
pub accepted : (picks : Rule) (old new : Past) (e : Event) (r : Reply) → Performs old.state e (Ok r) new.state → GoesByRule picks old.state e (Ok r) new.state →
    new.history ≡ old.history ++ record { event = e; reply = r } ∷ [] → old.room ≤ new.room + 1 → StaysSetUp old.state new.state →
    Rises (all_serials old.state) (all_serials new.state) → BringsOrdered e r → IsStep picks old e (Ok (last_reply new.history)) new
accepted picks old new e r step ruled more room set_up rises ordered =
    subst (λ (x : Reply). IsStep picks old e (Ok x) new) (sym (ap last_reply more ∙ last-pushed old.history (record { event = e; reply = r })))
    (record {
      step = step;
      history = more;
      ruled = λ _. ruled;
      refused = tt;
      refusal = tt;
      exhausted = λ is. absurd (cc is);
      room = room;
      set_up = set_up;
      rises = rises;
      ordered = ordered;
    })

-- the machine refused it
pub declined : (picks : Rule) (old new : Past) (e : Event) (f : Fault) → Performs old.state e (Err f) new.state → GoesByRule picks old.state e (Err f) new.state → ¬ (f ≡ NoMemory) →
    new.history ≡ old.history → old.room ≤ new.room → StaysSetUp old.state new.state → Rises (all_serials old.state) (all_serials new.state) → IsStep picks old e (Err f) new
declined picks old new e f refused ruled other same room set_up rises = record {
  step = tt;
  history = tt;
  ruled = λ _. ruled;
  refused = record { state = refused.1; history = same; room = room };
  refusal = inr refused.0;
  exhausted = λ is. absurd (other (cc is));
  room = omega (arith, room);
  set_up = set_up;
  rises = rises;
  ordered = tt;
}

-- there was no room for its entry, or no number
pub starved : (picks : Rule) (old new : Past) (e : Event) → new ≡ old → IsSpent old → IsStep picks old e (Err NoMemory) new
starved picks old new e same spent =
    subst (λ (x : Past). IsStep picks old e (Err NoMemory) x) (sym same)
    (record {
      step = tt;
      history = tt;
      ruled = λ other. absurd (other refl);
      refused = record { state = refl; history = refl; room = omega arith };
      refusal = inl refl;
      exhausted = λ _. (refl, spent);
      room = omega arith;
      set_up = λ setup k. k;
      rises = same-rises (all_serials old.state);
      ordered = tt;
    })
