-- What is told of the program of each subchannel, after each run.
use Rattle.std.proofs.Common.{subst, refl, ℕ, ◌≡◌, Option, None, Some, List}
use Rattle.chan_events.specs.declared.reply.Entry.{Entry}
use Rattle.std.specs.Prelude.{slice_get, IfSome}
use Rattle.subchannel_model.specs.declared.state.Subchannel.{Subchannel}
use Rattle.run_laws.specs.ProgramClaims.{TraceCorrect}
use Rattle.channel_config.specs.Lawful.{IsLawful}
use Rattle.channel_config.specs.Setup.{Setup}
use Rattle.machine_model.specs.State.{State, opening_of}
use Rattle.machine_model.specs.Steps.{Run, Opened, Stepped}
use Rattle.run_laws.specs.Traces.{ProgramTrace}
use Rattle.run_laws.proofs.Traces.MachineTraces.{trace, trace_after}
use Rattle.run_laws.specs.Tells.{IsTold, AllTold}
use Rattle.run_laws.proofs.Traces.Turns.{step-happens}
use Rattle.run_laws.proofs.Units.RunSides.{run-one-sided}
use Rattle.run_laws.proofs.Traces.Follows.{step-goes}
use Rattle.run_laws.proofs.Traces.Ties.{AreLaws}
use Rattle.run_laws.proofs.Bytes.Accesses.{AreAccesses}
use Rattle.run_laws.proofs.Traces.Parts.{IsDone}
use Rattle.run_laws.proofs.Traces.Holds.{done-held}
use Rattle.run_laws.proofs.Bytes.Copies.{copied-part}
use Rattle.run_laws.proofs.Links.LinkNeeds.{held-needs}
use Rattle.run_laws.proofs.Commands.RunOrders.{AllNeeds, run-takes}
use Rattle.run_laws.proofs.Traces.Choices.{IsKept, KeptBy, kept-held, run-held}
use Rattle.run_laws.proofs.Offers.OfferRuns.{run-offers}
use Rattle.run_laws.proofs.Traces.Unasked.{run-unasked}
use Rattle.run_laws.proofs.Bytes.RunFlows.{AllHeld, run-absorbs}

module _ (laws : AreLaws) (accesses : AreAccesses) where
  all-held : (setup : Setup) → IsLawful setup → AllHeld laws accesses setup
  all-held setup lawful h s run index sub e =
      let k : Option ProgramTrace = trace index (opening_of setup) h s run in
      kept-held sub.state k (run-held laws accesses setup lawful h s run index sub e)

  all-needs : (setup : Setup) → IsLawful setup → AllNeeds setup
  all-needs setup lawful h s run index sub e =
      let k : Option ProgramTrace = trace index (opening_of setup) h s run in
      held-needs k sub.state (all-held setup lawful h s run index sub e)

  run-correct : (setup : Setup) → IsLawful setup → (h : List Entry) (s : State) (run : Run (opening_of setup) h s) (index : ℕ) (sub : Subchannel) (k : ProgramTrace) →
      slice_get s.subs index ≡ Some sub → trace index (opening_of setup) h s run ≡ Some k → TraceCorrect k
  run-correct setup lawful h s run index sub k e f =
      let kept : IsKept sub.state k = subst (λ (x : Option ProgramTrace). KeptBy sub.state x) f (run-held laws accesses setup lawful h s run index sub e) in
      let done : IsDone k.orb k.now = done-held sub.state k kept.0 in
      record {
        program = done.program;
        ends = done.ends;
        whole = done.whole;
        takes = run-takes laws.walks setup lawful (λ h s run. laws.above setup h s lawful run) (all-needs setup lawful) h s run index sub k e f;
        moves = done.moves;
        copied = copied-part k kept.1;
        absorbs = run-absorbs laws accesses setup lawful (all-held setup lawful) h s run index sub k e f;
        arrived = done.arrived;
        arrives = done.arrives;
      }

  -- so it is told throughout a run
  correct-if : (o : Option ProgramTrace) → ((k : ProgramTrace) → o ≡ Some k → TraceCorrect k) → IfSome o TraceCorrect
  correct-if None f = tt
  correct-if (Some k) f = f k refl

  run-index : (setup : Setup) → IsLawful setup → (h : List Entry) (s : State) (run : Run (opening_of setup) h s) (index : ℕ) (sub : Subchannel) → slice_get s.subs index ≡ Some sub →
      IsTold index (opening_of setup) h s run (trace index (opening_of setup) h s run)
  run-index setup lawful _ _ Opened index sub e = refl
  run-index setup lawful _ _ (Stepped h old e r new run step) index sub at =
      let a = step-happens old (run-one-sided laws.walks setup lawful h old run) index e r new (laws.walks old e r new step) sub at in
      let k : Option ProgramTrace = trace index (opening_of setup) h old run in (
        k,
        run-index setup lawful h old run index a.0 a.1,
        step-goes laws accesses old index k (λ x f. kept-held x.state k (run-held laws accesses setup lawful h old run index x f))
            (λ x f. ((run-offers laws accesses setup lawful h old run index x f).1, run-unasked laws.walks setup lawful h old run index x f)) e r new step,
        correct-if (trace_after index old e r k) (λ after f. run-correct setup lawful _ _ (Stepped h old e r new run step) index sub after at f),
      )

  pub run-told : (setup : Setup) → IsLawful setup → (h : List Entry) (s : State) (run : Run (opening_of setup) h s) → AllTold (opening_of setup) h s run
  run-told setup lawful h s run index sub at = (trace index (opening_of setup) h s run, run-index setup lawful h s run index sub at)
