use Rattle.std.proofs.Common.{ap, sym, subst, length, map, arith, ℕ, Option, List}
use Rattle.std.proofs.lemmas.List.{length-map}
use Rattle.lookup.specs.Tables.{Serves}
use Rattle.machine_model.specs.State.{idle_of}
use Rattle.subchannel_model.specs.declared.state.Subchannel.{Subchannel}
use Rattle.subchannel_model.specs.Opening.{opened}
use Rattle.machine.proofs.Serving.{idle-serves}
use Rattle.machine.proofs.opening.opened_machine.Goals as goal

pub invariant_of-machine : goal.invariant_of-machine
invariant_of-machine g c = (
  subst (λ (subs : List Subchannel). Serves c.new-engines.result subs) (sym c.in_ok-indices.ensures.subs)
      (subst (λ (table : List (Option ℕ)). Serves table (map opened c.args.config.now.subchannels)) (sym c.new-engines.ensures) (idle-serves c.args.config.now.subchannels)),
  omega (arith, ap length c.in_ok-indices.ensures.units, length-map c.args.config.now.units idle_of, c.in_ok-indices.ensures.lawful.units),
)
