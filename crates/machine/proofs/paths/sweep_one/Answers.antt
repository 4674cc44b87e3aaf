use Rattle.std.proofs.Common.{◌<◌, ◌∙◌, ap, sym, subst, ℕ, Option}
use Rattle.channel_config.specs.declared.parts.SubchannelSetup.{SubchannelSetup}
use Rattle.subchannel_model.specs.declared.state.Subchannel.{Subchannel}
use Rattle.lookup.specs.Tables.{engaged, served_at}
use Rattle.machine.proofs.Sweeping.{swept-setup}
use Rattle.machine.proofs.paths.sweep_one.Goals as goal

pub post-requires : goal.post-requires
post-requires c =
    subst (λ (x : SubchannelSetup). x.id.number < c.args.pending.now.numbers)
    (sym (ap (λ (x : Subchannel). x.setup) c.sweep.ensures ∙ swept-setup c.args.what c.args.sub.now)) c.requires.postable

pub returns-clause-served : goal.returns-clause-served
returns-clause-served c =
    c.change.ensures ∙ (ap (λ (o : Option ℕ). served_at c.args.index o c.engaged-after.result c.args.engines.now) c.engaged-before.ensures.value
    ∙ ap (λ (o : Option ℕ). served_at c.args.index (engaged c.args.sub.now) o c.args.engines.now) c.engaged-after.ensures.value)
