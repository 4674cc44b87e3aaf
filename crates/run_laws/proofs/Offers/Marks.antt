-- The paths that choosing marks: what is chosen tells the same.
use Rattle.std.proofs.Common.{◌≡◌, refl, true, Option, Some}
use Rattle.chan_events.specs.Replies.{Reply}
use Rattle.chan_events.specs.declared.reply.Reply.TheVariants as reply
use Rattle.scsw_irb.specs.declared.scsw.Scsw.{Scsw}
use Rattle.subchannel_model.specs.declared.state.PmcwState.{PmcwState}
use Rattle.subchannel_model.specs.declared.state.Subchannel.{Subchannel}
use Rattle.run_laws.specs.Traces.{ProgramTrace, chosen_at}

-- it is told of by the reply, and by the program that waits
pub marked-told : (x : Subchannel) (pmcw : PmcwState) (scsw : Scsw) (r : Reply) (k : Option ProgramTrace) →
    chosen_at (Some x) r k ≡ chosen_at (Some (record x { state = record x.state { pmcw = pmcw; scsw = scsw } })) r k
marked-told x pmcw scsw (reply.Offered t p true) k = refl
marked-told x pmcw scsw r k = refl
