use Rattle.std.proofs.Common.{sym, ap, Bool, true}
use Rattle.std.specs.Prelude.{if◌then◌else◌}
use Rattle.scsw_irb.specs.declared.scsw.Scsw.{Scsw}
use Rattle.subchannel.proofs.choosing.mark_scsw.Goals as goal

abbrev marked : Scsw → Bool → Scsw
marked scsw any = record scsw { path_not_operational = if any then true else scsw.path_not_operational }

pub returns-else-any : goal.returns-else-any
returns-else-any c = ap (marked c.args.scsw.now) (sym c.if-any.false)
