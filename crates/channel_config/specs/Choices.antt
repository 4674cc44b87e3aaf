-- What SA22-7832 leaves to the model, and the set-up says (own).
use Rattle.std.specs.Prelude.{Bool, true, false}
use Rattle.scsw_irb.specs.declared.crw.PathReport.{PathReport}
use Rattle.scsw_irb.specs.declared.crw.PathReport.TheVariants as report
use Rattle.channel_config.specs.declared.parts.ConcurrentSense.{ConcurrentSense}
use Rattle.channel_config.specs.declared.parts.ConcurrentSense.TheVariants.{Dropped, Kept}
use Rattle.channel_config.specs.declared.parts.PathReturn.{PathReturn}
use Rattle.channel_config.specs.declared.parts.PathReturn.TheVariants.{Available, Initialized}

-- MODIFY SUBCHANNEL keeps the concurrent-sense bit of the given word
abbrev pub is_kept : ConcurrentSense → Bool
is_kept Dropped = false
is_kept Kept = true

-- what is reported of a channel path that is back
abbrev pub back_report : PathReturn → PathReport
back_report Available = report.Back
back_report Initialized = report.Initialized
