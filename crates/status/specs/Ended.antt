-- What is beside the words after an End.
use Rattle.std.specs.Prelude.{Bool, if◌then◌else◌, None, Some}
use Rattle.subchannel_model.specs.declared.state.ActiveProgram.{ActiveProgram}
use Rattle.subchannel_model.specs.Ends.{has_shown}
use Rattle.functions.specs.declared.rest.Rest.{Rest}

abbrev pub rest_after_end : Rest → ActiveProgram → Bool → Rest
rest_after_end rest b last = if last then record rest { waiting = None; begun = None; suspended = None } else record rest { begun = Some (has_shown b) }
