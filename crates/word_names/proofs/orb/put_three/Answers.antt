use Rattle.streams.proofs.Sinking.{takes_then}
use Rattle.word_parts.specs.OrbNames as spec
use Rattle.word_parts.proofs.Growing.{failed_so}
use Rattle.word_names.proofs.orb.put_three.Goals as goal

pub returns-then-put_parameter : goal.returns-then-put_parameter
returns-then-put_parameter g c =
    takes_then _ _ _ (spec.word_text spec.word_0 c.args.parameter) (spec.rest_text c.args.control c.args.program) _ c.if-put_parameter.ensures
    c.put_rest.ensures

pub returns-else-put_parameter : goal.returns-else-put_parameter
returns-else-put_parameter g c =
    failed_so _ _ (spec.word_text spec.word_0 c.args.parameter) (spec.rest_text c.args.control c.args.program) _ c.if-put_parameter.false
    c.if-put_parameter.ensures
