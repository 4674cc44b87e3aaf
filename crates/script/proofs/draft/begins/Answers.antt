use Rattle.std.proofs.Common.{◌∙◌, ap, sym, take}
use Rattle.std.specs.Str.{bytes_eq}
use Rattle.script.specs.Parsing.{first_is_storage}
use Rattle.script.proofs.Parting.{headed}
use Rattle.script.proofs.draft.begins.Goals as goal

pub returns : goal.returns
returns c =
    c.is_name.ensures ∙ ap (bytes_eq (take c.find.result c.args.line.now)) c.as_slice.ensures
    ∙ sym (ap first_is_storage (headed 32 c.args.line.now c.find.result c.find.ensures.within c.find.ensures.before c.find.ensures.found))
