use Rattle.std.proofs.Common.{ap, sym}
use Rattle.script_text.proofs.Printing.{same_text}
use Rattle.event_lines.specs.EventLines as spec
use Rattle.event_lines.proofs.putting.put_act.Goals as goal

pub returns-in-Leave : goal.returns-in-Leave
returns-in-Leave g c = same_text _ _ _ _ _ (ap (λ e. spec.joined (spec.act_words c.args.unit e)) (sym c.in-Leave.is)) c.put_named.ensures

pub returns-in-Ask : goal.returns-in-Ask
returns-in-Ask g c = same_text _ _ _ _ _ (ap (λ e. spec.joined (spec.act_words c.args.unit e)) (sym c.in-Ask.is)) c.put_named-in-Ask.ensures

pub returns-in-Attention : goal.returns-in-Attention
returns-in-Attention g c = same_text _ _ _ _ _ (ap (λ e. spec.joined (spec.act_words c.args.unit e)) (sym c.in-Attention.is)) c.put_named_side.ensures

pub returns-in-Notice : goal.returns-in-Notice
returns-in-Notice g c = same_text _ _ _ _ _ (ap (λ e. spec.joined (spec.act_words c.args.unit e)) (sym c.in-Notice.is)) c.put_named_side-in-Notice.ensures
