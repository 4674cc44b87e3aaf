use Rattle.std.proofs.Common.{◌∙◌, sym, ap, []}
use Rattle.std.proofs.lemmas.List.{append-nil}
use Rattle.chan_events.specs.Events.{event_bytes, event_in}
use Rattle.chan_events.proofs.event.Event.copy.Goals as goal

pub returns : goal.returns
returns c =
    c.own.ensures
    ∙ (ap (event_in c.keep.result) (c.bytes.ensures.value ∙ sym (append-nil (event_bytes c.args.self.now))) ∙ c.keep.ensures.kept [])
