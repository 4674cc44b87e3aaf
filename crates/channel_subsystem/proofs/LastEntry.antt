-- The last entry of a log.
use Rattle.std.proofs.Common.{◌≡◌, sym, ◌∙◌, ap, List, [], ◌∷◌, ◌++◌}
use Rattle.chan_events.specs.Events.{Event}
use Rattle.chan_events.specs.declared.reply.Entry.{Entry}
use Rattle.chan_events.specs.Replies.{Reply}
use Rattle.event_log.specs.Logs.{last_reply}
use Rattle.event_log.proofs.Growing.{last-pushed}

pub its-reply : (before after : List Entry) (e : Event) (r : Reply) → after ≡ before ++ record { event = e; reply = r } ∷ [] → last_reply after ≡ r
its-reply before after e r grew = ap last_reply grew ∙ last-pushed before (record { event = e; reply = r })

pub its-entry : (before after : List Entry) (e : Event) (r : Reply) → after ≡ before ++ record { event = e; reply = r } ∷ [] →
    after ≡ before ++ record { event = e; reply = last_reply after } ∷ []
its-entry before after e r grew =
    grew ∙ ap (λ (x : Reply). before ++ record { event = e; reply = x } ∷ []) (sym (its-reply before after e r grew))
