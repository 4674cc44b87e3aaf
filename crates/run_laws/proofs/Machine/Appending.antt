-- An entry at the end of a history: what is seen after it, and that a claim holds throughout.
use Rattle.std.proofs.Common.{◌≡◌, refl, List, [], ◌∷◌, ◌++◌}
use Rattle.chan_events.specs.Events.{Event}
use Rattle.chan_events.specs.declared.reply.Entry.{Entry}
use Rattle.chan_events.specs.Replies.{Reply}
use Rattle.run_laws.specs.Entries.{seen_through, Throughout}

pub through-more : {S : Type 0} (after : Event → Reply → S → S) (k : S) (h : List Entry) (e : Event) (r : Reply) →
    seen_through after k (h ++ record { event = e; reply = r } ∷ []) ≡ after e r (seen_through after k h)
through-more after k [] e r = refl
through-more after k (x ∷ h) e r = through-more after (after x.event x.reply k) h e r

pub claim-more : {S : Type 0} (after : Event → Reply → S → S) (Claim : Event → Reply → S → Type 0) (k : S) (h : List Entry) (e : Event) (r : Reply) →
    Throughout after Claim k h → Claim e r (seen_through after k h) → Throughout after Claim k (h ++ record { event = e; reply = r } ∷ [])
claim-more after Claim k [] e r all one = (one, tt)
claim-more after Claim k (x ∷ h) e r all one = (all.0, claim-more after Claim (after x.event x.reply k) h e r all.1 one)
