-- Which starts of a subchannel began a program at its device (SA22-7832, chapters 14 and 15).
use Rattle.std.specs.Prelude.{◌<◌, AllPairs, ℕ, ◌+◌, true, false, ◌==◌, if◌then◌else◌, List, [], ◌∷◌, ◌++◌, Some}
use Rattle.chan_events.specs.Events.{Event}
use Rattle.chan_events.specs.declared.event.Event.TheVariants as event
use Rattle.chan_events.specs.declared.event.Instruction.TheVariants as instruction
use Rattle.chan_model.specs.declared.answer.Answer.TheVariants as answer
use Rattle.chan_events.specs.Replies.{Reply}
use Rattle.chan_events.specs.declared.reply.Reply.TheVariants as reply
use Rattle.chan_events.specs.declared.reply.Entry.{Entry}
use Rattle.chan_model.specs.declared.signal.Down.TheVariants as down
use Rattle.chan_model.specs.Signals.{Up}
use Rattle.chan_model.specs.declared.signal.Up.TheVariants as up
use Rattle.channel_config.specs.declared.names.SubchannelId.{SubchannelId}
use Rattle.channel_config.specs.SubchannelWords.{subchannel_named}
use Rattle.ccw_walk.specs.Sequences.{Sequence, Nothing, ◌▸◌}
use Rattle.run_laws.specs.Entries.{seen_through}
use Rattle.run_laws.specs.StateClaims.{is_id}

-- a number under which a start was offered
pub record Offer : Type 0 where
  pub number : ℕ
  pub start : ℕ

-- how many starts of a subchannel were accepted, the numbers that were offered but for a resume, and the starts that began a
-- program, each in order
pub record StartCounts : Type 0 where
  pub accepted : ℕ
  pub offers : Sequence Offer
  pub begun : List ℕ

-- an offer belongs to the latest start that was accepted before it
abbrev pub with_offer : Reply → StartCounts → StartCounts
with_offer (reply.Offered t p false) k = record k { offers = k.offers ▸ record { number = t; start = k.accepted } }
with_offer r k = k

-- the start that a number was offered for begins a program, where there is one
abbrev pub with_begun : ℕ → Sequence Offer → StartCounts → StartCounts
with_begun t Nothing k = k
with_begun t (before ▸ x) k = if x.number == t then record k { begun = k.begun ++ x.start ∷ [] } else with_begun t before k

-- the unit takes a Select by an Accept
abbrev pub starts_with_answer : ℕ → Up → StartCounts → StartCounts
starts_with_answer t signal k = elim signal [ up.Accept u ↦ with_begun t k.offers k | other ↦ k ]

abbrev pub with_taken : Reply → StartCounts → StartCounts
with_taken (reply.Down (down.Select t) true (Some sent)) k = starts_with_answer t sent.signal k
with_taken r k = k

-- START with code 0 is accepted
abbrev pub with_start : Reply → StartCounts → StartCounts
with_start r k = elim r [ reply.Code (answer.Zero serials) ↦ record k { accepted = k.accepted + 1 } | other ↦ k ]

abbrev pub starts_after : ℕ → SubchannelId → Event → Reply → StartCounts → StartCounts
starts_after sets id (event.Execute cpu (instruction.Ssch word address)) r k =
    if is_id (subchannel_named sets word) id then with_start r k else k
starts_after sets id (event.Choose word) r k = if is_id (subchannel_named sets word) id then with_offer r k else k
starts_after sets id (event.Down word path) r k = if is_id (subchannel_named sets word) id then with_taken r k else k
starts_after sets id e r k = k

abbrev pub no_starts : StartCounts
no_starts = record { accepted = 0; offers = Nothing; begun = [] }

-- the starts of a subchannel after these entries
abbrev pub starts : ℕ → SubchannelId → List Entry → StartCounts
starts sets id h = seen_through (starts_after sets id) no_starts h

-- each start begins at most one program: those that did, of each subchannel, rise
abbrev pub IsBegunOnce : ℕ → List Entry → Type 0
IsBegunOnce sets h = (id : SubchannelId) → AllPairs (λ x y. x < y) (starts sets id h).begun
