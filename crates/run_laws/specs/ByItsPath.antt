-- By which path the signals of a subchannel's programs go: what is taken of a program and what is sent to it goes by the path of the
-- last Accept that was taken or Grant that was sent (SA22-7832, chapter 15, the working allegiance).
use Rattle.std.specs.Prelude.{◌≡◌, ℕ, true, false, if◌then◌else◌, Option, None, Some, IfSome, List}
use Rattle.agreement_laws.specs.PathsSeen.{Connected, Offered, connected_on, IsConnected, IsHaltOn}
use Rattle.chan_events.specs.Events.{Event}
use Rattle.chan_events.specs.declared.event.Event.TheVariants as event
use Rattle.chan_events.specs.declared.reply.Entry.{Entry}
use Rattle.chan_events.specs.Replies.{Reply}
use Rattle.chan_events.specs.declared.reply.Reply.TheVariants as reply
use Rattle.chan_model.specs.Signals.{Down}
use Rattle.chan_model.specs.declared.signal.Down.TheVariants as down
use Rattle.chan_model.specs.declared.signal.OnPath.{OnPath}
use Rattle.chan_model.specs.Signals.{Up}
use Rattle.chan_model.specs.declared.signal.Up.TheVariants as up
use Rattle.channel_config.specs.declared.names.SubchannelId.{SubchannelId}
use Rattle.channel_config.specs.SubchannelWords.{subchannel_named}
use Rattle.run_laws.specs.Entries.{Throughout}
use Rattle.run_laws.specs.StateClaims.{is_id}

-- a signal that came up by a path was taken: by an Accept a program is connected, by a Leave it is no more
abbrev pub connected_by : ℕ → Up → Option Connected → Option Connected
connected_by path (up.Accept t) k = Some (record { number = t; path = path; connection = 0 })
connected_by path (up.Leave t c) k = None
connected_by path signal k = k

-- a signal was sent down in answer: by a Grant a program is connected, by a Release it is no more
abbrev pub connected_with : Option (OnPath Down) → Option Connected → Option Connected
connected_with None k = k
connected_with (Some sent) k = connected_on sent.path sent.signal k

abbrev pub connected_in : ℕ → Reply → Option Connected → Option Connected
connected_in path (reply.Up signal true sent) k = connected_with sent (connected_by path signal k)
connected_in path r k = k

-- an offer
abbrev pub offered_in : Reply → Option Offered → Option Offered
offered_in (reply.Offered t p resumes) o = Some (record { number = t; path = p })
offered_in r o = o

-- what was offered last of a subchannel, and what is connected of it
pub record SeenPaths : Type 0 where
  pub offered : Option Offered
  pub connected : Option Connected

abbrev pub seen_after : ℕ → SubchannelId → Event → Reply → SeenPaths → SeenPaths
seen_after sets id (event.Choose word) r k = if is_id (subchannel_named sets word) id then record k { offered = offered_in r k.offered } else k
seen_after sets id (event.Up word path) r k = if is_id (subchannel_named sets word) id then record k { connected = connected_in path r k.connected } else k
seen_after sets id e r k = k

-- an Accept that is taken is of the last offer, and came by its path; a Data, End or Leave came by the path of what is connected, a
-- Data or Leave under its connection too
abbrev pub ComesRight : SeenPaths → ℕ → Up → Type 0
ComesRight k p (up.Accept t) = k.offered ≡ Some (record { number = t; path = p })
ComesRight k p (up.Data load t c n s) = k.connected ≡ Some (record { number = t; path = p; connection = c })
ComesRight k p (up.End t n status more) = IsConnected k.connected t p
ComesRight k p (up.Leave t c) = k.connected ≡ Some (record { number = t; path = p; connection = c })
ComesRight k p signal = Unit {0}

-- a Command, Took, Give or Release goes by its path; a Give under its connection too
abbrev pub GoesRight : Option Connected → ℕ → Down → Type 0
GoesRight k p (down.Command t n code room) = IsConnected k t p
GoesRight k p (down.Took t n s room) = IsConnected k t p
GoesRight k p (down.Give bytes t c n s) = k ≡ Some (record { number = t; path = p; connection = c })
GoesRight k p (down.Release t) = IsConnected k t p
GoesRight k p signal = Unit {0}

abbrev pub IsAnswerRight : Option Connected → Option (OnPath Down) → Type 0
IsAnswerRight k sent = IfSome sent (λ x. GoesRight k x.path x.signal)

-- what is not taken is not answered
abbrev pub IsReplyRight : ℕ → Reply → SeenPaths → Type 0
IsReplyRight path (reply.Up signal true sent) k = ComesRight k path signal × IsAnswerRight (connected_by path signal k.connected) sent
IsReplyRight path (reply.Up signal false sent) k = sent ≡ None
IsReplyRight path r k = Unit {0}

-- a Halt goes by the path of what is connected, where something is
abbrev pub IsHaltRight : Reply → SeenPaths → Type 0
IsHaltRight (reply.HaltSent t p) k = IsHaltOn k.connected t p
IsHaltRight r k = Unit {0}

abbrev pub IsEntryRight : ℕ → SubchannelId → Event → Reply → SeenPaths → Type 0
IsEntryRight sets id (event.Choose word) r k = is_id (subchannel_named sets word) id ≡ true → IsHaltRight r k
IsEntryRight sets id (event.Up word path) r k = is_id (subchannel_named sets word) id ≡ true → IsReplyRight path r k
IsEntryRight sets id e r k = Unit {0}

-- of each subchannel
abbrev pub IsByItsPath : ℕ → List Entry → Type 0
IsByItsPath sets h = (id : SubchannelId) → Throughout (seen_after sets id) (IsEntryRight sets id) (record { offered = None; connected = None }) h
