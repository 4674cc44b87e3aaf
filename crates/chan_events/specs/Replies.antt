-- Replies over lists of bytes, replies whose bytes stand elsewhere, and replies without signals and without bytes (own).
use Rattle.std.specs.Prelude.{ℕ, ◌+◌, Bool, List, [], ◌++◌, Option, None, Some, Result, Ok, Err, take, drop}
use Rattle.std.specs.declared.convert.Infallible.{Infallible}
use Rattle.chan_events.specs.declared.reply.Reply as declared_reply
use Rattle.chan_events.specs.declared.reply.Reply.TheVariants as reply
use Rattle.chan_model.specs.ConditionCodes.{code_of, tpi_code, stcrw_code}
use Rattle.chan_model.specs.declared.answer.ConditionCode.{ConditionCode}
use Rattle.chan_model.specs.Signals.{Down, KeptDown, KeptUp, Up, down_in, down_length, down_bytes, map_sent, up_in, up_length, up_bytes}
use Rattle.chan_model.specs.declared.fault.Fault.{Fault}

-- a reply, with its bytes
abbrev pub Reply : Type 0
Reply = declared_reply.Reply (List ℕ) Up Down

-- a reply whose bytes stand elsewhere, so many of them
abbrev pub KeptReply : Type 0
KeptReply = declared_reply.Reply ℕ KeptUp KeptDown

-- a reply that has no signal and no bytes
abbrev pub PlainReply : Type 0
PlainReply = declared_reply.Reply Infallible Infallible Infallible

-- the same reply over something else in place of its bytes, of a signal up and of a signal down
abbrev pub map_reply : {A B U V D E : Type 0} → (A → B) → (U → V) → (D → E) → declared_reply.Reply A U D → declared_reply.Reply B V E
map_reply f g h reply.Done = reply.Done
map_reply f g h (reply.Shown bytes) = reply.Shown (f bytes)
map_reply f g h (reply.Code answer) = reply.Code answer
map_reply f g h (reply.Status answer scsw) = reply.Status answer scsw
map_reply f g h (reply.Interruption code) = reply.Interruption code
map_reply f g h (reply.PathReset code) = reply.PathReset code
map_reply f g h (reply.ChannelReport report) = reply.ChannelReport report
map_reply f g h (reply.Paths engaged) = reply.Paths engaged
map_reply f g h (reply.Offered number path resumed) = reply.Offered number path resumed
map_reply f g h (reply.ResetSent number path) = reply.ResetSent number path
map_reply f g h (reply.HaltSent number path) = reply.HaltSent number path
map_reply f g h reply.Pending = reply.Pending
map_reply f g h reply.Idle = reply.Idle
map_reply f g h (reply.Up signal taken sent) = reply.Up (g signal) taken (map_sent h sent)
map_reply f g h (reply.Down signal taken sent) = reply.Down (h signal) taken (map_sent g sent)

-- the reply that a plain one is
abbrev from_nothing : {A : Type 0} → Infallible → A
from_nothing nothing = elim nothing [ ]

abbrev pub reply_of : PlainReply → Reply
reply_of plain = map_reply from_nothing from_nothing from_nothing plain

-- the same of a reply or a refusal
abbrev pub plain_outcome : Result PlainReply Fault → Result Reply Fault
plain_outcome (Ok plain) = Ok (reply_of plain)
plain_outcome (Err fault) = Err fault

-- the signal that was met, and the one that was sent on a path
abbrev pub up_met : Bool → ℕ → Up → Down → Reply
up_met taken path signal sent = reply.Up signal taken (Some (record { path = path; signal = sent }))

abbrev pub down_met : Bool → ℕ → Down → Up → Reply
down_met taken path signal sent = reply.Down signal taken (Some (record { path = path; signal = sent }))

-- the reply with the first of these bytes: those of the signal that was met, then those of the one that was sent
abbrev pub reply_in : KeptReply → List ℕ → Reply
reply_in reply.Done bytes = reply.Done
reply_in (reply.Shown count) bytes = reply.Shown (take count bytes)
reply_in (reply.Code answer) bytes = reply.Code answer
reply_in (reply.Status answer scsw) bytes = reply.Status answer scsw
reply_in (reply.Interruption code) bytes = reply.Interruption code
reply_in (reply.PathReset code) bytes = reply.PathReset code
reply_in (reply.ChannelReport report) bytes = reply.ChannelReport report
reply_in (reply.Paths engaged) bytes = reply.Paths engaged
reply_in (reply.Offered number path resumed) bytes = reply.Offered number path resumed
reply_in (reply.ResetSent number path) bytes = reply.ResetSent number path
reply_in (reply.HaltSent number path) bytes = reply.HaltSent number path
reply_in reply.Pending bytes = reply.Pending
reply_in reply.Idle bytes = reply.Idle
reply_in (reply.Up signal taken None) bytes = reply.Up (up_in signal bytes) taken None
reply_in (reply.Up signal taken (Some sent)) bytes = up_met taken sent.path (up_in signal bytes) (down_in sent.signal (drop (up_length signal) bytes))
reply_in (reply.Down signal taken None) bytes = reply.Down (down_in signal bytes) taken None
reply_in (reply.Down signal taken (Some sent)) bytes = down_met taken sent.path (down_in signal bytes) (up_in sent.signal (drop (down_length signal) bytes))

-- how many bytes it has
abbrev pub reply_length : KeptReply → ℕ
reply_length (reply.Shown count) = count
reply_length (reply.Up signal taken None) = up_length signal
reply_length (reply.Up signal taken (Some sent)) = up_length signal + down_length sent.signal
reply_length (reply.Down signal taken None) = down_length signal
reply_length (reply.Down signal taken (Some sent)) = down_length signal + up_length sent.signal
reply_length kept = 0

-- the bytes of a reply
abbrev pub reply_bytes : Reply → List ℕ
reply_bytes (reply.Shown bytes) = bytes
reply_bytes (reply.Up signal taken None) = up_bytes signal
reply_bytes (reply.Up signal taken (Some sent)) = up_bytes signal ++ down_bytes sent.signal
reply_bytes (reply.Down signal taken None) = down_bytes signal
reply_bytes (reply.Down signal taken (Some sent)) = down_bytes signal ++ up_bytes sent.signal
reply_bytes r = []

-- the condition code that an instruction with this reply set (SA22-7832, chapter 14); STORE CHANNEL PATH STATUS sets none
abbrev pub reply_code : Reply → Option ConditionCode
reply_code (reply.Code answer) = Some (code_of answer)
reply_code (reply.Status answer scsw) = Some (code_of answer)
reply_code (reply.Interruption found) = Some (tpi_code found)
reply_code (reply.PathReset code) = Some code
reply_code (reply.ChannelReport report) = Some (stcrw_code report)
reply_code other = None
