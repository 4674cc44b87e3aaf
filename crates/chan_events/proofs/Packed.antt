-- Events and replies that are kept are told by what they are: by their numbers and by their bytes.
use Rattle.std.proofs.Common.{◌≡◌, ◌≤◌, ℕ, ◌∙◌, refl, sym, ap, ap₂, arith, List, ◌++◌, None, Some, length, take, drop, take-add, length-drop, length-take-le}
use Rattle.std.proofs.lemmas.List.{drop-append-le, take-append-le}
use Rattle.chan_model.specs.declared.report.DeviceAnswer.TheVariants as answer
use Rattle.chan_events.specs.declared.event.Event.TheVariants as event
use Rattle.chan_events.specs.declared.reply.Reply.TheVariants as reply
use Rattle.chan_events.specs.Events.{Event, KeptEvent, map_event, event_in, event_length, event_bytes}
use Rattle.chan_events.specs.Replies.{KeptReply, Reply, down_met, map_reply, reply_in, reply_length, reply_bytes, up_met}
use Rattle.chan_model.specs.Reports.{DeviceAnswer, KeptAnswer, answer_bytes, answer_in, answer_length, map_answer, map_report}
use Rattle.chan_model.specs.Signals.{Down, KeptDown, KeptUp, Up, down_in, down_length, up_in, up_length}
use Rattle.chan_model.proofs.KeptSignals.{kept_of_down, kept_of_up, down-kept, up-kept}

-- what is kept of answers, events and replies
abbrev kept_of_answer : DeviceAnswer → KeptAnswer
kept_of_answer a = map_answer length a

abbrev pub kept_of_event : Event → KeptEvent
kept_of_event e = map_event length (λ r. map_report kept_of_answer r) e

abbrev pub kept_of_reply : Reply → KeptReply
kept_of_reply r = map_reply length kept_of_up kept_of_down r

-- is what is kept of the answer, event or reply that it is with its bytes
answer-kept : (k : KeptAnswer) (bytes : List ℕ) → answer_length k ≤ length bytes → kept_of_answer (answer_in k bytes) ≡ k
answer-kept answer.Begins bytes fits = refl
answer-kept (answer.Absorbed count) bytes fits = refl
answer-kept (answer.Supplied count) bytes fits = ap (λ n. answer.Supplied n) (length-take-le count bytes fits)
answer-kept answer.Again bytes fits = refl
answer-kept (answer.Ended status more) bytes fits = refl

pub event-kept : (k : KeptEvent) (bytes : List ℕ) → event_length k ≤ length bytes → kept_of_event (event_in k bytes) ≡ k
event-kept (event.Put address count) bytes fits = ap (λ n. event.Put address n) (length-take-le count bytes fits)
event-kept (event.SetKey address key) bytes fits = refl
event-kept (event.SetPrefix cpu address) bytes fits = refl
event-kept (event.Show address length) bytes fits = refl
event-kept (event.Execute cpu instruction) bytes fits = refl
event-kept (event.ExecuteOther cpu instruction) bytes fits = refl
event-kept (event.Choose subchannel) bytes fits = refl
event-kept (event.Up subchannel path) bytes fits = refl
event-kept (event.Down subchannel path) bytes fits = refl
event-kept (event.Report unit report) bytes fits =
    ap (λ (a : KeptAnswer). event.Report unit (record { side = report.side; answer = a; number = report.number; command = report.command; sequence = report.sequence })) (answer-kept report.answer bytes fits)
event-kept (event.Act unit act) bytes fits = refl
event-kept (event.Restart unit) bytes fits = refl
event-kept (event.PathDown chpid) bytes fits = refl
event-kept (event.PathUp chpid) bytes fits = refl
event-kept (event.PathReset chpid) bytes fits = refl
event-kept event.SystemReset bytes fits = refl

pub reply-kept : (k : KeptReply) (bytes : List ℕ) → reply_length k ≤ length bytes → kept_of_reply (reply_in k bytes) ≡ k
reply-kept reply.Done bytes fits = refl
reply-kept (reply.Shown count) bytes fits = ap (λ n. reply.Shown n) (length-take-le count bytes fits)
reply-kept (reply.Code a) bytes fits = refl
reply-kept (reply.Status a scsw) bytes fits = refl
reply-kept (reply.Interruption code) bytes fits = refl
reply-kept (reply.PathReset code) bytes fits = refl
reply-kept (reply.ChannelReport report) bytes fits = refl
reply-kept (reply.Paths engaged) bytes fits = refl
reply-kept (reply.Offered number path resumed) bytes fits = refl
reply-kept (reply.ResetSent number path) bytes fits = refl
reply-kept (reply.HaltSent number path) bytes fits = refl
reply-kept reply.Pending bytes fits = refl
reply-kept reply.Idle bytes fits = refl
reply-kept (reply.Up signal taken None) bytes fits = ap (λ (k : KeptUp). reply.Up k taken None) ((up-kept signal).same bytes fits)
reply-kept (reply.Up signal taken (Some sent)) bytes fits =
    ap₂ (λ (k : KeptUp) (l : KeptDown). reply.Up k taken (Some (record { path = sent.path; signal = l }))) ((up-kept signal).same bytes (omega (arith, fits)))
    ((down-kept sent.signal).same (drop (up_length signal) bytes) (omega (arith, fits, length-drop (up_length signal) bytes)))
reply-kept (reply.Down signal taken None) bytes fits = ap (λ (k : KeptDown). reply.Down k taken None) ((down-kept signal).same bytes fits)
reply-kept (reply.Down signal taken (Some sent)) bytes fits =
    ap₂ (λ (k : KeptDown) (l : KeptUp). reply.Down k taken (Some (record { path = sent.path; signal = l }))) ((down-kept signal).same bytes (omega (arith, fits)))
    ((up-kept sent.signal).same (drop (down_length signal) bytes) (omega (arith, fits, length-drop (down_length signal) bytes)))

-- and has these bytes
answer-bytes : (k : KeptAnswer) (bytes : List ℕ) → answer_bytes (answer_in k bytes) ≡ take (answer_length k) bytes
answer-bytes answer.Begins bytes = refl
answer-bytes (answer.Absorbed count) bytes = refl
answer-bytes (answer.Supplied count) bytes = refl
answer-bytes answer.Again bytes = refl
answer-bytes (answer.Ended status more) bytes = refl

pub event-bytes : (k : KeptEvent) (bytes : List ℕ) → event_bytes (event_in k bytes) ≡ take (event_length k) bytes
event-bytes (event.Put address count) bytes = refl
event-bytes (event.SetKey address key) bytes = refl
event-bytes (event.SetPrefix cpu address) bytes = refl
event-bytes (event.Show address length) bytes = refl
event-bytes (event.Execute cpu instruction) bytes = refl
event-bytes (event.ExecuteOther cpu instruction) bytes = refl
event-bytes (event.Choose subchannel) bytes = refl
event-bytes (event.Up subchannel path) bytes = refl
event-bytes (event.Down subchannel path) bytes = refl
event-bytes (event.Report unit report) bytes = answer-bytes report.answer bytes
event-bytes (event.Act unit act) bytes = refl
event-bytes (event.Restart unit) bytes = refl
event-bytes (event.PathDown chpid) bytes = refl
event-bytes (event.PathUp chpid) bytes = refl
event-bytes (event.PathReset chpid) bytes = refl
event-bytes event.SystemReset bytes = refl

pub reply-bytes : (k : KeptReply) (bytes : List ℕ) → reply_bytes (reply_in k bytes) ≡ take (reply_length k) bytes
reply-bytes reply.Done bytes = refl
reply-bytes (reply.Shown count) bytes = refl
reply-bytes (reply.Code a) bytes = refl
reply-bytes (reply.Status a scsw) bytes = refl
reply-bytes (reply.Interruption code) bytes = refl
reply-bytes (reply.PathReset code) bytes = refl
reply-bytes (reply.ChannelReport report) bytes = refl
reply-bytes (reply.Paths engaged) bytes = refl
reply-bytes (reply.Offered number path resumed) bytes = refl
reply-bytes (reply.ResetSent number path) bytes = refl
reply-bytes (reply.HaltSent number path) bytes = refl
reply-bytes reply.Pending bytes = refl
reply-bytes reply.Idle bytes = refl
reply-bytes (reply.Up signal taken None) bytes = (up-kept signal).brings bytes
reply-bytes (reply.Up signal taken (Some sent)) bytes =
    ap₂ (λ (a b : List ℕ). a ++ b) ((up-kept signal).brings bytes) ((down-kept sent.signal).brings (drop (up_length signal) bytes)) ∙ sym (take-add (up_length signal) (down_length sent.signal) bytes)
reply-bytes (reply.Down signal taken None) bytes = (down-kept signal).brings bytes
reply-bytes (reply.Down signal taken (Some sent)) bytes =
    ap₂ (λ (a b : List ℕ). a ++ b) ((down-kept signal).brings bytes) ((up-kept sent.signal).brings (drop (down_length signal) bytes)) ∙ sym (take-add (down_length signal) (up_length sent.signal) bytes)

-- a reply that is Done has no bytes
pub reply-done : (k : KeptReply) (bytes : List ℕ) → reply_length k ≤ length bytes → reply_in k bytes ≡ reply.Done → reply_length k ≡ 0
reply-done k bytes fits is = ap reply_length (sym (reply-kept k bytes fits) ∙ ap kept_of_reply is)

-- what follows the bytes of a reply makes no difference
pub reply-front : (k : KeptReply) (bytes rest : List ℕ) → reply_length k ≤ length bytes → reply_in k (bytes ++ rest) ≡ reply_in k bytes
reply-front reply.Done bytes rest fits = refl
reply-front (reply.Shown count) bytes rest fits = ap (λ bs. reply.Shown bs) (take-append-le count bytes rest fits)
reply-front (reply.Code a) bytes rest fits = refl
reply-front (reply.Status a scsw) bytes rest fits = refl
reply-front (reply.Interruption code) bytes rest fits = refl
reply-front (reply.PathReset code) bytes rest fits = refl
reply-front (reply.ChannelReport report) bytes rest fits = refl
reply-front (reply.Paths engaged) bytes rest fits = refl
reply-front (reply.Offered number path resumed) bytes rest fits = refl
reply-front (reply.ResetSent number path) bytes rest fits = refl
reply-front (reply.HaltSent number path) bytes rest fits = refl
reply-front reply.Pending bytes rest fits = refl
reply-front reply.Idle bytes rest fits = refl
reply-front (reply.Up signal taken None) bytes rest fits = ap (λ (x : Up). reply.Up x taken None) ((up-kept signal).front bytes rest fits)
reply-front (reply.Up signal taken (Some sent)) bytes rest fits =
    ap₂ (λ x y. up_met taken sent.path x y) ((up-kept signal).front bytes rest (omega (arith, fits)))
    (ap (down_in sent.signal) (drop-append-le (up_length signal) bytes rest (omega (arith, fits)))
    ∙ (down-kept sent.signal).front (drop (up_length signal) bytes) rest (omega (arith, fits, length-drop (up_length signal) bytes)))
reply-front (reply.Down signal taken None) bytes rest fits = ap (λ (x : Down). reply.Down x taken None) ((down-kept signal).front bytes rest fits)
reply-front (reply.Down signal taken (Some sent)) bytes rest fits =
    ap₂ (λ x y. down_met taken sent.path x y) ((down-kept signal).front bytes rest (omega (arith, fits)))
    (ap (up_in sent.signal) (drop-append-le (down_length signal) bytes rest (omega (arith, fits)))
    ∙ (up-kept sent.signal).front (drop (down_length signal) bytes) rest (omega (arith, fits, length-drop (down_length signal) bytes)))
