-- Events that follow one another.
use Rattle.std.proofs.Common.{◌≡◌, refl, ◌∙◌, ap, subst, ℕ, ◌+◌, ◌<◌, Result, Ok, Err, List, [], ◌∷◌, ◌++◌, length-append, arith}
use Rattle.std.specs.Bool.{OnTrue}
use Rattle.std.specs.Result.{is_ok}
use Rattle.chan_events.specs.Events.{Event}
use Rattle.chan_events.specs.declared.event.Event.TheVariants as event
use Rattle.chan_events.specs.declared.reply.Entry.{Entry}
use Rattle.chan_events.specs.Replies.{Reply}
use Rattle.chan_events.specs.declared.reply.Reply.TheVariants as reply
use Rattle.channel_subsystem.specs.declared.host_fault.HostFault.{HostFault}
use Rattle.channel_subsystem.specs.Ends.{still_kept}
use Rattle.channel_subsystem.specs.Hosting.{Hosted}
use Rattle.storage_keys.specs.Storage.{Contents}
use Rattle.event_log.specs.Logs.{last_reply}
use Rattle.machine_model.specs.State.{State, lent}
use Rattle.subsystem.specs.Keeping.{answer_of}
use Rattle.embedding.specs.declared.host.Turn.{Turn}
use Rattle.embedding.specs.declared.host.Turn.TheVariants.{Moved, Quiet, Refused}
use Rattle.embedding.specs.Hosts.{Moment, Enters, IsAsBefore, Leads, GoesOn, Turned, state_at}

leads-then : (a b c : State) (es fs : List Entry) → Leads a es b → Leads b fs c → Leads a (es ++ fs) c
leads-then a b c [] fs h k = subst (λ (s : State). Leads s fs c) h k
leads-then a b c (e ∷ es) fs h k = (h.0, h.1, leads-then h.0 b c es fs h.2 k)

pub goes_then : (m n : ℕ) (a b c : Moment) → GoesOn m a b → GoesOn n b c → GoesOn (m + n) a c
goes_then m n a b c h k = record {
  entries = h.entries ++ k.entries;
  many = omega (arith, length-append h.entries k.entries, h.many, k.many);
  leads = leads-then (state_at a) (state_at b) (state_at c) h.entries k.entries h.leads k.leads;
  counted = omega (arith, h.counted, k.counted);
  blocks = k.blocks ∙ h.blocks;
}

pub as_before : (a b : Moment) (e : Event) (f : HostFault) → Enters a e (Err f) b → IsAsBefore a b
as_before a b e f h = record {
  state = ap (λ (s : Hosted). lent s.machine b.storage) h.refused.0.same ∙ ap (λ (c : Contents). lent a.subsystem.machine c) h.refused.1;
  count = ap (λ (s : Hosted). s.count) h.refused.0.same;
  blocks = h.blocks;
}

pub goes_nowhere : (a b : Moment) → IsAsBefore a b → GoesOn 0 a b
goes_nowhere a b h = record { entries = []; many = refl; leads = h.state; counted = omega (arith, h.count); blocks = h.blocks }

pub goes_once : (a b : Moment) (e : Event) (r : Reply) → Enters a e (Ok r) b → GoesOn 1 a b
goes_once a b e r h = record {
  entries = record { event = e; reply = r } ∷ [];
  many = refl;
  leads = (state_at b, h.step, refl);
  counted = h.count;
  blocks = h.blocks;
}

pub entered : (a b : Moment) (e : Event) (r : Result (Unit {0}) HostFault) (h : List Entry) → Enters a e (answer_of r h) b → OnTrue (is_ok r) (GoesOn 1 a b)
entered a b e (Ok u) h k = goes_once a b e (last_reply h) k
entered a b e (Err f) h k = tt

pub turned_idle : (word : ℕ) (a b : Moment) → Enters a (event.Choose word) (Ok reply.Idle) b → Turned word 1 Quiet a b
turned_idle word a b h = (1, omega arith, goes_once a b (event.Choose word) reply.Idle h, (still_kept a.subsystem.keeping a.subsystem.kept, h.kept))

pub turned_refused : (word : ℕ) (a b : Moment) (e : Event) (f : HostFault) → Enters a e (Err f) b → Turned word 1 (Refused f) a b
turned_refused word a b e f h = (0, omega arith, goes_nowhere a b (as_before a b e f h), (a, e, h))

pub turned_then : (word m n : ℕ) (t : Turn) (a b c : Moment) → GoesOn m a b → Turned word n t b c → Turned word (m + n) t a c
turned_then word m n Moved a b c h k = goes_then m n a b c h k
turned_then word m n Quiet a b c h k = (m + k.0, omega (arith, k.1), goes_then m k.0 a b c h k.2, k.3)
turned_then word m n (Refused f) a b c h k = (m + k.0, omega (arith, k.1), goes_then m k.0 a b c h k.2, k.3)

pub turned_later : (word n : ℕ) (t : Turn) (a b c : Moment) → IsAsBefore a b → Turned word n t b c → Turned word n t a c
turned_later word n t a b c h k =
    let same : 0 + n ≡ n = omega arith in
    subst (λ (m : ℕ). Turned word m t a c) same (turned_then word 0 n t a b c (goes_nowhere a b h) k)

pub goes_start : (a : Moment) → GoesOn 0 a a
goes_start a = record { entries = []; many = refl; leads = refl; counted = omega arith; blocks = refl }

pub quiet_within : (word m n : ℕ) (a b c : Moment) → m < n → GoesOn m a b → Turned word 1 Quiet b c → Turned word n Quiet a c
quiet_within word m n a b c lt h k = (m + k.0, omega (arith, lt, k.1), goes_then m k.0 a b c h k.2, k.3)

pub refused_within : (word m n : ℕ) (f : HostFault) (a b c : Moment) → m < n → GoesOn m a b → Turned word 1 (Refused f) b c → Turned word n (Refused f) a c
refused_within word m n f a b c lt h k = (m + k.0, omega (arith, lt, k.1), goes_then m k.0 a b c h k.2, k.3)
