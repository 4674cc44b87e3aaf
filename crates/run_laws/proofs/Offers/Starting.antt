-- A START SUBCHANNEL with code 0: the start that waits then has the operation-request block that is its operand.
use Rattle.std.proofs.Common.{◌≡◌, refl, sym, ◌∙◌, ap, subst, ℕ, false, Option, None, Some, Result, Ok, Err, List, inl, inr}
use Rattle.std.specs.Prelude.{slice_get, slice_set, IfOk}
use Rattle.orb_block.specs.declared.Orb.{Orb}
use Rattle.storage_keys.specs.declared.StorageFault.{StorageFault}
use Rattle.storage_keys.specs.Storage.{operand_at}
use Rattle.chan_model.specs.declared.answer.Answer.TheVariants as answer
use Rattle.chan_model.specs.declared.answer.ConditionCode.{ConditionCode}
use Rattle.chan_model.specs.declared.answer.ConditionCode.TheVariants as code
use Rattle.scsw_irb.specs.declared.serials.Serials.{Serials}
use Rattle.chan_events.specs.Events.{Event}
use Rattle.chan_events.specs.declared.event.Event.TheVariants as event
use Rattle.chan_events.specs.declared.event.Instruction.TheVariants as instruction
use Rattle.chan_events.specs.Replies.{Reply}
use Rattle.chan_events.specs.declared.reply.Reply.TheVariants as reply
use Rattle.channel_config.specs.declared.names.SubchannelId.{SubchannelId}
use Rattle.channel_config.specs.SubchannelWords.{subchannel_named}
use Rattle.subchannel_model.specs.declared.state.Subchannel.{Subchannel}
use Rattle.subchannel_model.specs.Indices.{Found, index_in, index_of_id, found_at}
use Rattle.subchannel_model.specs.Start.{started, ssch_code}
use Rattle.machine_model.specs.InstructionSteps.{WhereFetched, Starts_with, function_at, function_sub, code_at, Executes_on}
use Rattle.machine_model.specs.State.{State, index_of}
use Rattle.machine_model.specs.Requests.{settled, posted_all, requests_dropped}
use Rattle.machine_model.specs.Steps.{Step}
use Rattle.machine_model.specs.Results.{StepResult, Outcome, does, with_state}
use Rattle.run_laws.specs.BeginsItsOwn.{is_code_zero}
use Rattle.step_laws.proofs.Indices.{found-there}
use Rattle.run_laws.specs.ProgramTold.{IsOrbAt}

pub data Started (s : State) (cpu word address : ℕ) : Reply → List Subchannel → Type 0 where
  Unfound : (r : Reply) → is_code_zero r ≡ false → Started s cpu word address r s.subs
  Refused : (index : ℕ) (sub after : Subchannel) (r : Reply) → slice_get s.subs index ≡ Some sub → after.state ≡ sub.state → is_code_zero r ≡ false →
      Started s cpu word address r (slice_set s.subs index after)
  Starts : (index : ℕ) (sub : Subchannel) (orb : Orb) (serials : Serials) → index_of s word ≡ Some index → slice_get s.subs index ≡ Some sub → IsOrbAt s.storage cpu address orb →
      Started s cpu word address (reply.Code (answer.Zero serials)) (slice_set s.subs index (with_state sub (started sub.state orb)))

started-by : (s : State) (cpu word address index : ℕ) (sub : Subchannel) (orb : Orb) (c : ConditionCode) → index_of s word ≡ Some index → slice_get s.subs index ≡ Some sub →
    IsOrbAt s.storage cpu address orb →
    Started s cpu word address (function_sub sub c (started sub.state orb)).reply (slice_set s.subs index (function_sub sub c (started sub.state orb)).sub)
started-by s cpu word address index sub orb code.Zero n there at = Starts index sub orb (started sub.state orb).serials n there at
started-by s cpu word address index sub orb c n there at = Refused index sub (with_state sub sub.state) _ there refl refl

abbrev IsTurn : State → ℕ → ℕ → ℕ → Outcome → Type 0
IsTurn s cpu word address o = IfOk o (λ t. Started s cpu word address t.reply t.state.subs)

found-started : (s : State) (cpu word address : ℕ) (orb : Orb) (p : Option ℕ) (q : Option Found) → index_of s word ≡ p → found_at s.subs p ≡ q → IsOrbAt s.storage cpu address orb →
    IsTurn s cpu word address (function_at s q ssch_code (λ sub. started sub.state orb))
found-started s cpu word address orb p None n e at = Unfound _ refl
found-started s cpu word address orb p (Some f) n e at =
    let there = found-there s.subs p f e in
    started-by s cpu word address f.index f.sub orb (code_at ssch_code f.sub) (n ∙ there.0) there.1 at

fetched-started : (s : State) (cpu word address : ℕ) (p : Option ℕ) (image : Result (List ℕ) StorageFault) (o : Outcome) → index_of s word ≡ p → operand_at s.storage cpu address 12 4 ≡ image →
    WhereFetched image (Starts_with s (found_at s.subs p)) o → IsTurn s cpu word address o
fetched-started s cpu word address p (Err f) o n e w = subst (IsTurn s cpu word address) (sym w) tt
fetched-started s cpu word address p (Ok image) o n e (inl w) = subst (IsTurn s cpu word address) (sym w.1) tt
fetched-started s cpu word address p (Ok image) o n e (inr w) =
    subst (IsTurn s cpu word address) (sym w.2) (found-started s cpu word address w.0 p (found_at s.subs p) n refl (e ∙ ap (λ (xs : List ℕ). Ok xs) w.1))

on-started : (s : State) (cpu word address : ℕ) (x : Option SubchannelId) (o : Outcome) → subchannel_named s.sets word ≡ x → Executes_on s cpu (instruction.Ssch word address) x o →
    IsTurn s cpu word address o
on-started s cpu word address None o n w = subst (IsTurn s cpu word address) (sym w) tt
on-started s cpu word address (Some id) o n w =
    fetched-started s cpu word address (index_in id s.subs) (operand_at s.storage cpu address 12 4) o (ap (index_of_id s.subs) n) refl w

-- requests for interruptions that are settled change nothing of it
settled-answered : (s : State) (e : Event) (o : Outcome) (r : Reply) (new : State) (P : Reply → List Subchannel → Type 0) → does r new ≡ settled s e o →
    IfOk o (λ t. P t.reply t.state.subs) → P r new.subs
settled-answered s e (Err f) r new P h k = absurd (cc h)
settled-answered s e (Ok t) r new P h k =
    let left : State = record t.state { requests = posted_all s.subs t.state.subs (requests_dropped s e t.reply t.state.requests) } in
    let turn : StepResult = record { reply = r; state = new } in
    let same : turn ≡ record { reply = t.reply; state = left } = cc h in
    let a : r ≡ t.reply = ap (λ (x : StepResult). x.reply) same in
    let b : new.subs ≡ t.state.subs = ap (λ (x : StepResult). x.state.subs) same in
    subst (λ (y : Reply). P y new.subs) (sym a) (subst (λ (ys : List Subchannel). P t.reply ys) (sym b) k)

pub step-started : (s : State) (cpu word address : ℕ) (r : Reply) (new : State) → Step s (event.Execute cpu (instruction.Ssch word address)) r new → Started s cpu word address r new.subs
step-started s cpu word address r new step =
    settled-answered s (event.Execute cpu (instruction.Ssch word address)) step.0 r new (Started s cpu word address) step.2
    (on-started s cpu word address (subchannel_named s.sets word) step.0 refl step.1)
