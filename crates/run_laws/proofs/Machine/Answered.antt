-- Each step in which a CPU executes an instruction answers what the tables give.
use Rattle.std.proofs.Common.{◌≡◌, refl, sym, ◌∙◌, ap, subst, ℕ, zero, suc, ◌&&◌, ◌==◌, Bool, true, false, Option, None, Some, List, [], ◌∷◌}
use Rattle.std.specs.Prelude.{slice_get, slice_set, if◌then◌else◌}
use Rattle.channel_config.specs.declared.names.SubchannelId.{SubchannelId}
use Rattle.channel_config.specs.declared.parts.SubchannelSetup.{SubchannelSetup}
use Rattle.channel_config.specs.SubchannelWords.{subchannel_named}
use Rattle.chan_model.specs.ConditionCodes.{answer_of_code}
use Rattle.chan_events.specs.Events.{Event}
use Rattle.chan_events.specs.declared.event.Event.TheVariants as event
use Rattle.chan_events.specs.declared.event.Instruction.{Instruction}
use Rattle.chan_events.specs.declared.event.Instruction.TheVariants as instruction
use Rattle.chan_events.specs.Replies.{Reply}
use Rattle.chan_events.specs.declared.reply.Reply.TheVariants as reply
use Rattle.subchannel_model.specs.declared.state.Subchannel.{Subchannel}
use Rattle.subchannel_model.specs.declared.state.SubchannelState.{SubchannelState}
use Rattle.subchannel_model.specs.Conditions.{condition_of}
use Rattle.subchannel_model.specs.Indices.{Found, found_at, is_named, index_in, index_of_id, sub_at, found_with, one_later}
use Rattle.machine_model.specs.State.{State}
use Rattle.chan_events.specs.Instructions.{subchannel_word}
use Rattle.machine_model.specs.InstructionSteps.{stores_irb}
use Rattle.machine_model.specs.Steps.{Step}
use Rattle.step_laws.proofs.Indices.{get-set, found-there}
use Rattle.run_laws.specs.CodeSteps.{serials_of, answer_in, IsByTable, state_of}
use Rattle.step_laws.specs.Codes.{code_by}
use Rattle.chan_model.specs.declared.answer.Answer.{Answer}
use Rattle.scsw_irb.specs.declared.scsw.Scsw.{Scsw}
use Rattle.interruptions.specs.Requests.{WaitingRequests}
use Rattle.machine_model.specs.Results.{with_state}
use Rattle.step_laws.proofs.Executed.{IsEffect, IsDone, code_for, reply_of, state_left}
use Rattle.step_laws.proofs.Results as turn
use Rattle.step_laws.proofs.Results.{ResultOf, HasResult, step-turn}

-- the subchannel that was found
abbrev sub_in : Option Found → Option Subchannel
sub_in None = None
sub_in (Some f) = Some f.sub

with-sub : (index : ℕ) (o : Option Subchannel) → o ≡ sub_in (found_with index o)
with-sub index None = refl
with-sub index (Some sub) = refl

found-sub : (subs : List Subchannel) (p : Option ℕ) → sub_at subs p ≡ sub_in (found_at subs p)
found-sub subs None = refl
found-sub subs (Some index) = with-sub index (slice_get subs index)

-- the indices of subchannels stay where one of them is changed
index-stays : (id : SubchannelId) (subs : List Subchannel) (index : ℕ) (sub new : Subchannel) → slice_get subs index ≡ Some sub →
    new.setup ≡ sub.setup →
    index_in id (slice_set subs index new) ≡ index_in id subs
index-stays id [] index sub new e s = absurd (cc e)
index-stays id (x ∷ xs) zero sub new e s =
    let same : x ≡ sub = cc e in
    ap (λ (setup : SubchannelSetup). if (setup.id.set == id.set) && (setup.id.number == id.number) then Some 0 else one_later (index_in id xs))
    (s ∙ ap (λ (y : Subchannel). y.setup) (sym same))
index-stays id (x ∷ xs) (suc index) sub new e s =
    ap (λ (p : Option ℕ). if is_named id x then Some 0 else one_later p) (index-stays id xs index sub new e s)

-- the code of an instruction for what it found, with the serials of what it left
abbrev IsAnsweredBy : Instruction → Option Subchannel → Reply → Option Subchannel → Type 0
IsAnsweredBy i before r after = answer_in r ≡ Some (answer_of_code (code_by i (condition_of (state_of before))) (serials_of after))

-- the answer in the reply
if-answer : (b : Bool) (a : Answer) (scsw : Scsw) → answer_in (if b then reply.Status a scsw else reply.Code a) ≡ Some a
if-answer true a scsw = refl
if-answer false a scsw = refl

reply-answers : (i : Instruction) (sub : Subchannel) (x : SubchannelState) → IsEffect i sub x →
    answer_in (reply_of i (code_for i sub) sub.state (state_left i sub x)) ≡ Some (answer_of_code (code_for i sub) (state_left i sub x).serials)
reply-answers (instruction.Tsch word address) sub x is = if-answer (stores_irb (code_for (instruction.Tsch word address) sub)) _ sub.state.scsw
reply-answers (instruction.Stsch word address) sub x is =
    ap (λ (y : SubchannelState). Some (answer_of_code (code_for (instruction.Stsch word address) sub) y.serials)) (sym is)
reply-answers i sub x is = refl

module _ (s : State) where
  -- by what is named before and after
  abbrev IsAnsweredAs : Instruction → Option SubchannelId → Reply → Option SubchannelId → State → Type 0
  IsAnsweredAs i was r is new = IsAnsweredBy i (sub_at s.subs (index_of_id s.subs was)) r (sub_at new.subs (index_of_id new.subs is))

  found-answers : (i : Instruction) (id : SubchannelId) (q : Option Found) (r : Reply) (new : State) → found_at s.subs (index_in id s.subs) ≡ q → IsDone s i q r new →
      IsAnsweredAs i (Some id) r (Some id) new
  found-answers i id None r new e k =
      let before : sub_at s.subs (index_in id s.subs) ≡ None = found-sub s.subs (index_in id s.subs) ∙ ap sub_in e in
      subst (λ (o : Option Subchannel). IsAnsweredBy i o r (sub_at new.subs (index_in id new.subs))) (sym before)
      (subst (λ (o : Option Subchannel). IsAnsweredBy i None r o) (sym (ap (λ (subs : List Subchannel). sub_at subs (index_in id subs)) k.subs ∙ before)) (ap answer_in k.replies))
  found-answers i id (Some f) r new e k =
      let there : (index_in id s.subs ≡ Some f.index) × (slice_get s.subs f.index ≡ Some f.sub) = found-there s.subs (index_in id s.subs) f e in
      let after : Subchannel = with_state f.sub (state_left i f.sub k.effect) in
      let subs : List Subchannel = slice_set s.subs f.index after in
      let left : sub_at subs (index_in id subs) ≡ Some after =
      ap (sub_at subs) (index-stays id s.subs f.index f.sub after there.1 refl ∙ there.0) ∙ get-set s.subs f.index f.sub after there.1 in
      subst (λ (o : Option Subchannel). IsAnsweredBy i o r (sub_at new.subs (index_in id new.subs))) (sym (ap (sub_at s.subs) there.0 ∙ there.1))
      (subst (λ (o : Option Subchannel). IsAnsweredBy i (Some f.sub) r o) (sym (ap (λ (xs : List Subchannel). sub_at xs (index_in id xs)) k.subs ∙ left))
      (ap answer_in k.replies ∙ reply-answers i f.sub k.effect k.is))

  executes-answer : (cpu : ℕ) (i : Instruction) (id : SubchannelId) (q : Option Found) (r : Reply) (new : State) → subchannel_named s.sets (subchannel_word i) ≡ Some id →
      found_at s.subs (index_in id s.subs) ≡ q → new.sets ≡ s.sets → IsDone s i q r new → IsByTable s (event.Execute cpu i) r new
  executes-answer cpu i id q r new n e sets k =
      let after : subchannel_named new.sets (subchannel_word i) ≡ Some id = ap (λ (x : ℕ). subchannel_named x (subchannel_word i)) sets ∙ n in
      subst (λ (x : Option SubchannelId). IsAnsweredAs i x r (subchannel_named new.sets (subchannel_word i)) new) (sym n)
      (subst (λ (x : Option SubchannelId). IsAnsweredAs i (Some id) r x new) (sym after) (found-answers i id q r new e k))

  turn-answers : (e : Event) (r : Reply) (new : State) (waiting : WaitingRequests) → ResultOf s e r new → IsByTable s e r (record new { requests = waiting })
  turn-answers _ _ _ waiting (turn.Executes cpu i id q r storage subs n e blocks left done) = executes-answer cpu i id q r _ n e refl done
  turn-answers _ _ _ waiting (turn.Interrupts cpu mask address) = refl
  turn-answers _ _ _ waiting (turn.AsksReset cpu path) = refl
  turn-answers _ _ _ waiting (turn.StoresReport cpu address) = refl
  turn-answers _ _ _ waiting t = tt

  pub step-answers : (e : Event) (r : Reply) (new : State) → Step s e r new → IsByTable s e r new
  step-answers e r new step =
      let is : HasResult s e r new = step-turn s e r new step in subst (IsByTable s e r) (sym is.settles) (turn-answers e r is.left _ is.turn)
