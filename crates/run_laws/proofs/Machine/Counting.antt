-- The count after each step.
use Rattle.std.proofs.Common.{◌≡◌, sym, ◌∙◌, ap, ℕ, true, Some, List, refl}
use Rattle.std.proofs.lemmas.Option.{same_Some}
use Rattle.std.specs.Prelude.{slice_get}
use Rattle.orb_block.specs.declared.Orb.{Orb}
use Rattle.chan_model.specs.declared.answer.Answer.TheVariants as answer
use Rattle.chan_model.specs.declared.answer.ConditionCode.{ConditionCode}
use Rattle.chan_model.specs.declared.answer.ConditionCode.TheVariants as code
use Rattle.chan_events.specs.Events.{Event}
use Rattle.chan_events.specs.declared.event.Event.TheVariants as event
use Rattle.chan_events.specs.declared.event.Instruction.TheVariants as instruction
use Rattle.chan_events.specs.Replies.{Reply}
use Rattle.chan_events.specs.declared.reply.Reply.TheVariants as reply
use Rattle.subchannel_model.specs.declared.state.Subchannel.{Subchannel}
use Rattle.subchannel_model.specs.Start.{started}
use Rattle.machine_model.specs.State.{State, index_of}
use Rattle.machine_model.specs.InstructionSteps.{function_sub}
use Rattle.step_laws.specs.Walks as walked
use Rattle.step_laws.specs.Walks.{Walked, IsQuiet, is_start}
use Rattle.step_laws.proofs.Indices.{get-set}
use Rattle.run_laws.specs.Counts.{IsStart, CountsByStatus}
use Rattle.run_laws.proofs.Machine.Following.{step-follows}

module _ (s : State) where
  -- the reply is code 0
  accepted : (cpu word address : ℕ) (r : Reply) (index : ℕ) → IsStart s (event.Execute cpu (instruction.Ssch word address)) r index →
      (is_start r ≡ true) × (index_of s word ≡ Some index)
  accepted cpu word address (reply.Code (answer.Zero serials)) index k = (refl, k)
  accepted cpu word address r index k = absurd k

  -- by no other kind of step is a start accepted
  not-start : (e : Event) (r : Reply) (index : ℕ) → IsQuiet e r → IsStart s e r index → ⊥
  not-start (event.Execute cpu (instruction.Ssch word address)) r index q k = cc (sym q ∙ (accepted cpu word address r index k).0)
  not-start e r index q k = k

  start-zero : (sub : Subchannel) (orb : Orb) (c : ConditionCode) → is_start (function_sub sub c (started sub.state orb)).reply ≡ true →
      (function_sub sub c (started sub.state orb)).sub.state.scsw.count ≡ 0
  start-zero sub orb code.Zero k = refl
  start-zero sub orb c k = absurd (cc k)

  started-zero : (e : Event) (r : Reply) (new : State) → Walked s e r new → (index : ℕ) (after : Subchannel) → slice_get new.subs index ≡ Some after →
      IsStart s e r index → after.state.scsw.count ≡ 0
  started-zero _ _ _ (walked.Started cpu word address at sub orb c new named one) index after left k =
      let x : Subchannel = (function_sub sub c (started sub.state orb)).sub in
      let start = accepted cpu word address (function_sub sub c (started sub.state orb)).reply index k in
      let here : at ≡ index = same_Some at index (sym named ∙ start.1) in
      let same : x ≡ after =
      same_Some x after (sym (get-set s.subs at sub x one.there) ∙ sym (ap (λ (xs : List Subchannel). slice_get xs at) one.subs)
      ∙ ap (λ (i : ℕ). slice_get new.subs i) here ∙ left) in
      ap (λ (y : Subchannel). y.state.scsw.count) (sym same) ∙ start-zero sub orb c start.0
  started-zero _ _ _ (walked.Stays e r new q sets subs units up) index after left k = absurd (not-start e r index q k)
  started-zero _ _ _ (walked.Tested e r at sub c new q one address by answers) index after left k = absurd (not-start e r index q k)
  started-zero _ _ _ (walked.Modified e r at sub given c new q one) index after left k = absurd (not-start e r index q k)
  started-zero _ _ _ (walked.Performed e r at sub f c new q one by answers) index after left k = absurd (not-start e r index q k)
  started-zero _ _ _ (walked.Swept e r what new q sets subs units by) index after left k = absurd (not-start e r index q k)
  started-zero _ _ _ w index after left k = absurd k

  pub counts-by-status : (e : Event) (r : Reply) (new : State) → Walked s e r new → CountsByStatus s e r new
  counts-by-status e r new w index sub after there left =
      (started-zero e r new w index after left, (step-follows s e r new w index sub after there left).counts.kept)
