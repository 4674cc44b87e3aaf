-- What clears status of a subchannel clears all that was made before.
use Rattle.std.proofs.Common.{◌≡◌, refl, sym, ◌∙◌, ap, subst, ℕ, Bool, true, false, Option, None, Some, List}
use Rattle.std.proofs.lemmas.Option.{same_Some}
use Rattle.std.specs.Prelude.{slice_get, slice_set, if◌then◌else◌}
use Rattle.channel_config.specs.declared.names.SubchannelId.{SubchannelId}
use Rattle.channel_config.specs.SubchannelWords.{subchannel_named}
use Rattle.chan_model.specs.declared.answer.ConditionCode.{ConditionCode}
use Rattle.chan_model.specs.declared.answer.ConditionCode.TheVariants as code
use Rattle.chan_events.specs.Events.{Event}
use Rattle.chan_events.specs.declared.event.Event.TheVariants as event
use Rattle.chan_events.specs.declared.event.Instruction.{Instruction}
use Rattle.chan_events.specs.declared.event.Instruction.TheVariants as instruction
use Rattle.chan_events.specs.Replies.{Reply}
use Rattle.chan_events.specs.declared.reply.Reply.TheVariants as reply
use Rattle.subchannel_model.specs.declared.state.Subchannel.{Subchannel}
use Rattle.subchannel_model.specs.declared.state.SubchannelState.{SubchannelState}
use Rattle.subchannel_model.specs.Clear.{cleared}
use Rattle.subchannel_model.specs.Halt.{drops_status, status_dropped, halt_begun}
use Rattle.subchannel_model.specs.Indices.{Found, found_at, index_in, index_of_id}
use Rattle.subchannel_model.specs.Programs.{without_programs}
use Rattle.subchannel_model.specs.Test.{ends_suspended, tested}
use Rattle.machine_model.specs.State.{State, index_of}
use Rattle.machine_model.specs.declared.state.Sweep.TheVariants as sweep
use Rattle.chan_events.specs.Instructions.{subchannel_word}
use Rattle.machine_model.specs.PathSteps.{swept, reset_system}
use Rattle.machine_model.specs.Steps.{Step}
use Rattle.step_laws.proofs.Indices.{get-set, map-get, found-there}
use Rattle.run_laws.specs.Clearing.{IsClearing, ClearsByCause}
use Rattle.step_laws.specs.Walks.{Walked}
use Rattle.run_laws.proofs.Machine.Following.{step-follows}
use Rattle.subchannel_model.specs.Conditions.{left_by}
use Rattle.step_laws.proofs.Executed.{IsDone, IsLeft, absent_reply, code_for, reply_of, state_left}
use Rattle.step_laws.proofs.Results as turn
use Rattle.step_laws.proofs.Results.{ResultOf, HasResult, step-turn}

-- TEST, and HALT where it drops the status
wholly-cleared : (s : SubchannelState) (ends : Bool) → (if ends then without_programs (tested s) else tested s).serials.cleared ≡ s.serials.made
wholly-cleared s true = refl
wholly-cleared s false = refl

dropped-cleared : (s : SubchannelState) (drops : Bool) → drops ≡ true →
    (if drops then status_dropped (halt_begun s) else halt_begun s).serials.cleared ≡ s.serials.made
dropped-cleared s true e = refl
dropped-cleared s false e = absurd (cc e)

module _ (s : State) where
  abbrev IsAllCleared : Event → Reply → State → Type 0
  IsAllCleared e r new =
      (index : ℕ) (sub after : Subchannel) → slice_get s.subs index ≡ Some sub → slice_get new.subs index ≡ Some after → IsClearing s e r index sub →
      after.state.serials.cleared ≡ sub.state.serials.made

  -- the subchannel that the instruction names was found and changed, where it was so
  one-cleared : (p : Option ℕ) (f : Found) (y : Subchannel) (new : State) (index : ℕ) (sub after : Subchannel) → p ≡ Some f.index →
      slice_get s.subs f.index ≡ Some f.sub → new.subs ≡ slice_set s.subs f.index y → (f.sub ≡ sub → y.state.serials.cleared ≡ f.sub.state.serials.made) →
      slice_get s.subs index ≡ Some sub → slice_get new.subs index ≡ Some after → p ≡ Some index → after.state.serials.cleared ≡ sub.state.serials.made
  one-cleared p f y new index sub after found was subs clears there left at =
      let same : f.index ≡ index = same_Some f.index index (sym found ∙ at) in
      let sub-same : f.sub ≡ sub = same_Some f.sub sub (sym was ∙ ap (λ (i : ℕ). slice_get s.subs i) same ∙ there) in
      let new-same : y ≡ after =
      same_Some y after
      (sym (get-set s.subs f.index f.sub y was) ∙ ap (λ (i : ℕ). slice_get (slice_set s.subs f.index y) i) same
      ∙ ap (λ (xs : List Subchannel). slice_get xs index) (sym subs) ∙ left) in
      ap (λ (x : Subchannel). x.state.serials.cleared) (sym new-same) ∙ clears sub-same ∙ ap (λ (x : Subchannel). x.state.serials.made) sub-same

  -- with code 0, of the subchannel that is named
  abbrev IsZeroAt : ConditionCode → ℕ → ℕ → Type 0
  IsZeroAt c word index = (c ≡ code.Zero) × (index_of s word ≡ Some index)

  test-zero : (cpu word address : ℕ) (c : ConditionCode) (before after : SubchannelState) (index : ℕ) (sub : Subchannel) →
      IsClearing s (event.Execute cpu (instruction.Tsch word address)) (reply_of (instruction.Tsch word address) c before after) index sub → IsZeroAt c word index
  test-zero cpu word address code.Zero before after index sub k = (refl, k)
  test-zero cpu word address c before after index sub k = absurd k

  clear-zero : (cpu word : ℕ) (c : ConditionCode) (before after : SubchannelState) (index : ℕ) (sub : Subchannel) →
      IsClearing s (event.Execute cpu (instruction.Csch word)) (reply_of (instruction.Csch word) c before after) index sub → IsZeroAt c word index
  clear-zero cpu word code.Zero before after index sub k = (refl, k)
  clear-zero cpu word c before after index sub k = absurd k

  halt-zero : (cpu word : ℕ) (c : ConditionCode) (before after : SubchannelState) (index : ℕ) (sub : Subchannel) →
      IsClearing s (event.Execute cpu (instruction.Hsch word)) (reply_of (instruction.Hsch word) c before after) index sub →
      IsZeroAt c word index × (drops_status sub.state.scsw ≡ true)
  halt-zero cpu word code.Zero before after index sub k = ((refl, k.0), k.1)
  halt-zero cpu word c before after index sub k = absurd k

  -- so its effect is left
  effect-cleared : (i : Instruction) (sub : Subchannel) (effect x : SubchannelState) → code_for i sub ≡ code.Zero → effect ≡ x → x.serials.cleared ≡ sub.state.serials.made →
      (state_left i sub effect).serials.cleared ≡ sub.state.serials.made
  effect-cleared i sub effect x zero is clears =
      ap (λ (c : ConditionCode). (left_by c sub.state effect).serials.cleared) zero ∙ ap (λ (y : SubchannelState). y.serials.cleared) is ∙ clears

  left-cleared : (cpu : ℕ) (i : Instruction) (f : Found) (r : Reply) (new : State) → index_of s (subchannel_word i) ≡ Some f.index → slice_get s.subs f.index ≡ Some f.sub →
      IsLeft s i r new f → IsAllCleared (event.Execute cpu i) r new
  left-cleared cpu (instruction.Tsch word address) f r new at was k index sub after there left is =
      let i : Instruction = instruction.Tsch word address in
      let zero : IsZeroAt (code_for i f.sub) word index =
      test-zero cpu word address (code_for i f.sub) f.sub.state (state_left i f.sub k.effect) index sub (subst (λ (x : Reply). IsClearing s (event.Execute cpu i) x index sub) k.replies is) in
      one-cleared (index_of s word) f _ new index sub after at was k.subs
      (λ same. effect-cleared i f.sub k.effect _ zero.0 k.is (wholly-cleared f.sub.state (ends_suspended f.sub.state.scsw))) there left zero.1
  left-cleared cpu (instruction.Csch word) f r new at was k index sub after there left is =
      let i : Instruction = instruction.Csch word in
      let zero : IsZeroAt (code_for i f.sub) word index =
      clear-zero cpu word (code_for i f.sub) f.sub.state (state_left i f.sub k.effect) index sub (subst (λ (x : Reply). IsClearing s (event.Execute cpu i) x index sub) k.replies is) in
      one-cleared (index_of s word) f _ new index sub after at was k.subs (λ same. effect-cleared i f.sub k.effect (cleared f.sub.state) zero.0 k.is refl) there left zero.1
  left-cleared cpu (instruction.Hsch word) f r new at was k index sub after there left is =
      let i : Instruction = instruction.Hsch word in
      let zero : IsZeroAt (code_for i f.sub) word index × (drops_status sub.state.scsw ≡ true) =
      halt-zero cpu word (code_for i f.sub) f.sub.state (state_left i f.sub k.effect) index sub (subst (λ (x : Reply). IsClearing s (event.Execute cpu i) x index sub) k.replies is) in
      one-cleared (index_of s word) f _ new index sub after at was k.subs
      (λ same. effect-cleared i f.sub k.effect _ zero.0.0 k.is
      (dropped-cleared f.sub.state (drops_status f.sub.state.scsw) (ap (λ (x : Subchannel). drops_status x.state.scsw) same ∙ zero.1))) there left zero.0.1
  left-cleared cpu i f r new at was k index sub after there left is = absurd is

  -- an instruction that found nothing answers code 3
  absent-cleared : (cpu : ℕ) (i : Instruction) (index : ℕ) (sub : Subchannel) → IsClearing s (event.Execute cpu i) (absent_reply i) index sub → ⊥
  absent-cleared cpu (instruction.Ssch word address) index sub k = k
  absent-cleared cpu i index sub k = k

  executed-cleared : (cpu : ℕ) (i : Instruction) (id : SubchannelId) (q : Option Found) (r : Reply) (new : State) → subchannel_named s.sets (subchannel_word i) ≡ Some id →
      found_at s.subs (index_in id s.subs) ≡ q → IsDone s i q r new → IsAllCleared (event.Execute cpu i) r new
  executed-cleared cpu i id None r new n e k index sub after there left is =
      absurd (absent-cleared cpu i index sub (subst (λ (x : Reply). IsClearing s (event.Execute cpu i) x index sub) k.replies is))
  executed-cleared cpu i id (Some f) r new n e k index sub after was left is =
      let there : (index_in id s.subs ≡ Some f.index) × (slice_get s.subs f.index ≡ Some f.sub) = found-there s.subs (index_in id s.subs) f e in
      left-cleared cpu i f r new (ap (index_of_id s.subs) n ∙ there.0) there.1 k index sub after was left is

  system-cleared : IsAllCleared event.SystemReset reply.Done (reset_system s)
  system-cleared index sub after there left k =
      let got : (x : Subchannel) × (slice_get s.subs index ≡ Some x) × (swept sweep.SystemReset x ≡ after) =
      map-get (swept sweep.SystemReset) s.subs index after left in
      ap (λ (x : Subchannel). x.state.serials.cleared) (sym got.2)
      ∙ ap (λ (x : Subchannel). x.state.serials.made) (same_Some got.0 sub (sym got.1 ∙ there))

  turn-cleared : (e : Event) (r : Reply) (new : State) → ResultOf s e r new → IsAllCleared e r new
  turn-cleared _ _ _ (turn.Executes cpu i id q r storage subs n e blocks left done) = executed-cleared cpu i id q r _ n e done
  turn-cleared _ _ _ (turn.Chosen word index sub choice t named there is ok) = λ index sub after there left k. absurd k
  turn-cleared _ _ _ (turn.Meets word path index sub t named there ok) = λ index sub after there left k. absurd k
  turn-cleared _ _ _ (turn.Takes word path index sub u t named there found ok) = λ index sub after there left k. absurd k
  turn-cleared _ _ _ (turn.Reports at index sub u report t found first there ok) = λ index sub after there left k. absurd k
  turn-cleared _ _ _ (turn.Acts at index sub u what side t found is first there ok) = λ index sub after there left k. absurd k
  turn-cleared _ _ _ turn.ResetsAll = system-cleared
  turn-cleared _ _ _ t = λ index sub after there left k. absurd k

  pub clears-by-cause : (e : Event) (r : Reply) (new : State) → Walked s e r new → Step s e r new → ClearsByCause s e r new
  clears-by-cause e r new w step index sub after there left =
      let is : HasResult s e r new = step-turn s e r new step in
      let all : IsAllCleared e r new = subst (IsAllCleared e r) (sym is.settles) (turn-cleared e r is.left is.turn) in
      ((step-follows s e r new w index sub after there left).clears, all index sub after there left)
