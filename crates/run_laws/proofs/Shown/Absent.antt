-- An instruction whose word names a subchannel that is not configured answers 3.
use Rattle.std.proofs.Common.{◌≡◌, refl, ◌∙◌, ap, subst, ℕ, ◌==◌, ◌&&◌, ◌||◌, Bool, true, false, Option, None, Some, List, [], ◌∷◌, map}
use Rattle.std.specs.Prelude.{if◌then◌else◌}
use Rattle.std.specs.List.{list_any}
use Rattle.chan_events.specs.Events.{Event}
use Rattle.chan_events.specs.declared.event.Event.TheVariants as event
use Rattle.chan_events.specs.declared.event.Instruction.{Instruction}
use Rattle.chan_events.specs.declared.event.Instruction.TheVariants as instruction
use Rattle.chan_events.specs.declared.reply.Entry.{Entry}
use Rattle.chan_events.specs.Replies.{Reply}
use Rattle.chan_events.specs.declared.reply.Reply.TheVariants as reply
use Rattle.chan_model.specs.declared.answer.ConditionCode.TheVariants.{Three}
use Rattle.chan_model.specs.ConditionCodes.{answer_of_code}
use Rattle.channel_config.specs.declared.names.SubchannelId.{SubchannelId}
use Rattle.channel_config.specs.declared.parts.SubchannelSetup.{SubchannelSetup}
use Rattle.channel_config.specs.Setup.{Setup}
use Rattle.step_laws.specs.Codes.{code_by}
use Rattle.run_laws.specs.StateClaims.{is_id}
use Rattle.chan_events.specs.Instructions.{subchannel_word}
use Rattle.machine_model.specs.State.{State, opening_of}
use Rattle.machine_model.specs.Steps.{Run, Opened, Stepped, Step}
use Rattle.subchannel_model.specs.Conditions.{condition_of}
use Rattle.subchannel_model.specs.Opening.{opened}
use Rattle.subchannel_model.specs.Indices.{Found, found_at, first_index, index_in, one_later}
use Rattle.run_laws.specs.Codes.{code_in, IsThree, AreThree}
use Rattle.run_laws.specs.Shown.{names}
use Rattle.step_laws.proofs.Executed.{IsDone}
use Rattle.run_laws.proofs.Shown.Executed.{IsExecuted, executed}
use Rattle.run_laws.proofs.Machine.Names.{same-id}
use Rattle.run_laws.proofs.Shown.Runs.{AreLaws, IsPassed, passed, index-by, sets-stay}

none-first : (test : SubchannelSetup → Bool) (xs : List SubchannelSetup) → list_any test xs ≡ false → first_index test xs ≡ None
none-first test [] e = refl
none-first test (x ∷ xs) e = by (test x) (list_any test xs) e (none-first test xs)
  where
    by : (b c : Bool) → (b || c) ≡ false → (c ≡ false → first_index test xs ≡ None) → (if b then Some 0 else one_later (first_index test xs)) ≡ None
    by true c h f = absurd (cc h)
    by false c h f = ap one_later (f h)

opened-setups : (xs : List SubchannelSetup) → map (λ sub. sub.setup) (map opened xs) ≡ xs
opened-setups [] = refl
opened-setups (x ∷ xs) = ap (λ (ys : List SubchannelSetup). x ∷ ys) (opened-setups xs)

pub setups-stay : AreLaws → (setup : Setup) (h : List Entry) (s : State) → Run (opening_of setup) h s → map (λ sub. sub.setup) s.subs ≡ setup.subchannels
setups-stay laws setup _ _ Opened = opened-setups setup.subchannels
setups-stay laws setup _ _ (Stepped h old e r new run step) = laws.setups old e r new step ∙ setups-stay laws setup h old run

absent-code : (i : Instruction) → code_in (reply.Code (answer_of_code (code_by i (condition_of None)) (record { made = 0; cleared = 0 }))) ≡ Some Three
absent-code (instruction.Ssch word address) = refl
absent-code i = refl

done-three : (s : State) (i : Instruction) (r : Reply) (new : State) (q : Option Found) → q ≡ None → IsDone s i q r new → code_in r ≡ Some Three
done-three s i r new None e done = ap code_in done.replies ∙ absent-code i
done-three s i r new (Some f) e done = absurd (cc e)

step-three : AreLaws → (setup : Setup) (h : List Entry) (s : State) (e : Event) (r : Reply) (new : State) → Run (opening_of setup) h s → Step s e r new → IsThree setup e r
step-three laws setup h s (event.Execute cpu i) r new run step = λ id named not.
    let k : IsExecuted s i r new = executed s cpu i r new step in
    let mine : names s.sets id (subchannel_word i) ≡ true = ap (λ (n : ℕ). names n id (subchannel_word i)) (sets-stay laws setup h s run) ∙ named in
    let same : k.id ≡ id = same-id k.id id (subst (λ (x : Option SubchannelId). is_id x id ≡ true) k.named mine) in
    let none : index_in id s.subs ≡ None =
    index-by id s.subs
    ∙ ap (λ (xs : List SubchannelSetup). first_index (λ (x : SubchannelSetup). (x.id.set == id.set) && (x.id.number == id.number)) xs) (setups-stay laws setup h s run)
    ∙ none-first (λ (x : SubchannelSetup). (x.id.set == id.set) && (x.id.number == id.number)) setup.subchannels not in
    done-three s i r new (found_at s.subs (index_in k.id s.subs))
    (ap (λ (x : SubchannelId). found_at s.subs (index_in x s.subs)) same ∙ ap (found_at s.subs) none) k.done
step-three laws setup h s e r new run step = tt

pub run-three : AreLaws → (setup : Setup) (h : List Entry) (s : State) → Run (opening_of setup) h s → AreThree setup h
run-three laws setup h s run before after e eq =
    let k : IsPassed (opening_of setup) before e after s = passed (opening_of setup) s before after e (subst (λ (x : List Entry). Run (opening_of setup) x s) eq run) in
    step-three laws setup before k.was e.event e.reply k.is k.run k.step
