-- Condition codes by the status that STORE SUBCHANNEL shows just before (SA22-7832, chapter 14). That a subchannel is enabled stands in
-- another word, and is told by the entries; where none of them tells it, both may be.
use Rattle.std.specs.Prelude.{◌≡◌, ℕ, Bool, true, false, if◌then◌else◌, Option, None, Some, IfSome, option_map, List, ◌∷◌, ◌++◌}
use Rattle.std.specs.List.{list_any}
use Rattle.chan_events.specs.Events.{Event}
use Rattle.chan_events.specs.declared.event.Event.TheVariants as event
use Rattle.chan_events.specs.declared.event.Instruction.{Instruction}
use Rattle.chan_events.specs.declared.event.Instruction.TheVariants as instruction
use Rattle.chan_events.specs.declared.reply.Entry.{Entry}
use Rattle.chan_events.specs.Replies.{Reply}
use Rattle.chan_model.specs.declared.answer.ConditionCode.{ConditionCode}
use Rattle.chan_model.specs.declared.answer.ConditionCode.TheVariants.{Zero, Three}
use Rattle.chan_model.specs.ConditionCodes.{answer_of_code, code_of}
use Rattle.channel_config.specs.declared.names.SubchannelId.{SubchannelId}
use Rattle.channel_config.specs.Setup.{Setup, set_count}
use Rattle.run_laws.specs.CodeSteps.{answer_in}
use Rattle.run_laws.specs.Entries.{seen_through}
use Rattle.chan_events.specs.Instructions.{subchannel_word}
use Rattle.run_laws.specs.CodeTable.{code_due}
use Rattle.run_laws.specs.Shown.{StoredStatus, names, Between}
use Rattle.run_laws.specs.StateClaims.{is_same_id}

-- what the reply to an instruction tells: MODIFY SUBCHANNEL with code 0 may have changed it; START, TEST, RESUME, HALT, CLEAR and CANCEL
-- answer 3 where the subchannel is not enabled
abbrev pub told_by : ConditionCode → Option Bool
told_by Three = Some false
told_by code = Some true

abbrev pub enabled_by : Instruction → ConditionCode → Option Bool → Option Bool
enabled_by (instruction.Enable word subclass multipath) Zero known = Some true
enabled_by (instruction.Enable word subclass multipath) code known = known
enabled_by (instruction.Msch word address) Zero known = None
enabled_by (instruction.Msch word address) code known = known
enabled_by (instruction.Stsch word address) code known = known
enabled_by i code known = told_by code

abbrev pub enabled_with : Instruction → Option ConditionCode → Option Bool → Option Bool
enabled_with i None known = known
enabled_with i (Some code) known = enabled_by i code known

abbrev pub code_in : Reply → Option ConditionCode
code_in r = option_map code_of (answer_in r)

-- whether the subchannel is enabled, where it is known; a reset of the subsystem disables each
abbrev pub enabled_after : ℕ → SubchannelId → Event → Reply → Option Bool → Option Bool
enabled_after sets id (event.Execute cpu i) r known = if names sets id (subchannel_word i) then enabled_with i (code_in r) known else known
enabled_after sets id event.SystemReset r known = Some false
enabled_after sets id e r known = known

-- at the opening it is not enabled
abbrev pub enabled_in : ℕ → SubchannelId → List Entry → Option Bool
enabled_in sets id h = seen_through (enabled_after sets id) (Some false) h

abbrev pub MayBe : Option Bool → Bool → Type 0
MayBe known enabled = IfSome known (λ b. enabled ≡ b)

-- the code is that of the instruction's table for the status before; codes 0 and 1 bring the serials as STORE SUBCHANNEL shows them after
abbrev pub IsCodeRight : ℕ → SubchannelId → Option Bool → StoredStatus → Event → Reply → StoredStatus → Type 0
IsCodeRight sets id known old (event.Execute cpu i) r new = names sets id (subchannel_word i) ≡ true →
    (enabled : Bool) × MayBe known enabled × (answer_in r ≡ Some (answer_of_code (code_due i enabled old.scsw) new.serials))
IsCodeRight sets id known old e r new = Unit {0}

-- of each subchannel
abbrev pub AreCodesRight : ℕ → List Entry → Type 0
AreCodesRight sets h = (id : SubchannelId) → Between sets id h (λ before old e r new. IsCodeRight sets id (enabled_in sets id before) old e r new)

-- the code is 3 where the word names a subchannel that is not configured
abbrev pub is_configured : Setup → SubchannelId → Bool
is_configured setup id = list_any (λ x. is_same_id x.id id) setup.subchannels

abbrev pub IsThree : Setup → Event → Reply → Type 0
IsThree setup (event.Execute cpu i) r = (id : SubchannelId) → names (set_count setup) id (subchannel_word i) ≡ true → is_configured setup id ≡ false → code_in r ≡ Some Three
IsThree setup e r = Unit {0}

abbrev pub AreThree : Setup → List Entry → Type 0
AreThree setup h = (before after : List Entry) (e : Entry) → h ≡ before ++ (e ∷ after) → IsThree setup e.event e.reply
