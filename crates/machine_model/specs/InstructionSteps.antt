-- The steps in which a CPU executes an I/O instruction (SA22-7832, chapter 14).
use Rattle.std.specs.Prelude.{◌≡◌, ℕ, Bool, true, false, if◌then◌else◌, Option, None, Some, List, [], ◌∷◌, Result, Ok, Err, ◌⊎◌}
use Rattle.zbits.specs.Layout.{image_of}
use Rattle.zbits.specs.Words.{bytes_of_words, word_at}
use Rattle.orb_block.specs.declared.Orb.{Orb}
use Rattle.orb_block.specs.OrbTable.{tables, IsAllowedOrb}
use Rattle.scsw_irb.specs.ScswTable.{irb_tables}
use Rattle.schib_block.specs.declared.pmcw.Pmcw as block
use Rattle.schib_block.specs.declared.schib.Schib.{Schib}
use Rattle.schib_block.specs.Modify as modify
use Rattle.schib_block.specs.SchibTable.{ShowsPmcw, schib_tables}
use Rattle.storage_keys.specs.declared.StorageFault.{StorageFault}
use Rattle.storage_keys.specs.Storage.{operand_at, operand_check, operand_stored}
use Rattle.chan_model.specs.declared.fault.Fault.TheVariants as fault
use Rattle.chan_events.specs.Instructions.{subchannel_word}
use Rattle.chan_events.specs.declared.event.Instruction.{Instruction}
use Rattle.chan_events.specs.declared.event.Instruction.TheVariants as instruction
use Rattle.chan_model.specs.declared.answer.Answer.{Answer}
use Rattle.chan_model.specs.declared.answer.ConditionCode.{ConditionCode}
use Rattle.chan_model.specs.declared.answer.ConditionCode.TheVariants as code
use Rattle.chan_events.specs.declared.reply.Reply.TheVariants as reply
use Rattle.subchannel_model.specs.Start.{ssch_code, started}
use Rattle.subchannel_model.specs.Test.{tsch_code, tested_wholly, irb_of}
use Rattle.subchannel_model.specs.Modify.{msch_code, modified_state}
use Rattle.subchannel_model.specs.Store.{stsch_code, pmcw_of, schib_of}
use Rattle.subchannel_model.specs.Resume.{rsch_code, resumed}
use Rattle.subchannel_model.specs.Halt.{hsch_code, halted}
use Rattle.subchannel_model.specs.Clear.{csch_code, cleared}
use Rattle.subchannel_model.specs.Cancel.{xsch_code, cancelled}
use Rattle.chan_model.specs.ConditionCodes.{answer_of_code}
use Rattle.channel_config.specs.declared.names.SubchannelId.{SubchannelId}
use Rattle.channel_config.specs.SubchannelWords.{subchannel_named}
use Rattle.subchannel_model.specs.declared.state.SubchannelState.{SubchannelState}
use Rattle.subchannel_model.specs.declared.state.Subchannel.{Subchannel}
use Rattle.machine_model.specs.State.{State}
use Rattle.subchannel_model.specs.declared.status.Condition.{Condition}
use Rattle.subchannel_model.specs.Indices.{Found, index_in, found_at}
use Rattle.subchannel_model.specs.Conditions.{condition_of, left_by}
use Rattle.subchannel_model.specs.Enable.{enabling, enabling_schib, enabling_word}
use Rattle.machine_model.specs.Results.{Outcome, does, where_tested, SubResult, leaves, with_state, at_index}

-- an instruction answers the condition code that its table gives for what it finds, with the serials as they are left, and with
-- code 0 its effect is left
abbrev pub code_at : (Condition → ConditionCode) → Subchannel → ConditionCode
code_at code sub = code (condition_of (Some sub.state))

abbrev pub function_sub : Subchannel → ConditionCode → SubchannelState → SubResult
function_sub sub code effect =
    let state = left_by code sub.state effect in leaves (reply.Code (answer_of_code code state.serials)) (with_state sub state)

-- of a subchannel that is not provided nothing is left
abbrev pub not_provided : State → (Condition → ConditionCode) → Outcome
not_provided s code = does (reply.Code (answer_of_code (code (condition_of None)) (record { made = 0; cleared = 0 }))) s

abbrev pub function_at : State → Option Found → (Condition → ConditionCode) → (Subchannel → SubchannelState) → Outcome
function_at s None code effect = not_provided s code
function_at s (Some f) code effect = at_index s f.index (function_sub f.sub (code_at code f.sub) (effect f.sub))

-- where the operand could be fetched, the instruction goes on with it
abbrev pub WhereFetched : Result (List ℕ) StorageFault → (List ℕ → Outcome → Type 0) → Outcome → Type 0
WhereFetched (Err f) P r = r ≡ Err (fault.Storage f)
WhereFetched (Ok image) P r = P image r

-- START: the contents of the ORB are tested before the condition code is
abbrev pub start_at : State → Option Found → Orb → Outcome
start_at s found orb = function_at s found ssch_code (λ sub. started sub.state orb)

abbrev pub Starts_with : State → Option Found → List ℕ → Outcome → Type 0
Starts_with s found image r =
    (¬ IsAllowedOrb image × (r ≡ Err fault.Operand))
    ⊎ ((orb : Orb) × (image ≡ image_of (tables orb)) × (r ≡ start_at s found orb))

abbrev pub PerformsStart : State → Option Found → Result (List ℕ) StorageFault → Outcome → Type 0
PerformsStart s found image r = WhereFetched image (Starts_with s found) r

-- TEST: with code 0 and 1 the IRB is stored, and the reply shows the status word as it was
abbrev pub stores_irb : ConditionCode → Bool
stores_irb code.Zero = true
stores_irb code.One = true
stores_irb other = false

abbrev pub with_irb : State → ℕ → ℕ → Subchannel → Bool → State
with_irb s cpu address sub stores =
    if stores then record s { storage = operand_stored s.storage cpu address (image_of (irb_tables (irb_of sub.state))) } else s

abbrev pub test_with : Subchannel → ConditionCode → SubResult
test_with sub code =
    let state = left_by code sub.state (tested_wholly sub.state) in
    let answer = answer_of_code code state.serials in
    leaves (if stores_irb code then reply.Status answer sub.state.scsw else reply.Code answer) (with_state sub state)

abbrev pub test_sub : State → ℕ → ℕ → Found → ConditionCode → Outcome
test_sub s cpu address f code = at_index (with_irb s cpu address f.sub (stores_irb code)) f.index (test_with f.sub code)

abbrev pub test_at : State → ℕ → ℕ → Option Found → Outcome
test_at s cpu address found = elim found [ None ↦ not_provided s tsch_code | Some f ↦ test_sub s cpu address f (code_at tsch_code f.sub) ]

abbrev pub performs_test : State → ℕ → ℕ → Option Found → Result (Unit {0}) StorageFault → Outcome
performs_test s cpu address found r = where_tested r (test_at s cpu address found)

-- STORE: the SCHIB is stored with code 0, the only code of a subchannel that is provided
abbrev pub with_schib : State → ℕ → ℕ → Schib → State
with_schib s cpu address schib = record s { storage = operand_stored s.storage cpu address (image_of (schib_tables schib)) }

abbrev pub store_answer : Subchannel → Answer
store_answer sub = answer_of_code (code_at stsch_code sub) sub.state.serials

abbrev pub store_at : State → ℕ → ℕ → Option Found → Outcome
store_at s cpu address None = not_provided s stsch_code
store_at s cpu address (Some f) =
    does (reply.Status (store_answer f.sub) f.sub.state.scsw) (with_schib s cpu address (schib_of f.sub))

abbrev pub performs_store : State → ℕ → ℕ → Option Found → Result (Unit {0}) StorageFault → Outcome
performs_store s cpu address found r = where_tested r (store_at s cpu address found)

-- MODIFY: the contents of the SCHIB are tested before the condition code is
abbrev pub modify_sub : Subchannel → block.Pmcw → SubResult
modify_sub sub given = function_sub sub (code_at msch_code sub) (modified_state sub given)

abbrev pub modify_at : State → Option Found → block.Pmcw → Outcome
modify_at s found given = function_at s found msch_code (λ sub. modified_state sub given)

-- of the SCHIB, the path-management-control word counts
abbrev pub Modifies_by : State → Option Found → List ℕ → Outcome → Type 0
Modifies_by s found image r =
    (given : block.Pmcw) × ShowsPmcw image given
    × ((¬ modify.IsAllowedPmcw given × (r ≡ Err fault.Operand))
    ⊎ (modify.IsAllowedPmcw given × (r ≡ modify_at s found given)))

abbrev pub PerformsModify : State → Option Found → Result (List ℕ) StorageFault → Outcome → Type 0
PerformsModify s found image r = WhereFetched image (Modifies_by s found) r

-- enabling: STORE to real F00, which is in every storage; ISC, D and E one are placed there; MODIFY from F00 (own).
-- The SCHIB that STORE stored has what MODIFY allows.
abbrev pub enable_sub : State → ℕ → Found → ℕ → Bool → Outcome
enable_sub s cpu f subclass multipath =
    at_index (with_schib s cpu 0xF00 (enabling_schib f.sub subclass multipath)) f.index (modify_sub f.sub (enabling (pmcw_of f.sub) subclass multipath))

-- where nothing was stored, they are placed in the word that stands at F04, and MODIFY tests what stands at F00
abbrev pub with_enabling : State → ℕ → List ℕ → ℕ → Bool → State
with_enabling s cpu image subclass multipath =
    record s { storage = operand_stored s.storage cpu 0xF04 (bytes_of_words (enabling_word (word_at image 1) subclass multipath ∷ [])) }

abbrev pub Enables_with : State → ℕ → Option Found → ℕ → Bool → List ℕ → Outcome → Type 0
Enables_with s cpu None subclass multipath image r = Modifies_by (with_enabling s cpu image subclass multipath) None image r
Enables_with s cpu (Some f) subclass multipath image r = r ≡ enable_sub s cpu f subclass multipath

abbrev pub PerformsEnable : State → ℕ → Option Found → ℕ → Bool → Result (List ℕ) StorageFault → Outcome → Type 0
PerformsEnable s cpu found subclass multipath image r = WhereFetched image (Enables_with s cpu found subclass multipath) r

-- the tests of an instruction: general register 1, alignment, addressing, contents, condition code
abbrev pub Executes_at : State → ℕ → Instruction → Option Found → Outcome → Type 0
Executes_at s cpu (instruction.Ssch word address) found r = PerformsStart s found (operand_at s.storage cpu address 12 4) r
Executes_at s cpu (instruction.Tsch word address) found r =
    r ≡ performs_test s cpu address found (operand_check s.storage cpu address 64 4)
Executes_at s cpu (instruction.Stsch word address) found r =
    r ≡ performs_store s cpu address found (operand_check s.storage cpu address 52 4)
Executes_at s cpu (instruction.Msch word address) found r = PerformsModify s found (operand_at s.storage cpu address 52 4) r
Executes_at s cpu (instruction.Enable word subclass multipath) found r =
    PerformsEnable s cpu found subclass multipath (operand_at s.storage cpu 0xF00 52 4) r
Executes_at s cpu (instruction.Rsch word) found r = r ≡ function_at s found rsch_code (λ sub. resumed sub.state)
Executes_at s cpu (instruction.Hsch word) found r = r ≡ function_at s found hsch_code (λ sub. halted sub.state)
Executes_at s cpu (instruction.Csch word) found r = r ≡ function_at s found csch_code (λ sub. cleared sub.state)
Executes_at s cpu (instruction.Xsch word) found r = r ≡ function_at s found xsch_code (λ sub. cancelled sub.state)

-- a word that names no subchannel is an operand exception
abbrev pub Executes_on : State → ℕ → Instruction → Option SubchannelId → Outcome → Type 0
Executes_on s cpu i named r = elim named [ None ↦ r ≡ Err fault.Operand | Some id ↦ Executes_at s cpu i (found_at s.subs (index_in id s.subs)) r ]

abbrev pub Executes : State → ℕ → Instruction → Outcome → Type 0
Executes s cpu i r = Executes_on s cpu i (subchannel_named s.sets (subchannel_word i)) r
