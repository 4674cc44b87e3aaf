-- The condition codes of the I/O instructions (SA22-7832, chapter 14). The tests are made in the order 3, 1, 2; where none
-- applies the code is 0. Those of the instructions that name no subchannel are here.
use Rattle.std.specs.Prelude.{Bool, false, not, if◌then◌else◌, Option, is_none}
use Rattle.scsw_irb.specs.declared.serials.Serials.{Serials}
use Rattle.chan_model.specs.declared.answer.ConditionCode.{ConditionCode}
use Rattle.chan_model.specs.declared.answer.ConditionCode.TheVariants.{Zero, One, Two, Three}
use Rattle.chan_model.specs.declared.answer.Answer.{Answer}
use Rattle.chan_model.specs.declared.answer.Answer.TheVariants as answer

-- 3 where the subchannel is not operational, otherwise 1, otherwise 2, otherwise 0
abbrev pub in_order : Bool → Bool → Bool → ConditionCode
in_order operational one two = if not operational then Three else (if one then One else (if two then Two else Zero))

-- TEST PENDING INTERRUPTION: 1 a request was found among those whose subclass is enabled
abbrev pub tpi_code : {A : Type 0} → Option A → ConditionCode
tpi_code found = if is_none found then Zero else One

-- RESET CHANNEL PATH: 3 the path is not configured, or down; 2 a reset of it is asked for and not done (own: by path)
abbrev pub rchp_code : Bool → Bool → ConditionCode
rchp_code up asked = in_order up false asked

-- STORE CHANNEL REPORT WORD: 1 no report is queued
abbrev pub stcrw_code : {A : Type 0} → Option A → ConditionCode
stcrw_code report = if is_none report then One else Zero

-- a code with the serials of the subchannel, where it brings them
abbrev pub answer_of_code : ConditionCode → Serials → Answer
answer_of_code Zero serials = answer.Zero serials
answer_of_code One serials = answer.One serials
answer_of_code Two serials = answer.Two
answer_of_code Three serials = answer.Three

abbrev pub code_of : Answer → ConditionCode
code_of (answer.Zero serials) = Zero
code_of (answer.One serials) = One
code_of answer.Two = Two
code_of answer.Three = Three
