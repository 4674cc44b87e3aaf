-- A channel subsystem as a host has it that has numbers, bytes and their lengths alone (own): first it is set up, then it runs.
use Rattle.std.specs.Prelude.{◌≡◌, ◌⊎◌, ℕ, ℤ, pos, ◌*◌, ◌==◌, ◌&&◌, ◌||◌, Bool, List, [], ◌∷◌, length, replicate, unwrap_or, if◌then◌else◌, Result, Ok, Err}
use Rattle.storage_keys.specs.Storage.{Contents, cleared_storage, lent_contents}
use Rattle.chan_events.specs.Events.{Event}
use Rattle.chan_events.specs.Replies.{Reply}
use Rattle.channel_config.specs.declared.config.ConfigRule.{ConfigRule}
use Rattle.channel_config.specs.Lawful.{hosted}
use Rattle.channel_config.specs.Setup.{Setup}
use Rattle.channel_subsystem.specs.Hosting.{IsHostSize, IsHostStep, Leads}
use Rattle.channel_subsystem.specs.declared.host_fault.HostFault.{HostFault}
use Rattle.channel_subsystem.specs.declared.host_fault.HostFault.TheVariants as host_fault
use Rattle.channel_subsystem.specs.declared.keeping.Keeping.{Keeping}
use Rattle.machine_model.specs.Setups.{IsSetUp}
use Rattle.machine_model.specs.State.{lent}
use Rattle.path_select.specs.Choice.{TakesNext}
use Rattle.host_machine.specs.Machines.{Running}
use Rattle.host_machine.specs.Answers.{answer_number, at_other_stage, bad_argument, below, no_memory, rule_size}
use Rattle.host_machine.specs.declared.host_machine.HostMachine.{HostMachine}
use Rattle.host_machine.specs.declared.host_machine.HostMachine.TheVariants.{SettingUp, Runs}

-- what storage holds where these bytes and keys are lent to a call: where no keys are, those of the machine count
abbrev pub keys_at : Running → List ℕ → List ℕ
keys_at r [] = r.keys
keys_at r (key ∷ keys) = key ∷ keys

abbrev pub storage_at : Running → List ℕ → List ℕ → Contents
storage_at r bytes keys = lent_contents bytes (keys_at r keys) r.prefixes

-- so many bytes are as many blocks of 4,096 as the machine was started with, and there is a key for each of them, or none
abbrev pub is_lent : Running → (bytes keys : ℕ) → Bool
is_lent r bytes keys = (bytes == 4096 * r.subsystem.blocks) && ((keys == 0) || (keys == r.subsystem.blocks))

-- nothing is changed, and this is answered
abbrev pub Stays : {A : Type 0} → (old new : A) → (number expected : ℤ) → Type 0
Stays old new number expected = (number ≡ expected) × (new ≡ old)

-- a machine that runs enters an event on what storage holds at the call: it steps or refuses; where storage is of another size nothing
-- is changed
abbrev pub AnswersLent : Bool → Running → (bytes keys : List ℕ) → Event → Result Reply HostFault → Running → (after left : List ℕ) → Type 0
AnswersLent Bool.true old bytes keys e answer new after left =
    IsHostStep TakesNext old.subsystem (storage_at old bytes keys) e answer new.subsystem (storage_at new after left)
AnswersLent Bool.false old bytes keys e answer new after left = (answer ≡ Err host_fault.OtherSize) × ((new ≡ old) × ((after ≡ bytes) × (left ≡ keys)))

abbrev pub Answers : Running → (bytes keys : List ℕ) → Event → Result Reply HostFault → Running → (after left : List ℕ) → Type 0
Answers old bytes keys e answer new after left = AnswersLent (is_lent old (length bytes) (length keys)) old bytes keys e answer new after left

-- the same, answered by its number
abbrev pub Enters : Running → (bytes keys : List ℕ) → Event → ℤ → Running → (after left : List ℕ) → Type 0
Enters old bytes keys e number new after left =
    (answer : Result Reply HostFault) × (number ≡ answer_number answer) × Answers old bytes keys e answer new after left

-- what a machine does where it runs; one that is set up stays as it is, and so does what is lent to the call
abbrev pub WhereItRuns : (Running → ℤ → Running → Type 0) → Type 0 → HostMachine → ℤ → HostMachine → Type 0
WhereItRuns does lent_stays (Runs old) number (Runs new) = does old number new
WhereItRuns does lent_stays (Runs old) number (SettingUp setup) = ⊥
WhereItRuns does lent_stays (SettingUp setup) number new = Stays (SettingUp setup) new number (below at_other_stage) × lent_stays

abbrev pub Performs : HostMachine → (bytes keys : List ℕ) → Event → ℤ → HostMachine → (after left : List ℕ) → Type 0
Performs old bytes keys e number new after left =
    WhereItRuns (λ before answered now. Enters before bytes keys e answered now after left) ((after ≡ bytes) × (left ≡ keys)) old number new

-- a set-up becomes the one that is made, or is refused for want of memory or by the rule that is broken, and stays
abbrev pub SetsUpBy : Setup → Result Setup ConfigRule → ℤ → Setup → Type 0
SetsUpBy old (Ok made) number new = ((number ≡ pos 0) × (new ≡ made)) ⊎ Stays old new number (below no_memory)
SetsUpBy old (Err broken) number new = Stays old new number (below (rule_size broken)) ⊎ Stays old new number (below no_memory)

abbrev pub SetsUp : HostMachine → (Setup → Result Setup ConfigRule) → ℤ → HostMachine → Type 0
SetsUp (SettingUp old) made number (SettingUp new) = SetsUpBy old (made old) number new
SetsUp (SettingUp old) made number (Runs running) = ⊥
SetsUp (Runs running) made number new = Stays (Runs running) new number (below at_other_stage)

-- it begins to run at the opening of its set-up, for storage of so many blocks, with keys and prefixes of zero
pub record IsStarted (setup : Setup) (blocks : ℕ) (keeping : Keeping) (r : Running) : Type 0 where
  pub leads : Leads [] r.subsystem (cleared_storage blocks)
  pub set_up : IsSetUp (hosted setup blocks) (lent r.subsystem.machine (cleared_storage blocks))
  pub of_size : r.subsystem.blocks ≡ blocks
  pub keeps : r.subsystem.keeping ≡ keeping
  pub keys : r.keys ≡ replicate blocks 0
  pub prefixes : r.prefixes ≡ replicate 16 0

-- 0 blocks are as many as the set-up says of storage, where it says so
abbrev pub blocks_of : Setup → ℕ → ℕ
blocks_of setup blocks = if blocks == 0 then unwrap_or setup.blocks 0 else blocks

abbrev pub Starts : HostMachine → (blocks : ℕ) → Keeping → ℤ → HostMachine → Type 0
Starts (SettingUp setup) blocks keeping number (Runs r) = (number ≡ pos 0) × IsStarted setup (blocks_of setup blocks) keeping r
Starts (SettingUp setup) blocks keeping number (SettingUp other) = (other ≡ setup) × ((number ≡ below no_memory) ⊎ ((number ≡ below bad_argument) × (¬ IsHostSize (blocks_of setup blocks))))
Starts (Runs r) blocks keeping number new = Stays (Runs r) new number (below at_other_stage)
