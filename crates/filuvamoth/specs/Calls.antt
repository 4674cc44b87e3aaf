-- What a call does to the machine behind a handle (own).
use Rattle.std.specs.Prelude.{◌≡◌, ℕ, ℤ, pos, nat_lt, nat_le, ◌==◌, ◌&&◌, Bool, List, [], Option, None, Some, Result, length, if◌then◌else◌}
use Rattle.chan_model.specs.declared.fault.Fault.{Fault}
use Rattle.chan_events.specs.Events.{Event}
use Rattle.chan_events.specs.Replies.{PlainReply}
use Rattle.chan_events.specs.declared.event.Event.TheVariants as event
use Rattle.chan_events.specs.declared.event.OtherInstruction.TheVariants as other
use Rattle.channel_config.specs.declared.parts.ConcurrentSense.{ConcurrentSense}
use Rattle.channel_config.specs.declared.parts.ConcurrentSense.TheVariants.{Dropped, Kept}
use Rattle.channel_config.specs.declared.parts.PathReturn.{PathReturn}
use Rattle.channel_config.specs.declared.parts.PathReturn.TheVariants.{Available, Initialized}
use Rattle.channel_subsystem.specs.declared.keeping.Keeping.{Keeping}
use Rattle.channel_subsystem.specs.declared.keeping.Keeping.TheVariants.{LastEntry, AllEntries}
use Rattle.io_step.specs.declared.by_value.ByValue.{ByValue}
use Rattle.io_step.specs.declared.by_value.ByValue.TheVariants as given
use Rattle.io_step.specs.declared.by_value.OtherByValue.{OtherByValue}
use Rattle.machine_model.specs.State.{State}
use Rattle.channel_config.specs.Setup.{no_setup}
use Rattle.host_machine.specs.Answers.{bad_argument, below, no_memory}
use Rattle.host_machine.specs.Given.{Gives, GivesOther}
use Rattle.host_machine.specs.Histories.{Forgets}
use Rattle.host_machine.specs.Hosts.{Performs, SetsUp, Starts, Stays}
use Rattle.host_machine.specs.Lines as lines
use Rattle.host_machine.specs.Looks.{ShowsFound}
use Rattle.host_machine.specs.Settings.{set}
use Rattle.host_machine.specs.Works.{TurnsSubchannel, TurnsUnit}
use Rattle.host_machine.specs.declared.host_machine.HostMachine.{HostMachine}
use Rattle.host_machine.specs.declared.host_machine.HostMachine.TheVariants.{SettingUp}
use Rattle.host_machine.specs.declared.setting_up.HostSetting.{HostSetting}

-- the handle is closed, or open already
abbrev pub closed : ℕ
closed = 2

abbrev pub already_open : ℕ
already_open = 3

-- a closed handle is opened on a machine of which nothing is set up, or there is no memory; an open one stays
abbrev pub OpensAt : Option HostMachine → ℤ → Option HostMachine → Type 0
OpensAt None number (Some new) = (number ≡ pos 0) × (new ≡ SettingUp no_setup)
OpensAt None number None = number ≡ below no_memory
OpensAt (Some old) number new = Stays (Some old) new number (below already_open)

-- an open handle is closed
abbrev pub ClosesAt : Option HostMachine → ℤ → Option HostMachine → Type 0
ClosesAt (Some old) number new = (number ≡ pos 0) × (new ≡ None)
ClosesAt None number new = Stays None new number (below closed)

-- what is done to a machine where the handle is open; a closed handle stays closed, and so does what is lent to the call
abbrev pub WhereOpen : (HostMachine → ℤ → HostMachine → Type 0) → Type 0 → Option HostMachine → ℤ → Option HostMachine → Type 0
WhereOpen does lent_stays (Some old) number (Some new) = does old number new
WhereOpen does lent_stays (Some old) number None = ⊥
WhereOpen does lent_stays None number new = Stays None new number (below closed) × lent_stays

-- what is done where the arguments are good; else all stays as it is
abbrev pub WhereGood : Bool → Type 0 → Type 0 → Option HostMachine → ℤ → Option HostMachine → Type 0
WhereGood Bool.true does lent_stays old number new = does
WhereGood Bool.false does lent_stays old number new = Stays old new number (below bad_argument) × lent_stays

abbrev pub PerformsAt : Option HostMachine → (bytes keys : List ℕ) → Event → ℤ → Option HostMachine → (after left : List ℕ) → Type 0
PerformsAt old bytes keys e number new after left =
    WhereOpen (λ before answered now. Performs before bytes keys e answered now after left) ((after ≡ bytes) × (left ≡ keys)) old number new

-- an event of a CPU, of 16
abbrev pub ExecutesAt : Option HostMachine → (bytes keys : List ℕ) → ℕ → Event → ℤ → Option HostMachine → (after left : List ℕ) → Type 0
ExecutesAt old bytes keys cpu e number new after left =
    WhereGood (nat_lt cpu 16) (PerformsAt old bytes keys e number new after left) ((after ≡ bytes) × (left ≡ keys)) old number new

-- TEST PENDING INTERRUPTION, with a mask of a byte
abbrev pub TestsAt : Option HostMachine → (bytes keys : List ℕ) → (cpu mask address : ℕ) → ℤ → Option HostMachine → (after left : List ℕ) → Type 0
TestsAt old bytes keys cpu mask address number new after left =
    WhereGood (nat_le mask 0xFF) (ExecutesAt old bytes keys cpu (event.ExecuteOther cpu (other.Tpi mask address)) number new after left) ((after ≡ bytes) × (left ≡ keys)) old number new

abbrev pub SetsUpAt : Option HostMachine → HostSetting → ℤ → Option HostMachine → Type 0
SetsUpAt old setting number new = WhereOpen (λ before answered now. SetsUp before (λ s. set s setting) answered now) (Unit {0}) old number new

abbrev pub GivesAt : Option HostMachine → (cpu word : ℕ) → ByValue → ℤ → Option HostMachine → (room left : List ℕ) → Type 0
GivesAt old cpu word i number new room left = WhereOpen (λ before answered now. Gives before cpu word i answered now room left) (left ≡ room) old number new

abbrev pub GivesOtherAt : {A : Type 0} → (PlainReply → List A) → Option HostMachine → (cpu : ℕ) → OtherByValue → ℤ → Option HostMachine → (room left : List A) → Type 0
GivesOtherAt told old cpu i number new room left = WhereOpen (λ before answered now. GivesOther told before cpu i answered now room left) (left ≡ room) old number new

-- a CPU of 16, and as many bytes or words as the operand has
abbrev pub is_good : (cpu expected : ℕ) → {A : Type 0} → List A → Bool
is_good cpu expected items = nat_lt cpu 16 && (length items == expected)

abbrev pub StartsAt : Option HostMachine → (cpu word : ℕ) → (orb : List ℕ) → ℤ → Option HostMachine → Type 0
StartsAt old cpu word orb number new = WhereGood (is_good cpu 12 orb) (GivesAt old cpu word (given.Ssch orb) number new [] []) (Unit {0}) old number new

abbrev pub ModifiesAt : Option HostMachine → (cpu word : ℕ) → (schib : List ℕ) → ℤ → Option HostMachine → Type 0
ModifiesAt old cpu word schib number new = WhereGood (is_good cpu 52 schib) (GivesAt old cpu word (given.Msch schib) number new [] []) (Unit {0}) old number new

abbrev pub StoresAt : Option HostMachine → (cpu word : ℕ) → ℤ → Option HostMachine → (room left : List ℕ) → Type 0
StoresAt old cpu word number new room left = WhereGood (is_good cpu 52 room) (GivesAt old cpu word given.Stsch number new room left) (left ≡ room) old number new

abbrev pub ClearsAt : Option HostMachine → (cpu word : ℕ) → ℤ → Option HostMachine → (room left : List ℕ) → Type 0
ClearsAt old cpu word number new room left = WhereGood (is_good cpu 64 room) (GivesAt old cpu word given.Tsch number new room left) (left ≡ room) old number new

-- an instruction that names no subchannel, into so many words or bytes
abbrev pub TellsAt : {A : Type 0} → (PlainReply → List A) → ℕ → Option HostMachine → (cpu : ℕ) → OtherByValue → ℤ → Option HostMachine → (room left : List A) → Type 0
TellsAt told expected old cpu i number new room left = WhereGood (is_good cpu expected room) (GivesOtherAt told old cpu i number new room left) (left ≡ room) old number new

-- turns
abbrev pub TurnsUnitAt : Option HostMachine → (bytes keys : List ℕ) → ℕ → ℤ → Option HostMachine → (after left : List ℕ) → Type 0
TurnsUnitAt old bytes keys at number new after left =
    WhereOpen (λ before answered now. TurnsUnit before bytes keys at answered now after left) ((after ≡ bytes) × (left ≡ keys)) old number new

abbrev pub TurnsSubchannelAt : Option HostMachine → (bytes keys : List ℕ) → ℕ → ℤ → Option HostMachine → (after left : List ℕ) → Type 0
TurnsSubchannelAt old bytes keys word number new after left =
    WhereOpen (λ before answered now. TurnsSubchannel before bytes keys word answered now after left) ((after ≡ bytes) × (left ≡ keys)) old number new

-- what a device answered, where the numbers and bytes are an answer
abbrev pub HandsIn : Option Event → Option HostMachine → (bytes keys : List ℕ) → ℤ → Option HostMachine → (after left : List ℕ) → Type 0
HandsIn None old bytes keys number new after left = Stays old new number (below bad_argument) × ((after ≡ bytes) × (left ≡ keys))
HandsIn (Some e) old bytes keys number new after left = PerformsAt old bytes keys e number new after left

-- a look: the machine stays, and shows this
abbrev pub LooksAt : (HostMachine → ℤ → Type 0) → Type 0 → Option HostMachine → ℤ → Option HostMachine → Type 0
LooksAt shows nothing old number new = WhereOpen (λ before answered now. (now ≡ before) × shows before answered) nothing old number new

-- a look for something that may not be there
abbrev pub FindsAt : {A : Type 0} → (State → Result A Fault) → Option HostMachine → ℤ → Option HostMachine → (told left : A) → Type 0
FindsAt look old number new told left = LooksAt (λ machine answered. ShowsFound look machine answered told left) (left ≡ told) old number new

-- what is kept is let go
abbrev pub ForgetsAt : Option HostMachine → ℤ → Option HostMachine → Type 0
ForgetsAt old number new = WhereOpen (λ before answered now. Forgets before answered now) (Unit {0}) old number new

-- the set-up ends: which entries are kept is said by a number
abbrev pub keeping_numbered : ℕ → Option Keeping
keeping_numbered number = if number == 0 then Some LastEntry else (if number == 1 then Some AllEntries else None)

abbrev pub BeginsBy : Option Keeping → Option HostMachine → (blocks : ℕ) → ℤ → Option HostMachine → Type 0
BeginsBy None old blocks number new = Stays old new number (below bad_argument)
BeginsBy (Some keeping) old blocks number new = WhereOpen (λ before answered now. Starts before blocks keeping answered now) (Unit {0}) old number new

abbrev pub BeginsAt : Option HostMachine → (blocks history : ℕ) → ℤ → Option HostMachine → Type 0
BeginsAt old blocks history number new = BeginsBy (keeping_numbered history) old blocks number new

-- what SA22-7832 leaves to the model, by a number: 0 is what is so where nothing is said
abbrev pub sense_numbered : ℕ → ConcurrentSense
sense_numbered kept = if kept == 0 then Dropped else Kept

abbrev pub return_numbered : ℕ → PathReturn
return_numbered initialized = if initialized == 0 then Available else Initialized

-- a line of a script
abbrev pub LineAt : List ℕ → Option HostMachine → (bytes keys : List ℕ) → (room : List ℕ) → ℤ → ℕ → Option HostMachine → (after left : List ℕ) → (told : List ℕ) → Type 0
LineAt line old bytes keys room number count new after left told =
    WhereOpen (λ before answered now. lines.Performs line before bytes keys room answered count now after left told)
    (((after ≡ bytes) × (left ≡ keys)) × ((told ≡ room) × (count ≡ 0))) old number new
