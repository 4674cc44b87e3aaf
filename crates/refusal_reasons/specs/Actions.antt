-- What an action names: a subchannel, a unit, a channel path, a wire, an address of storage, or an operand.
use Rattle.std.specs.Prelude.{◌≡◌, ℕ, Bool, true, false, nat_lt, if◌then◌else◌, List, Option, None, Some, option_and_then, Ok}
use Rattle.chan_events.specs.Instructions.{subchannel_word}
use Rattle.chan_events.specs.declared.event.Event.TheVariants as event
use Rattle.chan_events.specs.declared.event.Instruction.{Instruction}
use Rattle.chan_events.specs.declared.event.Instruction.TheVariants as instruction
use Rattle.chan_events.specs.declared.event.OtherInstruction.{OtherInstruction}
use Rattle.chan_events.specs.declared.event.OtherInstruction.TheVariants as other_instruction
use Rattle.chan_events.specs.declared.event.UnitAct.{UnitAct}
use Rattle.chan_events.specs.declared.event.UnitAct.TheVariants as act
use Rattle.chan_model.specs.declared.names.Side.{Side}
use Rattle.script_rows.specs.declared.Action.{Action}
use Rattle.script_rows.specs.declared.Action.TheVariants as action
use Rattle.step_records.specs.Named.{index_of}
use Rattle.step_records.specs.declared.parties.Parties.{Parties}
use Rattle.step_records.specs.declared.record.Way.{Way}
use Rattle.step_records.specs.declared.record.Way.TheVariants as way
use Rattle.step_records.specs.declared.record.Wire.{Wire}
use Rattle.step_records.specs.declared.refusal.Boundary.{Boundary}
use Rattle.step_records.specs.declared.refusal.Boundary.TheVariants as boundary
use Rattle.step_records.specs.declared.refusal.PathRefusal.{PathRefusal}
use Rattle.step_records.specs.declared.refusal.PathRefusal.TheVariants as path_refusal
use Rattle.storage_keys.specs.Storage.{Contents, operand_at}

-- the word of the subchannel that the instruction of an action names
abbrev pub word_instructed : Action → Option ℕ
word_instructed (action.Event (event.Execute cpu i)) = Some (subchannel_word i)
word_instructed other = None

-- the word of the subchannel that an action names
abbrev pub word_named : Action → Option ℕ
word_named (action.Event (event.Execute cpu i)) = Some (subchannel_word i)
word_named (action.Event (event.Choose word)) = Some word
word_named (action.Event (event.Up word path)) = Some word
word_named (action.Event (event.Down word path)) = Some word
word_named (action.Glance word) = Some word
word_named other = None

-- the index of the subchannel that an action names, where it is there
abbrev pub index_named : Parties → Action → Option ℕ
index_named parties asked = option_and_then (index_of parties.subchannels.items) (word_named asked)

-- the wire of a path of a subchannel that is there, where a subchannel can have that path
abbrev pub wire_at : Option ℕ → ℕ → Way → Option Wire
wire_at None path on = None
wire_at (Some index) path on = if nat_lt path 8 then Some (record { subchannel = index; path = path; way = on }) else None

-- the wire that an action takes a signal off, where it is there
abbrev pub wire_named : Parties → Action → Option Wire
wire_named parties (action.Event (event.Down word path)) = wire_at (index_of parties.subchannels.items word) path way.Down
wire_named parties (action.Event (event.Up word path)) = wire_at (index_of parties.subchannels.items word) path way.Up
wire_named parties other = None

-- the number of the unit that an action names
abbrev pub unit_named : Action → Option ℕ
unit_named (action.Dev number) = Some number
unit_named (action.Event (event.Report number report)) = Some number
unit_named (action.Event (event.Act number what)) = Some number
unit_named (action.Event (event.Restart number)) = Some number
unit_named other = None

-- the number of the unit that is to act: its device has a turn, or it acts of itself
abbrev pub unit_acting : Action → Option ℕ
unit_acting (action.Dev number) = Some number
unit_acting (action.Event (event.Act number what)) = Some number
unit_acting other = None

-- what it is to do of itself
abbrev pub act_named : Action → Option UnitAct
act_named (action.Event (event.Act number what)) = Some what
act_named other = None

-- the side of its unit that an act names
abbrev pub side_named : Option UnitAct → Option Side
side_named (Some (act.Attention path side)) = Some side
side_named (Some (act.Notice path side)) = Some side
side_named other = None

-- the identifier of the channel path that an action takes down, brings up or resets
abbrev pub chpid_named : Action → Option ℕ
chpid_named (action.Event (event.PathDown chpid)) = Some chpid
chpid_named (action.Event (event.PathUp chpid)) = Some chpid
chpid_named (action.Event (event.PathReset chpid)) = Some chpid
chpid_named other = None

-- how that path stands where the action may not be now: down already, up already, or with no reset asked for
abbrev pub path_standing : Action → Option PathRefusal
path_standing (action.Event (event.PathDown chpid)) = Some path_refusal.Down
path_standing (action.Event (event.PathUp chpid)) = Some path_refusal.Up
path_standing (action.Event (event.PathReset chpid)) = Some path_refusal.NoReset
path_standing other = None

-- the address of storage that an instruction names; that of enabling is F00
abbrev pub instruction_address : Instruction → Option ℕ
instruction_address (instruction.Ssch word address) = Some address
instruction_address (instruction.Tsch word address) = Some address
instruction_address (instruction.Stsch word address) = Some address
instruction_address (instruction.Msch word address) = Some address
instruction_address (instruction.Enable word subclass multipath) = Some 0xF00
instruction_address other = None

abbrev pub other_address : OtherInstruction → Option ℕ
other_address (other_instruction.Tpi mask address) = Some address
other_address (other_instruction.Stcrw address) = Some address
other_address (other_instruction.Stcps address) = Some address
other_address (other_instruction.Rchp chpid) = None

-- the address of storage that an action names
abbrev pub address_named : Action → Option ℕ
address_named (action.Event (event.Put address bytes)) = Some address
address_named (action.Event (event.SetKey address key)) = Some address
address_named (action.Event (event.SetPrefix cpu address)) = Some address
address_named (action.Event (event.Show address count)) = Some address
address_named (action.Event (event.Execute cpu i)) = instruction_address i
address_named (action.Event (event.ExecuteOther cpu i)) = other_address i
address_named other = None

-- the boundary that this address must be on
abbrev pub boundary_wanted : Action → Boundary
boundary_wanted (action.Event (event.SetPrefix cpu address)) = boundary.Prefix
boundary_wanted (action.Event (event.ExecuteOther cpu (other_instruction.Stcps address))) = boundary.PathStatus
boundary_wanted other = boundary.Word

-- the operand of RESET CHANNEL PATH
abbrev pub path_operand : Action → Option ℕ
path_operand (action.Event (event.ExecuteOther cpu (other_instruction.Rchp chpid))) = Some chpid
path_operand other = None

-- whether an action is MODIFY SUBCHANNEL
abbrev pub is_modify : Action → Bool
is_modify (action.Event (event.Execute cpu (instruction.Msch word address))) = true
is_modify other = false

-- these are the bytes of the operation-request block that START SUBCHANNEL fetches
abbrev pub IsOrbOf : Contents → Action → List ℕ → Type 0
IsOrbOf storage (action.Event (event.Execute cpu (instruction.Ssch word address))) image = operand_at storage cpu address 12 4 ≡ Ok image
IsOrbOf storage other image = ⊥
