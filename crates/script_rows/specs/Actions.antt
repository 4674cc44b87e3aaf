-- The rows of the lines that drive a machine (own).
use Rattle.std.specs.Prelude.{ℕ, Bool, ◌%◌, ◌==◌, ◌&&◌, ◌||◌, nat_le, List, [], ◌∷◌, Option, Some, None, option_map, unwrap_or, Result, Ok, Err, codes, if◌then◌else◌}
use Rattle.std.specs.Option.{option_or}
use Rattle.std.specs.Result.{result_map_both}
use Rattle.std.specs.Str.{bytes_eq}
use Rattle.chan_events.specs.declared.event.Instruction.{Instruction}
use Rattle.chan_events.specs.declared.event.Instruction.TheVariants.{Ssch, Tsch, Stsch, Msch, Rsch, Hsch, Csch, Xsch, Enable}
use Rattle.chan_events.specs.declared.event.OtherInstruction.{OtherInstruction}
use Rattle.chan_events.specs.declared.event.OtherInstruction.TheVariants.{Tpi, Rchp, Stcrw, Stcps}
use Rattle.chan_events.specs.declared.event.UnitAct.{UnitAct}
use Rattle.chan_events.specs.declared.event.UnitAct.TheVariants as act
use Rattle.chan_events.specs.Events.{Event}
use Rattle.chan_events.specs.declared.event.Event.TheVariants as event
use Rattle.chan_model.specs.declared.names.Side.{Side}
use Rattle.chan_model.specs.declared.names.Side.TheVariants.{First, Second}
use Rattle.storage_keys.specs.Storage.{key_of_byte}
use Rattle.storage_keys.specs.declared.key.Key.{Key}
use Rattle.script_rows.specs.declared.Action.{Action}
use Rattle.script_rows.specs.declared.Action.TheVariants as action
use Rattle.script_rows.specs.declared.words.LineRule.{LineRule}
use Rattle.script_rows.specs.declared.words.LineRule.TheVariants.{UnknownWord, BadWord}
use Rattle.script_rows.specs.Words.{and_then, number, number_up_to, hex_bytes, subchannel, with_none, with_one, with_two, with_three, Row, row_of}

-- a storage key as an even byte
abbrev pub key_named : List ℕ → Option Key
key_named word = and_then (number_up_to 0xFF word) (λ n. if n % 2 == 0 then Some (key_of_byte n) else None)

-- so many bytes as are shown at once
abbrev pub show_length : List ℕ → Option ℕ
show_length word = and_then (number word) (λ n. if nat_le 1 n && nat_le n 0x40 then Some n else None)

-- a side of a unit: the first is 0, the second 1
abbrev pub side_named : List ℕ → Option Side
side_named word = and_then (number_up_to 1 word) (λ k. Some (if k == 0 then First else Second))

-- a unit, a path and a side, which is the first where none is named
abbrev pub unit_at_side : List (List ℕ) → Result (ℕ × ℕ × Side) LineRule
unit_at_side (u ∷ p ∷ []) = with_two number number (λ unit path. (unit, path, First)) (u ∷ p ∷ [])
unit_at_side words = with_three number number side_named (λ unit path side. (unit, path, side)) words

-- a subchannel that is enabled, with its interruption subclass and its multipath mode
abbrev pub enable_row : List (List ℕ) → Result Instruction LineRule
enable_row = with_three subchannel (number_up_to 7) (number_up_to 1) (λ s c d. Enable s c (d == 1))

-- the instructions
abbrev pub instruction_rows : List (Row Instruction)
instruction_rows =
    (codes "enable", enable_row)  -- `enable SUBCHANNEL SUBCLASS MULTIPATH`
    ∷ (codes "ssch", with_two subchannel number Ssch)  -- `ssch SUBCHANNEL ADDRESS`
    ∷ (codes "tsch", with_two subchannel number Tsch)  -- `tsch SUBCHANNEL ADDRESS`
    ∷ (codes "stsch", with_two subchannel number Stsch)  -- `stsch SUBCHANNEL ADDRESS`
    ∷ (codes "msch", with_two subchannel number Msch)  -- `msch SUBCHANNEL ADDRESS`
    ∷ (codes "rsch", with_one subchannel Rsch)  -- `rsch SUBCHANNEL`
    ∷ (codes "hsch", with_one subchannel Hsch)  -- `hsch SUBCHANNEL`
    ∷ (codes "csch", with_one subchannel Csch)  -- `csch SUBCHANNEL`
    ∷ (codes "xsch", with_one subchannel Xsch)  -- `xsch SUBCHANNEL`
    ∷ []

-- the instructions that name no subchannel
abbrev pub other_rows : List (Row OtherInstruction)
other_rows =
    (codes "tpi", with_two (number_up_to 0xFF) number Tpi)  -- `tpi MASK ADDRESS`
    ∷ (codes "rchp", with_one number Rchp)  -- `rchp REGISTER`
    ∷ (codes "stcrw", with_one number Stcrw)  -- `stcrw ADDRESS`
    ∷ (codes "stcps", with_one number Stcps)  -- `stcps ADDRESS`
    ∷ []

-- a CPU executes what the words say; a bad word names no CPU
abbrev pub on_cpu : {A : Type 0} → (ℕ → A → Event) → Option ℕ → Result A LineRule → Result Action LineRule
on_cpu executes cpu (Err rule) = Err rule
on_cpu executes None (Ok instruction) = Err BadWord
on_cpu executes (Some cpu) (Ok instruction) = Ok (action.Event (executes cpu instruction))

-- what a CPU executes, where an instruction is named
unfoldable pub executed_row : Option ℕ → List ℕ → List (List ℕ) → Option (Result Action LineRule)
executed_row cpu w ws = option_or (option_map (on_cpu event.Execute cpu) (row_of instruction_rows w ws))
    (option_map (on_cpu event.ExecuteOther cpu) (row_of other_rows w ws))

-- an instruction of a CPU, after its number
abbrev pub cpu_row : List (List ℕ) → Result Action LineRule
cpu_row (n ∷ w ∷ ws) = unwrap_or (executed_row (number_up_to 0xF n) w ws) (Err UnknownWord)
cpu_row words = Err UnknownWord

-- the lines that set and show storage
abbrev pub storage_rows : List (Row Action)
storage_rows =
    (codes "put", with_two number hex_bytes (λ a bs. action.Event (event.Put a bs)))  -- `put ADDRESS BYTES`
    ∷ (codes "key", with_two number key_named (λ a k. action.Event (event.SetKey a k)))  -- `key ADDRESS KEY`
    ∷ (codes "prefix", with_two (number_up_to 0xF) number (λ c a. action.Event (event.SetPrefix c a)))  -- `prefix CPU ADDRESS`
    ∷ (codes "show", with_two number show_length (λ a n. action.Event (event.Show a n)))  -- `show ADDRESS LENGTH`
    ∷ []

-- the lines of the subsystem and its devices
abbrev pub subsystem_rows : List (Row Action)
subsystem_rows =
    (codes "cpu", cpu_row)  -- `cpu NUMBER INSTRUCTION ..`
    ∷ (codes "choose", with_one subchannel (λ s. action.Event (event.Choose s)))  -- `choose SUBCHANNEL`
    ∷ (codes "up", with_two subchannel number (λ s p. action.Event (event.Up s p)))  -- `up SUBCHANNEL PATH`
    ∷ (codes "down", with_two subchannel number (λ s p. action.Event (event.Down s p)))  -- `down SUBCHANNEL PATH`
    ∷ (codes "dev", with_one number action.Dev)  -- `dev UNIT`
    ∷ (codes "glance", with_one subchannel action.Glance)  -- `glance SUBCHANNEL`
    ∷ []

-- a unit acts of itself
abbrev pub acts : ℕ → UnitAct → Action
acts u act = action.Event (event.Act u act)

-- what a unit does on a path at a side
abbrev pub acts_at : (ℕ → Side → UnitAct) → List (List ℕ) → Result Action LineRule
acts_at act words = result_map_both (λ at. acts at.0 (act at.1 at.2)) (λ rule. rule) (unit_at_side words)

-- the lines of what units do of themselves
abbrev pub act_rows : List (Row Action)
act_rows =
    (codes "leave", with_one number (λ u. acts u act.Leave))  -- `leave UNIT`
    ∷ (codes "ask", with_two number number (λ u p. acts u (act.Ask p)))  -- `ask UNIT PATH`
    ∷ (codes "attn", acts_at act.Attention)  -- `attn UNIT PATH SIDE`
    ∷ (codes "notice", acts_at act.Notice)  -- `notice UNIT PATH SIDE`
    ∷ (codes "restart", with_one number (λ u. action.Event (event.Restart u)))  -- `restart UNIT`
    ∷ []

-- the lines of channel paths, and of the reset of the channel subsystem
abbrev pub path_rows : List (Row Action)
path_rows =
    (codes "pathdown", with_one number (λ c. action.Event (event.PathDown c)))  -- `pathdown CHPID`
    ∷ (codes "pathup", with_one number (λ c. action.Event (event.PathUp c)))  -- `pathup CHPID`
    ∷ (codes "pathreset", with_one number (λ c. action.Event (event.PathReset c)))  -- `pathreset CHPID`
    ∷ (codes "sysreset", with_none (action.Event event.SystemReset))  -- `sysreset`
    ∷ []

-- the lines that drive a machine; an instruction without `cpu` is of CPU 0
unfoldable pub action_row : List ℕ → List (List ℕ) → Option (Result Action LineRule)
action_row w ws = option_or (executed_row (Some 0) w ws)
    (option_or (row_of storage_rows w ws) (option_or (row_of subsystem_rows w ws) (option_or (row_of act_rows w ws) (row_of path_rows w ws))))

-- the first word of a line of a start, of its signals, of its device's turns or of its end
abbrev pub is_common : List ℕ → Bool
is_common w = bytes_eq w (codes "up") || bytes_eq w (codes "down") || bytes_eq w (codes "dev") || bytes_eq w (codes "ssch") || bytes_eq w (codes "tsch") || bytes_eq w (codes "choose")
