-- The row of the line that hands in what a device answered (own).
use Rattle.std.specs.Prelude.{ℕ, ◌+◌, ◌-◌, ◌*◌, nat_le, Bool, List, [], ◌∷◌, length, take, drop, Option, Some, None, ok_or, Result, Ok, Err, codes, unwrap_or, if◌then◌else◌}
use Rattle.std.specs.Str.{bytes_eq}
use Rattle.chan_events.specs.Events.{Event}
use Rattle.chan_events.specs.declared.event.Event.TheVariants as event
use Rattle.chan_model.specs.Reports.{DeviceAnswer}
use Rattle.chan_model.specs.declared.names.Side.{Side}
use Rattle.chan_model.specs.declared.report.DeviceAnswer.TheVariants.{Begins, Absorbed, Supplied, Again, Ended}
use Rattle.script_rows.specs.Words.{Row, and_then, hex_bytes, number, number_up_to, row_of, with_none, with_one, with_two}
use Rattle.script_rows.specs.declared.words.LineRule.{LineRule}
use Rattle.script_rows.specs.declared.words.LineRule.TheVariants.{WrongCount, BadWord}
use Rattle.event_lines.specs.Sides.{side_numbered}

-- a number of 1 to 16 hexadecimal digits: of more than eight, the last eight are its right half
abbrev pub long_number : List ℕ → Option ℕ
long_number word =
    if nat_le (length word) 8 then number word
    else and_then (number (take (length word - 8) word)) (λ high. and_then (number (drop (length word - 8) word)) (λ low. Some (high * 0x100000000 + low)))

-- a side of a unit: the first is 0, the second 1
abbrev pub side_named : List ℕ → Option Side
side_named word = and_then (number word) side_numbered

-- 1 to 256 bytes, or `-` for none
abbrev pub bytes_supplied : List ℕ → Option (List ℕ)
bytes_supplied word = if bytes_eq word (codes "-") then Some [] else hex_bytes word

-- the status byte; `more` says that the device had more bytes
abbrev pub more_named : List ℕ → Option Bool
more_named word = if bytes_eq word (codes "more") then Some Bool.true else None

abbrev pub ended : ℕ → Bool → DeviceAnswer
ended status more = Ended (record { 0 = status }) more

abbrev pub ended_row : List (List ℕ) → Result DeviceAnswer LineRule
ended_row (status ∷ more ∷ []) = with_two (number_up_to 0xFF) more_named ended (status ∷ more ∷ [])
ended_row words = with_one (number_up_to 0xFF) (λ status. ended status Bool.false) words

abbrev pub absorbed_row : List (List ℕ) → Result DeviceAnswer LineRule
absorbed_row = with_one (number_up_to 0xFFFF) Absorbed

abbrev pub supplied_row : List (List ℕ) → Result DeviceAnswer LineRule
supplied_row = with_one bytes_supplied Supplied

-- what the device answered
abbrev pub answer_rows : List (Row DeviceAnswer)
answer_rows =
    (codes "begins", with_none Begins)  -- `begins`
    ∷ (codes "absorbed", absorbed_row)  -- `absorbed COUNT`
    ∷ (codes "supplied", supplied_row)  -- `supplied BYTES`
    ∷ (codes "again", with_none Again)  -- `again`
    ∷ (codes "ended", ended_row)  -- `ended STATUS`, `ended STATUS more`
    ∷ []

abbrev pub answer_row : List ℕ → List (List ℕ) → Result DeviceAnswer LineRule
answer_row word words = unwrap_or (row_of answer_rows word words) (Err BadWord)

-- what is answered is handed in for a unit and a side, with the numbers of the program, of the command and of the chunk
abbrev pub report_with : (at side program command chunk : List ℕ) → DeviceAnswer → Option Event
report_with at side program command chunk a =
    and_then (number at) (λ at. and_then (side_named side) (λ side. and_then (long_number program) (λ program. and_then (long_number command) (λ command. and_then (long_number chunk) (λ chunk.
    Some (event.Report at (record { side = side; answer = a; number = program; command = command; sequence = chunk })))))))

abbrev pub report_of : (at side program command chunk : List ℕ) → Result DeviceAnswer LineRule → Result Event LineRule
report_of at side program command chunk (Err broken) = Err broken
report_of at side program command chunk (Ok a) = ok_or (report_with at side program command chunk a) BadWord

-- `report UNIT SIDE PROGRAM COMMAND CHUNK ANSWER`
abbrev pub report_row : List (List ℕ) → Result Event LineRule
report_row (at ∷ side ∷ program ∷ command ∷ chunk ∷ word ∷ words) = report_of at side program command chunk (answer_row word words)
report_row words = Err WrongCount
