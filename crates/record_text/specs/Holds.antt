-- The texts of the subsystem's side of a subchannel (own).
use Rattle.std.specs.Prelude.{ℕ, List, ◌++◌, codes, Option, None, Some}
use Rattle.chan_model.specs.declared.hold_state.HoldState.{HoldState}
use Rattle.chan_model.specs.declared.hold_state.HoldPhase.{HoldPhase}
use Rattle.chan_model.specs.declared.hold_state.HoldPhase.TheVariants.{Free, Offer, On, Away, Letting, Reset}
use Rattle.record_text.specs.Numbers.{hexadecimal}

-- a program that is connected: its number, path and connection
abbrev pub on_text : ℕ → ℕ → ℕ → List ℕ
on_text number path connection =
    codes "on, program " ++ hexadecimal number ++ codes " by path " ++ hexadecimal path ++ (codes ", connection " ++ hexadecimal connection)

-- a reset that is due, and the path that it was sent on
abbrev pub reset_text : ℕ → Option ℕ → List ℕ
reset_text number None = codes "to be reset under " ++ hexadecimal number
reset_text number (Some path) = codes "to be reset under " ++ hexadecimal number ++ codes ", sent on path " ++ hexadecimal path

-- in full
abbrev pub phase_text : HoldPhase → Option ℕ → List ℕ
phase_text Free sent = codes "free"
phase_text (Offer number path) sent = codes "offers " ++ hexadecimal number ++ codes " on path " ++ hexadecimal path
phase_text (On number path connection) sent = on_text number path connection
phase_text (Away number) sent = codes "away, program " ++ hexadecimal number
phase_text (Letting number path) sent = codes "lets program " ++ hexadecimal number ++ codes " go by path " ++ hexadecimal path
phase_text (Reset number) sent = reset_text number sent

abbrev pub hold_text : HoldState → List ℕ
hold_text hold = phase_text hold.phase hold.reset_path

-- in few words
abbrev pub short_phase : HoldPhase → List ℕ
short_phase Free = codes "free"
short_phase (Offer number path) = codes "offers " ++ hexadecimal number
short_phase (On number path connection) = codes "on " ++ hexadecimal number
short_phase (Away number) = codes "away " ++ hexadecimal number
short_phase (Letting number path) = codes "lets " ++ hexadecimal number ++ codes " go"
short_phase (Reset number) = codes "reset " ++ hexadecimal number

abbrev pub short_text : HoldState → List ℕ
short_text hold = short_phase hold.phase

-- by fields: t the number of a program, c that of its connection, r that of a reset
abbrev pub on_fields : ℕ → ℕ → ℕ → List ℕ
on_fields number path connection =
    codes "on t=" ++ hexadecimal number ++ codes " path=" ++ hexadecimal path ++ (codes " c=" ++ hexadecimal connection)

abbrev pub reset_fields : ℕ → Option ℕ → List ℕ
reset_fields number None = codes "reset r=" ++ hexadecimal number
reset_fields number (Some path) = codes "reset r=" ++ hexadecimal number ++ codes " path=" ++ hexadecimal path

abbrev pub phase_fields : HoldPhase → Option ℕ → List ℕ
phase_fields Free sent = codes "free"
phase_fields (Offer number path) sent = codes "offers t=" ++ hexadecimal number ++ codes " path=" ++ hexadecimal path
phase_fields (On number path connection) sent = on_fields number path connection
phase_fields (Away number) sent = codes "away t=" ++ hexadecimal number
phase_fields (Letting number path) sent = codes "lets t=" ++ hexadecimal number ++ codes " path=" ++ hexadecimal path
phase_fields (Reset number) sent = reset_fields number sent

abbrev pub fields_text : HoldState → List ℕ
fields_text hold = phase_fields hold.phase hold.reset_path
