-- What the codes of a channel report stand for (SA22-7832, chapter 17).
use Rattle.std.specs.Prelude.{ℕ, ◌==◌, List, [], codes, if◌then◌else◌}

-- RSC, the reporting-source code
abbrev pub source_name : ℕ → List ℕ
source_name code =
    if code == 0x2 then codes " monitoring facility"
    else if code == 0x3 then codes " subchannel"
    else if code == 0x4 then codes " channel path"
    else if code == 0x9 then codes " configuration-alert facility"
    else if code == 0xB then codes " channel subsystem"
    else []

-- ERC, the error-recovery code
abbrev pub recovery_name : ℕ → List ℕ
recovery_name code =
    if code == 0x00 then codes " event information pending"
    else if code == 0x01 then codes " available (back)"
    else if code == 0x02 then codes " initialized (reset)"
    else if code == 0x03 then codes " temporary error"
    else if code == 0x04 then codes " installed parameters initialized"
    else if code == 0x05 then codes " terminal"
    else if code == 0x06 then codes " permanent error, not initialized (lost)"
    else if code == 0x07 then codes " permanent error, initialized"
    else if code == 0x08 then codes " installed parameters modified"
    else []
