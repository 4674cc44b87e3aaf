-- Status words in the few words of the view of a program (SA22-7832, chapter 16).
use Rattle.std.specs.Prelude.{ℕ, ◌==◌, ◌*◌, List, [], ◌++◌, codes, if◌then◌else◌}
use Rattle.zbits.specs.Bits.{field_of}
use Rattle.word_parts.specs.Parts.{names_text}
use Rattle.word_parts.specs.ScswNames.{functions, activity, status_names, device, subchannel}
use Rattle.record_text.specs.Numbers.{hexadecimal}

-- function control
abbrev pub functions_text : ℕ → List ℕ
functions_text word = if field_of word 17 19 == 0 then [] else codes "FC " ++ names_text (codes ", ") functions word

-- activity control
abbrev pub activity_text : ℕ → List ℕ
activity_text word =
    if field_of word 20 26 == 0 then [] else
    if field_of word 17 19 == 0 then codes "AC " ++ names_text (codes ", ") activity word else
    codes "; AC " ++ names_text (codes ", ") activity word

-- status control; its last bit is `pending`
abbrev pub pending_name : ℕ → List ℕ
pending_name word = if field_of word 31 31 == 0 then [] else codes ", pending"

abbrev pub status_named : ℕ → List ℕ
status_named word =
    if field_of word 27 30 == 0 then codes "pending" else names_text (codes ", ") status_names word ++ pending_name word

abbrev pub status_text : ℕ → List ℕ
status_text word =
    if field_of word 27 31 == 0 then [] else
    if field_of word 17 26 == 0 then codes "SC " ++ status_named word else
    codes "; SC " ++ status_named word

abbrev pub work_text : ℕ → List ℕ
work_text word = functions_text word ++ activity_text word

abbrev pub control_text : ℕ → List ℕ
control_text word = work_text word ++ status_text word

-- the count after a title, and the address of the command
abbrev pub titled_count : List ℕ → ℕ → ℕ → List ℕ
titled_count title count address = title ++ hexadecimal count ++ codes "; CCW address " ++ hexadecimal address

abbrev pub count_text : ℕ → ℕ → List ℕ
count_text address word =
    if field_of word 0 15 == 0 then titled_count (codes "count ") (field_of word 16 31) address
    else titled_count (codes ", count ") (field_of word 16 31) address

-- device and subchannel status
abbrev pub subchannel_text : List ℕ → ℕ → List ℕ
subchannel_text title status = if status == 0 then [] else title ++ names_text (codes ", ") subchannel (status * 0x10000)

abbrev pub device_text : ℕ → ℕ → List ℕ
device_text of_device of_subchannel = names_text (codes ", ") device (of_device * 0x1000000) ++ subchannel_text (codes ", ") of_subchannel

abbrev pub statuses_text : ℕ → ℕ → List ℕ
statuses_text of_device of_subchannel =
    if of_device == 0 then subchannel_text [] of_subchannel else device_text of_device of_subchannel

abbrev pub ending_text : ℕ → ℕ → List ℕ
ending_text address word = codes "; " ++ statuses_text (field_of word 0 7) (field_of word 8 15) ++ count_text address word

-- where status is pending
abbrev pub pending_text : ℕ → ℕ → ℕ → List ℕ
pending_text control address word = if field_of control 27 31 == 0 then [] else ending_text address word

abbrev pub title_control : ℕ → List ℕ
title_control control = codes "  " ++ control_text control

abbrev pub words_seen : ℕ → ℕ → ℕ → List ℕ
words_seen control address word = title_control control ++ pending_text control address word

-- the three words: at rest where no function, no activity and no status is shown
unfoldable pub scsw_seen : ℕ → ℕ → ℕ → List ℕ
scsw_seen control address word = if field_of control 17 31 == 0 then codes "  at rest" else words_seen control address word
