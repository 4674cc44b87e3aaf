-- What the CCW address of a subchannel-status word says (SA22-7832, chapter 16).
use Rattle.std.specs.Prelude.{ℕ, ◌-◌, ◌==◌, ◌&&◌, ◌||◌, not, List, ◌++◌, codes, if◌then◌else◌}
use Rattle.zbits.specs.Flags.{flag_of}
use Rattle.word_parts.specs.Numbers.{hex_text}
use Rattle.word_names.specs.declared.address.AddressMeaning.{AddressMeaning}
use Rattle.word_names.specs.declared.address.AddressMeaning.TheVariants.{Nothing, Begins, Unfetched, Past}

-- by word 0: its bits 6 and 7 are a deferred condition code, its bit 17 is the start function, its bit 31 says that status is pending
abbrev pub meaning_of : ℕ → ℕ → AddressMeaning
meaning_of control address =
    if address == 0 then Nothing
    else if flag_of control 6 || flag_of control 7 then Unfetched
    else if flag_of control 17 && not (flag_of control 31) then Begins
    else Past

-- a status has an address 8 past the channel-command word that was tried last
abbrev pub meaning_text : AddressMeaning → ℕ → List ℕ
meaning_text Nothing address = codes "CCW address"
meaning_text Begins address = codes "CCW address: the program begins there; no status was made for it yet"
meaning_text Unfetched address = codes "CCW address: the program begins there; no CCW of it was fetched"
meaning_text Past address = codes "CCW address: 8 past the last CCW, at " ++ hex_text 1 (address - 8)

abbrev pub address_text : ℕ → ℕ → List ℕ
address_text control address = meaning_text (meaning_of control address) address
