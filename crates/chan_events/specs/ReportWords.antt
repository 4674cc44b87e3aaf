-- The word that STORE CHANNEL REPORT WORD stores (SA22-7832, chapters 14 and 17).
use Rattle.std.specs.Prelude.{ℕ, Option, None, Some}
use Rattle.zbits.specs.Layout.{word_of}
use Rattle.scsw_irb.specs.declared.crw.Crw.{Crw}
use Rattle.scsw_irb.specs.CrwTable.{crw_table}

-- that of the oldest report, or zero with code 1
abbrev pub report_word : Option Crw → ℕ
report_word None = 0
report_word (Some crw) = word_of (crw_table crw)
