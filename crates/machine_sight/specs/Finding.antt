-- What a look tells of one subchannel.
use Rattle.std.specs.Prelude.{ℕ, map, Bool, false, Option, None, Some, slice_get, slice_index_or}
use Rattle.zbits.specs.Layout.{word_of}
use Rattle.chan_model.specs.PathSets.{is_member}
use Rattle.scsw_irb.specs.ScswTable.{scsw_tables}
use Rattle.functions.specs.Unwired.{Unwired}
use Rattle.step_records.specs.declared.record.Fact.{Fact}
use Rattle.step_records.specs.declared.record.Fact.TheVariants as fact
use Rattle.machine_sight.specs.declared.sight.Sight.{Sight}

-- what an instruction finds of it: word 0 of its subchannel-status word, and its enabled bit
abbrev pub found_at : ℕ → Option Unwired → Option Fact
found_at sub None = None
found_at sub (Some s) = Some (fact.Found sub (slice_index_or (map word_of (scsw_tables s.state.scsw)) 0 0) s.state.pmcw.enabled)

abbrev pub found_of : Sight → ℕ → Option Fact
found_of sight sub = found_at sub (slice_get sight.subchannels.items sub)

-- whether a path of it is not down
abbrev pub is_available_at : Option Unwired → ℕ → Bool
is_available_at None path = false
is_available_at (Some s) path = is_member s.state.pmcw.available path

abbrev pub is_available : Sight → ℕ → ℕ → Bool
is_available sight sub path = is_available_at (slice_get sight.subchannels.items sub) path
