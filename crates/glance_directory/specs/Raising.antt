-- The serials that a seat has seen, which never fall (own).
use Rattle.std.specs.Prelude.{ℕ, max, List, Option, None, Some, slice_index_or, slice_set}
use Rattle.scsw_irb.specs.declared.serials.Serials.{Serials}
use Rattle.chan_events.specs.Events.{Event}
use Rattle.chan_events.specs.declared.event.Event.TheVariants as event
use Rattle.chan_events.specs.declared.event.Instruction.TheVariants as instruction
use Rattle.chan_events.specs.Replies.{Reply}
use Rattle.run_laws.specs.CodeSteps.{answer_in}
use Rattle.subsystem.specs.Keeping.{serials_brought}
use Rattle.glance_directory.specs.Directory.{Directory, index_named}
use Rattle.glance_directory.specs.Cells.{serials}

-- part by part the greater
abbrev pub greater : Serials → Serials → Serials
greater one other = serials (max one.made other.made) (max one.cleared other.cleared)

-- the pair of an index, raised to these counts
abbrev pub raised_at : List Serials → Option ℕ → Serials → List Serials
raised_at seen_serials None found = seen_serials
raised_at seen_serials (Some index) found = slice_set seen_serials index (greater (slice_index_or seen_serials index found) found)

abbrev pub raised_by : List Serials → Option ℕ → Option Serials → List Serials
raised_by seen_serials index None = seen_serials
raised_by seen_serials index (Some found) = raised_at seen_serials index found

-- TEST SUBCHANNEL with code 0 or 1 ends by raising the pair of its subchannel to the counts that it answers
abbrev pub raised_among : List Serials → Directory → Event → Reply → List Serials
raised_among seen_serials directory (event.Execute cpu (instruction.Tsch word address)) r = raised_by seen_serials (index_named directory word) (serials_brought (answer_in r))
raised_among seen_serials directory e r = seen_serials
