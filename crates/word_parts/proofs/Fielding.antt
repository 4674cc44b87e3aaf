-- Each name has the bits of its field.
use Rattle.std.proofs.Common.{ℕ}
use Rattle.zbits.specs.Layout.{ShowsFields}
use Rattle.orb_block.specs.declared.Orb.{Orb}
use Rattle.orb_block.specs.OrbTable as orb_table
use Rattle.scsw_irb.specs.declared.scsw.Scsw.{Scsw}
use Rattle.scsw_irb.specs.declared.crw.Crw.{Crw}
use Rattle.scsw_irb.specs.declared.code.IntCode.{IntCode}
use Rattle.scsw_irb.specs.ScswTable as scsw_table
use Rattle.scsw_irb.specs.CrwTable.{crw_table}
use Rattle.scsw_irb.specs.CodeTable.{interruption}
use Rattle.schib_block.specs.declared.pmcw.Pmcw.{Pmcw}
use Rattle.schib_block.specs.SchibTable as schib_table
use Rattle.word_parts.specs.FieldNames.{NamesHighPaths, NamesLowPaths, NamesMasks, NamesMoreMasks, NamesOrb, NamesPmcw, NamesReport, NamesScsw, NamesSense, NamesSubclass}

pub names_scsw : (x : Scsw) (word : ℕ) → ShowsFields word (scsw_table.word_0 x) → NamesScsw word x
names_scsw x word s = record {
  key = s.0;
  suspend = s.1.0;
  deferred = s.1.1.1.0;
  format_one = s.1.1.1.1.0;
  prefetch = s.1.1.1.1.1.0;
  initial_status = s.1.1.1.1.1.1.0;
  address_limit = s.1.1.1.1.1.1.1.0;
  suppress_suspended = s.1.1.1.1.1.1.1.1.0;
  path_not_operational = s.1.1.1.1.1.1.1.1.1.1.0;
  start_function = s.1.1.1.1.1.1.1.1.1.1.1.1.0;
  halt_function = s.1.1.1.1.1.1.1.1.1.1.1.1.1.0;
  clear_function = s.1.1.1.1.1.1.1.1.1.1.1.1.1.1.0;
  resume_pending = s.1.1.1.1.1.1.1.1.1.1.1.1.1.1.1.0;
  start_pending = s.1.1.1.1.1.1.1.1.1.1.1.1.1.1.1.1.0;
  halt_pending = s.1.1.1.1.1.1.1.1.1.1.1.1.1.1.1.1.1.0;
  clear_pending = s.1.1.1.1.1.1.1.1.1.1.1.1.1.1.1.1.1.1.0;
  subchannel_active = s.1.1.1.1.1.1.1.1.1.1.1.1.1.1.1.1.1.1.1.0;
  device_active = s.1.1.1.1.1.1.1.1.1.1.1.1.1.1.1.1.1.1.1.1.0;
  suspended = s.1.1.1.1.1.1.1.1.1.1.1.1.1.1.1.1.1.1.1.1.1.0;
  alert = s.1.1.1.1.1.1.1.1.1.1.1.1.1.1.1.1.1.1.1.1.1.1.0;
  intermediate = s.1.1.1.1.1.1.1.1.1.1.1.1.1.1.1.1.1.1.1.1.1.1.1.0;
  primary = s.1.1.1.1.1.1.1.1.1.1.1.1.1.1.1.1.1.1.1.1.1.1.1.1.0;
  secondary = s.1.1.1.1.1.1.1.1.1.1.1.1.1.1.1.1.1.1.1.1.1.1.1.1.1.0;
  status_pending = s.1.1.1.1.1.1.1.1.1.1.1.1.1.1.1.1.1.1.1.1.1.1.1.1.1.1.0;
}

pub names_orb : (x : Orb) (word : ℕ) → ShowsFields word (orb_table.word_1 x) → NamesOrb word x
names_orb x word s = record {
  key = s.0;
  suspend = s.1.0;
  streaming = s.1.1.0;
  modification = s.1.1.1.0;
  synchronization = s.1.1.1.1.0;
  format_one = s.1.1.1.1.1.0;
  prefetch = s.1.1.1.1.1.1.0;
  initial_status = s.1.1.1.1.1.1.1.0;
  address_limit = s.1.1.1.1.1.1.1.1.0;
  suppress_suspended = s.1.1.1.1.1.1.1.1.1.0;
  long_addresses = s.1.1.1.1.1.1.1.1.1.1.1.0;
  small_blocks = s.1.1.1.1.1.1.1.1.1.1.1.1.0;
  paths = s.1.1.1.1.1.1.1.1.1.1.1.1.1.0;
  suppress_length = s.1.1.1.1.1.1.1.1.1.1.1.1.1.1.0;
  modified_words = s.1.1.1.1.1.1.1.1.1.1.1.1.1.1.1.0;
}

pub names_pmcw : (x : Pmcw) (word : ℕ) → ShowsFields word (schib_table.word_1 x) → NamesPmcw word x
names_pmcw x word s = record {
  subclass = s.0;
  enabled = s.1.0;
  limit_mode = s.1.1.0;
  measurement_mode = s.1.1.1.0;
  multipath = s.1.1.1.1.0;
  timing = s.1.1.1.1.1.0;
  valid = s.1.1.1.1.1.1.0;
  device_number = s.1.1.1.1.1.1.1.0;
}

pub names_masks : (x : Pmcw) (word : ℕ) → ShowsFields word (schib_table.word_2 x) → NamesMasks word x
names_masks x word s = record {
  logical = s.0;
  not_operational = s.1.0;
  last_used = s.1.1.0;
  installed = s.1.1.1.0;
}

pub names_moremasks : (x : Pmcw) (word : ℕ) → ShowsFields word (schib_table.word_3 x) → NamesMoreMasks word x
names_moremasks x word s = record {
  measurement_block = s.0;
  operational = s.1.0;
  available = s.1.1.0;
}

pub names_lowpaths : (x : Pmcw) (word : ℕ) → ShowsFields word (schib_table.word_4 x) → NamesLowPaths word x
names_lowpaths x word s = record {
  chpid_0 = s.0;
  chpid_1 = s.1.0;
  chpid_2 = s.1.1.0;
  chpid_3 = s.1.1.1.0;
}

pub names_highpaths : (x : Pmcw) (word : ℕ) → ShowsFields word (schib_table.word_5 x) → NamesHighPaths word x
names_highpaths x word s = record {
  chpid_4 = s.0;
  chpid_5 = s.1.0;
  chpid_6 = s.1.1.0;
  chpid_7 = s.1.1.1.0;
}

pub names_sense : (x : Pmcw) (word : ℕ) → ShowsFields word (schib_table.word_6 x) → NamesSense word x
names_sense x word s = record {
  concurrent_sense = s.0;
}

pub names_report : (x : Crw) (word : ℕ) → ShowsFields word (crw_table x) → NamesReport word x
names_report x word s = record {
  solicited = s.1.0;
  overflow = s.1.1.0;
  source = s.1.1.1.1.0;
  recovery = s.1.1.1.1.1.1.0;
}

pub names_subclass : (x : IntCode) (word : ℕ) → ShowsFields word (interruption x) → NamesSubclass word x
names_subclass x word s = record {
  subclass = s.1.0;
}
