-- The names are those of the fields that stand at their bits, by the tables of the images.
use Rattle.std.specs.Prelude.{ℕ, ◌≡◌, List, [], ◌∷◌, codes, if◌then◌else◌}
use Rattle.std.specs.Str.{bytes_eq}
use Rattle.zbits.specs.Bits.{field_of}
use Rattle.zbits.specs.Layout.{bit_number}
use Rattle.orb_block.specs.declared.Orb.{Orb}
use Rattle.scsw_irb.specs.declared.scsw.Scsw.{Scsw}
use Rattle.scsw_irb.specs.declared.crw.Crw.{Crw}
use Rattle.scsw_irb.specs.declared.code.IntCode.{IntCode}
use Rattle.scsw_irb.specs.ScswTable.{code_number}
use Rattle.scsw_irb.specs.CrwTable.{error_code, is_solicited}
use Rattle.schib_block.specs.declared.pmcw.Pmcw.{Pmcw}
use Rattle.schib_block.specs.SchibTable.{chpid_of}
use Rattle.word_parts.specs.CodeNames as code
use Rattle.word_parts.specs.OrbNames as orb
use Rattle.word_parts.specs.Parts.{Named}
use Rattle.word_parts.specs.Reports as reports
use Rattle.word_parts.specs.SchibNames as schib
use Rattle.word_parts.specs.ScswNames as scsw
use Rattle.word_parts.specs.Whole.{last_of}

-- the first bit of the part that has a name
abbrev pub first_of : List Named → List ℕ → ℕ
first_of [] name = 0
first_of (p ∷ ps) name = if bytes_eq p.name name then p.first else first_of ps name

-- what stands at the bits of a name
abbrev pub number_named : List Named → List ℕ → ℕ → ℕ
number_named table name word = field_of word (first_of table name) (last_of table name)

-- the first word of a subchannel-status word
pub record NamesScsw (word : ℕ) (x : Scsw) : Type 0 where
  pub key : number_named scsw.word_0 (codes "key") word ≡ x.key
  pub suspend : number_named scsw.word_0 (codes "S suspend control") word ≡ bit_number x.suspend
  pub deferred : number_named scsw.word_0 (codes "deferred condition code") word ≡ code_number x.deferred
  pub format_one : number_named scsw.word_0 (codes "F CCW format 1") word ≡ bit_number x.format_one
  pub prefetch : number_named scsw.word_0 (codes "P prefetch control") word ≡ bit_number x.prefetch
  pub initial_status : number_named scsw.word_0 (codes "I initial-status-interruption control") word ≡ bit_number x.initial_status
  pub address_limit : number_named scsw.word_0 (codes "A address-limit-checking control") word ≡ bit_number x.address_limit
  pub suppress_suspended : number_named scsw.word_0 (codes "U suppress-suspended-interruption control") word ≡ bit_number x.suppress_suspended
  pub path_not_operational : number_named scsw.word_0 (codes "N path not operational") word ≡ bit_number x.path_not_operational
  pub start_function : number_named scsw.word_0 (codes "start") word ≡ bit_number x.functions.start
  pub halt_function : number_named scsw.word_0 (codes "halt") word ≡ bit_number x.functions.halt
  pub clear_function : number_named scsw.word_0 (codes "clear") word ≡ bit_number x.functions.clear
  pub resume_pending : number_named scsw.word_0 (codes "resume pending") word ≡ bit_number x.activity.resume_pending
  pub start_pending : number_named scsw.word_0 (codes "start pending") word ≡ bit_number x.activity.start_pending
  pub halt_pending : number_named scsw.word_0 (codes "halt pending") word ≡ bit_number x.activity.halt_pending
  pub clear_pending : number_named scsw.word_0 (codes "clear pending") word ≡ bit_number x.activity.clear_pending
  pub subchannel_active : number_named scsw.word_0 (codes "subchannel active") word ≡ bit_number x.activity.subchannel_active
  pub device_active : number_named scsw.word_0 (codes "device active") word ≡ bit_number x.activity.device_active
  pub suspended : number_named scsw.word_0 (codes "suspended") word ≡ bit_number x.activity.suspended
  pub alert : number_named scsw.word_0 (codes "alert") word ≡ bit_number x.status.alert
  pub intermediate : number_named scsw.word_0 (codes "intermediate") word ≡ bit_number x.status.intermediate
  pub primary : number_named scsw.word_0 (codes "primary") word ≡ bit_number x.status.primary
  pub secondary : number_named scsw.word_0 (codes "secondary") word ≡ bit_number x.status.secondary
  pub status_pending : number_named scsw.word_0 (codes "status pending") word ≡ bit_number x.status.pending

-- the second word of an operation-request block
pub record NamesOrb (word : ℕ) (x : Orb) : Type 0 where
  pub key : number_named orb.word_1 (codes "key") word ≡ x.key
  pub suspend : number_named orb.word_1 (codes "S suspend control") word ≡ bit_number x.suspend
  pub streaming : number_named orb.word_1 (codes "C streaming-mode control") word ≡ bit_number x.streaming
  pub modification : number_named orb.word_1 (codes "M modification control") word ≡ bit_number x.modification
  pub synchronization : number_named orb.word_1 (codes "Y synchronization control") word ≡ bit_number x.synchronization
  pub format_one : number_named orb.word_1 (codes "F CCW format 1") word ≡ bit_number x.format_one
  pub prefetch : number_named orb.word_1 (codes "P prefetch control") word ≡ bit_number x.prefetch
  pub initial_status : number_named orb.word_1 (codes "I initial-status-interruption control") word ≡ bit_number x.initial_status
  pub address_limit : number_named orb.word_1 (codes "A address-limit-checking control") word ≡ bit_number x.address_limit
  pub suppress_suspended : number_named orb.word_1 (codes "U suppress-suspended-interruption control") word ≡ bit_number x.suppress_suspended
  pub long_addresses : number_named orb.word_1 (codes "H format-2-IDAW control") word ≡ bit_number x.long_addresses
  pub small_blocks : number_named orb.word_1 (codes "T 2K-IDAW control") word ≡ bit_number x.small_blocks
  pub paths : number_named orb.word_1 (codes "LPM") word ≡ x.paths
  pub suppress_length : number_named orb.word_1 (codes "L incorrect-length-suppression mode") word ≡ bit_number x.suppress_length
  pub modified_words : number_named orb.word_1 (codes "D modified-CCW-indirect-data-addressing control") word ≡ bit_number x.modified_words

-- the second word of a path-management-control word
pub record NamesPmcw (word : ℕ) (x : Pmcw) : Type 0 where
  pub subclass : number_named schib.word_1 (codes "ISC") word ≡ x.subclass
  pub enabled : number_named schib.word_1 (codes "E enabled") word ≡ bit_number x.enabled
  pub limit_mode : number_named schib.word_1 (codes "LM limit mode") word ≡ x.limit_mode
  pub measurement_mode : number_named schib.word_1 (codes "MM measurement-mode enable") word ≡ x.measurement_mode
  pub multipath : number_named schib.word_1 (codes "D multipath mode") word ≡ bit_number x.multipath
  pub timing : number_named schib.word_1 (codes "T timing facility") word ≡ bit_number x.timing
  pub valid : number_named schib.word_1 (codes "V device number valid") word ≡ bit_number x.valid
  pub device_number : number_named schib.word_1 (codes "device number") word ≡ x.device_number

-- the third
pub record NamesMasks (word : ℕ) (x : Pmcw) : Type 0 where
  pub logical : number_named schib.word_2 (codes "LPM") word ≡ x.logical
  pub not_operational : number_named schib.word_2 (codes "PNOM") word ≡ x.not_operational
  pub last_used : number_named schib.word_2 (codes "LPUM") word ≡ x.last_used
  pub installed : number_named schib.word_2 (codes "PIM") word ≡ x.installed

-- the fourth
pub record NamesMoreMasks (word : ℕ) (x : Pmcw) : Type 0 where
  pub measurement_block : number_named schib.word_3 (codes "MBI") word ≡ x.measurement_block
  pub operational : number_named schib.word_3 (codes "POM") word ≡ x.operational
  pub available : number_named schib.word_3 (codes "PAM") word ≡ x.available

-- the fifth
pub record NamesLowPaths (word : ℕ) (x : Pmcw) : Type 0 where
  pub chpid_0 : number_named schib.word_4 (codes "CHPID 0") word ≡ chpid_of x 0
  pub chpid_1 : number_named schib.word_4 (codes "CHPID 1") word ≡ chpid_of x 1
  pub chpid_2 : number_named schib.word_4 (codes "CHPID 2") word ≡ chpid_of x 2
  pub chpid_3 : number_named schib.word_4 (codes "CHPID 3") word ≡ chpid_of x 3

-- the sixth
pub record NamesHighPaths (word : ℕ) (x : Pmcw) : Type 0 where
  pub chpid_4 : number_named schib.word_5 (codes "CHPID 4") word ≡ chpid_of x 4
  pub chpid_5 : number_named schib.word_5 (codes "CHPID 5") word ≡ chpid_of x 5
  pub chpid_6 : number_named schib.word_5 (codes "CHPID 6") word ≡ chpid_of x 6
  pub chpid_7 : number_named schib.word_5 (codes "CHPID 7") word ≡ chpid_of x 7

-- the last
pub record NamesSense (word : ℕ) (x : Pmcw) : Type 0 where
  pub concurrent_sense : number_named schib.word_6 (codes "S concurrent sense") word ≡ bit_number x.concurrent_sense

-- a channel-report word
pub record NamesReport (word : ℕ) (x : Crw) : Type 0 where
  pub solicited : number_named reports.report (codes "S solicited") word ≡ bit_number (is_solicited x.report)
  pub overflow : number_named reports.report (codes "R overflow") word ≡ bit_number x.overflow
  pub source : number_named reports.report (codes "RSC") word ≡ 4
  pub recovery : number_named reports.report (codes "ERC") word ≡ error_code x.report

-- the last word of an interruption code
pub record NamesSubclass (word : ℕ) (x : IntCode) : Type 0 where
  pub subclass : number_named code.word_2 (codes "interruption subclass") word ≡ x.subclass
