-- The subchannel-status word that three words are (SA22-7832, chapter 16).
use Rattle.std.proofs.Common.{lit<}
use Rattle.std.proofs.lemmas.Nat.{mod_below}
use Rattle.std.specs.Prelude.{ℕ, ◌≡◌, ◌/◌, ◌<◌, ◌^◌, ◌==◌, if◌then◌else◌, List, length, slice_index}
use Rattle.zbits.specs.Bits.{field_of, weight}
use Rattle.zbits.specs.Flags.{flag_of}
use Rattle.scsw_irb.specs.declared.scsw.Scsw.{Scsw}
use Rattle.scsw_irb.specs.declared.scsw.FunctionControl.{FunctionControl}
use Rattle.scsw_irb.specs.declared.scsw.ActivityControl.{ActivityControl}
use Rattle.scsw_irb.specs.declared.scsw.StatusControl.{StatusControl}
use Rattle.scsw_irb.specs.declared.scsw.DeferredCode.{DeferredCode}
use Rattle.scsw_irb.specs.declared.scsw.DeferredCode.TheVariants.{Zero, One, Two, Three}
use Rattle.scsw_irb.specs.ScswTable.{IsScsw}

abbrev pub code_of_number : ℕ → DeferredCode
code_of_number n = if n == 0 then Zero else (if n == 1 then One else (if n == 2 then Two else Three))

pub key-lt : (word : ℕ) → field_of word 0 3 < 16
key-lt word = mod_below (word / weight 3) 16 (lit< tt)

abbrev pub functions_of : ℕ → FunctionControl
functions_of word = record { start = flag_of word 17; halt = flag_of word 18; clear = flag_of word 19 }

abbrev pub activity_of : ℕ → ActivityControl
activity_of word = record {
  resume_pending = flag_of word 20;
  start_pending = flag_of word 21;
  halt_pending = flag_of word 22;
  clear_pending = flag_of word 23;
  subchannel_active = flag_of word 24;
  device_active = flag_of word 25;
  suspended = flag_of word 26;
}

abbrev pub status_of : ℕ → StatusControl
status_of word = record { alert = flag_of word 27; intermediate = flag_of word 28; primary = flag_of word 29; secondary = flag_of word 30; pending = flag_of word 31 }

-- the status word of its three words
abbrev pub scsw_of : ℕ → ℕ → ℕ → Scsw
scsw_of controls address statuses = record {
  key = field_of controls 0 3;
  suspend = flag_of controls 4;
  deferred = code_of_number (field_of controls 6 7);
  format_one = flag_of controls 8;
  prefetch = flag_of controls 9;
  initial_status = flag_of controls 10;
  address_limit = flag_of controls 11;
  suppress_suspended = flag_of controls 12;
  path_not_operational = flag_of controls 15;
  functions = functions_of controls;
  activity = activity_of controls;
  status = status_of controls;
  command_address = address;
  device_status = record { 0 = field_of statuses 0 7 };
  subchannel_status = record { 0 = field_of statuses 8 15 };
  count = field_of statuses 16 31;
  key_fits = key-lt controls;
}

abbrev pub scsw_of_words : List ℕ → Scsw
scsw_of_words words = scsw_of (slice_index words 0) (slice_index words 1) (slice_index words 2)

-- three words of 32 bits, of which those bits are zero that are zero in each status word
pub record AreScswWords (words : List ℕ) : Type 0 where
  pub three : length words ≡ 3
  pub fit : (index : ℕ) → slice_index words index < 2 ^ 32
  pub reserved : IsScsw words
