-- What MODIFY SUBCHANNEL does to a path-management-control word (SA22-7832, chapter 14; own).
use Rattle.std.specs.Prelude.{◌≡◌, Bool, if◌then◌else◌}
use Rattle.schib_block.specs.declared.pmcw.Pmcw.{Pmcw}

-- the given word asks for no limit mode and no measurement (own)
abbrev pub IsAllowedPmcw : Pmcw → Type 0
IsAllowedPmcw given = (given.limit_mode ≡ 0) × (given.measurement_mode ≡ 0)

-- the concurrent-sense bit: the given one where it is taken, and otherwise the one that stands
abbrev pub sense_left : Bool → Bool → Bool → Bool
sense_left takes_sense stands given = if takes_sense then given else stands

-- the word with the parameter, ISC, E, D, LPM and POM of the given one, and with its concurrent-sense bit where that is taken (own)
abbrev pub modified : Bool → Pmcw → Pmcw → Pmcw
modified takes_sense pmcw given = record pmcw {
  parameter = given.parameter;
  subclass = given.subclass;
  subclass_fits = given.subclass_fits;
  enabled = given.enabled;
  multipath = given.multipath;
  logical = given.logical;
  operational = given.operational;
  concurrent_sense = sense_left takes_sense pmcw.concurrent_sense given.concurrent_sense;
}
