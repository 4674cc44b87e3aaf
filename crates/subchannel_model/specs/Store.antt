-- STORE SUBCHANNEL (SA22-7832, chapters 14 and 15): with code 0 the subchannel-information block is stored, and the reply shows the
-- status word too.
use Rattle.std.proofs.Common.{lit<}
use Rattle.std.specs.Prelude.{ℕ, true, false, nat_lt, Bool, List, [], ◌∷◌, length, slice_index}
use Rattle.schib_block.specs.declared.pmcw.Pmcw as block
use Rattle.schib_block.specs.declared.schib.Schib.{Schib}
use Rattle.chan_model.specs.declared.answer.ConditionCode.{ConditionCode}
use Rattle.chan_model.specs.ConditionCodes.{in_order}
use Rattle.chan_model.specs.PathSets.{mask_of_path, mask_of_paths, each_path, in_both}
use Rattle.subchannel_model.specs.declared.status.Condition.{Condition}
use Rattle.subchannel_model.specs.declared.state.Subchannel.{Subchannel}

-- condition code: a subchannel that is provided need not be enabled
abbrev pub stsch_code : Condition → ConditionCode
stsch_code c = in_order c.provided false false

-- the paths that are configured are installed; those of them that are not down are available
abbrev pub installed_paths : Subchannel → List Bool
installed_paths sub = each_path (λ path. nat_lt path (length sub.setup.paths))

abbrev pub available_paths : Subchannel → List Bool
available_paths sub = in_both (installed_paths sub) sub.state.pmcw.available

-- the identifiers of the paths 0 to 7; those that are not configured are zero (own)
abbrev pub chpids_of : List ℕ → List ℕ
chpids_of paths =
    slice_index paths 0 ∷ slice_index paths 1 ∷ slice_index paths 2 ∷ slice_index paths 3
    ∷ slice_index paths 4 ∷ slice_index paths 5 ∷ slice_index paths 6 ∷ slice_index paths 7 ∷ []

-- the block: V is one; there are no limits, no measurement and no timing
abbrev pub pmcw_of : Subchannel → block.Pmcw
pmcw_of sub = record {
  parameter = sub.state.pmcw.parameter;
  subclass = sub.state.pmcw.subclass;
  enabled = sub.state.pmcw.enabled;
  limit_mode = 0;
  measurement_mode = 0;
  multipath = sub.state.pmcw.multipath;
  timing = false;
  valid = true;
  device_number = sub.setup.device;
  logical = mask_of_paths sub.state.pmcw.logical;
  not_operational = mask_of_paths sub.state.pmcw.not_operational;
  last_used = mask_of_path sub.state.pmcw.last_used;
  installed = mask_of_paths (installed_paths sub);
  measurement_block = 0;
  operational = mask_of_paths sub.state.pmcw.operational;
  available = mask_of_paths (available_paths sub);
  chpids = chpids_of sub.setup.paths;
  concurrent_sense = sub.state.pmcw.concurrent_sense;
  subclass_fits = sub.state.pmcw.subclass_fits;
  limit_fits = lit< tt;
  measurement_fits = lit< tt;
}

abbrev pub schib_of : Subchannel → Schib
schib_of sub = record { pmcw = pmcw_of sub; scsw = sub.state.scsw }
