-- The paths that choosing marks: what is chosen suits the subchannel still.
use Rattle.scsw_irb.specs.declared.scsw.Scsw.{Scsw}
use Rattle.subchannel_model.specs.declared.state.Chosen.{Chosen}
use Rattle.subchannel_model.specs.declared.state.Chosen.TheVariants.{Offers}
use Rattle.subchannel_model.specs.declared.state.PmcwState.{PmcwState}
use Rattle.subchannel_model.specs.declared.state.SubchannelState.{SubchannelState}
use Rattle.step_laws.specs.Walks.{IsForProgram, Suits}

for-program : (c : Chosen) (s : SubchannelState) (pmcw : PmcwState) (scsw : Scsw) → IsForProgram c s →
    IsForProgram c (record s { pmcw = pmcw; scsw = scsw })
for-program (Offers c path) s pmcw scsw f = f
for-program other s pmcw scsw f = tt

pub marked-suits : (c : Chosen) (s : SubchannelState) (pmcw : PmcwState) (scsw : Scsw) → Suits c s → Suits c (record s { pmcw = pmcw; scsw = scsw })
marked-suits c s pmcw scsw f = record { fits = f.fits; found = for-program c s pmcw scsw f.found }
