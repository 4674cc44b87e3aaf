-- The code that is due is that of the instruction's column.
use Rattle.std.proofs.Common.{◌≡◌, refl, Some}
use Rattle.chan_events.specs.declared.event.Instruction.{Instruction}
use Rattle.chan_events.specs.declared.event.Instruction.TheVariants as instruction
use Rattle.step_laws.specs.Codes.{code_by}
use Rattle.subchannel_model.specs.declared.state.SubchannelState.{SubchannelState}
use Rattle.subchannel_model.specs.Conditions.{condition_of}
use Rattle.run_laws.specs.CodeTable.{code_due}

pub code-is : (i : Instruction) (s : SubchannelState) → code_by i (condition_of (Some s)) ≡ code_due i s.pmcw.enabled s.scsw
code-is (instruction.Ssch word address) s = refl
code-is i s = refl
