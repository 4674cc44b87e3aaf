use Rattle.std.proofs.Common.{refl}
use Rattle.word_parts.specs.CodeNames as code
use Rattle.word_parts.specs.OrbNames as orb
use Rattle.word_parts.specs.Reports as reports
use Rattle.word_parts.specs.SchibNames as schib
use Rattle.word_parts.specs.ScswNames as scsw
use Rattle.word_parts.specs.Whole.{flag_byte}
use Rattle.word_parts.proofs.Back as proof
use Rattle.word_parts.proofs.law.gives_back.Goals as goal

pub returns : goal.returns
returns c = record {
  scsw_0 = proof.gives_back scsw.word_0 refl;
  scsw_1 = proof.gives_back scsw.word_1 refl;
  scsw_2 = proof.gives_back scsw.word_2 refl;
  orb_0 = proof.gives_back orb.word_0 refl;
  orb_1 = proof.gives_back orb.word_1 refl;
  orb_2 = proof.gives_back orb.word_2 refl;
  pmcw_0 = proof.gives_back schib.word_0 refl;
  pmcw_1 = proof.gives_back schib.word_1 refl;
  pmcw_2 = proof.gives_back schib.word_2 refl;
  pmcw_3 = proof.gives_back schib.word_3 refl;
  pmcw_4 = proof.gives_back schib.word_4 refl;
  pmcw_5 = proof.gives_back schib.word_5 refl;
  pmcw_6 = proof.gives_back schib.word_6 refl;
  reserved = proof.gives_back schib.reserved refl;
  extended = proof.gives_back schib.extended refl;
  code_0 = proof.gives_back code.word_0 refl;
  code_2 = proof.gives_back code.word_2 refl;
  report = proof.gives_back reports.report refl;
  ccw_flags = proof.gives_back flag_byte refl;
}
