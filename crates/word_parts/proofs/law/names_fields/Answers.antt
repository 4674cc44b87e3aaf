use Rattle.word_parts.proofs.Fielding as proof
use Rattle.word_parts.proofs.law.names_fields.Goals as goal

pub returns : goal.returns
returns c = record {
  scsw = proof.names_scsw;
  orb = proof.names_orb;
  pmcw = proof.names_pmcw;
  masks = proof.names_masks;
  more_masks = proof.names_moremasks;
  low_paths = proof.names_lowpaths;
  high_paths = proof.names_highpaths;
  sense = proof.names_sense;
  report = proof.names_report;
  subclass = proof.names_subclass;
}
