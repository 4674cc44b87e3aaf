use Rattle.std.proofs.Common.{length, sym, ap, ◌∙◌}
use Rattle.core_lock.specs.Named.{MachineName, MachineParts}
use Rattle.glance_directory.proofs.Directories.{directory_is}
use Rattle.core_lock.proofs.guarded.open.Goals as goal

pub invariant_of-guarded : goal.invariant_of-guarded
invariant_of-guarded g c =
    let past = c.args.subsystem in
    let none = sym (ap length c.requires.fresh) in
    let is = c.parts.view_is in
    let named = c.requires.named in
    record {
      beside = ap length c.requires.empty ∙ none;
      entries = c.open-entries.ensures.total ∙ none;
      shown = ap (λ (p : MachineParts). p.serials) is ∙ c.requires.serials;
      cells = ap (λ (p : MachineParts). p.name.cells) is ∙ ap (λ (n : MachineName). n.cells) named;
      directory = ap (λ (p : MachineParts). p.name.directory) is ∙ ap (λ (n : MachineName). n.directory) named;
      set_up = c.requires.set_up;
      named = sym (directory_is g.J.MachineBrand.setup past.state c.requires.set_up) ∙ sym c.requires.directory ∙ ap (λ (n : MachineName). n.directory) named;
    }
