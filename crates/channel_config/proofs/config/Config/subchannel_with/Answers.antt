use Rattle.std.proofs.Common.{◌≡◌, ◌∙◌, sym, ap, true, List, ℕ}
use Rattle.channel_config.specs.Setup.{Setup, are_paths}
use Rattle.channel_config.proofs.Keeping.{lawful-subchannels, lawful-subchannel-more}
use Rattle.channel_config.proofs.config.Config.subchannel_with.Goals as goal

pub invariant_of-self : goal.invariant_of-self
invariant_of-self g c = (lawful-subchannels _ _ c.in_err-push.ensures.kept c.self.invariant.0, c.self.invariant.1)

pub invariant_of-self-2 : goal.invariant_of-self-2
invariant_of-self-2 g c =
    let known : c.deref.result.now ≡ c.args.self.now.paths = c.deref.ensures.value ∙ ap (λ (s : Setup). s.paths) c.self.view_is in
    let paths : are_paths c.args.self.now.paths c.in-Some-chpids_of.paths ≡ true =
    ap (λ (ns : List ℕ). are_paths ns c.in-Some-chpids_of.paths) (sym known) ∙ c.in-Some-chpids_of.ensures.placed in (
      lawful-subchannel-more _ c.args.self.now _ _ c.self.view_is c.in_ok-push.ensures.pushed
          (record { set = c.in-Some.ensures.set; number = c.in-Some.ensures.number; unit = c.in-Some-side_left.ensures.known; paths = paths })
          c.in-Some.ensures.room (sym c.in-Some-side_left.ensures.value) c.self.invariant.0,
      c.self.invariant.1,
    )
