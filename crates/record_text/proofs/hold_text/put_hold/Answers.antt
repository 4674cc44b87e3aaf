use Rattle.std.proofs.Common.{ℕ, ap, sym, ◌∙◌}
use Rattle.chan_model.specs.declared.hold_state.HoldPhase.{HoldPhase}
use Rattle.chan_model.specs.declared.hold_state.HoldPhase.TheVariants.{Letting}
use Rattle.script_text.proofs.Printing.{same_text}
use Rattle.record_text.specs.Holds as spec
use Rattle.record_text.proofs.hold_text.put_hold.Goals as goal

pub returns-in-On : goal.returns-in-On
returns-in-On g c = same_text _ _ _ _ _ (ap (λ (p : HoldPhase). spec.phase_text p c.args.hold.now.reset_path) (sym c.in-On.is)) c.put_on.ensures

pub returns-in-Away : goal.returns-in-Away
returns-in-Away g c = same_text _ _ _ _ _ (ap (λ (p : HoldPhase). spec.phase_text p c.args.hold.now.reset_path) (sym c.in-Away.is)) c.put_named.ensures

pub returns-in-Letting : goal.returns-in-Letting
returns-in-Letting g c =
    same_text _ _ _ _ _ (ap (λ (k : ℕ). spec.phase_text (Letting c.in-Letting.number k) c.args.hold.now.reset_path) c.index-in-Letting.ensures.value
    ∙ ap (λ (p : HoldPhase). spec.phase_text p c.args.hold.now.reset_path) (sym c.in-Letting.is)) c.put_two-in-Letting.ensures
