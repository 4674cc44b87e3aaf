use Rattle.std.proofs.Common.{refl, sym, subst, ◌+◌, inl, inr}
use Rattle.chan_model.specs.declared.signal.Down.TheVariants as down
use Rattle.subchannel_model.specs.declared.state.Chosen.{Chosen}
use Rattle.subchannel_model.specs.Sending.{carried_by}
use Rattle.signal_step.specs.Giving.{TellsFull, signal_of_chosen}
use Rattle.signal_step.proofs.turns.chosen_finds_full.Goals as goal

pub returns-in-Resets : goal.returns-in-Resets
returns-in-Resets c =
    let sub = c.args.sub.now in
    let Tells = λ (what : Chosen). TellsFull sub.wires.down (carried_by sub (signal_of_chosen sub.state what)) c.finds_down_full.result in
    elim c.in-Resets.is [
      | inl x ↦ subst Tells (sym x.1) (c.finds_down_full.ensures (record { path = c.in-Resets.path; signal = down.Reset x.0 sub.state.hold.known_restarts }) refl)
      | inr y ↦ elim y [
        | inl x ↦ subst Tells (sym x.1) (c.finds_down_full.ensures (record { path = c.in-Resets.path; signal = down.Halt x.0 }) refl)
        | inr x ↦ subst Tells (sym x.1) (c.finds_down_full.ensures (record { path = c.in-Resets.path; signal = down.Select (sub.state.drawn + 1) }) refl)
      ]
    ]
