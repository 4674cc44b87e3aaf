-- What a unit sends of itself finds its wire full.
use Rattle.std.proofs.Common.{◌≡◌, refl, ◌+◌, ℕ, Bool, true, false, not, if◌then◌else◌, Option, None, Some, Err}
use Rattle.chan_model.specs.declared.fault.Fault.TheVariants as fault
use Rattle.chan_model.specs.declared.signal.OnPath.{OnPath}
use Rattle.chan_model.specs.Signals.{Up}
use Rattle.chan_model.specs.declared.signal.Up.TheVariants as up
use Rattle.chan_model.specs.declared.unit_state.Own.{Own}
use Rattle.chan_model.specs.declared.unit_state.Own.TheVariants.{Idle, Owned}
use Rattle.chan_model.specs.declared.unit_state.Connection.TheVariants.{On, Ask, Away}
use Rattle.chan_model.specs.declared.unit_state.UnitState.{UnitState}
use Rattle.chan_model.specs.UnitTable.{UnitStep, asking, leaving}
use Rattle.subchannel_model.specs.declared.state.Subchannel.{Subchannel}
use Rattle.subchannel_model.specs.Sending.{carried_by}
use Rattle.machine_model.specs.ReportSteps.{report_taken}
use Rattle.signal_step.specs.Giving.{TellsFull, connected_path, is_without_path}
use Rattle.signal_step.proofs.Turning.{report-full}

-- each signal that would be sent on a path does
abbrev pub FindsFull : Subchannel → ℕ → Type 0
FindsFull sub p = (s : OnPath Up) → s.path ≡ p → TellsFull sub.wires.up (carried_by sub (Some s)) true

abbrev sending : UnitState → OnPath Up → Option UnitStep
sending u s = Some (record { state = u; sent = Some s })

pub sends-full : (sub : Subchannel) (fits : Bool) (u : UnitState) (s : OnPath Up) → fits ≡ true → TellsFull sub.wires.up (carried_by sub (Some s)) true →
    report_taken sub (if fits then sending u s else None) ≡ Err fault.WireFull
sends-full sub true u s e told = report-full sub (sending u s) told.0
sends-full sub false u s e told = absurd (cc e)

pub leave-full : (sub : Subchannel) (u : UnitState) (own : Own) (p : ℕ) → connected_path own ≡ Some p → FindsFull sub p →
    report_taken sub (leaving u own) ≡ Err fault.WireFull
leave-full sub u Idle p e full = absurd (cc e)
leave-full sub u (Owned side t (On q c)) p e full =
    let s : OnPath Up = record { path = q; signal = up.Leave t c } in
    report-full sub (leaving u (Owned side t (On q c))) (full s (cc e)).0
leave-full sub u (Owned side t (Ask q c)) p e full = absurd (cc e)
leave-full sub u (Owned side t (Away c)) p e full = absurd (cc e)

pub ask-full : (sub : Subchannel) (u : UnitState) (own : Own) (p : ℕ) → is_without_path own ≡ true → FindsFull sub p →
    report_taken sub (asking u own p) ≡ Err fault.WireFull
ask-full sub u Idle p e full = absurd (cc e)
ask-full sub u (Owned side t (On q c)) p e full = absurd (cc e)
ask-full sub u (Owned side t (Ask q c)) p e full =
    let s : OnPath Up = record { path = p; signal = up.Back t (c + 1) } in
    report-full sub (asking u (Owned side t (Ask q c)) p) (full s refl).0
ask-full sub u (Owned side t (Away c)) p e full =
    let s : OnPath Up = record { path = p; signal = up.Back t (c + 1) } in
    report-full sub (asking u (Owned side t (Away c)) p) (full s refl).0

pub not-false : (b : Bool) → not b ≡ false → b ≡ true
not-false true e = refl
not-false false e = absurd (cc e)
