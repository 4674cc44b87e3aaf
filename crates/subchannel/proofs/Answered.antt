-- A Data is answered where it is of the program at work, and by its path.
use Rattle.std.proofs.Common.{◌≡◌, refl, sym, ◌∙◌, ap, ℕ, Bool, true, false, Option, None, Some}
use Rattle.std.specs.Prelude.{if◌then◌else◌, is_some}
use Rattle.storage_keys.specs.Storage.{Contents}
use Rattle.chan_model.specs.Signals.{Load}
use Rattle.chan_model.specs.Signals.{Up}
use Rattle.chan_model.specs.declared.signal.Up.TheVariants as up
use Rattle.chan_model.specs.UnitReports.{is_outward}
use Rattle.active_program.specs.Sent.{sent_path}
use Rattle.data_move.specs.ChunkNumbers.{is_answered}
use Rattle.subchannel_model.specs.declared.signals.DataSignal.{DataSignal}
use Rattle.subchannel_model.specs.declared.state.ActiveProgram.{ActiveProgram}
use Rattle.subchannel_model.specs.declared.state.SubchannelState.{SubchannelState}
use Rattle.subchannel_model.specs.Outcomes.{SignalOutcome}
use Rattle.subchannel_model.specs.Data.{takes_data}
use Rattle.subchannel_model.specs.Taking.{takes_up}
use Rattle.subchannel.specs.Answering.{is_data}
use Rattle.active_program.specs.Working.{Moved, moved_of, moved_at, moved_by, data_met}
use Rattle.subchannel.proofs.Working.{data_takes}

abbrev answers : SignalOutcome → Option ℕ
answers met = sent_path met.step.outcome.sent

both : (b : Bool) (x y : SignalOutcome) (u : Option ℕ) → answers x ≡ u → answers y ≡ u → answers (if b then x else y) ≡ u
both true x y u e f = e
both false x y u e f = f

abbrev path_if : Bool → ℕ → Option ℕ
path_if b p = if b then Some p else None

-- of a Data that is taken, the path is that of its signal
moved-path : (storage : Contents) (s : SubchannelState) (load : Load) (p : ℕ) (moved : Option Moved) → ((m : Moved) → moved ≡ Some m → m.signal.path ≡ p) →
    answers (data_met storage s load moved) ≡ path_if (is_some moved) p
moved-path storage s load p None f = refl
moved-path storage s load p (Some m) f = both (is_outward m.begun.transfer.code) _ _ (Some m.signal.path) refl refl ∙ ap (λ (q : ℕ). Some q) (f m refl)

due-path : (b : Bool) (x : Moved) (p : ℕ) → x.signal.path ≡ p → (m : Moved) → (if b then Some x else None) ≡ Some m → m.signal.path ≡ p
due-path true x p e m f = let same : x ≡ m = cc f in ap (λ (y : Moved). y.signal.path) (sym same) ∙ e
due-path false x p e m f = absurd (cc f)

of-path : (b : Option ActiveProgram) (signal : DataSignal) (m : Moved) → moved_of b signal ≡ Some m → m.signal.path ≡ signal.path
of-path None signal m f = absurd (cc f)
of-path (Some b) signal m f = due-path (is_answered b.transfer signal.command signal.sequence) (record { begun = b; signal = signal }) signal.path refl m f

at-path : (b : Bool) (o : Option Moved) (p : ℕ) → ((m : Moved) → o ≡ Some m → m.signal.path ≡ p) → (m : Moved) → (if b then o else None) ≡ Some m → m.signal.path ≡ p
at-path true o p f m e = f m e
at-path false o p f m e = absurd (cc e)

signal-path : (storage : Contents) (s : SubchannelState) (load : Load) (signal : DataSignal) → answers (takes_data storage s signal load) ≡ path_if (is_some (moved_at s signal)) signal.path
signal-path storage s load signal =
    ap answers (data_takes storage s signal load)
    ∙ moved-path storage s load signal.path (moved_at s signal) (at-path _ (moved_of s.begun signal) signal.path (of-path s.begun signal))

pub data_answers : (returns : Bool) (storage : Contents) (s : SubchannelState) (p : ℕ) (told : Up) → is_data told ≡ true →
    sent_path (takes_up returns storage s p told).step.outcome.sent ≡ (if is_some (moved_by s p told) then Some p else None)
data_answers returns storage s p (up.Accept t) is = absurd (cc is)
data_answers returns storage s p (up.Busy t) is = absurd (cc is)
data_answers returns storage s p (up.Leave t c) is = absurd (cc is)
data_answers returns storage s p (up.Back t c) is = absurd (cc is)
data_answers returns storage s p (up.Data load t c n seq) is = signal-path storage s load (record { path = p; number = t; connection = c; command = n; sequence = seq })
data_answers returns storage s p (up.End t n status more) is = absurd (cc is)
data_answers returns storage s p (up.Released t) is = absurd (cc is)
data_answers returns storage s p (up.Cleared r) is = absurd (cc is)
data_answers returns storage s p (up.Notice b) is = absurd (cc is)
data_answers returns storage s p (up.Attn a status) is = absurd (cc is)
