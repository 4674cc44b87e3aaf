-- A Data or an End is taken where it is of the program at work, and otherwise ignored.
use Rattle.std.proofs.Common.{◌≡◌, refl, ◌∙◌, ap, ℕ, Bool, true, false, Option, None, Some}
use Rattle.std.specs.Prelude.{◌==◌, if◌then◌else◌}
use Rattle.storage_keys.specs.Storage.{Contents}
use Rattle.chan_model.specs.Signals.{Load}
use Rattle.chan_model.specs.Signals.{Up}
use Rattle.chan_model.specs.declared.signal.Up.TheVariants as up
use Rattle.chan_model.specs.HoldTable.{is_connected, is_on}
use Rattle.data_move.specs.ChunkNumbers.{is_answered}
use Rattle.subchannel_model.specs.declared.signals.DataSignal.{DataSignal}
use Rattle.subchannel_model.specs.declared.signals.EndSignal.{EndSignal}
use Rattle.subchannel_model.specs.declared.state.ActiveProgram.{ActiveProgram}
use Rattle.subchannel_model.specs.declared.state.SubchannelState.{SubchannelState}
use Rattle.subchannel_model.specs.declared.state.UpStep.{UpStep}
use Rattle.subchannel_model.specs.Outcomes.{SignalOutcome, with_storage, signal_ignored}
use Rattle.subchannel_model.specs.Data.{moves_data, takes_data}
use Rattle.subchannel_model.specs.End.{ends_at_work, takes_end}
use Rattle.subchannel_model.specs.Taking.{takes_up}
use Rattle.subchannel.specs.Answering.{is_data}
use Rattle.active_program.specs.Working.{moved_of, moved_at, data_by, data_taken, data_met, ended_of, ended_at, end_met}
use Rattle.chan_model.specs.Signals.{load_of}

either : {A : Type 0} {B : Type 0} (f : A → B) (b : Bool) (x y : A) → (if b then f x else f y) ≡ f (if b then x else y)
either f true x y = refl
either f false x y = refl

data-of : (storage : Contents) (s : SubchannelState) (b : Option ActiveProgram) (signal : DataSignal) (load : Load) →
    moves_data storage s b signal load ≡ data_met storage s load (moved_of b signal)
data-of storage s None signal load = refl
data-of storage s (Some b) signal load =
    either (data_met storage s load) (is_answered b.transfer signal.command signal.sequence) (Some (record { begun = b; signal = signal })) None

pub data_takes : (storage : Contents) (s : SubchannelState) (signal : DataSignal) (load : Load) →
    takes_data storage s signal load ≡ data_met storage s load (moved_at s signal)
data_takes storage s signal load =
    let connected : Bool = is_connected s.hold.phase signal.path signal.number signal.connection in
    ap (λ (met : SignalOutcome). if connected then met else with_storage storage (signal_ignored s)) (data-of storage s s.begun signal load)
    ∙ either (data_met storage s load) connected (moved_of s.begun signal) None

end-of : (storage : Contents) (s : SubchannelState) (b : Option ActiveProgram) (signal : EndSignal) →
    ends_at_work storage s b signal ≡ end_met storage s (ended_of b signal)
end-of storage s None signal = refl
end-of storage s (Some b) signal =
    either (end_met storage s) (signal.command == b.transfer.command) (Some (record { begun = b; signal = signal })) None

pub end_takes : (storage : Contents) (s : SubchannelState) (signal : EndSignal) →
    takes_end storage s signal ≡ end_met storage s (ended_at s signal)
end_takes storage s signal =
    let on : Bool = is_on s.hold.phase signal.number in
    ap (λ (step : UpStep). if on then step else signal_ignored s) (end-of storage s s.begun signal)
    ∙ either (end_met storage s) on (ended_of s.begun signal) None

pub told_takes : (returns : Bool) (storage : Contents) (s : SubchannelState) (p : ℕ) (told : Up) → is_data told ≡ true →
    data_taken storage s (load_of told) (data_by p told) ≡ takes_up returns storage s p told
told_takes returns storage s p (up.Accept t) is = absurd (cc is)
told_takes returns storage s p (up.Busy t) is = absurd (cc is)
told_takes returns storage s p (up.Leave t c) is = absurd (cc is)
told_takes returns storage s p (up.Back t c) is = absurd (cc is)
told_takes returns storage s p (up.Data load t c n seq) is = refl
told_takes returns storage s p (up.End t n status more) is = absurd (cc is)
told_takes returns storage s p (up.Released t) is = absurd (cc is)
told_takes returns storage s p (up.Cleared r) is = absurd (cc is)
told_takes returns storage s p (up.Notice b) is = absurd (cc is)
told_takes returns storage s p (up.Attn a status) is = absurd (cc is)
