use Rattle.std.proofs.Common.{◌≡◌, refl, sym, ◌∙◌, ap, subst, ℕ, Bool, true, false, Option, None, Some, IfSome, List}
use Rattle.std.specs.Prelude.{if◌then◌else◌}
use Rattle.chan_model.specs.UnitReports.{is_outward}
use Rattle.subchannel_model.specs.declared.state.ActiveProgram.{ActiveProgram}
use Rattle.subchannel_model.specs.declared.state.UpStep.{UpStep}
use Rattle.subchannel_model.specs.Outcomes.{SignalOutcome, with_storage}
use Rattle.subchannel_model.specs.Data.{tells_room_after}
use Rattle.chan_model.specs.Signals.{load_bytes}
use Rattle.storage_keys.specs.Storage.{Contents}
use Rattle.chan_model.specs.Loads.{load_length}
use Rattle.chan_model.specs.Signals.{Load}
use Rattle.active_program.specs.Sent.{outcome_with}
use Rattle.data_move.specs.FromDevice.{chunk_stored}
use Rattle.active_program.specs.Stepping.{subchannel_stepped}
use Rattle.chan_model.specs.Lent.{lent_up}
use Rattle.chan_model.specs.Signals.{load_of}
use Rattle.active_program.specs.Working.{give_next}
use Rattle.active_program.proofs.moving.move_bytes.Goals as goal

chosen-first : (b : Bool) (x y : SignalOutcome) → b ≡ true → x ≡ (if b then x else y)
chosen-first true x y e = refl
chosen-first false x y e = absurd (cc e)

chosen-second : (b : Bool) (x y : SignalOutcome) → b ≡ false → y ≡ (if b then x else y)
chosen-second true x y e = absurd (cc e)
chosen-second false x y e = refl

-- of the two ways the one by which the command goes
first-way : (begun : Option ActiveProgram) (out : Bool) (met : SignalOutcome) (first second : ActiveProgram → SignalOutcome) → out ≡ true →
    IfSome begun (λ b. out ≡ is_outward b.transfer.code) → IfSome begun (λ b. met ≡ first b) →
    IfSome begun (λ b. met ≡ (if is_outward b.transfer.code then first b else second b))
first-way None out met first second t told outcome = tt
first-way (Some b) out met first second t told outcome = outcome ∙ chosen-first (is_outward b.transfer.code) (first b) (second b) (sym told ∙ t)

second-way : (begun : Option ActiveProgram) (out : Bool) (met : SignalOutcome) (first second : ActiveProgram → SignalOutcome) → out ≡ false →
    IfSome begun (λ b. out ≡ is_outward b.transfer.code) → IfSome begun (λ b. met ≡ second b) →
    IfSome begun (λ b. met ≡ (if is_outward b.transfer.code then first b else second b))
second-way None out met first second t told outcome = tt
second-way (Some b) out met first second t told outcome = outcome ∙ chosen-second (is_outward b.transfer.code) (first b) (second b) (sym told ∙ t)

met-so : (begun : Option ActiveProgram) (storage : Contents) (step : UpStep) (after : ActiveProgram → UpStep) →
    IfSome begun (λ b. step ≡ after b) → IfSome begun (λ b. with_storage storage step ≡ with_storage storage (after b))
met-so None storage step after outcome = tt
met-so (Some b) storage step after outcome = ap (with_storage storage) outcome

pub returns-then-goes_out-clause-step : goal.returns-then-goes_out-clause-step
returns-then-goes_out-clause-step g c =
    let storage = g.M.MainStorage.contents c.args.storage.now in
    let s = c.args.state.now.state in
    let moved = c.args.moved.now in
    let load : Load = load_of (lent_up c.args.signal.now) in
    let step : UpStep = subchannel_stepped c.give_bytes.new.state.state (outcome_with c.give_bytes.result c.give_bytes.new.sent) in
    let outcome = subst (λ (n : ℕ). IfSome s.begun (λ b. step ≡ give_next storage s b moved n)) c.count_of.ensures c.give_bytes.ensures.step in
    first-way s.begun c.goes_out.result (with_storage storage step)
    (λ b. with_storage storage (give_next storage s b moved (load_length load)))
    (λ b. tells_room_after s b moved (chunk_stored storage b.transfer moved.sequence (load_bytes load)))
    c.if-goes_out.true c.goes_out.ensures
    (met-so s.begun storage step (λ b. give_next storage s b moved (load_length load)) outcome)

pub returns-else-goes_out-clause-step : goal.returns-else-goes_out-clause-step
returns-else-goes_out-clause-step g c =
    let storage = g.M.MainStorage.contents c.args.storage.now in
    let s = c.args.state.now.state in
    let moved = c.args.moved.now in
    let load : Load = load_of (lent_up c.args.signal.now) in
    let met : SignalOutcome = with_storage (g.M.MainStorage.contents c.take_bytes.new.storage) (subchannel_stepped c.take_bytes.new.state.state (outcome_with c.take_bytes.result c.take_bytes.new.sent)) in
    second-way s.begun c.goes_out.result met
    (λ b. with_storage storage (give_next storage s b moved (load_length load)))
    (λ b. tells_room_after s b moved (chunk_stored storage b.transfer moved.sequence (load_bytes load)))
    c.if-goes_out.false c.goes_out.ensures
    (subst (λ (bytes : List ℕ). IfSome s.begun (λ b. met ≡ tells_room_after s b moved (chunk_stored storage b.transfer moved.sequence bytes)))
    c.bytes.ensures.value c.take_bytes.ensures.step)
