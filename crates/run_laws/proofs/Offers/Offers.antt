-- A program that is offered, and of which nothing was done under the number of the offer, stands where it begins, or where it was
-- suspended.
use Rattle.std.proofs.Common.{◌≡◌, refl, sym, ◌∙◌, ap, ℕ, ◌==◌, not, Bool, true, false, Option, Some, None, inl, inr}
use Rattle.std.specs.Prelude.{if◌then◌else◌, is_some}
use Rattle.std.proofs.lemmas.Bool.{eqb-true, and_parts}
use Rattle.chan_model.specs.declared.hold_state.HoldPhase.{HoldPhase}
use Rattle.chan_model.specs.declared.hold_state.HoldPhase.TheVariants as hold
use Rattle.ccw_walk.specs.Sequences.{count}
use Rattle.ccw_walk.specs.Programs.{commands}
use Rattle.orb_block.specs.declared.Orb.{Orb}
use Rattle.subchannel_model.specs.declared.state.ActiveProgram.{ActiveProgram}
use Rattle.subchannel_model.specs.declared.state.Program.{Program}
use Rattle.subchannel_model.specs.declared.state.ProgramPosition.{ProgramPosition}
use Rattle.subchannel_model.specs.declared.state.SubchannelState.{SubchannelState}
use Rattle.subchannel_model.specs.Accept.{takes_device, position_at_start, suspended_position, position_of_start, offered_position}
use Rattle.run_laws.specs.Traces.{CommandTrace, no_trace, ProgramTrace, past_part}
use Rattle.run_laws.specs.Tells.{IsOver}
use Rattle.run_laws.proofs.Traces.Holds.{IsStanding}

abbrev pub IsOfferedStart : Option Program → ℕ → ProgramTrace → Type 0
IsOfferedStart None start k = Unit {0}
IsOfferedStart (Some program) start k = program.start ≡ start → (program.orb ≡ k.orb) × (k.earlier ≡ 0) × (k.now ≡ no_trace)

abbrev pub IsOfferedPosition : Option ProgramPosition → ℕ → ProgramTrace → Type 0
IsOfferedPosition None start k = Unit {0}
IsOfferedPosition (Some st) start k = st.program.start ≡ start → (k.earlier ≡ count (commands k.orb k.now.acts)) × (k.now ≡ past_part k.now)

abbrev pub IsOfferedAt : HoldPhase → Option Program → Option ProgramPosition → ℕ → ProgramTrace → Type 0
IsOfferedAt (hold.Offer t p) w st start k = IsOfferedStart w start k × IsOfferedPosition st start k
IsOfferedAt phase w st start k = Unit {0}

abbrev pub IsOffered : SubchannelState → ProgramTrace → Type 0
IsOffered s k = IsOfferedAt s.hold.phase s.waiting s.suspended s.offered k

-- what an Accept begins from: the program that waits, or where none does the one that is suspended
abbrev pub beginning : Option Program → ProgramTrace → ProgramTrace
beginning None k = record k { earlier = count (commands k.orb k.now.acts); now = past_part k.now }
beginning (Some program) k = record k { orb = program.orb; earlier = 0; now = no_trace }

with-same : (k : ProgramTrace) (orb : Orb) (earlier : ℕ) (now : CommandTrace) → orb ≡ k.orb → earlier ≡ k.earlier → now ≡ k.now →
    record k { orb = orb; earlier = earlier; now = now } ≡ k
with-same k orb earlier now e f g =
    ap (λ (x : Orb). (let y : ProgramTrace = record k { orb = x; earlier = earlier; now = now } in y)) e
    ∙ ap (λ (x : ℕ). (let y : ProgramTrace = record k { earlier = x; now = now } in y)) f
    ∙ ap (λ (x : CommandTrace). (let y : ProgramTrace = record k { now = x } in y)) g

start-same : (b : Bool) (program : Program) (st : Option ProgramPosition) (start : ℕ) (k : ProgramTrace) → (program.start == start) ≡ b → st ≡ None →
    is_some (if b then Some (position_at_start program) else suspended_position st start) ≡ true → IsOfferedStart (Some program) start k → beginning (Some program) k ≡ k
start-same true program st start k e n h f =
    let same = f (eqb-true program.start start e) in
    with-same k program.orb 0 no_trace same.0 (sym same.1) (sym same.2)
start-same false program st start k e n h f = absurd (cc (sym (ap (λ (o : Option ProgramPosition). is_some (suspended_position o start)) n) ∙ h))

position-same : (b : Bool) (st : ProgramPosition) (start : ℕ) (k : ProgramTrace) → (st.program.start == start) ≡ b → is_some (if b then Some st else None) ≡ true →
    IsOfferedPosition (Some st) start k → beginning None k ≡ k
position-same true st start k e h f =
    let same = f (eqb-true st.program.start start e) in
    with-same k k.orb (count (commands k.orb k.now.acts)) (past_part k.now) refl (sym same.0) (sym same.1)
position-same false st start k e h f = absurd (cc h)

stands-alone : (program : Program) (b : Option ActiveProgram) (st : Option ProgramPosition) (k : ProgramTrace) → IsStanding (Some program) b st k → st ≡ None
stands-alone program b None k x = refl
stands-alone program b (Some st) k x = absurd (cc x.0)

pub begins-same : (w : Option Program) (b : Option ActiveProgram) (st : Option ProgramPosition) (start : ℕ) (k : ProgramTrace) → is_some (position_of_start w st start) ≡ true →
    IsStanding w b st k → IsOfferedStart w start k → IsOfferedPosition st start k → beginning w k ≡ k
begins-same None b None start k h x f g = absurd (cc h)
begins-same None b (Some st) start k h x f g = position-same (st.program.start == start) st start k refl h g
begins-same (Some program) b st start k h x f g =
    start-same (program.start == start) program st start k refl (stands-alone program b st k x) h f

-- and then it is not over
position-there : (st : ProgramPosition) (start : ℕ) (b : Bool) → (st.program.start == start) ≡ b → is_some (if b then Some st else None) ≡ true →
    ((position : ProgramPosition) → Some st ≡ Some position → position.program.start ≡ start → ⊥) → ⊥
position-there st start true e h g = g st refl (eqb-true st.program.start start e)
position-there st start false e h g = absurd (cc h)

suspended-there : (st : Option ProgramPosition) (start : ℕ) → is_some (suspended_position st start) ≡ true →
    ((position : ProgramPosition) → st ≡ Some position → position.program.start ≡ start → ⊥) → ⊥
suspended-there None start h g = absurd (cc h)
suspended-there (Some st) start h g = position-there st start (st.program.start == start) refl h g

start-there : (program : Program) (st : Option ProgramPosition) (start : ℕ) (b : Bool) → (program.start == start) ≡ b →
    is_some (if b then Some (position_at_start program) else suspended_position st start) ≡ true →
    ((x : Program) → Some program ≡ Some x → x.start ≡ start → ⊥) → ((position : ProgramPosition) → st ≡ Some position → position.program.start ≡ start → ⊥) → ⊥
start-there program st start true e h f g = f program refl (eqb-true program.start start e)
start-there program st start false e h f g = suspended-there st start h g

stands-there : (w : Option Program) (st : Option ProgramPosition) (start : ℕ) → is_some (position_of_start w st start) ≡ true →
    ((program : Program) → w ≡ Some program → program.start ≡ start → ⊥) → ((position : ProgramPosition) → st ≡ Some position → position.program.start ≡ start → ⊥) → ⊥
stands-there None st start h f g = suspended-there st start h g
stands-there (Some program) st start h f g = start-there program st start (program.start == start) refl h f g

pub ahead-over : (s : SubchannelState) → takes_device s ≡ true → IsOver s → ⊥
ahead-over s e (inl h) =
    let parts = and_parts (is_some (offered_position s)) (not s.scsw.activity.halt_pending) e in
    cc (sym (ap not h) ∙ parts.1)
ahead-over s e (inr x) =
    stands-there s.waiting s.suspended s.offered (and_parts (is_some (offered_position s)) (not s.scsw.activity.halt_pending) e).0 x.0 x.1
