-- What a subchannel does for its program with an Accept is what is seen of it.
use Rattle.std.proofs.Common.{◌≡◌, refl, sym, ◌∙◌, ap, subst, arith, ℕ, ◌+◌, ◌≤◌, ◌==◌, Bool, true, false, Option, Some, None, ◌⊎◌, inl, inr}
use Rattle.std.specs.Prelude.{if◌then◌else◌, is_some, not, ◌&&◌}
use Rattle.std.proofs.lemmas.Bool.{eq-eqb, eqb-true}
use Rattle.storage_keys.specs.Storage.{Contents}
use Rattle.chan_model.specs.declared.hold_state.HoldPhase.{HoldPhase}
use Rattle.chan_model.specs.declared.hold_state.HoldPhase.TheVariants as hold
use Rattle.chan_model.specs.declared.signal.Up.TheVariants as up
use Rattle.chan_model.specs.HoldTable as hold_table
use Rattle.chan_model.specs.HoldTable.{HoldStep}
use Rattle.ccw_walk.specs.Sequences.{Sequence, ◌▸▸◌, count}
use Rattle.ccw_walk.specs.Acts.{Act}
use Rattle.ccw_walk.specs.Programs.{IsProgram, role_of, next, commands}
use Rattle.ccw_walk.specs.Positions.{WalkPosition, walk_position}
use Rattle.ccw_walk.specs.Advancing.{advance_acts}
use Rattle.data_move.specs.declared.transfer.CommandStart.{CommandStart}
use Rattle.data_move.specs.declared.transfer.CommandStart.TheVariants as outcome
use Rattle.data_move.specs.Commands.{first_command, begun_with_room}
use Rattle.subchannel_model.specs.declared.state.ActiveProgram.{ActiveProgram}
use Rattle.subchannel_model.specs.declared.state.Program.{Program}
use Rattle.subchannel_model.specs.declared.state.ProgramPosition.{ProgramPosition}
use Rattle.subchannel_model.specs.declared.state.SubchannelState.{SubchannelState}
use Rattle.subchannel_model.specs.declared.state.UpStep.{UpStep}
use Rattle.subchannel_model.specs.declared.cause.StatusCause.TheVariants as cause
use Rattle.subchannel_model.specs.Causes.{with_cause}
use Rattle.subchannel_model.specs.Accept as on_accept
use Rattle.subchannel_model.specs.Suspension as suspension
use Rattle.subchannel_model.specs.Accept.{takes_device, halt_performed, with_path_used, position_at_start, suspended_position, position_of_start, offered_position}
use Rattle.run_laws.specs.Traces.{ProgramTrace}
use Rattle.run_laws.specs.Interrupts.{asked, Interrupts, OnlyInterrupts}
use Rattle.run_laws.specs.Tells.{command_sent, IsOver, Begins, Accepted, Meets}
use Rattle.run_laws.specs.ProgramClaims.{IsSuspended, has_check, EndsAtCheck}
use Rattle.run_laws.specs.Shows.{IsRest}
use Rattle.run_laws.proofs.Traces.MachineActs.{with_acts, room_acts, first_acts}
use Rattle.run_laws.proofs.Traces.MachineTraces as stories
use Rattle.run_laws.proofs.Traces.Ties.{AreLaws}
use Rattle.run_laws.proofs.Traces.Parts.{WentOn, goes-on}
use Rattle.run_laws.proofs.Statuses.Shows.{ShowsRestOf, interrupted-shows, rest-stays, suspended-shows, fault-shows}
use Rattle.run_laws.proofs.Statuses.StatusCounts.{none-counted, of-program, halt-shows}
use Rattle.run_laws.proofs.Traces.Holds.{IsPhase, IsStanding, IsHeld, done-held}
use Rattle.run_laws.proofs.Traces.Fetches.{goes-fetched}
use Rattle.run_laws.proofs.Traces.Goings.{begins-goes, device_released-silent}
use Rattle.run_laws.proofs.Traces.Advances.{advance-some}
use Rattle.run_laws.proofs.Traces.Asks.{BeginsAsking, goes-asking, asked-interrupts, only-asked, none-sent}
use Rattle.run_laws.proofs.Traces.Standing.{suspended-unchecked, suspended-next}
use Rattle.run_laws.proofs.Offers.Offers.{IsOffered, IsOfferedAt, beginning, begins-same, ahead-over}
use Rattle.run_laws.proofs.Traces.Sequences.{count-joined}

-- the signal is taken
starts-taken : (storage : Contents) (s : SubchannelState) (p t : ℕ) (st : ProgramPosition) (walk : WalkPosition) (c : CommandStart) →
    (on_accept.first_ccw_outcome storage s p t st walk c).outcome.taken ≡ true
starts-taken storage s p t st walk (outcome.Begins transfer) = refl
starts-taken storage s p t st walk outcome.Suspends = refl
starts-taken storage s p t st walk (outcome.Stops check) = refl

standing-taken : (storage : Contents) (s : SubchannelState) (p t : ℕ) (o : Option ProgramPosition) → (on_accept.begins_at storage s p t o).outcome.taken ≡ true
standing-taken storage s p t None = refl
standing-taken storage s p t (Some st) = starts-taken storage s p t st (first_command storage st.walk).walk (first_command storage st.walk).outcome

-- where the program does not go ahead it is over, or a halt is pending
over-by : (pending : Bool) (w : Option Program) (st : Option ProgramPosition) (start : ℕ) → (is_some (position_of_start w st start) && not pending) ≡ false →
    (pending ≡ true)
    ⊎ (((program : Program) → w ≡ Some program → program.start ≡ start → ⊥) × ((position : ProgramPosition) → st ≡ Some position → position.program.start ≡ start → ⊥))
over-by true w st start e = inl refl
over-by false w st start e = inr (waits w e, stays w st e)
  where
    found : (x : Program) → x.start ≡ start → (x.start == start) ≡ true
    found x f = eq-eqb x.start start f

    again : (position : ProgramPosition) → position.program.start ≡ start → is_some (suspended_position (Some position) start) ≡ true
    again position f = ap (λ (b : Bool). is_some (if b then Some position else None)) (found position.program f)

    waits : (w : Option Program) → (is_some (position_of_start w st start) && true) ≡ false → (program : Program) → w ≡ Some program → program.start ≡ start → ⊥
    waits None e program f g = cc f
    waits (Some x) e program f g =
        let same : x ≡ program = cc f in
        let there : (x.start == start) ≡ true = found x (ap (λ (y : Program). y.start) same ∙ g) in
        cc (sym (ap (λ (b : Bool). is_some (if b then Some (position_at_start x) else suspended_position st start) && true) there) ∙ e)

    stays : (w : Option Program) (st : Option ProgramPosition) → (is_some (position_of_start w st start) && true) ≡ false → (position : ProgramPosition) → st ≡ Some position →
        position.program.start ≡ start → ⊥
    stays None st e position f g =
        cc (sym (ap (λ (o : Option ProgramPosition). is_some (suspended_position o start) && true) f ∙ ap (λ (b : Bool). b && true) (again position g)) ∙ e)
    stays (Some x) st e position f g = either (x.start == start) e
      where
        either : (b : Bool) → (is_some (if b then Some (position_at_start x) else suspended_position st start) && true) ≡ false → ⊥
        either true e = cc e
        either false e =
            cc (sym (ap (λ (o : Option ProgramPosition). is_some (suspended_position o start) && true) f ∙ ap (λ (b : Bool). b && true) (again position g)) ∙ e)

pub over : (s : SubchannelState) → takes_device s ≡ false → IsOver s
over s e = over-by s.scsw.activity.halt_pending s.waiting s.suspended s.offered e

longer : (more before : Sequence Act) → 1 ≤ count more → before ▸▸ more ≡ before → ⊥
longer more before l e =
    let many : count (before ▸▸ more) ≡ count more + count before = count-joined before more in
    let same : count (before ▸▸ more) ≡ count before = ap count e in
    absurd (omega (arith, l, many, same))

module _ (laws : AreLaws) where
  -- a program goes on from where it stands, and what status shows then are its address and its count
  abbrev Starts : Contents → SubchannelState → UpStep → ProgramTrace → ProgramTrace → Type 0
  Starts storage s x k after = IsHeld x.state after → Begins storage x.outcome.sent k after × ShowsRestOf s.serials.made x.state after × Interrupts s x.state k after
      × (is_some (command_sent x.outcome.sent) ≡ true → OnlyInterrupts s x.state k after)

  starts-shows : (storage : Contents) (s : SubchannelState) (p t : ℕ) (st : ProgramPosition) (walk : WalkPosition) (k : ProgramTrace) (c : CommandStart) (acts : Sequence Act) (n : ℕ) →
      WentOn k.earlier laws storage k.orb k.now.acts (k.now.acts ▸▸ acts) n walk c → IsRest st.count k →
      IsHeld (on_accept.first_ccw_outcome storage s p t st walk c).state (stories.trace_goes_on storage c acts k) →
      ShowsRestOf s.serials.made (on_accept.first_ccw_outcome storage s p t st walk c).state (stories.trace_goes_on storage c acts k)
  starts-shows storage s p t st walk k (outcome.Begins transfer) acts n w r h =
      let u = (begun_with_room storage transfer).transfer in
      interrupted-shows (on_accept.with_program_at_work s st.program u) (record { program = st.program; primary_shown = false; transfer = u })
      (stories.trace_goes_on storage (outcome.Begins transfer) acts k) u.pci_pending h
  starts-shows storage s p t st walk k outcome.Suspends acts n w r h =
      suspended-shows s st.program walk st.count (record k { now = with_acts k.now acts }) st.program.orb.suppress_suspended (rest-stays k acts k.now.acts walk st.count w.4 w.1 refl r)
  starts-shows storage s p t st walk k (outcome.Stops check) acts n w r h =
      fault-shows s s.begun walk.tried check st.count (record k { now = with_acts k.now acts }) (rest-stays k acts k.now.acts walk st.count w.5 w.1 refl r)

  -- and a block that asks for an interruption gets one
  starts-asks : (storage : Contents) (s : SubchannelState) (p t : ℕ) (st : ProgramPosition) (walk : WalkPosition) (k : ProgramTrace) (c : CommandStart) (acts : Sequence Act) →
      BeginsAsking storage (asked k.orb k.now.acts) (asked k.orb (k.now.acts ▸▸ acts)) c →
      Interrupts s (on_accept.first_ccw_outcome storage s p t st walk c).state k (stories.trace_goes_on storage c acts k)
  starts-asks storage s p t st walk k (outcome.Begins transfer) acts a =
      let u = (begun_with_room storage transfer).transfer in
      asked-interrupts (on_accept.with_program_at_work s st.program u) (record { program = st.program; primary_shown = false; transfer = u })
      (asked k.orb k.now.acts) (asked k.orb (k.now.acts ▸▸ acts)) u.pci_pending a.0
  starts-asks storage s p t st walk k outcome.Suspends acts a = λ l on. absurd (omega (arith, a, l))
  starts-asks storage s p t st walk k (outcome.Stops check) acts a = λ l on. absurd (omega (arith, a, l))

  starts-only : (storage : Contents) (s : SubchannelState) (p t : ℕ) (st : ProgramPosition) (walk : WalkPosition) (k : ProgramTrace) (c : CommandStart) (acts : Sequence Act) →
      BeginsAsking storage (asked k.orb k.now.acts) (asked k.orb (k.now.acts ▸▸ acts)) c →
      is_some (command_sent (on_accept.first_ccw_outcome storage s p t st walk c).outcome.sent) ≡ true →
      OnlyInterrupts s (on_accept.first_ccw_outcome storage s p t st walk c).state k (stories.trace_goes_on storage c acts k)
  starts-only storage s p t st walk k (outcome.Begins transfer) acts a e =
      let u = (begun_with_room storage transfer).transfer in
      only-asked (on_accept.with_program_at_work s st.program u) (record { program = st.program; primary_shown = false; transfer = u })
      (asked k.orb k.now.acts) (asked k.orb (k.now.acts ▸▸ acts)) u.pci_pending a.1
  starts-only storage s p t st walk k outcome.Suspends acts a e =
      none-sent (device_released-silent (suspension.program_suspended s st.program walk st.count)) e
  starts-only storage s p t st walk k (outcome.Stops check) acts a e =
      none-sent (device_released-silent (with_cause s (cause.FetchFault walk.tried check st.count))) e

  -- something is fetched
  starts-some : (storage : Contents) (c : CommandStart) (acts : Sequence Act) (k : ProgramTrace) → 1 ≤ count acts →
      (stories.trace_goes_on storage c acts k).now.acts ≡ k.now.acts → ⊥
  starts-some storage (outcome.Begins transfer) acts k l e = longer acts k.now.acts l e
  starts-some storage outcome.Suspends acts k l e = longer acts k.now.acts l e
  starts-some storage (outcome.Stops check) acts k l e = longer acts k.now.acts l e

  -- and all that is next
  starts-whole : (storage : Contents) (k : ProgramTrace) (acts : Sequence Act) (n : ℕ) (walk : WalkPosition) (c : CommandStart) →
      WentOn k.earlier laws storage k.orb k.now.acts (k.now.acts ▸▸ acts) n walk c →
      (next k.orb (stories.trace_goes_on storage c acts k).now.acts ≡ None) ⊎ IsSuspended k.orb (stories.trace_goes_on storage c acts k).now.acts
  starts-whole storage k acts n walk (outcome.Begins transfer) w = inl w.0.stands
  starts-whole storage k acts n walk outcome.Suspends w = inr w.5
  starts-whole storage k acts n walk (outcome.Stops check) w = inl w.3

  starts-on : (storage : Contents) (s : SubchannelState) (p t : ℕ) (st : ProgramPosition) (k : ProgramTrace) → st.walk ≡ walk_position k.orb k.now.acts →
      (role_of k.orb k.now.acts).chained ≡ false → count (commands k.orb k.now.acts) ≡ k.earlier → IsProgram k.orb k.now.acts → t ≡ k.number → k.sent ≡ 0 → IsRest st.count k →
      has_check k.orb k.now.acts ≡ false → EndsAtCheck k.orb k.now.acts → (address : ℕ) → next k.orb k.now.acts ≡ Some address →
      Starts storage s (on_accept.begins_at storage s p t (Some st)) k (stories.trace_begins storage st.walk k)
  starts-on storage s p t st k w c l p' f z r hc en address at =
      let old : WalkPosition = walk_position k.orb k.now.acts in
      let many : count (commands k.orb k.now.acts) + 1 ≡ k.earlier + 1 = ap (λ (n : ℕ). n + 1) l in
      let went = goes-on k.earlier laws storage k.orb k.now.acts 1 c many p' hc en in
      let first = first_command storage old in
      let some : 1 ≤ count (advance_acts storage old) = advance-some storage k.orb k.now.acts address at in
      let all : count (first_acts storage old) ≡ count (room_acts storage first.outcome) + count (advance_acts storage old) =
      count-joined (advance_acts storage old) (room_acts storage first.outcome) in
      subst
      (λ (x : WalkPosition). Starts storage s (on_accept.first_ccw_outcome storage s p t st (first_command storage x).walk (first_command storage x).outcome) k
      (stories.trace_begins storage x k))
      (sym w)
      (λ h. (
        record {
          goes = (
            k.now.acts ▸▸ first_acts storage old,
            (first_acts storage old, refl, goes-fetched k.earlier laws storage k.orb k.now.acts 1 c many p' hc en),
            begins-goes laws storage s p t st first.walk k first.outcome (first_acts storage old) 1 went f
                (let n : 1 ≡ k.sent + 1 = omega (arith, z) in n),
          );
          fetches = starts-some storage first.outcome (first_acts storage old) k (omega (arith, some, all));
          whole = starts-whole storage k (first_acts storage old) 1 first.walk first.outcome went;
        },
        starts-shows storage s p t st first.walk k first.outcome (first_acts storage old) 1 went r h,
        starts-asks storage s p t st first.walk k first.outcome (first_acts storage old) (goes-asking storage k.orb k.now.acts 1),
        starts-only storage s p t st first.walk k first.outcome (first_acts storage old) (goes-asking storage k.orb k.now.acts 1),
      ))

  again-on : (storage : Contents) (s : SubchannelState) (p t : ℕ) (st : ProgramPosition) (k : ProgramTrace) (x : Bool) → is_some (if x then Some st else None) ≡ true →
      st.walk ≡ walk_position k.orb k.now.acts → (role_of k.orb k.now.acts).chained ≡ false → IsProgram k.orb k.now.acts → t ≡ k.number → k.sent ≡ 0 → IsRest st.count k →
      IsSuspended k.orb k.now.acts → EndsAtCheck k.orb k.now.acts →
      Starts storage s (on_accept.begins_at storage s p t (if x then Some st else None)) (beginning None k) (if x then stories.begins_again storage st k else k)
  again-on storage s p t st k true e w c p' f z r su en =
      let at = suspended-next k.orb k.now.acts su in
      starts-on storage s p t st (beginning None k) w c refl p' f z r (suspended-unchecked k.orb k.now.acts su en) en at.0 at.1
  again-on storage s p t st k false e w c p' f z r su en = absurd (cc e)

  suspended-on : (storage : Contents) (s : SubchannelState) (p t : ℕ) (b : Option ActiveProgram) (st : Option ProgramPosition) (start : ℕ) (k : ProgramTrace) →
      is_some (suspended_position st start) ≡ true → IsStanding None b st k → IsProgram k.orb k.now.acts → EndsAtCheck k.orb k.now.acts → t ≡ k.number → k.sent ≡ 0 →
      Starts storage s (on_accept.begins_at storage s p t (suspended_position st start)) (beginning None k) (stories.again_as storage st start k)
  suspended-on storage s p t b None start k e x p' en f z = absurd (cc e)
  suspended-on storage s p t b (Some st) start k e x p' en f z = again-on storage s p t st k (st.program.start == start) e x.2 x.3 p' f z x.4 x.5 en

  anew-on : (storage : Contents) (s : SubchannelState) (p t : ℕ) (program : Program) (b : Option ActiveProgram) (st : Option ProgramPosition) (start : ℕ) (k : ProgramTrace) (x : Bool) →
      is_some (if x then Some (position_at_start program) else suspended_position st start) ≡ true → IsStanding (Some program) b st k → t ≡ k.number → k.sent ≡ 0 →
      Starts storage s (on_accept.begins_at storage s p t (if x then Some (position_at_start program) else suspended_position st start)) (beginning (Some program) k)
      (if x then stories.begins_anew storage program k else stories.again_as storage st start k)
  anew-on storage s p t program b st start k true e x f z = starts-on storage s p t (position_at_start program) (beginning (Some program) k) refl refl refl tt f z refl refl tt program.orb.program refl
  anew-on storage s p t program b None start k false e x f z = absurd (cc e)
  anew-on storage s p t program b (Some st) start k false e x f z = absurd (cc x.0)

  standing-on : (storage : Contents) (s : SubchannelState) (p t : ℕ) (w : Option Program) (b : Option ActiveProgram) (st : Option ProgramPosition) (start : ℕ) (k : ProgramTrace) →
      is_some (position_of_start w st start) ≡ true → IsStanding w b st k → IsProgram k.orb k.now.acts → EndsAtCheck k.orb k.now.acts → t ≡ k.number → k.sent ≡ 0 →
      Starts storage s (on_accept.begins_at storage s p t (position_of_start w st start)) (beginning w k) (stories.begins_as storage w st start k)
  standing-on storage s p t None b st start k e x p' en f z = suspended-on storage s p t b st start k e x p' en f z
  standing-on storage s p t (Some program) b st start k e x p' en f z = anew-on storage s p t program b st start k (program.start == start) e x f z

  -- an Accept
  abbrev AcceptsBy : Contents → SubchannelState → ℕ → Option HoldStep → ProgramTrace → Type 0
  AcceptsBy storage s u step k =
      let x : UpStep = on_accept.takes_accept storage s step in
      let after : ProgramTrace = stories.trace_accepted storage s step k in
      IsHeld x.state after → Meets storage storage s x.state (up.Accept u) x.outcome.taken x.outcome.sent k after

  taken-meets : (storage : Contents) (s : SubchannelState) (u : ℕ) (x : UpStep) (k after : ProgramTrace) → u ≡ k.number → x.outcome.taken ≡ true → Accepted storage s x.state x.outcome.sent k after →
      Meets storage storage s x.state (up.Accept u) x.outcome.taken x.outcome.sent k after
  taken-meets storage s u x k after n e a = subst (λ (b : Bool). Meets storage storage s x.state (up.Accept u) b x.outcome.sent k after) (sym e) (n, refl, a)

  and-true : (a b : Bool) → (a && b) ≡ true → a ≡ true
  and-true true b e = refl
  and-true false b e = absurd (cc e)

  begun-meets : (storage : Contents) (s : SubchannelState) (k : ProgramTrace) (u t q : ℕ) (may : Bool) → takes_device s ≡ may → u ≡ t → IsHeld s k → IsOfferedAt (hold.Offer t q) s.waiting s.suspended s.offered k → t ≡ k.number → k.sent ≡ 0 →
      AcceptsBy storage s u (Some (hold_table.program_begun s.hold t q may)) k
  begun-meets storage s k u t q true e i h o f z g =
      let on : SubchannelState = record s { hold = record s.hold { phase = hold.On t q 0; seen = 0; first_path = Some q }; pmcw = with_path_used s.pmcw q } in
      let x : UpStep = on_accept.begins_at storage on q t (offered_position s) in
      let stands : is_some (offered_position s) ≡ true = and-true (is_some (offered_position s)) (not s.scsw.activity.halt_pending) e in
      let done = done-held s k h in
      let same : beginning s.waiting k ≡ k = begins-same s.waiting s.begun s.suspended s.offered k stands h.standing o.0 o.1 in
      let starts =
      subst (λ (y : ProgramTrace). Starts storage on x y (stories.begins_as storage s.waiting s.suspended s.offered k)) same
      (standing-on storage on q t s.waiting s.begun s.suspended s.offered k stands h.standing done.program done.ends f z) g in
      taken-meets storage s u x k (stories.begins_as storage s.waiting s.suspended s.offered k) (i ∙ f) (standing-taken storage on q t (offered_position s))
      (inr (ahead-over s e, starts.0, starts.1, starts.2, starts.3))
  begun-meets storage s k u t q false e i h o f z g =
      let letting : SubchannelState = record s { hold = record s.hold { phase = hold.Letting t q; seen = 0; first_path = Some q }; pmcw = with_path_used s.pmcw q } in
      (i ∙ f, refl, inl (over s e, refl, refl, of-program s (halt_performed letting) (Some k) h (halt-shows letting)))

  offer-meets : (storage : Contents) (s : SubchannelState) (k : ProgramTrace) (u t q : ℕ) (x : Bool) → (u == t) ≡ x → IsHeld s k → IsOfferedAt (hold.Offer t q) s.waiting s.suspended s.offered k → t ≡ k.number → k.sent ≡ 0 →
      AcceptsBy storage s u (if x then Some (hold_table.program_begun s.hold t q (takes_device s)) else None) k
  offer-meets storage s k u t q true e h o f z g = begun-meets storage s k u t q (takes_device s) refl (eqb-true u t e) h o f z g
  offer-meets storage s k u t q false e h o f z g = (refl, refl, none-counted s s k refl)

  pub accept-meets : (storage : Contents) (s : SubchannelState) (k : ProgramTrace) (u : ℕ) (phase : HoldPhase) → s.hold.phase ≡ phase → IsHeld s k → IsOffered s k →
      AcceptsBy storage s u (hold_table.offer_accepted s.hold phase u (takes_device s)) k
  accept-meets storage s k u (hold.Offer t q) e h o g =
      let f : IsPhase (hold.Offer t q) k.number s.begun k.sent = subst (λ (x : HoldPhase). IsPhase x k.number s.begun k.sent) e h.phase in
      offer-meets storage s k u t q (u == t) refl h (subst (λ (x : HoldPhase). IsOfferedAt x s.waiting s.suspended s.offered k) e o) f.0 f.2 g
  accept-meets storage s k u other e h o g = (refl, refl, none-counted s s k refl)
