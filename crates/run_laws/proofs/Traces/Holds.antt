-- What a subchannel keeps of its program agrees with the program's trace, at each event.
use Rattle.std.proofs.Common.{◌≡◌, refl, sym, ◌∙◌, subst, ℕ, ◌≤◌, ◌<◌, Bool, true, false, Option, Some, None, inl}
use Rattle.std.specs.Prelude.{is_some, if◌then◌else◌, ◌==◌, ◌&&◌, nat_lt}
use Rattle.std.proofs.lemmas.List.Elements.{All-nil}
use Rattle.orb_block.specs.declared.Orb.{Orb}
use Rattle.chan_model.specs.declared.hold_state.HoldPhase.{HoldPhase}
use Rattle.chan_model.specs.declared.hold_state.HoldPhase.TheVariants as hold
use Rattle.chan_model.specs.declared.hold_state.HoldState.{HoldState}
use Rattle.chan_model.specs.HoldTable as hold_table
use Rattle.chan_model.specs.HoldTable.{HoldStep, hold_after, letting_go}
use Rattle.chan_model.specs.UnitReports.{is_outward}
use Rattle.ccw_walk.specs.Sequences.{Nothing}
use Rattle.ccw_walk.specs.Programs.{role_of}
use Rattle.ccw_walk.specs.Positions.{walk_position}
use Rattle.data_move.specs.declared.transfer.Transfer.{Transfer}
use Rattle.scsw_irb.specs.declared.scsw.Scsw.{Scsw}
use Rattle.subchannel_model.specs.declared.state.ActiveProgram.{ActiveProgram}
use Rattle.subchannel_model.specs.declared.state.PmcwState.{PmcwState}
use Rattle.subchannel_model.specs.declared.state.Program.{Program}
use Rattle.subchannel_model.specs.declared.state.SubchannelState.{SubchannelState}
use Rattle.subchannel_model.specs.declared.state.ProgramPosition.{ProgramPosition}
use Rattle.subchannel_model.specs.declared.cause.StatusCause.TheVariants as cause
use Rattle.subchannel_model.specs.Causes.{with_cause}
use Rattle.subchannel_model.specs.Programs.{has_any, without_programs}
use Rattle.subchannel_model.specs.Losing.{is_offered_or_held}
use Rattle.subchannel_model.specs.Attention.{with_attention}
use Rattle.subchannel_model.specs.Outcomes.{device_released, hold_outcome}
use Rattle.subchannel_model.specs.Back.{takes_back}
use Rattle.subchannel_model.specs.Accept.{halt_performed}
use Rattle.subchannel_model.specs.Cleared.{clear_performed, takes_cleared}
use Rattle.run_laws.specs.Traces.{CommandTrace, no_trace, ProgramTrace, past_part}
use Rattle.run_laws.specs.Shows.{IsRest}
use Rattle.run_laws.specs.ProgramClaims.{IsStored, places_of, IsSuspended}
use Rattle.run_laws.proofs.Bytes.Lists.{begins-all}
use Rattle.run_laws.proofs.Traces.Ties.{IsFresh}
use Rattle.run_laws.proofs.Traces.Parts.{IsDone, IsAtWork, done-of}

-- the number of a hold's phase is that of the offer, or of a Reset that was drawn later; a program is at work only where it
-- is connected or away; one that is offered has sent nothing
abbrev pub IsPhase : HoldPhase → ℕ → Option ActiveProgram → ℕ → Type 0
IsPhase hold.Free n b sent = b ≡ None
IsPhase (hold.Offer t p) n b sent = (t ≡ n) × (b ≡ None) × (sent ≡ 0)
IsPhase (hold.On t p c) n b sent = t ≡ n
IsPhase (hold.Away t) n b sent = t ≡ n
IsPhase (hold.Letting t p) n b sent = (t ≡ n) × (b ≡ None)
IsPhase (hold.Reset r) n b sent = (b ≡ None) × (n < r)

-- the number of a Reset was drawn
abbrev pub IsDrawn : HoldPhase → ℕ → Type 0
IsDrawn (hold.Reset r) drawn = r ≤ drawn
IsDrawn other drawn = Unit {0}

-- the program is at work, or over
-- its marks are those of the transfer
abbrev pub IsMarked : CommandTrace → Transfer → Type 0
IsMarked p t =
    (p.sequence ≡ t.sequence) × (p.given ≡ t.offered) × (p.stopped ≡ t.stopped) × (p.stopped_by_check ≡ is_some t.fault) × (p.ended ≡ t.ended) × (p.unchained ≡ t.unchained)

-- those of a command that begins
abbrev FreshMarked : Transfer → Type 0
FreshMarked t = (0 ≡ t.sequence) × (0 ≡ t.offered) × (false ≡ t.stopped) × (is_some t.fault ≡ is_some t.fault) × (false ≡ t.ended) × (false ≡ t.unchained)

pub fresh-marked : (t : Transfer) → IsFresh t → FreshMarked t
fresh-marked t f = (sym f.0, sym f.1, sym f.2, refl, sym f.3, sym f.4)

abbrev pub HasWork : Option ActiveProgram → ProgramTrace → Type 0
HasWork None k = IsDone k.orb k.now
HasWork (Some b) k = IsAtWork k.earlier k.orb k.now b.transfer (is_outward b.transfer.code) × (b.transfer.command ≡ k.sent) × (1 ≤ k.sent)
    × IsMarked k.now b.transfer × (b.program.orb ≡ k.orb)

-- one that is suspended stands where the trace left it, where a command may begin, with the count that was left; no other waits or
-- is at work
abbrev pub IsStanding : Option Program → Option ActiveProgram → Option ProgramPosition → ProgramTrace → Type 0
IsStanding waiting begun None k = Unit {0}
IsStanding waiting begun (Some st) k =
    (waiting ≡ None) × (begun ≡ None) × (st.walk ≡ walk_position k.orb k.now.acts) × ((role_of k.orb k.now.acts).chained ≡ false) × IsRest st.count k
    × IsSuspended k.orb k.now.acts × (st.program.orb ≡ k.orb)

pub record IsHeld (s : SubchannelState) (k : ProgramTrace) : Type 0 where
  pub number : k.number ≤ s.drawn
  pub phase : IsPhase s.hold.phase k.number s.begun k.sent
  pub drawn : IsDrawn s.hold.phase s.drawn
  pub work : HasWork s.begun k
  pub standing : IsStanding s.waiting s.begun s.suspended k

-- nothing was offered: the hold is free, or to be reset
abbrev pub IsUnheld : HoldPhase → ℕ → Type 0
IsUnheld hold.Free drawn = Unit {0}
IsUnheld (hold.Reset r) drawn = r ≤ drawn
IsUnheld other drawn = ⊥

pub record IsUntold (s : SubchannelState) : Type 0 where
  pub phase : IsUnheld s.hold.phase s.drawn
  pub begun : s.begun ≡ None
  pub suspended : s.suspended ≡ None

abbrev pub HeldBy : SubchannelState → Option ProgramTrace → Type 0
HeldBy s None = IsUntold s
HeldBy s (Some k) = IsHeld s k

-- the path management and the status word do not matter
pub marked-held : (s : SubchannelState) (pmcw : PmcwState) (scsw : Scsw) (k : Option ProgramTrace) → HeldBy s k →
    HeldBy (record s { pmcw = pmcw; scsw = scsw }) k
marked-held s pmcw scsw None h = record { phase = h.phase; begun = h.begun; suspended = h.suspended }
marked-held s pmcw scsw (Some k) h = record { number = h.number; phase = h.phase; drawn = h.drawn; work = h.work; standing = h.standing }

pub done-held : (s : SubchannelState) (k : ProgramTrace) → IsHeld s k → IsDone k.orb k.now
done-held s k h = by s.begun h.work
  where
    by : (b : Option ActiveProgram) → HasWork b k → IsDone k.orb k.now
    by None w = w
    by (Some b) w = done-of k.earlier k.orb k.now b.transfer (is_outward b.transfer.code) w.0

-- phases
pub phase-some : (phase : HoldPhase) (n : ℕ) (b c : ActiveProgram) (sent more : ℕ) → IsPhase phase n (Some b) sent → IsPhase phase n (Some c) more
phase-some hold.Free n b c sent more k = absurd (cc k)
phase-some (hold.Offer t p) n b c sent more k = absurd (cc k.1)
phase-some (hold.On t p d) n b c sent more k = k
phase-some (hold.Away t) n b c sent more k = k
phase-some (hold.Letting t p) n b c sent more k = absurd (cc k.1)
phase-some (hold.Reset r) n b c sent more k = absurd (cc k.0)

pub phase-none : (phase : HoldPhase) (n : ℕ) (b : Option ActiveProgram) (sent : ℕ) → IsPhase phase n b sent → IsPhase phase n None sent
phase-none hold.Free n b sent k = refl
phase-none (hold.Offer t p) n b sent k = (k.0, refl, k.2)
phase-none (hold.On t p d) n b sent k = k
phase-none (hold.Away t) n b sent k = k
phase-none (hold.Letting t p) n b sent k = (k.0, refl)
phase-none (hold.Reset r) n b sent k = (refl, k.1)

-- where the hold is reset and nothing is to be shown, no program is begun
pub unshown-begun : (phase : HoldPhase) (n sent : ℕ) (w : Option Program) (b : Option ActiveProgram) (d : Option ProgramPosition) → (is_offered_or_held phase && has_any w b d) ≡ false →
    IsPhase phase n b sent → b ≡ None
unshown-begun phase n sent w None d f k = refl
unshown-begun hold.Free n sent w (Some b) d f k = k
unshown-begun (hold.Offer t p) n sent w (Some b) d f k = k.1
unshown-begun (hold.On t p c) n sent None (Some b) d f k = absurd (cc f)
unshown-begun (hold.On t p c) n sent (Some w) (Some b) d f k = absurd (cc f)
unshown-begun (hold.Away t) n sent None (Some b) d f k = absurd (cc f)
unshown-begun (hold.Away t) n sent (Some w) (Some b) d f k = absurd (cc f)
unshown-begun (hold.Letting t p) n sent w (Some b) d f k = k.1
unshown-begun (hold.Reset r) n sent w (Some b) d f k = k.0

phase-free : (phase : HoldPhase) (n : ℕ) (b : Option ActiveProgram) (sent : ℕ) → phase ≡ hold.Free → IsPhase phase n b sent → b ≡ None
phase-free phase n b sent e k = subst (λ (x : HoldPhase). IsPhase x n b sent) e k

module _ (drawn n : ℕ) (b : Option ActiveProgram) (sent : ℕ) where
  abbrev pub IsHold : HoldPhase → Type 0
  IsHold phase = IsPhase phase n b sent × IsDrawn phase drawn

  abbrev Keeps : HoldState → HoldPhase → Option HoldStep → Type 0
  Keeps h phase step = h.phase ≡ phase → IsHold phase → IsHold (hold_after h step).phase

  same-phase : (h : HoldState) (phase : HoldPhase) → Keeps h phase None
  same-phase h phase e k = subst (λ (x : HoldPhase). IsHold x) (sym e) k

  step-phase : (h : HoldState) (phase : HoldPhase) (x : Bool) (step : HoldStep) → (IsHold phase → IsHold step.state.phase) →
      Keeps h phase (if x then Some step else None)
  step-phase h phase true step f e k = f k
  step-phase h phase false step f e k = same-phase h phase e k

  pub busy-phase : (h : HoldState) (phase : HoldPhase) (u : ℕ) → Keeps h phase (hold_table.found_busy h phase u)
  busy-phase h (hold.Offer t p) u = step-phase h (hold.Offer t p) (u == t) (hold_table.hold_quietly (record h { phase = hold.Free })) (λ k. (k.0.1, tt))
  busy-phase h other u = same-phase h other

  pub left-phase : (h : HoldState) (phase : HoldPhase) (u d : ℕ) → Keeps h phase (hold_table.left h phase u d)
  left-phase h (hold.On t p c) u d = step-phase h (hold.On t p c) ((u == t) && (d == c)) (hold_table.hold_quietly (record h { phase = hold.Away t })) (λ k. k)
  left-phase h other u d = same-phase h other

  refused-phase : (h : HoldState) (phase : HoldPhase) (x : Bool) (p t c : ℕ) → Keeps h phase (if x then Some (hold_table.refusing h p t c) else None)
  refused-phase h phase true p t c e k = subst (λ (x : HoldPhase). IsHold x) (sym e) k
  refused-phase h phase false p t c e k = same-phase h phase e k

  asked-phase : (h : HoldState) (t : ℕ) (x may : Bool) (p c : ℕ) →
      Keeps h (hold.Away t) (if x then (if may then Some (hold_table.granting h p t c) else Some (hold_table.refusing h p t c)) else None)
  asked-phase h t true true p c e k = k
  asked-phase h t true false p c e k = subst (λ (x : HoldPhase). IsHold x) (sym e) k
  asked-phase h t false may p c e k = same-phase h (hold.Away t) e k

  pub back-phase : (h : HoldState) (phase : HoldPhase) (p u c : ℕ) (may : Bool) → Keeps h phase (hold_table.asked_back h phase p u c may)
  back-phase h (hold.On t q d) p u c may = refused-phase h (hold.On t q d) ((u == t) && nat_lt h.seen c) p t c
  back-phase h (hold.Away t) p u c may = asked-phase h t ((u == t) && nat_lt h.seen c) may p c
  back-phase h other p u c may = same-phase h other

  pub released-phase : (h : HoldState) (phase : HoldPhase) (u : ℕ) → Keeps h phase (hold_table.released h phase u)
  released-phase h (hold.Letting t p) u = step-phase h (hold.Letting t p) (u == t) (hold_table.hold_quietly (record h { phase = hold.Free })) (λ k. (k.0.1, tt))
  released-phase h other u = same-phase h other

  pub attended-phase : (h : HoldState) (phase : HoldPhase) (p a : ℕ) (may : Bool) → Keeps h phase (hold_table.attended h phase p a may)
  attended-phase h hold.Free p a true = λ e k. subst (λ (x : HoldPhase). IsHold x) (sym e) k
  attended-phase h hold.Free p a false = same-phase h hold.Free
  attended-phase h other p a may = same-phase h other

  -- the device is let go
  device_released-phase : (h : HoldState) (phase : HoldPhase) → b ≡ None → Keeps h phase (letting_go h phase)
  device_released-phase h (hold.On t p c) z = λ e k. ((k.0, z), tt)
  device_released-phase h other z = same-phase h other

pub hold_outcome-held : (s : SubchannelState) (k : ProgramTrace) (step : Option HoldStep) → IsHeld s k → IsHold s.drawn k.number s.begun k.sent (hold_after s.hold step).phase →
    IsHeld (hold_outcome s step).state k
hold_outcome-held s k step h p = record { number = h.number; phase = p.0; drawn = p.1; work = h.work; standing = h.standing }

pub back-held : (s : SubchannelState) (k : ProgramTrace) (p : ℕ) (step : Option HoldStep) → IsHeld s k →
    IsHold s.drawn k.number s.begun k.sent (hold_after s.hold step).phase → IsHeld (takes_back s p step).state k
back-held s k p step h i = record { number = h.number; phase = i.0; drawn = i.1; work = h.work; standing = h.standing }

pub device_released-held : (s : SubchannelState) (k : ProgramTrace) → k.number ≤ s.drawn → IsHold s.drawn k.number s.begun k.sent s.hold.phase → s.begun ≡ None → IsDone k.orb k.now →
    IsStanding s.waiting s.begun s.suspended k → IsHeld (device_released s).state k
device_released-held s k n p z d st =
    let next : IsHold s.drawn k.number s.begun k.sent (device_released s).state.hold.phase = device_released-phase s.drawn k.number s.begun k.sent s.hold s.hold.phase z refl p in
    record {
      number = n;
      phase = next.0;
      drawn = next.1;
      work = subst (λ (b : Option ActiveProgram). HasWork b k) (sym z) d;
      standing = st;
    }

-- none stands still beside a program at work
pub standing-some : (w : Option Program) (b : Option ActiveProgram) (c : ActiveProgram) (st : Option ProgramPosition) (k : ProgramTrace) → b ≡ Some c → IsStanding w b st k → st ≡ None
standing-some w b c None k e x = refl
standing-some w b c (Some st) k e x = absurd (cc (sym e ∙ x.1))

pub none-stands : (w : Option Program) (b : Option ActiveProgram) (st : Option ProgramPosition) (k : ProgramTrace) → st ≡ None → IsStanding w b st k
none-stands w b st k e = subst (λ (x : Option ProgramPosition). IsStanding w b x k) (sym e) tt

-- a halt or a clear that is pending is performed
pub without-held : (s : SubchannelState) (k : ProgramTrace) → IsHeld s k → IsHeld (without_programs s) k
without-held s k h = record {
  number = h.number;
  phase = phase-none s.hold.phase k.number s.begun k.sent h.phase;
  drawn = h.drawn;
  work = done-held s k h;
  standing = tt;
}

pub halted-held : (s : SubchannelState) (k : ProgramTrace) → IsHeld s k → IsHeld (with_cause s cause.HaltDone) k
halted-held s k h = let x : IsHeld (without_programs s) k = without-held s k h in record { number = x.number; phase = x.phase; drawn = x.drawn; work = x.work; standing = x.standing }

pub halt_performed-held : (s : SubchannelState) (k : ProgramTrace) → IsHeld s k → IsHeld (halt_performed s) k
halt_performed-held s k h = by s.scsw.activity.halt_pending
  where
    by : (b : Bool) → IsHeld (if b then with_cause s cause.HaltDone else s) k
    by true = halted-held s k h
    by false = h

-- attention: a start that waits is over
unwaiting : (w : Option Program) (b : Option ActiveProgram) (st : Option ProgramPosition) (k : ProgramTrace) → IsStanding w b st k → IsStanding None b st k
unwaiting w b None k x = tt
unwaiting w b (Some st) k x = (refl, x.1, x.2, x.3, x.4, x.5, x.6)

pub attention-held : (s : SubchannelState) (k : ProgramTrace) (shows : Bool) → IsHeld s k → IsHeld (with_attention s shows) k
attention-held s k true h =
    record { number = h.number; phase = h.phase; drawn = h.drawn; work = h.work; standing = unwaiting s.waiting s.begun s.suspended k h.standing }
attention-held s k false h = h

pub cleared-held : (s : SubchannelState) (k : ProgramTrace) → IsHeld s k → IsHeld (with_cause s cause.ClearDone) k
cleared-held s k h = record { number = h.number; phase = h.phase; drawn = h.drawn; work = h.work; standing = h.standing }

pub clear_performed-held : (s : SubchannelState) (k : ProgramTrace) → IsHeld s k → IsHeld (clear_performed s) k
clear_performed-held s k h = by s.scsw.activity.clear_pending
  where
    by : (b : Bool) → IsHeld (if b then with_cause s cause.ClearDone else s) k
    by true = cleared-held s k h
    by false = h

pub takes_cleared-held : (s : SubchannelState) (k : ProgramTrace) (u : ℕ) (phase : HoldPhase) → s.hold.phase ≡ phase → IsHeld s k →
    IsHeld (takes_cleared s (hold_table.reset_cleared s.hold phase u)).state k
takes_cleared-held s k u hold.Free e h = h
takes_cleared-held s k u (hold.Offer t p) e h = h
takes_cleared-held s k u (hold.On t p c) e h = h
takes_cleared-held s k u (hold.Away t) e h = h
takes_cleared-held s k u (hold.Letting t p) e h = h
takes_cleared-held s k u (hold.Reset r) e h = by (u == r)
  where
    by : (x : Bool) → IsHeld (takes_cleared s (if x then Some (hold_table.hold_quietly (record s.hold { phase = hold.Free; reset_path = None })) else None)).state k
    by true =
        let f : IsPhase (hold.Reset r) k.number s.begun k.sent = subst (λ (x : HoldPhase). IsPhase x k.number s.begun k.sent) e h.phase in
        clear_performed-held (record s { hold = record s.hold { phase = hold.Free; reset_path = None } }) k
        (record { number = h.number; phase = f.0; drawn = tt; work = h.work; standing = h.standing })
    by false = h

pub none-begun : (s : SubchannelState) (k : Option ProgramTrace) → HeldBy s k → s.hold.phase ≡ hold.Free → s.begun ≡ None
none-begun s None h e = h.begun
none-begun s (Some k) h e = phase-free s.hold.phase k.number s.begun k.sent e h.phase

pub nothing-done : (orb : Orb) → IsDone orb no_trace
nothing-done orb = record { program = tt; whole = inl refl; ends = tt; moves = begins-all (places_of orb Nothing); arrived = All-nil IsStored; arrives = begins-all (places_of orb Nothing) }

pub past-done : (orb : Orb) (p : CommandTrace) → IsDone orb p → IsDone orb (past_part p)
past-done orb p d = record { program = d.program; whole = d.whole; ends = d.ends; moves = d.moves; arrived = All-nil IsStored; arrives = begins-all (places_of orb p.acts) }
