-- What one step does to one subchannel: an instruction, a choice, a signal that comes up, what befalls each subchannel, or nothing.
use Rattle.std.proofs.Common.{◌≡◌, refl, sym, ◌∙◌, ap, subst, ℕ, ◌+◌, ◌&&◌, Bool, true, false, nat_lt, Option, None, Some, Result, Ok, Err, List, length, map, inl, inr}
use Rattle.std.specs.Prelude.{slice_get, slice_set, if◌then◌else◌, IfOk}
use Rattle.std.proofs.lemmas.Option.{same_Some}
use Rattle.allegiance.specs.PathUse.{usable_paths}
use Rattle.path_select.specs.Choice.{IsChoice}
use Rattle.storage_keys.specs.Storage.{Contents}
use Rattle.channel_config.specs.declared.names.SubchannelId.{SubchannelId}
use Rattle.channel_config.specs.SubchannelWords.{subchannel_named}
use Rattle.chan_model.specs.declared.fault.Fault.{Fault}
use Rattle.chan_model.specs.declared.fault.Fault.TheVariants as fault
use Rattle.chan_model.specs.declared.hold_state.HoldPhase.{HoldPhase}
use Rattle.chan_model.specs.declared.hold_state.HoldPhase.TheVariants as hold
use Rattle.chan_model.specs.declared.hold_state.HoldState.{HoldState}
use Rattle.chan_model.specs.Signals.{Down, Up}
use Rattle.chan_model.specs.declared.unit_state.UnitState.{UnitState}
use Rattle.chan_model.specs.UnitReports.{unit_reports}
use Rattle.chan_model.specs.UnitTable as unit_table
use Rattle.chan_model.specs.UnitTable.{UnitStep, unit_takes}
use Rattle.chan_events.specs.Events.{Event}
use Rattle.chan_events.specs.declared.event.Event.TheVariants as event
use Rattle.chan_events.specs.declared.event.Instruction.{Instruction}
use Rattle.chan_events.specs.declared.event.UnitAct.{UnitAct}
use Rattle.chan_events.specs.Replies.{Reply}
use Rattle.chan_events.specs.declared.reply.Reply.TheVariants as reply
use Rattle.run_laws.specs.StateClaims.{is_id}
use Rattle.machine_model.specs.declared.state.Sweep.{Sweep}
use Rattle.machine_model.specs.declared.state.Sweep.TheVariants as sweep
use Rattle.machine_model.specs.ActSteps.{has_path_of_act, acts, act_sub}
use Rattle.machine_model.specs.ChooseSteps.{choose_sub}
use Rattle.machine_model.specs.DownSteps.{down_front, down_sub, asks_at}
use Rattle.chan_events.specs.Instructions.{subchannel_word}
use Rattle.machine_model.specs.PathSteps.{swept, with_swept}
use Rattle.machine_model.specs.ReportSteps.{report_taken}
use Rattle.machine_model.specs.State.{State, index_of, with_sub}
use Rattle.machine_model.specs.Steps.{Step}
use Rattle.machine_model.specs.Results.{SubResult, UpResult, DownResult, with_state}
use Rattle.machine_model.specs.UpSteps.{up_front, up_sub, returns_at}
use Rattle.step_laws.proofs.Indices.{set-get, map-get, found-there}
use Rattle.step_laws.specs.Walks.{sweep_event}
use Rattle.subchannel_model.specs.declared.cause.StatusCause.TheVariants as cause
use Rattle.subchannel_model.specs.declared.state.Chosen.{Chosen}
use Rattle.subchannel_model.specs.declared.state.Chosen.TheVariants.{Idle, Resets, PerformsClear, Halts, PerformsHalt, FindsNoPath, Offers}
use Rattle.subchannel_model.specs.declared.state.Subchannel.{Subchannel}
use Rattle.subchannel_model.specs.declared.state.SubchannelState.{SubchannelState}
use Rattle.subchannel_model.specs.Causes.{with_cause}
use Rattle.subchannel_model.specs.Choosing.{path_use, engaged_paths, return_paths, is_away, unsent_reset, paths_unreset, paths_to_choose, chosen, marked_sub, reset_sent, halt_sent, offered}
use Rattle.subchannel_model.specs.Indices.{Found, found_at, index_in, index_of_id, found_with}
use Rattle.subchannel_model.specs.Sending.{carried_by, finds_full}
use Rattle.subchannel_model.specs.Store.{available_paths}
use Rattle.subchannel_model.specs.Outcomes.{SignalOutcome}
use Rattle.subchannel_model.specs.Taking.{takes_up}
use Rattle.wires.specs.Queues.{queue}
use Rattle.run_laws.specs.Shown.{names, is_about}
use Rattle.step_laws.proofs.Executed.{IsEffect, reply_of, code_for, state_left, IsDone}
use Rattle.run_laws.proofs.Shown.Executed.{IsExecuted, as-executed}
use Rattle.run_laws.proofs.Machine.Names.{same-id, named-is, named-index}
use Rattle.machine_model.specs.Sharing.{may_take}
use Rattle.step_laws.proofs.Results as turn
use Rattle.step_laws.proofs.Results.{ResultOf, HasResult, step-turn}

-- what is answered as the subsystem does what is chosen, and what it leaves of the subchannel
abbrev pub reply_chosen : SubchannelState → Chosen → Reply
reply_chosen s Idle = reply.Idle
reply_chosen s (Resets r path) = reply.ResetSent r path
reply_chosen s (Halts t path) = reply.HaltSent t path
reply_chosen s (Offers c path) = reply.Offered (s.drawn + 1) path c.resumes
reply_chosen s other = reply.Pending

abbrev pub state_chosen : SubchannelState → Chosen → SubchannelState
state_chosen s Idle = s
state_chosen s (Resets r path) = reset_sent s path
state_chosen s PerformsClear = with_cause s cause.ClearDone
state_chosen s (Halts t path) = halt_sent s
state_chosen s PerformsHalt = with_cause s cause.HaltDone
state_chosen s FindsNoPath = with_cause s cause.NoPath
state_chosen s (Offers c path) = offered s c.program path

abbrev pub met : Bool → Contents → Subchannel → ℕ → Up → SignalOutcome
met returns storage sub path x = takes_up returns storage sub.state path x

abbrev pub reply_met : Up → SignalOutcome → Reply
reply_met x m = reply.Up x m.step.outcome.taken m.step.outcome.sent

-- a halt goes to a program that is away by a path by which it may come back, where there is one
abbrev pub IsAwayChoice : Subchannel → Option ℕ → Type 0
IsAwayChoice sub choice = sub.state.scsw.activity.halt_pending ≡ true → is_away sub.state.hold.phase ≡ true → IsChoice (return_paths sub) choice

pub data Turned (sets : ℕ) (id : SubchannelId) : Event → Reply → Subchannel → SubchannelState → Type 0 where
  Executes : (cpu : ℕ) (i : Instruction) (sub : Subchannel) (effect : SubchannelState) → names sets id (subchannel_word i) ≡ true → IsEffect i sub effect →
      Turned sets id (event.Execute cpu i) (reply_of i (code_for i sub) sub.state (state_left i sub effect)) sub (state_left i sub effect)
  Chooses : (word : ℕ) (sub : Subchannel) (choice : Option ℕ) → names sets id word ≡ true → IsAwayChoice sub choice →
      Turned sets id (event.Choose word) (reply_chosen (marked_sub sub choice).state (chosen sub choice)) sub (state_chosen (marked_sub sub choice).state (chosen sub choice))
  Meets : (word path : ℕ) (returns : Bool) (storage : Contents) (sub : Subchannel) (x : Up) → names sets id word ≡ true →
      Turned sets id (event.Up word path) (reply_met x (met returns storage sub path x)) sub (met returns storage sub path x).step.state
  Sweeps : (what : Sweep) (r : Reply) (sub : Subchannel) → Turned sets id (sweep_event what) r sub (swept what sub).state
  Rests : (e : Event) (r : Reply) (sub : Subchannel) → is_about sets id e ≡ false → Turned sets id e r sub sub.state

-- a choice
send-chosen : (sub : Subchannel) (state : SubchannelState) (full : Bool) (r : Reply) (other : Subchannel) (t : SubResult) → other.state ≡ state →
    (if full then Err fault.WireFull else Ok (record { reply = r; sub = other })) ≡ Ok t → (t.reply ≡ r) × (t.sub.state ≡ state)
send-chosen sub state true r other t e ok = absurd (cc ok)
send-chosen sub state false r other t e ok =
    let same : record { reply = r; sub = other } ≡ t = cc ok in
    (ap (λ (x : SubResult). x.reply) (sym same), ap (λ (x : SubResult). x.sub.state) (sym same) ∙ e)

abbrev turn_done : Reply → Subchannel → Result SubResult Fault
turn_done r sub = Ok (record { reply = r; sub = sub })

done-chosen : (r : Reply) (sub : Subchannel) (t : SubResult) → turn_done r sub ≡ Ok t → (t.reply ≡ r) × (t.sub.state ≡ sub.state)
done-chosen r sub t ok =
    let same : record { reply = r; sub = sub } ≡ t = cc ok in (ap (λ (x : SubResult). x.reply) (sym same), ap (λ (x : SubResult). x.sub.state) (sym same))

choice-left : (sub : Subchannel) (c : Chosen) (t : SubResult) → choose_sub sub c ≡ Ok t → (t.reply ≡ reply_chosen sub.state c) × (t.sub.state ≡ state_chosen sub.state c)
choice-left sub Idle t ok = done-chosen reply.Idle sub t ok
choice-left sub (Resets r path) t ok = send-chosen sub (reset_sent sub.state path) _ (reply.ResetSent r path) _ t refl ok
choice-left sub PerformsClear t ok = done-chosen reply.Pending (with_state sub (with_cause sub.state cause.ClearDone)) t ok
choice-left sub (Halts n path) t ok = send-chosen sub (halt_sent sub.state) _ (reply.HaltSent n path) _ t refl ok
choice-left sub PerformsHalt t ok = done-chosen reply.Pending (with_state sub (with_cause sub.state cause.HaltDone)) t ok
choice-left sub FindsNoPath t ok = done-chosen reply.Pending (with_state sub (with_cause sub.state cause.NoPath)) t ok
choice-left sub (Offers c path) t ok =
    send-chosen sub (offered sub.state c.program path) _ (reply.Offered (sub.state.drawn + 1) path c.resumes) _ t refl ok

unsent-away : (h : HoldState) (phase : HoldPhase) → is_away phase ≡ true → unsent_reset (record h { phase = phase }) ≡ None
unsent-away h (hold.Reset r) e = absurd (cc e)
unsent-away h other e = refl

away-choice : (subs : List Subchannel) (sub : Subchannel) (choice : Option ℕ) → IsChoice (paths_to_choose subs sub) choice → IsAwayChoice sub choice
away-choice subs sub choice is pending away =
    let h : HoldState = sub.state.hold in
    subst (λ (paths : List Bool). IsChoice paths choice)
    (ap (λ (o : Option ℕ). elim o [ None ↦ paths_unreset subs sub | Some r ↦ available_paths sub ]) (unsent-away h h.phase away)
    ∙ ap (λ (b : Bool). if b && is_away h.phase then return_paths sub else usable_paths (path_use sub) (engaged_paths subs sub)) pending
    ∙ ap (λ (b : Bool). if b then return_paths sub else usable_paths (path_use sub) (engaged_paths subs sub)) away) is

-- a signal that comes up
record IsMetBy (returns : Bool) (storage : Contents) (sub : Subchannel) (path : ℕ) (t : UpResult) : Type 0 where
  signal : Up
  replies : t.reply ≡ reply_met signal (met returns storage sub path signal)
  state : t.sub.state ≡ (met returns storage sub path signal).step.state

front-met : (returns : Bool) (storage : Contents) (sub : Subchannel) (path : ℕ) (x : Option Up) (t : UpResult) → up_front returns storage sub path x ≡ Ok t →
    IsMetBy returns storage sub path t
front-met returns storage sub path None t ok = absurd (cc ok)
front-met returns storage sub path (Some x) t ok = full (finds_full sub.wires.down (carried_by sub m.step.outcome.sent)) ok
  where
    m : SignalOutcome
    m = met returns storage sub path x

    full : (b : Bool) → (if b then Err fault.WireFull else Ok (record { reply = reply_met x m; sub = Rattle.machine_model.specs.UpSteps.with_met sub path m.step; storage = m.storage })) ≡ Ok t →
        IsMetBy returns storage sub path t
    full true e = absurd (cc e)
    full false e =
        let same : record { reply = reply_met x m; sub = Rattle.machine_model.specs.UpSteps.with_met sub path m.step; storage = m.storage } ≡ t = cc e in
        record { signal = x; replies = ap (λ (y : UpResult). y.reply) (sym same); state = ap (λ (y : UpResult). y.sub.state) (sym same) }

up-met : (returns : Bool) (storage : Contents) (sub : Subchannel) (path : ℕ) (t : UpResult) → up_sub returns storage sub path ≡ Ok t → IsMetBy returns storage sub path t
up-met returns storage sub path t ok = within (nat_lt path (length sub.setup.paths)) ok
  where
    within : (b : Bool) → (if b then up_front returns storage sub path (slice_get (queue sub.wires.up path) 0) else Err fault.NoSuchPath) ≡ Ok t → IsMetBy returns storage sub path t
    within true e = front-met returns storage sub path (slice_get (queue sub.wires.up path) 0) t e
    within false e = absurd (cc e)

-- what a unit does leaves the state of its subchannel
if-ok : {A : Type 0} (P : A → Type 0) (b : Bool) (x y : Result A Fault) → IfOk x P → IfOk y P → IfOk (if b then x else y) P
if-ok P true x y e f = e
if-ok P false x y e f = f

abbrev IsApart : Subchannel → DownResult → Type 0
IsApart sub t = t.sub.state ≡ sub.state

front-apart : (may : Bool) (sub : Subchannel) (path : ℕ) (u : UnitState) (front : Option Down) → IfOk (down_front may sub path u front) (IsApart sub)
front-apart may sub path u None = tt
front-apart may sub path u (Some d) =
    let step : Option UnitStep = unit_takes u sub.setup.side path d may in
    if-ok (IsApart sub) (finds_full sub.wires.up (carried_by sub (unit_table.outcome_of step).sent)) _ _ tt refl

down-apart : (may : Bool) (sub : Subchannel) (path : ℕ) (u : UnitState) → IfOk (down_sub may sub path u) (IsApart sub)
down-apart may sub path u =
    if-ok (IsApart sub) (nat_lt path (length sub.setup.paths)) (down_front may sub path u (slice_get (queue sub.wires.down path) 0)) _
    (front-apart may sub path u (slice_get (queue sub.wires.down path) 0)) tt

step-apart : (sub : Subchannel) (step : Option UnitStep) → IfOk (report_taken sub step) (IsApart sub)
step-apart sub None = tt
step-apart sub (Some step) = if-ok (IsApart sub) (finds_full sub.wires.up (carried_by sub step.sent)) _ _ tt refl

act-apart : (sub : Subchannel) (u : UnitState) (what : UnitAct) → IfOk (act_sub sub u what) (IsApart sub)
act-apart sub u what = if-ok (IsApart sub) (has_path_of_act sub what) (report_taken sub (acts u sub.setup.side what)) _ (step-apart sub (acts u sub.setup.side what)) tt

-- of the subchannel at an index, whose name this is
module _ (s : State) (id : SubchannelId) (index : ℕ) (sub : Subchannel) (mine : index_in id s.subs ≡ Some index) (there : slice_get s.subs index ≡ Some sub) where
  abbrev Turns : Event → Reply → State → Type 0
  Turns e r new = (after : Subchannel) → slice_get new.subs index ≡ Some after → Turned s.sets id e r sub after.state

  rests : (e : Event) (r : Reply) (new : State) → is_about s.sets id e ≡ false → new.subs ≡ s.subs → Turns e r new
  rests e r new about same after left =
      let is : sub ≡ after = same_Some sub after (sym there ∙ sym (ap (λ (xs : List Subchannel). slice_get xs index) same) ∙ left) in
      subst (λ (x : Subchannel). Turned s.sets id e r sub x.state) is (Rests e r sub about)

  -- one subchannel was changed
  one-turns : (e : Event) (r : Reply) (new : State) (k : ℕ) (x y : Subchannel) → slice_get s.subs k ≡ Some x → new.subs ≡ slice_set s.subs k y →
      (index_in id s.subs ≡ Some k → Turned s.sets id e r x y.state) → ((index ≡ k → ⊥) → is_about s.sets id e ≡ false) → Turns e r new
  one-turns e r new k x y at same turned apart after left =
      elim (set-get s.subs k y index after (sym (ap (λ (xs : List Subchannel). slice_get xs index) same) ∙ left)) [
        | inl p ↦
            let is : x ≡ sub = same_Some x sub (sym at ∙ ap (λ (n : ℕ). slice_get s.subs n) (sym p.0) ∙ there) in
            subst (λ (z : Subchannel). Turned s.sets id e r z after.state) is
            (subst (λ (z : Subchannel). Turned s.sets id e r x z.state) (sym p.1) (turned (mine ∙ ap (λ (n : ℕ). Some n) p.0)))
        | inr p ↦
            let is : sub ≡ after = same_Some sub after (sym there ∙ p.1) in
            subst (λ (z : Subchannel). Turned s.sets id e r sub z.state) is (Rests e r sub (apart p.0))
      ]

  -- a word that names another subchannel
  not-named : (word k : ℕ) → index_of s word ≡ Some k → (index ≡ k → ⊥) → names s.sets id word ≡ false
  not-named word k at other = either (names s.sets id word) refl
    where
      either : (b : Bool) → names s.sets id word ≡ b → names s.sets id word ≡ false
      either false e = e
      either true e = absurd (other (same_Some index k (sym mine ∙ named-index s.subs id (subchannel_named s.sets word) k at e)))

  named-here : (word k : ℕ) (x : Subchannel) → index_of s word ≡ Some k → slice_get s.subs k ≡ Some x → index_in id s.subs ≡ Some k → names s.sets id word ≡ true
  named-here word k x at found here = named-is s.subs id (subchannel_named s.sets word) k x at here found

  -- a sweep
  swept-turns : (what : Sweep) (r : Reply) (new : State) → new.subs ≡ map (swept what) s.subs → Turns (sweep_event what) r new
  swept-turns what r new same after left =
      let p : (x : Subchannel) × (slice_get s.subs index ≡ Some x) × (swept what x ≡ after) =
      map-get (swept what) s.subs index after (sym (ap (λ (xs : List Subchannel). slice_get xs index) same) ∙ left) in
      let is : p.0 ≡ sub = same_Some p.0 sub (sym p.1 ∙ there) in
      subst (λ (z : Subchannel). Turned s.sets id (sweep_event what) r sub z.state) (ap (swept what) (sym is) ∙ p.2) (Sweeps what r sub)

  -- an instruction
  executed-turns : (cpu : ℕ) (i : Instruction) (r : Reply) (new : State) → IsExecuted s i r new → Turns (event.Execute cpu i) r new
  executed-turns cpu i r new k = by (found_at s.subs (index_in k.id s.subs)) refl k.done
    where
      at : index_of s (subchannel_word i) ≡ index_in k.id s.subs
      at = ap (index_of_id s.subs) k.named

      by : (q : Option Found) → found_at s.subs (index_in k.id s.subs) ≡ q → IsDone s i q r new → Turns (event.Execute cpu i) r new
      by None found done = rests (event.Execute cpu i) r new (absent (names s.sets id (subchannel_word i)) refl) done.subs
        where
          absent : (b : Bool) → names s.sets id (subchannel_word i) ≡ b → names s.sets id (subchannel_word i) ≡ false
          absent false e = e
          absent true e =
              let same : k.id ≡ id = same-id k.id id (subst (λ (x : Option SubchannelId). is_id x id ≡ true) k.named e) in
              let none : found_at s.subs (Some index) ≡ None = ap (found_at s.subs) (sym mine ∙ ap (λ (x : SubchannelId). index_in x s.subs) (sym same)) ∙ found in
              let some : found_at s.subs (Some index) ≡ Some (record { index = index; sub = sub }) = ap (found_with index) there in
              absurd (cc (sym none ∙ some))
      by (Some f) found done =
          let was : (index_in k.id s.subs ≡ Some f.index) × (slice_get s.subs f.index ≡ Some f.sub) = found-there s.subs (index_in k.id s.subs) f found in
          one-turns (event.Execute cpu i) r new f.index f.sub (with_state f.sub (state_left i f.sub done.effect)) was.1 done.subs
          (λ here. subst (λ (x : Reply). Turned s.sets id (event.Execute cpu i) x f.sub (state_left i f.sub done.effect)) (sym done.replies)
          (Executes cpu i f.sub done.effect (named-here (subchannel_word i) f.index f.sub (at ∙ was.0) was.1 here) done.is))
          (not-named (subchannel_word i) f.index (at ∙ was.0))

  -- what a unit does of itself leaves the state of its subchannel
  apart-turns : (e : Event) (r : Reply) (new : State) (k : ℕ) (x y : Subchannel) → is_about s.sets id e ≡ false → slice_get s.subs k ≡ Some x → new.subs ≡ slice_set s.subs k y →
      y.state ≡ x.state → Turns e r new
  apart-turns e r new k x y about at same apart =
      one-turns e r new k x y at same (λ here. subst (λ (z : SubchannelState). Turned s.sets id e r x z) (sym apart) (Rests e r x about)) (λ n. about)

  -- each turn of an event
  turn-turns : (e : Event) (r : Reply) (new : State) → ResultOf s e r new → Turns e r new
  turn-turns _ _ _ (turn.Executes cpu i named q r storage subs n e blocks left done) =
      executed-turns cpu i r (record s { storage = storage; subs = subs }) (as-executed s i named q r storage subs s.requests n e done)
  turn-turns _ _ _ (turn.Chosen word k x choice t n at is ok) =
      let was : (t.reply ≡ reply_chosen (marked_sub x choice).state (chosen x choice)) × (t.sub.state ≡ state_chosen (marked_sub x choice).state (chosen x choice)) =
      choice-left (marked_sub x choice) (chosen x choice) t ok in
      one-turns (event.Choose word) t.reply (with_sub s k t.sub) k x t.sub at refl
      (λ here. subst (λ (r : Reply). Turned s.sets id (event.Choose word) r x t.sub.state) (sym was.0)
      (subst (λ (y : SubchannelState). Turned s.sets id (event.Choose word) (reply_chosen (marked_sub x choice).state (chosen x choice)) x y) (sym was.1)
      (Chooses word x choice (named-here word k x n at here) (away-choice s.subs x choice is))))
      (not-named word k n)
  turn-turns _ _ _ (turn.Meets word path k x t n at ok) =
      let returns : Bool = returns_at s.subs x path in
      let was : IsMetBy returns s.storage x path t = up-met returns s.storage x path t ok in
      one-turns (event.Up word path) t.reply (with_sub s k t.sub) k x t.sub at refl
      (λ here. subst (λ (r : Reply). Turned s.sets id (event.Up word path) r x t.sub.state) (sym was.replies)
      (subst (λ (y : SubchannelState). Turned s.sets id (event.Up word path) (reply_met was.signal (met returns s.storage x path was.signal)) x y) (sym was.state)
      (Meets word path returns s.storage x was.signal (named-here word k x n at here))))
      (not-named word k n)
  turn-turns _ _ _ (turn.Takes word path k x u t n at found ok) =
      apart-turns _ t.reply (with_sub s k t.sub) k x t.sub refl at refl (subst (λ (r : Result DownResult Fault). IfOk r (IsApart x)) ok (down-apart (may_take s.members x.setup.«unit» (asks_at x path u)) x path u))
  turn-turns _ _ _ (turn.Reports unit k x u report t found first at ok) =
      apart-turns _ t.reply (with_sub s k t.sub) k x t.sub refl at refl (subst (λ (r : Result DownResult Fault). IfOk r (IsApart x)) ok (step-apart x (unit_reports u report)))
  turn-turns _ _ _ (turn.Acts unit k x u what side t found is first at ok) =
      apart-turns _ t.reply (with_sub s k t.sub) k x t.sub refl at refl (subst (λ (r : Result DownResult Fault). IfOk r (IsApart x)) ok (act-apart x u what))
  turn-turns _ _ _ (turn.GoesDown chpid) = swept-turns (sweep.GoesDown chpid) reply.Done (with_swept s (sweep.GoesDown chpid)) refl
  turn-turns _ _ _ (turn.ComesUp chpid) = swept-turns (sweep.ComesUp chpid) reply.Done (with_swept s (sweep.ComesUp chpid)) refl
  turn-turns _ _ _ (turn.IsReset chpid asked) = swept-turns (sweep.PathReset chpid) reply.Done (with_swept s (sweep.PathReset chpid)) refl
  turn-turns _ _ _ turn.ResetsAll = swept-turns sweep.SystemReset reply.Done (with_swept s sweep.SystemReset) refl
  turn-turns _ _ _ t = rests _ _ s refl refl

  -- each step
  pub step-turns : (e : Event) (r : Reply) (new : State) → Step s e r new → Turns e r new
  step-turns e r new step = let is : HasResult s e r new = step-turn s e r new step in subst (Turns e r) (sym is.settles) (turn-turns e r is.left is.turn)
