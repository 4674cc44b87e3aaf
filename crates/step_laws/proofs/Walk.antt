-- Each step of a channel subsystem is of one of the kinds.
use Rattle.std.proofs.Common.{◌≡◌, refl, sym, ◌∙◌, ap, subst, ℕ, Option, None, Some}
use Rattle.chan_events.specs.Events.{Event}
use Rattle.chan_events.specs.Replies.{Reply}
use Rattle.interruptions.specs.Requests.{WaitingRequests}
use Rattle.chan_model.specs.declared.names.Side.{Side}
use Rattle.chan_model.specs.UnitTable.{restarted}
use Rattle.subchannel_model.specs.Indices.{reaches, Found, found_at, index_in, index_of_id}
use Rattle.machine_model.specs.State.{State, index_of}
use Rattle.machine_model.specs.UpSteps.{returns_at}
use Rattle.machine_model.specs.DownSteps.{asks_at}
use Rattle.machine_model.specs.Sharing.{may_take, is_owed_after}
use Rattle.machine_model.specs.Steps.{Step}
use Rattle.machine_model.specs.declared.state.Sweep.TheVariants as sweep
use Rattle.step_laws.specs.Walks as walked
use Rattle.step_laws.specs.Walks.{Walked, OneSub, IsExecuted, IsQuiet, is_start, Resumes, Halts, Clears, Cancels}
use Rattle.step_laws.proofs.Results as turn
use Rattle.step_laws.proofs.Results.{ResultOf, HasResult, step-turn}
use Rattle.step_laws.proofs.Suiting.{chosen-suits}
use Rattle.step_laws.proofs.Indices.{first-passes, reached-there, found-there}
use Rattle.std.specs.Prelude.{slice_get, slice_set}
use Rattle.orb_block.specs.declared.Orb.{Orb}
use Rattle.chan_events.specs.declared.event.Event.TheVariants as event
use Rattle.chan_events.specs.declared.event.Instruction.{Instruction}
use Rattle.chan_events.specs.declared.event.Instruction.TheVariants as instruction
use Rattle.channel_config.specs.declared.names.SubchannelId.{SubchannelId}
use Rattle.channel_config.specs.SubchannelWords.{subchannel_named}
use Rattle.subchannel_model.specs.declared.state.SubchannelState.{SubchannelState}
use Rattle.subchannel_model.specs.Enable.{enabling}
use Rattle.subchannel_model.specs.Start.{started}
use Rattle.subchannel_model.specs.Store.{pmcw_of}
use Rattle.chan_events.specs.Instructions.{subchannel_word}
use Rattle.machine_model.specs.Results.{with_state}
use Rattle.step_laws.proofs.Executed.{IsDone, IsLeft, absent_reply, code_for, reply_of, state_left, set-same}

module _ (s : State) where
  absent-quiet : (cpu : ℕ) (i : Instruction) (r : Reply) → r ≡ absent_reply i → IsQuiet (event.Execute cpu i) r
  absent-quiet cpu (instruction.Ssch word address) r e = ap is_start e
  absent-quiet cpu i r e = tt

  -- the effect is this one
  one-left : (i : Instruction) (r : Reply) (new : State) (f : Found) (x : SubchannelState) (k : IsLeft s i r new f) → k.effect ≡ x →
      slice_get s.subs f.index ≡ Some f.sub → new.sets ≡ s.sets → new.up ≡ s.up → new.units ≡ s.units → OneSub s new f.index f.sub (with_state f.sub (state_left i f.sub x))
  one-left i r new f x k is there sets up units = record {
    there = there;
    sets = sets;
    up = up;
    subs = k.subs ∙ ap (λ (y : SubchannelState). slice_set s.subs f.index (with_state f.sub (state_left i f.sub y))) is;
    units = units;
  }

  replied : (i : Instruction) (r : Reply) (new : State) (f : Found) (x : SubchannelState) (k : IsLeft s i r new f) → k.effect ≡ x →
      r ≡ reply_of i (code_for i f.sub) f.sub.state (state_left i f.sub x)
  replied i r new f x k is = k.replies ∙ ap (λ (y : SubchannelState). reply_of i (code_for i f.sub) f.sub.state (state_left i f.sub y)) is

  at-word : (cpu word index : ℕ) (i : ℕ → Instruction) → index_of s word ≡ Some index → IsExecuted s (event.Execute cpu (i word)) index i
  at-word cpu word index i n = record { cpu = cpu; word = word; event = refl; at = n }

  left-walks : (cpu : ℕ) (i : Instruction) (f : Found) (r : Reply) (new : State) → index_of s (subchannel_word i) ≡ Some f.index → slice_get s.subs f.index ≡ Some f.sub →
      new.sets ≡ s.sets → new.up ≡ s.up → new.units ≡ s.units → IsLeft s i r new f → Walked s (event.Execute cpu i) r new
  left-walks cpu (instruction.Ssch word address) f r new n there sets up units k =
      let i : Instruction = instruction.Ssch word address in
      let orb : Orb = k.is.0 in
      subst (λ (x : Reply). Walked s (event.Execute cpu i) x new) (sym (replied i r new f (started f.sub.state orb) k k.is.1))
      (walked.Started cpu word address f.index f.sub orb (code_for i f.sub) new n (one-left i r new f (started f.sub.state orb) k k.is.1 there sets up units))
  left-walks cpu (instruction.Tsch word address) f r new n there sets up units k =
      let i : Instruction = instruction.Tsch word address in
      walked.Tested (event.Execute cpu i) r f.index f.sub (code_for i f.sub) new tt (one-left i r new f _ k k.is there sets up units) address
      (at-word cpu word f.index (λ w. instruction.Tsch w address) n) (replied i r new f _ k k.is)
  left-walks cpu (instruction.Stsch word address) f r new n there sets up units k =
      let i : Instruction = instruction.Stsch word address in
      walked.Stays _ _ _ tt sets ((one-left i r new f f.sub.state k k.is there sets up units).subs ∙ set-same s.subs f.index f.sub there) units up
  left-walks cpu (instruction.Msch word address) f r new n there sets up units k =
      let i : Instruction = instruction.Msch word address in
      walked.Modified _ _ f.index f.sub k.is.0 (code_for i f.sub) _ tt (one-left i r new f _ k k.is.1 there sets up units)
  left-walks cpu (instruction.Enable word subclass multipath) f r new n there sets up units k =
      let i : Instruction = instruction.Enable word subclass multipath in
      walked.Modified _ _ f.index f.sub (enabling (pmcw_of f.sub) subclass multipath) (code_for i f.sub) _ tt (one-left i r new f _ k k.is there sets up units)
  left-walks cpu (instruction.Rsch word) f r new n there sets up units k =
      let i : Instruction = instruction.Rsch word in
      walked.Performed _ _ f.index f.sub Resumes (code_for i f.sub) _ tt (one-left i r new f _ k k.is there sets up units) (at-word cpu word f.index _ n) (replied i r new f _ k k.is)
  left-walks cpu (instruction.Hsch word) f r new n there sets up units k =
      let i : Instruction = instruction.Hsch word in
      walked.Performed _ _ f.index f.sub Halts (code_for i f.sub) _ tt (one-left i r new f _ k k.is there sets up units) (at-word cpu word f.index _ n) (replied i r new f _ k k.is)
  left-walks cpu (instruction.Csch word) f r new n there sets up units k =
      let i : Instruction = instruction.Csch word in
      walked.Performed _ _ f.index f.sub Clears (code_for i f.sub) _ tt (one-left i r new f _ k k.is there sets up units) (at-word cpu word f.index _ n) (replied i r new f _ k k.is)
  left-walks cpu (instruction.Xsch word) f r new n there sets up units k =
      let i : Instruction = instruction.Xsch word in
      walked.Performed _ _ f.index f.sub Cancels (code_for i f.sub) _ tt (one-left i r new f _ k k.is there sets up units) (at-word cpu word f.index _ n) (replied i r new f _ k k.is)

  executed-walks : (cpu : ℕ) (i : Instruction) (id : SubchannelId) (q : Option Found) (r : Reply) (new : State) (waiting : WaitingRequests) →
      subchannel_named s.sets (subchannel_word i) ≡ Some id → found_at s.subs (index_in id s.subs) ≡ q → new.sets ≡ s.sets → new.up ≡ s.up → new.units ≡ s.units →
      IsDone s i q r new → Walked s (event.Execute cpu i) r (record new { requests = waiting })
  executed-walks cpu i id None r new waiting n e sets up units k = walked.Stays _ _ _ (absent-quiet cpu i r k.replies) sets k.subs units up
  executed-walks cpu i id (Some f) r new waiting n e sets up units k =
      let there : (index_in id s.subs ≡ Some f.index) × (slice_get s.subs f.index ≡ Some f.sub) = found-there s.subs (index_in id s.subs) f e in
      left-walks cpu i f r (record new { requests = waiting }) (ap (index_of_id s.subs) n ∙ there.0) there.1 sets up units
      (record { effect = k.effect; is = k.is; replies = k.replies; subs = k.subs })

  -- whatever requests are left of it
  turn-walks : (e : Event) (r : Reply) (new : State) (waiting : WaitingRequests) → ResultOf s e r new → Walked s e r (record new { requests = waiting })
  turn-walks _ _ _ waiting (turn.Executes cpu i id q r storage subs n e blocks left done) = executed-walks cpu i id q r _ waiting n e refl refl refl done
  turn-walks _ _ _ waiting (turn.Chosen word index sub choice t named there is ok) =
      walked.Chosen word index sub choice t _ named is (chosen-suits sub choice) ok (record { there = there; sets = refl; up = refl; subs = refl; units = refl })
  turn-walks _ _ _ waiting (turn.Meets word path index sub t named there ok) =
      walked.Met word path (returns_at s.subs sub path) index sub t _ named ok (record { there = there; sets = refl; up = refl; subs = refl; units = refl }) refl
  turn-walks _ _ _ waiting (turn.Takes word path index sub u t named there found ok) =
      walked.Sunk word path (may_take s.members sub.setup.«unit» (asks_at sub path u)) (is_owed_after s.members sub.setup.«unit» u t.«unit») index sub u t _ named ok
      (record { there = there; found = found; sets = refl; up = refl; subs = refl; units = refl })
  turn-walks _ _ _ waiting (turn.Reports at index sub u report t found first there ok) =
      walked.Reported at index sub u report t _ first (first-passes (reaches at report.side) s.subs index sub first there) ok
      (record { there = there; found = found; sets = refl; up = refl; subs = refl; units = refl })
  turn-walks _ _ _ waiting (turn.Acts at index sub u what side t found is first there ok) =
      let reached : (sub.setup.«unit» ≡ at) × (sub.setup.side ≡ side) = reached-there at side sub (first-passes (reaches at side) s.subs index sub first there) in
      walked.Acted at index sub u what t _ (is ∙ ap (λ (x : Side). Some x) (sym reached.1)) reached.0 ok
      (record { there = there; found = found; sets = refl; up = refl; subs = refl; units = refl })
  turn-walks _ _ _ waiting (turn.Restarts at u found) = walked.Restarted at (is_owed_after s.members at u (restarted u)) u _ _ found refl refl refl refl
  turn-walks _ _ _ waiting (turn.GoesDown chpid) = walked.Swept _ _ (sweep.GoesDown chpid) _ tt refl refl refl (record { event = refl; up = refl })
  turn-walks _ _ _ waiting (turn.ComesUp chpid) = walked.Swept _ _ (sweep.ComesUp chpid) _ tt refl refl refl (record { event = refl; up = refl })
  turn-walks _ _ _ waiting (turn.IsReset chpid asked) = walked.Swept _ _ (sweep.PathReset chpid) _ tt refl refl refl (record { event = refl; up = refl })
  turn-walks _ _ _ waiting turn.ResetsAll = walked.Swept _ _ sweep.SystemReset _ tt refl refl refl (record { event = refl; up = refl })
  turn-walks _ _ _ waiting t = walked.Stays _ _ _ tt refl refl refl refl

  pub step-walks : (e : Event) (r : Reply) (new : State) → Step s e r new → Walked s e r new
  step-walks e r new step =
      let is : HasResult s e r new = step-turn s e r new step in subst (Walked s e r) (sym is.settles) (turn-walks e r is.left _ is.turn)
