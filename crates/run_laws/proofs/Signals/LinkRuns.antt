-- After each run what is seen of each subchannel is what it keeps: each entry is right.
use Rattle.std.proofs.Common.{◌≡◌, refl, sym, ◌∙◌, ap, subst, ℕ, Bool, true, false, Option, Some, Result, Ok, List, length, map, slice_get, slice_set, IfOk, if◌then◌else◌}
use Rattle.std.proofs.lemmas.Option.{slice_get_within, get_or_from_slice_get}
use Rattle.chan_model.specs.PathSets.{is_member}
use Rattle.chan_events.specs.Events.{Event}
use Rattle.chan_events.specs.declared.event.Event.TheVariants as event
use Rattle.chan_events.specs.declared.event.Instruction.TheVariants as instruction
use Rattle.chan_events.specs.declared.reply.Entry.{Entry}
use Rattle.chan_events.specs.Replies.{Reply}
use Rattle.chan_model.specs.ResetCauses.{engaged_path}
use Rattle.chan_model.specs.declared.answer.ConditionCode.{ConditionCode}
use Rattle.chan_model.specs.declared.answer.ConditionCode.TheVariants as code
use Rattle.chan_model.specs.declared.fault.Fault.{Fault}
use Rattle.channel_config.specs.declared.parts.SubchannelSetup.{SubchannelSetup}
use Rattle.channel_config.specs.Lawful.{IsLawful, IsPlaced}
use Rattle.channel_config.specs.Setup.{Setup, set_count}
use Rattle.channel_config.specs.SubchannelWords.{subchannel_named}
use Rattle.path_select.specs.Choice.{IsChoice}
use Rattle.subchannel_model.specs.declared.state.Subchannel.{Subchannel}
use Rattle.subchannel_model.specs.Choosing.{chosen, marked_sub, paths_to_choose, IsFitFor}
use Rattle.subchannel_model.specs.Clear.{csch_code, cleared}
use Rattle.subchannel_model.specs.Store.{available_paths}
use Rattle.machine_model.specs.ChooseSteps.{choose_sub}
use Rattle.machine_model.specs.declared.state.Sweep.{Sweep}
use Rattle.machine_model.specs.declared.state.Sweep.TheVariants as sweep
use Rattle.machine_model.specs.InstructionSteps.{code_at, function_sub}
use Rattle.machine_model.specs.OtherSteps.{is_up}
use Rattle.machine_model.specs.PathSteps.{swept}
use Rattle.machine_model.specs.State.{State, opening_of, index_of}
use Rattle.machine_model.specs.Steps.{Run, Opened, Stepped, Step}
use Rattle.machine_model.specs.Results.{SubResult, UpResult, DownResult, with_state}
use Rattle.run_laws.proofs.Machine.Moving.{return-parts}
use Rattle.run_laws.proofs.Machine.Turning.{returns-right}
use Rattle.run_laws.specs.OneEngine.{IsOnePath}
use Rattle.step_laws.specs.Walks as walked
use Rattle.step_laws.specs.Walks.{AreWalks, Walked, IsQuiet, OneSub, Function, Clears, instruction_of, sweep_event}
use Rattle.run_laws.specs.BeginsItsOwn.{is_code_zero}
use Rattle.run_laws.specs.Links.{SubSeen, Seen, with_up, sub_met, sub_chosen, sub_reset, sub_cleared, sub_lost, change_named, seen_after, links_in, nothing_seen, IsMetRight, IsChosenRight, IsEntryRight, KeepsLinks}
use Rattle.run_laws.proofs.Machine.Appending.{through-more, claim-more}
use Rattle.run_laws.proofs.Signals.LinkChoices.{IsChoiceTied, chosen-for, choice-available, due-choice, choose-tied}
use Rattle.run_laws.proofs.Signals.LinkLists.{AreTied, tied-set, tied-map, tied-subs, of-named, named-tied, named-none, opening-tied}
use Rattle.run_laws.proofs.Signals.LinkPassing.{MayReturn, IsUpTied, IsDownTied, met-tied, sunk-tied, report-tied, act-tied}
use Rattle.run_laws.proofs.Signals.LinkSubs.{IsTied, same-tied, start-tied, test-tied, modify-tied, IsNotClear, function-tied, clear-tied, system-tied, down-tied, up-tied, reset-tied}
use Rattle.run_laws.proofs.Signals.OwnRuns.{Answered, Unfound, There, step-answered, sets-stay}
use Rattle.run_laws.proofs.Machine.SameState.{is-same}
use Rattle.step_laws.proofs.Results as turn
use Rattle.step_laws.proofs.Results.{ResultOf, HasResult, step-turn}

-- each engine that serves a subchannel is of a path that is available
abbrev pub AreEngaged : State → Type 0
AreEngaged s = (index p : ℕ) (x : Subchannel) → slice_get s.subs index ≡ Some x → engaged_path x.state.hold.phase ≡ Some p → is_member (available_paths x) p ≡ true

abbrev pub AreSeen : Seen → State → Type 0
AreSeen k s = AreTied k.up k.subs s.subs

record IsSeenStep (s : State) (e : Event) (r : Reply) (new : State) (k : Seen) : Type 0 where
  right : IsEntryRight s.sets e r k
  tied : AreSeen (seen_after s.sets e r k) new

-- the events that may change what is seen, but choices and signals
abbrev IsCalm : Event → Type 0
IsCalm (event.Execute cpu (instruction.Csch word)) = ⊥
IsCalm (event.PathDown chpid) = ⊥
IsCalm (event.PathUp chpid) = ⊥
IsCalm (event.PathReset chpid) = ⊥
IsCalm event.SystemReset = ⊥
IsCalm e = Unit {0}

record IsPlain (sets : ℕ) (e : Event) (r : Reply) (k : Seen) : Type 0 where
  same : seen_after sets e r k ≡ k
  right : IsEntryRight sets e r k

plain : (sets : ℕ) (e : Event) (r : Reply) (k : Seen) → IsQuiet e r → IsCalm e → IsPlain sets e r k
plain sets (event.Execute cpu (instruction.Csch word)) r k q c = absurd c
plain sets (event.Choose word) r k q c = absurd q
plain sets (event.Up word path) r k q c = absurd q
plain sets (event.Down word path) r k q c = absurd q
plain sets (event.Report at report) r k q c = absurd q
plain sets (event.PathDown chpid) r k q c = absurd c
plain sets (event.PathUp chpid) r k q c = absurd c
plain sets (event.PathReset chpid) r k q c = absurd c
plain sets event.SystemReset r k q c = absurd c
plain sets e r k q c = record { same = refl; right = tt }

plain-step : (s : State) (e : Event) (r : Reply) (new : State) (k : Seen) → IsPlain s.sets e r k → AreSeen k new → IsSeenStep s e r new k
plain-step s e r new k p tied = record { right = p.right; tied = subst (λ (y : Seen). AreSeen y new) (sym p.same) tied }

one-seen : (s new : State) (index : ℕ) (sub after : Subchannel) (k : Seen) → OneSub s new index sub after → ((j : SubSeen) → IsTied k.up j sub → IsTied k.up j after) → AreSeen k s → AreSeen k new
one-seen s new index sub after k one f tied = subst (λ (xs : List Subchannel). AreTied k.up k.subs xs) (sym one.subs) (tied-set k.up k.subs s.subs index sub after one.there f tied)

same-seen : (s new : State) (k : Seen) → new.subs ≡ s.subs → AreSeen k s → AreSeen k new
same-seen s new k subs tied = subst (λ (xs : List Subchannel). AreTied k.up k.subs xs) (sym subs) tied

not-clear : (f : Function) (cpu word : ℕ) → IsCalm (event.Execute cpu (instruction_of f word)) → IsNotClear f
not-clear Clears cpu word c = c
not-clear other cpu word c = tt

no-sweep : (what : Sweep) → IsCalm (sweep_event what) → ⊥
no-sweep (sweep.GoesDown chpid) c = c
no-sweep other c = c

marked-tied : (is_up : ℕ → Bool) (k : SubSeen) (sub : Subchannel) (choice : Option ℕ) → IsTied is_up k sub → IsTied is_up k (marked_sub sub choice)
marked-tied is_up k sub choice tie = same-tied is_up k sub (marked_sub sub choice).state (is-same sub.state (marked_sub sub choice).state refl refl refl) tie

chosen-tied : (s : State) (index : ℕ) (sub : Subchannel) (choice : Option ℕ) (t : SubResult) (is_up : ℕ → Bool) (k : SubSeen) → IsChoice (paths_to_choose s.subs sub) choice →
    IsFitFor (chosen sub choice) sub.state.hold → choose_sub (marked_sub sub choice) (chosen sub choice) ≡ Ok t →
    slice_get s.subs index ≡ Some sub → AreEngaged s → IsTied is_up k sub → IsChoiceTied is_up k t
chosen-tied s index sub choice t is_up k x fits ok there engaged tie =
    subst (λ (r : Result SubResult Fault). IfOk r (IsChoiceTied is_up k)) ok
    (choose-tied is_up k (marked_sub sub choice) choice (chosen sub choice)
    (record {
      chosen = chosen-for sub choice;
      fits = fits;
      engaged = λ p e. engaged index p sub there e;
      available = λ p e. choice-available s.subs sub choice p x e;
      due = λ r e has. due-choice is_up k s.subs sub choice r x tie e has;
    })
    (marked-tied is_up k sub choice tie))

walked-seen : (s : State) (e : Event) (r : Reply) (new : State) (k : Seen) → Walked s e r new → IsCalm e → AreEngaged s → AreSeen k s → IsSeenStep s e r new k
walked-seen s _ _ _ k (walked.Stays e r new q sets subs units up) c engaged tied = plain-step s e r new k (plain s.sets e r k q c) (same-seen s new k subs tied)
walked-seen s _ _ _ k (walked.Started cpu word address index sub orb c new n one) calm engaged tied =
    record { right = tt; tied = one-seen s new index sub _ k one (λ j. start-tied k.up j sub orb c) tied }
walked-seen s _ _ _ k (walked.Tested e r index sub c new q one address by answers) calm engaged tied =
    plain-step s e r new k (plain s.sets e r k q calm) (one-seen s new index sub _ k one (λ j. test-tied k.up j sub c) tied)
walked-seen s _ _ _ k (walked.Modified e r index sub given c new q one) calm engaged tied =
    plain-step s e r new k (plain s.sets e r k q calm) (one-seen s new index sub _ k one (λ j. modify-tied k.up j sub given c) tied)
walked-seen s _ _ _ k (walked.Performed e r index sub f c new q one by answers) calm engaged tied =
    plain-step s e r new k (plain s.sets e r k q calm)
    (one-seen s new index sub _ k one (λ j. function-tied k.up j sub f c (not-clear f by.cpu by.word (subst (λ (y : Event). IsCalm y) by.event calm))) tied)
walked-seen s _ _ _ k (walked.Chosen word index sub choice t new n x w ok one) calm engaged tied =
    let turn : (j : SubSeen) → IsTied k.up j sub → IsChoiceTied k.up j t = λ j tie. chosen-tied s index sub choice t k.up j x w.fits ok one.there engaged tie in
    record {
      right = of-named k.up (IsChosenRight k.up t.reply) (subchannel_named s.sets word) k.subs s.subs index sub n one.there (λ j tie. (turn j tie).right) tied;
      tied = subst (λ (xs : List Subchannel). AreTied k.up (change_named (subchannel_named s.sets word) (sub_chosen k.up t.reply) k.subs) xs) (sym one.subs)
          (named-tied k.up (subchannel_named s.sets word) (sub_chosen k.up t.reply) k.subs s.subs index sub t.sub n one.there (λ j tie. (turn j tie).tied) tied);
    }
walked-seen s _ _ _ k (walked.Met word path returns index sub t new n ok one may) calm engaged tied =
    let returned : returns ≡ true → MayReturn sub path =
    λ e. let p = return-parts s.subs sub path (returns-right s.subs sub path returns may e) in record { available = p.0.0; first = p.1 } in
    let turn : (j : SubSeen) → IsTied k.up j sub → IsUpTied k.up j path t =
    λ j tie. subst (λ (r : Result UpResult Fault). IfOk r (IsUpTied k.up j path)) ok (met-tied k.up j returns s.storage sub path returned tie) in
    record {
      right = of-named k.up (IsMetRight k.up path t.reply) (subchannel_named s.sets word) k.subs s.subs index sub n one.there (λ j tie. (turn j tie).right) tied;
      tied = subst (λ (xs : List Subchannel). AreTied k.up (change_named (subchannel_named s.sets word) (sub_met t.reply) k.subs) xs) (sym one.subs)
          (named-tied k.up (subchannel_named s.sets word) (sub_met t.reply) k.subs s.subs index sub t.sub n one.there (λ j tie. (turn j tie).tied) tied);
    }
walked-seen s _ _ _ k (walked.Sunk word path may owed index sub u t new n ok one) calm engaged tied =
    record {
      right = tt;
      tied = subst (λ (xs : List Subchannel). AreTied k.up k.subs xs) (sym one.subs)
          (tied-set k.up k.subs s.subs index sub t.sub one.there (λ j tie. subst (λ (r : Result DownResult Fault). IfOk r (IsDownTied k.up j)) ok (sunk-tied k.up j may sub path u tie)) tied);
    }
walked-seen s _ _ _ k (walked.Reported at index sub u report t new n reached ok one) calm engaged tied =
    record {
      right = tt;
      tied = subst (λ (xs : List Subchannel). AreTied k.up k.subs xs) (sym one.subs)
          (tied-set k.up k.subs s.subs index sub t.sub one.there (λ j tie. subst (λ (r : Result DownResult Fault). IfOk r (IsDownTied k.up j)) ok (report-tied k.up j sub u report tie)) tied);
    }
walked-seen s _ _ _ k (walked.Acted at index sub u what t new side its ok one) calm engaged tied =
    record {
      right = tt;
      tied = subst (λ (xs : List Subchannel). AreTied k.up k.subs xs) (sym one.subs)
          (tied-set k.up k.subs s.subs index sub t.sub one.there (λ j tie. subst (λ (r : Result DownResult Fault). IfOk r (IsDownTied k.up j)) ok (act-tied k.up j sub u what tie)) tied);
    }
walked-seen s _ _ _ k (walked.Restarted at owed u r new found sets subs units up) calm engaged tied = record { right = tt; tied = same-seen s new k subs tied }
walked-seen s _ _ _ k (walked.Swept e r what new q sets subs units by) calm engaged tied = absurd (no-sweep what (subst (λ (y : Event). IsCalm y) by.event calm))

-- CLEAR, by what it answers
not-cleared : (r : Reply) (k : SubSeen) → is_code_zero r ≡ false → sub_cleared r k ≡ k
not-cleared r k e = ap (λ (b : Bool). if b then sub_reset k else k) e

code-tied : (s : State) (word index : ℕ) (sub : Subchannel) (c : ConditionCode) (is_up : ℕ → Bool) (ks : List SubSeen) → index_of s word ≡ Some index → slice_get s.subs index ≡ Some sub → AreTied is_up ks s.subs →
    AreTied is_up (change_named (subchannel_named s.sets word) (sub_cleared (function_sub sub c (cleared sub.state)).reply) ks) (slice_set s.subs index (function_sub sub c (cleared sub.state)).sub)
code-tied s word index sub code.Zero is_up ks n there tied =
    named-tied is_up (subchannel_named s.sets word) sub_reset ks s.subs index sub (with_state sub (cleared sub.state)) n there (λ j tie. clear-tied is_up j sub tie) tied
code-tied s word index sub c is_up ks n there tied = named-tied is_up (subchannel_named s.sets word) (λ j. j) ks s.subs index sub sub n there (λ j tie. tie) tied

cleared-seen : (s : State) (word : ℕ) (r : Reply) (subs : List Subchannel) (is_up : ℕ → Bool) (ks : List SubSeen) → Answered s word csch_code cleared r subs → AreTied is_up ks s.subs →
    AreTied is_up (change_named (subchannel_named s.sets word) (sub_cleared r) ks) subs
cleared-seen s word _ _ is_up ks (Unfound r z) tied =
    subst (λ (ys : List SubSeen). AreTied is_up ys s.subs) (sym (named-none (subchannel_named s.sets word) (sub_cleared r) ks (λ k. not-cleared r k z))) tied
cleared-seen s word _ _ is_up ks (There index sub n there) tied = code-tied s word index sub (code_at csch_code sub) is_up ks n there tied

-- the events of channel paths
turn-swept : (s : State) (what : Sweep) (r : Reply) (new : State) → ResultOf s (sweep_event what) r new → new.subs ≡ map (swept what) s.subs
turn-swept s (sweep.GoesDown _) _ _ (turn.GoesDown chpid) = refl
turn-swept s (sweep.ComesUp _) _ _ (turn.ComesUp chpid) = refl
turn-swept s (sweep.PathReset _) _ _ (turn.IsReset chpid asked) = refl
turn-swept s sweep.SystemReset _ _ turn.ResetsAll = refl

pub swept-subs : (s : State) (what : Sweep) (r : Reply) (new : State) → Step s (sweep_event what) r new → new.subs ≡ map (swept what) s.subs
swept-subs s what r new step =
    let is : HasResult s (sweep_event what) r new = step-turn s (sweep_event what) r new step in
    subst (λ (x : State). x.subs ≡ map (swept what) s.subs) (sym is.settles) (turn-swept s what r is.left is.turn)

-- each step
step-seen : (walks : AreWalks) (s : State) (e : Event) (r : Reply) (new : State) (k : Seen) → Step s e r new → AreEngaged s → AreSeen k s → IsSeenStep s e r new k
step-seen walks s (event.Execute cpu (instruction.Csch word)) r new k step engaged tied =
    let answer : Answered s word csch_code cleared r new.subs = step-answered s cpu (instruction.Csch word) cleared r new (λ sub x is. (is, refl)) refl step in
    record { right = tt; tied = cleared-seen s word r new.subs k.up k.subs answer tied }
step-seen walks s (event.PathDown chpid) r new k step engaged tied =
    let next : ℕ → Bool = with_up chpid false k.up in
    record {
      right = tt;
      tied = subst (λ (xs : List Subchannel). AreTied next (map (sub_lost chpid) k.subs) xs) (sym (swept-subs s (sweep.GoesDown chpid) r new step))
          (tied-map k.up next (sub_lost chpid) (swept (sweep.GoesDown chpid)) k.subs s.subs (λ j sub tie. down-tied k.up j sub chpid tie) tied);
    }
step-seen walks s (event.PathUp chpid) r new k step engaged tied =
    let next : ℕ → Bool = with_up chpid true k.up in
    record {
      right = tt;
      tied = subst (λ (xs : List Subchannel). AreTied next k.subs xs) (sym (swept-subs s (sweep.ComesUp chpid) r new step))
          (tied-subs k.up next (swept (sweep.ComesUp chpid)) k.subs s.subs (λ j sub tie. up-tied k.up j sub chpid tie) tied);
    }
step-seen walks s (event.PathReset chpid) r new k step engaged tied =
    record {
      right = tt;
      tied = subst (λ (xs : List Subchannel). AreTied k.up (map (sub_lost chpid) k.subs) xs) (sym (swept-subs s (sweep.PathReset chpid) r new step))
          (tied-map k.up k.up (sub_lost chpid) (swept (sweep.PathReset chpid)) k.subs s.subs (λ j sub tie. reset-tied k.up j sub chpid tie) tied);
    }
step-seen walks s event.SystemReset r new k step engaged tied =
    record {
      right = tt;
      tied = subst (λ (xs : List Subchannel). AreTied k.up (map sub_reset k.subs) xs) (sym (swept-subs s sweep.SystemReset r new step))
          (tied-map k.up k.up sub_reset (swept sweep.SystemReset) k.subs s.subs (λ j sub tie. system-tied k.up j sub tie) tied);
    }
step-seen walks s e r new k step engaged tied = walked-seen s _ r new k (walks s _ r new step) tt engaged tied

-- each engine is of an available path, after each run
abbrev pub AreOnePath : Type 0
AreOnePath = (setup : Setup) (h : List Entry) (s : State) → IsLawful setup → Run (opening_of setup) h s → IsOnePath s

pub record IsRunSeen (setup : Setup) (h : List Entry) (s : State) : Type 0 where
  pub count : s.sets ≡ set_count setup
  pub tied : AreSeen (links_in setup h) s
  pub right : KeepsLinks setup h

pub run-seen : AreWalks → AreOnePath → (setup : Setup) (h : List Entry) (s : State) → IsLawful setup → Run (opening_of setup) h s → IsRunSeen setup h s
run-seen walks paths setup _ _ lawful Opened = record {
  count = refl;
  tied = opening-tied (set_count setup) (length setup.units) setup.paths setup.subchannels
      (λ i x e. subst (λ (y : SubchannelSetup). IsPlaced (set_count setup) (length setup.units) setup.paths y) (get_or_from_slice_get setup.subchannels i x x e)
      (lawful.subchannels i x (slice_get_within setup.subchannels i x e)));
  right = tt;
}
run-seen walks paths setup _ _ lawful (Stepped h old e r new run step) =
    let before : IsRunSeen setup h old = run-seen walks paths setup h old lawful run in
    let one : IsOnePath old = paths setup h old lawful run in
    let k : Seen = links_in setup h in
    let now : IsSeenStep old e r new k = step-seen walks old e r new k step one.available before.tied in
    record {
      count = sets-stay old e r new (walks old e r new step) ∙ before.count;
      tied = subst (λ (y : Seen). AreSeen y new) (sym (through-more (seen_after (set_count setup)) (nothing_seen setup) h e r))
          (subst (λ (n : ℕ). AreSeen (seen_after n e r k) new) before.count now.tied);
      right = claim-more (seen_after (set_count setup)) (IsEntryRight (set_count setup)) (nothing_seen setup) h e r before.right
          (subst (λ (n : ℕ). IsEntryRight n e r k) before.count now.right);
    }

pub run-keeps-links : AreWalks → AreOnePath → (setup : Setup) (h : List Entry) (s : State) → IsLawful setup → Run (opening_of setup) h s → KeepsLinks setup h
run-keeps-links walks paths setup h s lawful run = (run-seen walks paths setup h s lawful run).right
