-- After each run an offer that is over by what was seen is over for its subchannel: each entry is right.
use Rattle.std.proofs.Common.{◌≡◌, refl, sym, ◌∙◌, ap, subst, ℕ, Bool, true, false, Option, None, Some, Result, List, map, slice_get, slice_set, IfOk, if◌then◌else◌, inl, inr, arith}
use Rattle.std.specs.Prelude.{◌⊎◌}
use Rattle.chan_events.specs.Events.{Event}
use Rattle.chan_events.specs.declared.event.Event.TheVariants as event
use Rattle.chan_events.specs.declared.event.Instruction.TheVariants as instruction
use Rattle.chan_events.specs.declared.reply.Entry.{Entry}
use Rattle.chan_events.specs.Replies.{Reply}
use Rattle.chan_events.specs.declared.reply.Reply.TheVariants as reply
use Rattle.chan_model.specs.ConditionCodes.{answer_of_code}
use Rattle.chan_model.specs.declared.answer.Answer.TheVariants as answer
use Rattle.chan_model.specs.declared.answer.ConditionCode.{ConditionCode}
use Rattle.chan_model.specs.declared.answer.ConditionCode.TheVariants as code
use Rattle.chan_model.specs.declared.fault.Fault.{Fault}
use Rattle.chan_model.specs.UnitReports.{unit_reports}
use Rattle.channel_config.specs.declared.names.SubchannelId.{SubchannelId}
use Rattle.channel_config.specs.declared.parts.SubchannelSetup.{SubchannelSetup}
use Rattle.channel_config.specs.Setup.{Setup, set_count}
use Rattle.channel_config.specs.SubchannelWords.{subchannel_named}
use Rattle.subchannel_model.specs.declared.state.Subchannel.{Subchannel}
use Rattle.subchannel_model.specs.declared.state.SubchannelState.{SubchannelState}
use Rattle.subchannel_model.specs.declared.status.Condition.{Condition}
use Rattle.subchannel_model.specs.Cancel.{xsch_code, cancelled}
use Rattle.subchannel_model.specs.Choosing.{chosen, marked_sub}
use Rattle.subchannel_model.specs.Conditions.{condition_of}
use Rattle.subchannel_model.specs.Halt.{hsch_code, halted}
use Rattle.subchannel_model.specs.Opening.{opened}
use Rattle.subchannel_model.specs.Indices.{Found, index_in, index_of_id, found_at}
use Rattle.subchannel_model.specs.Start.{started}
use Rattle.machine_model.specs.declared.state.Sweep.{Sweep}
use Rattle.chan_events.specs.Instructions.{subchannel_word}
use Rattle.machine_model.specs.InstructionSteps.{code_at, function_sub}
use Rattle.machine_model.specs.PathSteps.{swept}
use Rattle.machine_model.specs.State.{State, opening_of, index_of}
use Rattle.machine_model.specs.Steps.{Run, Opened, Stepped, Step}
use Rattle.machine_model.specs.Results.{SubResult, UpResult, DownResult, with_state}
use Rattle.step_laws.proofs.Indices.{set-get, map-get, found-there}
use Rattle.step_laws.specs.Walks as walked
use Rattle.step_laws.specs.Walks.{AreWalks, Walked, IsQuiet, is_start, OneSub}
use Rattle.run_laws.proofs.Machine.Linked.{index-set}
use Rattle.run_laws.specs.StateClaims.{is_id}
use Rattle.run_laws.specs.BeginsItsOwn.{is_code_zero, over_by, over_chosen, over_after, IsEntryRight, BeginsItsOwn}
use Rattle.run_laws.specs.Entries.{seen_through, Throughout}
use Rattle.run_laws.proofs.Machine.Appending.{through-more, claim-more}
use Rattle.run_laws.proofs.Signals.Overs.{start-over, halt-over}
use Rattle.run_laws.proofs.Signals.RunPaths.{index-map}
use Rattle.run_laws.proofs.Machine.Names.{named-is, named-index}
use Rattle.run_laws.proofs.Signals.Starts.{start-within, halt-within}
use Rattle.run_laws.proofs.Signals.OwnSteps.{Owned, Goes, test-goes, modify-goes, function-goes, IsTurn, choose-setup, chosen-owned, IsMet, up-owned, up-setup, IsApart, down-apart, step-apart, act-apart, swept-goes}
use Rattle.chan_events.specs.declared.event.Instruction.{Instruction}
use Rattle.step_laws.specs.Codes.{code_by}
use Rattle.step_laws.proofs.Executed.{IsEffect, IsDone, code_for, reply_of, state_left}
use Rattle.step_laws.proofs.Results as turn
use Rattle.step_laws.proofs.Results.{ResultOf, HasResult, step-turn}

-- of the subchannel of a name
abbrev OwnedAt : SubchannelId → List Subchannel → Bool → Type 0
OwnedAt id subs over = (index : ℕ) (sub : Subchannel) → index_in id subs ≡ Some index → slice_get subs index ≡ Some sub → Owned over sub.state

owned-set : (id : SubchannelId) (subs : List Subchannel) (index : ℕ) (sub after : Subchannel) (over next : Bool) → slice_get subs index ≡ Some sub → after.setup ≡ sub.setup →
    (index_in id subs ≡ Some index → Owned over sub.state → Owned next after.state) → ((index_in id subs ≡ Some index → ⊥) → next ≡ over) → OwnedAt id subs over →
    OwnedAt id (slice_set subs index after) next
owned-set id subs index sub after over next there same here other owned = λ i x named at.
    let first : index_in id subs ≡ Some i = sym (index-set id subs index sub after there same) ∙ named in
    elim (set-get subs index after i x at) [
      | inl p ↦
          let mine : index_in id subs ≡ Some index = first ∙ ap Some p.0 in
          subst (λ (y : Subchannel). Owned next y.state) (sym p.1) (here mine (owned index sub mine there))
      | inr p ↦ subst (λ (y : Bool). Owned y x.state) (sym (other (λ h. p.0 (cc (sym first ∙ h))))) (owned i x first p.1)
    ]

goes-owned : (id : SubchannelId) (s new : State) (index : ℕ) (sub after : Subchannel) (over : Bool) → OneSub s new index sub after → Goes over over sub after → OwnedAt id s.subs over →
    OwnedAt id new.subs over
goes-owned id s new index sub after over one m owned =
    subst (λ (xs : List Subchannel). OwnedAt id xs over) (sym one.subs)
    (owned-set id s.subs index sub after over over one.there m.setup (λ h k. m.owned k) (λ h. refl) owned)

apart-owned : (id : SubchannelId) (subs : List Subchannel) (index : ℕ) (sub : Subchannel) (t : DownResult) (over : Bool) → slice_get subs index ≡ Some sub → IsApart sub t → OwnedAt id subs over →
    OwnedAt id (slice_set subs index t.sub) over
apart-owned id subs index sub t over there m owned =
    owned-set id subs index sub t.sub over over there m.setup (λ h k. subst (λ (x : SubchannelState). Owned over x) (sym m.state) k) (λ h. refl) owned

swept-owned : (over : Bool) (what : Sweep) (id : SubchannelId) (subs : List Subchannel) → OwnedAt id subs over → OwnedAt id (map (swept what) subs) over
swept-owned over what id subs owned = λ i x named at.
    let p = map-get (swept what) subs i x at in
    subst (λ (y : Subchannel). Owned over y.state) p.2
    ((swept-goes over what p.0).owned (owned i p.0 (sym (index-map (swept what) (λ sub. (swept-goes over what sub).setup) id subs) ∙ named) p.1))

-- HALT and CANCEL, by what they answer
pub data Answered (s : State) (word : ℕ) (table : Condition → ConditionCode) (effect : SubchannelState → SubchannelState) : Reply → List Subchannel → Type 0 where
  Unfound : (r : Reply) → is_code_zero r ≡ false → Answered s word table effect r s.subs
  There : (index : ℕ) (sub : Subchannel) → index_of s word ≡ Some index → slice_get s.subs index ≡ Some sub →
      Answered s word table effect (function_sub sub (code_at table sub) (effect sub.state)).reply (slice_set s.subs index (function_sub sub (code_at table sub) (effect sub.state)).sub)

-- an instruction that answers its code, with the serials that it leaves, and has this effect
abbrev HasEffect : Instruction → (SubchannelState → SubchannelState) → Type 0
HasEffect i effect = (sub : Subchannel) (x : SubchannelState) → IsEffect i sub x →
    (x ≡ effect sub.state) × (reply_of i (code_for i sub) sub.state (state_left i sub x) ≡ reply.Code (answer_of_code (code_for i sub) (state_left i sub x).serials))

found-answered : (s : State) (i : Instruction) (effect : SubchannelState → SubchannelState) (q : Option Found) (p : Option ℕ) (r : Reply) (new : State) → HasEffect i effect →
    code_by i (condition_of None) ≡ code.Three → index_of s (subchannel_word i) ≡ p → found_at s.subs p ≡ q → IsDone s i q r new → Answered s (subchannel_word i) (code_by i) effect r new.subs
found-answered s i effect None p r new has three n e k =
    subst (λ (xs : List Subchannel). Answered s (subchannel_word i) (code_by i) effect r xs) (sym k.subs)
    (Unfound r (ap is_code_zero k.replies ∙ ap (λ (c : ConditionCode). is_code_zero (reply.Code (answer_of_code c (record { made = 0; cleared = 0 })))) three))
found-answered s i effect (Some f) p r new has three n e k =
    let there : (p ≡ Some f.index) × (slice_get s.subs f.index ≡ Some f.sub) = found-there s.subs p f e in
    let its : (k.effect ≡ effect f.sub.state) × (reply_of i (code_for i f.sub) f.sub.state (state_left i f.sub k.effect) ≡ reply.Code (answer_of_code (code_for i f.sub) (state_left i f.sub k.effect).serials)) =
    has f.sub k.effect k.is in
    subst (λ (xs : List Subchannel). Answered s (subchannel_word i) (code_by i) effect r xs)
    (sym (k.subs ∙ ap (λ (x : SubchannelState). slice_set s.subs f.index (with_state f.sub (state_left i f.sub x))) its.0))
    (subst (λ (y : Reply). Answered s (subchannel_word i) (code_by i) effect y (slice_set s.subs f.index (with_state f.sub (state_left i f.sub (effect f.sub.state)))))
    (sym (k.replies ∙ its.1 ∙ ap (λ (x : SubchannelState). reply.Code (answer_of_code (code_for i f.sub) (state_left i f.sub x).serials)) its.0))
    (There f.index f.sub (n ∙ there.0) there.1))

turn-answered : (s : State) (cpu : ℕ) (i : Instruction) (effect : SubchannelState → SubchannelState) (r : Reply) (new : State) → HasEffect i effect →
    code_by i (condition_of None) ≡ code.Three → ResultOf s (event.Execute cpu i) r new → Answered s (subchannel_word i) (code_by i) effect r new.subs
turn-answered s _ _ effect _ _ has three (turn.Executes cpu i id q r storage subs n e blocks left done) =
    found-answered s i effect q (index_in id s.subs) r (record s { storage = storage; subs = subs }) has three (ap (index_of_id s.subs) n) e done

pub step-answered : (s : State) (cpu : ℕ) (i : Instruction) (effect : SubchannelState → SubchannelState) (r : Reply) (new : State) → HasEffect i effect →
    code_by i (condition_of None) ≡ code.Three → Step s (event.Execute cpu i) r new → Answered s (subchannel_word i) (code_by i) effect r new.subs
step-answered s cpu i effect r new has three step =
    let is : HasResult s (event.Execute cpu i) r new = step-turn s (event.Execute cpu i) r new step in
    subst (λ (x : State). Answered s (subchannel_word i) (code_by i) effect r x.subs) (sym is.settles) (turn-answered s cpu i effect r is.left has three is.turn)

pub halt-answered : (s : State) (cpu word : ℕ) (r : Reply) (new : State) → Step s (event.Execute cpu (instruction.Hsch word)) r new → Answered s word hsch_code halted r new.subs
halt-answered s cpu word r new step = step-answered s cpu (instruction.Hsch word) halted r new (λ sub x is. (is, refl)) refl step

pub cancel-answered : (s : State) (cpu word : ℕ) (r : Reply) (new : State) → Step s (event.Execute cpu (instruction.Xsch word)) r new → Answered s word xsch_code cancelled r new.subs
cancel-answered s cpu word r new step = step-answered s cpu (instruction.Xsch word) cancelled r new (λ sub x is. (is, refl)) refl step

if-mine : (b x y : Bool) (s : SubchannelState) → b ≡ true → Owned x s → Owned (if b then x else y) s
if-mine true x y s e k = k
if-mine false x y s e k = absurd (cc e)

if-else : (b x y : Bool) → (b ≡ true → ⊥) → (if b then x else y) ≡ y
if-else true x y n = absurd (n refl)
if-else false x y n = refl

if-both : (b x : Bool) → (if b then x else x) ≡ x
if-both true x = refl
if-both false x = refl

by-same : (b z over : Bool) → z ≡ false → (if b then (if z then true else over) else over) ≡ over
by-same true true over e = absurd (cc e)
by-same true false over e = refl
by-same false z over e = refl

code-owned : (s : State) (id : SubchannelId) (word : ℕ) (effect : SubchannelState → SubchannelState) (over : Bool) (index : ℕ) (sub : Subchannel) (c : ConditionCode) →
    index_of s word ≡ Some index → slice_get s.subs index ≡ Some sub → (c ≡ code.Zero → Owned over sub.state → Owned true (effect sub.state)) → OwnedAt id s.subs over →
    OwnedAt id (slice_set s.subs index (function_sub sub c (effect sub.state)).sub)
    (if is_id (subchannel_named s.sets word) id then over_by (function_sub sub c (effect sub.state)).reply over else over)
code-owned s id word effect over index sub code.Zero n there f owned =
    let named : Option SubchannelId = subchannel_named s.sets word in
    owned-set id s.subs index sub (with_state sub (effect sub.state)) over (if is_id named id then true else over) there refl
    (λ mine k. if-mine (is_id named id) true over (effect sub.state) (named-is s.subs id named index sub n mine there) (f refl k))
    (λ not. if-else (is_id named id) true over (λ is. not (named-index s.subs id named index n is))) owned
code-owned s id word effect over index sub c n there f owned =
    subst (λ (b : Bool). OwnedAt id (slice_set s.subs index sub) b) (sym (if-both (is_id (subchannel_named s.sets word) id) over))
    (owned-set id s.subs index sub sub over over there refl (λ h k. k) (λ h. refl) owned)

answered-owned : (s : State) (id : SubchannelId) (word : ℕ) (table : Condition → ConditionCode) (effect : SubchannelState → SubchannelState) (over : Bool) (r : Reply) (subs : List Subchannel) →
    ((sub : Subchannel) → table (condition_of (Some sub.state)) ≡ code.Zero → Owned over sub.state → Owned true (effect sub.state)) → Answered s word table effect r subs →
    OwnedAt id s.subs over → OwnedAt id subs (if is_id (subchannel_named s.sets word) id then over_by r over else over)
answered-owned s id word table effect over _ _ f (Unfound r z) owned =
    subst (λ (b : Bool). OwnedAt id s.subs b) (sym (by-same (is_id (subchannel_named s.sets word) id) (is_code_zero r) over z)) owned
answered-owned s id word table effect over _ _ f (There index sub n there) owned = code-owned s id word effect over index sub (code_at table sub) n there (f sub) owned

halt-owned : (over : Bool) (sub : Subchannel) → hsch_code (condition_of (Some sub.state)) ≡ code.Zero → Owned over sub.state → Owned true (halted sub.state)
halt-owned over sub e k = record { within = halt-within sub.state k.within; tied = λ t q h o. halt-over sub.state e }

cancel-owned : (over : Bool) (sub : Subchannel) → xsch_code (condition_of (Some sub.state)) ≡ code.Zero → Owned over sub.state → Owned true (cancelled sub.state)
cancel-owned over sub e k = record { within = (k.within.0, tt, k.within.2, tt); tied = λ t q h o. inr refl }

data IsOne : Event → Type 0 where
  Halted : (cpu word : ℕ) → IsOne (event.Execute cpu (instruction.Hsch word))
  Cancelled : (cpu word : ℕ) → IsOne (event.Execute cpu (instruction.Xsch word))

-- what a step leaves of it, and that its entry is right
abbrev IsRight : SubchannelId → State → Event → Reply → State → Bool → Type 0
IsRight id s e r new over = IsEntryRight s.sets id e r over × OwnedAt id new.subs (over_after s.sets id e r over)

one-right : (id : SubchannelId) (s : State) (e : Event) (r : Reply) (new : State) (over : Bool) → IsOne e → Step s e r new → OwnedAt id s.subs over → IsRight id s e r new over
one-right id s _ r new over (Halted cpu word) step owned =
    (tt, answered-owned s id word hsch_code halted over r new.subs (halt-owned over) (halt-answered s cpu word r new step) owned)
one-right id s _ r new over (Cancelled cpu word) step owned =
    (tt, answered-owned s id word xsch_code cancelled over r new.subs (cancel-owned over) (cancel-answered s cpu word r new step) owned)

-- quiet events
abbrev IsPlain : ℕ → SubchannelId → Event → Reply → Bool → Type 0
IsPlain sets id e r over = (over_after sets id e r over ≡ over) × IsEntryRight sets id e r over

zero-start : (r : Reply) → is_code_zero r ≡ is_start r
zero-start (reply.Code (answer.Zero serials)) = refl
zero-start r = refl

plain-or : (sets : ℕ) (id : SubchannelId) (e : Event) (r : Reply) (over : Bool) → IsQuiet e r → IsPlain sets id e r over ⊎ IsOne e
plain-or sets id (event.Execute cpu (instruction.Ssch word address)) r over q =
    inl (by-same (is_id (subchannel_named sets word) id) (is_code_zero r) over (zero-start r ∙ q), tt)
plain-or sets id (event.Execute cpu (instruction.Hsch word)) r over q = inr (Halted cpu word)
plain-or sets id (event.Execute cpu (instruction.Xsch word)) r over q = inr (Cancelled cpu word)
plain-or sets id (event.Choose word) r over q = absurd q
plain-or sets id (event.Up word path) r over q = absurd q
plain-or sets id (event.Down word path) r over q = absurd q
plain-or sets id (event.Report at report) r over q = absurd q
plain-or sets id e r over q = inl (refl, tt)

quiet-right : (id : SubchannelId) (s : State) (e : Event) (r : Reply) (new : State) (over : Bool) → IsQuiet e r → Step s e r new → OwnedAt id s.subs over → OwnedAt id new.subs over →
    IsRight id s e r new over
quiet-right id s e r new over q step before after =
    elim (plain-or s.sets id e r over q) [
      | inl plain ↦ (plain.1, subst (λ (b : Bool). OwnedAt id new.subs b) (sym plain.0) after)
      | inr one ↦ one-right id s e r new over one step before
    ]

walked-right : (id : SubchannelId) (s : State) (e : Event) (r : Reply) (new : State) (over : Bool) → Walked s e r new → Step s e r new → OwnedAt id s.subs over → IsRight id s e r new over
walked-right id s _ _ _ over (walked.Stays e r new q sets subs units up) step owned =
    quiet-right id s e r new over q step owned (subst (λ (xs : List Subchannel). OwnedAt id xs over) (sym subs) owned)
walked-right id s _ _ _ over (walked.Started cpu word address index sub orb c new n one) step owned = (
  tt,
  subst (λ (xs : List Subchannel). OwnedAt id xs (if is_id (subchannel_named s.sets word) id then over_by (function_sub sub c (started sub.state orb)).reply over else over)) (sym one.subs)
      (code-owned s id word (λ x. started x orb) over index sub c n one.there
      (λ e k. record { within = start-within sub.state orb k.within; tied = λ t q h o. start-over sub.state orb k.within }) owned),
)
walked-right id s _ _ _ over (walked.Tested e r index sub c new q one address by answers) step owned =
    quiet-right id s e r new over q step owned (goes-owned id s new index sub _ over one (test-goes over sub c) owned)
walked-right id s _ _ _ over (walked.Modified e r index sub given c new q one) step owned =
    quiet-right id s e r new over q step owned (goes-owned id s new index sub _ over one (modify-goes over sub given c) owned)
walked-right id s _ _ _ over (walked.Performed e r index sub f c new q one by answers) step owned =
    quiet-right id s e r new over q step owned (goes-owned id s new index sub _ over one (function-goes over sub f c) owned)
walked-right id s _ _ _ over (walked.Chosen word index sub choice t new n x w ok one) step owned =
    let named : Option SubchannelId = subchannel_named s.sets word in
    let turn : Owned over sub.state → IsTurn over (marked_sub sub choice) t =
    λ k. subst (λ (r : Result SubResult Fault). IfOk r (IsTurn over (marked_sub sub choice))) ok (chosen-owned over sub choice k) in (
      tt,
      subst (λ (xs : List Subchannel). OwnedAt id xs (if is_id named id then over_chosen t.reply over else over)) (sym one.subs)
          (owned-set id s.subs index sub t.sub over _ one.there
          (subst (λ (r : Result SubResult Fault). IfOk r (λ t. t.sub.setup ≡ sub.setup)) ok (choose-setup (marked_sub sub choice) (chosen sub choice)))
          (λ mine k. if-mine (is_id named id) (over_chosen t.reply over) over t.sub.state (named-is s.subs id named index sub n mine one.there) (turn k).owned)
          (λ not. if-else (is_id named id) (over_chosen t.reply over) over (λ is. not (named-index s.subs id named index n is))) owned),
    )
walked-right id s _ _ _ over (walked.Met word path returns index sub t new n ok one may) step owned =
    let named : Option SubchannelId = subchannel_named s.sets word in
    let met : Owned over sub.state → IsMet over sub t = λ k. subst (λ (r : Result UpResult Fault). IfOk r (IsMet over sub)) ok (up-owned over returns s.storage sub path k) in (
      λ is. (met (owned index sub (named-index s.subs id named index n is) one.there)).right,
      subst (λ (xs : List Subchannel). OwnedAt id xs over) (sym one.subs)
          (owned-set id s.subs index sub t.sub over over one.there
          (subst (λ (r : Result UpResult Fault). IfOk r (λ t. t.sub.setup ≡ sub.setup)) ok (up-setup returns s.storage sub path))
          (λ mine k. (met k).owned) (λ not. refl) owned),
    )
walked-right id s _ _ _ over (walked.Sunk word path may owed index sub u t new n ok one) step owned = (
  tt,
  subst (λ (xs : List Subchannel). OwnedAt id xs over) (sym one.subs)
      (apart-owned id s.subs index sub t over one.there (subst (λ (r : Result DownResult Fault). IfOk r (IsApart sub)) ok (down-apart may sub path u)) owned),
)
walked-right id s _ _ _ over (walked.Reported at index sub u report t new n reached ok one) step owned = (
  tt,
  subst (λ (xs : List Subchannel). OwnedAt id xs over) (sym one.subs)
      (apart-owned id s.subs index sub t over one.there (subst (λ (r : Result DownResult Fault). IfOk r (IsApart sub)) ok (step-apart sub (unit_reports u report))) owned),
)
walked-right id s _ _ _ over (walked.Acted at index sub u what t new side its ok one) step owned = (
  tt,
  subst (λ (xs : List Subchannel). OwnedAt id xs over) (sym one.subs)
      (apart-owned id s.subs index sub t over one.there (subst (λ (r : Result DownResult Fault). IfOk r (IsApart sub)) ok (act-apart sub u what)) owned),
)
walked-right id s _ _ _ over (walked.Restarted at owed u r new found sets subs units up) step owned = (tt, subst (λ (xs : List Subchannel). OwnedAt id xs over) (sym subs) owned)
walked-right id s _ _ _ over (walked.Swept e r what new q sets subs units by) step owned =
    quiet-right id s e r new over q step owned (subst (λ (xs : List Subchannel). OwnedAt id xs over) (sym subs) (swept-owned over what id s.subs owned))

-- how many sets there are stays
pub sets-stay : (s : State) (e : Event) (r : Reply) (new : State) → Walked s e r new → new.sets ≡ s.sets
sets-stay s _ _ _ (walked.Stays e r new q sets subs units up) = sets
sets-stay s _ _ _ (walked.Started cpu word address index sub orb c new n one) = one.sets
sets-stay s _ _ _ (walked.Tested e r index sub c new q one address by answers) = one.sets
sets-stay s _ _ _ (walked.Modified e r index sub given c new q one) = one.sets
sets-stay s _ _ _ (walked.Performed e r index sub f c new q one by answers) = one.sets
sets-stay s _ _ _ (walked.Chosen word index sub choice t new n x w ok one) = one.sets
sets-stay s _ _ _ (walked.Met word path returns index sub t new n ok one may) = one.sets
sets-stay s _ _ _ (walked.Sunk word path may owed index sub u t new n ok one) = one.sets
sets-stay s _ _ _ (walked.Reported at index sub u report t new n reached ok one) = one.sets
sets-stay s _ _ _ (walked.Acted at index sub u what t new side its ok one) = one.sets
sets-stay s _ _ _ (walked.Restarted at owed u r new found sets subs units up) = sets
sets-stay s _ _ _ (walked.Swept e r what new q sets subs units by) = sets

-- along a run, before which nothing was offered
record IsRunRight (sets : ℕ) (id : SubchannelId) (h : List Entry) (s : State) : Type 0 where
  count : s.sets ≡ sets
  owned : OwnedAt id s.subs (seen_through (over_after sets id) false h)
  right : Throughout (over_after sets id) (IsEntryRight sets id) false h

opened-owned : (setup : Setup) (id : SubchannelId) → OwnedAt id (opening_of setup).subs false
opened-owned setup id index sub named e =
    let p : (s : SubchannelSetup) × (slice_get setup.subchannels index ≡ Some s) × (opened s ≡ sub) = map-get opened setup.subchannels index sub e in
    subst (λ (y : Subchannel). Owned false y.state) p.2 (record { within = (omega arith, tt, tt, tt); tied = λ t q h o. absurd (cc o) })

run-right : AreWalks → (setup : Setup) (id : SubchannelId) (h : List Entry) (s : State) → Run (opening_of setup) h s → IsRunRight (set_count setup) id h s
run-right walks setup id _ _ Opened = record { count = refl; owned = opened-owned setup id; right = tt }
run-right walks setup id _ _ (Stepped h old e r new run step) =
    let before : IsRunRight (set_count setup) id h old = run-right walks setup id h old run in
    let walk : Walked old e r new = walks old e r new step in
    let over : Bool = seen_through (over_after (set_count setup) id) false h in
    let now : IsRight id old e r new over = walked-right id old e r new over walk step before.owned in
    record {
      count = sets-stay old e r new walk ∙ before.count;
      owned = subst (λ (b : Bool). OwnedAt id new.subs b) (sym (through-more (over_after (set_count setup) id) false h e r))
          (subst (λ (n : ℕ). OwnedAt id new.subs (over_after n id e r over)) before.count now.1);
      right = claim-more (over_after (set_count setup) id) (IsEntryRight (set_count setup) id) false h e r before.right
          (subst (λ (n : ℕ). IsEntryRight n id e r over) before.count now.0);
    }

pub run-begins-its-own : AreWalks → (setup : Setup) (h : List Entry) (s : State) → Run (opening_of setup) h s → BeginsItsOwn (set_count setup) h
run-begins-its-own walks setup h s run = λ id. (run-right walks setup id h s run).right
