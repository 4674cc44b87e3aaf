-- Along a run what its entries tell of storage and of the programs.
use Rattle.std.proofs.Common.{◌≡◌, refl, sym, ◌∙◌, ap, subst, ℕ, ◌+◌, ◌==◌, Bool, true, false, arith, Option, None, Some, List, [], ◌∷◌, ◌++◌, inl, inr}
use Rattle.std.specs.Prelude.{if◌then◌else◌, map, option_map, slice_get, IfSome}
use Rattle.std.proofs.lemmas.Bool.{eqb-true, eqb-false}
use Rattle.orb_block.specs.declared.Orb.{Orb}
use Rattle.storage_keys.specs.Storage.{Contents}
use Rattle.chan_model.specs.declared.answer.Answer.TheVariants as answer
use Rattle.chan_model.specs.declared.hold_state.HoldPhase.TheVariants as hold
use Rattle.chan_model.specs.Signals.{Down, Up}
use Rattle.chan_model.specs.declared.signal.OnPath.{OnPath}
use Rattle.chan_model.specs.declared.signal.Up.TheVariants as up
use Rattle.chan_model.specs.ResetCauses.{is_path}
use Rattle.chan_events.specs.Events.{Event}
use Rattle.chan_events.specs.declared.event.Event.TheVariants as event
use Rattle.chan_events.specs.declared.event.Instruction.{Instruction}
use Rattle.chan_events.specs.declared.event.Instruction.TheVariants as instruction
use Rattle.chan_events.specs.declared.reply.Entry.{Entry}
use Rattle.chan_events.specs.Replies.{Reply}
use Rattle.chan_events.specs.declared.reply.Reply.TheVariants as reply
use Rattle.channel_config.specs.declared.names.SubchannelId.{SubchannelId}
use Rattle.channel_config.specs.declared.parts.SubchannelSetup.{SubchannelSetup}
use Rattle.channel_config.specs.Lawful.{IsLawful}
use Rattle.channel_config.specs.Setup.{Setup, set_count}
use Rattle.channel_config.specs.SubchannelWords.{subchannel_named}
use Rattle.subchannel_model.specs.declared.state.Program.{Program}
use Rattle.subchannel_model.specs.declared.state.Subchannel.{Subchannel}
use Rattle.subchannel_model.specs.declared.state.SubchannelState.{SubchannelState}
use Rattle.subchannel_model.specs.Opening.{opened}
use Rattle.subchannel_model.specs.Start.{started}
use Rattle.subchannel_model.specs.Indices.{first_index, is_named, index_in, index_of_id, reached_in}
use Rattle.chan_events.specs.Instructions.{subchannel_word}
use Rattle.machine_model.specs.Setups.{IsSetUp}
use Rattle.machine_model.specs.State.{State, opening_of, index_of}
use Rattle.machine_model.specs.Steps.{Step, Run, Opened, Stepped}
use Rattle.machine_model.specs.Results.{with_state}
use Rattle.step_laws.specs.Walks.{Walked}
use Rattle.step_laws.proofs.Indices.{set-get, map-get}
use Rattle.run_laws.specs.StateClaims.{is_id}
use Rattle.run_laws.specs.BeginsItsOwn.{is_code_zero, IsAcceptRight}
use Rattle.run_laws.proofs.Signals.HolderRuns as holders
use Rattle.run_laws.proofs.Signals.HolderRuns.{run-right}
use Rattle.run_laws.specs.Shown.{names}
use Rattle.run_laws.proofs.Shown.Runs.{AreLaws}
use Rattle.run_laws.specs.ProgramClaims.{TraceCorrect}
use Rattle.run_laws.specs.Tells.{GoesBy, IsTold, AllTold}
use Rattle.run_laws.specs.Traces.{ProgramTrace, chosen_at, taken_at}
use Rattle.run_laws.specs.ProgramTold.{Told, StartsBy, HasAbsorbed, Standing, over_after, halted_after, standing_after, TellsBy, index_named, is_named_at, is_about, AreTold, nothing_traced, nothing_over, opening_storage, AreProgramsTold}
use Rattle.run_laws.specs.StatusTold.{shown_by, IsStatusTold}
use Rattle.run_laws.specs.StorageTold.{StoresBy, AreStored}
use Rattle.run_laws.proofs.Traces.StorageSteps.{step-stores}
use Rattle.run_laws.proofs.Offers.Starting.{Started, Unfound, Refused, Starts, step-started}
use Rattle.run_laws.proofs.Offers.Overs.{Owned}
use Rattle.run_laws.proofs.Offers.OverRuns.{OwnedAt, about, step-owned}
use Rattle.run_laws.proofs.Offers.Halts.{mine, halted_by, run-halted}
use Rattle.run_laws.specs.Entries.{seen_through}
use Rattle.run_laws.proofs.Machine.Appending.{through-more}
use Rattle.run_laws.proofs.Offers.StartMasks.{Masked}
use Rattle.run_laws.proofs.Offers.OfferedPaths.{IsNoStart, MaskedAt, SameSetups, stays-masked, set-masked, start-masked, offered-path}
use Rattle.run_laws.proofs.Statuses.StatusRuns.{path-is, named-same, AreStatusesTold, nothing-stored, entry-told, step-told}
use Rattle.run_laws.proofs.Traces.Telling.{told, IsStarted, IsJust, AnswersOffer, up-by, walk-answers, walk-replies, IsChosen, walk-chosen, offers-waiting, offers-by, report-absorbed}
use Rattle.run_laws.proofs.Offers.Waiting.{walk-waits}

-- one entry more
stored-more : (storage : Contents) (h : List Entry) (later : List Contents) (mid after : Contents) (x : Entry) → AreStored storage h later mid → StoresBy mid x.event x.reply after →
    AreStored storage (h ++ x ∷ []) (later ++ after ∷ []) after
stored-more storage [] [] mid after x a b = (subst (λ (y : Contents). StoresBy y x.event x.reply after) a b, refl)
stored-more storage [] (y ∷ later) mid after x a b = absurd a
stored-more storage (y ∷ h) [] mid after x a b = absurd a
stored-more storage (y ∷ h) (z ∷ later) mid after x a b = (a.0, stored-more z h later mid after x a.1 b)

abbrev standing_of : ℕ → List SubchannelSetup → ℕ → Event → Reply → Standing → Standing
standing_of sets subs index e r st = standing_after (is_about sets subs index e) e r st

abbrev standing_through : ℕ → List SubchannelSetup → ℕ → Standing → List Entry → Standing
standing_through sets subs index st h = seen_through (standing_of sets subs index) st h

abbrev StatusTold : Standing → Bool → Entry → Told → Type 0
StatusTold st mine x k = IsStatusTold st.over st.behind st.stored.passed (shown_by mine x.event x.reply) k.program

told-more : (sets : ℕ) (subs : List SubchannelSetup) (index : ℕ) (storage : Contents) (st : Standing) (k : Told) (h : List Entry) (later : List Contents) (mid after : Contents) (x : Entry) (now next : Told) →
    AreStored storage h later mid → AreTold sets subs index storage st k h later now →
    TellsBy (is_about sets subs index x.event) (standing_through sets subs index st h) mid after x.event x.reply now next →
    IfSome next.program TraceCorrect → StatusTold (standing_through sets subs index st h) (is_about sets subs index x.event) x now →
    AreTold sets subs index storage st k (h ++ x ∷ []) (later ++ after ∷ []) next
told-more sets subs index storage st k [] [] mid after x now next a t b c d = (
  next,
  subst (λ (y : Contents). TellsBy (is_about sets subs index x.event) st y after x.event x.reply k next) a
      (subst (λ (y : Told). TellsBy (is_about sets subs index x.event) st mid after x.event x.reply y next) t b),
  c,
  subst (λ (y : Told). StatusTold st (is_about sets subs index x.event) x y) t d,
  refl,
)
told-more sets subs index storage st k [] (y ∷ later) mid after x now next a t b c d = absurd a
told-more sets subs index storage st k (y ∷ h) [] mid after x now next a t b c d = absurd a
told-more sets subs index storage st k (y ∷ h) (z ∷ later) mid after x now next a t b c d =
    (t.0, t.1, t.2, t.3, told-more sets subs index z (standing_after (is_about sets subs index y.event) y.event y.reply st) t.0 h later mid after x now next a.1 t.4 b c d)

-- what storage held
abbrev storages : (opening : State) (h : List Entry) (s : State) → Run opening h s → List Contents
storages opening _ _ Opened = []
storages opening _ _ (Stepped h old e r new run step) = storages opening h old run ++ new.storage ∷ []

run-stored : (opening : State) (h : List Entry) (s : State) (run : Run opening h s) → AreStored opening.storage h (storages opening h s run) s.storage
run-stored opening _ _ Opened = refl
run-stored opening _ _ (Stepped h old e r new run step) =
    stored-more opening.storage h (storages opening h old run) old.storage new.storage (record { event = e; reply = r }) (run-stored opening h old run) (step-stores old e r new step)

-- which subchannel a word names, by the set-up
first-same : (id : SubchannelId) (subs : List Subchannel) → index_in id subs ≡ first_index (λ (x : SubchannelSetup). is_id (Some x.id) id) (map (λ (sub : Subchannel). sub.setup) subs)
first-same id [] = refl
first-same id (x ∷ xs) = ap (λ (o : Option ℕ). if is_named id x then Some 0 else option_map (λ index. index + 1) o) (first-same id xs)

index-same : (subs : List Subchannel) (x : Option SubchannelId) → index_of_id subs x ≡ index_named (map (λ (sub : Subchannel). sub.setup) subs) x
index-same subs None = refl
index-same subs (Some id) = first-same id subs

word-same : (setup : Setup) (s : State) → IsSetUp setup s → (index word : ℕ) → is_path (index_of s word) index ≡ is_named_at (set_count setup) setup.subchannels index word
word-same setup s set_up index word =
    ap (λ (o : Option ℕ). is_path o index) (index-same s.subs (subchannel_named s.sets word))
    ∙ ap (λ (xs : List SubchannelSetup). is_path (index_named xs (subchannel_named s.sets word)) index) set_up.subs
    ∙ ap (λ (n : ℕ). is_path (index_named setup.subchannels (subchannel_named n word)) index) set_up.sets

about-same : (setup : Setup) (s : State) → IsSetUp setup s → (index : ℕ) (e : Event) → about s index e ≡ is_about (set_count setup) setup.subchannels index e
about-same setup s u index (event.Execute cpu i) = word-same setup s u index (subchannel_word i)
about-same setup s u index (event.Choose word) = word-same setup s u index word
about-same setup s u index (event.Up word path) = word-same setup s u index word
about-same setup s u index (event.Down word path) = word-same setup s u index word
about-same setup s u index e = refl

-- a step
abbrev WaitsAt : Option Orb → List Subchannel → ℕ → Type 0
WaitsAt a subs index = (sub : Subchannel) → slice_get subs index ≡ Some sub → IsStarted a sub.state.waiting

abbrev StartedAt : Option Orb → State → ℕ → Type 0
StartedAt a s index = WaitsAt a s.subs index × MaskedAt a s.subs index

abbrev Tells : Standing → State → Event → Reply → State → ℕ → Option Orb → Option ProgramTrace → Option ProgramTrace → Type 0
Tells st s e r new index a k after =
    (b : Option Orb) × StartedAt b new index × TellsBy (about s index e) st s.storage new.storage e r (told a k) (told b after)

stays-started : (s : State) (e : Event) (r : Reply) (new : State) (index : ℕ) (a : Option Orb) → Step s e r new → Walked s e r new → SameSetups s.subs new.subs → IsNoStart e →
    StartedAt a s index → StartedAt a new index
stays-started s e r new index a step walk same not i = (
  λ sub here. let w = walk-waits (λ (x : Option Program). IsStarted a x) tt s e r new walk not index sub here in w.2 (i.0 w.0 w.1),
  stays-masked a s e r new index step walk same not i.1,
)

not-zero : (storage : Contents) (cpu word address : ℕ) (r : Reply) (k after : Told) → is_code_zero r ≡ false → after ≡ k → StartsBy storage cpu (instruction.Ssch word address) r k after
not-zero storage cpu word address (reply.Code (answer.Zero serials)) k after z e = absurd (cc z)
not-zero storage cpu word address r k after z e = e

ssch-by : (st : Standing) (former storage : Contents) (cpu word address : ℕ) (r : Reply) (b : Bool) (k after : Told) → is_code_zero r ≡ false → after ≡ k →
    TellsBy b st former storage (event.Execute cpu (instruction.Ssch word address)) r k after
ssch-by st former storage cpu word address r true k after z e = not-zero former cpu word address r k after z e
ssch-by st former storage cpu word address r false k after z e = e

started-tells : (st : Standing) (s new : State) (cpu word address index : ℕ) (r : Reply) (subs : List Subchannel) (a : Option Orb) (k after : Option ProgramTrace) → new.subs ≡ subs → SameSetups s.subs new.subs →
    after ≡ k → StartedAt a s index → Started s cpu word address r subs → Tells st s (event.Execute cpu (instruction.Ssch word address)) r new index a k after
started-tells st s new cpu word address index _ _ a k after e setups same i (Unfound r z) = (
  a,
  (
    λ sub here. i.0 sub (subst (λ (xs : List Subchannel). slice_get xs index ≡ Some sub) e here),
    subst (λ (xs : List Subchannel). MaskedAt a xs index) (sym e) i.1,
  ),
  ssch-by st s.storage new.storage cpu word address r (is_path (index_of s word) index) (told a k) (told a after) z (ap (told a) same),
)
started-tells st s new cpu word address index _ _ a k after e setups same i (Refused at x y r there kept z) = (
  a,
  (
    λ sub here.
        elim (set-get s.subs at y index sub (subst (λ (xs : List Subchannel). slice_get xs index ≡ Some sub) e here)) [
          | inl p ↦
              subst (λ (v : SubchannelState). IsStarted a v.waiting) (sym kept ∙ ap (λ (v : Subchannel). v.state) (sym p.1))
              (i.0 x (subst (λ (j : ℕ). slice_get s.subs j ≡ Some x) (sym p.0) there))
          | inr p ↦ i.0 sub p.1
        ],
    set-masked a a s.subs new.subs at index x y setups there e (λ h m. subst (λ (v : SubchannelState). Masked a v) (sym kept) m) (λ h. refl) i.1,
  ),
  ssch-by st s.storage new.storage cpu word address r (is_path (index_of s word) index) (told a k) (told a after) z (ap (told a) same),
)
started-tells st s new cpu word address index _ _ a k after e setups same i (Starts at x orb serials n there here) = by (at == index) refl
  where
    mine : is_path (index_of s word) index ≡ (at == index)
    mine = ap (λ (o : Option ℕ). is_path o index) n

    r : Reply
    r = reply.Code (answer.Zero serials)

    ev : Event
    ev = event.Execute cpu (instruction.Ssch word address)

    by : (b : Bool) → (at == index) ≡ b → Tells st s ev r new index a k after
    by true f = (
      Some orb,
      (
        λ sub got.
            elim (set-get s.subs at _ index sub (subst (λ (xs : List Subchannel). slice_get xs index ≡ Some sub) e got)) [
              | inl p ↦ subst (λ (v : Subchannel). IsStarted (Some orb) v.state.waiting) (sym p.1) refl
              | inr p ↦ absurd (p.0 (sym (eqb-true at index f)))
            ],
        set-masked a (Some orb) s.subs new.subs at index x (with_state x (started x.state orb)) setups there e (λ h m. start-masked x.state orb) (λ h. absurd (h (eqb-true at index f))) i.1,
      ),
      subst (λ (b : Bool). TellsBy b st s.storage new.storage ev r (told a k) (told (Some orb) after)) (sym (mine ∙ f)) (orb, here, ap (told (Some orb)) same),
    )
    by false f = (
      a,
      (
        λ sub got.
            elim (set-get s.subs at _ index sub (subst (λ (xs : List Subchannel). slice_get xs index ≡ Some sub) e got)) [
              | inl p ↦ absurd (eqb-false at index f (sym p.0))
              | inr p ↦ i.0 sub p.1
            ],
        set-masked a a s.subs new.subs at index x (with_state x (started x.state orb)) setups there e (λ h m. absurd (eqb-false at index f h)) (λ h. refl) i.1,
      ),
      subst (λ (b : Bool). TellsBy b st s.storage new.storage ev r (told a k) (told a after)) (sym (mine ∙ f)) (ap (told a) same),
    )

-- another instruction
instruction-by : (st : Standing) (former storage : Contents) (cpu : ℕ) (i : Instruction) (r : Reply) (b : Bool) (k after : Told) → ((word address : ℕ) → i ≡ instruction.Ssch word address → ⊥) → after ≡ k →
    TellsBy b st former storage (event.Execute cpu i) r k after
instruction-by st former storage cpu i r false k after n e = e
instruction-by st former storage cpu (instruction.Ssch word address) r true k after n e = absurd (n word address refl)
instruction-by st former storage cpu i r true k after n e = e

-- Choose, and the signals

choose-by : (st : Standing) (s new : State) (word index : ℕ) (r : Reply) (b : Bool) (old : Subchannel) (a : Option Orb) (k after : Option ProgramTrace) → is_path (index_of s word) index ≡ b →
    slice_get s.subs index ≡ Some old → after ≡ (if b then chosen_at (slice_get s.subs index) r k else k) → IsStarted a old.state.waiting → MaskedAt a s.subs index →
    Walked s (event.Choose word) r new → TellsBy b st s.storage new.storage (event.Choose word) r (told a k) (told a after)
choose-by st s new word index r true old a k after m there e i masked walk =
    let named : index_of s word ≡ Some index = path-is (index_of s word) index m in
    let c : IsChosen s old r = walk-chosen s (event.Choose word) r new walk word index old refl named there in
    offers-by old r a k after (e ∙ ap (λ (o : Option Subchannel). chosen_at o r k) there) i (offers-waiting s old r c) (offered-path a s word index r old c named there masked)
choose-by st s new word index r false old a k after m there e i masked walk = ap (told a) e

down-by : (st : Standing) (former storage : Contents) (word path : ℕ) (r : Reply) (b : Bool) (a : Option Orb) (k after : Option ProgramTrace) → after ≡ (if b then taken_at r k else k) →
    TellsBy b st former storage (event.Down word path) r (told a k) (told a after)
down-by st former storage word path r true a k after e = ap (told a) e
down-by st former storage word path r false a k after e = ap (told a) e

module _ (st : Standing) (s : State) (index : ℕ) (old sub : Subchannel) (new : State) (owned : Owned st.over old.state) (halts : (word : ℕ) → is_path (index_of s word) index ≡ true → old.state.scsw.functions.halt ≡ st.halted) (there : slice_get s.subs index ≡ Some old) (here : slice_get new.subs index ≡ Some sub) (setups : SameSetups s.subs new.subs) where
  both : (signal : Up) (taken : Bool) (t : ℕ) (sent : Option (OnPath Down)) → signal ≡ up.Accept t → taken ≡ true → ◌≡◌ {A = Reply} (reply.Up signal taken sent) (reply.Up (up.Accept t) true sent)
  both signal taken t sent e f = ap (λ (x : Up). reply.Up x taken sent) e ∙ ap (λ (b : Bool). reply.Up (up.Accept t) b sent) f

  just : {r : Reply} → (t : ℕ) (sent : Option (OnPath Down)) → r ≡ reply.Up (up.Accept t) true sent → AnswersOffer old.state r → IsJust st.over old.state
  just {r} t sent e offer = let o = offer t sent e in owned.1 o.0 o.1 o.2

  replied : (word path : ℕ) (signal : Up) (taken : Bool) (sent : Option (OnPath Down)) (b : Bool) (a : Option Orb) (k after : Option ProgramTrace) → is_path (index_of s word) index ≡ b →
      IsAcceptRight (reply.Up signal taken sent) false → AnswersOffer old.state (reply.Up signal taken sent) → GoesBy index s (event.Up word path) (reply.Up signal taken sent) new k after →
      TellsBy b st s.storage new.storage (event.Up word path) (reply.Up signal taken sent) (told a k) (told a after)
  replied word path signal taken sent true a k after m right offer goes =
      up-by st s.storage new.storage old.state sub.state signal taken sent a k after right (λ t e f. just t sent (both signal taken t sent e f) offer) (halts word m) (goes.1 m old sub there here)
  replied word path signal taken sent false a k after m right offer goes = ap (told a) (goes.0 m).0

  up-tells : (word path : ℕ) (r : Reply) (b : Bool) (a : Option Orb) (k after : Option ProgramTrace) → is_path (index_of s word) index ≡ b → Walked s (event.Up word path) r new →
      GoesBy index s (event.Up word path) r new k after → TellsBy b st s.storage new.storage (event.Up word path) r (told a k) (told a after)
  up-tells word path r true a k after m walk goes =
      let w = walk-replies s (event.Up word path) r new walk word path refl in
      let offer : AnswersOffer old.state r = walk-answers s (event.Up word path) r new walk word path index old refl (path-is (index_of s word) index m) there in
      subst (λ (x : Reply). TellsBy true st s.storage new.storage (event.Up word path) x (told a k) (told a after)) (sym w.3)
      (replied word path w.0 w.1 w.2 true a k after m (subst (λ (x : Reply). IsAcceptRight x false) w.3 w.4) (subst (λ (x : Reply). AnswersOffer old.state x) w.3 offer)
      (subst (λ (x : Reply). GoesBy index s (event.Up word path) x new k after) w.3 goes))
  up-tells word path r false a k after m walk goes =
      let w = walk-replies s (event.Up word path) r new walk word path refl in
      ap (told a) ((subst (λ (x : Reply). GoesBy index s (event.Up word path) x new k after) w.3 goes).0 m).0

  not-start : (cpu : ℕ) (i : Instruction) → ((word address : ℕ) → i ≡ instruction.Ssch word address → ⊥) → (other word address : ℕ) →
      ◌≡◌ {A = Event} (event.Execute cpu i) (event.Execute other (instruction.Ssch word address)) → ⊥
  not-start cpu i n other word address e = let same : i ≡ instruction.Ssch word address = cc e in n word address same

  executed : (cpu : ℕ) (i : Instruction) (r : Reply) (a : Option Orb) (k after : Option ProgramTrace) → ((word address : ℕ) → i ≡ instruction.Ssch word address → ⊥) →
      Step s (event.Execute cpu i) r new → Walked s (event.Execute cpu i) r new → after ≡ k → StartedAt a s index → Tells st s (event.Execute cpu i) r new index a k after
  executed cpu i r a k after n step walk same started = (
    a,
    stays-started s (event.Execute cpu i) r new index a step walk setups (not-start cpu i n) started,
    instruction-by st s.storage new.storage cpu i r (is_path (index_of s (subchannel_word i)) index) (told a k) (told a after) n (ap (told a) same),
  )

  execute-tells : (cpu : ℕ) (i : Instruction) (r : Reply) (a : Option Orb) (k after : Option ProgramTrace) → Step s (event.Execute cpu i) r new → Walked s (event.Execute cpu i) r new → after ≡ k →
      StartedAt a s index → Tells st s (event.Execute cpu i) r new index a k after
  execute-tells cpu (instruction.Ssch word address) r a k after step walk same started =
      started-tells st s new cpu word address index r new.subs a k after refl setups same started (step-started s cpu word address r new step)
  execute-tells cpu (instruction.Enable word subclass multipath) r a k after step walk same started =
      executed cpu (instruction.Enable word subclass multipath) r a k after (λ w x e. cc e) step walk same started
  execute-tells cpu i r a k after step walk same started = executed cpu i r a k after (λ w x e. cc e) step walk same started

  stays : (e : Event) (r : Reply) (a : Option Orb) (k after : Option ProgramTrace) → Step s e r new → Walked s e r new → IsNoStart e →
      StartedAt a s index → TellsBy (about s index e) st s.storage new.storage e r (told a k) (told a after) → Tells st s e r new index a k after
  stays e r a k after step walk n started t = (a, stays-started s e r new index a step walk setups n started, t)

  pub step-tells : (e : Event) (r : Reply) (a : Option Orb) (k after : Option ProgramTrace) → Step s e r new → Walked s e r new → GoesBy index s e r new k after → StartedAt a s index →
      Tells st s e r new index a k after
  step-tells (event.Execute cpu i) r a k after step walk goes started = execute-tells cpu i r a k after step walk goes.0 started
  step-tells (event.Choose word) r a k after step walk goes started =
      stays (event.Choose word) r a k after step walk (λ c w x e. cc e) started
      (choose-by st s new word index r (is_path (index_of s word) index) old a k after refl there goes.0 (started.0 old there) started.1 walk)
  step-tells (event.Up word path) r a k after step walk goes started =
      stays (event.Up word path) r a k after step walk (λ c w x e. cc e) started (up-tells word path r (is_path (index_of s word) index) a k after refl walk goes)
  step-tells (event.Down word path) r a k after step walk goes started =
      stays (event.Down word path) r a k after step walk (λ c w x e. cc e) started
      (down-by st s.storage new.storage word path r (is_path (index_of s word) index) a k after goes.0)
  step-tells (event.Report at report) r a k after step walk goes started =
      stays (event.Report at report) r a k after step walk (λ c w x e. cc e) started (
        refl,
        subst (λ (x : Option ProgramTrace). HasAbsorbed k x) (sym goes.0)
            (report-absorbed (is_path (reached_in at report.side s.subs) index) (slice_get s.units at) report k),
      )
  step-tells v r a k after step walk goes started = stays v r a k after step walk (λ c w x e. cc e) started (ap (told a) goes.0)

-- an Accept that is taken answers an offer
accept-offer : (s : State) (index : ℕ) (old : Subchannel) (new : State) → slice_get s.subs index ≡ Some old → (e : Event) (r : Reply) → Walked s e r new →
    (word path t : ℕ) (sent : Option (OnPath Down)) → e ≡ event.Up word path → is_path (index_of s word) index ≡ true → r ≡ reply.Up (up.Accept t) true sent →
    (u : ℕ) × (q : ℕ) × (old.state.hold.phase ≡ hold.Offer u q)
accept-offer s index old new there e r walk word path t sent i m q =
    let offer : AnswersOffer old.state r = walk-answers s e r new walk word path index old i (path-is (index_of s word) index m) there in offer t sent q

-- the subchannel of an index is always there
there-is : (setup : Setup) (s : State) (index : ℕ) (x : SubchannelSetup) → IsSetUp setup s → slice_get setup.subchannels index ≡ Some x → (sub : Subchannel) × (slice_get s.subs index ≡ Some sub)
there-is setup s index x u e =
    let p = map-get (λ (sub : Subchannel). sub.setup) s.subs index x (subst (λ (xs : List SubchannelSetup). slice_get xs index ≡ Some x) (sym u.subs) e) in (p.0, p.1)

opened-started : (setup : Setup) (index : ℕ) → StartedAt None (opening_of setup) index
opened-started setup index = (
  λ sub e. let p = map-get opened setup.subchannels index sub e in subst (λ (y : Subchannel). IsStarted None y.state.waiting) p.2 tt,
  λ id sub named e.
      let p = map-get opened setup.subchannels index sub e in
      subst (λ (y : Subchannel). Masked None y.state) p.2 (record { mask = λ h. absurd (cc h); pending = λ h. absurd (cc h) }),
)

opened-owned : (setup : Setup) (index : ℕ) → OwnedAt false (opening_of setup).subs index
opened-owned setup index = λ sub e.
    let p = map-get opened setup.subchannels index sub e in subst (λ (y : Subchannel). Owned false y.state) p.2 ((omega arith, tt, tt, tt), λ t q h. absurd (cc h))

-- the standing of a subchannel by its name
module _ (setup : Setup) (s : State) (u : IsSetUp setup s) (id : SubchannelId) (index : ℕ) (sub : Subchannel) (named : index_in id s.subs ≡ Some index) (there : slice_get s.subs index ≡ Some sub) where
  word-mine : (word : ℕ) → is_named_at (set_count setup) setup.subchannels index word ≡ names (set_count setup) id word
  word-mine word =
      sym (word-same setup s u index word) ∙ sym (named-same s index id sub named there word) ∙ ap (λ (n : ℕ). names n id word) u.sets

  about-mine : (e : Event) → is_about (set_count setup) setup.subchannels index e ≡ mine (set_count setup) id e
  about-mine (event.Execute cpu i) = word-mine (subchannel_word i)
  about-mine (event.Choose word) = word-mine word
  about-mine (event.Up word path) = word-mine word
  about-mine (event.Down word path) = word-mine word
  about-mine e = refl

  through-halted : (st : Standing) (h : List Entry) → (standing_through (set_count setup) setup.subchannels index st h).halted ≡ halted_by (set_count setup) id st.halted h
  through-halted st [] = refl
  through-halted st (x ∷ h) =
      through-halted (standing_after (is_about (set_count setup) setup.subchannels index x.event) x.event x.reply st) h
      ∙ ap (λ (b : Bool). halted_by (set_count setup) id (halted_after b x.event x.reply st.halted) h) (about-mine x.event)

-- after a run
pub record IsRunTold (setup : Setup) (index : ℕ) (h : List Entry) (s : State) (run : Run (opening_of setup) h s) (k : Option ProgramTrace) : Type 0 where
  pub orb : Option Orb
  pub started : StartedAt orb s index
  pub owned : OwnedAt (standing_through (set_count setup) setup.subchannels index nothing_over h).over s.subs index
  pub statuses : AreStatusesTold index (standing_through (set_count setup) setup.subchannels index nothing_over h) s k
  pub all : AreTold (set_count setup) setup.subchannels index (opening_storage setup) nothing_over nothing_traced h (storages (opening_of setup) h s run) (told orb k)

-- what is known of each step and each run
pub record AreKnown : Type 0 where
  pub laws : AreLaws
  pub runs : holders.AreKnown

module _ (known : AreKnown) (setup : Setup) (lawful : IsLawful setup) where
  set-up : (h : List Entry) (s : State) → Run (opening_of setup) h s → IsSetUp setup s
  set-up h s run = (run-right known.runs setup h s lawful run).set_up

  -- where a word names the subchannel, a halt is specified where the entries before tell it
  halts-told : (index : ℕ) (h : List Entry) (s : State) (run : Run (opening_of setup) h s) (sub : Subchannel) → slice_get s.subs index ≡ Some sub → (word : ℕ) → is_path (index_of s word) index ≡ true →
      sub.state.scsw.functions.halt ≡ (standing_through (set_count setup) setup.subchannels index nothing_over h).halted
  halts-told index h s run sub there word e = by (subchannel_named s.sets word) (path-is (index_of s word) index e)
    where
      by : (x : Option SubchannelId) → index_of_id s.subs x ≡ Some index → sub.state.scsw.functions.halt ≡ (standing_through (set_count setup) setup.subchannels index nothing_over h).halted
      by None named = absurd (cc named)
      by (Some id) named =
          run-halted known.laws setup id h s run index sub named there ∙ sym (through-halted setup s (set-up h s run) id index sub named there nothing_over h)

  run-told : (index : ℕ) (x : SubchannelSetup) → slice_get setup.subchannels index ≡ Some x → (h : List Entry) (s : State) (run : Run (opening_of setup) h s) (k : Option ProgramTrace) →
      IsTold index (opening_of setup) h s run k → IsRunTold setup index h s run k
  run-told index x there _ _ Opened k t =
      record {
        orb = None;
        started = opened-started setup index;
        owned = opened-owned setup index;
        statuses = nothing-stored setup index k;
        all = ap (told None) t;
      }
  run-told index z there _ _ (Stepped h old e r new run step) k t =
      let before : IsRunTold setup index h old run t.0 = run-told index z there h old run t.0 t.1 in
      let left : IsSetUp setup new = set-up _ new (Stepped h old e r new run step) in
      let was = there-is setup old index z (set-up h old run) there in
      let is = there-is setup new index z left there in
      let setups : SameSetups old.subs new.subs = left.subs ∙ sym (set-up h old run).subs in
      let x : Entry = record { event = e; reply = r } in
      let sets : ℕ = set_count setup in
      let subs : List SubchannelSetup = setup.subchannels in
      let st : Standing = standing_through sets subs index nothing_over h in
      let walk : Walked old e r new = known.laws.walks old e r new step in
      let same : about old index e ≡ is_about sets subs index e = about-same setup old (set-up h old run) index e in
      let now = step-tells st old index was.0 is.0 new (before.owned was.0 was.1) (halts-told index h old run was.0 was.1) was.1 is.1 setups e r before.orb t.0 k step walk t.2 before.started in
      let offer = accept-offer old index was.0 new was.1 e r walk in
      record {
        orb = now.0;
        started = now.1;
        owned = subst (λ (b : Standing). OwnedAt b.over new.subs index) (sym (through-more (standing_of sets subs index) nothing_over h e r))
            (subst (λ (b : Bool). OwnedAt (over_after b e r st.over) new.subs index) same (step-owned st.over old e r new index step walk before.owned));
        statuses = subst (λ (b : Standing). AreStatusesTold index b new k) (sym (through-more (standing_of sets subs index) nothing_over h e r))
            (subst (λ (b : Bool). AreStatusesTold index (standing_after b e r st) new k) same
            (step-told known.laws setup h old run e r new step index was.0 was.1 st t.0 k before.statuses (before.owned was.0 was.1) offer t.2));
        all = told-more sets subs index (opening_storage setup) nothing_over nothing_traced h (storages (opening_of setup) h old run) old.storage new.storage x (told before.orb t.0) (told now.0 k)
            (run-stored (opening_of setup) h old run) before.all
            (subst (λ (b : Bool). TellsBy b st old.storage new.storage e r (told before.orb t.0) (told now.0 k)) same now.2) t.3
            (subst (λ (b : Bool). StatusTold st b x (told before.orb t.0)) same
            (entry-told known.laws setup h old run e r new step index was.0 was.1 st t.0 k before.statuses));
      }

  pub run-programs : ((h : List Entry) (s : State) (run : Run (opening_of setup) h s) → AllTold (opening_of setup) h s run) → (h : List Entry) (s : State) → Run (opening_of setup) h s →
      AreProgramsTold setup h
  run-programs all h s run = record {
    later = storages (opening_of setup) h s run;
    last = s.storage;
    stored = run-stored (opening_of setup) h s run;
    told = λ index x there.
        let sub = there-is setup s index x (set-up h s run) there in
        let k = all h s run index sub.0 sub.1 in
        let t = run-told index x there h s run k.0 k.1 in
        (told t.orb k.0, t.all);
  }
