-- After each run what STORE SUBCHANNEL showed by the last entry is so, and the status that the last entry made shows what is told.
use Rattle.std.proofs.Common.{◌≡◌, refl, sym, ◌∙◌, ap, subst, ℕ, ◌<◌, ◌==◌, Bool, true, false, Option, None, Some, List}
use Rattle.std.specs.Prelude.{if◌then◌else◌, is_some, option_map, slice_get, IfSome}
use Rattle.std.proofs.lemmas.Bool.{eq-eqb, eqb-true}
use Rattle.std.proofs.lemmas.Option.{same_Some}
use Rattle.scsw_irb.specs.declared.status.DeviceStatus.{DeviceStatus}
use Rattle.chan_model.specs.declared.hold_state.HoldPhase.TheVariants as hold
use Rattle.chan_model.specs.Signals.{Down}
use Rattle.chan_model.specs.declared.signal.OnPath.{OnPath}
use Rattle.chan_model.specs.declared.signal.Up.TheVariants as up
use Rattle.chan_model.specs.ResetCauses.{is_held, is_path}
use Rattle.chan_events.specs.Events.{Event}
use Rattle.chan_events.specs.declared.event.Event.TheVariants as event
use Rattle.chan_events.specs.declared.event.Instruction.{Instruction}
use Rattle.chan_events.specs.declared.event.Instruction.TheVariants as instruction
use Rattle.chan_events.specs.declared.reply.Entry.{Entry}
use Rattle.chan_events.specs.Replies.{Reply}
use Rattle.chan_events.specs.declared.reply.Reply.TheVariants as reply
use Rattle.channel_config.specs.declared.names.SubchannelId.{SubchannelId}
use Rattle.channel_config.specs.Setup.{Setup}
use Rattle.channel_config.specs.SubchannelWords.{subchannel_named}
use Rattle.run_laws.specs.StateClaims.{is_id}
use Rattle.chan_events.specs.Instructions.{subchannel_word}
use Rattle.machine_model.specs.State.{State, opening_of, index_of}
use Rattle.machine_model.specs.Steps.{Run, Step}
use Rattle.step_laws.proofs.Indices.{both-true, map-get}
use Rattle.subchannel_model.specs.declared.state.Subchannel.{Subchannel}
use Rattle.subchannel_model.specs.declared.state.SubchannelState.{SubchannelState}
use Rattle.subchannel_model.specs.Opening.{opened}
use Rattle.subchannel_model.specs.Indices.{index_in, index_of_id}
use Rattle.run_laws.specs.Tells.{GoesBy}
use Rattle.run_laws.specs.Traces.{ProgramTrace}
use Rattle.run_laws.specs.Behind.{behind_met, behind_after}
use Rattle.run_laws.specs.Shown.{is_about as is_about_id, StoredStatus, names, stored_in}
use Rattle.run_laws.proofs.Shown.Behind.{IsBehind, IsEnd, turned-behind, turned-begun}
use Rattle.run_laws.proofs.Machine.Names.{named-is, same-id}
use Rattle.run_laws.proofs.Shown.Runs.{AreLaws, IsStored, status_of, index-stays, step-stored}
use Rattle.run_laws.proofs.Shown.Showing.{IsWhole, whole, both-same, whole-tells}
use Rattle.run_laws.proofs.Shown.Turned.{Turned, step-turns}
use Rattle.run_laws.specs.ProgramTold.{Standing, over_after, standing_after, nothing_over}
use Rattle.run_laws.specs.StatusTold.{AfterStore, shown_by, ShowsAfter, IsStatusTold}
use Rattle.run_laws.proofs.Offers.OverRuns.{about}
use Rattle.run_laws.proofs.Offers.Overs.{Owned}
use Rattle.run_laws.proofs.Statuses.Statuses.{IsNoInstruction, step-shown}
use Rattle.run_laws.proofs.Traces.Telling.{IsJust}

-- what was shown is so of the subchannel of an index
abbrev IsSo : ℕ → State → StoredStatus → Type 0
IsSo index s shown = (id : SubchannelId) × (index_in id s.subs ≡ Some index) × ((sub : Subchannel) → slice_get s.subs index ≡ Some sub → shown ≡ status_of sub.state)

-- STORE SUBCHANNEL shows it, and leaves all subchannels
abbrev IsLeft : ℕ → State → State → StoredStatus → Type 0
IsLeft index s new shown = IsSo index s shown × (new.subs ≡ s.subs)

same-is : (id : SubchannelId) → is_id (Some id) id ≡ true
same-is id = both-true (id.set == id.set) (id.number == id.number) (eq-eqb id.set id.set refl) (eq-eqb id.number id.number refl)

pub path-is : (o : Option ℕ) (p : ℕ) → is_path o p ≡ true → o ≡ Some p
path-is None p e = absurd (cc e)
path-is (Some q) p e = ap (λ (x : ℕ). Some x) (eqb-true q p e)

module _ (s new : State) (index : ℕ) (shown : StoredStatus) where
  so-of : (id : SubchannelId) → index_in id s.subs ≡ Some index → IsStored id s new shown → IsLeft index s new shown
  so-of id named k =
      let same : k.index ≡ index = same_Some k.index index (sym k.named ∙ named) in (
        (
          id,
          named,
          λ sub there.
              k.shows ∙ ap (λ (x : Subchannel). status_of x.state) (same_Some k.sub sub (sym k.there ∙ ap (λ (n : ℕ). slice_get s.subs n) same ∙ there)),
        ),
        k.subs,
      )

  store-named : (cpu word address : ℕ) (r : Reply) (o : Option SubchannelId) → subchannel_named s.sets word ≡ o → index_of_id s.subs o ≡ Some index →
      Step s (event.Execute cpu (instruction.Stsch word address)) r new → stored_in r ≡ Some shown → IsLeft index s new shown
  store-named cpu word address r None n named step e = absurd (cc named)
  store-named cpu word address r (Some id) n named step e =
      let mine : names s.sets id word ≡ true = ap (λ (x : Option SubchannelId). is_id x id) n ∙ same-is id in
      so-of id named
      (step-stored id s new shown (event.Execute cpu (instruction.Stsch word address)) r step (ap (λ (b : Bool). if b then stored_in r else None) mine ∙ e))

  store-so : (cpu word address : ℕ) (r : Reply) (b : Bool) → is_path (index_of s word) index ≡ b → Step s (event.Execute cpu (instruction.Stsch word address)) r new →
      shown_by b (event.Execute cpu (instruction.Stsch word address)) r ≡ Some shown → IsLeft index s new shown
  store-so cpu word address r true mine step e =
      store-named cpu word address r (subchannel_named s.sets word) refl (path-is (index_of s word) index mine) step e
  store-so cpu word address r false mine step e = absurd (cc e)

  instruction-so : (cpu : ℕ) (i : Instruction) (r : Reply) (b : Bool) → is_path (index_of s (subchannel_word i)) index ≡ b → Step s (event.Execute cpu i) r new →
      shown_by b (event.Execute cpu i) r ≡ Some shown → IsLeft index s new shown
  instruction-so cpu i r false mine step e = absurd (cc e)
  instruction-so cpu (instruction.Stsch word address) r true mine step e = store-so cpu word address r true mine step e
  instruction-so cpu i r true mine step e = absurd (cc e)

  event-so : (e : Event) (r : Reply) → Step s e r new → shown_by (about s index e) e r ≡ Some shown → IsLeft index s new shown
  event-so (event.Put address bytes) r step e = absurd (cc e)
  event-so (event.SetKey address key) r step e = absurd (cc e)
  event-so (event.SetPrefix cpu address) r step e = absurd (cc e)
  event-so (event.Show address count) r step e = absurd (cc e)
  event-so (event.Execute cpu i) r step e = instruction-so cpu i r (about s index (event.Execute cpu i)) refl step e
  event-so (event.ExecuteOther cpu i) r step e = absurd (cc e)
  event-so (event.Choose word) r step e = absurd (cc (sym (nothing (about s index (event.Choose word))) ∙ e))
    where
      nothing : (b : Bool) → shown_by b (event.Choose word) r ≡ None
      nothing true = refl
      nothing false = refl
  event-so (event.Up word path) r step e = absurd (cc (sym (nothing (about s index (event.Up word path))) ∙ e))
    where
      nothing : (b : Bool) → shown_by b (event.Up word path) r ≡ None
      nothing true = refl
      nothing false = refl
  event-so (event.Down word path) r step e = absurd (cc (sym (nothing (about s index (event.Down word path))) ∙ e))
    where
      nothing : (b : Bool) → shown_by b (event.Down word path) r ≡ None
      nothing true = refl
      nothing false = refl
  event-so (event.Report at report) r step e = absurd (cc e)
  event-so (event.Act at what) r step e = absurd (cc e)
  event-so (event.Restart at) r step e = absurd (cc e)
  event-so (event.PathDown chpid) r step e = absurd (cc e)
  event-so (event.PathUp chpid) r step e = absurd (cc e)
  event-so (event.PathReset chpid) r step e = absurd (cc e)
  event-so event.SystemReset r step e = absurd (cc e)

-- an event whose word names the subchannel of an index names it by its name
module _ (s : State) (index : ℕ) (id : SubchannelId) (sub : Subchannel) (named : index_in id s.subs ≡ Some index) (there : slice_get s.subs index ≡ Some sub) where
  id-path : (x : Option SubchannelId) → is_id x id ≡ true → is_path (index_of_id s.subs x) index ≡ true
  id-path None e = absurd (cc e)
  id-path (Some n) e =
      ap (λ (o : Option ℕ). is_path o index) (ap (λ (y : SubchannelId). index_in y s.subs) (same-id n id e) ∙ named) ∙ eq-eqb index index refl

  pub named-same : (word : ℕ) → names s.sets id word ≡ is_path (index_of s word) index
  named-same word =
      let x : Option SubchannelId = subchannel_named s.sets word in
      both-same (is_id x id) (is_path (index_of_id s.subs x) index) (id-path x)
      (λ e. named-is s.subs id x index sub (path-is (index_of_id s.subs x) index e) named there)

  pub behind-same : (e : Event) (r : Reply) (behind : Bool) → behind_after (is_about_id s.sets id e) e r behind ≡ behind_after (about s index e) e r behind
  behind-same (event.Put address bytes) r behind = refl
  behind-same (event.SetKey address key) r behind = refl
  behind-same (event.SetPrefix cpu address) r behind = refl
  behind-same (event.Show address count) r behind = refl
  behind-same (event.Execute cpu i) r behind = ap (λ (b : Bool). behind_after b (event.Execute cpu i) r behind) (named-same (subchannel_word i))
  behind-same (event.ExecuteOther cpu i) r behind = refl
  behind-same (event.Choose word) r behind = ap (λ (b : Bool). behind_after b (event.Choose word) r behind) (named-same word)
  behind-same (event.Up word path) r behind = ap (λ (b : Bool). behind_after b (event.Up word path) r behind) (named-same word)
  behind-same (event.Down word path) r behind = sym (nothing (is_path (index_of s word) index))
    where
      nothing : (b : Bool) → behind_after b (event.Down word path) r behind ≡ behind
      nothing true = refl
      nothing false = refl
  behind-same (event.Report at report) r behind = refl
  behind-same (event.Act at what) r behind = refl
  behind-same (event.Restart at) r behind = refl
  behind-same (event.PathDown chpid) r behind = refl
  behind-same (event.PathUp chpid) r behind = refl
  behind-same (event.PathReset chpid) r behind = refl
  behind-same event.SystemReset r behind = refl

-- as a status is made it is told already whether a start waits: an Accept that is taken finds no program at work
met-behind : (behind : Bool) (s : SubchannelState) (r : Reply) → ((t : ℕ) (sent : Option (OnPath Down)) → r ≡ reply.Up (up.Accept t) true sent → is_some s.begun ≡ true → ⊥) → IsBehind behind s →
    IsBehind (behind_met r behind) s
met-behind behind s (reply.Up (up.Accept t) true sent) f j = λ e. absurd (f t sent refl e)
met-behind behind s r f j = j

-- after a run
abbrev IsSoAfter : ℕ → Bool → Bool → State → Option ProgramTrace → AfterStore → Type 0
IsSoAfter index over behind s k entry = (sub : Subchannel) → slice_get s.subs index ≡ Some sub → entry.old.serials.made < sub.state.serials.made →
    ShowsAfter over behind entry.event entry.reply entry.old.scsw sub.state.scsw k

pub record AreStatusesTold (index : ℕ) (st : Standing) (s : State) (k : Option ProgramTrace) : Type 0 where
  shown : IfSome st.stored.shown (λ x. IsSo index s x)
  passed : IfSome st.stored.passed (λ x. IsSoAfter index st.over st.behind s k x)
  behind : (id : SubchannelId) → index_in id s.subs ≡ Some index → (sub : Subchannel) → slice_get s.subs index ≡ Some sub → IsBehind st.behind sub.state

pub nothing-stored : (setup : Setup) (index : ℕ) (k : Option ProgramTrace) → AreStatusesTold index nothing_over (opening_of setup) k
nothing-stored setup index k = record {
  shown = tt;
  passed = tt;
  behind = λ id named sub there.
      let p = map-get opened setup.subchannels index sub there in subst (λ (y : Subchannel). IsBehind false y.state) p.2 (λ e. absurd (cc e));
}

some-by : {A : Type 0} (P : A → Type 0) (o : Option A) → ((x : A) → o ≡ Some x → P x) → IfSome o P
some-by P None f = tt
some-by P (Some x) f = f x refl

map-by : {A B : Type 0} (P : B → Type 0) (f : A → B) (o : Option A) → ((x : A) → o ≡ Some x → P (f x)) → IfSome (option_map f o) P
map-by P f None g = tt
map-by P f (Some x) g = g x refl

some-of : {A : Type 0} (P : A → Type 0) (o : Option A) (x : A) → o ≡ Some x → IfSome o P → P x
some-of P None x e h = absurd (cc e)
some-of P (Some y) x e h = subst P (same_Some y x e) h

up-over : (mine : Bool) (word path : ℕ) (r : Reply) (over : Bool) → over_after mine (event.Up word path) r over ≡ over
up-over true word path r over = refl
up-over false word path r over = refl

-- a step
module _ (laws : AreLaws) (setup : Setup) (h : List Entry) (old : State) (run : Run (opening_of setup) h old) (e : Event) (r : Reply) (new : State) (step : Step old e r new) (index : ℕ)
    (was : Subchannel) (there : slice_get old.subs index ≡ Some was) (st : Standing) (k after : Option ProgramTrace) (before : AreStatusesTold index st old k) where
  abbrev mine : Bool
  mine = about old index e

  pub entry-told : IsStatusTold st.over st.behind st.stored.passed (shown_by (about old index e) e r) k
  entry-told = by st.stored.passed (shown_by (about old index e) e r) before.passed (λ x same. event-so old new index x e r step same)
    where
      by : (o : Option AfterStore) (q : Option StoredStatus) → IfSome o (λ x. IsSoAfter index st.over st.behind old k x) → ((x : StoredStatus) → q ≡ Some x → IsLeft index old new x) →
          IsStatusTold st.over st.behind o q k
      by None q f g = tt
      by (Some b) None f g = tt
      by (Some b) (Some x) f g =
          let is : x ≡ status_of was.state = (g x refl).0.2 was there in
          subst (λ (y : StoredStatus). b.old.serials.made < y.serials.made → ShowsAfter st.over st.behind b.event b.reply b.old.scsw y.scsw k) (sym is) (f was there)

  -- an Accept that is taken answers an offer
  abbrev pub IsOffered : Type 0
  IsOffered = (word path t : ℕ) (sent : Option (OnPath Down)) → e ≡ event.Up word path → is_path (index_of old word) index ≡ true → r ≡ reply.Up (up.Accept t) true sent →
      (u : ℕ) × (q : ℕ) × (was.state.hold.phase ≡ hold.Offer u q)

  -- what is so of the subchannel by its name
  module _ (id : SubchannelId) (named : index_in id old.subs ≡ Some index) (sub : Subchannel) (here : slice_get new.subs index ≡ Some sub) where
    turns : Turned old.sets id e r was sub.state
    turns = step-turns old id index was named there e r new step sub here

    wholly : IsWhole was.state
    wholly = whole laws setup id h old run index was named there

    behind-after : IsBehind (behind_after (about old index e) e r st.behind) sub.state
    behind-after =
        subst (λ (b : Bool). IsBehind b sub.state) (behind-same old index id was named there e r st.behind)
        (turned-behind old.sets id e r was sub.state st.behind wholly turns (before.behind id named was there))

    -- an End that is taken is of a program at work
    end-taken : (word path t n : ℕ) (status : DeviceStatus) (more : Bool) (sent : Option (OnPath Down)) → e ≡ event.Up word path → is_path (index_of old word) index ≡ true →
        r ≡ reply.Up (up.End t n status more) true sent → is_some was.state.begun ≡ true
    end-taken word path t n status more sent i m q =
        turned-begun old.sets id e r was sub.state turns
        (ap (λ (x : Event). is_about_id old.sets id x) i ∙ named-same old index id was named there word ∙ m)
        (subst (λ (x : Event). IsEnd x r) (sym i) (subst (λ (y : Reply). IsEnd (event.Up word path) y) (sym q) tt))

    accept-none : IsOffered → (word path t : ℕ) (sent : Option (OnPath Down)) → e ≡ event.Up word path → is_path (index_of old word) index ≡ true → r ≡ reply.Up (up.Accept t) true sent →
        is_some was.state.begun ≡ true → ⊥
    accept-none offer word path t sent i m q begun = let o = offer word path t sent i m q in cc (sym (wholly.held begun) ∙ ap is_held o.2)

    either-behind : (x : Event) (b : Bool) → ((q : Reply) (behind : Bool) → behind_after true x q behind ≡ behind) → IsBehind (behind_after b x r st.behind) was.state
    either-behind x true same = subst (λ (y : Bool). IsBehind y was.state) (sym (same r st.behind)) (before.behind id named was there)
    either-behind x false same = before.behind id named was there

    up-behind : (b : Bool) (word path : ℕ) → is_path (index_of old word) index ≡ b → e ≡ event.Up word path → IsOffered → IsBehind (behind_after b (event.Up word path) r st.behind) was.state
    up-behind true word path m i offer = met-behind st.behind was.state r (λ t sent q. accept-none offer word path t sent i m q) (before.behind id named was there)
    up-behind false word path m i offer = before.behind id named was there

    now-behind : (x : Event) → e ≡ x → IsOffered → IsNoInstruction x → IsBehind (behind_after (about old index x) x r st.behind) was.state
    now-behind (event.Execute cpu i) same offer no-one = absurd no-one
    now-behind (event.Choose word) same offer no-one = either-behind (event.Choose word) (is_path (index_of old word) index) (λ q b. refl)
    now-behind (event.Up word path) same offer no-one = up-behind (is_path (index_of old word) index) word path refl same offer
    now-behind (event.Down word path) same offer no-one = either-behind (event.Down word path) (is_path (index_of old word) index) (λ q b. refl)
    now-behind e same offer no-one = before.behind id named was there

    status-told : Owned st.over was.state → IsOffered → GoesBy index old e r new k after → was.state.serials.made < sub.state.serials.made →
        ShowsAfter (over_after (about old index e) e r st.over) (behind_after (about old index e) e r st.behind) e r was.state.scsw sub.state.scsw after
    status-told owned offer goes made =
        step-shown (over_after (about old index e) e r st.over) (behind_after (about old index e) e r st.behind) old new index was sub there here (whole-tells was.state wholly) made e r k after
        (now-behind e refl offer)
        (λ word path i m. (λ t sent q. justly word path t sent i m q, λ t n status more sent q. end-taken word path t n status more sent i m q)) goes
      where
        justly : (word path t : ℕ) (sent : Option (OnPath Down)) → e ≡ event.Up word path → is_path (index_of old word) index ≡ true → r ≡ reply.Up (up.Accept t) true sent →
            IsJust (over_after (about old index e) e r st.over) was.state
        justly word path t sent i m q =
            let o = offer word path t sent i m q in
            subst (λ (b : Bool). IsJust b was.state) (sym (ap (λ (x : Event). over_after (about old index e) x r st.over) i ∙ up-over (about old index e) word path r st.over)) (owned.1 o.0 o.1 o.2)

  pub step-told : Owned st.over was.state → IsOffered → GoesBy index old e r new k after → AreStatusesTold index (standing_after (about old index e) e r st) new after
  step-told owned offer goes = record {
    shown = some-by (λ x. IsSo index new x) (shown_by mine e r)
        (λ x same.
        let left : IsLeft index old new x = event-so old new index x e r step same in (
          left.0.0,
          ap (λ subs. index_in left.0.0 subs) left.1 ∙ left.0.1,
          λ sub here. left.0.2 sub (ap (λ subs. slice_get subs index) (sym left.1) ∙ here),
        ));
    passed = map-by (λ x. IsSoAfter index (over_after mine e r st.over) (behind_after mine e r st.behind) new after x) (λ x. record { old = x; event = e; reply = r }) st.stored.shown
        (λ x same sub here made.
        let so : IsSo index old x = some-of (λ y. IsSo index old y) st.stored.shown x same before.shown in
        let is : x ≡ status_of was.state = so.2 was there in
        subst (λ (y : StoredStatus). ShowsAfter (over_after mine e r st.over) (behind_after mine e r st.behind) e r y.scsw sub.state.scsw after) (sym is)
        (status-told so.0 so.1 sub here owned offer goes (subst (λ (y : StoredStatus). y.serials.made < sub.state.serials.made) is made)));
    behind = λ id named sub here. behind-after id (sym (index-stays id old.subs new.subs (laws.setups old e r new step)) ∙ named) sub here;
  }
