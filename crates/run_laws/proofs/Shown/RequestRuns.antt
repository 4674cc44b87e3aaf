-- Requests along a run.
use Rattle.std.proofs.Common.{◌≡◌, refl, sym, ◌∙◌, ap, subst, ℕ, ◌+◌, ◌<◌, ◌≤◌, ◌/◌, ◌%◌, ◌==◌, ◌&&◌, ◌||◌, nat_lt, Bool, true, false, Option, None, Some, List, [], ◌∷◌, ◌++◌, inl, inr, arith}
use Rattle.std.specs.Prelude.{◌⊎◌, slice_get, if◌then◌else◌}
use Rattle.std.proofs.lemmas.Bool.{ltb-true, ltb-false}
use Rattle.std.proofs.lemmas.List.Folds.{list_any-append}
use Rattle.std.proofs.lemmas.Option.{same_Some}
use Rattle.zbits.specs.Bits.{field_of}
use Rattle.scsw_irb.specs.declared.code.IntCode.{IntCode}
use Rattle.chan_events.specs.Events.{Event}
use Rattle.chan_events.specs.declared.event.Event.TheVariants as event
use Rattle.chan_events.specs.declared.event.Instruction.TheVariants as instruction
use Rattle.chan_events.specs.declared.reply.Entry.{Entry}
use Rattle.chan_events.specs.Replies.{Reply}
use Rattle.chan_events.specs.declared.reply.Reply.TheVariants as reply
use Rattle.channel_config.specs.declared.names.SubchannelId.{SubchannelId}
use Rattle.channel_config.specs.Setup.{Setup, set_count}
use Rattle.run_laws.specs.CodeSteps.{IsByTable}
use Rattle.interruptions.specs.Requests.{answer}
use Rattle.run_laws.specs.StateClaims.{is_id}
use Rattle.machine_model.specs.State.{State, opening_of}
use Rattle.machine_model.specs.Steps.{Run, Stepped, Step}
use Rattle.subchannel_model.specs.declared.state.Subchannel.{Subchannel}
use Rattle.subchannel_model.specs.Indices.{is_named, index_in}
use Rattle.run_laws.specs.Interruptions.{takes_away, are_taken, IsStanding, IsNotStanding, IsTested, IsAskedFor, IsAlone, IsGivenOnce}
use Rattle.run_laws.specs.Serials.{IsDue, IsMade}
use Rattle.run_laws.specs.Shown.{StoredStatus, names, stored_in, stored_by, is_about}
use Rattle.run_laws.proofs.Shown.Absent.{setups-stay}
use Rattle.run_laws.proofs.Shown.Given.{step-keeps, step-why}
use Rattle.run_laws.proofs.Shown.Made.{turned-made}
use Rattle.run_laws.proofs.Machine.Names.{same-id}
use Rattle.run_laws.proofs.Shown.Runs.{AreLaws, Leads, Here, Then, uncons, leads-split, onward, IsPassed, passed, passed-next, placed, index-stays, sets-stay, status_of, IsStored, step-stored}
use Rattle.run_laws.proofs.Shown.StandingRuns.{run-stands}
use Rattle.run_laws.proofs.Shown.Turned.{Turned, step-turns}
use Rattle.run_laws.proofs.Shown.Waiting.{is_for, asks, asked-answer, answer-asked}

-- what answers an instruction
abbrev pub AreTables : Type 0
AreTables = (s : State) (e : Event) (r : Reply) (new : State) → Step s e r new → IsByTable s e r new

-- what shows status takes nothing away, and names a subchannel of one of four sets
mod-small : (x : ℕ) → ((x % 4) % 4) ≡ (x % 4)
mod-small x = omega arith

named-small : (word : ℕ) (id : SubchannelId) (b : Bool) →
    is_id (if b then Some (record { set = field_of word 13 14; number = field_of word 16 31 }) else None) id ≡ true → (id.set % 4) ≡ id.set
named-small word id false e = absurd (cc e)
named-small word id true e =
    let same : record { set = field_of word 13 14; number = field_of word 16 31 } ≡ id = same-id (record { set = field_of word 13 14; number = field_of word 16 31 }) id e in
    let set : field_of word 13 14 ≡ id.set = ap (λ (x : SubchannelId). x.set) same in
    ap (λ (n : ℕ). n % 4) (sym set) ∙ (mod-small (word / 131072) ∙ set)

abbrev IsQuietFor : ℕ → SubchannelId → Event → Reply → Type 0
IsQuietFor sets id e r = (takes_away sets id e r ≡ false) × ((id.set % 4) ≡ id.set)

stored-quiet : (sets : ℕ) (id : SubchannelId) (e : Event) (r : Reply) (x : StoredStatus) → stored_by sets id e r ≡ Some x → IsQuietFor sets id e r
stored-quiet sets id (event.Execute cpu (instruction.Stsch word address)) r x e =
    (refl, named-small word id (((field_of word 0 12) == 0) && (((field_of word 15 15) == 1) && nat_lt (field_of word 13 14) sets)) (by (names sets id word) refl e))
  where
    by : (b : Bool) → names sets id word ≡ b → (if b then stored_in r else None) ≡ Some x → names sets id word ≡ true
    by true n h = n
    by false n h = absurd (cc h)
stored-quiet sets id (event.Execute cpu (instruction.Ssch word address)) r x e = absurd (cc e)
stored-quiet sets id (event.Execute cpu (instruction.Tsch word address)) r x e = absurd (cc e)
stored-quiet sets id (event.Execute cpu (instruction.Msch word address)) r x e = absurd (cc e)
stored-quiet sets id (event.Execute cpu (instruction.Enable word subclass multipath)) r x e = absurd (cc e)
stored-quiet sets id (event.Execute cpu (instruction.Rsch word)) r x e = absurd (cc e)
stored-quiet sets id (event.Execute cpu (instruction.Hsch word)) r x e = absurd (cc e)
stored-quiet sets id (event.Execute cpu (instruction.Csch word)) r x e = absurd (cc e)
stored-quiet sets id (event.Execute cpu (instruction.Xsch word)) r x e = absurd (cc e)
stored-quiet sets id (event.Put address bytes) r x e = absurd (cc e)
stored-quiet sets id (event.SetKey address key) r x e = absurd (cc e)
stored-quiet sets id (event.SetPrefix cpu address) r x e = absurd (cc e)
stored-quiet sets id (event.Show address count) r x e = absurd (cc e)
stored-quiet sets id (event.ExecuteOther cpu i) r x e = absurd (cc e)
stored-quiet sets id (event.Choose word) r x e = absurd (cc e)
stored-quiet sets id (event.Up word path) r x e = absurd (cc e)
stored-quiet sets id (event.Down word path) r x e = absurd (cc e)
stored-quiet sets id (event.Report at report) r x e = absurd (cc e)
stored-quiet sets id (event.Act at what) r x e = absurd (cc e)
stored-quiet sets id (event.Restart at) r x e = absurd (cc e)
stored-quiet sets id (event.PathDown chpid) r x e = absurd (cc e)
stored-quiet sets id (event.PathUp chpid) r x e = absurd (cc e)
stored-quiet sets id (event.PathReset chpid) r x e = absurd (cc e)
stored-quiet sets id event.SystemReset r x e = absurd (cc e)

-- how many statuses are made
made-rises : (sets : ℕ) (id : SubchannelId) (old : StoredStatus) (e : Event) (r : Reply) (new : StoredStatus) → IsMade sets id None old e r new → old.serials.made ≤ new.serials.made
made-rises sets id old e r new k = by k.enabled k.made
  where
    by : (b : Bool) → new.serials.made ≡ (if b then old.serials.made + k.n else old.serials.made) → old.serials.made ≤ new.serials.made
    by true h = omega (arith, h)
    by false h = omega (arith, h)

none-due : (sets : ℕ) (id : SubchannelId) (old : StoredStatus) (e : Event) (r : Reply) (new : StoredStatus) (n : ℕ) → takes_away sets id e r ≡ true → IsDue old e r new n → n ≡ 0
none-due sets id old (event.Choose word) r new n t d = absurd (cc t)
none-due sets id old (event.Up word path) r new n t d = absurd (cc t)
none-due sets id old (event.PathDown chpid) r new n t d = absurd (cc t)
none-due sets id old (event.PathReset chpid) r new n t d = absurd (cc t)
none-due sets id old e r new n t d = d

made-same : (sets : ℕ) (id : SubchannelId) (old : StoredStatus) (e : Event) (r : Reply) (new : StoredStatus) → takes_away sets id e r ≡ true → IsMade sets id None old e r new →
    new.serials.made ≤ old.serials.made
made-same sets id old e r new t k = by k.enabled k.made (about (is_about sets id e) refl)
  where
    about : (b : Bool) → is_about sets id e ≡ b → k.n ≡ 0
    about true f = none-due sets id old e r new k.n t (k.due f)
    about false f = k.other f

    by : (b : Bool) → new.serials.made ≡ (if b then old.serials.made + k.n else old.serials.made) → k.n ≡ 0 → new.serials.made ≤ old.serials.made
    by true h z = omega (arith, h, z)
    by false h z = omega (arith, h)

module _ (laws : AreLaws) (tables : AreTables) (setup : Setup) (id : SubchannelId) where
  -- one step, of the subchannel at its place
  record Move (index : ℕ) (s : State) (e : Event) (r : Reply) (new : State) (after : Subchannel) : Type 0 where
    sub : Subchannel
    there : slice_get s.subs index ≡ Some sub
    mine : index_in id new.subs ≡ Some index
    makes : IsMade (set_count setup) id None (status_of sub.state) e r (status_of after.state)

  moves : (h : List Entry) (s : State) (e : Event) (r : Reply) (new : State) (index : ℕ) (after : Subchannel) → Run (opening_of setup) h s → Step s e r new →
      index_in id s.subs ≡ Some index → slice_get new.subs index ≡ Some after → Move index s e r new after
  moves h s e r new index after run step mine is =
      let was : (x : Subchannel) × (slice_get s.subs index ≡ Some x) = placed (is_named id) s.subs index mine in
      let turned : Turned s.sets id e r was.0 after.state = step-turns s id index was.0 mine was.1 e r new step after is in
      record {
        sub = was.0;
        there = was.1;
        mine = index-stays id s.subs new.subs (laws.setups s e r new step) ∙ mine;
        makes = turned-made (set_count setup) id None e r was.0 after.state tt (run-stands laws setup id h s run index was.0 mine was.1)
            (subst (λ (n : ℕ). Turned n id e r was.0 after.state) (sets-stay laws setup h s run) turned);
      }

  -- a status that was made since is asked for
  record Asks (m index : ℕ) (s : State) : Type 0 where
    mine : index_in id s.subs ≡ Some index
    asked : (sub : Subchannel) → slice_get s.subs index ≡ Some sub → m < sub.state.serials.made → asks id s.requests ≡ true

  asks-step : (m index : ℕ) (h : List Entry) (s : State) (e : Event) (r : Reply) (new : State) → Run (opening_of setup) h s → Step s e r new → (id.set % 4) ≡ id.set →
      takes_away (set_count setup) id e r ≡ false → Asks m index s → Asks m index new
  asks-step m index h s e r new run step small not k = record {
    mine = index-stays id s.subs new.subs (laws.setups s e r new step) ∙ k.mine;
    asked = λ after is less.
        let move : Move index s e r new after = moves h s e r new index after run step k.mine is in
        step-keeps s id e r new index move.sub after step (tables s e r new step) move.there move.mine is small
        (subst (λ (n : ℕ). takes_away n id e r ≡ false) (sym (sets-stay laws setup h s run)) not)
        (either (nat_lt move.sub.state.serials.made after.state.serials.made) move.sub after refl less (λ was. k.asked move.sub move.there was));
  }
    where
      either : (b : Bool) (sub after : Subchannel) → nat_lt sub.state.serials.made after.state.serials.made ≡ b → m < after.state.serials.made →
          (m < sub.state.serials.made → asks id s.requests ≡ true) → (asks id s.requests ≡ true) ⊎ (sub.state.serials.made < after.state.serials.made)
      either true sub after e less f = inr (ltb-true sub.state.serials.made after.state.serials.made e)
      either false sub after e less f = let le : after.state.serials.made ≤ sub.state.serials.made = ltb-false sub.state.serials.made after.state.serials.made e in inl (f (omega (arith, le, less)))

  or-false : (a b : Bool) → (a || b) ≡ false → (a ≡ false) × (b ≡ false)
  or-false true b e = absurd (cc e)
  or-false false b e = (refl, e)

  asks-along : (m index : ℕ) (h later : List Entry) (s t : State) → Run (opening_of setup) h s → Leads s later t → (id.set % 4) ≡ id.set → are_taken (set_count setup) id later ≡ false →
      Asks m index s → Asks m index t
  asks-along m index h _ _ _ run (Here s) small not k = k
  asks-along m index h _ _ _ run (Then s mid new x later step rest) small not k =
      let both = or-false (takes_away (set_count setup) id x.event x.reply) (are_taken (set_count setup) id later) not in
      asks-along m index (h ++ x ∷ []) later mid new (Stepped h s x.event x.reply mid run step) rest small both.1
      (asks-step m index h s x.event x.reply mid run step small both.0 k)

  -- a request that stands is of a status that was made since
  record Since (m index : ℕ) (s : State) : Type 0 where
    mine : index_in id s.subs ≡ Some index
    since : (sub : Subchannel) → slice_get s.subs index ≡ Some sub → (m ≤ sub.state.serials.made) × (asks id s.requests ≡ true → m < sub.state.serials.made)

  since-step : (m index : ℕ) (h : List Entry) (s : State) (e : Event) (r : Reply) (new : State) → Run (opening_of setup) h s → Step s e r new → IsAlone setup id → (id.set % 4) ≡ id.set →
      Since m index s → Since m index new
  since-step m index h s e r new run step one small k = record {
    mine = index-stays id s.subs new.subs (laws.setups s e r new step) ∙ k.mine;
    since = λ after is.
        let move : Move index s e r new after = moves h s e r new index after run step k.mine is in
        let rises : move.sub.state.serials.made ≤ after.state.serials.made =
        made-rises (set_count setup) id (status_of move.sub.state) e r (status_of after.state) move.makes in
        let was = k.since move.sub move.there in (
          omega (arith, was.0, rises),
          λ asked.
              why move.sub after rises was
              (step-why s id setup e r new index move.sub after step (tables s e r new step) (laws.setups s e r new step ∙ setups-stay laws setup h s run) one small k.mine move.there move.mine is asked),
        );
  }
    where
      why : (sub after : Subchannel) → sub.state.serials.made ≤ after.state.serials.made →
          (m ≤ sub.state.serials.made) × (asks id s.requests ≡ true → m < sub.state.serials.made) →
          ((takes_away s.sets id e r ≡ false) × (asks id s.requests ≡ true)) ⊎ (sub.state.serials.made < after.state.serials.made) → m < after.state.serials.made
      why sub after rises was (inl p) = let less : m < sub.state.serials.made = was.1 p.1 in omega (arith, less, rises)
      why sub after rises was (inr rose) = let le : m ≤ sub.state.serials.made = was.0 in omega (arith, le, rose)

  since-along : (m index : ℕ) (h later : List Entry) (s t : State) → Run (opening_of setup) h s → Leads s later t → IsAlone setup id → (id.set % 4) ≡ id.set →
      Since m index s → Since m index t
  since-along m index h _ _ _ run (Here s) one small k = k
  since-along m index h _ _ _ run (Then s mid new x later step rest) one small k =
      since-along m index (h ++ x ∷ []) later mid new (Stepped h s x.event x.reply mid run step) rest one small
      (since-step m index h s x.event x.reply mid run step one small k)

  -- STORE SUBCHANNEL at an entry
  stored-at : (h : List Entry) (s : State) (x : Entry) (new : State) (shown : StoredStatus) → Run (opening_of setup) h s → Step s x.event x.reply new →
      stored_by (set_count setup) id x.event x.reply ≡ Some shown → IsStored id s new shown
  stored-at h s x new shown run step e =
      step-stored id s new shown x.event x.reply step (subst (λ (n : ℕ). stored_by n id x.event x.reply ≡ Some shown) (sym (sets-stay laws setup h s run)) e)

  same-sub : (subs news : List Subchannel) (index : ℕ) (x y : Subchannel) → news ≡ subs → slice_get subs index ≡ Some x → slice_get news index ≡ Some y → y ≡ x
  same-sub subs news index x y e f g = same_Some y x (sym g ∙ ap (λ (xs : List Subchannel). slice_get xs index) e ∙ f)

  leads-none : (s t : State) → Leads s [] t → s ≡ t
  leads-none _ _ (Here s) = refl

  -- a request stands on
  now-step : (index : ℕ) (h : List Entry) (s : State) (e : Event) (r : Reply) (new : State) → Run (opening_of setup) h s → Step s e r new → (id.set % 4) ≡ id.set →
      takes_away (set_count setup) id e r ≡ false → index_in id s.subs ≡ Some index → asks id s.requests ≡ true → asks id new.requests ≡ true
  now-step index h s e r new run step four not mine asked =
      let here : index_in id new.subs ≡ Some index = index-stays id s.subs new.subs (laws.setups s e r new step) ∙ mine in
      let after : (x : Subchannel) × (slice_get new.subs index ≡ Some x) = placed (is_named id) new.subs index here in
      let move : Move index s e r new after.0 = moves h s e r new index after.0 run step mine after.1 in
      step-keeps s id e r new index move.sub after.0 step (tables s e r new step) move.there here after.1 four
      (subst (λ (n : ℕ). takes_away n id e r ≡ false) (sym (sets-stay laws setup h s run)) not) (inl asked)

  now-along : (index : ℕ) (h later : List Entry) (s t : State) → Run (opening_of setup) h s → Leads s later t → (id.set % 4) ≡ id.set → are_taken (set_count setup) id later ≡ false →
      index_in id s.subs ≡ Some index → asks id s.requests ≡ true → asks id t.requests ≡ true
  now-along index h _ _ _ run (Here s) four not mine asked = asked
  now-along index h _ _ _ run (Then s mid new x later step rest) four not mine asked =
      let both = or-false (takes_away (set_count setup) id x.event x.reply) (are_taken (set_count setup) id later) not in
      now-along index (h ++ x ∷ []) later mid new (Stepped h s x.event x.reply mid run step) rest four both.1
      (index-stays id s.subs mid.subs (laws.setups s x.event x.reply mid step) ∙ mine)
      (now-step index h s x.event x.reply mid run step four both.0 mine asked)

  pub standing-asks : (h : List Entry) (s : State) → Run (opening_of setup) h s → IsStanding (set_count setup) id h → asks id s.requests ≡ true
  standing-asks h s run k =
      let o : State = opening_of setup in
      let quiet : IsQuietFor (set_count setup) id k.second.event k.second.reply = stored-quiet (set_count setup) id k.second.event k.second.reply k.new k.shows_new in
      let takes = or-false (are_taken (set_count setup) id k.middle) (are_taken (set_count setup) id (k.second ∷ k.later))
      (sym (list_any-append (λ (x : Entry). takes_away (set_count setup) id x.event x.reply) k.middle (k.second ∷ k.later)) ∙ k.stays) in
      let takes-later = or-false (takes_away (set_count setup) id k.second.event k.second.reply) (are_taken (set_count setup) id k.later) takes.1 in
      let first : IsPassed o k.before k.first (k.middle ++ (k.second ∷ k.later)) s =
      passed o s k.before (k.middle ++ (k.second ∷ k.later)) k.first (subst (λ (x : List Entry). Run o x s) k.are run) in
      let was : IsStored id first.was first.is k.old = stored-at k.before first.was k.first first.is k.old first.run first.step k.shows_old in
      let begun : Run o (k.before ++ k.first ∷ []) first.is = Stepped k.before first.was k.first.event k.first.reply first.is first.run first.step in
      let split = leads-split first.is s k.middle (k.second ∷ k.later) first.rest in
      let one = uncons split.0 s k.second k.later split.2 in
      let start : Asks k.old.serials.made was.index first.is = record {
        mine = ap (λ (xs : List Subchannel). index_in id xs) was.subs ∙ was.named;
        asked = λ sub there more.
            let same : sub ≡ was.sub = same-sub first.was.subs first.is.subs was.index was.sub sub was.subs was.there there in
            let made : k.old.serials.made ≡ sub.state.serials.made = ap (λ (x : StoredStatus). x.serials.made) was.shows ∙ ap (λ (x : Subchannel). x.state.serials.made) (sym same) in
            absurd (omega (arith, made, more));
      } in
      let along : Run o ((k.before ++ k.first ∷ []) ++ k.middle) split.0 = onward o first.is split.0 (k.before ++ k.first ∷ []) k.middle begun split.1 in
      let there : Asks k.old.serials.made was.index split.0 =
      asks-along k.old.serials.made was.index (k.before ++ k.first ∷ []) k.middle first.is split.0 begun split.1 quiet.1 takes.0 start in
      let left : IsStored id split.0 one.0 k.new = stored-at ((k.before ++ k.first ∷ []) ++ k.middle) split.0 k.second one.0 k.new along one.1 k.shows_new in
      let after-c : Asks k.old.serials.made was.index one.0 =
      asks-step k.old.serials.made was.index ((k.before ++ k.first ∷ []) ++ k.middle) split.0 k.second.event k.second.reply one.0 along one.1 quiet.1 quiet.0 there in
      let index : left.index ≡ was.index = same_Some left.index was.index (sym left.named ∙ there.mine) in
      let sub-there : slice_get one.0.subs was.index ≡ Some left.sub =
      ap (λ (xs : List Subchannel). slice_get xs was.index) left.subs ∙ (ap (λ (n : ℕ). slice_get split.0.subs n) (sym index) ∙ left.there) in
      let made : k.new.serials.made ≡ left.sub.state.serials.made = ap (λ (x : StoredStatus). x.serials.made) left.shows in
      let less : k.old.serials.made < k.new.serials.made = k.made in
      now-along was.index (((k.before ++ k.first ∷ []) ++ k.middle) ++ k.second ∷ []) k.later one.0 s
      (Stepped ((k.before ++ k.first ∷ []) ++ k.middle) split.0 k.second.event k.second.reply one.0 along one.1) one.2 quiet.1 takes-later.1 after-c.mine
      (after-c.asked left.sub sub-there (omega (arith, less, made)))

  pub not-standing : (h : List Entry) (s : State) → Run (opening_of setup) h s → IsAlone setup id → IsNotStanding (set_count setup) id h → asks id s.requests ≡ true → ⊥
  not-standing h s run one-of k asked-now =
      let o : State = opening_of setup in
      let quiet : IsQuietFor (set_count setup) id k.second.event k.second.reply = stored-quiet (set_count setup) id k.second.event k.second.reply k.new k.shows_new in
      let zero : IsPassed o k.before k.away (k.first ∷ (k.middle ++ (k.second ∷ []))) s =
      passed o s k.before (k.first ∷ (k.middle ++ (k.second ∷ []))) k.away (subst (λ (x : List Entry). Run o x s) k.are run) in
      let first : IsPassed o (k.before ++ k.away ∷ []) k.first (k.middle ++ (k.second ∷ [])) s = passed-next o s k.before (k.middle ++ (k.second ∷ [])) k.away k.first zero in
      let was : IsStored id first.was first.is k.old = stored-at (k.before ++ k.away ∷ []) first.was k.first first.is k.old first.run first.step k.shows_old in
      let began : index_in id zero.was.subs ≡ Some was.index =
      sym (index-stays id zero.was.subs zero.is.subs (laws.setups zero.was k.away.event k.away.reply zero.is zero.step)) ∙ was.named in
      let move : Move was.index zero.was k.away.event k.away.reply zero.is was.sub =
      moves k.before zero.was k.away.event k.away.reply zero.is was.index was.sub zero.run zero.step began was.there in
      let still : was.sub.state.serials.made ≤ move.sub.state.serials.made =
      made-same (set_count setup) id (status_of move.sub.state) k.away.event k.away.reply (status_of was.sub.state) k.taken move.makes in
      let old-made : k.old.serials.made ≡ was.sub.state.serials.made = ap (λ (x : StoredStatus). x.serials.made) was.shows in
      let never : asks id zero.is.requests ≡ true → ⊥ = λ asked.
      elim (step-why zero.was id setup k.away.event k.away.reply zero.is was.index move.sub was.sub zero.step (tables zero.was k.away.event k.away.reply zero.is zero.step)
      (laws.setups zero.was k.away.event k.away.reply zero.is zero.step ∙ setups-stay laws setup k.before zero.was zero.run) one-of quiet.1 began move.there was.named was.there asked) [
        | inl p ↦ cc (sym p.0 ∙ subst (λ (n : ℕ). takes_away n id k.away.event k.away.reply ≡ true) (sym (sets-stay laws setup k.before zero.was zero.run)) k.taken)
        | inr rose ↦ omega (arith, rose, still)
      ] in
      let start : Since k.old.serials.made was.index zero.is = record {
        mine = was.named;
        since = λ sub there.
            let same : sub ≡ was.sub = same_Some sub was.sub (sym there ∙ was.there) in
            let made : k.old.serials.made ≡ sub.state.serials.made = old-made ∙ ap (λ (x : Subchannel). x.state.serials.made) (sym same) in
            (omega (arith, made), λ asked. absurd (never asked));
      } in
      let more : List Entry = k.first ∷ k.middle in
      let rest : Leads zero.is (more ++ (k.second ∷ [])) s = zero.rest in
      let split = leads-split zero.is s more (k.second ∷ []) rest in
      let one = uncons split.0 s k.second [] split.2 in
      let begun : Run o (k.before ++ k.away ∷ []) zero.is = Stepped k.before zero.was k.away.event k.away.reply zero.is zero.run zero.step in
      let along : Run o ((k.before ++ k.away ∷ []) ++ more) split.0 = onward o zero.is split.0 (k.before ++ k.away ∷ []) more begun split.1 in
      let there : Since k.old.serials.made was.index split.0 =
      since-along k.old.serials.made was.index (k.before ++ k.away ∷ []) more zero.is split.0 begun split.1 one-of quiet.1 start in
      let left : IsStored id split.0 one.0 k.new = stored-at ((k.before ++ k.away ∷ []) ++ more) split.0 k.second one.0 k.new along one.1 k.shows_new in
      let after-c : Since k.old.serials.made was.index one.0 =
      since-step k.old.serials.made was.index ((k.before ++ k.away ∷ []) ++ more) split.0 k.second.event k.second.reply one.0 along one.1 one-of quiet.1 there in
      let index : left.index ≡ was.index = same_Some left.index was.index (sym left.named ∙ there.mine) in
      let sub-there : slice_get one.0.subs was.index ≡ Some left.sub =
      ap (λ (xs : List Subchannel). slice_get xs was.index) left.subs ∙ (ap (λ (n : ℕ). slice_get split.0.subs n) (sym index) ∙ left.there) in
      let made : k.new.serials.made ≡ left.sub.state.serials.made = ap (λ (x : StoredStatus). x.serials.made) left.shows in
      let same-made : k.new.serials.made ≡ k.old.serials.made = k.made in
      let end : one.0 ≡ s = leads-none one.0 s one.2 in
      let less : k.old.serials.made < left.sub.state.serials.made =
      (after-c.since left.sub sub-there).1 (ap (λ (x : State). asks id x.requests) end ∙ asked-now) in
      omega (arith, less, made, same-made)

-- TEST PENDING INTERRUPTION gives the answer
pub tested-answer : AreTables → (s new : State) (entry : Entry) (mask : ℕ) (found : Option IntCode) → Step s entry.event entry.reply new → IsTested mask entry found → answer s.requests mask ≡ found
tested-answer tables s new entry mask found step t =
    let e : entry.reply ≡ reply.Interruption (answer s.requests mask) = subst (λ (x : Event). IsByTable s x entry.reply new) t.2 (tables s entry.event entry.reply new step) in
    let same : reply.Interruption (answer s.requests mask) ≡ reply.Interruption found = sym e ∙ t.3 in
    cc same

pub run-asked-for : AreLaws → AreTables → (setup : Setup) (h : List Entry) (s : State) → Run (opening_of setup) h s → IsAskedFor (set_count setup) h
run-asked-for laws tables setup h s run id before after entry found eq stands t =
    let o : State = opening_of setup in
    let k : IsPassed o before entry after s = passed o s before after entry (subst (λ (x : List Entry). Run o x s) eq run) in
    let code = asked-answer id k.was.requests (standing-asks laws tables setup id before k.was k.run stands) in
    (code.0, sym (tested-answer tables k.was k.is entry 0xFF found k.step t) ∙ code.1)

pub run-given-once : AreLaws → AreTables → (setup : Setup) (h : List Entry) (s : State) → Run (opening_of setup) h s → IsGivenOnce setup h
run-given-once laws tables setup h s run id mask before after entry code one eq none t =
    let o : State = opening_of setup in
    let k : IsPassed o before entry after s = passed o s before after entry (subst (λ (x : List Entry). Run o x s) eq run) in
    by k (is_for id code) refl
  where
    by : IsPassed (opening_of setup) before entry after s → (b : Bool) → is_for id code ≡ b → b ≡ false
    by k false e = refl
    by k true e =
        absurd (not-standing laws tables setup id before k.was k.run one none
        (answer-asked id k.was.requests mask code (tested-answer tables k.was k.is entry mask (Some code) k.step t) e))
