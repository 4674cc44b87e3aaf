-- After each run of a lawful set-up each unit has such links: each subchannel and its unit agree, and the starts of a
-- subchannel that began a program rise.
use Rattle.std.proofs.Common.{◌≡◌, refl, sym, ◌∙◌, ap, subst, ℕ, ◌<◌, ◌==◌, Bool, true, false, Option, None, Some, Result, List, arith}
use Rattle.std.specs.Prelude.{if◌then◌else◌, map, slice_get, slice_set, AllPairs, IfOk}
use Rattle.std.proofs.lemmas.Bool.{eqb-true, and_parts}
use Rattle.chan_model.specs.declared.fault.Fault.{Fault}
use Rattle.chan_model.specs.declared.hold_state.HoldPhase.{HoldPhase}
use Rattle.chan_model.specs.declared.hold_state.HoldState.{HoldState}
use Rattle.chan_model.specs.declared.names.Side.{Side}
use Rattle.chan_model.specs.declared.answer.ConditionCode.{ConditionCode}
use Rattle.chan_model.specs.declared.answer.ConditionCode.TheVariants as code
use Rattle.chan_events.specs.Events.{Event}
use Rattle.chan_events.specs.declared.event.Event.TheVariants as event
use Rattle.chan_events.specs.declared.event.Instruction.TheVariants as instruction
use Rattle.chan_model.specs.declared.answer.Answer.TheVariants as answer
use Rattle.chan_events.specs.declared.reply.Entry.{Entry}
use Rattle.chan_events.specs.Replies.{Reply}
use Rattle.chan_events.specs.declared.reply.Reply.TheVariants as reply
use Rattle.chan_model.specs.declared.signal.Down.TheVariants as down
use Rattle.chan_model.specs.declared.unit_state.UnitState.{UnitState}
use Rattle.chan_model.specs.UnitTable.{side_of, resets, restarted}
use Rattle.chan_model.specs.Sides.{same_side}
use Rattle.channel_config.specs.declared.names.SubchannelId.{SubchannelId}
use Rattle.channel_config.specs.Lawful.{IsLawful}
use Rattle.channel_config.specs.Setup.{Setup, set_count}
use Rattle.channel_config.specs.SubchannelWords.{subchannel_named}
use Rattle.orb_block.specs.declared.Orb.{Orb}
use Rattle.schib_block.specs.declared.pmcw.Pmcw as block
use Rattle.agreement_laws.proofs.SeenSignals.{Rises}
use Rattle.agreement_laws.specs.Links.{Links, link_of, opening_links}
use Rattle.agreement_laws.specs.Invariant.{IsGood}
use Rattle.agreement_laws.specs.Claims.{IsSound}
use Rattle.subchannel_model.specs.declared.state.Subchannel.{Subchannel}
use Rattle.subchannel_model.specs.Choosing.{chosen, marked_sub}
use Rattle.subchannel_model.specs.Resume.{resumed}
use Rattle.subchannel_model.specs.Halt.{halted}
use Rattle.subchannel_model.specs.Cancel.{cancelled}
use Rattle.subchannel_model.specs.Test.{tested_wholly}
use Rattle.subchannel_model.specs.Start.{started}
use Rattle.machine_model.specs.State.{State, opening_of}
use Rattle.subchannel_model.specs.Indices.{is_named, index_in, index_of_id}
use Rattle.subchannel_model.specs.Modify.{modified_state}
use Rattle.machine_model.specs.Results.{SubResult, UpResult, DownResult}
use Rattle.machine_model.specs.InstructionSteps.{test_with, function_sub}
use Rattle.machine_model.specs.Steps.{Run, Opened, Stepped}
use Rattle.machine_model.specs.Sharing.{owing}
use Rattle.run_laws.specs.Agreeing.{IsAgreed, AllAgree, AreAbove, IsEnd}
use Rattle.run_laws.specs.Beginnings.{StartCounts, with_offer, with_taken, starts_after, starts, IsBegunOnce, with_start, no_starts}
use Rattle.run_laws.proofs.Machine.Appending.{through-more}
use Rattle.run_laws.specs.StateClaims.{is_id, is_same_id}
use Rattle.step_laws.specs.Walks as walked
use Rattle.machine_model.specs.PathSteps.{swept}
use Rattle.step_laws.specs.Walks.{Walked, Suits, IsQuiet, is_start, OneSub, OneUnit, Function, Resumes, Halts, Clears, Cancels, effect_of}
use Rattle.run_laws.proofs.Machine.Moves.{sets-stay}
use Rattle.run_laws.proofs.Machine.Growth.{IsLink, covers-first, AreLaws}
use Rattle.run_laws.proofs.Machine.HoldEvents.{IsOfHold, up-turns, kept-turns, same-turns, choose-turns, marked-turns, clear-turns}
use Rattle.run_laws.proofs.Machine.Names.{same-id, named-both, named-index}
use Rattle.run_laws.proofs.Machine.SameHold.{tested-same, halted-same}
use Rattle.run_laws.proofs.Machine.TraceEvents.{Tells, start-tells, test-tells, modify-tells, function-tells, choose-tells, marked-tells, up_sub-tells}
use Rattle.run_laws.proofs.Machine.Swept.{swept-told}
use Rattle.run_laws.proofs.Machine.UnitEvents.{Follows, IsKept, down-kept, report-kept, act-kept, owing-kept}
use Rattle.run_laws.proofs.Machine.Linked.{IsLinked, IsAbout, AreLinked, IsStateTold, index-set, hold-linked, unit-linked, restart-linked, opens-linked}
use Rattle.step_laws.proofs.Marks.{marked-suits}
use Rattle.step_laws.proofs.Indices.{first-passes}

-- the instructions leave the hold
same-hold : (sub : Subchannel) → IsOfHold sub sub
same-hold sub = kept-turns sub sub.state refl refl

pub start-hold : (sub : Subchannel) (orb : Orb) (c : ConditionCode) → IsOfHold sub (function_sub sub c (started sub.state orb)).sub
start-hold sub orb code.Zero = kept-turns sub (started sub.state orb) refl refl
start-hold sub orb c = same-hold sub

pub test-hold : (sub : Subchannel) (c : ConditionCode) → IsOfHold sub (test_with sub c).sub
test-hold sub code.Zero = same-turns sub (tested_wholly sub.state) (tested-same sub.state)
test-hold sub c = same-hold sub

pub modify-hold : (sub : Subchannel) (given : block.Pmcw) (c : ConditionCode) → IsOfHold sub (function_sub sub c (modified_state sub given)).sub
modify-hold sub given code.Zero = kept-turns sub (modified_state sub given) refl refl
modify-hold sub given c = same-hold sub

-- an event that tells nothing, and one of the subchannel that a word names
silent-about : (which : Option ℕ) (index : ℕ) (k next : StartCounts) → next ≡ k → IsAbout which index k k next
silent-about which index k next e = record { here = λ h. sym e; there = λ h. sym e }

id-about : (subs : List Subchannel) (id named : SubchannelId) (index : ℕ) (sub : Subchannel) (same : Bool) (k mine : StartCounts) → is_same_id named id ≡ same → index_in named subs ≡ Some index →
    slice_get subs index ≡ Some sub → IsAbout (index_in id subs) index k mine (if same then mine else k)
id-about subs id named index sub true k mine e at there =
    record { here = λ h. refl; there = λ n. absurd (n (subst (λ (x : SubchannelId). index_in x subs ≡ Some index) (same-id named id e) at)) }
id-about subs id named index sub false k mine e at there =
    record {
      here = λ h. let both : is_same_id named id ≡ true = named-both id named sub (first-passes (is_named id) subs index sub h there) (first-passes (is_named named) subs index sub at there) in
          absurd (cc (sym both ∙ e));
      there = λ n. refl;
    }

named-about : (subs : List Subchannel) (id : SubchannelId) (x : Option SubchannelId) (index : ℕ) (sub : Subchannel) (k mine : StartCounts) → index_of_id subs x ≡ Some index →
    slice_get subs index ≡ Some sub → IsAbout (index_in id subs) index k mine (if is_id x id then mine else k)
named-about subs id None index sub k mine at there = absurd (cc at)
named-about subs id (Some named) index sub k mine at there = id-about subs id named index sub (is_same_id named id) k mine refl at there

-- what rises stays so where nothing begins
if-rises : (b : Bool) (k mine : StartCounts) → mine.begun ≡ k.begun → (if b then mine else k).begun ≡ k.begun
if-rises true k mine e = e
if-rises false k mine e = refl

rises-same : (k next : StartCounts) → next.begun ≡ k.begun → AllPairs (λ x y. x < y) k.begun → AllPairs (λ x y. x < y) next.begun
rises-same k next e r = subst (λ (xs : List ℕ). AllPairs (λ x y. x < y) xs) (sym e) r

start-begun : (sub : Subchannel) (orb : Orb) (c : ConditionCode) (k : StartCounts) → (with_start (function_sub sub c (started sub.state orb)).reply k).begun ≡ k.begun
start-begun sub orb code.Zero k = refl
start-begun sub orb c k = refl

offer-begun : (r : Reply) (k : StartCounts) → (with_offer r k).begun ≡ k.begun
offer-begun (reply.Offered t p true) k = refl
offer-begun r k = refl

-- an event that begins a program is one of that subchannel
down-rises : (b : Bool) (k mine : StartCounts) → (b ≡ true → AllPairs (λ x y. x < y) mine.begun) → AllPairs (λ x y. x < y) k.begun → AllPairs (λ x y. x < y) (if b then mine else k).begun
down-rises true k mine f r = f refl
down-rises false k mine f r = r

module _ (laws : AreLaws) where
  -- CLEAR alone changes the hold
  effect-hold : (sub : Subchannel) (f : Function) → IsOfHold sub (record sub { state = effect_of f sub.state })
  effect-hold sub Resumes = kept-turns sub (resumed sub.state) refl refl
  effect-hold sub Halts = same-turns sub (halted sub.state) (halted-same sub.state)
  effect-hold sub Clears = clear-turns laws.keeps sub
  effect-hold sub Cancels = kept-turns sub (cancelled sub.state) refl refl

  pub function-hold : (sub : Subchannel) (f : Function) (c : ConditionCode) → IsOfHold sub (function_sub sub c (effect_of f sub.state)).sub
  function-hold sub f code.Zero = effect-hold sub f
  function-hold sub f c = same-hold sub

  -- an event at the subchannel of an index
  told-at : (id : SubchannelId) (s new : State) (index : ℕ) (sub after : Subchannel) (k mine next : StartCounts) → OneSub s new index sub after → IsOfHold sub after →
      Tells sub after.state k mine → IsAbout (index_in id s.subs) index k mine next → next.begun ≡ k.begun → IsStateTold id k s.subs s.units →
      IsStateTold id next new.subs new.units
  told-at id s new index sub after k mine next one h f about same l =
      subst (λ (units : List UnitState). IsStateTold id next new.subs units) (sym one.units)
      (subst (λ (subs : List Subchannel). IsStateTold id next subs s.units) (sym one.subs)
      (record {
        linked = subst (λ (which : Option ℕ). AreLinked (slice_set s.subs index after) s.units which next) (sym (index-set id s.subs index sub after one.there h.setup))
            (hold-linked laws s.subs s.units index sub after (index_in id s.subs) k mine next one.there h f about l.linked);
        rises = rises-same k next same l.rises;
      }))

  told-unit : (T : Type 0) (id : SubchannelId) (s new : State) (index at : ℕ) (sub after : Subchannel) (u v : UnitState) (k mine next : StartCounts) → OneUnit s new index sub after at u v →
      at ≡ sub.setup.«unit» → IsKept T sub after u v k mine → IsAbout (index_in id s.subs) index k mine next →
      AllPairs (λ x y. x < y) next.begun → IsStateTold id k s.subs s.units → IsStateTold id next new.subs new.units
  told-unit T id s new index at sub after u v k mine next one e f about r l =
      subst (λ (units : List UnitState). IsStateTold id next new.subs units) (sym one.units)
      (subst (λ (subs : List Subchannel). IsStateTold id next subs (slice_set s.units at v)) (sym one.subs)
      (record {
        linked = subst (λ (which : Option ℕ). AreLinked (slice_set s.subs index after) (slice_set s.units at v) which next) (sym (index-set id s.subs index sub after one.there f.setup))
            (unit-linked T s.subs s.units index at sub after u v (index_in id s.subs) k mine next one.there one.found e f about l.linked);
        rises = r;
      }))

  -- what began rises, where the unit of the subchannel took a signal
  unit-rises : (T : Type 0) (id : SubchannelId) (s : State) (index at : ℕ) (sub new : Subchannel) (u v : UnitState) (k mine : StartCounts) → slice_get s.subs index ≡ Some sub →
      slice_get s.units at ≡ Some u → at ≡ sub.setup.«unit» → IsKept T sub new u v k mine → index_in id s.subs ≡ Some index → IsStateTold id k s.subs s.units → AllPairs (λ x y. x < y) mine.begun
  unit-rises T id s index at sub new u v k mine there found e f which l =
      let x : IsLinked s.subs at u (index_in id s.subs) k = l.linked.linked at u found in
      let g : Follows T x.links sub.setup.side sub new v k mine = f.follows x.links x.good x.«unit» (x.stand index sub there (sym e)) in
      (g.told (x.told index sub there (sym e) which)).rises

  -- a quiet event tells nothing of the starts of any subchannel
  start-quiet : (r : Reply) (k : StartCounts) → is_start r ≡ false → with_start r k ≡ k
  start-quiet (reply.Code (answer.Zero serials)) k q = absurd (cc q)
  start-quiet r k q = refl

  if-quiet : (b : Bool) (k next : StartCounts) → next ≡ k → (if b then next else k) ≡ k
  if-quiet true k next e = e
  if-quiet false k next e = refl

  quiet-tells : (sets : ℕ) (id : SubchannelId) (e : Event) (r : Reply) (k : StartCounts) → IsQuiet e r → starts_after sets id e r k ≡ k
  quiet-tells sets id (event.Execute cpu (instruction.Ssch word address)) r k q = if-quiet (is_id (subchannel_named sets word) id) k (with_start r k) (start-quiet r k q)
  quiet-tells sets id (event.Choose word) r k q = absurd q
  quiet-tells sets id (event.Up word path) r k q = absurd q
  quiet-tells sets id (event.Down word path) r k q = absurd q
  quiet-tells sets id (event.Report at report) r k q = absurd q
  quiet-tells sets id e r k q = refl

  -- an event that tells nothing, at one subchannel
  quiet-at : (id : SubchannelId) (s new : State) (e : Event) (r : Reply) (index : ℕ) (sub after : Subchannel) (k : StartCounts) → IsQuiet e r → OneSub s new index sub after → IsOfHold sub after →
      Tells sub after.state k k → IsStateTold id k s.subs s.units → IsStateTold id (starts_after s.sets id e r k) new.subs new.units
  quiet-at id s new e r index sub after k q one h f l =
      let same : starts_after s.sets id e r k ≡ k = quiet-tells s.sets id e r k q in
      told-at id s new index sub after k k _ one h f (silent-about _ index k _ same) (ap (λ (x : StartCounts). x.begun) same) l

  links-walk : (id : SubchannelId) (k : StartCounts) (s : State) (e : Event) (r : Reply) (new : State) → Walked s e r new → IsStateTold id k s.subs s.units →
      IsStateTold id (starts_after s.sets id e r k) new.subs new.units
  links-walk id k s _ _ _ (walked.Stays e r new q sets subs units up) l =
      subst (λ (xs : List UnitState). IsStateTold id (starts_after s.sets id e r k) new.subs xs) (sym units)
      (subst (λ (xs : List Subchannel). IsStateTold id (starts_after s.sets id e r k) xs s.units) (sym subs)
      (subst (λ (next : StartCounts). IsStateTold id next s.subs s.units) (sym (quiet-tells s.sets id e r k q)) l))
  links-walk id k s _ _ _ (walked.Started cpu word address index sub orb c new n one) l =
      told-at id s new index sub _ k (with_start (function_sub sub c (started sub.state orb)).reply k) _ one (start-hold sub orb c) (start-tells sub orb c k)
      (named-about s.subs id (subchannel_named s.sets word) index sub k (with_start (function_sub sub c (started sub.state orb)).reply k) n one.there)
      (if-rises (is_id (subchannel_named s.sets word) id) k (with_start (function_sub sub c (started sub.state orb)).reply k) (start-begun sub orb c k)) l
  links-walk id k s _ _ _ (walked.Tested e r index sub c new q one address by answers) l = quiet-at id s new e r index sub _ k q one (test-hold sub c) (test-tells sub c k) l
  links-walk id k s _ _ _ (walked.Modified e r index sub given c new q one) l = quiet-at id s new e r index sub _ k q one (modify-hold sub given c) (modify-tells sub given c k) l
  links-walk id k s _ _ _ (walked.Performed e r index sub f c new q one by answers) l = quiet-at id s new e r index sub _ k q one (function-hold sub f c) (function-tells sub f c k) l
  links-walk id k s _ _ _ (walked.Chosen word index sub choice t new n x w h one) l =
      let marked : Subchannel = marked_sub sub choice in
      let fit : Suits (chosen sub choice) marked.state = marked-suits (chosen sub choice) sub.state marked.state.pmcw marked.state.scsw w in
      told-at id s new index sub t.sub k (with_offer t.reply k) _ one
      (marked-turns sub t.sub choice (subst (λ (r : Result SubResult Fault). IfOk r (λ t. IsOfHold marked t.sub)) h (choose-turns laws.keeps marked (chosen sub choice) fit.fits)))
      (marked-tells sub choice t.sub.state k (with_offer t.reply k) (subst (λ (r : Result SubResult Fault). IfOk r (λ t. Tells marked t.sub.state k (with_offer t.reply k))) h (choose-tells marked (chosen sub choice) k fit.fits fit.found)))
      (named-about s.subs id (subchannel_named s.sets word) index sub k (with_offer t.reply k) n one.there)
      (if-rises (is_id (subchannel_named s.sets word) id) k (with_offer t.reply k) (offer-begun t.reply k)) l
  links-walk id k s _ _ _ (walked.Met word path returns index sub t new n h one may) l =
      told-at id s new index sub t.sub k k _ one
      (subst (λ (r : Result UpResult Fault). IfOk r (λ t. IsOfHold sub t.sub)) h (up-turns laws.keeps returns s.storage sub path))
      (subst (λ (r : Result UpResult Fault). IfOk r (λ t. Tells sub t.sub.state k k)) h (up_sub-tells returns s.storage sub path k))
      (silent-about _ index k _ refl) refl l
  links-walk id k s _ _ _ (walked.Sunk word path may owed index sub u t new n h one) l =
      let kept : IsKept (IsEnd sub u t.reply) sub t.sub u (owing owed t.«unit») k (with_taken t.reply k) =
      owing-kept _ owed sub t.sub u t.«unit» k (with_taken t.reply k)
      (subst (λ (r : Result DownResult Fault). IfOk r (λ t. IsKept (IsEnd sub u t.reply) sub t.sub u t.«unit» k (with_taken t.reply k))) h (down-kept laws may sub path u k)) in
      told-unit _ id s new index sub.setup.«unit» sub t.sub u (owing owed t.«unit») k (with_taken t.reply k) _ one refl kept
      (named-about s.subs id (subchannel_named s.sets word) index sub k (with_taken t.reply k) n one.there)
      (down-rises (is_id (subchannel_named s.sets word) id) k (with_taken t.reply k)
      (λ b. unit-rises _ id s index sub.setup.«unit» sub t.sub u (owing owed t.«unit») k (with_taken t.reply k) one.there one.found refl kept (named-index s.subs id (subchannel_named s.sets word) index n b) l)
      l.rises)
      l
  links-walk id k s _ _ _ (walked.Reported at index sub u report t new n reached h one) l =
      let both : ((sub.setup.«unit» == at) ≡ true) × (same_side sub.setup.side report.side ≡ true) = and_parts (sub.setup.«unit» == at) (same_side sub.setup.side report.side) reached in
      told-unit _ id s new index at sub t.sub u t.«unit» k k _ one (sym (eqb-true sub.setup.«unit» at both.0))
      (subst (λ (r : Result DownResult Fault). IfOk r (λ t. IsKept (IsEnd sub u t.reply) sub t.sub u t.«unit» k k)) h (report-kept laws sub u report k both.1))
      (silent-about _ index k _ refl) l.rises l
  links-walk id k s _ _ _ (walked.Acted at index sub u what t new side its h one) l =
      told-unit _ id s new index at sub t.sub u t.«unit» k k _ one (sym its)
      (subst (λ (r : Result DownResult Fault). IfOk r (λ t. IsKept (IsEnd sub u t.reply) sub t.sub u t.«unit» k k)) h (act-kept laws sub u what k side))
      (silent-about _ index k _ refl) l.rises l
  links-walk id k s _ _ _ (walked.Restarted at owed u r new found sets subs units up) l =
      subst (λ (xs : List UnitState). IsStateTold id k new.subs xs) (sym units)
      (subst (λ (xs : List Subchannel). IsStateTold id k xs (slice_set s.units at (owing owed (restarted u)))) (sym subs)
      (record { linked = restart-linked laws owed s.subs s.units at u (index_in id s.subs) k found l.linked; rises = l.rises }))
  links-walk id k s _ _ _ (walked.Swept e r what new q sets subs units by) l =
      subst (λ (xs : List UnitState). IsStateTold id (starts_after s.sets id e r k) new.subs xs) (sym units)
      (subst (λ (xs : List Subchannel). IsStateTold id (starts_after s.sets id e r k) xs s.units) (sym subs)
      (subst (λ (next : StartCounts). IsStateTold id next (map (swept what) s.subs) s.units) (sym (quiet-tells s.sets id e r k q))
      (swept-told laws what id k s.subs s.units l)))

  pub run-told : (setup : Setup) (id : SubchannelId) (h : List Entry) (s : State) → IsLawful setup → IsGood opening_links → Run (opening_of setup) h s →
      (s.sets ≡ set_count setup) × IsStateTold id (starts (set_count setup) id h) s.subs s.units
  run-told setup id _ _ lawful good Opened =
      (refl, record { linked = opens-linked setup (index_in id (opening_of setup).subs) lawful good; rises = λ i j d less within. absurd (omega (arith, within)) })
  run-told setup id _ _ lawful good (Stepped h old e r new run step) =
      let told : (old.sets ≡ set_count setup) × IsStateTold id (starts (set_count setup) id h) old.subs old.units = run-told setup id h old lawful good run in
      let next : (new.sets ≡ old.sets) × IsStateTold id (starts_after old.sets id e r (starts (set_count setup) id h)) new.subs new.units =
      (sets-stay old e r new (laws.walks old e r new step), links-walk id (starts (set_count setup) id h) old e r new (laws.walks old e r new step) told.1) in (
        next.0 ∙ told.0,
        subst (λ (k : StartCounts). IsStateTold id k new.subs new.units)
            (ap (λ (sets : ℕ). starts_after sets id e r (starts (set_count setup) id h)) told.0 ∙ sym (through-more (starts_after (set_count setup) id) no_starts h e r))
            next.1,
      )

-- what it means
sound-agreed : (phase : HoldPhase) (u : UnitState) (w : Links) (side : Side) → (link_of w side).hold.phase ≡ phase → w.«unit» ≡ u → IsSound w side → IsAgreed phase u side
sound-agreed phase u w side e f k =
    subst (λ (v : UnitState). IsAgreed phase v side) f
    (subst (λ (x : HoldPhase). IsAgreed x w.«unit» side) e (record { agree = k.agree; one_path = k.one_path }))

pub linked-agree : ((w : Links) (side : Side) → IsGood w → IsSound w side) → (s : State) (which : Option ℕ) (k : StartCounts) → AreLinked s.subs s.units which k → AllAgree s
linked-agree means s which k l = λ index sub u e f.
    let x : IsLinked s.subs sub.setup.«unit» u which k = l.linked sub.setup.«unit» u f in
    sound-agreed sub.state.hold.phase u x.links sub.setup.side (ap (λ (h : HoldState). h.phase) (x.stand index sub e refl).hold) x.«unit» (means x.links sub.setup.side x.good)

pub run-agrees : IsGood opening_links → AreLaws → (setup : Setup) (h : List Entry) (s : State) → IsLawful setup → Run (opening_of setup) h s → AllAgree s
run-agrees good laws setup h s lawful run =
    let told = run-told laws setup (record { set = 0; number = 0 }) h s lawful good run in
    linked-agree laws.means s _ _ told.1.linked

linked-above : Rises → (s : State) (which : Option ℕ) (k : StartCounts) → AreLinked s.subs s.units which k → AreAbove s
linked-above rises s which k l = λ index sub u p r b e f front takes.
    let x : IsLinked s.subs sub.setup.«unit» u which k = l.linked sub.setup.«unit» u f in
    let link : IsLink sub (link_of x.links sub.setup.side) = x.stand index sub e refl in
    subst (λ (v : UnitState). (side_of v sub.setup.side).floor < r) x.«unit»
    (rises x.links sub.setup.side p r b x.good (covers-first (link_of x.links sub.setup.side).downs sub.wires.down p (down.Reset r b) link.downs front)
    (subst (λ (v : UnitState). resets v sub.setup.side r b ≡ true) (sym x.«unit») takes))

pub run-above : IsGood opening_links → AreLaws → Rises → (setup : Setup) (h : List Entry) (s : State) → IsLawful setup → Run (opening_of setup) h s → AreAbove s
run-above good laws rises setup h s lawful run =
    let told = run-told laws setup (record { set = 0; number = 0 }) h s lawful good run in
    linked-above rises s _ _ told.1.linked

-- the starts that began a program, of each subchannel, rise
pub run-begins : IsGood opening_links → AreLaws → (setup : Setup) (h : List Entry) (s : State) → IsLawful setup → Run (opening_of setup) h s → IsBegunOnce (set_count setup) h
run-begins good laws setup h s lawful run = λ id. (run-told laws setup id h s lawful good run).1.rises
