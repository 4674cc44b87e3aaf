-- After each run of a lawful set-up the signals of each subchannel and its unit are in order, and what was seen of connections fits its
-- hold: each entry is right.
use Rattle.std.proofs.Common.{◌≡◌, refl, sym, ◌∙◌, ap, subst, ℕ, ◌==◌, ◌&&◌, Bool, true, false, Option, None, Some, Result, List, [], ◌∷◌, map, slice_get, slice_set, IfOk, if◌then◌else◌, inl, inr}
use Rattle.chan_events.specs.Events.{Event}
use Rattle.chan_events.specs.declared.event.Event.TheVariants as event
use Rattle.chan_events.specs.declared.reply.Entry.{Entry}
use Rattle.chan_events.specs.Replies.{Reply}
use Rattle.chan_model.specs.declared.fault.Fault.{Fault}
use Rattle.chan_model.specs.declared.hold_state.HoldPhase.{HoldPhase}
use Rattle.chan_model.specs.declared.unit_state.UnitState.{UnitState}
use Rattle.channel_config.specs.declared.names.SubchannelId.{SubchannelId}
use Rattle.channel_config.specs.declared.parts.SubchannelSetup.{SubchannelSetup}
use Rattle.channel_config.specs.Lawful.{IsLawful}
use Rattle.channel_config.specs.Setup.{Setup, set_count}
use Rattle.channel_config.specs.SubchannelWords.{subchannel_named}
use Rattle.agreement_laws.specs.Links.{opening_links}
use Rattle.agreement_laws.specs.Invariant.{IsGood}
use Rattle.subchannel_model.specs.declared.state.Subchannel.{Subchannel}
use Rattle.subchannel_model.specs.declared.state.SubchannelState.{SubchannelState}
use Rattle.subchannel_model.specs.Choosing.{chosen}
use Rattle.subchannel_model.specs.Opening.{opened}
use Rattle.subchannel_model.specs.Indices.{is_named, index_in, one_later}
use Rattle.machine_model.specs.PathSteps.{swept}
use Rattle.machine_model.specs.State.{State, opening_of}
use Rattle.machine_model.specs.Steps.{Run, Opened, Stepped}
use Rattle.machine_model.specs.Results.{SubResult, UpResult, DownResult}
use Rattle.step_laws.proofs.Indices.{set-get, map-get, reached-there}
use Rattle.step_laws.specs.Walks as walked
use Rattle.step_laws.specs.Walks.{Walked, IsQuiet, OneSub, OneUnit}
use Rattle.run_laws.proofs.Machine.Growth.{AreLaws}
use Rattle.run_laws.proofs.Machine.Linked.{IsLinked, AreLinked, index-set}
use Rattle.agreement_laws.proofs.SeenSignals.{Rises}
use Rattle.run_laws.proofs.Machine.RunAgrees.{run-told}
use Rattle.run_laws.specs.Beginnings.{StartCounts}
use Rattle.run_laws.proofs.Machine.Names.{named-is, named-index}
use Rattle.run_laws.specs.StateClaims.{is_id}
use Rattle.run_laws.specs.ByItsPath.{SeenPaths, connected_in, seen_after, IsHaltRight, IsEntryRight, IsByItsPath}
use Rattle.run_laws.specs.Entries.{seen_through, Throughout}
use Rattle.run_laws.proofs.Machine.Appending.{through-more, claim-more}
use Rattle.run_laws.proofs.Signals.Ties.{Ties, connects}
use Rattle.run_laws.proofs.Signals.Calms.{Same, offers, IsCalm, chosen-halts, start-calm, test-calm, modify-calm, function-calm, marked-choose, swept-calm}
use Rattle.run_laws.proofs.Signals.Fits.{fits}
use Rattle.run_laws.proofs.Signals.RunBounds.{BoundWith, BoundAt, AreBound, AreFit, IsUpRight, up-right, IsUnitRight, down-right, report-right, act-right, walked-bound, opening-bound}

-- what was seen of the connections of the subchannel of a name
abbrev pub TiesAt : SubchannelId → List Subchannel → SeenPaths → Type 0
TiesAt id subs k = (index : ℕ) (sub : Subchannel) → index_in id subs ≡ Some index → slice_get subs index ≡ Some sub → Ties sub.state.hold.phase k

ties-set : (id : SubchannelId) (subs : List Subchannel) (index : ℕ) (sub after : Subchannel) (k next : SeenPaths) → slice_get subs index ≡ Some sub → after.setup ≡ sub.setup →
    (index_in id subs ≡ Some index → Ties sub.state.hold.phase k → Ties after.state.hold.phase next) → ((index_in id subs ≡ Some index → ⊥) → next ≡ k) → TiesAt id subs k →
    TiesAt id (slice_set subs index after) next
ties-set id subs index sub after k next there same here other ties = λ i x named at.
    let first : index_in id subs ≡ Some i = sym (index-set id subs index sub after there same) ∙ named in
    elim (set-get subs index after i x at) [
      | inl p ↦
          let mine : index_in id subs ≡ Some index = first ∙ ap Some p.0 in
          subst (λ (y : Subchannel). Ties y.state.hold.phase next) (sym p.1) (here mine (ties index sub mine there))
      | inr p ↦ subst (λ (y : SeenPaths). Ties x.state.hold.phase y) (sym (other (λ h. p.0 (cc (sym first ∙ h))))) (ties i x first p.1)
    ]

calm-ties : (id : SubchannelId) (subs : List Subchannel) (index : ℕ) (sub after : Subchannel) (k : SeenPaths) → slice_get subs index ≡ Some sub → IsCalm Same sub after → TiesAt id subs k →
    TiesAt id (slice_set subs index after) k
calm-ties id subs index sub after k there m ties = ties-set id subs index sub after k k there m.setup (λ h t. m.ties k t) (λ h. refl) ties

pub index-map : (f : Subchannel → Subchannel) → ((sub : Subchannel) → (f sub).setup ≡ sub.setup) → (id : SubchannelId) (subs : List Subchannel) → index_in id (map f subs) ≡ index_in id subs
index-map f same id [] = refl
index-map f same id (x ∷ xs) =
    ap (λ (setup : SubchannelSetup). if (setup.id.set == id.set) && (setup.id.number == id.number) then Some 0 else one_later (index_in id (map f xs))) (same x)
    ∙ ap (λ (p : Option ℕ). if is_named id x then Some 0 else one_later p) (index-map f same id xs)

swept-ties : (f : Subchannel → Subchannel) → ((sub : Subchannel) → IsCalm Same sub (f sub)) → (id : SubchannelId) (subs : List Subchannel) (k : SeenPaths) → TiesAt id subs k → TiesAt id (map f subs) k
swept-ties f calm id subs k ties = λ i x named at.
    let p = map-get f subs i x at in
    subst (λ (y : Subchannel). Ties y.state.hold.phase k) p.2
    ((calm p.0).ties k (ties i p.0 (sym (index-map f (λ sub. (calm sub).setup) id subs) ∙ named) p.1))

-- quiet events
quiet-after : (sets : ℕ) (id : SubchannelId) (e : Event) (r : Reply) (k : SeenPaths) → IsQuiet e r → (seen_after sets id e r k ≡ k) × IsEntryRight sets id e r k
quiet-after sets id (event.Choose word) r k q = absurd q
quiet-after sets id (event.Up word path) r k q = absurd q
quiet-after sets id (event.Down word path) r k q = absurd q
quiet-after sets id (event.Report at report) r k q = absurd q
quiet-after sets id e r k q = (refl, tt)

-- what a step leaves of it, and that its entry is right
abbrev IsSeen : SubchannelId → State → Event → Reply → State → SeenPaths → Type 0
IsSeen id s e r new k = IsEntryRight s.sets id e r k × TiesAt id new.subs (seen_after s.sets id e r k)

seen-calm : (id : SubchannelId) (s : State) (e : Event) (r : Reply) (new : State) (index : ℕ) (sub after : Subchannel) (k : SeenPaths) → IsQuiet e r → OneSub s new index sub after →
    IsCalm Same sub after → TiesAt id s.subs k → IsSeen id s e r new k
seen-calm id s e r new index sub after k q one m ties =
    let quiet = quiet-after s.sets id e r k q in (
      quiet.1,
      subst (λ (y : SeenPaths). TiesAt id new.subs y) (sym quiet.0)
          (subst (λ (xs : List Subchannel). TiesAt id xs k) (sym one.subs) (calm-ties id s.subs index sub after k one.there m ties)),
    )

seen-one : (id : SubchannelId) (s new : State) (index : ℕ) (sub after : Subchannel) (k : SeenPaths) → OneSub s new index sub after → IsCalm Same sub after → TiesAt id s.subs k → TiesAt id new.subs k
seen-one id s new index sub after k one m ties = subst (λ (xs : List Subchannel). TiesAt id xs k) (sym one.subs) (calm-ties id s.subs index sub after k one.there m ties)

seen-unit : (id : SubchannelId) (s new : State) (index at : ℕ) (sub after : Subchannel) (u v : UnitState) (k : SeenPaths) → OneUnit s new index sub after at u v → after.setup ≡ sub.setup →
    after.state ≡ sub.state → TiesAt id s.subs k → TiesAt id new.subs k
seen-unit id s new index at sub after u v k one same state ties =
    subst (λ (xs : List Subchannel). TiesAt id xs k) (sym one.subs)
    (ties-set id s.subs index sub after k k one.there same (λ h t. subst (λ (x : SubchannelState). Ties x.hold.phase k) (sym state) t) (λ h. refl) ties)

met-next : (b : Bool) (mine : SeenPaths) (k : SeenPaths) (phase : HoldPhase) → b ≡ true → Ties phase mine → Ties phase (if b then mine else k)
met-next true mine k phase e t = t
met-next false mine k phase e t = absurd (cc e)

met-else : (b : Bool) (mine k : SeenPaths) → (b ≡ true → ⊥) → (if b then mine else k) ≡ k
met-else true mine k n = absurd (n refl)
met-else false mine k n = refl

walked-seen : (id : SubchannelId) (s : State) (e : Event) (r : Reply) (new : State) (k : SeenPaths) → Walked s e r new → AreFit s.subs s.units → AreBound s.subs s.units → TiesAt id s.subs k →
    IsSeen id s e r new k
walked-seen id s _ _ _ k (walked.Stays e r new q sets subs units up) fit b ties =
    let quiet = quiet-after s.sets id e r k q in
    (quiet.1, subst (λ (y : SeenPaths). TiesAt id new.subs y) (sym quiet.0) (subst (λ (xs : List Subchannel). TiesAt id xs k) (sym subs) ties))
walked-seen id s _ _ _ k (walked.Started cpu word address index sub orb c new n one) fit b ties = (tt, seen-one id s new index sub _ k one (start-calm sub orb c) ties)
walked-seen id s _ _ _ k (walked.Tested e r index sub c new q one address by answers) fit b ties = seen-calm id s e r new index sub _ k q one (test-calm sub c) ties
walked-seen id s _ _ _ k (walked.Modified e r index sub given c new q one) fit b ties = seen-calm id s e r new index sub _ k q one (modify-calm sub given c) ties
walked-seen id s _ _ _ k (walked.Performed e r index sub f c new q one by answers) fit b ties = seen-calm id s e r new index sub _ k q one (function-calm sub f c) ties
walked-seen id s _ _ _ k (walked.Chosen word index sub choice t new n x w ok one) fit b ties =
    let calm : IsCalm (offers t.reply) sub t.sub =
    subst (λ (r : Result SubResult Fault). IfOk r (λ t. IsCalm (offers t.reply) sub t.sub)) ok (marked-choose sub choice (chosen sub choice)) in
    let named : Option SubchannelId = subchannel_named s.sets word in (
      λ is. subst (λ (r : Result SubResult Fault). IfOk r (λ t. IsHaltRight t.reply k)) ok
          (chosen-halts sub choice k (ties index sub (named-index s.subs id named index n is) one.there)),
      subst (λ (xs : List Subchannel). TiesAt id xs (if is_id named id then offers t.reply k else k)) (sym one.subs)
          (ties-set id s.subs index sub t.sub k _ one.there calm.setup
          (λ mine tied. met-next (is_id named id) (offers t.reply k) k t.sub.state.hold.phase (named-is s.subs id named index sub n mine one.there) (calm.ties k tied))
          (λ not. met-else (is_id named id) (offers t.reply k) k (λ is. not (named-index s.subs id named index n is))) ties),
    )
walked-seen id s _ _ _ k (walked.Met word path returns index sub t new n ok one may) fit b ties =
    let old : BoundAt s.units sub = b index sub one.there in
    let got : IsUpRight sub old.0 path t =
    subst (λ (r : Result UpResult Fault). IfOk r (IsUpRight sub old.0 path)) ok (up-right returns s.storage sub path old.0 (fit index sub old.0 one.there old.1) old.2) in
    let named : Option SubchannelId = subchannel_named s.sets word in (
      λ is. (got.2 k (ties index sub (named-index s.subs id named index n is) one.there)).0,
      subst (λ (xs : List Subchannel). TiesAt id xs (if is_id named id then connects k (connected_in path t.reply k.connected) else k)) (sym one.subs)
          (ties-set id s.subs index sub t.sub k _ one.there got.0
          (λ mine tied. met-next (is_id named id) (connects k (connected_in path t.reply k.connected)) k t.sub.state.hold.phase (named-is s.subs id named index sub n mine one.there) (got.2 k tied).1)
          (λ not. met-else (is_id named id) (connects k (connected_in path t.reply k.connected)) k (λ is. not (named-index s.subs id named index n is))) ties),
    )
walked-seen id s _ _ _ k (walked.Sunk word path may owed index sub u t new n ok one) fit b ties =
    let old : BoundAt s.units sub = b index sub one.there in
    let is : old.0 ≡ u = cc (sym old.1 ∙ one.found) in
    let got : IsUnitRight sub u t =
    subst (λ (r : Result DownResult Fault). IfOk r (IsUnitRight sub u)) ok
    (down-right may sub path u (fit index sub u one.there one.found) (subst (λ (w : UnitState). BoundWith sub w) is old.2)) in
    (tt, seen-unit id s new index _ sub t.sub u _ k one got.0 got.1 ties)
walked-seen id s _ _ _ k (walked.Reported at index sub u report t new n reached ok one) fit b ties =
    let its : (sub.setup.«unit» ≡ at) × (sub.setup.side ≡ report.side) = reached-there at report.side sub reached in
    let found : slice_get s.units sub.setup.«unit» ≡ Some u = ap (λ (n : ℕ). slice_get s.units n) its.0 ∙ one.found in
    let old : BoundAt s.units sub = b index sub one.there in
    let is : old.0 ≡ u = cc (sym old.1 ∙ found) in
    let got : IsUnitRight sub u t =
    subst (λ (r : Result DownResult Fault). IfOk r (IsUnitRight sub u)) ok
    (report-right sub u report its.1 (fit index sub u one.there found) (subst (λ (w : UnitState). BoundWith sub w) is old.2)) in
    (tt, seen-unit id s new index _ sub t.sub u _ k one got.0 got.1 ties)
walked-seen id s _ _ _ k (walked.Acted at index sub u what t new side its ok one) fit b ties =
    let found : slice_get s.units sub.setup.«unit» ≡ Some u = ap (λ (n : ℕ). slice_get s.units n) its ∙ one.found in
    let old : BoundAt s.units sub = b index sub one.there in
    let is : old.0 ≡ u = cc (sym old.1 ∙ found) in
    let got : IsUnitRight sub u t =
    subst (λ (r : Result DownResult Fault). IfOk r (IsUnitRight sub u)) ok
    (act-right sub u what side (fit index sub u one.there found) (subst (λ (w : UnitState). BoundWith sub w) is old.2)) in
    (tt, seen-unit id s new index _ sub t.sub u _ k one got.0 got.1 ties)
walked-seen id s _ _ _ k (walked.Restarted at owed u r new found sets subs units up) fit b ties = (tt, subst (λ (xs : List Subchannel). TiesAt id xs k) (sym subs) ties)
walked-seen id s _ _ _ k (walked.Swept e r what new q sets subs units by) fit b ties =
    let quiet = quiet-after s.sets id e r k q in (
      quiet.1,
      subst (λ (y : SeenPaths). TiesAt id new.subs y) (sym quiet.0)
          (subst (λ (xs : List Subchannel). TiesAt id xs k) (sym subs) (swept-ties (swept what) (swept-calm what) id s.subs k ties)),
    )

-- along a run, before which nothing was seen
abbrev nothing : SeenPaths
nothing = record { offered = None; connected = None }

record IsRunSeen (sets : ℕ) (id : SubchannelId) (h : List Entry) (s : State) : Type 0 where
  bound : AreBound s.subs s.units
  ties : TiesAt id s.subs (seen_through (seen_after sets id) nothing h)
  right : Throughout (seen_after sets id) (IsEntryRight sets id) nothing h

opened-ties : (setup : Setup) (id : SubchannelId) → TiesAt id (opening_of setup).subs nothing
opened-ties setup id index sub named e =
    let p : (s : SubchannelSetup) × (slice_get setup.subchannels index ≡ Some s) × (opened s ≡ sub) = map-get opened setup.subchannels index sub e in
    subst (λ (y : Subchannel). Ties y.state.hold.phase nothing) p.2 tt

linked-fit : Rises → (subs : List Subchannel) (units : List UnitState) (which : Option ℕ) (k : StartCounts) → AreLinked subs units which k → AreFit subs units
linked-fit rises subs units which k l index sub u at found =
    let x : IsLinked subs sub.setup.«unit» u which k = l.linked sub.setup.«unit» u found in
    fits rises x.links sub u x.good x.«unit» (x.stand index sub at refl)

run-seen : AreLaws → Rises → IsGood opening_links → (setup : Setup) (id : SubchannelId) (h : List Entry) (s : State) → IsLawful setup → Run (opening_of setup) h s →
    IsRunSeen (set_count setup) id h s
run-seen laws rises good setup id _ _ lawful Opened = record { bound = opening-bound setup lawful; ties = opened-ties setup id; right = tt }
run-seen laws rises good setup id _ _ lawful (Stepped h old e r new run step) =
    let before : IsRunSeen (set_count setup) id h old = run-seen laws rises good setup id h old lawful run in
    let told = run-told laws setup id h old lawful good run in
    let fit : AreFit old.subs old.units = linked-fit rises old.subs old.units _ _ told.1.linked in
    let walk : Walked old e r new = laws.walks old e r new step in
    let k : SeenPaths = seen_through (seen_after (set_count setup) id) nothing h in
    let seen : IsSeen id old e r new k = walked-seen id old e r new k walk fit before.bound before.ties in
    record {
      bound = walked-bound old e r new walk told.1.linked.apart fit before.bound;
      ties = subst (λ (y : SeenPaths). TiesAt id new.subs y) (sym (through-more (seen_after (set_count setup) id) nothing h e r))
          (subst (λ (n : ℕ). TiesAt id new.subs (seen_after n id e r k)) told.0 seen.1);
      right = claim-more (seen_after (set_count setup) id) (IsEntryRight (set_count setup) id) nothing h e r before.right
          (subst (λ (n : ℕ). IsEntryRight n id e r k) told.0 seen.0);
    }

pub run-by-its-path : AreLaws → Rises → IsGood opening_links → (setup : Setup) (h : List Entry) (s : State) → IsLawful setup → Run (opening_of setup) h s → IsByItsPath (set_count setup) h
run-by-its-path laws rises good setup h s lawful run = λ id. (run-seen laws rises good setup id h s lawful run).right
