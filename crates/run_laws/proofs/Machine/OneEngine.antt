-- After each run each engine serves one subchannel at most, and that on a path that is available.
use Rattle.std.proofs.Common.{◌≡◌, refl, sym, ◌∙◌, ap, subst, ℕ, Bool, true, false, Option, None, Some, List, map, length, nat_lt, slice_get, slice_set, if◌then◌else◌, inl, inr}
use Rattle.std.specs.Prelude.{◌⊎◌}
use Rattle.std.proofs.lemmas.Bool.{eq-eqb, eqb-true}
use Rattle.std.proofs.lemmas.Map.Keys.{any_passes_from_place}
use Rattle.chan_model.specs.PathSets.{is_member, in_both}
use Rattle.chan_events.specs.Events.{Event}
use Rattle.chan_events.specs.declared.reply.Entry.{Entry}
use Rattle.chan_events.specs.Replies.{Reply}
use Rattle.chan_model.specs.declared.names.Side.{Side}
use Rattle.chan_model.specs.declared.unit_state.Own.{Own}
use Rattle.chan_model.specs.declared.unit_state.Own.TheVariants as own
use Rattle.chan_model.specs.declared.unit_state.Connection.{Connection}
use Rattle.chan_model.specs.Agreement.{device_path}
use Rattle.chan_model.specs.UnitTable.{path_of_connection}
use Rattle.chan_model.specs.ResetCauses.{engaged_path, is_path}
use Rattle.chan_model.specs.Sides.{same_side}
use Rattle.channel_config.specs.declared.parts.SubchannelSetup.{SubchannelSetup}
use Rattle.channel_config.specs.Setup.{Setup}
use Rattle.subchannel_model.specs.declared.state.Subchannel.{Subchannel}
use Rattle.subchannel_model.specs.Choosing.{engages, any_engages, is_engaged, engages_at}
use Rattle.subchannel_model.specs.Opening.{opened}
use Rattle.subchannel_model.specs.Store.{installed_paths, available_paths}
use Rattle.machine_model.specs.declared.state.Sweep.{Sweep}
use Rattle.machine_model.specs.PathSteps.{swept}
use Rattle.machine_model.specs.State.{State, opening_of}
use Rattle.machine_model.specs.Steps.{Run, Opened, Step, Stepped}
use Rattle.step_laws.specs.Walks.{AreWalks}
use Rattle.chan_model.proofs.OneSide.{one-side}
use Rattle.step_laws.proofs.Indices.{set-get, map-get}
use Rattle.run_laws.specs.OneEngine.{IsAlone, IsOnePath}
use Rattle.run_laws.proofs.Machine.PathSets.{both-parts, both-from}
use Rattle.run_laws.proofs.Machine.Moving.{IsFree, IsMoved}
use Rattle.run_laws.proofs.Machine.SweptPaths.{IsSwept, is-swept}
use Rattle.run_laws.proofs.Machine.Turning.{Turned, OfNone, OfOne, OfAll, step-turned}

-- the path whose engine serves a subchannel
record IsServed (chpid : ℕ) (x : Subchannel) : Type 0 where
  path : ℕ
  engaged : engaged_path x.state.hold.phase ≡ Some path
  is : slice_get x.setup.paths path ≡ Some chpid

served-chpid : (o : Option ℕ) (chpid : ℕ) → is_path o chpid ≡ true → o ≡ Some chpid
served-chpid None chpid e = absurd (cc e)
served-chpid (Some c) chpid e = ap Some (eqb-true c chpid e)

served-at : (x : Subchannel) (o : Option ℕ) (chpid : ℕ) → engaged_path x.state.hold.phase ≡ o → engages_at x o chpid ≡ true → IsServed chpid x
served-at x None chpid h e = absurd (cc e)
served-at x (Some path) chpid h e = record { path = path; engaged = h; is = served-chpid (slice_get x.setup.paths path) chpid e }

served : (chpid : ℕ) (x : Subchannel) → engages chpid x ≡ true → IsServed chpid x
served chpid x e = served-at x (engaged_path x.state.hold.phase) chpid refl e

serves : (chpid : ℕ) (x : Subchannel) → IsServed chpid x → engages chpid x ≡ true
serves chpid x k =
    ap (λ (o : Option ℕ). engages_at x o chpid) k.engaged ∙ ap (λ (o : Option ℕ). is_path o chpid) k.is ∙ eq-eqb chpid chpid refl

pub record AreServed (subs : List Subchannel) : Type 0 where
  pub alone : (chpid : ℕ) → IsAlone chpid subs
  pub available : (index p : ℕ) (x : Subchannel) → slice_get subs index ≡ Some x → engaged_path x.state.hold.phase ≡ Some p → is_member (available_paths x) p ≡ true

-- a step at one subchannel
path-free : (subs : List Subchannel) (o : Option ℕ) (chpid : ℕ) → o ≡ Some chpid → is_engaged subs o ≡ false → any_engages subs chpid ≡ false
path-free subs o chpid e f = sym (ap (is_engaged subs) e) ∙ f

engaged-free : (subs : List Subchannel) (sub : Subchannel) (path chpid : ℕ) → slice_get sub.setup.paths path ≡ Some chpid →
    (engaged_path sub.state.hold.phase ≡ Some path) ⊎ IsFree subs sub path → (engages chpid sub ≡ true) ⊎ (any_engages subs chpid ≡ false)
engaged-free subs sub path chpid e (inl h) = inl (serves chpid sub (record { path = path; engaged = h; is = e }))
engaged-free subs sub path chpid e (inr f) = inr (path-free subs (slice_get sub.setup.paths path) chpid e f.1)

engages-moved : (subs : List Subchannel) (f : Option ℕ → Option ℕ) (sub after : Subchannel) (chpid : ℕ) → IsMoved subs f sub after → engages chpid after ≡ true →
    (engages chpid sub ≡ true) ⊎ (any_engages subs chpid ≡ false)
engages-moved subs f sub after chpid m e =
    let k : IsServed chpid after = served chpid after e in
    engaged-free subs sub k.path chpid (sym (ap (λ (setup : SubchannelSetup). slice_get setup.paths k.path) m.setup) ∙ k.is) (m.engaged k.path k.engaged)

other-alone : (subs : List Subchannel) (f : Option ℕ → Option ℕ) (index i chpid : ℕ) (sub after x : Subchannel) → IsAlone chpid subs → slice_get subs index ≡ Some sub →
    IsMoved subs f sub after → slice_get subs i ≡ Some x → engages chpid after ≡ true → engages chpid x ≡ true → index ≡ i
other-alone subs f index i chpid sub after x alone there m at e g =
    elim (engages-moved subs f sub after chpid m e) [
      | inl h ↦ alone index i sub x there at h g
      | inr h ↦ absurd (cc (sym (any_passes_from_place (engages chpid) subs i x at g) ∙ h))
    ]

-- an engine serves one at most, as one subchannel changes, where it comes to serve that one only if it serves no other
pub alone-set : (subs : List Subchannel) (index chpid : ℕ) (after : Subchannel) → IsAlone chpid subs →
    ((i : ℕ) (x : Subchannel) → slice_get subs i ≡ Some x → engages chpid after ≡ true → engages chpid x ≡ true → index ≡ i) → IsAlone chpid (slice_set subs index after)
alone-set subs index chpid after alone other i j x y a b e g =
    elim (set-get subs index after i x a) [
      | inl p ↦ elim (set-get subs index after j y b) [
        | inl q ↦ p.0 ∙ sym q.0
        | inr q ↦ p.0 ∙ other j y q.1 (sym (ap (engages chpid) p.1) ∙ e) g
      ]
      | inr p ↦ elim (set-get subs index after j y b) [
        | inl q ↦ sym (other i x p.1 (sym (ap (engages chpid) q.1) ∙ g) e) ∙ sym q.0
        | inr q ↦ alone i j x y p.1 q.1 e g
      ]
    ]

one-alone : (subs : List Subchannel) (f : Option ℕ → Option ℕ) (index chpid : ℕ) (sub after : Subchannel) → IsAlone chpid subs → slice_get subs index ≡ Some sub →
    IsMoved subs f sub after → IsAlone chpid (slice_set subs index after)
one-alone subs f index chpid sub after alone there m =
    alone-set subs index chpid after alone (λ i x. other-alone subs f index i chpid sub after x alone there m)

same-paths : (sub after : Subchannel) → after.setup ≡ sub.setup → after.state.pmcw.available ≡ sub.state.pmcw.available → available_paths sub ≡ available_paths after
same-paths sub after s a =
    sym (ap (λ (available : List Bool). in_both (installed_paths after) available) a
    ∙ ap (λ (setup : SubchannelSetup). available_paths (record sub { setup = setup })) s)

moved-available : (subs : List Subchannel) (f : Option ℕ → Option ℕ) (index p : ℕ) (sub after : Subchannel) → AreServed subs → slice_get subs index ≡ Some sub →
    IsMoved subs f sub after → engaged_path after.state.hold.phase ≡ Some p → is_member (available_paths after) p ≡ true
moved-available subs f index p sub after k there m e =
    subst (λ (set : List Bool). is_member set p ≡ true) (same-paths sub after m.setup m.available)
    (elim (m.engaged p e) [
      | inl h ↦ k.available index p sub there h
      | inr h ↦ h.0
    ])

one-served : (subs : List Subchannel) (f : Option ℕ → Option ℕ) (index : ℕ) (sub after : Subchannel) → AreServed subs → slice_get subs index ≡ Some sub →
    IsMoved subs f sub after → AreServed (slice_set subs index after)
one-served subs f index sub after k there m = record {
  alone = λ chpid. one-alone subs f index chpid sub after (k.alone chpid) there m;
  available = λ at p x h e. elim (set-get subs index after at x h) [
    | inl q ↦ subst (λ (y : Subchannel). is_member (available_paths y) p ≡ true) (sym q.1)
        (moved-available subs f index p sub after k there m (subst (λ (y : Subchannel). engaged_path y.state.hold.phase ≡ Some p) q.1 e))
    | inr q ↦ k.available at p x q.1 e
  ];
}

-- a sweep
pub swept-engages : (chpid : ℕ) (sub after : Subchannel) → IsSwept sub after → engages chpid after ≡ true → engages chpid sub ≡ true
swept-engages chpid sub after w e =
    let k : IsServed chpid after = served chpid after e in
    serves chpid sub (record {
      path = k.path;
      engaged = w.engaged k.path k.engaged;
      is = sym (ap (λ (setup : SubchannelSetup). slice_get setup.paths k.path) w.setup) ∙ k.is;
    })

same-installed : (sub after : Subchannel) → after.setup ≡ sub.setup → installed_paths sub ≡ installed_paths after
same-installed sub after s = sym (ap (λ (setup : SubchannelSetup). installed_paths (record sub { setup = setup })) s)

swept-available : (sub after : Subchannel) (p : ℕ) → IsSwept sub after → engaged_path after.state.hold.phase ≡ Some p → is_member (available_paths sub) p ≡ true →
    is_member (available_paths after) p ≡ true
swept-available sub after p w e h =
    let parts = both-parts (installed_paths sub) sub.state.pmcw.available p h in
    both-from (λ path. nat_lt path (length after.setup.paths)) after.state.pmcw.available p
    (subst (λ (set : List Bool). is_member set p ≡ true) (same-installed sub after w.setup) parts.0) (w.available p e parts.1)

all-alone : (what : Sweep) (subs : List Subchannel) (chpid : ℕ) → IsAlone chpid subs → IsAlone chpid (map (swept what) subs)
all-alone what subs chpid alone i j x y a b e g =
    let p = map-get (swept what) subs i x a in
    let q = map-get (swept what) subs j y b in
    alone i j p.0 q.0 p.1 q.1 (swept-engages chpid p.0 x (subst (λ (z : Subchannel). IsSwept p.0 z) p.2 (is-swept what p.0)) e)
    (swept-engages chpid q.0 y (subst (λ (z : Subchannel). IsSwept q.0 z) q.2 (is-swept what q.0)) g)

all-served : (what : Sweep) (subs : List Subchannel) → AreServed subs → AreServed (map (swept what) subs)
all-served what subs k = record {
  alone = λ chpid. all-alone what subs chpid (k.alone chpid);
  available = λ index p x a e.
      let q = map-get (swept what) subs index x a in
      let w : IsSwept q.0 x = subst (λ (z : Subchannel). IsSwept q.0 z) q.2 (is-swept what q.0) in
      swept-available q.0 x p w e (k.available index p q.0 q.1 (w.engaged p e));
}

-- an engine that serves one subchannel at most does so after each step
turned-alone : (s : State) (e : Event) (r : Reply) (new : State) (chpid : ℕ) → Turned s e r new → IsAlone chpid s.subs → IsAlone chpid new.subs
turned-alone s _ _ _ chpid (OfNone e r new silent subs up) alone = subst (IsAlone chpid) (sym subs) alone
turned-alone s _ _ _ chpid (OfOne e r new index sub after there subs up m silent) alone =
    subst (IsAlone chpid) (sym subs) (one-alone s.subs _ index chpid sub after alone there m)
turned-alone s _ _ _ chpid (OfAll e r new what silent subs up) alone = subst (IsAlone chpid) (sym subs) (all-alone what s.subs chpid alone)

pub step-alone : AreWalks → (s : State) (e : Event) (r : Reply) (new : State) (chpid : ℕ) → Step s e r new → IsAlone chpid s.subs → IsAlone chpid new.subs
step-alone walks s e r new chpid step = turned-alone s e r new chpid (step-turned s e r new (walks s e r new step))

turned-served : (s : State) (e : Event) (r : Reply) (new : State) → Turned s e r new → AreServed s.subs → AreServed new.subs
turned-served s _ _ _ (OfNone e r new silent subs up) k = subst (λ (xs : List Subchannel). AreServed xs) (sym subs) k
turned-served s _ _ _ (OfOne e r new index sub after there subs up m silent) k =
    subst (λ (xs : List Subchannel). AreServed xs) (sym subs) (one-served s.subs _ index sub after k there m)
turned-served s _ _ _ (OfAll e r new what silent subs up) k = subst (λ (xs : List Subchannel). AreServed xs) (sym subs) (all-served what s.subs k)

-- at the opening no subchannel is served
pub opened-idle : (setups : List SubchannelSetup) (index : ℕ) (x : Subchannel) → slice_get (map opened setups) index ≡ Some x → engaged_path x.state.hold.phase ≡ None
opened-idle setups index x e =
    let p = map-get opened setups index x e in sym (ap (λ (y : Subchannel). engaged_path y.state.hold.phase) p.2)

opened-served : (setups : List SubchannelSetup) → AreServed (map opened setups)
opened-served setups = record {
  alone = λ chpid i j x y a b e g. let k : IsServed chpid x = served chpid x e in absurd (cc (sym (opened-idle setups i x a) ∙ k.engaged));
  available = λ index p x a e. absurd (cc (sym (opened-idle setups index x a) ∙ e));
}

run-served : AreWalks → (setup : Setup) (h : List Entry) (s : State) → Run (opening_of setup) h s → AreServed s.subs
run-served walks setup _ _ Opened = opened-served setup.subchannels
run-served walks setup _ _ (Stepped h old e r new run step) =
    turned-served old e r new (step-turned old e r new (walks old e r new step)) (run-served walks setup h old run)

-- a subchannel has one engine, and a device one path
one-engine : (c d : ℕ) (x : Subchannel) → engages c x ≡ true → engages d x ≡ true → c ≡ d
one-engine c d x e f =
    let k : IsServed c x = served c x e in
    let l : IsServed d x = served d x f in
    let same : k.path ≡ l.path = cc (sym k.engaged ∙ l.engaged) in
    cc (sym k.is ∙ ap (slice_get x.setup.paths) same ∙ l.is)

placed-one : (k a b : Side) (at : Connection) (p q : ℕ) (c d : Bool) → same_side k a ≡ c → same_side k b ≡ d → (if c then path_of_connection at else None) ≡ Some p →
    (if d then path_of_connection at else None) ≡ Some q → (a ≡ b) × (p ≡ q)
placed-one k a b at p q false d e f g h = absurd (cc g)
placed-one k a b at p q true false e f g h = absurd (cc h)
placed-one k a b at p q true true e f g h = (sym (one-side k a e) ∙ one-side k b f, cc (sym g ∙ h))

one-device : (o : Own) (a b : Side) (p q : ℕ) → device_path o a ≡ Some p → device_path o b ≡ Some q → (a ≡ b) × (p ≡ q)
one-device own.Idle a b p q e f = absurd (cc e)
one-device (own.Owned k t at) a b p q e f = placed-one k a b at p q (same_side k a) (same_side k b) refl refl e f

pub run-one : AreWalks → (setup : Setup) (h : List Entry) (s : State) → Run (opening_of setup) h s → IsOnePath s
run-one walks setup h s run =
    let k : AreServed s.subs = run-served walks setup h s run in
    record {
      subchannel = k.alone;
      engine = λ index c d x at e f. one-engine c d x e f;
      available = k.available;
      device = λ index p q a b u at e f. one-device u.own a b p q e f;
    }
