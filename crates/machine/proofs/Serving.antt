-- The table of engines stays right as one subchannel comes to engage another engine, where it engages none that another does.
use Rattle.std.proofs.Common.{◌≡◌, ◌≢◌, refl, sym, ◌∙◌, ap, subst, ℕ, ◌<◌, ◌==◌, Bool, true, false, Option, None, Some, Result, Ok, Err, List, length, map, arith, inl, inr}
use Rattle.std.specs.Prelude.{replicate, slice_get, slice_set}
use Rattle.std.proofs.lemmas.Bool.{eq-eqb, eqb-true}
use Rattle.std.proofs.lemmas.Option.{same_Some}
use Rattle.std.proofs.lemmas.List.{length-set, length-replicate, get_or-replicate, get_or-set_same, get_or-set_other}
use Rattle.chan_events.specs.Events.{Event}
use Rattle.chan_events.specs.Replies.{Reply}
use Rattle.chan_model.specs.declared.fault.Fault.{Fault}
use Rattle.chan_model.specs.ResetCauses.{is_path}
use Rattle.channel_config.specs.declared.parts.SubchannelSetup.{SubchannelSetup}
use Rattle.subchannel_model.specs.declared.state.Subchannel.{Subchannel}
use Rattle.subchannel_model.specs.Choosing.{engages, engages_at}
use Rattle.subchannel_model.specs.Opening.{opened}
use Rattle.machine_model.specs.declared.state.Sweep.{Sweep}
use Rattle.machine_model.specs.PathSteps.{swept}
use Rattle.machine_model.specs.State.{State}
use Rattle.machine_model.specs.Steps.{Performs, Step}
use Rattle.lookup.specs.Tables.{Serves, server, served_at, without_server, with_entry, engaged}
use Rattle.lookup.proofs.Serving.{engages-is}
use Rattle.step_laws.proofs.Indices.{set-get, get-set, get-other}
use Rattle.run_laws.specs.OneEngine.{IsAlone}
use Rattle.run_laws.proofs.Machine.OneEngine.{alone-set, opened-idle, swept-engages}
use Rattle.run_laws.proofs.Machine.SweptPaths.{IsSwept, is-swept}

-- the engine that a subchannel engages is one
path-is : (o : Option ℕ) (c : ℕ) → is_path o c ≡ true → o ≡ Some c
path-is None c e = absurd (cc e)
path-is (Some d) c e = ap Some (eqb-true d c e)

engages-one : (sub : Subchannel) (c : ℕ) → engages c sub ≡ true → engaged sub ≡ Some c
engages-one sub c e = path-is (engaged sub) c (sym (engages-is sub c) ∙ e)

one-engages : (sub : Subchannel) (c : ℕ) → engaged sub ≡ Some c → engages c sub ≡ true
one-engages sub c e = engages-is sub c ∙ (ap (λ (o : Option ℕ). is_path o c) e ∙ eq-eqb c c refl)

-- what the entry of an engine is afterwards
freed-other : (table : List (Option ℕ)) (before : Option ℕ) (c : ℕ) → before ≢ Some c → server (without_server table before) c ≡ server table c
freed-other table None c n = refl
freed-other table (Some b) c n = get_or-set_other table b c None None (λ h. n (ap Some (sym h)))

given-other : (table : List (Option ℕ)) (after : Option ℕ) (index c : ℕ) → after ≢ Some c → server (with_entry table after index) c ≡ server table c
given-other table None index c n = refl
given-other table (Some a) index c n = get_or-set_other table a c (Some index) None (λ h. n (ap Some (sym h)))

freed-long : (table : List (Option ℕ)) (before : Option ℕ) → length (without_server table before) ≡ length table
freed-long table None = refl
freed-long table (Some b) = length-set table b None

pub served-long : (table : List (Option ℕ)) (index : ℕ) (before after : Option ℕ) → length (served_at index before after table) ≡ length table
served-long table index before None = freed-long table before
served-long table index before (Some a) = length-set (without_server table before) a (Some index) ∙ freed-long table before

entry-here : (table : List (Option ℕ)) (index c : ℕ) (before after : Option ℕ) → c < length table → after ≡ Some c → server (served_at index before after table) c ≡ Some index
entry-here table index c before after within e =
    subst (λ (a : Option ℕ). server (served_at index before a table) c ≡ Some index) (sym e)
    (get_or-set_same (without_server table before) c (Some index) None (omega (arith, within, freed-long table before)))

entry-freed : (table : List (Option ℕ)) (c : ℕ) (before : Option ℕ) → c < length table → before ≡ Some c → server (without_server table before) c ≡ None
entry-freed table c before within e =
    subst (λ (b : Option ℕ). server (without_server table b) c ≡ None) (sym e) (get_or-set_same table c None None within)

entry-other : (table : List (Option ℕ)) (index c : ℕ) (before after : Option ℕ) → before ≢ Some c → after ≢ Some c → server (served_at index before after table) c ≡ server table c
entry-other table index c before after n m = given-other (without_server table before) after index c m ∙ freed-other table before c n

-- one that engages an engine is the one that its entry names, and serves no other
pub serves-alone : (table : List (Option ℕ)) (subs : List Subchannel) → Serves table subs → (c : ℕ) → c < 0x100 → IsAlone c subs
serves-alone table subs k c small i j x y a b e g = same_Some i j (sym (k.named c i x small a e) ∙ k.named c j y small b g)

-- one subchannel comes to engage another engine, or the same
not-path : (o : Option ℕ) (c : ℕ) → is_path o c ≡ false → o ≢ Some c
not-path o c e f = absurd (cc (sym (ap (λ (p : Option ℕ). is_path p c) f ∙ eq-eqb c c refl) ∙ e))

module _ (table : List (Option ℕ)) (subs : List Subchannel) (index : ℕ) (old new : Subchannel) (there : slice_get subs index ≡ Some old) (k : Serves table subs) where
  named-other : (c p : ℕ) (sub : Subchannel) → c < 0x100 → IsAlone c (slice_set subs index new) → p ≢ index → slice_get subs p ≡ Some sub → engages c sub ≡ true →
      server (served_at index (engaged old) (engaged new) table) c ≡ Some p
  named-other c p sub small alone n at e =
      let is = k.named c p sub small at e in
      let here = get-set subs index old new there in
      let other = get-other subs index new p n ∙ at in
      entry-other table index c (engaged old) (engaged new)
      (λ f. n (same_Some p index (sym is ∙ k.named c index old small there (one-engages old c f))))
      (λ f. n (sym (alone index p new sub here other (one-engages new c f) e))) ∙ is

  -- whom an entry names that was left as it was
  abbrev Names : ℕ → ℕ → Type 0
  Names c p = (sub : Subchannel) × (slice_get (slice_set subs index new) p ≡ Some sub) × (engages c sub ≡ true)

  still-named : (c p : ℕ) (before : Bool) → c < 0x100 → is_path (engaged old) c ≡ before → server (without_server table (engaged old)) c ≡ Some p → Names c p
  still-named c p true small b e =
      absurd (cc (sym e ∙ entry-freed table c (engaged old) (omega (arith, small, k.size)) (path-is (engaged old) c b)))
  still-named c p false small b e =
      let q = k.engaged c p small (sym (freed-other table (engaged old) c (not-path (engaged old) c b)) ∙ e) in
      let away : p ≢ index = λ h.
      let same : q.0 ≡ old = same_Some q.0 old (sym q.1 ∙ (ap (slice_get subs) h ∙ there)) in
      absurd (cc (sym (sym (ap (engages c) same) ∙ q.2) ∙ (engages-is old c ∙ b))) in
      (q.0, get-other subs index new p away ∙ q.1, q.2)

  now-named : (c p : ℕ) (after : Bool) → c < 0x100 → is_path (engaged new) c ≡ after → server (served_at index (engaged old) (engaged new) table) c ≡ Some p → Names c p
  now-named c p true small a e =
      let is = path-is (engaged new) c a in
      let same : p ≡ index = same_Some p index (sym e ∙ entry-here table index c (engaged old) (engaged new) (omega (arith, small, k.size)) is) in
      (new, ap (slice_get (slice_set subs index new)) same ∙ get-set subs index old new there, one-engages new c is)
  now-named c p false small a e =
      still-named c p (is_path (engaged old) c) small refl
      (sym (given-other (without_server table (engaged old)) (engaged new) index c (not-path (engaged new) c a)) ∙ e)

  pub serves-changed : ((c : ℕ) → c < 0x100 → IsAlone c (slice_set subs index new)) → Serves (served_at index (engaged old) (engaged new) table) (slice_set subs index new)
  serves-changed alone = record {
    size = served-long table index (engaged old) (engaged new) ∙ k.size;
    named = λ c p sub small at e. elim (set-get subs index new p sub at) [
      | inl h ↦ entry-here table index c (engaged old) (engaged new) (omega (arith, small, k.size)) (engages-one new c (sym (ap (engages c) h.1) ∙ e)) ∙ ap Some (sym h.0)
      | inr h ↦ named-other c p sub small (alone c small) h.0 h.1 e
    ];
    engaged = λ c p small e. now-named c p (is_path (engaged new) c) small refl e;
  }

  -- it engages what it did
  same-engaged : engaged new ≡ engaged old → (c : ℕ) → engages c new ≡ engages c old
  same-engaged same c = engages-is new c ∙ (ap (λ (o : Option ℕ). is_path o c) same ∙ sym (engages-is old c))

  named-still : (c p : ℕ) (here : Bool) → c < 0x100 → engaged new ≡ engaged old → (p == index) ≡ here → server table c ≡ Some p → Names c p
  named-still c p true small same h e =
      let is : p ≡ index = eqb-true p index h in
      let q = k.engaged c p small e in
      let was : q.0 ≡ old = same_Some q.0 old (sym q.1 ∙ (ap (slice_get subs) is ∙ there)) in
      (new, ap (slice_get (slice_set subs index new)) is ∙ get-set subs index old new there, same-engaged same c ∙ (sym (ap (engages c) was) ∙ q.2))
  named-still c p false small same h e =
      let q = k.engaged c p small e in
      (q.0, get-other subs index new p (λ f. absurd (cc (sym (eq-eqb p index f) ∙ h))) ∙ q.1, q.2)

  pub serves-still : engaged new ≡ engaged old → Serves table (slice_set subs index new)
  serves-still same = record {
    size = k.size;
    named = λ c p sub small at e. elim (set-get subs index new p sub at) [
      | inl h ↦ k.named c index old small there (sym (same-engaged same c) ∙ (sym (ap (engages c) h.1) ∙ e)) ∙ ap Some (sym h.0)
      | inr h ↦ k.named c p sub small h.1 e
    ];
    engaged = λ c p small e. named-still c p (p == index) small same refl e;
  }

-- what a step leaves
abbrev pub AreKeptAlone : Type 0
AreKeptAlone = (s : State) (e : Event) (r : Reply) (new : State) (chpid : ℕ) → Step s e r new → IsAlone chpid s.subs → IsAlone chpid new.subs

performed-alone : AreKeptAlone → (old new : State) (e : Event) (answer : Result Reply Fault) (c : ℕ) → Performs old e answer new → IsAlone c old.subs → IsAlone c new.subs
performed-alone kept old new e (Ok r) c step alone = kept old e r new c step alone
performed-alone kept old new e (Err f) c refused alone = subst (λ (s : State). IsAlone c s.subs) (sym refused.1) alone

pub served-performed : AreKeptAlone → (table later : List (Option ℕ)) (old new : State) (e : Event) (answer : Result Reply Fault) (index : ℕ) (sub after : Subchannel) (was is : Option ℕ) →
    slice_get old.subs index ≡ Some sub → Serves table old.subs → Performs old e answer new → new.subs ≡ slice_set old.subs index after → was ≡ engaged sub → is ≡ engaged after →
    later ≡ served_at index was is table → Serves later (slice_set old.subs index after)
served-performed kept table later old new e answer index sub after was is there k done same before now changed =
    subst (λ (t : List (Option ℕ)). Serves t (slice_set old.subs index after))
    (sym (changed ∙ (ap (λ (o : Option ℕ). served_at index o is table) before ∙ ap (λ (o : Option ℕ). served_at index (engaged sub) o table) now)))
    (serves-changed table old.subs index sub after there k
    (λ c small. subst (IsAlone c) same (performed-alone kept old new e answer c done (serves-alone table old.subs k c small))))

-- what befalls one subchannel of all
pub served-swept : (what : Sweep) (table later : List (Option ℕ)) (subs : List Subchannel) (index : ℕ) (sub after : Subchannel) → slice_get subs index ≡ Some sub → Serves table subs →
    after ≡ swept what sub → later ≡ served_at index (engaged sub) (engaged after) table → Serves later (slice_set subs index after)
served-swept what table later subs index sub after there k is changed =
    let alone = serves-alone table subs k in
    subst (λ (t : List (Option ℕ)). Serves t (slice_set subs index after)) (sym changed)
    (serves-changed table subs index sub after there k
    (λ c small. alone-set subs index c after (alone c small)
    (λ i x at e g. alone c small index i sub x there at (swept-engages c sub after (subst (IsSwept sub) (sym is) (is-swept what sub)) e) g)))

-- at the opening no engine serves a subchannel
pub idle-serves : (setups : List SubchannelSetup) → Serves (replicate 0x100 None) (map opened setups)
idle-serves setups = record {
  size = length-replicate {A = Option ℕ} 0x100 None;
  named = λ c p sub small at e. absurd (cc (sym e ∙ ap (λ (o : Option ℕ). engages_at sub o c) (opened-idle setups p sub at)));
  engaged = λ c p small e. absurd (cc (sym e ∙ get_or-replicate {A = Option ℕ} 0x100 c None None small));
}
