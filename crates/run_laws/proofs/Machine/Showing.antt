-- After each run the path-available mask of each subchannel shows which of its paths are up, and signals wait on these alone.
use Rattle.std.proofs.Common.{◌≡◌, refl, sym, ◌∙◌, ap, subst, ℕ, zero, suc, ◌+◌, ◌<◌, ◌≤◌, ◌==◌, ◌&&◌, nat_le, nat_lt, not, Bool, true, false, Option, None, Some, List, [], ◌∷◌, length, slice_get, slice_set, slice_index_or, if◌then◌else◌, inl, inr, leb-true, arith}
use Rattle.std.specs.Prelude.{◌⊎◌}
use Rattle.std.specs.List.{list_all, range_with_len}
use Rattle.std.proofs.lemmas.Bool.{and_parts, eq-eqb, eqb-true}
use Rattle.std.proofs.lemmas.List.{length-set, get_or-replicate}
use Rattle.std.proofs.lemmas.List.Elements.{All-contains}
use Rattle.std.proofs.lemmas.List.FromFn.{get_or-range_with_len, length-range_with_len}
use Rattle.std.proofs.lemmas.Map.Keys.{any_passes_from_place}
use Rattle.std.proofs.lemmas.Option.{slice_get_within, get_or_from_slice_get}
use Rattle.chan_model.specs.PathSets.{is_member, all_paths}
use Rattle.chan_events.specs.Events.{Event}
use Rattle.chan_events.specs.declared.reply.Entry.{Entry}
use Rattle.chan_events.specs.Replies.{Reply}
use Rattle.channel_config.specs.declared.parts.SubchannelSetup.{SubchannelSetup}
use Rattle.channel_config.specs.Lawful.{IsLawful, IsPlaced}
use Rattle.channel_config.specs.Setup.{Setup, set_count, has_number, are_distinct}
use Rattle.wires.specs.Queues.{queue, lost}
use Rattle.subchannel_model.specs.declared.state.Subchannel.{Subchannel}
use Rattle.subchannel_model.specs.declared.state.SubchannelState.{SubchannelState}
use Rattle.subchannel_model.specs.Indices.{one_later}
use Rattle.subchannel_model.specs.Losing.{path_lost, path_index, loses_at, shows_at}
use Rattle.subchannel_model.specs.Opening.{opened}
use Rattle.machine_model.specs.declared.state.Sweep.{Sweep}
use Rattle.machine_model.specs.declared.state.Sweep.TheVariants as sweep
use Rattle.machine_model.specs.PathSteps.{swept}
use Rattle.machine_model.specs.State.{State, opening_of, configured_paths}
use Rattle.machine_model.specs.Steps.{Run, Opened, Stepped}
use Rattle.step_laws.specs.Walks.{AreWalks, up_after}
use Rattle.step_laws.proofs.Indices.{set-get, map-get, same-or-not}
use Rattle.run_laws.specs.MaskStates.{IsShown, AreShown}
use Rattle.run_laws.proofs.Machine.WaitingSignals.{Each, each-weaker, EachSignal, signals-weaker, lost-each, none-wait}
use Rattle.run_laws.proofs.Machine.Moving.{IsOnAvailable, IsCarried, IsMoved, same-available}
use Rattle.run_laws.proofs.Machine.SweptPaths.{set-here, set-other, set-default, member-more, is-lost, down-at}
use Rattle.run_laws.proofs.Machine.Turning.{Turned, OfNone, OfOne, OfAll, step-turned}

-- of a subchannel with up to eight different paths the mask shows which are up, and each signal waits on one of them
pub record IsSourced (up : List Bool) (sub : Subchannel) : Type 0 where
  pub distinct : are_distinct sub.setup.paths ≡ true
  pub few : length sub.setup.paths ≤ 8
  pub long : length sub.state.pmcw.available ≡ 8
  pub available : (p chpid : ℕ) (is_up : Bool) → slice_get sub.setup.paths p ≡ Some chpid → slice_get up chpid ≡ Some is_up →
      is_member sub.state.pmcw.available p ≡ is_up
  pub carried : IsCarried sub

abbrev AreSourced : List Bool → List Subchannel → Type 0
AreSourced up subs = (index : ℕ) (sub : Subchannel) → slice_get subs index ≡ Some sub → IsSourced up sub

-- so no signal waits on a path that is down
no-signal : {A : Type 0} (available : List Bool) (p : ℕ) (xs : List A) → is_member available p ≡ false → Each (λ (x : A). IsOnAvailable available p x) xs → xs ≡ []
no-signal available p [] e all = refl
no-signal available p (x ∷ xs) e all = absurd (cc (sym all.0 ∙ e))

sourced-shown : (up : List Bool) (sub : Subchannel) → IsSourced up sub → IsShown up sub
sourced-shown up sub k = record {
  available = k.available;
  silent = λ p chpid at down.
      let no : is_member sub.state.pmcw.available p ≡ false = k.available p chpid false at down in (
        no-signal sub.state.pmcw.available p (queue sub.wires.down p) no (k.carried.downs p),
        no-signal sub.state.pmcw.available p (queue sub.wires.up p) no (k.carried.ups p),
      );
}

-- a step at one subchannel
moved-sourced : (up : List Bool) (subs : List Subchannel) (f : Option ℕ → Option ℕ) (sub after : Subchannel) → IsMoved subs f sub after → IsSourced up sub → IsSourced up after
moved-sourced up subs f sub after m k = record {
  distinct = subst (λ (setup : SubchannelSetup). are_distinct setup.paths ≡ true) (sym m.setup) k.distinct;
  few = subst (λ (setup : SubchannelSetup). length setup.paths ≤ 8) (sym m.setup) k.few;
  long = ap (λ (set : List Bool). length set) m.available ∙ k.long;
  available = λ p chpid is_up at h.
      ap (λ (set : List Bool). is_member set p) m.available
      ∙ k.available p chpid is_up (sym (ap (λ (setup : SubchannelSetup). slice_get setup.paths p) m.setup) ∙ at) h;
  carried = m.carried k.carried;
}

-- the index of a channel path
index-cases : (b : Bool) (o : Option ℕ) (p : ℕ) → (if b then Some 0 else one_later o) ≡ Some p →
    ((b ≡ true) × (p ≡ zero)) ⊎ ((i : ℕ) × (o ≡ Some i) × (p ≡ suc i))
index-cases true o p e = let same : 0 ≡ p = cc e in inl (refl, omega (arith, same))
index-cases false None p e = absurd (cc e)
index-cases false (Some i) p e = let same : i + 1 ≡ p = cc e in inr (i, refl, omega (arith, same))

index-is : (chpid : ℕ) (xs : List ℕ) (p : ℕ) → path_index chpid xs ≡ Some p → slice_get xs p ≡ Some chpid
index-is chpid [] p e = absurd (cc e)
index-is chpid (x ∷ xs) p e =
    elim (index-cases (x == chpid) (path_index chpid xs) p e) [
      | inl h ↦ ap (slice_get (x ∷ xs)) h.1 ∙ ap Some (eqb-true x chpid h.0)
      | inr h ↦ ap (slice_get (x ∷ xs)) h.2 ∙ index-is chpid xs h.0 h.1
    ]

index-later : (chpid x : ℕ) (xs : List ℕ) (p : ℕ) (b : Bool) → (x == chpid) ≡ b → are_distinct (x ∷ xs) ≡ true → slice_get xs p ≡ Some chpid →
    path_index chpid xs ≡ Some p → path_index chpid (x ∷ xs) ≡ Some (suc p)
index-later chpid x xs p true h d e f =
    let again : has_number xs x ≡ true = any_passes_from_place (λ m. m == x) xs p chpid e (eq-eqb chpid x (sym (eqb-true x chpid h))) in
    absurd (cc (sym (ap not again) ∙ (and_parts (not (has_number xs x)) (are_distinct xs) d).0))
index-later chpid x xs p false h d e f =
    ap (λ (b : Bool). if b then Some 0 else one_later (path_index chpid xs)) h ∙ ap one_later f ∙ ap Some (omega arith)

index-found : (chpid : ℕ) (xs : List ℕ) (p : ℕ) → are_distinct xs ≡ true → slice_get xs p ≡ Some chpid → path_index chpid xs ≡ Some p
index-found chpid [] p d e = absurd (cc e)
index-found chpid (x ∷ xs) zero d e =
    let same : x ≡ chpid = cc e in ap (λ (b : Bool). if b then Some 0 else one_later (path_index chpid xs)) (eq-eqb x chpid same)
index-found chpid (x ∷ xs) (suc p) d e =
    index-later chpid x xs p (x == chpid) refl d e (index-found chpid xs p (and_parts (not (has_number xs x)) (are_distinct xs) d).1 e)

-- the mask, where the path of that index is shown so
abbrev Shows : List Bool → List ℕ → List Bool → Type 0
Shows up paths available = (p chpid : ℕ) (is_up : Bool) → slice_get paths p ≡ Some chpid → slice_get up chpid ≡ Some is_up → is_member available p ≡ is_up

abbrev mask_at : Option ℕ → Bool → List Bool → List Bool
mask_at None b available = available
mask_at (Some p) b available = slice_set available p b

mask-here : (o : Option ℕ) (b : Bool) (available : List Bool) (p : ℕ) → p < length available → o ≡ Some p → is_member (mask_at o b available) p ≡ b
mask-here None b available p l e = absurd (cc e)
mask-here (Some q) b available p l e =
    let same : q ≡ p = cc e in
    subst (λ (k : ℕ). is_member (slice_set available k b) p ≡ b) (sym same) (set-here available p b false l)

mask-other : (o : Option ℕ) (b : Bool) (available : List Bool) (p : ℕ) → ¬ (o ≡ Some p) → is_member (mask_at o b available) p ≡ is_member available p
mask-other None b available p n = refl
mask-other (Some q) b available p n = set-other available q b p false (λ e. n (ap Some (sym e)))

mask-shows : (up : List Bool) (b : Bool) (chpid : ℕ) (paths : List ℕ) (available : List Bool) (o : Option ℕ) → are_distinct paths ≡ true → length paths ≤ length available →
    path_index chpid paths ≡ o → Shows up paths available → Shows (slice_set up chpid b) paths (mask_at o b available)
mask-shows up b chpid paths available o distinct few e k = λ p c is_up at h.
    elim (set-get up chpid b c is_up h) [
      | inl q ↦
          let found : path_index chpid paths ≡ Some p = index-found chpid paths p distinct (at ∙ ap Some q.0) in
          let within : p < length paths = slice_get_within paths p c at in
          mask-here o b available p (omega (arith, within, few)) (sym e ∙ found) ∙ sym q.1
      | inr q ↦
          mask-other o b available p (λ h. let same : c ≡ chpid = cc (sym at ∙ index-is chpid paths p (e ∙ h)) in q.0 same)
          ∙ k p c is_up at q.1
    ]

-- a sweep
lost-carried : {A : Type 0} (available : List Bool) (queues : List (List A)) (p : ℕ) → EachSignal (IsOnAvailable available) queues →
    EachSignal (IsOnAvailable (slice_set available p false)) (lost queues p)
lost-carried {A} available queues p all = λ q.
    elim (same-or-not q p) [
      | inl e ↦ subst (λ (xs : List A). Each (λ (x : A). IsOnAvailable (slice_set available p false) q x) xs)
          (sym (ap (λ (k : ℕ). queue (lost queues p) k) e.0 ∙ set-default queues p [])) tt
      | inr n ↦ each-weaker (λ (x : A). IsOnAvailable available q x) (λ (x : A). IsOnAvailable (slice_set available p false) q x) (queue (lost queues p) q)
          (λ x h. set-other available p false q false n.0 ∙ h) (lost-each (IsOnAvailable available) queues p all q)
    ]

few-shown : (sub : Subchannel) (available : List Bool) → length sub.setup.paths ≤ 8 → length available ≡ 8 → length sub.setup.paths ≤ length available
few-shown sub available few long = omega (arith, few, long)

lost-shows : (up : List Bool) (sub : Subchannel) (p : ℕ) → IsSourced up sub → Shows up sub.setup.paths (path_lost sub.state p).pmcw.available
lost-shows up sub p k = subst (λ (set : List Bool). Shows up sub.setup.paths set) (sym (is-lost sub.state p).available) k.available

lost-long : (up : List Bool) (sub : Subchannel) (p : ℕ) → IsSourced up sub → length (path_lost sub.state p).pmcw.available ≡ 8
lost-long up sub p k = ap (λ (set : List Bool). length set) (is-lost sub.state p).available ∙ k.long

down-sourced : (up : List Bool) (chpid : ℕ) (sub : Subchannel) (o : Option ℕ) → path_index chpid sub.setup.paths ≡ o → IsSourced up sub →
    IsSourced (slice_set up chpid false) (shows_at o false (loses_at o sub))
down-sourced up chpid sub None e k = record {
  distinct = k.distinct;
  few = k.few;
  long = k.long;
  available = mask-shows up false chpid sub.setup.paths sub.state.pmcw.available None k.distinct (few-shown sub sub.state.pmcw.available k.few k.long) e k.available;
  carried = k.carried;
}
down-sourced up chpid sub (Some p) e k =
    let x : SubchannelState = path_lost sub.state p in
    let same : x.pmcw.available ≡ sub.state.pmcw.available = (is-lost sub.state p).available in
    record {
      distinct = k.distinct;
      few = k.few;
      long = length-set x.pmcw.available p false ∙ lost-long up sub p k;
      available = mask-shows up false chpid sub.setup.paths x.pmcw.available (Some p) k.distinct (few-shown sub x.pmcw.available k.few (lost-long up sub p k)) e
          (lost-shows up sub p k);
      carried = record {
        downs = lost-carried x.pmcw.available sub.wires.down p (same-available sub.state.pmcw.available x.pmcw.available sub.wires.down same k.carried.downs);
        ups = lost-carried x.pmcw.available sub.wires.up p (same-available sub.state.pmcw.available x.pmcw.available sub.wires.up same k.carried.ups);
      };
    }

up-sourced : (up : List Bool) (chpid : ℕ) (sub : Subchannel) (o : Option ℕ) → path_index chpid sub.setup.paths ≡ o → IsSourced up sub →
    IsSourced (slice_set up chpid true) (shows_at o true sub)
up-sourced up chpid sub None e k = record {
  distinct = k.distinct;
  few = k.few;
  long = k.long;
  available = mask-shows up true chpid sub.setup.paths sub.state.pmcw.available None k.distinct (few-shown sub sub.state.pmcw.available k.few k.long) e k.available;
  carried = k.carried;
}
up-sourced up chpid sub (Some p) e k =
    let old : List Bool = sub.state.pmcw.available in
    record {
      distinct = k.distinct;
      few = k.few;
      long = length-set old p true ∙ k.long;
      available = mask-shows up true chpid sub.setup.paths old (Some p) k.distinct (few-shown sub old k.few k.long) e k.available;
      carried = record {
        downs = signals-weaker (IsOnAvailable old) (IsOnAvailable (slice_set old p true)) sub.wires.down (λ q d h. member-more old p q h) k.carried.downs;
        ups = signals-weaker (IsOnAvailable old) (IsOnAvailable (slice_set old p true)) sub.wires.up (λ q d h. member-more old p q h) k.carried.ups;
      };
    }

reset-sourced : (up : List Bool) (sub : Subchannel) (o : Option ℕ) → IsSourced up sub → IsSourced up (loses_at o sub)
reset-sourced up sub None k = k
reset-sourced up sub (Some p) k =
    let x : SubchannelState = path_lost sub.state p in
    let same : x.pmcw.available ≡ sub.state.pmcw.available = (is-lost sub.state p).available in
    record {
      distinct = k.distinct;
      few = k.few;
      long = lost-long up sub p k;
      available = lost-shows up sub p k;
      carried = record {
        downs = lost-each (IsOnAvailable x.pmcw.available) sub.wires.down p
            (same-available sub.state.pmcw.available x.pmcw.available sub.wires.down same k.carried.downs);
        ups = lost-each (IsOnAvailable x.pmcw.available) sub.wires.up p
            (same-available sub.state.pmcw.available x.pmcw.available sub.wires.up same k.carried.ups);
      };
    }

swept-sourced : (what : Sweep) (up : List Bool) (sub : Subchannel) → IsSourced up sub → IsSourced (up_after what up) (swept what sub)
swept-sourced (sweep.GoesDown chpid) up sub k =
    subst (λ (after : Subchannel). IsSourced (slice_set up chpid false) after) (sym (down-at chpid sub))
    (down-sourced up chpid sub (path_index chpid sub.setup.paths) refl k)
swept-sourced (sweep.ComesUp chpid) up sub k = up-sourced up chpid sub (path_index chpid sub.setup.paths) refl k
swept-sourced (sweep.PathReset chpid) up sub k = reset-sourced up sub (path_index chpid sub.setup.paths) k
swept-sourced sweep.SystemReset up sub k = record {
  distinct = k.distinct;
  few = k.few;
  long = k.long;
  available = k.available;
  carried = record { downs = k.carried.downs; ups = k.carried.ups };
}

turned-sourced : (s : State) (e : Event) (r : Reply) (new : State) → Turned s e r new → AreSourced s.up s.subs → AreSourced new.up new.subs
turned-sourced s _ _ _ (OfNone e r new silent subs up) k =
    subst (λ (paths : List Bool). AreSourced paths new.subs) (sym up) (subst (λ (xs : List Subchannel). AreSourced s.up xs) (sym subs) k)
turned-sourced s _ _ _ (OfOne e r new index sub after there subs up m silent) k =
    subst (λ (paths : List Bool). AreSourced paths new.subs) (sym up)
    (subst (λ (xs : List Subchannel). AreSourced s.up xs) (sym subs)
    (λ at x h. elim (set-get s.subs index after at x h) [
      | inl q ↦ subst (λ (y : Subchannel). IsSourced s.up y) (sym q.1) (moved-sourced s.up s.subs _ sub after m (k index sub there))
      | inr q ↦ k at x q.1
    ]))
turned-sourced s _ _ _ (OfAll e r new what silent subs up) k =
    subst (λ (paths : List Bool). AreSourced paths new.subs) (sym up)
    (subst (λ (xs : List Subchannel). AreSourced (up_after what s.up) xs) (sym subs)
    (λ at x h.
    let q = map-get (swept what) s.subs at x h in
    subst (λ (y : Subchannel). IsSourced (up_after what s.up) y) q.2 (swept-sourced what s.up q.0 (k at q.0 q.1))))

-- at the opening each path that is configured is up
all-at : (test : ℕ → Bool) (xs : List ℕ) (i x : ℕ) → list_all test xs ≡ true → slice_get xs i ≡ Some x → test x ≡ true
all-at test [] i x a e = absurd (cc e)
all-at test (y ∷ ys) zero x a e = let same : y ≡ x = cc e in sym (ap test same) ∙ (and_parts (test y) (list_all test ys) a).0
all-at test (y ∷ ys) (suc i) x a e = all-at test ys i x (and_parts (test y) (list_all test ys) a).1 e

all-available : (p : ℕ) → p < 8 → is_member all_paths p ≡ true
all-available p l = get_or-replicate 8 p true false l

configured-up : (known : List ℕ) (count chpid : ℕ) (is_up : Bool) → slice_get (configured_paths known count) chpid ≡ Some is_up → has_number known chpid ≡ is_up
unfolding configured_paths
configured-up known count chpid is_up e =
    let q = map-get (has_number known) (range_with_len 0 count) chpid is_up e in
    let within : chpid < length (range_with_len 0 count) = slice_get_within (range_with_len 0 count) chpid q.0 q.1 in
    let long : length (range_with_len 0 count) ≡ count = length-range_with_len 0 count in
    let counted = get_or-range_with_len 0 count chpid 0 (omega (arith, within, long)) in
    let is : slice_index_or (range_with_len 0 count) chpid 0 ≡ q.0 = get_or_from_slice_get (range_with_len 0 count) chpid q.0 0 q.1 in
    let same : chpid ≡ 0 + chpid = omega arith in
    ap (has_number known) (same ∙ sym counted ∙ is) ∙ q.2

opened-sourced : (sets units count : ℕ) (known : List ℕ) (setup : SubchannelSetup) → IsPlaced sets units known setup → IsSourced (configured_paths known count) (opened setup)
opened-sourced sets units count known setup placed =
    let paths : List ℕ = setup.paths in
    let some = and_parts (nat_lt 0 (length paths)) (nat_le (length paths) 8 && (list_all (has_number known) paths && are_distinct paths)) placed.paths in
    let few = and_parts (nat_le (length paths) 8) (list_all (has_number known) paths && are_distinct paths) some.1 in
    let all = and_parts (list_all (has_number known) paths) (are_distinct paths) few.1 in
    let most : length paths ≤ 8 = leb-true (length paths) 8 few.0 in
    record {
      distinct = all.1;
      few = most;
      long = refl;
      available = λ p chpid is_up at h.
          let within : p < length paths = slice_get_within paths p chpid at in
          all-available p (omega (arith, within, most)) ∙ sym (all-at (has_number known) paths p chpid all.0 at) ∙ configured-up known count chpid is_up h;
      carried = record { downs = none-wait (IsOnAvailable all_paths) 8; ups = none-wait (IsOnAvailable all_paths) 8 };
    }

opening-sourced : (setup : Setup) → IsLawful setup → AreSourced (opening_of setup).up (opening_of setup).subs
opening-sourced setup lawful = λ index sub e.
    let q = map-get opened setup.subchannels index sub e in
    subst (λ (y : Subchannel). IsSourced (configured_paths setup.paths 0x100) y) q.2
    (opened-sourced (set_count setup) (length setup.units) 0x100 setup.paths q.0
    (All-contains (IsPlaced (set_count setup) (length setup.units) setup.paths) setup.subchannels q.0 lawful.subchannels
    (index, slice_get_within setup.subchannels index q.0 q.1, get_or_from_slice_get setup.subchannels index q.0 q.0 q.1)))

run-sourced : AreWalks → (setup : Setup) (h : List Entry) (s : State) → IsLawful setup → Run (opening_of setup) h s → AreSourced s.up s.subs
run-sourced walks setup _ _ lawful Opened = opening-sourced setup lawful
run-sourced walks setup _ _ lawful (Stepped h old e r new run step) =
    turned-sourced old e r new (step-turned old e r new (walks old e r new step)) (run-sourced walks setup h old lawful run)

pub run-shown : AreWalks → (setup : Setup) (h : List Entry) (s : State) → IsLawful setup → Run (opening_of setup) h s → AreShown s
run-shown walks setup h s lawful run = λ index sub at. sourced-shown s.up sub (run-sourced walks setup h s lawful run index sub at)
