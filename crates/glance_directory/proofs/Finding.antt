-- Searches among the subchannels of a machine, one after another.
use Rattle.std.proofs.Common.{◌≡◌, refl, sym, ◌∙◌, ap, subst, ℕ, ◌+◌, ◌<◌, zero, suc, Bool, true, false, Option, None, Some, List, [], ◌∷◌, length, take, drop, add-one, arith}
use Rattle.std.specs.Prelude.{if◌then◌else◌, slice_get}
use Rattle.channel_config.specs.declared.names.SubchannelId.{SubchannelId}
use Rattle.channel_config.specs.declared.parts.SubchannelSetup.{SubchannelSetup}
use Rattle.chan_events.specs.Events.{Event}
use Rattle.machine_model.specs.State.{State}
use Rattle.subchannel_model.specs.Indices.{one_later}
use Rattle.glance_directory.specs.Directory.{is_name, is_name_at, named_index}
use Rattle.glance_directory.specs.PathTurns.{or_turn, path_turn_among, path_turn_at}

-- the first of some setups: where it is none in a longer list, it is none in its rest, and the head is another
later_none : (o : Option ℕ) → one_later o ≡ None → o ≡ None
later_none None e = refl
later_none (Some i) e = absurd (cc)

head_fails : (b : Bool) (o : Option ℕ) → (if b then Some 0 else o) ≡ None → b ≡ false
head_fails true o e = absurd (cc)
head_fails false o e = refl

rest_none : (b : Bool) (o : Option ℕ) → (if b then Some 0 else o) ≡ None → o ≡ None
rest_none true o e = absurd (cc)
rest_none false o e = e

cons_none : (b : Bool) (o : Option ℕ) → b ≡ false → o ≡ None → (if b then Some 0 else one_later o) ≡ None
cons_none true o e f = absurd (cc)
cons_none false o e f = ap one_later f

pub index_at : (id : SubchannelId) (setups : List SubchannelSetup) (i : ℕ) → i < length setups → named_index id (take i setups) ≡ None → is_name_at id (slice_get setups i) ≡ true → named_index id setups ≡ Some i
index_at id [] i lt none is = absurd (omega arith)
index_at id (x ∷ xs) zero lt none is = ap (λ (b : Bool). if b then Some 0 else one_later (named_index id xs)) is
index_at id (x ∷ xs) (suc i) lt none is =
    let fails = head_fails (is_name id x) (one_later (named_index id (take i xs))) none in
    let before = later_none (named_index id (take i xs)) (rest_none (is_name id x) (one_later (named_index id (take i xs))) none) in
    let index = index_at id xs i (omega arith) before is in
    (ap (λ (b : Bool). if b then Some 0 else one_later (named_index id xs)) fails ∙ ap one_later index) ∙ ap (λ (n : ℕ). Some n) (add-one i)

more_none : (id : SubchannelId) (setups : List SubchannelSetup) (i : ℕ) → i < length setups → named_index id (take i setups) ≡ None → is_name_at id (slice_get setups i) ≡ false → named_index id (take (suc i) setups) ≡ None
more_none id [] i lt none is = absurd (omega arith)
more_none id (x ∷ xs) zero lt none is = cons_none (is_name id x) None is refl
more_none id (x ∷ xs) (suc i) lt none is =
    cons_none (is_name id x) (named_index id (take (suc i) xs)) (head_fails (is_name id x) (one_later (named_index id (take i xs))) none)
    (more_none id xs i (omega arith) (later_none (named_index id (take i xs)) (rest_none (is_name id x) (one_later (named_index id (take i xs))) none)) is)

pub index_more : (id : SubchannelId) (setups : List SubchannelSetup) (i : ℕ) → i < length setups → named_index id (take i setups) ≡ None → is_name_at id (slice_get setups i) ≡ false → named_index id (take (i + 1) setups) ≡ None
index_more id setups i lt none is = subst (λ n. named_index id (take n setups) ≡ None) (sym (add-one i)) (more_none id setups i lt none is)

-- the first turn of a path's worker among these subchannels
among_suc : (s : State) (chpid : ℕ) (setups : List SubchannelSetup) (i : ℕ) → i < length setups → path_turn_among s chpid (drop i setups) ≡ or_turn (path_turn_at s chpid (slice_get setups i)) (path_turn_among s chpid (drop (suc i) setups))
among_suc s chpid [] i lt = absurd (omega arith)
among_suc s chpid (x ∷ xs) zero lt = refl
among_suc s chpid (x ∷ xs) (suc i) lt = among_suc s chpid xs i (omega arith)

among_at : (s : State) (chpid : ℕ) (setups : List SubchannelSetup) (i : ℕ) → i < length setups → path_turn_among s chpid (drop i setups) ≡ or_turn (path_turn_at s chpid (slice_get setups i)) (path_turn_among s chpid (drop (i + 1) setups))
among_at s chpid setups i lt =
    subst (λ n. path_turn_among s chpid (drop i setups) ≡ or_turn (path_turn_at s chpid (slice_get setups i)) (path_turn_among s chpid (drop n setups))) (sym (add-one i)) (among_suc s chpid setups i lt)

pub among_found : (s : State) (chpid : ℕ) (setups : List SubchannelSetup) (i : ℕ) (e : Event) → i < length setups → path_turn_at s chpid (slice_get setups i) ≡ Some e → path_turn_among s chpid setups ≡ path_turn_among s chpid (drop i setups) → path_turn_among s chpid setups ≡ Some e
among_found s chpid setups i e lt is so = so ∙ among_at s chpid setups i lt ∙ ap (λ (o : Option Event). or_turn o (path_turn_among s chpid (drop (i + 1) setups))) is

pub among_more : (s : State) (chpid : ℕ) (setups : List SubchannelSetup) (i : ℕ) → i < length setups → path_turn_at s chpid (slice_get setups i) ≡ None → path_turn_among s chpid setups ≡ path_turn_among s chpid (drop i setups) → path_turn_among s chpid setups ≡ path_turn_among s chpid (drop (i + 1) setups)
among_more s chpid setups i lt is so = so ∙ among_at s chpid setups i lt ∙ ap (λ (o : Option Event). or_turn o (path_turn_among s chpid (drop (i + 1) setups))) is
