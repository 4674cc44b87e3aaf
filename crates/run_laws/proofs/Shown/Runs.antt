-- An entry of a run between two STORE SUBCHANNEL instructions: the state before it, and its step.
use Rattle.std.proofs.Common.{◌≡◌, refl, sym, ◌∙◌, ap, subst, ℕ, suc, ◌+◌, arith, ◌==◌, ◌&&◌, Bool, true, false, Option, None, Some, List, [], ◌∷◌, ◌++◌, map}
use Rattle.std.specs.Prelude.{slice_get, slice_set, if◌then◌else◌}
use Rattle.std.proofs.lemmas.Option.{same_Some}
use Rattle.std.proofs.lemmas.List.{append_assoc, append-nil}
use Rattle.chan_events.specs.Events.{Event}
use Rattle.chan_events.specs.declared.event.Event.TheVariants as event
use Rattle.chan_events.specs.declared.event.Instruction.{Instruction}
use Rattle.chan_events.specs.declared.event.Instruction.TheVariants as instruction
use Rattle.chan_events.specs.declared.reply.Entry.{Entry}
use Rattle.chan_events.specs.Replies.{Reply}
use Rattle.channel_config.specs.declared.names.SubchannelId.{SubchannelId}
use Rattle.channel_config.specs.declared.parts.SubchannelSetup.{SubchannelSetup}
use Rattle.channel_config.specs.Setup.{Setup, set_count}
use Rattle.run_laws.specs.StateClaims.{is_id}
use Rattle.machine_model.specs.State.{State, opening_of}
use Rattle.machine_model.specs.Steps.{Run, Opened, Stepped, Step}
use Rattle.subchannel_model.specs.declared.state.Subchannel.{Subchannel}
use Rattle.subchannel_model.specs.declared.state.SubchannelState.{SubchannelState}
use Rattle.subchannel_model.specs.Indices.{Found, found_at, first_index, is_named, index_in, one_later}
use Rattle.step_laws.proofs.Indices.{map-get, found-there}
use Rattle.step_laws.specs.Walks.{AreWalks}
use Rattle.subchannel_model.specs.Opening.{opening_subchannel, opened}
use Rattle.run_laws.specs.Shown.{StoredStatus, names, stored_in, stored_by, Between}
use Rattle.step_laws.proofs.Executed.{IsDone, set-same}
use Rattle.run_laws.proofs.Shown.Executed.{IsExecuted, executed}
use Rattle.run_laws.proofs.Machine.Names.{same-id}
use Rattle.run_laws.proofs.Shown.Turned.{Turned, step-turns}

-- what is shown of a subchannel
abbrev pub status_of : SubchannelState → StoredStatus
status_of s = record { scsw = s.scsw; serials = s.serials }

-- what the laws below say of each step
pub record AreLaws : Type 0 where
  pub walks : AreWalks
  pub sets : (s : State) (e : _) (r : Reply) (new : State) → Step s e r new → new.sets ≡ s.sets
  pub setups : (s : State) (e : _) (r : Reply) (new : State) → Step s e r new → map (λ sub. sub.setup) new.subs ≡ map (λ sub. sub.setup) s.subs

-- the steps from a state, the first entry first
pub data Leads : State → List Entry → State → Type 0 where
  Here : (s : State) → Leads s [] s
  Then : (s mid new : State) (x : Entry) (h : List Entry) → Step s x.event x.reply mid → Leads mid h new → Leads s (x ∷ h) new

leads-more : (s mid new : State) (h : List Entry) (x : Entry) → Leads s h mid → Step mid x.event x.reply new → Leads s (h ++ x ∷ []) new
leads-more _ _ new _ x (Here s) step = Then s new new x [] step (Here new)
leads-more _ _ new _ x (Then s mid last y h step rest) more = Then s mid new y (h ++ x ∷ []) step (leads-more mid last new h x rest more)

pub run-leads : (o : State) (h : List Entry) (s : State) → Run o h s → Leads o h s
run-leads o _ _ Opened = Here o
run-leads o _ _ (Stepped h old e r new run step) = leads-more o old new h (record { event = e; reply = r }) (run-leads o h old run) step

pub onward : (o s new : State) (h later : List Entry) → Run o h s → Leads s later new → Run o (h ++ later) new
onward o _ _ h _ run (Here s) = subst (λ (x : List Entry). Run o x s) (sym (append-nil h)) run
onward o _ _ h _ run (Then s mid new x later step rest) =
    subst (λ (y : List Entry). Run o y new) (append_assoc h (x ∷ []) later)
    (onward o mid new (h ++ x ∷ []) later (Stepped h s x.event x.reply mid run step) rest)

pub uncons : (s new : State) (x : Entry) (h : List Entry) → Leads s (x ∷ h) new → (mid : State) × Step s x.event x.reply mid × Leads mid h new
uncons _ _ _ _ (Then s mid new x h step rest) = (mid, step, rest)

pub leads-split : (s new : State) (before after : List Entry) → Leads s (before ++ after) new → (mid : State) × Leads s before mid × Leads mid after new
leads-split s new [] after k = (s, Here s, k)
leads-split s new (x ∷ before) after k =
    let one = uncons s new x (before ++ after) k in
    let later = leads-split one.0 new before after one.2 in
    (later.0, Then s one.0 later.0 x before one.1 later.1, later.2)

-- an entry with the states before and after it
pub record IsPassed (o : State) (before : List Entry) (x : Entry) (after : List Entry) (new : State) : Type 0 where
  pub was : State
  pub is : State
  pub run : Run o before was
  pub step : Step was x.event x.reply is
  pub rest : Leads is after new

pub passed : (o new : State) (before after : List Entry) (x : Entry) → Run o (before ++ (x ∷ after)) new → IsPassed o before x after new
passed o new before after x run =
    let split = leads-split o new before (x ∷ after) (run-leads o (before ++ (x ∷ after)) new run) in
    let one = uncons split.0 new x after split.2 in
    record { was = split.0; is = one.0; run = onward o o split.0 [] before Opened split.1; step = one.1; rest = one.2 }

abbrev pub passed-next : (o new : State) (before after : List Entry) (x y : Entry) → IsPassed o before x (y ∷ after) new → IsPassed o (before ++ x ∷ []) y after new
passed-next o new before after x y k =
    let one = uncons k.is new y after k.rest in
    record { was = k.is; is = one.0; run = Stepped before k.was x.event x.reply k.is k.run k.step; step = one.1; rest = one.2 }

-- the indices of subchannels stay
pub index-by : (id : SubchannelId) (subs : List Subchannel) →
    index_in id subs ≡ first_index (λ (x : SubchannelSetup). (x.id.set == id.set) && (x.id.number == id.number)) (map (λ sub. sub.setup) subs)
index-by id [] = refl
index-by id (x ∷ xs) = ap (λ (p : Option ℕ). if is_named id x then Some 0 else one_later p) (index-by id xs)

pub index-stays : (id : SubchannelId) (subs news : List Subchannel) → map (λ sub. sub.setup) news ≡ map (λ sub. sub.setup) subs → index_in id news ≡ index_in id subs
index-stays id subs news e =
    index-by id news
    ∙ ap (λ (xs : List SubchannelSetup). first_index (λ (x : SubchannelSetup). (x.id.set == id.set) && (x.id.number == id.number)) xs) e
    ∙ sym (index-by id subs)

pub sets-stay : AreLaws → (setup : Setup) (h : List Entry) (s : State) → Run (opening_of setup) h s → s.sets ≡ set_count setup
sets-stay laws setup _ _ Opened = refl
sets-stay laws setup _ _ (Stepped h old e r new run step) = laws.sets old e r new step ∙ sets-stay laws setup h old run

-- what is so at the opening, and is kept by whatever befalls the subchannel, is so after each run
pub placed : (test : Subchannel → Bool) (subs : List Subchannel) (index : ℕ) → first_index test subs ≡ Some index → (x : Subchannel) × (slice_get subs index ≡ Some x)
placed test [] index e = absurd (cc e)
placed test (x ∷ xs) index e = by (test x) (first_index test xs) (λ i h. placed test xs i h) e
  where
    by : (b : Bool) (o : Option ℕ) → ((i : ℕ) → o ≡ Some i → (y : Subchannel) × (slice_get xs i ≡ Some y)) → (if b then Some 0 else one_later o) ≡ Some index →
        (y : Subchannel) × (slice_get (x ∷ xs) index ≡ Some y)
    by true o later f = (x, ap (λ (n : ℕ). slice_get (x ∷ xs) n) (sym (same_Some 0 index f)))
    by false None later f = absurd (cc f)
    by false (Some i) rest f =
        let later : (y : Subchannel) × (slice_get xs i ≡ Some y) = rest i refl in
        let is : suc i ≡ index = let n : i + 1 ≡ index = same_Some (i + 1) index f in omega (arith, n) in
        (later.0, ap (λ (n : ℕ). slice_get (x ∷ xs) n) (sym is) ∙ later.1)

pub run-keeps : AreLaws → (setup : Setup) (id : SubchannelId) (P : List Entry → SubchannelState → Type 0) → P [] opening_subchannel →
    ((h : List Entry) (e : Event) (r : Reply) (sub : Subchannel) (after : SubchannelState) → P h sub.state → Turned (set_count setup) id e r sub after →
    P (h ++ record { event = e; reply = r } ∷ []) after) →
    (h : List Entry) (s : State) → Run (opening_of setup) h s → (index : ℕ) (sub : Subchannel) → index_in id s.subs ≡ Some index → slice_get s.subs index ≡ Some sub → P h sub.state
run-keeps laws setup id P opens keeps _ _ Opened index sub named there =
    let p : (x : SubchannelSetup) × (slice_get setup.subchannels index ≡ Some x) × (opened x ≡ sub) = map-get opened setup.subchannels index sub there in
    subst (λ (y : Subchannel). P [] y.state) p.2 opens
run-keeps laws setup id P opens keeps _ _ (Stepped h old e r new run step) index sub named there =
    let at : index_in id old.subs ≡ Some index = sym (index-stays id old.subs new.subs (laws.setups old e r new step)) ∙ named in
    let was : (x : Subchannel) × (slice_get old.subs index ≡ Some x) = placed (is_named id) old.subs index at in
    let turned : Turned old.sets id e r was.0 sub.state =
    step-turns old id index was.0 at was.1 e r new step sub there in
    keeps h e r was.0 sub.state (run-keeps laws setup id P opens keeps h old run index was.0 at was.1)
    (subst (λ (n : ℕ). Turned n id e r was.0 sub.state) (sets-stay laws setup h old run) turned)

-- what STORE SUBCHANNEL showed is so of the subchannel at its place
pub record IsStored (id : SubchannelId) (s new : State) (shown : StoredStatus) : Type 0 where
  pub index : ℕ
  pub sub : Subchannel
  pub named : index_in id s.subs ≡ Some index
  pub there : slice_get s.subs index ≡ Some sub
  pub shows : shown ≡ status_of sub.state
  pub subs : new.subs ≡ s.subs

module _ (id : SubchannelId) (s new : State) (shown : StoredStatus) where
  named-stored : (cpu word address : ℕ) (r : Reply) (q : Option Found) → found_at s.subs (index_in id s.subs) ≡ q → IsDone s (instruction.Stsch word address) q r new →
      stored_in r ≡ Some shown → IsStored id s new shown
  named-stored cpu word address r None found done e = absurd (cc (sym (ap stored_in done.replies) ∙ e))
  named-stored cpu word address r (Some f) found done e =
      let there : (index_in id s.subs ≡ Some f.index) × (slice_get s.subs f.index ≡ Some f.sub) = found-there s.subs (index_in id s.subs) f found in
      record {
        index = f.index;
        sub = f.sub;
        named = there.0;
        there = there.1;
        shows = same_Some shown (status_of f.sub.state) (sym e ∙ ap stored_in done.replies);
        subs = done.subs
            ∙ ap (λ (x : SubchannelState). slice_set s.subs f.index (record f.sub { state = x })) done.is
            ∙ set-same s.subs f.index f.sub there.1;
      }

  if-stored : (cpu word address : ℕ) (r : Reply) (b : Bool) → names s.sets id word ≡ b → IsExecuted s (instruction.Stsch word address) r new →
      (if b then stored_in r else None) ≡ Some shown → IsStored id s new shown
  if-stored cpu word address r false n k e = absurd (cc e)
  if-stored cpu word address r true n k e =
      let same : k.id ≡ id = same-id k.id id (subst (λ (x : Option SubchannelId). is_id x id ≡ true) k.named n) in
      named-stored cpu word address r (found_at s.subs (index_in id s.subs)) refl
      (subst (λ (x : SubchannelId). IsDone s (instruction.Stsch word address) (found_at s.subs (index_in x s.subs)) r new) same k.done) e

  instruction-stored : (cpu : ℕ) (i : Instruction) (r : Reply) → Step s (event.Execute cpu i) r new → stored_by s.sets id (event.Execute cpu i) r ≡ Some shown →
      IsStored id s new shown
  instruction-stored cpu (instruction.Stsch word address) r step e =
      if-stored cpu word address r (names s.sets id word) refl (executed s cpu (instruction.Stsch word address) r new step) e
  instruction-stored cpu i r step e = absurd (cc e)

  pub step-stored : (e : Event) (r : Reply) → Step s e r new → stored_by s.sets id e r ≡ Some shown → IsStored id s new shown
  step-stored (event.Execute cpu i) r step e = instruction-stored cpu i r step e
  step-stored v r step e = absurd (cc e)

-- what is so of each step of a run, of the subchannel of a name, is so between what is shown of it
abbrev pub IsOfSteps : (setup : Setup) → SubchannelId → (List Entry → StoredStatus → Event → Reply → StoredStatus → Type 0) → Type 0
IsOfSteps setup id Claim = (h : List Entry) (s : State) (e : Event) (r : Reply) (index : ℕ) (sub : Subchannel) (after : SubchannelState) → Run (opening_of setup) h s →
    index_in id s.subs ≡ Some index → slice_get s.subs index ≡ Some sub → Turned (set_count setup) id e r sub after →
    Claim h (status_of sub.state) e r (status_of after)

shown-so : (Claim : List Entry → StoredStatus → Event → Reply → StoredStatus → Type 0) (h : List Entry) (old was new is : StoredStatus) (e : Event) (r : Reply) →
    old ≡ was → new ≡ is → Claim h was e r is → Claim h old e r new
shown-so Claim h old was new is e r a b k =
    subst (λ (x : StoredStatus). Claim h x e r new) (sym a) (subst (λ (x : StoredStatus). Claim h was e r x) (sym b) k)

pub run-between : AreLaws → (setup : Setup) (id : SubchannelId) (Claim : List Entry → StoredStatus → Event → Reply → StoredStatus → Type 0) → IsOfSteps setup id Claim →
    (h : List Entry) (s : State) → Run (opening_of setup) h s → Between (set_count setup) id h Claim
run-between laws setup id Claim is h s run before after a b c old new eq shows-a shows-c =
    let o : State = opening_of setup in
    let first : IsPassed o before a (b ∷ (c ∷ after)) s = passed o s before (b ∷ (c ∷ after)) a (subst (λ (x : List Entry). Run o x s) eq run) in
    let second : IsPassed o (before ++ a ∷ []) b (c ∷ after) s = passed-next o s before (c ∷ after) a b first in
    let third : IsPassed o ((before ++ a ∷ []) ++ b ∷ []) c after s = passed-next o s (before ++ a ∷ []) after b c second in
    let was : IsStored id first.was first.is old =
    step-stored id first.was first.is old a.event a.reply first.step
    (subst (λ (n : ℕ). stored_by n id a.event a.reply ≡ Some old) (sym (sets-stay laws setup before first.was first.run)) shows-a) in
    let left : IsStored id third.was third.is new =
    step-stored id third.was third.is new c.event c.reply third.step
    (subst (λ (n : ℕ). stored_by n id c.event c.reply ≡ Some new) (sym (sets-stay laws setup _ third.was third.run)) shows-c) in
    let named : index_in id second.was.subs ≡ Some was.index = ap (λ (xs : List Subchannel). index_in id xs) was.subs ∙ was.named in
    let there : slice_get second.was.subs was.index ≡ Some was.sub = ap (λ (xs : List Subchannel). slice_get xs was.index) was.subs ∙ was.there in
    let same : left.index ≡ was.index =
    same_Some left.index was.index
    (sym left.named ∙ index-stays id second.was.subs second.is.subs (laws.setups second.was b.event b.reply second.is second.step) ∙ named) in
    let after-there : slice_get second.is.subs was.index ≡ Some left.sub = ap (λ (n : ℕ). slice_get second.is.subs n) (sym same) ∙ left.there in
    let turned : Turned second.was.sets id b.event b.reply was.sub left.sub.state =
    step-turns second.was id was.index was.sub named there b.event b.reply second.is second.step left.sub after-there in
    shown-so Claim (before ++ a ∷ []) old (status_of was.sub.state) new (status_of left.sub.state) b.event b.reply was.shows left.shows
    (is (before ++ a ∷ []) second.was b.event b.reply was.index was.sub left.sub.state second.run named there
    (subst (λ (n : ℕ). Turned n id b.event b.reply was.sub left.sub.state) (sets-stay laws setup _ second.was second.run) turned))

-- what is so of each subchannel after each run is so of what is shown
pub run-shown : AreLaws → (setup : Setup) (id : SubchannelId) (P : StoredStatus → Type 0) →
    ((h : List Entry) (s : State) (index : ℕ) (sub : Subchannel) → Run (opening_of setup) h s → slice_get s.subs index ≡ Some sub → P (status_of sub.state)) →
    (h : List Entry) (s : State) → Run (opening_of setup) h s → (before after : List Entry) (a : Entry) (shown : StoredStatus) → h ≡ before ++ (a ∷ after) →
    stored_by (set_count setup) id a.event a.reply ≡ Some shown → P shown
run-shown laws setup id P is h s run before after a shown eq shows =
    let o : State = opening_of setup in
    let k : IsPassed o before a after s = passed o s before after a (subst (λ (x : List Entry). Run o x s) eq run) in
    let was : IsStored id k.was k.is shown =
    step-stored id k.was k.is shown a.event a.reply k.step
    (subst (λ (n : ℕ). stored_by n id a.event a.reply ≡ Some shown) (sym (sets-stay laws setup before k.was k.run)) shows) in
    subst P (sym was.shows) (is before k.was was.index was.sub k.run was.there)
