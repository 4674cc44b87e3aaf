-- Where word 2 of the block of a subchannel is shown, it has the masks of that subchannel.
use Rattle.std.proofs.Common.{◌≡◌, refl, sym, ◌∙◌, ap, subst, ℕ, zero, suc, ◌+◌, Bool, true, false, Option, None, Some, Ok, Err, List, [], ◌∷◌}
use Rattle.std.specs.Prelude.{slice_get, slice_set, slice_index, if◌then◌else◌}
use Rattle.zbits.specs.Bits.{field_of}
use Rattle.zbits.specs.Layout.{image_of}
use Rattle.schib_block.specs.SchibTable.{schib_tables}
use Rattle.storage_keys.specs.declared.StorageFault.TheVariants.{Addressing}
use Rattle.storage_keys.specs.Storage.{Contents, is_inside, operand_stored, shown}
use Rattle.chan_model.specs.PathSets.{mask_of_path, mask_of_paths}
use Rattle.chan_events.specs.Events.{Event}
use Rattle.chan_events.specs.declared.event.Event.TheVariants as event
use Rattle.chan_events.specs.declared.event.Instruction.TheVariants as instruction
use Rattle.chan_events.specs.declared.reply.Entry.{Entry}
use Rattle.chan_events.specs.Replies.{Reply}
use Rattle.chan_events.specs.declared.reply.Reply.TheVariants as reply
use Rattle.channel_config.specs.declared.names.SubchannelId.{SubchannelId}
use Rattle.subchannel_model.specs.declared.state.Subchannel.{Subchannel}
use Rattle.subchannel_model.specs.Indices.{Found, found_at, index_in}
use Rattle.subchannel_model.specs.Store.{schib_of}
use Rattle.run_laws.specs.StateClaims.{is_id}
use Rattle.machine_model.specs.State.{State}
use Rattle.machine_model.specs.Steps.{Step}
use Rattle.run_laws.specs.Paths.{IsWordShown}
use Rattle.run_laws.specs.Shown.{names, is_accepted}
use Rattle.step_laws.proofs.Indices.{found-there}
use Rattle.run_laws.proofs.Machine.Names.{same-id}
use Rattle.run_laws.proofs.Shown.Words.{shows-masks}
use Rattle.chan_events.specs.declared.event.Instruction.{Instruction}
use Rattle.interruptions.specs.Requests.{WaitingRequests}
use Rattle.subchannel_model.specs.declared.state.SubchannelState.{SubchannelState}
use Rattle.machine_model.specs.Results.{with_state}
use Rattle.step_laws.proofs.Executed.{IsDone, IsStorageLeft, state_left, set-same, done-settled}
use Rattle.step_laws.proofs.Results as turn
use Rattle.step_laws.proofs.Results.{ResultOf, HasResult, step-turn}

-- a prefix is set to zero
zero-set : (xs : List ℕ) (k : ℕ) → slice_index (slice_set xs k 0) k ≡ 0
zero-set [] k = refl
zero-set (x ∷ xs) zero = refl
zero-set (x ∷ xs) (suc k) = zero-set xs k

record IsPrefixed (cpu : ℕ) (s new : State) : Type 0 where
  subs : new.subs ≡ s.subs
  zeroed : slice_index new.storage.prefixes cpu ≡ 0

turn-prefixed : (s : State) (cpu : ℕ) (r : Reply) (new : State) (waiting : WaitingRequests) → ResultOf s (event.SetPrefix cpu 0) r new → IsPrefixed cpu s (record new { requests = waiting })
turn-prefixed s cpu _ _ waiting (turn.SetsPrefix _ _ storage e) = by (is_inside s.storage 0 8192) e
  where
    by : (inside : Bool) → (if inside then Ok (record s.storage { prefixes = slice_set s.storage.prefixes cpu 0 }) else Err Addressing) ≡ Ok storage →
        IsPrefixed cpu s (record s { storage = storage; requests = waiting })
    by true k =
        let same : record s.storage { prefixes = slice_set s.storage.prefixes cpu 0 } ≡ storage = cc k in
        record { subs = refl; zeroed = ap (λ (x : Contents). slice_index x.prefixes cpu) (sym same) ∙ zero-set s.storage.prefixes cpu }
    by false k = absurd (cc k)

step-prefixed : (s : State) (cpu : ℕ) (r : Reply) (new : State) → Step s (event.SetPrefix cpu 0) r new → IsPrefixed cpu s new
step-prefixed s cpu r new step =
    let is : HasResult s (event.SetPrefix cpu 0) r new = step-turn s (event.SetPrefix cpu 0) r new step in
    subst (IsPrefixed cpu s) (sym is.settles) (turn-prefixed s cpu r is.left _ is.turn)

-- STORE SUBCHANNEL stores the block of its subchannel
pub record IsBlockStored (id : SubchannelId) (cpu address : ℕ) (s new : State) : Type 0 where
  pub index : ℕ
  pub sub : Subchannel
  pub named : index_in id s.subs ≡ Some index
  pub there : slice_get s.subs index ≡ Some sub
  pub subs : new.subs ≡ s.subs
  pub stored : new.storage ≡ operand_stored s.storage cpu address (image_of (schib_tables (schib_of sub)))

module _ (s : State) (cpu word address : ℕ) where
  abbrev i : Instruction
  i = instruction.Stsch word address

  done-stored : (id : SubchannelId) (q : Option Found) (r : Reply) (new : State) → found_at s.subs (index_in id s.subs) ≡ q → IsStorageLeft s cpu i q new.storage → IsDone s i q r new →
      is_accepted r ≡ true → IsBlockStored id cpu address s new
  done-stored id None r new found left k ok = absurd (cc (sym ok ∙ ap is_accepted k.replies))
  done-stored id (Some f) r new found left k ok =
      let there = found-there s.subs (index_in id s.subs) f found in
      record {
        index = f.index;
        sub = f.sub;
        named = there.0;
        there = there.1;
        subs = k.subs ∙ ap (λ (x : SubchannelState). slice_set s.subs f.index (with_state f.sub (state_left i f.sub x))) k.is ∙ set-same s.subs f.index f.sub there.1;
        stored = left;
      }

  turn-stored : (r : Reply) (new : State) (waiting : WaitingRequests) (id : SubchannelId) → ResultOf s (event.Execute cpu i) r new → names s.sets id word ≡ true → is_accepted r ≡ true →
      IsBlockStored id cpu address s (record new { requests = waiting })
  turn-stored _ _ waiting id (turn.Executes _ _ named q r storage subs n e blocks left done) mine ok =
      let same : named ≡ id = same-id named id (subst (λ (x : Option SubchannelId). is_id x id ≡ true) n mine) in
      subst (λ (y : SubchannelId). IsBlockStored y cpu address s (record s { storage = storage; subs = subs; requests = waiting })) same
      (done-stored named q r (record s { storage = storage; subs = subs; requests = waiting }) e left (done-settled s i q r (record s { storage = storage; subs = subs }) waiting done) ok)

  step-stored : (r : Reply) (new : State) (id : SubchannelId) → Step s (event.Execute cpu i) r new → names s.sets id word ≡ true → is_accepted r ≡ true → IsBlockStored id cpu address s new
  step-stored r new id step mine ok =
      let is : HasResult s (event.Execute cpu i) r new = step-turn s (event.Execute cpu i) r new step in
      subst (IsBlockStored id cpu address s) (sym is.settles) (turn-stored r is.left _ id is.turn mine ok)

-- bytes are shown
record IsShowing (address : ℕ) (bytes : List ℕ) (s new : State) : Type 0 where
  subs : new.subs ≡ s.subs
  found : shown s.storage address 4 ≡ Ok bytes

turn-showing : (s : State) (address : ℕ) (bytes : List ℕ) (r : Reply) (new : State) (waiting : WaitingRequests) → ResultOf s (event.Show address 4) r new → r ≡ reply.Shown bytes →
    IsShowing address bytes s (record new { requests = waiting })
turn-showing s address bytes _ _ waiting (turn.Shows _ _ found e) is = let same : found ≡ bytes = cc is in record { subs = refl; found = e ∙ ap (λ (xs : List ℕ). Ok xs) same }

step-showing : (s : State) (address : ℕ) (bytes : List ℕ) (r : Reply) (new : State) → Step s (event.Show address 4) r new → r ≡ reply.Shown bytes → IsShowing address bytes s new
step-showing s address bytes r new step shows =
    let is : HasResult s (event.Show address 4) r new = step-turn s (event.Show address 4) r new step in
    subst (IsShowing address bytes s) (sym is.settles) (turn-showing s address bytes r is.left _ is.turn shows)

-- the three entries
pub record HasMasks (id : SubchannelId) (s new : State) (word : ℕ) : Type 0 where
  pub index : ℕ
  pub sub : Subchannel
  pub named : index_in id s.subs ≡ Some index
  pub there : slice_get s.subs index ≡ Some sub
  pub subs : new.subs ≡ s.subs
  pub logical : field_of word 0 7 ≡ mask_of_paths sub.state.pmcw.logical
  pub last_used : field_of word 16 23 ≡ mask_of_path sub.state.pmcw.last_used

pub steps-shown : (sets : ℕ) (id : SubchannelId) (a b c : Entry) (word : ℕ) (s one two new : State) → one.sets ≡ sets → IsWordShown sets id a b c word →
    Step s a.event a.reply one → Step one b.event b.reply two → Step two c.event c.reply new → HasMasks id s new word
steps-shown sets id a b c word s one two new one-sets k first second third =
    let prefixed : IsPrefixed k.cpu s one = step-prefixed s k.cpu a.reply one (subst (λ (e : Event). Step s e a.reply one) k.prefix first) in
    let stored : IsBlockStored id k.cpu k.address one two =
    step-stored one k.cpu k.named k.address b.reply two id (subst (λ (e : Event). Step one e b.reply two) k.stores second)
    (subst (λ (n : ℕ). names n id k.named ≡ true) (sym one-sets) k.names) k.accepted in
    let showing : IsShowing (k.address + 8) k.bytes two new =
    step-showing two (k.address + 8) k.bytes c.reply new (subst (λ (e : Event). Step two e c.reply new) k.shows third) k.shown in
    let masks = shows-masks one.storage k.cpu k.address word stored.sub k.bytes prefixed.zeroed
    (subst (λ (x : Contents). shown x (k.address + 8) 4 ≡ Ok k.bytes) stored.stored showing.found) k.is in
    record {
      index = stored.index;
      sub = stored.sub;
      named = ap (λ (xs : List Subchannel). index_in id xs) (sym prefixed.subs) ∙ stored.named;
      there = ap (λ (xs : List Subchannel). slice_get xs stored.index) (sym prefixed.subs) ∙ stored.there;
      subs = showing.subs ∙ stored.subs ∙ prefixed.subs;
      logical = masks.0;
      last_used = masks.1;
    }
