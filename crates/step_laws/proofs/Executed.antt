-- What an instruction that names a subchannel answers and leaves.
use Rattle.std.proofs.Common.{◌≡◌, refl, sym, ◌∙◌, ap, subst, ℕ, zero, suc, Bool, Option, None, Some, Result, Ok, Err, List, [], ◌∷◌, inl, inr}
use Rattle.std.specs.Prelude.{length, slice_get, slice_set, if◌then◌else◌, MatchResult}
use Rattle.orb_block.specs.declared.Orb.{Orb}
use Rattle.schib_block.specs.declared.pmcw.Pmcw as block
use Rattle.storage_keys.specs.declared.StorageFault.{StorageFault}
use Rattle.storage_keys.specs.Storage.{Contents, operand_at, operand_check}
use Rattle.chan_model.specs.declared.answer.ConditionCode.{ConditionCode}
use Rattle.chan_model.specs.declared.answer.ConditionCode.TheVariants as code
use Rattle.chan_model.specs.ConditionCodes.{answer_of_code}
use Rattle.chan_events.specs.declared.event.Instruction.{Instruction}
use Rattle.chan_events.specs.declared.event.Instruction.TheVariants as instruction
use Rattle.chan_events.specs.Replies.{Reply}
use Rattle.chan_events.specs.declared.reply.Reply.TheVariants as reply
use Rattle.subchannel_model.specs.declared.state.Subchannel.{Subchannel}
use Rattle.subchannel_model.specs.declared.state.SubchannelState.{SubchannelState}
use Rattle.subchannel_model.specs.Cancel.{cancelled}
use Rattle.subchannel_model.specs.Clear.{cleared}
use Rattle.subchannel_model.specs.Conditions.{condition_of, left_by}
use Rattle.subchannel_model.specs.Enable.{enabling, enabling_schib}
use Rattle.subchannel_model.specs.Halt.{halted}
use Rattle.subchannel_model.specs.Modify.{msch_code, modified_state}
use Rattle.subchannel_model.specs.Indices.{Found, found_at}
use Rattle.subchannel_model.specs.Resume.{resumed}
use Rattle.subchannel_model.specs.Start.{started}
use Rattle.subchannel_model.specs.Store.{pmcw_of, schib_of}
use Rattle.subchannel_model.specs.Test.{tsch_code, tested_wholly}
use Rattle.machine_model.specs.State.{State}
use Rattle.machine_model.specs.Results.{Outcome, with_state}
use Rattle.machine_model.specs.InstructionSteps.{code_at, function_at, stores_irb, with_irb, with_schib, with_enabling, test_sub, Modifies_by, Enables_with, Executes_at, PerformsStart, performs_test, performs_store, PerformsModify, PerformsEnable}
use Rattle.interruptions.specs.Requests.{WaitingRequests}
use Rattle.step_laws.specs.Codes.{code_by}
use Rattle.step_laws.proofs.Faults.{IsOther}
use Rattle.step_laws.proofs.Indices.{found-there}

-- the effect of an instruction with code 0
abbrev pub IsEffect : Instruction → Subchannel → SubchannelState → Type 0
IsEffect (instruction.Ssch word address) sub x = (orb : Orb) × (x ≡ started sub.state orb)
IsEffect (instruction.Tsch word address) sub x = x ≡ tested_wholly sub.state
IsEffect (instruction.Stsch word address) sub x = x ≡ sub.state
IsEffect (instruction.Msch word address) sub x = (given : block.Pmcw) × (x ≡ modified_state sub given)
IsEffect (instruction.Enable word subclass multipath) sub x = x ≡ modified_state sub (enabling (pmcw_of sub) subclass multipath)
IsEffect (instruction.Rsch word) sub x = x ≡ resumed sub.state
IsEffect (instruction.Hsch word) sub x = x ≡ halted sub.state
IsEffect (instruction.Csch word) sub x = x ≡ cleared sub.state
IsEffect (instruction.Xsch word) sub x = x ≡ cancelled sub.state

-- the reply: TEST with codes 0 and 1, and STORE, show the status word as it was
abbrev pub reply_of : Instruction → ConditionCode → SubchannelState → SubchannelState → Reply
reply_of (instruction.Tsch word address) c before after =
    if stores_irb c then reply.Status (answer_of_code c after.serials) before.scsw else reply.Code (answer_of_code c after.serials)
reply_of (instruction.Stsch word address) c before after = reply.Status (answer_of_code c before.serials) before.scsw
reply_of i c before after = reply.Code (answer_of_code c after.serials)

abbrev pub code_for : Instruction → Subchannel → ConditionCode
code_for i sub = code_by i (condition_of (Some sub.state))

abbrev pub state_left : Instruction → Subchannel → SubchannelState → SubchannelState
state_left i sub effect = left_by (code_for i sub) sub.state effect

pub record IsLeft (s : State) (i : Instruction) (r : Reply) (new : State) (f : Found) : Type 0 where
  pub effect : SubchannelState
  pub is : IsEffect i f.sub effect
  pub replies : r ≡ reply_of i (code_for i f.sub) f.sub.state (state_left i f.sub effect)
  pub subs : new.subs ≡ slice_set s.subs f.index (with_state f.sub (state_left i f.sub effect))

-- where no subchannel is found, nothing is left of any
abbrev pub absent_reply : Instruction → Reply
absent_reply i = reply.Code (answer_of_code (code_by i (condition_of None)) (record { made = 0; cleared = 0 }))

pub record IsAbsent (s : State) (i : Instruction) (r : Reply) (new : State) : Type 0 where
  pub replies : r ≡ absent_reply i
  pub subs : new.subs ≡ s.subs

abbrev pub IsDone : State → Instruction → Option Found → Reply → State → Type 0
IsDone s i None r new = IsAbsent s i r new
IsDone s i (Some f) r new = IsLeft s i r new f

-- what storage is left: TEST performs_store the IRB with codes 0 and 1, STORE the SCHIB; enabling, what MODIFY fetches
abbrev pub IsStorageLeft : State → ℕ → Instruction → Option Found → Contents → Type 0
IsStorageLeft s cpu (instruction.Tsch word address) (Some f) x = x ≡ (with_irb s cpu address f.sub (stores_irb (code_for (instruction.Tsch word address) f.sub))).storage
IsStorageLeft s cpu (instruction.Stsch word address) (Some f) x = x ≡ (with_schib s cpu address (schib_of f.sub)).storage
IsStorageLeft s cpu (instruction.Enable word subclass multipath) (Some f) x = x ≡ (with_schib s cpu 0xF00 (enabling_schib f.sub subclass multipath)).storage
IsStorageLeft s cpu (instruction.Enable word subclass multipath) None x = (image : List ℕ) × (x ≡ (with_enabling s cpu image subclass multipath).storage)
IsStorageLeft s cpu i q x = x ≡ s.storage

-- all that is left is storage, with as many keys, and subchannels
pub record IsDoneBy (s : State) (cpu : ℕ) (i : Instruction) (q : Option Found) (r : Reply) (new : State) : Type 0 where
  pub own : new ≡ record s { storage = new.storage; subs = new.subs }
  pub blocks : length new.storage.keys ≡ length s.storage.keys
  pub storage : IsStorageLeft s cpu i q new.storage
  pub done : IsDone s i q r new

-- setting an element to what it is changes nothing
pub set-same : {A : Type 0} (xs : List A) (k : ℕ) (x : A) → slice_get xs k ≡ Some x → slice_set xs k x ≡ xs
set-same [] k x e = absurd (cc e)
set-same (y ∷ ys) zero x e = let same : y ≡ x = cc e in ap (λ (z : _). z ∷ ys) (sym same)
set-same (y ∷ ys) (suc k) x e = ap (λ (zs : List _). y ∷ zs) (set-same ys k x e)

module _ (s : State) where
  -- it is refused, if at all, for something else than want of memory
  abbrev IsDoneOutcome : ℕ → Instruction → Option Found → Outcome → Type 0
  IsDoneOutcome cpu i q o = MatchResult o (λ t. IsDoneBy s cpu i q t.reply t.state) IsOther

  -- it answers its code, with the serials that it leaves
  abbrev IsPlain : Instruction → Type 0
  IsPlain i = (c : ConditionCode) (before after : SubchannelState) → reply_of i c before after ≡ reply.Code (answer_of_code c after.serials)

  function-done : (cpu : ℕ) (i : Instruction) (q : Option Found) (storage : Contents) (effect : Subchannel → SubchannelState) → IsPlain i →
      ((f : Found) → IsEffect i f.sub (effect f.sub)) → length storage.keys ≡ length s.storage.keys → IsStorageLeft s cpu i q storage →
      IsDoneOutcome cpu i q (function_at (record s { storage = storage }) q (code_by i) effect)
  function-done cpu i None storage effect plain is blocks left = record { own = refl; blocks = blocks; storage = left; done = record { replies = refl; subs = refl } }
  function-done cpu i (Some f) storage effect plain is blocks left = record {
    own = refl;
    blocks = blocks;
    storage = left;
    done = record {
      effect = effect f.sub;
      is = is f;
      replies = sym (plain (code_for i f.sub) f.sub.state (state_left i f.sub (effect f.sub)));
      subs = refl;
    };
  }

  starts-done : (cpu word address : ℕ) (q : Option Found) (r : Result (List ℕ) StorageFault) (o : Outcome) → PerformsStart s q r o →
      IsDoneOutcome cpu (instruction.Ssch word address) q o
  starts-done cpu word address q (Err x) o w = subst (IsDoneOutcome cpu (instruction.Ssch word address) q) (sym w) (λ g. cc g)
  starts-done cpu word address q (Ok image) o w =
      elim w [
        | inl x ↦ subst (IsDoneOutcome cpu (instruction.Ssch word address) q) (sym x.1) (λ g. cc g)
        | inr x ↦ subst (IsDoneOutcome cpu (instruction.Ssch word address) q) (sym x.2)
            (function-done cpu (instruction.Ssch word address) q s.storage (λ sub. started sub.state x.0) (λ c b a. refl) (λ f. (x.0, refl)) refl refl)
      ]

  test-left : (word address : ℕ) (f : Found) (c : ConditionCode) (new : State) → code_for (instruction.Tsch word address) f.sub ≡ c →
      new.subs ≡ slice_set s.subs f.index (with_state f.sub (left_by c f.sub.state (tested_wholly f.sub.state))) →
      IsLeft s (instruction.Tsch word address) (reply_of (instruction.Tsch word address) c f.sub.state (left_by c f.sub.state (tested_wholly f.sub.state))) new f
  test-left word address f c new e same = record {
    effect = tested_wholly f.sub.state;
    is = refl;
    replies =
        ap (λ (x : ConditionCode). reply_of (instruction.Tsch word address) x f.sub.state (left_by x f.sub.state (tested_wholly f.sub.state))) (sym e);
    subs = same ∙ ap (λ (x : ConditionCode). slice_set s.subs f.index (with_state f.sub (left_by x f.sub.state (tested_wholly f.sub.state)))) (sym e);
  }

  test-stored : (cpu word address : ℕ) (f : Found) (c : ConditionCode) → code_for (instruction.Tsch word address) f.sub ≡ c →
      IsStorageLeft s cpu (instruction.Tsch word address) (Some f) (with_irb s cpu address f.sub (stores_irb c)).storage
  test-stored cpu word address f c e = ap (λ (x : ConditionCode). (with_irb s cpu address f.sub (stores_irb x)).storage) (sym e)

  test-done : (cpu word address : ℕ) (f : Found) (c : ConditionCode) → code_for (instruction.Tsch word address) f.sub ≡ c →
      IsDoneOutcome cpu (instruction.Tsch word address) (Some f) (test_sub s cpu address f c)
  test-done cpu word address f code.Zero e =
      record { own = refl; blocks = refl; storage = test-stored cpu word address f code.Zero e; done = test-left word address f code.Zero _ e refl }
  test-done cpu word address f c e =
      record { own = refl; blocks = refl; storage = test-stored cpu word address f c e; done = test-left word address f c _ e refl }

  tests-done : (cpu word address : ℕ) (q : Option Found) (r : Result (Unit {0}) StorageFault) → IsDoneOutcome cpu (instruction.Tsch word address) q (performs_test s cpu address q r)
  tests-done cpu word address q (Err x) = λ g. cc g
  tests-done cpu word address None (Ok u) = record { own = refl; blocks = refl; storage = refl; done = record { replies = refl; subs = refl } }
  tests-done cpu word address (Some f) (Ok u) = test-done cpu word address f (code_at tsch_code f.sub) refl

  stores-done : (cpu word address : ℕ) (p : Option ℕ) (q : Option Found) (r : Result (Unit {0}) StorageFault) → found_at s.subs p ≡ q →
      IsDoneOutcome cpu (instruction.Stsch word address) q (performs_store s cpu address q r)
  stores-done cpu word address p q (Err x) e = λ g. cc g
  stores-done cpu word address p None (Ok u) e = record { own = refl; blocks = refl; storage = refl; done = record { replies = refl; subs = refl } }
  stores-done cpu word address p (Some f) (Ok u) e = record {
    own = refl;
    blocks = refl;
    storage = refl;
    done = record { effect = f.sub.state; is = refl; replies = refl; subs = sym (set-same s.subs f.index f.sub (found-there s.subs p f e).1) };
  }

  modified-done : (cpu : ℕ) (i : Instruction) (q : Option Found) (storage : Contents) (image : List ℕ) (o : Outcome) →
      ((given : block.Pmcw) → IsDoneOutcome cpu i q (function_at (record s { storage = storage }) q msch_code (λ sub. modified_state sub given))) →
      Modifies_by (record s { storage = storage }) q image o → IsDoneOutcome cpu i q o
  modified-done cpu i q storage image o k w =
      elim w.2 [
        | inl x ↦ subst (IsDoneOutcome cpu i q) (sym x.1) (λ g. cc g)
        | inr x ↦ subst (IsDoneOutcome cpu i q) (sym x.1) (k w.0)
      ]

  modifies-done : (cpu word address : ℕ) (q : Option Found) (r : Result (List ℕ) StorageFault) (o : Outcome) → PerformsModify s q r o →
      IsDoneOutcome cpu (instruction.Msch word address) q o
  modifies-done cpu word address q (Err x) o w = subst (IsDoneOutcome cpu (instruction.Msch word address) q) (sym w) (λ g. cc g)
  modifies-done cpu word address q (Ok image) o w =
      modified-done cpu (instruction.Msch word address) q s.storage image o
      (λ given. function-done cpu (instruction.Msch word address) q s.storage (λ sub. modified_state sub given) (λ c b a. refl) (λ f. (given, refl)) refl refl) w

  enabled-done : (cpu word subclass : ℕ) (multipath : Bool) (q : Option Found) (image : List ℕ) (o : Outcome) →
      Enables_with s cpu q subclass multipath image o → IsDoneOutcome cpu (instruction.Enable word subclass multipath) q o
  enabled-done cpu word subclass multipath None image o w =
      modified-done cpu (instruction.Enable word subclass multipath) None (with_enabling s cpu image subclass multipath).storage image o
      (λ given. record { own = refl; blocks = refl; storage = (image, refl); done = record { replies = refl; subs = refl } }) w
  enabled-done cpu word subclass multipath (Some f) image o w =
      subst (IsDoneOutcome cpu (instruction.Enable word subclass multipath) (Some f)) (sym w)
      (function-done cpu (instruction.Enable word subclass multipath) (Some f) (with_schib s cpu 0xF00 (enabling_schib f.sub subclass multipath)).storage
      (λ sub. modified_state sub (enabling (pmcw_of sub) subclass multipath)) (λ c b a. refl) (λ f. refl) refl refl)

  enables-done : (cpu word subclass : ℕ) (multipath : Bool) (q : Option Found) (r : Result (List ℕ) StorageFault) (o : Outcome) →
      PerformsEnable s cpu q subclass multipath r o → IsDoneOutcome cpu (instruction.Enable word subclass multipath) q o
  enables-done cpu word subclass multipath q (Err x) o w = subst (IsDoneOutcome cpu (instruction.Enable word subclass multipath) q) (sym w) (λ g. cc g)
  enables-done cpu word subclass multipath q (Ok image) o w = enabled-done cpu word subclass multipath q image o w

  -- each instruction
  pub executes-done : (cpu : ℕ) (i : Instruction) (p : Option ℕ) (q : Option Found) (o : Outcome) → found_at s.subs p ≡ q → Executes_at s cpu i q o → IsDoneOutcome cpu i q o
  executes-done cpu (instruction.Ssch word address) p q o e w = starts-done cpu word address q (operand_at s.storage cpu address 12 4) o w
  executes-done cpu (instruction.Tsch word address) p q o e w =
      subst (IsDoneOutcome cpu (instruction.Tsch word address) q) (sym w) (tests-done cpu word address q (operand_check s.storage cpu address 64 4))
  executes-done cpu (instruction.Stsch word address) p q o e w =
      subst (IsDoneOutcome cpu (instruction.Stsch word address) q) (sym w) (stores-done cpu word address p q (operand_check s.storage cpu address 52 4) e)
  executes-done cpu (instruction.Msch word address) p q o e w = modifies-done cpu word address q (operand_at s.storage cpu address 52 4) o w
  executes-done cpu (instruction.Enable word subclass multipath) p q o e w =
      enables-done cpu word subclass multipath q (operand_at s.storage cpu 0xF00 52 4) o w
  executes-done cpu (instruction.Rsch word) p q o e w =
      subst (IsDoneOutcome cpu (instruction.Rsch word) q) (sym w)
      (function-done cpu (instruction.Rsch word) q s.storage (λ sub. resumed sub.state) (λ c b a. refl) (λ f. refl) refl refl)
  executes-done cpu (instruction.Hsch word) p q o e w =
      subst (IsDoneOutcome cpu (instruction.Hsch word) q) (sym w)
      (function-done cpu (instruction.Hsch word) q s.storage (λ sub. halted sub.state) (λ c b a. refl) (λ f. refl) refl refl)
  executes-done cpu (instruction.Csch word) p q o e w =
      subst (IsDoneOutcome cpu (instruction.Csch word) q) (sym w)
      (function-done cpu (instruction.Csch word) q s.storage (λ sub. cleared sub.state) (λ c b a. refl) (λ f. refl) refl refl)
  executes-done cpu (instruction.Xsch word) p q o e w =
      subst (IsDoneOutcome cpu (instruction.Xsch word) q) (sym w)
      (function-done cpu (instruction.Xsch word) q s.storage (λ sub. cancelled sub.state) (λ c b a. refl) (λ f. refl) refl refl)

  -- whatever requests are left
  pub done-settled : (i : Instruction) (q : Option Found) (r : Reply) (new : State) (waiting : WaitingRequests) → IsDone s i q r new →
      IsDone s i q r (record new { requests = waiting })
  done-settled i None r new waiting k = record { replies = k.replies; subs = k.subs }
  done-settled i (Some f) r new waiting k = record { effect = k.effect; is = k.is; replies = k.replies; subs = k.subs }
