-- After each run the path to which an allegiance is seen to be dedicated is that of its subchannel: each entry is right.
use Rattle.std.proofs.Common.{◌≡◌, refl, sym, ◌∙◌, ap, subst, ℕ, Bool, true, false, Option, None, Some, Result, List, length, map, nat_lt, slice_get, slice_set, IfOk, if◌then◌else◌, inl, inr}
use Rattle.std.specs.Prelude.{◌⊎◌}
use Rattle.chan_events.specs.Events.{Event}
use Rattle.chan_events.specs.declared.event.Event.TheVariants as event
use Rattle.chan_events.specs.declared.event.Instruction.TheVariants as instruction
use Rattle.chan_events.specs.declared.reply.Entry.{Entry}
use Rattle.chan_events.specs.Replies.{Reply}
use Rattle.chan_events.specs.declared.reply.Reply.TheVariants as reply
use Rattle.chan_model.specs.declared.answer.ConditionCode.{ConditionCode}
use Rattle.chan_model.specs.declared.answer.ConditionCode.TheVariants as code
use Rattle.chan_model.specs.declared.fault.Fault.{Fault}
use Rattle.chan_model.specs.Signals.{Down, Up}
use Rattle.chan_model.specs.declared.signal.OnPath.{OnPath}
use Rattle.chan_model.specs.declared.signal.Up.TheVariants as up
use Rattle.chan_model.specs.UnitReports.{has_unit_check, unit_reports}
use Rattle.channel_config.specs.declared.names.SubchannelId.{SubchannelId}
use Rattle.channel_config.specs.Setup.{Setup, set_count}
use Rattle.channel_config.specs.SubchannelWords.{subchannel_named}
use Rattle.orb_block.specs.declared.Orb.{Orb}
use Rattle.schib_block.specs.declared.pmcw.Pmcw as block
use Rattle.storage_keys.specs.Storage.{Contents}
use Rattle.wires.specs.Queues.{queue}
use Rattle.subchannel_model.specs.declared.state.Subchannel.{Subchannel}
use Rattle.subchannel_model.specs.declared.state.SubchannelState.{SubchannelState}
use Rattle.subchannel_model.specs.declared.state.UpStep.{UpStep}
use Rattle.subchannel_model.specs.Choosing.{chosen, marked_sub}
use Rattle.subchannel_model.specs.Clear.{cleared}
use Rattle.subchannel_model.specs.Losing.{path_index, loses_at, loses, shows_at}
use Rattle.subchannel_model.specs.Modify.{modified_state}
use Rattle.subchannel_model.specs.Indices.{index_in, sub_at}
use Rattle.subchannel_model.specs.Sending.{carried_by, finds_full}
use Rattle.subchannel_model.specs.Start.{started}
use Rattle.subchannel_model.specs.Taking.{takes_up}
use Rattle.machine_model.specs.declared.state.Sweep.{Sweep}
use Rattle.machine_model.specs.declared.state.Sweep.TheVariants as sweep
use Rattle.machine_model.specs.InstructionSteps.{function_sub, test_with}
use Rattle.machine_model.specs.PathSteps.{swept}
use Rattle.machine_model.specs.State.{State, opening_of, index_of, sub_of}
use Rattle.machine_model.specs.Steps.{Run, Opened, Stepped, Step}
use Rattle.machine_model.specs.Results.{SubResult, UpResult, DownResult}
use Rattle.machine_model.specs.UpSteps.{up_front, up_sub}
use Rattle.run_laws.specs.Returns as returns
use Rattle.step_laws.proofs.Indices.{set-get, map-get}
use Rattle.step_laws.specs.Walks as walked
use Rattle.step_laws.specs.Walks.{AreWalks, Walked, IsQuiet, OneSub, Function, Resumes, Clears, Cancels, effect_of, instruction_of, sweep_event}
use Rattle.run_laws.proofs.Machine.Linked.{index-set}
use Rattle.run_laws.specs.StateClaims.{is_id}
use Rattle.run_laws.specs.BeginsItsOwn.{is_code_zero}
use Rattle.run_laws.specs.Dedicated.{dedicated_met, dedicated_cleared, dedicated_after, IsOfferOn, IsEntryRight, OffersOnDedicated}
use Rattle.run_laws.specs.Entries.{seen_through, Throughout}
use Rattle.run_laws.proofs.Machine.Appending.{through-more, claim-more}
use Rattle.run_laws.proofs.Signals.Dedicating.{IsStill, IsByCheck, IsLeft, tested-still, halted-still, loses-still, shows-still, choose-still, takes-left}
use Rattle.run_laws.proofs.Signals.OwnSteps.{IsApart, down-apart, step-apart, act-apart, up-setup, choose-setup}
use Rattle.run_laws.proofs.Signals.OwnRuns.{sets-stay}
use Rattle.run_laws.proofs.Signals.RunPaths.{index-map}
use Rattle.run_laws.proofs.Machine.Names.{named-is, named-index}

-- an allegiance that is seen is that of the subchannel
abbrev Dedicates : Option ℕ → Option ℕ → Type 0
Dedicates k dedicated = (d : ℕ) → k ≡ Some d → dedicated ≡ Some d

abbrev DedicatedAt : SubchannelId → List Subchannel → Option ℕ → Type 0
DedicatedAt id subs k = (index : ℕ) (sub : Subchannel) → index_in id subs ≡ Some index → slice_get subs index ≡ Some sub → Dedicates k sub.state.dedicated

none-dedicates : (dedicated : Option ℕ) → Dedicates None dedicated
none-dedicates dedicated d e = absurd (cc e)

-- or none is seen any more
abbrev IsLess : Option ℕ → Option ℕ → Type 0
IsLess k next = (next ≡ k) ⊎ (next ≡ None)

less-dedicated : (id : SubchannelId) (subs : List Subchannel) (k next : Option ℕ) → IsLess k next → DedicatedAt id subs k → DedicatedAt id subs next
less-dedicated id subs k next (inl e) ties = subst (λ (o : Option ℕ). DedicatedAt id subs o) (sym e) ties
less-dedicated id subs k next (inr e) ties = λ index sub named there d f. absurd (cc (sym e ∙ f))

-- one subchannel was changed
dedicated-set : (id : SubchannelId) (subs : List Subchannel) (index : ℕ) (sub after : Subchannel) (k next : Option ℕ) → slice_get subs index ≡ Some sub → after.setup ≡ sub.setup →
    (index_in id subs ≡ Some index → Dedicates k sub.state.dedicated → Dedicates next after.state.dedicated) → ((index_in id subs ≡ Some index → ⊥) → next ≡ k) → DedicatedAt id subs k →
    DedicatedAt id (slice_set subs index after) next
dedicated-set id subs index sub after k next there same here other ties = λ i x named at.
    let first : index_in id subs ≡ Some i = sym (index-set id subs index sub after there same) ∙ named in
    elim (set-get subs index after i x at) [
      | inl p ↦
          let mine : index_in id subs ≡ Some index = first ∙ ap Some p.0 in
          subst (λ (y : Subchannel). Dedicates next y.state.dedicated) (sym p.1) (here mine (ties index sub mine there))
      | inr p ↦ subst (λ (o : Option ℕ). Dedicates o x.state.dedicated) (sym (other (λ h. p.0 (cc (sym first ∙ h))))) (ties i x first p.1)
    ]

still-set : (id : SubchannelId) (subs : List Subchannel) (index : ℕ) (sub after : Subchannel) (k : Option ℕ) → slice_get subs index ≡ Some sub → after.setup ≡ sub.setup → IsStill sub.state after.state →
    DedicatedAt id subs k → DedicatedAt id (slice_set subs index after) k
still-set id subs index sub after k there same still ties = dedicated-set id subs index sub after k k there same (λ mine h d e. still ∙ h d e) (λ not. refl) ties

one-still : (id : SubchannelId) (s new : State) (index : ℕ) (sub after : Subchannel) (k : Option ℕ) → OneSub s new index sub after → after.setup ≡ sub.setup → IsStill sub.state after.state → DedicatedAt id s.subs k →
    DedicatedAt id new.subs k
one-still id s new index sub after k one same still ties = subst (λ (xs : List Subchannel). DedicatedAt id xs k) (sym one.subs) (still-set id s.subs index sub after k one.there same still ties)

-- the instructions
start-still : (sub : Subchannel) (orb : Orb) (c : ConditionCode) → IsStill sub.state (function_sub sub c (started sub.state orb)).sub.state
start-still sub orb code.Zero = refl
start-still sub orb c = refl

test-still : (sub : Subchannel) (c : ConditionCode) → IsStill sub.state (test_with sub c).sub.state
test-still sub code.Zero = tested-still sub.state
test-still sub c = refl

modify-still : (sub : Subchannel) (given : block.Pmcw) (c : ConditionCode) → IsStill sub.state (function_sub sub c (modified_state sub given)).sub.state
modify-still sub given code.Zero = refl
modify-still sub given c = refl

test-setup : (sub : Subchannel) (c : ConditionCode) → (test_with sub c).sub.setup ≡ sub.setup
test-setup sub code.Zero = refl
test-setup sub c = refl

-- a quiet event
if-less : (b c : Bool) (k : Option ℕ) → IsLess k (if b then (if c then None else k) else k)
if-less true true k = inr refl
if-less true false k = inl refl
if-less false c k = inl refl

quiet-less : (sets : ℕ) (id : SubchannelId) (e : Event) (r : Reply) (k : Option ℕ) → IsQuiet e r → IsEntryRight sets id e r k × IsLess k (dedicated_after sets id e r k)
quiet-less sets id (event.Execute cpu (instruction.Csch word)) r k q = (tt, if-less (is_id (subchannel_named sets word) id) (is_code_zero r) k)
quiet-less sets id (event.Choose word) r k q = absurd q
quiet-less sets id (event.Up word path) r k q = absurd q
quiet-less sets id (event.Down word path) r k q = absurd q
quiet-less sets id (event.Report at report) r k q = absurd q
quiet-less sets id event.SystemReset r k q = (tt, inr refl)
quiet-less sets id e r k q = (tt, inl refl)

abbrev IsSeen : SubchannelId → State → Event → Reply → State → Option ℕ → Type 0
IsSeen id s e r new k = IsEntryRight s.sets id e r k × DedicatedAt id new.subs (dedicated_after s.sets id e r k)

quiet-seen : (id : SubchannelId) (s : State) (e : Event) (r : Reply) (new : State) (k : Option ℕ) → IsQuiet e r → DedicatedAt id new.subs k → IsSeen id s e r new k
quiet-seen id s e r new k q ties = let l = quiet-less s.sets id e r k q in (l.0, less-dedicated id new.subs k (dedicated_after s.sets id e r k) l.1 ties)

-- RESUME, HALT, CLEAR and CANCEL
if-mine : (b : Bool) (x k dedicated : Option ℕ) → b ≡ true → Dedicates x dedicated → Dedicates (if b then x else k) dedicated
if-mine true x k dedicated e h = h
if-mine false x k dedicated e h = absurd (cc e)

if-else : (b : Bool) (x k : Option ℕ) → (b ≡ true → ⊥) → (if b then x else k) ≡ k
if-else true x k n = absurd (n refl)
if-else false x k n = refl

clear-seen : (id : SubchannelId) (s : State) (word index : ℕ) (sub : Subchannel) (k : Option ℕ) → index_of s word ≡ Some index → slice_get s.subs index ≡ Some sub → DedicatedAt id s.subs k →
    DedicatedAt id (slice_set s.subs index (function_sub sub code.Zero (cleared sub.state)).sub)
    (if is_id (subchannel_named s.sets word) id then dedicated_cleared (function_sub sub code.Zero (cleared sub.state)).reply k else k)
clear-seen id s word index sub k n there ties =
    let named : Option SubchannelId = subchannel_named s.sets word in
    dedicated-set id s.subs index sub (function_sub sub code.Zero (cleared sub.state)).sub k (if is_id named id then None else k) there refl
    (λ mine h. if-mine (is_id named id) None k None (named-is s.subs id named index sub n mine there) (none-dedicates None))
    (λ not. if-else (is_id named id) None k (λ is. not (named-index s.subs id named index n is))) ties

abbrev Performs : SubchannelId → State → Event → Reply → ℕ → Subchannel → Function → ConditionCode → Option ℕ → Type 0
Performs id s e r index sub f c k = DedicatedAt id (slice_set s.subs index (function_sub sub c (effect_of f sub.state)).sub) (dedicated_after s.sets id e r k)

effect-still : (sub : Subchannel) (f : Function) → (f ≡ Clears → ⊥) → IsStill sub.state (effect_of f sub.state)
effect-still sub Resumes n = refl
effect-still sub walked.Halts n = halted-still sub.state
effect-still sub Clears n = absurd (n refl)
effect-still sub Cancels n = refl

function-still : (sub : Subchannel) (f : Function) (c : ConditionCode) → (c ≡ code.Zero → f ≡ Clears → ⊥) → IsStill sub.state (function_sub sub c (effect_of f sub.state)).sub.state
function-still sub f code.Zero n = effect-still sub f (n refl)
function-still sub f c n = refl

performs-still : (id : SubchannelId) (s : State) (e : Event) (r : Reply) (index : ℕ) (sub : Subchannel) (f : Function) (c : ConditionCode) (k : Option ℕ) → (c ≡ code.Zero → f ≡ Clears → ⊥) → IsQuiet e r →
    slice_get s.subs index ≡ Some sub → DedicatedAt id s.subs k → Performs id s e r index sub f c k
performs-still id s e r index sub f c k n q there ties =
    less-dedicated id _ k (dedicated_after s.sets id e r k) (quiet-less s.sets id e r k q).1
    (still-set id s.subs index sub (function_sub sub c (effect_of f sub.state)).sub k there refl (function-still sub f c n) ties)

performs : (id : SubchannelId) (s : State) (e : Event) (r : Reply) (index cpu word : ℕ) (sub : Subchannel) (f : Function) (c : ConditionCode) (k : Option ℕ) → IsQuiet e r →
    e ≡ event.Execute cpu (instruction_of f word) → index_of s word ≡ Some index → r ≡ (function_sub sub c (effect_of f sub.state)).reply → slice_get s.subs index ≡ Some sub → DedicatedAt id s.subs k →
    Performs id s e r index sub f c k
performs id s e r index cpu word sub Clears code.Zero k q is n answers there ties =
    subst (λ (y : Event). DedicatedAt id (slice_set s.subs index (function_sub sub code.Zero (cleared sub.state)).sub) (dedicated_after s.sets id y r k)) (sym is)
    (subst (λ (y : Reply). DedicatedAt id (slice_set s.subs index (function_sub sub code.Zero (cleared sub.state)).sub)
    (if is_id (subchannel_named s.sets word) id then dedicated_cleared y k else k)) (sym answers) (clear-seen id s word index sub k n there ties))
performs id s e r index cpu word sub Clears code.One k q is n answers there ties = performs-still id s e r index sub Clears code.One k (λ z. absurd (cc z)) q there ties
performs id s e r index cpu word sub Clears code.Two k q is n answers there ties = performs-still id s e r index sub Clears code.Two k (λ z. absurd (cc z)) q there ties
performs id s e r index cpu word sub Clears code.Three k q is n answers there ties = performs-still id s e r index sub Clears code.Three k (λ z. absurd (cc z)) q there ties
performs id s e r index cpu word sub other c k q is n answers there ties = performs-still id s e r index sub other c k (λ z f. absurd (cc f)) q there ties

-- an offer
offer-on : (s : State) (word : ℕ) (sub : Subchannel) (r : Reply) (k : Option ℕ) → returns.OffersOnDedicated s (event.Choose word) r → sub_of s word ≡ Some sub → Dedicates k sub.state.dedicated → IsOfferOn k r
offer-on s word sub r None o at ties = tt
offer-on s word sub (reply.Offered t p z) (Some d) o at ties = o sub d at (ties d refl)
offer-on s word sub r (Some d) o at ties = tt

-- a signal that came up
same-left : (k old new : Option ℕ) → new ≡ old → Dedicates k old → Dedicates k new
same-left k old new e h = λ d f. e ∙ h d f

check-left : (check : Bool) (path : ℕ) (new : Option ℕ) → IsByCheck check path new → Dedicates (if check then Some path else None) new
check-left true path new e = λ d f. e ∙ f
check-left false path new e = none-dedicates new

met-left : (path : ℕ) (x : Up) (taken : Bool) (sent : Option (OnPath Down)) (k old new : Option ℕ) → IsLeft path x taken old new → Dedicates k old → Dedicates (dedicated_met path (reply.Up x taken sent) k) new
met-left path (up.Accept t) taken sent k old new e h = same-left k old new e h
met-left path (up.Busy t) taken sent k old new e h = same-left k old new e h
met-left path (up.Leave t c) taken sent k old new e h = same-left k old new e h
met-left path (up.Back t c) taken sent k old new e h = same-left k old new e h
met-left path (up.Data load t c n q) true sent k old new e h = none-dedicates new
met-left path (up.Data load t c n q) false sent k old new e h = same-left k old new e h
met-left path (up.End t n status more) true sent k old new e h = check-left (has_unit_check status) path new e
met-left path (up.End t n status more) false sent k old new e h = same-left k old new e h
met-left path (up.Released t) taken sent k old new e h = same-left k old new e h
met-left path (up.Cleared r) taken sent k old new e h = same-left k old new e h
met-left path (up.Notice b) taken sent k old new e h = same-left k old new e h
met-left path (up.Attn a status) taken sent k old new e h = same-left k old new e h

abbrev IsMet : Subchannel → ℕ → Option ℕ → UpResult → Type 0
IsMet sub path k t = Dedicates k sub.state.dedicated → Dedicates (dedicated_met path t.reply k) t.sub.state.dedicated

if-ok : {A : Type 0} (P : A → Type 0) (b : Bool) (x y : Result A Fault) → IfOk x P → IfOk y P → IfOk (if b then x else y) P
if-ok P true x y e f = e
if-ok P false x y e f = f

front-met : (returns : Bool) (storage : Contents) (sub : Subchannel) (path : ℕ) (front : Option Up) (k : Option ℕ) → IfOk (up_front returns storage sub path front) (IsMet sub path k)
front-met returns storage sub path None k = tt
front-met returns storage sub path (Some x) k =
    let step : UpStep = (takes_up returns storage sub.state path x).step in
    if-ok (IsMet sub path k) (finds_full sub.wires.down (carried_by sub step.outcome.sent)) _ _ tt
    (λ h. met-left path x step.outcome.taken step.outcome.sent k sub.state.dedicated step.state.dedicated (takes-left returns storage sub.state path x) h)

up-met : (returns : Bool) (storage : Contents) (sub : Subchannel) (path : ℕ) (k : Option ℕ) → IfOk (up_sub returns storage sub path) (IsMet sub path k)
up-met returns storage sub path k =
    if-ok (IsMet sub path k) (nat_lt path (length sub.setup.paths)) (up_front returns storage sub path (slice_get (queue sub.wires.up path) 0)) _
    (front-met returns storage sub path (slice_get (queue sub.wires.up path) 0) k) tt

-- a sweep
record IsSwept (sub after : Subchannel) : Type 0 where
  setup : after.setup ≡ sub.setup
  still : IsStill sub.state after.state

loses-setup : (sub : Subchannel) (o : Option ℕ) → (loses_at o sub).setup ≡ sub.setup
loses-setup sub None = refl
loses-setup sub (Some p) = refl

shows-setup : (sub : Subchannel) (o : Option ℕ) (b : Bool) → (shows_at o b sub).setup ≡ sub.setup
shows-setup sub None b = refl
shows-setup sub (Some p) b = refl

sweeps : (what : Sweep) (sub : Subchannel) → (what ≡ sweep.SystemReset → ⊥) → IsSwept sub (swept what sub)
sweeps (sweep.GoesDown chpid) sub n =
    let lost : Subchannel = loses chpid sub in
    let o : Option ℕ = path_index chpid lost.setup.paths in
    record { setup = shows-setup lost o false ∙ loses-setup sub (path_index chpid sub.setup.paths); still = shows-still lost o false ∙ loses-still sub (path_index chpid sub.setup.paths) }
sweeps (sweep.ComesUp chpid) sub n = record { setup = shows-setup sub (path_index chpid sub.setup.paths) true; still = shows-still sub (path_index chpid sub.setup.paths) true }
sweeps (sweep.PathReset chpid) sub n = record { setup = loses-setup sub (path_index chpid sub.setup.paths); still = loses-still sub (path_index chpid sub.setup.paths) }
sweeps sweep.SystemReset sub n = absurd (n refl)

swept-still : (id : SubchannelId) (subs : List Subchannel) (f : Subchannel → Subchannel) (k : Option ℕ) → ((sub : Subchannel) → IsSwept sub (f sub)) → DedicatedAt id subs k → DedicatedAt id (map f subs) k
swept-still id subs f k h ties = λ i x named at.
    let p = map-get f subs i x at in
    subst (λ (y : Subchannel). Dedicates k y.state.dedicated) p.2
    (same-left k p.0.state.dedicated (f p.0).state.dedicated (h p.0).still (ties i p.0 (sym (index-map f (λ sub. (h sub).setup) id subs) ∙ named) p.1))

swept-seen : (id : SubchannelId) (s : State) (what : Sweep) (k : Option ℕ) → DedicatedAt id s.subs k → (r : Reply) → DedicatedAt id (map (swept what) s.subs) (dedicated_after s.sets id (sweep_event what) r k)
swept-seen id s sweep.SystemReset k ties r = λ i x named at. none-dedicates x.state.dedicated
swept-seen id s other k ties r = swept-still id s.subs (swept other) k (λ sub. sweeps other sub (λ e. absurd (cc e))) ties

-- each step
abbrev pub AreOnDedicated : Type 0
AreOnDedicated = (s : State) (e : Event) (r : Reply) (new : State) → Step s e r new → returns.OffersOnDedicated s e r

walked-seen : AreOnDedicated → (id : SubchannelId) (s : State) (e : Event) (r : Reply) (new : State) (k : Option ℕ) → Walked s e r new → Step s e r new → DedicatedAt id s.subs k → IsSeen id s e r new k
walked-seen on id s _ _ _ k (walked.Stays e r new q sets subs units up) step ties = quiet-seen id s e r new k q (subst (λ (xs : List Subchannel). DedicatedAt id xs k) (sym subs) ties)
walked-seen on id s _ _ _ k (walked.Started cpu word address index sub orb c new n one) step ties = (tt, one-still id s new index sub _ k one refl (start-still sub orb c) ties)
walked-seen on id s _ _ _ k (walked.Tested e r index sub c new q one address by answers) step ties =
    quiet-seen id s e r new k q (one-still id s new index sub _ k one (test-setup sub c) (test-still sub c) ties)
walked-seen on id s _ _ _ k (walked.Modified e r index sub given c new q one) step ties = quiet-seen id s e r new k q (one-still id s new index sub _ k one refl (modify-still sub given c) ties)
walked-seen on id s _ _ _ k (walked.Performed e r index sub f c new q one by answers) step ties = (
  (quiet-less s.sets id e r k q).0,
  subst (λ (xs : List Subchannel). DedicatedAt id xs (dedicated_after s.sets id e r k)) (sym one.subs)
      (performs id s e r index by.cpu by.word sub f c k q by.event by.at answers one.there ties),
)
walked-seen on id s _ _ _ k (walked.Chosen word index sub choice t new n x w ok one) step ties =
    let still : IsStill sub.state t.sub.state =
    subst (λ (r : Result SubResult Fault). IfOk r (λ t. IsStill sub.state t.sub.state)) ok (choose-still (marked_sub sub choice) (chosen sub choice)) in
    let same : t.sub.setup ≡ sub.setup =
    subst (λ (r : Result SubResult Fault). IfOk r (λ t. t.sub.setup ≡ sub.setup)) ok (choose-setup (marked_sub sub choice) (chosen sub choice)) in (
      λ is.
          offer-on s word sub t.reply k (on s (event.Choose word) t.reply new step) (ap (λ (o : Option ℕ). sub_at s.subs o) n ∙ one.there)
          (ties index sub (named-index s.subs id (subchannel_named s.sets word) index n is) one.there),
      one-still id s new index sub t.sub k one same still ties,
    )
walked-seen on id s _ _ _ k (walked.Met word path returns index sub t new n ok one may) step ties =
    let named : Option SubchannelId = subchannel_named s.sets word in
    let met : IsMet sub path k t = subst (λ (r : Result UpResult Fault). IfOk r (IsMet sub path k)) ok (up-met returns s.storage sub path k) in
    let same : t.sub.setup ≡ sub.setup = subst (λ (r : Result UpResult Fault). IfOk r (λ t. t.sub.setup ≡ sub.setup)) ok (up-setup returns s.storage sub path) in (
      tt,
      subst (λ (xs : List Subchannel). DedicatedAt id xs (if is_id named id then dedicated_met path t.reply k else k)) (sym one.subs)
          (dedicated-set id s.subs index sub t.sub k (if is_id named id then dedicated_met path t.reply k else k) one.there same
          (λ mine h. if-mine (is_id named id) (dedicated_met path t.reply k) k t.sub.state.dedicated (named-is s.subs id named index sub n mine one.there) (met h))
          (λ not. if-else (is_id named id) (dedicated_met path t.reply k) k (λ is. not (named-index s.subs id named index n is))) ties),
    )
walked-seen on id s _ _ _ k (walked.Sunk word path may owed index sub u t new n ok one) step ties =
    let apart : IsApart sub t = subst (λ (r : Result DownResult Fault). IfOk r (IsApart sub)) ok (down-apart may sub path u) in (
      tt,
      subst (λ (xs : List Subchannel). DedicatedAt id xs k) (sym one.subs)
          (still-set id s.subs index sub t.sub k one.there apart.setup (ap (λ (x : SubchannelState). x.dedicated) apart.state) ties),
    )
walked-seen on id s _ _ _ k (walked.Reported at index sub u report t new n reached ok one) step ties =
    let apart : IsApart sub t = subst (λ (r : Result DownResult Fault). IfOk r (IsApart sub)) ok (step-apart sub (unit_reports u report)) in (
      tt,
      subst (λ (xs : List Subchannel). DedicatedAt id xs k) (sym one.subs)
          (still-set id s.subs index sub t.sub k one.there apart.setup (ap (λ (x : SubchannelState). x.dedicated) apart.state) ties),
    )
walked-seen on id s _ _ _ k (walked.Acted at index sub u what t new side its ok one) step ties =
    let apart : IsApart sub t = subst (λ (r : Result DownResult Fault). IfOk r (IsApart sub)) ok (act-apart sub u what) in (
      tt,
      subst (λ (xs : List Subchannel). DedicatedAt id xs k) (sym one.subs)
          (still-set id s.subs index sub t.sub k one.there apart.setup (ap (λ (x : SubchannelState). x.dedicated) apart.state) ties),
    )
walked-seen on id s _ _ _ k (walked.Restarted at owed u r new found sets subs units up) step ties = (tt, subst (λ (xs : List Subchannel). DedicatedAt id xs k) (sym subs) ties)
walked-seen on id s _ _ _ k (walked.Swept e r what new q sets subs units by) step ties = (
  (quiet-less s.sets id e r k q).0,
  subst (λ (y : Event). DedicatedAt id new.subs (dedicated_after s.sets id y r k)) (sym by.event)
      (subst (λ (xs : List Subchannel). DedicatedAt id xs (dedicated_after s.sets id (sweep_event what) r k)) (sym subs) (swept-seen id s what k ties r)),
)

-- along a run, before which none was dedicated
record IsRunSeen (sets : ℕ) (id : SubchannelId) (h : List Entry) (s : State) : Type 0 where
  count : s.sets ≡ sets
  ties : DedicatedAt id s.subs (seen_through (dedicated_after sets id) None h)
  right : Throughout (dedicated_after sets id) (IsEntryRight sets id) None h

run-seen : AreWalks → AreOnDedicated → (setup : Setup) (id : SubchannelId) (h : List Entry) (s : State) → Run (opening_of setup) h s → IsRunSeen (set_count setup) id h s
run-seen walks on setup id _ _ Opened = record { count = refl; ties = λ index sub named there. none-dedicates sub.state.dedicated; right = tt }
run-seen walks on setup id _ _ (Stepped h old e r new run step) =
    let before : IsRunSeen (set_count setup) id h old = run-seen walks on setup id h old run in
    let walk : Walked old e r new = walks old e r new step in
    let k : Option ℕ = seen_through (dedicated_after (set_count setup) id) None h in
    let now : IsSeen id old e r new k = walked-seen on id old e r new k walk step before.ties in
    record {
      count = sets-stay old e r new walk ∙ before.count;
      ties = subst (λ (o : Option ℕ). DedicatedAt id new.subs o) (sym (through-more (dedicated_after (set_count setup) id) None h e r))
          (subst (λ (n : ℕ). DedicatedAt id new.subs (dedicated_after n id e r k)) before.count now.1);
      right = claim-more (dedicated_after (set_count setup) id) (IsEntryRight (set_count setup) id) None h e r before.right
          (subst (λ (n : ℕ). IsEntryRight n id e r k) before.count now.0);
    }

pub run-offers-on-dedicated : AreWalks → AreOnDedicated → (setup : Setup) (h : List Entry) (s : State) → Run (opening_of setup) h s → OffersOnDedicated (set_count setup) h
run-offers-on-dedicated walks on setup h s run = λ id. (run-seen walks on setup id h s run).right
