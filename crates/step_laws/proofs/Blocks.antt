-- No step changes how a machine is set up: how many keys storage has (a key is set in its place, and all else that is stored
-- are bytes), which channel paths are configured, which units share a control unit, for how many requests there is room, and how a
-- channel path that is back is reported.
use Rattle.std.proofs.Common.{◌≡◌, refl, sym, ◌∙◌, ap, subst, ℕ, zero, suc, Bool, true, false, nat_lt, Option, None, Some, Result, Ok, Err, List, [], ◌∷◌, map, length}
use Rattle.std.specs.Prelude.{◌==◌, ◌+◌, ◌%◌, slice_get, slice_set, if◌then◌else◌, not, is_some, IfOk}
use Rattle.std.proofs.lemmas.List.{length-set}
use Rattle.storage_keys.specs.declared.key.Key.{Key}
use Rattle.storage_keys.specs.declared.StorageFault.{StorageFault}
use Rattle.storage_keys.specs.declared.StorageFault.TheVariants.{Addressing, Specification}
use Rattle.storage_keys.specs.Storage as keys
use Rattle.storage_keys.specs.Storage.{Contents, put, put_at, key_set, prefix_set, is_inside, access_check, key_permits_store, where_permitted}
use Rattle.chan_events.specs.Events.{Event}
use Rattle.chan_events.specs.declared.event.Event.TheVariants as event
use Rattle.chan_events.specs.declared.event.Instruction.{Instruction}
use Rattle.chan_events.specs.Replies.{Reply, reply_code}
use Rattle.chan_model.specs.declared.fault.Fault.{Fault}
use Rattle.chan_model.specs.Signals.{Load, Up, load_bytes}
use Rattle.chan_model.specs.declared.signal.Up.TheVariants as up
use Rattle.chan_model.specs.declared.unit_state.UnitState.{UnitState}
use Rattle.chan_model.specs.HoldTable.{is_connected}
use Rattle.chan_model.specs.UnitReports.{is_outward}
use Rattle.chan_model.specs.UnitTable.{restarted}
use Rattle.ccw_walk.specs.declared.check.Check.{Check}
use Rattle.data_move.specs.Accesses as access
use Rattle.data_move.specs.declared.transfer.Transfer.{Transfer}
use Rattle.data_move.specs.FromDevice.{StoredChunk, after_store, bytes_brought_in, chunk_stored, fitting_bytes, nothing_stored}
use Rattle.data_move.specs.ChunkNumbers.{is_answered}
use Rattle.subchannel_model.specs.declared.signals.DataSignal.{DataSignal}
use Rattle.subchannel_model.specs.declared.state.ActiveProgram.{ActiveProgram}
use Rattle.subchannel_model.specs.declared.state.Subchannel.{Subchannel}
use Rattle.subchannel_model.specs.declared.state.SubchannelState.{SubchannelState}
use Rattle.subchannel_model.specs.Sending.{carried_by, finds_full}
use Rattle.subchannel_model.specs.Outcomes.{SignalOutcome, with_storage, signal_ignored}
use Rattle.subchannel_model.specs.Data.{moves_data}
use Rattle.subchannel_model.specs.Taking.{takes_up}
use Rattle.wires.specs.Queues.{queue}
use Rattle.control_units.specs.declared.Member.{Member}
use Rattle.control_units.specs.Units.{may_serve, member_informed, begun_at, over_at, refused_at}
use Rattle.interruptions.specs.Requests as requests
use Rattle.interruptions.specs.Requests.{WaitingRequests}
use Rattle.scsw_irb.specs.declared.code.IntCode.{IntCode}
use Rattle.machine_model.specs.State.{State, sub_of}
use Rattle.machine_model.specs.Results.{UpResult}
use Rattle.chan_events.specs.Instructions.{subchannel_word}
use Rattle.machine_model.specs.UpSteps.{returns_at, up_front, up_sub}
use Rattle.machine_model.specs.DownSteps.{asks_at}
use Rattle.machine_model.specs.Requests.{drops, requests_after, requests_dropped, posted_all, posted_for, request_of, makes_status}
use Rattle.machine_model.specs.Steps.{Step}
use Rattle.machine_model.specs.Sharing.{is_let_go, members_asked, members_over, members_after}
use Rattle.machine_model.specs.Setups.{group_of}
use Rattle.machine_model.specs.OtherSteps.{code_stored}
use Rattle.step_laws.proofs.Results as turn
use Rattle.step_laws.proofs.Results.{ResultOf, HasResult, step-turn}

-- storage of so many blocks
abbrev IsOf : ℕ → Contents → Type 0
IsOf n storage = length storage.keys ≡ n

abbrev AreOf : {E : Type 0} → ℕ → Result Contents E → Type 0
AreOf n r = IfOk r (IsOf n)

-- a state is set up as another, its subchannels and units apart
abbrev IsAs : State → State → Type 0
IsAs s new =
    (length new.storage.keys ≡ length s.storage.keys)
    × (new.chpids ≡ s.chpids)
    × (map group_of new.members ≡ map group_of s.members)
    × (new.requests.numbers ≡ s.requests.numbers)
    × (new.path_return ≡ s.path_return)

either : {A : Type 0} (P : A → Type 0) (b : Bool) (x y : A) → P x → P y → P (if b then x else y)
either P true x y p q = p
either P false x y p q = q

-- accesses
stored-of : (n : ℕ) (storage : Contents) (address : ℕ) (bytes : List ℕ) (r : Result (Unit {0}) StorageFault) → IsOf n storage →
    AreOf n (where_permitted r (put_at storage address bytes))
stored-of n storage address bytes (Ok u) k = k
stored-of n storage address bytes (Err f) k = tt

checked-of : (n : ℕ) (r : Result Contents StorageFault) → AreOf n r → AreOf n (access.checked r)
checked-of n (Ok storage) k = k
checked-of n (Err f) k = tt

prefix-of : (n : ℕ) (storage : Contents) (aligned inside : Bool) (prefixes : List ℕ) → IsOf n storage →
    AreOf n (if not aligned then Err Specification else (if inside then Ok (record storage { prefixes = prefixes }) else Err Addressing))
prefix-of n storage true true prefixes k = k
prefix-of n storage true false prefixes k = tt
prefix-of n storage false inside prefixes k = tt

-- a chunk that is brought in
after_store-of : (n : ℕ) (storage : Contents) (t : Transfer) (count : ℕ) (r : Result Contents Check) → IsOf n storage → AreOf n r →
    IsOf n (after_store storage t count r).storage
after_store-of n storage t count (Ok after) k a = a
after_store-of n storage t count (Err check) k a = k

bytes_brought_in-of : (n : ℕ) (storage : Contents) (t : Transfer) (bytes : List ℕ) → IsOf n storage → IsOf n (bytes_brought_in storage t bytes).storage
bytes_brought_in-of n storage t bytes k =
    either (λ (x : StoredChunk). IsOf n x.storage) (is_some t.fault) (nothing_stored storage t) _ k
    (after_store-of n storage t (length bytes) (access.stored_or_skipped storage t.walk.orb.key t.moving bytes) k
    (either (AreOf n) t.moving.skipped (Ok storage) _ k
    (checked-of n (keys.stored_bytes storage t.walk.orb.key t.moving.piece bytes)
    (stored-of n storage t.moving.piece bytes (access_check (key_permits_store t.walk.orb.key) storage t.moving.piece (length bytes)) k))))

brought-of : (n : ℕ) (storage : Contents) (t : Transfer) (s : ℕ) (bytes : List ℕ) → IsOf n storage → IsOf n (chunk_stored storage t s bytes).storage
brought-of n storage t s bytes k =
    either (λ (x : StoredChunk). IsOf n x.storage) (s == t.sequence + 1) _ (nothing_stored storage t)
    (bytes_brought_in-of n storage (record t { sequence = s }) (fitting_bytes t bytes) k) k

-- signals that come up
abbrev MeetsOf : ℕ → SignalOutcome → Type 0
MeetsOf n m = IsOf n m.storage

data-of : (n : ℕ) (storage : Contents) (s : SubchannelState) (begun : Option ActiveProgram) (signal : DataSignal)
    (load : Load) → IsOf n storage → MeetsOf n (moves_data storage s begun signal load)
data-of n storage s None signal load k = k
data-of n storage s (Some b) signal load k =
    either (MeetsOf n) (is_answered b.transfer signal.command signal.sequence) _ (with_storage storage (signal_ignored s))
    (either (MeetsOf n) (is_outward b.transfer.code) (with_storage storage _) _ k
    (brought-of n storage b.transfer signal.sequence (load_bytes load) k)) k

met-of : (n : ℕ) (returns : Bool) (storage : Contents) (s : SubchannelState) (p : ℕ) (signal : Up) → IsOf n storage → MeetsOf n (takes_up returns storage s p signal)
met-of n returns storage s p (up.Data load t c m seq) k =
    either (MeetsOf n) (is_connected s.hold.phase p t c) _ (with_storage storage (signal_ignored s)) (data-of n storage s s.begun _ load k) k
met-of n returns storage s p signal k = k

abbrev UpOf : ℕ → Result UpResult Fault → Type 0
UpOf n r = IfOk r (λ t. IsOf n t.storage)

front-of : (n : ℕ) (returns : Bool) (storage : Contents) (sub : Subchannel) (path : ℕ) (front : Option Up) → IsOf n storage →
    UpOf n (up_front returns storage sub path front)
front-of n returns storage sub path None k = tt
front-of n returns storage sub path (Some signal) k =
    either (UpOf n) (finds_full sub.wires.down (carried_by sub (takes_up returns storage sub.state path signal).step.outcome.sent)) _ _ tt
    (met-of n returns storage sub.state path signal k)

up-of : (n : ℕ) (returns : Bool) (storage : Contents) (sub : Subchannel) (path : ℕ) → IsOf n storage → UpOf n (up_sub returns storage sub path)
up-of n returns storage sub path k =
    either (UpOf n) (nat_lt path (length sub.setup.paths)) _ _
    (front-of n returns storage sub path (slice_get (queue sub.wires.up path) 0) k) tt

-- the groups of units stay as what control units keep changes
set-groups : (members : List Member) (index : ℕ) (m new : Member) → slice_get members index ≡ Some m → new.group ≡ m.group →
    map group_of (slice_set members index new) ≡ map group_of members
set-groups [] index m new e k = refl
set-groups (x ∷ xs) zero m new e k = let same : x ≡ m = cc e in ap (λ (g : ℕ). g ∷ map group_of xs) (k ∙ sym (ap group_of same))
set-groups (x ∷ xs) (suc index) m new e k = ap (λ (gs : List ℕ). x.group ∷ gs) (set-groups xs index m new e k)

begun-groups : (members : List Member) (index : ℕ) (q : Option Member) → slice_get members index ≡ q → map group_of (begun_at members index q) ≡ map group_of members
begun-groups members index None e = refl
begun-groups members index (Some m) e = set-groups members index m (record m { begun = true }) e refl

refused-groups : (members : List Member) (index : ℕ) (q : Option Member) → slice_get members index ≡ q → map group_of (refused_at members index q) ≡ map group_of members
refused-groups members index None e = refl
refused-groups members index (Some m) e = set-groups members index m (record m { refused = true }) e refl

told-groups : (group : ℕ) (members : List Member) → map group_of (map (member_informed group) members) ≡ map group_of members
told-groups group [] = refl
told-groups group (m ∷ ms) =
    ap (λ (g : ℕ). g ∷ map group_of (map (member_informed group) ms)) (either (λ (x : Member). x.group ≡ m.group) (m.group == group) (record m { refused = false }) m refl refl) ∙ ap (λ (gs : List ℕ). m.group ∷ gs) (told-groups group ms)

ended-groups : (members : List Member) (index : ℕ) (q : Option Member) → slice_get members index ≡ q → map group_of (over_at members index q) ≡ map group_of members
ended-groups members index None e = refl
ended-groups members index (Some m) e =
    told-groups m.group (slice_set members index (record m { begun = false })) ∙ set-groups members index m (record m { begun = false }) e refl

over-groups : (members : List Member) (index : ℕ) (ends : Bool) → map group_of (members_over members index ends) ≡ map group_of members
over-groups members index true = ended-groups members index (slice_get members index) refl
over-groups members index false = refl

asked-groups : (members : List Member) (index : ℕ) (may : Bool) → map group_of (members_asked members index may) ≡ map group_of members
asked-groups members index true = begun-groups members index (slice_get members index) refl
asked-groups members index false = refused-groups members index (slice_get members index) refl

after-groups : (members : List Member) (index : ℕ) (asks : Bool) (old new : UnitState) → map group_of (members_after members index asks old new) ≡ map group_of members
after-groups members index true old new = asked-groups members index (may_serve members index)
after-groups members index false old new = over-groups members index (is_let_go old new)

-- an operator's acts
made-of : (n : ℕ) (r : Result Contents StorageFault) (storage : Contents) → AreOf n r → r ≡ Ok storage → IsOf n storage
made-of n r storage k e = subst (AreOf n) e k

put-of : (storage after : Contents) (address : ℕ) (bytes : List ℕ) → put storage address bytes ≡ Ok after → IsOf (length storage.keys) after
put-of storage after address bytes =
    made-of (length storage.keys) (put storage address bytes) after (either (AreOf (length storage.keys)) (is_inside storage address (length bytes)) _ _ refl tt)

key-of : (storage after : Contents) (address : ℕ) (key : Key) → key_set storage address key ≡ Ok after → IsOf (length storage.keys) after
key-of storage after address key =
    made-of (length storage.keys) (key_set storage address key) after
    (either (AreOf (length storage.keys)) (is_inside storage address 1) _ _ (length-set storage.keys _ key) tt)

cpu_prefix-of : (storage after : Contents) (cpu address : ℕ) → prefix_set storage cpu address ≡ Ok after → IsOf (length storage.keys) after
cpu_prefix-of storage after cpu address =
    made-of (length storage.keys) (prefix_set storage cpu address) after
    (prefix-of (length storage.keys) storage (address % 8192 == 0) (is_inside storage address 8192) _ refl)

code-of : (storage : Contents) (cpu address : ℕ) (found : Option IntCode) → IsOf (length storage.keys) (code_stored storage cpu address found)
code-of storage cpu address None = refl
code-of storage cpu address (Some code) = refl

-- what an answer of TEST PENDING INTERRUPTION leaves of the room for requests
answer-room : (waiting : WaitingRequests) (found : Option IntCode) → (requests.after_answer waiting found).numbers ≡ waiting.numbers
answer-room waiting None = refl
answer-room waiting (Some code) = refl

turn-as : (s : State) (e : Event) (r : Reply) (new : State) → ResultOf s e r new → IsAs s new
turn-as s _ _ _ (turn.Puts address bytes storage e) = (put-of s.storage storage address bytes e, refl, refl, refl, refl)
turn-as s _ _ _ (turn.SetsKey address key storage e) = (key-of s.storage storage address key e, refl, refl, refl, refl)
turn-as s _ _ _ (turn.SetsPrefix cpu address storage e) = (cpu_prefix-of s.storage storage cpu address e, refl, refl, refl, refl)
turn-as s _ _ _ (turn.Executes cpu i id q r storage subs n e blocks left done) = (blocks, refl, refl, refl, refl)
turn-as s _ _ _ (turn.Interrupts cpu mask address) = (code-of s.storage cpu address _, refl, refl, answer-room s.requests (requests.answer s.requests mask), refl)
turn-as s _ _ _ (turn.Meets word path index sub t named there ok) =
    let n : ℕ = length s.storage.keys in
    (subst (UpOf n) ok (up-of n (returns_at s.subs sub path) s.storage sub path refl), refl, refl, refl, refl)
turn-as s _ _ _ (turn.Takes word path index sub u t named there found ok) =
    (refl, refl, after-groups s.members sub.setup.«unit» (asks_at sub path u) u t.«unit», refl, refl)
turn-as s _ _ _ (turn.Restarts at u found) = (refl, refl, over-groups s.members at (is_let_go u (restarted u)), refl, refl)
turn-as s _ _ _ t = (refl, refl, refl, refl, refl)

-- requests that are posted or dropped leave room as it was
posted-room : (old new : Subchannel) (waiting : WaitingRequests) → (posted_for old new waiting).numbers ≡ waiting.numbers
posted-room old new waiting =
    either (λ (w : WaitingRequests). w.numbers ≡ waiting.numbers) (makes_status old new) (requests.posted waiting (request_of new)) waiting
    (either (λ (w : WaitingRequests). w.numbers ≡ waiting.numbers) (requests.stands waiting.requests (request_of new).set (request_of new).subchannel) waiting _ refl refl) refl

posted_all-room : (olds news : List Subchannel) (waiting : WaitingRequests) → (posted_all olds news waiting).numbers ≡ waiting.numbers
posted_all-room [] news waiting = refl
posted_all-room (old ∷ olds) [] waiting = refl
posted_all-room (old ∷ olds) (new ∷ news) waiting =
    posted_all-room olds news (posted_for old new waiting) ∙ posted-room old new waiting

after-room : (waiting : WaitingRequests) (sub : Option Subchannel) (i : Instruction) (r : Reply) → (requests_after waiting sub i r).numbers ≡ waiting.numbers
after-room waiting None i r = refl
after-room waiting (Some sub) i r = either (λ (w : WaitingRequests). w.numbers ≡ waiting.numbers) (drops i (reply_code r)) _ waiting refl refl

dropped-room : (s : State) (e : Event) (r : Reply) (waiting : WaitingRequests) → (requests_dropped s e r waiting).numbers ≡ waiting.numbers
dropped-room s (event.Execute cpu i) r waiting = after-room waiting (sub_of s (subchannel_word i)) i r
dropped-room s e r waiting = refl

step-as : (s : State) (e : Event) (r : Reply) (new : State) → Step s e r new → IsAs s new
step-as s e r new step =
    let is : HasResult s e r new = step-turn s e r new step in
    let k : IsAs s is.left = turn-as s e r is.left is.turn in
    subst (IsAs s) (sym is.settles)
    (k.0, k.1, k.2, posted_all-room s.subs is.left.subs (requests_dropped s e r is.left.requests) ∙ (dropped-room s e r is.left.requests ∙ k.3), k.4)

pub step-blocks : (s : State) (e : Event) (r : Reply) (new : State) → Step s e r new → length new.storage.keys ≡ length s.storage.keys
step-blocks s e r new w = (step-as s e r new w).0

pub step-chpids : (s : State) (e : Event) (r : Reply) (new : State) → Step s e r new → new.chpids ≡ s.chpids
step-chpids s e r new w = (step-as s e r new w).1

pub step-groups : (s : State) (e : Event) (r : Reply) (new : State) → Step s e r new → map group_of new.members ≡ map group_of s.members
step-groups s e r new w = (step-as s e r new w).2

pub step-room : (s : State) (e : Event) (r : Reply) (new : State) → Step s e r new → new.requests.numbers ≡ s.requests.numbers
step-room s e r new w = (step-as s e r new w).3

pub step-return : (s : State) (e : Event) (r : Reply) (new : State) → Step s e r new → new.path_return ≡ s.path_return
step-return s e r new w = (step-as s e r new w).4
