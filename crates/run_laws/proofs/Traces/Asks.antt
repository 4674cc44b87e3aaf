-- A block that takes control with its PCI flag one leaves the interruption to the command at work, and status is made of it.
use Rattle.std.proofs.Common.{◌≡◌, refl, ap, sym, ◌∙◌, subst, arith, ℕ, ◌+◌, ◌<◌, Bool, true, false, List, [], ◌∷◌, length, Option, Some, None, Result, Ok, Err, ◌++◌}
use Rattle.std.specs.Prelude.{◌||◌, ◌==◌, min, is_some, if◌then◌else◌, bit_or}
use Rattle.std.specs.Int.RustNames.{bit_and}
use Rattle.std.proofs.lemmas.Bool.{eq-eqb}
use Rattle.std.proofs.lemmas.Nat.{and_or_self}
use Rattle.orb_block.specs.declared.Orb.{Orb}
use Rattle.ccw_codec.specs.Command.{class_of}
use Rattle.storage_keys.specs.Storage.{Contents}
use Rattle.scsw_irb.specs.declared.scsw.Scsw.{Scsw}
use Rattle.scsw_irb.specs.declared.serials.Serials.{Serials}
use Rattle.scsw_irb.specs.Empty.{no_status}
use Rattle.scsw_irb.specs.Status.{has}
use Rattle.ccw_walk.specs.declared.check.Check.{Check}
use Rattle.ccw_walk.specs.declared.program.Advance.{Advance}
use Rattle.ccw_walk.specs.declared.program.Advance.TheVariants as advance
use Rattle.ccw_walk.specs.declared.program.Reading.{Reading}
use Rattle.ccw_walk.specs.declared.program.Reading.TheVariants.{Transfers}
use Rattle.ccw_walk.specs.declared.program.Ended.{Ended}
use Rattle.ccw_walk.specs.Sequences.{Sequence, Nothing, ◌▸◌, ◌▸▸◌}
use Rattle.ccw_walk.specs.Acts.{Act, Block, End, Used_up}
use Rattle.ccw_walk.specs.Blocks.{reads}
use Rattle.ccw_walk.specs.Programs.{next, role_of}
use Rattle.ccw_walk.specs.Advancing.{acts_from_next, advance_of_ccw, with_tic_target, acts_from_fetch, advance_acts, advance_of_acts}
use Rattle.ccw_walk.specs.Positions.{after_block, after_count_used_up, after_command_end, WalkPosition, walk_position, after_acts}
use Rattle.data_move.specs.Accesses as access
use Rattle.data_move.specs.Moving.{Moving, needs_word, residual, room}
use Rattle.idaw.specs.declared.WordFault.{WordFault}
use Rattle.idaw.specs.Lists.{word_fault}
use Rattle.data_move.specs.declared.transfer.Transfer.{Transfer}
use Rattle.data_move.specs.declared.transfer.CommandStart.{CommandStart}
use Rattle.data_move.specs.declared.transfer.CommandStart.TheVariants as outcome
use Rattle.data_move.specs.Commands.{begun_with_room, brings, command_begins, goes_to, has_stopped, located_transfer, next_command, transfer_of, with_located, with_room}
use Rattle.data_move.specs.FromDevice.{chunk_stored, after_store, bytes_brought_in, fitting_bytes}
use Rattle.data_move.specs.DataChaining.{data_chained, chained_from, with_next_ccw, chains_data, after_bytes_moved, with_bytes_moved}
use Rattle.data_move.specs.ToDevice.{with_bytes_offered, next_chunk, chunk_absorbed, with_chunk_counted, with_bytes_fetched}
use Rattle.subchannel_model.specs.declared.state.ActiveProgram.{ActiveProgram}
use Rattle.subchannel_model.specs.declared.state.SubchannelState.{SubchannelState}
use Rattle.subchannel_model.specs.declared.status.StatusRow.{StatusRow}
use Rattle.subchannel_model.specs.declared.cause.StatusCause.TheVariants as cause
use Rattle.subchannel_model.specs.Status.{no_device_status, no_subchannel_status, scsw_made, serials_made, with_joined}
use Rattle.subchannel_model.specs.Causes.{pci_shown, with_cause, scsw_joined}
use Rattle.subchannel_model.specs.Pci.{without_pci}
use Rattle.run_laws.specs.Interrupts.{asks_by, asked}
use Rattle.run_laws.specs.Traces.{CommandTrace}
use Rattle.run_laws.proofs.Traces.Advances.{fetch_cases}
use Rattle.run_laws.proofs.Traces.Fetches.{copy-same}
use Rattle.run_laws.proofs.Traces.MachineActs as doing
use Rattle.run_laws.proofs.Traces.MachineActs.{act_of_right, act_of_word, arriving, chained_acts, goes_acts, located_acts, next_acts, room_acts, storing, trace_answered, trace_moved_on, with_acts, with_arrival, with_places}
use Rattle.run_laws.proofs.Traces.Sequences.{joined-in-order}

-- what a program's going on asks for
abbrev pub asks_of : Option Advance → ℕ
asks_of (Some (advance.Takes ccw)) = if ccw.program_controlled then 1 else 0
asks_of other = 0

block-asks : (n : ℕ) (r : Reading) → n + asks_by r ≡ n + asks_of (advance_of_ccw r)
block-asks n (Transfers target) = refl
block-asks n other = refl

abbrev AsksTo : Orb → Sequence Act → Sequence Act → Type 0
AsksTo orb before acts = asked orb (before ▸▸ acts) ≡ asked orb before + asks_of (advance_of_acts (walk_position orb before) acts)

target-asks : (storage : Contents) (orb : Orb) (before : Sequence Act) (address : ℕ) (bytes : List ℕ) (r : Reading) → reads orb (role_of orb before) bytes ≡ r →
    AsksTo orb before (with_tic_target storage (after_block (walk_position orb before) address bytes) r (Nothing ▸ Block address bytes))
target-asks storage orb before address bytes (Transfers target) e =
    let mid : Sequence Act = before ▸ Block address bytes in
    let none : asked orb mid ≡ asked orb before = ap (λ (r : Reading). asked orb before + asks_by r) e ∙ omega arith in
    fetch_cases (λ act. AsksTo orb before (Nothing ▸ Block address bytes ▸ act)) storage orb (role_of orb mid) target
    (λ more. block-asks (asked orb mid) (reads orb (role_of orb mid) more)
    ∙ ap (λ (n : ℕ). n + asks_of (advance_of_ccw (reads orb (role_of orb mid) more))) none)
    (λ check. none ∙ omega arith)
target-asks storage orb before address bytes other e = block-asks (asked orb before) (reads orb (role_of orb before) bytes)

at-asks : (storage : Contents) (orb : Orb) (before : Sequence Act) (n : Option ℕ) → AsksTo orb before (acts_from_next storage (walk_position orb before) n)
at-asks storage orb before None = omega arith
at-asks storage orb before (Some address) =
    fetch_cases (λ act. AsksTo orb before (acts_from_fetch storage (walk_position orb before) act)) storage orb (role_of orb before) address
    (λ bytes. target-asks storage orb before address bytes (reads orb (role_of orb before) bytes) refl)
    (λ check. omega arith)

advance-asks : (storage : Contents) (orb : Orb) (before : Sequence Act) → AsksTo orb before (advance_acts storage (walk_position orb before))
advance-asks storage orb before = at-asks storage orb before (next orb before)

-- a block that asked leaves it to this command: so many asked before, and so many now
abbrev pub IsAsking : ℕ → ℕ → Transfer → Type 0
IsAsking n m t = (n < m → t.pci_pending ≡ true) × (t.pci_pending ≡ true → n < m)

asking-same : (n m p : ℕ) (t u : Transfer) → p ≡ m → u.pci_pending ≡ t.pci_pending → IsAsking n m t → IsAsking n p u
asking-same n m p t u e f a = (λ l. f ∙ a.0 (omega (arith, e, l)), λ x. let l : n < m = a.1 (sym f ∙ x) in omega (arith, e, l))

none-asking : (n m : ℕ) (t : Transfer) → m ≡ n → t.pci_pending ≡ false → IsAsking n m t
none-asking n m t e f = (λ l. absurd (omega (arith, e, l)), λ x. absurd (cc (sym f ∙ x)))

taken-asking : (n m : ℕ) (b : Bool) → m ≡ n + (if b then 1 else 0) → (_ : n < m → b ≡ true) × (b ≡ true → n < m)
taken-asking n m true e = (λ l. refl, λ x. omega (arith, e))
taken-asking n m false e = (λ l. absurd (omega (arith, e, l)), λ x. absurd (cc x))

-- words are no blocks
right-asked : (orb : Orb) (acts : Sequence Act) (word : ℕ) (f : Option WordFault) → asked orb (acts ▸▸ act_of_right f word) ≡ asked orb acts
right-asked orb acts word None = refl
right-asked orb acts word (Some fault) = refl

located-asked-by : (storage : Contents) (orb : Orb) (acts : Sequence Act) (t : Transfer) (b c : Bool) (w : Result ℕ Check) →
    asked orb (acts ▸▸ (if b then Nothing else (if c then act_of_word t.moving (length storage.bytes) w else Nothing))) ≡ asked orb acts
located-asked-by storage orb acts t true c w = refl
located-asked-by storage orb acts t false false w = refl
located-asked-by storage orb acts t false true (Ok word) = right-asked orb acts word (word_fault t.moving.kind (t.moving.words == 0) word (length storage.bytes))
located-asked-by storage orb acts t false true (Err check) = refl

located-asked : (storage : Contents) (orb : Orb) (acts : Sequence Act) (t : Transfer) → asked orb (acts ▸▸ located_acts storage t) ≡ asked orb acts
located-asked storage orb acts t =
    located-asked-by storage orb acts t (is_some t.fault) (needs_word t.moving) (access.word_fetched storage t.walk.orb.key t.moving)

-- nor do they, or a chunk that is given, turn it off
located-by-pci : (t : Transfer) (r : Result Moving Check) → (with_located t r).pci_pending ≡ t.pci_pending
located-by-pci t (Ok m) = refl
located-by-pci t (Err check) = refl

located-if-pci : (t : Transfer) (r : Result Moving Check) (b : Bool) → (if b then t else with_located t r).pci_pending ≡ t.pci_pending
located-if-pci t r true = refl
located-if-pci t r false = located-by-pci t r

located-pci : (storage : Contents) (t : Transfer) → (located_transfer storage t).pci_pending ≡ t.pci_pending
located-pci storage t = located-if-pci t (access.located storage t.walk.orb.key t.moving) (is_some t.fault)

given-by-pci : (t : Transfer) (r : Result (List ℕ) Check) → (with_bytes_fetched t r).transfer.pci_pending ≡ t.pci_pending
given-by-pci t (Ok bytes) = refl
given-by-pci t (Err check) = refl

given-if-pci : (t : Transfer) (r : Result (List ℕ) Check) (b : Bool) → (if b then with_bytes_offered t [] else with_bytes_fetched t r).transfer.pci_pending ≡ t.pci_pending
given-if-pci t r true = refl
given-if-pci t r false = given-by-pci t r

given-pci : (storage : Contents) (t : Transfer) → (next_chunk storage t).transfer.pci_pending ≡ t.pci_pending
given-pci storage t =
    let u : Transfer = located_transfer storage t in
    given-if-pci u (access.copied storage u.walk.orb.key u.moving) (has_stopped u) ∙ located-pci storage t

-- a command begins
abbrev pub BeginsAsking : Contents → ℕ → ℕ → CommandStart → Type 0
BeginsAsking storage n m (outcome.Begins t) = IsAsking n m (begun_with_room storage t).transfer
BeginsAsking storage n m outcome.Suspends = m ≡ n
BeginsAsking storage n m (outcome.Stops check) = m ≡ n

room-asking : (storage : Contents) (orb : Orb) (n : ℕ) (acts : Sequence Act) (t : Transfer) (b : Bool) → IsAsking n (asked orb acts) t →
    IsAsking n (asked orb (acts ▸▸ (if b then located_acts storage t else Nothing))) (if b then with_room storage t else record { transfer = t; room = 0 }).transfer
room-asking storage orb n acts t true a =
    asking-same n (asked orb acts) (asked orb (acts ▸▸ located_acts storage t)) t (located_transfer storage t) (located-asked storage orb acts t) (located-pci storage t) a
room-asking storage orb n acts t false a = a

begins-asking : (storage : Contents) (orb : Orb) (n : ℕ) (acts : Sequence Act) (walk : WalkPosition) (i : ℕ) (a : Option Advance) → asked orb acts ≡ n + asks_of a →
    BeginsAsking storage n (asked orb (acts ▸▸ room_acts storage (command_begins walk i a))) (command_begins walk i a)
begins-asking storage orb n acts walk i (Some (advance.Takes ccw)) e =
    let t : Transfer = transfer_of walk i ccw in
    room-asking storage orb n acts t (brings (class_of t.code)) (taken-asking n (asked orb acts) ccw.program_controlled e)
begins-asking storage orb n acts walk i other e = omega (arith, e)

pub goes-asking : (storage : Contents) (orb : Orb) (before : Sequence Act) (i : ℕ) →
    BeginsAsking storage (asked orb before) (asked orb (before ▸▸ goes_acts storage i (walk_position orb before))) (goes_to storage i (walk_position orb before)).outcome
goes-asking storage orb before i =
    let old : WalkPosition = walk_position orb before in
    let acts : Sequence Act = advance_acts storage old in
    let c : CommandStart = (goes_to storage i old).outcome in
    subst (λ (xs : Sequence Act). BeginsAsking storage (asked orb before) (asked orb xs) c) (sym (joined-in-order before acts (room_acts storage c)))
    (begins-asking storage orb (asked orb before) (before ▸▸ acts) (after_acts old acts) i (advance_of_acts old acts) (advance-asks storage orb before))

-- one is chained to
pub next-asking : (storage : Contents) (orb : Orb) (before : Sequence Act) (t : Transfer) (modifier : Bool) → t.walk ≡ walk_position orb before →
    BeginsAsking storage (asked orb before) (asked orb (before ▸▸ next_acts storage t modifier)) (next_command storage t modifier).outcome
next-asking storage orb before t modifier e =
    let ended : Ended = record { goes_on = true; modifier = modifier } in
    let i : ℕ = t.command + 1 in
    let old : WalkPosition = walk_position orb (before ▸ End ended) in
    subst
    (λ (w : WalkPosition). BeginsAsking storage (asked orb before) (asked orb (before ▸▸ (Nothing ▸ End ended ▸▸ goes_acts storage i (after_command_end w ended)))) (goes_to storage i (after_command_end w ended)).outcome)
    (sym e)
    (subst (λ (xs : Sequence Act). BeginsAsking storage (asked orb before) (asked orb xs) (goes_to storage i old).outcome) (sym (joined-in-order before (Nothing ▸ End ended) (goes_acts storage i old)))
    (goes-asking storage orb (before ▸ End ended) i))

-- data is chained
chained-by-asking : (n m : ℕ) (t : Transfer) (walk : WalkPosition) (a : Option Advance) → m ≡ n + asks_of a → t.pci_pending ≡ false → IsAsking n m (with_next_ccw t walk a)
chained-by-asking n m t walk (Some (advance.Takes ccw)) e f = taken-asking n m ccw.program_controlled e
chained-by-asking n m t walk (Some advance.Suspends) e f = none-asking n m (with_next_ccw t walk (Some advance.Suspends)) (omega (arith, e)) f
chained-by-asking n m t walk (Some (advance.Stops check)) e f = none-asking n m (with_next_ccw t walk (Some (advance.Stops check))) (omega (arith, e)) f
chained-by-asking n m t walk None e f = none-asking n m t (omega (arith, e)) f

chained-asking : (storage : Contents) (orb : Orb) (before : Sequence Act) (t : Transfer) → t.walk ≡ walk_position orb before → t.pci_pending ≡ false →
    IsAsking (asked orb before) (asked orb (before ▸▸ chained_acts storage t)) (data_chained storage t)
chained-asking storage orb before t e f =
    let used : Sequence Act = before ▸ Used_up in
    let old : WalkPosition = walk_position orb used in
    let news : Sequence Act = advance_acts storage old in
    let by : IsAsking (asked orb before) (asked orb (used ▸▸ news)) (chained_from storage t old) =
    chained-by-asking (asked orb before) (asked orb (used ▸▸ news)) t (after_acts old news) (advance_of_acts old news) (advance-asks storage orb used) f in
    subst
    (λ (w : WalkPosition). IsAsking (asked orb before) (asked orb (before ▸▸ (Nothing ▸ Used_up ▸▸ advance_acts storage (after_count_used_up w)))) (chained_from storage t (after_count_used_up w)))
    (sym e)
    (subst (λ (xs : Sequence Act). IsAsking (asked orb before) (asked orb xs) (chained_from storage t old)) (sym (joined-in-order before (Nothing ▸ Used_up) news)) by)

-- what was done for a command leaves it so
abbrev LeavesAsking : Orb → CommandTrace → CommandTrace → Transfer → Type 0
LeavesAsking orb p q t = IsAsking (asked orb p.acts) (asked orb q.acts) t

after_bytes_moved-asking : (storage : Contents) (orb : Orb) (p : CommandTrace) (t : Transfer) (n : ℕ) (b : Bool) → t.walk ≡ walk_position orb p.acts → t.pci_pending ≡ false →
    LeavesAsking orb p (if b then with_acts (with_places p t.moving n) (chained_acts storage (with_bytes_moved t n)) else with_places p t.moving n)
    (if b then data_chained storage (with_bytes_moved t n) else with_bytes_moved t n)
after_bytes_moved-asking storage orb p t n true e f = chained-asking storage orb p.acts (with_bytes_moved t n) e f
after_bytes_moved-asking storage orb p t n false e f = none-asking (asked orb p.acts) (asked orb p.acts) (with_bytes_moved t n) refl f

-- a Data of a command that takes bytes to the device
answered-asking : (storage : Contents) (orb : Orb) (p : CommandTrace) (t : Transfer) (s count : ℕ) (b : Bool) → t.walk ≡ walk_position orb p.acts → t.pci_pending ≡ false →
    LeavesAsking orb p (if b then trace_moved_on storage (with_chunk_counted t s count) (min count (room t.moving)) p else p)
    (if b then after_bytes_moved storage (with_chunk_counted t s count) (min count (room t.moving)) else t)
answered-asking storage orb p t s count true e f =
    let u : Transfer = with_chunk_counted t s count in
    let n : ℕ = min count (room t.moving) in
    after_bytes_moved-asking storage orb p u n (chains_data (with_bytes_moved u n) n) e f
answered-asking storage orb p t s count false e f = none-asking (asked orb p.acts) (asked orb p.acts) t refl f

pub gives-asking : (storage : Contents) (orb : Orb) (p : CommandTrace) (t : Transfer) (s count : ℕ) → t.walk ≡ walk_position orb p.acts → t.pci_pending ≡ false →
    LeavesAsking orb p (doing.gives storage t s count p) (next_chunk storage (chunk_absorbed storage t s count)).transfer
gives-asking storage orb p t s count e f =
    let u : Transfer = chunk_absorbed storage t s count in
    let q : CommandTrace = trace_answered storage t s count p in
    let same = copy-same storage (located_transfer storage u) (with_acts q (located_acts storage u)) in
    asking-same (asked orb p.acts) (asked orb q.acts) (asked orb (doing.gives storage t s count p).acts) u (next_chunk storage u).transfer
    (ap (λ (xs : Sequence Act). asked orb xs) same.0 ∙ located-asked storage orb q.acts u) (given-pci storage u)
    (answered-asking storage orb p t s count (s == t.sequence + 1) e f)

-- a Data of a command that brings bytes in
arrived-asking : (storage : Contents) (orb : Orb) (p : CommandTrace) (t : Transfer) (bytes : List ℕ) (r : Result Contents Check) → t.walk ≡ walk_position orb p.acts → t.pci_pending ≡ false →
    LeavesAsking orb p (with_arrival storage t bytes r p) (after_store storage t (length bytes) r).transfer
arrived-asking storage orb p t bytes (Ok after) e f =
    let q : CommandTrace = record p { arrived = p.arrived ++ record { former = storage.bytes; chunk = doing.chunk_of after t.moving bytes } ∷ [] } in
    after_bytes_moved-asking after orb q t (length bytes) (chains_data (with_bytes_moved t (length bytes)) (length bytes)) e f
arrived-asking storage orb p t bytes (Err check) e f = none-asking (asked orb p.acts) (asked orb p.acts) (record t { fault = Some check }) refl f

stored-asking : (storage : Contents) (orb : Orb) (p : CommandTrace) (t : Transfer) (bytes : List ℕ) (r : Result Contents Check) (b : Bool) → t.walk ≡ walk_position orb p.acts → t.pci_pending ≡ false →
    LeavesAsking orb p (if b then p else with_arrival storage t bytes r p) (if b then record { transfer = t; storage = storage } else after_store storage t (length bytes) r).transfer
stored-asking storage orb p t bytes r true e f = none-asking (asked orb p.acts) (asked orb p.acts) t refl f
stored-asking storage orb p t bytes r false e f = arrived-asking storage orb p t bytes r e f

brought-asking : (storage : Contents) (orb : Orb) (p : CommandTrace) (t : Transfer) (s : ℕ) (bytes : List ℕ) (b : Bool) → t.walk ≡ walk_position orb p.acts → t.pci_pending ≡ false →
    LeavesAsking orb p (if b then storing storage (record t { sequence = s }) (fitting_bytes t bytes) p else p)
    (if b then bytes_brought_in storage (record t { sequence = s }) (fitting_bytes t bytes) else record { transfer = t; storage = storage }).transfer
brought-asking storage orb p t s bytes true e f =
    stored-asking storage orb p (record t { sequence = s }) (fitting_bytes t bytes) (access.stored_or_skipped storage t.walk.orb.key t.moving (fitting_bytes t bytes)) (is_some t.fault) e f
brought-asking storage orb p t s bytes false e f = none-asking (asked orb p.acts) (asked orb p.acts) t refl f

pub takes_in-asking : (storage : Contents) (orb : Orb) (p : CommandTrace) (t : Transfer) (s : ℕ) (bytes : List ℕ) → t.walk ≡ walk_position orb p.acts → t.pci_pending ≡ false →
    LeavesAsking orb p (doing.takes_in storage t s bytes p) (located_transfer (chunk_stored storage t s bytes).storage (chunk_stored storage t s bytes).transfer)
takes_in-asking storage orb p t s bytes e f =
    let x = chunk_stored storage t s bytes in
    let q : CommandTrace = arriving storage t s bytes p in
    asking-same (asked orb p.acts) (asked orb q.acts) (asked orb (q.acts ▸▸ located_acts x.storage x.transfer)) x.transfer (located_transfer x.storage x.transfer)
    (located-asked x.storage orb q.acts x.transfer) (located-pci x.storage x.transfer)
    (brought-asking storage orb p t s bytes (s == t.sequence + 1) e f)

-- where the device is let go no command is sent
pub none-sent : {A B : Type 0} {o : Option A} → o ≡ None → is_some o ≡ true → B
none-sent {A} {B} {o} e f = absurd (cc (sym (ap (λ (x : Option A). is_some x) e) ∙ f))

-- the status of it
or-true : (a : Bool) → (a || true) ≡ true
or-true true = refl
or-true false = refl

abbrev pub IsIntermediate : Scsw → Type 0
IsIntermediate scsw = (scsw.status.intermediate ≡ true) × (has scsw.subchannel_status.0 0x80 ≡ true)

joined-asked : (b : Bool) (scsw : Scsw) (shown : StatusRow) → shown.conditions.intermediate ≡ true → shown.subchannel.0 ≡ 0x80 →
    IsIntermediate
    (if b then with_joined scsw scsw.status scsw.device_status scsw.subchannel_status shown
    else with_joined scsw no_status no_device_status no_subchannel_status shown)
joined-asked true scsw shown e f = (
  ap (λ (x : Bool). scsw.status.intermediate || x) e ∙ or-true scsw.status.intermediate,
  ap (λ (bits : ℕ). has (bit_or scsw.subchannel_status.0 bits) 0x80) f
      ∙ eq-eqb (bit_and (bit_or scsw.subchannel_status.0 0x80) 0x80) 0x80 (and_or_self 0x80 scsw.subchannel_status.0),
)
joined-asked false scsw shown e f =
    (e, ap (λ (bits : ℕ). has (bit_or 0 bits) 0x80) f ∙ eq-eqb (bit_and (bit_or 0 0x80) 0x80) 0x80 (and_or_self 0x80 0))

pci-made : (enabled : Bool) (scsw : Scsw) (x : Serials) (shown : StatusRow) → enabled ≡ true → shown.conditions.intermediate ≡ true → shown.subchannel.0 ≡ 0x80 →
    (x.made < (serials_made enabled x).made) × IsIntermediate (scsw_made enabled scsw shown)
pci-made true scsw x shown on e f = (omega arith, joined-asked scsw.status.pending scsw shown e f)
pci-made false scsw x shown on e f = absurd (cc on)

pub asked-interrupts : (s : SubchannelState) (b : ActiveProgram) (n m : ℕ) (x : Bool) → (n < m → x ≡ true) →
    let next : SubchannelState = if x then with_cause (record s { begun = Some (without_pci b) }) (cause.Pci b.transfer.walk.tried (residual b.transfer.moving)) else s in
    n < m → s.pmcw.enabled ≡ true → (s.serials.made < next.serials.made) × (next.scsw.status.intermediate ≡ true) × (has next.scsw.subchannel_status.0 0x80 ≡ true)
asked-interrupts s b n m true f l on =
    let made =
    pci-made s.pmcw.enabled (scsw_joined s.pmcw.enabled s.scsw s.scsw) s.serials
    (pci_shown (record s { begun = Some (without_pci b) }) b.transfer.walk.tried (residual b.transfer.moving)) on refl refl in
    (made.0, made.1.0, made.1.1)
asked-interrupts s b n m false f l on = absurd (cc (f l))

-- and none else
pub only-asked : (s : SubchannelState) (b : ActiveProgram) (n m : ℕ) (x : Bool) → (x ≡ true → n < m) →
    let next : SubchannelState = if x then with_cause (record s { begun = Some (without_pci b) }) (cause.Pci b.transfer.walk.tried (residual b.transfer.moving)) else s in
    s.serials.made < next.serials.made → n < m
only-asked s b n m true f l = f refl
only-asked s b n m false f l = absurd (omega (arith, l))
