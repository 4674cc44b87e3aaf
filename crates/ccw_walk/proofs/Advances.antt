-- How a program goes on.
use Rattle.std.proofs.Common.{◌≡◌, refl, ap, sym, ◌∙◌, subst, ℕ, Bool, true, false, ◌||◌, ◌&&◌, if◌then◌else◌, List, Option, Some, None, Result, Ok, Err, IsSome}
use Rattle.orb_block.specs.declared.Orb.{Orb}
use Rattle.ccw_codec.specs.declared.Ccw.{Ccw}
use Rattle.ccw_codec.specs.declared.CcwFault.{CcwFault}
use Rattle.ccw_codec.specs.Block.{ccw_of, fault_of}
use Rattle.ccw_codec.specs.Command.{is_transfer}
use Rattle.storage_keys.specs.declared.StorageFault.{StorageFault}
use Rattle.storage_keys.specs.Storage.{Contents, fetched}
use Rattle.ccw_walk.specs.declared.check.Check.{Check}
use Rattle.ccw_walk.specs.declared.check.Check.TheVariants.{Program}
use Rattle.ccw_walk.specs.Checks.{check_of}
use Rattle.ccw_walk.specs.declared.program.Advance.{Advance}
use Rattle.ccw_walk.specs.declared.program.Role.{Role}
use Rattle.ccw_walk.specs.declared.program.Reading.{Reading}
use Rattle.ccw_walk.specs.declared.program.Reading.TheVariants.{Transfers, Takes, Suspends, Shows}
use Rattle.ccw_walk.specs.Sequences.{Sequence, Nothing, ◌▸◌, ◌▸▸◌}
use Rattle.ccw_walk.specs.Acts.{Act, Block, Unfetched, Used_up, End, Word}
use Rattle.ccw_walk.specs.Blocks.{reads, block_reads, command_reads, transfer_reads, is_misplaced_command, format_of}
use Rattle.ccw_walk.specs.Programs.{next as next_of, next_after, role_of, role_after, IsProgram}
use Rattle.ccw_walk.specs.Advancing.{acts_from_next, acts_from_fetch, advance_of_act, advance_of_acts, with_tic_target, advance_of_ccw}
use Rattle.ccw_walk.specs.Positions.{WalkPosition, walk_position, after_act, after_acts, after_block}
use Rattle.ccw_walk.specs.Fetching.{is_program_misplaced, fetch_act, act_of_fetch}

-- the position some acts further
pub after-position : (orb : Orb) (before : Sequence Act) (act : Act) → after_act (walk_position orb before) act ≡ walk_position orb (before ▸ act)
after-position orb before (Block address bytes) = refl
after-position orb before (Unfetched address check) = refl
after-position orb before Used_up = refl
after-position orb before (End ended) = refl
after-position orb before (Word word) = refl

pub after_acts-position : (orb : Orb) (before acts : Sequence Act) → after_acts (walk_position orb before) acts ≡ walk_position orb (before ▸▸ acts)
after_acts-position orb before Nothing = refl
after_acts-position orb before (acts ▸ act) = ap (λ (p : WalkPosition). after_act p act) (after_acts-position orb before acts) ∙ after-position orb (before ▸▸ acts) act

-- a block is fetched, or cannot be
fetch_or_check : (P : Act → Type 0) (test : Bool) (address : ℕ) (answer : Result (List ℕ) StorageFault) → ((bytes : List ℕ) → P (Block address bytes)) → ((check : Check) → P (Unfetched address check))
    → P (if test then Unfetched address Program else act_of_fetch address answer)
fetch_or_check P true address answer b u = u Program
fetch_or_check P false address (Ok bytes) b u = b bytes
fetch_or_check P false address (Err fault) b u = u (check_of fault)

fetch_cases : (P : Act → Type 0) (storage : Contents) (orb : Orb) (role : Role) (address : ℕ) → ((bytes : List ℕ) → P (Block address bytes)) → ((check : Check) → P (Unfetched address check)) → P (fetch_act storage orb role address)
fetch_cases P storage orb role address b u = fetch_or_check P (role.first && is_program_misplaced orb address) address (fetched storage orb.key address 8) b u

-- a transfer in channel is followed by the block at its target
follows_block : (storage : Contents) (now : WalkPosition) (acts : Sequence Act) (address target : ℕ) (reading : Reading) → advance_of_ccw reading ≡ None → next_after address reading ≡ Some target
    → with_tic_target storage now reading acts ≡ acts ▸ fetch_act storage now.orb now.role target
follows_block storage now acts address target (Transfers other) h n =
    let same : other ≡ target = cc n in
    ap (λ (t : ℕ). acts ▸ fetch_act storage now.orb now.role t) same
follows_block storage now acts address target (Takes ccw) h n = absurd (cc h)
follows_block storage now acts address target Suspends h n = absurd (cc h)
follows_block storage now acts address target Shows h n = absurd (cc h)

pub follows : (storage : Contents) (old : WalkPosition) (address target : ℕ) → let act = fetch_act storage old.orb old.role address in
    advance_of_act old act ≡ None → (after_act old act).next ≡ Some target → acts_from_fetch storage old act ≡ Nothing ▸ act ▸ fetch_act storage (after_act old act).orb (after_act old act).role target
follows storage old address target =
    fetch_cases (λ act. advance_of_act old act ≡ None → (after_act old act).next ≡ Some target → acts_from_fetch storage old act ≡ Nothing ▸ act ▸ fetch_act storage (after_act old act).orb (after_act old act).role target) storage old.orb old.role address
    (λ bytes h n. follows_block storage (after_block old address bytes) (Nothing ▸ Block address bytes) address target (reads old.orb old.role bytes) h n)
    (λ check h n. absurd (cc h))

-- a transfer in channel says of the block at its target that it is one
role_moves : (reading : Reading) (role : Role) → advance_of_ccw reading ≡ None → (role_after role reading).after_transfer ≡ true
role_moves (Transfers target) role h = refl
role_moves (Takes ccw) role h = absurd (cc h)
role_moves Suspends role h = absurd (cc h)
role_moves Shows role h = absurd (cc h)

-- and there the program stands still, since that one is no transfer in channel
pick : (test : Bool) (left right : Reading) → IsSome (advance_of_ccw left) → IsSome (advance_of_ccw right) → IsSome (advance_of_ccw (if test then left else right))
pick true left right l r = l
pick false left right l r = r

transfer_stands : (first moved : Bool) (target : ℕ) → moved ≡ true → IsSome (advance_of_ccw (if first || moved then Shows else Transfers target))
transfer_stands true moved target h = refl
transfer_stands false true target h = refl
transfer_stands false false target h = absurd (cc h)

block_stands : (orb : Orb) (role : Role) (fault : Option CcwFault) (ccw : Ccw) → role.after_transfer ≡ true → IsSome (advance_of_ccw (block_reads orb role fault ccw))
block_stands orb role (Some fault) ccw h = refl
block_stands orb role None ccw h =
    pick (is_transfer (format_of orb) ccw.command) (transfer_reads role ccw) (command_reads orb role ccw) (transfer_stands role.first role.after_transfer ccw.address h)
    (pick (is_misplaced_command orb role ccw) Shows (if ccw.suspend then Suspends else Takes ccw) refl (pick ccw.suspend Suspends (Takes ccw) refl refl))

reading_stands : (orb : Orb) (role : Role) (bytes : List ℕ) → role.after_transfer ≡ true → IsSome (advance_of_ccw (reads orb role bytes))
reading_stands orb role bytes h =
    pick (role.first && orb.modified_words) Shows (block_reads orb role (fault_of (format_of orb) bytes) (ccw_of (format_of orb) bytes)) refl (block_stands orb role (fault_of (format_of orb) bytes) (ccw_of (format_of orb) bytes) h)

act_stands : (storage : Contents) (old : WalkPosition) (address : ℕ) → old.role.after_transfer ≡ true → IsSome (advance_of_act old (fetch_act storage old.orb old.role address))
act_stands storage old address h =
    fetch_cases (λ act. IsSome (advance_of_act old act)) storage old.orb old.role address (λ bytes. reading_stands old.orb old.role bytes h) (λ check. refl)

target_stands : (storage : Contents) (old now : WalkPosition) (acts : Sequence Act) (reading : Reading) → now ≡ after_acts old acts → advance_of_acts old acts ≡ advance_of_ccw reading → (advance_of_ccw reading ≡ None → now.role.after_transfer ≡ true)
    → IsSome (advance_of_acts old (with_tic_target storage now reading acts))
target_stands storage old now acts (Transfers target) n a t =
    subst (λ (p : WalkPosition). IsSome (advance_of_act p (fetch_act storage now.orb now.role target))) n (act_stands storage now target (t refl))
target_stands storage old now acts (Takes ccw) n a t = subst (λ (x : Option Advance). IsSome x) (sym a) refl
target_stands storage old now acts Suspends n a t = subst (λ (x : Option Advance). IsSome x) (sym a) refl
target_stands storage old now acts Shows n a t = subst (λ (x : Option Advance). IsSome x) (sym a) refl

pub advance_stands : (storage : Contents) (old : WalkPosition) (next : Option ℕ) → IsSome next → IsSome (advance_of_acts old (acts_from_next storage old next))
advance_stands storage old None s = absurd (cc s)
advance_stands storage old (Some address) s =
    fetch_cases (λ act. IsSome (advance_of_acts old (acts_from_fetch storage old act))) storage old.orb old.role address
    (λ bytes. target_stands storage old (after_block old address bytes) (Nothing ▸ Block address bytes) (reads old.orb old.role bytes) refl refl (λ h. role_moves (reads old.orb old.role bytes) old.role h))
    (λ check. refl)

pub rests : (storage : Contents) (old : WalkPosition) (next : Option ℕ) → IsSome (advance_of_acts old (acts_from_next storage old next)) → IsSome next
rests storage old None s = s
rests storage old (Some address) s = refl

-- each block is where what was done before says
program_target : (storage : Contents) (orb : Orb) (now : WalkPosition) (acts before : Sequence Act) (reading : Reading) → IsProgram orb (before ▸▸ acts)
    → ((target : ℕ) → reading ≡ Transfers target → next_of orb (before ▸▸ acts) ≡ Some target) → IsProgram orb (before ▸▸ with_tic_target storage now reading acts)
program_target storage orb now acts before (Transfers target) p n =
    fetch_cases (λ act. IsProgram orb ((before ▸▸ acts) ▸ act)) storage now.orb now.role target (λ bytes. (n target refl, p)) (λ check. (n target refl, p))
program_target storage orb now acts before (Takes ccw) p n = p
program_target storage orb now acts before Suspends p n = p
program_target storage orb now acts before Shows p n = p

pub program_advance : (storage : Contents) (orb : Orb) (before : Sequence Act) (next : Option ℕ) → next_of orb before ≡ next → IsProgram orb before → IsProgram orb (before ▸▸ acts_from_next storage (walk_position orb before) next)
program_advance storage orb before None e p = p
program_advance storage orb before (Some address) e p =
    fetch_cases (λ act. IsProgram orb (before ▸▸ acts_from_fetch storage (walk_position orb before) act)) storage orb (role_of orb before) address
    (λ bytes.
    program_target storage orb (after_block (walk_position orb before) address bytes) (Nothing ▸ Block address bytes) before (reads orb (role_of orb before) bytes) (e, p)
    (λ target h. ap (next_after address) h))
    (λ check. (e, p))
