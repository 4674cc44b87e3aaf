-- What a program's going on does to its commands and to the data of the command at work.
use Rattle.std.proofs.Common.{◌≡◌, refl, ap, sym, ◌∙◌, subst, arith, ℕ, ◌≤◌, Bool, true, false, List, Option, Some, None, Result, Ok, Err}
use Rattle.std.specs.Prelude.{◌&&◌, ◌||◌, if◌then◌else◌}
use Rattle.orb_block.specs.declared.Orb.{Orb}
use Rattle.storage_keys.specs.declared.StorageFault.{StorageFault}
use Rattle.storage_keys.specs.Storage.{Contents, fetched}
use Rattle.ccw_walk.specs.declared.check.Check.{Check}
use Rattle.ccw_walk.specs.declared.check.Check.TheVariants.{Program}
use Rattle.ccw_walk.specs.Checks.{check_of}
use Rattle.ccw_walk.specs.declared.program.Advance.{Advance}
use Rattle.ccw_walk.specs.declared.program.Advance.TheVariants as advance
use Rattle.ccw_walk.specs.declared.program.Role.{Role}
use Rattle.ccw_walk.specs.declared.program.Reading.{Reading}
use Rattle.ccw_walk.specs.declared.program.Reading.TheVariants.{Transfers, Takes, Suspends, Shows}
use Rattle.ccw_walk.specs.Sequences.{Sequence, Nothing, ◌▸◌, ◌▸▸◌, count}
use Rattle.ccw_walk.specs.Acts.{Act, Block, Unfetched, Used_up, End, Word}
use Rattle.ccw_walk.specs.Blocks.{reads}
use Rattle.ccw_walk.specs.Programs.{Command, next, next_after, role_of, role_after, commands, commands_after}
use Rattle.ccw_walk.specs.Advancing.{acts_from_next, with_tic_target, advance_of_ccw, acts_from_fetch, advance_acts, advance_of_acts}
use Rattle.ccw_walk.specs.Positions.{after_block, WalkPosition, walk_position}
use Rattle.ccw_walk.specs.Fetching.{act_of_fetch, is_program_misplaced, fetch_act}
use Rattle.idaw.specs.Places.{Reach}
use Rattle.run_laws.specs.ProgramClaims.{shows_check, has_check, EndsAtCheck}
use Rattle.run_laws.specs.DataAreas.{data_areas, reaches_after}

-- a block is fetched, or cannot be
fetch_or_check : (P : Act → Type 0) (test : Bool) (address : ℕ) (answer : Result (List ℕ) StorageFault) → ((bytes : List ℕ) → P (Block address bytes)) →
    ((check : Check) → P (Unfetched address check)) → P (if test then Unfetched address Program else act_of_fetch address answer)
fetch_or_check P true address answer b u = u Program
fetch_or_check P false address (Ok bytes) b u = b bytes
fetch_or_check P false address (Err fault) b u = u (check_of fault)

pub fetch_cases : (P : Act → Type 0) (storage : Contents) (orb : Orb) (role : Role) (address : ℕ) → ((bytes : List ℕ) → P (Block address bytes)) →
    ((check : Check) → P (Unfetched address check)) → P (fetch_act storage orb role address)
fetch_cases P storage orb role address b u = fetch_or_check P (role.first && is_program_misplaced orb address) address (fetched storage orb.key address 8) b u

-- where a block takes control it joins the commands and the data; otherwise these stay, and where the program is suspended
-- the marks too
abbrev pub Went : Bool → Sequence Command → Sequence Command → Sequence Reach → Sequence Reach → Option ℕ → Role → Option Advance → Type 0
Went c cs ds rs qs n role (Some (advance.Takes ccw)) =
    (ds ≡ commands_after c cs (Takes ccw)) × (qs ≡ reaches_after c cs rs (Takes ccw)) × (n ≡ None) × (role.chained ≡ ccw.chain_data)
Went c cs ds rs qs n role (Some advance.Suspends) = (ds ≡ cs) × (qs ≡ rs) × (role.chained ≡ c)
Went c cs ds rs qs n role (Some (advance.Stops check)) = (ds ≡ cs) × (qs ≡ rs)
Went c cs ds rs qs n role None = (ds ≡ cs) × (qs ≡ rs)

block-went : (cs : Sequence Command) (rs : Sequence Reach) (address : ℕ) (role : Role) (r : Reading) →
    Went role.chained cs (commands_after role.chained cs r) rs (reaches_after role.chained cs rs r) (next_after address r) (role_after role r) (advance_of_ccw r)
block-went cs rs address role (Transfers target) = (refl, refl)
block-went cs rs address role (Takes ccw) = (refl, refl, refl, refl)
block-went cs rs address role Suspends = (refl, refl, refl)
block-went cs rs address role Shows = (refl, refl)

-- a check ends the program
abbrev pub UnlessStops : Option Advance → Bool → Type 0
UnlessStops (Some (advance.Stops check)) b = b ≡ true
UnlessStops a b = b ≡ false

block-checks : (r : Reading) (b : Bool) → b ≡ false → UnlessStops (advance_of_ccw r) (shows_check r || b)
block-checks Shows b e = refl
block-checks other b e = e

-- from the acts before to those after
abbrev pub WentTo : Orb → Sequence Act → Sequence Act → Type 0
WentTo orb before acts =
    Went (role_of orb before).chained (commands orb before) (commands orb (before ▸▸ acts)) (data_areas orb before) (data_areas orb (before ▸▸ acts))
    (next orb (before ▸▸ acts)) (role_of orb (before ▸▸ acts)) (advance_of_acts (walk_position orb before) acts)

went-from : (c d : Bool) (cs ds es : Sequence Command) (rs qs ps : Sequence Reach) (n : Option ℕ) (role : Role) (a : Option Advance) → d ≡ c → ds ≡ cs → qs ≡ rs →
    Went d ds es qs ps n role a → Went c cs es rs ps n role a
went-from c d cs ds es rs qs ps n role a e f g w =
    subst (λ (x : Bool). Went x cs es rs ps n role a) e
    (subst (λ (x : Sequence Command). Went d x es rs ps n role a) f (subst (λ (x : Sequence Reach). Went d ds es x ps n role a) g w))

target-went : (storage : Contents) (orb : Orb) (before : Sequence Act) (address : ℕ) (bytes : List ℕ) (r : Reading) → reads orb (role_of orb before) bytes ≡ r →
    WentTo orb before (with_tic_target storage (after_block (walk_position orb before) address bytes) r (Nothing ▸ Block address bytes))
target-went storage orb before address bytes (Transfers target) e =
    let role : Role = role_of orb before in
    let cs : Sequence Command = commands orb before in
    let rs : Sequence Reach = data_areas orb before in
    let mid : Sequence Act = before ▸ Block address bytes in
    let same : (role_of orb mid).chained ≡ role.chained = ap (λ (r : Reading). (role_after role r).chained) e in
    let commanded : commands orb mid ≡ cs = ap (λ (r : Reading). commands_after role.chained cs r) e in
    let reached : data_areas orb mid ≡ rs = ap (λ (r : Reading). reaches_after role.chained cs rs r) e in
    fetch_cases (λ act. WentTo orb before (Nothing ▸ Block address bytes ▸ act)) storage orb (role_of orb mid) target
    (λ more. went-from role.chained (role_of orb mid).chained cs (commands orb mid) _ rs (data_areas orb mid) _ _ (role_of orb (mid ▸ Block target more)) _ same commanded reached
    (block-went (commands orb mid) (data_areas orb mid) target (role_of orb mid) (reads orb (role_of orb mid) more)))
    (λ check. (commanded, reached))
target-went storage orb before address bytes other e = block-went (commands orb before) (data_areas orb before) address (role_of orb before) (reads orb (role_of orb before) bytes)

at-went : (storage : Contents) (orb : Orb) (before : Sequence Act) (n : Option ℕ) → WentTo orb before (acts_from_next storage (walk_position orb before) n)
at-went storage orb before None = (refl, refl)
at-went storage orb before (Some address) =
    fetch_cases (λ act. WentTo orb before (acts_from_fetch storage (walk_position orb before) act)) storage orb (role_of orb before) address
    (λ bytes. target-went storage orb before address bytes (reads orb (role_of orb before) bytes) refl)
    (λ check. (refl, refl))

pub advance-went : (storage : Contents) (orb : Orb) (before : Sequence Act) → WentTo orb before (advance_acts storage (walk_position orb before))
advance-went storage orb before = at-went storage orb before (next orb before)

-- none is fetched after a check
abbrev EndsTo : Orb → Sequence Act → Sequence Act → Type 0
EndsTo orb before acts = EndsAtCheck orb (before ▸▸ acts) × UnlessStops (advance_of_acts (walk_position orb before) acts) (has_check orb (before ▸▸ acts))

target-ends : (storage : Contents) (orb : Orb) (before : Sequence Act) (address : ℕ) (bytes : List ℕ) (r : Reading) → reads orb (role_of orb before) bytes ≡ r →
    has_check orb before ≡ false → EndsAtCheck orb before →
    EndsTo orb before (with_tic_target storage (after_block (walk_position orb before) address bytes) r (Nothing ▸ Block address bytes))
target-ends storage orb before address bytes (Transfers target) e h k =
    let mid : Sequence Act = before ▸ Block address bytes in
    let unchecked : has_check orb mid ≡ false = ap (λ (r : Reading). shows_check r || has_check orb before) e ∙ h in
    fetch_cases (λ act. EndsTo orb before (Nothing ▸ Block address bytes ▸ act)) storage orb (role_of orb mid) target
    (λ more. ((unchecked, (h, k)), block-checks (reads orb (role_of orb mid) more) (has_check orb mid) unchecked))
    (λ check. ((unchecked, (h, k)), refl))
target-ends storage orb before address bytes other e h k = ((h, k), block-checks (reads orb (role_of orb before) bytes) (has_check orb before) h)

at-ends : (storage : Contents) (orb : Orb) (before : Sequence Act) (n : Option ℕ) → has_check orb before ≡ false → EndsAtCheck orb before →
    EndsTo orb before (acts_from_next storage (walk_position orb before) n)
at-ends storage orb before None h k = (k, h)
at-ends storage orb before (Some address) h k =
    fetch_cases (λ act. EndsTo orb before (acts_from_fetch storage (walk_position orb before) act)) storage orb (role_of orb before) address
    (λ bytes. target-ends storage orb before address bytes (reads orb (role_of orb before) bytes) refl h k)
    (λ check. ((h, k), refl))

pub advance-ends : (storage : Contents) (orb : Orb) (before : Sequence Act) → has_check orb before ≡ false → EndsAtCheck orb before →
    EndsTo orb before (advance_acts storage (walk_position orb before))
advance-ends storage orb before h k = at-ends storage orb before (next orb before) h k

-- where a block is next, one is fetched
from-some : (storage : Contents) (old : WalkPosition) (act : Act) → 1 ≤ count (acts_from_fetch storage old act)
from-some storage old (Block address bytes) = by (reads old.orb old.role bytes)
  where
    by : (r : Reading) → 1 ≤ count (with_tic_target storage (after_block old address bytes) r (Nothing ▸ Block address bytes))
    by (Transfers target) = omega arith
    by (Takes ccw) = omega arith
    by Suspends = omega arith
    by Shows = omega arith
from-some storage old (Unfetched address check) = omega arith
from-some storage old Used_up = omega arith
from-some storage old (End ended) = omega arith
from-some storage old (Word word) = omega arith

pub advance-some : (storage : Contents) (orb : Orb) (before : Sequence Act) (address : ℕ) → next orb before ≡ Some address →
    1 ≤ count (advance_acts storage (walk_position orb before))
advance-some storage orb before address e =
    let old : WalkPosition = walk_position orb before in
    subst (λ (n : Option ℕ). 1 ≤ count (acts_from_next storage old n)) (sym e) (from-some storage old (fetch_act storage orb old.role address))
