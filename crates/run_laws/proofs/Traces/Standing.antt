-- Where a program stands still: no block is next, or the last suspended it.
use Rattle.std.proofs.Common.{◌≡◌, refl, ap, ◌∙◌, subst, ℕ, Bool, true, false, List, Option, Some, None}
use Rattle.std.specs.Prelude.{◌&&◌, ◌||◌, ◌==◌, not, if◌then◌else◌}
use Rattle.orb_block.specs.declared.Orb.{Orb}
use Rattle.ccw_codec.specs.declared.Ccw.{Ccw}
use Rattle.ccw_codec.specs.declared.CcwFault.{CcwFault}
use Rattle.ccw_codec.specs.Block.{ccw_of, fault_of}
use Rattle.ccw_codec.specs.Command.{is_transfer, is_valid}
use Rattle.ccw_walk.specs.declared.program.Advance.{Advance}
use Rattle.ccw_walk.specs.declared.program.Advance.TheVariants as advance
use Rattle.ccw_walk.specs.declared.check.Check.TheVariants.{Program}
use Rattle.ccw_walk.specs.declared.program.Role.{Role}
use Rattle.ccw_walk.specs.declared.program.Reading.{Reading}
use Rattle.ccw_walk.specs.declared.program.Reading.TheVariants.{Transfers, Takes, Suspends, Shows}
use Rattle.ccw_walk.specs.Sequences.{Sequence, Nothing, ◌▸◌, ◌▸▸◌}
use Rattle.ccw_walk.specs.Acts.{Act, Block, Unfetched, Used_up, End, Word}
use Rattle.ccw_walk.specs.Blocks.{format_of, block_reads, transfer_reads, command_reads, reads}
use Rattle.ccw_walk.specs.Programs.{next, next_after, role_of, role_after}
use Rattle.ccw_walk.specs.Positions.{WalkPosition, walk_position, after_acts}
use Rattle.ccw_walk.specs.Advancing.{advance_of_acts, advance_of_ccw}
use Rattle.run_laws.specs.ProgramClaims.{IsSuspended, shows_check, has_check, EndsAtCheck}

-- a block to which data is chained does not suspend the program
command-unchained : (x y s o c : Bool) (ccw : Ccw) → (if x || y || s && (o || c) then Shows else if s then Suspends else Takes ccw) ≡ Suspends → c ≡ false
command-unchained x y s o false ccw e = refl
command-unchained true y s o true ccw e = absurd (cc e)
command-unchained false true s o true ccw e = absurd (cc e)
command-unchained false false true true true ccw e = absurd (cc e)
command-unchained false false true false true ccw e = absurd (cc e)
command-unchained false false false o true ccw e = absurd (cc e)

transfer-unchained : (role : Role) (ccw : Ccw) (b : Bool) → (if b then Shows else Transfers ccw.address) ≡ Suspends → role.chained ≡ false
transfer-unchained role ccw true e = absurd (cc e)
transfer-unchained role ccw false e = absurd (cc e)

kind-unchained : (orb : Orb) (role : Role) (ccw : Ccw) (b : Bool) → (if b then transfer_reads role ccw else command_reads orb role ccw) ≡ Suspends → role.chained ≡ false
kind-unchained orb role ccw true e = transfer-unchained role ccw (role.first || role.after_transfer) e
kind-unchained orb role ccw false e =
    command-unchained (not role.chained && not (is_valid (format_of orb) ccw.command)) (role.chained && (ccw.count == 0)) ccw.suspend (not orb.suspend) role.chained ccw e

block-unchained : (orb : Orb) (role : Role) (fault : Option CcwFault) (ccw : Ccw) → block_reads orb role fault ccw ≡ Suspends → role.chained ≡ false
block-unchained orb role (Some fault) ccw e = absurd (cc e)
block-unchained orb role None ccw e = kind-unchained orb role ccw (is_transfer (format_of orb) ccw.command) e

first-unchained : (role : Role) (r : Reading) (b : Bool) → (r ≡ Suspends → role.chained ≡ false) → (if b then Shows else r) ≡ Suspends → role.chained ≡ false
first-unchained role r true f e = absurd (cc e)
first-unchained role r false f e = f e

reads-unchained : (orb : Orb) (role : Role) (bytes : List ℕ) → reads orb role bytes ≡ Suspends → role.chained ≡ false
reads-unchained orb role bytes =
    first-unchained role (block_reads orb role (fault_of (format_of orb) bytes) (ccw_of (format_of orb) bytes)) (role.first && orb.modified_words)
    (block-unchained orb role (fault_of (format_of orb) bytes) (ccw_of (format_of orb) bytes))

pub suspended-unchained : (orb : Orb) (acts : Sequence Act) → IsSuspended orb acts → (role_of orb acts).chained ≡ false
suspended-unchained orb (before ▸ Block address bytes) e =
    ap (λ (r : Reading). (role_after (role_of orb before) r).chained) e ∙ reads-unchained orb (role_of orb before) bytes e
suspended-unchained orb Nothing e = absurd e
suspended-unchained orb (before ▸ Unfetched address check) e = absurd e
suspended-unchained orb (before ▸ Used_up) e = absurd e
suspended-unchained orb (before ▸ End ended) e = absurd e
suspended-unchained orb (before ▸ Word word) e = absurd e

-- no check is there, and the block is next again
pub suspended-unchecked : (orb : Orb) (acts : Sequence Act) → IsSuspended orb acts → EndsAtCheck orb acts → has_check orb acts ≡ false
suspended-unchecked orb (before ▸ Block address bytes) e k = ap (λ (r : Reading). shows_check r || has_check orb before) e ∙ k.0
suspended-unchecked orb Nothing e k = absurd e
suspended-unchecked orb (before ▸ Unfetched address check) e k = absurd e
suspended-unchecked orb (before ▸ Used_up) e k = absurd e
suspended-unchecked orb (before ▸ End ended) e k = absurd e
suspended-unchecked orb (before ▸ Word word) e k = absurd e

pub suspended-next : (orb : Orb) (acts : Sequence Act) → IsSuspended orb acts → (address : ℕ) × (next orb acts ≡ Some address)
suspended-next orb (before ▸ Block address bytes) e = (address, ap (λ (r : Reading). next_after address r) e)
suspended-next orb Nothing e = absurd e
suspended-next orb (before ▸ Unfetched address check) e = absurd e
suspended-next orb (before ▸ Used_up) e = absurd e
suspended-next orb (before ▸ End ended) e = absurd e
suspended-next orb (before ▸ Word word) e = absurd e

-- after acts that come to this
abbrev pub Stands : Orb → Sequence Act → Advance → Type 0
Stands orb acts (advance.Takes ccw) = next orb acts ≡ None
Stands orb acts advance.Suspends = IsSuspended orb acts
Stands orb acts (advance.Stops check) = next orb acts ≡ None

block-stands : (orb : Orb) (before : Sequence Act) (address : ℕ) (bytes : List ℕ) (a : Advance) (r : Reading) → reads orb (role_of orb before) bytes ≡ r → advance_of_ccw r ≡ Some a →
    Stands orb (before ▸ Block address bytes) a
block-stands orb before address bytes a (Transfers target) e f = absurd (cc f)
block-stands orb before address bytes a (Takes ccw) e f =
    let same : advance.Takes ccw ≡ a = cc f in
    subst (λ (x : Advance). Stands orb (before ▸ Block address bytes) x) same (ap (λ (r : Reading). next_after address r) e)
block-stands orb before address bytes a Suspends e f =
    let same : advance.Suspends ≡ a = cc f in
    subst (λ (x : Advance). Stands orb (before ▸ Block address bytes) x) same e
block-stands orb before address bytes a Shows e f =
    let same : advance.Stops Program ≡ a = cc f in
    subst (λ (x : Advance). Stands orb (before ▸ Block address bytes) x) same (ap (λ (r : Reading). next_after address r) e)

pub acts-stand : (orb : Orb) (before acts : Sequence Act) (a : Advance) → ((xs : Sequence Act) → after_acts (walk_position orb before) xs ≡ walk_position orb (before ▸▸ xs)) →
    advance_of_acts (walk_position orb before) acts ≡ Some a → Stands orb (before ▸▸ acts) a
acts-stand orb before Nothing a leads e = absurd (cc e)
acts-stand orb before (acts ▸ Block address bytes) a leads e =
    block-stands orb (before ▸▸ acts) address bytes a (reads orb (role_of orb (before ▸▸ acts)) bytes) refl
    (subst (λ (w : WalkPosition). advance_of_ccw (reads w.orb w.role bytes) ≡ Some a) (leads acts) e)
acts-stand orb before (acts ▸ Unfetched address check) a leads e =
    let same : advance.Stops check ≡ a = cc e in
    subst (λ (x : Advance). Stands orb (before ▸▸ acts ▸ Unfetched address check) x) same refl
acts-stand orb before (acts ▸ Used_up) a leads e = absurd (cc e)
acts-stand orb before (acts ▸ End ended) a leads e = absurd (cc e)
acts-stand orb before (acts ▸ Word word) a leads e = absurd (cc e)
