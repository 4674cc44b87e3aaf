-- Pairs that are raised stay in order.
use Rattle.std.proofs.Common.{◌≡◌, ℕ, zero, suc, List, [], ◌∷◌, length, get_or, set, Option, None, Some, refl, arith}
use Rattle.std.specs.Prelude.{All, IfSome}
use Rattle.std.proofs.lemmas.List.{length-set}
use Rattle.std.proofs.lemmas.List.Elements.{All-set}
use Rattle.scsw_irb.specs.declared.serials.Serials.{Serials}
use Rattle.chan_events.specs.Events.{Event}
use Rattle.chan_events.specs.declared.event.Event.TheVariants as event
use Rattle.chan_events.specs.declared.event.Instruction.{Instruction}
use Rattle.chan_events.specs.declared.event.Instruction.TheVariants as instruction
use Rattle.chan_events.specs.Replies.{Reply}
use Rattle.run_laws.specs.CodeSteps.{answer_in}
use Rattle.subsystem.specs.Keeping.{BringsOrdered, IsOrdered, serials_brought}
use Rattle.glance_directory.specs.Directory.{Directory, index_named}
use Rattle.glance_directory.specs.Raising.{greater, raised_among, raised_at, raised_by}

pub get_ordered : (seen_serials : List Serials) (k : ℕ) (s : Serials) → All IsOrdered seen_serials → IsOrdered s → IsOrdered (get_or seen_serials k s)
get_ordered [] k s all one = one
get_ordered (p ∷ seen_serials) zero s all one = all 0 s (omega arith)
get_ordered (p ∷ seen_serials) (suc k) s all one = get_ordered seen_serials k s (λ j d lt. all (suc j) d (omega arith)) one

pub greater_ordered : (one other : Serials) → IsOrdered one → IsOrdered other → IsOrdered (greater one other)
greater_ordered one other p q = omega arith

pub set_ordered : (seen_serials : List Serials) (k : ℕ) (s : Serials) → All IsOrdered seen_serials → IsOrdered s → All IsOrdered (set seen_serials k s)
set_ordered seen_serials k s all one = All-set IsOrdered seen_serials k s one all

at_ordered : (seen_serials : List Serials) (index : Option ℕ) (s : Serials) → All IsOrdered seen_serials → IsOrdered s → All IsOrdered (raised_at seen_serials index s)
at_ordered seen_serials None s all one = all
at_ordered seen_serials (Some k) s all one = set_ordered seen_serials k _ all (greater_ordered (get_or seen_serials k s) s (get_ordered seen_serials k s all one) one)

by_ordered : (seen_serials : List Serials) (index : Option ℕ) (o : Option Serials) → All IsOrdered seen_serials → IfSome o IsOrdered → All IsOrdered (raised_by seen_serials index o)
by_ordered seen_serials index None all one = all
by_ordered seen_serials index (Some s) all one = at_ordered seen_serials index s all one

instruction_ordered : (seen_serials : List Serials) (d : Directory) (cpu : ℕ) (i : Instruction) (r : Reply) → All IsOrdered seen_serials → IfSome (serials_brought (answer_in r)) IsOrdered → All IsOrdered (raised_among seen_serials d (event.Execute cpu i) r)
instruction_ordered seen_serials d cpu (instruction.Tsch word address) r all one = by_ordered seen_serials (index_named d word) (serials_brought (answer_in r)) all one
instruction_ordered seen_serials d cpu i r all one = all

pub raised_ordered : (seen_serials : List Serials) (d : Directory) (e : Event) (r : Reply) → BringsOrdered e r → All IsOrdered seen_serials → All IsOrdered (raised_among seen_serials d e r)
raised_ordered seen_serials d (event.Execute cpu i) r one all = instruction_ordered seen_serials d cpu i r all one
raised_ordered seen_serials d e r one all = all

at_length : (seen_serials : List Serials) (index : Option ℕ) (s : Serials) → length (raised_at seen_serials index s) ≡ length seen_serials
at_length seen_serials None s = refl
at_length seen_serials (Some k) s = length-set seen_serials k _

by_length : (seen_serials : List Serials) (index : Option ℕ) (o : Option Serials) → length (raised_by seen_serials index o) ≡ length seen_serials
by_length seen_serials index None = refl
by_length seen_serials index (Some s) = at_length seen_serials index s

instruction_length : (seen_serials : List Serials) (d : Directory) (cpu : ℕ) (i : Instruction) (r : Reply) → length (raised_among seen_serials d (event.Execute cpu i) r) ≡ length seen_serials
instruction_length seen_serials d cpu (instruction.Tsch word address) r = by_length seen_serials (index_named d word) (serials_brought (answer_in r))
instruction_length seen_serials d cpu i r = refl

pub raised_length : (seen_serials : List Serials) (d : Directory) (e : Event) (r : Reply) → length (raised_among seen_serials d e r) ≡ length seen_serials
raised_length seen_serials d (event.Execute cpu i) r = instruction_length seen_serials d cpu i r
raised_length seen_serials d e r = refl
