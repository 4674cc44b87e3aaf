-- A look from the one seat of a machine.
use Rattle.std.proofs.Common.{◌≡◌, ℕ, Option, None, Some, sym, ap, subst, ◌∙◌}
use Rattle.core_lock.specs.Entering.{Looks}
use Rattle.scsw_irb.specs.declared.serials.Serials.{Serials}
use Rattle.script_runner.specs.Acting.{Installed, LooksFrom, SeatLooks, glanced}

-- the machine has such a subchannel
pub found_there : (old new : Installed) (word : ℕ) (own : Option Serials) (found : Serials) → own ≡ Some found → Looks old.past.state old.books.seat word found new.books.seat →
    new ≡ record old { books = record old.books { seat = new.books.seat } } → LooksFrom old word own (glanced (Some found)) new
found_there old new word own found is looks same =
    (ap glanced (sym is), subst (λ (o : Option Serials). SeatLooks old.past.state old.books.seat word o new.books.seat) (sym is) looks, same)

-- it has none
pub none_there : (old new : Installed) (word : ℕ) (own : Option Serials) → own ≡ None → new ≡ old → LooksFrom old word own (glanced None) new
none_there old new word own is same = (
  ap glanced (sym is),
  subst (λ (o : Option Serials). SeatLooks old.past.state old.books.seat word o new.books.seat) (sym is) (ap (λ (i : Installed). i.books.seat) same),
  same ∙ ap (λ (i : Installed). record old { books = record old.books { seat = i.books.seat } }) (sym same),
)
