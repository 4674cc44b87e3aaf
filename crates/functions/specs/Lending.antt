-- The subchannel-status word (SA22-7832, chapter 16), and what is beside the words, lent to be changed.
use Rattle.std.specs.Borrow.{Fml, Lends, MutBor}
use Rattle.scsw_irb.specs.declared.scsw.Scsw.{Scsw}
use Rattle.scsw_irb.specs.contracts.words.ScswWords.{the_row as scsw_row}
use Rattle.functions.specs.declared.rest.Rest.{Rest}
use Rattle.functions.specs.contracts.rest.Rest.{the_row as rest_row}
use Rattle.functions.specs.contracts.state.PackedState.{the_row}
use Rattle.functions.specs.Unwired.{Unwired, with_rest, with_scsw}

abbrev pub LendsRest : MutBor Unwired → MutBor Rest → Fml
LendsRest s r = Lends the_row rest_row s r (with_rest s.now)

abbrev pub LendsScsw : MutBor Unwired → MutBor Scsw → Fml
LendsScsw s r = Lends the_row scsw_row s r (with_scsw s.now)
