-- What is said of a side of a unit, and of the program that holds its device, of one unit with two holds and of the units of a machine (own).
use Rattle.std.specs.Prelude.{◌≡◌, ℕ, Bool, true}
use Rattle.chan_model.specs.Signals.{Up}
use Rattle.chan_model.specs.declared.signal.Up.TheVariants as up

-- a side: the number that it answered last, and whether the unit was restarted since it last sent Cleared
pub record SideAnswered : Type 0 where
  pub number : ℕ
  pub restarted : Bool

abbrev pub IsRestarted : SideAnswered → Type 0
IsRestarted x = x.restarted ≡ true

-- what is taken at a subchannel is of the program that holds the device, where this is so of its number
abbrev pub ComesOfHolder : (ℕ → Type 0) → Up → Type 0
ComesOfHolder IsOfHolder (up.Data load t c n s) = IsOfHolder t
ComesOfHolder IsOfHolder (up.End t n status more) = IsOfHolder t
ComesOfHolder IsOfHolder (up.Leave t c) = IsOfHolder t
ComesOfHolder IsOfHolder signal = Unit {0}
