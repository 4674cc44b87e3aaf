-- What a device shows as it begins and ends a command, whatever its state is, and the bytes that it gives (own).
use Rattle.std.specs.Prelude.{ℕ, Bool, List, [], ◌∷◌, take, drop}
use Rattle.chan_model.specs.Reports.{DeviceAnswer}
use Rattle.chan_model.specs.declared.report.DeviceAnswer.TheVariants as answer
use Rattle.device_law.specs.Calls.{answer_of_initial}

-- The initial status of a command, and the device with it at hand.
pub record InitialStatus (S : Type 0) : Type 0 where
  pub status : ℕ
  pub state : S

-- The status that ends a command, whether it had more bytes to give, and the device with no command at hand.
pub record EndingStatus (S : Type 0) : Type 0 where
  pub status : ℕ
  pub more : Bool
  pub state : S

abbrev pub answer_of_begun : {S : Type 0} → InitialStatus S → DeviceAnswer
answer_of_begun b = answer_of_initial (record { 0 = b.status })

abbrev pub answer_of_ended : {S : Type 0} → EndingStatus S → DeviceAnswer
answer_of_ended e = answer.Ended (record { 0 = e.status }) e.more

-- the bytes from an index on, at most so many
abbrev pub part : List ℕ → ℕ → ℕ → List ℕ
part bytes index most = take most (drop index bytes)

-- the sense byte is zero once it is given
abbrev pub sense_left : ℕ → List ℕ → ℕ
sense_left sense [] = sense
sense_left sense (byte ∷ bytes) = 0
