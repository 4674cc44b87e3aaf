-- A machine that runs, with what of storage its host need not have (own).
use Rattle.std.specs.Prelude.{ℕ, List}
use Rattle.channel_subsystem.specs.Hosting.{Hosted}

-- the channel subsystem; a key for each block of storage, for calls that lend none, and the prefix of each CPU
pub record Running : Type 0 where
  pub subsystem : Hosted
  pub keys : List ℕ
  pub prefixes : List ℕ
