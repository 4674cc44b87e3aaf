-- Signals that are kept are told by what they are: by their numbers and by their bytes.
use Rattle.std.proofs.Common.{◌≡◌, ◌≤◌, ℕ, refl, ap, List, ◌++◌, length, take, length-take-le}
use Rattle.std.proofs.lemmas.List.{take-append-le}
use Rattle.chan_model.specs.declared.signal.Down.TheVariants as down
use Rattle.chan_model.specs.declared.signal.Load.TheVariants as load
use Rattle.chan_model.specs.declared.signal.Up.TheVariants as up
use Rattle.chan_model.specs.Signals.{Down, KeptDown, KeptUp, Up, map_down, map_load, map_up, down_in, down_length, down_bytes, up_in, up_length, up_bytes}

-- what is kept of signals
abbrev pub kept_of_down : Down → KeptDown
kept_of_down signal = map_down length signal

abbrev pub kept_of_up : Up → KeptUp
kept_of_up signal = map_up (λ l. map_load length l) signal

-- A kept signal is what is kept of the signal that it is with its bytes; this has these bytes; what follows them makes no difference.
pub record DownKept (k : KeptDown) : Type 0 where
  pub same : (bytes : List ℕ) → down_length k ≤ length bytes → kept_of_down (down_in k bytes) ≡ k
  pub brings : (bytes : List ℕ) → down_bytes (down_in k bytes) ≡ take (down_length k) bytes
  pub front : (bytes rest : List ℕ) → down_length k ≤ length bytes → down_in k (bytes ++ rest) ≡ down_in k bytes

pub record UpKept (k : KeptUp) : Type 0 where
  pub same : (bytes : List ℕ) → up_length k ≤ length bytes → kept_of_up (up_in k bytes) ≡ k
  pub brings : (bytes : List ℕ) → up_bytes (up_in k bytes) ≡ take (up_length k) bytes
  pub front : (bytes rest : List ℕ) → up_length k ≤ length bytes → up_in k (bytes ++ rest) ≡ up_in k bytes

pub down-kept : (k : KeptDown) → DownKept k
down-kept (down.Select number) = record { same = λ bytes fits. refl; brings = λ bytes. refl; front = λ bytes rest fits. refl }
down-kept (down.Command number command code room) = record { same = λ bytes fits. refl; brings = λ bytes. refl; front = λ bytes rest fits. refl }
down-kept (down.Grant number connection) = record { same = λ bytes fits. refl; brings = λ bytes. refl; front = λ bytes rest fits. refl }
down-kept (down.Refuse number connection) = record { same = λ bytes fits. refl; brings = λ bytes. refl; front = λ bytes rest fits. refl }
down-kept (down.Took number command sequence room) = record { same = λ bytes fits. refl; brings = λ bytes. refl; front = λ bytes rest fits. refl }
down-kept (down.Give count number connection command sequence) =
    record {
      same = λ bytes fits. ap (λ n. down.Give n number connection command sequence) (length-take-le count bytes fits);
      brings = λ bytes. refl;
      front = λ bytes rest fits. ap (λ bs. down.Give bs number connection command sequence) (take-append-le count bytes rest fits);
    }
down-kept (down.Halt number) = record { same = λ bytes fits. refl; brings = λ bytes. refl; front = λ bytes rest fits. refl }
down-kept (down.Release number) = record { same = λ bytes fits. refl; brings = λ bytes. refl; front = λ bytes rest fits. refl }
down-kept (down.Reset number restarts) = record { same = λ bytes fits. refl; brings = λ bytes. refl; front = λ bytes rest fits. refl }
down-kept (down.Got attention) = record { same = λ bytes fits. refl; brings = λ bytes. refl; front = λ bytes rest fits. refl }

pub up-kept : (k : KeptUp) → UpKept k
up-kept (up.Accept number) = record { same = λ bytes fits. refl; brings = λ bytes. refl; front = λ bytes rest fits. refl }
up-kept (up.Busy number) = record { same = λ bytes fits. refl; brings = λ bytes. refl; front = λ bytes rest fits. refl }
up-kept (up.Leave number connection) = record { same = λ bytes fits. refl; brings = λ bytes. refl; front = λ bytes rest fits. refl }
up-kept (up.Back number connection) = record { same = λ bytes fits. refl; brings = λ bytes. refl; front = λ bytes rest fits. refl }
up-kept (up.Data (load.Absorbed count) number connection command sequence) = record { same = λ bytes fits. refl; brings = λ bytes. refl; front = λ bytes rest fits. refl }
up-kept (up.Data (load.Bytes count) number connection command sequence) =
    record {
      same = λ bytes fits. ap (λ n. up.Data (load.Bytes n) number connection command sequence) (length-take-le count bytes fits);
      brings = λ bytes. refl;
      front = λ bytes rest fits. ap (λ bs. up.Data (load.Bytes bs) number connection command sequence) (take-append-le count bytes rest fits);
    }
up-kept (up.End number command status more) = record { same = λ bytes fits. refl; brings = λ bytes. refl; front = λ bytes rest fits. refl }
up-kept (up.Released number) = record { same = λ bytes fits. refl; brings = λ bytes. refl; front = λ bytes rest fits. refl }
up-kept (up.Cleared number) = record { same = λ bytes fits. refl; brings = λ bytes. refl; front = λ bytes rest fits. refl }
up-kept (up.Notice restarts) = record { same = λ bytes fits. refl; brings = λ bytes. refl; front = λ bytes rest fits. refl }
up-kept (up.Attn attention status) = record { same = λ bytes fits. refl; brings = λ bytes. refl; front = λ bytes rest fits. refl }
