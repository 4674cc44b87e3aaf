-- The signals between a subchannel and its unit, over lists of bytes, and the same over what else stands for their bytes (own).
use Rattle.std.specs.Prelude.{ℕ, Option, None, Some, List, [], take}
use Rattle.chan_model.specs.declared.chunk.Bytes.{Bytes}
use Rattle.chan_model.specs.declared.signal.Down as declared_down
use Rattle.chan_model.specs.declared.signal.Load as declared_load
use Rattle.chan_model.specs.declared.signal.OnPath.{OnPath}
use Rattle.chan_model.specs.declared.signal.Taken.{Taken}
use Rattle.chan_model.specs.declared.signal.Up as declared_up
use Rattle.chan_model.specs.declared.signal.Down.TheVariants as down
use Rattle.chan_model.specs.declared.signal.Load.TheVariants as load
use Rattle.chan_model.specs.declared.signal.Up.TheVariants as up

-- a signal down, with its bytes
abbrev pub Down : Type 0
Down = declared_down.Down (List ℕ)

-- what a Data brings: how many bytes were absorbed, or the bytes
abbrev pub Load : Type 0
Load = declared_load.Load (List ℕ)

-- a signal up, with what it brings
abbrev pub Up : Type 0
Up = declared_up.Up Load

-- a signal whose bytes stand elsewhere, so many of them
abbrev pub KeptDown : Type 0
KeptDown = declared_down.Down ℕ

abbrev pub KeptLoad : Type 0
KeptLoad = declared_load.Load ℕ

abbrev pub KeptUp : Type 0
KeptUp = declared_up.Up KeptLoad

-- the same signal over something else in place of its bytes
abbrev pub map_down : {A B : Type 0} → (A → B) → declared_down.Down A → declared_down.Down B
map_down f (down.Select number) = down.Select number
map_down f (down.Command number command code room) = down.Command number command code room
map_down f (down.Grant number connection) = down.Grant number connection
map_down f (down.Refuse number connection) = down.Refuse number connection
map_down f (down.Took number command sequence room) = down.Took number command sequence room
map_down f (down.Give bytes number connection command sequence) = down.Give (f bytes) number connection command sequence
map_down f (down.Halt number) = down.Halt number
map_down f (down.Release number) = down.Release number
map_down f (down.Reset number restarts) = down.Reset number restarts
map_down f (down.Got attention) = down.Got attention

abbrev pub map_load : {A B : Type 0} → (A → B) → declared_load.Load A → declared_load.Load B
map_load f (load.Absorbed count) = load.Absorbed count
map_load f (load.Bytes bytes) = load.Bytes (f bytes)

-- the same signal over another load
abbrev pub map_up : {A B : Type 0} → (A → B) → declared_up.Up A → declared_up.Up B
map_up f (up.Accept number) = up.Accept number
map_up f (up.Busy number) = up.Busy number
map_up f (up.Leave number connection) = up.Leave number connection
map_up f (up.Back number connection) = up.Back number connection
map_up f (up.Data l number connection command sequence) = up.Data (f l) number connection command sequence
map_up f (up.End number command status more) = up.End number command status more
map_up f (up.Released number) = up.Released number
map_up f (up.Cleared number) = up.Cleared number
map_up f (up.Notice restarts) = up.Notice restarts
map_up f (up.Attn attention status) = up.Attn attention status

-- a signal that is sent on a path, and what came of one that was met, over something else in place of the signal
abbrev pub map_sent : {A B : Type 0} → (A → B) → Option (OnPath A) → Option (OnPath B)
map_sent f None = None
map_sent f (Some sent) = Some (record { path = sent.path; signal = f sent.signal })

abbrev pub map_taken : {A B : Type 0} → (A → B) → Taken A → Taken B
map_taken f outcome = record { taken = outcome.taken; sent = map_sent f outcome.sent }

-- bytes that are lent, as a list, and a load of them
abbrev pub lent : Bytes → List ℕ
lent bytes = bytes.bytes.now

abbrev pub lent_load : declared_load.Load Bytes → Load
lent_load l = map_load lent l

-- what a signal whose bytes stand elsewhere is with the first of these bytes
abbrev pub down_in : KeptDown → List ℕ → Down
down_in kept bytes = map_down (λ n. take n bytes) kept

abbrev pub load_in : KeptLoad → List ℕ → Load
load_in kept bytes = map_load (λ n. take n bytes) kept

abbrev pub up_in : KeptUp → List ℕ → Up
up_in kept bytes = map_up (λ l. load_in l bytes) kept

-- the bytes of a signal, and how many stand elsewhere
abbrev pub down_bytes : Down → List ℕ
down_bytes (down.Give bytes number connection command sequence) = bytes
down_bytes signal = []

abbrev pub down_length : KeptDown → ℕ
down_length (down.Give bytes number connection command sequence) = bytes
down_length signal = 0

abbrev pub load_bytes : Load → List ℕ
load_bytes (load.Absorbed count) = []
load_bytes (load.Bytes bytes) = bytes

abbrev pub kept_length : KeptLoad → ℕ
kept_length (load.Absorbed count) = 0
kept_length (load.Bytes bytes) = bytes

-- what a Data brings; of another signal it is nothing
abbrev pub load_of : Up → Load
load_of (up.Data l number connection command sequence) = l
load_of signal = load.Absorbed 0

abbrev pub kept_load_of : KeptUp → KeptLoad
kept_load_of (up.Data l number connection command sequence) = l
kept_load_of signal = load.Absorbed 0

abbrev pub up_bytes : Up → List ℕ
up_bytes signal = load_bytes (load_of signal)

abbrev pub up_length : KeptUp → ℕ
up_length signal = kept_length (kept_load_of signal)
