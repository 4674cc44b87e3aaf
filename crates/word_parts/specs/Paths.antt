-- Lists of the paths of a mask, path 0 leftmost.
use Rattle.std.specs.Prelude.{ℕ, ◌+◌, ◌-◌, ◌/◌, ◌^◌, ◌==◌, Bool, List, [], ◌++◌, codes, slice_get, Option, None, Some, if◌then◌else◌}
use Rattle.zbits.specs.Flags.{flag_of}
use Rattle.word_parts.specs.Numbers.{hex_text}

abbrev pub bracketed_text : ℕ → List ℕ
bracketed_text chpid = (codes " (" ++ hex_text 2 chpid) ++ codes ")"

-- the identifier of a channel path, where it is known
abbrev pub chpid_text : Option ℕ → List ℕ
chpid_text None = []
chpid_text (Some chpid) = bracketed_text chpid

abbrev pub path_text : ℕ → Option ℕ → List ℕ
path_text path chpid = hex_text 1 path ++ chpid_text chpid

abbrev pub is_in : ℕ → ℕ → Bool
is_in mask path = flag_of mask (24 + path)

-- a separator, where a path of a lower index is in the mask
abbrev pub lead : ℕ → ℕ → List ℕ
lead mask path = if mask / 2 ^ (8 - path) == 0 then [] else codes ", "

abbrev pub item_text : ℕ → ℕ → List ℕ → List ℕ
item_text mask path chpids = if is_in mask path then lead mask path ++ path_text path (slice_get chpids path) else []

abbrev pub pair_text : ℕ → ℕ → List ℕ → List ℕ
pair_text mask first chpids = item_text mask first chpids ++ item_text mask (first + 1) chpids

abbrev pub half_text : ℕ → ℕ → List ℕ → List ℕ
half_text mask first chpids = pair_text mask first chpids ++ pair_text mask (first + 2) chpids

abbrev pub some_text : ℕ → List ℕ → List ℕ
some_text mask chpids = half_text mask 0 chpids ++ half_text mask 4 chpids

-- the paths of a mask, with the identifiers of the channel paths that are given
abbrev pub paths_text : ℕ → List ℕ → List ℕ
paths_text mask chpids = if mask == 0xFF then codes "all" else (if mask == 0 then codes "none" else some_text mask chpids)
