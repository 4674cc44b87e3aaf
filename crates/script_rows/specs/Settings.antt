-- The rows of the lines that configure a machine (own).
use Rattle.std.specs.Prelude.{ℕ, List, [], ◌∷◌, Option, option_map, ok_or, Result, Err, codes}
use Rattle.channel_config.specs.declared.config.ConfigRule.{ConfigRule}
use Rattle.channel_config.specs.declared.parts.UnitKind.{UnitKind}
use Rattle.channel_config.specs.declared.parts.UnitKind.TheVariants.{Block, Console, Rejecting}
use Rattle.channel_config.specs.Setup.{Setup, with_storage, with_sets, with_path, with_unit, with_share, with_subchannel}
use Rattle.script_rows.specs.declared.settings.Setting.{Setting}
use Rattle.script_rows.specs.declared.settings.Setting.TheVariants.{Storage, Sets, Path, Unit, Share, Subchannel}
use Rattle.script_rows.specs.declared.words.LineRule.{LineRule}
use Rattle.script_rows.specs.declared.words.LineRule.TheVariants.{WrongCount, BadWord}
use Rattle.script_rows.specs.Words.{and_then, number, numbers_of, subchannel, with_one, with_two, named, Row, row_of}

-- what kind of unit a word names
abbrev pub kind_named : List ℕ → Option UnitKind
kind_named = named ((codes "block", Block) ∷ (codes "console", Console) ∷ (codes "reject", Rejecting) ∷ [])

-- units that share a control unit, at least two
abbrev pub share_row : List (List ℕ) → Result Setting LineRule
share_row (u ∷ v ∷ us) = ok_or (option_map Share (numbers_of (u ∷ v ∷ us))) BadWord
share_row words = Err WrongCount

-- a subchannel, its device and unit, and its paths
abbrev pub sub_row : List (List ℕ) → Result Setting LineRule
sub_row (s ∷ d ∷ u ∷ cs) =
    ok_or (and_then (subchannel s) (λ s. and_then (number d) (λ d. and_then (number u) (λ u. option_map (Subchannel s d u) (numbers_of cs))))) BadWord
sub_row words = Err WrongCount

-- the lines that configure a machine
abbrev pub setting_rows : List (Row Setting)
setting_rows =
    (codes "storage", with_one number Storage)  -- `storage BLOCKS`
    ∷ (codes "sets", with_one number Sets)  -- `sets COUNT`
    ∷ (codes "path", with_one number Path)  -- `path CHPID`
    ∷ (codes "unit", with_two number kind_named Unit)  -- `unit NUMBER KIND`
    ∷ (codes "share", share_row)  -- `share UNIT UNIT..`
    ∷ (codes "sub", sub_row)  -- `sub SUBCHANNEL DEVICE UNIT CHPID..`
    ∷ []

unfoldable pub setting_row : List ℕ → List (List ℕ) → Option (Result Setting LineRule)
setting_row w ws = row_of setting_rows w ws

-- the set-up with one more setting, or the rule of configurations that it breaks
abbrev pub configured : Setup → Setting → Result Setup ConfigRule
configured s (Storage blocks) = with_storage s blocks
configured s (Sets count) = with_sets s count
configured s (Path chpid) = with_path s chpid
configured s (Unit number kind) = with_unit s number kind
configured s (Share units) = with_share s units
configured s (Subchannel word device unit paths) = with_subchannel s word device unit paths
