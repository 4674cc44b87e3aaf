-- A look with the machine at hand.
use Rattle.std.proofs.Common.{◌≡◌, ◌+◌, ℕ, List, length, Option, None, Some, refl, sym, ap, ◌∙◌}
use Rattle.std.specs.Prelude.{slice_get, slice_set, option_map}
use Rattle.std.proofs.lemmas.List.{length-set}
use Rattle.std.proofs.lemmas.Option.{slice_get-map, get_or_from_slice_get}
use Rattle.std.proofs.Math.Seq.{map-set_same}
use Rattle.scsw_irb.specs.declared.serials.Serials.{Serials}
use Rattle.subchannel_model.specs.declared.state.Subchannel.{Subchannel}
use Rattle.subchannel_model.specs.Indices.{sub_at}
use Rattle.machine_model.specs.State.{State, serials_in, sub_of}
use Rattle.subsystem.specs.Keeping.{all_serials}
use Rattle.glance_cell.specs.Shown.{Words}
use Rattle.glance_directory.specs.Directory.{Directory, directory_of, index_named}
use Rattle.glance_directory.specs.Cells.{cell_of, cells_of, counts_of, shown}
use Rattle.glance_directory.specs.Raising.{greater}
use Rattle.core_lock.specs.Seats.{Seated}
use Rattle.core_lock.specs.Entering.{LoadsAt, Looks}
use Rattle.glance_directory.proofs.Directories.{index_is}

-- a reader and the writer of one index are of one cell
pub cell_at : (readers writers : List Words) (index : ℕ) (reader writer : Words) → cells_of readers ≡ cells_of writers → slice_get readers index ≡ Some reader →
    slice_get writers index ≡ Some writer → reader.cell ≡ writer.cell
cell_at readers writers index reader writer same there here =
    let e : Some reader.cell ≡ Some writer.cell =
    sym (slice_get-map cell_of readers index ∙ ap (option_map cell_of) there) ∙ ap (λ l. slice_get l index) same ∙ slice_get-map cell_of writers index ∙ ap (option_map cell_of) here in
    cc e

-- what a writer shows is shown at its place
pub shown_there : (writers : List Words) (index : ℕ) (writer : Words) → slice_get writers index ≡ Some writer → slice_get (shown writers) index ≡ Some (counts_of writer)
shown_there writers index writer here = slice_get-map counts_of writers index ∙ ap (option_map counts_of) here

abbrev serials_of_sub : Subchannel → Serials
serials_of_sub sub = sub.state.serials

in_sub : (o : Option Subchannel) → serials_in o ≡ option_map serials_of_sub o
in_sub None = refl
in_sub (Some sub) = refl

-- a subchannel that the directory has is one that the machine has, with these serials
pub has_at : (s : State) (d : Directory) (word index : ℕ) (found : Serials) → directory_of s ≡ d → index_named d word ≡ Some index → slice_get (all_serials s) index ≡ Some found
    → serials_in (sub_of s word) ≡ Some found
has_at s d word index found is named there =
    ap (λ (o : Option ℕ). serials_in (sub_at s.subs o)) (sym (index_is s word) ∙ ap (λ (x : Directory). index_named x word) is ∙ named)
    ∙ in_sub (slice_get s.subs index) ∙ sym (slice_get-map serials_of_sub s.subs index) ∙ there

-- and one that it does not have the machine has not
pub lacks : (s : State) (d : Directory) (word : ℕ) → directory_of s ≡ d → index_named d word ≡ None → sub_of s word ≡ None
lacks s d word is named = ap (λ (o : Option ℕ). sub_at s.subs o) (sym (index_is s word) ∙ ap (λ (x : Directory). index_named x word) is ∙ named)

-- a reader that loaded is of its cell still
pub same_cells : (old new : List Words) (index : ℕ) (found : Serials) → LoadsAt old index found new → cells_of new ≡ cells_of old
same_cells old new index found (before, there, is) =
    let after : Words = record before { made = found.made; cleared = found.cleared; loads = before.loads + 1 } in
    ap cells_of is ∙ map-set_same cell_of old index after before (ap cell_of (sym (get_or_from_slice_get old index before before there)))

pub same_count : (old new : List Words) (index : ℕ) (found : Serials) → LoadsAt old index found new → length new ≡ length old
same_count old new index found (before, there, is) = ap length is ∙ length-set old index (record before { made = found.made; cleared = found.cleared; loads = before.loads + 1 })

-- what a look finds and leaves
pub looks : (s : State) (seat : Seated) (d : Directory) (word index : ℕ) (pair found : Serials) (readers : List Words) → directory_of s ≡ d → d ≡ seat.directory → index_named d word ≡ Some index
    → slice_get (all_serials s) index ≡ Some found → slice_get seat.seen_serials index ≡ Some pair → LoadsAt seat.loaded index found readers
    → Looks s seat word found (record seat { seen_serials = slice_set seat.seen_serials index (greater pair found); loaded = readers })
looks s seat d word index pair found readers is same named has saw (before, there, loaded) =
    let words : Words = record before { made = found.made; cleared = found.cleared; loads = before.loads + 1 } in
    record {
      index = index;
      pair = pair;
      words = words;
      load = record {
        before = before;
        named = sym (ap (λ (x : Directory). index_named x word) same) ∙ named;
        saw = saw;
        had = there;
        cell = refl;
        loads = refl;
      };
      found_is = refl;
      has = has_at s d word index found is named has;
      leaves = ap (λ (l : List Words). record seat { seen_serials = slice_set seat.seen_serials index (greater pair found); loaded = l }) loaded;
    }
