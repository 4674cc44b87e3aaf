use Rattle.std.proofs.Common.{◌<◌, length, set, refl, arith, sym, ap, ◌∙◌, subst}
use Rattle.std.specs.Prelude.{slice_get}
use Rattle.std.proofs.lemmas.List.{length-set}
use Rattle.std.proofs.lemmas.Option.{slice_get_read}
use Rattle.std.proofs.Math.Seq.{map-set_same}
use Rattle.subsystem.specs.Keeping.{IsOrdered}
use Rattle.glance_directory.specs.Directory.{Directory, index_named}
use Rattle.glance_directory.specs.Cells.{cell_of, serials}
use Rattle.glance_directory.specs.Raising.{greater}
use Rattle.core_lock.specs.Seats.{HeldSeat}
use Rattle.core_lock.proofs.Raising.{set_ordered, greater_ordered}
use Rattle.core_lock.proofs.locked.Seat.glance.Goals as goal

pub invariant_of-self : goal.invariant_of-self
invariant_of-self g c =
    let i = c.self.invariant in
    let k = c.in-Some.index in
    let seen_serials = c.self.inside.seen_serials.items in
    let readers = c.self.inside.readers.items in
    let pair = c.index-pair.result.now in
    let now = c.greater-found.result in
    let found = serials c.load-loaded.result.made c.load-loaded.result.cleared in
    let lt : k < length seen_serials = omega (arith, c.in-Some.ensures.bound, ap (λ (d : Directory). length d.setups) c.deref.ensures, i.names, i.beside) in
    let le = greater_ordered pair found (subst IsOrdered (sym c.index-pair.ensures) (i.ordered k pair lt)) c.load-loaded.ensures.ordered in
    record {
      share = i.share;
      turns = i.turns;
      entries = i.entries;
      fresh = i.fresh;
      beside = length-set seen_serials k now ∙ i.beside ∙ sym (length-set readers k c.load-loaded.new.self);
      ordered = set_ordered seen_serials k now i.ordered (subst IsOrdered (sym c.greater-found.ensures) le);
      cells = map-set_same cell_of readers k c.load-loaded.new.self c.index_mut-reader.result.now (c.load-loaded.ensures.cell ∙ ap cell_of c.index_mut-reader.ensures.value) ∙ i.cells;
      names = i.names ∙ sym (length-set readers k c.load-loaded.new.self);
      directory = i.directory;
    }

pub returns-clause-found : goal.returns-clause-found
returns-clause-found g c =
    let i = c.self.invariant in
    let k = c.in-Some.index in
    let seen_serials = c.self.inside.seen_serials.items in
    let readers = c.self.inside.readers.items in
    let pair = c.index-pair.result.now in
    let w = c.load-loaded.new.self in
    let was = c.index_mut-reader.result.now in
    let v = c.load-loaded.ensures.value in
    let lt : k < length seen_serials = omega (arith, c.in-Some.ensures.bound, ap (λ (d : Directory). length d.setups) c.deref.ensures, i.names, i.beside) in
    let is = c.self.view_is in
    record {
      index = k;
      pair = pair;
      words = w;
      load = record {
        before = was;
        named = ap (λ (s : HeldSeat). index_named s.value.directory c.args.subchannel) (sym is) ∙ ap (λ (d : Directory). index_named d c.args.subchannel) (sym c.deref.ensures) ∙ sym c.in-Some.ensures.index;
        saw = ap (λ (s : HeldSeat). slice_get s.value.seen_serials k) (sym is) ∙ slice_get_read seen_serials (length seen_serials) k pair refl lt c.index-pair.ensures;
        had = ap (λ (s : HeldSeat). slice_get s.value.loaded k) (sym is) ∙ slice_get_read readers (length readers) k was refl (omega (arith, lt, i.beside)) c.index_mut-reader.ensures.value;
        cell = c.load-loaded.ensures.cell;
        loads = c.load-loaded.ensures.loads;
      };
      found_is = c.greater-found.ensures ∙ (λ j. greater pair (serials (v.0 j) (v.1 j)));
      leaves = ap (λ (s : HeldSeat). record s.value { seen_serials = set s.value.seen_serials k c.greater-found.result; loaded = set s.value.loaded k w }) is;
    }
