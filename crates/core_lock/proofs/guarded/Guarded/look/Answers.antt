use Rattle.std.proofs.Common.{◌<◌, List, length, refl, arith, sym, ap, ◌∙◌, set, subst}
use Rattle.std.specs.Prelude.{slice_get}
use Rattle.std.specs.Arc.{arc_value}
use Rattle.std.proofs.lemmas.List.{length-set}
use Rattle.std.proofs.lemmas.Option.{slice_get_read}
use Rattle.subsystem.specs.Keeping.{IsOrdered}
use Rattle.glance_directory.specs.Directory.{Directory, index_named}
use Rattle.scsw_irb.specs.declared.serials.Serials.{Serials}
use Rattle.core_lock.specs.Seats.{GuardedCore, HeldSeat, Seated}
use Rattle.core_lock.specs.Entering.{Looks}
use Rattle.glance_directory.proofs.Rewriting.{same_cells}
use Rattle.glance_directory.proofs.Directories.{is_named}
use Rattle.core_lock.proofs.Looks.{looks, lacks, same_count}
use Rattle.core_lock.proofs.Looks as look
use Rattle.core_lock.proofs.Raising.{set_ordered, greater_ordered}
use Rattle.core_lock.proofs.guarded.Guarded.look.Goals as goal

pub load_at-found-requires-clause-read : goal.load_at-found-requires-clause-read
load_at-found-requires-clause-read g c = omega (arith, c.in-Some.ensures.bound, ap (λ (d : Directory). length d.setups) c.deref.ensures, c.seat.invariant.names)

pub load_at-found-requires-clause-written : goal.load_at-found-requires-clause-written
load_at-found-requires-clause-written g c =
    let same = same_cells c.seat.inside.readers.items c.self.inside.writers.items (c.seat.invariant.cells ∙ sym c.self.invariant.cells) in
    omega (arith, c.in-Some.ensures.bound, ap (λ (d : Directory). length d.setups) c.deref.ensures, c.seat.invariant.names, same)

pub load_at-found-requires-clause-cells : goal.load_at-found-requires-clause-cells
load_at-found-requires-clause-cells g c = c.seat.invariant.cells ∙ sym c.self.invariant.cells

pub invariant_of-seat : goal.invariant_of-seat
invariant_of-seat g c =
    let i = c.seat.invariant in
    let k = c.in-Some.index in
    let seen_serials = c.seat.inside.seen_serials.items in
    let readers = c.seat.inside.readers.items in
    let pair = c.index-pair.result.now in
    let found = c.load_at-found.result in
    let now = c.greater-raised.result in
    let loaded = c.load_at-found.new.readers.items in
    let loads = c.load_at-found.ensures.readers in
    let lt : k < length seen_serials = omega (arith, c.in-Some.ensures.bound, ap (λ (d : Directory). length d.setups) c.deref.ensures, i.names, i.beside) in
    let le = greater_ordered pair found (subst IsOrdered (sym c.index-pair.ensures) (i.ordered k pair lt)) c.load_at-found.ensures.ordered in
    record {
      share = i.share;
      turns = i.turns;
      entries = i.entries;
      fresh = i.fresh;
      beside = length-set seen_serials k now ∙ i.beside ∙ sym (same_count readers loaded k found loads);
      ordered = set_ordered seen_serials k now i.ordered (subst IsOrdered (sym c.greater-raised.ensures) le);
      cells = look.same_cells readers loaded k found loads ∙ i.cells;
      names = i.names ∙ sym (same_count readers loaded k found loads);
      directory = i.directory;
    }

pub returns-clause-found : goal.returns-clause-found
returns-clause-found g c =
    let i = c.seat.invariant in
    let m = c.self.invariant in
    let k = c.in-Some.index in
    let word = c.args.subchannel in
    let inside = c.seat.inside in
    let state = c.self.inside.subsystem.state in
    let seen_serials = inside.seen_serials.items in
    let pair = c.index-pair.result.now in
    let found = c.load_at-found.result in
    let loaded = c.load_at-found.new.readers.items in
    let directory = arc_value inside.directory in
    let seat : Seated = record {
      number = inside.number;
      log = inside.log.entries;
      setup = g.J.MachineBrand.setup;
      directory = directory;
      seen_serials = seen_serials;
      loaded = inside.readers.items;
      turns = inside.turns.amount;
      calls = inside.calls;
      owed = inside.owed;
      waiting = inside.waiting;
      left = inside.left;
    } in
    let lt : k < length seen_serials = omega (arith, c.in-Some.ensures.bound, ap (λ (d : Directory). length d.setups) c.deref.ensures, i.names, i.beside) in
    let named = ap (λ (d : Directory). index_named d word) (sym c.deref.ensures) ∙ sym c.in-Some.ensures.index in
    let has = ap (λ (l : List Serials). slice_get l k) (sym m.shown) ∙ c.load_at-found.ensures.found in
    let saw = slice_get_read seen_serials (length seen_serials) k pair refl lt c.index-pair.ensures in
    let is = is_named g.J.MachineBrand.setup state g.J.MachineBrand.name.directory m.set_up m.named ∙ sym i.directory in
    let base = looks state seat directory word k pair found loaded is refl named has saw c.load_at-found.ensures.readers in
    subst (λ (l : GuardedCore). Looks l.value.state c.args.seat.now.value word found (record seat { seen_serials = set seen_serials k c.greater-raised.result; loaded = loaded })) c.self.view_is
    (subst (λ (h : HeldSeat). Looks state h.value word found (record seat { seen_serials = set seen_serials k c.greater-raised.result; loaded = loaded })) c.seat.view_is
    (subst (λ (p : Serials). Looks state seat word found (record seat { seen_serials = set seen_serials k p; loaded = loaded })) (sym c.greater-raised.ensures) base))

pub returns-in_default-clause-refused : goal.returns-in_default-clause-refused
returns-in_default-clause-refused g c =
    let word = c.args.subchannel in
    let named = ap (λ (h : HeldSeat). index_named h.value.directory word) (sym c.seat.view_is) ∙ ap (λ (d : Directory). index_named d word) (sym c.deref.ensures)
    ∙ sym c.in_default.ensures.index in
    (refl, lacks c.args.self.now.value.state c.args.seat.now.value.directory word c.stands.ensures.2 named)
