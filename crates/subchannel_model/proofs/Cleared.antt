-- Where all status that was made is cleared, none is pending.
use Rattle.std.proofs.Common.{◌≡◌, refl, sym, ◌∙◌, Bool, true, false, not, arith}
use Rattle.std.specs.Prelude.{if◌then◌else◌}
use Rattle.std.proofs.lemmas.Bool.{le-ltb}
use Rattle.scsw_irb.specs.declared.scsw.Scsw.{Scsw}
use Rattle.scsw_irb.specs.declared.serials.Serials.{Serials}
use Rattle.subchannel_model.specs.declared.state.SubchannelState.{SubchannelState}
use Rattle.subchannel_model.specs.Status.{is_uncleared, serials_cleared, intermediate_alone, without_status}
use Rattle.subchannel_model.specs.Test.{ended_scsw, suspended_scsw, tested}

pub none-uncleared : (serials : Serials) → false ≡ is_uncleared (serials_cleared serials)
none-uncleared serials = sym (le-ltb serials.made serials.made (omega arith))

cleared-scsw : (b c d : Bool) (x y z w : Scsw) → x.status.pending ≡ false → y.status.pending ≡ false → z.status.pending ≡ false → w.status.pending ≡ false →
    (if b then (if not c then x else (if d then y else z)) else w).status.pending ≡ false
cleared-scsw true true true x y z w e f g h = f
cleared-scsw true true false x y z w e f g h = g
cleared-scsw true false d x y z w e f g h = e
cleared-scsw false c d x y z w e f g h = h

tested-not : (b : Bool) (x y : Scsw) → x.status.pending ≡ b → y.status.pending ≡ false → (if not b then x else y).status.pending ≡ false
tested-not true x y e f = f
tested-not false x y e f = e

-- so it is after TEST SUBCHANNEL
pub tested-pending : (s : SubchannelState) → (tested s).scsw.status.pending ≡ is_uncleared (tested s).serials
tested-pending s =
    tested-not s.scsw.status.pending s.scsw _ refl
    (cleared-scsw (intermediate_alone s.scsw.status) s.scsw.activity.suspended s.scsw.functions.halt
    (without_status s.scsw) (ended_scsw s.scsw) (suspended_scsw s.scsw) (ended_scsw s.scsw) refl refl refl refl)
    ∙ none-uncleared s.serials
