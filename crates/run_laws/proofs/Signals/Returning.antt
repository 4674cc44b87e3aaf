-- A program that is apart may come back by the path of its Accept, as long as this is up.
use Rattle.std.proofs.Common.{◌≡◌, refl, sym, ◌∙◌, ap, ℕ, ◌<◌, ◌≤◌, ◌&&◌, nat_lt, Bool, true, false, Option, Some, length, slice_get, if◌then◌else◌, arith}
use Rattle.std.proofs.lemmas.Bool.{eq-eqb, and_from, lt-ltb}
use Rattle.std.proofs.lemmas.Option.{slice_get_within}
use Rattle.allegiance.specs.Allegiances.{may_reconnect}
use Rattle.chan_model.specs.PathSets.{is_member}
use Rattle.chan_model.specs.ResetCauses.{is_path}
use Rattle.channel_config.specs.declared.parts.SubchannelSetup.{SubchannelSetup}
use Rattle.subchannel_model.specs.declared.state.Subchannel.{Subchannel}
use Rattle.subchannel_model.specs.Choosing.{return_paths}
use Rattle.subchannel_model.specs.Store.{available_paths}
use Rattle.run_laws.proofs.Machine.PathSets.{each-from, both-from}
use Rattle.run_laws.specs.Links.{SubSeen, IsUp}
use Rattle.run_laws.proofs.Signals.LinkSubs.{IsTied}

-- a path of the subchannel that is up is available
pub record IsAvailable (sub : Subchannel) (path : ℕ) : Type 0 where
  pub low : path < 8
  pub available : is_member (available_paths sub) path ≡ true

pub up-available : (is_up : ℕ → Bool) (k : SubSeen) (sub : Subchannel) (path : ℕ) → IsTied is_up k sub → (up : IsUp is_up k path) → IsAvailable sub path
up-available is_up k sub path tie up =
    let there : slice_get sub.setup.paths path ≡ Some up.0 = sym (ap (λ (x : SubchannelSetup). slice_get x.paths path) tie.setup) ∙ up.1 in
    let within : path < length sub.setup.paths = slice_get_within sub.setup.paths path up.0 there in
    let few : length sub.setup.paths ≤ 8 = tie.paths.few in
    let low : path < 8 = omega (arith, within, few) in
    record {
      low = low;
      available = both-from (λ p. nat_lt p (length sub.setup.paths)) sub.state.pmcw.available path
          (each-from (λ p. nat_lt p (length sub.setup.paths)) path low (lt-ltb path (length sub.setup.paths) within)) (tie.shown path up.0 there ∙ up.2);
    }

may-reconnect : (single : Bool) (first : Option ℕ) (available : Bool) (path : ℕ) → first ≡ Some path → available ≡ true → (if single then is_path first path else available) ≡ true
may-reconnect true first available path e a = ap (λ (o : Option ℕ). is_path o path) e ∙ eq-eqb path path refl
may-reconnect false first available path e a = a

pub first-returns : (sub : Subchannel) (path : ℕ) → sub.state.hold.first_path ≡ Some path → IsAvailable sub path → is_member (return_paths sub) path ≡ true
first-returns sub path first free =
    each-from (λ p. is_member (available_paths sub) p && may_reconnect sub.state.hold (available_paths sub) p) path free.low
    (and_from (is_member (available_paths sub) path) (may_reconnect sub.state.hold (available_paths sub) path) free.available
    (may-reconnect sub.state.hold.single_path sub.state.hold.first_path (is_member (available_paths sub) path) path first free.available))
