-- What waits on the wires of a subchannel came by the paths of its connections, also after it does something or a path is lost.
use Rattle.std.proofs.Common.{◌≡◌, refl, sym, ap, subst, ℕ, ◌+◌, nat_lt, Bool, true, false, Option, None, Some, Result, Ok, Err, List, length, slice_get, IfOk}
use Rattle.chan_events.specs.declared.reply.Reply.TheVariants as reply
use Rattle.chan_model.specs.declared.fault.Fault.{Fault}
use Rattle.chan_model.specs.declared.names.Side.{Side}
use Rattle.chan_model.specs.Signals.{Down, Up}
use Rattle.chan_model.specs.declared.signal.Down.TheVariants as down
use Rattle.chan_model.specs.declared.signal.OnPath.{OnPath}
use Rattle.storage_keys.specs.Storage.{Contents}
use Rattle.wires.specs.Queues.{queue, taken, lost}
use Rattle.subchannel_model.specs.declared.state.Chosen.{Chosen}
use Rattle.subchannel_model.specs.declared.state.Chosen.TheVariants.{Idle, Resets, Halts, Offers}
use Rattle.subchannel_model.specs.declared.state.Subchannel.{Subchannel}
use Rattle.subchannel_model.specs.declared.state.UpStep.{UpStep}
use Rattle.subchannel_model.specs.Choosing.{marked_sub}
use Rattle.subchannel_model.specs.Losing.{path_index, loses_at, loses, shows_at}
use Rattle.subchannel_model.specs.Sending.{carried, carried_by, finds_full, with_any_sent}
use Rattle.subchannel_model.specs.Taking.{takes_up}
use Rattle.channel_config.specs.declared.parts.SubchannelSetup.{SubchannelSetup}
use Rattle.machine_model.specs.ChooseSteps.{choose_sub}
use Rattle.machine_model.specs.declared.state.Sweep.{Sweep}
use Rattle.machine_model.specs.declared.state.Sweep.TheVariants as sweep
use Rattle.machine_model.specs.PathSteps.{swept}
use Rattle.machine_model.specs.Results.{SubResult, UpResult}
use Rattle.machine_model.specs.UpSteps.{up_front, up_sub}
use Rattle.run_laws.specs.Devices.{Holding, side_seen}
use Rattle.run_laws.specs.DevicePaths.{Ways}
use Rattle.run_laws.proofs.Signals.Bounds.{EachUp, EachDown, each-sent, each-lost}
use Rattle.run_laws.proofs.Signals.UnitTurns.{if-ok}
use Rattle.run_laws.proofs.Machine.WaitingSignals.{each-weaker}
use Rattle.run_laws.proofs.Signals.Lists.{OnSent}
use Rattle.run_laws.proofs.Signals.Meets.{ArePlainDown, takes-meets}
use Rattle.run_laws.proofs.Signals.Meets as meets
use Rattle.run_laws.proofs.Signals.Ways.{OwnWay, Follows}
use Rattle.run_laws.proofs.Signals.WaySignals.{UpWay, DownWay, up-follows, down-follows, plain-way, met-way}

pub record WayWires (side : Side) (us : List (List Up)) (ds : List (List Down)) (k : Holding) (ways : Ways) : Type 0 where
  pub up : EachUp (λ p x. UpWay ways k side p x) us
  pub down : EachDown (λ p d. DownWay ways k side p d) ds
  pub own : OwnWay ways (side_seen k side).number k.holder side

abbrev pub WaySub : Subchannel → Holding → Ways → Type 0
WaySub sub k ways = WayWires sub.setup.side sub.wires.up sub.wires.down k ways

pub wires-follow : (side : Side) (us : List (List Up)) (ds : List (List Down)) (k next : Holding) (ways after : Ways) → Follows k next side ways after → WayWires side us ds k ways → WayWires side us ds next after
wires-follow side us ds k next ways after f w = record {
  up = λ p. each-weaker (UpWay ways k side p) (UpWay after next side p) (queue us p) (λ x y. up-follows ways after k next side p x f y) (w.up p);
  down = λ p. each-weaker (DownWay ways k side p) (DownWay after next side p) (queue ds p) (λ x y. down-follows ways after k next side p x f y) (w.down p);
  own = f.own w.own;
}

-- what a subchannel does that is no answer to a signal
pub data Carries (sub : Subchannel) : Subchannel → Type 0 where
  Keeps : (after : Subchannel) → after.setup ≡ sub.setup → after.wires ≡ sub.wires → Carries sub after
  Sends : (after : Subchannel) (available : List Bool) (one : Option (OnPath Down)) → after.setup ≡ sub.setup → ArePlainDown one → after.wires.up ≡ sub.wires.up →
      after.wires.down ≡ with_any_sent sub.wires.down (carried available one) → Carries sub after
  Loses : (after : Subchannel) (p : ℕ) → after.setup ≡ sub.setup → after.wires.up ≡ lost sub.wires.up p → after.wires.down ≡ lost sub.wires.down p → Carries sub after

pub as-set_up : (sub after : Subchannel) (us : List (List Up)) (ds : List (List Down)) (k : Holding) (ways : Ways) → after.setup ≡ sub.setup → after.wires.up ≡ us → after.wires.down ≡ ds →
    WayWires sub.setup.side us ds k ways → WaySub after k ways
as-set_up sub after us ds k ways e f g w =
    subst (λ (x : SubchannelSetup). WayWires x.side after.wires.up after.wires.down k ways) (sym e)
    (subst (λ (x : List (List Up)). WayWires sub.setup.side x after.wires.down k ways) (sym f) (subst (λ (x : List (List Down)). WayWires sub.setup.side us x k ways) (sym g) w))

pub carries-setup : (sub after : Subchannel) → Carries sub after → after.setup ≡ sub.setup
carries-setup sub _ (Keeps after e f) = e
carries-setup sub _ (Sends after available one e plain f g) = e
carries-setup sub _ (Loses after p e f g) = e

pub carries-way : (sub after : Subchannel) (k : Holding) (ways : Ways) → Carries sub after → WaySub sub k ways → WaySub after k ways
carries-way sub _ k ways (Keeps after e f) w = as-set_up sub after sub.wires.up sub.wires.down k ways e (ap (λ x. x.up) f) (ap (λ x. x.down) f) w
carries-way sub _ k ways (Sends after available one e plain f g) w =
    as-set_up sub after sub.wires.up _ k ways e f g
    (record { up = w.up; down = each-sent (λ p d. DownWay ways k sub.setup.side p d) sub.wires.down available one (plain-way ways k sub.setup.side one plain) w.down; own = w.own })
carries-way sub _ k ways (Loses after p e f g) w =
    as-set_up sub after _ _ k ways e f g
    (record {
      up = each-lost (λ q x. UpWay ways k sub.setup.side q x) sub.wires.up p w.up;
      down = each-lost (λ q d. DownWay ways k sub.setup.side q d) sub.wires.down p w.down;
      own = w.own;
    })

-- choosing
abbrev IsCarried : Subchannel → SubResult → Type 0
IsCarried sub t = Carries sub t.sub

choose-plain : (sub : Subchannel) (c : Chosen) → IfOk (choose_sub sub c) (IsCarried sub)
choose-plain sub Idle = Keeps sub refl refl
choose-plain sub (Resets r path) =
    if-ok (IsCarried sub) (finds_full sub.wires.down (carried_by sub (Some (record { path = path; signal = down.Reset r sub.state.hold.known_restarts })))) _ _ tt
    (Sends _ sub.state.pmcw.available (Some (record { path = path; signal = down.Reset r sub.state.hold.known_restarts })) refl (meets.Resets r sub.state.hold.known_restarts) refl refl)
choose-plain sub (Halts t path) =
    if-ok (IsCarried sub) (finds_full sub.wires.down (carried_by sub (Some (record { path = path; signal = down.Halt t })))) _ _ tt
    (Sends _ sub.state.pmcw.available (Some (record { path = path; signal = down.Halt t })) refl (meets.Halts t) refl refl)
choose-plain sub (Offers c path) =
    if-ok (IsCarried sub) (finds_full sub.wires.down (carried_by sub (Some (record { path = path; signal = down.Select (sub.state.drawn + 1) })))) _ _ tt
    (Sends _ sub.state.pmcw.available (Some (record { path = path; signal = down.Select (sub.state.drawn + 1) })) refl (meets.Offers (sub.state.drawn + 1)) refl refl)
choose-plain sub other = Keeps _ refl refl

marked-carries : (sub after : Subchannel) (choice : Option ℕ) → Carries (marked_sub sub choice) after → Carries sub after
marked-carries sub _ choice (Keeps after e f) = Keeps after e f
marked-carries sub _ choice (Sends after available one e plain f g) = Sends after available one e plain f g
marked-carries sub _ choice (Loses after p e f g) = Loses after p e f g

ok-marked : (sub : Subchannel) (choice : Option ℕ) (r : Result SubResult Fault) → IfOk r (IsCarried (marked_sub sub choice)) → IfOk r (IsCarried sub)
ok-marked sub choice (Ok t) m = marked-carries sub t.sub choice m
ok-marked sub choice (Err f) m = tt

pub choose-carries : (sub : Subchannel) (choice : Option ℕ) (c : Chosen) → IfOk (choose_sub (marked_sub sub choice) c) (IsCarried sub)
choose-carries sub choice c = ok-marked sub choice (choose_sub (marked_sub sub choice) c) (choose-plain (marked_sub sub choice) c)

-- a path that goes down, comes up or is reset, and a reset of the subsystem
loses-carries : (sub : Subchannel) (o : Option ℕ) → Carries sub (loses_at o sub)
loses-carries sub None = Keeps sub refl refl
loses-carries sub (Some p) = Loses _ p refl refl refl

shows-carries : (sub after : Subchannel) (o : Option ℕ) (up : Bool) → Carries sub after → Carries sub (shows_at o up after)
shows-carries sub after None up c = c
shows-carries sub _ (Some p) up (Keeps after e f) = Keeps _ e f
shows-carries sub _ (Some p) up (Sends after available one e plain f g) = Sends _ available one e plain f g
shows-carries sub _ (Some p) up (Loses after q e f g) = Loses _ q e f g

pub swept-carries : (what : Sweep) (sub : Subchannel) → Carries sub (swept what sub)
swept-carries (sweep.GoesDown chpid) sub =
    shows-carries sub (loses chpid sub) (path_index chpid (loses chpid sub).setup.paths) false (loses-carries sub (path_index chpid sub.setup.paths))
swept-carries (sweep.ComesUp chpid) sub = shows-carries sub sub (path_index chpid sub.setup.paths) true (Keeps sub refl refl)
swept-carries (sweep.PathReset chpid) sub = loses-carries sub (path_index chpid sub.setup.paths)
swept-carries sweep.SystemReset sub = Keeps _ refl refl

-- a signal that came up
pub record IsUpMet (sub : Subchannel) (path : ℕ) (t : UpResult) : Type 0 where
  pub signal : Up
  pub outcome : Bool
  pub sent : Option (OnPath Down)
  pub front : slice_get (queue sub.wires.up path) 0 ≡ Some signal
  pub reply : t.reply ≡ reply.Up signal outcome sent
  pub setup : t.sub.setup ≡ sub.setup
  pub up : t.sub.wires.up ≡ taken sub.wires.up path
  pub down : t.sub.wires.down ≡ with_any_sent sub.wires.down (carried sub.state.pmcw.available sent)
  pub way : (ways : Ways) (k : Holding) (side : Side) → UpWay ways k side path signal → OnSent (λ q d. DownWay ways k side q d) sent

front-up : (returns : Bool) (storage : Contents) (sub : Subchannel) (path : ℕ) (front : Option Up) → slice_get (queue sub.wires.up path) 0 ≡ front → IfOk (up_front returns storage sub path front) (IsUpMet sub path)
front-up returns storage sub path None e = tt
front-up returns storage sub path (Some x) e =
    let step : UpStep = (takes_up returns storage sub.state path x).step in
    if-ok (IsUpMet sub path) (finds_full sub.wires.down (carried_by sub step.outcome.sent)) _ _ tt
    (record {
      signal = x;
      outcome = step.outcome.taken;
      sent = step.outcome.sent;
      front = e;
      reply = refl;
      setup = refl;
      up = refl;
      down = refl;
      way = λ ways k side w. met-way ways k side path x sub.state.hold.phase step.outcome.taken step.outcome.sent step.state.hold.phase (takes-meets returns storage sub.state path x) w;
    })

pub ups-met : (returns : Bool) (storage : Contents) (sub : Subchannel) (path : ℕ) → IfOk (up_sub returns storage sub path) (IsUpMet sub path)
ups-met returns storage sub path =
    if-ok (IsUpMet sub path) (nat_lt path (length sub.setup.paths)) (up_front returns storage sub path (slice_get (queue sub.wires.up path) 0)) _ (front-up returns storage sub path (slice_get (queue sub.wires.up path) 0) refl) tt
