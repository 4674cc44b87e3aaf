-- A history that leads to a state, as it opens and grows.
use Rattle.std.proofs.Common.{◌≡◌, refl, ℕ, ◌∙◌, ap, sym, subst, List, [], ◌∷◌, ◌++◌, map, length, arith, Result, Ok, Err}
use Rattle.std.proofs.lemmas.List.Elements.{All-cons, All-head, All-nil, All-tail}
use Rattle.std.specs.Prelude.{unwrap_or, All}
use Rattle.storage_keys.specs.Storage.{cleared_storage}
use Rattle.channel_config.specs.declared.parts.PathReturn.{PathReturn}
use Rattle.channel_config.specs.declared.parts.SubchannelSetup.{SubchannelSetup}
use Rattle.channel_config.specs.declared.parts.UnitKind.{UnitKind}
use Rattle.channel_config.specs.Lawful.{IsLawful, IsPlaced}
use Rattle.channel_config.specs.Setup.{Setup, set_count, groups_of}
use Rattle.channel_reports.specs.Queue.{no_reports_wait}
use Rattle.control_units.specs.Units.{idle_member}
use Rattle.interruptions.specs.Requests.{no_requests_wait}
use Rattle.chan_events.specs.Events.{Event}
use Rattle.chan_events.specs.declared.reply.Entry.{Entry}
use Rattle.chan_events.specs.Replies.{Reply}
use Rattle.chan_model.specs.declared.fault.Fault.{Fault}
use Rattle.chan_model.specs.declared.unit_state.UnitState.{UnitState}
use Rattle.subchannel_model.specs.Opening.{opened}
use Rattle.subchannel_model.specs.declared.state.Subchannel.{Subchannel}
use Rattle.run_laws.specs.Agreeing.{AllAgree}
use Rattle.run_laws.specs.Beginnings.{IsBegunOnce}
use Rattle.run_laws.specs.StateClaims.{IsClearedOnce}
use Rattle.run_laws.proofs.Signals.HolderRuns.{opening-set_up}
use Rattle.machine.specs.Postable.{IsPostable}
use Rattle.machine_model.specs.State.{State, configured_paths, opening_of, idle_of}
use Rattle.machine_model.specs.Setups.{IsSetUp}
use Rattle.subsystem.specs.Keeping.{StaysSetUp}
use Rattle.machine_model.specs.Steps.{HasRun, Run, Opened, Stepped, Step, Performs}

-- set-ups of one state have one opening
idle-units : (xs ys : List UnitKind) → length xs ≡ length ys → map idle_of xs ≡ map idle_of ys
idle-units [] [] e = refl
idle-units [] (y ∷ ys) e = absurd (omega (arith, e))
idle-units (x ∷ xs) [] e = absurd (omega (arith, e))
idle-units (x ∷ xs) (y ∷ ys) e = ap (λ us. idle_of x ∷ us) (idle-units xs ys (omega (arith, e)))

abbrev opening-with : ℕ → ℕ → List ℕ → List SubchannelSetup → List UnitState → List ℕ → PathReturn → State
opening-with blocks sets chpids subs units groups back = record {
  storage = cleared_storage blocks;
  sets = sets;
  chpids = chpids;
  up = configured_paths chpids 0x100;
  subs = map opened subs;
  units = units;
  members = map idle_member groups;
  requests = no_requests_wait 0x100;
  reports = no_reports_wait;
  path_return = back;
}

opening-same : (blocks n sets m : ℕ) (chpids paths : List ℕ) (subs these : List SubchannelSetup) (units those : List UnitState) (groups shared : List ℕ) (back again : PathReturn) →
    blocks ≡ n → sets ≡ m → chpids ≡ paths → subs ≡ these → units ≡ those → groups ≡ shared → back ≡ again →
    opening-with blocks sets chpids subs units groups back ≡ opening-with n m paths these those shared again
opening-same blocks n sets m chpids paths subs these units those groups shared back again a b c d e f g =
    ap (λ (k : ℕ). opening-with k sets chpids subs units groups back) a
    ∙ (ap (λ (k : ℕ). opening-with n k chpids subs units groups back) b
    ∙ (ap (λ (ps : List ℕ). opening-with n m ps subs units groups back) c
    ∙ (ap (λ (xs : List SubchannelSetup). opening-with n m paths xs units groups back) d
    ∙ (ap (λ (us : List UnitState). opening-with n m paths these us groups back) e
    ∙ (ap (λ (gs : List ℕ). opening-with n m paths these those gs back) f
    ∙ ap (λ (x : PathReturn). opening-with n m paths these those shared x) g)))))

one-opening : (a b : Setup) (s : State) → IsSetUp a s → IsSetUp b s → opening_of a ≡ opening_of b
one-opening a b s x y =
    opening-same (unwrap_or a.blocks 16) (unwrap_or b.blocks 16) (set_count a) (set_count b) a.paths b.paths a.subchannels b.subchannels (map idle_of a.units) (map idle_of b.units)
    (groups_of a) (groups_of b) a.path_return b.path_return (sym x.blocks ∙ y.blocks) (sym x.sets ∙ y.sets) (sym x.chpids ∙ y.chpids) (sym x.subs ∙ y.subs)
    (idle-units a.units b.units (sym x.units ∙ y.units)) (sym x.groups ∙ y.groups) (sym x.path_return ∙ y.path_return)

-- a run from the opening of one set-up is one from that of each
run-of-each : (a : Setup) (h : List Entry) (s : State) → IsSetUp a s → Run (opening_of a) h s → HasRun h s
run-of-each a h s k run = ((a, k), λ b l. subst (λ (o : State). Run o h s) (one-opening a b s k l) run)

pub past-opens : (setup : Setup) (h : List Entry) (s : State) → IsLawful setup → h ≡ [] → s ≡ opening_of setup → HasRun h s
past-opens setup h s lawful none opened =
    subst (λ (x : State). HasRun h x) (sym opened) (subst (λ (x : List Entry). HasRun x (opening_of setup)) (sym none)
    (run-of-each setup [] (opening_of setup) (opening-set_up setup lawful) Opened))

pub past-set_up : (setup : Setup) (s : State) → IsLawful setup → s ≡ opening_of setup → IsSetUp setup s
past-set_up setup s lawful opened = subst (λ (x : State). IsSetUp setup x) (sym opened) (opening-set_up setup lawful)

-- no step changes how a machine is set up
abbrev pub KeepsSetUps : Type 0
KeepsSetUps = (setup : Setup) (s : State) (e : Event) (r : Reply) (new : State) → Step s e r new → IsSetUp setup s → IsSetUp setup new

pub performed-set_up : KeepsSetUps → (old : State) (e : Event) (a : Result Reply Fault) (new : State) → Performs old e a new → StaysSetUp old new
performed-set_up keeps old e (Ok r) new step setup k = keeps setup old e r new step k
performed-set_up keeps old e (Err f) new refused setup k = subst (λ (s : State). IsSetUp setup s) (sym refused.1) k

pub past-more : KeepsSetUps → (h later : List Entry) (old new : State) (e : Event) (r : Reply) → HasRun h old → Step old e r new →
    later ≡ h ++ record { event = e; reply = r } ∷ [] → HasRun later new
past-more keeps h later old new e r past step more =
    run-of-each past.0.0 later new (keeps past.0.0 old e r new step past.0.1)
    (subst (λ (x : List Entry). Run (opening_of past.0.0) x new) (sym more) (Stepped h old e r new (past.1 past.0.0 past.0.1) step))

pub past-cleared : ((setup : Setup) (h : List Entry) (s : State) → Run (opening_of setup) h s → IsClearedOnce (set_count setup) h) →
    (h : List Entry) (s : State) → HasRun h s → IsClearedOnce s.sets h
past-cleared rises h s past =
    subst (λ (n : ℕ). IsClearedOnce n h) (sym past.0.1.sets) (rises past.0.0 h s (past.1 past.0.0 past.0.1))

pub past-begun : ((setup : Setup) (h : List Entry) (s : State) → IsLawful setup → Run (opening_of setup) h s → IsBegunOnce (set_count setup) h) →
    (h : List Entry) (s : State) → HasRun h s → IsBegunOnce s.sets h
past-begun once h s past =
    subst (λ (n : ℕ). IsBegunOnce n h) (sym past.0.1.sets) (once past.0.0 h s past.0.1.lawful (past.1 past.0.0 past.0.1))

pub past-agrees : ((setup : Setup) (h : List Entry) (s : State) → IsLawful setup → Run (opening_of setup) h s → AllAgree s) →
    (h : List Entry) (s : State) → HasRun h s → AllAgree s
past-agrees agrees h s past = agrees past.0.0 h s past.0.1.lawful (past.1 past.0.0 past.0.1)

-- there is room for a request of each subchannel
placed-postable : (sets units : ℕ) (known : List ℕ) (subs : List Subchannel) → All (IsPlaced sets units known) (map (λ sub. sub.setup) subs) → All IsPostable subs
placed-postable sets units known [] k = All-nil IsPostable
placed-postable sets units known (x ∷ xs) k =
    let setups = map (λ (sub : Subchannel). sub.setup) xs in
    let placed : IsPlaced sets units known x.setup = All-head (IsPlaced sets units known) x.setup setups k in
    All-cons IsPostable x xs placed.number (placed-postable sets units known xs (All-tail (IsPlaced sets units known) x.setup setups k))

pub past-postable : (h : List Entry) (s : State) → HasRun h s → All IsPostable s.subs
past-postable h s past =
    let setup = past.0.0 in
    let up = past.0.1 in
    placed-postable (set_count setup) (length setup.units) setup.paths s.subs
    (subst (λ (xs : List SubchannelSetup). All (IsPlaced (set_count setup) (length setup.units) setup.paths) xs) (sym up.subs) up.lawful.subchannels)
