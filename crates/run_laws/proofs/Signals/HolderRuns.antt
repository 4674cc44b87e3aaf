-- After each run what was seen of each unit is what the unit keeps, and control units keep which units are held: each entry is right.
use Rattle.std.proofs.Common.{◌≡◌, ◌≢◌, refl, sym, ◌∙◌, ap, subst, ℕ, zero, suc, ◌+◌, ◌<◌, ◌==◌, ◌&&◌, Bool, true, false, not, Option, None, Some, is_some, List, [], ◌∷◌, ◌++◌, length, map, slice_get, slice_set, if◌then◌else◌, inl, inr, arith}
use Rattle.std.specs.Prelude.{unwrap_or, option_map}
use Rattle.std.proofs.lemmas.List.{length-map, length-replicate}
use Rattle.std.proofs.lemmas.Bool.{eq-eqb}
use Rattle.std.proofs.lemmas.Option.{slice_get_within}
use Rattle.chan_events.specs.Events.{Event}
use Rattle.chan_events.specs.declared.event.Event.TheVariants as event
use Rattle.chan_events.specs.declared.event.UnitAct.{UnitAct}
use Rattle.chan_events.specs.declared.event.UnitAct.TheVariants as act
use Rattle.chan_events.specs.declared.reply.Entry.{Entry}
use Rattle.chan_events.specs.Replies.{Reply}
use Rattle.chan_events.specs.declared.reply.Reply.TheVariants as reply
use Rattle.chan_model.specs.declared.names.Side.{Side}
use Rattle.chan_model.specs.Reports.{Report}
use Rattle.chan_model.specs.Signals.{Down, Up}
use Rattle.chan_model.specs.declared.signal.OnPath.{OnPath}
use Rattle.chan_model.specs.declared.unit_state.Own.{Own}
use Rattle.chan_model.specs.declared.unit_state.Own.TheVariants as own
use Rattle.chan_model.specs.declared.unit_state.UnitState.{UnitState}
use Rattle.chan_model.specs.UnitReports.{unit_reports}
use Rattle.chan_model.specs.UnitTable.{UnitStep, restarted, is_idle}
use Rattle.channel_config.specs.declared.parts.SubchannelSetup.{SubchannelSetup}
use Rattle.channel_config.specs.declared.parts.UnitKind.{UnitKind}
use Rattle.channel_config.specs.Lawful.{IsLawful}
use Rattle.channel_config.specs.Setup.{Setup, set_count, groups_of, groups_from}
use Rattle.channel_config.specs.SubchannelWords.{subchannel_named}
use Rattle.control_units.specs.declared.Member.{Member}
use Rattle.control_units.specs.Units.{idle_member, may_serve}
use Rattle.subchannel_model.specs.declared.state.Subchannel.{Subchannel}
use Rattle.machine_model.specs.ActSteps.{acts}
use Rattle.machine_model.specs.DownSteps.{asks_at}
use Rattle.machine_model.specs.Setups.{IsSetUp, group_of}
use Rattle.machine_model.specs.Sharing.{members_after, owing_after}
use Rattle.machine_model.specs.State.{State, opening_of, idle_of}
use Rattle.machine_model.specs.Steps.{Run, Opened, Stepped, Step}
use Rattle.step_laws.proofs.Indices.{get-set, get-other, map-get, same-or-not}
use Rattle.run_laws.specs.Devices.{Held, Holding, with_holder, with_transfer, reported, with_restart, nothing_held, setup_named, acted_after, held_met, holding_met, holding_after}
use Rattle.run_laws.specs.OneHolder.{Seen, IsFree, IsDownRight, IsSetRight, IsAnswerNumbered, reply_due, IsReportRight, IsActRight, IsEntryRight, seen_after, HasOneHolder}
use Rattle.run_laws.specs.Entries.{seen_through}
use Rattle.run_laws.proofs.Machine.Appending.{through-more, claim-more}
use Rattle.run_laws.specs.Agreeing.{AreAbove}
use Rattle.run_laws.proofs.Signals.Holdings.{holder_in, holding_of}
use Rattle.run_laws.proofs.Signals.HolderActs.{IfStep, reports-hand, reports-right, IsActed, acts-acted}
use Rattle.run_laws.proofs.Signals.UnitTurns.{setups, setup-is, opened-setups, IsTurned, sunk-turned}
use Rattle.run_laws.proofs.Signals.MemberSteps.{IsSunk, turn-sunk, IsStepped, turn-reported, IsActing, turn-acting, turn-restarted}
use Rattle.run_laws.proofs.Signals.MemberSteps as reading
use Rattle.run_laws.proofs.Signals.Sharers.{AreBegun, free-of, AfterIs, kept-after, members-after, begun-after, restarted-after}
use Rattle.interruptions.specs.Requests.{WaitingRequests}
use Rattle.step_laws.proofs.Results as turn
use Rattle.step_laws.proofs.Results.{ResultOf, HasResult, step-turn}

-- what was seen of a unit is what it keeps
abbrev pub IsSeen : ℕ → List UnitState → Holding → Type 0
IsSeen at units k = (u : UnitState) → slice_get units at ≡ Some u → k ≡ holding_of u

seen-set : (at i : ℕ) (units : List UnitState) (u v : UnitState) (k next : Holding) → slice_get units i ≡ Some u → ((i == at) ≡ true → k ≡ holding_of u → next ≡ holding_of v) →
    ((i == at) ≡ false → next ≡ k) → IsSeen at units k → IsSeen at (slice_set units i v) next
seen-set at i units u v k next found here other seen = λ w e.
    elim (same-or-not i at) [
      | inl h ↦
          let is : v ≡ w = cc (sym (get-set units i u v found) ∙ subst (λ (n : ℕ). slice_get (slice_set units i v) n ≡ Some w) (sym h.0) e) in
          here h.1 (seen u (subst (λ (n : ℕ). slice_get units n ≡ Some u) h.0 found)) ∙ ap holding_of is
      | inr h ↦ other h.1 ∙ seen w (sym (get-other units i v at (λ q. h.0 (sym q))) ∙ e)
    ]

if-there : (b : Bool) (x y : Holding) → b ≡ true → (if b then x else y) ≡ x
if-there true x y e = refl
if-there false x y e = absurd (cc e)

if-not : (b : Bool) (x y : Holding) → b ≡ false → (if b then x else y) ≡ y
if-not true x y e = absurd (cc e)
if-not false x y e = refl

-- one unit was changed: what is seen of it, and of no other
abbrev pub seen_at : ℕ → (Holding → Holding) → Seen → Seen
seen_at i change seen = λ at. if i == at then change (seen at) else seen at

abbrev pub AreSeen : List UnitState → Seen → Type 0
AreSeen units seen = (at : ℕ) → IsSeen at units (seen at)

one-seen : (units : List UnitState) (i : ℕ) (u v : UnitState) (change : Holding → Holding) (seen : Seen) → slice_get units i ≡ Some u → change (holding_of u) ≡ holding_of v → AreSeen units seen →
    AreSeen (slice_set units i v) (seen_at i change seen)
one-seen units i u v change seen found e all = λ at.
    seen-set at i units u v (seen at) (if i == at then change (seen at) else seen at) found
    (λ h k. if-there (i == at) (change (seen at)) (seen at) h ∙ (ap change k ∙ e)) (λ h. if-not (i == at) (change (seen at)) (seen at) h) (all at)

here-is : (i : ℕ) (change : Holding → Holding) (seen : Seen) → seen_at i change seen i ≡ change (seen i)
here-is i change seen = if-there (i == i) (change (seen i)) (seen i) (eq-eqb i i refl)

others-are : (i : ℕ) (change : Holding → Holding) (seen : Seen) (at : ℕ) → at ≢ i → seen_at i change seen at ≡ seen at
others-are i change seen at n =
    elim (same-or-not i at) [
      | inl h ↦ absurd (n (sym h.0))
      | inr h ↦ if-not (i == at) (change (seen at)) (seen at) h.1
    ]

-- the entry is right, and what was seen stands after it
pub record IsRight (s : State) (e : Event) (r : Reply) (new : State) (seen : Seen) : Type 0 where
  pub right : IsEntryRight (map group_of s.members) s.sets (setups s.subs) e r seen
  pub units : AreSeen new.units (seen_after s.sets (setups s.subs) e r seen)
  pub begun : AreBegun new.members (seen_after s.sets (setups s.subs) e r seen)

-- each unit is one that control units keep
abbrev pub AreMembers : State → Type 0
AreMembers s = (at : ℕ) (u : UnitState) → slice_get s.units at ≡ Some u → (m : Member) × (slice_get s.members at ≡ Some m)

held-some : (u : UnitState) (o : Own) → is_some (holder_in u o) ≡ not (is_idle o)
held-some u own.Idle = refl
held-some u (own.Owned k t at) = refl

right-down : (groups : List ℕ) (seen : Seen) (at : ℕ) (side : Side) (path : ℕ) (d : Down) (taken : Bool) (sent : Option (OnPath Up)) (k : Holding) (free : Bool) → seen at ≡ k → IsFree groups seen at free →
    reply.Down d taken sent ≡ reply_due k side path free d → IsAnswerNumbered k side sent → IsDownRight groups seen at side path (reply.Down d taken sent)
right-down groups seen at side path d taken sent k free is f due numbered = (
  (free, f, due ∙ ap (λ (x : Holding). reply_due x side path free d) (sym is)),
  subst (λ (x : Holding). IsAnswerNumbered x side sent) (sym is) numbered,
)

abbrev met_by : Option SubchannelSetup → ℕ → Reply → Seen → Seen
met_by o path r seen = λ at. holding_met at o path r (seen at)

sunk-right : (s : State) (word path : ℕ) (r : Reply) (new : State) (seen : Seen) (k : IsSunk s word path r new) → IsTurned s word path r new k → AreMembers s → AreSeen s.units seen → AreBegun s.members seen →
    IsRight s (event.Down word path) r new seen
sunk-right s word path r new seen k t members units begun =
    let sub : Subchannel = k.sub in
    let at : ℕ = sub.setup.«unit» in
    let side : Side = sub.setup.side in
    let u : UnitState = k.«unit» in
    let v : UnitState = k.turn.«unit» in
    let asks : Bool = asks_at sub path u in
    let is : seen at ≡ holding_of u = units at u k.found in
    let named : setup_named (setups s.subs) (subchannel_named s.sets word) ≡ Some sub.setup = setup-is s.subs (subchannel_named s.sets word) k.index sub k.named k.there in
    let m : (x : Member) × (slice_get s.members at ≡ Some x) = members at u k.found in
    let change : Holding → Holding = held_met side path r in
    let holder : is_some (seen at).holder ≡ not (is_idle u.own) = ap (λ (x : Holding). is_some x.holder) is ∙ held-some u u.own in
    let follows : AfterIs s.members (members_after s.members at asks u v) at (not (is_idle v.own)) = members-after s.members at asks u v (λ x e. begun at x e ∙ holder) t.begins t.rests in
    record {
      right =
          subst (λ (o : Option SubchannelSetup). IsSetRight (map group_of s.members) seen o path r) (sym named)
          (subst (λ (x : Reply). IsDownRight (map group_of s.members) seen at side path x) (sym t.replied)
          (right-down (map group_of s.members) seen at side path t.signal t.taken t.sent (holding_of u) (is_idle u.own && may_serve s.members at) is
          (free-of s.members seen at m.0 (is_idle u.own) m.1 begun holder) t.due t.numbered));
      units =
          subst (λ (o : Option SubchannelSetup). AreSeen new.units (met_by o path r seen)) (sym named)
          (subst (λ (us : List UnitState). AreSeen us (seen_at at change seen)) (sym k.units)
          (one-seen s.units at u (owing_after s.members at u v) change seen k.found (sym t.next) units));
      begun =
          subst (λ (o : Option SubchannelSetup). AreBegun new.members (met_by o path r seen)) (sym named)
          (subst (λ (ms : List Member). AreBegun ms (seen_at at change seen)) (sym k.members)
          (begun-after s.members (members_after s.members at asks u v) seen (seen_at at change seen) at (not (is_idle v.own)) begun follows
          (ap (λ (x : Holding). is_some x.holder) (here-is at change seen ∙ (ap change is ∙ sym t.next)) ∙ held-some v v.own)
          (others-are at change seen)));
    }

restart-right : (s : State) (index : ℕ) (r : Reply) (new : State) (seen : Seen) → reading.IsRestarted s index new → AreSeen s.units seen → AreBegun s.members seen → IsRight s (event.Restart index) r new seen
restart-right s index r new seen k units begun =
    let u : UnitState = k.«unit» in
    let is : seen index ≡ holding_of u = units index u k.found in
    record {
      right = tt;
      units =
          subst (λ (us : List UnitState). AreSeen us (seen_at index with_restart seen)) (sym k.units)
          (one-seen s.units index u (owing_after s.members index u (restarted u)) with_restart seen k.found refl units);
      begun =
          subst (λ (ms : List Member). AreBegun ms (seen_at index with_restart seen)) (sym k.members)
          (begun-after s.members _ seen (seen_at index with_restart seen) index false begun
          (restarted-after s.members index u (λ m e. begun index m e ∙ (ap (λ (x : Holding). is_some x.holder) is ∙ held-some u u.own)))
          (ap (λ (x : Holding). is_some x.holder) (here-is index with_restart seen)) (others-are index with_restart seen));
    }

-- reports and acts
map-some : (f : Held → Held) (h : Option Held) → is_some (option_map f h) ≡ is_some h
map-some f None = refl
map-some f (Some h) = refl

report-right : (s : State) (at : ℕ) (report : Report) (r : Reply) (new : State) (seen : Seen) → IsStepped s at report.side new (λ u. unit_reports u report) → AreSeen s.units seen → AreBegun s.members seen →
    IsRight s (event.Report at report) r new seen
report-right s at report r new seen k units begun =
    let u : UnitState = k.«unit» in
    let change : Holding → Holding = with_holder (with_transfer (reported report.answer)) in
    let next : holding_of k.step.state ≡ change (holding_of u) =
    subst (λ (x : Option UnitStep). IfStep x (λ v. holding_of v ≡ change (holding_of u))) k.taken (reports-hand u report) in
    record {
      right =
          subst (λ (x : Holding). IsReportRight x report) (sym (units at u k.found))
          (subst (λ (x : Option UnitStep). IfStep x (λ v. IsReportRight (holding_of u) report)) k.taken (reports-right u report));
      units = subst (λ (us : List UnitState). AreSeen us (seen_at at change seen)) (sym k.units) (one-seen s.units at u k.step.state change seen k.found (sym next) units);
      begun =
          subst (λ (ms : List Member). AreBegun ms (seen_at at change seen)) (sym k.members)
          (begun-after s.members s.members seen (seen_at at change seen) at (is_some (seen at).holder) begun (kept-after s.members at (is_some (seen at).holder) (begun at))
          (ap (λ (x : Holding). is_some x.holder) (here-is at change seen) ∙ map-some (with_transfer (reported report.answer)) (seen at).holder) (others-are at change seen));
    }

acted-some : (what : UnitAct) (k : Holding) → is_some (acted_after what k).holder ≡ is_some k.holder
acted-some act.Leave k = map-some _ k.holder
acted-some (act.Ask path) k = map-some _ k.holder
acted-some (act.Attention path side) k = refl
acted-some (act.Notice path side) k = refl

act-right : (s : State) (at : ℕ) (what : UnitAct) (r : Reply) (new : State) (seen : Seen) → IsActing s at what new → AreSeen s.units seen → AreBegun s.members seen → IsRight s (event.Act at what) r new seen
act-right s at what r new seen acting units begun =
    let side : Side = acting.side in
    let k : IsStepped s at side new (λ u. acts u side what) = acting.steps in
    let u : UnitState = k.«unit» in
    let acted : IsActed u what k.step.state = subst (λ (x : Option UnitStep). IfStep x (IsActed u what)) k.taken (acts-acted u side what (acting.its u k.found)) in
    let change : Holding → Holding = acted_after what in
    record {
      right = subst (λ (x : Holding). IsActRight x what) (sym (units at u k.found)) acted.0;
      units = subst (λ (us : List UnitState). AreSeen us (seen_at at change seen)) (sym k.units) (one-seen s.units at u k.step.state change seen k.found (sym acted.1) units);
      begun =
          subst (λ (ms : List Member). AreBegun ms (seen_at at change seen)) (sym k.members)
          (begun-after s.members s.members seen (seen_at at change seen) at (is_some (seen at).holder) begun (kept-after s.members at (is_some (seen at).holder) (begun at))
          (ap (λ (x : Holding). is_some x.holder) (here-is at change seen) ∙ acted-some what (seen at)) (others-are at change seen));
    }

turn-right : (s : State) (e : Event) (r : Reply) (new : State) (waiting : WaitingRequests) (seen : Seen) → ResultOf s e r new → AreAbove s → AreMembers s → AreSeen s.units seen → AreBegun s.members seen →
    IsRight s e r (record new { requests = waiting }) seen
turn-right s _ _ _ waiting seen (turn.Takes word path index sub u t named there found ok) above members units begun =
    let k : IsSunk s word path t.reply _ = turn-sunk s word path t.reply _ waiting (turn.Takes word path index sub u t named there found ok) in
    sunk-right s word path t.reply _ seen k (sunk-turned s word path t.reply _ k above) members units begun
turn-right s _ _ _ waiting seen (turn.Reports at index sub u report t found first there ok) above members units begun =
    report-right s at report t.reply _ seen (turn-reported s at report t.reply _ waiting (turn.Reports at index sub u report t found first there ok)) units begun
turn-right s _ _ _ waiting seen (turn.Acts at index sub u what side t found is first there ok) above members units begun =
    act-right s at what t.reply _ seen (turn-acting s at what t.reply _ waiting (turn.Acts at index sub u what side t found is first there ok)) units begun
turn-right s _ _ _ waiting seen (turn.Restarts at u found) above members units begun =
    restart-right s at reply.Done _ seen (turn-restarted s at reply.Done _ waiting (turn.Restarts at u found)) units begun
turn-right s _ _ _ waiting seen t above members units begun = record { right = tt; units = units; begun = begun }

step-right : (s : State) (e : Event) (r : Reply) (new : State) (seen : Seen) → Step s e r new → AreAbove s → AreMembers s → AreSeen s.units seen → AreBegun s.members seen → IsRight s e r new seen
step-right s e r new seen step above members units begun =
    let is : HasResult s e r new = step-turn s e r new step in
    subst (λ (x : State). IsRight s e r x seen) (sym is.settles) (turn-right s e r is.left _ seen is.turn above members units begun)

-- along a run, before which nothing was seen: of all units is seen what is of each
each-through : (sets : ℕ) (subs : List SubchannelSetup) (seen : Seen) (h : List Entry) →
    seen_through (seen_after sets subs) seen h ≡ (λ at. seen_through (holding_after sets subs at) (seen at) h)
each-through sets subs seen [] = refl
each-through sets subs seen (x ∷ h) = each-through sets subs (seen_after sets subs x.event x.reply seen) h

abbrev pub none_held : Seen
none_held at = nothing_held

abbrev pub run_seen : Setup → List Entry → Seen
run_seen setup h = λ at. seen_through (holding_after (set_count setup) setup.subchannels at) nothing_held h

pub record IsRunRight (setup : Setup) (h : List Entry) (s : State) : Type 0 where
  pub set_up : IsSetUp setup s
  pub seen : (at : ℕ) → IsSeen at s.units (run_seen setup h at)
  pub begun : AreBegun s.members (run_seen setup h)
  pub right : HasOneHolder setup h

opened-seen : (setup : Setup) (at : ℕ) → IsSeen at (opening_of setup).units nothing_held
opened-seen setup at u e =
    let p : (kind : UnitKind) × (slice_get setup.units at ≡ Some kind) × (idle_of kind ≡ u) = map-get idle_of setup.units at u e in
    ap holding_of p.2

opened-begun : (setup : Setup) → AreBegun (opening_of setup).members none_held
opened-begun setup i m e =
    let p : (g : ℕ) × (slice_get (groups_of setup) i ≡ Some g) × (idle_member g ≡ m) = map-get idle_member (groups_of setup) i m e in
    ap (λ (x : Member). x.begun) (sym p.2)

-- what is known of each step and each run
pub record AreKnown : Type 0 where
  pub set_up : (setup : Setup) (s : State) (e : Event) (r : Reply) (new : State) → Step s e r new → IsSetUp setup s → IsSetUp setup new
  pub above : (setup : Setup) (h : List Entry) (s : State) → IsLawful setup → Run (opening_of setup) h s → AreAbove s

map-back : {A B : Type 0} (f : A → B) (g : B → A) → ((x : A) → g (f x) ≡ x) → (xs : List A) → map g (map f xs) ≡ xs
map-back f g same [] = refl
map-back f g same (x ∷ xs) = ap (λ y. y ∷ map g (map f xs)) (same x) ∙ ap (λ ys. x ∷ ys) (map-back f g same xs)

pub opening-set_up : (setup : Setup) → IsLawful setup → IsSetUp setup (opening_of setup)
opening-set_up setup lawful = record {
  lawful = lawful;
  blocks = length-replicate (unwrap_or setup.blocks 16) _;
  sets = refl;
  chpids = refl;
  subs = opened-setups setup.subchannels;
  units = length-map setup.units idle_of;
  groups = map-back idle_member group_of (λ x. refl) (groups_of setup);
  requests = refl;
  path_return = refl;
}

-- each unit is in a group
pub there-is : {A : Type 0} (xs : List A) (n : ℕ) → n < length xs → (x : A) × (slice_get xs n ≡ Some x)
there-is [] n l = absurd (omega (arith, l))
there-is (x ∷ xs) zero l = (x, refl)
there-is (x ∷ xs) (suc n) l = there-is xs n (omega (arith, l))

groups-length : (n : ℕ) (groups : List (Option ℕ)) → length (groups_from n groups) ≡ length groups
groups-length n [] = refl
groups-length n (g ∷ gs) = ap (λ (k : ℕ). suc k) (groups-length (n + 1) gs)

set_up-members : (setup : Setup) (s : State) → IsSetUp setup s → AreMembers s
set_up-members setup s k at u found =
    let same : length s.members ≡ length s.units =
    sym (length-map s.members group_of) ∙ (ap (λ (gs : List ℕ). length gs) k.groups ∙ (groups-length 0 setup.shared ∙ (k.lawful.shared_units ∙ sym k.units))) in
    there-is s.members at (subst (λ (n : ℕ). at < n) (sym same) (slice_get_within s.units at u found))

pub run-right : AreKnown → (setup : Setup) (h : List Entry) (s : State) → IsLawful setup → Run (opening_of setup) h s → IsRunRight setup h s
run-right known setup _ _ lawful Opened = record { set_up = opening-set_up setup lawful; seen = opened-seen setup; begun = opened-begun setup; right = tt }
run-right known setup _ _ lawful (Stepped h old e r new run step) =
    let before : IsRunRight setup h old = run-right known setup h old lawful run in
    let seen : Seen = run_seen setup h in
    let set : IsSetUp setup old = before.set_up in
    let now : IsRight old e r new seen = step-right old e r new seen step (known.above setup h old lawful run) (set_up-members setup old set) before.seen before.begun in
    let subs : setups old.subs ≡ setup.subchannels = set.subs in
    let same : (at : ℕ) → seen_after old.sets (setups old.subs) e r seen at ≡ run_seen setup (h ++ record { event = e; reply = r } ∷ []) at =
    λ at.
    ap (λ (n : ℕ). holding_after n (setups old.subs) at e r (seen at)) set.sets ∙ (ap (λ (xs : List SubchannelSetup). holding_after (set_count setup) xs at e r (seen at)) subs
    ∙ sym (through-more (holding_after (set_count setup) setup.subchannels at) nothing_held h e r)) in
    record {
      set_up = known.set_up setup old e r new step set;
      seen = λ at. subst (λ (x : Holding). IsSeen at new.units x) (same at) (now.units at);
      begun = λ i m f. now.begun i m f ∙ ap (λ (x : Holding). is_some x.holder) (same i);
      right = claim-more (seen_after (set_count setup) setup.subchannels) (IsEntryRight (groups_of setup) (set_count setup) setup.subchannels) none_held h e r before.right
          (subst (λ (k : Seen). IsEntryRight (groups_of setup) (set_count setup) setup.subchannels e r k) (sym (each-through (set_count setup) setup.subchannels none_held h))
          (subst (λ (gs : List ℕ). IsEntryRight gs (set_count setup) setup.subchannels e r seen) set.groups
          (subst (λ (n : ℕ). IsEntryRight (map group_of old.members) n setup.subchannels e r seen) set.sets
          (subst (λ (xs : List SubchannelSetup). IsEntryRight (map group_of old.members) old.sets xs e r seen) subs now.right))));
    }

pub run-one-holder : AreKnown → (setup : Setup) (h : List Entry) (s : State) → IsLawful setup → Run (opening_of setup) h s → HasOneHolder setup h
run-one-holder known setup h s lawful run = (run-right known setup h s lawful run).right
