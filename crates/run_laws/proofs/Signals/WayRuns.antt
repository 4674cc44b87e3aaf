-- After each run what waits between a subchannel and its unit came by the path of its number and connection: in each entry it does.
use Rattle.std.proofs.Common.{◌≡◌, refl, sym, ◌∙◌, ap, subst, ℕ, ◌==◌, ◌&&◌, Bool, true, false, Option, None, Some, Result, List, [], ◌∷◌, ◌++◌, map, slice_get, slice_set, IfOk, if◌then◌else◌, inl, inr}
use Rattle.std.proofs.lemmas.Bool.{eq-eqb, eqb-true, and_parts}
use Rattle.chan_events.specs.Events.{Event}
use Rattle.chan_events.specs.declared.event.Event.TheVariants as event
use Rattle.chan_events.specs.declared.event.UnitAct.{UnitAct}
use Rattle.chan_events.specs.declared.event.UnitAct.TheVariants as act
use Rattle.chan_events.specs.declared.reply.Entry.{Entry}
use Rattle.chan_events.specs.Replies.{Reply}
use Rattle.chan_events.specs.declared.reply.Reply.TheVariants as reply
use Rattle.chan_model.specs.declared.fault.Fault.{Fault}
use Rattle.chan_model.specs.declared.names.Side.{Side}
use Rattle.chan_model.specs.Reports.{Report}
use Rattle.chan_model.specs.Signals.{Down, Up}
use Rattle.chan_model.specs.declared.signal.OnPath.{OnPath}
use Rattle.chan_model.specs.declared.unit_state.UnitState.{UnitState}
use Rattle.chan_model.specs.Sides.{same_side}
use Rattle.chan_model.specs.UnitReports.{unit_reports}
use Rattle.chan_model.specs.UnitTable.{UnitStep, is_idle}
use Rattle.control_units.specs.Units.{may_serve}
use Rattle.channel_config.specs.declared.parts.SubchannelSetup.{SubchannelSetup}
use Rattle.channel_config.specs.Lawful.{IsLawful}
use Rattle.channel_config.specs.Setup.{Setup, set_count}
use Rattle.channel_config.specs.SubchannelWords.{subchannel_named}
use Rattle.wires.specs.Queues.{queue, taken}
use Rattle.subchannel_model.specs.declared.state.Subchannel.{Subchannel}
use Rattle.subchannel_model.specs.Choosing.{chosen}
use Rattle.subchannel_model.specs.Opening.{opened}
use Rattle.machine_model.specs.ActSteps.{acts}
use Rattle.machine_model.specs.DownSteps.{with_answer}
use Rattle.machine_model.specs.PathSteps.{swept}
use Rattle.machine_model.specs.ReportSteps.{with_any_up}
use Rattle.machine_model.specs.State.{State, opening_of}
use Rattle.machine_model.specs.Steps.{Run, Opened, Stepped, Step}
use Rattle.machine_model.specs.Results.{SubResult, UpResult, with_state}
use Rattle.chan_model.proofs.OneSide.{same-side, one-side}
use Rattle.step_laws.proofs.Indices.{set-get, map-get, both-true, found-there}
use Rattle.step_laws.specs.Walks.{OneSub}
use Rattle.run_laws.specs.Agreeing.{AreAbove}
use Rattle.run_laws.specs.Devices.{Transfer, Holding, with_holder, with_transfer, reported, side_seen, with_restart, setup_named, acted_after, held_met, holding_met, holding_after, nothing_held}
use Rattle.run_laws.specs.OneHolder.{Seen, reply_due, IsAnswerNumbered}
use Rattle.run_laws.specs.DevicePaths.{Ways, way_met, is_at, ways_after, IsReplyBy, IsEntryBy, AreBy, HasOneWayEach}
use Rattle.run_laws.proofs.Signals.Bounds.{each-taken, each-sent}
use Rattle.run_laws.proofs.Signals.Holdings.{holding_of}
use Rattle.run_laws.proofs.Signals.HolderRuns.{AreSeen, AreKnown, IsRunRight, run-right, run_seen}
use Rattle.run_laws.specs.Entries.{seen_through}
use Rattle.run_laws.proofs.Machine.Appending.{through-more}
use Rattle.run_laws.proofs.Signals.UnitTurns.{setups, setup-is, IsTurned, sunk-turned}
use Rattle.run_laws.proofs.Machine.WaitingSignals.{Each, each-front}
use Rattle.run_laws.proofs.Signals.Lists.{none-wait}
use Rattle.run_laws.proofs.Signals.MemberSteps.{IsSunk, turn-sunk, IsStepped, turn-reported, IsActing, turn-acting, turn-restarted}
use Rattle.run_laws.proofs.Signals.MemberSteps as reading
use Rattle.run_laws.proofs.Signals.Ways.{OwnWay, Follows, transfer-follows, follows-same, met-follows, met-other, restart-follows, way_acted, act-follows}
use Rattle.run_laws.proofs.Signals.WaySignals.{UpWay, DownWay, up-follows, up-by, down-by, SentWay, due-way, taken-to, Sends, reports-send, acts-send}
use Rattle.run_laws.proofs.Signals.WayWires as wires
use Rattle.run_laws.proofs.Signals.WayWires.{WaySub, wires-follow, Carries, as-set_up, carries-setup, carries-way, choose-carries, swept-carries, IsUpMet, ups-met}
use Rattle.interruptions.specs.Requests.{WaitingRequests}
use Rattle.machine_model.specs.declared.state.Sweep.TheVariants as sweep
use Rattle.machine_model.specs.UpSteps.{returns_at}
use Rattle.chan_events.specs.declared.event.Instruction.{Instruction}
use Rattle.subchannel_model.specs.Indices.{Found, found_at, index_in}
use Rattle.step_laws.proofs.Executed.{IsDone, state_left}
use Rattle.step_laws.proofs.Results as turn
use Rattle.step_laws.proofs.Results.{ResultOf, HasResult, step-turn}

-- of each subchannel
abbrev AllWays : Type 0
AllWays = ℕ → Side → Ways

abbrev AreWayed : List Subchannel → Seen → AllWays → Type 0
AreWayed subs seen ways = (index : ℕ) (sub : Subchannel) → slice_get subs index ≡ Some sub → WaySub sub (seen sub.setup.«unit») (ways sub.setup.«unit» sub.setup.side)

all-follow : (subs : List Subchannel) (seen next : Seen) (ways after : AllWays) → ((at : ℕ) (side : Side) → Follows (seen at) (next at) side (ways at side) (after at side)) → AreWayed subs seen ways →
    AreWayed subs next after
all-follow subs seen next ways after f all = λ index sub e.
    wires-follow sub.setup.side sub.wires.up sub.wires.down (seen sub.setup.«unit») (next sub.setup.«unit») (ways sub.setup.«unit» sub.setup.side) (after sub.setup.«unit» sub.setup.side)
    (f sub.setup.«unit» sub.setup.side) (all index sub e)

set-wayed : (subs : List Subchannel) (index : ℕ) (sub after : Subchannel) (seen : Seen) (ways : AllWays) → after.setup ≡ sub.setup → WaySub after (seen sub.setup.«unit») (ways sub.setup.«unit» sub.setup.side) →
    AreWayed subs seen ways → AreWayed (slice_set subs index after) seen ways
set-wayed subs index sub after seen ways e w all = λ i x f.
    elim (set-get subs index after i x f) [
      | inl p ↦
          subst (λ (y : Subchannel). WaySub y (seen y.setup.«unit») (ways y.setup.«unit» y.setup.side)) (sym p.1)
          (subst (λ (y : SubchannelSetup). WaySub after (seen y.«unit») (ways y.«unit» y.side)) (sym e) w)
      | inr p ↦ all i x p.1
    ]

carries-wayed : (subs : List Subchannel) (index : ℕ) (sub after : Subchannel) (seen : Seen) (ways : AllWays) → slice_get subs index ≡ Some sub → Carries sub after → AreWayed subs seen ways →
    AreWayed (slice_set subs index after) seen ways
carries-wayed subs index sub after seen ways there c all =
    set-wayed subs index sub after seen ways (carries-setup sub after c) (carries-way sub after (seen sub.setup.«unit») (ways sub.setup.«unit» sub.setup.side) c (all index sub there)) all

swept-wayed : (f : Subchannel → Subchannel) → ((sub : Subchannel) → Carries sub (f sub)) → (subs : List Subchannel) (seen : Seen) (ways : AllWays) → AreWayed subs seen ways → AreWayed (map f subs) seen ways
swept-wayed f carry subs seen ways all = λ i x e.
    let p = map-get f subs i x e in
    let c : Carries p.0 (f p.0) = carry p.0 in
    subst (λ (y : Subchannel). WaySub y (seen y.setup.«unit») (ways y.setup.«unit» y.setup.side)) p.2
    (subst (λ (y : SubchannelSetup). WaySub (f p.0) (seen y.«unit») (ways y.«unit» y.side)) (sym (carries-setup p.0 (f p.0) c))
    (carries-way p.0 (f p.0) (seen p.0.setup.«unit») (ways p.0.setup.«unit» p.0.setup.side) c (all i p.0 p.1)))

-- an entry, and what is seen after it
abbrev next_seen : State → Event → Reply → Seen → Seen
next_seen s e r seen = λ at. holding_after s.sets (setups s.subs) at e r (seen at)

abbrev next_ways : State → Event → Reply → Seen → AllWays → AllWays
next_ways s e r seen ways = λ at side. ways_after s.sets (setups s.subs) at side e r (seen at) (ways at side)

record IsStepBy (s : State) (e : Event) (r : Reply) (new : State) (seen : Seen) (ways : AllWays) : Type 0 where
  entry : (at : ℕ) (side : Side) → IsEntryBy s.sets (setups s.subs) at side e r (seen at) (ways at side)
  wayed : AreWayed new.subs (next_seen s e r seen) (next_ways s e r seen ways)

-- the subchannel of an entry is at a side of a unit
at-parts : (x : SubchannelSetup) (at : ℕ) (side : Side) → is_at at side (Some x) ≡ true → (x.«unit» ≡ at) × (x.side ≡ side)
at-parts x at side e =
    let both = and_parts (x.«unit» == at) (same_side x.side side) e in (eqb-true x.«unit» at both.0, one-side x.side side both.1)

reply-at : (s : State) (word path index : ℕ) (sub : Subchannel) (r : Reply) (seen : Seen) (ways : AllWays) → setup_named (setups s.subs) (subchannel_named s.sets word) ≡ Some sub.setup →
    IsReplyBy (seen sub.setup.«unit») (ways sub.setup.«unit» sub.setup.side) path r → (at : ℕ) (side : Side) →
    is_at at side (setup_named (setups s.subs) (subchannel_named s.sets word)) ≡ true → IsReplyBy (seen at) (ways at side) path r
reply-at s word path index sub r seen ways named w at side e =
    let its = at-parts sub.setup at side (ap (λ (o : Option SubchannelSetup). is_at at side o) (sym named) ∙ e) in
    subst (λ (j : Side). IsReplyBy (seen at) (ways at j) path r) its.1 (subst (λ (n : ℕ). IsReplyBy (seen n) (ways n sub.setup.side) path r) its.0 w)

met-by : (s : State) (word path index : ℕ) (sub : Subchannel) (t : UpResult) (new : State) (seen : Seen) (ways : AllWays) → setup_named (setups s.subs) (subchannel_named s.sets word) ≡ Some sub.setup →
    OneSub s new index sub t.sub → IsUpMet sub path t → AreWayed s.subs seen ways → IsStepBy s (event.Up word path) t.reply new seen ways
met-by s word path index sub t new seen ways named one k all =
    let side : Side = sub.setup.side in
    let mine : Ways = ways sub.setup.«unit» side in
    let held : Holding = seen sub.setup.«unit» in
    let w : WaySub sub held mine = all index sub one.there in
    let front : UpWay mine held side path k.signal = each-front (UpWay mine held side path) (queue sub.wires.up path) k.signal (w.up path) k.front in
    record {
      entry = λ at j e. reply-at s word path index sub t.reply seen ways named (subst (λ (x : Reply). IsReplyBy held mine path x) (sym k.reply) (up-by mine held side path k.signal front)) at j e;
      wayed =
          subst (λ (xs : List Subchannel). AreWayed xs seen ways) (sym one.subs)
          (set-wayed s.subs index sub t.sub seen ways k.setup
          (as-set_up sub t.sub _ _ held mine k.setup k.up k.down
          (record {
            up = each-taken (λ p x. UpWay mine held side p x) sub.wires.up path w.up;
            down = each-sent (λ p d. DownWay mine held side p d) sub.wires.down sub.state.pmcw.available k.sent (k.way mine held side front) w.down;
            own = w.own;
          })) all);
    }

-- an instruction leaves what waits on wires
executed-wayed : (s : State) (i : Instruction) (p : Option ℕ) (q : Option Found) (r : Reply) (new : State) (seen : Seen) (ways : AllWays) → found_at s.subs p ≡ q → IsDone s i q r new →
    AreWayed s.subs seen ways → AreWayed new.subs seen ways
executed-wayed s i p None r new seen ways e k all = subst (λ (xs : List Subchannel). AreWayed xs seen ways) (sym k.subs) all
executed-wayed s i p (Some f) r new seen ways e k all =
    subst (λ (xs : List Subchannel). AreWayed xs seen ways) (sym k.subs)
    (carries-wayed s.subs f.index f.sub (with_state f.sub (state_left i f.sub k.effect)) seen ways (found-there s.subs p f e).1 (wires.Keeps _ refl refl) all)

-- a unit takes a signal
one-follows : (k : Holding) (side j : Side) (path : ℕ) (d : Down) (taken : Bool) (sent : Option (OnPath Up)) (w : Ways) (here mine : Bool) → (here ≡ true → IsAnswerNumbered k side sent) →
    same_side side j ≡ mine →
    Follows k (if here then held_met side path (reply.Down d taken sent) k else k) j w (if here && mine then way_met path (reply.Down d taken sent) w else w)
one-follows k side j path d taken sent w false mine numbered e = follows-same k j w
one-follows k side j path d taken sent w true true numbered e =
    subst (λ (i : Side). Follows k (held_met side path (reply.Down d taken sent) k) i w (way_met path (reply.Down d taken sent) w)) (one-side side j e)
    (met-follows k side path d taken sent w (numbered refl))
one-follows k side j path d taken sent w true false numbered e = met-other k side j path d taken sent w e

abbrev met_seen : Option SubchannelSetup → ℕ → Reply → Seen → Seen
met_seen o path r seen = λ at. holding_met at o path r (seen at)

abbrev met_ways : Option SubchannelSetup → ℕ → Reply → AllWays → AllWays
met_ways o path r ways = λ at side. if is_at at side o then way_met path r (ways at side) else ways at side

if-is : {A : Type 0} (b : Bool) (x y : A) → b ≡ true → x ≡ (if b then x else y)
if-is true x y e = refl
if-is false x y e = absurd (cc e)

sunk-by : (s : State) (word path : ℕ) (r : Reply) (new : State) (seen : Seen) (ways : AllWays) (k : IsSunk s word path r new) → IsTurned s word path r new k → AreSeen s.units seen → AreWayed s.subs seen ways →
    IsStepBy s (event.Down word path) r new seen ways
sunk-by s word path r new seen ways k t units all =
    let sub : Subchannel = k.sub in
    let at : ℕ = sub.setup.«unit» in
    let side : Side = sub.setup.side in
    let is : seen at ≡ holding_of k.«unit» = units at k.«unit» k.found in
    let d : Down = t.signal in
    let free : Bool = is_idle k.«unit».own && may_serve s.members at in
    let answer : Reply = reply.Down d t.taken t.sent in
    let due : answer ≡ reply_due (seen at) side path free d = t.due ∙ ap (λ (x : Holding). reply_due x side path free d) (sym is) in
    let numbered : IsAnswerNumbered (seen at) side t.sent = subst (λ (x : Holding). IsAnswerNumbered x side t.sent) (sym is) t.numbered in
    let named : setup_named (setups s.subs) (subchannel_named s.sets word) ≡ Some sub.setup = setup-is s.subs (subchannel_named s.sets word) k.index sub k.named k.there in
    let w : WaySub sub (seen at) (ways at side) = all k.index sub k.there in
    let front : DownWay (ways at side) (seen at) side path d = each-front (DownWay (ways at side) (seen at) side path) (queue sub.wires.down path) d (w.down path) t.front in
    let next : Seen = met_seen (Some sub.setup) path answer seen in
    let after : AllWays = met_ways (Some sub.setup) path answer ways in
    let follows : (i : ℕ) (j : Side) → Follows (seen i) (next i) j (ways i j) (after i j) =
    λ i j.
    one-follows (seen i) side j path d t.taken t.sent (ways i j) (at == i) (same_side side j)
    (λ e. subst (λ (n : ℕ). IsAnswerNumbered (seen n) side t.sent) (eqb-true at i e) numbered) refl in
    let held : held_met side path answer (seen at) ≡ next at = if-is (at == at) (held_met side path answer (seen at)) (seen at) (eq-eqb at at refl) in
    let its : way_met path answer (ways at side) ≡ after at side =
    if-is (is_at at side (Some sub.setup)) (way_met path answer (ways at side)) (ways at side) (both-true (at == at) (same_side side side) (eq-eqb at at refl) (same-side side)) in
    let sent : SentWay (after at side) (next at) side t.sent =
    subst (λ (x : Holding). SentWay (after at side) x side t.sent) held
    (subst (λ (y : Ways). SentWay y (held_met side path answer (seen at)) side t.sent) its (due-way (ways at side) (seen at) side path free d t.taken t.sent due front)) in
    let mine : WaySub sub (next at) (after at side) = wires-follow side sub.wires.up sub.wires.down (seen at) (next at) (ways at side) (after at side) (follows at side) w in
    let now : WaySub (with_answer sub path t.sent) (next at) (after at side) =
    record {
      up = each-sent (λ p x. UpWay (after at side) (next at) side p x) sub.wires.up sub.state.pmcw.available t.sent sent mine.up;
      down = each-taken (λ p x. DownWay (after at side) (next at) side p x) sub.wires.down path mine.down;
      own = mine.own;
    } in
    record {
      entry = λ i j e.
          reply-at s word path k.index sub r seen ways named
          (subst (λ (x : Reply). IsReplyBy (seen at) (ways at side) path x) (sym t.replied)
          (down-by (ways at side) (seen at) side path d front, taken-to (ways at side) (seen at) side path free d t.taken t.sent w.own front due)) i j e;
      wayed =
          subst (λ (o : Option SubchannelSetup). AreWayed new.subs (met_seen o path r seen) (met_ways o path r ways)) (sym named)
          (subst (λ (x : Reply). AreWayed new.subs (met_seen (Some sub.setup) path x seen) (met_ways (Some sub.setup) path x ways)) (sym t.replied)
          (subst (λ (xs : List Subchannel). AreWayed xs next after) (sym k.subs)
          (subst (λ (x : Subchannel). AreWayed (slice_set s.subs k.index x) next after) (sym t.left)
          (set-wayed s.subs k.index sub (with_answer sub path t.sent) next after refl now (all-follow s.subs seen next ways after follows all)))));
    }

-- a unit is restarted
restart-by : (s : State) (index : ℕ) (r : Reply) (new : State) (seen : Seen) (ways : AllWays) → reading.IsRestarted s index new → AreWayed s.subs seen ways → IsStepBy s (event.Restart index) r new seen ways
restart-by s index r new seen ways k all = record {
  entry = λ at side. tt;
  wayed = subst (λ (xs : List Subchannel). AreWayed xs (next_seen s (event.Restart index) r seen) ways) (sym k.subs)
      (all-follow s.subs seen (next_seen s (event.Restart index) r seen) ways ways (λ at side. by (index == at) at side) all);
}
  where
    by : (b : Bool) (at : ℕ) (side : Side) → Follows (seen at) (if b then with_restart (seen at) else seen at) side (ways at side) (ways at side)
    by true at side = restart-follows (seen at) side (ways at side)
    by false at side = follows-same (seen at) side (ways at side)

-- a report
sent-wayed : (s : State) (at : ℕ) (side : Side) (new : State) (steps : UnitState → Option UnitStep) (k : IsStepped s at side new steps) (next : Seen) (after : AllWays) →
    SentWay (after at side) (next at) side k.step.sent → AreWayed s.subs next after → AreWayed new.subs next after
sent-wayed s at side new steps k next after sent all =
    let sub : Subchannel = k.sub in
    let w : WaySub sub (next sub.setup.«unit») (after sub.setup.«unit» sub.setup.side) = all k.index sub k.there in
    let its : SentWay (after sub.setup.«unit» sub.setup.side) (next sub.setup.«unit») sub.setup.side k.step.sent =
    subst (λ (n : ℕ). SentWay (after n sub.setup.side) (next n) sub.setup.side k.step.sent) (sym k.its_unit)
    (subst (λ (j : Side). SentWay (after at j) (next at) j k.step.sent) (sym k.its_side) sent) in
    subst (λ (xs : List Subchannel). AreWayed xs next after) (sym k.subs)
    (set-wayed s.subs k.index sub (with_any_up sub k.step.sent) next after refl
    (record {
      up = each-sent (λ p x. UpWay (after sub.setup.«unit» sub.setup.side) (next sub.setup.«unit») sub.setup.side p x) sub.wires.up sub.state.pmcw.available k.step.sent its w.up;
      down = w.down;
      own = w.own;
    }) all)

abbrev OwnAt : Seen → AllWays → ℕ → Side → Type 0
OwnAt seen ways at side = OwnWay (ways at side) (side_seen (seen at) side).number (seen at).holder side

own-at : (s : State) (at : ℕ) (side : Side) (new : State) (steps : UnitState → Option UnitStep) (k : IsStepped s at side new steps) (seen : Seen) (ways : AllWays) → AreWayed s.subs seen ways → OwnAt seen ways at side
own-at s at side new steps k seen ways all =
    subst (λ (j : Side). OwnAt seen ways at j) k.its_side (subst (λ (n : ℕ). OwnAt seen ways n k.sub.setup.side) k.its_unit (all k.index k.sub k.there).own)

report-if : (b : Bool) (k : Holding) (side : Side) (w : Ways) (f : Transfer → Transfer) → Follows k (if b then with_holder (with_transfer f) k else k) side w w
report-if true k side w f = transfer-follows k side w f
report-if false k side w f = follows-same k side w

sent-follows : (w after : Ways) (k next : Holding) (side : Side) (sent : Option (OnPath Up)) → Follows k next side w after → SentWay w k side sent → SentWay after next side sent
sent-follows w after k next side None f s = tt
sent-follows w after k next side (Some one) f s = up-follows w after k next side one.path one.signal f s

report-by : (s : State) (at : ℕ) (report : Report) (r : Reply) (new : State) (seen : Seen) (ways : AllWays) → IsStepped s at report.side new (λ u. unit_reports u report) → AreSeen s.units seen →
    AreWayed s.subs seen ways → IsStepBy s (event.Report at report) r new seen ways
report-by s at report r new seen ways k units all =
    let side : Side = report.side in
    let u : UnitState = k.«unit» in
    let is : seen at ≡ holding_of u = units at u k.found in
    let own : OwnWay (ways at side) (side_seen (holding_of u) side).number (holding_of u).holder side =
    subst (λ (x : Holding). OwnWay (ways at side) (side_seen x side).number x.holder side) is (own-at s at side new (λ v. unit_reports v report) k seen ways all) in
    let change : Holding → Holding = with_holder (with_transfer (reported report.answer)) in
    let next : Seen = next_seen s (event.Report at report) r seen in
    let old : SentWay (ways at side) (seen at) side k.step.sent =
    subst (λ (x : Holding). SentWay (ways at side) x side k.step.sent) (sym is)
    (subst (λ (x : Option UnitStep). Sends (ways at side) (holding_of u) side x) k.taken (reports-send (ways at side) u report own)) in
    let follows : (b : Bool) (i : ℕ) (j : Side) → Follows (seen i) (if b then change (seen i) else seen i) j (ways i j) (ways i j) =
    λ b i j. report-if b (seen i) j (ways i j) (reported report.answer) in
    let sent : SentWay (ways at side) (next at) side k.step.sent = sent-follows (ways at side) (ways at side) (seen at) (next at) side k.step.sent (follows (at == at) at side) old in
    record { entry = λ i j. tt; wayed = sent-wayed s at side new (λ v. unit_reports v report) k next ways sent (all-follow s.subs seen next ways ways (λ i j. follows (at == i) i j) all) }

-- an act
if-same : (b : Bool) (x : Ways) → (if b then x else x) ≡ x
if-same true x = refl
if-same false x = refl

way-act : (sets : ℕ) (subs : List SubchannelSetup) (i : ℕ) (j : Side) (at : ℕ) (what : UnitAct) (r : Reply) (k : Holding) (w : Ways) →
    (if at == i then way_acted j what k.holder w else w) ≡ ways_after sets subs i j (event.Act at what) r k w
way-act sets subs i j at (act.Ask path) r k w = refl
way-act sets subs i j at other r k w = if-same (at == i) w

act-if : (b : Bool) (k : Holding) (side : Side) (what : UnitAct) (w : Ways) → Follows k (if b then acted_after what k else k) side w (if b then way_acted side what k.holder w else w)
act-if true k side what w = act-follows k side what w
act-if false k side what w = follows-same k side w

act-by : (s : State) (at : ℕ) (what : UnitAct) (r : Reply) (new : State) (seen : Seen) (ways : AllWays) → IsActing s at what new → AreSeen s.units seen → AreWayed s.subs seen ways →
    IsStepBy s (event.Act at what) r new seen ways
act-by s at what r new seen ways acting units all =
    let side : Side = acting.side in
    let k : IsStepped s at side new (λ u. acts u side what) = acting.steps in
    let u : UnitState = k.«unit» in
    let is : seen at ≡ holding_of u = units at u k.found in
    let own : OwnWay (ways at side) (side_seen (holding_of u) side).number (holding_of u).holder side =
    subst (λ (x : Holding). OwnWay (ways at side) (side_seen x side).number x.holder side) is (own-at s at side new (λ v. acts v side what) k seen ways all) in
    let next : Seen = next_seen s (event.Act at what) r seen in
    let after : AllWays = λ i j. if at == i then way_acted j what (seen i).holder (ways i j) else ways i j in
    let held : acted_after what (seen at) ≡ next at = if-is (at == at) (acted_after what (seen at)) (seen at) (eq-eqb at at refl) in
    let its : way_acted side what (seen at).holder (ways at side) ≡ after at side = if-is (at == at) (way_acted side what (seen at).holder (ways at side)) (ways at side) (eq-eqb at at refl) in
    let sends : SentWay (way_acted side what (holding_of u).holder (ways at side)) (acted_after what (holding_of u)) side k.step.sent =
    subst (λ (x : Option UnitStep). Sends (way_acted side what (holding_of u).holder (ways at side)) (acted_after what (holding_of u)) side x) k.taken
    (acts-send (ways at side) u side what (acting.its u k.found) own) in
    let sent : SentWay (after at side) (next at) side k.step.sent =
    subst (λ (x : Holding). SentWay (after at side) x side k.step.sent) held
    (subst (λ (y : Ways). SentWay y (acted_after what (seen at)) side k.step.sent) its
    (subst (λ (x : Holding). SentWay (way_acted side what x.holder (ways at side)) (acted_after what x) side k.step.sent) (sym is) sends)) in
    let wayed : AreWayed new.subs next after =
    sent-wayed s at side new (λ v. acts v side what) k next after sent (all-follow s.subs seen next ways after (λ i j. act-if (at == i) (seen i) j what (ways i j)) all) in
    record {
      entry = λ i j. tt;
      wayed = λ index sub f.
          subst (λ (y : Ways). WaySub sub (next sub.setup.«unit») y)
          (way-act s.sets (setups s.subs) sub.setup.«unit» sub.setup.side at what r (seen sub.setup.«unit») (ways sub.setup.«unit» sub.setup.side)) (wayed index sub f);
    }

turn-by : (s : State) (e : Event) (r : Reply) (new : State) (waiting : WaitingRequests) (seen : Seen) (ways : AllWays) → ResultOf s e r new → AreAbove s → AreSeen s.units seen → AreWayed s.subs seen ways →
    IsStepBy s e r (record new { requests = waiting }) seen ways
turn-by s _ _ _ waiting seen ways (turn.Executes cpu i id q r storage subs n e blocks left done) above units all =
    record { entry = λ at side. tt; wayed = executed-wayed s i (index_in id s.subs) q r (record s { storage = storage; subs = subs }) seen ways e done all }
turn-by s _ _ _ waiting seen ways (turn.Chosen word index sub choice t named there is ok) above units all =
    record {
      entry = λ at side. tt;
      wayed = carries-wayed s.subs index sub t.sub seen ways there
          (subst (λ (y : Result SubResult Fault). IfOk y (λ t. Carries sub t.sub)) ok (choose-carries sub choice (chosen sub choice))) all;
    }
turn-by s _ _ _ waiting seen ways (turn.Meets word path index sub t named there ok) above units all =
    met-by s word path index sub t _ seen ways (setup-is s.subs (subchannel_named s.sets word) index sub named there) (record { there = there; sets = refl; up = refl; subs = refl; units = refl })
    (subst (λ (y : Result UpResult Fault). IfOk y (IsUpMet sub path)) ok (ups-met (returns_at s.subs sub path) s.storage sub path)) all
turn-by s _ _ _ waiting seen ways (turn.Takes word path index sub u t named there found ok) above units all =
    let k : IsSunk s word path t.reply _ = turn-sunk s word path t.reply _ waiting (turn.Takes word path index sub u t named there found ok) in
    sunk-by s word path t.reply _ seen ways k (sunk-turned s word path t.reply _ k above) units all
turn-by s _ _ _ waiting seen ways (turn.Reports at index sub u report t found first there ok) above units all =
    report-by s at report t.reply _ seen ways (turn-reported s at report t.reply _ waiting (turn.Reports at index sub u report t found first there ok)) units all
turn-by s _ _ _ waiting seen ways (turn.Acts at index sub u what side t found is first there ok) above units all =
    act-by s at what t.reply _ seen ways (turn-acting s at what t.reply _ waiting (turn.Acts at index sub u what side t found is first there ok)) units all
turn-by s _ _ _ waiting seen ways (turn.Restarts at u found) above units all =
    restart-by s at reply.Done _ seen ways (turn-restarted s at reply.Done _ waiting (turn.Restarts at u found)) all
turn-by s _ _ _ waiting seen ways (turn.GoesDown chpid) above units all =
    record { entry = λ at side. tt; wayed = swept-wayed (swept (sweep.GoesDown chpid)) (swept-carries (sweep.GoesDown chpid)) s.subs seen ways all }
turn-by s _ _ _ waiting seen ways (turn.ComesUp chpid) above units all =
    record { entry = λ at side. tt; wayed = swept-wayed (swept (sweep.ComesUp chpid)) (swept-carries (sweep.ComesUp chpid)) s.subs seen ways all }
turn-by s _ _ _ waiting seen ways (turn.IsReset chpid asked) above units all =
    record { entry = λ at side. tt; wayed = swept-wayed (swept (sweep.PathReset chpid)) (swept-carries (sweep.PathReset chpid)) s.subs seen ways all }
turn-by s _ _ _ waiting seen ways turn.ResetsAll above units all =
    record { entry = λ at side. tt; wayed = swept-wayed (swept sweep.SystemReset) (swept-carries sweep.SystemReset) s.subs seen ways all }
turn-by s _ _ _ waiting seen ways t above units all = record { entry = λ at side. tt; wayed = all }

step-by : (s : State) (e : Event) (r : Reply) (new : State) (seen : Seen) (ways : AllWays) → Step s e r new → AreAbove s → AreSeen s.units seen → AreWayed s.subs seen ways →
    IsStepBy s e r new seen ways
step-by s e r new seen ways step above units all =
    let is : HasResult s e r new = step-turn s e r new step in
    subst (λ (x : State). IsStepBy s e r x seen ways) (sym is.settles) (turn-by s e r is.left _ seen ways is.turn above units all)

-- along a run
abbrev ways_through : ℕ → List SubchannelSetup → ℕ → Side → Holding → Ways → List Entry → Ways
ways_through sets subs at side k ways [] = ways
ways_through sets subs at side k ways (x ∷ xs) = ways_through sets subs at side (holding_after sets subs at x.event x.reply k) (ways_after sets subs at side x.event x.reply k ways) xs

ways-more : (sets : ℕ) (subs : List SubchannelSetup) (at : ℕ) (side : Side) (k : Holding) (ways : Ways) (h : List Entry) (x : Entry) →
    ways_through sets subs at side k ways (h ++ x ∷ []) ≡ ways_after sets subs at side x.event x.reply (seen_through (holding_after sets subs at) k h) (ways_through sets subs at side k ways h)
ways-more sets subs at side k ways [] x = refl
ways-more sets subs at side k ways (y ∷ h) x = ways-more sets subs at side (holding_after sets subs at y.event y.reply k) (ways_after sets subs at side y.event y.reply k ways) h x

by-more : (sets : ℕ) (subs : List SubchannelSetup) (at : ℕ) (side : Side) (k : Holding) (ways : Ways) (h : List Entry) (x : Entry) → AreBy sets subs at side k ways h →
    IsEntryBy sets subs at side x.event x.reply (seen_through (holding_after sets subs at) k h) (ways_through sets subs at side k ways h) → AreBy sets subs at side k ways (h ++ x ∷ [])
by-more sets subs at side k ways [] x all one = (one, tt)
by-more sets subs at side k ways (y ∷ h) x all one =
    (all.0, by-more sets subs at side (holding_after sets subs at y.event y.reply k) (ways_after sets subs at side y.event y.reply k ways) h x all.1 one)

abbrev no_ways : Ways
no_ways = λ t c. None

abbrev run_ways : Setup → List Entry → AllWays
run_ways setup h = λ at side. ways_through (set_count setup) setup.subchannels at side nothing_held no_ways h

record IsRunBy (setup : Setup) (h : List Entry) (s : State) : Type 0 where
  wayed : AreWayed s.subs (run_seen setup h) (run_ways setup h)
  by : HasOneWayEach setup h

opened-wayed : (setup : Setup) → AreWayed (opening_of setup).subs (run_seen setup []) (run_ways setup [])
opened-wayed setup index sub e =
    let p = map-get opened setup.subchannels index sub e in
    subst (λ (x : Subchannel). WaySub x nothing_held no_ways) p.2
    (record {
      up = none-wait (λ q xs. Each (UpWay no_ways nothing_held p.0.side q) xs) 8 (λ q. tt);
      down = none-wait (λ q xs. Each (DownWay no_ways nothing_held p.0.side q) xs) 8 (λ q. tt);
      own = tt;
    })

run-by : AreKnown → (setup : Setup) (h : List Entry) (s : State) → IsLawful setup → Run (opening_of setup) h s → IsRunBy setup h s
run-by known setup _ _ lawful Opened = record { wayed = opened-wayed setup; by = λ at side. tt }
run-by known setup _ _ lawful (Stepped h old e r new run step) =
    let before : IsRunBy setup h old = run-by known setup h old lawful run in
    let right : IsRunRight setup h old = run-right known setup h old lawful run in
    let seen : Seen = run_seen setup h in
    let ways : AllWays = run_ways setup h in
    let x : Entry = record { event = e; reply = r } in
    let now : IsStepBy old e r new seen ways = step-by old e r new seen ways step (known.above setup h old lawful run) right.seen before.wayed in
    let sets : old.sets ≡ set_count setup = right.set_up.sets in
    let subs : setups old.subs ≡ setup.subchannels = right.set_up.subs in
    let held : (at : ℕ) → holding_after old.sets (setups old.subs) at e r (seen at) ≡ run_seen setup (h ++ x ∷ []) at =
    λ at.
    ap (λ (n : ℕ). holding_after n (setups old.subs) at e r (seen at)) sets ∙ (ap (λ (xs : List SubchannelSetup). holding_after (set_count setup) xs at e r (seen at)) subs
    ∙ sym (through-more (holding_after (set_count setup) setup.subchannels at) nothing_held h e r)) in
    let went : (at : ℕ) (side : Side) → ways_after old.sets (setups old.subs) at side e r (seen at) (ways at side) ≡ run_ways setup (h ++ x ∷ []) at side =
    λ at side.
    ap (λ (n : ℕ). ways_after n (setups old.subs) at side e r (seen at) (ways at side)) sets
    ∙ (ap (λ (xs : List SubchannelSetup). ways_after (set_count setup) xs at side e r (seen at) (ways at side)) subs
    ∙ sym (ways-more (set_count setup) setup.subchannels at side nothing_held no_ways h x)) in
    record {
      wayed = λ index sub f.
          let at : ℕ = sub.setup.«unit» in
          let side : Side = sub.setup.side in
          subst (λ (k : Holding). WaySub sub k (run_ways setup (h ++ x ∷ []) at side)) (held at)
          (subst (λ (w : Ways). WaySub sub (holding_after old.sets (setups old.subs) at e r (seen at)) w) (went at side) (now.wayed index sub f));
      by = λ at side.
          by-more (set_count setup) setup.subchannels at side nothing_held no_ways h x (before.by at side)
          (subst (λ (n : ℕ). IsEntryBy n setup.subchannels at side e r (seen at) (ways at side)) sets
          (subst (λ (xs : List SubchannelSetup). IsEntryBy old.sets xs at side e r (seen at) (ways at side)) subs (now.entry at side)));
    }

pub run-one-way : AreKnown → (setup : Setup) (h : List Entry) (s : State) → IsLawful setup → Run (opening_of setup) h s → HasOneWayEach setup h
run-one-way known setup h s lawful run = (run-by known setup h s lawful run).by
