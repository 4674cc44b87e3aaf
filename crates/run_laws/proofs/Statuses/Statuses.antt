-- The address and the count of a status that a step makes, by what the status word showed before it and by what was told of the program.
use Rattle.std.proofs.Common.{◌≡◌, refl, sym, ◌∙◌, ap, subst, ℕ, ◌<◌, arith, ◌&&◌, ◌||◌, not, Bool, true, false, Option, None, Some, inl, inr}
use Rattle.std.specs.Prelude.{if◌then◌else◌, is_none, is_some, slice_get}
use Rattle.std.proofs.lemmas.Bool.{and_parts, and_right, or_right}
use Rattle.scsw_irb.specs.declared.status.DeviceStatus.{DeviceStatus}
use Rattle.storage_keys.specs.Storage.{Contents}
use Rattle.chan_model.specs.declared.signal.OnPath.{OnPath}
use Rattle.chan_model.specs.Signals.{Down, Up}
use Rattle.chan_model.specs.declared.signal.Up.TheVariants as up
use Rattle.chan_model.specs.ResetCauses.{is_path}
use Rattle.chan_model.specs.UnitReports.{is_last_end}
use Rattle.chan_events.specs.Events.{Event}
use Rattle.chan_events.specs.declared.event.Event.TheVariants as event
use Rattle.chan_events.specs.Replies.{Reply}
use Rattle.chan_events.specs.declared.reply.Reply.TheVariants as reply
use Rattle.ccw_walk.specs.Sequences.{Sequence, ◌▸◌}
use Rattle.ccw_walk.specs.Acts.{Act}
use Rattle.subchannel_model.specs.declared.state.Subchannel.{Subchannel}
use Rattle.subchannel_model.specs.declared.state.SubchannelState.{SubchannelState}
use Rattle.subchannel_model.specs.Choosing.{unsent_reset, clear_chosen}
use Rattle.machine_model.specs.State.{State, index_of}
use Rattle.run_laws.proofs.Signals.Overs.{over-stops}
use Rattle.run_laws.proofs.Offers.Offers.{ahead-over}
use Rattle.run_laws.specs.Shows.{ShowsStanding, ShowsIf, ShowsZero, IsShownOf}
use Rattle.run_laws.specs.Tells as tells
use Rattle.run_laws.specs.Tells.{SentCommand, command_sent, GoesTo, GoesOn, Accepted, ended, IsChained, Chains, Meets, MeetsNone, OfBoth, GoesBy, IsShownOfChoice}
use Rattle.run_laws.specs.Traces.{ProgramTrace, chosen_at}
use Rattle.run_laws.proofs.Shown.Behind.{IsBehind}
use Rattle.run_laws.proofs.Shown.Showing.{TellsPrograms}
use Rattle.run_laws.specs.StatusTold.{ShowsOf, ShowsAccept, ShowsSignal, ShowsChosen, ShowsAfter}
use Rattle.run_laws.proofs.Traces.Telling.{IsJust}
use Rattle.run_laws.proofs.Traces.Accepts.{over as over-stands}

-- a Bool with one more
and-true : (w : Bool) → (w && true) ≡ w
and-true true = refl
and-true false = refl

or-false : (w : Bool) → (w || false) ≡ w
or-false true = refl
or-false false = refl

-- whether a status is of the program
of-program : (w b u behind : Bool) → (u ≡ true → w ≡ true) → (b ≡ true → w ≡ not behind) → (w && (b || u)) ≡ (u || (b && not behind))
of-program w b true behind f g = ap (λ (x : Bool). x && (b || true)) (f refl) ∙ or_right b true refl
of-program w true false behind f g = and-true w ∙ g refl
of-program w false false behind f g = and_right w false refl

last-end : (w behind last : Bool) → w ≡ not behind → (w || not last) ≡ not (behind && last)
last-end w behind true e = or-false w ∙ e ∙ ap not (sym (and-true behind))
last-end w behind false e = or_right w true refl ∙ ap not (sym (and_right behind false refl))

-- of one subchannel, where a status was made
module _ (s next : SubchannelState) (p : TellsPrograms s) (behind : Bool) (b : IsBehind behind s) (made : s.serials.made < next.serials.made) where
  same-work : (is_none s.waiting && (is_some s.begun || is_some s.suspended)) ≡ (s.scsw.activity.suspended || (s.scsw.activity.device_active && not behind))
  same-work =
      of-program (is_none s.waiting) (is_some s.begun) (is_some s.suspended) behind p.alone b
      ∙ ap (λ (x : Bool). x || (is_some s.begun && not behind)) (sym p.suspended)
      ∙ ap (λ (x : Bool). s.scsw.activity.suspended || (x && not behind)) (sym p.device)

  of-shown : (k : Option ProgramTrace) → IsShownOf s next k → ShowsOf behind s.scsw next.scsw k
  of-shown None f = f made
  of-shown (Some k) f = subst (λ (x : Bool). ShowsIf x s.scsw next.scsw k) same-work (f made)

  -- a clear that is pending is of no program
  clear-stands : s.scsw.activity.clear_pending ≡ true → (k : Option ProgramTrace) → IsShownOf s next k → ShowsStanding s.scsw next.scsw
  clear-stands e None f = f made
  clear-stands e (Some k) f =
      let was = p.clears e in
      subst (λ (x : Bool). ShowsIf x s.scsw next.scsw k)
      (ap (λ (x : Bool). is_none s.waiting && (x || is_some s.suspended)) was.0 ∙ ap (λ (x : Bool). is_none s.waiting && x) was.1 ∙ and_right (is_none s.waiting) false refl) (f made)

  clear-shown : (k : Option ProgramTrace) → s.scsw.activity.clear_pending ≡ true → IsShownOf s next k → ShowsZero next.scsw
  clear-shown k e f = let was = p.clears e in let stood = clear-stands e k f in (stood.0 ∙ was.2, stood.1 ∙ was.3)

  chosen-shown : (unsent : Option ℕ) (pending : Bool) (k : Option ProgramTrace) → s.scsw.activity.clear_pending ≡ pending → IsShownOfChoice (clear_chosen unsent pending) s next k →
      ShowsChosen pending behind s.scsw next.scsw k
  chosen-shown None true k e f = clear-shown k e f
  chosen-shown None false k e f = of-shown k f
  chosen-shown (Some r) true k e f = f made
  chosen-shown (Some r) false k e f = of-shown k f

  -- Accept
  accept-shown : (over : Bool) (storage : Contents) (sent : Option (OnPath Down)) (k after : ProgramTrace) → IsJust over s → Accepted storage s next sent k after →
      ShowsAccept over behind s.scsw next.scsw after
  accept-shown true storage sent k after just (inl x) = subst (λ (y : ProgramTrace). ShowsOf behind s.scsw next.scsw (Some y)) (sym x.2) (of-shown (Some k) x.3)
  accept-shown true storage sent k after just (inr x) = absurd (x.0 (over-stands s (over-stops s just)))
  accept-shown false storage sent k after just (inl x) = absurd (ahead-over s just x.0)
  accept-shown false storage sent k after just (inr x) = x.2 made

-- End: where the program goes on its chain is whole
first-false : (a b : Bool) → not (a || b) ≡ true → a ≡ false
first-false true b e = absurd (cc e)
first-false false b e = refl

to-unchained : (storage : Contents) (c : Option SentCommand) (acts : Sequence Act) (k after : ProgramTrace) → k.now.unchained ≡ false → GoesTo storage c acts k after → after.now.unchained ≡ false
to-unchained storage (Some c) acts k after e g = ap (λ (x : ProgramTrace). x.now.unchained) g.5
to-unchained storage None acts k after e g = ap (λ (x : ProgramTrace). x.now.unchained) g.1 ∙ e

on-unchained : (storage : Contents) (sent : Option (OnPath Down)) (before : Sequence Act) (k after : ProgramTrace) → k.now.unchained ≡ false → GoesOn storage sent before k after → after.now.unchained ≡ false
on-unchained storage sent before k after e g = to-unchained storage (command_sent sent) g.0 k after e g.2

chained-free : (halted : Bool) (status : DeviceStatus) (more : Bool) (k : ProgramTrace) → IsChained true halted status more k → k.now.unchained ≡ false
chained-free halted status more k i = first-false k.now.unchained _ (and_parts _ _ i).1

chained-unchained : (halted : Bool) (storage : Contents) (status : DeviceStatus) (more : Bool) (sent : Option (OnPath Down)) (k after : ProgramTrace) →
    IsChained true halted status more k → Chains storage status sent k after → after.now.unchained ≡ false
chained-unchained halted storage status more sent k after i (inl x) =
    on-unchained storage sent (k.now.acts ▸ ended true status) k after (chained-free halted status more k i) x.1
chained-unchained halted storage status more sent k after i (inr x) = ap (λ (y : ProgramTrace). y.now.unchained) x.2 ∙ chained-free halted status more k i

module _ (s next : SubchannelState) (p : TellsPrograms s) (behind : Bool) (b : IsBehind behind s) (made : s.serials.made < next.serials.made) where
  -- End
  abbrev EndShown : DeviceStatus → Bool → ProgramTrace → Type 0
  EndShown status unchained k = ShowsIf (not (behind && (unchained && is_last_end status))) s.scsw next.scsw k

  end-shown : (storage : Contents) (status : DeviceStatus) (more : Bool) (sent : Option (OnPath Down)) (k after : ProgramTrace) → is_some s.begun ≡ true →
      tells.Ends storage s next status more sent k after → EndShown status after.now.unchained after
  end-shown storage status more sent k after begun (inl x) =
      subst (λ (y : Bool). EndShown status y after) (sym (ap (λ (y : ProgramTrace). y.now.unchained) x.1))
      (subst (λ (y : Bool). ShowsIf y s.scsw next.scsw after) (last-end (is_none s.waiting) behind (is_last_end status) (b begun)) (x.4 made))
  end-shown storage status more sent k after begun (inr x) =
      subst (λ (y : Bool). EndShown status y after) (sym (chained-unchained s.scsw.functions.halt storage status more sent k after x.0 x.1))
      (subst (λ (y : Bool). ShowsIf y s.scsw next.scsw after) (ap not (sym (and_right behind false refl))) (x.2 made))

  -- a signal that is taken
  same-of : (k after : ProgramTrace) → after ≡ k → IsShownOf s next (Some k) → ShowsOf behind s.scsw next.scsw (Some after)
  same-of k after e f = subst (λ (y : ProgramTrace). ShowsOf behind s.scsw next.scsw (Some y)) (sym e) (of-shown s next p behind b made (Some k) f)

  abbrev IsSuited : Bool → Up → Type 0
  IsSuited over signal =
      ((t : ℕ) → signal ≡ up.Accept t → IsJust over s) × ((t n : ℕ) (status : DeviceStatus) (more : Bool) → signal ≡ up.End t n status more → is_some s.begun ≡ true)

  meets-shown : (over : Bool) (former storage : Contents) (signal : Up) (sent : Option (OnPath Down)) (k after : ProgramTrace) → IsSuited over signal →
      Meets former storage s next signal true sent k after → ShowsSignal over behind signal s.scsw next.scsw (Some after)
  meets-shown over former storage (up.Accept t) sent k after just m = accept-shown s next p behind b made over storage sent k after (just.0 t refl) m.2
  meets-shown over former storage (up.Data load t c n q) sent k after just m = m.4 made
  meets-shown over former storage (up.End t n status more) sent k after just m = end-shown storage status more sent k after (just.1 t n status more refl) m.3
  meets-shown over former storage (up.Cleared r) sent k after just m = m.2 made
  meets-shown over former storage (up.Attn x status) sent k after just m = m.2 made
  meets-shown over former storage x sent k after just m = same-of k after m.0 m.2

  none-shown : (over : Bool) (former storage : Contents) (signal : Up) → MeetsNone former storage s next signal → ShowsSignal over behind signal s.scsw next.scsw None
  none-shown over former storage (up.Accept t) m = m.1 made
  none-shown over former storage x m = m.1 made

  both-shown : (over : Bool) (former storage : Contents) (signal : Up) (sent : Option (OnPath Down)) (k after : Option ProgramTrace) → IsSuited over signal →
      OfBoth (MeetsNone former storage s next signal) (Meets former storage s next signal true sent) k after → ShowsSignal over behind signal s.scsw next.scsw after
  both-shown over former storage signal sent None None just m = none-shown over former storage signal m
  both-shown over former storage signal sent (Some k) (Some after) just m = meets-shown over former storage signal sent k after just m
  both-shown over former storage signal sent None (Some after) just m = absurd m
  both-shown over former storage signal sent (Some k) None just m = absurd m

-- a choice that makes status pending leaves what was told
chosen-same : (o : Option Subchannel) (k : Option ProgramTrace) → chosen_at o reply.Pending k ≡ k
chosen-same None k = refl
chosen-same (Some x) k = refl

pending-same : (b : Bool) (o : Option Subchannel) (k : Option ProgramTrace) → (if b then chosen_at o reply.Pending k else k) ≡ k
pending-same true o k = chosen-same o k
pending-same false o k = refl

-- an instruction makes no status
abbrev pub IsNoInstruction : Event → Type 0
IsNoInstruction (event.Execute cpu i) = ⊥
IsNoInstruction e = Unit {0}

-- a step: the subchannel of an index before it and after it
module _ (over behind : Bool) (s new : State) (index : ℕ) (old sub : Subchannel) (there : slice_get s.subs index ≡ Some old) (here : slice_get new.subs index ≡ Some sub)
    (p : TellsPrograms old.state) (made : old.state.serials.made < sub.state.serials.made) where
  abbrev Shown : Event → Reply → Option ProgramTrace → Type 0
  Shown e r k = ShowsAfter over behind e r old.state.scsw sub.state.scsw k

  abbrev pub IsSuitedTo : Reply → Type 0
  IsSuitedTo r =
      ((t : ℕ) (sent : Option (OnPath Down)) → r ≡ reply.Up (up.Accept t) true sent → IsJust over old.state)
      × ((t n : ℕ) (status : DeviceStatus) (more : Bool) (sent : Option (OnPath Down)) → r ≡ reply.Up (up.End t n status more) true sent → is_some old.state.begun ≡ true)

  signal-shown : (b : IsBehind behind old.state) (mine : Bool) (word path : ℕ) (signal : Up) (sent : Option (OnPath Down)) (k after : Option ProgramTrace) → is_path (index_of s word) index ≡ mine →
      (mine ≡ true → IsSuitedTo (reply.Up signal true sent)) → GoesBy index s (event.Up word path) (reply.Up signal true sent) new k after →
      Shown (event.Up word path) (reply.Up signal true sent) after
  signal-shown b true word path signal sent k after mine suited goes =
      both-shown old.state sub.state p behind b made over s.storage new.storage signal sent k after (
        λ t e. (suited refl).0 t sent (ap (λ (x : Up). reply.Up x true sent) e),
        λ t n status more e. (suited refl).1 t n status more sent (ap (λ (x : Up). reply.Up x true sent) e),
      ) (goes.1 mine old sub there here)
  signal-shown b false word path signal sent k after mine suited goes =
      let same : sub.state.serials.made ≡ old.state.serials.made = (goes.0 mine).1 old sub there here in absurd (omega (arith, same, made))

  up-shown : (b : IsBehind behind old.state) (word path : ℕ) (r : Reply) (k after : Option ProgramTrace) → (is_path (index_of s word) index ≡ true → IsSuitedTo r) →
      GoesBy index s (event.Up word path) r new k after → Shown (event.Up word path) r after
  up-shown b word path (reply.Up signal true sent) k after suited goes =
      signal-shown b (is_path (index_of s word) index) word path signal sent k after refl suited goes
  up-shown b word path r k after suited goes = tt

  choose-shown : (b : IsBehind behind old.state) (word : ℕ) (r : Reply) (k after : Option ProgramTrace) → GoesBy index s (event.Choose word) r new k after → Shown (event.Choose word) r after
  choose-shown b word reply.Pending k after goes =
      subst (λ (x : Option ProgramTrace). ShowsChosen old.state.scsw.activity.clear_pending behind old.state.scsw sub.state.scsw x)
      (sym (goes.0 ∙ pending-same (is_path (index_of s word) index) (slice_get s.subs index) k))
      (chosen-shown old.state sub.state p behind b made (unsent_reset old.state.hold) old.state.scsw.activity.clear_pending k refl (goes.1 old sub there here))
  choose-shown b word r k after goes = tt

  lost-shown : (b : IsBehind behind old.state) (k after : Option ProgramTrace) → after ≡ k → IsShownOf old.state sub.state k → ShowsOf behind old.state.scsw sub.state.scsw after
  lost-shown b k after e f = subst (λ (x : Option ProgramTrace). ShowsOf behind old.state.scsw sub.state.scsw x) (sym e) (of-shown old.state sub.state p behind b made k f)

  pub step-shown : (e : Event) (r : Reply) (k after : Option ProgramTrace) →
      (IsNoInstruction e → IsBehind behind old.state) → ((word path : ℕ) → e ≡ event.Up word path → is_path (index_of s word) index ≡ true → IsSuitedTo r) →
      GoesBy index s e r new k after → Shown e r after
  step-shown (event.Choose word) r k after b suited goes = choose-shown (b tt) word r k after goes
  step-shown (event.Up word path) r k after b suited goes = up-shown (b tt) word path r k after (λ mine. suited word path refl mine) goes
  step-shown (event.PathDown chpid) r k after b suited goes = lost-shown (b tt) k after goes.0 (goes.1 old sub there here)
  step-shown (event.PathReset chpid) r k after b suited goes = lost-shown (b tt) k after goes.0 (goes.1 old sub there here)
  step-shown e r k after b suited goes = tt
