-- The entries of each list of events are right by what is seen of a side's paths.
use Rattle.std.proofs.Common.{◌≡◌, refl, sym, ◌∙◌, ap, subst, ℕ, Bool, true, Option, None, Some, List, [], ◌∷◌, arith}
use Rattle.std.specs.Prelude.{Ok, Err, slice_get, if◌then◌else◌, Contains}
use Rattle.chan_model.specs.declared.hold_state.HoldPhase.{HoldPhase}
use Rattle.chan_model.specs.declared.hold_state.HoldPhase.TheVariants as hold
use Rattle.chan_model.specs.declared.names.Side.{Side}
use Rattle.chan_model.specs.declared.names.Side.TheVariants.{First, Second}
use Rattle.chan_model.specs.Signals.{Down}
use Rattle.chan_model.specs.declared.signal.OnPath.{OnPath}
use Rattle.chan_model.specs.Signals.{Up}
use Rattle.chan_model.specs.declared.unit_state.Own.{Own}
use Rattle.chan_model.specs.declared.unit_state.Own.TheVariants as own
use Rattle.chan_model.specs.Sides.{same_side}
use Rattle.chan_model.specs.UnitTable.{unit_after, owns, leaving, asking, attending, noticing}
use Rattle.chan_model.specs.UnitReports.{report_of}
use Rattle.chan_model.proofs.OneSide.{one-side, same-side}
use Rattle.unit.specs.UnitWords.{LeavesOther}
use Rattle.agreement_laws.specs.Links.{link_of}
use Rattle.agreement_laws.specs.Moving.{HoldAct, Nothing, Lets_go, Is_reset, Sends, hold_acts, UnitAct, Leaves, Asks, Attends, Notices, Reports, unit_steps, is_to, is_owner_side, LinkCause, Hold_acts, Unit_acts, LinksStep}
use Rattle.agreement_laws.specs.Invariant.{IsGood}
use Rattle.agreement_laws.proofs.SeenSignals.{Rises}
use Rattle.agree.specs.declared.event.WorldEvent.{WorldEvent}
use Rattle.agree.specs.declared.event.WorldEvent.TheVariants as event
use Rattle.agree.specs.declared.reply.WorldReply.TheVariants as reply
use Rattle.agree.specs.Bounds.{IsWell}
use Rattle.agree.specs.State.{WorldState, links_of, line_of, with_line, opening_world}
use Rattle.agree.specs.Lines.{acts}
use Rattle.agree.specs.Results.{WorldResult, all_reset, world_result_of, world_result, state_after, world_after}
use Rattle.agree.specs.Replies.{sent_down_reply, chosen_act, line_took_down_reply, line_took_up_reply, owner_reply, reply_of}
use Rattle.agree.specs.Histories.{WorldEntry, entered, entries_of, Throughout}
use Rattle.agreement_laws.specs.PathsSeen.{SeenPaths}
use Rattle.agree.specs.ByItsPath.{cleared, seen_in, seen_after, IsRight, nothing_seen, IsByItsPath}
use Rattle.agree.proofs.Aparting.{attends-leaves, notices-leaves, leaving-leaves, asking-leaves, report-leaves}
use Rattle.agree.proofs.Lasting.{event-lasts}
use Rattle.agree.proofs.Making.{OnDone, done-weaker, counted-done, Keeps, Ends, Made, MadeOf, turn-made, heard_cause, line_took_down_cause, cause_of, first-reset, second-reset}
use Rattle.agree.proofs.UnitActs.{Acts, reports-acts, leaving-acts, asking-acts, attending-acts, noticing-acts, apart-still}
use Rattle.agree.proofs.UnitPaths.{IsStill}
use Rattle.agree.proofs.UnitPaths as paths
use Rattle.agree.proofs.PathHolds.{IsSendable}
use Rattle.agree.proofs.PathSteps.{TiedIn, Right, hold-right, clear-right, cut-right, line_took_up-right, other-unit, said-right, line_took_down-right, restart-right}

pub at-line : (w : WorldState) (s : Side) → link_of (links_of w) s ≡ (line_of w s).link
at-line w First = refl
at-line w Second = refl

pub stepped : (w : WorldState) (e : WorldEvent) (new : WorldState) → Made w e new → LinksStep (links_of w) (cause_of w e) (links_of new)
stepped w e new made = subst (λ (c : LinkCause). LinksStep (links_of w) c (links_of new)) made.its made.step

-- an event is right, and the tie goes on
abbrev pub Goes : Side → SeenPaths → WorldState → WorldEvent → WorldState → Type 0
Goes side k w e new = Right side (reply_of w e) k (links_of new) (seen_after side e (reply_of w e) k)

holds-right : (side s : Side) (w new : WorldState) (k : SeenPaths) (act : HoldAct) → IsGood (links_of w) → IsSendable (line_of w s).link.hold.phase act → LinksStep (links_of w) (Hold_acts s act) (links_of new) → TiedIn side (links_of w) k →
    Right side (sent_down_reply s (hold_acts (line_of w s).link.drawn (line_of w s).link.hold act).sent) k (links_of new) (seen_in side (sent_down_reply s (hold_acts (line_of w s).link.drawn (line_of w s).link.hold act).sent) k)
holds-right side s w new k act g may st t = hold-right side s (links_of w) (links_of new) k act (line_of w s).link (at-line w s) g may st t

-- where nothing is seen
quiet-right : (side s : Side) (w new : WorldState) (k : SeenPaths) (act : HoldAct) → (hold_acts (line_of w s).link.drawn (line_of w s).link.hold act).sent ≡ None → IsGood (links_of w) → IsSendable (line_of w s).link.hold.phase act →
    LinksStep (links_of w) (Hold_acts s act) (links_of new) → TiedIn side (links_of w) k → Right side reply.Done k (links_of new) k
quiet-right side s w new k act none g may st t =
    subst (λ (o : Option (OnPath Down)). Right side (sent_down_reply s o) k (links_of new) (seen_in side (sent_down_reply s o) k)) none (holds-right side s w new k act g may st t)

chosen-sendable : (at phase : HoldPhase) (p : ℕ) (single : Bool) → IsSendable at (chosen_act phase p single)
chosen-sendable at hold.Free p single = tt
chosen-sendable at (hold.Offer t q) p single = tt
chosen-sendable at (hold.On t q c) p single = tt
chosen-sendable at (hold.Away t) p single = tt
chosen-sendable at (hold.Letting t q) p single = tt
chosen-sendable at (hold.Reset r) p single = tt

line_took_up-goes : (side s : Side) (w new : WorldState) (k : SeenPaths) (may : Bool) (o : Option (OnPath Up)) → IsGood (links_of w) → LinksStep (links_of w) (heard_cause s o may) (links_of new) → TiedIn side (links_of w) k →
    Right side (line_took_up_reply s (line_of w s) o may) k (links_of new) (seen_in side (line_took_up_reply s (line_of w s) o may) k)
line_took_up-goes side s w new k may None g st t = quiet-right side s w new k Nothing refl g tt st t
line_took_up-goes side s w new k may (Some x) g st t = line_took_up-right side s (links_of w) (links_of new) k x may (line_of w s).link (at-line w s) st t

line_took_down-goes : Rises → (side s : Side) (w new : WorldState) (k : SeenPaths) (may : Bool) (o : Option (OnPath Down)) → IsGood (links_of w) → LinksStep (links_of w) (line_took_down_cause s o may) (links_of new) → TiedIn side (links_of w) k →
    Right side (line_took_down_reply s w.«unit» o may) k (links_of new) (seen_in side (line_took_down_reply s w.«unit» o may) k)
line_took_down-goes rises side s w new k may None g st t = quiet-right side s w new k Nothing refl g tt st t
line_took_down-goes rises side s w new k may (Some x) g st t = line_took_down-right rises side s (links_of w) (links_of new) k x may g st t

-- of the side whose program holds the device
owner-goes : (side : Side) (w new : WorldState) (k : SeenPaths) (act : UnitAct) (o : Own) → w.«unit».own ≡ o → ((s : Side) → is_to w.«unit» act s ≡ is_owner_side w.«unit».own s) →
    (is_owner_side w.«unit».own side ≡ true → Acts side w.«unit» (unit_steps w.«unit» act)) →
    ((s : Side) → owns w.«unit».own s ≡ true → LeavesOther s w.«unit» (unit_after w.«unit» (unit_steps w.«unit» act))) →
    (o ≡ own.Idle → IsStill w.«unit» (unit_after w.«unit» (unit_steps w.«unit» act)) side) →
    LinksStep (links_of w) (Unit_acts act) (links_of new) → TiedIn side (links_of w) k →
    Right side (owner_reply o w.«unit» act) k (links_of new) (seen_in side (owner_reply o w.«unit» act) k)
owner-goes side w new k act own.Idle e to acts leaves idle st t = (
  λ h. absurd (cc h),
  other-unit side (links_of w) (links_of new) act k (to side ∙ ap (λ (x : Own). is_owner_side x side) e) (idle refl) st t,
)
owner-goes side w new k act (own.Owned s n at) e to acts leaves idle st t =
    let mine : is_owner_side w.«unit».own side ≡ same_side s side = ap (λ (x : Own). is_owner_side x side) e in
    said-right side s (links_of w) (links_of new) k act (to side ∙ mine) (λ h. acts (mine ∙ h))
    (λ h. apart-still w.«unit» _ s side h (leaves s (ap (λ (x : Own). owns x s) e ∙ same-side s))) st t

pub event-goes : Rises → (side : Side) (k : SeenPaths) (w : WorldState) (e : WorldEvent) (new : WorldState) → IsGood (links_of w) → TiedIn side (links_of w) k → MadeOf w e new → Goes side k w e new
event-goes rises side k w (event.Choose s p single) new g t made =
    holds-right side s w new k (chosen_act (line_of w s).link.hold.phase p single) g (chosen-sendable (line_of w s).link.hold.phase (line_of w s).link.hold.phase p single)
    (stepped w (event.Choose s p single) new made) t
event-goes rises side k w (event.Down s index keep may) new g t made =
    line_took_down-goes rises side s w new k may (slice_get (line_of w s).link.downs index) g (stepped w (event.Down s index keep may) new made) t
event-goes rises side k w (event.Up s index keep may) new g t made =
    line_took_up-goes side s w new k may (slice_get (line_of w s).link.ups index) g (stepped w (event.Up s index keep may) new made) t
event-goes rises side k w (event.LoseDown s index) new g t made = quiet-right side s w new k Nothing refl g tt (stepped w (event.LoseDown s index) new made) t
event-goes rises side k w (event.LoseUp s index) new g t made = quiet-right side s w new k Nothing refl g tt (stepped w (event.LoseUp s index) new made) t
event-goes rises side k w (event.PathDown s p) new g t made = (λ h. absurd (cc h), cut-right side s (links_of w) (links_of new) k p (stepped w (event.PathDown s p) new made) t)
event-goes rises side k w (event.PathUp s p) new g t made = quiet-right side s w new k Nothing refl g tt (stepped w (event.PathUp s p) new made) t
event-goes rises side k w (event.PathReset s p) new g t made = (λ h. absurd (cc h), cut-right side s (links_of w) (links_of new) k p (stepped w (event.PathReset s p) new made) t)
event-goes rises side k w (event.LetGo s) new g t made = holds-right side s w new k Lets_go g tt (stepped w (event.LetGo s) new made) t
event-goes rises side k w (event.Send s p signal) new g t made =
    holds-right side s w new k (Sends (record { path = p; signal = signal })) g made.0 (stepped w (event.Send s p signal) new made.1) t
event-goes rises side k w (event.Clear s) new g t made = (λ h. absurd (cc h), clear-right side s (links_of w) (links_of new) k (stepped w (event.Clear s) new made) t)
event-goes rises side k w event.SubsystemReset new g t made =
    let mid : WorldState = with_line w First (acts w.first Is_reset) in
    let one = clear-right side First (links_of w) (links_of mid) k (stepped w (event.Clear First) mid (first-reset w)) t in
    let two = clear-right side Second (links_of mid) (links_of (all_reset w)) (if same_side First side then cleared k else k) (stepped mid (event.Clear Second) (all_reset w) (second-reset mid)) one in (
      λ h. absurd (cc h),
      subst (λ (x : WorldState). TiedIn side (links_of x) (cleared k)) (sym made) (both side two),
    )
  where
    both : (j : Side) → TiedIn j (links_of (all_reset w)) (if same_side Second j then cleared (if same_side First j then cleared k else k) else (if same_side First j then cleared k else k)) →
        TiedIn j (links_of (all_reset w)) (cleared k)
    both First h = h
    both Second h = h
event-goes rises side k w event.Leave new g t made =
    owner-goes side w new k Leaves w.«unit».own refl (λ s. refl) (λ h. leaving-acts side w.«unit» h) (λ s e. leaving-leaves s w.«unit» w.«unit».own e e)
    (λ e. subst (λ (o : Own). IsStill w.«unit» (unit_after w.«unit» (leaving w.«unit» o)) side) (sym e) (paths.still w.«unit» side)) (stepped w event.Leave new made) t
event-goes rises side k w (event.Ask p) new g t made =
    owner-goes side w new k (Asks p) w.«unit».own refl (λ s. refl) (λ h. asking-acts side w.«unit» p h) (λ s e. asking-leaves s w.«unit» w.«unit».own p e e)
    (λ e. subst (λ (o : Own). IsStill w.«unit» (unit_after w.«unit» (asking w.«unit» o p)) side) (sym e) (paths.still w.«unit» side)) (stepped w (event.Ask p) new made) t
event-goes rises side k w (event.Attention s p) new g t made =
    said-right side s (links_of w) (links_of new) k (Attends s p) refl (λ h. subst (λ (j : Side). Acts side w.«unit» (attending w.«unit» j p)) (sym (one-side s side h)) (attending-acts side w.«unit» p))
    (λ h. apart-still w.«unit» _ s side h (attends-leaves s w.«unit» p)) (stepped w (event.Attention s p) new made) t
event-goes rises side k w (event.Notice s p) new g t made =
    said-right side s (links_of w) (links_of new) k (Notices s p) refl (λ h. subst (λ (j : Side). Acts side w.«unit» (noticing w.«unit» j p)) (sym (one-side s side h)) (noticing-acts side w.«unit» p))
    (λ h. apart-still w.«unit» _ s side h (notices-leaves s w.«unit» p)) (stepped w (event.Notice s p) new made) t
event-goes rises side k w event.Restart new g t made = (λ h. absurd (cc h), restart-right side (links_of w) (links_of new) k (stepped w event.Restart new made) t)
event-goes rises side k w (event.Report report) new g t made =
    owner-goes side w new k (Reports report) w.«unit».own refl (λ s. refl) (λ h. reports-acts side w.«unit» report h) (λ s e. report-leaves s w.«unit» report e)
    (λ e. subst (λ (o : Own). IsStill w.«unit» (unit_after w.«unit» (report_of w.«unit» o report)) side) (sym e) (paths.still w.«unit» side)) (stepped w (event.Report report) new made) t

turn-goes : Rises → (side : Side) (k : SeenPaths) (w : WorldState) (e : WorldEvent) → IsGood (links_of w) → TiedIn side (links_of w) k → OnDone (Goes side k w e) (world_result w e)
turn-goes rises side k w e g t =
    counted-done (Goes side k w e) (λ new n h. h) w e
    (done-weaker (MadeOf w e) (Goes side k w e) (λ new made. event-goes rises side k w e new g t made) (world_result_of w e) (turn-made w e))

entered-right : (side : Side) (k : SeenPaths) (w : WorldState) (e : WorldEvent) (turn : WorldResult) (entries : List WorldEntry) → OnDone (Goes side k w e) turn →
    ((next : SeenPaths) → TiedIn side (links_of (state_after w turn)) next → Throughout (seen_after side) (IsRight side) next entries) → TiedIn side (links_of w) k → Throughout (seen_after side) (IsRight side) k (entered w e turn entries)
entered-right side k w e (Ok new) entries h rest t = (h.0, rest (seen_after side e (reply_of w e) k) h.1)
entered-right side k w e (Err f) entries h rest t = rest k t

pub list-right : Keeps → Ends → Rises → (side : Side) (k : SeenPaths) (w : WorldState) (es : List WorldEvent) → IsWell w → TiedIn side (links_of w) k →
    Throughout (seen_after side) (IsRight side) k (entries_of w es)
list-right keeps ends rises side k w [] well t = tt
list-right keeps ends rises side k w (e ∷ es) well t =
    entered-right side k w e (world_result w e) (entries_of (world_after w e) es) (turn-goes rises side k w e well.good t)
    (λ next h. list-right keeps ends rises side next (world_after w e) es (event-lasts keeps ends w e well).0 h) t

-- at the opening
none-there : {A : Type 0} → (x : A) → Contains [] x → ⊥
none-there x c = omega (arith, c.1)

open-tied : (side : Side) → TiedIn side (links_of opening_world) nothing_seen
open-tied First = record { offered = tt; connected = refl; answered = tt; moving = refl; hold_way = tt; unit_way = tt; below = tt; last = tt; mine = tt; downs = λ x c. absurd (none-there x c); ups = λ x c. absurd (none-there x c) }
open-tied Second = record { offered = tt; connected = refl; answered = tt; moving = refl; hold_way = tt; unit_way = tt; below = tt; last = tt; mine = tt; downs = λ x c. absurd (none-there x c); ups = λ x c. absurd (none-there x c) }

pub by_its_path : Keeps → Ends → Rises → IsWell opening_world → (es : List WorldEvent) → IsByItsPath (entries_of opening_world es)
by_its_path keeps ends rises well es side = list-right keeps ends rises side nothing_seen opening_world es well (open-tied side)
