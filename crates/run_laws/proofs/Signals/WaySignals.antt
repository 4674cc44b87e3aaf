-- The signals of a subchannel and its unit come by the paths of their connections, and what is sent goes by them.
use Rattle.std.proofs.Common.{◌≡◌, refl, sym, ◌∙◌, ap, subst, ℕ, ◌+◌, ◌==◌, ◌&&◌, nat_lt, nat_le, Bool, true, false, not, Option, None, Some, List, length, if◌then◌else◌, arith}
use Rattle.std.specs.Prelude.{option_map}
use Rattle.std.proofs.lemmas.Bool.{and_parts, eqb-true}
use Rattle.chan_events.specs.declared.event.UnitAct.{UnitAct}
use Rattle.chan_events.specs.declared.event.UnitAct.TheVariants as act
use Rattle.chan_events.specs.Replies.{Reply}
use Rattle.chan_events.specs.declared.reply.Reply.TheVariants as reply
use Rattle.chan_model.specs.declared.hold_state.HoldPhase.{HoldPhase}
use Rattle.chan_model.specs.declared.names.Side.{Side}
use Rattle.chan_model.specs.Reports.{DeviceAnswer, Report}
use Rattle.chan_model.specs.declared.report.DeviceAnswer.TheVariants as answer
use Rattle.chan_model.specs.Signals.{Down, Load, Up}
use Rattle.chan_model.specs.declared.signal.Down.TheVariants as down
use Rattle.chan_model.specs.declared.signal.OnPath.{OnPath}
use Rattle.chan_model.specs.declared.signal.Up.TheVariants as up
use Rattle.chan_model.specs.declared.unit_state.CurrentCommand.{CurrentCommand}
use Rattle.chan_model.specs.declared.unit_state.Own.{Own}
use Rattle.chan_model.specs.declared.unit_state.Own.TheVariants as own
use Rattle.chan_model.specs.declared.unit_state.Connection.{Connection}
use Rattle.chan_model.specs.declared.unit_state.Connection.TheVariants as connection
use Rattle.chan_model.specs.declared.unit_state.Progress.{Progress}
use Rattle.chan_model.specs.declared.unit_state.Progress.TheVariants as progress
use Rattle.chan_model.specs.declared.unit_state.UnitState.{UnitState}
use Rattle.chan_model.specs.Sides.{same_side}
use Rattle.chan_model.specs.UnitReports.{is_outward, may_end, most_of, is_to_supply, answer_taken, report_on, report_of, unit_reports, report_absorbed, sent_again}
use Rattle.chan_model.specs.UnitTable.{UnitStep, outcome_of, side_of, leaving_from, leaving, asking_from, asking, is_idle, telling}
use Rattle.machine_model.specs.ActSteps.{acts}
use Rattle.chan_model.proofs.OneSide.{same-side}
use Rattle.step_laws.specs.Walks.{IsOfSide}
use Rattle.run_laws.specs.Devices as seen
use Rattle.run_laws.specs.Devices.{Connected, Asking, Apart, Held, Holding, side_seen, is_holder, moved, acted_after, held_met}
use Rattle.run_laws.specs.OneHolder.{is_next, answers, takes_if, holds_and, is_connected_by, is_asking, connection_of, works_due, restarted_due, reply_due}
use Rattle.run_laws.specs.DevicePaths.{Ways, way_met, IsUpBy, IsDownBy, IsGivenTo, IsTakenBy}
use Rattle.run_laws.proofs.Signals.Holdings.{transfer_in, holder_in, holding_of}
use Rattle.run_laws.proofs.Signals.Lists.{OnSent}
use Rattle.run_laws.proofs.Signals.Meets.{Meets, Turns, Begins, Moves, Ends, Grants, IsPlainDown, ArePlainDown, IsCommandOn, AreCommandsOn, IsDataAnswer, Offers, Refuses, Halts, Resets, Answers, Sends_command, Sends_room, Sends_bytes}
use Rattle.run_laws.proofs.Signals.UnitMoves.{owner-of-act}
use Rattle.run_laws.proofs.Signals.Ways.{OnWay, IsPast, IsPlaced, OwnWay, Follows, accept-way, way_acted, act-follows}

-- each signal
abbrev pub UpWay : Ways → Holding → Side → ℕ → Up → Type 0
UpWay ways k side p (up.Accept t) = OnWay ways k side p t 0
UpWay ways k side p (up.Data load t c n s) = OnWay ways k side p t c
UpWay ways k side p (up.Leave t c) = OnWay ways k side p t c
UpWay ways k side p (up.Back t c) = OnWay ways k side p t c
UpWay ways k side p x = Unit {0}

abbrev pub DownWay : Ways → Holding → Side → ℕ → Down → Type 0
DownWay ways k side p (down.Grant t c) = OnWay ways k side p t c
DownWay ways k side p (down.Give bytes t c n s) = OnWay ways k side p t c
DownWay ways k side p d = Unit {0}

pub up-follows : (ways after : Ways) (k next : Holding) (side : Side) (p : ℕ) (x : Up) → Follows k next side ways after → UpWay ways k side p x → UpWay after next side p x
up-follows ways after k next side p (up.Accept t) f w = f.way p t 0 w
up-follows ways after k next side p (up.Busy t) f w = tt
up-follows ways after k next side p (up.Leave t c) f w = f.way p t c w
up-follows ways after k next side p (up.Back t c) f w = f.way p t c w
up-follows ways after k next side p (up.Data load t c n s) f w = f.way p t c w
up-follows ways after k next side p (up.End t n status more) f w = tt
up-follows ways after k next side p (up.Released t) f w = tt
up-follows ways after k next side p (up.Cleared r) f w = tt
up-follows ways after k next side p (up.Notice b) f w = tt
up-follows ways after k next side p (up.Attn a status) f w = tt

pub down-follows : (ways after : Ways) (k next : Holding) (side : Side) (p : ℕ) (d : Down) → Follows k next side ways after → DownWay ways k side p d → DownWay after next side p d
down-follows ways after k next side p (down.Select t) f w = tt
down-follows ways after k next side p (down.Command t n code room) f w = tt
down-follows ways after k next side p (down.Grant t c) f w = f.way p t c w
down-follows ways after k next side p (down.Refuse t c) f w = tt
down-follows ways after k next side p (down.Took t n s room) f w = tt
down-follows ways after k next side p (down.Give bytes t c n s) f w = f.way p t c w
down-follows ways after k next side p (down.Halt t) f w = tt
down-follows ways after k next side p (down.Release t) f w = tt
down-follows ways after k next side p (down.Reset r b) f w = tt
down-follows ways after k next side p (down.Got a) f w = tt

pub up-by : (ways : Ways) (k : Holding) (side : Side) (p : ℕ) (x : Up) → UpWay ways k side p x → IsUpBy ways p x
up-by ways k side p (up.Accept t) w = w.way
up-by ways k side p (up.Busy t) w = tt
up-by ways k side p (up.Leave t c) w = w.way
up-by ways k side p (up.Back t c) w = w.way
up-by ways k side p (up.Data load t c n s) w = w.way
up-by ways k side p (up.End t n status more) w = tt
up-by ways k side p (up.Released t) w = tt
up-by ways k side p (up.Cleared r) w = tt
up-by ways k side p (up.Notice b) w = tt
up-by ways k side p (up.Attn a status) w = tt

pub down-by : (ways : Ways) (k : Holding) (side : Side) (p : ℕ) (d : Down) → DownWay ways k side p d → IsDownBy ways p d
down-by ways k side p (down.Select t) w = tt
down-by ways k side p (down.Command t n code room) w = tt
down-by ways k side p (down.Grant t c) w = w.way
down-by ways k side p (down.Refuse t c) w = tt
down-by ways k side p (down.Took t n s room) w = tt
down-by ways k side p (down.Give bytes t c n s) w = w.way
down-by ways k side p (down.Halt t) w = tt
down-by ways k side p (down.Release t) w = tt
down-by ways k side p (down.Reset r b) w = tt
down-by ways k side p (down.Got a) w = tt

-- what answers a signal that came down: by its path; by Leave a Grant of its number and connection; nothing else of a connection
abbrev IsSentBy : Down → Up → Type 0
IsSentBy d (up.Leave t c) = d ≡ down.Grant t c
IsSentBy d (up.Back t c) = ⊥
IsSentBy d (up.Data load t c n s) = ⊥
IsSentBy d (up.End t n status more) = ⊥
IsSentBy d x = Unit {0}

abbrev IsAnswerBy : ℕ → Down → Bool → Option (OnPath Up) → Type 0
IsAnswerBy p d taken None = Unit {0}
IsAnswerBy p d taken (Some s) = (taken ≡ true) × (s.path ≡ p) × IsSentBy d s.signal

abbrev IsDueBy : ℕ → Down → Reply → Type 0
IsDueBy p d (reply.Down e taken sent) = IsAnswerBy p d taken sent
IsDueBy p d r = Unit {0}

if-due : (p : ℕ) (d : Down) (b : Bool) (x y : Reply) → IsDueBy p d x → IsDueBy p d y → IsDueBy p d (if b then x else y)
if-due p d true x y e f = e
if-due p d false x y e f = f

if-sent : (d : Down) (b : Bool) (x y : Up) → IsSentBy d x → IsSentBy d y → IsSentBy d (if b then x else y)
if-sent d true x y e f = e
if-sent d false x y e f = f

works-sends : (k : Holding) (side : Side) (p : ℕ) (free : Bool) (d : Down) → IsDueBy p d (works_due k side p free d)
works-sends k side p free (down.Select t) =
    if-due p (down.Select t) (nat_lt (side_seen k side).number t) _ _ (refl, refl, if-sent (down.Select t) free (up.Accept t) (up.Busy t) tt tt) tt
works-sends k side p free (down.Command t n code room) = tt
works-sends k side p free (down.Grant t c) =
    if-due p (down.Grant t c) (holds_and (λ h. is_asking h.connection c) k.holder side t) _ _ tt
    (if-due p (down.Grant t c) (holds_and (λ h. nat_lt c (connection_of h.connection)) k.holder side t) _ _ (refl, refl, refl) tt)
works-sends k side p free (down.Refuse t c) = tt
works-sends k side p free (down.Took t n s room) = tt
works-sends k side p free (down.Give bytes t c n s) = tt
works-sends k side p free (down.Halt t) = tt
works-sends k side p free (down.Release t) = if-due p (down.Release t) (is_holder k.holder side t) _ _ (refl, refl, tt) tt
works-sends k side p free (down.Reset r b) = if-due p (down.Reset r b) ((b == k.restarts) && nat_lt (side_seen k side).number r) _ _ (refl, refl, tt) tt
works-sends k side p free (down.Got a) = tt

restarted-sends : (k : Holding) (p : ℕ) (d : Down) → IsDueBy p d (restarted_due k p d)
restarted-sends k p (down.Select t) = (refl, refl, tt)
restarted-sends k p (down.Command t n code room) = (refl, refl, tt)
restarted-sends k p (down.Grant t c) = (refl, refl, tt)
restarted-sends k p (down.Refuse t c) = (refl, refl, tt)
restarted-sends k p (down.Took t n s room) = (refl, refl, tt)
restarted-sends k p (down.Give bytes t c n s) = (refl, refl, tt)
restarted-sends k p (down.Halt t) = (refl, refl, tt)
restarted-sends k p (down.Release t) = (refl, refl, tt)
restarted-sends k p (down.Reset r b) = (refl, refl, if-sent (down.Reset r b) (b == k.restarts) (up.Cleared r) (up.Notice k.restarts) tt tt)
restarted-sends k p (down.Got a) = (refl, refl, tt)

due-sends : (k : Holding) (side : Side) (p : ℕ) (free : Bool) (d : Down) → IsDueBy p d (reply_due k side p free d)
due-sends k side p free d = if-due p d (side_seen k side).restarted (restarted_due k p d) (works_due k side p free d) (restarted-sends k p d) (works-sends k side p free d)

-- so what is sent goes by its path
abbrev pub SentWay : Ways → Holding → Side → Option (OnPath Up) → Type 0
SentWay ways k side sent = OnSent (λ q x. UpWay ways k side q x) sent

abbrev MetWay : Ways → Holding → Side → ℕ → Down → ℕ → Up → Type 0
MetWay ways k side p d q x = UpWay (way_met p (reply.Down d true (Some (record { path = q; signal = x }))) ways) (held_met side p (reply.Down d true (Some (record { path = q; signal = x }))) k) side q x

signal-way : (ways : Ways) (k : Holding) (side : Side) (p : ℕ) (d : Down) (x : Up) → IsSentBy d x → DownWay ways k side p d → MetWay ways k side p d p x
signal-way ways k side p d (up.Accept t) s w = accept-way k side p t ways
signal-way ways k side p d (up.Busy t) s w = tt
signal-way ways k side p d (up.Leave t c) s w = subst (DownWay ways k side p) s w
signal-way ways k side p d (up.Back t c) s w = absurd s
signal-way ways k side p d (up.Data load t c n q) s w = absurd s
signal-way ways k side p d (up.End t n status more) s w = tt
signal-way ways k side p d (up.Released t) s w = tt
signal-way ways k side p d (up.Cleared r) s w = tt
signal-way ways k side p d (up.Notice b) s w = tt
signal-way ways k side p d (up.Attn a status) s w = tt

answer-way : (ways : Ways) (k : Holding) (side : Side) (p : ℕ) (d : Down) (taken : Bool) (sent : Option (OnPath Up)) → IsAnswerBy p d taken sent → DownWay ways k side p d →
    SentWay (way_met p (reply.Down d taken sent) ways) (held_met side p (reply.Down d taken sent) k) side sent
answer-way ways k side p d taken None a w = tt
answer-way ways k side p d true (Some s) a w = subst (λ (q : ℕ). MetWay ways k side p d q s.signal) (sym a.1) (signal-way ways k side p d s.signal a.2 w)
answer-way ways k side p d false (Some s) a w = absurd (cc a.0)

pub due-way : (ways : Ways) (k : Holding) (side : Side) (p : ℕ) (free : Bool) (d : Down) (taken : Bool) (sent : Option (OnPath Up)) → reply.Down d taken sent ≡ reply_due k side p free d →
    DownWay ways k side p d → SentWay (way_met p (reply.Down d taken sent) ways) (held_met side p (reply.Down d taken sent) k) side sent
due-way ways k side p free d taken sent e w = answer-way ways k side p d taken sent (subst (IsDueBy p d) (sym e) (due-sends k side p free d)) w

-- a Give that is taken in silence
abbrev taken_in : Reply → Bool
taken_in (reply.Down d taken sent) = taken
taken_in r = false

connected-is : (at : seen.Connection) (c : ℕ) → is_connected_by at c ≡ true → (p : ℕ) × (at ≡ Connected p c)
connected-is (Connected p d) c e = (p, ap (λ (n : ℕ). Connected p n) (sym (eqb-true c d e)))
connected-is (Asking p d) c e = absurd (cc e)
connected-is (Apart d) c e = absurd (cc e)

same-way : (a b : ℕ) (o : Option ℕ) → o ≡ Some a → o ≡ Some b → a ≡ b
same-way a b o e f = cc (sym e ∙ f)

placed-is : (ways : Ways) (t p q c : ℕ) (at : seen.Connection) → at ≡ Connected q c → IsPlaced ways t at → ways t c ≡ Some p → at ≡ Connected p c
placed-is ways t p q c at e w f = e ∙ ap (λ (n : ℕ). Connected n c) (same-way q p (ways t c) (subst (IsPlaced ways t) e w) f)

given-held : (ways : Ways) (f : ℕ) (o : Option Held) (side : Side) (p t c n s : ℕ) → OwnWay ways f o side → ways t c ≡ Some p →
    holds_and (λ h. is_connected_by h.connection c && ((n == h.command) && is_next h.transfer s)) o side t ≡ true → (h : Held) × (o ≡ Some h) × (h.connection ≡ Connected p c)
given-held ways f None side p t c n s w e g = absurd (cc g)
given-held ways f (Some h) side p t c n s w e g =
    let both = and_parts (is_holder (Some h) side t) _ g in
    let its = and_parts (same_side h.side side) (t == h.number) both.0 in
    let at = connected-is h.connection c (and_parts (is_connected_by h.connection c) ((n == h.command) && is_next h.transfer s) both.1).0 in
    (h, refl, placed-is ways h.number p at.0 c h.connection at.1 (w its.0).1 (subst (λ (m : ℕ). ways m c ≡ Some p) (eqb-true t h.number its.1) e))

given-if : (ways : Ways) (k : Holding) (side : Side) (p t c n s : ℕ) (bytes : List ℕ) (restarted : Bool) → OwnWay ways (side_seen k side).number k.holder side → ways t c ≡ Some p →
    reply.Down (down.Give bytes t c n s) true None ≡
    (if restarted then restarted_due k p (down.Give bytes t c n s)
    else takes_if (holds_and (λ h. is_connected_by h.connection c && ((n == h.command) && is_next h.transfer s)) k.holder side t) (down.Give bytes t c n s)) →
    IsGivenTo k p c
given-if ways k side p t c n s bytes true w e g = absurd (cc g)
given-if ways k side p t c n s bytes false w e g = given-held ways (side_seen k side).number k.holder side p t c n s w e (sym (ap taken_in g))

pub taken-to : (ways : Ways) (k : Holding) (side : Side) (p : ℕ) (free : Bool) (d : Down) (taken : Bool) (sent : Option (OnPath Up)) → OwnWay ways (side_seen k side).number k.holder side →
    DownWay ways k side p d → reply.Down d taken sent ≡ reply_due k side p free d → IsTakenBy k p d taken sent
taken-to ways k side p free (down.Select t) taken sent w way e = tt
taken-to ways k side p free (down.Command t n code room) taken sent w way e = tt
taken-to ways k side p free (down.Grant t c) taken sent w way e = tt
taken-to ways k side p free (down.Refuse t c) taken sent w way e = tt
taken-to ways k side p free (down.Took t n s room) taken sent w way e = tt
taken-to ways k side p free (down.Give bytes t c n s) true None w way e = given-if ways k side p t c n s bytes (side_seen k side).restarted w way.way e
taken-to ways k side p free (down.Give bytes t c n s) true (Some x) w way e = tt
taken-to ways k side p free (down.Give bytes t c n s) false sent w way e = tt
taken-to ways k side p free (down.Halt t) taken sent w way e = tt
taken-to ways k side p free (down.Release t) taken sent w way e = tt
taken-to ways k side p free (down.Reset r b) taken sent w way e = tt
taken-to ways k side p free (down.Got a) taken sent w way e = tt

-- what a subchannel sends in answer
pub plain-way : (ways : Ways) (k : Holding) (side : Side) (one : Option (OnPath Down)) → ArePlainDown one → OnSent (λ q d. DownWay ways k side q d) one
plain-way ways k side None a = tt
plain-way ways k side (Some s) a = by s.signal a
  where
    by : (d : Down) → IsPlainDown d → DownWay ways k side s.path d
    by _ (Offers t) = tt
    by _ (Refuses t c) = tt
    by _ (Halts t) = tt
    by _ (Resets r b) = tt
    by _ (Answers b) = tt

command-way : (ways : Ways) (k : Holding) (side : Side) (t p q : ℕ) (d : Down) → IsCommandOn t p q d → DownWay ways k side q d
command-way ways k side t p q _ (Sends_command u m code room number path) = tt

commands-way : (ways : Ways) (k : Holding) (side : Side) (t p : ℕ) (one : Option (OnPath Down)) → AreCommandsOn t p one → OnSent (λ q d. DownWay ways k side q d) one
commands-way ways k side t p None a = tt
commands-way ways k side t p (Some s) a = command-way ways k side t p s.path s.signal a

data-way : (ways : Ways) (k : Holding) (side : Side) (t p c q : ℕ) (d : Down) → IsDataAnswer t p c q d → OnWay ways k side p t c → DownWay ways k side q d
data-way ways k side t p c q _ (Sends_room u m s room number path) w = tt
data-way ways k side t p c q _ (Sends_bytes bytes u e m s number path connection) w =
    subst (λ (x : ℕ). OnWay ways k side x u e) path (subst (λ (x : ℕ). OnWay ways k side p x e) number (subst (λ (x : ℕ). OnWay ways k side p t x) connection w))

pub met-way : (ways : Ways) (k : Holding) (side : Side) (p : ℕ) (x : Up) (phase : HoldPhase) (outcome : Bool) (sent : Option (OnPath Down)) (next : HoldPhase) → Meets p x phase outcome sent next →
    UpWay ways k side p x → OnSent (λ q d. DownWay ways k side q d) sent
met-way ways k side p _ _ _ _ _ (Turns x phase next sent plain stays quiet) w = plain-way ways k side sent quiet
met-way ways k side p _ _ _ _ _ (Begins t q sent commands) w = commands-way ways k side t q sent commands
met-way ways k side p _ _ _ _ _ (Moves t c n s load (Some one) answers) w = data-way ways k side t p c one.path one.signal answers w
met-way ways k side p _ _ _ _ _ (Ends x t q c sent commands) w = commands-way ways k side t p sent commands
met-way ways k side p _ _ _ _ _ (Grants t c) w = w
met-way ways k side p _ _ _ _ _ other w = tt

-- what a unit sends of itself or for its device
own-on : (ways : Ways) (k : Holding) (side : Side) (h : Held) (p c : ℕ) → k.holder ≡ Some h → same_side h.side side ≡ true → connection_of h.connection ≡ c → (IsPlaced ways h.number h.connection → ways h.number c ≡ Some p) →
    OwnWay ways (side_seen k side).number k.holder side → OnWay ways k side p h.number c
own-on ways k side h p c e s connection f w =
    let y = subst (λ (o : Option Held). OwnWay ways (side_seen k side).number o side) e w s in
    record {
      below = y.0;
      way = f y.1;
      past = subst (λ (o : Option Held). IsPast o side h.number c) (sym e) (λ a b. omega (arith, connection));
    }

abbrev pub Sends : Ways → Holding → Side → Option UnitStep → Type 0
Sends ways k side step = SentWay ways k side (outcome_of step).sent

if-sends : (ways : Ways) (k : Holding) (side : Side) (b : Bool) (x y : Option UnitStep) → Sends ways k side x → Sends ways k side y → Sends ways k side (if b then x else y)
if-sends ways k side true x y e f = e
if-sends ways k side false x y e f = f

absorbed-sends : (ways : Ways) (k : Holding) (side : Side) (u : UnitState) (p t c : ℕ) (x : CurrentCommand) (given : Option (List ℕ)) (count : ℕ) → OnWay ways k side p t c → Sends ways k side (report_absorbed u p t c x given count)
absorbed-sends ways k side u p t c x None count w = tt
absorbed-sends ways k side u p t c x (Some bytes) count w = if-sends ways k side (nat_le count (length bytes)) _ None w tt

again-sends : (ways : Ways) (k : Holding) (side : Side) (u : UnitState) (p t c : ℕ) (x : CurrentCommand) (load : Option Load) → OnWay ways k side p t c → Sends ways k side (sent_again u p t c x load)
again-sends ways k side u p t c x None w = tt
again-sends ways k side u p t c x (Some load) w = if-sends ways k side x.again _ None w tt

answer-sends : (ways : Ways) (k : Holding) (side : Side) (u : UnitState) (p t c : ℕ) (x : CurrentCommand) (at : Progress) (a : DeviceAnswer) → OnWay ways k side p t c → Sends ways k side (answer_taken u p t c x at a)
answer-sends ways k side u p t c x at (answer.Ended status more) w = if-sends ways k side (may_end u.halted x at status more) _ None tt tt
answer-sends ways k side u p t c x progress.New answer.Begins w = if-sends ways k side (is_outward x.code) _ _ w tt
answer-sends ways k side u p t c x progress.New (answer.Absorbed count) w = tt
answer-sends ways k side u p t c x progress.New (answer.Supplied bytes) w = tt
answer-sends ways k side u p t c x progress.New answer.Again w = tt
answer-sends ways k side u p t c x progress.Working answer.Begins w = tt
answer-sends ways k side u p t c x progress.Working (answer.Absorbed count) w = absorbed-sends ways k side u p t c x x.unabsorbed count w
answer-sends ways k side u p t c x progress.Working (answer.Supplied bytes) w = if-sends ways k side (is_to_supply x && nat_le (length bytes) (most_of x)) _ None w tt
answer-sends ways k side u p t c x progress.Working answer.Again w = again-sends ways k side u p t c x x.unanswered w
answer-sends ways k side u p t c x progress.Ended answer.Begins w = tt
answer-sends ways k side u p t c x progress.Ended (answer.Absorbed count) w = tt
answer-sends ways k side u p t c x progress.Ended (answer.Supplied bytes) w = tt
answer-sends ways k side u p t c x progress.Ended answer.Again w = tt
answer-sends ways k side u p t c x progress.ChannelEnded other w = tt

report_on-sends : (ways : Ways) (side j : Side) (u : UnitState) (t : ℕ) (at : Connection) (x : Option CurrentCommand) (r : Report) → u.own ≡ own.Owned j t at → same_side j side ≡ true →
    OwnWay ways (side_seen (holding_of u) side).number (holding_of u).holder side → Sends ways (holding_of u) side (report_on u t at x r)
report_on-sends ways side j u t (connection.On p c) None r e s w = tt
report_on-sends ways side j u t (connection.On p c) (Some x) r e s w =
    if-sends ways (holding_of u) side (r.sequence == x.sequence) (answer_taken u p t c x x.progress r.answer) None
    (answer-sends ways (holding_of u) side u p t c x x.progress r.answer
    (own-on ways (holding_of u) side (record { side = j; number = t; connection = Connected p c; command = u.last_command; transfer = transfer_in u.current; halted = u.halted }) p c (ap (holder_in u) e) s refl (λ y. y) w)) tt
report_on-sends ways side j u t (connection.Ask p c) x r e s w = tt
report_on-sends ways side j u t (connection.Away c) x r e s w = tt

report_of-sends : (ways : Ways) (u : UnitState) (o : Own) (r : Report) → u.own ≡ o → OwnWay ways (side_seen (holding_of u) r.side).number (holding_of u).holder r.side →
    Sends ways (holding_of u) r.side (report_of u o r)
report_of-sends ways u own.Idle r e w = tt
report_of-sends ways u (own.Owned j t at) r e w = by (same_side j r.side) refl
  where
    by : (b : Bool) → same_side j r.side ≡ b → Sends ways (holding_of u) r.side (if b && ((r.number == t) && (r.command == u.last_command)) then report_on u t at u.current r else None)
    by true s = if-sends ways (holding_of u) r.side ((r.number == t) && (r.command == u.last_command)) (report_on u t at u.current r) None (report_on-sends ways r.side j u t at u.current r e s w) tt
    by false s = tt

pub reports-send : (ways : Ways) (u : UnitState) (r : Report) → OwnWay ways (side_seen (holding_of u) r.side).number (holding_of u).holder r.side → Sends ways (holding_of u) r.side (unit_reports u r)
reports-send ways u r w = report_of-sends ways u u.own r refl w

-- acts
abbrev pub ActsBy : Ways → UnitState → Side → UnitAct → Option UnitStep → Type 0
ActsBy ways u side what step = Sends (way_acted side what (holding_of u).holder ways) (acted_after what (holding_of u)) side step

acted-own : (ways : Ways) (u : UnitState) (side : Side) (what : UnitAct) → OwnWay ways (side_seen (holding_of u) side).number (holding_of u).holder side →
    OwnWay (way_acted side what (holding_of u).holder ways) (side_seen (acted_after what (holding_of u)) side).number (acted_after what (holding_of u)).holder side
acted-own ways u side what w = (act-follows (holding_of u) side what ways).own w

leaving_from-sends : (ways : Ways) (u : UnitState) (side : Side) (t : ℕ) (at : Connection) → u.own ≡ own.Owned side t at → OwnWay ways (side_seen (holding_of u) side).number (holding_of u).holder side →
    ActsBy ways u side act.Leave (leaving_from u side t at)
leaving_from-sends ways u side t (connection.On p c) e w =
    (act-follows (holding_of u) side act.Leave ways).way p t c
    (own-on ways (holding_of u) side (record { side = side; number = t; connection = Connected p c; command = u.last_command; transfer = transfer_in u.current; halted = u.halted }) p c (ap (holder_in u) e) (same-side side) refl (λ y. y) w)
leaving_from-sends ways u side t (connection.Ask p c) e w = tt
leaving_from-sends ways u side t (connection.Away c) e w = tt

leaving-sends : (ways : Ways) (u : UnitState) (side : Side) (o : Own) → u.own ≡ o → ((k : Side) (t : ℕ) (at : Connection) → o ≡ own.Owned k t at → k ≡ side) →
    OwnWay ways (side_seen (holding_of u) side).number (holding_of u).holder side → ActsBy ways u side act.Leave (leaving u o)
leaving-sends ways u side own.Idle e f w = tt
leaving-sends ways u side (own.Owned k t at) e f w =
    subst (λ (j : Side). ActsBy ways u side act.Leave (leaving_from u j t at)) (sym (f k t at refl)) (leaving_from-sends ways u side t at (e ∙ ap (λ (j : Side). own.Owned j t at) (f k t at refl)) w)

asking_from-sends : (ways : Ways) (u : UnitState) (side : Side) (t : ℕ) (at : Connection) (p : ℕ) → u.own ≡ own.Owned side t at → OwnWay ways (side_seen (holding_of u) side).number (holding_of u).holder side →
    ActsBy ways u side (act.Ask p) (asking_from u side t at p)
asking_from-sends ways u side t (connection.On q c) p e w = tt
asking_from-sends ways u side t (connection.Ask q c) p e w =
    own-on (way_acted side (act.Ask p) (holding_of u).holder ways) (acted_after (act.Ask p) (holding_of u)) side
    (record { side = side; number = t; connection = Asking p (c + 1); command = u.last_command; transfer = transfer_in u.current; halted = u.halted }) p (c + 1)
    (ap (λ (o : Own). option_map (moved (seen.asking p)) (holder_in u o)) e) (same-side side) refl (λ y. y) (acted-own ways u side (act.Ask p) w)
asking_from-sends ways u side t (connection.Away c) p e w =
    own-on (way_acted side (act.Ask p) (holding_of u).holder ways) (acted_after (act.Ask p) (holding_of u)) side
    (record { side = side; number = t; connection = Asking p (c + 1); command = u.last_command; transfer = transfer_in u.current; halted = u.halted }) p (c + 1)
    (ap (λ (o : Own). option_map (moved (seen.asking p)) (holder_in u o)) e) (same-side side) refl (λ y. y) (acted-own ways u side (act.Ask p) w)

asking-sends : (ways : Ways) (u : UnitState) (side : Side) (o : Own) (p : ℕ) → u.own ≡ o → ((k : Side) (t : ℕ) (at : Connection) → o ≡ own.Owned k t at → k ≡ side) →
    OwnWay ways (side_seen (holding_of u) side).number (holding_of u).holder side → ActsBy ways u side (act.Ask p) (asking u o p)
asking-sends ways u side own.Idle p e f w = tt
asking-sends ways u side (own.Owned k t at) p e f w =
    subst (λ (j : Side). ActsBy ways u side (act.Ask p) (asking_from u j t at p)) (sym (f k t at refl)) (asking_from-sends ways u side t at p (e ∙ ap (λ (j : Side). own.Owned j t at) (f k t at refl)) w)

pub acts-send : (ways : Ways) (u : UnitState) (side : Side) (what : UnitAct) → IsOfSide u side what → OwnWay ways (side_seen (holding_of u) side).number (holding_of u).holder side →
    ActsBy ways u side what (acts u side what)
acts-send ways u side act.Leave its w = leaving-sends ways u side u.own refl (owner-of-act u.own side its) w
acts-send ways u side (act.Ask p) its w = asking-sends ways u side u.own p refl (owner-of-act u.own side its) w
acts-send ways u side (act.Attention p named) its w = if-sends ways (acted_after (act.Attention p named) (holding_of u)) side (is_idle u.own && not (side_of u side).fresh) _ None tt tt
acts-send ways u side (act.Notice p named) its w = if-sends ways (holding_of u) side (side_of u side).fresh (telling u p) None tt tt
