-- What a unit does is right by what is seen of a side's paths, and keeps the tie.
use Rattle.std.proofs.Common.{◌≡◌, refl, sym, ◌∙◌, ap, subst, ℕ, ◌<◌, ◌≤◌, ◌+◌, Bool, true, Option, None, Some, List, ◌∷◌, arith}
use Rattle.std.specs.Prelude.{IfSome}
use Rattle.chan_model.specs.declared.names.Side.{Side}
use Rattle.chan_model.specs.Signals.{Down}
use Rattle.chan_model.specs.declared.signal.Down.TheVariants as down
use Rattle.chan_model.specs.declared.signal.OnPath.{OnPath}
use Rattle.chan_model.specs.Signals.{Up}
use Rattle.chan_model.specs.declared.signal.Up.TheVariants as up
use Rattle.chan_model.specs.declared.unit_state.Connection.{Connection}
use Rattle.chan_model.specs.declared.unit_state.Connection.TheVariants as connection
use Rattle.chan_model.specs.declared.unit_state.UnitState.{UnitState}
use Rattle.chan_model.specs.declared.hold_state.HoldPhase.{HoldPhase}
use Rattle.chan_model.specs.UnitTable.{UnitStep, unit_after, outcome_of, sends}
use Rattle.unit.specs.UnitWords.{connection_of}
use Rattle.agreement_laws.specs.Links.{Link}
use Rattle.agreement_laws.specs.Moving.{still, LinkStep, sent_by}
use Rattle.agree.specs.declared.reply.WorldReply.TheVariants as reply
use Rattle.agreement_laws.specs.PathsSeen.{Connected, linked, SeenPaths, way_of, sent_up, IsConnected, SendsRight}
use Rattle.agree.specs.ByItsPath.{seen_here, IsHereRight}
use Rattle.agree.proofs.PathTies.{way-new, Each, each-weaker, none-above, none-beyond, moving_of, IsHeldWay, IsLast, IsMine, IsOfferOn, IsUpTied, Tied, unit-after-same, unit-after-more, unit-stays}
use Rattle.agreement_laws.proofs.SeenSignals.{IsDownTied, IsPlainDown, plain-taken}
use Rattle.agree.proofs.UnitPaths.{Held, held, holds, floor_of, IsQuiet, IsFreeing, IsStill, Takes, Ignores, Tells, Changes, Gives, Frees, Accepts, Joins, Parts, Answers}
use Rattle.agree.proofs.UnitActs.{IsOfConnection, IsOffPath, Acts, Idles, Says, Begins, Leaves, Asks, Sends}

quiet-up : (ks : List Connected) (phase : HoldPhase) (p : ℕ) (x : Up) → IsQuiet x → IsUpTied ks phase p x
quiet-up ks phase p (up.Busy t) q = tt
quiet-up ks phase p (up.Notice b) q = tt
quiet-up ks phase p (up.Attn a status) q = tt
quiet-up ks phase p (up.Accept t) q = absurd q
quiet-up ks phase p (up.Leave t c) q = absurd q
quiet-up ks phase p (up.Back t c) q = absurd q
quiet-up ks phase p (up.Data load t c n s) q = absurd q
quiet-up ks phase p (up.End t n status more) q = absurd q
quiet-up ks phase p (up.Released t) q = absurd q
quiet-up ks phase p (up.Cleared r) q = absurd q

-- a signal arrived at the unit
pub record UnitTook (side : Side) (v : UnitState) (new : Link) (k : SeenPaths) (x : OnPath Down) (taken : Bool) (sent : Option (OnPath Up)) : Type 0 where
  pub right : IsHereRight (reply.Down side x taken sent) k
  pub tied : Tied side v new (seen_here (reply.Down side x taken sent) k)

abbrev MetBy : Side → UnitState → Link → SeenPaths → OnPath Down → Option UnitStep → Type 0
MetBy side u l k x step = (new : Link) → LinkStep l (still l.drawn l.hold) (sent_by step) new → UnitTook side (unit_after u step) new k x (outcome_of step).taken (outcome_of step).sent

-- it tells by the signal alone what is seen
tells-line_took_down : (side : Side) (u v : UnitState) (l : Link) (k : SeenPaths) (p : ℕ) (d : Down) (x : Up) → IsQuiet x → IsStill u v side → Tied side u l k →
    MetBy side u l k (record { path = p; signal = d }) (sends v p x)
tells-line_took_down side u v l k p d (up.Busy t) q is tie new s = record { right = refl; tied = unit-stays side u v l new k _ tie s is tt }
tells-line_took_down side u v l k p d (up.Notice b) q is tie new s = record { right = refl; tied = unit-stays side u v l new k _ tie s is tt }
tells-line_took_down side u v l k p d (up.Attn a status) q is tie new s = record { right = refl; tied = unit-stays side u v l new k _ tie s is tt }
tells-line_took_down side u v l k p d (up.Accept t) q is tie new s = absurd q
tells-line_took_down side u v l k p d (up.Leave t c) q is tie new s = absurd q
tells-line_took_down side u v l k p d (up.Back t c) q is tie new s = absurd q
tells-line_took_down side u v l k p d (up.Data load t c n m) q is tie new s = absurd q
tells-line_took_down side u v l k p d (up.End t n status more) q is tie new s = absurd q
tells-line_took_down side u v l k p d (up.Released t) q is tie new s = absurd q
tells-line_took_down side u v l k p d (up.Cleared r) q is tie new s = absurd q

none-held : (ks : List Connected) (f : ℕ) (h : Option Held) → h ≡ None → IsHeldWay ks h × IsLast ks h × IsMine f h
none-held ks f h e = subst (λ (x : Option Held). IsHeldWay ks x × IsLast ks x × IsMine f x) (sym e) (tt, tt, tt)

frees-line_took_down : (side : Side) (u v : UnitState) (l : Link) (k : SeenPaths) (p : ℕ) (d : Down) (x : Up) → IsFreeing x → holds v side ≡ None → floor_of u side ≤ floor_of v side → Tied side u l k →
    MetBy side u l k (record { path = p; signal = d }) (sends v p x)
frees-line_took_down side u v l k p d (up.Released t) q none le tie new s =
    let gone = none-held k.ways (floor_of v side) (holds v side) none in
    record { right = refl; tied = unit-after-same side u v l new k None _ tie s le (ap moving_of (sym none)) gone.0 gone.1 gone.2 tt }
frees-line_took_down side u v l k p d (up.Cleared r) q none le tie new s =
    let gone = none-held k.ways (floor_of v side) (holds v side) none in
    record { right = refl; tied = unit-after-same side u v l new k None _ tie s le (ap moving_of (sym none)) gone.0 gone.1 gone.2 tt }
frees-line_took_down side u v l k p d (up.Busy t) q none le tie new s = absurd q
frees-line_took_down side u v l k p d (up.Notice b) q none le tie new s = absurd q
frees-line_took_down side u v l k p d (up.Attn a status) q none le tie new s = absurd q
frees-line_took_down side u v l k p d (up.Accept t) q none le tie new s = absurd q
frees-line_took_down side u v l k p d (up.Leave t c) q none le tie new s = absurd q
frees-line_took_down side u v l k p d (up.Back t c) q none le tie new s = absurd q
frees-line_took_down side u v l k p d (up.Data load t c n m) q none le tie new s = absurd q
frees-line_took_down side u v l k p d (up.End t n status more) q none le tie new s = absurd q

changes-line_took_down : (side : Side) (u v : UnitState) (l : Link) (k : SeenPaths) (p : ℕ) (d : Down) → IsPlainDown d → (m : Option Connected) → m ≡ k.moving → ((new : Link) → LinkStep l (still l.drawn l.hold) None new → Tied side v new (record k { moving = m })) →
    (new : Link) → LinkStep l (still l.drawn l.hold) None new → Tied side v new (record k { moving = m }) → UnitTook side v new k (record { path = p; signal = d }) true None
changes-line_took_down side u v l k p d plain m e f new s h =
    let kept = plain-taken k.moving p d plain in
    record { right = kept.0; tied = subst (λ (y : Option Connected). Tied side v new (record k { moving = y })) (e ∙ sym kept.1) h }

-- where a program is at the unit
held-way : (ks : List Connected) (f : ℕ) (h : Option Held) (one : Held) → h ≡ Some one → IsHeldWay ks (Some one) → IsLast ks (Some one) → one.number ≤ f → IsHeldWay ks h × IsLast ks h × IsMine f h
held-way ks f h one e way last mine = (
  subst (λ (x : Option Held). IsHeldWay ks x) (sym e) way,
  subst (λ (x : Option Held). IsLast ks x) (sym e) last,
  subst (λ (x : Option Held). IsMine f x) (sym e) mine,
)

old-way : (side : Side) (u : UnitState) (l : Link) (k : SeenPaths) (one : Held) → Tied side u l k → holds u side ≡ Some one → IsHeldWay k.ways (Some one) × IsLast k.ways (Some one) × IsMine (floor_of u side) (Some one)
old-way side u l k one tie e = (
  subst (λ (x : Option Held). IsHeldWay k.ways x) e tie.unit_way,
  subst (λ (x : Option Held). IsLast k.ways x) e tie.last,
  subst (λ (x : Option Held). IsMine (floor_of u side) x) e tie.mine,
)

mine-now : (side : Side) (u v : UnitState) (t f g : ℕ) → f ≤ g → t ≤ f → t ≤ g
mine-now side u v t f g le m = omega (arith, le, m)

old-moving : (side : Side) (u : UnitState) (l : Link) (k : SeenPaths) (one : Held) → Tied side u l k → holds u side ≡ Some one → k.moving ≡ moving_of (Some one)
old-moving side u l k one tie e = tie.moving ∙ ap moving_of e

some-path : (p q : ℕ) → Some p ≡ Some q → p ≡ q
some-path p q e = cc e

-- of this connection by this path: the path by which it was asked for
same-way : (ks : List Connected) (t p q c : ℕ) → way_of ks t c ≡ Some p → way_of ks t c ≡ Some q → p ≡ q
same-way ks t p q c a b = some-path p q (sym a ∙ b)

pub takes-line_took_down : (side : Side) (u : UnitState) (l : Link) (k : SeenPaths) (p : ℕ) (d : Down) (step : Option UnitStep) → IsDownTied k.ways p d → ((t : ℕ) → d ≡ down.Select t → floor_of u side < t → IsOfferOn l.hold.phase t p) →
    Tied side u l k → Takes side u p d step → MetBy side u l k (record { path = p; signal = d }) step
takes-line_took_down side u l k p _ _ way offer tie (Ignores d) new s = record { right = refl; tied = unit-stays side u u l new k None tie s (record { held = refl; floor = omega arith }) tt }
takes-line_took_down side u l k p _ _ way offer tie (Tells d v x q is) new s = tells-line_took_down side u v l k p d x q is tie new s
takes-line_took_down side u l k p _ _ way offer tie (Changes d v plain is) new s =
    changes-line_took_down side u v l k p d plain k.moving refl (λ n m. unit-stays side u v l n k None tie m is tt) new s (unit-stays side u v l new k None tie s is tt)
takes-line_took_down side u l k p _ _ way offer tie (Gives t c n m q bytes v on is) new s =
    let old = old-way side u l k (held t (connection.On q c)) tie on in
    let same : p ≡ q = same-way k.ways t p q c way old.0 in
    record {
      right = old-moving side u l k (held t (connection.On q c)) tie on ∙ ap (λ (x : ℕ). Some (linked t x c)) (sym same);
      tied = unit-stays side u v l new k None tie s is tt;
    }
takes-line_took_down side u l k p _ _ way offer tie (Frees d v x q none le) new s = frees-line_took_down side u v l k p d x q none le tie new s
takes-line_took_down side u l k p _ _ way offer tie (Accepts t v above floor on) new s =
    let one : Connected = linked t p 0 in
    let none : way_of k.ways t 0 ≡ None = none-above (floor_of u side) t 0 above k.ways tie.below in
    let old : Each (λ x. x.number ≡ t → x.connection ≤ 0) k.ways =
    each-weaker (λ x. x.number ≤ floor_of u side) (λ x. x.number ≡ t → x.connection ≤ 0) (λ x h e. absurd (omega (arith, h, e, above))) k.ways tie.below in
    let at = held-way (one ∷ k.ways) (floor_of v side) (holds v side) (held t (connection.On p 0)) on (way-new t p 0 k.ways) ((λ e. omega arith), old) (omega (arith, floor)) in
    record {
      right = refl;
      tied =
          unit-after-more side u v l new k one (Some one) _ tie s none (omega (arith, floor, above)) (omega (arith, floor)) (ap moving_of (sym on)) at.0 at.1 at.2
          (way-new t p 0 k.ways, offer t refl above);
    }
takes-line_took_down side u l k p _ _ way offer tie (Joins t c q v asks on le) new s =
    let old = old-way side u l k (held t (connection.Ask q c)) tie asks in
    let same : p ≡ q = same-way k.ways t p q c way old.0 in
    let at = held-way k.ways (floor_of v side) (holds v side) (held t (connection.On q c)) on old.0 old.1 (mine-now side u v t (floor_of u side) (floor_of v side) le old.2) in
    record {
      right = tt;
      tied = unit-after-same side u v l new k (Some (linked t p c)) None tie s le (ap (λ (x : ℕ). Some (linked t x c)) same ∙ ap moving_of (sym on)) at.0 at.1 at.2 tt;
    }
takes-line_took_down side u l k p _ _ way offer tie (Parts d t c q v plain asks away le) new s =
    let old = old-way side u l k (held t (connection.Ask q c)) tie asks in
    let at = held-way k.ways (floor_of v side) (holds v side) (held t (connection.Away c)) away tt old.1 (mine-now side u v t (floor_of u side) (floor_of v side) le old.2) in
    let gone : k.moving ≡ None = old-moving side u l k (held t (connection.Ask q c)) tie asks in
    let next : (n : Link) → LinkStep l (still l.drawn l.hold) None n → Tied side v n (record k { moving = k.moving }) =
    λ n m. unit-after-same side u v l n k k.moving None tie m le (gone ∙ ap moving_of (sym away)) at.0 at.1 at.2 tt in
    changes-line_took_down side u v l k p d plain k.moving refl next new s (next new s)
takes-line_took_down side u l k p _ _ way offer tie (Answers t c) new s =
    record { right = refl; tied = unit-stays side u u l new k _ tie s (record { held = refl; floor = omega arith }) way }

-- the unit sent a signal of itself, or for its device
pub record Said (side : Side) (v : UnitState) (new : Link) (k : SeenPaths) (sent : Option (OnPath Up)) : Type 0 where
  pub right : IfSome sent (λ x. SendsRight k.moving x.path x.signal)
  pub tied : IfSome sent (λ x. Tied side v new (sent_up x k))
  pub quiet : sent ≡ None → Tied side v new k

abbrev SaidBy : Side → UnitState → Link → SeenPaths → Option UnitStep → Type 0
SaidBy side u l k step = (new : Link) → LinkStep l (still l.drawn l.hold) (sent_by step) new → Said side (unit_after u step) new k (outcome_of step).sent

some-not : (x : OnPath Up) → Some x ≡ None → ⊥
some-not x e = cc e

says : (side : Side) (u v : UnitState) (l : Link) (k : SeenPaths) (p : ℕ) (x : Up) → IsQuiet x → IsStill u v side → Tied side u l k → SaidBy side u l k (sends v p x)
says side u v l k p (up.Busy t) q is tie new s = record { right = tt; tied = unit-stays side u v l new k _ tie s is tt; quiet = λ e. absurd (some-not _ e) }
says side u v l k p (up.Notice b) q is tie new s = record { right = tt; tied = unit-stays side u v l new k _ tie s is tt; quiet = λ e. absurd (some-not _ e) }
says side u v l k p (up.Attn a status) q is tie new s = record { right = tt; tied = unit-stays side u v l new k _ tie s is tt; quiet = λ e. absurd (some-not _ e) }
says side u v l k p (up.Accept t) q is tie new s = absurd q
says side u v l k p (up.Leave t c) q is tie new s = absurd q
says side u v l k p (up.Back t c) q is tie new s = absurd q
says side u v l k p (up.Data load t c n m) q is tie new s = absurd q
says side u v l k p (up.End t n status more) q is tie new s = absurd q
says side u v l k p (up.Released t) q is tie new s = absurd q
says side u v l k p (up.Cleared r) q is tie new s = absurd q

moves-by : (m : Option Connected) (t p c : ℕ) → m ≡ Some (linked t p c) → IsConnected m t p
moves-by m t p c e = subst (λ (x : Option Connected). IsConnected x t p) (sym e) (refl, refl)

sends-said : (side : Side) (u v : UnitState) (l : Link) (k : SeenPaths) (t p c : ℕ) (x : Up) → IsOfConnection t c x → holds u side ≡ Some (held t (connection.On p c)) → IsStill u v side → Tied side u l k →
    SaidBy side u l k (sends v p x)
sends-said side u v l k t p c (up.Data load w d n m) its on is tie new s =
    let old = old-way side u l k (held t (connection.On p c)) tie on in
    let way : way_of k.ways w d ≡ Some p = ap (λ (a : ℕ). way_of k.ways a d) its.0 ∙ (ap (λ (a : ℕ). way_of k.ways t a) its.1 ∙ old.0) in
    record {
      right = old-moving side u l k (held t (connection.On p c)) tie on ∙ (ap (λ (a : ℕ). Some (linked a p c)) (sym its.0) ∙ ap (λ (a : ℕ). Some (linked w p a)) (sym its.1));
      tied = unit-stays side u v l new k _ tie s is way;
      quiet = λ e. absurd (some-not _ e);
    }
sends-said side u v l k t p c (up.End w n status more) its on is tie new s =
    record {
      right = moves-by k.moving w p c (old-moving side u l k (held t (connection.On p c)) tie on ∙ ap (λ (a : ℕ). Some (linked a p c)) (sym its));
      tied = unit-stays side u v l new k _ tie s is tt;
      quiet = λ e. absurd (some-not _ e);
    }
sends-said side u v l k t p c (up.Accept w) its on is tie new s = absurd its
sends-said side u v l k t p c (up.Busy w) its on is tie new s = absurd its
sends-said side u v l k t p c (up.Leave w d) its on is tie new s = absurd its
sends-said side u v l k t p c (up.Back w d) its on is tie new s = absurd its
sends-said side u v l k t p c (up.Released w) its on is tie new s = absurd its
sends-said side u v l k t p c (up.Cleared w) its on is tie new s = absurd its
sends-said side u v l k t p c (up.Notice b) its on is tie new s = absurd its
sends-said side u v l k t p c (up.Attn a status) its on is tie new s = absurd its

off-moving : (t : ℕ) (at : Connection) → IsOffPath at → moving_of (Some (held t at)) ≡ None
off-moving t (connection.On p c) off = absurd off
off-moving t (connection.Ask p c) off = refl
off-moving t (connection.Away c) off = refl

pub acts-said : (side : Side) (u : UnitState) (l : Link) (k : SeenPaths) (step : Option UnitStep) → Tied side u l k → Acts side u step → SaidBy side u l k step
acts-said side u l k _ tie Idles new s =
    record { right = tt; tied = tt; quiet = λ e. unit-stays side u u l new k None tie s (record { held = refl; floor = omega arith }) tt }
acts-said side u l k _ tie (Says v p x q said is) new s = says side u v l k p x q is tie new s
acts-said side u l k _ tie (Begins v is) new s = record { right = tt; tied = tt; quiet = λ e. unit-stays side u v l new k None tie s is tt }
acts-said side u l k _ tie (Leaves t p c v on away le) new s =
    let old = old-way side u l k (held t (connection.On p c)) tie on in
    let at = held-way k.ways (floor_of v side) (holds v side) (held t (connection.Away c)) away tt old.1 (mine-now side u v t (floor_of u side) (floor_of v side) le old.2) in
    record {
      right = old-moving side u l k (held t (connection.On p c)) tie on;
      tied = unit-after-same side u v l new k None _ tie s le (ap moving_of (sym away)) at.0 at.1 at.2 old.0;
      quiet = λ e. absurd (some-not _ e);
    }
acts-said side u l k _ tie (Asks t p here v off on asks le) new s =
    let c : ℕ = connection_of here + 1 in
    let one : Connected = linked t p c in
    let old = old-way side u l k (held t here) tie on in
    let gone : k.moving ≡ None = old-moving side u l k (held t here) tie on ∙ off-moving t here off in
    let none : way_of k.ways t c ≡ None = none-beyond t (connection_of here) c (omega arith) k.ways old.1 in
    let last : Each (λ x. x.number ≡ t → x.connection ≤ c) k.ways =
    each-weaker (λ x. x.number ≡ t → x.connection ≤ connection_of here) (λ x. x.number ≡ t → x.connection ≤ c) (λ x h e. let b : x.connection ≤ connection_of here = h e in omega (arith, b)) k.ways old.1 in
    let mine : t ≤ floor_of v side = mine-now side u v t (floor_of u side) (floor_of v side) le old.2 in
    let at = held-way (one ∷ k.ways) (floor_of v side) (holds v side) (held t (connection.Ask p c)) asks (way-new t p c k.ways) ((λ e. omega arith), last) mine in
    record {
      right = gone;
      tied = unit-after-more side u v l new k one k.moving _ tie s none le mine (gone ∙ ap moving_of (sym asks)) at.0 at.1 at.2 (way-new t p c k.ways);
      quiet = λ e. absurd (some-not _ e);
    }
acts-said side u l k _ tie (Sends t p c x v its on is) new s = sends-said side u v l k t p c x its on is tie new s
