-- What is seen of a unit goes on, and the paths of its connections with it: what came by the path of its number and connection still does.
use Rattle.std.proofs.Common.{◌≡◌, refl, sym, ◌∙◌, ap, subst, ℕ, ◌<◌, ◌≤◌, ◌+◌, ◌==◌, ◌&&◌, Bool, true, false, Option, None, Some, if◌then◌else◌, inl, inr, arith}
use Rattle.std.specs.Prelude.{option_map}
use Rattle.std.proofs.lemmas.Bool.{eq-eqb}
use Rattle.chan_events.specs.declared.event.UnitAct.{UnitAct}
use Rattle.chan_events.specs.declared.event.UnitAct.TheVariants as act
use Rattle.chan_events.specs.declared.reply.Reply.TheVariants as reply
use Rattle.chan_model.specs.declared.names.Side.{Side}
use Rattle.chan_model.specs.declared.names.Side.TheVariants.{First, Second}
use Rattle.chan_model.specs.Signals.{Down, Up}
use Rattle.chan_model.specs.declared.signal.Down.TheVariants as down
use Rattle.chan_model.specs.declared.signal.OnPath.{OnPath}
use Rattle.chan_model.specs.declared.signal.Up.TheVariants as up
use Rattle.chan_model.specs.Sides.{same_side}
use Rattle.step_laws.proofs.Indices.{same-or-not}
use Rattle.agreement_laws.specs.Holders.{SideAnswered}
use Rattle.run_laws.specs.Devices.{Connection, Connected, Asking, Apart, Transfer, Held, Asked, commanded, with_transfer, answered, given, Holding, side_seen, with_seen, with_answered, let_go, is_held_by, with_holder, granted, parted, asking, moved, with_restart, held_after, quiet_after, acted_after, held_met}
use Rattle.run_laws.specs.OneHolder.{connection_of, IsHigher, IsNumbered, IsAnswerNumbered}
use Rattle.run_laws.specs.DevicePaths.{Ways, with_way, way_answered, way_met, way_asked}

-- a connection of the program that holds the device was drawn already
abbrev pub IsPast : Option Held → Side → ℕ → ℕ → Type 0
IsPast None side t c = Unit {0}
IsPast (Some h) side t c = same_side h.side side ≡ true → h.number ≡ t → c ≤ connection_of h.connection

-- a signal of this number and connection came by its path
pub record OnWay (ways : Ways) (k : Holding) (side : Side) (p t c : ℕ) : Type 0 where
  pub below : t ≤ (side_seen k side).number
  pub way : ways t c ≡ Some p
  pub past : IsPast k.holder side t c

-- and so is the program that holds the device
abbrev pub IsPlaced : Ways → ℕ → Connection → Type 0
IsPlaced ways t (Connected p c) = ways t c ≡ Some p
IsPlaced ways t (Asking p c) = ways t c ≡ Some p
IsPlaced ways t (Apart c) = Unit {0}

abbrev pub OwnWay : Ways → ℕ → Option Held → Side → Type 0
OwnWay ways f None side = Unit {0}
OwnWay ways f (Some h) side = same_side h.side side ≡ true → (h.number ≤ f) × IsPlaced ways h.number h.connection

pub record Follows (k next : Holding) (side : Side) (ways after : Ways) : Type 0 where
  pub way : (p t c : ℕ) → OnWay ways k side p t c → OnWay after next side p t c
  pub own : OwnWay ways (side_seen k side).number k.holder side → OwnWay after (side_seen next side).number next.holder side

pub follows-same : (k : Holding) (side : Side) (ways : Ways) → Follows k k side ways ways
follows-same k side ways = record { way = λ p t c x. x; own = λ x. x }

-- numbers rise, and the program that holds the device stays there, or lets it go
own-rises : (ways : Ways) (f g : ℕ) (o : Option Held) (side : Side) → f ≤ g → OwnWay ways f o side → OwnWay ways g o side
own-rises ways f g None side l x = tt
own-rises ways f g (Some h) side l x = λ e. let y = x e in ((let n : h.number ≤ f = y.0 in omega (arith, l, n)), y.1)

follows-by : (k next : Holding) (side : Side) (ways : Ways) → (side_seen k side).number ≤ (side_seen next side).number → ((t c : ℕ) → IsPast k.holder side t c → IsPast next.holder side t c) →
    ((f : ℕ) → OwnWay ways f k.holder side → OwnWay ways f next.holder side) → Follows k next side ways ways
follows-by k next side ways l past own = record {
  way = λ p t c x. record { below = (let n : t ≤ (side_seen k side).number = x.below in omega (arith, l, n)); way = x.way; past = past t c x.past };
  own = λ x. own-rises ways (side_seen k side).number (side_seen next side).number next.holder side l (own (side_seen k side).number x);
}

stays-by : (k next : Holding) (side : Side) (ways : Ways) → (side_seen k side).number ≤ (side_seen next side).number → next.holder ≡ k.holder → Follows k next side ways ways
stays-by k next side ways l e =
    follows-by k next side ways l (λ t c x. subst (λ (o : Option Held). IsPast o side t c) (sym e) x) (λ f x. subst (λ (o : Option Held). OwnWay ways f o side) (sym e) x)

freed-by : (k next : Holding) (side : Side) (ways : Ways) → (side_seen k side).number ≤ (side_seen next side).number → next.holder ≡ None → Follows k next side ways ways
freed-by k next side ways l e =
    follows-by k next side ways l (λ t c x. subst (λ (o : Option Held). IsPast o side t c) (sym e) tt) (λ f x. subst (λ (o : Option Held). OwnWay ways f o side) (sym e) tt)

taken-by : (k next : Holding) (side : Side) (ways : Ways) (h : Held) → (side_seen k side).number ≤ (side_seen next side).number → next.holder ≡ Some h → same_side h.side side ≡ false → Follows k next side ways ways
taken-by k next side ways h l e n =
    follows-by k next side ways l (λ t c x. subst (λ (o : Option Held). IsPast o side t c) (sym e) (λ s. absurd (cc (sym n ∙ s))))
    (λ f x. subst (λ (o : Option Held). OwnWay ways f o side) (sym e) (λ s. absurd (cc (sym n ∙ s))))

-- what a side answers
here-seen : (k : Holding) (side : Side) (x : SideAnswered) → side_seen (with_seen k side x) side ≡ x
here-seen k First x = refl
here-seen k Second x = refl

other-seen : (k : Holding) (side j : Side) (x : SideAnswered) → same_side side j ≡ false → side_seen (with_seen k side x) j ≡ side_seen k j
other-seen k First First x n = absurd (cc n)
other-seen k First Second x n = refl
other-seen k Second First x n = refl
other-seen k Second Second x n = absurd (cc n)

seen-holder : (k : Holding) (side : Side) (x : SideAnswered) → (with_seen k side x).holder ≡ k.holder
seen-holder k First x = refl
seen-holder k Second x = refl

held-seen : (k : Holding) (h : Option Held) (j : Side) → side_seen (record k { holder = h }) j ≡ side_seen k j
held-seen k h First = refl
held-seen k h Second = refl

rises-to : (k next : Holding) (side : Side) (x : SideAnswered) → side_seen next side ≡ x → (side_seen k side).number ≤ x.number → (side_seen k side).number ≤ (side_seen next side).number
rises-to k next side x e l = subst (λ (y : SideAnswered). (side_seen k side).number ≤ y.number) (sym e) l

-- Accept
other-way : (t path : ℕ) (ways : Ways) (u c p : ℕ) → u < t → ways u c ≡ Some p → with_way t 0 path ways u c ≡ Some p
other-way t path ways u c p l e =
    elim (same-or-not u t) [
      | inl h ↦ (let same : u ≡ t = h.0 in absurd (omega (arith, l, same)))
      | inr h ↦ ap (λ (b : Bool). if b && (c == 0) then Some path else ways u c) h.1 ∙ e
    ]

new-way : (t c path : ℕ) (ways : Ways) → with_way t c path ways t c ≡ Some path
new-way t c path ways =
    ap (λ (b : Bool). if b && (c == c) then Some path else ways t c) (eq-eqb t t refl) ∙ ap (λ (b : Bool). if b then Some path else ways t c) (eq-eqb c c refl)

abbrev accepted : Holding → Side → ℕ → ℕ → Holding
accepted k side path t = held_after side path (up.Accept t) k

accepted-number : (k : Holding) (side : Side) (path t : ℕ) → (side_seen (accepted k side path t) side).number ≡ t
accepted-number k First path t = refl
accepted-number k Second path t = refl

accept-follows : (k : Holding) (side : Side) (path t : ℕ) (ways : Ways) → IsHigher k side t → Follows k (accepted k side path t) side ways (with_way t 0 path ways)
accept-follows k side path t ways above =
    let number : (side_seen (accepted k side path t) side).number ≡ t = accepted-number k side path t in
    record {
      way = λ p u c x.
          let low : u ≤ (side_seen k side).number = x.below in
          record {
            below = omega (arith, low, above, number);
            way = other-way t path ways u c p (omega (arith, low, above)) x.way;
            past = λ s e. absurd (omega (arith, low, above, e));
          };
      own = λ x s. (omega (arith, number), new-way t 0 path ways);
    }

pub accept-way : (k : Holding) (side : Side) (path t : ℕ) (ways : Ways) → OnWay (with_way t 0 path ways) (accepted k side path t) side path t 0
accept-way k side path t ways = record {
  below = (let number : (side_seen (accepted k side path t) side).number ≡ t = accepted-number k side path t in omega (arith, number));
  way = new-way t 0 path ways;
  past = λ s e. omega arith;
}

-- Cleared
cleared-follows : (k : Holding) (side j : Side) (r : ℕ) (b : Bool) (ways : Ways) →
    (side_seen k j).number ≤ (side_seen (with_seen (if b then let_go k else k) side (record { number = r; restarted = false })) j).number →
    Follows k (with_seen (if b then let_go k else k) side (record { number = r; restarted = false })) j ways ways
cleared-follows k side j r true ways l = freed-by k (with_seen (let_go k) side (record { number = r; restarted = false })) j ways l (seen-holder (let_go k) side (record { number = r; restarted = false }))
cleared-follows k side j r false ways l = stays-by k (with_seen k side (record { number = r; restarted = false })) j ways l (seen-holder k side (record { number = r; restarted = false }))

if-seen : (k : Holding) (b : Bool) (j : Side) → side_seen (if b then let_go k else k) j ≡ side_seen k j
if-seen k true j = held-seen k None j
if-seen k false j = refl

answered-follows : (k : Holding) (side : Side) (path : ℕ) (x : Up) (ways : Ways) → IsNumbered k side x → Follows k (held_after side path x k) side ways (way_answered path x ways)
answered-follows k side path (up.Accept t) ways above = accept-follows k side path t ways above
answered-follows k side path (up.Busy t) ways above =
    stays-by k (with_answered k side t) side ways
    (rises-to k (with_answered k side t) side (record (side_seen k side) { number = t }) (here-seen k side (record (side_seen k side) { number = t })) (omega (arith, above))) (seen-holder k side (record (side_seen k side) { number = t }))
answered-follows k side path (up.Leave t c) ways above = follows-same k side ways
answered-follows k side path (up.Back t c) ways above = follows-same k side ways
answered-follows k side path (up.Data load t c n s) ways above = follows-same k side ways
answered-follows k side path (up.End t n status more) ways above = follows-same k side ways
answered-follows k side path (up.Released t) ways above =
    freed-by k (let_go k) side ways (rises-to k (let_go k) side (side_seen k side) (held-seen k None side) (omega arith)) refl
answered-follows k side path (up.Cleared r) ways above =
    cleared-follows k side side r (is_held_by k.holder side) ways
    (rises-to k (held_after side path (up.Cleared r) k) side (record { number = r; restarted = false })
    (here-seen (if is_held_by k.holder side then let_go k else k) side (record { number = r; restarted = false })) (omega (arith, above)))
answered-follows k side path (up.Notice b) ways above = follows-same k side ways
answered-follows k side path (up.Attn a status) ways above = follows-same k side ways

-- the other side
other-follows : (k : Holding) (side j : Side) (path : ℕ) (x : Up) (ways : Ways) → same_side side j ≡ false → Follows k (held_after side path x k) j ways ways
other-follows k side j path (up.Accept t) ways n =
    taken-by k (accepted k side path t) j ways (record { side = side; number = t; connection = Connected path 0; command = 0; transfer = None; halted = false })
    (rises-to k (accepted k side path t) j (side_seen k j)
    (held-seen (with_answered k side t) (Some (record { side = side; number = t; connection = Connected path 0; command = 0; transfer = None; halted = false })) j ∙ other-seen k side j (record (side_seen k side) { number = t }) n) (omega arith))
    refl n
other-follows k side j path (up.Busy t) ways n =
    stays-by k (with_answered k side t) j ways
    (rises-to k (with_answered k side t) j (side_seen k j) (other-seen k side j (record (side_seen k side) { number = t }) n) (omega arith)) (seen-holder k side (record (side_seen k side) { number = t }))
other-follows k side j path (up.Leave t c) ways n = follows-same k j ways
other-follows k side j path (up.Back t c) ways n = follows-same k j ways
other-follows k side j path (up.Data load t c m s) ways n = follows-same k j ways
other-follows k side j path (up.End t m status more) ways n = follows-same k j ways
other-follows k side j path (up.Released t) ways n = freed-by k (let_go k) j ways (rises-to k (let_go k) j (side_seen k j) (held-seen k None j) (omega arith)) refl
other-follows k side j path (up.Cleared r) ways n =
    cleared-follows k side j r (is_held_by k.holder side) ways
    (rises-to k (held_after side path (up.Cleared r) k) j (side_seen k j)
    (other-seen (if is_held_by k.holder side then let_go k else k) side j (record { number = r; restarted = false }) n ∙ if-seen k (is_held_by k.holder side) j) (omega arith))
other-follows k side j path (up.Notice b) ways n = follows-same k j ways
other-follows k side j path (up.Attn a status) ways n = follows-same k j ways

-- what is taken in silence, or done of itself
pub record IsMove (ways : Ways) (f : Held → Held) : Type 0 where
  pub side : (h : Held) → (f h).side ≡ h.side
  pub number : (h : Held) → (f h).number ≡ h.number
  pub connection : (h : Held) → connection_of (f h).connection ≡ connection_of h.connection
  pub placed : (h : Held) (t : ℕ) → IsPlaced ways t h.connection → IsPlaced ways t (f h).connection

moved-past : (ways : Ways) (f : Held → Held) (o : Option Held) (side : Side) (t c : ℕ) → IsMove ways f → IsPast o side t c → IsPast (option_map f o) side t c
moved-past ways f None side t c m x = tt
moved-past ways f (Some h) side t c m x = λ s e.
    subst (λ (n : ℕ). c ≤ n) (sym (m.connection h)) (x (sym (ap (λ (j : Side). same_side j side) (m.side h)) ∙ s) (sym (m.number h) ∙ e))

moved-own : (ways : Ways) (f : Held → Held) (g : ℕ) (o : Option Held) (side : Side) → IsMove ways f → OwnWay ways g o side → OwnWay ways g (option_map f o) side
moved-own ways f g None side m x = tt
moved-own ways f g (Some h) side m x = λ s.
    let y = x (sym (ap (λ (j : Side). same_side j side) (m.side h)) ∙ s) in
    (subst (λ (n : ℕ). n ≤ g) (sym (m.number h)) y.0, subst (λ (n : ℕ). IsPlaced ways n (f h).connection) (sym (m.number h)) (m.placed h h.number y.1))

moved-follows : (k : Holding) (side : Side) (ways : Ways) (f : Held → Held) → IsMove ways f → Follows k (with_holder f k) side ways ways
moved-follows k side ways f m =
    follows-by k (with_holder f k) side ways (rises-to k (with_holder f k) side (side_seen k side) (held-seen k (option_map f k.holder) side) (omega arith))
    (λ t c x. moved-past ways f k.holder side t c m x) (λ g x. moved-own ways f g k.holder side m x)

granted-connection : (at : Connection) → connection_of (granted at) ≡ connection_of at
granted-connection (Connected p c) = refl
granted-connection (Asking p c) = refl
granted-connection (Apart c) = refl

granted-placed : (ways : Ways) (t : ℕ) (at : Connection) → IsPlaced ways t at → IsPlaced ways t (granted at)
granted-placed ways t (Connected p c) x = x
granted-placed ways t (Asking p c) x = x
granted-placed ways t (Apart c) x = x

parted-connection : (at : Connection) → connection_of (parted at) ≡ connection_of at
parted-connection (Connected p c) = refl
parted-connection (Asking p c) = refl
parted-connection (Apart c) = refl

parted-placed : (ways : Ways) (t : ℕ) (at : Connection) → IsPlaced ways t (parted at)
parted-placed ways t (Connected p c) = tt
parted-placed ways t (Asking p c) = tt
parted-placed ways t (Apart c) = tt

grant-move : (ways : Ways) → IsMove ways (moved granted)
grant-move ways = record { side = λ h. refl; number = λ h. refl; connection = λ h. granted-connection h.connection; placed = λ h t x. granted-placed ways t h.connection x }

part-move : (ways : Ways) → IsMove ways (moved parted)
part-move ways = record { side = λ h. refl; number = λ h. refl; connection = λ h. parted-connection h.connection; placed = λ h t x. parted-placed ways t h.connection }

pub transfer-follows : (k : Holding) (side : Side) (ways : Ways) (f : Transfer → Transfer) → Follows k (with_holder (with_transfer f) k) side ways ways
transfer-follows k side ways f = moved-follows k side ways (with_transfer f) (record { side = λ h. refl; number = λ h. refl; connection = λ h. refl; placed = λ h t x. x })

attention-seen : (k : Holding) (n : ℕ) (x : Option Asked) (j : Side) → side_seen (record k { attentions = n; attention = x }) j ≡ side_seen k j
attention-seen k n x First = refl
attention-seen k n x Second = refl

quiet-follows : (k : Holding) (side : Side) (d : Down) (ways : Ways) → Follows k (quiet_after d k) side ways ways
quiet-follows k side (down.Select t) ways = follows-same k side ways
quiet-follows k side (down.Command t n code room) ways =
    moved-follows k side ways (commanded n code) (record { side = λ h. refl; number = λ h. refl; connection = λ h. refl; placed = λ h t x. x })
quiet-follows k side (down.Grant t c) ways = moved-follows k side ways (moved granted) (grant-move ways)
quiet-follows k side (down.Refuse t c) ways = moved-follows k side ways (moved parted) (part-move ways)
quiet-follows k side (down.Took t n s room) ways = transfer-follows k side ways answered
quiet-follows k side (down.Give bytes t c n s) ways = transfer-follows k side ways (given s)
quiet-follows k side (down.Halt t) ways =
    moved-follows k side ways (λ h. record h { halted = true }) (record { side = λ h. refl; number = λ h. refl; connection = λ h. refl; placed = λ h t x. x })
quiet-follows k side (down.Release t) ways = follows-same k side ways
quiet-follows k side (down.Reset r b) ways = follows-same k side ways
quiet-follows k side (down.Got a) ways = stays-by k (record k { attention = None }) side ways (rises-to k (record k { attention = None }) side (side_seen k side) (attention-seen k k.attentions None side) (omega arith)) refl

-- a reply
pub met-follows : (k : Holding) (side : Side) (path : ℕ) (d : Down) (taken : Bool) (sent : Option (OnPath Up)) (ways : Ways) → IsAnswerNumbered k side sent →
    Follows k (held_met side path (reply.Down d taken sent) k) side ways (way_met path (reply.Down d taken sent) ways)
met-follows k side path d true None ways numbered = quiet-follows k side d ways
met-follows k side path d true (Some s) ways numbered = answered-follows k side path s.signal ways numbered
met-follows k side path d false sent ways numbered = follows-same k side ways

pub met-other : (k : Holding) (side j : Side) (path : ℕ) (d : Down) (taken : Bool) (sent : Option (OnPath Up)) (ways : Ways) → same_side side j ≡ false →
    Follows k (held_met side path (reply.Down d taken sent) k) j ways ways
met-other k side j path d true None ways n = quiet-follows k j d ways
met-other k side j path d true (Some s) ways n = other-follows k side j path s.signal ways n
met-other k side j path d false sent ways n = follows-same k j ways

-- a restart
pub restart-follows : (k : Holding) (side : Side) (ways : Ways) → Follows k (with_restart k) side ways ways
restart-follows k First ways = freed-by k (with_restart k) First ways (omega arith) refl
restart-follows k Second ways = freed-by k (with_restart k) Second ways (omega arith) refl

-- an Ask
not-next : (t n c m : ℕ) → (n ≡ t → c ≤ m) → ((t == n) && (c == m + 1)) ≡ false
not-next t n c m f =
    elim (same-or-not t n) [
      | inl h ↦ elim (same-or-not c (m + 1)) [
        | inl g ↦ (let l : c ≤ m = f (sym h.0) in let e : c ≡ m + 1 = g.0 in absurd (omega (arith, l, e)))
        | inr g ↦ ap (λ (b : Bool). (t == n) && b) g.1 ∙ and-false (t == n)
      ]
      | inr h ↦ ap (λ (b : Bool). b && (c == m + 1)) h.1
    ]
  where
    and-false : (b : Bool) → (b && false) ≡ false
    and-false true = refl
    and-false false = refl

asked-if : (b : Bool) (h : Held) (path : ℕ) (ways : Ways) (p t c : ℕ) → ways t c ≡ Some p → (b ≡ true → h.number ≡ t → c ≤ connection_of h.connection) →
    (if b then with_way h.number (connection_of h.connection + 1) path ways else ways) t c ≡ Some p
asked-if true h path ways p t c e past = ap (λ (b : Bool). if b then Some path else ways t c) (not-next t h.number c (connection_of h.connection) (past refl)) ∙ e
asked-if false h path ways p t c e past = e

asked-way : (o : Option Held) (side : Side) (path : ℕ) (ways : Ways) (p t c : ℕ) → ways t c ≡ Some p → IsPast o side t c → way_asked side path o ways t c ≡ Some p
asked-way None side path ways p t c e past = e
asked-way (Some h) side path ways p t c e past = asked-if (same_side h.side side) h path ways p t c e past

asking-connection : (path : ℕ) (at : Connection) → connection_of (asking path at) ≡ connection_of at + 1
asking-connection path (Connected p c) = refl
asking-connection path (Asking p c) = refl
asking-connection path (Apart c) = refl

asked-past : (o : Option Held) (side : Side) (path t c : ℕ) → IsPast o side t c → IsPast (option_map (moved (asking path)) o) side t c
asked-past None side path t c x = tt
asked-past (Some h) side path t c x = λ s e.
    let l : c ≤ connection_of h.connection = x s e in
    let n : connection_of (asking path h.connection) ≡ connection_of h.connection + 1 = asking-connection path h.connection in
    omega (arith, l, n)

asking-placed : (path t : ℕ) (at : Connection) (ways : Ways) → ways t (connection_of at + 1) ≡ Some path → IsPlaced ways t (asking path at)
asking-placed path t (Connected p c) ways e = e
asking-placed path t (Asking p c) ways e = e
asking-placed path t (Apart c) ways e = e

asked-own : (o : Option Held) (side : Side) (path : ℕ) (ways : Ways) (f : ℕ) → OwnWay ways f o side → OwnWay (way_asked side path o ways) f (option_map (moved (asking path)) o) side
asked-own None side path ways f x = tt
asked-own (Some h) side path ways f x = λ s. (
  (x s).0,
  asking-placed path h.number h.connection (way_asked side path (Some h) ways)
      (ap (λ (b : Bool). (if b then with_way h.number (connection_of h.connection + 1) path ways else ways) h.number (connection_of h.connection + 1)) s ∙ new-way h.number (connection_of h.connection + 1) path ways),
)

ask-follows : (k : Holding) (side : Side) (path : ℕ) (ways : Ways) → Follows k (acted_after (act.Ask path) k) side ways (way_asked side path k.holder ways)
ask-follows k side path ways =
    let same : side_seen (acted_after (act.Ask path) k) side ≡ side_seen k side = held-seen k (option_map (moved (asking path)) k.holder) side in
    record {
      way = λ p t c x. record {
        below = subst (λ (y : SideAnswered). t ≤ y.number) (sym same) x.below;
        way = asked-way k.holder side path ways p t c x.way x.past;
        past = asked-past k.holder side path t c x.past;
      };
      own = λ x. subst (λ (y : SideAnswered). OwnWay (way_asked side path k.holder ways) y.number (option_map (moved (asking path)) k.holder) side) (sym same) (asked-own k.holder side path ways (side_seen k side).number x);
    }

abbrev pub way_acted : Side → UnitAct → Option Held → Ways → Ways
way_acted side (act.Ask path) o ways = way_asked side path o ways
way_acted side what o ways = ways

pub act-follows : (k : Holding) (side : Side) (what : UnitAct) (ways : Ways) → Follows k (acted_after what k) side ways (way_acted side what k.holder ways)
act-follows k side act.Leave ways = moved-follows k side ways (moved parted) (part-move ways)
act-follows k side (act.Ask path) ways = ask-follows k side path ways
act-follows k side (act.Attention path named) ways =
    stays-by k (acted_after (act.Attention path named) k) side ways
    (rises-to k (acted_after (act.Attention path named) k) side (side_seen k side) (attention-seen k (k.attentions + 1) (Some (record { side = named; number = k.attentions + 1 })) side) (omega arith)) refl
act-follows k side (act.Notice path named) ways = follows-same k side ways
