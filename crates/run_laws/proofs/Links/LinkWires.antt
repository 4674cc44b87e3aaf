-- What holds of a unit's command at hand, and of the signals that tell of a command's bytes.
use Rattle.std.proofs.Common.{◌≡◌, ◌∙◌, ℕ, ◌+◌, ◌<◌, ◌≤◌, Bool, true, false, Option, None, Some, List, arith}
use Rattle.std.specs.Prelude.{slice_get, IfSome}
use Rattle.chan_model.specs.declared.names.Side.{Side}
use Rattle.chan_model.specs.Signals.{Down, Load, Up}
use Rattle.chan_model.specs.declared.signal.Down.TheVariants as down
use Rattle.chan_model.specs.declared.signal.OnPath.{OnPath}
use Rattle.chan_model.specs.declared.signal.Up.TheVariants as up
use Rattle.chan_model.specs.declared.unit_state.CurrentCommand.{CurrentCommand}
use Rattle.chan_model.specs.declared.unit_state.Progress.{Progress}
use Rattle.chan_model.specs.declared.unit_state.Progress.TheVariants as progress
use Rattle.chan_model.specs.declared.unit_state.UnitState.{UnitState}
use Rattle.chan_model.specs.UnitTable.{outcome_of, is_owner, unit_takes, unit_after}
use Rattle.wires.specs.Queues.{queue, taken}
use Rattle.subchannel_model.specs.Sending.{with_any_sent}
use Rattle.run_laws.proofs.Commands.LinkSent.{IsOfHold}
use Rattle.run_laws.proofs.Commands.UnitOrders.{AreOn, IsDown, IsNumbered, on-taken, on-sent, on-first, on-weaker}
use Rattle.run_laws.proofs.Traces.MachineTraces.{silent}
use Rattle.run_laws.proofs.Units.UnitCurrents.{IsCalm, IsEasy, easy-calm, IsHeld, calm-held, select-held, StaysAnswered, took-held, TakesGive, give-held, command-held, IsQuiet, takes-quiet}
use Rattle.run_laws.proofs.Units.UnitActs.{IsGentle, StaysMarked, gentle-held}

-- a command is over at the device
abbrev pub IsEnded : Progress → Type 0
IsEnded progress.New = ⊥
IsEnded progress.Working = ⊥
IsEnded progress.ChannelEnded = Unit {0}
IsEnded progress.Ended = Unit {0}

abbrev pub CurrentClosed : Option CurrentCommand → Type 0
CurrentClosed None = Unit {0}
CurrentClosed (Some x) = IsEnded x.progress

abbrev pub IsClosed : Side → ℕ → UnitState → Type 0
IsClosed side number u = IsHeld side number CurrentClosed u

-- a signal of a program whose number was drawn; of command m of the last one, more is said
abbrev pub IsOfCommand : ℕ → ℕ → ℕ → ℕ → Type 0 → Type 0
IsOfCommand number m t n Q = (t ≤ number) × (t ≡ number → (n ≤ m) × (n ≡ m → Q))

abbrev pub IsGiving : ℕ → ℕ → (ℕ → List ℕ → Type 0) → Down → Type 0
IsGiving number m Q (down.Give bytes t c n s) = IsOfCommand number m t n (Q s bytes)
IsGiving number m Q d = Unit {0}

abbrev pub IsTelling : ℕ → ℕ → (ℕ → Load → Type 0) → Type 0 → Up → Type 0
IsTelling number m R E (up.Data l t c n s) = IsOfCommand number m t n (R s l)
IsTelling number m R E (up.End t n status more) = IsOfCommand number m t n E
IsTelling number m R E x = Unit {0}

pub record IsWired (side : Side) (number m : ℕ) (P : Option CurrentCommand → Type 0) (Q : ℕ → List ℕ → Type 0) (R : ℕ → Load → Type 0) (down_wires : List (List Down)) (up_wires : List (List Up)) (u : UnitState) : Type 0 where
  pub hand : IsHeld side number P u
  pub gives : AreOn (IsGiving number m Q) down_wires
  pub tells : AreOn (IsTelling number m R (IsClosed side number u)) up_wires

-- another claim of each
giving-other : (number m after i : ℕ) (Q W : ℕ → List ℕ → Type 0) → ((t n s : ℕ) (bytes : List ℕ) → IsOfCommand number m t n (Q s bytes) → IsOfCommand after i t n (W s bytes)) →
    (d : Down) → IsGiving number m Q d → IsGiving after i W d
giving-other number m after i Q W f (down.Give bytes t c n s) h = f t n s bytes h
giving-other number m after i Q W f d h = tt

telling-other : (number m after i : ℕ) (R W : ℕ → Load → Type 0) (E F : Type 0) →
    ((t n s : ℕ) (l : Load) → IsOfCommand number m t n (R s l) → IsOfCommand after i t n (W s l)) → ((t n : ℕ) → IsOfCommand number m t n E → IsOfCommand after i t n F) →
    (x : Up) → IsTelling number m R E x → IsTelling after i W F x
telling-other number m after i R W E F f g (up.Data l t c n s) h = f t n s l h
telling-other number m after i R W E F f g (up.End t n status more) h = g t n h
telling-other number m after i R W E F f g x h = tt

same-command : (number m t n : ℕ) (A B : Type 0) → (A → B) → IsOfCommand number m t n A → IsOfCommand number m t n B
same-command number m t n A B f h = (h.0, λ e. let k = h.1 e in (k.0, λ i. f (k.1 i)))

-- a later command
next-command : (number m t n : ℕ) (A B : Type 0) → IsOfCommand number m t n A → IsOfCommand number (m + 1) t n B
next-command number m t n A B h = (h.0, λ e. let k = h.1 e in (omega (arith, k.0), λ i. absurd (omega (arith, i, k.0))))

-- a later program
next-program : (number after m i t n : ℕ) (A B : Type 0) → number < after → IsOfCommand number m t n A → IsOfCommand after i t n B
next-program number after m i t n A B l h = (omega (arith, h.0, l), λ e. absurd (omega (arith, h.0, l, e)))

-- the subsystem does something: its claims change
pub wired-holds : (side : Side) (number m : ℕ) (P W : Option CurrentCommand → Type 0) (Q X : ℕ → List ℕ → Type 0) (R Y : ℕ → Load → Type 0) (downs : List (List Down)) (ups : List (List Up)) (u : UnitState)
    (one : Option (OnPath Down)) (path : ℕ) → ((h : Option CurrentCommand) → P h → W h) → ((s : ℕ) (bytes : List ℕ) → Q s bytes → X s bytes) → ((s : ℕ) (l : Load) → R s l → Y s l) →
    IfSome one (λ d. IsGiving number m X d.signal) → IsWired side number m P Q R downs ups u → IsWired side number m W X Y (with_any_sent downs one) (taken ups path) u
wired-holds side number m P W Q X R Y downs ups u one path f g h s k = record {
  hand = λ o. f u.current (k.hand o);
  gives = on-sent (IsGiving number m X) downs one
      (on-weaker (IsGiving number m Q) (IsGiving number m X) downs
      (giving-other number m number m Q X (λ t n s bytes. same-command number m t n (Q s bytes) (X s bytes) (g s bytes))) k.gives) s;
  tells = on-taken (IsTelling number m Y (IsClosed side number u)) ups path
      (on-weaker (IsTelling number m R (IsClosed side number u)) (IsTelling number m Y (IsClosed side number u)) ups
      (telling-other number m number m R Y (IsClosed side number u) (IsClosed side number u) (λ t n s l. same-command number m t n (R s l) (Y s l) (h s l)) (λ t n x. x)) k.tells);
}

-- the subsystem sends something of itself
pub wired-sends : (side : Side) (number m : ℕ) (P : Option CurrentCommand → Type 0) (Q : ℕ → List ℕ → Type 0) (R : ℕ → Load → Type 0) (downs : List (List Down)) (ups : List (List Up)) (u : UnitState)
    (one : Option (OnPath Down)) → IfSome one (λ d. IsGiving number m Q d.signal) → IsWired side number m P Q R downs ups u → IsWired side number m P Q R (with_any_sent downs one) ups u
wired-sends side number m P Q R downs ups u one s k = record { hand = k.hand; gives = on-sent (IsGiving number m Q) downs one k.gives s; tells = k.tells }

-- a greater number is drawn
pub wired-offers : (side : Side) (drawn number after m : ℕ) (took : List ℕ) (P W : Option CurrentCommand → Type 0) (Q X : ℕ → List ℕ → Type 0) (R Y : ℕ → Load → Type 0) (downs : List (List Down)) (ups : List (List Up))
    (u : UnitState) (path : ℕ) → number ≤ drawn → drawn < after → IsNumbered side drawn number took u → IsWired side number m P Q R downs ups u →
    IsWired side after 0 W X Y (with_any_sent downs (Some (record { path = path; signal = down.Select after }))) ups u
wired-offers side drawn number after m took P W Q X R Y downs ups u path le lt n k = record {
  hand = λ o. absurd (omega (arith, n.named after o, le, lt));
  gives = on-sent (IsGiving after 0 X) downs (Some (record { path = path; signal = down.Select after }))
      (on-weaker (IsGiving number m Q) (IsGiving after 0 X) downs (giving-other number m after 0 Q X (λ t i s bytes. next-program number after m 0 t i (Q s bytes) (X s bytes) (omega (arith, le, lt)))) k.gives) tt;
  tells = on-weaker (IsTelling number m R (IsClosed side number u)) (IsTelling after 0 Y (IsClosed side after u)) ups
      (telling-other number m after 0 R Y (IsClosed side number u) (IsClosed side after u) (λ t i s x. next-program number after m 0 t i (R s x) (Y s x) (omega (arith, le, lt)))
      (λ t i. next-program number after m 0 t i (IsClosed side number u) (IsClosed side after u) (omega (arith, le, lt)))) k.tells;
}

-- the unit is calm
pub wired-calm : (side : Side) (number m : ℕ) (P : Option CurrentCommand → Type 0) (Q : ℕ → List ℕ → Type 0) (R : ℕ → Load → Type 0) (downs : List (List Down)) (ups : List (List Up)) (u v : UnitState) →
    IsCalm side u v → IsWired side number m P Q R downs ups u → IsWired side number m P Q R downs ups v
wired-calm side number m P Q R downs ups u v c k = record {
  hand = calm-held side number P u v c k.hand;
  gives = k.gives;
  tells = on-weaker (IsTelling number m R (IsClosed side number u)) (IsTelling number m R (IsClosed side number v)) ups
      (telling-other number m number m R R (IsClosed side number u) (IsClosed side number v) (λ t n s l x. x)
      (λ t n. same-command number m t n (IsClosed side number u) (IsClosed side number v) (calm-held side number CurrentClosed u v c))) k.tells;
}

-- a signal to the unit, of its own side
quiet-telling : (number m : ℕ) (R : ℕ → Load → Type 0) (E : Type 0) (x : Up) → IsQuiet x → IsTelling number m R E x
quiet-telling number m R E (up.Data l t c n s) h = absurd h
quiet-telling number m R E (up.End t n status more) h = absurd h
quiet-telling number m R E x h = tt

quiet-sent : (number m : ℕ) (R : ℕ → Load → Type 0) (E : Type 0) (one : Option (OnPath Up)) → IfSome one (λ x. IsQuiet x.signal) → IfSome one (λ x. IsTelling number m R E x.signal)
quiet-sent number m R E None h = tt
quiet-sent number m R E (Some x) h = quiet-telling number m R E x.signal h

-- what the unit does of itself
pub closed-marked : StaysMarked CurrentClosed
closed-marked None h = h
closed-marked (Some x) h = h

pub wired-gentle : (side : Side) (number m : ℕ) (P : Option CurrentCommand → Type 0) (Q : ℕ → List ℕ → Type 0) (R : ℕ → Load → Type 0) (downs : List (List Down)) (ups : List (List Up)) (u v : UnitState)
    (one : Option (OnPath Up)) → IsGentle side u v → StaysMarked P → IfSome one (λ x. IsQuiet x.signal) → IsWired side number m P Q R downs ups u →
    IsWired side number m P Q R downs (with_any_sent ups one) v
wired-gentle side number m P Q R downs ups u v one g marked q k = record {
  hand = gentle-held side number P u v g marked k.hand;
  gives = k.gives;
  tells = on-sent (IsTelling number m R (IsClosed side number v)) ups one
      (on-weaker (IsTelling number m R (IsClosed side number u)) (IsTelling number m R (IsClosed side number v)) ups
      (telling-other number m number m R R (IsClosed side number u) (IsClosed side number v) (λ t n s l x. x)
      (λ t n. same-command number m t n (IsClosed side number u) (IsClosed side number v) (gentle-held side number CurrentClosed u v g closed-marked))) k.tells)
      (quiet-sent number m R (IsClosed side number v) one q);
}

closed-answered : StaysAnswered CurrentClosed
closed-answered x l room h = h

closed-gives : (s : ℕ) (bytes : List ℕ) → TakesGive CurrentClosed s bytes
closed-gives s bytes x e h = h

-- no Command of the program is taken
abbrev pub IsNoNext : ℕ → Down → Bool → Type 0
IsNoNext number (down.Command t n code room) outcome = t ≡ number → outcome ≡ false
IsNoNext number d outcome = Unit {0}

abbrev pub IsAnswered : (may : Bool) → Side → ℕ → UnitState → ℕ → Down → Type 0
IsAnswered may side number u p d = IsNoNext number d (silent (outcome_of (unit_takes u side p d may)))

easy-held : (may : Bool) → (side : Side) (number : ℕ) (P : Option CurrentCommand → Type 0) (u : UnitState) (p : ℕ) (d : Down) → IsEasy d → IsHeld side number P u →
    IsHeld side number P (unit_after u (unit_takes u side p d may))
easy-held may side number P u p d m h = calm-held side number P u (unit_after u (unit_takes u side p d may)) (easy-calm may side u side p d m) h

module _ (side : Side) (drawn number m sent : ℕ) (codes : List ℕ) (P : Option CurrentCommand → Type 0) (Q : ℕ → List ℕ → Type 0) where
  down-held : (may : Bool) → (u : UnitState) (p : ℕ) (d : Down) → P None → StaysAnswered P → ((s : ℕ) (bytes : List ℕ) → Q s bytes → TakesGive P s bytes) →
      (is_owner u.own side number ≡ true → u.last_command ≡ m) → IsGiving number m Q d → IsDown drawn number sent codes d → IsAnswered may side number u p d → IsHeld side number P u →
      IsHeld side number P (unit_after u (unit_takes u side p d may))
  down-held may u p (down.Select t) z a g l q i n h = select-held may side number P u p t z h
  down-held may u p (down.Command t c code room) z a g l q i n h = command-held may side number P u p t c code room h n
  down-held may u p (down.Took t c s room) z a g l q i n h = took-held may side number P u p t c s room a h
  down-held may u p (down.Give bytes t c e s) z a g l q i n h = give-held may side number P u p t c e s bytes (λ j w o. g s bytes ((q.1 j).1 (w ∙ l o))) h
  down-held may u p d z a g l q i n h = easy-held may side number P u p d tt h

pub wired-takes : (may : Bool) → (side : Side) (drawn number m sent : ℕ) (codes : List ℕ) (P : Option CurrentCommand → Type 0) (Q : ℕ → List ℕ → Type 0) (R : ℕ → Load → Type 0) (downs : List (List Down)) (ups : List (List Up))
    (u : UnitState) (path : ℕ) (d : Down) → slice_get (queue downs path) 0 ≡ Some d → IsDown drawn number sent codes d → P None → StaysAnswered P →
    ((s : ℕ) (bytes : List ℕ) → Q s bytes → TakesGive P s bytes) → (is_owner u.own side number ≡ true → u.last_command ≡ m) →
    IsAnswered may side number u path d → IsWired side number m P Q R downs ups u →
    IsWired side number m P Q R (taken downs path) (with_any_sent ups (outcome_of (unit_takes u side path d may)).sent) (unit_after u (unit_takes u side path d may))
wired-takes may side drawn number m sent codes P Q R downs ups u path d e i z a g l n k =
    let v : UnitState = unit_after u (unit_takes u side path d may) in
    let one : Option (OnPath Up) = (outcome_of (unit_takes u side path d may)).sent in
    let q : IsGiving number m Q d = on-first (IsGiving number m Q) downs path d k.gives e in
    let closes : IsClosed side number u → IsClosed side number v =
    λ c. down-held side drawn number m sent codes CurrentClosed Q may u path d tt closed-answered (λ s bytes x. closed-gives s bytes) l q i n c in
    record {
      hand = down-held side drawn number m sent codes P Q may u path d z a g l q i n k.hand;
      gives = on-taken (IsGiving number m Q) downs path k.gives;
      tells = on-sent (IsTelling number m R (IsClosed side number v)) ups one
          (on-weaker (IsTelling number m R (IsClosed side number u)) (IsTelling number m R (IsClosed side number v)) ups
          (telling-other number m number m R R (IsClosed side number u) (IsClosed side number v) (λ t c s x y. y)
          (λ t c. same-command number m t c (IsClosed side number u) (IsClosed side number v) closes)) k.tells)
          (quiet-sent number m R (IsClosed side number v) one (takes-quiet may u side path d));
    }

-- the next Command of the program is taken
pub wired-next : (side : Side) (number m : ℕ) (P W : Option CurrentCommand → Type 0) (Q X : ℕ → List ℕ → Type 0) (R Y : ℕ → Load → Type 0) (downs : List (List Down)) (ups : List (List Up))
    (u v : UnitState) (path : ℕ) → W v.current → IsWired side number m P Q R downs ups u → IsWired side number (m + 1) W X Y (taken downs path) ups v
wired-next side number m P W Q X R Y downs ups u v path w k = record {
  hand = λ o. w;
  gives = on-taken (IsGiving number (m + 1) X) downs path
      (on-weaker (IsGiving number m Q) (IsGiving number (m + 1) X) downs (giving-other number m number (m + 1) Q X (λ t n s bytes. next-command number m t n (Q s bytes) (X s bytes))) k.gives);
  tells = on-weaker (IsTelling number m R (IsClosed side number u)) (IsTelling number (m + 1) Y (IsClosed side number v)) ups
      (telling-other number m number (m + 1) R Y (IsClosed side number u) (IsClosed side number v) (λ t n s l. next-command number m t n (R s l) (Y s l))
      (λ t n. next-command number m t n (IsClosed side number u) (IsClosed side number v))) k.tells;
}

-- the unit tells of its command
pub wired-tells : (side : Side) (number m : ℕ) (P W : Option CurrentCommand → Type 0) (Q : ℕ → List ℕ → Type 0) (R Y : ℕ → Load → Type 0) (downs : List (List Down)) (ups : List (List Up))
    (u v : UnitState) (one : Option (OnPath Up)) → IsHeld side number W v → ((s : ℕ) (l : Load) → R s l → Y s l) → (IsClosed side number u → IsClosed side number v) →
    IfSome one (λ x. IsTelling number m Y (IsClosed side number v) x.signal) → IsWired side number m P Q R downs ups u → IsWired side number m W Q Y downs (with_any_sent ups one) v
wired-tells side number m P W Q R Y downs ups u v one w h c s k = record {
  hand = w;
  gives = k.gives;
  tells = on-sent (IsTelling number m Y (IsClosed side number v)) ups one
      (on-weaker (IsTelling number m R (IsClosed side number u)) (IsTelling number m Y (IsClosed side number v)) ups
      (telling-other number m number m R Y (IsClosed side number u) (IsClosed side number v) (λ t n s l. same-command number m t n (R s l) (Y s l) (h s l))
      (λ t n. same-command number m t n (IsClosed side number u) (IsClosed side number v) c)) k.tells) s;
}

pub first-tells : (side : Side) (number m : ℕ) (P : Option CurrentCommand → Type 0) (Q : ℕ → List ℕ → Type 0) (R : ℕ → Load → Type 0) (downs : List (List Down)) (ups : List (List Up)) (u : UnitState)
    (path : ℕ) (x : Up) → slice_get (queue ups path) 0 ≡ Some x → IsWired side number m P Q R downs ups u → IsTelling number m R (IsClosed side number u) x
first-tells side number m P Q R downs ups u path x e k = on-first (IsTelling number m R (IsClosed side number u)) ups path x k.tells e

-- the signals of the hold alone give nothing
giving-hold : (number m : ℕ) (Q : ℕ → List ℕ → Type 0) (d : Down) → IsOfHold d → IsGiving number m Q d
giving-hold number m Q (down.Grant t c) h = tt
giving-hold number m Q (down.Refuse t c) h = tt
giving-hold number m Q (down.Halt t) h = tt
giving-hold number m Q (down.Release t) h = tt
giving-hold number m Q (down.Got a) h = tt
giving-hold number m Q d h = absurd h

pub sent-hold : (number m : ℕ) (Q : ℕ → List ℕ → Type 0) (one : Option (OnPath Down)) → IfSome one (λ d. IsOfHold d.signal) → IfSome one (λ d. IsGiving number m Q d.signal)
sent-hold number m Q None h = tt
sent-hold number m Q (Some d) h = giving-hold number m Q d.signal h
