-- The commands that a unit takes of one side, in the order of the program that was offered last.
use Rattle.std.proofs.Common.{◌≡◌, refl, sym, ◌∙◌, ap, subst, ℕ, zero, suc, ◌+◌, ◌≤◌, ◌<◌, Bool, true, false, ◌==◌, ◌&&◌, ◌||◌, nat_lt, length, Option, None, Some, List, [], ◌∷◌, ◌++◌, append_assoc, length-append, arith}
use Rattle.std.specs.Prelude.{if◌then◌else◌, drop, slice_get, slice_set, All, IfSome}
use Rattle.std.proofs.lemmas.Bool.{eqb-true, eq-eqb, ltb-true, and_parts}
use Rattle.std.proofs.lemmas.List.{append-nil}
use Rattle.std.proofs.lemmas.List.Elements.{All-weaker, All-push, All-drop}
use Rattle.std.proofs.lemmas.Option.{slice_get_within, get_or_from_slice_get}
use Rattle.chan_model.specs.declared.names.Side.{Side}
use Rattle.chan_model.specs.declared.names.Side.TheVariants.{First, Second}
use Rattle.chan_model.specs.Signals.{Down}
use Rattle.chan_model.specs.declared.signal.Down.TheVariants as down
use Rattle.chan_model.specs.declared.signal.OnPath.{OnPath}
use Rattle.chan_model.specs.declared.signal.Up.TheVariants as up
use Rattle.chan_model.specs.declared.unit_state.CurrentCommand.{CurrentCommand}
use Rattle.chan_model.specs.declared.unit_state.Own.{Own}
use Rattle.chan_model.specs.declared.unit_state.Own.TheVariants as own
use Rattle.chan_model.specs.declared.unit_state.Connection.{Connection}
use Rattle.chan_model.specs.declared.unit_state.Connection.TheVariants.{On}
use Rattle.chan_model.specs.declared.unit_state.SideState.{SideState}
use Rattle.chan_model.specs.declared.unit_state.UnitState.{UnitState}
use Rattle.chan_model.specs.Sides.{same_side}
use Rattle.chan_model.specs.UnitTable.{resets, UnitStep, outcome_of, changes, sends, new_command, side_of, with_side, owns, is_owner, freed, raised, selected, telling, unit_works, unit_takes, unit_after, held, reset_side, without_side}
use Rattle.wires.specs.Queues.{queue, taken}
use Rattle.subchannel_model.specs.Sending.{with_any_sent}
use Rattle.run_laws.proofs.Traces.MachineTraces.{silent}
use Rattle.run_laws.proofs.Units.UnitSides.{same-sides, side-own, IsStill, IsMild, mild-still}

-- the n-th of the codes, of which the latest stands first
pub record IsNth (codes : List ℕ) (n code : ℕ) : Type 0 where
  pub later : List ℕ
  pub mid : List ℕ
  pub list : codes ≡ later ++ (code ∷ mid)
  pub count : length mid + 1 ≡ n

-- a signal to the unit: its program's number is at most that of the last offer, the number of a Reset at most the last that
-- was drawn, and a Command of this program is of the codes
abbrev pub IsCommanded : ℕ → ℕ → List ℕ → ℕ → ℕ → ℕ → Type 0
IsCommanded number sent codes t n code = (t ≤ number) × (t ≡ number → (n ≤ sent) × IsNth codes n code)

abbrev pub IsDown : ℕ → ℕ → ℕ → List ℕ → Down → Type 0
IsDown drawn number sent codes (down.Select t) = t ≤ number
IsDown drawn number sent codes (down.Command t n code room) = IsCommanded number sent codes t n code
IsDown drawn number sent codes (down.Reset r b) = r ≤ drawn
IsDown drawn number sent codes d = Unit {0}

abbrev pub AreOn : {A : Type 0} → (A → Type 0) → List (List A) → Type 0
AreOn P queues = (p : ℕ) → All P (queue queues p)

-- what a unit keeps of a side whose last offer has this number, and how many commands of it it took
pub record IsNumbered (side : Side) (drawn number : ℕ) (took : List ℕ) (u : UnitState) : Type 0 where
  pub fresh : (side_of u side).fresh ≡ true → (t : ℕ) → is_owner u.own side t ≡ true → ⊥
  pub floor : (side_of u side).floor ≤ drawn
  pub new : (side_of u side).floor < number → took ≡ []
  pub owned : (t : ℕ) → is_owner u.own side t ≡ true → t ≤ (side_of u side).floor
  pub named : (t : ℕ) → is_owner u.own side t ≡ true → t ≤ number
  pub last : is_owner u.own side number ≡ true → u.last_command ≡ length took

pub record IsOrdered (side : Side) (drawn number sent : ℕ) (codes took : List ℕ) (wires : List (List Down)) (u : UnitState) : Type 0 where
  pub later : List ℕ
  pub order : codes ≡ later ++ took
  pub most : length took ≤ sent
  pub downs : AreOn (IsDown drawn number sent codes) wires
  pub kept : IsNumbered side drawn number took u

-- queues
pub queue-set : {A : Type 0} (P : A → Type 0) (queues : List (List A)) (k : ℕ) (xs : List A) → AreOn P queues → All P xs → AreOn P (slice_set queues k xs)
queue-set P [] k xs all h p = all p
queue-set P (ys ∷ queues) zero xs all h zero = h
queue-set P (ys ∷ queues) zero xs all h (suc p) = all (suc p)
queue-set P (ys ∷ queues) (suc k) xs all h zero = all zero
queue-set P (ys ∷ queues) (suc k) xs all h (suc p) = queue-set P queues k xs (λ n. all (suc n)) h p

pub on-taken : {A : Type 0} (P : A → Type 0) (queues : List (List A)) (k : ℕ) → AreOn P queues → AreOn P (taken queues k)
on-taken P queues k a = queue-set P queues k (drop 1 (queue queues k)) a (All-drop P 1 (queue queues k) (a k))

pub on-sent : {A : Type 0} (P : A → Type 0) (queues : List (List A)) (one : Option (OnPath A)) → AreOn P queues → IfSome one (λ x. P x.signal) → AreOn P (with_any_sent queues one)
on-sent P queues None a h = a
on-sent P queues (Some s) a h = queue-set P queues s.path (queue queues s.path ++ s.signal ∷ []) a (All-push P (queue queues s.path) s.signal (a s.path) h)

pub on-first : {A : Type 0} (P : A → Type 0) (queues : List (List A)) (k : ℕ) (x : A) → AreOn P queues → slice_get (queue queues k) 0 ≡ Some x → P x
on-first P queues k x a e = subst P (get_or_from_slice_get (queue queues k) 0 x x e) (a k 0 x (slice_get_within (queue queues k) 0 x e))

pub on-weaker : {A : Type 0} (P Q : A → Type 0) (queues : List (List A)) → ((x : A) → P x → Q x) → AreOn P queues → AreOn Q queues
on-weaker P Q queues f a p = All-weaker P Q f (queue queues p) (a p)

-- the codes grow
nth-more : (more codes : List ℕ) (n code : ℕ) → IsNth codes n code → IsNth (more ++ codes) n code
nth-more more codes n code k = record {
  later = more ++ k.later;
  mid = k.mid;
  list = ap (λ xs. more ++ xs) k.list ∙ sym (append_assoc more k.later (code ∷ k.mid));
  count = k.count;
}

-- where the numbers do not fall, and a Command is still of the codes
down-later : (drawn later number next sent after : ℕ) (codes news : List ℕ) (d : Down) → drawn ≤ later → number ≤ next →
    ((t n code : ℕ) → IsCommanded number sent codes t n code → IsCommanded next after news t n code) → IsDown drawn number sent codes d → IsDown later next after news d
down-later drawn later number next sent after codes news (down.Select t) reset program command h = omega (arith, program, h)
down-later drawn later number next sent after codes news (down.Command t n code room) reset program command h = command t n code h
down-later drawn later number next sent after codes news (down.Grant t c) reset program command h = tt
down-later drawn later number next sent after codes news (down.Refuse t c) reset program command h = tt
down-later drawn later number next sent after codes news (down.Took t n s room) reset program command h = tt
down-later drawn later number next sent after codes news (down.Give bytes t c n s) reset program command h = tt
down-later drawn later number next sent after codes news (down.Halt t) reset program command h = tt
down-later drawn later number next sent after codes news (down.Release t) reset program command h = tt
down-later drawn later number next sent after codes news (down.Reset r b) reset program command h = omega (arith, reset, h)
down-later drawn later number next sent after codes news (down.Got a) reset program command h = tt

down-more : (drawn number sent after : ℕ) (more codes : List ℕ) (d : Down) → sent ≤ after → IsDown drawn number sent codes d → IsDown drawn number after (more ++ codes) d
down-more drawn number sent after more codes d le h =
    down-later drawn drawn number number sent after codes (more ++ codes) d (omega arith) (omega arith)
    (λ t n code h. (h.0, λ e. let k = h.1 e in (omega (arith, k.0, le), nth-more more codes n code k.1))) h

-- the hold sends something, or nothing, as the codes grow or stay
pub hold-sends : (side : Side) (drawn number sent after : ℕ) (codes more took : List ℕ) (wires : List (List Down)) (u : UnitState) (one : Option (OnPath Down)) →
    IsOrdered side drawn number sent codes took wires u → sent ≤ after → IfSome one (λ x. IsDown drawn number after (more ++ codes) x.signal) →
    IsOrdered side drawn number after (more ++ codes) took (with_any_sent wires one) u
hold-sends side drawn number sent after codes more took wires u one k le h = record {
  later = more ++ k.later;
  order = ap (λ xs. more ++ xs) k.order ∙ sym (append_assoc more k.later took);
  most = omega (arith, le, k.most);
  downs = on-sent (IsDown drawn number after (more ++ codes)) wires one
      (on-weaker (IsDown drawn number sent codes) (IsDown drawn number after (more ++ codes)) wires (λ d h. down-more drawn number sent after more codes d le h) k.downs) h;
  kept = k.kept;
}

-- before the first Command there is none on the wires, and the codes may be any
down-first : (drawn number after : ℕ) (codes news : List ℕ) (d : Down) → IsDown drawn number 0 codes d → IsDown drawn number after news d
down-first drawn number after codes news d h =
    down-later drawn drawn number number 0 after codes news d (omega arith) (omega arith) (λ t n code h. (h.0, λ e. let k = h.1 e in absurd (omega (arith, k.0, k.1.count)))) h

none-took : (took : List ℕ) → length took ≤ 0 → took ≡ []
none-took [] le = refl
none-took (x ∷ xs) le = absurd (omega (arith, le))

pub hold-begins : (side : Side) (drawn number after : ℕ) (codes news took : List ℕ) (wires : List (List Down)) (u : UnitState) (one : Option (OnPath Down)) →
    IsOrdered side drawn number 0 codes took wires u → IfSome one (λ x. IsDown drawn number after news x.signal) → IsOrdered side drawn number after news took (with_any_sent wires one) u
hold-begins side drawn number after codes news took wires u one k h = record {
  later = news;
  order = sym (append-nil news) ∙ ap (λ xs. news ++ xs) (sym (none-took took k.most));
  most = let le : length took ≤ 0 = k.most in omega (arith, le);
  downs = on-sent (IsDown drawn number after news) wires one
      (on-weaker (IsDown drawn number 0 codes) (IsDown drawn number after news) wires (λ d h. down-first drawn number after codes news d h) k.downs) h;
  kept = k.kept;
}

-- a greater number is drawn
down-new : (drawn number sent after : ℕ) (codes : List ℕ) (d : Down) → number ≤ drawn → drawn < after → IsDown drawn number sent codes d → IsDown after after 0 [] d
down-new drawn number sent after codes d le lt h =
    down-later drawn after number after sent 0 codes [] d (omega (arith, lt)) (omega (arith, le, lt)) (λ t n code h. (omega (arith, h.0, le, lt), λ e. absurd (omega (arith, h.0, e, le, lt)))) h

pub hold-offers : (side : Side) (drawn number sent after : ℕ) (codes took : List ℕ) (wires : List (List Down)) (u : UnitState) (path : ℕ) → number ≤ drawn → drawn < after →
    IsOrdered side drawn number sent codes took wires u → IsOrdered side after after 0 [] [] (with_any_sent wires (Some (record { path = path; signal = down.Select after }))) u
hold-offers side drawn number sent after codes took wires u path le lt k = record {
  later = [];
  order = refl;
  most = omega arith;
  downs = on-sent (IsDown after after 0 []) wires (Some (record { path = path; signal = down.Select after }))
      (on-weaker (IsDown drawn number sent codes) (IsDown after after 0 []) wires (λ d h. down-new drawn number sent after codes d le lt h) k.downs) (omega arith);
  kept = record {
    fresh = k.kept.fresh;
    floor = omega (arith, k.kept.floor, lt);
    new = λ l. refl;
    owned = k.kept.owned;
    named = λ t e. omega (arith, k.kept.named t e, le, lt);
    last = λ e. absurd (omega (arith, k.kept.named after e, le, lt));
  };
}

-- a number is drawn for a Reset
down-drawn : (drawn later number sent : ℕ) (codes : List ℕ) (d : Down) → drawn ≤ later → IsDown drawn number sent codes d → IsDown later number sent codes d
down-drawn drawn later number sent codes d le h = down-later drawn later number number sent sent codes codes d le (omega arith) (λ t n code h. h) h

pub hold-draws : (side : Side) (drawn later number sent : ℕ) (codes took : List ℕ) (wires : List (List Down)) (u : UnitState) → drawn ≤ later →
    IsOrdered side drawn number sent codes took wires u → IsOrdered side later number sent codes took wires u
hold-draws side drawn later number sent codes took wires u le k = record {
  later = k.later;
  order = k.order;
  most = k.most;
  downs = on-weaker (IsDown drawn number sent codes) (IsDown later number sent codes) wires (λ d h. down-drawn drawn later number sent codes d le h) k.downs;
  kept = record { fresh = k.kept.fresh; floor = omega (arith, k.kept.floor, le); new = k.kept.new; owned = k.kept.owned; named = k.kept.named; last = k.kept.last };
}

-- the unit is still
pub numbered-still : (side : Side) (drawn number : ℕ) (took : List ℕ) (u v : UnitState) → IsStill side u v → IsNumbered side drawn number took u → IsNumbered side drawn number took v
numbered-still side drawn number took u v s k = record {
  fresh = λ f t e. k.fresh (ap (λ (x : SideState). x.fresh) (sym s.side_state) ∙ f) t (s.owner t e).0;
  floor = subst (λ (x : SideState). x.floor ≤ drawn) (sym s.side_state) k.floor;
  new = subst (λ (x : SideState). x.floor < number → took ≡ []) (sym s.side_state) k.new;
  owned = λ t e. subst (λ (x : SideState). t ≤ x.floor) (sym s.side_state) (k.owned t (s.owner t e).0);
  named = λ t e. k.named t (s.owner t e).0;
  last = λ e. let f = s.owner number e in f.1 ∙ k.last f.0;
}

pub ordered-still : (side : Side) (drawn number sent : ℕ) (codes took : List ℕ) (wires : List (List Down)) (u v : UnitState) → IsStill side u v →
    IsOrdered side drawn number sent codes took wires u → IsOrdered side drawn number sent codes took wires v
ordered-still side drawn number sent codes took wires u v s k =
    record { later = k.later; order = k.order; most = k.most; downs = k.downs; kept = numbered-still side drawn number took u v s k.kept }

-- Select
same-owner : (side : Side) (t n : ℕ) (connection : Connection) → is_owner (own.Owned side t connection) side n ≡ true → n ≡ t
same-owner First t n connection e = eqb-true n t e
same-owner Second t n connection e = eqb-true n t e

here-side : (side : Side) (u : UnitState) (s : SideState) → side_of (with_side u side s) side ≡ s
here-side First u s = refl
here-side Second u s = refl

raised-own : (side : Side) (u : UnitState) (t : ℕ) → (raised u side t).own ≡ u.own
raised-own First u t = refl
raised-own Second u t = refl

raised-last : (side : Side) (u : UnitState) (t : ℕ) → (raised u side t).last_command ≡ u.last_command
raised-last First u t = refl
raised-last Second u t = refl

held-side : (side : Side) (u : UnitState) (t p : ℕ) → side_of (held (raised u side t) side t p) side ≡ record (side_of u side) { floor = t }
held-side First u t p = refl
held-side Second u t p = refl

-- the floor is raised, and the owner stays
raised-numbered : (side : Side) (drawn number : ℕ) (took : List ℕ) (u : UnitState) (t : ℕ) → number ≤ drawn → t ≤ number → (side_of u side).floor < t → IsNumbered side drawn number took u →
    IsNumbered side drawn number took (raised u side t)
raised-numbered side drawn number took u t most le lt k = record {
  fresh = λ f n e. k.fresh (ap (λ (x : SideState). x.fresh) (sym (here-side side u (record (side_of u side) { floor = t }))) ∙ f) n (ap (λ (x : Own). is_owner x side n) (sym (raised-own side u t)) ∙ e);
  floor = subst (λ (x : SideState). x.floor ≤ drawn) (sym (here-side side u (record (side_of u side) { floor = t }))) (omega (arith, le, most));
  new = λ l. k.new (omega (arith, le, lt));
  owned = λ n e. subst (λ (x : SideState). n ≤ x.floor) (sym (here-side side u (record (side_of u side) { floor = t })))
      (omega (arith, lt, k.owned n (ap (λ (x : Own). is_owner x side n) (sym (raised-own side u t)) ∙ e)));
  named = λ n e. k.named n (ap (λ (x : Own). is_owner x side n) (sym (raised-own side u t)) ∙ e);
  last = λ e. raised-last side u t ∙ k.last (ap (λ (x : Own). is_owner x side number) (sym (raised-own side u t)) ∙ e);
}

held-numbered : (side : Side) (drawn number : ℕ) (took : List ℕ) (u : UnitState) (t p : ℕ) → (side_of u side).fresh ≡ false → number ≤ drawn → t ≤ number → (side_of u side).floor < t → IsNumbered side drawn number took u →
    IsNumbered side drawn number took (held (raised u side t) side t p)
held-numbered side drawn number took u t p old most le lt k = record {
  fresh = λ f n e. absurd (cc (sym (ap (λ (x : SideState). x.fresh) (held-side side u t p) ∙ old) ∙ f));
  floor = subst (λ (x : SideState). x.floor ≤ drawn) (sym (held-side side u t p)) (omega (arith, le, most));
  new = λ l. k.new (omega (arith, le, lt));
  owned = λ n e. subst (λ (x : SideState). n ≤ x.floor) (sym (held-side side u t p)) (let s : n ≡ t = same-owner side t n (On p 0) e in omega (arith, s));
  named = λ n e. let s : n ≡ t = same-owner side t n (On p 0) e in omega (arith, s, le);
  last = λ e. let s : number ≡ t = same-owner side t number (On p 0) e in sym (ap length (k.new (omega (arith, lt, s))));
}

selected-numbered : (side : Side) (drawn number : ℕ) (took : List ℕ) (u : UnitState) (o : Own) (p t : ℕ) (may : Bool) → (side_of u side).fresh ≡ false → number ≤ drawn → t ≤ number → (side_of u side).floor < t →
    IsNumbered side drawn number took u → IsNumbered side drawn number took (unit_after u (selected (raised u side t) o side p t may))
selected-numbered side drawn number took u own.Idle p t true old most le lt k = held-numbered side drawn number took u t p old most le lt k
selected-numbered side drawn number took u own.Idle p t false old most le lt k = raised-numbered side drawn number took u t most le lt k
selected-numbered side drawn number took u (own.Owned j v connection) p t may old most le lt k = raised-numbered side drawn number took u t most le lt k

select-numbered : (side : Side) (drawn number : ℕ) (took : List ℕ) (u : UnitState) (p t : ℕ) (may : Bool) (c : Bool) → nat_lt (side_of u side).floor t ≡ c → (side_of u side).fresh ≡ false → number ≤ drawn → t ≤ number →
    IsNumbered side drawn number took u → IsNumbered side drawn number took (unit_after u (if c then selected (raised u side t) u.own side p t may else None))
select-numbered side drawn number took u p t may true e old most le k = selected-numbered side drawn number took u u.own p t may old most le (ltb-true (side_of u side).floor t e) k
select-numbered side drawn number took u p t may false e old most le k = k

-- Command: the next of the codes
pub ends-same : (xs ys p q : List ℕ) → xs ++ p ≡ ys ++ q → length p ≡ length q → p ≡ q
ends-same [] [] p q e l = e
ends-same [] (y ∷ ys) p q e l = let f : length p ≡ length (y ∷ (ys ++ q)) = ap length e in let g : length (ys ++ q) ≡ length ys + length q = length-append ys q in absurd (omega arith)
ends-same (x ∷ xs) [] p q e l = let f : length (x ∷ (xs ++ p)) ≡ length q = ap length e in let g : length (xs ++ p) ≡ length xs + length p = length-append xs p in absurd (omega arith)
ends-same (x ∷ xs) (y ∷ ys) p q e l = ends-same xs ys p q (ap (drop 1) e) l

abbrev pub IsLatest : List ℕ → List ℕ → Type 0
IsLatest codes took = (later : List ℕ) × (codes ≡ later ++ took)

pub takes-next : (codes took : List ℕ) (n code : ℕ) → IsLatest codes took → IsNth codes n code → n ≡ length took + 1 → IsLatest codes (code ∷ took)
takes-next codes took n code o k e =
    let len : length k.mid ≡ length took = omega (arith, k.count, e) in
    let split : (k.later ++ (code ∷ [])) ++ k.mid ≡ o.0 ++ took = append_assoc k.later (code ∷ []) k.mid ∙ sym k.list ∙ o.1 in
    let same : k.mid ≡ took = ends-same (k.later ++ (code ∷ [])) o.0 k.mid took split len in
    (k.later, k.list ∙ ap (λ xs. k.later ++ (code ∷ xs)) same)

-- the unit's state with the next command
abbrev pub next_commanded : UnitState → ℕ → Option CurrentCommand → UnitState
next_commanded u n x = record u { last_command = n; current = x }

pub one-number : (o : Own) (side : Side) (t n : ℕ) → is_owner o side t ≡ true → is_owner o side n ≡ true → t ≡ n
one-number own.Idle side t n e f = absurd (cc e)
one-number (own.Owned k v connection) side t n e f =
    let a : (t == v) ≡ true = (and_parts (same_side k side) (t == v) e).1 in
    let b : (n == v) ≡ true = (and_parts (same_side k side) (n == v) f).1 in
    eqb-true t v a ∙ sym (eqb-true n v b)

commanded-here : (side : Side) (drawn number sent : ℕ) (codes took : List ℕ) (wires : List (List Down)) (u : UnitState) (t n code : ℕ) (x : Option CurrentCommand) (same : Bool) →
    (t == number) ≡ same → is_owner u.own side t ≡ true → n ≡ u.last_command + 1 → IsCommanded number sent codes t n code →
    IsOrdered side drawn number sent codes took wires u → IsOrdered side drawn number sent codes (if same then code ∷ took else took) wires (next_commanded u n x)
commanded-here side drawn number sent codes took wires u t n code x true e o m h k =
    let here : t ≡ number = eqb-true t number e in
    let mine : is_owner u.own side number ≡ true = subst (λ (i : ℕ). is_owner u.own side i ≡ true) here o in
    let last : u.last_command ≡ length took = k.kept.last mine in
    let next : n ≡ length took + 1 = m ∙ ap (λ (i : ℕ). i + 1) last in
    let nth = h.1 here in
    let more : IsLatest codes (code ∷ took) = takes-next codes took n code (k.later, k.order) nth.1 next in
    let le : number ≤ (side_of u side).floor = k.kept.owned number mine in
    record {
      later = more.0;
      order = more.1;
      most = omega (arith, nth.0, next);
      downs = k.downs;
      kept = record {
        fresh = λ f i z. k.kept.fresh (ap (λ (s : SideState). s.fresh) (sym (same-sides side u (next_commanded u n x) refl refl)) ∙ f) i z;
        floor = subst (λ (s : SideState). s.floor ≤ drawn) (sym (same-sides side u (next_commanded u n x) refl refl)) k.kept.floor;
        new = λ l. absurd (let l : (side_of u side).floor < number = subst (λ (s : SideState). s.floor < number) (same-sides side u (next_commanded u n x) refl refl) l in omega (arith, l, le));
        owned = λ i f. subst (λ (s : SideState). i ≤ s.floor) (sym (same-sides side u (next_commanded u n x) refl refl)) (k.kept.owned i f);
        named = k.kept.named;
        last = λ f. omega (arith, next);
      };
    }
commanded-here side drawn number sent codes took wires u t n code x false e o m h k =
    record {
      later = k.later;
      order = k.order;
      most = k.most;
      downs = k.downs;
      kept = record {
        fresh = λ f i z. k.kept.fresh (ap (λ (s : SideState). s.fresh) (sym (same-sides side u (next_commanded u n x) refl refl)) ∙ f) i z;
        floor = subst (λ (s : SideState). s.floor ≤ drawn) (sym (same-sides side u (next_commanded u n x) refl refl)) k.kept.floor;
        new = subst (λ (s : SideState). s.floor < number → took ≡ []) (sym (same-sides side u (next_commanded u n x) refl refl)) k.kept.new;
        owned = λ i f. subst (λ (s : SideState). i ≤ s.floor) (sym (same-sides side u (next_commanded u n x) refl refl)) (k.kept.owned i f);
        named = k.kept.named;
        last = λ f. absurd (let same : t ≡ number = one-number u.own side t number o f in let y : (t == number) ≡ true = eq-eqb t number same in cc);
      };
    }

-- with a signal of its side that is taken, or not
abbrev pub took_after : ℕ → Bool → Down → List ℕ → List ℕ
took_after number true (down.Command t n code room) took = if t == number then code ∷ took else took
took_after number true d took = took
took_after number false d took = took

abbrev pub IsTaken : Side → ℕ → ℕ → ℕ → List ℕ → List ℕ → List (List Down) → UnitState → Down → Option UnitStep → Type 0
IsTaken side drawn number sent codes took wires u d step = IsOrdered side drawn number sent codes (took_after number (silent (outcome_of step)) d took) wires (unit_after u step)

commanded-if : (side : Side) (drawn number sent : ℕ) (codes took : List ℕ) (wires : List (List Down)) (u : UnitState) (t n code room : ℕ) (x : Option CurrentCommand) (owner next : Bool) →
    is_owner u.own side t ≡ owner → (n == u.last_command + 1) ≡ next → IsCommanded number sent codes t n code → IsOrdered side drawn number sent codes took wires u →
    IsTaken side drawn number sent codes took wires u (down.Command t n code room) (if owner && next then changes (next_commanded u n x) else None)
commanded-if side drawn number sent codes took wires u t n code room x true true o e h k =
    commanded-here side drawn number sent codes took wires u t n code x (t == number) refl o (eqb-true n (u.last_command + 1) e) h k
commanded-if side drawn number sent codes took wires u t n code room x true false o e h k = k
commanded-if side drawn number sent codes took wires u t n code room x false next o e h k = k

-- a Reset that is taken is above the floor
abbrev pub IsAbove : UnitState → Side → Down → Type 0
IsAbove u side (down.Reset r b) = resets u side r b ≡ true → (side_of u side).floor < r
IsAbove u side d = Unit {0}

-- a side that is fresh answers
answered-taken : (number : ℕ) (d : Down) (took : List ℕ) (P : List ℕ → Type 0) → P took → P (took_after number false d took)
answered-taken number d took P k = k

old-side : (side : Side) (drawn number sent : ℕ) (codes took : List ℕ) (wires : List (List Down)) (u : UnitState) (p : ℕ) (d : Down) (step : Option UnitStep) (fresh : Bool) →
    (fresh ≡ false → IsTaken side drawn number sent codes took wires u d step) → IsOrdered side drawn number sent codes took wires u → IsTaken side drawn number sent codes took wires u d (if fresh then telling u p else step)
old-side side drawn number sent codes took wires u p d step true f k = answered-taken number d took (λ (l : List ℕ). IsOrdered side drawn number sent codes l wires u) k
old-side side drawn number sent codes took wires u p d step false f k = f refl

mild-took : (number : ℕ) (b : Bool) (d : Down) (took : List ℕ) → IsMild d → took_after number b d took ≡ took
mild-took number true (down.Select t) took m = absurd m
mild-took number true (down.Command t n code room) took m = absurd m
mild-took number true (down.Reset r b) took m = absurd m
mild-took number false d took m = refl
mild-took number true d took m = refl

select-took : (number : ℕ) (b : Bool) (t : ℕ) (took : List ℕ) → took_after number b (down.Select t) took ≡ took
select-took number true t took = refl
select-took number false t took = refl

mild-taken : (may : Bool) → (side : Side) (drawn number sent : ℕ) (codes took : List ℕ) (wires : List (List Down)) (u : UnitState) (p : ℕ) (d : Down) → IsMild d →
    IsOrdered side drawn number sent codes took wires u → IsTaken side drawn number sent codes took wires u d (unit_takes u side p d may)
mild-taken may side drawn number sent codes took wires u p d m k =
    subst (λ (l : List ℕ). IsOrdered side drawn number sent codes l wires (unit_after u (unit_takes u side p d may)))
    (sym (mild-took number (silent (outcome_of (unit_takes u side p d may))) d took m))
    (ordered-still side drawn number sent codes took wires u (unit_after u (unit_takes u side p d may)) (mild-still side u side p d may m) k)

selected-taken : (side : Side) (drawn number sent : ℕ) (codes took : List ℕ) (wires : List (List Down)) (u : UnitState) (t : ℕ) (step : Option UnitStep) →
    IsNumbered side drawn number took (unit_after u step) → IsOrdered side drawn number sent codes took wires u → IsTaken side drawn number sent codes took wires u (down.Select t) step
selected-taken side drawn number sent codes took wires u t step n k =
    subst (λ (l : List ℕ). IsOrdered side drawn number sent codes l wires (unit_after u step)) (sym (select-took number (silent (outcome_of step)) t took))
    (record { later = k.later; order = k.order; most = k.most; downs = k.downs; kept = n })

-- Reset: no program of its side holds the device
unowned : (o : Own) (side : Side) (t : ℕ) → owns o side ≡ false → is_owner o side t ≡ true → ⊥
unowned own.Idle side t e f = absurd (cc f)
unowned (own.Owned k v connection) side t e f = absurd (cc (sym e ∙ (and_parts (same_side k side) (t == v) f).0))

freed-unowned : (side : Side) (u : UnitState) (c : Bool) (t : ℕ) → owns u.own side ≡ c → is_owner (if c then freed u else u).own side t ≡ true → ⊥
freed-unowned side u true t e f = absurd (cc f)
freed-unowned side u false t e f = unowned u.own side t e f

reset-unowned : (side : Side) (u : UnitState) (r t : ℕ) → is_owner (reset_side u side r).own side t ≡ true → ⊥
reset-unowned side u r t e =
    freed-unowned side u (owns u.own side) t refl (ap (λ (x : Own). is_owner x side t) (sym (side-own side (without_side u side) (record { floor = r; fresh = false }))) ∙ e)

reset-numbered : (side : Side) (drawn number : ℕ) (took : List ℕ) (u : UnitState) (r : ℕ) → r ≤ drawn → (side_of u side).floor < r → IsNumbered side drawn number took u →
    IsNumbered side drawn number took (reset_side u side r)
reset-numbered side drawn number took u r le lt k =
    let at : side_of (reset_side u side r) side ≡ record { floor = r; fresh = false } = here-side side (without_side u side) (record { floor = r; fresh = false }) in
    record {
      fresh = λ f t e. reset-unowned side u r t e;
      floor = subst (λ (x : SideState). x.floor ≤ drawn) (sym at) le;
      new = subst (λ (x : SideState). x.floor < number → took ≡ []) (sym at) (λ l. k.new (omega (arith, l, lt)));
      owned = λ t e. absurd (reset-unowned side u r t e);
      named = λ t e. absurd (reset-unowned side u r t e);
      last = λ e. absurd (reset-unowned side u r number e);
    }

reset-by : (side : Side) (drawn number sent : ℕ) (codes took : List ℕ) (wires : List (List Down)) (u : UnitState) (p r b : ℕ) (count fresh above : Bool) → ((count && (fresh || above)) ≡ true → (side_of u side).floor < r) → r ≤ drawn → IsOrdered side drawn number sent codes took wires u →
    IsTaken side drawn number sent codes took wires u (down.Reset r b)
    (if count && (fresh || above) then sends (reset_side u side r) p (up.Cleared r) else (if fresh then telling u p else None))
reset-by side drawn number sent codes took wires u p r b true true above f le k = record {
  later = k.later;
  order = k.order;
  most = k.most;
  downs = k.downs;
  kept = reset-numbered side drawn number took u r le (f refl) k.kept;
}
reset-by side drawn number sent codes took wires u p r b false true above f le k = k
reset-by side drawn number sent codes took wires u p r b true false true f le k = record {
  later = k.later;
  order = k.order;
  most = k.most;
  downs = k.downs;
  kept = reset-numbered side drawn number took u r le (f refl) k.kept;
}
reset-by side drawn number sent codes took wires u p r b true false false f le k = k
reset-by side drawn number sent codes took wires u p r b false false above f le k = k

pub unit-takes : (may : Bool) → (side : Side) (drawn number sent : ℕ) (codes took : List ℕ) (wires : List (List Down)) (u : UnitState) (p : ℕ) (d : Down) → number ≤ drawn → IsDown drawn number sent codes d → IsAbove u side d →
    IsOrdered side drawn number sent codes took wires u → IsTaken side drawn number sent codes took wires u d (unit_takes u side p d may)
unit-takes may side drawn number sent codes took wires u p (down.Select t) most h rises k =
    old-side side drawn number sent codes took wires u p (down.Select t) (unit_works u side p (down.Select t) may) (side_of u side).fresh
    (λ old. selected-taken side drawn number sent codes took wires u t (unit_works u side p (down.Select t) may)
    (select-numbered side drawn number took u p t may (nat_lt (side_of u side).floor t) refl old most h k.kept) k) k
unit-takes may side drawn number sent codes took wires u p (down.Command t n code room) most h rises k =
    old-side side drawn number sent codes took wires u p (down.Command t n code room) (unit_works u side p (down.Command t n code room) may) (side_of u side).fresh
    (λ old. commanded-if side drawn number sent codes took wires u t n code room (Some (new_command p code room)) (is_owner u.own side t) (n == u.last_command + 1) refl refl h k) k
unit-takes may side drawn number sent codes took wires u p (down.Reset r b) most h rises k =
    reset-by side drawn number sent codes took wires u p r b (b == u.restarts) (side_of u side).fresh (nat_lt (side_of u side).floor r) rises h k
unit-takes may side drawn number sent codes took wires u p d most h rises k = mild-taken may side drawn number sent codes took wires u p d tt k
