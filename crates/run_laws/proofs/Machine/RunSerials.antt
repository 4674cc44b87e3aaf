-- Of two TEST SUBCHANNEL of a subchannel that answered 0, the later cleared a greater serial.
use Rattle.std.proofs.Common.{◌≡◌, refl, sym, ◌∙◌, ap, subst, ℕ, zero, suc, ◌<◌, ◌≤◌, ◌==◌, Bool, true, false, not, Option, None, Some, List, [], ◌∷◌, ◌++◌, length, arith, inl, inr}
use Rattle.std.specs.Prelude.{slice_get, slice_set, if◌then◌else◌, ◌&&◌, All, AllPairs, ◌⊎◌}
use Rattle.std.specs.List.{AllZip}
use Rattle.std.proofs.lemmas.Bool.{ltb-true}
use Rattle.std.proofs.lemmas.List.Elements.{All-weaker, All-push}
use Rattle.std.proofs.lemmas.List.Quantifiers.{all_pairs_push}
use Rattle.std.proofs.lemmas.Grind.{flat_map-append}
use Rattle.channel_config.specs.declared.names.SubchannelId.{SubchannelId}
use Rattle.channel_config.specs.Setup.{Setup, set_count}
use Rattle.channel_config.specs.SubchannelWords.{subchannel_named}
use Rattle.chan_events.specs.Events.{Event}
use Rattle.chan_events.specs.declared.event.Event.TheVariants as event
use Rattle.chan_events.specs.declared.event.Instruction.{Instruction}
use Rattle.chan_events.specs.declared.event.Instruction.TheVariants as instruction
use Rattle.chan_model.specs.declared.answer.ConditionCode.{ConditionCode}
use Rattle.chan_model.specs.declared.answer.ConditionCode.TheVariants as code
use Rattle.chan_events.specs.declared.reply.Entry.{Entry}
use Rattle.chan_events.specs.Replies.{Reply}
use Rattle.chan_model.specs.ConditionCodes.{in_order}
use Rattle.subchannel_model.specs.Conditions.{is_operational, condition_of, left_by}
use Rattle.subchannel_model.specs.declared.state.Subchannel.{Subchannel}
use Rattle.interruptions.specs.Requests.{WaitingRequests}
use Rattle.machine_model.specs.State.{State, opening_of}
use Rattle.subchannel_model.specs.Indices.{found_at, is_named, index_in, sub_at, Found, one_later}
use Rattle.subchannel_model.specs.declared.state.SubchannelState.{SubchannelState}
use Rattle.subchannel_model.specs.Test.{ends_suspended, tested_wholly, tested}
use Rattle.subchannel_model.specs.Programs.{without_programs}
use Rattle.machine_model.specs.Results.{with_state}
use Rattle.machine_model.specs.Steps.{Step, Run, Opened, Stepped}
use Rattle.step_laws.specs.Walks.{AreWalks}
use Rattle.run_laws.proofs.Machine.Names.{same-id}
use Rattle.run_laws.specs.StateClaims.{IsLaterSubchannel, is_id, serial_of, serials, is_same_id, serial_at, serial_shown}
use Rattle.run_laws.proofs.Machine.Sound.{AreNumbered}
use Rattle.run_laws.proofs.Machine.RunSound.{SoundSub, one-of, run-sound, step-sets, step-later}
use Rattle.chan_events.specs.Instructions.{subchannel_word}
use Rattle.step_laws.proofs.Indices.{get-set, found-there}
use Rattle.step_laws.proofs.Executed.{IsDone, IsLeft, code_for, reply_of, state_left, done-settled}
use Rattle.step_laws.proofs.Results as turn
use Rattle.step_laws.proofs.Results.{ResultOf, HasResult, step-turn}

-- the indices of subchannels stay
index-stays : (id : SubchannelId) (xs ys : List Subchannel) → AllZip IsLaterSubchannel xs ys → index_in id ys ≡ index_in id xs
index-stays id [] [] z = refl
index-stays id [] (y ∷ ys) z = absurd z
index-stays id (x ∷ xs) [] z = absurd z
index-stays id (x ∷ xs) (y ∷ ys) z =
    ap (λ setup. if (setup.id.set == id.set) && (setup.id.number == id.number) then Some 0 else one_later (index_in id ys)) z.0.setup
    ∙ ap (λ p. if is_named id x then Some 0 else one_later p) (index-stays id xs ys z.1)

-- a subchannel, where there is one, and what a step left of it
abbrev AreLater : Option Subchannel → Option Subchannel → Type 0
AreLater None q = q ≡ None
AreLater (Some x) q = (y : Subchannel) × (q ≡ Some y) × IsLaterSubchannel x y

get-later : (xs ys : List Subchannel) (index : ℕ) → AllZip IsLaterSubchannel xs ys → AreLater (slice_get xs index) (slice_get ys index)
get-later [] [] index z = refl
get-later [] (y ∷ ys) index z = absurd z
get-later (x ∷ xs) [] index z = absurd z
get-later (x ∷ xs) (y ∷ ys) zero z = (y, refl, z.0)
get-later (x ∷ xs) (y ∷ ys) (suc index) z = get-later xs ys index z.1

at-later : (xs ys : List Subchannel) (p : Option ℕ) → AllZip IsLaterSubchannel xs ys → AreLater (sub_at xs p) (sub_at ys p)
at-later xs ys None z = refl
at-later xs ys (Some index) z = get-later xs ys index z

-- the subchannel of an id
abbrev of_id : SubchannelId → List Subchannel → Option Subchannel
of_id id subs = sub_at subs (index_in id subs)

of_id-later : (id : SubchannelId) (xs ys : List Subchannel) → AllZip IsLaterSubchannel xs ys → AreLater (of_id id xs) (of_id id ys)
of_id-later id xs ys z =
    subst (λ (p : Option ℕ). AreLater (of_id id xs) (sub_at ys p)) (sym (index-stays id xs ys z)) (at-later xs ys (index_in id xs) z)

-- no serial is above what is cleared of the subchannel, and there is none of a subchannel that is not provided
abbrev AreCleared : Option Subchannel → List ℕ → Type 0
AreCleared None ns = ns ≡ []
AreCleared (Some sub) ns = All (λ m. m ≤ sub.state.serials.cleared) ns

cleared-none : (q : Option Subchannel) → AreCleared q []
cleared-none None = refl
cleared-none (Some sub) = λ k d h. absurd (omega (arith, h))

cleared-later : (p q : Option Subchannel) (ns : List ℕ) → AreLater p q → AreCleared p ns → AreCleared q ns
cleared-later None q ns e a = subst (λ (o : Option Subchannel). AreCleared o ns) (sym e) a
cleared-later (Some x) q ns l a =
    subst (λ (o : Option Subchannel). AreCleared o ns) (sym l.1)
    (All-weaker (λ m. m ≤ x.state.serials.cleared) (λ m. m ≤ l.0.state.serials.cleared) (λ m b. omega (arith, b, l.2.cleared)) ns a)

-- what is told of an id after a history
record Told (sets : ℕ) (id : SubchannelId) (h : List Entry) (s : State) : Type 0 where
  pub same_sets : s.sets ≡ sets
  pub cleared : AreCleared (of_id id s.subs) (serials sets id h)
  pub rises : AllPairs (λ x y. x < y) (serials sets id h)

-- a serial above what was cleared of the subchannel, up to which all is cleared then
record Clears (id : SubchannelId) (old new : State) (m : ℕ) : Type 0 where
  pub before : Subchannel
  pub after : Subchannel
  pub found : of_id id old.subs ≡ Some before
  pub left : of_id id new.subs ≡ Some after
  pub above : before.state.serials.cleared < m
  pub reached : m ≤ after.state.serials.cleared

abbrev Shows : SubchannelId → State → State → List ℕ → Type 0
Shows id old new ns = (ns ≡ []) ⊎ ((m : ℕ) × (ns ≡ m ∷ []) × Clears id old new m)

nil-end : (xs : List ℕ) → xs ++ [] ≡ xs
nil-end [] = refl
nil-end (x ∷ xs) = ap (λ (ys : List ℕ). x ∷ ys) (nil-end xs)

-- an entry more
more : (sets : ℕ) (id : SubchannelId) (h : List Entry) (x : Entry) (ns : List ℕ) → serial_at sets id x ≡ ns → serials sets id (h ++ x ∷ []) ≡ serials sets id h ++ ns
more sets id h x ns e = flat_map-append (serial_at sets id) h (x ∷ []) ∙ ap (λ (ys : List ℕ). serials sets id h ++ ys) (nil-end (serial_at sets id x) ∙ e)

told-none : (sets : ℕ) (id : SubchannelId) (h : List Entry) (old new : State) (x : Entry) → Told sets id h old → AllZip IsLaterSubchannel old.subs new.subs → new.sets ≡ old.sets →
    serial_at sets id x ≡ [] → Told sets id (h ++ x ∷ []) new
told-none sets id h old new x t z same e =
    let eq : serials sets id (h ++ x ∷ []) ≡ serials sets id h = more sets id h x [] e ∙ nil-end (serials sets id h) in
    record {
      same_sets = same ∙ t.same_sets;
      cleared = subst (λ (ns : List ℕ). AreCleared (of_id id new.subs) ns) (sym eq)
          (cleared-later (of_id id old.subs) (of_id id new.subs) (serials sets id h) (of_id-later id old.subs new.subs z) t.cleared);
      rises = subst (λ (ns : List ℕ). AllPairs (λ x y. x < y) ns) (sym eq) t.rises;
    }

told-one : (sets : ℕ) (id : SubchannelId) (h : List Entry) (old new : State) (x : Entry) (m : ℕ) → Told sets id h old → new.sets ≡ old.sets →
    serial_at sets id x ≡ m ∷ [] → Clears id old new m → Told sets id (h ++ x ∷ []) new
told-one sets id h old new x m t same e c =
    let eq : serials sets id (h ++ x ∷ []) ≡ serials sets id h ++ m ∷ [] = more sets id h x (m ∷ []) e in
    let below : All (λ k. k ≤ c.before.state.serials.cleared) (serials sets id h) =
    subst (λ (o : Option Subchannel). AreCleared o (serials sets id h)) c.found t.cleared in
    record {
      same_sets = same ∙ t.same_sets;
      cleared = subst (λ (o : Option Subchannel). AreCleared o (serials sets id (h ++ x ∷ []))) (sym c.left)
          (subst (λ (ns : List ℕ). All (λ k. k ≤ c.after.state.serials.cleared) ns) (sym eq)
          (All-push (λ k. k ≤ c.after.state.serials.cleared) (serials sets id h) m
          (All-weaker (λ k. k ≤ c.before.state.serials.cleared) (λ k. k ≤ c.after.state.serials.cleared)
          (λ k b. omega (arith, b, c.above, c.reached)) (serials sets id h) below)
          c.reached));
      rises = subst (λ (ns : List ℕ). AllPairs (λ x y. x < y) ns) (sym eq)
          (all_pairs_push (λ x y. x < y) (serials sets id h) m t.rises (λ k d within. omega (arith, below k d within, c.above)));
    }

told-step : (sets : ℕ) (id : SubchannelId) (h : List Entry) (old new : State) (x : Entry) → Told sets id h old → AllZip IsLaterSubchannel old.subs new.subs → new.sets ≡ old.sets →
    Shows id old new (serial_at sets id x) → Told sets id (h ++ x ∷ []) new
told-step sets id h old new x t z same w =
    elim w [
      | inl e ↦ told-none sets id h old new x t z same e
      | inr c ↦ told-one sets id h old new x c.0 t same c.1 c.2
    ]

-- TEST answers 0 where status is pending
pending-from : (operational pending : Bool) → in_order operational (not pending) false ≡ code.Zero → pending ≡ true
pending-from true true e = refl
pending-from true false e = absurd (cc e)
pending-from false pending e = absurd (cc e)

-- all status that was made is cleared
abbrev IsAllCleared : SubchannelState → SubchannelState → Type 0
IsAllCleared s new = (new.serials.made ≡ s.serials.made) × (new.serials.cleared ≡ s.serials.made)

if-cleared : (s : SubchannelState) (b : Bool) (x y : SubchannelState) → IsAllCleared s x → IsAllCleared s y → IsAllCleared s (if b then x else y)
if-cleared s true x y e f = e
if-cleared s false x y e f = f

wholly-cleared : (s : SubchannelState) → IsAllCleared s (tested_wholly s)
wholly-cleared s = if-cleared s (ends_suspended s.scsw) (without_programs (tested s)) (tested s) (refl, refl) (refl, refl)

test-shows : (n : ℕ) (id : SubchannelId) (s : State) (word address : ℕ) (f : Found) (r : Reply) (new : State) →
    SoundSub n f.sub → index_in id new.subs ≡ index_in id s.subs → index_in id s.subs ≡ Some f.index → slice_get s.subs f.index ≡ Some f.sub →
    IsLeft s (instruction.Tsch word address) r new f → Shows id s new (serial_shown r)
test-shows n id s word address f r new sound stays at there k = by (code_for i f.sub) refl
  where
    i : Instruction
    i = instruction.Tsch word address

    replies : (c : ConditionCode) → code_for i f.sub ≡ c → r ≡ reply_of i c f.sub.state (left_by c f.sub.state k.effect)
    replies c is = k.replies ∙ ap (λ (x : ConditionCode). reply_of i x f.sub.state (left_by x f.sub.state k.effect)) is

    by : (c : ConditionCode) → code_for i f.sub ≡ c → Shows id s new (serial_shown r)
    by code.Zero is =
        let pending : f.sub.state.scsw.status.pending ≡ true =
        pending-from (is_operational (condition_of (Some f.sub.state))) f.sub.state.scsw.status.pending is in
        let whole : SubchannelState = tested_wholly f.sub.state in
        let all : IsAllCleared f.sub.state whole = wholly-cleared f.sub.state in
        let left : state_left i f.sub k.effect ≡ whole = ap (λ (x : ConditionCode). left_by x f.sub.state k.effect) is ∙ k.is in
        inr (
          f.sub.state.serials.made,
          ap serial_shown (replies code.Zero is) ∙ ap (λ (x : SubchannelState). x.serials.made ∷ []) k.is ∙ ap (λ (made : ℕ). made ∷ []) all.0,
          record {
            before = f.sub;
            after = with_state f.sub whole;
            found = ap (sub_at s.subs) at ∙ there;
            left = ap (sub_at new.subs) (stays ∙ at)
                ∙ (ap (λ (xs : List Subchannel). slice_get xs f.index)
                (k.subs ∙ ap (λ (x : SubchannelState). slice_set s.subs f.index (with_state f.sub x)) left) ∙ get-set s.subs f.index f.sub (with_state f.sub whole) there);
            above = ltb-true f.sub.state.serials.cleared f.sub.state.serials.made (sym sound.4 ∙ pending);
            reached = omega (arith, all.1);
          },
        )
    by c is = inl (ap serial_shown (replies c is))

-- of the subchannel that the word names
found-shows : (n : ℕ) (id : SubchannelId) (s : State) (word address : ℕ) (q : Option Found) (r : Reply) (new : State) → All (SoundSub n) s.subs →
    index_in id new.subs ≡ index_in id s.subs → found_at s.subs (index_in id s.subs) ≡ q → IsDone s (instruction.Tsch word address) q r new → Shows id s new (serial_shown r)
found-shows n id s word address None r new a stays e k = inl (ap serial_shown k.replies)
found-shows n id s word address (Some f) r new a stays e k =
    let there : (index_in id s.subs ≡ Some f.index) × (slice_get s.subs f.index ≡ Some f.sub) = found-there s.subs (index_in id s.subs) f e in
    test-shows n id s word address f r new (one-of n s.subs f.index f.sub a there.1) stays there.0 there.1 k

named-shows : (n : ℕ) (id named : SubchannelId) (s : State) (word address : ℕ) (q : Option Found) (r : Reply) (new : State) (b : Bool) → All (SoundSub n) s.subs →
    index_in id new.subs ≡ index_in id s.subs → found_at s.subs (index_in named s.subs) ≡ q → IsDone s (instruction.Tsch word address) q r new → is_same_id named id ≡ b →
    Shows id s new (if b then serial_shown r else [])
named-shows n id named s word address q r new false a stays e k same = inl refl
named-shows n id named s word address q r new true a stays e k same =
    found-shows n id s word address q r new a stays (subst (λ (x : SubchannelId). found_at s.subs (index_in x s.subs) ≡ q) (same-id named id same) e) k

executes-shows : (n : ℕ) (id named : SubchannelId) (s : State) (i : Instruction) (q : Option Found) (r : Reply) (new : State) → All (SoundSub n) s.subs →
    index_in id new.subs ≡ index_in id s.subs → subchannel_named s.sets (subchannel_word i) ≡ Some named → found_at s.subs (index_in named s.subs) ≡ q → IsDone s i q r new →
    Shows id s new (serial_of s.sets id (event.Execute 0 i) r)
executes-shows n id named s (instruction.Tsch word address) q r new a stays at e k =
    subst (λ (x : Option SubchannelId). Shows id s new (if is_id x id then serial_shown r else [])) (sym at)
    (named-shows n id named s word address q r new (is_same_id named id) a stays e k refl)
executes-shows n id named s i q r new a stays at e k = inl refl

turn-shows : (n : ℕ) (id : SubchannelId) (s : State) (e : Event) (r : Reply) (new : State) (waiting : WaitingRequests) → All (SoundSub n) s.subs →
    index_in id new.subs ≡ index_in id s.subs → ResultOf s e r new → Shows id s (record new { requests = waiting }) (serial_of s.sets id e r)
turn-shows n id s _ _ _ waiting a stays (turn.Executes cpu i named q r storage subs at e blocks left done) =
    executes-shows n id named s i q r (record s { storage = storage; subs = subs; requests = waiting }) a stays at e (done-settled s i q r _ waiting done)
turn-shows n id s _ _ _ waiting a stays t = inl refl

step-shows : (n : ℕ) (id : SubchannelId) (s : State) (e : Event) (r : Reply) (new : State) →
    All (SoundSub n) s.subs → index_in id new.subs ≡ index_in id s.subs → Step s e r new → Shows id s new (serial_of s.sets id e r)
step-shows n id s e r new a stays step =
    let is : HasResult s e r new = step-turn s e r new step in
    subst (λ (x : State). Shows id s x (serial_of s.sets id e r)) (sym is.settles)
    (turn-shows n id s e r is.left _ a (subst (λ (x : State). index_in id x.subs ≡ index_in id s.subs) is.settles stays) is.turn)

run-told : AreWalks → AreNumbered → (setup : Setup) (id : SubchannelId) (h : List Entry) (s : State) → Run (opening_of setup) h s → Told (set_count setup) id h s
run-told walks numbered setup id _ _ Opened =
    record {
      same_sets = refl;
      cleared = cleared-none (of_id id (opening_of setup).subs);
      rises = λ i j d less within. absurd (omega (arith, within));
    }
run-told walks numbered setup id _ _ (Stepped h old e r new run step) =
    let told : Told (set_count setup) id h old = run-told walks numbered setup id h old run in
    let zip : AllZip IsLaterSubchannel old.subs new.subs = step-later walks numbered setup h old e r new run step in
    told-step (set_count setup) id h old new (record { event = e; reply = r }) told zip (step-sets walks old e r new step)
    (subst (λ (sets : ℕ). Shows id old new (serial_of sets id e r)) told.same_sets
    (step-shows (length h) id old e r new (run-sound walks numbered setup h old run) (index-stays id old.subs new.subs zip) step))

pub serials-rise : AreWalks → AreNumbered → (setup : Setup) (h : List Entry) (s : State) → Run (opening_of setup) h s → (id : SubchannelId) → AllPairs (λ x y. x < y) (serials (set_count setup) id h)
serials-rise walks numbered setup h s run id = (run-told walks numbered setup id h s run).rises
