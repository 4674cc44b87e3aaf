-- A request stands from the status that is made until it is given or taken away.
use Rattle.std.proofs.Common.{◌≡◌, refl, sym, ◌∙◌, ap, subst, ℕ, ◌<◌, ◌%◌, ◌==◌, ◌&&◌, not, Bool, true, false, Option, None, Some, List, map, inl, inr}
use Rattle.std.specs.Prelude.{◌⊎◌, slice_get, if◌then◌else◌, option_map}
use Rattle.std.proofs.lemmas.Bool.{eqb-true, eq-eqb, and_parts, lt-ltb}
use Rattle.std.proofs.lemmas.Option.{same_Some, slice_get-map}
use Rattle.scsw_irb.specs.declared.code.IntCode.{IntCode}
use Rattle.chan_events.specs.Events.{Event}
use Rattle.chan_events.specs.declared.event.Event.TheVariants as event
use Rattle.chan_events.specs.declared.event.Instruction.{Instruction}
use Rattle.chan_events.specs.declared.event.Instruction.TheVariants as instruction
use Rattle.chan_events.specs.declared.event.OtherInstruction.{OtherInstruction}
use Rattle.chan_events.specs.declared.event.OtherInstruction.TheVariants as other
use Rattle.chan_events.specs.Replies.{Reply, reply_code}
use Rattle.chan_events.specs.declared.reply.Reply.TheVariants as reply
use Rattle.chan_model.specs.declared.answer.ConditionCode.{ConditionCode}
use Rattle.chan_model.specs.declared.answer.ConditionCode.TheVariants as code
use Rattle.channel_config.specs.declared.names.SubchannelId.{SubchannelId}
use Rattle.channel_config.specs.declared.parts.SubchannelSetup.{SubchannelSetup}
use Rattle.channel_config.specs.Setup.{Setup}
use Rattle.interruptions.specs.Requests as requests
use Rattle.interruptions.specs.Requests.{WaitingRequests, request_dropped}
use Rattle.run_laws.specs.CodeSteps.{IsByTable}
use Rattle.run_laws.specs.StateClaims.{is_id}
use Rattle.chan_events.specs.Instructions.{subchannel_word}
use Rattle.machine_model.specs.Requests.{drops, requests_after, requests_dropped, request_of}
use Rattle.machine_model.specs.State.{State, sub_of}
use Rattle.machine_model.specs.Steps.{Step}
use Rattle.step_laws.proofs.Indices.{alone, both-true, first-passes, found-there}
use Rattle.subchannel_model.specs.declared.state.Subchannel.{Subchannel}
use Rattle.subchannel_model.specs.declared.state.SubchannelState.{SubchannelState}
use Rattle.subchannel_model.specs.Indices.{Found, found_at, is_named, index_in, index_of_id, sub_at}
use Rattle.run_laws.specs.Interruptions.{is_given, shows_status, takes_away, IsAlone}
use Rattle.run_laws.specs.Shown.{names, is_accepted}
use Rattle.run_laws.proofs.Shown.Asking.{asked_by, step-asked}
use Rattle.step_laws.proofs.Executed.{IsDone, IsLeft, reply_of, code_for, state_left}
use Rattle.run_laws.proofs.Shown.Executed.{IsExecuted, executed}
use Rattle.run_laws.proofs.Machine.Names.{same-id}
use Rattle.run_laws.proofs.Shown.Waiting.{is_for, asks, all-keep, all-own, all-why, dropped-own, dropped-other, dropped-was}

-- what an instruction takes away
abbrev away : Instruction → Reply → Bool
away (instruction.Tsch word address) r = shows_status r
away (instruction.Csch word) r = is_accepted r
away i r = false

drops-away : (i : Instruction) (c : ConditionCode) (before after : SubchannelState) → drops i (reply_code (reply_of i c before after)) ≡ away i (reply_of i c before after)
drops-away (instruction.Tsch word address) code.Zero before after = refl
drops-away (instruction.Tsch word address) code.One before after = refl
drops-away (instruction.Tsch word address) code.Two before after = refl
drops-away (instruction.Tsch word address) code.Three before after = refl
drops-away (instruction.Csch word) code.Zero before after = refl
drops-away (instruction.Csch word) code.One before after = refl
drops-away (instruction.Csch word) code.Two before after = refl
drops-away (instruction.Csch word) code.Three before after = refl
drops-away i c before after = refl

and-false : (b : Bool) → false ≡ (b && false)
and-false true = refl
and-false false = refl

away-names : (sets : ℕ) (id : SubchannelId) (cpu : ℕ) (i : Instruction) (r : Reply) → takes_away sets id (event.Execute cpu i) r ≡ (names sets id (subchannel_word i) && away i r)
away-names sets id cpu (instruction.Ssch word address) r = and-false (names sets id word)
away-names sets id cpu (instruction.Tsch word address) r = refl
away-names sets id cpu (instruction.Stsch word address) r = and-false (names sets id word)
away-names sets id cpu (instruction.Msch word address) r = and-false (names sets id word)
away-names sets id cpu (instruction.Enable word subclass multipath) r = and-false (names sets id word)
away-names sets id cpu (instruction.Rsch word) r = and-false (names sets id word)
away-names sets id cpu (instruction.Hsch word) r = and-false (names sets id word)
away-names sets id cpu (instruction.Csch word) r = refl
away-names sets id cpu (instruction.Xsch word) r = and-false (names sets id word)

named-parts : (id : SubchannelId) (sub : Subchannel) → is_named id sub ≡ true → (sub.setup.id.set ≡ id.set) × (sub.setup.id.number ≡ id.number)
named-parts id sub e =
    let p = and_parts (sub.setup.id.set == id.set) (sub.setup.id.number == id.number) e in
    (eqb-true sub.setup.id.set id.set p.0, eqb-true sub.setup.id.number id.number p.1)

module _ (s : State) (id : SubchannelId) where
  -- what stays where the requests of another subchannel are dropped
  abbrev pub IsOtherDropped : (WaitingRequests → Type 0) → Type 0
  IsOtherDropped Q = (w : WaitingRequests) (set number : ℕ) → ((set ≡ id.set) × (number ≡ id.number) → ⊥) → Q w → Q (request_dropped w set number)

  after-kept : (Q : WaitingRequests → Type 0) → IsOtherDropped Q → (w : WaitingRequests) (i : Instruction) (r : Reply) (f : Found) (named : SubchannelId) (b : Bool) → is_named named f.sub ≡ true → (b ≡ true → is_id (Some named) id ≡ false) →
      Q w → Q (if b then request_dropped w f.sub.setup.id.set f.sub.setup.id.number else w)
  after-kept Q drop w i r f named false m n e = e
  after-kept Q drop w i r f named true m n e =
      let p = named-parts named f.sub m in
      drop w f.sub.setup.id.set f.sub.setup.id.number
      (λ q. cc (sym (both-true (named.set == id.set) (named.number == id.number) (eq-eqb named.set id.set (sym p.0 ∙ q.0)) (eq-eqb named.number id.number (sym p.1 ∙ q.1))) ∙ n refl)) e

  after-taken : (w : WaitingRequests) (f : Found) (b : Bool) → is_named id f.sub ≡ true → b ≡ true →
      asks id (if b then request_dropped w f.sub.setup.id.set f.sub.setup.id.number else w) ≡ false
  after-taken w f false m e = absurd (cc e)
  after-taken w f true m e =
      let p = named-parts id f.sub m in
      ap (λ (n : ℕ). asks id (request_dropped w n f.sub.setup.id.number)) p.0
      ∙ ap (λ (n : ℕ). asks id (request_dropped w id.set n)) p.1
      ∙ dropped-own id w

  after-was : (w : WaitingRequests) (i : Instruction) (r : Reply) (o : Option Subchannel) → asks id (requests_after w o i r) ≡ true → asks id w ≡ true
  after-was w i r None e = e
  after-was w i r (Some sub) e = by (drops i (reply_code r)) e
    where
      by : (b : Bool) → asks id (if b then request_dropped w sub.setup.id.set sub.setup.id.number else w) ≡ true → asks id w ≡ true
      by true f = dropped-was id w sub.setup.id.set sub.setup.id.number f
      by false f = f

  -- the subchannel of the instruction
  sub-found : (p : Option ℕ) → sub_at s.subs p ≡ option_map (λ (f : Found). f.sub) (found_at s.subs p)
  sub-found None = refl
  sub-found (Some k) = by (slice_get s.subs k)
    where
      by : (o : Option Subchannel) → o ≡ option_map (λ (f : Found). f.sub) (option_map (λ sub. record { index = k; sub = sub }) o)
      by None = refl
      by (Some x) = refl

  executed-sub : (i : Instruction) (r : Reply) (new : State) (k : IsExecuted s i r new) → sub_of s (subchannel_word i) ≡ option_map (λ (f : Found). f.sub) (found_at s.subs (index_in k.id s.subs))
  executed-sub i r new k = ap (λ (x : Option SubchannelId). sub_at s.subs (index_of_id s.subs x)) k.named ∙ sub-found (index_in k.id s.subs)

  left-drops : (i : Instruction) (r : Reply) (new : State) (f : Found) → IsLeft s i r new f → drops i (reply_code r) ≡ away i r
  left-drops i r new f done =
      subst (λ (x : Reply). drops i (reply_code x) ≡ away i x) (sym done.replies) (drops-away i (code_for i f.sub) f.sub.state (state_left i f.sub done.effect))

  and-first : (a b : Bool) → (a && b) ≡ false → b ≡ true → a ≡ false
  and-first true b x y = absurd (cc (sym x ∙ y))
  and-first false b x y = refl

  executed-kept : (Q : WaitingRequests → Type 0) → IsOtherDropped Q → (i : Instruction) (r : Reply) (new : State) (w : WaitingRequests) → IsExecuted s i r new → (names s.sets id (subchannel_word i) && away i r) ≡ false → Q w →
      Q (requests_after w (sub_of s (subchannel_word i)) i r)
  executed-kept Q drop i r new w k not e =
      subst (λ (o : Option Subchannel). Q (requests_after w o i r)) (sym (executed-sub i r new k)) (by (found_at s.subs (index_in k.id s.subs)) refl k.done)
    where
      by : (q : Option Found) → found_at s.subs (index_in k.id s.subs) ≡ q → IsDone s i q r new → Q (requests_after w (option_map (λ (f : Found). f.sub) q) i r)
      by None g done = e
      by (Some f) g done =
          let at = found-there s.subs (index_in k.id s.subs) f g in
          after-kept Q drop w i r f k.id (drops i (reply_code r)) (first-passes (is_named k.id) s.subs f.index f.sub at.0 at.1)
          (λ d. sym (ap (λ (x : Option SubchannelId). is_id x id) k.named)
          ∙ and-first (names s.sets id (subchannel_word i)) (away i r) not (sym (left-drops i r new f done) ∙ d)) e

  executed-taken : (i : Instruction) (r : Reply) (new : State) (w : WaitingRequests) (index : ℕ) (sub : Subchannel) → index_in id s.subs ≡ Some index → slice_get s.subs index ≡ Some sub →
      IsExecuted s i r new → (names s.sets id (subchannel_word i) && away i r) ≡ true → asks id (requests_after w (sub_of s (subchannel_word i)) i r) ≡ false
  executed-taken i r new w index sub mine there k takes =
      subst (λ (o : Option Subchannel). asks id (requests_after w o i r) ≡ false) (sym (executed-sub i r new k)) (by (found_at s.subs (index_in k.id s.subs)) refl k.done)
    where
      parts : (names s.sets id (subchannel_word i) ≡ true) × (away i r ≡ true)
      parts = and_parts (names s.sets id (subchannel_word i)) (away i r) takes

      same : k.id ≡ id
      same = same-id k.id id (subst (λ (x : Option SubchannelId). is_id x id ≡ true) k.named parts.0)

      by : (q : Option Found) → found_at s.subs (index_in k.id s.subs) ≡ q → IsDone s i q r new → asks id (requests_after w (option_map (λ (f : Found). f.sub) q) i r) ≡ false
      by None g done =
          let none : found_at s.subs (Some index) ≡ None = ap (found_at s.subs) (sym mine ∙ ap (λ (x : SubchannelId). index_in x s.subs) (sym same)) ∙ g in
          let some : found_at s.subs (Some index) ≡ Some (record { index = index; sub = sub }) = ap (option_map (λ x. record { index = index; sub = x })) there in
          absurd (cc (sym none ∙ some))
      by (Some f) g done =
          let at = found-there s.subs (index_in k.id s.subs) f g in
          after-taken w f (drops i (reply_code r))
          (subst (λ (x : SubchannelId). is_named x f.sub ≡ true) same (first-passes (is_named k.id) s.subs f.index f.sub at.0 at.1))
          (left-drops i r new f done ∙ parts.1)

  -- TEST PENDING INTERRUPTION
  given-kept : (Q : WaitingRequests → Type 0) → IsOtherDropped Q → (found : Option IntCode) → is_given id (reply.Interruption found) ≡ false → Q s.requests → Q (requests.after_answer s.requests found)
  given-kept Q drop None not e = e
  given-kept Q drop (Some x) not e =
      drop s.requests x.set x.subchannel
      (λ q. cc (sym (both-true (x.set == id.set) (x.subchannel == id.number) (eq-eqb x.set id.set q.0) (eq-eqb x.subchannel id.number q.1)) ∙ not)) e

  given-taken : (found : Option IntCode) → is_given id (reply.Interruption found) ≡ true → asks id (requests.after_answer s.requests found) ≡ false
  given-taken None e = absurd (cc e)
  given-taken (Some x) e =
      let p = and_parts (x.set == id.set) (x.subchannel == id.number) e in
      ap (λ (n : ℕ). asks id (request_dropped s.requests n x.subchannel)) (eqb-true x.set id.set p.0)
      ∙ ap (λ (n : ℕ). asks id (request_dropped s.requests id.set n)) (eqb-true x.subchannel id.number p.1)
      ∙ dropped-own id s.requests

  given-was : (found : Option IntCode) → asks id (requests.after_answer s.requests found) ≡ true → asks id s.requests ≡ true
  given-was None e = e
  given-was (Some x) e = dropped-was id s.requests x.set x.subchannel e

  -- what is left before new status posts
  abbrev pub left : Event → Reply → WaitingRequests
  left e r = requests_dropped s e r (asked_by s e r)

  other-kept : (Q : WaitingRequests → Type 0) → IsOtherDropped Q → (cpu : ℕ) (i : OtherInstruction) (r : Reply) (new : State) → IsByTable s (event.ExecuteOther cpu i) r new → takes_away s.sets id (event.ExecuteOther cpu i) r ≡ false →
      Q s.requests → Q (left (event.ExecuteOther cpu i) r)
  other-kept Q drop cpu (other.Tpi mask address) r new table not e =
      subst (λ (x : Reply). Q (left (event.ExecuteOther cpu (other.Tpi mask address)) x)) (sym table)
      (given-kept Q drop (requests.answer s.requests mask) (ap (is_given id) (sym table) ∙ not) e)
  other-kept Q drop cpu i r new table not e = e

  other-taken : (cpu : ℕ) (i : OtherInstruction) (r : Reply) (new : State) → IsByTable s (event.ExecuteOther cpu i) r new → takes_away s.sets id (event.ExecuteOther cpu i) r ≡ true →
      asks id (left (event.ExecuteOther cpu i) r) ≡ false
  other-taken cpu (other.Tpi mask address) r new table takes =
      subst (λ (x : Reply). asks id (left (event.ExecuteOther cpu (other.Tpi mask address)) x) ≡ false) (sym table)
      (given-taken (requests.answer s.requests mask) (ap (is_given id) (sym table) ∙ takes))
  other-taken cpu i r new table takes = absurd (cc takes)

  other-was : (cpu : ℕ) (i : OtherInstruction) (r : Reply) (new : State) → IsByTable s (event.ExecuteOther cpu i) r new → asks id (left (event.ExecuteOther cpu i) r) ≡ true →
      asks id s.requests ≡ true
  other-was cpu (other.Tpi mask address) r new table e =
      given-was (requests.answer s.requests mask) (subst (λ (x : Reply). asks id (left (event.ExecuteOther cpu (other.Tpi mask address)) x) ≡ true) table e)
  other-was cpu i r new table e = e

  pub left-kept : (Q : WaitingRequests → Type 0) → IsOtherDropped Q → (e : Event) (r : Reply) (new : State) → Step s e r new → IsByTable s e r new → takes_away s.sets id e r ≡ false → Q s.requests → Q (left e r)
  left-kept Q drop (event.Execute cpu i) r new step table not k = executed-kept Q drop i r new s.requests (executed s cpu i r new step) (sym (away-names s.sets id cpu i r) ∙ not) k
  left-kept Q drop (event.ExecuteOther cpu i) r new step table not k = other-kept Q drop cpu i r new table not k
  left-kept Q drop event.SystemReset r new step table not k = absurd (cc not)
  left-kept Q drop e r new step table not k = k

  -- what stays where any are dropped
  abbrev pub IsAnyDropped : (WaitingRequests → Type 0) → Type 0
  IsAnyDropped Q = (w : WaitingRequests) (set number : ℕ) → Q w → Q (request_dropped w set number)

  after-any : (Q : WaitingRequests → Type 0) → IsAnyDropped Q → (w : WaitingRequests) (i : Instruction) (r : Reply) (o : Option Subchannel) → Q w → Q (requests_after w o i r)
  after-any Q drop w i r None e = e
  after-any Q drop w i r (Some sub) e = by (drops i (reply_code r))
    where
      by : (b : Bool) → Q (if b then request_dropped w sub.setup.id.set sub.setup.id.number else w)
      by true = drop w sub.setup.id.set sub.setup.id.number e
      by false = e

  given-any : (Q : WaitingRequests → Type 0) → IsAnyDropped Q → (found : Option IntCode) → Q s.requests → Q (requests.after_answer s.requests found)
  given-any Q drop None e = e
  given-any Q drop (Some x) e = drop s.requests x.set x.subchannel e

  other-any : (Q : WaitingRequests → Type 0) → IsAnyDropped Q → (cpu : ℕ) (i : OtherInstruction) (r : Reply) (new : State) → IsByTable s (event.ExecuteOther cpu i) r new → Q s.requests →
      Q (left (event.ExecuteOther cpu i) r)
  other-any Q drop cpu (other.Tpi mask address) r new table e =
      subst (λ (x : Reply). Q (left (event.ExecuteOther cpu (other.Tpi mask address)) x)) (sym table) (given-any Q drop (requests.answer s.requests mask) e)
  other-any Q drop cpu i r new table e = e

  pub left-any : (Q : WaitingRequests → Type 0) → IsAnyDropped Q → Q (requests.no_requests_wait s.requests.numbers) → (e : Event) (r : Reply) (new : State) → IsByTable s e r new → Q s.requests →
      Q (left e r)
  left-any Q drop none (event.Execute cpu i) r new table k = after-any Q drop s.requests i r (sub_of s (subchannel_word i)) k
  left-any Q drop none (event.ExecuteOther cpu i) r new table k = other-any Q drop cpu i r new table k
  left-any Q drop none event.SystemReset r new table k = none
  left-any Q drop none e r new table k = k

  left-was : (e : Event) (r : Reply) (new : State) → IsByTable s e r new → asks id (left e r) ≡ true → asks id s.requests ≡ true
  left-was (event.Execute cpu i) r new table k = after-was s.requests i r (sub_of s (subchannel_word i)) k
  left-was (event.ExecuteOther cpu i) r new table k = other-was cpu i r new table k
  left-was event.SystemReset r new table k = absurd (cc k)
  left-was e r new table k = k

  left-taken : (e : Event) (r : Reply) (new : State) (index : ℕ) (sub : Subchannel) → index_in id s.subs ≡ Some index → slice_get s.subs index ≡ Some sub → Step s e r new → IsByTable s e r new →
      takes_away s.sets id e r ≡ true → asks id (left e r) ≡ false
  left-taken (event.Execute cpu i) r new index sub mine there step table takes =
      executed-taken i r new s.requests index sub mine there (executed s cpu i r new step) (sym (away-names s.sets id cpu i r) ∙ takes)
  left-taken (event.ExecuteOther cpu i) r new index sub mine there step table takes = other-taken cpu i r new table takes
  left-taken event.SystemReset r new index sub mine there step table takes = refl
  left-taken e r new index sub mine there step table takes = absurd (cc takes)

  -- a step that takes nothing away leaves a request where one stood, or where a status was made
  pub step-keeps : (e : Event) (r : Reply) (new : State) (index : ℕ) (sub after : Subchannel) → Step s e r new → IsByTable s e r new →
      slice_get s.subs index ≡ Some sub → index_in id new.subs ≡ Some index → slice_get new.subs index ≡ Some after → (id.set % 4) ≡ id.set →
      takes_away s.sets id e r ≡ false → (asks id s.requests ≡ true) ⊎ (sub.state.serials.made < after.state.serials.made) → asks id new.requests ≡ true
  step-keeps e r new index sub after step table there mine is small not k =
      ap (asks id) (step-asked s e r new step)
      ∙ elim k [
        | inl a ↦ all-keep id s.subs new.subs (left e r) (left-kept (λ w. asks id w ≡ true) (λ w set number n e. dropped-other id w set number n ∙ e) e r new step table not a)
        | inr rose ↦
            let p = named-parts id after (first-passes (is_named id) new.subs index after mine is) in
            all-own id s.subs new.subs (left e r) index sub after there is (lt-ltb sub.state.serials.made after.state.serials.made rose)
            (both-true ((after.setup.id.set % 4) == id.set) (after.setup.id.number == id.number)
            (eq-eqb (after.setup.id.set % 4) id.set (ap (λ (n : ℕ). n % 4) p.0 ∙ small)) (eq-eqb after.setup.id.number id.number p.1))
      ]

  -- where a request stands, one stood before that was not taken away, or a status was made
  pub step-why : (setup : Setup) (e : Event) (r : Reply) (new : State) (index : ℕ) (sub after : Subchannel) → Step s e r new → IsByTable s e r new →
      map (λ x. x.setup) new.subs ≡ setup.subchannels → IsAlone setup id → (id.set % 4) ≡ id.set →
      index_in id s.subs ≡ Some index → slice_get s.subs index ≡ Some sub → index_in id new.subs ≡ Some index → slice_get new.subs index ≡ Some after → asks id new.requests ≡ true →
      ((takes_away s.sets id e r ≡ false) × (asks id s.requests ≡ true)) ⊎ (sub.state.serials.made < after.state.serials.made)
  step-why setup e r new index sub after step table setups one small was there mine is asked =
      elim (all-why id s.subs new.subs (left e r) (sym (ap (asks id) (step-asked s e r new step)) ∙ asked)) [
        | inl a ↦ inl (either (takes_away s.sets id e r) refl a, left-was e r new table a)
        | inr x ↦ inr (rose x.0 x.1 x.2 x.3 x.4 x.5 x.6)
      ]
    where
      either : (b : Bool) → takes_away s.sets id e r ≡ b → asks id (left e r) ≡ true → takes_away s.sets id e r ≡ false
      either false f a = f
      either true f a = absurd (cc (sym a ∙ left-taken e r new index sub was there step table f))

      set-up : (k : ℕ) (x : Subchannel) → slice_get new.subs k ≡ Some x → slice_get setup.subchannels k ≡ Some x.setup
      set-up k x e =
          sym (ap (λ (ys : List SubchannelSetup). slice_get ys k) setups) ∙ slice_get-map (λ (y : Subchannel). y.setup) new.subs k ∙ ap (option_map (λ (y : Subchannel). y.setup)) e

      rose : (k : ℕ) (old now : Subchannel) → slice_get s.subs k ≡ Some old → slice_get new.subs k ≡ Some now → old.state.serials.made < now.state.serials.made →
          is_for id (request_of now) ≡ true → sub.state.serials.made < after.state.serials.made
      rose k old now a b less own =
          let p = named-parts id after (first-passes (is_named id) new.subs index after mine is) in
          let same : k ≡ index =
          alone (λ (x : SubchannelSetup). ((x.id.set % 4) == id.set) && (x.id.number == id.number)) setup.subchannels k index now.setup after.setup one (set-up k now b) (set-up index after is)
          own
          (both-true ((after.setup.id.set % 4) == id.set) (after.setup.id.number == id.number)
          (eq-eqb (after.setup.id.set % 4) id.set (ap (λ (n : ℕ). n % 4) p.0 ∙ small)) (eq-eqb after.setup.id.number id.number p.1)) in
          let x : old ≡ sub = same_Some old sub (sym a ∙ ap (λ (n : ℕ). slice_get s.subs n) same ∙ there) in
          let y : now ≡ after = same_Some now after (sym b ∙ ap (λ (n : ℕ). slice_get new.subs n) same ∙ is) in
          subst (λ (z : Subchannel). sub.state.serials.made < z.state.serials.made) y (subst (λ (z : Subchannel). z.state.serials.made < now.state.serials.made) x less)
