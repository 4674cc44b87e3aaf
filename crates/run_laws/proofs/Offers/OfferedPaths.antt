-- A program is offered, anew or resumed, by a path of the logical-path mask of the operation-request block of the start that was accepted
-- last.
use Rattle.std.proofs.Common.{◌≡◌, refl, sym, ◌∙◌, subst, ℕ, ◌+◌, ◌&&◌, ◌||◌, Bool, true, false, Option, None, Some, Result, List, [], ◌∷◌, inl, inr}
use Rattle.std.specs.Prelude.{map, slice_get, slice_set, IfOk}
use Rattle.allegiance.specs.PathUse.{reachable_paths}
use Rattle.orb_block.specs.declared.Orb.{Orb}
use Rattle.chan_model.specs.declared.fault.Fault.{Fault}
use Rattle.chan_model.specs.declared.signal.Down.TheVariants as down
use Rattle.chan_model.specs.PathSets.{has_path, is_member}
use Rattle.chan_events.specs.Events.{Event}
use Rattle.chan_events.specs.declared.event.Event.TheVariants as event
use Rattle.chan_events.specs.declared.event.Instruction.TheVariants as instruction
use Rattle.chan_events.specs.Replies.{Reply}
use Rattle.chan_events.specs.declared.reply.Reply.TheVariants as reply
use Rattle.channel_config.specs.declared.names.SubchannelId.{SubchannelId}
use Rattle.channel_config.specs.SubchannelWords.{subchannel_named}
use Rattle.path_select.specs.Choice.{IsChoice}
use Rattle.run_laws.proofs.Machine.Offering.{IsOffer, chosen-offer, offer-usable}
use Rattle.run_laws.proofs.Machine.PathSets.{without-parts, each-true}
use Rattle.subchannel_model.specs.declared.cause.StatusCause.TheVariants as cause
use Rattle.subchannel_model.specs.declared.state.Candidate.{Candidate}
use Rattle.subchannel_model.specs.declared.state.Chosen.{Chosen}
use Rattle.subchannel_model.specs.declared.state.Chosen.TheVariants.{Resets, PerformsClear, Halts, PerformsHalt, FindsNoPath, Offers}
use Rattle.subchannel_model.specs.declared.state.Program.{Program}
use Rattle.subchannel_model.specs.declared.state.ProgramPosition.{ProgramPosition}
use Rattle.subchannel_model.specs.declared.state.Subchannel.{Subchannel}
use Rattle.subchannel_model.specs.declared.state.SubchannelState.{SubchannelState}
use Rattle.subchannel_model.specs.Cancel.{xsch_code}
use Rattle.subchannel_model.specs.Clear.{csch_code}
use Rattle.subchannel_model.specs.Enable.{enabling}
use Rattle.subchannel_model.specs.Halt.{hsch_code}
use Rattle.subchannel_model.specs.Modify.{msch_code}
use Rattle.subchannel_model.specs.Resume.{rsch_code}
use Rattle.subchannel_model.specs.Store.{pmcw_of, stsch_code}
use Rattle.subchannel_model.specs.Test.{tsch_code}
use Rattle.subchannel_model.specs.Choosing.{first_some, path_use, paths_to_choose, engaged_paths, chosen, marked_sub, starting, resuming}
use Rattle.subchannel_model.specs.Losing.{is_offered_or_held}
use Rattle.subchannel_model.specs.Programs.{has_any}
use Rattle.subchannel_model.specs.Indices.{is_named, index_in, index_of_id}
use Rattle.subchannel_model.specs.Start.{started}
use Rattle.machine_model.specs.ChooseSteps.{choose_sub}
use Rattle.machine_model.specs.InstructionSteps.{code_at}
use Rattle.machine_model.specs.PathSteps.{swept}
use Rattle.machine_model.specs.State.{State, index_of}
use Rattle.machine_model.specs.Steps.{Step}
use Rattle.machine_model.specs.Results.{SubResult}
use Rattle.machine_model.specs.declared.state.Sweep.{Sweep}
use Rattle.step_laws.specs.Walks.{Walked, Suits}
use Rattle.step_laws.proofs.Indices.{set-get}
use Rattle.run_laws.proofs.Shown.LogicalOffers.{reach-logical}
use Rattle.run_laws.proofs.Shown.Runs.{index-stays, placed}
use Rattle.run_laws.proofs.Shown.Turned.{Turned, Executes, Chooses, Meets, Sweeps, Rests, state_chosen, step-turns}
use Rattle.run_laws.proofs.Traces.Sweeps.{swept-kept}
use Rattle.run_laws.proofs.Links.Vanishing.{send-ok}
use Rattle.run_laws.proofs.Offers.Overs.{IsAhead, chosen-ahead}
use Rattle.run_laws.proofs.Offers.StartMasks.{Masked, is_pending, cause-masked, signal-masked, reset-masked, test-masked, halt-masked, modify-masked, resume-masked, left-masked}
use Rattle.run_laws.proofs.Traces.Telling.{IsChosen, IsByPath}

-- what befalls a subchannel, but for START SUBCHANNEL
abbrev pub IsNoStart : Event → Type 0
IsNoStart e = (cpu word address : ℕ) → e ≡ event.Execute cpu (instruction.Ssch word address) → ⊥

module _ (a : Option Orb) where
  chosen-masked : (s : SubchannelState) (c : Chosen) → Masked a s → Masked a (state_chosen s c)
  chosen-masked s PerformsClear k = cause-masked a s cause.ClearDone k
  chosen-masked s (Halts t path) k = record { mask = k.mask; pending = k.pending }
  chosen-masked s PerformsHalt k = cause-masked a s cause.HaltDone k
  chosen-masked s FindsNoPath k = cause-masked a s cause.NoPath k
  chosen-masked s other k = k

  swept-masked : (what : Sweep) (x : Subchannel) → Masked a x.state → Masked a (swept what x).state
  swept-masked what x k =
      swept-kept x (λ y. Masked a y.state) (λ y path up g. g) (λ path g. g)
      (λ wires g. reset-masked a x.state (is_offered_or_held x.state.hold.phase && has_any x.state.waiting x.state.begun x.state.suspended) g)
      (λ g. record { mask = λ e. absurd (cc e); pending = λ e. absurd (cc e) }) what k

  turned-masked : (sets : ℕ) (id : SubchannelId) (e : Event) (r : Reply) (sub : Subchannel) (after : SubchannelState) → IsNoStart e → Masked a sub.state → Turned sets id e r sub after → Masked a after
  turned-masked sets id _ _ _ _ n k (Executes cpu (instruction.Ssch word address) sub effect named is) = absurd (n cpu word address refl)
  turned-masked sets id _ _ _ _ n k (Executes cpu (instruction.Tsch word address) sub effect named is) =
      left-masked a (code_at tsch_code sub) sub.state effect k (λ e. subst (Masked a) (sym is) (test-masked a sub.state k))
  turned-masked sets id _ _ _ _ n k (Executes cpu (instruction.Stsch word address) sub effect named is) = left-masked a (code_at stsch_code sub) sub.state effect k (λ e. subst (Masked a) (sym is) k)
  turned-masked sets id _ _ _ _ n k (Executes cpu (instruction.Msch word address) sub effect named is) =
      left-masked a (code_at msch_code sub) sub.state effect k (λ e. subst (Masked a) (sym is.1) (modify-masked a sub is.0 e k))
  turned-masked sets id _ _ _ _ n k (Executes cpu (instruction.Enable word subclass multipath) sub effect named is) =
      left-masked a (code_at msch_code sub) sub.state effect k (λ e. subst (Masked a) (sym is) (modify-masked a sub (enabling (pmcw_of sub) subclass multipath) e k))
  turned-masked sets id _ _ _ _ n k (Executes cpu (instruction.Rsch word) sub effect named is) =
      left-masked a (code_at rsch_code sub) sub.state effect k (λ e. subst (Masked a) (sym is) (resume-masked a sub e k))
  turned-masked sets id _ _ _ _ n k (Executes cpu (instruction.Hsch word) sub effect named is) =
      left-masked a (code_at hsch_code sub) sub.state effect k (λ e. subst (Masked a) (sym is) (halt-masked a sub.state k))
  turned-masked sets id _ _ _ _ n k (Executes cpu (instruction.Csch word) sub effect named is) =
      left-masked a (code_at csch_code sub) sub.state effect k (λ e. subst (Masked a) (sym is) (record { mask = λ h. absurd (cc h); pending = λ h. absurd (cc h) }))
  turned-masked sets id _ _ _ _ n k (Executes cpu (instruction.Xsch word) sub effect named is) =
      left-masked a (code_at xsch_code sub) sub.state effect k (λ e. subst (Masked a) (sym is) (record { mask = λ h. absurd (cc h); pending = λ h. absurd (cc h) }))
  turned-masked sets id _ _ _ _ n k (Chooses word sub choice named away) = chosen-masked (marked_sub sub choice).state (chosen sub choice) k
  turned-masked sets id _ _ _ _ n k (Meets word path returns storage sub x named) = signal-masked a returns storage sub.state path x k
  turned-masked sets id _ _ _ _ n k (Sweeps what r sub) = swept-masked what sub k
  turned-masked sets id _ _ _ _ n k (Rests e r sub about) = k

-- of the subchannel at an index, where a word can name it
abbrev pub MaskedAt : Option Orb → List Subchannel → ℕ → Type 0
MaskedAt a subs index = (id : SubchannelId) (sub : Subchannel) → index_in id subs ≡ Some index → slice_get subs index ≡ Some sub → Masked a sub.state

abbrev pub SameSetups : List Subchannel → List Subchannel → Type 0
SameSetups subs news = map (λ sub. sub.setup) news ≡ map (λ sub. sub.setup) subs

pub stays-masked : (a : Option Orb) (s : State) (e : Event) (r : Reply) (new : State) (index : ℕ) → Step s e r new → Walked s e r new → SameSetups s.subs new.subs →
    IsNoStart e → MaskedAt a s.subs index → MaskedAt a new.subs index
stays-masked a s e r new index step walk same not masked = λ id sub named here.
    let mine : index_in id s.subs ≡ Some index = sym (index-stays id s.subs new.subs same) ∙ named in
    let old : (x : Subchannel) × (slice_get s.subs index ≡ Some x) = placed (is_named id) s.subs index mine in
    turned-masked a s.sets id e r old.0 sub.state not (masked id old.0 mine old.1) (step-turns s id index old.0 mine old.1 e r new step sub here)

-- START SUBCHANNEL: one subchannel is set
pub set-masked : (a b : Option Orb) (subs news : List Subchannel) (at index : ℕ) (x after : Subchannel) → SameSetups subs news → slice_get subs at ≡ Some x → news ≡ slice_set subs at after →
    (at ≡ index → Masked a x.state → Masked b after.state) → ((at ≡ index → ⊥) → b ≡ a) → MaskedAt a subs index → MaskedAt b news index
set-masked a b subs news at index x after same there is here other masked = λ id sub named got.
    let mine : index_in id subs ≡ Some index = sym (index-stays id subs news same) ∙ named in
    elim (set-get subs at after index sub (subst (λ (xs : List Subchannel). slice_get xs index ≡ Some sub) is got)) [
      | inl p ↦
          subst (λ (y : Subchannel). Masked b y.state) (sym p.1)
          (here (sym p.0) (masked id x mine (subst (λ (i : ℕ). slice_get subs i ≡ Some x) (sym p.0) there)))
      | inr p ↦ subst (λ (o : Option Orb). Masked o sub.state) (sym (other (λ e. p.0 (sym e)))) (masked id sub mine p.1)
    ]

pub start-masked : (s : SubchannelState) (orb : Orb) → Masked (Some orb) (started s orb)
start-masked s orb = record { mask = λ e. (orb, refl, refl); pending = λ e. refl }

-- Choose: a path that is chosen for an offer is of the logical-path mask
found-pending : (w : Option Program) (st : Option ProgramPosition) (start resume : Bool) (c : Candidate) → first_some (starting start w ∷ resuming resume st ∷ []) ≡ Some c → (start || resume) ≡ true
found-pending w st true resume c e = refl
found-pending w st false true c e = refl
found-pending w st false false c e = absurd (cc e)

abbrev OffersPath : Subchannel → Reply → Type 0
OffersPath sub r = (t path : ℕ) (resumes : Bool) → r ≡ reply.Offered t path resumes → (is_member sub.state.pmcw.logical path ≡ true) × (is_pending sub.state.scsw.activity ≡ true)

choose-path : (subs : List Subchannel) (sub marked : Subchannel) (choice : Option ℕ) (c : Chosen) → IsChoice (paths_to_choose subs sub) choice → Suits c sub.state → IsOffer choice c → IsAhead sub.state c →
    IfOk (choose_sub marked c) (λ t. OffersPath sub t.reply)
choose-path subs sub marked choice (Resets r path) i f o h =
    send-ok (λ t. OffersPath sub t.reply) marked _ path (down.Reset r marked.state.hold.known_restarts) (reply.ResetSent r path) (λ t p z e. absurd (cc e))
choose-path subs sub marked choice (Halts u path) i f o h =
    send-ok (λ t. OffersPath sub t.reply) marked _ path (down.Halt u) (reply.HaltSent u path) (λ t p z e. absurd (cc e))
choose-path subs sub marked choice (Offers c path) i f o h =
    send-ok (λ t. OffersPath sub t.reply) marked _ path (down.Select (marked.state.drawn + 1)) (reply.Offered (marked.state.drawn + 1) path c.resumes)
    (λ t p z e.
    let same : path ≡ p = cc e in
    let usable = offer-usable subs sub choice path i f.fits o in
    let within = (without-parts (reachable_paths (path_use sub)) (engaged_paths subs sub) path usable).0 in (
      subst (λ (q : ℕ). is_member sub.state.pmcw.logical q ≡ true) same (reach-logical sub path within).0,
      found-pending sub.state.waiting sub.state.suspended sub.state.scsw.activity.start_pending sub.state.scsw.activity.resume_pending c h.1,
    ))
choose-path subs sub marked choice other i f o h = λ t p z e. absurd (cc e)

named-in : (subs : List Subchannel) (x : Option SubchannelId) (index : ℕ) → index_of_id subs x ≡ Some index → (id : SubchannelId) × (index_in id subs ≡ Some index)
named-in subs None index e = absurd (cc e)
named-in subs (Some id) index e = (id, e)

pub offered-path : (a : Option Orb) (s : State) (word index : ℕ) (r : Reply) (sub : Subchannel) → IsChosen s sub r → index_of s word ≡ Some index → slice_get s.subs index ≡ Some sub →
    MaskedAt a s.subs index → IsByPath a r
offered-path a s word index r sub c named there masked = λ t path resumes is.
    let offers : IfOk (choose_sub (marked_sub sub c.choice) (chosen sub c.choice)) (λ t. OffersPath sub t.reply) =
    choose-path s.subs sub (marked_sub sub c.choice) c.choice (chosen sub c.choice) c.right c.suits (chosen-offer sub c.choice) (chosen-ahead sub c.choice) in
    let offer = subst (λ (o : Result SubResult Fault). IfOk o (λ t. OffersPath sub t.reply)) c.ok offers t path resumes (sym c.replies ∙ is) in
    let id = named-in s.subs (subchannel_named s.sets word) index named in
    let k : Masked a sub.state = masked id.0 sub id.1 there in
    let of = k.mask (k.pending offer.1) in
    (of.0, of.1, each-true (has_path of.0.paths) path (subst (λ (set : List Bool). is_member set path ≡ true) of.2 offer.0))
