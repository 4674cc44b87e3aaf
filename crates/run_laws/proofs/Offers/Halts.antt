-- After each run a halt is specified for a subchannel exactly where the entries tell it.
use Rattle.std.proofs.Common.{◌≡◌, refl, sym, ◌∙◌, ap, subst, ℕ, ◌&&◌, Bool, true, false, Some, List}
use Rattle.std.specs.Prelude.{if◌then◌else◌, slice_get}
use Rattle.scsw_irb.specs.declared.scsw.FunctionControl.{FunctionControl}
use Rattle.scsw_irb.specs.declared.scsw.Scsw.{Scsw}
use Rattle.scsw_irb.specs.Empty.{no_functions}
use Rattle.chan_model.specs.declared.answer.ConditionCode.{ConditionCode}
use Rattle.chan_model.specs.declared.answer.ConditionCode.TheVariants as code
use Rattle.chan_events.specs.Events.{Event}
use Rattle.chan_events.specs.declared.event.Event.TheVariants as event
use Rattle.chan_events.specs.declared.event.Instruction.{Instruction}
use Rattle.chan_events.specs.declared.event.Instruction.TheVariants as instruction
use Rattle.chan_events.specs.declared.reply.Entry.{Entry}
use Rattle.chan_events.specs.Replies.{Reply}
use Rattle.channel_config.specs.declared.names.SubchannelId.{SubchannelId}
use Rattle.channel_config.specs.Setup.{Setup, set_count}
use Rattle.chan_events.specs.Instructions.{subchannel_word}
use Rattle.machine_model.specs.State.{State, opening_of}
use Rattle.machine_model.specs.Steps.{Run}
use Rattle.machine_model.specs.declared.state.Sweep.TheVariants as sweep
use Rattle.subchannel_model.specs.declared.state.Subchannel.{Subchannel}
use Rattle.subchannel_model.specs.declared.state.SubchannelState.{SubchannelState}
use Rattle.subchannel_model.specs.Indices.{index_in}
use Rattle.run_laws.specs.Functions.{keeps_functions, functions_by, functions_after}
use Rattle.run_laws.specs.Shown.{names, is_about, is_accepted}
use Rattle.run_laws.proofs.Shown.Effects.{seen}
use Rattle.step_laws.proofs.Executed.{reply_of, code_for, state_left}
use Rattle.run_laws.proofs.Shown.Fitting.{Fits, fits-opens, turned-fits}
use Rattle.run_laws.proofs.Shown.Following.{turned-follows}
use Rattle.run_laws.proofs.Shown.Runs.{AreLaws, run-keeps}
use Rattle.run_laws.proofs.Shown.Turned.{Turned, Executes, Sweeps, Rests}
use Rattle.run_laws.specs.ProgramTold.{halt_by, halted_after}
use Rattle.run_laws.specs.Entries.{seen_through}
use Rattle.run_laws.proofs.Machine.Appending.{through-more}

-- what an event is about, by the name of the subchannel
abbrev pub mine : ℕ → SubchannelId → Event → Bool
mine sets id (event.Execute cpu i) = names sets id (subchannel_word i)
mine sets id (event.Choose word) = names sets id word
mine sets id (event.Up word path) = names sets id word
mine sets id (event.Down word path) = names sets id word
mine sets id e = false

abbrev pub halted_of : ℕ → SubchannelId → Event → Reply → Bool → Bool
halted_of sets id e r halted = halted_after (mine sets id e) e r halted

abbrev pub halted_by : ℕ → SubchannelId → Bool → List Entry → Bool
halted_by sets id halted h = seen_through (halted_of sets id) halted h

-- an instruction with this code
same-if : (b : Bool) (f : FunctionControl) → (if b then f else f).halt ≡ f.halt
same-if true f = refl
same-if false f = refl

kept-if : (b : Bool) (f : FunctionControl) → (if b then f else no_functions).halt ≡ (f.halt && b)
kept-if true f = and-true f.halt
  where
    and-true : (a : Bool) → a ≡ (a && true)
    and-true true = refl
    and-true false = refl
kept-if false f = and-false f.halt
  where
    and-false : (a : Bool) → false ≡ (a && false)
    and-false true = refl
    and-false false = refl

coded-halt : (i : Instruction) (c : ConditionCode) (s left : SubchannelState) →
    (if is_accepted (reply_of i c s left) then functions_by i s.scsw else s.scsw.functions).halt ≡ halt_by i (reply_of i c s left) s.scsw.functions.halt
coded-halt (instruction.Ssch word address) code.Zero s left = refl
coded-halt (instruction.Ssch word address) code.Two s left = refl
coded-halt (instruction.Ssch word address) code.Three s left = refl
coded-halt (instruction.Tsch word address) code.Zero s left = kept-if (keeps_functions s.scsw) s.scsw.functions
coded-halt (instruction.Tsch word address) code.Two s left = refl
coded-halt (instruction.Tsch word address) code.Three s left = refl
coded-halt (instruction.Stsch word address) c s left = same-if (is_accepted (reply_of (instruction.Stsch word address) c s left)) s.scsw.functions
coded-halt (instruction.Msch word address) c s left = same-if (is_accepted (reply_of (instruction.Msch word address) c s left)) s.scsw.functions
coded-halt (instruction.Enable word subclass multipath) c s left = same-if (is_accepted (reply_of (instruction.Enable word subclass multipath) c s left)) s.scsw.functions
coded-halt (instruction.Rsch word) c s left = same-if (is_accepted (reply_of (instruction.Rsch word) c s left)) s.scsw.functions
coded-halt (instruction.Hsch word) code.Zero s left = refl
coded-halt (instruction.Hsch word) code.Two s left = refl
coded-halt (instruction.Hsch word) code.Three s left = refl
coded-halt (instruction.Csch word) code.Zero s left = refl
coded-halt (instruction.Csch word) code.Two s left = refl
coded-halt (instruction.Csch word) code.Three s left = refl
coded-halt (instruction.Xsch word) code.Zero s left = refl
coded-halt (instruction.Xsch word) code.Two s left = refl
coded-halt (instruction.Xsch word) code.Three s left = refl
coded-halt i code.One s left = refl

-- whatever befalls the subchannel
module _ (sets : ℕ) (id : SubchannelId) where
  abbrev Leaves : Event → Reply → Scsw → Type 0
  Leaves e r scsw = (functions_after sets id e r scsw).halt ≡ halted_after (mine sets id e) e r scsw.functions.halt

  executed-halt : (cpu : ℕ) (i : Instruction) (c : ConditionCode) (s left : SubchannelState) → names sets id (subchannel_word i) ≡ true → Leaves (event.Execute cpu i) (reply_of i c s left) s.scsw
  executed-halt cpu i c s left named =
      subst (λ (b : Bool). (if b && is_accepted (reply_of i c s left) then functions_by i s.scsw else s.scsw.functions).halt ≡ (if b then halt_by i (reply_of i c s left) s.scsw.functions.halt else s.scsw.functions.halt))
      (sym named) (coded-halt i c s left)

  rests-halt : (e : Event) (r : Reply) (scsw : Scsw) → is_about sets id e ≡ false → Leaves e r scsw
  rests-halt (event.Execute cpu i) r scsw about =
      subst (λ (b : Bool). (if b && is_accepted r then functions_by i scsw else scsw.functions).halt ≡ (if b then halt_by i r scsw.functions.halt else scsw.functions.halt)) (sym about) refl
  rests-halt e r scsw about = refl

  leaves : (e : Event) (r : Reply) (sub : Subchannel) (after : SubchannelState) → Turned sets id e r sub after → Leaves e r sub.state.scsw
  leaves _ _ _ _ (Executes cpu i sub effect named is) = executed-halt cpu i (code_for i sub) sub.state (state_left i sub effect) named
  leaves _ _ _ _ (Sweeps (sweep.GoesDown chpid) r sub) = refl
  leaves _ _ _ _ (Rests e r sub about) = rests-halt e r sub.state.scsw about
  leaves _ _ _ _ other = refl

record IsHalted (sets : ℕ) (id : SubchannelId) (h : List Entry) (s : SubchannelState) : Type 0 where
  fits : Fits (seen s)
  halted : s.scsw.functions.halt ≡ halted_by sets id false h

pub run-halted : AreLaws → (setup : Setup) (id : SubchannelId) (h : List Entry) (s : State) → Run (opening_of setup) h s → (index : ℕ) (sub : Subchannel) →
    index_in id s.subs ≡ Some index → slice_get s.subs index ≡ Some sub → sub.state.scsw.functions.halt ≡ halted_by (set_count setup) id false h
run-halted laws setup id h s run index sub named there =
    let sets : ℕ = set_count setup in
    let w : IsHalted sets id h sub.state =
    run-keeps laws setup id (λ h s. IsHalted sets id h s) (record { fits = fits-opens; halted = refl })
    (λ h e r sub after k turned. record {
      fits = turned-fits sets id e r sub after k.fits turned;
      halted = ap (λ (f : FunctionControl). f.halt) (turned-follows sets id e r sub after k.fits turned).functions
          ∙ leaves sets id e r sub after turned
          ∙ ap (λ (b : Bool). halted_after (mine sets id e) e r b) k.halted
          ∙ sym (through-more (halted_of sets id) false h e r);
    }) h s run index sub named there in
    w.halted
