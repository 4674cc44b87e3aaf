-- What a choice comes to: nothing is done and the reply is Idle, or something is done and told; which of them, no choice of a path decides.
use Rattle.std.proofs.Common.{◌≡◌, refl, ℕ, ◌+◌, Bool, true, false, Option, None, Some, Ok, Err, List, ◌∷◌, []}
use Rattle.std.specs.Prelude.{◌↔◌, MatchResult, if◌then◌else◌}
use Rattle.allegiance.specs.PathUse.{reachable_paths}
use Rattle.chan_model.specs.PathSets.{is_any}
use Rattle.chan_model.specs.declared.fault.Fault.TheVariants.{WireFull}
use Rattle.chan_model.specs.declared.hold_state.HoldPhase.{HoldPhase}
use Rattle.chan_model.specs.declared.hold_state.HoldPhase.TheVariants as hold
use Rattle.chan_model.specs.Signals.{Down}
use Rattle.chan_model.specs.declared.signal.Down.TheVariants as down
use Rattle.chan_events.specs.Replies.{Reply}
use Rattle.chan_events.specs.declared.reply.Reply.TheVariants as reply
use Rattle.path_select.specs.Choice.{IsChoice}
use Rattle.subchannel_model.specs.declared.state.Candidate.{Candidate}
use Rattle.subchannel_model.specs.declared.state.Chosen.{Chosen}
use Rattle.subchannel_model.specs.declared.state.Chosen.TheVariants.{Idle, Resets, Halts, Offers}
use Rattle.subchannel_model.specs.declared.state.Subchannel.{Subchannel}
use Rattle.subchannel_model.specs.declared.state.SubchannelState.{SubchannelState}
use Rattle.subchannel_model.specs.Choosing.{candidate, chosen, chosen_of, clear_chosen, halt_chosen, halt_sent, offer_chosen, offered, path_use, reset_chosen, reset_sent, unsent_reset}
use Rattle.subchannel_model.specs.Sending.{carried_by, finds_full}
use Rattle.machine_model.specs.Results.{SubResult}
use Rattle.machine_model.specs.ChooseSteps.{choose_sub, send_sub}

-- the reply is Idle where nothing was chosen, and there alone
abbrev pub IsToldBy : Chosen → Reply → Type 0
IsToldBy what r = (r ≡ reply.Idle) ↔ (what ≡ Idle)

sends-told : (what : Chosen) (sub : Subchannel) (state : SubchannelState) (path : ℕ) (signal : Down) (r : Reply) → IsToldBy what r →
    MatchResult (send_sub sub state path signal r) (λ t. IsToldBy what t.reply) (λ f. f ≡ WireFull)
sends-told what sub state path signal r told = by (finds_full sub.wires.down (carried_by sub (Some (record { path = path; signal = signal })))) _ told
  where
    by : (full : Bool) (t : SubResult) → IsToldBy what t.reply → MatchResult (if full then Err WireFull else Ok t) (λ t. IsToldBy what t.reply) (λ f. f ≡ WireFull)
    by true t told = refl
    by false t told = told

-- a choice is refused for a full wire alone
pub choice-told : (sub : Subchannel) (what : Chosen) → MatchResult (choose_sub sub what) (λ t. IsToldBy what t.reply) (λ f. f ≡ WireFull)
choice-told sub Idle = (λ e. refl, λ e. refl)
choice-told sub (Resets r path) =
    sends-told (Resets r path) sub (reset_sent sub.state path) path (down.Reset r sub.state.hold.known_restarts) (reply.ResetSent r path)
    (λ e. absurd (cc e), λ e. absurd (cc e))
choice-told sub (Halts t path) =
    sends-told (Halts t path) sub (halt_sent sub.state) path (down.Halt t) (reply.HaltSent t path) (λ e. absurd (cc e), λ e. absurd (cc e))
choice-told sub (Offers c path) =
    sends-told (Offers c path) sub (offered sub.state c.program path) path (down.Select (sub.state.drawn + 1))
    (reply.Offered (sub.state.drawn + 1) path c.resumes) (λ e. absurd (cc e), λ e. absurd (cc e))
choice-told sub what = (λ e. absurd (cc e), λ e. absurd (cc e))

-- which path is chosen makes no difference to whether there is anything to do
abbrev picks : Option ℕ → Bool → Bool → HoldPhase → Option Candidate → Bool → Option ℕ → Chosen
picks unsent clear halt phase c reachable choice =
    chosen_of (reset_chosen unsent choice ∷ clear_chosen unsent clear ∷ halt_chosen halt phase choice ∷ offer_chosen phase c reachable choice ∷ [])

picks-idle : (unsent : Option ℕ) (clear halt : Bool) (phase : HoldPhase) (c : Option Candidate) (reachable : Bool) (a b : ℕ) →
    picks unsent clear halt phase c reachable (Some a) ≡ Idle → picks unsent clear halt phase c reachable (Some b) ≡ Idle
picks-idle (Some r) clear halt phase c reachable a b e = absurd (cc e)
picks-idle None clear true (hold.Away t) c reachable a b e = absurd (cc e)
picks-idle None clear false hold.Free (Some c) reachable a b e = absurd (cc e)
picks-idle None clear halt phase c reachable a b e = e

pub idle-whichever : (sub : Subchannel) (paths : List Bool) (one other : Option ℕ) → IsChoice paths one → IsChoice paths other →
    chosen sub one ≡ Idle → chosen sub other ≡ Idle
idle-whichever sub paths None None x y e = e
idle-whichever sub paths None (Some q) x y e = absurd (x q y)
idle-whichever sub paths (Some p) None x y e = absurd (y p x)
idle-whichever sub paths (Some p) (Some q) x y e =
    picks-idle (unsent_reset sub.state.hold) sub.state.scsw.activity.clear_pending sub.state.scsw.activity.halt_pending sub.state.hold.phase
    (candidate sub.state) (is_any (reachable_paths (path_use sub))) p q e
