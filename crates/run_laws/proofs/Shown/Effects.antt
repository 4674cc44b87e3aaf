-- What signals, choices and lost paths do to the status of a subchannel: the kinds of changes, each with the number of statuses that it
-- makes, over what is seen of the status and the programs that are there.
use Rattle.std.proofs.Common.{◌≡◌, refl, sym, subst, ℕ, ◌≤◌, ◌&&◌, not, Bool, true, false, Option, None, Some, arith}
use Rattle.std.specs.Prelude.{if◌then◌else◌, ◌⊎◌}
use Rattle.scsw_irb.specs.declared.scsw.ActivityControl.{ActivityControl}
use Rattle.scsw_irb.specs.declared.scsw.FunctionControl.{FunctionControl}
use Rattle.scsw_irb.specs.declared.scsw.Scsw.{Scsw}
use Rattle.scsw_irb.specs.declared.serials.Serials.{Serials}
use Rattle.chan_model.specs.UnitReports.{is_last_end}
use Rattle.ccw_walk.specs.Positions.{WalkPosition}
use Rattle.data_move.specs.declared.transfer.Transfer.{Transfer}
use Rattle.subchannel_model.specs.declared.cause.StatusCause.{StatusCause}
use Rattle.subchannel_model.specs.declared.cause.StatusCause.TheVariants as cause
use Rattle.subchannel_model.specs.declared.state.ActiveProgram.{ActiveProgram}
use Rattle.subchannel_model.specs.declared.state.Program.{Program}
use Rattle.subchannel_model.specs.declared.state.ProgramPosition.{ProgramPosition}
use Rattle.subchannel_model.specs.declared.state.SubchannelState.{SubchannelState}
use Rattle.subchannel_model.specs.declared.status.StatusRow.{StatusRow}
use Rattle.subchannel_model.specs.Causes.{row_of, with_status, without_begun, without_waiting, programs_after_end, with_cause, scsw_joined}
use Rattle.subchannel_model.specs.Choosing.{halt_sent}
use Rattle.subchannel_model.specs.Ends.{end_shown}
use Rattle.subchannel_model.specs.Opening.{opening_subchannel}
use Rattle.subchannel_model.specs.Suspension.{with_suspended_program, suspended_alone}
use Rattle.subchannel_model.specs.Status.{scsw_made}
use Rattle.subchannel_model.specs.Command.{with_transfer}
use Rattle.subchannel_model.specs.Accept.{with_program_at_work}
use Rattle.subchannel_model.specs.Attention.{is_idle_or_start_pending}

-- the status word, the serials, whether the subchannel is enabled, and its programs
pub record Seen : Type 0 where
  pub scsw : Scsw
  pub serials : Serials
  pub enabled : Bool
  pub waiting : Option Program
  pub begun : Option ActiveProgram
  pub suspended : Option ProgramPosition

abbrev pub seen : SubchannelState → Seen
seen s = record { scsw = s.scsw; serials = s.serials; enabled = s.pmcw.enabled; waiting = s.waiting; begun = s.begun; suspended = s.suspended }

-- a subchannel of which this is seen
abbrev pub of_seen : Seen → SubchannelState
of_seen k = record opening_subchannel {
  pmcw = record opening_subchannel.pmcw { enabled = k.enabled };
  scsw = k.scsw;
  serials = k.serials;
  waiting = k.waiting;
  begun = k.begun;
  suspended = k.suspended;
}

abbrev pub caused : Seen → StatusCause → Seen
caused k c = seen (with_cause (of_seen k) c)

-- when a cause may come
-- a program waits, or is suspended
abbrev pub IsStanding : Seen → Type 0
IsStanding k = k.waiting ≡ None → k.suspended ≡ None → ⊥

-- a program goes on: one that stands, where none was begun, or one that was begun and may chain to its next command. H: what is known of
-- the subchannel, by which none was begun
abbrev pub IsGoing : Type 0 → Seen → Type 0
IsGoing H k = (IsStanding k × (H → k.begun ≡ None)) ⊎ ((b : ActiveProgram) × (k.begun ≡ Some b) × (b.transfer.unchained ≡ false))

abbrev pub IsTimely : Type 0 → Seen → StatusCause → Type 0
IsTimely H k (cause.FetchFault tried check count) = IsGoing H k
IsTimely H k cause.NoPath = H → k.begun ≡ None
IsTimely H k (cause.End b status more) = k.begun ≡ Some b
IsTimely H k cause.Attention = (not k.scsw.status.pending && is_idle_or_start_pending k.scsw.activity) ≡ true
IsTimely H k cause.ClearDone = k.scsw.activity.clear_pending ≡ true
IsTimely H k (cause.Pci tried count) = ⊥
IsTimely H k (cause.Suspension tried count) = ⊥
IsTimely H k c = Unit {0}

abbrev pub taken_over : Seen → Program → Transfer → SubchannelState
taken_over k program transfer = with_program_at_work (of_seen k) program transfer

abbrev pub moved : Seen → ActiveProgram → Transfer → SubchannelState
moved k b transfer = with_transfer (of_seen k) b transfer

abbrev pub still : Seen → Program → WalkPosition → ℕ → SubchannelState
still k program walk count = with_suspended_program (of_seen k) program walk count

pub data Effect (H : Type 0) (k : Seen) : ℕ → Seen → Type 0 where
  Nothing : Effect H k 0 k
  Causes : (c : StatusCause) → IsTimely H k c → Effect H k 1 (caused k c)
  Takes : (program : Program) (transfer : Transfer) → IsStanding k → (H → k.begun ≡ None) → Effect H k 0 (seen (taken_over k program transfer))
  TakesAsking : (program : Program) (transfer : Transfer) (tried count : ℕ) → IsStanding k → (H → k.begun ≡ None) →
      Effect H k 1 (seen (with_cause (taken_over k program transfer) (cause.Pci tried count)))
  Moves : (b : ActiveProgram) (transfer : Transfer) → k.begun ≡ Some b → (transfer.unchained ≡ false → b.transfer.unchained ≡ false) →
      Effect H k 0 (seen (moved k b transfer))
  MovesAsking : (b : ActiveProgram) (transfer : Transfer) (tried count : ℕ) → k.begun ≡ Some b → (transfer.unchained ≡ false → b.transfer.unchained ≡ false) →
      Effect H k 1 (seen (with_cause (moved k b transfer) (cause.Pci tried count)))
  Suspends : (program : Program) (walk : WalkPosition) (count : ℕ) → IsGoing H k →
      Effect H k 0 (seen (record (still k program walk count) { scsw = suspended_alone k.scsw }))
  SuspendsShowing : (program : Program) (walk : WalkPosition) (count : ℕ) → IsGoing H k →
      Effect H k 1 (seen (with_cause (still k program walk count) (cause.Suspension walk.tried count)))
  SendsHalt : Effect H k 0 (seen (halt_sent (of_seen k)))

-- a cause does to a subchannel what it does to what is seen of it
end-seen : (s : SubchannelState) (b : ActiveProgram) (last : Bool) (scsw : Scsw) (shown : StatusRow) →
    seen (with_status (record (programs_after_end s b last) { scsw = scsw }) shown)
    ≡ seen (with_status (record (programs_after_end (of_seen (seen s)) b last) { scsw = scsw }) shown)
end-seen s b true scsw shown = refl
end-seen s b false scsw shown = refl

begun-seen : (s : SubchannelState) (b : Option ActiveProgram) (scsw : Scsw) (shown : StatusRow) →
    seen (with_status (record (without_begun b s) { scsw = scsw }) shown) ≡ seen (with_status (record (without_begun b (of_seen (seen s))) { scsw = scsw }) shown)
begun-seen s None scsw shown = refl
begun-seen s (Some b) scsw shown = refl

waiting-seen : (s : SubchannelState) (w : Option Program) (scsw : Scsw) (shown : StatusRow) →
    seen (with_status (record (without_waiting w s) { scsw = scsw }) shown) ≡ seen (with_status (record (without_waiting w (of_seen (seen s))) { scsw = scsw }) shown)
waiting-seen s None scsw shown = refl
waiting-seen s (Some w) scsw shown = refl

cause-seen : (s : SubchannelState) (c : StatusCause) → seen (with_cause s c) ≡ caused (seen s) c
cause-seen s (cause.End b status more) = end-seen s b (is_last_end status) (scsw_joined s.pmcw.enabled s.scsw s.scsw) (end_shown s b status more)
cause-seen s (cause.FetchFault tried check count) =
    begun-seen s s.begun (scsw_joined s.pmcw.enabled s.scsw s.scsw) (row_of s (cause.FetchFault tried check count)).shown
cause-seen s cause.NoPath = waiting-seen s s.waiting (scsw_joined s.pmcw.enabled s.scsw s.scsw) (row_of s cause.NoPath).shown
cause-seen s other = refl

pub causes : (H : Type 0) (s : SubchannelState) (c : StatusCause) → IsTimely H (seen s) c → Effect H (seen s) 1 (seen (with_cause s c))
causes H s c timely = subst (λ (y : Seen). Effect H (seen s) 1 y) (sym (cause-seen s c)) (Causes c timely)

pub effect-one : (H : Type 0) (k : Seen) (n : ℕ) (y : Seen) → Effect H k n y → n ≤ 1
effect-one H k _ _ Nothing = omega arith
effect-one H k _ _ other = omega arith

-- a status that is made: the activity is what it shows, the functions are those of the word that it joins
with_status-activity : (b : Bool) (x y : Scsw) (a : ActivityControl) → x.activity ≡ a → y.activity ≡ a → (if b then x else y).activity ≡ a
with_status-activity true x y a e f = e
with_status-activity false x y a e f = f

with_status-functions : (b : Bool) (x y : Scsw) (a : FunctionControl) → x.functions ≡ a → y.functions ≡ a → (if b then x else y).functions ≡ a
with_status-functions true x y a e f = e
with_status-functions false x y a e f = f

pub made-activity : (enabled : Bool) (scsw : Scsw) (shown : StatusRow) → (scsw_made enabled scsw shown).activity ≡ shown.activity
made-activity true scsw shown = with_status-activity scsw.status.pending _ _ shown.activity refl refl
made-activity false scsw shown = refl

pub made-functions : (enabled : Bool) (scsw : Scsw) (shown : StatusRow) → (scsw_made enabled scsw shown).functions ≡ scsw.functions
made-functions true scsw shown = with_status-functions scsw.status.pending _ _ scsw.functions refl refl
made-functions false scsw shown = refl

pub joined-functions : (enabled : Bool) (scsw joins : Scsw) → joins.functions ≡ scsw.functions → (scsw_joined enabled scsw joins).functions ≡ scsw.functions
joined-functions true scsw joins e = e
joined-functions false scsw joins e = refl
