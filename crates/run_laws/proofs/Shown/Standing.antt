-- Of each subchannel: the programs that are there show in the activity. One that was begun shows device active, one that waits start
-- pending, one that is suspended suspended; and one that may chain to its next command is alone, without status that shows an end.
use Rattle.std.proofs.Common.{◌≡◌, refl, sym, ◌∙◌, ap, ℕ, ◌&&◌, ◌||◌, not, Bool, true, false, Option, None, Some, inl, inr}
use Rattle.std.specs.Prelude.{if◌then◌else◌, is_some}
use Rattle.scsw_irb.specs.declared.scsw.ActivityControl.{ActivityControl}
use Rattle.scsw_irb.specs.declared.scsw.FunctionControl.{FunctionControl}
use Rattle.scsw_irb.specs.declared.scsw.Scsw.{Scsw}
use Rattle.scsw_irb.specs.declared.scsw.StatusControl.{StatusControl}
use Rattle.scsw_irb.specs.declared.status.DeviceStatus.{DeviceStatus}
use Rattle.chan_model.specs.UnitReports.{is_last_end}
use Rattle.data_move.specs.declared.transfer.Transfer.{Transfer}
use Rattle.subchannel_model.specs.declared.cause.StatusCause.{StatusCause}
use Rattle.subchannel_model.specs.declared.cause.StatusCause.TheVariants as cause
use Rattle.subchannel_model.specs.declared.state.ActiveProgram.{ActiveProgram}
use Rattle.subchannel_model.specs.declared.state.Program.{Program}
use Rattle.subchannel_model.specs.declared.state.ProgramPosition.{ProgramPosition}
use Rattle.subchannel_model.specs.declared.state.SubchannelState.{SubchannelState}
use Rattle.subchannel_model.specs.declared.status.StatusRow.{StatusRow}
use Rattle.subchannel_model.specs.Causes.{intermediate, row_of, with_status, without_begun, without_waiting, programs_after_end, with_cause, scsw_joined}
use Rattle.subchannel_model.specs.Ends.{end_shown, last_shown, work_shown}
use Rattle.subchannel_model.specs.Halt.{shows_end}
use Rattle.subchannel_model.specs.Status.{scsw_made, scsw_with_status}
use Rattle.subchannel_model.specs.Attention.{is_idle_or_start_pending}
use Rattle.run_laws.proofs.Shown.Effects.{Seen, seen, of_seen, IsStanding, IsGoing, IsTimely, Effect, Nothing, Causes, Takes, TakesAsking, Moves, MovesAsking, Suspends, SuspendsShowing, SendsHalt, taken_over, moved, still, made-functions, joined-functions}
use Rattle.run_laws.proofs.Shown.Fitting.{cause-activity, asked-functions}
use Rattle.run_laws.proofs.Shown.Holding.{none-if, none-some}

-- the start function is in progress, and no status shows an end
pub record IsClean (scsw : Scsw) : Type 0 where
  pub start : scsw.functions.start ≡ true
  pub clean : shows_end scsw.status ≡ false

pub record Stands (k : Seen) : Type 0 where
  pub begun : (b : ActiveProgram) → k.begun ≡ Some b → (k.scsw.activity.device_active ≡ true) × (k.suspended ≡ None)
  pub chains : (b : ActiveProgram) → k.begun ≡ Some b → b.transfer.unchained ≡ false → (k.scsw.activity.subchannel_active ≡ true) × (k.waiting ≡ None) × IsClean k.scsw
  pub waiting : is_some k.waiting ≡ true → k.begun ≡ None → (k.scsw.activity.start_pending ≡ true) × IsClean k.scsw
  pub alone : is_some k.waiting ≡ true → k.suspended ≡ None
  pub suspended : is_some k.suspended ≡ true → (k.scsw.activity.suspended ≡ true) × (k.waiting ≡ None) × (k.begun ≡ None) × IsClean k.scsw
  pub clears : k.scsw.activity.clear_pending ≡ true → (k.waiting ≡ None) × (k.begun ≡ None) × (k.suspended ≡ None)

-- where no program is there
pub empty-stands : (k : Seen) → k.waiting ≡ None → k.begun ≡ None → k.suspended ≡ None → Stands k
empty-stands k w b s = record {
  begun = λ x e. absurd (cc (sym e ∙ b));
  chains = λ x e u. absurd (cc (sym e ∙ b));
  waiting = λ e n. absurd (none-some k.waiting w e);
  alone = λ e. s;
  suspended = λ e. absurd (none-some k.suspended s e);
  clears = λ e. (w, b, s);
}

-- where the programs stay, and what shows them
pub record Keeps (k y : Seen) : Type 0 where
  pub waiting : y.waiting ≡ k.waiting
  pub begun : y.begun ≡ k.begun
  pub suspended : y.suspended ≡ k.suspended
  pub device : y.scsw.activity.device_active ≡ k.scsw.activity.device_active
  pub active : y.scsw.activity.subchannel_active ≡ k.scsw.activity.subchannel_active
  pub pending : y.scsw.activity.start_pending ≡ k.scsw.activity.start_pending
  pub shown : y.scsw.activity.suspended ≡ k.scsw.activity.suspended
  pub clearing : y.scsw.activity.clear_pending ≡ k.scsw.activity.clear_pending
  pub start : y.scsw.functions.start ≡ k.scsw.functions.start
  pub clean : shows_end k.scsw.status ≡ false → shows_end y.scsw.status ≡ false

pub keeps-stands : (k y : Seen) → Keeps k y → Stands k → Stands y
keeps-stands k y p t =
    let is-clean : IsClean k.scsw → IsClean y.scsw = λ c. record { start = p.start ∙ c.start; clean = p.clean c.clean } in
    record {
      begun = λ b e. let was = t.begun b (sym p.begun ∙ e) in (p.device ∙ was.0, p.suspended ∙ was.1);
      chains = λ b e u. let was = t.chains b (sym p.begun ∙ e) u in (p.active ∙ was.0, p.waiting ∙ was.1, is-clean was.2);
      waiting = λ e n. let was = t.waiting (sym (ap (λ (x : Option Program). is_some x) p.waiting) ∙ e) (sym p.begun ∙ n) in (p.pending ∙ was.0, is-clean was.1);
      alone = λ e. p.suspended ∙ t.alone (sym (ap (λ (x : Option Program). is_some x) p.waiting) ∙ e);
      suspended = λ e.
          let was = t.suspended (sym (ap (λ (x : Option ProgramPosition). is_some x) p.suspended) ∙ e) in
          (p.shown ∙ was.0, p.waiting ∙ was.1, p.begun ∙ was.2, is-clean was.3);
      clears = λ e. let was = t.clears (sym p.clearing ∙ e) in (p.waiting ∙ was.0, p.begun ∙ was.1, p.suspended ∙ was.2);
    }

-- an intermediate status shows no end
joined-end : (scsw : Scsw) (shown : StatusRow) (p i a pr s : Bool) → (p && (not i || (a || (pr || s)))) ≡ false →
    shows_end (scsw_with_status (record scsw { status = record { alert = a; intermediate = i; primary = pr; secondary = s; pending = p } }) (record shown { conditions = intermediate })).status ≡ false
joined-end scsw shown false i a pr s e = refl
joined-end scsw shown true false a pr s e = absurd (cc e)
joined-end scsw shown true true true pr s e = absurd (cc e)
joined-end scsw shown true true false true s e = absurd (cc e)
joined-end scsw shown true true false false true e = absurd (cc e)
joined-end scsw shown true true false false false e = refl

made-end : (enabled : Bool) (scsw : Scsw) (shown : StatusRow) → shows_end scsw.status ≡ false →
    shows_end (scsw_made enabled (scsw_joined enabled scsw scsw) (record shown { conditions = intermediate })).status ≡ false
made-end true scsw shown e =
    let st : StatusControl = scsw.status in joined-end scsw shown st.pending st.intermediate st.alert st.primary st.secondary e
made-end false scsw shown e = e

asked-end : (s : SubchannelState) (tried count : ℕ) → shows_end s.scsw.status ≡ false → shows_end (with_cause s (cause.Pci tried count)).scsw.status ≡ false
asked-end s tried count e = made-end s.pmcw.enabled s.scsw (row_of s (cause.Pci tried count)).shown e

suspension-end : (s : SubchannelState) (tried count : ℕ) → shows_end s.scsw.status ≡ false → shows_end (with_cause s (cause.Suspension tried count)).scsw.status ≡ false
suspension-end s tried count e = made-end s.pmcw.enabled s.scsw (row_of s (cause.Suspension tried count)).shown e

suspension-functions : (s : SubchannelState) (tried count : ℕ) → (with_cause s (cause.Suspension tried count)).scsw.functions ≡ s.scsw.functions
suspension-functions s tried count =
    made-functions s.pmcw.enabled (scsw_joined s.pmcw.enabled s.scsw s.scsw) (row_of s (cause.Suspension tried count)).shown
    ∙ joined-functions s.pmcw.enabled s.scsw s.scsw refl

asked-keeps : (s : SubchannelState) (tried count : ℕ) → Keeps (seen s) (seen (with_cause s (cause.Pci tried count)))
asked-keeps s tried count =
    let a : (with_cause s (cause.Pci tried count)).scsw.activity ≡ s.scsw.activity = cause-activity s (cause.Pci tried count) in
    record {
      waiting = refl;
      begun = refl;
      suspended = refl;
      device = ap (λ (x : ActivityControl). x.device_active) a;
      active = ap (λ (x : ActivityControl). x.subchannel_active) a;
      pending = ap (λ (x : ActivityControl). x.start_pending) a;
      shown = ap (λ (x : ActivityControl). x.suspended) a;
      clearing = ap (λ (x : ActivityControl). x.clear_pending) a;
      start = ap (λ (x : FunctionControl). x.start) (asked-functions s tried count);
      clean = asked-end s tried count;
    }

-- a program that stands, or goes on
standing-clean : (k : Seen) → Stands k → IsStanding k → k.begun ≡ None → IsClean k.scsw
standing-clean k t stands none = by k.waiting refl k.suspended refl
  where
    by : (w : Option Program) → k.waiting ≡ w → (s : Option ProgramPosition) → k.suspended ≡ s → IsClean k.scsw
    by (Some w) e s f = (t.waiting (ap (λ (x : Option Program). is_some x) e) none).1
    by None e (Some s) f = (t.suspended (ap (λ (x : Option ProgramPosition). is_some x) f)).3
    by None e None f = absurd (stands e f)

going-clean : (H : Type 0) (k : Seen) → H → Stands k → IsGoing H k → IsClean k.scsw
going-clean H k h t g =
    elim g [
      | inl p ↦ standing-clean k t p.0 (p.1 h)
      | inr p ↦ (t.chains p.0 p.1 p.2).2
    ]

-- a status that is made
end-active : (scsw : Scsw) (b : ActiveProgram) (w : Option Program) (status : DeviceStatus) (more last : Bool) → last ≡ false →
    ((if last then last_shown scsw b w status more else work_shown scsw b status more false).activity.device_active ≡ true)
    × ((if last then last_shown scsw b w status more else work_shown scsw b status more false).activity.clear_pending ≡ false)
end-active scsw b w status more false e = (refl, refl)
end-active scsw b w status more true e = absurd (cc e)

after_end-stands : (s : SubchannelState) (b : ActiveProgram) (scsw : Scsw) (shown : StatusRow) (last : Bool) → Stands (seen s) → s.begun ≡ Some b →
    (last ≡ false → ((with_status (record (programs_after_end s b last) { scsw = scsw }) shown).scsw.activity.device_active ≡ true)
    × ((with_status (record (programs_after_end s b last) { scsw = scsw }) shown).scsw.activity.clear_pending ≡ false)) →
    Stands (seen (with_status (record (programs_after_end s b last) { scsw = scsw }) shown))
after_end-stands s b scsw shown true t e f = empty-stands _ refl refl refl
after_end-stands s b scsw shown false t e f = record {
  begun = λ x i. ((f refl).0, (t.begun b e).1);
  chains = λ x i u. absurd (chained x i u);
  waiting = λ i n. absurd (cc n);
  alone = t.alone;
  suspended = λ i. absurd (cc (sym (t.suspended i).2 ∙ e));
  clears = λ i. absurd (cc (sym i ∙ (f refl).1));
}
  where
    chained : (x : ActiveProgram) → Some (Rattle.subchannel_model.specs.Ends.has_shown b) ≡ Some x → x.transfer.unchained ≡ false → ⊥
    chained x i u = let same : Rattle.subchannel_model.specs.Ends.has_shown b ≡ x = cc i in cc (sym u ∙ ap (λ (y : ActiveProgram). y.transfer.unchained) (sym same))

begun-stands : (H : Type 0) (s : SubchannelState) (scsw : Scsw) (shown : StatusRow) (o : Option ActiveProgram) → H → Stands (seen s) → s.begun ≡ o → IsGoing H (seen s) →
    Stands (seen (with_status (record (without_begun o s) { scsw = scsw }) shown))
begun-stands H s scsw shown None h t e g = empty-stands _ refl e refl
begun-stands H s scsw shown (Some b) h t e g = empty-stands _ (alone g) refl (t.begun b e).1
  where
    alone : IsGoing H (seen s) → s.waiting ≡ None
    alone g =
        elim g [
          | inl p ↦ absurd (cc (sym e ∙ p.1 h))
          | inr p ↦ (t.chains p.0 p.1 p.2).1
        ]

waiting-stands : (s : SubchannelState) (scsw : Scsw) (shown : StatusRow) (w : Option Program) → Stands (seen s) → s.waiting ≡ w → s.begun ≡ None →
    Stands (seen (with_status (record (without_waiting w s) { scsw = scsw }) shown))
waiting-stands s scsw shown None t e none = empty-stands _ e none refl
waiting-stands s scsw shown (Some w) t e none = empty-stands _ refl none (t.alone (ap (λ (x : Option Program). is_some x) e))

pub or-right : (a b : Bool) → (a || b) ≡ false → b ≡ false
or-right true b e = absurd (cc e)
or-right false b e = e

or-left : (a b : Bool) → (a || b) ≡ false → a ≡ false
or-left true b e = absurd (cc e)
or-left false b e = refl

pub open-none : (pending : Bool) (a : ActivityControl) → (not pending && is_idle_or_start_pending a) ≡ true → (a.device_active ≡ false) × (a.suspended ≡ false)
open-none true a e = absurd (cc e)
open-none false a e =
    let all : (a.resume_pending || (a.halt_pending || (a.clear_pending || (a.subchannel_active || (a.device_active || a.suspended))))) ≡ false = not-true _ e in
    let last : (a.device_active || a.suspended) ≡ false =
    or-right a.subchannel_active _ (or-right a.clear_pending _ (or-right a.halt_pending _ (or-right a.resume_pending _ all))) in
    (or-left a.device_active a.suspended last, or-right a.device_active a.suspended last)
  where
    not-true : (b : Bool) → not b ≡ true → b ≡ false
    not-true true e = absurd (cc e)
    not-true false e = refl

pub none-begun : (k : Seen) → Stands k → k.scsw.activity.device_active ≡ false → k.begun ≡ None
none-begun k t e = by k.begun refl
  where
    by : (o : Option ActiveProgram) → k.begun ≡ o → o ≡ None
    by None i = refl
    by (Some b) i = absurd (cc (sym (t.begun b i).0 ∙ e))

caused-stands : (H : Type 0) (s : SubchannelState) (c : StatusCause) → H → IsTimely H (seen s) c → Stands (seen s) → Stands (seen (with_cause s c))
caused-stands H s (cause.End b status more) h timely t =
    let c : StatusCause = cause.End b status more in
    after_end-stands s b (scsw_joined s.pmcw.enabled s.scsw s.scsw) (end_shown s b status more) (is_last_end status) t timely
    (λ e. let was = end-active s.scsw b s.waiting status more (is_last_end status) e in (
      ap (λ (x : ActivityControl). x.device_active) (cause-activity s c) ∙ was.0,
      ap (λ (x : ActivityControl). x.clear_pending) (cause-activity s c) ∙ was.1,
    ))
caused-stands H s (cause.FetchFault tried check count) h timely t =
    begun-stands H s (scsw_joined s.pmcw.enabled s.scsw s.scsw) (row_of s (cause.FetchFault tried check count)).shown s.begun h t refl timely
caused-stands H s cause.Attention h timely t =
    let o = open-none s.scsw.status.pending s.scsw.activity timely in
    empty-stands _ refl (none-begun (seen s) t o.0) (none-if s.suspended (λ e. cc (sym (t.suspended e).0 ∙ o.1)))
caused-stands H s cause.NoPath h timely t =
    waiting-stands s (scsw_joined s.pmcw.enabled s.scsw s.scsw) (row_of s cause.NoPath).shown s.waiting t refl (timely h)
caused-stands H s cause.InterfaceControlCheck h timely t = empty-stands _ refl refl refl
caused-stands H s (cause.Pci tried count) h timely t = absurd timely
caused-stands H s (cause.Suspension tried count) h timely t = absurd timely
caused-stands H s cause.ClearDone h timely t = let was = t.clears timely in empty-stands _ was.0 was.1 was.2
caused-stands H s cause.HaltDone h timely t = empty-stands _ refl refl refl

taken-stands : (k : Seen) (program : Program) (transfer : Transfer) → Stands k → IsStanding k → k.begun ≡ None → Stands (seen (taken_over k program transfer))
taken-stands k program transfer t stands none =
    let c : IsClean k.scsw = standing-clean k t stands none in
    record {
      begun = λ b e. (refl, refl);
      chains = λ b e u. (refl, refl, record { start = c.start; clean = c.clean });
      waiting = λ e n. absurd (cc e);
      alone = λ e. refl;
      suspended = λ e. absurd (cc e);
      clears = λ e. let was = t.clears e in absurd (stands was.0 was.2);
    }

moved-stands : (k : Seen) (b : ActiveProgram) (transfer : Transfer) → Stands k → k.begun ≡ Some b → (transfer.unchained ≡ false → b.transfer.unchained ≡ false) →
    Stands (seen (moved k b transfer))
moved-stands k b transfer t e f = record {
  begun = λ x i. t.begun b e;
  chains = λ x i u. t.chains b e (f (is x i u));
  waiting = λ i n. absurd (cc n);
  alone = t.alone;
  suspended = λ i. absurd (cc (sym (t.suspended i).2 ∙ e));
  clears = λ i. absurd (cc (sym (t.clears i).1 ∙ e));
}
  where
    is : (x : ActiveProgram) → Some (record b { transfer = transfer }) ≡ Some x → x.transfer.unchained ≡ false → transfer.unchained ≡ false
    is x i u = let same : record b { transfer = transfer } ≡ x = cc i in ap (λ (y : ActiveProgram). y.transfer.unchained) same ∙ u

still-stands : (k : Seen) (y : Seen) → y.waiting ≡ None → y.begun ≡ None → is_some y.suspended ≡ true → y.scsw.activity.suspended ≡ true → y.scsw.activity.clear_pending ≡ false → IsClean y.scsw →
    Stands y
still-stands k y w b s a c clean = record {
  begun = λ x e. absurd (cc (sym e ∙ b));
  chains = λ x e u. absurd (cc (sym e ∙ b));
  waiting = λ e n. absurd (none-some y.waiting w e);
  alone = λ e. absurd (none-some y.waiting w e);
  suspended = λ e. (a, w, b, clean);
  clears = λ e. absurd (cc (sym e ∙ c));
}

pub effect-stands : (H : Type 0) (k : Seen) (n : ℕ) (y : Seen) → Effect H k n y → H → Stands k → Stands y
effect-stands H k _ _ Nothing h t = t
effect-stands H k _ _ (Causes c timely) h t = caused-stands H (of_seen k) c h timely (record { begun = t.begun; chains = t.chains; waiting = t.waiting; alone = t.alone; suspended = t.suspended; clears = t.clears })
effect-stands H k _ _ (Takes program transfer stands none) h t = taken-stands k program transfer t stands (none h)
effect-stands H k _ _ (TakesAsking program transfer tried count stands none) h t =
    keeps-stands _ _ (asked-keeps (taken_over k program transfer) tried count) (taken-stands k program transfer t stands (none h))
effect-stands H k _ _ (Moves b transfer e chains) h t = moved-stands k b transfer t e chains
effect-stands H k _ _ (MovesAsking b transfer tried count e chains) h t =
    keeps-stands _ _ (asked-keeps (moved k b transfer) tried count) (moved-stands k b transfer t e chains)
effect-stands H k _ _ (Suspends program walk count runs) h t =
    let c : IsClean k.scsw = going-clean H k h t runs in still-stands k _ refl refl refl refl refl (record { start = c.start; clean = c.clean })
effect-stands H k _ _ (SuspendsShowing program walk count runs) h t =
    let c : IsClean k.scsw = going-clean H k h t runs in
    let x : SubchannelState = still k program walk count in
    let a : (with_cause x (cause.Suspension walk.tried count)).scsw.activity ≡ (row_of x (cause.Suspension walk.tried count)).shown.activity = cause-activity x (cause.Suspension walk.tried count) in
    still-stands k (seen (with_cause x (cause.Suspension walk.tried count))) refl refl refl (ap (λ (z : ActivityControl). z.suspended) a) (ap (λ (z : ActivityControl). z.clear_pending) a)
    (record { start = ap (λ (z : FunctionControl). z.start) (suspension-functions x walk.tried count) ∙ c.start; clean = suspension-end x walk.tried count c.clean })
effect-stands H k _ _ SendsHalt h t =
    keeps-stands k _ (record { waiting = refl; begun = refl; suspended = refl; device = refl; active = refl; pending = refl; shown = refl; clearing = refl; start = refl; clean = λ e. e }) t
