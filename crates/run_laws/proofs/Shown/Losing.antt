-- What the loss of a path, and a Notice, make of a program that is offered or holds the device.
use Rattle.std.proofs.Common.{◌≡◌, refl, sym, ◌∙◌, ap, subst, arith, ℕ, ◌+◌, ◌<◌, ◌&&◌, ◌||◌, not, Bool, true, false, Option, None, Some, inl, inr}
use Rattle.std.specs.Prelude.{if◌then◌else◌, is_some}
use Rattle.std.proofs.lemmas.Bool.{and_parts}
use Rattle.chan_model.specs.declared.hold_state.HoldPhase.{HoldPhase}
use Rattle.chan_model.specs.declared.hold_state.HoldPhase.TheVariants as hold
use Rattle.chan_model.specs.ResetCauses.{is_path, rests_on}
use Rattle.channel_config.specs.declared.parts.SubchannelSetup.{SubchannelSetup}
use Rattle.channel_config.specs.Setup.{are_distinct}
use Rattle.subchannel_model.specs.declared.state.Subchannel.{Subchannel}
use Rattle.subchannel_model.specs.declared.state.SubchannelState.{SubchannelState}
use Rattle.subchannel_model.specs.Losing.{is_offered_or_held, reset_with, reset_for, path_index, loses_at}
use Rattle.subchannel_model.specs.Programs.{has_any}
use Rattle.subchannel_model.specs.Status.{serials_made}
use Rattle.subchannel_model.specs.Notice.{with_known}
use Rattle.subchannel_model.specs.Outcomes.{signal_taken, signal_ignored}
use Rattle.run_laws.proofs.Shown.Effects.{seen}
use Rattle.run_laws.proofs.Shown.Fitting.{Fits}
use Rattle.run_laws.proofs.Shown.Showing.{TellsPrograms}
use Rattle.run_laws.specs.Links.{Link, SubSeen, used_by, is_apart, is_on}
use Rattle.run_laws.proofs.Signals.LinkHolds.{link_at, Stands, IsDoubtful, IsHeldAs}
use Rattle.run_laws.proofs.Signals.LinkLosses.{Agree, IsUnseen, agree}
use Rattle.run_laws.proofs.Signals.LinkPaths.{index-is, on-none}
use Rattle.run_laws.proofs.Signals.LinkSubs.{same-setup}
use Rattle.run_laws.specs.LostPrograms.{is_program, is_lost_with, may_be_lost_with}

abbrev pub holds : SubchannelState → Bool
holds s = is_offered_or_held s.hold.phase

abbrev pub has_program : SubchannelState → Bool
has_program s = has_any s.waiting s.begun s.suspended

both : (a b : Bool) → a ≡ true → b ≡ true → (a && b) ≡ true
both true b e f = f
both false b e f = absurd (cc e)

-- where the activity shows a program, one is there
abbrev IsShownBy : SubchannelState → Bool → Type 0
IsShownBy s start = (start || (s.scsw.activity.device_active || s.scsw.activity.suspended)) ≡ true

pub there-where-shown : (s : SubchannelState) → Fits (seen s) → TellsPrograms s → IsShownBy s s.scsw.activity.start_pending → has_program s ≡ true
there-where-shown s fits tells e = by s.scsw.activity.start_pending refl e
  where
    first : (a b : Bool) → a ≡ true → (a || b) ≡ true
    first true b f = refl
    first false b f = absurd (cc f)

    second : (a b : Bool) → b ≡ true → (a || b) ≡ true
    second true b f = refl
    second false b f = f

    by : (start : Bool) → s.scsw.activity.start_pending ≡ start → IsShownBy s start → has_program s ≡ true
    by true f e = first (is_some s.waiting) _ (fits.starts f)
    by false f e =
        second (is_some s.waiting) _
        (sym (ap (λ (b : Bool). b || s.scsw.activity.suspended) tells.device ∙ ap (λ (b : Bool). is_some s.begun || b) tells.suspended) ∙ e)

-- where the hold has the program, and where it is seen
program-at : (phase : HoldPhase) (sent : Option ℕ) → is_program (link_at phase sent) ≡ is_offered_or_held phase
program-at (hold.Reset r) None = refl
program-at (hold.Reset r) (Some path) = refl
program-at other sent = refl

seen-there : (k : SubSeen) (phase : HoldPhase) (sent : Option ℕ) → Stands k phase sent → is_offered_or_held phase ≡ true → is_program k.link ≡ true
seen-there k phase sent (inl e) h = ap is_program e ∙ program-at phase sent ∙ h
seen-there k phase sent (inr d) h = ap is_program d.apart

there-seen : (k : SubSeen) (phase : HoldPhase) (sent : Option ℕ) → Stands k phase sent → (IsDoubtful k phase sent → ⊥) → is_program k.link ≡ true → is_offered_or_held phase ≡ true
there-seen k phase sent (inl e) n h = sym (program-at phase sent) ∙ (sym (ap is_program e) ∙ h)
there-seen k phase sent (inr d) n h = absurd (n d)

-- what makes a status as a hold comes to be reset
reset-made : (s : SubchannelState) (shows : Bool) → s.serials.made < (reset_with s shows).serials.made → shows ≡ true
reset-made s true more = refl
reset-made s false more = absurd (omega (arith, more))

reset_for-made : (s : SubchannelState) → s.serials.made < (reset_for s).serials.made → holds s ≡ true
reset_for-made s more = (and_parts (holds s) (has_program s) (reset-made s (holds s && has_program s) more)).0

reset-counts : (s : SubchannelState) (shows : Bool) → shows ≡ true → s.pmcw.enabled ≡ true → s.serials.made < (reset_with s shows).serials.made
reset-counts s false e f = absurd (cc e)
reset-counts s true e f =
    let counts : (reset_with s true).serials.made ≡ s.serials.made + 1 = ap (λ (b : Bool). (serials_made b s.serials).made) f in
    omega (arith, counts)

reset_for-counts : (s : SubchannelState) → holds s ≡ true → has_program s ≡ true → s.pmcw.enabled ≡ true → s.serials.made < (reset_for s).serials.made
reset_for-counts s h p = reset-counts s (holds s && has_program s) (both (holds s) (has_program s) h p)

-- a Notice
abbrev pub noticed : SubchannelState → ℕ → Bool → SubchannelState
noticed s b more = (if more then signal_taken (reset_for (with_known s b)) else signal_ignored s).state

module _ (k : SubSeen) (s : SubchannelState) (tie : IsHeldAs k s.hold s.drawn) where
  pub notice-made : (b : ℕ) (more : Bool) → s.serials.made < (noticed s b more).serials.made → (is_program k.link && more) ≡ true
  notice-made b true more = both (is_program k.link) true (seen-there k s.hold.phase s.hold.reset_path tie.stands (reset_for-made (with_known s b) more)) refl
  notice-made b false more = absurd (omega (arith, more))

  pub notice-due : (b : ℕ) (more : Bool) → (is_program k.link && (more && not k.doubt)) ≡ true → has_program s ≡ true → s.pmcw.enabled ≡ true → s.serials.made < (noticed s b more).serials.made
  notice-due b more e p f =
      let parts = and_parts (is_program k.link) (more && not k.doubt) e in
      let taken = and_parts more (not k.doubt) parts.1 in
      by more taken.0 (there-seen k s.hold.phase s.hold.reset_path tie.stands (λ d. cc (sym (ap not d.doubt) ∙ taken.1)) parts.0)
    where
      by : (more : Bool) → more ≡ true → holds s ≡ true → s.serials.made < (noticed s b more).serials.made
      by true e h = reset_for-counts (with_known s b) h p f
      by false e h = absurd (cc e)

  -- a path of the subchannel
  lost-parts : (b : Bool) → s.serials.made < (if b then reset_for s else s).serials.made → (b ≡ true) × (holds s ≡ true)
  lost-parts true more = (refl, reset_for-made s more)
  lost-parts false more = absurd (omega (arith, more))

  unless : (used more : Bool) → (used ≡ false → more ≡ true) → (used || more) ≡ true
  unless true more f = refl
  unless false more f = f refl

  path-made : (p : ℕ) → s.serials.made < (if rests_on s.hold p then reset_for s else s).serials.made →
      (is_program k.link && (is_path (used_by k.link) p || (is_apart k.link && is_path k.first p))) ≡ true
  path-made p more =
      let lost = lost-parts (rests_on s.hold p) more in
      let a : Agree k s.hold p = agree k s.hold s.drawn p tie tie.stands in
      both (is_program k.link) _ (seen-there k s.hold.phase s.hold.reset_path tie.stands lost.1)
      (unless (is_path (used_by k.link) p) _ (λ e. apart-first (a.unseen e lost.0)))
    where
      apart-first : IsUnseen k p → (is_apart k.link && is_path k.first p) ≡ true
      apart-first u = both (is_apart k.link) (is_path k.first p) (ap is_apart u.apart) u.first

  path-due : (p : ℕ) → (is_program k.link && is_path (used_by k.link) p) ≡ true → has_program s ≡ true → s.pmcw.enabled ≡ true →
      s.serials.made < (if rests_on s.hold p then reset_for s else s).serials.made
  path-due p e program f =
      let parts = and_parts (is_program k.link) (is_path (used_by k.link) p) e in
      let a : Agree k s.hold p = agree k s.hold s.drawn p tie tie.stands in
      by (rests_on s.hold p) (a.seen parts.1)
      (there-seen k s.hold.phase s.hold.reset_path tie.stands (λ d. cc (sym (ap (λ (l : Link). is_path (used_by l) p) d.apart) ∙ parts.1)) parts.0)
    where
      by : (b : Bool) → b ≡ true → holds s ≡ true → s.serials.made < (if b then reset_for s else s).serials.made
      by true e h = reset_for-counts s h program f
      by false e h = absurd (cc e)

-- a channel path
module _ (k : SubSeen) (sub : Subchannel) (chpid : ℕ) (setup : k.setup ≡ sub.setup) (distinct : are_distinct sub.setup.paths ≡ true) (tie : IsHeldAs k sub.state.hold sub.state.drawn) where
  on-index : (o : Option ℕ) (p : ℕ) → path_index chpid sub.setup.paths ≡ Some p → is_on k.setup o chpid ≡ is_path o p
  on-index o p e = same-setup k sub o chpid p setup distinct (index-is chpid sub.setup.paths p e)

  pub loses-made : (o : Option ℕ) → path_index chpid sub.setup.paths ≡ o → sub.state.serials.made < (loses_at o sub).state.serials.made → (is_program k.link && may_be_lost_with k chpid) ≡ true
  loses-made None e more = absurd (omega (arith, more))
  loses-made (Some p) e more =
      subst (λ (b : Bool). (is_program k.link && (b || (is_apart k.link && is_on k.setup k.first chpid))) ≡ true) (sym (on-index (used_by k.link) p e))
      (subst (λ (b : Bool). (is_program k.link && (is_path (used_by k.link) p || (is_apart k.link && b))) ≡ true) (sym (on-index k.first p e))
      (path-made k sub.state tie p more))

  pub loses-due : (o : Option ℕ) → path_index chpid sub.setup.paths ≡ o → (is_program k.link && is_lost_with k chpid) ≡ true → has_program sub.state ≡ true → sub.state.pmcw.enabled ≡ true →
      sub.state.serials.made < (loses_at o sub).state.serials.made
  loses-due None e lost program f =
      let off : is_on k.setup (used_by k.link) chpid ≡ false =
      ap (λ (s : SubchannelSetup). is_on s (used_by k.link) chpid) setup ∙ on-none sub.setup (used_by k.link) chpid e in
      absurd (cc (sym off ∙ (and_parts (is_program k.link) (is_lost_with k chpid) lost).1))
  loses-due (Some p) e lost program f =
      path-due k sub.state tie p (subst (λ (b : Bool). (is_program k.link && b) ≡ true) (on-index (used_by k.link) p e) lost) program f
