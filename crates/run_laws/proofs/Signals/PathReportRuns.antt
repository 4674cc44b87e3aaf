-- After each run the states of channel paths, the resets that are asked for and the reports that wait are those that are seen: each entry
-- is right.
use Rattle.std.proofs.Common.{◌≡◌, refl, sym, ◌∙◌, ap, subst, ℕ, zero, suc, ◌/◌, ◌<◌, ◌==◌, lit<, Bool, true, false, Option, None, Some, List, [], ◌∷◌, ◌++◌, length, replicate, take, drop, slice_get, slice_set, slice_index_or, if◌then◌else◌, inl, inr, arith}
use Rattle.std.proofs.lemmas.Bool.{eqb-true}
use Rattle.std.proofs.lemmas.List.{length-set, length-replicate}
use Rattle.std.proofs.lemmas.List.FromFn.{get_or-map-range_with_len, length-map-range_with_len}
use Rattle.std.proofs.lemmas.Nat.{mod_below}
use Rattle.zbits.specs.Bits.{weight, field_of}
use Rattle.chan_events.specs.Events.{Event}
use Rattle.chan_events.specs.declared.reply.Entry.{Entry}
use Rattle.chan_events.specs.Replies.{Reply}
use Rattle.chan_events.specs.declared.reply.Reply.TheVariants as reply
use Rattle.chan_model.specs.ConditionCodes.{rchp_code}
use Rattle.channel_config.specs.declared.parts.PathReturn.{PathReturn}
use Rattle.channel_config.specs.Choices.{back_report}
use Rattle.channel_config.specs.Setup.{Setup, has_number}
use Rattle.channel_reports.specs.Queue as reports
use Rattle.channel_reports.specs.Queue.{WaitingReports, sixteenth_marked}
use Rattle.scsw_irb.specs.declared.crw.Crw.{Crw}
use Rattle.scsw_irb.specs.declared.crw.PathReport.{PathReport}
use Rattle.scsw_irb.specs.declared.crw.PathReport.TheVariants as report
use Rattle.machine_model.specs.OtherSteps.{is_up}
use Rattle.machine_model.specs.State.{State, configured_paths, opening_of}
use Rattle.machine_model.specs.Steps.{Run, Opened, Stepped, Step}
use Rattle.run_laws.proofs.Machine.SweptPaths.{set-here, set-other, set-default}
use Rattle.step_laws.proofs.Indices.{same-or-not}
use Rattle.run_laws.specs.Links.{with_up}
use Rattle.run_laws.specs.PathReports.{PathsSeen, marked, queued, reported, asked_by, paths_after, reset_code, IsEntryRight, AnswersByPaths}
use Rattle.run_laws.specs.Entries.{seen_through}
use Rattle.run_laws.proofs.Machine.Appending.{through-more, claim-more}
use Rattle.run_laws.proofs.Signals.LinkPaths.{up-here, up-other, there-is}
use Rattle.chan_model.specs.declared.answer.ConditionCode.{ConditionCode}
use Rattle.step_laws.proofs.Results as turn
use Rattle.step_laws.proofs.Results.{ResultOf, HasResult, step-turn}

record IsSeen (k : PathsSeen) (up : List Bool) (w : WaitingReports) : Type 0 where
  up_seen : (c : ℕ) → c < 0x100 → k.up c ≡ is_up up c
  asked_seen : (c : ℕ) → k.asked c ≡ reports.is_asked w c
  reports_seen : k.reports ≡ w.reports
  all_up : length up ≡ 0x100
  all_asked : length w.asked ≡ 0x100

-- one of the flags is set
flag-off : (flags : List Bool) (f : ℕ → Bool) (chpid c : ℕ) → f c ≡ slice_index_or flags c false → with_up chpid false f c ≡ slice_index_or (slice_set flags chpid false) c false
flag-off flags f chpid c e =
    elim (same-or-not c chpid) [
      | inl h ↦ up-here chpid c false f h.0 ∙ sym (ap (λ (n : ℕ). slice_index_or (slice_set flags chpid false) n false) h.0 ∙ set-default flags chpid false)
      | inr n ↦ up-other chpid c false f n.0 ∙ e ∙ sym (set-other flags chpid false c false n.0)
    ]

flag-on : (flags : List Bool) (f : ℕ → Bool) (chpid c : ℕ) → (c ≡ chpid → chpid < length flags) → f c ≡ slice_index_or flags c false → with_up chpid true f c ≡ slice_index_or (slice_set flags chpid true) c false
flag-on flags f chpid c l e =
    elim (same-or-not c chpid) [
      | inl h ↦ up-here chpid c true f h.0 ∙ sym (ap (λ (n : ℕ). slice_index_or (slice_set flags chpid true) n false) h.0 ∙ set-here flags chpid true false (l h.0))
      | inr n ↦ up-other chpid c true f n.0 ∙ e ∙ sym (set-other flags chpid true c false n.0)
    ]

flag-again : (flags : List Bool) (f : ℕ → Bool) (chpid c : ℕ) → chpid < length flags → slice_index_or flags chpid false ≡ true → f c ≡ slice_index_or flags c false →
    f c ≡ slice_index_or (slice_set flags chpid true) c false
flag-again flags f chpid c l on e =
    elim (same-or-not c chpid) [
      | inl h ↦
          e ∙ ap (λ (n : ℕ). slice_index_or flags n false) h.0 ∙ on
          ∙ sym (ap (λ (n : ℕ). slice_index_or (slice_set flags chpid true) n false) h.0 ∙ set-here flags chpid true false l)
      | inr n ↦ e ∙ sym (set-other flags chpid true c false n.0)
    ]

-- a report comes
full-is : (xs : List Crw) (o : Option Crw) → slice_get xs 15 ≡ o → length xs ≡ 16 → (take 15 xs ++ marked o) ≡ sixteenth_marked xs o
full-is xs None e long = let there = there-is xs 15 (omega (arith, long)) in absurd (cc (sym e ∙ there.1))
full-is xs (Some last) e long = refl

queue-is : (xs : List Crw) (crw : Crw) (b : Bool) → (length xs == 16) ≡ b →
    (if b then take 15 xs ++ marked (slice_get xs 15) else xs ++ crw ∷ []) ≡ (if b then sixteenth_marked xs (slice_get xs 15) else xs ++ crw ∷ [])
queue-is xs crw true e = full-is xs (slice_get xs 15) refl (eqb-true (length xs) 16 e)
queue-is xs crw false e = refl

queued-is : (xs : List Crw) (crw : Crw) → queued xs crw ≡ reports.added xs crw
queued-is xs crw = queue-is xs crw (length xs == 16) refl

report-is : (xs ys : List Crw) (what : PathReport) (chpid : ℕ) → xs ≡ ys → reported what chpid xs ≡ reports.added ys (record { report = what; overflow = false; path = chpid })
report-is xs ys what chpid e = ap (λ (zs : List Crw). reported what chpid zs) e ∙ queued-is ys _

-- the steps
down-seen : (k : PathsSeen) (s : State) (chpid : ℕ) → IsSeen k s.up s.reports →
    IsSeen (record { up = with_up chpid false k.up; asked = with_up chpid false k.asked; reports = reported report.Lost chpid k.reports }) (slice_set s.up chpid false)
    (reports.with_report (reports.with_asked s.reports chpid false) report.Lost chpid)
down-seen k s chpid seen = record {
  up_seen = λ c l. flag-off s.up k.up chpid c (seen.up_seen c l);
  asked_seen = λ c. flag-off s.reports.asked k.asked chpid c (seen.asked_seen c);
  reports_seen = report-is k.reports s.reports.reports report.Lost chpid seen.reports_seen;
  all_up = length-set s.up chpid false ∙ seen.all_up;
  all_asked = length-set s.reports.asked chpid false ∙ seen.all_asked;
}

back-seen : (k : PathsSeen) (s : State) (chpid : ℕ) → IsSeen k s.up s.reports →
    IsSeen (record k { up = with_up chpid true k.up; reports = reported (back_report s.path_return) chpid k.reports }) (slice_set s.up chpid true)
    (reports.with_report s.reports (back_report s.path_return) chpid)
back-seen k s chpid seen = record {
  up_seen = λ c l. flag-on s.up k.up chpid c (λ e. let long : length s.up ≡ 0x100 = seen.all_up in omega (arith, l, e, long)) (seen.up_seen c l);
  asked_seen = seen.asked_seen;
  reports_seen = report-is k.reports s.reports.reports (back_report s.path_return) chpid seen.reports_seen;
  all_up = length-set s.up chpid true ∙ seen.all_up;
  all_asked = seen.all_asked;
}

done-seen : (k : PathsSeen) (s : State) (chpid : ℕ) → IsSeen k s.up s.reports →
    IsSeen (record k { asked = with_up chpid false k.asked; reports = reported report.ResetDone chpid k.reports }) s.up
    (reports.with_report (reports.with_asked s.reports chpid false) report.ResetDone chpid)
done-seen k s chpid seen = record {
  up_seen = seen.up_seen;
  asked_seen = λ c. flag-off s.reports.asked k.asked chpid c (seen.asked_seen c);
  reports_seen = report-is k.reports s.reports.reports report.ResetDone chpid seen.reports_seen;
  all_up = seen.all_up;
  all_asked = length-set s.reports.asked chpid false ∙ seen.all_asked;
}

none-asked : (n c : ℕ) → false ≡ slice_index_or (replicate n false) c false
none-asked zero c = refl
none-asked (suc n) zero = refl
none-asked (suc n) (suc c) = none-asked n c

wiped-seen : (k : PathsSeen) (s : State) → IsSeen k s.up s.reports → IsSeen (record k { asked = λ c. false; reports = [] }) s.up reports.no_reports_wait
wiped-seen k s seen =
    record { up_seen = seen.up_seen; asked_seen = λ c. none-asked 256 c; reports_seen = refl; all_up = seen.all_up; all_asked = length-replicate 256 false }

-- RESET CHANNEL PATH
byte-low : (word : ℕ) → field_of word 24 31 < 0x100
byte-low word = mod_below (word / weight 31) 0x100 (lit< tt)

code-is : (up asked : Bool) → rchp_code up asked ≡ reset_code (record { up = λ c. up; asked = λ c. asked; reports = [] }) 0
code-is true true = refl
code-is true false = refl
code-is false true = refl
code-is false false = refl

asked-seen : (k : PathsSeen) (s : State) (chpid : ℕ) (up asked : Bool) → chpid < 0x100 → reports.is_asked s.reports chpid ≡ asked → IsSeen k s.up s.reports →
    IsSeen (record k { asked = asked_by (reply.PathReset (rchp_code up asked)) chpid k.asked }) s.up (reports.with_rchp s.reports chpid up)
asked-seen k s chpid true true low e seen = record {
  up_seen = seen.up_seen;
  asked_seen = λ c. flag-again s.reports.asked k.asked chpid c (let long : length s.reports.asked ≡ 0x100 = seen.all_asked in omega (arith, low, long)) e (seen.asked_seen c);
  reports_seen = seen.reports_seen;
  all_up = seen.all_up;
  all_asked = length-set s.reports.asked chpid true ∙ seen.all_asked;
}
asked-seen k s chpid true false low e seen = record {
  up_seen = seen.up_seen;
  asked_seen = λ c. flag-on s.reports.asked k.asked chpid c (λ h. let long : length s.reports.asked ≡ 0x100 = seen.all_asked in omega (arith, low, long)) (seen.asked_seen c);
  reports_seen = seen.reports_seen;
  all_up = seen.all_up;
  all_asked = length-set s.reports.asked chpid true ∙ seen.all_asked;
}
asked-seen k s chpid false true low e seen = seen
asked-seen k s chpid false false low e seen = seen

record IsStepSeen (back : PathReturn) (k : PathsSeen) (e : Event) (r : Reply) (new : State) : Type 0 where
  right : IsEntryRight e r k
  seen : IsSeen (paths_after back e r k) new.up new.reports
  returns : new.path_return ≡ back

asked-right : (k : PathsSeen) (s : State) (chpid : ℕ) → chpid < 0x100 → IsSeen k s.up s.reports →
    rchp_code (is_up s.up chpid) (reports.is_asked s.reports chpid) ≡ reset_code k chpid
asked-right k s chpid low seen =
    code-is (is_up s.up chpid) (reports.is_asked s.reports chpid)
    ∙ ap (λ (b : Bool). reset_code (record { up = λ c. b; asked = λ c. reports.is_asked s.reports chpid; reports = [] }) 0) (sym (seen.up_seen chpid low))
    ∙ ap (λ (b : Bool). reset_code (record { up = λ c. k.up chpid; asked = λ c. b; reports = [] }) 0) (sym (seen.asked_seen chpid))

turn-seen : (k : PathsSeen) (s : State) (e : Event) (r : Reply) (new : State) → ResultOf s e r new → IsSeen k s.up s.reports → IsStepSeen s.path_return k e r new
turn-seen k s _ _ _ (turn.AsksReset cpu path) seen =
    let chpid : ℕ = field_of path 24 31 in
    let low : chpid < 0x100 = byte-low path in
    record {
      right = ap (λ (c : ConditionCode). reply.PathReset c) (asked-right k s chpid low seen);
      seen = asked-seen k s chpid (is_up s.up chpid) (reports.is_asked s.reports chpid) low refl seen;
      returns = refl;
    }
turn-seen k s _ _ _ (turn.StoresReport cpu address) seen = record {
  right = ap (λ (xs : List Crw). reply.ChannelReport (slice_get xs 0)) (sym seen.reports_seen);
  seen = record {
    up_seen = seen.up_seen;
    asked_seen = seen.asked_seen;
    reports_seen = ap (λ (xs : List Crw). drop 1 xs) seen.reports_seen;
    all_up = seen.all_up;
    all_asked = seen.all_asked;
  };
  returns = refl;
}
turn-seen k s _ _ _ (turn.GoesDown chpid) seen = record { right = tt; seen = down-seen k s chpid seen; returns = refl }
turn-seen k s _ _ _ (turn.ComesUp chpid) seen = record { right = tt; seen = back-seen k s chpid seen; returns = refl }
turn-seen k s _ _ _ (turn.IsReset chpid asked) seen = record { right = seen.asked_seen chpid ∙ asked; seen = done-seen k s chpid seen; returns = refl }
turn-seen k s _ _ _ turn.ResetsAll seen = record { right = tt; seen = wiped-seen k s seen; returns = refl }
turn-seen k s _ _ _ t seen = record { right = tt; seen = seen; returns = refl }

step-seen : (k : PathsSeen) (s : State) (e : Event) (r : Reply) (new : State) → Step s e r new → IsSeen k s.up s.reports → IsStepSeen s.path_return k e r new
step-seen k s e r new step seen =
    let is : HasResult s e r new = step-turn s e r new step in
    let now : IsStepSeen s.path_return k e r is.left = turn-seen k s e r is.left is.turn seen in
    subst (IsStepSeen s.path_return k e r) (sym is.settles) (record { right = now.right; seen = now.seen; returns = now.returns })

-- along a run
abbrev opening_paths : Setup → PathsSeen
opening_paths setup = record { up = has_number setup.paths; asked = λ c. false; reports = [] }

configured : (paths : List ℕ) (c : ℕ) → c < 0x100 → has_number paths c ≡ is_up (configured_paths paths 0x100) c
unfolding configured_paths
configured paths c low = sym (get_or-map-range_with_len (has_number paths) 0 0x100 c c false low (omega arith))

configured-long : (paths : List ℕ) → length (configured_paths paths 0x100) ≡ 0x100
unfolding configured_paths
configured-long paths = length-map-range_with_len (has_number paths) 0 0x100

record IsRunSeen (setup : Setup) (h : List Entry) (s : State) : Type 0 where
  seen : IsSeen (seen_through (paths_after setup.path_return) (opening_paths setup) h) s.up s.reports
  right : AnswersByPaths setup h
  returns : s.path_return ≡ setup.path_return

run-seen : (setup : Setup) (h : List Entry) (s : State) → Run (opening_of setup) h s → IsRunSeen setup h s
run-seen setup _ _ Opened = record {
  seen = record {
    up_seen = configured setup.paths;
    asked_seen = λ c. none-asked 256 c;
    reports_seen = refl;
    all_up = configured-long setup.paths;
    all_asked = length-replicate 256 false;
  };
  right = tt;
  returns = refl;
}
run-seen setup _ _ (Stepped h old e r new run step) =
    let before : IsRunSeen setup h old = run-seen setup h old run in
    let k : PathsSeen = seen_through (paths_after setup.path_return) (opening_paths setup) h in
    let now : IsStepSeen setup.path_return k e r new =
    subst (λ (back : PathReturn). IsStepSeen back k e r new) before.returns (step-seen k old e r new step before.seen) in
    record {
      seen = subst (λ (y : PathsSeen). IsSeen y new.up new.reports) (sym (through-more (paths_after setup.path_return) (opening_paths setup) h e r)) now.seen;
      right = claim-more (paths_after setup.path_return) IsEntryRight (opening_paths setup) h e r before.right now.right;
      returns = now.returns;
    }

pub run-answers-by-paths : (setup : Setup) (h : List Entry) (s : State) → Run (opening_of setup) h s → AnswersByPaths setup h
run-answers-by-paths setup h s run = (run-seen setup h s run).right
