-- When an audit fails.
use Rattle.std.proofs.Common.{◌≡◌, ◌≢◌, ℕ, Bool, true, false, List, Option, None, Some, refl, sym, ap, subst, inl, inr, map}
use Rattle.channel_config.specs.Setup.{Setup}
use Rattle.core_lock.specs.Seats.{Seated}
use Rattle.script.specs.Pieces.{lines_of}
use Rattle.script.specs.Scripts.{ScriptContents, IsScript}
use Rattle.script.specs.declared.Line.{Line}
use Rattle.script.specs.declared.RaceLine.{RaceLine}
use Rattle.script_runner.specs.Acting.{Installed, IsOpening}
use Rattle.script_runner.specs.Audits.{FailsByRace}
use Rattle.script_runner.specs.Performing.{HasPerformed, HasStopped}
use Rattle.script_runner.specs.Serving.{FailsAudit, HasNoScript, IsRunOf, IsRaceOf, Serves, ServesRace, RunsOrRaces, TellsAudit, TellsNoMemoryBy}
use Rattle.script_runner.specs.declared.Ending.{Ending}
use Rattle.script_runner.specs.declared.Ending.TheVariants.{AuditFailed}
use Rattle.script_runner.proofs.Logged.{Kept, acted, ran}
use Rattle.streams.specs.Sinks.{Seen}

opens : (setup : Setup) (i : Installed) → IsOpening setup i → Kept i
opens setup i opening = subst (λ (x : Installed). Kept x) (sym opening.0) (record { beside = refl; logged = sym (ap (λ (s : Seated). s.log) opening.1.0) })

performed : (short : Bool) (old last : Installed) (lines : List Line) (held now : Seen) (refused : Bool) → HasPerformed short old lines held now refused last → Kept old → Kept last
performed short old last lines held now refused done k = ran old (map (λ l. l.action) lines) done.outcomes last done.runs k

stopped : (short : Bool) (old last : Installed) (lines : List Line) (held now : Seen) (refused : Bool) → HasStopped short old lines held now refused last → Kept old → Kept last
stopped short old last lines held now refused stop k =
    acted stop.middle stop.last.action stop.stopped.outcome last stop.stopped.acts (performed short old stop.middle _ held stop.between stop.earlier stop.performed k)

told : (short : Bool) (old last : Installed) (lines : List Line) (held now : Seen) (whole : Bool) → TellsAudit short old lines held now whole last → Kept old → Kept last
told short old last lines held now whole tells k = performed short old last lines held tells.between tells.refused tells.performed k

failing : (short : Bool) (old last : Installed) (lines : List Line) (held now : Seen) (whole : Bool) → FailsAudit short old lines held now whole last → Kept old → Kept last
failing short old last lines held now true fails k = told short old last lines held now true fails k
failing short old last lines held now false (inl tells) k = told short old last lines held now false tells k
failing short old last lines held now false (inr stop) k = stopped short old last lines held now stop.0 stop.1 k

no_run : (short : Bool) (setup : Setup) (lines : List Line) (held now : Seen) (whole : Bool) → ¬ IsRunOf short setup lines held now (AuditFailed whole)
no_run short setup lines held now whole run =
    let fails = run.2 in
    fails.2 (failing short run.0 fails.0 lines held now whole fails.1 (opens setup run.0 run.1)).logged

pub no_run_fails : (short : Bool) (setup : Setup) (lines : List Line) (held now : Seen) (e : Ending) → IsRunOf short setup lines held now e → (whole : Bool) → e ≢ AuditFailed whole
no_run_fails short setup lines held now e run whole is = no_run short setup lines held now whole (subst (λ (x : Ending). IsRunOf short setup lines held now x) is run)

-- nor does what ends before one
pub no_memory_fails : (held now : Seen) (e : Ending) → TellsNoMemoryBy held now e → (whole : Bool) → e ≢ AuditFailed whole
no_memory_fails held now e tells whole is = absurd (subst (λ (x : Ending). TellsNoMemoryBy held now x) is tells)

pub no_text_fails : (races : Bool) (input : Option (List ℕ)) (held now : Seen) (e : Ending) → HasNoScript races input held now e → (whole : Bool) → e ≢ AuditFailed whole
no_text_fails races input held now e none whole is = absurd (subst (λ (x : Ending). HasNoScript races input held now x) is none)

pub none_fails : (short : Bool) (text : List ℕ) (held now : Seen) (whole : Bool) → ¬ Serves short (Some text) held now (AuditFailed whole)
none_fails short text held now whole serves = no_run short serves.0.setup serves.0.lines held now whole serves.2

-- the sink failed before the race, and so no audit was of other books
raced : (short : Bool) (text : List ℕ) (s : ScriptContents) (line : RaceLine) (held now : Seen) (whole : Bool) → IsScript true (lines_of text) s → s.race ≡ Some line
    → IsRaceOf short s.setup s.lines line held now (AuditFailed whole) → FailsByRace short text held now whole
raced short text s line held now true is asks (opening, opens_so, races) =
    record { script = s; line = line; opening = opening; refused = races.0; is = is; asks = asks; opens = opens_so; races = races.1 }
raced short text s line held now false is asks (opening, opens_so, inl races) =
    record { script = s; line = line; opening = opening; refused = races.0; is = is; asks = asks; opens = opens_so; races = races.1 }
raced short text s line held now false is asks (opening, opens_so, inr stop) =
    absurd (stop.3 (stopped short opening stop.0 s.lines held now stop.1 stop.2 (opens s.setup opening opens_so)).logged)

asked : (short : Bool) (text : List ℕ) (s : ScriptContents) (race : Option RaceLine) (held now : Seen) (whole : Bool) → s.race ≡ race → IsScript true (lines_of text) s
    → RunsOrRaces short race s.setup s.lines held now (AuditFailed whole) → FailsByRace short text held now whole
asked short text s None held now whole asks is run = absurd (no_run short s.setup s.lines held now whole run)
asked short text s (Some line) held now whole asks is races = raced short text s line held now whole is asks races

pub fails_only_by_race : (short : Bool) (text : List ℕ) (held now : Seen) (whole : Bool) → ServesRace short (Some text) held now (AuditFailed whole) → FailsByRace short text held now whole
fails_only_by_race short text held now whole serves = asked short text serves.0 serves.0.race held now whole refl serves.1 serves.2
