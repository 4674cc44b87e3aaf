-- How the program ends where a script was read.
use Rattle.std.proofs.Common.{◌≡◌, ℕ, Bool, true, false, ◌||◌, Option, None, Some, Ok, List, inl, inr, refl, sym, subst, ◌∙◌, true≢false}
use Rattle.std.specs.Prelude.{IfSome, IsTrue, ◌↔◌, not}
use Rattle.streams.specs.Sinks.{Seen, Puts}
use Rattle.script.specs.declared.Line.{Line}
use Rattle.script.specs.declared.RaceLine.{RaceLine}
use Rattle.script.specs.Pieces.{lines_of}
use Rattle.script.specs.Scripts.{ScriptContents, IsScript}
use Rattle.script_text.specs.Text.{event_line}
use Rattle.script_text.specs.declared.ActionResult.TheVariants as told
use Rattle.script_text.specs.declared.race.RaceCount.{RaceCount}
use Rattle.script_runner.specs.declared.Ending.{Ending}
use Rattle.script_runner.specs.declared.Ending.TheVariants.{NotRead, Bad, NoMemory, Done, Stopped, AuditFailed}
use Rattle.channel_config.specs.Setup.{Setup}
use Rattle.script_runner.specs.Acting.{Installed, IsAudited, IsOpening}
use Rattle.script_runner.specs.Performing.{HasPerformed, HasStopped, PerformsTo}
use Rattle.script_runner.specs.Racing.{IsRaced}
use Rattle.script_runner.specs.Serving.{EndsBy, FailsAudit, PerformsAll, Races, RacesAfter, TellsAudit, ending_of, IsRaceOf, IsRun, IsRunOf, IsRunOrRaced, RunsOrRaces, Serves, ServesRace, TellsNoMemory}

-- what is so of the script that was read is so of a script of the text, where the text is known
of_script : (races : Bool) (input : Option (List ℕ)) (s : ScriptContents) (P : ScriptContents → Type 0) → IfSome input (λ text. IsScript races (lines_of text) s) → P s →
    IfSome input (λ text. (t : ScriptContents) × IsScript races (lines_of text) t × P t)
of_script races None s P is p = tt
of_script races (Some text) s P is p = (s, is, p)

pub serves_script : (short : Bool) (input : Option (List ℕ)) (s : ScriptContents) (held now : Seen) (e : Ending) → IfSome input (λ text. IsScript false (lines_of text) s) →
    IsRun short s held now e → Serves short input held now e
serves_script short input s held now NotRead is h = absurd h.2
serves_script short input s held now (NoMemory whole) is h = h
serves_script short input s held now (Bad whole) is h = absurd h.2
serves_script short input s held now (Done refused) is h = of_script false input s (λ t. IsRun short t held now (Done refused)) is h
serves_script short input s held now (Stopped refused) is h = of_script false input s (λ t. IsRun short t held now (Stopped refused)) is h
serves_script short input s held now (AuditFailed whole) is h = of_script false input s (λ t. IsRun short t held now (AuditFailed whole)) is h

-- and so with a race
not_unread : (short : Bool) (race : Option RaceLine) (setup : Setup) (lines : List Line) (held now : Seen) → ¬ RunsOrRaces short race setup lines held now NotRead
not_unread short None setup lines held now h = h.2
not_unread short (Some line) setup lines held now h = h.2

not_bad : (short : Bool) (race : Option RaceLine) (setup : Setup) (lines : List Line) (held now : Seen) (whole : Bool) → ¬ RunsOrRaces short race setup lines held now (Bad whole)
not_bad short None setup lines held now whole h = h.2
not_bad short (Some line) setup lines held now whole h = h.2

no_room : (short : Bool) (race : Option RaceLine) (setup : Setup) (lines : List Line) (held now : Seen) (whole : Bool) → RunsOrRaces short race setup lines held now (NoMemory whole) → TellsNoMemory held now whole
no_room short None setup lines held now whole h = h
no_room short (Some line) setup lines held now whole h = h

pub serves_race : (short : Bool) (input : Option (List ℕ)) (s : ScriptContents) (held now : Seen) (e : Ending) → IfSome input (λ text. IsScript true (lines_of text) s) →
    IsRunOrRaced short s held now e → ServesRace short input held now e
serves_race short input s held now NotRead is h = absurd (not_unread short s.race s.setup s.lines held now h)
serves_race short input s held now (NoMemory whole) is h = no_room short s.race s.setup s.lines held now whole h
serves_race short input s held now (Bad whole) is h = absurd (not_bad short s.race s.setup s.lines held now whole h)
serves_race short input s held now (Done refused) is h = of_script true input s (λ t. IsRunOrRaced short t held now (Done refused)) is h
serves_race short input s held now (Stopped refused) is h = of_script true input s (λ t. IsRunOrRaced short t held now (Stopped refused)) is h
serves_race short input s held now (AuditFailed whole) is h = of_script true input s (λ t. IsRunOrRaced short t held now (AuditFailed whole)) is h

-- a run, or a race, from an opening
pub runs_from : (short : Bool) (setup : Setup) (lines : List Line) (held now : Seen) (e : Ending) (opening : Installed) → IsOpening setup opening → PerformsAll short opening lines held now e
    → IsRunOf short setup lines held now e
runs_from short setup lines held now NotRead opening is h = absurd h
runs_from short setup lines held now (Bad whole) opening is h = absurd h
runs_from short setup lines held now (NoMemory whole) opening is h = absurd h
runs_from short setup lines held now (Done refused) opening is h = (opening, is, h)
runs_from short setup lines held now (Stopped refused) opening is h = (opening, is, h)
runs_from short setup lines held now (AuditFailed whole) opening is h = (opening, is, h)

pub races_from : (short : Bool) (setup : Setup) (lines : List Line) (line : RaceLine) (held now : Seen) (e : Ending) (opening : Installed) → IsOpening setup opening
    → Races short opening lines line held now e → IsRaceOf short setup lines line held now e
races_from short setup lines line held now NotRead opening is h = absurd h
races_from short setup lines line held now (Bad whole) opening is h = absurd h
races_from short setup lines line held now (NoMemory whole) opening is h = absurd h
races_from short setup lines line held now (Done refused) opening is h = (opening, is, h)
races_from short setup lines line held now (Stopped refused) opening is h = (opening, is, h)
races_from short setup lines line held now (AuditFailed whole) opening is h = (opening, is, h)

-- the audit failed, and the line that says so was written or not
fails : (short : Bool) (old last : Installed) (lines : List Line) (held now : Seen) (whole : Bool) → TellsAudit short old lines held now whole last → FailsAudit short old lines held now whole last
fails short old last lines held now true h = h
fails short old last lines held now false h = inl h

unaudited : (audited : Bool) (A : Type 0) → audited ≡ false → (IsTrue audited ↔ A) → A → ⊥
unaudited audited A is both a = true≢false (sym (both.1 a) ∙ is)

pub ends_all : (short : Bool) (old last : Installed) (lines : List Line) (held between now : Seen) (whole refused audited : Bool) (e : Ending)
    → PerformsTo short whole old lines held between refused last → (IsTrue audited ↔ IsAudited last) → EndsBy audited whole refused between now e
    → PerformsAll short old lines held now e
ends_all short old last lines held between now true refused true e p both h =
    subst (λ (x : Ending). PerformsAll short old lines held now x) (sym h.1)
    (last, subst (λ (n : Seen). HasPerformed short old lines held n refused last) (sym h.0) p, both.0 refl)
ends_all short old last lines held between now false refused true e p both h =
    subst (λ (x : Ending). PerformsAll short old lines held now x) (sym h.1)
    (last, subst (λ (n : Seen). HasStopped short old lines held n refused last) (sym h.0) p, both.0 refl)
ends_all short old last lines held between now true refused false e p both h =
    subst (λ (x : Ending). PerformsAll short old lines held now x) (sym h.1)
    (last, fails short old last lines held now h.0 (record { refused = refused; between = between; performed = p; told = h.2 }), unaudited false (IsAudited last) refl both)
ends_all short old last lines held between now false refused false e p both h =
    subst (λ (x : Ending). PerformsAll short old lines held now x) (sym h.1)
    (last, inr (refused, subst (λ (n : Seen). HasStopped short old lines held n refused last) (sym h.0) p), unaudited false (IsAudited last) refl both)

-- the sink failed before the race
pub stops_before : (short : Bool) (old last : Installed) (lines : List Line) (line : RaceLine) (held between now : Seen) (refused audited : Bool) (e : Ending)
    → HasStopped short old lines held between refused last → (IsTrue audited ↔ IsAudited last) → EndsBy audited false refused between now e
    → Races short old lines line held now e
stops_before short old last lines line held between now refused true e p both h =
    subst (λ (x : Ending). Races short old lines line held now x) (sym h.1)
    (inr (last, subst (λ (n : Seen). HasStopped short old lines held n refused last) (sym h.0) p, both.0 refl))
stops_before short old last lines line held between now refused false e p both h =
    subst (λ (x : Ending). Races short old lines line held now x) (sym h.1)
    (inr (last, refused, subst (λ (n : Seen). HasStopped short old lines held n refused last) (sym h.0) p, unaudited false (IsAudited last) refl both))

-- or the race was told
raced_to : (short : Bool) (old : Installed) (lines : List Line) (line : RaceLine) (held now : Seen) (audited whole refused : Bool)
    → RacesAfter short old lines line held now whole audited refused → Races short old lines line held now (ending_of audited whole refused)
raced_to short old lines line held now true true refused h = h
raced_to short old lines line held now true false refused h = inl h
raced_to short old lines line held now false true refused h = (refused, h)
raced_to short old lines line held now false false refused h = inl (refused, h)

pub ends_race : (short : Bool) (old middle : Installed) (lines : List Line) (line : RaceLine) (held between now : Seen) (earlier later whole : Bool) (count : RaceCount) (e : Ending)
    → HasPerformed short old lines held between earlier middle → IsRaced line.race middle count later
    → Puts between (event_line line.number (Ok (told.Race count))) now whole → e ≡ ending_of count.audited whole (earlier || later)
    → Races short old lines line held now e
ends_race short old middle lines line held between now earlier later whole count e p raced puts is =
    subst (λ (x : Ending). Races short old lines line held now x) (sym is)
    (raced_to short old lines line held now count.audited whole (earlier || later)
    (record {
      middle = middle;
      between = between;
      earlier = earlier;
      count = count;
      later = later;
      performed = p;
      raced = raced;
      prints = puts;
      audited_is = refl;
      refused_is = refl;
    }))

-- a negated test
pub not_true : (b : Bool) → not b ≡ true → b ≡ false
not_true true is = absurd (true≢false (sym is))
not_true false is = refl

pub not_false : (b : Bool) → not b ≡ false → b ≡ true
not_false true is = refl
not_false false is = absurd (true≢false is)
