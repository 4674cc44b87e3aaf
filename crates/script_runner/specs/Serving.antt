-- What the program does with a text, how it ends, and with which exit status.
use Rattle.std.specs.Prelude.{◌≡◌, ◌⊎◌, ℕ, Bool, true, false, ◌||◌, List, codes, Option, None, Some, Ok, IfSome}
use Rattle.streams.specs.Sinks.{Seen, Puts, TakesText, FailsIn}
use Rattle.channel_config.specs.Setup.{Setup}
use Rattle.script.specs.Pieces.{lines_of}
use Rattle.script.specs.declared.Line.{Line}
use Rattle.script.specs.declared.RaceLine.{RaceLine}
use Rattle.script.specs.Scripts.{ScriptContents, IsScript, IsBad}
use Rattle.script_rows.specs.declared.words.LineRule.{LineRule}
use Rattle.script_rows.specs.Faults.{rule_number}
use Rattle.script_text.specs.Text.{bad_text, event_line}
use Rattle.script_text.specs.declared.ActionResult.TheVariants as told
use Rattle.script_text.specs.declared.race.RaceCount.{RaceCount}
use Rattle.script_runner.specs.declared.Ending.{Ending}
use Rattle.script_runner.specs.declared.Ending.TheVariants.{NotRead, Bad, NoMemory, Done, Stopped, AuditFailed}
use Rattle.script_runner.specs.Acting.{Installed, IsAudited, IsOpening}
use Rattle.script_runner.specs.Performing.{HasPerformed, HasStopped}
use Rattle.script_runner.specs.Racing.{IsRaced}

-- 2: the text was not read, or is no script; 3: the audit failed; 1: an event was refused, or memory or the writer failed; 0: all
-- was done
abbrev pub status_of : Ending → ℕ
status_of NotRead = 2
status_of (Bad whole) = 2
status_of (NoMemory whole) = 1
status_of (Done false) = 0
status_of (Done true) = 1
status_of (Stopped refused) = 1
status_of (AuditFailed whole) = 3

-- there was no memory before the first event: the text that says so is written, without a line's number
abbrev pub no_memory_text : List ℕ
no_memory_text = codes "refused 1\n"

-- it ended for want of memory
abbrev pub IsForMemory : Ending → Type 0
IsForMemory ending = (whole : Bool) × (ending ≡ NoMemory whole)

abbrev pub TellsNoMemory : Seen → Seen → Bool → Type 0
TellsNoMemory held now whole = Puts held no_memory_text now whole

abbrev pub TellsNoMemoryBy : Seen → Seen → Ending → Type 0
TellsNoMemoryBy held now (NoMemory whole) = TellsNoMemory held now whole
TellsNoMemoryBy held now other = ⊥

-- Below, `short` says that the supply had refused a growth by the end of the lines.

-- the audit failed after the last line: the text that says so is written
abbrev pub audit_failed_text : List ℕ
audit_failed_text = codes "audit failed\n"

pub record TellsAudit (short : Bool) (old : Installed) (lines : List Line) (held now : Seen) (whole : Bool) (last : Installed) : Type 0 where
  pub refused : Bool
  pub between : Seen
  pub performed : HasPerformed short old lines held between refused last
  pub told : Puts between audit_failed_text now whole

-- after the last line, or after the one within whose print the sink failed
abbrev pub FailsAudit : Bool → Installed → List Line → Seen → Seen → Bool → Installed → Type 0
FailsAudit short old lines held now true last = TellsAudit short old lines held now true last
FailsAudit short old lines held now false last = TellsAudit short old lines held now false last ⊎ ((refused : Bool) × HasStopped short old lines held now refused last)

-- how the program ends by what the audit found, where all was written, and where an event was refused
abbrev pub ending_of : Bool → Bool → Bool → Ending
ending_of true true refused = Done refused
ending_of true false refused = Stopped refused
ending_of false whole refused = AuditFailed whole

-- that the audit failed is written where all before it was
abbrev pub EndsBy : Bool → Bool → Bool → Seen → Seen → Ending → Type 0
EndsBy true whole refused held now ending = (now ≡ held) × (ending ≡ ending_of true whole refused)
EndsBy false false refused held now ending = (now ≡ held) × (ending ≡ AuditFailed false)
EndsBy false true refused held now ending = (whole : Bool) × (ending ≡ AuditFailed whole) × Puts held audit_failed_text now whole

-- lines are performed and written, all of them or those up to one within whose print the sink failed, and the audit is made
abbrev pub PerformsAll : Bool → Installed → List Line → Seen → Seen → Ending → Type 0
PerformsAll short old lines held now (Done refused) = (last : Installed) × HasPerformed short old lines held now refused last × IsAudited last
PerformsAll short old lines held now (Stopped refused) = (last : Installed) × HasStopped short old lines held now refused last × IsAudited last
PerformsAll short old lines held now (AuditFailed whole) = (last : Installed) × FailsAudit short old lines held now whole last × ¬ IsAudited last
PerformsAll short old lines held now other = ⊥

-- a script is run; or there was no memory before its first event
abbrev pub IsRunOf : Bool → Setup → List Line → Seen → Seen → Ending → Type 0
IsRunOf short setup lines held now (NoMemory whole) = TellsNoMemory held now whole
IsRunOf short setup lines held now other = (opening : Installed) × IsOpening setup opening × PerformsAll short opening lines held now other

abbrev pub IsRun : Bool → ScriptContents → Seen → Seen → Ending → Type 0
IsRun short s held now ending = IsRunOf short s.setup s.lines held now ending

-- all lines are performed and written, and then the race of the last one, of which its line tells
pub record RacesAfter (short : Bool) (old : Installed) (lines : List Line) (line : RaceLine) (held now : Seen) (whole audited refused : Bool) : Type 0 where
  pub middle : Installed
  pub between : Seen
  pub earlier : Bool
  pub count : RaceCount
  pub later : Bool
  pub performed : HasPerformed short old lines held between earlier middle
  pub raced : IsRaced line.race middle count later
  pub prints : Puts between (event_line line.number (Ok (told.Race count))) now whole
  pub audited_is : count.audited ≡ audited
  pub refused_is : refused ≡ (earlier || later)

-- how that ended; or the sink failed before the race
abbrev pub Races : Bool → Installed → List Line → RaceLine → Seen → Seen → Ending → Type 0
Races short old lines line held now (Done refused) = RacesAfter short old lines line held now true true refused
Races short old lines line held now (Stopped refused) =
    RacesAfter short old lines line held now false true refused ⊎ ((last : Installed) × HasStopped short old lines held now refused last × IsAudited last)
Races short old lines line held now (AuditFailed true) = (refused : Bool) × RacesAfter short old lines line held now true false refused
Races short old lines line held now (AuditFailed false) =
    ((refused : Bool) × RacesAfter short old lines line held now false false refused)
    ⊎ ((last : Installed) × (refused : Bool) × HasStopped short old lines held now refused last × ¬ IsAudited last)
Races short old lines line held now other = ⊥

abbrev pub IsRaceOf : Bool → Setup → List Line → RaceLine → Seen → Seen → Ending → Type 0
IsRaceOf short setup lines line held now (NoMemory whole) = TellsNoMemory held now whole
IsRaceOf short setup lines line held now other = (opening : Installed) × IsOpening setup opening × Races short opening lines line held now other

-- a script is run, with the race of its last line where it asks for one
abbrev pub RunsOrRaces : Bool → Option RaceLine → Setup → List Line → Seen → Seen → Ending → Type 0
RunsOrRaces short None setup lines held now ending = IsRunOf short setup lines held now ending
RunsOrRaces short (Some line) setup lines held now ending = IsRaceOf short setup lines line held now ending

abbrev pub IsRunOrRaced : Bool → ScriptContents → Seen → Seen → Ending → Type 0
IsRunOrRaced short s held now ending = RunsOrRaces short s.race s.setup s.lines held now ending

-- a script is good: the text that says so is written
abbrev pub ok_text : List ℕ
ok_text = codes "script ok\n"

abbrev pub IsApproved : Seen → Seen → Ending → Type 0
IsApproved held now (Done refused) = (refused ≡ false) × TakesText held ok_text now
IsApproved held now (Stopped refused) = (refused ≡ false) × FailsIn held ok_text now
IsApproved held now other = ⊥

-- a text is bad: its one line is written
abbrev pub IsBadLineOutput : ℕ → LineRule → Seen → Seen → Ending → Type 0
IsBadLineOutput line rule held now (Bad whole) = Puts held (bad_text line (rule_number rule)) now whole
IsBadLineOutput line rule held now other = ⊥

abbrev pub TellsBad : Bool → List ℕ → Seen → Seen → Bool → Type 0
TellsBad races text held now whole = (line : ℕ) × (rule : LineRule) × IsBad races (lines_of text) line rule × Puts held (bad_text line (rule_number rule)) now whole

-- there is no script: the text was not read, there was no memory for it, or it is bad; `races` says that its last line may race
abbrev pub HasNoScript : Bool → Option (List ℕ) → Seen → Seen → Ending → Type 0
HasNoScript races input held now NotRead = now ≡ held
HasNoScript races input held now (NoMemory whole) = TellsNoMemory held now whole
HasNoScript races input held now (Bad whole) = IfSome input (λ text. TellsBad races text held now whole)
HasNoScript races input held now other = ⊥

-- there is none, or memory came to want after it was read; or this was done with the script
abbrev pub DoesWith : Bool → (ScriptContents → Seen → Seen → Ending → Type 0) → Option (List ℕ) → Seen → Seen → Ending → Type 0
DoesWith races does input held now NotRead = HasNoScript races input held now NotRead
DoesWith races does input held now (NoMemory whole) = HasNoScript races input held now (NoMemory whole)
DoesWith races does input held now (Bad whole) = HasNoScript races input held now (Bad whole)
DoesWith races does input held now other = IfSome input (λ text. (s : ScriptContents) × IsScript races (lines_of text) s × does s held now other)

-- the command `run`
abbrev pub Serves : Bool → Option (List ℕ) → Seen → Seen → Ending → Type 0
Serves short input held now ending = DoesWith false (IsRun short) input held now ending

-- the command `check`
abbrev pub Checks : Option (List ℕ) → Seen → Seen → Ending → Type 0
Checks input held now ending = DoesWith false (λ s. IsApproved) input held now ending

-- the command `race`
abbrev pub ServesRace : Bool → Option (List ℕ) → Seen → Seen → Ending → Type 0
ServesRace short input held now ending = DoesWith true (IsRunOrRaced short) input held now ending
