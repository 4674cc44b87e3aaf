-- The channel reports that wait, and the resets of channel paths that are asked for (SA22-7832, chapter 17).
use Rattle.std.specs.Prelude.{ℕ, ◌==◌, Bool, true, false, List, [], ◌∷◌, ◌++◌, length, replicate, slice_get, slice_index_or, slice_set, take, drop, Option, None, Some, if◌then◌else◌}
use Rattle.scsw_irb.specs.declared.crw.Crw.{Crw}
use Rattle.scsw_irb.specs.declared.crw.PathReport.{PathReport}

-- the reports that wait, the oldest first, and for each channel-path identifier whether its reset is asked for
pub record WaitingReports : Type 0 where
  pub reports : List Crw
  pub asked : List Bool

abbrev pub no_reports_wait : WaitingReports
no_reports_wait = record { reports = []; asked = replicate 256 false }

-- R: a later report was lost
abbrev pub sixteenth_marked : List Crw → Option Crw → List Crw
sixteenth_marked reports None = reports
sixteenth_marked reports (Some last) = take 15 reports ++ record last { overflow = true } ∷ []

-- a report comes behind the others; where sixteen wait it is lost, and the last of them says so
abbrev pub added : List Crw → Crw → List Crw
added reports crw = if length reports == 16 then sixteenth_marked reports (slice_get reports 15) else reports ++ crw ∷ []

abbrev pub with_report : WaitingReports → PathReport → ℕ → WaitingReports
with_report w report path = record w { reports = added w.reports (record { report = report; overflow = false; path = path }) }

-- the oldest report, where one waits
abbrev pub oldest : WaitingReports → Option Crw
oldest w = slice_get w.reports 0

abbrev pub without_oldest : WaitingReports → WaitingReports
without_oldest w = record w { reports = drop 1 w.reports }

-- the reset of a path
abbrev pub is_asked : WaitingReports → ℕ → Bool
is_asked w path = slice_index_or w.asked path false

abbrev pub with_asked : WaitingReports → ℕ → Bool → WaitingReports
with_asked w path asked = record w { asked = slice_set w.asked path asked }

-- RESET CHANNEL PATH asks for the reset of a path that is up
abbrev pub with_rchp : WaitingReports → ℕ → Bool → WaitingReports
with_rchp w path up = if up then with_asked w path true else w
