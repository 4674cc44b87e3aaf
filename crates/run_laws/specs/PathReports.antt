-- What RESET CHANNEL PATH and STORE CHANNEL REPORT WORD answer: by which channel paths are up, which resets are asked for and not done,
-- and which reports wait (SA22-7832, chapters 14 and 17). How a path that is back is reported, the set-up says.
use Rattle.std.specs.Prelude.{◌≡◌, ℕ, ◌==◌, Bool, true, false, if◌then◌else◌, Option, None, Some, List, [], ◌∷◌, ◌++◌, length, slice_get, drop, take}
use Rattle.zbits.specs.Bits.{field_of}
use Rattle.chan_events.specs.Events.{Event}
use Rattle.chan_events.specs.declared.event.Event.TheVariants as event
use Rattle.chan_events.specs.declared.event.OtherInstruction.TheVariants as other
use Rattle.chan_events.specs.declared.reply.Entry.{Entry}
use Rattle.chan_events.specs.Replies.{Reply}
use Rattle.chan_events.specs.declared.reply.Reply.TheVariants as reply
use Rattle.chan_model.specs.declared.answer.ConditionCode.{ConditionCode}
use Rattle.chan_model.specs.declared.answer.ConditionCode.TheVariants as code
use Rattle.channel_config.specs.declared.parts.PathReturn.{PathReturn}
use Rattle.channel_config.specs.Choices.{back_report}
use Rattle.channel_config.specs.Setup.{Setup, has_number}
use Rattle.scsw_irb.specs.declared.crw.Crw.{Crw}
use Rattle.scsw_irb.specs.declared.crw.PathReport.{PathReport}
use Rattle.scsw_irb.specs.declared.crw.PathReport.TheVariants as report
use Rattle.run_laws.specs.Entries.{Throughout}
use Rattle.run_laws.specs.Links.{with_up}

-- which channel paths are up, of which a reset is asked for and not done, and the reports that wait, the oldest first
pub record PathsSeen : Type 0 where
  pub up : ℕ → Bool
  pub asked : ℕ → Bool
  pub reports : List Crw

-- a report comes behind the others; where sixteen wait it is lost, and the last of them says so
abbrev pub marked : Option Crw → List Crw
marked None = []
marked (Some last) = record last { overflow = true } ∷ []

abbrev pub queued : List Crw → Crw → List Crw
queued reports crw = if length reports == 16 then take 15 reports ++ marked (slice_get reports 15) else reports ++ crw ∷ []

abbrev pub reported : PathReport → ℕ → List Crw → List Crw
reported report chpid reports = queued reports (record { report = report; overflow = false; path = chpid })

-- RESET CHANNEL PATH with condition code 0 asks for the reset of the path that bits 24 to 31 of its register name
abbrev pub asked_by : Reply → ℕ → (ℕ → Bool) → ℕ → Bool
asked_by (reply.PathReset code.Zero) chpid asked = with_up chpid true asked
asked_by r chpid asked = asked

-- a path that goes down or is reset is asked for no more; a reset of the subsystem asks for none, and no report waits; a report that is
-- stored waits no more
abbrev pub paths_after : PathReturn → Event → Reply → PathsSeen → PathsSeen
paths_after back (event.PathDown chpid) r k = record { up = with_up chpid false k.up; asked = with_up chpid false k.asked; reports = reported report.Lost chpid k.reports }
paths_after back (event.PathUp chpid) r k = record k { up = with_up chpid true k.up; reports = reported (back_report back) chpid k.reports }
paths_after back (event.PathReset chpid) r k = record k { asked = with_up chpid false k.asked; reports = reported report.ResetDone chpid k.reports }
paths_after back event.SystemReset r k = record k { asked = λ c. false; reports = [] }
paths_after back (event.ExecuteOther cpu (other.Rchp path)) r k = record k { asked = asked_by r (field_of path 24 31) k.asked }
paths_after back (event.ExecuteOther cpu (other.Stcrw address)) r k = record k { reports = drop 1 k.reports }
paths_after back e r k = k

-- 3 where the path is not up, 2 where its reset is asked for and not done, otherwise 0
abbrev pub reset_code : PathsSeen → ℕ → ConditionCode
reset_code k chpid = if k.up chpid then (if k.asked chpid then code.Two else code.Zero) else code.Three

-- a path is reset where this was asked for
abbrev pub IsEntryRight : Event → Reply → PathsSeen → Type 0
IsEntryRight (event.PathReset chpid) r k = k.asked chpid ≡ true
IsEntryRight (event.ExecuteOther cpu (other.Rchp path)) r k = r ≡ reply.PathReset (reset_code k (field_of path 24 31))
IsEntryRight (event.ExecuteOther cpu (other.Stcrw address)) r k = r ≡ reply.ChannelReport (slice_get k.reports 0)
IsEntryRight e r k = Unit {0}

-- before all the paths of the set-up are up
abbrev pub AnswersByPaths : Setup → List Entry → Type 0
AnswersByPaths setup h = Throughout (paths_after setup.path_return) IsEntryRight (record { up = has_number setup.paths; asked = λ c. false; reports = [] }) h
