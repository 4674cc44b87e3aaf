-- The headline: what holds of the history of a channel subsystem by its entries alone; and what holds of its states at the opening, in each
-- step, and after each step.
use Rattle.std.specs.Prelude.{List, All}
use Rattle.chan_events.specs.Events.{Event}
use Rattle.chan_events.specs.declared.reply.Entry.{Entry}
use Rattle.chan_events.specs.Replies.{Reply}
use Rattle.channel_config.specs.Setup.{Setup, set_count}
use Rattle.run_laws.specs.Clearing.{ClearsByCause}
use Rattle.run_laws.specs.CodeSteps.{IsByTable}
use Rattle.run_laws.specs.Counts.{CountsByStatus}
use Rattle.run_laws.specs.Resets.{ResetsByCause, StaysReset}
use Rattle.run_laws.specs.Agreeing.{AllAgree, HoldEndsByReset}
use Rattle.run_laws.specs.Beginnings.{IsBegunOnce}
use Rattle.run_laws.specs.StateClaims.{IsPendingUncleared, IsClearedOnce}
use Rattle.machine_model.specs.Setups.{IsSetUp}
use Rattle.machine_model.specs.State.{State, opening_of}
use Rattle.machine_model.specs.Steps.{HasRun, Run, Opened, Step, Stepped}
use Rattle.run_laws.specs.OneEngine.{IsOnePath}
use Rattle.run_laws.specs.Returns.{OffersOnDedicated, ReturnsByFirst}
use Rattle.run_laws.specs.MaskStates.{AreShown}
use Rattle.run_laws.specs.ProgramTold.{AreProgramsTold}
use Rattle.run_laws.specs.Tells.{AllTold}
use Rattle.run_laws.specs.BeginsItsOwn.{BeginsItsOwn}
use Rattle.run_laws.specs.BothAgree.{DoBothAgree}
use Rattle.run_laws.specs.ByItsPath.{IsByItsPath}
use Rattle.run_laws.specs.Dedicated as dedicated
use Rattle.run_laws.specs.DevicePaths.{HasOneWayEach}
use Rattle.run_laws.specs.Engines.{HasOneEngine}
use Rattle.run_laws.specs.Links.{KeepsLinks}
use Rattle.run_laws.specs.OneHolder.{HasOneHolder}
use Rattle.run_laws.specs.PathReports.{AnswersByPaths}
use Rattle.run_laws.specs.Choices.{AreChoicesRight}
use Rattle.run_laws.specs.Codes.{AreCodesRight, AreThree}
use Rattle.run_laws.specs.Deferred.{AreDeferredRight}
use Rattle.run_laws.specs.Functions.{DoFunctionsFollow}
use Rattle.run_laws.specs.Halts.{AreHaltsDone}
use Rattle.run_laws.specs.LostPrograms.{AreLossesRight}
use Rattle.run_laws.specs.Interruptions.{IsAskedFor, IsGivenOnce, IsLowestFirst, IsOldestFirst}
use Rattle.run_laws.specs.Losses.{AreLossesShown}
use Rattle.run_laws.specs.Paths.{AreOffersLogical, ShowsLastUsed}
use Rattle.run_laws.specs.Serials.{AreMade, ArePendingShown}
use Rattle.run_laws.specs.StatusBytes.{AreBytesRight}

-- of a history, by its entries alone
pub record HeadlineHolds (setup : Setup) (h : List Entry) : Type 0 where
  -- one path: what a subchannel takes of its program, and what it sends to it, goes by the path of the last Accept or Grant
  pub by_its_path : IsByItsPath (set_count setup) h
  -- and what comes up or down under a connection comes by its path, where a device takes a Give too
  pub device_paths : HasOneWayEach setup h
  -- one engine serves a subchannel, on a path that is up, and each serves one
  pub one_engine : HasOneEngine setup h
  -- what a subchannel takes, sends and chooses is due where its program is
  pub links : KeepsLinks setup h
  -- one holder: what a unit does with each signal is due by the program that holds its device
  pub one_holder : HasOneHolder setup h
  -- both sides agree on it, or the unit was restarted and that reset isn't yet taken
  pub both_agree : DoBothAgree setup h
  -- an Accept begins the program of the start that was offered, or none
  pub begins_its_own : BeginsItsOwn (set_count setup) h
  -- after an End with unit check, offers are by its path
  pub dedicated_offers : dedicated.OffersOnDedicated (set_count setup) h
  -- an offer is by a path of the logical-path mask that STORE SUBCHANNEL shows just before
  pub logical_offers : AreOffersLogical (set_count setup) h
  -- the last-path-used mask that it shows is of the path by which an Accept was answered last, or a reconnection granted
  pub last_used : ShowsLastUsed (set_count setup) h
  -- each accepted start begins at most one program
  pub begun_once : IsBegunOnce (set_count setup) h
  -- each status is cleared by at most one TEST SUBCHANNEL
  pub cleared_once : IsClearedOnce (set_count setup) h
  -- condition codes are the tables', by the status that STORE SUBCHANNEL shows just before; 3 where there is no such subchannel
  pub codes : AreCodesRight (set_count setup) h
  pub absent : AreThree setup h
  -- functions and activity are those of the instructions that were accepted and not tested
  pub functions : DoFunctionsFollow (set_count setup) h
  -- each cause makes one status; status is pending exactly where fewer were cleared than made
  pub made : AreMade (set_count setup) h
  pub pending : ArePendingShown (set_count setup) h
  -- a status that is made shows the deferred condition code that is due
  pub deferred_codes : AreDeferredRight (set_count setup) h
  -- and the device status and the subchannel status that are due
  pub status_bytes : AreBytesRight (set_count setup) h
  -- a path that is lost makes one where a program that is shown is offered or holds the device by it, and nowhere else
  pub losses : AreLossesRight setup h
  -- where none is made, the status word stays
  pub silent : AreLossesShown (set_count setup) h
  -- a status that is made asks for an interruption until it is given or taken away; it is given once, lower subclasses first, and of one
  -- subclass the oldest first
  pub asked : IsAskedFor (set_count setup) h
  pub given_once : IsGivenOnce setup h
  pub lowest_first : IsLowestFirst h
  pub oldest_first : IsOldestFirst setup h
  -- the subsystem chooses by the status that is shown just before
  pub choices : AreChoicesRight (set_count setup) h
  -- and where a halt is shown pending, what is due by where the program is
  pub halts : AreHaltsDone setup h
  -- RESET CHANNEL PATH and STORE CHANNEL REPORT WORD answer by the paths that are up, the resets that are asked for and what happened
  pub path_reports : AnswersByPaths setup h
  -- what is done for each program can be told: its blocks and words as storage held them, the commands that are sent, the bytes moved
  pub programs : AreProgramsTold setup h

-- of each state
pub record HoldsAfter (opening : State) (h : List Entry) (s : State) (run : Run opening h s) : Type 0 where
  -- no subchannel has two paths moving data
  pub one_path : IsOnePath s
  -- subsystem and device agree on the program that holds the device, or a reset isn't yet taken; by one path
  pub agree : AllAgree s
  -- status is pending exactly where some that was made is not cleared
  pub pending : All IsPendingUncleared s.subs
  -- the path-available masks are the states of the paths, and nothing waits on a path that is down
  pub shown : AreShown s
  -- what is done for the program that each subchannel offered last: its blocks, commands, bytes and counts
  pub told : AllTold opening h s run

-- of each step, from the state that a run led to
pub record HoldsIn (opening : State) (h : List Entry) (old : State) (run : Run opening h old) (e : Event) (r : Reply) (new : State) (step : Step old e r new) : Type 0 where
  -- a reset that isn't yet taken ends only as the unit takes it, and both sides agree right after
  pub ends : HoldEndsByReset old e r new
  -- a hold is to be reset by one of the listed causes, and leaves that by its Cleared alone, or for a newer reset
  pub causes : ResetsByCause old e r new
  pub stays : StaysReset old e r new
  -- only what is listed clears status
  pub clears : ClearsByCause old e r new
  -- condition codes are the table's
  pub codes : IsByTable old e r new
  -- the count that stands moves as status is made, and is zero as a start is accepted
  pub counts : CountsByStatus old e r new
  -- while a dedicated allegiance stands, offers are on its path
  pub offers : OffersOnDedicated old e r
  -- in single-path mode a program comes back by the path of its first Accept
  pub returns : ReturnsByFirst opening h old run e r

-- throughout a run
abbrev pub HoldsThroughout : (opening : State) (h : List Entry) (s : State) → Run opening h s → Type 0
HoldsThroughout opening _ _ Opened = HoldsAfter opening _ _ Opened
HoldsThroughout opening _ _ (Stepped h old e r new run step) =
    HoldsThroughout opening h old run × HoldsIn opening h old run e r new step × HoldsAfter opening _ _ (Stepped h old e r new run step)

-- these entries lead there from the opening of each set-up that the machine has; by them alone the headline holds, and by whatever
-- states they lead there, all that holds of states and steps
pub record HasHeld (h : List Entry) (s : State) : Type 0 where
  pub leads : HasRun h s
  pub seen : (setup : Setup) → IsSetUp setup s → HeadlineHolds setup h
  pub throughout : (setup : Setup) → IsSetUp setup s → (run : Run (opening_of setup) h s) → HoldsThroughout (opening_of setup) h s run
