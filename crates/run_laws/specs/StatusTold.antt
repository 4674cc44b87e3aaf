-- The command address and the count of a status that an entry makes, where STORE SUBCHANNEL stands just before the entry and just after it
-- (SA22-7832, chapter 16): by what it showed before, and by what was told of the program.
use Rattle.std.specs.Prelude.{◌<◌, ◌&&◌, ◌||◌, not, Bool, true, false, Option, None, Some, option_map}
use Rattle.scsw_irb.specs.declared.scsw.Scsw.{Scsw}
use Rattle.chan_model.specs.Signals.{Up}
use Rattle.chan_model.specs.declared.signal.Up.TheVariants as up
use Rattle.chan_model.specs.UnitReports.{is_last_end}
use Rattle.chan_events.specs.Events.{Event}
use Rattle.chan_events.specs.declared.event.Event.TheVariants as event
use Rattle.chan_events.specs.declared.event.Instruction.TheVariants as instruction
use Rattle.chan_events.specs.Replies.{Reply}
use Rattle.chan_events.specs.declared.reply.Reply.TheVariants as reply
use Rattle.run_laws.specs.Shows.{ShowsProgram, ShowsStanding, ShowsIf, ShowsZero}
use Rattle.run_laws.specs.Traces.{ProgramTrace}
use Rattle.run_laws.specs.Shown.{StoredStatus, stored_in}

-- an entry, with what STORE SUBCHANNEL showed just before it
pub record AfterStore : Type 0 where
  pub old : StoredStatus
  pub event : Event
  pub reply : Reply

-- what STORE SUBCHANNEL of the subchannel showed by the last entry; and the last entry, where it stood just before that
pub record LastStored : Type 0 where
  pub shown : Option StoredStatus
  pub passed : Option AfterStore

abbrev pub shown_by : Bool → Event → Reply → Option StoredStatus
shown_by true (event.Execute cpu (instruction.Stsch word address)) r = stored_in r
shown_by mine e r = None

abbrev pub stored_after : Bool → Event → Reply → LastStored → LastStored
stored_after mine e r k = record { shown = shown_by mine e r; passed = option_map (λ old. record { old = old; event = e; reply = r }) k.shown }

-- A status that is made without an answer of the program's device (a halt that is performed, an interface-control check, a start or a
-- resume that finds no path) is of the program that is suspended, or at work with no start behind it. While a start waits it is of that
-- start, and address and count stand, as they do where there is no program
abbrev pub ShowsOf : Bool → Scsw → Scsw → Option ProgramTrace → Type 0
ShowsOf behind old new None = ShowsStanding old new
ShowsOf behind old new (Some k) = ShowsIf (old.activity.suspended || (old.activity.device_active && not behind)) old new k

-- Accept: of a program that begins, or goes on, they are its own
abbrev pub ShowsAccept : Bool → Bool → Scsw → Scsw → ProgramTrace → Type 0
ShowsAccept true behind old new k = ShowsOf behind old new (Some k)
ShowsAccept false behind old new k = ShowsProgram new k

-- a signal that is taken. End: they are the program's; but the last End, after which nothing is chained, leaves those of a start that waits
-- behind it. Attention leaves them, and a clear shows zero
abbrev pub ShowsSignal : Bool → Bool → Up → Scsw → Scsw → Option ProgramTrace → Type 0
ShowsSignal over behind (up.Accept t) old new (Some k) = ShowsAccept over behind old new k
ShowsSignal over behind (up.Data load t c n s) old new (Some k) = ShowsProgram new k
ShowsSignal over behind (up.End t n status more) old new (Some k) = ShowsIf (not (behind && (k.now.unchained && is_last_end status))) old new k
ShowsSignal over behind (up.Cleared r) old new k = ShowsZero new
ShowsSignal over behind (up.Attn a status) old new k = ShowsStanding old new
ShowsSignal over behind signal old new k = ShowsOf behind old new k

-- Choose: a clear that is pending is performed, or a halt, or no path is found
abbrev pub ShowsChosen : Bool → Bool → Scsw → Scsw → Option ProgramTrace → Type 0
ShowsChosen true behind old new k = ShowsZero new
ShowsChosen false behind old new k = ShowsOf behind old new k

-- what an entry shows of the status that it makes, by what was told of the program after it; over: the start that was offered is over;
-- behind: a start waits behind the program at work. No other entry makes a status of the subchannel (`AreMade`)
abbrev pub ShowsAfter : Bool → Bool → Event → Reply → Scsw → Scsw → Option ProgramTrace → Type 0
ShowsAfter over behind (event.Choose word) reply.Pending old new k = ShowsChosen old.activity.clear_pending behind old new k
ShowsAfter over behind (event.Up word path) (reply.Up signal true sent) old new k = ShowsSignal over behind signal old new k
ShowsAfter over behind (event.PathDown chpid) r old new k = ShowsOf behind old new k
ShowsAfter over behind (event.PathReset chpid) r old new k = ShowsOf behind old new k
ShowsAfter over behind e r old new k = Unit {0}

-- STORE SUBCHANNEL stands just after the entry too, and shows that it made a status
abbrev pub IsStatusTold : Bool → Bool → Option AfterStore → Option StoredStatus → Option ProgramTrace → Type 0
IsStatusTold over behind (Some entry) (Some new) k =
    entry.old.serials.made < new.serials.made → ShowsAfter over behind entry.event entry.reply entry.old.scsw new.scsw k
IsStatusTold over behind entry new k = Unit {0}
