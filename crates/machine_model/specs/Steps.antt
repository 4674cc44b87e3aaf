-- The steps of a channel subsystem, and its runs.
use Rattle.std.specs.Prelude.{◌≡◌, not, List, [], ◌∷◌, ◌++◌, slice_get, Result, Ok, Err}
use Rattle.chan_model.specs.declared.fault.Fault.{Fault}
use Rattle.chan_events.specs.Events.{Event}
use Rattle.chan_events.specs.declared.event.Event.TheVariants as event
use Rattle.chan_events.specs.Replies.{Reply}
use Rattle.chan_events.specs.declared.reply.Reply.TheVariants as reply
use Rattle.channel_reports.specs.Queue as reports
use Rattle.chan_events.specs.declared.reply.Entry.{Entry}
use Rattle.channel_config.specs.Setup.{Setup}
use Rattle.machine_model.specs.State.{State, opening_of, found_of}
use Rattle.machine_model.specs.Setups.{IsSetUp}
use Rattle.machine_model.specs.Results.{Outcome, does}
use Rattle.machine_model.specs.StorageSteps.{put_result, key_result, prefix_result, show_result}
use Rattle.machine_model.specs.InstructionSteps.{Executes}
use Rattle.machine_model.specs.OtherSteps.{is_up, other_at}
use Rattle.machine_model.specs.ChooseSteps.{Chooses}
use Rattle.machine_model.specs.UpSteps.{up_at}
use Rattle.machine_model.specs.DownSteps.{down_at}
use Rattle.machine_model.specs.ReportSteps.{report_at}
use Rattle.machine_model.specs.ActSteps.{act_at}
use Rattle.machine_model.specs.RestartSteps.{restart_at}
use Rattle.machine_model.specs.PathSteps.{where_path, down_path, up_path, reset_path, reset_system}
use Rattle.machine_model.specs.Requests.{settled}

-- What an event itself comes to: its turn, or its refusal.
abbrev pub Does : State → Event → Outcome → Type 0
Does s (event.Put address bytes) r = r ≡ put_result s address bytes
Does s (event.SetKey address key) r = r ≡ key_result s address key
Does s (event.SetPrefix cpu address) r = r ≡ prefix_result s cpu address
Does s (event.Show address count) r = r ≡ show_result s address count
Does s (event.Execute cpu i) r = Executes s cpu i r
Does s (event.ExecuteOther cpu i) r = r ≡ other_at s cpu i
Does s (event.Choose word) r = Chooses s (found_of s word) r
Does s (event.Up word path) r = r ≡ up_at s (found_of s word) path
Does s (event.Down word path) r = r ≡ down_at s (found_of s word) path
Does s (event.Report index report) r = r ≡ report_at s index (slice_get s.units index) report
Does s (event.Act index act) r = r ≡ act_at s index (slice_get s.units index) act
Does s (event.Restart index) r = r ≡ restart_at s index (slice_get s.units index)
Does s (event.PathDown chpid) r = r ≡ where_path s chpid (is_up s.up chpid) (does reply.Done (down_path s chpid))
Does s (event.PathUp chpid) r = r ≡ where_path s chpid (not (is_up s.up chpid)) (does reply.Done (up_path s chpid))
Does s (event.PathReset chpid) r = r ≡ where_path s chpid (reports.is_asked s.reports chpid) (does reply.Done (reset_path s chpid))
Does s event.SystemReset r = r ≡ does reply.Done (reset_system s)

-- What an event comes to, with the requests for interruptions that are left of it.
abbrev pub Steps : State → Event → Outcome → Type 0
Steps s e r = (t : Outcome) × Does s e t × (r ≡ settled s e t)

abbrev pub Step : State → Event → Reply → State → Type 0
Step old e r new = Steps old e (does r new)

abbrev pub IsRefused : State → Event → Fault → Type 0
IsRefused s e f = Steps s e (Err f)

-- what a call that performs an event answered and left: a step, or a refusal that changed nothing
abbrev pub Performs : State → Event → Result Reply Fault → State → Type 0
Performs old e (Ok r) new = Step old e r new
Performs old e (Err f) new = IsRefused old e f × (new ≡ old)

-- from the opening these entries lead to a state
pub data Run (opening : State) : List Entry → State → Type 0 where
  Opened : Run opening [] opening
  Stepped : (h : List Entry) (old : State) (e : Event) (r : Reply) (new : State) → Run opening h old → Step old e r new → Run opening (h ++ record { event = e; reply = r } ∷ []) new

-- the machine is lawfully set up, and from the opening of each set-up that it has these entries lead to the state
abbrev pub HasRun : List Entry → State → Type 0
HasRun h s = ((setup : Setup) × IsSetUp setup s) × ((setup : Setup) → IsSetUp setup s → Run (opening_of setup) h s)
