-- By which paths programs go out and come back (SA22-7832, chapter 15, the dedicated and the working allegiance).
use Rattle.std.specs.Prelude.{◌≡◌, ℕ, true, if◌then◌else◌, Option, None, Some, unwrap_or, List, slice_get}
use Rattle.chan_model.specs.declared.signal.Up.TheVariants as up
use Rattle.chan_model.specs.ResetCauses.{is_path}
use Rattle.chan_events.specs.Events.{Event}
use Rattle.chan_events.specs.declared.event.Event.TheVariants as event
use Rattle.chan_events.specs.declared.reply.Entry.{Entry}
use Rattle.chan_events.specs.Replies.{Reply}
use Rattle.chan_events.specs.declared.reply.Reply.TheVariants as reply
use Rattle.subchannel_model.specs.declared.state.Subchannel.{Subchannel}
use Rattle.subchannel_model.specs.Back.{is_grant}
use Rattle.machine_model.specs.State.{State, index_of, sub_of}
use Rattle.machine_model.specs.Steps.{Run, Opened, Stepped}

-- while a dedicated allegiance stands, a program is offered on its path
abbrev pub OffersOnDedicated : State → Event → Reply → Type 0
OffersOnDedicated s (event.Choose word) (reply.Offered t path resumes) =
    (sub : Subchannel) (d : ℕ) → sub_of s word ≡ Some sub → sub.state.dedicated ≡ Some d → path ≡ d
OffersOnDedicated s e r = Unit {0}

-- the path of the first Accept that the subchannel of an index took since a program of it was offered last, anew or resumed
abbrev pub accepted_by : Reply → ℕ → Option ℕ → Option ℕ
accepted_by (reply.Offered t p resumes) path before = None
accepted_by (reply.Up (up.Accept t) true sent) path before = Some (unwrap_or before path)
accepted_by r path before = before

abbrev pub accepted_after : ℕ → State → Event → Reply → Option ℕ → Option ℕ
accepted_after index s (event.Choose word) r before = if is_path (index_of s word) index then accepted_by r 0 before else before
accepted_after index s (event.Up word path) r before = if is_path (index_of s word) index then accepted_by r path before else before
accepted_after index s e r before = before

abbrev pub accepted_path : ℕ → (opening : State) (h : List Entry) (s : State) → Run opening h s → Option ℕ
accepted_path index opening _ _ Opened = None
accepted_path index opening _ _ (Stepped h old e r new run step) = accepted_after index old e r (accepted_path index opening h old run)

-- a reconnection is granted
abbrev pub granted_path : Reply → Option ℕ
granted_path (reply.Up signal taken (Some sent)) = if is_grant sent.signal then Some sent.path else None
granted_path r = None

-- in single-path mode that is by the path of the first Accept since the program was started or resumed
abbrev pub ReturnsByFirst : (opening : State) (h : List Entry) (s : State) → Run opening h s → Event → Reply → Type 0
ReturnsByFirst opening h s run (event.Up word path) r =
    (index p : ℕ) (sub : Subchannel) → index_of s word ≡ Some index → slice_get s.subs index ≡ Some sub → sub.state.hold.single_path ≡ true →
    granted_path r ≡ Some p → accepted_path index opening h s run ≡ Some p
ReturnsByFirst opening h s run e r = Unit {0}
