-- Where the channel subsystem has the program that each subchannel offered last, and what it may take, send and choose there (SA22-7832,
-- chapter 15, the allegiances; the signals, and when a reset is due, are this project's own).
use Rattle.std.specs.Prelude.{◌≡◌, ◌⊎◌, ◌<◌, ℕ, ◌==◌, nat_lt, Bool, true, false, not, ◌&&◌, ◌||◌, if◌then◌else◌, Option, None, Some, IsSomeAnd, MatchOption, option_and_then, List, [], ◌∷◌, map, slice_get}
use Rattle.std.specs.List.{find, list_any}
use Rattle.chan_events.specs.Events.{Event}
use Rattle.chan_events.specs.declared.event.Event.TheVariants as event
use Rattle.chan_events.specs.declared.event.Instruction.TheVariants as instruction
use Rattle.chan_events.specs.declared.reply.Entry.{Entry}
use Rattle.chan_events.specs.Replies.{Reply}
use Rattle.chan_events.specs.declared.reply.Reply.TheVariants as reply
use Rattle.chan_model.specs.Signals.{Down}
use Rattle.chan_model.specs.declared.signal.Down.TheVariants as down
use Rattle.chan_model.specs.declared.signal.OnPath.{OnPath}
use Rattle.chan_model.specs.Signals.{Up}
use Rattle.chan_model.specs.declared.signal.Up.TheVariants as up
use Rattle.chan_model.specs.ResetCauses.{is_path}
use Rattle.channel_config.specs.declared.names.SubchannelId.{SubchannelId}
use Rattle.channel_config.specs.declared.parts.SubchannelSetup.{SubchannelSetup}
use Rattle.channel_config.specs.Setup.{Setup, set_count, has_number}
use Rattle.channel_config.specs.SubchannelWords.{subchannel_named}
use Rattle.run_laws.specs.Entries.{Throughout, seen_through}
use Rattle.run_laws.specs.StateClaims.{is_same_id}
use Rattle.scsw_irb.specs.declared.status.DeviceStatus.{DeviceStatus}
use Rattle.run_laws.specs.BeginsItsOwn.{is_code_zero}

-- no program is anywhere; one is offered under a number by a path; it is connected by a path, by its Accept (connection 0) or by the
-- Grant of a connection; it is apart from its device's paths; its Release was sent; or the device is to be reset, and the Reset was sent
pub data Link : Type 0 where
  Nowhere : Link
  Offered : (number path : ℕ) → Link
  Connected : (number path connection : ℕ) → Link
  Apart : (number : ℕ) → Link
  Leaving : (number path : ℕ) → Link
  Resetting : Link
  Reset_sent : (number path : ℕ) → Link

-- the path whose engine serves the subchannel; the path whose loss makes a reset due
abbrev pub engaged_by : Link → Option ℕ
engaged_by (Offered t path) = Some path
engaged_by (Connected t path c) = Some path
engaged_by (Leaving t path) = Some path
engaged_by link = None

abbrev pub used_by : Link → Option ℕ
used_by (Reset_sent r path) = Some path
used_by link = engaged_by link

abbrev pub is_apart : Link → Bool
is_apart (Apart t) = true
is_apart link = false

-- what is seen of a subchannel that is set up so
pub record SubSeen : Type 0 where
  pub setup : SubchannelSetup
  pub link : Link
  -- the connection that the program asked for last, 0 before
  pub asked : ℕ
  -- the path by which it was accepted
  pub first : Option ℕ
  -- that path was lost while the program was apart: in single-path mode a reset is due since, which no reply tells
  pub doubt : Bool
  -- the number that was drawn last, and how many restarts of the unit are known
  pub drawn : ℕ
  pub restarts : ℕ

-- which channel paths are up, and what is seen of each subchannel, in the order of the set-up
pub record Seen : Type 0 where
  pub up : ℕ → Bool
  pub subs : List SubSeen

-- a path of a subchannel is of this channel path; some path of it is up
abbrev pub is_on : SubchannelSetup → Option ℕ → ℕ → Bool
is_on setup None chpid = false
is_on setup (Some path) chpid = is_path (slice_get setup.paths path) chpid

abbrev pub has_up : (ℕ → Bool) → SubchannelSetup → Bool
has_up is_up setup = list_any is_up setup.paths

-- a signal that came up was taken, and what was sent in answer
abbrev pub accepted : Link → Link
accepted (Offered t path) = Connected t path 0
accepted link = link

abbrev pub link_met : Up → Link → Link
link_met (up.Accept t) link = accepted link
link_met (up.Busy t) link = Nowhere
link_met (up.Leave t c) link = Apart t
link_met (up.Released t) link = Nowhere
link_met (up.Cleared r) link = Nowhere
link_met (up.Notice b) link = Resetting
link_met signal link = link

abbrev pub link_told : ℕ → Down → Link → Link
link_told path (down.Grant t c) link = Connected t path c
link_told path (down.Release t) link = Leaving t path
link_told path signal link = link

abbrev pub link_sent : Option (OnPath Down) → Link → Link
link_sent None link = link
link_sent (Some sent) link = link_told sent.path sent.signal link

abbrev pub asked_by : Up → ℕ → ℕ
asked_by (up.Accept t) c = 0
asked_by (up.Back t d) c = d
asked_by signal c = c

abbrev pub first_by : Up → Link → Option ℕ → Option ℕ
first_by (up.Accept t) link first = engaged_by link
first_by signal link first = first

abbrev pub restarts_by : Up → ℕ → ℕ
restarts_by (up.Notice b) known = b
restarts_by signal known = known

abbrev pub sub_met : Reply → SubSeen → SubSeen
sub_met (reply.Up signal true sent) k = record k {
  link = link_sent sent (link_met signal k.link);
  asked = asked_by signal k.asked;
  first = first_by signal k.link k.first;
  doubt = false;
  restarts = restarts_by signal k.restarts;
}
sub_met r k = k

-- the subsystem chose: a Reset that is due is sent where a path is up, so that where none was sent none was due
abbrev pub sub_chosen : (ℕ → Bool) → Reply → SubSeen → SubSeen
sub_chosen is_up (reply.Offered t path resumes) k = record k { link = Offered t path; doubt = false; drawn = t }
sub_chosen is_up (reply.ResetSent r path) k = record k { link = Reset_sent r path; doubt = false; drawn = r }
sub_chosen is_up r k = record k { doubt = k.doubt && not (has_up is_up k.setup) }

-- a reset is due: by CLEAR SUBCHANNEL, by a reset of the subsystem, by the loss of a path
abbrev pub sub_reset : SubSeen → SubSeen
sub_reset k = record k { link = Resetting; doubt = false }

abbrev pub sub_cleared : Reply → SubSeen → SubSeen
sub_cleared r k = if is_code_zero r then sub_reset k else k

abbrev pub sub_lost : ℕ → SubSeen → SubSeen
sub_lost chpid k =
    if is_on k.setup (used_by k.link) chpid then sub_reset k
    else record k { doubt = k.doubt || (is_apart k.link && is_on k.setup k.first chpid) }

-- of the first subchannel of a name
abbrev pub first_seen : SubchannelId → List SubSeen → Option SubSeen
first_seen id subs = find (λ x. is_same_id x.setup.id id) subs

abbrev pub seen_named : Option SubchannelId → List SubSeen → Option SubSeen
seen_named named subs = option_and_then (λ id. first_seen id subs) named

abbrev pub change_first : SubchannelId → (SubSeen → SubSeen) → List SubSeen → List SubSeen
change_first id f [] = []
change_first id f (x ∷ xs) = if is_same_id x.setup.id id then f x ∷ xs else x ∷ change_first id f xs

abbrev pub change_named : Option SubchannelId → (SubSeen → SubSeen) → List SubSeen → List SubSeen
change_named None f subs = subs
change_named (Some id) f subs = change_first id f subs

-- what is seen after an entry
abbrev pub with_up : ℕ → Bool → (ℕ → Bool) → ℕ → Bool
with_up chpid b is_up c = if c == chpid then b else is_up c

abbrev pub seen_after : ℕ → Event → Reply → Seen → Seen
seen_after sets (event.Choose word) r k = record k { subs = change_named (subchannel_named sets word) (sub_chosen k.up r) k.subs }
seen_after sets (event.Up word path) r k = record k { subs = change_named (subchannel_named sets word) (sub_met r) k.subs }
seen_after sets (event.Execute cpu (instruction.Csch word)) r k = record k { subs = change_named (subchannel_named sets word) (sub_cleared r) k.subs }
seen_after sets (event.PathDown chpid) r k = record { up = with_up chpid false k.up; subs = map (sub_lost chpid) k.subs }
seen_after sets (event.PathUp chpid) r k = record k { up = with_up chpid true k.up }
seen_after sets (event.PathReset chpid) r k = record k { subs = map (sub_lost chpid) k.subs }
seen_after sets event.SystemReset r k = record k { subs = map sub_reset k.subs }
seen_after sets e r k = k

-- before all
abbrev pub nothing_offered : SubchannelSetup → SubSeen
nothing_offered setup = record { setup = setup; link = Nowhere; asked = 0; first = None; doubt = false; drawn = 0; restarts = 0 }

abbrev pub nothing_seen : Setup → Seen
nothing_seen setup = record { up = has_number setup.paths; subs = map nothing_offered setup.subchannels }

-- what is seen after these entries
abbrev pub links_in : Setup → List Entry → Seen
links_in setup h = seen_through (seen_after (set_count setup)) (nothing_seen setup) h

-- what is taken: an answer exactly where its number waits for it; a Notice of more restarts than are known; a Leave of the connection
-- at hand; a Back of the program that is connected or apart, of a connection above the last, but where a reset may be due. Of a program
-- that is connected alone a Data, by its path and connection, and an End; an Attn where no program is anywhere alone
abbrev pub is_offered : Link → ℕ → Bool
is_offered (Offered u path) t = t == u
is_offered link t = false

abbrev pub is_leaving : Link → ℕ → Bool
is_leaving (Leaving u path) t = t == u
is_leaving link t = false

abbrev pub is_reset_sent : Link → ℕ → Bool
is_reset_sent (Reset_sent u path) r = r == u
is_reset_sent link r = false

abbrev pub is_held_for : Link → ℕ → Bool
is_held_for (Connected u path c) t = t == u
is_held_for (Apart u) t = t == u
is_held_for link t = false

abbrev pub is_connected_by : Link → ℕ → ℕ → Bool
is_connected_by (Connected u path d) t c = (t == u) && (c == d)
is_connected_by link t c = false

abbrev pub IsTaken : SubSeen → ℕ → Up → Bool → Type 0
IsTaken k path (up.Accept t) taken = taken ≡ is_offered k.link t
IsTaken k path (up.Busy t) taken = taken ≡ is_offered k.link t
IsTaken k path (up.Released t) taken = taken ≡ is_leaving k.link t
IsTaken k path (up.Cleared r) taken = taken ≡ is_reset_sent k.link r
IsTaken k path (up.Notice b) taken = taken ≡ nat_lt k.restarts b
IsTaken k path (up.Back t c) taken = (taken ≡ (is_held_for k.link t && nat_lt k.asked c)) ⊎ ((k.doubt ≡ true) × (taken ≡ false))
IsTaken k path (up.Data load t c n s) taken = taken ≡ true → k.link ≡ Connected t path c
IsTaken k path (up.Leave t c) taken = taken ≡ is_connected_by k.link t c
IsTaken k path (up.End t n status more) taken = taken ≡ true → (q c : ℕ) × (k.link ≡ Connected t q c)
IsTaken k path (up.Attn a status) taken = taken ≡ true → k.link ≡ Nowhere

-- the path is one of the subchannel, and up
abbrev pub IsUp : (ℕ → Bool) → SubSeen → ℕ → Type 0
IsUp is_up k path = (chpid : ℕ) × (slice_get k.setup.paths path ≡ Some chpid) × (is_up chpid ≡ true)

-- the program that an Accept begins or that an End goes on with, and that of a Data
abbrev pub program_of : Up → Option ℕ
program_of (up.Accept t) = Some t
program_of (up.End t n status more) = Some t
program_of signal = None

abbrev pub mover_of : Up → Option ℕ
mover_of (up.Data load t c n s) = Some t
mover_of signal = None

-- a Grant answers a Back of its number and connection, where the program is apart, by the path of the Back; a Refuse answers a Back, a
-- Command or Release an Accept or End of its number, a Took or Give a Data of its number, and Got an Attn; nothing else is sent in answer
abbrev pub IsSentFor : (ℕ → Bool) → SubSeen → ℕ → Up → ℕ → Down → Type 0
IsSentFor is_up k path signal q (down.Grant t c) = (signal ≡ up.Back t c) × (k.link ≡ Apart t) × (k.asked < c) × (q ≡ path) × IsUp is_up k path
IsSentFor is_up k path signal q (down.Refuse t c) = (signal ≡ up.Back t c) × (q ≡ path)
IsSentFor is_up k path signal q (down.Command t n code room) = program_of signal ≡ Some t
IsSentFor is_up k path signal q (down.Release t) = program_of signal ≡ Some t
IsSentFor is_up k path signal q (down.Took t n s room) = mover_of signal ≡ Some t
IsSentFor is_up k path signal q (down.Give bytes t c n s) = mover_of signal ≡ Some t
IsSentFor is_up k path signal q (down.Got a) = (status : DeviceStatus) × (signal ≡ up.Attn a status)
IsSentFor is_up k path signal q sent = ⊥

-- a Back or an Attn that is taken is answered
abbrev pub IsSilent : Bool → Up → Type 0
IsSilent false signal = Unit {0}
IsSilent true (up.Back t c) = ⊥
IsSilent true (up.Attn a status) = ⊥
IsSilent true signal = Unit {0}

abbrev pub AreSentFor : (ℕ → Bool) → SubSeen → ℕ → Up → Bool → Option (OnPath Down) → Type 0
AreSentFor is_up k path signal taken sent = MatchOption sent (IsSilent taken signal) (λ x. IsSentFor is_up k path signal x.path x.signal)

abbrev pub IsMetRight : (ℕ → Bool) → ℕ → Reply → SubSeen → Type 0
IsMetRight is_up path (reply.Up signal taken sent) k = IsTaken k path signal taken × AreSentFor is_up k path signal taken sent
IsMetRight is_up path r k = ⊥

-- a Reset is sent where one is due, or may be; a Halt goes to the program that is connected, by its path, or that is apart
abbrev pub IsResetDue : SubSeen → Type 0
IsResetDue k = (k.link ≡ Resetting) ⊎ (k.doubt ≡ true)

abbrev pub IsHaltDue : Link → ℕ → ℕ → Type 0
IsHaltDue (Connected u q c) t path = (t ≡ u) × (path ≡ q)
IsHaltDue (Apart u) t path = t ≡ u
IsHaltDue link t path = ⊥

-- an offer is made where no program is anywhere; offers and Resets are under numbers above all before, and all goes by a path that is up
abbrev pub IsChoiceRight : (ℕ → Bool) → Reply → SubSeen → Type 0
IsChoiceRight is_up (reply.Offered t path resumes) k = (k.link ≡ Nowhere) × (k.drawn < t) × IsUp is_up k path
IsChoiceRight is_up (reply.ResetSent r path) k = IsResetDue k × (k.drawn < r) × IsUp is_up k path
IsChoiceRight is_up (reply.HaltSent t path) k = IsHaltDue k.link t path × IsUp is_up k path
IsChoiceRight is_up reply.Pending k = Unit {0}
IsChoiceRight is_up reply.Idle k = Unit {0}
IsChoiceRight is_up r k = ⊥

abbrev pub IsReset : Reply → Type 0
IsReset (reply.ResetSent r path) = Unit {0}
IsReset r = ⊥

-- a Reset that is due is sent before all else, where a path is up
abbrev pub IsChosenRight : (ℕ → Bool) → Reply → SubSeen → Type 0
IsChosenRight is_up r k = IsChoiceRight is_up r k × (k.link ≡ Resetting → has_up is_up k.setup ≡ true → IsReset r)

-- of the subchannel that a word names: it is one of the set-up
abbrev pub IsEntryRight : ℕ → Event → Reply → Seen → Type 0
IsEntryRight sets (event.Choose word) r k = IsSomeAnd (seen_named (subchannel_named sets word) k.subs) (IsChosenRight k.up r)
IsEntryRight sets (event.Up word path) r k = IsSomeAnd (seen_named (subchannel_named sets word) k.subs) (IsMetRight k.up path r)
IsEntryRight sets e r k = Unit {0}

abbrev pub KeepsLinks : Setup → List Entry → Type 0
KeepsLinks setup h = Throughout (seen_after (set_count setup)) (IsEntryRight (set_count setup)) (nothing_seen setup) h
