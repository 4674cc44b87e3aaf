-- Looks at a machine, in numbers and bytes: nothing changes (own).
use Rattle.std.specs.Prelude.{◌≡◌, ◌⊎◌, ℕ, ℤ, pos, ◌+◌, ◌==◌, ◌<◌, Bool, List, [], ◌∷◌, false, map, nat_lt, option_map, slice_index_or, Option, Some, None, Result, Ok, Err, if◌then◌else◌}
use Rattle.zbits.specs.Bits.{bit_of}
use Rattle.zbits.specs.Layout.{image_of, word_of}
use Rattle.chan_model.specs.declared.answer.Answer.{Answer}
use Rattle.chan_model.specs.declared.answer.Answer.TheVariants as answer
use Rattle.chan_model.specs.declared.fault.Fault.{Fault}
use Rattle.chan_model.specs.declared.fault.Fault.TheVariants as fault
use Rattle.chan_events.specs.ReportWords.{report_word}
use Rattle.chan_events.specs.declared.reply.Entry.{Entry}
use Rattle.event_log.specs.Logs.{last_reply}
use Rattle.chan_events.specs.declared.reply.Reply as declared_reply
use Rattle.chan_events.specs.declared.reply.Reply.TheVariants as reply
use Rattle.interruptions.specs.Requests.{has_request}
use Rattle.machine_model.specs.State.{State, sub_of}
use Rattle.schib_block.specs.SchibTable.{schib_tables}
use Rattle.scsw_irb.specs.CodeTable.{code_tables}
use Rattle.scsw_irb.specs.ScswTable.{irb_tables, scsw_tables}
use Rattle.scsw_irb.specs.declared.serials.Serials.{Serials}
use Rattle.subchannel_model.specs.Choosing.{any_engages}
use Rattle.subchannel_model.specs.Store.{schib_of}
use Rattle.subchannel_model.specs.Test.{irb_of}
use Rattle.host_machine.specs.Answers.{at_other_stage, below, fault_size}
use Rattle.host_machine.specs.Given.{written}
use Rattle.host_machine.specs.Machines.{Running}
use Rattle.host_machine.specs.declared.host_machine.HostMachine.{HostMachine}
use Rattle.host_machine.specs.declared.host_machine.HostMachine.TheVariants.{SettingUp, Runs}
use Rattle.host_machine.specs.declared.seen.HostSeen.{HostSeen}

-- what is seen of a machine that runs; one that is set up shows nothing
abbrev pub Shows : (Running → ℤ → Type 0) → Type 0 → HostMachine → ℤ → Type 0
Shows seen nothing (Runs r) number = seen r number
Shows seen nothing (SettingUp setup) number = (number ≡ below at_other_stage) × nothing

-- the interruption subclasses of which a request waits: bit n of these eight is subclass n
abbrev pub AreRequests : State → ℤ → Type 0
AreRequests s number = (mask : ℕ) × (number ≡ pos mask) × ((subclass : ℕ) → subclass < 8 → (bit_of mask (24 + subclass) == 1) ≡ has_request s.requests subclass)

-- a count, of which the most stands for all above
abbrev pub at_most : (most count : ℕ) → ℕ
at_most most count = if nat_lt most count then most else count

-- the block of a subchannel as it would be stored
abbrev pub schib_at : State → ℕ → Option (List ℕ)
schib_at s word = option_map (λ sub. image_of (schib_tables (schib_of sub))) (sub_of s word)

abbrev pub irb_at : State → ℕ → Option (List ℕ)
irb_at s word = option_map (λ sub. image_of (irb_tables (irb_of sub.state))) (sub_of s word)

-- the block is written into the host's room where the subchannel is configured
abbrev pub found_number : {A : Type 0} → Option A → ℤ
found_number None = below (fault_size fault.NoSuchSubchannel)
found_number (Some found) = pos 0

abbrev pub found_bytes : Option (List ℕ) → List ℕ
found_bytes None = []
found_bytes (Some bytes) = bytes

abbrev pub ShowsBlock : Option (List ℕ) → ℤ → (room left : List ℕ) → Type 0
ShowsBlock block number room left = (number ≡ found_number block) × (left ≡ written (found_bytes block) room)

-- a channel path: 0 not configured or down, 1 up, 3 up and serving a subchannel
abbrev pub path_number : Bool → Bool → ℕ
path_number up engaged = if up then (if engaged then 3 else 1) else 0

abbrev pub path_at : State → ℕ → ℕ
path_at s chpid = path_number (slice_index_or s.up chpid false) (any_engages s.subs chpid)

-- What the last reply tells beyond its number: of which kind it is, the serials that it brings, the number and the path that it names,
-- and the words that it tells

abbrev pub nothing_seen : HostSeen
nothing_seen = record { made = 0; cleared = 0; number = 0; kind = 0; path = 0; words = 0 ∷ 0 ∷ 0 ∷ [] }

abbrev pub with_serials : HostSeen → Answer → HostSeen
with_serials seen (answer.Zero serials) = record seen { made = serials.made; cleared = serials.cleared }
with_serials seen (answer.One serials) = record seen { made = serials.made; cleared = serials.cleared }
with_serials seen answer.Two = seen
with_serials seen answer.Three = seen

abbrev pub of_kind : ℕ → HostSeen
of_kind kind = record nothing_seen { kind = kind }

abbrev pub seen_of : {B U D : Type 0} → declared_reply.Reply B U D → HostSeen
seen_of reply.Done = of_kind 1
seen_of (reply.Shown bytes) = of_kind 2
seen_of (reply.Code a) = with_serials (of_kind 3) a
seen_of (reply.Status a scsw) = record (with_serials (of_kind 4) a) { words = map word_of (scsw_tables scsw) }
seen_of (reply.Interruption None) = of_kind 5
seen_of (reply.Interruption (Some code)) = record (of_kind 5) { words = map word_of (code_tables code) }
seen_of (reply.PathReset code) = of_kind 6
seen_of (reply.ChannelReport report) = record (of_kind 7) { words = report_word report ∷ 0 ∷ 0 ∷ [] }
seen_of (reply.Paths engaged) = of_kind 8
seen_of (reply.Offered number path resumed) = record (of_kind 9) { number = number; path = path }
seen_of (reply.ResetSent number path) = record (of_kind 10) { number = number; path = path }
seen_of (reply.HaltSent number path) = record (of_kind 11) { number = number; path = path }
seen_of reply.Pending = of_kind 12
seen_of reply.Idle = of_kind 13
seen_of (reply.Up signal taken sent) = of_kind 14
seen_of (reply.Down signal taken sent) = of_kind 15

-- of the entry that is kept last, or nothing where none is
abbrev pub SeesLast : List Entry → HostSeen → Type 0
SeesLast kept seen = (seen ≡ seen_of (last_reply kept)) ⊎ ((kept ≡ []) × (seen ≡ nothing_seen))

-- the serials of a subchannel
abbrev pub ShowsSerials : Option Serials → ℤ → (made cleared : ℕ) → (made' cleared' : ℕ) → Type 0
ShowsSerials None number made cleared made' cleared' = (number ≡ below (fault_size fault.NoSuchSubchannel)) × ((made' ≡ made) × (cleared' ≡ cleared))
ShowsSerials (Some serials) number made cleared made' cleared' = (number ≡ pos 0) × ((made' ≡ serials.made) × (cleared' ≡ serials.cleared))

-- what is looked for is told, or why it is not there, and then what the host has stays
abbrev pub Finds : {A : Type 0} → Result A Fault → ℤ → (old new : A) → Type 0
Finds (Ok told) number old new = (number ≡ pos 0) × (new ≡ told)
Finds (Err f) number old new = (number ≡ below (fault_size f)) × (new ≡ old)

abbrev pub ShowsFound : {A : Type 0} → (State → Result A Fault) → HostMachine → ℤ → (old new : A) → Type 0
ShowsFound look machine number old new = Shows (λ r answered. Finds (look r.subsystem.machine) answered old new) (new ≡ old) machine number
