-- What entries tell of the program that a subchannel offered last: which operation-request block it is of, which of its blocks were
-- fetched, which commands were sent and ended, and which bytes moved (SA22-7832, chapters 14 and 15).
use Rattle.std.specs.Prelude.{if◌then◌else◌, ◌≡◌, ◌⊎◌, ◌&&◌, ◌||◌, ℕ, Bool, true, false, Option, None, Some, option_map, option_and_then, unwrap_or, List, [], ◌∷◌, slice_get, Ok, IfSome}
use Rattle.zbits.specs.Layout.{image_of}
use Rattle.orb_block.specs.declared.Orb.{Orb}
use Rattle.orb_block.specs.OrbTable.{tables}
use Rattle.scsw_irb.specs.declared.status.DeviceStatus.{DeviceStatus}
use Rattle.storage_keys.specs.Storage.{Contents, cleared_storage, operand_at}
use Rattle.chan_model.specs.declared.answer.Answer.TheVariants as answer
use Rattle.chan_model.specs.Signals.{Down}
use Rattle.chan_model.specs.declared.signal.OnPath.{OnPath}
use Rattle.chan_model.specs.Signals.{Up}
use Rattle.chan_model.specs.declared.signal.Up.TheVariants as up
use Rattle.chan_model.specs.PathSets.{has_path}
use Rattle.chan_model.specs.ResetCauses.{is_path}
use Rattle.chan_events.specs.Events.{Event}
use Rattle.chan_events.specs.declared.event.Event.TheVariants as event
use Rattle.chan_events.specs.declared.event.Instruction.{Instruction}
use Rattle.chan_events.specs.declared.event.Instruction.TheVariants as instruction
use Rattle.chan_events.specs.declared.reply.Entry.{Entry}
use Rattle.chan_events.specs.Replies.{Reply}
use Rattle.chan_events.specs.declared.reply.Reply.TheVariants as reply
use Rattle.channel_config.specs.declared.names.SubchannelId.{SubchannelId}
use Rattle.channel_config.specs.declared.parts.SubchannelSetup.{SubchannelSetup}
use Rattle.channel_config.specs.Setup.{Setup, set_count}
use Rattle.channel_config.specs.SubchannelWords.{subchannel_named}
use Rattle.run_laws.specs.StateClaims.{is_id}
use Rattle.chan_events.specs.Instructions.{subchannel_word}
use Rattle.subchannel_model.specs.Indices.{first_index}
use Rattle.subchannel_model.specs.Test.{ends_suspended}
use Rattle.run_laws.specs.Functions.{keeps_functions}
use Rattle.run_laws.specs.BeginsItsOwn.{is_code_zero, over_by, over_chosen, IsAnswered}
use Rattle.run_laws.specs.ProgramClaims.{TraceCorrect}
use Rattle.run_laws.specs.Tells.{command_sent, Begins, IsAnswerTo, Moves, ended, IsChained, Chains}
use Rattle.run_laws.specs.Traces.{ProgramTrace, trace_offered, trace_resumed, taken_at}
use Rattle.run_laws.specs.Behind.{behind_after}
use Rattle.run_laws.specs.StorageTold.{AreStored}
use Rattle.run_laws.specs.StatusTold.{LastStored, stored_after, shown_by, IsStatusTold}
use Rattle.ccw_walk.specs.Sequences.{◌▸◌}

-- the operation-request block of the start that was accepted last, and what was done for the program that was offered last
pub record Told : Type 0 where
  pub started : Option Orb
  pub program : Option ProgramTrace

-- START SUBCHANNEL with code 0: its operand is the operation-request block
abbrev pub IsOrbAt : Contents → ℕ → ℕ → Orb → Type 0
IsOrbAt storage cpu address orb = operand_at storage cpu address 12 4 ≡ Ok (image_of (tables orb))

abbrev pub StartsBy : Contents → ℕ → Instruction → Reply → Told → Told → Type 0
StartsBy storage cpu (instruction.Ssch word address) (reply.Code (answer.Zero serials)) k after =
    (orb : Orb) × IsOrbAt storage cpu address orb × (after ≡ record k { started = Some orb })
StartsBy storage cpu i r k after = after ≡ k

-- Choose: the start that was accepted last is offered, or the program that was suspended, by a path of the logical-path mask of the
-- operation-request block of that start
abbrev pub OffersBy : Reply → Told → Told → Type 0
OffersBy (reply.Offered t path false) k after =
    (orb : Orb) × (k.started ≡ Some orb) × (has_path orb.paths path ≡ true) × (after ≡ record k { program = Some (trace_offered t orb) })
OffersBy (reply.Offered t path true) k after =
    (orb : Orb) × (k.started ≡ Some orb) × (has_path orb.paths path ≡ true) × (after ≡ record k { program = option_map (trace_resumed t) k.program })
OffersBy r k after = after ≡ k

-- whether the start that was offered is over: since its offer a START, HALT or CANCEL SUBCHANNEL of the subchannel was answered with code
-- 0, or a TEST SUBCHANNEL ended the program as suspended and halted
abbrev pub over_tested : Reply → Bool → Bool
over_tested (reply.Status (answer.Zero serials) scsw) over = over || ends_suspended scsw
over_tested r over = over

abbrev pub over_after : Bool → Event → Reply → Bool → Bool
over_after true (event.Execute cpu (instruction.Ssch word address)) r over = over_by r over
over_after true (event.Execute cpu (instruction.Hsch word)) r over = over_by r over
over_after true (event.Execute cpu (instruction.Xsch word)) r over = over_by r over
over_after true (event.Execute cpu (instruction.Tsch word address)) r over = over_tested r over
over_after true (event.Choose word) r over = over_chosen r over
over_after mine e r over = over

-- whether a halt is specified: after a HALT SUBCHANNEL with code 0, until a START, CLEAR or CANCEL SUBCHANNEL with code 0, a TEST SUBCHANNEL
-- that clears the functions, or a reset of the subsystem
abbrev pub unless_accepted : Reply → Bool → Bool
unless_accepted r halted = if is_code_zero r then false else halted

abbrev pub halt_tested : Reply → Bool → Bool
halt_tested (reply.Status (answer.Zero serials) scsw) halted = halted && keeps_functions scsw
halt_tested r halted = halted

abbrev pub halt_by : Instruction → Reply → Bool → Bool
halt_by (instruction.Ssch word address) r halted = unless_accepted r halted
halt_by (instruction.Tsch word address) r halted = halt_tested r halted
halt_by (instruction.Hsch word) r halted = over_by r halted
halt_by (instruction.Csch word) r halted = unless_accepted r halted
halt_by (instruction.Xsch word) r halted = unless_accepted r halted
halt_by i r halted = halted

abbrev pub halted_after : Bool → Event → Reply → Bool → Bool
halted_after mine (event.Execute cpu i) r halted = if mine then halt_by i r halted else halted
halted_after mine event.SystemReset r halted = false
halted_after mine e r halted = halted

-- how what was offered stands, whether a start waits behind the program at work, and what was shown of the status
pub record Standing : Type 0 where
  pub over : Bool
  pub halted : Bool
  pub behind : Bool
  pub stored : LastStored

abbrev pub standing_after : Bool → Event → Reply → Standing → Standing
standing_after mine e r st = record {
  over = over_after mine e r st.over;
  halted = halted_after mine e r st.halted;
  behind = behind_after mine e r st.behind;
  stored = stored_after mine e r st.stored;
}

-- Accept: where the start is over the device is let go; otherwise its program goes on, by the first command under this number, or by none,
-- and then the device is let go
abbrev pub Accepts : Bool → Contents → ℕ → Option (OnPath Down) → ProgramTrace → ProgramTrace → Type 0
Accepts true storage t sent k after = IsAnswered true t sent × (after ≡ k)
Accepts false storage t sent k after = IsAnswered false t sent × Begins storage sent k after

-- End: the next command is chained to where one is next and nothing breaks the chain, as a halt does that is specified, and goes on with
-- device end; otherwise the device is let go after the last End
abbrev pub Ends : Bool → Contents → DeviceStatus → Bool → Option (OnPath Down) → ProgramTrace → ProgramTrace → Type 0
Ends halted storage status more sent k after =
    (IsChained true halted status more k × Chains storage status sent k after)
    ⊎ (IsChained false halted status more k × (command_sent sent ≡ None)
    × (after ≡ record k { now = record k.now { acts = k.now.acts ▸ ended false status; ended = true; unchained = true } }))

-- a signal that is taken. Data: bytes are moved, and the next block is fetched where the counts so far are used up
abbrev pub MeetsBy : Standing → Contents → Contents → Up → Option (OnPath Down) → ProgramTrace → ProgramTrace → Type 0
MeetsBy st former storage (up.Accept t) sent k after = (t ≡ k.number) × (storage ≡ former) × Accepts st.over storage t sent k after
MeetsBy st former storage (up.Data load t c n s) sent k after = (t ≡ k.number) × (n ≡ k.sent) × IsAnswerTo t c n s sent × Moves former storage s load sent k after
MeetsBy st former storage (up.End t n status more) sent k after = (t ≡ k.number) × (n ≡ k.sent) × (storage ≡ former) × Ends st.halted storage status more sent k after
MeetsBy st former storage signal sent k after = (after ≡ k) × (storage ≡ former)

abbrev pub MeetsIf : Standing → Contents → Contents → Up → Option (OnPath Down) → Option ProgramTrace → Option ProgramTrace → Type 0
MeetsIf st former storage signal sent None None = storage ≡ former
MeetsIf st former storage signal sent (Some k) (Some after) = MeetsBy st former storage signal sent k after
MeetsIf st former storage signal sent k after = ⊥

abbrev pub UpBy : Standing → Contents → Contents → Reply → Told → Told → Type 0
UpBy st former storage (reply.Up signal true sent) k after = (after.started ≡ k.started) × MeetsIf st former storage signal sent k.program after.program
UpBy st former storage r k after = (after ≡ k) × (storage ≡ former)

-- a report of a device tells which bytes it absorbed
abbrev pub HasAbsorbed : Option ProgramTrace → Option ProgramTrace → Type 0
HasAbsorbed None None = Unit {0}
HasAbsorbed (Some k) (Some after) = (absorbed : List ℕ) × (after ≡ record k { absorbed = absorbed })
HasAbsorbed k after = ⊥

-- what an entry tells of a subchannel, where its word names it, or another
abbrev pub TellsBy : Bool → Standing → Contents → Contents → Event → Reply → Told → Told → Type 0
TellsBy true st former storage (event.Execute cpu i) r k after = StartsBy former cpu i r k after
TellsBy true st former storage (event.Choose word) r k after = OffersBy r k after
TellsBy true st former storage (event.Up word path) r k after = UpBy st former storage r k after
TellsBy true st former storage (event.Down word path) r k after = after ≡ record k { program = taken_at r k.program }
TellsBy mine st former storage (event.Report at report) r k after = (after.started ≡ k.started) × HasAbsorbed k.program after.program
TellsBy mine st former storage e r k after = after ≡ k

-- the index of the subchannel that an entry's word names, by the set-up
abbrev pub index_named : List SubchannelSetup → Option SubchannelId → Option ℕ
index_named subs named = option_and_then (λ id. first_index (λ (x : SubchannelSetup). is_id (Some x.id) id) subs) named

abbrev pub is_named_at : ℕ → List SubchannelSetup → ℕ → ℕ → Bool
is_named_at sets subs index word = is_path (index_named subs (subchannel_named sets word)) index

abbrev pub is_about : ℕ → List SubchannelSetup → ℕ → Event → Bool
is_about sets subs index (event.Execute cpu i) = is_named_at sets subs index (subchannel_word i)
is_about sets subs index (event.Choose word) = is_named_at sets subs index word
is_about sets subs index (event.Up word path) = is_named_at sets subs index word
is_about sets subs index (event.Down word path) = is_named_at sets subs index word
is_about sets subs index e = false

-- entry by entry, and after each all is right; the status that an entry made is shown by the next
abbrev pub AreTold : ℕ → List SubchannelSetup → ℕ → Contents → Standing → Told → List Entry → List Contents → Told → Type 0
AreTold sets subs index storage st k [] [] last = last ≡ k
AreTold sets subs index storage st k (entry ∷ entries) (after ∷ later) last =
    let mine : Bool = is_about sets subs index entry.event in
    (told : Told) × TellsBy mine st storage after entry.event entry.reply k told × IfSome told.program TraceCorrect
    × IsStatusTold st.over st.behind st.stored.passed (shown_by mine entry.event entry.reply) k.program
    × AreTold sets subs index after (standing_after mine entry.event entry.reply st) told entries later last
AreTold sets subs index storage st k entries later last = ⊥

abbrev pub nothing_traced : Told
nothing_traced = record { started = None; program = None }

abbrev pub nothing_over : Standing
nothing_over = record { over = false; halted = false; behind = false; stored = record { shown = None; passed = None } }

-- The claim: what storage held after each entry can be told, and with it what was done for the programs of each subchannel
abbrev pub opening_storage : Setup → Contents
opening_storage setup = cleared_storage (unwrap_or setup.blocks 16)

pub record AreProgramsTold (setup : Setup) (h : List Entry) : Type 0 where
  pub later : List Contents
  pub last : Contents
  pub stored : AreStored (opening_storage setup) h later last
  pub told : (index : ℕ) (sub : SubchannelSetup) → slice_get setup.subchannels index ≡ Some sub →
      (k : Told) × AreTold (set_count setup) setup.subchannels index (opening_storage setup) nothing_over nothing_traced h later k
