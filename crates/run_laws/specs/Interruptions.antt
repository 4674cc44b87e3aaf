-- Requests for I/O interruptions, by what STORE SUBCHANNEL shows and TEST PENDING INTERRUPTION gives (SA22-7832, chapters 14 and 16): a
-- status that is made asks for one, and the request stands until it is given or taken away.
use Rattle.std.specs.Prelude.{◌≡◌, ◌<◌, ◌≤◌, ℕ, ◌%◌, ◌==◌, ◌&&◌, Bool, true, false, count_by, Option, Some, List, [], ◌∷◌, ◌++◌}
use Rattle.std.specs.List.{list_any}
use Rattle.scsw_irb.specs.declared.code.IntCode.{IntCode}
use Rattle.chan_events.specs.Events.{Event}
use Rattle.chan_events.specs.declared.event.Event.TheVariants as event
use Rattle.chan_events.specs.declared.event.Instruction.TheVariants as instruction
use Rattle.chan_events.specs.declared.event.OtherInstruction.TheVariants as other
use Rattle.chan_events.specs.declared.reply.Entry.{Entry}
use Rattle.chan_events.specs.Replies.{Reply}
use Rattle.chan_events.specs.declared.reply.Reply.TheVariants as reply
use Rattle.channel_config.specs.declared.names.SubchannelId.{SubchannelId}
use Rattle.channel_config.specs.Setup.{Setup, set_count}
use Rattle.interruptions.specs.Requests.{is_of}
use Rattle.run_laws.specs.Shown.{StoredStatus, names, stored_by, is_accepted}

-- TEST PENDING INTERRUPTION gives the request of this subchannel
abbrev pub is_given : SubchannelId → Reply → Bool
is_given id (reply.Interruption (Some code)) = is_of id.set id.number code
is_given id r = false

abbrev pub shows_status : Reply → Bool
shows_status (reply.Status answer scsw) = true
shows_status r = false

-- after these no request of the subchannel stands: TEST PENDING INTERRUPTION gave it; TEST SUBCHANNEL answered 0 or 1, or CLEAR SUBCHANNEL
-- 0; the subsystem was reset
abbrev pub takes_away : ℕ → SubchannelId → Event → Reply → Bool
takes_away sets id (event.ExecuteOther cpu (other.Tpi mask address)) r = is_given id r
takes_away sets id (event.Execute cpu (instruction.Tsch word address)) r = names sets id word && shows_status r
takes_away sets id (event.Execute cpu (instruction.Csch word)) r = names sets id word && is_accepted r
takes_away sets id event.SystemReset r = true
takes_away sets id e r = false

abbrev pub are_taken : ℕ → SubchannelId → List Entry → Bool
are_taken sets id h = list_any (λ x. takes_away sets id x.event x.reply) h

-- by these entries a request of the subchannel stands: STORE SUBCHANNEL showed that a status was made, and none was taken away since
pub record IsStanding (sets : ℕ) (id : SubchannelId) (h : List Entry) : Type 0 where
  pub before : List Entry
  pub middle : List Entry
  pub later : List Entry
  pub first : Entry
  pub second : Entry
  pub old : StoredStatus
  pub new : StoredStatus
  pub are : h ≡ before ++ (first ∷ (middle ++ (second ∷ later)))
  pub shows_old : stored_by sets id first.event first.reply ≡ Some old
  pub shows_new : stored_by sets id second.event second.reply ≡ Some new
  pub made : old.serials.made < new.serials.made
  pub stays : are_taken sets id (middle ++ (second ∷ later)) ≡ false

-- by these entries none stands: it was taken away, and as STORE SUBCHANNEL shows no status was made since
pub record IsNotStanding (sets : ℕ) (id : SubchannelId) (h : List Entry) : Type 0 where
  pub before : List Entry
  pub middle : List Entry
  pub away : Entry
  pub first : Entry
  pub second : Entry
  pub old : StoredStatus
  pub new : StoredStatus
  pub are : h ≡ before ++ (away ∷ (first ∷ (middle ++ (second ∷ []))))
  pub taken : takes_away sets id away.event away.reply ≡ true
  pub shows_old : stored_by sets id first.event first.reply ≡ Some old
  pub shows_new : stored_by sets id second.event second.reply ≡ Some new
  pub made : new.serials.made ≡ old.serials.made

-- TEST PENDING INTERRUPTION with these subclasses enabled gives this
abbrev pub IsTested : ℕ → Entry → Option IntCode → Type 0
IsTested mask entry found = (cpu : ℕ) × (address : ℕ) × (entry.event ≡ event.ExecuteOther cpu (other.Tpi mask address)) × (entry.reply ≡ reply.Interruption found)

-- where a request stands, TEST PENDING INTERRUPTION of all subclasses gives one
abbrev pub IsAskedFor : ℕ → List Entry → Type 0
IsAskedFor sets h = (id : SubchannelId) (before after : List Entry) (entry : Entry) (found : Option IntCode) → h ≡ before ++ (entry ∷ after) →
    IsStanding sets id before → IsTested 0xFF entry found → (code : IntCode) × (found ≡ Some code)

-- at most one subchannel has this name
abbrev pub IsAlone : Setup → SubchannelId → Type 0
IsAlone setup id = count_by (λ x. ((x.id.set % 4) == id.set) && (x.id.number == id.number)) setup.subchannels ≤ 1

-- where none of a subchannel stands, none of it is given
abbrev pub IsGivenOnce : Setup → List Entry → Type 0
IsGivenOnce setup h = (id : SubchannelId) (mask : ℕ) (before after : List Entry) (entry : Entry) (code : IntCode) → IsAlone setup id → h ≡ before ++ (entry ∷ after) →
    IsNotStanding (set_count setup) id before → IsTested mask entry (Some code) → is_of id.set id.number code ≡ false

-- of two requests that are given one right after the other, with the same subclasses enabled, the second is of no lower subclass
abbrev pub IsLowestFirst : List Entry → Type 0
IsLowestFirst h = (mask : ℕ) (before after : List Entry) (a b : Entry) (first second : IntCode) → h ≡ before ++ (a ∷ (b ∷ after)) →
    IsTested mask a (Some first) → IsTested mask b (Some second) → first.subclass ≤ second.subclass

-- and of a higher one, where its request stood when none of the first did
abbrev pub IsOldestFirst : Setup → List Entry → Type 0
IsOldestFirst setup h = (older newer : SubchannelId) (mask : ℕ) (before middle after : List Entry) (a b : Entry) (first second : IntCode) → IsAlone setup newer →
    h ≡ before ++ (middle ++ (a ∷ (b ∷ after))) → IsStanding (set_count setup) older before → IsNotStanding (set_count setup) newer before →
    are_taken (set_count setup) older middle ≡ false → IsTested mask a (Some first) → is_of newer.set newer.number first ≡ true →
    IsTested mask b (Some second) → is_of older.set older.number second ≡ true → first.subclass < second.subclass
