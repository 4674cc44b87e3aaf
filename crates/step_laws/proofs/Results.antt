-- What each event answers and leaves of a state, before the requests for interruptions are settled: all that a step is.
use Rattle.std.proofs.Common.{◌≡◌, refl, sym, subst, ℕ, ◌==◌, Bool, true, false, Option, None, Some, Result, Ok, Err, List, ◌∷◌, []}
use Rattle.std.specs.Prelude.{◌≢◌, slice_get, not, if◌then◌else◌, IfErr, MatchResult, length}
use Rattle.zbits.specs.Bits.{field_of}
use Rattle.zbits.specs.Words.{bytes_of_words}
use Rattle.storage_keys.specs.declared.key.Key.{Key}
use Rattle.storage_keys.specs.declared.StorageFault.{StorageFault}
use Rattle.storage_keys.specs.Storage.{Contents, put, shown, key_set, prefix_set, operand_check, operand_stored}
use Rattle.channel_config.specs.declared.names.SubchannelId.{SubchannelId}
use Rattle.channel_config.specs.Setup.{has_number}
use Rattle.channel_config.specs.SubchannelWords.{subchannel_named}
use Rattle.channel_reports.specs.Queue as reports
use Rattle.interruptions.specs.Requests as requests
use Rattle.chan_model.specs.ConditionCodes.{rchp_code}
use Rattle.chan_model.specs.declared.fault.Fault.{Fault}
use Rattle.chan_model.specs.declared.fault.Fault.TheVariants as fault
use Rattle.chan_events.specs.Events.{Event}
use Rattle.chan_events.specs.declared.event.Event.TheVariants as event
use Rattle.chan_events.specs.declared.event.Instruction.{Instruction}
use Rattle.chan_events.specs.declared.event.OtherInstruction.{OtherInstruction}
use Rattle.chan_events.specs.declared.event.OtherInstruction.TheVariants as other
use Rattle.chan_events.specs.declared.event.UnitAct.{UnitAct}
use Rattle.chan_events.specs.ReportWords.{report_word}
use Rattle.chan_events.specs.Replies.{Reply}
use Rattle.chan_events.specs.declared.reply.Reply.TheVariants as reply
use Rattle.chan_model.specs.Reports.{Report}
use Rattle.chan_model.specs.declared.unit_state.UnitState.{UnitState}
use Rattle.chan_model.specs.declared.names.Side.{Side}
use Rattle.chan_model.specs.UnitTable.{restarted}
use Rattle.path_select.specs.Choice.{IsChoice}
use Rattle.subchannel_model.specs.declared.state.Subchannel.{Subchannel}
use Rattle.subchannel_model.specs.Indices.{Found, found_at, index_in, reached_in}
use Rattle.subchannel_model.specs.Choosing.{chosen, marked_sub, paths_to_choose}
use Rattle.machine_model.specs.State.{State, index_of, found_of, with_sub, state_with_unit}
use Rattle.chan_events.specs.Instructions.{subchannel_word}
use Rattle.machine_model.specs.Results.{Outcome, StepResult, SubResult, UpResult, DownResult, at_sub, at_storage, at_unit, does}
use Rattle.machine_model.specs.InstructionSteps.{Executes_on}
use Rattle.machine_model.specs.ChooseSteps.{choose_sub, Chooses}
use Rattle.machine_model.specs.UpSteps.{returns_at, up_sub, up_at}
use Rattle.machine_model.specs.DownSteps.{asks_at, share_with, at_shared, down_sub, down_at, down_unit}
use Rattle.machine_model.specs.ReportSteps.{report_sub, report_to, report_at}
use Rattle.machine_model.specs.RestartSteps.{restart_at}
use Rattle.machine_model.specs.Requests.{settled, requests_settled}
use Rattle.machine_model.specs.StorageSteps.{storage_result, show_result_of}
use Rattle.machine_model.specs.Steps.{Does, IsRefused, Step}
use Rattle.machine_model.specs.Sharing.{may_take, is_let_go, members_over, owing_after, members_after}
use Rattle.machine_model.specs.OtherSteps.{LentWhole, answers, code_check, code_stored, engaged_bytes, engaged_chpids, is_up, other_at, other_done, where_stored, with_lent}
use Rattle.machine_model.specs.PathSteps.{down_path, up_path, reset_path, reset_system}
use Rattle.machine_model.specs.ActSteps.{side_of_act, act_sub, act_on, act_at, act_to}
use Rattle.step_laws.proofs.Indices.{found-there}
use Rattle.step_laws.proofs.Executed.{IsDone, IsDoneBy, IsStorageLeft, executes-done}
use Rattle.step_laws.proofs.Faults.{IsOther, act-other, choice-other, down-other, not_held-other, report-other, up-other}

pub data ResultOf (s : State) : Event → Reply → State → Type 0 where
  Puts : (address : ℕ) (bytes : List ℕ) (storage : Contents) → put s.storage address bytes ≡ Ok storage →
      ResultOf s (event.Put address bytes) reply.Done (record s { storage = storage })
  SetsKey : (address : ℕ) (key : Key) (storage : Contents) → key_set s.storage address key ≡ Ok storage →
      ResultOf s (event.SetKey address key) reply.Done (record s { storage = storage })
  SetsPrefix : (cpu address : ℕ) (storage : Contents) → prefix_set s.storage cpu address ≡ Ok storage →
      ResultOf s (event.SetPrefix cpu address) reply.Done (record s { storage = storage })
  Shows : (address count : ℕ) (bytes : List ℕ) → shown s.storage address count ≡ Ok bytes → ResultOf s (event.Show address count) (reply.Shown bytes) s
  Executes : (cpu : ℕ) (i : Instruction) (id : SubchannelId) (q : Option Found) (r : Reply) (storage : Contents) (subs : List Subchannel) →
      subchannel_named s.sets (subchannel_word i) ≡ Some id → found_at s.subs (index_in id s.subs) ≡ q → length storage.keys ≡ length s.storage.keys →
      IsStorageLeft s cpu i q storage → IsDone s i q r (record s { storage = storage; subs = subs }) →
      ResultOf s (event.Execute cpu i) r (record s { storage = storage; subs = subs })
  Interrupts : (cpu mask address : ℕ) → ResultOf s (event.ExecuteOther cpu (other.Tpi mask address)) (reply.Interruption (requests.answer s.requests mask))
      (record s { storage = code_stored s.storage cpu address (requests.answer s.requests mask); requests = requests.after_answer s.requests (requests.answer s.requests mask) })
  AsksReset : (cpu path : ℕ) →
      ResultOf s (event.ExecuteOther cpu (other.Rchp path)) (reply.PathReset (rchp_code (is_up s.up (field_of path 24 31)) (reports.is_asked s.reports (field_of path 24 31))))
      (record s { reports = reports.with_rchp s.reports (field_of path 24 31) (is_up s.up (field_of path 24 31)) })
  StoresReport : (cpu address : ℕ) → ResultOf s (event.ExecuteOther cpu (other.Stcrw address)) (reply.ChannelReport (reports.oldest s.reports))
      (record s {
        storage = operand_stored s.storage cpu address (bytes_of_words (report_word (reports.oldest s.reports) ∷ []));
        reports = reports.without_oldest s.reports;
      })
  StoresPaths : (cpu address : ℕ) → ResultOf s (event.ExecuteOther cpu (other.Stcps address)) (reply.Paths (engaged_bytes (engaged_chpids s.subs 0x100) 32))
      (record s { storage = operand_stored s.storage cpu address (engaged_bytes (engaged_chpids s.subs 0x100) 32) })
  Chosen : (word index : ℕ) (sub : Subchannel) (choice : Option ℕ) (t : SubResult) → index_of s word ≡ Some index → slice_get s.subs index ≡ Some sub →
      IsChoice (paths_to_choose s.subs sub) choice → choose_sub (marked_sub sub choice) (chosen sub choice) ≡ Ok t →
      ResultOf s (event.Choose word) t.reply (with_sub s index t.sub)
  Meets : (word path index : ℕ) (sub : Subchannel) (t : UpResult) → index_of s word ≡ Some index → slice_get s.subs index ≡ Some sub →
      up_sub (returns_at s.subs sub path) s.storage sub path ≡ Ok t → ResultOf s (event.Up word path) t.reply (with_sub (record s { storage = t.storage }) index t.sub)
  Takes : (word path index : ℕ) (sub : Subchannel) (u : UnitState) (t : DownResult) → index_of s word ≡ Some index → slice_get s.subs index ≡ Some sub →
      slice_get s.units sub.setup.«unit» ≡ Some u → down_sub (may_take s.members sub.setup.«unit» (asks_at sub path u)) sub path u ≡ Ok t →
      ResultOf s (event.Down word path) t.reply
      (state_with_unit (with_sub (record s { members = members_after s.members sub.setup.«unit» (asks_at sub path u) u t.«unit» }) index t.sub) sub.setup.«unit»
      (owing_after s.members sub.setup.«unit» u t.«unit»))
  Reports : (at index : ℕ) (sub : Subchannel) (u : UnitState) (report : Report) (t : DownResult) → slice_get s.units at ≡ Some u →
      reached_in at report.side s.subs ≡ Some index → slice_get s.subs index ≡ Some sub → report_sub sub u report ≡ Ok t →
      ResultOf s (event.Report at report) t.reply (state_with_unit (with_sub s index t.sub) at t.«unit»)
  Acts : (at index : ℕ) (sub : Subchannel) (u : UnitState) (what : UnitAct) (side : Side) (t : DownResult) → slice_get s.units at ≡ Some u →
      side_of_act u what ≡ Some side → reached_in at side s.subs ≡ Some index → slice_get s.subs index ≡ Some sub → act_sub sub u what ≡ Ok t →
      ResultOf s (event.Act at what) t.reply (state_with_unit (with_sub s index t.sub) at t.«unit»)
  Restarts : (at : ℕ) (u : UnitState) → slice_get s.units at ≡ Some u → ResultOf s (event.Restart at) reply.Done
      (state_with_unit (record s { members = members_over s.members at (is_let_go u (restarted u)) }) at (owing_after s.members at u (restarted u)))
  GoesDown : (chpid : ℕ) → ResultOf s (event.PathDown chpid) reply.Done (down_path s chpid)
  ComesUp : (chpid : ℕ) → ResultOf s (event.PathUp chpid) reply.Done (up_path s chpid)
  IsReset : (chpid : ℕ) → reports.is_asked s.reports chpid ≡ true → ResultOf s (event.PathReset chpid) reply.Done (reset_path s chpid)
  ResetsAll : ResultOf s event.SystemReset reply.Done (reset_system s)

-- a step: the turn of its event, and the requests that are left of it
pub record HasResult (s : State) (e : Event) (r : Reply) (new : State) : Type 0 where
  pub left : State
  pub turn : ResultOf s e r left
  pub settles : new ≡ record left { requests = requests_settled s e (record { reply = r; state = left }) }

module _ (s : State) where
  -- it is refused, if at all, for something else than want of memory
  abbrev IsOutcome : Event → Outcome → Type 0
  IsOutcome e o = MatchResult o (λ t. ResultOf s e t.reply t.state) IsOther

  at_sub-turn : (e : Event) (index : ℕ) (r : Result SubResult Fault) → ((t : SubResult) → r ≡ Ok t → ResultOf s e t.reply (with_sub s index t.sub)) → IfErr r IsOther →
      IsOutcome e (at_sub s index r)
  at_sub-turn e index (Ok t) f other = f t refl
  at_sub-turn e index (Err x) f other = other

  at_storage-turn : (e : Event) (index : ℕ) (r : Result UpResult Fault) →
      ((t : UpResult) → r ≡ Ok t → ResultOf s e t.reply (with_sub (record s { storage = t.storage }) index t.sub)) → IfErr r IsOther → IsOutcome e (at_storage s index r)
  at_storage-turn e index (Ok t) f other = f t refl
  at_storage-turn e index (Err x) f other = other

  at_unit-turn : (e : Event) (index at : ℕ) (r : Result DownResult Fault) →
      ((t : DownResult) → r ≡ Ok t → ResultOf s e t.reply (state_with_unit (with_sub s index t.sub) at t.«unit»)) → IfErr r IsOther →
      IsOutcome e (at_unit s index at r)
  at_unit-turn e index at (Ok t) f other = f t refl
  at_unit-turn e index at (Err x) f other = other

  at_shared-turn : (e : Event) (index at : ℕ) (asks : Bool) (u : UnitState) (r : Result DownResult Fault) →
      ((t : DownResult) → r ≡ Ok t →
      ResultOf s e t.reply (state_with_unit (with_sub (record s { members = members_after s.members at asks u t.«unit» }) index t.sub) at (owing_after s.members at u t.«unit»))) →
      IfErr r IsOther → IsOutcome e (at_shared s index at (share_with s.members at asks u r))
  at_shared-turn e index at asks u (Ok t) f other = f t refl
  at_shared-turn e index at asks u (Err x) f other = other

  -- an operator's acts
  storage-turn : (e : Event) (r : Result Contents StorageFault) → ((storage : Contents) → r ≡ Ok storage → ResultOf s e reply.Done (record s { storage = storage })) →
      IsOutcome e (storage_result s r)
  storage-turn e (Ok storage) f = f storage refl
  storage-turn e (Err x) f = λ g. cc g

  show-turn : (address count : ℕ) (r : Result (List ℕ) StorageFault) → shown s.storage address count ≡ r → IsOutcome (event.Show address count) (show_result_of s r)
  show-turn address count (Ok bytes) n = Shows address count bytes n
  show-turn address count (Err x) n = λ g. cc g

  -- instructions
  done-turn : (cpu : ℕ) (i : Instruction) (id : SubchannelId) (q : Option Found) (o : Outcome) → subchannel_named s.sets (subchannel_word i) ≡ Some id →
      found_at s.subs (index_in id s.subs) ≡ q → MatchResult o (λ t. IsDoneBy s cpu i q t.reply t.state) IsOther → IsOutcome (event.Execute cpu i) o
  done-turn cpu i id q (Ok t) n e k =
      subst (ResultOf s (event.Execute cpu i) t.reply) (sym k.own)
      (Executes cpu i id q t.reply t.state.storage t.state.subs n e k.blocks k.storage (subst (IsDone s i q t.reply) k.own k.done))
  done-turn cpu i id q (Err x) n e k = k

  executes-turn : (cpu : ℕ) (i : Instruction) (x : Option SubchannelId) (o : Outcome) → subchannel_named s.sets (subchannel_word i) ≡ x → Executes_on s cpu i x o →
      IsOutcome (event.Execute cpu i) o
  executes-turn cpu i None o n w = subst (IsOutcome (event.Execute cpu i)) (sym w) (λ g. cc g)
  executes-turn cpu i (Some id) o n w =
      done-turn cpu i id (found_at s.subs (index_in id s.subs)) o n refl
      (executes-done s cpu i (index_in id s.subs) (found_at s.subs (index_in id s.subs)) o refl w)

  -- those that name no subchannel
  tested-turn : (e : Event) (check : Result (Unit {0}) StorageFault) (r : Reply) (left : LentWhole) → ResultOf s e r (with_lent s left) →
      IsOutcome e (other_done s (where_stored check (answers r left)))
  tested-turn e (Ok u) r left k = k
  tested-turn e (Err x) r left k = λ g. cc g

  right-turn : (e : Event) (right : Bool) (r : Reply) (left : LentWhole) → ResultOf s e r (with_lent s left) →
      IsOutcome e (other_done s (if right then answers r left else Err fault.Operand))
  right-turn e true r left k = k
  right-turn e false r left k = λ g. cc g

  others-turn : (cpu : ℕ) (i : OtherInstruction) → IsOutcome (event.ExecuteOther cpu i) (other_at s cpu i)
  others-turn cpu (other.Tpi mask address) = tested-turn _ (code_check s.storage cpu address) _ _ (Interrupts cpu mask address)
  others-turn cpu (other.Rchp path) = right-turn _ (field_of path 0 23 == 0) _ _ (AsksReset cpu path)
  others-turn cpu (other.Stcrw address) = tested-turn _ (operand_check s.storage cpu address 4 4) _ _ (StoresReport cpu address)
  others-turn cpu (other.Stcps address) = tested-turn _ (operand_check s.storage cpu address 32 32) _ _ (StoresPaths cpu address)

  -- what the subsystem does for a subchannel, and what a unit does
  chooses-turn : (word : ℕ) (q : Option Found) (o : Outcome) → found_of s word ≡ q → Chooses s q o → IsOutcome (event.Choose word) o
  chooses-turn word None o e w = subst (IsOutcome (event.Choose word)) (sym w) (λ g. cc g)
  chooses-turn word (Some f) o e w =
      let there : (index_of s word ≡ Some f.index) × (slice_get s.subs f.index ≡ Some f.sub) = found-there s.subs (index_of s word) f e in
      subst (IsOutcome (event.Choose word)) (sym w.2)
      (at_sub-turn (event.Choose word) f.index (choose_sub (marked_sub f.sub w.0) (chosen f.sub w.0)) (λ t h. Chosen word f.index f.sub w.0 t there.0 there.1 w.1 h)
      (choice-other (marked_sub f.sub w.0) (chosen f.sub w.0)))

  ups-turn : (word path : ℕ) (q : Option Found) → found_of s word ≡ q → IsOutcome (event.Up word path) (up_at s q path)
  ups-turn word path None e = λ g. cc g
  ups-turn word path (Some f) e =
      let there : (index_of s word ≡ Some f.index) × (slice_get s.subs f.index ≡ Some f.sub) = found-there s.subs (index_of s word) f e in
      at_storage-turn (event.Up word path) f.index (up_sub (returns_at s.subs f.sub path) s.storage f.sub path) (λ t h. Meets word path f.index f.sub t there.0 there.1 h)
      (up-other (returns_at s.subs f.sub path) s.storage f.sub path)

  down_unit-turn : (word path : ℕ) (f : Found) (v : Option UnitState) → index_of s word ≡ Some f.index → slice_get s.subs f.index ≡ Some f.sub →
      slice_get s.units f.sub.setup.«unit» ≡ v → IsOutcome (event.Down word path) (down_unit s f path v)
  down_unit-turn word path f None n e h = λ g. cc g
  down_unit-turn word path f (Some u) n e h =
      at_shared-turn (event.Down word path) f.index f.sub.setup.«unit» (asks_at f.sub path u) u (down_sub (may_take s.members f.sub.setup.«unit» (asks_at f.sub path u)) f.sub path u)
      (λ t g. Takes word path f.index f.sub u t n e h g) (down-other (may_take s.members f.sub.setup.«unit» (asks_at f.sub path u)) f.sub path u)

  downs-turn : (word path : ℕ) (q : Option Found) → found_of s word ≡ q → IsOutcome (event.Down word path) (down_at s q path)
  downs-turn word path None e = λ g. cc g
  downs-turn word path (Some f) e =
      let there : (index_of s word ≡ Some f.index) × (slice_get s.subs f.index ≡ Some f.sub) = found-there s.subs (index_of s word) f e in
      down_unit-turn word path f (slice_get s.units f.sub.setup.«unit») there.0 there.1 refl

  report_to-turn : (at : ℕ) (u : UnitState) (report : Report) (q : Option Found) → slice_get s.units at ≡ Some u →
      found_at s.subs (reached_in at report.side s.subs) ≡ q → IsOutcome (event.Report at report) (report_to s at u report q)
  report_to-turn at u report None h e = λ g. cc g
  report_to-turn at u report (Some f) h e =
      let there : (reached_in at report.side s.subs ≡ Some f.index) × (slice_get s.subs f.index ≡ Some f.sub) = found-there s.subs (reached_in at report.side s.subs) f e in
      at_unit-turn (event.Report at report) f.index at (report_sub f.sub u report) (λ t g. Reports at f.index f.sub u report t h there.0 there.1 g)
      (report-other f.sub u report)

  reports-turn : (at : ℕ) (v : Option UnitState) (report : Report) → slice_get s.units at ≡ v → IsOutcome (event.Report at report) (report_at s at v report)
  reports-turn at None report h = λ g. cc g
  reports-turn at (Some u) report h = report_to-turn at u report (found_at s.subs (reached_in at report.side s.subs)) h refl

  act_to-turn : (at : ℕ) (u : UnitState) (what : UnitAct) (side : Side) (q : Option Found) → slice_get s.units at ≡ Some u → side_of_act u what ≡ Some side →
      found_at s.subs (reached_in at side s.subs) ≡ q → IsOutcome (event.Act at what) (act_to s at u what q)
  act_to-turn at u what side None h k e = λ g. cc g
  act_to-turn at u what side (Some f) h k e =
      let there : (reached_in at side s.subs ≡ Some f.index) × (slice_get s.subs f.index ≡ Some f.sub) = found-there s.subs (reached_in at side s.subs) f e in
      at_unit-turn (event.Act at what) f.index at (act_sub f.sub u what) (λ t g. Acts at f.index f.sub u what side t h k there.0 there.1 g)
      (act-other f.sub u what)

  act_on-turn : (at : ℕ) (u : UnitState) (what : UnitAct) (side : Option Side) → slice_get s.units at ≡ Some u → side_of_act u what ≡ side →
      IsOutcome (event.Act at what) (act_on s at u what side)
  act_on-turn at u what None h k = not_held-other s.subs at what
  act_on-turn at u what (Some side) h k = act_to-turn at u what side (found_at s.subs (reached_in at side s.subs)) h k refl

  acts-turn : (at : ℕ) (v : Option UnitState) (what : UnitAct) → slice_get s.units at ≡ v → IsOutcome (event.Act at what) (act_at s at v what)
  acts-turn at None what h = λ g. cc g
  acts-turn at (Some u) what h = act_on-turn at u what (side_of_act u what) h refl

  restarts-turn : (at : ℕ) (v : Option UnitState) → slice_get s.units at ≡ v → IsOutcome (event.Restart at) (restart_at s at v)
  restarts-turn at None h = λ g. cc g
  restarts-turn at (Some u) h = Restarts at u h

  -- an event of a path is refused, or befalls every subchannel
  path-turn : (e : Event) (there right : Bool) (new : State) → (right ≡ true → ResultOf s e reply.Done new) →
      IsOutcome e (if there then (if right then does reply.Done new else Err fault.NotNow) else Err fault.NoSuchPath)
  path-turn e true true new k = k refl
  path-turn e true false new k = λ g. cc g
  path-turn e false right new k = λ g. cc g

  events-turn : (e : Event) (o : Outcome) → Does s e o → IsOutcome e o
  events-turn (event.Put address bytes) o w =
      subst (IsOutcome (event.Put address bytes)) (sym w) (storage-turn (event.Put address bytes) (put s.storage address bytes) (Puts address bytes))
  events-turn (event.SetKey address key) o w =
      subst (IsOutcome (event.SetKey address key)) (sym w) (storage-turn (event.SetKey address key) (key_set s.storage address key) (SetsKey address key))
  events-turn (event.SetPrefix cpu address) o w =
      subst (IsOutcome (event.SetPrefix cpu address)) (sym w) (storage-turn (event.SetPrefix cpu address) (prefix_set s.storage cpu address) (SetsPrefix cpu address))
  events-turn (event.Show address count) o w = subst (IsOutcome (event.Show address count)) (sym w) (show-turn address count (shown s.storage address count) refl)
  events-turn (event.Execute cpu i) o w = executes-turn cpu i _ o refl w
  events-turn (event.ExecuteOther cpu i) o w = subst (IsOutcome (event.ExecuteOther cpu i)) (sym w) (others-turn cpu i)
  events-turn (event.Choose word) o w = chooses-turn word (found_of s word) o refl w
  events-turn (event.Up word path) o w = subst (IsOutcome (event.Up word path)) (sym w) (ups-turn word path (found_of s word) refl)
  events-turn (event.Down word path) o w = subst (IsOutcome (event.Down word path)) (sym w) (downs-turn word path (found_of s word) refl)
  events-turn (event.Report at report) o w = subst (IsOutcome (event.Report at report)) (sym w) (reports-turn at (slice_get s.units at) report refl)
  events-turn (event.Act at what) o w = subst (IsOutcome (event.Act at what)) (sym w) (acts-turn at (slice_get s.units at) what refl)
  events-turn (event.Restart at) o w = subst (IsOutcome (event.Restart at)) (sym w) (restarts-turn at (slice_get s.units at) refl)
  events-turn (event.PathDown chpid) o w =
      subst (IsOutcome (event.PathDown chpid)) (sym w) (path-turn _ (has_number s.chpids chpid) (is_up s.up chpid) _ (λ right. GoesDown chpid))
  events-turn (event.PathUp chpid) o w =
      subst (IsOutcome (event.PathUp chpid)) (sym w) (path-turn _ (has_number s.chpids chpid) (not (is_up s.up chpid)) _ (λ right. ComesUp chpid))
  events-turn (event.PathReset chpid) o w =
      subst (IsOutcome (event.PathReset chpid)) (sym w) (path-turn _ (has_number s.chpids chpid) (reports.is_asked s.reports chpid) _ (IsReset chpid))
  events-turn event.SystemReset o w = subst (IsOutcome event.SystemReset) (sym w) ResetsAll

  outcome-turn : (e : Event) (r : Reply) (new : State) (o : Outcome) → IsOutcome e o → does r new ≡ settled s e o → HasResult s e r new
  outcome-turn e r new (Ok t) k n =
      let same : record { reply = r; state = new } ≡ record t { state = record t.state { requests = requests_settled s e t } } = cc n in
      subst (λ (x : StepResult). HasResult s e x.reply x.state) (sym same) (record { left = t.state; turn = k; settles = refl })
  outcome-turn e r new (Err f) k n = absurd (cc n)

  pub step-turn : (e : Event) (r : Reply) (new : State) → Step s e r new → HasResult s e r new
  step-turn e r new (o, w, n) = outcome-turn e r new o (events-turn e o w) n

  -- no event is refused for want of memory
  outcome-other : (e : Event) (o : Outcome) → IsOutcome e o → Err fault.NoMemory ≢ settled s e o
  outcome-other e (Ok t) k n = cc n
  outcome-other e (Err f) k n = k (sym (cc n))

  pub step-other : (e : Event) → ¬ IsRefused s e fault.NoMemory
  step-other e (o, w, n) = outcome-other e o (events-turn e o w) n
