-- What an event does at one subchannel, as what it does to the whole.
use Rattle.std.proofs.Common.{◌≡◌, refl, sym, ◌∙◌, ap, subst, ℕ, ◌<◌, zero, suc, true, false, Option, None, Some, Result, Ok, Err, List, [], ◌∷◌, length, slice_index_or, Bool, nat_lt, if◌then◌else◌, arith}
use Rattle.std.specs.Prelude.{slice_get, slice_set, All}
use Rattle.std.proofs.lemmas.List.{set-get_or}
use Rattle.std.proofs.lemmas.List.Elements.{All-get_or}
use Rattle.std.proofs.lemmas.Option.{same_Some}
use Rattle.storage_keys.specs.Storage.{Contents}
use Rattle.control_units.specs.declared.Member.{Member}
use Rattle.interruptions.specs.Requests.{WaitingRequests}
use Rattle.channel_reports.specs.Queue.{WaitingReports}
use Rattle.channel_config.specs.declared.names.SubchannelId.{SubchannelId}
use Rattle.channel_config.specs.declared.parts.SubchannelSetup.{SubchannelSetup}
use Rattle.channel_config.specs.SubchannelWords.{subchannel_named}
use Rattle.chan_events.specs.declared.event.Instruction.{Instruction}
use Rattle.chan_events.specs.declared.event.OtherInstruction.{OtherInstruction}
use Rattle.chan_events.specs.declared.event.UnitAct.{UnitAct}
use Rattle.chan_model.specs.declared.fault.Fault.{Fault}
use Rattle.chan_model.specs.declared.fault.Fault.TheVariants as fault
use Rattle.chan_events.specs.Events.{Event}
use Rattle.chan_events.specs.declared.event.Event.TheVariants as event
use Rattle.chan_events.specs.Replies.{Reply}
use Rattle.chan_events.specs.declared.reply.Reply.TheVariants as reply
use Rattle.chan_model.specs.Reports.{Report}
use Rattle.chan_model.specs.declared.names.Side.{Side}
use Rattle.chan_model.specs.declared.unit_state.UnitState.{UnitState}
use Rattle.chan_model.specs.UnitTable.{restarted}
use Rattle.path_select.specs.Choice.{Rule, IsChoice}
use Rattle.subchannel_model.specs.declared.state.Chosen.{Chosen}
use Rattle.subchannel_model.specs.declared.state.Subchannel.{Subchannel}
use Rattle.subchannel_model.specs.declared.state.SubchannelState.{SubchannelState}
use Rattle.wires.specs.Queues.{queue}
use Rattle.machine_model.specs.State.{State, index_of, found_of, sub_of, with_sub, state_with_unit}
use Rattle.subchannel_model.specs.Indices.{Found, found_at, index_in, reached_in, sub_at, index_of_id, found_with}
use Rattle.subchannel_model.specs.Choosing.{chosen, marked_sub, paths_to_choose}
use Rattle.machine_model.specs.Ruled.{RulesAt, GoesByRule}
use Rattle.machine_model.specs.Results.{Outcome, SubResult, UpResult, DownResult, SharedResult, does, at_sub, at_storage, at_unit}
use Rattle.machine_model.specs.Requests.{posted_all, requests_after, requests_dropped, settled}
use Rattle.machine_model.specs.Sharing.{is_let_go, members_over, owing_after}
use Rattle.machine_model.specs.Steps.{Does, Performs}
use Rattle.signal_step.specs.Giving.{Gives, GivesSub, GivesStorage, GivesBoth, GivesShared, MayReturn, posted_since}
use Rattle.machine.proofs.Posted.{none-made, posted-still, posted-at}
use Rattle.machine.specs.Postable.{IsPostable}
use Rattle.machine_model.specs.ChooseSteps.{Chooses, choose_sub}
use Rattle.machine_model.specs.UpSteps.{up_at, up_sub, up_front, returns_at}
use Rattle.machine_model.specs.DownSteps.{at_shared, down_at, down_shared, down_unit}
use Rattle.machine_model.specs.ReportSteps.{report_at, report_to, report_sub}
use Rattle.machine_model.specs.ActSteps.{act_at, act_on, act_sub, side_of_act, act_to}
use Rattle.machine_model.specs.OtherSteps.{LentWhole, OtherResult, lent_whole, with_lent, other_done, other_result}
use Rattle.machine_model.specs.OtherSteps.{engaged_chpids}
use Rattle.machine_model.specs.RestartSteps.{restart_at, restart_with}
use Rattle.chan_events.specs.Instructions.{subchannel_word}
use Rattle.machine_model.specs.InstructionSteps.{Executes_at, Executes_on}
use Rattle.io_step.specs.Executing.{Executed_absent}
use Rattle.io_step.specs.Performing.{Lent, Performed, Comes, lent}

-- an element that stands at an index
pub at_index : {A : Type 0} (xs : List A) (i : ℕ) (x d : A) → i < length xs → x ≡ slice_index_or xs i d → slice_get xs i ≡ Some x
at_index [] i x d within e = absurd (omega (arith, within))
at_index (y ∷ ys) zero x d within e = ap (λ z. Some z) (sym e)
at_index (y ∷ ys) (suc i) x d within e = at_index ys i x d (omega (arith, within)) e

-- an element written back to its place
pub set_back : {A : Type 0} (xs : List A) (i : ℕ) (x y d : A) → x ≡ slice_index_or xs i d → y ≡ x → slice_set xs i y ≡ xs
set_back xs i x y d e f = ap (slice_set xs i) (f ∙ e) ∙ set-get_or xs i d

-- a subchannel stands at an index
pub record StandsAt (subs : List Subchannel) (index : ℕ) (sub : Subchannel) : Type 0 where
  pub within : index < length subs
  pub there : sub ≡ slice_index_or subs index sub

-- the same where the index was looked up in what is seen of the subchannels
pub at_seen : (subs seen : List Subchannel) (index : ℕ) (sub : Subchannel) → subs ≡ seen → index < length seen → sub ≡ slice_index_or subs index sub → StandsAt subs index sub
at_seen subs seen index sub same bound there = record { within = subst (λ (xs : List Subchannel). index < length xs) (sym same) bound; there = there }

pub gets : (subs : List Subchannel) (index : ℕ) (sub : Subchannel) → StandsAt subs index sub → slice_get subs index ≡ Some sub
gets subs index sub at = at_index subs index sub sub at.within at.there

-- a word names an index, where what is seen of the machine has it so
pub named_at : (s seen : State) (word index : ℕ) (found : Option ℕ) → s ≡ seen → found ≡ index_of seen word → found ≡ Some index → index_of s word ≡ Some index
named_at s seen word index found same looked is = ap (λ (t : State). index_of t word) same ∙ (sym looked ∙ is)

-- a fact of the subchannel at an index is one of the subchannel that a word names
named : (s : State) (word index : ℕ) (sub : Subchannel) (T : Option Found → Type 0) →
    index_of s word ≡ Some index → StandsAt s.subs index sub → T (Some (record { index = index; sub = sub })) → T (found_of s word)
named s word index sub T at stands t =
    subst (λ (p : Option ℕ). T (found_at s.subs p)) (sym at) (subst (λ (q : Option Subchannel). T (found_with index q)) (sym (gets s.subs index sub stands)) t)

-- what an event leaves of the requests: what its instruction leaves, and what is posted for the statuses that it made; a
-- refusal leaves them as they were
abbrev Waits : State → Event → Result Reply Fault → State → WaitingRequests → Type 0
Waits s e (Ok x) mid waiting = waiting ≡ posted_all s.subs mid.subs (requests_dropped s e x mid.requests)
Waits s e (Err f) mid waiting = waiting ≡ s.requests

abbrev outcome_of : Result Reply Fault → State → Outcome
outcome_of r new = elim r [ Ok reply ↦ does reply new | Err f ↦ Err f ]

-- an event came to its outcome, and its requests were settled beside it
settled-is : (s : State) (e : Event) (outcome : Outcome) (r : Result Reply Fault) (mid : State) (waiting : WaitingRequests) →
    Gives s outcome r mid → Waits s e r mid waiting → outcome_of r (record mid { requests = waiting }) ≡ settled s e outcome
settled-is s e outcome (Ok x) mid waiting g k =
    ap (λ (w : WaitingRequests). does x (record mid { requests = w })) k ∙ sym (ap (settled s e) g)
settled-is s e outcome (Err f) mid waiting g k = sym (ap (settled s e) g.0)

performed : (s : State) (e : Event) (outcome : Outcome) (r : Result Reply Fault) (mid : State) (waiting : WaitingRequests) →
    Does s e outcome → Gives s outcome r mid → Waits s e r mid waiting → Performs s e r (record mid { requests = waiting })
performed s e outcome (Ok x) mid waiting d g k = (outcome, d, settled-is s e outcome (Ok x) mid waiting g k)
performed s e outcome (Err f) mid waiting d g k = (
  (outcome, d, settled-is s e outcome (Err f) mid waiting g k),
  ap (λ (w : WaitingRequests). record mid { requests = w }) k ∙ ap (λ (m : State). record m { requests = s.requests }) g.1,
)

-- an event that is refused at once
pub refused : (s : State) (e : Event) (f : Fault) → Does s e (Err f) → Performs s e (Err f) s
refused s e f d = ((Err f, d, refl), refl)

-- where no subchannel changed, and no request is dropped
pub unchanged : (s : State) (e : Event) (outcome : Outcome) (r : Result Reply Fault) (new : State) → Does s e outcome → Gives s outcome r new →
    new.subs ≡ s.subs → ((x : Reply) (w : WaitingRequests) → requests_dropped s e x w ≡ w) → Performs s e r new
unchanged s e outcome (Ok x) new d g same keeps =
    performed s e outcome (Ok x) new new.requests d g
    (sym (ap (λ (subs : List Subchannel). posted_all s.subs subs (requests_dropped s e x new.requests)) same
    ∙ (posted-still s.subs (requests_dropped s e x new.requests) ∙ keeps x new.requests)))
unchanged s e outcome (Err f) new d g same keeps = performed s e outcome (Err f) new new.requests d g (ap (λ (m : State). m.requests) g.1)

-- what was posted of the one subchannel that may have changed
abbrev PostedOf : State → Event → Result Reply Fault → State → Subchannel → Subchannel → WaitingRequests → Type 0
PostedOf s e (Ok x) mid sub new waiting = waiting ≡ posted_since sub.state.serials.made new (requests_dropped s e x mid.requests)
PostedOf s e (Err f) mid sub new waiting = waiting ≡ s.requests

waits-at : (s : State) (e : Event) (r : Result Reply Fault) (mid : State) (index : ℕ) (sub new : Subchannel) (waiting : WaitingRequests) →
    StandsAt s.subs index sub → mid.subs ≡ slice_set s.subs index new → PostedOf s e r mid sub new waiting → Waits s e r mid waiting
waits-at s e (Ok x) mid index sub new waiting stands same k =
    k ∙ (sym (posted-at s.subs index sub new (requests_dropped s e x mid.requests) (gets s.subs index sub stands))
    ∙ ap (λ (subs : List Subchannel). posted_all s.subs subs (requests_dropped s e x mid.requests)) (sym same))
waits-at s e (Err f) mid index sub new waiting stands same k = k

-- a subchannel that is left as it was made no status
abbrev IsKeptOnErr : Result Reply Fault → Subchannel → Subchannel → Type 0
IsKeptOnErr (Ok x) sub new = Unit {0}
IsKeptOnErr (Err f) sub new = new ≡ sub

-- the requests as they are posted, by an event that drops none
posts : (s : State) (e : Event) (r : Result Reply Fault) (mid : State) (sub new : Subchannel) (waiting : WaitingRequests) →
    ((x : Reply) (w : WaitingRequests) → requests_dropped s e x w ≡ w) → mid.requests ≡ s.requests → IsKeptOnErr r sub new →
    waiting ≡ posted_since sub.state.serials.made new s.requests → PostedOf s e r mid sub new waiting
posts s e (Ok x) mid sub new waiting keeps same kept k =
    k ∙ ap (posted_since sub.state.serials.made new) (sym same ∙ sym (keeps x mid.requests))
posts s e (Err f) mid sub new waiting keeps same kept k =
    k ∙ none-made sub.state.serials.made new s.requests (ap (λ (y : Subchannel). y.state.serials.made) (sym kept))

-- the same where the subchannel's state is as it was: nothing is posted
rests : (s : State) (e : Event) (r : Result Reply Fault) (mid : State) (sub new : Subchannel) →
    ((x : Reply) (w : WaitingRequests) → requests_dropped s e x w ≡ w) → mid.requests ≡ s.requests → new.state ≡ sub.state →
    PostedOf s e r mid sub new mid.requests
rests s e (Ok x) mid sub new keeps same state =
    sym (none-made sub.state.serials.made new (requests_dropped s e x mid.requests) (ap (λ (y : SubchannelState). y.serials.made) (sym state)) ∙ keeps x mid.requests)
rests s e (Err f) mid sub new keeps same state = same

lifted : (s : State) (index : ℕ) (sub new : Subchannel) (outcome : Result SubResult Fault) (r : Result Reply Fault) →
    StandsAt s.subs index sub → GivesSub sub outcome r new → Gives s (at_sub s index outcome) r (with_sub s index new)
lifted s index sub new outcome (Ok reply) stands g = ap (at_sub s index) g
lifted s index sub new outcome (Err f) stands g =
    (ap (at_sub s index) g.0, ap (λ (subs : List Subchannel). record s { subs = subs }) (set_back s.subs index sub new sub stands.there g.1))

lifted_storage : (s : State) (index : ℕ) (sub new : Subchannel) (after : Contents) (outcome : Result UpResult Fault) (r : Result Reply Fault) →
    StandsAt s.subs index sub → GivesStorage s.storage sub outcome r after new →
    Gives s (at_storage s index outcome) r (with_sub (record s { storage = after }) index new)
lifted_storage s index sub new after outcome (Ok reply) stands g = ap (at_storage s index) g
lifted_storage s index sub new after outcome (Err f) stands g = (
  ap (at_storage s index) g.0,
  ap (λ (subs : List Subchannel). record s { storage = after; subs = subs }) (set_back s.subs index sub new sub stands.there g.1.0)
      ∙ ap (λ (storage : Contents). record s { storage = storage }) g.1.1,
)

lifted_both : (s : State) (index k : ℕ) (sub new : Subchannel) (u v : UnitState) (outcome : Result DownResult Fault) (r : Result Reply Fault) →
    StandsAt s.subs index sub → u ≡ slice_index_or s.units k u → GivesBoth sub u outcome r new v →
    Gives s (at_unit s index k outcome) r (state_with_unit (with_sub s index new) k v)
lifted_both s index k sub new u v outcome (Ok reply) stands here g = ap (at_unit s index k) g
lifted_both s index k sub new u v outcome (Err f) stands here g = (
  ap (at_unit s index k) g.0,
  ap (λ (subs : List Subchannel). record s { subs = subs; units = slice_set s.units k v }) (set_back s.subs index sub new sub stands.there g.1.0)
      ∙ ap (λ (units : List UnitState). record s { units = units }) (set_back s.units k u v u here g.1.1),
)

lifted_shared : (s : State) (index k : ℕ) (sub new : Subchannel) (u v : UnitState) (later : List Member) (outcome : Result SharedResult Fault) (r : Result Reply Fault) →
    StandsAt s.subs index sub → u ≡ slice_index_or s.units k u → GivesShared sub u s.members outcome r new v later →
    Gives s (at_shared s index k outcome) r (state_with_unit (with_sub (record s { members = later }) index new) k v)
lifted_shared s index k sub new u v later outcome (Ok reply) stands here g = ap (at_shared s index k) g
lifted_shared s index k sub new u v later outcome (Err f) stands here g = (
  ap (at_shared s index k) g.0,
  ap (λ (subs : List Subchannel). record s { members = later; subs = subs; units = slice_set s.units k v }) (set_back s.subs index sub new sub stands.there g.1.0)
      ∙ (ap (λ (units : List UnitState). record s { members = later; units = units }) (set_back s.units k u v u here g.1.1.0)
      ∙ ap (λ (members : List Member). record s { members = members }) g.1.1.1),
)

-- what is kept where an event was refused
kept-sub : (sub new : Subchannel) (outcome : Result SubResult Fault) (r : Result Reply Fault) → GivesSub sub outcome r new → IsKeptOnErr r sub new
kept-sub sub new outcome (Ok x) g = tt
kept-sub sub new outcome (Err f) g = g.1

kept-storage : (before after : Contents) (sub new : Subchannel) (outcome : Result UpResult Fault) (r : Result Reply Fault) → GivesStorage before sub outcome r after new → IsKeptOnErr r sub new
kept-storage before after sub new outcome (Ok x) g = tt
kept-storage before after sub new outcome (Err f) g = g.1.0

-- whether a program may come back by a path counts where the path is one of the subchannel
if-same : {A : Type 0} (b : Bool) (x y z : A) → (b ≡ true → x ≡ y) → (if b then x else z) ≡ (if b then y else z)
if-same true x y z f = f refl
if-same false x y z f = refl

up-by : (subs : List Subchannel) (storage : Contents) (sub : Subchannel) (path : ℕ) (may : Bool) → MayReturn subs sub path may →
    up_sub may storage sub path ≡ up_sub (returns_at subs sub path) storage sub path
up-by subs storage sub path may h =
    let front = slice_get (queue sub.wires.up path) 0 in
    if-same (nat_lt path (length sub.setup.paths)) (up_front may storage sub path front) (up_front (returns_at subs sub path) storage sub path front) (Err fault.NoSuchPath)
    (λ t. ap (λ (b : Bool). up_front b storage sub path front) (h t))

-- there is one element at an index
pub one_there : (subs : List Subchannel) (index : ℕ) (x y : Subchannel) → x ≡ slice_index_or subs index x → StandsAt subs index y → x ≡ y
one_there subs index x y there stands = same_Some x y (sym (at_index subs index x x stands.within there) ∙ gets subs index y stands)

pub up-performs : (s : State) (word path index : ℕ) (looked sub new : Subchannel) (after : Contents) (may : Bool) (r : Result Reply Fault) (waiting : WaitingRequests) →
    index_of s word ≡ Some index → StandsAt s.subs index sub → looked ≡ slice_index_or s.subs index looked → MayReturn s.subs looked path may →
    GivesStorage s.storage sub (up_sub may s.storage sub path) r after new → waiting ≡ posted_since sub.state.serials.made new s.requests →
    Performs s (event.Up word path) r (record (with_sub (record s { storage = after }) index new) { requests = waiting })
up-performs s word path index looked sub new after may r waiting at stands there returns g posted =
    let e = event.Up word path in
    let mid = with_sub (record s { storage = after }) index new in
    let by : MayReturn s.subs sub path may = subst (λ (x : Subchannel). MayReturn s.subs x path may) (one_there s.subs index looked sub there stands) returns in
    let outcome = up_sub (returns_at s.subs sub path) s.storage sub path in
    let given : GivesStorage s.storage sub outcome r after new = subst (λ (o : Result UpResult Fault). GivesStorage s.storage sub o r after new) (up-by s.subs s.storage sub path may by) g in
    performed s e (at_storage s index outcome) r mid waiting
    (named s word index sub (λ (f : Option Found). at_storage s index outcome ≡ up_at s f path) at stands refl)
    (lifted_storage s index sub new after outcome r stands given)
    (waits-at s e r mid index sub new waiting stands refl
    (posts s e r mid sub new waiting (λ x w. refl) refl (kept-storage s.storage after sub new outcome r given) posted))

-- where the subchannel has no path of this index
pub up-pathless : (s : State) (word path index : ℕ) (sub : Subchannel) → index_of s word ≡ Some index → StandsAt s.subs index sub → nat_lt path (length sub.setup.paths) ≡ false →
    Performs s (event.Up word path) (Err fault.NoSuchPath) s
up-pathless s word path index sub at stands e =
    let front = slice_get (queue sub.wires.up path) 0 in
    refused s (event.Up word path) fault.NoSuchPath
    (named s word index sub (λ (f : Option Found). Err fault.NoSuchPath ≡ up_at s f path) at stands
    (sym (ap (λ (b : Bool). at_storage s index (if b then up_front (returns_at s.subs sub path) s.storage sub path front else Err fault.NoSuchPath)) e)))

-- by the choice of a path among those that may be chosen
pub chooses : (picks : Rule) (s seen : State) (word index : ℕ) (sub looked new : Subchannel) (paths : List Bool) (choice : Option ℕ) (what : Chosen) (r : Result Reply Fault)
    (waiting : WaitingRequests) →
    s ≡ seen → index_of s word ≡ Some index → StandsAt s.subs index sub → looked ≡ slice_index_or s.subs index looked → paths ≡ paths_to_choose s.subs looked →
    IsChoice paths choice → picks paths sub.state.last_path choice → what ≡ chosen sub choice → GivesSub sub (choose_sub (marked_sub sub choice) what) r new →
    waiting ≡ posted_since sub.state.serials.made new s.requests →
    Performs seen (event.Choose word) r (record (with_sub s index new) { requests = waiting })
    × GoesByRule picks seen (event.Choose word) r (record (with_sub s index new) { requests = waiting })
chooses picks s seen word index sub looked new paths choice what r waiting same at stands there listed chose picked is g posted =
    let e = event.Choose word in
    let mid = with_sub s index new in
    let after = record mid { requests = waiting } in
    let usable : paths ≡ paths_to_choose s.subs sub = listed ∙ ap (paths_to_choose s.subs) (one_there s.subs index looked sub there stands) in
    let fits : IsChoice (paths_to_choose s.subs sub) choice = subst (λ (x : List Bool). IsChoice x choice) usable chose in
    let by : picks (paths_to_choose s.subs sub) sub.state.last_path choice = subst (λ (x : List Bool). picks x sub.state.last_path choice) usable picked in
    let turn = choose_sub (marked_sub sub choice) (chosen sub choice) in
    let outcome = at_sub s index turn in
    let given : GivesSub sub turn r new = subst (λ (w : Chosen). GivesSub sub (choose_sub (marked_sub sub choice) w) r new) is g in
    let gives : Gives s outcome r mid = lifted s index sub new turn r stands given in
    let waits : Waits s e r mid waiting =
    waits-at s e r mid index sub new waiting stands refl (posts s e r mid sub new waiting (λ x w. refl) refl (kept-sub sub new turn r given) posted) in
    let does : Chooses s (found_of s word) outcome = named s word index sub (λ (f : Option Found). Chooses s f outcome) at stands (choice, fits, refl) in
    let rules : RulesAt picks s (found_of s word) outcome =
    named s word index sub (λ (f : Option Found). RulesAt picks s f outcome) at stands (choice, fits, by, refl) in (
      subst (λ (t : State). Performs t e r after) same (performed s e outcome r mid waiting does gives waits),
      subst (λ (t : State). GoesByRule picks t e r after) same (outcome, rules, settled-is s e outcome r mid waiting gives waits),
    )

pub chooses-none : (picks : Rule) (s : State) (word : ℕ) → index_of s word ≡ None →
    Performs s (event.Choose word) (Err fault.NoSuchSubchannel) s × GoesByRule picks s (event.Choose word) (Err fault.NoSuchSubchannel) s
chooses-none picks s word at =
    let outcome : Outcome = Err fault.NoSuchSubchannel in (
      refused s (event.Choose word) fault.NoSuchSubchannel (subst (λ (p : Option ℕ). Chooses s (found_at s.subs p) outcome) (sym at) refl),
      (outcome, subst (λ (p : Option ℕ). RulesAt picks s (found_at s.subs p) outcome) (sym at) refl, refl),
    )

down-performs : (s : State) (word path index : ℕ) (sub new : Subchannel) (u v : UnitState) (later : List Member) (r : Result Reply Fault) → index_of s word ≡ Some index →
    StandsAt s.subs index sub → sub.setup.«unit» < length s.units → u ≡ slice_index_or s.units sub.setup.«unit» u → new.state ≡ sub.state →
    GivesShared sub u s.members (down_shared s.members sub path u) r new v later →
    Performs s (event.Down word path) r (state_with_unit (with_sub (record s { members = later }) index new) sub.setup.«unit» v)
down-performs s word path index sub new u v later r at stands inside here state g =
    let e = event.Down word path in
    let k = sub.setup.«unit» in
    let outcome = at_shared s index k (down_shared s.members sub path u) in
    let mid = state_with_unit (with_sub (record s { members = later }) index new) k v in
    performed s e outcome r mid mid.requests
    (named s word index sub (λ (f : Option Found). outcome ≡ down_at s f path) at stands
    (ap (λ (x : Option UnitState). down_unit s (record { index = index; sub = sub }) path x) (sym (at_index s.units k u u inside here))))
    (lifted_shared s index k sub new u v later (down_shared s.members sub path u) r stands here g)
    (waits-at s e r mid index sub new mid.requests stands refl (rests s e r mid sub new (λ x w. refl) refl state))

-- the unit's index is read before the subchannel is lent
pub down-performs-at : (s : State) (word path index : ℕ) (looked sub new : Subchannel) (u v : UnitState) (later : List Member) (r : Result Reply Fault) →
    looked ≡ slice_index_or s.subs index looked → index_of s word ≡ Some index → StandsAt s.subs index sub →
    looked.setup.«unit» < length s.units → u ≡ slice_index_or s.units looked.setup.«unit» u → new.state ≡ sub.state →
    GivesShared sub u s.members (down_shared s.members sub path u) r new v later →
    Performs s (event.Down word path) r (state_with_unit (with_sub (record s { members = later }) index new) looked.setup.«unit» v)
down-performs-at s word path index looked sub new u v later r there at stands inside here state g =
    subst (λ (x : Subchannel). x.setup.«unit» < length s.units → u ≡ slice_index_or s.units x.setup.«unit» u →
    Performs s (event.Down word path) r (state_with_unit (with_sub (record s { members = later }) index new) x.setup.«unit» v)) (sym (one_there s.subs index looked sub there stands))
    (λ inside' here'. down-performs s word path index sub new u v later r at stands inside' here' state g) inside here

-- an event of a unit at the subchannel of a side
unit-performs : (s : State) (e : Event) (k index : ℕ) (sub new : Subchannel) (u v : UnitState) (turn : Result DownResult Fault) (r : Result Reply Fault) →
    Does s e (at_unit s index k turn) → ((x : Reply) (w : WaitingRequests) → requests_dropped s e x w ≡ w) → StandsAt s.subs index sub →
    u ≡ slice_index_or s.units k u → new.state ≡ sub.state → GivesBoth sub u turn r new v →
    Performs s e r (state_with_unit (with_sub s index new) k v)
unit-performs s e k index sub new u v turn r does keeps stands here state g =
    let mid = state_with_unit (with_sub s index new) k v in
    performed s e (at_unit s index k turn) r mid mid.requests does (lifted_both s index k sub new u v turn r stands here g)
    (waits-at s e r mid index sub new mid.requests stands refl (rests s e r mid sub new keeps refl state))

pub report-performs : (s : State) (k index : ℕ) (report : Report) (sub new : Subchannel) (u v : UnitState) (r : Result Reply Fault) →
    reached_in k report.side s.subs ≡ Some index → StandsAt s.subs index sub → k < length s.units →
    u ≡ slice_index_or s.units k u → new.state ≡ sub.state → GivesBoth sub u (report_sub sub u report) r new v →
    Performs s (event.Report k report) r (state_with_unit (with_sub s index new) k v)
report-performs s k index report sub new u v r at stands inside here state g =
    let outcome = at_unit s index k (report_sub sub u report) in
    unit-performs s (event.Report k report) k index sub new u v (report_sub sub u report) r
    (subst (λ (x : Option UnitState). outcome ≡ report_at s k x report) (sym (at_index s.units k u u inside here))
    (subst (λ (p : Option ℕ). outcome ≡ report_to s k u report (found_at s.subs p)) (sym at)
    (ap (λ (q : Option Subchannel). report_to s k u report (found_with index q)) (sym (gets s.subs index sub stands)))))
    (λ x w. refl) stands here state g

-- an act of a unit, of a side that some subchannel reaches
act-does : (s : State) (k : ℕ) (act : UnitAct) (u : UnitState) (side : Option Side) (o : Outcome) → slice_get s.units k ≡ Some u → side_of_act u act ≡ side →
    o ≡ act_on s k u act side → Does s (event.Act k act) o
act-does s k act u side o at is e =
    subst (λ (x : Option UnitState). o ≡ act_at s k x act) (sym at) (subst (λ (y : Option Side). o ≡ act_on s k u act y) (sym is) e)

-- the unit is read before it is lent
one_unit : (units : List UnitState) (k : ℕ) (x y : UnitState) → k < length units → x ≡ slice_index_or units k x → y ≡ slice_index_or units k y → x ≡ y
one_unit units k x y inside there here = same_Some x y (sym (at_index units k x x inside there) ∙ at_index units k y y inside here)

pub act-performs : (s : State) (k index : ℕ) (act : UnitAct) (side : Side) (sub new : Subchannel) (looked u v : UnitState) (r : Result Reply Fault) →
    k < length s.units → looked ≡ slice_index_or s.units k looked → side_of_act looked act ≡ Some side → reached_in k side s.subs ≡ Some index →
    StandsAt s.subs index sub → u ≡ slice_index_or s.units k u → new.state ≡ sub.state → GivesBoth sub u (act_sub sub u act) r new v →
    Performs s (event.Act k act) r (state_with_unit (with_sub s index new) k v)
act-performs s k index act side sub new looked u v r inside there of at stands here state g =
    let outcome = at_unit s index k (act_sub sub u act) in
    let of-u : side_of_act u act ≡ Some side = ap (λ (x : UnitState). side_of_act x act) (sym (one_unit s.units k looked u inside there here)) ∙ of in
    unit-performs s (event.Act k act) k index sub new u v (act_sub sub u act) r
    (act-does s k act u (Some side) outcome (at_index s.units k u u inside here) of-u
    (subst (λ (p : Option ℕ). outcome ≡ act_to s k u act (found_at s.subs p)) (sym at)
    (ap (λ (q : Option Subchannel). act_to s k u act (found_with index q)) (sym (gets s.subs index sub stands)))))
    (λ x w. refl) stands here state g

pub restart-performs : (s : State) (k : ℕ) (u v : UnitState) (later : List Member) → k < length s.units → u ≡ slice_index_or s.units k u →
    later ≡ members_over s.members k (is_let_go u (restarted u)) → v ≡ owing_after s.members k u (restarted u) →
    Performs s (event.Restart k) (Ok reply.Done) (state_with_unit (record s { members = later }) k v)
restart-performs s k u v later inside here over owes =
    let e = event.Restart k in
    let outcome = restart_with s k u (restarted u) in
    let new = state_with_unit (record s { members = later }) k v in
    let given : outcome ≡ does reply.Done new =
    ap (λ (m : List Member). does reply.Done (state_with_unit (record s { members = m }) k (owing_after s.members k u (restarted u)))) (sym over)
    ∙ ap (λ (x : UnitState). does reply.Done (state_with_unit (record s { members = later }) k x)) (sym owes) in
    unchanged s e outcome (Ok reply.Done) new (ap (λ (x : Option UnitState). restart_at s k x) (sym (at_index s.units k u u inside here))) given refl (λ x w. refl)

-- an instruction that names no subchannel
other-gives : (s : State) (turn : Result OtherResult Fault) (r : Result Reply Fault) (left : LentWhole) →
    Comes (lent_whole s.storage s.requests s.reports) turn r left → Gives s (other_done s turn) r (with_lent s left)
other-gives s turn (Ok x) left g = ap (other_done s) g
other-gives s turn (Err f) left g = (ap (other_done s) g.0, ap (with_lent s) g.1)

-- these engines are as good as the machine's to the instruction
abbrev pub AreAlike : List Subchannel → List Bool → OtherInstruction → Type 0
AreAlike subs engaged i = (lent : LentWhole) (up : List Bool) (n : ℕ) → other_result lent up engaged n i ≡ other_result lent up (engaged_chpids subs 0x100) n i

pub other-performs : (s : State) (cpu : ℕ) (i : OtherInstruction) (engaged : List Bool) (r : Result Reply Fault) (after : Contents) (waiting : WaitingRequests) (queue : WaitingReports) →
    AreAlike s.subs engaged i →
    Comes (lent_whole s.storage s.requests s.reports) (other_result (lent_whole s.storage s.requests s.reports) s.up engaged cpu i) r (lent_whole after waiting queue) →
    Performs s (event.ExecuteOther cpu i) r (record s { storage = after; requests = waiting; reports = queue })
other-performs s cpu i engaged r after waiting queue alike g =
    let lent = lent_whole s.storage s.requests s.reports in
    let turn = other_result lent s.up (engaged_chpids s.subs 0x100) cpu i in
    let left = lent_whole after waiting queue in
    let given : Comes lent turn r left = subst (λ (t : Result OtherResult Fault). Comes lent t r left) (alike lent s.up cpu) g in
    unchanged s (event.ExecuteOther cpu i) (other_done s turn) r (with_lent s left) refl (other-gives s turn r left given) refl (λ x w. refl)

-- an instruction on a subchannel that is provided, and on one that is not
abbrev IsExecuted : State → ℕ → Instruction → Option Found → Type 0
IsExecuted s cpu i found = (o : Outcome) → Executes_at s cpu i found o → Does s (event.Execute cpu i) o

found-named : (s : State) (i : Instruction) (id : SubchannelId) (index : ℕ) (sub : Subchannel) → subchannel_named s.sets (subchannel_word i) ≡ Some id →
    index_in id s.subs ≡ Some index → StandsAt s.subs index sub → sub_of s (subchannel_word i) ≡ Some sub
found-named s i id index sub named placed stands =
    ap (λ (x : Option SubchannelId). sub_at s.subs (index_of_id s.subs x)) named ∙ (ap (sub_at s.subs) placed ∙ gets s.subs index sub stands)

executed : (s : State) (cpu index : ℕ) (i : Instruction) (sub new : Subchannel) (after : Contents) (left waiting : WaitingRequests) (r : Result Reply Fault) →
    StandsAt s.subs index sub → sub_of s (subchannel_word i) ≡ Some sub → IsExecuted s cpu i (Some (record { index = index; sub = sub })) →
    Performed (lent s.storage (Some sub) s.requests) cpu i r (lent after (Some new) left) → waiting ≡ posted_since sub.state.serials.made new left →
    Performs s (event.Execute cpu i) r (record (with_sub (record s { storage = after }) index new) { requests = waiting })
executed s cpu index i sub new after left waiting (Ok x) stands of lift g posted =
    let e = event.Execute cpu i in
    let mid = with_sub (record s { storage = after }) index new in
    let dropped : left ≡ requests_dropped s e x s.requests = g.1 ∙ ap (λ (y : Option Subchannel). requests_after s.requests y i x) (sym of) in
    performed s e (does x mid) (Ok x) mid waiting (lift (does x mid) (g.0 s index (gets s.subs index sub stands))) refl
    (waits-at s e (Ok x) mid index sub new waiting stands refl (posted ∙ ap (posted_since sub.state.serials.made new) dropped))
executed s cpu index i sub new after left waiting (Err f) stands of lift g posted =
    let e = event.Execute cpu i in
    let mid = with_sub (record s { storage = after }) index new in
    let same : mid ≡ s =
    ap (λ (subs : List Subchannel). record s { storage = after; subs = subs }) (set_back s.subs index sub new sub stands.there g.0.1.0)
    ∙ ap (λ (storage : Contents). record s { storage = storage }) g.0.1.1 in
    let kept : left ≡ s.requests = ap (λ (l : Lent). l.requests) g.1 in
    performed s e (Err f) (Err f) mid waiting (lift (Err f) (g.0.0 s index (gets s.subs index sub stands))) (refl, same)
    (posted ∙ (none-made sub.state.serials.made new left (ap (λ (y : Subchannel). y.state.serials.made) (sym g.0.1.0)) ∙ kept))

pub executes : (s : State) (cpu index : ℕ) (i : Instruction) (id : SubchannelId) (sub new : Subchannel) (after : Contents) (left waiting : WaitingRequests) (r : Result Reply Fault) →
    subchannel_named s.sets (subchannel_word i) ≡ Some id → index_in id s.subs ≡ Some index → StandsAt s.subs index sub →
    Performed (lent s.storage (Some sub) s.requests) cpu i r (lent after (Some new) left) → waiting ≡ posted_since sub.state.serials.made new left →
    Performs s (event.Execute cpu i) r (record (with_sub (record s { storage = after }) index new) { requests = waiting })
executes s cpu index i id sub new after left waiting r named placed stands g posted =
    let lift : IsExecuted s cpu i (Some (record { index = index; sub = sub })) =
    λ o e. subst (λ (x : Option SubchannelId). Executes_on s cpu i x o) (sym named)
    (subst (λ (p : Option ℕ). Executes_at s cpu i (found_at s.subs p) o) (sym placed)
    (subst (λ (q : Option Subchannel). Executes_at s cpu i (found_with index q) o) (sym (gets s.subs index sub stands)) e)) in
    executed s cpu index i sub new after left waiting r stands (found-named s i id index sub named placed stands) lift g posted

executed-absent : (s : State) (cpu : ℕ) (i : Instruction) (after : Contents) (r : Result Reply Fault) → sub_of s (subchannel_word i) ≡ None →
    IsExecuted s cpu i None → Executed_absent s.storage cpu i r after → Performs s (event.Execute cpu i) r (record s { storage = after })
executed-absent s cpu i after (Ok x) of lift g =
    let e = event.Execute cpu i in
    let new = record s { storage = after } in
    unchanged s e (does x new) (Ok x) new (lift (does x new) (g s)) refl refl (λ y w. ap (λ (o : Option Subchannel). requests_after w o i y) of)
executed-absent s cpu i after (Err f) of lift g =
    unchanged s (event.Execute cpu i) (Err f) (Err f) (record s { storage = after }) (lift (Err f) (g.0 s)) (refl, ap (λ (storage : Contents). record s { storage = storage }) g.1) refl
    (λ y w. ap (λ (o : Option Subchannel). requests_after w o i y) of)

-- a word that names no subchannel
pub executes-unnamed : (s : State) (cpu : ℕ) (i : Instruction) → subchannel_named s.sets (subchannel_word i) ≡ None →
    Performs s (event.Execute cpu i) (Err fault.Operand) s
executes-unnamed s cpu i named =
    refused s (event.Execute cpu i) fault.Operand (subst (λ (x : Option SubchannelId). Executes_on s cpu i x (Err fault.Operand)) (sym named) refl)

pub executes-absent : (s : State) (cpu : ℕ) (i : Instruction) (id : SubchannelId) (after : Contents) (r : Result Reply Fault) →
    subchannel_named s.sets (subchannel_word i) ≡ Some id → index_in id s.subs ≡ None → Executed_absent s.storage cpu i r after →
    Performs s (event.Execute cpu i) r (record s { storage = after })
executes-absent s cpu i id after r named placed g =
    let lift : IsExecuted s cpu i None =
    λ o e. subst (λ (x : Option SubchannelId). Executes_on s cpu i x o) (sym named)
    (subst (λ (p : Option ℕ). Executes_at s cpu i (found_at s.subs p) o) (sym placed) e) in
    executed-absent s cpu i after r (ap (λ (x : Option SubchannelId). sub_at s.subs (index_of_id s.subs x)) named ∙ ap (sub_at s.subs) placed) lift g

-- there is room for the request of a subchannel that an event left set up as it was
pub postable-at : (subs : List Subchannel) (index : ℕ) (sub new : Subchannel) (numbers : ℕ) → StandsAt subs index sub → All IsPostable subs →
    new.setup ≡ sub.setup → numbers ≡ 0x100 → new.setup.id.number < numbers
postable-at subs index sub new numbers stands all same is =
    let here : IsPostable sub = subst IsPostable (sym stands.there) (All-get_or IsPostable subs index sub stands.within all) in
    subst (λ (n : ℕ). new.setup.id.number < n) (sym is) (subst (λ (x : SubchannelSetup). x.id.number < 0x100) (sym same) here)
