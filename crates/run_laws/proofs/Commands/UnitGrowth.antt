-- What a subchannel does for its program with a signal only adds to the codes of its commands.
use Rattle.std.proofs.Common.{◌≡◌, refl, sym, ◌∙◌, ap, ℕ, ◌+◌, ◌-◌, ◌≤◌, Bool, true, false, ◌==◌, Option, None, Some, Result, Ok, Err, List, [], ◌∷◌, ◌++◌, length, append_assoc, inl, inr, arith}
use Rattle.std.specs.Prelude.{◌⊎◌, if◌then◌else◌, is_some, reverse, drop}
use Rattle.std.proofs.lemmas.Bool.{cases_lt}
use Rattle.std.proofs.lemmas.List.{append-nil, length-reverse, length-drop, reverse-reverse, reverse-append, drop_all, drop-append-le}
use Rattle.orb_block.specs.declared.Orb.{Orb}
use Rattle.ccw_codec.specs.declared.Ccw.{Ccw}
use Rattle.scsw_irb.specs.declared.status.DeviceStatus.{DeviceStatus}
use Rattle.storage_keys.specs.Storage.{Contents}
use Rattle.chan_model.specs.declared.hold_state.HoldPhase.{HoldPhase}
use Rattle.chan_model.specs.declared.hold_state.HoldPhase.TheVariants as hold
use Rattle.chan_model.specs.declared.hold_state.HoldState.{HoldState}
use Rattle.chan_model.specs.Signals.{Load, Up, load_bytes}
use Rattle.chan_model.specs.declared.signal.Up.TheVariants as up
use Rattle.chan_model.specs.HoldTable.{HoldStep, hold_after, outcome_of, is_connected, is_on}
use Rattle.chan_model.specs.HoldTable as hold_table
use Rattle.chan_model.specs.Loads.{load_length}
use Rattle.chan_model.specs.UnitReports.{is_outward, has_device_end}
use Rattle.ccw_walk.specs.declared.check.Check.{Check}
use Rattle.ccw_walk.specs.declared.program.Reading.{Reading}
use Rattle.ccw_walk.specs.declared.program.Reading.TheVariants.{Takes}
use Rattle.ccw_walk.specs.Sequences.{Sequence, Nothing, ◌▸◌, ◌▸▸◌, count, each}
use Rattle.ccw_walk.specs.Acts.{Act, Block, Unfetched, Used_up, End, Word}
use Rattle.ccw_walk.specs.Blocks.{reads}
use Rattle.ccw_walk.specs.Programs.{Command, join_last, commands_after, commands, code, role_of}
use Rattle.ccw_walk.specs.Positions.{WalkPosition, walk_position}
use Rattle.data_move.specs.declared.transfer.Transfer.{Transfer}
use Rattle.data_move.specs.declared.transfer.CommandStart.{CommandStart}
use Rattle.data_move.specs.declared.transfer.CommandStart.TheVariants as outcome
use Rattle.data_move.specs.Commands.{first_command, next_command, located_transfer, has_stopped}
use Rattle.data_move.specs.DataChaining.{with_bytes_moved, chains_data}
use Rattle.data_move.specs.ToDevice.{with_chunk_counted, chunk_absorbed}
use Rattle.data_move.specs.FromDevice.{fitting_bytes, chunk_stored}
use Rattle.data_move.specs.ChunkNumbers.{is_answered}
use Rattle.subchannel_model.specs.declared.state.ActiveProgram.{ActiveProgram}
use Rattle.subchannel_model.specs.declared.state.Program.{Program}
use Rattle.subchannel_model.specs.declared.state.ProgramPosition.{ProgramPosition}
use Rattle.subchannel_model.specs.declared.state.SubchannelState.{SubchannelState}
use Rattle.subchannel_model.specs.Ends.{has_status_modifier, chains_command}
use Rattle.subchannel_model.specs.Accept.{takes_device}
use Rattle.run_laws.specs.Traces.{CommandTrace, no_trace, ProgramTrace, past_part}
use Rattle.run_laws.proofs.Traces.MachineActs.{with_acts, with_places, trace_moved_on, trace_answered, with_copy, copying, trace_giving, gives, with_arrival, storing, arriving, takes_in, located_acts, chained_acts, chunk_of, first_acts, next_acts}
use Rattle.run_laws.proofs.Traces.MachineTraces.{trace_goes_on, trace_begins, begins_anew, begins_again, again_as, begins_as, accepted_at, trace_accepted, moves, answers, ends_alone, with_ended, chains, trace_ends, trace_meets}
use Rattle.run_laws.proofs.Traces.Sequences.{joined-in-order, backward}

-- the codes of the commands after the earlier ones, the last first
abbrev pub later_codes : ℕ → List ℕ → List ℕ
later_codes earlier cs = reverse (drop earlier (reverse cs))

abbrev pub codes_of : ProgramTrace → List ℕ
codes_of k = later_codes k.earlier (backward (each code (commands k.orb k.now.acts)))

pub later-length : (earlier : ℕ) (cs : List ℕ) → length (later_codes earlier cs) ≡ length cs - earlier
later-length earlier cs = length-reverse (drop earlier (reverse cs)) ∙ length-drop earlier (reverse cs) ∙ ap (λ (n : ℕ). n - earlier) (length-reverse cs)

pub later-none : (cs : List ℕ) → later_codes (length cs) cs ≡ []
later-none cs = let e : length (reverse cs) ≤ length cs = let f : length (reverse cs) ≡ length cs = length-reverse cs in omega (arith, f) in ap (λ (xs : List ℕ). reverse xs) (drop_all (length cs) (reverse cs) e)

later-more : (earlier : ℕ) (more cs : List ℕ) → earlier ≤ length cs → later_codes earlier (more ++ cs) ≡ more ++ later_codes earlier cs
later-more earlier more cs l =
    let f : length (reverse cs) ≡ length cs = length-reverse cs in
    let within : earlier ≤ length (reverse cs) = omega (arith, l, f) in
    ap (λ (xs : List ℕ). reverse (drop earlier xs)) (reverse-append more cs)
    ∙ ap (λ (xs : List ℕ). reverse xs) (drop-append-le earlier (reverse cs) (reverse more) within)
    ∙ reverse-append (drop earlier (reverse cs)) (reverse more)
    ∙ ap (λ (xs : List ℕ). xs ++ later_codes earlier cs) (reverse-reverse more)

pub later-first : (earlier c : ℕ) (cs : List ℕ) → earlier ≤ length cs → later_codes earlier (c ∷ cs) ≡ c ∷ later_codes earlier cs
later-first earlier c cs l = later-more earlier (c ∷ []) cs l

-- one more act adds a code, or none
joined-codes : (cs : Sequence Command) (ccw : Ccw) → backward (each code (join_last cs ccw)) ≡ backward (each code cs)
joined-codes Nothing ccw = refl
joined-codes (cs ▸ c) ccw = refl

abbrev pub Adds : List ℕ → List ℕ → Type 0
Adds old new = (more : List ℕ) × (new ≡ more ++ old)

adds-none : (xs ys : List ℕ) → ys ≡ xs → Adds xs ys
adds-none xs ys e = ([], e)

pub adds-then : (xs ys zs : List ℕ) → Adds xs ys → Adds ys zs → Adds xs zs
adds-then xs ys zs a b = (b.0 ++ a.0, b.1 ∙ ap (λ (l : List ℕ). b.0 ++ l) a.1 ∙ sym (append_assoc b.0 a.0 xs))

after-adds : (chained : Bool) (cs : Sequence Command) (r : Reading) → Adds (backward (each code cs)) (backward (each code (commands_after chained cs r)))
after-adds true cs (Takes ccw) = adds-none (backward (each code cs)) (backward (each code (join_last cs ccw))) (joined-codes cs ccw)
after-adds false cs (Takes ccw) = (ccw.command ∷ [], refl)
after-adds chained cs other = adds-none _ _ refl

pub acts-add : (orb : Orb) (acts before : Sequence Act) → Adds (backward (each code (commands orb before))) (backward (each code (commands orb (before ▸▸ acts))))
acts-add orb Nothing before = adds-none _ _ refl
acts-add orb (acts ▸ Block address bytes) before =
    adds-then (backward (each code (commands orb before))) (backward (each code (commands orb (before ▸▸ acts)))) _ (acts-add orb acts before)
    (after-adds (role_of orb (before ▸▸ acts)).chained (commands orb (before ▸▸ acts)) (reads orb (role_of orb (before ▸▸ acts)) bytes))
acts-add orb (acts ▸ Unfetched address check) before = acts-add orb acts before
acts-add orb (acts ▸ Used_up) before = acts-add orb acts before
acts-add orb (acts ▸ End ended) before = acts-add orb acts before
acts-add orb (acts ▸ Word word) before = acts-add orb acts before

later-adds : (earlier : ℕ) (xs ys : List ℕ) → Adds xs ys → Adds (later_codes earlier xs) (later_codes earlier ys)
later-adds earlier xs ys a =
    elim (cases_lt (length xs) earlier) [
      | inl l ↦
          let f : length (reverse xs) ≡ length xs = length-reverse xs in
          let none : later_codes earlier xs ≡ [] = ap (λ (cs : List ℕ). reverse cs) (drop_all earlier (reverse xs) (omega (arith, l, f))) in
          (later_codes earlier ys, sym (append-nil (later_codes earlier ys)) ∙ ap (λ (cs : List ℕ). later_codes earlier ys ++ cs) (sym none))
      | inr l ↦ (a.0, ap (λ (cs : List ℕ). later_codes earlier cs) a.1 ∙ later-more earlier a.0 xs l)
    ]

codes-add : (k : ProgramTrace) (acts : Sequence Act) → Adds (codes_of k) (later_codes k.earlier (backward (each code (commands k.orb (k.now.acts ▸▸ acts)))))
codes-add k acts =
    later-adds k.earlier (backward (each code (commands k.orb k.now.acts))) (backward (each code (commands k.orb (k.now.acts ▸▸ acts)))) (acts-add k.orb acts k.now.acts)

-- parts whose acts grew
abbrev pub IsOn : CommandTrace → CommandTrace → Type 0
IsOn k new = (more : Sequence Act) × (new.acts ≡ k.acts ▸▸ more)

on-same : (k new : CommandTrace) → new.acts ≡ k.acts → IsOn k new
on-same k new e = (Nothing, e)

on-then : (x y z : CommandTrace) → IsOn x y → IsOn y z → IsOn x z
on-then x y z a b = (a.0 ▸▸ b.0, b.1 ∙ ap (λ (l : Sequence Act). l ▸▸ b.0) a.1 ∙ sym (joined-in-order x.acts a.0 b.0))

if-on : (k : CommandTrace) (c : Bool) (x y : CommandTrace) → IsOn k x → IsOn k y → IsOn k (if c then x else y)
if-on k true x y e f = e
if-on k false x y e f = f

after_bytes_moved-on : (storage : Contents) (t : Transfer) (n : ℕ) (k : CommandTrace) → IsOn k (trace_moved_on storage t n k)
after_bytes_moved-on storage t n k = if-on k (chains_data (with_bytes_moved t n) n) _ _ (chained_acts storage (with_bytes_moved t n), refl) (on-same k (with_places k t.moving n) refl)

answered-on : (storage : Contents) (t : Transfer) (s count : ℕ) (k : CommandTrace) → IsOn k (trace_answered storage t s count k)
answered-on storage t s count k = if-on k (s == t.sequence + 1) _ k (after_bytes_moved-on storage (with_chunk_counted t s count) _ k) (on-same k k refl)

with_copy-on : (storage : Contents) (t : Transfer) (r : Result (List ℕ) Check) (k : CommandTrace) → IsOn k (with_copy storage t r k)
with_copy-on storage t (Ok bytes) k = on-same k (record k { copied = k.copied ++ chunk_of storage t.moving bytes ∷ [] }) refl
with_copy-on storage t (Err check) k = on-same k k refl

copying-on : (storage : Contents) (t : Transfer) (k : CommandTrace) → IsOn k (copying storage t k)
copying-on storage t k = if-on k (has_stopped t) k _ (on-same k k refl) (with_copy-on storage t _ k)

giving-on : (storage : Contents) (t : Transfer) (k : CommandTrace) → IsOn k (trace_giving storage t k)
giving-on storage t k = on-then k (with_acts k (located_acts storage t)) (trace_giving storage t k) (located_acts storage t, refl) (copying-on storage (located_transfer storage t) (with_acts k (located_acts storage t)))

pub gives-on : (storage : Contents) (t : Transfer) (s count : ℕ) (k : CommandTrace) → IsOn k (gives storage t s count k)
gives-on storage t s count k = on-then k (trace_answered storage t s count k) (gives storage t s count k) (answered-on storage t s count k) (giving-on storage (chunk_absorbed storage t s count) (trace_answered storage t s count k))

with_arrival-on : (storage : Contents) (t : Transfer) (bytes : List ℕ) (r : Result Contents Check) (k : CommandTrace) → IsOn k (with_arrival storage t bytes r k)
with_arrival-on storage t bytes (Ok after) k =
    let x : CommandTrace = record k { arrived = k.arrived ++ record { former = storage.bytes; chunk = chunk_of after t.moving bytes } ∷ [] } in
    on-then k x (trace_moved_on after t (length bytes) x) (on-same k x refl) (after_bytes_moved-on after t (length bytes) x)
with_arrival-on storage t bytes (Err check) k = on-same k k refl

storing-on : (storage : Contents) (t : Transfer) (bytes : List ℕ) (k : CommandTrace) → IsOn k (storing storage t bytes k)
storing-on storage t bytes k = if-on k (is_some t.fault) k _ (on-same k k refl) (with_arrival-on storage t bytes _ k)

arriving-on : (storage : Contents) (t : Transfer) (s : ℕ) (bytes : List ℕ) (k : CommandTrace) → IsOn k (arriving storage t s bytes k)
arriving-on storage t s bytes k = if-on k (s == t.sequence + 1) (storing storage (record t { sequence = s }) (fitting_bytes t bytes) k) k (storing-on storage (record t { sequence = s }) (fitting_bytes t bytes) k) (on-same k k refl)

pub takes_in-on : (storage : Contents) (t : Transfer) (s : ℕ) (bytes : List ℕ) (k : CommandTrace) → IsOn k (takes_in storage t s bytes k)
takes_in-on storage t s bytes k =
    on-then k (arriving storage t s bytes k) (takes_in storage t s bytes k) (arriving-on storage t s bytes k)
    (located_acts (chunk_stored storage t s bytes).storage (chunk_stored storage t s bytes).transfer, refl)

-- a trace in which the codes grew or stayed, or before any was sent, and the device took and absorbed nothing
abbrev pub IsMore : ProgramTrace → ProgramTrace → Type 0
IsMore k new = Adds (codes_of k) (codes_of new) ⊎ (k.sent ≡ 0)

pub record IsGrown (k new : ProgramTrace) : Type 0 where
  pub number : new.number ≡ k.number
  pub taken : new.taken ≡ k.taken
  pub absorbed : new.absorbed ≡ k.absorbed
  pub sent : k.sent ≤ new.sent
  pub codes : IsMore k new

pub same-grown : (k : ProgramTrace) → IsGrown k k
same-grown k = record { number = refl; taken = refl; absorbed = refl; sent = omega arith; codes = inl ([], refl) }

if-grown : (k : ProgramTrace) (c : Bool) (x y : ProgramTrace) → IsGrown k x → IsGrown k y → IsGrown k (if c then x else y)
if-grown k true x y e f = e
if-grown k false x y e f = f

now-grown : (k : ProgramTrace) (now : CommandTrace) → IsOn k.now now → IsGrown k (record k { now = now })
now-grown k now a =
    let c : Adds (codes_of k) (later_codes k.earlier (backward (each code (commands k.orb (k.now.acts ▸▸ a.0))))) = codes-add k a.0 in
    record {
      number = refl;
      taken = refl;
      absorbed = refl;
      sent = omega arith;
      codes = inl (c.0, ap (λ (l : Sequence Act). later_codes k.earlier (backward (each code (commands k.orb l)))) a.1 ∙ c.1);
    }

chains_at_device_end-grown : (storage : Contents) (c : CommandStart) (acts : Sequence Act) (k : ProgramTrace) → IsGrown k (trace_goes_on storage c acts k)
chains_at_device_end-grown storage (outcome.Begins t) acts k = record { number = refl; taken = refl; absorbed = refl; sent = omega arith; codes = inl (codes-add k acts) }
chains_at_device_end-grown storage outcome.Suspends acts k = now-grown k (with_acts k.now acts) (acts, refl)
chains_at_device_end-grown storage (outcome.Stops check) acts k = now-grown k (with_acts k.now acts) (acts, refl)

-- where none was sent
begins-grown : (storage : Contents) (walk : WalkPosition) (k new : ProgramTrace) → k.sent ≡ 0 → new.number ≡ k.number → new.taken ≡ k.taken → new.absorbed ≡ k.absorbed →
    IsGrown k (trace_begins storage walk new)
begins-grown storage walk k new e f g h = by (first_command storage walk).outcome
  where
    by : (c : CommandStart) → IsGrown k (trace_goes_on storage c (first_acts storage walk) new)
    by (outcome.Begins t) = record { number = f; taken = g; absorbed = h; sent = omega (arith, e); codes = inr e }
    by outcome.Suspends = record { number = f; taken = g; absorbed = h; sent = omega (arith, e); codes = inr e }
    by (outcome.Stops check) = record { number = f; taken = g; absorbed = h; sent = omega (arith, e); codes = inr e }

again-grown : (storage : Contents) (suspended : Option ProgramPosition) (start : ℕ) (k : ProgramTrace) → k.sent ≡ 0 → IsGrown k (again_as storage suspended start k)
again-grown storage None start k e = same-grown k
again-grown storage (Some st) start k e =
    if-grown k (st.program.start == start) (begins_again storage st k) k
    (begins-grown storage st.walk k (record k { earlier = count (commands k.orb k.now.acts); now = past_part k.now }) e refl refl refl) (same-grown k)

begins_as-grown : (storage : Contents) (waiting : Option Program) (suspended : Option ProgramPosition) (start : ℕ) (k : ProgramTrace) → k.sent ≡ 0 →
    IsGrown k (begins_as storage waiting suspended start k)
begins_as-grown storage None suspended start k e = again-grown storage suspended start k e
begins_as-grown storage (Some program) suspended start k e =
    if-grown k (program.start == start) (begins_anew storage program k) (again_as storage suspended start k)
    (begins-grown storage (walk_position program.orb Nothing) k (record k { orb = program.orb; earlier = 0; now = no_trace }) e refl refl refl)
    (again-grown storage suspended start k e)

accepted_at-grown : (storage : Contents) (phase : HoldPhase) (s : SubchannelState) (k : ProgramTrace) → k.sent ≡ 0 → IsGrown k (accepted_at storage phase s k)
accepted_at-grown storage (hold.On t p c) s k e = begins_as-grown storage s.waiting s.suspended s.offered k e
accepted_at-grown storage other s k e = same-grown k

accepted-grown : (storage : Contents) (s : SubchannelState) (step : Option HoldStep) (k : ProgramTrace) → k.sent ≡ 0 → IsGrown k (trace_accepted storage s step k)
accepted-grown storage s step k e = if-grown k (outcome_of step).taken _ k (accepted_at-grown storage (hold_after s.hold step).phase s k e) (same-grown k)

-- Accept is taken at an offer alone
abbrev pub IsUnbegun : HoldPhase → ProgramTrace → Type 0
IsUnbegun phase k = (t p : ℕ) → phase ≡ hold.Offer t p → k.sent ≡ 0

accept-grown : (storage : Contents) (s : SubchannelState) (h : HoldState) (phase : HoldPhase) (t : ℕ) (may : Bool) (k : ProgramTrace) → IsUnbegun phase k →
    IsGrown k (trace_accepted storage s (hold_table.offer_accepted h phase t may) k)
accept-grown storage s h (hold.Offer u p) t may k e = accepted-grown storage s (hold_table.offer_accepted h (hold.Offer u p) t may) k (e u p refl)
accept-grown storage s h other t may k e = same-grown k

moves-grown : (storage : Contents) (t : Transfer) (s : ℕ) (load : Load) (k : ProgramTrace) → IsGrown k (moves storage t s load k)
moves-grown storage t s load k =
    if-grown k (is_outward t.code) _ _ (now-grown k (gives storage t s (load_length load) k.now) (gives-on storage t s (load_length load) k.now))
    (now-grown k (takes_in storage t s (load_bytes load) k.now) (takes_in-on storage t s (load_bytes load) k.now))

answers-grown : (storage : Contents) (b : Option ActiveProgram) (n s : ℕ) (load : Load) (k : ProgramTrace) → IsGrown k (answers storage b n s load k)
answers-grown storage None n s load k = same-grown k
answers-grown storage (Some b) n s load k = if-grown k (is_answered b.transfer n s) _ k (moves-grown storage b.transfer s load k) (same-grown k)

chains-grown : (storage : Contents) (s : SubchannelState) (b : ActiveProgram) (status : DeviceStatus) (more : Bool) (k : ProgramTrace) → IsGrown k (chains storage s b status more k)
chains-grown storage s b status more k =
    let acts : Sequence Act = Nothing ▸ End (record { goes_on = false; modifier = has_status_modifier status }) in
    if-grown k (chains_command s.scsw b status more) _ (ends_alone status k)
    (if-grown k (has_device_end status) _ (with_ended k)
    (chains_at_device_end-grown storage (next_command storage b.transfer (has_status_modifier status)).outcome (next_acts storage b.transfer (has_status_modifier status)) k)
    (now-grown k (record k.now { ended = true }) (Nothing, refl)))
    (now-grown k (record k.now { acts = k.now.acts ▸▸ acts; ended = true; unchained = true }) (acts, refl))

ends-grown : (storage : Contents) (s : SubchannelState) (b : Option ActiveProgram) (n : ℕ) (status : DeviceStatus) (more : Bool) (k : ProgramTrace) → IsGrown k (trace_ends storage s b n status more k)
ends-grown storage s None n status more k = same-grown k
ends-grown storage s (Some b) n status more k = if-grown k (n == b.transfer.command) _ k (chains-grown storage s b status more k) (same-grown k)

pub meets-grown : (storage : Contents) (s : SubchannelState) (p : ℕ) (x : Up) (k : ProgramTrace) → IsUnbegun s.hold.phase k → IsGrown k (trace_meets storage s p x k)
meets-grown storage s p (up.Accept t) k e = accept-grown storage s s.hold s.hold.phase t (takes_device s) k e
meets-grown storage s p (up.Data load t c n seq) k e = if-grown k (is_connected s.hold.phase p t c) _ k (answers-grown storage s.begun n seq load k) (same-grown k)
meets-grown storage s p (up.End t n status more) k e = if-grown k (is_on s.hold.phase t) _ k (ends-grown storage s s.begun n status more k) (same-grown k)
meets-grown storage s p x k e = same-grown k
