use Rattle.std.proofs.Common.{◌≡◌, ◌≤◌, ◌-◌, ◌∙◌, ap, ap₂, arith, subst, sym, vec_capacity, List, ℕ, [], ◌∷◌, ◌++◌, drop, take, slice_index_or, slice_set, rules}
use Rattle.std.proofs.lemmas.List.{get_or_push, length-take-le, set_at}
use Rattle.chan_events.specs.Events.{event_bytes}
use Rattle.event_log.specs.declared.entries.KeptEntry.{KeptEntry}
use Rattle.event_log.specs.Logs.{entries_at, room_of, unfinished, written_reply}
use Rattle.event_log.proofs.Growing.{all-taken, ended, ended-all, room-needs}
use Rattle.event_log.proofs.logs.Log.finish.Goals as goal

pub invariant_of-self : goal.invariant_of-self
invariant_of-self c =
    let log = c.self.inside in
    let is = c.self.invariant.0 in
    let ks = take log.count log.entries.items in
    let told = written_reply (drop log.count log.entries.items) in
    let before = unfinished log.start told in
    let found = c.index_mut.result.now in
    let long = length-take-le log.count log.entries.items is.some in
    let same : found ≡ before =
    c.index_mut.ensures.value ∙ ap (λ (l : List KeptEntry). slice_index_or l log.count found) c.settle.ensures.items ∙ get_or_push ks before found log.count long in
    let k : KeptEntry = record { start = log.start; event = c.keep_in.new.slot; reply = told } in
    let pushed = ap₂ (λ (l : List KeptEntry) (x : KeptEntry). slice_set l log.count (record x { event = c.keep_in.new.slot })) c.settle.ensures.items same ∙ set_at ks before [] k log.count long in
    let more = event_bytes c.args.event.now in
    let some : 1 ≤ room_of (vec_capacity log.entries - log.count) (vec_capacity log.bytes - log.start) = subst (λ (n : ℕ). 1 ≤ n) (sym (ap (λ l. l.room) c.self.view_is)) c.requires in (
      ended-all log.bytes.items more c.add_bytes.new.arena.items log.entries.items _ k log.count c.len-self-inside.result
          (c.add_bytes.ensures.items ∙ ap (λ (xs : List ℕ). log.bytes.items ++ xs) c.bytes.ensures.value) pushed (search rules) is.some is.written c.keep_in.ensures.length,
      λ _. omega (arith, room-needs (vec_capacity log.entries - log.count) (vec_capacity log.bytes) log.start some, c.add_bytes.ensures.capacity),
    )

pub returns-clause-entries : goal.returns-clause-entries
returns-clause-entries c =
    let log = c.self.inside in
    let is = c.self.invariant.0 in
    let ks = take log.count log.entries.items in
    let told = written_reply (drop log.count log.entries.items) in
    let before = unfinished log.start told in
    let found = c.index_mut.result.now in
    let long = length-take-le log.count log.entries.items is.some in
    let same : found ≡ before =
    c.index_mut.ensures.value ∙ ap (λ (l : List KeptEntry). slice_index_or l log.count found) c.settle.ensures.items ∙ get_or_push ks before found log.count long in
    let k : KeptEntry = record { start = log.start; event = c.keep_in.new.slot; reply = told } in
    let pushed = ap₂ (λ (l : List KeptEntry) (x : KeptEntry). slice_set l log.count (record x { event = c.keep_in.new.slot })) c.settle.ensures.items same ∙ set_at ks before [] k log.count long in
    let more = event_bytes c.args.event.now in
    ap₂ (λ (xs : List ℕ) (l : List KeptEntry). entries_at xs l) (c.add_bytes.ensures.items ∙ ap (λ (xs : List ℕ). log.bytes.items ++ xs) c.bytes.ensures.value) (all-taken log.entries.items _ k log.count pushed is.some)
    ∙ (ended log.bytes.items more ks k c.args.event.now is.written c.keep_in.ensures.kept c.keep_in.ensures.length
    ∙ ap (λ l. l.entries ++ record { event = c.args.event.now; reply = l.reply } ∷ []) c.self.view_is)
