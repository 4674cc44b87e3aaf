use Rattle.std.proofs.Common.{◌≤◌, ◌-◌, ◌∙◌, ap, ap₂, arith, subst, sym, vec_capacity, List, ℕ, [], ◌∷◌, ◌++◌, drop, take, rules}
use Rattle.event_log.specs.declared.entries.KeptEntry.{KeptEntry}
use Rattle.event_log.specs.Entries.{entry_in}
use Rattle.event_log.specs.Logs.{entries_at, room_of, written_reply}
use Rattle.event_log.proofs.Growing.{added-all, all-taken, begun, kept-added, room-needs}
use Rattle.event_log.proofs.logs.Log.append_kept.Goals as goal

pub invariant_of-self : goal.invariant_of-self
invariant_of-self c =
    let log = c.self.inside in
    let is = c.self.invariant.0 in
    let kept : KeptEntry = record c.args.kept.now { start = log.start } in
    let before = written_reply (drop log.count log.entries.items) in
    let new = begun log.bytes.items (take log.count log.entries.items) log.start before is.written (ap (λ l. l.reply) c.self.view_is ∙ c.requires.fresh) in
    let some : 1 ≤ room_of (vec_capacity log.entries - log.count) (vec_capacity log.bytes - log.start) = subst (λ (n : ℕ). 1 ≤ n) (sym (ap (λ l. l.room) c.self.view_is)) c.requires.room in (
      added-all log.bytes.items c.args.bytes.now c.add_bytes.new.arena.items log.entries.items c.push_same.new.entries.items before kept log.count c.len-self-inside.result
          c.add_bytes.ensures.items c.push_same.ensures.items (search rules) is.some is.written new c.requires.whole,
      λ _. omega (arith, room-needs (vec_capacity log.entries - log.count) (vec_capacity log.bytes) log.start some, c.add_bytes.ensures.capacity),
    )

pub returns-clause-entries : goal.returns-clause-entries
returns-clause-entries c =
    let log = c.self.inside in
    let is = c.self.invariant.0 in
    let kept : KeptEntry = record c.args.kept.now { start = log.start } in
    let ks = take log.count log.entries.items in
    let before = written_reply (drop log.count log.entries.items) in
    let new = begun log.bytes.items ks log.start before is.written (ap (λ l. l.reply) c.self.view_is ∙ c.requires.fresh) in
    ap₂ (λ (xs : List ℕ) (l : List KeptEntry). entries_at xs l) c.add_bytes.ensures.items (all-taken log.entries.items c.push_same.new.entries.items kept log.count c.push_same.ensures.items is.some)
    ∙ (kept-added log.bytes.items c.args.bytes.now ks before kept is.written new c.requires.whole
    ∙ ap (λ l. l.entries ++ entry_in kept c.args.bytes.now ∷ []) c.self.view_is)
