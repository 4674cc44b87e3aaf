use Rattle.std.proofs.Common.{◌≡◌, ◌≤◌, ◌<◌, ◌∙◌, subst, length, take, List, rules}
use Rattle.std.proofs.lemmas.List.{take_all}
use Rattle.chan_events.specs.declared.reply.Entry.{Entry}
use Rattle.channel_subsystem.specs.Replaying.{AreRepeated}
use Rattle.channel_subsystem.specs.declared.not_replayed.NotReplayed.{NotReplayed}
use Rattle.channel_subsystem.proofs.Repeating.{ends-at, repeated-leads, repeated-on, repeated-runs}
use Rattle.channel_subsystem.proofs.hosted.ChannelSubsystem.replay_with.Goals as goal

pub loop-index-preserved : goal.loop-index-preserved
loop-index-preserved g c =
    let contents = g.M.MainStorage.contents in
    let within : c.loop-index.index < length c.args.history.now = search rules in
    record {
      repeated =
          repeated-on g.P.PathChoice.picks c.args.self.now (contents c.args.storage.now) c.args.history.now c.loop-index.index c.loop-index.self (contents c.loop-index.storage) c.repeat.new.self
          (contents c.repeat.new.storage) within c.loop-index.invariant.repeated c.in-Ok.ensures.same;
      lender = c.in-Ok.ensures.lender ∙ c.loop-index.invariant.lender;
      unrefused = c.in-Ok.ensures.unrefused ∙ c.loop-index.invariant.unrefused;
    }

pub returns-in-Err-clause-ended : goal.returns-in-Err-clause-ended
returns-in-Err-clause-ended g c =
    let contents = g.M.MainStorage.contents in
    let within : c.loop-index.index < length c.args.history.now = search rules in
    let n : NotReplayed = record { index = c.loop-index.index; difference = c.in-Err.difference } in
    ends-at g.P.PathChoice.picks c.args.self.now (contents c.args.storage.now) c.args.history.now n c.loop-index.self (contents c.loop-index.storage) c.repeat.new.self
    (contents c.repeat.new.storage) within c.loop-index.invariant.repeated c.in-Err.ensures.otherwise

pub returns-clause-leads : goal.returns-clause-leads
returns-clause-leads g c =
    let contents = g.M.MainStorage.contents in
    let past : length c.args.history.now ≤ c.loop-index.index = search rules in
    let all : take c.loop-index.index c.args.history.now ≡ c.args.history.now = take_all c.loop-index.index c.args.history.now past in
    repeated-leads g.P.PathChoice.picks c.args.self.now (contents c.args.storage.now) c.args.history.now c.loop-index.self (contents c.loop-index.storage)
    (subst (λ (l : List Entry). AreRepeated g.P.PathChoice.picks c.args.self.now (contents c.args.storage.now) l c.loop-index.self (contents c.loop-index.storage)) all c.loop-index.invariant.repeated)

pub returns-clause-runs : goal.returns-clause-runs
returns-clause-runs g c =
    let contents = g.M.MainStorage.contents in
    let past : length c.args.history.now ≤ c.loop-index.index = search rules in
    let all : take c.loop-index.index c.args.history.now ≡ c.args.history.now = take_all c.loop-index.index c.args.history.now past in
    repeated-runs c.setups.ensures.set_up g.P.PathChoice.picks c.args.self.now (contents c.args.storage.now) c.args.history.now c.loop-index.self (contents c.loop-index.storage)
    (subst (λ (l : List Entry). AreRepeated g.P.PathChoice.picks c.args.self.now (contents c.args.storage.now) l c.loop-index.self (contents c.loop-index.storage)) all c.loop-index.invariant.repeated)
