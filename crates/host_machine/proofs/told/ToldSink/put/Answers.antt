use Rattle.std.proofs.Common.{refl, ◌≡◌, ◌∙◌, ◌-◌, ◌≤◌, ◌<◌, ap, take, length, arith, List, ℕ, ◌++◌}
use Rattle.std.proofs.lemmas.List.{length-take}
use Rattle.std.proofs.lemmas.Slice.{take-put_mid}
use Rattle.host_machine.proofs.told.ToldSink.put.Goals as goal

pub returns-then-bytes-start : goal.returns-then-bytes-start
returns-then-bytes-start c =
    let start = c.args.self.now.count in
    let fits : c.args.self.now.count ≤ 1024 = c.args.self.now.fits in
    let whole : length c.args.self.now.room ≡ 1024 = c.args.self.now.whole in
    let more : 1024 - c.args.self.now.count < length c.args.bytes.now = c.if-bytes-start.true in
    let put : c.copy_from_slice.new.self ≡ take (1024 - c.args.self.now.count) c.args.bytes.now = c.copy_from_slice.ensures.after in
    record {
      taken = 1024 - c.args.self.now.count;
      fewer = omega arith;
      bytes = take-put_mid start (1024 - start) c.args.self.now.room c.copy_from_slice.new.self 1024
          (omega (arith, ap length put, length-take (1024 - start) c.args.bytes.now)) (omega arith)
          ∙ ap (λ (xs : List ℕ). take start c.args.self.now.room ++ xs) put;
      failed = refl;
    }
