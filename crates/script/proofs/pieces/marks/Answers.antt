use Rattle.std.proofs.Common.{eqb, replicate, map, ap, ◌∙◌, ◌%◌, ◌^◌, w8, arith}
use Rattle.std.proofs.lemmas.Simd.{tops_compared, zip2_splat, mask_l-mod, length-chunk}
use Rattle.std.proofs.lemmas.List.{length-map}
use lib.Lanes.{chunk, mask_l}
use Rattle.script.proofs.pieces.marks.Goals as goal

pub returns : goal.returns
returns c =
    let v = chunk c.args.index 16 c.args.bytes.now in
    let b = c.args.byte in
    let long = length-chunk c.args.index 16 c.args.bytes.now c.requires in
    ap (λ ms. mask_l ms % 2 ^ 64) (tops_compared w8 eqb v (replicate 16 b) ∙ zip2_splat eqb v 16 b long)
    ∙ mask_l-mod (map (λ x. eqb x b) v) 64 (omega (arith, length-map v (λ x. eqb x b), long))
