use Rattle.std.proofs.Common.{◌∙◌, ap, length, drop, replicate, List, ℕ, arith}
use Rattle.std.proofs.lemmas.Fmt.{decimal_nonempty}
use Rattle.std.proofs.lemmas.List.{take_at, length-append, length-drop}
use Rattle.script_text.proofs.number.LineNumber.write.Goals as goal

pub invariant_of-self-clause-some : goal.invariant_of-self-clause-some
invariant_of-self-clause-some c =
    omega (arith, decimal_nonempty c.args.number c.ranges.number.fits, ap length (c.as_bytes-text.ensures.value ∙ c.format.ensures.text))

pub invariant_of-self-clause-told : goal.invariant_of-self-clause-told
invariant_of-self-clause-told c =
    take_at c.copy_from_slice.new.self _ _ (ap length c.copy_from_slice.ensures.after) ∙ c.copy_from_slice.ensures.after ∙ c.as_bytes-text.ensures.value ∙ c.format.ensures.text

pub invariant_of-self-clause-long : goal.invariant_of-self-clause-long
invariant_of-self-clause-long c =
    let zeros : List ℕ = replicate 20 48 in
    let text = c.as_bytes-text.result.now in
    omega (arith, length-append c.copy_from_slice.new.self (drop (length text) zeros), length-drop (length text) zeros, ap length c.copy_from_slice.ensures.after, ap length c.as_bytes-text.ensures.value, c.format.ensures.fits)
