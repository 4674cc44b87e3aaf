-- The words are those of the block's parts, and the rest is zero.
use Rattle.std.proofs.Common.{refl}
use Rattle.scsw_irb.proofs.IrbLemmas.{irb_words}
use Rattle.scsw_irb.proofs.irb.Irb.of_words.Goals as goal

pub returns-clause-allowed : goal.returns-clause-allowed
returns-clause-allowed c =
    let extended = c.in_ok-last_path_used.ensures.allowed.0 refl in
    (λ _. (c.in_ok-scsw.ensures.allowed.0 refl, extended.0, extended.1, c.rest_is_zero.ensures.0 c.if-not-rest_is_zero.false), λ _. refl)

pub returns-clause-found : goal.returns-clause-found
returns-clause-found c =
    irb_words c.args.words.now (record { scsw = c.in_ok-scsw.scsw; last_path_used = c.in_ok-last_path_used.last_path_used }) c.told-words
    c.in_ok-scsw.ensures.found c.in_ok-last_path_used.ensures.found (c.rest_is_zero.ensures.0 c.if-not-rest_is_zero.false)
