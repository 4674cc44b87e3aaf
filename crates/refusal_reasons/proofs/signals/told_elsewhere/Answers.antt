use Rattle.refusal_reasons.proofs.signals.told_elsewhere.Goals as goal

pub returns-in-None-clause-busy : goal.returns-in-None-clause-busy
returns-in-None-clause-busy g c wires has none = c.in-None.ensures.none wires has
