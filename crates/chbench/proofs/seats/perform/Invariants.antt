use Rattle.chbench.proofs.seats.perform.Given as goal

abbrev pub ghosts-at_core : goal.ghosts-at_core
ghosts-at_core g a = record { name = a.parts.name; setup = a.config }
