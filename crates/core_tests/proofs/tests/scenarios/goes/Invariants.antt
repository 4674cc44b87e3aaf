use Rattle.core_tests.proofs.tests.scenarios.goes.Given as goal

abbrev pub ghosts-make_and_tell : goal.ghosts-make_and_tell
ghosts-make_and_tell g a = record { name = a.parts.name; setup = a.config }
