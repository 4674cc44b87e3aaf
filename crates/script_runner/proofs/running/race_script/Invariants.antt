use Rattle.script_runner.proofs.running.race_script.Given as goal

abbrev pub ghosts-run_named : goal.ghosts-run_named
ghosts-run_named g a = record { name = a.set_up.parts.name; setup = a.set_up.config }

abbrev pub ghosts-race_named : goal.ghosts-race_named
ghosts-race_named g a = record { name = a.set_up.parts.name; setup = a.set_up.config }
