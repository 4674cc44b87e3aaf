use Rattle.script_runner.proofs.running.run_script.Given as goal

abbrev pub ghosts-run_named : goal.ghosts-run_named
ghosts-run_named g a = record { name = a.set_up.parts.name; setup = a.set_up.config }
