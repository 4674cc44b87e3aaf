use Rattle.trace_runs.proofs.trace_script.Given as goal

abbrev pub ghosts-perform_named : goal.ghosts-perform_named
ghosts-perform_named g a = record { name = a.parts.name; setup = a.config }
