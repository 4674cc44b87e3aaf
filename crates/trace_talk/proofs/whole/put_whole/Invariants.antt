use Rattle.trace_talk.proofs.whole.put_whole.Given as goal

abbrev pub ghosts-put_named : goal.ghosts-put_named
ghosts-put_named g a = record { name = a.parts.name; setup = a.config }
