use Rattle.trace_talk.proofs.talk.Talk.open.Given as goal

abbrev pub ghosts-open_named : goal.ghosts-open_named
ghosts-open_named g a = record { name = a.parts.name; setup = a.opened.config }
