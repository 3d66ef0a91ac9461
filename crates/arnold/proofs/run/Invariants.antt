use Rattle.arnold.proofs.run.Given as goal

abbrev pub ghosts-session : goal.ghosts-session
ghosts-session a = record { name = a.blank.name; parts = a.blank.parts }
