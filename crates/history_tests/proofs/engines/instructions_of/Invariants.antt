use Rattle.history_tests.proofs.engines.instructions_of.Given as goal

abbrev pub ghosts-ran_counted : goal.ghosts-ran_counted
ghosts-ran_counted a = record { name = a.blank.name; parts = a.blank.parts }
