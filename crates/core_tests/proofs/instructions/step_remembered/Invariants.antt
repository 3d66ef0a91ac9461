use Rattle.core_tests.proofs.instructions.step_remembered.Given as goal

abbrev pub ghosts-remember_counted : goal.ghosts-remember_counted
ghosts-remember_counted a = record { name = a.blank.name; parts = a.blank.parts }
