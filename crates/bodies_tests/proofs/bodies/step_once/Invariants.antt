use Rattle.bodies_tests.proofs.bodies.step_once.Given as goal

abbrev pub ghosts-step_counted : goal.ghosts-step_counted
ghosts-step_counted g a = record { name = a.blank.name; parts = a.blank.parts }
