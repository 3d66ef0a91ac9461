use Rattle.bodies_tests.proofs.bodies.look_ahead.Given as goal

abbrev pub ghosts-look_counted : goal.ghosts-look_counted
ghosts-look_counted g a = record { name = a.blank.name; parts = a.blank.parts }
