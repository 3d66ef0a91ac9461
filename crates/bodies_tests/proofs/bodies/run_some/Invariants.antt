use Rattle.bodies_tests.proofs.bodies.run_some.Given as goal

abbrev pub ghosts-stood_counted : goal.ghosts-stood_counted
ghosts-stood_counted g a = record { name = a.blank.name; parts = a.blank.parts }
