use Rattle.machine_tests.proofs.machine.legs.leg_with_room.Given as goal

abbrev pub ghosts-leg_counted : goal.ghosts-leg_counted
ghosts-leg_counted g a = record { name = a.blank.name; parts = a.blank.parts }
