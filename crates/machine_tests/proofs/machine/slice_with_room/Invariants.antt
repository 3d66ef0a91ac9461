use Rattle.machine_tests.proofs.machine.slice_with_room.Given as goal

abbrev pub ghosts-slice_counted : goal.ghosts-slice_counted
ghosts-slice_counted a = record { name = a.blank.name; parts = a.blank.parts }
