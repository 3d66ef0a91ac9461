use Rattle.machine_tests.proofs.machine.devices.leave.Given as goal

abbrev pub ghosts-leave_counted : goal.ghosts-leave_counted
ghosts-leave_counted g a = record { name = a.blank.name; parts = a.blank.parts }
