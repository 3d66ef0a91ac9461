use Rattle.machine_tests.proofs.machine.rebuild.rebuilt.Given as goal

abbrev pub ghosts-rebuild_counted : goal.ghosts-rebuild_counted
ghosts-rebuild_counted a = record { name = a.blank.name; parts = a.blank.parts }
