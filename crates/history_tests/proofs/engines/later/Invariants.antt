use Rattle.history_tests.proofs.engines.later.Given as goal

abbrev pub ghosts-later_counted : goal.ghosts-later_counted
ghosts-later_counted a = record { name = a.blank.name; parts = a.blank.parts }
