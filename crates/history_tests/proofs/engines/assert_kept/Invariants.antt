use Rattle.history_tests.proofs.engines.assert_kept.Given as goal

abbrev pub ghosts-assert_kept_counted : goal.ghosts-assert_kept_counted
ghosts-assert_kept_counted g a = record { name = a.blank.name; parts = a.blank.parts }
