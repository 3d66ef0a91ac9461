-- Literal examples of what a run prints and how it ends.
use Rattle.std.proofs.Common.{◌≡◌, ◌++◌, [], ◌∷◌, None, Some, refl}
use Rattle.arn_base.specs.declared.records.Extra.TheVariants as extra
use Rattle.arn_base.specs.declared.records.Record.TheVariants as entry
use Rattle.arn_lines.specs.declared.answer.RunEnd.TheVariants.{Done, Stalled, Budget}
use Rattle.arn_lines.specs.Texts.{out_text}
use Rattle.arn_model.specs.declared.run_state.RunState.TheVariants as state
use Rattle.session_runs.specs.Outputs.{outputs_text}
use Rattle.session_runs.specs.Runs.{run_end}

-- a slice is no event, and a write of nothing has no line
writes : outputs_text 4 (entry.Slice 1 10 ∷ entry.Call 1 12 3 (extra.Console (97 ∷ 98 ∷ 99 ∷ [])) ∷ entry.Call 1 12 0 (extra.Console []) ∷ entry.Call 2 12 1 (extra.Console (10 ∷ [])) ∷ []) ≡ out_text 4 1 (97 ∷ 98 ∷ 99 ∷ []) ++ (out_text 6 2 (10 ∷ []) ++ [])
writes = refl

-- whether a process lives is looked for first, and then whether one can go on
done : run_end state.Done 0 ≡ Some Done
done = refl

stalled : run_end state.Stalled 0 ≡ Some Stalled
stalled = refl

spent : run_end state.CanGoOn 0 ≡ Some Budget
spent = refl

goes_on : run_end state.CanGoOn 1 ≡ None
goes_on = refl
