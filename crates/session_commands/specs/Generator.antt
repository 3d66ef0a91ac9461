-- What the generator does: its program is brought as a file and booted, bytes are typed, and the machine runs. All of that is committed and none
-- of it printed; then it is told in one text.
use Rattle.std.specs.Prelude.{ℕ, List, [], ◌∷◌, ◌++◌, codes}
use Rattle.arn_base.specs.declared.records.Record.{Record}
use Rattle.arn_model.specs.Kernel.{Machine}
use Rattle.arn_model.specs.Run.{Input, File, Boot, Typed, after_input, machine_from}
use Rattle.arn_lines.specs.declared.line.TheConstants.{MOST_RUN}
use Rattle.log_model.specs.Records.{records_from}
use Rattle.session_effects.specs.Effects.{Effect, Commits}
use Rattle.session_runs.specs.Quiet.{quietly}
use Rattle.session_runs.specs.Ready.{machine_of}
use Rattle.session_runs.specs.Runs.{run}
use Rattle.session_runs.specs.Turns.{Point, behind}
use Rattle.session_model.specs.Questions.{Told}

-- the name of its file
abbrev pub gen_name : List ℕ
gen_name = codes "gen"

-- what comes before it runs
abbrev pub gen_inputs : List ℕ → List ℕ → List Input
gen_inputs image typed = File gen_name image ∷ Boot gen_name ∷ Typed typed ∷ []

-- each input becomes an event, whose records are committed
abbrev pub event_commits : Machine → List Input → List Effect
event_commits m [] = []
event_commits m (i ∷ inputs) = Commits (records_from m (i ∷ [])) ∷ event_commits (after_input m i) inputs

-- it runs from a machine on, whose history this is, and then it is told
abbrev pub gen_run : Told → List Record → Machine → ℕ → Point
gen_run told history m processes = quietly history (run m MOST_RUN) (λ all. told.generated all processes)

-- what is still to be done before these inputs
abbrev pub gen_from : Told → List Record → Machine → List Input → ℕ → Point
gen_from told history m inputs processes slices =
    behind (event_commits m inputs) [] (gen_run told (history ++ records_from m inputs) (machine_from m inputs) processes slices)

abbrev pub generator_turn : Told → List Record → List ℕ → List ℕ → ℕ → Point
generator_turn told history image typed processes = gen_from told history (machine_of history) (gen_inputs image typed) processes
