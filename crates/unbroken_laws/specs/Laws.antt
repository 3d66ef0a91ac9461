-- That the records of a run can be indexed.
use Rattle.std.specs.Prelude.{◌≡◌, List, None}
use Rattle.arn_model.specs.Run.{Input, machine_after}
use Rattle.arn_model.specs.Tells.{HasNumbers}
use Rattle.history_model.specs.Broken.{first_broken}
use Rattle.log_model.specs.Records.{records}

-- each record of a run can stand behind those before it
abbrev pub RunsAreUnbroken : Type 0
RunsAreUnbroken = (inputs : List Input) → HasNumbers (machine_after inputs).kernel → first_broken (records inputs) ≡ None
