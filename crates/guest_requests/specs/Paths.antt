-- What a call with a path comes to.
use Rattle.std.specs.Prelude.{ℕ, Option, Some, None}
use Rattle.arn_model.specs.Doing.{Request, returns}
use Rattle.arn_model.specs.Kernel.{Machine}

-- it has a result, or it goes on
abbrev pub goes_on_by : Option ℕ → Machine → Request → Request
goes_on_by None m goes_on = goes_on
goes_on_by (Some answer) m goes_on = returns answer m.kernel
