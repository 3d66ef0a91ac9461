-- What is open, after a descriptor is closed.
use Rattle.std.specs.Prelude.{ℕ, Option, Some, None}
use Rattle.arn_model.specs.Kernel.{Kernel, dropped}

-- one descriptor fewer, of a description that there may be
abbrev pub dropped_if : Option ℕ → Kernel → Kernel
dropped_if None k = k
dropped_if (Some n) k = dropped n k
