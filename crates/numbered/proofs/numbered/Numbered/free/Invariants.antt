use Rattle.std.proofs.Common.{◌<◌, ℕ, IsSome}
use Rattle.parts_model.specs.Numbered.{nth}
use Rattle.numbered.proofs.numbered.Numbered.free.Given as goal

abbrev pub invariant-loop-number : goal.invariant-loop-number
invariant-loop-number g l = (n : ℕ) → n < l.number → IsSome (nth l.self-inside.items.items n)
