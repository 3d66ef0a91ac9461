-- Clauses on an `Option` or a `Result`.
use Rattle.std.specs.Prelude.{Result, Ok, Err, OnErr}

-- what holds anyway holds after an error
pub OnErr-always : {T E P : Type 0} (r : Result T E) → P → OnErr r P
OnErr-always (Ok x) h = tt
OnErr-always (Err e) h = h
