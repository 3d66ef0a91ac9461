-- Things by number, in the order of their making, from 0 on. One that nothing reaches any more is none, and its number isn't given again.
use Rattle.std.specs.Prelude.{ℕ, zero, suc, List, Option, None, is_some, option_and_then, slice_get, slice_set, count_by}

-- thing n, if it is there
abbrev pub nth : {A : Type 0} → List (Option A) → ℕ → Option A
nth things n = option_and_then (λ thing. thing) (slice_get things n)

-- thing n, where they are numbered from 1 on
abbrev pub nth_from_one : {A : Type 0} → List (Option A) → ℕ → Option A
nth_from_one things zero = None
nth_from_one things (suc i) = nth things i

-- another thing n; there is no thing 0
abbrev pub with_nth_from_one : {A : Type 0} → List (Option A) → ℕ → Option A → List (Option A)
with_nth_from_one things zero thing = things
with_nth_from_one things (suc i) thing = slice_set things i thing

-- how many are there
abbrev pub how_many : {A : Type 0} → List (Option A) → ℕ
how_many things = count_by is_some things
