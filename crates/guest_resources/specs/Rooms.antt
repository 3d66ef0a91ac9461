-- How many descriptors more can stand for descriptions.
use Rattle.std.specs.Prelude.{ℕ, ◌+◌, ◌^◌, nat_lt, Bool, true, List, length, Option, Some, None}
use Rattle.std.specs.List.{list_all}
use Rattle.parts_model.specs.Numbered.{nth}
use Rattle.arn_model.specs.Kernel.{Opened}

-- so many more can stand for a description that there may be
abbrev pub fits : ℕ → Option Opened → Bool
fits count None = true
fits count (Some o) = nat_lt (o.descriptors + count) (2 ^ 32)

-- for that of a descriptor that may be open
abbrev pub has_room : ℕ → List (Option Opened) → Option ℕ → Bool
has_room count all None = true
has_room count all (Some n) = fits count (nth all n)

-- for each of these as many as they are
abbrev pub have_room : List (Option ℕ) → List (Option Opened) → Bool
have_room descriptors all = list_all (has_room (length descriptors) all) descriptors
