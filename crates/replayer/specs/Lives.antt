-- Who lives.
use Rattle.std.specs.Prelude.{ℕ, List, filter, length, is_some}
use Rattle.std.specs.List.{range_with_len}
use Rattle.parts_model.specs.Numbered.{nth}
use Rattle.guest_bodies.specs.Shown.{Guests}

-- the numbers of the live processes, rising
abbrev pub live_in : Guests → List ℕ
live_in guests = filter (λ p. is_some (nth guests p)) (range_with_len 0 (length guests))
