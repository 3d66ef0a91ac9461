-- What numbers have, where a `&mut` to the value of one is returned.
use Rattle.std.specs.Prelude.{ℕ, List, Option, Some, slice_set}
use Rattle.std.specs.Borrow.{Lends, Fml, RattleType, MutBor}
use Rattle.numbered.specs.contracts.numbered.Numbered.{the_row}

module _ (T : RattleType) (s : MutBor (List (Option T.Denot))) (number : ℕ) where
  -- once the borrow r ends, the number has the last value written through r
  abbrev pub lends_value : MutBor T.Denot → Fml
  lends_value r = Lends (the_row T) T s r (λ value. slice_set s.now number (Some value))
