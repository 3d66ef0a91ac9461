-- Choices of a seeded generator: one word is the index, the next modulo 1,000 plus 1 is the count.
use Rattle.std.specs.Prelude.{◌≡◌, ℕ, zero, suc, ◌+◌, ◌%◌, refl}
use Rattle.std.proofs.Common.{add-one}
use Rattle.arn_base.specs.declared.boxes.Choice.{Choice}
use Rattle.rand_pcg.specs.Lcg.{Lcg}
use Rattle.rand_pcg.specs.Pcg.{pcg32}

-- the choice at a state of the generator
unfoldable pub choice_at : Lcg → Choice
choice_at g = record { index = (pcg32 g).0; count = (pcg32 (pcg32 g).1).0 % 1000 + 1 }

-- the state after that choice
unfoldable pub after_choice : Lcg → Lcg
after_choice g = (pcg32 (pcg32 g).1).1

-- the state after k choices
abbrev pub after_choices : Lcg → ℕ → Lcg
after_choices g zero = g
after_choices g (suc k) = after_choices (after_choice g) k

pub after_choices-more : (g : Lcg) (k : ℕ) → after_choices (after_choice g) k ≡ after_choices g (k + 1)
after_choices-more g k = rw (add-one k) refl
