-- The bytes that the generator types.
use Rattle.std.specs.Prelude.{ℕ, List}
use Rattle.rand_core.specs.Steps.{fill_via_u32}
use Rattle.rand_pcg.specs.Lcg.{increment_of, started}
use Rattle.rand_pcg.specs.Pcg.{multiplier_64, pcg32}
use Rattle.generator.specs.declared.typing.TheConstants.{MANY_TYPED}

-- the words of the PCG32 of stream 1 that begins with a seed, each as four bytes, the lowest first
unfoldable pub typed_bytes : ℕ → List ℕ
typed_bytes seed = (fill_via_u32 pcg32 MANY_TYPED (started 64 multiplier_64 seed (increment_of 64 1))).0
