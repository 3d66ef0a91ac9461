use Rattle.std.proofs.Common.{refl}
use Rattle.generator.specs.Program.{rest}
use Rattle.generator.proofs.programs.rest.Goals as goal

pub returns : goal.returns
unfolding rest
returns c = refl
