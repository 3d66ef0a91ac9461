use Rattle.std.proofs.Common.{refl}
use Rattle.arn_model.specs.Run.{machine_after}
use Rattle.guest_legs.proofs.NamedLemmas.{as-named}
use Rattle.guest_legs.proofs.law.legs_as_named.Goals as goal

pub returns : goal.returns
returns c inputs left entries slices are =
    as-named c.named_append.ensures.named c.named_append.ensures.begin c.slices_are_named.ensures inputs (record { machine = machine_after inputs; left = left; entries = entries }) refl slices are
