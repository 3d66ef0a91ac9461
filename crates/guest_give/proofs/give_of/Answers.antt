use Rattle.std.proofs.Common.{length, map, ap, arith}
use Rattle.std.proofs.lemmas.List.{length-map}
use Rattle.guest_give.proofs.RunForms.{origins_of-few}
use Rattle.guest_give.proofs.give_of.Goals as goal

pub returns-clause-few_origins : goal.returns-clause-few_origins
returns-clause-few_origins c =
    omega (arith, ap length c.in_ok-origins.ensures, origins_of-few (map (λ byte. byte.origin) c.args.held.now), length-map c.args.held.now (λ byte. byte.origin))
