use Rattle.std.proofs.Common.{◌∙◌, ap, option_map, set, List, Option}
use Rattle.std.proofs.lemmas.List.{map-set}
use Rattle.arn_model.specs.Kernel.{Opened}
use Rattle.guest_resources.specs.Opened.{opened_of}
use Rattle.guest_resources.proofs.descriptions.Descriptions.put.Goals as goal

pub returns : goal.returns
returns c =
    map-set (option_map opened_of) c.self.inside.all.items c.args.number c.args.opened ∙ ap (λ (l : List (Option Opened)). set l c.args.number (option_map opened_of c.args.opened)) c.self.view_is
