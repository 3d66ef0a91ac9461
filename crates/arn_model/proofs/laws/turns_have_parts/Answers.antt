use Rattle.arn_model.proofs.TurnParts.{turns-have-parts}
use Rattle.arn_model.proofs.laws.turns_have_parts.Goals as goal

pub returns : goal.returns
returns c = turns-have-parts
