use Rattle.history_model.specs.Events.{event_at}
use Rattle.lineage_join.proofs.Stands.{item-stands}
use Rattle.lineage_join.proofs.law.numbers_stand.Goals as goal

pub returns : goal.returns
returns c = λ entries reaching byte there. item-stands (event_at entries) reaching byte.event byte.at there
