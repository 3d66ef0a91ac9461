use Rattle.replay_laws.proofs.TellsEvents.{events-told}
use Rattle.replay_laws.proofs.tells.records_tell_events.Goals as goal

pub returns : goal.returns
returns c = events-told c.turns_have_parts.ensures
