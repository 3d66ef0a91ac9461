use Rattle.exchange_log.proofs.OneWay.{give-one}
use Rattle.exchange_log.proofs.law.gives_spelled_one_way.Goals as goal

pub returns : goal.returns
returns c = give-one c.fields_spelled_one_way.ensures.field c.fields_spelled_one_way.ensures.counted
