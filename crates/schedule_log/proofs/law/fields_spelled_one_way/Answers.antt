use Rattle.schedule_log.proofs.OneWay.{counted-one, field-one, flag-one, named-one}
use Rattle.schedule_log.proofs.Fronts.{field-spelled-2, field-spelled-4, field-spelled-8}
use Rattle.schedule_log.proofs.Placed.{front-stands, stands-in-front}
use Rattle.schedule_log.proofs.law.fields_spelled_one_way.Goals as goal

pub returns-clause-field : goal.returns-clause-field
returns-clause-field c = field-one

pub returns-clause-flag : goal.returns-clause-flag
returns-clause-flag c = flag-one

pub returns-clause-counted : goal.returns-clause-counted
returns-clause-counted c = counted-one

pub returns-clause-named : goal.returns-clause-named
returns-clause-named c = named-one

pub returns-clause-two : goal.returns-clause-two
returns-clause-two c = field-spelled-2

pub returns-clause-four : goal.returns-clause-four
returns-clause-four c = field-spelled-4

pub returns-clause-eight : goal.returns-clause-eight
returns-clause-eight c = field-spelled-8

pub returns-clause-stands : goal.returns-clause-stands
returns-clause-stands c = front-stands

pub returns-clause-front : goal.returns-clause-front
returns-clause-front c = stands-in-front
