use Rattle.result_log.proofs.Places.{reads-bytes, reads-one, reads-to-its-end, spelled-where-read}
use Rattle.result_log.proofs.Records.{record-one}
use Rattle.result_log.proofs.law.records_spelled_one_way.Goals as goal

pub returns-clause-spelled : goal.returns-clause-spelled
returns-clause-spelled c =
    let fields = c.fields_spelled_one_way.ensures in
    record-one fields.field fields.flag fields.counted fields.named c.gives_spelled_one_way.ensures

pub returns-clause-read : goal.returns-clause-read
returns-clause-read c =
    let fields = c.fields_spelled_one_way.ensures in
    reads-one (record-one fields.field fields.flag fields.counted fields.named c.gives_spelled_one_way.ensures)

pub returns-clause-as_spelled : goal.returns-clause-as_spelled
returns-clause-as_spelled c = spelled-where-read

pub returns-clause-goes_on : goal.returns-clause-goes_on
returns-clause-goes_on c = reads-bytes

pub returns-clause-to_its_end : goal.returns-clause-to_its_end
returns-clause-to_its_end c = reads-to-its-end
