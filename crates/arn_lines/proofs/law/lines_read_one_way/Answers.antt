use Rattle.arn_lines.proofs.OneWay.{Reads-same}
use Rattle.arn_lines.proofs.law.lines_read_one_way.Goals as goal

pub returns : goal.returns
returns c = Reads-same
