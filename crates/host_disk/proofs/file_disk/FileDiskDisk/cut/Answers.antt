use Rattle.host_disk.proofs.Unchanged.{Cut-self}
use Rattle.host_disk.proofs.file_disk.FileDiskDisk.cut.Goals as goal

pub returns-clause-crash : goal.returns-clause-crash
returns-clause-crash g c = λ bytes left. (bytes, tt, Cut-self bytes c.args.len)
