use Rattle.std.proofs.Common.{length}
use Rattle.host_disk.proofs.Unchanged.{Torn-self}
use Rattle.host_disk.proofs.file_disk.FileDiskDisk.write.Goals as goal

pub returns-clause-crash : goal.returns-clause-crash
returns-clause-crash g c = λ bytes left. (bytes, tt, Torn-self bytes c.args.at (length c.args.bytes.now))
