use Rattle.std.proofs.Common.{◌≡◌}
use Rattle.elf_image.specs.Elf.{has_headers}
use Rattle.elf_image.proofs.Accepted.{is_static_at}
use Rattle.elf_image.proofs.Ranges.{all_between}
use Rattle.elf_image.proofs.parse.has_headers.Given as goal

abbrev pub invariant-loop-n : goal.invariant-loop-n
invariant-loop-n l = all_between (is_static_at l.bytes) l.n l.elf.count ≡ has_headers l.bytes
