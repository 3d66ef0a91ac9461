-- What is kept of a line grows by the bytes that fit.
use Rattle.std.proofs.Common.{arith}
use Rattle.arn_commands.proofs.ReaderLemmas.{IsKept-more}
use Rattle.arn_commands.proofs.reader.keep.Goals as goal

pub returns-clause-kept : goal.returns-clause-kept
returns-clause-kept c = λ whole kept. IsKept-more whole _ _ _ c.min-fits.result (omega arith) c.in_ok-extend_from_slice.ensures.items kept
