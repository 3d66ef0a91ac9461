use Rattle.window_laws.proofs.Lengths.{instr-lengths, read-few, with-lengths}
use Rattle.window_laws.proofs.law.instructions_keep_lengths.Goals as goal

pub returns : goal.returns
returns c = record { instructions = instr-lengths; writes = with-lengths; reads = read-few }
