use Rattle.taint_laws.proofs.Fold.{alone-followed}
use Rattle.taint_laws.proofs.law.follows_holders.Goals as goal

pub returns : goal.returns
returns c = λ entries g moment own broken whole is. alone-followed c.instructions_keep_lengths.ensures entries g moment own broken whole is
