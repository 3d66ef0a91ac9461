-- A second number out of range is none that the line may say.
use Rattle.std.proofs.Common.{arith}
use Rattle.arn_lines.proofs.GenWords.{IsGen-numbers, IsGen-read}
use Rattle.arn_lines.proofs.grammar.generated.Goals as goal

pub returns-in_err-seed-clause-none : goal.returns-in_err-seed-clause-none
returns-in_err-seed-clause-none c =
    rw c.from_residual-in_err-seed.ensures
    (λ seed processes gen.
    c.in_err-seed.ensures.none seed processes (IsGen-numbers c.args.text.now c.in_ok-after.field-0.now seed processes c.in_ok-after.ensures.some gen))

pub returns-in_default-clause-none : goal.returns-in_default-clause-none
returns-in_default-clause-none c seed processes gen =
    let same = IsGen-read c.args.text.now c.in_ok-after.field-0.now c.in_ok-seed.seed seed c.in_ok-seed.processes processes c.in_ok-after.ensures.some c.in_ok-seed.ensures.some gen in
    omega (arith, same.1, gen.at_least, gen.at_most)

pub returns-in_default-2-clause-none : goal.returns-in_default-2-clause-none
returns-in_default-2-clause-none c seed processes gen =
    let same = IsGen-read c.args.text.now c.in_ok-after.field-0.now c.in_ok-seed.seed seed c.in_ok-seed.processes processes c.in_ok-after.ensures.some c.in_ok-seed.ensures.some gen in
    omega (arith, same.1, gen.at_least, gen.at_most)
