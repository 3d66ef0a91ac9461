use Rattle.std.proofs.Common.{rules, ℕ, List, ◌∷◌, ap}
use Rattle.arn_base.specs.declared.records.Record.{Record}
use Rattle.arn_base.specs.declared.records.Record.TheVariants as entry
use Rattle.schedule_log.specs.Fields.{BeginsCounted}
use Rattle.result_log.specs.Pieces.{Starts}
use Rattle.result_log.proofs.Options.{OnErr-always}
use Rattle.result_log.proofs.Starting.{no-typed}
use Rattle.result_log.proofs.get.get_typed.Goals as goal

-- a typed piece's record stands there, whether or not there is memory for it
typed_stands : (bytes content rest : List ℕ) → BeginsCounted bytes content rest
    → (r : Record) × ((rest : List ℕ) × Starts (3 ∷ bytes) r rest)
typed_stands bytes content rest c =
    (entry.Typed content, (rest, record { has_spelling = c.is_counted; fits = tt; is_bytes = ap (λ xs. 3 ∷ xs) c.is_bytes }))

pub returns-in_err-bytes-clause-err : goal.returns-in_err-bytes-clause-err
returns-in_err-bytes-clause-err c =
    OnErr-always c.from_residual.result
    (typed_stands c.args.bytes.now c.in-Some.content.now c.in-Some.rest.now (search rules))

pub returns-in_default-clause-ok : goal.returns-in_default-clause-ok
returns-in_default-clause-ok c = no-typed c.args.bytes.now (search rules)
