use Rattle.std.proofs.Common.{rules, ℕ, List, ◌∷◌}
use Rattle.arn_base.specs.declared.records.Record.{Record}
use Rattle.arn_base.specs.declared.records.Record.TheVariants as entry
use Rattle.schedule_log.specs.Fields.{BeginsCounted, BeginsNamed}
use Rattle.result_log.specs.Pieces.{Starts}
use Rattle.result_log.proofs.Starting.{file-starts, no-file-by-bytes, no-file-by-name}
use Rattle.result_log.proofs.Options.{OnErr-always}
use Rattle.result_log.proofs.get.get_file.Goals as goal

-- a file's record stands there, whether or not there is memory for it
file_stands : (bytes name behind content rest : List ℕ) → BeginsNamed bytes name behind → BeginsCounted behind content rest
    → (r : Record) × ((rest : List ℕ) × Starts (1 ∷ bytes) r rest)
file_stands bytes name behind content rest n c =
    (entry.File name content, (rest, file-starts bytes name behind content rest n c))

pub returns-in_default-split_counted-clause-ok : goal.returns-in_default-split_counted-clause-ok
returns-in_default-split_counted-clause-ok c =
    no-file-by-bytes c.args.bytes.now c.in-Some.name.now c.in-Some.behind.now (search rules) (search rules)

pub returns-in_err-name-clause-err : goal.returns-in_err-name-clause-err
returns-in_err-name-clause-err c =
    OnErr-always c.from_residual.result
    (file_stands c.args.bytes.now c.in-Some.name.now c.in-Some.behind.now c.in-Some-split_counted.content.now c.in-Some-split_counted.rest.now (search rules) (search rules))

pub returns-in_err-bytes-clause-err : goal.returns-in_err-bytes-clause-err
returns-in_err-bytes-clause-err c =
    OnErr-always c.from_residual-in_err-bytes.result
    (file_stands c.args.bytes.now c.in-Some.name.now c.in-Some.behind.now c.in-Some-split_counted.content.now c.in-Some-split_counted.rest.now (search rules) (search rules))

pub returns-in_default-clause-ok : goal.returns-in_default-clause-ok
returns-in_default-clause-ok c = no-file-by-name c.args.bytes.now (search rules)

pub returns-clause-ok : goal.returns-clause-ok
returns-clause-ok c =
    rw (c.in_ok-name.ensures, c.in_ok-bytes.ensures)
    (file-starts c.args.bytes.now c.in-Some.name.now c.in-Some.behind.now c.in-Some-split_counted.content.now c.in-Some-split_counted.rest.now c.in-Some.ensures.some c.in-Some-split_counted.ensures.some)
