-- What holds of records that are compared.
use Rattle.std.specs.Bool.{Decides}
use Rattle.std.specs.Prelude.{◌≡◌}
use Rattle.arn_base.specs.declared.records.Record.{Record}
use Rattle.record_match.specs.Differs.{same_record}

-- `==` tells of any two records whether they are the same
abbrev pub RecordsCompare : Type 0
RecordsCompare = (a b : Record) → Decides (same_record a b) (a ≡ b)
