-- Differences at literal records.
use Rattle.std.proofs.Common.{[], ◌∷◌, None, Some, refl}
use Rattle.arn_base.specs.declared.records.Record.TheVariants as entry
use Rattle.record_match.specs.Differs.{IsFirstDifference}

-- the second of two records was typed otherwise: behind its kind and its length
other_byte : IsFirstDifference (entry.End 1 0 ∷ entry.Typed (7 ∷ 0 ∷ []) ∷ []) (entry.End 1 0 ∷ entry.Typed (7 ∷ 1 ∷ []) ∷ [])
    (record { place = 1; at = 6; said = Some 0; found = Some 1 })
other_byte = record {
  same_before = refl;
  differ = λ same. cc;
  same_bytes = refl;
  said_byte = refl;
  found_byte = refl;
  bytes_differ = λ same. cc;
}

-- a record is missing
missing : IsFirstDifference [] (entry.Slice 1 4 ∷ []) (record { place = 0; at = 0; said = None; found = Some 5 })
missing = record {
  same_before = refl;
  differ = λ same. cc;
  same_bytes = refl;
  said_byte = refl;
  found_byte = refl;
  bytes_differ = λ same. cc;
}
