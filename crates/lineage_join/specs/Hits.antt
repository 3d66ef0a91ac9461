-- A pair in the order in which pairs are found.
use Rattle.std.specs.Prelude.{◌↔◌, List, Contains}
use Rattle.arn_base.specs.declared.records.Pair.{Pair}
use Rattle.lineage_join.specs.declared.found.Hit.{Hit}

abbrev pub pair_of : Hit → Pair
pair_of hit = record { event = hit.event; at = hit.at; byte = hit.byte }

-- they have the same members, in whatever order and however often
abbrev pub HaveSameHits : List Hit → List Hit → Type 0
HaveSameHits old new = (hit : Hit) → Contains new hit ↔ Contains old hit
