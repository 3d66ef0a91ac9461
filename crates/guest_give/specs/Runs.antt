-- Origins as a place is added behind them.
use Rattle.std.specs.Prelude.{ℕ, zero, suc, ◌+◌, ◌==◌, ◌&&◌, Bool, if◌then◌else◌, List, [], ◌∷◌}
use Rattle.arn_base.specs.declared.records.Src.{Src}
use Rattle.arn_base.specs.declared.records.Origin.{Origin}
use Rattle.parts_model.specs.Tagged.{one_origin}

-- the place is the one behind those of the origin
abbrev pub goes_on : Origin → Src → Bool
goes_on o place = (o.event == place.event) && (o.at + o.len == place.at)

-- one run of all bytes of an event, if it has any
abbrev pub whole_run : ℕ → ℕ → List Origin
whole_run event zero = []
whole_run event (suc n) = record { event = event; at = 0; len = suc n } ∷ []

-- the last origin goes on with the place, or the place is one more
abbrev pub with_place : List Origin → Src → List Origin
with_place [] place = one_origin place ∷ []
with_place (o ∷ []) place = if goes_on o place then record o { len = o.len + 1 } ∷ [] else o ∷ one_origin place ∷ []
with_place (o ∷ next ∷ os) place = o ∷ with_place (next ∷ os) place
