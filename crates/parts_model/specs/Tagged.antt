-- Tagged bytes: each with the event byte that last wrote it, its origin.
use Rattle.std.specs.Prelude.{ℕ, ◌+◌, ◌==◌, ◌&&◌, Bool, if◌then◌else◌, List, [], ◌∷◌, map}
use Rattle.arn_base.specs.declared.records.Src.{Src}
use Rattle.arn_base.specs.declared.records.Origin.{Origin}
use Rattle.arn_base.specs.declared.records.Give.{Give}
use Rattle.parts_model.specs.declared.tagged.TaggedByte.{TaggedByte}

-- bytes of one event, the first of them byte `at`
abbrev pub held_from : ℕ → ℕ → List ℕ → List TaggedByte
held_from event at [] = []
held_from event at (b ∷ bytes) = record { value = b; origin = record { event = event; at = at } } ∷ held_from event (at + 1) bytes

-- the bytes of an event
abbrev pub held_bytes : ℕ → List ℕ → List TaggedByte
held_bytes event bytes = held_from event 0 bytes

-- the bytes without their origins
abbrev pub values : List TaggedByte → List ℕ
values held = map (λ h. h.value) held

-- the place is the one before the origin's first
abbrev pub comes_before : Src → Origin → Bool
comes_before place o = (place.event == o.event) && (place.at + 1 == o.at)

-- an origin of one byte
abbrev pub one_origin : Src → Origin
one_origin place = record { event = place.event; at = place.at; len = 1 }

-- a place in front of origins: neighbours of one event whose places follow each other are one origin
abbrev pub onto_origins : Src → List Origin → List Origin
onto_origins place [] = one_origin place ∷ []
onto_origins place (o ∷ os) =
    if comes_before place o then record { event = place.event; at = place.at; len = o.len + 1 } ∷ os else one_origin place ∷ o ∷ os

-- the places of bytes as the longest runs
abbrev pub origins_of : List Src → List Origin
origins_of [] = []
origins_of (place ∷ places) = onto_origins place (origins_of places)

-- received bytes with their origins
abbrev pub given : List TaggedByte → Give
given held = record { bytes = values held; origins = origins_of (map (λ h. h.origin) held) }
