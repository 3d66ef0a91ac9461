-- Bytes that were given, and where they came from.
use Rattle.std.specs.Prelude.{◌≡◌, ℕ, ◌*◌, ◌<◌, ◌^◌, List, ◌++◌, length, flat_map, All}
use Rattle.arn_base.specs.declared.records.Origin.{Origin}
use Rattle.arn_base.specs.declared.records.Give.{Give}
use Rattle.schedule_log.specs.declared.errors.GetError.{GetError}
use Rattle.schedule_log.specs.declared.errors.GetError.TheVariants as error
use Rattle.schedule_log.specs.Fields.{counted, field, IsCounted}
use Rattle.schedule_log.specs.Places.{Stands}
use Rattle.exchange_log.specs.declared.origins.TheConstants.{ORIGIN_LEN}

-- where a run of bytes came from: the event, the place and how many
abbrev pub origin_fields : Origin → List ℕ
origin_fields o = field 8 o.event ++ field 4 o.at ++ field 4 o.len

-- origins: how many they are, in four bytes, and each behind the one before
abbrev pub origins_fields : List Origin → List ℕ
origins_fields origins = field 4 (length origins) ++ flat_map origin_fields origins

-- bytes that were given, and their origins
abbrev pub give_fields : Give → List ℕ
give_fields g = counted g.bytes ++ origins_fields g.origins

-- bytes that were given and their origins have a spelling: they can be counted
abbrev pub GiveHasSpelling : Give → Type 0
GiveHasSpelling g = IsCounted g.bytes × IsCounted g.origins

-- each number of the origin fits its field
abbrev pub FitsOrigin : Origin → Type 0
FitsOrigin o = (o.event < 2 ^ 64) × (o.at < 2 ^ 32) × (o.len < 2 ^ 32)

-- the bytes begin with a count of origins, and with the fields of so many
pub record BeginsOrigins (bytes fields rest : List ℕ) : Type 0 where
  pub count : ℕ
  pub fits : count < 2 ^ 32
  pub is_whole : length fields ≡ ORIGIN_LEN * count
  pub is_bytes : bytes ≡ field 4 count ++ fields ++ rest

-- the bytes start with bytes that were given and their origins
pub record StartsGive (bytes : List ℕ) (g : Give) (rest : List ℕ) : Type 0 where
  pub has_spelling : GiveHasSpelling g
  pub fits : All FitsOrigin g.origins
  pub is_bytes : bytes ≡ give_fields g ++ rest

-- the bytes start with some bytes that were given and their origins
abbrev pub StartsSomeGive : List ℕ → Type 0
StartsSomeGive bytes = (g : Give) × ((rest : List ℕ) × StartsGive bytes g rest)

-- the bytes start with no bytes that were given and their origins
abbrev pub StartsNoGive : List ℕ → Type 0
StartsNoGive bytes = (g : Give) (rest : List ℕ) → ¬ StartsGive bytes g rest

-- the bytes from `at` to `next` are the spelling of the give
pub record ReadsGive (bytes : List ℕ) (at : ℕ) (g : Give) (next : ℕ) : Type 0 where
  pub has_spelling : GiveHasSpelling g
  pub fits : All FitsOrigin g.origins
  pub stands : Stands bytes at (give_fields g) next

-- a give is spelled at the place
abbrev pub IsSomeGive : List ℕ → ℕ → Type 0
IsSomeGive bytes at = (g : Give) × ((next : ℕ) × ReadsGive bytes at g next)

-- no give is spelled at the place
abbrev pub IsNoGive : List ℕ → ℕ → Type 0
IsNoGive bytes at = ¬ IsSomeGive bytes at

-- why no give was read at the place: none is spelled there; or memory ran out for one that is
abbrev pub IsCause : List ℕ → ℕ → GetError → Type 0
IsCause bytes at (error.Malformed place) = (place ≡ at) × IsNoGive bytes at
IsCause bytes at error.NoMemory = IsSomeGive bytes at

-- bytes begin with one give
abbrev pub GiveOneWay : Type 0
GiveOneWay = (a b : Give) (s t : List ℕ) → GiveHasSpelling a → GiveHasSpelling b
    → All FitsOrigin a.origins → All FitsOrigin b.origins → give_fields a ++ s ≡ give_fields b ++ t → (a ≡ b) × (s ≡ t)
