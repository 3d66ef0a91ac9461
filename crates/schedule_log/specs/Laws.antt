-- What holds of fields.
use Rattle.std.specs.Prelude.{◌≡◌, ℕ, ◌<◌, ◌≤◌, ◌-◌, ◌^◌, Bool, List, ◌++◌, length, drop, slice_range, All}
use Rattle.schedule_log.specs.Fields.{counted, field, flag_field, named, IsCounted, IsName}
use Rattle.schedule_log.specs.Places.{Stands}

-- each item is a byte
abbrev pub AreBytes : List ℕ → Type 0
AreBytes xs = All (λ b. b < 256) xs

-- bytes begin with one number of a width
abbrev pub FieldOneWay : Type 0
FieldOneWay = (width m n : ℕ) (s t : List ℕ) → m < 256 ^ width → n < 256 ^ width
    → field width m ++ s ≡ field width n ++ t → (m ≡ n) × (s ≡ t)

-- bytes begin with one flag
abbrev pub FlagOneWay : Type 0
FlagOneWay = (a b : Bool) (s t : List ℕ) → flag_field a ++ s ≡ flag_field b ++ t → (a ≡ b) × (s ≡ t)

-- bytes begin with one list behind its length
abbrev pub CountedOneWay : Type 0
CountedOneWay = (a b s t : List ℕ) → IsCounted a → IsCounted b → counted a ++ s ≡ counted b ++ t → (a ≡ b) × (s ≡ t)

-- bytes begin with one name
abbrev pub NamedOneWay : Type 0
NamedOneWay = (a b s t : List ℕ) → IsName a → IsName b → named a ++ s ≡ named b ++ t → (a ≡ b) × (s ≡ t)

-- so many bytes are a number's
abbrev pub FieldSpelled : ℕ → Type 0
FieldSpelled width = (bytes : List ℕ) → AreBytes bytes → length bytes ≡ width
    → (n : ℕ) × ((n < 256 ^ width) × (bytes ≡ field width n))

-- what begins the bytes from a place on stands there
abbrev pub FrontStands : Type 0
FrontStands = (bytes front rest : List ℕ) (at : ℕ) → at ≤ length bytes → slice_range bytes at (length bytes) ≡ front ++ rest
    → Stands bytes at front (length bytes - length rest)

-- what stands at a place begins the bytes from there on
abbrev pub StandsInFront : Type 0
StandsInFront = (bytes front : List ℕ) (at next : ℕ) → Stands bytes at front next
    → slice_range bytes at (length bytes) ≡ front ++ drop next bytes
