-- How far a group has come at a moment: which of its own records come up to it.
use Rattle.std.specs.Prelude.{ℕ, ◌+◌, ◌-◌, min, ◌==◌, ◌&&◌, nat_le, nat_lt, not, Bool, true, false, List, [], ◌∷◌, drop, filter, length, Option, Some, None, option_and_then, slice_get}
use Rattle.arn_base.specs.declared.records.Record.{Record}
use Rattle.arn_base.specs.declared.records.Record.TheVariants as entry
use Rattle.history_index.specs.Lookups.{event_moment, founding_event, slices_of}
use Rattle.history_index.specs.declared.slices.SliceAt.{SliceAt}
use Rattle.group_extents.specs.declared.extent.Extent.{Extent}

-- a moment that there may be comes up to this one
abbrev pub comes_by : ℕ → Option ℕ → Bool
comes_by until None = false
comes_by until (Some moment) = nat_le moment until

-- the event by which a group begins has happened by a moment
abbrev pub is_begun : List Record → ℕ → ℕ → Bool
is_begun entries g until = comes_by until (option_and_then (event_moment entries) (founding_event entries g))

-- a delivery stands first among records
abbrev pub delivers : List Record → Bool
delivers [] = false
delivers (entry.Signal pid signal cut handler ∷ entries) = true
delivers (e ∷ entries) = false

-- a slice that begins just at the moment does nothing up to it, where it runs instructions and no delivery stands at its begin
abbrev pub is_idle : List Record → ℕ → SliceAt → Bool
is_idle entries until s = (s.moment == until) && (nat_lt 0 s.ran && not (delivers (drop (s.place + 1) entries)))

-- a slice begins up to a moment, and may do something up to it
abbrev pub is_felt : List Record → ℕ → SliceAt → Bool
is_felt entries until s = nat_le s.moment until && not (is_idle entries until s)

-- the slices of a group that may do something up to a moment
abbrev pub felt : List Record → ℕ → ℕ → List SliceAt
felt entries g until = filter (is_felt entries until) (slices_of entries g)

-- the last of slices, if there are any
abbrev pub last_of : List SliceAt → Option SliceAt
last_of slices = slice_get slices (length slices - 1)

-- how many instructions of the last of slices come before a moment
abbrev pub owed_of : ℕ → Option SliceAt → ℕ
owed_of until None = 0
owed_of until (Some s) = min s.ran (until - s.moment)

-- how many events of its own process come first behind a slice: deliveries, and a call or an end behind these
abbrev pub own_len : List Record → ℕ
own_len [] = 0
own_len (entry.Signal pid signal cut handler ∷ entries) = own_len entries + 1
own_len (entry.Call pid number result more ∷ entries) = 1
own_len (entry.End pid status ∷ entries) = 1
own_len (e ∷ entries) = 0

-- how many stand behind the last of slices, if there are any
abbrev pub behind_of : List Record → Option SliceAt → ℕ
behind_of entries None = 0
behind_of entries (Some s) = own_len (drop (s.place + 1) entries)

-- how far a group has come at a moment
abbrev pub extent_of : List Record → ℕ → ℕ → Extent
extent_of entries g until =
    record {
      is_begun = is_begun entries g until;
      slices = length (felt entries g until);
      owed = owed_of until (last_of (felt entries g until));
      behind = behind_of entries (last_of (felt entries g until));
    }
