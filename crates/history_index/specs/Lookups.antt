-- Where events and slices stand among the records of a history, and which processes and groups there are.
use Rattle.std.specs.Prelude.{ℕ, ◌+◌, Bool, if◌then◌else◌, List, [], ◌∷◌, filter, Option, None, position, slice_get}
use Rattle.std.specs.List.{range_with_len}
use Rattle.arn_base.specs.declared.records.Record.{Record}
use Rattle.arn_base.specs.declared.records.Record.TheVariants as entry
use Rattle.acts_model.specs.Records.{is_event}
use Rattle.history_model.specs.Broken.{greatest}
use Rattle.history_model.specs.Events.{events}
use Rattle.history_model.specs.Groups.{group_of, groups_told, is_number}
use Rattle.history_model.specs.Moments.{ran_in}
use Rattle.history_index.specs.declared.slices.SliceAt.{SliceAt}

-- an element that is there where the test holds
abbrev pub if_kept : {A : Type 0} → Bool → A → List A → List A
if_kept test x xs = if test then x ∷ xs else xs

-- the numbers of the records of events, of records numbered from one on
abbrev pub places_from : ℕ → List Record → List ℕ
places_from place [] = []
places_from place (e ∷ entries) = if_kept (is_event e) place (places_from (place + 1) entries)

-- the number of the record of event n
abbrev pub event_place : List Record → ℕ → Option ℕ
event_place entries n = slice_get (places_from 0 entries) n

-- the moment at which the slice at hand begins
abbrev pub begin_after : ℕ → ℕ → Record → ℕ
begin_after begins ends (entry.Slice pid ran) = ends
begin_after begins ends other = begins

-- a delivery comes before its slice's instructions, and every other event behind those before it
abbrev pub moment_in : ℕ → ℕ → Record → ℕ
moment_in begins ends (entry.Signal pid signal cut handler) = begins
moment_in begins ends other = ends

-- the moments of events, where the slice at hand begins and ends at these
abbrev pub moments_from : ℕ → ℕ → List Record → List ℕ
moments_from begins ends [] = []
moments_from begins ends (e ∷ entries) =
    if_kept (is_event e) (moment_in begins ends e) (moments_from (begin_after begins ends e) (ends + ran_in e) entries)

-- the moment of event n
abbrev pub event_moment : List Record → ℕ → Option ℕ
event_moment entries n = slice_get (moments_from 0 0 entries) n

-- how many events a record tells
abbrev pub events_in : Record → ℕ
events_in e = if is_event e then 1 else 0

-- a slice, behind so many records, instructions and events
abbrev pub slice_in : ℕ → ℕ → ℕ → Record → List SliceAt → List SliceAt
slice_in place moment event (entry.Slice pid ran) slices =
    record { place = place; moment = moment; pid = pid; ran = ran; event = event } ∷ slices
slice_in place moment event other slices = slices

-- the slices of records that come behind so many records, instructions and events
abbrev pub slices_from : ℕ → ℕ → ℕ → List Record → List SliceAt
slices_from place moment event [] = []
slices_from place moment event (e ∷ entries) =
    slice_in place moment event e (slices_from (place + 1) (moment + ran_in e) (event + events_in e) entries)

-- the slices of a group's processes, in order
abbrev pub slices_of : List Record → ℕ → List SliceAt
slices_of entries group = filter (λ slice. is_number group (group_of entries slice.pid)) (slices_from 0 0 0 entries)

-- the processes of a history, in order of number
abbrev pub processes_in : List Record → List ℕ
processes_in entries = range_with_len 1 (greatest entries)

-- the processes of a group, in order of number
abbrev pub members_of : List Record → ℕ → List ℕ
members_of entries group = filter (λ pid. is_number group (group_of entries pid)) (processes_in entries)

-- the groups, in order of number: each has the number of the process that started it
abbrev pub groups_in : List Record → List ℕ
groups_in entries = filter (λ pid. is_number pid (group_of entries pid)) (processes_in entries)

-- whether a record by itself makes the first process of a group
abbrev pub founds : ℕ → Record → Bool
founds group e = is_number group (groups_told e (λ pid. None) group)

-- the event by which a group begins: the boot, or a fork of which it has the child's number
abbrev pub founding_event : List Record → ℕ → Option ℕ
founding_event entries group = position (founds group) (events entries)
