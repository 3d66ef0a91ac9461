-- A group alone, from those records alone that are its own: the event that begins it, and its slices with what stands behind each.
use Rattle.std.specs.Prelude.{◌≡◌, ℕ, ◌+◌, nat_le, if◌then◌else◌, List, [], ◌∷◌, drop, Option, Some, None}
use Rattle.arn_base.specs.declared.records.Record.{Record}
use Rattle.arn_base.specs.declared.records.Record.TheVariants as entry
use Rattle.history_index.specs.declared.slices.SliceAt.{SliceAt}
use Rattle.history_index.specs.Lookups.{event_moment, founding_event, slices_of}
use Rattle.history_model.specs.Alone as alone
use Rattle.history_model.specs.Alone.{Made, Makes, Standing, nothing_own, at_first, settled}
use Rattle.history_model.specs.Broken.{first_broken}
use Rattle.history_model.specs.Events.{event_at}
use Rattle.history_model.specs.Groups.{Groups}

-- each process is of the group
abbrev pub own_groups : ℕ → Groups
own_groups g p = Some g

-- a record behind a slice of the group
abbrev pub after_own : ℕ → ℕ → Standing → Record → Standing
after_own g until t e = record (alone.after_record g until t e) { groups = t.groups }

-- those that stand before the next slice
abbrev pub after_part : ℕ → ℕ → Standing → List Record → Standing
after_part g until t [] = t
after_part g until t (entry.Slice pid ran ∷ entries) = t
after_part g until t (e ∷ entries) = after_part g until (after_own g until t e) entries

-- where a slice of the group begins, with this made before
abbrev pub before_slice : ℕ → Made → SliceAt → Standing
before_slice g made s = record at_first { made = made; groups = own_groups g; events = s.event; moment = s.moment }

-- what is made with a slice of the group
abbrev pub with_slice : ℕ → ℕ → List Record → Made → SliceAt → Made
with_slice g until entries made s =
    settled (after_part g until (alone.after_slice g until s.pid s.ran (before_slice g made s)) (drop (s.place + 1) entries))

-- with one after the other
abbrev pub with_slices : ℕ → ℕ → List Record → Made → List SliceAt → Made
with_slices g until entries made [] = made
with_slices g until entries made (s ∷ slices) = with_slices g until entries (with_slice g until entries made s) slices

-- what the event makes that begins the group
abbrev pub first_made : ℕ → ℕ → Record → Made
first_made g event (entry.Boot name give) = alone.boots event (entry.Boot name give) nothing_own
first_made g event e = alone.begins_by g event e nothing_own

-- if it comes before the moment
abbrev pub first_made_if : ℕ → ℕ → ℕ → Option ℕ → Option Record → Made
first_made_if g until event (Some moment) (Some e) = if nat_le moment until then first_made g event e else Makes nothing_own
first_made_if g until event moment e = Makes nothing_own

abbrev pub first_of : ℕ → ℕ → List Record → Option ℕ → Made
first_of g until entries None = Makes nothing_own
first_of g until entries (Some event) = first_made_if g until event (event_moment entries event) (event_at entries event)

abbrev pub by_slices : List Record → ℕ → ℕ → Made
by_slices entries g until = with_slices g until entries (first_of g until entries (founding_event entries g)) (slices_of entries g)

-- a group alone is made so
abbrev pub AloneBySlices : Type 0
AloneBySlices =
    (entries : List Record) (g until : ℕ) → first_broken entries ≡ None → alone.alone entries g until ≡ by_slices entries g until
