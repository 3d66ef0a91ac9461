-- A slice of a group at hand, and what stands behind it before the next slice.
use Rattle.std.specs.Prelude.{◌≡◌, ◌≤◌, ◌+◌, ◌-◌, ℕ, min, nat_le, if◌then◌else◌, List, [], ◌∷◌, Option}
use Rattle.arn_base.specs.declared.records.Record.{Record}
use Rattle.arn_base.specs.declared.records.Record.TheVariants as entry
use Rattle.guest_bodies.specs.Shown.{Guests, IsLive}
use Rattle.history_index.specs.declared.slices.SliceAt.{SliceAt}
use Rattle.history_model.specs.Alone as alone
use Rattle.history_model.specs.Alone.{Own, Made, Makes}
use Rattle.history_model.specs.Groups.{group_of}
use Rattle.replay_steps.specs.Plain.{slice_of}
use Rattle.replay_steps.specs.declared.plain.Turn.{Turn}
use Rattle.replayer.specs.declared.parts.Part.{Part}

-- before its first instruction
abbrev pub part_of : ℕ → SliceAt → Part
part_of until s =
    record {
      turn = record { pid = s.pid; ran = s.ran; event = s.event; end_event = s.event };
      owed = min s.ran (until - s.moment);
      is_begun = nat_le s.moment until;
      is_ended = nat_le (s.moment + s.ran) until;
    }

-- what is owed behind a record
abbrev pub owed_after : Part → Record → ℕ
owed_after p (entry.Call pid number result more) = if p.is_ended then 0 else p.owed
owed_after p (entry.End pid status) = if p.is_ended then 0 else p.owed
owed_after p e = p.owed

-- which event ends the slice then, or would: behind a delivery the next one
abbrev pub end_after : Turn → Record → ℕ
end_after turn (entry.Signal pid signal cut handler) = turn.event + 1
end_after turn e = turn.end_event

-- behind a record
abbrev pub turn_after : Turn → Record → Turn
turn_after turn e = record { pid = turn.pid; ran = turn.ran; event = turn.event + 1; end_event = end_after turn e }

abbrev pub part_after : Part → Record → Part
part_after p e =
    record {
      turn = turn_after p.turn e;
      owed = owed_after p e;
      is_begun = p.is_begun;
      is_ended = p.is_ended;
    }

-- what a record makes
abbrev pub made_after : Part → Record → Own → Made
made_after p (entry.Signal pid signal cut handler) own =
    alone.made_if p.is_begun (Makes own) (alone.happens pid p.turn.event (entry.Signal pid signal cut handler))
made_after p (entry.Call pid number result more) own =
    alone.made_if p.is_ended (Makes own) (alone.ends_slice (slice_of p.turn) p.owed (entry.Call pid number result more))
made_after p (entry.End pid status) own = alone.made_if p.is_ended (Makes own) (alone.ends_slice (slice_of p.turn) p.owed (entry.End pid status))
made_after p e own = Makes own

-- what all of them make, and the instructions that are owed then
abbrev pub part_made : Part → List Record → Own → Made
part_made p [] own = alone.plains (slice_of p.turn) 0 p.owed own
part_made p (entry.Slice pid ran ∷ entries) own = alone.plains (slice_of p.turn) 0 p.owed own
part_made p (e ∷ entries) own = alone.and_then (made_after p e own) (part_made (part_after p e) entries)

-- how many stand before the next slice
abbrev pub part_len : List Record → ℕ
part_len [] = 0
part_len (entry.Slice pid ran ∷ entries) = 0
part_len (e ∷ entries) = part_len entries + 1

-- who lives has a number up to this one, and is of this group
pub record LivesIn (entries : List Record) (group : Option ℕ) (most : ℕ) (guests : Guests) : Type 0 where
  pub below : (p : ℕ) → IsLive guests p → p ≤ most
  pub member : (p : ℕ) → IsLive guests p → group_of entries p ≡ group
