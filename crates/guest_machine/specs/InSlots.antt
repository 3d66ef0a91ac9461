-- A leg whose devices are in slots: what these gave and took is what its records say.
use Rattle.std.specs.Prelude.{◌≡◌, ℕ, List, ◌++◌, map, Option}
use Rattle.arn_base.specs.declared.boxes.Choice.{Choice}
use Rattle.arn_base.specs.declared.boxes.Device.{Ghosts}
use Rattle.arn_base.specs.declared.records.Record.{Record}
use Rattle.log_model.specs.Records.{records_from}
use Rattle.guest_legs.specs.Legs.{Going, Picked, asks_by, input_of}
use Rattle.guest_legs.specs.declared.leg.Leg.{Leg}
use Rattle.guest_machine.specs.Legs.{IsCutLeg, IsLeg}
use Rattle.guest_machine.specs.Recorded.{Recorded}
use Rattle.guest_machine.specs.Took.{SlotFollows, reads_of}
use Rattle.guest_machine.specs.TookLaws.{slots_answer}

-- each slot follows the slices of a leg and these records
abbrev pub SlotsFollowLeg : {D : Type 0} → Ghosts D → Going → List Picked → List Record → List (Option D) → List (Option D) → Type 0
SlotsFollowLeg d start slices entries old new = (n : ℕ) → SlotFollows d n (reads_of n (asks_by start slices) slices) entries old new

module _ {D : Type 0} (d : Ghosts D) (start : Going) (old new : Recorded) (before after : ℕ → Option Choice) (slots slots' : List (Option D)) (out out' : List Record) (steps steps' : ℕ) where
  -- a whole leg, and the records that it added
  pub record LegInSlots (leg : Leg) : Type 0 where
    pub is_leg : IsLeg (slots_answer d) start leg old new before after slots slots' out out' steps steps'
    pub follow : SlotsFollowLeg d start is_leg.slices (records_from start.machine (map input_of is_leg.slices)) slots slots'

  -- one that was cut, and those that it added, with those of the part
  pub record CutLegInSlots : Type 0 where
    pub is_cut : IsCutLeg (slots_answer d) start old new before after slots slots' out out' steps steps'
    pub entries : List Record
    pub added : out' ≡ out ++ entries
    pub follow : SlotsFollowLeg d start is_cut.slices entries slots slots'
