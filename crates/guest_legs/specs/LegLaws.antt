-- What holds of the slices of legs.
use Rattle.std.specs.Prelude.{◌≡◌, ◌≤◌, ℕ, List, [], ◌∷◌, ◌++◌, length, map, Option}
use Rattle.arn_base.specs.declared.boxes.Choice.{Choice}
use Rattle.arn_base.specs.declared.records.Record.{Record}
use Rattle.arn_model.specs.Kernel.{Machine}
use Rattle.arn_model.specs.Run.{Input, input_steps, instructions_in, machine_after}
use Rattle.log_model.specs.Records.{event_records, named, records_from, reply_behind}
use Rattle.guest_legs.specs.Legs.{AreInRange, Ask, Going, Picked, PickedBy, StaysOpen, asks_by, going_by, input_of}

-- choices of slices that follow others
abbrev pub PicksFollow : Type 0
PicksFollow =
    (before between after : ℕ → Option Choice) (asks more : List Ask) (slices others : List Picked) → PickedBy before between asks slices → PickedBy between after more others → PickedBy before after (asks ++ more) (slices ++ others)

-- a slice as its records name it: so many instructions as ran, with the reply that stands behind it
abbrev pub as_named : Machine → Picked → Picked
as_named m s =
    let steps = input_steps m (input_of s) in
    record { pick = record { pid = s.pick.pid; count = instructions_in steps }; reply = reply_behind (event_records steps) }

-- slices as their records name them, each where it was asked for
abbrev pub all_named : List Ask → List Picked → List Picked
all_named [] slices = []
all_named (ask ∷ asks) [] = []
all_named (ask ∷ asks) (s ∷ slices) = as_named ask.machine s ∷ all_named asks slices

-- slices of a leg as their records name them
abbrev pub named_by : Going → List Picked → List Picked
named_by g slices = all_named (asks_by g slices) slices

-- The records of a leg's slices name slices that are taken at the same places and do the same; and each slice has a record.
pub record SameAsNamed (g : Going) (slices : List Picked) : Type 0 where
  pub names : named (records_from g.machine (map input_of slices)) ≡ map input_of (named_by g slices)
  pub asks : asks_by g (named_by g slices) ≡ asks_by g slices
  pub leads : going_by g (named_by g slices) ≡ going_by g slices
  pub open_before : StaysOpen g slices → StaysOpen g (named_by g slices)
  pub some : length slices ≤ length (records_from g.machine (map input_of slices))

-- so it is of legs from each machine of a run
abbrev pub LegsAsNamed : Type 0
LegsAsNamed =
    (inputs : List Input) (left : ℕ) (entries : List Record) (slices : List Picked) → let g : Going = record { machine = machine_after inputs; left = left; entries = entries } in AreInRange (asks_by g slices) slices → SameAsNamed g slices
