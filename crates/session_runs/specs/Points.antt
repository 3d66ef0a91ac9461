-- From one point of a session to another, and where it stops.
use Rattle.std.specs.Prelude.{◌≡◌, ◌≢◌, ◌⊎◌, ◌≤◌, ℕ, ◌+◌, List, [], ◌++◌, filter_map, length, Option, Some, None}
use Rattle.std.specs.List.{sum_by}
use Rattle.arn_base.specs.declared.boxes.Choice.{Choice}
use Rattle.arn_base.specs.declared.disk.Disk.{Ghosts}
use Rattle.arn_base.specs.declared.records.Record.{Record}
use Rattle.arn_model.specs.Run.{Input, File, Boot, Typed, Unplug, Slice}
use Rattle.log_model.specs.Records.{named, reply_behind}
use Rattle.history_model.specs.Unplugged.{unplugged_in}
use Rattle.guest_legs.specs.Legs.{AreInRange, Picked, PickedBy}
use Rattle.session_effects.specs.Carrying.{IsAtCommit, StopsBetween}
use Rattle.session_effects.specs.Effects.{Effect, committed}
use Rattle.session_effects.specs.declared.halt.Halt.{Halt}
use Rattle.session_effects.specs.declared.halt.Halt.TheVariants as halt
use Rattle.session_runs.specs.Ready.{IsNotMade}
use Rattle.session_runs.specs.Touches.{Answering, Touch, TouchedBy, asks_in, named_at, unplugs_in}
use Rattle.session_runs.specs.Turns.{Turn, Point, behind}

-- the slice that an input is
abbrev pub slice_in : Input → Option Picked
slice_in (File name bytes) = None
slice_in (Boot name) = None
slice_in (Typed bytes) = None
slice_in (Unplug device) = None
slice_in (Slice pid count reply) = Some (record { pick = record { pid = pid; count = count }; reply = reply })

-- how many instructions slices ask for
abbrev pub counts : List Picked → ℕ
counts slices = sum_by (λ s. s.pick.count) slices

-- the slices that records name, in order
abbrev pub slices_in : List Record → List Picked
slices_in entries = filter_map slice_in (named entries)

-- what slices cost, as the log names them: their instructions, and one for each
abbrev pub slices_cost : List Picked → ℕ
slices_cost slices = sum_by (λ s. s.pick.count + 1) slices

-- the coming choices, where they are told, those who answer for devices, and how many instructions were executed
pub record Surroundings (A : Type 0) : Type 0 where
  pub choices : ℕ → Option Choice
  pub answers : A
  pub steps : ℕ

abbrev pub around : {A : Type 0} → (ℕ → Option Choice) → A → ℕ → Surroundings A
around choices answers steps = record { choices = choices; answers = answers; steps = steps }

-- From one point to a later one slices were picked, each where it was asked for, and effects carried out, whatever slices follow. The records
-- that the effects commit name these slices and no others, behind other records too, and say of just those devices that they were unplugged
-- which the touches unplug. Devices gave their replies. The slices cost their instructions and one for each; `cost` is what else was done.
pub record Advances {A : Type 0} (who : Answering A) (from to : Point) (old new : Surroundings A) (cost : ℕ) (carried : List Effect → Type 0) : Type 0 where
  pub slices : List Picked
  pub touches : List Touch
  pub effects : List Effect
  pub leads : (rest : List Picked) → from (named_at touches slices ++ rest) ≡ behind effects touches (to rest)
  pub names : slices_in (committed effects) ≡ named_at touches slices
  pub unplugged : unplugged_in (committed effects) ≡ unplugs_in touches
  pub begins : reply_behind (committed effects) ≡ None
  pub carries : carried effects
  pub picked : PickedBy old.choices new.choices (asks_in touches) slices
  pub in_range : AreInRange (asks_in touches) slices
  pub touched : TouchedBy who touches slices old.answers new.answers
  pub executed : new.steps ≤ old.steps + cost + slices_cost (named_at touches slices)

-- the slices end within a run, behind these effects
pub record EndsWithin (done : List Effect) (t : Turn) : Type 0 where
  pub effects : t.effects ≡ done
  pub left : t.left ≡ None

-- no slices are left: they end within a run, or all of them were taken and something comes next, or none was lost
abbrev pub IsSpent : List Picked → List Effect → Option (List Picked) → Type 0
IsSpent lost undone left = (left ≡ None) ⊎ ((left ≡ Some []) × ((undone ≢ []) ⊎ (lost ≡ [])))

-- A session halted: the effects `done` were carried out, and of what comes next some of the first at most. The records of those name
-- `slices`, and say of just those devices that they were unplugged which `touches` unplug. Slices that were picked behind these and not
-- committed are lost: those of the open leg. Without them the slices end before it; where a commit stands next, it names them, and says of
-- just those devices that they were unplugged which the touches behind the others unplug. Where memory ran out in a slice, that one was
-- picked too, and a part of it may have run; or memory ran out before an unplugging, or no machine was made for it: then it wasn't made.
pub record Stops {D A : Type 0} (is_run : List Record → Type 0) (d : Ghosts D) (who : Answering A) (disk disk' : D) (history : List Record) (held holds : Option (List ℕ)) (why : Halt) (from : Point) (old new : Surroundings A) (cost : ℕ) : Type 0 where
  pub slices : List Picked
  pub lost : List Picked
  pub part : List Picked
  pub touches : List Touch
  pub lost_touches : List Touch
  pub part_touches : List Touch
  pub done : List Effect
  pub undone : List Effect
  pub are_effects : (from (named_at touches slices ++ named_at lost_touches lost)).effects ≡ done ++ undone
  pub are_touches : (from (named_at touches slices ++ (named_at lost_touches lost ++ part))).touches ≡ touches ++ (lost_touches ++ part_touches)
  pub stopped : StopsBetween is_run d disk disk' history held holds why done undone
  pub names : slices_in (committed done) ≡ named_at touches slices
  pub unplugged : unplugged_in (committed done) ≡ unplugs_in touches
  pub begins : reply_behind (committed done) ≡ None
  pub names_lost : (entries : List Record) → IsAtCommit undone entries → slices_in entries ≡ named_at lost_touches lost
  pub unplugged_lost : (entries : List Record) → IsAtCommit undone entries → unplugged_in entries ≡ unplugs_in (lost_touches ++ part_touches)
  pub without : (lost ≡ []) ⊎ EndsWithin done (from (named_at touches slices))
  pub spent : IsSpent lost undone (from (named_at touches slices ++ named_at lost_touches lost)).left
  pub many : length (asks_in touches) ≡ length slices
  pub picked : PickedBy old.choices new.choices (asks_in (touches ++ (lost_touches ++ part_touches))) (slices ++ (lost ++ part))
  pub in_range : AreInRange (asks_in (touches ++ (lost_touches ++ part_touches))) (slices ++ (lost ++ part))
  pub touched : TouchedBy who (touches ++ lost_touches) (slices ++ lost) old.answers new.answers
  pub one_part : length part_touches ≤ 1
  pub by_memory : (part ≡ []) ⊎ (why ≡ halt.NoMemory)
  pub unmade : (part_touches ≡ []) ⊎ IsNotMade why
  pub executed : new.steps ≤ old.steps + cost + slices_cost (named_at touches slices ++ named_at lost_touches lost) + counts part
