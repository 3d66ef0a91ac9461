-- When the events of a run happened, and how many instructions its groups did.
use Rattle.std.specs.Prelude.{◌≡◌, ℕ, ◌+◌, ◌&&◌, if◌then◌else◌, List, [], ◌∷◌, count_by, Option, is_some, slice_get}
use Rattle.arn_base.specs.declared.records.Record.{Record}
use Rattle.acts_model.specs.Moved.{is_instruction}
use Rattle.arn_model.specs.Run.{Input, machine_after, run}
use Rattle.arn_model.specs.Step.{Step}
use Rattle.arn_model.specs.Tells.{HasNumbers}
use Rattle.history_index.specs.Lookups.{event_moment, if_kept}
use Rattle.history_model.specs.Events.{event_at, how_many}
use Rattle.history_model.specs.Groups.{count_of, group_of}
use Rattle.log_model.specs.Records.{event_records, records}
use Rattle.replay_laws.specs.Heard.{is_own}

-- how many instructions were done with a step, behind so many
abbrev pub done_with : ℕ → Step → ℕ
done_with done s = done + (if is_instruction s.moved.inside then 1 else 0)

-- how many were done when each event of steps had happened, behind so many
abbrev pub moments_behind : ℕ → List Step → List ℕ
moments_behind done [] = []
moments_behind done (s ∷ steps) = if_kept (is_some s.moved.inside.event) (done_with done s) (moments_behind (done_with done s) steps)

-- how many instructions a run had done when its event n had happened
abbrev pub happened_at : List Input → ℕ → Option ℕ
happened_at inputs n = slice_get (moments_behind 0 (run inputs)) n

-- the record of event n of a run
abbrev pub recorded_at : List Input → ℕ → Option Record
recorded_at inputs n = slice_get (event_records (run inputs)) n

-- how many instructions of a run the processes of a group did
abbrev pub done_by : List Input → ℕ → ℕ
done_by inputs g = count_by (λ s. is_own (group_of (records inputs)) g s.moved.inside.actor && is_instruction s.moved.inside) (run inputs)

-- The records of a run tell as many events as there were, each with the moment at which it had happened, and of each group how many
-- instructions its processes did.
pub record CountsRun (inputs : List Input) : Type 0 where
  pub events : how_many (records inputs) ≡ (machine_after inputs).events
  pub entries : (n : ℕ) → event_at (records inputs) n ≡ recorded_at inputs n
  pub moments : (n : ℕ) → event_moment (records inputs) n ≡ happened_at inputs n
  pub counts : (g : ℕ) → count_of (records inputs) g ≡ done_by inputs g

abbrev pub CountsAreOfRuns : Type 0
CountsAreOfRuns = (inputs : List Input) → HasNumbers (machine_after inputs).kernel → CountsRun inputs
