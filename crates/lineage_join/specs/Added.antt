-- What is added to what comes, whatever the groups' answers are.
use Rattle.std.specs.Prelude.{ℕ, List}
use Rattle.arn_base.specs.declared.records.Pair.{Pair}
use Rattle.arn_base.specs.declared.records.Record.{Record}
use Rattle.history_model.specs.Events.{event_at}
use Rattle.lineage_model.specs.Flow.{At}
use Rattle.lineage_model.specs.Tracking.{EventByte}
use Rattle.lineage_join.specs.declared.wait.Wait.{Wait}
use Rattle.lineage_join.specs.Fits.{AllFit}
use Rattle.lineage_join.specs.Laws.{reaches}
use Rattle.lineage_join.specs.Waits.{ComesAlso, from_wait}

-- what came still comes, and what these lead to, whatever items reach bytes of events in their own groups
abbrev pub HasAdded : List Record → List Wait → List Pair → List Wait → List Wait → List Pair → Type 0
HasAdded entries waiting found waits then_waiting then_found =
    (items : ℕ → At → List EventByte) → AllFit entries items → ComesAlso (from_wait (event_at entries) (reaches entries items)) waiting found waits then_waiting then_found
