-- A machine that belongs to the records of a history.
use Rattle.std.proofs.Common.{◌≡◌, ◌<◌, ◌≤◌, ◌^◌, ◌++◌, ℕ, List, [], ◌∷◌, length, refl, sym, ap, subst, ◌∙◌}
use Rattle.arn_base.specs.declared.records.Record.{Record}
use Rattle.arn_model.specs.Run.{Input}
use Rattle.log_model.specs.Laws.{RecordsAreRun}
use Rattle.log_model.specs.Records.{records, records_from, named, IsRun}
use Rattle.guest_machine.specs.Laws.{NamedFollow, RecordsFollow, RunsFollow, RecordsLeaveRoom}
use Rattle.guest_machine.specs.Recorded.{Recorded, Runs, IsAfter, HasRoom, OfEach}
use Rattle.session_runs.specs.Ready.{IsReady, machine_of}
use Rattle.session_commands.specs.Events.{IsEvent}
use Rattle.session_commands.specs.declared.events.Event.{Event}

-- it still belongs to them after more inputs, with the records of these
ready-more : NamedFollow → RecordsFollow → RunsFollow → RecordsAreRun → (r r' : Recorded) (history : List Record) (more : List Input) (out out' : List Record) → IsReady r history → Runs (machine_of history) more r r' out out' → IsReady r' (history ++ records_from (machine_of history) more)
ready-more named_follow records_follow runs_follow are_run r r' history more out out' ready runs =
    let inputs : List Input = named history in
    let all : Runs (machine_of history) more r r' history (history ++ records_from (machine_of history) more) = record { leads = runs.leads; counted = runs.counted; recorded = refl } in
    let same : records (inputs ++ more) ≡ history ++ records_from (machine_of history) more = records_follow r r' inputs more history (history ++ records_from (machine_of history) more) (sym ready.is_run) all in
    record {
      is_after = subst (λ (x : List Record). IsAfter r' (named x)) same (named_follow r' (inputs ++ more) (runs_follow r r' inputs more out out' ready.is_after runs));
      is_run = subst IsRun same (are_run (inputs ++ more));
    }

-- what was recorded behind nothing
pub recorded-alone : (r r' : Recorded) (history : List Record) (more : List Input) (out out' : List Record) → out ≡ [] → Runs (machine_of history) more r r' out out' → out' ≡ records_from (machine_of history) more
recorded-alone r r' history more out out' none runs = runs.recorded ∙ ap (λ (x : List Record). x ++ records_from (machine_of history) more) none

-- the same, where they were recorded behind nothing
pub ready-recorded : NamedFollow → RecordsFollow → RunsFollow → RecordsAreRun → (r r' : Recorded) (history : List Record) (more : List Input) (out out' : List Record) → IsReady r history → OfEach r.kernel (λ m. Runs m more r r' out out') → out ≡ [] → IsReady r' (history ++ out')
ready-recorded named_follow records_follow runs_follow are_run r r' history more out out' ready runs none =
    let taken : Runs (machine_of history) more r r' out out' = runs (machine_of history) ready.is_after.leads in
    subst (λ (x : List Record). IsReady r' (history ++ x)) (sym (recorded-alone r r' history more out out' none taken))
    (ready-more named_follow records_follow runs_follow are_run r r' history more out out' ready taken)

-- it has room for more where there are few records
pub room-for : RecordsLeaveRoom → (r : Recorded) (history : List Record) (events instructions : ℕ) → IsReady r history → length history < 2 ^ 63 → events ≤ 2 ^ 63 → instructions ≤ 2 ^ 64 → HasRoom r events instructions
room-for leave_room r history events instructions ready few at_most within =
    leave_room r (named history) events instructions ready.is_after (subst (λ (x : List Record). length x < 2 ^ 63) ready.is_run few) at_most within

-- an event with the records that an input's run adds is that input's
pub event-made : (r r' : Recorded) (history : List Record) (i : Input) (out : List Record) (event : Event) → IsReady r history → OfEach r.kernel (λ m. Runs m (i ∷ []) r r' out event.entries.items) → out ≡ [] → event.number ≡ r.kernel.events → IsEvent (machine_of history) i event
event-made r r' history i out event ready runs none is = record {
  is_number = is ∙ ready.is_after.leads.events;
  are_records = recorded-alone r r' history (i ∷ []) out event.entries.items none (runs (machine_of history) ready.is_after.leads);
}
