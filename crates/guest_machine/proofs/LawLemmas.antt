-- What holds of runs from the start.
use Rattle.std.proofs.Common.{◌≡◌, ℕ, ◌<◌, ◌≤◌, ◌^◌, ◌++◌, ◌∙◌, List, length, sym, ap, subst, arith}
use Rattle.arn_base.specs.declared.records.Record.{Record}
use Rattle.arn_model.specs.Kernel.{Machine, at_first}
use Rattle.arn_model.specs.Run.{Input, run, machine_after, steps_from, instructions_in}
use Rattle.arn_model.specs.Turn.{after_steps}
use Rattle.log_model.specs.Laws.{NamedRunsAgain, RecordsBound}
use Rattle.log_model.specs.Records.{records, records_from, named}
use Rattle.guest_calls.specs.State.{StandsFor}
use Rattle.guest_machine.specs.Recorded.{Recorded, Runs, IsAfter, HasRoom}
use Rattle.guest_machine.proofs.Appends.{machine_from-append, machine_from-steps, steps_from-append, instructions_in-append, records_from-append}

-- inputs behind the others
pub follow-runs : (r r' : Recorded) (inputs more : List Input) (out out' : List Record) → IsAfter r inputs → Runs (machine_after inputs) more r r' out out' → IsAfter r' (inputs ++ more)
follow-runs r r' inputs more out out' after runs =
    record {
      leads = subst (λ (x : Machine). StandsFor r'.kernel x) (sym (machine_from-append at_first inputs more)) runs.leads;
      counted = omega (arith, runs.counted, after.counted, ap instructions_in (steps_from-append at_first inputs more), instructions_in-append (run inputs) (steps_from (machine_after inputs) more));
    }

-- and their records
pub follow-records : (r r' : Recorded) (inputs more : List Input) (out out' : List Record) → records inputs ≡ out → Runs (machine_after inputs) more r r' out out' → records (inputs ++ more) ≡ out'
follow-records r r' inputs more out out' is runs =
    records_from-append at_first inputs more ∙ ap (λ (entries : List Record). entries ++ records_from (machine_after inputs) more) is ∙ sym runs.recorded

-- what the records name
pub follow-named : NamedRunsAgain → (r : Recorded) (inputs : List Input) → IsAfter r inputs → IsAfter r (named (records inputs))
follow-named again r inputs after =
    let same : run inputs ≡ run (named (records inputs)) = sym (again inputs) in
    let there : machine_after inputs ≡ machine_after (named (records inputs)) =
    machine_from-steps at_first inputs ∙ ap (after_steps at_first) same ∙ sym (machine_from-steps at_first (named (records inputs))) in
    record { leads = subst (λ (x : Machine). StandsFor r.kernel x) there after.leads; counted = after.counted ∙ ap instructions_in same }

-- so few records leave room
pub few-room : RecordsBound → (r : Recorded) (inputs : List Input) (events instructions : ℕ) → IsAfter r inputs → length (records inputs) < 2 ^ 63 → events ≤ 2 ^ 63 → instructions ≤ 2 ^ 64 → HasRoom r events instructions
few-room bound r inputs events instructions after few some little =
    record {
      events = omega (arith, few, some, (bound inputs).events, after.leads.events);
      instructions = omega (arith, few, little, (bound inputs).instructions, after.counted);
    }
