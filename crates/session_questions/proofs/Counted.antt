-- The records of a log are few enough to be indexed.
use Rattle.std.proofs.Common.{◌≡◌, ◌∙◌, ◌≤◌, List, None, length, ap, subst, arith}
use Rattle.arn_base.specs.declared.records.Record.{Record}
use Rattle.arn_model.specs.Laws.{EachRunIsSound}
use Rattle.arn_model.specs.Run.{Input, machine_after}
use Rattle.arn_model.specs.Tells.{HasNumbers}
use Rattle.history_model.specs.Broken.{first_broken}
use Rattle.log_model.specs.Laws.{RecordsBound}
use Rattle.log_model.specs.Records.{IsRun, named, records}
use Rattle.log_store.specs.Log.{spellings}
use Rattle.log_store.specs.declared.size.TheConstants.{MOST_LOG}
use Rattle.unbroken_laws.specs.Laws.{RunsAreUnbroken}
use Rattle.session_questions.specs.Short.{ShortRunsHaveNumbers}
use Rattle.session_questions.proofs.Spelled.{few-records}

-- each process was made by an event, and each event has a record
pub has-numbers : RecordsBound → EachRunIsSound → (inputs : List Input) → length (spellings (records inputs)) ≤ MOST_LOG → HasNumbers (machine_after inputs).kernel
has-numbers bound sound inputs short =
    omega (arith, (sound inputs).few, (bound inputs).events, few-records (records inputs), short)

-- records of a run can be indexed
pub stands : ShortRunsHaveNumbers → RunsAreUnbroken → (entries : List Record) → IsRun entries → length (spellings entries) ≤ MOST_LOG → first_broken entries ≡ None
stands numbers unbroken entries is_run short =
    let inputs : List Input = named entries in
    let few = numbers inputs (subst (λ (x : List Record). length (spellings x) ≤ MOST_LOG) is_run short) in
    ap first_broken is_run ∙ unbroken inputs few
