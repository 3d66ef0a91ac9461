-- On the records of a run a version of a file is what the machine holds of it.
use Rattle.std.proofs.lemmas.Bool.Decides.{nat_tests}
use Rattle.std.proofs.Common.{◌≡◌, ℕ, true, List, [], Option, Some, is_some, option_map, filter, refl, ap, ◌∙◌, arith}
use Rattle.parts_model.specs.declared.tagged.TaggedByte.{TaggedByte}
use Rattle.parts_model.specs.Files.{Files, file_bytes, find_file}
use Rattle.arn_model.specs.Kernel.{at_first}
use Rattle.arn_model.specs.Laws.{EachRunAppends, EachRunIsSound, StepsTell}
use Rattle.arn_model.specs.Run.{Input, machine_after, run, state_at, within}
use Rattle.arn_model.specs.Tells.{HasNumbers}
use Rattle.history_model.specs.Moments.{Numbered}
use Rattle.history_model.specs.Names.{file_named}
use Rattle.log_model.specs.Laws.{EventsRecorded}
use Rattle.log_model.specs.Records.{records}
use Rattle.replay_laws.specs.Laws.{RecordsTellEvents}
use Rattle.file_versions.specs.Versions.{Write, bytes_after, bytes_at, file_at, is_to, writes_from}
use Rattle.version_laws.specs.OfRuns.{VersionIsOfRun, version_in}
use Rattle.version_laws.proofs.Happened.{events-told}
use Rattle.version_laws.proofs.Laying.{leaves-bytes}
use Rattle.version_laws.proofs.Changes.{state-sound, steps-change}
use Rattle.version_laws.proofs.Steps.{IsTold, bytes-told, entries_of, names-told}

-- a file that is there is told
told-bytes : (files : Files) (file : ℕ) (writes : List Write) → IsTold files file writes → is_some (file_bytes files file) ≡ true → Some (bytes_after writes) ≡ file_bytes files file
told-bytes files file writes h1 h2 = grind (arith, nat_tests, leaves-bytes)

found-version : (files : Files) (name : List ℕ) (bytes : ℕ → List TaggedByte) → ((file : ℕ) → find_file files name ≡ Some file → Some (bytes file) ≡ file_bytes files file) → option_map bytes (find_file files name) ≡ version_in files name
found-version files name bytes h1 = grind (arith, nat_tests)

pub versions : StepsTell → EachRunIsSound → EachRunAppends → EventsRecorded → RecordsTellEvents → (inputs : List Input) (moment : ℕ) (name : List ℕ) → HasNumbers (machine_after inputs).kernel → VersionIsOfRun inputs moment name
versions tell sound append recorded events inputs moment name few =
    record {
      file = found;
      version = ap (λ (o : Option ℕ). option_map (bytes_at (records inputs) moment) o) found ∙ found-version files name (bytes_at (records inputs) moment) held;
    }
  where
    files : Files
    files = (state_at inputs moment).kernel.files

    found : file_at (records inputs) moment name ≡ find_file (state_at inputs moment).kernel.files name
    found =
        ap (λ (es : List Numbered). file_named (entries_of es) name) (events-told events recorded inputs moment)
        ∙ names-told name at_first (within moment (run inputs)) (steps-change tell sound inputs moment few) 0 (λ none. refl)

    held : (file : ℕ) → find_file (state_at inputs moment).kernel.files name ≡ Some file → Some (bytes_at (records inputs) moment file) ≡ file_bytes (state_at inputs moment).kernel.files file
    held file is =
        ap (λ (es : List Numbered). Some (bytes_after (filter (is_to file) (writes_from 0 es)))) (events-told events recorded inputs moment)
        ∙ told-bytes (state_at inputs moment).kernel.files file _
        (bytes-told file at_first (within moment (run inputs)) (steps-change tell sound inputs moment few) 0 [] (λ none. refl) (record { unmade = λ past. refl; held = tt }))
        ((state-sound sound append inputs moment).kernel.there name file is)
