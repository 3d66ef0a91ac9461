-- What a version of a file is on the records of a run.
use Rattle.std.specs.Prelude.{◌≡◌, ℕ, List, Option, option_and_then}
use Rattle.arn_model.specs.Run.{Input, machine_after, state_at}
use Rattle.arn_model.specs.Tells.{HasNumbers}
use Rattle.file_versions.specs.Versions.{file_at, version_at}
use Rattle.log_model.specs.Records.{records}
use Rattle.parts_model.specs.declared.tagged.TaggedByte.{TaggedByte}
use Rattle.parts_model.specs.Files.{Files, file_bytes, find_file}

-- the bytes of the file with this name, with their origins
abbrev pub version_in : Files → List ℕ → Option (List TaggedByte)
version_in files name = option_and_then (file_bytes files) (find_file files name)

-- A name stands for the file for which it stands in the machine at that moment, if for one, and its version is what the machine holds of it
-- then: each byte with its origin.
pub record VersionIsOfRun (inputs : List Input) (moment : ℕ) (name : List ℕ) : Type 0 where
  pub file : file_at (records inputs) moment name ≡ find_file (state_at inputs moment).kernel.files name
  pub version : version_at (records inputs) moment name ≡ version_in (state_at inputs moment).kernel.files name

abbrev pub VersionsAreOfRuns : Type 0
VersionsAreOfRuns = (inputs : List Input) (moment : ℕ) (name : List ℕ) → HasNumbers (machine_after inputs).kernel → VersionIsOfRun inputs moment name
