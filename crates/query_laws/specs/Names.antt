-- What holds of a query about bytes of a file at a moment.
use Rattle.std.specs.Prelude.{◌≡◌, ℕ, ◌+◌, nat_le, if◌then◌else◌, List, [], All, Option, Some, None, option_and_then}
use Rattle.arn_base.specs.declared.records.Record.{Record}
use Rattle.acts_model.specs.Moved.{FileByte, KernelByte}
use Rattle.arn_model.specs.Run.{Input, machine_after, state_at}
use Rattle.arn_model.specs.Tells.{HasNumbers}
use Rattle.history_model.specs.Broken.{first_broken}
use Rattle.history_model.specs.Events.{event_at}
use Rattle.history_model.specs.Moments.{total}
use Rattle.lineage_join.specs.Fits.{IsThere}
use Rattle.lineage_join.specs.Laws.{reaches}
use Rattle.lineage_laws.specs.Laws.{whole_at}
use Rattle.lineage_model.specs.Flow.{At, Byte}
use Rattle.lineage_model.specs.Joined.{from_origin}
use Rattle.lineage_model.specs.Pairs.{pairs_from}
use Rattle.lineage_model.specs.Tracking.{EventByte}
use Rattle.log_model.specs.Records.{records}
use Rattle.parts_model.specs.declared.tagged.TaggedByte.{TaggedByte}
use Rattle.parts_model.specs.Files.{find_file}
use Rattle.query_model.specs.Names.{Named, named_bytes, part_of, writer_of, writers, written_disagreement, written_pairs, written_sources}
use Rattle.query_model.specs.Sources.{items_at}
use Rattle.rv64_model.specs.Carries.{Table, operands}
use Rattle.rv64_model.specs.declared.linkage.Linkage.{Linkage}
use Rattle.window_laws.specs.Blocks.{HasWholeBlocks}
use Rattle.version_laws.specs.OfRuns.{version_in}
use Rattle.query_laws.specs.Received.{IsConnected}

-- each was last written by a byte that an event has
abbrev pub AreWritten : List Record → List TaggedByte → Type 0
AreWritten entries bytes = All (λ b. IsThere (event_at entries b.origin.event) (Byte b.origin.at)) bytes

-- The bytes of files are, in every history.
abbrev pub NamedAreWritten : Type 0
NamedAreWritten = (entries : List Record) (n : Named) (bytes : List TaggedByte) → named_bytes entries n ≡ Some bytes → AreWritten entries bytes

-- Items of connected groups at bytes that events have tell what reaches bytes that were written.
abbrev pub WrittenIsOfBytes : Type 0
WrittenIsOfBytes =
    (linkage : Linkage) (entries : List Record) (moment : ℕ) (bytes : List TaggedByte) (items : ℕ → At → List EventByte)
    → first_broken entries ≡ None → All HasWholeBlocks entries → AreWritten entries bytes
    → ((event : ℕ) (at : At) → IsConnected entries (writers entries bytes) event → IsThere (event_at entries event) at
    → items event at ≡ items_at (operands linkage) entries moment event at)
    → (k : ℕ) → from_origin (reaches entries items) (writer_of bytes k) ≡ written_sources (operands linkage) entries moment bytes k

-- the bytes that are asked for, as the machine holds them at the moment
abbrev pub run_version : List Input → ℕ → List ℕ → Option (List TaggedByte)
run_version inputs moment name = if nat_le moment (total (records inputs)) then version_in (state_at inputs moment).kernel.files name else None

abbrev pub run_bytes : List Input → Named → Option (List TaggedByte)
run_bytes inputs n = option_and_then (part_of n.from n.len) (run_version inputs n.moment n.name)

-- the set of a file's byte
abbrev pub file_set : (KernelByte → List EventByte) → Option ℕ → ℕ → List EventByte
file_set kernel None at = []
file_set kernel (Some file) at = kernel (FileByte file at)

-- that of byte k of those that are asked for, by the tracking of every step of a run up to the moment
abbrev pub whole_file : Table → List Input → Named → ℕ → List EventByte
whole_file table inputs n k = file_set (whole_at table inputs n.moment).kernel (find_file (state_at inputs n.moment).kernel.files n.name) (n.from + k)

-- The bytes are those of the run's file. No groups disagree, and pairs are those that the tracking of every step gives.
pub record NamesRun (table : Table) (inputs : List Input) (n : Named) : Type 0 where
  pub bytes : named_bytes (records inputs) n ≡ run_bytes inputs n
  pub agree : (bytes : List TaggedByte) → written_disagreement (records inputs) n.moment bytes ≡ None
  pub pairs : (bytes : List TaggedByte) → named_bytes (records inputs) n ≡ Some bytes
      → written_pairs table (records inputs) n.moment bytes ≡ pairs_from (whole_file table inputs n) 0 n.len

-- so they are on every run's records, under every table of operands
abbrev pub NamesAreOfRuns : Type 0
NamesAreOfRuns = (table : Table) (inputs : List Input) (n : Named) → HasNumbers (machine_after inputs).kernel → NamesRun table inputs n
