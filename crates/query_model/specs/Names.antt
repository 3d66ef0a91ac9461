-- What a query about bytes of a file at a moment answers: the event byte that last wrote a byte tells which source bytes it has.
use Rattle.std.specs.Prelude.{ℕ, nat_le, if◌then◌else◌, List, length, take, drop, filter_map, slice_get, Option, Some, None, option_and_then, option_map}
use Rattle.arn_base.specs.declared.records.Pair.{Pair}
use Rattle.arn_base.specs.declared.records.Record.{Record}
use Rattle.arn_base.specs.declared.records.Src.{Src}
use Rattle.file_versions.specs.Versions.{version_at}
use Rattle.history_model.specs.Alone.{Disagrees}
use Rattle.history_model.specs.Events.{lies_in}
use Rattle.history_model.specs.Groups.{event_group}
use Rattle.history_model.specs.Moments.{total}
use Rattle.lineage_model.specs.Joined.{from_origin}
use Rattle.lineage_model.specs.Pairs.{pairs_from}
use Rattle.lineage_model.specs.Tracking.{EventByte}
use Rattle.parts_model.specs.declared.tagged.TaggedByte.{TaggedByte}
use Rattle.query_model.specs.Answers.{first_disagreement}
use Rattle.query_model.specs.Linked.{groups_back}
use Rattle.query_model.specs.Sources.{reaching}
use Rattle.rv64_model.specs.Carries.{Table}

-- so many bytes from a place on, of the file that has a name at a moment
pub record Named : Type 0 where
  pub moment : ℕ
  pub name : List ℕ
  pub from : ℕ
  pub len : ℕ

-- so many bytes from a place on, if these have them, and they aren't too many to be asked for
abbrev pub part_of : ℕ → ℕ → List TaggedByte → Option (List TaggedByte)
part_of from len held = if lies_in (length held) from len then Some (take len (drop from held)) else None

-- the bytes of the file that has a name at a moment, with their origins: none where the moment isn't in the history, or no file has the name
abbrev pub version_of : List Record → ℕ → List ℕ → Option (List TaggedByte)
version_of entries moment name = if nat_le moment (total entries) then version_at entries moment name else None

-- those that are asked for: none also where it hasn't these
abbrev pub named_bytes : List Record → Named → Option (List TaggedByte)
named_bytes entries n = option_and_then (part_of n.from n.len) (version_of entries n.moment n.name)

-- the event byte that last wrote byte k
abbrev pub writer_of : List TaggedByte → ℕ → Option Src
writer_of bytes k = option_map (λ b. b.origin) (slice_get bytes k)

-- the source bytes that reach byte k: those that reach that event byte, where groups are followed up to a moment
abbrev pub written_sources : Table → List Record → ℕ → List TaggedByte → ℕ → List EventByte
written_sources table entries moment bytes k = from_origin (reaching table entries moment) (writer_of bytes k)

-- a source byte with each byte that has it
abbrev pub written_pairs : Table → List Record → ℕ → List TaggedByte → List Pair
written_pairs table entries moment bytes = pairs_from (written_sources table entries moment bytes) 0 (length bytes)

-- the groups of the events that last wrote them. An event from outside has none
abbrev pub writers : List Record → List TaggedByte → List ℕ
writers entries bytes = filter_map (λ b. event_group entries b.origin.event) bytes

-- the groups that are asked: these, and those from which they can have received bytes
abbrev pub written_groups : List Record → List TaggedByte → List ℕ
written_groups entries bytes = groups_back entries (writers entries bytes)

-- where these disagree
abbrev pub written_disagreement : List Record → ℕ → List TaggedByte → Option Disagrees
written_disagreement entries moment bytes = first_disagreement entries moment (written_groups entries bytes)
