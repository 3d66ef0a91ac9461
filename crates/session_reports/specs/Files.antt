-- What is printed of a file at a moment.
use Rattle.std.specs.Prelude.{ℕ, if◌then◌else◌, List, Option, Some, None}
use Rattle.arn_base.specs.declared.records.Record.{Record}
use Rattle.arn_lines.specs.declared.answer.Refusal.TheVariants.{NoPoint}
use Rattle.arn_lines.specs.Texts.{refusal_text}
use Rattle.file_versions.specs.Versions.{version_at}
use Rattle.parts_model.specs.declared.tagged.TaggedByte.{TaggedByte}
use Rattle.parts_model.specs.Tagged.{values}
use Rattle.past_lives.specs.Members.{is_moment}
use Rattle.report_texts.specs.Values.{file_line}

-- the bytes of a file; a name that no file has is refused
abbrev pub file_of : Option (List TaggedByte) → List ℕ
file_of None = refusal_text NoPoint
file_of (Some held) = file_line (values held)

-- those of the file that has the name at a moment, if it is in the history
abbrev pub show_file_text : List Record → ℕ → List ℕ → List ℕ
show_file_text entries moment name = if is_moment entries moment then file_of (version_at entries moment name) else refusal_text NoPoint
