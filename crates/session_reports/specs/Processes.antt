-- What is printed of the processes that live at a moment.
use Rattle.std.specs.Prelude.{ℕ, if◌then◌else◌, List, [], ◌++◌, flat_map, length, Option, Some, None}
use Rattle.arn_base.specs.declared.records.Record.{Record}
use Rattle.arn_lines.specs.declared.answer.Refusal.TheVariants.{NoPoint}
use Rattle.arn_lines.specs.Texts.{refusal_text}
use Rattle.history_model.specs.Groups.{group_of}
use Rattle.past_lives.specs.Members.{is_moment, live_at}
use Rattle.report_texts.specs.Totals.{proc_line, procs_line}

-- a process, in its group
abbrev pub process_in : ℕ → Option ℕ → List ℕ
process_in pid None = []
process_in pid (Some group) = proc_line pid group

abbrev pub process_text : List Record → ℕ → List ℕ
process_text entries pid = process_in pid (group_of entries pid)

-- processes in order, and behind them how many there are
abbrev pub processes_text : List Record → List ℕ → List ℕ
processes_text entries live = flat_map (process_text entries) live ++ procs_line (length live)

-- those that live at a moment, if it is in the history
abbrev pub show_procs_text : List Record → ℕ → List ℕ
show_procs_text entries moment = if is_moment entries moment then processes_text entries (live_at entries moment) else refusal_text NoPoint
