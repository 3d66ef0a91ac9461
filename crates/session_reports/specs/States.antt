-- What is printed of a process at a moment, and what that costs.
use Rattle.std.specs.Prelude.{ℕ, if◌then◌else◌, List, [], Option, Some, None, option_and_then, option_map}
use Rattle.arn_base.specs.declared.records.Record.{Record}
use Rattle.acts_model.specs.Bodies.{View, seen}
use Rattle.acts_model.specs.Views.{bytes_in}
use Rattle.arn_lines.specs.declared.answer.Refusal.TheVariants.{NoPoint}
use Rattle.arn_lines.specs.Texts.{damaged_text, refusal_text}
use Rattle.history_model.specs.Alone.{Made, Makes, Fails}
use Rattle.past_lives.specs.Members.{is_member, is_memory_range}
use Rattle.report_texts.specs.Values.{mem_line, regs_line}
use Rattle.state_viewer.specs.Views.{made_of, ran_of}

-- a line of what is there
abbrev pub line_if : {A : Type 0} → (A → List ℕ) → Option A → List ℕ
line_if line None = []
line_if line (Some x) = line x

-- of what a group alone has made, a line of what a process sees in it; or where its records disagree
abbrev pub seen_text : (Option View → List ℕ) → ℕ → Made → List ℕ
seen_text line pid (Makes own) = line (seen own.bodies pid)
seen_text line pid (Fails d) = damaged_text d.event d.said d.found

-- the registers of a process
abbrev pub regs_of : Option View → List ℕ
regs_of view = line_if regs_line (option_map (λ v. v.body.cpu) view)

-- so many bytes of its memory
abbrev pub mem_of : ℕ → ℕ → Option View → List ℕ
mem_of at len view = line_if mem_line (option_and_then (λ v. bytes_in v at len) view)

-- who doesn't live at the moment is refused
abbrev pub show_regs_text : List Record → ℕ → ℕ → List ℕ
show_regs_text entries moment pid = if is_member entries moment pid then seen_text regs_of pid (made_of entries moment pid) else refusal_text NoPoint

-- so are bytes that aren't there
abbrev pub show_mem_text : List Record → ℕ → ℕ → ℕ → ℕ → List ℕ
show_mem_text entries moment pid at len =
    if is_memory_range entries moment pid at len then seen_text (mem_of at len) pid (made_of entries moment pid) else refusal_text NoPoint

-- the group of the process runs again up to the moment
abbrev pub show_regs_cost : List Record → ℕ → ℕ → ℕ
show_regs_cost entries moment pid = if is_member entries moment pid then ran_of entries moment pid else 0

abbrev pub show_mem_cost : List Record → ℕ → ℕ → ℕ → ℕ → ℕ
show_mem_cost entries moment pid at len = if is_memory_range entries moment pid at len then ran_of entries moment pid else 0
