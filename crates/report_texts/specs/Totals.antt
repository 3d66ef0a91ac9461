-- Processes and groups, how many there are of a kind, and whether records are a run's, each with its LF.
use Rattle.std.specs.Prelude.{ℕ, List, ◌++◌, codes, decimal, Option, Some, None}
use Rattle.arn_base.specs.declared.records.Differs.{Differs}
use Rattle.arn_lines.specs.Texts.{line_end}
use Rattle.report_texts.specs.Events.{number_text}

-- `proc PID group G`
abbrev pub proc_line : ℕ → ℕ → List ℕ
proc_line pid group = codes "proc " ++ decimal pid ++ codes " group " ++ decimal group ++ line_end

-- `procs N`
abbrev pub procs_line : ℕ → List ℕ
procs_line count = codes "procs " ++ decimal count ++ line_end

-- `group G processes N instructions C`
abbrev pub group_line : ℕ → ℕ → ℕ → List ℕ
group_line group processes instructions =
    codes "group " ++ decimal group ++ codes " processes " ++ decimal processes ++ codes " instructions " ++ decimal instructions ++ line_end

-- `groups N`
abbrev pub groups_line : ℕ → List ℕ
groups_line count = codes "groups " ++ decimal count ++ line_end

-- `events N`
abbrev pub events_line : ℕ → List ℕ
events_line count = codes "events " ++ decimal count ++ line_end

-- `verify run`, or `verify differs R AT SAID FOUND`
abbrev pub verify_line : Option Differs → List ℕ
verify_line None = codes "verify run" ++ line_end
verify_line (Some d) =
    codes "verify differs " ++ decimal d.place ++ codes " " ++ decimal d.at ++ codes " " ++ number_text d.said ++ codes " " ++ number_text d.found ++ line_end
