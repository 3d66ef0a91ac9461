-- What the lines of a session do: one table, with a row for each line.
use Rattle.std.specs.Prelude.{◌≡◌, ℕ, Bool, true, false, List, [], Option, None}
use Rattle.arn_base.specs.declared.records.Record.{Record}
use Rattle.arn_model.specs.Run.{Input, File, Boot, Typed}
use Rattle.arn_lines.specs.declared.answer.Refusal.{Refusal}
use Rattle.arn_lines.specs.declared.line.Line.{Line}
use Rattle.arn_lines.specs.declared.line.Line.TheVariants as line
use Rattle.session_runs.specs.Ready.{machine_of}
use Rattle.session_runs.specs.Runs.{run}
use Rattle.session_runs.specs.Turns.{Point, does, prints}
use Rattle.session_commands.specs.Events.{event_effects, unplugging}
use Rattle.session_commands.specs.Given.{Given}
use Rattle.session_commands.specs.Refusals.{boot_refusal, bring_refusal, early_refusal, unplug_refusal}

pub record LineRow : Type 0 where
  -- why the line is refused on a history, if it is
  pub refusal : Option Refusal
  -- it goes on with the running machine
  pub needs_machine : Bool
  -- what it does that isn't refused, by the slices to come
  pub turn : Point
  -- how many instructions are executed for it at most, beside those of the slices that it takes and those for the machine
  pub cost : ℕ

-- a line whose input becomes an event
abbrev pub becomes : List Record → Option Refusal → Input → LineRow
becomes history refusal i = record {
  refusal = refusal;
  needs_machine = true;
  turn = does (event_effects (machine_of history) i) [];
  cost = 0;
}

-- a line that runs the machine
abbrev pub runs : List Record → Option Refusal → ℕ → LineRow
runs history refusal count = record { refusal = refusal; needs_machine = true; turn = run (machine_of history) count; cost = 0 }

-- a line that unplugs a device
abbrev pub unplugs : List Record → Option Refusal → ℕ → LineRow
unplugs history refusal device = record { refusal = refusal; needs_machine = true; turn = unplugging (machine_of history) device; cost = 0 }

-- a line that prints a text, and does nothing else
abbrev pub tells : List ℕ → ℕ → LineRow
tells text cost = record { refusal = None; needs_machine = false; turn = prints text; cost = cost }

-- the table. What a question lacks its answer says
abbrev pub row_of : Given → List Record → Line → LineRow
row_of g history (line.File name bytes) = becomes history (bring_refusal history name) (File name bytes)
row_of g history (line.Boot name) = becomes history (boot_refusal history name) (Boot name)
row_of g history (line.Type bytes) = becomes history (early_refusal history) (Typed bytes)
row_of g history (line.Run count) = runs history (early_refusal history) count
row_of g history (line.Unplug device) = unplugs history (unplug_refusal g.filled history device) device
row_of g history (line.Asks question) = tells (g.told.text history question) (g.told.cost history question)

-- all that a line does that isn't refused is to print this
abbrev pub LineTells : Given → List Record → Line → List ℕ → Type 0
LineTells g history l text = (row_of g history l).turn ≡ prints text
