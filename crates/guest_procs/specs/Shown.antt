-- What the table's processes are seen as.
use Rattle.std.specs.Prelude.{List, map, Option, option_map}
use Rattle.guest_procs.specs.declared.process.Process as code
use Rattle.guest_procs.specs.declared.process.Life as code_life
use Rattle.guest_procs.specs.declared.process.Life.TheVariants as life
use Rattle.guest_procs.specs.Status.{status_byte}
use Rattle.parts_model.specs.Processes.{Life, Live, Ended, Process, Processes}

abbrev pub life_of : code_life.Life → Life
life_of life.Live = Live
life_of (life.Ended status event) = Ended (status_byte status event)

-- a process
abbrev pub process_of : code.Process → Process
process_of p = record { life = life_of p.life; parent = p.parent; descriptors = p.descriptors }

-- a process that may be gone
abbrev pub shown : Option code.Process → Option Process
shown p = option_map process_of p

-- all of them
abbrev pub shown_all : List (Option code.Process) → Processes
shown_all all = map shown all
