-- A kernel as it is kept, and what is shown of it.
use Rattle.std.specs.Prelude.{◌≡◌, ◌≤◌, ℕ, nat_lt, Bool, false, List, [], length, Option, IfSome, is_some}
use Rattle.parts_model.specs.declared.limits.TheConstants.{MOST_DESCRIPTORS, MOST_FILES}
use Rattle.parts_model.specs.Files.{Files}
use Rattle.parts_model.specs.Numbered.{nth, how_many}
use Rattle.parts_model.specs.Processes.{Process, Processes, process, live_process}
use Rattle.acts_model.specs.Bodies.{Bodies}
use Rattle.arn_model.specs.Kernel.{Opened}
use Rattle.guest_bodies.specs.Follows.{Shows}
use Rattle.guest_bodies.specs.Fresh.{IsUnheld}
use Rattle.guest_bodies.specs.Shown.{Guests}
use Rattle.guest_requests.specs.Tables.{tables_of}
use Rattle.guest_calls.specs.State.{State}
use Rattle.guest_calls.specs.declared.kernel.Kernel.TheInside.{Inside}

abbrev pub state_of : Inside → State
state_of k =
    record {
      guests = k.bodies;
      kernel = (tables_of k.bodies k.procs k.resources k.channels k.console k.unplugged).kernel;
      events = k.events;
    }

-- a process has all its descriptors, open or not
abbrev pub IsFull : Process → Type 0
IsFull p = length p.descriptors ≡ MOST_DESCRIPTORS

-- all files that were made are there, and these are few
pub record AreFew (files : Files) : Type 0 where
  pub there : length files.all ≡ how_many files.all
  pub most : how_many files.all ≤ MOST_FILES

-- Memories are named by events that have been: these bodies show what processes see, and hold no memory that an event to come makes.
pub record IsPast (guests : Guests) (events : ℕ) : Type 0 where
  pub bodies : Bodies
  pub shows : Shows guests bodies
  pub unheld : (event : ℕ) → events ≤ event → IsUnheld event bodies

-- The processes that live are those with a body. Before there is one, no file is taken away and nothing is open.
pub record IsSound (guests : Guests) (processes : Processes) (files : Files) (descriptions : List (Option Opened)) (booted : Bool) (events : ℕ) : Type 0 where
  pub made : booted ≡ nat_lt 0 (length processes)
  pub alive : (p : ℕ) → is_some (nth guests p) ≡ is_some (live_process processes p)
  pub full : (p : ℕ) → IfSome (process processes p) IsFull
  pub before : booted ≡ false → AreFew files
  pub closed : booted ≡ false → descriptions ≡ []
  pub past : IsPast guests events

abbrev pub IsKept : Inside → Type 0
IsKept k = IsSound k.bodies k.procs k.resources.files k.resources.descriptions k.booted k.events
