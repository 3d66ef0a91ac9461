-- What the kernel keeps, and the whole machine.
use Rattle.std.specs.Prelude.{ℕ, ◌+◌, ◌-◌, nat_lt, Bool, if◌then◌else◌, List, [], ◌∷◌, ◌++◌, length, Option, Some, None, option_map, option_and_then, unwrap_or, slice_set}
use Rattle.parts_model.specs.declared.open.Conn.{Conn}
use Rattle.parts_model.specs.declared.open.Description.{Description}
use Rattle.parts_model.specs.declared.open.Description.TheVariants.{Console, File, Reader, Writer, Connection, Listener, Device}
use Rattle.parts_model.specs.declared.tagged.TaggedByte.{TaggedByte}
use Rattle.parts_model.specs.Channel.{Channel, no_bytes}
use Rattle.parts_model.specs.Files as files
use Rattle.parts_model.specs.Files.{Files, no_files}
use Rattle.parts_model.specs.Numbered.{nth, nth_from_one, with_nth_from_one}
use Rattle.parts_model.specs.Pipes.{Pipes, End, ReadEnd, WriteEnd, end_closed}
use Rattle.parts_model.specs.Ports.{Port, Ports, port_at, freed}
use Rattle.parts_model.specs.Processes as table
use Rattle.parts_model.specs.Processes.{Process, Processes, process, lowest_free}
use Rattle.parts_model.specs.Signals.{no_handlers, none_pending}
use Rattle.acts_model.specs.Bodies.{Bodies, nobody}

-- the signals of a live process: its handlers, and those that are pending
pub record Handling : Type 0 where
  pub handlers : List ℕ
  pub pending : List Bool

-- an open description: what it is, and how many descriptors stand for it
pub record Opened : Type 0 where
  pub what : Description
  pub descriptors : ℕ

-- Handling is by process as the table is; descriptions are numbered from 0 in the order of their making, and one without descriptors is gone.
pub record Kernel : Type 0 where
  pub processes : Processes
  pub handling : List (Option Handling)
  pub console : Channel
  pub pipes : Pipes
  pub files : Files
  pub descriptions : List (Option Opened)
  pub ports : Ports
  -- the devices that were unplugged
  pub unplugged : List ℕ

pub record Machine : Type 0 where
  pub bodies : Bodies
  pub kernel : Kernel
  -- how many events there have been
  pub events : ℕ

-- before anything has come from outside
abbrev pub at_first : Machine
at_first =
    record {
      bodies = nobody;
      kernel =
          record {
            processes = [];
            handling = [];
            console = no_bytes;
            pipes = [];
            files = no_files;
            descriptions = [];
            ports = [];
            unplugged = [];
          };
      events = 0;
    }

-- the status byte of a process that ends at an event
abbrev pub status_at : ℕ → ℕ → TaggedByte
status_at event status = record { value = status; origin = record { event = event; at = 0 } }

-- the description for which a descriptor of a process stands, if it is open
abbrev pub description_of : Kernel → ℕ → ℕ → Option ℕ
description_of k pid fd = option_and_then (λ p. table.descriptor p fd) (process k.processes pid)

abbrev pub what_is : Kernel → ℕ → Option Description
what_is k n = option_map (λ o. o.what) (nth k.descriptions n)

-- what a descriptor of a process stands for
abbrev pub opened : Kernel → ℕ → ℕ → Option Description
opened k pid fd = option_and_then (what_is k) (description_of k pid fd)

-- the number of the next descriptor of a process, 0 where it has no room
abbrev pub next_descriptor : Kernel → ℕ → ℕ
next_descriptor k pid = unwrap_or (option_and_then lowest_free (process k.processes pid)) 0

-- how many more a process may open
abbrev pub room_for : Kernel → ℕ → ℕ
room_for k pid = unwrap_or (option_map table.free_descriptors (process k.processes pid)) 0

-- the lowest free descriptor of a process stands for a description
abbrev pub placed : ℕ → ℕ → Kernel → Kernel
placed pid n k = record k { processes = table.with_change k.processes pid (table.placed n) }

-- a new description, for which one descriptor of a process stands
abbrev pub with_new : Description → Kernel → Kernel
with_new what k = record k { descriptions = k.descriptions ++ Some (record { what = what; descriptors = 1 }) ∷ [] }

abbrev pub opens : ℕ → Description → Kernel → Kernel
opens pid what k = placed pid (length k.descriptions) (with_new what k)

-- other descriptors for a description that is there
abbrev pub with_count : (ℕ → ℕ) → Opened → Opened
with_count change o = record o { descriptors = change o.descriptors }

abbrev pub also_held : ℕ → Kernel → Kernel
also_held n k = record k { descriptions = slice_set k.descriptions n (option_map (with_count (λ c. c + 1)) (nth k.descriptions n)) }

-- each of these that is open has one more
abbrev pub all_also_held : List (Option ℕ) → Kernel → Kernel
all_also_held [] k = k
all_also_held (None ∷ ns) k = all_also_held ns k
all_also_held (Some n ∷ ns) k = all_also_held ns (also_held n k)

-- an end of a pipe closes
abbrev pub without_end : ℕ → End → Kernel → Kernel
without_end pipe end k = record k { pipes = end_closed k.pipes pipe end }

-- both ends that one side of a connection has
abbrev pub without_side : ℕ → ℕ → Kernel → Kernel
without_side reads writes k = without_end writes WriteEnd (without_end reads ReadEnd k)

-- the server's side of connections that nobody accepts any more
abbrev pub without_servers : List Conn → Kernel → Kernel
without_servers [] k = k
without_servers (conn ∷ conns) k = without_servers conns (without_side conn.to_server conn.to_client k)

-- a port is free again, and what waited there has no server
abbrev pub without_port : ℕ → Option Port → Kernel → Kernel
without_port number None k = k
without_port number (Some p) k = without_servers p.waiting (record k { ports = freed k.ports number })

-- what ends with the last descriptor of a description
abbrev pub closed : Description → Kernel → Kernel
closed Console k = k
closed (File file position) k = record k { files = files.released k.files file }
closed (Reader pipe) k = without_end pipe ReadEnd k
closed (Writer pipe) k = without_end pipe WriteEnd k
closed (Connection reads writes) k = without_side reads writes k
closed (Listener port) k = without_port port (port_at k.ports port) k
closed (Device device) k = k

-- one descriptor fewer: a description without any is gone
abbrev pub less_held : ℕ → Option Opened → Kernel → Kernel
less_held n None k = k
less_held n (Some o) k =
    if nat_lt 1 o.descriptors then record k { descriptions = slice_set k.descriptions n (Some (with_count (λ c. c - 1) o)) }
    else closed o.what (record k { descriptions = slice_set k.descriptions n None })

abbrev pub dropped : ℕ → Kernel → Kernel
dropped n k = less_held n (nth k.descriptions n) k

abbrev pub all_dropped : List (Option ℕ) → Kernel → Kernel
all_dropped [] k = k
all_dropped (None ∷ ns) k = all_dropped ns k
all_dropped (Some n ∷ ns) k = all_dropped ns (dropped n k)

-- a descriptor of a process that stands for this description closes
abbrev pub closes : ℕ → ℕ → ℕ → Kernel → Kernel
closes pid fd n k = dropped n (record k { processes = table.with_change k.processes pid (table.with_descriptor fd None) })

-- another description in the place of one: a file's position has moved
abbrev pub with_what : Description → Opened → Opened
with_what what o = record o { what = what }

abbrev pub with_description : ℕ → Description → Kernel → Kernel
with_description n what k = record k { descriptions = slice_set k.descriptions n (option_map (with_what what) (nth k.descriptions n)) }

-- what a process has open
abbrev pub descriptors_of : Kernel → ℕ → List (Option ℕ)
descriptors_of k pid = unwrap_or (option_map (λ p. p.descriptors) (process k.processes pid)) []

-- the handling of process n, if it lives
abbrev pub handling_of : Kernel → ℕ → Option Handling
handling_of k pid = nth_from_one k.handling pid

abbrev pub with_handling : ℕ → (Handling → Handling) → Kernel → Kernel
with_handling pid change k = record k { handling = with_nth_from_one k.handling pid (option_map change (handling_of k pid)) }

-- a process ends with a status byte: its descriptors are closed, and its children have no parent from then on
abbrev pub ended : ℕ → TaggedByte → Kernel → Kernel
ended pid status k =
    let k' = all_dropped (descriptors_of k pid) k in
    record k' { processes = table.ended k'.processes pid status; handling = with_nth_from_one k'.handling pid None }

-- a process without handlers and pending signals
abbrev pub no_handling : Handling
no_handling = record { handlers = no_handlers; pending = none_pending }

-- process 1: descriptors 0, 1 and 2 are the console
abbrev pub booted : Kernel → Kernel
booted k =
    let k' = record k { processes = table.booted k.processes; handling = k.handling ++ Some no_handling ∷ [] } in
    let k'' = opens 1 Console k' in
    placed 1 0 (also_held 0 (placed 1 0 (also_held 0 k'')))

-- a child has copies of its parent's handlers and descriptors, and nothing pending
abbrev pub child_handling : Handling → Handling
child_handling h = record h { pending = none_pending }

abbrev pub forked : ℕ → Kernel → Kernel
forked pid k =
    all_also_held (descriptors_of k pid)
    (record k { processes = table.forked k.processes pid; handling = k.handling ++ option_map child_handling (handling_of k pid) ∷ [] })
