-- Small machines and views, for examples.
use Rattle.std.proofs.Common.{ℕ, ◌+◌, ◌-◌, List, [], ◌∷◌, ◌++◌, map, take, Option, Some, None, true}
use Rattle.arn_base.specs.declared.machine.Cpu.{Cpu}
use Rattle.arn_base.specs.declared.records.Extra.TheVariants as extra
use Rattle.parts_model.specs.declared.open.Description.{Description}
use Rattle.parts_model.specs.declared.open.Description.TheVariants.{Console}
use Rattle.parts_model.specs.declared.tagged.TaggedByte.{TaggedByte}
use Rattle.parts_model.specs.Files.{Files}
use Rattle.parts_model.specs.Processes.{Process, Processes, Live, none_open}
use Rattle.parts_model.specs.Signals.{with_handler, with_pending, no_handlers, none_pending}
use Rattle.rv64_model.specs.Registers.{with_register}
use Rattle.acts_model.specs.Acts.{Returns}
use Rattle.acts_model.specs.Bodies.{View, nobody, put}
use Rattle.acts_model.specs.Moved.{Nothing}
use Rattle.acts_model.specs.Transfers.{Transfer}
use Rattle.acts_model.specs.Views.{cpu_at}
use Rattle.arn_model.specs.Doing.{Doing, Request, Does}
use Rattle.arn_model.specs.Kernel.{Handling, Opened, Kernel, Machine}
use Rattle.arn_model.specs.Step.{Step}

-- an error as a result
abbrev pub minus : ℕ → ℕ
minus number = 0x10000000000000000 - number

-- registers with arguments from x10 on
abbrev pub arguments : ℕ → List ℕ → Cpu → Cpu
arguments r [] cpu = cpu
arguments r (a ∷ more) cpu = arguments (r + 1) more (with_register cpu r a)

-- what a process sees that holds a window of the bytes `a`, `b`, 7, 8, 9, 0, 0, 0 and calls with arguments
abbrev pub calling : List ℕ → View
calling values =
    record {
      body = record { cpu = arguments 10 values (cpu_at 0x10000); slot = None; window = 1; segment = None };
      window = 97 ∷ 98 ∷ 7 ∷ 8 ∷ 9 ∷ 0 ∷ 0 ∷ 0 ∷ [];
      segment = [];
    }

-- a byte of an event
abbrev pub byte : ℕ → ℕ → ℕ → TaggedByte
byte value event at = record { value = value; origin = record { event = event; at = at } }

-- sixteen descriptors, of which these come first and the rest are free
abbrev pub open_as : List (Option ℕ) → List (Option ℕ)
open_as first = take 16 (first ++ none_open)

-- a live process
abbrev pub living : Option ℕ → List (Option ℕ) → Option Process
living parent first = Some (record { life = Live; parent = parent; descriptors = open_as first })

-- process 1 alone
abbrev pub alone : List (Option ℕ) → Processes
alone first = living None first ∷ []

-- an open description
abbrev pub opening : Description → ℕ → Option Opened
opening what descriptors = Some (record { what = what; descriptors = descriptors })

-- neither handlers nor pending signals
abbrev pub quiet : Option Handling
quiet = Some (record { handlers = no_handlers; pending = none_pending })

-- file 0, named `a`, with the bytes 1, 2, 3 of event 0, and so many holders
abbrev pub files_held : ℕ → Files
files_held holders =
    record {
      all = Some (record { bytes = byte 1 0 0 ∷ byte 2 0 1 ∷ byte 3 0 2 ∷ []; holders = holders }) ∷ [];
      names = record { path = 97 ∷ []; file = 0 } ∷ [];
    }

-- process 1 has descriptors 0, 1 and 2 on the console, and file 0 is held by nobody
abbrev pub kernel : Kernel
kernel =
    record {
      processes = alone (Some 0 ∷ Some 0 ∷ Some 0 ∷ []);
      handling = quiet ∷ [];
      console = record { taken = 0; queue = [] };
      pipes = [];
      files = files_held 0;
      descriptions = opening Console 3 ∷ [];
      ports = [];
      unplugged = [];
    }

-- it has a fourth descriptor besides, on description 1
abbrev pub kernel_with : Description → Kernel
kernel_with what =
    record kernel { processes = alone (Some 0 ∷ Some 0 ∷ Some 0 ∷ Some 1 ∷ []); descriptions = opening Console 3 ∷ opening what 1 ∷ [] }

-- it has sixteen descriptors
abbrev pub crowded : Kernel → Kernel
crowded k =
    record k {
      processes =
          alone
          (Some 0 ∷ Some 0 ∷ Some 0 ∷ Some 1 ∷ Some 0 ∷ Some 0 ∷ Some 0 ∷ Some 0 ∷ Some 0 ∷ Some 0 ∷ Some 0 ∷ Some 0 ∷ Some 0 ∷ Some 0 ∷ Some 0 ∷ Some 0 ∷ []);
    }

-- a machine before its event 5. Calls don't look at bodies
abbrev pub at_event_5 : Kernel → Machine
at_event_5 k = record { bodies = nobody; kernel = k; events = 5 }

-- a call ends with a result, moves nothing and leaves the kernel so
abbrev pub results : ℕ → Kernel → Request
results result k = Does (record { act = Returns result; extra = extra.Nothing; incoming = Nothing; outgoing = None; bytes = []; kernel = k })

-- what a call does, where it does something without a question
abbrev pub doing_in : Request → Option Doing
doing_in (Does d) = Some d
doing_in _ = None

-- `li a7, 1; li a0, 7; ecall`
abbrev pub exit_7 : List ℕ
exit_7 = 0x93 ∷ 0x08 ∷ 0x10 ∷ 0x00 ∷ 0x13 ∷ 0x05 ∷ 0x70 ∷ 0x00 ∷ 0x73 ∷ 0x00 ∷ 0x00 ∷ 0x00 ∷ []

-- process 1 alone, before event 5, with a window of these bytes and these registers, its slot and its handling
abbrev pub standing : List ℕ → Cpu → Option Cpu → Handling → Kernel → Machine
standing bytes cpu slot handling k =
    record {
      bodies = put 1 (record { body = record { cpu = cpu; slot = slot; window = 1; segment = None }; window = bytes; segment = [] }) nobody;
      kernel = record k { handling = Some handling ∷ [] };
      events = 5;
    }

abbrev pub calm : Handling
calm = record { handlers = no_handlers; pending = none_pending }

-- signal 2 is pending, with a handler or without one
abbrev pub signalled : ℕ → Handling
signalled handler = record { handlers = with_handler no_handlers 2 handler; pending = with_pending none_pending 2 true }

abbrev pub transfers : List Step → List Transfer
transfers steps = map (λ s. s.moved.inside.transfer) steps
