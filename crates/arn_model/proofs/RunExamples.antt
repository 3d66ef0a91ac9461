-- Inputs, moments and past states at literal values.
use Rattle.std.proofs.Common.{◌≡◌, ℕ, List, [], ◌∷◌, ◌++◌, length, map, replicate, codes, Some, None, pos, false, refl}
use Rattle.arn_base.specs.declared.records.Extra.TheVariants as extra
use Rattle.arn_base.specs.declared.records.Record.TheVariants as entry
use Rattle.rv64_isa.specs.declared.instruction.Instr.TheVariants.{Imm}
use Rattle.rv64_isa.specs.declared.instruction.ImmOp.TheVariants.{Addi}
use Rattle.rv64_isa.specs.Decoded as decoding
use Rattle.acts_model.specs.Bodies.{nobody, body_at, memory_at, put, remove}
use Rattle.acts_model.specs.Moved.{Outside, ConsoleByte, FileByte}
use Rattle.acts_model.specs.Transfers.{Arrives, Runs, Exits, Delivers}
use Rattle.acts_model.specs.Views.{cpu_at}
use Rattle.arn_model.specs.Kernel.{Kernel, Machine, Handling, at_first, booted}
use Rattle.arn_model.specs.Row.{row, answered}
use Rattle.arn_model.specs.Run.{Input, File, Boot, Typed, Unplug, Slice, input_steps, after_input, steps_from, run, machine_after, events_of, instructions_in, within, state_at, unplug_step}
use Rattle.arn_model.specs.Step.{Step}
use Rattle.arn_model.proofs.Literals.{byte, files_held, kernel, at_event_5, exit_7, standing, calm, signalled, transfers}

-- a boot file `a` of three bytes is event 0
file_a : Input
file_a = File (97 ∷ []) (1 ∷ 2 ∷ 3 ∷ [])

machine_with_a : Machine
machine_with_a =
    record {
      bodies = nobody;
      kernel =
          record {
            processes = [];
            handling = [];
            console = record { taken = 0; queue = [] };
            pipes = [];
            files = files_held 0;
            descriptions = [];
            ports = [];
            unplugged = [];
          };
      events = 1;
    }

file-comes :
    (machine_after (file_a ∷ []) ≡ machine_with_a)
    × (events_of (run (file_a ∷ [])) ≡ record { number = 0; entry = entry.File (97 ∷ []) (1 ∷ 2 ∷ 3 ∷ []) } ∷ [])
    -- its bytes come from outside, and become those of file 0
    × (map (λ s. s.moved) (run (file_a ∷ [])) ≡
    record {
      inside =
          record {
            actor = None;
            before = cpu_at 0;
            transfer = Arrives 3;
            event = Some (record { number = 0; entry = entry.File (97 ∷ []) (1 ∷ 2 ∷ 3 ∷ []) });
          };
      incoming = Outside;
      outgoing = Some (record { first = FileByte 0 0; len = 3 });
    }
    ∷ [])
unfolding file_a machine_with_a
file-comes = (refl, refl, refl)

-- a name that is taken, and one without bytes or with 65, are refused
file-refused :
    (input_steps machine_with_a (File (97 ∷ []) (4 ∷ [])) ≡ [])
    × (input_steps machine_with_a (File [] (4 ∷ [])) ≡ [])
    × (input_steps machine_with_a (File (replicate 65 98) (4 ∷ [])) ≡ [])
unfolding machine_with_a
file-refused = (refl, refl, refl)

-- so is a boot from a file that there isn't, or that is no image, and what is typed before boot
boot-early :
    (input_steps machine_with_a (Boot (98 ∷ [])) ≡ [])
    × (input_steps machine_with_a (Boot (97 ∷ [])) ≡ [])
    × (input_steps machine_with_a (Typed (5 ∷ [])) ≡ [])
    × (input_steps machine_with_a (Unplug 7) ≡ [])
    × (input_steps machine_with_a (Slice 1 1 None) ≡ [])
unfolding machine_with_a body_at
boot-early = (refl, refl, refl, refl, refl)

-- the kernel at boot: process 1 has descriptors 0, 1 and 2 on the console
boot-done :
    (booted machine_with_a.kernel ≡ kernel)
    -- after it no file is added, there is no second boot, and a device is unplugged once
    × (input_steps (at_event_5 kernel) (File (98 ∷ []) (4 ∷ [])) ≡ [])
unfolding machine_with_a
boot-done = (refl, refl)

image : List ℕ
image = codes "ARNIMG01" ++ (0 ∷ 0 ∷ 1 ∷ 0 ∷ 0 ∷ 0 ∷ 0 ∷ 0 ∷ 0 ∷ 0 ∷ 1 ∷ 0 ∷ 0 ∷ 0 ∷ 0 ∷ 0 ∷ 0x73 ∷ 0 ∷ 0 ∷ 0 ∷ [])

with_image : Kernel
with_image =
    record kernel {
      files =
          record {
            all = Some (record { bytes = map (λ b. byte b 0 0) image; holders = 0 }) ∷ [];
            names = record { path = 98 ∷ []; file = 0 } ∷ [];
          };
    }

typed-behind :
    (input_steps (at_event_5 with_image) (Boot (98 ∷ [])) ≡ [])
    × (input_steps (at_event_5 (record kernel { unplugged = 7 ∷ [] })) (Unplug 7) ≡ [])
    -- what is typed goes behind the console's queue
    × ((after_input (at_event_5 (record kernel { console = record { taken = 4; queue = byte 10 2 0 ∷ [] } })) (Typed (5 ∷ 6 ∷ []))).kernel ≡
    record kernel { console = record { taken = 4; queue = byte 10 2 0 ∷ byte 5 5 0 ∷ byte 6 5 1 ∷ [] } })
    × (map (λ s. s.moved.outgoing) (input_steps (at_event_5 (record kernel { console = record { taken = 4; queue = byte 10 2 0 ∷ [] } })) (Typed (5 ∷ 6 ∷ []))) ≡
    Some (record { first = ConsoleByte 5; len = 2 }) ∷ [])
unfolding with_image image
typed-behind = (refl, refl, refl, refl)

-- a device that is unplugged is an event without bytes
unplugs :
    ((unplug_step (at_event_5 kernel) 7).after.kernel ≡ record kernel { unplugged = 7 ∷ [] })
    × (events_of (unplug_step (at_event_5 kernel) 7 ∷ []) ≡ record { number = 5; entry = entry.Unplug 7 } ∷ [])
    -- it is unplugged where another was before, and not before the boot
    × (events_of (input_steps (at_event_5 (record kernel { unplugged = 7 ∷ [] })) (Unplug 8)) ≡ record { number = 5; entry = entry.Unplug 8 } ∷ [])
    × (input_steps at_first (Unplug 7) ≡ [])
unplugs = (refl, refl, refl, refl)

-- process 1 runs `li a7, 1; li a0, 7; ecall`, with signal 2 pending and a handler, or calm
abbrev exit_machine : Handling → Machine
exit_machine handling = standing exit_7 (cpu_at 0x10000) None handling kernel

-- an instruction, a typed piece, and the rest
steps : List Step
steps = steps_from (exit_machine calm) (Slice 1 1 None ∷ Typed (5 ∷ []) ∷ Slice 1 9 None ∷ [])

steps-in-order : transfers steps ≡ Runs 1 (Imm Addi 17 0 (pos 1)) None ∷ Arrives 1 ∷ Runs 1 (Imm Addi 10 0 (pos 7)) None ∷ Exits 1 ∷ []
unfolding steps decoding.decoded_by row answered body_at memory_at put remove
steps-in-order = refl

-- three of them are instructions, two are events
instructions : instructions_in steps ≡ 3
unfolding steps decoding.decoded_by row answered body_at memory_at put remove
instructions = refl

moments :
    (events_of steps ≡
    record { number = 5; entry = entry.Typed (5 ∷ []) } ∷ record { number = 6; entry = entry.Call 1 1 0 extra.Nothing } ∷ [])
    -- a moment includes what comes before the next instruction
    × (transfers (within 0 steps) ≡ [])
    × (transfers (within 1 steps) ≡ Runs 1 (Imm Addi 17 0 (pos 1)) None ∷ Arrives 1 ∷ [])
    × (transfers (within 2 steps) ≡ Runs 1 (Imm Addi 17 0 (pos 1)) None ∷ Arrives 1 ∷ Runs 1 (Imm Addi 10 0 (pos 7)) None ∷ [])
    × (length (within 3 steps) ≡ 4)
unfolding steps decoding.decoded_by row answered body_at memory_at put remove
moments = (refl, refl, refl, refl, refl)

-- also a delivery
moment-first :
    (transfers (within 0 (steps_from (exit_machine (signalled 0x10004)) (Slice 1 1 None ∷ []))) ≡ Delivers 1 false ∷ [])
    -- before any instruction all that has come from outside is there
    × (state_at (file_a ∷ Typed (5 ∷ []) ∷ []) 0 ≡ machine_with_a)
unfolding decoding.decoded_by row answered body_at memory_at put remove file_a machine_with_a
moment-first = (refl, refl)
