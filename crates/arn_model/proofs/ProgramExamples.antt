-- A program that reads three bytes, writes them and exits, run to its end.
use Rattle.std.proofs.Common.{◌≡◌, ℕ, List, [], ◌∷◌, ◌++◌, replicate, None, refl}
use Rattle.arn_base.specs.declared.records.Extra.TheVariants as extra
use Rattle.arn_base.specs.declared.records.Record.TheVariants as entry
use Rattle.rv64_isa.specs.Decoded as decoding
use Rattle.rv64_model.specs.Registers.{with_register}
use Rattle.acts_model.specs.Bodies.{nobody, body_at, memory_at, put, remove}
use Rattle.acts_model.specs.Views.{cpu_at}
use Rattle.arn_model.specs.declared.run_state.RunState.TheVariants as state
use Rattle.arn_model.specs.Kernel.{Machine}
use Rattle.arn_model.specs.Row.{row, answered}
use Rattle.arn_model.specs.Run.{Input, Typed, Slice, steps_from, machine_from, events_of, instructions_in}
use Rattle.arn_model.specs.Turn.{run_state}
use Rattle.arn_model.proofs.Literals.{kernel}

-- `li a7, 11; li a0, 0; addi a1, sp, -16; li a2, 3; ecall; li a7, 12; li a0, 1; ecall; li a7, 1; li a0, 0; ecall`
program : List ℕ
program =
    0x93 ∷ 8 ∷ 0xb0 ∷ 0 ∷ 0x13 ∷ 5 ∷ 0 ∷ 0 ∷ 0x93 ∷ 5 ∷ 1 ∷ 0xff ∷ 0x13 ∷ 6 ∷ 0x30 ∷ 0 ∷ 0x73 ∷ 0 ∷ 0 ∷ 0
    ∷ 0x93 ∷ 8 ∷ 0xc0 ∷ 0 ∷ 0x13 ∷ 5 ∷ 0x10 ∷ 0 ∷ 0x73 ∷ 0 ∷ 0 ∷ 0 ∷ 0x93 ∷ 8 ∷ 0x10 ∷ 0 ∷ 0x13 ∷ 5 ∷ 0 ∷ 0
    ∷ 0x73 ∷ 0 ∷ 0 ∷ 0 ∷ []

-- process 1 stands at its first word, with 16 bytes behind the program, at whose end x2 stands
machine : Machine
machine =
    record {
      bodies =
          put 1
          (record {
            body = record { cpu = with_register (cpu_at 0x10000) 2 0x1003c; slot = None; window = 1; segment = None };
            window = program ++ replicate 16 0;
            segment = [];
          })
          nobody;
      kernel = kernel;
      events = 2;
    }

-- it gets as far as its read, `abc` is typed, and it takes three slices
inputs : List Input
inputs = Slice 1 1000 None ∷ Typed (97 ∷ 98 ∷ 99 ∷ []) ∷ Slice 1 1000 None ∷ Slice 1 1000 None ∷ Slice 1 1000 None ∷ []

-- what is read is from the typed piece
run :
    (events_of (steps_from machine inputs) ≡
    record { number = 2; entry = entry.Typed (97 ∷ 98 ∷ 99 ∷ []) }
    ∷ record {
      number = 3;
      entry =
          entry.Call 1 11 3 (extra.Give (record { bytes = 97 ∷ 98 ∷ 99 ∷ []; origins = record { event = 2; at = 0; len = 3 } ∷ [] }));
    }
    ∷ record { number = 4; entry = entry.Call 1 12 3 (extra.Console (97 ∷ 98 ∷ 99 ∷ [])) }
    ∷ record { number = 5; entry = entry.Call 1 1 0 extra.Nothing }
    ∷ [])
    × (instructions_in (steps_from machine inputs) ≡ 11)
unfolding machine inputs program decoding.decoded_by row answered body_at memory_at put remove
run = (refl, refl)

run-done : run_state (machine_from machine inputs) ≡ state.Done
unfolding machine inputs program decoding.decoded_by row answered body_at memory_at put remove
run-done = refl
