-- Readiness, deliveries and slices at literal values.
use Rattle.std.proofs.Common.{◌≡◌, ℕ, List, [], ◌∷◌, map, Some, None, pos, true, false, refl}
use Rattle.arn_base.specs.declared.records.Extra.TheVariants as extra
use Rattle.arn_base.specs.declared.records.Record.TheVariants as entry
use Rattle.rv64_isa.specs.declared.instruction.Instr.TheVariants.{Imm}
use Rattle.rv64_isa.specs.declared.instruction.ImmOp.TheVariants.{Addi}
use Rattle.rv64_isa.specs.Decoded as decoding
use Rattle.rv64_model.specs.Registers.{with_register}
use Rattle.parts_model.specs.declared.open.Description.TheVariants as description
use Rattle.parts_model.specs.Replies.{TookBytes}
use Rattle.parts_model.specs.Signals.{with_handler, with_pending, no_handlers, none_pending}
use Rattle.acts_model.specs.Bodies.{seen, body_at, memory_at, put, remove}
use Rattle.acts_model.specs.Transfers.{Runs, Exits, Gives, Delivers, Dies}
use Rattle.acts_model.specs.Views.{cpu_at}
use Rattle.arn_model.specs.declared.run_state.RunState.TheVariants as state
use Rattle.arn_model.specs.Kernel.{Machine, Handling}
use Rattle.arn_model.specs.Row.{row, answered}
use Rattle.arn_model.specs.Run.{Slice, input_steps, after_input, events_of}
use Rattle.arn_model.specs.Step.{Step}
use Rattle.arn_model.specs.Turn.{is_possible, is_runnable, run_state}
use Rattle.arn_model.proofs.Literals.{minus, arguments, kernel, kernel_with, exit_7, standing, calm, signalled, transfers}

event_bytes : List Step → List (List ℕ)
event_bytes steps = map (λ s. s.bytes) steps

-- two instructions and the call: exit's recorded result is 0, and its event has the status byte
exiting : Machine
exiting = standing exit_7 (cpu_at 0x10000) None calm kernel

exit-ends :
    (transfers (input_steps exiting (Slice 1 9 None)) ≡ Runs 1 (Imm Addi 17 0 (pos 1)) None ∷ Runs 1 (Imm Addi 10 0 (pos 7)) None ∷ Exits 1 ∷ [])
    × (events_of (input_steps exiting (Slice 1 9 None)) ≡ record { number = 5; entry = entry.Call 1 1 0 extra.Nothing } ∷ [])
    × (event_bytes (input_steps exiting (Slice 1 9 None)) ≡ [] ∷ [] ∷ (7 ∷ []) ∷ [])
    × (run_state (after_input exiting (Slice 1 9 None)) ≡ state.Done)
unfolding exiting decoding.decoded_by row answered body_at memory_at put remove event_bytes
exit-ends = (refl, refl, refl, refl)

-- a slice of two instructions stops before the call
slice-short :
    (transfers (input_steps exiting (Slice 1 2 None)) ≡ Runs 1 (Imm Addi 17 0 (pos 1)) None ∷ Runs 1 (Imm Addi 10 0 (pos 7)) None ∷ [])
    × (seen (after_input exiting (Slice 1 2 None)).bodies 1 ≡
    Some (record {
      body =
          record { cpu = with_register (with_register (cpu_at 0x10008) 17 1) 10 7; slot = None; window = 1; segment = None };
      window = exit_7;
      segment = [];
    }))
unfolding exiting decoding.decoded_by row answered body_at memory_at put remove
slice-short = (refl, refl)

-- a slice ends behind a completed call: `ecall; li a7, 1`, where the call writes a byte
write_one : List ℕ
write_one = 0x73 ∷ 0x00 ∷ 0x00 ∷ 0x00 ∷ 0x93 ∷ 0x08 ∷ 0x10 ∷ 0x00 ∷ []

writing : Machine
writing = standing write_one (with_register (arguments 10 (1 ∷ 0x10000 ∷ 1 ∷ []) (cpu_at 0x10000)) 17 12) None calm kernel

call-ends :
    (events_of (input_steps writing (Slice 1 9 None)) ≡ record { number = 5; entry = entry.Call 1 12 1 (extra.Console (0x73 ∷ [])) } ∷ [])
    × (transfers (input_steps writing (Slice 1 9 None)) ≡ Gives 1 (Some (record { made = 1; at = 0x10000 })) 1 ∷ [])
    -- the result 1 is in x10, and pc has moved on
    × (seen (after_input writing (Slice 1 9 None)).bodies 1 ≡
    Some (record {
      body =
          record {
            cpu = with_register (arguments 10 (1 ∷ 0x10000 ∷ 1 ∷ []) (cpu_at 0x10004)) 17 12;
            slot = None;
            window = 1;
            segment = None;
          };
      window = write_one;
      segment = [];
    }))
unfolding writing write_one decoding.decoded_by row answered body_at memory_at put remove
call-ends = (refl, refl, refl)

-- a device's reply goes to the call that ends the slice
on_device : Machine
on_device =
    standing write_one (with_register (arguments 10 (3 ∷ 0x10000 ∷ 4 ∷ []) (cpu_at 0x10000)) 17 12) None calm (kernel_with (description.Device 7))

device-answers :
    (events_of (input_steps on_device (Slice 1 9 (Some (TookBytes 2)))) ≡ record { number = 5; entry = entry.Call 1 12 2 (extra.Sent 7 (0x73 ∷ 0 ∷ [])) } ∷ [])
    × (events_of (input_steps on_device (Slice 1 9 None)) ≡ record { number = 5; entry = entry.Call 1 12 (minus 19) extra.Absent } ∷ [])
unfolding on_device write_one decoding.decoded_by row answered body_at memory_at put remove
device-answers = (refl, refl)

-- it ends before a call that isn't ready: `li a7, 11; ecall` on the empty console
read_one : List ℕ
read_one = 0x93 ∷ 0x08 ∷ 0xb0 ∷ 0x00 ∷ 0x73 ∷ 0x00 ∷ 0x00 ∷ 0x00 ∷ []

reading : Machine
reading = standing read_one (arguments 10 (0 ∷ 0x10000 ∷ 1 ∷ []) (cpu_at 0x10000)) None calm kernel

call-waits :
    (transfers (input_steps reading (Slice 1 9 None)) ≡ Runs 1 (Imm Addi 17 0 (pos 11)) None ∷ [])
    × (run_state (after_input reading (Slice 1 9 None)) ≡ state.Stalled)
    × (run_state reading ≡ state.CanGoOn)
unfolding reading read_one decoding.decoded_by row answered body_at memory_at put remove
call-waits = (refl, refl, refl)

-- a process that stands at that call, with a handling
waiting : Handling → Machine
waiting handling = standing read_one (with_register (arguments 10 (0 ∷ 0x10000 ∷ 1 ∷ []) (cpu_at 0x10004)) 17 11) None handling kernel

waiting-unable : is_runnable (waiting calm) 1 ≡ false
unfolding waiting read_one decoding.decoded_by row answered body_at memory_at put remove
waiting-unable = refl

waiting-signalled : is_runnable (waiting (signalled 0)) 1 ≡ true
unfolding waiting read_one decoding.decoded_by row answered body_at memory_at put remove
waiting-signalled = refl

-- an end by fault: a word that is no instruction
faulting : Machine
faulting = standing (0 ∷ 0 ∷ 0 ∷ 0 ∷ []) (cpu_at 0x10000) None calm kernel

fault :
    (events_of (input_steps faulting (Slice 1 9 None)) ≡ record { number = 5; entry = entry.End 1 132 } ∷ [])
    × (event_bytes (input_steps faulting (Slice 1 9 None)) ≡ (132 ∷ []) ∷ [])
unfolding faulting decoding.decoded_by row answered body_at memory_at put remove event_bytes
fault = (refl, refl)

-- possible slices: 1 to 1,000,000 instructions of a process that can go on
possible-lengths :
    (is_possible exiting 1 1000000 ≡ true)
    × (is_possible exiting 1 1000001 ≡ false)
    × (is_possible exiting 1 0 ≡ false)
    × (is_possible exiting 2 1 ≡ false)
unfolding exiting decoding.decoded_by row answered body_at memory_at put remove
possible-lengths = (refl, refl, refl, refl)

possible-processes :
    (is_possible exiting 0 1 ≡ false)
    × (is_possible (waiting calm) 1 1 ≡ false)
    -- one that is not possible changes nothing
    × (input_steps (waiting calm) (Slice 1 1 None) ≡ [])
    -- one of no instruction delivers a signal
    × (is_possible (waiting (signalled 0)) 1 0 ≡ true)
unfolding exiting body_at put waiting read_one decoding.decoded_by row answered memory_at remove
possible-processes = (refl, refl, refl, refl)

-- but not where the slot holds it up
held_up : Machine
held_up = standing exit_7 (cpu_at 0x10000) (Some (cpu_at 0x10004)) (signalled 0) kernel

possible-held-up : is_possible held_up 1 0 ≡ false
unfolding held_up decoding.decoded_by row answered body_at memory_at put remove
possible-held-up = refl

-- a delivery to a handler at the last word of the program
handled : Machine
handled = standing exit_7 (with_register (cpu_at 0x10004) 17 1) None (signalled 0x10008) kernel

delivery-done :
    (events_of (input_steps handled (Slice 1 0 None)) ≡ record { number = 5; entry = entry.Signal 1 2 false 0x10008 } ∷ [])
    × (transfers (input_steps handled (Slice 1 0 None)) ≡ Delivers 1 false ∷ [])
    -- x10 is the signal, pc the handler, and the slot keeps what was interrupted
    × (seen (after_input handled (Slice 1 0 None)).bodies 1 ≡
    Some (record {
      body =
          record {
            cpu = with_register (with_register (cpu_at 0x10008) 17 1) 10 2;
            slot = Some (with_register (cpu_at 0x10004) 17 1);
            window = 1;
            segment = None;
          };
      window = exit_7;
      segment = [];
    }))
    -- the signal isn't pending any more, and the handler stays
    × ((after_input handled (Slice 1 0 None)).kernel ≡
    record kernel { handling = Some (record { handlers = with_handler no_handlers 2 0x10008; pending = none_pending }) ∷ [] })
unfolding handled decoding.decoded_by row answered body_at memory_at put remove
delivery-done = (refl, refl, refl, refl)

-- a delivery counts no instruction: a slice of one goes on with the handler's first, which exits with the signal's number
delivery-on :
    (events_of (input_steps handled (Slice 1 1 None)) ≡
    record { number = 5; entry = entry.Signal 1 2 false 0x10008 } ∷ record { number = 6; entry = entry.Call 1 1 0 extra.Nothing } ∷ [])
    × (event_bytes (input_steps handled (Slice 1 1 None)) ≡ [] ∷ (2 ∷ []) ∷ [])
    -- at a call that isn't ready, that call first ends: the slot keeps -4 in x10, and pc behind the call
    × (events_of (input_steps (waiting (signalled 0x10000)) (Slice 1 0 None)) ≡ record { number = 5; entry = entry.Signal 1 2 true 0x10000 } ∷ [])
    × (seen (after_input (waiting (signalled 0x10000)) (Slice 1 0 None)).bodies 1 ≡
    Some (record {
      body =
          record {
            cpu = with_register (arguments 10 (2 ∷ 0x10000 ∷ 1 ∷ []) (cpu_at 0x10000)) 17 11;
            slot = Some (with_register (arguments 10 (minus 4 ∷ 0x10000 ∷ 1 ∷ []) (cpu_at 0x10008)) 17 11);
            window = 1;
            segment = None;
          };
      window = read_one;
      segment = [];
    }))
unfolding handled decoding.decoded_by row answered body_at memory_at put remove event_bytes waiting read_one
delivery-on = (refl, refl, refl, refl)

-- without a handler the process ends with 128 + 2
death :
    (events_of (input_steps (waiting (signalled 0)) (Slice 1 9 None)) ≡ record { number = 5; entry = entry.Signal 1 2 true 0 } ∷ [])
    × (transfers (input_steps (waiting (signalled 0)) (Slice 1 9 None)) ≡ Dies 1 ∷ [])
    × (event_bytes (input_steps (waiting (signalled 0)) (Slice 1 9 None)) ≡ (130 ∷ []) ∷ [])
    × (seen (after_input (waiting (signalled 0)) (Slice 1 9 None)).bodies 1 ≡ None)
unfolding waiting read_one decoding.decoded_by row answered body_at memory_at put remove event_bytes
death = (refl, refl, refl, refl)

death-kernel : (after_input (waiting (signalled 0)) (Slice 1 9 None)).kernel ≡ record kernel { processes = None ∷ []; handling = None ∷ []; descriptions = None ∷ [] }
unfolding waiting read_one decoding.decoded_by row answered body_at memory_at put remove
death-kernel = refl

-- signal 9 isn't held up by a filled slot, and comes before a lower one: 128 + 9
killed : Machine
killed =
    standing exit_7 (cpu_at 0x10000) (Some (cpu_at 0x10004))
    (record { handlers = no_handlers; pending = with_pending (with_pending none_pending 2 true) 9 true }) kernel

kill :
    (events_of (input_steps killed (Slice 1 9 None)) ≡ record { number = 5; entry = entry.Signal 1 9 false 0 } ∷ [])
    × (event_bytes (input_steps killed (Slice 1 9 None)) ≡ (137 ∷ []) ∷ [])
unfolding killed decoding.decoded_by row answered body_at memory_at put remove event_bytes
kill = (refl, refl)
