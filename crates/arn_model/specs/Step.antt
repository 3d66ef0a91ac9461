-- An atomic step: one instruction, one whole call or one delivery of one process, or one thing that comes from outside.
use Rattle.std.specs.Prelude.{ℕ, ◌+◌, ◌==◌, Bool, false, if◌then◌else◌, List, [], ◌∷◌, Option, Some, None, option_map, is_some, unwrap_or}
use Rattle.arn_base.specs.declared.machine.Cpu.{Cpu}
use Rattle.arn_base.specs.Window.{Window}
use Rattle.arn_base.specs.declared.records.Extra.TheVariants as extra
use Rattle.arn_base.specs.declared.records.Record.{Record}
use Rattle.arn_base.specs.declared.records.Record.TheVariants as entry
use Rattle.rv64_isa.specs.declared.instruction.Instr.{Instr}
use Rattle.rv64_model.specs.Instruction.{Effect, Next, Call, End}
use Rattle.parts_model.specs.Replies.{Answered}
use Rattle.parts_model.specs.Signals.{due, handler_of, with_pending}
use Rattle.acts_model.specs.Acts.{Act, Faults, Dies, done, founded, beginning_of, result_of}
use Rattle.acts_model.specs.Bodies.{Bodies, View, put}
use Rattle.acts_model.specs.Moved.{Moved, Nothing}
use Rattle.acts_model.specs.Told.{delivery_act}
use Rattle.acts_model.specs.Transfers.{holds_of, transfer, instr_transfer}
use Rattle.acts_model.specs.Views.{stands_at, after_instr, call_number}
use Rattle.arn_model.specs.Doing.{Doing}
use Rattle.arn_model.specs.Kernel.{Kernel, Machine, Handling, handling_of, with_handling, status_at, ended}
use Rattle.arn_model.specs.ProcessCalls.{status_of}
use Rattle.arn_model.specs.Row.{request, is_waiting, does}

-- what a step moves, the bytes of its event, and the machine after it
pub record Step : Type 0 where
  pub moved : Moved
  pub bytes : List ℕ
  pub after : Machine

-- an instruction that the next one follows
abbrev pub plain_step : Machine → ℕ → View → Instr → Cpu → List Window → Step
plain_step m pid v instr cpu memory =
    record {
      moved =
          record {
            inside =
                record { actor = Some pid; before = v.body.cpu; transfer = instr_transfer pid v.body.cpu (holds_of v.body) instr; event = None };
            incoming = Nothing;
            outgoing = None;
          };
      bytes = [];
      after = record m { bodies = put pid (after_instr cpu memory v) m.bodies };
    }

-- bodies after an act of a process, the child that it may found among them
abbrev pub after_act : Machine → ℕ → View → Act → Bodies
after_act m pid v act = founded act m.events (beginning_of v) (done pid m.events act m.bodies)

-- an event of a process, with its record
abbrev pub event_step : Machine → ℕ → View → Doing → Record → Step
event_step m pid v d entry =
    record {
      moved =
          record {
            inside =
                record {
                  actor = Some pid;
                  before = v.body.cpu;
                  transfer = transfer pid m.events (holds_of v.body) d.act;
                  event = Some (record { number = m.events; entry = entry });
                };
            incoming = d.incoming;
            outgoing = d.outgoing;
          };
      bytes = d.bytes;
      after = record { bodies = after_act m pid v d.act; kernel = d.kernel; events = m.events + 1 };
    }

-- a call
abbrev pub call_step : Machine → ℕ → View → Doing → Step
call_step m pid v d = event_step m pid v d (entry.Call pid (call_number v.body.cpu) (result_of d.act) d.extra)

-- the process ends otherwise, with a status byte
abbrev pub ending : Machine → ℕ → Act → ℕ → Doing
ending m pid act status =
    record {
      act = act;
      extra = extra.Nothing;
      incoming = Nothing;
      outgoing = Some (status_of pid);
      bytes = status ∷ [];
      kernel = ended pid (status_at m.events status) m.kernel;
    }

-- an end by fault
abbrev pub fault_step : Machine → ℕ → View → ℕ → Step
fault_step m pid v status = event_step m pid v (ending m pid (Faults status) status) (entry.End pid status)

-- the call or the end at which a process stands, if it stands at one, and the call is ready
abbrev pub last_by : Machine → ℕ → View → Option Answered → Effect → Option Step
last_by m pid v reply (Next instr cpu memory) = None
last_by m pid v reply Call = option_map (call_step m pid v) (does m pid v reply (request m pid v))
last_by m pid v reply (End status) = Some (fault_step m pid v status)

-- the instruction at which it stands, if the next one follows it
abbrev pub plain_by : Machine → ℕ → View → Effect → Option Step
plain_by m pid v (Next instr cpu memory) = Some (plain_step m pid v instr cpu memory)
plain_by m pid v Call = None
plain_by m pid v (End status) = None

-- the process stands at a call that isn't ready
abbrev pub waits_at : Machine → ℕ → View → Effect → Bool
waits_at m pid v (Next instr cpu memory) = false
waits_at m pid v Call = is_waiting (request m pid v)
waits_at m pid v (End status) = false

abbrev pub waits : Machine → ℕ → View → Bool
waits m pid v = waits_at m pid v (stands_at v)

-- the due signal of a process that sees this
abbrev pub due_in : Option Handling → View → Option ℕ
due_in None v = None
due_in (Some h) v = due h.pending (is_some v.body.slot)

abbrev pub due_signal : Machine → ℕ → View → Option ℕ
due_signal m pid v = due_in (handling_of m.kernel pid) v

-- the handler of a signal, 0 where there is none
abbrev pub handler : Machine → ℕ → ℕ → ℕ
handler m pid signal = unwrap_or (option_map (λ h. handler_of h.handlers signal) (handling_of m.kernel pid)) 0

-- a delivered signal isn't pending any more
abbrev pub without_signal : ℕ → ℕ → Kernel → Kernel
without_signal pid signal k = with_handling pid (λ h. record h { pending = with_pending h.pending signal false }) k

-- an act that moves no bytes of an event
abbrev pub only : Act → Kernel → Doing
only act k = record { act = act; extra = extra.Nothing; incoming = Nothing; outgoing = None; bytes = []; kernel = k }

-- without a handler the process ends with status 128 plus the number
abbrev pub delivering : Machine → ℕ → ℕ → ℕ → Bool → Doing
delivering m pid signal address cut =
    if address == 0 then ending m pid (Dies signal cut) (128 + signal)
    else only (delivery_act signal address cut) (without_signal pid signal m.kernel)

-- a delivery; one that finds the process at a call that isn't ready ends that call
abbrev pub delivery_of : Machine → ℕ → View → Option ℕ → Option Step
delivery_of m pid v None = None
delivery_of m pid v (Some signal) =
    let cut = waits m pid v in
    let address = handler m pid signal in
    Some (event_step m pid v (delivering m pid signal address cut) (entry.Signal pid signal cut address))

abbrev pub delivery_step : Machine → ℕ → View → Option Step
delivery_step m pid v = delivery_of m pid v (due_signal m pid v)
