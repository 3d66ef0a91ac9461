-- The steps of which a tracker is told, by what its members hold, and what they come to hold by them.
use Rattle.std.specs.Prelude.{◌≡◌, ℕ, ◌+◌, ◌==◌, ◌<◌, Bool, true, false, if◌then◌else◌, Option, Some, None, option_map, option_and_then}
use Rattle.arn_base.specs.declared.machine.Cpu.{Cpu}
use Rattle.arn_base.specs.declared.records.Record.{Record}
use Rattle.rv64_isa.specs.declared.instruction.Instr.{Instr}
use Rattle.acts_model.specs.Acts.{Act}
use Rattle.acts_model.specs.Moved.{Inside}
use Rattle.acts_model.specs.Records.{process_of}
use Rattle.acts_model.specs.Told.{act_of}
use Rattle.acts_model.specs.Transfers.{Holds, Place, Transfer, Arrives, Starts, Runs, Returns, Receives, Gives, Forks, Founds, Begins, Shares, Delivers, Leaves, Exits, Faults, Dies, instr_transfer, is_private, is_shared, transfer}
use Rattle.taint_state.specs.Shown.{Member, Tracking}

-- the memories of each live member
abbrev pub Holders : Type 0
Holders = ℕ → Option Holds

abbrev pub holders_of : Tracking → Holders
holders_of x pid = option_map (λ (m : Member). m.holds) (x.members pid)

-- one process holds this from now on, or lives no more
abbrev pub with_holder : ℕ → Option Holds → Holders → Holders
with_holder pid holds h p = if p == pid then holds else h p

-- a window of its own, and no segment
abbrev pub fresh_holds : ℕ → Holds
fresh_holds made = record { window = made; segment = None }

-- a child in its parent's group shares the parent's segment
abbrev pub child_holds : ℕ → Option Holds → Option Holds
child_holds made parent = option_map (λ (h : Holds). record { window = made; segment = h.segment }) parent

abbrev pub shared_holds : ℕ → Option Holds → Option Holds
shared_holds made own = option_map (λ (h : Holds). record { window = h.window; segment = Some made }) own

-- what members hold after a step
abbrev pub holders_after : Transfer → Holders → Holders
holders_after (Arrives len) h = h
holders_after (Starts pid made load len block block_len) h = with_holder pid (Some (fresh_holds made)) h
holders_after (Runs pid instr place) h = h
holders_after (Returns pid) h = h
holders_after (Receives pid place len) h = h
holders_after (Gives pid place len) h = h
holders_after (Forks pid child from into) h = with_holder child (child_holds into (h pid)) h
holders_after (Founds pid child from into) h = h
holders_after (Begins pid made) h = with_holder pid (Some (fresh_holds made)) h
holders_after (Shares pid made) h = with_holder pid (shared_holds made (h pid)) h
holders_after (Delivers pid cut) h = h
holders_after (Leaves pid) h = h
holders_after (Exits pid) h = with_holder pid None h
holders_after (Faults pid) h = with_holder pid None h
holders_after (Dies pid) h = with_holder pid None h

-- the fork starts a group
abbrev pub founds : Transfer → Bool
founds (Founds pid child from into) = true
founds transfer = false

-- an instruction that a member runs
abbrev pub instr_inside : ℕ → Instr → Cpu → Holds → Inside
instr_inside pid instr before holds =
    record { actor = Some pid; before = before; transfer = instr_transfer pid before holds instr; event = None }

abbrev pub instr_step : Holders → ℕ → Instr → Cpu → Option Inside
instr_step h pid instr before = option_map (instr_inside pid instr before) (h pid)

-- what an event is, by the act that its record tells
abbrev pub event_inside : ℕ → ℕ → Record → Cpu → Holds → Act → Inside
event_inside pid event e before holds act =
    record {
      actor = Some pid;
      before = before;
      transfer = transfer pid event holds act;
      event = Some (record { number = event; entry = e });
    }

abbrev pub event_by : ℕ → ℕ → Record → Cpu → Option Holds → Option Act → Option Inside
event_by pid event e before None act = None
event_by pid event e before (Some holds) act = option_map (event_inside pid event e before holds) act

abbrev pub event_of : Holders → ℕ → Record → Cpu → ℕ → Option Inside
event_of h event e before pid = event_by pid event e before (h pid) (act_of before e)

-- what an event is of a live member
abbrev pub event_step : Holders → ℕ → Record → Cpu → Option Inside
event_step h event e before = option_and_then (event_of h event e before) (process_of e)

-- the range from a place on lies whole in that window
abbrev pub IsWhole : Option Place → ℕ → Type 0
IsWhole None len = Unit {0}
IsWhole (Some place) len = (k : ℕ) → k < len → (is_private (place.at + k) ≡ is_private place.at) × (is_shared (place.at + k) ≡ is_shared place.at)
