-- That the steps inside a group are those of its members, by what these hold.
use Rattle.std.specs.Prelude.{◌≡◌, ℕ, List, [], ◌∷◌, Option, Some, None, IsNone, option_map}
use Rattle.arn_base.specs.declared.records.Record.{Record}
use Rattle.arn_base.specs.declared.records.Record.TheVariants as entry
use Rattle.rv64_isa.specs.declared.instruction.Instr.{Instr}
use Rattle.acts_model.specs.Bodies.{Bodies, body_at}
use Rattle.acts_model.specs.Moved.{Event, Inside}
use Rattle.acts_model.specs.Transfers.{holds_of}
use Rattle.taint_state.specs.Goes.{Hearings, begin_inside, heard_after}
use Rattle.taint_state.specs.Steps.{Holders, event_step, fresh_holds, holders_after, instr_step, with_holder}

-- nobody lives, and no event was heard
abbrev pub none_holds : Holders
none_holds pid = None

abbrev pub none_heard : Hearings
none_heard event = None

-- what the bodies of live processes hold
abbrev pub holders_in : Bodies → Holders
holders_in bodies pid = option_map holds_of (body_at bodies pid)

-- what members hold after steps, and which events were heard
abbrev pub holders_from : List Inside → Holders → Holders
holders_from [] h = h
holders_from (inside ∷ list) h = holders_from list (holders_after inside.transfer h)

abbrev pub heard_from : List Inside → Hearings → Hearings
heard_from [] heard = heard
heard_from (inside ∷ list) heard = heard_from list (heard_after inside heard)

-- a boot is an event of process 1, which begins by it
abbrev pub with_booted : ℕ → Record → Holders → Holders
with_booted event (entry.Boot name give) h = with_holder 1 (Some (fresh_holds event)) h
with_booted event other h = h

-- the step is one of what members hold before it
pub data IsStep (h : Holders) (inside : Inside) : Type 0 where
  -- a member runs an instruction
  Steps : (pid : ℕ) (instr : Instr) → instr_step h pid instr inside.before ≡ Some inside → IsStep h inside
  -- an event happens to a member
  Hears : (event : ℕ) (e : Record) → event_step (with_booted event e h) event e inside.before ≡ Some inside → IsStep h inside
  -- the group's first process begins
  Starts : (pid event : ℕ) (e : Record) → inside ≡ begin_inside pid event e inside.before → IsStep h inside

-- each step is one of what members hold after those before it
abbrev pub AreSteps : Holders → List Inside → Type 0
AreSteps h [] = Unit {0}
AreSteps h (inside ∷ list) = IsStep h inside × AreSteps (holders_after inside.transfer h) list

-- the step's event wasn't heard before
abbrev pub IsNew : Hearings → Option Event → Type 0
IsNew heard None = Unit {0}
IsNew heard (Some event) = IsNone (heard event.number)

-- nor was that of any step
abbrev pub AreNew : Hearings → List Inside → Type 0
AreNew heard [] = Unit {0}
AreNew heard (inside ∷ list) = IsNew heard inside.event × AreNew (heard_after inside heard) list
