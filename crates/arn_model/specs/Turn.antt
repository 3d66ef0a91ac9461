-- The turn that a process takes in a slice: perhaps a delivery, then instructions, then perhaps a call or an end by fault.
use Rattle.std.specs.Prelude.{ℕ, zero, suc, nat_le, nat_lt, ◌&&◌, ◌||◌, not, Bool, false, if◌then◌else◌, List, [], ◌∷◌, ◌++◌, length, filter, Option, Some, None, is_some, option_to_list}
use Rattle.parts_model.specs.declared.limits.TheConstants.{MOST_SLICE}
use Rattle.parts_model.specs.Processes as table
use Rattle.parts_model.specs.Replies.{Answered}
use Rattle.acts_model.specs.Bodies.{View, seen}
use Rattle.acts_model.specs.Views.{stands_at}
use Rattle.arn_model.specs.declared.run_state.RunState.{RunState}
use Rattle.arn_model.specs.declared.run_state.RunState.TheVariants.{Done, Stalled, CanGoOn}
use Rattle.arn_model.specs.Kernel.{Machine}
use Rattle.arn_model.specs.Step.{Step, plain_by, last_by, waits, due_signal, delivery_step}

-- the machine after steps
abbrev pub after_steps : Machine → List Step → Machine
after_steps m [] = m
after_steps m (s ∷ steps) = after_steps s.after steps

abbrev pub after_first : Machine → Option Step → Machine
after_first m None = m
after_first m (Some s) = s.after

-- the delivery of the due signal, where there is one
abbrev pub delivery_in : Machine → ℕ → Option View → Option Step
delivery_in m pid None = None
delivery_in m pid (Some v) = delivery_step m pid v

-- the instruction at which a process stands, where the next one follows it
abbrev pub plain_in : Machine → ℕ → Option View → Option Step
plain_in m pid None = None
plain_in m pid (Some v) = plain_by m pid v (stands_at v)

-- up to so many of them
abbrev pub steps_then : Option Step → (Machine → List Step) → List Step
steps_then None rest = []
steps_then (Some s) rest = s ∷ rest s.after

abbrev pub plains : ℕ → ℕ → Machine → List Step
plains zero pid m = []
plains (suc n) pid m = steps_then (plain_in m pid (seen m.bodies pid)) (plains n pid)

-- the call or the end at which it then stands
abbrev pub last_in : Machine → ℕ → Option Answered → Option View → Option Step
last_in m pid reply None = None
last_in m pid reply (Some v) = last_by m pid v reply (stands_at v)

-- a turn, in the order of its records
pub record Turn : Type 0 where
  pub delivery : Option Step
  pub plain : List Step
  pub last : Option Step

-- it ends with a call or an end where fewer instructions were run than may be
abbrev pub last_of : ℕ → ℕ → Option Answered → Machine → List Step → Option Step
last_of n pid reply m plain =
    let m' = after_steps m plain in
    if nat_lt (length plain) n then last_in m' pid reply (seen m'.bodies pid) else None

abbrev pub turn_from : ℕ → ℕ → Option Answered → Option Step → Machine → Turn
turn_from n pid reply delivery m = record { delivery = delivery; plain = plains n pid m; last = last_of n pid reply m (plains n pid m) }

-- the turn of a process for up to n instructions
abbrev pub turn : ℕ → ℕ → Option Answered → Machine → Turn
turn n pid reply m =
    let delivery = delivery_in m pid (seen m.bodies pid) in
    turn_from n pid reply delivery (after_first m delivery)

abbrev pub steps_of : Turn → List Step
steps_of t = option_to_list t.delivery ++ (t.plain ++ option_to_list t.last)

-- a process that sees this can go on: a signal is due, or it doesn't stand at a call that isn't ready
abbrev pub can_go_on : Machine → ℕ → Option View → Bool
can_go_on m pid None = false
can_go_on m pid (Some v) = is_some (due_signal m pid v) || not (waits m pid v)

abbrev pub is_runnable : Machine → ℕ → Bool
is_runnable m pid = can_go_on m pid (seen m.bodies pid)

-- a signal is due for it
abbrev pub has_due : Machine → ℕ → Option View → Bool
has_due m pid None = false
has_due m pid (Some v) = is_some (due_signal m pid v)

-- a slice is possible where its process can go on, and it isn't too long; one of no instruction delivers a signal
abbrev pub is_possible : Machine → ℕ → ℕ → Bool
is_possible m pid count = is_runnable m pid && (nat_le count MOST_SLICE && (nat_lt 0 count || has_due m pid (seen m.bodies pid)))

-- the live processes, and those of them that can go on, in order of number
abbrev pub live : Machine → List ℕ
live m = table.live m.kernel.processes

abbrev pub runnable : Machine → List ℕ
runnable m = filter (is_runnable m) (live m)

-- how the machine stands, by these
abbrev pub state_of : List ℕ → List ℕ → RunState
state_of [] able = Done
state_of (pid ∷ pids) [] = Stalled
state_of (pid ∷ pids) (q ∷ able) = CanGoOn

abbrev pub run_state : Machine → RunState
run_state m = state_of (live m) (runnable m)
