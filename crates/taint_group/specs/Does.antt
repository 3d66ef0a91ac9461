-- What a group does by an event, as its act says.
use Rattle.std.specs.Prelude.{ℕ, Bool, true, false}
use Rattle.acts_model.specs.Acts.{Act, Dies, Exits, Faults, Shares, Starts}
use Rattle.acts_model.specs.Transfers.{Holds, transfer}
use Rattle.taint_group.specs.declared.group.Group.{Group}
use Rattle.taint_group.specs.Turns.{StepsFrom}

-- the group goes on by a step of a live member that does so
abbrev pub DoesStep : Act → ℕ → ℕ → ℕ → Group → Group → Type 0
DoesStep act pid event count x y = StepsFrom (λ (holds : Holds). transfer pid event holds act) pid event count x y

-- a process may let go of a memory by what it does: it starts anew, gets a segment, or ends
abbrev pub may_free_memory : Act → Bool
may_free_memory (Starts file block block_len) = true
may_free_memory Shares = true
may_free_memory Exits = true
may_free_memory (Faults status) = true
may_free_memory (Dies signal cut) = true
may_free_memory act = false
