-- What is seen of a process at a moment, in its group alone.
use Rattle.std.specs.Prelude.{◌≡◌, ℕ, ◌≤◌, Bool, true, false, List, Option, Some, None, option_and_then, option_map}
use Rattle.arn_base.specs.declared.machine.Cpu.{Cpu}
use Rattle.arn_base.specs.declared.records.Record.{Record}
use Rattle.acts_model.specs.Bodies.{seen}
use Rattle.acts_model.specs.Views.{bytes_in}
use Rattle.file_versions.specs.declared.errors.VersionError.{VersionError}
use Rattle.file_versions.specs.declared.errors.VersionError.TheVariants as version
use Rattle.history_model.specs.Alone.{Own, Made, Makes, Fails, alone, nothing_own}
use Rattle.history_model.specs.Groups.{group_of}
use Rattle.past_lives.specs.Members.{is_member, is_memory_range}
use Rattle.replay_steps.specs.Standing.{disagreement}
use Rattle.replay_steps.specs.declared.errors.QueryError.{QueryError}
use Rattle.replay_steps.specs.declared.errors.QueryError.TheVariants as error
use Rattle.replayer.specs.Bounds.{ran_before}

-- what a group alone makes up to a moment, if there is a group
abbrev pub made_by : List Record → ℕ → Option ℕ → Made
made_by entries moment None = Makes nothing_own
made_by entries moment (Some g) = alone entries g moment

-- what the group of a process does
abbrev pub made_of : List Record → ℕ → ℕ → Made
made_of entries moment pid = made_by entries moment (group_of entries pid)

-- how many instructions the group runs before it
abbrev pub ran_by : List Record → ℕ → Option ℕ → ℕ
ran_by entries moment None = 0
ran_by entries moment (Some g) = ran_before entries g moment

abbrev pub ran_of : List Record → ℕ → ℕ → ℕ
ran_of entries moment pid = ran_by entries moment (group_of entries pid)

-- the process lives at the moment, up to which its group alone doesn't disagree, and has these registers there
pub record HasRegisters (entries : List Record) (moment pid : ℕ) (cpu : Cpu) : Type 0 where
  pub member : is_member entries moment pid ≡ true
  pub own : Own
  pub made : made_of entries moment pid ≡ Makes own
  pub registers : option_map (λ v. v.body.cpu) (seen own.bodies pid) ≡ Some cpu

-- the same, with these bytes at an address
pub record HasMemory (entries : List Record) (moment pid at len : ℕ) (bytes : List ℕ) : Type 0 where
  pub range : is_memory_range entries moment pid at len ≡ true
  pub own : Own
  pub made : made_of entries moment pid ≡ Makes own
  pub bytes_are : option_and_then (λ v. bytes_in v at len) (seen own.bodies pid) ≡ Some bytes

-- the point isn't there; or the group alone disagrees, or memory ran out
abbrev pub Explains : Bool → Made → QueryError → Type 0
Explains is_there made error.NoPoint = is_there ≡ false
Explains is_there made (error.Disagrees d) = (is_there ≡ true) × (made ≡ Fails (disagreement d))
Explains is_there made error.NoMemory = is_there ≡ true

-- what isn't there runs nothing
abbrev pub RunsNothing : QueryError → ℕ → ℕ → Type 0
RunsNothing error.NoPoint before after = after ≡ before
RunsNothing other before after = Unit {0}

-- the moment isn't in the history, or memory ran out; no file is asked for
abbrev pub Refuses : Bool → VersionError → Type 0
Refuses is_there version.NoMoment = is_there ≡ false
Refuses is_there version.NoFile = ⊥
Refuses is_there version.NoMemory = is_there ≡ true
