-- Where a replay stands, and how it goes on.
use Rattle.std.specs.Prelude.{◌≡◌, ◌≢◌, ◌≤◌, ◌+◌, ◌&&◌, not, Bool, true, false, ℕ, List, ◌++◌, count_by, flat_map, Option, Some, IsNone}
use Rattle.parts_model.specs.Numbered.{nth}
use Rattle.acts_model.specs.Moved.{Inside, is_instruction}
use Rattle.acts_model.specs.Transfers.{Transfer, Begins}
use Rattle.guest_bodies.specs.Follows.{Shows}
use Rattle.guest_bodies.specs.Fresh.{IsUnheld}
use Rattle.guest_bodies.specs.Shown.{Guests}
use Rattle.history_model.specs.Alone as alone
use Rattle.history_model.specs.Alone.{Own, Made, Makes, Fails}
use Rattle.replay_steps.specs.Notices.{Listener, Told, notices}
use Rattle.replay_steps.specs.declared.errors.Disagrees.{Disagrees}
use Rattle.replay_steps.specs.declared.errors.ReplayError.{ReplayError}
use Rattle.replay_steps.specs.declared.errors.ReplayError.TheVariants as replay_error
use Rattle.replay_steps.specs.declared.errors.QueryError.{QueryError}
use Rattle.replay_steps.specs.declared.errors.QueryError.TheVariants as query_error

-- a query over a replay fails as that does
abbrev pub asked : ReplayError → QueryError
asked (replay_error.Disagrees disagrees) = query_error.Disagrees disagrees
asked replay_error.NoMemory = query_error.NoMemory

-- a disagreement, as a group alone has it
abbrev pub disagreement : Disagrees → alone.Disagrees
disagreement d = record { event = d.event; said = d.said; found = d.found }

-- the processes show what was made, of which no event from this one on made a memory that one of them holds
pub record Stands (guests : Guests) (event : ℕ) (own : Own) : Type 0 where
  pub shows : Shows guests own.bodies
  pub unheld : (other : ℕ) → event ≤ other → IsUnheld other own.bodies

-- who doesn't live doesn't live afterwards
pub record KeepsLives (old new : Guests) : Type 0 where
  pub dead : (p : ℕ) → IsNone (nth old p) → IsNone (nth new p)

-- nor does one that isn't this child
pub record GainsOnly (child : Option ℕ) (old new : Guests) : Type 0 where
  pub dead : (p : ℕ) → child ≢ Some p → IsNone (nth old p) → IsNone (nth new p)

-- something was made so
pub record IsStanding (guests : Guests) (event : ℕ) : Type 0 where
  pub own : Own
  pub stands : Stands guests event own

-- the group's first process begins
abbrev pub is_begin : Transfer → Bool
is_begin (Begins pid made) = true
is_begin other = false

-- an instruction of a member: the fork by which the group's first process begins was another group's
abbrev pub is_counted : Inside → Bool
is_counted i = not (is_begin i.transfer) && is_instruction i

-- More happened inside: the observer was told all of it in order, and each instruction was counted.
pub record GoesOn {A : Type 0} (l : Listener A) (x : A) (before : ℕ) (own own' : Own) (y : A) (after : ℕ) : Type 0 where
  pub more : List Inside
  pub inside : own'.inside ≡ own.inside ++ more
  pub told : Told l (flat_map notices more) x y
  pub counted : after ≡ before + count_by is_counted more

-- from what was made it went on to what is made now
pub record Reaches {A : Type 0} (l : Listener A) (x : A) (before : ℕ) (own : Own) (made : Made) (guests : Guests) (event : ℕ) (y : A) (after : ℕ) : Type 0 where
  pub own' : Own
  pub makes : made ≡ Makes own'
  pub stands : Stands guests event own'
  pub goes_on : GoesOn l x before own own' y after

-- the error is the disagreement, or memory ran out
abbrev pub Explains : Made → ReplayError → Type 0
Explains made (replay_error.Disagrees d) = made ≡ Fails (disagreement d)
Explains made replay_error.NoMemory = Unit {0}
