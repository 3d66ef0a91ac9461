-- What follows a group.
use Rattle.std.specs.Prelude.{◌≡◌, ℕ, List, Option, Some}
use Rattle.arn_base.specs.declared.records.Record.{Record}
use Rattle.rv64_model.specs.Carries.{operands}
use Rattle.rv64_model.specs.declared.linkage.Linkage.{Linkage}
use Rattle.history_model.specs.Alone as history
use Rattle.history_model.specs.Alone.{Own, Made, Makes}
use Rattle.lineage_model.specs.Tracking.{alone}
use Rattle.replay_steps.specs.Standing.{disagreement}
use Rattle.replay_steps.specs.declared.errors.QueryError.{QueryError}
use Rattle.replay_steps.specs.declared.errors.QueryError.TheVariants as error
use Rattle.taint_laws.specs.Follows.{heard_from, holders_in, none_heard}
use Rattle.taint_state.specs.Goes.{hearings_of}
use Rattle.taint_state.specs.Kept.{Kept, shown}
use Rattle.taint_state.specs.Shown.{Shows}
use Rattle.taint_state.specs.Steps.{holders_of}

-- what is kept of a group up to a moment: its records agree, each byte has the items that it has in the group alone, its live processes are
-- members with the memories that they hold, and its events were heard
pub record Follows (linkage : Linkage) (entries : List Record) (until g : ℕ) (kept : Kept) : Type 0 where
  pub own : Own
  pub makes : history.alone entries g until ≡ Makes own
  pub shows : Shows (shown kept) (alone (operands linkage) own.inside)
  pub holds : (pid : ℕ) → holders_of (shown kept) pid ≡ holders_in own.bodies pid
  pub heard : (event : ℕ) → hearings_of (shown kept) event ≡ heard_from own.inside none_heard event

-- the error is that the group's records disagree, or memory ran out
abbrev pub Explains : Option history.Disagrees → QueryError → Type 0
Explains found (error.Disagrees d) = found ≡ Some (disagreement d)
Explains found error.NoPoint = ⊥
Explains found error.NoMemory = Unit {0}
