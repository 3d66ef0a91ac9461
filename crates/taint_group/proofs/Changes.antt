-- How tables of a group change by a step of one member that leaves the memories as they are.
use Rattle.std.specs.Prelude.{◌≡◌, ℕ, List, slice_set, Option, Some, option_map}
use Rattle.parts_model.specs.Numbered.{nth}
use Rattle.taint_spans.specs.Numbered.{StandAsBefore}
use Rattle.taint_members.specs.declared.member.MemberSets.{MemberSets}
use Rattle.taint_steps.specs.Table.{Tables}
use Rattle.rv64_model.specs.declared.linkage.Linkage.{Linkage}
use Rattle.taint_state.specs.Events.{Becomes}
use Rattle.taint_state.specs.Kept.{KeptHeard}
use Rattle.taint_state.specs.RunsShow.{kept_member}
use Rattle.taint_group.proofs.Keyed.{HoldsSame}
use Rattle.taint_group.specs.Tables.{AreKeyed, kept_in}

-- a member becomes another, or lives no more
pub record Changes (pid : ℕ) (old : MemberSets) (new : Option MemberSets) (x y : Tables) : Type 0 where
  pub was : nth x.members pid ≡ Some old
  pub members : y.members ≡ slice_set x.members pid new
  pub memories : y.memories ≡ x.memories
  pub sets : StandAsBefore x.sets y.sets
  pub holds : HoldsSame new (Some old)

-- what is kept becomes so by an event that is heard, and each memory is in the table once
pub record TablesBecome (linkage : Linkage) (heard after : List KeptHeard) (pid : ℕ) (old : MemberSets) (new : Option MemberSets) (event : KeptHeard) (x y : Tables) : Type 0 where
  pub becomes : Becomes pid (kept_member x.memories old) (option_map (kept_member x.memories) new) event (kept_in linkage heard x) (kept_in linkage after y)
  pub keyed : AreKeyed y
