-- How tables of a group change where a member receives bytes.
use Rattle.std.specs.Prelude.{◌≡◌, ℕ, List, length, slice_set, Some}
use Rattle.parts_model.specs.Numbered.{nth}
use Rattle.taint_spans.specs.Numbered.{StandAsBefore}
use Rattle.taint_members.specs.declared.member.MemberSets.{MemberSets}
use Rattle.taint_steps.specs.Table.{Tables}
use Rattle.rv64_model.specs.declared.linkage.Linkage.{Linkage}
use Rattle.taint_state.specs.Events.{BecomesShared, ReceivesTo}
use Rattle.taint_group.specs.Moves.{Receives}
use Rattle.taint_state.specs.RunsShow.{kept_member}
use Rattle.taint_state.specs.Kept.{KeptHeard}
use Rattle.taint_group.specs.Tables.{AreKeyed, kept_in}

-- bytes of these numbers are written at an address of a member
pub record TablesTake (pid at : ℕ) (numbers : List ℕ) (old new : MemberSets) (x y : Tables) : Type 0 where
  pub was : nth x.members pid ≡ Some old
  pub members : y.members ≡ slice_set x.members pid (Some new)
  pub receives : Receives at numbers old new x.memories y.memories
  pub sets : StandAsBefore x.sets y.sets
  pub keys : length y.memories ≡ length x.memories

-- what is kept takes them by an event that is heard, and each memory is in the table once
pub record TablesTook (linkage : Linkage) (heard after : List KeptHeard) (pid at : ℕ) (numbers : List ℕ) (old new : MemberSets) (event : KeptHeard) (x y : Tables) : Type 0 where
  pub receives : ReceivesTo at numbers (kept_member x.memories old) (kept_member y.memories new)
  pub becomes : BecomesShared pid (kept_member x.memories old) (kept_member y.memories new) event (kept_in linkage heard x) (kept_in linkage after y)
  pub keyed : AreKeyed y
