-- Memory that is kept for what is added next.
use Rattle.std.specs.Prelude.{ℕ, ◌-◌, ◌<◌, ◌≡◌, List, slice_get, IfSome}
use Rattle.std.specs.Global.{Vec}
use Rattle.std.specs.Vec.{vec_len, vec_capacity}
use Rattle.replay_groups.specs.declared.lists.Lists.{Lists}

-- for one more process, also where it starts a group
pub record HasRoom (lists : Lists) : Type 0 where
  pub process : vec_len lists.groups < vec_capacity lists.groups
  pub list : vec_len lists.members < vec_capacity lists.members
  pub first : vec_len lists.spare < vec_capacity lists.spare

-- for one more number at this place, if there is such a list
abbrev pub HasRoomAt : List (Vec ℕ) → ℕ → Type 0
HasRoomAt lists place = IfSome (slice_get lists place) (λ list. vec_len list < vec_capacity list)

-- for one more member of a group, if it was started
abbrev pub HasMemberRoom : List (Vec ℕ) → ℕ → Type 0
HasMemberRoom members group = HasRoomAt members (group - 1)

-- the same numbers, whatever memory is kept
pub record SameLists (old new : Lists) : Type 0 where
  pub groups : new.groups.items ≡ old.groups.items
  pub members : new.members.items ≡ old.members.items
  pub spare : new.spare.items ≡ old.spare.items
