-- The lists tell each group's members, and each group was started.
use Rattle.std.specs.Prelude.{ℕ, zero, suc, ◌≡◌, List, [], length, map, slice_index_or, Option, IfSome}
use Rattle.std.specs.Global.{Vec}
use Rattle.replay_groups.specs.declared.lists.Lists.{Lists}
use Rattle.replay_groups.specs.Groups.{group_at, members_of, IsStarted}
use Rattle.replay_groups.specs.Room.{HasRoom, HasMemberRoom}

-- what the lists hold
abbrev pub numbers : List (Vec ℕ) → List (List ℕ)
numbers lists = map (λ list. list.items) lists

-- the same numbers, whatever memory is kept
pub record SameNumbers (old new : Lists) : Type 0 where
  pub groups : new.groups.items ≡ old.groups.items
  pub members : numbers new.members.items ≡ numbers old.members.items
  pub spare : new.spare.items ≡ old.spare.items

-- the list of a group
abbrev pub list_of : List (List ℕ) → ℕ → List ℕ
list_of lists zero = []
list_of lists (suc i) = slice_index_or lists i []

-- there is a list for each process, the list of each group has its members, and the group of each process was started
pub record TellsMembers (groups : List ℕ) (lists : List (List ℕ)) : Type 0 where
  pub same_length : length lists ≡ length groups
  pub members : (group : ℕ) → list_of lists group ≡ members_of groups group
  pub started : (pid : ℕ) → IfSome (group_at groups pid) (IsStarted groups)

-- and memory is kept for the next process of the group for which it was reserved
pub record IsSound (lists : Lists) (reserved : Option ℕ) : Type 0 where
  pub tells : TellsMembers lists.groups.items (numbers lists.members.items)
  pub spare : lists.spare.items ≡ []
  pub room : IfSome reserved (λ group. HasRoom lists)
  pub member_room : IfSome reserved (λ group. HasMemberRoom lists.members.items group)
