-- What one more process does to the group of each and to the members of each group.
use Rattle.std.specs.Prelude.{◌≡◌, ◌≢◌, ℕ, List, [], ◌∷◌, ◌++◌, Some}
use Rattle.replay_groups.specs.Groups.{group_at, IsStarted, next_number, members_of}

-- the next process has the group that it is given
abbrev pub NextHasItsGroup : Type 0
NextHasItsGroup = (groups : List ℕ) (group : ℕ) → group_at (groups ++ group ∷ []) (next_number groups) ≡ Some group

-- each other number has the group that it had, or none as before
abbrev pub OthersKeepTheirs : Type 0
OthersKeepTheirs = (groups : List ℕ) (group pid : ℕ) → pid ≢ next_number groups
    → group_at (groups ++ group ∷ []) pid ≡ group_at groups pid

-- a group that was started stays so
abbrev pub StaysStarted : Type 0
StaysStarted = (groups : List ℕ) (more group : ℕ) → IsStarted groups group → IsStarted (groups ++ more ∷ []) group

-- the group has the next process as its last member
abbrev pub NextIsLastMember : Type 0
NextIsLastMember = (groups : List ℕ) (group : ℕ)
    → members_of (groups ++ group ∷ []) group ≡ members_of groups group ++ next_number groups ∷ []

-- each other group has the members that it had
abbrev pub OthersKeepMembers : Type 0
OthersKeepMembers = (groups : List ℕ) (group other : ℕ) → other ≢ group
    → members_of (groups ++ group ∷ []) other ≡ members_of groups other
