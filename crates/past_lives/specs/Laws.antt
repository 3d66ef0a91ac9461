-- What a group alone holds, beside what the records tell of its processes.
use Rattle.std.specs.Prelude.{◌≡◌, ℕ, true, List, None, Some, IfSome, IsSome, is_some}
use Rattle.arn_base.specs.declared.records.Record.{Record}
use Rattle.acts_model.specs.Bodies.{body_at, seen}
use Rattle.acts_model.specs.Views.{can_reach}
use Rattle.history_model.specs.Alone.{Own, Makes, alone}
use Rattle.history_model.specs.Broken.{first_broken}
use Rattle.history_model.specs.Groups.{group_of}
use Rattle.history_model.specs.Moments.{lives_at, segment_at}
use Rattle.past_lives.specs.Members.{is_present}

-- a process has a body in its group alone exactly where the records tell that it lives, and it holds the segment that they tell
pub record IsSeen (entries : List Record) (moment : ℕ) (own : Own) (pid : ℕ) : Type 0 where
  pub lives : is_some (body_at own.bodies pid) ≡ lives_at entries moment pid
  pub segment : IfSome (body_at own.bodies pid) (λ x. x.segment ≡ segment_at entries moment pid)

-- so it is with each member, on all records that can be indexed
abbrev pub MembersAreSeen : Type 0
MembersAreSeen =
    (entries : List Record) (g moment : ℕ) (own : Own) → first_broken entries ≡ None → alone entries g moment ≡ Makes own
    → (pid : ℕ) → group_of entries pid ≡ Some g → IsSeen entries moment own pid

-- Whoever lives in a group alone has windows of full length: it reaches exactly the bytes that lie in one that is present.
abbrev pub WindowsAreWhole : List Record → Type 0
WindowsAreWhole entries =
    (g moment : ℕ) (own : Own) → first_broken entries ≡ None → alone entries g moment ≡ Makes own
    → (pid : ℕ) → IfSome (seen own.bodies pid) (λ v. (at len : ℕ) → can_reach v at len ≡ is_present (is_some v.body.segment) at len)

-- whoever lives at a moment has a group
abbrev pub LivesHaveGroups : Type 0
LivesHaveGroups = (entries : List Record) (moment pid : ℕ) → first_broken entries ≡ None → lives_at entries moment pid ≡ true → IsSome (group_of entries pid)
