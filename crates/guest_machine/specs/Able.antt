-- Which processes can go on, as far as their numbers are kept.
use Rattle.std.specs.Prelude.{◌≡◌, ℕ, List, length, take}
use Rattle.arn_model.specs.Kernel.{Machine}
use Rattle.arn_model.specs.Turn.{runnable}
use Rattle.guest_machine.specs.declared.able.Able.{Able}
use Rattle.guest_machine.specs.declared.able.TheConstants.{MOST_KEPT}

-- those for which there is room
abbrev pub first_of : List ℕ → List ℕ
first_of pids = take MOST_KEPT pids

-- these are the processes that can go on
pub record AreAble (m : Machine) (able : Able) : Type 0 where
  pub counted : able.count ≡ length (runnable m)
  pub kept : able.first.items ≡ first_of (runnable m)
