-- Counts of faults.
use Rattle.std.specs.Prelude.{◌≡◌, ℕ, ◌<◌, ◌≤◌, ◌⊎◌, ◌^◌, ◌-◌}

-- the greatest count, at which it stands still
abbrev pub greatest : ℕ
greatest = 2 ^ 64 - 1

-- the count rose, or stands at the greatest
abbrev pub Rose : ℕ → ℕ → Type 0
Rose before after = (before < after) ⊎ (before ≡ greatest)

-- the count didn't fall, and stands still at the greatest
pub record NeverFalls (before after : ℕ) : Type 0 where
  pub no_less : before ≤ after
  pub stands_still : before ≡ greatest → after ≡ before
