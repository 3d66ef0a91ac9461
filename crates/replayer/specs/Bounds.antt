-- How many instructions the members of a group run before a moment.
use Rattle.std.specs.Prelude.{◌≡◌, ◌≤◌, ℕ, ◌+◌, ◌-◌, min, if◌then◌else◌, List, [], ◌∷◌, count_by, None}
use Rattle.arn_base.specs.declared.records.Record.{Record}
use Rattle.arn_base.specs.declared.records.Record.TheVariants as entry
use Rattle.history_model.specs.Alone.{Own, Makes, alone}
use Rattle.history_model.specs.Broken.{first_broken}
use Rattle.history_model.specs.Groups.{Groups, count_of, group_of, is_number}
use Rattle.history_model.specs.Moments.{ran_in}
use Rattle.replay_steps.specs.Standing.{is_counted}

-- how many a record counts for a group, where processes have these groups and its slice begins at this moment
abbrev pub ran_for_before : ℕ → ℕ → ℕ → Groups → Record → ℕ
ran_for_before g until moment groups (entry.Slice pid ran) = if is_number g (groups pid) then min ran (until - moment) else 0
ran_for_before g until moment groups other = 0

-- how many records count, of which the first stands at this moment
abbrev pub count_before_from : ℕ → ℕ → ℕ → Groups → List Record → ℕ
count_before_from g until moment groups [] = 0
count_before_from g until moment groups (e ∷ entries) =
    ran_for_before g until moment groups e + count_before_from g until (moment + ran_in e) groups entries

-- how many instructions the members of a group run before a moment
abbrev pub ran_before : List Record → ℕ → ℕ → ℕ
ran_before entries g until = count_before_from g until 0 (group_of entries) entries

-- A group alone that doesn't disagree has run exactly so many, and no group has more of them than it runs in all.
pub record RunsBefore : Type 0 where
  pub exact : (entries : List Record) (g until : ℕ) (own : Own) → first_broken entries ≡ None → alone entries g until ≡ Makes own
      → count_by is_counted own.inside ≡ ran_before entries g until
  pub within : (entries : List Record) (g until : ℕ) → ran_before entries g until ≤ count_of entries g
