-- What holds of a lineage query's answers.
use Rattle.std.specs.Prelude.{◌≡◌, ℕ, List, All, Contains, None}
use Rattle.arn_base.specs.declared.records.Record.{Record}
use Rattle.exchange_graph.specs.Reach.{Lists}
use Rattle.history_index.specs.Lookups.{groups_in}
use Rattle.history_model.specs.Broken.{first_broken}
use Rattle.history_model.specs.Exchanges.{Back}
use Rattle.query_model.specs.Linked.{groups_back}

-- the groups that are asked are those from which these can have received bytes, rising
abbrev pub GroupsAreConnected : Type 0
GroupsAreConnected =
    (entries : List Record) (from : List ℕ) → first_broken entries ≡ None → All (Contains (groups_in entries)) from
    → Lists (groups_back entries from) (Back entries from)

-- and there is one such list
abbrev pub GroupsAreOne : Type 0
GroupsAreOne =
    (entries : List Record) (from groups : List ℕ) → first_broken entries ≡ None → All (Contains (groups_in entries)) from
    → Lists groups (Back entries from) → groups ≡ groups_back entries from
