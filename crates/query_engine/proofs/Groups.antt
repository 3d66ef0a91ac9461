-- The groups that are asked about an event.
use Rattle.std.proofs.Common.{◌≡◌, ℕ, zero, suc, List, All, Contains, Option, Some, None, option_to_list, sym, ap, ◌∙◌, arith}
use Rattle.arn_base.specs.declared.records.Record.{Record}
use Rattle.exchange_graph.specs.Reach.{Lists}
use Rattle.history_index.specs.Lookups.{groups_in}
use Rattle.history_model.specs.Broken.{first_broken}
use Rattle.history_model.specs.Exchanges.{Back}
use Rattle.history_model.specs.Groups.{event_group}
use Rattle.query_model.specs.Answers.{event_groups}
use Rattle.query_model.specs.Linked.{groups_back}
use Rattle.query_laws.specs.Laws.{GroupsAreOne}
use Rattle.query_engine.proofs.Known.{known}

pub all-known : (entries : List Record) (event : ℕ) → first_broken entries ≡ None → (o : Option ℕ) → event_group entries event ≡ o → All (Contains (groups_in entries)) (option_to_list o)
all-known entries event unbroken None is k d l = absurd (omega arith)
all-known entries event unbroken (Some g) is zero d l = known entries event g unbroken is
all-known entries event unbroken (Some g) is (suc k) d l = absurd (omega arith)

pub groups-are : (entries : List Record) (event : ℕ) → GroupsAreOne → first_broken entries ≡ None → (o : Option ℕ) → event_group entries event ≡ o → (groups : List ℕ) → Lists groups (Back entries (option_to_list o))
    → groups ≡ event_groups entries event
groups-are entries event one unbroken o is groups lists =
    one entries (option_to_list o) groups unbroken (all-known entries event unbroken o is) lists ∙ ap (λ (p : Option ℕ). groups_back entries (option_to_list p)) (sym is)
