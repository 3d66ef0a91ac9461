-- The groups that are asked about bytes that were written.
use Rattle.std.proofs.Common.{◌≡◌, ℕ, zero, suc, ◌<◌, List, [], ◌∷◌, length, get_or, All, Contains, Option, Some, None, refl, subst, arith}
use Rattle.std.specs.List.{cons_option}
use Rattle.arn_base.specs.declared.records.Record.{Record}
use Rattle.exchange_graph.specs.Reach.{Lists}
use Rattle.history_index.specs.Lookups.{groups_in}
use Rattle.history_model.specs.Broken.{first_broken}
use Rattle.history_model.specs.Exchanges.{Back}
use Rattle.history_model.specs.Groups.{event_group}
use Rattle.parts_model.specs.declared.tagged.TaggedByte.{TaggedByte}
use Rattle.query_model.specs.Names.{writers, written_groups}
use Rattle.query_laws.specs.Laws.{GroupsAreOne}
use Rattle.query_engine.proofs.Known.{known}

-- they are groups
pub writers-known : (entries : List Record) (bytes : List TaggedByte) → first_broken entries ≡ None → All (Contains (groups_in entries)) (writers entries bytes)
writers-known entries [] unbroken k d l = absurd (omega arith)
writers-known entries (b ∷ bytes) unbroken k d l = by_group (event_group entries b.origin.event) refl k d l (writers-known entries bytes unbroken)
  where
    by_group : (o : Option ℕ) → event_group entries b.origin.event ≡ o → (k d : ℕ) → k < length (cons_option o (writers entries bytes)) → All (Contains (groups_in entries)) (writers entries bytes)
        → Contains (groups_in entries) (get_or (cons_option o (writers entries bytes)) k d)
    by_group None is k d l rest = rest k d l
    by_group (Some g) is zero d l rest = known entries b.origin.event g unbroken is
    by_group (Some g) is (suc k) d l rest = rest k d (omega (arith, l))

pub groups-are : (entries : List Record) (bytes : List TaggedByte) → GroupsAreOne → first_broken entries ≡ None → (from : List ℕ) → from ≡ writers entries bytes → (groups : List ℕ) → Lists groups (Back entries from)
    → groups ≡ written_groups entries bytes
groups-are entries bytes one unbroken from is groups lists =
    one entries (writers entries bytes) groups unbroken (writers-known entries bytes unbroken) (subst (λ (xs : List ℕ). Lists groups (Back entries xs)) is lists)
