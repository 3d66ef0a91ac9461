use Rattle.std.proofs.Common.{◌≡◌, ◌↔◌, ℕ, [], List, sym, subst}
use Rattle.set_store.specs.declared.item.Item.{Item}
use Rattle.taint_sets.specs.declared.run.Run.{Run}
use Rattle.taint_sets.specs.Numbered.{IsSet, members_of}
use Rattle.taint_sets.proofs.Standing.{alone-at, alone-empty}
use Rattle.taint_sets.proofs.sets.ByteSets.new.Goals as goal

pub returns-clause-alone : goal.returns-clause-alone
returns-clause-alone c =
    subst (λ (runs : List Run). (set : ℕ) → IsSet (record { kept = c.in_ok-new.field-0; runs = runs }) set ↔ (set ≡ 0)) (sym c.new-2.ensures.items)
    (subst (λ (kept : List (List Item)). (set : ℕ) → IsSet (record { kept = kept; runs = [] }) set ↔ (set ≡ 0)) (sym c.in_ok-new.ensures.empty) alone-at)

pub returns-clause-empty : goal.returns-clause-empty
returns-clause-empty c =
    subst (λ (runs : List Run). members_of (record { kept = c.in_ok-new.field-0; runs = runs }) 0 ≡ []) (sym c.new-2.ensures.items)
    (subst (λ (kept : List (List Item)). members_of (record { kept = kept; runs = [] }) 0 ≡ []) (sym c.in_ok-new.ensures.empty) alone-empty)
