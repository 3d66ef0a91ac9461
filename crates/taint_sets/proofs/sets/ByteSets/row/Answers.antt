use Rattle.std.proofs.Common.{◌≡◌, ◌↔◌, ◌+◌, Contains, Some, sym, subst, arith}
use Rattle.set_store.specs.declared.item.Item.{Item}
use Rattle.set_store.specs.Sets as stored
use Rattle.set_store.specs.Sets.{IsNear}
use Rattle.taint_sets.specs.Numbered.{IsRowOf, Numbered, StandAsBefore, members_of}
use Rattle.taint_sets.specs.Runs.{byte_behind, item_among}
use Rattle.taint_sets.proofs.Standing.{kept-grown, kept-set}
use Rattle.taint_sets.proofs.Stretches.{row-members}
use Rattle.taint_sets.proofs.sets.ByteSets.row.Goals as goal

pub returns-in_err-neighbours-in-Some-clause-before : goal.returns-in_err-neighbours-in-Some-clause-before
returns-in_err-neighbours-in-Some-clause-before c =
    subst (λ sets. StandAsBefore sets (record { kept = c.neighbours.new.self; runs = c.self.inside.runs.items })) c.self.view_is
    (kept-grown c.self.inside.kept c.neighbours.new.self c.self.inside.runs.items c.neighbours.ensures.before)

pub returns-in_err-set-in-Some-clause-before : goal.returns-in_err-set-in-Some-clause-before
returns-in_err-set-in-Some-clause-before c =
    subst (λ sets. StandAsBefore sets (record { kept = c.neighbours.new.self; runs = c.self.inside.runs.items })) c.self.view_is
    (kept-grown c.self.inside.kept c.neighbours.new.self c.self.inside.runs.items c.neighbours.ensures.before)

pub returns-in_ok-set-in-Some-clause-before : goal.returns-in_ok-set-in-Some-clause-before
returns-in_ok-set-in-Some-clause-before c =
    subst (λ sets. StandAsBefore sets (record { kept = c.neighbours.new.self; runs = c.self.inside.runs.items })) c.self.view_is
    (kept-grown c.self.inside.kept c.neighbours.new.self c.self.inside.runs.items c.neighbours.ensures.before)

pub returns-in_ok-set-in-Some-clause-set : goal.returns-in_ok-set-in-Some-clause-set
returns-in_ok-set-in-Some-clause-set c =
    let after : Numbered = record { kept = c.neighbours.new.self; runs = c.self.inside.runs.items } in
    let is = c.in_ok-set-in-Some.ensures in
    (kept-set after c.in_ok-set-in-Some.set is.1 (subst (stored.IsSet c.neighbours.new.self) (sym is.0) c.in_ok-neighbours-in-Some.ensures.set)).0

pub returns-in_ok-set-in-Some-clause-members : goal.returns-in_ok-set-in-Some-clause-members
returns-in_ok-set-in-Some-clause-members c =
    let inside = c.self.inside in
    let after : Numbered = record { kept = c.neighbours.new.self; runs = inside.runs.items } in
    let is = c.in_ok-set-in-Some.ensures in
    let least = c.min.ensures in
    let less = c.min-count.ensures in
    subst (λ sets. IsRowOf sets c.args.first c.min-count.result (members_of after c.in_ok-set-in-Some.set)) c.self.view_is
    (row-members (record { kept = inside.kept; runs = inside.runs.items }) after c.args.first c.min-count.result c.in_ok-set-in-Some.set c.in-Some.item c.if-first-ge-FIRST_RECEIVED.true is.1
    (λ k h. subst (λ runs. item_among runs (c.args.first + k) ≡ Some (byte_behind c.in-Some.item k)) c.as_slice.ensures.value (c.in-Some.ensures.bytes k (omega (arith, least, less, h))))
    (subst (λ n. (x : Item) → Contains (stored.members_of c.neighbours.new.self n) x ↔ IsNear c.in-Some.item c.min-count.result x) (sym is.0)
    (subst (λ m. (x : Item) → Contains (stored.members_of c.neighbours.new.self c.in_ok-neighbours-in-Some.field-0) x ↔ IsNear c.in-Some.item m x) c.from.ensures c.in_ok-neighbours-in-Some.ensures.members)))
