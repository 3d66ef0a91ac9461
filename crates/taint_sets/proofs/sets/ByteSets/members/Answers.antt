use Rattle.std.proofs.Common.{◌≡◌, ◌≤◌, [], ◌∷◌, ◌++◌, List, Option, Some, None, IfOk, refl, sym, ap, subst, ◌∙◌, arith}
use Rattle.set_store.specs.declared.item.Item.{Item}
use Rattle.taint_sets.specs.Numbered.{first_received}
use Rattle.taint_sets.proofs.Standing.{kept-members, received-members, received-none}
use Rattle.taint_sets.proofs.sets.ByteSets.members.Goals as goal
use Rattle.taint_sets.proofs.sets.ByteSets.members.Goals.{in-Some+in_ok-push, in_default}

none-from : (o : Option Item) → ((item : Item) → o ≡ Some item → ⊥) → o ≡ None
none-from None not = refl
none-from (Some item) not = absurd (not item refl)

pub returns-then-set-lt-FIRST_RECEIVED : goal.returns-then-set-lt-FIRST_RECEIVED
returns-then-set-lt-FIRST_RECEIVED c =
    subst (λ (l : List Item). IfOk c.kept_members.result (λ items. items.items ≡ l)) (sym (kept-members c.args.self.now c.args.set c.if-set-lt-FIRST_RECEIVED.true)) c.kept_members.ensures

pub returns : goal.returns
returns c =
    let large : first_received ≤ c.args.set = omega (arith, c.if-set-lt-FIRST_RECEIVED.false) in
    elim c.match-received.branch [
      | in-Some+in_ok-push w ↦
          ap (λ items. items.items) w.items-is
          ∙ (w.in_ok-push.ensures.items
          ∙ (ap (λ (l : List Item). l ++ w.in-Some.item ∷ []) c.new-items.ensures.items
          ∙ sym (received-members c.args.self.now c.args.set w.in-Some.item large (sym c.received.ensures ∙ w.in-Some.is)).1))
      | in_default w ↦
          ap (λ items. items.items) w.items-is
          ∙ (c.new-items.ensures.items
          ∙ sym (received-none c.args.self.now c.args.set large (sym c.received.ensures ∙ none-from c.received.result w.in_default.not-Some)))
    ]
