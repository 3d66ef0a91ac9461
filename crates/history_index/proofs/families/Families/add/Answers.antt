use Rattle.std.proofs.Common.{ℕ, ◌+◌, ◌++◌, ◌∷◌, [], List, Bool, true, Option, Some, None, length, ap, sym, subst, ◌∙◌}
use Rattle.replay_groups.specs.Groups.{Grouping, IsStarted}
use Rattle.history_index.specs.Families.{Families}
use Rattle.history_index.specs.Runs.{Run}
use Rattle.history_index.proofs.Added.{aligned-more, grown, joins, none-refused, starts}
use Rattle.history_index.proofs.families.Families.add.Goals as goal

pub start-requires : goal.start-requires
start-requires c =
    c.requires.next ∙ ap (λ (f : Families). length f.lives) (sym c.self.view_is) ∙ c.self.invariant.as_many ∙ ap (λ (g : Grouping). length g.groups + 1) (sym c.in_ok-reserve.ensures.ok)

pub join-requires-clause-next : goal.join-requires-clause-next
join-requires-clause-next c =
    c.requires.next ∙ ap (λ (f : Families). length f.lives) (sym c.self.view_is) ∙ c.self.invariant.as_many ∙ ap (λ (g : Grouping). length g.groups + 1) (sym c.in_ok-reserve.ensures.ok)

pub join-requires-clause-started : goal.join-requires-clause-started
join-requires-clause-started c =
    subst (λ (g : Grouping). IsStarted g.groups c.args.group) (sym c.in_ok-reserve.ensures.ok)
    (subst (λ (f : Families). IsStarted f.groups c.args.group) (sym c.self.view_is) (c.requires.started c.if-group-pid.false))

pub returns-in_err-start-clause-err : goal.returns-in_err-start-clause-err
returns-in_err-start-clause-err c = absurd (none-refused c.self.inside.groups c.reserve.new.self c.args.group c.in_ok-reserve.ensures.ok c.in_err-start.ensures.memory)

pub returns-in_err-start-clause-grows : goal.returns-in_err-start-clause-grows
returns-in_err-start-clause-grows c = absurd (none-refused c.self.inside.groups c.reserve.new.self c.args.group c.in_ok-reserve.ensures.ok c.in_err-start.ensures.memory)

pub returns-in_err-start-clause-ok : goal.returns-in_err-start-clause-ok
returns-in_err-start-clause-ok c = absurd (none-refused c.self.inside.groups c.reserve.new.self c.args.group c.in_ok-reserve.ensures.ok c.in_err-start.ensures.memory)

pub invariant_of-self-in_err-start : goal.invariant_of-self-in_err-start
invariant_of-self-in_err-start c = absurd (none-refused c.self.inside.groups c.reserve.new.self c.args.group c.in_ok-reserve.ensures.ok c.in_err-start.ensures.memory)

pub returns-in_err-join-clause-err : goal.returns-in_err-join-clause-err
returns-in_err-join-clause-err c = absurd (c.in_err-join.ensures.memory (ap (λ (g : Grouping). g.reserved) c.in_ok-reserve.ensures.ok))

pub returns-in_err-join-clause-grows : goal.returns-in_err-join-clause-grows
returns-in_err-join-clause-grows c = absurd (c.in_err-join.ensures.memory (ap (λ (g : Grouping). g.reserved) c.in_ok-reserve.ensures.ok))

pub returns-in_err-join-clause-ok : goal.returns-in_err-join-clause-ok
returns-in_err-join-clause-ok c = absurd (c.in_err-join.ensures.memory (ap (λ (g : Grouping). g.reserved) c.in_ok-reserve.ensures.ok))

pub invariant_of-self-in_err-join : goal.invariant_of-self-in_err-join
invariant_of-self-in_err-join c = absurd (c.in_err-join.ensures.memory (ap (λ (g : Grouping). g.reserved) c.in_ok-reserve.ensures.ok))

pub returns-in_ok-start-clause-ok : goal.returns-in_ok-start-clause-ok
returns-in_ok-start-clause-ok c =
    starts _ c.args.self.now c.self.view_is c.args.event c.args.pid c.args.group c.requires.next _ (c.push_reserved.ensures.items ∙ ap (λ (xs : List Bool). xs ++ true ∷ []) c.in_ok-reserve-3.ensures.items)
    (c.push_reserved-2.ensures.items ∙ ap (λ (xs : List Run). xs ++ c.new.result ∷ []) c.in_ok-reserve-4.ensures.items ∙ ap (λ (r : Run). c.self.inside.runs.items ++ r ∷ []) c.new.ensures) c.if-group-pid.true
    (ap (λ (g : Grouping). g.groups) c.in_ok-start.ensures.ok ∙ ap (λ (g : Grouping). g.groups ++ c.args.pid ∷ []) c.in_ok-reserve.ensures.ok)
    (c.push_reserved-then-group-pid-2.ensures.items ∙ ap (λ (xs : List (Option ℕ)). xs ++ Some c.args.event ∷ []) c.in_ok-reserve-5.ensures.items)
    (c.push_reserved-then-group-pid.ensures.items ∙ ap (λ (xs : List ℕ). xs ++ c.args.pid ∷ []) c.in_ok-reserve-2.ensures.items)

pub returns-in_ok-start-clause-grows : goal.returns-in_ok-start-clause-grows
returns-in_ok-start-clause-grows c = grown _ c.args.self.now c.self.view_is c.push_reserved.new.self.items (c.push_reserved.ensures.items ∙ ap (λ (xs : List Bool). xs ++ true ∷ []) c.in_ok-reserve-3.ensures.items)

pub invariant_of-self-then-group-pid : goal.invariant_of-self-then-group-pid
invariant_of-self-then-group-pid c =
    aligned-more c.self.inside.groups.groups _ c.self.inside.lives.items _ c.args.pid c.self.invariant
    (ap (λ (g : Grouping). g.groups) c.in_ok-start.ensures.ok ∙ ap (λ (g : Grouping). g.groups ++ c.args.pid ∷ []) c.in_ok-reserve.ensures.ok)
    (c.push_reserved.ensures.items ∙ ap (λ (xs : List Bool). xs ++ true ∷ []) c.in_ok-reserve-3.ensures.items)

pub returns-in_ok-join-clause-ok : goal.returns-in_ok-join-clause-ok
returns-in_ok-join-clause-ok c =
    joins _ c.args.self.now c.self.view_is c.args.event c.args.pid c.args.group c.requires.next _ (c.push_reserved.ensures.items ∙ ap (λ (xs : List Bool). xs ++ true ∷ []) c.in_ok-reserve-3.ensures.items)
    (c.push_reserved-2.ensures.items ∙ ap (λ (xs : List Run). xs ++ c.new.result ∷ []) c.in_ok-reserve-4.ensures.items ∙ ap (λ (r : Run). c.self.inside.runs.items ++ r ∷ []) c.new.ensures) c.if-group-pid.false
    (ap (λ (g : Grouping). g.groups) c.in_ok-join.ensures.ok ∙ ap (λ (g : Grouping). g.groups ++ c.args.group ∷ []) c.in_ok-reserve.ensures.ok)
    (c.push_reserved-else-group-pid.ensures.items ∙ ap (λ (xs : List (Option ℕ)). xs ++ None ∷ []) c.in_ok-reserve-5.ensures.items)
    c.in_ok-reserve-2.ensures.items

pub returns-in_ok-join-clause-grows : goal.returns-in_ok-join-clause-grows
returns-in_ok-join-clause-grows c = grown _ c.args.self.now c.self.view_is c.push_reserved.new.self.items (c.push_reserved.ensures.items ∙ ap (λ (xs : List Bool). xs ++ true ∷ []) c.in_ok-reserve-3.ensures.items)

pub invariant_of-self-else-group-pid : goal.invariant_of-self-else-group-pid
invariant_of-self-else-group-pid c =
    aligned-more c.self.inside.groups.groups _ c.self.inside.lives.items _ c.args.group c.self.invariant
    (ap (λ (g : Grouping). g.groups) c.in_ok-join.ensures.ok ∙ ap (λ (g : Grouping). g.groups ++ c.args.group ∷ []) c.in_ok-reserve.ensures.ok)
    (c.push_reserved.ensures.items ∙ ap (λ (xs : List Bool). xs ++ true ∷ []) c.in_ok-reserve-3.ensures.items)
