use Rattle.std.proofs.Common.{Contains, sym, subst, ◌∙◌}
use Rattle.group_extents.specs.declared.extent.Extent.{Extent}
use Rattle.taint_state.specs.Kept.{Kept}
use Rattle.followed_groups.proofs.Caches.{found-under, if-some, removed-before, same_extent}
use Rattle.followed_groups.proofs.relations.take_from.Goals as goal

pub returns-in_err-relation-clause-kept : goal.returns-in_err-relation-clause-kept
returns-in_err-relation-clause-kept c = removed-before c.args.cache.now c.pop.new.self c.args.key c.pop.ensures.entries

pub returns-clause-kept : goal.returns-clause-kept
returns-clause-kept c = removed-before c.args.cache.now c.pop.new.self c.args.key c.pop.ensures.entries

pub returns-clause-found : goal.returns-clause-found
returns-clause-found c =
    let r = c.in_ok-relation.relation in
    if-some c.only_if.result
    (λ t is.
    subst (λ (k : Kept). Contains c.args.cache.now.entries (c.args.key, record { extent = c.args.extent; tracker = k })) (sym is.0)
    (subst (λ (x : Extent). Contains c.args.cache.now.entries (c.args.key, record { extent = x; tracker = r.tracker })) (same_extent r.extent c.args.extent (sym c.eq-same.ensures ∙ is.1))
    (found-under c.args.cache.now c.args.key r (sym c.in_ok-relation.ensures.value))))
    c.only_if.ensures
