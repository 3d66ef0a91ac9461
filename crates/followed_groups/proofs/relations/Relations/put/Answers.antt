use Rattle.std.proofs.Common.{ℕ, ap, sym, subst, inl, inr, ◌∙◌}
use Rattle.followed_groups.specs.Relations.{Holds}
use Rattle.followed_groups.proofs.relations.Relations.put.Goals as goal

pub returns-in-Some-clause-also : goal.returns-in-Some-clause-also
returns-in-Some-clause-also c = λ k r h. elim (c.put.ensures.also k r h) [
  | inl was ↦ inl (subst (λ cache. Holds cache k r) (sym c.in-Some.is) was)
  | inr put ↦ inr (put.0 ∙ ap (λ (n : ℕ). (c.args.group, n)) c.number_of.ensures, put.1)
]
