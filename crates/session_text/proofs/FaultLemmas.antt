-- Counts of faults over several calls.
use Rattle.std.proofs.Common.{ℕ, inl, inr, arith}
use Rattle.std.proofs.lemmas.Bool.{cases_lt}
use Rattle.arn_base.specs.Faults.{Rose, NeverFalls}

-- a count that rose in the last call rose over all of them
pub Rose-after : (a b c : ℕ) → NeverFalls a b → NeverFalls b c → Rose b c → Rose a c
Rose-after a b c p q rose = elim rose [
  | inl less ↦ inl (omega (arith, less, p.no_less))
  | inr at_most ↦ elim (cases_lt a b) [
    | inl less ↦ inl (omega (arith, less, q.stands_still at_most))
    | inr no_less ↦ inr (omega (arith, no_less, p.no_less, at_most))
  ]
]
