-- Counts of faults over several calls.
use Rattle.std.proofs.Common.{◌∙◌, ℕ, List, Option, inl, inr, arith, refl}
use Rattle.std.proofs.lemmas.Bool.{cases_lt}
use Rattle.arn_base.specs.Faults.{Rose, NeverFalls}
use Rattle.log_store.specs.Stops.{GoesOn}

-- a count that rose in the last call rose over all of them
pub Rose-after : (a b c : ℕ) → NeverFalls a b → NeverFalls b c → Rose b c → Rose a c
Rose-after a b c p q rose = elim rose [
  | inl less ↦ inl (omega (arith, less, p.no_less))
  | inr at_most ↦ elim (cases_lt a b) [
    | inl less ↦ inl (omega (arith, less, q.stands_still at_most))
    | inr no_less ↦ inr (omega (arith, no_less, p.no_less, at_most))
  ]
]

-- a disk with which nothing was done goes on
pub goes-nowhere : {D : Type 0} (image : D → Option (List ℕ)) (faults : D → ℕ) (disk : D) → GoesOn image faults disk disk
goes-nowhere image faults disk = record {
  tells = refl;
  never_falls = record { no_less = omega arith; stands_still = λ at_most. refl };
}

-- it goes on over two calls
pub goes-both : {D : Type 0} (image : D → Option (List ℕ)) (faults : D → ℕ) (old mid new : D) → GoesOn image faults old mid → GoesOn image faults mid new → GoesOn image faults old new
goes-both image faults old mid new p q = record {
  tells = q.tells ∙ p.tells;
  never_falls = record {
    no_less = omega (arith, p.never_falls.no_less, q.never_falls.no_less);
    stands_still = λ at_most. q.never_falls.stands_still (p.never_falls.stands_still at_most ∙ at_most) ∙ p.never_falls.stands_still at_most;
  };
}
