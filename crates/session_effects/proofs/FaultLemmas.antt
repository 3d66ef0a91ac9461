-- Counts of faults over several calls, and what made effects halt.
use Rattle.std.proofs.Common.{ℕ, List, Option, inl, inr, ◌∙◌, arith}
use Rattle.std.proofs.lemmas.Bool.{cases_lt}
use Rattle.arn_base.specs.Faults.{Rose, NeverFalls}
use Rattle.log_store.specs.Stops.{GoesOn}
use Rattle.session_effects.specs.Standing.{IsCause}
use Rattle.session_effects.specs.declared.halt.Halt.{Halt}
use Rattle.session_effects.specs.declared.halt.Halt.TheVariants as halt

pub NeverFalls-same : (a : ℕ) → NeverFalls a a
NeverFalls-same a = record { no_less = omega arith; stands_still = λ at_most. omega arith }

pub NeverFalls-append : (a b c : ℕ) → NeverFalls a b → NeverFalls b c → NeverFalls a c
NeverFalls-append a b c p q = record {
  no_less = omega (arith, p.no_less, q.no_less);
  stands_still = λ at_most. q.stands_still (p.stands_still at_most ∙ at_most) ∙ p.stands_still at_most;
}

-- a count that rose in the last call rose over all of them
pub Rose-after : (a b c : ℕ) → NeverFalls a b → NeverFalls b c → Rose b c → Rose a c
Rose-after a b c p q rose = elim rose [
  | inl less ↦ inl (omega (arith, less, p.no_less))
  | inr at_most ↦ elim (cases_lt a b) [
    | inl less ↦ inl (omega (arith, less, q.stands_still at_most))
    | inr no_less ↦ inr (omega (arith, no_less, p.no_less, at_most))
  ]
]

-- a disk goes on over calls that follow one another
pub GoesOn-append : {D : Type 0} (image : D → Option (List ℕ)) (faults : D → ℕ) (old mid new : D) → GoesOn image faults old mid → GoesOn image faults mid new → GoesOn image faults old new
GoesOn-append image faults old mid new p q = record {
  tells = q.tells ∙ p.tells;
  never_falls = NeverFalls-append (faults old) (faults mid) (faults new) p.never_falls q.never_falls;
}

-- what made a later part halt made the whole halt
pub IsCause-after : (why : Halt) (d0 d1 d2 s0 s1 s2 : ℕ) → NeverFalls d0 d1 → NeverFalls d1 d2 → NeverFalls s0 s1 → NeverFalls s1 s2 → IsCause why d1 d2 s1 s2 → IsCause why d0 d2 s0 s2
IsCause-after halt.Disk d0 d1 d2 s0 s1 s2 first second put more is = Rose-after d0 d1 d2 first second is
IsCause-after halt.Sink d0 d1 d2 s0 s1 s2 first second put more is = Rose-after s0 s1 s2 put more is
IsCause-after halt.NoMemory d0 d1 d2 s0 s1 s2 first second put more is = tt
IsCause-after _ d0 d1 d2 s0 s1 s2 first second put more is = is
