use Rattle.std.proofs.Common.{◌≡◌, ◌<◌, ℕ, [], length, refl, arith, Option, None, Some, sym, ap, subst, inl, inr, ◌∙◌}
use Rattle.slab.specs.Slab.{get}
use Rattle.slab.proofs.SlabLemmas.{Contains-cons, Contains-cons_cases, Contains-entries}
use Rattle.guest_pipes.specs.declared.entries.Entry.{Entry}
use Rattle.guest_pipes.specs.Table.{HasNumber}
use Rattle.guest_pipes.proofs.Listed.{numbered-none}
use Rattle.guest_pipes.proofs.entries.find_key.Goals as goal

pub loop-key-init : goal.loop-key-init
loop-key-init c =
    let left = c.into_iter-key-iterator.ensures.into_iter_gives ∙ c.iter-key-items.ensures.rest in (
      tt,
      tt,
      λ key e found same. rw left ((Contains-entries c.args.table.now key e).1 found),
      λ key e there. (Contains-entries c.args.table.now key e).0 (rw left at there),
    )

pub loop-key-preserved : goal.loop-key-preserved
loop-key-preserved c =
    let at = c.in-Some.ensures.steps in (
      tt,
      tt,
      λ key e found same. elim (Contains-cons_cases _ _ _ (rw at at (c.loop-key.invariant.2 key e found same))) [
        | inl here ↦ absurd (c.if-entry-number.false (ap (λ x. x.1.number) here ∙ same))
        | inr rest ↦ rest
      ],
      λ key e there. c.loop-key.invariant.3 key e (rw at (Contains-cons _ _ _ there)),
    )

pub returns-then-entry-number-clause-found : goal.returns-then-entry-number-clause-found
returns-then-entry-number-clause-found c =
    let found = c.loop-key.invariant.3 c.in-Some.key c.in-Some.entry.now (rw c.in-Some.ensures.steps (0, omega arith, refl)) in
    subst (HasNumber c.args.number) (sym found) c.if-entry-number.true

pub returns-clause-absent : goal.returns-clause-absent
returns-clause-absent c =
    numbered-none c.args.table.now.slots c.args.number (λ key here. by key (get c.args.table.now key) refl here)
  where
    by : (key : ℕ) (o : Option Entry) → get c.args.table.now key ≡ o → HasNumber c.args.number o → ⊥
    by key None is here = here
    by key (Some e) is here =
        let left = c.loop-key.invariant.2 key e is here in
        let none : left.0 < length {A = ℕ × Entry} [] = rw (c.in-None.ensures.steps.0) at left.1 in
        absurd (omega (arith, none))
