use Rattle.std.proofs.Common.{◌%◌, ◌/◌, ◌^◌, ap, sym, ◌∙◌, inl, inr}
use Rattle.set_store.specs.Tries.{IsHigh}
use Rattle.set_store.proofs.Halves.{all-low, all-high}
use Rattle.set_store.proofs.Sides.{low-or-high}
use Rattle.set_store.proofs.sets.Sets.one_side.Goals as goal

pub returns-then-side-eq0 : goal.returns-then-side-eq0
returns-then-side-eq0 c =
    let e = c.empty-empty.ensures in
    all-low c.args.self.now c.args.set c.empty-empty.result c.args.bit c.first-first.ensures.0 e.zero c.requires.some c.requires.there e.set e.empty c.first-first.ensures.1 c.requires.same
    (ap (λ n. n % 2) (ap (λ n. n / 2 ^ c.args.bit) c.first-first.ensures.2 ∙ sym c.side.ensures.side) ∙ c.if-side-eq0.true)

pub returns-else-side-eq0 : goal.returns-else-side-eq0
returns-else-side-eq0 c =
    let e = c.empty-empty.ensures in
    let high : IsHigh c.args.bit c.first-first.ensures.0 = elim (low-or-high c.args.bit c.first-first.ensures.0) [
      | inl l ↦ absurd (c.if-side-eq0.false (ap (λ n. n % 2) (c.side.ensures.side ∙ ap (λ n. n / 2 ^ c.args.bit) (sym c.first-first.ensures.2)) ∙ l))
      | inr h ↦ h
    ] in
    all-high c.args.self.now c.args.set c.empty-empty.result c.args.bit c.first-first.ensures.0 e.zero c.requires.some c.requires.there e.set e.empty c.first-first.ensures.1 c.requires.same high
