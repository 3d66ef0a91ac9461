use Rattle.std.proofs.Common.{◌≡◌, ◌⊎◌, ◌/◌, ◌^◌, ◌∙◌, ap, sym, inl, inr}
use Rattle.set_store.specs.Sets.{members_of}
use Rattle.set_store.specs.Tries.{AreAlike, side}
use Rattle.set_store.proofs.Halves.{one-key, parting-first, parting-higher, parting-last}
use Rattle.set_store.proofs.Rows.{first-in}
use Rattle.set_store.proofs.sets.Sets.parting.Goals as goal

pub returns-clause-parted : goal.returns-clause-parted
returns-clause-parted c =
    let bit = c.apart_from.result in
    let x = c.first-low.ensures.0 in
    let y = c.first-high.ensures.0 in
    let xs = members_of c.args.self.now c.args.pair.0 in
    let ys = members_of c.args.self.now c.args.pair.1 in
    let p = parting-first xs ys x y c.top.result c.top-2.result c.max-least.result c.max-least.ensures (c.top.ensures.top x c.first-low.ensures.1) (c.top-2.ensures.top y c.first-high.ensures.1)
    (λ p q e. c.requires.apart (one-key xs ys x y p q e)) in
    let at : side bit x ≡ c.first-low.result / 2 ^ bit = ap (λ n. n / 2 ^ bit) c.first-low.ensures.2 in
    let to : side bit y ≡ c.first-high.result / 2 ^ bit = ap (λ n. n / 2 ^ bit) c.first-high.ensures.2 in
    let either : (bit ≡ c.max-least.result) ⊎ (side bit x ≡ side bit y → ⊥) = elim c.apart_from.ensures.apart [ inl e ↦ inl e | inr d ↦ inr (λ s. d (sym at ∙ s ∙ to)) ] in
    let e : AreAlike bit x y = ap (λ n. n / 2) at ∙ c.apart_from.ensures.alike ∙ sym (ap (λ n. n / 2) to) in
    parting-last xs ys x y bit (first-in xs x c.first-low.ensures.1) (first-in ys y c.first-high.ensures.1) e (parting-higher xs ys x y c.max-least.result bit c.apart_from.ensures.least c.apart_from.ensures.below either p)
