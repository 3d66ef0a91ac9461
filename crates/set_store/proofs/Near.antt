-- Bytes of an event that follow each other.
use Rattle.std.proofs.Common.{◌≡◌, ◌↔◌, ℕ, ◌+◌, ◌-◌, ◌<◌, Bool, true, false, nat_lt, List, [], ◌∷◌, Contains, Result, Ok, Err, IfOk, refl, sym, ap, subst, ◌∙◌, inl, inr, arith}
use Rattle.std.proofs.lemmas.Bool.{ltb-true, ltb-false}
use Rattle.arn_base.specs.declared.errors.NoMemory.{NoMemory}
use Rattle.set_store.specs.declared.item.Item.{Item}
use Rattle.set_store.specs.Sets.{IsNear, IsUnionOf}
use Rattle.set_store.proofs.Rising.{front}
use Rattle.set_store.proofs.Rows.{only-one}

-- one
pub near-one : (first item : Item) → Contains (first ∷ []) item ↔ IsNear first 1 item
near-one first item = (to, from)
  where
    to : Contains (first ∷ []) item → IsNear first 1 item
    to c = let same = only-one first item c in record { event = sym (ap (λ (i : Item). i.event) same); least = (let at = ap (λ (i : Item). i.at) same in omega (arith, at)); below = (let at = ap (λ (i : Item). i.at) same in omega (arith, at)) }

    from : IsNear first 1 item → Contains (first ∷ []) item
    from near =
        let least = near.least in
        let below = near.below in
        let at : first.at ≡ item.at = omega arith in
        let event = sym near.event in
        let same : first ≡ item = λ i. record { event = event i; at = at i } in
        subst (Contains (first ∷ [])) same (front first [])

-- and one more
pub near-more : (first last : Item) (len : ℕ) (more lower : List Item) → 0 < len → last.event ≡ first.event → last.at ≡ first.at + (len - 1) → IsUnionOf more lower (last ∷ []) → ((item : Item) → Contains lower item ↔ IsNear first (len - 1) item)
    → (item : Item) → Contains more item ↔ IsNear first len item
near-more first last len more lower some event at union near item = (to, from)
  where
    to : Contains more item → IsNear first len item
    to c = elim ((union item).0 c) [
      | inl d ↦ let is = (near item).0 d in record { event = is.event; least = is.least; below = (let below = is.below in omega (arith, below)) }
      | inr d ↦
          let is = (near-one last item).0 d in
          record { event = is.event ∙ event; least = (let least = is.least in omega (arith, least, at)); below = (let below = is.below in omega (arith, below, at, some)) }
    ]

    from : IsNear first len item → Contains more item
    from is = by (nat_lt item.at (first.at + (len - 1))) refl
      where
        by : (b : Bool) → nat_lt item.at (first.at + (len - 1)) ≡ b → Contains more item
        by true e = (union item).1 (inl ((near item).1 (record { event = is.event; least = is.least; below = ltb-true item.at (first.at + (len - 1)) e })))
        by false e =
            let past = ltb-false item.at (first.at + (len - 1)) e in
            let below = is.below in
            (union item).1 (inr ((near-one last item).1 (record { event = is.event ∙ sym event; least = omega (arith, past, at); below = omega (arith, below, at, some) })))

-- of a set that was kept with these members
pub kept-near : (r : Result ℕ NoMemory) (members : ℕ → List Item) (items : List Item) (first : Item) (len : ℕ) → ((item : Item) → Contains items item ↔ IsNear first len item) → IfOk r (λ set. members set ≡ items)
    → IfOk r (λ set. (item : Item) → Contains (members set) item ↔ IsNear first len item)
kept-near (Ok set) members items first len near is = subst (λ l. (item : Item) → Contains l item ↔ IsNear first len item) (sym is) near
kept-near (Err e) members items first len near is = is
