-- How sets part at a bit.
use Rattle.std.proofs.Common.{◌≡◌, ◌⊎◌, ◌↔◌, ℕ, ◌+◌, ◌/◌, ◌^◌, ◌<◌, max, Bool, true, false, nat_lt, List, [], ◌∷◌, ◌++◌, length, slice_get, Some, Contains, bit_or, refl, sym, ap, subst, ◌∙◌, inl, inr, arith, ◌≤◌}
use Rattle.std.proofs.lemmas.Bool.Decides.{nat_tests}
use Rattle.std.proofs.lemmas.Bool.{ltb-true, ltb-false}
use Rattle.std.proofs.lemmas.List.Elements.{Contains-append_left, Contains-append_right, Contains-append_cases}
use Rattle.set_store.specs.declared.node.TheConstants.{ROWS}
use Rattle.set_store.specs.declared.item.Item.{Item}
use Rattle.set_store.specs.declared.node.Fork.{Fork}
use Rattle.set_store.specs.declared.node.Row.{Row}
use Rattle.set_store.specs.declared.node.Node.{Node}
use Rattle.set_store.specs.declared.node.Node.TheVariants.{Empty, Leaf, Branch}
use Rattle.set_store.specs.Sets.{IsSet, IsUnionOf, StandAsBefore, members_of}
use Rattle.set_store.specs.Tries.{AreAlike, AreOneKey, HasFirst, IsRow, items_of, place, AreHalves, AreHalvesOf, IsAmong, IsNodeBelow, IsHigh, IsLow, IsNodeOf, IsTop, PartAt, key_of, side}
use Rattle.set_store.proofs.Growth.{union-before}
use Rattle.set_store.proofs.Rising.{none_in}
use Rattle.set_store.proofs.Rows.{first-in, row-both, row-first, row-key, row-some, row-union}
use Rattle.std.proofs.lemmas.Nat.{same_from_place}
use Rattle.set_store.proofs.Sides.{alike-above, low-or-high, not-both, same-above, same-high, same-low, side-zero}

first-left : (xs ys : List Item) (key : ℕ) → HasFirst xs key → HasFirst (xs ++ ys) key
first-left xs ys key f = (f.0, at xs f.0 f.1, f.2) where
  at : (zs : List Item) (x : Item) → slice_get zs 0 ≡ Some x → slice_get (zs ++ ys) 0 ≡ Some x
  at [] x e = cc
  at (z ∷ zs) x e = e

-- a node that is known to be of a kind
pub node-is : (sets : List (List Item)) (set : ℕ) (node kind : Node) → node ≡ kind → IsNodeOf sets set node → IsNodeOf sets set kind
node-is sets set node kind e n = subst (λ m. IsNodeOf sets set m) e n

-- the node of a set with another number than the empty set's isn't empty
pub not-empty : (sets : List (List Item)) (set : ℕ) (node : Node) → node ≡ Empty → IsNodeOf sets set node → 0 < set → ⊥
not-empty sets set node e n some = let is = (node-is sets set node Empty e n).below in omega arith

-- the lowest key is what the node says
pub first-leaf : (sets : List (List Item)) (set : ℕ) (row : Row) → IsNodeOf sets set (Leaf row) → HasFirst (members_of sets set) (place row.event row.row)
first-leaf sets set row n = subst (λ l. HasFirst l (place row.event row.row)) (sym n.members) (row-first row n.below)

pub first-fork : (sets : List (List Item)) (set : ℕ) (fork : Fork) → IsNodeOf sets set (Branch fork) → HasFirst (members_of sets set) (place fork.event fork.row)
first-fork sets set fork n = subst (λ l. HasFirst l (place fork.event fork.row)) (sym n.members) (first-left (members_of sets fork.left) (members_of sets fork.right) (place fork.event fork.row) n.below.2.first)

module _ (sets : List (List Item)) (set : ℕ) (fork : Fork) (n : IsNodeOf sets set (Branch fork)) where
  from-left : (x : Item) → Contains (members_of sets fork.left) x → Contains (members_of sets set) x
  from-left x c = subst (λ l. Contains l x) (sym n.members) (Contains-append_left (members_of sets fork.left) (members_of sets fork.right) x c)

  from-right : (x : Item) → Contains (members_of sets fork.right) x → Contains (members_of sets set) x
  from-right x c = subst (λ l. Contains l x) (sym n.members) (Contains-append_right (members_of sets fork.left) (members_of sets fork.right) x c)

  of-parts : (x : Item) → Contains (members_of sets set) x → IsAmong (members_of sets fork.left) (members_of sets fork.right) x
  of-parts x c = Contains-append_cases (members_of sets fork.left) (members_of sets fork.right) x (subst (λ l. Contains l x) n.members c)

  halves : AreHalves fork.bit (members_of sets fork.left) (members_of sets fork.right)
  halves = n.below.2.halves

  -- its parts are its halves at its bit
  pub halves-fork : IsSet sets set → AreHalvesOf sets set fork.bit fork.left fork.right
  halves-fork h =
      let l = n.below.0 in
      let r = n.below.1 in
      let parts = halves in
      record {
        low = λ x. (λ c. (from-left x c, parts.low x c), λ c. elim (of-parts x c.0) [ inl d ↦ d | inr d ↦ absurd (not-both fork.bit x x refl c.1 (parts.high x d)) ]);
        high = λ x. (λ c. (from-right x c, parts.high x c), λ c. elim (of-parts x c.0) [ inl d ↦ absurd (not-both fork.bit x x refl (parts.low x d) c.1) | inr d ↦ d ]);
        left_there = omega arith;
        right_there = omega arith;
        left_most = omega arith;
        right_most = omega arith;
        left_less = λ x c. l;
        right_less = λ x c. r;
      }

  -- and at another bit in which they don't differ above it, all members are on one side
  pub side-fork : (bit : ℕ) → (fork.bit ≡ bit → ⊥) → ((x y : Item) → Contains (members_of sets set) x → Contains (members_of sets set) y → AreAlike bit x y) → (x y : Item) → Contains (members_of sets set) x → Contains (members_of sets set) y → side bit x ≡ side bit y
  side-fork bit other alike x y c d = by (nat_lt fork.bit bit) refl where
    by : (b : Bool) → nat_lt fork.bit bit ≡ b → side bit x ≡ side bit y
    by true e = let parts = halves in same-above fork.bit bit x y (ltb-true fork.bit bit e) (parts.alike x y (of-parts x c) (of-parts y d))
    by false e =
        let least = ltb-false fork.bit bit e in
        let less : bit < fork.bit = omega (arith, other) in
        let parts = halves in
        let a = parts.some_low in
        let b = parts.some_high in
        absurd (not-both fork.bit a.0 b.0 (same-above bit fork.bit a.0 b.0 less (alike a.0 b.0 (from-left a.0 a.1) (from-right b.0 b.1))) (parts.low a.0 a.1) (parts.high b.0 b.1))

  pub top-fork : (first : Item) → slice_get (members_of sets set) 0 ≡ Some first → IsTop (members_of sets set) first fork.bit
  top-fork first e =
      let parts = halves in
      let low = parts.some_low in
      let high = parts.some_high in
      record {
        below = n.below.2.bit;
        alike = λ x c. parts.alike x first (of-parts x c) (of-parts first (first-in (members_of sets set) first e));
        parts = inr (record {
          alike = λ x y c d. parts.alike x y (of-parts x (elim c [ inl i ↦ i | inr i ↦ absurd (none_in x i) ])) (of-parts y (elim d [ inl i ↦ i | inr i ↦ absurd (none_in y i) ]));
          some_low = (low.0, inl (from-left low.0 low.1), parts.low low.0 low.1);
          some_high = (high.0, inl (from-right high.0 high.1), parts.high high.0 high.1);
        });
      }

leaf-key : (sets : List (List Item)) (set : ℕ) (row : Row) → IsNodeOf sets set (Leaf row) → (x y : Item) → Contains (members_of sets set) x → Contains (members_of sets set) y → key_of x ≡ key_of y
leaf-key sets set row n x y c d = row-key row x (subst (λ l. Contains l x) n.members c) ∙ sym (row-key row y (subst (λ l. Contains l y) n.members d))

pub side-leaf : (sets : List (List Item)) (set : ℕ) (row : Row) (bit : ℕ) → IsNodeOf sets set (Leaf row) → (x y : Item) → Contains (members_of sets set) x → Contains (members_of sets set) y → side bit x ≡ side bit y
side-leaf sets set row bit n x y c d = ap (λ k. k / 2 ^ bit) (leaf-key sets set row n x y c d)

pub top-leaf : (sets : List (List Item)) (set : ℕ) (row : Row) → IsNodeOf sets set (Leaf row) → (first : Item) → slice_get (members_of sets set) 0 ≡ Some first → IsTop (members_of sets set) first 0
top-leaf sets set row h1 first h2 = grind (arith, nat_tests, first-in, leaf-key)

-- a set of members without the bit, or with it
module _ (sets : List (List Item)) (set empty bit : ℕ) (first : Item) (z : empty ≡ 0) (some : 0 < set) (h : IsSet sets set) (e : IsSet sets empty) (none : members_of sets empty ≡ [])
    (f : slice_get (members_of sets set) 0 ≡ Some first) (same : (x y : Item) → Contains (members_of sets set) x → Contains (members_of sets set) y → side bit x ≡ side bit y) where
  nothing : (x : Item) → Contains (members_of sets empty) x → ⊥
  nothing x c = none_in x (subst (λ l. Contains l x) none c)

  as-first : (x : Item) → Contains (members_of sets set) x → side bit x ≡ side bit first
  as-first x c = same x first c (first-in (members_of sets set) first f)

  pub all-low : IsLow bit first → AreHalvesOf sets set bit set empty
  all-low h1 = grind (arith, nat_tests, as-first, not-both, nothing)

  pub all-high : IsHigh bit first → AreHalvesOf sets set bit empty set
  all-high h1 = grind (arith, nat_tests, as-first, not-both, nothing)

pub record Parting (xs ys : List Item) (x y : Item) (bit : ℕ) : Type 0 where
  pub below : bit < 128
  pub first : (z : Item) → Contains xs z → AreAlike bit z x
  pub second : (z : Item) → Contains ys z → AreAlike bit z y
  pub parts : (((z : Item) × IsAmong xs ys z × IsLow bit z) × ((z : Item) × IsAmong xs ys z × IsHigh bit z)) ⊎ (side bit x ≡ side bit y → ⊥)

only-first : (xs : List Item) (z : Item) → IsAmong xs [] z → Contains xs z
only-first xs z (inl c) = c
only-first xs z (inr c) = absurd (none_in z c)

abbrev Ends : List Item → List Item → ℕ → Type 0
Ends xs ys bit = ((z : Item) × IsAmong xs ys z × IsLow bit z) × ((z : Item) × IsAmong xs ys z × IsHigh bit z)

ends-first : (xs ys : List Item) (bit : ℕ) → PartAt xs [] bit → Ends xs ys bit
ends-first xs ys bit h1 = grind (arith, nat_tests, only-first)

ends-second : (xs ys : List Item) (bit : ℕ) → PartAt ys [] bit → Ends xs ys bit
ends-second xs ys bit h1 = grind (arith, nat_tests, only-first)

pub parting-first : (xs ys : List Item) (x y : Item) (a b bit : ℕ) → bit ≡ max a b → IsTop xs x a → IsTop ys y b → (((z : Item) → Contains xs z → key_of z ≡ key_of x) → ((z : Item) → Contains ys z → key_of z ≡ key_of y) → key_of x ≡ key_of y → ⊥) → Parting xs ys x y bit
parting-first xs ys x y a b bit e p q differ = by (nat_lt a b) refl where
  by : (t : Bool) → nat_lt a b ≡ t → Parting xs ys x y bit
  by true t =
      let less = ltb-true a b t in
      let same : b ≡ bit = omega arith in
      subst (λ n. Parting xs ys x y n) same (record {
        below = q.below;
        first = λ z c. alike-above a b z x (omega arith) (p.alike z c);
        second = q.alike;
        parts = elim q.parts [ inl one ↦ let zero = one.0 in absurd (omega arith) | inr r ↦ inl (ends-second xs ys b r) ];
      })
  by false t =
      let least = ltb-false a b t in
      let same : a ≡ bit = omega arith in
      subst (λ n. Parting xs ys x y n) same (record {
        below = p.below;
        first = p.alike;
        second = λ z c. alike-above b a z y (omega arith) (q.alike z c);
        parts = elim p.parts [
          | inr r ↦ inl (ends-first xs ys a r)
          | inl one ↦ elim q.parts [
            | inr r ↦ let zero = one.0 in let is : b ≡ a = omega arith in inl (subst (λ n. Ends xs ys n) is (ends-second xs ys b r))
            | inl two ↦ inr (λ s. differ one.1 two.1 (sym (side-zero x) ∙ subst (λ n. side n x ≡ side n y) one.0 s ∙ side-zero y))
          ]
        ];
      })

-- where they differ from a higher bit on, they part there or above
pub parting-higher : (xs ys : List Item) (x y : Item) (low bit : ℕ) → low ≤ bit → bit < 128 → (bit ≡ low) ⊎ (side bit x ≡ side bit y → ⊥) → Parting xs ys x y low → Parting xs ys x y bit
parting-higher xs ys x y low bit h below (inl e) p = subst (λ n. Parting xs ys x y n) (sym e) p
parting-higher xs ys x y low bit h below (inr differ) p = record {
  below = below;
  first = λ z c. alike-above low bit z x h (p.first z c);
  second = λ z c. alike-above low bit z y h (p.second z c);
  parts = inr differ;
}

-- and where they don't, it is found
pub parting-last : (xs ys : List Item) (x y : Item) (bit : ℕ) → Contains xs x → Contains ys y → side bit x / 2 ≡ side bit y / 2 → Parting xs ys x y bit → PartAt xs ys bit
parting-last xs ys x y bit x_in y_in e p =
    let to : (z : Item) → IsAmong xs ys z → AreAlike bit z x = λ z c. elim c [ inl i ↦ p.first z i | inr i ↦ p.second z i ∙ sym e ] in
    let ends = found p.parts in
    record { alike = λ a b c d. to a c ∙ sym (to b d); some_low = ends.0; some_high = ends.1 }
  where
    found : Ends xs ys bit ⊎ (side bit x ≡ side bit y → ⊥) → Ends xs ys bit
    found (inl ends) = ends
    found (inr differ) = elim (low-or-high bit x) [
      | inl a ↦ elim (low-or-high bit y) [ inl b ↦ absurd (differ (same-low bit x y e a b)) | inr b ↦ ((x, inl x_in, a), (y, inr y_in, b)) ]
      | inr a ↦ elim (low-or-high bit y) [ inl b ↦ ((y, inr y_in, b), (x, inl x_in, a)) | inr b ↦ absurd (differ (same-high bit x y e a b)) ]
    ]

pub one-key : (xs ys : List Item) (x y : Item) → ((z : Item) → Contains xs z → key_of z ≡ key_of x) → ((z : Item) → Contains ys z → key_of z ≡ key_of y) → key_of x ≡ key_of y → AreOneKey xs ys
one-key xs ys x y h1 h2 h3 = grind (arith, nat_tests)

-- a fork's items don't have one key, and two rows' only where they are in one place
pub fork-apart : (sets : List (List Item)) (set : ℕ) (fork : Fork) (ys : List Item) → IsNodeOf sets set (Branch fork) → AreOneKey (members_of sets set) ys → ⊥
fork-apart sets set fork ys n one =
    let parts = halves sets set fork n in
    let a = parts.some_low in
    let b = parts.some_high in
    not-both fork.bit a.0 b.0 (ap (λ k. k / 2 ^ fork.bit) (one a.0 b.0 (inl (from-left sets set fork n a.0 a.1)) (inl (from-right sets set fork n b.0 b.1)))) (parts.low a.0 a.1) (parts.high b.0 b.1)

pub apart-swapped : (xs ys : List Item) → (AreOneKey ys xs → ⊥) → AreOneKey xs ys → ⊥
apart-swapped xs ys h1 h2 = grind (arith, nat_tests)

pub rows-apart : (sets : List (List Item)) (a b : ℕ) (row other : Row) → IsNodeOf sets a (Leaf row) → IsNodeOf sets b (Leaf other) → (row.event ≡ other.event → row.row ≡ other.row → ⊥) → AreOneKey (members_of sets a) (members_of sets b) → ⊥
rows-apart sets a b row other n m differ one =
    let x = row-some row n.below in
    let y = row-some other m.below in
    let x_in = subst (λ l. Contains l x.0) (sym n.members) x.1 in
    let y_in = subst (λ l. Contains l y.0) (sym m.members) y.1 in
    let same : place row.event row.row ≡ place other.event other.row = sym (row-key row x.0 x.1) ∙ one x.0 y.0 (inl x_in) (inr y_in) ∙ row-key other y.0 y.1 in
    let parts = same_from_place row.event row.row other.event other.row ROWS n.below.row_fits m.below.row_fits same in
    differ parts.0 parts.1

pub rows-joined : (sets : List (List Item)) (a b : ℕ) (row other both : Row) → IsNodeOf sets a (Leaf row) → IsNodeOf sets b (Leaf other) → row.event ≡ other.event → row.row ≡ other.row → both.event ≡ row.event → both.row ≡ row.row → both.mask ≡ bit_or row.mask other.mask
    → IsRow both × IsUnionOf (items_of both) (members_of sets a) (members_of sets b)
rows-joined sets a b row other both n m e f g h o = (
  row-both row other both n.below m.below h o,
  subst (λ l. IsUnionOf (items_of both) l (members_of sets b)) (sym n.members) (subst (λ l. IsUnionOf (items_of both) (items_of row) l) (sym m.members) (row-union row other both e f g h o)),
)

-- the unions of the halves of two sets
pub record AreUnited (bit : ℕ) (xs ys left right : List Item) : Type 0 where
  pub halves : AreHalves bit left right
  pub members : IsUnionOf (left ++ right) xs ys

-- a set's members without a bit and with it
pub record FallApart (bit : ℕ) (members left right : List Item) : Type 0 where
  pub low : (item : Item) → Contains left item ↔ (Contains members item × IsLow bit item)
  pub high : (item : Item) → Contains right item ↔ (Contains members item × IsHigh bit item)

module _ (bit : ℕ) (xs ys al ar bl br left right : List Item) (p : PartAt xs ys bit) (a : FallApart bit xs al ar) (b : FallApart bit ys bl br) (l : IsUnionOf left al bl) (r : IsUnionOf right ar br) where
  left-low : (x : Item) → Contains left x → IsAmong xs ys x × IsLow bit x
  left-low x c = elim ((l x).0 c) [ inl d ↦ let at = (a.low x).0 d in (inl at.0, at.1) | inr d ↦ let at = (b.low x).0 d in (inr at.0, at.1) ]

  right-high : (x : Item) → Contains right x → IsAmong xs ys x × IsHigh bit x
  right-high x c = elim ((r x).0 c) [ inl d ↦ let at = (a.high x).0 d in (inl at.0, at.1) | inr d ↦ let at = (b.high x).0 d in (inr at.0, at.1) ]

  low-left : (x : Item) → IsAmong xs ys x → IsLow bit x → Contains left x
  low-left x c h = (l x).1 (elim c [ inl d ↦ inl ((a.low x).1 (d, h)) | inr d ↦ inr ((b.low x).1 (d, h)) ])

  high-right : (x : Item) → IsAmong xs ys x → IsHigh bit x → Contains right x
  high-right x c h = (r x).1 (elim c [ inl d ↦ inl ((a.high x).1 (d, h)) | inr d ↦ inr ((b.high x).1 (d, h)) ])

  either : (x : Item) → IsAmong left right x → IsAmong xs ys x
  either x (inl c) = (left-low x c).0
  either x (inr c) = (right-high x c).0

  pub united : AreUnited bit xs ys left right
  united =
      let low = p.some_low in
      let high = p.some_high in
      record {
        halves = record {
          low = λ x c. (left-low x c).1;
          high = λ x c. (right-high x c).1;
          some_low = (low.0, low-left low.0 low.1 low.2);
          some_high = (high.0, high-right high.0 high.1 high.2);
          alike = λ x y c d. p.alike x y (either x c) (either y d);
        };
        members = λ x. (
          λ c. either x (Contains-append_cases left right x c),
          λ c. elim (low-or-high bit x) [ inl h ↦ Contains-append_left left right x (low-left x c h) | inr h ↦ Contains-append_right left right x (high-right x c h) ],
        );
      }

pub fall : (sets : List (List Item)) (set bit left right : ℕ) → AreHalvesOf sets set bit left right → FallApart bit (members_of sets set) (members_of sets left) (members_of sets right)
fall sets set bit left right h = record { low = h.low; high = h.high }

-- two numbers that aren't higher than two others, and of which one is lower, are lower in all
some-lower : (a b x y : ℕ) (xs ys : List Item) (item : Item) → x ≤ a → y ≤ b → ((item : Item) → Contains xs item → x < a) → ((item : Item) → Contains ys item → y < b) → IsAmong xs ys item → x + y < a + b
some-lower a b x y xs ys item most most_too less less_too (inl c) = let lower = less item c in omega (arith, most, most_too, lower)
some-lower a b x y xs ys item most most_too less less_too (inr c) = let lower = less_too item c in omega (arith, most, most_too, lower)

-- so are the left halves of two sets that part, since the right ones have a member, and the other way round
module _ (sets : List (List Item)) (a b bit al ar bl br : ℕ) (p : PartAt (members_of sets a) (members_of sets b) bit) (h : AreHalvesOf sets a bit al ar) (k : AreHalvesOf sets b bit bl br) where
  pub left-smaller : al + bl < a + b
  left-smaller =
      let high = p.some_high in
      some-lower a b al bl (members_of sets ar) (members_of sets br) high.0 h.left_most k.left_most h.left_less k.left_less
      (elim high.1 [ inl c ↦ inl ((h.high high.0).1 (c, high.2)) | inr c ↦ inr ((k.high high.0).1 (c, high.2)) ])

  pub right-smaller : ar + br < a + b
  right-smaller =
      let low = p.some_low in
      some-lower a b ar br (members_of sets al) (members_of sets bl) low.0 h.right_most k.right_most h.right_less k.right_less
      (elim low.1 [ inl c ↦ inl ((h.low low.0).1 (c, low.2)) | inr c ↦ inr ((k.low low.0).1 (c, low.2)) ])

pub united-in : (old mid new : List (List Item)) (bit a b al ar bl br left right : ℕ) → PartAt (members_of old a) (members_of old b) bit → AreHalvesOf old a bit al ar → AreHalvesOf old b bit bl br
    → StandAsBefore old mid → IsSet mid left → IsUnionOf (members_of mid left) (members_of old al) (members_of old bl) → StandAsBefore mid new → IsUnionOf (members_of new right) (members_of mid ar) (members_of mid br)
    → AreUnited bit (members_of old a) (members_of old b) (members_of new left) (members_of new right)
united-in old mid new bit a b al ar bl br left right p h k s there l t r =
    united bit (members_of old a) (members_of old b) (members_of old al) (members_of old ar) (members_of old bl) (members_of old br) (members_of new left) (members_of new right) p
    (fall old a bit al ar h) (fall old b bit bl br k)
    (subst (λ m. IsUnionOf m (members_of old al) (members_of old bl)) (sym (t.same left there)) l)
    (union-before old mid (members_of new right) ar br s h.right_there k.right_there r)

-- where an item stands in a fork, its key says
pub contains-low : (sets : List (List Item)) (set : ℕ) (fork : Fork) (item : Item) {P : Type 0} → IsNodeOf sets set (Branch fork) → IsLow fork.bit item → (P ↔ Contains (members_of sets fork.left) item) → P ↔ Contains (members_of sets set) item
contains-low sets set fork item n l h = (
  λ p. from-left sets set fork n item (h.0 p),
  λ c. elim (of-parts sets set fork n item c) [ inl d ↦ h.1 d | inr d ↦ absurd (not-both fork.bit item item refl l (n.below.2.halves.high item d)) ],
)

pub contains-high : (sets : List (List Item)) (set : ℕ) (fork : Fork) (item : Item) {P : Type 0} → IsNodeOf sets set (Branch fork) → (IsLow fork.bit item → ⊥) → (P ↔ Contains (members_of sets fork.right) item) → P ↔ Contains (members_of sets set) item
contains-high sets set fork item n l h = (
  λ p. from-right sets set fork n item (h.0 p),
  λ c. elim (of-parts sets set fork n item c) [ inl d ↦ absurd (l (n.below.2.halves.low item d)) | inr d ↦ h.1 d ],
)

-- a fork whose parts' numbers are these two
pub is-fork : (sets : List (List Item)) (fork : Fork) (left right : ℕ) → fork.left ≡ left → fork.right ≡ right → IsSet sets left → IsSet sets right → fork.bit < 128 → fork.row < ROWS
    → HasFirst (members_of sets left) (place fork.event fork.row) → AreHalves fork.bit (members_of sets left) (members_of sets right) → IsNodeBelow sets (length sets) (Branch fork)
is-fork sets fork left right h1 h2 h3 h4 h5 h6 h7 h8 = grind (arith, nat_tests, halves)

pub fork-members : (sets : List (List Item)) (a b left right : ℕ) → a ≡ left → b ≡ right → members_of sets a ++ members_of sets b ≡ members_of sets left ++ members_of sets right
fork-members sets a b left right e f = ap (λ n. members_of sets n ++ members_of sets b) e ∙ ap (λ n. members_of sets left ++ members_of sets n) f
