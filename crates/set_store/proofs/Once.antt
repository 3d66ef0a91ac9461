-- Members rise, and equal sets have equal numbers.
use Rattle.std.proofs.Common.{◌≡◌, ℕ, zero, suc, ◌/◌, ◌^◌, ◌<◌, List, [], ◌++◌, length, slice_get, Some, None, Contains, refl, sym, ap, subst, ◌∙◌, inl, inr, arith}
use Rattle.std.proofs.lemmas.Bool.Decides.{nat_tests}
use Rattle.std.proofs.lemmas.List.Elements.{Contains-append_left, Contains-append_right, Contains-append_cases}
use Rattle.std.proofs.lemmas.Nat.{same_from_place}
use Rattle.std.proofs.lemmas.Option.{slice_get_within}
use Rattle.set_store.specs.declared.node.TheConstants.{ROWS}
use Rattle.set_store.specs.declared.item.Item.{Item}
use Rattle.set_store.specs.declared.node.Fork.{Fork}
use Rattle.set_store.specs.declared.node.Row.{Row}
use Rattle.set_store.specs.declared.node.Node.{Node}
use Rattle.set_store.specs.declared.node.Node.TheVariants.{Empty, Leaf, Branch}
use Rattle.set_store.specs.Sets.{AreInterned, HaveSame, members_of}
use Rattle.set_store.specs.Tries.{AreHalves, HasFirst, key_of, place, IsAmong, IsForkOf, IsHigh, IsLow, IsNodeBelow, IsNodeOf, expanded, lists_of}
use Rattle.set_store.specs.Sound.{AreTries}
use Rattle.set_store.proofs.Growth.{counted, got}
use Rattle.set_store.proofs.Rising.{none_in}
use Rattle.set_store.proofs.Rows.{AreGood, join, rising-none, row-good, row-key, row-same, row-some}
use Rattle.set_store.proofs.Sides.{item-less, key-below, not-both, same-above}

good-halves : (bit : ℕ) (xs ys : List Item) → AreHalves bit xs ys → AreGood xs → AreGood ys → AreGood (xs ++ ys)
good-halves bit xs ys h a b = record {
  rising = join xs ys a.rising b.rising (λ x y c d. item-less x y (a.fit x c) (b.fit y d) (key-below bit x y (h.alike x y (inl c) (inr d)) (h.low x c) (h.high y d)));
  fit = λ z c. elim (Contains-append_cases xs ys z c) [ inl d ↦ a.fit z d | inr d ↦ b.fit z d ];
}

good-node : (sets : List (List Item)) (set : ℕ) (node : Node) → ((s : ℕ) → s < set → AreGood (members_of sets s)) → IsNodeBelow sets set node → AreGood (expanded sets node)
good-node sets set Empty f b = record { rising = rising-none; fit = λ z c. absurd (none_in z c) }
good-node sets set (Leaf row) f b = row-good row b
good-node sets set (Branch fork) f b = good-halves fork.bit (members_of sets fork.left) (members_of sets fork.right) b.2.halves (f fork.left b.0) (f fork.right b.1)

module _ (nodes : List Node) (t : AreTries nodes) where
  abbrev sets : List (List Item)
  sets = lists_of nodes

  -- each set has a node
  pub node-of : (set : ℕ) → set < length (lists_of nodes) → (n : Node) × (slice_get nodes set ≡ Some n) × IsNodeOf (lists_of nodes) set n
  node-of set h =
      let at = got nodes set (let count = counted nodes in omega arith) in
      (at.0, at.1, t.made set at.0 at.1)

  good-below : (most set : ℕ) → set < most → set < length (lists_of nodes) → AreGood (members_of (lists_of nodes) set)
  good-below zero set low h = absurd (omega arith)
  good-below (suc most) set low h =
      let n = node-of set h in
      subst (λ l. AreGood l) (sym n.2.members) (good-node (lists_of nodes) set n.0 (λ s below. good-below most s (omega arith) (omega arith)) n.2.below)

  pub good : (set : ℕ) → set < length (lists_of nodes) → AreGood (members_of (lists_of nodes) set)
  good set h = good-below (suc set) set (omega arith) h

among : (xs ys : List Item) (x : Item) → IsAmong xs ys x → Contains (xs ++ ys) x
among xs ys x (inl c) = Contains-append_left xs ys x c
among xs ys x (inr c) = Contains-append_right xs ys x c

module _ (sets : List (List Item)) (f g : Fork) (is_f : IsForkOf sets f) (is_g : IsForkOf sets g) where
  abbrev f_left : List Item
  f_left = members_of sets f.left

  abbrev f_right : List Item
  f_right = members_of sets f.right

  abbrev g_left : List Item
  g_left = members_of sets g.left

  abbrev g_right : List Item
  g_right = members_of sets g.right

  not-lower : ((x : Item) → Contains (g_left ++ g_right) x → Contains (f_left ++ f_right) x) → f.bit < g.bit → ⊥
  not-lower sub less =
      let x = is_g.halves.some_low in
      let y = is_g.halves.some_high in
      let x_in = Contains-append_cases f_left f_right x.0 (sub x.0 (Contains-append_left g_left g_right x.0 x.1)) in
      let y_in = Contains-append_cases f_left f_right y.0 (sub y.0 (Contains-append_right g_left g_right y.0 y.1)) in
      not-both g.bit x.0 y.0 (same-above f.bit g.bit x.0 y.0 less (is_f.halves.alike x.0 y.0 x_in y_in)) (is_g.halves.low x.0 x.1) (is_g.halves.high y.0 y.1)

  left-in : ((x : Item) → Contains (f_left ++ f_right) x → Contains (g_left ++ g_right) x) → f.bit ≡ g.bit → (x : Item) → Contains f_left x → Contains g_left x
  left-in sub e x c = elim (Contains-append_cases g_left g_right x (sub x (Contains-append_left f_left f_right x c))) [
    | inl d ↦ d
    | inr d ↦ absurd (not-both g.bit x x refl (subst (λ b. IsLow b x) e (is_f.halves.low x c)) (is_g.halves.high x d))
  ]

  right-in : ((x : Item) → Contains (f_left ++ f_right) x → Contains (g_left ++ g_right) x) → f.bit ≡ g.bit → (x : Item) → Contains f_right x → Contains g_right x
  right-in sub e x c = elim (Contains-append_cases g_left g_right x (sub x (Contains-append_right f_left f_right x c))) [
    | inl d ↦ absurd (not-both g.bit x x refl (is_g.halves.low x d) (subst (λ b. IsHigh b x) e (is_f.halves.high x c)))
    | inr d ↦ d
  ]

some-same : (x y : Item) → Some x ≡ Some y → x ≡ y
some-same x y e = cc

first-same : (sets : List (List Item)) (a b x y : ℕ) → a ≡ b → HasFirst (members_of sets a) x → HasFirst (members_of sets b) y → x ≡ y
first-same sets a b x y h1 h2 h3 = grind (arith, nat_tests, some-same)

fork-same : (sets : List (List Item)) (a : ℕ) (f g : Fork) → ((c d : ℕ) → c < a → c < length sets → d < length sets → HaveSame (members_of sets c) (members_of sets d) → c ≡ d)
    → a < length sets → f.left < a → f.right < a → g.left < length sets → g.right < length sets → IsForkOf sets f → IsForkOf sets g
    → HaveSame (members_of sets f.left ++ members_of sets f.right) (members_of sets g.left ++ members_of sets g.right) → f ≡ g
fork-same sets a f g smaller there fl fr gl gr is_f is_g same =
    let up : f.bit < g.bit → ⊥ = not-lower sets f g is_f is_g (λ x c. (same x).1 c) in
    let down : g.bit < f.bit → ⊥ = not-lower sets g f is_g is_f (λ x c. (same x).0 c) in
    let bit : f.bit ≡ g.bit = omega arith in
    let left : f.left ≡ g.left = smaller f.left g.left fl (omega arith) gl (λ x. (left-in sets f g is_f is_g (λ y c. (same y).0 c) bit x, left-in sets g f is_g is_f (λ y c. (same y).1 c) (sym bit) x)) in
    let right : f.right ≡ g.right = smaller f.right g.right fr (omega arith) gr (λ x. (right-in sets f g is_f is_g (λ y c. (same y).0 c) bit x, right-in sets g f is_g is_f (λ y c. (same y).1 c) (sym bit) x)) in
    let first : place f.event f.row ≡ place g.event g.row = first-same sets f.left g.left (place f.event f.row) (place g.event g.row) left is_f.first is_g.first in
    let at = same_from_place f.event f.row g.event g.row ROWS is_f.row_fits is_g.row_fits first in
    λ i. record { event = at.0 i; row = at.1 i; bit = bit i; left = left i; right = right i }

no-fork : (sets : List (List Item)) (f : Fork) (key : ℕ) → IsForkOf sets f → ((y : Item) → Contains (members_of sets f.left ++ members_of sets f.right) y → key_of y ≡ key) → ⊥
no-fork sets f key is_f only =
    let a = is_f.halves.some_low in
    let b = is_f.halves.some_high in
    let xs = members_of sets f.left in
    let ys = members_of sets f.right in
    let same : key_of a.0 ≡ key_of b.0 = only a.0 (Contains-append_left xs ys a.0 a.1) ∙ sym (only b.0 (Contains-append_right xs ys b.0 b.1)) in
    not-both f.bit a.0 b.0 (ap (λ n. n / 2 ^ f.bit) same) (is_f.halves.low a.0 a.1) (is_f.halves.high b.0 b.1)

node-same : (sets : List (List Item)) (a b : ℕ) (m n : Node) → ((c d : ℕ) → c < a → c < length sets → d < length sets → HaveSame (members_of sets c) (members_of sets d) → c ≡ d)
    → a < length sets → b < length sets → IsNodeBelow sets a m → IsNodeBelow sets b n → HaveSame (expanded sets m) (expanded sets n) → m ≡ n
node-same sets a b Empty Empty smaller i j p q same = refl
node-same sets a b Empty (Leaf y) smaller i j p q same = let x = row-some y q in absurd (none_in x.0 ((same x.0).1 x.1))
node-same sets a b Empty (Branch g) smaller i j p q same =
    let x = q.2.halves.some_low in absurd (none_in x.0 ((same x.0).1 (Contains-append_left (members_of sets g.left) (members_of sets g.right) x.0 x.1)))
node-same sets a b (Leaf y) Empty smaller i j p q same = let x = row-some y p in absurd (none_in x.0 ((same x.0).0 x.1))
node-same sets a b (Leaf x) (Leaf y) smaller i j p q same = ap (λ (k : Row). Leaf k) (row-same x y p q same)
node-same sets a b (Leaf x) (Branch g) smaller i j p q same = absurd (no-fork sets g (place x.event x.row) q.2 (λ y c. row-key x y ((same y).1 c)))
node-same sets a b (Branch f) Empty smaller i j p q same =
    let x = p.2.halves.some_low in absurd (none_in x.0 ((same x.0).0 (Contains-append_left (members_of sets f.left) (members_of sets f.right) x.0 x.1)))
node-same sets a b (Branch f) (Leaf y) smaller i j p q same = absurd (no-fork sets f (place y.event y.row) p.2 (λ x c. row-key y x ((same x).0 c)))
node-same sets a b (Branch f) (Branch g) smaller i j p q same = ap (λ (k : Fork). Branch k) (fork-same sets a f g smaller i p.0 p.1 (let l = q.0 in omega arith) (let r = q.1 in omega arith) p.2 q.2 same)

module _ (nodes : List Node) (t : AreTries nodes) where
  same-below : (most a b : ℕ) → a < most → a < length (lists_of nodes) → b < length (lists_of nodes) → HaveSame (members_of (lists_of nodes) a) (members_of (lists_of nodes) b) → a ≡ b
  same-below zero a b low i j same = absurd (omega arith)
  same-below (suc most) a b low i j same =
      let m = node-of nodes t a i in
      let n = node-of nodes t b j in
      let parts : HaveSame (expanded (lists_of nodes) m.0) (expanded (lists_of nodes) n.0) = subst (λ l. HaveSame l (expanded (lists_of nodes) n.0)) m.2.members (subst (λ l. HaveSame (members_of (lists_of nodes) a) l) n.2.members same) in
      let is : m.0 ≡ n.0 = node-same (lists_of nodes) a b m.0 n.0 (λ c d below c_in d_in s. same-below most c d (omega arith) c_in d_in s) i j m.2.below n.2.below parts in
      t.once a b n.0 (m.1 ∙ ap (λ (k : Node). Some k) is) n.1

  pub interned : AreInterned (lists_of nodes)
  interned = record {
    rising = λ set h. (good nodes t set h).rising;
    once = λ a b i j same. same-below (suc a) a b (omega arith) i j same;
  }

  pub there-empty : 0 < length (lists_of nodes)
  there-empty = let count = counted nodes in let one = slice_get_within nodes 0 Empty t.empty in omega arith

  pub is-empty : members_of (lists_of nodes) 0 ≡ []
  is-empty = (t.made 0 Empty t.empty).members

  pub node-found : (set : ℕ) (n : Node) → slice_get nodes set ≡ Some n → IsNodeOf (lists_of nodes) set n
  node-found set n e = t.made set n e

  pub node-lost : (set : ℕ) → set < length (lists_of nodes) → slice_get nodes set ≡ None → ⊥
  node-lost set h e = let at = got nodes set (let count = counted nodes in omega arith) in let clash : Some at.0 ≡ None = sym at.1 ∙ e in cc
