-- The items of one row.
use Rattle.std.proofs.Common.{◌≡◌, ◌⊎◌, ℕ, zero, suc, ◌+◌, ◌*◌, ◌/◌, ◌%◌, ◌^◌, ◌<◌, ◌==◌, max, Bool, true, false, nat_lt, if◌then◌else◌, List, [], ◌∷◌, ◌++◌, slice_get, Some, Contains, bit_or, append_assoc, refl, sym, ap, subst, ◌∙◌, inl, inr, arith}
use Rattle.std.proofs.lemmas.Bool.Decides.{nat_tests, Decides-eqb}
use Rattle.std.specs.Int.{bit_at, trailing_zeros, w64}
use Rattle.std.specs.List.{AllByRecursion}
use Rattle.std.specs.List.Sorted.{IsStrictlySortedBy}
use Rattle.std.specs.declared.cmp.Ordering.TheVariants.{Less}
use Rattle.std.proofs.lemmas.Bool.{ltb-true, ltb-false}
use Rattle.std.proofs.lemmas.List.{append-nil}
use Rattle.std.proofs.lemmas.List.Elements.{Contains-append_left, Contains-append_right, Contains-append_cases}
use Rattle.std.proofs.lemmas.Nat.{div-mul-add, mod-mul-add, div-add-mod', mod_below, or_lt, le_or_l, same_from_place, one_shl, pow_pos}
use Rattle.std.proofs.lemmas.Nat.Bits.{bit_at-trailing_zeros, bit_at_or, bit_at-pow_same, bit_at-pow_other, same_from_bits_below}
use Rattle.set_store.specs.declared.node.TheConstants.{ROWS}
use Rattle.set_store.specs.declared.item.Item.{Item}
use Rattle.set_store.specs.declared.node.Row.{Row}
use Rattle.set_store.specs.Sets.{HaveSame, IsRising, IsUnionOf, item_cmp}
use Rattle.set_store.specs.Tries.{HasFirst, IsRow, item_at, byte_of, items_below, items_of, key_of, place}
use Rattle.set_store.proofs.Rising.{none_in, front, behind, cases, above, same_list}
use Rattle.set_store.proofs.Sides.{Fits, at-less}

-- an item before all of these
all-above : (x : Item) (xs : List Item) → ((y : Item) → Contains xs y → item_cmp x y ≡ Less) → AllByRecursion (λ y. item_cmp x y ≡ Less) xs
all-above x [] f = tt
all-above x (y ∷ ys) f = (f y (front y ys), all-above x ys (λ z c. f z (behind y ys z c)))

-- lists that rise, one before the other, rise together
pub join : (xs ys : List Item) → IsRising xs → IsRising ys → ((a b : Item) → Contains xs a → Contains ys b → item_cmp a b ≡ Less) → IsRising (xs ++ ys)
unfolding IsStrictlySortedBy
join [] ys r s b = s
join (x ∷ xs) ys r s b = (
  all-above x (xs ++ ys) (λ z c. elim (Contains-append_cases xs ys z c) [ inl d ↦ above x xs z r.0 d | inr d ↦ b x z (front x xs) d ]),
  join xs ys r.1 s (λ a z c d. b a z (behind x xs a c) d),
)

pub rising-none : IsRising []
unfolding IsStrictlySortedBy
rising-none = tt

pub rising-one : (item : Item) → IsRising (item ∷ [])
unfolding IsStrictlySortedBy
rising-one item = (tt, tt)

-- each is a byte's place
abbrev pub AllFit : List Item → Type 0
AllFit members = (item : Item) → Contains members item → Fits item

-- members that rise
pub record AreGood (members : List Item) : Type 0 where
  pub rising : IsRising members
  pub fit : AllFit members

pub only-one : (x y : Item) → Contains (x ∷ []) y → x ≡ y
only-one x y c = elim (cases x [] y c) [ inl e ↦ e | inr d ↦ absurd (none_in y d) ]

-- one item, if a bit is set
abbrev step : Bool → Item → List Item
step b x = if b then x ∷ [] else []

step-in : (b : Bool) (x y : Item) → Contains (step b x) y → (b ≡ true) × (x ≡ y)
step-in true x y c = (refl, only-one x y c)
step-in false x y c = absurd (none_in y c)

step-has : (b : Bool) (x : Item) → b ≡ true → Contains (step b x) x
step-has true x e = front x []
step-has false x e = cc

step-rising : (b : Bool) (x : Item) → IsRising (step b x)
step-rising true x = rising-one x
step-rising false x = rising-none

-- the byte of a row that an item is
abbrev IsByte : Row → ℕ → Item → Type 0
IsByte row n x = (k : ℕ) × (k < n) × (bit_at row.mask k ≡ 1) × (x ≡ item_at row k)

pub in-row : (row : Row) (n : ℕ) (x : Item) → Contains (items_below row n) x → IsByte row n x
unfolding items_below
in-row row zero x c = absurd (none_in x c)
in-row row (suc n) x c = elim (Contains-append_cases (items_below row n) (step (bit_at row.mask n == 1) (item_at row n)) x c) [
  | inl d ↦ let at = in-row row n x d in let below = at.1 in (at.0, omega arith, at.2, at.3)
  | inr d ↦ let at = step-in (bit_at row.mask n == 1) (item_at row n) x d in (n, omega arith, (Decides-eqb (bit_at row.mask n) 1).0 at.0, sym at.1)
]

pub row-has : (row : Row) (n k : ℕ) → k < n → bit_at row.mask k ≡ 1 → Contains (items_below row n) (item_at row k)
unfolding items_below
row-has row zero k h e = absurd (omega arith)
row-has row (suc n) k h e = by (λ l. row-has row n k l e) (nat_lt k n) refl where
  by : (k < n → Contains (items_below row n) (item_at row k)) → (b : Bool) → nat_lt k n ≡ b → Contains (items_below row n ++ step (bit_at row.mask n == 1) (item_at row n)) (item_at row k)
  by rest true t = Contains-append_left (items_below row n) (step (bit_at row.mask n == 1) (item_at row n)) (item_at row k) (rest (ltb-true k n t))
  by rest false f =
      let least = ltb-false k n f in
      let same : n ≡ k = omega arith in
      Contains-append_right (items_below row n) (step (bit_at row.mask n == 1) (item_at row n)) (item_at row k)
      (subst (λ m. Contains (step (bit_at row.mask m == 1) (item_at row m)) (item_at row k)) (sym same) (step-has (bit_at row.mask k == 1) (item_at row k) ((Decides-eqb (bit_at row.mask k) 1).1 e)))

rising-below : (row : Row) (n : ℕ) → IsRising (items_below row n)
unfolding items_below
rising-below row zero = rising-none
rising-below row (suc n) = join (items_below row n) (step (bit_at row.mask n == 1) (item_at row n)) (rising-below row n) (step-rising (bit_at row.mask n == 1) (item_at row n)) (λ a b c d.
    let one = in-row row n a c in
    let two = step-in (bit_at row.mask n == 1) (item_at row n) b d in
    let below = one.1 in
    subst (λ y. item_cmp a y ≡ Less) two.1 (subst (λ x. item_cmp x (item_at row n) ≡ Less) (sym one.3) (at-less (item_at row one.0) (item_at row n) refl (omega arith))))

pub row-good : (row : Row) → IsRow row → AreGood (items_of row)
row-good row r = record {
  rising = rising-below row 64;
  fit = λ x c.
      let at = in-row row 64 x c in
      let below = at.1 in
      let fits = r.row_fits in
      subst (λ y. Fits y) (sym at.3) (omega arith);
}

at-row : (row : Row) (k : ℕ) → k < 64 → key_of (item_at row k) ≡ place row.event row.row
at-row row k h = ap (λ n. place row.event n) (div-mul-add row.row 64 k h)

-- all have the row's key
pub row-key : (row : Row) (x : Item) → Contains (items_of row) x → key_of x ≡ place row.event row.row
row-key row x c = let at = in-row row 64 x c in ap (λ y. key_of y) at.3 ∙ at-row row at.0 at.1

pub row-some : (row : Row) → IsRow row → (x : Item) × Contains (items_of row) x
row-some row r =
    let low = bit_at-trailing_zeros w64 row.mask r.some r.mask_fits in
    (item_at row (trailing_zeros w64 row.mask), row-has row 64 (trailing_zeros w64 row.mask) low.0 low.1)

head-of : (xs : List Item) (x : Item) → Contains xs x → (y : Item) × (slice_get xs 0 ≡ Some y)
head-of [] x c = absurd (none_in x c)
head-of (y ∷ ys) x c = (y, refl)

-- the first of a list is in it
pub first-in : (xs : List Item) (x : Item) → slice_get xs 0 ≡ Some x → Contains xs x
first-in [] x e = cc
first-in (y ∷ ys) x e = let same : y ≡ x = cc in subst (λ z. Contains (y ∷ ys) z) same (front y ys)

pub row-first : (row : Row) → IsRow row → HasFirst (items_of row) (place row.event row.row)
row-first row r =
    let some = row-some row r in
    let head = head-of (items_of row) some.0 some.1 in
    (head.0, head.1, row-key row head.0 (first-in (items_of row) head.0 head.1))

bit-below : (n k : ℕ) → bit_at n k < 2
bit-below n k = mod_below (n / 2 ^ k) 2 (omega arith)

bits-same : (a b k : ℕ) → (bit_at a k ≡ 1 → bit_at b k ≡ 1) → (bit_at b k ≡ 1 → bit_at a k ≡ 1) → bit_at a k ≡ bit_at b k
bits-same a b k h1 h2 = grind (arith, nat_tests, bit-below)

-- two rows are in one place where an item is in both
same-row : (row other : Row) (x : Item) → Contains (items_of row) x → Contains (items_of other) x → (row.event ≡ other.event) × (row.row ≡ other.row)
same-row row other x c d =
    let one = in-row row 64 x c in
    let two = in-row other 64 x d in
    let e : item_at row one.0 ≡ item_at other two.0 = sym one.3 ∙ two.3 in
    (ap (λ (i : Item). i.event) e, (same_from_place row.row one.0 other.row two.0 64 one.1 two.1 (ap (λ (i : Item). i.at) e)).0)

bit-in : (row other : Row) → row.event ≡ other.event → row.row ≡ other.row → ((x : Item) → Contains (items_of row) x → Contains (items_of other) x) → (k : ℕ) → k < 64 → bit_at row.mask k ≡ 1 → bit_at other.mask k ≡ 1
bit-in row other e f sub k h b =
    let at = in-row other 64 (item_at row k) (sub (item_at row k) (row-has row 64 k h b)) in
    let same = (same_from_place row.row k other.row at.0 64 h at.1 (ap (λ (i : Item). i.at) at.3)).1 in
    subst (λ n. bit_at other.mask n ≡ 1) (sym same) at.2

-- rows with the same items are one
pub row-same : (row other : Row) → IsRow row → IsRow other → HaveSame (items_of row) (items_of other) → row ≡ other
row-same row other r s same =
    let some = row-some row r in
    let at = same-row row other some.0 some.1 ((same some.0).0 some.1) in
    let mask = same_from_bits_below 64 row.mask other.mask r.mask_fits s.mask_fits (λ k h. bits-same row.mask other.mask k (bit-in row other at.0 at.1 (λ x c. (same x).0 c) k h) (bit-in other row (sym at.0) (sym at.1) (λ x c. (same x).1 c) k h)) in
    λ i. record { event = at.0 i; row = at.1 i; mask = mask i }

moved : (row other : Row) (k : ℕ) → row.event ≡ other.event → row.row ≡ other.row → item_at row k ≡ item_at other k
moved row other k e f = λ i. record { event = e i; at = f i * 64 + k }

of-two : (m n : ℕ) → m < 2 → n < 2 → max m n ≡ 1 → (m ≡ 1) ⊎ (n ≡ 1)
of-two zero n h k e = inr (omega arith)
of-two (suc m) n h k e = inl (omega arith)

one-of-two : (m n : ℕ) → m < 2 → n < 2 → (m ≡ 1) ⊎ (n ≡ 1) → max m n ≡ 1
one-of-two m n h k (inl e) = omega arith
one-of-two m n h k (inr e) = omega arith

pub row-union : (row other both : Row) → row.event ≡ other.event → row.row ≡ other.row → both.event ≡ row.event → both.row ≡ row.row → both.mask ≡ bit_or row.mask other.mask → IsUnionOf (items_of both) (items_of row) (items_of other)
row-union row other both e f g h m x = (to, from) where
  or : (k : ℕ) → bit_at both.mask k ≡ max (bit_at row.mask k) (bit_at other.mask k)
  or k = ap (λ n. bit_at n k) m ∙ bit_at_or row.mask other.mask k

  to : Contains (items_of both) x → Contains (items_of row) x ⊎ Contains (items_of other) x
  to c =
      let at = in-row both 64 x c in
      let k = at.0 in
      let here : x ≡ item_at row k = at.3 ∙ moved both row k g h in
      elim (of-two (bit_at row.mask k) (bit_at other.mask k) (bit-below row.mask k) (bit-below other.mask k) (sym (or k) ∙ at.2)) [
        | inl b ↦ inl (subst (λ y. Contains (items_of row) y) (sym here) (row-has row 64 k at.1 b))
        | inr b ↦ inr (subst (λ y. Contains (items_of other) y) (sym (here ∙ moved row other k e f)) (row-has other 64 k at.1 b))
      ]

  from : Contains (items_of row) x ⊎ Contains (items_of other) x → Contains (items_of both) x
  from (inl c) =
      let at = in-row row 64 x c in
      subst (λ y. Contains (items_of both) y) (moved both row at.0 g h ∙ sym at.3) (row-has both 64 at.0 at.1 (or at.0 ∙ one-of-two (bit_at row.mask at.0) (bit_at other.mask at.0) (bit-below row.mask at.0) (bit-below other.mask at.0) (inl at.2)))
  from (inr c) =
      let at = in-row other 64 x c in
      subst (λ y. Contains (items_of both) y) (moved both row at.0 g h ∙ moved row other at.0 e f ∙ sym at.3) (row-has both 64 at.0 at.1 (or at.0 ∙ one-of-two (bit_at row.mask at.0) (bit_at other.mask at.0) (bit-below row.mask at.0) (bit-below other.mask at.0) (inr at.2)))

pub row-both : (row other both : Row) → IsRow row → IsRow other → both.row ≡ row.row → both.mask ≡ bit_or row.mask other.mask → IsRow both
row-both row other both r s h m =
    let least = le_or_l row.mask other.mask in
    let most = or_lt 64 row.mask other.mask r.mask_fits s.mask_fits in
    let some = r.some in
    record {
      row_fits = subst (λ n. n < ROWS) (sym h) r.row_fits;
      some = subst (λ n. 0 < n) (sym m) (omega arith);
      mask_fits = subst (λ n. n < 2 ^ 64) (sym m) most;
    }

-- the row of one item
pub row-one : (item : Item) (row : Row) → Fits item → row.event ≡ item.event → row.row ≡ item.at / 64 → row.mask ≡ 1 * 2 ^ (item.at % 64) % 2 ^ 64 → IsRow row × (items_of row ≡ item ∷ [])
row-one item row f e g m = (is, same_list (items_of row) (item ∷ []) (rising-below row 64) (rising-one item) (λ x. (to x, from x))) where
  k : ℕ
  k = item.at % 64

  small : item.at % 64 < 64
  small = mod_below item.at 64 (omega arith)

  mask : row.mask ≡ 2 ^ (item.at % 64)
  mask = m ∙ one_shl (item.at % 64) 64 small

  whole : item.at / 64 * 64 + item.at % 64 ≡ item.at
  whole = div-add-mod' item.at 64

  is : IsRow row
  is =
      let s = small in
      let w = whole in
      record {
        row_fits = subst (λ n. n < ROWS) (sym g) (omega arith);
        some = subst (λ n. 0 < n) (sym mask) (pow_pos (item.at % 64));
        mask_fits = subst (λ n. n < 2 ^ 64) (sym m) (mod_below (1 * 2 ^ (item.at % 64)) (2 ^ 64) (pow_pos 64));
      }

  here : item_at row (item.at % 64) ≡ item
  here = λ i. record { event = e i; at = (ap (λ n. n * 64 + item.at % 64) g ∙ whole) i }

  to : (x : Item) → Contains (items_of row) x → Contains (item ∷ []) x
  to x c = let at = in-row row 64 x c in by at.0 at.2 at.3 (at.0 == (item.at % 64)) refl where
    by : (n : ℕ) → bit_at row.mask n ≡ 1 → x ≡ item_at row n → (b : Bool) → (n == (item.at % 64)) ≡ b → Contains (item ∷ []) x
    by n one is true t = let same = (Decides-eqb n (item.at % 64)).0 t in subst (λ y. Contains (item ∷ []) y) (sym (is ∙ ap (λ j. item_at row j) same ∙ here)) (front item [])
    by n one is false t =
        let zero : bit_at row.mask n ≡ 0 = ap (λ j. bit_at j n) mask ∙ bit_at-pow_other (item.at % 64) n (λ e. let clash : true ≡ false = sym ((Decides-eqb n (item.at % 64)).1 e) ∙ t in cc) in
        let clash : 0 ≡ 1 = sym zero ∙ one in
        absurd (omega arith)

  from : (x : Item) → Contains (item ∷ []) x → Contains (items_of row) x
  from x c = subst (λ y. Contains (items_of row) y) (here ∙ only-one item x c) (row-has row 64 (item.at % 64) small (ap (λ j. bit_at j (item.at % 64)) mask ∙ bit_at-pow_same (item.at % 64)))

-- the items of a row whose mask has one bit
pub row-only : (row : Row) (byte : ℕ) (item : Item) → Fits item → byte < 64 → row.mask ≡ 1 * 2 ^ byte % 2 ^ 64 → item.event ≡ row.event → item.at ≡ row.row * 64 + byte → items_of row ≡ item ∷ []
row-only row byte item fits below mask e at =
    let q : item.at / 64 ≡ row.row = ap (λ n. n / 64) at ∙ div-mul-add row.row 64 byte below in
    let r : item.at % 64 ≡ byte = ap (λ n. n % 64) at ∙ mod-mul-add row.row 64 byte below in
    (row-one item row fits (sym e) (sym q) (mask ∙ ap (λ n. 1 * 2 ^ n % 2 ^ 64) (sym r))).1

-- an item is in a row where they are in one place and the mask has its bit
pub row-place : (row : Row) (item : Item) → Contains (items_of row) item → (row.event ≡ item.event) × (row.row ≡ item.at / 64) × (bit_at row.mask (item.at % 64) ≡ 1)
row-place row item c =
    let at = in-row row 64 item c in
    let is : row.row * 64 + at.0 ≡ item.at = sym (ap (λ (i : Item). i.at) at.3) in (
      sym (ap (λ (i : Item). i.event) at.3),
      sym (div-mul-add row.row 64 at.0 at.1) ∙ ap (λ n. n / 64) is,
      subst (λ n. bit_at row.mask n ≡ 1) (sym (mod-mul-add row.row 64 at.0 at.1) ∙ ap (λ n. n % 64) is) at.2,
    )

pub row-at : (row : Row) (item : Item) → row.event ≡ item.event → row.row ≡ item.at / 64 → bit_at row.mask (item.at % 64) ≡ 1 → Contains (items_of row) item
row-at row item e f b =
    let whole : item.at / 64 * 64 + item.at % 64 ≡ item.at = div-add-mod' item.at 64 in
    let here : item_at row (item.at % 64) ≡ item = λ i. record { event = e i; at = (ap (λ n. n * 64 + item.at % 64) f ∙ whole) i } in
    subst (λ y. Contains (items_of row) y) here (row-has row 64 (item.at % 64) (mod_below item.at 64 (omega arith)) b)

pub below-none : (row : Row) (items : List Item) → items ≡ items ++ items_below row 0
unfolding items_below
below-none row items = sym (append-nil items)

pub below-next : (row : Row) (k : ℕ) (old items new : List Item) → items ≡ old ++ items_below row k → new ≡ items ++ byte_of row k → new ≡ old ++ items_below row (suc k)
unfolding items_below
below-next row k old items new e f = f ∙ ap (λ (l : List Item). l ++ byte_of row k) e ∙ append_assoc old (items_below row k) (byte_of row k)
