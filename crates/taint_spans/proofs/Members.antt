-- Members of sets whose numbers follow each other, and of spans.
use Rattle.std.proofs.Common.{◌≡◌, ℕ, zero, suc, ◌+◌, ◌-◌, ◌^◌, ◌<◌, ◌≤◌, Bool, true, false, nat_lt, min, max, List, [], ◌++◌, Contains, Result, Ok, Err, IfOk, append_assoc, refl, sym, ap, subst, ◌∙◌, inl, inr, arith}
use Rattle.std.proofs.lemmas.Bool.{ltb-true, ltb-false}
use Rattle.std.proofs.lemmas.List.Elements.{Contains-append_left, Contains-append_right, Contains-append_cases}
use Rattle.arn_base.specs.declared.errors.NoMemory.{NoMemory}
use Rattle.set_store.specs.declared.item.Item.{Item}
use Rattle.set_store.specs.Sets.{HaveSame, IsUnionOf}
use Rattle.taint_sets.specs.Numbered as plain
use Rattle.taint_sets.specs.Numbered.{Numbered}
use Rattle.taint_spans.specs.declared.span.Span.{Span}
use Rattle.taint_spans.specs.Spans.{IsSpan, IsWithin, Lengthens, members_from, span_members}

-- none, and one more
pub from-none : (sets : Numbered) (first : ℕ) → members_from sets first 0 ≡ []
unfolding members_from
from-none sets first = refl

pub from-next : (sets : Numbered) (first count : ℕ) → members_from sets first (suc count) ≡ members_from sets first count ++ plain.members_of sets (first + count)
unfolding members_from
from-next sets first count = refl

-- so many, the last apart
pub from-last : (sets : Numbered) (first count : ℕ) → 0 < count → members_from sets first count ≡ members_from sets first (count - 1) ++ plain.members_of sets (first + (count - 1))
from-last sets first count some =
    let same : count ≡ suc (count - 1) = omega arith in
    ap (members_from sets first) same ∙ from-next sets first (count - 1)

-- later sets have the same
pub from-same : (old new : Numbered) (first count : ℕ) → plain.StandAsBefore old new → ((k : ℕ) → k < count → plain.IsSet old (first + k)) → members_from new first count ≡ members_from old first count
from-same old new first zero stand there = from-none new first ∙ sym (from-none old first)
from-same old new first (suc count) stand there =
    from-next new first count
    ∙ (ap (λ l. l ++ plain.members_of new (first + count)) (from-same old new first count stand (λ k h. there k (omega arith)))
    ∙ (ap (λ l. members_from old first count ++ l) (stand.same (first + count) (there count (omega arith))) ∙ sym (from-next old first count)))

pub span-same : (old new : Numbered) (span : Span) → plain.StandAsBefore old new → IsSpan old span → span_members new span ≡ span_members old span
span-same old new span stand is =
    ap (λ l. l ++ members_from new span.first span.len) (stand.same span.base is.base)
    ∙ ap (λ l. plain.members_of old span.base ++ l) (from-same old new span.first span.len stand is.bytes)

pub span-kept : (old new : Numbered) (span : Span) → plain.StandAsBefore old new → IsSpan old span → IsSpan new span
span-kept old new span stand is = record { base = stand.there span.base is.base; fits = is.fits; bytes = λ k h. stand.there (span.first + k) (is.bytes k h); received = is.received }

-- what is in one of them
none-in : (item : Item) → Contains [] item → ⊥
none-in item c = let below = c.1 in omega arith

pub in-from : (sets : Numbered) (first count : ℕ) (item : Item) → Contains (members_from sets first count) item → (k : ℕ) × (k < count) × Contains (plain.members_of sets (first + k)) item
unfolding members_from
in-from sets first zero item c = absurd (none-in item c)
in-from sets first (suc count) item c = elim (Contains-append_cases (members_from sets first count) (plain.members_of sets (first + count)) item c) [
  | inl d ↦ let found = in-from sets first count item d in let below = found.1 in (found.0, omega arith, found.2)
  | inr d ↦ (count, omega arith, d)
]

pub from-has : (sets : Numbered) (first count k : ℕ) (item : Item) → k < count → Contains (plain.members_of sets (first + k)) item → Contains (members_from sets first count) item
unfolding members_from
from-has sets first zero k item h c = absurd (omega arith)
from-has sets first (suc count) k item h c = by (λ less. from-has sets first count k item less c) (nat_lt k count) refl
  where
    by : (k < count → Contains (members_from sets first count) item) → (b : Bool) → nat_lt k count ≡ b → Contains (members_from sets first count ++ plain.members_of sets (first + count)) item
    by lower true e = Contains-append_left (members_from sets first count) (plain.members_of sets (first + count)) item (lower (ltb-true k count e))
    by lower false e =
        let past = ltb-false k count e in
        let same : k ≡ count = omega arith in
        Contains-append_right (members_from sets first count) (plain.members_of sets (first + count)) item (subst (λ n. Contains (plain.members_of sets (first + n)) item) same c)

-- what both have, in front of each other
pub union-append : (first second : List Item) → IsUnionOf (first ++ second) first second
union-append first second item = (Contains-append_cases first second item, λ d. elim d [ inl c ↦ Contains-append_left first second item c | inr c ↦ Contains-append_right first second item c ])

-- unions of lists with the same members
pub union-like : (both first second more other : List Item) → IsUnionOf both first second → HaveSame first more → HaveSame second other → IsUnionOf both more other
union-like both first second more other union same like item = (
  λ c. elim ((union item).0 c) [ inl d ↦ inl ((same item).0 d) | inr d ↦ inr ((like item).0 d) ],
  λ c. elim c [ inl d ↦ (union item).1 (inl ((same item).1 d)) | inr d ↦ (union item).1 (inr ((like item).1 d)) ],
)

pub union-swap : (both first second : List Item) → IsUnionOf both first second → IsUnionOf both second first
union-swap both first second union item = (
  λ c. elim ((union item).0 c) [ inl d ↦ inr d | inr d ↦ inl d ],
  λ c. elim c [ inl d ↦ (union item).1 (inr d) | inr d ↦ (union item).1 (inl d) ],
)

-- a union has the members of both in front of each other
pub same-append : (both first second : List Item) → IsUnionOf both first second → HaveSame both (first ++ second)
same-append both first second union item = (λ c. (union-append first second item).1 ((union item).0 c), λ c. (union item).1 ((union-append first second item).0 c))

pub same-refl : (members : List Item) → HaveSame members members
same-refl members item = (λ c. c, λ c. c)

pub same-of : (members others : List Item) → members ≡ others → HaveSame members others
same-of members others e = subst (HaveSame members) e (same-refl members)

pub same-trans : (a b c : List Item) → HaveSame a b → HaveSame b c → HaveSame a c
same-trans a b c h1 h2 item = (λ d. (h2 item).0 ((h1 item).0 d), λ d. (h1 item).1 ((h2 item).1 d))

-- all members of a span that lies within another one are that one's
pub within-has : (sets : Numbered) (other span : Span) → plain.members_of sets 0 ≡ [] → IsWithin other span → (item : Item) → Contains (span_members sets other) item → Contains (span_members sets span) item
within-has sets other span empty within item c = elim (Contains-append_cases (plain.members_of sets other.base) (members_from sets other.first other.len) item c) [
  | inl d ↦ elim within.base [
    | inl nought ↦ absurd (none-in item (subst (λ l. Contains l item) (ap (plain.members_of sets) nought ∙ empty) d))
    | inr same ↦ Contains-append_left (plain.members_of sets span.base) (members_from sets span.first span.len) item (subst (λ n. Contains (plain.members_of sets n) item) same d)
  ]
  | inr d ↦ Contains-append_right (plain.members_of sets span.base) (members_from sets span.first span.len) item (bytes (in-from sets other.first other.len item d))
]
  where
    bytes : (k : ℕ) × (k < other.len) × Contains (plain.members_of sets (other.first + k)) item → Contains (members_from sets span.first span.len) item
    bytes found = let k = found.0 in let below = found.1 in let d = found.2 in elim within.bytes [
      | inl nought ↦ absurd (omega (arith, nought, below))
      | inr inside ↦
          let low = inside.0 in
          let high = inside.1 in
          let same : other.first + k ≡ span.first + (other.first + k - span.first) = omega arith in
          from-has sets span.first span.len (other.first + k - span.first) item (omega arith) (subst (λ n. Contains (plain.members_of sets n) item) same d)
    ]

-- one byte more
pub lengthens-union : (sets : Numbered) (span more : Span) (byte : ℕ) → Lengthens span byte more → IsUnionOf (span_members sets more) (span_members sets span) (plain.members_of sets byte)
lengthens-union sets span more byte longer = subst (λ l. IsUnionOf l (span_members sets span) (plain.members_of sets byte)) (sym whole) (union-append (span_members sets span) (plain.members_of sets byte))
  where
    lower : members_from sets more.first span.len ≡ members_from sets span.first span.len
    lower = elim longer.first [
      | inl none ↦ ap (members_from sets more.first) none ∙ (from-none sets more.first ∙ sym (ap (members_from sets span.first) none ∙ from-none sets span.first))
      | inr same ↦ ap (λ n. members_from sets n span.len) same
    ]

    len : more.len ≡ suc span.len
    len = let e = longer.len in omega arith

    whole : span_members sets more ≡ span_members sets span ++ plain.members_of sets byte
    whole =
        ap (λ n. plain.members_of sets n ++ members_from sets more.first more.len) longer.base
        ∙ (ap (λ n. plain.members_of sets span.base ++ members_from sets more.first n) len
        ∙ (ap (λ l. plain.members_of sets span.base ++ l) (from-next sets more.first span.len)
        ∙ (ap (λ l. plain.members_of sets span.base ++ (l ++ plain.members_of sets (more.first + span.len))) lower
        ∙ (ap (λ n. plain.members_of sets span.base ++ (members_from sets span.first span.len ++ plain.members_of sets n)) longer.last
        ∙ sym (append_assoc (plain.members_of sets span.base) (members_from sets span.first span.len) (plain.members_of sets byte))))))

pub lengthens-is : (sets : Numbered) (span more : Span) (byte : ℕ) → Lengthens span byte more → IsSpan sets span → plain.IsSet sets byte → plain.first_received ≤ byte → more.first + more.len ≤ 2 ^ 32 → IsSpan sets more
lengthens-is sets span more byte longer is there large fits = record {
  base = subst (plain.IsSet sets) (sym longer.base) is.base;
  fits = fits;
  bytes = bytes;
  received = λ some. by (nat_lt 0 span.len) refl;
}
  where
    by : (b : Bool) → nat_lt 0 span.len ≡ b → plain.first_received ≤ more.first
    by true e = elim longer.first [
      | inl none ↦ absurd (let some = ltb-true 0 span.len e in omega (arith, some, none))
      | inr same ↦ let least = is.received (ltb-true 0 span.len e) in omega (arith, same, least)
    ]
    by false e = let none = ltb-false 0 span.len e in let last = longer.last in omega (arith, none, last, large)

    bytes : (k : ℕ) → k < more.len → plain.IsSet sets (more.first + k)
    bytes k h = by (nat_lt k span.len) refl
      where
        len : more.len ≡ span.len + 1
        len = longer.len

        by : (b : Bool) → nat_lt k span.len ≡ b → plain.IsSet sets (more.first + k)
        by true e = elim longer.first [
          | inl none ↦ absurd (let below = ltb-true k span.len e in omega arith)
          | inr same ↦ subst (λ n. plain.IsSet sets (n + k)) (sym same) (is.bytes k (ltb-true k span.len e))
        ]
        by false e =
            let past = ltb-false k span.len e in
            let same : span.len ≡ k = omega arith in
            subst (plain.IsSet sets) (sym longer.last ∙ ap (λ n. more.first + n) same) there

-- what follows of an Ok
pub if-ok : (r : Result ℕ NoMemory) (P Q : ℕ → Type 0) → IfOk r P → ((number : ℕ) → P number → Q number) → IfOk r Q
if-ok (Ok number) P Q is so = so number is
if-ok (Err e) P Q is so = is

-- a set and one byte
pub one-byte : (sets : Numbered) (base byte : ℕ) → plain.IsSet sets base → plain.IsSet sets byte → plain.first_received ≤ byte → byte < 2 ^ 32 → IsSpan sets (record { base = base; first = byte; len = 1 })
one-byte sets base byte is there large fits = record { base = is; fits = omega (arith, fits); bytes = λ k h. subst (plain.IsSet sets) (let same : byte ≡ byte + k = omega (arith, h) in same) there; received = λ some. large }

pub one-more : (sets : Numbered) (base byte : ℕ) → IsUnionOf (span_members sets (record { base = base; first = byte; len = 1 })) (plain.members_of sets base) (plain.members_of sets byte)
one-more sets base byte = subst (λ l. IsUnionOf (plain.members_of sets base ++ l) (plain.members_of sets base) (plain.members_of sets byte)) (sym one) (union-append (plain.members_of sets base) (plain.members_of sets byte))
  where
    one : members_from sets byte 1 ≡ plain.members_of sets byte
    one = from-next sets byte 0 ∙ (ap (λ l. l ++ plain.members_of sets (byte + 0)) (from-none sets byte) ∙ ap (plain.members_of sets) (let same : byte + 0 ≡ byte = omega arith in same))

-- the lower number first, and the higher one
pub union-sorted : (both : List Item) (members : ℕ → List Item) (a b low high : ℕ) → low ≡ min a b → high ≡ max a b → IsUnionOf both (members low) (members high) → IsUnionOf both (members a) (members b)
union-sorted both members a b low high least most union = by (nat_lt a b) refl
  where
    by : (t : Bool) → nat_lt a b ≡ t → IsUnionOf both (members a) (members b)
    by true t =
        let less = ltb-true a b t in
        let first : low ≡ a = omega (arith, less, least) in
        let second : high ≡ b = omega (arith, less, most) in
        subst (λ n. IsUnionOf both (members n) (members b)) first (subst (λ n. IsUnionOf both (members low) (members n)) second union)
    by false t =
        let more = ltb-false a b t in
        let first : low ≡ b = omega (arith, more, least) in
        let second : high ≡ a = omega (arith, more, most) in
        union-swap both (members b) (members a) (subst (λ n. IsUnionOf both (members n) (members a)) first (subst (λ n. IsUnionOf both (members low) (members n)) second union))

-- the first of them, and the others
pub rows-same : (old mid : Numbered) (first count len : ℕ) (both row others : List Item) → count ≤ len → plain.StandAsBefore old mid → ((k : ℕ) → k < len → plain.IsSet old (first + k))
    → plain.IsRowOf old first count row → HaveSame others (members_from mid (first + count) (len - count)) → IsUnionOf both row others → HaveSame both (members_from old first len)
rows-same old mid first count len both row others few stand there is same union item = (to, from)
  where
    later : (k : ℕ) → k < len → Contains (plain.members_of mid (first + k)) item → Contains (plain.members_of old (first + k)) item
    later k h c = subst (λ l. Contains l item) (stand.same (first + k) (there k h)) c

    to : Contains both item → Contains (members_from old first len) item
    to c = elim ((union item).0 c) [
      | inl d ↦ let found = (is item).0 d in let below = found.1 in from-has old first len found.0 item (omega (arith, below, few)) found.2
      | inr d ↦
          let found = in-from mid (first + count) (len - count) item ((same item).0 d) in
          let below = found.1 in
          let at : first + count + found.0 ≡ first + (count + found.0) = omega arith in
          let less : count + found.0 < len = omega (arith, below, few) in
          from-has old first len (count + found.0) item less (later (count + found.0) less (subst (λ n. Contains (plain.members_of mid n) item) at found.2))
    ]

    from : Contains (members_from old first len) item → Contains both item
    from c = by (in-from old first len item c)
      where
        by : (k : ℕ) × (k < len) × Contains (plain.members_of old (first + k)) item → Contains both item
        by found = let k = found.0 in let below = found.1 in let d = found.2 in split k below d (nat_lt k count) refl
          where
            split : (k : ℕ) → k < len → Contains (plain.members_of old (first + k)) item → (b : Bool) → nat_lt k count ≡ b → Contains both item
            split k below d true e = (union item).1 (inl ((is item).1 (k, ltb-true k count e, d)))
            split k below d false e =
                let past = ltb-false k count e in
                let at : first + k ≡ first + count + (k - count) = omega (arith, past) in
                let new : Contains (plain.members_of mid (first + k)) item = subst (λ l. Contains l item) (sym (stand.same (first + k) (there k below))) d in
                (union item).1 (inr ((same item).1 (from-has mid (first + count) (len - count) (k - count) item (omega (arith, past, below)) (subst (λ n. Contains (plain.members_of mid n) item) at new))))

-- all of them
pub row-same : (old : Numbered) (first len : ℕ) (row : List Item) → plain.IsRowOf old first len row → HaveSame row (members_from old first len)
row-same old first len row is item = (
  λ c. let found = (is item).0 c in from-has old first len found.0 item found.1 found.2,
  λ c. let found = in-from old first len item c in (is item).1 (found.0, found.1, found.2),
)
