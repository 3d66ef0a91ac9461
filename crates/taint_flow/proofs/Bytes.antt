-- How the set of several bytes grows.
use Rattle.std.proofs.Common.{◌≡◌, ◌⊎◌, ℕ, zero, suc, ◌+◌, ◌<◌, ◌≤◌, Bool, true, false, ◌&&◌, nat_lt, if◌then◌else◌, IsTrue, List, [], slice_index, Contains, Result, Ok, Err, IfOk, refl, sym, subst, ◌∙◌, inl, inr, arith}
use Rattle.std.proofs.lemmas.Bool.Decides.{nat_tests}
use Rattle.std.proofs.lemmas.Bool.{ltb-true, ltb-false, lt-ltb}
use Rattle.arn_base.specs.declared.errors.NoMemory.{NoMemory}
use Rattle.rv64_model.specs.Carries.{Operand, Left, Right, Loaded, Address}
use Rattle.set_store.specs.declared.item.Item.{Item}
use Rattle.set_store.specs.Sets.{IsUnionOf}
use Rattle.taint_spans.specs.Numbered.{IsSet, Numbered, StandAsBefore, members_of}
use Rattle.link_rules.specs.declared.masks.Operands.{Operands}
use Rattle.link_rules.specs.Masks.{has_byte, is_in}
use Rattle.taint_flow.specs.Gathered.{AddsByte, AreNumbers, Gathers, Includes, IsAmong, IsTaken, TakesBytes, byte_count, number_of}

pub before-refl : (sets : Numbered) → StandAsBefore sets sets
before-refl sets = record { there = λ set h. h; same = λ set h. refl }

pub before-trans : (old mid new : Numbered) → StandAsBefore old mid → StandAsBefore mid new → StandAsBefore old new
before-trans old mid new a b = record { there = λ set h. b.there set (a.there set h); same = λ set h. b.same set (a.there set h) ∙ a.same set h }

pub numbers-before : (old new : Numbered) (numbers : List ℕ) → StandAsBefore old new → AreNumbers old numbers → AreNumbers new numbers
numbers-before old new numbers b n = record { len = n.len; set = λ byte h. b.there (slice_index numbers byte) (n.set byte h) }

pub added : (r : Result ℕ NoMemory) (old new : Numbered) (start mask byte number : ℕ) → has_byte mask byte ≡ true → IfOk r (IsSet new)
    → IfOk r (λ set. IsUnionOf (members_of new set) (members_of old start) (members_of old number)) → IfOk r (AddsByte old new start mask byte number)
added (Ok set) old new start mask byte number named there union = record {
  there = there;
  members = λ item. (
    λ h. elim ((union item).0 h) [ inl a ↦ inl a | inr b ↦ inr (named, b) ],
    λ h. elim h [ inl a ↦ (union item).1 (inl a) | inr b ↦ (union item).1 (inr b.1) ],
  );
}
added (Err e) old new start mask byte number named there union = there

-- nothing comes where the mask lacks the byte, or the set has its members already
pub added-none : (sets : Numbered) (start mask byte number : ℕ) → has_byte mask byte ≡ false → IsSet sets start → AddsByte sets sets start mask byte number start
added-none sets start mask byte number lacks there = record {
  there = there;
  members = λ item. (λ h. inl h, λ h. elim h [ inl a ↦ a | inr b ↦ absurd (never (sym lacks ∙ b.0)) ]);
} where
  never : false ≡ true → ⊥
  never e = cc

pub added-same : (sets : Numbered) (start mask byte number : ℕ) → Includes sets start number → IsSet sets start → AddsByte sets sets start mask byte number start
added-same sets start mask byte number has there = record {
  there = there;
  members = λ item. (λ h. inl h, λ h. elim h [ inl a ↦ a | inr b ↦ has item b.1 ]);
}

module _ (old mid new : Numbered) (numbers : List ℕ) (mask n start s s' : ℕ)
    (takes : TakesBytes old mid numbers mask n start s) (before : StandAsBefore old mid) (is : IsSet old (slice_index numbers n))
    (adds : AddsByte mid new s mask n (slice_index numbers n) s') where
  forth : (item : Item) → Contains (members_of new s') item → Contains (members_of old start) item ⊎ IsAmong old numbers mask (n + 1) item
  forth item h = elim ((adds.members item).0 h) [
    | inl was ↦ elim ((takes.members item).0 was) [
      | inl first ↦ inl first
      | inr among ↦ inr (record { byte = among.byte; below = (let below : among.byte < n = among.below in omega arith); named = among.named; member = among.member })
    ]
    | inr new ↦ inr (record { byte = n; below = omega arith; named = new.0; member = subst (λ l. Contains l item) (before.same (slice_index numbers n) is) new.1 })
  ]

  last : (item : Item) (byte : ℕ) → byte ≡ n → IsTrue (has_byte mask byte) → Contains (members_of old (slice_index numbers byte)) item → Contains (members_of new s') item
  last item byte e named member =
      (adds.members item).1 (inr (
        subst (λ k. IsTrue (has_byte mask k)) e named,
        subst (λ l. Contains l item) (sym (before.same (slice_index numbers n) is)) (subst (λ k. Contains (members_of old (slice_index numbers k)) item) e member),
      ))

  pub back : (item : Item) → Contains (members_of old start) item ⊎ IsAmong old numbers mask (n + 1) item → Contains (members_of new s') item
  back item (inl first) = (adds.members item).1 (inl ((takes.members item).1 (inl first)))
  back item (inr among) = by (nat_lt among.byte n) refl where
    by : (b : Bool) → nat_lt among.byte n ≡ b → Contains (members_of new s') item
    by true e = (adds.members item).1 (inl ((takes.members item).1 (inr (record { byte = among.byte; below = ltb-true among.byte n e; named = among.named; member = among.member }))))
    by false e = last item among.byte (let above : n ≤ among.byte = ltb-false among.byte n e in let below : among.byte < n + 1 = among.below in omega arith) among.named among.member

  pub takes-more : TakesBytes old new numbers mask (n + 1) start s'
  takes-more = record { there = adds.there; members = λ item. (forth item, back item) }

-- the set has the members of each byte's set that was taken
pub among-includes : (old new : Numbered) (numbers : List ℕ) (mask n byte start set : ℕ) → byte < n → IsTrue (has_byte mask byte) → IsSet old (slice_index numbers byte) → StandAsBefore old new
    → TakesBytes old new numbers mask n start set → Includes new set (slice_index numbers byte)
among-includes old new numbers mask n byte start set below named is before takes item h =
    (takes.members item).1 (inr (record { byte = byte; below = below; named = named; member = subst (λ l. Contains l item) (before.same (slice_index numbers byte) is) h }))

-- the same bytes, in sets that stand as before
among-then : (old new : Numbered) (numbers : List ℕ) (mask : ℕ) (item : Item) → StandAsBefore old new → AreNumbers old numbers → IsAmong old numbers mask byte_count item → IsAmong new numbers mask byte_count item
among-then old new numbers mask item b n a =
    record { byte = a.byte; below = a.below; named = a.named; member = subst (λ l. Contains l item) (sym (b.same (slice_index numbers a.byte) (n.set a.byte a.below))) a.member }

among-before : (old new : Numbered) (numbers : List ℕ) (mask : ℕ) (item : Item) → StandAsBefore old new → AreNumbers old numbers → IsAmong new numbers mask byte_count item → IsAmong old numbers mask byte_count item
among-before old new numbers mask item b n a =
    record { byte = a.byte; below = a.below; named = a.named; member = subst (λ l. Contains l item) (b.same (slice_index numbers a.byte) (n.set a.byte a.below)) a.member }

-- all bytes, and none
all-bytes : (i : ℕ) → i < 8 → has_byte 255 i ≡ true
all-bytes zero h = refl
all-bytes (suc zero) h = refl
all-bytes (suc (suc zero)) h = refl
all-bytes (suc (suc (suc zero))) h = refl
all-bytes (suc (suc (suc (suc zero)))) h = refl
all-bytes (suc (suc (suc (suc (suc zero))))) h = refl
all-bytes (suc (suc (suc (suc (suc (suc zero)))))) h = refl
all-bytes (suc (suc (suc (suc (suc (suc (suc zero))))))) h = refl
all-bytes (suc (suc (suc (suc (suc (suc (suc (suc i)))))))) h = absurd (omega arith)

no-byte : (i : ℕ) → i < 8 → has_byte 0 i ≡ true → ⊥
no-byte i h1 h2 = grind (arith, nat_tests)

-- a mask has bytes below 8 alone
pub below-eight : (mask i : ℕ) → IsTrue (has_byte mask i) → i < 8
below-eight mask i h1 = grind (arith, nat_tests, ltb-true)

address-named : (masks : Operands) (i : ℕ) → i < 8 → has_byte (if masks.address then 255 else 0) i ≡ true → IsTrue (is_in masks (Address i))
address-named masks i h1 h2 = grind (arith, nat_tests, lt-ltb, no-byte)

both-true : (a b : Bool) → (a && b) ≡ true → (a ≡ true) × (b ≡ true)
both-true a b h1 = grind (arith, nat_tests)

pub address-has : (masks : Operands) (i : ℕ) → IsTrue (is_in masks (Address i)) → (i < 8) × (has_byte (if masks.address then 255 else 0) i ≡ true)
address-has masks i h1 = grind (arith, nat_tests, all-bytes, both-true, ltb-true)

module _ (old a b c d : Numbered) (first second loaded : List ℕ) (masks : Operands) (none s1 s2 s3 s4 : ℕ)
    (empty : members_of old none ≡ []) (in_first : AreNumbers old first) (in_second : AreNumbers old second) (in_loaded : AreNumbers old loaded)
    (t1 : TakesBytes old a first masks.first byte_count none s1) (b1 : StandAsBefore old a)
    (t2 : TakesBytes a b second masks.second byte_count s1 s2) (b2 : StandAsBefore a b)
    (t3 : TakesBytes b c loaded masks.loaded byte_count s2 s3) (b3 : StandAsBefore b c)
    (t4 : TakesBytes c d first (if masks.address then 255 else 0) byte_count s3 s4) where
  to_b : StandAsBefore old b
  to_b = before-trans old a b b1 b2

  to_c : StandAsBefore old c
  to_c = before-trans old b c to_b b3

  from_first : (item : Item) → Contains (members_of a s1) item → IsTaken old (number_of first second loaded) masks item
  from_first item h = elim ((t1.members item).0 h) [
    | inl nothing ↦ (let found = subst (λ l. Contains l item) empty nothing in let below : found.0 < 0 = found.1 in absurd (omega arith))
    | inr among ↦ record { operand = Left among.byte; named = among.named; member = among.member }
  ]

  from_second : (item : Item) → Contains (members_of b s2) item → IsTaken old (number_of first second loaded) masks item
  from_second item h = elim ((t2.members item).0 h) [
    | inl was ↦ from_first item was
    | inr among ↦ (let taken = among-before old a second masks.second item b1 in_second among in record { operand = Right taken.byte; named = taken.named; member = taken.member })
  ]

  from_loaded : (item : Item) → Contains (members_of c s3) item → IsTaken old (number_of first second loaded) masks item
  from_loaded item h = elim ((t3.members item).0 h) [
    | inl was ↦ from_second item was
    | inr among ↦ (let taken = among-before old b loaded masks.loaded item to_b in_loaded among in record { operand = Loaded taken.byte; named = taken.named; member = taken.member })
  ]

  from_all : (item : Item) → Contains (members_of d s4) item → IsTaken old (number_of first second loaded) masks item
  from_all item h = elim ((t4.members item).0 h) [
    | inl was ↦ from_loaded item was
    | inr among ↦ (let taken = among-before old c first (if masks.address then 255 else 0) item to_c in_first among in record { operand = Address taken.byte; named = address-named masks taken.byte taken.below taken.named; member = taken.member })
  ]

  up_3 : (item : Item) → Contains (members_of c s3) item → Contains (members_of d s4) item
  up_3 item h = (t4.members item).1 (inl h)

  up_2 : (item : Item) → Contains (members_of b s2) item → Contains (members_of d s4) item
  up_2 item h = up_3 item ((t3.members item).1 (inl h))

  up_1 : (item : Item) → Contains (members_of a s1) item → Contains (members_of d s4) item
  up_1 item h = up_2 item ((t2.members item).1 (inl h))

  to_all : (item : Item) (operand : Operand) → IsTrue (is_in masks operand) → Contains (members_of old (number_of first second loaded operand)) item → Contains (members_of d s4) item
  to_all item (Left i) named member = up_1 item ((t1.members item).1 (inr (record { byte = i; below = below-eight masks.first i named; named = named; member = member })))
  to_all item (Right i) named member = up_2 item ((t2.members item).1 (inr (among-then old a second masks.second item b1 in_second (record { byte = i; below = below-eight masks.second i named; named = named; member = member }))))
  to_all item (Loaded i) named member = up_3 item ((t3.members item).1 (inr (among-then old b loaded masks.loaded item to_b in_loaded (record { byte = i; below = below-eight masks.loaded i named; named = named; member = member }))))
  to_all item (Address i) named member =
      let has = address-has masks i named in
      (t4.members item).1 (inr (among-then old c first (if masks.address then 255 else 0) item to_c in_first (record { byte = i; below = has.0; named = has.1; member = member })))

  gathered : Gathers old d first second loaded masks s4
  gathered = record { there = t4.there; members = λ item. (from_all item, λ taken. to_all item taken.operand taken.named taken.member) }

pub gathered-if : (r : Result ℕ NoMemory) (old a b c d : Numbered) (first second loaded : List ℕ) (masks : Operands) (none s1 s2 s3 address : ℕ)
    → members_of old none ≡ [] → AreNumbers old first → AreNumbers old second → AreNumbers old loaded
    → TakesBytes old a first masks.first byte_count none s1 → StandAsBefore old a
    → TakesBytes a b second masks.second byte_count s1 s2 → StandAsBefore a b
    → TakesBytes b c loaded masks.loaded byte_count s2 s3 → StandAsBefore b c
    → address ≡ (if masks.address then 255 else 0) → IfOk r (TakesBytes c d first address byte_count s3) → IfOk r (Gathers old d first second loaded masks)
gathered-if (Ok s4) old a b c d first second loaded masks none s1 s2 s3 address empty f s l t1 b1 t2 b2 t3 b3 e t4 =
    gathered old a b c d first second loaded masks none s1 s2 s3 s4 empty f s l t1 b1 t2 b2 t3 b3 (subst (λ mask. TakesBytes c d first mask byte_count s3 s4) e t4)
gathered-if (Err x) old a b c d first second loaded masks none s1 s2 s3 address empty f s l t1 b1 t2 b2 t3 b3 e t4 = t4
