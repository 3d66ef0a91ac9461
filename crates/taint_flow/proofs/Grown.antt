-- How the set of an operation's byte grows.
use Rattle.std.proofs.Common.{◌≡◌, inl, inr, ℕ, zero, suc, ◌+◌, ◌-◌, ◌<◌, ◌≤◌, if◌then◌else◌, List, [], ◌∷◌, ◌++◌, Contains, sym, ap, subst, ◌∙◌, arith}
use Rattle.std.proofs.lemmas.Bool.Decides.{nat_tests}
use Rattle.std.proofs.lemmas.Bool.{ltb-true, lt-ltb}
use Rattle.std.proofs.lemmas.List.{map-append}
use Rattle.std.proofs.lemmas.List.Elements.{Contains-append_left, Contains-append_right, Contains-append_cases, Contains-push, Contains-push_cases}
use Rattle.rv64_model.specs.Carries.{Operand, Left, Right, below, both, first_bytes}
use Rattle.set_store.specs.declared.item.Item.{Item}
use Rattle.set_store.specs.Sets.{IsUnionOf}
use Rattle.taint_spans.specs.Numbered.{IsSet, Numbered, StandAsBefore, members_of}
use Rattle.taint_flow.specs.Flow.{IsWidth, reach}
use Rattle.taint_flow.specs.Gathered.{Includes}
use Rattle.taint_flow.specs.Results.{TakesOperands}

-- one operand more
pub takes-push : (old mid new : Numbered) (number : Operand → ℕ) (taken : List Operand) (x : Operand) (a s : ℕ) → StandAsBefore old mid → IsSet old (number x) → TakesOperands old mid number taken a
    → IsSet new s → IsUnionOf (members_of new s) (members_of mid a) (members_of mid (number x)) → TakesOperands old new number (taken ++ x ∷ []) s
takes-push old mid new number taken x a s before is_set t there union = record {
  there = there;
  members = λ item. (
    λ h. elim ((union item).0 h) [
      | inl was ↦ (let from = (t.members item).0 was in record { operand = from.operand; named = Contains-append_left taken (x ∷ []) from.operand from.named; member = from.member })
      | inr here ↦ record { operand = x; named = Contains-push taken x; member = subst (λ l. Contains l item) (before.same (number x) is_set) here }
    ],
    λ from. elim (Contains-push_cases taken x from.operand from.named) [
      | inl was ↦ (union item).1 (inl ((t.members item).1 (record { operand = from.operand; named = was; member = from.member })))
      | inr e ↦ (union item).1 (inr (subst (λ l. Contains l item) (sym (before.same (number x) is_set)) (subst (λ o. Contains (members_of old (number o)) item) (sym e) from.member)))
    ],
  );
}

-- a union of two sets is that of them as they stand later
pub union-still : (old new : Numbered) (members : List Item) (a b : ℕ) → StandAsBefore old new → IsSet old a → IsSet old b → IsUnionOf members (members_of old a) (members_of old b)
    → IsUnionOf members (members_of new a) (members_of new b)
union-still old new members a b before of_a of_b =
    subst (λ l. IsUnionOf members (members_of old a) (members_of old b) → IsUnionOf members (members_of new a) l) (sym (before.same b of_b))
    (subst (λ l. IsUnionOf members (members_of old a) (members_of old b) → IsUnionOf members l (members_of old b)) (sym (before.same a of_a)) (λ union. union))

pub only : (x y : Operand) → Contains (x ∷ []) y → x ≡ y
only x y h1 = grind (arith, nat_tests)

-- byte i of both
pub takes-both : (old mid new : Numbered) (number : Operand → ℕ) (i s : ℕ) → StandAsBefore old mid → IsSet old (number (Left i)) → IsSet old (number (Right i)) → IsSet new s
    → IsUnionOf (members_of new s) (members_of mid (number (Left i))) (members_of mid (number (Right i))) → TakesOperands old new number (both i) s
takes-both old mid new number i s before of_left of_right there union = record {
  there = there;
  members = λ item. (
    λ h. elim ((union item).0 h) [
      | inl l ↦ record { operand = Left i; named = Contains-append_left (Left i ∷ []) (Right i ∷ []) (Left i) (Contains-push [] (Left i)); member = subst (λ m. Contains m item) (before.same (number (Left i)) of_left) l }
      | inr r ↦ record { operand = Right i; named = Contains-push (Left i ∷ []) (Right i); member = subst (λ m. Contains m item) (before.same (number (Right i)) of_right) r }
    ],
    λ from. elim (Contains-push_cases (Left i ∷ []) (Right i) from.operand from.named) [
      | inl was ↦ (union item).1 (inl (subst (λ m. Contains m item) (sym (before.same (number (Left i)) of_left)) (subst (λ o. Contains (members_of old (number o)) item) (sym (only (Left i) from.operand was)) from.member)))
      | inr e ↦ (union item).1 (inr (subst (λ m. Contains m item) (sym (before.same (number (Right i)) of_right)) (subst (λ o. Contains (members_of old (number o)) item) (sym e) from.member)))
    ],
  );
}

-- the set has the members of each of the operands
pub takes-includes : (old new : Numbered) (number : Operand → ℕ) (taken : List Operand) (x : Operand) (set : ℕ) → StandAsBefore old new → IsSet old (number x) → Contains taken x
    → TakesOperands old new number taken set → Includes new set (number x)
takes-includes old new number taken x set before is_set named t item h =
    (t.members item).1 (record { operand = x; named = named; member = subst (λ l. Contains l item) (before.same (number x) is_set) h })

-- the same operands in another order
takes-same : (old new : Numbered) (number : Operand → ℕ) (taken other : List Operand) (set : ℕ) → ((x : Operand) → Contains taken x → Contains other x) → ((x : Operand) → Contains other x → Contains taken x)
    → TakesOperands old new number taken set → TakesOperands old new number other set
takes-same old new number taken other set forth back t = record {
  there = t.there;
  members = λ item. (
    λ h. let from = (t.members item).0 h in record { operand = from.operand; named = forth from.operand from.named; member = from.member },
    λ from. (t.members item).1 (record { operand = from.operand; named = back from.operand from.named; member = from.member }),
  );
}

pub first-more : (operand : ℕ → Operand) (n : ℕ) → first_bytes operand n ++ operand n ∷ [] ≡ first_bytes operand (n + 1)
first-more operand n = sym (map-append operand (below n) (n ∷ [])) ∙ ap (first_bytes operand) (let next : suc n ≡ n + 1 = omega arith in next)

-- the last of the first bytes
pub last-of : (operand : ℕ → Operand) (n : ℕ) → 0 < n → Contains (first_bytes operand n) (operand (n - 1))
last-of operand n some =
    let next : n - 1 + 1 ≡ n = omega arith in
    subst (λ m. Contains (first_bytes operand m) (operand (n - 1))) next
    (subst (λ l. Contains l (operand (n - 1))) (first-more operand (n - 1)) (Contains-push (first_bytes operand (n - 1)) (operand (n - 1))))

-- the lowest of the first bytes
lowest-of-next : (operand : ℕ → Operand) (n : ℕ) → Contains (first_bytes operand (suc n)) (operand 0)
lowest-of-next operand zero = Contains-push [] (operand 0)
lowest-of-next operand (suc n) =
    let next : suc n + 1 ≡ suc (suc n) = omega arith in
    subst (λ l. Contains l (operand 0)) (first-more operand (suc n) ∙ ap (first_bytes operand) next)
    (Contains-append_left (first_bytes operand (suc n)) (operand (suc n) ∷ []) (operand 0) (lowest-of-next operand n))

pub lowest-of : (operand : ℕ → Operand) (n : ℕ) → 0 < n → Contains (first_bytes operand n) (operand 0)
lowest-of operand n some =
    let next : suc (n - 1) ≡ n = omega arith in
    subst (λ m. Contains (first_bytes operand m) (operand 0)) next (lowest-of-next operand (n - 1))

pub lefts-more : (old new : Numbered) (number : Operand → ℕ) (n set : ℕ) → TakesOperands old new number (first_bytes Left n ++ Left n ∷ []) set → TakesOperands old new number (first_bytes Left (n + 1)) set
lefts-more old new number n set = subst (λ l. TakesOperands old new number l set) (first-more Left n)

-- byte n of both behind the bytes below it
module _ (n : ℕ) (x : Operand) where
  abbrev lefts : List Operand
  lefts = first_bytes Left n

  abbrev rights : List Operand
  rights = first_bytes Right n

  forth : Contains (((lefts ++ rights) ++ Left n ∷ []) ++ Right n ∷ []) x → Contains ((lefts ++ Left n ∷ []) ++ (rights ++ Right n ∷ [])) x
  forth h = elim (Contains-append_cases ((lefts ++ rights) ++ Left n ∷ []) (Right n ∷ []) x h) [
    | inl one ↦ elim (Contains-append_cases (lefts ++ rights) (Left n ∷ []) x one) [
      | inl two ↦ elim (Contains-append_cases lefts rights x two) [
        | inl l ↦ Contains-append_left (lefts ++ Left n ∷ []) (rights ++ Right n ∷ []) x (Contains-append_left lefts (Left n ∷ []) x l)
        | inr r ↦ Contains-append_right (lefts ++ Left n ∷ []) (rights ++ Right n ∷ []) x (Contains-append_left rights (Right n ∷ []) x r)
      ]
      | inr l ↦ Contains-append_left (lefts ++ Left n ∷ []) (rights ++ Right n ∷ []) x (Contains-append_right lefts (Left n ∷ []) x l)
    ]
    | inr r ↦ Contains-append_right (lefts ++ Left n ∷ []) (rights ++ Right n ∷ []) x (Contains-append_right rights (Right n ∷ []) x r)
  ]

  back : Contains ((lefts ++ Left n ∷ []) ++ (rights ++ Right n ∷ [])) x → Contains (((lefts ++ rights) ++ Left n ∷ []) ++ Right n ∷ []) x
  back h = elim (Contains-append_cases (lefts ++ Left n ∷ []) (rights ++ Right n ∷ []) x h) [
    | inl one ↦ Contains-append_left ((lefts ++ rights) ++ Left n ∷ []) (Right n ∷ []) x (elim (Contains-append_cases lefts (Left n ∷ []) x one) [
      | inl l ↦ Contains-append_left (lefts ++ rights) (Left n ∷ []) x (Contains-append_left lefts rights x l)
      | inr l ↦ Contains-append_right (lefts ++ rights) (Left n ∷ []) x l
    ])
    | inr one ↦ elim (Contains-append_cases rights (Right n ∷ []) x one) [
      | inl r ↦ Contains-append_left ((lefts ++ rights) ++ Left n ∷ []) (Right n ∷ []) x (Contains-append_left (lefts ++ rights) (Left n ∷ []) x (Contains-append_right lefts rights x r))
      | inr r ↦ Contains-append_right ((lefts ++ rights) ++ Left n ∷ []) (Right n ∷ []) x r
    ]
  ]

pub both-more : (old new : Numbered) (number : Operand → ℕ) (n set : ℕ) → TakesOperands old new number (((first_bytes Left n ++ first_bytes Right n) ++ Left n ∷ []) ++ Right n ∷ []) set
    → TakesOperands old new number (first_bytes Left (n + 1) ++ first_bytes Right (n + 1)) set
both-more old new number n set t =
    subst (λ l. TakesOperands old new number (l ++ first_bytes Right (n + 1)) set) (first-more Left n)
    (subst (λ r. TakesOperands old new number ((first_bytes Left n ++ Left n ∷ []) ++ r) set) (first-more Right n)
    (takes-same old new number _ _ set (forth n) (back n) t))

-- bytes below the width reach themselves, and the others its last
pub reach-below : (width i : ℕ) → i < width → reach width i ≡ i + 1
reach-below width i h = ap (λ t. suc (if t then i else width - 1)) (lt-ltb i width h) ∙ (let next : suc i ≡ i + 1 = omega arith in next)

pub reach-above : (width i : ℕ) → IsWidth width → width ≤ i → reach width i ≡ width
reach-above width i h1 h2 = grind (arith, nat_tests, ltb-true)
