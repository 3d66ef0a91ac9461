-- The results of registers whose bytes have one set each.
use Rattle.std.proofs.Common.{◌≡◌, inl, inr, refl, ℕ, zero, suc, ◌+◌, ◌<◌, ◌≤◌, replicate, List, [], ◌∷◌, ◌++◌, slice_index, Contains, sym, ap, subst, ◌∙◌, arith}
use Rattle.std.proofs.lemmas.List.Elements.{Contains-append_left, Contains-append_right, Contains-append_cases, Contains-push, Contains-push_cases}
use Rattle.rv64_model.specs.Carries.{Operand, Left, Right, first_bytes}
use Rattle.set_store.specs.declared.item.Item.{Item}
use Rattle.set_store.specs.Sets.{IsUnionOf}
use Rattle.taint_spans.specs.Numbered.{IsSet, Numbered, members_of}
use Rattle.taint_flow.specs.declared.flow.Flow.{Flow}
use Rattle.taint_flow.specs.declared.flow.Flow.TheVariants.{Rising, Carried, Whole, Bytewise}
use Rattle.taint_flow.specs.Even.{HasSet, HaveLow, HaveOne, HaveTwo, IsSetOrNone}
use Rattle.taint_flow.specs.Flow.{IsFlow, reach}
use Rattle.taint_flow.specs.Gathered.{AreNumbers, byte_count, number_of}
use Rattle.taint_flow.specs.Results.{AreResults, TakesOperands}
use Rattle.taint_flow.proofs.Flows.{bytewise-flow, carried-flow, rising-flow, whole-flow, within-count}
use Rattle.taint_flow.proofs.Grown.{first-more, lowest-of, only}

none-in : {X : Type 0} (x : X) → Contains [] x → ⊥
none-in x c = let below : c.0 < 0 = c.1 in omega arith

module _ (number : Operand → ℕ) (operand : ℕ → Operand) (set : ℕ) (lowest : number (operand 0) ≡ set) (others : (i : ℕ) → i < byte_count → IsSetOrNone (number (operand i)) set) where
  -- each of the first bytes has the set, or none
  pub each-of : (n : ℕ) → n ≤ byte_count → (x : Operand) → Contains (first_bytes operand n) x → IsSetOrNone (number x) set
  each-of zero few x named = absurd (none-in x named)
  each-of (suc n) few x named =
      let next : n + 1 ≡ suc n = omega arith in
      let more = subst (λ l. Contains l x) (sym (first-more operand n ∙ ap (first_bytes operand) next)) named in
      elim (Contains-push_cases (first_bytes operand n) (operand n) x more) [
        | inl was ↦ each-of n (omega (arith, few)) x was
        | inr e ↦ subst (λ y. IsSetOrNone (number y) set) e (others n (omega (arith, few)))
      ]

  -- the lowest of them has it
  pub lowest-has : (n : ℕ) → 0 < n → HasSet number (first_bytes operand n) set
  lowest-has n some = record { operand = operand 0; named = lowest-of operand n some; same = lowest }

  -- the first bytes of one register
  pub one-side : (n : ℕ) → 0 < n → n ≤ byte_count → HaveTwo number (first_bytes operand n) set set
  one-side n some few = record {
    each = λ x named. inl (each-of n few x named);
    some_left = lowest-has n some;
    some_right = lowest-has n some;
  }

-- operands of two lists
pub two-sides : (number : Operand → ℕ) (lefts rights : List Operand) (left right : ℕ) → ((x : Operand) → Contains lefts x → IsSetOrNone (number x) left) → ((x : Operand) → Contains rights x → IsSetOrNone (number x) right)
    → HasSet number lefts left → HasSet number rights right → HaveTwo number (lefts ++ rights) left right
two-sides number lefts rights left right is_left is_right has_left has_right = record {
  each = λ x named. elim (Contains-append_cases lefts rights x named) [
    | inl l ↦ inl (is_left x l)
    | inr r ↦ inr (is_right x r)
  ];
  some_left = record { operand = has_left.operand; named = Contains-append_left lefts rights has_left.operand has_left.named; same = has_left.same };
  some_right = record { operand = has_right.operand; named = Contains-append_right lefts rights has_right.operand has_right.named; same = has_right.same };
}

-- one operand alone
alone : (number : Operand → ℕ) (x y : Operand) (set : ℕ) → number x ≡ set → Contains (x ∷ []) y → IsSetOrNone (number y) set
alone number x y set same named = inl (ap number (sym (only x y named)) ∙ same)

alone-has : (number : Operand → ℕ) (x : Operand) (set : ℕ) → number x ≡ set → HasSet number (x ∷ []) set
alone-has number x set same = record { operand = x; named = Contains-push [] x; same = same }

-- the operands of a flow whose registers have one set each
module _ (first second loaded : List ℕ) (flow : Flow) (taken : ℕ → List Operand) (is : IsFlow flow taken) (left : ℕ) where
  abbrev number : Operand → ℕ
  number = number_of first second loaded

  pub rising-two : (width : ℕ) → HaveLow first left → flow ≡ Rising width → (byte : ℕ) → byte < byte_count → HaveTwo number (taken byte) left left
  rising-two width low e byte h =
      let table = rising-flow flow taken width e is in
      let within = within-count width byte table.0 h in
      subst (λ l. HaveTwo number l left left) (sym (table.1 byte)) (one-side number Left left low.lowest low.others (reach width byte) (omega arith) (omega (arith, within)))

  pub whole-two : (width : ℕ) → HaveLow first left → flow ≡ Whole width → (byte : ℕ) → byte < byte_count → HaveTwo number (taken byte) left left
  whole-two width low e byte h =
      let table = whole-flow flow taken width e is in
      subst (λ l. HaveTwo number l left left) (sym (table.1 byte)) (one-side number Left left low.lowest low.others width table.0.0 table.0.1)

  module _ (right : ℕ) where
    pub carried-two : (width : ℕ) → HaveLow first left → HaveLow second right → flow ≡ Carried width → (byte : ℕ) → byte < byte_count → HaveTwo number (taken byte) left right
    carried-two width low_left low_right e byte h =
        let table = carried-flow flow taken width e is in
        let within = within-count width byte table.0 h in
        let n = reach width byte in
        let some : 0 < n = omega arith in
        let few : n ≤ byte_count = omega (arith, within) in
        subst (λ l. HaveTwo number l left right) (sym (table.1 byte))
        (two-sides number (first_bytes Left n) (first_bytes Right n) left right (each-of number Left left low_left.lowest low_left.others n few) (each-of number Right right low_right.lowest low_right.others n few)
        (lowest-has number Left left low_left.lowest low_left.others n some) (lowest-has number Right right low_right.lowest low_right.others n some))

    pub bytewise-two : HaveOne first left → HaveOne second right → flow ≡ Bytewise → (byte : ℕ) → byte < byte_count → HaveTwo number (taken byte) left right
    bytewise-two one_left one_right e byte h =
        subst (λ l. HaveTwo number l left right) (sym (bytewise-flow flow taken e is byte h))
        (two-sides number (Left byte ∷ []) (Right byte ∷ []) left right (λ x. alone number (Left byte) x left (one_left byte h)) (λ x. alone number (Right byte) x right (one_right byte h))
        (alone-has number (Left byte) left (one_left byte h)) (alone-has number (Right byte) right (one_right byte h)))

-- an item of a byte that has a set or none is the set's
item-of : (sets : Numbered) (number set : ℕ) (item : Item) → members_of sets 0 ≡ [] → IsSetOrNone number set → Contains (members_of sets number) item → Contains (members_of sets set) item
item-of sets number set item empty (inl same) member = subst (λ s. Contains (members_of sets s) item) same member
item-of sets number set item empty (inr none) member = absurd (none-in item (subst (λ l. Contains l item) (ap (members_of sets) none ∙ empty) member))

-- the union of two sets is that of operands that have these
pub takes-two : (old new : Numbered) (number : Operand → ℕ) (operands : List Operand) (left right set : ℕ) → members_of old 0 ≡ [] → HaveTwo number operands left right → IsSet new set
    → IsUnionOf (members_of new set) (members_of old left) (members_of old right) → TakesOperands old new number operands set
takes-two old new number operands left right set empty two there union = record {
  there = there;
  members = λ item. (
    λ h. elim ((union item).0 h) [
      | inl l ↦ record { operand = two.some_left.operand; named = two.some_left.named; member = subst (λ s. Contains (members_of old s) item) (sym two.some_left.same) l }
      | inr r ↦ record { operand = two.some_right.operand; named = two.some_right.named; member = subst (λ s. Contains (members_of old s) item) (sym two.some_right.same) r }
    ],
    λ from. elim (two.each from.operand from.named) [
      | inl l ↦ (union item).1 (inl (item-of old (number from.operand) left item empty l from.member))
      | inr r ↦ (union item).1 (inr (item-of old (number from.operand) right item empty r from.member))
    ],
  );
}

-- each of so many that are the same
pub same-at : (count i set : ℕ) → i < count → slice_index (replicate count set) i ≡ set
same-at zero i set h = absurd (omega (arith, h))
same-at (suc count) zero set h = refl
same-at (suc count) (suc i) set h = same-at count i set (omega (arith, h))

-- one set for all bytes
pub all-alike : (old new : Numbered) (number : Operand → ℕ) (operands : ℕ → List Operand) (left right set : ℕ) → members_of old 0 ≡ [] → ((byte : ℕ) → byte < byte_count → HaveTwo number (operands byte) left right) → IsSet new set
    → IsUnionOf (members_of new set) (members_of old left) (members_of old right) → AreResults old new number operands (replicate 8 set)
all-alike old new number operands left right set empty two there union = record {
  len = refl;
  bytes = λ byte h. subst (λ n. TakesOperands old new number (operands byte) n) (sym (same-at 8 byte set h)) (takes-two old new number (operands byte) left right set empty (two byte h) there union);
}

-- the set of a register's lowest byte
pub low-set : (sets : Numbered) (numbers : List ℕ) (set : ℕ) → AreNumbers sets numbers → slice_index numbers 0 ≡ set → IsSet sets set
low-set sets numbers set are lowest = subst (IsSet sets) lowest (are.set 0 (omega arith))
