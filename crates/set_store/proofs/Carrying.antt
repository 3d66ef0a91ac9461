-- Sets that are carried over.
use Rattle.std.proofs.Common.{◌≡◌, ℕ, ◌∙◌, ◌++◌, List, Result, IfOk, ap, inl, inr, subst, sym}
use Rattle.arn_base.specs.declared.errors.NoMemory.{NoMemory}
use Rattle.set_store.specs.declared.item.Item.{Item}
use Rattle.set_store.specs.declared.node.Fork.{Fork}
use Rattle.set_store.specs.declared.node.Row.{Row}
use Rattle.set_store.specs.declared.node.Node.{Node}
use Rattle.set_store.specs.declared.node.Node.TheVariants.{Leaf, Branch}
use Rattle.set_store.specs.Carried.{AreCarried, IsCarried, Notes}
use Rattle.set_store.specs.Sets.{StandAsBefore, members_of}
use Rattle.set_store.specs.Tries.{AreHalves, expanded}

-- what was carried stays so
pub carried-grown : (from old new : List (List Item)) (numbers : List ℕ) → StandAsBefore old new → AreCarried from old numbers → AreCarried from new numbers
carried-grown from old new numbers stand carried set number at some =
    let is = carried set number at some in
    record { there = stand.there number is.there; members = stand.same number is.there ∙ is.members }

-- and so is one more
pub carried-noted : (from into : List (List Item)) (set number : ℕ) (old new : List ℕ) → Notes set number old new → IsCarried from into set number → AreCarried from into old → AreCarried from into new
carried-noted from into set number old new notes one carried s n at some = elim (notes s n at) [
  | inl was ↦ carried s n was some
  | inr is ↦ subst (λ a. IsCarried from into a n) (sym is.0) (subst (λ b. IsCarried from into set b) (sym is.1) one)
]

-- a leaf is the same among whatever sets
pub carried-leaf : (r : Result ℕ NoMemory) (from old new : List (List Item)) (set : ℕ) (node : Node) (row : Row) → node ≡ Leaf row → members_of from set ≡ expanded from node
    → IfOk r (λ number. members_of new number ≡ expanded old node) → IfOk r (λ number. members_of new number ≡ members_of from set)
carried-leaf r from old new set node row is members kept =
    subst (λ list. IfOk r (λ number. members_of new number ≡ list)) (ap (λ n. expanded old n) is ∙ sym (ap (λ n. expanded from n) is) ∙ sym members) kept

-- and a fork of the same halves has the same members
pub carried-halves : (bit : ℕ) (left right low high : List Item) → left ≡ low → right ≡ high → AreHalves bit low high → AreHalves bit left right
carried-halves bit left right low high l r h = subst (λ list. AreHalves bit list right) (sym l) (subst (λ list. AreHalves bit low list) (sym r) h)

pub carried-fork : (r : Result ℕ NoMemory) (from old new : List (List Item)) (set : ℕ) (fork : Fork) (left right : ℕ) → members_of from set ≡ expanded from (Branch fork)
    → members_of old left ≡ members_of from fork.left → members_of old right ≡ members_of from fork.right
    → IfOk r (λ number. members_of new number ≡ members_of old left ++ members_of old right) → IfOk r (λ number. members_of new number ≡ members_of from set)
carried-fork r from old new set fork left right members low high made =
    subst (λ list. IfOk r (λ number. members_of new number ≡ list))
    (ap (λ list. list ++ members_of old right) low ∙ ap (λ list. members_of from fork.left ++ list) high ∙ sym members) made
