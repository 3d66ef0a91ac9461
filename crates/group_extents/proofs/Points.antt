-- Which slices an index lists up to a moment.
use Rattle.std.proofs.Common.{◌≡◌, ℕ, zero, suc, ◌<◌, ◌≤◌, Bool, true, false, cond, List, [], ◌∷◌, length, take, get_or, filter, Option, refl, ap, sym, ◌∙◌, arith}
use Rattle.std.specs.List.Sorted.{IsPartitionedBy}
use Rattle.arn_base.specs.declared.records.Record.{Record}
use Rattle.history_index.specs.Lookups.{slices_from, slices_of}
use Rattle.history_index.specs.declared.slices.SliceAt.{SliceAt}
use Rattle.history_model.specs.Groups.{group_of, is_number}
use Rattle.group_extents.specs.Extents.{behind_of, extent_of, felt, is_begun, is_felt, last_of, owed_of}
use Rattle.group_extents.specs.declared.extent.Extent.{Extent}
use Rattle.group_extents.proofs.Slices.{Chain, Each, Precedes, chain-all, chain-filter, felt-before}

-- those of a group's slices that may do something up to a moment come first
precedes-at : (entries : List Record) (s : SliceAt) (slices : List SliceAt) (j : ℕ) (d : SliceAt) → Each (Precedes entries s) slices → j < length slices → Precedes entries s (get_or slices j d)
precedes-at entries s [] j d h less = absurd (omega (arith, less))
precedes-at entries s (t ∷ slices) zero d h less = h.0
precedes-at entries s (t ∷ slices) (suc j) d h less = precedes-at entries s slices j d h.1 (omega (arith, less))

chain-parted : (entries : List Record) (until : ℕ) (slices : List SliceAt) → Chain entries slices → IsPartitionedBy (is_felt entries until) slices
chain-parted entries until [] h i j d order less felt = absurd (omega (arith, less))
chain-parted entries until (s ∷ slices) h zero zero d order less felt = felt
chain-parted entries until (s ∷ slices) h zero (suc j) d order less felt = felt-before entries until s (get_or slices j d) (precedes-at entries s slices j d h.0 (omega (arith, less))) felt
chain-parted entries until (s ∷ slices) h (suc i) zero d order less felt = absurd (omega (arith, order))
chain-parted entries until (s ∷ slices) h (suc i) (suc j) d order less felt = chain-parted entries until slices h.1 i j d (omega (arith, order)) (omega (arith, less)) felt

pub slices-parted : (entries : List Record) (g until : ℕ) → IsPartitionedBy (is_felt entries until) (slices_of entries g)
slices-parted entries g until = chain-parted entries until (slices_of entries g) (chain-filter entries (λ s. is_number g (group_of entries s.pid)) (slices_from 0 0 0 entries) (chain-all entries))

-- up to a point up to which a test passes, and from which on it doesn't
pub filter-point : {A : Type 0} (test : A → Bool) (xs : List A) (i : ℕ) → i ≤ length xs → ((k : ℕ) (d : A) → 0 ≤ k → k < i → test (get_or xs k d) ≡ true) → ((k : ℕ) (d : A) → i ≤ k → k < length xs → test (get_or xs k d) ≡ false) → take i xs ≡ filter test xs
filter-point test [] zero few front back = refl
filter-point test [] (suc i) few front back = refl
filter-point test (x ∷ xs) zero few front back =
    filter-point test xs zero (omega arith) (λ k d some below. absurd (omega (arith, below))) (λ k d above below. back (suc k) d (omega arith) (omega (arith, below)))
    ∙ sym (ap (λ (b : Bool). cond b (x ∷ filter test xs) (filter test xs)) (back 0 x (omega arith) (omega arith)))
filter-point test (x ∷ xs) (suc i) few front back =
    ap (λ (rest : List _). x ∷ rest) (filter-point test xs i (omega (arith, few)) (λ k d some below. front (suc k) d (omega arith) (omega (arith, below))) (λ k d above below. back (suc k) d (omega (arith, above)) (omega (arith, below))))
    ∙ sym (ap (λ (b : Bool). cond b (x ∷ filter test xs) (filter test xs)) (front 0 x (omega arith) (omega arith)))

-- what is read of the last of them is the extent
abbrev extent : Bool → ℕ → ℕ → ℕ → Extent
extent begun slices owed behind = record { is_begun = begun; slices = slices; owed = owed; behind = behind }

pub extent-is : (entries : List Record) (g until : ℕ) (flag : Bool) (xs : List SliceAt) (last : Option SliceAt) (owed behind : ℕ) → flag ≡ is_begun entries g until → xs ≡ felt entries g until → last ≡ last_of xs
    → owed ≡ owed_of until last → behind ≡ behind_of entries last → extent flag (length xs) owed behind ≡ extent_of entries g until
extent-is entries g until flag xs last owed behind flag-is xs-is last-at owed-is behind-is =
    let found : last ≡ last_of (felt entries g until) = last-at ∙ ap last_of xs-is in
    ap (λ (b : Bool). extent b (length xs) owed behind) flag-is
    ∙ (ap (λ (ys : List SliceAt). extent (is_begun entries g until) (length ys) owed behind) xs-is
    ∙ (ap (λ (k : ℕ). extent (is_begun entries g until) (length (felt entries g until)) k behind) (owed-is ∙ ap (owed_of until) found)
    ∙ ap (λ (k : ℕ). extent (is_begun entries g until) (length (felt entries g until)) (owed_of until (last_of (felt entries g until))) k) (behind-is ∙ ap (behind_of entries) found)))
