-- The operands of a flow, bytes that are moved whole, and what their results are then.
use Rattle.std.proofs.Common.{◌≡◌, ℕ, zero, suc, replicate, refl, ◌-◌, ◌<◌, nat_lt, Bool, true, false, if◌then◌else◌, List, [], ◌∷◌, ◌++◌, slice_index, Contains, Result, IfOk, sym, ap, subst, ◌∙◌, arith}
use Rattle.std.proofs.lemmas.Bool.Decides.{nat_tests}
use Rattle.std.proofs.lemmas.Bool.{ltb-true, ltb-false, lt-ltb}
use Rattle.arn_base.specs.declared.errors.NoMemory.{NoMemory}
use Rattle.rv64_model.specs.Carries.{Operand, Left, Right, Loaded, both, first_bytes, taken_if, within_width}
use Rattle.set_store.specs.declared.item.Item.{Item}
use Rattle.taint_spans.specs.Numbered.{IsSet, Numbered, members_of}
use Rattle.taint_flow.specs.declared.flow.Flow.{Flow}
use Rattle.taint_flow.specs.declared.flow.Flow.TheVariants.{First, Second, Memory, Extended, Rising, Carried, Whole, Bytewise}
use Rattle.taint_flow.specs.Flow.{Extends, IsFlow, IsWidth, Moves, reach}
use Rattle.taint_flow.specs.Gathered.{AreNumbers, byte_count, number_of}
use Rattle.taint_flow.specs.Results.{AreResults, TakesOperands}
use Rattle.taint_flow.proofs.Grown.{only}

-- all bytes are below the last one
all-below : (i : ℕ) (operand : Operand) → i < byte_count → operand ∷ [] ≡ taken_if (nat_lt i byte_count) operand
all-below i operand h = sym (ap (λ t. taken_if t operand) (lt-ltb i byte_count h))

-- the table of a flow
pub first-table : (flow : Flow) (taken : ℕ → List Operand) → flow ≡ First → IsFlow flow taken → (i : ℕ) → i < byte_count → taken i ≡ taken_if (nat_lt i 8) (Left i)
first-table flow taken e is i h = subst (λ f. IsFlow f taken) e is i h ∙ all-below i (Left i) h

pub second-table : (flow : Flow) (taken : ℕ → List Operand) (count : ℕ) → flow ≡ Second count → IsFlow flow taken → (i : ℕ) → i < byte_count → taken i ≡ taken_if (nat_lt i count) (Right i)
second-table flow taken count e is i h = (subst (λ f. IsFlow f taken) e is).1 i

pub memory-table : (flow : Flow) (taken : ℕ → List Operand) (count : ℕ) → flow ≡ Memory count → IsFlow flow taken → (i : ℕ) → i < byte_count → taken i ≡ taken_if (nat_lt i count) (Loaded i)
memory-table flow taken count e is i h = (subst (λ f. IsFlow f taken) e is).1 i

pub extended-flow : (flow : Flow) (taken : ℕ → List Operand) (width : ℕ) → flow ≡ Extended width → IsFlow flow taken → IsWidth width × ((i : ℕ) → taken i ≡ Loaded (within_width width i) ∷ [])
extended-flow flow taken width e is = subst (λ f. IsFlow f taken) e is

pub rising-flow : (flow : Flow) (taken : ℕ → List Operand) (width : ℕ) → flow ≡ Rising width → IsFlow flow taken → IsWidth width × ((i : ℕ) → taken i ≡ first_bytes Left (reach width i))
rising-flow flow taken width e is = subst (λ f. IsFlow f taken) e is

pub carried-flow : (flow : Flow) (taken : ℕ → List Operand) (width : ℕ) → flow ≡ Carried width → IsFlow flow taken
    → IsWidth width × ((i : ℕ) → taken i ≡ first_bytes Left (reach width i) ++ first_bytes Right (reach width i))
carried-flow flow taken width e is = subst (λ f. IsFlow f taken) e is

pub whole-flow : (flow : Flow) (taken : ℕ → List Operand) (width : ℕ) → flow ≡ Whole width → IsFlow flow taken → IsWidth width × ((i : ℕ) → taken i ≡ first_bytes Left width)
whole-flow flow taken width e is = subst (λ f. IsFlow f taken) e is

pub bytewise-flow : (flow : Flow) (taken : ℕ → List Operand) → flow ≡ Bytewise → IsFlow flow taken → (i : ℕ) → i < byte_count → taken i ≡ both i
bytewise-flow flow taken e is = subst (λ f. IsFlow f taken) e is

-- results by a table are those by another that gives each byte the same
pub by-table : (r : Result (List ℕ) NoMemory) (old new : Numbered) (number : Operand → ℕ) (taken table : ℕ → List Operand) → ((i : ℕ) → i < byte_count → taken i ≡ table i)
    → IfOk r (AreResults old new number table) → IfOk r (AreResults old new number taken)
by-table r old new number taken table h1 h2 = grind (arith, nat_tests)

-- the set of one operand
pub one-of : (sets : Numbered) (number : Operand → ℕ) (x : Operand) (set : ℕ) → set ≡ number x → IsSet sets (number x) → TakesOperands sets sets number (x ∷ []) set
one-of sets number x set h1 h2 = grind (arith, nat_tests, only)

module _ (sets : Numbered) (number : Operand → ℕ) (is_set : IsSet sets 0) (empty : members_of sets 0 ≡ []) where
  -- nothing in the empty set
  in-empty : (item : Item) (set : ℕ) → set ≡ 0 → Contains (members_of sets set) item → ⊥
  in-empty item set h1 h2 = grind (arith, nat_tests)

  -- the empty set is that of operands none of which has a member
  pub takes-nothing : (taken : List Operand) (set : ℕ) → set ≡ 0 → ((x : Operand) → Contains taken x → number x ≡ 0) → TakesOperands sets sets number taken set
  takes-nothing taken set h1 h2 = grind (arith, nat_tests, in-empty)

  -- the set of one operand
  pub takes-one : (x : Operand) (set : ℕ) → set ≡ number x → IsSet sets (number x) → TakesOperands sets sets number (x ∷ []) set
  takes-one x set h1 h2 = grind (arith, nat_tests, only)

module _ (sets : Numbered) (first second loaded : List ℕ) (is_set : IsSet sets 0) (empty : members_of sets 0 ≡ []) where
  -- bytes of one operand, and none behind them
  pub moved-by : (moved : List ℕ) (operand : ℕ → Operand) (taken : ℕ → List Operand) (numbers : List ℕ) (count : ℕ) → AreNumbers sets numbers → ((i : ℕ) → number_of first second loaded (operand i) ≡ slice_index numbers i)
      → ((i : ℕ) → i < byte_count → taken i ≡ taken_if (nat_lt i count) (operand i)) → Moves numbers count moved → AreResults sets sets (number_of first second loaded) taken moved
  moved-by moved operand taken numbers count h1 h2 h3 h4 = grind (arith, nat_tests, ltb-false, ltb-true, takes-nothing, takes-one)

-- no byte reaches beyond the register
pub within-count : (width byte : ℕ) → IsWidth width → byte < byte_count → within_width width byte < byte_count
within-count width byte is h = by (nat_lt byte width) where
  by : (t : Bool) → (if t then byte else width - 1) < byte_count
  by true = h
  by false = omega (arith, is.0, is.1)

-- loaded bytes, and their sign behind them
pub extended-by : (sets : Numbered) (first second loaded : List ℕ) (taken : ℕ → List Operand) (width : ℕ) → IsWidth width → ((i : ℕ) → taken i ≡ Loaded (within_width width i) ∷ []) → (extended : List ℕ) → AreNumbers sets loaded
    → Extends loaded width extended → AreResults sets sets (number_of first second loaded) taken extended
extended-by sets first second loaded taken width is table extended numbers extends = record {
  len = extends.len;
  bytes = λ byte h.
      let within = within-count width byte is h in
      subst (λ (l : List Operand). TakesOperands sets sets (number_of first second loaded) l (slice_index extended byte)) (sym (table byte))
      (one-of sets (number_of first second loaded) (Loaded (within_width width byte)) (slice_index extended byte) (extends.same byte h) (numbers.set (within_width width byte) within));
}

-- each of so many zeros
pub zero-at : (count i : ℕ) → slice_index (replicate count 0) i ≡ 0
zero-at zero i = refl
zero-at (suc count) zero = refl
zero-at (suc count) (suc i) = zero-at count i
