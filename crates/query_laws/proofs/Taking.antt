-- What a step of a group takes is what its members hold.
use Rattle.std.proofs.Common.{◌≡◌, inr, ℕ, zero, suc, ◌+◌, ◌<◌, ◌==◌, Bool, true, false, if◌then◌else◌, List, [], ◌∷◌, flat_map, Option, Some, None, option_map, option_and_then, refl, sym, subst, arith}
use Rattle.std.proofs.lemmas.Bool.Decides.{nat_tests}
use Rattle.std.specs.List.{AllByRecursion}
use Rattle.std.proofs.lemmas.Option.{none-some, same_Some}
use Rattle.arn_base.specs.declared.machine.Cpu.{Cpu}
use Rattle.arn_base.specs.declared.records.Record.{Record}
use Rattle.arn_base.specs.declared.records.Record.TheVariants as entry
use Rattle.rv64_isa.specs.declared.instruction.Instr.{Instr}
use Rattle.rv64_model.specs.Carries.{Operand, Left, Right, Loaded, Address, Table}
use Rattle.rv64_model.specs.Operands.{accessed, rs1_of, rs2_of}
use Rattle.acts_model.specs.Acts as act
use Rattle.acts_model.specs.Acts.{Act}
use Rattle.acts_model.specs.Moved.{Inside}
use Rattle.acts_model.specs.Told.{act_of}
use Rattle.acts_model.specs.Transfers.{Holds, Place, is_private, is_shared, memory_at, place_at, place_of}
use Rattle.lineage_model.specs.Flow.{bytes_at, operand_bytes, register_bytes}
use Rattle.taint_flow.specs.Names.{loaded_len}
use Rattle.taint_laws.specs.Follows.{IsStep, Steps, Hears, Starts, with_booted}
use Rattle.taint_state.specs.Goes.{Hearings, IsPossible}
use Rattle.taint_state.specs.Steps.{Holders, IsWhole, event_inside, instr_inside}
use Rattle.query_laws.proofs.Decoded.{FitsRun}
use Rattle.query_laws.proofs.Items.{all-append}
use Rattle.query_laws.proofs.Scopes.{Scope, IsHeld, IsTaking, RangeIsHeld}
use Rattle.query_laws.proofs.Telling.{hears-as, option_map-some}

-- byte k from an address on is followed, in the window or in the segment
pub record InWindow (s : Scope) (at k : ℕ) : Type 0 where
  pub private : is_private at ≡ true → s.window (at + k)
  pub shared : is_shared at ≡ true → s.segment (at + k)

-- an operand that is followed
abbrev pub FromRegister : Scope → ℕ → ℕ → Type 0
FromRegister s zero i = Unit {0}
FromRegister s (suc r) i = s.register (suc r) i

abbrev pub OperandIn : Scope → (Instr → ℕ → Type 0) → Instr → Operand → Type 0
OperandIn s L instr (Left i) = FromRegister s (rs1_of instr) i
OperandIn s L instr (Right i) = FromRegister s (rs2_of instr) i
OperandIn s L instr (Address i) = FromRegister s (rs1_of instr) i
OperandIn s L instr (Loaded k) = L instr k

-- what instructions that fit read is followed, and what is whole in a window
pub record Allows (table : Table) (s : Scope) (Fit : Instr → Type 0) (L : Instr → ℕ → Type 0) : Type 0 where
  pub operands : (instr : Instr) → Fit instr → (i : ℕ) → s.result i → AllByRecursion (OperandIn s L instr) (table instr i)
  pub loads : (instr : Instr) (hs : Holds) (at made : ℕ) → memory_at hs at ≡ Some made → IsWhole (place_at hs at) (loaded_len instr) → (k : ℕ) → L instr k → InWindow s at k
  pub ranges : (hs : Holds) (at len made : ℕ) → memory_at hs at ≡ Some made → IsWhole (place_at hs at) len → (k : ℕ) → k < len → InWindow s at k

module _ (s : Scope) (h : Holders) (pid : ℕ) (hs : Holds) (lives : h pid ≡ Some hs) where
  segment-byte : (at k : ℕ) (o : Option ℕ) → hs.segment ≡ o → s.segment (at + k) → AllByRecursion (IsHeld s h) (bytes_at (option_map (λ made. record { made = made; at = at }) o) k)
  segment-byte at k None is held = tt
  segment-byte at k (Some made) is held = ((pid, hs, lives, inr (is, held)), tt)

  -- a byte of a place
  place-byte : (at k : ℕ) → ((made : ℕ) → memory_at hs at ≡ Some made → InWindow s at k) → AllByRecursion (IsHeld s h) (bytes_at (place_at hs at) k)
  place-byte at k h1 = grind (arith, nat_tests, segment-byte)

  register-byte : (r i : ℕ) → FromRegister s r i → AllByRecursion (IsHeld s h) (register_bytes pid r i)
  register-byte zero i is = tt
  register-byte (suc r) i is = ((pid, hs, lives, (refl, is)), tt)

  operands-held : (L : Instr → ℕ → Type 0) (instr : Instr) (place : Option Place) → ((k : ℕ) → L instr k → AllByRecursion (IsHeld s h) (bytes_at place k))
      → (operands : List Operand) → AllByRecursion (OperandIn s L instr) operands → AllByRecursion (IsHeld s h) (flat_map (operand_bytes pid instr place) operands)
  operands-held L instr place loads [] are = tt
  operands-held L instr place loads (Left i ∷ operands) are =
      all-append (IsHeld s h) (register_bytes pid (rs1_of instr) i) (flat_map (operand_bytes pid instr place) operands) (register-byte (rs1_of instr) i are.0) (operands-held L instr place loads operands are.1)
  operands-held L instr place loads (Right i ∷ operands) are =
      all-append (IsHeld s h) (register_bytes pid (rs2_of instr) i) (flat_map (operand_bytes pid instr place) operands) (register-byte (rs2_of instr) i are.0) (operands-held L instr place loads operands are.1)
  operands-held L instr place loads (Address i ∷ operands) are =
      all-append (IsHeld s h) (register_bytes pid (rs1_of instr) i) (flat_map (operand_bytes pid instr place) operands) (register-byte (rs1_of instr) i are.0) (operands-held L instr place loads operands are.1)
  operands-held L instr place loads (Loaded k ∷ operands) are =
      all-append (IsHeld s h) (bytes_at place k) (flat_map (operand_bytes pid instr place) operands) (loads k are.0) (operands-held L instr place loads operands are.1)

module _ (table : Table) (s : Scope) (Fit : Instr → Type 0) (L : Instr → ℕ → Type 0) (allows : Allows table s Fit L) (h : Holders) (heard : Hearings) where
  -- of a place that may be nowhere
  accessed-byte : (pid : ℕ) (hs : Holds) → h pid ≡ Some hs → (instr : Instr) (o : Option ℕ) → IsWhole (option_and_then (place_at hs) o) (loaded_len instr) → (k : ℕ) → L instr k → AllByRecursion (IsHeld s h) (bytes_at (option_and_then (place_at hs) o) k)
  accessed-byte pid hs lives instr None whole k is = tt
  accessed-byte pid hs lives instr (Some at) whole k is = place-byte s h pid hs lives at k (λ made memory. allows.loads instr hs at made memory whole k is)

  range-held : (pid : ℕ) (hs : Holds) → h pid ≡ Some hs → (at len : ℕ) → IsWhole (place_of hs at len) len → RangeIsHeld s h (place_of hs at len) len
  range-held pid hs lives at len = by-test (len == 0)
    where
      by-test : (b : Bool) → IsWhole (if b then None else place_at hs at) len → RangeIsHeld s h (if b then None else place_at hs at) len
      by-test true whole k low = tt
      by-test false whole k low = place-byte s h pid hs lives at k (λ made memory. allows.ranges hs at len made memory whole k low)

  abbrev Takes : Inside → Type 0
  Takes i = FitsRun Fit i.transfer → IsPossible h heard i.transfer → IsTaking table s h i.transfer

  runs-take : (pid : ℕ) (instr : Instr) (before : Cpu) (hs : Holds) → h pid ≡ Some hs → Takes (instr_inside pid instr before hs)
  runs-take pid instr before hs lives fit possible i is =
      operands-held s h pid hs lives L instr (option_and_then (place_at hs) (accessed instr before)) (accessed-byte pid hs lives instr (accessed instr before) possible) (table instr i) (allows.operands instr fit i is)

  act-takes : (pid event : ℕ) (e : Record) (before : Cpu) (hs : Holds) (a : Act) → h pid ≡ Some hs → Takes (event_inside pid event e before hs a)
  act-takes pid event e before hs a h1 = grind (arith, nat_tests, range-held)

  record-takes : (pid event : ℕ) (e : Record) (before : Cpu) (hs : Holds) (a : Act) → act_of before e ≡ Some a → with_booted event e h pid ≡ Some hs → Takes (event_inside pid event e before hs a)
  record-takes pid event (entry.Boot name give) before hs a tells lives =
      subst (λ (x : Act). Takes (event_inside pid event (entry.Boot name give) before hs x)) (same_Some (act.Starts give.bytes 0 0) a tells) (λ fit possible k low. absurd (omega (arith, low)))
  record-takes pid event (entry.Signal other signal cut handler) before hs a tells lives = act-takes pid event (entry.Signal other signal cut handler) before hs a lives
  record-takes pid event (entry.Call other number result more) before hs a tells lives = act-takes pid event (entry.Call other number result more) before hs a lives
  record-takes pid event (entry.End other status) before hs a tells lives = act-takes pid event (entry.End other status) before hs a lives
  record-takes pid event _ before hs a tells lives = absurd (none-some a tells)

  pub step-takes : (i : Inside) → IsStep h i → Takes i
  step-takes i (Steps pid instr is) =
      option_map-some (instr_inside pid instr i.before) (h pid) i is (λ hs lives same. subst (λ (x : Inside). Takes x) same (runs-take pid instr i.before hs lives))
  step-takes i (Hears event e is) =
      let came = hears-as (with_booted event e h) event e i.before i is in
      subst (λ (x : Inside). Takes x) came.is (record-takes came.pid event e i.before came.holds came.happened came.tells came.lives)
  step-takes i (Starts pid event e is) = subst (λ (x : Inside). Takes x) (sym is) (λ fit possible. possible.0)
