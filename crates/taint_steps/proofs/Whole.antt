-- Sets that are moved whole between a register and memory.
use Rattle.std.proofs.Common.{◌≡◌, ℕ, zero, suc, ◌-◌, ◌<◌, ◌≤◌, ◌==◌, ◌&&◌, Bool, true, false, nat_lt, if◌then◌else◌, List, [], ◌∷◌, ◌++◌, length, take, replicate, slice_index, Option, None, Some, refl, sym, ap, subst, ◌∙◌, arith, length-append}
use Rattle.std.proofs.lemmas.Bool.{lt-ltb, le-ltb, ltb-true, ltb-false, eqb-true}
use Rattle.std.proofs.lemmas.List.{get_or_append_left, get_or-append_right, get_or-take, length-replicate, length-take-le}
use Rattle.std.proofs.Math.Seq.{take-append_seam}
use Rattle.arn_base.specs.declared.machine.Cpu.{Cpu}
use Rattle.rv64_isa.specs.declared.instruction.Instr.{Instr}
use Rattle.rv64_isa.specs.declared.instruction.Instr.TheVariants.{Load, Store}
use Rattle.rv64_model.specs.declared.linkage.Linkage.{Linkage}
use Rattle.rv64_model.specs.Carries.{operands}
use Rattle.rv64_model.specs.Operands.{accessed, rd_of, rs1_of, rs2_of, stored_len}
use Rattle.taint_spans.specs.Numbered.{IsSet, Numbered}
use Rattle.taint_flow.specs.Flow.{Moves}
use Rattle.taint_flow.specs.Gathered.{AreNumbers, number_of}
use Rattle.taint_flow.specs.Moving.{MovesLoaded, MovesStored}
use Rattle.taint_flow.specs.Names.{loaded_len}
use Rattle.taint_flow.specs.Results.{AreResults}
use Rattle.taint_members.specs.Access.{AreFirst, Memories, PutsRead, Writes, number_at}
use Rattle.taint_members.specs.declared.member.MemberSets.{MemberSets}
use Rattle.taint_pages.specs.Rows.{byte_in}
use Rattle.taint_steps.specs.Running.{Runs, Stores, WritesRegister}
use Rattle.taint_steps.specs.Taking.{AreSetsAt, AreSetsIn, IsRead, IsRegister, no_bytes}
use Rattle.taint_steps.proofs.NothingLoaded.{nothing, read-none}
use Rattle.taint_steps.proofs.NothingStored.{stores-none}

-- eight numbers, by their places
abbrev pub eight : (ℕ → ℕ) → List ℕ
eight f = f 0 ∷ f 1 ∷ f 2 ∷ f 3 ∷ f 4 ∷ f 5 ∷ f 6 ∷ f 7 ∷ []

eight-at : (f : ℕ → ℕ) (i : ℕ) → i < 8 → slice_index (eight f) i ≡ f i
eight-at f zero h = refl
eight-at f (suc zero) h = refl
eight-at f (suc (suc zero)) h = refl
eight-at f (suc (suc (suc zero))) h = refl
eight-at f (suc (suc (suc (suc zero)))) h = refl
eight-at f (suc (suc (suc (suc (suc zero))))) h = refl
eight-at f (suc (suc (suc (suc (suc (suc zero)))))) h = refl
eight-at f (suc (suc (suc (suc (suc (suc (suc zero))))))) h = refl
eight-at f (suc (suc (suc (suc (suc (suc (suc (suc i)))))))) h = absurd (omega arith)

eight-behind : (f : ℕ → ℕ) (i : ℕ) → 8 ≤ i → slice_index (eight f) i ≡ 0
eight-behind f (suc (suc (suc (suc (suc (suc (suc (suc i)))))))) h = refl
eight-behind f i h = absurd (omega arith)

zero-at : (n i : ℕ) → slice_index (replicate n 0) i ≡ 0
zero-at zero i = refl
zero-at (suc n) zero = refl
zero-at (suc n) (suc i) = zero-at n i

-- a load stores nothing
loads-stored : (linkage : Linkage) (instr : Instr) → MovesLoaded linkage instr → stored_len instr ≡ 0
loads-stored linkage (Load op rd rs1 imm) is = refl
loads-stored linkage other is = absurd is

module _ (sets : Numbered) (linkage : Linkage) (instr : Instr) (before : Cpu) (m n : MemberSets) (memories : Memories) (at reg : ℕ) (first second : List ℕ)
    (empty : IsSet sets 0) (loads : MovesLoaded linkage instr)
    (results : (first second loaded numbers : List ℕ) → AreNumbers sets loaded → Moves loaded (loaded_len instr) numbers → AreResults sets sets (number_of first second loaded) (operands linkage instr) numbers)
    (few : loaded_len instr ≤ 8) (is_at : accessed instr before ≡ Some at) (is_reg : reg ≡ rd_of instr) (above : 0 < reg)
    (puts : PutsRead m memories at (loaded_len instr) reg m.registers n.registers) (others : n ≡ record m { registers = n.registers })
    (of_first : IsRegister m.registers (rs1_of instr) first) (of_second : IsRegister m.registers (rs2_of instr) second) (raw : AreSetsAt sets m memories) where
  abbrev number : ℕ → ℕ
  number i = if nat_lt i (loaded_len instr) then number_at m memories at i else 0

  abbrev numbers : List ℕ
  numbers = eight number

  number-in : (i : ℕ) → i < loaded_len instr → number i ≡ number_at m memories at i
  number-in i h = ap (λ (t : Bool). if t then number_at m memories at i else 0) (lt-ltb i (loaded_len instr) h)

  number-behind : (i : ℕ) → loaded_len instr ≤ i → number i ≡ 0
  number-behind i h = ap (λ (t : Bool). if t then number_at m memories at i else 0) (le-ltb i (loaded_len instr) h)

  set : (i : ℕ) → IsSet sets (number i)
  set i = by_test (nat_lt i (loaded_len instr)) refl
    where
      by_test : (t : Bool) → nat_lt i (loaded_len instr) ≡ t → IsSet sets (number i)
      by_test true e =
          let h = ltb-true i (loaded_len instr) e in
          subst (IsSet sets) (sym (number-in i h)) (raw at i)
      by_test false e = subst (IsSet sets) (sym (number-behind i (ltb-false i (loaded_len instr) e))) empty

  index : (i : ℕ) → i < 8 → slice_index numbers i ≡ number i
  index i h = eight-at number i h

  zeros : (i : ℕ) → loaded_len instr ≤ i → slice_index numbers i ≡ 0
  zeros i h = by_test (nat_lt i 8) refl
    where
      by_test : (t : Bool) → nat_lt i 8 ≡ t → slice_index numbers i ≡ 0
      by_test true e = index i (ltb-true i 8 e) ∙ number-behind i h
      by_test false e = eight-behind number i (ltb-false i 8 e)

  is_read : IsRead (accessed instr before) (loaded_len instr) m memories numbers
  is_read = subst (λ (o : Option ℕ). IsRead o (loaded_len instr) m memories numbers) (sym is_at) (record {
    len = refl;
    bytes = λ k h. let within : k < 8 = omega (arith, h, few) in index k within ∙ number-in k h;
    zeros = zeros;
  })

  are_numbers : AreNumbers sets numbers
  are_numbers = record { len = refl; set = λ i h. subst (IsSet sets) (sym (index i h)) (set i) }

  moves : Moves numbers (loaded_len instr) numbers
  moves = record { len = refl; same = λ i h inside. refl; none = λ i h behind. zeros i behind }

  register : WritesRegister (rd_of instr) numbers m.registers n.registers
  register r i h = puts r i h ∙ by_test (r == reg) refl ∙ ap (λ (k : ℕ). if (r == k) && nat_lt 0 r then slice_index numbers i else byte_in m.registers r i) is_reg
    where
      by_test : (t : Bool) → (r == reg) ≡ t → (if r == reg then number i else byte_in m.registers r i) ≡ (if (r == reg) && nat_lt 0 r then slice_index numbers i else byte_in m.registers r i)
      by_test true e =
          let is : r ≡ reg = eqb-true r reg e in
          let some : 0 < r = omega (arith, is, above) in
          rw (e, lt-ltb 0 r some) (sym (index i h))
      by_test false e = rw e refl

  pub loaded-runs : Runs linkage instr before m n memories memories sets sets
  loaded-runs = record {
    numbers = numbers;
    takes = record {
      first = first;
      second = second;
      loaded = numbers;
      of_first = of_first;
      of_second = of_second;
      read = is_read;
      results = results first second numbers numbers are_numbers moves;
    };
    register = register;
    memory = stores-none (accessed instr before) (stored_len instr) numbers m memories (loads-stored linkage instr loads);
    others = others;
  }

-- a register's numbers are those of sets
register-len : (row : List ℕ) (reg : ℕ) (numbers : List ℕ) → IsRegister row reg numbers → length numbers ≡ 8
register-len row zero _ is = is.len
register-len row (suc reg) _ is = is.1.len

register-set : (sets : Numbered) (row : List ℕ) (reg : ℕ) (numbers : List ℕ) → IsSet sets 0 → AreSetsIn sets row → IsRegister row reg numbers → (i : ℕ) → i < 8 → IsSet sets (slice_index numbers i)
register-set sets row zero numbers empty held is i h = subst (IsSet sets) (sym (is.bytes i h)) empty
register-set sets row (suc reg) numbers empty held is i h = subst (IsSet sets) (sym (is.1.bytes i h)) (held (suc reg) i (omega arith) is.0 h)

pub register-numbers : (sets : Numbered) (row : List ℕ) (reg : ℕ) (numbers : List ℕ) → IsSet sets 0 → AreSetsIn sets row → IsRegister row reg numbers → AreNumbers sets numbers
register-numbers sets row reg numbers empty held is = record { len = register-len row reg numbers is; set = register-set sets row reg numbers empty held is }

-- so are those of bytes that are loaded
first-numbers : (sets : Numbered) (count : ℕ) (number : ℕ → ℕ) (numbers : List ℕ) → IsSet sets 0 → ((k : ℕ) → IsSet sets (number k)) → AreFirst count number numbers → AreNumbers sets numbers
first-numbers sets count number numbers empty held are = record { len = are.len; set = λ k below. by_test k (nat_lt k count) refl } where
  by_test : (k : ℕ) (t : Bool) → nat_lt k count ≡ t → IsSet sets (slice_index numbers k)
  by_test k true e = subst (IsSet sets) (sym (are.bytes k (ltb-true k count e))) (held k)
  by_test k false e = subst (IsSet sets) (sym (are.zeros k (ltb-false k count e))) empty

pub read-numbers : (sets : Numbered) (at : Option ℕ) (len : ℕ) (m : MemberSets) (memories : Memories) (numbers : List ℕ) → IsSet sets 0 → AreSetsAt sets m memories → IsRead at len m memories numbers → AreNumbers sets numbers
read-numbers sets None len m memories numbers empty held read = first-numbers sets 0 no_bytes numbers empty (λ k. empty) read
read-numbers sets (Some at) len m memories numbers empty held read = first-numbers sets len (number_at m memories at) numbers empty (held at) read

-- a store loads nothing, and writes no register
stores-loaded : (linkage : Linkage) (instr : Instr) → MovesStored linkage instr → loaded_len instr ≡ 0
stores-loaded linkage (Store op rs1 rs2 imm) is = refl
stores-loaded linkage other is = absurd is

stores-rd : (linkage : Linkage) (instr : Instr) → MovesStored linkage instr → rd_of instr ≡ 0
stores-rd linkage (Store op rs1 rs2 imm) is = refl
stores-rd linkage other is = absurd is

writes-none : (all row : List ℕ) → WritesRegister 0 all row row
writes-none all row zero i h = refl
writes-none all row (suc r) i h = by_test (suc r == 0) refl
  where
    by_test : (t : Bool) → (suc r == 0) ≡ t → byte_in row (suc r) i ≡ (if (suc r == 0) && nat_lt 0 (suc r) then slice_index all i else byte_in row (suc r) i)
    by_test true e = let is = eqb-true (suc r) 0 e in absurd (omega (arith, is))
    by_test false e = rw e refl

module _ (sets : Numbered) (linkage : Linkage) (instr : Instr) (before : Cpu) (m : MemberSets) (memories written : Memories) (at : ℕ) (first second : List ℕ)
    (empty : IsSet sets 0) (held : AreSetsIn sets m.registers) (stores : MovesStored linkage instr)
    (results : (first second loaded numbers : List ℕ) → AreNumbers sets second → Moves second (stored_len instr) numbers → AreResults sets sets (number_of first second loaded) (operands linkage instr) numbers)
    (few : stored_len instr ≤ 8) (is_at : accessed instr before ≡ Some at)
    (writes : Writes at (take (stored_len instr) second) m memories written)
    (of_first : IsRegister m.registers (rs1_of instr) first) (of_second : IsRegister m.registers (rs2_of instr) second) where
  abbrev len : ℕ
  len = stored_len instr

  abbrev taken : List ℕ
  taken = take len second

  abbrev filled : List ℕ
  filled = taken ++ replicate (8 - len) 0

  taken-len : length taken ≡ len
  taken-len = length-take-le len second (omega (arith, few, register-len m.registers (rs2_of instr) second of_second))

  filled-len : length filled ≡ 8
  filled-len = length-append taken (replicate (8 - len) 0) ∙ (let zeros = length-replicate {A = ℕ} (8 - len) 0 in omega (arith, taken-len, zeros, few))

  filled-low : (i : ℕ) → i < len → slice_index filled i ≡ slice_index taken i
  filled-low i h = get_or_append_left taken (replicate (8 - len) 0) 0 i (subst (λ (k : ℕ). i < k) (sym taken-len) h)

  filled-high : (i : ℕ) → len ≤ i → slice_index filled i ≡ 0
  filled-high i h = get_or-append_right taken (replicate (8 - len) 0) len i 0 taken-len h ∙ zero-at (8 - len) (i - len)

  filled-take : take len filled ≡ taken
  filled-take = ap (λ (k : ℕ). take k filled) (sym taken-len) ∙ take-append_seam taken (replicate (8 - len) 0)

  moving : Moves second len filled
  moving = record {
    len = filled-len;
    same = λ i h inside. filled-low i inside ∙ get_or-take len second i 0 inside;
    none = λ i h behind. filled-high i behind;
  }

  memory : Stores (accessed instr before) (take len filled) m memories written
  memory = subst (λ (o : Option ℕ). Stores o (take len filled) m memories written) (sym is_at) (subst (λ (l : List ℕ). Writes at l m memories written) (sym filled-take) writes)

  pub stored-runs : Runs linkage instr before m m memories written sets sets
  stored-runs = record {
    numbers = filled;
    takes = record {
      first = first;
      second = second;
      loaded = nothing;
      of_first = of_first;
      of_second = of_second;
      read = read-none (accessed instr before) (loaded_len instr) m memories (stores-loaded linkage instr stores);
      results = results first second nothing filled (record { len = register-len m.registers (rs2_of instr) second of_second; set = λ i h. register-set sets m.registers (rs2_of instr) second empty held of_second i h }) moving;
    };
    register = subst (λ (rd : ℕ). WritesRegister rd filled m.registers m.registers) (sym (stores-rd linkage instr stores)) (writes-none filled m.registers);
    memory = memory;
    others = refl;
  }
