-- Windows keep their lengths, whatever an instruction does.
use Rattle.std.proofs.Common.{◌≡◌, ℕ, ◌+◌, ◌≤◌, List, [], ◌∷◌, length, refl, ap, subst, Option, Some, None, unwrap_or, Bool, true, false, if◌then◌else◌, arith, length-take, length-drop, length-append, length-take-le, is_some}
use Rattle.std.proofs.lemmas.Bool.Decides.{nat_tests}
use Rattle.std.proofs.lemmas.Bool.{and_parts, leb-true}
use Rattle.arn_base.specs.Disk.{overwrite}
use Rattle.arn_base.specs.declared.machine.Cpu.{Cpu}
use Rattle.arn_base.specs.Window.{Window, is_whole_in, window_bytes, window_with, bytes_at, with_bytes, bytes_of, number_at}
use Rattle.rv64_isa.specs.declared.instruction.Instr.{Instr}
use Rattle.rv64_isa.specs.Decoded.{decoded}
use Rattle.rv64_model.specs.Instruction.{Effect, Next, jumps, branches, loads, stores, executed, executed_if, fetched, End, advanced}
use Rattle.rv64_model.specs.declared.statuses.TheConstants.{BAD_ACCESS}
use Rattle.acts_model.specs.Bodies.{View}
use Rattle.acts_model.specs.Views.{reach, stands_at}
use Rattle.window_laws.specs.Lengths.{lengths}

overwritten-len : (old : List ℕ) (at : ℕ) (bytes : List ℕ) → at + length bytes ≤ length old → length (overwrite old at bytes) ≡ length old
overwritten-len old at bytes h1 = grind (arith, nat_tests, length-take-le, length-append, length-drop)

whole-len : (w : Window) (at : ℕ) (bytes : List ℕ) → is_whole_in w at (length bytes) ≡ true → length (window_with w at bytes).bytes ≡ length w.bytes
whole-len w at bytes h1 = grind (arith, nat_tests, and_parts, leb-true, overwritten-len)

pub with-lengths : (ws : List Window) (at : ℕ) (bytes : List ℕ) → lengths (with_bytes ws at bytes) ≡ lengths ws
with-lengths [] at bytes = refl
with-lengths (w ∷ ws) at bytes = by_test (is_whole_in w at (length bytes)) (whole-len w at bytes) (with-lengths ws at bytes)
  where
    by_test : (b : Bool) → (b ≡ true → length (window_with w at bytes).bytes ≡ length w.bytes) → lengths (with_bytes ws at bytes) ≡ lengths ws
        → lengths (if b then window_with w at bytes ∷ ws else w ∷ with_bytes ws at bytes) ≡ lengths (w ∷ ws)
    by_test true whole rest = ap (λ (n : ℕ). n ∷ lengths ws) (whole refl)
    by_test false whole rest = ap (λ (ns : List ℕ). length w.bytes ∷ ns) rest

-- what is read has no more bytes than were asked for
pub read-few : (ws : List Window) (at len : ℕ) → length (unwrap_or (bytes_at ws at len) []) ≤ len
read-few [] at len = omega arith
read-few (w ∷ ws) at len = by_test (is_whole_in w at len) (read-few ws at len)
  where
    by_test : (b : Bool) → length (unwrap_or (bytes_at ws at len) []) ≤ len → length (unwrap_or (if b then Some (window_bytes w at len) else bytes_at ws at len) []) ≤ len
    by_test b h1 = grind (arith, nat_tests, length-take)

-- instructions

abbrev Keeps : List Window → Effect → Type 0
Keeps ws (Next instr cpu memory) = lengths memory ≡ lengths ws
Keeps ws _ = Unit {0}

jumps-lengths : (instr : Instr) (cpu : Cpu) (ws : List Window) (rd target : ℕ) → Keeps ws (jumps instr cpu ws rd target)
jumps-lengths instr cpu ws rd target = grind (arith, nat_tests)

branches-lengths : (instr : Instr) (cpu : Cpu) (ws : List Window) (b : Bool) (target : ℕ) → Keeps ws (branches instr cpu ws b target)
branches-lengths instr cpu ws false target = refl
branches-lengths instr cpu ws true target = jumps-lengths instr cpu ws 0 target

loads-lengths : (instr : Instr) (cpu : Cpu) (ws : List Window) (rd : ℕ) (o : Option ℕ) → Keeps ws (loads instr cpu ws rd o)
loads-lengths instr cpu ws rd None = tt
loads-lengths instr cpu ws rd (Some value) = refl

stores-lengths : (instr : Instr) (cpu : Cpu) (ws : List Window) (at len value : ℕ) → Keeps ws (stores instr cpu ws at len value)
stores-lengths instr cpu ws at len value = by_test (is_some (bytes_at ws at len))
  where
    by_test : (b : Bool) → Keeps ws (if b then Next instr (advanced cpu) (with_bytes ws at (bytes_of len value)) else End BAD_ACCESS)
    by_test true = with-lengths ws at (bytes_of len value)
    by_test false = tt

executed-lengths : (instr : Instr) (cpu : Cpu) (ws : List Window) → Keeps ws (executed instr cpu ws)
executed-lengths instr cpu ws = grind (arith, nat_tests, jumps-lengths, branches-lengths, loads-lengths, stores-lengths)

executed_if-lengths : (o : Option Instr) (cpu : Cpu) (ws : List Window) → Keeps ws (executed_if o cpu ws)
executed_if-lengths None cpu ws = tt
executed_if-lengths (Some instr) cpu ws = executed-lengths instr cpu ws

fetched-lengths : (o : Option ℕ) (cpu : Cpu) (ws : List Window) → Keeps ws (fetched o cpu ws)
fetched-lengths None cpu ws = tt
fetched-lengths (Some word) cpu ws = executed_if-lengths (decoded word) cpu ws

pub instr-lengths : (v : View) (instr : Instr) (cpu : Cpu) (memory : List Window) → stands_at v ≡ Next instr cpu memory → lengths memory ≡ lengths (reach v)
instr-lengths v instr cpu memory stands = subst (Keeps (reach v)) stands (fetched-lengths (number_at (reach v) v.body.cpu.pc 4) v.body.cpu (reach v))
