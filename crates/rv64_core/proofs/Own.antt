-- Where an instruction takes effect, it is the one that stands at pc.
use Rattle.std.proofs.Common.{◌≡◌, ℕ, ℤ, ◌%◌, ◌==◌, List, Bool, true, false, cond, Option, None, Some, option_map, is_some, IsNone, refl, subst, ap, ◌∙◌}
use Rattle.arn_base.specs.Window.{Window, with_bytes, number_at, bytes_at, bytes_of}
use Rattle.arn_base.specs.declared.machine.Cpu.{Cpu}
use Rattle.rv64_isa.specs.Decoded.{decoded}
use Rattle.rv64_isa.specs.declared.instruction.Instr.{Instr}
use Rattle.rv64_isa.specs.declared.instruction.StoreOp.{StoreOp}
use Rattle.rv64_isa.specs.declared.instruction.Instr.TheVariants.{Lui, Auipc, Jal, Jalr, Branch, Load, Store, Imm, Op, Fence, Ecall, Ebreak}
use Rattle.rv64_model.specs.Instruction.{Effect, Next, Call, End, jumps, branches, loads, executed, executed_if, fetched, instruction, jumped, advanced, without_bit_0}
use Rattle.rv64_model.specs.Operands.{address, store_len}
use Rattle.rv64_model.specs.Registers.{register}
use Rattle.rv64_model.specs.Values.{immediate, sum, is_taken, load_len, load_result}
use Rattle.rv64_model.specs.declared.statuses.TheConstants.{MISALIGNED, BAD_ACCESS}
use Rattle.rv64_core.specs.Prospect.{IsPlanned, cpu_after}
use Rattle.rv64_core.specs.declared.outcome.Planned.{Planned}

-- an effect that comes from executing the instruction that it names
abbrev Own : Cpu → List Window → Effect → Type 0
Own cpu ws (Next instr cpu' ws') = executed instr cpu ws ≡ Next instr cpu' ws'
Own cpu ws Call = Unit {0}
Own cpu ws (End status) = Unit {0}

-- an instruction that takes effect under a condition
either : (instr : Instr) (cpu cpu' : Cpu) (ws ws' : List Window) (b : Bool) (status : ℕ) → executed instr cpu ws ≡ cond b (Next instr cpu' ws') (End status) → Own cpu ws (cond b (Next instr cpu' ws') (End status))
either instr cpu cpu' ws ws' true status e = e
either instr cpu cpu' ws ws' false status e = tt

jumps-own : (instr : Instr) (cpu : Cpu) (ws : List Window) (rd target : ℕ) → executed instr cpu ws ≡ jumps instr cpu ws rd target → Own cpu ws (jumps instr cpu ws rd target)
jumps-own instr cpu ws rd target e = either instr cpu (jumped cpu rd target) ws ws (target % 4 == 0) MISALIGNED e

branches-own : (instr : Instr) (cpu : Cpu) (ws : List Window) (taken : Bool) (target : ℕ) → executed instr cpu ws ≡ branches instr cpu ws taken target → Own cpu ws (branches instr cpu ws taken target)
branches-own instr cpu ws true target e = jumps-own instr cpu ws 0 target e
branches-own instr cpu ws false target e = e

loads-own : (instr : Instr) (cpu : Cpu) (ws : List Window) (rd : ℕ) (value : Option ℕ) → executed instr cpu ws ≡ loads instr cpu ws rd value → Own cpu ws (loads instr cpu ws rd value)
loads-own instr cpu ws rd None e = tt
loads-own instr cpu ws rd (Some value) e = e

executed-own : (instr : Instr) (cpu : Cpu) (ws : List Window) → Own cpu ws (executed instr cpu ws)
executed-own (Lui rd imm) cpu ws = refl
executed-own (Auipc rd imm) cpu ws = refl
executed-own (Jal rd imm) cpu ws = jumps-own (Jal rd imm) cpu ws rd (sum cpu.pc (immediate imm)) refl
executed-own (Jalr rd rs1 imm) cpu ws = jumps-own (Jalr rd rs1 imm) cpu ws rd (without_bit_0 (sum (register cpu rs1) (immediate imm))) refl
executed-own (Branch op rs1 rs2 imm) cpu ws = branches-own (Branch op rs1 rs2 imm) cpu ws (is_taken op (register cpu rs1) (register cpu rs2)) (sum cpu.pc (immediate imm)) refl
executed-own (Load op rd rs1 imm) cpu ws = loads-own (Load op rd rs1 imm) cpu ws rd (option_map (load_result op) (number_at ws (address cpu rs1 imm) (load_len op))) refl
executed-own (Store op rs1 rs2 imm) cpu ws =
    either (Store op rs1 rs2 imm) cpu (advanced cpu) ws (with_bytes ws (address cpu rs1 imm) (bytes_of (store_len op) (register cpu rs2)))
    (is_some (bytes_at ws (address cpu rs1 imm) (store_len op))) BAD_ACCESS refl
executed-own (Imm op rd rs1 imm) cpu ws = refl
executed-own (Op op rd rs1 rs2) cpu ws = refl
executed-own (Fence word) cpu ws = refl
executed-own Ecall cpu ws = tt
executed-own Ebreak cpu ws = tt

executed_if-own : (instr : Option Instr) (cpu : Cpu) (ws : List Window) → Own cpu ws (executed_if instr cpu ws)
executed_if-own None cpu ws = tt
executed_if-own (Some instr) cpu ws = executed-own instr cpu ws

fetched-own : (word : Option ℕ) (cpu : Cpu) (ws : List Window) → Own cpu ws (fetched word cpu ws)
fetched-own None cpu ws = tt
fetched-own (Some word) cpu ws = executed_if-own (decoded word) cpu ws

executed_next : (instr : Instr) (cpu cpu' : Cpu) (ws ws' : List Window) → instruction cpu ws ≡ Next instr cpu' ws' → executed instr cpu ws ≡ Next instr cpu' ws'
executed_next instr cpu cpu' ws ws' e = subst (Own cpu ws) e (fetched-own (number_at ws cpu.pc 4) cpu ws)

-- an instruction doesn't store
abbrev pub StoresNot : Instr → Type 0
StoresNot instr = (op : StoreOp) (rs1 rs2 : ℕ) (imm : ℤ) → instr ≡ Store op rs1 rs2 imm → ⊥

-- an effect that leaves the memory as it was
abbrev pub Keeps : List Window → Effect → Type 0
Keeps ws (Next instr cpu ws') = ws' ≡ ws
Keeps ws Call = Unit {0}
Keeps ws (End status) = Unit {0}

keeps-if : (instr : Instr) (cpu : Cpu) (ws : List Window) (b : Bool) (status : ℕ) → Keeps ws (cond b (Next instr cpu ws) (End status))
keeps-if instr cpu ws true status = refl
keeps-if instr cpu ws false status = tt

branches-keep : (instr : Instr) (cpu : Cpu) (ws : List Window) (taken : Bool) (target : ℕ) → Keeps ws (branches instr cpu ws taken target)
branches-keep instr cpu ws true target = keeps-if instr (jumped cpu 0 target) ws (target % 4 == 0) MISALIGNED
branches-keep instr cpu ws false target = refl

loads-keep : (instr : Instr) (cpu : Cpu) (ws : List Window) (rd : ℕ) (value : Option ℕ) → Keeps ws (loads instr cpu ws rd value)
loads-keep instr cpu ws rd None = tt
loads-keep instr cpu ws rd (Some value) = refl

executed-keeps : (instr : Instr) (cpu : Cpu) (ws : List Window) → StoresNot instr → Keeps ws (executed instr cpu ws)
executed-keeps (Lui rd imm) cpu ws isnt = refl
executed-keeps (Auipc rd imm) cpu ws isnt = refl
executed-keeps (Jal rd imm) cpu ws isnt = keeps-if (Jal rd imm) (jumped cpu rd (sum cpu.pc (immediate imm))) ws (sum cpu.pc (immediate imm) % 4 == 0) MISALIGNED
executed-keeps (Jalr rd rs1 imm) cpu ws isnt =
    let target = without_bit_0 (sum (register cpu rs1) (immediate imm)) in
    keeps-if (Jalr rd rs1 imm) (jumped cpu rd target) ws (target % 4 == 0) MISALIGNED
executed-keeps (Branch op rs1 rs2 imm) cpu ws isnt = branches-keep (Branch op rs1 rs2 imm) cpu ws (is_taken op (register cpu rs1) (register cpu rs2)) (sum cpu.pc (immediate imm))
executed-keeps (Load op rd rs1 imm) cpu ws isnt = loads-keep (Load op rd rs1 imm) cpu ws rd (option_map (load_result op) (number_at ws (address cpu rs1 imm) (load_len op)))
executed-keeps (Store op rs1 rs2 imm) cpu ws isnt = absurd (isnt op rs1 rs2 imm refl)
executed-keeps (Imm op rd rs1 imm) cpu ws isnt = refl
executed-keeps (Op op rd rs1 rs2) cpu ws isnt = refl
executed-keeps (Fence word) cpu ws isnt = refl
executed-keeps Ecall cpu ws isnt = tt
executed-keeps Ebreak cpu ws isnt = tt

-- what was planned, and doesn't store, leaves the memory as it was
pub kept : (planned : Planned) (cpu : Cpu) (ws : List Window) → StoresNot planned.instr → IsPlanned planned cpu (instruction cpu ws) → instruction cpu ws ≡ Next planned.instr (cpu_after planned cpu) ws
kept planned cpu ws isnt is =
    let own = executed_next planned.instr cpu (cpu_after planned cpu) ws is.memory is.is_next in
    let same : is.memory ≡ ws = subst (Keeps ws) own (executed-keeps planned.instr cpu ws isnt) in
    is.is_next ∙ ap (Next planned.instr (cpu_after planned cpu)) same

store-next : (instr : Instr) (after cpu' : Cpu) (ws' other : List Window) (b : Bool) (status : ℕ) → cond b (Next instr after ws') (End status) ≡ Next instr cpu' other → (b ≡ true) × (other ≡ ws')
store-next instr after cpu' ws' other true status e = (refl, cc)
store-next instr after cpu' ws' other false status e = absurd (cc e)

-- what was planned, and stores, has a place to store to, and leaves the memory with it
pub stored : (planned : Planned) (cpu : Cpu) (ws : List Window) (op : StoreOp) (rs1 rs2 : ℕ) (imm : ℤ) → planned.instr ≡ Store op rs1 rs2 imm → IsPlanned planned cpu (instruction cpu ws)
    → (is_some (bytes_at ws (address cpu rs1 imm) (store_len op)) ≡ true)
    × (instruction cpu ws ≡ Next planned.instr (cpu_after planned cpu) (with_bytes ws (address cpu rs1 imm) (bytes_of (store_len op) (register cpu rs2))))
stored planned cpu ws op rs1 rs2 imm named is =
    let own = executed_next planned.instr cpu (cpu_after planned cpu) ws is.memory is.is_next in
    let stores = subst (λ (i : Instr). executed i cpu ws ≡ Next i (cpu_after planned cpu) is.memory) named own in
    let both = store-next (Store op rs1 rs2 imm) (advanced cpu) (cpu_after planned cpu) (with_bytes ws (address cpu rs1 imm) (bytes_of (store_len op) (register cpu rs2))) is.memory (is_some (bytes_at ws (address cpu rs1 imm) (store_len op))) BAD_ACCESS stores in
    (both.0, is.is_next ∙ ap (Next planned.instr (cpu_after planned cpu)) both.1)

-- bytes that are there aren't missing
pub not-missing : (bytes : Option (List ℕ)) → is_some bytes ≡ true → IsNone bytes → ⊥
not-missing None there none = cc
not-missing (Some bytes) there none = cc
