-- Which bytes acts and instructions move, at literal values.
use Rattle.std.proofs.Common.{◌≡◌, ℕ, List, [], ◌∷◌, ◌++◌, Option, Some, None, pos, negsuc, codes, true, refl}
use Rattle.arn_base.specs.declared.machine.Cpu.{Cpu}
use Rattle.rv64_isa.specs.declared.instruction.Instr.TheVariants.{Load, Store, Imm}
use Rattle.rv64_isa.specs.declared.instruction.LoadOp.TheVariants.{Lb}
use Rattle.rv64_isa.specs.declared.instruction.StoreOp.TheVariants.{Sd}
use Rattle.rv64_isa.specs.declared.instruction.ImmOp.TheVariants.{Addi}
use Rattle.rv64_model.specs.Registers.{with_register}
use Rattle.acts_model.specs.Acts as act
use Rattle.acts_model.specs.Moved.{ConsoleByte, PipeByte, FileByte, StatusByte, byte_of, place_in}
use Rattle.acts_model.specs.Transfers.{Holds, Place, place_at, place_of, Starts, Runs, Returns, Receives, Gives, Forks, Founds, Shares, Delivers, Leaves, Exits, Faults, Dies, transfer, instr_transfer}
use Rattle.acts_model.specs.Views.{cpu_at}

-- the window that event 4 made, and the segment that event 6 made, or none
both : Holds
both = record { window = 4; segment = Some 6 }

alone : Holds
alone = record { window = 4; segment = None }

-- an address in a memory
place : ℕ → ℕ → Option Place
place made at = Some (record { made = made; at = at })

-- the private window is 0x10000 to 0x4ffff
places :
    (place_at both 0x10000 ≡ place 4 0x10000)
    × (place_at both 0x4ffff ≡ place 4 0x4ffff)
    × (place_at both 0x80000000 ≡ place 6 0x80000000)
    × (place_at alone 0x80000000 ≡ None)
    -- no bytes have no place, wherever they would be
    × (place_of both 0x10000 0 ≡ None)
unfolding both place alone
places = (refl, refl, refl, refl, refl)

-- acts of process 2 at event 9
moves-bytes :
    (transfer 2 9 both (act.Returns 3) ≡ Returns 2)
    × (transfer 2 9 both (act.Receives 0x10010 (7 ∷ 8 ∷ []) 2) ≡ Receives 2 (place 4 0x10010) 2)
    × (transfer 2 9 both (act.Receives 0x80000004 (7 ∷ 8 ∷ []) 2) ≡ Receives 2 (place 6 0x80000004) 2)
    × (transfer 2 9 both (act.Receives 0x10010 [] 0) ≡ Receives 2 None 0)
    × (transfer 2 9 both (act.Gives 0x80000004 3 3) ≡ Gives 2 (place 6 0x80000004) 3)
    × (transfer 2 9 both (act.Gives 0x80000004 0 0) ≡ Gives 2 None 0)
unfolding both place
moves-bytes = (refl, refl, refl, refl, refl, refl)

-- an image of one word at 0x10100, which becomes the memory of event 9, with a block of five bytes or none
image : List ℕ
image = codes "ARNIMG01" ++ (0 ∷ 1 ∷ 1 ∷ 0 ∷ 0 ∷ 0 ∷ 0 ∷ 0 ∷ 0 ∷ 1 ∷ 1 ∷ 0 ∷ 0 ∷ 0 ∷ 0 ∷ 0 ∷ 0x73 ∷ 0 ∷ 0 ∷ 0 ∷ [])

moves-others :
    (transfer 2 9 both (act.Starts image 0x80000010 5) ≡ Starts 2 9 0x10100 28 (place 6 0x80000010) 5)
    × (transfer 2 9 both (act.Starts image 0 0) ≡ Starts 2 9 0x10100 28 None 0)
    -- a child's window is a copy of its parent's, as the memory of event 9
    × (transfer 2 9 both (act.Forks 5) ≡ Forks 2 5 4 9)
    × (transfer 2 9 alone (act.Founds 5) ≡ Founds 2 5 4 9)
    × (transfer 2 9 alone act.Shares ≡ Shares 2 9)
    × (transfer 2 9 both act.Leaves ≡ Leaves 2)
    × (transfer 2 9 both (act.Delivers 3 0x10008 true) ≡ Delivers 2 true)
    × (transfer 2 9 both act.Exits ≡ Exits 2)
    × (transfer 2 9 both (act.Faults 139) ≡ Faults 2)
    × (transfer 2 9 both (act.Dies 3 true) ≡ Dies 2)
unfolding both place image alone
moves-others = (refl, refl, refl, refl, refl, refl, refl, refl, refl, refl)

-- a load and a store have the place of their address, x6 and a distance; other instructions have none
cpu : ℕ → Cpu
cpu address = with_register (cpu_at 0x10000) 6 address

moves-instructions :
    (instr_transfer 2 (cpu 0x80000010) both (Load Lb 5 6 (negsuc 3)) ≡ Runs 2 (Load Lb 5 6 (negsuc 3)) (place 6 0x8000000c))
    × (instr_transfer 2 (cpu 0x10010) both (Store Sd 6 5 (pos 8)) ≡ Runs 2 (Store Sd 6 5 (pos 8)) (place 4 0x10018))
    × (instr_transfer 2 (cpu 0x10010) both (Imm Addi 5 6 (pos 8)) ≡ Runs 2 (Imm Addi 5 6 (pos 8)) None)
unfolding both place cpu
moves-instructions = (refl, refl, refl)

-- bytes that the kernel holds: byte 2 of three from position 5 on is at 7, and there is no byte 3
kernel-places :
    (byte_of (record { first = PipeByte 1 5; len = 3 }) 2 ≡ Some (PipeByte 1 7))
    × (byte_of (record { first = PipeByte 1 5; len = 3 }) 3 ≡ None)
    × (place_in (record { first = PipeByte 1 5; len = 3 }) (PipeByte 1 7) ≡ Some 2)
    × (place_in (record { first = PipeByte 1 5; len = 3 }) (PipeByte 1 4) ≡ None)
    × (place_in (record { first = PipeByte 1 5; len = 3 }) (PipeByte 2 7) ≡ None)
    × (place_in (record { first = FileByte 1 5; len = 3 }) (FileByte 1 5) ≡ Some 0)
    × (place_in (record { first = StatusByte 3; len = 1 }) (StatusByte 3) ≡ Some 0)
    × (place_in (record { first = ConsoleByte 5; len = 3 }) (FileByte 0 5) ≡ None)
kernel-places = (refl, refl, refl, refl, refl, refl, refl, refl)
