-- What a process sees is no more than a window and a segment have room for, whatever an instruction or an act does.
use Rattle.std.proofs.Common.{◌≡◌, ℕ, suc, ◌+◌, ◌-◌, ◌*◌, ◌≤◌, List, [], ◌∷◌, ◌++◌, length, take, drop, Option, Some, None, IfSome, All, true, false, ◌&&◌, arith, nat_le, nat_lt, subst, sym, length-take, length-drop, length-append}
use Rattle.std.proofs.lemmas.Bool.Decides.{nat_tests}
use Rattle.std.proofs.lemmas.Bool.{and_parts, or_parts, leb-true, ltb-false}
use Rattle.std.proofs.lemmas.List.{length-replicate}
use Rattle.arn_base.specs.Disk.{overwrite}
use Rattle.arn_base.specs.declared.machine.Block.{Block}
use Rattle.arn_base.specs.declared.machine.Cpu.{Cpu}
use Rattle.arn_base.specs.Window.{Window, with_bytes}
use Rattle.rv64_isa.specs.declared.instruction.Instr.{Instr}
use Rattle.rv64_model.specs.Instruction.{Next}
use Rattle.parts_model.specs.declared.limits.TheConstants.{WINDOW_START, WINDOW_LEN, SEGMENT_LEN, BLOCK_LEN, MOST_BLOCK_BYTES}
use Rattle.parts_model.specs.Blocks.{with_blocks}
use Rattle.parts_model.specs.Image.{Image, read_as_image}
use Rattle.parts_model.specs.Memory.{zeros}
use Rattle.acts_model.specs.Acts.{Act, Returns, Receives, Gives, Starts, Forks, Founds, Shares, Leaves, Delivers, Exits, Faults, Dies, acted, restored}
use Rattle.acts_model.specs.Bodies.{View}
use Rattle.acts_model.specs.Disagreement.{is_outside, isnt_block}
use Rattle.acts_model.specs.Views.{reach, read, with_cpu, with_reach, stands_at, after_instr, among_zeros, block_at, window_at_start}
use Rattle.history_model.specs.Broken.{rise_from}
use Rattle.window_laws.specs.Lengths.{KeepsLengths, lengths}

-- of windows with such lengths the first is a private one, and the next a segment
abbrev Rooms : List ℕ → Type 0
Rooms [] = Unit {0}
Rooms (len ∷ []) = len ≤ WINDOW_LEN
Rooms (len ∷ other ∷ more) = (len ≤ WINDOW_LEN) × (other ≤ SEGMENT_LEN)

pub record HasRooms (v : View) : Type 0 where
  pub window : length v.window ≤ WINDOW_LEN
  pub segment : length v.segment ≤ SEGMENT_LEN

reach-rooms : (v : View) → HasRooms v → Rooms (lengths (reach v))
reach-rooms v h1 = grind (arith, nat_tests)

with_reach-rooms : (ws : List Window) (v : View) → Rooms (lengths ws) → HasRooms v → HasRooms (with_reach ws v)
with_reach-rooms ws v h1 h2 = grind (arith, nat_tests)

pub instr-rooms : KeepsLengths → (v : View) (instr : Instr) (cpu : Cpu) (memory : List Window) → HasRooms v → stands_at v ≡ Next instr cpu memory → HasRooms (after_instr cpu memory v)
instr-rooms keeps v instr cpu memory s stands =
    with_reach-rooms memory (with_cpu cpu v) (subst Rooms (sym (keeps.instructions v instr cpu memory stands)) (reach-rooms v s))
    (record { window = s.window; segment = s.segment })

-- acts

-- the block of what starts isn't too long, and is there
abbrev pub StartsWell : View → Act → Type 0
StartsWell v (Starts file block len) = isnt_block v block len ≡ false
StartsWell v act = Unit {0}

start-len : (image : Image) (block : List ℕ) → length block ≤ MOST_BLOCK_BYTES → length (window_at_start image block) ≤ WINDOW_LEN
start-len image block l =
    let zeroed = among_zeros WINDOW_LEN (image.load - WINDOW_START) image.body in
    let b = length-take (block_at (length block) - WINDOW_START) zeroed in
    let c = length-append (take (block_at (length block) - WINDOW_START) zeroed) block in
    omega arith

block-few : KeepsLengths → (v : View) (block len : ℕ) → isnt_block v block len ≡ false → length (read v block len) ≤ MOST_BLOCK_BYTES
block-few keeps v block len h1 =
    let l = ltb-false MOST_BLOCK_BYTES len (or_parts (nat_lt MOST_BLOCK_BYTES len) (is_outside v block len) h1).0 in
    let r = keeps.reads (reach v) block len in
    omega arith

restored-rooms : (o : Option Cpu) (v : View) → HasRooms v → HasRooms (restored o v)
restored-rooms None v s = s
restored-rooms (Some cpu) v s = record { window = s.window; segment = s.segment }

pub zeros-len : (n : ℕ) → length (zeros n) ≡ n
unfolding zeros
zeros-len n = length-replicate {A = ℕ} n 0

pub acted-rooms : KeepsLengths → (event : ℕ) (act : Act) (v : View) → StartsWell v act → HasRooms v → IfSome (acted event act v) HasRooms
acted-rooms keeps event (Returns result) v h s = record { window = s.window; segment = s.segment }
acted-rooms keeps event (Receives at bytes result) v h s =
    let r = with_reach-rooms (with_bytes (reach v) at bytes) v (subst Rooms (sym (keeps.writes (reach v) at bytes)) (reach-rooms v s)) s in
    record { window = r.window; segment = r.segment }
acted-rooms keeps event (Gives at len result) v h s = record { window = s.window; segment = s.segment }
acted-rooms keeps event (Starts file block block_len) v h s =
    record { window = start-len (read_as_image file) (read v block block_len) (block-few keeps v block block_len h); segment = omega arith }
acted-rooms keeps event (Forks child) v h s = record { window = s.window; segment = s.segment }
acted-rooms keeps event (Founds child) v h s = record { window = s.window; segment = s.segment }
acted-rooms keeps event Shares v h s = record { window = s.window; segment = (let e = zeros-len SEGMENT_LEN in omega arith) }
acted-rooms keeps event Leaves v h s = restored-rooms v.body.slot v s
acted-rooms keeps event (Delivers signal handler cut) v h s = record { window = s.window; segment = s.segment }
acted-rooms keeps event Exits v h s = tt
acted-rooms keeps event (Faults status) v h s = tt
acted-rooms keeps event (Dies signal cut) v h s = tt

-- how a child begins

overwritten-room : (old : List ℕ) (at : ℕ) (bytes : List ℕ) → at + length bytes ≤ WINDOW_LEN → length old ≤ WINDOW_LEN → length (overwrite old at bytes) ≤ WINDOW_LEN
overwritten-room old at bytes l h =
    let a = length-take at old in
    let b = length-append (take at old) bytes in
    let c = length-append (take at old ++ bytes) (drop (at + length bytes) old) in
    let d = length-drop (at + length bytes) old in
    omega arith

pub blocks-room : (blocks : List Block) (least : ℕ) (bytes : List ℕ) → rise_from least blocks ≡ true → All (λ (block : Block). length block.bytes ≡ BLOCK_LEN) blocks → length bytes ≤ WINDOW_LEN → length (with_blocks blocks bytes) ≤ WINDOW_LEN
unfolding with_blocks
blocks-room [] least bytes rise whole h = h
blocks-room (block ∷ blocks) least bytes rise whole h =
    let a = and_parts (nat_le least block.number) (nat_le (BLOCK_LEN * (block.number + 1)) WINDOW_LEN && rise_from (block.number + 1) blocks) rise in
    let b = and_parts (nat_le (BLOCK_LEN * (block.number + 1)) WINDOW_LEN) (rise_from (block.number + 1) blocks) a.1 in
    let fits = leb-true (BLOCK_LEN * (block.number + 1)) WINDOW_LEN b.0 in
    let len : length block.bytes ≡ BLOCK_LEN = whole 0 block (omega arith) in
    blocks-room blocks (block.number + 1) (overwrite bytes (BLOCK_LEN * block.number) block.bytes) b.1 (λ k d l. whole (suc k) d (omega arith)) (overwritten-room bytes (BLOCK_LEN * block.number) block.bytes (omega arith) h)
