-- Windows keep their lengths, whatever an instruction or an act does.
use Rattle.std.proofs.lemmas.Bool.Decides.{nat_tests}
use Rattle.std.proofs.Common.{◌≡◌, ℕ, suc, ◌+◌, ◌*◌, ◌≤◌, List, [], ◌∷◌, length, ◌∙◌, Option, Some, None, IfSome, All, true, false, ◌&&◌, arith, nat_le, nat_lt, subst, sym, length-drop, length-append, length-take-le}
use Rattle.std.proofs.lemmas.Bool.{and_parts, or_parts, leb-true, ltb-false}
use Rattle.std.proofs.lemmas.List.{length-replicate}
use Rattle.arn_base.specs.Disk.{overwrite}
use Rattle.arn_base.specs.declared.machine.Block.{Block}
use Rattle.arn_base.specs.declared.machine.Cpu.{Cpu}
use Rattle.arn_base.specs.Window.{Window, with_bytes}
use Rattle.rv64_isa.specs.declared.instruction.Instr.{Instr}
use Rattle.rv64_model.specs.Instruction.{Next}
use Rattle.parts_model.specs.declared.limits.TheConstants.{WINDOW_LEN, SEGMENT_LEN, BLOCK_LEN, MOST_BLOCK_BYTES}
use Rattle.parts_model.specs.Blocks.{with_blocks}
use Rattle.parts_model.specs.Image.{Image, fits_window, is_image, read_as_image}
use Rattle.parts_model.specs.Memory.{zeros}
use Rattle.acts_model.specs.Acts.{Act, Receives, Starts, Shares, Leaves, Exits, Faults, Dies, acted, restored}
use Rattle.acts_model.specs.Bodies.{View}
use Rattle.acts_model.specs.Disagreement.{is_outside, isnt_block}
use Rattle.acts_model.specs.Views.{reach, read, with_cpu, with_reach, stands_at, after_instr, among_zeros, window_at_start}
use Rattle.history_model.specs.Broken.{rise_from}
use Rattle.window_laws.specs.Lengths.{KeepsLengths, lengths}

-- of windows with such lengths the first is a private one, and the next a segment
abbrev Sizes : List ℕ → Type 0
Sizes [] = Unit {0}
Sizes (len ∷ []) = len ≡ WINDOW_LEN
Sizes (len ∷ other ∷ more) = (len ≡ WINDOW_LEN) × (other ≡ SEGMENT_LEN)

pub record HasSizes (v : View) : Type 0 where
  pub window : length v.window ≡ WINDOW_LEN
  pub segment : IfSome v.body.segment (λ made. length v.segment ≡ SEGMENT_LEN)

overwritten-len : (old : List ℕ) (at : ℕ) (bytes : List ℕ) → at + length bytes ≤ length old → length (overwrite old at bytes) ≡ length old
overwritten-len old at bytes h1 = grind (arith, nat_tests, length-take-le, length-append, length-drop)

reach-sizes : (v : View) → HasSizes v → Sizes (lengths (reach v))
reach-sizes v h1 = grind (arith, nat_tests)

any-segment : (o : Option ℕ) (bytes : List ℕ) → length bytes ≡ SEGMENT_LEN → IfSome o (λ made. length bytes ≡ SEGMENT_LEN)
any-segment None bytes e = tt
any-segment (Some made) bytes e = e

with_reach-sizes : (ws : List Window) (v : View) → Sizes (lengths ws) → HasSizes v → HasSizes (with_reach ws v)
with_reach-sizes ws v h1 h2 = grind (arith, nat_tests, any-segment)

pub instr-sizes : KeepsLengths → (v : View) (instr : Instr) (cpu : Cpu) (memory : List Window) → HasSizes v → stands_at v ≡ Next instr cpu memory → HasSizes (after_instr cpu memory v)
instr-sizes keeps v instr cpu memory s stands =
    with_reach-sizes memory (with_cpu cpu v) (subst Sizes (sym (keeps.instructions v instr cpu memory stands)) (reach-sizes v s))
    (record { window = s.window; segment = s.segment })

-- acts

-- what a process starts from is an image, and its block isn't too long
abbrev pub StartsWell : View → Act → Type 0
StartsWell v (Starts file block len) = (is_image file ≡ true) × (isnt_block v block len ≡ false)
StartsWell v act = Unit {0}

image-fits : (file : List ℕ) → is_image file ≡ true → fits_window (read_as_image file) ≡ true
image-fits file h1 = grind (arith, nat_tests, and_parts)

among-len : (len offset : ℕ) (bytes : List ℕ) → offset + length bytes ≤ len → length (among_zeros len offset bytes) ≡ len
among-len len offset bytes h1 = grind (arith, nat_tests, length-replicate, length-append)

start-len : (image : Image) (block : List ℕ) → fits_window image ≡ true → length block ≤ MOST_BLOCK_BYTES → length (window_at_start image block) ≡ WINDOW_LEN
start-len image block h1 h2 = grind (arith, nat_tests, and_parts, leb-true, among-len, length-take-le, length-append)

block-few : KeepsLengths → (v : View) (block len : ℕ) → isnt_block v block len ≡ false → length (read v block len) ≤ MOST_BLOCK_BYTES
block-few keeps v block len h1 =
    let l = ltb-false MOST_BLOCK_BYTES len (or_parts (nat_lt MOST_BLOCK_BYTES len) (is_outside v block len) h1).0 in
    let r = keeps.reads (reach v) block len in
    omega arith

restored-sizes : (o : Option Cpu) (v : View) → HasSizes v → HasSizes (restored o v)
restored-sizes None v s = s
restored-sizes (Some cpu) v s = record { window = s.window; segment = s.segment }

pub zeros-len : (n : ℕ) → length (zeros n) ≡ n
unfolding zeros
zeros-len n = length-replicate {A = ℕ} n 0

pub acted-sizes : KeepsLengths → (event : ℕ) (act : Act) (v : View) → StartsWell v act → HasSizes v → IfSome (acted event act v) HasSizes
acted-sizes keeps event (Receives at bytes result) v h s = grind (arith, nat_tests, with_reach-sizes (with_bytes (reach v) at bytes) v (subst Sizes (sym (keeps.writes (reach v) at bytes)) (reach-sizes v s)) s)
acted-sizes keeps event (Starts file block block_len) v h s = grind (arith, nat_tests, start-len (read_as_image file) (read v block block_len) (image-fits file h.0) (block-few keeps v block block_len h.1))
acted-sizes keeps event Shares v h s = record { window = s.window; segment = zeros-len SEGMENT_LEN }
acted-sizes keeps event Leaves v h s = restored-sizes v.body.slot v s
acted-sizes keeps event Exits v h s = tt
acted-sizes keeps event (Faults status) v h s = tt
acted-sizes keeps event (Dies signal cut) v h s = tt
acted-sizes keeps event _ v h s = record { window = s.window; segment = s.segment }

-- how a child begins

pub blocks-len : (blocks : List Block) (least : ℕ) (bytes : List ℕ) → rise_from least blocks ≡ true → All (λ (block : Block). length block.bytes ≡ BLOCK_LEN) blocks → length bytes ≡ WINDOW_LEN → length (with_blocks blocks bytes) ≡ WINDOW_LEN
unfolding with_blocks
blocks-len [] least bytes rise whole h = h
blocks-len (block ∷ blocks) least bytes rise whole h =
    let a = and_parts (nat_le least block.number) (nat_le (BLOCK_LEN * (block.number + 1)) WINDOW_LEN && rise_from (block.number + 1) blocks) rise in
    let b = and_parts (nat_le (BLOCK_LEN * (block.number + 1)) WINDOW_LEN) (rise_from (block.number + 1) blocks) a.1 in
    let fits = leb-true (BLOCK_LEN * (block.number + 1)) WINDOW_LEN b.0 in
    let len : length block.bytes ≡ BLOCK_LEN = whole 0 block (omega arith) in
    blocks-len blocks (block.number + 1) (overwrite bytes (BLOCK_LEN * block.number) block.bytes) b.1 (λ k d l. whole (suc k) d (omega arith))
    (overwritten-len bytes (BLOCK_LEN * block.number) block.bytes (omega arith) ∙ h)
