-- A private window keeps its length, whatever an instruction or an act does.
use Rattle.std.proofs.Common.{◌≡◌, ℕ, ◌+◌, ◌≤◌, List, [], ◌∷◌, length, nat_lt, subst, sym, Option, Some, None, IfSome, true, false, arith, length-append, length-take-le}
use Rattle.std.proofs.lemmas.Bool.Decides.{nat_tests}
use Rattle.std.proofs.lemmas.Bool.{and_parts, or_parts, leb-true, ltb-false}
use Rattle.std.proofs.lemmas.List.{length-replicate}
use Rattle.arn_base.specs.declared.machine.Cpu.{Cpu}
use Rattle.arn_base.specs.Window.{Window, with_bytes}
use Rattle.rv64_isa.specs.declared.instruction.Instr.{Instr}
use Rattle.rv64_model.specs.Instruction.{Next}
use Rattle.parts_model.specs.declared.limits.TheConstants.{WINDOW_LEN, MOST_BLOCK_BYTES}
use Rattle.parts_model.specs.Image.{Image, fits_window, is_image, read_as_image}
use Rattle.acts_model.specs.Acts.{Act, Receives, Starts, Leaves, Exits, Faults, Dies, acted, restored}
use Rattle.acts_model.specs.Bodies.{View}
use Rattle.acts_model.specs.Disagreement.{is_outside, isnt_block}
use Rattle.acts_model.specs.Views.{reach, read, with_cpu, with_reach, stands_at, after_instr, among_zeros, window_at_start}
use Rattle.window_laws.specs.Lengths.{KeepsLengths, lengths}

-- the first of windows with such lengths, where there is one, is a whole private one
abbrev FirstWhole : List ℕ → Type 0
FirstWhole [] = Unit {0}
FirstWhole (len ∷ more) = len ≡ WINDOW_LEN

with_reach-whole : (ws : List Window) (v : View) → FirstWhole (lengths ws) → length v.window ≡ WINDOW_LEN → length (with_reach ws v).window ≡ WINDOW_LEN
with_reach-whole [] v first whole = whole
with_reach-whole (w ∷ []) v first whole = first
with_reach-whole (w ∷ s ∷ more) v first whole = first

pub instr-whole : KeepsLengths → (v : View) (instr : Instr) (cpu : Cpu) (memory : List Window) → length v.window ≡ WINDOW_LEN → stands_at v ≡ Next instr cpu memory → length (after_instr cpu memory v).window ≡ WINDOW_LEN
instr-whole keeps v instr cpu memory whole stands =
    with_reach-whole memory (with_cpu cpu v) (subst FirstWhole (sym (keeps.instructions v instr cpu memory stands)) whole) whole

-- acts

-- what a process starts from is an image, and its block isn't too long
abbrev pub StartsWell : View → Act → Type 0
StartsWell v (Starts file block len) = (is_image file ≡ true) × (isnt_block v block len ≡ false)
StartsWell v act = Unit {0}

image-fits : (file : List ℕ) → is_image file ≡ true → fits_window (read_as_image file) ≡ true
image-fits file h1 = grind (arith, nat_tests, and_parts)

among-len : (len offset : ℕ) (bytes : List ℕ) → offset + length bytes ≤ len → length (among_zeros len offset bytes) ≡ len
among-len len offset bytes h1 = grind (arith, nat_tests, length-replicate, length-append)

start-len : (image : Image) (block : List ℕ) → fits_window image ≡ true → length block ≤ MOST_BLOCK_BYTES → length (window_at_start image block) ≡ WINDOW_LEN
start-len image block h1 h2 = grind (arith, nat_tests, and_parts, leb-true, among-len, length-take-le, length-append)

block-few : KeepsLengths → (v : View) (block len : ℕ) → isnt_block v block len ≡ false → length (read v block len) ≤ MOST_BLOCK_BYTES
block-few keeps v block len h1 =
    let l = ltb-false MOST_BLOCK_BYTES len (or_parts (nat_lt MOST_BLOCK_BYTES len) (is_outside v block len) h1).0 in
    let r = keeps.reads (reach v) block len in
    omega arith

restored-whole : (o : Option Cpu) (v : View) → length v.window ≡ WINDOW_LEN → length (restored o v).window ≡ WINDOW_LEN
restored-whole None v s = s
restored-whole (Some cpu) v s = s

pub acted-whole : KeepsLengths → (event : ℕ) (act : Act) (v : View) → StartsWell v act → length v.window ≡ WINDOW_LEN → IfSome (acted event act v) (λ w. length w.window ≡ WINDOW_LEN)
acted-whole keeps event (Receives at bytes result) v h s = with_reach-whole (with_bytes (reach v) at bytes) v (subst FirstWhole (sym (keeps.writes (reach v) at bytes)) s) s
acted-whole keeps event (Starts file block block_len) v h s = start-len (read_as_image file) (read v block block_len) (image-fits file h.0) (block-few keeps v block block_len h.1)
acted-whole keeps event Leaves v h s = restored-whole v.body.slot v s
acted-whole keeps event Exits v h s = tt
acted-whole keeps event (Faults status) v h s = tt
acted-whole keeps event (Dies signal cut) v h s = tt
acted-whole keeps event _ v h s = s
