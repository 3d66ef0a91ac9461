-- What a start is spelled by begins bytes in one way.
use Rattle.std.proofs.Common.{◌≡◌, ℕ, ◌<◌, ◌*◌, ◌^◌, List, [], ◌∷◌, ◌++◌, length, drop, slice_index, flat_map, refl, sym, ap, ◌∙◌, append_assoc, length-append, arith}
use Rattle.std.specs.Prelude.{Option, Some, None}
use Rattle.std.specs.List.{All}
use Rattle.std.proofs.lemmas.List.Elements.{All-head, All-tail}
use Rattle.arn_base.specs.declared.machine.Block.{Block}
use Rattle.arn_base.specs.declared.machine.Cpu.{Cpu}
use Rattle.arn_base.specs.declared.records.Start.{Start}
use Rattle.schedule_log.specs.Fields.{field}
use Rattle.schedule_log.specs.Laws.{FieldOneWay}
use Rattle.result_log.specs.States.{block_fields, blocks_fields, cpu_fields, registers_fields, slot_fields, start_fields, FitsBlock, FitsCpu, FitsSlot, FitsStart, IsRegister, StartHasSpelling}

-- the first byte
abbrev pub first : List ℕ → ℕ
first xs = slice_index xs 0

-- how many bytes registers take
pub length-registers : (xs : List ℕ) → length (registers_fields xs) ≡ 8 * length xs
length-registers [] = refl
length-registers (x ∷ xs) = let behind = length-registers xs in omega (arith, behind, length-append (field 8 x) (registers_fields xs))

pub length-cpu : (cpu : Cpu) → FitsCpu cpu → length (cpu_fields cpu) ≡ 256
length-cpu cpu fits =
    omega (arith, fits.0.many, length-append (registers_fields cpu.x) (field 8 cpu.pc), length-registers cpu.x)

-- lists of one length in front
append-one : (a b s t : List ℕ) → length a ≡ length b → a ++ s ≡ b ++ t → (a ≡ b) × (s ≡ t)
append-one [] [] s t l e = (refl, e)
append-one [] (y ∷ b) s t l e = absurd (omega arith)
append-one (x ∷ a) [] s t l e = absurd (omega arith)
append-one (x ∷ a) (y ∷ b) s t l e =
    let here : x ≡ y = ap first e in
    let more = append-one a b s t (omega arith) (ap (drop 1) e) in
    (ap (λ k. k ∷ a) here ∙ ap (λ xs. y ∷ xs) more.0, more.1)

-- as many items in front, where each is spelled in one way
module _ {X : Type 0} (spelled : X → List ℕ) (Fits : X → Type 0)
    (one : (a b : X) (s t : List ℕ) → Fits a → Fits b → spelled a ++ s ≡ spelled b ++ t → (a ≡ b) × (s ≡ t)) where
  items-one : (a b : List X) (s t : List ℕ) → length a ≡ length b → All Fits a → All Fits b
      → flat_map spelled a ++ s ≡ flat_map spelled b ++ t → (a ≡ b) × (s ≡ t)
  items-one [] [] s t l fits_a fits_b e = (refl, e)
  items-one [] (y ∷ b) s t l fits_a fits_b e = absurd (omega arith)
  items-one (x ∷ a) [] s t l fits_a fits_b e = absurd (omega arith)
  items-one (x ∷ a) (y ∷ b) s t l fits_a fits_b e =
      let whole = sym (append_assoc (spelled x) (flat_map spelled a) s) ∙ e ∙ append_assoc (spelled y) (flat_map spelled b) t in
      let here = one x y (flat_map spelled a ++ s) (flat_map spelled b ++ t) (All-head Fits x a fits_a) (All-head Fits y b fits_b) whole in
      let more = items-one a b s t (omega arith) (All-tail Fits x a fits_a) (All-tail Fits y b fits_b) here.1 in
      (ap (λ o. o ∷ a) here.0 ∙ ap (λ os. y ∷ os) more.0, more.1)

cpu_of : List ℕ → ℕ → Cpu
cpu_of x pc = record { x = x; pc = pc }

cpu-same : (a b : Cpu) → a.x ≡ b.x → a.pc ≡ b.pc → a ≡ b
unfolding cpu_of
cpu-same a b x pc = ap (λ k. cpu_of k a.pc) x ∙ ap (λ k. cpu_of b.x k) pc

block_of : ℕ → List ℕ → Block
block_of number bytes = record { number = number; bytes = bytes }

block-same : (a b : Block) → a.number ≡ b.number → a.bytes ≡ b.bytes → a ≡ b
unfolding block_of
block-same a b number bytes = ap (λ k. block_of k a.bytes) number ∙ ap (λ k. block_of b.number k) bytes

start_of : Cpu → Option Cpu → List Block → Start
start_of cpu slot blocks = record { cpu = cpu; slot = slot; blocks = blocks }

start-same : (a b : Start) → a.cpu ≡ b.cpu → a.slot ≡ b.slot → a.blocks ≡ b.blocks → a ≡ b
unfolding start_of
start-same a b cpu slot blocks =
    ap (λ k. start_of k a.slot a.blocks) cpu ∙ ap (λ k. start_of b.cpu k a.blocks) slot ∙ ap (λ k. start_of b.cpu b.slot k) blocks

-- the parts of a start, one behind the other
pub start-parts : (a : Start) (s : List ℕ)
    → start_fields a ++ s ≡ cpu_fields a.cpu ++ (slot_fields a.slot ++ (blocks_fields a.blocks ++ s))
start-parts a s =
    append_assoc (cpu_fields a.cpu ++ slot_fields a.slot) (blocks_fields a.blocks) s
    ∙ append_assoc (cpu_fields a.cpu) (slot_fields a.slot) (blocks_fields a.blocks ++ s)

module _ (field-one : FieldOneWay) where
  pub cpu-one : (a b : Cpu) (s t : List ℕ) → FitsCpu a → FitsCpu b → cpu_fields a ++ s ≡ cpu_fields b ++ t → (a ≡ b) × (s ≡ t)
  cpu-one a b s t fits_a fits_b e =
      let whole = sym (append_assoc (registers_fields a.x) (field 8 a.pc) s) ∙ e ∙ append_assoc (registers_fields b.x) (field 8 b.pc) t in
      let x = items-one (field 8) IsRegister (λ m n u v m_fits n_fits h. field-one 8 m n u v m_fits n_fits h) a.x b.x (field 8 a.pc ++ s) (field 8 b.pc ++ t)
      (omega (arith, fits_a.0.many, fits_b.0.many)) fits_a.0.fits fits_b.0.fits whole in
      let pc = field-one 8 a.pc b.pc s t fits_a.1 fits_b.1 x.1 in
      (cpu-same a b x.0 pc.0, pc.1)

  pub slot-one : (a b : Option Cpu) (s t : List ℕ) → FitsSlot a → FitsSlot b → slot_fields a ++ s ≡ slot_fields b ++ t → (a ≡ b) × (s ≡ t)
  slot-one None None s t fits_a fits_b e = (refl, ap (drop 1) e)
  slot-one None (Some b) s t fits_a fits_b e = let k = ap first e in absurd (omega (arith, k))
  slot-one (Some a) None s t fits_a fits_b e = let k = ap first e in absurd (omega (arith, k))
  slot-one (Some a) (Some b) s t fits_a fits_b e =
      let same = cpu-one a b s t fits_a fits_b (ap (drop 1) e) in
      (ap Some same.0, same.1)

  block-one : (a b : Block) (s t : List ℕ) → FitsBlock a → FitsBlock b → block_fields a ++ s ≡ block_fields b ++ t → (a ≡ b) × (s ≡ t)
  block-one a b s t fits_a fits_b e =
      let number = field-one 2 a.number b.number (a.bytes ++ s) (b.bytes ++ t) fits_a.0 fits_b.0 e in
      let bytes = append-one a.bytes b.bytes s t (omega (arith, fits_a.1, fits_b.1)) number.1 in
      (block-same a b number.0 bytes.0, bytes.1)

  blocks-one : (a b : List Block) (s t : List ℕ) → length a < 2 ^ 16 → length b < 2 ^ 16 → All FitsBlock a → All FitsBlock b
      → blocks_fields a ++ s ≡ blocks_fields b ++ t → (a ≡ b) × (s ≡ t)
  blocks-one a b s t few_a few_b fits_a fits_b e =
      let x = flat_map block_fields a in
      let y = flat_map block_fields b in
      let whole = sym (append_assoc (field 2 (length a)) x s) ∙ e ∙ append_assoc (field 2 (length b)) y t in
      let long = field-one 2 (length a) (length b) (x ++ s) (y ++ t) few_a few_b whole in
      items-one block_fields FitsBlock block-one a b s t long.0 fits_a fits_b long.1

  pub start-one : (a b : Start) (s t : List ℕ) → StartHasSpelling a → StartHasSpelling b → FitsStart a → FitsStart b
      → start_fields a ++ s ≡ start_fields b ++ t → (a ≡ b) × (s ≡ t)
  start-one a b s t few_a few_b fits_a fits_b e =
      let whole = sym (start-parts a s) ∙ e ∙ start-parts b t in
      let cpu = cpu-one a.cpu b.cpu (slot_fields a.slot ++ (blocks_fields a.blocks ++ s)) (slot_fields b.slot ++ (blocks_fields b.blocks ++ t)) fits_a.0 fits_b.0 whole in
      let slot = slot-one a.slot b.slot (blocks_fields a.blocks ++ s) (blocks_fields b.blocks ++ t) fits_a.1 fits_b.1 cpu.1 in
      let blocks = blocks-one a.blocks b.blocks s t few_a few_b fits_a.2 fits_b.2 slot.1 in
      (start-same a b cpu.0 slot.0 blocks.0, blocks.1)
