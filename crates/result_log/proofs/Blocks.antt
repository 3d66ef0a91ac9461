-- The fields of a start, read as a start.
use Rattle.std.proofs.Common.{◌≡◌, ℕ, zero, suc, ◌*◌, ◌≤◌, ◌<◌, List, [], ◌∷◌, ◌++◌, length, take, drop, flat_map, refl, sym, ap, subst, ◌∙◌, length-append, length-drop, length-take, arith}
use Rattle.std.specs.Prelude.{Option}
use Rattle.std.specs.List.{All}
use Rattle.std.proofs.lemmas.List.{take-append-drop}
use Rattle.std.proofs.lemmas.List.Elements.{All-cons, All-drop, All-head, All-nil, All-tail, All-take}
use Rattle.std.proofs.Math.Seq.{drop-append_seam, take-append_seam}
use Rattle.arn_base.specs.declared.machine.Block.{Block}
use Rattle.arn_base.specs.declared.machine.Cpu.{Cpu}
use Rattle.arn_base.specs.declared.records.Start.{Start}
use Rattle.arn_base.specs.declared.records.Extra.TheVariants as extra
use Rattle.schedule_log.specs.Fields.{field}
use Rattle.schedule_log.specs.Laws.{AreBytes, FieldOneWay, FieldSpelled}
use Rattle.result_log.specs.States.{block_fields, blocks_fields, cpu_fields, slot_fields, BeginsBlocks, BeginsCpu, BeginsSlot, BeginsStart, FitsBlock}
use Rattle.result_log.specs.Pieces.{StartsExtra, StartsNoExtra, StartsSomeExtra}
use Rattle.result_log.proofs.Tags.{extra-kind, DidStart, IsExtraOf}
use Rattle.result_log.proofs.OneWay.{cpu-one, slot-one, start-parts}

-- how many bytes the fields of blocks take
pub length-blocks : (blocks : List Block) → All FitsBlock blocks → length (flat_map block_fields blocks) ≡ 258 * length blocks
length-blocks [] h = refl
length-blocks (b ∷ blocks) h =
    let here = length-append (block_fields b) (flat_map block_fields blocks) in
    let fits = All-head FitsBlock b blocks h in
    let behind = length-blocks blocks (All-tail FitsBlock b blocks h) in
    omega (arith, here, fits.1, behind)

AreBytes-drop : (n : ℕ) (xs : List ℕ) → AreBytes xs → AreBytes (drop n xs)
AreBytes-drop = All-drop (λ b. b < 256)

-- of two parts
AreBytes-front : (xs ys : List ℕ) → AreBytes (xs ++ ys) → AreBytes xs
AreBytes-front xs ys h = subst AreBytes (take-append_seam xs ys) (All-take (λ b. b < 256) (length xs) (xs ++ ys) h)

AreBytes-behind : (xs ys : List ℕ) → AreBytes (xs ++ ys) → AreBytes ys
AreBytes-behind xs ys h = subst AreBytes (drop-append_seam xs ys) (AreBytes-drop (length xs) (xs ++ ys) h)

-- a block is spelled in front
record Fronts (fields : List ℕ) (b : Block) : Type 0 where
  fits : FitsBlock b
  is_bytes : fields ≡ block_fields b ++ drop 256 (drop 2 fields)

no-bytes : (xs : List ℕ) → length xs ≡ 0 → [] ≡ xs
no-bytes [] l = refl
no-bytes (x ∷ xs) l = absurd (omega arith)

module _ (two : FieldSpelled 2) where
  -- the block that the first 258 bytes spell
  front-block : (fields : List ℕ) → AreBytes fields → 258 ≤ length fields → (b : Block) × Fronts fields b
  front-block fields small long =
      let behind = drop 2 fields in
      let number = two (take 2 fields) (All-take (λ b. b < 256) 2 fields small) (omega (arith, length-take 2 fields)) in
      let b : Block = record { number = number.0; bytes = take 256 behind } in (
        b,
        record {
          fits = (number.1.0, omega (arith, length-take 256 behind, length-drop 2 fields));
          is_bytes = sym (take-append-drop 2 fields)
              ∙ ap (λ xs. xs ++ behind) number.1.1
              ∙ ap (λ xs. field 2 number.0 ++ xs) (sym (take-append-drop 256 behind));
        },
      )

  -- bytes of the right number are the fields of some blocks
  blocks_exist : (count : ℕ) (fields : List ℕ) → AreBytes fields → length fields ≡ 258 * count
      → (blocks : List Block) × ((flat_map block_fields blocks ≡ fields) × All FitsBlock blocks)
  blocks_exist zero fields small whole = ([], (no-bytes fields (omega arith), All-nil FitsBlock))
  blocks_exist (suc n) fields small whole =
      let found = front-block fields small (omega arith) in
      let b = found.0 in
      let rest = drop 256 (drop 2 fields) in
      let left : length rest ≡ 258 * n = omega (arith, length-drop 2 fields, length-drop 256 (drop 2 fields)) in
      let more = blocks_exist n rest (AreBytes-drop 256 (drop 2 fields) (AreBytes-drop 2 fields small)) left in (
        b ∷ more.0,
        (
          ap (λ xs. block_fields b ++ xs) more.1.0 ∙ sym found.1.is_bytes,
          All-cons FitsBlock b more.0 found.1.fits more.1.1,
        ),
      )

-- blocks behind the parts of a start are what a call did
pub start-starts : (bytes : List ℕ) (cpu : Cpu) (slot : Option Cpu) (fields rest : List ℕ) (blocks : List Block) → BeginsStart bytes cpu slot fields rest
    → flat_map block_fields blocks ≡ fields → All FitsBlock blocks
    → StartsExtra (2 ∷ bytes) (extra.Start (record { cpu = cpu; slot = slot; blocks = blocks })) rest
start-starts bytes cpu slot fields rest blocks b read fits =
    let s : Start = record { cpu = cpu; slot = slot; blocks = blocks } in
    let are = b.are_blocks in
    let long = length-blocks blocks fits in
    let same : length (flat_map block_fields blocks) ≡ length fields = ap (λ (xs : List ℕ). length xs) read in
    let count : length blocks ≡ are.count = omega (arith, long, same, are.is_whole) in
    let spelled : blocks_fields blocks ≡ field 2 are.count ++ fields =
    ap (λ k. field 2 k ++ flat_map block_fields blocks) count ∙ ap (λ xs. field 2 are.count ++ xs) read in
    record {
      has_spelling = omega (arith, count, are.fits);
      fits = (b.is_cpu.fits, b.is_slot.fits, fits);
      is_bytes = ap (λ xs. 2 ∷ xs) (b.is_cpu.is_bytes
          ∙ ap (λ xs. cpu_fields cpu ++ xs) (b.is_slot.is_bytes ∙ ap (λ xs. slot_fields slot ++ xs) (are.is_bytes ∙ ap (λ xs. xs ++ rest) (sym spelled)))
          ∙ sym (start-parts s rest));
    }

-- a start stands there, whether or not there is memory for it
pub start_stands : FieldSpelled 2 → (bytes : List ℕ) (cpu : Cpu) (slot : Option Cpu) (fields rest : List ℕ) → AreBytes bytes
    → BeginsStart bytes cpu slot fields rest → StartsSomeExtra (2 ∷ bytes)
start_stands two bytes cpu slot fields rest small b =
    let are = b.are_blocks in
    let small_behind = AreBytes-behind (cpu_fields cpu) b.behind (subst AreBytes b.is_cpu.is_bytes small) in
    let small_last = AreBytes-behind (slot_fields slot) b.last (subst AreBytes b.is_slot.is_bytes small_behind) in
    let small_front = AreBytes-front (field 2 are.count ++ fields) rest (subst AreBytes are.is_bytes small_last) in
    let small_fields = AreBytes-behind (field 2 are.count) fields small_front in
    let found = blocks_exist two are.count fields small_fields are.is_whole in (
      extra.Start (record { cpu = cpu; slot = slot; blocks = found.0 }),
      (rest, start-starts bytes cpu slot fields rest found.0 b found.1.0 found.1.1),
    )

-- what a call did that starts is a start's parts, where its tag says so
pub no-start : (bytes : List ℕ) → ((cpu : Cpu) (slot : Option Cpu) (fields rest : List ℕ) → ¬ BeginsStart bytes cpu slot fields rest)
    → StartsNoExtra (2 ∷ bytes)
no-start bytes h did rest b =
    let start : IsExtraOf DidStart bytes did rest = extra-kind (2 ∷ bytes) did rest b in
    let s = start.0 in
    let is = start.2 in
    let fields = flat_map block_fields s.blocks in
    let last = blocks_fields s.blocks ++ rest in
    let behind = slot_fields s.slot ++ last in
    h s.cpu s.slot fields rest (record {
      behind = behind;
      last = last;
      is_cpu = record { fits = is.fits.0; is_bytes = is.is_bytes ∙ start-parts s rest };
      is_slot = record { fits = is.fits.1; is_bytes = refl };
      are_blocks = record {
        count = length s.blocks;
        fits = is.has_spelling;
        is_whole = length-blocks s.blocks is.fits.2;
        is_bytes = refl;
      };
    })

-- no start's parts begin the bytes where no slot stands behind the processor
pub no-start-by-slot : FieldOneWay → (bytes behind : List ℕ) (p : Cpu) → BeginsCpu bytes p behind
    → ((slot : Option Cpu) (rest : List ℕ) → ¬ BeginsSlot behind slot rest)
    → (cpu : Cpu) (slot : Option Cpu) (fields rest : List ℕ) → ¬ BeginsStart bytes cpu slot fields rest
no-start-by-slot field-one bytes behind p is_p h cpu slot fields rest b =
    let same = cpu-one field-one cpu p b.behind behind b.is_cpu.fits is_p.fits (sym b.is_cpu.is_bytes ∙ is_p.is_bytes) in
    h slot b.last (record { fits = b.is_slot.fits; is_bytes = sym same.1 ∙ b.is_slot.is_bytes })

-- nor where no blocks stand behind the slot
pub no-start-by-blocks : FieldOneWay → (bytes behind last : List ℕ) (p : Cpu) (q : Option Cpu) → BeginsCpu bytes p behind → BeginsSlot behind q last
    → ((fields rest : List ℕ) → ¬ BeginsBlocks last fields rest)
    → (cpu : Cpu) (slot : Option Cpu) (fields rest : List ℕ) → ¬ BeginsStart bytes cpu slot fields rest
no-start-by-blocks field-one bytes behind last p q is_p is_q h cpu slot fields rest b =
    let same = cpu-one field-one cpu p b.behind behind b.is_cpu.fits is_p.fits (sym b.is_cpu.is_bytes ∙ is_p.is_bytes) in
    let slots = slot-one field-one slot q b.last last b.is_slot.fits is_q.fits (sym b.is_slot.is_bytes ∙ same.1 ∙ is_q.is_bytes) in
    let are = b.are_blocks in
    h fields rest (record { count = are.count; fits = are.fits; is_whole = are.is_whole; is_bytes = sym slots.1 ∙ are.is_bytes })
