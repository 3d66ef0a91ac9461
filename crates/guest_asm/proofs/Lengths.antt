-- How many bytes statements without faults have in an image.
use Rattle.std.proofs.lemmas.Bool.Decides.{nat_tests}
use Rattle.std.proofs.Common.{◌≡◌, ◌++◌, ◌+◌, ◌≤◌, ◌/◌, ℕ, zero, suc, List, [], ◌∷◌, None, true, nat_lt, length, refl, ap, sym, ◌∙◌, append-nil, arith, option_to_list, unwrap_or, ltb-false}
use Rattle.std.specs.List.{flat_map, AllByRecursion}
use Rattle.std.proofs.lemmas.List.{length-append, length-map, length-replicate}
use Rattle.arn_base.specs.Window.{bytes_of}
use Rattle.rv64_isa.specs.Encoded.{word_of}
use Rattle.rv64_isa.specs.declared.instruction.Instr.{Instr}
use Rattle.asm_text.specs.Names.{Named}
use Rattle.asm_text.specs.Statements.{Statement, StatementReading, Says}
use Rattle.asm_text.specs.declared.fault.AsmKind.TheVariants as kind
use Rattle.guest_asm.specs.Meanings.{bytes, code, has_fields, most_bytes, size}
use Rattle.guest_asm.specs.Assembled.{Item, Placed, address, body, earlier_then, fault_of, place_faults, placed, placed_from, said, statement_bytes, taken, target}
use Rattle.guest_asm.specs.Kept.{placed_at}
use Rattle.guest_asm.specs.Sound.{IsSoundAt}
use Rattle.guest_asm.proofs.Soundness.{Faultless, each_faultless, no_fault_if, no_first_fault, second_empty, sound}

length-bytes_of : (len n : ℕ) → length (bytes_of len n) ≡ len
unfolding bytes_of
length-bytes_of zero n = refl
length-bytes_of (suc len) n = ap suc (length-bytes_of len (n / 256))

length-one : (i : Instr) → length (flat_map code (i ∷ [])) ≡ 4
length-one i = ap length (append-nil (code i)) ∙ length-bytes_of 4 (word_of i)

length-two : (i j : Instr) → length (flat_map code (i ∷ j ∷ [])) ≡ 8
length-two i j = grind (arith, nat_tests, length-append, length-bytes_of, length-one)

-- a statement has as many bytes as its size says
pub length-bytes : (s : Statement) (from to : ℕ) → has_fields s ≡ true → length (bytes s from to) ≡ size s
length-bytes s from to h1 = grind (arith, nat_tests, length-one, length-two, length-map, length-replicate)

-- a sound statement has as many bytes as it takes
length-said : (named : List Named) (p : Placed) (r : StatementReading) → p.reading ≡ r → IsSoundAt named p →
    length (flat_map (λ s. bytes s (address p) (unwrap_or (target named s) 0)) (option_to_list (said r))) ≡ taken [] r
length-said named p r h1 h2 = grind (arith, nat_tests, sound, append-nil, length-bytes)

length-statement_bytes : (named : List Named) (p : Placed) → p.faults ≡ [] → IsSoundAt named p → length (statement_bytes named p) ≡ taken p.faults p.reading
length-statement_bytes named p none sound =
    length-said named p p.reading refl sound ∙ ap (λ faults. taken faults p.reading) (sym none)

-- a statement without faults ends in the window
said_within : (known earlier : List (List ℕ)) (offset : ℕ) (s : Statement) → place_faults known earlier offset (Says s) ≡ [] → offset + size s ≤ most_bytes
said_within known earlier offset s none =
    ltb-false most_bytes (offset + size s) (no_fault_if (nat_lt most_bytes (offset + size s)) kind.Size (second_empty _ _ none))

within : (known earlier : List (List ℕ)) (offset : ℕ) (r : StatementReading) → place_faults known earlier offset r ≡ [] → offset + taken (place_faults known earlier offset r) r ≤ most_bytes
within known earlier offset r h1 = grind (arith, nat_tests, said_within)

within_more : (offset taken first rest all most : ℕ) → first ≡ taken → all ≡ first + rest → offset + taken + rest ≤ most → offset + all ≤ most
within_more offset taken first rest all most e f h = omega arith

-- statements without faults, from an offset in the window on, end in the window
body_within : (named : List Named) (known earlier : List (List ℕ)) (offset : ℕ) (is : List Item) → offset ≤ most_bytes →
    AllByRecursion (Faultless named) (placed_from known earlier offset is) → AllByRecursion (IsSoundAt named) (placed_from known earlier offset is) →
    offset + length (flat_map (statement_bytes named) (placed_from known earlier offset is)) ≤ most_bytes
body_within named known earlier offset [] inside none sound = omega arith
body_within named known earlier offset (i ∷ is) inside none sound =
    let p : Placed = placed_at known earlier offset i in
    let no_faults : p.faults ≡ [] = second_empty _ _ none.0 in
    let next = offset + taken p.faults i.reading in
    let rest = flat_map (statement_bytes named) (placed_from known (earlier_then earlier i.reading) next is) in
    within_more offset (taken p.faults i.reading) (length (statement_bytes named p)) (length rest) (length (statement_bytes named p ++ rest)) most_bytes
    (length-statement_bytes named p no_faults sound.0) (length-append (statement_bytes named p) rest)
    (body_within named known (earlier_then earlier i.reading) next is (within known earlier offset i.reading no_faults) none.1 sound.1)

-- the body of a text without faults fits the window
pub length-body : (text : List ℕ) → fault_of text ≡ None → length (body (placed text)) ≤ most_bytes
length-body text h1 = grind (arith, nat_tests, each_faultless, no_first_fault, body_within, sound)
