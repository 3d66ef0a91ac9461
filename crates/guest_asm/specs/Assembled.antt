-- The image of a program's text, or its first fault.
use Rattle.std.specs.Prelude.{ℕ, ◌+◌, ◌%◌, ◌==◌, ◌&&◌, not, nat_le, nat_lt, Bool, true, if◌then◌else◌, List, [], ◌∷◌, ◌++◌, map, flat_map, Option, Some, None, option_and_then, option_to_list, unwrap_or, bytes_eq}
use Rattle.std.specs.List.{list_any}
use Rattle.arn_base.specs.Window.{bytes_of}
use Rattle.parts_model.specs.declared.limits.TheConstants.{WINDOW_START}
use Rattle.parts_model.specs.Image.{image_name}
use Rattle.asm_text.specs.declared.fault.AsmKind.{AsmKind}
use Rattle.asm_text.specs.declared.fault.AsmKind.TheVariants.{Word, Operand, Range, Label, Align, Size}
use Rattle.asm_text.specs.Characters.{lines, statements}
use Rattle.asm_text.specs.Names.{Named, number_by}
use Rattle.asm_text.specs.Statements as says
use Rattle.asm_text.specs.Statements.{Statement, StatementReading, Says, Wrong, reading}
use Rattle.guest_asm.specs.Meanings.{bytes, has_fields, is_code, most_bytes, named_label, reaches, size}

-- a statement of the text, and the number of its line
pub record Item : Type 0 where
  pub line : ℕ
  pub reading : StatementReading

-- the statements of lines, of which the first has this number
abbrev pub items_from : ℕ → List (List ℕ) → List Item
items_from n [] = []
items_from n (line ∷ rest) = map (λ text. record { line = n; reading = reading text }) (statements line) ++ items_from (n + 1) rest

-- lines are numbered from 1
abbrev pub items : List ℕ → List Item
items text = items_from 1 (lines text)

-- the label that is defined, if one is
abbrev pub defined_label : StatementReading → Option (List ℕ)
defined_label (Says (says.Label name)) = Some name
defined_label other = None

-- all labels that are defined
abbrev pub labels : List Item → List (List ℕ)
labels all = flat_map (λ i. option_to_list (defined_label i.reading)) all

abbrev pub is_among : List (List ℕ) → List ℕ → Bool
is_among names name = list_any (λ n. bytes_eq n name) names

-- a fault, where the test holds
abbrev pub fault_if : Bool → AsmKind → List AsmKind
fault_if test kind = if test then kind ∷ [] else []

-- a label that is named isn't defined, or one that is defined was so before
abbrev pub label_faults : List (List ℕ) → List (List ℕ) → Statement → List AsmKind
label_faults known earlier s =
    flat_map (λ name. fault_if (not (is_among known name)) Label) (option_to_list (named_label s))
    ++ flat_map (λ name. fault_if (is_among earlier name) Label) (option_to_list (defined_label (Says s)))

-- the faults by which a statement takes no place at an offset
abbrev pub place_faults : List (List ℕ) → List (List ℕ) → ℕ → StatementReading → List AsmKind
place_faults known earlier offset (Wrong kind) = kind ∷ []
place_faults known earlier offset (Says s) =
    label_faults known earlier s
    ++ fault_if (is_code s && not (offset % 4 == 0)) Align
    ++ fault_if (nat_lt most_bytes (offset + size s)) Size

-- a statement at its offset, with these faults
pub record Placed : Type 0 where
  pub line : ℕ
  pub offset : ℕ
  pub reading : StatementReading
  pub faults : List AsmKind

-- how many bytes a statement takes
abbrev pub taken : List AsmKind → StatementReading → ℕ
taken (kind ∷ kinds) r = 0
taken [] (Wrong kind) = 0
taken [] (Says s) = size s

-- the labels behind a statement
abbrev pub earlier_then : List (List ℕ) → StatementReading → List (List ℕ)
earlier_then earlier r = earlier ++ option_to_list (defined_label r)

-- statements one behind the other, from an offset on
abbrev pub placed_from : List (List ℕ) → List (List ℕ) → ℕ → List Item → List Placed
placed_from known earlier offset [] = []
placed_from known earlier offset (i ∷ rest) =
    let faults = place_faults known earlier offset i.reading in
    record { line = i.line; offset = offset; reading = i.reading; faults = faults }
    ∷ placed_from known (earlier_then earlier i.reading) (offset + taken faults i.reading) rest

-- the statements of a text, at their offsets
abbrev pub placed : List ℕ → List Placed
placed text = placed_from (labels (items text)) [] 0 (items text)

-- the address of a statement
abbrev pub address : Placed → ℕ
address p = WINDOW_START + p.offset

-- a label's address is that of its first definition
abbrev pub places : List Placed → List Named
places all = flat_map (λ p. map (λ name. record { name = name; number = address p }) (option_to_list (defined_label p.reading))) all

-- the statement that is read, if one is
abbrev pub said : StatementReading → Option Statement
said (Says s) = Some s
said (Wrong kind) = None

-- the address of the label that a statement names, if it names one that has an address
abbrev pub target : List Named → Statement → Option ℕ
target named s = option_and_then (number_by named) (named_label s)

-- the distance to the label, where there is one, fits
abbrev pub reaches_if : Statement → ℕ → Option ℕ → Bool
reaches_if s from None = true
reaches_if s from (Some to) = reaches s from to

-- the numbers of a statement, and its distance, lie in their fields
abbrev pub is_in_range : List Named → ℕ → Statement → Bool
is_in_range named from s = has_fields s && reaches_if s from (target named s)

-- all faults of a statement
abbrev pub faults_of : List Named → Placed → List AsmKind
faults_of named p =
    flat_map (λ s. fault_if (not (is_in_range named (address p) s)) Range) (option_to_list (said p.reading)) ++ p.faults

-- a fault of a line
pub record Fault : Type 0 where
  pub line : ℕ
  pub kind : AsmKind

-- all faults, line by line
abbrev pub all_faults : List Placed → List Fault
all_faults all = flat_map (λ p. map (λ kind. record { line = p.line; kind = kind }) (faults_of (places all) p)) all

-- the order of the kinds
abbrev pub rank : AsmKind → ℕ
rank Word = 0
rank Operand = 1
rank Range = 2
rank Label = 3
rank Align = 4
rank Size = 5

-- the first of two kinds
abbrev pub first_kind : AsmKind → AsmKind → AsmKind
first_kind a b = if nat_le (rank a) (rank b) then a else b

-- the first kind among the faults of a line
abbrev pub kind_on : ℕ → AsmKind → List Fault → AsmKind
kind_on line kind [] = kind
kind_on line kind (f ∷ faults) = kind_on line (if f.line == line then first_kind kind f.kind else kind) faults

-- the fault that is told: on the first line that has one, of the first kind there
abbrev pub first_fault : List Fault → Option Fault
first_fault [] = None
first_fault (f ∷ faults) = Some (record { line = f.line; kind = kind_on f.line f.kind faults })

-- the fault of a text, if it has one
abbrev pub fault_of : List ℕ → Option Fault
fault_of text = first_fault (all_faults (placed text))

-- the bytes of a statement at its address
abbrev pub statement_bytes : List Named → Placed → List ℕ
statement_bytes named p =
    flat_map (λ s. bytes s (address p) (unwrap_or (target named s) 0)) (option_to_list (said p.reading))

-- the program's bytes
abbrev pub body : List Placed → List ℕ
body all = flat_map (statement_bytes (places all)) all

-- an image: its name, the entry and the load address, which are the window's start, and the body
abbrev pub image : List ℕ → List ℕ
image body = image_name ++ bytes_of 8 WINDOW_START ++ bytes_of 8 WINDOW_START ++ body

-- the image of a text that has no fault
abbrev pub image_of_text : List ℕ → List ℕ
image_of_text text = image (body (placed text))
