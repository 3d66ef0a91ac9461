-- What the code keeps of statements at their places.
use Rattle.std.specs.Prelude.{◌≡◌, ℕ, List, Option, is_some, map, option_to_list}
use Rattle.std.specs.List.{AllZip}
use Rattle.guest_asm.specs.Assembled.{Item, Placed, is_among, place_faults, places, defined_label}
use Rattle.guest_asm.specs.First.{first_of}
use Rattle.asm_text.specs.Seen.{KeepsReading}
use Rattle.asm_text.specs.Statements.{StatementReading, reading}
use Rattle.guest_asm.specs.declared.items.Item as kept_item
use Rattle.guest_asm.specs.declared.places.Placed as kept_placed
use Rattle.guest_asm.specs.declared.places.Layout.{Layout}
use Rattle.std.specs.BTreeMap as tree
use Rattle.std.specs.Ordering.{nat_cmp}
use Rattle.std.specs.Cmp.Lexicographic.{slice_cmp}
use Rattle.asm_text.specs.Names.{Named, number_by}
use Rattle.guest_asm.specs.declared.labels.Labels.{Labels}

-- the address that is kept of a label
abbrev pub address_in : Labels → List ℕ → Option ℕ
address_in labels name = tree.get_by (λ k. slice_cmp nat_cmp name k.now) labels.places

-- the labels are those of these definitions, each at its first one
abbrev pub HasPlaces : Labels → List Named → Type 0
HasPlaces labels named = (name : List ℕ) → address_in labels name ≡ number_by named name

-- the statement is kept as it is read, and it is read from a text
pub record KeepsItem (kept : kept_item.Item) (i : Item) : Type 0 where
  pub line : i.line ≡ kept.line
  pub reads : KeepsReading kept.reading i.reading
  pub text : (text : List ℕ) × (i.reading ≡ reading text)

-- the labels are those of these names
abbrev pub Knows : Labels → List (List ℕ) → Type 0
Knows labels names = (name : List ℕ) → is_some (address_in labels name) ≡ is_among names name

-- the names of definitions
abbrev pub names_of : List Named → List (List ℕ)
names_of named = map (λ n. n.name) named

-- the definition that a statement at an address is, if it is one
abbrev pub defined_at : ℕ → StatementReading → List Named
defined_at address r = map (λ name. record { name = name; number = address }) (option_to_list (defined_label r))

-- a statement at an offset, behind labels that are defined
abbrev pub placed_at : List (List ℕ) → List (List ℕ) → ℕ → Item → Placed
placed_at known earlier offset i = record { line = i.line; offset = offset; reading = i.reading; faults = place_faults known earlier offset i.reading }

-- the statement at its offset is kept so
pub record KeepsPlaced (kept : kept_placed.Placed) (p : Placed) : Type 0 where
  pub item : KeepsItem kept.item.now (record { line = p.line; reading = p.reading })
  pub offset : p.offset ≡ kept.offset
  pub fault : kept.fault ≡ first_of p.faults

-- the statements that are placed, and the labels among them, are kept so
pub record Stands (layout : Layout) (done : List Placed) : Type 0 where
  pub placed : AllZip KeepsPlaced layout.placed.items done
  pub labels : HasPlaces layout.labels (places done)
