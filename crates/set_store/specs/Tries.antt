-- Sets as tries over the bits of their items' keys.
use Rattle.std.specs.Prelude.{◌≡◌, ◌⊎◌, ◌↔◌, ℕ, ◌+◌, ◌*◌, ◌/◌, ◌%◌, ◌^◌, ◌<◌, ◌≤◌, List, [], ◌∷◌, ◌++◌, slice_get, Some, if◌then◌else◌, zero, suc, ◌==◌, Contains}
use Rattle.set_store.specs.declared.item.Item.{Item}
use Rattle.std.specs.Int.{bit_at}
use Rattle.set_store.specs.declared.node.TheConstants.{ROWS}
use Rattle.set_store.specs.declared.node.Fork.{Fork}
use Rattle.set_store.specs.declared.node.Row.{Row}
use Rattle.set_store.specs.declared.node.Node.{Node}
use Rattle.set_store.specs.declared.node.Node.TheVariants.{Empty, Leaf, Branch}
use Rattle.set_store.specs.Sets.{IsSet, members_of}

-- a row of 64 bytes as a number: of each event there are as many rows
abbrev pub place : ℕ → ℕ → ℕ
place event row = event * ROWS + row

-- an item's row: keys are ordered as items are
abbrev pub key_of : Item → ℕ
key_of item = place item.event (item.at / 64)

-- a list begins with an item of this key
abbrev pub HasFirst : List Item → ℕ → Type 0
HasFirst members key = (item : Item) × (slice_get members 0 ≡ Some item) × (key_of item ≡ key)

-- one byte of a row
abbrev pub item_at : Row → ℕ → Item
item_at row k = record { event = row.event; at = row.row * 64 + k }

-- the item of one byte, where the mask has it
abbrev pub byte_of : Row → ℕ → List Item
byte_of row k = if bit_at row.mask k == 1 then item_at row k ∷ [] else []

-- the bytes of a row that its mask has, below one
unfoldable pub items_below : Row → ℕ → List Item
items_below row zero = []
items_below row (suc k) = items_below row k ++ byte_of row k

-- all of them
abbrev pub items_of : Row → List Item
items_of row = items_below row 64

-- a row of an event, of which the mask has some bytes
pub record IsRow (row : Row) : Type 0 where
  pub row_fits : row.row < ROWS
  pub some : 0 < row.mask
  pub mask_fits : row.mask < 2 ^ 64

-- the bits of its key from one on; that bit is its parity
abbrev pub side : ℕ → Item → ℕ
side bit item = key_of item / 2 ^ bit

-- without and with the bit
abbrev pub IsLow : ℕ → Item → Type 0
IsLow bit item = side bit item % 2 ≡ 0

abbrev pub IsHigh : ℕ → Item → Type 0
IsHigh bit item = side bit item % 2 ≡ 1

-- the keys of two items are the same above a bit
abbrev pub AreAlike : ℕ → Item → Item → Type 0
AreAlike bit item other = side bit item / 2 ≡ side bit other / 2

-- of one of two sets
abbrev pub IsAmong : List Item → List Item → Item → Type 0
IsAmong first second item = Contains first item ⊎ Contains second item

-- two sets, the one of items without the bit and the other of items with it, all alike above it
pub record AreHalves (bit : ℕ) (left right : List Item) : Type 0 where
  pub low : (item : Item) → Contains left item → IsLow bit item
  pub high : (item : Item) → Contains right item → IsHigh bit item
  pub some_low : (item : Item) × Contains left item
  pub some_high : (item : Item) × Contains right item
  pub alike : (item other : Item) → IsAmong left right item → IsAmong left right other → AreAlike bit item other

-- what a node's members are, given those of lower sets
abbrev pub expanded : List (List Item) → Node → List Item
expanded sets Empty = []
expanded sets (Leaf row) = items_of row
expanded sets (Branch fork) = members_of sets fork.left ++ members_of sets fork.right

-- a fork of two sets
pub record IsForkOf (sets : List (List Item)) (fork : Fork) : Type 0 where
  pub bit : fork.bit < 128
  pub row_fits : fork.row < ROWS
  pub first : HasFirst (members_of sets fork.left) (place fork.event fork.row)
  pub halves : AreHalves fork.bit (members_of sets fork.left) (members_of sets fork.right)

-- a node of sets with lower numbers than this
abbrev pub IsNodeBelow : List (List Item) → ℕ → Node → Type 0
IsNodeBelow sets set Empty = set ≡ 0
IsNodeBelow sets set (Leaf row) = IsRow row
IsNodeBelow sets set (Branch fork) = (fork.left < set) × (fork.right < set) × IsForkOf sets fork

-- a set's node
pub record IsNodeOf (sets : List (List Item)) (set : ℕ) (node : Node) : Type 0 where
  pub members : members_of sets set ≡ expanded sets node
  pub below : IsNodeBelow sets set node

-- where two sets' members part: they are alike above the bit, and some have it and some don't
pub record PartAt (first second : List Item) (bit : ℕ) : Type 0 where
  pub alike : (item other : Item) → IsAmong first second item → IsAmong first second other → AreAlike bit item other
  pub some_low : (item : Item) × IsAmong first second item × IsLow bit item
  pub some_high : (item : Item) × IsAmong first second item × IsHigh bit item

-- the members of two sets have one key
abbrev pub AreOneKey : List Item → List Item → Type 0
AreOneKey first second = (item other : Item) → IsAmong first second item → IsAmong first second other → key_of item ≡ key_of other

-- where the members of one set part, or 0 where they have one key
pub record IsTop (members : List Item) (first : Item) (bit : ℕ) : Type 0 where
  pub below : bit < 128
  pub alike : (item : Item) → Contains members item → AreAlike bit item first
  pub parts : ((bit ≡ 0) × ((item : Item) → Contains members item → key_of item ≡ key_of first)) ⊎ PartAt members [] bit

-- the members without a bit, and those with it
pub record AreHalvesOf (sets : List (List Item)) (set bit left right : ℕ) : Type 0 where
  pub low : (item : Item) → Contains (members_of sets left) item ↔ (Contains (members_of sets set) item × IsLow bit item)
  pub high : (item : Item) → Contains (members_of sets right) item ↔ (Contains (members_of sets set) item × IsHigh bit item)
  pub left_there : IsSet sets left
  pub right_there : IsSet sets right
  pub left_most : left ≤ set
  pub right_most : right ≤ set
  pub left_less : (item : Item) → Contains (members_of sets right) item → left < set
  pub right_less : (item : Item) → Contains (members_of sets left) item → right < set

-- the members of the sets that nodes stand for, each made of the ones before
abbrev pub lists_from : List (List Item) → List Node → List (List Item)
lists_from sets [] = sets
lists_from sets (node ∷ nodes) = lists_from (sets ++ expanded sets node ∷ []) nodes

abbrev pub lists_of : List Node → List (List Item)
lists_of nodes = lists_from [] nodes
