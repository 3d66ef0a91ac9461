-- The items that are kept of a byte.
use Rattle.std.specs.Prelude.{List, []}
use Rattle.set_store.specs.declared.item.Item.{Item}
use Rattle.taint_spans.specs.Numbered.{members_of}
use Rattle.taint_tracker.specs.declared.items.KeptItems.{KeptItems}
use Rattle.taint_tracker.specs.declared.items.KeptItems.TheVariants.{Nothing, Set}

-- none, or the members of a set
abbrev pub listed : KeptItems → List Item
listed Nothing = []
listed (Set sets set) = members_of sets.now set
