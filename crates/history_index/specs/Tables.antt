-- What an index holds of records.
use Rattle.std.specs.Prelude.{ℕ, Bool, false, List, []}
use Rattle.history_model.specs.Broken.{Behind, Nowhere}
use Rattle.history_index.specs.declared.events.EventAt.{EventAt}
use Rattle.history_index.specs.Families.{Families, no_families}

-- How many records there are, how many instructions they count, and at which moment the last slice begins; what the check of a next
-- record asks; and the events, in order.
pub record Tables : Type 0 where
  pub records : ℕ
  pub total : ℕ
  pub begins : ℕ
  pub is_booted : Bool
  pub at_hand : Behind
  pub families : Families
  pub events : List EventAt

-- of no records
abbrev pub no_tables : Tables
no_tables =
    record { records = 0; total = 0; begins = 0; is_booted = false; at_hand = Nowhere; families = no_families; events = [] }
