-- To which groups bytes of an event can have come.
use Rattle.std.specs.Prelude.{ℕ, zero, suc, ◌+◌, ◌==◌, nat_lt, max, min, ◌&&◌, ◌||◌, Bool, false, if◌then◌else◌, List, [], filter, length, Option, Some, None, option_and_then}
use Rattle.std.specs.List.{list_any, range_with_len}
use Rattle.arn_base.specs.declared.records.Give.{Give}
use Rattle.arn_base.specs.declared.records.Origin.{Origin}
use Rattle.arn_base.specs.declared.records.Record.{Record}
use Rattle.history_model.specs.Events.{event_at, how_many}
use Rattle.history_model.specs.Exchanges.{received}
use Rattle.history_model.specs.Groups.{event_group, is_number}
use Rattle.history_index.specs.Lookups.{groups_in}
use Rattle.lineage_model.specs.Joined.{is_source}
use Rattle.query_model.specs.Linked.{is_linked}

-- some of these bytes are copies of some of so many bytes of an event, from a place on
abbrev pub is_copy : ℕ → ℕ → ℕ → Origin → Bool
is_copy event from len origin = (origin.event == event) && nat_lt (max origin.at from) (min (origin.at + origin.len) (from + len))

abbrev pub has_copy : ℕ → ℕ → ℕ → Option Give → Bool
has_copy event from len None = false
has_copy event from len (Some give) = list_any (is_copy event from len) give.origins

-- at event n group g received one of them
abbrev pub takes_at : List Record → ℕ → ℕ → ℕ → ℕ → ℕ → Bool
takes_at entries event from len g n =
    is_number g (event_group entries n) && has_copy event from len (option_and_then received (event_at entries n))

abbrev pub has_taken : List Record → ℕ → ℕ → ℕ → ℕ → Bool
has_taken entries event from len g = list_any (takes_at entries event from len g) (range_with_len 0 (how_many entries))

-- group g read them itself: one of its processes read them from a device
abbrev pub has_read : List Record → ℕ → ℕ → ℕ → Bool
has_read entries event len g = nat_lt 0 len && is_number g (event_group entries event)

-- the groups that had them first, where they came from outside; other bytes are no source bytes, and no group had them first
abbrev pub first_by : List Record → ℕ → ℕ → ℕ → Option Record → List ℕ
first_by entries event from len None = []
first_by entries event from len (Some e) =
    if is_source e then filter (λ g. has_taken entries event from len g || has_read entries event len g) (groups_in entries) else []

abbrev pub first_groups : List Record → ℕ → ℕ → ℕ → List ℕ
first_groups entries event from len = first_by entries event from len (event_at entries event)

-- group g is one of these, or bytes went to it from one of them over at most so many links
abbrev pub within_links_forth : List Record → List ℕ → ℕ → ℕ → Bool
within_links_forth entries from zero g = list_any (λ h. h == g) from
within_links_forth entries from (suc n) g =
    within_links_forth entries from n g || list_any (λ h. within_links_forth entries from n h && is_linked entries h g) (groups_in entries)

-- The groups that can have received bytes from these, at any distance, and these, rising. No way that it takes has more links than there are
-- groups.
abbrev pub groups_forth : List Record → List ℕ → List ℕ
groups_forth entries from = filter (within_links_forth entries from (length (groups_in entries))) (groups_in entries)

-- the groups to which bytes of an event can have come
abbrev pub forth_groups : List Record → ℕ → ℕ → ℕ → List ℕ
forth_groups entries event from len = groups_forth entries (first_groups entries event from len)
