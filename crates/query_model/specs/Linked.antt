-- Which groups are connected with some, as a list: those from which these can have received bytes, over so many links.
use Rattle.std.specs.Prelude.{ℕ, zero, suc, ◌==◌, ◌&&◌, ◌||◌, Bool, false, List, filter, length, Option, Some, None, option_and_then}
use Rattle.std.specs.List.{list_any, range_with_len}
use Rattle.arn_base.specs.declared.records.Give.{Give}
use Rattle.arn_base.specs.declared.records.Origin.{Origin}
use Rattle.arn_base.specs.declared.records.Record.{Record}
use Rattle.history_model.specs.Events.{event_at, how_many}
use Rattle.history_model.specs.Exchanges.{founded, received}
use Rattle.history_model.specs.Groups.{event_group, is_number}
use Rattle.history_index.specs.Lookups.{groups_in}

-- these bytes are copies of bytes of an event of group h
abbrev pub is_from : List Record → ℕ → Origin → Bool
is_from entries h origin = is_number h (event_group entries origin.event)

-- some of the bytes that were received are
abbrev pub came_from : List Record → ℕ → Option Give → Bool
came_from entries h None = false
came_from entries h (Some give) = list_any (is_from entries h) give.origins

-- at event n group g received a byte of group h
abbrev pub receives_at : List Record → ℕ → ℕ → ℕ → Bool
receives_at entries h g n = is_number g (event_group entries n) && came_from entries h (option_and_then received (event_at entries n))

-- at event n a fork in group h started group g
abbrev pub starts_at : List Record → ℕ → ℕ → ℕ → Bool
starts_at entries h g n = is_number h (event_group entries n) && is_number g (option_and_then founded (event_at entries n))

-- bytes went from group h to group g at some event
abbrev pub is_linked : List Record → ℕ → ℕ → Bool
is_linked entries h g = list_any (λ n. receives_at entries h g n || starts_at entries h g n) (range_with_len 0 (how_many entries))

-- group h is one of these, or bytes went from it to one of them over at most so many links
abbrev pub within_links : List Record → List ℕ → ℕ → ℕ → Bool
within_links entries from zero h = list_any (λ g. g == h) from
within_links entries from (suc n) h =
    within_links entries from n h || list_any (λ g. within_links entries from n g && is_linked entries h g) (groups_in entries)

-- The groups from which these can have received bytes, at any distance, and these, rising. No way that it takes has more links than there are
-- groups.
abbrev pub groups_back : List Record → List ℕ → List ℕ
groups_back entries from = filter (within_links entries from (length (groups_in entries))) (groups_in entries)
