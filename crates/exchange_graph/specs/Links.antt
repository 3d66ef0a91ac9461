-- From which group to which something went.
use Rattle.std.specs.Prelude.{ℕ, ◌+◌, ◌==◌, if◌then◌else◌, List, [], ◌∷◌, ◌++◌, Option, Some, None}
use Rattle.arn_base.specs.declared.records.Give.{Give}
use Rattle.arn_base.specs.declared.records.Origin.{Origin}
use Rattle.arn_base.specs.declared.records.Record.{Record}
use Rattle.history_model.specs.Events.{events}
use Rattle.history_model.specs.Exchanges.{received, founded}
use Rattle.history_model.specs.Groups.{event_group}
use Rattle.exchange_graph.specs.declared.links.Link.{Link}

-- a link where both ends are groups
abbrev pub link_between : Option ℕ → Option ℕ → List Link
link_between (Some from) (Some to) = record { from = from; to = to } ∷ []
link_between (Some from) None = []
link_between None to = []

-- to the group of an event from those of the origins, where events have these groups
abbrev pub byte_links : (ℕ → Option ℕ) → Option ℕ → List Origin → List Link
byte_links told to [] = []
byte_links told to (origin ∷ origins) = link_between (told origin.event) to ++ byte_links told to origins

abbrev pub give_links : (ℕ → Option ℕ) → Option ℕ → Option Give → List Link
give_links told to None = []
give_links told to (Some give) = byte_links told to give.origins

-- those that an event of a group makes
abbrev pub event_links : (ℕ → Option ℕ) → Option ℕ → Record → List Link
event_links told group e = give_links told group (received e) ++ link_between group (founded e)

-- those of events that are numbered from one on
abbrev pub links_from : (ℕ → Option ℕ) → ℕ → List Record → List Link
links_from told n [] = []
links_from told n (e ∷ told_next) = event_links told (told n) e ++ links_from told (n + 1) told_next

-- those of a history
abbrev pub links_of : List Record → List Link
links_of entries = links_from (event_group entries) 0 (events entries)

-- where the links from a number lead
abbrev pub ends_of : List Link → ℕ → List ℕ
ends_of [] n = []
ends_of (link ∷ rest) n = if link.from == n then link.to ∷ ends_of rest n else ends_of rest n

-- and where those to a number begin
abbrev pub begins_of : List Link → ℕ → List ℕ
begins_of [] n = []
begins_of (link ∷ rest) n = if link.to == n then link.from ∷ begins_of rest n else begins_of rest n
