-- What a query about bytes of an event answers.
use Rattle.std.specs.Prelude.{ℕ, ◌+◌, List, [], ◌∷◌, sum_by, Option, Some, None, option_to_list, unwrap_or}
use Rattle.arn_base.specs.declared.records.Pair.{Pair}
use Rattle.arn_base.specs.declared.records.Record.{Record}
use Rattle.rv64_model.specs.Carries.{Table}
use Rattle.history_model.specs.Alone as history
use Rattle.history_model.specs.Alone.{Made, Makes, Fails, Disagrees}
use Rattle.history_model.specs.Groups.{count_of, event_group}
use Rattle.history_index.specs.Lookups.{event_moment}
use Rattle.lineage_model.specs.Flow.{Byte}
use Rattle.lineage_model.specs.Pairs.{pairs_from}
use Rattle.query_model.specs.Linked.{groups_back}
use Rattle.query_model.specs.Sources.{reaching}

-- the groups that are asked: the event's own, and those from which it can have received bytes. An event of no process has none
abbrev pub event_groups : List Record → ℕ → List ℕ
event_groups entries event = groups_back entries (option_to_list (event_group entries event))

-- the moment up to which they are followed
abbrev pub moment_of : List Record → ℕ → ℕ
moment_of entries event = unwrap_or (event_moment entries event) 0

-- what groups counted
abbrev pub count_in : List Record → List ℕ → ℕ
count_in entries groups = sum_by (count_of entries) groups

-- a source byte with each byte of the event that took it, of bytes from a place on
abbrev pub event_pairs : Table → List Record → ℕ → ℕ → ℕ → List Pair
event_pairs table entries event from len =
    pairs_from (λ k. reaching table entries (moment_of entries event) event (Byte (from + k))) 0 len

-- what a group's records disagree in, up to a moment
abbrev pub disagreement_in : Made → Option Disagrees
disagreement_in (Makes own) = None
disagreement_in (Fails disagrees) = Some disagrees

-- the first that there is, or else the other
abbrev pub or_first : Option Disagrees → Option Disagrees → Option Disagrees
or_first None other = other
or_first (Some disagrees) other = Some disagrees

-- the disagreement of the first of these groups that disagrees
abbrev pub first_disagreement : List Record → ℕ → List ℕ → Option Disagrees
first_disagreement entries moment [] = None
first_disagreement entries moment (g ∷ groups) =
    or_first (disagreement_in (history.alone entries g moment)) (first_disagreement entries moment groups)

-- where the groups that are asked about an event disagree
abbrev pub event_disagreement : List Record → ℕ → Option Disagrees
event_disagreement entries event = first_disagreement entries (moment_of entries event) (event_groups entries event)
