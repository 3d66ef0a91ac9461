-- What is joined answers of bytes of an event.
use Rattle.std.proofs.Common.{◌≡◌, ℕ, ◌+◌, ◌<◌, List, All, None, true, ◌∙◌}
use Rattle.arn_base.specs.declared.records.Pair.{Pair}
use Rattle.arn_base.specs.declared.records.Record.{Record}
use Rattle.rv64_model.specs.Carries.{operands}
use Rattle.rv64_model.specs.declared.linkage.Linkage.{Linkage}
use Rattle.history_model.specs.Broken.{first_broken}
use Rattle.history_model.specs.Events.{event_at, is_range}
use Rattle.lineage_join.specs.Laws.{reaches}
use Rattle.lineage_model.specs.Flow.{Byte}
use Rattle.lineage_model.specs.Pairs.{pairs_from}
use Rattle.query_model.specs.Answers.{event_groups, event_pairs, moment_of}
use Rattle.query_model.specs.Sources.{reaching}
use Rattle.window_laws.specs.Blocks.{HasWholeBlocks}
use Rattle.followed_groups.specs.Following.{Following, HasFollowed, IsOf, items_followed}
use Rattle.followed_pairs.specs.Items.{ItemsAreOfGroups}
use Rattle.followed_pairs.specs.Leads.{event_leads}
use Rattle.query_engine.specs.Laws.{Laws}
use Rattle.query_engine.proofs.Fit.{in-range}
use Rattle.query_engine.proofs.Reaching.{reaching-same}
use Rattle.query_engine.proofs.Same.{pairs-same}

module _ (laws : Laws) (items : ItemsAreOfGroups) (entries : List Record) (unbroken : first_broken entries ≡ None) (whole : All HasWholeBlocks entries) (linkage : Linkage) (event from len : ℕ) (range : is_range (event_at entries event) from len ≡ true)
    (f : Following) (of : IsOf entries linkage (moment_of entries event) f) (has : HasFollowed f (event_groups entries event)) where
  reaches-same : (k : ℕ) → k < len → reaches entries (items_followed f) event (Byte (from + k)) ≡ reaching (operands linkage) entries (moment_of entries event) event (Byte (from + k))
  reaches-same k h =
      reaching-same entries linkage (moment_of entries event) f of items laws unbroken whole event (from + k) has (in-range (event_at entries event) from len k range h)

  pub answered : (pairs : List Pair) → pairs ≡ pairs_from (event_leads entries f (record { event = event; from = from; len = len })) 0 len → pairs ≡ event_pairs (operands linkage) entries event from len
  answered pairs told =
      told ∙ pairs-same (event_leads entries f (record { event = event; from = from; len = len })) (λ k. reaching (operands linkage) entries (moment_of entries event) event (Byte (from + k))) len reaches-same
