-- On the records of a run a query forward answers what whole tracking gives.
use Rattle.std.proofs.Common.{◌≡◌, ◌↔◌, ℕ, ◌+◌, ◌<◌, List, length, sym, subst, ◌∙◌, arith, Contains}
use Rattle.arn_base.specs.declared.records.Pair.{Pair}
use Rattle.rv64_model.specs.Carries.{Table}
use Rattle.arn_model.specs.Kernel.{at_first}
use Rattle.arn_model.specs.Laws.{StepsTell}
use Rattle.arn_model.specs.Run.{Input, events_of, machine_after, run, within}
use Rattle.arn_model.specs.Tells.{HasNumbers}
use Rattle.history_model.specs.Events.{events, how_many}
use Rattle.history_model.specs.Moments.{total}
use Rattle.lineage_laws.specs.Laws.{LineageIsJoined}
use Rattle.lineage_model.specs.Flow.{At, Byte}
use Rattle.lineage_model.specs.Tracking.{EventByte}
use Rattle.lineage_model.specs.Whole as whole
use Rattle.log_model.specs.Laws.{EventsRecorded}
use Rattle.log_model.specs.Records.{records}
use Rattle.query_model.specs.Forth.{forth_groups}
use Rattle.query_model.specs.Sources.{reaching}
use Rattle.replay_laws.specs.Laws.{GroupsPassThrough, RecordsTellEvents}
use Rattle.unbroken_laws.specs.Laws.{RunsAreUnbroken}
use Rattle.query_laws.specs.ForthOfRuns.{ForthIsOfRuns, ForthLosesNothing, IsSinkPair}
use Rattle.query_laws.specs.OfRuns.{QueriesAreOfRuns, whole_points}
use Rattle.query_laws.proofs.Blocks.{run-whole}
use Rattle.query_laws.proofs.Ended.{has-ended}
use Rattle.query_laws.proofs.Links.{below-len}
use Rattle.query_laws.proofs.Lists.{range-in}
use Rattle.query_laws.proofs.OfRuns.{reaching-joined}
use Rattle.query_laws.proofs.Stays.{within-stays}

module _ (table : Table) (inputs : List Input) (few : HasNumbers (machine_after inputs).kernel) (passes : GroupsPassThrough) (joined : LineageIsJoined) (told : RecordsTellEvents) (tell : StepsTell) where
  abbrev end : ℕ
  end = total (records inputs)

  is-within : (event : ℕ) → event < how_many (records inputs) → event < length (events_of (within end (run inputs)))
  is-within event there =
      let has = subst (λ (xs : List ℕ). Contains xs event) (told inputs end) (has-ended (records inputs) event there) in
      let range = range-in 0 (length (events_of (within end (run inputs)))) event has in
      omega (arith, range.1)

  -- at the end each byte of an event has what the tracking of every step gave it
  point-whole : (event : ℕ) (at : At) → event < how_many (records inputs) → reaching table (records inputs) end event at ≡ whole_points table inputs event at
  point-whole event at there =
      let low = is-within event there in
      reaching-joined table inputs few passes end event at
      ∙ (sym ((joined table inputs end few).points event at low)
      ∙ within-stays table event at at_first (run inputs) end whole.at_first (tell inputs few) (omega (arith, low)))

  pub pairs-whole : (event from len : ℕ) (pair : Pair) → IsSinkPair (records inputs) (reaching table (records inputs) end) event from len pair ↔ IsSinkPair (records inputs) (whole_points table inputs) event from len pair
  pairs-whole event from len pair = (
    λ p. record {
      entry = p.entry;
      there = p.there;
      sink = p.sink;
      inside = p.inside;
      asked = p.asked;
      reached =
          subst (λ (xs : List EventByte). Contains xs (record { event = event; at = Byte (from + pair.byte) }))
          (point-whole pair.event (Byte pair.at) (below-len (events (records inputs)) pair.event p.entry p.there)) p.reached;
    },
    λ p. record {
      entry = p.entry;
      there = p.there;
      sink = p.sink;
      inside = p.inside;
      asked = p.asked;
      reached =
          subst (λ (xs : List EventByte). Contains xs (record { event = event; at = Byte (from + pair.byte) }))
          (sym (point-whole pair.event (Byte pair.at) (below-len (events (records inputs)) pair.event p.entry p.there))) p.reached;
    },
  )

pub of-runs : GroupsPassThrough → LineageIsJoined → RecordsTellEvents → StepsTell → EventsRecorded → RunsAreUnbroken → QueriesAreOfRuns → ForthLosesNothing → ForthIsOfRuns
of-runs passes joined told tell recorded unbroken answers lost table inputs event from len few =
    let stands = unbroken inputs few in
    record {
      agree = (answers table inputs few).agree (total (records inputs)) (forth_groups (records inputs) event from len);
      pairs = λ pair.
          let mine = lost table (records inputs) event from len stands (run-whole inputs few tell recorded stands) pair in
          let theirs = pairs-whole table inputs few passes joined told tell event from len pair in
          (λ c. theirs.0 (mine.0 c), λ p. mine.1 (theirs.1 p));
    }
