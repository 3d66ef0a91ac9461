-- On the records of a run a lineage query answers what whole tracking gives.
use Rattle.std.proofs.lemmas.Grind.{common_steps}
use Rattle.std.proofs.Common.{◌≡◌, ℕ, zero, suc, ◌+◌, ◌<◌, ◌++◌, List, [], ◌∷◌, length, flat_map, Option, Some, None, refl, ap, ap₂, sym, subst, ◌∙◌, arith, Contains}
use Rattle.std.proofs.lemmas.Bool.Decides.{nat_tests}
use Rattle.arn_base.specs.declared.records.Pair.{Pair}
use Rattle.arn_base.specs.declared.records.Record.{Record}
use Rattle.arn_base.specs.declared.records.Src.{Src}
use Rattle.rv64_model.specs.Carries.{Table}
use Rattle.arn_model.specs.Kernel.{at_first}
use Rattle.arn_model.specs.Laws.{StepsTell}
use Rattle.arn_model.specs.Run.{Input, machine_after, run, within, events_of}
use Rattle.arn_model.specs.Tells.{HasNumbers}
use Rattle.history_model.specs.Alone as history
use Rattle.history_model.specs.Alone.{Disagrees}
use Rattle.history_model.specs.Events.{how_many}
use Rattle.lineage_laws.specs.Laws as lineage
use Rattle.lineage_laws.specs.Laws.{LineageIsJoined, joined_point}
use Rattle.lineage_model.specs.Flow.{At, Byte}
use Rattle.lineage_model.specs.Joined.{Reaching, from_origin, from_received, from_item_at, from_event, reached}
use Rattle.lineage_model.specs.Pairs.{byte_pairs, pairs_from}
use Rattle.lineage_model.specs.Tracking.{EventByte, Tracked, alone}
use Rattle.lineage_model.specs.Whole as whole
use Rattle.log_model.specs.Records.{records}
use Rattle.query_model.specs.Answers.{disagreement_in, first_disagreement, moment_of, or_first}
use Rattle.query_model.specs.Sources.{tracked_of, tracked_at, items_in, reaching}
use Rattle.replay_laws.specs.Laws.{GroupsPassThrough, RecordsTellEvents}
use Rattle.query_laws.specs.OfRuns.{AnswersRun, whole_points}
use Rattle.query_laws.proofs.Happened.{has-happened}
use Rattle.query_laws.proofs.Lists.{range-in}
use Rattle.query_laws.proofs.Stays.{within-stays}

-- where bytes have the same items, the same reaches them
pub flat_map-same : {A : Type 0} (f g : A → List EventByte) → ((x : A) → f x ≡ g x) → (xs : List A) → flat_map f xs ≡ flat_map g xs
flat_map-same f g same [] = refl
flat_map-same f g same (x ∷ xs) = ap₂ ◌++◌ (same x) (flat_map-same f g same xs)

abbrev AreSame : Reaching → Reaching → Type 0
AreSame p q = (event : ℕ) (at : At) → p event at ≡ q event at

origin-same : (p q : Reaching) → AreSame p q → (o : Option Src) → from_origin p o ≡ from_origin q o
origin-same p q same None = refl
origin-same p q same (Some src) = same src.event (Byte src.at)

received-same : (p q : Reaching) → AreSame p q → (event k : ℕ) (o : Option Record) → from_received p event k o ≡ from_received q event k o
received-same p q h1 event k o = grind (arith, nat_tests, origin-same)

pub item-same : (at_number : ℕ → Option Record) (p q : Reaching) → AreSame p q → (event : ℕ) (at : At) → from_item_at at_number p event at ≡ from_item_at at_number q event at
item-same at_number p q h1 event at = grind (arith, nat_tests, received-same)

event-same : (at_number : ℕ → Option Record) (p q : Reaching) → AreSame p q → (event : ℕ) (at : At) (items : List EventByte) (o : Option Record) → from_event at_number p event at items o ≡ from_event at_number q event at items o
event-same at_number p q h1 event at items o = grind (arith, nat_tests, flat_map-same, item-same)

pub reached-same : (at_number : ℕ → Option Record) (a b : ℕ → At → List EventByte) → ((event : ℕ) (at : At) → a event at ≡ b event at) → (n : ℕ) → AreSame (reached at_number a n) (reached at_number b n)
reached-same at_number a b h1 n = grind (arith, nat_tests, event-same)

-- pairs go by what reaches the bytes
pub pairs-same : (f g : ℕ → List EventByte) → ((k : ℕ) → f k ≡ g k) → (len k : ℕ) → pairs_from f k len ≡ pairs_from g k len
pairs-same f g same zero k = refl
pairs-same f g same (suc len) k = ap₂ (λ (xs ys : List Pair). xs ++ ys) (ap (byte_pairs k) (same k)) (pairs-same f g same len (k + 1))

module _ (table : Table) (inputs : List Input) (few : HasNumbers (machine_after inputs).kernel) (passes : GroupsPassThrough) where
  pub tracked-same : (moment g : ℕ) → tracked_at table (records inputs) moment g ≡ lineage.local_at table inputs moment g
  tracked-same moment g =
      let p = passes inputs g moment few in ap (tracked_of table) p.made ∙ ap (alone table) p.heard

  items-by : (moment event : ℕ) (at : At) (o : Option ℕ) → items_in table (records inputs) moment event at o ≡ lineage.items_in table inputs moment event at o
  items-by moment event at None = refl
  items-by moment event at (Some g) = ap (λ (t : Tracked EventByte). t.points event at) (tracked-same moment g)

  pub reaching-joined : (moment event : ℕ) (at : At) → reaching table (records inputs) moment event at ≡ joined_point table inputs moment event at
  reaching-joined moment event at = grind (arith, nat_tests, items-by, reached-same)

  no-disagreement : (moment g : ℕ) → disagreement_in (history.alone (records inputs) g moment) ≡ None
  no-disagreement moment g = ap disagreement_in (passes inputs g moment few).made

  pub none-disagrees : (moment : ℕ) (groups : List ℕ) → first_disagreement (records inputs) moment groups ≡ None
  none-disagrees moment [] = refl
  none-disagrees moment (g ∷ groups) =
      ap (λ (o : Option Disagrees). or_first o (first_disagreement (records inputs) moment groups)) (no-disagreement moment g) ∙ none-disagrees moment groups

  module _ (joined : LineageIsJoined) (told : RecordsTellEvents) (tell : StepsTell) where
    is-within : (event : ℕ) → event < how_many (records inputs) → event < length (events_of (within (moment_of (records inputs) event) (run inputs)))
    is-within event there =
        let moment = moment_of (records inputs) event in
        let len = length (events_of (within moment (run inputs))) in
        let has = subst (λ (xs : List ℕ). Contains xs event) (told inputs moment) (has-happened (records inputs) event there) in
        omega (arith, (range-in 0 len event has).1)

    point-whole : (event : ℕ) (at : At) → event < how_many (records inputs) → reaching table (records inputs) (moment_of (records inputs) event) event at ≡ whole_points table inputs event at
    point-whole event at there =
        let moment = moment_of (records inputs) event in
        let low = is-within event there in
        reaching-joined moment event at
        ∙ (sym ((joined table inputs moment few).points event at low)
        ∙ within-stays table event at at_first (run inputs) moment whole.at_first (tell inputs few) (omega (arith, low)))

    pub answers : AnswersRun table inputs
    answers = grind (arith, common_steps, nat_tests, none-disagrees, point-whole, pairs-same)
