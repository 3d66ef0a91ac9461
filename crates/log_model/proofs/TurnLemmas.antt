-- The records of a turn's steps.
use Rattle.std.proofs.lemmas.Bool.Decides.{nat_tests}
use Rattle.std.proofs.Common.{◌≡◌, ℕ, ◌++◌, Bool, List, [], ◌∷◌, Option, None, Some, option_to_list, filter, refl, ap, arith}
use Rattle.arn_base.specs.declared.records.Record.{Record}
use Rattle.arn_base.specs.declared.records.Record.TheVariants as entry
use Rattle.parts_model.specs.Replies.{Answered}
use Rattle.acts_model.specs.Records.{is_event}
use Rattle.arn_model.specs.Kernel.{Machine}
use Rattle.arn_model.specs.Laws.{reply_told}
use Rattle.arn_model.specs.Parts.{MaybeDelivery, ArePlain, MaybeLast, IsTurn, TurnsHaveParts}
use Rattle.arn_model.specs.Step.{Step}
use Rattle.arn_model.specs.Turn.{Turn, steps_of, turn}
use Rattle.log_model.specs.Records.{event_records, reply_behind, named}

-- plain instructions have no records
plain-records : (plain rest : List Step) → ArePlain plain → event_records (plain ++ rest) ≡ event_records rest
plain-records [] rest are = refl
plain-records (s ∷ plain) rest are = rw are.0.event (plain-records plain rest are.1)

-- what holds of the records of the last step, and of more behind a delivery's, holds of those of a turn
delivery-records : (P : List Record → Type 0) (o : Option Step) (rest : List Step) → MaybeDelivery o → ((pid signal handler : ℕ) (cut : Bool) (entries : List Record) → P entries → P (entry.Signal pid signal cut handler ∷ entries)) → P (event_records rest) → P (event_records (option_to_list o ++ rest))
delivery-records P None rest is more holds = holds
delivery-records P (Some s) rest is more holds = rw is.event (more is.pid is.signal is.handler is.cut (event_records rest) holds)

turn-records : (P : List Record → Type 0) (t : Turn) → IsTurn t → ((pid signal handler : ℕ) (cut : Bool) (entries : List Record) → P entries → P (entry.Signal pid signal cut handler ∷ entries)) → P (event_records (option_to_list t.last)) → P (event_records (steps_of t))
turn-records P t h1 h2 h3 = grind (arith, nat_tests, delivery-records, plain-records)

-- all of them are of events
last-kept : (o : Option Step) → MaybeLast o → filter is_event (event_records (option_to_list o)) ≡ event_records (option_to_list o)
last-kept o h1 = grind (arith, nat_tests)

pub turn-kept : TurnsHaveParts → (n pid : ℕ) (reply : Option Answered) (m : Machine) → filter is_event (event_records (steps_of (turn n pid reply m))) ≡ event_records (steps_of (turn n pid reply m))
turn-kept parts n pid reply m =
    let t = turn n pid reply m in
    let is = parts n pid reply m in
    turn-records (λ (entries : List Record). filter is_event entries ≡ entries) t is
    (λ p signal handler cut entries kept. ap (λ (x : List Record). entry.Signal p signal cut handler ∷ x) kept)
    (last-kept t.last is.last)

-- they name no input
last-names-none : (o : Option Step) → MaybeLast o → named (event_records (option_to_list o)) ≡ []
last-names-none o h1 = grind (arith, nat_tests)

pub turn-names-none : TurnsHaveParts → (n pid : ℕ) (reply : Option Answered) (m : Machine) → named (event_records (steps_of (turn n pid reply m))) ≡ []
turn-names-none parts n pid reply m =
    let t = turn n pid reply m in
    let is = parts n pid reply m in
    turn-records (λ (entries : List Record). named entries ≡ []) t is (λ p signal handler cut entries none. none) (last-names-none t.last is.last)

-- the reply behind a delivery is that of the last step
last-reply : (o : Option Step) → MaybeLast o → reply_behind (event_records (option_to_list o)) ≡ reply_told o
last-reply o h1 = grind (arith, nat_tests)

pub turn-reply : TurnsHaveParts → (n pid : ℕ) (reply : Option Answered) (m : Machine) → reply_behind (event_records (steps_of (turn n pid reply m))) ≡ reply_told (turn n pid reply m).last
turn-reply parts n pid reply m =
    let t = turn n pid reply m in
    let is = parts n pid reply m in
    turn-records (λ (entries : List Record). reply_behind entries ≡ reply_told t.last) t is (λ p signal handler cut entries same. same) (last-reply t.last is.last)
