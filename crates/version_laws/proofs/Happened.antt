-- The events that have happened at a moment, by the records, are those of the run's steps up to it.
use Rattle.std.proofs.lemmas.Bool.Decides.{nat_tests}
use Rattle.std.proofs.Common.{◌≡◌, ℕ, zero, suc, ◌+◌, ◌≤◌, Bool, true, false, nat_le, List, [], ◌∷◌, Option, None, Some, length, map, filter, take, refl, ap, ◌∙◌, arith}
use Rattle.std.specs.List.{cons_option, range_with_len}
use Rattle.std.proofs.lemmas.List.{take-map}
use Rattle.arn_base.specs.declared.records.Record.{Record}
use Rattle.arn_base.specs.declared.records.Record.TheVariants as entry
use Rattle.acts_model.specs.Moved.{Event, is_instruction}
use Rattle.acts_model.specs.Records.{is_event}
use Rattle.arn_model.specs.Run.{Input, run, events_of, within, unless_reached}
use Rattle.arn_model.specs.Step.{Step}
use Rattle.history_model.specs.Moments.{Numbered, events_from, events_until, if_happened}
use Rattle.log_model.specs.Laws.{EventsRecorded}
use Rattle.log_model.specs.Records.{event_records, records}
use Rattle.replay_laws.specs.Laws.{RecordsTellEvents}

-- records with their numbers
abbrev pub numbered : ℕ → List Record → List Numbered
numbered n [] = []
numbered n (e ∷ entries) = record { number = n; entry = e } ∷ numbered (n + 1) entries

-- events from a number on
abbrev AreFrom : ℕ → List Numbered → Type 0
AreFrom n [] = Unit {0}
AreFrom n (e ∷ events) = (n ≤ e.number) × AreFrom n events

if-from : (test : Bool) (least n : ℕ) (e : Record) (events : List Numbered) → least ≤ n → AreFrom least events → AreFrom least (if_happened test n e events)
if-from true least n e events h are = (h, are)
if-from false least n e events h are = are

all-from : (least moment begins ends n : ℕ) (entries : List Record) → least ≤ n → AreFrom least (events_from moment begins ends n entries)
all-from least moment begins ends n [] h = tt
all-from least moment begins ends n (entry.Slice pid ran ∷ entries) h = all-from least moment ends (ends + ran) n entries h
all-from least moment begins ends n (entry.Signal pid signal cut handler ∷ entries) h = grind (arith, nat_tests, all-from least moment begins ends (n + 1) entries (omega (arith, h)))
all-from least moment begins ends n (_ ∷ entries) h = if-from (nat_le ends moment) least n _ _ h (all-from least moment begins ends (n + 1) entries (omega (arith, h)))

-- where their numbers follow each other, they are the first ones
abbrev numbers_of : List Numbered → List ℕ
numbers_of events = map (λ e. e.number) events

abbrev AreFirst : ℕ → List Record → List Numbered → Type 0
AreFirst n rest events = (k : ℕ) → numbers_of events ≡ range_with_len n k → events ≡ numbered n (take k rest)

if-first : (test : Bool) (n : ℕ) (e : Record) (rest : List Record) (events : List Numbered) → AreFrom (n + 1) events → AreFirst (n + 1) rest events → AreFirst n (e ∷ rest) (if_happened test n e events)
if-first true n e rest events from first zero same = absurd (cc)
if-first true n e rest events from first (suc k) same = grind (arith, nat_tests)
if-first false n e rest [] from first zero same = refl
if-first false n e rest (x ∷ events) from first (suc k) same = grind (arith, nat_tests)
if-first false n e rest _ from first _ same = absurd (cc)

all-first : (moment begins ends n : ℕ) (entries : List Record) → AreFirst n (filter is_event entries) (events_from moment begins ends n entries)
all-first moment begins ends n [] zero same = refl
all-first moment begins ends n [] (suc k) same = absurd (cc)
all-first moment begins ends n (entry.Slice pid ran ∷ entries) k same = all-first moment ends (ends + ran) n entries k same
all-first moment begins ends n (entry.Signal pid signal cut handler ∷ entries) k same =
    if-first (nat_le begins moment) n _ _ _ (all-from (n + 1) moment begins ends (n + 1) entries (omega arith)) (all-first moment begins ends (n + 1) entries) k same
all-first moment begins ends n (_ ∷ entries) k same =
    if-first (nat_le ends moment) n _ _ _ (all-from (n + 1) moment begins ends (n + 1) entries (omega arith)) (all-first moment begins ends (n + 1) entries) k same

-- the steps up to a moment are the first ones
cons-first : (o : Option Event) (es all : List Event) → take (length es) all ≡ es → take (length (cons_option o es)) (cons_option o all) ≡ cons_option o es
cons-first None es all same = same
cons-first (Some e) es all same = ap (λ (es : List Event). e ∷ es) same

within-first : (left : ℕ) (steps : List Step) → take (length (events_of (within left steps))) (events_of steps) ≡ events_of (within left steps)
within-first left [] = refl
within-first left (s ∷ steps) = by_test (is_instruction s.moved.inside) left (λ left. within-first left steps)
  where
    by_test : (b : Bool) (left : ℕ) → ((left : ℕ) → take (length (events_of (within left steps))) (events_of steps) ≡ events_of (within left steps))
        → let up = unless_reached b left (λ left. s ∷ within left steps) in take (length (events_of up)) (events_of (s ∷ steps)) ≡ events_of up
    by_test b left h1 = grind (arith, nat_tests, cons-first)

pub events-told : RecordsTellEvents → EventsRecorded → (inputs : List Input) (moment : ℕ) → events_until moment (records inputs) ≡ numbered 0 (event_records (within moment (run inputs)))
events-told tell recorded inputs moment =
    let count = length (events_of (within moment (run inputs))) in
    all-first moment 0 0 0 (records inputs) count (tell inputs moment)
    ∙ ap (λ (es : List Record). numbered 0 (take count es)) (recorded inputs)
    ∙ ap (numbered 0) (take-map (λ e. e.entry) count (events_of (run inputs)))
    ∙ ap (λ (es : List Event). numbered 0 (map (λ e. e.entry) es)) (within-first moment (run inputs))
