-- What whole tracking gives an event's bytes stays what it was.
use Rattle.std.proofs.Common.{◌≡◌, ℕ, zero, suc, ◌+◌, ◌<◌, ◌≤◌, Bool, true, false, List, [], ◌∷◌, length, map, Option, Some, None, refl, sym, ◌∙◌, arith}
use Rattle.std.proofs.lemmas.Bool.Decides.{nat_tests}
use Rattle.std.specs.List.{cons_option}
use Rattle.std.proofs.lemmas.Bool.Decides.{eqb_tells}
use Rattle.rv64_model.specs.Carries.{Table}
use Rattle.acts_model.specs.Moved.{Event, Moved, is_instruction}
use Rattle.arn_model.specs.Kernel.{Machine}
use Rattle.arn_model.specs.Run.{within, unless_reached, events_of}
use Rattle.arn_model.specs.Step.{Step}
use Rattle.arn_model.specs.Tells.{StepTells, Along}
use Rattle.lineage_model.specs.Flow.{At, shown}
use Rattle.lineage_model.specs.Tracking.{EventByte, points_after, gather}
use Rattle.lineage_model.specs.Whole.{Whole, given, whole_after, whole_from}

-- a step is the next event, or none
abbrev pub IsNext : ℕ → Option Event → ℕ → Type 0
IsNext n None later = later ≡ n
IsNext n (Some event) later = (event.number ≡ n) × (later ≡ n + 1)

pub numbers-step : (m : Machine) (s : Step) → StepTells m s → IsNext m.events s.moved.inside.event s.after.events
numbers-step m s h1 = grind (arith, nat_tests)

abbrev moves : List Step → List Moved
moves steps = map (λ s. s.moved) steps

abbrev points : Whole → ℕ → At → List EventByte
points w = w.tracked.points

-- a step leaves the bytes of earlier events
point-stays : (n later e : ℕ) (event : Option Event) (showing : At → List EventByte) (old : ℕ → At → List EventByte) (at : At) → IsNext n event later → e < n → points_after event showing old e at ≡ old e at
point-stays n later e event showing old at h1 h2 = grind (arith, nat_tests, eqb_tells)

later-number : (n later : ℕ) (event : Option Event) → IsNext n event later → n ≤ later
later-number n later None next = omega (arith, next)
later-number n later (Some event) next = omega (arith, next.1)

module _ (table : Table) (e : ℕ) (at : At) where
  step-stays : (m : Machine) (s : Step) (w : Whole) → StepTells m s → e < m.events → points (whole_after table s.moved w) e at ≡ points w e at
  step-stays m s w tells low =
      point-stays m.events s.after.events e s.moved.inside.event (λ a. gather (given s.moved w) w.tracked.locations (shown s.moved.inside.transfer a)) w.tracked.points at (numbers-step m s tells) low

  pub all-stay : (m : Machine) (steps : List Step) (w : Whole) → Along StepTells m steps → e < m.events → points (whole_from table (moves steps) w) e at ≡ points w e at
  all-stay m [] w tells low = refl
  all-stay m (s ∷ steps) w tells low =
      let more = later-number m.events s.after.events s.moved.inside.event (numbers-step m s tells.0) in
      all-stay s.after steps (whole_after table s.moved w) tells.1 (omega (arith, more, low)) ∙ step-stays m s w tells.0 low

  one-event : (n later : ℕ) (event : Option Event) (events : List Event) → IsNext n event later → e < n + length (cons_option event events) → e < later + length events
  one-event n later None events next low = omega (arith, next, low)
  one-event n later (Some event) events next low = omega (arith, next.1, low)

  -- up to a moment, and behind it
  pub within-stays : (m : Machine) (steps : List Step) (moment : ℕ) (w : Whole) → Along StepTells m steps → e < m.events + length (events_of (within moment steps))
      → points (whole_from table (moves (within moment steps)) w) e at ≡ points (whole_from table (moves steps) w) e at
  within-stays m [] moment w tells low = refl
  within-stays m (s ∷ steps) moment w tells low =
      by-test (is_instruction s.moved.inside) moment low (λ left. within-stays s.after steps left (whole_after table s.moved w) tells.1)
    where
      by-test : (b : Bool) (moment : ℕ) → e < m.events + length (events_of (unless_reached b moment (λ left. s ∷ within left steps)))
          → ((left : ℕ) → e < s.after.events + length (events_of (within left steps)) → points (whole_from table (moves (within left steps)) (whole_after table s.moved w)) e at ≡ points (whole_from table (moves steps) (whole_after table s.moved w)) e at)
          → points (whole_from table (moves (unless_reached b moment (λ left. s ∷ within left steps))) w) e at ≡ points (whole_from table (moves (s ∷ steps)) w) e at
      by-test false moment low rest = rest moment (one-event m.events s.after.events s.moved.inside.event (events_of (within moment steps)) (numbers-step m s tells.0) low)
      by-test true zero low rest = sym (all-stay m (s ∷ steps) w tells (omega (arith, low)))
      by-test true (suc left) low rest = rest left (one-event m.events s.after.events s.moved.inside.event (events_of (within left steps)) (numbers-step m s tells.0) low)
