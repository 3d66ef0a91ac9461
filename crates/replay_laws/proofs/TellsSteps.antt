-- What is known of each step of a run, and folds over the events of steps.
use Rattle.std.proofs.lemmas.Bool.Decides.{nat_tests}
use Rattle.std.proofs.Common.{◌≡◌, ℕ, ◌+◌, Bool, List, [], ◌∷◌, Option, None, Some, length, map, refl, ap, subst, arith}
use Rattle.std.specs.List.{cons_option}
use Rattle.arn_base.specs.declared.records.Record.{Record}
use Rattle.acts_model.specs.Moved.{Event, is_instruction}
use Rattle.arn_model.specs.Kernel.{Machine, at_first}
use Rattle.arn_model.specs.Laws.{StepsTell, EachRunIsSound, KeepsNumbers}
use Rattle.arn_model.specs.Run.{Input, run, machine_after, events_of, within, unless_reached}
use Rattle.arn_model.specs.Sound.{IsSoundMachine}
use Rattle.arn_model.specs.Step.{Step}
use Rattle.arn_model.specs.Tells.{StepTells, Runs, Happens, Boots, Adds, Types, Unplugs, HasNumbers, Along}
use Rattle.arn_model.specs.Turn.{after_steps}
use Rattle.history_model.specs.Moments.{Numbered}
use Rattle.log_model.specs.Records.{event_records}
use Rattle.replay_laws.proofs.TellsUntil.{numbered}

pub record Facts (m : Machine) (s : Step) : Type 0 where
  pub tells : StepTells m s
  pub sound : IsSoundMachine m
  pub numbers : KeepsNumbers m s

facts-along : (m : Machine) (steps : List Step) → Along StepTells m steps → Along (λ m s. IsSoundMachine m) m steps → Along KeepsNumbers m steps → Along Facts m steps
facts-along m [] tells sound numbers = tt
facts-along m (s ∷ steps) tells sound numbers = (record { tells = tells.0; sound = sound.0; numbers = numbers.0 }, facts-along s.after steps tells.1 sound.1 numbers.1)

pub run-facts : StepsTell → EachRunIsSound → (inputs : List Input) → HasNumbers (machine_after inputs).kernel → Along Facts at_first (run inputs)
run-facts tell sound inputs few = facts-along at_first (run inputs) (tell inputs few) (sound inputs).along (sound inputs).numbers

-- a fact of each step is one of those up to a moment
pub within-along : (P : Machine → Step → Type 0) (m : Machine) (left : ℕ) (steps : List Step) → Along P m steps → Along P m (within left steps)
within-along P m left [] h = tt
within-along P m left (s ∷ steps) h = by_test (is_instruction s.moved.inside) left (λ left. within-along P s.after left steps h.1)
  where
    by_test : (b : Bool) (left : ℕ) → ((left : ℕ) → Along P s.after (within left steps)) → Along P m (unless_reached b left (λ left. s ∷ within left steps))
    by_test b left h1 = grind (arith, nat_tests)

-- a value that each event changes
abbrev pub by_event : {S : Type 0} → (ℕ → Record → S → S) → Option Event → S → S
by_event f None st = st
by_event f (Some e) st = f e.number e.entry st

abbrev pub fold_events : {S : Type 0} → (ℕ → Record → S → S) → List Event → S → S
fold_events f [] st = st
fold_events f (e ∷ es) st = fold_events f es (f e.number e.entry st)

fold-cons : {S : Type 0} (f : ℕ → Record → S → S) (o : Option Event) (es : List Event) (st : S) → fold_events f es (by_event f o st) ≡ fold_events f (cons_option o es) st
fold-cons f None es st = refl
fold-cons f (Some e) es st = refl

-- what it has to do with the machine, each step keeps
pub fold-keeps : {S : Type 0} (f : ℕ → Record → S → S) (Rel : Machine → S → Type 0)
    → ((m : Machine) (s : Step) (st : S) → Facts m s → Rel m st → Rel s.after (by_event f s.moved.inside.event st))
    → (m : Machine) (steps : List Step) (st : S) → Along Facts m steps → Rel m st → Rel (after_steps m steps) (fold_events f (events_of steps) st)
fold-keeps f Rel keeps m [] st h r = r
fold-keeps {S = S} f Rel keeps m (s ∷ steps) st h r =
    let next = by_event f s.moved.inside.event st in
    subst (λ (x : S). Rel (after_steps s.after steps) x) (fold-cons f s.moved.inside.event (events_of steps) st)
    (fold-keeps f Rel keeps s.after steps next h.1 (keeps m s st h.0 r))

-- a step is no event, or the next one
data Counted (m : Machine) (s : Step) : Type 0 where
  NoEvent : s.moved.inside.event ≡ None → s.after.events ≡ m.events → Counted m s
  OneEvent : (e : Record) → s.moved.inside.event ≡ Some (record { number = m.events; entry = e }) → s.after.events ≡ m.events + 1 → Counted m s

counted : (m : Machine) (s : Step) → StepTells m s → Counted m s
counted m s (Runs pid v instr cpu memory sees stands is) = NoEvent (ap (λ (x : Step). x.moved.inside.event) is) (ap (λ (x : Step). x.after.events) is)
counted m s (Happens pid v d entry tells is) = OneEvent entry (ap (λ (x : Step). x.moved.inside.event) is) (ap (λ (x : Step). x.after.events) is)
counted m s (Boots path file held first found bytes image is) = OneEvent _ (ap (λ (x : Step). x.moved.inside.event) is) (ap (λ (x : Step). x.after.events) is)
counted m s (Adds path bytes may is) = OneEvent _ (ap (λ (x : Step). x.moved.inside.event) is) (ap (λ (x : Step). x.after.events) is)
counted m s (Types bytes may is) = OneEvent _ (ap (λ (x : Step). x.moved.inside.event) is) (ap (λ (x : Step). x.after.events) is)
counted m s (Unplugs device may is) = OneEvent _ (ap (λ (x : Step). x.moved.inside.event) is) (ap (λ (x : Step). x.after.events) is)

-- so events have their numbers
abbrev pub as_numbered : Event → Numbered
as_numbered e = record { number = e.number; entry = e.entry }

pub numbered-events : (m : Machine) (steps : List Step) → Along Facts m steps → numbered m.events (event_records steps) ≡ map as_numbered (events_of steps)
numbered-events m [] h = refl
numbered-events m (s ∷ steps) h = by_count (counted m s h.0.tells) (numbered-events s.after steps h.1)
  where
    by_count : Counted m s → numbered s.after.events (event_records steps) ≡ map as_numbered (events_of steps) → numbered m.events (event_records (s ∷ steps)) ≡ map as_numbered (events_of (s ∷ steps))
    by_count h1 h2 = grind (arith, nat_tests)

-- and they are counted
pub events-counted : (m : Machine) (steps : List Step) → Along Facts m steps → length (event_records steps) + m.events ≡ (after_steps m steps).events
events-counted m [] h = omega arith
events-counted m (s ∷ steps) h = by_count (counted m s h.0.tells) (events-counted s.after steps h.1)
  where
    by_count : Counted m s → length (event_records steps) + s.after.events ≡ (after_steps s.after steps).events → length (event_records (s ∷ steps)) + m.events ≡ (after_steps s.after steps).events
    by_count h1 h2 = grind (arith, nat_tests)
