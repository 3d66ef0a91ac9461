-- The moments of events, told by which events have happened at each moment.
use Rattle.std.proofs.Common.{◌≡◌, ℕ, zero, suc, ◌+◌, ◌<◌, ◌≤◌, Bool, true, false, nat_le, if◌then◌else◌, List, [], ◌∷◌, length, map, Option, Some, None, is_some, slice_get, refl, sym, ap, ap₂, ◌∙◌, add-zero, arith, le-leb, leb-true}
use Rattle.std.proofs.lemmas.Bool.Decides.{nat_tests}
use Rattle.std.specs.List.{range_with_len}
use Rattle.arn_base.specs.declared.records.Record.{Record}
use Rattle.arn_base.specs.declared.records.Record.TheVariants as entry
use Rattle.acts_model.specs.Moved.{Event, is_instruction}
use Rattle.arn_model.specs.Run.{Input, events_of, run, unless_reached, within}
use Rattle.arn_model.specs.Step.{Step}
use Rattle.history_index.specs.Lookups.{event_moment, if_kept, moments_from}
use Rattle.history_model.specs.Moments.{Numbered, events_from}
use Rattle.log_model.specs.Records.{records}
use Rattle.replay_laws.specs.Laws.{RecordsTellEvents}
use Rattle.view_laws.specs.Counts.{done_with, happened_at, moments_behind}

-- of events with these moments, numbered from k on, the numbers of those that have happened at a moment
abbrev by : ℕ → ℕ → List ℕ → List ℕ
by moment k [] = []
by moment k (m ∷ ms) = if_kept (nat_le m moment) k (by moment (k + 1) ms)

abbrev numbers : List Numbered → List ℕ
numbers events = map (λ e. e.number) events

le-no : (m moment : ℕ) → moment < m → nat_le m moment ≡ false
le-no m moment h = grind (arith, nat_tests)

kept-yes : (m moment k : ℕ) (xs : List ℕ) → m ≤ moment → if_kept (nat_le m moment) k xs ≡ k ∷ xs
kept-yes m moment k xs h = ap (λ (b : Bool). if_kept b k xs) (le-leb m moment h)

kept-no : (m moment k : ℕ) (xs : List ℕ) → moment < m → if_kept (nat_le m moment) k xs ≡ xs
kept-no m moment k xs h = ap (λ (b : Bool). if_kept b k xs) (le-no m moment h)

told-by : (entries : List Record) (moment begins ends k : ℕ) → numbers (events_from moment begins ends k entries) ≡ by moment k (moments_from begins ends entries)
told-by [] moment begins ends k = refl
told-by (entry.Slice pid ran ∷ entries) moment begins ends k = told-by entries moment ends (ends + ran) k
told-by (entry.Signal pid signal cut handler ∷ entries) moment begins ends k = grind (arith, nat_tests, told-by entries moment begins ends (k + 1))
told-by (e ∷ entries) moment begins ends k = grind (arith, nat_tests, told-by entries moment begins ends (k + 1))

-- by the steps: nothing has happened before the moment behind which they come
none-step : (o : Option Event) (steps : List Step) (done moment k : ℕ) → moment < done → ((k : ℕ) → by moment k (moments_behind done steps) ≡ [])
    → by moment k (if_kept (is_some o) done (moments_behind done steps)) ≡ []
none-step None steps done moment k h none = none k
none-step (Some event) steps done moment k h none = kept-no done moment k _ h ∙ none (k + 1)

none-by : (steps : List Step) (done moment k : ℕ) → moment < done → by moment k (moments_behind done steps) ≡ []
none-by [] done moment k h = refl
none-by (s ∷ steps) done moment k h =
    let more : moment < done_with done s = omega (arith, h) in
    none-step s.moved.inside.event steps (done_with done s) moment k more (λ k. none-by steps (done_with done s) moment k more)

len-quiet : (s : Step) (steps : List Step) → s.moved.inside.event ≡ None → length (events_of (s ∷ steps)) ≡ length (events_of steps)
len-quiet s steps e = rw e refl

len-loud : (s : Step) (steps : List Step) (event : Event) → s.moved.inside.event ≡ Some event → length (events_of (s ∷ steps)) ≡ suc (length (events_of steps))
len-loud s steps event e = rw e refl

-- the events of steps up to a moment
abbrev Counted : List Step → Type 0
Counted steps = (done left k : ℕ) → range_with_len k (length (events_of (within left steps))) ≡ by (done + left) k (moments_behind done steps)

step-by : (s : Step) (steps : List Step) (b : Bool) (o : Option Event) → s.moved.inside.event ≡ o → Counted steps → (done left k : ℕ)
    → range_with_len k (length (events_of (unless_reached b left (λ left. s ∷ within left steps))))
    ≡ by (done + left) k (if_kept (is_some o) (done + (if b then 1 else 0)) (moments_behind (done + (if b then 1 else 0)) steps))
step-by s steps false None e all done left k = grind (arith, nat_tests, len-quiet s (within left steps) e, add-zero done)
step-by s steps false (Some event) e all done left k = grind (arith, nat_tests, len-loud s (within left steps) event e, add-zero done)
step-by s steps true None e all done zero k = sym (none-by steps (done + 1) (done + zero) k (omega arith))
step-by s steps true (Some event) e all done zero k = grind (arith, nat_tests, none-by steps (done + 1) (done + zero) (k + 1) (omega arith))
step-by s steps true None e all done (suc left) k =
    ap (λ (n : ℕ). range_with_len k n) (len-quiet s (within left steps) e)
    ∙ all (done + 1) left k
    ∙ ap (λ (n : ℕ). by n k (moments_behind (done + 1) steps)) (omega arith)
step-by s steps true (Some event) e all done (suc left) k =
    ap (λ (n : ℕ). range_with_len k n) (len-loud s (within left steps) event e)
    ∙ ap (λ (l : List ℕ). k ∷ l) (all (done + 1) left (k + 1) ∙ ap (λ (n : ℕ). by n (k + 1) (moments_behind (done + 1) steps)) (omega arith))
    ∙ sym (kept-yes (done + 1) (done + suc left) k _ (omega arith))

steps-by : (steps : List Step) → Counted steps
steps-by [] = λ done left k. refl
steps-by (s ∷ steps) = step-by s steps (is_instruction s.moved.inside) s.moved.inside.event refl (steps-by steps)

-- moments are told by which events have happened at each
either-first : (b : Bool) (xs rest : List ℕ) (j k : ℕ) → k < j → (xs ≡ k ∷ rest → ⊥) → if_kept b j xs ≡ k ∷ rest → ⊥
either-first true xs rest j k h behind e = let is : j ≡ k = cc in absurd (omega (arith, h, is))
either-first false xs rest j k h behind e = behind e

not-first : (ms rest : List ℕ) (moment j k : ℕ) → k < j → by moment j ms ≡ k ∷ rest → ⊥
not-first [] rest moment j k h e = cc
not-first (m ∷ ms) rest moment j k h e = grind (arith, nat_tests, either-first (nat_le m moment) (by moment (j + 1) ms) rest j k h (not-first ms rest moment (j + 1) k (omega (arith, h))) e)

has-come : (b : Bool) (ms rest : List ℕ) (moment k : ℕ) → if_kept b k (by moment (k + 1) ms) ≡ k ∷ rest → b ≡ true
has-come true ms rest moment k e = refl
has-come false ms rest moment k e = absurd (not-first ms rest moment (k + 1) k (omega arith) e)

-- an event with the first moment has happened at the second
comes-by : (m d k : ℕ) (ms ds : List ℕ) → by d k (m ∷ ms) ≡ by d k (d ∷ ds) → m ≤ d
comes-by m d k ms ds e = leb-true m d (has-come (nat_le m d) ms (by d (k + 1) ds) d k (e ∙ kept-yes d d k _ (omega arith)))

same-rest : (b : Bool) (k : ℕ) (xs ys : List ℕ) → if_kept b k xs ≡ if_kept b k ys → xs ≡ ys
same-rest true k xs ys e = cc
same-rest false k xs ys e = e

same-moments : (ms ds : List ℕ) (k : ℕ) → ((moment : ℕ) → by moment k ms ≡ by moment k ds) → ms ≡ ds
same-moments [] [] k same = refl
same-moments [] (d ∷ ds) k same = let no : [] ≡ k ∷ by d (k + 1) ds = same d ∙ kept-yes d d k _ (omega arith) in absurd (cc)
same-moments (m ∷ ms) [] k same = let no : [] ≡ k ∷ by m (k + 1) ms = sym (same m) ∙ kept-yes m m k _ (omega arith) in absurd (cc)
same-moments (m ∷ ms) (d ∷ ds) k same =
    let first = comes-by m d k ms ds (same d) in
    let second = comes-by d m k ds ms (sym (same m)) in
    let is : m ≡ d = omega (arith, first, second) in
    ap₂ (λ (x : ℕ) (xs : List ℕ). x ∷ xs) is
    (same-moments ms ds (k + 1) (λ moment.
    same-rest (nat_le d moment) k (by moment (k + 1) ms) (by moment (k + 1) ds)
    (ap (λ (x : ℕ). if_kept (nat_le x moment) k (by moment (k + 1) ms)) (sym is) ∙ same moment)))

pub moment-told : (inputs : List Input) → RecordsTellEvents → (n : ℕ) → event_moment (records inputs) n ≡ happened_at inputs n
moment-told inputs told n =
    ap (λ (ms : List ℕ). slice_get ms n)
    (same-moments (moments_from 0 0 (records inputs)) (moments_behind 0 (run inputs)) 0 (λ moment.
    sym (told-by (records inputs) moment 0 0 0)
    ∙ told inputs moment
    ∙ steps-by (run inputs) 0 moment 0
    ∙ ap (λ (x : ℕ). by x 0 (moments_behind 0 (run inputs))) (omega arith)))
