-- Lists of what happened inside a group, whose events are those of the group and rise.
use Rattle.std.proofs.Common.{◌≡◌, ℕ, ◌+◌, ◌≤◌, ◌++◌, List, [], ◌∷◌, Option, Some, None, refl, arith}
use Rattle.std.proofs.lemmas.Bool.Decides.{nat_tests}
use Rattle.std.specs.List.{AllByRecursion}
use Rattle.arn_base.specs.declared.records.Record.{Record}
use Rattle.acts_model.specs.Acts.{Act}
use Rattle.acts_model.specs.Moved.{Event, Inside}
use Rattle.acts_model.specs.Transfers.{Holds, Transfer, Begins, transfer}
use Rattle.history_model.specs.Events.{event_at}
use Rattle.history_model.specs.Exchanges.{founded}
use Rattle.history_model.specs.Groups.{event_group}
use Rattle.query_laws.proofs.Decoded.{FitsRun, ReadsRegisters}

-- the number of the next event, behind one or none
abbrev pub next : ℕ → Option Event → ℕ
next n None = n
next n (Some event) = event.number + 1

abbrev pub IsLater : ℕ → Option Event → Type 0
IsLater n None = Unit {0}
IsLater n (Some event) = n ≤ event.number

-- an event is of a process of the group; but a group begins by the fork that founds it
abbrev pub IsBy : List Record → ℕ → Event → Transfer → Type 0
IsBy entries g event (Begins pid made) = (founded event.entry ≡ Some g) × (pid ≡ g) × (made ≡ event.number)
IsBy entries g event _ = event_group entries event.number ≡ Some g

pub record IsOf (entries : List Record) (g : ℕ) (event : Event) (transfer : Transfer) : Type 0 where
  pub there : event_at entries event.number ≡ Some event.entry
  pub by : IsBy entries g event transfer

abbrev pub IsHeard : List Record → ℕ → Option Event → Transfer → Type 0
IsHeard entries g None transfer = Unit {0}
IsHeard entries g (Some event) transfer = IsOf entries g event transfer

pub act-by : (entries : List Record) (g : ℕ) (event : Event) (pid made : ℕ) (holds : Holds) (a : Act) → event_group entries event.number ≡ Some g → IsBy entries g event (transfer pid made holds a)
act-by entries g event pid made holds a h1 = grind (arith, nat_tests)

module _ (entries : List Record) (g : ℕ) where
  -- all that happened, where the next event has at least this number
  abbrev pub AreHeard : ℕ → List Inside → Type 0
  AreHeard n [] = Unit {0}
  AreHeard n (i ∷ list) = IsLater n i.event × IsHeard entries g i.event i.transfer × AreHeard (next n i.event) list

abbrev pub last : ℕ → List Inside → ℕ
last n [] = n
last n (i ∷ list) = last (next n i.event) list

pub last-push : (n : ℕ) (list : List Inside) (i : Inside) → last n (list ++ i ∷ []) ≡ next (last n list) i.event
last-push n [] i = refl
last-push n (x ∷ list) i = last-push (next n x.event) list i

pub heard-push : (entries : List Record) (g n : ℕ) (list : List Inside) (i : Inside) → AreHeard entries g n list → IsLater (last n list) i.event → IsHeard entries g i.event i.transfer → AreHeard entries g n (list ++ i ∷ [])
heard-push entries g n [] i h later is = (later, is, tt)
heard-push entries g n (x ∷ list) i h later is = (h.0, h.1, heard-push entries g (next n x.event) list i h.2 later is)

-- an instruction reads registers that there are
abbrev pub RunsWell : Transfer → Type 0
RunsWell transfer = FitsRun ReadsRegisters transfer

pub act-runs : (pid made : ℕ) (holds : Holds) (a : Act) → RunsWell (transfer pid made holds a)
act-runs pid made holds a = grind (arith, nat_tests)

abbrev pub AllRunWell : List Inside → Type 0
AllRunWell list = AllByRecursion (λ i. RunsWell i.transfer) list

runs-push : (list : List Inside) (i : Inside) → AllRunWell list → RunsWell i.transfer → AllRunWell (list ++ i ∷ [])
runs-push [] i all is = (is, tt)
runs-push (x ∷ list) i all is = (all.0, runs-push list i all.1 is)

-- all events so far have numbers below this
pub record State (entries : List Record) (g m : ℕ) (list : List Inside) : Type 0 where
  pub heard : AreHeard entries g 0 list
  pub runs : AllRunWell list
  pub below : last 0 list ≤ m

pub quiet-state : (entries : List Record) (g m : ℕ) (list : List Inside) (i : Inside) → i.event ≡ None → RunsWell i.transfer → State entries g m list → State entries g m (list ++ i ∷ [])
quiet-state entries g m list i h1 h2 h3 = grind (arith, nat_tests, heard-push, last, last-push, next, runs-push)

pub event-state : (entries : List Record) (g m : ℕ) (list : List Inside) (i : Inside) (event : Event) → i.event ≡ Some event → event.number ≡ m → RunsWell i.transfer → IsOf entries g event i.transfer → State entries g m list → State entries g (m + 1) (list ++ i ∷ [])
event-state entries g m list i event h1 h2 h3 h4 h5 = grind (arith, nat_tests, heard-push, last, last-push, next, runs-push)

pub later-state : (entries : List Record) (g m : ℕ) (list : List Inside) → State entries g m list → State entries g (m + 1) list
later-state entries g m list s = record { heard = s.heard; runs = s.runs; below = (let b = s.below in omega (arith, b)) }
