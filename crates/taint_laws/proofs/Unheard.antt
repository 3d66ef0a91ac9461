-- Events that aren't heard show nothing.
use Rattle.std.proofs.Common.{◌≡◌, ℕ, Bool, true, false, List, [], ◌∷◌, Option, Some, if◌then◌else◌, refl, ap, arith}
use Rattle.std.proofs.lemmas.Bool.Decides.{nat_tests}
use Rattle.rv64_model.specs.Carries.{Table}
use Rattle.acts_model.specs.Moved.{Event, Inside}
use Rattle.acts_model.specs.Transfers.{Transfer, Founds, Begins}
use Rattle.lineage_model.specs.Flow.{At, StartRegister, StartSlot, StartMemory, shown}
use Rattle.lineage_model.specs.Tracking.{EventByte, Tracked, alone_after, alone_from, gather, items, untracked}
use Rattle.acts_model.specs.Records.{event_len}
use Rattle.taint_state.specs.Goes.{Hearing, Hearings, heard_after}
use Rattle.taint_state.specs.Steps.{founds}
use Rattle.taint_laws.specs.Follows.{heard_from, none_heard}
use Rattle.taint_laws.specs.Laws.{ShowsNothing, UnheardHaveNone}

-- events so far of which nothing is shown
abbrev HaveNone : Hearings → Tracked EventByte → Type 0
HaveNone heard t = (event : ℕ) (at : At) → ShowsNothing (heard event) at → t.points event at ≡ []

-- what a step shows at a byte with which a child begins, unless it is a fork that starts a group
register-unfounded : (transfer : Transfer) (r i : ℕ) → founds transfer ≡ false → shown transfer (StartRegister r i) ≡ []
register-unfounded (Founds pid child from into) r i h = absurd (cc)
register-unfounded transfer r i h = refl

slot-unfounded : (transfer : Transfer) (r i : ℕ) → founds transfer ≡ false → shown transfer (StartSlot r i) ≡ []
slot-unfounded (Founds pid child from into) r i h = absurd (cc)
slot-unfounded transfer r i h = refl

memory-unfounded : (transfer : Transfer) (at : ℕ) → founds transfer ≡ false → shown transfer (StartMemory at) ≡ []
memory-unfounded (Founds pid child from into) at h = absurd (cc)
memory-unfounded transfer at h = refl

begins-nothing : (pid made : ℕ) (at : At) → shown (Begins pid made) at ≡ []
begins-nothing pid made at = grind (arith, nat_tests)

module _ (table : Table) (event : Event) (t : Tracked EventByte) where
  abbrev gathered : Transfer → At → List EventByte
  gathered transfer at = gather (items (Some event)) t.locations (shown transfer at)

  abbrev hearing : Transfer → Hearing
  hearing transfer = record { len = event_len event.entry; founds = founds transfer }

  own-none : (transfer : Transfer) (at : At) → ShowsNothing (Some (hearing transfer)) at → gathered transfer at ≡ []
  own-none transfer at h1 = grind (arith, nat_tests, memory-unfounded, register-unfounded, slot-unfounded)

  by-number : (transfer : Transfer) (o : Option Hearing) (rest : List EventByte) (at : At) → (ShowsNothing o at → rest ≡ []) → (b : Bool)
      → ShowsNothing (if b then Some (hearing transfer) else o) at → (if b then gathered transfer at else rest) ≡ []
  by-number transfer o rest at h1 b h2 = grind (arith, nat_tests, own-none)

  by-begin : (pid made : ℕ) (rest : List EventByte) (at : At) → rest ≡ [] → (b : Bool) → (if b then gathered (Begins pid made) at else rest) ≡ []
  by-begin pid made rest at k true = ap (gather (items (Some event)) t.locations) (begins-nothing pid made at)
  by-begin pid made rest at k false = k

step-none : (table : Table) (inside : Inside) (heard : Hearings) (t : Tracked EventByte) → HaveNone heard t → HaveNone (heard_after inside heard) (alone_after table inside t)
step-none table inside heard t h1 = grind (arith, nat_tests, by-begin, by-number)

from-none : (table : Table) (list : List Inside) (heard : Hearings) (t : Tracked EventByte) → HaveNone heard t → HaveNone (heard_from list heard) (alone_from table list t)
from-none table [] heard t h = h
from-none table (inside ∷ list) heard t h = from-none table list (heard_after inside heard) (alone_after table inside t) (step-none table inside heard t h)

pub unheard-none : UnheardHaveNone
unheard-none table list event at = from-none table list none_heard untracked (λ e a h. refl) event at
