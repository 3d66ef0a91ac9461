-- The items of a group alone are bytes that its events received, or with which it began: step by step.
use Rattle.std.proofs.lemmas.Grind.{common_steps}
use Rattle.std.proofs.Common.{◌≡◌, ℕ, ◌<◌, ◌≤◌, ◌++◌, List, [], ◌∷◌, Option, Some, None, option_and_then, ap, sym, subst, ◌∙◌, arith}
use Rattle.std.proofs.lemmas.Bool.Decides.{nat_tests}
use Rattle.std.specs.List.{AllByRecursion}
use Rattle.std.proofs.lemmas.Bool.Decides.{eqb_tells}
use Rattle.arn_base.specs.declared.records.Record.{Record}
use Rattle.rv64_model.specs.Carries.{Table}
use Rattle.acts_model.specs.Moved.{Event, Inside}
use Rattle.acts_model.specs.Transfers.{Transfer, Starts, Receives, Begins}
use Rattle.history_model.specs.Events.{event_at}
use Rattle.history_model.specs.Exchanges.{founded}
use Rattle.lineage_join.specs.Fits.{Precedes}
use Rattle.lineage_model.specs.Flow.{Location, At, Byte, StartRegister, StartSlot, StartMemory, Dependence, Prior, Received, flow, shown}
use Rattle.lineage_model.specs.Tracking.{EventByte, Tracked, alone_after, alone_from, gather, items, points_after}
use Rattle.taint_laws.specs.Follows.{AreSteps, IsStep, holders_from}
use Rattle.taint_state.specs.Goes.{ArePossible, Hearings, IsPossible, heard_after}
use Rattle.taint_state.specs.Steps.{Holders, holders_after}
use Rattle.query_laws.specs.Received.{TakesByte, HasTaken, IsReceivedBy}
use Rattle.query_laws.proofs.Heard.{AreHeard, IsHeard, IsLater, IsOf, last, next}
use Rattle.query_laws.proofs.Scopes.{Scope, IsScope, IsHeld, AreSources, IsGot, IsByte, InScope, IsTaking, flow-held, shown-held}

pub all-append : {A : Type 0} (P : A → Type 0) (xs ys : List A) → AllByRecursion P xs → AllByRecursion P ys → AllByRecursion P (xs ++ ys)
all-append P [] ys a b = b
all-append P (x ∷ xs) ys a b = (a.0, all-append P xs ys a.1 b)

all-weaker : {A : Type 0} (P Q : A → Type 0) → ((x : A) → P x → Q x) → (xs : List A) → AllByRecursion P xs → AllByRecursion Q xs
all-weaker P Q h [] a = tt
all-weaker P Q h (x ∷ xs) a = (h x a.0, all-weaker P Q h xs a.1)

-- what is gathered of sources
gather-sources : (s : Scope) (h : Holders) (P : EventByte → Type 0) (Q : At → Type 0) (given : At → List EventByte) (locations : Location → List EventByte)
    → ((l : Location) → IsHeld s h l → AllByRecursion P (locations l)) → ((at : At) → Q at → AllByRecursion P (given at))
    → (ds : List Dependence) → AreSources s h Q ds → AllByRecursion P (gather given locations ds)
gather-sources s h P Q given locations held got [] a = tt
gather-sources s h P Q given locations held got (Prior l ∷ ds) a =
    all-append P (locations l) (gather given locations ds) (held l a.0) (gather-sources s h P Q given locations held got ds a.1)
gather-sources s h P Q given locations held got (Received at ∷ ds) a =
    all-append P (given at) (gather given locations ds) (got at a.0) (gather-sources s h P Q given locations held got ds a.1)

-- what a step receives is what its record says
abbrev pub IsOfRecord : Transfer → Record → Type 0
IsOfRecord (Starts pid made load len block block_len) e = (k : ℕ) → k < len → TakesByte k e
IsOfRecord (Receives pid place len) e = (k : ℕ) → k < len → TakesByte k e
IsOfRecord transfer e = Unit {0}

abbrev pub TellsRecord : Transfer → Option Event → Type 0
TellsRecord d None = Unit {0}
TellsRecord d (Some event) = IsOfRecord d event.entry

precedes-below : (n e : ℕ) (at : At) → n < e → Precedes n at e
precedes-below n e at h1 = grind (arith, nat_tests)

precedes-byte : (n e : ℕ) (at : At) → IsByte at → e ≡ n → Precedes n at e
precedes-byte n e at h1 h2 = grind (arith, nat_tests)

next-more : (n : ℕ) (o : Option Event) → IsLater n o → n ≤ next n o
next-more n None later = omega arith
next-more n (Some event) later = omega (arith, later)

module _ (table : Table) (s : Scope) (is-scope : IsScope s) (entries : List Record) (g : ℕ) where
  abbrev pub IsNamed : EventByte → Type 0
  IsNamed item = IsReceivedBy entries g item.event item.at × InScope s item.at

  abbrev pub IsBefore : ℕ → EventByte → Type 0
  IsBefore n item = IsNamed item × (item.event < n)

  abbrev pub IsShown : ℕ → EventByte → Type 0
  IsShown e item = IsNamed item × Precedes item.event item.at e

  pub record Keeps (n : ℕ) (h : Holders) (t : Tracked EventByte) : Type 0 where
    pub locations : (l : Location) → IsHeld s h l → AllByRecursion (IsBefore n) (t.locations l)
    pub points : (e : ℕ) (at : At) → InScope s at → AllByRecursion (IsShown e) (t.points e at)

  -- a received byte
  taken-by : (event : Event) (k : ℕ) → event_at entries event.number ≡ Some event.entry → TakesByte k event.entry → HasTaken k (event_at entries event.number)
  taken-by event k there takes = subst (λ (o : Option Record). HasTaken k o) (sym there) takes

  founded-by : (event : Event) → event_at entries event.number ≡ Some event.entry → founded event.entry ≡ Some g → option_and_then founded (event_at entries event.number) ≡ Some g
  founded-by event there founds = ap (option_and_then founded) there ∙ founds

  got-named : (d : Transfer) (event : Event) (at : At) → IsOf entries g event d → IsOfRecord d event.entry → IsGot s d at → IsNamed (record { event = event.number; at = at })
  got-named (Starts pid made load len block block_len) event (Byte k) of tells got = ((of.by, taken-by event k of.there (tells k got)), tt)
  got-named (Receives pid place len) event (Byte k) of tells got = ((of.by, taken-by event k of.there (tells k got)), tt)
  got-named (Begins pid made) event (StartRegister r i) of tells got = (founded-by event of.there of.by.0, got)
  got-named (Begins pid made) event (StartSlot r i) of tells got = (founded-by event of.there of.by.0, got)
  got-named (Begins pid made) event (StartMemory at) of tells got = (founded-by event of.there of.by.0, got)
  got-named d event at of tells got = absurd got

  got-items : (d : Transfer) (o : Option Event) (n : ℕ) → IsLater n o → IsHeard entries g o d → TellsRecord d o → (at : At) → IsGot s d at → AllByRecursion (IsBefore (next n o)) (items o at)
  got-items d None n later of tells at got = tt
  got-items d (Some event) n later of tells at got = ((got-named d event at of tells got, omega arith), tt)

  step-locations : (n : ℕ) (h : Holders) (d : Transfer) (o : Option Event) (t : Tracked EventByte) → IsLater n o → IsHeard entries g o d → TellsRecord d o → IsTaking table s h d → Keeps n h t
      → (l : Location) → IsHeld s (holders_after d h) l → AllByRecursion (IsBefore (next n o)) (gather (items o) t.locations (flow table d l))
  step-locations n h d o t later of tells takes k l held =
      gather-sources s h (IsBefore (next n o)) (IsGot s d) (items o) t.locations
      (λ x is. all-weaker (IsBefore n) (IsBefore (next n o)) (λ item b. (b.0, (let more = next-more n o later in let low = b.1 in omega (arith, more, low)))) (t.locations x) (k.locations x is))
      (got-items d o n later of tells) (flow table d l) (flow-held table s is-scope h d takes held.0 held.1 l held.2 held.3)

  shown-items : (n : ℕ) (h : Holders) (d : Transfer) (event : Event) (t : Tracked EventByte) (e : ℕ) → e ≡ event.number → n ≤ event.number → IsOf entries g event d → IsOfRecord d event.entry → IsTaking table s h d → Keeps n h t
      → (at : At) → InScope s at → AllByRecursion (IsShown e) (gather (items (Some event)) t.locations (shown d at))
  shown-items n h d event t e h1 h2 h3 h4 h5 h6 at h7 = grind (arith, common_steps, nat_tests, gather-sources, all-weaker, precedes-below, got-named, precedes-byte, shown-held)

  step-points : (n : ℕ) (h : Holders) (d : Transfer) (o : Option Event) (t : Tracked EventByte) → IsLater n o → IsHeard entries g o d → TellsRecord d o → IsTaking table s h d → Keeps n h t
      → (e : ℕ) (at : At) → InScope s at → AllByRecursion (IsShown e) (points_after o (λ a. gather (items o) t.locations (shown d a)) t.points e at)
  step-points n h d o t h1 h2 h3 h4 h5 e at h6 = grind (arith, nat_tests, eqb_tells, shown-items)

  keeps-step : (n : ℕ) (h : Holders) (i : Inside) (t : Tracked EventByte) → IsLater n i.event → IsHeard entries g i.event i.transfer → TellsRecord i.transfer i.event → IsTaking table s h i.transfer → Keeps n h t
      → Keeps (next n i.event) (holders_after i.transfer h) (alone_after table i t)
  keeps-step n h i t later of tells takes k =
      record {
        locations = step-locations n h i.transfer i.event t later of tells takes k;
        points = step-points n h i.transfer i.event t later of tells takes k;
      }

  -- all steps, each of which has something more
  module _ (More : Inside → Type 0)
      (tells : (h : Holders) (i : Inside) → IsStep h i → TellsRecord i.transfer i.event)
      (taking : (h : Holders) (heard : Hearings) (i : Inside) → More i → IsStep h i → IsPossible h heard i.transfer → IsTaking table s h i.transfer) where
    pub all-keep : (n : ℕ) (h : Holders) (heard : Hearings) (list : List Inside) (t : Tracked EventByte) → AreSteps h list → ArePossible h heard list → AreHeard entries g n list → AllByRecursion More list → Keeps n h t
        → Keeps (last n list) (holders_from list h) (alone_from table list t)
    all-keep n h heard [] t steps possible are more k = k
    all-keep n h heard (i ∷ list) t steps possible are more k =
        all-keep (next n i.event) (holders_after i.transfer h) (heard_after i heard) list (alone_after table i t) steps.1 possible.1 are.2 more.1
        (keeps-step n h i t are.0 are.1 (tells h i steps.0) (taking h heard i more.0 steps.0 possible.0) k)
