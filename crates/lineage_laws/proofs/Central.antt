-- Whole tracking is the tracking of all steps by items, with the items' sets put in their place.
use Rattle.std.proofs.Common.{◌≡◌, ℕ, List, [], ◌∷◌, map, flat_map, Option, arith}
use Rattle.std.proofs.lemmas.Bool.Decides.{nat_tests}
use Rattle.rv64_model.specs.Carries.{Table}
use Rattle.acts_model.specs.Moved.{Event, Moved}
use Rattle.acts_model.specs.Transfers.{Transfer}
use Rattle.lineage_model.specs.Flow.{Location, At, flow, shown}
use Rattle.lineage_model.specs.Tracking.{EventByte, Tracked, points_after, after, items, alone_after, alone_from}
use Rattle.lineage_model.specs.Whole.{Whole, given, whole_after, whole_from}
use Rattle.lineage_laws.proofs.Sets.{gather-joins}
use Rattle.lineage_laws.proofs.Takes.{Takes, flow-each, shown-each}

-- each set of w is what v makes of the items of t
pub record Joins (v : EventByte → List EventByte) (w t : Tracked EventByte) : Type 0 where
  pub locations : (l : Location) → w.locations l ≡ flat_map v (t.locations l)
  pub points : (e : ℕ) (at : At) → w.points e at ≡ flat_map v (t.points e at)

-- all steps' items in one fold: every group at once
abbrev pub every : Table → List Moved → Tracked EventByte → Tracked EventByte
every table list t = alone_from table (map (λ m. m.inside) list) t

-- v gives each input byte that a step takes the set that whole tracking has for it
abbrev pub IsValue : Table → (EventByte → List EventByte) → Whole → List Moved → Type 0
IsValue table v w [] = Unit {0}
IsValue table v w (m ∷ list) = Takes (λ at. given m w at ≡ flat_map v (items m.inside.event at)) m.inside.transfer × IsValue table v (whole_after table m w) list

points-join : (v : EventByte → List EventByte) (event : Option Event) (x y : At → List EventByte) (p q : ℕ → At → List EventByte) → ((at : At) → x at ≡ flat_map v (y at)) → ((e : ℕ) (at : At) → p e at ≡ flat_map v (q e at)) → (e : ℕ) (at : At) → points_after event x p e at ≡ flat_map v (points_after event y q e at)
points-join v event x y p q h1 h2 e at = grind (arith, nat_tests)

-- one step
pub step-joins : (table : Table) (v : EventByte → List EventByte) (i j : At → List EventByte) (event : Option Event) (d : Transfer) (w t : Tracked EventByte) → Takes (λ at. i at ≡ flat_map v (j at)) d → Joins v w t → Joins v (after table i event d w) (after table j event d t)
step-joins table v i j event d w t hv h =
    let P = λ (at : At). i at ≡ flat_map v (j at) in
    record {
      locations = λ l. gather-joins v i j w.locations t.locations h.locations (flow table d l) (flow-each P table d l hv);
      points = points-join v event _ _ w.points t.points (λ at. gather-joins v i j w.locations t.locations h.locations (shown d at) (shown-each P d at hv)) h.points;
    }

pub central : (table : Table) (v : EventByte → List EventByte) (list : List Moved) (w : Whole) (t : Tracked EventByte) → IsValue table v w list → Joins v w.tracked t → Joins v (whole_from table list w).tracked (every table list t)
central table v [] w t hv h = h
central table v (m ∷ list) w t hv h = central table v list (whole_after table m w) (alone_after table m.inside t) hv.1 (step-joins table v (given m w) (items m.inside.event) m.inside.event m.inside.transfer w.tracked t hv.0 h)
