-- On the records of a run, what reaches a byte that a process holds is what whole tracking gives it.
use Rattle.std.proofs.Common.{◌≡◌, inl, inr, ℕ, zero, suc, ◌+◌, Bool, true, false, if◌then◌else◌, List, flat_map, Option, Some, None, IsSome, option_map, refl, ap, sym, subst, ◌∙◌, arith}
use Rattle.std.proofs.lemmas.Bool.Decides.{nat_tests}
use Rattle.std.proofs.lemmas.Bool.Decides.{eqb_tells}
use Rattle.std.proofs.lemmas.Option.{none-some, same_Some}
use Rattle.rv64_model.specs.Carries.{Table}
use Rattle.acts_model.specs.Bodies.{Body, body_at}
use Rattle.acts_model.specs.Transfers.{holds_of, is_private, is_shared}
use Rattle.arn_model.specs.Run.{Input, machine_after, state_at}
use Rattle.arn_model.specs.Tells.{HasNumbers}
use Rattle.history_model.specs.Alone as history
use Rattle.history_model.specs.Events.{event_at}
use Rattle.history_model.specs.Groups.{group_of}
use Rattle.history_model.specs.Moments.{lives_at}
use Rattle.lineage_laws.specs.Laws.{IsOf, LineageIsJoined, OfMemory, OfRegister, joined_point, local_at, whole_at}
use Rattle.lineage_model.specs.Flow.{Location, Memory, Register}
use Rattle.lineage_model.specs.Joined.{from_item}
use Rattle.lineage_model.specs.Tracking.{EventByte, alone}
use Rattle.log_model.specs.Records.{records}
use Rattle.past_lives.specs.Laws.{LivesHaveGroups}
use Rattle.query_model.specs.Sources.{reaching}
use Rattle.query_model.specs.States.{held_sources, in_memory, items_among, items_made, location_of, part_len, process_groups, set_at, set_of}
use Rattle.query_model.specs.declared.held.Held.{Held}
use Rattle.query_model.specs.declared.held.Part.{Part}
use Rattle.query_model.specs.declared.held.Part.TheVariants as part
use Rattle.replay_laws.specs.Laws.{GroupsPassThrough}
use Rattle.unbroken_laws.specs.Laws.{RunsAreUnbroken}
use Rattle.query_laws.specs.States.{StatesAreOfRuns, whole_set}
use Rattle.query_laws.proofs.OfRuns.{flat_map-same, item-same, none-disagrees, pairs-same, reaching-joined}

module _ (table : Table) (inputs : List Input) (few : HasNumbers (machine_after inputs).kernel) (passes : GroupsPassThrough) (joined : LineageIsJoined) (moment pid g : ℕ) (group : group_of (records inputs) pid ≡ Some g) where
  abbrev Joins : List EventByte → List EventByte
  Joins items = flat_map (from_item (event_at (records inputs)) (joined_point table inputs moment)) items

  -- the group alone holds the process as the whole machine does
  own-body : body_at (passes inputs g moment few).own.bodies pid ≡ body_at (state_at inputs moment).bodies pid
  own-body = grind (arith, nat_tests, eqb_tells)

  items-local : (p : Part) (k : ℕ) → items_made table pid p k (history.alone (records inputs) g moment) ≡ set_of (local_at table inputs moment g) pid p k (body_at (state_at inputs moment).bodies pid)
  items-local p k = grind (arith, nat_tests, own-body)

  -- where bytes of parts lie is a location of the group
  memory-of : (x : Body) → body_at (state_at inputs moment).bodies pid ≡ Some x → (at : ℕ) (l : Location) → in_memory (holds_of x) at ≡ Some l → IsOf inputs moment g l
  memory-of x lives at l is = by-tests (is_private at) (is_shared at) x.segment refl is
    where
      by-tests : (a b : Bool) (o : Option ℕ) → x.segment ≡ o → option_map (λ made. Memory made at) (if a then Some x.window else if b then o else None) ≡ Some l → IsOf inputs moment g l
      by-tests true b o h k = subst (IsOf inputs moment g) (same_Some (Memory x.window at) l k) (OfMemory pid x.window at x lives group (inl refl))
      by-tests false true None h k = absurd (none-some l k)
      by-tests false true (Some made) h k = subst (IsOf inputs moment g) (same_Some (Memory made at) l k) (OfMemory pid made at x lives group (inr h))
      by-tests false false o h k = absurd (none-some l k)

  part-of : (x : Body) → body_at (state_at inputs moment).bodies pid ≡ Some x → (p : Part) (k : ℕ) (l : Location) → location_of pid (holds_of x) p k ≡ Some l → IsOf inputs moment g l
  part-of x lives (part.Register zero) k l is = absurd (none-some l is)
  part-of x lives (part.Register (suc r)) k l is = subst (IsOf inputs moment g) (same_Some (Register pid (suc r) k) l is) (OfRegister pid (suc r) k x lives group)
  part-of x lives (part.Memory at len) k l is = memory-of x lives (at + k) l is

  set-joins : (x : Body) → body_at (state_at inputs moment).bodies pid ≡ Some x → (p : Part) (k : ℕ) (o : Option Location) → location_of pid (holds_of x) p k ≡ o
      → Joins (set_at (local_at table inputs moment g) o) ≡ set_at (whole_at table inputs moment).tracked o
  set-joins x lives p k None lies = refl
  set-joins x lives p k (Some l) lies = sym ((joined table inputs moment few).locations g l (part-of x lives p k l lies))

  body-joins : (p : Part) (k : ℕ) (o : Option Body) → body_at (state_at inputs moment).bodies pid ≡ o
      → Joins (set_of (local_at table inputs moment g) pid p k o) ≡ set_of (whole_at table inputs moment).tracked pid p k o
  body-joins p k o h1 = grind (arith, nat_tests, set-joins)

  made-joins : (p : Part) (k : ℕ) → Joins (items_made table pid p k (history.alone (records inputs) g moment)) ≡ set_of (whole_at table inputs moment).tracked pid p k (body_at (state_at inputs moment).bodies pid)
  made-joins p k = ap Joins (items-local p k) ∙ body-joins p k (body_at (state_at inputs moment).bodies pid) refl

  abbrev Leads : List EventByte → List EventByte
  Leads items = flat_map (from_item (event_at (records inputs)) (reaching table (records inputs) moment)) items

  pub sources-joined : (p : Part) (k : ℕ) → held_sources table (records inputs) (record { moment = moment; pid = pid; part = p }) k ≡ whole_set table inputs (record { moment = moment; pid = pid; part = p }) k
  sources-joined p k =
      let held : Held = record { moment = moment; pid = pid; part = p } in
      ap (λ (o : Option ℕ). Leads (items_among table (records inputs) held k o)) group
      ∙ (flat_map-same (from_item (event_at (records inputs)) (reaching table (records inputs) moment)) (from_item (event_at (records inputs)) (joined_point table inputs moment))
      (λ item. item-same (event_at (records inputs)) (reaching table (records inputs) moment) (joined_point table inputs moment) (reaching-joined table inputs few passes moment) item.event item.at)
      (items_made table pid p k (history.alone (records inputs) g moment))
      ∙ made-joins p k)

-- the group that there is
group-in : (o : Option ℕ) → IsSome o → (g : ℕ) × (o ≡ Some g)
group-in None is = absurd (cc)
group-in (Some g) is = (g, refl)

pub states-of-runs : GroupsPassThrough → LineageIsJoined → RunsAreUnbroken → LivesHaveGroups → StatesAreOfRuns
states-of-runs passes joined unbroken have table inputs held few = record {
  agree = none-disagrees table inputs few passes held.moment (process_groups (records inputs) held.pid);
  sources = λ lives k. sources lives k;
  pairs = λ lives. pairs-same (held_sources table (records inputs) held) (whole_set table inputs held) (sources lives) (part_len held.part) 0;
}
  where
    sources : lives_at (records inputs) held.moment held.pid ≡ true → (k : ℕ) → held_sources table (records inputs) held k ≡ whole_set table inputs held k
    sources lives k =
        let own = group-in (group_of (records inputs) held.pid) (have (records inputs) held.moment held.pid (unbroken inputs few) lives) in
        sources-joined table inputs few passes joined held.moment held.pid own.0 own.1 held.part k
