-- The items of bytes that a process holds are bytes that events of its group have.
use Rattle.std.proofs.lemmas.Grind.{common_steps}
use Rattle.std.proofs.Common.{◌≡◌, ℕ, List, [], ◌∷◌, flat_map, Option, Some, None, option_map, option_to_list, refl, ap, sym, subst, ◌∙◌, arith, All, Contains}
use Rattle.std.proofs.lemmas.Bool.Decides.{nat_tests}
use Rattle.std.specs.List.{AllByRecursion}
use Rattle.std.proofs.lemmas.List.Elements.{All-nil, All-cons, All-weaker}
use Rattle.std.proofs.lemmas.Option.{none-some, same_Some}
use Rattle.arn_base.specs.declared.records.Record.{Record}
use Rattle.rv64_model.specs.Carries.{operands}
use Rattle.rv64_model.specs.declared.linkage.Linkage.{Linkage}
use Rattle.acts_model.specs.Bodies.{Body, body_at}
use Rattle.acts_model.specs.Transfers.{Holds, holds_of}
use Rattle.history_index.specs.Lookups.{groups_in}
use Rattle.history_model.specs.Alone as history
use Rattle.history_model.specs.Alone.{Own, Made, Makes, Fails}
use Rattle.history_model.specs.Broken.{first_broken}
use Rattle.history_model.specs.Events.{event_at, how_many}
use Rattle.history_model.specs.Groups.{group_of}
use Rattle.lineage_join.specs.Fits.{IsThere}
use Rattle.lineage_join.specs.Laws.{reaches}
use Rattle.lineage_model.specs.Flow.{At, Location}
use Rattle.lineage_model.specs.Joined.{from_item}
use Rattle.lineage_model.specs.Tracking.{EventByte, alone}
use Rattle.query_model.specs.Sources.{items_at, reaching}
use Rattle.query_model.specs.States.{HasByte, in_memory, items_among, items_made, location_of, set_at, set_of}
use Rattle.query_model.specs.declared.held.Part.{Part}
use Rattle.query_model.specs.declared.held.Part.TheVariants as part
use Rattle.window_laws.specs.Blocks.{HasWholeBlocks}
use Rattle.taint_laws.specs.Laws.{FollowsHolders}
use Rattle.taint_state.specs.Lens.{ActsHaveLen}
use Rattle.query_laws.specs.Received.{IsConnected, IsReceivedBy}
use Rattle.query_laws.specs.States.{HeldIsOfBytes, HeldItemsAreThere}
use Rattle.query_laws.proofs.Connected.{flat_map-all, item-same, reached-same}
use Rattle.query_laws.proofs.Fitting.{is-real, named-there, own-keeps, real, real-items}
use Rattle.query_laws.proofs.Found.{process-group}
use Rattle.query_laws.proofs.Heard.{last}
use Rattle.query_laws.proofs.Items.{IsBefore}
use Rattle.query_laws.proofs.Joined.{own-asked}
use Rattle.query_laws.proofs.Origins.{origin-there}
use Rattle.query_laws.proofs.Scopes.{IsHeldBy}

module _ (linkage : Linkage) where
  -- where bytes of parts lie is followed
  memory-held : (pid : ℕ) (hs : Holds) (at : ℕ) (l : Location) → in_memory hs at ≡ Some l → IsHeldBy (real linkage) hs pid l
  memory-held pid hs at l h1 = grind (arith, nat_tests, none-some, real, same_Some)

  part-held : (pid : ℕ) (hs : Holds) (p : Part) (k : ℕ) → HasByte p k → (l : Location) → location_of pid hs p k ≡ Some l → IsHeldBy (real linkage) hs pid l
  part-held pid hs p k h1 l h2 = grind (arith, nat_tests, memory-held, none-some, real, same_Some)

  module _ (entries : List Record) (g : ℕ) where
    -- a byte that an event of the group received, or with which the group began, and that its event has
    abbrev pub IsNamedThere : EventByte → Type 0
    IsNamedThere item = IsReceivedBy entries g item.event item.at × IsThere (event_at entries item.event) item.at

    as-named : (n : ℕ) (items : List EventByte) → AllByRecursion (IsBefore (operands linkage) (real linkage) (is-real linkage) entries g n) items → All IsNamedThere items
    as-named n items h1 = grind (arith, common_steps, nat_tests, All-nil, All-cons, named-there)

    module _ (follows : FollowsHolders) (lens : ActsHaveLen) (moment : ℕ) (stands : first_broken entries ≡ None) (blocks : All HasWholeBlocks entries) (pid : ℕ) (p : Part) (k : ℕ) (has : HasByte p k) where
      location-named : (own : Own) → history.alone entries g moment ≡ Makes own → (x : Body) → body_at own.bodies pid ≡ Some x → (o : Option Location) → location_of pid (holds_of x) p k ≡ o
          → All IsNamedThere (set_at (alone (operands linkage) own.inside) o)
      location-named own is x lives None lies = All-nil IsNamedThere
      location-named own is x lives (Some l) lies =
          let holds = sym ((follows entries g moment own stands blocks is).holds pid) ∙ ap (option_map holds_of) lives in
          as-named (last 0 own.inside) ((alone (operands linkage) own.inside).locations l)
          ((own-keeps linkage entries g follows lens moment stands blocks own is).locations l (pid, holds_of x, holds, part-held pid (holds_of x) p k has l lies))

      body-named : (own : Own) → history.alone entries g moment ≡ Makes own → (o : Option Body) → body_at own.bodies pid ≡ o → All IsNamedThere (set_of (alone (operands linkage) own.inside) pid p k o)
      body-named own is None lives = All-nil IsNamedThere
      body-named own is (Some x) lives = location-named own is x lives (location_of pid (holds_of x) p k) refl

      made-named : (made : Made) → history.alone entries g moment ≡ made → All IsNamedThere (items_made (operands linkage) pid p k made)
      made-named (Makes own) is = body-named own is (body_at own.bodies pid) refl
      made-named (Fails disagrees) is = All-nil IsNamedThere

      pub group-named : All IsNamedThere (items_made (operands linkage) pid p k (history.alone entries g moment))
      group-named = made-named (history.alone entries g moment) refl

pub held-there : FollowsHolders → ActsHaveLen → HeldItemsAreThere
held-there h1 h2 = grind (arith, common_steps, nat_tests, All-nil, All-weaker, group-named)

-- a process's group is one of the groups
pub own-group : (entries : List Record) (pid : ℕ) (o : Option ℕ) → first_broken entries ≡ None → group_of entries pid ≡ o → All (Contains (groups_in entries)) (option_to_list o)
own-group entries pid None stands is = All-nil (Contains (groups_in entries))
own-group entries pid (Some g) stands is = All-cons (Contains (groups_in entries)) g [] (process-group entries stands pid g is) (All-nil (Contains (groups_in entries)))

abbrev Leads : List Record → (ℕ → At → List EventByte) → EventByte → List EventByte
Leads entries reach item = from_item (event_at entries) reach item

pub held-bytes : FollowsHolders → ActsHaveLen → HeldIsOfBytes
held-bytes follows lens linkage entries held items stands blocks agree k has = by-group (group_of entries held.pid) refl
  where
    by-group : (o : Option ℕ) → group_of entries held.pid ≡ o
        → flat_map (Leads entries (reaches entries items)) (items_among (operands linkage) entries held k o) ≡ flat_map (Leads entries (reaching (operands linkage) entries held.moment)) (items_among (operands linkage) entries held k o)
    by-group None is = refl
    by-group (Some g) is =
        let from : List ℕ = g ∷ [] in
        let groups = own-group entries held.pid (Some g) stands is in
        let asked = own-asked entries (Some g) stands groups in
        let agrees : (event : ℕ) (at : At) → IsConnected entries from event → IsThere (event_at entries event) at → items event at ≡ items_at (operands linkage) entries held.moment event at =
        subst (λ (o : Option ℕ). (event : ℕ) (at : At) → IsConnected entries (option_to_list o) event → IsThere (event_at entries event) at → items event at ≡ items_at (operands linkage) entries held.moment event at) is agree in
        let same = reached-same entries from stands groups (λ event at. IsThere (event_at entries event) at) (origin-there entries stands) (operands linkage) held.moment
        (λ h event at there. real-items linkage entries h follows lens held.moment stands blocks event at there) items (λ event at asks. agrees event at asks.0 asks.1) (how_many entries) in
        flat_map-all (IsNamedThere linkage entries g) (Leads entries (reaches entries items)) (Leads entries (reaching (operands linkage) entries held.moment))
        (λ item named. item-same entries from stands groups (λ event at. IsThere (event_at entries event) at) (origin-there entries stands) (reaches entries items) (reaching (operands linkage) entries held.moment) same g asked
        item.event item.at named.0 named.1)
        (items_made (operands linkage) held.pid held.part k (history.alone entries g held.moment))
        (group-named linkage entries g follows lens held.moment stands blocks held.pid held.part k has)
