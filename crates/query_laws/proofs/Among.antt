-- Items of some groups alone, at the bytes that events have, tell what reaches these by no other group.
use Rattle.std.proofs.lemmas.Grind.{common_steps}
use Rattle.std.proofs.Common.{◌≡◌, ℕ, Bool, true, false, if◌then◌else◌, List, [], Option, None, sym, subst, arith, All}
use Rattle.std.proofs.lemmas.Bool.Decides.{nat_tests}
use Rattle.std.proofs.lemmas.List.Elements.{All-nil, All-weaker}
use Rattle.arn_base.specs.declared.records.Record.{Record}
use Rattle.rv64_model.specs.Carries.{operands}
use Rattle.rv64_model.specs.declared.linkage.Linkage.{Linkage}
use Rattle.history_model.specs.Broken.{first_broken}
use Rattle.history_model.specs.Events.{event_at}
use Rattle.history_model.specs.Groups.{event_group}
use Rattle.lineage_join.specs.Alike.{LeadsAt, LeadsOn, ReachSame}
use Rattle.lineage_join.specs.Fits.{IsThere}
use Rattle.lineage_model.specs.Flow.{At}
use Rattle.lineage_model.specs.Tracking.{EventByte}
use Rattle.query_model.specs.Sinks.{is_among, items_among}
use Rattle.query_model.specs.Sources.{items_in}
use Rattle.window_laws.specs.Blocks.{HasWholeBlocks}
use Rattle.taint_laws.specs.Laws.{FollowsHolders}
use Rattle.taint_state.specs.Lens.{ActsHaveLen}
use Rattle.query_laws.specs.Forth.{ReachingIsAmong}
use Rattle.query_laws.specs.Joined.{is_there}
use Rattle.query_laws.proofs.Fitting.{real-items}
use Rattle.query_laws.proofs.Joined.{found-there, there-found}
use Rattle.query_laws.proofs.Origins.{origin-there}

module _ (linkage : Linkage) (entries : List Record) (stands : first_broken entries ≡ None) where
  abbrev follows : ℕ → At → Bool
  follows event at = is_there (event_at entries event) at

  -- an item that an event has leads to bytes that events have
  leads-at : (event : ℕ) (at : At) → IsThere (event_at entries event) at → LeadsAt (event_at entries) follows event at
  leads-at event at h1 = grind (arith, nat_tests, origin-there, there-found)

  module _ (holders : FollowsHolders) (lens : ActsHaveLen) (blocks : All HasWholeBlocks entries) (groups : List ℕ) (moment : ℕ) where
    group-leads : (event : ℕ) (at : At) (o : Option ℕ) → IsThere (event_at entries event) at → All (LeadsOn (event_at entries) follows) (items_in (operands linkage) entries moment event at o)
    group-leads event at o h1 = grind (arith, common_steps, nat_tests, All-nil, All-weaker, leads-at, real-items)

    cut-leads : (event : ℕ) (at : At) (b : Bool) → IsThere (event_at entries event) at
        → All (LeadsOn (event_at entries) follows) (if b then items_in (operands linkage) entries moment event at (event_group entries event) else [])
    cut-leads event at true there = group-leads event at (event_group entries event) there
    cut-leads event at false there = All-nil (LeadsOn (event_at entries) follows)

pub among : FollowsHolders → ActsHaveLen → ReachSame → ReachingIsAmong
among holders lens same linkage entries groups moment items stands blocks are event at there =
    same entries (follows linkage entries stands) items (items_among (operands linkage) entries groups moment)
    (record {
      same = λ e a is. are e a (found-there (event_at entries e) a is);
      leads = λ e a is.
          (let thereby = found-there (event_at entries e) a is in
          subst (λ (xs : List EventByte). All (LeadsOn (event_at entries) (follows linkage entries stands)) xs) (sym (are e a thereby))
          (cut-leads linkage entries stands holders lens blocks groups moment e a (is_among entries groups e) thereby));
    }) event at (there-found (event_at entries event) at there)
