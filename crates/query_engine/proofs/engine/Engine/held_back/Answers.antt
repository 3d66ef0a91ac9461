use Rattle.std.proofs.Common.{◌∙◌, ◌≡◌}
use Rattle.rv64_model.specs.Carries.{operands}
use Rattle.query_model.specs.States.{held_pairs, process_groups}
use Rattle.query_engine.specs.States.{FailsHeld}
use Rattle.query_engine.proofs.Concluded.{bounds, counts, fails, has-asked, leaves, replays, tells}
use Rattle.query_engine.proofs.Same.{ok-map}
use Rattle.query_engine.proofs.engine.Engine.held_back.Goals as goal

pub returns-clause-ok : goal.returns-clause-ok
returns-clause-ok g c =
    let a = c.args in
    let es = a.entries.now in
    ok-map c.conclude.result
    (λ answer t. record {
      there = c.requires.there;
      agree = t.agree;
      pairs = t.pairs;
      groups = t.groups;
      replayed = t.replayed;
      instructions = t.instructions;
    })
    (tells es a.held.moment (process_groups es a.held.pid) c.in_ok-groups.groups c.as_slice.result.now c.in_ok-run.run'.1 c.in_ok-groups.ensures.ok c.as_slice.ensures
    (λ pairs. pairs ≡ held_pairs (operands a.linkage) es a.held) c.pairs-pairs.result c.pairs-pairs.ensures c.in_ok-run.ensures.agree c.in_ok-run.ensures.part
    c.conclude.result c.conclude.ensures.pairs c.conclude.ensures.groups c.conclude.ensures.replayed c.conclude.ensures.instructions)

pub returns-clause-err : goal.returns-clause-err
returns-clause-err g c = fails (FailsHeld c.args.entries.now c.args.held) c.requires.there c.conclude.result c.conclude.ensures.err

pub returns-clause-counted : goal.returns-clause-counted
returns-clause-counted g c =
    counts c.args.entries.now c.args.held.moment (process_groups c.args.entries.now c.args.held.pid) c.in_ok-groups.groups c.as_slice.result.now c.in_ok-run.run'.1
    c.in_ok-groups.ensures.ok c.as_slice.ensures c.args.steps.now c.follow_all.new.steps c.in_ok-run.ensures.counted c.conclude.result c.conclude.ensures.replayed

pub returns-clause-bounded : goal.returns-clause-bounded
returns-clause-bounded g c =
    bounds c.args.entries.now c.args.held.moment (process_groups c.args.entries.now c.args.held.pid) c.in_ok-groups.groups c.as_slice.result.now c.in_ok-run.run'.1
    c.in_ok-groups.ensures.ok c.as_slice.ensures c.args.steps.now c.follow_all.new.steps c.follow_all.ensures.bounded

pub returns-clause-all : goal.returns-clause-all
returns-clause-all g c none =
    replays c.args.entries.now c.args.held.moment (process_groups c.args.entries.now c.args.held.pid) c.in_ok-groups.groups c.as_slice.result.now c.in_ok-run.run'.1
    c.in_ok-groups.ensures.ok c.as_slice.ensures (c.in_ok-run.ensures.all none) c.conclude.result c.conclude.ensures.groups c.conclude.ensures.replayed

pub returns-clause-left : goal.returns-clause-left
returns-clause-left g c = leaves c.args.self.now.kept c.follow_all.new.self c.conclude.new.self.kept c.follow_all.ensures.adds c.conclude.result c.conclude.ensures.left

pub pairs-pairs-requires-clause-has : goal.pairs-pairs-requires-clause-has
pairs-pairs-requires-clause-has g c = has-asked c.in_ok-run.run'.0 (c.as_slice.ensures ∙ c.in_ok-groups.ensures.ok) c.in_ok-run.ensures.has

pub pairs-pairs-requires-clause-of : goal.pairs-pairs-requires-clause-of
pairs-pairs-requires-clause-of g c = c.in_ok-run.ensures.of

pub conclude-requires-clause-of : goal.conclude-requires-clause-of
conclude-requires-clause-of g c = c.in_ok-run.ensures.of.entries_are
