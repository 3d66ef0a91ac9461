use Rattle.std.proofs.Common.{◌≡◌, ℕ, ◌+◌, ◌≤◌, ◌∙◌, None, subst}
use Rattle.rv64_model.specs.Carries.{operands}
use Rattle.followed_groups.specs.Following.{IsOf}
use Rattle.followed_groups.specs.Parts.{ran_in}
use Rattle.query_model.specs.Answers.{event_groups, event_pairs, first_disagreement, moment_of}
use Rattle.query_engine.specs.Asked.{FailsEvent}
use Rattle.query_engine.proofs.Concluded.{bounds, counts, fails, has-asked, leaves, replays, tells}
use Rattle.query_engine.proofs.Same.{ok-map}
use Rattle.query_engine.proofs.engine.Engine.event_back.Goals as goal

pub returns-clause-ok : goal.returns-clause-ok
returns-clause-ok g c =
    let a = c.args in
    let es = a.entries.now in
    let agree = subst (λ (m : ℕ). first_disagreement es m c.as_slice.result.now ≡ None) (c.moment_about-until.ensures es c.requires.indexed) c.in_ok-run.ensures.agree in
    ok-map c.conclude.result
    (λ answer t. record {
      range = c.requires.range;
      agree = t.agree;
      pairs = t.pairs;
      groups = t.groups;
      replayed = t.replayed;
      instructions = t.instructions;
    })
    (tells es (moment_of es a.event) (event_groups es a.event) c.in_ok-groups.groups c.as_slice.result.now c.in_ok-run.run'.1 c.in_ok-groups.ensures.ok c.as_slice.ensures
    (λ pairs. pairs ≡ event_pairs (operands a.linkage) es a.event a.from a.len) c.pairs-pairs.result c.pairs-pairs.ensures agree c.in_ok-run.ensures.part
    c.conclude.result c.conclude.ensures.pairs c.conclude.ensures.groups c.conclude.ensures.replayed c.conclude.ensures.instructions)

pub returns-clause-err : goal.returns-clause-err
returns-clause-err g c = fails (FailsEvent c.args.entries.now c.args.event c.args.from c.args.len) c.requires.range c.conclude.result c.conclude.ensures.err

pub returns-clause-counted : goal.returns-clause-counted
returns-clause-counted g c =
    let es = c.args.entries.now in
    let e = event_groups es c.args.event in
    counts es (moment_of es c.args.event) e c.in_ok-groups.groups c.as_slice.result.now c.in_ok-run.run'.1 c.in_ok-groups.ensures.ok c.as_slice.ensures c.args.steps.now c.follow_all.new.steps
    (subst (λ (m : ℕ). c.follow_all.new.steps ≡ c.args.steps.now + ran_in es m c.in_ok-run.run'.1) (c.moment_about-until.ensures es c.requires.indexed) c.in_ok-run.ensures.counted)
    c.conclude.result c.conclude.ensures.replayed

pub returns-clause-bounded : goal.returns-clause-bounded
returns-clause-bounded g c =
    let es = c.args.entries.now in
    bounds es (moment_of es c.args.event) (event_groups es c.args.event) c.in_ok-groups.groups c.as_slice.result.now c.in_ok-run.run'.1 c.in_ok-groups.ensures.ok c.as_slice.ensures
    c.args.steps.now c.follow_all.new.steps
    (subst (λ (m : ℕ). c.follow_all.new.steps ≤ c.args.steps.now + ran_in es m c.as_slice.result.now) (c.moment_about-until.ensures es c.requires.indexed) c.follow_all.ensures.bounded)

pub returns-clause-all : goal.returns-clause-all
returns-clause-all g c none =
    replays c.args.entries.now (moment_of c.args.entries.now c.args.event) (event_groups c.args.entries.now c.args.event) c.in_ok-groups.groups c.as_slice.result.now c.in_ok-run.run'.1
    c.in_ok-groups.ensures.ok c.as_slice.ensures (c.in_ok-run.ensures.all none) c.conclude.result c.conclude.ensures.groups c.conclude.ensures.replayed

pub returns-clause-left : goal.returns-clause-left
returns-clause-left g c = leaves c.args.self.now.kept c.follow_all.new.self c.conclude.new.self.kept c.follow_all.ensures.adds c.conclude.result c.conclude.ensures.left

pub pairs-pairs-requires-clause-of : goal.pairs-pairs-requires-clause-of
pairs-pairs-requires-clause-of g c =
    subst (λ (m : ℕ). IsOf c.args.entries.now c.args.linkage m c.in_ok-run.run'.0) (c.moment_about-until.ensures c.args.entries.now c.requires.indexed) c.in_ok-run.ensures.of

pub pairs-pairs-requires-clause-has : goal.pairs-pairs-requires-clause-has
pairs-pairs-requires-clause-has g c = has-asked c.in_ok-run.run'.0 (c.as_slice.ensures ∙ c.in_ok-groups.ensures.ok) c.in_ok-run.ensures.has

pub conclude-requires-clause-of : goal.conclude-requires-clause-of
conclude-requires-clause-of g c = c.in_ok-run.ensures.of.entries_are
