use Rattle.std.proofs.Common.{◌≡◌, ℕ, ◌+◌, ◌≤◌, List, None, ap, sym, subst, ◌∙◌}
use Rattle.rv64_model.specs.Carries.{operands}
use Rattle.history_model.specs.Moments.{total}
use Rattle.followed_groups.specs.Following.{HasOnly, IsOf}
use Rattle.followed_groups.specs.Parts.{ran_in}
use Rattle.query_model.specs.Answers.{first_disagreement}
use Rattle.query_model.specs.Forth.{forth_groups}
use Rattle.query_model.specs.Sinks.{forth_pairs, pairs_among}
use Rattle.query_engine.specs.Forth.{FailsForth}
use Rattle.query_engine.proofs.Concluded.{bounds, counts, fails, has-asked, leaves, replays, tells}
use Rattle.query_engine.proofs.Same.{ok-map}
use Rattle.query_engine.proofs.engine.Engine.event_forth.Goals as goal

pub returns-clause-ok : goal.returns-clause-ok
returns-clause-ok g c =
    let a = c.args in
    let es = a.entries.now in
    let agree = subst (λ (m : ℕ). first_disagreement es m c.as_slice.result.now ≡ None) (c.total.ensures es c.requires.indexed) c.in_ok-run.ensures.agree in
    ok-map c.conclude.result
    (λ answer t. record {
      range = c.requires.range;
      agree = t.agree;
      pairs = t.pairs;
      groups = t.groups;
      replayed = t.replayed;
      instructions = t.instructions;
    })
    (tells es (total es) (forth_groups es a.asked.event a.asked.from a.asked.len) c.in_ok-groups.groups c.as_slice.result.now c.in_ok-run.run'.1 c.in_ok-groups.ensures.ok c.as_slice.ensures
    (λ pairs. pairs ≡ forth_pairs (operands a.linkage) es a.asked.event a.asked.from a.asked.len) c.pairs_among-pairs.result (ok-map c.pairs_among-pairs.result (λ pairs h. h ∙ ap (λ (xs : List ℕ). pairs_among (operands a.linkage) es xs a.asked.event a.asked.from a.asked.len) (c.as_slice-2.ensures ∙ c.in_ok-groups.ensures.ok)) c.pairs_among-pairs.ensures) agree c.in_ok-run.ensures.part
    c.conclude.result c.conclude.ensures.pairs c.conclude.ensures.groups c.conclude.ensures.replayed c.conclude.ensures.instructions)

pub returns-clause-err : goal.returns-clause-err
returns-clause-err g c = fails (FailsForth c.args.entries.now c.args.asked.event c.args.asked.from c.args.asked.len) c.requires.range c.conclude.result c.conclude.ensures.err

pub returns-clause-counted : goal.returns-clause-counted
returns-clause-counted g c =
    counts c.args.entries.now (total c.args.entries.now) (forth_groups c.args.entries.now c.args.asked.event c.args.asked.from c.args.asked.len) c.in_ok-groups.groups c.as_slice.result.now c.in_ok-run.run'.1
    c.in_ok-groups.ensures.ok c.as_slice.ensures c.args.steps.now c.follow_all.new.steps
    (subst (λ (m : ℕ). c.follow_all.new.steps ≡ c.args.steps.now + ran_in c.args.entries.now m c.in_ok-run.run'.1) (c.total.ensures c.args.entries.now c.requires.indexed) c.in_ok-run.ensures.counted) c.conclude.result c.conclude.ensures.replayed

pub returns-clause-bounded : goal.returns-clause-bounded
returns-clause-bounded g c =
    bounds c.args.entries.now (total c.args.entries.now) (forth_groups c.args.entries.now c.args.asked.event c.args.asked.from c.args.asked.len) c.in_ok-groups.groups c.as_slice.result.now c.in_ok-run.run'.1
    c.in_ok-groups.ensures.ok c.as_slice.ensures c.args.steps.now c.follow_all.new.steps
    (subst (λ (m : ℕ). c.follow_all.new.steps ≤ c.args.steps.now + ran_in c.args.entries.now m c.as_slice.result.now) (c.total.ensures c.args.entries.now c.requires.indexed) c.follow_all.ensures.bounded)

pub returns-clause-all : goal.returns-clause-all
returns-clause-all g c none =
    replays c.args.entries.now (total c.args.entries.now) (forth_groups c.args.entries.now c.args.asked.event c.args.asked.from c.args.asked.len) c.in_ok-groups.groups c.as_slice.result.now c.in_ok-run.run'.1
    c.in_ok-groups.ensures.ok c.as_slice.ensures (c.in_ok-run.ensures.all none) c.conclude.result c.conclude.ensures.groups c.conclude.ensures.replayed

pub returns-clause-left : goal.returns-clause-left
returns-clause-left g c = leaves c.args.self.now.kept c.follow_all.new.self c.conclude.new.self.kept c.follow_all.ensures.adds c.conclude.result c.conclude.ensures.left

pub pairs_among-pairs-requires-clause-of : goal.pairs_among-pairs-requires-clause-of
pairs_among-pairs-requires-clause-of g c =
    subst (λ (m : ℕ). IsOf c.args.entries.now c.args.linkage m c.in_ok-run.run'.0) (c.total.ensures c.args.entries.now c.requires.indexed) c.in_ok-run.ensures.of

pub pairs_among-pairs-requires-clause-has : goal.pairs_among-pairs-requires-clause-has
pairs_among-pairs-requires-clause-has g c = has-asked c.in_ok-run.run'.0 (c.as_slice.ensures ∙ sym c.as_slice-2.ensures) c.in_ok-run.ensures.has

pub pairs_among-pairs-requires-clause-only : goal.pairs_among-pairs-requires-clause-only
pairs_among-pairs-requires-clause-only g c = subst (λ (xs : List ℕ). HasOnly c.in_ok-run.run'.0 xs) (c.as_slice.ensures ∙ sym c.as_slice-2.ensures) c.in_ok-run.ensures.only

pub conclude-requires-clause-of : goal.conclude-requires-clause-of
conclude-requires-clause-of g c = c.in_ok-run.ensures.of.entries_are
