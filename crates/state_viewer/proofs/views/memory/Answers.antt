use Rattle.std.proofs.Common.{◌≡◌, true, sym, ◌∙◌}
use Rattle.past_lives.specs.Members.{is_memory_range}
use Rattle.state_viewer.proofs.Seen.{never-outside}
use Rattle.state_viewer.proofs.views.memory.Goals as goal

pub returns-clause-err : goal.returns-clause-err
returns-clause-err g c =
    let range : is_memory_range c.args.entries.now c.args.moment c.args.pid c.args.at c.args.len ≡ true = sym c.is_memory_range.ensures ∙ c.if-not-is_memory_range.false in
    absurd (never-outside c.args.entries.now c.args.moment c.args.pid c.args.at c.args.len c.in_ok-group.group c.requires.indexed.stands
    c.members_are_seen.ensures c.lives_have_groups.ensures c.windows_are_whole.ensures range c.in_ok-group.ensures.ok (sym c.in-None.is ∙ c.in_ok-found.ensures))

pub returns-clause-unasked : goal.returns-clause-unasked
returns-clause-unasked g c =
    let range : is_memory_range c.args.entries.now c.args.moment c.args.pid c.args.at c.args.len ≡ true = sym c.is_memory_range.ensures ∙ c.if-not-is_memory_range.false in
    absurd (never-outside c.args.entries.now c.args.moment c.args.pid c.args.at c.args.len c.in_ok-group.group c.requires.indexed.stands
    c.members_are_seen.ensures c.lives_have_groups.ensures c.windows_are_whole.ensures range c.in_ok-group.ensures.ok (sym c.in-None.is ∙ c.in_ok-found.ensures))
