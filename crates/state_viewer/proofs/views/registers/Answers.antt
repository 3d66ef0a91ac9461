use Rattle.std.proofs.Common.{◌≡◌, true, ap, sym, ◌∙◌}
use Rattle.past_lives.specs.Members.{is_member}
use Rattle.state_viewer.proofs.Seen.{never-none}
use Rattle.state_viewer.proofs.views.registers.Goals as goal

pub returns-clause-err : goal.returns-clause-err
returns-clause-err g c =
    let member : is_member c.args.entries.now c.args.moment c.args.pid ≡ true = sym c.is_member.ensures ∙ c.if-not-is_member.false in
    absurd (never-none c.args.entries.now c.args.moment c.args.pid c.in_ok-group.group c.requires.indexed.stands c.members_are_seen.ensures c.lives_have_groups.ensures member c.in_ok-group.ensures.ok c.in-None.ensures)

pub returns-clause-unasked : goal.returns-clause-unasked
returns-clause-unasked g c =
    let member : is_member c.args.entries.now c.args.moment c.args.pid ≡ true = sym c.is_member.ensures ∙ c.if-not-is_member.false in
    absurd (never-none c.args.entries.now c.args.moment c.args.pid c.in_ok-group.group c.requires.indexed.stands c.members_are_seen.ensures c.lives_have_groups.ensures member c.in_ok-group.ensures.ok c.in-None.ensures)
