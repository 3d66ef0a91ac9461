use Rattle.std.proofs.Common.{◌++◌, List, ℕ, ap, get_or, sym, take, ◌∙◌, flat_map, string_bytes}
use Rattle.std.proofs.lemmas.List.{flat_map_more, take_more}
use Rattle.session_reports.specs.Groups.{group_text}
use Rattle.session_reports.proofs.groups.push_each.Goals as goal

pub loop-group-preserved : goal.loop-group-preserved
loop-group-preserved c entries known =
    let groups = c.args.groups.now in
    let i = c.loop-group.group-index in
    let old = string_bytes c.args.lines.now in
    let group = get_or groups i 0 in
    c.in_ok-push_one.ensures entries known
    ∙ ap (λ (lines : List ℕ). lines ++ group_text entries group) (c.loop-group.invariant entries known)
    ∙ flat_map_more (group_text entries) old (take i groups) group
    ∙ ap (λ (listed : List ℕ). old ++ flat_map (group_text entries) listed) (sym (take_more groups i 0 c.loop-group-test.true))
