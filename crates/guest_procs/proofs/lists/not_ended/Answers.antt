use Rattle.std.proofs.Common.{sym, ap, ◌∙◌}
use Rattle.std.specs.List.{list_any}
use Rattle.parts_model.specs.Processes.{process, is_child_of}
use Rattle.guest_procs.specs.Sound.{holds}
use Rattle.guest_procs.proofs.Waits.{no_children, some_children, none_ended}
use Rattle.guest_procs.proofs.lists.not_ended.Goals as goal

pub returns-then-has_child : goal.returns-then-has_child
returns-then-has_child c =
    let some = sym (ap (list_any (λ pid. holds (is_child_of c.args.parent) (process c.args.table.now pid))) c.requires.present) ∙ sym c.if-has_child.ensures in
    (some_children c.args.table.now c.args.parent some, none_ended c.args.table.now c.args.parent c.requires.none)

pub returns-else-has_child : goal.returns-else-has_child
returns-else-has_child c =
    let none = sym (ap (list_any (λ pid. holds (is_child_of c.args.parent) (process c.args.table.now pid))) c.requires.present) ∙ sym c.if-has_child.ensures in
    no_children c.args.table.now c.args.parent none
