use Rattle.std.proofs.Common.{ap, ◌∙◌, option_and_then}
use Rattle.history_model.specs.Groups.{group_of}
use Rattle.history_index.proofs.Lookups.{pid-told}
use Rattle.history_index.proofs.index.Index.event_group.Goals as goal

pub returns-in-Some : goal.returns-in-Some
returns-in-Some c entries i =
    (rw c.families.ensures at c.group_of.ensures.group)
    ∙ i.families.groups c.in-Some.pid
    ∙ ap (option_and_then (group_of entries)) (c.in-Some.ensures ∙ pid-told c.args.self.now entries c.args.event i)

pub returns-in-None : goal.returns-in-None
returns-in-None c entries i =
    ap (option_and_then (group_of entries)) (c.in-None.ensures ∙ pid-told c.args.self.now entries c.args.event i)
