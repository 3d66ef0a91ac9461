use Rattle.std.proofs.Common.{◌∙◌}
use Rattle.taint_group.specs.Groups.{heard_of, tables_of}
use Rattle.taint_state.specs.Heard.{heard_in}
use Rattle.taint_group.proofs.Carrying.{all-collected}
use Rattle.taint_group.proofs.Groups.{ok-map}
use Rattle.taint_group.proofs.group.Group.collect.Goals as goal

pub returns-clause-same : goal.returns-clause-same
returns-clause-same c =
    let x = c.args.self.now in
    let all = c.carry_all-all in
    ok-map all.result (λ both. both.0)
    (all-collected all.result c.in_ok-carrying.carrying all.new.carrying x.linkage (heard_of x) (heard_in all.new.heard) (tables_of x) (record { members = all.new.members.items; memories = all.new.memories.items; sets = c.put.new.place }) c.carries_show.ensures
    (c.in_ok-carrying.ensures ∙ c.replace-sets.ensures.value) c.keeps.ensures.empty (c.put.ensures ∙ c.done.ensures) c.requires.sound all.ensures.members all.ensures.memories all.ensures.events all.ensures.on)

pub returns-clause-sound : goal.returns-clause-sound
returns-clause-sound c =
    let x = c.args.self.now in
    let all = c.carry_all-all in
    ok-map all.result (λ both. both.1)
    (all-collected all.result c.in_ok-carrying.carrying all.new.carrying x.linkage (heard_of x) (heard_in all.new.heard) (tables_of x) (record { members = all.new.members.items; memories = all.new.memories.items; sets = c.put.new.place }) c.carries_show.ensures
    (c.in_ok-carrying.ensures ∙ c.replace-sets.ensures.value) c.keeps.ensures.empty (c.put.ensures ∙ c.done.ensures) c.requires.sound all.ensures.members all.ensures.memories all.ensures.events all.ensures.on)
