use Rattle.std.proofs.Common.{OnOk, subst, sym}
use Rattle.parts_model.specs.Image.{read_as_image}
use Rattle.acts_model.specs.Deeds.{deed_as}
use Rattle.acts_model.specs.Transfers.{Gives, Holds, Receives, Starts, place_of}
use Rattle.taint_state.specs.Lens.{HasLen}
use Rattle.taint_state.specs.declared.layout.Layout.{Layout}
use Rattle.taint_group.specs.Does.{DoesStep}
use Rattle.taint_group.specs.Turns.{StepsFrom}
use Rattle.taint_group.proofs.Groups.{ok-map}
use Rattle.taint_group.proofs.group.Group.step.Goals as goal

pub returns-requires : goal.returns-requires
returns-requires c = record { sound = c.requires.sound }

pub returns-in-Returns : goal.returns-in-Returns
returns-in-Returns c = subst (λ d. OnOk c.returns.result (DoesStep (deed_as d) c.args.pid c.args.event c.args.len c.args.self.now c.returns.new.self)) (sym c.in-Returns.is) c.returns.ensures

pub receives-requires : goal.receives-requires
receives-requires c = record { sound = c.requires.sound }

pub returns-in-Receives : goal.returns-in-Receives
returns-in-Receives c =
    subst (λ d. OnOk c.receives.result (DoesStep (deed_as d) c.args.pid c.args.event c.args.len c.args.self.now c.receives.new.self)) (sym c.in-Receives.is)
    (subst (λ n. OnOk c.receives.result (StepsFrom (λ (holds : Holds). Receives c.args.pid (place_of holds c.in-Receives.at n) n) c.args.pid c.args.event c.args.len c.args.self.now c.receives.new.self)) (sym (subst (λ d. HasLen c.args.len (deed_as d)) c.in-Receives.is c.requires.len)) c.receives.ensures)

pub gives-requires : goal.gives-requires
gives-requires c = record { sound = c.requires.sound }

pub returns-in-Gives : goal.returns-in-Gives
returns-in-Gives c =
    subst (λ d. OnOk c.gives.result (DoesStep (deed_as d) c.args.pid c.args.event c.args.len c.args.self.now c.gives.new.self)) (sym c.in-Gives.is)
    (subst (λ n. OnOk c.gives.result (StepsFrom (λ (holds : Holds). Gives c.args.pid (place_of holds c.in-Gives.at n) n) c.args.pid c.args.event c.args.len c.args.self.now c.gives.new.self)) (sym (subst (λ d. HasLen c.args.len (deed_as d)) c.in-Gives.is c.requires.len)) c.gives.ensures)

pub starts-requires : goal.starts-requires
starts-requires c = record { sound = c.requires.sound }

pub returns-in-Starts : goal.returns-in-Starts
returns-in-Starts c =
    subst (λ d. OnOk c.starts.result (DoesStep (deed_as d) c.args.pid c.args.event c.args.len c.args.self.now c.starts.new.self)) (sym c.in-Starts.is)
    (subst (λ n. OnOk c.starts.result (StepsFrom (λ (holds : Holds). Starts c.args.pid c.args.event (read_as_image c.in-Starts.file.now).load n (place_of holds c.in-Starts.block c.in-Starts.block_len) c.in-Starts.block_len) c.args.pid c.args.event c.args.len c.args.self.now c.starts.new.self)) (sym (subst (λ d. HasLen c.args.len (deed_as d)) c.in-Starts.is c.requires.len))
    (subst (λ (layout : Layout). OnOk c.starts.result (StepsFrom (λ (holds : Holds). Starts c.args.pid c.args.event layout.load c.args.len (place_of holds layout.block layout.block_len) layout.block_len) c.args.pid c.args.event c.args.len c.args.self.now c.starts.new.self)) c.new.ensures c.starts.ensures))

pub joins-requires : goal.joins-requires
joins-requires c = record { sound = c.requires.sound }

pub returns-in-Forks : goal.returns-in-Forks
returns-in-Forks c = subst (λ d. OnOk c.joins.result (DoesStep (deed_as d) c.args.pid c.args.event c.args.len c.args.self.now c.joins.new.self)) (sym c.in-Forks.is) c.joins.ensures

pub founds-requires : goal.founds-requires
founds-requires c = record { sound = c.requires.sound }

pub returns-in-Founds : goal.returns-in-Founds
returns-in-Founds c =
    subst (λ d. OnOk c.founds.result (DoesStep (deed_as d) c.args.pid c.args.event c.args.len c.args.self.now c.founds.new.self)) (sym c.in-Founds.is)
    (ok-map c.founds.result (λ step. step c.in-Founds.child) c.founds.ensures)

pub shares-requires : goal.shares-requires
shares-requires c = record { sound = c.requires.sound }

pub returns-in-Shares : goal.returns-in-Shares
returns-in-Shares c = subst (λ d. OnOk c.shares.result (DoesStep (deed_as d) c.args.pid c.args.event c.args.len c.args.self.now c.shares.new.self)) (sym c.in-Shares.is) c.shares.ensures

pub leaves-requires : goal.leaves-requires
leaves-requires c = record { sound = c.requires.sound }

pub returns-in-Leaves : goal.returns-in-Leaves
returns-in-Leaves c = subst (λ d. OnOk c.leaves.result (DoesStep (deed_as d) c.args.pid c.args.event c.args.len c.args.self.now c.leaves.new.self)) (sym c.in-Leaves.is) c.leaves.ensures

pub delivers-requires : goal.delivers-requires
delivers-requires c = record { sound = c.requires.sound }

pub returns-in-Delivers : goal.returns-in-Delivers
returns-in-Delivers c = subst (λ d. OnOk c.delivers.result (DoesStep (deed_as d) c.args.pid c.args.event c.args.len c.args.self.now c.delivers.new.self)) (sym c.in-Delivers.is) c.delivers.ensures

pub exits-requires : goal.exits-requires
exits-requires c = record { sound = c.requires.sound }

pub returns-in-Exits : goal.returns-in-Exits
returns-in-Exits c = subst (λ d. OnOk c.exits.result (DoesStep (deed_as d) c.args.pid c.args.event c.args.len c.args.self.now c.exits.new.self)) (sym c.in-Exits.is) c.exits.ensures

pub faults-requires : goal.faults-requires
faults-requires c = record { sound = c.requires.sound }

pub returns-in-Faults : goal.returns-in-Faults
returns-in-Faults c = subst (λ d. OnOk c.faults.result (DoesStep (deed_as d) c.args.pid c.args.event c.args.len c.args.self.now c.faults.new.self)) (sym c.in-Faults.is) c.faults.ensures

pub dies-requires : goal.dies-requires
dies-requires c = record { sound = c.requires.sound }

pub returns-in-Dies : goal.returns-in-Dies
returns-in-Dies c = subst (λ d. OnOk c.dies.result (DoesStep (deed_as d) c.args.pid c.args.event c.args.len c.args.self.now c.dies.new.self)) (sym c.in-Dies.is) c.dies.ensures
