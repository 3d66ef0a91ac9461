use Rattle.std.proofs.Common.{◌≡◌, Option, Some, IfSome, option_map, ap, sym, subst, ◌∙◌}
use Rattle.arn_base.specs.declared.machine.Cpu.{Cpu}
use Rattle.acts_model.specs.Acts.{Act}
use Rattle.acts_model.specs.Deeds.{deed_as}
use Rattle.acts_model.specs.Told.{act_of}
use Rattle.acts_model.specs.Views.{stands_at}
use Rattle.replay_steps.specs.Calls.{CanStart, ChildIsFree}
use Rattle.replay_steps.proofs.Lives.{live-sees}
use Rattle.replay_steps.proofs.Plains.{cpu-is}
use Rattle.replay_steps.proofs.Wrongs.{told-starts}
use Rattle.replay_steps.proofs.happening.act.Goals as goal

pub do_deed-requires-clause-child : goal.do_deed-requires-clause-child
do_deed-requires-clause-child c =
    let sees = live-sees c.args.bodies.now c.args.pid c.requires.live in
    let told : act_of sees.view.body.cpu c.args.entry.now ≡ Some (deed_as c.in-Some.deed) =
    ap (λ (k : Cpu). act_of k c.args.entry.now) (sym (cpu-is _ sees.view c.cpu.result.now sees.is c.cpu.ensures)) ∙ (sym c.deed_of.ensures ∙ ap (option_map deed_as) c.in-Some.is) in
    subst (λ (o : Option Act). IfSome o (ChildIsFree c.args.bodies.now)) told (c.requires.child sees.view sees.is)

pub do_deed-requires-clause-start : goal.do_deed-requires-clause-start
do_deed-requires-clause-start c =
    let sees = live-sees c.args.bodies.now c.args.pid c.requires.live in
    let v = sees.view in
    let told : act_of v.body.cpu c.args.entry.now ≡ Some (deed_as c.in-Some.deed) =
    ap (λ (k : Cpu). act_of k c.args.entry.now) (sym (cpu-is _ v c.cpu.result.now sees.is c.cpu.ensures)) ∙ (sym c.deed_of.ensures ∙ ap (option_map deed_as) c.in-Some.is) in
    subst (λ (o : Option Act). IfSome o CanStart) told (told-starts v (stands_at v) c.args.entry.now c.requires.own (c.requires.right v sees.is))
