use Rattle.std.proofs.Common.{◌≡◌, arith, ap₂, subst, sym}
use Rattle.rv64_model.specs.Instruction.{Effect, instruction}
use Rattle.guest_bodies.specs.Running.{StopsAt}
use Rattle.guest_bodies.proofs.Counts.{leads-same, on-stop, one-stop, stop-at}
use Rattle.guest_bodies.proofs.running.run.Goals as goal

pub returns-in_default : goal.returns-in_default
returns-in_default g c =
    let windows = g.M.Memory.windows in
    let cpu : c.step_with.new.cpu ≡ c.loop-ran.cpu = on-stop c.step_with.result c.in_default.not-Next c.step_with.ensures.cpu in
    let memory : windows c.step_with.new.mem ≡ windows c.loop-ran.memory = on-stop c.step_with.result c.in_default.not-Next c.step_with.ensures.memory in
    record {
      tick = omega (arith, c.step_with.ensures.tick, c.loop-ran.invariant.1, one-stop c.step_with.result c.in_default.not-Next);
      many = leads-same windows c.loop-ran.ran c.args.cpu.now c.loop-ran.cpu c.step_with.new.cpu c.args.memory.now c.loop-ran.memory c.step_with.new.mem c.loop-ran.invariant.0 cpu memory;
      stops =
          subst (λ (e : Effect). StopsAt c.step_with.result c.loop-ran.ran c.args.count e) (sym (ap₂ instruction cpu memory))
          (stop-at c.step_with.result c.loop-ran.ran c.args.count (instruction c.loop-ran.cpu (windows c.loop-ran.memory)) c.step_with.new.cpu (windows c.step_with.new.mem) c.in_default.not-Next c.step_with.ensures.effect (omega arith));
    }
