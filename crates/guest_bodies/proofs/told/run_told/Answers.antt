use Rattle.std.proofs.Common.{arith}
use Rattle.guest_bodies.proofs.Led.{led-fails, on-err}
use Rattle.guest_bodies.proofs.told.run_told.Goals as goal
use Rattle.guest_bodies.proofs.told.run_told.Goals.{in-Load+in_ok-instruction-in-Load, in-Store+in_ok-instruction-in-Store, in-Imm+in_ok-instruction-in-Imm, in-Op+in_ok-instruction-in-Op, in_default-instr+in_ok-instruction-in_default-instr}

pub loop-ran-preserved : goal.loop-ran-preserved
loop-ran-preserved g c =
    let told : g.O.Observer.runs c.loop-ran.observer c.args.stretch.pid c.in-Next.planned.instr c.loop-ran.cpu c.match-planned.observer =
    elim c.match-planned.branch [
      | in-Load+in_ok-instruction-in-Load w ↦ rw w.observer-is w.in_ok-instruction-in-Load.ensures
      | in-Store+in_ok-instruction-in-Store w ↦ rw w.observer-is w.in_ok-instruction-in-Store.ensures
      | in-Imm+in_ok-instruction-in-Imm w ↦ rw w.observer-is w.in_ok-instruction-in-Imm.ensures
      | in-Op+in_ok-instruction-in-Op w ↦ rw w.observer-is w.in_ok-instruction-in-Op.ensures
      | in_default-instr+in_ok-instruction-in_default-instr w ↦ rw w.observer-is w.in_ok-instruction-in_default-instr.ensures
    ] in
    grind (arith, told, c.loop-ran.invariant, c.in_ok-execute.ensures, c.next_instr_with.ensures.tick)

pub returns-in_err-execute-clause-failed : goal.returns-in_err-execute-clause-failed
returns-in_err-execute-clause-failed g c =
    on-err c.from_residual-in_err-execute.result
    (led-fails g.M.Memory.windows g.O.Observer.runs c.args.stretch.pid c.args.cpu.now c.loop-ran.cpu c.execute.new.cpu c.args.memory.now c.loop-ran.memory c.execute.new.mem c.args.observer.now c.loop-ran.observer
    c.in_err-execute.ensures.err_cpu c.in_err-execute.ensures.err_memory
    c.loop-ran.ran c.args.stretch.count c.args.steps.now c.next_instr_with.new.steps c.loop-ran.invariant.led c.loop-ran-test.true (omega (arith, c.next_instr_with.ensures.tick, c.loop-ran.invariant.counted)))
