use Rattle.std.proofs.Common.{◌≡◌, length, arith}
use Rattle.std.proofs.lemmas.Result.{IfOk-from_err}
use Rattle.taint_group.proofs.Placing.{puts-last, puts-there}
use Rattle.taint_group.proofs.memories.put_memory.Goals as goal

pub returns-then-key-len : goal.returns-then-key-len
returns-then-key-len c = puts-there c.args.key c.args.memory c.put.new.place c.args.memories.now.items c.put.ensures (omega (arith, c.if-key-len.true, c.len.ensures, c.args.memories.now.ok))

pub returns-in_ok-push : goal.returns-in_ok-push
returns-in_ok-push c =
    let last : c.args.key ≡ length c.args.memories.now.items = omega (arith, c.if-key-len.false, c.len.ensures, c.args.memories.now.ok, c.requires) in
    puts-last c.args.key c.args.memory c.args.memories.now.items c.push.new.self.items c.in_ok-push.ensures.items last

pub returns-in_err-push : goal.returns-in_err-push
returns-in_err-push c = IfOk-from_err c.from_residual.result _ c.from_residual.ensures.0
