use Rattle.std.proofs.Common.{None}
use Rattle.taint_pages.proofs.Over.{carried-back, carried-len}
use Rattle.taint_pages.proofs.page.carry_made.Goals as goal

pub returns-clause-len : goal.returns-clause-len
returns-clause-len c = carried-len c.carry_all.new.self c.in_ok-numbers.numbers.items c.deref_mut.result.now c.carry_all.new.numbers c.in_ok-numbers.numbers.len c.deref_mut.ensures.value c.in_ok-numbers.ensures.len c.in_ok-numbers.numbers.ok.0 c.in_ok-carry_all.ensures.numbers

pub returns-clause-carried : goal.returns-clause-carried
returns-clause-carried c =
    carried-back c.carry_all.new.self c.in_ok-numbers.numbers.items c.deref_mut.result.now c.carry_all.new.numbers c.in_ok-numbers.numbers.len c.deref_mut.ensures.value c.in_ok-numbers.ensures.len c.in_ok-numbers.numbers.ok.0 c.in_ok-carry_all.ensures.numbers
    c.args.unset c.args.base None c.in_ok-numbers.ensures.unset

pub returns-clause-on : goal.returns-clause-on
returns-clause-on c = c.carry_all.ensures.on

pub returns-in_err-carry_all-clause-on : goal.returns-in_err-carry_all-clause-on
returns-in_err-carry_all-clause-on c = c.carry_all.ensures.on
