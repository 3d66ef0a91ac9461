use Rattle.std.proofs.Common.{None}
use Rattle.taint_pages.proofs.Over.{lent-fits, put-len, put-none, put-over}
use Rattle.taint_pages.proofs.page.made_of.Goals as goal

pub returns-then-have_unset-clause-page : goal.returns-then-have_unset-clause-page
returns-then-have_unset-clause-page c = tt

pub returns-then-have_unset-clause-put : goal.returns-then-have_unset-clause-put
returns-then-have_unset-clause-put c = put-none c.args.unset c.args.base c.args.at c.args.numbers.now (c.have_unset.ensures.0 c.if-have_unset.true)

pub overwrite-requires : goal.overwrite-requires
overwrite-requires c = lent-fits c.in_ok-kept.kept.items c.deref_mut.result.now c.args.numbers.now c.args.at c.deref_mut.ensures.value c.in_ok-kept.ensures.len c.requires.inside

pub returns-clause-page : goal.returns-clause-page
returns-clause-page c = put-len c.in_ok-kept.kept.items c.deref_mut.result.now c.overwrite.new.kept c.args.numbers.now c.args.at c.in_ok-kept.kept.len c.deref_mut.ensures.value c.in_ok-kept.ensures.len c.in_ok-kept.kept.ok.0 c.requires.inside c.overwrite.ensures

pub returns-clause-put : goal.returns-clause-put
returns-clause-put c =
    put-over c.in_ok-kept.kept.items c.deref_mut.result.now c.overwrite.new.kept c.args.numbers.now c.args.at c.in_ok-kept.kept.len c.deref_mut.ensures.value c.in_ok-kept.ensures.len c.in_ok-kept.kept.ok.0 c.requires.inside c.overwrite.ensures
    c.args.unset c.args.base None c.in_ok-kept.ensures.unset
