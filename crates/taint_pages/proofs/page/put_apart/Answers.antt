use Rattle.std.proofs.Common.{◌≡◌, length, ap, sym, subst}
use Rattle.taint_pages.specs.Pages.{IsPage, PutsIn, content, number_in, page_len}
use Rattle.taint_pages.proofs.Over.{lent-fits, put-len, put-over, was-none, was-some}
use Rattle.taint_pages.proofs.page.put_apart.Goals as goal

pub overwrite-requires : goal.overwrite-requires
overwrite-requires c =
    let was = was-some c.in_ok-kept.field-0 c.in-Some.kept (content c.args.page.now) c.in_ok-kept.ensures.ok c.in-Some.is in
    let long : length c.in-Some.kept.items ≡ page_len = subst IsPage was c.requires.page in
    lent-fits c.in-Some.kept.items c.deref_mut.result.now c.args.numbers.now c.args.at c.deref_mut.ensures.value long c.requires.inside

pub returns-in-Some-clause-page : goal.returns-in-Some-clause-page
returns-in-Some-clause-page c =
    let was = was-some c.in_ok-kept.field-0 c.in-Some.kept (content c.args.page.now) c.in_ok-kept.ensures.ok c.in-Some.is in
    let long : length c.in-Some.kept.items ≡ page_len = subst IsPage was c.requires.page in
    put-len c.in-Some.kept.items c.deref_mut.result.now c.overwrite.new.kept c.args.numbers.now c.args.at c.in-Some.kept.len c.deref_mut.ensures.value long c.in-Some.kept.ok.0 c.requires.inside c.overwrite.ensures

pub returns-in-Some-clause-ok : goal.returns-in-Some-clause-ok
returns-in-Some-clause-ok c =
    let was = was-some c.in_ok-kept.field-0 c.in-Some.kept (content c.args.page.now) c.in_ok-kept.ensures.ok c.in-Some.is in
    let long : length c.in-Some.kept.items ≡ page_len = subst IsPage was c.requires.page in
    put-over c.in-Some.kept.items c.deref_mut.result.now c.overwrite.new.kept c.args.numbers.now c.args.at c.in-Some.kept.len c.deref_mut.ensures.value long c.in-Some.kept.ok.0 c.requires.inside c.overwrite.ensures
    c.args.unset c.args.base (content c.args.page.now) (λ k within. ap (λ p. number_in c.args.unset c.args.base p k) (sym was))

pub returns-in-Some-clause-err : goal.returns-in-Some-clause-err
returns-in-Some-clause-err c = tt

pub returns-in_ok-page-in-None-clause-page : goal.returns-in_ok-page-in-None-clause-page
returns-in_ok-page-in-None-clause-page c = c.in_ok-page-in-None.ensures.page

pub returns-in_ok-page-in-None-clause-ok : goal.returns-in_ok-page-in-None-clause-ok
returns-in_ok-page-in-None-clause-ok c =
    subst (λ p. PutsIn c.args.unset c.args.base c.args.at c.args.numbers.now p (content c.in_ok-page-in-None.field-0)) (sym (was-none c.in_ok-kept.field-0 (content c.args.page.now) c.in_ok-kept.ensures.ok c.in-None.is)) c.in_ok-page-in-None.ensures.put
