use Rattle.std.proofs.Common.{◌≡◌, length, ap, sym, subst}
use Rattle.taint_pages.specs.Pages.{IsPage, PutsIn, content, number_in, page_len}
use Rattle.taint_pages.proofs.Over.{lent-fits, put-len, put-none, put-over}
use Rattle.taint_pages.proofs.page.put_numbers.Goals as goal

pub overwrite-requires : goal.overwrite-requires
overwrite-requires c =
    let long : length c.in-Own.kept.items ≡ page_len = subst (λ p. IsPage (content p)) c.in-Own.is c.requires.page in
    lent-fits c.in-Own.kept.items c.deref_mut.result.now c.args.numbers.now c.args.at c.deref_mut.ensures.value long c.requires.inside

pub returns-in-Own-clause-page : goal.returns-in-Own-clause-page
returns-in-Own-clause-page c =
    let long : length c.in-Own.kept.items ≡ page_len = subst (λ p. IsPage (content p)) c.in-Own.is c.requires.page in
    put-len c.in-Own.kept.items c.deref_mut.result.now c.overwrite.new.kept c.args.numbers.now c.args.at c.in-Own.kept.len c.deref_mut.ensures.value long c.in-Own.kept.ok.0 c.requires.inside c.overwrite.ensures

pub returns-in-Own-clause-ok : goal.returns-in-Own-clause-ok
returns-in-Own-clause-ok c =
    let long : length c.in-Own.kept.items ≡ page_len = subst (λ p. IsPage (content p)) c.in-Own.is c.requires.page in
    put-over c.in-Own.kept.items c.deref_mut.result.now c.overwrite.new.kept c.args.numbers.now c.args.at c.in-Own.kept.len c.deref_mut.ensures.value long c.in-Own.kept.ok.0 c.requires.inside c.overwrite.ensures
    c.args.unset c.args.base (content c.args.page.now) (λ k within. ap (λ p. number_in c.args.unset c.args.base (content p) k) (sym c.in-Own.is))

pub returns-in-Absent-clause-ok : goal.returns-in-Absent-clause-ok
returns-in-Absent-clause-ok c =
    subst (λ p. PutsIn c.args.unset c.args.base c.args.at c.args.numbers.now (content p) (content p)) (sym c.in-Absent.is) (put-none c.args.unset c.args.base c.args.at c.args.numbers.now (c.have_unset.ensures.0 c.if-have_unset.true))

pub put_apart-requires-clause-page : goal.put_apart-requires-clause-page
put_apart-requires-clause-page c = c.requires.page
