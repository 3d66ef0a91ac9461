use Rattle.std.proofs.Common.{◌≡◌, ◌*◌, length, ap, sym, subst}
use Rattle.taint_pages.specs.Carried.{CarriesPage}
use Rattle.taint_pages.specs.Pages.{IsPage, content, number_in, page_len}
use Rattle.taint_pages.proofs.Over.{carried-back, carried-len, was-none, was-some}
use Rattle.taint_pages.proofs.page.carry_page.Goals as goal

pub returns-in_err-carry_all-in-Some-clause-on : goal.returns-in_err-carry_all-in-Some-clause-on
returns-in_err-carry_all-in-Some-clause-on c = c.carry_all.ensures.on

pub carry_unset-requires : goal.carry_unset-requires
carry_unset-requires c = record { fits = c.requires.fits }

pub returns-in_ok-carry_all-in-Some-clause-page : goal.returns-in_ok-carry_all-in-Some-clause-page
returns-in_ok-carry_all-in-Some-clause-page c =
    let was = was-some c.in_ok-numbers.field-0 c.in-Some.numbers (content c.args.page.now) c.in_ok-numbers.ensures.ok c.in-Some.is in
    let long : length c.in-Some.numbers.items ≡ page_len = subst IsPage was c.requires.page in
    carried-len c.carry_all.new.self c.in-Some.numbers.items c.deref_mut.result.now c.carry_all.new.numbers c.in-Some.numbers.len c.deref_mut.ensures.value long c.in-Some.numbers.ok.0 c.in_ok-carry_all-in-Some.ensures.numbers

pub returns-in_ok-carry_all-in-Some-clause-carried : goal.returns-in_ok-carry_all-in-Some-clause-carried
returns-in_ok-carry_all-in-Some-clause-carried c =
    let was = was-some c.in_ok-numbers.field-0 c.in-Some.numbers (content c.args.page.now) c.in_ok-numbers.ensures.ok c.in-Some.is in
    let long : length c.in-Some.numbers.items ≡ page_len = subst IsPage was c.requires.page in
    carried-back c.carry_all.new.self c.in-Some.numbers.items c.deref_mut.result.now c.carry_all.new.numbers c.in-Some.numbers.len c.deref_mut.ensures.value long c.in-Some.numbers.ok.0 c.in_ok-carry_all-in-Some.ensures.numbers
    c.args.unset (c.args.place * page_len) (content c.args.page.now) (λ k within. ap (λ p. number_in c.args.unset (c.args.place * page_len) p k) (sym was))

pub returns-in_ok-carry_all-in-Some-clause-on : goal.returns-in_ok-carry_all-in-Some-clause-on
returns-in_ok-carry_all-in-Some-clause-on c = c.carry_all.ensures.on

pub returns-in_ok-page-in-None-clause-carried : goal.returns-in_ok-page-in-None-clause-carried
returns-in_ok-page-in-None-clause-carried c =
    subst (λ p. CarriesPage c.carry_unset.new.carrying c.args.unset (c.args.place * page_len) p (content c.in_ok-page-in-None.field-0)) (sym (was-none c.in_ok-numbers.field-0 (content c.args.page.now) c.in_ok-numbers.ensures.ok c.in-None.is))
    c.in_ok-page-in-None.ensures.carried
