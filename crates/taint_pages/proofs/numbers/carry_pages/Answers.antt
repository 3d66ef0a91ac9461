use Rattle.std.proofs.Common.{◌<◌, length, sym, subst, arith}
use Rattle.taint_pages.specs.Pages.{IsPage, contents}
use Rattle.taint_pages.proofs.Flat.{length-contents, read-page}
use Rattle.taint_pages.proofs.Carrying.{carried-all, carried-first, carried-more, inside-still, on-twice, page-fits, still-sound}
use Rattle.taint_pages.proofs.numbers.carry_pages.Goals as goal

pub returns-in_err-carry_page-clause-sound : goal.returns-in_err-carry_page-clause-sound
returns-in_err-carry_page-clause-sound c =
    let so = c.loop-place.invariant in
    let inside = inside-still c.args.pages.now.items c.loop-place.pages.items c.loop-place.place so.count (omega (arith, c.loop-place-test.true, c.len-place-end.ensures, c.args.pages.now.ok)) in
    still-sound c.args.carrying.now c.loop-place.carrying c.carry_page.new.carrying c.args.unset (contents c.args.pages.now.items) c.loop-place.pages.items c.loop-place.place c.index_mut.result.now c.carry_page.new.page so inside c.index_mut.ensures.value
    c.carry_page.ensures.on c.carry_page.ensures.page

pub returns-in_err-carry_page-clause-on : goal.returns-in_err-carry_page-clause-on
returns-in_err-carry_page-clause-on c = on-twice c.args.carrying.now c.loop-place.carrying c.carry_page.new.carrying c.loop-place.invariant.on c.carry_page.ensures.on

pub loop-place-preserved : goal.loop-place-preserved
loop-place-preserved c =
    let so = c.loop-place.invariant in
    let inside = inside-still c.args.pages.now.items c.loop-place.pages.items c.loop-place.place so.count (omega (arith, c.loop-place-test.true, c.len-place-end.ensures, c.args.pages.now.ok)) in
    carried-more c.args.carrying.now c.loop-place.carrying c.carry_page.new.carrying c.args.unset (contents c.args.pages.now.items) c.loop-place.pages.items c.loop-place.place c.index_mut.result.now c.carry_page.new.page so inside c.index_mut.ensures.value
    c.carry_page.ensures.on c.carry_page.ensures.page c.in_ok-carry_page.ensures.carried

pub loop-place-init : goal.loop-place-init
loop-place-init c = carried-first c.args.carrying.now c.args.unset (contents c.args.pages.now.items) c.requires

pub carry_page-requires-clause-page : goal.carry_page-requires-clause-page
carry_page-requires-clause-page c =
    let so = c.loop-place.invariant in
    let inside = inside-still c.args.pages.now.items c.loop-place.pages.items c.loop-place.place so.count (omega (arith, c.loop-place-test.true, c.len-place-end.ensures, c.args.pages.now.ok)) in
    let there : c.loop-place.place < length (contents c.loop-place.pages.items) = subst (λ n. c.loop-place.place < n) (sym (length-contents c.loop-place.pages.items)) inside in
    subst IsPage (sym (read-page c.loop-place.pages.items c.loop-place.place c.index_mut.result.now there c.index_mut.ensures.value)) (so.sound.whole c.loop-place.place)

pub carry_page-requires-clause-fits : goal.carry_page-requires-clause-fits
carry_page-requires-clause-fits c =
    let so = c.loop-place.invariant in
    let inside = inside-still c.args.pages.now.items c.loop-place.pages.items c.loop-place.place so.count (omega (arith, c.loop-place-test.true, c.len-place-end.ensures, c.args.pages.now.ok)) in
    let there : c.loop-place.place < length (contents c.loop-place.pages.items) = subst (λ n. c.loop-place.place < n) (sym (length-contents c.loop-place.pages.items)) inside in
    page-fits c.args.unset (contents c.loop-place.pages.items) c.loop-place.place so.sound there

pub returns-clause-sound : goal.returns-clause-sound
returns-clause-sound c = c.loop-place.invariant.sound

pub returns-clause-carried : goal.returns-clause-carried
returns-clause-carried c =
    carried-all c.args.carrying.now c.loop-place.carrying c.args.unset (contents c.args.pages.now.items) (contents c.loop-place.pages.items) c.loop-place.place c.loop-place.invariant
    (omega (arith, length-contents c.args.pages.now.items, c.loop-place-test.false, c.len-place-end.ensures, c.args.pages.now.ok))

pub returns-clause-on : goal.returns-clause-on
returns-clause-on c = c.loop-place.invariant.on
