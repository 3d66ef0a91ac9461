use Rattle.std.proofs.Common.{ap, ◌∙◌}
use Rattle.taint_pages.specs.Pages.{contents}
use Rattle.taint_pages.proofs.Flat.{copy-more}
use Rattle.taint_pages.proofs.page.copy.Goals as goal

pub loop-page-preserved : goal.loop-page-preserved
loop-page-preserved c =
    ap (λ l. contents l) c.in_ok-push.ensures.items
    ∙ copy-more c.args.pages.now c.loop-page.copies.items c.loop-page.page-index c.page-item.result c.in_ok-copy.field-0 c.loop-page.invariant c.loop-page-test.true c.page-item.is c.in_ok-copy.ensures
