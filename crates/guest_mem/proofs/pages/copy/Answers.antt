use Rattle.std.proofs.Common.{List, ap, ◌∙◌}
use Rattle.guest_mem.specs.Pages.{contents, is_own, owned, page_bytes}
use Rattle.guest_mem.specs.declared.page.Page.{Page}
use Rattle.guest_mem.proofs.Mapped.{map-more}
use Rattle.guest_mem.proofs.pages.copy.Goals as goal

pub loop-page-preserved : goal.loop-page-preserved
loop-page-preserved c = record {
  bytes =
      ap (λ (l : List Page). contents l) c.in_ok-push.ensures.items
      ∙ map-more page_bytes c.args.pages.now c.loop-page.copies.items c.loop-page.page-index c.page-item.result c.in_ok-copy.field-0 c.loop-page.invariant.bytes c.loop-page-test.true c.page-item.is c.in_ok-copy.ensures.bytes;
  own =
      ap (λ (l : List Page). owned l) c.in_ok-push.ensures.items
      ∙ map-more is_own c.args.pages.now c.loop-page.copies.items c.loop-page.page-index c.page-item.result c.in_ok-copy.field-0 c.loop-page.invariant.own c.loop-page-test.true c.page-item.is c.in_ok-copy.ensures.own;
}
