use Rattle.std.proofs.Common.{◌≡◌, ◌*◌, List, ℕ, ap, arith, false, sym, subst, ◌∙◌}
use Rattle.guest_mem.specs.Pages.{ArePages, contents, is_own, joined, owned, page_bytes}
use Rattle.guest_mem.specs.declared.page.Page.{Page}
use Rattle.guest_mem.specs.declared.page.TheConstants.{PAGE_COUNT, PAGE_LEN}
use Rattle.parts_model.specs.Memory.{zeros}
use Rattle.parts_model.specs.declared.limits.TheConstants.{WINDOW_LEN}
use Rattle.guest_mem.proofs.Mapped.{map-replicate}
use Rattle.guest_mem.proofs.Near.{joined-zeros, zeros-pages}
use Rattle.guest_mem.proofs.pages.zeros.Goals as goal

pub loop-preserved : goal.loop-preserved
loop-preserved c = record {
  bytes =
      ap (λ (l : List Page). contents l) c.in_ok-push.ensures.items
      ∙ map-replicate page_bytes c.loop.pages.items c.loop.counter (zeros PAGE_LEN) c.in_ok-copy.field-0 c.loop.invariant.bytes (c.in_ok-copy.ensures.bytes ∙ c.loop.invariant.page);
  own =
      ap (λ (l : List Page). owned l) c.in_ok-push.ensures.items
      ∙ map-replicate is_own c.loop.pages.items c.loop.counter false c.in_ok-copy.field-0 c.loop.invariant.own (c.in_ok-copy.ensures.own ∙ c.loop.invariant.shared);
  page = c.loop.invariant.page;
  shared = c.loop.invariant.shared;
}

pub returns-clause-pages : goal.returns-clause-pages
returns-clause-pages c =
    let same : c.loop.counter ≡ PAGE_COUNT = omega arith in
    subst ArePages (sym c.loop.invariant.bytes) (zeros-pages c.loop.counter same)

pub returns-clause-bytes : goal.returns-clause-bytes
returns-clause-bytes c =
    let same : PAGE_LEN * c.loop.counter ≡ WINDOW_LEN = omega arith in
    ap (λ (l : List (List ℕ)). joined l) c.loop.invariant.bytes ∙ joined-zeros c.loop.counter PAGE_LEN WINDOW_LEN same
