use Rattle.std.proofs.Common.{◌≡◌, false, replicate}
use Rattle.parts_model.specs.Memory.{zeros}
use Rattle.guest_mem.specs.Pages.{contents, is_own, owned, page_bytes}
use Rattle.guest_mem.specs.declared.page.TheConstants.{PAGE_LEN}
use Rattle.guest_mem.proofs.pages.zeros.Given as goal

abbrev pub invariant-loop : goal.invariant-loop
invariant-loop l = record {
  bytes : contents l.pages.items ≡ replicate l.counter (zeros PAGE_LEN);
  own : owned l.pages.items ≡ replicate l.counter false;
  page : page_bytes l.page ≡ zeros PAGE_LEN;
  shared : is_own l.page ≡ false;
}
