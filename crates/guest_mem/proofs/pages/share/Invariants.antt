use Rattle.std.proofs.Common.{◌≡◌}
use Rattle.guest_mem.specs.Pages.{Loses, contents, owned}
use Rattle.guest_mem.proofs.Owned.{AreSharedBelow}
use Rattle.guest_mem.proofs.pages.share.Given as goal

abbrev pub invariant-loop-number : goal.invariant-loop-number
invariant-loop-number l = record {
  bytes : contents l.pages ≡ contents l.fn.pages;
  loses : Loses (owned l.fn.pages) (owned l.pages);
  shared : AreSharedBelow l.number (owned l.pages);
}
