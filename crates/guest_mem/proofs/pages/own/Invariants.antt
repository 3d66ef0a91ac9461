use Rattle.std.proofs.Common.{◌≡◌}
use Rattle.guest_mem.specs.Pages.{Gains, contents, owned}
use Rattle.guest_mem.proofs.Owned.{AreOwnBelow}
use Rattle.guest_mem.proofs.pages.own.Given as goal

abbrev pub invariant-loop-number : goal.invariant-loop-number
invariant-loop-number l = record {
  bytes : contents l.pages ≡ contents l.fn.pages;
  gains : Gains l.place l.len (owned l.fn.pages) (owned l.pages);
  own : AreOwnBelow l.place l.len l.number (owned l.pages);
}
