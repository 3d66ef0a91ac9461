use Rattle.std.proofs.Common.{◌≡◌, ◌≤◌, ◌-◌, length, take}
use Rattle.arn_base.specs.Disk.{overwrite}
use Rattle.guest_mem.specs.Pages.{ArePages, contents, joined, owned}
use Rattle.guest_mem.proofs.pages.write.Given as goal

abbrev pub invariant-pieces : goal.invariant-pieces
invariant-pieces l = record {
  few : l.done ≤ length l.bytes;
  bytes : joined (contents l.pages) ≡ overwrite (joined (contents l.fn.pages)) l.place (take l.done l.bytes);
  own : owned l.pages ≡ owned l.fn.pages;
  pages : ArePages (contents l.pages);
}

abbrev pub decreases-pieces : goal.decreases-pieces
decreases-pieces l = length l.bytes - l.done
