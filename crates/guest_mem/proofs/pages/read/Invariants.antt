use Rattle.std.proofs.Common.{◌≡◌, ◌≤◌, ◌-◌, drop, length, take}
use Rattle.guest_mem.specs.Pages.{contents, joined}
use Rattle.guest_mem.proofs.pages.read.Given as goal

abbrev pub invariant-pieces : goal.invariant-pieces
invariant-pieces l = record {
  few : l.done ≤ length l.fn.buf;
  read : take l.done l.buf ≡ take l.done (drop l.place (joined (contents l.pages)));
}

abbrev pub decreases-pieces : goal.decreases-pieces
decreases-pieces l = length l.initial.buf - l.done
