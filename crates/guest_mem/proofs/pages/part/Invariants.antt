use Rattle.std.proofs.Common.{◌≡◌, ◌≤◌, ◌-◌, drop, take}
use Rattle.guest_mem.specs.Pages.{contents, joined}
use Rattle.guest_mem.proofs.pages.part.Given as goal

abbrev pub invariant-pieces : goal.invariant-pieces
invariant-pieces l = record {
  few : l.done ≤ l.len;
  read : l.bytes.items ≡ take l.done (drop l.place (joined (contents l.pages)));
}

abbrev pub decreases-pieces : goal.decreases-pieces
decreases-pieces l = l.len - l.done
