use Rattle.std.proofs.Common.{◌≡◌}
use Rattle.followed_groups.specs.Relations.{AreOf, room}
use Rattle.followed_groups.proofs.followed.Followed.keep.Given as goal

abbrev pub invariant-loop-group : goal.invariant-loop-group
invariant-loop-group l = record {
  entries : l.followed.entries ≡ l._entries;
  seen : AreOf l._entries l.kept;
  room : room l.kept ≡ room l.initial.kept;
}
