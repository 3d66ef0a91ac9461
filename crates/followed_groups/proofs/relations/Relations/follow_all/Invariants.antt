use Rattle.std.proofs.Common.{◌≡◌, ◌+◌, ◌≤◌, drop, take}
use Rattle.followed_groups.specs.Following.{HasFollowed, HasOnly, IsOf}
use Rattle.followed_groups.specs.Parts.{IsPart, ran_in}
use Rattle.followed_groups.specs.Relations.{AreOf, KeepsNoMore, KeepsNothing, room}
use Rattle.query_model.specs.Answers.{first_disagreement}
use Rattle.followed_groups.proofs.relations.Relations.follow_all.Given as goal

abbrev pub invariant-loop-group : goal.invariant-loop-group
invariant-loop-group g l = record {
  of : IsOf l.entries l.linkage l.until l.followed;
  has : HasFollowed l.followed (take l.group-index l.groups);
  only : HasOnly l.followed (take l.group-index l.groups);
  first : first_disagreement l.entries l.until l.groups ≡ first_disagreement l.entries l.until (drop l.group-index l.groups);
  part : IsPart l.replayed (take l.group-index l.groups);
  counted : l.steps ≡ l.initial.steps + ran_in l.entries l.until l.replayed;
  bounded : l.steps + ran_in l.entries l.until (drop l.group-index l.groups) ≤ l.initial.steps + ran_in l.entries l.until l.groups;
  all : KeepsNothing l.initial.self → l.replayed ≡ take l.group-index l.groups;
  adds : KeepsNoMore l.initial.self l.self;
  seen : AreOf l.entries l.self;
  room : room l.self ≡ room l.initial.self;
}
