use Rattle.std.proofs.Common.{subst}
use Rattle.taint_group.specs.Groups.{heard_of}
use Rattle.taint_group.specs.Moves.{Releases}
use Rattle.taint_group.proofs.Groups.{ok-map}
use Rattle.taint_group.proofs.Releasing.{released-shows, released-sound}
use Rattle.taint_group.proofs.group.Group.release.Goals as goal

pub returns-clause-same : goal.returns-clause-same
returns-clause-same c =
    let g = c.args.self.now in
    ok-map c.release.result
    (λ released. released-shows g.linkage (heard_of g) g.members.items g.memories.items c.release.new.memories.items g.sets
    (subst (λ l. Releases l g.memories.items c.release.new.memories.items) c.as_slice.ensures.value released)) c.release.ensures

pub returns-clause-sound : goal.returns-clause-sound
returns-clause-sound c =
    let g = c.args.self.now in
    ok-map c.release.result
    (λ released. released-sound g.linkage (heard_of g) g.members.items g.memories.items c.release.new.memories.items g.sets
    (subst (λ l. Releases l g.memories.items c.release.new.memories.items) c.as_slice.ensures.value released) c.requires.sound) c.release.ensures
