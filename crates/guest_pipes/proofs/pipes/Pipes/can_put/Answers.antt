use Rattle.std.proofs.Common.{◌≡◌, Bool, Option, Some, ap, option_map}
use Rattle.parts_model.specs.Pipes.{Pipe, can_put as has_place}
use Rattle.guest_pipes.proofs.Changes.{at-found, there-numbered}
use Rattle.guest_pipes.proofs.pipes.Pipes.can_put.Goals as goal

pub key_of-key-requires : goal.key_of-key-requires
key_of-key-requires c = there-numbered c.args.self.now c.self.inside.table.slots c.self.inside.made c.args.pipe c.self.view_is c.self.invariant c.requires

pub returns : goal.returns
returns c =
    at-found c.args.self.now c.self.inside.table c.self.inside.made c.key_of-key.result c.args.pipe c.index.result.now c.self.view_is c.index.ensures c.key_of-key.ensures c.self.invariant
    (λ (o : Option Pipe). Some c.can_put.result ≡ option_map has_place o) (ap (λ (b : Bool). Some b) c.can_put.ensures)
