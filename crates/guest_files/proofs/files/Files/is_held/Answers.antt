use Rattle.std.proofs.Common.{◌≡◌, nat_lt}
use Rattle.guest_files.proofs.FileForms.{for-file, slot-none, slot-some, slot-within}
use Rattle.guest_files.proofs.files.Files.is_held.Goals as goal

pub index-requires : goal.index-requires
index-requires c = slot-within c.self.inside c.args.self.now c.args.file c.self.view_is c.requires

pub unreachable-requires : goal.unreachable-requires
unreachable-requires c = slot-none c.self.inside c.args.self.now c.args.file c.index.result.now c.self.view_is c.requires c.index.ensures c.in-None.is

pub returns : goal.returns
returns c =
    for-file c.args.self.now c.args.file c.in-Some.content (λ f. c.is_held.result ≡ nat_lt 0 f.holders)
    (slot-some c.self.inside c.args.self.now c.args.file c.index.result.now c.in-Some.content c.self.view_is c.requires c.index.ensures c.in-Some.is) c.is_held.ensures
