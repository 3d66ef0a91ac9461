use Rattle.std.proofs.Common.{◌≤◌, length, arith}
use Rattle.guest_files.proofs.FileForms.{bytes-of, for-file, slot-none, slot-some, slot-within}
use Rattle.guest_files.proofs.files.Files.length.Goals as goal

pub index-requires : goal.index-requires
index-requires c = slot-within c.self.inside c.args.self.now c.args.file c.self.view_is c.requires

pub unreachable-requires : goal.unreachable-requires
unreachable-requires c = slot-none c.self.inside c.args.self.now c.args.file c.index.result.now c.self.view_is c.requires c.index.ensures c.in-None.is

pub returns-clause-length : goal.returns-clause-length
returns-clause-length c =
    bytes-of c.args.self.now c.args.file c.in-Some.content c.len.result length
    (slot-some c.self.inside c.args.self.now c.args.file c.index.result.now c.in-Some.content c.self.view_is c.requires c.index.ensures c.in-Some.is) c.len.ensures.length

pub returns-clause-end : goal.returns-clause-end
returns-clause-end c =
    for-file c.args.self.now c.args.file c.in-Some.content (λ f. c.len.result ≤ length f.bytes)
    (slot-some c.self.inside c.args.self.now c.args.file c.index.result.now c.in-Some.content c.self.view_is c.requires c.index.ensures c.in-Some.is) (omega (arith, c.len.ensures.length))

pub returns-clause-most : goal.returns-clause-most
returns-clause-most c = c.len.ensures.most
