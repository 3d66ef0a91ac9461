use Rattle.std.proofs.Common.{◌≡◌, ◌≤◌, length}
use Rattle.arn_base.specs.declared.records.Give.{Give}
use Rattle.parts_model.specs.Files.{read_from}
use Rattle.parts_model.specs.Tagged.{given}
use Rattle.guest_files.proofs.FileForms.{IfOk-map, bytes-of, of-file, slot-none, slot-some, slot-within}
use Rattle.guest_files.proofs.files.Files.read_at.Goals as goal

pub index-requires : goal.index-requires
index-requires c = slot-within c.self.inside c.args.self.now c.args.file c.self.view_is c.requires.there

pub read-requires : goal.read-requires
read-requires c =
    of-file c.args.self.now c.args.file c.in-Some.content (λ f. c.args.at ≤ length f.bytes)
    (slot-some c.self.inside c.args.self.now c.args.file c.index.result.now c.in-Some.content c.self.view_is c.requires.there c.index.ensures c.in-Some.is) c.requires.within

pub unreachable-requires : goal.unreachable-requires
unreachable-requires c = slot-none c.self.inside c.args.self.now c.args.file c.index.result.now c.self.view_is c.requires.there c.index.ensures c.in-None.is

pub returns-clause-given : goal.returns-clause-given
returns-clause-given c =
    IfOk-map c.read.result (λ (give : Give). give ≡ given (read_from c.in-Some.content.bytes c.args.at c.args.max)) _
    (λ give is. bytes-of c.args.self.now c.args.file c.in-Some.content give (λ bytes. given (read_from bytes c.args.at c.args.max))
    (slot-some c.self.inside c.args.self.now c.args.file c.index.result.now c.in-Some.content c.self.view_is c.requires.there c.index.ensures c.in-Some.is) is) c.read.ensures.given

pub returns-clause-few_bytes : goal.returns-clause-few_bytes
returns-clause-few_bytes c = c.read.ensures.few_bytes

pub returns-clause-few_origins : goal.returns-clause-few_origins
returns-clause-few_origins c = c.read.ensures.few_origins
