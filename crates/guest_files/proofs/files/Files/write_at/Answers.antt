use Rattle.std.proofs.Common.{◌≤◌, length, refl, IsSome, sym, subst, ◌∙◌}
use Rattle.parts_model.specs.Files.{Files}
use Rattle.parts_model.specs.Numbered.{nth}
use Rattle.guest_files.specs.Table.{IsThere}
use Rattle.guest_files.proofs.FileForms.{OnErr-map, OnOk-map, same-put, written-put, IsSound-put, of-file, slot-none, slot-some, slot-within}
use Rattle.guest_files.proofs.Numbers.{nth-get_or}
use Rattle.guest_files.proofs.files.Files.write_at.Goals as goal

pub invariant_of-self : goal.invariant_of-self
invariant_of-self c =
    let inside = c.self.inside in
    let there : IsSome (nth inside.all.items c.args.file) = subst (λ (fs : Files). IsThere fs c.args.file) (sym c.self.view_is) c.requires.there in
    IsSound-put inside.all.items inside.names inside.present c.args.file c.write.new.self there c.self.invariant

pub returns-clause-written : goal.returns-clause-written
returns-clause-written c =
    let inside = c.self.inside in
    let there : IsSome (nth inside.all.items c.args.file) = subst (λ (fs : Files). IsThere fs c.args.file) (sym c.self.view_is) c.requires.there in
    let slot = nth-get_or inside.all.items c.args.file c.index_mut.result.now there c.index_mut.ensures.value in
    OnOk-map c.write.result _ _ (λ is. written-put _ _ inside.all.items inside.names c.args.file c.args.at c.args.bytes.now c.args.event c.in-Some.content c.write.new.self c.self.view_is refl (slot ∙ c.in-Some.is) is) c.write.ensures.written

pub index_mut-requires : goal.index_mut-requires
index_mut-requires c = slot-within c.self.inside c.args.self.now c.args.file c.self.view_is c.requires.there

pub write-requires : goal.write-requires
write-requires c =
    of-file c.args.self.now c.args.file c.in-Some.content (λ f. c.args.at ≤ length f.bytes)
    (slot-some c.self.inside c.args.self.now c.args.file c.index_mut.result.now c.in-Some.content c.self.view_is c.requires.there c.index_mut.ensures.value c.in-Some.is) c.requires.within

pub unreachable-requires : goal.unreachable-requires
unreachable-requires c = slot-none c.self.inside c.args.self.now c.args.file c.index_mut.result.now c.self.view_is c.requires.there c.index_mut.ensures.value c.in-None.is

pub returns-clause-count : goal.returns-clause-count
returns-clause-count c = c.write.ensures.count

pub returns-clause-too_long : goal.returns-clause-too_long
returns-clause-too_long c = c.write.ensures.too_long

pub returns-clause-answers : goal.returns-clause-answers
returns-clause-answers c = c.write.ensures.answers

pub returns-clause-err : goal.returns-clause-err
returns-clause-err c =
    let inside = c.self.inside in
    let there : IsSome (nth inside.all.items c.args.file) = subst (λ (fs : Files). IsThere fs c.args.file) (sym c.self.view_is) c.requires.there in
    let slot = nth-get_or inside.all.items c.args.file c.index_mut.result.now there c.index_mut.ensures.value in
    OnErr-map c.write.result _ _ (λ same. same-put _ inside.all.items inside.names c.args.file c.in-Some.content c.write.new.self c.self.view_is (slot ∙ c.in-Some.is) same) c.write.ensures.err
