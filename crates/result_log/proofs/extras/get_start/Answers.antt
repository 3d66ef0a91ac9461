use Rattle.std.proofs.Common.{rules, ◌<◌, ◌∷◌, subst, sym}
use Rattle.std.proofs.lemmas.List.Elements.{All-from_get_or}
use Rattle.arn_base.specs.declared.records.Extra.TheVariants as did
use Rattle.arn_base.specs.declared.records.Start.{Start}
use Rattle.result_log.specs.Pieces.{StartsExtra}
use Rattle.result_log.proofs.Options.{OnErr-always}
use Rattle.result_log.proofs.Blocks.{no-start, start-starts, start_stands}
use Rattle.result_log.proofs.extras.get_start.Goals as goal

pub returns-in_default-clause-ok : goal.returns-in_default-clause-ok
returns-in_default-clause-ok c = no-start c.args.bytes.now (search rules)

pub returns-in_err-blocks-clause-err : goal.returns-in_err-blocks-clause-err
returns-in_err-blocks-clause-err c =
    let p = c.in-Some.parts in
    OnErr-always c.from_residual.result
    (start_stands c.fields_spelled_one_way.ensures.two c.args.bytes.now p.cpu p.slot p.blocks.now p.rest.now
    (All-from_get_or (λ b. b < 256) c.args.bytes.now 0 (λ k _. (c.type_inv.bytes k).fits)) (search rules))

pub returns-in_err-start-clause-err : goal.returns-in_err-start-clause-err
returns-in_err-start-clause-err c =
    let p = c.in-Some.parts in
    OnErr-always c.from_residual-in_err-start.result
    (start_stands c.fields_spelled_one_way.ensures.two c.args.bytes.now p.cpu p.slot p.blocks.now p.rest.now
    (All-from_get_or (λ b. b < 256) c.args.bytes.now 0 (λ k _. (c.type_inv.bytes k).fits)) (search rules))

pub returns-clause-ok : goal.returns-clause-ok
returns-clause-ok c =
    let p = c.in-Some.parts in
    subst (λ (s : Start). StartsExtra (2 ∷ c.args.bytes.now) (did.Start s) p.rest.now) (sym c.in_ok-start.ensures)
    (start-starts c.args.bytes.now p.cpu p.slot p.blocks.now p.rest.now c.in_ok-blocks.blocks (search rules) (search rules) (search rules))
