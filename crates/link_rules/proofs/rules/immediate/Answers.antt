use Rattle.std.proofs.Common.{◌≡◌, sym, ap, ◌∙◌, true, w64}
use Rattle.std.proofs.lemmas.Int.{to_z-of_z}
use Rattle.link_rules.specs.Listed.{is_move}
use Rattle.link_rules.proofs.Tables.{move-one}
use Rattle.link_rules.proofs.rules.immediate.Goals as goal

pub returns-then-is_move : goal.returns-then-is_move
returns-then-is_move c =
    let passed = ap (is_move c.args.op) (to_z-of_z w64 c.args.imm c.ranges.imm) in
    let moves : is_move c.args.op c.args.imm ≡ true = sym passed ∙ sym c.is_move.ensures ∙ c.if-is_move.true in
    move-one c.args.linkage c.args.op c.args.imm c.args.byte c.bit.result c.requires c.bit.ensures moves
