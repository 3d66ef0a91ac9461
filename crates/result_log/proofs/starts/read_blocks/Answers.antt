use Rattle.std.proofs.Common.{rules, ◌≡◌, ℕ, ◌%◌, List, [], ◌∷◌, ◌++◌, length, flat_map, sym, ap, subst, ◌∙◌, append_assoc, length-append, arith}
use Rattle.std.proofs.lemmas.Grind.{flat_map-append}
use Rattle.std.specs.List.{All}
use Rattle.std.proofs.lemmas.List.{append-nil}
use Rattle.std.proofs.lemmas.List.Elements.{All-push}
use Rattle.arn_base.specs.declared.machine.Block.{Block}
use Rattle.schedule_log.specs.Fields.{field}
use Rattle.result_log.specs.States.{block_fields, FitsBlock}
use Rattle.result_log.proofs.starts.read_blocks.Goals as goal

-- one block more was read, and its fields are behind
read_more : (before after : List Block) (o : Block) (left rest fields : List ℕ)
    → flat_map block_fields before ++ left ≡ fields → after ≡ before ++ o ∷ [] → left ≡ block_fields o ++ rest
    → flat_map block_fields after ++ rest ≡ fields
read_more before after o left rest fields read is_after is_left =
    let one : flat_map block_fields (o ∷ []) ≡ block_fields o = append-nil (block_fields o) in
    let all = ap (flat_map block_fields) is_after ∙ flat_map-append block_fields before (o ∷ []) ∙ ap (λ xs. flat_map block_fields before ++ xs) one in
    ap (λ xs. xs ++ rest) all ∙ append_assoc (flat_map block_fields before) (block_fields o) rest
    ∙ ap (λ xs. flat_map block_fields before ++ xs) (sym is_left) ∙ read

still_whole : (o : Block) (left rest : List ℕ) → FitsBlock o → length left % 258 ≡ 0 → left ≡ block_fields o ++ rest → length rest % 258 ≡ 0
still_whole o left rest fits whole is_left =
    let long : length left ≡ length (block_fields o ++ rest) = ap (λ (xs : List ℕ). length xs) is_left in
    omega (arith, long, whole, fits.1, length-append (block_fields o) rest, length-append (field 2 o.number) o.bytes)

more_fit : (before after : List Block) (o : Block) → All FitsBlock before → FitsBlock o → after ≡ before ++ o ∷ [] → All FitsBlock after
more_fit before after o fit fits is_after =
    subst (All FitsBlock) (sym is_after) (All-push FitsBlock before o fit fits)

pub loop-block-preserved : goal.loop-block-preserved
loop-block-preserved c =
    let is_left : c.loop-block.left.now ≡ block_fields c.in-Some.block ++ c.in-Some.rest.now = search rules in
    record {
      read = read_more c.loop-block.blocks c.push.new.self c.in-Some.block c.loop-block.left.now c.in-Some.rest.now c.args.fields.now
          c.loop-block.invariant.read c.in_ok-push.ensures.ok is_left;
      fits = more_fit c.loop-block.blocks c.push.new.self c.in-Some.block c.loop-block.invariant.fits (search rules) c.in_ok-push.ensures.ok;
      whole = still_whole c.in-Some.block c.loop-block.left.now c.in-Some.rest.now (search rules) c.loop-block.invariant.whole is_left;
    }
